-- The contact: unread after a change of mode; the present mode again changes nothing; 028 while it is unread, and else the last reading.
use Prim.Native.Nat.{ℕ}
use mathlib.Core.Path.{◌≡◌, refl, ap}
use mathlib.Core.Bool.{true, false, not}
use Rattle.std.proofs.Common.{Option, Some, None}
use Rattle.laws.proofs.Choice.{cond_case}
use Rattle.request.specs.declared.mode.Mode.{Mode}
use Rattle.request.specs.declared.mode.Mode.TheVariants.{Sensor}
use Rattle.request.specs.declared.Place.{Place}
use Rattle.request.specs.Mode.{is_sensor}
use Rattle.reply.specs.declared.Reply.TheVariants.{State}
use Rattle.connector.specs.declared.Owner.TheVariants.{Nobody}
use Rattle.connector.specs.declared.Connector.{Connector}
use Rattle.connector.specs.declared.Answer.TheVariants.{Reply}
use Rattle.connector.specs.declared.Stepped.{Stepped}
use Rattle.connector.specs.Change.{same_mode, with_mode}
use Rattle.connector.specs.Record.{unread, fresh_connector}
use Rattle.steps.specs.Step.{says, fails, contact_says, get_contact}

-- "every contact unread"
pub fresh_unread : (mode : Mode) → (fresh_connector mode).contact ≡ unread
fresh_unread mode = refl

module _ (c : Connector) where
  -- "a change of mode makes the contact unread"
  pub mode_unread : (m : Mode) → same_mode c.mode m ≡ false → (with_mode c m).contact ≡ unread
  unfolding with_mode
  mode_unread m e = rw e

  -- "the present mode again changes nothing"
  pub mode_again : (m : Mode) → same_mode c.mode m ≡ true → with_mode c m ≡ c
  unfolding with_mode
  mode_again m e = rw e

  -- 028 "getstate on an unread contact"
  pub unread_028 : (place : Place) → c.mode ≡ Sensor → c.contact ≡ unread → get_contact c place ≡ fails 28 place
  unfolding get_contact
  unread_028 place sensor e = rw (sensor, e)

  -- a state that is answered is "the last reading"
  pub state_is_reading : (place : Place) (v : ℕ) → get_contact c place ≡ says (State place v) → c.contact ≡ Some v
  unfolding get_contact
  state_is_reading place v e =
      cond_case (λ (s : Stepped). s.answer ≡ Reply (State place v) Nobody → c.contact ≡ Some v)
      (not (is_sensor c.mode)) _ _ (λ _ f. cc) (λ _. go c.contact)
      (ap (λ (s : Stepped). s.answer) e)
    where
      go : (contact : Option ℕ) → (contact_says place contact).answer ≡ Reply (State place v) Nobody → contact ≡ Some v
      go None f = cc
      go (Some value) f = cc
