-- The loop of a wait over the connectors: each is as it is some microseconds later, and their completions stand in order.
use Prim.Native.Nat.{ℕ, ◌+◌, ◌≤◌, ◌<◌}
use mathlib.Core.Path.{◌≡◌, refl, sym, ap, ◌∙◌}
use mathlib.Core.List.{List, [], ◌∷◌, ◌++◌, append-nil}
use native.Mathlib.Omega.{arith}
use lib.ListN.{length, set}
use Rattle.laws.specs.Lists.{up_from, gathered}
use Rattle.laws.proofs.Slots.{up_length, gathered_more, gathered_few, turned, each_at, each_set, each_left, each_all}
use Rattle.words.specs.Places.{connectors}
use Rattle.request.specs.declared.Place.{Place}
use Rattle.request.specs.Place.{connector_in}
use Rattle.connector.specs.declared.Completion.{Completion}
use Rattle.connector.specs.declared.Connector.{Connector}
use Rattle.connector.specs.declared.pass.Passing.{Passing}
use Rattle.connector.specs.declared.pass.Passing.TheVariants.{Still, Running, Complete}
use Rattle.connector.specs.Pass.{passing, after, done_of}
use Rattle.hub.specs.declared.completions.Completions.{Completions}
use Rattle.hub.specs.declared.wait.AllPassed.{AllPassed}
use Rattle.hub.specs.Record.{in_slot}
use Rattle.hub.specs.Completions.{inserted, ordered, completions_of, put_in}
use Rattle.hub.specs.Wait.{passing_at, later, all_passed}
use Rattle.hub.proofs.Inserting.{put_in_is, ordered_more, ordered_length}

-- a connector completes one transmission at most
done_few : (p : Passing) → length (done_of p) ≤ 1
done_few Still = omega arith
done_few (Running next) = omega arith
done_few (Complete next completion) = omega arith

module _ (old : List Connector) (n : ℕ) where
  -- the connector in a slot afterwards, and its completion, if there is one
  abbrev becomes : ℕ → Connector
  becomes slot = after (in_slot old slot) (passing_at old n slot)

  abbrev tells : ℕ → List Completion
  tells slot = done_of (passing_at old n slot)

  -- the completions of the first connectors, in order
  abbrev pub told : ℕ → List Completion
  told count = ordered [] (gathered tells (up_from 0 count))

  -- so far: the first connectors are done
  pub record Waiting (all : List Connector) (completions : Completions) (slot : ℕ) : Type 0 where
    pub reached : slot ≤ connectors
    pub moved : all ≡ turned old (later old n) slot
    pub complete : completions ≡ completions_of (told slot)

  -- before the first of them
  pub waiting_starts : Waiting old (completions_of []) 0
  waiting_starts = record { reached = omega arith; moved = refl; complete = refl }

  -- no more than the connectors that are done
  told_few : (count : ℕ) → length (told count) ≤ count
  told_few count =
      let few = gathered_few tells (λ slot. done_few (passing_at old n slot)) (up_from 0 count) in
      omega (arith, ordered_length [] (gathered tells (up_from 0 count)), few, up_length 0 count)

  -- with what the next one gives
  told_more : (slot : ℕ) (new : List Completion) → tells slot ≡ new → told (slot + 1) ≡ ordered [] (gathered tells (up_from 0 slot) ++ new)
  told_more slot new e = ap (ordered []) (gathered_more tells slot ∙ ap (λ (l : List Completion). gathered tells (up_from 0 slot) ++ l) e)

  -- nothing more
  told_same : (slot : ℕ) → tells slot ≡ [] → told (slot + 1) ≡ told slot
  told_same slot e = told_more slot [] e ∙ ap (ordered []) (append-nil (gathered tells (up_from 0 slot)))

  -- one more, in its place
  told_one : (slot : ℕ) (x : Completion) → tells slot ≡ x ∷ [] → told (slot + 1) ≡ inserted x (told slot)
  told_one slot x e = told_more slot (x ∷ []) e ∙ ordered_more [] (gathered tells (up_from 0 slot)) x

  module _ (size : length old ≡ connectors) {all : List Connector} {completions : Completions} {slot : ℕ} (now : Waiting all completions slot) where
    -- at the end all are done
    pub waiting_ends : connectors ≤ slot → ◌≡◌ {A = AllPassed} (record { connectors = all; completions = completions }) (all_passed old n)
    waiting_ends h =
        let end : slot ≡ connectors = omega (arith, now.reached) in
        let moved = now.moved ∙ each_all old becomes connectors size slot h in
        let complete = now.complete ∙ ap (λ (count : ℕ). completions_of (told count)) end in
        λ i. record { connectors = moved i; completions = complete i }

    module _ (less : slot < connectors) where
      -- the connector that is looked at is the old one
      pub waiting_at : in_slot all slot ≡ in_slot old slot
      waiting_at = ap (λ (l : List Connector). in_slot l slot) now.moved ∙ each_at old becomes connectors size slot _ less

      -- what is asked of it is what becomes of it
      pub waiting_asks : {r : Passing} {place : Place} → place ≡ connector_in slot → r ≡ passing (in_slot all slot) place n → passing_at old n slot ≡ r
      waiting_asks p e = sym (rw (p, waiting_at) at e)

      -- it stays idle
      pub waiting_still : passing_at old n slot ≡ Still → Waiting all completions (slot + 1)
      waiting_still e =
          record {
            reached = omega arith;
            moved = now.moved ∙ each_left old becomes connectors size slot _ less (ap (after (in_slot old slot)) (sym e));
            complete = now.complete ∙ ap completions_of (sym (told_same slot (ap done_of e)));
          }

      -- it transmits still
      pub waiting_runs : {next : Connector} → passing_at old n slot ≡ Running next → Waiting (set all slot next) completions (slot + 1)
      waiting_runs {next} e =
          record {
            reached = omega arith;
            moved = rw now.moved (each_set old becomes connectors size slot next less (ap (after (in_slot old slot)) (sym e)));
            complete = now.complete ∙ ap completions_of (sym (told_same slot (ap done_of e)));
          }

      -- its transmission is complete
      pub waiting_done : {next : Connector} {x : Completion} → passing_at old n slot ≡ Complete next x
          → Waiting (set all slot next) (put_in completions x) (slot + 1)
      waiting_done {next} {x} e =
          record {
            reached = omega arith;
            moved = rw now.moved (each_set old becomes connectors size slot next less (ap (after (in_slot old slot)) (sym e)));
            complete =
                ap (λ (c : Completions). put_in c x) now.complete
                ∙ put_in_is (told slot) x (omega (arith, told_few slot))
                ∙ ap completions_of (sym (told_one slot x (ap done_of e)));
          }
