-- The hub's record and store that show what is known at a moment, and a step of theirs: what one connector or relay becomes.
use Prim.Native.Nat.{ℕ, zero, suc, ◌+◌, ◌*◌, ◌≤◌, ◌<◌}
use mathlib.Core.Path.{◌≡◌, refl, sym, ap, ◌∙◌, subst}
use mathlib.Core.Bool.{cond}
use mathlib.Core.List.{List, ◌++◌, map}
use native.Mathlib.Omega.{arith}
use lib.Dec.{eqb}
use lib.ListN.{length, get_or, set}
use lib.Seq.{set-get_or}
use borrow.Author.Tests.{eq-eqb, eqb-true}
use Rattle.std.proofs.Common.{Option, Some, None}
use Rattle.laws.specs.Put.{over}
use Rattle.laws.specs.Lists.{up_from, gathered}
use Rattle.laws.proofs.Choice.{not_both, cond_case}
use Rattle.laws.proofs.Put.{over_length}
use Rattle.laws.proofs.Slots.{made_in, made_alike, made_set}
use Rattle.laws.proofs.Parts.{part_here, part_elsewhere}
use Rattle.words.specs.Places.{connectors, relays}
use Rattle.meaning.specs.Log.{until}
use Rattle.request.specs.declared.mode.Mode.TheVariants.{Ir}
use Rattle.connector.specs.declared.Connector.{Connector}
use Rattle.connector.specs.declared.Answer.{Answer}
use Rattle.connector.specs.declared.Stepped.{Stepped}
use Rattle.connector.specs.Record.{fresh_connector, changed}
use Rattle.steps.specs.Step.{Made}
use Rattle.hub.specs.declared.Hub.{Hub}
use Rattle.hub.specs.declared.HubChange.TheVariants as change
use Rattle.hub.specs.Record.{slots, connector_at, relay_at, with_relay, part_size, kept_at, applied}
use Rattle.hub.specs.Line.{Outcome, deciding, leaving, change_in, placed, connector_step}
use Rattle.shown.proofs.Known.{Known, changed_at}
use Rattle.shown.proofs.Shown.{shown, HeldIn}
use Rattle.history.proofs.Stepping.{Steps, StepMeans}

-- ---- a list with an element for each slot

-- two that agree in each slot
pub each_slot : {A : Type 0} (f g : ℕ → A) → ((slot : ℕ) → slot < connectors → f slot ≡ g slot) → map f slots ≡ map g slots
each_slot f g same = made_alike f g 0 connectors (λ i h. same (0 + i) (omega arith))

-- what each slot gives, one after the other, where each port gives the same
pub each_gathered : {A : Type 0} (f g : ℕ → List A) (from n : ℕ) → ((i : ℕ) → i < from + n → f i ≡ g (suc i))
    → gathered f (up_from from n) ≡ gathered g (up_from (suc from) n)
each_gathered f g from zero same = refl
each_gathered {A} f g from (suc n) same =
    ap (λ (l : List A). l ++ gathered f (up_from (suc from) n)) (same from (omega arith))
    ∙ ap (λ (l : List A). g (suc from) ++ l) (each_gathered f g (suc from) n (λ i h. same i (omega arith)))

-- one of them set, where the others stay
set_shown : {A B : Type 0} (show : A → B) (K : ℕ → A) (g : A → A) (n slot : ℕ) (v : B) → v ≡ show (g (K (suc slot)))
    → set (map (λ j. show (K (suc j))) (up_from 0 n)) slot v ≡ map (λ j. show (changed_at (suc slot) g K (suc j))) (up_from 0 n)
set_shown {A} {B} show K g n slot v e =
    made_set (λ j. show (K (suc j))) n slot v
    ∙ made_alike (λ j. cond (eqb j slot) v (show (K (suc j)))) (λ j. show (changed_at (suc slot) g K (suc j))) 0 n (λ i h. one (0 + i))
  where
    one : (j : ℕ) → cond (eqb j slot) v (show (K (suc j))) ≡ show (changed_at (suc slot) g K (suc j))
    one j =
        cond_case (λ (b : B). b ≡ show (changed_at (suc slot) g K (suc j))) (eqb j slot) v (show (K (suc j)))
        (λ s.
        let same : j ≡ slot = eqb-true j slot s in
        e ∙ ap (λ (q : ℕ). show (g (K (suc q)))) (sym same)
        ∙ cond_case (λ (x : A). show (g (K (suc j))) ≡ show x) (eqb (suc slot) (suc j)) (g (K (suc j))) (K (suc j))
        (λ f. refl) (λ f. not_both (eq-eqb (suc slot) (suc j) (omega arith)) f))
        (λ s.
        cond_case (λ (x : A). show (K (suc j)) ≡ show x) (eqb (suc slot) (suc j)) (g (K (suc j))) (K (suc j))
        (λ f. not_both (eq-eqb j slot (omega (arith, eqb-true (suc slot) (suc j) f))) s) (λ f. refl))

-- ---- the hub that shows it
-- each connector in its slot shows what is known of its port
abbrev pub hub_of : ℕ → (ℕ → Known) → (ℕ → ℕ) → Hub
hub_of t K R =
    record { connectors = map (λ slot. shown t (K (suc slot))) slots; relays = map (λ slot. R (suc slot)) (up_from 0 relays) }

-- the store holds the counts of what is on air
pub record Stored (store : List ℕ) (t : ℕ) (K : ℕ → Known) : Type 0 where
  pub size : length store ≡ connectors * part_size
  pub held : (slot : ℕ) → slot < connectors → HeldIn (kept_at store slot) (until t (K (suc slot)).sending)

-- a step of the hub: its answer, and the hub and the store after it
pub record Means (t : ℕ) (before : Hub) (a : Answer) (K : ℕ → Known) (R : ℕ → ℕ) (o : Outcome) : Type 0 where
  pub said : o.decided.answer ≡ a
  pub hub : applied before o.decided.change ≡ hub_of t K R
  pub stored : Stored o.store t K

-- an answer that changes nothing
pub unmoved : {t : ℕ} {K : ℕ → Known} {R : ℕ → ℕ} {store : List ℕ} → Stored store t K → (a : Answer)
    → Means t (hub_of t K R) a K R (leaving (deciding a change.Nothing) store)
unmoved st a = record { said = refl; hub = refl; stored = st }

-- the hub depends on what is known port by port
pub hub_alike : (t : ℕ) (K L : ℕ → Known) {R S : ℕ → ℕ} → ((slot : ℕ) → slot < connectors → K (suc slot) ≡ L (suc slot))
    → ((p : ℕ) → R p ≡ S p) → hub_of t K R ≡ hub_of t L S
hub_alike t K L e f =
    λ i. record {
      connectors = each_slot (λ slot. shown t (K (suc slot))) (λ slot. shown t (L (suc slot))) (λ slot h. ap (shown t) (e slot h)) i;
      relays = map (λ slot. f (suc slot) i) (up_from 0 relays);
    }

-- so does the store
pub stored_alike : {store : List ℕ} {t : ℕ} {K L : ℕ → Known} → ((slot : ℕ) → slot < connectors → K (suc slot) ≡ L (suc slot))
    → Stored store t K → Stored store t L
stored_alike {store} {t} e st =
    record {
      size = st.size;
      held = λ slot h. subst (λ (x : Known). HeldIn (kept_at store slot) (until t x.sending)) (e slot h) (st.held slot h);
    }

-- so does a step
pub means_alike : {t : ℕ} {before : Hub} {a : Answer} {K L : ℕ → Known} {R S : ℕ → ℕ} {o : Outcome}
    → ((slot : ℕ) → slot < connectors → K (suc slot) ≡ L (suc slot)) → ((p : ℕ) → R p ≡ S p) → Means t before a K R o
    → Means t before a L S o
means_alike {t} {K = K} {L = L} e f m = record { said = m.said; hub = m.hub ∙ hub_alike t K L e f; stored = stored_alike e m.stored }

module _ (t : ℕ) (K : ℕ → Known) (R : ℕ → ℕ) where
  -- what stands in a slot
  pub connector_at_law : (slot : ℕ) → slot < connectors → connector_at (hub_of t K R) slot ≡ shown t (K (suc slot))
  connector_at_law slot h = made_in (λ j. shown t (K (suc j))) connectors slot (fresh_connector Ir) h

  -- the same of relays
  pub relay_at_law : (slot : ℕ) → slot < relays → relay_at (hub_of t K R) slot ≡ R (suc slot)
  relay_at_law slot h = made_in (λ j. R (suc j)) relays slot 0 h

  -- a relay switched
  pub switched_hub : (g : ℕ → ℕ) (slot next : ℕ) → next ≡ g (R (suc slot))
      → with_relay (hub_of t K R) slot next ≡ hub_of t K (changed_at (suc slot) g R)
  switched_hub g slot next e =
      ap (λ (l : List ℕ). record { connectors = map (λ j. shown t (K (suc j))) slots; relays = l })
      (set_shown (λ (state : ℕ). state) R g relays slot next e)

  -- a connector's step in its slot
  module _ (g : Known → Known) (slot : ℕ) (within : slot < connectors) where
    -- what is known of it
    abbrev x : Known
    x = K (suc slot)

    -- the connectors as they are shown
    abbrev shown_all : List Connector
    shown_all = map (λ j. shown t (K (suc j))) slots

    -- one of them set
    put : (c : Connector) → c ≡ shown t (g x) → set shown_all slot c ≡ map (λ j. shown t (changed_at (suc slot) g K (suc j))) slots
    put c e = set_shown (shown t) K g connectors slot c e

    -- a hub of these connectors
    abbrev relayed : List Connector → Hub
    relayed l = record { connectors = l; relays = map (λ j. R (suc j)) (up_from 0 relays) }

    -- its change applied to the hub
    changed_hub : (ch : Option Connector) → changed (shown t x) ch ≡ shown t (g x)
        → applied (hub_of t K R) (change_in slot ch) ≡ hub_of t (changed_at (suc slot) g K) R
    changed_hub None e =
        ap relayed
        (sym (set-get_or shown_all slot (fresh_connector Ir)) ∙ put (get_or shown_all slot (fresh_connector Ir)) (connector_at_law slot within ∙ e))
    changed_hub (Some c) e = ap relayed (put c e)

    -- the counts in the other slots stay
    changed_held : (store : List ℕ) → HeldIn (kept_at store slot) (until t (g x).sending)
        → ((other : ℕ) → other < connectors → (other ≡ slot → ⊥) → HeldIn (kept_at store other) (until t (K (suc other)).sending))
        → (other : ℕ) → other < connectors → HeldIn (kept_at store other) (until t (changed_at (suc slot) g K (suc other)).sending)
    changed_held store here others other h =
        cond_case (λ (y : Known). HeldIn (kept_at store other) (until t y.sending)) (eqb (suc slot) (suc other)) (g (K (suc other))) (K (suc other))
        (λ e.
        let same : slot ≡ other = omega (arith, eqb-true (suc slot) (suc other) e) in
        subst (λ (q : ℕ). HeldIn (kept_at store q) (until t (g (K (suc q))).sending)) same here)
        (λ e. others other h (λ same. not_both (eq-eqb (suc slot) (suc other) (omega arith)) e))

    module _ (store : List ℕ) (st : Stored store t K) where
      -- with the store as it was
      pub keep_at : {a : Answer} {s : Stepped} → Steps t a x (g x) s → HeldIn (kept_at store slot) (until t (g x).sending)
          → Means t (hub_of t K R) a (changed_at (suc slot) g K) R (leaving (placed slot s) store)
      keep_at {s = s} m here =
          record {
            said = m.said;
            hub = changed_hub s.change m.becomes;
            stored = record { size = st.size; held = changed_held store here (λ other h d. st.held other h) };
          }

      -- with the counts that it keeps then in its part of the store
      pub put_at : {a : Answer} {made : Made} → StepMeans t a x (g x) made
          → Means t (hub_of t K R) a (changed_at (suc slot) g K) R (connector_step store slot made)
      put_at {made = made} m =
          let fits : slot * part_size + part_size ≤ length store = omega (arith, st.size) in
          record {
            said = m.steps.said;
            hub = changed_hub made.stepped.change m.steps.becomes;
            stored = record {
              size = over_length store (slot * part_size) made.kept (omega (arith, m.long)) ∙ st.size;
              held = changed_held (over store (slot * part_size) made.kept)
                  (rw (part_here part_size store slot made.kept m.long fits) m.held)
                  (λ other h d. rw (part_elsewhere part_size store slot made.kept m.long fits other d) (st.held other h));
            };
          }
