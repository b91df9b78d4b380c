-- What the hub answers the calls beside lines, and what it becomes, is what they make of what is known; and its carriers and levels.
use Prim.Native.Nat.{ℕ, suc, ◌+◌, ◌-◌, ◌<◌}
use mathlib.Core.Path.{◌≡◌, refl, sym, ap, ◌∙◌, subst}
use mathlib.Core.Bool.{Bool, true, false, cond, not}
use mathlib.Core.List.{List, [], ◌∷◌, map}
use mathlib.Core.Option.{Option, none, some}
use native.Mathlib.Numerals.{add-one}
use native.Mathlib.Omega.{arith}
use lib.Dec.{ltb}
use lib.ListN.{length, replicate}
use lib.Seq.{take-append_seam}
use borrow.Author.Tests.{ltb-true, ltb-false, lt-ltb, ne_eqb}
use Rattle.laws.specs.Checks.{◌⇒◌, first, holds}
use Rattle.laws.proofs.Choice.{by_test, not_both, cond_case}
use Rattle.laws.proofs.Slots.{made_next}
use Rattle.words.specs.Places.{connectors, ports}
use Rattle.request.specs.declared.Place.{Place}
use Rattle.request.specs.Mode.{is_sensor}
use Rattle.request.specs.Place.{place_of, connector_in}
use Rattle.meaning.specs.Time.{Transmission, complete, carrier}
use Rattle.meaning.specs.Lamp.{level}
use Rattle.meaning.specs.Log.{until}
use Rattle.lamp.specs.Lamp.{percent_of}
use Rattle.lamp.proofs.Meaning.{percent_shown}
use Rattle.waveform.proofs.Paced.{complete_later}
use Rattle.connector.specs.declared.Connector.{Connector}
use Rattle.connector.specs.declared.Completion.{Completion}
use Rattle.connector.specs.declared.Answer.{Answer}
use Rattle.connector.specs.declared.Answer.TheVariants as answer
use Rattle.connector.specs.Change as change
use Rattle.connector.specs.Change.{owner_left}
use Rattle.connector.specs.Carrier as carried
use Rattle.connector.specs.Pass.{passing, after, done_of}
use Rattle.connector.specs.Reading.{reading_step}
use Rattle.hub.specs.declared.Hub.{Hub}
use Rattle.hub.specs.Record.{connector_at, kept_at}
use Rattle.hub.specs.Line.{refusal, leaving, placed}
use Rattle.hub.specs.Calls.{reading_call, closed_hub, carriers_of, levels_of}
use Rattle.hub.specs.Completions.{ordered, no_completion, completions_of}
use Rattle.hub.specs.Wait.{passing_at, completed, waited_hub}
use Rattle.history.specs.Run.{listed}
use Rattle.shown.proofs.Known.{Known, with_sending, changed_at, read_as, reading_said}
use Rattle.shown.proofs.Shown.{shown, FitFor, Fits, HeldIn, lamp_shown, closed_shown, passed_shown, carrier_shown}
use Rattle.history.proofs.Stepping.{reading_steps}
use Rattle.history.proofs.Agrees.{each_slot, each_gathered, hub_of, Stored, Means, unmoved, means_alike, connector_at_law, keep_at}
use Rattle.history.proofs.Joining.{due, completions}

-- ---- what is said to them, and what they make of a connector

-- a reading is answered 104 for a port that is none
abbrev pub reading_call_said : (ℕ → Known) → ℕ → ℕ → Answer
reading_call_said K port value = first
    ((ltb port 1 ⇒ answer.Refused 104)
    ∷ (ltb connectors port ⇒ answer.Refused 104)
    ∷ []) (reading_said (K port) value)

-- a connection closed owns nothing
abbrev pub left_by : (ℕ → Known) → ℕ → ℕ → Known
left_by K connection p = with_sending (K p) (owner_left (K p).owner connection) (K p).sending

-- as many as the record counts are the list
pub listed_of : (l : List Completion) → listed (completions_of l) ≡ l
listed_of l = take-append_seam l (replicate (connectors - length l) no_completion)

-- the place of a slot's connector
slot_place : (slot : ℕ) → slot < connectors → connector_in slot ≡ place_of 1 (suc slot)
slot_place slot h =
    let inside : ltb slot connectors ≡ true = lt-ltb slot connectors h in
    rw (inside, add-one)

module _ (t : ℕ) (K : ℕ → Known) (R : ℕ → ℕ) (fit : (p : ℕ) → Fits t (K p)) where
  -- the hub that shows what is known
  abbrev hub : Hub
  hub = hub_of t K R

  -- ---- a wait
  -- the hub after a wait shows the same later
  pub wait_passes : (n : ℕ) → waited_hub hub n ≡ hub_of (t + n) K R
  wait_passes n =
      ap (λ (l : List Connector). record { connectors = l; relays = hub.relays })
      (each_slot (λ slot. after (connector_at hub slot) (passing_at hub.connectors n slot)) (λ slot. shown (t + n) (K (suc slot)))
      (λ slot h.
      ap (λ (c : Connector). after c (passing c (connector_in slot) n)) (connector_at_law t K R slot h)
      ∙ (passed_shown t n (connector_in slot) (K (suc slot)) (fit (suc slot))).0))

  -- what a slot completes is what its port is due
  slot_due : (n slot : ℕ) → slot < connectors → done_of (passing_at hub.connectors n slot) ≡ due t K n (suc slot)
  slot_due n slot h =
      ap (λ (c : Connector). done_of (passing c (connector_in slot) n)) (connector_at_law t K R slot h)
      ∙ ap (λ (place : Place). done_of (passing (shown t (K (suc slot))) place n)) (slot_place slot h)
      ∙ (passed_shown t n (place_of 1 (suc slot)) (K (suc slot)) (fit (suc slot))).1

  -- the completions of a wait are those due
  pub wait_completes : (n : ℕ) → listed (completions_of (completed hub.connectors n)) ≡ completions t K n
  wait_completes n =
      listed_of (completed hub.connectors n)
      ∙ ap (ordered [])
      (each_gathered (λ slot. done_of (passing_at hub.connectors n slot)) (due t K n) 0 connectors
      (λ slot h. slot_due n slot (omega arith)))

  -- ---- the levels
  -- the hub's levels are those of the lamps
  pub levels_shown : levels_of hub ≡ map (λ p. level (K p).lamp t) ports
  levels_shown =
      each_slot (λ slot. percent_of (connector_at hub slot).lamp) (λ slot. level (K (suc slot)).lamp t)
      (λ slot h.
      ap (λ (c : Connector). percent_of c.lamp) (connector_at_law t K R slot h)
      ∙ ap percent_of (lamp_shown t (K (suc slot))) ∙ percent_shown (K (suc slot)).lamp t)
      ∙ sym (made_next (λ p. level (K p).lamp t) 0 connectors)

  module _ (store : List ℕ) (st : Stored store t K) where
    -- what is kept stays kept while it is on air
    held_later : (kept : List ℕ) (n : ℕ) (o : Option Transmission) → FitFor t o → HeldIn kept (until t o) → HeldIn kept (until (t + n) o)
    held_later kept n none g k = tt
    held_later kept n (some s) g k = by (complete s t) refl (complete s (t + n)) refl k
      where
        by : (u : Bool) → complete s t ≡ u → (v : Bool) → complete s (t + n) ≡ v
            → HeldIn kept (cond u none (some s)) → HeldIn kept (cond v none (some s))
        by u d true e k = tt
        by true d false e k = not_both (complete_later g n d) e
        by false d false e k = k

    -- so of the whole store
    pub stored_later : (n : ℕ) → Stored store (t + n) K
    stored_later n =
        record {
          size = st.size;
          held = λ slot h. held_later (kept_at store slot) n (K (suc slot)).sending (fit (suc slot)).sends (st.held slot h);
        }

    -- ---- a closing
    -- the hub after a closing
    pub closed_means : (connection : ℕ) → closed_hub hub connection ≡ hub_of t (left_by K connection) R
    closed_means connection =
        ap (λ (l : List Connector). record { connectors = l; relays = hub.relays })
        (each_slot (λ slot. change.disowned (connector_at hub slot) connection) (λ slot. shown t (left_by K connection (suc slot)))
        (λ slot h.
        ap (λ (c : Connector). change.disowned c connection) (connector_at_law t K R slot h) ∙ sym (closed_shown t connection (K (suc slot)))))

    -- a closing keeps the counts
    pub closed_stored : (connection : ℕ) → Stored store t (left_by K connection)
    closed_stored connection = record { size = st.size; held = st.held }

    -- ---- a reading
    -- a reading keeps the counts
    reading_held : (value : ℕ) (kept : List ℕ) (x : Known) → HeldIn kept (until t x.sending) → HeldIn kept (until t (read_as x value).sending)
    reading_held value kept x h =
        cond_case (λ (y : Known). HeldIn kept (until t y.sending)) (not (is_sensor x.mode)) _ _ (λ e. h)
        (λ e. cond_case (λ (y : Known). HeldIn kept (until t y.sending)) (ltb 1 value) _ _ (λ f. h) (λ f. h))

    -- a reading of the connector in a slot
    slot_reads : (value slot : ℕ) → slot < connectors
        → Means t hub (reading_said (K (suc slot)) value) (changed_at (suc slot) (λ x. read_as x value) K) R
        (leaving (placed slot (reading_step (connector_at hub slot) value)) store)
    slot_reads value slot h =
        rw (connector_at_law t K R slot h)
        (keep_at t K R (λ x. read_as x value) slot h store st (reading_steps t (K (suc slot)) value)
        (reading_held value (kept_at store slot) (K (suc slot)) (st.held slot h)))

    -- a port that is none
    no_port : (port value : ℕ) → ((slot : ℕ) → slot < connectors → port ≡ suc slot → ⊥)
        → Means t hub (answer.Refused 104) (changed_at port (λ x. read_as x value) K) R (leaving (refusal 104) store)
    no_port port value none-such =
        means_alike (λ slot h. rw (ne_eqb port (suc slot) (none-such slot h))) (λ p. refl) (unmoved st (answer.Refused 104))

    -- a reading of any port
    pub reading_means : (port value : ℕ)
        → Means t hub (reading_call_said K port value) (changed_at port (λ x. read_as x value) K) R (leaving (reading_call hub port value) store)
    unfolding reading_call
    reading_means port value =
        by_test (ltb port 1)
        (λ e. rw e (no_port port value (λ slot h same. omega (arith, ltb-true port 1 e))))
        (λ e. by_test (ltb connectors port)
        (λ f. rw (e, f) (no_port port value (λ slot h same. omega (arith, ltb-true connectors port f))))
        (λ f. rw (e, f)
        (let named : suc (port - 1) ≡ port = omega (arith, ltb-false port 1 e) in
        subst (λ (p : ℕ). Means t hub (reading_said (K p) value) (changed_at p (λ x. read_as x value) K) R
        (leaving (placed (port - 1) (reading_step (connector_at hub (port - 1)) value)) store)) named
        (slot_reads value (port - 1) (omega (arith, ltb-false port 1 e, ltb-false connectors port f))))))

    -- ---- the carriers
    -- the hub's carriers are those of what is on air
    pub carriers_shown : carriers_of hub store ≡ map (λ p. holds (λ s. carrier s t) (until t (K p).sending)) ports
    carriers_shown =
        each_slot (λ slot. carried.carrier_of (kept_at store slot) (connector_at hub slot).sending) (λ slot. holds (λ s. carrier s t) (until t (K (suc slot)).sending))
        (λ slot h.
        ap (λ (c : Connector). carried.carrier_of (kept_at store slot) c.sending) (connector_at_law t K R slot h)
        ∙ carrier_shown (kept_at store slot) t (K (suc slot)) (fit (suc slot)).sends (st.held slot h))
        ∙ sym (made_next (λ p. holds (λ s. carrier s t) (until t (K p).sending)) 0 connectors)
