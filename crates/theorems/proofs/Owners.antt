-- "A later connection of that number owns nothing of them": after any later deeds and calls a closed connection owns only what it has
-- started anew.
use Prim.Native.Nat.{ℕ, ◌≤◌}
use mathlib.Core.Path.{◌≡◌, refl, sym, ap, ◌∙◌}
use mathlib.Core.Bool.{cond}
use mathlib.Core.List.{List, [], ◌∷◌, ◌++◌, append-nil}
use mathlib.Core.Logic.{◌⊎◌, inl, inr, ⊎_elim}
use mathlib.Core.Option.{Option, none, some}
use borrow.Author.Tests.{eq-eqb, eqb-true, le-ltb}
use lib.Dec.{eqb}
use Rattle.laws.proofs.Choice.{clash, by_test, not_both}
use Rattle.words.specs.declared.Pair.{Pair}
use Rattle.words.specs.declared.Fields.{Fields}
use Rattle.meaning.specs.Log.{Deed, passed, setting, switched, event, started, renewed, halted, left, is_owner, owner_of, on_air}
use Rattle.meaning.specs.Table.{Call, line, closing, judge, deeds_of, log_of}
use Rattle.theorems.specs.Deeds.{Did, nothing, changes, reads, lights, switches, starts, renews, halts, leaves, passes}
use Rattle.theorems.specs.Owners.{StartedBy, StartedAfter}
use Rattle.theorems.proofs.Deeds.{did}

nobody : {A : Type 0} {c : ℕ} → none ≡ some c → A
nobody e = clash (cc)

-- "starts with the sender as owner"
pub sender_owns : (log : List Deed) (p c : ℕ) (f : Fields) (ps : List Pair) → owner_of p (event (started p c f ps) ∷ log) ≡ some c
sender_owns log p c f ps = rw (eq-eqb p p refl)

-- "its transmissions run on with no owner"
pub runs_on_unowned : (log : List Deed) (p c : ℕ) → owner_of p log ≡ some c
    → (on_air p (event (left c) ∷ log) ≡ on_air p log) × (owner_of p (event (left c) ∷ log) ≡ none)
unfolding on_air
runs_on_unowned log p c e = (refl, rw (e, eq-eqb c c refl))

-- a connection that left owns nothing
pub leaver_owns_not : (log : List Deed) (p c : ℕ) → owner_of p (event (left c) ∷ log) ≡ some c → ⊥
leaver_owns_not log p c e = go (owner_of p log) e
  where
    go : (o : Option ℕ) → cond (is_owner c o) none o ≡ some c → ⊥
    go none e = nobody e
    go (some b) e =
        by_test (eqb b c)
        (λ t. nobody (rw t at e))
        (λ t. let f : some b ≡ some c = rw t at e in let g : b ≡ c = cc in not_both (eq-eqb b c g) t)

-- ---- an owner over later deeds: it started there, or owned before
module _ (p c : ℕ) where
  more : (d : Deed) {ds : List Deed} → StartedBy c p ds → StartedBy c p (d ∷ ds)
  more d s =
      record {
        fields = s.fields;
        pairs = s.pairs;
        later = d ∷ s.later;
        earlier = s.earlier;
        splits = ap (λ (l : List Deed). d ∷ l) s.splits;
      }

  abbrev Since : List Deed → List Deed → Type 0
  Since ds log = StartedBy c p ds ⊎ (owner_of p log ≡ some c)

  later_too : (d : Deed) (ds log : List Deed) → Since ds log → Since (d ∷ ds) log
  later_too d ds log (inl s) = inl (more d s)
  later_too d ds log (inr e) = inr e

  owner_since : (ds log : List Deed) → owner_of p (ds ++ log) ≡ some c → Since ds log
  owner_since [] log e = inr e
  owner_since (passed n ∷ ds) log e = later_too _ ds log (owner_since ds log e)
  owner_since (setting q x ∷ ds) log e = later_too _ ds log (owner_since ds log e)
  owner_since (switched q x ∷ ds) log e = later_too _ ds log (owner_since ds log e)
  owner_since (event (started q b f ps) ∷ ds) log e =
      by_test (eqb q p)
      (λ t.
      let same : some b ≡ some c = rw t at e in
      let g : q ≡ p = eqb-true q p t in
      let k : b ≡ c = cc in
      inl (record { fields = f; pairs = ps; later = []; earlier = ds; splits = rw (g, k) }))
      (λ t. later_too _ ds log (owner_since ds log (rw t at e)))
  owner_since (event (renewed q) ∷ ds) log e = later_too _ ds log (owner_since ds log e)
  owner_since (event (halted q) ∷ ds) log e =
      by_test (eqb q p) (λ t. nobody (rw t at e)) (λ t. later_too _ ds log (owner_since ds log (rw t at e)))
  owner_since (event (left b) ∷ ds) log e =
      by_test (is_owner b (owner_of p (ds ++ log))) (λ t. nobody (rw t at e)) (λ t. later_too _ ds log (owner_since ds log (rw t at e)))

  -- whoever owns what connector p has, started it
  pub owner_is_a_starter : (log : List Deed) → owner_of p log ≡ some c → StartedBy c p log
  owner_is_a_starter log e = go (owner_since log [] (rw append-nil e))
    where
      go : Since log [] → StartedBy c p log
      go (inl s) = s
      go (inr n) = nobody n

  -- whatever is done after a connection left: if it owns what connector p has, then it has started that anew
  pub closed_owns_nothing : (ds log : List Deed) → owner_of p (ds ++ (event (left c) ∷ log)) ≡ some c → StartedBy c p ds
  closed_owns_nothing ds log e = ⊎_elim (λ s. s) (λ o. absurd (leaver_owns_not log p c o)) (owner_since ds (event (left c) ∷ log) e)

  -- ---- the same over calls
  module _ (h : List Call) where
    abbrev After : List Call → Type 0
    After calls = StartedAfter h c p calls ⊎ (owner_of p (log_of h) ≡ some c)

    after_too : (call : Call) (calls : List Call) → After calls → After (call ∷ calls)
    after_too call calls (inl s) =
        inl
        (record {
          room = s.room;
          text = s.text;
          fields = s.fields;
          pairs = s.pairs;
          later = call ∷ s.later;
          earlier = s.earlier;
          splits = ap (λ (l : List Call). call ∷ l) s.splits;
          starts = s.starts;
        })
    after_too call calls (inr e) = inr e

    owner_after : (calls : List Call) → owner_of p (log_of (calls ++ h)) ≡ some c → After calls
    owner_after [] e = inr e
    owner_after (call ∷ calls) e = go _ refl (did (log_of (calls ++ h)) call) e (owner_after calls)
      where
        go : (ds : List Deed) → deeds_of (judge (log_of (calls ++ h)) call) ≡ ds → Did (log_of (calls ++ h)) call ds
            → owner_of p (ds ++ log_of (calls ++ h)) ≡ some c → (owner_of p (log_of (calls ++ h)) ≡ some c → After calls) → After (call ∷ calls)
        go ds q nothing e ih = after_too call calls (ih e)
        go ds q (changes r b word _ _ _ _ _) e ih = after_too call calls (ih e)
        go ds q (reads r v _ _ _ _) e ih = after_too call calls (ih e)
        go ds q (lights r b target ramp _ _ _ _ _ _) e ih = after_too call calls (ih e)
        go ds q (switches r b v _ _ _) e ih = after_too call calls (ih e)
        go ds q (starts r b f ps by _ _ _ _) e ih =
            by_test (eqb r p)
            (λ t.
            let same : some b ≡ some c = rw t at e in
            let g : r ≡ p = eqb-true r p t in
            let k : b ≡ c = cc in
            let l : call ≡ line c by.room by.text = by.is ∙ ap (λ n. line n by.room by.text) k in
            inl
            (record {
              room = by.room;
              text = by.text;
              fields = f;
              pairs = ps;
              later = [];
              earlier = calls;
              splits = rw l;
              starts = ap (λ (k : Call). deeds_of (judge (log_of (calls ++ h)) k)) (sym l) ∙ q ∙ rw (g, k);
            }))
            (λ t. after_too call calls (ih (rw t at e)))
        go ds q (renews r b s _ _ _ _ _) e ih = after_too call calls (ih e)
        go ds q (halts r b _ _ _) e ih = by_test (eqb r p) (λ t. nobody (rw t at e)) (λ t. after_too call calls (ih (rw t at e)))
        go ds q (leaves b _ _) e ih =
            by_test (is_owner b (owner_of p (log_of (calls ++ h)))) (λ t. nobody (rw t at e)) (λ t. after_too call calls (ih (rw t at e)))
        go ds q (passes n _ _) e ih = after_too call calls (ih e)

  -- whatever calls follow a closing: if that connection number owns what connector p has, a later line of it has started that
  pub closed_connection_owns_nothing : (h calls : List Call) → c ≤ 7 → owner_of p (log_of (calls ++ (closing c ∷ h))) ≡ some c
      → StartedAfter (closing c ∷ h) c p calls
  closed_connection_owns_nothing h calls small e =
      ⊎_elim (λ s. s) (λ o. absurd (leaver_owns_not (log_of h) p c (rw (le-ltb 7 c small) at o))) (owner_after (closing c ∷ h) calls e)
