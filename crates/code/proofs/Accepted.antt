-- What is accepted is within the limits: 1 to 260 pairs, each count legal.
use Prim.Native.Nat.{ℕ, zero, suc, ◌+◌, ◌≤◌}
use mathlib.Core.Path.{◌≡◌, refl, subst}
use mathlib.Core.Bool.{true}
use mathlib.Core.List.{List, [], ◌∷◌, ◌++◌}
use native.Mathlib.Omega.{arith}
use lib.Dec.{ltb}
use Rattle.std.specs.Prelude.{Result, Ok, Err}
use lib.ListN.{length, get_or, length-append}
use Rattle.laws.specs.Lists.{all}
use Rattle.laws.proofs.Choice.{cond_case}
use Rattle.laws.proofs.Lists.{all_append, all_at}
use Rattle.words.specs.declared.Pair.{Pair}
use Rattle.code.specs.declared.next.Next.{Next}
use Rattle.code.specs.declared.next.Next.TheVariants.{End, Spelled, Letter}
use Rattle.code.specs.declared.next.After.{After}
use Rattle.code.specs.declared.next.After.TheVariants.{Nothing, Spelling, Lettering}
use Rattle.code.specs.Limits.{legal_pair}
use Rattle.words.specs.Pairs.{pair}
use Rattle.code.specs.Letters.{has, learnt}
use Rattle.code.specs.Accepted.{Accepted}
use Rattle.code.specs.Next.{next_pair}
use Rattle.code.specs.Read.{Reading, pairs, fault, read_on, read_from, read_code}
use Rattle.code.proofs.Nexts.{Ends, Sound, next_sound}

abbrev Within : ℕ → Reading → Type 0
Within freq (pairs ps) = Accepted freq ps
Within freq (fault number ps) = Unit {0}

-- behind a pair there is one
abbrev Begun : After → ℕ → Type 0
Begun Nothing n = Unit {0}
Begun Spelling n = 1 ≤ n
Begun Lettering n = 1 ≤ n

begun : (after : After) (n : ℕ) → Ends after → Begun after n → 1 ≤ n
begun Nothing n e b = absurd e
begun Spelling n e b = b
begun Lettering n e b = b

-- the pairs read so far, with those that have letters, k more and one being left
record Partly (freq k : ℕ) (ps letters : List Pair) (after : After) : Type 0 where
  some : Begun after (length ps)
  count : length ps + k ≡ 261
  allowed : all (legal_pair freq) ps ≡ true
  lettered : all (legal_pair freq) letters ≡ true

learnt_legal : (freq : ℕ) (letters : List Pair) (p : Pair) → all (legal_pair freq) letters ≡ true → legal_pair freq p ≡ true
    → all (legal_pair freq) (learnt letters p) ≡ true
unfolding learnt
learnt_legal freq letters p h l =
    cond_case (λ (x : List Pair). all (legal_pair freq) x ≡ true) (has p letters) _ _ (λ e. h)
    (λ e. cond_case (λ (x : List Pair). all (legal_pair freq) x ≡ true) (ltb (length letters) 15) (letters ++ (p ∷ [])) letters
    (λ f. all_append (legal_pair freq) letters (p ∷ []) h (rw l)) (λ f. h))

module _ (freq : ℕ) (s : List ℕ) where
  -- one pair more, of either kind
  more : {k : ℕ} {ps letters letters' : List Pair} {after after' : After} (p : Pair) → Partly freq (suc k) ps letters after
      → legal_pair freq p ≡ true → all (legal_pair freq) letters' ≡ true → Begun after' (length ps + 1)
      → Partly freq k (ps ++ (p ∷ [])) letters' after'
  more {k} {ps} p q l h b =
      record {
        some = rw length-append b;
        count = rw length-append (omega (arith, q.count));
        allowed = all_append (legal_pair freq) ps (p ∷ []) q.allowed (rw l);
        lettered = h;
      }

  from : (k : ℕ) (ps letters : List Pair) (after : After) (at : ℕ) → Partly freq k ps letters after
      → Within freq (read_from k freq s ps letters after at)
  from zero ps letters after at q = tt
  from (suc k) ps letters after at q =
      go (next_pair freq (length ps) (length letters) after s at) (next_sound freq (length ps) (length letters) after s at) (from k)
    where
      go : (x : Result Next ℕ) → Sound freq (length ps) (length letters) after x
          → ((ps' letters' : List Pair) (after' : After) (at' : ℕ) → Partly freq k ps' letters' after' → Within freq (read_from k freq s ps' letters' after' at'))
          → Within freq (read_on (read_from k freq s) ps letters x)
      go (Ok End) h ih =
          record { some = begun after (length ps) h q.some; most = omega (arith, q.count); allowed = q.allowed }
      go (Ok (Spelled p next)) h ih =
          ih _ _ Spelling next (more p q h.1 (learnt_legal freq letters p q.lettered h.1) (omega arith))
      go (Ok (Letter i next)) h ih =
          ih _ _ Lettering next
          (more (get_or letters i (pair 0 0)) q (all_at (legal_pair freq) letters i (pair 0 0) q.lettered h.1) q.lettered (omega arith))
      go (Err number) h ih = tt

pub accepted : (freq : ℕ) (s : List ℕ) (at : ℕ) (ps : List Pair) → read_code freq s at ≡ pairs ps → Accepted freq ps
unfolding read_code
accepted freq s at ps e =
    subst (Within freq) e
    (from freq s 261 [] [] Nothing at
    (record { some = tt; count = refl; allowed = refl; lettered = refl }))
