-- A code that is read has at most 260 pairs, and each of its counts is within the limits.
use Prim.Native.Nat.{ℕ, zero, suc, ◌-◌, ◌*◌, ◌≤◌, ◌<◌}
use mathlib.Core.Path.{◌≡◌, refl}
use mathlib.Core.Bool.{Bool, true, false, not, ◌&&◌}
use mathlib.Core.List.{List, [], ◌∷◌, ◌++◌}
use native.Mathlib.Omega.{arith}
use borrow.Author.Tests.{ltb-true, leb-false, not-false}
use lib.Dec.{ltb, leb, eqb}
use lib.ListN.{length, take, get_or, length-append}
use Rattle.laws.specs.Checks.{◌⇒◌, between}
use Rattle.laws.specs.Lists.{all}
use Rattle.laws.proofs.Choice.{cond_case, and_left, and_right, and_true}
use Rattle.laws.proofs.Checks.{through, past}
use Rattle.laws.proofs.Lists.{all_append, all_at}
use Rattle.words.specs.Digits.{is_digit}
use Rattle.words.specs.Pairs.{pair, same_pair, without, distinct}
use Rattle.words.specs.declared.Pair.{Pair}
use Rattle.meaning.specs.Line.{is_number, number, within, is_count, is_letter, lettered, Reach, opening, on, off_due, off, spelling, Stride, stop, go, lettering, beginning, stride, Reading, ended, after, reads, code_in}
use Rattle.theorems.specs.Deeds.{count_fits, pair_fits}

-- ---- what is true of every pair is true of the lettered ones
all_take : {A : Type 0} (p : A → Bool) (n : ℕ) (l : List A) → all p l ≡ true → all p (take n l) ≡ true
all_take p zero l e = refl
all_take p (suc n) [] e = refl
all_take p (suc n) (b ∷ l) e = and_true (p b) _ (and_left (p b) (all p l) e) (all_take p n l (and_right (p b) (all p l) e))

module _ (test : Pair → Bool) where
  all_without : (x : Pair) (l : List Pair) → all test l ≡ true → all test (without x l) ≡ true
  all_without x [] e = refl
  all_without x (y ∷ l) e =
      let ih = all_without x l (and_right (test y) (all test l) e) in
      cond_case (λ (k : List Pair). all test k ≡ true) (same_pair x y) (without x l) (y ∷ without x l)
      (λ _. ih) (λ _. and_true (test y) _ (and_left (test y) (all test l) e) ih)

  all_distinct : (l : List Pair) → all test l ≡ true → all test (distinct l) ≡ true
  all_distinct [] e = refl
  all_distinct (x ∷ l) e =
      and_true (test x) _ (and_left (test x) (all test l) e) (all_without x (distinct l) (all_distinct l (and_right (test x) (all test l) e)))

module _ (freq : ℕ) where
  pub record Within (ps : List Pair) : Type 0 where
    pub few : length ps ≤ 260
    pub fit : all (pair_fits freq) ps ≡ true

  -- what is known at a place of the text: where a pair has begun there is room for it, and a count that was read fits
  abbrev Fine : List Pair → Reach → Type 0
  Fine ps opening = Within ps
  Fine ps (on ds) = Within ps × (length ps < 260)
  Fine ps (off_due n) = Within ps × (length ps < 260) × (count_fits freq n ≡ true)
  Fine ps (off n ds) = Within ps × (length ps < 260) × (count_fits freq n ≡ true)
  Fine ps spelling = Within ps

  abbrev FineStride : Stride → Type 0
  FineStride (stop n) = Unit
  FineStride (go ps reach) = Fine ps reach

  count_fits_law : (ds : List ℕ) → not (is_count freq ds) ≡ false → count_fits freq (number ds) ≡ true
  unfolding is_count within
  count_fits_law ds e =
      let f = not-false (is_count freq ds) e in
      and_true (between 4 50000 (number ds)) (leb freq (12500 * number ds))
      (and_right (is_number ds && leb (length ds) 6) (between 4 50000 (number ds)) (and_left (within 4 50000 ds) _ f))
      (and_right (within 4 50000 ds) (leb freq (12500 * number ds)) f)

  one_more : (ps : List Pair) (x : Pair) → Within ps → length ps < 260 → pair_fits freq x ≡ true → Within (ps ++ (x ∷ []))
  one_more ps x w h e =
      record {
        few = omega (arith, length-append ps (x ∷ []));
        fit = all_append (pair_fits freq) ps (x ∷ []) w.fit (and_true (pair_fits freq x) true e refl);
      }

  lettering_fine : (ps : List Pair) (b : ℕ) → Within ps → FineStride (lettering ps b)
  lettering_fine ps b w =
      through FineStride ((leb 260 (length ps) ⇒ stop 20) ∷ (not (ltb (b - 65) (length (lettered ps))) ⇒ stop 22) ∷ [])
      (go (ps ++ (get_or (lettered ps) (b - 65) (pair 0 0) ∷ [])) opening)
      (past tt (λ room. past tt (λ known.
      one_more ps (get_or (lettered ps) (b - 65) (pair 0 0)) w (leb-false 260 (length ps) room)
      (all_at (pair_fits freq) (lettered ps) (b - 65) (pair 0 0)
      (all_take (pair_fits freq) 15 (distinct ps) (all_distinct (pair_fits freq) ps w.fit)) (ltb-true _ _ (not-false _ known))))))

  beginning_fine : (ps : List Pair) (b : ℕ) → Within ps → FineStride (beginning ps b)
  beginning_fine ps b w =
      through FineStride ((not (is_digit b) ⇒ stop 9) ∷ (leb 260 (length ps) ⇒ stop 20) ∷ []) (go ps (on (b ∷ [])))
      (past tt (λ _. past tt (λ room. (w, leb-false 260 (length ps) room))))

  stride_fine : (ps : List Pair) (reach : Reach) (b : ℕ) → Fine ps reach → FineStride (stride freq ps reach b)
  stride_fine ps opening b w =
      cond_case FineStride (is_letter b) (lettering ps b) (beginning ps b) (λ _. lettering_fine ps b w) (λ _. beginning_fine ps b w)
  stride_fine ps (on ds) b w =
      through FineStride
      ((is_digit b ⇒ go ps (on (ds ++ (b ∷ []))))
      ∷ (not (is_count freq ds) ⇒ stop 9)
      ∷ (is_letter b ⇒ stop 21)
      ∷ (eqb b 44 ⇒ go ps (off_due (number ds)))
      ∷ []) (stop 9)
      (past w (λ _. past tt (λ count. past tt (λ _. past (w.0, w.1, count_fits_law ds count) (λ _. tt)))))
  stride_fine ps (off_due n) b w =
      through FineStride ((is_letter b ⇒ stop 21) ∷ (is_digit b ⇒ go ps (off n (b ∷ []))) ∷ []) (stop 9) (past tt (λ _. past w (λ _. tt)))
  stride_fine ps (off n ds) b w =
      let qs = ps ++ (pair n (number ds) ∷ []) in
      through FineStride
      ((is_digit b ⇒ go ps (off n (ds ++ (b ∷ []))))
      ∷ (not (is_count freq ds) ⇒ stop 9)
      ∷ (is_letter b ⇒ lettering qs b)
      ∷ (eqb b 44 ⇒ go qs spelling)
      ∷ []) (stop 9)
      (past w (λ _. past tt (λ count.
      let more = one_more ps (pair n (number ds)) w.0 w.1 (and_true (count_fits freq n) _ w.2 (count_fits_law ds count)) in
      past (lettering_fine qs b more) (λ _. past more (λ _. tt)))))
  stride_fine ps spelling b w = beginning_fine ps b w

  abbrev Fits : Reading → Type 0
  Fits r = Within r.pairs

  no_pairs : Within []
  no_pairs = record { few = omega arith; fit = refl }

  ended_fine : (ps : List Pair) (reach : Reach) → Fine ps reach → Fits (ended freq ps reach)
  ended_fine ps opening w = cond_case Fits (eqb (length ps) 0) _ _ (λ _. no_pairs) (λ _. w)
  ended_fine ps (on ds) w = cond_case Fits (is_count freq ds) _ _ (λ _. no_pairs) (λ _. no_pairs)
  ended_fine ps (off_due n) w = no_pairs
  ended_fine ps (off n ds) w =
      cond_case Fits (is_count freq ds) _ _
      (λ e. one_more ps (pair n (number ds)) w.0 w.1 (and_true (count_fits freq n) _ w.2 (count_fits_law ds (rw e)))) (λ _. no_pairs)
  ended_fine ps spelling w = no_pairs

  reads_fine : (s : List ℕ) (ps : List Pair) (reach : Reach) → Fine ps reach → Fits (reads freq ps reach s)
  reads_fine [] ps reach w = ended_fine ps reach w
  reads_fine (b ∷ s) ps reach w = next (stride freq ps reach b) (stride_fine ps reach b w) (reads_fine s)
    where
      next : (t : Stride) → FineStride t → ((qs : List Pair) (q : Reach) → Fine qs q → Fits (reads freq qs q s))
          → Fits (after t (λ qs q. reads freq qs q s))
      next (stop n) f ih = no_pairs
      next (go qs q) f ih = ih qs q f

  -- whatever text is read as a code
  pub code_pairs : (text : List ℕ) → Within (code_in freq text).pairs
  unfolding code_in
  code_pairs text = reads_fine text [] opening no_pairs
