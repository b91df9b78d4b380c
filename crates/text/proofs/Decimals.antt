-- Laws of decimals: how they are written, and what their digits are worth.
use Prim.Native.Nat.{ℕ, zero, suc, ◌+◌, ◌-◌, ◌*◌, ◌/◌, ◌%◌, ◌^◌, ◌≤◌, ◌<◌}
use mathlib.Core.Path.{◌≡◌, refl, sym, ap, ◌∙◌}
use mathlib.Core.List.{List, [], ◌∷◌, ◌++◌}
use mathlib.Core.Bool.{true, false, cond}
use native.Mathlib.Nat.{pow-succ'}
use native.Mathlib.Omega.{arith}
use borrow.Author.Tests.{lt-ltb, le-ltb, ltb-true, ltb-false, le-leb}
use lib.Dec.{ltb}
use lib.ListN.{length, set, length-append}
use Rattle.laws.specs.Lists.{all}
use Rattle.laws.specs.Put.{Put}
use Rattle.laws.proofs.Choice.{by_test, cond_case}
use Rattle.laws.proofs.Lists.{all_append}
use Rattle.laws.proofs.Put.{put_length, then, byte}
use Rattle.words.specs.Digits.{is_digit, worth, Spells}
use Rattle.words.specs.Decimal.{decimal_in, decimal}

tenth : (n p : ℕ) → n < 10 * p → n / 10 < p
tenth n p h = omega arith

-- room for more digits changes nothing
fuel : (k n : ℕ) → n < 10 ^ suc k → decimal_in (suc (suc k)) n ≡ decimal_in (suc k) n
fuel zero n h = rw (lt-ltb n 10 h)
fuel (suc k) n h =
    ap (λ (l : List ℕ). cond (ltb n 10) ((48 + n % 10) ∷ []) (l ++ ((48 + n % 10) ∷ [])))
    (fuel k (n / 10) (tenth n (10 ^ suc k) (rw pow-succ' at h)))

pub decimal_small : (n : ℕ) → n < 10 → decimal n ≡ (48 + n % 10) ∷ []
unfolding decimal
decimal_small n h = rw (lt-ltb n 10 h)

-- every 64-bit number has room
pub decimal_step : (n : ℕ) → 10 ≤ n → n < 2 ^ 64 → decimal n ≡ decimal (n / 10) ++ ((48 + n % 10) ∷ [])
unfolding decimal
decimal_step n l h =
    rw (le-ltb n 10 l) (ap (λ (l : List ℕ). l ++ ((48 + n % 10) ∷ [])) (sym (fuel 18 (n / 10) (omega arith))))

pub decimal_longer : (n : ℕ) → 10 ≤ n → n < 2 ^ 64 → length (decimal n) ≡ length (decimal (n / 10)) + 1
decimal_longer n l h = ap length (decimal_step n l h) ∙ length-append (decimal (n / 10)) ((48 + n % 10) ∷ [])

-- the store of the last digit
pub put_last : {b b₁ : List ℕ} {at m n : ℕ} → 10 ≤ n → n < 2 ^ 64 → Put b at (decimal (n / 10)) b₁ m → at + length (decimal n) ≤ length b
    → Put b at (decimal n) (set b₁ m (48 + n % 10)) (m + 1)
put_last {b} {b₁} {at} {m} {n} l h p r =
    let k : m < length b₁ = omega (arith, p.place, put_length p, decimal_longer n l h) in
    rw (decimal_step n l h) (then p (byte b₁ m (48 + n % 10) k))

-- ---- their digits

digit : (n : ℕ) → is_digit (48 + n % 10) ≡ true
digit n = rw (le-ltb (48 + n % 10) 48 (omega arith), le-leb (48 + n % 10) 57 (omega arith))

worth_snoc : (xs : List ℕ) (v b : ℕ) → worth v (xs ++ (b ∷ [])) ≡ worth v xs * 10 + (b - 48)
worth_snoc [] v b = refl
worth_snoc (a ∷ xs) v b = worth_snoc xs (v * 10 + (a - 48)) b

-- all that is said of a decimal
record Fine (k n : ℕ) : Type 0 where
  digits : all is_digit (decimal_in k n) ≡ true
  value : n < 10 ^ k → worth 0 (decimal_in k n) ≡ n
  few : (j : ℕ) → n < 10 ^ suc j → length (decimal_in k n) ≤ suc j

fine : (k n : ℕ) → Fine k n
fine zero n = record { digits = refl; value = λ h. omega arith; few = λ j h. omega arith }
fine (suc k) n = by_test (ltb n 10) small (λ e. large e (fine k (n / 10)))
  where
    small : ltb n 10 ≡ true → Fine (suc k) n
    small e =
        record {
          digits = rw (e, digit n);
          value = λ h. rw e (omega (arith, ltb-true n 10 e));
          few = λ j h. rw e (omega arith);
        }

    shorter : (j : ℕ) → 10 ≤ n → n < 10 ^ suc j → ((i : ℕ) → n / 10 < 10 ^ suc i → length (decimal_in k (n / 10)) ≤ suc i)
        → length (decimal_in k (n / 10)) + 1 ≤ suc j
    shorter zero l h f = absurd (omega arith)
    shorter (suc j) l h f = omega (arith, f j (tenth n (10 ^ suc j) (rw pow-succ' at h)))

    large : ltb n 10 ≡ false → Fine k (n / 10) → Fine (suc k) n
    large e f =
        record {
          digits = rw e (all_append is_digit (decimal_in k (n / 10)) ((48 + n % 10) ∷ []) f.digits (rw (digit n)));
          value = λ h. rw (e, worth_snoc, f.value (tenth n (10 ^ k) (rw pow-succ' at h))) (omega arith);
          few = λ j h. rw (e, length-append) (shorter j (ltb-false n 10 e) h f.few);
        }

pub decimal_digits : (n : ℕ) → all is_digit (decimal n) ≡ true
unfolding decimal
decimal_digits n = (fine 20 n).digits

-- a number below a million has at most six digits
pub decimal_few : (n : ℕ) → n < 1000000 → length (decimal n) ≤ 6
unfolding decimal
decimal_few n h = (fine 20 n).few 5 h

-- no decimal has more than twenty
pub decimal_most : (n : ℕ) → length (decimal n) ≤ 20
unfolding decimal
decimal_most n = go 20 n
  where
    go : (k n : ℕ) → length (decimal_in k n) ≤ k
    go zero n = omega arith
    go (suc k) n =
        by_test (ltb n 10) (λ e. rw e (omega arith)) (λ e. rw (e, length-append) (omega (arith, go k (n / 10))))

pub decimal_some : (n : ℕ) → 1 ≤ length (decimal n)
unfolding decimal
decimal_some n = by_test (ltb n 10) (λ e. rw e (omega arith)) (λ e. rw (e, length-append) (omega arith))

pub decimal_value : (n : ℕ) → n < 10 ^ 20 → worth 0 (decimal n) ≡ n
unfolding decimal
decimal_value n h = (fine 20 n).value h

pub decimal_worth : (n : ℕ) → n < 1000000 → worth 0 (decimal n) ≡ n
decimal_worth n h = decimal_value n (omega arith)

pub decimal_spells : (n : ℕ) → n < 1000000 → Spells (decimal n) n
decimal_spells n h = record { some = decimal_some n; few = omega (arith, decimal_few n h); decimal = decimal_digits n; value = decimal_worth n h }

-- ---- no zero in front
some_digit : (k n : ℕ) → 1 ≤ length (decimal_in (suc k) n)
some_digit k n = cond_case (λ (l : List ℕ). 1 ≤ length l) (ltb n 10) _ _ (λ t. omega arith) (λ t. rw length-append (omega arith))

front_of : (l : List ℕ) (b : ℕ) (ds : List ℕ) → 1 ≤ length l → l ++ (b ∷ []) ≡ 48 ∷ ds → (rest : List ℕ) × (l ≡ 48 ∷ rest)
front_of [] b ds h e = absurd (omega arith)
front_of (a ∷ l) b ds h e = let f : a ≡ 48 = cc in (l, rw f)

one_digit : (n : ℕ) (ds : List ℕ) → n < 10 → (48 + n % 10) ∷ [] ≡ 48 ∷ ds → n ≡ 0
one_digit n ds h e = let f : 48 + n % 10 ≡ 48 = cc in omega arith

front_zero : (k n : ℕ) (ds : List ℕ) → n < 10 ^ suc k → decimal_in (suc k) n ≡ 48 ∷ ds → n ≡ 0
front_zero zero n ds h e = one_digit n ds h (rw (lt-ltb n 10 h) at e)
front_zero (suc k) n ds h e =
    by_test (ltb n 10)
    (λ t. one_digit n ds (ltb-true n 10 t) (rw t at e))
    (λ t.
    let f = front_of (decimal_in (suc k) (n / 10)) (48 + n % 10) ds (some_digit k (n / 10)) (rw t at e) in
    let z = front_zero k (n / 10) f.0 (tenth n (10 ^ suc k) (rw pow-succ' at h)) f.1 in
    absurd (omega (arith, ltb-false n 10 t)))

-- a decimal of any 64-bit number begins with 0 only where it is 0
pub no_leading_zero : (n : ℕ) (ds : List ℕ) → n < 2 ^ 64 → decimal n ≡ 48 ∷ ds → n ≡ 0
unfolding decimal
no_leading_zero n ds h e = front_zero 19 n ds (omega arith) e
