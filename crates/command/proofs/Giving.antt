-- Laws of the fields that are given, of the loops over counts, and of the pairs that they are.
use Prim.Native.Nat.{ℕ, ◌*◌, ◌/◌, ◌%◌, ◌≤◌}
use mathlib.Core.Path.{◌≡◌, refl, sym, ap, ◌∙◌}
use mathlib.Core.Bool.{Bool, true, not}
use mathlib.Core.List.{List, [], ◌∷◌}
use native.Mathlib.Omega.{arith}
use borrow.Author.Tests.{ltb-false, eqb-true, eqb-false, not-true, not-false}
use lib.Dec.{ltb, eqb}
use Rattle.std.proofs.Common.{Ok}
use Rattle.std.specs.List.{list_all}
use lib.ListN.{length}
use lib.Seq.{sets}
use Rattle.laws.specs.Lists.{all}
use Rattle.laws.specs.Put.{stored_in}
use Rattle.laws.proofs.Choice.{guard}
use Rattle.laws.proofs.Lists.{all_at}
use Rattle.laws.proofs.Storing.{stores_stored}
use Rattle.words.specs.declared.Fields.{Fields}
use Rattle.words.specs.Pairs.{counts_of, pairs_of}
use Rattle.words.proofs.Pairs.{counts_stored}
use Rattle.code.specs.Limits.{legal, most_id, least_freq, most_freq, most_repeat, most_offset}
use Rattle.code.proofs.Smallest.{legal_is}
use Rattle.command.specs.Read.{sent, CommandInto}
use Rattle.command.specs.declared.given.Given.{Given}
use Rattle.command.specs.Fields.{FieldsWithin}
use Rattle.command.specs.Given.{given_within, counts_within, taken_as, EachFits}
use Rattle.command.proofs.Capping.{capped_low, capped_high}

-- what fields within the limits are, as they are taken
pub fields_in : (f : Given) → given_within f ≡ true → FieldsWithin (taken_as f)
unfolding given_within
fields_in f e =
    let a = guard (ltb most_id f.id) _ e in
    let b = guard (ltb f.freq least_freq) _ a.1 in
    let c = guard (ltb most_freq f.freq) _ b.1 in
    let d = guard (ltb f.repeat 1) _ c.1 in
    let g = guard (ltb most_repeat f.repeat) _ d.1 in
    let h = guard (ltb most_offset f.offset) _ g.1 in
    let uneven = odd f.offset (eqb-false (f.offset % 2) 0 (not-true (eqb (f.offset % 2) 0) h.1)) in
    record {
      id_most = ltb-false most_id f.id a.0;
      freq_least = ltb-false f.freq least_freq b.0;
      freq_most = ltb-false most_freq f.freq c.0;
      repeat_least = capped_low f.repeat (ltb-false f.repeat 1 d.0);
      repeat_most = capped_high f.repeat;
      offset_least = omega arith;
      offset_most = ltb-false most_offset f.offset h.0;
      offset_odd = uneven;
    }
  where
    odd : (n : ℕ) → (n % 2 ≡ 0 → ⊥) → n % 2 ≡ 1
    odd n k = omega arith

-- what counts within the limits are
pub record CountsIn (freq : ℕ) (given : List ℕ) : Type 0 where
  pub some : 2 ≤ length given
  pub most : length given ≤ 520
  pub even : length given % 2 ≡ 0
  pub allowed : all (legal freq) given ≡ true

pub counts_in_law : (freq : ℕ) (given : List ℕ) → counts_within freq given ≡ true → CountsIn freq given
unfolding counts_within
counts_in_law freq given e =
    let a = guard (ltb (length given) 2) _ e in
    let b = guard (ltb 520 (length given)) _ a.1 in
    let c = guard (not (eqb (length given % 2) 0)) _ b.1 in
    record {
      some = ltb-false (length given) 2 a.0;
      most = ltb-false 520 (length given) b.0;
      even = eqb-true (length given % 2) 0 (not-false (eqb (length given % 2) 0) c.0);
      allowed = c.1;
    }

-- a test of every element, as std says it
pub list_all_law : {A : Type 0} (p : A → Bool) (l : List A) → list_all p l ≡ all p l
list_all_law p [] = refl
list_all_law p (b ∷ l) = rw (list_all_law p l)

pub each_fits : {freq : ℕ} {given : List ℕ} → CountsIn freq given → EachFits given
each_fits {freq} {given} c i h = let l = legal_is (all_at (legal freq) given i 0 c.allowed h) in omega (arith, l.high)

pub pairs_length : (given : List ℕ) → length given % 2 ≡ 0 → 2 * length (pairs_of given) ≡ length given
pairs_length [] e = refl
pairs_length (a ∷ []) e = absurd (omega arith)
pairs_length (a ∷ b ∷ l) e = omega (arith, pairs_length l (omega arith))

counts_back : (given : List ℕ) → length given % 2 ≡ 0 → counts_of (pairs_of given) ≡ given
counts_back [] e = refl
counts_back (a ∷ []) e = absurd (omega arith)
counts_back (a ∷ b ∷ l) e = rw (counts_back l (omega arith))

-- what is given, once it is stored
pub given_into : {freq : ℕ} (given before after : List ℕ) (f : Fields) → CountsIn freq given → length before ≡ 520 → after ≡ sets before 0 given
    → CommandInto (sent f (pairs_of given)) before (Ok (f, length given / 2)) after
given_into given before after f c size e =
    let two = pairs_length given c.even in
    let half : length given / 2 ≡ length (pairs_of given) = omega arith in
    let back = counts_back given c.even in
    let kept : after ≡ stored_in before 0 (counts_of (pairs_of given)) = e ∙ stores_stored before 0 given ∙ ap (stored_in before 0) (sym back) in
    record {
      result = ap (λ (n : ℕ). Ok (f, n)) half;
      kept = kept;
      front = rw kept (counts_stored before (pairs_of given) (omega (arith, c.most)));
    }
