-- What bytes a written line has, and how many.
use Prim.Native.Nat.{ℕ, ◌+◌, ◌*◌, ◌≤◌}
use mathlib.Core.Path.{◌≡◌, refl}
use mathlib.Core.Bool.{Bool, true, ◌&&◌}
use mathlib.Core.List.{List, [], ◌∷◌, ◌++◌}
use native.Mathlib.Omega.{arith}
use borrow.Author.Tests.{ltb-true, ltb-false}
use lib.Dec.{ltb}
use lib.ListN.{length, length-append}
use Rattle.laws.specs.Bytes.{bytes}
use Rattle.laws.specs.Lists.{all}
use Rattle.laws.proofs.Choice.{by_test, and_left, and_right, and_true}
use Rattle.laws.proofs.Lists.{all_append, all_weaker}
use Rattle.words.specs.Digits.{is_digit}
use Rattle.words.specs.Decimal.{decimal}
use Rattle.text.proofs.Decimals.{decimal_digits, decimal_few}
use Rattle.words.specs.declared.Pair.{Pair}
use Rattle.code.specs.declared.next.After.{After}
use Rattle.code.specs.declared.next.After.TheVariants.{Nothing, Spelling, Lettering}
use Rattle.code.specs.Letters.{place_of, learnt}
use Rattle.code.specs.Limits.{legal, legal_pair}
use Rattle.words.specs.declared.Fields.{Fields}
use Rattle.lettered.specs.Lettered.{Item, spelled, letter, item_text, text_of}
use Rattle.lettered.proofs.Written.{after_of, front, front_letter, text_from, text_from_law}
use Rattle.writer.specs.declared.Form.{Form}
use Rattle.writer.specs.CodeText.{spelt, items, comma, spelling, code_text, in_use}
use Rattle.writer.specs.Sendir.{Small}
use Rattle.writer.proofs.Writing.{item_letter, item_spelled, front_comma, comma_few, pair_length}
use Rattle.writer.proofs.ReadBack.{legal_small}
use Rattle.writer.proofs.Heads.{listed, fields_in}

-- whether an item is spelled by digits, or a letter for which a test holds
abbrev pub letters_are : (ℕ → Bool) → Item → Bool
letters_are r (spelled on off) = all is_digit on && all is_digit off
letters_are r (letter i) = r i

pub spelt_are : (r : ℕ → Bool) (p : Pair) → letters_are r (spelt p) ≡ true
spelt_are r p = and_true (all is_digit (decimal p.on)) _ (decimal_digits p.on) (decimal_digits p.off)

-- what holds of the digits and of the comma holds of all bytes, where it holds of the letters
module _ (q : ℕ → Bool) (digits : (b : ℕ) → is_digit b ≡ true → q b ≡ true) (commas : q 44 ≡ true) where
  digits_all : (l : List ℕ) → all is_digit l ≡ true → all q l ≡ true
  digits_all l e = all_weaker is_digit q digits l e

  pub listed_all : (ns rest : List ℕ) → all q rest ≡ true → all q (listed ns rest) ≡ true
  listed_all [] rest e = e
  listed_all (n ∷ ns) rest e =
      all_append q (decimal n) (44 ∷ listed ns rest) (digits_all (decimal n) (decimal_digits n))
      (and_true (q 44) _ commas (listed_all ns rest e))

  front_all : (after : After) (x : Item) → all q (front after x) ≡ true
  front_all Nothing x = refl
  front_all Spelling (spelled on off) = rw commas
  front_all Spelling (letter i) = refl
  front_all Lettering x = refl

  text_from_all : (r : ℕ → Bool) → ((i : ℕ) → r i ≡ true → q (65 + i) ≡ true) → (after : After) (is : List Item)
      → all (letters_are r) is ≡ true → all q (text_from after is) ≡ true
  text_from_all r f after [] e = refl
  text_from_all r f after (x ∷ is) e =
      all_append q (front after x ++ item_text x) (text_from (after_of x) is)
      (all_append q (front after x) (item_text x) (front_all after x) (item x (and_left (letters_are r x) _ e)))
      (text_from_all r f (after_of x) is (and_right (letters_are r x) _ e))
    where
      item : (x : Item) → letters_are r x ≡ true → all q (item_text x) ≡ true
      item (spelled on off) h =
          all_append q (on ++ bytes ",") off
          (all_append q on (bytes ",") (digits_all on (and_left (all is_digit on) _ h)) (rw commas))
          (digits_all off (and_right (all is_digit on) _ h))
      item (letter i) h = rw (f i h)

  pub text_all : (r : ℕ → Bool) → ((i : ℕ) → r i ≡ true → q (65 + i) ≡ true) → (is : List Item) → all (letters_are r) is ≡ true
      → all q (text_of is) ≡ true
  text_all r f is e = rw (text_from_law is) (text_from_all r f Nothing is e)

-- ---- how many
pub head_few : {port : ℕ} {f : Fields} (code : List ℕ) → Small port f
    → length (bytes "sendir,1:" ++ listed (port ∷ fields_in f) code) ≤ 44 + length code
head_few {port} {f} code s =
    simp length-append
    (omega (
      arith,
      decimal_few port s.port_small,
      decimal_few f.id s.id_small,
      decimal_few f.freq s.freq_small,
      decimal_few f.repeat s.repeat_small,
      decimal_few f.offset s.offset_small,
    ))

few_from : (form : Form) (freq : ℕ) (t : List Pair) (after : After) (ps : List Pair) → all (legal_pair freq) ps ≡ true
    → length (text_from after (items form t ps)) ≤ 14 * length ps
few_from form freq t after [] h = omega arith
few_from form freq t after (p ∷ ps) h =
    let r = and_right (legal_pair freq p) _ h in
    let l = and_left (legal_pair freq p) _ h in
    by_test (ltb (place_of p t) (in_use form (length t)))
    (λ e.
    rw (item_letter form t p (ltb-true (place_of p t) _ e), front_letter after (place_of p t))
    (omega (arith, few_from form freq (learnt t p) Lettering ps r)))
    (λ e.
    rw (item_spelled form t p (ltb-false (place_of p t) _ e), front_comma after p, length-append (comma after ++ spelling p))
    (omega (
      arith,
      few_from form freq (learnt t p) Spelling ps r,
      pair_length after p.on p.off,
      comma_few after,
      decimal_few p.on (legal_small freq p.on (and_left (legal freq p.on) _ l)),
      decimal_few p.off (legal_small freq p.off (and_right (legal freq p.on) _ l)),
    )))

pub code_few : (form : Form) (freq : ℕ) (ps : List Pair) → all (legal_pair freq) ps ≡ true → length (code_text form ps) ≤ 14 * length ps
unfolding code_text
code_few form freq ps h = rw (text_from_law (items form [] ps)) (few_from form freq [] Nothing ps h)
