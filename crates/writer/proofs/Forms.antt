-- What the two forms write: plain text has no letter, lettered text a letter of A to O for each later occurrence of a
-- lettered pair.
use Prim.Native.Nat.{◌+◌, ◌≤◌, ◌<◌}
use mathlib.Core.Path.{◌≡◌, refl}
use mathlib.Core.Bool.{true, false, not, ◌&&◌}
use mathlib.Core.List.{List, [], ◌∷◌, ◌++◌}
use native.Mathlib.Omega.{arith}
use borrow.Author.Tests.{lt-ltb, le-leb, ltb-true, ltb-false}
use lib.Dec.{leb, ltb}
use lib.ListN.{length, get_or}
use Rattle.laws.specs.Lists.{all}
use Rattle.laws.proofs.Choice.{by_test, and_true, not_both}
use Rattle.words.specs.declared.Pair.{Pair}
use Rattle.code.specs.Letters.{place_of, has, learnt, letters_of}
use Rattle.code.specs.Next.{is_letter}
use Rattle.code.proofs.Lettering.{place_within_law, place_is, learnt_few}
use Rattle.lettered.specs.Lettered.{Item, lettered}
use Rattle.lettered.proofs.Distinct.{letters_are_law}
use Rattle.lettered.proofs.ItemsRead.{digit_no_letter}
use Rattle.writer.specs.declared.Form.{Form}
use Rattle.writer.specs.declared.Form.TheVariants.{Plain, Lettered}
use Rattle.writer.specs.CodeText.{spelt, item_of, items, LetteredAs, by_letter, by_spelling, code_text, code_byte, in_use}
use Rattle.writer.proofs.Writing.{item_letter, item_spelled, at_most}
use Rattle.writer.proofs.Bytes.{letters_are, spelt_are, text_all}

-- ---- plain text
all_spelled : (t ps : List Pair) → all (letters_are (λ i. false)) (items Plain t ps) ≡ true
all_spelled t [] = refl
all_spelled t (p ∷ ps) = and_true (letters_are (λ i. false) (spelt p)) _ (spelt_are (λ i. false) p) (all_spelled (learnt t p) ps)

pub plain_no_letter : (ps : List Pair) → all (λ b. not (is_letter b)) (code_text Plain ps) ≡ true
unfolding code_text is_letter
plain_no_letter ps =
    text_all (λ b. not (is_letter b)) (λ b e. rw (digit_no_letter b e)) refl (λ i. false) (λ i z. not_both z refl)
    (items Plain [] ps) (all_spelled [] ps)

-- ---- lettered text
-- each pair is written as those before it say
item_from : (form : Form) (t done more : List Pair) (p : Pair) (d : Item)
    → get_or (items form t (done ++ p ∷ more)) (length done) d ≡ item_of form (letters_of t done) p
item_from form t [] more p d = refl
item_from form t (q ∷ done) more p d = item_from form (learnt t q) done more p d

item_as : (before : List Pair) (p : Pair) → LetteredAs before p (item_of Lettered (lettered before) p)
item_as before p =
    let t = lettered before in
    by_test (has p t)
    (λ e.
    let l = ltb-true (place_of p t) (length t) e in
    rw e (by_letter l (place_is p t l)))
    (λ e. rw e (by_spelling (λ i h f. omega (arith, ltb-false (place_of p t) (length t) e, rw f at (place_within_law t i h)))))

-- of the items whose text a lettered code is: the pair behind others is its letter where it has one by then, else spelled
pub lettered_item : (done more : List Pair) (p : Pair) (d : Item)
    → LetteredAs done p (get_or (items Lettered [] (done ++ p ∷ more)) (length done) d)
lettered_item done more p d = rw (item_from Lettered [] done more p d, letters_are_law done) (item_as done p)

-- each letter is one of A to O
low_from : (form : Form) (t ps : List Pair) → length t ≤ 15 → all (letters_are (λ i. ltb i 15)) (items form t ps) ≡ true
low_from form t [] h = refl
low_from form t (p ∷ ps) h =
    let more = low_from form (learnt t p) ps (learnt_few t p h) in
    by_test (ltb (place_of p t) (in_use form (length t)))
    (λ e.
    let l = ltb-true (place_of p t) (in_use form (length t)) e in
    let low : place_of p t < 15 = omega (arith, at_most form (length t)) in
    rw (item_letter form t p l) (and_true (ltb (place_of p t) 15) _ (lt-ltb (place_of p t) 15 low) more))
    (λ e.
    rw (item_spelled form t p (ltb-false (place_of p t) _ e))
    (and_true (letters_are (λ i. ltb i 15) (spelt p)) _ (spelt_are (λ i. ltb i 15) p) more))

pub items_low : (form : Form) (ps : List Pair) → all (letters_are (λ i. ltb i 15)) (items form [] ps) ≡ true
items_low form ps = low_from form [] ps (omega arith)

-- and so is every byte of a code's text that is neither digit nor comma
pub letters_low : (form : Form) (ps : List Pair) → all code_byte (code_text form ps) ≡ true
unfolding code_text
letters_low form ps =
    text_all code_byte (λ b e. by_test (leb 65 b && leb b 79) (λ f. rw f) (λ f. rw (f, e))) refl (λ i. ltb i 15)
    (λ i e.
    let l = ltb-true i 15 e in
    rw (le-leb 65 (65 + i) (omega arith), le-leb (65 + i) 79 (omega arith)))
    (items form [] ps) (items_low form ps)
