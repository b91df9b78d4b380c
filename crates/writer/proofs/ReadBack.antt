-- A code's text means the pairs that were written, so the code reader reads them, wherever it stands at the end of a text.
use Prim.Native.Nat.{ℕ, ◌<◌}
use mathlib.Core.Path.{◌≡◌, refl, sym, subst}
use mathlib.Core.Bool.{true}
use mathlib.Core.List.{List, [], ◌∷◌, ◌++◌}
use native.Mathlib.Omega.{arith}
use borrow.Author.Tests.{ltb-true, ltb-false}
use lib.Dec.{ltb}
use lib.ListN.{length, drop}
use Rattle.laws.specs.Lists.{all}
use Rattle.laws.proofs.Choice.{by_test, and_left, and_right}
use Rattle.text.proofs.Decimals.{decimal_spells}
use Rattle.words.specs.declared.Pair.{Pair}
use Rattle.code.specs.Limits.{legal, legal_pair}
use Rattle.code.specs.Letters.{place_of}
use Rattle.code.specs.Read.{pairs, read_code}
use Rattle.code.proofs.Smallest.{legal_is}
use Rattle.code.proofs.Lettering.{place_is}
use Rattle.code.specs.Accepted.{Accepted}
use Rattle.lettered.specs.Lettered.{lettered, Stands, Expands, none, more, Means}
use Rattle.lettered.proofs.Learnt.{lettered_more}
use Rattle.lettered.proofs.Exactly.{means_read}
use Rattle.writer.specs.declared.Form.{Form}
use Rattle.writer.specs.CodeText.{item_of, items, code_text, in_use}
use Rattle.writer.proofs.Writing.{item_letter, item_spelled, at_most}

-- a legal count has at most six digits
pub legal_small : (freq n : ℕ) → legal freq n ≡ true → n < 1000000
legal_small freq n h = omega (arith, (legal_is {freq = freq} {count = n} h).high)

-- each item stands for its pair
stands : (form : Form) (freq : ℕ) (before : List Pair) (p : Pair) → legal_pair freq p ≡ true
    → Stands freq before (item_of form (lettered before) p) p
stands form freq before p h =
    let t = lettered before in
    by_test (ltb (place_of p t) (in_use form (length t)))
    (λ e.
    let l = ltb-true (place_of p t) (in_use form (length t)) e in
    let m : place_of p t < length t = omega (arith, at_most form (length t)) in
    rw (item_letter form t p l) (m, place_is p t m))
    (λ e.
    rw (item_spelled form t p (ltb-false (place_of p t) (in_use form (length t)) e)) (
      decimal_spells p.on (legal_small freq p.on (and_left (legal freq p.on) _ h)),
      decimal_spells p.off (legal_small freq p.off (and_right (legal freq p.on) _ h)),
      h,
    ))

expands : (form : Form) (freq : ℕ) (before ps : List Pair) → all (legal_pair freq) ps ≡ true
    → Expands freq before (items form (lettered before) ps) ps
expands form freq before [] h = none
expands form freq before (p ∷ ps) h =
    more (stands form freq before p (and_left (legal_pair freq p) _ h))
    (rw (lettered_more before p) at (expands form freq (before ++ (p ∷ [])) ps (and_right (legal_pair freq p) _ h)))

pub code_means : (form : Form) {freq : ℕ} {ps : List Pair} → Accepted freq ps → Means freq (code_text form ps) ps
unfolding code_text
code_means form {freq} {ps} a =
    record { items = items form [] ps; written = refl; expands = expands form freq [] ps a.allowed; some = a.some; most = a.most }

pub code_back : (form : Form) {freq : ℕ} {ps : List Pair} (s : List ℕ) (at : ℕ) → Accepted freq ps → drop at s ≡ code_text form ps
    → read_code freq s at ≡ pairs ps
code_back form {freq} {ps} s at a e = means_read s at (subst (λ (l : List ℕ). Means freq l ps) (sym e) (code_means form a))
