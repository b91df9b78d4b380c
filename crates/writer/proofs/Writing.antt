-- Laws of the loop that writes a code's text.
use Prim.Native.Nat.{ℕ, ◌+◌, ◌-◌, ◌*◌, ◌≤◌, ◌<◌}
use mathlib.Core.Path.{◌≡◌, refl, sym, ap, ◌∙◌}
use mathlib.Core.List.{List, [], ◌∷◌, ◌++◌}
use native.Mathlib.Nat.{sub-zero}
use native.Mathlib.Omega.{arith}
use borrow.Author.Tests.{lt-ltb, le-ltb}
use lib.ListN.{length, get_or, length-append}
use Rattle.laws.specs.Bytes.{bytes}
use Rattle.text.specs.declared.write.Out.{Out}
use Rattle.text.specs.Write.{Room, Appended}
use Rattle.text.proofs.Appended.{no_text, and_then}
use Rattle.words.specs.Decimal.{decimal}
use Rattle.words.specs.declared.Pair.{Pair}
use Rattle.code.specs.declared.letters.Letters.{Letters}
use Rattle.code.specs.declared.next.After.{After}
use Rattle.code.specs.declared.next.After.TheVariants.{Nothing, Spelling, Lettering}
use Rattle.words.specs.Pairs.{pair}
use Rattle.code.specs.Letters.{no_letters, place_of, learnt, held, Kept}
use Rattle.decoder.specs.Follows.{pairs_at}
use Rattle.lettered.specs.Lettered.{Item, letter, item_text}
use Rattle.code.proofs.Lettering.{learnt_known}
use Rattle.decoder.proofs.Follows.{pairs_next}
use Rattle.lettered.proofs.Written.{after_of, front, front_letter, text_from, text_from_law}
use Rattle.writer.specs.declared.Form.{Form}
use Rattle.writer.specs.declared.Form.TheVariants.{Plain, Lettered}
use Rattle.writer.specs.CodeText.{spelt, item_of, items, comma, spelling, code_text, in_use}

-- ---- one item
pub item_letter : (form : Form) (t : List Pair) (p : Pair) → place_of p t < in_use form (length t) → item_of form t p ≡ letter (place_of p t)
item_letter Plain t p h = absurd (omega arith)
item_letter Lettered t p h = rw (lt-ltb (place_of p t) (length t) h)

pub item_spelled : (form : Form) (t : List Pair) (p : Pair) → in_use form (length t) ≤ place_of p t → item_of form t p ≡ spelt p
item_spelled Plain t p h = refl
item_spelled Lettered t p h = rw (le-ltb (place_of p t) (length t) h)

pub at_most : (form : Form) (n : ℕ) → in_use form n ≤ n
at_most Plain n = omega arith
at_most Lettered n = omega arith

pub front_comma : (after : After) (p : Pair) → front after (spelt p) ≡ comma after
front_comma Nothing p = refl
front_comma Spelling p = refl
front_comma Lettering p = refl

pub comma_few : (after : After) → length (comma after) ≤ 1
comma_few Nothing = omega arith
comma_few Spelling = omega arith
comma_few Lettering = omega arith

pub pair_length : (after : After) (on off : ℕ)
    → length (comma after ++ spelling (pair on off)) ≡ length (comma after) + (length (decimal on) + 1 + length (decimal off))
pair_length after on off =
    rw (length-append (comma after) (spelling (pair on off)), length-append (decimal on ++ bytes ",") (decimal off), length-append (decimal on) (bytes ","))

-- ---- the loop: whatever is appended behind, the whole is appended
pub record Writing (form : Form) (out₀ : Out) (count : ℕ) (counts : List ℕ) (out : Out) (t : Letters) (after : After) (j : ℕ) : Type 0 where
  pub kept : Kept t (held t)
  pub within : j ≤ count
  pub room : Room out (14 * (count - j))
  pub goes : {end : Out} → Appended out end (text_from after (items form (held t) (pairs_at counts j (count - j))))
      → Appended out₀ end (code_text form (pairs_at counts 0 count))

pub writing_start : (form : Form) (out : Out) (count : ℕ) (counts : List ℕ) → Room out (14 * count)
    → Writing form out count counts out no_letters Nothing 0
unfolding code_text
writing_start form out count counts r =
    record {
      kept = record { few = omega arith; counted = refl; are = refl };
      within = omega arith;
      room = omega (arith, r);
      goes = λ p. rw (text_from_law (items form [] (pairs_at counts 0 count))) (rw (sub-zero count) at p);
    }

module _ {form : Form} {out₀ : Out} {count : ℕ} {counts : List ℕ} {out : Out} {t : Letters} {after : After} {j : ℕ}
    (w : Writing form out₀ count counts out t after j) where
  pub writing_end : count ≤ j → Appended out₀ out (code_text form (pairs_at counts 0 count))
  writing_end h =
      let none : count - j ≡ 0 = omega arith in
      w.goes (rw none (no_text (omega (arith, w.room))))

  module _ (h : j < count) where
    abbrev q : Pair
    q = pair (get_or counts (2 * j) 0) (get_or counts (2 * j + 1) 0)

    -- one item of the text is written
    step : {x : Item} {t' : Letters} {out' : Out} → item_of form (held t) q ≡ x → Kept t' (learnt (held t) q)
        → Appended out out' (front after x ++ item_text x) → out'.at ≤ out.at + 14
        → Writing form out₀ count counts out' t' (after_of x) (j + 1)
    step e k p r =
        record {
          kept = record { few = k.few; counted = k.counted; are = refl };
          within = omega arith;
          room = omega (arith, w.room, p.size);
          goes = λ g. w.goes (rw (pairs_next counts j count h, e) (and_then p (rw k.are at g)));
        }

    pub writing_letter : {i : ℕ} {out' : Out} → i ≡ place_of q (held t) → i < in_use form t.count → Appended out out' ((65 + i) ∷ [])
        → Writing form out₀ count counts out' t Lettering (j + 1)
    writing_letter {i} e l p =
        let m : place_of q (held t) < in_use form (length (held t)) = rw (w.kept.counted, ← e) l in
        let n : place_of q (held t) < length (held t) = omega (arith, at_most form (length (held t))) in
        step (item_letter form (held t) q m ∙ ap letter (sym e))
        (record { few = w.kept.few; counted = w.kept.counted; are = sym (learnt_known (held t) q n) })
        (rw (front_letter after i) p) (omega (arith, p.put.place))

    pub writing_spelled : {i : ℕ} {t' : Letters} {out' : Out} → i ≡ place_of q (held t) → in_use form t.count ≤ i
        → Appended out out' (comma after ++ spelling q) → out'.at ≤ out.at + 14 → Kept t' (learnt (held t) q)
        → Writing form out₀ count counts out' t' Spelling (j + 1)
    writing_spelled e l p s k =
        step (item_spelled form (held t) q (rw (w.kept.counted, ← e) l)) k (rw (front_comma after q) p) s
