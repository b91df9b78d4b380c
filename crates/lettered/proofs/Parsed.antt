-- What stands next in a text is an item: step by step, the text up to a place is that of items which expand to the pairs read.
use Prim.Native.Nat.{ℕ, ◌+◌}
use mathlib.Core.Path.{◌≡◌, refl, sym, ap, ◌∙◌, subst}
use mathlib.Core.List.{List, [], ◌∷◌, ◌++◌, append_assoc}
use native.Mathlib.Omega.{arith}
use Rattle.std.specs.Prelude.{Result, Ok}
use lib.ListN.{length, drop, get_or, length-append}
use Rattle.words.specs.declared.Pair.{Pair}
use Rattle.code.specs.declared.next.Next.{Next}
use Rattle.code.specs.declared.next.Next.TheVariants.{Spelled, Letter}
use Rattle.code.specs.declared.next.After.{After}
use Rattle.code.specs.declared.next.After.TheVariants.{Spelling, Lettering}
use Rattle.words.specs.Pairs.{pair}
use Rattle.code.specs.Next.{next_pair}
use Rattle.code.proofs.Nexts.{Sound, next_sound}
use Rattle.lettered.specs.Lettered.{Item, spelled, letter, item_text, lettered, Stands, Expands, none, more}
use Rattle.lettered.proofs.Written.{after_of, front, front_letter, text_from}
use Rattle.lettered.proofs.Shown.{Shown, next_shown}

-- behind the pairs before, the text from a place up to another is that of items which expand to the pairs ps
pub record Parsed (freq : ℕ) (s : List ℕ) (before : List Pair) (after : After) (at : ℕ) (ps : List Pair) (to : ℕ) : Type 0 where
  pub items : List Item
  pub expands : Expands freq before items ps
  pub text : drop at s ≡ text_from after items ++ drop to s
  pub place : to ≡ at + length (text_from after items)

pub none_parsed : {freq : ℕ} {s : List ℕ} {before : List Pair} {after : After} {at : ℕ} → Parsed freq s before after at [] at
none_parsed = record { items = []; expands = none; text = refl; place = omega arith }

-- what stands next behind the pairs before
abbrev pub next_behind : ℕ → List ℕ → List Pair → After → ℕ → Result Next ℕ
next_behind freq s before after at = next_pair freq (length before) (length (lettered before)) after s at

module _ (freq : ℕ) (s : List ℕ) (before : List Pair) (after : After) (at : ℕ) {x : Result Next ℕ} (e : next_behind freq s before after at ≡ x) where
  pub sound : Sound freq (length before) (length (lettered before)) after x
  sound =
      subst (Sound freq (length before) (length (lettered before)) after) e
      (next_sound freq (length before) (length (lettered before)) after s at)

  pub shown : Shown after s at x
  shown = subst (Shown after s at) e (next_shown freq s (length before) (length (lettered before)) after at)

module _ (freq : ℕ) (s : List ℕ) {before ps : List Pair} {after : After} {at next to : ℕ} where
  -- an item, and those behind it
  item_parsed : (x : Item) (p : Pair) → Stands freq before x p → drop at s ≡ front after x ++ item_text x ++ drop next s
      → next ≡ at + length (front after x ++ item_text x) → Parsed freq s (before ++ (p ∷ [])) (after_of x) next ps to → Parsed freq s before after at (p ∷ ps) to
  item_parsed x p d e f q =
      record {
        items = x ∷ q.items;
        expands = more d q.expands;
        text =
            e ∙ ap (λ (l : List ℕ). front after x ++ item_text x ++ l) q.text
            ∙ sym (append_assoc (front after x ++ item_text x) (text_from (after_of x) q.items) (drop to s));
        place = rw (length-append (front after x ++ item_text x) (text_from (after_of x) q.items)) (omega (arith, q.place));
      }

  pub spelled_parsed : {p : Pair} → next_behind freq s before after at ≡ Ok (Spelled p next)
      → Parsed freq s (before ++ (p ∷ [])) Spelling next ps to → Parsed freq s before after at (p ∷ ps) to
  spelled_parsed {p} e q =
      let h = sound freq s before after at e in
      let t = shown freq s before after at e in
      item_parsed (spelled t.first t.second) p (t.on_is, t.off_is, h.1) t.text t.place q

  pub letter_parsed : {i : ℕ} → next_behind freq s before after at ≡ Ok (Letter i next)
      → Parsed freq s (before ++ (get_or (lettered before) i (pair 0 0) ∷ [])) Lettering next ps to
      → Parsed freq s before after at (get_or (lettered before) i (pair 0 0) ∷ ps) to
  letter_parsed {i} e q =
      let t = shown freq s before after at e in
      item_parsed (letter i) (get_or (lettered before) i (pair 0 0)) ((sound freq s before after at e).1, refl)
      (rw (front_letter after i) t.0) (rw (front_letter after i) t.1) q
