-- The reader accepts a text with certain pairs exactly when the text means them.
use Prim.Native.Nat.{ℕ, zero, suc}
use mathlib.Core.Path.{◌≡◌, refl, sym, ◌∙◌}
use mathlib.Core.List.{List, [], ◌∷◌, ◌++◌, append-nil}
use native.Mathlib.Omega.{arith}
use Rattle.std.specs.Prelude.{Result, Ok, Err}
use lib.ListN.{drop, get_or}
use lib.Seq.{append_snoc}
use Rattle.words.specs.declared.Pair.{Pair}
use Rattle.code.specs.declared.next.Next.{Next}
use Rattle.code.specs.declared.next.Next.TheVariants.{End, Spelled, Letter}
use Rattle.code.specs.declared.next.After.{After}
use Rattle.code.specs.declared.next.After.TheVariants.{Nothing, Spelling, Lettering}
use Rattle.words.specs.Pairs.{pair}
use Rattle.code.specs.Read.{pairs, read_on, read_from, read_code}
use Rattle.code.proofs.Accepted.{accepted}
use Rattle.lettered.specs.Lettered.{lettered, Means}
use Rattle.code.proofs.Lettering.{learnt_again}
use Rattle.lettered.proofs.Learnt.{lettered_more}
use Rattle.lettered.proofs.Written.{text_from_law}
use Rattle.lettered.proofs.ItemsRead.{items_read}
use Rattle.lettered.proofs.Parsed.{Parsed, none_parsed, next_behind, sound, shown, spelled_parsed, letter_parsed}

-- what is meant is read
pub means_read : {freq : ℕ} {ps : List Pair} (s : List ℕ) (at : ℕ) → Means freq (drop at s) ps → read_code freq s at ≡ pairs ps
unfolding read_code
means_read {freq} s at m =
    items_read freq s m.expands Nothing 260 at refl m.most (λ z. absurd (omega (arith, m.some)))
    (sym m.written ∙ text_from_law m.items)

-- what is read is meant: behind the pairs before, the text from a place to its end is that of items which expand to the others
record Whole (freq : ℕ) (s : List ℕ) (before : List Pair) (after : After) (at : ℕ) (ps : List Pair) : Type 0 where
  others : List Pair
  all_are : before ++ others ≡ ps
  to : ℕ
  over : drop to s ≡ []
  parsed : Parsed freq s before after at others to

module _ (freq : ℕ) (s : List ℕ) {ps : List Pair} where
  whole : (k : ℕ) (before : List Pair) (after : After) (at : ℕ) → read_from k freq s before (lettered before) after at ≡ pairs ps
      → Whole freq s before after at ps
  whole zero before after at e = absurd (cc)
  whole (suc k) before after at e = go (next_behind freq s before after at) refl (whole k) e
    where
      one_more : {p : Pair} {x : After} {next : ℕ} (w : Whole freq s (before ++ (p ∷ [])) x next ps)
          → Parsed freq s before after at (p ∷ w.others) w.to → Whole freq s before after at ps
      one_more {p} w q =
          record {
            others = p ∷ w.others;
            all_are = sym (append_snoc before p w.others) ∙ w.all_are;
            to = w.to;
            over = w.over;
            parsed = q;
          }

      go : (x : Result Next ℕ) → next_behind freq s before after at ≡ x
          → ((before : List Pair) (after : After) (at : ℕ) → read_from k freq s before (lettered before) after at ≡ pairs ps
          → Whole freq s before after at ps)
          → read_on (read_from k freq s) before (lettered before) x ≡ pairs ps → Whole freq s before after at ps
      go (Ok End) h ih e =
          let all_are : before ≡ ps = cc in
          record {
            others = [];
            all_are = append-nil before ∙ all_are;
            to = at;
            over = shown freq s before after at h;
            parsed = none_parsed;
          }
      go (Ok (Spelled p next)) h ih e =
          let w = ih (before ++ (p ∷ [])) Spelling next (rw (lettered_more before p) e) in
          one_more w (spelled_parsed freq s h w.parsed)
      go (Ok (Letter i next)) h ih e =
          let p = get_or (lettered before) i (pair 0 0) in
          let known = learnt_again (lettered before) i (sound freq s before after at h).1 in
          let w = ih (before ++ (p ∷ [])) Lettering next (rw (lettered_more before p, known) e) in
          one_more w (letter_parsed freq s h w.parsed)
      go (Err number) h ih e = absurd (cc)

pub read_means : {freq : ℕ} {ps : List Pair} (s : List ℕ) (at : ℕ) → read_code freq s at ≡ pairs ps → Means freq (drop at s) ps
unfolding read_code
read_means {freq} {ps} s at e =
    let w = whole freq s 261 [] Nothing at e in
    let q = w.parsed in
    let a = accepted freq s at ps e in
    record {
      items = q.items;
      written = text_from_law q.items ∙ sym (q.text ∙ rw (w.over, append-nil));
      expands = rw w.all_are at q.expands;
      some = a.some;
      most = a.most;
    }

-- a text means at most one list of pairs
pub one_meaning : {freq : ℕ} {text : List ℕ} {ps qs : List Pair} → Means freq text ps → Means freq text qs → ps ≡ qs
one_meaning {text = text} m n =
    let e = means_read text 0 m in
    let f = means_read text 0 n in
    cc
