-- Laws of what is printed: the loop over the lines of a reply, and the one over the completions of a wait.
use Prim.Native.Nat.{ℕ, ◌+◌, ◌-◌, ◌≤◌, ◌<◌}
use mathlib.Core.Path.{◌≡◌, refl, sym, ap, ◌∙◌}
use mathlib.Core.List.{List, [], ◌∷◌, ◌++◌}
use native.Mathlib.Omega.{arith}
use lib.ListN.{length, take, drop, get_or, length-append, length-take, length-drop, drop_of_length-le}
use lib.Seq.{drop-drop, get_or-take}
use Rattle.laws.specs.Lists.{cut, behind}
use Rattle.laws.proofs.Cutting.{up_to, parts_are}
use Rattle.laws.proofs.Joining.{cut_free}
use Rattle.laws.proofs.Lists.{drop_next}
use Rattle.text.proofs.Decimals.{decimal_most}
use Rattle.connector.specs.declared.Completion.{Completion}
use Rattle.hub.specs.Completions.{no_completion}
use Rattle.script.specs.Output.{line_for, lines_for, printed_refusal, printed_completion, printed_completions}
use Rattle.script.proofs.Parting.{up_to_free, up_to_take, up_to_length, whole, parted_behind, parted_cut}

-- ---- how long they are
pub line_length : (who line : List ℕ) → length (line_for who line) ≡ length who + 1 + length line + 1
line_length who line = simp length-append

pub refusal_length : (number : ℕ) → length (printed_refusal number) ≤ 22
unfolding printed_refusal
refusal_length number = simp length-append (omega (arith, decimal_most number))

-- ---- lines
lines_next : (who line : List ℕ) (lines : List (List ℕ)) → 1 ≤ length lines → lines_for who (line ∷ lines) ≡ line_for who line ++ lines_for who lines
lines_next who line [] h = absurd (omega arith)
lines_next who line (next ∷ lines) h = refl

module _ (who text : List ℕ) (i end : ℕ) (e : end ≡ i + length (up_to 13 (drop i text))) where
  line_is : take (end - i) (drop i text) ≡ up_to 13 (drop i text)
  line_is =
      let n : end - i ≡ length (up_to 13 (drop i text)) = omega arith in
      ap (λ (k : ℕ). take k (drop i text)) n ∙ up_to_take 13 (drop i text)

  pub line_within : i ≤ length text → end ≤ length text
  line_within h = omega (arith, up_to_length 13 (drop i text), length-drop i text)

  pub lines_more : i ≤ length text → (end ≡ length text → ⊥)
      → lines_for who (cut 13 (drop i text)) ≡ line_for who (take (end - i) (drop i text)) ++ lines_for who (cut 13 (drop (end + 1) text))
  lines_more h ne =
      let rest = drop i text in
      let u = up_to 13 rest in
      let short : length u < length rest = omega (arith, up_to_length 13 rest, length-drop i text, line_within h) in
      let n : i + (length u + 1) ≡ end + 1 = omega arith in
      let b : behind 13 1 rest ≡ drop (end + 1) text =
      sym (parted_behind 13 rest short) ∙ drop-drop (length u + 1) i text ∙ ap (λ (k : ℕ). drop k text) n in
      ap (lines_for who) (parted_cut 13 rest short ∙ ap (λ (l : List ℕ). u ∷ cut 13 l) b)
      ∙ lines_next who u (cut 13 (drop (end + 1) text)) (omega (arith, parts_are 13 (drop (end + 1) text)))
      ∙ ap (λ (l : List ℕ). line_for who l ++ lines_for who (cut 13 (drop (end + 1) text))) (sym line_is)

  pub line_room : i ≤ length text → (end ≡ length text → ⊥)
      → length (line_for who (take (end - i) (drop i text))) ≤ length (lines_for who (cut 13 (drop i text)))
  line_room h ne =
      let line = line_for who (take (end - i) (drop i text)) in
      omega (arith, ap length (lines_more h ne) ∙ length-append line (lines_for who (cut 13 (drop (end + 1) text))))

  pub lines_stop : i ≤ length text → end ≡ length text → lines_for who (cut 13 (drop i text)) ≡ []
  lines_stop h all =
      let w = whole 13 (drop i text) (omega (arith, length-drop i text)) in
      ap (λ (l : List ℕ). lines_for who (cut 13 l)) (sym w.0) ∙ ap (lines_for who) (cut_free 13 (up_to 13 (drop i text)) (up_to_free 13 (drop i text)))

pub lines_done : (who text : List ℕ) (i : ℕ) → length text ≤ i → lines_for who (cut 13 (drop i text)) ≡ []
lines_done who text i h = ap (λ (l : List ℕ). lines_for who (cut 13 l)) (drop_of_length-le text h)

-- ---- completions
module _ (items : List Completion) (count i : ℕ) where
  pub completions_more : i < count → i < length items
      → printed_completions (drop i (take count items))
      ≡ printed_completion (get_or items i no_completion) ++ printed_completions (drop (i + 1) (take count items))
  completions_more h l =
      let within : i < length (take count items) = rw length-take (omega arith) in
      ap printed_completions (drop_next (take count items) i no_completion within)
      ∙ ap (λ (c : Completion). printed_completion c ++ printed_completions (drop (i + 1) (take count items)))
      (get_or-take count items i no_completion h)

  pub completions_stop : count ≤ i → printed_completions (drop i (take count items)) ≡ []
  completions_stop h =
      let behind : length (take count items) ≤ i = rw length-take (omega arith) in
      ap printed_completions (drop_of_length-le (take count items) behind)

  pub completions_done : length items ≤ i → printed_completions (drop i (take count items)) ≡ []
  completions_done h =
      let behind : length (take count items) ≤ i = rw length-take (omega arith) in
      ap printed_completions (drop_of_length-le (take count items) behind)
