-- What the hub makes of a composed request. Document 02: "the hub reads each composed request as composed, repeat capped". And it is one line with
-- one CR, however it is cut.
use Prim.Native.Nat.{ℕ, ◌≤◌}
use mathlib.Core.Path.{◌≡◌, refl, ap, ◌∙◌}
use mathlib.Core.Bool.{Bool, true, false, not}
use mathlib.Core.List.{List, [], ◌∷◌, ◌++◌, flatten}
use native.Mathlib.Omega.{arith}
use borrow.Author.Tests.{le-leb, ltb-false, ne_eqb, not-false}
use lib.Dec.{ltb, eqb}
use lib.ListN.{length, take}
use Rattle.std.proofs.Common.{Ok}
use Rattle.laws.specs.Checks.{between}
use Rattle.laws.specs.Lists.{all}
use Rattle.laws.proofs.Choice.{by_test, cond_case, not_both, guard, and_true, between_most}
use Rattle.laws.proofs.Lists.{all_weaker}
use Rattle.words.specs.Pairs.{pairs_of}
use Rattle.theorems.specs.Spelled.{command, IsSendir}
use Rattle.request.specs.declared.Request.{Request}
use Rattle.request.specs.declared.Request.TheVariants.{Fault, Fixed, Connector, Relay}
use Rattle.request.specs.declared.Place.{Place}
use Rattle.request.specs.Request.{is_printable, fault, read_request}
use Rattle.command.specs.declared.given.Command.{Command}
use Rattle.writer.specs.declared.Form.{Form}
use Rattle.writer.specs.Sendir.{line, outcome}
use Rattle.readback.specs.RoundTrip.{ReadsBack}
use Rattle.readback.proofs.RoundTrip.{line_back, line_meant}
use Rattle.lines.specs.Cut.{whole, line_of, lines_of, no_cr}
use Rattle.lines.specs.Take.{fresh_assembler}
use Rattle.lines.specs.Feed.{feed}
use Rattle.lines.proofs.Cutting.{lines_are}
use Rattle.lines.proofs.Feeding.{feed_is_lines}
use Rattle.composer.specs.declared.Wish.{Wish}
use Rattle.composer.specs.declared.Wish.TheVariants as wish
use Rattle.composer.specs.Fault.{place_fault, sendir_fault, lamp_fault, wish_fault}
use Rattle.composer.specs.Compose.{wish_text, wish_outcome, sendir_outcome, Composes}
use Rattle.readback.specs.Composed.{request_of, Wide, WideWish}
use Rattle.composer.proofs.Faults.{no_fault, neither, place_within_law}
use Rattle.composer.proofs.Composing.{LineComposed, line_composed}
use Rattle.composer.proofs.Sending.{sendir_text, sendir_outcome_law}
use Rattle.readback.proofs.Wishes.{wish_read}

-- the pieces of what was composed give the lines of its text and its CR
one_line : {text line : List ℕ} (pieces : List (List ℕ)) (buffer : List ℕ) → length buffer ≡ 4096 → flatten pieces ≡ line → line ≡ text ++ (13 ∷ [])
    → lines_of (text ++ (13 ∷ [])) ≡ whole text ∷ [] → (feed pieces fresh_assembler buffer).lines ≡ whole text ∷ []
one_line pieces buffer h cut is one = feed_is_lines pieces buffer h ∙ ap lines_of (cut ∙ is) ∙ one

-- ---- a line that the hub reads as a request has no CR, and is no longer than a line may be
abbrev is_fault : Request → Bool
is_fault (Fault number place) = true
is_fault (Fixed fixed) = false
is_fault (Connector place ask) = false
is_fault (Relay place turn) = false

printable_no_cr : (b : ℕ) → is_printable b ≡ true → no_cr b ≡ true
printable_no_cr b e =
    let least = ltb-false b 32 (guard (ltb b 32) _ e).0 in
    rw (ne_eqb b 13 (λ z. omega arith))

request_line : (s : List ℕ) → is_fault (read_request s) ≡ false → lines_of (s ++ (13 ∷ [])) ≡ whole s ∷ []
unfolding read_request line_of
request_line s =
    let P : Request → Type 0 = λ r. is_fault r ≡ false → lines_of (s ++ (13 ∷ [])) ≡ whole s ∷ [] in
    cond_case P (ltb 4096 (length s)) (fault 15) _ (λ _ z. not_both refl z) λ short.
    cond_case P (not (all is_printable s)) (fault 1) _ (λ _ z. not_both refl z) λ e _.
    let free = all_weaker is_printable no_cr printable_no_cr s (not-false _ e) in
    lines_are (s ∷ []) [] (and_true (all no_cr s) true free refl) refl ∙ rw (le-leb (length s) 4096 (ltb-false 4096 (length s) short))

-- ---- a request, but for sendir

-- a place that is taken has small numbers
place_wide : (least most : ℕ) (a : Place) → most ≤ 2 → place_fault least most a ≡ 0 → Wide a.m × Wide a.port
place_wide least most a h e =
    let w = place_within_law least most a e in
    (omega (arith, w.most_module), omega (arith, w.most_port))

fine_wide : (w : Wish) → wish_fault w ≡ 0 → WideWish w
unfolding wish_fault lamp_fault
fine_wide (wish.Fixed fixed) e = tt
fine_wide (wish.SetMode a mode) e = place_wide 1 1 a (omega arith) (neither (place_fault 1 1 a) _ e).0
fine_wide (wish.GetMode a) e = place_wide 1 1 a (omega arith) e
fine_wide (wish.SetState a state) e =
    let both = neither (place_fault 2 2 a) _ e in
    let w = place_wide 2 2 a (omega arith) both.0 in
    let small = ltb-false 1 state (no_fault (ltb 1 state) 23 0 (omega arith) both.1).0 in
    (w.0, w.1, omega arith)
fine_wide (wish.GetState a) e = place_wide 1 2 a (omega arith) e
fine_wide (wish.Stop a) e = place_wide 1 1 a (omega arith) e
fine_wide (wish.SetLamp a target ramp) e =
    let both = neither (place_fault 1 1 a) (lamp_fault target ramp) e in
    let w = place_wide 1 1 a (omega arith) both.0 in
    let lit = no_fault (not (between 1 100 target)) 23 _ (omega arith) both.1 in
    let most = between_most 1 100 target (not-false _ lit.0) in
    let slow = ltb-false 10 ramp (no_fault (ltb 10 ramp) 23 0 (omega arith) lit.1).0 in
    (w.0, w.1, omega arith, omega arith)
fine_wide (wish.GetLamp a) e = place_wide 1 1 a (omega arith) e

wished : (w : Wish) → is_fault (request_of w) ≡ false
wished (wish.Fixed fixed) = refl
wished (wish.SetMode a mode) = refl
wished (wish.GetMode a) = refl
wished (wish.SetState a state) = refl
wished (wish.GetState a) = by_test (eqb a.m 1) (λ e. rw e) (λ e. rw e)
wished (wish.Stop a) = refl
wished (wish.SetLamp a target ramp) = refl
wished (wish.GetLamp a) = refl

module _ {before : List ℕ} (w : Wish) {after : List ℕ} {n : ℕ} (composed : Composes (wish_outcome (length before) w) before (Ok n) after) where
  made : LineComposed (wish_fault w) (wish_text w) before after n
  made = line_composed (wish_fault w) (wish_text w) composed

  read : read_request (wish_text w) ≡ request_of w
  read = wish_read w (fine_wide w made.fine) ∙ rw made.fine

  pub composed_read : (take n after ≡ wish_text w ++ (13 ∷ [])) × (read_request (wish_text w) ≡ request_of w)
  composed_read = (made.written, read)

  pub composed_one_line : (pieces : List (List ℕ)) (buffer : List ℕ) → length buffer ≡ 4096 → flatten pieces ≡ take n after
      → (feed pieces fresh_assembler buffer).lines ≡ whole (wish_text w) ∷ []
  composed_one_line pieces buffer h cut = one_line pieces buffer h cut made.written (request_line (wish_text w) (ap is_fault read ∙ wished w))

-- ---- a sendir

module _ {before : List ℕ} (form : Form) (c : Command) (counts : List ℕ) {after : List ℕ} {n : ℕ}
    (composed : Composes (sendir_outcome (length before) form c counts) before (Ok n) after) where
  made_sendir : LineComposed (sendir_fault c counts) (sendir_text form c counts) before after n
  made_sendir = line_composed (sendir_fault c counts) (sendir_text form c counts) composed

  written : outcome (length before) form c counts ≡ line (sendir_text form c counts)
  written = sendir_outcome_law form c counts before made_sendir.fine made_sendir.room

  -- the hub reads the place, the fields with the repeat as capped, and the pairs
  pub sendir_composed_read : (take n after ≡ sendir_text form c counts ++ (13 ∷ [])) × ReadsBack c (pairs_of counts) (sendir_text form c counts)
  sendir_composed_read = (made_sendir.written, line_back (length before) form c counts (sendir_text form c counts) written)

  -- the table takes it for the same sendir, without a fault
  pub sendir_composed_meant :
      IsSendir (sendir_text form c counts) c.place.port (command c.fields.id c.fields.freq c.fields.repeat c.fields.offset)
      (pairs_of counts)
  sendir_composed_meant = line_meant (length before) form c counts (sendir_text form c counts) written

  pub sendir_one_line : (pieces : List (List ℕ)) (buffer : List ℕ) → length buffer ≡ 4096 → flatten pieces ≡ take n after
      → (feed pieces fresh_assembler buffer).lines ≡ whole (sendir_text form c counts) ∷ []
  sendir_one_line pieces buffer h cut =
      let back = sendir_composed_read.1 in
      one_line pieces buffer h cut made_sendir.written (request_line (sendir_text form c counts) (ap is_fault back.request))
