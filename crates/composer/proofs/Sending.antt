-- A sendir in which nothing is wrong is one that the writer takes, and its line leaves room for the CR.
use Prim.Native.Nat.{ℕ, ◌+◌, ◌%◌, ◌≤◌}
use mathlib.Core.Path.{◌≡◌}
use mathlib.Core.Bool.{true, not}
use mathlib.Core.List.{List}
use native.Mathlib.Omega.{arith}
use borrow.Author.Tests.{ltb-false, le-ltb, le-leb, eqb-true, eqb-false, eq-eqb, not-false}
use lib.Dec.{ltb, leb, eqb}
use lib.ListN.{length, take}
use lib.Seq.{take_all}
use Rattle.std.proofs.Common.{Result, Ok}
use Rattle.laws.specs.Checks.{between}
use Rattle.laws.specs.Lists.{all}
use Rattle.laws.specs.Put.{over, Put}
use Rattle.laws.proofs.Put.{put_length}
use Rattle.laws.proofs.Choice.{between_least, between_most}
use Rattle.words.specs.Pairs.{pairs_of}
use Rattle.code.specs.Limits.{legal, most_id, least_freq, most_freq, most_repeat, most_offset, most_counts}
use Rattle.request.specs.declared.Place.{Place}
use Rattle.command.specs.declared.given.Given.{Given}
use Rattle.command.specs.declared.given.Command.{Command}
use Rattle.command.specs.Read.{sent}
use Rattle.command.specs.Given.{place_within, given_within, counts_within, taken_as, command_given}
use Rattle.writer.specs.declared.Form.{Form}
use Rattle.writer.specs.CodeText.{code_text}
use Rattle.writer.specs.Sendir.{sendir_line, outcome, Wrote, line}
use Rattle.writer.proofs.Limits.{given_taken, small}
use Rattle.writer.proofs.Heads.{line_is}
use Rattle.writer.proofs.Bytes.{head_few, code_few}
use Rattle.composer.specs.Fault.{place_fault, fields_fault, counts_fault, sendir_fault}
use Rattle.composer.proofs.Faults.{no_fault, neither, place_within_law}

-- ---- what the writer takes
connector_within : (a : Place) → place_fault 1 1 a ≡ 0 → place_within a ≡ true
unfolding place_within
connector_within a e =
    let w = place_within_law 1 1 a e in
    rw (eq-eqb a.m 1 (omega (arith, w.least_module, w.most_module)), le-ltb a.port 1 w.least_port, le-leb a.port 3 w.most_port)

fields_within : (f : Given) → fields_fault f ≡ 0 → given_within f ≡ true
unfolding fields_fault given_within
fields_within f e =
    let id = no_fault (not (between 0 most_id f.id)) 4 _ (omega arith) e in
    let freq = no_fault (not (between least_freq most_freq f.freq)) 5 _ (omega arith) id.1 in
    let repeat = no_fault (not (between 1 most_repeat f.repeat)) 6 _ (omega arith) freq.1 in
    let offset = no_fault (not (between 1 most_offset f.offset)) 7 _ (omega arith) repeat.1 in
    let odd = no_fault (eqb (f.offset % 2) 0) 7 _ (omega arith) offset.1 in
    rw (
      le-ltb most_id f.id (between_most 0 most_id f.id (not-false _ id.0)),
      le-ltb f.freq least_freq (between_least least_freq most_freq f.freq (not-false _ freq.0)),
      le-ltb most_freq f.freq (between_most least_freq most_freq f.freq (not-false _ freq.0)),
      le-ltb f.repeat 1 (between_least 1 most_repeat f.repeat (not-false _ repeat.0)),
      le-ltb most_repeat f.repeat (between_most 1 most_repeat f.repeat (not-false _ repeat.0)),
      le-ltb most_offset f.offset (between_most 1 most_offset f.offset (not-false _ offset.0)),
      odd.0,
    )

counts_within_law : (freq : ℕ) (counts : List ℕ) → counts_fault freq counts ≡ 0 → counts_within freq counts ≡ true
unfolding counts_fault counts_within
counts_within_law freq counts e =
    let some = no_fault (eqb (length counts) 0) 9 _ (omega arith) e in
    let legals = no_fault (not (all (legal freq) (take most_counts counts))) 9 _ (omega arith) some.1 in
    let most = no_fault (ltb most_counts (length counts)) 20 _ (omega arith) legals.1 in
    let even = no_fault (not (eqb (length counts % 2) 0)) 10 _ (omega arith) most.1 in
    let few = ltb-false most_counts (length counts) most.0 in
    let pairs = eqb-true (length counts % 2) 0 (not-false _ even.0) in
    rw (
      le-ltb (length counts) 2 (omega (arith, eqb-false (length counts) 0 some.0)),
      most.0,
      even.0,
    )
    (rw (take_all most_counts counts few) at (not-false (all (legal freq) (take most_counts counts)) legals.0))

sendir_sent : (c : Command) (counts : List ℕ) → sendir_fault c counts ≡ 0 → command_given c counts ≡ sent (taken_as c.fields) (pairs_of counts)
unfolding sendir_fault command_given
sendir_sent c counts e =
    let place = neither (place_fault 1 1 c.place) _ e in
    let fields = neither (fields_fault c.fields) _ place.1 in
    let code = neither (counts_fault c.fields.freq counts) _ fields.1 in
    let offset = no_fault (leb (length counts) c.fields.offset) 7 0 (omega arith) code.1 in
    rw (
      connector_within c.place place.0,
      fields_within c.fields fields.0,
      counts_within_law c.fields.freq counts code.0,
      offset.0,
    )

-- ---- what the writer leaves

-- without its CR
abbrev pub sendir_text : Form → Command → List ℕ → List ℕ
sendir_text form c counts = sendir_line form c.place (taken_as c.fields) (pairs_of counts)

module _ (form : Form) (c : Command) (counts : List ℕ) where
  pub sendir_outcome_law : (before : List ℕ) → sendir_fault c counts ≡ 0 → 4096 ≤ length before
      → outcome (length before) form c counts ≡ line (sendir_text form c counts)
  unfolding outcome
  sendir_outcome_law before fine room = rw (le-ltb (length before) 4096 room, sendir_sent c counts fine)

  pub sendir_few : sendir_fault c counts ≡ 0 → length (sendir_text form c counts) ≤ 3684
  sendir_few fine =
      let t = given_taken c counts (taken_as c.fields) (pairs_of counts) (sendir_sent c counts fine) in
      let code = code_text form (pairs_of counts) in
      rw (line_is c.place.port (taken_as c.fields) code)
      (omega (
        arith,
        head_few code (small t.place t.accepts.fields),
        code_few form c.fields.freq (pairs_of counts) t.accepts.code.allowed,
        t.accepts.code.most,
      ))

-- the line and no CR yet
pub record SendirWritten (text before after : List ℕ) (r : Result ℕ ℕ) : Type 0 where
  pub answer : r ≡ Ok (length text)
  pub laid : after ≡ over before 0 text
  pub few : length text ≤ 3684

pub sendir_written : {before after counts : List ℕ} {form : Form} {c : Command} {r : Result ℕ ℕ} → sendir_fault c counts ≡ 0 → 4096 ≤ length before
    → Wrote before form c counts after r → SendirWritten (sendir_text form c counts) before after r
sendir_written {before} {counts = counts} {form = form} {c = c} fine room w =
    let e = sendir_outcome_law form c counts before fine room in
    record { answer = rw e at w.answer; laid = rw e at w.laid; few = sendir_few form c counts fine }

module _ {text before after : List ℕ} {r : Result ℕ ℕ} {size : ℕ} (w : SendirWritten text before after r) (is : r ≡ Ok size)
    (room : 4096 ≤ length before) where
  length_is : size ≡ length text
  length_is = let e = w.answer in cc

  pub written_put : Put before 0 text after size
  written_put = record { place = omega (arith, length_is); room = omega (arith, length_is, w.few); laid = w.laid }

  pub cr_fits : size + 1 ≤ length after
  cr_fits = omega (arith, length_is, w.few, put_length written_put)
