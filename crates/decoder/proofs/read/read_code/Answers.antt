use Prim.Native.Nat.{◌<◌}
use mathlib.Core.Path.{◌≡◌, sym, ◌∙◌}
use mathlib.Core.Bool.{false}
use mathlib.Core.List.{[]}
use native.Mathlib.Omega.{arith}
use Rattle.std.specs.Prelude.{Ok}
use lib.ListN.{length}
use Rattle.code.specs.declared.next.Next.TheVariants.{Spelled, Letter}
use Rattle.code.specs.Next.{next_pair}
use Rattle.decoder.specs.Follows.{lags}
use Rattle.decoder.proofs.Reading.{lagging, going_start, going_room, going_learnt, going_end, going_fault, going_spelled, going_letter, going_sound}
use borrow.Author.Rules.{rules}
use Rattle.decoder.proofs.read.read_code.Goals as goal
use Rattle.decoder.proofs.read.read_code.Goals.{Else-lags, In-Ok-Spelled, In-Ok-Letter}

up : (c : Else-lags) → lags c.args.s.now c.loop-letters.at c.loop-letters.seen c.loop-letters.count ≡ false
up c = sym c.lags.ensures ∙ c.if-lags.false

-- what stands next where a pair is read
spelled : (c : In-Ok-Spelled)
    → next_pair c.args.freq c.loop-letters.count c.loop-letters.letters.count c.loop-letters.after c.args.s.now c.loop-letters.at
    ≡ Ok (Spelled c.in-Ok-Spelled.p c.in-Ok-Spelled.next)
spelled c = rw c.in-Ok-Spelled.field-0-is at (sym c.next_pair.ensures ∙ c.in-Ok-Spelled.is)

lettered : (c : In-Ok-Letter)
    → next_pair c.args.freq c.loop-letters.count c.loop-letters.letters.count c.loop-letters.after c.args.s.now c.loop-letters.at
    ≡ Ok (Letter c.in-Ok-Letter.i c.in-Ok-Letter.next)
lettered c = rw c.in-Ok-Letter.field-0-is at (sym c.next_pair.ensures ∙ c.in-Ok-Letter.is)

spelled_room : (c : In-Ok-Spelled) → c.loop-letters.count < 260
spelled_room c = (going_sound c.loop-letters.invariant (sym c.lags.ensures ∙ c.if-lags.false) (spelled c)).0

letter_room : (c : In-Ok-Letter) → c.loop-letters.count < 260
letter_room c = (going_sound c.loop-letters.invariant (sym c.lags.ensures ∙ c.if-lags.false) (lettered c)).0

letter_known : (c : In-Ok-Letter) → c.in-Ok-Letter.i < c.loop-letters.letters.count
letter_known c = (going_sound c.loop-letters.invariant (sym c.lags.ensures ∙ c.if-lags.false) (lettered c)).1

pub loop-letters-init : goal.loop-letters-init
loop-letters-init c = rw c.none-letters.ensures (going_start _ _ _ _)

pub loop-letters-smaller-then-lags : goal.loop-letters-smaller-then-lags
loop-letters-smaller-then-lags c =
    let behind : c.loop-letters.seen < c.loop-letters.count = lagging _ _ _ _ (sym c.lags.ensures ∙ c.if-lags.true) in
    omega (arith, c.loop-letters.invariant.some)

pub loop-letters-preserved-then-lags : goal.loop-letters-preserved-then-lags
loop-letters-preserved-then-lags c =
    let inv = c.loop-letters.invariant in
    let room = going_room inv in
    going_learnt inv (search rules) c.learn_all-letters.ensures

pub returns-in-Ok-End : goal.returns-in-Ok-End
returns-in-Ok-End c =
    going_end c.loop-letters.invariant (up (goal.at.returns-in-Ok-End c).Else-lags)
    (rw c.in-Ok-End.field-0-is at (sym c.next_pair.ensures ∙ c.in-Ok-End.is))

pub returns-in-Err : goal.returns-in-Err
returns-in-Err c =
    going_fault c.loop-letters.invariant (up (goal.at.returns-in-Err c).Else-lags) (sym c.next_pair.ensures ∙ c.in-Err.is)

pub put_pair-requires : goal.put_pair-requires
put_pair-requires c =
    let room = spelled_room (goal.at.put_pair-requires c).In-Ok-Spelled in
    search rules

pub loop-letters-smaller-in-Ok-Spelled : goal.loop-letters-smaller-in-Ok-Spelled
loop-letters-smaller-in-Ok-Spelled c =
    let room = spelled_room (goal.at.loop-letters-smaller-in-Ok-Spelled c).In-Ok-Spelled in
    let run = (c.spelled_run-far.ensures []).1 in
    omega (arith, run.room (omega arith), run.counted, c.loop-letters.invariant.some)

pub loop-letters-preserved-in-Ok-Spelled : goal.loop-letters-preserved-in-Ok-Spelled
loop-letters-preserved-in-Ok-Spelled c =
    let at = goal.at.loop-letters-preserved-in-Ok-Spelled c in
    let size : length c.loop-letters.counts ≡ 520 = search rules in
    going_spelled c.loop-letters.invariant (up at.Else-lags) (spelled at.In-Ok-Spelled) size c.put_pair.ensures c.spelled_run-far.ensures

pub offset_bounds-letters-i : goal.offset_bounds-letters-i
offset_bounds-letters-i c =
    omega (arith, letter_known (goal.at.offset_bounds-letters-i c).In-Ok-Letter, c.loop-letters.invariant.few)

pub bounds-letters-i : goal.bounds-letters-i
bounds-letters-i c =
    omega (arith, letter_known (goal.at.bounds-letters-i c).In-Ok-Letter, c.loop-letters.invariant.few)

pub put_pair-requires-in-Ok-Letter : goal.put_pair-requires-in-Ok-Letter
put_pair-requires-in-Ok-Letter c =
    let room = letter_room (goal.at.put_pair-requires-in-Ok-Letter c).In-Ok-Letter in
    search rules

pub loop-letters-smaller : goal.loop-letters-smaller
loop-letters-smaller c =
    let room = letter_room (goal.at.loop-letters-smaller c).In-Ok-Letter in
    let run = c.letter_run-far.ensures 0 in
    omega (arith, run.room (omega arith), run.counted)

pub loop-letters-preserved : goal.loop-letters-preserved
loop-letters-preserved c =
    let at = goal.at.loop-letters-preserved c in
    let size : length c.loop-letters.counts ≡ 520 = search rules in
    going_letter c.loop-letters.invariant (up at.Else-lags) (lettered at.In-Ok-Letter) size c.put_pair-in-Ok-Letter.ensures c.letter_run-far.ensures
