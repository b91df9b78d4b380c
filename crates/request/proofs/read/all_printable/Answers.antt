use mathlib.Core.Path.{◌≡◌, refl, sym, ◌∙◌}
use mathlib.Core.List.{◌++◌}
use native.Mathlib.Omega.{arith}
use lib.ListN.{take, drop, length-drop}
use Rattle.std.proofs.lemmas.List.{take-append-drop}
use Rattle.request.specs.Request.{is_printable}
use Rattle.request.proofs.Covering.{all_left, piece_more, piece_last}
use Rattle.request.proofs.read.all_printable.Goals as goal

pub returns-then-run_printable : goal.returns-then-run_printable
returns-then-run_printable c =
    let s = c.args.s.now in
    let front = piece_more is_printable s s (take 8 s) (drop 8 s) (all_left is_printable s) (sym (take-append-drop 8 s)) (sym c.if-run_printable.ensures) in
    c.run_printable-then-run_printable.ensures ∙ piece_last is_printable s (drop 8 s) 8 front (omega (arith, length-drop 8 s)) (omega arith)

pub loop-piece-init : goal.loop-piece-init
loop-piece-init c = (all_left is_printable c.args.s.now, refl, omega arith)

pub loop-piece-preserved : goal.loop-piece-preserved
loop-piece-preserved c =
    let inv = c.loop-piece.invariant in
    let rest = c.loop-piece.left.now in
    let cut = rw c.in-Some.is at c.split_at_checked.ensures.cases in
    let parts : rest ≡ c.in-Some.piece.now ++ c.in-Some.behind.now = rw (cut.1, cut.2) (sym (take-append-drop 16 rest)) in
    (piece_more is_printable c.args.s.now rest c.in-Some.piece.now c.in-Some.behind.now inv.0 parts (sym c.run_printable-in-Some.ensures ∙ c.if-not-run_printable.false), refl, inv.2)

pub returns : goal.returns
returns c =
    let inv = c.loop-piece.invariant in
    let short = rw c.in_default.is at c.split_at_checked.ensures.cases in
    c.run_printable-2.ensures ∙ piece_last is_printable c.args.s.now c.loop-piece.left.now 16 inv.0 (omega (arith, short)) inv.2
