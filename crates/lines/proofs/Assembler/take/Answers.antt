use Prim.Native.Nat.{ℕ, suc}
use mathlib.Core.Path.{◌≡◌, ap, ◌∙◌}
use native.Mathlib.Omega.{arith}
use lib.ListN.{length}
use Rattle.lines.specs.declared.Found.TheVariants.{Nothing}
use Rattle.lines.specs.Take.{assembler, found_of, step_of}
use Rattle.lines.proofs.Taking.{refuses, at_byte, at_cr, at_end_law, counted_most, takes}
use borrow.Author.Rules.{rules}
use Rattle.lines.proofs.Assembler.take.Goals as goal

pub returns-then-buf-ne-ROOM : goal.returns-then-buf-ne-ROOM
returns-then-buf-ne-ROOM c = refuses _ _ _ c.if-buf-ne-ROOM.true

pub returns-then-piece-i-eq13 : goal.returns-then-piece-i-eq13
returns-then-piece-i-eq13 c =
    let i = c.loop-i.invariant in
    let cr = at_cr _ _ _ _ c.loop-i-test.true c.if-piece-i-eq13.true i.0 in
    rw (c.fresh.ensures, c.found_of.ensures) (takes _ _ _ c.if-buf-ne-ROOM.false (i.2 ∙ cr))

pub loop-i-preserved : goal.loop-i-preserved
loop-i-preserved c =
    let i = c.loop-i.invariant in
    let k = c.kept-size.ensures in
    let byte = at_byte _ _ _ _ c.loop-i-test.true c.if-piece-i-eq13.false i.1 in
    (rw k.0 (counted_most (suc c.loop-i.size)), search rules, i.2 ∙ rw (k.0, k.1) byte)

pub returns : goal.returns
unfolding found_of
returns c =
    let i = c.loop-i.invariant in
    let all : c.loop-i.i ≡ length c.args.piece.now = omega arith in
    let end = at_end_law _ _ _ _ c.loop-i-test.false i.0 in
    takes _ _ _ c.if-buf-ne-ROOM.false (i.2 ∙ end ∙ ap (λ (n : ℕ). step_of (assembler c.loop-i.size) n Nothing c.loop-i.buf) all)
