use Prim.Native.Nat.{◌+◌, ◌%◌}
use mathlib.Core.Path.{◌≡◌}
use native.Mathlib.Omega.{arith}
use Rattle.writer.proofs.Writing.{writing_start, writing_end, writing_letter, writing_spelled, at_most}
use Rattle.writer.proofs.codetext.put_code.Goals as goal
use Rattle.writer.proofs.codetext.put_code.Goals.{then-i-in_use, else-i-in_use}

pub loop-j-init : goal.loop-j-init
loop-j-init c = rw c.none-letters.ensures (writing_start _ _ _ _ c.requires.1)

pub loop-j-preserved : goal.loop-j-preserved
loop-j-preserved c =
    let inv = c.loop-j.invariant in
    elim c.if-i-in_use.branch [
      | then-i-in_use w ↦
          let h = rw c.in_use.ensures at w.if-i-in_use.true in
          let e : 65 + c.place_of-i.result % 15 ≡ 65 + c.place_of-i.result =
          omega (arith, at_most c.args.form c.loop-j.letters.count, inv.kept.few) in
          let p = rw e at w.byte.ensures in
          rw (w.out-is, w.letters-is, w.after-is) (writing_letter inv c.loop-j-test.true c.place_of-i.ensures h p)
      | else-i-in_use w ↦
          let h = rw c.in_use.ensures at w.if-i-in_use.false in
          let put = w.put_spelled.ensures in
          rw (w.out-is, w.letters-is, w.after-is)
          (writing_spelled inv c.loop-j-test.true c.place_of-i.ensures h put.spelled put.within (w.learn-letters.ensures.kept inv.kept.few))
    ]

pub returns : goal.returns
returns c = writing_end c.loop-j.invariant c.loop-j-test.false
