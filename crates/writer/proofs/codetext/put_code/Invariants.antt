use Rattle.writer.proofs.Writing.{Writing}
use Rattle.writer.proofs.codetext.put_code.Given as goal

abbrev pub invariant-loop-j : goal.invariant-loop-j
invariant-loop-j l = Writing l.form l.initial.out l.count l.counts l.out l.letters l.after l.j
