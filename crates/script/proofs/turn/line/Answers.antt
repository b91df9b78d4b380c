use native.Mathlib.Omega.{arith}
use Rattle.script.specs.Turn.{line_outcome}
use Rattle.script.proofs.Turning.{for_one_law, again_length, again_stands, change_so, sized_so, answer_shown}
use Rattle.script.proofs.turn.line.Goals as goal

pub put_answer-requires : goal.put_answer-requires
put_answer-requires c =
    let told = c.answered-answered.ensures.writes in
    let args = c.args in
    let o = line_outcome args.hub args.store.now args.connection args.request.now args.more in (
      omega (arith, c.requires.1, again_length o.decided args.out.now args.used c.requires.1 told),
      rw told.result (for_one_law args.hub args.store.now args.connection args.request.now args.more),
      sized_so o.decided args.out.now args.used c.requires.1 told,
      again_stands o.decided args.out.now args.used c.requires.1 told,
    )

pub returns : goal.returns
returns c =
    let answered = c.answered-answered.ensures in
    let args = c.args in
    let o = line_outcome args.hub args.store.now args.connection args.request.now args.more in
    record {
      change = change_so o.decided args.out.now args.used c.requires.1 answered.writes;
      kept = answered.kept;
      printed = answer_shown o.decided args.out.now args.used c.requires.1 answered.writes args.connection c.put_answer.ensures;
    }
