use Rattle.hub.proofs.answers.written.Goals as goal

pub returns : goal.returns
returns c =
    let put = c.put_answer-size.ensures in
    record { result = rw put.result; laid = put.laid }
