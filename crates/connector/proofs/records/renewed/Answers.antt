use Rattle.connector.proofs.records.renewed.Goals as goal

pub renewed-pace-requires : goal.renewed-pace-requires
renewed-pace-requires c =
    let s = rw c.in-Some.is at c.requires in
    s.paced

pub returns : goal.returns
returns c = rw (c.in-Some.is, ← c.renewed-pace.ensures) c.with_sending.ensures
