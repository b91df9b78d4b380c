use Rattle.hub.proofs.Keeps.{line_in_range, line_sound}
use Rattle.vectors.proofs.sending.sent.Goals as goal

pub applied-requires : goal.applied-requires
applied-requires c = rw c.line-answered.ensures.writes.result (line_in_range _ _ _ _ _)

pub returns : goal.returns
returns c =
    rw (c.applied.ensures, c.line-answered.ensures.writes.result) (line_sound _ _ _ _ _ c.requires)
