use native.Mathlib.Omega.{arith}
use lib.ListN.{length-take}
use Rattle.vectors.proofs.many_pairs.Goals as goal

pub slice_bounds-code_vector-end-2 : goal.slice_bounds-code_vector-end-2
slice_bounds-code_vector-end-2 g c = omega (arith, length-take 1039 c.spelled-spelled.result)

pub slice_bounds-code_vector-end-4 : goal.slice_bounds-code_vector-end-4
slice_bounds-code_vector-end-4 g c = omega (arith, length-take 1040 c.spelled-spelled.result)
