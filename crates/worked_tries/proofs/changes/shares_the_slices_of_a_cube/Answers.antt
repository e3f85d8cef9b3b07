use Rattle.worked_tries.proofs.Batches.{cube_once, odd_once, odd_within}
use Rattle.worked_tries.proofs.changes.shares_the_slices_of_a_cube.Goals as goal

pub counted-requires-clause-all : goal.counted-requires-clause-all
counted-requires-clause-all g c = cube_once

pub counted-requires-clause-part : goal.counted-requires-clause-part
counted-requires-clause-part g c = odd_once

pub counted-requires-clause-within : goal.counted-requires-clause-within
counted-requires-clause-within g c = odd_within
