use Rattle.worked_tries.proofs.Batches.{both_once, second_once, second_within}
use Rattle.worked_tries.proofs.changes.shares_the_objects_of_two_triples.Goals as goal

pub counted-requires-clause-all : goal.counted-requires-clause-all
counted-requires-clause-all g c = both_once

pub counted-requires-clause-part : goal.counted-requires-clause-part
counted-requires-clause-part g c = second_once

pub counted-requires-clause-within : goal.counted-requires-clause-within
counted-requires-clause-within g c = second_within
