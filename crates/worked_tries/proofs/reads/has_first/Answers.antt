use Rattle.std.proofs.Common.{arith}
use Rattle.std.proofs.Math.Pow.{pow-lt}
use Rattle.worked_tries.proofs.reads.has_first.Goals as goal

pub seek-requires : goal.seek-requires
seek-requires g c = record { fits = (omega arith, pow-lt c.requires) }
