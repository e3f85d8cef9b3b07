use Rattle.std.proofs.Common.{refl}
use Rattle.tentris_core.proofs.block.begin.Goals as goal

pub returns : goal.returns
returns c = λ s change none. record { count = refl; batch = none.0 }
