use Rattle.std.proofs.Common.{refl}
use Rattle.hash_index.specs.Short.{short_of}
use Rattle.hash_index.proofs.short.short_hash.Goals as goal

pub returns : goal.returns
unfolding short_of
returns c = refl
