use Rattle.std.proofs.Common.{◌∙◌, ◌+◌, arith}
use Rattle.std.proofs.lemmas.Nat.{one_shl}
use Rattle.hash_index.proofs.Places.{bucket_of-wider}
use Rattle.hash_index.proofs.index.next_bits.Goals as goal

pub returns-then-count-bits-clause-same : goal.returns-then-count-bits-clause-same
returns-then-count-bits-clause-same c hash = bucket_of-wider c.args.bits c.args.count hash (c.if-count-bits.true ∙ one_shl (c.args.bits + 1) 64 (omega (arith, c.if-bits-lt31.true)))
