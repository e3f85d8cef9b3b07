use Rattle.std.proofs.Common.{arith, ap, ◌∙◌}
use Rattle.std.specs.FinMap as map
use Rattle.hash_index.proofs.Lists.{times_listed, IsListedOnce-remove, IsSound-by, hashes_by}
use Rattle.hash_index.proofs.index.HashIndex.remove.Goals as goal

pub take_out-requires-clause-there : goal.take_out-requires-clause-there
take_out-requires-clause-there c =
    let t = times_listed c.self.inside.bits c.self.inside.buckets.items _ c.args.self.now c.self.view_is c.self.invariant.once c.args.hash c.args.number c.requires in omega (arith, t)

pub invariant_of-self : goal.invariant_of-self
invariant_of-self c =
    IsSound-by c.self.inside.bits c.take_out.new.buckets.items _ (IsListedOnce-remove c.self.inside.bits c.self.inside.buckets.items c.take_out.new.buckets.items _ c.self.invariant.once c.args.hash c.args.number (ap (λ m. map.get m c.args.number) c.self.view_is ∙ c.requires) c.take_out.ensures) c.self.invariant.small

pub returns : goal.returns
returns c =
    hashes_by c.self.inside.bits c.take_out.new.buckets.items _ (IsListedOnce-remove c.self.inside.bits c.self.inside.buckets.items c.take_out.new.buckets.items _ c.self.invariant.once c.args.hash c.args.number (ap (λ m. map.get m c.args.number) c.self.view_is ∙ c.requires) c.take_out.ensures)
    ∙ ap (λ m. map.remove m c.args.number) c.self.view_is
