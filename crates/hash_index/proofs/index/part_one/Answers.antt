use Rattle.std.proofs.Common.{ap, sym, ◌∙◌}
use Rattle.hash_index.specs.Buckets.{bucket_of}
use Rattle.hash_index.proofs.Lists.{IsListedOnce-part, IsListedOnce-bits}
use Rattle.hash_index.proofs.index.part_one.Goals as goal

pub returns-clause-same : goal.returns-clause-same
returns-clause-same c hashes once =
    let old = c.args.buckets.now.items in
    let count = c.len.ensures ∙ c.args.buckets.now.ok.0 in
    let wide = c.next_bits-wide.result in
    IsListedOnce-part wide old c.part.new.buckets.items hashes
    (IsListedOnce-bits c.args.bits.now wide old hashes (λ h. ap (λ n. bucket_of wide n h) (sym count) ∙ c.next_bits-wide.ensures.same h ∙ ap (λ n. bucket_of c.args.bits.now n h) count) once)
    c.in_ok-part.ensures.parted
