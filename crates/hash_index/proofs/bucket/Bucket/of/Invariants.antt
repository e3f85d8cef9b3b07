use Rattle.std.proofs.Common.{◌≡◌, ◌==◌, take}
use Rattle.std.specs.List.{filter}
use Rattle.hash_index.specs.Buckets.{bucket_of}
use Rattle.hash_index.proofs.bucket.Bucket.of.Given as goal

abbrev pub invariant-loop-entry : goal.invariant-loop-entry
invariant-loop-entry l = l.chosen ≡ filter (λ e. bucket_of l.bits l.count e.hash == l.bucket) (take l.entry-index l.entries)
