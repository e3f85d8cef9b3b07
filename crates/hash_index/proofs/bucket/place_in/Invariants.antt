use Rattle.std.proofs.Common.{◌≡◌, take}
use Rattle.hash_index.specs.Buckets.{times}
use Rattle.hash_index.proofs.bucket.place_in.Given as goal

abbrev pub invariant-loop-place : goal.invariant-loop-place
invariant-loop-place l = times l.hash l.number (take l.place l.entries) ≡ 0
