use Rattle.std.proofs.Common.{List, subst, sym, ap, ◌∙◌, arith}
use Rattle.std.specs.FinMap as map
use Rattle.hash_index.specs.Buckets.{Entries, IsSound, hashes_of}
use Rattle.hash_index.proofs.Lists.{IsListedOnce-empty, IsSound-by, hashes_by}
use Rattle.hash_index.proofs.index.HashIndex.new.Goals as goal

pub invariant_of-result : goal.invariant_of-result
invariant_of-result c = subst (λ (b : List Entries). IsSound b 0) (sym c.new.ensures.items) (IsSound-by 0 _ map.empty (IsListedOnce-empty 0) (omega arith))

pub returns : goal.returns
returns c = ap hashes_of c.new.ensures.items ∙ hashes_by 0 _ map.empty (IsListedOnce-empty 0)
