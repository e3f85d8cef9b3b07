use Rattle.std.proofs.Common.{◌≡◌, true, take}
use Rattle.std.specs.List.{list_any}
use Rattle.key_join.specs.Lists.{places_of, put, agrees, triples}
use Rattle.key_join.specs.Least.{IsLeastFrom}
use Rattle.key_join.proofs.least.least.Given as goal

abbrev pub invariant-loop-triple : goal.invariant-loop-triple
invariant-loop-triple l = IsLeastFrom l.from (λ k. list_any (agrees (put l.mask.0 k (places_of l.fixed))) (triples (take l.triple-index l.list)) ≡ true) l.best
