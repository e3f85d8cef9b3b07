use Rattle.std.proofs.Common.{◌≡◌, ◌≤◌, ◌^◌, ◌-◌}
use Rattle.std.specs.Ordering.{nat_cmp}
use Rattle.hypertrie_model.specs.Slices.{keys}
use Rattle.trie_depth.specs.Masks.{lowest}
use Rattle.key_join.specs.Lists.{places_of, set_of, triples}
use Rattle.key_join.proofs.CountLemmas.{n_below}
use Rattle.key_join.proofs.list.ListOpOperand.key_count.Given as goal

abbrev pub invariant-loop-key : goal.invariant-loop-key
invariant-loop-key g l = record {
  counted : l.count ≡ n_below (keys nat_cmp (set_of (triples l.self.list.now) (places_of l.self.fixed)) (lowest l.fn.mask.0)) l.from;
  few : l.count ≤ l.from;
  small : l.from ≤ 2 ^ 32;
}

abbrev pub decreases-loop-key : goal.decreases-loop-key
decreases-loop-key g l = 2 ^ 32 - l.from
