use Rattle.std.proofs.Common.{◌≡◌, ◌+◌, refl, sym, ap, subst, arith}
use Rattle.std.specs.FinSet as set
use Rattle.std.specs.Ordering.{nat_cmp}
use Rattle.hypertrie_model.specs.Slices.{keys}
use Rattle.trie_depth.specs.Masks.{lowest}
use Rattle.trie_depth.specs.Operands.{Admits}
use Rattle.trie_depth.specs.OperandLaws.{admits-key, key-admits, lowest-within}
use Rattle.key_join.specs.Lists.{places_of, n_free, set_of, triples}
use Rattle.key_join.specs.ListLaws.{set_of-deep}
use Rattle.key_join.proofs.CountLemmas.{n_below, none_below, all_below, one_more}
use Rattle.key_join.proofs.list.ListOpOperand.key_count.Goals as goal

pub loop-key-init : goal.loop-key-init
loop-key-init g c = record {
  counted = sym (none_below (keys nat_cmp (set_of (triples c.args.self.list.now) (places_of c.args.self.fixed)) (lowest c.args.mask.0)));
  few = omega arith;
  small = omega arith;
}

pub loop-key-preserved : goal.loop-key-preserved
loop-key-preserved g c =
    let H = set_of (triples c.args.self.list.now) (places_of c.args.self.fixed) in
    let d = n_free (places_of c.args.self.fixed) in
    let i = lowest c.args.mask.0 in
    let K = keys nat_cmp H i in
    let k = c.in-Some.key.0 in
    let deep = set_of-deep c.args.self.list.now c.args.self.fixed in
    let within = lowest-within d c.args.mask.0 c.requires.fits in
    let alone = c.lowest_alone-position.ensures in
    let is = c.from-from.ensures in
    let from = c.in-Some.ensures.from in
    let there = admits-key H d i k deep within (subst (λ n. Admits H n k) alone c.in-Some.ensures.there) in
    let more : n_below K (k + 1) ≡ n_below K c.loop-key.from + 1 = one_more K c.loop-key.from k there from (λ q le lt e. c.in-Some.ensures.least q le lt (subst (λ n. Admits H n q) (sym alone) (key-admits H d i q deep within e))) in
    let same : n_below K (c.from-from.result + 1) ≡ n_below K (k + 1) = ap (λ n. n_below K (n + 1)) is in
    let counted : c.loop-key.count ≡ n_below K c.loop-key.from = c.loop-key.invariant.counted in
    record {
      counted = omega (arith, more, same, counted);
      few = omega (arith, is, from, c.loop-key.invariant.few);
      small = omega arith;
    }

pub returns-clause-count : goal.returns-clause-count
returns-clause-count g c =
    let H = set_of (triples c.args.self.list.now) (places_of c.args.self.fixed) in
    let d = n_free (places_of c.args.self.fixed) in
    let i = lowest c.args.mask.0 in
    let deep = set_of-deep c.args.self.list.now c.args.self.fixed in
    let within = lowest-within d c.args.mask.0 c.requires.fits in
    let alone = c.lowest_alone-position.ensures in
    let all : n_below (keys nat_cmp H i) c.loop-key.from ≡ set.len (keys nat_cmp H i) = all_below (keys nat_cmp H i) c.loop-key.from
    (λ q le e. c.in_default.ensures.none refl q le (subst (λ n. Admits H n q) (sym alone) (key-admits H d i q deep within e))) in
    let counted : c.loop-key.count ≡ n_below (keys nat_cmp H i) c.loop-key.from = c.loop-key.invariant.counted in
    omega (arith, counted, all)
