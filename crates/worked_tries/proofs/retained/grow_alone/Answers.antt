use Rattle.std.proofs.Common.{arith}
use Rattle.std.specs.Cmp.{nat_cmp_total as total}
use Rattle.std.specs.FinMap.{nat_cmp-IsAntisymmetric as exact}
use Rattle.std.specs.Ordering.{nat_cmp}
use Rattle.hypertrie_model.specs.ChangeLaws.{len-grown}
use Rattle.hypertrie_model.specs.SetLaws.{len-single}
use Rattle.hypertrie_model.specs.Sets.{single}
use Rattle.trie_depth.specs.Tuples.{trip_tuple}
use Rattle.trie_context.specs.Roots.{root_set}
use Rattle.worked_tries.proofs.Alone.{alone_new, no_extra}
use Rattle.worked_tries.proofs.OneMore.{has_grown}
use Rattle.worked_tries.proofs.retained.grow_alone.Goals as goal

pub grow-requires : goal.grow-requires
grow-requires g c =
    let G = root_set c.args.context.now c.args.root.now in
    let t = trip_tuple c.args.triple in
    record {
      held = c.requires.ready.held;
      once = len-single total exact t;
      fits = alone_new G t c.requires.new;
      counts = c.requires.ready.counts;
      size = omega (arith, c.requires.ready.size, len-grown total exact G (single nat_cmp t) (alone_new G t c.requires.new), len-single total exact t);
    }

pub returns-clause-retained : goal.returns-clause-retained
returns-clause-retained g c =
    omega (arith, c.grow.ensures.retained c.requires.ready.only, no_extra (root_set c.args.context.now c.args.root.now) (trip_tuple c.args.triple) c.requires.alone)

pub returns-clause-grown : goal.returns-clause-grown
returns-clause-grown g c =
    has_grown g.M.Mix.mixed c.args.context.now c.grow.new.context c.args.root.now c.grow.new.root c.args.triple c.grow.result c.requires.ready.only c.grow.ensures.changed
