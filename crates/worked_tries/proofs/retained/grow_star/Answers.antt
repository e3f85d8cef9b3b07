use Rattle.std.proofs.Common.{◌≡◌, ◌∙◌, length, ap, sym, subst, arith}
use Rattle.std.specs.FinSet as set
use Rattle.trie_depth.specs.Tuples.{trip_tuple}
use Rattle.trie_context.specs.declared.root.Root.TheVariants.{Empty}
use Rattle.trie_context.specs.Rows.{no_tables}
use Rattle.trie_context.specs.Roots.{root_set}
use Rattle.trie_context.specs.RootShape.{OnlyRootHeld}
use Rattle.trie_change.specs.Batches.{set_of_entries, IsOnce}
use Rattle.worked_tries.specs.Star.{IsStar, rays}
use Rattle.worked_tries.proofs.Grown.{counts_none, all_put, may_grow_empty}
use Rattle.worked_tries.proofs.HoldSteps.{no_hold}
use Rattle.worked_tries.proofs.Rays.{rays_once, rays_length, rays_star}
use Rattle.worked_tries.proofs.retained.grow_star.Goals as goal

pub grow-requires : goal.grow-requires
grow-requires g c =
    let star = c.deref.ensures.value ∙ c.in_ok-star.ensures in
    let size = ap length star in
    may_grow_empty c.args.context.now c.args.root.now c.deref.result.now c.requires.tables c.requires.root (subst (IsOnce trip_tuple) (sym star) (rays_once 5 c.args.objects))
    (omega (arith, c.requires.few, size, rays_length 5 c.args.objects))

pub grow_twice-requires : goal.grow_twice-requires
grow_twice-requires g c =
    let t = c.args.context.now in
    let u = c.grow.new.context in
    let old = c.args.root.now in
    let new = c.grow.new.root in
    let n = c.args.objects in
    let all : root_set u new ≡ set_of_entries trip_tuple (rays 5 n) =
    c.in_ok-grow.ensures.changed.set ∙ all_put t old (set_of_entries trip_tuple c.deref.result.now) c.requires.root ∙ ap (set_of_entries trip_tuple) (c.deref.ensures.value ∙ c.in_ok-star.ensures) in
    let size = ap set.len all ∙ rays_once 5 n ∙ rays_length 5 n in
    let only : OnlyRootHeld t old = subst (λ s. OnlyRootHeld s old) (sym c.requires.tables) (subst (OnlyRootHeld no_tables) (sym c.requires.root) no_hold) in
    record {
      ready = record {
        held = c.grow.ensures.held;
        only = λ d r. omega (arith, c.in_ok-grow.ensures.changed.moved.holds d r, only d r);
        counts = λ d r. omega (arith, c.in_ok-grow.ensures.changed.counts d r, counts_none t c.requires.tables d r);
        size = omega (arith, size, c.requires.few);
      };
      counts = λ d r. omega (arith, c.in_ok-grow.ensures.changed.counts d r, counts_none t c.requires.tables d r);
      size = omega (arith, size, c.requires.few);
      star = subst (IsStar 0 1 2 3 4) (sym all) (rays_star n c.requires.some);
    }
