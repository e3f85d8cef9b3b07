use Rattle.std.specs.FinSet as set
use Rattle.trie_context.specs.Roots.{root_set}
use Rattle.trie_depth.specs.Tuples.{trip_tuple}
use Rattle.worked_tries.proofs.OneMore.{ready_again}
use Rattle.worked_tries.proofs.Stars.{far_new, far_apart}
use Rattle.worked_tries.proofs.retained.grow_twice.Goals as goal

pub grow_apart-requires-clause-new : goal.grow_apart-requires-clause-new
grow_apart-requires-clause-new g c =
    far_new c.args.subject.0 c.args.predicate.0 c.args.far.0.0 c.args.far.1.0 c.args.far.2.0 (root_set c.args.context.now c.args.root.now) c.requires.star

pub grow_apart-requires-clause-apart : goal.grow_apart-requires-clause-apart
grow_apart-requires-clause-apart g c =
    far_apart c.args.subject.0 c.args.predicate.0 c.args.far.0.0 c.args.far.1.0 c.args.far.2.0 (root_set c.args.context.now c.args.root.now) c.requires.star

pub grow_across-requires : goal.grow_across-requires
grow_across-requires g c =
    let t = c.args.context.now in
    let u = c.grow_apart.new.context in
    let old = c.args.root.now in
    let new = c.grow_apart.new.root in
    let f = c.args.far in
    let fresh = far_new c.args.subject.0 c.args.predicate.0 f.0.0 f.1.0 f.2.0 (root_set t old) c.requires.star in
    record {
      ready = ready_again t u old new (trip_tuple f) fresh c.requires.counts c.requires.size c.grow_apart.ensures.held c.in_ok-grow_apart.ensures.grown;
      star = (f.0.0, f.1.0, record { star = root_set t old; is_star = c.requires.star; is = c.in_ok-grow_apart.ensures.grown.set });
    }
