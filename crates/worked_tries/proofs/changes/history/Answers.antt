use Rattle.std.proofs.Common.{◌∙◌, ap, arith}
use Rattle.std.specs.FinSet as set
use Rattle.trie_depth.specs.Tuples.{trip_tuple}
use Rattle.trie_context.specs.Roots.{root_set}
use Rattle.trie_change.specs.Batches.{set_of_entries}
use Rattle.worked_tries.proofs.Grown.{counts_none, all_put, may_grow_empty}
use Rattle.worked_tries.proofs.History.{part_there, part_within, part_new, part_back}
use Rattle.worked_tries.proofs.changes.history.Goals as goal

pub grow-requires : goal.grow-requires
grow-requires g c = may_grow_empty c.args.context.now c.args.root.now c.args.all.now c.requires.tables c.requires.root c.requires.all (omega (arith, c.requires.few))

pub shrink-requires : goal.shrink-requires
shrink-requires g c =
    let A = set_of_entries trip_tuple c.args.all.now in
    let P = set_of_entries trip_tuple c.args.part.now in
    let H = root_set c.grow.new.context c.grow.new.root in
    let all = c.in_ok-grow.ensures.changed.set ∙ all_put c.args.context.now c.args.root.now A c.requires.root in
    let size = ap set.len (part_within H A P all c.requires.within) in
    record {
      held = c.grow.ensures.held;
      once = c.requires.part;
      fits = part_there H A P all c.requires.within;
      counts = λ d r. omega (arith, counts_none c.args.context.now c.requires.tables d r, c.in_ok-grow.ensures.changed.counts d r);
      size = omega (arith, c.requires.all, c.requires.few, size);
    }

pub grow-requires-2 : goal.grow-requires-2
grow-requires-2 g c =
    let A = set_of_entries trip_tuple c.args.all.now in
    let P = set_of_entries trip_tuple c.args.part.now in
    let H = root_set c.shrink.new.context c.shrink.new.root in
    let all = c.in_ok-grow.ensures.changed.set ∙ all_put c.args.context.now c.args.root.now A c.requires.root in
    let rest = c.in_ok-shrink.ensures.changed.set ∙ ap (λ K. set.difference K P) all in
    let size = ap set.len (part_back H A P rest c.requires.within) in
    record {
      held = c.shrink.ensures.held;
      once = c.requires.part;
      fits = part_new H A P rest c.requires.within;
      counts = λ d r. omega (arith, counts_none c.args.context.now c.requires.tables d r, c.in_ok-grow.ensures.changed.counts d r, c.in_ok-shrink.ensures.changed.counts d r);
      size = omega (arith, c.requires.all, c.requires.few, size);
    }

pub shrink-requires-2 : goal.shrink-requires-2
shrink-requires-2 g c =
    let A = set_of_entries trip_tuple c.args.all.now in
    let P = set_of_entries trip_tuple c.args.part.now in
    let H = root_set c.grow-2.new.context c.grow-2.new.root in
    let all = c.in_ok-grow.ensures.changed.set ∙ all_put c.args.context.now c.args.root.now A c.requires.root in
    let rest = c.in_ok-shrink.ensures.changed.set ∙ ap (λ K. set.difference K P) all in
    let again = c.in_ok-grow-2.ensures.changed.set ∙ part_back (root_set c.shrink.new.context c.shrink.new.root) A P rest c.requires.within in
    let size = ap set.len (part_within H A A again (λ t there. there)) in
    record {
      held = c.grow-2.ensures.held;
      once = c.requires.all;
      fits = part_there H A A again (λ t there. there);
      counts = λ d r. omega (arith, counts_none c.args.context.now c.requires.tables d r, c.in_ok-grow.ensures.changed.counts d r, c.in_ok-shrink.ensures.changed.counts d r, c.in_ok-grow-2.ensures.changed.counts d r);
      size = omega (arith, c.requires.all, c.requires.few, size);
    }
