use Rattle.std.proofs.Common.{◌∙◌, arith, sym, ap, subst}
use Rattle.std.specs.FinSet as set
use Rattle.trie_depth.specs.Tuples.{trip_tuple}
use Rattle.trie_context.specs.Roots.{root_set, IsHeld}
use Rattle.trie_context.specs.RootShape.{changed_shape}
use Rattle.trie_context.specs.Shape.{HasShape}
use Rattle.trie_change.specs.Batches.{set_of_entries}
use Rattle.trie_view.specs.RootLaws.{held_root_there}
use Rattle.graph_image.specs.Images.{AreKnown}
use Rattle.worked_lines.proofs.TriedLemmas.{counts_none, nothing_held, all_new, union_none}
use Rattle.worked_lines.proofs.small_graphs.filled.Goals as goal

pub grow-requires : goal.grow-requires
grow-requires g c =
    let t = c.args.context.now in
    let root = c.args.root.now in
    let B = set_of_entries trip_tuple c.args.triples.now in
    let same = ap set.len (union_none t c.requires.tables root c.requires.root B) in
    record {
      held = subst (IsHeld t) (sym c.requires.root) tt;
      once = c.requires.once;
      fits = all_new t c.requires.tables root c.requires.root B;
      counts = λ d r. omega (arith, counts_none t c.requires.tables root c.requires.root d r);
      size = omega (arith, c.requires.once, c.requires.few, same);
    }

pub of-requires-clause-there : goal.of-requires-clause-there
of-requires-clause-there g c = held_root_there c.grow.new.context c.grow.new.root c.grow.ensures.held

pub of-requires-clause-known : goal.of-requires-clause-known
of-requires-clause-known g c =
    subst (AreKnown c.args.dict.now) (sym (c.in_ok-grow.ensures.changed.set ∙ union_none c.args.context.now c.requires.tables c.args.root.now c.requires.root (set_of_entries trip_tuple c.args.triples.now))) c.requires.known

pub shape_lines-requires : goal.shape_lines-requires
shape_lines-requires g c =
    let H = root_set c.grow.new.context c.grow.new.root in
    let set_is = c.in_ok-grow.ensures.changed.set ∙ union_none c.args.context.now c.requires.tables c.args.root.now c.requires.root (set_of_entries trip_tuple c.args.triples.now) in
    let shape = changed_shape _ c.args.context.now c.grow.new.context c.args.root.now c.grow.new.root c.in_ok-grow.ensures.changed.moved (nothing_held c.args.context.now c.requires.tables c.args.root.now c.requires.root) in
    record { shape = (H, subst (λ t. HasShape t H) (sym c.of-2.ensures.tables) shape, subst (λ terms. AreKnown terms H) (sym c.of-2.ensures.terms) (subst (AreKnown c.args.dict.now) (sym set_is) c.requires.known)) }
