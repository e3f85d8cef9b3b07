use Rattle.std.proofs.Common.{◌∙◌, true, ap, sym, subst, arith}
use Rattle.std.specs.FinSet as set
use Rattle.hypertrie_model.specs.Changes.{IsChange}
use Rattle.trie_depth.specs.Tuples.{trip_tuple}
use Rattle.trie_context.specs.Roots.{root_set}
use Rattle.trie_context.specs.RootShape.{root_shape}
use Rattle.trie_change.specs.Batches.{set_of_entries, IsOnce}
use Rattle.graph_image.specs.TermLaws.{len-union_most}
use Rattle.graph_image.specs.ImageLaws.{tuples_total, tuples_exact}
use Rattle.graph_store.proofs.CountLemmas.{counts_few}
use Rattle.graph_store.proofs.RootLemmas.{root_held}
use Rattle.graph_store.proofs.staged.put_in.Goals as goal

pub grow-requires : goal.grow-requires
grow-requires g c =
    let t = c.args.context.now in
    let H = root_set t c.args.root.now in
    let same = ap (set_of_entries trip_tuple) c.deref.ensures.value in
    let put = same ∙ c.in_ok-batch.ensures.set in
    let most = len-union_most tuples_total tuples_exact tuples_total tuples_exact H (set_of_entries trip_tuple c.deref.result.now) in
    let size = ap set.len put in
    record {
      held = root_held t c.args.root.now c.requires.only;
      once = subst (IsOnce trip_tuple) (sym c.deref.ensures.value) c.in_ok-batch.ensures.once;
      fits = subst (IsChange true H) (sym put) c.requires.new;
      counts = counts_few t H (root_shape g.M.Mix.mixed t c.is_kept.ensures c.args.root.now c.requires.only) (omega (arith, c.requires.few));
      size = omega (arith, c.requires.few, most, size);
    }
