use Rattle.std.proofs.Common.{◌≡◌, ◌∙◌, true, sym, arith}
use Rattle.std.specs.FinSet as set
use Rattle.hypertrie_model.specs.Sets.{has}
use Rattle.hypertrie_model.specs.SetLaws.{or_cases}
use Rattle.trie_depth.specs.Tuples.{trip_tuple}
use Rattle.trie_change.specs.Batches.{set_of_entries}
use Rattle.graph_image.specs.ImageLaws.{tuples_total, tuples_exact}
use Rattle.trie_context.specs.Roots.{root_set}
use Rattle.trie_context.specs.RootShape.{root_shape}
use Rattle.graph_store.proofs.CountLemmas.{counts_few, len-part}
use Rattle.graph_store.proofs.RootLemmas.{root_held}
use Rattle.graph_store.proofs.taken.take_out.Goals as goal

pub shrink-requires : goal.shrink-requires
shrink-requires g c =
    let t = c.args.context.now in
    let H = root_set t c.args.root.now in
    let B = set_of_entries trip_tuple c.args.batch.now in
    let within = len-part tuples_total tuples_exact H (set.union H B) (λ q e. or_cases (has H q) (has B q) (sym (set.contains-union tuples_total H B q) ∙ e) (has H q ≡ true) (λ a. a) (c.requires.there q)) in
    record {
      held = root_held t c.args.root.now c.requires.only;
      once = c.requires.once;
      fits = c.requires.there;
      counts = counts_few t H (root_shape g.M.Mix.mixed t c.is_kept.ensures c.args.root.now c.requires.only) c.requires.few;
      size = omega (arith, within, c.requires.few);
    }
