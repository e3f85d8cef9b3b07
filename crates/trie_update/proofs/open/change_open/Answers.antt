use Rattle.std.proofs.Common.{◌≡◌, sym, subst}
use Rattle.trie_context.specs.Roots.{root_set}
use Rattle.change_log.specs.Log.{Grows}
use Rattle.trie_change.specs.After.{graph_after}
use Rattle.trie_update.specs.Opened.{LogsRoot, LogsChange}
use Rattle.trie_update.proofs.Settled.{grown_led, grown_places}
use Rattle.trie_update.proofs.open.change_open.Goals as goal

pub undo-requires : goal.undo-requires
undo-requires g c =
    let t = c.args.context.now in
    let u = c.replace_root.new.context in
    let steps = c.replace_root.new.log.steps in
    record {
      led = (t, grown_led g.M.Mix.mixed t u steps (subst (λ l. Grows g.M.Mix.mixed t u l steps) c.new-log.ensures c.in-Err.ensures.grew));
    }

pub returns-in-Ok-clause-open : goal.returns-in-Ok-clause-open
returns-in-Ok-clause-open g c =
    let t = c.args.context.now in
    let u = c.replace_root.new.context in
    let steps = c.replace_root.new.log.steps in
    let dest = sym c.replace-was.ensures.after in
    let from_nothing = subst (λ l. Grows g.M.Mix.mixed t u l steps) c.new-log.ensures c.in-Ok.ensures.logged.grew in
    record {
      set = subst (λ r. root_set u r ≡ graph_after c.args.change t c.args.root.now c.args.batch.now) dest c.in-Ok.ensures.set;
      logged = subst (λ r. LogsChange g.M.Mix.mixed t u c.args.root.now r steps) dest (subst (λ l. LogsRoot g.M.Mix.mixed t u l steps c.args.root.now c.in-Ok.new) c.new-log.ensures c.in-Ok.ensures.logged);
      places = grown_places g.M.Mix.mixed t u steps from_nothing;
      was = c.replace-was.ensures.value;
    }
