use Rattle.std.proofs.Common.{◌≡◌, ◌++◌, ◌∙◌, ap, sym, subst}
use Rattle.edge_map.specs.Entries.{KeysRise}
use Rattle.edge_map.specs.Chunks.{flat}
use Rattle.edge_map.proofs.JoinLemmas.{few_keys}
use Rattle.edge_map.proofs.rebuild.list_of.Goals as goal

pub finish-requires : goal.finish-requires
finish-requires g c =
    let pushed = c.in_ok-push_all.ensures.pushed in
    let entries : flat c.push_all.new.chunks ≡ c.args.entries.now = pushed.entries ∙ ap (λ cs. flat cs ++ c.args.entries.now) c.new-chunks.ensures in
    few_keys (flat c.push_all.new.chunks) (subst KeysRise (sym entries) c.requires.rising) pushed.chunks.small
