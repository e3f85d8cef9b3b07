use Rattle.std.proofs.Common.{subst, sym}
use Rattle.trie_context.specs.Holds.{at_depth, one_at, nothing}
use Rattle.trie_context.specs.Kept.{AreMoved}
use Rattle.change_log.specs.Log.{RowDid}
use Rattle.change_log.proofs.UndoLemmas.{found_back, moved_back, same_row}
use Rattle.change_log.proofs.undo.undo_row.Goals as goal

pub unmake-requires : goal.unmake-requires
unmake-requires g c =
    let r = c.requires.done in
    record { made = (r.0, r.1, subst (λ s. RowDid g.M.Mix.mixed g.L.Level.DEPTH r.0 s c.args.context.now) c.in-Made.is r.2) }

pub put_back-requires : goal.put_back-requires
put_back-requires g c =
    let r = c.requires.done in
    record { opened = (r.0, r.1, subst (λ s. RowDid g.M.Mix.mixed g.L.Level.DEPTH r.0 s c.args.context.now) c.in-Opened.is r.2) }

pub returns-in-Found : goal.returns-in-Found
returns-in-Found g c t kept did =
    let depth = g.L.Level.DEPTH in
    let d = subst (λ s. RowDid g.M.Mix.mixed depth t s c.args.context.now) c.in-Found.is did in
    let is = same_row c.in-Found.row c.of_edge.result c.of_edge.ensures in
    found_back g.M.Mix.mixed t c.args.context.now c.release.new.self kept depth c.in-Found.row c.in-Found.field-1 d
    (subst (λ r. AreMoved g.M.Mix.mixed c.args.context.now c.release.new.self nothing (at_depth depth (one_at r))) (sym is) c.release.ensures.moved) c.release.ensures.came

pub returns-in-Replaced : goal.returns-in-Replaced
returns-in-Replaced g c t kept did =
    let d = subst (λ s. RowDid g.M.Mix.mixed g.L.Level.DEPTH t s c.args.context.now) c.in-Replaced.is did in
    moved_back g.M.Mix.mixed t c.args.context.now c.give_up.new.context kept _ d.0 d.1 c.give_up.ensures.moved c.give_up.ensures.came
