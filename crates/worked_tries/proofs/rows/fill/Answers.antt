use Rattle.std.proofs.Common.{◌<◌, ◌+◌, ◌∙◌, ap, sym, subst, arith}
use Rattle.worked_tries.specs.declared.rows.Name.{Name}
use Rattle.node_table.proofs.TableLemmas.{AllNodes, AllNodes-empty, AllNodes-weaker, AllNodes-written}
use Rattle.worked_tries.proofs.rows.fill.Goals as goal
use Rattle.worked_tries.proofs.rows.fill.Goals.{in-Err+in_ok-add-in-Err, in-Ok}

pub loop-n-init : goal.loop-n-init
loop-n-init c = subst (AllNodes (λ (node : Name). node.0 < 0)) (sym c.requires) (AllNodes-empty _)

pub loop-n-preserved : goal.loop-n-preserved
loop-n-preserved c =
    let below = AllNodes-weaker (λ (node : Name). node.0 < c.loop-n.n) (λ (node : Name). node.0 < c.loop-n.n + 1) c.loop-n.table (λ node h. omega arith) c.loop-n.invariant in
    elim c.match-add.branch [
      | in-Ok w ↦ AllNodes-written (λ (node : Name). node.0 < c.loop-n.n + 1) c.loop-n.table c.match-add.table w.in-Ok.field-0 _ (w.table-is ∙ w.in-Ok.ensures.added) below (omega arith)
      | in-Err+in_ok-add-in-Err w ↦
          let name = ap (λ (node : Name). node.0) w.in-Err.ensures.back in
          AllNodes-written (λ (node : Name). node.0 < c.loop-n.n + 1) c.add.new.self c.match-add.table w.in_ok-add-in-Err.field-0 _ (w.table-is ∙ w.in_ok-add-in-Err.ensures.added)
          (subst (AllNodes (λ (node : Name). node.0 < c.loop-n.n + 1)) (sym w.in-Err.ensures.kept) below) (omega (arith, name))
    ]
