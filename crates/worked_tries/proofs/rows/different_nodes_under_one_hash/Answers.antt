use Rattle.std.proofs.Common.{sym, subst, ap, refl, ◌∙◌, arith}
use Rattle.node_table.specs.Table.{Table, HasNoNode}
use Rattle.node_table.proofs.Slots.{IfSome-at, IsSome-by}
use Rattle.node_table.proofs.TableLemmas.{HasNoNode-empty, HasNoNode-with_row, row_at-written, row_at-kept, row_at-left, apart}
use Rattle.worked_tries.specs.declared.rows.Name.{Name}
use Rattle.worked_tries.proofs.rows.different_nodes_under_one_hash.Goals as goal

pub add-requires : goal.add-requires
add-requires g c = subst (λ (t : Table Name). HasNoNode t (record { 0 = 1 })) (sym c.new-table.ensures) (HasNoNode-empty _)

pub add-requires-2 : goal.add-requires-2
add-requires-2 g c =
    let two : Name = record { 0 = 2 } in
    subst (λ (t : Table Name). HasNoNode t two) (sym c.in_ok-first.ensures.added)
    (HasNoNode-with_row c.new-table.result c.in_ok-first.first _ two (subst (λ (t : Table Name). HasNoNode t two) (sym c.new-table.ensures) (HasNoNode-empty two))
    (λ same. let numbers = ap (λ (n : Name). n.0) same in absurd (omega arith)))

pub remove-removed-requires-clause-there : goal.remove-removed-requires-clause-there
remove-removed-requires-clause-there g c =
    let first = row_at-written c.new-table.result _ _ _ c.in_ok-first.ensures.added in
    let ne = apart c.add.new.self _ _ _ first c.in_ok-second.ensures.fresh in
    IsSome-by (row_at-kept c.add.new.self _ _ _ _ c.in_ok-second.ensures.added ne ∙ first) refl

pub remove-removed-requires-clause-last : goal.remove-removed-requires-clause-last
remove-removed-requires-clause-last g c =
    let first = row_at-written c.new-table.result _ _ _ c.in_ok-first.ensures.added in
    let ne = apart c.add.new.self _ _ _ first c.in_ok-second.ensures.fresh in
    IfSome-at _ (row_at-kept c.add.new.self _ _ _ _ c.in_ok-second.ensures.added ne ∙ first) refl

pub count-requires : goal.count-requires
count-requires g c =
    let first = row_at-written c.new-table.result _ _ _ c.in_ok-first.ensures.added in
    let ne = apart c.add.new.self _ _ _ first c.in_ok-second.ensures.fresh in
    let second = row_at-written c.add.new.self _ _ _ c.in_ok-second.ensures.added in
    IsSome-by (row_at-left c.add-2.new.self c.remove-removed.new.self c.in_ok-first.first c.in_ok-second.second c.remove-removed.ensures.gone (λ is. ne (sym is)) ∙ second) refl

pub node-requires : goal.node-requires
node-requires g c =
    let first = row_at-written c.new-table.result _ _ _ c.in_ok-first.ensures.added in
    let ne = apart c.add.new.self _ _ _ first c.in_ok-second.ensures.fresh in
    let second = row_at-written c.add.new.self _ _ _ c.in_ok-second.ensures.added in
    IsSome-by (row_at-left c.add-2.new.self c.remove-removed.new.self c.in_ok-first.first c.in_ok-second.second c.remove-removed.ensures.gone (λ is. ne (sym is)) ∙ second) refl
