use Rattle.std.proofs.Common.{sym, subst, refl, arith}
use Rattle.node_table.specs.Table.{Table, HasNoNode}
use Rattle.node_table.proofs.Slots.{IfSome-at, IfSome-use, IsSome-by}
use Rattle.node_table.proofs.TableLemmas.{HasNoNode-empty, row_at-written}
use Rattle.worked_tries.specs.declared.rows.Name.{Name}
use Rattle.worked_tries.proofs.rows.counts.Goals as goal

pub add-requires : goal.add-requires
add-requires g c = subst (λ (t : Table Name). HasNoNode t (record { 0 = 1 })) (sym c.new-table.ensures) (HasNoNode-empty _)

pub bump-requires-clause-there : goal.bump-requires-clause-there
bump-requires-clause-there g c = IsSome-by (row_at-written c.new-table.result _ _ _ c.in_ok-row.ensures.added) refl

pub bump-requires-clause-room : goal.bump-requires-clause-room
bump-requires-clause-room g c = IfSome-at _ (row_at-written c.new-table.result _ _ _ c.in_ok-row.ensures.added) (omega arith)

pub count-more-requires : goal.count-more-requires
count-more-requires g c =
    let added = row_at-written c.new-table.result _ _ _ c.in_ok-row.ensures.added in
    IsSome-by (row_at-written c.add.new.self c.bump.new.self c.in_ok-row.row _ (IfSome-use _ added c.bump.ensures)) refl

pub lower-requires-clause-there : goal.lower-requires-clause-there
lower-requires-clause-there g c =
    let added = row_at-written c.new-table.result _ _ _ c.in_ok-row.ensures.added in
    IsSome-by (row_at-written c.add.new.self c.bump.new.self c.in_ok-row.row _ (IfSome-use _ added c.bump.ensures)) refl

pub lower-requires-clause-more : goal.lower-requires-clause-more
lower-requires-clause-more g c =
    let added = row_at-written c.new-table.result _ _ _ c.in_ok-row.ensures.added in
    IfSome-at _ (row_at-written c.add.new.self c.bump.new.self c.in_ok-row.row _ (IfSome-use _ added c.bump.ensures)) (omega arith)

pub count-requires : goal.count-requires
count-requires g c =
    let added = row_at-written c.new-table.result _ _ _ c.in_ok-row.ensures.added in
    let bumped = row_at-written c.add.new.self c.bump.new.self c.in_ok-row.row _ (IfSome-use _ added c.bump.ensures) in
    IsSome-by (row_at-written c.bump.new.self c.lower.new.self c.in_ok-row.row _ (IfSome-use _ bumped c.lower.ensures)) refl
