use Rattle.std.proofs.Common.{◌≡◌, None, Some, inl, inr, sym, subst, ap, refl, ◌∙◌, arith}
use Rattle.std.proofs.lemmas.Bool.{cases_eq}
use Rattle.std.specs.Ordering.{nat_cmp}
use Rattle.std.specs.Cmp.{nat_cmp_total}
use Rattle.std.specs.FinMap as map
use Rattle.std.specs.FinMap.{nat_cmp-IsAntisymmetric}
use Rattle.hypertrie_model.specs.MapLaws as laws
use Rattle.node_table.specs.Table.{Row, Table, HasNoNode, row_at, reserved_at}
use Rattle.node_table.proofs.Slots.{IfSome-at, IsSome-by}
use Rattle.node_table.proofs.TableLemmas.{HasNoNode-empty, row_at-empty, row_at-written, row_at-kept, row_at-without_row, row_at-without_other}
use Rattle.worked_tries.specs.declared.rows.Name.{Name}
use Rattle.worked_tries.proofs.rows.a_row_taken_out.Goals as goal

pub add-requires : goal.add-requires
add-requires g c = subst (λ (t : Table Name). HasNoNode t (record { 0 = 1 })) (sym c.new-table.ensures) (HasNoNode-empty _)

pub take_out-spot-requires-clause-there : goal.take_out-spot-requires-clause-there
take_out-spot-requires-clause-there g c = IsSome-by (row_at-written c.new-table.result _ _ _ c.in_ok-first.ensures.added) refl

pub take_out-spot-requires-clause-last : goal.take_out-spot-requires-clause-last
take_out-spot-requires-clause-last g c = IfSome-at _ (row_at-written c.new-table.result _ _ _ c.in_ok-first.ensures.added) refl

pub put_back-requires-clause-reserved : goal.put_back-requires-clause-reserved
put_back-requires-clause-reserved g c =
    ap (λ (t : Table Name). reserved_at t c.take_out-spot.result.1.number) c.take_out-spot.ensures.gone
    ∙ ap (map.get (map.insert c.add.new.self.reserved c.in_ok-first.first c.take_out-spot.result.1.hash)) c.take_out-spot.ensures.number
    ∙ laws.get-insert_here nat_cmp_total nat_cmp-IsAntisymmetric c.add.new.self.reserved c.in_ok-first.first c.take_out-spot.result.1.hash

pub put_back-requires-clause-new : goal.put_back-requires-clause-new
put_back-requires-clause-new g c number row at same =
    let left = sym (ap (λ (t : Table Name). row_at t number) c.take_out-spot.ensures.gone) ∙ at in
    elim (cases_eq number c.in_ok-first.first) [
      | inl is ↦
          let t : None ≡ Some row = sym (ap (λ q. map.get (map.remove c.add.new.self.rows c.in_ok-first.first) q) is ∙ row_at-without_row c.add.new.self c.in_ok-first.first) ∙ left in
          absurd (cc)
      | inr ne ↦
          let t : None ≡ Some row =
          sym (row_at-without_other c.add.new.self c.in_ok-first.first number ne ∙ row_at-kept c.new-table.result _ _ number _ c.in_ok-first.ensures.added ne
          ∙ ap (λ (t : Table Name). row_at t number) c.new-table.ensures ∙ row_at-empty number) ∙ left in
          absurd (cc)
    ]
