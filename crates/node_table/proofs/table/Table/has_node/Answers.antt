use Rattle.std.proofs.Common.{◌≡◌, None, IsSome, IsTrue, nat_eq, true, false, sym, subst, refl, ◌∙◌, ap}
use Rattle.std.proofs.lemmas.Bool.{ne_eqb}
use Rattle.std.specs.Option.{option_copied}
use Rattle.node_table.specs.Slots.{Slot, row_in, row_with}
use Rattle.node_table.proofs.Slots.{at_slot, row_has}
use Rattle.node_table.proofs.table.Table.has_node.Goals as goal

pub returns-then-slot-hash-clause-there : goal.returns-then-slot-hash-clause-there
returns-then-slot-hash-clause-there g c same =
    let slot = at_slot c.self.inside.slots.slots c.args.self.now c.self.view_is c.args.row ∙ ap row_in (sym c.get.ensures ∙ ap option_copied c.in-Some.is) in
    subst IsSome (sym (slot ∙ ap (λ o. row_with o c.in-Some.slot.now.count c.in-Some.slot.now.hash) (c.holds.ensures.0 same))) refl

pub returns-then-slot-hash-clause-equal : goal.returns-then-slot-hash-clause-equal
returns-then-slot-hash-clause-equal g c =
    let slot = at_slot c.self.inside.slots.slots c.args.self.now c.self.view_is c.args.row ∙ ap row_in (sym c.get.ensures ∙ ap option_copied c.in-Some.is) in
    let hash = ap (λ (s : Slot g.row.N.Denot). s.hash) (sym c.slot.view_is) ∙ c.if-slot-hash.true in
    row_has _ c.in-Some.slot.now.node c.in-Some.slot.now.count c.in-Some.slot.now.hash c.args.node.now c.args.hash (IsTrue c.holds.result) slot
    (λ same. (hash, c.holds.ensures.0 same)) (λ _ node. c.holds.ensures.1 node)

pub returns-else-slot-hash-clause-equal : goal.returns-else-slot-hash-clause-equal
returns-else-slot-hash-clause-equal g c =
    let slot = at_slot c.self.inside.slots.slots c.args.self.now c.self.view_is c.args.row ∙ ap row_in (sym c.get.ensures ∙ ap option_copied c.in-Some.is) in
    row_has _ c.in-Some.slot.now.node c.in-Some.slot.now.count c.in-Some.slot.now.hash c.args.node.now c.args.hash (IsTrue (nat_eq c.slot.inside.hash c.args.hash)) slot
    (λ same. absurd (let differ = ne_eqb c.slot.inside.hash c.args.hash c.if-slot-hash.false in let t : false ≡ true = sym differ ∙ same in cc))
    (λ hash _. absurd (c.if-slot-hash.false (ap (λ (s : Slot g.row.N.Denot). s.hash) c.slot.view_is ∙ hash)))

pub returns-in-None-clause-equal : goal.returns-in-None-clause-equal
returns-in-None-clause-equal g c =
    let none = at_slot c.self.inside.slots.slots c.args.self.now c.self.view_is c.args.row ∙ ap row_in (sym c.get.ensures ∙ ap option_copied c.in-None.is) in
    row_has _ None 0 0 c.args.node.now c.args.hash (IsTrue false) none (λ same. absurd (cc)) (λ _ node. absurd (cc))
