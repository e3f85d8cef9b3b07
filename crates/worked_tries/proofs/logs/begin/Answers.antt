use Rattle.std.proofs.Common.{◌∙◌, ap, sym, subst}
use Rattle.worked_tries.specs.Logs.{CanChange}
use Rattle.worked_tries.proofs.KeysAndPairs.{zero_mix, two, three, pair_node}
use Rattle.worked_tries.proofs.LogBegin.{one_id, four, five, first_form, first_held, empty_room, second_form, second_held, first_room, second_room, pairs_form, pairs_held, can_change}
use Rattle.worked_tries.proofs.logs.begin.Goals as goal

pub intern-requires-clause-form : goal.intern-requires-clause-form
intern-requires-clause-form g c = first_form c.in_ok-two_keys.field-0 c.in_ok-two_keys.ensures

pub intern-requires-clause-held : goal.intern-requires-clause-held
intern-requires-clause-held g c = first_held c.args.context.now c.in_ok-two_keys.field-0 c.in_ok-two_keys.ensures

pub intern-requires-clause-room : goal.intern-requires-clause-room
intern-requires-clause-room g c = empty_room c.args.context.now c.requires

pub intern-requires-2-clause-form : goal.intern-requires-2-clause-form
intern-requires-2-clause-form g c = second_form c.in_ok-two_keys-2.field-0 c.in_ok-two_keys-2.ensures

pub intern-requires-2-clause-held : goal.intern-requires-2-clause-held
intern-requires-2-clause-held g c = second_held c.intern.new.self c.in_ok-two_keys-2.field-0 c.in_ok-two_keys-2.ensures

pub intern-requires-2-clause-room : goal.intern-requires-2-clause-room
intern-requires-2-clause-room g c = first_room c.args.context.now c.requires c.intern.new.self c.in_ok-keys.keys c.in_ok-two_keys.field-0 c.in_ok-two_keys.ensures (record { there = c.in_ok-keys.ensures.there; moved = c.in_ok-keys.ensures.moved; counts = c.in_ok-keys.ensures.counts; stay = c.in_ok-keys.ensures.stay })

pub intern-requires-3-clause-form : goal.intern-requires-3-clause-form
intern-requires-3-clause-form g c =
    pairs_form c.args.context.now c.requires c.intern.new.self c.in_ok-keys.keys c.in_ok-two_keys.field-0 c.in_ok-two_keys.ensures (record { there = c.in_ok-keys.ensures.there; moved = c.in_ok-keys.ensures.moved; counts = c.in_ok-keys.ensures.counts; stay = c.in_ok-keys.ensures.stay })
    c.intern-2.new.self c.in_ok-others.others c.in_ok-two_keys-2.field-0 c.in_ok-two_keys-2.ensures (record { there = c.in_ok-others.ensures.there; moved = c.in_ok-others.ensures.moved; counts = c.in_ok-others.ensures.counts; stay = c.in_ok-others.ensures.stay })
    c.in_ok-first.first (c.in_ok-first.ensures ∙ ap (pair_node two three one_id) c.row_of_keys-keys.ensures)

pub intern-requires-3-clause-held : goal.intern-requires-3-clause-held
intern-requires-3-clause-held g c =
    pairs_held c.args.context.now c.requires c.intern.new.self c.in_ok-keys.keys c.in_ok-two_keys.field-0 c.in_ok-two_keys.ensures (record { there = c.in_ok-keys.ensures.there; moved = c.in_ok-keys.ensures.moved; counts = c.in_ok-keys.ensures.counts; stay = c.in_ok-keys.ensures.stay })
    c.intern-2.new.self c.in_ok-others.others c.in_ok-two_keys-2.field-0 c.in_ok-two_keys-2.ensures (record { there = c.in_ok-others.ensures.there; moved = c.in_ok-others.ensures.moved; counts = c.in_ok-others.ensures.counts; stay = c.in_ok-others.ensures.stay })
    c.in_ok-first.first (c.in_ok-first.ensures ∙ ap (pair_node two three one_id) c.row_of_keys-keys.ensures)

pub intern-requires-3-clause-room : goal.intern-requires-3-clause-room
intern-requires-3-clause-room g c =
    second_room c.args.context.now c.requires c.intern.new.self c.in_ok-keys.keys c.in_ok-two_keys.field-0 c.in_ok-two_keys.ensures (record { there = c.in_ok-keys.ensures.there; moved = c.in_ok-keys.ensures.moved; counts = c.in_ok-keys.ensures.counts; stay = c.in_ok-keys.ensures.stay })
    c.intern-2.new.self c.in_ok-others.others c.in_ok-two_keys-2.field-0 c.in_ok-two_keys-2.ensures (record { there = c.in_ok-others.ensures.there; moved = c.in_ok-others.ensures.moved; counts = c.in_ok-others.ensures.counts; stay = c.in_ok-others.ensures.stay })

pub returns : goal.returns
returns g c =
    let t = c.intern-3.new.self in
    let n = c.in_ok-second.second in
    subst (λ k. CanChange zero_mix t k c.row_of_keys-others.result c.row_of-row.result n) (sym c.row_of_keys-keys.ensures)
    (subst (λ k. CanChange zero_mix t c.in_ok-keys.keys k c.row_of-row.result n) (sym c.row_of_keys-others.ensures)
    (subst (λ k. CanChange zero_mix t c.in_ok-keys.keys c.in_ok-others.others k n) (sym c.row_of-row.ensures)
    (can_change c.args.context.now c.requires c.intern.new.self c.in_ok-keys.keys c.in_ok-two_keys.field-0 c.in_ok-two_keys.ensures (record { there = c.in_ok-keys.ensures.there; moved = c.in_ok-keys.ensures.moved; counts = c.in_ok-keys.ensures.counts; stay = c.in_ok-keys.ensures.stay })
    c.intern-2.new.self c.in_ok-others.others c.in_ok-two_keys-2.field-0 c.in_ok-two_keys-2.ensures (record { there = c.in_ok-others.ensures.there; moved = c.in_ok-others.ensures.moved; counts = c.in_ok-others.ensures.counts; stay = c.in_ok-others.ensures.stay })
    c.in_ok-first.first (c.in_ok-first.ensures ∙ ap (pair_node two three one_id) c.row_of_keys-keys.ensures)
    t c.in_ok-held.held (record { there = c.in_ok-held.ensures.there; moved = c.in_ok-held.ensures.moved; counts = c.in_ok-held.ensures.counts; stay = c.in_ok-held.ensures.stay }) n (c.in_ok-second.ensures ∙ ap (pair_node four five one_id) c.row_of_keys-others.ensures))))
