use Rattle.std.proofs.Common.{IsSome, OnErr, Result, Ok, Err, sym, ap, subst, ◌∙◌, refl, inl, inr}
use Rattle.std.specs.FinMap as map
use Rattle.rdf_term.specs.Seen.{lent_term}
use Rattle.hash_index.proofs.Slots.{numbered-insert}
use Rattle.term_dict.specs.Dict.{Terms}
use Rattle.term_dict.proofs.DictLemmas.{at_slot, small_ids, next_is_small, IsNew-from, ListsHeld-from, IsDictionary-puts, IsDictionary-same}
use Rattle.term_dict.proofs.dict.Dict.intern.Goals as goal

on_any : {A E P : Type 0} (r : Result A E) → P → OnErr r P
on_any (Ok x) p = tt
on_any (Err e) p = p

pub add-requires : goal.add-requires
add-requires c = ListsHeld-from c.self.inside.secrets c.self.inside.places.slots c.self.inside.index c.self.invariant

pub returns-in-Some-clause-small : goal.returns-in-Some-clause-small
returns-in-Some-clause-small c =
    let at = at_slot c.self.inside.places.slots c.args.self.now c.self.view_is c.in-Some.id.0 ∙ c.in-Some.ensures.found in
    small_ids c.self.inside.secrets c.self.inside.places.slots c.self.inside.index c.args.self.now c.self.view_is c.self.invariant c.in-Some.id.0 (subst IsSome (sym at) refl)

pub returns-in-Some-clause-interned : goal.returns-in-Some-clause-interned
returns-in-Some-clause-interned c = inl (at_slot c.self.inside.places.slots c.args.self.now c.self.view_is c.in-Some.id.0 ∙ c.in-Some.ensures.found, refl)

pub invariant_of-self : goal.invariant_of-self
invariant_of-self c =
    IsDictionary-same c.self.inside.secrets c.self.inside.places.slots c.add.new.places.slots c.self.inside.index c.add.new.index c.in_err-number.ensures.places_kept c.in_err-number.ensures.index_kept c.self.invariant

pub returns-in_err-number-clause-new : goal.returns-in_err-number-clause-new
returns-in_err-number-clause-new c =
    on_any c.from_residual.result
    (IsNew-from c.self.inside.secrets c.self.inside.places.slots c.self.inside.index c.args.self.now c.hash_of-hash.result _ c.self.view_is c.self.invariant c.hash_of-hash.ensures (c.in_default.ensures.none refl))

pub invariant_of-self-2 : goal.invariant_of-self-2
invariant_of-self-2 c =
    let fresh = IsNew-from c.self.inside.secrets c.self.inside.places.slots c.self.inside.index c.args.self.now c.hash_of-hash.result (lent_term c.args.term) c.self.view_is c.self.invariant c.hash_of-hash.ensures (c.in_default.ensures.none refl) in
    IsDictionary-puts c.self.inside.secrets c.self.inside.places.slots c.add.new.places.slots c.self.inside.index c.add.new.index c.args.self.now c.in_ok-number.number c.hash_of-hash.result (lent_term c.args.term) c.self.view_is c.self.invariant c.requires fresh
    c.in_ok-number.ensures.put c.in_ok-number.ensures.listed c.hash_of-hash.ensures

pub returns-clause-small : goal.returns-clause-small
returns-clause-small c =
    next_is_small c.self.inside.secrets c.self.inside.places.slots c.self.inside.index c.args.self.now c.in_ok-number.number c.self.view_is c.self.invariant c.requires c.in_ok-number.ensures.put.least

pub returns-clause-interned : goal.returns-clause-interned
returns-clause-interned c =
    let fresh = IsNew-from c.self.inside.secrets c.self.inside.places.slots c.self.inside.index c.args.self.now c.hash_of-hash.result (lent_term c.args.term) c.self.view_is c.self.invariant c.hash_of-hash.ensures (c.in_default.ensures.none refl) in
    let vacant = at_slot c.self.inside.places.slots c.args.self.now c.self.view_is c.in_ok-number.number ∙ c.in_ok-number.ensures.put.vacant in
    let grown = numbered-insert c.self.inside.places.slots c.add.new.places.slots c.in_ok-number.number (lent_term c.args.term) c.in_ok-number.ensures.put.written
    ∙ ap (λ (t : Terms). map.insert t c.in_ok-number.number (lent_term c.args.term)) c.self.view_is in
    inr (fresh, vacant, grown)
