use Rattle.std.proofs.Common.{Some, IsSome, sym, ap, subst, ◌∙◌}
use Rattle.hash_index.proofs.Slots.{numbered-remove}
use Rattle.std.specs.FinMap as map
use Rattle.term_dict.specs.Dict.{Terms}
use Rattle.term_dict.proofs.DictLemmas.{at_slot, listed, IsDictionary-remove}
use Rattle.term_dict.proofs.dict.Dict.remove.Goals as goal

pub take_out-requires : goal.take_out-requires
take_out-requires c = subst IsSome (at_slot c.self.inside.places.slots c.args.self.now c.self.view_is c.args.id.0) c.requires

pub remove-requires : goal.remove-requires
remove-requires c =
    listed c.self.inside.secrets c.self.inside.places.slots c.self.inside.index c.args.self.now c.args.id.0 _ c.self.view_is c.self.invariant c.term.ensures ∙ ap Some (sym c.hash_of-hash.ensures)

pub invariant_of-self : goal.invariant_of-self
invariant_of-self c =
    IsDictionary-remove c.self.inside.secrets c.self.inside.places.slots c.take_out.new.self.slots c.self.inside.index c.remove.new.self c.args.id.0 c.self.invariant c.take_out.ensures.written c.remove.ensures c.take_out.ensures.len

pub returns : goal.returns
returns c =
    numbered-remove c.self.inside.places.slots c.take_out.new.self.slots c.args.id.0 c.take_out.ensures.written ∙ ap (λ (t : Terms). map.remove t c.args.id.0) c.self.view_is
