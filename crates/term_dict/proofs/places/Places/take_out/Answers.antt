use Rattle.std.proofs.lemmas.Option.{slice_get_within}
use Rattle.term_dict.specs.declared.term_slot.TermSlot.TheVariants.{Vacant}
use Rattle.term_dict.proofs.PlaceLemmas.{place_at, IsLinked-vacate, Writes-set}
use Rattle.term_dict.proofs.places.Places.take_out.Goals as goal

pub invariant_of-self : goal.invariant_of-self
invariant_of-self c =
    let found = place_at c.self.inside.places.items c.args.number (rw (← c.self.view_is) at c.requires) in
    IsLinked-vacate _ _ _ c.args.number found.0 c.self.invariant found.1 found.2

pub returns-clause-written : goal.returns-clause-written
returns-clause-written c =
    let found = place_at c.self.inside.places.items c.args.number (rw (← c.self.view_is) at c.requires) in
    rw (← c.self.view_is) (Writes-set _ c.args.number (Vacant c.self.inside.next) (slice_get_within _ _ _ found.1))
