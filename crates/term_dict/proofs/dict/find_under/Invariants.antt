use Rattle.std.proofs.Common.{◌≡◌, ◌≢◌, ℕ, ◌<◌, Some, get_or}
use Rattle.hash_index.specs.Slots.{slot_at}
use Rattle.hash_index.specs.declared.entry.Entry.{Entry}
use Rattle.rdf_term.specs.Seen.{lent_term}
use Rattle.term_dict.proofs.dict.find_under.Given as goal

abbrev pub invariant-loop-entry : goal.invariant-loop-entry
invariant-loop-entry l =
    (k : ℕ) (e : Entry) → k < l.entry-index → get_or l.entry-items k e ≡ e → e.hash ≡ l.hash → slot_at l.places.slots e.number ≢ Some (lent_term l.term)
