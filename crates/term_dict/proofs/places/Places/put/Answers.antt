use Rattle.std.proofs.Common.{Some, sym, ap, ◌∙◌, arith}
use Rattle.term_dict.proofs.PlaceLemmas.{next_within, read_at_next, next_reads_vacant, IsLinked-push, IsLinked-fill, Writes-set}
use Rattle.term_dict.proofs.places.Places.put.Goals as goal

pub invariant_of-self : goal.invariant_of-self
invariant_of-self c = rw c.push_reserved.ensures.items (IsLinked-push _ _ _ c.args.place c.self.invariant (omega arith) c.requires.term c.requires.parted)

pub index_mut-requires : goal.index_mut-requires
index_mut-requires c = omega (arith, next_within _ _ _ c.self.invariant (λ e. omega arith))

pub invariant_of-self-in-Vacant : goal.invariant_of-self-in-Vacant
invariant_of-self-in-Vacant c =
    let found = read_at_next _ _ _ _ c.self.invariant (λ e. omega arith) c.index_mut.ensures.value in
    rw c.replace.ensures.after (IsLinked-fill _ _ _ _ c.args.place c.self.invariant (found ∙ ap Some (sym c.replace.ensures.value ∙ c.in-Vacant.is)) c.requires.term c.requires.parted)

pub unreachable-requires : goal.unreachable-requires
unreachable-requires c =
    let found = read_at_next _ _ _ _ c.self.invariant (λ e. omega arith) c.index_mut.ensures.value in
    let vacant = next_reads_vacant _ _ _ _ c.self.invariant found in
    c.in_default.not-Vacant vacant.0 (c.replace.ensures.value ∙ vacant.1)

pub returns-clause-written : goal.returns-clause-written
returns-clause-written c =
    rw (← c.self.view_is, c.replace.ensures.after) (Writes-set _ _ c.args.place (next_within _ _ _ c.self.invariant (λ e. omega arith)))
