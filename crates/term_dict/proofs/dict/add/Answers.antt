use Rattle.std.proofs.Common.{◌≡◌, ℕ, List, Option, None, Some, sym, subst}
use Rattle.rdf_model.specs.Terms.{Term}
use Rattle.rdf_term.specs.Seen.{lent_term}
use Rattle.hash_index.specs.Slots.{slot_at, Writes}
use Rattle.term_dict.specs.Places.{IsUsedAgainFirst, IsOneMoreAtMost}
use Rattle.term_dict.specs.Dict.{Puts}
use Rattle.term_dict.proofs.dict.add.Goals as goal

puts_from : (old reserved new : List (Option Term)) (next number : ℕ) (o : Option Term) (term : Term) → reserved ≡ old → number ≡ next → o ≡ Some term → slot_at reserved number ≡ None → IsUsedAgainFirst reserved number → Writes reserved new next o → IsOneMoreAtMost reserved new next → Puts old new number term
puts_from old reserved new next number o term slots at is vacant least written len =
    let here = subst (λ (n : ℕ). Writes reserved new n o) (sym at) written in
    let made : Puts reserved new number term = record {
      vacant = vacant;
      written = subst (λ (x : Option Term). Writes reserved new number x) is here;
      least = least;
      len = subst (λ (n : ℕ). IsOneMoreAtMost reserved new n) (sym at) len;
    } in
    subst (λ (s : List (Option Term)). Puts s new number term) slots made

pub returns-clause-put : goal.returns-clause-put
returns-clause-put c =
    puts_from c.args.places.now.slots c.reserve.new.self.slots c.put.new.self.slots c.reserve.new.self.next c.next-number.result _ (lent_term c.args.term) c.reserve.ensures.slots c.next-number.ensures.value c.in_ok-place.ensures.term
    c.next-number.ensures.vacant c.next-number.ensures.least c.put.ensures.written c.put.ensures.len
