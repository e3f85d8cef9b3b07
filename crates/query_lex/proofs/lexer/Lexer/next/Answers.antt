use Rattle.std.proofs.Common.{◌≡◌, ◌<◌, length, refl, arith}
use Rattle.std.proofs.lemmas.Bool.Decides.{nat_tests}
use Rattle.query_lex.proofs.Placing.{at_end, at_fault, next_place, is_next}
use Rattle.query_lex.proofs.Runs.{barren_behind}
use Rattle.query_lex.proofs.lexer.Lexer.next.Goals as goal

pub returns-then-is_empty : goal.returns-then-is_empty
returns-then-is_empty c =
    let none : length c.behind_gap-rest.result.now ≡ 0 = grind (arith, nat_tests) in
    (at_end _ c.self.inside.text.now c.self.inside.rest.now _ c.self.view_is c.self.invariant.0 c.behind_gap-rest.ensures none, refl)

pub returns-in_default : goal.returns-in_default
returns-in_default c =
    let some : 0 < length c.behind_gap-rest.result.now = grind (arith, nat_tests) in
    (at_fault _ c.self.inside.text.now c.self.inside.rest.now _ c.self.view_is c.self.invariant.0 c.behind_gap-rest.ensures c.behind_gap-rest.utf8 some c.in_default.ensures.found, refl)

pub invariant_of-self : goal.invariant_of-self
invariant_of-self c = (
  next_place c.self.inside.text.now c.self.inside.rest.now _ _ c.in-Some.ensures.found.0 c.self.invariant.0 c.behind_gap-rest.ensures c.in-Some.ensures.found.2,
  barren_behind _ _ c.in-Some.ensures.found.0 c.longest_token.new.barren c.in-Some.ensures.barren c.in-Some.ensures.found.2,
)

pub returns : goal.returns
returns c = is_next _ c.self.inside.text.now c.self.inside.rest.now _ _ c.in-Some.kind c.in-Some.ensures.found.0 c.self.view_is c.self.invariant.0 c.behind_gap-rest.ensures c.behind_gap-rest.utf8 c.in-Some.ensures.found.1 c.in-Some.ensures.found.2

pub longest_token-requires : goal.longest_token-requires
longest_token-requires c = barren_behind _ _ _ c.self.inside.barren c.self.invariant.1 c.behind_gap-rest.ensures
