use Rattle.std.proofs.Common.{◌≡◌, ◌∙◌, sym, arith, false}
use Rattle.std.proofs.lemmas.Bool.Decides.{nat_tests}
use Rattle.query_lex.specs.Steps.{is_in}
use Rattle.query_lex.proofs.Starts.{is_in_any, begins_alone, other_start}
use Rattle.query_lex.proofs.step.start.Goals as goal
use Rattle.query_lex.proofs.step.start.Goals.{in_default-via-then-c-lt48, in_default-via-else-c-lt48+else-c-lt58+then-c-lt63, in_default-via-else-c-lt48+else-c-lt58+else-c-lt63+else-c-lt91+then-c-lt97, in_default-via-else-c-lt48+else-c-lt58+else-c-lt63+else-c-lt91+else-c-lt97+else-c-lt123}

pub returns-in_default : goal.returns-in_default
unfolding is_in
returns-in_default c =
    let none : is_in_any begins_alone c.args.c ≡ false = elim c.in_default.branch [
      | in_default-via-then-c-lt48 w ↦ grind (arith, nat_tests)
      | in_default-via-else-c-lt48+else-c-lt58+then-c-lt63 w ↦ grind (arith, nat_tests)
      | in_default-via-else-c-lt48+else-c-lt58+else-c-lt63+else-c-lt91+then-c-lt97 w ↦ grind (arith, nat_tests)
      | in_default-via-else-c-lt48+else-c-lt58+else-c-lt63+else-c-lt91+else-c-lt97+else-c-lt123 w ↦ grind (arith, nat_tests)
    ] in
    c.begin_prefix.ensures ∙ sym (other_start c.args.c none)
