use Rattle.std.proofs.Common.{◌≡◌, false, [], ◌∷◌}
use Rattle.query_lex.specs.Steps.{is_in, One}
use Rattle.query_lex.proofs.Starts.{no_colon}
use Rattle.query_lex.proofs.step.prefix.Goals as goal

pub returns-else-c-eq58 : goal.returns-else-c-eq58
returns-else-c-eq58 c =
    let colon : is_in (One (58 ∷ [])) c.args.c ≡ false = no_colon c.args.c c.if-c-eq58.false in
    rw colon c.prefix_stop.ensures
