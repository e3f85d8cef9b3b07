use Rattle.std.proofs.Common.{ℕ, sym, subst, refl, Option}
use Rattle.ntriples_model.specs.Terminals.{string_at}
use Rattle.rdf_term.specs.Read.{Reads}
use Rattle.rdf_term.proofs.QuotedLemmas.{no_string, string_read, string_none, given_back, some_text}
use Rattle.rdf_term.proofs.quoted.read_string.Goals as goal

pub returns-in_err-body : goal.returns-in_err-body
returns-in_err-body c =
    subst (λ (r : Option ℕ). Reads (string_at c.args.bytes.now) c.args.bytes.now c.args.to.now c.args.to.now r) (sym c.from_residual.ensures)
    (no_string c.args.bytes.now c.in_err-body.ensures, refl)

pub returns-in-Some : goal.returns-in-Some
returns-in-Some c = string_read _ _ _ _ _ _ c.in_ok-body.ensures c.add.ensures c.in-Some.ensures

pub drop_last-requires : goal.drop_last-requires
drop_last-requires c = some_text _ _ _ _ c.add.ensures c.in_default.ensures.texts

pub returns : goal.returns
returns c =
    (string_none _ _ c.in_ok-body.ensures c.in_default.ensures.none, given_back _ _ _ _ _ c.add.ensures c.in_default.ensures.texts c.drop_last.ensures)
