use Rattle.std.proofs.Common.{◌≡◌, ◌∙◌, List, ℕ, subst}
use Rattle.std.specs.Prelude.{◌&&◌}
use Rattle.std.specs.List.{list_all}
use Rattle.ntriples_model.specs.Characters.{is_iri_char}
use Rattle.ntriples_model.specs.Terminals.{is_absolute}
use Rattle.query_text.proofs.EscapesRead.{iri_none, iri_proper, iri_improper}
use Rattle.query_text.proofs.meaning.iri_text.Goals as goal

pub returns-in_default : goal.returns-in_default
returns-in_default c = iri_none _ _ _ c.trimmed.ensures c.in_ok-iri.ensures c.in_default.is

pub returns-then-is_proper : goal.returns-then-is_proper
returns-then-is_proper c =
    iri_proper _ _ _ _ _ c.trimmed.ensures c.in_ok-iri.ensures c.in-Some.is
    (subst (λ (x : List ℕ). c.is_proper.result ≡ (list_all is_iri_char x && is_absolute x)) (c.as_bytes.ensures.value ∙ c.as_str.ensures.text) c.is_proper.ensures) c.if-is_proper.true

pub returns : goal.returns
returns c =
    iri_improper _ _ _ _ _ c.trimmed.ensures c.in_ok-iri.ensures c.in-Some.is
    (subst (λ (x : List ℕ). c.is_proper.result ≡ (list_all is_iri_char x && is_absolute x)) (c.as_bytes.ensures.value ∙ c.as_str.ensures.text) c.is_proper.ensures) c.if-is_proper.false
