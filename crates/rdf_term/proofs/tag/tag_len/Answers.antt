use Rattle.std.proofs.Common.{◌∙◌, sym}
use Rattle.rdf_term.proofs.TagLemmas.{no_tag_bytes, no_letter, tag_taken}
use Rattle.rdf_term.proofs.tag.tag_len.Goals as goal

pub returns-in_default-clause-tag : goal.returns-in_default-clause-tag
returns-in_default-clause-tag c = sym (no_tag_bytes _ c.in_default.ensures.cases)

pub returns-then-letter-clause-tag : goal.returns-then-letter-clause-tag
returns-then-letter-clause-tag c =
    tag_taken _ _ _ _ c.in-Some.ensures.cases.0 (sym c.letter.ensures ∙ c.if-letter.true) c.rest_len.ensures.rest

pub returns-else-letter-clause-tag : goal.returns-else-letter-clause-tag
returns-else-letter-clause-tag c = sym (no_letter _ _ _ c.in-Some.ensures.cases.0 (sym c.letter.ensures ∙ c.if-letter.false))
