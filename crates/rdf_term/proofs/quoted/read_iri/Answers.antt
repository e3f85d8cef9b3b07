use Rattle.std.proofs.Common.{◌∙◌, ℕ, sym, ap, subst, Option, refl}
use Rattle.ntriples_model.specs.Terminals.{iri_at, is_absolute}
use Rattle.rdf_term.specs.Read.{Reads}
use Rattle.rdf_term.proofs.QuotedLemmas.{no_iri, iri_read, iri_none, iri_relative, given_back, last_is, some_text}
use Rattle.rdf_term.proofs.quoted.read_iri.Goals as goal
use Rattle.rdf_term.proofs.quoted.read_iri.Goals.{in-Some+else-absolute, in_default}

pub returns-in_err-body : goal.returns-in_err-body
returns-in_err-body c =
    subst (λ (r : Option ℕ). Reads (iri_at c.args.bytes.now) c.args.bytes.now c.args.to.now c.args.to.now r) (sym c.from_residual.ensures)
    (no_iri c.args.bytes.now c.in_err-body.ensures, refl)

pub last-requires : goal.last-requires
last-requires c = some_text _ _ _ _ c.add.ensures c.in-Some.ensures.texts

pub returns-then-absolute : goal.returns-then-absolute
returns-then-absolute c =
    let last = last_is _ _ _ _ _ c.add.ensures c.in-Some.ensures.texts c.last.ensures in
    iri_read _ _ _ _ _ _ c.in_ok-body.ensures c.add.ensures c.in-Some.ensures (ap is_absolute (sym last ∙ sym c.as_bytes.ensures.value) ∙ sym c.absolute.ensures ∙ c.if-absolute.true)

pub drop_last-requires : goal.drop_last-requires
drop_last-requires c =
    elim c.match-read_body.branch [
      | in-Some+else-absolute w ↦ some_text _ _ _ _ c.add.ensures w.in-Some.ensures.texts
      | in_default w ↦ some_text _ _ _ _ c.add.ensures w.in_default.ensures.texts
    ]

pub returns : goal.returns
returns c =
    elim c.match-read_body.branch [
      | in-Some+else-absolute w ↦
          let last = last_is _ _ _ _ _ c.add.ensures w.in-Some.ensures.texts w.last.ensures in (
            iri_relative _ _ _ _ _ c.in_ok-body.ensures w.in-Some.ensures (ap is_absolute (sym last ∙ sym w.as_bytes.ensures.value) ∙ sym w.absolute.ensures ∙ w.if-absolute.false),
            given_back _ _ _ _ _ c.add.ensures w.in-Some.ensures.texts c.drop_last.ensures,
          )
      | in_default w ↦ (iri_none _ _ c.in_ok-body.ensures w.in_default.ensures.none, given_back _ _ _ _ _ c.add.ensures w.in_default.ensures.texts c.drop_last.ensures)
    ]
