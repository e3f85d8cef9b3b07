use Rattle.std.proofs.Common.{refl, sym, ap, ◌∙◌}
use Rattle.ntriples_model.specs.Line.{some_triple}
use Rattle.ntriples.proofs.TermLemmas.{not_utf8, note_said, form_said}
use Rattle.ntriples.proofs.read_line.Goals as goal

pub returns-in_default-clause-bad : goal.returns-in_default-clause-bad
returns-in_default-clause-bad c = not_utf8 c.args.scope.now c.args.line.now c.in_default.ensures.cases.0

pub returns-then-is_note-clause-said : goal.returns-then-is_note-clause-said
returns-then-is_note-clause-said c =
    note_said c.args.scope.now c.args.line.now c.after_blanks-bytes.result.now c.in-Ok.ensures.cases.1 c.after_blanks-bytes.ensures.rest (sym c.is_note.ensures ∙ c.if-is_note.true)

pub returns-in_default-triple-clause-bad : goal.returns-in_default-triple-clause-bad
returns-in_default-triple-clause-bad c =
    form_said c.args.scope.now c.args.line.now c.after_blanks-bytes.result.now c.in-Ok.ensures.cases.1 c.after_blanks-bytes.ensures.rest (sym c.is_note.ensures ∙ c.if-is_note.false)
    ∙ ap some_triple c.in_default-triple.ensures

pub returns-clause-said : goal.returns-clause-said
returns-clause-said c =
    form_said c.args.scope.now c.args.line.now c.after_blanks-bytes.result.now c.in-Ok.ensures.cases.1 c.after_blanks-bytes.ensures.rest (sym c.is_note.ensures ∙ c.if-is_note.false)
    ∙ ap some_triple c.in-Some.ensures.0 ∙ rw (c.term.ensures, c.term-2.ensures, c.term-3.ensures) refl
