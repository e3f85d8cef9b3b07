use Rattle.ntriples.proofs.TermLemmas.{no_literal, no_stray, no_datatype, no_tag, literal_plain, literal_typed, literal_tagged, byte_is, byte_is_not, behind_mark}
use Rattle.ntriples.proofs.grammar.literal.Goals as goal

pub returns-in_err-form : goal.returns-in_err-form
returns-in_err-form c = rw c.from_residual.ensures (no_literal c.args.bytes.now c.in_err-form.ensures.0)

pub returns-then-byte_at-ne94 : goal.returns-then-byte_at-ne94
returns-then-byte_at-ne94 c =
    no_stray c.args.bytes.now c.args.to.now c.string.new.to c.in_ok-form.form c.in_ok-form.rest.now c.in_ok-form.ensures
    (byte_is _ _ 0 _ 94 c.after_blanks-behind.ensures.rest c.byte_at.ensures.value c.if-byte_at-eq94.true)
    (byte_is_not _ _ 1 _ 94 c.after_blanks-behind.ensures.rest c.byte_at-then-byte_at-eq94.ensures.value c.if-byte_at-ne94.true)

pub returns-in_err-datatype : goal.returns-in_err-datatype
returns-in_err-datatype c =
    rw c.from_residual-in_err-datatype.ensures
    (no_datatype c.args.bytes.now c.args.to.now c.string.new.to c.in_ok-form.form c.in_ok-form.rest.now c.after_blanks.result.now c.in_ok-form.ensures
    (byte_is _ _ 0 _ 94 c.after_blanks-behind.ensures.rest c.byte_at.ensures.value c.if-byte_at-eq94.true)
    (byte_is _ _ 1 _ 94 c.after_blanks-behind.ensures.rest c.byte_at-then-byte_at-eq94.ensures.value c.if-byte_at-ne94.false)
    (behind_mark _ _ _ c.after_blanks-behind.ensures.rest c.after_blanks.ensures.rest) c.in_err-datatype.ensures.0)

pub returns-then-byte_at-eq94 : goal.returns-then-byte_at-eq94
returns-then-byte_at-eq94 c =
    literal_typed c.args.bytes.now c.args.to.now c.string.new.to c.iri.new.to c.in_ok-form.form c.in_ok-datatype.datatype c.in_ok-form.rest.now c.after_blanks.result.now c.in_ok-datatype.rest.now
    (byte_is _ _ 0 _ 94 c.after_blanks-behind.ensures.rest c.byte_at.ensures.value c.if-byte_at-eq94.true)
    (byte_is _ _ 1 _ 94 c.after_blanks-behind.ensures.rest c.byte_at-then-byte_at-eq94.ensures.value c.if-byte_at-ne94.false)
    (behind_mark _ _ _ c.after_blanks-behind.ensures.rest c.after_blanks.ensures.rest) c.in_ok-form.ensures c.in_ok-datatype.ensures

pub returns-in_err-tag : goal.returns-in_err-tag
returns-in_err-tag c =
    rw c.from_residual-in_err-tag.ensures
    (no_tag c.args.bytes.now c.args.to.now c.string.new.to c.in_ok-form.form c.in_ok-form.rest.now c.after_blanks-behind.result.now c.in_ok-form.ensures
    (byte_is _ _ 0 _ 64 c.after_blanks-behind.ensures.rest c.byte_at-2.ensures.value c.if-byte_at-eq64.true) c.after_blanks-behind.ensures.rest c.in_err-tag.ensures.0)

pub returns-then-byte_at-eq64 : goal.returns-then-byte_at-eq64
returns-then-byte_at-eq64 c =
    literal_tagged c.args.bytes.now c.args.to.now c.string.new.to c.tag.new.to c.in_ok-form.form c.in_ok-tag.tag c.in_ok-form.rest.now c.after_blanks-behind.result.now c.in_ok-tag.rest.now
    (byte_is _ _ 0 _ 64 c.after_blanks-behind.ensures.rest c.byte_at-2.ensures.value c.if-byte_at-eq64.true) c.after_blanks-behind.ensures.rest c.in_ok-form.ensures c.in_ok-tag.ensures

pub returns : goal.returns
returns c =
    literal_plain c.args.bytes.now c.args.to.now c.string.new.to c.in_ok-form.form c.in_ok-form.rest.now c.in_ok-form.ensures
    (byte_is_not _ _ 0 _ 94 c.after_blanks-behind.ensures.rest c.byte_at.ensures.value c.if-byte_at-eq94.false)
    (byte_is_not _ _ 0 _ 64 c.after_blanks-behind.ensures.rest c.byte_at-2.ensures.value c.if-byte_at-eq64.false)
