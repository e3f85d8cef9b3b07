use Rattle.std.proofs.Common.{◌∙◌, sym, ap}
use Rattle.std.specs.Str.{encode_utf8_all}
use Rattle.rdf_term.proofs.LabelLemmas.{no_char, no_start, label_begins, char_more, stop_more, label_at_end, label_at_other}
use Rattle.rdf_term.proofs.label.label_len.Goals as goal

pub returns-in_default-clause-label : goal.returns-in_default-clause-label
returns-in_default-clause-label c = ap encode_utf8_all (sym (no_char c.args.bytes.now c.in_default.ensures))

pub returns-then-not-starts_label-clause-label : goal.returns-then-not-starts_label-clause-label
returns-then-not-starts_label-clause-label c =
    ap encode_utf8_all (sym (no_start c.args.bytes.now c.in-Some.first c.in-Some.size c.in-Some.ensures (sym c.starts_label.ensures ∙ c.if-not-starts_label.true)))

pub loop-c-init : goal.loop-c-init
loop-c-init c = label_begins c.args.bytes.now c.in-Some.first c.in-Some.size c.in-Some.ensures (sym c.starts_label.ensures ∙ c.if-not-starts_label.false)

pub returns-in_default-first_char-clause-label : goal.returns-in_default-first_char-clause-label
returns-in_default-first_char-clause-label c = label_at_end c.args.bytes.now c.loop-c.end c.loop-c.at c.loop-c.invariant c.in_default-first_char.ensures

pub loop-c-preserved-then-pn_chars : goal.loop-c-preserved-then-pn_chars
loop-c-preserved-then-pn_chars c =
    char_more _ _ _ c.in-Some-first_char.c c.in-Some-first_char.size c.loop-c.invariant c.in-Some-first_char.ensures (sym c.pn_chars.ensures ∙ c.if-pn_chars.true)

pub returns-then-c-ne46-clause-label : goal.returns-then-c-ne46-clause-label
returns-then-c-ne46-clause-label c =
    label_at_other _ _ _ _ _ c.loop-c.invariant c.in-Some-first_char.ensures (sym c.pn_chars.ensures ∙ c.if-pn_chars.false) c.if-c-ne46.true

pub loop-c-preserved : goal.loop-c-preserved
loop-c-preserved c = stop_more _ _ _ c.in-Some-first_char.c c.in-Some-first_char.size c.loop-c.invariant c.in-Some-first_char.ensures c.if-c-ne46.false
