use Rattle.std.specs.Prelude.{nat_eq}
use Rattle.std.proofs.Common.{rules, ap, ◌∙◌}
use Rattle.tn_io.proofs.LineLemmas.{end_of_cr_lf, takes_same, end_of_line, not_behind}
use Rattle.tn_io.proofs.cutter.Cutter.end_byte.Goals as goal

pub returns-then-behind_cr : goal.returns-then-behind_cr
returns-then-behind_cr c =
    takes_same _ _ _ _ _ _ c.self.view_is
    (end_of_cr_lf (record { line = c.self.inside.line.items; cr = c.self.inside.after_cr; told = c.self.inside.told; ended = c.self.inside.ended }) c.args.b (nat_eq c.args.b 13) (search rules) c.if-b-eq10.true
    c.if-behind_cr.true (ap (λ b. nat_eq b 13) c.if-b-eq10.true))

pub returns : goal.returns
returns c =
    takes_same _ _ _ _ _ _ c.self.view_is
    (end_of_line (record { line = c.self.inside.line.items; cr = c.self.inside.after_cr; told = c.self.inside.told; ended = c.self.inside.ended }) c.args.b (search rules)
    (ap (λ s. s.ended) c.self.view_is ∙ c.requires.begun) c.if-self.false c.requires.ends (not_behind c.self.inside.after_cr c.args.b c.else-b-eq10.either))
