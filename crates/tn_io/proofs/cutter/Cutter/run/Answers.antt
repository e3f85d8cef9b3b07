use Rattle.std.specs.Prelude.{vec_len, vec_capacity, is_ok, if◌then◌else◌}
use Rattle.std.proofs.Common.{rules, true, arith, ap, ◌≡◌, ◌≤◌, ◌+◌, ◌-◌, ◌++◌, ◌∙◌, length, length-append}
use Rattle.tn_io.proofs.LineLemmas.{takes_same, run_told, run_kept, run_long}
use Rattle.tn_io.proofs.cutter.Cutter.run.Goals as goal

pub returns-then-self-clause-takes : goal.returns-then-self-clause-takes
returns-then-self-clause-takes c =
    takes_same _ _ _ _ _ _ c.self.view_is
    (run_told (record { line = c.self.inside.line.items; cr = c.self.inside.after_cr; told = c.self.inside.told; ended = c.self.inside.ended }) c.args.run.now
    (ap (λ s. s.ended) c.self.view_is ∙ c.requires.begun) c.if-self.true (search rules) c.requires.some c.requires.no_end)

pub returns-then-room-run-clause-takes : goal.returns-then-room-run-clause-takes
returns-then-room-run-clause-takes c =
    takes_same _ _ _ _ _ _ c.self.view_is
    (run_long (record { line = c.self.inside.line.items; cr = c.self.inside.after_cr; told = c.self.inside.told; ended = c.self.inside.ended }) c.args.run.now (1048576 - c.len-room.result + 1)
    (ap (λ s. s.ended) c.self.view_is ∙ c.requires.begun) c.if-self.false (search rules) (search rules) (omega arith) c.requires.no_end)

pub returns-clause-takes : goal.returns-clause-takes
returns-clause-takes c =
    let room : vec_len c.self.inside.line + length c.args.run.now ≤ vec_capacity c.self.inside.line = omega arith in
    let ok : is_ok c.extend_from_slice.result ≡ true = c.extend_from_slice.ensures.succeeds room in
    let items : c.extend_from_slice.new.self.items ≡ c.self.inside.line.items ++ c.args.run.now =
    c.extend_from_slice.ensures.items ∙ ap (λ b. if b then c.self.inside.line.items ++ c.args.run.now else c.self.inside.line.items) ok in
    let line_len : length c.self.inside.line.items ≡ vec_len c.self.inside.line = search rules in
    takes_same _ _ _ _ _ _ c.self.view_is
    (run_kept (record { line = c.self.inside.line.items; cr = c.self.inside.after_cr; told = c.self.inside.told; ended = c.self.inside.ended }) c.args.run.now c.extend_from_slice.new.self.items
    (ap (λ s. s.ended) c.self.view_is ∙ c.requires.begun) c.if-self.false items
    (omega (arith, ap length items, length-append c.self.inside.line.items c.args.run.now)) c.requires.some c.requires.no_end)
