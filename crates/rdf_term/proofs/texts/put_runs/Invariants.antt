use Rattle.std.proofs.Common.{◌≡◌, ◌++◌, List, ℕ, length}
use Rattle.std.specs.Prelude.{Ok}
use denote.Text.{Utf8}
use denote.Shadow.{shadow}
use Rattle.tn_io.specs.OutText.{Puts}
use Rattle.rdf_term.specs.Escapes.{form_text}
use Rattle.rdf_term.proofs.texts.put_runs.Given as goal

-- what was put and what is left are the whole text
abbrev pub invariant-loop-escape : goal.invariant-loop-escape
invariant-loop-escape g l =
    shadow (Utf8 l.left)
    × (l.out.sink.ghost_name ≡ l.fn.out.sink.ghost_name)
    × ((done : List ℕ) × Puts g.K.Sink.written g.K.Sink.faults l.fn.out l.out (Ok tt) done × (form_text l.escapes l.form ≡ done ++ form_text l.escapes l.left))

abbrev pub decreases-loop-escape : goal.decreases-loop-escape
decreases-loop-escape g l = length l.left
