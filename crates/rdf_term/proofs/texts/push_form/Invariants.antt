use Rattle.std.proofs.Common.{◌≡◌, ◌++◌, List, ℕ, length}
use denote.Text.{Utf8}
use denote.Shadow.{shadow}
use Rattle.rdf_term.specs.Escapes.{form_text}
use Rattle.rdf_term.proofs.texts.push_form.Given as goal

-- what was added and what is left are the whole text
abbrev pub invariant-loop-escape : goal.invariant-loop-escape
invariant-loop-escape l =
    shadow (Utf8 l.left)
    × ((done : List ℕ) × (l.to ≡ l.fn.to ++ done) × (form_text l.escapes l.form ≡ done ++ form_text l.escapes l.left))

abbrev pub decreases-loop-escape : goal.decreases-loop-escape
decreases-loop-escape l = length l.left
