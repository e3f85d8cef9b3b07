-- Which bytes of a lexical form are escaped in a text.
use Rattle.std.specs.Prelude.{◌≡◌, ℕ, ◌<◌, Bool, not, ◌||◌, ◌++◌, length, ◌==◌, Option, Some, None}
use Rattle.std.specs.Borrow.{Bor}
use Rattle.std.specs.List.{flat_map}
use Rattle.rdf_model.specs.Terms.{Text, Term}
use Rattle.rdf_model.specs.Texts.{escaped, escaped_tab, text_by}
use Rattle.rdf_term.specs.declared.escaped.Escapes.{Escapes}
use Rattle.rdf_term.specs.declared.escaped.Escapes.TheVariants.{Canon, Tsv}

-- the text of a byte
abbrev pub escape_by : Escapes → ℕ → Text
escape_by Canon = escaped
escape_by Tsv = escaped_tab

-- whether a byte stands for itself
abbrev pub stays : Escapes → ℕ → Bool
stays Canon b = not (b == 34 || b == 92 || b == 10 || b == 13)
stays Tsv b = not (b == 34 || b == 92 || b == 10 || b == 13 || b == 9)

-- the text of a form, and of a term
abbrev pub form_text : Escapes → Text → Text
form_text escapes form = flat_map (escape_by escapes) form

abbrev pub term_text : Escapes → Term → Text
term_text escapes t = text_by (escape_by escapes) t

-- the run at the front of a form, the escape behind it and the rest of the form
pub record IsCut (escapes : Escapes) (form run escape rest : Text) : Type 0 where
  pub text : form_text escapes form ≡ run ++ (escape ++ form_text escapes rest)
  pub shorter : length rest < length form

-- what is left behind the run at the front: nothing, or an escape and the rest
abbrev pub CutsTo : Escapes → Text → Bor Text → Option (Bor Text × Bor Text) → Type 0
CutsTo escapes form run None = form_text escapes form ≡ run.now
CutsTo escapes form run (Some p) = IsCut escapes form run.now p.0.now p.1.now
