-- The outline of a query from its front.
use Rattle.std.proofs.Common.{◌≡◌, ℕ, true, List, [], ◌∷◌, map}
use Rattle.query_tokens.specs.Forms.{Form, HasForm}
use Rattle.query_tokens.specs.Front.{is_optional, behind}
use Rattle.query_tokens.proofs.Behind.{optional_has, has_optional, behind_has, behind_gives}
use Rattle.query_grammar.specs.Laws.{TestsOutlines}
use Rattle.query_grammar.specs.Outline.{query, behind_all, has_outline}
use Rattle.query_grammar.specs.Signs.{number_of}

form_tested : (f : Form) (ns : List ℕ) → HasForm f ns → is_optional (behind_all ns f) ≡ true
form_tested f [] h = has_optional f h
form_tested f (n ∷ ns) h = form_tested (behind n f) ns (behind_has f n ns h)

tested_form : (f : Form) (ns : List ℕ) → is_optional (behind_all ns f) ≡ true → HasForm f ns
tested_form f [] h = optional_has f h
tested_form f (n ∷ ns) h = behind_gives f n ns (tested_form (behind n f) ns h)

pub tests_outlines : TestsOutlines
unfolding has_outline
tests_outlines = λ signs. (form_tested query (map number_of signs), tested_form query (map number_of signs))
