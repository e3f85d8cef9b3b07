-- What parts the fields of a line, and the line of a change.
use Rattle.std.specs.Prelude.{ℕ, Bool, true, false, List, [], ◌++◌, codes, decimal, Option}
use Rattle.rdf_model.specs.Terms.{Term}
use Rattle.solution_model.specs.Texts.{field_text}

-- a tab, but before the first field
abbrev pub parting : Bool → List ℕ
parting true = []
parting false = codes "\t"

-- a field, behind what parts it from the one before
abbrev pub field_behind : Bool → Option Term → List ℕ
field_behind first term = parting first ++ field_text term

-- what was done, how many triples it was, and how many there are now
abbrev pub change_text : List ℕ → ℕ → ℕ → List ℕ
change_text done changed now = done ++ decimal changed ++ codes " now " ++ decimal now ++ codes "\n"
