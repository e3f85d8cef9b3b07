-- The texts of an answer (SPARQL 1.1 Query Results CSV and TSV Formats, section 4), without the ends of lines.
use Rattle.std.specs.Prelude.{List, [], ◌∷◌, ◌++◌, map, codes, Option, None, Some}
use Rattle.std.specs.List.{flat_map}
use Rattle.rdf_model.specs.Terms.{Text, Term}
use Rattle.rdf_model.specs.Texts.{tsv}
use Rattle.query_grammar.specs.Meaning.{Column}
use Rattle.solution_model.specs.Rows.{Row}

-- texts parted by tabs
abbrev pub tabbed : List Text → Text
tabbed [] = []
tabbed (t ∷ ts) = t ++ flat_map (λ u. codes "\t" ++ u) ts

-- the text of a value; an empty one for none
abbrev pub field_text : Option Term → Text
field_text None = []
field_text (Some t) = tsv t

abbrev pub row_text : Row → Text
row_text row = tabbed (map field_text row)

-- the columns, each by the name of its variable behind a question mark
abbrev pub header_text : List Column → Text
header_text columns = tabbed (map (λ c. codes "?" ++ c.name) columns)
