-- The texts of terms, and the line of a triple (RDF 1.1 N-Triples, sections 2 and 4).
use Rattle.std.specs.Prelude.{ℕ, [], ◌∷◌, ◌++◌, ◌==◌, if◌then◌else◌, codes}
use Rattle.std.specs.List.{flat_map}
use Rattle.std.specs.Str.{bytes_eq}
use Rattle.rdf_model.specs.Terms.{Text, Kind, Typed, Tagged, Term, Iri, Blank, Literal, Triple}

-- http://www.w3.org/2001/XMLSchema#string, the datatype of a literal that names none
abbrev pub xsd_string : Text
xsd_string = codes "http://www.w3.org/2001/XMLSchema#string"

-- a byte inside a string: quote, backslash, LF and CR by their escapes of two characters
abbrev pub escaped : ℕ → Text
escaped b =
    if b == 34 then codes "\\\"" else
    if b == 92 then codes "\\\\" else
    if b == 10 then codes "\\n" else
    if b == 13 then codes "\\r" else b ∷ []

-- the same, with tab by its escape too (SPARQL 1.1 Query Results CSV and TSV Formats, section 4)
abbrev pub escaped_tab : ℕ → Text
escaped_tab b = if b == 9 then codes "\\t" else escaped b

-- what stands behind the string of a literal
abbrev pub kind_text : Kind → Text
kind_text (Typed datatype) = if bytes_eq datatype xsd_string then [] else codes "^^<" ++ datatype ++ codes ">"
kind_text (Tagged tag) = codes "@" ++ tag

-- the text of a term, where `escape` gives that of each byte of a lexical form
abbrev pub text_by : (ℕ → Text) → Term → Text
text_by escape (Iri text) = codes "<" ++ text ++ codes ">"
text_by escape (Blank label) = codes "_:" ++ label
text_by escape (Literal form kind) = codes "\"" ++ flat_map escape form ++ codes "\"" ++ kind_text kind

-- the N-Triples text of a term
abbrev pub canon : Term → Text
canon = text_by escaped

-- the text of a term in an answer
abbrev pub tsv : Term → Text
tsv = text_by escaped_tab

-- the line of a triple, without its end
abbrev pub dump_line : Triple → Text
dump_line t = canon t.s ++ codes " " ++ canon t.p ++ codes " " ++ canon t.o ++ codes " ."
