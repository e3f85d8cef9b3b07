-- The query of a text, or its first fault (SPARQL 1.1, sections 4, 5, 15 and 19).
use Rattle.std.specs.Prelude.{ℕ, ◌+◌, ◌-◌, ◌*◌, ◌^◌, Bool, false, not, ◌&&◌, ◌||◌, List, [], ◌∷◌, ◌++◌, length, take, drop, map, fold, Option, Some, None, ◌==◌, cond, codes, nat_lt, slice_index_or}
use Rattle.std.specs.Char.{to_ascii_lowercase}
use Rattle.std.specs.List.{list_all, list_any, position_or_len}
use Rattle.std.specs.Option.{option_map}
use Rattle.std.specs.Str.{chars, bytes_eq, is_utf8}
use Rattle.rdf_model.specs.Terms as rdf
use Rattle.rdf_model.specs.Texts.{xsd_string}
use Rattle.query_tokens.specs.Tokens as kind
use Rattle.query_tokens.specs.Tokens.{Kind}
use Rattle.query_grammar.specs.Block.{Part, part, Triple}
use Rattle.query_grammar.specs.BlockFront.{triples_of}
use Rattle.query_grammar.specs.Lexemes.{Lexeme, lexed}
use Rattle.query_grammar.specs.Outline.{has_outline}
use Rattle.query_grammar.specs.Signs.{Sign, Distinct, Limit, Offset, True, False, TypeOf, Iri, PnameNs, PnameLn, Label, Variable, LangTag, Integer, Number, Text, OpenBrace, CloseBrace, Open, Star, Carets, number_of, sign_of, role_of}
use Rattle.query_grammar.specs.Texts.{behind_first, string_text, is_sound, name_iri}

-- Queries

-- what stands at a place of a pattern: a label by its number, or a term
pub data Place : Type 0 where
  LabelAt : ℕ → Place
  Const : rdf.Term → Place

pub record Pattern : Type 0 where
  pub s : Place
  pub p : Place
  pub o : Place

-- a column has its variable's name without the mark, and that variable's label where it is in a pattern
pub record Column : Type 0 where
  pub name : List ℕ
  pub label : Option ℕ

pub record Query : Type 0 where
  pub columns : List Column
  pub labels : ℕ
  pub distinct : Bool
  pub patterns : List Pattern
  pub limit : Option ℕ
  pub offset : ℕ

-- Tokens by their places

abbrev pub no_lexeme : Lexeme
no_lexeme = record { kind = kind.Word; text = [] }

abbrev pub at : List Lexeme → ℕ → Lexeme
at all i = slice_index_or all i no_lexeme

abbrev pub is_sign : Sign → Sign → Bool
is_sign s t = number_of s == number_of t

-- the first place of a sign
abbrev pub place_of : Sign → List Lexeme → ℕ
place_of s all = position_or_len (λ l. is_sign s (sign_of l)) all

abbrev pub has_sign : Sign → List Lexeme → Bool
has_sign s all = list_any (λ l. is_sign s (sign_of l)) all

-- before the braces, and between them
abbrev pub before_block : List Lexeme → List Lexeme
before_block all = take (place_of OpenBrace all) all

abbrev pub block_of : List Lexeme → List Lexeme
block_of all = take (place_of CloseBrace all - (place_of OpenBrace all + 1)) (drop (place_of OpenBrace all + 1) all)

abbrev pub parts_from : ℕ → List Lexeme → List Part
parts_from i [] = []
parts_from i (l ∷ ls) = part (role_of (sign_of l)) i ∷ parts_from (i + 1) ls

-- Labels

pub data Name : Type 0 where
  VariableName : List ℕ → Name
  LabelName : List ℕ → Name
  -- of a pair of brackets, by its place
  Fresh : ℕ → Name

abbrev pub same_name : Name → Name → Bool
same_name (VariableName a) (VariableName b) = bytes_eq a b
same_name (LabelName a) (LabelName b) = bytes_eq a b
same_name (Fresh i) (Fresh j) = i == j
same_name _ _ = false

abbrev pub name_by : Sign → List ℕ → ℕ → Option Name
name_by Variable text i = Some (VariableName (behind_first 1 text))
name_by Label text i = Some (LabelName (behind_first 2 text))
name_by Open text i = Some (Fresh i)
name_by _ text i = None

abbrev pub name_of : Lexeme → ℕ → Option Name
name_of l i = name_by (sign_of l) l.text i

-- a name put behind others, unless it is among them
abbrev pub with_name : List Name → Name → List Name
with_name names name = cond (list_any (same_name name) names) names (names ++ name ∷ [])

abbrev pub with_some : List Name → Option Name → List Name
with_some names None = names
with_some names (Some name) = with_name names name

-- the names of the tokens, each at its first appearance
abbrev pub names_from : List Name → ℕ → List Lexeme → List Name
names_from names i [] = names
names_from names i (l ∷ ls) = names_from (with_some names (name_of l i)) (i + 1) ls

abbrev pub names_of : List Lexeme → List Name
names_of all = names_from [] (place_of OpenBrace all + 1) (block_of all)

-- the number of a name
abbrev pub number_among : List Name → Name → ℕ
number_among names name = position_or_len (same_name name) names

-- Terms

abbrev pub xsd : List ℕ → List ℕ
xsd type = codes "http://www.w3.org/2001/XMLSchema#" ++ type

abbrev pub rdf_type : List ℕ
rdf_type = codes "http://www.w3.org/1999/02/22-rdf-syntax-ns#type"

abbrev pub number_type : Kind → List ℕ
number_type kind.Integer = xsd (codes "integer")
number_type kind.SignedInteger = xsd (codes "integer")
number_type kind.Decimal = xsd (codes "decimal")
number_type kind.SignedDecimal = xsd (codes "decimal")
number_type _ = xsd (codes "double")

-- what the sign behind a string says of it
abbrev pub kind_by : Sign → List Lexeme → ℕ → Option rdf.Kind
kind_by LangTag all i = Some (rdf.Tagged (map to_ascii_lowercase (behind_first 1 (at all (i + 1)).text)))
kind_by Carets all i = option_map rdf.Typed (name_iri all (at all (i + 2)))
kind_by _ all i = Some (rdf.Typed xsd_string)

abbrev pub literal : Option (List ℕ) → Option rdf.Kind → Option rdf.Term
literal None kind = None
literal (Some form) None = None
literal (Some form) (Some kind) = Some (rdf.Literal form kind)

abbrev pub term_by : Sign → List Lexeme → ℕ → Option rdf.Term
term_by Iri all i = option_map rdf.Iri (name_iri all (at all i))
term_by PnameNs all i = option_map rdf.Iri (name_iri all (at all i))
term_by PnameLn all i = option_map rdf.Iri (name_iri all (at all i))
term_by TypeOf all i = Some (rdf.Iri rdf_type)
term_by Text all i = literal (string_text (at all i).text) (kind_by (sign_of (at all (i + 1))) all i)
term_by True all i = Some (rdf.Literal (codes "true") (rdf.Typed (xsd (codes "boolean"))))
term_by False all i = Some (rdf.Literal (codes "false") (rdf.Typed (xsd (codes "boolean"))))
term_by Integer all i = Some (rdf.Literal (at all i).text (rdf.Typed (number_type (at all i).kind)))
term_by Number all i = Some (rdf.Literal (at all i).text (rdf.Typed (number_type (at all i).kind)))
term_by _ all i = None

-- the term of the token at a place, none where a prefix isn't declared
abbrev pub term_at : List Lexeme → ℕ → Option rdf.Term
term_at all i = term_by (sign_of (at all i)) all i

abbrev pub label_or_term : List Name → Option Name → Option rdf.Term → Option Place
label_or_term names (Some name) term = Some (LabelAt (number_among names name))
label_or_term names None term = option_map Const term

abbrev pub place_at : List Lexeme → List Name → ℕ → Option Place
place_at all names i = label_or_term names (name_of (at all i) i) (term_at all i)

abbrev pub pattern_by : Option Place → Option Place → Option Place → Option Pattern
pattern_by (Some s) (Some p) (Some o) = Some (record { s = s; p = p; o = o })
pattern_by _ _ _ = None

abbrev pub pattern_at : List Lexeme → List Name → Triple → Option Pattern
pattern_at all names t = pattern_by (place_at all names t.s) (place_at all names t.p) (place_at all names t.o)

abbrev pub pattern_before : Option Pattern → Option (List Pattern) → Option (List Pattern)
pattern_before (Some p) (Some ps) = Some (p ∷ ps)
pattern_before _ _ = None

-- the patterns of the triples, none where a prefix isn't declared
abbrev pub patterns_of : List Lexeme → List Name → List Triple → Option (List Pattern)
patterns_of all names [] = Some []
patterns_of all names (t ∷ ts) = pattern_before (pattern_at all names t) (patterns_of all names ts)

-- Columns

-- the variables alone
abbrev pub variables_from : List Name → List Name
variables_from [] = []
variables_from (VariableName name ∷ names) = VariableName name ∷ variables_from names
variables_from (_ ∷ names) = variables_from names

-- the variables behind SELECT, or those of the patterns for a star
abbrev pub selected : List Lexeme → List Name
selected all = cond (has_sign Star (before_block all)) (variables_from (names_of all)) (variables_from (names_from [] 0 (before_block all)))

abbrev pub name_text : Name → List ℕ
name_text (VariableName name) = name
name_text (LabelName name) = name
name_text (Fresh i) = []

abbrev pub column_of : List Name → Name → Column
column_of names name = record {
  name = name_text name;
  label = cond (list_any (same_name name) names) (Some (number_among names name)) None;
}

-- Limits

abbrev pub value_of : List ℕ → ℕ
value_of digits = fold (λ n d. n * 10 + (d - 48)) 0 digits

-- the number behind a sign
abbrev pub number_behind : Sign → List Lexeme → Option ℕ
number_behind s all = cond (has_sign s all) (Some (value_of (at all (place_of s all + 1)).text)) None

abbrev pub is_large : Option ℕ → Bool
is_large None = false
is_large (Some n) = not (nat_lt n (2 ^ 64))

abbrev pub or_zero : Option ℕ → ℕ
or_zero None = 0
or_zero (Some n) = n

-- The query, or the first fault in this order

pub data Answer : Type 0 where
  NotQuery : Answer
  NoPrefix : Answer
  TooManyPatterns : Answer
  TooManyColumns : Answer
  TooLarge : Answer
  IsQuery : Query → Answer

abbrev pub query_by : List Lexeme → List Pattern → Query
query_by all patterns = record {
  columns = map (column_of (names_of all)) (selected all);
  labels = length (names_of all);
  distinct = has_sign Distinct all;
  patterns = patterns;
  limit = number_behind Limit all;
  offset = or_zero (number_behind Offset all);
}

abbrev pub of_patterns : List Lexeme → Option (List Pattern) → Answer
of_patterns all None = NoPrefix
of_patterns all (Some patterns) =
    cond (nat_lt 32 (length patterns)) TooManyPatterns
    (cond (nat_lt 128 (length (selected all))) TooManyColumns
    (cond (is_large (number_behind Limit all) || is_large (number_behind Offset all)) TooLarge
    (IsQuery (query_by all patterns))))

abbrev pub of_triples : List Lexeme → Option (List Triple) → Answer
of_triples all None = NotQuery
of_triples all (Some triples) = of_patterns all (patterns_of all (names_of all) triples)

abbrev pub of_lexemes : Option (List Lexeme) → Answer
of_lexemes None = NotQuery
of_lexemes (Some all) =
    cond (has_outline (map sign_of all) && list_all is_sound all)
    (of_triples all (triples_of (parts_from (place_of OpenBrace all + 1) (block_of all)))) NotQuery

-- the query of a text, or its first fault
unfoldable pub query_of : List ℕ → Answer
query_of text = cond (is_utf8 text) (of_lexemes (lexed (chars text))) NotQuery
