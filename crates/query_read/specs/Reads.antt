-- What the parts of the reader answer.
use Rattle.std.specs.Prelude.{◌≡◌, ℕ, ◌+◌, ◌-◌, ◌<◌, ◌≤◌, Bool, true, false, ◌||◌, ◌&&◌, List, [], ◌∷◌, map, length, take, drop, slice_index_or, ◌++◌, Option, Some, None, Result, Ok, Err, cond}
use Rattle.std.specs.Option.{is_some, option_map}
use Rattle.std.specs.BTreeMap.{get_by_text}
use Rattle.query_grammar.specs.Block as model
use Rattle.query_grammar.specs.BlockFront as front
use Rattle.query_grammar.specs.Lexemes.{Lexeme}
use Rattle.query_grammar.specs.Signs.{Sign, Prefix, Limit, Offset, Variable, sign_of}
use Rattle.query_grammar.specs.Texts as texts
use Rattle.query_grammar.specs.Meaning as meaning
use Rattle.query_plan.specs.declared.query.Query.{Query}
use Rattle.query_plan.specs.declared.columns.Column.{Column}
use Rattle.query_plan.specs.declared.patterns.Pattern.{Pattern}
use Rattle.query_plan.specs.Seen.{query_seen, column_seen, pattern_seen}
use Rattle.rdf_model.specs.Terms as rdf
use Rattle.query_read.specs.declared.role.Role.{Role}
use Rattle.query_read.specs.declared.block.Expect.{Expect}
use Rattle.query_read.specs.declared.block.Next.{Next}
use Rattle.query_read.specs.declared.prefixes.Prefixes.{Prefixes}
use Rattle.query_read.specs.declared.fault.ReadFault.{ReadFault}
use Rattle.query_read.specs.declared.fault.ReadFault.TheVariants as fault
use Rattle.query_read.specs.Seen.{role_seen, expect_seen, next_seen}

-- Triples

-- the tokens from one place up to another
abbrev pub block_within : ℕ → ℕ → List Lexeme → List Lexeme
block_within from to all = take (to - from) (drop from all)

-- the triples of the tokens from one place up to another
abbrev pub triples_within : ℕ → ℕ → List Lexeme → Option (List model.Triple)
triples_within from to all = front.triples_of (meaning.parts_from from (block_within from to all))

-- the triples of the block, where its opening brace stands at this place
abbrev pub triples_behind : ℕ → List Lexeme → Option (List model.Triple)
triples_behind opening all = front.triples_of (meaning.parts_from (opening + 1) (meaning.block_of all))

-- what comes next is what a token of this role at this place leads to
abbrev pub Steps : front.Expect → Role → ℕ → List front.Frame → Option Next → List front.Frame → Type 0
Steps expect role i old next new = next_seen next new ≡ front.step expect old (role_seen role) i

-- the name of a datatype
abbrev pub datatype_step : front.Expect → List front.Frame → model.Role → Option front.Next
datatype_step behind stack model.Name = front.next behind stack
datatype_step behind stack _ = None

-- what comes next is what the name of a datatype leads to
abbrev pub StepsPastDatatype : Expect → Role → List front.Frame → Option Next → Type 0
StepsPastDatatype behind role stack next = next_seen next stack ≡ datatype_step (expect_seen behind) stack (role_seen role)

-- Prefixes

-- the map has the IRI that was last declared for each prefix
abbrev pub Declares : Prefixes → List Lexeme → Type 0
Declares prefixes all = (name : List ℕ) → get_by_text prefixes.iris name ≡ texts.declared name all

-- the IRI that is declared at the front of the tokens for a prefix
abbrev pub declared_first : List ℕ → List Lexeme → Option (List ℕ)
declared_first name [] = None
declared_first name (l ∷ ls) = cond (texts.is_sign (sign_of l) Prefix) (texts.declared_here name ls) None

-- each prefix has the IRI that it had, and one without has the one that is declared at the front of the tokens
abbrev pub AddsFirst : (List ℕ → Option (List ℕ)) → (List ℕ → Option (List ℕ)) → List Lexeme → Type 0
AddsFirst old new all = (name : List ℕ) → new name ≡ texts.or_before (old name) (declared_first name all)

-- the IRI of a prefixed name, by the IRIs of the prefixes
abbrev pub prefixed_by : (List ℕ → Option (List ℕ)) → List ℕ → Option (List ℕ)
prefixed_by iri_of name = option_map (λ iri. iri ++ texts.local_text name) (iri_of (take (texts.prefix_length name) name))

-- Terms

-- each token has a test that says whether a term stands there
pub record Knows (known : List Bool) (all : List Lexeme) : Type 0 where
  pub count : length known ≡ length all
  pub each : (i : ℕ) → slice_index_or known i false ≡ is_some (meaning.term_at all i)

-- the literal whose string stands at a place
abbrev pub literal_at : List Lexeme → ℕ → Option rdf.Term
literal_at all i = meaning.literal (texts.string_text (meaning.at all i).text) (meaning.kind_by (sign_of (meaning.at all (i + 1))) all i)

-- whether a label or a term stands at a place, and at each place of a triple
abbrev pub has_place : List Lexeme → ℕ → Bool
has_place all i = is_some (meaning.name_of (meaning.at all i) i) || is_some (meaning.term_at all i)

abbrev pub has_pattern : List Lexeme → model.Triple → Bool
has_pattern all t = has_place all t.s && (has_place all t.p && has_place all t.o)

-- the pattern of a triple, where no prefix is missing
abbrev pub IsPattern : List Lexeme → List meaning.Name → model.Triple → Option Pattern → Type 0
IsPattern all names triple found = option_map pattern_seen found ≡ meaning.pattern_at all names triple

-- the patterns of triples, where no prefix is missing
abbrev pub ListsPatterns : List Lexeme → List meaning.Name → List model.Triple → Option (List Pattern) → Type 0
ListsPatterns all names triples found = option_map (map pattern_seen) found ≡ meaning.patterns_of all names triples

-- Columns

-- the columns of the variables among these names
abbrev pub columns_for : List meaning.Name → List meaning.Name → List meaning.Column
columns_for names chosen = map (meaning.column_of names) (meaning.variables_from chosen)

-- the column of the name was added, where it is a variable
abbrev pub AddsColumnOf : List meaning.Name → meaning.Name → List Column → List Column → Type 0
AddsColumnOf names name old new = map column_seen new ≡ map column_seen old ++ columns_for names (name ∷ [])

-- the name of a variable alone
abbrev pub variable_by : Sign → List ℕ → Option meaning.Name
variable_by Variable text = Some (meaning.VariableName (texts.behind_first 1 text))
variable_by _ text = None

abbrev pub variable_of : Lexeme → Option meaning.Name
variable_of l = variable_by (sign_of l) l.text

abbrev pub variables_of : List Lexeme → List meaning.Name
variables_of all = meaning.variables_from (meaning.names_from [] 0 all)

-- the variables of the tokens, none where there are more than 128
abbrev pub ListsVariables : List Lexeme → Option (List meaning.Name) → Type 0
ListsVariables all None = 128 < length (variables_of all)
ListsVariables all (Some names) = (names ≡ variables_of all) × (length (variables_of all) ≤ 128)

abbrev pub ListsColumns : List Lexeme → Option (List Column) → Type 0
ListsColumns all None = 128 < length (meaning.selected all)
ListsColumns all (Some columns) = (map column_seen columns ≡ map (meaning.column_of (meaning.names_of all)) (meaning.selected all)) × (length (meaning.selected all) ≤ 128)

-- Limits

-- the number, where it fits 64 bits
abbrev pub IsNumberBehind : Option ℕ → Result (Option ℕ) ReadFault → Type 0
IsNumberBehind number (Ok n) = (n ≡ number) × (meaning.is_large number ≡ false)
IsNumberBehind number (Err cause) = (cause ≡ fault.TooLarge) × (meaning.is_large number ≡ true)

-- both numbers, or that one is too large
abbrev pub AreLimits : List Lexeme → Result (Option ℕ × ℕ) ReadFault → Type 0
AreLimits all (Ok p) = (p.0 ≡ meaning.number_behind Limit all) × (p.1 ≡ meaning.or_zero (meaning.number_behind Offset all))
    × ((meaning.is_large (meaning.number_behind Limit all) || meaning.is_large (meaning.number_behind Offset all)) ≡ false)
AreLimits all (Err cause) = (cause ≡ fault.TooLarge)
    × ((meaning.is_large (meaning.number_behind Limit all) || meaning.is_large (meaning.number_behind Offset all)) ≡ true)

-- The whole

-- the query, or the first fault; `Memory` says nothing of the text
abbrev pub Reads : meaning.Answer → Result Query ReadFault → Type 0
Reads answer (Ok query) = answer ≡ meaning.IsQuery (query_seen query)
Reads answer (Err fault.NotQuery) = answer ≡ meaning.NotQuery
Reads answer (Err fault.NoPrefix) = answer ≡ meaning.NoPrefix
Reads answer (Err fault.TooManyPatterns) = answer ≡ meaning.TooManyPatterns
Reads answer (Err fault.TooManyColumns) = answer ≡ meaning.TooManyColumns
Reads answer (Err fault.TooLarge) = answer ≡ meaning.TooLarge
Reads answer (Err fault.Memory) = Unit {0}
