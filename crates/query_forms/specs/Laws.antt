-- How the productions and the functions from the front agree.
use Rattle.std.specs.Prelude.{◌≡◌, ◌↔◌, ℕ, List, [], ◌++◌, drop, map, Option, Some}
use Rattle.std.specs.List.{AllByRecursion, AllZip}
use Rattle.rdf_model.specs.Terms as rdf
use Rattle.query_tokens.specs.Forms.{HasForm}
use Rattle.query_tokens.specs.Tokens.{Kind, IsToken}
use Rattle.query_grammar.specs.Lexemes.{Lexeme, lexeme, lexed}
use Rattle.query_grammar.specs.Meaning.{Name, Column, Pattern, Query, Answer, IsQuery, query_of, has_sign, names_from, names_of, variables_from, selected, column_of, term_at, patterns_of, number_behind, or_zero}
use Rattle.query_grammar.specs.Outline.{limits}
use Rattle.query_grammar.specs.Signs.{Sign, Prefix, Distinct, Limit, Offset, number_of, sign_of}
use Rattle.query_grammar.specs.Texts.{unescaped, iri_text, string_text, declared, name_iri}
use Rattle.query_forms.specs.Heads.{IsColumn}
use Rattle.query_forms.specs.Insides.{Means, MeansIri, MeansText}
use Rattle.query_forms.specs.Lexing.{IsLexed}
use Rattle.query_forms.specs.Naming.{IsName, IsVariable, AreNames}
use Rattle.query_forms.specs.Patterns.{IsTerm, IsPattern}
use Rattle.query_forms.specs.Prologues.{Declaration, IsPrologue, StandsFor, MeansName}
use Rattle.query_forms.specs.Tails.{IsTail}
use Rattle.query_forms.specs.Whole.{HasQueryForm, IsQueryText, HasAnswer}

-- A text has exactly the tokens that are found in it.
abbrev pub LexesAsProductions : Type 0
LexesAsProductions = (cs : List ℕ) (ls : List Lexeme) → IsLexed cs ls ↔ (lexed cs ≡ Some ls)

-- IRIs and strings, and their insides, mean exactly what is found.
pub record MeanAsProductions : Type 0 where
  pub insides : (cs meant : List ℕ) → Means cs meant ↔ (unescaped cs ≡ Some meant)
  pub iris : (token iri : List ℕ) → MeansIri token iri ↔ (iri_text token ≡ Some iri)
  pub texts : (token text : List ℕ) → MeansText token text ↔ (string_text token ≡ Some text)

-- none of the tokens has the sign
abbrev pub Lacks : Sign → List Lexeme → Type 0
Lacks s ls = AllByRecursion (λ l. sign_of l ≡ s → ⊥) ls

-- The limit and the offset are those that are found, where what stands before them has none.
abbrev pub TailsAsProductions : Type 0
TailsAsProductions = (before tail : List Lexeme) (limit : Option ℕ) (offset : ℕ)
    → Lacks Limit before → Lacks Offset before
    → IsTail tail limit offset ↔ (HasForm limits (map number_of (map sign_of tail))
    × (limit ≡ number_behind Limit (before ++ tail)) × (offset ≡ or_zero (number_behind Offset (before ++ tail))))

-- Prefixes and names stand for exactly what is found, where all declarations come first.
pub record PrefixesAsProductions : Type 0 where
  pub prefixes : (prologue rest : List Lexeme) (ds : List Declaration) → IsPrologue prologue ds → Lacks Prefix rest
      → (prefix iri : List ℕ) → StandsFor ds prefix iri ↔ (declared prefix (prologue ++ rest) ≡ Some iri)
  pub names : (prologue rest : List Lexeme) (ds : List Declaration) → IsPrologue prologue ds → Lacks Prefix rest
      → (kind : Kind) (token : List ℕ) → IsToken kind token
      → (iri : List ℕ)
      → MeansName ds (lexeme kind token) iri ↔ (name_iri (prologue ++ rest) (lexeme kind token) ≡ Some iri)

-- The names and the variables of tokens are those that are found, in that order.
pub record NamesAsProductions : Type 0 where
  pub names : (i : ℕ) (ls : List Lexeme) (names : List Name) → AreNames IsName i ls names ↔ (names ≡ names_from [] i ls)
  pub variables : (i : ℕ) (ls : List Lexeme) (names : List Name)
      → AreNames IsVariable i ls names ↔ (names ≡ variables_from (names_from [] i ls))

-- The columns, the terms and the patterns of tokens that have the form of a query are those that are found.
pub record FormsAsProductions (tokens : List Lexeme) (form : HasQueryForm tokens) : Type 0 where
  pub distinct : form.distinct ≡ has_sign Distinct tokens
  pub variables : form.variables ≡ selected tokens
  pub names : form.names ≡ names_of tokens
  pub limit : form.limit ≡ number_behind Limit tokens
  pub offset : form.offset ≡ or_zero (number_behind Offset tokens)
  pub columns : (columns : List Column)
      → AllZip (IsColumn form.names) form.variables columns
      ↔ (columns ≡ map (column_of (names_of tokens)) (selected tokens))
  pub terms : (i : ℕ) (t : rdf.Term) → IsTerm form.declarations (drop i tokens) t ↔ (term_at tokens i ≡ Some t)
  pub patterns : (patterns : List Pattern)
      → AllZip (IsPattern form.declarations form.names tokens) form.triples patterns
      ↔ (patterns_of tokens (names_of tokens) form.triples ≡ Some patterns)

abbrev pub AllFormsAsProductions : Type 0
AllFormsAsProductions = (cs : List ℕ) (tokens : List Lexeme) → IsLexed cs tokens → (form : HasQueryForm tokens)
    → FormsAsProductions tokens form

-- A text is exactly the query that is found.
abbrev pub QueriesAsProductions : Type 0
QueriesAsProductions = (text : List ℕ) (q : Query) → IsQueryText text q ↔ (query_of text ≡ IsQuery q)

-- A text has exactly the answer that is found: the query, or the first fault.
abbrev pub AnswersAsProductions : Type 0
AnswersAsProductions = (text : List ℕ) (answer : Answer) → HasAnswer text answer ↔ (query_of text ≡ answer)
