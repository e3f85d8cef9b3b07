-- The query of a text, or its first fault, by productions (SPARQL 1.1, section 19.8).
use Rattle.std.specs.Prelude.{◌≡◌, ℕ, ◌^◌, ◌<◌, ◌≤◌, Bool, ◌⊎◌, List, ◌∷◌, ◌++◌, length, Option, IfSome, IsUtf8}
use Rattle.std.specs.List.{AllByRecursion, AllZip}
use Rattle.std.specs.Str.{chars}
use Rattle.query_grammar.specs.Block.{Triple, IsBlock}
use Rattle.query_grammar.specs.Lexemes.{Lexeme}
use Rattle.query_grammar.specs.Meaning.{Name, Query, Answer, NotQuery, NoPrefix, TooManyPatterns, TooManyColumns, TooLarge, IsQuery, parts_from}
use Rattle.query_grammar.specs.Signs.{Sign, CloseBrace, Iri, PnameNs, PnameLn, Text, sign_of}
use Rattle.query_forms.specs.Heads.{IsHead, IsColumn}
use Rattle.query_forms.specs.Insides.{MeansIri, MeansText}
use Rattle.query_forms.specs.Lexing.{IsLexed}
use Rattle.query_forms.specs.Naming.{IsName, AreNames}
use Rattle.query_forms.specs.Patterns.{IsPattern}
use Rattle.query_forms.specs.Prologues.{Declaration, MeansName}
use Rattle.query_forms.specs.Tails.{IsTail}

-- a token that is an IRI or a string means one
abbrev pub MeansSome : Sign → List ℕ → Type 0
MeansSome Iri text = (iri : List ℕ) × MeansIri text iri
MeansSome Text text = (meant : List ℕ) × MeansText text meant
MeansSome _ text = Unit {0}

-- The text has these tokens, and each IRI and each string of them means one.
pub record AreTokens (text : List ℕ) (tokens : List Lexeme) : Type 0 where
  pub utf8 : IsUtf8 text
  pub lexed : IsLexed (chars text) tokens
  pub sound : AllByRecursion (λ l. MeansSome (sign_of l) l.text) tokens

-- The tokens have the form of a query: Head Block '}' Tail.
pub record HasQueryForm (tokens : List Lexeme) : Type 0 where
  pub head : List Lexeme
  pub block : List Lexeme
  pub brace : Lexeme
  pub tail : List Lexeme
  pub declarations : List Declaration
  pub distinct : Bool
  pub variables : List Name
  pub triples : List Triple
  pub names : List Name
  pub limit : Option ℕ
  pub offset : ℕ
  pub are : tokens ≡ head ++ (block ++ brace ∷ tail)
  pub is_head : IsHead block head declarations distinct variables
  pub is_block : IsBlock (parts_from (length head) block) triples
  pub is_brace : sign_of brace ≡ CloseBrace
  pub is_tail : IsTail tail limit offset
  pub are_names : AreNames IsName (length head) block names

-- A prefixed name of the block has a prefix that is not declared.
pub record HasUndeclared (tokens : List Lexeme) (form : HasQueryForm tokens) : Type 0 where
  pub before : List Lexeme
  pub name : Lexeme
  pub behind : List Lexeme
  pub are : form.block ≡ before ++ name ∷ behind
  pub is_prefixed : (sign_of name ≡ PnameNs) ⊎ (sign_of name ≡ PnameLn)
  pub undeclared : (iri : List ℕ) → MeansName form.declarations name iri → ⊥

-- The tokens are this query: by their form, where each triple of the block has a pattern.
pub record AreQuery (tokens : List Lexeme) (q : Query) : Type 0 where
  pub form : HasQueryForm tokens
  pub distinct : q.distinct ≡ form.distinct
  pub columns : AllZip (IsColumn form.names) form.variables q.columns
  pub labels : q.labels ≡ length form.names
  pub patterns : AllZip (IsPattern form.declarations form.names tokens) form.triples q.patterns
  pub limit : q.limit ≡ form.limit
  pub offset : q.offset ≡ form.offset

-- The text has the form of a query.
pub record IsQueryLike (text : List ℕ) : Type 0 where
  pub tokens : List Lexeme
  pub are : AreTokens text tokens
  pub form : HasQueryForm tokens

-- The text is this query, if it is within the bounds.
pub record IsUnbounded (text : List ℕ) (q : Query) : Type 0 where
  pub tokens : List Lexeme
  pub are : AreTokens text tokens
  pub query : AreQuery tokens q

abbrev pub HasFewPatterns : Query → Type 0
HasFewPatterns q = length q.patterns ≤ 32

abbrev pub HasFewColumns : Query → Type 0
HasFewColumns q = length q.columns ≤ 128

abbrev pub HasSmallNumbers : Query → Type 0
HasSmallNumbers q = IfSome q.limit (λ n. n < 2 ^ 64) × (q.offset < 2 ^ 64)

-- The text is this query, within the bounds.
pub record IsQueryText (text : List ℕ) (q : Query) : Type 0 where
  pub is : IsUnbounded text q
  pub few_patterns : HasFewPatterns q
  pub few_columns : HasFewColumns q
  pub small_numbers : HasSmallNumbers q

-- The text is a query, or this is its first fault: it has not the form of one, it has an undeclared prefix, or the
-- query is outside the bounds.
abbrev pub HasAnswer : List ℕ → Answer → Type 0
HasAnswer text NotQuery = IsQueryLike text → ⊥
HasAnswer text NoPrefix = (like : IsQueryLike text) × HasUndeclared like.tokens like.form
HasAnswer text TooManyPatterns = (q : Query) × IsUnbounded text q × (HasFewPatterns q → ⊥)
HasAnswer text TooManyColumns = (q : Query) × IsUnbounded text q × HasFewPatterns q × (HasFewColumns q → ⊥)
HasAnswer text TooLarge =
    (q : Query) × IsUnbounded text q × HasFewPatterns q × HasFewColumns q × (HasSmallNumbers q → ⊥)
HasAnswer text (IsQuery q) = IsQueryText text q
