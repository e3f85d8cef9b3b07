-- The patterns that were read so far, and those that are to come.
use Rattle.std.proofs.Common.{◌≡◌, ◌∙◌, List, [], ◌∷◌, ◌++◌, refl, sym, ap, append_assoc, Option, Some, None}
use Rattle.std.specs.Option.{option_map}
use Rattle.std.specs.Prelude.{map}
use Rattle.query_plan.specs.Seen.{pattern_seen}
use Rattle.query_plan.specs.declared.patterns.Pattern as code
use Rattle.query_grammar.specs.Block.{Triple}
use Rattle.query_grammar.specs.Lexemes.{Lexeme}
use Rattle.query_grammar.specs.Meaning.{Name, Pattern, patterns_of, pattern_at, pattern_before}

pub record ArePatternsSoFar (all : List Lexeme) (names : List Name) (triples rest : List Triple) (patterns : List Pattern) : Type 0 where
  pub finds : patterns_of all names triples ≡ option_map (λ (ps : List Pattern). patterns ++ ps) (patterns_of all names rest)

pub patterns_begin : (all : List Lexeme) (names : List Name) (triples : List Triple) → ArePatternsSoFar all names triples triples []
patterns_begin all names triples = record { finds = by (patterns_of all names triples) }
  where
    by : (o : Option (List Pattern)) → o ≡ option_map (λ (ps : List Pattern). [] ++ ps) o
    by None = refl
    by (Some ps) = refl

pub patterns_go_on : (all : List Lexeme) (names : List Name) (triples rest behind : List Triple) (t : Triple) (patterns more : List Pattern) (p : Pattern) → ArePatternsSoFar all names triples rest patterns → rest ≡ t ∷ behind
    → Some p ≡ pattern_at all names t → more ≡ patterns ++ p ∷ [] → ArePatternsSoFar all names triples behind more
patterns_go_on all names triples rest behind t patterns more p s split is new = record {
  finds = s.finds ∙ ap (λ (ts : List Triple). option_map (λ (ps : List Pattern). patterns ++ ps) (patterns_of all names ts)) split
      ∙ ap (λ (o : Option Pattern). option_map (λ (ps : List Pattern). patterns ++ ps) (pattern_before o (patterns_of all names behind))) (sym is)
      ∙ by (patterns_of all names behind) ∙ ap (λ (l : List Pattern). option_map (λ (ps : List Pattern). l ++ ps) (patterns_of all names behind)) (sym new);
}
  where
    by : (o : Option (List Pattern)) → option_map (λ (ps : List Pattern). patterns ++ ps) (pattern_before (Some p) o) ≡ option_map (λ (ps : List Pattern). (patterns ++ p ∷ []) ++ ps) o
    by None = refl
    by (Some ps) = ap (λ (l : List Pattern). Some l) (sym (append_assoc patterns (p ∷ []) ps))

pub patterns_fail : (all : List Lexeme) (names : List Name) (triples rest behind : List Triple) (t : Triple) (patterns : List Pattern) → ArePatternsSoFar all names triples rest patterns → rest ≡ t ∷ behind
    → None ≡ pattern_at all names t → None ≡ patterns_of all names triples
patterns_fail all names triples rest behind t patterns s split is =
    sym (s.finds ∙ ap (λ (ts : List Triple). option_map (λ (ps : List Pattern). patterns ++ ps) (patterns_of all names ts)) split
    ∙ ap (λ (o : Option Pattern). option_map (λ (ps : List Pattern). patterns ++ ps) (pattern_before o (patterns_of all names behind))) (sym is))

append_nil : (xs : List Pattern) → xs ++ [] ≡ xs
append_nil [] = refl
append_nil (x ∷ xs) = ap (λ (ys : List Pattern). x ∷ ys) (append_nil xs)

pub patterns_end : (all : List Lexeme) (names : List Name) (triples rest : List Triple) (patterns : List Pattern) → ArePatternsSoFar all names triples rest patterns → rest ≡ [] → Some patterns ≡ patterns_of all names triples
patterns_end all names triples rest patterns s none =
    sym (s.finds ∙ ap (λ (ts : List Triple). option_map (λ (ps : List Pattern). patterns ++ ps) (patterns_of all names ts)) none ∙ ap (λ (l : List Pattern). Some l) (append_nil patterns))

pub map_push : (ps : List code.Pattern) (p : code.Pattern) → map pattern_seen (ps ++ p ∷ []) ≡ map pattern_seen ps ++ pattern_seen p ∷ []
map_push [] p = refl
map_push (q ∷ ps) p = ap (λ (l : List Pattern). pattern_seen q ∷ l) (map_push ps p)
