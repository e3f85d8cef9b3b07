-- The steps of the whole reader, as the definition takes them.
use Rattle.std.proofs.Common.{◌≡◌, ◌∙◌, ℕ, ◌+◌, ◌<◌, ◌≤◌, Bool, true, false, ◌&&◌, ◌||◌, cond, List, [], ◌∷◌, length, refl, sym, ap, arith, Option, Some, None}
use Rattle.std.specs.Prelude.{is_some, nat_lt, map}
use Rattle.std.specs.List.{list_all}
use Rattle.std.proofs.lemmas.Bool.Decides.{nat_tests}
use Rattle.rdf_model.specs.Terms as rdf
use Rattle.query_grammar.specs.Block.{Triple}
use Rattle.query_grammar.specs.Lexemes.{Lexeme}
use Rattle.query_grammar.specs.Meaning.{Answer, NoPrefix, TooManyPatterns, TooManyColumns, TooLarge, IsQuery, Column, Name, Pattern, Place, at, is_large, label_or_term, name_of, names_of, number_behind, of_patterns, of_triples, pattern_at, pattern_before, pattern_by, patterns_of, place_at, query_by, selected, term_at}
use Rattle.query_grammar.specs.Signs.{Limit, Offset}
use Rattle.query_grammar.specs.Meaning as meaning
use Rattle.query_plan.specs.Seen.{column_seen}
use Rattle.query_plan.specs.declared.columns.Column as code
use Rattle.query_read.specs.Reads.{has_pattern, has_place, ListsColumns}

place_known : (all : List Lexeme) (names : List Name) (i : ℕ) → is_some (place_at all names i) ≡ has_place all i
place_known all names i = by (name_of (at all i) i)
  where
    term : (o : Option rdf.Term) → is_some (label_or_term names None o) ≡ is_some o
    term None = refl
    term (Some t) = refl

    by : (o : Option Name) → is_some (label_or_term names o (term_at all i)) ≡ (is_some o || is_some (term_at all i))
    by None = term (term_at all i)
    by (Some n) = refl

three : (a b c : Option Place) → is_some (pattern_by a b c) ≡ (is_some a && (is_some b && is_some c))
three None b c = refl
three (Some x) None c = refl
three (Some x) (Some y) None = refl
three (Some x) (Some y) (Some z) = refl

pattern_known : (all : List Lexeme) (names : List Name) (t : Triple) → is_some (pattern_at all names t) ≡ has_pattern all t
pattern_known all names t =
    three (place_at all names t.s) (place_at all names t.p) (place_at all names t.o)
    ∙ ap (λ (b : Bool). b && (is_some (place_at all names t.p) && is_some (place_at all names t.o))) (place_known all names t.s)
    ∙ ap (λ (b : Bool). has_place all t.s && (b && is_some (place_at all names t.o))) (place_known all names t.p)
    ∙ ap (λ (b : Bool). has_place all t.s && (has_place all t.p && b)) (place_known all names t.o)

first_known : (a : Option Pattern) (b : Option (List Pattern)) → is_some (pattern_before a b) ≡ (is_some a && is_some b)
first_known None b = refl
first_known (Some p) None = refl
first_known (Some p) (Some ps) = refl

patterns_known : (all : List Lexeme) (names : List Name) (ts : List Triple) → is_some (patterns_of all names ts) ≡ list_all (has_pattern all) ts
patterns_known all names [] = refl
patterns_known all names (t ∷ ts) =
    first_known (pattern_at all names t) (patterns_of all names ts)
    ∙ ap (λ (b : Bool). b && is_some (patterns_of all names ts)) (pattern_known all names t)
    ∙ ap (λ (b : Bool). has_pattern all t && b) (patterns_known all names ts)

none_of : {A : Type 0} (o : Option A) → is_some o ≡ false → o ≡ None
none_of None e = refl
none_of (Some x) e = absurd (let f : true ≡ false = e in cc)

pub no_prefix : (all : List Lexeme) (ts : List Triple) → list_all (has_pattern all) ts ≡ false → of_triples all (Some ts) ≡ NoPrefix
no_prefix all ts e = ap (of_patterns all) (none_of (patterns_of all (names_of all) ts) (patterns_known all (names_of all) ts ∙ e))

pub no_patterns : (all : List Lexeme) (names : List Name) (ts : List Triple) → names ≡ names_of all → None ≡ patterns_of all names ts → of_triples all (Some ts) ≡ NoPrefix
no_patterns all names ts is e = ap (of_patterns all) (ap (λ (ns : List Name). patterns_of all ns ts) (sym is) ∙ sym e)

pub with_patterns : (all : List Lexeme) (names : List Name) (ts : List Triple) (ps : List Pattern) → names ≡ names_of all → Some ps ≡ patterns_of all names ts → of_triples all (Some ts) ≡ of_patterns all (Some ps)
with_patterns all names ts ps is e = ap (of_patterns all) (ap (λ (ns : List Name). patterns_of all ns ts) (sym is) ∙ sym e)

before_size : (a : Option Pattern) (b : Option (List Pattern)) (n : ℕ) (ps : List Pattern) → ((qs : List Pattern) → b ≡ Some qs → length qs ≡ n) → pattern_before a b ≡ Some ps → length ps ≡ n + 1
before_size (Some p) (Some qs) n ps f e = let is : p ∷ qs ≡ ps = cc in omega (arith, f qs refl, ap length is)
before_size None b n ps f e = absurd (let g : ◌≡◌ {A = Option (List Pattern)} None (Some ps) = e in cc)
before_size (Some p) None n ps f e = absurd (let g : ◌≡◌ {A = Option (List Pattern)} None (Some ps) = e in cc)

pub patterns_size : (all : List Lexeme) (names : List Name) (ts : List Triple) (ps : List Pattern) → patterns_of all names ts ≡ Some ps → length ps ≡ length ts
patterns_size all names [] ps e = let is : [] ≡ ps = cc in ap length (sym is)
patterns_size all names (t ∷ ts) ps e =
    let size = before_size (pattern_at all names t) (patterns_of all names ts) (length ts) ps (patterns_size all names ts) e in omega (arith, size)

less : (n m : ℕ) → n < m → nat_lt n m ≡ true
less n m h = grind (arith, nat_tests)

not_less : (n m : ℕ) → m ≤ n → nat_lt n m ≡ false
not_less n m h = grind (arith, nat_tests)

some_of : (o : Option (List Pattern)) → is_some o ≡ true → (ps : List Pattern) × (o ≡ Some ps)
some_of None e = absurd (let f : false ≡ true = e in cc)
some_of (Some ps) e = (ps, refl)

pub too_many_patterns : (all : List Lexeme) (ts : List Triple) → list_all (has_pattern all) ts ≡ true → 32 < length ts → of_triples all (Some ts) ≡ TooManyPatterns
too_many_patterns all ts e many =
    let some = some_of (patterns_of all (names_of all) ts) (patterns_known all (names_of all) ts ∙ e) in
    let size = patterns_size all (names_of all) ts some.0 some.1 in
    ap (of_patterns all) some.1
    ∙ ap (λ (t : Bool). cond t TooManyPatterns (cond (nat_lt 128 (length (selected all))) TooManyColumns (cond (is_large (number_behind Limit all) || is_large (number_behind Offset all)) TooLarge (IsQuery (query_by all some.0)))))
    (less 32 (length some.0) (omega (arith, size)))

within_patterns : (all : List Lexeme) (ps : List Pattern) → length ps ≤ 32
    → of_patterns all (Some ps) ≡ cond (nat_lt 128 (length (selected all))) TooManyColumns (cond (is_large (number_behind Limit all) || is_large (number_behind Offset all)) TooLarge (IsQuery (query_by all ps)))
within_patterns all ps few =
    ap (λ (t : Bool). cond t TooManyPatterns (cond (nat_lt 128 (length (selected all))) TooManyColumns (cond (is_large (number_behind Limit all) || is_large (number_behind Offset all)) TooLarge (IsQuery (query_by all ps)))))
    (not_less 32 (length ps) few)

pub too_many_selected : (all : List Lexeme) (ps : List Pattern) → length ps ≤ 32 → 128 < length (selected all) → of_patterns all (Some ps) ≡ TooManyColumns
too_many_selected all ps few many =
    within_patterns all ps few ∙ ap (λ (t : Bool). cond t TooManyColumns (cond (is_large (number_behind Limit all) || is_large (number_behind Offset all)) TooLarge (IsQuery (query_by all ps)))) (less 128 (length (selected all)) many)

within_columns : (all : List Lexeme) (ps : List Pattern) → length ps ≤ 32 → length (selected all) ≤ 128
    → of_patterns all (Some ps) ≡ cond (is_large (number_behind Limit all) || is_large (number_behind Offset all)) TooLarge (IsQuery (query_by all ps))
within_columns all ps few fit =
    within_patterns all ps few ∙ ap (λ (t : Bool). cond t TooManyColumns (cond (is_large (number_behind Limit all) || is_large (number_behind Offset all)) TooLarge (IsQuery (query_by all ps)))) (not_less 128 (length (selected all)) fit)

pub too_large : (all : List Lexeme) (ps : List Pattern) → length ps ≤ 32 → length (selected all) ≤ 128 → (is_large (number_behind Limit all) || is_large (number_behind Offset all)) ≡ true → of_patterns all (Some ps) ≡ TooLarge
too_large all ps few fit e = within_columns all ps few fit ∙ ap (λ (t : Bool). cond t TooLarge (IsQuery (query_by all ps))) e

pub whole_query : (all : List Lexeme) (ps : List Pattern) → length ps ≤ 32 → length (selected all) ≤ 128 → (is_large (number_behind Limit all) || is_large (number_behind Offset all)) ≡ false → of_patterns all (Some ps) ≡ IsQuery (query_by all ps)
whole_query all ps few fit e = within_columns all ps few fit ∙ ap (λ (t : Bool). cond t TooLarge (IsQuery (query_by all ps))) e

-- what the reader of columns answered
pub columns_none : (all : List Lexeme) (r : Option (List code.Column)) → ListsColumns all r → r ≡ None → 128 < length (selected all)
columns_none all None l e = l
columns_none all (Some cs) l e = absurd (cc)

pub columns_some : (all : List Lexeme) (r : Option (List code.Column)) (cs : List code.Column) → ListsColumns all r → r ≡ Some cs
    → (map column_seen cs ≡ map (meaning.column_of (names_of all)) (selected all)) × (length (selected all) ≤ 128)
columns_some all None cs l e = absurd (cc)
columns_some all (Some ds) cs l e = let is : ds ≡ cs = cc in (ap (map column_seen) (sym is) ∙ l.0, l.1)
