-- The columns that were read so far, and those that are to come.
use Rattle.std.proofs.Common.{◌≡◌, ◌∙◌, ◌<◌, ◌≤◌, Bool, cond, List, [], ◌∷◌, ◌++◌, length, refl, sym, ap, append_assoc, arith, Option, Some, None}
use Rattle.std.specs.Prelude.{map}
use Rattle.query_grammar.specs.Lexemes.{Lexeme}
use Rattle.query_grammar.specs.Meaning.{Name, Column, column_of, variables_from, names_of, names_from, selected, before_block, place_of, VariableName, LabelName, Fresh}
use Rattle.query_grammar.specs.Signs.{Star}
use Rattle.std.specs.Option.{option_map}
use Rattle.query_read.specs.Reads.{variables_of, ListsVariables}
use Rattle.query_read.proofs.NamesRead.{variables_cons}
use Rattle.query_read.proofs.SignsFound.{any_some, any_none}

pub record AreColumnsSoFar (names chosen rest : List Name) (columns : List Column) : Type 0 where
  pub finds : map (column_of names) (variables_from chosen) ≡ columns ++ map (column_of names) (variables_from rest)

pub columns_begin : (names chosen : List Name) → AreColumnsSoFar names chosen chosen []
columns_begin names chosen = record { finds = refl }

map_append : (f : Name → Column) (xs ys : List Name) → map f (xs ++ ys) ≡ map f xs ++ map f ys
map_append f [] ys = refl
map_append f (x ∷ xs) ys = ap (λ (cs : List Column). f x ∷ cs) (map_append f xs ys)

pub columns_go_on : (names chosen rest behind : List Name) (n : Name) (columns more : List Column) → AreColumnsSoFar names chosen rest columns → rest ≡ n ∷ behind
    → more ≡ columns ++ map (column_of names) (variables_from (n ∷ [])) → AreColumnsSoFar names chosen behind more
columns_go_on names chosen rest behind n columns more s split new = record {
  finds = s.finds ∙ ap (λ (ns : List Name). columns ++ map (column_of names) (variables_from ns)) split
      ∙ ap (λ (ns : List Name). columns ++ map (column_of names) ns) (variables_cons n behind)
      ∙ ap (λ (cs : List Column). columns ++ cs) (map_append (column_of names) (variables_from (n ∷ [])) (variables_from behind))
      ∙ sym (append_assoc columns (map (column_of names) (variables_from (n ∷ []))) (map (column_of names) (variables_from behind)))
      ∙ ap (λ (cs : List Column). cs ++ map (column_of names) (variables_from behind)) (sym new);
}

append_nil : (xs : List Column) → xs ++ [] ≡ xs
append_nil [] = refl
append_nil (x ∷ xs) = ap (λ (ys : List Column). x ∷ ys) (append_nil xs)

pub columns_end : (names chosen rest : List Name) (columns : List Column) → AreColumnsSoFar names chosen rest columns → rest ≡ [] → columns ≡ map (column_of names) (variables_from chosen)
columns_end names chosen rest columns s none =
    sym (s.finds ∙ ap (λ (ns : List Name). columns ++ map (column_of names) (variables_from ns)) none ∙ append_nil columns)

-- With a star or with a list of variables

pub select_all : (all : List Lexeme) → place_of Star (before_block all) < length (before_block all) → selected all ≡ variables_from (names_of all)
select_all all h = ap (λ (t : Bool). cond t (variables_from (names_of all)) (variables_from (names_from [] 0 (before_block all)))) (any_some _ (before_block all) h)

pub select_some : (all : List Lexeme) → length (before_block all) ≤ place_of Star (before_block all) → selected all ≡ variables_of (before_block all)
select_some all h = ap (λ (t : Bool). cond t (variables_from (names_of all)) (variables_from (names_from [] 0 (before_block all)))) (any_none _ (before_block all) h)

fewer : (names : List Name) → length (variables_from names) ≤ length names
fewer [] = omega arith
fewer (VariableName t ∷ names) = omega (arith, fewer names)
fewer (LabelName t ∷ names) = omega (arith, fewer names)
fewer (Fresh i ∷ names) = omega (arith, fewer names)

-- variables that were chosen are chosen among themselves
variables_twice : (names : List Name) → variables_from (variables_from names) ≡ variables_from names
variables_twice [] = refl
variables_twice (VariableName t ∷ names) = ap (λ (ns : List Name). VariableName t ∷ ns) (variables_twice names)
variables_twice (LabelName t ∷ names) = variables_twice names
variables_twice (Fresh i ∷ names) = variables_twice names

pub star_columns : (all head : List Lexeme) (names : List Name) (columns : List Column) → head ≡ before_block all → place_of Star head < length head → names ≡ names_of all → length names ≤ 96
    → columns ≡ map (column_of names) (variables_from names) → (columns ≡ map (column_of (names_of all)) (selected all)) × (length (selected all) ≤ 128)
star_columns all head names columns e h is few cs =
    let star = select_all all (rw (← e) h) in
    (cs ∙ ap (λ (ns : List Name). map (column_of ns) (variables_from ns)) is ∙ ap (map (column_of (names_of all))) (sym star), omega (arith, ap length star, fewer (names_of all), ap length is))

pub listed_columns : (all head : List Lexeme) (names chosen : List Name) (columns : List Column) → head ≡ before_block all → length head ≤ place_of Star head → names ≡ names_of all
    → chosen ≡ variables_of head → length (variables_of head) ≤ 128 → columns ≡ map (column_of names) (variables_from chosen) → (columns ≡ map (column_of (names_of all)) (selected all)) × (length (selected all) ≤ 128)
listed_columns all head names chosen columns e h is choice few cs =
    let some = select_some all (rw (← e) h) ∙ ap variables_of (sym e) in
    let twice : variables_from chosen ≡ selected all = ap variables_from choice ∙ variables_twice (names_from [] 0 head) ∙ sym some in
    (cs ∙ ap (map (column_of names)) twice ∙ ap (λ (ns : List Name). map (column_of ns) (selected all)) is, omega (arith, ap length some, few))

pub too_many_columns : (all head : List Lexeme) → head ≡ before_block all → length head ≤ place_of Star head → 128 < length (variables_of head) → 128 < length (selected all)
too_many_columns all head e h many =
    let some = select_some all (rw (← e) h) ∙ ap variables_of (sym e) in
    omega (arith, ap length some, many)

-- what the reader of variables answered
pub unlisted : {V : Type 0} (names : V → List Name) (head : List Lexeme) (r : Option V) → ListsVariables head (option_map names r) → r ≡ None → 128 < length (variables_of head)
unlisted names head None l e = l
unlisted names head (Some v) l e = absurd (cc)

pub listed : {V : Type 0} (names : V → List Name) (head : List Lexeme) (r : Option V) (v : V) → ListsVariables head (option_map names r) → r ≡ Some v → (names v ≡ variables_of head) × (length (variables_of head) ≤ 128)
listed names head None v l e = absurd (cc)
listed names head (Some u) v l e = let is : u ≡ v = cc in (ap names (sym is) ∙ l.0, l.1)
