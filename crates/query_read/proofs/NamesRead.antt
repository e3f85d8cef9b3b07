-- The names and the variables that were read so far.
use Rattle.std.proofs.Common.{◌≡◌, ◌∙◌, ℕ, ◌+◌, ◌<◌, ◌≤◌, Bool, true, false, cond, List, [], ◌∷◌, ◌++◌, length, get_or, refl, sym, ap, arith, Option, Some, None}
use Rattle.std.specs.Prelude.{map, ◌||◌}
use Rattle.std.specs.List.{list_any}
use Rattle.std.proofs.lemmas.List.{length-append}
use Rattle.query_grammar.specs.Lexemes.{Lexeme}
use Rattle.query_grammar.specs.Meaning as meaning
use Rattle.query_grammar.specs.Meaning.{VariableName, LabelName, Fresh, same_name, number_among, with_name, with_some, names_from, name_by, name_of, variables_from}
use Rattle.query_grammar.specs.Signs.{Sign, Variable, Label, Open, sign_of}
use Rattle.query_grammar.specs.Texts.{behind_first}
use Rattle.query_read.specs.Reads.{block_within, variable_by, variable_of, variables_of}
use Rattle.query_read.specs.Seen.{name_seen, name_seen_in}
use Rattle.query_read.specs.declared.name.Name.{Name}
use Rattle.query_read.proofs.SignsFound.{any_some, any_none}
use Rattle.query_read.proofs.Within.{within_cons}

pub size_seen : (items : List Name) → length (map name_seen items) ≡ length items
size_seen [] = refl
size_seen (m ∷ items) = omega (arith, size_seen items)

map_push : (items : List Name) (n : Name) → map name_seen (items ++ n ∷ []) ≡ map name_seen items ++ name_seen n ∷ []
map_push [] n = refl
map_push (m ∷ items) n = ap (λ (ns : List meaning.Name). name_seen m ∷ ns) (map_push items n)

with_some_is : (names : List meaning.Name) (o : Option Name) (name : Name) → o ≡ Some name → with_name names (name_seen name) ≡ with_some names (name_seen_in o)
with_some_is names o name e = ap (λ (x : Option Name). with_some names (name_seen_in x)) (sym e)

pub add_kept : (items : List Name) (o : Option Name) (name : Name) (k : ℕ) → o ≡ Some name → k ≡ number_among (map name_seen items) (name_seen name) → k < length items
    → map name_seen items ≡ with_some (map name_seen items) (name_seen_in o)
add_kept items o name k e is h =
    let there : number_among (map name_seen items) (name_seen name) < length (map name_seen items) = omega (arith, is, size_seen items) in
    sym (ap (λ (t : Bool). cond t (map name_seen items) (map name_seen items ++ name_seen name ∷ [])) (any_some (same_name (name_seen name)) (map name_seen items) there))
    ∙ with_some_is (map name_seen items) o name e

pub add_new : (items new : List Name) (o : Option Name) (name : Name) (k : ℕ) → o ≡ Some name → k ≡ number_among (map name_seen items) (name_seen name) → length items ≤ k → new ≡ items ++ name ∷ []
    → map name_seen new ≡ with_some (map name_seen items) (name_seen_in o)
add_new items new o name k e is h more =
    let none : length (map name_seen items) ≤ number_among (map name_seen items) (name_seen name) = omega (arith, is, size_seen items) in
    ap (map name_seen) more ∙ map_push items name
    ∙ sym (ap (λ (t : Bool). cond t (map name_seen items) (map name_seen items ++ name_seen name ∷ [])) (any_none (same_name (name_seen name)) (map name_seen items) none))
    ∙ with_some_is (map name_seen items) o name e

pub names_more : (all : List Lexeme) (l : Lexeme) (first names new : List meaning.Name) (o : Option meaning.Name) (i to : ℕ) → first ≡ names_from names i (block_within i to all) → i < to → to ≤ length all → l ≡ get_or all i l
    → new ≡ with_some names o → o ≡ name_of l i → first ≡ names_from new (i + 1) (block_within (i + 1) to all)
names_more all l first names new o i to e h k at add own =
    e ∙ ap (names_from names i) (within_cons all l i to h k at) ∙ ap (λ (ns : List meaning.Name). names_from ns (i + 1) (block_within (i + 1) to all)) (ap (with_some names) (sym own) ∙ sym add)

-- Variables alone

abbrev pub heads : List meaning.Name → List Lexeme → List meaning.Name
heads names [] = names
heads names (l ∷ ls) = heads (with_some names (variable_of l)) ls

variables_append : (names more : List meaning.Name) → variables_from (names ++ more) ≡ variables_from names ++ variables_from more
variables_append [] more = refl
variables_append (VariableName t ∷ names) more = ap (λ (ns : List meaning.Name). VariableName t ∷ ns) (variables_append names more)
variables_append (LabelName t ∷ names) more = variables_append names more
variables_append (Fresh i ∷ names) more = variables_append names more

any_variables : (t : List ℕ) (names : List meaning.Name) → list_any (same_name (VariableName t)) names ≡ list_any (same_name (VariableName t)) (variables_from names)
any_variables t [] = refl
any_variables t (VariableName u ∷ names) = ap (λ (b : Bool). same_name (VariableName t) (VariableName u) || b) (any_variables t names)
any_variables t (LabelName u ∷ names) = any_variables t names
any_variables t (Fresh i ∷ names) = any_variables t names

append_nil : (xs : List meaning.Name) → xs ++ [] ≡ xs
append_nil [] = refl
append_nil (x ∷ xs) = ap (λ (ys : List meaning.Name). x ∷ ys) (append_nil xs)

with_variable : (names : List meaning.Name) (t : List ℕ) → variables_from (with_name names (VariableName t)) ≡ with_name (variables_from names) (VariableName t)
with_variable names t = by (list_any (same_name (VariableName t)) names) (any_variables t names)
  where
    by : (b : Bool) → b ≡ list_any (same_name (VariableName t)) (variables_from names)
        → variables_from (cond b names (names ++ VariableName t ∷ [])) ≡ with_name (variables_from names) (VariableName t)
    by true e = ap (λ (b : Bool). cond b (variables_from names) (variables_from names ++ VariableName t ∷ [])) e
    by false e = variables_append names (VariableName t ∷ []) ∙ ap (λ (b : Bool). cond b (variables_from names) (variables_from names ++ VariableName t ∷ [])) e

with_other : (names : List meaning.Name) (n : meaning.Name) → variables_from (n ∷ []) ≡ [] → variables_from (with_name names n) ≡ variables_from names
with_other names n e = by (list_any (same_name n) names)
  where
    by : (b : Bool) → variables_from (cond b names (names ++ n ∷ [])) ≡ variables_from names
    by true = refl
    by false = variables_append names (n ∷ []) ∙ ap (λ (ns : List meaning.Name). variables_from names ++ ns) e ∙ append_nil (variables_from names)

with_token : (names : List meaning.Name) (sign : Sign) (text : List ℕ) (i : ℕ) → variables_from (with_some names (name_by sign text i)) ≡ with_some (variables_from names) (variable_by sign text)
with_token names Variable text i = with_variable names (behind_first 1 text)
with_token names Label text i = with_other names (LabelName (behind_first 2 text)) refl
with_token names Open text i = with_other names (Fresh i) refl
with_token names _ text i = refl

heads_are : (names : List meaning.Name) (i : ℕ) (ls : List Lexeme) → variables_from (names_from names i ls) ≡ heads (variables_from names) ls
heads_are names i [] = refl
heads_are names i (l ∷ ls) =
    heads_are (with_some names (name_of l i)) (i + 1) ls ∙ ap (λ (ns : List meaning.Name). heads ns ls) (with_token names (sign_of l) l.text i)

pub variables_begin : (all : List Lexeme) → variables_of all ≡ heads [] all
variables_begin all = heads_are [] 0 all

heads_more : (names : List meaning.Name) (ls : List Lexeme) → length names ≤ length (heads names ls)
heads_more names [] = omega arith
heads_more names (l ∷ ls) = omega (arith, heads_more (with_some names (variable_of l)) ls, longer (variable_of l))
  where
    longer : (o : Option meaning.Name) → length names ≤ length (with_some names o)
    longer None = omega arith
    longer (Some n) = by (list_any (same_name n) names)
      where
        by : (b : Bool) → length names ≤ length (cond b names (names ++ n ∷ []))
        by true = omega arith
        by false = omega (arith, length-append names (n ∷ []))

pub variables_more : (all rest behind : List Lexeme) (l : Lexeme) (names new : List meaning.Name) (o : Option meaning.Name) → variables_of all ≡ heads names rest → rest ≡ l ∷ behind → new ≡ with_some names o → o ≡ variable_of l
    → variables_of all ≡ heads new behind
variables_more all rest behind l names new o e split add own =
    e ∙ ap (heads names) split ∙ ap (λ (ns : List meaning.Name). heads ns behind) (ap (with_some names) (sym own) ∙ sym add)

pub too_many : (all rest : List Lexeme) (items : List Name) → variables_of all ≡ heads (map name_seen items) rest → 128 < length items → 128 < length (variables_of all)
too_many all rest items e h = omega (arith, ap length e, heads_more (map name_seen items) rest, size_seen items)

pub all_variables : (all rest : List Lexeme) (items : List Name) → variables_of all ≡ heads (map name_seen items) rest → rest ≡ [] → length items ≤ 128 → (map name_seen items ≡ variables_of all) × (length (variables_of all) ≤ 128)
all_variables all rest items e none h =
    let same : variables_of all ≡ map name_seen items = e ∙ ap (heads (map name_seen items)) none in
    (sym same, omega (arith, ap length same, size_seen items))

-- Columns

pub variables_cons : (n : meaning.Name) (names : List meaning.Name) → variables_from (n ∷ names) ≡ variables_from (n ∷ []) ++ variables_from names
variables_cons (VariableName t) names = refl
variables_cons (LabelName t) names = refl
variables_cons (Fresh i) names = refl

pub label_some : (items : List Name) (n : meaning.Name) (k : ℕ) → k ≡ number_among (map name_seen items) n → k < length items → Some k ≡ (meaning.column_of (map name_seen items) n).label
label_some items n k is h =
    let there : number_among (map name_seen items) n < length (map name_seen items) = omega (arith, is, size_seen items) in
    ap (λ (l : ℕ). Some l) is ∙ sym (ap (λ (t : Bool). cond t (Some (number_among (map name_seen items) n)) None) (any_some (same_name n) (map name_seen items) there))

pub label_none : (items : List Name) (n : meaning.Name) (k : ℕ) → k ≡ number_among (map name_seen items) n → length items ≤ k → None ≡ (meaning.column_of (map name_seen items) n).label
label_none items n k is h =
    let none : length (map name_seen items) ≤ number_among (map name_seen items) n = omega (arith, is, size_seen items) in
    sym (ap (λ (t : Bool). cond t (Some (number_among (map name_seen items) n)) None) (any_none (same_name n) (map name_seen items) none))
