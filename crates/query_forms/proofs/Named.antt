-- The names that are found are those of the productions.
use Rattle.std.proofs.Common.{◌≡◌, ◌∙◌, ◌+◌, ℕ, zero, suc, Bool, true, false, cond, not, ◌||◌, List, [], ◌∷◌, ◌++◌, refl, sym, ap, subst, arith, append_assoc, append-nil, Option, Some, None}
use Rattle.std.specs.Prelude.{◌==◌, Contains, slice_get, fold}
use Rattle.std.specs.List.{list_any, cons_option}
use Rattle.std.specs.Str.{bytes_eq}
use Rattle.std.proofs.lemmas.Bool.Decides.{nat_tests}
use Rattle.std.proofs.lemmas.List.Sums.{fold-append}
use Rattle.std.proofs.lemmas.List.Folds.{list_any-append}
use Rattle.std.proofs.lemmas.Slice.Eq.{bytes_eq-Decides}
use Rattle.query_grammar.specs.Lexemes.{Lexeme}
use Rattle.query_grammar.specs.Meaning.{Name, VariableName, LabelName, Fresh, same_name, name_by, name_of, with_name, with_some, names_from, number_among, variables_from}
use Rattle.query_grammar.specs.Signs.{Sign, Variable, Label, Open, sign_of}
use Rattle.query_grammar.specs.Texts.{behind_first}
use Rattle.query_forms.specs.Laws.{NamesAsProductions}
use Rattle.query_forms.proofs.Signed.{clash, neither}
use Rattle.query_forms.specs.Naming.{IsName, variable, label, bracket, IsVariable, Mentions, nothing, name, other, IsEachOnce, new, again, AreNames}

-- Equal names

same_itself : (n : Name) → same_name n n ≡ true
same_itself (VariableName a) = (bytes_eq-Decides a a).1 refl
same_itself (LabelName a) = (bytes_eq-Decides a a).1 refl
same_itself (Fresh i) = itself i where
  itself : (i : ℕ) → (i == i) ≡ true
  itself i = grind (arith, nat_tests)

same_is : (m n : Name) → same_name m n ≡ true → m ≡ n
same_is (VariableName a) (VariableName b) h = ap VariableName ((bytes_eq-Decides a b).0 h)
same_is (LabelName a) (LabelName b) h = ap LabelName ((bytes_eq-Decides a b).0 h)
same_is (Fresh i) (Fresh j) h = ap Fresh (number i j h) where
  number : (i j : ℕ) → (i == j) ≡ true → i ≡ j
  number i j h = grind (arith, nat_tests)
same_is _ _ h = absurd (let f : ⊥ = cc in f)

pub is_same : (m n : Name) → m ≡ n → same_name m n ≡ true
is_same m n e = ap (same_name m) (sym e) ∙ same_itself m

abbrev pub among : List Name → Name → Bool
among names n = list_any (same_name n) names

among_contains : (names : List Name) (n : Name) → among names n ≡ true → Contains names n
among_contains [] n h = absurd (let f : ⊥ = cc in f)
among_contains (m ∷ names) n h = by (same_name n m) refl h (among_contains names n) where
  by : (b : Bool) → same_name n m ≡ b → (b || list_any (same_name n) names) ≡ true → (list_any (same_name n) names ≡ true → Contains names n) → Contains (m ∷ names) n
  by true e h more = (zero, omega arith, sym (same_is n m e))
  by false e h more = let c = more h in (suc c.0, omega (arith, c.1), c.2)

pub contains_among : (names : List Name) (n : Name) → Contains names n → among names n ≡ true
contains_among [] n (k, low, is) = absurd (omega (arith, low))
contains_among (m ∷ names) n (zero, low, is) = ap (λ b. b || list_any (same_name n) names) (is_same n m (sym is))
contains_among (m ∷ names) n (suc k, low, is) = by (same_name n m) (contains_among names n (k, omega (arith, low), is)) where
  by : (b : Bool) → list_any (same_name n) names ≡ true → (b || list_any (same_name n) names) ≡ true
  by true more = refl
  by false more = more

pub not_among : (names : List Name) (n : Name) → (Contains names n → ⊥) → among names n ≡ false
not_among names n h = by (among names n) refl where
  by : (b : Bool) → among names n ≡ b → among names n ≡ false
  by true e = absurd (h (among_contains names n e))
  by false e = e

-- Each name once

abbrev pub once_all : List Name → List Name
once_all all = fold with_name [] all

with_old : (names : List Name) (n : Name) → among names n ≡ true → with_name names n ≡ names
with_old names n h = ap (λ b. cond b names (names ++ n ∷ [])) h

with_new : (names : List Name) (n : Name) → among names n ≡ false → with_name names n ≡ names ++ n ∷ []
with_new names n h = ap (λ b. cond b names (names ++ n ∷ [])) h

once_is : (all once : List Name) → IsEachOnce all once → once ≡ once_all all
once_is _ _ nothing = refl
once_is _ _ (new all once n h absent) =
    sym (fold-append with_name [] all (n ∷ []) ∙ (ap (λ names. with_name names n) (sym (once_is all once h)) ∙ with_new once n (not_among once n absent)))
once_is _ _ (again all once n h present) =
    sym (fold-append with_name [] all (n ∷ []) ∙ (ap (λ names. with_name names n) (sym (once_is all once h)) ∙ with_old once n (contains_among once n present)))

once_more : (all once more : List Name) → IsEachOnce all once → IsEachOnce (all ++ more) (fold with_name once more)
once_more all once [] h = subst (λ names. IsEachOnce names once) (sym (append-nil all)) h
once_more all once (n ∷ more) h =
    subst (λ names. IsEachOnce names (fold with_name once (n ∷ more))) (append_assoc all (n ∷ []) more)
    (once_more (all ++ n ∷ []) (with_name once n) more (by (among once n) refl)) where
      by : (b : Bool) → among once n ≡ b → IsEachOnce (all ++ n ∷ []) (with_name once n)
      by true e = subst (IsEachOnce (all ++ n ∷ [])) (sym (with_old once n e)) (again all once n h (among_contains once n e))
      by false e = subst (IsEachOnce (all ++ n ∷ [])) (sym (with_new once n e)) (new all once n h (λ c. clash (sym (contains_among once n c) ∙ e)))

is_once : (all : List Name) → IsEachOnce all (once_all all)
is_once all = once_more [] [] all nothing

-- Mentions

-- what is found of each token
abbrev pub all_found : (ℕ → Lexeme → Option Name) → ℕ → List Lexeme → List Name
all_found find i [] = []
all_found find i (l ∷ ls) = cons_option (find i l) (all_found find (i + 1) ls)

none_some : (n : Name) → None ≡ Some n → ⊥
none_some n e = let f : ⊥ = cc in f

module _ (Is : ℕ → Lexeme → Name → Type 0) (find : ℕ → Lexeme → Option Name)
    (sound : (i : ℕ) (l : Lexeme) (n : Name) → find i l ≡ Some n → Is i l n) (complete : (i : ℕ) (l : Lexeme) (n : Name) → Is i l n → find i l ≡ Some n) where
  none_found : (i : ℕ) (l : Lexeme) → ((n : Name) → Is i l n → ⊥) → find i l ≡ None
  none_found i l h = by (find i l) refl where
    by : (o : Option Name) → find i l ≡ o → find i l ≡ None
    by None e = e
    by (Some n) e = absurd (h n (sound i l n e))

  all_mentioned : (i : ℕ) (ls : List Lexeme) (names : List Name) → Mentions Is i ls names → names ≡ all_found find i ls
  all_mentioned _ _ _ (nothing i) = refl
  all_mentioned _ _ _ (name i l n ls names is more) =
      ap (λ ns. n ∷ ns) (all_mentioned (i + 1) ls names more) ∙ ap (λ o. cons_option o (all_found find (i + 1) ls)) (sym (complete i l n is))
  all_mentioned _ _ _ (other i l ls names isnt more) =
      all_mentioned (i + 1) ls names more ∙ ap (λ o. cons_option o (all_found find (i + 1) ls)) (sym (none_found i l isnt))

  mention_all : (i : ℕ) (ls : List Lexeme) → Mentions Is i ls (all_found find i ls)
  mention_all i [] = nothing i
  mention_all i (l ∷ ls) = by (find i l) refl (mention_all (i + 1) ls) where
    by : (o : Option Name) → find i l ≡ o → Mentions Is (i + 1) ls (all_found find (i + 1) ls) → Mentions Is i (l ∷ ls) (cons_option o (all_found find (i + 1) ls))
    by None e more = other i l ls (all_found find (i + 1) ls) (λ n is. none_some n (sym e ∙ complete i l n is)) more
    by (Some n) e more = name i l n ls (all_found find (i + 1) ls) (sound i l n e) more

  names_only : (i : ℕ) (ls : List Lexeme) (names : List Name) → AreNames Is i ls names → names ≡ once_all (all_found find i ls)
  names_only i ls names h = once_is h.all names h.once ∙ ap once_all (all_mentioned i ls h.all h.mentions)

  pub are_names : (i : ℕ) (ls : List Lexeme) → AreNames Is i ls (once_all (all_found find i ls))
  are_names i ls = record { all = all_found find i ls; mentions = mention_all i ls; once = is_once (all_found find i ls) }

-- What is a name

abbrev find_name : ℕ → Lexeme → Option Name
find_name i l = name_of l i

pub name_sound : (i : ℕ) (l : Lexeme) (n : Name) → name_of l i ≡ Some n → IsName i l n
name_sound i l n e = by (sign_of l) refl e where
  by : (s : Sign) → sign_of l ≡ s → name_by s l.text i ≡ Some n → IsName i l n
  by Variable s e = subst (IsName i l) (let same : VariableName (behind_first 1 l.text) ≡ n = cc in same) (variable i l s)
  by Label s e = subst (IsName i l) (let same : LabelName (behind_first 2 l.text) ≡ n = cc in same) (label i l s)
  by Open s e = subst (IsName i l) (let same : Fresh i ≡ n = cc in same) (bracket i l s)
  by _ s e = absurd (none_some n e)

pub name_complete : (i : ℕ) (l : Lexeme) (n : Name) → IsName i l n → name_of l i ≡ Some n
name_complete _ _ _ (variable i l s) = ap (λ (t : Sign). name_by t l.text i) s
name_complete _ _ _ (label i l s) = ap (λ (t : Sign). name_by t l.text i) s
name_complete _ _ _ (bracket i l s) = ap (λ (t : Sign). name_by t l.text i) s

abbrev pub variable_by : Sign → List ℕ → Option Name
variable_by Variable text = Some (VariableName (behind_first 1 text))
variable_by _ text = None

abbrev pub find_variable : ℕ → Lexeme → Option Name
find_variable i l = variable_by (sign_of l) l.text

variable_sound : (i : ℕ) (l : Lexeme) (n : Name) → find_variable i l ≡ Some n → IsVariable i l n
variable_sound i l n e = by (sign_of l) refl e where
  by : (s : Sign) → sign_of l ≡ s → variable_by s l.text ≡ Some n → IsVariable i l n
  by Variable s e = (s, subst (IsName i l) (let same : VariableName (behind_first 1 l.text) ≡ n = cc in same) (variable i l s))
  by _ s e = absurd (none_some n e)

variable_complete : (i : ℕ) (l : Lexeme) (n : Name) → IsVariable i l n → find_variable i l ≡ Some n
variable_complete i l n (s, is) =
    ap (λ (t : Sign). variable_by t l.text) s ∙ (ap (λ (t : Sign). name_by t l.text i) (sym s) ∙ name_complete i l n is)

-- Those that are found

all_from : (names : List Name) (i : ℕ) (ls : List Lexeme) → names_from names i ls ≡ fold with_name names (all_found find_name i ls)
all_from names i [] = refl
all_from names i (l ∷ ls) = all_from (with_some names (name_of l i)) (i + 1) ls ∙ by (name_of l i) where
  by : (o : Option Name) → fold with_name (with_some names o) (all_found find_name (i + 1) ls) ≡ fold with_name names (cons_option o (all_found find_name (i + 1) ls))
  by None = refl
  by (Some n) = refl

same_among : (names : List Name) (v : List ℕ) → among (variables_from names) (VariableName v) ≡ among names (VariableName v)
same_among [] v = refl
same_among (VariableName w ∷ names) v = ap (λ b. bytes_eq v w || b) (same_among names v)
same_among (LabelName w ∷ names) v = same_among names v
same_among (Fresh i ∷ names) v = same_among names v

variables_push : (names : List Name) (n : Name) → variables_from (names ++ n ∷ []) ≡ variables_from names ++ variables_from (n ∷ [])
variables_push [] n = refl
variables_push (VariableName w ∷ names) n = ap (λ ns. VariableName w ∷ ns) (variables_push names n)
variables_push (LabelName w ∷ names) n = variables_push names n
variables_push (Fresh i ∷ names) n = variables_push names n

variables_with : (names : List Name) (v : List ℕ) → variables_from (with_name names (VariableName v)) ≡ with_name (variables_from names) (VariableName v)
variables_with names v = by (among names (VariableName v)) refl where
  by : (b : Bool) → among names (VariableName v) ≡ b → variables_from (with_name names (VariableName v)) ≡ with_name (variables_from names) (VariableName v)
  by true e = ap variables_from (with_old names (VariableName v) e) ∙ sym (with_old (variables_from names) (VariableName v) (same_among names v ∙ e))
  by false e = ap variables_from (with_new names (VariableName v) e) ∙ (variables_push names (VariableName v) ∙ sym (with_new (variables_from names) (VariableName v) (same_among names v ∙ e)))

variables_without : (names : List Name) (n : Name) → variables_from (n ∷ []) ≡ [] → variables_from (with_name names n) ≡ variables_from names
variables_without names n h = by (among names n) refl where
  by : (b : Bool) → among names n ≡ b → variables_from (with_name names n) ≡ variables_from names
  by true e = ap variables_from (with_old names n e)
  by false e = ap variables_from (with_new names n e) ∙ (variables_push names n ∙ (ap (λ ns. variables_from names ++ ns) h ∙ append-nil (variables_from names)))

variables_all : (names : List Name) (i : ℕ) (ls : List Lexeme) → variables_from (fold with_name names (all_found find_name i ls)) ≡ fold with_name (variables_from names) (all_found find_variable i ls)
variables_all names i [] = refl
variables_all names i (l ∷ ls) = by (sign_of l) (λ ns. variables_all ns (i + 1) ls) where
  by : (s : Sign) → ((ns : List Name) → variables_from (fold with_name ns (all_found find_name (i + 1) ls)) ≡ fold with_name (variables_from ns) (all_found find_variable (i + 1) ls))
      → variables_from (fold with_name names (cons_option (name_by s l.text i) (all_found find_name (i + 1) ls))) ≡ fold with_name (variables_from names) (cons_option (variable_by s l.text) (all_found find_variable (i + 1) ls))
  by Variable more = more (with_name names (VariableName (behind_first 1 l.text))) ∙ ap (λ ns. fold with_name ns (all_found find_variable (i + 1) ls)) (variables_with names (behind_first 1 l.text))
  by Label more = more (with_name names (LabelName (behind_first 2 l.text))) ∙ ap (λ ns. fold with_name ns (all_found find_variable (i + 1) ls)) (variables_without names (LabelName (behind_first 2 l.text)) refl)
  by Open more = more (with_name names (Fresh i)) ∙ ap (λ ns. fold with_name ns (all_found find_variable (i + 1) ls)) (variables_without names (Fresh i) refl)
  by _ more = more names

pub variables_once : (i : ℕ) (ls : List Lexeme) → variables_from (names_from [] i ls) ≡ once_all (all_found find_variable i ls)
variables_once i ls = ap variables_from (all_from [] i ls) ∙ variables_all [] i ls

pub names_as_productions : NamesAsProductions
names_as_productions = record {
  names = λ i ls names. (
    (λ h. names_only IsName find_name name_sound name_complete i ls names h ∙ sym (all_from [] i ls)),
    (λ e. subst (AreNames IsName i ls) (sym (e ∙ all_from [] i ls)) (are_names IsName find_name name_sound name_complete i ls)),
  );
  variables = λ i ls names. (
    (λ h. names_only IsVariable find_variable variable_sound variable_complete i ls names h ∙ sym (variables_once i ls)),
    (λ e. subst (AreNames IsVariable i ls) (sym (e ∙ variables_once i ls)) (are_names IsVariable find_variable variable_sound variable_complete i ls)),
  );
}

-- The number of a name

abbrev pub Distinct : List Name → Type 0
Distinct [] = Unit {0}
Distinct (n ∷ names) = (among names n ≡ false) × Distinct names

different : (m n : Name) → (m ≡ n → ⊥) → same_name m n ≡ false
different m n h = by (same_name m n) refl where
  by : (b : Bool) → same_name m n ≡ b → same_name m n ≡ false
  by true e = absurd (h (same_is m n e))
  by false e = e

distinct_push : (names : List Name) (n : Name) → Distinct names → among names n ≡ false → Distinct (names ++ n ∷ [])
distinct_push [] n d h = (refl, tt)
distinct_push (m ∷ names) n d h =
    let both = neither (same_name n m) (among names n) h in
    let apart : same_name m n ≡ false = different m n (λ e. clash (sym (is_same n m (sym e)) ∙ both.0)) in (
      list_any-append (same_name m) names (n ∷ []) ∙ ((λ i. d.0 i || (apart i || false))),
      distinct_push names n d.1 both.1,
    )

pub distinct_once : (all once : List Name) → IsEachOnce all once → Distinct once
distinct_once _ _ nothing = tt
distinct_once _ _ (new all once n h absent) = distinct_push once n (distinct_once all once h) (not_among once n absent)
distinct_once _ _ (again all once n h present) = distinct_once all once h

one_and : (n : ℕ) → 1 + n ≡ suc n
one_and n = omega arith

pub number_found : (names : List Name) (n : Name) → among names n ≡ true → slice_get names (number_among names n) ≡ Some n
number_found [] n h = absurd (clash (sym h))
number_found (m ∷ names) n h = by (same_name n m) refl h (number_found names n) where
  by : (b : Bool) → same_name n m ≡ b → (b || among names n) ≡ true → (among names n ≡ true → slice_get names (number_among names n) ≡ Some n)
      → slice_get (m ∷ names) (cond (not b) (1 + number_among names n) 0) ≡ Some n
  by true e h more = ap Some (sym (same_is n m e))
  by false e h more = ap (slice_get (m ∷ names)) (one_and (number_among names n)) ∙ more h

pub place_among : (names : List Name) (i : ℕ) (n : Name) → slice_get names i ≡ Some n → among names n ≡ true
place_among [] i n e = absurd (none_some n e)
place_among (m ∷ names) zero n e = ap (λ b. b || among names n) (is_same n m (let same : n ≡ m = cc in same))
place_among (m ∷ names) (suc i) n e = by (same_name n m) (place_among names i n e) where
  by : (b : Bool) → among names n ≡ true → (b || among names n) ≡ true
  by true h = refl
  by false h = h

pub number_only : (names : List Name) (i : ℕ) (n : Name) → Distinct names → slice_get names i ≡ Some n → number_among names n ≡ i
number_only [] i n d e = absurd (none_some n e)
number_only (m ∷ names) zero n d e = ap (λ b. cond (not b) (1 + number_among names n) 0) (is_same n m (let same : n ≡ m = cc in same))
number_only (m ∷ names) (suc i) n d e =
    let apart : same_name n m ≡ false = different n m (λ same. clash (sym (place_among names i n e) ∙ (ap (among names) same ∙ d.0))) in
    ap (λ b. cond (not b) (1 + number_among names n) 0) apart ∙ (ap (λ k. 1 + k) (number_only names i n d.1 e) ∙ one_and i)
