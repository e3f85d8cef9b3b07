-- The names of the tokens: each has its own number, and comes from a token.
use Rattle.std.proofs.Common.{◌≡◌, ◌∙◌, ℕ, zero, suc, ◌+◌, ◌<◌, ◌≤◌, Bool, true, false, cond, ◌⊎◌, inl, inr, List, [], ◌∷◌, ◌++◌, length, take, drop, get_or, refl, sym, ap, subst, arith, eqb, Option, Some, None}
use Rattle.std.specs.Prelude.{IfSome, not, ◌||◌}
use Rattle.std.specs.List.{AllByRecursion, list_any, position_or_len}
use Rattle.std.proofs.lemmas.Bool.Decides.{nat_tests}
use Rattle.std.proofs.lemmas.Bool.{cases_lt}
use Rattle.std.proofs.lemmas.List.{length-append, drop_all}
use Rattle.std.proofs.lemmas.List.Folds.{position_or_len_push}
use Rattle.std.proofs.lemmas.Slice.Eq.{bytes_eq-Decides}
use Rattle.query_grammar.specs.Lexemes.{Lexeme}
use Rattle.query_grammar.specs.Meaning.{Name, VariableName, LabelName, Fresh, same_name, number_among, with_some, names_from, name_by, name_of, parts_from, at}
use Rattle.query_grammar.specs.Signs.{Sign, Variable, Label, Open, sign_of, role_of}
use Rattle.query_read.proofs.LabelsTouched.{weight, labels_in, AllParts, AllLabels}

same_self : (n : Name) → same_name n n ≡ true
same_self (VariableName text) = (bytes_eq-Decides text text).1 refl
same_self (LabelName text) = (bytes_eq-Decides text text).1 refl
same_self (Fresh i) = equal i i refl
  where
    equal : (a b : ℕ) → a ≡ b → eqb a b ≡ true
    equal a b e = grind (arith, nat_tests)

pub any_before_end : {A : Type 0} (test : A → Bool) (xs : List A) → list_any test xs ≡ true → position_or_len test xs < length xs
any_before_end test [] e = absurd (let f : false ≡ true = e in cc)
any_before_end test (x ∷ xs) e = by (any_before_end test xs) (test x) e
  where
    by : (list_any test xs ≡ true → position_or_len test xs < length xs) → (t : Bool) → (t || list_any test xs) ≡ true → cond (not t) (1 + position_or_len test xs) 0 < length (x ∷ xs)
    by f true e = omega arith
    by f false e = omega (arith, f e)

pub none_at_end : {A : Type 0} (test : A → Bool) (xs : List A) → list_any test xs ≡ false → position_or_len test xs ≡ length xs
none_at_end test [] e = refl
none_at_end test (x ∷ xs) e = by (none_at_end test xs) (test x) e
  where
    by : (list_any test xs ≡ false → position_or_len test xs ≡ length xs) → (t : Bool) → (t || list_any test xs) ≡ false → cond (not t) (1 + position_or_len test xs) 0 ≡ length (x ∷ xs)
    by f true e = absurd (let g : true ≡ false = e in cc)
    by f false e = omega (arith, f e)

abbrev pub name_at : List Name → ℕ → Name
name_at names l = get_or names l (Fresh 0)

pub record AreNumbered (names : List Name) : Type 0 where
  pub each : (l : ℕ) → l < length names → number_among names (name_at names l) ≡ l

get_front : (names : List Name) (n : Name) (l : ℕ) → l < length names → name_at (names ++ n ∷ []) l ≡ name_at names l
get_front [] n l h = absurd (omega arith)
get_front (m ∷ names) n zero h = refl
get_front (m ∷ names) n (suc l) h = get_front names n l (omega arith)

get_last : (names : List Name) (n : Name) (l : ℕ) → l ≡ length names → name_at (names ++ n ∷ []) l ≡ n
get_last [] n l h = ap (λ (k : ℕ). name_at (n ∷ []) k) h
get_last (m ∷ names) n zero h = absurd (omega arith)
get_last (m ∷ names) n (suc l) h = get_last names n l (omega arith)

eq_tests : (a b : ℕ) → a ≡ b → eqb a b ≡ true
eq_tests a b e = grind (arith, nat_tests)

ne_tests : (a b : ℕ) → a < b → eqb a b ≡ false
ne_tests a b e = grind (arith, nat_tests)

numbered_push : (names : List Name) (n : Name) → AreNumbered names → list_any (same_name n) names ≡ false → AreNumbered (names ++ n ∷ [])
numbered_push names n a none = record { each = λ l h. by l h (cases_lt l (length names)) }
  where
    by : (l : ℕ) → l < length (names ++ n ∷ []) → (l < length names) ⊎ (length names ≤ l) → number_among (names ++ n ∷ []) (name_at (names ++ n ∷ []) l) ≡ l
    by l h (inl k) =
        let found : number_among names (name_at names l) ≡ l = a.each l k in
        ap (λ (m : Name). number_among (names ++ n ∷ []) m) (get_front names n l k)
        ∙ position_or_len_push (same_name (name_at names l)) names n
        ∙ ap (λ (t : Bool). cond t (length names + cond (same_name (name_at names l) n) 0 1) (number_among names (name_at names l))) (ne_tests _ _ (omega (arith, found)))
        ∙ found
    by l h (inr k) =
        let last : l ≡ length names = omega (arith, length-append names (n ∷ [])) in
        ap (λ (m : Name). number_among (names ++ n ∷ []) m) (get_last names n l last)
        ∙ position_or_len_push (same_name n) names n
        ∙ ap (λ (t : Bool). cond t (length names + cond (same_name n n) 0 1) (number_among names n)) (eq_tests _ _ (none_at_end (same_name n) names none))
        ∙ ap (λ (t : Bool). length names + cond t 0 1) (same_self n)
        ∙ omega (arith, last)

numbered_with : (names : List Name) (n : Option Name) → AreNumbered names → AreNumbered (with_some names n)
numbered_with names None a = a
numbered_with names (Some n) a = by (list_any (same_name n) names) refl
  where
    by : (t : Bool) → list_any (same_name n) names ≡ t → AreNumbered (cond t names (names ++ n ∷ []))
    by true e = a
    by false e = numbered_push names n a e

numbered_all : (names : List Name) (i : ℕ) (ls : List Lexeme) → AreNumbered names → AreNumbered (names_from names i ls)
numbered_all names i [] a = a
numbered_all names i (l ∷ ls) a = numbered_all (with_some names (name_of l i)) (i + 1) ls (numbered_with names (name_of l i) a)

pub numbered : (i : ℕ) (ls : List Lexeme) → AreNumbered (names_from [] i ls)
numbered i ls = numbered_all [] i ls (record { each = λ l h. absurd (omega arith) })

-- What holds of the names of the tokens

abbrev pub AllNamed : (Name → Type 0) → ℕ → List Lexeme → Type 0
AllNamed Q i [] = Unit {0}
AllNamed Q i (l ∷ ls) = IfSome (name_of l i) Q × AllNamed Q (i + 1) ls

all_push : (Q : Name → Type 0) (names : List Name) (n : Name) → AllByRecursion Q names → Q n → AllByRecursion Q (names ++ n ∷ [])
all_push Q [] n a q = (q, tt)
all_push Q (m ∷ names) n a q = (a.0, all_push Q names n a.1 q)

all_with : (Q : Name → Type 0) (names : List Name) (n : Option Name) → AllByRecursion Q names → IfSome n Q → AllByRecursion Q (with_some names n)
all_with Q names None a q = a
all_with Q names (Some n) a q = by (list_any (same_name n) names)
  where
    by : (t : Bool) → AllByRecursion Q (cond t names (names ++ n ∷ []))
    by true = a
    by false = all_push Q names n a q

pub all_named : (Q : Name → Type 0) (names : List Name) (i : ℕ) (ls : List Lexeme) → AllByRecursion Q names → AllNamed Q i ls → AllByRecursion Q (names_from names i ls)
all_named Q names i [] a q = a
all_named Q names i (l ∷ ls) a q = all_named Q (with_some names (name_of l i)) (i + 1) ls (all_with Q names (name_of l i) a q.0) q.1

pub all_at : (Q : Name → Type 0) (names : List Name) (l : ℕ) → AllByRecursion Q names → l < length names → Q (name_at names l)
all_at Q [] l a h = absurd (omega arith)
all_at Q (n ∷ names) zero a h = a.0
all_at Q (n ∷ names) (suc l) a h = all_at Q names l a.1 (omega arith)

-- The name of each token is among the names

abbrev pub Has : List Name → Name → Type 0
Has names n = list_any (same_name n) names ≡ true

has_front : (names : List Name) (m n : Name) → Has names n → Has (names ++ m ∷ []) n
has_front [] m n h = absurd (let f : false ≡ true = h in cc)
has_front (k ∷ names) m n h = by (has_front names m n) (same_name n k) h
  where
    by : (Has names n → Has (names ++ m ∷ []) n) → (t : Bool) → (t || list_any (same_name n) names) ≡ true → (t || list_any (same_name n) (names ++ m ∷ [])) ≡ true
    by f true e = refl
    by f false e = f e

has_last : (names : List Name) (n : Name) → Has (names ++ n ∷ []) n
has_last [] n = ap (λ (t : Bool). t || false) (same_self n)
has_last (k ∷ names) n = by (has_last names n) (same_name n k)
  where
    by : Has (names ++ n ∷ []) n → (t : Bool) → (t || list_any (same_name n) (names ++ n ∷ [])) ≡ true
    by f true = refl
    by f false = f

has_with : (names : List Name) (m : Option Name) (n : Name) → Has names n → Has (with_some names m) n
has_with names None n h = h
has_with names (Some m) n h = by (list_any (same_name m) names)
  where
    by : (t : Bool) → Has (cond t names (names ++ m ∷ [])) n
    by true = h
    by false = has_front names m n h

has_own : (names : List Name) (m : Option Name) → IfSome m (Has (with_some names m))
has_own names None = tt
has_own names (Some m) = by (list_any (same_name m) names) refl
  where
    by : (t : Bool) → list_any (same_name m) names ≡ t → Has (cond t names (names ++ m ∷ [])) m
    by true e = e
    by false e = has_last names m

has_all : (names : List Name) (n : Name) (i : ℕ) (ls : List Lexeme) → Has names n → Has (names_from names i ls) n
has_all names n i [] h = h
has_all names n i (l ∷ ls) h = has_all (with_some names (name_of l i)) n (i + 1) ls (has_with names (name_of l i) n h)

if_some : {A : Type 0} {P Q : A → Type 0} (o : Option A) → ((x : A) → P x → Q x) → IfSome o P → IfSome o Q
if_some None f h = tt
if_some (Some x) f h = f x h

pub each_has : (names : List Name) (i : ℕ) (ls : List Lexeme) → AllNamed (Has (names_from names i ls)) i ls
each_has names i [] = tt
each_has names i (l ∷ ls) = (
  if_some {P = Has (with_some names (name_of l i))} {Q = Has (names_from (with_some names (name_of l i)) (i + 1) ls)} (name_of l i) (λ n h. has_all (with_some names (name_of l i)) n (i + 1) ls h) (has_own names (name_of l i)),
  each_has (with_some names (name_of l i)) (i + 1) ls,
)

-- How many there are

size_with : (names : List Name) (n : Option Name) (k : ℕ) → IfSome n (λ m. k ≡ 1) → length (with_some names n) ≤ length names + k
size_with names None k h = omega arith
size_with names (Some n) k h = by (list_any (same_name n) names)
  where
    by : (t : Bool) → length (cond t names (names ++ n ∷ [])) ≤ length names + k
    by true = omega arith
    by false = omega (arith, h, length-append names (n ∷ []))

weighs : (sign : Sign) (text : List ℕ) (i : ℕ) → IfSome (name_by sign text i) (λ m. weight (role_of sign) ≡ 1)
weighs Variable text i = refl
weighs Label text i = refl
weighs Open text i = refl
weighs _ text i = tt

pub size_all : (names : List Name) (i : ℕ) (ls : List Lexeme) → length (names_from names i ls) ≤ length names + labels_in (parts_from i ls)
size_all names i [] = omega arith
size_all names i (l ∷ ls) =
    omega (arith, size_all (with_some names (name_of l i)) (i + 1) ls, size_with names (name_of l i) (weight (role_of (sign_of l))) (weighs (sign_of l) l.text i))

-- Tokens by their places

abbrev pub Aligned : List Lexeme → ℕ → List Lexeme → Type 0
Aligned all i [] = Unit {0}
Aligned all i (l ∷ ls) = (at all i ≡ l) × Aligned all (i + 1) ls

drop_at : (xs : List Lexeme) (i : ℕ) → i < length xs → drop i xs ≡ at xs i ∷ drop (i + 1) xs
drop_at xs i h = let next : suc i ≡ i + 1 = omega arith in drop_by xs i h ∙ ap (λ (n : ℕ). at xs i ∷ drop n xs) next
  where
    drop_by : (xs : List Lexeme) (i : ℕ) → i < length xs → drop i xs ≡ at xs i ∷ drop (suc i) xs
    drop_by [] i h = absurd (omega arith)
    drop_by (x ∷ xs) zero h = refl
    drop_by (x ∷ xs) (suc i) h = drop_by xs i (omega arith)

pub aligned : (all : List Lexeme) (n i : ℕ) → Aligned all i (take n (drop i all))
aligned all zero i = tt
aligned all (suc n) i = by (aligned all n (i + 1)) (cases_lt i (length all))
  where
    by : Aligned all (i + 1) (take n (drop (i + 1) all)) → (i < length all) ⊎ (length all ≤ i) → Aligned all i (take (suc n) (drop i all))
    by f (inl h) = subst (λ (ls : List Lexeme). Aligned all i (take (suc n) ls)) (sym (drop_at all i h)) (refl, f)
    by f (inr h) = subst (λ (ls : List Lexeme). Aligned all i (take (suc n) ls)) (sym (drop_all i all h)) tt

-- what holds at the places of labels holds of the names
pub named_at : (Q : Name → Type 0) (all : List Lexeme) (i : ℕ) (ls : List Lexeme) → Aligned all i ls → AllLabels (λ k. IfSome (name_of (at all k) k) Q) (parts_from i ls) → AllNamed Q i ls
named_at Q all i [] a h = tt
named_at Q all i (l ∷ ls) a h = (
  heavy (name_of l i) (weighs (sign_of l) l.text i) (λ w. subst (λ (m : Lexeme). IfSome (name_of m i) Q) a.0 (h.0 w)),
  named_at Q all (i + 1) ls a.1 h.1,
)
  where
    heavy : (o : Option Name) → IfSome o (λ m. weight (role_of (sign_of l)) ≡ 1) → (weight (role_of (sign_of l)) ≡ 1 → IfSome o Q) → IfSome o Q
    heavy None w f = tt
    heavy (Some n) w f = f w

-- what holds of the names holds at the places of the tokens
pub at_named : (Q : Name → Type 0) (all : List Lexeme) (i : ℕ) (ls : List Lexeme) → Aligned all i ls → AllNamed Q i ls → AllParts (λ k. IfSome (name_of (at all k) k) Q) (parts_from i ls)
at_named Q all i [] a h = tt
at_named Q all i (l ∷ ls) a h = (subst (λ (m : Lexeme). IfSome (name_of m i) Q) (sym a.0) h.0, at_named Q all (i + 1) ls a.1 h.1)
