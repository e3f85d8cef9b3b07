-- Whether a sign is there, and the number behind it.
use Rattle.std.proofs.Common.{◌≡◌, ◌∙◌, ℕ, ◌+◌, ◌<◌, ◌≤◌, ◌^◌, Bool, true, false, cond, ◌⊎◌, inl, inr, List, [], ◌∷◌, length, refl, sym, ap, arith, Some, None}
use Rattle.std.specs.Prelude.{not, ◌||◌}
use Rattle.std.specs.List.{list_any, position_or_len}
use Rattle.std.proofs.lemmas.Bool.Decides.{nat_tests}
use Rattle.std.specs.Prelude.{nat_lt}
use Rattle.std.proofs.lemmas.Bool.{cases_lt}
use Rattle.query_grammar.specs.Lexemes.{Lexeme}
use Rattle.query_grammar.specs.Meaning.{at, has_sign, is_sign, is_large, number_behind, place_of, value_of}
use Rattle.query_grammar.specs.Signs.{Sign, sign_of}

pub any_some : {A : Type 0} (test : A → Bool) (xs : List A) → position_or_len test xs < length xs → list_any test xs ≡ true
any_some test [] h = absurd (omega arith)
any_some test (x ∷ xs) h = by (any_some test xs) (test x) h
  where
    by : (position_or_len test xs < length xs → list_any test xs ≡ true) → (t : Bool) → cond (not t) (1 + position_or_len test xs) 0 < length (x ∷ xs) → (t || list_any test xs) ≡ true
    by f true h = refl
    by f false h = f (omega arith)

pub any_none : {A : Type 0} (test : A → Bool) (xs : List A) → length xs ≤ position_or_len test xs → list_any test xs ≡ false
any_none test [] h = refl
any_none test (x ∷ xs) h = by (any_none test xs) (test x) h
  where
    by : (length xs ≤ position_or_len test xs → list_any test xs ≡ false) → (t : Bool) → length (x ∷ xs) ≤ cond (not t) (1 + position_or_len test xs) 0 → (t || list_any test xs) ≡ false
    by f true h = absurd (omega arith)
    by f false h = f (omega arith)

number_there : (s : Sign) (all : List Lexeme) → place_of s all < length all → number_behind s all ≡ Some (value_of (at all (place_of s all + 1)).text)
number_there s all h = ap (λ (t : Bool). cond t (Some (value_of (at all (place_of s all + 1)).text)) None) (any_some (λ l. is_sign s (sign_of l)) all h)

pub number_none : (s : Sign) (all : List Lexeme) → length all ≤ place_of s all → (None ≡ number_behind s all) × (is_large (number_behind s all) ≡ false)
number_none s all h =
    let is : number_behind s all ≡ None = ap (λ (t : Bool). cond t (Some (value_of (at all (place_of s all + 1)).text)) None) (any_none (λ l. is_sign s (sign_of l)) all h) in
    (sym is, ap is_large is)

not_lt : (n m : ℕ) → n < m → not (nat_lt n m) ≡ false
not_lt n m h = grind (arith, nat_tests)

not_ge : (n m : ℕ) → m ≤ n → not (nat_lt n m) ≡ true
not_ge n m h = grind (arith, nat_tests)

pub number_some : (s : Sign) (all : List Lexeme) (place n : ℕ) (digits : List ℕ) → place ≡ place_of s all → place < length all → digits ≡ (at all (place + 1)).text → n ≡ value_of digits → n < 2 ^ 64
    → (Some n ≡ number_behind s all) × (is_large (number_behind s all) ≡ false)
number_some s all place n digits is h d e small =
    let there : place_of s all < length all = omega (arith, is) in
    let same : number_behind s all ≡ Some n =
    number_there s all there ∙ ap (λ (k : ℕ). Some (value_of (at all (k + 1)).text)) (sym is) ∙ ap (λ (ds : List ℕ). Some (value_of ds)) (sym d) ∙ ap (λ (k : ℕ). Some k) (sym e) in
    (sym same, ap is_large same ∙ not_lt n (2 ^ 64) small)

pub number_large : (s : Sign) (all : List Lexeme) (place : ℕ) (digits : List ℕ) → place ≡ place_of s all → place < length all → digits ≡ (at all (place + 1)).text → 2 ^ 64 ≤ value_of digits
    → is_large (number_behind s all) ≡ true
number_large s all place digits is h d large =
    let there : place_of s all < length all = omega (arith, is) in
    let same : number_behind s all ≡ Some (value_of digits) =
    number_there s all there ∙ ap (λ (k : ℕ). Some (value_of (at all (k + 1)).text)) (sym is) ∙ ap (λ (ds : List ℕ). Some (value_of ds)) (sym d) in
    ap is_large same ∙ not_ge (value_of digits) (2 ^ 64) large

is_lt : (n m : ℕ) → n < m → nat_lt n m ≡ true
is_lt n m h = grind (arith, nat_tests)

is_ge : (n m : ℕ) → m ≤ n → nat_lt n m ≡ false
is_ge n m h = grind (arith, nat_tests)

pub has_by : (s : Sign) (all : List Lexeme) (place : ℕ) → place ≡ place_of s all → place ≤ length all → nat_lt place (length all) ≡ has_sign s all
has_by s all place is h = by (cases_lt place (length all))
  where
    by : (place < length all) ⊎ (length all ≤ place) → nat_lt place (length all) ≡ has_sign s all
    by (inl less) = is_lt place (length all) less ∙ sym (any_some (λ l. is_sign s (sign_of l)) all (omega (arith, is)))
    by (inr more) = is_ge place (length all) more ∙ sym (any_none (λ l. is_sign s (sign_of l)) all (omega (arith, is)))

-- both numbers together
pub both_small : (a b : Bool) → a ≡ false → b ≡ false → (a || b) ≡ false
both_small a b e f = rw (e, f) refl

pub first_large : (a b : Bool) → a ≡ true → (a || b) ≡ true
first_large a b e = ap (λ (t : Bool). t || b) e

pub second_large : (a b : Bool) → a ≡ false → b ≡ true → (a || b) ≡ true
second_large a b e f = rw (e, f) refl
