-- The first place that passes a test, and tokens by their places.
use Rattle.std.proofs.Common.{◌≡◌, ◌∙◌, ℕ, ◌+◌, ◌<◌, ◌≤◌, Bool, true, false, cond, List, [], ◌∷◌, length, get_or, sym, ap, arith}
use Rattle.std.specs.Prelude.{not}
use Rattle.std.specs.List.{position_or_len}
use Rattle.std.proofs.lemmas.List.{get_or_default, get_or_past}
use Rattle.query_grammar.specs.Lexemes.{Lexeme}
use Rattle.query_grammar.specs.Meaning.{at, no_lexeme, term_at, term_by}
use Rattle.query_grammar.specs.Signs.{sign_of, OtherWord}
use Rattle.std.proofs.Common.{None}

pub record IsPlaceSoFar {A : Type 0} (test : A → Bool) (all rest : List A) (i : ℕ) : Type 0 where
  pub so_far : position_or_len test all ≡ i + position_or_len test rest

pub place_begins : {A : Type 0} (test : A → Bool) (all : List A) → IsPlaceSoFar test all all 0
place_begins test all = record { so_far = omega arith }

pub place_goes_on : {A : Type 0} (test : A → Bool) (all rest behind : List A) (x : A) (i : ℕ) → IsPlaceSoFar test all rest i → rest ≡ x ∷ behind → test x ≡ false → IsPlaceSoFar test all behind (i + 1)
place_goes_on test all rest behind x i s split e =
    let one : position_or_len test (x ∷ behind) ≡ 1 + position_or_len test behind = ap (λ (t : Bool). cond (not t) (1 + position_or_len test behind) 0) e in
    let same : position_or_len test rest ≡ position_or_len test (x ∷ behind) = ap (position_or_len test) split in
    record { so_far = omega (arith, s.so_far, one, same) }

pub place_found : {A : Type 0} (test : A → Bool) (all rest behind : List A) (x : A) (i : ℕ) → IsPlaceSoFar test all rest i → rest ≡ x ∷ behind → test x ≡ true → i ≡ position_or_len test all
place_found test all rest behind x i s split e =
    let none : position_or_len test (x ∷ behind) ≡ 0 = ap (λ (t : Bool). cond (not t) (1 + position_or_len test behind) 0) e in
    let same : position_or_len test rest ≡ position_or_len test (x ∷ behind) = ap (position_or_len test) split in
    omega (arith, s.so_far, none, same)

pub place_missed : {A : Type 0} (test : A → Bool) (all rest : List A) (i : ℕ) → IsPlaceSoFar test all rest i → rest ≡ [] → i ≡ position_or_len test all
place_missed test all rest i s none =
    let same : position_or_len test rest ≡ 0 = ap (position_or_len test) none in
    omega (arith, s.so_far, same)

-- a token within the list, and none behind its end
pub at_there : (all : List Lexeme) (i : ℕ) (l : Lexeme) → i < length all → l ≡ get_or all i l → l ≡ at all i
at_there all i l h e = e ∙ get_or_default all i l no_lexeme h

pub at_past : (all : List Lexeme) (i : ℕ) → length all ≤ i → at all i ≡ no_lexeme
at_past all i h = get_or_past all i no_lexeme h

pub sign_past : (all : List Lexeme) (i : ℕ) → length all ≤ i → OtherWord ≡ sign_of (at all i)
unfolding sign_of
sign_past all i h = sym (ap sign_of (at_past all i h))

pub term_past : (all : List Lexeme) (i : ℕ) → length all ≤ i → None ≡ term_at all i
term_past all i h = ap (λ s. term_by s all i) (sign_past all i h)
