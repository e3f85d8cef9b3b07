-- A character that begins no token by itself may begin a prefix.
use Rattle.std.proofs.Common.{◌≡◌, ℕ, Bool, true, false, ◌||◌, List, [], ◌∷◌, refl, arith}
use Rattle.std.specs.Prelude.{codes}
use Rattle.std.proofs.lemmas.Bool.Decides.{nat_tests}
use Rattle.query_lex.specs.Steps.{Class, One, Letter, Digit, PrefixStart, is_in, Moves, stop, to, rest, except, run, start_moves}
use Rattle.query_lex.specs.declared.state.State.{State}
use Rattle.query_lex.specs.declared.state.State.TheVariants as state
use Rattle.query_lex.specs.declared.state.Prefixed.TheVariants as prefixed

-- one of the classes has the character
abbrev pub is_in_any : List Class → ℕ → Bool
is_in_any [] c = false
is_in_any (class ∷ classes) c = is_in class c || is_in_any classes c

abbrev pub begins_alone : List Class
begins_alone = One (codes "<") ∷ One (codes "'") ∷ One (codes "\"") ∷ One (codes "?$") ∷ One (codes "_") ∷ One (codes "@") ∷ One (codes "+-")
    ∷ One (codes ".") ∷ Digit ∷ One (codes ":") ∷ One (codes "^") ∷ One (codes "{}[];,*") ∷ Letter ∷ []

-- moves by the classes, one after the other, and then others
abbrev first_by : List Class → Moves State → Moves State → Type 0
first_by [] m others = m ≡ others
first_by (class ∷ classes) stop others = ⊥
first_by (class ∷ classes) (rest q) others = ⊥
first_by (class ∷ classes) (except k m) others = ⊥
first_by (class ∷ classes) (to k q m) others = (k ≡ class) × first_by classes m others

passed : (classes : List Class) (m others : Moves State) (c : ℕ) → first_by classes m others → is_in_any classes c ≡ false → run m c ≡ run others c
passed [] m others c f h = cc
passed (class ∷ classes) (to k q m) others c f h =
    let both : (is_in class c ≡ false) × (is_in_any classes c ≡ false) = neither _ _ h in
    let test : is_in k c ≡ false = rw f.0 both.0 in
    rw test (passed classes m others c f.1 both.1)
  where
    neither : (a b : Bool) → (a || b) ≡ false → (a ≡ false) × (b ≡ false)
    neither true b h = cc
    neither false b h = (refl, h)
passed (class ∷ classes) stop others c f h = absurd f
passed (class ∷ classes) (rest q) others c f h = absurd f
passed (class ∷ classes) (except k m) others c f h = absurd f

pub other_start : (c : ℕ) → is_in_any begins_alone c ≡ false → run start_moves c ≡ run (to PrefixStart (state.Prefixed prefixed.Prefix) stop) c
other_start c h =
    passed begins_alone start_moves (to PrefixStart (state.Prefixed prefixed.Prefix) stop) c
    (refl, (refl, (refl, (refl, (refl, (refl, (refl, (refl, (refl, (refl, (refl, (refl, (refl, refl))))))))))))) h

pub no_colon : (c : ℕ) → (c ≡ 58 → ⊥) → is_in (One (codes ":")) c ≡ false
unfolding is_in
no_colon c h = grind (arith, nat_tests)
