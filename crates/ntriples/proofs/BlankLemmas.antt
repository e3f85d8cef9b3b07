-- What stands behind the blanks, by the first byte that is none.
use Rattle.std.proofs.Common.{◌≡◌, ◌∙◌, ℕ, zero, suc, ◌<◌, ◌≤◌, ◌==◌, ◌||◌, Bool, true, false, not, List, [], ◌∷◌, length, drop, slice_index, refl, sym, ap, arith, Option, Some, None}
use Rattle.std.specs.Prelude.{unwrap_or}
use Rattle.memchr.specs.Find.{IsFirstByte}
use Rattle.bstr.specs.Bytes.{is_in, not_in}
use Rattle.text_lines.specs.Blanks.{is_blank, after_blanks}

or-false : (a : Bool) → (a || false) ≡ a
or-false true = refl
or-false false = refl

is_in-blanks : (x : ℕ) → not_in (32 ∷ 9 ∷ []) x ≡ not (is_blank x)
unfolding is_in
is_in-blanks x = ap (λ b. not (x == 32 || b)) (or-false (x == 9))

behind : (bs : List ℕ) (k : ℕ) → ((j : ℕ) → j < k → is_blank (slice_index bs j) ≡ true) → (k < length bs → is_blank (slice_index bs k) ≡ false) → k ≤ length bs → after_blanks bs ≡ drop k bs
behind [] zero blanks stop within = refl
behind [] (suc k) blanks stop within = absurd (omega arith)
behind (b ∷ bs) zero blanks stop within = rw (stop (omega arith)) refl
behind (b ∷ bs) (suc k) blanks stop within = rw (blanks 0 (omega arith)) (behind bs k (λ j h. blanks (suc j) (omega arith)) (λ h. stop (omega arith)) (omega arith))

not_passed : (x : ℕ) → (not_in (32 ∷ 9 ∷ []) x ≡ true → ⊥) → is_blank x ≡ true
not_passed x none = by (is_blank x) refl where
  by : (b : Bool) → is_blank x ≡ b → b ≡ true
  by true e = refl
  by false e = absurd (none (is_in-blanks x ∙ ap not e))

passed : (x : ℕ) → not_in (32 ∷ 9 ∷ []) x ≡ true → is_blank x ≡ false
passed x p = by (is_blank x) refl where
  by : (b : Bool) → is_blank x ≡ b → b ≡ false
  by false e = refl
  by true e = let no : true ≡ false = sym p ∙ is_in-blanks x ∙ ap not e in cc

-- the first byte that is no blank begins what stands behind the blanks
pub behind_first : (bs : List ℕ) (r : Option ℕ) → IsFirstByte (not_in (32 ∷ 9 ∷ [])) bs r → drop (unwrap_or r (length bs)) bs ≡ after_blanks bs
behind_first bs None first = sym (behind bs (length bs) (λ j h. not_passed _ (first j (omega arith) h)) (λ h. absurd (omega arith)) (omega arith))
behind_first bs (Some k) first = sym (behind bs k (λ j h. not_passed _ (first.0.before j (omega arith) h)) (λ h. passed _ first.1) (omega (arith, first.0.high)))
