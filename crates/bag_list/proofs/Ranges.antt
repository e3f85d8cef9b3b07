-- Ranges of numbers.
use Rattle.std.specs.Prelude.{◌≡◌, ℕ, zero, suc, ◌+◌, Bool, true, false, cond, [], ◌∷◌, ◌++◌}
use Rattle.std.proofs.Common.{◌∙◌, ap, arith}
use Rattle.std.specs.List.{filter, range_with_len}

filter-suc : (p : ℕ → Bool) (a n j : ℕ) → a + n ≡ j → filter p (range_with_len a (suc n)) ≡ filter p (range_with_len a n) ++ cond (p j) (j ∷ []) []
filter-suc p a zero j e = ap (λ i. cond (p i) (i ∷ []) []) (let is : a ≡ j = omega (arith, e) in is)
filter-suc p a (suc n) j e = elim (p a) as (λ b. cond b (a ∷ filter p (range_with_len (a + 1) (suc n))) (filter p (range_with_len (a + 1) (suc n))) ≡ cond b (a ∷ filter p (range_with_len (a + 1) n)) (filter p (range_with_len (a + 1) n)) ++ cond (p j) (j ∷ []) []) [
  | true ↦ ap (λ xs. a ∷ xs) (filter-suc p (a + 1) n j (omega (arith, e)))
  | false ↦ filter-suc p (a + 1) n j (omega (arith, e))
]

-- one number more
pub filter-range_more : (p : ℕ → Bool) (n : ℕ) → filter p (range_with_len 0 (n + 1)) ≡ filter p (range_with_len 0 n) ++ cond (p n) (n ∷ []) []
filter-range_more p n = ap (λ m. filter p (range_with_len 0 m)) (let e : n + 1 ≡ suc n = omega arith in e) ∙ filter-suc p 0 n n (omega arith)
