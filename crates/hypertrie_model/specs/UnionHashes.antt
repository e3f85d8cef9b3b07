-- The exclusive or over a union of sets that have no member in common.
use Rattle.std.specs.Prelude.{◌≡◌, ℕ, ◌||◌, Bool, true, false, refl, bit_xor}
use Rattle.std.proofs.Common.{sym, ◌∙◌, ap, arith}
use Rattle.std.specs.Int.Bits.{xor_zero_r}
use Rattle.std.specs.Ordering.{eq_by_cmp}
use Rattle.std.specs.declared.cmp.Ordering.{Ordering}
use Rattle.std.specs.Cmp.{IsTotalOrder}
use Rattle.std.specs.FinSet as set
use Rattle.std.specs.FinSet.{FinSet, IsAntisymmetric}
use Rattle.hypertrie_model.specs.SetLaws.{tied-itself}
use Rattle.hypertrie_model.specs.SetInduction.{set_ind, Disjoint, union_empty, union_insert}
use Rattle.hypertrie_model.specs.Folds.{xor_over}
use Rattle.hypertrie_model.specs.FoldLaws.{xor_swaps, xor_over-empty, xor_over-insert, xor_over-lt}

module _ {K : Type 0} {R : K → K → Ordering} (o : IsTotalOrder R) (exact : IsAntisymmetric R) (g : K → ℕ) where
  pub xor_over-union_disjoint : (s t : FinSet R) → Disjoint o exact s t → xor_over (set.union s t) g ≡ bit_xor (xor_over s g) (xor_over t g)
  xor_over-union_disjoint s = set_ind o exact (λ t. Disjoint o exact s t → xor_over (set.union s t) g ≡ bit_xor (xor_over s g) (xor_over t g))
      (λ _. ap (λ u. xor_over u g) (union_empty o exact s) ∙ sym (ap (bit_xor (xor_over s g)) (xor_over-empty o exact g) ∙ xor_zero_r (xor_over s g)))
      (λ t k new ind apart.
      let in_s : set.contains s k ≡ false = apart k (set.contains-insert o t k k ∙ ap (λ b. b || set.contains t k) (tied-itself o k)) in
      let rest = ind (λ q e. apart q (set.contains-insert o t k q ∙ or_right (eq_by_cmp R q k) (set.contains t q) e)) in
      let in_both : set.contains (set.union s t) k ≡ false = set.contains-union o s t k ∙ (λ j. in_s j || new j) in
      ap (λ u. xor_over u g) (union_insert o exact s t k)
      ∙ xor_over-insert o exact (set.union s t) g k in_both
      ∙ ap (bit_xor (g k)) rest
      ∙ xor_swaps (g k) (xor_over s g) (xor_over t g)
      ∙ ap (bit_xor (xor_over s g)) (sym (xor_over-insert o exact t g k new))) where
        or_right : (a b : Bool) → b ≡ true → (a || b) ≡ true
        or_right true b e = refl
        or_right false b e = e

  -- where every part is 0
  pub xor_over-zero : ((k : K) → g k ≡ 0) → (s : FinSet R) → xor_over s g ≡ 0
  xor_over-zero zero s = let small = xor_over-lt o exact 0 g (omega arith) (λ k. let z = zero k in omega arith) s in omega arith
