-- The entries of a finite map of numbers from a key on, for walks in rising order.
use Rattle.std.specs.Prelude.{◌≡◌, ℕ, ◌+◌, ◌<◌, ◌≤◌, true, false, cond, None, Some}
use Rattle.std.proofs.Common.{sym, ◌∙◌, ap, arith}
use Rattle.std.proofs.Math.Dec.{leb}
use Rattle.std.proofs.lemmas.Bool.Decides.{nat_tests}
use Rattle.std.specs.Ordering.{nat_cmp}
use Rattle.std.specs.Cmp.{nat_cmp_total}
use Rattle.std.specs.FinMap as map
use Rattle.std.specs.FinMap.{FinMap, nat_cmp-IsAntisymmetric}
use native.Mathlib.Decide.{dec_lt}
use Rattle.hypertrie_model.specs.Folds.{sum_over}
use Rattle.hypertrie_model.specs.FoldLaws.{sum_over-remove, sum_over-empty}
use Rattle.hypertrie_model.specs.MapLaws.{by_key, get-remove_here, get-remove_other, same_maps}

leb_true : (a b : ℕ) → a ≤ b → leb a b ≡ true
leb_true a b h = grind (arith, nat_tests)

leb_false : (a b : ℕ) → b < a → leb a b ≡ false
leb_false a b h = grind (arith, nat_tests)

module _ {X : Type 0} where
  abbrev pub tail : FinMap nat_cmp X → ℕ → FinMap nat_cmp X
  tail m from = map.retain_keys m (λ k. leb from k)

  pub get-tail : (m : FinMap nat_cmp X) (from q : ℕ) → map.get (tail m from) q ≡ cond (leb from q) (map.get m q) None
  get-tail m from q = map.get-retain_keys m (λ k. leb from k) q (λ x tie. ap (λ k. leb from k) (sym (nat_cmp-IsAntisymmetric q x tie)))

  pub get-tail_in : (m : FinMap nat_cmp X) (from q : ℕ) → from ≤ q → map.get (tail m from) q ≡ map.get m q
  get-tail_in m from q le = get-tail m from q ∙ ap (λ b. cond b (map.get m q) None) (leb_true from q le)

  pub get-tail_out : (m : FinMap nat_cmp X) (from q : ℕ) → q < from → map.get (tail m from) q ≡ None
  get-tail_out m from q lt = get-tail m from q ∙ ap (λ b. cond b (map.get m q) None) (leb_false from q lt)

  pub tail_all : (m : FinMap nat_cmp X) → tail m 0 ≡ m
  tail_all m = same_maps nat_cmp_total nat_cmp-IsAntisymmetric _ _ (λ q. get-tail_in m 0 q (omega arith))

  pub tail_none : (m : FinMap nat_cmp X) (from : ℕ) → ((k : ℕ) → from ≤ k → map.get m k ≡ None) → tail m from ≡ map.empty
  tail_none m from none = same_maps nat_cmp_total nat_cmp-IsAntisymmetric _ _ (λ q. elim (dec_lt q from) as (λ _. map.get (tail m from) q ≡ map.get (map.empty {R = nat_cmp}) q) [
    | yes lt ↦ get-tail_out m from q lt ∙ sym (map.get-empty nat_cmp q)
    | no ge ↦ get-tail_in m from q (omega arith) ∙ none q (omega arith) ∙ sym (map.get-empty nat_cmp q)
  ])

  -- the least entry from a key on, and the rest
  pub tail_step : (m : FinMap nat_cmp X) (from k : ℕ) → from ≤ k → ((q : ℕ) → from ≤ q → q < k → map.get m q ≡ None) → map.remove (tail m from) k ≡ tail m (k + 1)
  tail_step m from k le none = same_maps nat_cmp_total nat_cmp-IsAntisymmetric _ _ (λ q. by_key nat_cmp_total nat_cmp-IsAntisymmetric (λ b. map.get (map.remove (tail m from) k) q ≡ map.get (tail m (k + 1)) q) q k
      (λ is. ap (map.get (map.remove (tail m from) k)) is ∙ get-remove_here nat_cmp_total nat_cmp-IsAntisymmetric (tail m from) k ∙ sym (ap (map.get (tail m (k + 1))) is ∙ get-tail_out m (k + 1) k (omega arith)))
      (λ ne. get-remove_other nat_cmp_total nat_cmp-IsAntisymmetric (tail m from) k q ne ∙ elim (dec_lt q k) as (λ _. map.get (tail m from) q ≡ map.get (tail m (k + 1)) q) [
        | yes lt ↦ elim (dec_lt q from) as (λ _. map.get (tail m from) q ≡ map.get (tail m (k + 1)) q) [
          | yes low ↦ get-tail_out m from q low ∙ sym (get-tail_out m (k + 1) q (omega arith))
          | no here ↦ get-tail_in m from q (omega arith) ∙ none q (omega arith) lt ∙ sym (get-tail_out m (k + 1) q (omega arith))
        ]
        | no ge ↦ get-tail_in m from q (omega arith) ∙ sym (get-tail_in m (k + 1) q (omega arith))
      ]))

  pub sum_over-tail : (m : FinMap nat_cmp X) (f : ℕ → X → ℕ) (from k : ℕ) (v : X) → map.get m k ≡ Some v → from ≤ k → ((q : ℕ) → from ≤ q → q < k → map.get m q ≡ None) → sum_over (tail m from) f ≡ f k v + sum_over (tail m (k + 1)) f
  sum_over-tail m f from k v at le none = sum_over-remove nat_cmp_total nat_cmp-IsAntisymmetric (tail m from) f k v (get-tail_in m from k le ∙ at) ∙ ap (λ n. f k v + sum_over n f) (tail_step m from k le none)

  pub sum_over-tail_none : (m : FinMap nat_cmp X) (f : ℕ → X → ℕ) (from : ℕ) → ((k : ℕ) → from ≤ k → map.get m k ≡ None) → sum_over (tail m from) f ≡ 0
  sum_over-tail_none m f from none = ap (λ n. sum_over n f) (tail_none m from none) ∙ sum_over-empty nat_cmp_total nat_cmp-IsAntisymmetric f
