-- The keys that have a slice at a mask, by the slices at its lowest position.
use Rattle.std.specs.Prelude.{◌≡◌, ◌≢◌, ℕ, ◌+◌, ◌^◌, ◌<◌, ◌≤◌, Bool, List}
use Rattle.std.proofs.Common.{sym, ◌∙◌, ap, subst, arith}
use Rattle.std.specs.Ordering.{nat_cmp}
use Rattle.std.specs.Cmp.{nat_cmp_total as total}
use Rattle.std.specs.FinMap.{nat_cmp-IsAntisymmetric as exact}
use native.Mathlib.Decide.{dec_lt}
use Rattle.hypertrie_model.specs.IdSets.{IdSet}
use Rattle.hypertrie_model.specs.Sets.{empty, HasDepth}
use Rattle.hypertrie_model.specs.Slices.{slice, slice_at_mask}
use Rattle.trie_depth.specs.Masks.{FitsDepth, lowest, n_positions}
use Rattle.trie_depth.specs.Operands.{Admits}
use Rattle.trie_depth.specs.OperandLaws.{admits-small}
use Rattle.slice_cases.specs.TakenLaws.{length-taken, slice_at_mask-one, slice_at_mask-lowest_none}
use Rattle.trie_view.specs.Places.{HasIds}

-- no key from one on, and before another, has a slice at the mask
abbrev pub NoneWithin : IdSet → ℕ → ℕ → ℕ → Type 0
NoneWithin H m low high = (k : ℕ) → low ≤ k → k < high → Admits H m k → ⊥

module _ (H : IdSet) (d m p : ℕ) (deep : HasDepth d H) (high : d ≤ 3) (fits : FitsDepth m d) (at : p ≡ lowest m) where
  pub not_there : (k : ℕ) → slice nat_cmp H p k ≡ empty nat_cmp → Admits H m k → ⊥
  not_there k none some = some (slice_at_mask-lowest_none total exact H d m k deep high fits (ap (λ i. slice nat_cmp H i k) (sym at) ∙ none))

  pub there_at_one : n_positions m ≡ 1 → (k : ℕ) → slice nat_cmp H p k ≢ empty nat_cmp → Admits H m k
  there_at_one one k some none = some (ap (λ i. slice nat_cmp H i k) at ∙ sym (slice_at_mask-one total exact H d m k deep high fits one) ∙ none)

  -- a key that was tried
  pub none_within_more : (low key : ℕ) → NoneWithin H m low key → slice_at_mask nat_cmp H m key ≡ empty nat_cmp → NoneWithin H m low (key + 1)
  none_within_more low key before none k le lt some =
      elim (dec_lt k key) as (λ _. ⊥) [
        | yes less ↦ before k le less some
        | no more ↦ some (subst (λ q. slice_at_mask nat_cmp H m q ≡ empty nat_cmp) (let is : key ≡ k = omega arith in is) none)
      ]

  -- and keys that have no slice at the lowest position
  pub none_within_on : (low key next : ℕ) → NoneWithin H m low key → ((k : ℕ) → key ≤ k → k < next → slice nat_cmp H p k ≡ empty nat_cmp) → NoneWithin H m low next
  none_within_on low key next before none k le lt some =
      elim (dec_lt k key) as (λ _. ⊥) [
        | yes less ↦ before k le less some
        | no more ↦ not_there k (none k (omega arith) lt) some
      ]

  pub none_from_on : (low key : ℕ) → NoneWithin H m low key → ((k : ℕ) → key ≤ k → slice nat_cmp H p k ≡ empty nat_cmp) → (k : ℕ) → low ≤ k → Admits H m k → ⊥
  none_from_on low key before none k le some =
      elim (dec_lt k key) as (λ _. ⊥) [
        | yes less ↦ before k le less some
        | no more ↦ not_there k (none k (omega arith)) some
      ]

  -- past the last id there is no key
  pub none_past : (low key : ℕ) → HasIds H → NoneWithin H m low key → 2 ^ 32 ≤ key → (k : ℕ) → low ≤ k → Admits H m k → ⊥
  none_past low key ids before last k le some = before k le (let small = admits-small H d m k deep ids fits some in omega arith) some
