-- One place more, and the first least of all.
use Rattle.std.specs.Prelude.{◌≡◌, ℕ, ◌+◌, ◌<◌, ◌≤◌, Bool, true, false, cond, nat_le, List, slice_index, slice_index_or, Option, None, Some, IfSome, MatchOption, refl}
use Rattle.std.proofs.Common.{sym, ◌∙◌, subst, arith}
use Rattle.std.proofs.lemmas.Bool.Decides.{nat_tests}
use native.Mathlib.Decide.{dec_lt}
use Rattle.query_plan.specs.Allowed.{IsAllowed, IsFirstLeast, lesser_of}

module _ (counts : List ℕ) (allowed : List Bool) (n : ℕ) where
  -- what holds below n and at n holds below n + 1
  pub to_next : (P : ℕ → Type 0) → ((i : ℕ) → i < n → P i) → P n → (i : ℕ) → i < n + 1 → P i
  to_next P below here i lt = elim (dec_lt i n) as (λ _. P i) [
    | yes low ↦ below i low
    | no high ↦ let is : n ≡ i = omega (arith, lt, high) in subst P is here
  ]

  pub not_allowed : (b : Option ℕ) → IsFirstLeast counts allowed n b → slice_index_or allowed n false ≡ false → IsFirstLeast counts allowed (n + 1) b
  not_allowed b h out = record {
    there = elim b as (λ b. IfSome b (λ r. (r < n) × IsAllowed allowed r) → IfSome b (λ r. (r < n + 1) × IsAllowed allowed r)) [
      | None ↦ λ _. tt
      | Some r ↦ λ t. (omega (arith, t.0), t.1)
    ] h.there;
    none = elim b as (λ b. MatchOption b ((i : ℕ) → i < n → IsAllowed allowed i → ⊥) (λ _. Unit {0}) → MatchOption b ((i : ℕ) → i < n + 1 → IsAllowed allowed i → ⊥) (λ _. Unit {0})) [
      | None ↦ λ none. to_next (λ i. IsAllowed allowed i → ⊥) none no_at
      | Some r ↦ λ _. tt
    ] h.none;
    least = elim b as (λ b. IfSome b (λ r. (i : ℕ) → i < n → IsAllowed allowed i → slice_index counts r ≤ slice_index counts i) → IfSome b (λ r. (i : ℕ) → i < n + 1 → IsAllowed allowed i → slice_index counts r ≤ slice_index counts i)) [
      | None ↦ λ _. tt
      | Some r ↦ λ t. to_next (λ i. IsAllowed allowed i → slice_index counts r ≤ slice_index counts i) t (λ e. absurd (no_at e))
    ] h.least;
    first = h.first;
  } where
    no_at : IsAllowed allowed n → ⊥
    no_at e = let t : true ≡ false = sym e ∙ out in cc

  pub one_more : (b : Option ℕ) → IsFirstLeast counts allowed n b → IsAllowed allowed n → IsFirstLeast counts allowed (n + 1) (Some (lesser_of counts b n))
  one_more None h here = record {
    there = (omega arith, here);
    none = tt;
    least = to_next (λ i. IsAllowed allowed i → slice_index counts n ≤ slice_index counts i) (λ i lt e. absurd (h.none i lt e)) (λ e. omega arith);
    first = λ i lt e. absurd (h.none i lt e);
  }
  one_more (Some r) h here = elim (nat_le (slice_index counts r) (slice_index counts n)) as (λ t. nat_le (slice_index counts r) (slice_index counts n) ≡ t → IsFirstLeast counts allowed (n + 1) (Some (cond t r n))) [
    | true ↦ λ e. record {
      there = (omega (arith, h.there.0), h.there.1);
      none = tt;
      least = to_next (λ i. IsAllowed allowed i → slice_index counts r ≤ slice_index counts i) h.least (λ _. grind (arith, nat_tests));
      first = h.first;
    }
    | false ↦ λ e.
        let less : slice_index counts n < slice_index counts r = grind (arith, nat_tests) in
        record {
          there = (omega arith, here);
          none = tt;
          least = to_next (λ i. IsAllowed allowed i → slice_index counts n ≤ slice_index counts i) (λ i lt a. omega (arith, less, h.least i lt a)) (λ _. omega arith);
          first = λ i lt a. omega (arith, less, h.least i lt a);
        }
  ] refl
