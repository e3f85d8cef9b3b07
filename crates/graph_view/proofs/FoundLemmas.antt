-- A triple that is found by fixing its Ids one after another, and an Id that is found at one of three positions.
use Rattle.std.proofs.Common.{◌≡◌, ◌∙◌, ℕ, suc, ◌&&◌, ◌||◌, Bool, true, false, List, [], ◌∷◌, length, refl, sym, ap, arith}
use Rattle.std.proofs.lemmas.Bool.{false_from_ne_true}
use Rattle.std.proofs.lemmas.List.Elements.{All-from_recursion}
use Rattle.std.specs.List.{AllByRecursion, list_any}
use Rattle.std.specs.Ordering.{eq_by_cmp, nat_cmp}
use Rattle.std.specs.Cmp.{nat_cmp_total as total}
use Rattle.std.specs.Cmp.Lexicographic.{slice_cmp}
use Rattle.std.specs.FinMap.{nat_cmp-IsAntisymmetric as exact}
use Rattle.std.specs.FinSet as set
use Rattle.hypertrie_model.specs.IdSets.{IdSet}
use Rattle.hypertrie_model.specs.Sets.{has, empty, HasDepth}
use Rattle.hypertrie_model.specs.SetLaws.{same_sets, or_cases, or_right, tied-itself}
use Rattle.hypertrie_model.specs.Slices.{is_at_mask, slice, slice_at_mask}
use Rattle.hypertrie_model.specs.SliceLaws.{has-slice, has-slice_at_mask, slice_at_mask-has}
use Rattle.hypertrie_model.specs.MaskLaws.{slice_at_no_mask, slice_at_mask-first}
use Rattle.trie_depth.specs.Masks.{FitsDepth}
use Rattle.trie_depth.specs.OperandLaws.{at_mask-within}
use Rattle.graph_image.specs.Images.{is_among, IsUsed}
use Rattle.graph_image.specs.ImageLaws.{tuples_total}

-- ---- a triple

-- what is behind a first key
pub has_behind : (d : ℕ) (H : IdSet) → HasDepth (suc d) H → (k : ℕ) (u : List ℕ) → has (slice_at_mask nat_cmp H 1 k) u ≡ has H (k ∷ u)
has_behind d H deep k u =
    ap (λ S. has S u) (slice_at_mask-first total exact H d deep 1 k refl ∙ slice_at_no_mask total exact (slice nat_cmp H 0 k) k)
    ∙ has-slice total exact H 0 k u (omega arith)

none_there : (S : IdSet) (u : List ℕ) → S ≡ empty nat_cmp → has S u ≡ false
none_there S u is = ap (λ T. has T u) is ∙ set.contains-empty (slice_cmp nat_cmp) u

pub not_behind : (d : ℕ) (H : IdSet) → HasDepth (suc d) H → (k : ℕ) (u : List ℕ) → slice_at_mask nat_cmp H 1 k ≡ empty nat_cmp → has H (k ∷ u) ≡ false
not_behind d H deep k u none = sym (has_behind d H deep k u) ∙ none_there (slice_at_mask nat_cmp H 1 k) u none

nil_of : (u : List ℕ) → length u ≡ 0 → u ≡ []
nil_of [] e = refl
nil_of (x ∷ u) e = absurd (omega arith)

-- the last key is there exactly where the slice by it isn't empty
pub last_behind : (H : IdSet) → HasDepth 1 H → (k : ℕ) (b : Bool) → ((b ≡ false → slice_at_mask nat_cmp H 1 k ≡ empty nat_cmp) × (slice_at_mask nat_cmp H 1 k ≡ empty nat_cmp → b ≡ false)) → b ≡ has H (k ∷ [])
last_behind H deep k true iff = by (has H (k ∷ [])) refl where
  by : (c : Bool) → has H (k ∷ []) ≡ c → true ≡ has H (k ∷ [])
  by true e = sym e
  by false e =
      let none : slice_at_mask nat_cmp H 1 k ≡ empty nat_cmp = same_sets total exact _ _ (λ u. false_from_ne_true _ (λ there.
      let whole : has H (k ∷ u) ≡ true = sym (has_behind 0 H deep k u) ∙ there in
      let n = deep (k ∷ u) whole in
      let nil = nil_of u (omega arith) in
      let f : true ≡ false = sym whole ∙ ap (λ v. has H (k ∷ v)) nil ∙ e in
      cc) ∙ sym (set.contains-empty (slice_cmp nat_cmp) u)) in
      absurd (let f : true ≡ false = iff.1 none in cc)
last_behind H deep k false iff = sym (not_behind 0 H deep k [] (iff.0 refl))

-- ---- an Id

pub some_member : (S : IdSet) → (S ≡ empty nat_cmp → ⊥) → (u : List ℕ) × (has S u ≡ true)
some_member S filled =
    elim (set.items S) as (λ ts. set.items S ≡ ts → (u : List ℕ) × (has S u ≡ true)) [
      | [] ↦ λ is. absurd (filled (same_sets total exact S (empty nat_cmp) (λ u. set.contains-items S u ∙ ap (list_any (eq_by_cmp (slice_cmp nat_cmp) u)) is ∙ sym (set.contains-empty (slice_cmp nat_cmp) u))))
      | t ∷ ts ↦ λ is. (t, set.contains-items S t ∙ ap (list_any (eq_by_cmp (slice_cmp nat_cmp) t)) is ∙ ap (λ b. b || list_any (eq_by_cmp (slice_cmp nat_cmp) t) ts) (tied-itself tuples_total t))
    ] refl

all_among : (t u : List ℕ) → ((k : ℕ) → is_among u k ≡ true → is_among t k ≡ true) → AllByRecursion (λ k. is_among t k ≡ true) u
all_among t [] within = tt
all_among t (k ∷ u) within = (within k (ap (λ b. b || is_among u k) (tied-itself total k)), all_among t u (λ q e. within q (or_right (eq_by_cmp nat_cmp q k) (is_among u q) e)))

module _ (H : IdSet) (deep : HasDepth 3 H) (k : ℕ) where
  pub used_at : (m : ℕ) → FitsDepth m 3 → (slice_at_mask nat_cmp H m k ≡ empty nat_cmp → ⊥) → IsUsed H k
  used_at m fits filled =
      let u = some_member (slice_at_mask nat_cmp H m k) filled in
      let l = has-slice_at_mask total exact H m k u.0 u.1 in
      record {
        tuple = l.tuple;
        there = l.there;
        among = at_mask-within (λ q. is_among l.tuple q ≡ true) 3 m k l.tuple (deep l.tuple l.there) fits (All-from_recursion (λ q. is_among l.tuple q ≡ true) l.tuple (all_among l.tuple l.tuple (λ q e. e))) l.fixed;
      }

  fixed_there : (m : ℕ) (t : List ℕ) → has H t ≡ true → is_at_mask nat_cmp m k t ≡ true → slice_at_mask nat_cmp H m k ≡ empty nat_cmp → ⊥
  fixed_there m t there fixed none =
      let f : true ≡ false = sym (slice_at_mask-has total exact H m k t there fixed) ∙ none_there (slice_at_mask nat_cmp H m k) _ none in
      cc

  -- it isn't used where no position has it
  pub used_nowhere : slice_at_mask nat_cmp H 1 k ≡ empty nat_cmp → slice_at_mask nat_cmp H 2 k ≡ empty nat_cmp → slice_at_mask nat_cmp H 4 k ≡ empty nat_cmp → IsUsed H k → ⊥
  used_nowhere first second third used = by used.tuple used.there (deep used.tuple used.there) used.among where
    by : (t : List ℕ) → has H t ≡ true → length t ≡ 3 → is_among t k ≡ true → ⊥
    by [] there n e = omega arith
    by (a ∷ []) there n e = omega arith
    by (a ∷ b ∷ []) there n e = omega arith
    by (a ∷ b ∷ c ∷ []) there n e = or_cases (eq_by_cmp nat_cmp k a) (is_among (b ∷ c ∷ []) k) e ⊥
        (λ at. fixed_there 1 (a ∷ b ∷ c ∷ []) there (ap (λ x. x && true) at) first)
        (λ r. or_cases (eq_by_cmp nat_cmp k b) (is_among (c ∷ []) k) r ⊥
        (λ at. fixed_there 2 (a ∷ b ∷ c ∷ []) there (ap (λ x. x && true) at) second)
        (λ q. or_cases (eq_by_cmp nat_cmp k c) (is_among [] k) q ⊥
        (λ at. fixed_there 4 (a ∷ b ∷ c ∷ []) there (ap (λ x. x && true) at) third)
        (λ f. let g : false ≡ true = f in cc)))
    by (a ∷ b ∷ c ∷ d ∷ t) there n e = omega arith
