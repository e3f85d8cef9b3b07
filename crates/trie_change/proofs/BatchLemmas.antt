-- Entries with one position moved to the front, and sorted.
use Rattle.std.proofs.Common.{◌≡◌, ℕ, suc, ◌+◌, ◌<◌, ◌||◌, Bool, true, false, List, [], ◌∷◌, length, map, get_or, sym, ◌∙◌, ap, subst, refl, IsPermutation, arith}
use Rattle.std.proofs.lemmas.Cmp.{lists_total}
use Rattle.std.proofs.lemmas.Bool.{false_from_ne_true}
use Rattle.std.proofs.lemmas.List.{length-map}
use Rattle.std.proofs.lemmas.List.Elements.{All-from_recursion}
use Rattle.std.proofs.lemmas.List.Sorted.{IsPermutation-map, length_permutation}
use Rattle.std.specs.List.{AllByRecursion, list_any}
use Rattle.std.specs.List.Sorted.{IsStrictlySortedBy}
use Rattle.std.specs.Ordering.{nat_cmp, eq_by_cmp, is_eq, is_lt, ordering_then, ordering_reverse}
use Rattle.std.specs.declared.cmp.Ordering.{Ordering}
use Rattle.std.specs.declared.cmp.Ordering.TheVariants.{Less, Equal, Greater}
use Rattle.std.specs.Cmp.{nat_cmp_total as total}
use Rattle.std.specs.Cmp.Lexicographic.{slice_cmp}
use Rattle.std.specs.FinMap.{nat_cmp-IsAntisymmetric as exact}
use Rattle.std.specs.FinSet.{slice_cmp-IsAntisymmetric}
use Rattle.std.specs.FinSet as set
use Rattle.hypertrie_model.specs.Sets.{has}
use Rattle.hypertrie_model.specs.SetLaws.{or_cases, or_right, tied-itself, tied-is}
use Rattle.hypertrie_model.specs.Slices.{slice}
use Rattle.hypertrie_model.specs.Listings.{set_of, to_front, has-set_of, permuted, rotated}
use Rattle.trie_change.specs.Batches.{set_of_entries, AreInOrder, IsOnce}
use Rattle.trie_change.specs.BatchLaws.{once_head_new, once_tail, once_more}

-- ---- a sorted list of entries that are there once

abbrev tuples_cmp : List ℕ → List ℕ → Ordering
tuples_cmp = slice_cmp nat_cmp

pub then-equal : (r : Ordering) → ordering_then r Equal ≡ r
then-equal Less = refl
then-equal Equal = refl
then-equal Greater = refl

-- no entry is less than the one before it
abbrev pub NeverFalls : {E : Type 0} → (E → List ℕ) → List E → Type 0
NeverFalls tuple es = (k : ℕ) (d : _) → k + 1 < length es → is_lt (tuples_cmp (tuple (get_or es (k + 1) d)) (tuple (get_or es k d))) ≡ false

less_of : (r : Ordering) → is_lt (ordering_reverse r) ≡ false → (r ≡ Equal → ⊥) → r ≡ Less
less_of Less up apart = refl
less_of Equal up apart = absurd (apart refl)
less_of Greater up apart = absurd (let f : ⊥ = cc in f)

module _ {E : Type 0} (tuple : E → List ℕ) where
  falls_tail : (e : E) (es : List E) → NeverFalls tuple (e ∷ es) → NeverFalls tuple es
  falls_tail e es up k d h =
      let next : suc k + 1 ≡ suc (k + 1) = omega arith in
      subst (λ n. is_lt (tuples_cmp (tuple (get_or (e ∷ es) n d)) (tuple (get_or es k d))) ≡ false) next (up (suc k) d (omega arith))

  above_all : (t u : List ℕ) (ts : List (List ℕ)) → tuples_cmp t u ≡ Less → AllByRecursion (λ v. tuples_cmp u v ≡ Less) ts → AllByRecursion (λ v. tuples_cmp t v ≡ Less) ts
  above_all t u [] lt all = tt
  above_all t u (v ∷ ts) lt all = ((lists_total total).trans t u v lt all.0, above_all t u ts lt all.1)

  pub sorted_order : (es : List E) → NeverFalls tuple es → IsOnce tuple es → AreInOrder tuple es
  unfolding IsStrictlySortedBy
  sorted_order [] up once = tt
  sorted_order (e ∷ []) up once = (tt, tt)
  sorted_order (e ∷ u ∷ es) up once =
      let listed : set.len (set_of nat_cmp (map tuple (e ∷ u ∷ es))) ≡ length (map tuple (e ∷ u ∷ es)) = once ∙ sym (length-map (e ∷ u ∷ es) tuple) in
      let new = once_head_new (tuple e) (map tuple (u ∷ es)) listed in
      let rest = sorted_order (u ∷ es) (falls_tail e (u ∷ es) up) (once_tail (tuple e) (map tuple (u ∷ es)) listed ∙ length-map (u ∷ es) tuple) in
      let apart : tuples_cmp (tuple e) (tuple u) ≡ Equal → ⊥ = λ tied.
      let here : has (set_of nat_cmp (map tuple (u ∷ es))) (tuple e) ≡ true = has-set_of total exact (map tuple (u ∷ es)) (tuple e) ∙ ap (λ r. is_eq r || list_any (eq_by_cmp tuples_cmp (tuple e)) (map tuple es)) tied in
      let f : true ≡ false = sym here ∙ new in
      cc in
      let less = less_of (tuples_cmp (tuple e) (tuple u)) (ap is_lt (sym ((lists_total total).antisymm (tuple u) (tuple e))) ∙ up 0 e (omega arith)) apart in
      ((less, above_all (tuple e) (tuple u) (map tuple es) less rest.0), rest)

-- ---- entries turned into others, of which each names its own

module _ {E : Type 0} (from to : E → List ℕ) (names : (e u : E) → to e ≡ to u → from e ≡ from u) where
  abbrev same_tuple : List ℕ → List ℕ → Bool
  same_tuple u t = eq_by_cmp tuples_cmp u t

  named : (e u : E) → same_tuple (to e) (to u) ≡ true → same_tuple (from e) (from u) ≡ true
  named e u is = ap (same_tuple (from e)) (sym (names e u (tied-is (slice_cmp-IsAntisymmetric exact) (to e) (to u) is))) ∙ tied-itself (lists_total total) (from e)

  any_named : (e : E) (es : List E) → list_any (same_tuple (to e)) (map to es) ≡ true → list_any (same_tuple (from e)) (map from es) ≡ true
  any_named e [] is = is
  any_named e (u ∷ es) is =
      or_cases (same_tuple (to e) (to u)) (list_any (same_tuple (to e)) (map to es)) is (list_any (same_tuple (from e)) (map from (u ∷ es)) ≡ true)
      (λ here. ap (λ b. b || list_any (same_tuple (from e)) (map from es)) (named e u here))
      (λ later. or_right (same_tuple (from e) (from u)) (list_any (same_tuple (from e)) (map from es)) (any_named e es later))

  pub once_named : (es : List E) → IsOnce from es → IsOnce to es
  once_named [] once = once
  once_named (e ∷ es) once =
      let listed : set.len (set_of nat_cmp (map from (e ∷ es))) ≡ length (map from (e ∷ es)) = once ∙ sym (length-map (e ∷ es) from) in
      let new = sym (has-set_of total exact (map from es) (from e)) ∙ once_head_new (from e) (map from es) listed in
      let rest = once_named es (once_tail (from e) (map from es) listed ∙ length-map es from) in
      let other : has (set_of nat_cmp (map to es)) (to e) ≡ false = has-set_of total exact (map to es) (to e) ∙ false_from_ne_true _ (λ there. let f : true ≡ false = sym (any_named e es there) ∙ new in cc) in
      once_more (to e) (map to es) other (rest ∙ sym (length-map es to)) ∙ length-map (e ∷ es) to

-- ---- a position moved to the front, and the entries sorted

module _ {E F : Type 0} (from : E → List ℕ) (to : F → List ℕ) (turned : E → F) (i : ℕ) (is : (e : E) → to (turned e) ≡ to_front i (from e)) (long : (e : E) → i < length (from e)) where
  map_turned : (es : List E) → map to (map turned es) ≡ map (to_front i) (map from es)
  map_turned [] = refl
  map_turned (e ∷ es) = λ j. is e j ∷ map_turned es j

  map_whole : (es : List E) → map (λ e. to (turned e)) es ≡ map to (map turned es)
  map_whole [] = refl
  map_whole (e ∷ es) = ap (λ ts. to (turned e) ∷ ts) (map_whole es)

  all_long : (es : List E) → AllByRecursion (λ t. i < length t) (map from es)
  all_long [] = tt
  all_long (e ∷ es) = (long e, all_long es)

  module _ (es : List E) (fs : List F) (moved : IsPermutation (map turned es) fs) where
    same_set : set_of_entries to (map turned es) ≡ set_of_entries to fs
    same_set = permuted total exact (map to (map turned es)) (map to fs) (IsPermutation-map to (map turned es) fs moved)

    pub turned_slice : (k : ℕ) → slice nat_cmp (set_of_entries to fs) 0 k ≡ slice nat_cmp (set_of_entries from es) i k
    turned_slice k =
        ap (λ S. slice nat_cmp S 0 k) (sym same_set)
        ∙ ap (λ ts. slice nat_cmp (set_of nat_cmp ts) 0 k) (map_turned es)
        ∙ rotated total exact (map from es) i k (All-from_recursion (λ t. i < length t) (map from es) (all_long es))

    turned_once : ((e u : E) → to (turned e) ≡ to (turned u) → from e ≡ from u) → IsOnce from es → IsOnce to fs
    turned_once names once =
        ap set.len (sym same_set)
        ∙ ap (λ ts. set.len (set_of nat_cmp ts)) (sym (map_whole es))
        ∙ once_named from (λ e. to (turned e)) names es once
        ∙ sym (length-map es turned)
        ∙ sym (length_permutation (map turned es) fs moved)

    pub turned_order : ((e u : E) → to (turned e) ≡ to (turned u) → from e ≡ from u) → IsOnce from es → NeverFalls to fs → AreInOrder to fs
    turned_order names once up = sorted_order to fs up (turned_once names once)
