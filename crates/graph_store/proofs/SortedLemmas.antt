-- The set of what sorted keys stand for.
use Rattle.std.proofs.Common.{◌≡◌, ◌∙◌, ◌+◌, Bool, true, false, cond, ◌||◌, List, [], ◌∷◌, length, map, refl, sym, ap, arith}
use Rattle.std.specs.declared.cmp.Ordering.{Ordering}
use Rattle.std.specs.declared.cmp.Ordering.TheVariants.{Less, Equal, Greater}
use Rattle.std.specs.Ordering.{eq_by_cmp, is_eq, match_ordering, ordering_then}
use Rattle.std.specs.Cmp.{IsTotalOrder}
use Rattle.std.specs.List.{list_any, AllByRecursion}
use Rattle.std.specs.List.Sorted.{IsStrictlySortedBy}
use Rattle.std.specs.BTreeSet.{insert_key}
use Rattle.std.specs.FinSet as set
use Rattle.std.specs.FinSet.{FinSet, IsAntisymmetric}

pub map_itself : {X : Type 0} (xs : List X) → map (λ x. x) xs ≡ xs
map_itself [] = refl
map_itself (x ∷ xs) = ap (λ l. x ∷ l) (map_itself xs)

module _ {E K : Type 0} (name : E → K) {R : K → K → Ordering} (o : IsTotalOrder R) (exact : IsAntisymmetric R) (order : E → E → Ordering) (ordered : (a b : E) → order a b ≡ R (name a) (name b)) where
  abbrev pub set_of_keys : List E → FinSet R
  set_of_keys ks = set.from_list (map name ks)

  -- the set has what the keys have
  pub has_key : (q : E) (ks : List E) → set.contains (set_of_keys ks) (name q) ≡ list_any (λ k. is_eq (order q k)) ks
  has_key q ks = set.contains-from_list o (map name ks) (name q) ∙ along ks where
    along : (ks : List E) → list_any (eq_by_cmp R (name q)) (map name ks) ≡ list_any (λ k. is_eq (order q k)) ks
    along [] = refl
    along (k ∷ ks) = λ i. is_eq (sym (ordered q k) i) || along ks i

  or_swap : (a b c : Bool) → (a || (b || c)) ≡ (b || (a || c))
  or_swap true true c = refl
  or_swap true false c = refl
  or_swap false b c = refl

  or_again : (a b : Bool) → (a || b) ≡ (a || (a || b))
  or_again true b = refl
  or_again false b = refl

  any_inserted : (q : K) (k : E) (ks : List E) → list_any (eq_by_cmp R q) (map name (insert_key order ks k)) ≡ (eq_by_cmp R q (name k) || list_any (eq_by_cmp R q) (map name ks))
  any_inserted q k [] = refl
  any_inserted q k (x ∷ xs) =
      elim (order k x) as (λ r. order k x ≡ r → list_any (eq_by_cmp R q) (map name (match_ordering r (k ∷ x ∷ xs) (x ∷ xs) (x ∷ insert_key order xs k)))
      ≡ (eq_by_cmp R q (name k) || list_any (eq_by_cmp R q) (map name (x ∷ xs)))) [
        | Less ↦ λ e. refl
        | Equal ↦ λ e. or_again (eq_by_cmp R q (name x)) (list_any (eq_by_cmp R q) (map name xs)) ∙ ap (λ t. eq_by_cmp R q t || list_any (eq_by_cmp R q) (map name (x ∷ xs))) (sym (exact (name k) (name x) (sym (ordered k x) ∙ e)))
        | Greater ↦ λ e. ap (λ b. eq_by_cmp R q (name x) || b) (any_inserted q k xs) ∙ or_swap (eq_by_cmp R q (name x)) (eq_by_cmp R q (name k)) _
      ] refl

  pub set_inserted : (k : E) (ks : List E) → set_of_keys (insert_key order ks k) ≡ set.insert (set_of_keys ks) (name k)
  set_inserted k ks = set.same_set o exact _ _ (λ q.
      set.contains-from_list o _ q ∙ any_inserted q k ks
      ∙ sym (set.contains-insert o (set_of_keys ks) (name k) q ∙ ap (λ b. eq_by_cmp R q (name k) || b) (set.contains-from_list o (map name ks) q)))

  none_equal : (k : E) (ks : List E) → AllByRecursion (λ y. order k y ≡ Less) ks → list_any (λ y. is_eq (order k y)) ks ≡ false
  none_equal k [] all = refl
  none_equal k (x ∷ xs) all = ap (λ r. is_eq r || list_any (λ y. is_eq (order k y)) xs) all.0 ∙ none_equal k xs all.1

  pub head_new : (k : E) (ks : List E) → IsStrictlySortedBy order (k ∷ ks) → set.contains (set_of_keys ks) (name k) ≡ false
  unfolding IsStrictlySortedBy
  head_new k ks sorted = has_key k ks ∙ none_equal k ks sorted.0

  pub set_len : (ks : List E) → IsStrictlySortedBy order ks → set.len (set_of_keys ks) ≡ length ks
  unfolding IsStrictlySortedBy
  set_len [] sorted = set.len-empty R
  set_len (k ∷ ks) sorted =
      let more : set.len (set_of_keys (k ∷ ks)) ≡ set.len (set_of_keys ks) + 1 = set.len-insert o (set_of_keys ks) (name k) ∙ ap (λ b. cond b (set.len (set_of_keys ks)) (set.len (set_of_keys ks) + 1)) (head_new k ks sorted) in
      omega (arith, more, set_len ks sorted.1)

-- an order that ends with a part that decides nothing
pub then-equal : (r : Ordering) → ordering_then r Equal ≡ r
then-equal Less = refl
then-equal Equal = refl
then-equal Greater = refl
