-- The slices of a set of one tuple, and a set whose members are the keys of a map.
use Rattle.std.specs.Prelude.{◌≡◌, ℕ, zero, suc, ◌+◌, ◌-◌, ◌<◌, ◌≤◌, ◌&&◌, not, true, false, cond, List, [], ◌∷◌, length, is_some}
use Rattle.std.proofs.Common.{sym, ◌∙◌, ap, subst, arith}
use Rattle.std.proofs.lemmas.Bool.{false_from_ne_true}
use Rattle.std.proofs.lemmas.Cmp.{lists_total}
use Rattle.std.proofs.lemmas.List.Edits.{length-remove}
use Rattle.std.specs.List.{insert, remove}
use Rattle.std.specs.declared.cmp.Ordering.{Ordering}
use Rattle.std.specs.Cmp.{IsTotalOrder}
use Rattle.std.specs.FinMap as finite
use Rattle.std.specs.FinMap.{FinMap}
use Rattle.std.specs.FinSet as set
use Rattle.std.specs.FinSet.{FinSet, IsAntisymmetric, slice_cmp-IsAntisymmetric}
use Rattle.hypertrie_model.specs.Sets.{has, empty, single}
use Rattle.hypertrie_model.specs.SetLaws.{same_sets, same_test, has-single, tied-itself, tied-is}
use Rattle.hypertrie_model.specs.Slices.{is_at, slice}
use Rattle.hypertrie_model.specs.SliceLaws.{has-slice, has-slice_short, by_length, remove-insert_at, insert-remove_at, has-keys, slice-no_key}
use Rattle.hypertrie_model.specs.MapLaws.{by_key, map_ind, get-insert_here, get-insert_other}
use Rattle.hypertrie_model.specs.Members.{no_members}

module _ {A : Type 0} {R : A → A → Ordering} (o : IsTotalOrder R) (exact : IsAntisymmetric R) where
  -- a position where a key stands is one of the tuple's
  pub at_within : (t : List A) (i : ℕ) (k : A) → is_at R i k t ≡ true → i < length t
  at_within [] i k e = absurd (let n : ⊥ = cc in n)
  at_within (x ∷ t) zero k e = omega arith
  at_within (x ∷ t) (suc i) k e = let rest = at_within t i k e in omega arith

  -- one key stands at a position
  pub at_one : (t : List A) (i : ℕ) (q k : A) → is_at R i q t ≡ true → is_at R i k t ≡ true → q ≡ k
  at_one [] i q k e f = absurd (let n : ⊥ = cc in n)
  at_one (x ∷ t) zero q k e f = tied-is exact q x e ∙ sym (tied-is exact k x f)
  at_one (x ∷ t) (suc i) q k e f = at_one t i q k e f

  pub only_member : (t q : List A) → has (single R t) q ≡ true → q ≡ t
  only_member t q e = tied-is (slice_cmp-IsAntisymmetric exact) q t (sym (has-single o exact t q) ∙ e)

  pub own_member : (t : List A) → has (single R t) t ≡ true
  own_member t = has-single o exact t t ∙ tied-itself (lists_total o) t

  -- the slice by the key that stands there is the rest of the tuple
  pub slice-single : (t : List A) (i : ℕ) (k : A) → is_at R i k t ≡ true → slice R (single R t) i k ≡ single R (remove t i)
  slice-single t i k stands = same_sets o exact _ _ (λ u. by_length o exact _ i u
      (λ le. has-slice o exact (single R t) i k u le ∙ same_test _ _
      (λ e.
      let is : u ≡ remove t i = sym (remove-insert_at u i k le) ∙ ap (λ q. remove q i) (only_member t (insert u i k) e) in
      subst (λ q. has (single R (remove t i)) q ≡ true) (sym is) (own_member (remove t i)))
      (λ e.
      let is : insert u i k ≡ t = ap (λ q. insert q i k) (only_member (remove t i) u e) ∙ insert-remove_at o exact t i k stands in
      subst (λ q. has (single R t) q ≡ true) (sym is) (own_member t)))
      (λ gt. has-slice_short o exact (single R t) i k u gt ∙ sym (false_from_ne_true _ (λ e.
      let same = ap length (only_member (remove t i) u e) in
      let within = at_within t i k stands in
      let n = length-remove t i within in
      omega arith))))

  -- and by any other key there is none
  pub slice-single_other : (t : List A) (i : ℕ) (k : A) → is_at R i k t ≡ false → slice R (single R t) i k ≡ empty R
  slice-single_other t i k other = slice-no_key o exact (single R t) i k (false_from_ne_true _ (λ e.
      let key = has-keys o exact (single R t) i k e in
      let f : false ≡ true = sym other ∙ ap (is_at R i k) (sym (only_member t key.tuple key.there)) ∙ key.stands in
      cc))

  -- a set has as many members as a map whose keys they are
  pub len-keys_of : {X : Type 0} (m : FinMap R X) (s : FinSet R) → ((k : A) → set.contains s k ≡ is_some (finite.get m k)) → set.len s ≡ finite.len m
  len-keys_of {X = X} = map_ind o exact (λ m. (s : FinSet R) → ((k : A) → set.contains s k ≡ is_some (finite.get m k)) → set.len s ≡ finite.len m)
      (λ s same.
      let none : s ≡ set.empty = no_members o exact s (λ q e.
      let f : false ≡ true = sym (same q ∙ ap is_some (finite.get-empty R q)) ∙ e in
      cc) in
      ap set.len none ∙ set.len-empty R ∙ sym (finite.len-empty R X))
      (λ m k v new ind s same.
      let here : set.contains s k ≡ true = same k ∙ ap is_some (get-insert_here o exact m k v) in
      let fewer = ind (set.remove s k) (λ q. set.contains-remove o s k q
      ∙ by_key o exact (λ b. (not b && set.contains s q) ≡ is_some (finite.get m q)) q k
      (λ is. sym (ap (λ z. is_some (finite.get m z)) is ∙ ap is_some new))
      (λ ne. same q ∙ ap is_some (get-insert_other o exact m k v q ne))) in
      let size = set.len-remove o s k ∙ ap (λ b. cond b (set.len s - 1) (set.len s)) here in
      let some : 1 ≤ set.len s = by_size (set.len s) (λ zero_is.
      let f : false ≡ true = sym (ap (λ z. set.contains z k) (set.empty_of_len s zero_is) ∙ set.contains-empty R k) ∙ here in
      cc) in
      let more = finite.len-insert o m k v ∙ ap (λ r. cond (is_some r) (finite.len m) (finite.len m + 1)) new in
      omega arith) where
        by_size : (n : ℕ) → (n ≡ 0 → ⊥) → 1 ≤ n
        by_size zero h = absurd (h (λ i. 0))
        by_size (suc n) h = omega arith
