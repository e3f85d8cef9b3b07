-- Finite sets by members put in one after another, and the sizes of disjoint unions.
use Rattle.std.specs.Prelude.{◌≡◌, ℕ, zero, suc, ◌+◌, ◌-◌, ◌&&◌, ◌||◌, Bool, true, false, cond, not, [], ◌∷◌, refl}
use Rattle.std.proofs.Common.{sym, ◌∙◌, ap, subst, arith}
use Rattle.std.specs.List.{list_any}
use Rattle.std.specs.Ordering.{eq_by_cmp}
use Rattle.std.specs.declared.cmp.Ordering.{Ordering}
use Rattle.std.specs.Cmp.{IsTotalOrder}
use Rattle.std.specs.FinSet as set
use Rattle.std.specs.FinSet.{FinSet, IsAntisymmetric}
use Rattle.hypertrie_model.specs.SetLaws.{tied-itself}
use Rattle.hypertrie_model.specs.MapLaws.{by_key}

module _ {K : Type 0} {R : K → K → Ordering} (o : IsTotalOrder R) (exact : IsAntisymmetric R) where
  -- a member taken out and put back
  pub set_insert-remove : (s : FinSet R) (k : K) → set.contains s k ≡ true → set.insert (set.remove s k) k ≡ s
  set_insert-remove s k there = set.same_set o exact _ _ (λ q.
      set.contains-insert o (set.remove s k) k q ∙ ap (λ b. eq_by_cmp R q k || b) (set.contains-remove o s k q)
      ∙ by_key o exact (λ b. (b || (not b && set.contains s q)) ≡ set.contains s q) q k (λ is. sym there ∙ ap (set.contains s) (sym is)) (λ _. refl))

  contains-remove_here : (s : FinSet R) (k : K) → set.contains (set.remove s k) k ≡ false
  contains-remove_here s k = set.contains-remove o s k k ∙ ap (λ b. not b && set.contains s k) (tied-itself o k)

  with_member : (P : FinSet R → Type 0) → P set.empty → ((s : FinSet R) (k : K) → set.contains s k ≡ false → P s → P (set.insert s k)) → (n : ℕ) (s : FinSet R) → set.len s ≡ n → P s
  with_member P none more zero s e = subst P (sym (set.empty_of_len s e)) none
  with_member P none more (suc n) s e =
      elim (set.items s) as (λ ks. set.items s ≡ ks → P s) [
        | [] ↦ λ is.
            let empty : s ≡ set.empty = set.same_set o exact _ _ (λ q. set.contains-items s q ∙ ap (list_any (eq_by_cmp R q)) is ∙ sym (set.contains-empty R q)) in
            let len = ap set.len empty ∙ set.len-empty R in
            absurd (omega arith)
        | k ∷ ks ↦ λ is.
            let here : set.contains s k ≡ true = set.contains-items s k ∙ ap (list_any (eq_by_cmp R k)) is ∙ ap (λ b. b || list_any (eq_by_cmp R k) ks) (tied-itself o k) in
            let fewer : set.len (set.remove s k) ≡ n = set.len-remove o s k ∙ ap (λ b. cond b (set.len s - 1) (set.len s)) here ∙ omega arith in
            subst P (set_insert-remove s k here) (more (set.remove s k) k (contains-remove_here s k) (with_member P none more n (set.remove s k) fewer))
      ] refl

  pub set_ind : (P : FinSet R → Type 0) → P set.empty → ((s : FinSet R) (k : K) → set.contains s k ≡ false → P s → P (set.insert s k)) → (s : FinSet R) → P s
  set_ind P none more s = with_member P none more (set.len s) s refl

  pub union_empty : (s : FinSet R) → set.union s set.empty ≡ s
  union_empty s = set.same_set o exact _ _ (λ q. set.contains-union o s set.empty q ∙ ap (λ b. set.contains s q || b) (set.contains-empty R q) ∙ or-false (set.contains s q)) where
    or-false : (b : Bool) → (b || false) ≡ b
    or-false true = refl
    or-false false = refl

  pub union_insert : (s t : FinSet R) (k : K) → set.union s (set.insert t k) ≡ set.insert (set.union s t) k
  union_insert s t k = set.same_set o exact _ _ (λ q.
      set.contains-union o s (set.insert t k) q ∙ ap (λ b. set.contains s q || b) (set.contains-insert o t k q)
      ∙ swap (set.contains s q) (eq_by_cmp R q k) (set.contains t q)
      ∙ sym (set.contains-insert o (set.union s t) k q ∙ ap (λ b. eq_by_cmp R q k || b) (set.contains-union o s t q))) where
        swap : (a b c : Bool) → (a || (b || c)) ≡ (b || (a || c))
        swap true true c = refl
        swap true false c = refl
        swap false b c = refl

  -- no member in common
  abbrev pub Disjoint : FinSet R → FinSet R → Type 0
  Disjoint s t = (q : K) → set.contains t q ≡ true → set.contains s q ≡ false

  pub len-union_disjoint : (s t : FinSet R) → Disjoint s t → set.len (set.union s t) ≡ set.len s + set.len t
  len-union_disjoint s = set_ind (λ t. Disjoint s t → set.len (set.union s t) ≡ set.len s + set.len t)
      (λ _. let e = ap set.len (union_empty s) in let n = set.len-empty R in omega arith)
      (λ t k new ind apart.
      let in_s : set.contains s k ≡ false = apart k (set.contains-insert o t k k ∙ ap (λ b. b || set.contains t k) (tied-itself o k)) in
      let rest = ind (λ q e. apart q (set.contains-insert o t k q ∙ or_right (eq_by_cmp R q k) (set.contains t q) e)) in
      let in_both : set.contains (set.union s t) k ≡ false = set.contains-union o s t k ∙ (λ j. in_s j || new j) in
      let left = ap set.len (union_insert s t k) ∙ set.len-insert o (set.union s t) k ∙ ap (λ b. cond b (set.len (set.union s t)) (set.len (set.union s t) + 1)) in_both in
      let right = set.len-insert o t k ∙ ap (λ b. cond b (set.len t) (set.len t + 1)) new in
      omega arith) where
        or_right : (a b : Bool) → b ≡ true → (a || b) ≡ true
        or_right true b e = refl
        or_right false b e = e
