-- What lies apart from a star, and what lies across: it has the star's subject and predicate, and the object of the triple apart.
use Rattle.std.specs.Prelude.{◌≡◌, ◌≢◌, ℕ, zero, suc, ◌≤◌, ◌||◌, true, false, List, [], ◌∷◌, refl}
use Rattle.std.proofs.Common.{sym, ◌∙◌, ap, subst, arith}
use Rattle.std.proofs.lemmas.Bool.{false_from_ne_true}
use Rattle.std.proofs.lemmas.Cmp.{lists_total}
use Rattle.std.specs.List.{insert}
use Rattle.std.specs.Ordering.{nat_cmp}
use Rattle.std.specs.Cmp.{nat_cmp_total as total}
use Rattle.std.specs.FinMap.{nat_cmp-IsAntisymmetric as exact}
use Rattle.std.specs.FinSet as set
use Rattle.hypertrie_model.specs.IdSets.{IdSet}
use Rattle.hypertrie_model.specs.SetLaws.{tied-is, tied-itself, has-single, or_cases, or_right}
use Rattle.hypertrie_model.specs.Sets.{has, single}
use Rattle.hypertrie_model.specs.SliceLaws.{has-keys}
use Rattle.hypertrie_model.specs.Slices.{is_at, keys}
use Rattle.worked_tries.specs.Alone.{IsAlone, IsApart}
use Rattle.worked_tries.specs.Star.{IsRay, IsStar}
use Rattle.worked_tries.proofs.Alone.{single_is}
use Rattle.worked_tries.proofs.Marks.{IsMark, more, mark_alone}

module _ (s p t q u : ℕ) (S : IdSet) (star : IsStar s p t q u S) where
  abbrev far : List ℕ
  far = t ∷ q ∷ u ∷ []

  s_p : s ≢ p
  s_p = star.different.0.0

  s_t : s ≢ t
  s_t = star.different.0.1.0

  s_q : s ≢ q
  s_q = star.different.0.1.1.0

  p_t : p ≢ t
  p_t = star.different.1.0.0

  p_q : p ≢ q
  p_q = star.different.1.0.1.0

  t_q : t ≢ q
  t_q = star.different.1.1.0.0

  q_u : q ≢ u
  q_u = star.different.1.1.1.0.0

  -- the triple apart is new
  pub far_new : has S far ≡ false
  far_new = false_from_ne_true (has S far) (λ there. let r = star.rays far there in let same : s ≡ t = let e = r.is in cc in s_t same)

  -- and so are its ids at their positions
  pub far_apart : IsApart S far
  far_apart i k at = false_from_ne_true (set.contains (keys nat_cmp S i) k) (λ there.
      let key = has-keys total exact S i k there in
      let r = star.rays key.tuple key.there in
      apart i k at r.object (subst (λ y. is_at nat_cmp i k y ≡ true) r.is key.stands) r.other.1.1.1.1.0) where
        apart : (i k : ℕ) → is_at nat_cmp i k far ≡ true → (o : ℕ) → is_at nat_cmp i k (s ∷ p ∷ o ∷ []) ≡ true → o ≢ u → ⊥
        apart zero k at o stands other = s_t (sym (tied-is exact k s stands) ∙ tied-is exact k t at)
        apart (suc zero) k at o stands other = p_q (sym (tied-is exact k p stands) ∙ tied-is exact k q at)
        apart (suc (suc zero)) k at o stands other = other (sym (tied-is exact k o stands) ∙ tied-is exact k u at)
        apart (suc (suc (suc i))) k at o stands other = let f : false ≡ true = at in cc

  abbrev G : IdSet
  G = set.union S (single nat_cmp far)

  abbrev across : List ℕ
  across = s ∷ p ∷ u ∷ []

  in_star : (y : List ℕ) → has S y ≡ true → has G y ≡ true
  in_star y there = set.contains-union (lists_total total) S (single nat_cmp far) y ∙ ap (λ b. b || has (single nat_cmp far) y) there

  far_there : has G far ≡ true
  far_there =
      set.contains-union (lists_total total) S (single nat_cmp far) far
      ∙ or_right (has S far) (has (single nat_cmp far) far) (has-single total exact far far ∙ tied-itself (lists_total total) far)

  of_star : (y : List ℕ) → has G y ≡ true → (C : Type 0) → (has S y ≡ true → C) → (y ≡ far → C) → C
  of_star y e C ray other = or_cases (has S y) (has (single nat_cmp far) y) (sym (set.contains-union (lists_total total) S (single nat_cmp far) y) ∙ e) C ray (λ h. other (single_is far y h))

  -- with the triple across each triple is (s, p, o) or the one apart
  known : (y : List ℕ) → has (more G across) y ≡ true → (C : Type 0) → ((o : ℕ) → y ≡ s ∷ p ∷ o ∷ [] → C) → (y ≡ far → C) → C
  known y e C ray other = or_cases (has G y) (has (single nat_cmp across) y) (sym (set.contains-union (lists_total total) G (single nat_cmp across) y) ∙ e) C
      (λ h. of_star y h C (λ there. let r = star.rays y there in ray r.object r.is) other)
      (λ h. ray u (single_is across y h))

  pub across_new : has G across ≡ false
  across_new = false_from_ne_true (has G across) (λ there. of_star across there ⊥
      (λ h. let r = star.rays across h in r.other.1.1.1.1.0 (let e = r.is in let same : r.object ≡ u = cc in same))
      (λ e. s_t (let same : s ≡ t = cc in same)))

  -- a triple of the star
  module _ (o : ℕ) (ray : has S (s ∷ p ∷ o ∷ []) ≡ true) (o_p : o ≢ p) (o_u : o ≢ u) where
    by_subject : IsMark G across 0 s
    by_subject = record { low = p; high = o; place = omega arith; here = in_star (s ∷ p ∷ o ∷ []) ray; only = only } where
      only : (j l : ℕ) → j ≤ 2 → has (more G across) (insert (p ∷ o ∷ []) j l) ≡ true → (j ≡ 0) × (l ≡ s)
      only zero l le e = known (l ∷ p ∷ o ∷ []) e _ (λ w is. (refl, cc)) (λ is. absurd (p_q cc))
      only (suc zero) l le e = known (p ∷ l ∷ o ∷ []) e _ (λ w is. absurd (s_p cc)) (λ is. absurd (p_t cc))
      only (suc (suc zero)) l le e = known (p ∷ o ∷ l ∷ []) e _ (λ w is. absurd (s_p cc)) (λ is. absurd (p_t cc))
      only (suc (suc (suc j))) l le e = absurd (omega arith)

    by_predicate : IsMark G across 1 p
    by_predicate = record { low = s; high = o; place = omega arith; here = in_star (s ∷ p ∷ o ∷ []) ray; only = only } where
      only : (j l : ℕ) → j ≤ 2 → has (more G across) (insert (s ∷ o ∷ []) j l) ≡ true → (j ≡ 1) × (l ≡ p)
      only zero l le e = known (l ∷ s ∷ o ∷ []) e _ (λ w is. absurd (s_p cc)) (λ is. absurd (s_q cc))
      only (suc zero) l le e = known (s ∷ l ∷ o ∷ []) e _ (λ w is. (refl, cc)) (λ is. absurd (s_t cc))
      only (suc (suc zero)) l le e = known (s ∷ o ∷ l ∷ []) e _ (λ w is. absurd (o_p cc)) (λ is. absurd (s_t cc))
      only (suc (suc (suc j))) l le e = absurd (omega arith)

  by_object : IsMark G across 2 u
  by_object = record { low = t; high = q; place = omega arith; here = far_there; only = only } where
    only : (j l : ℕ) → j ≤ 2 → has (more G across) (insert (t ∷ q ∷ []) j l) ≡ true → (j ≡ 2) × (l ≡ u)
    only zero l le e = known (l ∷ t ∷ q ∷ []) e _ (λ w is. absurd (p_t cc)) (λ is. absurd (t_q cc))
    only (suc zero) l le e = known (t ∷ l ∷ q ∷ []) e _ (λ w is. absurd (s_t cc)) (λ is. absurd (q_u cc))
    only (suc (suc zero)) l le e = known (t ∷ q ∷ l ∷ []) e _ (λ w is. absurd (s_t cc)) (λ is. (refl, cc))
    only (suc (suc (suc j))) l le e = absurd (omega arith)

  some : IsRay s p (s ∷ p ∷ t ∷ q ∷ u ∷ []) star.some.0
  some = star.rays star.some.0 star.some.1

  some_there : has S (s ∷ p ∷ some.object ∷ []) ≡ true
  some_there = subst (λ y. has S y ≡ true) some.is star.some.1

  marks : (i k : ℕ) → is_at nat_cmp i k across ≡ true → IsMark G across i k
  marks zero k at = subst (IsMark G across 0) (sym (tied-is exact k s at)) (by_subject some.object some_there some.other.1.0 some.other.1.1.1.1.0)
  marks (suc zero) k at = subst (IsMark G across 1) (sym (tied-is exact k p at)) (by_predicate some.object some_there some.other.1.0 some.other.1.1.1.1.0)
  marks (suc (suc zero)) k at = subst (IsMark G across 2) (sym (tied-is exact k u at)) by_object
  marks (suc (suc (suc i))) k at = absurd (let f : false ≡ true = at in let n : ⊥ = cc in n)

  pub across_alone : IsAlone G across
  across_alone i k at = mark_alone G across i k (marks i k at) refl across_new at
