-- How many members of a set pass a test, and sums along a set whose members the keys of a map name.
use Rattle.std.specs.Prelude.{◌≡◌, ℕ, ◌+◌, ◌≤◌, ◌≢◌, ◌&&◌, ◌||◌, not, Bool, true, false, cond, refl, None, Some}
use Rattle.std.proofs.Common.{sym, ◌∙◌, ap, arith}
use Rattle.std.proofs.lemmas.Bool.{false_from_ne_true}
use Rattle.std.specs.Ordering.{eq_by_cmp}
use Rattle.std.specs.declared.cmp.Ordering.{Ordering}
use Rattle.std.specs.Cmp.{IsTotalOrder}
use Rattle.std.specs.FinMap as finite
use Rattle.std.specs.FinMap.{FinMap}
use Rattle.std.specs.FinSet as set
use Rattle.std.specs.FinSet.{FinSet, IsAntisymmetric}
use Rattle.hypertrie_model.specs.SetLaws.{tied-itself, tied-apart, or_right, and_both}
use Rattle.hypertrie_model.specs.SetInduction.{set_ind}
use Rattle.hypertrie_model.specs.MapLaws.{by_key, map_ind, get-insert_here, get-insert_other}
use Rattle.hypertrie_model.specs.Folds.{sum_over, marked}
use Rattle.hypertrie_model.specs.FoldLaws.{apart_from, sum_over-empty, sum_over-insert, sum_over-remove, get-marked, marked-insert, marked-remove, marked-empty}

-- 1 where the test passes
abbrev pub counted_by : Bool → ℕ
counted_by b = cond b 1 0

module _ {K : Type 0} {R : K → K → Ordering} (o : IsTotalOrder R) (exact : IsAntisymmetric R) where
  pub contains-kept : (s : FinSet R) (p : K → Bool) (q : K) → set.contains (set.retain s p) q ≡ (set.contains s q && p q)
  contains-kept s p q = set.contains-retain s p q (λ x e. ap p (sym (exact q x e)))

  pub no_members : (s : FinSet R) → ((q : K) → set.contains s q ≡ true → ⊥) → s ≡ set.empty
  no_members s none = set.same_set o exact s set.empty (λ q. false_from_ne_true (set.contains s q) (λ e. none q e) ∙ sym (set.contains-empty R q))

  -- how many members pass a test
  pub len-retain : (p : K → Bool) (s : FinSet R) → set.len (set.retain s p) ≡ sum_over (marked s) (λ k _. counted_by (p k))
  len-retain p = set_ind o exact (λ s. set.len (set.retain s p) ≡ sum_over (marked s) (λ k _. counted_by (p k)))
      (ap set.len (no_members (set.retain set.empty p) (λ q e.
      let both = and_both (set.contains set.empty q) (p q) (sym (contains-kept set.empty p q) ∙ e) in
      let t : false ≡ true = sym (set.contains-empty R q) ∙ both.0 in
      cc))
      ∙ set.len-empty R ∙ sym (ap (λ m. sum_over m (λ k _. counted_by (p k))) (marked-empty o exact) ∙ sum_over-empty o exact (λ k _. counted_by (p k))))
      (λ s k new ind.
      let fresh : finite.get (marked s) k ≡ None = get-marked o exact s k ∙ ap (λ b. cond b (Some tt) None) new in
      let parts = ap (λ m. sum_over m (λ q _. counted_by (p q))) (marked-insert o exact s k) ∙ sum_over-insert o exact (marked s) (λ q _. counted_by (p q)) k tt fresh in
      elim (p k) as (λ b. p k ≡ b → set.len (set.retain (set.insert s k) p) ≡ sum_over (marked (set.insert s k)) (λ q _. counted_by (p q))) [
        | true ↦ λ pass.
            let same : set.retain (set.insert s k) p ≡ set.insert (set.retain s p) k = set.same_set o exact _ _ (λ q.
            contains-kept (set.insert s k) p q ∙ ap (λ b. b && p q) (set.contains-insert o s k q)
            ∙ by_key o exact (λ b. ((b || set.contains s q) && p q) ≡ (b || (set.contains s q && p q))) q k (λ is. ap p is ∙ pass) (λ _. refl)
            ∙ sym (set.contains-insert o (set.retain s p) k q ∙ ap (λ b. eq_by_cmp R q k || b) (contains-kept s p q))) in
            let out : set.contains (set.retain s p) k ≡ false = contains-kept s p k ∙ ap (λ b. b && p k) new in
            let size = ap set.len same ∙ set.len-insert o (set.retain s p) k ∙ ap (λ b. cond b (set.len (set.retain s p)) (set.len (set.retain s p) + 1)) out in
            let here : counted_by (p k) ≡ 1 = ap counted_by pass in
            omega arith
        | false ↦ λ pass.
            let same : set.retain (set.insert s k) p ≡ set.retain s p = set.same_set o exact _ _ (λ q.
            contains-kept (set.insert s k) p q ∙ ap (λ b. b && p q) (set.contains-insert o s k q)
            ∙ by_key o exact (λ b. ((b || set.contains s q) && p q) ≡ (set.contains s q && p q)) q k
            (λ is. ap p is ∙ pass ∙ sym (ap (λ b. b && p q) (ap (set.contains s) is ∙ new)))
            (λ _. refl)
            ∙ sym (contains-kept s p q)) in
            let size = ap set.len same in
            let here : counted_by (p k) ≡ 0 = ap counted_by pass in
            omega arith
      ] refl)

  -- a set whose members are all one
  pub len-alike : (c : K) (s : FinSet R) → ((q : K) → set.contains s q ≡ true → q ≡ c) → set.len s ≤ 1
  len-alike c = set_ind o exact (λ s. ((q : K) → set.contains s q ≡ true → q ≡ c) → set.len s ≤ 1)
      (λ _. omega (arith, set.len-empty R))
      (λ s k new ind alike.
      let k_is : k ≡ c = alike k (set.contains-insert o s k k ∙ ap (λ b. b || set.contains s k) (tied-itself o k)) in
      let none : s ≡ set.empty = no_members s (λ q e.
      let q_is : q ≡ c = alike q (set.contains-insert o s k q ∙ or_right (eq_by_cmp R q k) (set.contains s q) e) in
      let t : false ≡ true = sym new ∙ ap (set.contains s) (k_is ∙ sym q_is) ∙ e in
      cc) in
      let zero = ap set.len none ∙ set.len-empty R in
      let size = set.len-insert o s k ∙ ap (λ b. cond b (set.len s) (set.len s + 1)) new in
      omega arith)

-- the sum along a map is that along a set where the keys of the map name the members of the set
module _ {K X J : Type 0} {R : K → K → Ordering} {Q : J → J → Ordering} (o : IsTotalOrder R) (exact : IsAntisymmetric R) (p : IsTotalOrder Q) (only : IsAntisymmetric Q) (name : K → J) (f : K → X → ℕ) (h : J → ℕ) where
  pub record AreNames (m : FinMap R X) (s : FinSet Q) : Type 0 where
    pub into : (k : K) (v : X) → finite.get m k ≡ Some v → set.contains s (name k) ≡ true
    pub onto : (j : J) → set.contains s j ≡ true → (k : K) × (v : X) × (finite.get m k ≡ Some v) × (name k ≡ j)
    pub apart : (k l : K) (v w : X) → finite.get m k ≡ Some v → finite.get m l ≡ Some w → name k ≡ name l → k ≡ l
    pub parts : (k : K) (v : X) → finite.get m k ≡ Some v → f k v ≡ h (name k)

  pub sum_over-names : (m : FinMap R X) (s : FinSet Q) → AreNames m s → sum_over m f ≡ sum_over (marked s) (λ j _. h j)
  sum_over-names = map_ind o exact (λ m. (s : FinSet Q) → AreNames m s → sum_over m f ≡ sum_over (marked s) (λ j _. h j))
      (λ s names.
      let none : s ≡ set.empty = no_members p only s (λ j e. let at = names.onto j e in let t : None ≡ Some at.1 = sym (finite.get-empty R at.0) ∙ at.2 in cc) in
      sum_over-empty o exact f ∙ sym (ap (λ z. sum_over (marked z) (λ j _. h j)) none ∙ ap (λ m. sum_over m (λ j _. h j)) (marked-empty p only) ∙ sum_over-empty p only (λ j _. h j)))
      (λ m k v none ind s names.
      let here = get-insert_here o exact m k v in
      let other : (q : K) (w : X) → finite.get m q ≡ Some w → finite.get (finite.insert m k v) q ≡ Some w = λ q w e. get-insert_other o exact m k v q (apart_from o exact m k q w none e) ∙ e in
      let in_s = names.into k v here in
      let rest = ind (set.remove s (name k)) (record {
        into = λ q w e.
            let ne : name q ≢ name k = λ is. apart_from o exact m k q w none e (names.apart q k w v (other q w e) here is) in
            set.contains-remove p s (name k) (name q) ∙ (λ i. not (tied-apart only (name q) (name k) ne i) && names.into q w (other q w e) i);
        onto = λ j e.
            let both = and_both (not (eq_by_cmp Q j (name k))) (set.contains s j) (sym (set.contains-remove p s (name k) j) ∙ e) in
            let at = names.onto j both.1 in
            let ne : at.0 ≢ k = λ is. let t : false ≡ true = sym (ap not (tied-itself p (name k))) ∙ ap (λ z. not (eq_by_cmp Q z (name k))) (ap name (sym is) ∙ at.3) ∙ both.0 in cc in
            (at.0, at.1, sym (get-insert_other o exact m k v at.0 ne) ∙ at.2, at.3);
        apart = λ q r w x e g is. names.apart q r w x (other q w e) (other r x g) is;
        parts = λ q w e. names.parts q w (other q w e);
      }) in
      let left = sum_over-insert o exact m f k v none in
      let same = names.parts k v here in
      let right = sum_over-remove p only (marked s) (λ j _. h j) (name k) tt (get-marked p only s (name k) ∙ ap (λ b. cond b (Some tt) None) in_s) in
      let fewer : sum_over (marked (set.remove s (name k))) (λ j _. h j) ≡ sum_over (finite.remove (marked s) (name k)) (λ j _. h j) = ap (λ n. sum_over n (λ j _. h j)) (marked-remove p only s (name k)) in
      omega arith)
