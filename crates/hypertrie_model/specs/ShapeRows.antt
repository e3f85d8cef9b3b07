-- What the rows of a shape are, depth by depth.
use Rattle.std.specs.Prelude.{◌≡◌, ℕ, zero, suc, ◌≤◌, ◌&&◌, ◌||◌, Bool, true, false, cond, nat_le, List, ◌∷◌, ◌++◌}
use Rattle.std.proofs.Common.{sym, ◌∙◌, ap, subst}
use Rattle.std.proofs.lemmas.Cmp.{on_total, then_total, nat_cmp_total}
use Rattle.std.proofs.lemmas.List.Folds.{list_any-append}
use Rattle.std.proofs.lemmas.Map.Lookups.{exact_pairs}
use Rattle.std.specs.List.{list_any}
use Rattle.std.specs.Ordering.{eq_by_cmp, nat_cmp}
use Rattle.std.specs.declared.cmp.Ordering.{Ordering}
use Rattle.std.specs.Cmp.{IsTotalOrder}
use Rattle.std.specs.FinSet as set
use Rattle.std.specs.FinSet.{IsAntisymmetric, nat_cmp-IsAntisymmetric}
use Rattle.hypertrie_model.specs.Sets.{TupleSet}
use Rattle.hypertrie_model.specs.SetLaws.{tied-is, tied-itself, or_cases, or_right, and_both}
use Rattle.hypertrie_model.specs.SliceLaws.{any_passes, passes_any}
use Rattle.hypertrie_model.specs.Shapes.{set_cmp, two, count2, SetOfSets, one, count1, ShapeRow, row_cmp, rows_of, shape, InShape}
use Rattle.hypertrie_model.specs.ShapeLaws.{any-map, le_of_test, test_of_le, sets_total, sets_exact}

module _ {A : Type 0} (R : A → A → Ordering) where
  -- a row of shape(G) by cases on its depth
  abbrev pub IsRowOf : TupleSet R → ℕ → TupleSet R → ℕ → Type 0
  IsRowOf G zero S n = ⊥
  IsRowOf G (suc zero) S n = (set.contains (one R G) S ≡ true) × (n ≡ count1 R G S)
  IsRowOf G (suc (suc zero)) P n = (set.contains (two R G) P ≡ true) × (n ≡ count2 R G P)
  IsRowOf G (suc (suc (suc zero))) H n = (H ≡ G) × (n ≡ 1)
  IsRowOf G (suc (suc (suc (suc d)))) S n = ⊥

module _ {A : Type 0} {R : A → A → Ordering} (o : IsTotalOrder R) (exact : IsAntisymmetric R) where
  pub rows_total : IsTotalOrder (row_cmp R)
  rows_total = then_total (on_total (λ (row : ShapeRow R). row.depth) nat_cmp_total) (then_total (on_total (λ (row : ShapeRow R). row.tuples) (sets_total o exact)) (on_total (λ (row : ShapeRow R). row.count) nat_cmp_total))

  pub rows_exact : IsAntisymmetric (row_cmp R)
  rows_exact a b e =
      ap (λ (p : ℕ × (TupleSet R × ℕ)). record { depth = p.0; tuples = p.1.0; count = p.1.1 })
      (exact_pairs nat_cmp _ nat_cmp-IsAntisymmetric (exact_pairs (set_cmp R) nat_cmp (sets_exact o exact) nat_cmp-IsAntisymmetric) (a.depth, (a.tuples, a.count)) (b.depth, (b.tuples, b.count)) e)

  row_there : (row : ShapeRow R) (d : ℕ) (count : TupleSet R → ℕ) (sets : SetOfSets R) → list_any (eq_by_cmp (row_cmp R) row) (rows_of R d count sets) ≡ true → (row.depth ≡ d) × (set.contains sets row.tuples ≡ true) × (row.count ≡ count row.tuples)
  row_there row d count sets e =
      let of : TupleSet R → ShapeRow R = λ S. record { depth = d; tuples = S; count = count S } in
      let p = any_passes (sets_total o exact) (λ S. eq_by_cmp (row_cmp R) row (of S)) (set.items sets) (sym (any-map of (eq_by_cmp (row_cmp R) row) (set.items sets)) ∙ e) in
      let is : row ≡ of p.member = tied-is rows_exact row (of p.member) p.passes in
      let tuples : row.tuples ≡ p.member = ap (λ (r : ShapeRow R). r.tuples) is in
      (ap (λ (r : ShapeRow R). r.depth) is, ap (set.contains sets) tuples ∙ set.contains-items sets p.member ∙ p.there, ap (λ (r : ShapeRow R). r.count) is ∙ ap count (sym tuples))

  there_row : (d : ℕ) (count : TupleSet R → ℕ) (sets : SetOfSets R) (S : TupleSet R) (n : ℕ) → set.contains sets S ≡ true → n ≡ count S → list_any (eq_by_cmp (row_cmp R) (record { depth = d; tuples = S; count = n })) (rows_of R d count sets) ≡ true
  there_row d count sets S n e is =
      let of : TupleSet R → ShapeRow R = λ S. record { depth = d; tuples = S; count = count S } in
      let row : ShapeRow R = record { depth = d; tuples = S; count = n } in
      let same : row ≡ of S = λ i. record { depth = d; tuples = S; count = is i } in
      any-map of (eq_by_cmp (row_cmp R) row) (set.items sets)
      ∙ passes_any (sets_exact o exact) (λ S. eq_by_cmp (row_cmp R) row (of S)) (set.items sets) S (sym (set.contains-items sets S) ∙ e)
      (ap (λ r. eq_by_cmp (row_cmp R) r (of S)) same ∙ tied-itself rows_total (of S))

  listed : (G : TupleSet R) (row : ShapeRow R) → set.contains (shape R G) row
      ≡ (nat_le 2 (set.len G) && (eq_by_cmp (row_cmp R) row (record { depth = 3; tuples = G; count = 1 })
      || (list_any (eq_by_cmp (row_cmp R) row) (rows_of R 2 (count2 R G) (two R G)) || list_any (eq_by_cmp (row_cmp R) row) (rows_of R 1 (count1 R G) (one R G)))))
  unfolding shape
  listed G row =
      let rows : List (ShapeRow R) = record { depth = 3; tuples = G; count = 1 } ∷ (rows_of R 2 (count2 R G) (two R G) ++ rows_of R 1 (count1 R G) (one R G)) in
      chosen (nat_le 2 (set.len G)) rows
      ∙ ap (λ b. nat_le 2 (set.len G) && (eq_by_cmp (row_cmp R) row (record { depth = 3; tuples = G; count = 1 }) || b)) (list_any-append (eq_by_cmp (row_cmp R) row) (rows_of R 2 (count2 R G) (two R G)) (rows_of R 1 (count1 R G) (one R G))) where
        chosen : (b : Bool) (rows : List (ShapeRow R)) → set.contains {R = row_cmp R} (cond b (set.from_list rows) set.empty) row ≡ (b && list_any (eq_by_cmp (row_cmp R) row) rows)
        chosen true rows = set.contains-from_list rows_total rows row
        chosen false rows = set.contains-empty (row_cmp R) row

  -- what the rows of shape(G) are
  pub in_shape : (G : TupleSet R) (d : ℕ) (S : TupleSet R) (n : ℕ) → InShape R G d S n → (2 ≤ set.len G) × IsRowOf R G d S n
  in_shape G d S n e =
      let row : ShapeRow R = record { depth = d; tuples = S; count = n } in
      let both = and_both (nat_le 2 (set.len G)) _ (sym (listed G row) ∙ e) in (
        le_of_test (set.len G) both.0,
        or_cases (eq_by_cmp (row_cmp R) row (record { depth = 3; tuples = G; count = 1 })) _ both.1 (IsRowOf R G d S n)
            (λ here.
            let is : row ≡ record { depth = 3; tuples = G; count = 1 } = tied-is rows_exact row (record { depth = 3; tuples = G; count = 1 }) here in
            of_depth 3 (ap (λ (r : ShapeRow R). r.depth) is) (ap (λ (r : ShapeRow R). r.tuples) is, ap (λ (r : ShapeRow R). r.count) is))
            (λ below. or_cases (list_any (eq_by_cmp (row_cmp R) row) (rows_of R 2 (count2 R G) (two R G))) (list_any (eq_by_cmp (row_cmp R) row) (rows_of R 1 (count1 R G) (one R G))) below (IsRowOf R G d S n)
            (λ in_two. let at = row_there row 2 (count2 R G) (two R G) in_two in of_depth 2 at.0 (at.1, at.2))
            (λ in_one. let at = row_there row 1 (count1 R G) (one R G) in_one in of_depth 1 at.0 (at.1, at.2))),
      ) where
        of_depth : (e : ℕ) → d ≡ e → IsRowOf R G e S n → IsRowOf R G d S n
        of_depth e is row = subst (λ k. IsRowOf R G k S n) (sym is) row

  pub shape_in : (G : TupleSet R) (d : ℕ) (S : TupleSet R) (n : ℕ) → 2 ≤ set.len G → IsRowOf R G d S n → InShape R G d S n
  shape_in G d S n large row = listed G (record { depth = d; tuples = S; count = n }) ∙ (λ i. test_of_le (set.len G) large i && at d row i) where
    here : ℕ → Bool
    here d = eq_by_cmp (row_cmp R) (record { depth = d; tuples = S; count = n }) (record { depth = 3; tuples = G; count = 1 })

    in_two : ℕ → Bool
    in_two d = list_any (eq_by_cmp (row_cmp R) (record { depth = d; tuples = S; count = n })) (rows_of R 2 (count2 R G) (two R G))

    in_one : ℕ → Bool
    in_one d = list_any (eq_by_cmp (row_cmp R) (record { depth = d; tuples = S; count = n })) (rows_of R 1 (count1 R G) (one R G))

    at : (d : ℕ) → IsRowOf R G d S n → (here d || (in_two d || in_one d)) ≡ true
    at zero row = absurd row
    at (suc zero) row = or_right (here 1) (in_two 1 || in_one 1) (or_right (in_two 1) (in_one 1) (there_row 1 (count1 R G) (one R G) S n row.0 row.1))
    at (suc (suc zero)) row = or_right (here 2) (in_two 2 || in_one 2) (ap (λ b. b || in_one 2) (there_row 2 (count2 R G) (two R G) S n row.0 row.1))
    at (suc (suc (suc zero))) row =
        let same : ◌≡◌ {A = ShapeRow R} (record { depth = 3; tuples = S; count = n }) (record { depth = 3; tuples = G; count = 1 }) = λ i. record { depth = 3; tuples = row.0 i; count = row.1 i } in
        ap (λ b. b || (in_two 3 || in_one 3)) (ap (λ r. eq_by_cmp (row_cmp R) r (record { depth = 3; tuples = G; count = 1 })) same ∙ tied-itself rows_total (record { depth = 3; tuples = G; count = 1 }))
    at (suc (suc (suc (suc d)))) row = absurd row
