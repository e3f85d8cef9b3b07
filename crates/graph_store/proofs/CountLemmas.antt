-- The counts of the rows of a graph's shape are small.
use Rattle.std.proofs.Common.{◌≡◌, ◌∙◌, ℕ, zero, suc, ◌+◌, ◌-◌, ◌*◌, ◌≤◌, ◌^◌, ◌&&◌, ◌||◌, not, Bool, true, false, cond, List, [], ◌∷◌, length, get_or, Option, None, Some, refl, sym, ap, subst, arith}
use Rattle.std.proofs.Math.Nat.{mul-add}
use Rattle.std.specs.declared.cmp.Ordering.{Ordering}
use Rattle.std.specs.List.{insert}
use Rattle.std.specs.Ordering.{eq_by_cmp, nat_cmp}
use Rattle.std.specs.Cmp.{nat_cmp_total as total, IsTotalOrder}
use Rattle.std.specs.FinMap as map
use Rattle.std.specs.FinMap.{FinMap, nat_cmp-IsAntisymmetric as exact}
use Rattle.std.specs.FinSet as set
use Rattle.std.specs.FinSet.{FinSet, IsAntisymmetric}
use Rattle.hypertrie_model.specs.IdSets.{IdSet}
use Rattle.hypertrie_model.specs.SetLaws.{and_both}
use Rattle.hypertrie_model.specs.SetInduction.{len-union_disjoint}
use Rattle.hypertrie_model.specs.MapLaws.{map_ind, get-insert_here, get-insert_other}
use Rattle.hypertrie_model.specs.Folds.{sum_over, marked}
use Rattle.hypertrie_model.specs.FoldLaws.{apart_from, sum_over-empty, sum_over-insert, get-marked}
use Rattle.hypertrie_model.specs.Members.{contains-kept}
use Rattle.hypertrie_model.specs.SliceSizes.{len-slice}
use Rattle.hypertrie_model.specs.Slices.{keys, slice}
use Rattle.hypertrie_model.specs.SliceLaws.{has-slice, has-slice_short, by_length, key-slice}
use Rattle.hypertrie_model.specs.Shapes.{set_cmp, slices, times, two, count1}
use Rattle.hypertrie_model.specs.ShapeRows.{IsRowOf, in_shape}
use Rattle.hypertrie_model.specs.ShapeLaws.{sets_total, sets_exact, has-two, count2-sum}
use Rattle.node_table.specs.Table.{Row}
use Rattle.set_image.specs.Images.{image}
use Rattle.set_image.specs.ImageLaws.{value_in}
use Rattle.graph_image.specs.TermLaws.{len-image_most, len-union_most, marked_one_each}
use Rattle.graph_image.specs.ImageLaws.{tuples_total, tuples_exact}
use Rattle.trie_node.specs.declared.node.Node.{Node}
use Rattle.trie_context.specs.declared.tables.Tables.{Tables}
use Rattle.trie_context.specs.Rows.{row_of, set_of}
use Rattle.trie_context.specs.Holds.{count_of}
use Rattle.trie_context.specs.Shape.{HasShape}
use Rattle.trie_change.specs.Rooms.{CountsUpTo}
use Rattle.graph_view.proofs.FoundLemmas.{some_member}

both_ways : (a b : Bool) → (b ≡ true → a ≡ true) → (b || (a && not b)) ≡ a
both_ways true true h = refl
both_ways true false h = refl
both_ways false true h = sym (h refl)
both_ways false false h = refl

not_true : (a b : Bool) → (a && not b) ≡ true → b ≡ false
not_true true true e = absurd (let f : ⊥ = cc in f)
not_true true false e = refl
not_true false b e = absurd (let f : ⊥ = cc in f)

module _ {K : Type 0} {R : K → K → Ordering} (o : IsTotalOrder R) (only : IsAntisymmetric R) where
  -- a part of a set is no larger
  pub len-part : (whole part : FinSet R) → ((q : K) → set.contains part q ≡ true → set.contains whole q ≡ true) → set.len part ≤ set.len whole
  len-part whole part within =
      let rest = set.difference whole part in
      let both : set.union part rest ≡ whole = set.same_set o only _ _ (λ q. set.contains-union o part rest q ∙ ap (λ b. set.contains part q || b) (set.contains-difference o whole part q) ∙ both_ways (set.contains whole q) (set.contains part q) (within q)) in
      let size = len-union_disjoint o only part rest (λ q e. not_true (set.contains whole q) (set.contains part q) (sym (set.contains-difference o whole part q) ∙ e)) in
      let same = ap set.len both in
      omega (arith, size, same)

  len-retain_most : (s : FinSet R) (p : K → Bool) → set.len (set.retain s p) ≤ set.len s
  len-retain_most s p = len-part s (set.retain s p) (λ q e. (and_both (set.contains s q) (p q) (sym (contains-kept o only s p q) ∙ e)).0)

  -- a sum of small parts
  sum_most : {X : Type 0} (most : ℕ) (f : K → X → ℕ) (m : FinMap R X) → ((k : K) (v : X) → map.get m k ≡ Some v → f k v ≤ most) → sum_over m f ≤ most * sum_over m (λ _ _. 1)
  sum_most most f = map_ind o only (λ m. ((k : K) (v : _) → map.get m k ≡ Some v → f k v ≤ most) → sum_over m f ≤ most * sum_over m (λ _ _. 1))
      (λ _. let e = sum_over-empty o only f in omega (arith, e))
      (λ m k v none ind each.
      let one_time : most * 1 ≡ most = omega arith in
      let more = sum_over-insert o only m f k v none in
      let one = sum_over-insert o only m (λ _ _. 1) k v none in
      let here = each k v (get-insert_here o only m k v) in
      let rest = ind (λ q w e. each q w (get-insert_other o only m k v q (apart_from o only m k q w none e) ∙ e)) in
      let spread : most * (1 + sum_over m (λ _ _. 1)) ≡ most + most * sum_over m (λ _ _. 1) = mul-add most 1 (sum_over m (λ _ _. 1)) ∙ ap (λ n. n + most * sum_over m (λ _ _. 1)) one_time in
      let total : most * sum_over (map.insert m k v) (λ _ _. 1) ≡ most + most * sum_over m (λ _ _. 1) = ap (λ n. most * n) one ∙ spread in
      omega (arith, more, here, rest, total))

element : (u : List ℕ) (i k : ℕ) → i ≤ length u → get_or (insert u i k) i 0 ≡ k
element u zero k le = refl
element [] (suc i) k le = absurd (omega (arith, le))
element (x ∷ u) (suc i) k le = element u i k (omega (arith, le))

-- no more keys than tuples
len-keys : (H : IdSet) (i : ℕ) → set.len (keys nat_cmp H i) ≤ set.len H
len-keys H i =
    let at = λ (t : List ℕ). get_or t i 0 in
    let within = len-part total exact (image nat_cmp at H) (keys nat_cmp H i) (λ k e.
    let u = some_member (slice nat_cmp H i k) (key-slice total exact H i k e) in
    value_in tuples_total tuples_exact total exact at H k (by_length total exact _ i u.0
    (λ le. record { member = insert u.0 i k; there = sym (has-slice total exact H i k u.0 le) ∙ u.1; is = element u.0 i k le })
    (λ gt. absurd (let f : false ≡ true = sym (has-slice_short total exact H i k u.0 gt) ∙ u.1 in let g : ⊥ = cc in g)))) in
    let few = len-image_most tuples_total tuples_exact total exact at H in
    omega (arith, within, few)

len-times : (H : IdSet) (i : ℕ) (S : IdSet) → times nat_cmp H i S ≤ set.len H
unfolding times
len-times H i S =
    let a = len-retain_most total exact (keys nat_cmp H i) (λ k. eq_by_cmp (set_cmp nat_cmp) (slice nat_cmp H i k) S) in
    let b = len-keys H i in
    omega (arith, a, b)

len-slices : (H : IdSet) (i : ℕ) → set.len (slices nat_cmp H i) ≤ set.len H
unfolding slices image
len-slices H i =
    let a = len-image_most total exact (sets_total total exact) (sets_exact total exact) (slice nat_cmp H i) (keys nat_cmp H i) in
    let b = len-keys H i in
    omega (arith, a, b)

len-two : (G : IdSet) → set.len (two nat_cmp G) ≤ 3 * set.len G
unfolding two
len-two G =
    let a = len-slices G 0 in
    let b = len-slices G 1 in
    let c = len-slices G 2 in
    let d = len-union_most (sets_total total exact) (sets_exact total exact) (sets_total total exact) (sets_exact total exact) (slices nat_cmp G 1) (slices nat_cmp G 2) in
    let e = len-union_most (sets_total total exact) (sets_exact total exact) (sets_total total exact) (sets_exact total exact) (slices nat_cmp G 0) (set.union (slices nat_cmp G 1) (slices nat_cmp G 2)) in
    omega (arith, a, b, c, d, e)

is_there : (b : Bool) (u : Unit {0}) → cond b (Some tt) None ≡ Some u → b ≡ true
is_there true u e = refl
is_there false u e = absurd (let f : ⊥ = cc in f)

part_few : (G P S : IdSet) → set.contains (two nat_cmp G) P ≡ true → times nat_cmp P 0 S + times nat_cmp P 1 S ≤ 2 * set.len G
part_few G P S e =
    let less : set.len P ≤ set.len G = has-two total exact G P e _ (λ s. subst (λ Q. set.len Q ≤ set.len G) s.is (len-slice total exact G 0 s.key)) (λ s. subst (λ Q. set.len Q ≤ set.len G) s.is (len-slice total exact G 1 s.key)) (λ s. subst (λ Q. set.len Q ≤ set.len G) s.is (len-slice total exact G 2 s.key)) in
    let a = len-times P 0 S in
    let b = len-times P 1 S in
    omega (arith, less, a, b)

mul_most : (a b c : ℕ) → b ≤ c → a * b ≤ a * c
mul_most a b c le =
    let rest : b + (c - b) ≡ c = omega (arith, le) in
    let parts : a * b + a * (c - b) ≡ a * c = sym (mul-add a b (c - b)) ∙ ap (λ n. a * n) rest in
    omega (arith, parts)

count1_few : (G S : IdSet) → set.len G ≤ 500000000 → count1 nat_cmp G S ≤ 2 ^ 96
unfolding count1
count1_few G S few =
    let twice = 2 * set.len G in
    let sum = sum_most (sets_total total exact) (sets_exact total exact) twice (λ P _. times nat_cmp P 0 S + times nat_cmp P 1 S) (marked (two nat_cmp G)) (λ P u e. part_few G P S (is_there (set.contains (two nat_cmp G) P) u (sym (get-marked (sets_total total exact) (sets_exact total exact) (two nat_cmp G) P) ∙ e))) in
    let size = marked_one_each (sets_total total exact) (sets_exact total exact) (two nat_cmp G) in
    let all = len-two G in
    let less : sum_over (marked (two nat_cmp G)) (λ _ _. 1) ≤ 1500000000 = omega (arith, size, all, few) in
    let product = mul_most twice (sum_over (marked (two nat_cmp G)) (λ _ _. 1)) 1500000000 less in
    omega (arith, sum, product, few)

-- the counts of the rows of a graph of so many triples
pub counts_few : (t : Tables) (G : IdSet) → HasShape t G → set.len G ≤ 500000000 → CountsUpTo t (2 ^ 96)
counts_few t G shape few d r = by (row_of t d r) refl where
  of_row : (d : ℕ) (S : IdSet) (n : ℕ) → IsRowOf nat_cmp G d S n → n ≤ 2 ^ 96
  of_row zero S n row = absurd row
  of_row (suc zero) S n row = let c = count1_few G S few in omega (arith, c, row.1)
  of_row (suc (suc zero)) S n row =
      let a = len-times G 0 S in
      let b = len-times G 1 S in
      let c = len-times G 2 S in
      let s = count2-sum nat_cmp G S in
      omega (arith, a, b, c, s, few, row.1)
  of_row (suc (suc (suc zero))) S n row = omega (arith, row.1)
  of_row (suc (suc (suc (suc d)))) S n row = absurd row

  by : (o : Option (Row Node)) → row_of t d r ≡ o → count_of (row_of t d r) ≤ 2 ^ 96
  by None e = let n = ap count_of e in omega (arith, n)
  by (Some row) e =
      let n = ap count_of e in
      let le = of_row d (set_of t d r) row.count (in_shape total exact G d (set_of t d r) row.count (shape.sound d r row e)).1 in
      omega (arith, n, le)
