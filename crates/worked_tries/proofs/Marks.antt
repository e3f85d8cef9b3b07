-- A tuple stands alone where each of its slices has a pair that no other slice has.
use Rattle.std.specs.Prelude.{◌≡◌, ◌≢◌, ℕ, zero, suc, ◌+◌, ◌*◌, ◌<◌, ◌≤◌, ◌||◌, true, false, cond, nat_le, List, [], ◌∷◌, length}
use Rattle.std.proofs.Common.{sym, ◌∙◌, ap, subst, arith}
use Rattle.std.proofs.lemmas.Bool.Decides.{nat_tests}
use Rattle.std.proofs.lemmas.Cmp.{lists_total}
use Rattle.std.proofs.lemmas.List.Edits.{length-remove}
use Rattle.std.specs.List.{insert, remove}
use Rattle.std.specs.Ordering.{nat_cmp, eq_by_cmp}
use Rattle.std.specs.Cmp.{nat_cmp_total as total}
use Rattle.std.specs.FinMap.{nat_cmp-IsAntisymmetric as exact}
use Rattle.std.specs.FinSet as set
use native.Mathlib.Decide.{dec_lt}
use Rattle.hypertrie_model.specs.IdSets.{IdSet}
use Rattle.hypertrie_model.specs.Members.{contains-kept, len-alike}
use Rattle.hypertrie_model.specs.SetLaws.{tied-is, tied-itself, has-single, or_right, and_both}
use Rattle.hypertrie_model.specs.Sets.{has, single}
use Rattle.hypertrie_model.specs.Shapes.{set_cmp, times, count2}
use Rattle.hypertrie_model.specs.ShapeLaws.{count2-sum, sets_exact, times-has}
use Rattle.hypertrie_model.specs.SliceLaws.{has-slice, insert-remove_at}
use Rattle.hypertrie_model.specs.Slices.{is_at, keys, slice}
use Rattle.trie_change.specs.Extra.{shared_edges}

none_positive : (n : ℕ) → (0 < n → ⊥) → n ≡ 0
none_positive n h = elim (dec_lt 0 n) as (λ _. n ≡ 0) [ yes p ↦ absurd (h p) | no p ↦ omega arith ]

not_two : (n : ℕ) → n ≤ 1 → nat_le 2 n ≡ false
not_two n h = grind (arith, nat_tests)

not_one : (n : ℕ) → n ≡ 0 → nat_le 1 n ≡ false
not_one n h = grind (arith, nat_tests)

-- three numbers up to 1, of which one may be above 0
one_of_three : (i a b c : ℕ) → i ≤ 2 → a ≤ 1 → b ≤ 1 → c ≤ 1 → (0 ≢ i → a ≡ 0) → (1 ≢ i → b ≡ 0) → (2 ≢ i → c ≡ 0) → a + (b + c) ≤ 1
one_of_three zero a b c le la lb lc f g h = let y = g (λ is. omega arith) in let z = h (λ is. omega arith) in omega arith
one_of_three (suc zero) a b c le la lb lc f g h = let y = f (λ is. omega arith) in let z = h (λ is. omega arith) in omega arith
one_of_three (suc (suc zero)) a b c le la lb lc f g h = let y = f (λ is. omega arith) in let z = g (λ is. omega arith) in omega arith
one_of_three (suc (suc (suc i))) a b c le la lb lc f g h = absurd (omega arith)

module _ (G : IdSet) (x : List ℕ) where
  abbrev pub more : IdSet
  more = set.union G (single nat_cmp x)

  pub in_more : (y : List ℕ) → has G y ≡ true → has more y ≡ true
  in_more y there = set.contains-union (lists_total total) G (single nat_cmp x) y ∙ ap (λ b. b || has (single nat_cmp x) y) there

  itself_in_more : has more x ≡ true
  itself_in_more =
      set.contains-union (lists_total total) G (single nat_cmp x) x
      ∙ or_right (has G x) (has (single nat_cmp x) x) (has-single total exact x x ∙ tied-itself (lists_total total) x)

  -- a pair of the slice of G at i and k that is in no other slice, neither of G nor of G with the tuple
  pub record IsMark (i k : ℕ) : Type 0 where
    pub low : ℕ
    pub high : ℕ
    pub place : i ≤ 2
    pub here : has G (insert (low ∷ high ∷ []) i k) ≡ true
    pub only : (j l : ℕ) → j ≤ 2 → has more (insert (low ∷ high ∷ []) j l) ≡ true → (j ≡ i) × (l ≡ k)

  module _ (i k : ℕ) (mark : IsMark i k) where
    abbrev S : IdSet
    S = slice nat_cmp G i k

    in_slice : has S (mark.low ∷ mark.high ∷ []) ≡ true
    in_slice = has-slice total exact G i k (mark.low ∷ mark.high ∷ []) mark.place ∙ mark.here

    -- a set with this slice has the pair there
    has_pair : (H : IdSet) (j l : ℕ) → j ≤ 2 → slice nat_cmp H j l ≡ S → has H (insert (mark.low ∷ mark.high ∷ []) j l) ≡ true
    has_pair H j l place is = sym (has-slice total exact H j l (mark.low ∷ mark.high ∷ []) place) ∙ ap (λ T. has T (mark.low ∷ mark.high ∷ [])) is ∙ in_slice

    once : (j l : ℕ) → j ≤ 2 → slice nat_cmp G j l ≡ S → (j ≡ i) × (l ≡ k)
    once j l place is = mark.only j l place (in_more _ (has_pair G j l place is))

    once_more : (j l : ℕ) → j ≤ 2 → slice nat_cmp more j l ≡ S → (j ≡ i) × (l ≡ k)
    once_more j l place is = mark.only j l place (has_pair more j l place is)

    times_few : (j : ℕ) → j ≤ 2 → times nat_cmp G j S ≤ 1
    unfolding times
    times_few j place = len-alike total exact k (set.retain (keys nat_cmp G j) (λ l. eq_by_cmp (set_cmp nat_cmp) (slice nat_cmp G j l) S)) (λ l e.
        let both = and_both (set.contains (keys nat_cmp G j) l) (eq_by_cmp (set_cmp nat_cmp) (slice nat_cmp G j l) S) (sym (contains-kept total exact (keys nat_cmp G j) (λ m. eq_by_cmp (set_cmp nat_cmp) (slice nat_cmp G j m) S) l) ∙ e) in
        (once j l place (tied-is (sets_exact total exact) (slice nat_cmp G j l) S both.1)).1)

    times_other : (j : ℕ) → j ≤ 2 → j ≢ i → times nat_cmp G j S ≡ 0
    times_other j place other = none_positive (times nat_cmp G j S) (λ pos.
        let s = times-has total exact G j S pos in
        other (once j s.key place s.is).0)

    count_few : count2 nat_cmp G S ≤ 1
    count_few =
        let few = one_of_three i (times nat_cmp G 0 S) (times nat_cmp G 1 S) (times nat_cmp G 2 S) mark.place (times_few 0 (omega arith)) (times_few 1 (omega arith)) (times_few 2 (omega arith)) (times_other 0 (omega arith)) (times_other 1 (omega arith)) (times_other 2 (omega arith)) in
        omega (arith, count2-sum nat_cmp G S, few)

    module _ (long : length x ≡ 3) (new : has G x ≡ false) (at : is_at nat_cmp i k x ≡ true) where
      -- the slice of G with the tuple has what is left of the tuple
      slice_grows : slice nat_cmp more i k ≡ S → ⊥
      slice_grows is =
          let place = mark.place in
          let n = length-remove x i (omega arith) in
          let within : i ≤ length (remove x i) = omega arith in
          let whole : insert (remove x i) i k ≡ x = insert-remove_at total exact x i k at in
          let old : has S (remove x i) ≡ false = has-slice total exact G i k (remove x i) within ∙ ap (has G) whole ∙ new in
          let now : has (slice nat_cmp more i k) (remove x i) ≡ true = has-slice total exact more i k (remove x i) within ∙ ap (has more) whole ∙ itself_in_more in
          let f : false ≡ true = sym old ∙ ap (λ T. has T (remove x i)) (sym is) ∙ now in
          cc

      times_more : (j : ℕ) → j ≤ 2 → times nat_cmp more j S ≡ 0
      times_more j place = none_positive (times nat_cmp more j S) (λ pos.
          let s = times-has total exact more j S pos in
          let at_mark = once_more j s.key place s.is in
          slice_grows (subst (λ l. slice nat_cmp more i l ≡ S) at_mark.1 (subst (λ m. slice nat_cmp more m s.key ≡ S) at_mark.0 s.is)))

      count_none : count2 nat_cmp more S ≡ 0
      count_none = omega (arith, count2-sum nat_cmp more S, times_more 0 (omega arith), times_more 1 (omega arith), times_more 2 (omega arith))

      pub mark_alone : shared_edges G more S ≡ 0
      mark_alone = ap (λ b. cond b (2 * set.len S) 0) ((λ j. not_two (count2 nat_cmp G S) count_few j || not_one (count2 nat_cmp more S) count_none j))
