-- A search begins: no label is fixed.
use Rattle.std.specs.Prelude.{◌≡◌, ℕ, zero, suc, ◌+◌, ◌-◌, ◌<◌, ◌≤◌, ◌^◌, ◌&&◌, Bool, true, false, not, nat_lt, List, [], ◌∷◌, ◌++◌, length, map, take, slice_index_or, refl, Option, None, Some}
use Rattle.std.proofs.Common.{sym, ◌∙◌, ap, subst, arith}
use Rattle.std.proofs.lemmas.Bool.Decides.{nat_tests}
use Rattle.std.proofs.lemmas.List.{get_or_append_left, get_or-append_right, length-append}
use Rattle.std.proofs.lemmas.List.Elements.{filter_passes}
use Rattle.std.proofs.lemmas.List.FromFn.{length-range_with_len}
use Rattle.std.proofs.lemmas.List.Sorted.{IsPermutation-filter_both, length_permutation}
use Rattle.std.specs.Cmp.Lexicographic.{slice_cmp}
use Rattle.std.specs.FinSet as set
use Rattle.std.specs.List.{filter, range_with_len}
use Rattle.std.specs.List.Sorted.{IsPermutation}
use Rattle.std.specs.Ordering.{nat_cmp}
use native.Mathlib.Decide.{dec_lt}
use Rattle.hypertrie_model.specs.IdSets.{IdSet}
use Rattle.hypertrie_model.specs.Sets.{has}
use Rattle.trie_depth.specs.declared.id.Id.{Id}
use Rattle.bag_model.specs.Solutions.{assignments, image, is_solution}
use Rattle.bag_list.specs.declared.level.Level.{Level}
use Rattle.bag_list.specs.declared.track.Start.{Start}
use Rattle.bag_list.specs.declared.track.Track.{Track}
use Rattle.bag_list.specs.Labels.{array_labels}
use Rattle.bag_list.specs.Levels.{is_telling, level_labels, n_fresh, tells, to_come}
use Rattle.bag_list.specs.Search.{AreKept, id_solutions, ids_below}
use Rattle.bag_list.specs.Tracks.{AreTracks, HasEmpty, rests, rests_of, start_set}
use Rattle.bag_list.proofs.SearchLemmas.{label-at, length-labels, track-levels}

module _ {O : Type 0} (depth_of : O → ℕ) (tuples : O → IdSet) (columns : List (Option ℕ)) (distinct : Bool) (n : ℕ) (levels : List Level) (told : ℕ) (labels : level_labels levels ≡ filter (is_telling columns distinct true) (range_with_len 0 n) ++ filter (is_telling columns distinct false) (range_with_len 0 n)) (n_told : told ≡ length (filter (is_telling columns distinct true) (range_with_len 0 n))) where
  all-labels : IsPermutation (range_with_len 0 n) (level_labels levels)
  all-labels = subst (IsPermutation (range_with_len 0 n)) (sym labels) (IsPermutation-filter_both (is_telling columns distinct true) (is_telling columns distinct false) (λ l. refl) (range_with_len 0 n))

  pub n-levels : length levels ≡ n
  n-levels = sym (length-labels levels) ∙ length_permutation (range_with_len 0 n) (level_labels levels) all-labels ∙ length-range_with_len 0 n

  told-first : (j : ℕ) (f : Level) → j < length levels → tells columns distinct (slice_index_or levels j f).label ≡ nat_lt j told
  told-first j f lt =
      ap (tells columns distinct) (label-at levels j f lt ∙ ap (λ xs. slice_index_or xs j 0) labels)
      ∙ elim (dec_lt j told) as (λ _. tells columns distinct (slice_index_or (F ++ G) j 0) ≡ nat_lt j told) [
        | yes low ↦
            ap (tells columns distinct) (get_or_append_left F G 0 j (omega (arith, low, n_told)))
            ∙ filter_passes (is_telling columns distinct true) (range_with_len 0 n) j 0 (omega (arith, low, n_told))
            ∙ sym (let t : nat_lt j told ≡ true = grind (arith, nat_tests) in t)
        | no high ↦
            let long : length levels ≡ length F + length G = sym (length-labels levels) ∙ ap length labels ∙ length-append F G in
            ap (tells columns distinct) (get_or-append_right F G (length F) j 0 refl (omega (arith, high, n_told)))
            ∙ flipped (tells columns distinct (slice_index_or G (j - length F) 0)) (filter_passes (is_telling columns distinct false) (range_with_len 0 n) (j - length F) 0 (omega (arith, long, lt, high, n_told)))
            ∙ sym (let t : nat_lt j told ≡ false = grind (arith, nat_tests) in t)
      ] where
        F : List ℕ
        F = filter (is_telling columns distinct true) (range_with_len 0 n)

        G : List ℕ
        G = filter (is_telling columns distinct false) (range_with_len 0 n)

        flipped : (b : Bool) → not b ≡ true → b ≡ false
        flipped true e = sym e
        flipped false e = refl

  pub kept-begun : (fresh : Bool) (tracks : List (Track O)) (values : List Id) → length values ≡ n → ((fs : List Level) → AreTracks depth_of tuples n 1 fs tracks) → AreKept depth_of tuples (tells columns distinct) levels 0 fresh told tracks values
  kept-begun fresh tracks values n_values are = record {
    within = omega arith;
    labels = subst (λ m. IsPermutation (range_with_len 0 m) (level_labels levels)) (sym n-levels) all-labels;
    first = told-first;
    told_within =
        let long : length levels ≡ length (filter (is_telling columns distinct true) (range_with_len 0 n)) + length (filter (is_telling columns distinct false) (range_with_len 0 n)) = sym (length-labels levels) ∙ ap length labels ∙ length-append _ _ in
        omega (arith, long, n_told);
    patterns = λ i t lt. subst (λ m. Rattle.bag_list.specs.Tracks.IsTrack depth_of tuples m (0 + n_fresh fresh) levels (slice_index_or tracks i t)) (sym n-levels)
        (track-levels depth_of tuples n 1 (0 + n_fresh fresh) levels levels (slice_index_or tracks i t) (most fresh) (λ j _. refl) (are levels i t lt));
    n_values = n_values ∙ sym n-levels;
    keys = λ j f k lt. absurd (omega (arith, lt));
    tried = λ j f lt. absurd (let m = most fresh in omega (arith, lt, m));
    admitted = λ _ last f none. absurd (omega (arith, none));
  } where
    most : (b : Bool) → 0 + n_fresh b ≤ 1
    most true = omega arith
    most false = omega arith

-- where a start is empty there is no solution
module _ {O : Type 0} (tuples : O → IdSet) where
  none-solves : (starts : List (Start O)) (a : List ℕ) (i : ℕ) → i < length starts → ((s : Start O) → (slice_index_or starts i s).op ≡ None) → is_solution nat_cmp (rests_of tuples starts) a ≡ false
  none-solves [] a i lt none = absurd (omega (arith, lt))
  none-solves (s ∷ starts) a zero lt none = ap (λ b. b && is_solution nat_cmp (rests_of tuples starts) a) (ap (λ o. has (start_set tuples o) (image a (array_labels s.labels))) (none s) ∙ set.contains-empty (slice_cmp nat_cmp) (image a (array_labels s.labels)))
  none-solves (s ∷ starts) a (suc i) lt none = ap (λ b. has (start_set tuples s.op) (image a (array_labels s.labels)) && b) (none-solves starts a i (omega (arith, lt)) none) ∙ and_false (has (start_set tuples s.op) (image a (array_labels s.labels))) where
    and_false : (b : Bool) → (b && false) ≡ false
    and_false true = refl
    and_false false = refl

  filter-nothing : (p : List ℕ → Bool) → ((a : List ℕ) → p a ≡ false) → (xs : List (List ℕ)) → filter p xs ≡ []
  filter-nothing p none [] = refl
  filter-nothing p none (x ∷ xs) = (λ j. Rattle.std.specs.Prelude.cond (none x j) (x ∷ filter p xs) (filter p xs)) ∙ filter-nothing p none xs

  pub no-solutions : (n : ℕ) (starts : List (Start O)) → HasEmpty starts → id_solutions n (rests_of tuples starts) ≡ []
  no-solutions n starts e = filter-nothing (is_solution nat_cmp (rests_of tuples starts)) (λ a. none-solves starts a e.0 e.1 e.2) (assignments (ids_below (2 ^ 32)) n)

  -- all is to come where no start is empty, and else nothing
  pub coming-begun : (n : ℕ) (starts : List (Start O)) (levels : List Level) (tracks : List (Track O)) (fresh : Bool) → length levels ≡ n → (fresh ≡ true → rests tuples tracks ≡ rests_of tuples starts) → (fresh ≡ false → HasEmpty starts) → to_come (id_solutions (length levels) (rests tuples tracks)) (take 0 levels) fresh ≡ id_solutions n (rests_of tuples starts)
  coming-begun n starts levels tracks true long same none = (λ j. id_solutions (long j) (same refl j))
  coming-begun n starts levels tracks false long same none = sym (no-solutions n starts (none refl))
