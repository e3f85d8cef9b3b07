-- Which sets of pairs and which key sets the shape of a set of triples has.
use Rattle.std.specs.Prelude.{◌≡◌, ℕ, ◌+◌, ◌<◌, ◌≤◌, ◌⊎◌, ◌&&◌, ◌||◌, Bool, true, false, cond, nat_le, List, [], ◌∷◌, map, refl, None, Some}
use Rattle.std.proofs.Common.{sym, ◌∙◌, ap, inl, inr, arith}
use Rattle.std.proofs.lemmas.Bool.Decides.{nat_tests}
use Rattle.std.proofs.lemmas.Cmp.{lists_total, on_total}
use Rattle.std.specs.List.{list_any, insert, remove}
use Rattle.std.specs.Ordering.{eq_by_cmp}
use Rattle.std.specs.declared.cmp.Ordering.{Ordering}
use Rattle.std.specs.Cmp.{IsTotalOrder}
use Rattle.std.specs.Cmp.Lexicographic.{slice_cmp}
use Rattle.std.specs.FinSet as set
use Rattle.std.specs.FinSet.{IsAntisymmetric, slice_cmp-IsAntisymmetric}
use native.Mathlib.Decide.{dec_lt}
use Rattle.hypertrie_model.specs.Sets.{TupleSet, single}
use Rattle.hypertrie_model.specs.SetLaws.{same_sets, has-single, tied-is, tied-itself, or_cases, or_right, and_both}
use Rattle.hypertrie_model.specs.Slices.{keys, slice}
use Rattle.hypertrie_model.specs.SliceLaws.{any_passes, passes_any, has-slice, has-slice_short, remove-insert_at, by_length}
use Rattle.hypertrie_model.specs.Folds.{sum_over, marked}
use Rattle.hypertrie_model.specs.FoldLaws.{sum_over-has, get-marked}
use Rattle.hypertrie_model.specs.Shapes.{set_cmp, slices, times, two, count2, large_slices, all_large_slices, one, count1}
use Rattle.hypertrie_model.specs.Members.{counted_by, contains-kept, len-retain, len-alike}

pub any-map : {X Y : Type 0} (f : X → Y) (q : Y → Bool) (xs : List X) → list_any q (map f xs) ≡ list_any (λ x. q (f x)) xs
any-map f q [] = refl
any-map f q (x ∷ xs) = ap (λ b. q (f x) || b) (any-map f q xs)

none_positive : (n : ℕ) → (0 < n → ⊥) → n ≡ 0
none_positive n h = elim (dec_lt 0 n) as (λ _. n ≡ 0) [ yes p ↦ absurd (h p) | no p ↦ omega arith ]

pub le_of_test : (n : ℕ) → nat_le 2 n ≡ true → 2 ≤ n
le_of_test n h = grind (arith, nat_tests)

pub test_of_le : (n : ℕ) → 2 ≤ n → nat_le 2 n ≡ true
test_of_le n h = grind (arith, nat_tests)

is_marked : (b : Bool) (u : Unit {0}) → cond b (Some tt) None ≡ Some u → b ≡ true
is_marked true u e = refl
is_marked false u e = cc

passed : (b : Bool) → 0 < counted_by b → b ≡ true
passed true h = refl
passed false h = absurd (omega arith)

module _ {A : Type 0} (R : A → A → Ordering) where
  pub count2-sum : (G P : TupleSet R) → count2 R G P ≡ times R G 0 P + (times R G 1 P + times R G 2 P)
  unfolding count2
  count2-sum G P = refl

module _ {A : Type 0} {R : A → A → Ordering} (o : IsTotalOrder R) (exact : IsAntisymmetric R) where
  pub sets_total : IsTotalOrder (set_cmp R)
  sets_total = on_total set.items (lists_total (lists_total o))

  pub sets_exact : IsAntisymmetric (set_cmp R)
  sets_exact H K e =
      let is : set.items H ≡ set.items K = slice_cmp-IsAntisymmetric (slice_cmp-IsAntisymmetric exact) (set.items H) (set.items K) e in
      same_sets o exact H K (λ t. set.contains-items H t ∙ ap (list_any (eq_by_cmp (slice_cmp R) t)) is ∙ sym (set.contains-items K t))

  -- S is a slice of H at position i
  pub record IsSlice (H : TupleSet R) (i : ℕ) (S : TupleSet R) : Type 0 where
    pub key : A
    pub there : set.contains (keys R H i) key ≡ true
    pub is : slice R H i key ≡ S

  pub has-slices : (H : TupleSet R) (i : ℕ) (S : TupleSet R) → set.contains (slices R H i) S ≡ true → IsSlice H i S
  unfolding slices
  has-slices H i S e =
      let listed = sym (set.contains-from_list sets_total (map (slice R H i) (set.items (keys R H i))) S ∙ any-map (slice R H i) (eq_by_cmp (set_cmp R) S) (set.items (keys R H i))) ∙ e in
      let p = any_passes o (λ k. eq_by_cmp (set_cmp R) S (slice R H i k)) (set.items (keys R H i)) listed in
      record { key = p.member; there = set.contains-items (keys R H i) p.member ∙ p.there; is = sym (tied-is sets_exact S (slice R H i p.member) p.passes) }

  pub slices-has : (H : TupleSet R) (i : ℕ) (S : TupleSet R) → IsSlice H i S → set.contains (slices R H i) S ≡ true
  unfolding slices
  slices-has H i S s =
      set.contains-from_list sets_total (map (slice R H i) (set.items (keys R H i))) S
      ∙ any-map (slice R H i) (eq_by_cmp (set_cmp R) S) (set.items (keys R H i))
      ∙ passes_any exact (λ k. eq_by_cmp (set_cmp R) S (slice R H i k)) (set.items (keys R H i)) s.key (sym (set.contains-items (keys R H i) s.key) ∙ s.there)
      (ap (eq_by_cmp (set_cmp R) S) s.is ∙ tied-itself sets_total S)

  -- one for each key whose slice is S
  pub times-sum : (H : TupleSet R) (i : ℕ) (S : TupleSet R) → times R H i S ≡ sum_over (marked (keys R H i)) (λ k _. counted_by (eq_by_cmp (set_cmp R) (slice R H i k) S))
  unfolding times
  times-sum H i S = len-retain o exact (λ k. eq_by_cmp (set_cmp R) (slice R H i k) S) (keys R H i)

  pub times-has : (H : TupleSet R) (i : ℕ) (S : TupleSet R) → 0 < times R H i S → IsSlice H i S
  times-has H i S pos =
      let part = sum_over-has o exact (λ k _. counted_by (eq_by_cmp (set_cmp R) (slice R H i k) S)) (marked (keys R H i)) (omega (arith, times-sum H i S)) in
      record {
        key = part.0;
        there = is_marked (set.contains (keys R H i) part.0) part.1 (sym (get-marked o exact (keys R H i) part.0) ∙ part.2);
        is = tied-is sets_exact (slice R H i part.0) S (passed (eq_by_cmp (set_cmp R) (slice R H i part.0) S) part.3);
      }

  -- P is a slice of a set of triples at one of the three positions
  pub has-two : (G P : TupleSet R) → set.contains (two R G) P ≡ true → (C : Type 0) → (IsSlice G 0 P → C) → (IsSlice G 1 P → C) → (IsSlice G 2 P → C) → C
  unfolding two
  has-two G P e C first second third =
      let rest = set.union (slices R G 1) (slices R G 2) in
      or_cases (set.contains (slices R G 0) P) (set.contains rest P) (sym (set.contains-union sets_total (slices R G 0) rest P) ∙ e) C
      (λ a. first (has-slices G 0 P a))
      (λ b. or_cases (set.contains (slices R G 1) P) (set.contains (slices R G 2) P) (sym (set.contains-union sets_total (slices R G 1) (slices R G 2) P) ∙ b) C
      (λ c. second (has-slices G 1 P c))
      (λ c. third (has-slices G 2 P c)))

  either : (a b c : Bool) → (a ≡ true) ⊎ ((b ≡ true) ⊎ (c ≡ true)) → (a || (b || c)) ≡ true
  either a b c (inl e) = ap (λ z. z || (b || c)) e
  either a b c (inr (inl e)) = or_right a (b || c) (ap (λ z. z || c) e)
  either a b c (inr (inr e)) = or_right a (b || c) (or_right b c e)

  pub two-has : (G P : TupleSet R) → (IsSlice G 0 P) ⊎ ((IsSlice G 1 P) ⊎ (IsSlice G 2 P)) → set.contains (two R G) P ≡ true
  unfolding two
  two-has G P s =
      set.contains-union sets_total (slices R G 0) (set.union (slices R G 1) (slices R G 2)) P
      ∙ ap (λ b. set.contains (slices R G 0) P || b) (set.contains-union sets_total (slices R G 1) (slices R G 2) P)
      ∙ either (set.contains (slices R G 0) P) (set.contains (slices R G 1) P) (set.contains (slices R G 2) P) (at s) where
        at : (IsSlice G 0 P) ⊎ ((IsSlice G 1 P) ⊎ (IsSlice G 2 P)) → (set.contains (slices R G 0) P ≡ true) ⊎ ((set.contains (slices R G 1) P ≡ true) ⊎ (set.contains (slices R G 2) P ≡ true))
        at (inl a) = inl (slices-has G 0 P a)
        at (inr (inl a)) = inr (inl (slices-has G 1 P a))
        at (inr (inr a)) = inr (inr (slices-has G 2 P a))

  -- what some pair of a position and a key has for its slice is in two(G)
  pub counted-two : (G P : TupleSet R) → 0 < count2 R G P → set.contains (two R G) P ≡ true
  counted-two G P pos = two-has G P (elim (dec_lt 0 (times R G 0 P)) as (λ _. (IsSlice G 0 P) ⊎ ((IsSlice G 1 P) ⊎ (IsSlice G 2 P))) [
    | yes a ↦ inl (times-has G 0 P a)
    | no a ↦ elim (dec_lt 0 (times R G 1 P)) as (λ _. (IsSlice G 0 P) ⊎ ((IsSlice G 1 P) ⊎ (IsSlice G 2 P))) [
      | yes b ↦ inr (inl (times-has G 1 P b))
      | no b ↦ inr (inr (times-has G 2 P (omega (arith, count2-sum R G P))))
    ]
  ])

  -- S has two or more keys and is a slice of P at one of the two positions
  pub has-large_slices : (P S : TupleSet R) → set.contains (large_slices R P) S ≡ true → (2 ≤ set.len S) × ((C : Type 0) → (IsSlice P 0 S → C) → (IsSlice P 1 S → C) → C)
  unfolding large_slices
  has-large_slices P S e =
      let both = and_both (set.contains (set.union (slices R P 0) (slices R P 1)) S) (nat_le 2 (set.len S)) (sym (contains-kept sets_total sets_exact (set.union (slices R P 0) (slices R P 1)) (λ S. nat_le 2 (set.len S)) S) ∙ e) in (
        le_of_test (set.len S) both.1,
        λ C first second. or_cases (set.contains (slices R P 0) S) (set.contains (slices R P 1) S) (sym (set.contains-union sets_total (slices R P 0) (slices R P 1) S) ∙ both.0) C
            (λ a. first (has-slices P 0 S a))
            (λ b. second (has-slices P 1 S b)),
      )

  pub large_slices-has : (P S : TupleSet R) → 2 ≤ set.len S → (IsSlice P 0 S) ⊎ (IsSlice P 1 S) → set.contains (large_slices R P) S ≡ true
  unfolding large_slices
  large_slices-has P S large s =
      contains-kept sets_total sets_exact (set.union (slices R P 0) (slices R P 1)) (λ S. nat_le 2 (set.len S)) S
      ∙ (λ i. in_union i && test_of_le (set.len S) large i) where
        at : (IsSlice P 0 S) ⊎ (IsSlice P 1 S) → (set.contains (slices R P 0) S || set.contains (slices R P 1) S) ≡ true
        at (inl a) = ap (λ z. z || set.contains (slices R P 1) S) (slices-has P 0 S a)
        at (inr b) = or_right (set.contains (slices R P 0) S) (set.contains (slices R P 1) S) (slices-has P 1 S b)

        in_union : set.contains (set.union (slices R P 0) (slices R P 1)) S ≡ true
        in_union = set.contains-union sets_total (slices R P 0) (slices R P 1) S ∙ at s

  contains-all : (Ps : List (TupleSet R)) (S : TupleSet R) → set.contains (all_large_slices R Ps) S ≡ list_any (λ P. set.contains (large_slices R P) S) Ps
  contains-all [] S = set.contains-empty (set_cmp R) S
  contains-all (P ∷ Ps) S = set.contains-union sets_total (large_slices R P) (all_large_slices R Ps) S ∙ ap (λ b. set.contains (large_slices R P) S || b) (contains-all Ps S)

  -- S is a slice of two or more keys of a set of pairs in two(G)
  pub record IsOne (G S : TupleSet R) : Type 0 where
    pub pairs : TupleSet R
    pub among : set.contains (two R G) pairs ≡ true
    pub slice_of : set.contains (large_slices R pairs) S ≡ true

  pub has-one : (G S : TupleSet R) → set.contains (one R G) S ≡ true → IsOne G S
  unfolding one
  has-one G S e =
      let p = any_passes sets_total (λ P. set.contains (large_slices R P) S) (set.items (two R G)) (sym (contains-all (set.items (two R G)) S) ∙ e) in
      record { pairs = p.member; among = set.contains-items (two R G) p.member ∙ p.there; slice_of = p.passes }

  pub one-has : (G S : TupleSet R) → IsOne G S → set.contains (one R G) S ≡ true
  unfolding one
  one-has G S s =
      contains-all (set.items (two R G)) S
      ∙ passes_any sets_exact (λ P. set.contains (large_slices R P) S) (set.items (two R G)) s.pairs (sym (set.contains-items (two R G) s.pairs) ∙ s.among) s.slice_of

  -- and so is what some triple of such a set, a position and a key has for its slice, where it has two or more keys
  pub counted-one : (G S : TupleSet R) → 2 ≤ set.len S → 0 < count1 R G S → set.contains (one R G) S ≡ true
  unfolding count1
  counted-one G S large pos =
      let part = sum_over-has sets_total sets_exact (λ P _. times R P 0 S + times R P 1 S) (marked (two R G)) pos in
      one-has G S (record {
        pairs = part.0;
        among = is_marked (set.contains (two R G) part.0) part.1 (sym (get-marked sets_total sets_exact (two R G) part.0) ∙ part.2);
        slice_of = large_slices-has part.0 S large (elim (dec_lt 0 (times R part.0 0 S)) as (λ _. (IsSlice part.0 0 S) ⊎ (IsSlice part.0 1 S)) [
          | yes a ↦ inl (times-has part.0 0 S a)
          | no a ↦ inr (times-has part.0 1 S (omega (arith, part.3)))
        ]);
      })

  -- a slice of one tuple has no more than one
  pub len-slice_single : (t : List A) (i : ℕ) (k : A) → set.len (slice R (single R t) i k) ≤ 1
  len-slice_single t i k = len-alike (lists_total o) (slice_cmp-IsAntisymmetric exact) (remove t i) (slice R (single R t) i k) (λ u e. by_length o exact (u ≡ remove t i) i u
      (λ le.
      let is : insert u i k ≡ t = tied-is (slice_cmp-IsAntisymmetric exact) (insert u i k) t (sym (has-slice o exact (single R t) i k u le ∙ has-single o exact t (insert u i k)) ∙ e) in
      sym (remove-insert_at u i k le) ∙ ap (λ v. remove v i) is)
      (λ gt. absurd (let f : false ≡ true = sym (has-slice_short o exact (single R t) i k u gt) ∙ e in cc)))

  pub times_single : (t : List A) (i : ℕ) (S : TupleSet R) → 2 ≤ set.len S → times R (single R t) i S ≡ 0
  times_single t i S large = none_positive (times R (single R t) i S) (λ pos.
      let s = times-has (single R t) i S pos in
      let same = ap set.len s.is in
      omega (arith, len-slice_single t i s.key))
