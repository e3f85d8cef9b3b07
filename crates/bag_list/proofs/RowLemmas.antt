-- Rows of solutions: a solution that is found gives a row, and what goes with it gives none.
use Rattle.std.specs.Prelude.{◌≡◌, ℕ, ◌+◌, ◌||◌, Bool, true, false, not, nat_eq, List, [], ◌∷◌, ◌++◌, length, map, refl, Option, None, Some}
use Rattle.std.proofs.Common.{sym, ◌∙◌, ap, subst, arith, append_assoc}
use Rattle.std.proofs.lemmas.Bool.{false_from_ne_true}
use Rattle.std.proofs.lemmas.Cmp.{nat_cmp_total}
use Rattle.std.proofs.lemmas.List.{map-append, length-append}
use Rattle.std.proofs.lemmas.List.Folds.{list_any-append}
use Rattle.std.proofs.lemmas.List.Sorted.{IsPermutation-append_right, IsPermutation-map, IsPermutation-trans, length_permutation, list_any-IsPermutation}
use Rattle.std.specs.FinMap.{nat_cmp-IsAntisymmetric}
use Rattle.std.specs.List.{AllByRecursion, list_any}
use Rattle.std.specs.List.Sorted.{IsPermutation}
use Rattle.std.specs.Ordering.{nat_cmp}
use Rattle.hypertrie_model.specs.SetLaws.{or_cases}
use Rattle.hypertrie_model.specs.Slices.{at}
use Rattle.bag_model.specs.Answers.{chosen_rows, first_places, same_row}
use Rattle.bag_model.specs.AnswerLaws.{exact_rows, first_places-next}
use Rattle.bag_model.specs.Solutions.{row_of}
use Rattle.bag_list.specs.Levels.{is_label, tells}
use Rattle.bag_list.specs.Rows.{Row}
use Rattle.bag_list.proofs.ComingLemmas.{all-filtered, all-weaker}
use Rattle.bag_list.proofs.FoundLemmas.{IsFound}
use Rattle.bag_list.proofs.SearchLemmas.{exact_numbers}

-- assignments that are alike in the labels of the columns have one row
row-alike : (columns : List (Option ℕ)) (a b : List ℕ) → ((l : ℕ) → list_any (is_label l) columns ≡ true → at l b ≡ at l a) → row_of columns b ≡ row_of columns a
row-alike [] a b same = refl
row-alike (None ∷ columns) a b same = ap (λ r. None ∷ r) (row-alike columns a b same)
row-alike (Some l ∷ columns) a b same = (λ j. same l (ap (λ t. t || list_any (is_label l) columns) (exact_numbers.itself l)) j ∷ row-alike columns a b (λ m e. same m (later (nat_eq m l) e)) j) where
  later : (t : Bool) {s : Bool} → s ≡ true → (t || s) ≡ true
  later true e = refl
  later false e = e

-- those that differ in one have two
row-apart : (columns : List (Option ℕ)) (a b : List ℕ) (l : ℕ) → list_any (is_label l) columns ≡ true → (at l b ≡ at l a → ⊥) → row_of columns a ≡ row_of columns b → ⊥
row-apart [] a b l e differ same = let f : ⊥ = cc in f
row-apart (None ∷ columns) a b l e differ same = row-apart columns a b l e differ (behind _ _ _ _ same) where
  behind : (x y : Option ℕ) (r s : Row) → x ∷ r ≡ y ∷ s → r ≡ s
  behind x y r s e = cc
row-apart (Some m ∷ columns) a b l e differ same = or_cases (nat_eq l m) (list_any (is_label l) columns) e ⊥
    (λ here. differ (ap (λ i. at i b) (exact_numbers.is l m here) ∙ sym (first _ _ _ _ same) ∙ ap (λ i. at i a) (sym (exact_numbers.is l m here))))
    (λ later. row-apart columns a b l later differ (behind _ _ _ _ same)) where
      first : (x y : Option ℕ) (r s : Row) → x ∷ r ≡ y ∷ s → x ≡ y
      first x y r s e = cc

      behind : (x y : Option ℕ) (r s : Row) → x ∷ r ≡ y ∷ s → r ≡ s
      behind x y r s e = cc

all-mapped : {X Y : Type 0} (f : X → Y) (P : X → Type 0) (Q : Y → Type 0) (xs : List X) → ((x : X) → P x → Q (f x)) → AllByRecursion P xs → AllByRecursion Q (map f xs)
all-mapped f P Q [] into all = tt
all-mapped f P Q (x ∷ xs) into all = (into x all.0, all-mapped f P Q xs into all.1)

all-first_places : (P : Row → Type 0) (rows : List Row) → AllByRecursion P rows → AllByRecursion P (first_places nat_cmp rows)
all-first_places P [] all = tt
all-first_places P (r ∷ rows) all = (all.0, all-weaker _ P _ (λ q h. h.0) (all-filtered P (λ q. not (same_row nat_cmp r q)) (first_places nat_cmp rows) (all-first_places P rows all.1)))

-- rows that are all r add nothing to r
any-same : (q r : Row) (rows : List Row) → AllByRecursion (λ s. s ≡ r) rows → (same_row nat_cmp q r || list_any (same_row nat_cmp q) rows) ≡ same_row nat_cmp q r
any-same q r [] all = or_false (same_row nat_cmp q r) where
  or_false : (b : Bool) → (b || false) ≡ b
  or_false true = refl
  or_false false = refl
any-same q r (s ∷ rows) all = (λ j. same_row nat_cmp q r || (same_row nat_cmp q (all.0 j) || list_any (same_row nat_cmp q) rows)) ∙ absorb (same_row nat_cmp q r) (list_any (same_row nat_cmp q) rows) ∙ any-same q r rows all.1 where
  absorb : (a b : Bool) → (a || (a || b)) ≡ (a || b)
  absorb true b = refl
  absorb false b = refl

module _ (columns : List (Option ℕ)) (old new : List (List ℕ)) (a : List ℕ) where
  found-all : IsFound (tells columns false) old new a → IsPermutation (map (row_of columns) old) (row_of columns a ∷ map (row_of columns) new)
  found-all h = IsPermutation-map (row_of columns) old (a ∷ new) (subst (λ others. IsPermutation old (a ∷ (others ++ new))) (h.none (λ l. refl)) h.are)

  found-distinct : IsFound (tells columns true) old new a → IsPermutation (first_places nat_cmp (map (row_of columns) old)) (row_of columns a ∷ first_places nat_cmp (map (row_of columns) new))
  found-distinct h = first_places-next nat_cmp_total nat_cmp-IsAntisymmetric (map (row_of columns) old) (row_of columns a) (map (row_of columns) new)
      (λ q.
      list_any-IsPermutation (same_row nat_cmp q) (map (row_of columns) old) (map (row_of columns) (a ∷ (h.others ++ new))) (IsPermutation-map (row_of columns) old (a ∷ (h.others ++ new)) h.are)
      ∙ ap (λ rows. same_row nat_cmp q (row_of columns a) || list_any (same_row nat_cmp q) rows) (map-append (row_of columns) h.others new)
      ∙ ap (λ t. same_row nat_cmp q (row_of columns a) || t) (list_any-append (same_row nat_cmp q) (map (row_of columns) h.others) (map (row_of columns) new))
      ∙ assoc (same_row nat_cmp q (row_of columns a)) (list_any (same_row nat_cmp q) (map (row_of columns) h.others)) (list_any (same_row nat_cmp q) (map (row_of columns) new))
      ∙ ap (λ t. t || list_any (same_row nat_cmp q) (map (row_of columns) new)) (any-same q (row_of columns a) (map (row_of columns) h.others) (all-mapped (row_of columns) _ (λ s. s ≡ row_of columns a) h.others (λ b same. row-alike columns a b same) h.alike)))
      (all-first_places _ (map (row_of columns) new) (all-mapped (row_of columns) _ (λ q. same_row nat_cmp (row_of columns a) q ≡ false) new
      (λ b differ. false_from_ne_true _ (λ e. row-apart columns a b differ.0 differ.1 differ.2 ((exact_rows nat_cmp_total nat_cmp-IsAntisymmetric).is (row_of columns a) (row_of columns b) e))) h.apart)) where
        assoc : (x y z : Bool) → (x || (y || z)) ≡ ((x || y) || z)
        assoc true y z = refl
        assoc false y z = refl

-- a solution that is found gives a row of those that are chosen from
pub found-row : (columns : List (Option ℕ)) (distinct : Bool) (old new : List (List ℕ)) (a : List ℕ) → IsFound (tells columns distinct) old new a → IsPermutation (chosen_rows nat_cmp distinct (map (row_of columns) old)) (row_of columns a ∷ chosen_rows nat_cmp distinct (map (row_of columns) new))
found-row columns false old new a h = found-all columns old new a h
found-row columns true old new a h = found-distinct columns old new a h

pub no-rows : (columns : List (Option ℕ)) (distinct : Bool) (T : List (List ℕ)) → T ≡ [] → chosen_rows nat_cmp distinct (map (row_of columns) T) ≡ []
no-rows columns true T e = ap (λ T. first_places nat_cmp (map (row_of columns) T)) e
no-rows columns false T e = ap (map (row_of columns)) e

-- `n` rows were left out of the old ones
pub record AreLeftOut (old now : List Row) (n : ℕ) : Type 0 where
  pub left : List Row
  pub number : length left ≡ n
  pub are : IsPermutation old (left ++ now)

pub left_out-more : (old now : List Row) (n : ℕ) (r : Row) (next : List Row) → AreLeftOut old now n → IsPermutation now (r ∷ next) → AreLeftOut old next (n + 1)
left_out-more old now n r next h more = record {
  left = h.left ++ r ∷ [];
  number = let long = length-append h.left (r ∷ []) in let e = h.number in omega (arith, long, e);
  are = IsPermutation-trans old (h.left ++ now) ((h.left ++ r ∷ []) ++ next) h.are
      (subst (IsPermutation (h.left ++ now)) (sym (append_assoc h.left (r ∷ []) next)) (IsPermutation-append_right h.left now (r ∷ next) more));
}

pub left_out-all : (old now : List Row) (n : ℕ) → AreLeftOut old now n → now ≡ [] → length old ≡ n
left_out-all old now n h none =
    let long = length_permutation old (h.left ++ now) h.are in
    let both = length-append h.left now in
    let nothing = ap length none in
    let e = h.number in
    omega (arith, long, both, nothing, e)
