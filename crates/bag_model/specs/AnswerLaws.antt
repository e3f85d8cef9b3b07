-- Answers row by row.
use Rattle.std.specs.Prelude.{◌≡◌, ℕ, ◌+◌, ◌-◌, ◌≤◌, ◌&&◌, ◌||◌, Bool, true, false, not, min, List, [], ◌∷◌, ◌++◌, length, take, drop, refl, Option, None, Some}
use Rattle.std.proofs.Common.{sym, ◌∙◌, ap, subst, arith}
use Rattle.std.proofs.lemmas.Cmp.{lists_total}
use Rattle.std.proofs.lemmas.List.{length-take-le, take-append-drop}
use Rattle.std.proofs.lemmas.List.Sorted.{IsPermutation-refl, IsPermutation-cons, IsPermutation-trans, IsPermutation-middle, IsPermutation-sym, length_permutation, list_any-IsPermutation}
use Rattle.std.proofs.lemmas.Map.Keys.{IsDistinct-cons}
use Rattle.std.specs.Cmp.{IsTotalOrder}
use Rattle.std.specs.Cmp.Lexicographic.{options_total}
use Rattle.std.specs.FinSet.{IsAntisymmetric, slice_cmp-IsAntisymmetric}
use Rattle.std.specs.List.{AllByRecursion, IsDistinct, list_any}
use Rattle.std.specs.List.Sorted.{IsPermutation}
use Rattle.std.specs.Option.{option_cmp}
use Rattle.std.specs.Ordering.{eq_by_cmp}
use Rattle.std.specs.declared.cmp.Ordering.{Ordering}
use Rattle.hypertrie_model.specs.SetLaws.{tied-itself, tied-is}
use Rattle.bag_model.specs.Answers.{same_row, first_places, chosen_rows, n_given, IsAnswer}
use Rattle.bag_model.specs.ListLaws.{IsExact, flips, same_members, any-filter, distinct-filter, apart-filter}

-- equality by an exact order is exact
pub exact_order : {K : Type 0} {Q : K → K → Ordering} → IsTotalOrder Q → IsAntisymmetric Q → IsExact (λ x y. eq_by_cmp Q x y)
exact_order o exact = record { itself = tied-itself o; is = tied-is exact }

module _ {A : Type 0} {R : A → A → Ordering} (o : IsTotalOrder R) (exact : IsAntisymmetric R) where
  options_exact : IsAntisymmetric (option_cmp R)
  options_exact None None e = refl
  options_exact None (Some y) e = absurd (let f : ⊥ = cc in f)
  options_exact (Some x) None e = absurd (let f : ⊥ = cc in f)
  options_exact (Some x) (Some y) e = ap Some (exact x y e)

  pub exact_rows : IsExact (same_row R)
  exact_rows = exact_order (lists_total (options_total o)) (slice_cmp-IsAntisymmetric options_exact)

  pub any-first_places : (q : List (Option A)) (rows : List (List (Option A))) → list_any (same_row R q) (first_places R rows) ≡ list_any (same_row R q) rows
  any-first_places q [] = refl
  any-first_places q (r ∷ rows) =
      ap (λ b. same_row R q r || b) (any-filter exact_rows (λ s. not (same_row R r s)) q (first_places R rows) ∙ (λ j. any-first_places q rows j && not (flips exact_rows r q j)))
      ∙ absorbed (same_row R q r) (list_any (same_row R q) rows) where
        absorbed : (a b : Bool) → (a || (b && not a)) ≡ (a || b)
        absorbed true b = refl
        absorbed false true = refl
        absorbed false false = refl

  pub distinct-first_places : (rows : List (List (Option A))) → IsDistinct (same_row R) (first_places R rows)
  unfolding IsDistinct
  distinct-first_places [] = tt
  distinct-first_places (r ∷ rows) = IsDistinct-cons (same_row R) r _
      (apart-filter exact_rows (λ q. not (same_row R r q)) r (first_places R rows) (λ q. flipped (same_row R r q)))
      (distinct-filter exact_rows (λ q. not (same_row R r q)) (first_places R rows) (distinct-first_places rows)) where
        flipped : (b : Bool) → not b ≡ true → b ≡ false
        flipped true e = sym e
        flipped false e = refl

  -- the order of the rows makes no difference
  pub chosen-alike : (distinct : Bool) (xs ys : List (List (Option A))) → IsPermutation xs ys → IsPermutation (chosen_rows R distinct xs) (chosen_rows R distinct ys)
  chosen-alike false xs ys same = same
  chosen-alike true xs ys same = same_members exact_rows (first_places R xs) (first_places R ys)
      (λ q. any-first_places q xs ∙ list_any-IsPermutation (same_row R q) xs ys same ∙ sym (any-first_places q ys))
      (distinct-first_places xs) (distinct-first_places ys)

  -- a row, and rows without it
  pub first_places-next : (rows : List (List (Option A))) (r : List (Option A)) (rest : List (List (Option A))) → ((q : List (Option A)) → list_any (same_row R q) rows ≡ (same_row R q r || list_any (same_row R q) rest)) → AllByRecursion (λ q. same_row R r q ≡ false) (first_places R rest) → IsPermutation (first_places R rows) (r ∷ first_places R rest)
  first_places-next rows r rest same apart = same_members exact_rows (first_places R rows) (r ∷ first_places R rest)
      (λ q. any-first_places q rows ∙ same q ∙ ap (λ b. same_row R q r || b) (sym (any-first_places q rest)))
      (distinct-first_places rows) (IsDistinct-cons (same_row R) r _ apart (distinct-first_places rest))

module _ {X : Type 0} where
  pub answer-alike : (limit : Option ℕ) (offset : ℕ) (xs ys rows : List X) → IsPermutation xs ys → IsAnswer limit offset ys rows → IsAnswer limit offset xs rows
  answer-alike limit offset xs ys rows same a = record {
    number = a.number ∙ ap (n_given limit offset) (length_permutation xs ys same);
    others = a.others;
    are = IsPermutation-trans xs ys (rows ++ a.others) same a.are;
  }

  -- a row that the offset leaves out
  pub answer-left_out : (limit : Option ℕ) (offset : ℕ) (xs : List X) (x : X) (ys rows : List X) → IsPermutation xs (x ∷ ys) → IsAnswer limit offset ys rows → IsAnswer limit (offset + 1) xs rows
  answer-left_out limit offset xs x ys rows same a = record {
    number = a.number ∙ sym (ap (n_given limit (offset + 1)) (sym (length_permutation xs (x ∷ ys) same)) ∙ fewer limit);
    others = x ∷ a.others;
    are = IsPermutation-trans xs (x ∷ ys) (rows ++ x ∷ a.others) same
        (IsPermutation-trans (x ∷ ys) (x ∷ (rows ++ a.others)) (rows ++ x ∷ a.others)
        (IsPermutation-cons x ys (rows ++ a.others) a.are)
        (IsPermutation-sym (rows ++ x ∷ a.others) (x ∷ (rows ++ a.others)) (IsPermutation-middle rows x a.others)));
  } where
    fewer : (limit : Option ℕ) → n_given limit (offset + 1) (length (x ∷ ys)) ≡ n_given limit offset (length ys)
    fewer None = omega arith
    fewer (Some n) = ap (min n) (let e : length (x ∷ ys) - (offset + 1) ≡ length ys - offset = omega arith in e)

  -- the row that is given first, where no limit is set
  pub answer-first : (xs : List X) (x : X) (ys rows : List X) → IsPermutation xs (x ∷ ys) → IsAnswer None 0 ys rows → IsAnswer None 0 xs (x ∷ rows)
  answer-first xs x ys rows same a = record {
    number = let n = a.number in let m = length_permutation xs (x ∷ ys) same in omega arith;
    others = a.others;
    are = IsPermutation-trans xs (x ∷ ys) (x ∷ (rows ++ a.others)) same (IsPermutation-cons x ys (rows ++ a.others) a.are);
  }

  -- and where one is
  pub answer-first_limited : (n : ℕ) (xs : List X) (x : X) (ys rows : List X) → IsPermutation xs (x ∷ ys) → IsAnswer (Some n) 0 ys rows → IsAnswer (Some (n + 1)) 0 xs (x ∷ rows)
  answer-first_limited n xs x ys rows same a = record {
    number = let n = a.number in let m = length_permutation xs (x ∷ ys) same in omega arith;
    others = a.others;
    are = IsPermutation-trans xs (x ∷ ys) (x ∷ (rows ++ a.others)) same (IsPermutation-cons x ys (rows ++ a.others) a.are);
  }

  -- where no row is given
  pub answer-none : (limit : Option ℕ) (offset : ℕ) (xs : List X) → n_given limit offset (length xs) ≡ 0 → IsAnswer limit offset xs []
  answer-none limit offset xs none = record { number = sym none; others = xs; are = IsPermutation-refl xs }

  -- the first so many of the chosen ones are an answer
  pub some_answer : (limit : Option ℕ) (offset : ℕ) (chosen : List X) → (rows : List X) × IsAnswer limit offset chosen rows
  some_answer limit offset chosen = (
    take (n_given limit offset (length chosen)) chosen,
    record {
      number = length-take-le (n_given limit offset (length chosen)) chosen (few limit);
      others = drop (n_given limit offset (length chosen)) chosen;
      are = subst (λ xs. IsPermutation chosen xs) (sym (take-append-drop (n_given limit offset (length chosen)) chosen)) (IsPermutation-refl chosen);
    },
  ) where
    few : (limit : Option ℕ) → n_given limit offset (length chosen) ≤ length chosen
    few None = omega arith
    few (Some n) = omega arith
