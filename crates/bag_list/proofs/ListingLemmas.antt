-- A listing row by row.
use Rattle.std.specs.Prelude.{◌≡◌, ℕ, ◌+◌, ◌-◌, ◌≤◌, min, List, [], ◌∷◌, ◌++◌, length, Option, None, Some}
use Rattle.std.proofs.Common.{sym, ◌∙◌, ap, subst, arith, append_assoc}
use Rattle.std.proofs.lemmas.List.{length-append}
use Rattle.std.proofs.lemmas.List.Sorted.{IsPermutation-append_comm, IsPermutation-append_left, IsPermutation-append_right, IsPermutation-trans, length_permutation}
use Rattle.std.specs.List.Sorted.{IsPermutation}
use Rattle.bag_model.specs.Answers.{IsAnswer, n_given}
use Rattle.bag_model.specs.AnswerLaws.{answer-first, answer-first_limited, answer-none}
use Rattle.bag_list.specs.Listing.{IsOneLess}
use Rattle.bag_list.specs.Rows.{Row}
use Rattle.bag_list.proofs.Places.{permutation-equal}

-- no row is given where the limit is 0, or no more are there than are left out
pub none-limited : (limit : Option ℕ) (offset : ℕ) (rows : List Row) → limit ≡ Some 0 → IsAnswer limit offset rows []
none-limited limit offset rows e = answer-none limit offset rows (ap (λ l. n_given l offset (length rows)) e ∙ (let z : min 0 (length rows - offset) ≡ 0 = omega arith in z))

pub none-left : (limit : Option ℕ) (offset : ℕ) (rows : List Row) → length rows ≤ offset → IsAnswer limit offset rows []
none-left limit offset rows few = answer-none limit offset rows (nothing limit) where
  nothing : (limit : Option ℕ) → n_given limit offset (length rows) ≡ 0
  nothing None = omega (arith, few)
  nothing (Some n) = omega (arith, few)

pub none-there : (limit : Option ℕ) (offset : ℕ) (rows : List Row) → rows ≡ [] → IsAnswer limit offset rows []
none-there limit offset rows e = none-left limit offset rows (let n = ap length e in omega (arith, n))

-- rows behind those that are left out
answer-behind : (limit : Option ℕ) (all left rows given : List Row) → IsPermutation all (left ++ rows) → IsAnswer limit 0 rows given → IsAnswer limit (length left) all given
answer-behind limit all left rows given same a = record {
  number = a.number ∙ counts limit;
  others = left ++ a.others;
  are = IsPermutation-trans all _ _ same
      (IsPermutation-trans _ _ _ (IsPermutation-append_right left rows (given ++ a.others) a.are)
      (permutation-equal ((left ++ given) ++ a.others) _ ((given ++ left) ++ a.others) _ (sym (append_assoc left given a.others)) (sym (append_assoc given left a.others))
      (IsPermutation-append_left a.others (left ++ given) (given ++ left) (IsPermutation-append_comm left given))));
} where
  long : length all ≡ length left + length rows
  long = sym (length_permutation all (left ++ rows) same) ∙ length-append left rows

  counts : (limit : Option ℕ) → n_given limit 0 (length rows) ≡ n_given limit (length left) (length all)
  counts None = let n = long in omega (arith, n)
  counts (Some m) = ap (min m) (let e : length rows - 0 ≡ length all - length left = (let n = long in omega (arith, n)) in e)

module _ (limit less : Option ℕ) (offset : ℕ) (all left rows : List Row) (row : Row) (behind : List Row) (n_left : length left ≡ offset) (same : IsPermutation all (left ++ rows)) (first : IsPermutation rows (row ∷ behind)) (one : IsOneLess limit less) where
  -- a row is given
  pub answer-row : (given : List Row) → IsAnswer less 0 behind given → IsAnswer limit offset all (row ∷ given)
  answer-row given a = subst (λ o. IsAnswer limit o all (row ∷ given)) n_left (answer-behind limit all left rows (row ∷ given) same (here limit less one a)) where
    here : (limit less : Option ℕ) → IsOneLess limit less → IsAnswer less 0 behind given → IsAnswer limit 0 rows (row ∷ given)
    here None None e a = answer-first rows row behind given first a
    here None (Some m) e a = absurd e
    here (Some n) None e a = absurd e
    here (Some n) (Some m) e a = subst (λ l. IsAnswer (Some l) 0 rows (row ∷ given)) (sym e) (answer-first_limited m rows row behind given first a)

  pub answer-some : IsAnswer limit offset all [] → ⊥
  answer-some a = none limit less one a.number where
    long : length all ≡ offset + (1 + length behind)
    long =
        let one = length_permutation all (left ++ rows) same in
        let two = length_permutation rows (row ∷ behind) first in
        let both = length-append left rows in
        let n = n_left in
        omega (arith, one, two, both, n)

    none : (limit less : Option ℕ) → IsOneLess limit less → 0 ≡ n_given limit offset (length all) → ⊥
    none None None e n = let m = long in omega (arith, n, m)
    none None (Some m) e n = absurd e
    none (Some k) None e n = absurd e
    none (Some k) (Some m) e n = let l = long in omega (arith, n, l, e)
