-- What the lists of solutions and of rows are.
use Rattle.std.specs.Prelude.{◌≡◌, ◌↔◌, ℕ, true, List, Option}
use Rattle.std.specs.List.{AllByRecursion, IsDistinct, list_any}
use Rattle.std.specs.List.Sorted.{IsPermutation}
use Rattle.std.specs.Ordering.{nat_cmp}
use Rattle.hypertrie_model.specs.Sets.{has}
use Rattle.bag_model.specs.Answers.{IsAnswer}
use Rattle.bag_model.specs.Solutions.{Rest, image, solutions, all_rows, IsUniverse, HaveLabels}
use Rattle.bag_model.specs.SolutionLaws.{same_assignment, is_assignment, same_element}

-- an assignment is listed exactly where its elements are of u and each pattern has its image
abbrev pub ListsSolutions : Type 0
ListsSolutions = (u : List ℕ) (n : ℕ) (rests : List (Rest nat_cmp)) (a : List ℕ) → (list_any (same_assignment nat_cmp a) (solutions nat_cmp u n rests) ≡ true) ↔ ((is_assignment nat_cmp u n a ≡ true) × AllByRecursion (λ r. has r.tuples (image a r.labels) ≡ true) rests)

-- and it is listed once
abbrev pub ListsEachOnce : Type 0
ListsEachOnce = (u : List ℕ) (n : ℕ) (rests : List (Rest nat_cmp)) → IsDistinct (same_element nat_cmp) u → IsDistinct (same_assignment nat_cmp) (solutions nat_cmp u n rests)

-- all elements that stand in the patterns give the same rows, whichever others are gone through
abbrev pub AreUniversesAlike : Type 0
AreUniversesAlike = (u v : List ℕ) (n : ℕ) (rests : List (Rest nat_cmp)) (columns : List (Option ℕ)) → IsUniverse nat_cmp u rests → IsUniverse nat_cmp v rests → HaveLabels nat_cmp n rests → IsPermutation (all_rows nat_cmp u n rests columns) (all_rows nat_cmp v n rests columns)

-- some rows are an answer, whatever limit and offset are
abbrev pub IsAnswered : Type 0
IsAnswered = (limit : Option ℕ) (offset : ℕ) (chosen : List (List (Option ℕ))) → (rows : List (List (Option ℕ))) × IsAnswer limit offset chosen rows
