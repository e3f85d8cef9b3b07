-- Each query has answers; the one in order is one, and whatever sorts the texts of all rows gives its texts.
use Rattle.std.specs.Prelude.{◌≡◌, ℕ, zero, suc, min, List, [], ◌∷◌, ◌++◌, length, take, drop, map, refl, Option, None, Some}
use Rattle.std.proofs.Common.{sym, ◌∙◌, ap, subst, arith, append_assoc}
use Rattle.std.proofs.lemmas.List.{append-nil, length-append, length-take, length-drop, take-append-drop}
use Rattle.std.proofs.lemmas.List.Sorted.{IsPermutation-trans, IsPermutation-append_comm, IsPermutation-map, length_permutation}
use Rattle.std.specs.List.Sorted.{IsPermutation, IsSorted}
use Rattle.rdf_model.specs.Terms.{Text}
use Rattle.rdf_model.specs.Graph.{Graph}
use Rattle.rdf_model.specs.Sorting.{text_cmp}
use Rattle.query_grammar.specs.Meaning.{Query}
use Rattle.bag_model.specs.Answers.{IsAnswer, n_given}
use Rattle.bag_model.specs.AnswerLaws.{answer-alike}
use Rattle.solution_model.specs.Answers.{IsAnswerTo, chosen_rows, cut, sorted_answer}
use Rattle.solution_model.specs.Ordered.{ordered_by}
use Rattle.solution_model.specs.OrderLaws.{same-ordered, sorted_texts_are}
use Rattle.solution_model.specs.Rows.{Row, all_rows}
use Rattle.solution_model.specs.Texts.{row_text}

-- the query without OFFSET and LIMIT
abbrev pub unlimited : Query → Query
unlimited q = record q { limit = None; offset = 0 }

module _ {X : Type 0} where
  length-cut : (limit : Option ℕ) (offset : ℕ) (xs : List X) → length (cut limit offset xs) ≡ n_given limit offset (length xs)
  length-cut None offset xs = length-drop offset xs
  length-cut (Some n) offset xs = length-take n (drop offset xs) ∙ ap (min n) (length-drop offset xs)

  -- what is left when the cut is taken out of the rest
  behind_cut : Option ℕ → List X → List X
  behind_cut None xs = []
  behind_cut (Some n) xs = drop n xs

  cut_and_behind : (limit : Option ℕ) (offset : ℕ) (xs : List X) → cut limit offset xs ++ behind_cut limit (drop offset xs) ≡ drop offset xs
  unfolding behind_cut
  cut_and_behind None offset xs = append-nil (drop offset xs)
  cut_and_behind (Some n) offset xs = take-append-drop n (drop offset xs)

  -- the cut of a list is an answer
  pub cut_answers : (limit : Option ℕ) (offset : ℕ) (xs : List X) → IsAnswer limit offset xs (cut limit offset xs)
  cut_answers limit offset xs = record {
    number = length-cut limit offset xs;
    others = behind_cut limit (drop offset xs) ++ take offset xs;
    are = subst (λ ys. IsPermutation ys (cut limit offset xs ++ (behind_cut limit (drop offset xs) ++ take offset xs))) (take-append-drop offset xs)
        (subst (λ ys. IsPermutation (take offset xs ++ drop offset xs) ys) (ap (λ zs. zs ++ take offset xs) (sym (cut_and_behind limit offset xs)) ∙ append_assoc (cut limit offset xs) (behind_cut limit (drop offset xs)) (take offset xs))
        (IsPermutation-append_comm (take offset xs) (drop offset xs)));
  }

  -- an answer without OFFSET and LIMIT has all rows
  pub whole_answer : (xs rows : List X) → IsAnswer None 0 xs rows → IsPermutation xs rows
  whole_answer xs rows a = subst (λ ys. IsPermutation xs ys) (ap (λ zs. rows ++ zs) (none a.others (let n = a.number in let m = length_permutation xs (rows ++ a.others) a.are in let l = length-append rows a.others in omega arith)) ∙ append-nil rows) a.are where
    none : (zs : List X) → length zs ≡ 0 → zs ≡ []
    none [] e = refl
    none (z ∷ zs) e = absurd (omega (arith, e))

pub sorted_answers : (q : Query) (G : Graph) → IsAnswerTo q G (sorted_answer q G)
unfolding sorted_answer
sorted_answers q G = answer-alike q.limit q.offset (chosen_rows q G) (ordered_by row_text (chosen_rows q G)) (cut q.limit q.offset (ordered_by row_text (chosen_rows q G)))
    (same-ordered row_text (chosen_rows q G)) (cut_answers q.limit q.offset (ordered_by row_text (chosen_rows q G)))

map-drop : {X Y : Type 0} (f : X → Y) (n : ℕ) (xs : List X) → map f (drop n xs) ≡ drop n (map f xs)
map-drop f zero xs = refl
map-drop f (suc n) [] = refl
map-drop f (suc n) (x ∷ xs) = map-drop f n xs

map-take : {X Y : Type 0} (f : X → Y) (n : ℕ) (xs : List X) → map f (take n xs) ≡ take n (map f xs)
map-take f zero xs = refl
map-take f (suc n) [] = refl
map-take f (suc n) (x ∷ xs) = ap (λ ys. f x ∷ ys) (map-take f n xs)

pub map-cut : {X Y : Type 0} (f : X → Y) (limit : Option ℕ) (offset : ℕ) (xs : List X) → map f (cut limit offset xs) ≡ cut limit offset (map f xs)
map-cut f None offset xs = map-drop f offset xs
map-cut f (Some n) offset xs = map-take f n (drop offset xs) ∙ ap (take n) (map-drop f offset xs)

pub sorted_texts : (q : Query) (G : Graph) (rows : List Row) (texts : List Text) → IsAnswerTo (unlimited q) G rows → IsPermutation (map row_text rows) texts → IsSorted text_cmp texts → map row_text (sorted_answer q G) ≡ cut q.limit q.offset texts
unfolding sorted_answer chosen_rows all_rows
sorted_texts q G rows texts a moved sorted =
    map-cut row_text q.limit q.offset (ordered_by row_text (chosen_rows q G))
    ∙ ap (cut q.limit q.offset) (sym (sorted_texts_are row_text (chosen_rows q G) texts
    (IsPermutation-trans (map row_text (chosen_rows q G)) (map row_text rows) texts (IsPermutation-map row_text (chosen_rows q G) rows (whole_answer (chosen_rows q G) rows a)) moved) sorted))
