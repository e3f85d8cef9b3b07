-- What holds of the rows of queries, of answers and of texts of rows.
use Rattle.std.specs.Prelude.{◌≡◌, ℕ, ◌<◌, Bool, true, List, IsPermutation, length, map, IfSome}
use Rattle.std.specs.List.{AllByRecursion, list_all}
use Rattle.std.specs.List.Sorted.{IsSorted}
use Rattle.std.specs.Ordering.{nat_cmp}
use Rattle.hypertrie_model.specs.Sets.{has}
use Rattle.rdf_model.specs.Terms.{Text, Term}
use Rattle.rdf_model.specs.Graph.{Graph, term_cmp}
use Rattle.ntriples_model.specs.Proper.{IsProper}
use Rattle.tuple_image.specs.TupleImages.{IsOneToOneWhere}
use Rattle.rdf_model.specs.Sorting.{text_cmp}
use Rattle.query_grammar.specs.Meaning.{Query, Pattern}
use Rattle.bag_model.specs.Answers as bag
use Rattle.bag_model.specs.Solutions as numbered
use Rattle.bag_model.specs.Solutions.{Rest, image, IsUniverse}
use Rattle.solution_model.specs.Answers.{IsAnswerTo, chosen_rows, cut, sorted_answer}
use Rattle.solution_model.specs.AnswerLaws.{unlimited}
use Rattle.solution_model.specs.Labels.{IsLabelled}
use Rattle.solution_model.specs.Reading.{read_row, AreRead}
use Rattle.solution_model.specs.Rests.{pattern_labels, rest_of}
use Rattle.solution_model.specs.Rows.{Row, has_image, column_labels, all_rows}
use Rattle.solution_model.specs.Texts.{row_text}

-- The image of a pattern is in the graph exactly where that of its labels is in the slice at its constants.
abbrev pub FixesConstants : Type 0
FixesConstants = (G : Graph) (p : Pattern) (a : List Term) → AllByRecursion (λ l. l < length a) (pattern_labels p) → has_image G a p ≡ has (rest_of G p).tuples (image a (rest_of G p).labels)

-- numbers stand one to one for terms, and some patterns over numbers for those of the query
pub record StandFor (q : Query) (G : Graph) (term : ℕ → Term) (known : ℕ → Bool) (numbers : List ℕ) (rests : List (Rest nat_cmp)) : Type 0 where
  pub labelled : IsLabelled q
  pub one : IsOneToOneWhere known term
  pub known_numbers : list_all known numbers ≡ true
  pub read : AreRead nat_cmp term_cmp term known rests (map (rest_of G) q.patterns)
  pub whole : IsUniverse nat_cmp numbers rests

-- The rows over numbers are, read, the rows over the graph, and so are those that are chosen.
abbrev pub ReadsRows : Type 0
ReadsRows = (q : Query) (G : Graph) (term : ℕ → Term) (known : ℕ → Bool) (numbers : List ℕ) (rests : List (Rest nat_cmp)) → StandFor q G term known numbers rests
    → IsPermutation (all_rows q G) (map (read_row term) (numbered.all_rows nat_cmp numbers q.labels rests (column_labels q)))

abbrev pub ReadsChosenRows : Type 0
ReadsChosenRows = (q : Query) (G : Graph) (term : ℕ → Term) (known : ℕ → Bool) (numbers : List ℕ) (rests : List (Rest nat_cmp)) → StandFor q G term known numbers rests
    → IsPermutation (chosen_rows q G) (map (read_row term) (bag.chosen_rows nat_cmp q.distinct (numbered.all_rows nat_cmp numbers q.labels rests (column_labels q))))

-- each value is a proper term
abbrev pub AreProperValues : Row → Type 0
AreProperValues row = AllByRecursion (λ v. IfSome v IsProper) row

-- Of equally many columns of proper terms, the text of a row determines its values.
abbrev pub DetermineRows : Type 0
DetermineRows = (q r : Row) → length q ≡ length r → AreProperValues q → AreProperValues r → row_text q ≡ row_text r → q ≡ r

-- Each query has an answer: the one in the order of the texts.
abbrev pub IsSortedAnswer : Type 0
IsSortedAnswer = (q : Query) (G : Graph) → IsAnswerTo q G (sorted_answer q G)

-- Whatever sorts the texts of all rows and cuts them gives the texts of that answer.
abbrev pub SortsToAnswer : Type 0
SortsToAnswer = (q : Query) (G : Graph) (rows : List Row) (texts : List Text) → IsAnswerTo (unlimited q) G rows → IsPermutation (map row_text rows) texts → IsSorted text_cmp texts
    → map row_text (sorted_answer q G) ≡ cut q.limit q.offset texts
