-- Which rows answer a query over a graph: DISTINCT, OFFSET and LIMIT (SPARQL 1.1, section 15).
use Rattle.std.specs.Prelude.{ℕ, List, take, drop, Option, None, Some}
use Rattle.rdf_model.specs.Graph.{Graph, term_cmp}
use Rattle.query_grammar.specs.Meaning.{Query}
use Rattle.bag_model.specs.Answers as bag
use Rattle.bag_model.specs.Answers.{IsAnswer}
use Rattle.solution_model.specs.Ordered.{ordered_by}
use Rattle.solution_model.specs.Rows.{Row, all_rows}
use Rattle.solution_model.specs.Texts.{row_text}

-- the rows of all solutions, or under DISTINCT each of these rows at its first place alone
unfoldable pub chosen_rows : Query → Graph → List Row
chosen_rows q G = bag.chosen_rows term_cmp q.distinct (all_rows q G)

-- the rows answer the query over the graph: as many of the chosen ones as OFFSET and LIMIT leave, in any order
abbrev pub IsAnswerTo : Query → Graph → List Row → Type 0
IsAnswerTo q G rows = IsAnswer q.limit q.offset (chosen_rows q G) rows

-- without the first ones that OFFSET counts, and of the rest as many as LIMIT says
abbrev pub cut : {X : Type 0} → Option ℕ → ℕ → List X → List X
cut None offset xs = drop offset xs
cut (Some limit) offset xs = take limit (drop offset xs)

-- the answer in the order of the bytes of the rows' texts
unfoldable pub sorted_answer : Query → Graph → List Row
sorted_answer q G = cut q.limit q.offset (ordered_by row_text (chosen_rows q G))
