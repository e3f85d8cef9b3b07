-- A query without OFFSET and LIMIT, and the texts of all its rows.
use Rattle.std.specs.Prelude.{◌≡◌, ℕ, List, map}
use Rattle.rdf_model.specs.Terms.{Text, Term}
use Rattle.rdf_model.specs.Graph.{Graph}
use Rattle.query_grammar.specs.Meaning.{Query}
use Rattle.query_plan.specs.declared.query.Query as plan
use Rattle.query_plan.specs.Seen.{query_seen}
use Rattle.bag_model.specs.Listings.{Listing, MayGive}
use Rattle.run_model.specs.Answers.{Listed, answer_text}
use Rattle.solution_model.specs.Answers.{IsAnswerTo, sorted_answer}
use Rattle.solution_model.specs.AnswerLaws.{unlimited}
use Rattle.solution_model.specs.Rows.{Row}
use Rattle.solution_model.specs.Texts.{row_text}
use Rattle.sorted_rows.specs.declared.cut.Cut.{Cut}

-- the query q without OFFSET and LIMIT, and these two
pub record IsUncut (q : Query) (uncut : plan.Query) (cut : Cut) : Type 0 where
  pub whole : query_seen uncut ≡ unlimited q
  pub offset : cut.offset ≡ q.offset
  pub limit : cut.limit ≡ q.limit

-- whatever the listing may give are all rows of the query over the graph, whatever its OFFSET and LIMIT
abbrev pub GivesAllRows : Query → Graph → Listing Term → Type 0
GivesAllRows q G s = (rows : List Row) → MayGive s rows → IsAnswerTo (unlimited q) G rows

-- the texts of these rows, in order
abbrev pub all_texts : Query → Graph → List Text
all_texts q G = map row_text (sorted_answer (unlimited q) G)

-- these are the texts of the rows, in order, of each query and graph all of whose rows the listing gives
abbrev pub AreAllTexts : Listing Term → List Text → Type 0
AreAllTexts s texts = (q : Query) (G : Graph) → GivesAllRows q G s → texts ≡ all_texts q G

-- what holds of the text of the sorted answer of each query that was cut so, where these are the texts of its rows
abbrev pub OfSortedAnswer : plan.Query → Cut → List Text → (List ℕ → Type 0) → Type 0
OfSortedAnswer uncut cut texts P = (q : Query) (G : Graph) → IsUncut q uncut cut → texts ≡ all_texts q G → P (answer_text (Listed q.columns (sorted_answer q G)))
