-- What a listing gives, from its start to its end.
use Rattle.std.specs.Prelude.{List}
use Rattle.rdf_model.specs.Terms.{Term}
use Rattle.rdf_model.specs.Graph.{Graph}
use Rattle.query_plan.specs.declared.query.Query.{Query}
use Rattle.query_plan.specs.Seen.{query_seen}
use Rattle.bag_model.specs.Listings.{Listing, MayGive, Gives, IsListed}
use Rattle.solution_model.specs.Answers.{IsAnswerTo}
use Rattle.solution_model.specs.Rows.{Row}

-- whatever the listing may give answers the query over the graph
abbrev pub GivesAnswers : Query → Graph → Listing Term → Type 0
GivesAnswers q G s = (rows : List Row) → MayGive s rows → IsAnswerTo (query_seen q) G rows

-- What a listing gives until it gives None it may give from its start, and each front of that begins what it may.
abbrev pub ListsWhole : Type 0
ListsWhole = (s t : Listing Term) (rows : List Row) → Gives s rows t → IsListed s rows t
