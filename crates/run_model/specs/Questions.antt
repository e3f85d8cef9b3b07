-- What a query answers over a graph, and why it is refused (docs/SCRIPT.md, "Refusals").
use Rattle.std.specs.Prelude.{◌≡◌, Bool, true, List, Option, Some, None}
use Rattle.rdf_model.specs.Terms.{Text}
use Rattle.rdf_model.specs.Graph.{Graph}
use Rattle.query_grammar.specs.Meaning as query
use Rattle.query_grammar.specs.Meaning.{Query, query_of}
use Rattle.solution_model.specs.Answers.{IsAnswerTo, sorted_answer}
use Rattle.solution_model.specs.Rows.{Row}
use Rattle.run_model.specs.Answers.{Refusal, NoQuery, NoPrefix, IsLarge, IsLong, Answer, Listed}

-- why the text of a query is refused, by its first fault
abbrev pub fault_refusal : query.Answer → Option Refusal
fault_refusal query.NotQuery = Some NoQuery
fault_refusal query.NoPrefix = Some NoPrefix
fault_refusal query.TooManyPatterns = Some IsLarge
fault_refusal query.TooManyColumns = Some IsLarge
fault_refusal query.TooLarge = Some IsLarge
fault_refusal (query.IsQuery q) = None

-- the same where the text may be too long
abbrev pub question_refusal : Option Text → Option Refusal
question_refusal None = Some IsLong
question_refusal (Some text) = fault_refusal (query_of text)

-- The rows of a query answer it over the graph; where rows are sorted, they are the sorted answer.
pub record AnswersQuestion (sorted : Bool) (G : Graph) (question : Option Text) (a : Answer) : Type 0 where
  pub text : Text
  pub short : question ≡ Some text
  pub q : Query
  pub reads : query_of text ≡ query.IsQuery q
  pub rows : List Row
  pub answers : IsAnswerTo q G rows
  pub in_order : sorted ≡ true → rows ≡ sorted_answer q G
  pub is : a ≡ Listed q.columns rows
