use Rattle.query_forms.proofs.Queries.{queries_as_productions, answers_as_productions}
use Rattle.query_forms.proofs.queries_by_productions.Goals as goal

pub returns-clause-queries : goal.returns-clause-queries
returns-clause-queries c = queries_as_productions

pub returns-clause-answers : goal.returns-clause-answers
returns-clause-answers c = answers_as_productions
