-- Queries of the program as queries of the definitions.
use Rattle.std.specs.Prelude.{map}
use Rattle.query_grammar.specs.Meaning as model
use Rattle.rdf_term.specs.Seen.{term_of}
use Rattle.query_plan.specs.declared.columns.Column.{Column}
use Rattle.query_plan.specs.declared.patterns.Pattern.{Pattern}
use Rattle.query_plan.specs.declared.patterns.Place.{Place}
use Rattle.query_plan.specs.declared.patterns.Place.TheVariants.{Label, Const}
use Rattle.query_plan.specs.declared.query.Query.{Query}

abbrev pub place_seen : Place → model.Place
place_seen (Label l) = model.LabelAt l
place_seen (Const t) = model.Const (term_of t)

abbrev pub pattern_seen : Pattern → model.Pattern
pattern_seen p = record { s = place_seen p.s; p = place_seen p.p; o = place_seen p.o }

abbrev pub column_seen : Column → model.Column
column_seen c = record { name = c.name; label = c.label }

abbrev pub query_seen : Query → model.Query
query_seen q = record {
  columns = map column_seen q.columns;
  labels = q.labels;
  distinct = q.distinct;
  patterns = map pattern_seen q.patterns;
  limit = q.limit;
  offset = q.offset;
}
