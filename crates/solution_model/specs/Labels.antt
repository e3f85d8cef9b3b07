-- The labels of a query are numbered from 0, and each stands in a pattern.
use Rattle.std.specs.Prelude.{◌≡◌, ℕ, ◌<◌, true, nat_eq, IfSome}
use Rattle.std.specs.List.{AllByRecursion, list_any}
use Rattle.query_grammar.specs.Meaning.{Query}
use Rattle.solution_model.specs.Rests.{pattern_labels, AreBelow}
use Rattle.solution_model.specs.Rows.{column_labels}

-- each number below that of the labels is one in some pattern, and no other one is used
pub record IsLabelled (q : Query) : Type 0 where
  pub each : (l : ℕ) → l < q.labels → list_any (λ p. list_any (nat_eq l) (pattern_labels p)) q.patterns ≡ true
  pub places : AreBelow q.labels q.patterns
  pub columns : AllByRecursion (λ v. IfSome v (λ l. l < q.labels)) (column_labels q)
