-- The labels of a query: they are numbered from 0, and each stands in a pattern.
use Rattle.std.specs.Prelude.{◌≡◌, ℕ, ◌<◌, ◌≤◌, ◌++◌, true, nat_eq, List, [], ◌∷◌, map, Option, IfSome}
use Rattle.std.specs.List.{AllByRecursion, list_any}
use Rattle.query_plan.specs.declared.columns.Column.{Column}
use Rattle.query_plan.specs.declared.patterns.Pattern.{Pattern}
use Rattle.query_plan.specs.declared.patterns.Place.{Place}
use Rattle.query_plan.specs.declared.patterns.Place.TheVariants.{Label, Const}
use Rattle.query_plan.specs.declared.query.Query.{Query}

-- the labels of a pattern's places, in their order
abbrev pub label_of : Place → List ℕ
label_of (Label l) = l ∷ []
label_of (Const t) = []

abbrev pub pattern_labels : Pattern → List ℕ
pattern_labels p = label_of p.s ++ (label_of p.p ++ label_of p.o)

-- the label of each column, where it has one
abbrev pub column_labels : List Column → List (Option ℕ)
column_labels columns = map (λ c. c.label) columns

-- a query has at most 96 labels; each number below that of its labels is one in some pattern, and no other one is used
pub record IsLabelled (q : Query) : Type 0 where
  pub few : q.labels ≤ 96
  pub each : (l : ℕ) → l < q.labels → list_any (λ p. list_any (nat_eq l) (pattern_labels p)) q.patterns ≡ true
  pub places : AllByRecursion (λ p. AllByRecursion (λ l. l < q.labels) (pattern_labels p)) q.patterns
  pub columns : AllByRecursion (λ v. IfSome v (λ l. l < q.labels)) (column_labels q.columns)
