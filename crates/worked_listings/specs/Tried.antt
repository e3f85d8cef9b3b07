-- Queries of patterns with three labels each, as the tests try them.
use Rattle.std.specs.Prelude.{ℕ, zero, suc, ◌&&◌, Bool, true, nat_eq, nat_le, nat_lt, List, [], ◌∷◌, Option, None, Some}
use Rattle.std.specs.List.{list_all, list_any}
use Rattle.query_plan.specs.declared.patterns.Pattern.{Pattern}
use Rattle.query_plan.specs.declared.patterns.Place.TheVariants.{Label}
use Rattle.bag_list.specs.declared.track.Start.{Start}

abbrev pub three : ℕ × ℕ × ℕ → List ℕ
three t = t.0 ∷ t.1 ∷ t.2 ∷ []

abbrev pub pattern_of : ℕ × ℕ × ℕ → Pattern
pattern_of t = record { s = Label t.0; p = Label t.1; o = Label t.2 }

abbrev pub start_of : {O : Type 0} → O → ℕ × ℕ × ℕ → Start O
start_of o t = record { op = Some o; labels = Some t.0 ∷ Some t.1 ∷ Some t.2 ∷ [] }

-- each number below n is a label of some pattern
abbrev pub has_each : ℕ → List (ℕ × ℕ × ℕ) → Bool
has_each zero ts = true
has_each (suc l) ts = list_any (λ t. list_any (nat_eq l) (three t)) ts && has_each l ts

abbrev pub is_column : ℕ → Option ℕ → Bool
is_column n None = true
is_column n (Some l) = nat_lt l n

-- these are the labels of patterns and of columns of a query with n labels
abbrev pub are_labels : ℕ → List (ℕ × ℕ × ℕ) → List (Option ℕ) → Bool
are_labels n ts columns = (nat_le n 96 && has_each n ts) && (list_all (λ t. list_all (λ l. nat_lt l n) (three t)) ts && list_all (is_column n) columns)
