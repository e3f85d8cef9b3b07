-- Queries of one pattern and one column, as the test tries them.
use Rattle.std.specs.Prelude.{ℕ, zero, suc, ◌&&◌, Bool, true, nat_eq, nat_le, nat_lt, List, [], ◌∷◌, ◌++◌, Option, None, Some}
use Rattle.std.specs.List.{list_all, list_any}

abbrev pub option_labels : Option ℕ → List ℕ
option_labels None = []
option_labels (Some l) = l ∷ []

abbrev pub labels_at : Option ℕ × Option ℕ × Option ℕ → List ℕ
labels_at t = option_labels t.0 ++ (option_labels t.1 ++ option_labels t.2)

-- each number below n is one of the labels
abbrev pub has_each : ℕ → List ℕ → Bool
has_each zero ls = true
has_each (suc l) ls = list_any (nat_eq l) ls && has_each l ls

abbrev pub is_column : ℕ → Option ℕ → Bool
is_column n None = true
is_column n (Some l) = nat_lt l n

-- these are the labels of the pattern and of the column of a query with n labels
abbrev pub are_labels : ℕ → List ℕ → Option ℕ → Bool
are_labels n ls column = (nat_le n 96 && has_each n ls) && (list_all (λ l. nat_lt l n) ls && is_column n column)
