-- The set that a finite map of sets stands for: each key of the map before each tuple of the set at that key.
use Rattle.std.specs.Prelude.{List, [], ◌∷◌, ◌++◌, Bool, false, Option, None, Some}
use Rattle.std.specs.Prelude.{map as each}
use Rattle.std.specs.declared.cmp.Ordering.{Ordering}
use Rattle.std.specs.FinMap as map
use Rattle.std.specs.FinMap.{FinMap}
use Rattle.std.specs.FinSet as set
use Rattle.hypertrie_model.specs.Sets.{TupleSet, has}

-- the same along a list of entries
abbrev pub listed : {A X : Type 0} {Q : List A → List A → Ordering} → (X → set.FinSet Q) → List (A × X) → List (List A)
listed f [] = []
listed f (e ∷ es) = each (λ t. e.0 ∷ t) (set.items (f e.1)) ++ listed f es

unfoldable pub union_over : {A X : Type 0} {R : A → A → Ordering} → FinMap R X → (X → TupleSet R) → TupleSet R
union_over m f = set.from_list (listed f (map.entries m))

-- whether the set of the value that is there has the tuple
abbrev pub has_under : {A X : Type 0} {Q : List A → List A → Ordering} → (X → set.FinSet Q) → Option X → List A → Bool
has_under f None u = false
has_under f (Some v) u = has (f v) u
