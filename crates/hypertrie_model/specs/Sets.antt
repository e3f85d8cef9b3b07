-- Finite sets of tuples. A tuple is a list of elements in a total order, and tuples are ordered element by element.
use Rattle.std.specs.Prelude.{◌≡◌, ℕ, Bool, true, List, [], ◌∷◌, length}
use Rattle.std.specs.declared.cmp.Ordering.{Ordering}
use Rattle.std.specs.Cmp.Lexicographic.{slice_cmp}
use Rattle.std.specs.FinSet as set

-- a finite set of tuples over the elements that R orders
abbrev pub TupleSet : {A : Type 0} → (A → A → Ordering) → Type 0
TupleSet R = set.FinSet (slice_cmp R)

-- whether the tuple is in the set
abbrev pub has : {A : Type 0} {Q : List A → List A → Ordering} → set.FinSet Q → List A → Bool
has H t = set.contains H t

-- the set of no tuple
abbrev pub empty : {A : Type 0} (R : A → A → Ordering) → TupleSet R
empty R = set.empty

-- the set of one tuple
abbrev pub single : {A : Type 0} (R : A → A → Ordering) → List A → TupleSet R
single R t = set.from_list (t ∷ [])

-- every tuple of the set has this many places
abbrev pub HasDepth : {A : Type 0} {Q : List A → List A → Ordering} → ℕ → set.FinSet Q → Type 0
HasDepth d H = (t : List _) → has H t ≡ true → length t ≡ d
