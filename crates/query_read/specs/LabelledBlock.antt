-- The labels of patterns, by the numbers of names.
use Rattle.std.specs.Prelude.{◌≡◌, ℕ, ◌<◌, true, nat_eq, List, [], ◌∷◌, ◌++◌, length}
use Rattle.std.specs.List.{AllByRecursion, list_any}
use Rattle.query_grammar.specs.Meaning.{Name, Place, LabelAt, Const, Pattern}

abbrev pub place_labels : Place → List ℕ
place_labels (LabelAt l) = l ∷ []
place_labels (Const t) = []

abbrev pub labels_of : Pattern → List ℕ
labels_of p = place_labels p.s ++ (place_labels p.p ++ place_labels p.o)

-- a label stands in one of the patterns
abbrev pub IsLabelIn : List Pattern → ℕ → Type 0
IsLabelIn ps l = list_any (λ p. list_any (nat_eq l) (labels_of p)) ps ≡ true

abbrev pub AllStanding : (ℕ → Type 0) → List Pattern → Type 0
AllStanding R ps = AllByRecursion (λ p. AllByRecursion R (labels_of p)) ps

-- of a block and its patterns, with the names of its tokens
pub record IsLabelledBlock (names : List Name) (ps : List Pattern) : Type 0 where
  pub each : (l : ℕ) → l < length names → IsLabelIn ps l
  pub places : AllStanding (λ l. l < length names) ps
