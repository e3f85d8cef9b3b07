-- A set of tuples changed by another: all of its tuples put in, or all taken out.
use Rattle.std.specs.Prelude.{◌≡◌, Bool, true, false, List}
use Rattle.std.specs.declared.cmp.Ordering.{Ordering}
use Rattle.std.specs.FinSet as set
use Rattle.hypertrie_model.specs.Sets.{has}

-- the set with the others put in, or taken out
abbrev pub after : {A : Type 0} {Q : List A → List A → Ordering} → Bool → set.FinSet Q → set.FinSet Q → set.FinSet Q
after true H B = set.union H B
after false H B = set.difference H B

-- what a change asks: to be put in, none of them is there; to be taken out, all are
abbrev pub IsChange : {A : Type 0} {Q : List A → List A → Ordering} → Bool → set.FinSet Q → set.FinSet Q → Type 0
IsChange true H B = (t : List _) → has B t ≡ true → has H t ≡ false
IsChange false H B = (t : List _) → has B t ≡ true → has H t ≡ true
