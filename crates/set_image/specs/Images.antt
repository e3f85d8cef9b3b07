-- The image of a finite set under a function, and functions that are one to one on a set.
use Rattle.std.specs.Prelude.{◌≡◌, true, map}
use Rattle.std.specs.declared.cmp.Ordering.{Ordering}
use Rattle.std.specs.FinSet as set

-- what the function gives of the members, as a set in the order P
unfoldable pub image : {X Y : Type 0} {Q : X → X → Ordering} (P : Y → Y → Ordering) → (X → Y) → set.FinSet Q → set.FinSet P
image P f H = set.from_list (map f (set.items H))

-- no member but x has the value that x has
abbrev pub IsAloneIn : {X Y : Type 0} {Q : X → X → Ordering} → (X → Y) → set.FinSet Q → X → Type 0
IsAloneIn f H x = (y : _) → set.contains H y ≡ true → f y ≡ f x → y ≡ x

-- no two members have one value
abbrev pub IsOneToOneOn : {X Y : Type 0} {Q : X → X → Ordering} → (X → Y) → set.FinSet Q → Type 0
IsOneToOneOn f H = (x : _) → set.contains H x ≡ true → IsAloneIn f H x

-- both give the same of each member
abbrev pub AgreeOn : {X Y : Type 0} {Q : X → X → Ordering} → (X → Y) → (X → Y) → set.FinSet Q → Type 0
AgreeOn f g H = (x : _) → set.contains H x ≡ true → f x ≡ g x
