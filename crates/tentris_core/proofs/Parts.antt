-- A text of which a front was written.
use Rattle.std.proofs.Common.{◌≡◌, ◌∙◌, ℕ, List, [], ◌∷◌, ◌++◌, refl, ap, append_assoc}
use Rattle.std.specs.Prelude.{None, Some}
use Rattle.std.specs.declared.option.Option.{Option}
use Rattle.std.specs.Io.KnownBytes.{append_known}
use Rattle.tn_io.specs.Known.{Begins}
use Rattle.tentris_core.specs.Puts.{IsPart}

-- a front that grew, and still begins the whole: what it grew by begins the rest
pub part_of : (a b : Option (List ℕ)) (text : List ℕ) → Begins a b → Begins b (append_known a text) → IsPart a b text
part_of None None text p q = ([], text, refl, refl)
part_of None (Some b) text p q = absurd p
part_of (Some a) None text p q = absurd p
part_of (Some a) (Some b) text p q = (p.0, q.0, front_gone a text (p.0 ++ q.0) (q.1 ∙ ap (λ z. z ++ q.0) p.1 ∙ append_assoc a p.0 q.0), ap Some p.1) where
  front_gone : (a xs ys : List ℕ) → a ++ xs ≡ a ++ ys → xs ≡ ys
  front_gone [] xs ys e = e
  front_gone (z ∷ a) xs ys e = front_gone a xs ys (let t : a ++ xs ≡ a ++ ys = cc in t)
