-- The texts of a Scratch and the room that they leave.
use Rattle.std.specs.Prelude.{ℕ, ◌-◌, List, [], ◌∷◌, ◌++◌, length, sum_by}

-- the bytes that may still be added, where there is room for 2,098,176 in all
abbrev pub room_of : List (List ℕ) → ℕ
room_of texts = 2098176 - sum_by length texts

-- the texts, the last of them with a piece behind it
abbrev pub joined : List (List ℕ) → List ℕ → List (List ℕ)
joined [] piece = []
joined (text ∷ []) piece = (text ++ piece) ∷ []
joined (text ∷ next ∷ texts) piece = text ∷ joined (next ∷ texts) piece
