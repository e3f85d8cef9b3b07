-- The notation of the grammar (SPARQL 1.1, section 19.8, after XML 1.1, section 6): forms of texts, and which texts have a
-- form. A text is a list of code points.
use Rattle.std.specs.Prelude.{◌≡◌, ℕ, true, false, ◌⊎◌, List, [], ◌∷◌, ◌++◌, map}
use Rattle.ntriples_model.specs.Characters.{in_ranges}

infixr 40 ◌▸◌
infixr 30 ◌∣◌
pub data Form : Type 0 where
  -- nothing at all
  nothing : Form
  -- [a-z..]: one character that lies in a range
  one : List (ℕ × ℕ) → Form
  -- [^a-z..]: one character that lies in none
  other : List (ℕ × ℕ) → Form
  -- A B
  ◌▸◌ : Form → Form → Form
  -- A | B
  ◌∣◌ : Form → Form → Form
  -- A*
  many : Form → Form

-- texts one after the other, each of which is so
pub data IsRepeated (Is : List ℕ → Type 0) : List ℕ → Type 0 where
  none : IsRepeated Is []
  next : (first rest : List ℕ) → Is first → IsRepeated Is rest → IsRepeated Is (first ++ rest)

-- the text has the form
abbrev pub HasForm : Form → List ℕ → Type 0
HasForm nothing text = text ≡ []
HasForm (one ranges) text = (c : ℕ) × (text ≡ c ∷ []) × (in_ranges ranges c ≡ true)
HasForm (other ranges) text = (c : ℕ) × (text ≡ c ∷ []) × (in_ranges ranges c ≡ false)
HasForm (f ▸ g) text = (front : List ℕ) × (back : List ℕ) × (text ≡ front ++ back) × HasForm f front × HasForm g back
HasForm (f ∣ g) text = HasForm f text ⊎ HasForm g text
HasForm (many f) text = IsRepeated (HasForm f) text

-- What the grammar writes in short

-- A?
abbrev pub maybe : Form → Form
maybe f = f ∣ nothing

-- A+
abbrev pub some : Form → Form
some f = f ▸ many f

-- the ranges of single characters
abbrev pub each : List ℕ → List (ℕ × ℕ)
each cs = map (λ c. let r : ℕ × ℕ = (c, c) in r) cs

-- 'abc': these characters one after the other
abbrev pub word : List ℕ → Form
word [] = nothing
word (c ∷ cs) = one ((c, c) ∷ []) ▸ word cs
