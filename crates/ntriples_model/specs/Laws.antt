-- How the two forms of the terminals agree.
use Rattle.std.specs.Prelude.{◌≡◌, ◌≤◌, ℕ, List, [], ◌++◌, length, Option, Some}
use Rattle.rdf_model.specs.Terms.{Text}

-- The function finds a terminal exactly where one begins the bytes, and then the longest.
pub record FindsLongest (IsTerminal : Text → Text → Type 0) (at : List ℕ → Option (Text × Text)) : Type 0 where
  -- what is found is a terminal that begins the bytes, with its text and the rest behind it
  pub found : (bytes text rest : List ℕ) → at bytes ≡ Some (text, rest) → (terminal : Text) × (bytes ≡ terminal ++ rest) × IsTerminal terminal text
  -- where a terminal begins the bytes, one is found that is no shorter
  pub longest : (terminal text rest : Text) → IsTerminal terminal text → (p : Text × Text) × (at (terminal ++ rest) ≡ Some p) × (length p.1 ≤ length rest)
  -- a terminal alone is found whole, and stands for one text
  pub whole : (terminal text : Text) → IsTerminal terminal text → at terminal ≡ Some (text, [])
