-- How the forms and the functions from the front agree.
use Rattle.std.specs.Prelude.{◌≡◌, ◌≤◌, ℕ, List, ◌++◌, length, take, Some}
use Rattle.query_tokens.specs.Tokens.{Kind, IsToken, IsGap}
use Rattle.query_tokens.specs.Front.{token_at, gap_at}

-- A token is found exactly where one begins the text, and then the longest.
pub record FindsTokens : Type 0 where
  pub found : (text : List ℕ) (kind : Kind) (n : ℕ) → token_at text ≡ Some (kind, n) → (n ≤ length text) × IsToken kind (take n text)
  pub longest : (kind : Kind) (token rest : List ℕ) → IsToken kind token → (found : Kind × ℕ) × (token_at (token ++ rest) ≡ Some found) × (length token ≤ found.1)

-- Blanks and comments are found as far as they go.
pub record FindsGaps : Type 0 where
  pub found : (text : List ℕ) → (gap_at text ≤ length text) × IsGap (take (gap_at text) text)
  pub longest : (gap rest : List ℕ) → IsGap gap → length gap ≤ gap_at (gap ++ rest)

-- No text is a token of two kinds.
abbrev pub OneKind : Type 0
OneKind = (kind other : Kind) (text : List ℕ) → IsToken kind text → IsToken other text → kind ≡ other
