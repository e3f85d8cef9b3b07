-- The longest token so far, while one is read.
use Rattle.std.specs.Prelude.{◌≡◌, ℕ, List, Option, Some, None}
use Rattle.query_tokens.specs.Tokens.{Kind}
use denote.Ref.{Bor}
use Rattle.query_lex.specs.Kinds.{kind_of}
use Rattle.query_lex.specs.Reading.{IsBehind}
use Rattle.query_lex.specs.declared.token.TokenKind.{TokenKind}

-- what was found is a kind, with what stands behind so many characters of the text
abbrev pub IsFound : List ℕ → Option (TokenKind × Bor (List ℕ)) → Option (Kind × ℕ) → Type 0
IsFound text None best = best ≡ None
IsFound text (Some found) best = (n : ℕ) × (best ≡ Some (kind_of found.0, n)) × IsBehind text n found.1.now

-- what is found once this was read, where it has a kind or has none
abbrev pub IsBetter : Option Kind → List ℕ → Option (TokenKind × Bor (List ℕ)) → Option (TokenKind × Bor (List ℕ)) → Type 0
IsBetter kind rest found None = (kind ≡ None) × (found ≡ None)
IsBetter None rest found (Some better) = found ≡ Some better
IsBetter (Some kind) rest found (Some better) = (kind_of better.0 ≡ kind) × (better.1.now ≡ rest)
