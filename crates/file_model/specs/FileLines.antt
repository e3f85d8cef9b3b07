-- The lines of a file that may have at most so many bytes.
use Rattle.std.specs.Prelude.{◌≡◌, ℕ, nat_le, List, ◌++◌, length, take, if◌then◌else◌}
use Rattle.text_lines.specs.Lines.{Line, lines_of, whole_lines_of}

-- What a reader finds in a file: all its lines; or that it has more bytes than it may have, behind the lines that are
-- whole in its first bytes, as many as it may have.
pub data FileText : Type 0 where
  All : (lines : List Line) → FileText
  Long : (before : List Line) → FileText

abbrev pub file_lines : ℕ → List ℕ → FileText
file_lines max bytes = if nat_le (length bytes) max then All (lines_of bytes) else Long (whole_lines_of (take max bytes))

-- the bytes of a file begin with these
abbrev pub BeginsWith : List ℕ → List ℕ → Type 0
BeginsWith front bytes = (rest : List ℕ) × (bytes ≡ front ++ rest)
