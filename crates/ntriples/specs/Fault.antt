-- Why a line is refused.
use Rattle.std.specs.Prelude.{ℕ, List, IsUtf8}
use Rattle.ntriples.specs.declared.LineFault.{LineFault}
use Rattle.ntriples.specs.declared.LineFault.TheVariants.{Utf8, Shape}

-- Utf8 where the line isn't UTF-8, and Shape where it is
abbrev pub IsFault : LineFault → List ℕ → Type 0
IsFault Utf8 line = IsUtf8 line → ⊥
IsFault Shape line = IsUtf8 line
