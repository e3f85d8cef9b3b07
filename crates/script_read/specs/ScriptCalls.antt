-- What a call of the next line says.
use Rattle.std.specs.Prelude.{◌≡◌, ℕ, ◌≤◌, ◌<◌, List, [], ◌∷◌, ◌++◌, length, take, Option, Some, None, Result, Ok, Err}
use Rattle.std.specs.Io.KnownBytes.{prepend_known, IsAtEnd}
use Rattle.text_lines.specs.Lines.{Line, lines_of, whole_lines_of}
use Rattle.tn_io.specs.CutterState.{line_told}
use Rattle.tn_io.specs.declared.cutter.Cut.{Cut}
use Rattle.script_read.specs.ScriptState.{ScriptState, HasTold, IsOpen}
use Rattle.script_read.specs.declared.script.ScriptFault.{ScriptFault}
use Rattle.script_read.specs.declared.script.ScriptFault.TheVariants.{Read, TooLong}

-- What a call tells beside the lines told before: one more line; that these are all; that the whole lines were told, and
-- a read failed or the script is too long.
abbrev pub Tells : ℕ → Option (List ℕ) → ScriptState → List ℕ → List Line → Result (Option Cut) ScriptFault → Type 0
Tells max left s taken told (Ok (Some cut)) = HasTold max left s taken (told ++ line_told cut s.cutter ∷ [])
Tells max left s taken told (Ok None) = (lines_of taken ≡ told) × (length taken ≤ max) × IsAtEnd left
Tells max left s taken told (Err Read) = (whole_lines_of taken ≡ told) × (length taken ≤ max)
Tells max left s taken told (Err TooLong) = (whole_lines_of (take max taken) ≡ told) × (max < length taken)

-- A call takes the bytes q from the source, and tells the next line, whatever was told of what was taken before.
pub record NextLine (left_before left_now : Option (List ℕ)) (s t : ScriptState) (result : Result (Option Cut) ScriptFault) : Type 0 where
  pub q : List ℕ
  pub read : left_before ≡ prepend_known q left_now
  pub tells : (max : ℕ) (taken : List ℕ) (told : List Line) → HasTold max left_before s taken told → Tells max left_now t (taken ++ q) told result

-- A read took the bytes q, and what was told was told of all bytes taken.
pub record Takes (left_before left_now : Option (List ℕ)) (s t : ScriptState) : Type 0 where
  pub q : List ℕ
  pub read : left_before ≡ prepend_known q left_now
  pub still : (max : ℕ) (taken : List ℕ) (told : List Line) → IsOpen max s taken told → IsOpen max t (taken ++ q) told

-- of what was taken, these lines more were told
abbrev pub TellsMore : ScriptState → ScriptState → List Line → Type 0
TellsMore s t more = (max : ℕ) (taken : List ℕ) (told : List Line) → IsOpen max s taken told → IsOpen max t taken (told ++ more)
