-- What a script has yet to tell, and what it has told of the bytes taken from its source.
use Rattle.std.specs.Prelude.{◌≡◌, ◌⊎◌, ℕ, ◌+◌, ◌≤◌, ◌<◌, Bool, true, false, List, [], ◌++◌, length, take}
use Rattle.std.specs.declared.option.Option.{Option}
use Rattle.std.specs.Io.KnownBytes.{IsAtEnd}
use Rattle.text_lines.specs.Lines.{Line, lines_of, whole_lines_of}
use Rattle.tn_io.specs.CutterState as cutter
use Rattle.tn_io.specs.CutterState.{to_come, whole_to_come, fresh}

-- cutter: what has come of the next line; ahead: the bytes that were taken and aren't cut into lines yet;
-- left: how many more bytes the script may have; over: a byte more than that was taken; ended: the last line was told
pub record ScriptState : Type 0 where
  pub cutter : cutter.State
  pub ahead : List ℕ
  pub left : ℕ
  pub over : Bool
  pub ended : Bool

abbrev pub at_start : ℕ → ScriptState
at_start max = record { cutter = fresh; ahead = []; left = max; over = false; ended = false }

-- 1 where it is not yet so
abbrev pub not_yet : Bool → ℕ
not_yet true = 0
not_yet false = 1

-- no more lines than this are still to come
abbrev pub to_go : ScriptState → ℕ
to_go s = length s.ahead + s.left + not_yet s.ended

-- no more reads than this are still to be made
abbrev pub to_read : ScriptState → ℕ
to_read s = s.left + not_yet s.over

-- Of the bytes taken, the script's own are the first max. What was told begins their lines, and the rest is still to come.
pub record IsOpen (max : ℕ) (s : ScriptState) (taken : List ℕ) (told : List Line) : Type 0 where
  pub open_yet : s.ended ≡ false
  pub whole : (rest : List ℕ) → whole_lines_of (take max taken ++ rest) ≡ told ++ whole_to_come s.cutter (s.ahead ++ rest)
  pub lines : (rest : List ℕ) → lines_of (take max taken ++ rest) ≡ told ++ to_come s.cutter (s.ahead ++ rest)
  pub room : s.over ≡ false → length taken + s.left ≡ max
  pub full : s.over ≡ true → max < length taken
  pub few : length told + to_go s ≤ max + 1

-- all lines were told, and the source has no more bytes
pub record IsEnded (max : ℕ) (left : Option (List ℕ)) (s : ScriptState) (taken : List ℕ) (told : List Line) : Type 0 where
  pub closed : s.ended ≡ true
  pub at_end : IsAtEnd left
  pub lines : lines_of taken ≡ told
  pub within : length taken ≤ max
  pub few : length told + to_go s ≤ max + 1

-- The lines told are those of the bytes taken, as far as the script has come.
abbrev pub HasTold : ℕ → Option (List ℕ) → ScriptState → List ℕ → List Line → Type 0
HasTold max left s taken told = IsOpen max s taken told ⊎ IsEnded max left s taken told
