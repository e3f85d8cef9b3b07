-- What a reader has yet to tell of a file, and what it has told of the bytes taken from it.
use Rattle.std.specs.Prelude.{◌≡◌, ◌⊎◌, ℕ, ◌+◌, ◌-◌, Bool, true, false, List, [], ◌++◌, length, take}
use Rattle.std.specs.declared.option.Option.{Option}
use Rattle.text_lines.specs.Lines.{Line, lines_of, whole_lines_of}
use Rattle.file_model.specs.FileMap.{FileMap, OfFile}
use Rattle.file_model.specs.FileLines.{All, BeginsWith, file_lines}
use Rattle.tn_io.specs.CutterState as cutter
use Rattle.tn_io.specs.CutterState.{to_come, whole_to_come, fresh}

-- max: how many bytes a file may have; cutter: what has come of the next line; ahead: the bytes that were taken and aren't
-- cut into lines yet; place: how many bytes were taken; ended: the last line was told
pub record ReaderState : Type 0 where
  pub max : ℕ
  pub cutter : cutter.State
  pub ahead : List ℕ
  pub place : ℕ
  pub ended : Bool

abbrev pub at_start : ℕ → ReaderState
at_start max = record { max = max; cutter = fresh; ahead = []; place = 0; ended = false }

-- 1 where it is not yet so
abbrev pub not_yet : Bool → ℕ
not_yet true = 0
not_yet false = 1

-- no more lines than this are still to come
abbrev pub to_go : ReaderState → ℕ
to_go s = length s.ahead + (s.max - s.place) + not_yet s.ended

-- no more reads than this are still to be made
abbrev pub to_read : ReaderState → ℕ
to_read s = s.max + 1 - s.place

-- The bytes taken begin the file's, and count up to the greatest number of bytes. What was told begins their lines, and
-- the rest is still to come.
pub record IsOpen (files : Option FileMap) (name : List ℕ) (s : ReaderState) (taken : List ℕ) (told : List Line) : Type 0 where
  pub open_yet : s.ended ≡ false
  pub place : length taken ≡ s.place
  pub front : (taken ≡ []) ⊎ OfFile files name (BeginsWith taken)
  pub whole : (rest : List ℕ) → whole_lines_of (take s.max taken ++ rest) ≡ told ++ whole_to_come s.cutter (s.ahead ++ rest)
  pub lines : (rest : List ℕ) → lines_of (take s.max taken ++ rest) ≡ told ++ to_come s.cutter (s.ahead ++ rest)

-- the bytes taken are those of the file, and all its lines were told
pub record IsEnded (files : Option FileMap) (name : List ℕ) (s : ReaderState) (taken : List ℕ) (told : List Line) : Type 0 where
  pub closed : s.ended ≡ true
  pub whole : OfFile files name (λ bytes. bytes ≡ taken)
  pub lines : file_lines s.max taken ≡ All told

-- The lines told are those of the bytes taken of the file, as far as the reader has come.
abbrev pub HasTold : Option FileMap → List ℕ → ReaderState → List ℕ → List Line → Type 0
HasTold files name s taken told = IsOpen files name s taken told ⊎ IsEnded files name s taken told
