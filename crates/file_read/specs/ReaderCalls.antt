-- What a call of the next line says.
use Rattle.std.specs.Prelude.{◌≡◌, ℕ, ◌≤◌, List, [], ◌∷◌, ◌++◌, length, drop, Option, Some, None, Result, Ok, Err, OnOk}
use Rattle.text_lines.specs.Lines.{Line, whole_lines_of}
use Rattle.file_model.specs.FileMap.{FileMap, OfFile, IfFile}
use Rattle.file_model.specs.FileLines as text
use Rattle.file_model.specs.FileLines.{BeginsWith, file_lines}
use Rattle.tn_io.specs.Causes.{Rose}
use Rattle.tn_io.specs.FileFaults.{FaultCounts}
use Rattle.tn_io.specs.CutterState.{line_told}
use Rattle.tn_io.specs.declared.cutter.Cut.{Cut}
use Rattle.file_read.specs.ReaderState.{ReaderState, HasTold, IsOpen}
use Rattle.file_read.specs.declared.reader.FileFault.{FileFault}
use Rattle.file_read.specs.declared.reader.FileFault.TheVariants.{Read, Long}

-- a read failed at the place behind the bytes taken, whose whole lines were all told
pub record FailedBehind (files : Option FileMap) (name : List ℕ) (s : ReaderState) (taken : List ℕ) (told : List Line) : Type 0 where
  pub place : length taken ≡ s.place
  pub within : length taken ≤ s.max
  pub front : IfFile files name (BeginsWith taken)
  pub lines : whole_lines_of taken ≡ told

-- What a call tells beside the lines told before: one more line; that these are all; that a read failed behind the whole
-- lines; that the file is too long, behind the lines that are whole in what it may have.
abbrev pub Tells : Option FileMap → List ℕ → ReaderState → List ℕ → List Line → Result (Option Cut) FileFault → Type 0
Tells files name s taken told (Ok (Some cut)) = HasTold files name s taken (told ++ line_told cut s.cutter ∷ [])
Tells files name s taken told (Ok None) = (file_lines s.max taken ≡ text.All told) × OfFile files name (λ bytes. bytes ≡ taken)
Tells files name s taken told (Err Read) = FailedBehind files name s taken told
Tells files name s taken told (Err Long) = (file_lines s.max taken ≡ text.Long told) × OfFile files name (λ bytes. file_lines s.max bytes ≡ text.Long told)

-- A call takes the bytes q from the file, and tells the next line, whatever was told of what was taken before.
pub record NextLine (files : Option FileMap) (name : List ℕ) (s t : ReaderState) (result : Result (Option Cut) FileFault) : Type 0 where
  pub q : List ℕ
  pub tells : (taken : List ℕ) (told : List Line) → HasTold files name s taken told → Tells files name t (taken ++ q) told result

-- the count of reads of the name that failed at the place is higher
abbrev pub RoseAt : FaultCounts → FaultCounts → List ℕ → ℕ → Type 0
RoseAt before now name place = Rose (before name place) (now name place)

-- No count falls. A failed read raised that of its name at the place; else none was raised.
pub record IsCounted {A : Type 0} (before now : FaultCounts) (name : List ℕ) (place : ℕ) (result : Result A FileFault) : Type 0 where
  pub later : (other : List ℕ) → (at : ℕ) → before other at ≤ now other at
  pub read : result ≡ Err Read → RoseAt before now name place
  pub told : OnOk result (now ≡ before)
  pub long : result ≡ Err Long → now ≡ before

-- A read took the bytes q, and what was told was told of all bytes taken.
pub record Takes (files : Option FileMap) (name : List ℕ) (s t : ReaderState) : Type 0 where
  pub q : List ℕ
  pub still : (taken : List ℕ) (told : List Line) → IsOpen files name s taken told → IsOpen files name t (taken ++ q) told

-- of what was taken, these lines more were told
abbrev pub TellsMore : ReaderState → ReaderState → List Line → Type 0
TellsMore s t more = (files : Option FileMap) (name taken : List ℕ) (told : List Line) → IsOpen files name s taken told → IsOpen files name t taken (told ++ more)

-- the file has no byte at this place
abbrev pub EndsAt : Option FileMap → List ℕ → ℕ → Type 0
EndsAt files name place = OfFile files name (λ bytes. drop place bytes ≡ [])
