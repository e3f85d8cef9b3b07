-- What a cutter has yet to tell of the lines of a text, when some bytes of the next line have come already.
use Rattle.std.specs.Prelude.{◌≡◌, ℕ, ◌<◌, ◌≤◌, Bool, false, List, [], ◌∷◌, ◌++◌, take, Option, Some, None, if◌then◌else◌}
use Rattle.text_lines.specs.Lines.{Line, Cuts, Ended, Last, before, cuts_after, all_lines, whole_lines, longest}
use Rattle.tn_io.specs.declared.cutter.Cut.{Cut}
use Rattle.tn_io.specs.declared.cutter.Cut.TheVariants.{Whole, TooLong}

-- line: the bytes of the next line so far, or the line that ended last; cr: the byte before was a CR;
-- told: the next line was told already, as too long; ended: the line in hand has ended
pub record State : Type 0 where
  pub line : List ℕ
  pub cr : Bool
  pub told : Bool
  pub ended : Bool

abbrev pub fresh : State
fresh = record { line = []; cr = false; told = false; ended = false }

-- the cuts behind the end of the first line
abbrev pub without_first : Cuts → Cuts
without_first (Ended line cuts) = cuts
without_first (Last behind) = Last []

-- the cuts that are left, where the text goes on with bs: those of a line that was told are left out
abbrev pub cuts_left : State → List ℕ → Cuts
cuts_left s bs = if s.told then without_first (cuts_after s.cr bs) else before (if s.ended then [] else s.line) (cuts_after s.cr bs)

-- the lines still to come, where the text ends after bs
abbrev pub to_come : State → List ℕ → List Line
to_come s bs = all_lines (cuts_left s bs)

-- the whole lines still to come in bs
abbrev pub whole_to_come : State → List ℕ → List Line
whole_to_come s bs = whole_lines (cuts_left s bs)

-- the line that a cut tells
abbrev pub line_told : Cut → State → Line
line_told Whole s = Some s.line
line_told TooLong s = None

abbrev pub told : Option Cut → State → List Line
told None s = []
told (Some cut) s = line_told cut s ∷ []

pub record IsState (len capacity : ℕ) : Type 0 where
  pub short : len ≤ longest
  pub room : longest ≤ capacity

-- The first n bytes of a piece were taken, and `cut` is what they tell: the first whole line of the piece, where it has one.
pub record Takes (old : State) (piece : List ℕ) (n : ℕ) (cut : Option Cut) (new : State) : Type 0 where
  pub lines : (rest : List ℕ) → to_come old (take n piece ++ rest) ≡ told cut new ++ to_come new rest
  pub whole : (rest : List ℕ) → whole_to_come old (take n piece ++ rest) ≡ told cut new ++ whole_to_come new rest
  pub none_earlier : (k : ℕ) → k < n → whole_to_come old (take k piece) ≡ []
  pub none_left : whole_to_come new [] ≡ []
