-- The cuts of a text by productions, and the laws of lines.
use Rattle.std.specs.Prelude.{◌≡◌, ◌≢◌, ◌↔◌, ℕ, false, List, [], ◌∷◌, ◌++◌, ⊤}
use Rattle.std.specs.List.{list_any}
use Rattle.text_lines.specs.Lines.{Cuts, Ended, Last, Line, is_end, cuts_after, lines_of, whole_lines_of}

-- a line has no end within
abbrev pub HasNoEnd : List ℕ → Type 0
HasNoEnd line = list_any is_end line ≡ false

abbrev pub NoLfFirst : List ℕ → Type 0
NoLfFirst [] = ⊤
NoLfFirst (b ∷ bs) = b ≢ 10

-- text ::= line (LF | CR LF | CR, where no LF follows) text | line
pub data IsCut : List ℕ → Cuts → Type 0 where
  last : (line : List ℕ) → HasNoEnd line → IsCut line (Last line)
  by_lf : (line bs : List ℕ) (cuts : Cuts) → HasNoEnd line → IsCut bs cuts → IsCut (line ++ 10 ∷ bs) (Ended line cuts)
  by_cr_lf : (line bs : List ℕ) (cuts : Cuts) → HasNoEnd line → IsCut bs cuts → IsCut (line ++ 13 ∷ 10 ∷ bs) (Ended line cuts)
  by_cr : (line bs : List ℕ) (cuts : Cuts) → HasNoEnd line → NoLfFirst bs → IsCut bs cuts → IsCut (line ++ 13 ∷ bs) (Ended line cuts)

-- The function from the front cuts a text as the productions do.
abbrev pub CutsAreProductions : Type 0
CutsAreProductions = (bs : List ℕ) (cuts : Cuts) → IsCut bs cuts ↔ (cuts_after false bs ≡ cuts)

-- The whole lines of a front stay, however the text goes on: they begin its whole lines and its lines.
abbrev pub WholeLinesStay : Type 0
WholeLinesStay =
    (front behind : List ℕ) → ((more : List Line) × (whole_lines_of (front ++ behind) ≡ whole_lines_of front ++ more))
    × ((more : List Line) × (lines_of (front ++ behind) ≡ whole_lines_of front ++ more))
