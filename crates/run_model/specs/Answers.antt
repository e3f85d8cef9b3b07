-- The answers of commands and their texts (docs/SCRIPT.md, "Answers" and "Refusals"). Each line ends in LF.
use Rattle.std.specs.Prelude.{ℕ, ◌-◌, ◌^◌, Bool, true, false, List, ◌++◌, codes, decimal, length, min}
use Rattle.std.specs.List.{flat_map}
use Rattle.rdf_model.specs.Terms.{Text}
use Rattle.graph_shape.specs.GraphShapes.{Figures}
use Rattle.query_grammar.specs.Meaning.{Column}
use Rattle.solution_model.specs.Rows.{Row}
use Rattle.solution_model.specs.Texts.{header_text, row_text}

-- why a command was refused; a line by its number, from 1
pub data Refusal : Type 0 where
  NoCommand : Refusal
  NoQuery : Refusal
  BadLine : (number : ℕ) → Refusal
  NoFile : Refusal
  FullAt : (number : ℕ) → Refusal
  IsLong : Refusal
  NoPrefix : Refusal
  IsLarge : Refusal
  NoMemory : Refusal
  EndInBlock : Refusal

-- the last line of an answer; New and Gone: how many triples were added or taken away, and how many there are now
pub data Reply : Type 0 where
  New : (changed now : ℕ) → Reply
  Gone : (changed now : ℕ) → Reply
  Rows : (rows : ℕ) → Reply
  Stats : Reply
  Shape : Reply
  Dump : (lines : ℕ) → Reply

-- Done: a last line alone. Listed: the rows of a query under its columns.
pub data Answer : Type 0 where
  Done : (reply : Reply) → Answer
  Dumped : (lines : List Text) → Answer
  Counted : (figures : Figures) → Answer
  Shaped : (lines : List Text) → Answer
  Listed : (columns : List Column) (rows : List Row) → Answer
  Refused : (cause : Refusal) → Answer

abbrev pub refusal_text : Refusal → Text
refusal_text NoCommand = codes "refused 1 command\n"
refusal_text NoQuery = codes "refused 2 query\n"
refusal_text (BadLine number) = codes "refused 3 line " ++ decimal number ++ codes "\n"
refusal_text NoFile = codes "refused 4 file\n"
refusal_text (FullAt number) = codes "refused 5 full " ++ decimal number ++ codes "\n"
refusal_text IsLong = codes "refused 6 long\n"
refusal_text NoPrefix = codes "refused 7 prefix\n"
refusal_text IsLarge = codes "refused 8 size\n"
refusal_text NoMemory = codes "refused 9 memory\n"
refusal_text EndInBlock = codes "refused 10 unended\n"

abbrev pub reply_text : Reply → Text
reply_text (New changed now) = codes "ok new " ++ decimal changed ++ codes " now " ++ decimal now ++ codes "\n"
reply_text (Gone changed now) = codes "ok gone " ++ decimal changed ++ codes " now " ++ decimal now ++ codes "\n"
reply_text (Rows rows) = codes "ok rows " ++ decimal rows ++ codes "\n"
reply_text Stats = codes "ok stats\n"
reply_text Shape = codes "ok shape\n"
reply_text (Dump lines) = codes "ok dump " ++ decimal lines ++ codes "\n"

abbrev pub line_text : Text → Text
line_text line = line ++ codes "\n"

-- the figures, each on its line behind its name
abbrev pub figures_text : Figures → Text
figures_text f = codes "triples " ++ decimal f.triples ++ codes "\nterms " ++ decimal f.terms ++ codes "\ntwo " ++ decimal f.two ++ codes "\none " ++ decimal f.one ++ codes "\n"

-- a number of rows, up to the greatest one of 64 bits
abbrev pub rows_told : ℕ → ℕ
rows_told n = min n (2 ^ 64 - 1)

abbrev pub row_line : Row → Text
row_line row = line_text (row_text row)

abbrev pub answer_text : Answer → Text
answer_text (Done reply) = reply_text reply
answer_text (Dumped lines) = flat_map line_text lines ++ reply_text (Dump (length lines))
answer_text (Counted figures) = figures_text figures ++ reply_text Stats
answer_text (Shaped lines) = flat_map line_text lines ++ reply_text Shape
answer_text (Listed columns rows) = line_text (header_text columns) ++ (flat_map row_line rows ++ reply_text (Rows (rows_told (length rows))))
answer_text (Refused cause) = refusal_text cause

abbrev pub is_refused : Answer → Bool
is_refused (Done reply) = false
is_refused (Dumped lines) = false
is_refused (Counted figures) = false
is_refused (Shaped lines) = false
is_refused (Listed columns rows) = false
is_refused (Refused cause) = true
