-- The commands of the lines of a script (docs/SCRIPT.md, "Lines and commands").
use Rattle.std.specs.Prelude.{ℕ, ◌-◌, ◌^◌, Bool, true, false, ◌&&◌, List, [], ◌∷◌, ◌++◌, ◌==◌, length, nat_le, if◌then◌else◌, Option, Some, None, codes, reverse}
use Rattle.std.specs.List.{filter, list_all}
use Rattle.std.specs.Char.{is_ascii_digit}
use Rattle.std.specs.Str.{bytes_eq, is_utf8}
use Rattle.std.specs.Str.Parse.{digits_value}
use Rattle.text_lines.specs.Blanks.{is_blank, after_blanks}
use Rattle.text_lines.specs.Lines.{Line, longest}
use Rattle.ntriples_model.specs.Characters.{is_letter_or_digit}

-- without the blanks at both ends
abbrev pub trimmed : List ℕ → List ℕ
trimmed l = reverse (after_blanks (reverse (after_blanks l)))

-- nothing, or a comment
abbrev pub is_note : List ℕ → Bool
is_note [] = true
is_note (b ∷ bs) = b == 35

-- a line outside a block that says nothing: blanks alone, or a comment. One that is too long isn't skipped.
abbrev pub skipped : Line → Bool
skipped None = false
skipped (Some l) = is_note (trimmed l)

-- whether triples are put in or taken out
pub data Change : Type 0 where
  Inserts : Change
  Deletes : Change

-- what the lines of a block are: triples, or a query
pub data Kind : Type 0 where
  Triples : (change : Change) → Kind
  Question : Kind

-- A command that is one line. File: the triples of the lines of a file, read under a scope. Generate: so many generated
-- triples, by a salt.
pub data OneLine : Type 0 where
  File : (change : Change) (scope name : List ℕ) → OneLine
  Generate : (count salt : ℕ) → OneLine
  Dump : OneLine
  Stats : OneLine
  Shape : OneLine

-- Bad: a line outside a block that is no command form. Unended: a block that the script ends in.
pub data Command : Type 0 where
  Block : (kind : Kind) (lines : List Line) → Command
  Single : (command : OneLine) → Command
  Bad : Command
  Unended : Command

-- what a line outside a block is: the beginning of a block, or a whole command
pub data Form : Type 0 where
  Begins : (kind : Kind) → Form
  Whole : (command : OneLine) → Form

-- Words

-- the first word: the bytes before the first blank
abbrev pub word_of : List ℕ → List ℕ
word_of [] = []
word_of (b ∷ bs) = if is_blank b then [] else b ∷ word_of bs

-- what stands behind the first word and the blanks after it
abbrev pub behind_word : List ℕ → List ℕ
behind_word [] = []
behind_word (b ∷ bs) = if is_blank b then after_blanks bs else behind_word bs

-- how many bytes a scope, and how many digits a number may have; how many triples may be generated, and the greatest salt
abbrev pub longest_scope : ℕ
longest_scope = 64

abbrev pub most_digits : ℕ
most_digits = 20

abbrev pub most_generated : ℕ
most_generated = 500000000

abbrev pub greatest_salt : ℕ
greatest_salt = 2 ^ 64 - 1

-- one byte or more, and no more than these
abbrev pub has_up_to : ℕ → List ℕ → Bool
has_up_to most [] = false
has_up_to most (b ∷ bs) = nat_le (length (b ∷ bs)) most

abbrev pub is_scope : List ℕ → Bool
is_scope word = has_up_to longest_scope word && list_all is_letter_or_digit word

abbrev pub is_name : List ℕ → Bool
is_name [] = false
is_name (b ∷ bs) = is_utf8 (b ∷ bs)

abbrev pub is_number : List ℕ → Bool
is_number word = has_up_to most_digits word && list_all is_ascii_digit word

-- the number that a word writes in decimal, where it is at most so large
abbrev pub number_up_to : ℕ → List ℕ → Option ℕ
number_up_to most word = if is_number word && nat_le (digits_value 10 word) most then Some (digits_value 10 word) else None

-- The form of a text without blanks before it, or none

abbrev pub file_form : Change → List ℕ → List ℕ → Option Form
file_form change scope name = if is_name name then Some (Whole (File change scope name)) else None

-- behind SCOPE
abbrev pub scoped_form : Change → List ℕ → Option Form
scoped_form change t = if is_scope (word_of t) then file_form change (word_of t) (behind_word t) else None

-- behind LOAD or UNLOAD
abbrev pub load_form : Change → List ℕ → Option Form
load_form change t = if bytes_eq (word_of t) (codes "SCOPE") then scoped_form change (behind_word t) else file_form change [] t

abbrev pub of_numbers : Option ℕ → Option ℕ → Option Form
of_numbers None salt = None
of_numbers (Some count) None = None
of_numbers (Some count) (Some salt) = Some (Whole (Generate count salt))

-- behind GENERATE
abbrev pub generate_form : List ℕ → Option Form
generate_form t = of_numbers (number_up_to most_generated (word_of t)) (number_up_to greatest_salt (behind_word t))

-- of a text that begins with this word
abbrev pub form_behind : List ℕ → List ℕ → Option Form
form_behind word t =
    if bytes_eq word (codes "LOAD") then load_form Inserts t else
    if bytes_eq word (codes "UNLOAD") then load_form Deletes t else
    if bytes_eq word (codes "GENERATE") then generate_form t else None

-- the form of a line without the blanks at its ends, or none
abbrev pub form_of_text : List ℕ → Option Form
form_of_text t =
    if bytes_eq t (codes "INSERT") then Some (Begins (Triples Inserts)) else
    if bytes_eq t (codes "DELETE") then Some (Begins (Triples Deletes)) else
    if bytes_eq t (codes "QUERY") then Some (Begins Question) else
    if bytes_eq t (codes "DUMP") then Some (Whole Dump) else
    if bytes_eq t (codes "STATS") then Some (Whole Stats) else
    if bytes_eq t (codes "SHAPE") then Some (Whole Shape) else form_behind (word_of t) (behind_word t)

abbrev pub form_of : Line → Option Form
form_of None = None
form_of (Some l) = form_of_text (trimmed l)

-- a line and its end before a text, where neither is too long
abbrev pub line_before : Line → Option (List ℕ) → Option (List ℕ)
line_before None text = None
line_before (Some l) None = None
line_before (Some l) (Some text) = Some (l ++ 10 ∷ text)

-- lines, each with an LF; none where one is too long
abbrev pub joined : List Line → Option (List ℕ)
joined [] = Some []
joined (l ∷ ls) = line_before l (joined ls)

-- a text, unless it has more bytes than a line may have
abbrev pub if_short : Option (List ℕ) → Option (List ℕ)
if_short None = None
if_short (Some text) = if nat_le (length text) longest then Some text else None

-- the text of a query of these lines, or none where it is too long
abbrev pub question_of : List Line → Option (List ℕ)
question_of ls = if_short (joined ls)

-- the line that ends a block: the two bytes alone
abbrev pub ends_block : Line → Bool
ends_block None = false
ends_block (Some l) = bytes_eq l (codes "GO")

-- The commands from a line of this form on: `rest` are those of the lines after it outside a block,
-- and `inside` those where it begins a block.
abbrev pub from_form : Option Form → List Command → (Kind → List Command) → List Command
from_form None rest inside = Bad ∷ rest
from_form (Some (Begins kind)) rest inside = inside kind
from_form (Some (Whole command)) rest inside = Single command ∷ rest

-- outside: the commands of lines outside a block; inside: those where a block has had the lines of body
abbrev mutual
  pub outside : List Line → List Command
  outside [] = []
  outside (l ∷ ls) = if skipped l then outside ls else from_form (form_of l) (outside ls) (λ kind. inside kind [] ls)

  pub inside : Kind → List Line → List Line → List Command
  inside kind body [] = Unended ∷ []
  inside kind body (l ∷ ls) = if ends_block l then Block kind body ∷ outside ls else inside kind (body ++ l ∷ []) ls

abbrev pub commands_of : List Line → List Command
commands_of = outside

abbrev pub is_closed : Command → Bool
is_closed (Block kind lines) = true
is_closed (Single command) = true
is_closed Bad = true
is_closed Unended = false

-- the commands without a block that the lines end in
abbrev pub closed_commands_of : List Line → List Command
closed_commands_of ls = filter is_closed (commands_of ls)
