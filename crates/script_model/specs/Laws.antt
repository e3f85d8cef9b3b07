-- The forms of commands and a script by productions, and the laws that the functions give exactly these.
use Rattle.std.specs.Prelude.{◌≡◌, ◌≢◌, ◌↔◌, ℕ, ◌<◌, ◌≤◌, true, false, List, [], ◌∷◌, ◌++◌, length, Some, None, codes, IsUtf8}
use Rattle.std.specs.List.{list_any, AllByRecursion}
use Rattle.std.specs.Char.{is_ascii_digit}
use Rattle.std.specs.Str.Parse.{digits_value}
use Rattle.text_lines.specs.Blanks.{is_blank, after_blanks}
use Rattle.text_lines.specs.Lines.{Line}
use Rattle.ntriples_model.specs.Proper.{IsScope}
use Rattle.script_model.specs.Commands.{Change, Inserts, Deletes, Kind, Triples, Question, OneLine, File, Generate, Dump, Stats, Shape, Command, Block, Single, Bad, Unended, Form, Begins, Whole, longest_scope, most_digits, most_generated, greatest_salt, word_of, skipped, form_of_text, form_of, ends_block, commands_of}

-- S ::= one or more blanks
pub record AreBlanks (bytes : List ℕ) : Type 0 where
  pub some : 0 < length bytes
  pub blanks : AllByRecursion (λ b. is_blank b ≡ true) bytes

-- scope ::= 1 to 64 of [A-Za-z0-9]
pub record IsScopeWord (word : List ℕ) : Type 0 where
  pub some : 0 < length word
  pub short : length word ≤ longest_scope
  pub letters : IsScope word

-- name ::= the rest of the line, at least one byte, in UTF-8
pub record IsName (name : List ℕ) : Type 0 where
  pub some : 0 < length name
  pub utf8 : IsUtf8 name
  pub begins : after_blanks name ≡ name

-- number ::= 1 to 20 of [0-9], at most so large
pub record IsNumberUpTo (most : ℕ) (word : List ℕ) (number : ℕ) : Type 0 where
  pub some : 0 < length word
  pub short : length word ≤ most_digits
  pub digits : AllByRecursion (λ b. is_ascii_digit b ≡ true) word
  pub value : digits_value 10 word ≡ number
  pub within : number ≤ most

-- 'LOAD' | 'UNLOAD'
pub data IsFileWord : List ℕ → Change → Type 0 where
  load : IsFileWord (codes "LOAD") Inserts
  unload : IsFileWord (codes "UNLOAD") Deletes

-- command ::= 'INSERT' | 'DELETE' | 'QUERY' | 'DUMP' | 'STATS' | 'SHAPE'
--           | ('LOAD' | 'UNLOAD') S name, where the name's first word isn't SCOPE
--           | ('LOAD' | 'UNLOAD') S 'SCOPE' S scope S name
--           | 'GENERATE' S number S number
pub data IsForm : List ℕ → Form → Type 0 where
  insert : IsForm (codes "INSERT") (Begins (Triples Inserts))
  delete : IsForm (codes "DELETE") (Begins (Triples Deletes))
  query : IsForm (codes "QUERY") (Begins Question)
  dump : IsForm (codes "DUMP") (Whole Dump)
  stats : IsForm (codes "STATS") (Whole Stats)
  shape : IsForm (codes "SHAPE") (Whole Shape)
  file : (word gap name : List ℕ) (change : Change) → IsFileWord word change → AreBlanks gap → IsName name → word_of name ≢ codes "SCOPE"
      → IsForm (word ++ (gap ++ name)) (Whole (File change [] name))
  scoped : (word gap gap' scope gap'' name : List ℕ) (change : Change) → IsFileWord word change → AreBlanks gap → AreBlanks gap'
      → IsScopeWord scope → AreBlanks gap'' → IsName name
      → IsForm (word ++ (gap ++ (codes "SCOPE" ++ (gap' ++ (scope ++ (gap'' ++ name)))))) (Whole (File change scope name))
  generate : (gap first gap' second : List ℕ) (count salt : ℕ) → AreBlanks gap → IsNumberUpTo most_generated first count
      → AreBlanks gap' → IsNumberUpTo greatest_salt second salt
      → IsForm (codes "GENERATE" ++ (gap ++ (first ++ (gap' ++ second)))) (Whole (Generate count salt))

-- A line without the blanks at its ends has exactly the form that the function gives.
abbrev pub FormsAreProductions : Type 0
FormsAreProductions = (t : List ℕ) (f : Form) → IsForm t f ↔ (form_of_text t ≡ Some f)

pub data IsScript : List Line → List Command → Type 0 where
  nothing : IsScript [] []
  skip : (l : Line) (ls : List Line) (cs : List Command) → skipped l ≡ true → IsScript ls cs → IsScript (l ∷ ls) cs
  bad : (l : Line) (ls : List Line) (cs : List Command) → skipped l ≡ false → form_of l ≡ None → IsScript ls cs → IsScript (l ∷ ls) (Bad ∷ cs)
  single : (l : Line) (c : OneLine) (ls : List Line) (cs : List Command) → skipped l ≡ false → form_of l ≡ Some (Whole c) → IsScript ls cs → IsScript (l ∷ ls) (Single c ∷ cs)
  block : (l g : Line) (kind : Kind) (body ls : List Line) (cs : List Command) → skipped l ≡ false → form_of l ≡ Some (Begins kind)
      → list_any ends_block body ≡ false → ends_block g ≡ true → IsScript ls cs → IsScript (l ∷ (body ++ g ∷ ls)) (Block kind body ∷ cs)
  unended : (l : Line) (kind : Kind) (body : List Line) → skipped l ≡ false → form_of l ≡ Some (Begins kind)
      → list_any ends_block body ≡ false → IsScript (l ∷ body) (Unended ∷ [])

-- Lines are a script of exactly one list of commands.
abbrev pub CommandsAreScripts : Type 0
CommandsAreScripts = (ls : List Line) (cs : List Command) → IsScript ls cs ↔ (commands_of ls ≡ cs)
