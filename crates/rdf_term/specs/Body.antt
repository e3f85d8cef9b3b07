-- The body of an IRI or a string, and what a reader of it says.
use Rattle.std.specs.Prelude.{◌≡◌, ℕ, ◌-◌, ◌<◌, ◌≤◌, Bool, List, [], length, take, drop, Option, Some, None, MatchOption, encode_utf8, IsUtf8}
use Rattle.std.specs.List.{prefix_len}
use Rattle.std.specs.Borrow.{Bor}
use Rattle.rdf_model.specs.Terms.{Text}
use Rattle.ntriples_model.specs.Characters.{is_iri_char, is_string_char}
use Rattle.ntriples_model.specs.Terminals.{body_at, longer, iri_escape_at, string_escape_at}
use Rattle.rdf_term.specs.Room.{joined}
use Rattle.rdf_term.specs.declared.body.Form.{Form}
use Rattle.rdf_term.specs.declared.body.Form.TheVariants.{Iri, Quoted}
use Rattle.rdf_term.specs.declared.body.Stop.{Stop}
use Rattle.rdf_term.specs.declared.body.Stop.TheVariants.{Closed, Escape, Bad}

-- what stands for itself, what ends the body, and the escapes
abbrev pub fits_of : Form → ℕ → Bool
fits_of Iri = is_iri_char
fits_of Quoted = is_string_char

abbrev pub close_of : Form → ℕ
close_of Iri = 62
close_of Quoted = 34

abbrev pub escape_of : Form → List ℕ → Option (ℕ × ℕ)
escape_of Iri = iri_escape_at
escape_of Quoted = string_escape_at

-- the text up to the closing character, and the rest behind that
abbrev pub body_of : Form → List ℕ → Option (Text × Text)
body_of form bytes = body_at (fits_of form) (close_of form) (escape_of form) 0 bytes

-- the first n bytes stand for a piece of the text, and the body goes on behind them
pub record IsPiece (form : Form) (bytes : List ℕ) (text : Text) (n : ℕ) : Type 0 where
  pub goes_on : body_of form bytes ≡ longer text (body_of form (drop n bytes))
  pub utf8 : IsUtf8 (take n bytes)
  pub within : n ≤ length bytes
  pub no_longer : length text ≤ n

-- no body begins the bytes that is UTF-8
abbrev pub NoBody : Form → List ℕ → Type 0
NoBody form bytes = (text rest : Text) → body_of form bytes ≡ Some (text, rest) → IsUtf8 (take (length bytes - length rest) bytes) → ⊥

-- the bytes that stand for themselves, up to the first that doesn't
pub record IsRun (form : Form) (bytes : List ℕ) (run : Text) : Type 0 where
  pub piece : IsPiece form bytes run (length run)
  pub ends : prefix_len (fits_of form) (drop (length run) bytes) ≡ 0

abbrev pub RunsTo : Form → List ℕ → Option (Bor Text) → Type 0
RunsTo form bytes r = MatchOption r (NoBody form bytes) (λ run. IsRun form bytes run.now)

-- what stands where nothing stands for itself
abbrev pub StopsAt : Form → List ℕ → Stop → Type 0
StopsAt form bytes Closed = (0 < length bytes) × (body_of form bytes ≡ Some ([], drop 1 bytes)) × IsUtf8 (take 1 bytes)
StopsAt form bytes (Escape c n) = (0 < n) × IsPiece form bytes (encode_utf8 c) n
StopsAt form bytes Bad = body_of form bytes ≡ None

-- the whole body: n bytes with the closing character
pub record IsBodyRead (form : Form) (bytes : List ℕ) (old new : List Text) (n : ℕ) : Type 0 where
  pub text : Text
  pub found : body_of form bytes ≡ Some (text, drop n bytes)
  pub utf8 : IsUtf8 (take n bytes)
  pub within : n ≤ length bytes
  pub no_longer : length text ≤ n
  pub texts : new ≡ joined old text

-- nothing was read, but the last text may have grown
pub record IsBodyLeft (form : Form) (bytes : List ℕ) (old new : List Text) : Type 0 where
  pub none : NoBody form bytes
  pub piece : Text
  pub texts : new ≡ joined old piece

abbrev pub ReadsBody : Form → List ℕ → List Text → List Text → Option ℕ → Type 0
ReadsBody form bytes old new r = MatchOption r (IsBodyLeft form bytes old new) (λ n. IsBodyRead form bytes old new n)
