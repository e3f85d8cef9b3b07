-- The terminals of RDF 1.1 N-Triples (section 7), each twice: by the productions, on a whole terminal and the text that it
-- stands for, and as a function from the front of some bytes. `specs/Laws.antt` says how the two agree.
use Rattle.std.specs.Prelude.{◌≡◌, ℕ, zero, suc, ◌+◌, ◌*◌, ◌-◌, Bool, true, false, ◌&&◌, ◌||◌, ◌⊎◌, List, [], ◌∷◌, ◌++◌, map, length, take, drop, fold, Option, Some, None, ◌==◌, if◌then◌else◌, slice_index, encode_utf8, encode_utf8_all, IsUtf8}
use Rattle.std.specs.List.{list_all, AllByRecursion}
use Rattle.std.specs.Char.{digit_value, IsScalar, to_ascii_lowercase}
use Rattle.std.specs.Str.{chars, all_scalars, is_utf8}
use Rattle.std.proofs.Math.Utf8.{scalar}
use Rattle.std.specs.Str.Lossy.{utf8_valid_len}
use Rattle.rdf_model.specs.Terms.{Text}
use Rattle.ntriples_model.specs.Characters.{is_letter, is_letter_or_digit, is_hex, is_pn_chars, is_label_start, is_iri_char, is_string_char, is_scheme_char}

-- Escapes

-- the number that hexadecimal digits stand for
abbrev pub hex_number : List ℕ → ℕ
hex_number digits = fold (λ n d. n * 16 + digit_value d) 0 digits

-- HEX, so many times
pub record IsHex (count : ℕ) (digits : Text) : Type 0 where
  pub count_is : length digits ≡ count
  pub each : AllByRecursion (λ d. is_hex d ≡ true) digits

-- UCHAR ::= '\u' HEX HEX HEX HEX | '\U' HEX HEX HEX HEX HEX HEX HEX HEX
pub data IsUchar : Text → ℕ → Type 0 where
  short : (digits : Text) → IsHex 4 digits → IsScalar (hex_number digits) → IsUchar (92 ∷ 117 ∷ digits) (hex_number digits)
  long : (digits : Text) → IsHex 8 digits → IsScalar (hex_number digits) → IsUchar (92 ∷ 85 ∷ digits) (hex_number digits)

-- ECHAR ::= '\' [tbnrf"'\]: the character that stands behind the backslash, and the one that is meant
abbrev pub echars : List (ℕ × ℕ)
echars = (116, 0x9) ∷ (98, 0x8) ∷ (110, 0xA) ∷ (114, 0xD) ∷ (102, 0xC) ∷ (34, 0x22) ∷ (39, 0x27) ∷ (92, 0x5C) ∷ []

abbrev pub meant_by : List (ℕ × ℕ) → ℕ → Option ℕ
meant_by [] b = None
meant_by (e ∷ es) b = if b == e.0 then Some e.1 else meant_by es b

unfoldable pub echar : ℕ → Option ℕ
echar b = meant_by echars b

pub data IsEchar : Text → ℕ → Type 0 where
  letter : (b c : ℕ) → echar b ≡ Some c → IsEchar (92 ∷ b ∷ []) c

-- an escape in an IRI stands for no character that IRIREF leaves out
pub record IsIriEscape (escape : Text) (c : ℕ) : Type 0 where
  pub uchar : IsUchar escape c
  pub fits : is_iri_char c ≡ true

abbrev pub IsStringEscape : Text → ℕ → Type 0
IsStringEscape escape c = IsEchar escape c ⊎ IsUchar escape c

-- Productions: the bytes as they are written, and the text that they stand for

-- ([..] | ESCAPE)*, where `fits` tests what stands for itself
pub data IsBody (fits : ℕ → Bool) (IsEscape : Text → ℕ → Type 0) : Text → Text → Type 0 where
  done : IsBody fits IsEscape [] []
  plain : (b : ℕ) (raw text : Text) → fits b ≡ true → IsBody fits IsEscape raw text → IsBody fits IsEscape (b ∷ raw) (b ∷ text)
  escaped : (escape : Text) (c : ℕ) (raw text : Text) → IsEscape escape c → IsBody fits IsEscape raw text
      → IsBody fits IsEscape (escape ++ raw) (encode_utf8 c ++ text)

-- an IRI with a scheme: a letter, letters, digits, `+`, `.` and `-`, then `:` (RFC 3987, section 2.2)
pub record IsAbsolute (text : Text) : Type 0 where
  pub first : ℕ
  pub scheme : Text
  pub rest : Text
  pub text_is : text ≡ first ∷ scheme ++ 58 ∷ rest
  pub begins : is_letter first ≡ true
  pub goes_on : AllByRecursion (λ c. is_scheme_char c ≡ true) scheme

-- IRIREF ::= '<' ([^#x00-#x20<>"{}|^`\] | UCHAR)* '>', in UTF-8, absolute
pub record IsIriRef (terminal text : Text) : Type 0 where
  pub raw : Text
  pub terminal_is : terminal ≡ 60 ∷ raw ++ 62 ∷ []
  pub body : IsBody is_iri_char IsIriEscape raw text
  pub utf8 : IsUtf8 terminal
  pub absolute : IsAbsolute text

-- STRING_LITERAL_QUOTE ::= '"' ([^#x22#x5C#xA#xD] | ECHAR | UCHAR)* '"', in UTF-8
pub record IsStringLiteral (terminal text : Text) : Type 0 where
  pub raw : Text
  pub terminal_is : terminal ≡ 34 ∷ raw ++ 34 ∷ []
  pub body : IsBody is_string_char IsStringEscape raw text
  pub utf8 : IsUtf8 terminal

-- (PN_CHARS | '.')* PN_CHARS
pub record IsDotted (cs : List ℕ) : Type 0 where
  pub inner : List ℕ
  pub last : ℕ
  pub is : cs ≡ inner ++ last ∷ []
  pub each : AllByRecursion (λ c. (is_pn_chars c || c == 46) ≡ true) inner
  pub ends : is_pn_chars last ≡ true

-- BLANK_NODE_LABEL ::= '_:' (PN_CHARS_U | [0-9]) ((PN_CHARS | '.')* PN_CHARS)?
pub record IsBlankNodeLabel (terminal text : Text) : Type 0 where
  pub first : ℕ
  pub more : List ℕ
  pub terminal_is : terminal ≡ 95 ∷ 58 ∷ text
  pub text_is : text ≡ encode_utf8_all (first ∷ more)
  pub characters : all_scalars (first ∷ more) ≡ true
  pub begins : is_label_start first ≡ true
  pub goes_on : (more ≡ []) ⊎ IsDotted more

-- what may follow the first letter of a tag: characters that fit, then ('-' [a-zA-Z0-9]+)*
pub data IsTagRest : (ℕ → Bool) → Text → Type 0 where
  nothing : (fits : ℕ → Bool) → IsTagRest fits []
  next : (fits : ℕ → Bool) (c : ℕ) (rest : Text) → fits c ≡ true → IsTagRest fits rest → IsTagRest fits (c ∷ rest)
  subtag : (fits : ℕ → Bool) (c : ℕ) (rest : Text) → is_letter_or_digit c ≡ true → IsTagRest is_letter_or_digit rest → IsTagRest fits (45 ∷ c ∷ rest)

-- LANGTAG ::= '@' [a-zA-Z]+ ('-' [a-zA-Z0-9]+)*; it stands for its text in lower case
pub record IsLangTag (terminal text : Text) : Type 0 where
  pub first : ℕ
  pub rest : Text
  pub terminal_is : terminal ≡ 64 ∷ first ∷ rest
  pub text_is : text ≡ map to_ascii_lowercase (first ∷ rest)
  pub begins : is_letter first ≡ true
  pub goes_on : IsTagRest is_letter rest

-- From the front: the text of the terminal that begins the bytes, and the bytes behind it

-- the number of so many hexadecimal digits that begin the bytes
abbrev pub hex_at : ℕ → List ℕ → Option ℕ
hex_at count bs = if length (take count bs) == count && list_all is_hex (take count bs) then Some (hex_number (take count bs)) else None

-- the number where it is that of a character, at most 10FFFF and no surrogate, and how many bytes it took
abbrev pub character : ℕ → Option ℕ → Option (ℕ × ℕ)
character size None = None
character size (Some c) = if scalar c then Some (c, size) else None

-- of the bytes behind a backslash: the character of a UCHAR, and how many of them are its own
abbrev pub uchar_at : List ℕ → Option (ℕ × ℕ)
uchar_at [] = None
uchar_at (b ∷ bs) = if b == 117 then character 5 (hex_at 4 bs) else (if b == 85 then character 9 (hex_at 8 bs) else None)

abbrev pub fitting : (ℕ → Bool) → Option (ℕ × ℕ) → Option (ℕ × ℕ)
fitting fits None = None
fitting fits (Some e) = if fits e.0 then Some e else None

unfoldable pub iri_escape_at : List ℕ → Option (ℕ × ℕ)
iri_escape_at bs = fitting is_iri_char (uchar_at bs)

abbrev pub letter_or : Option ℕ → Option (ℕ × ℕ) → Option (ℕ × ℕ)
letter_or None uchar = uchar
letter_or (Some c) uchar = Some (c, 1)

unfoldable pub string_escape_at : List ℕ → Option (ℕ × ℕ)
string_escape_at [] = None
string_escape_at (b ∷ bs) = letter_or (echar b) (uchar_at (b ∷ bs))

-- a text and what is behind it, with a piece put before the text
abbrev pub longer : Text → Option (Text × Text) → Option (Text × Text)
longer piece None = None
longer piece (Some p) = Some (piece ++ p.0, p.1)

-- an escape, and what follows once its bytes are skipped
abbrev pub escape_then : Option (ℕ × ℕ) → (ℕ → Option (Text × Text)) → Option (Text × Text)
escape_then None after = None
escape_then (Some e) after = longer (encode_utf8 e.0) (after e.1)

-- the text up to the closing character and the bytes behind that, where the first bytes belong to an escape and are skipped
unfoldable pub body_at : (fits : ℕ → Bool) (close : ℕ) (escape_at : List ℕ → Option (ℕ × ℕ)) → ℕ → List ℕ → Option (Text × Text)
body_at fits close escape_at skip [] = None
body_at fits close escape_at (suc skip) (b ∷ bs) = body_at fits close escape_at skip bs
body_at fits close escape_at zero (b ∷ bs) =
    if b == close then Some ([], bs) else
    (if fits b then longer (b ∷ []) (body_at fits close escape_at zero bs) else
    (if b == 92 then escape_then (escape_at bs) (λ skip. body_at fits close escape_at skip bs) else None))

-- what was found, where it passes a test and its terminal is UTF-8
abbrev pub checked : (Text → Bool) → List ℕ → Option (Text × Text) → Option (Text × Text)
checked test bytes None = None
checked test bytes (Some p) = if is_utf8 (take (length bytes - length p.1) bytes) && test p.0 then Some p else None

-- letters, digits, `+`, `.` and `-`, then `:`
abbrev pub is_scheme_rest : Text → Bool
is_scheme_rest [] = false
is_scheme_rest (c ∷ cs) = c == 58 || (is_scheme_char c && is_scheme_rest cs)

unfoldable pub is_absolute : Text → Bool
is_absolute [] = false
is_absolute (c ∷ cs) = is_letter c && is_scheme_rest cs

abbrev pub iri_body_at : List ℕ → Option (Text × Text)
iri_body_at = body_at is_iri_char 62 iri_escape_at 0

abbrev pub string_body_at : List ℕ → Option (Text × Text)
string_body_at = body_at is_string_char 34 string_escape_at 0

unfoldable pub iri_at : List ℕ → Option (Text × Text)
iri_at [] = None
iri_at (b ∷ bs) = if b == 60 then checked is_absolute (b ∷ bs) (iri_body_at bs) else None

unfoldable pub string_at : List ℕ → Option (Text × Text)
string_at [] = None
string_at (b ∷ bs) = if b == 34 then checked (λ text. true) (b ∷ bs) (string_body_at bs) else None

-- the characters of the longest front of the bytes that is UTF-8
unfoldable pub front_chars : List ℕ → List ℕ
front_chars bs = chars (take (utf8_valid_len bs) bs)

-- a full stop belongs to a label only where more of the label follows
abbrev pub stop_then : List ℕ → List ℕ
stop_then [] = []
stop_then (c ∷ cs) = 46 ∷ c ∷ cs

-- the longest ((PN_CHARS | '.')* PN_CHARS)? that begins the characters
unfoldable pub label_rest : List ℕ → List ℕ
label_rest [] = []
label_rest (c ∷ cs) = if is_pn_chars c then c ∷ label_rest cs else (if c == 46 then stop_then (label_rest cs) else [])

-- the longest label that begins the characters, none of them where there is none
unfoldable pub label_chars : List ℕ → List ℕ
label_chars [] = []
label_chars (c ∷ cs) = if is_label_start c then c ∷ label_rest cs else []

-- a text that isn't empty, and what is behind its bytes
abbrev pub some_text : (Text → Text) → Text → List ℕ → Option (Text × Text)
some_text change [] bs = None
some_text change (b ∷ text) bs = Some (change (b ∷ text), drop (length (b ∷ text)) bs)

unfoldable pub label_at : List ℕ → Option (Text × Text)
label_at bytes =
    if slice_index bytes 0 == 95 && slice_index bytes 1 == 58
    then some_text (λ text. text) (encode_utf8_all (label_chars (front_chars (drop 2 bytes)))) (drop 2 bytes) else None

-- what may follow the first letter of a tag, as long as it can be
unfoldable pub tag_rest : (ℕ → Bool) → List ℕ → List ℕ
tag_rest fits [] = []
tag_rest fits (c ∷ cs) =
    if fits c then c ∷ tag_rest fits cs else
    (if c == 45 && is_letter_or_digit (slice_index cs 0) then c ∷ tag_rest is_letter_or_digit cs else [])

-- the longest tag that begins the bytes, none of them where there is none
unfoldable pub tag_bytes : List ℕ → List ℕ
tag_bytes [] = []
tag_bytes (c ∷ cs) = if is_letter c then c ∷ tag_rest is_letter cs else []

unfoldable pub tag_at : List ℕ → Option (Text × Text)
tag_at bytes = if slice_index bytes 0 == 64 then some_text (map to_ascii_lowercase) (tag_bytes (drop 1 bytes)) (drop 1 bytes) else None
