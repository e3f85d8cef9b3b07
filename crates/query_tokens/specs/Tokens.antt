-- The tokens of SPARQL queries (SPARQL 1.1, sections 19.2 and 19.8), as forms of texts.
use Rattle.std.specs.Prelude.{ℕ, List, [], ◌∷◌, ◌++◌, codes}
use Rattle.ntriples_model.specs.Characters.{letters, digits, pn_chars_base}
use Rattle.query_tokens.specs.Forms.{Form, one, other, ◌▸◌, ◌∣◌, many, maybe, some, each, word, HasForm}

pub data Kind : Type 0 where
  Iri : Kind
  PnameNs : Kind
  PnameLn : Kind
  Label : Kind
  Var : Kind
  LangTag : Kind
  Integer : Kind
  Decimal : Kind
  Double : Kind
  SignedInteger : Kind
  SignedDecimal : Kind
  SignedDouble : Kind
  Str : Kind
  Word : Kind
  Mark : Kind

-- Characters

-- HEX ::= [0-9] | [A-F] | [a-f]
abbrev pub hex : Form
hex = one ((0x30, 0x39) ∷ (0x41, 0x46) ∷ (0x61, 0x66) ∷ [])

-- PN_CHARS_U ::= PN_CHARS_BASE | '_'
abbrev pub pn_chars_u : List (ℕ × ℕ)
pn_chars_u = pn_chars_base ++ each (codes "_")

-- the characters of a name that a digit may stand beside: #xB7 | [#x300-#x36F] | [#x203F-#x2040]
abbrev pub joiners : List (ℕ × ℕ)
joiners = (0xB7, 0xB7) ∷ (0x300, 0x36F) ∷ (0x203F, 0x2040) ∷ []

-- PN_CHARS ::= PN_CHARS_U | '-' | [0-9] | #xB7 | [#x300-#x36F] | [#x203F-#x2040]
abbrev pub pn_chars : List (ℕ × ℕ)
pn_chars = pn_chars_u ++ (each (codes "-") ++ (digits ++ joiners))

-- UCHAR ::= '\u' HEX HEX HEX HEX | '\U' HEX HEX HEX HEX HEX HEX HEX HEX
abbrev pub uchar : Form
uchar = word (codes "\\u") ▸ hex ▸ hex ▸ hex ▸ hex
    ∣ word (codes "\\U") ▸ hex ▸ hex ▸ hex ▸ hex ▸ hex ▸ hex ▸ hex ▸ hex

-- ECHAR ::= '\' [tbnrf"'\]
abbrev pub echar : Form
echar = word (codes "\\") ▸ one (each (codes "tbnrf\"'\\"))

-- Names

-- IRIREF ::= '<' ([^#x00-#x20<>"{}|^`\] | UCHAR)* '>'
abbrev pub iri : Form
iri = word (codes "<") ▸ many (other ((0x0, 0x20) ∷ each (codes "<>\"{}|^`\\")) ∣ uchar) ▸ word (codes ">")

-- PN_PREFIX ::= PN_CHARS_BASE ((PN_CHARS | '.')* PN_CHARS)?
abbrev pub pn_prefix : Form
pn_prefix = one pn_chars_base ▸ maybe (many (one pn_chars ∣ word (codes ".")) ▸ one pn_chars)

-- PLX ::= '%' HEX HEX | '\' [_~.!$&'()*+,;=/?#@%-]
abbrev pub plx : Form
plx = word (codes "%") ▸ hex ▸ hex ∣ word (codes "\\") ▸ one (each (codes "_~.!$&'()*+,;=/?#@%-"))

-- PN_LOCAL ::= (PN_CHARS_U | ':' | [0-9] | PLX) ((PN_CHARS | '.' | ':' | PLX)* (PN_CHARS | ':' | PLX))?
abbrev pub pn_local : Form
pn_local = (one (pn_chars_u ++ (each (codes ":") ++ digits)) ∣ plx)
    ▸ maybe (many (one (pn_chars ++ each (codes ".:")) ∣ plx) ▸ (one (pn_chars ++ each (codes ":")) ∣ plx))

-- PNAME_NS ::= PN_PREFIX? ':'
abbrev pub pname_ns : Form
pname_ns = maybe pn_prefix ▸ word (codes ":")

-- PNAME_LN ::= PNAME_NS PN_LOCAL
abbrev pub pname_ln : Form
pname_ln = pname_ns ▸ pn_local

-- BLANK_NODE_LABEL ::= '_:' (PN_CHARS_U | [0-9]) ((PN_CHARS | '.')* PN_CHARS)?
abbrev pub label : Form
label = word (codes "_:") ▸ one (pn_chars_u ++ digits) ▸ maybe (many (one pn_chars ∣ word (codes ".")) ▸ one pn_chars)

-- VARNAME ::= (PN_CHARS_U | [0-9]) (PN_CHARS_U | [0-9] | #xB7 | [#x300-#x36F] | [#x203F-#x2040])*
abbrev pub var_name : Form
var_name = one (pn_chars_u ++ digits) ▸ many (one (pn_chars_u ++ (digits ++ joiners)))

-- VAR1 | VAR2 ::= ('?' | '$') VARNAME
abbrev pub var : Form
var = one (each (codes "?$")) ▸ var_name

-- LANGTAG ::= '@' [a-zA-Z]+ ('-' [a-zA-Z0-9]+)*
abbrev pub lang_tag : Form
lang_tag = word (codes "@") ▸ some (one letters) ▸ many (word (codes "-") ▸ some (one (letters ++ digits)))

-- Numbers

abbrev pub digit : Form
digit = one digits

-- EXPONENT ::= [eE] [+-]? [0-9]+
abbrev pub exponent : Form
exponent = one (each (codes "eE")) ▸ maybe (one (each (codes "+-"))) ▸ some digit

-- INTEGER ::= [0-9]+
abbrev pub integer : Form
integer = some digit

-- DECIMAL ::= [0-9]* '.' [0-9]+
abbrev pub decimal : Form
decimal = many digit ▸ word (codes ".") ▸ some digit

-- DOUBLE ::= [0-9]+ '.' [0-9]* EXPONENT | '.' [0-9]+ EXPONENT | [0-9]+ EXPONENT
abbrev pub double : Form
double = some digit ▸ word (codes ".") ▸ many digit ▸ exponent ∣ word (codes ".") ▸ some digit ▸ exponent ∣ some digit ▸ exponent

-- a number with its sign directly before it
abbrev pub signed : Form → Form
signed number = one (each (codes "+-")) ▸ number

-- Strings

-- the quote, then characters other than it, `\` and line ends, or escapes, then the quote
-- STRING_LITERAL1 | STRING_LITERAL2 ::= Q ([^Q#x5C#xA#xD] | ECHAR | UCHAR)* Q
abbrev pub short_string : ℕ → Form
short_string q = word (q ∷ []) ▸ many (other (each (q ∷ 0x5C ∷ 0xA ∷ 0xD ∷ [])) ∣ echar ∣ uchar) ▸ word (q ∷ [])

-- STRING_LITERAL_LONG1 | STRING_LITERAL_LONG2 ::= QQQ ((Q | QQ)? ([^Q\] | ECHAR | UCHAR))* QQQ
abbrev pub long_string : ℕ → Form
long_string q = word (q ∷ q ∷ q ∷ [])
    ▸ many (maybe (word (q ∷ []) ∣ word (q ∷ q ∷ [])) ▸ (other (each (q ∷ 0x5C ∷ [])) ∣ echar ∣ uchar)) ▸ word (q ∷ q ∷ q ∷ [])

abbrev pub string : Form
string = short_string 0x27 ∣ short_string 0x22 ∣ long_string 0x27 ∣ long_string 0x22

-- Tokens

-- one of `{ } [ ] . ; , *`, and `^^`
abbrev pub mark : Form
mark = one (each (codes "{}[].;,*")) ∣ word (codes "^^")

abbrev pub form_of : Kind → Form
form_of Iri = iri
form_of PnameNs = pname_ns
form_of PnameLn = pname_ln
form_of Label = label
form_of Var = var
form_of LangTag = lang_tag
form_of Integer = integer
form_of Decimal = decimal
form_of Double = double
form_of SignedInteger = signed integer
form_of SignedDecimal = signed decimal
form_of SignedDouble = signed double
form_of Str = string
form_of Word = some (one letters)
form_of Mark = mark

-- all of them, in the order of the grammar
abbrev pub kinds : List Kind
kinds = Iri ∷ PnameNs ∷ PnameLn ∷ Label ∷ Var ∷ LangTag ∷ Integer ∷ Decimal ∷ Double ∷ SignedInteger ∷ SignedDecimal ∷ SignedDouble ∷ Str ∷ Word ∷ Mark ∷ []

-- the text is a token of the kind
abbrev pub IsToken : Kind → List ℕ → Type 0
IsToken kind text = HasForm (form_of kind) text

-- What stands between tokens

-- a comment (section 19.4), up to a line end
abbrev pub comment : Form
comment = word (codes "#") ▸ many (other (each (0xD ∷ 0xA ∷ [])))

-- WS ::= #x20 | #x9 | #xD | #xA
abbrev pub blank : Form
blank = one (each (0x20 ∷ 0x9 ∷ 0xD ∷ 0xA ∷ []))

-- blanks and comments, of which the last may go to the end of the text
abbrev pub gap : Form
gap = many (blank ∣ comment ▸ one (each (0xD ∷ 0xA ∷ []))) ▸ maybe comment

abbrev pub IsGap : List ℕ → Type 0
IsGap text = HasForm gap text
