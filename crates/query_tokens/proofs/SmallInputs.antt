-- The functions from the front, on small inputs.
use Rattle.std.proofs.Common.{◌≡◌, ◌∷◌, ◌++◌, refl, Some, None}
use Rattle.std.specs.Prelude.{codes}
use Rattle.query_tokens.specs.Tokens.{Iri, PnameNs, PnameLn, Label, Var, LangTag, Integer, Decimal, Double, SignedDouble, Str, Word, Mark}
use Rattle.query_tokens.specs.Front.{token_at, gap_at}

variable : token_at (codes "?s?p?o") ≡ Some (Var, 2)
unfolding token_at
variable = refl

dollar : token_at (codes "$x") ≡ Some (Var, 2)
unfolding token_at
dollar = refl

iri : token_at (codes "<x:a> ") ≡ Some (Iri, 5)
unfolding token_at
iri = refl

iri_escaped : token_at (codes "<x:\\u0061\\U00000062>") ≡ Some (Iri, 20)
unfolding token_at
iri_escaped = refl

iri_with_blank : token_at (codes "<x y>") ≡ None
unfolding token_at
iri_with_blank = refl

local_name : token_at (codes "ex:p.") ≡ Some (PnameLn, 4)
unfolding token_at
local_name = refl

local_escapes : token_at (codes "ex:a%4f\\~.b") ≡ Some (PnameLn, 11)
unfolding token_at
local_escapes = refl

prefix : token_at (codes "ex: ") ≡ Some (PnameNs, 3)
unfolding token_at
prefix = refl

no_prefix : token_at (codes ":") ≡ Some (PnameNs, 1)
unfolding token_at
no_prefix = refl

two_stops : token_at (codes "a..b:c") ≡ Some (PnameLn, 6)
unfolding token_at
two_stops = refl

label : token_at (codes "_:o.") ≡ Some (Label, 3)
unfolding token_at
label = refl

label_without_colon : token_at (codes "_:a:b") ≡ Some (Label, 3)
unfolding token_at
label_without_colon = refl

double : token_at (codes "-1.5e3.") ≡ Some (SignedDouble, 6)
unfolding token_at
double = refl

integer : token_at (codes "1.") ≡ Some (Integer, 1)
unfolding token_at
integer = refl

double_with_stop : token_at (codes "1.e5") ≡ Some (Double, 4)
unfolding token_at
double_with_stop = refl

exponent_alone : token_at (codes "1.5e+x") ≡ Some (Decimal, 3)
unfolding token_at
exponent_alone = refl

decimal : token_at (codes ".5") ≡ Some (Decimal, 2)
unfolding token_at
decimal = refl

stop : token_at (codes ". 5") ≡ Some (Mark, 1)
unfolding token_at
stop = refl

string : token_at (codes "\"a\\\"\"@en") ≡ Some (Str, 5)
unfolding token_at
string = refl

tag : token_at (codes "@en-a-") ≡ Some (LangTag, 5)
unfolding token_at
tag = refl

long_string : token_at (codes "'''a'b'''''") ≡ Some (Str, 9)
unfolding token_at
long_string = refl

empty_string : token_at (codes "''a") ≡ Some (Str, 2)
unfolding token_at
empty_string = refl

unclosed : token_at (codes "'a\\'") ≡ None
unfolding token_at
unclosed = refl

unclosed_long : token_at (codes "'''a'") ≡ Some (Str, 2)
unfolding token_at
unclosed_long = refl

word_before_digits : token_at (codes "LIMIT5OFFSET1") ≡ Some (Word, 5)
unfolding token_at
word_before_digits = refl

small_word : token_at (codes "a ") ≡ Some (Word, 1)
unfolding token_at
small_word = refl

carets : token_at (codes "^^<") ≡ Some (Mark, 2)
unfolding token_at
carets = refl

caret : token_at (codes "^") ≡ None
unfolding token_at
caret = refl

comment : token_at (codes "#c") ≡ None
unfolding token_at
comment = refl

blanks_and_comments : gap_at (codes " #c" ++ 10 ∷ codes "# d") ≡ 7
unfolding gap_at
blanks_and_comments = refl

gap_before_token : gap_at (codes " #c" ++ 13 ∷ codes "?x") ≡ 4
unfolding gap_at
gap_before_token = refl
