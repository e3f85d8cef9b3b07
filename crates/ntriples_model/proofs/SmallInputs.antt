-- The functions from the front, on small inputs.
use Rattle.std.proofs.Common.{◌≡◌, [], ◌∷◌, ◌++◌, refl, Some, None}
use Rattle.std.specs.Prelude.{codes}
use Rattle.std.specs.Char.{encode_utf8}
use Rattle.std.specs.Str.{chars, is_utf8}
use Rattle.std.specs.Str.Lossy.{utf8_valid_len}
use Rattle.ntriples_model.specs.Characters.{is_letter, is_letter_or_digit, is_hex, is_pn_chars_base, is_pn_chars_u, is_pn_chars, is_label_start, is_iri_char, is_string_char, is_scheme_char}
use Rattle.ntriples_model.specs.Terminals.{iri_at, string_at, label_at, tag_at, echar, iri_escape_at, string_escape_at, body_at, is_absolute, front_chars, label_rest, label_chars, tag_rest, tag_bytes}

label_before_stop : label_at (codes "_:a.b. ") ≡ Some (codes "a.b", codes ". ")
unfolding label_at label_chars label_rest front_chars chars utf8_valid_len is_utf8 encode_utf8 is_label_start is_pn_chars is_pn_chars_u is_pn_chars_base
label_before_stop = refl

label_before_stops : label_at (codes "_:a..") ≡ Some (codes "a", codes "..")
unfolding label_at label_chars label_rest front_chars chars utf8_valid_len is_utf8 encode_utf8 is_label_start is_pn_chars is_pn_chars_u is_pn_chars_base
label_before_stops = refl

label_of_dash : label_at (codes "_:-a") ≡ None
unfolding label_at label_chars label_rest front_chars chars utf8_valid_len is_utf8 encode_utf8 is_label_start is_pn_chars is_pn_chars_u is_pn_chars_base
label_of_dash = refl

short_and_long : iri_at (codes "<s:\\u00e9\\U0001F600>.") ≡ Some (codes "s:" ++ 195 ∷ 169 ∷ 240 ∷ 159 ∷ 152 ∷ 128 ∷ [], codes ".")
unfolding iri_at body_at is_absolute iri_escape_at is_iri_char is_scheme_char is_letter is_letter_or_digit is_hex chars is_utf8 encode_utf8
short_and_long = refl

iri_of_space : iri_at (codes "<s:\\u0020>") ≡ None
unfolding iri_at body_at is_absolute iri_escape_at is_iri_char is_scheme_char is_letter is_letter_or_digit is_hex chars is_utf8 encode_utf8
iri_of_space = refl

relative : iri_at (codes "<a>") ≡ None
unfolding iri_at body_at is_absolute iri_escape_at is_iri_char is_scheme_char is_letter is_letter_or_digit is_hex chars is_utf8 encode_utf8
relative = refl

quoted : string_at (codes "\"a\\t\\\"\\u0041>\"@en") ≡ Some (97 ∷ 9 ∷ 34 ∷ 65 ∷ 62 ∷ [], codes "@en")
unfolding string_at body_at string_escape_at echar is_string_char is_hex chars is_utf8 encode_utf8
quoted = refl

surrogate : string_at (codes "\"\\uD800\"") ≡ None
unfolding string_at body_at string_escape_at echar is_string_char is_hex chars is_utf8 encode_utf8
surrogate = refl

tag_lowered : tag_at (codes "@EN-a1- .") ≡ Some (codes "en-a1", codes "- .")
unfolding tag_at tag_bytes tag_rest is_letter is_letter_or_digit
tag_lowered = refl

tag_of_digit : tag_at (codes "@1") ≡ None
unfolding tag_at tag_bytes tag_rest is_letter is_letter_or_digit
tag_of_digit = refl
