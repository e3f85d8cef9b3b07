-- What small lines say, as the function from the front computes it.
use Rattle.std.proofs.Common.{◌≡◌, [], ◌∷◌, refl, Some, None}
use Rattle.std.specs.Prelude.{codes, Option}
use Rattle.std.specs.Char.{encode_utf8}
use Rattle.std.specs.Str.{chars, is_utf8}
use Rattle.std.specs.Str.Lossy.{utf8_valid_len}
use Rattle.rdf_model.specs.Terms.{Term, Iri, Blank, Literal, Tagged, Triple}
use Rattle.ntriples_model.specs.Characters.{is_letter, is_letter_or_digit, is_pn_chars_base, is_pn_chars_u, is_pn_chars, is_label_start, is_iri_char, is_string_char, is_scheme_char}
use Rattle.ntriples_model.specs.Terminals.{iri_at, string_at, label_at, tag_at, echar, string_escape_at, body_at, is_absolute, front_chars, label_rest, label_chars, tag_rest, tag_bytes}
use Rattle.ntriples_model.specs.Line.{subject_at, predicate_at, kind_at, literal_at, object_at, is_end, triple_of, triple_at, form_at, said}

says : Term → Option (Option Triple)
says object = Some (Some (triple_of (Iri (codes "x:a")) (Iri (codes "x:p")) object))

nothing_said : said [] (codes " \t# note") ≡ Some None
unfolding said form_at is_utf8 chars encode_utf8
nothing_said = refl

no_blanks_needed : said [] (codes "<x:a><x:p>_:o.#c") ≡ says (Blank (codes "o"))
unfolding says said form_at triple_at subject_at predicate_at object_at is_end is_utf8 iri_at body_at is_absolute is_iri_char is_scheme_char is_letter is_letter_or_digit label_at label_chars label_rest front_chars chars utf8_valid_len encode_utf8 is_label_start is_pn_chars is_pn_chars_u is_pn_chars_base
no_blanks_needed = refl

under_a_scope : said (codes "s1") (codes "<x:a> <x:p> _:o .") ≡ says (Blank (codes "s1..o"))
unfolding says said form_at triple_at subject_at predicate_at object_at is_end is_utf8 iri_at body_at is_absolute is_iri_char is_scheme_char is_letter is_letter_or_digit label_at label_chars label_rest front_chars chars utf8_valid_len encode_utf8 is_label_start is_pn_chars is_pn_chars_u is_pn_chars_base
under_a_scope = refl

blanks_before_a_tag : said [] (codes "<x:a> <x:p> \"t\\t\" @EN-us .") ≡ says (Literal (codes "t\t") (Tagged (codes "en-us")))
unfolding says said form_at triple_at subject_at predicate_at literal_at kind_at object_at is_end is_utf8 iri_at string_at string_escape_at echar tag_at tag_bytes tag_rest body_at is_absolute is_iri_char is_string_char is_scheme_char is_letter is_letter_or_digit label_at label_chars label_rest front_chars chars utf8_valid_len encode_utf8 is_label_start is_pn_chars is_pn_chars_u is_pn_chars_base
blanks_before_a_tag = refl

xsd_string_by_itself : said [] (codes "<x:a> <x:p> \"a\" .") ≡ said [] (codes "<x:a> <x:p> \"a\" ^^ <http://www.w3.org/2001/XMLSchema#string> .")
unfolding said form_at triple_at subject_at predicate_at literal_at kind_at object_at is_end is_utf8 iri_at string_at body_at is_absolute is_iri_char is_string_char is_scheme_char is_letter is_letter_or_digit label_at chars encode_utf8
xsd_string_by_itself = refl

no_object : said [] (codes "<x:a> <x:p> .") ≡ None
unfolding said form_at triple_at subject_at predicate_at literal_at object_at is_utf8 iri_at string_at body_at is_absolute is_iri_char is_scheme_char is_letter is_letter_or_digit label_at chars encode_utf8
no_object = refl

not_utf8_in_a_comment : said [] (35 ∷ 255 ∷ []) ≡ None
unfolding said is_utf8 chars encode_utf8
not_utf8_in_a_comment = refl
