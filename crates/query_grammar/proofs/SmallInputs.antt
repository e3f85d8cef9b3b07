-- Queries by the definitions, on small texts.
use Rattle.std.proofs.Common.{◌≡◌, [], ◌∷◌, refl, Some, None, true, false}
use Rattle.std.specs.Prelude.{codes}
use Rattle.std.specs.Char.{encode_utf8}
use Rattle.std.specs.Str.{chars, is_utf8}
use Rattle.rdf_model.specs.Terms as rdf
use Rattle.ntriples_model.specs.Characters.{is_letter, is_letter_or_digit, is_hex, is_iri_char, is_scheme_char}
use Rattle.ntriples_model.specs.Terminals.{string_escape_at, echar, is_absolute}
use Rattle.query_tokens.specs.Front.{token_at, gap_at}
use Rattle.query_grammar.specs.BlockFront.{triples_of}
use Rattle.query_grammar.specs.Lexemes.{lexed}
use Rattle.query_grammar.specs.Outline.{has_outline}
use Rattle.query_grammar.specs.Signs.{sign_of}
use Rattle.query_grammar.specs.Texts.{unescaped_behind}
use Rattle.query_grammar.specs.Meaning.{query_of, NotQuery, NoPrefix, TooLarge, IsQuery, LabelAt, Const, xsd, rdf_type}

brackets : query_of (codes "SELECT ?x ?x { ?x a [ <x:p> _:o ] }") ≡ IsQuery (record {
  columns = record { name = codes "x"; label = Some 0 } ∷ [];
  labels = 3;
  distinct = false;
  patterns = record { s = LabelAt 1; p = Const (rdf.Iri (codes "x:p")); o = LabelAt 2 } ∷ record { s = LabelAt 0; p = Const (rdf.Iri rdf_type); o = LabelAt 1 } ∷ [];
  limit = None;
  offset = 0;
})
unfolding query_of token_at gap_at lexed triples_of has_outline sign_of unescaped_behind string_escape_at echar is_absolute is_letter is_letter_or_digit is_hex is_iri_char is_scheme_char chars is_utf8 encode_utf8
brackets = refl

star : query_of (codes "SELECT * { ?s ?p -1.5e3 . } OFFSET 2 LIMIT 3") ≡ IsQuery (record {
  columns = record { name = codes "s"; label = Some 0 } ∷ record { name = codes "p"; label = Some 1 } ∷ [];
  labels = 2;
  distinct = false;
  patterns = record { s = LabelAt 0; p = LabelAt 1; o = Const (rdf.Literal (codes "-1.5e3") (rdf.Typed (xsd (codes "double")))) } ∷ [];
  limit = Some 3;
  offset = 2;
})
unfolding query_of token_at gap_at lexed triples_of has_outline sign_of unescaped_behind string_escape_at echar is_absolute is_letter is_letter_or_digit is_hex is_iri_char is_scheme_char chars is_utf8 encode_utf8
star = refl

large : query_of (codes "select * where { ?s ?p ?o } limit 18446744073709551616") ≡ TooLarge
unfolding query_of token_at gap_at lexed triples_of has_outline sign_of unescaped_behind string_escape_at echar is_absolute is_letter is_letter_or_digit is_hex is_iri_char is_scheme_char chars is_utf8 encode_utf8
large = refl

undeclared : query_of (codes "SELECT ?s { ?s ex:p 1 }") ≡ NoPrefix
unfolding query_of token_at gap_at lexed triples_of has_outline sign_of unescaped_behind string_escape_at echar is_absolute is_letter is_letter_or_digit is_hex is_iri_char is_scheme_char chars is_utf8 encode_utf8
undeclared = refl

prefixes : query_of (codes "PREFIX e:<x:a> PREFIX e:<x:b> SELECT DISTINCT ?z { e: e:\\-c 'q\\u0041'@EN-gb, 'z'^^e:t }") ≡ IsQuery (record {
  columns = record { name = codes "z"; label = None } ∷ [];
  labels = 0;
  distinct = true;
  patterns = record { s = Const (rdf.Iri (codes "x:b")); p = Const (rdf.Iri (codes "x:b-c")); o = Const (rdf.Literal (codes "qA") (rdf.Tagged (codes "en-gb"))) }
      ∷ record { s = Const (rdf.Iri (codes "x:b")); p = Const (rdf.Iri (codes "x:b-c")); o = Const (rdf.Literal (codes "z") (rdf.Typed (codes "x:bt"))) } ∷ [];
  limit = None;
  offset = 0;
})
unfolding query_of token_at gap_at lexed triples_of has_outline sign_of unescaped_behind string_escape_at echar is_absolute is_letter is_letter_or_digit is_hex is_iri_char is_scheme_char chars is_utf8 encode_utf8
prefixes = refl

relative : query_of (codes "SELECT ?s { ?s <p> ?o }") ≡ NotQuery
unfolding query_of token_at gap_at lexed triples_of has_outline sign_of unescaped_behind string_escape_at echar is_absolute is_letter is_letter_or_digit is_hex is_iri_char is_scheme_char chars is_utf8 encode_utf8
relative = refl

lone_bracket : query_of (codes "SELECT ?s { [ ] . }") ≡ NotQuery
unfolding query_of token_at gap_at lexed triples_of has_outline sign_of unescaped_behind string_escape_at echar is_absolute is_letter is_letter_or_digit is_hex is_iri_char is_scheme_char chars is_utf8 encode_utf8
lone_bracket = refl
