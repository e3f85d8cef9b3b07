-- The texts of a term that has some text.
use Rattle.std.proofs.Common.{◌≡◌, ◌∙◌, ◌<◌, ◌≤◌, ℕ, Bool, true, false, cond, ◌||◌, length, get_or, List, [], ◌∷◌, ◌++◌, map, refl, sym, ap, subst, arith, append_assoc, length-append, Option, Some}
use Rattle.std.specs.Prelude.{IsUtf8, ◌==◌, ◌⊎◌, bytes_eq}
use mathlib.Core.Logic.{inl, inr}
use Rattle.std.specs.List.{AllByRecursion, flat_map}
use Rattle.std.specs.Char.{encode_utf8, to_ascii_lowercase}
use Rattle.std.specs.Str.{encode_utf8_all, all_scalars}
use Rattle.std.proofs.str.Laws as laws
use Rattle.std.proofs.Math.Utf8.{scalar_cases, low_scalar}
use Rattle.std.proofs.Math.Seq.{take-append_seam, get_or-append_seam}
use Rattle.std.proofs.lemmas.Bool.Decides.{nat_tests}
use Rattle.std.proofs.lemmas.List.{append-nil}
use Rattle.std.proofs.lemmas.Slice.Eq.{bytes_eq-Decides}
use Rattle.std.proofs.lemmas.Str.{IsUtf8-append, IsUtf8-take, IsUtf8-encode, IsCharBoundary-before_ascii, encode_ascii}
use Rattle.rdf_model.specs.Terms.{Text, Kind, Typed, Tagged, Term, Iri, Blank, Literal}
use Rattle.rdf_model.specs.Texts.{xsd_string, escaped, escaped_tab, text_by}
use Rattle.ntriples_model.specs.Characters.{is_letter, is_letter_or_digit, is_iri_char, is_string_char, is_pn_chars, is_pn_chars_u, is_pn_chars_base, is_label_start}
use Rattle.ntriples_model.specs.Terminals.{IsBody, done, plain, escaped as by_escape, IsIriRef, IsStringLiteral, IsIriEscape, IsStringEscape, letter, echar, IsDotted, IsBlankNodeLabel, IsTagRest, nothing, next, subtag, IsLangTag}
use Rattle.ntriples_model.specs.TermText.{IsTermText, IsLiteralText, TextsStand}
use Rattle.ntriples_model.proofs.Bodies.{FindsEscapes, is_same}
use Rattle.ntriples_model.proofs.Escapes.{iri_escapes, string_escapes, EscapeFacts, iri_facts, string_facts, ascii_utf8}
use Rattle.ntriples_model.proofs.FrontChars.{utf8_of_rest}

-- UTF-8 in parts

one_ascii : (b : ℕ) → b < 128 → IsUtf8 (b ∷ [])
one_ascii b h = ascii_utf8 (b ∷ []) (h, tt)

-- what stands before an ASCII byte is UTF-8 where all is
utf8_before : (front : Text) (b : ℕ) (rest : Text) → b < 128 → IsUtf8 (front ++ b ∷ rest) → IsUtf8 front
utf8_before front b rest h u =
    let all : Text = front ++ b ∷ rest in
    let here : length front < length all = omega (arith, length-append front (b ∷ rest)) in
    let at : get_or all (length front) 0 < 128 = subst (λ (x : ℕ). x < 128) (sym (get_or-append_seam front b rest 0)) h in
    subst IsUtf8 (take-append_seam front (b ∷ rest)) (IsUtf8-take all (length front) u (IsCharBoundary-before_ascii all (length front) here at))

utf8_between : (first last : ℕ) (text : Text) → first < 128 → last < 128 → IsUtf8 (first ∷ text ++ last ∷ []) → IsUtf8 text
utf8_between first last text f l u = utf8_before text last [] l (utf8_of_rest (first ∷ []) (text ++ last ∷ []) (one_ascii first f) u)

utf8_around : (first last : ℕ) (text : Text) → first < 128 → last < 128 → IsUtf8 text → IsUtf8 (first ∷ text ++ last ∷ [])
utf8_around first last text f l u = IsUtf8-append (first ∷ []) (text ++ last ∷ []) (one_ascii first f) (IsUtf8-append text (last ∷ []) u (one_ascii last l))

-- a body stands for UTF-8 where it is UTF-8, with whatever stands before both
body_utf8 : (fits : ℕ → Bool) (IsEscape : Text → ℕ → Type 0) (escape_at : List ℕ → Option (ℕ × ℕ)) → FindsEscapes IsEscape escape_at → ((escape : Text) (c : ℕ) → IsEscape escape c → EscapeFacts escape c)
    → (raw text : Text) → IsBody fits IsEscape raw text → (front : Text) → IsUtf8 (front ++ raw) → IsUtf8 (front ++ text)
body_utf8 fits IsEscape escape_at finds facts raw text done front u = u
body_utf8 fits IsEscape escape_at finds facts raw text (plain b raw1 text1 h body) front u =
    subst IsUtf8 (append_assoc front (b ∷ []) text1) (body_utf8 fits IsEscape escape_at finds facts raw1 text1 body (front ++ b ∷ []) (subst IsUtf8 (sym (append_assoc front (b ∷ []) raw1)) u))
body_utf8 fits IsEscape escape_at finds facts raw text (by_escape escape c raw1 text1 is body) front u =
    let e = finds.only escape c is in
    let f = facts escape c is in
    let before : IsUtf8 front = utf8_before front 92 (e.0 ++ raw1) (omega arith) (subst (λ (z : Text). IsUtf8 (front ++ (z ++ raw1))) e.1 u) in
    let behind : IsUtf8 raw1 = utf8_of_rest escape raw1 f.utf8 (utf8_of_rest front (escape ++ raw1) before u) in
    IsUtf8-append front (encode_utf8 c ++ text1) before (IsUtf8-append (encode_utf8 c) text1 (IsUtf8-encode c f.character) (body_utf8 fits IsEscape escape_at finds facts raw1 text1 body [] behind))

-- IRIs

large_fits : (b : ℕ) → 128 ≤ b → is_iri_char b ≡ true
unfolding is_iri_char
large_fits b h = grind (arith, nat_tests)

shape_fits : (c : ℕ) → laws.Shape c → is_iri_char c ≡ true → AllByRecursion (λ b. is_iri_char b ≡ true) (encode_utf8 c)
shape_fits c (laws.of1 h e) fits = subst (AllByRecursion (λ b. is_iri_char b ≡ true)) (sym e) (fits, tt)
shape_fits c (laws.of2 a b l h f s e) fits = subst (AllByRecursion (λ b. is_iri_char b ≡ true)) (sym e) (large_fits a (omega arith), (large_fits b f.0, tt))
shape_fits c (laws.of3 a b d l h f g s e) fits = subst (AllByRecursion (λ b. is_iri_char b ≡ true)) (sym e) (large_fits a (omega arith), (large_fits b f.0, (large_fits d g.0, tt)))
shape_fits c (laws.of4 a b d x l h f g k s e) fits = subst (AllByRecursion (λ b. is_iri_char b ≡ true)) (sym e) (large_fits a (omega arith), (large_fits b f.0, (large_fits d g.0, (large_fits x k.0, tt))))

all_append : (P : ℕ → Type 0) (xs ys : List ℕ) → AllByRecursion P xs → AllByRecursion P ys → AllByRecursion P (xs ++ ys)
all_append P [] ys h k = k
all_append P (x ∷ xs) ys h k = (h.0, all_append P xs ys h.1 k)

iri_fits : (raw text : Text) → IsBody is_iri_char IsIriEscape raw text → AllByRecursion (λ b. is_iri_char b ≡ true) text
iri_fits raw text done = tt
iri_fits raw text (plain b raw1 text1 h body) = (h, iri_fits raw1 text1 body)
iri_fits raw text (by_escape escape c raw1 text1 is body) =
    all_append (λ b. is_iri_char b ≡ true) (encode_utf8 c) text1 (shape_fits c (laws.shape c (scalar_cases c (iri_facts escape c is).character)) is.fits) (iri_fits raw1 text1 body)

plain_body : (fits : ℕ → Bool) (IsEscape : Text → ℕ → Type 0) (text : Text) → AllByRecursion (λ b. fits b ≡ true) text → IsBody fits IsEscape text text
plain_body fits IsEscape [] h = done
plain_body fits IsEscape (b ∷ text) h = plain b text text h.0 (plain_body fits IsEscape text h.1)

iri_text : (terminal text : Text) → IsIriRef terminal text → IsIriRef (60 ∷ text ++ 62 ∷ []) text
iri_text terminal text is =
    let raw : IsUtf8 is.raw = utf8_between 60 62 is.raw (omega arith) (omega arith) (subst IsUtf8 is.terminal_is is.utf8) in
    let utf8 : IsUtf8 text = body_utf8 is_iri_char IsIriEscape _ iri_escapes iri_facts is.raw text is.body [] raw in
    record {
      raw = text;
      terminal_is = refl;
      body = plain_body is_iri_char IsIriEscape text (iri_fits is.raw text is.body);
      utf8 = utf8_around 60 62 text (omega arith) (omega arith) utf8;
      absolute = is.absolute;
    }

-- Strings

-- the text of a byte in a string
data IsByteText (b : ℕ) (text : Text) : Type 0 where
  itself : is_string_char b ≡ true → text ≡ b ∷ [] → IsByteText b text
  named : (name : ℕ) → echar name ≡ Some b → name < 128 → b < 128 → text ≡ 92 ∷ name ∷ [] → IsByteText b text

by_canon : (b : ℕ) → IsByteText b (escaped b)
unfolding is_string_char echar
by_canon b =
    elim (b == 34) as (λ e. (b == 34) ≡ e → IsByteText b (cond {A = Text} e (92 ∷ 34 ∷ []) (cond {A = Text} (b == 92) (92 ∷ 92 ∷ []) (cond {A = Text} (b == 10) (92 ∷ 110 ∷ []) (cond {A = Text} (b == 13) (92 ∷ 114 ∷ []) (b ∷ [])))))) [
      | true ↦ λ e. let is = is_same b 34 e in named 34 (ap (λ (x : ℕ). Some x) (sym is)) (omega arith) (omega arith) refl
      | false ↦ λ e1. elim (b == 92) as (λ e. (b == 92) ≡ e → IsByteText b (cond {A = Text} e (92 ∷ 92 ∷ []) (cond {A = Text} (b == 10) (92 ∷ 110 ∷ []) (cond {A = Text} (b == 13) (92 ∷ 114 ∷ []) (b ∷ []))))) [
        | true ↦ λ e. let is = is_same b 92 e in named 92 (ap (λ (x : ℕ). Some x) (sym is)) (omega arith) (omega arith) refl
        | false ↦ λ e2. elim (b == 10) as (λ e. (b == 10) ≡ e → IsByteText b (cond {A = Text} e (92 ∷ 110 ∷ []) (cond {A = Text} (b == 13) (92 ∷ 114 ∷ []) (b ∷ [])))) [
          | true ↦ λ e. let is = is_same b 10 e in named 110 (ap (λ (x : ℕ). Some x) (sym is)) (omega arith) (omega arith) refl
          | false ↦ λ e3. elim (b == 13) as (λ e. (b == 13) ≡ e → IsByteText b (cond {A = Text} e (92 ∷ 114 ∷ []) (b ∷ []))) [
            | true ↦ λ e. let is = is_same b 13 e in named 114 (ap (λ (x : ℕ). Some x) (sym is)) (omega arith) (omega arith) refl
            | false ↦ λ e4. itself (rw (e1, e2, e3, e4) refl) refl
          ] refl
        ] refl
      ] refl
    ] refl

by_tsv : (b : ℕ) → IsByteText b (escaped_tab b)
unfolding echar
by_tsv b =
    elim (b == 9) as (λ e. (b == 9) ≡ e → IsByteText b (cond {A = Text} e (92 ∷ 116 ∷ []) (escaped b))) [
      | true ↦ λ e. let is = is_same b 9 e in named 116 (ap (λ (x : ℕ). Some x) (sym is)) (omega arith) (omega arith) refl
      | false ↦ λ e. by_canon b
    ] refl

byte_body : (b : ℕ) (piece raw form : Text) → IsByteText b piece → IsBody is_string_char IsStringEscape raw form → IsBody is_string_char IsStringEscape (piece ++ raw) (b ∷ form)
byte_body b piece raw form (itself fits is) behind = subst (λ (z : Text). IsBody is_string_char IsStringEscape (z ++ raw) (b ∷ form)) (sym is) (plain b raw form fits behind)
byte_body b piece raw form (named name means small ascii is) behind =
    subst (λ (z : Text). IsBody is_string_char IsStringEscape (z ++ raw) (b ∷ form)) (sym is)
    (subst (λ (z : Text). IsBody is_string_char IsStringEscape (92 ∷ name ∷ raw) (z ++ form)) (encode_ascii b ascii)
    (by_escape (92 ∷ name ∷ []) b raw form (inl (letter name b means)) behind))

form_body : (text_of : ℕ → Text) → ((b : ℕ) → IsByteText b (text_of b)) → (form : Text) → IsBody is_string_char IsStringEscape (flat_map text_of form) form
form_body text_of each [] = done
form_body text_of each (b ∷ form) = byte_body b (text_of b) (flat_map text_of form) form (each b) (form_body text_of each form)

byte_utf8 : (b : ℕ) (piece raw form front : Text) → IsByteText b piece → ((more : Text) → IsUtf8 (more ++ form) → IsUtf8 (more ++ raw)) → IsUtf8 (front ++ b ∷ form) → IsUtf8 (front ++ (piece ++ raw))
byte_utf8 b piece raw form front (itself fits is) behind u =
    subst (λ (z : Text). IsUtf8 (front ++ (z ++ raw))) (sym is)
    (subst IsUtf8 (append_assoc front (b ∷ []) raw) (behind (front ++ b ∷ []) (subst IsUtf8 (sym (append_assoc front (b ∷ []) form)) u)))
byte_utf8 b piece raw form front (named name means small ascii is) behind u =
    let before : IsUtf8 front = utf8_before front b form ascii u in
    let rest : IsUtf8 form = utf8_of_rest (b ∷ []) form (one_ascii b ascii) (utf8_of_rest front (b ∷ form) before u) in
    let pair : IsUtf8 (92 ∷ name ∷ []) = ascii_utf8 (92 ∷ name ∷ []) (omega arith, (small, tt)) in
    subst (λ (z : Text). IsUtf8 (front ++ (z ++ raw))) (sym is)
    (IsUtf8-append front ((92 ∷ name ∷ []) ++ raw) before (IsUtf8-append (92 ∷ name ∷ []) raw pair (behind [] rest)))

form_utf8 : (text_of : ℕ → Text) → ((b : ℕ) → IsByteText b (text_of b)) → (form front : Text) → IsUtf8 (front ++ form) → IsUtf8 (front ++ flat_map text_of form)
form_utf8 text_of each [] front u = u
form_utf8 text_of each (b ∷ form) front u = byte_utf8 b (text_of b) (flat_map text_of form) form front (each b) (λ more v. form_utf8 text_of each form more v) u

string_text : (text_of : ℕ → Text) → ((b : ℕ) → IsByteText b (text_of b)) → (terminal form : Text) → IsStringLiteral terminal form → IsStringLiteral (34 ∷ flat_map text_of form ++ 34 ∷ []) form
string_text text_of each terminal form is =
    let raw : IsUtf8 is.raw = utf8_between 34 34 is.raw (omega arith) (omega arith) (subst IsUtf8 is.terminal_is is.utf8) in
    let utf8 : IsUtf8 form = body_utf8 is_string_char IsStringEscape _ string_escapes string_facts is.raw form is.body [] raw in
    record {
      raw = flat_map text_of form;
      terminal_is = refl;
      body = form_body text_of each form;
      utf8 = utf8_around 34 34 (flat_map text_of form) (omega arith) (omega arith) (form_utf8 text_of each form [] utf8);
    }

-- Tags

lower_twice : (c : ℕ) → to_ascii_lowercase (to_ascii_lowercase c) ≡ to_ascii_lowercase c
lower_twice c = grind (arith, nat_tests)

all_lower_twice : (cs : Text) → map to_ascii_lowercase (map to_ascii_lowercase cs) ≡ map to_ascii_lowercase cs
all_lower_twice [] = refl
all_lower_twice (c ∷ cs) = ap (λ x. x ∷ map to_ascii_lowercase (map to_ascii_lowercase cs)) (lower_twice c) ∙ ap (λ z. to_ascii_lowercase c ∷ z) (all_lower_twice cs)

lower_letter : (c : ℕ) → is_letter c ≡ true → is_letter (to_ascii_lowercase c) ≡ true
unfolding is_letter
lower_letter c h = grind (arith, nat_tests)

lower_part : (c : ℕ) → is_letter_or_digit c ≡ true → is_letter_or_digit (to_ascii_lowercase c) ≡ true
unfolding is_letter_or_digit
lower_part c h = grind (arith, nat_tests)

lower_rest : (fits : ℕ → Bool) → ((c : ℕ) → fits c ≡ true → fits (to_ascii_lowercase c) ≡ true) → (cs : Text) → IsTagRest fits cs → IsTagRest fits (map to_ascii_lowercase cs)
lower_rest fits lower cs (nothing fits1) = nothing fits
lower_rest fits lower cs (next fits1 c rest h is) = next fits (to_ascii_lowercase c) (map to_ascii_lowercase rest) (lower c h) (lower_rest fits lower rest is)
lower_rest fits lower cs (subtag fits1 c rest h is) = subtag fits (to_ascii_lowercase c) (map to_ascii_lowercase rest) (lower_part c h) (lower_rest is_letter_or_digit lower_part rest is)

tag_text : (terminal tag : Text) → IsLangTag terminal tag → IsLangTag (64 ∷ tag) tag
tag_text terminal tag is = record {
  first = to_ascii_lowercase is.first;
  rest = map to_ascii_lowercase is.rest;
  terminal_is = ap (λ z. 64 ∷ z) is.text_is;
  text_is = is.text_is ∙ sym (all_lower_twice (is.first ∷ is.rest));
  begins = lower_letter is.first is.begins;
  goes_on = lower_rest is_letter lower_letter is.rest is.goes_on;
}

-- Labels

label_text : (terminal label : Text) → IsBlankNodeLabel terminal label → IsBlankNodeLabel (95 ∷ 58 ∷ label) label
label_text terminal label is = record {
  first = is.first;
  more = is.more;
  terminal_is = refl;
  text_is = is.text_is;
  characters = is.characters;
  begins = is.begins;
  goes_on = is.goes_on;
}

-- Terms

same_test : (xs ys : Text) → xs ≡ ys → bytes_eq xs ys ≡ true
same_test xs ys h = (bytes_eq-Decides xs ys).1 h

typed_text : (text_of : ℕ → Text) → ((b : ℕ) → IsByteText b (text_of b)) → (string form datatype : Text) → IsStringLiteral string form → IsIriRef (60 ∷ datatype ++ 62 ∷ []) datatype
    → IsLiteralText (text_by text_of (Literal form (Typed datatype))) form (Typed datatype)
typed_text text_of each string form datatype form_is datatype_is =
    let whole : IsStringLiteral (34 ∷ flat_map text_of form ++ 34 ∷ []) form = string_text text_of each string form form_is in
    elim (bytes_eq datatype xsd_string) as (λ e. bytes_eq datatype xsd_string ≡ e → IsLiteralText ((34 ∷ flat_map text_of form ++ 34 ∷ []) ++ cond {A = Text} e [] (94 ∷ 94 ∷ 60 ∷ datatype ++ 62 ∷ [])) form (Typed datatype)) [
      | true ↦ λ e. inl (subst (λ (z : Text). IsStringLiteral z form) (sym (append-nil _)) whole, (bytes_eq-Decides datatype xsd_string).0 e)
      | false ↦ λ e. inr (record { string = 34 ∷ flat_map text_of form ++ 34 ∷ []; iri = 60 ∷ datatype ++ 62 ∷ []; text_is = refl; form_is = whole; datatype_is = datatype_is })
    ] refl

plain_text : (text_of : ℕ → Text) → ((b : ℕ) → IsByteText b (text_of b)) → (string form datatype : Text) → IsStringLiteral string form → datatype ≡ xsd_string
    → IsLiteralText (text_by text_of (Literal form (Typed datatype))) form (Typed datatype)
plain_text text_of each string form datatype form_is is =
    let whole : IsStringLiteral (34 ∷ flat_map text_of form ++ 34 ∷ []) form = string_text text_of each string form form_is in
    inl (rw (same_test datatype xsd_string is) (subst (λ (z : Text). IsStringLiteral z form) (sym (append-nil _)) whole), is)

literal_text : (text_of : ℕ → Text) → ((b : ℕ) → IsByteText b (text_of b)) → (text form : Text) (kind : Kind) → IsLiteralText text form kind → IsLiteralText (text_by text_of (Literal form kind)) form kind
literal_text text_of each text form (Typed datatype) (inl is) = plain_text text_of each text form datatype is.0 is.1
literal_text text_of each text form (Typed datatype) (inr is) = typed_text text_of each is.string form datatype is.form_is (iri_text is.iri datatype is.datatype_is)
literal_text text_of each text form (Tagged tag) is = record {
  string = 34 ∷ flat_map text_of form ++ 34 ∷ [];
  langtag = 64 ∷ tag;
  text_is = refl;
  form_is = string_text text_of each is.string form is.form_is;
  tag_is = tag_text is.langtag tag is.tag_is;
}

term_text : (text_of : ℕ → Text) → ((b : ℕ) → IsByteText b (text_of b)) → (text : Text) (t : Term) → IsTermText text t → IsTermText (text_by text_of t) t
term_text text_of each text (Iri iri) is = iri_text text iri is
term_text text_of each text (Blank label) is = label_text text label is
term_text text_of each text (Literal form kind) is = literal_text text_of each text form kind is

-- A label under a scope

part_small : (c : ℕ) → is_letter_or_digit c ≡ true → c < 128
unfolding is_letter_or_digit
part_small c h = grind (arith, nat_tests)

part_starts : (c : ℕ) → is_letter_or_digit c ≡ true → is_label_start c ≡ true
unfolding is_letter_or_digit is_label_start is_pn_chars_u is_pn_chars_base
part_starts c h = grind (arith, nat_tests)

start_fits : (c : ℕ) → is_label_start c ≡ true → is_pn_chars c ≡ true
unfolding is_label_start is_pn_chars
start_fits c h = grind (arith, nat_tests)

or_true : (b : Bool) → (b || true) ≡ true
or_true true = refl
or_true false = refl

-- the inner characters: those of the scope, and the two full stops
inner_scope : (scope rest : List ℕ) → AllByRecursion (λ c. is_letter_or_digit c ≡ true) scope → AllByRecursion (λ c. (is_pn_chars c || c == 46) ≡ true) rest → AllByRecursion (λ c. (is_pn_chars c || c == 46) ≡ true) (scope ++ 46 ∷ 46 ∷ rest)
inner_scope [] rest h k = (or_true (is_pn_chars 46), (or_true (is_pn_chars 46), k))
inner_scope (c ∷ scope) rest h k = (rw (start_fits c (part_starts c h.0)) refl, inner_scope scope rest h.1 k)

dotted_scope : (scope : List ℕ) (first : ℕ) (more : List ℕ) → AllByRecursion (λ c. is_letter_or_digit c ≡ true) scope → is_label_start first ≡ true → (more ≡ []) ⊎ IsDotted more → IsDotted (scope ++ 46 ∷ 46 ∷ first ∷ more)
dotted_scope scope first more h begins (inl none) = record {
  inner = scope ++ 46 ∷ 46 ∷ [];
  last = first;
  is = ap (λ (z : List ℕ). scope ++ 46 ∷ 46 ∷ first ∷ z) none ∙ sym (append_assoc scope (46 ∷ 46 ∷ []) (first ∷ []));
  each = inner_scope scope [] h tt;
  ends = start_fits first begins;
}
dotted_scope scope first more h begins (inr d) = record {
  inner = scope ++ 46 ∷ 46 ∷ first ∷ d.inner;
  last = d.last;
  is = ap (λ (z : List ℕ). scope ++ 46 ∷ 46 ∷ first ∷ z) d.is ∙ sym (append_assoc scope (46 ∷ 46 ∷ first ∷ d.inner) (d.last ∷ []));
  each = inner_scope scope (first ∷ d.inner) h (rw (start_fits first begins) refl, d.each);
  ends = d.ends;
}

scope_ascii : (scope rest : List ℕ) → AllByRecursion (λ c. is_letter_or_digit c ≡ true) scope → encode_utf8_all (scope ++ rest) ≡ scope ++ encode_utf8_all rest
scope_ascii [] rest h = refl
scope_ascii (c ∷ scope) rest h = ap (λ (z : Text). z ++ encode_utf8_all (scope ++ rest)) (encode_ascii c (part_small c h.0)) ∙ ap (λ z. c ∷ z) (scope_ascii scope rest h.1)

scope_scalars : (scope rest : List ℕ) → AllByRecursion (λ c. is_letter_or_digit c ≡ true) scope → all_scalars rest ≡ true → all_scalars (scope ++ rest) ≡ true
scope_scalars [] rest h k = k
scope_scalars (c ∷ scope) rest h k = let small = part_small c h.0 in rw (low_scalar c (omega arith)) (scope_scalars scope rest h.1 k)

stops_encoded : (cs : List ℕ) → encode_utf8_all (46 ∷ 46 ∷ cs) ≡ 46 ∷ 46 ∷ encode_utf8_all cs
stops_encoded cs = ap (λ (z : Text). z ++ (z ++ encode_utf8_all cs)) (encode_ascii 46 (omega arith))

scoped : (scope terminal label : Text) → 0 < length scope → AllByRecursion (λ c. is_letter_or_digit c ≡ true) scope → IsBlankNodeLabel terminal label
    → IsBlankNodeLabel (95 ∷ 58 ∷ (scope ++ 46 ∷ 46 ∷ label)) (scope ++ 46 ∷ 46 ∷ label)
scoped [] terminal label some h is = absurd (omega arith)
scoped (c ∷ scope) terminal label some h is =
    let cs : List ℕ = 46 ∷ 46 ∷ is.first ∷ is.more in
    record {
      first = c;
      more = scope ++ cs;
      terminal_is = refl;
      text_is = sym (scope_ascii (c ∷ scope) cs h ∙ ap (λ (z : Text). c ∷ scope ++ z) (stops_encoded (is.first ∷ is.more) ∙ ap (λ (z : Text). 46 ∷ 46 ∷ z) (sym is.text_is)));
      characters = scope_scalars (c ∷ scope) cs h is.characters;
      begins = part_starts c h.0;
      goes_on = inr (dotted_scope scope is.first is.more h.1 is.begins is.goes_on);
    }

pub texts_stand : TextsStand
texts_stand = record {
  in_ntriples = term_text escaped by_canon;
  in_answers = term_text escaped_tab by_tsv;
  under_a_scope = scoped;
}
