-- IRIs and strings: the function finds exactly what the productions say.
use Rattle.std.proofs.Common.{◌≡◌, ◌∙◌, ℕ, ◌-◌, Bool, true, false, cond, ◌&&◌, ◌||◌, List, [], ◌∷◌, ◌++◌, length, take, refl, sym, ap, subst, arith, append_assoc, length-append, Option, Some, None}
use Rattle.std.specs.Prelude.{◌==◌, IsUtf8}
use Rattle.std.specs.List.{AllByRecursion}
use Rattle.std.specs.Str.{is_utf8}
use mathlib.Core.Bool.{true≢false}
use Rattle.std.proofs.lemmas.Str.{IsUtf8-from_is_utf8, is_utf8-from_IsUtf8}
use Rattle.std.proofs.Math.Seq.{take-append_seam}
use Rattle.std.proofs.lemmas.List.{append-nil}
use Rattle.rdf_model.specs.Terms.{Text}
use Rattle.ntriples_model.specs.Characters.{is_letter, is_scheme_char, is_iri_char, is_string_char}
use Rattle.ntriples_model.specs.Laws.{FindsLongest}
use Rattle.ntriples_model.specs.Terminals.{IsBody, IsAbsolute, IsIriRef, IsStringLiteral, IsIriEscape, IsStringEscape, body_at, iri_escape_at, string_escape_at, checked, is_scheme_rest, is_absolute, iri_at, string_at}
use Rattle.ntriples_model.proofs.Bodies.{Found, FindsEscapes, Parts, body_found, body_only, is_same}
use Rattle.ntriples_model.proofs.Escapes.{iri_escapes, string_escapes, both}

checked_some : (test : Text → Bool) (bytes : List ℕ) (o : Found) (text rest : Text) → checked test bytes o ≡ Some (text, rest)
    → (o ≡ Some (text, rest)) × (is_utf8 (take (length bytes - length rest) bytes) ≡ true) × (test text ≡ true)
checked_some test bytes None text rest h = cc
checked_some test bytes (Some p) text rest h =
    elim (is_utf8 (take (length bytes - length p.1) bytes) && test p.0) as (λ e. (is_utf8 (take (length bytes - length p.1) bytes) && test p.0) ≡ e → cond {A = Found} e (Some p) None ≡ Some (text, rest)
    → (let o : Found = Some p in o ≡ Some (text, rest)) × (is_utf8 (take (length bytes - length rest) bytes) ≡ true) × (test text ≡ true)) [
      | true ↦ λ e h.
          let pair : p ≡ (text, rest) = cc in
          let tests = both (is_utf8 (take (length bytes - length p.1) bytes)) (test p.0) e in
          (ap (λ (q : Text × Text). Some q) pair, subst (λ (q : Text × Text). is_utf8 (take (length bytes - length q.1) bytes) ≡ true) pair tests.0, subst (λ (q : Text × Text). test q.0 ≡ true) pair tests.1)
      | false ↦ λ e h. cc
    ] refl h

-- a front, by what is behind it
front_is : (front rest : List ℕ) → take (length (front ++ rest) - length rest) (front ++ rest) ≡ front
front_is front rest =
    let n : length (front ++ rest) - length rest ≡ length front = omega (arith, length-append front rest) in
    rw n (take-append_seam front rest)

pub terminal_and : (start close : ℕ) (raw rest : List ℕ) → (start ∷ raw ++ close ∷ []) ++ rest ≡ start ∷ (raw ++ close ∷ rest)
terminal_and start close raw rest = ap (λ z. start ∷ z) (append_assoc raw (close ∷ []) rest)

-- a terminal between two characters
record IsQuoted (start close : ℕ) (fits : ℕ → Bool) (IsEscape : Text → ℕ → Type 0) (test : Text → Bool) (bytes text rest : List ℕ) : Type 0 where
  raw : Text
  bytes_are : bytes ≡ (start ∷ raw ++ close ∷ []) ++ rest
  body : IsBody fits IsEscape raw text
  utf8 : IsUtf8 (start ∷ raw ++ close ∷ [])
  passes : test text ≡ true

quoted_found : (start close : ℕ) (fits : ℕ → Bool) (IsEscape : Text → ℕ → Type 0) (escape_at : List ℕ → Option (ℕ × ℕ)) (test : Text → Bool) → FindsEscapes IsEscape escape_at
    → (bs text rest : List ℕ) → checked test (start ∷ bs) (body_at fits close escape_at 0 bs) ≡ Some (text, rest) → IsQuoted start close fits IsEscape test (start ∷ bs) text rest
quoted_found start close fits IsEscape escape_at test f bs text rest h =
    let c = checked_some test (start ∷ bs) (body_at fits close escape_at 0 bs) text rest h in
    let s = body_found fits close IsEscape escape_at f bs 0 text rest c.0 in
    let bytes : start ∷ bs ≡ (start ∷ s.raw ++ close ∷ []) ++ rest = ap (λ z. start ∷ z) s.bytes_are ∙ sym (terminal_and start close s.raw rest) in
    let utf8 : is_utf8 (start ∷ s.raw ++ close ∷ []) ≡ true =
    ap is_utf8 (sym (front_is (start ∷ s.raw ++ close ∷ []) rest)) ∙ ap (λ (z : List ℕ). is_utf8 (take (length z - length rest) z)) (sym bytes) ∙ c.1 in
    record { raw = s.raw; bytes_are = bytes; body = s.body; utf8 = IsUtf8-from_is_utf8 _ utf8; passes = c.2 }

quoted_only : (start close : ℕ) (fits : ℕ → Bool) (IsEscape : Text → ℕ → Type 0) (escape_at : List ℕ → Option (ℕ × ℕ)) (test : Text → Bool) → FindsEscapes IsEscape escape_at → Parts fits close
    → (raw text rest : List ℕ) → IsBody fits IsEscape raw text → IsUtf8 (start ∷ raw ++ close ∷ []) → test text ≡ true
    → checked test (start ∷ (raw ++ close ∷ rest)) (body_at fits close escape_at 0 (raw ++ close ∷ rest)) ≡ Some (text, rest)
quoted_only start close fits IsEscape escape_at test f parts raw text rest body utf8 passes =
    let whole : List ℕ = start ∷ (raw ++ close ∷ rest) in
    let front : take (length whole - length rest) whole ≡ start ∷ raw ++ close ∷ [] =
    ap (λ (z : List ℕ). take (length z - length rest) z) (sym (terminal_and start close raw rest)) ∙ front_is (start ∷ raw ++ close ∷ []) rest in
    let fine : is_utf8 (take (length whole - length rest) whole) ≡ true = ap is_utf8 front ∙ is_utf8-from_IsUtf8 _ utf8 in
    ap (checked test whole) (body_only fits close IsEscape escape_at f parts raw text rest body) ∙ rw (fine, passes) refl

-- Absolute IRIs

record IsScheme (cs : Text) : Type 0 where
  scheme : Text
  rest : Text
  is : cs ≡ scheme ++ 58 ∷ rest
  goes_on : AllByRecursion (λ c. is_scheme_char c ≡ true) scheme

scheme_found : (cs : Text) → is_scheme_rest cs ≡ true → IsScheme cs
scheme_found [] h = absurd (true≢false (sym h))
scheme_found (c ∷ cs) h =
    elim (c == 58) as (λ e. (c == 58) ≡ e → (e || (is_scheme_char c && is_scheme_rest cs)) ≡ true → IsScheme (c ∷ cs)) [
      | true ↦ λ e h. record { scheme = []; rest = cs; is = ap (λ x. x ∷ cs) (is_same c 58 e); goes_on = tt }
      | false ↦ λ e h.
          let p = both (is_scheme_char c) (is_scheme_rest cs) h in
          let inner = scheme_found cs p.1 in
          record { scheme = c ∷ inner.scheme; rest = inner.rest; is = ap (λ z. c ∷ z) inner.is; goes_on = (p.0, inner.goes_on) }
    ] refl h

or_true : (b : Bool) → (b || true) ≡ true
or_true true = refl
or_true false = refl

scheme_only : (scheme rest : Text) → AllByRecursion (λ c. is_scheme_char c ≡ true) scheme → is_scheme_rest (scheme ++ 58 ∷ rest) ≡ true
scheme_only [] rest h = refl
scheme_only (c ∷ cs) rest h = rw (h.0, scheme_only cs rest h.1) (or_true (c == 58))

absolute_found : (text : Text) → is_absolute text ≡ true → IsAbsolute text
unfolding is_absolute
absolute_found [] h = absurd (true≢false (sym h))
absolute_found (c ∷ cs) h =
    let p = both (is_letter c) (is_scheme_rest cs) h in
    let s = scheme_found cs p.1 in
    record { first = c; scheme = s.scheme; rest = s.rest; text_is = ap (λ z. c ∷ z) s.is; begins = p.0; goes_on = s.goes_on }

pub absolute_only : (text : Text) → IsAbsolute text → is_absolute text ≡ true
unfolding is_absolute
absolute_only text h = ap is_absolute h.text_is ∙ rw (h.begins) (scheme_only h.scheme h.rest h.goes_on)

-- IRIs

pub iri_parts : Parts is_iri_char 62
unfolding is_iri_char
iri_parts = record { close_ends = refl; backslash_escapes = refl; apart = refl }

iri_found : (bytes text rest : List ℕ) → iri_at bytes ≡ Some (text, rest) → (terminal : Text) × (bytes ≡ terminal ++ rest) × IsIriRef terminal text
unfolding iri_at
iri_found [] text rest h = cc
iri_found (b ∷ bs) text rest h =
    elim (b == 60) as (λ e. (b == 60) ≡ e → cond {A = Found} e (checked is_absolute (b ∷ bs) (body_at is_iri_char 62 iri_escape_at 0 bs)) None ≡ Some (text, rest) → (terminal : Text) × (b ∷ bs ≡ terminal ++ rest) × IsIriRef terminal text) [
      | true ↦ λ e h.
          let same : b ≡ 60 = is_same b 60 e in
          let h2 : checked is_absolute (60 ∷ bs) (body_at is_iri_char 62 iri_escape_at 0 bs) ≡ Some (text, rest) = subst (λ (x : ℕ). checked is_absolute (x ∷ bs) (body_at is_iri_char 62 iri_escape_at 0 bs) ≡ Some (text, rest)) same h in
          let q = quoted_found 60 62 is_iri_char IsIriEscape iri_escape_at is_absolute iri_escapes bs text rest h2 in (
            60 ∷ q.raw ++ 62 ∷ [],
            ap (λ x. x ∷ bs) same ∙ q.bytes_are,
            record { raw = q.raw; terminal_is = refl; body = q.body; utf8 = q.utf8; absolute = absolute_found text q.passes },
          )
      | false ↦ λ e h. cc
    ] refl h

iri_only : (terminal text rest : List ℕ) → IsIriRef terminal text → iri_at (terminal ++ rest) ≡ Some (text, rest)
unfolding iri_at
iri_only terminal text rest h =
    ap (λ (z : List ℕ). iri_at (z ++ rest)) h.terminal_is ∙ ap iri_at (terminal_and 60 62 h.raw rest)
    ∙ quoted_only 60 62 is_iri_char IsIriEscape iri_escape_at is_absolute iri_escapes iri_parts h.raw text rest h.body (subst IsUtf8 h.terminal_is h.utf8) (absolute_only text h.absolute)

-- where what is found is the one terminal
exactly : (IsTerminal : Text → Text → Type 0) (at : List ℕ → Option (Text × Text))
    → ((bytes text rest : List ℕ) → at bytes ≡ Some (text, rest) → (terminal : Text) × (bytes ≡ terminal ++ rest) × IsTerminal terminal text)
    → ((terminal text rest : List ℕ) → IsTerminal terminal text → at (terminal ++ rest) ≡ Some (text, rest)) → FindsLongest IsTerminal at
exactly IsTerminal at found only = record {
  found = found;
  longest = λ terminal text rest h. ((text, rest), only terminal text rest h, omega arith);
  whole = λ terminal text h. ap at (sym (append-nil terminal)) ∙ only terminal text [] h;
}

pub iris : FindsLongest IsIriRef iri_at
iris = exactly IsIriRef iri_at iri_found iri_only

-- Strings

pub string_parts : Parts is_string_char 34
unfolding is_string_char
string_parts = record { close_ends = refl; backslash_escapes = refl; apart = refl }

string_found : (bytes text rest : List ℕ) → string_at bytes ≡ Some (text, rest) → (terminal : Text) × (bytes ≡ terminal ++ rest) × IsStringLiteral terminal text
unfolding string_at
string_found [] text rest h = cc
string_found (b ∷ bs) text rest h =
    elim (b == 34) as (λ e. (b == 34) ≡ e → cond {A = Found} e (checked (λ t. true) (b ∷ bs) (body_at is_string_char 34 string_escape_at 0 bs)) None ≡ Some (text, rest) → (terminal : Text) × (b ∷ bs ≡ terminal ++ rest) × IsStringLiteral terminal text) [
      | true ↦ λ e h.
          let same : b ≡ 34 = is_same b 34 e in
          let h2 : checked (λ t. true) (34 ∷ bs) (body_at is_string_char 34 string_escape_at 0 bs) ≡ Some (text, rest) = subst (λ (x : ℕ). checked (λ t. true) (x ∷ bs) (body_at is_string_char 34 string_escape_at 0 bs) ≡ Some (text, rest)) same h in
          let q = quoted_found 34 34 is_string_char IsStringEscape string_escape_at (λ t. true) string_escapes bs text rest h2 in (
            34 ∷ q.raw ++ 34 ∷ [],
            ap (λ x. x ∷ bs) same ∙ q.bytes_are,
            record { raw = q.raw; terminal_is = refl; body = q.body; utf8 = q.utf8 },
          )
      | false ↦ λ e h. cc
    ] refl h

string_only : (terminal text rest : List ℕ) → IsStringLiteral terminal text → string_at (terminal ++ rest) ≡ Some (text, rest)
unfolding string_at
string_only terminal text rest h =
    ap (λ (z : List ℕ). string_at (z ++ rest)) h.terminal_is ∙ ap string_at (terminal_and 34 34 h.raw rest)
    ∙ quoted_only 34 34 is_string_char IsStringEscape string_escape_at (λ t. true) string_escapes string_parts h.raw text rest h.body (subst IsUtf8 h.terminal_is h.utf8) refl

pub strings : FindsLongest IsStringLiteral string_at
strings = exactly IsStringLiteral string_at string_found string_only
