-- A body, piece by piece.
use Rattle.std.proofs.Common.{◌≡◌, ◌∙◌, ℕ, suc, ◌+◌, ◌-◌, ◌<◌, ◌≤◌, Bool, true, false, cond, List, [], ◌∷◌, ◌++◌, length, get_or, take, drop, refl, sym, ap, subst, append_assoc, length-append, arith, Option, Some, None}
use Rattle.std.specs.Prelude.{IsUtf8, encode_utf8, ◌==◌, unwrap_or}
use Rattle.memchr.specs.Find.{IsFirstByte, is_byte2}
use Rattle.std.specs.List.{list_all, prefix_len}
use mathlib.Core.Bool.{true≢false}
use Rattle.std.proofs.lemmas.Bool.Decides.{nat_tests}
use Rattle.std.proofs.lemmas.List.{append-nil, length-take, length-drop, drop-drop, take-take, get_or-take}
use Rattle.std.proofs.lemmas.List.Sums.{AllPass-from_list_all, prefix_len_is, prefix_len-le-length, prefix_len_stops}
use Rattle.std.proofs.lemmas.Str.{IsUtf8-append, IsUtf8-nil, IsUtf8-take, IsCharBoundary-before_ascii}
use Rattle.std.proofs.Math.Seq.{take-add}
use Rattle.rdf_model.specs.Terms.{Text}
use Rattle.ntriples_model.specs.Characters.{is_iri_char, is_string_char}
use Rattle.ntriples_model.specs.Terminals.{body_at, longer, IsIriEscape, IsStringEscape}
use Rattle.ntriples_model.proofs.Bodies.{Found, FindsEscapes, Parts, Spells, body_found, longer_some, skipped}
use Rattle.ntriples_model.proofs.Escapes.{iri_escapes, string_escapes, ascii_utf8, EscapeFacts, iri_facts, string_facts}
use Rattle.ntriples_model.proofs.FrontChars.{utf8_of_rest}
use Rattle.ntriples_model.proofs.Quoted.{iri_parts, string_parts}
use Rattle.rdf_term.specs.declared.body.Form.{Form}
use Rattle.rdf_term.specs.declared.body.Form.TheVariants.{Iri, Quoted}
use Rattle.rdf_term.specs.Body.{fits_of, close_of, escape_of, body_of, StopsAt, IsRun, IsPiece, NoBody}
use Rattle.rdf_term.specs.declared.body.Stop.TheVariants.{Closed, Escape, Bad}

-- The two forms at once

abbrev escapes_of : Form → Text → ℕ → Type 0
escapes_of Iri = IsIriEscape
escapes_of Quoted = IsStringEscape

pub finds_escapes : (form : Form) → FindsEscapes (escapes_of form) (escape_of form)
finds_escapes Iri = iri_escapes
finds_escapes Quoted = string_escapes

parts : (form : Form) → Parts (fits_of form) (close_of form)
parts Iri = iri_parts
parts Quoted = string_parts

facts : (form : Form) (escape : Text) (c : ℕ) → escapes_of form escape c → EscapeFacts escape c
facts Iri escape c is = iri_facts escape c is
facts Quoted escape c is = string_facts escape c is

iri_stops : (b : ℕ) → is_iri_char b ≡ false → b < 128
unfolding is_iri_char
iri_stops b h = grind (arith, nat_tests)

string_stops : (b : ℕ) → is_string_char b ≡ false → b < 128
unfolding is_string_char
string_stops b h = grind (arith, nat_tests)

-- what doesn't stand for itself is ASCII
ascii_stops : (form : Form) (b : ℕ) → fits_of form b ≡ false → b < 128
ascii_stops Iri b h = iri_stops b h
ascii_stops Quoted b h = string_stops b h

-- what ends the body or begins an escape doesn't stand for itself
iri_end : (b : ℕ) → is_byte2 62 92 b ≡ true → is_iri_char b ≡ false
unfolding is_iri_char
iri_end b h = grind (arith, nat_tests)

string_end : (b : ℕ) → is_byte2 34 92 b ≡ true → is_string_char b ≡ false
unfolding is_string_char
string_end b h = grind (arith, nat_tests)

ends : (form : Form) (b : ℕ) → is_byte2 (close_of form) 92 b ≡ true → fits_of form b ≡ false
ends Iri b h = iri_end b h
ends Quoted b h = string_end b h

-- a run that ends in a front, and one that goes on behind it
pub ends_in_front : (fits : ℕ → Bool) (xs ys : List ℕ) → prefix_len fits xs < length xs → prefix_len fits (xs ++ ys) ≡ prefix_len fits xs
ends_in_front fits [] ys less = absurd (omega arith)
ends_in_front fits (x ∷ xs) ys less =
    elim (fits x) as (λ e. cond {A = ℕ} e (1 + prefix_len fits xs) 0 < suc (length xs) → cond {A = ℕ} e (1 + prefix_len fits (xs ++ ys)) 0 ≡ cond {A = ℕ} e (1 + prefix_len fits xs) 0) [
      | true ↦ λ h. ap (λ n. 1 + n) (ends_in_front fits xs ys (omega (arith, h)))
      | false ↦ λ h. refl
    ] less

pub goes_on_behind : (fits : ℕ → Bool) (xs ys : List ℕ) → length xs ≤ prefix_len fits xs → prefix_len fits xs + prefix_len fits ys ≡ prefix_len fits (xs ++ ys)
goes_on_behind fits [] ys all = omega arith
goes_on_behind fits (x ∷ xs) ys all =
    elim (fits x) as (λ e. suc (length xs) ≤ cond {A = ℕ} e (1 + prefix_len fits xs) 0 → cond {A = ℕ} e (1 + prefix_len fits xs) 0 + prefix_len fits ys ≡ cond {A = ℕ} e (1 + prefix_len fits (xs ++ ys)) 0) [
      | true ↦ λ h. let more = goes_on_behind fits xs ys (omega (arith, h)) in omega (arith, more)
      | false ↦ λ h. absurd (omega (arith, h))
    ] all

-- where all before the first such byte stand for themselves, they are the run
pub run_to_end : (form : Form) (bytes : List ℕ) (r : Option ℕ) (n : ℕ) → IsFirstByte (is_byte2 (close_of form) 92) bytes r → n ≡ unwrap_or r (length bytes)
    → list_all (fits_of form) (take n bytes) ≡ true → n ≡ prefix_len (fits_of form) bytes
run_to_end form bytes r n first is fit = sym (prefix_len_is (fits_of form) bytes n 0 (within r first is) before (here r first is)) where
  within : (r : Option ℕ) → IsFirstByte (is_byte2 (close_of form) 92) bytes r → n ≡ unwrap_or r (length bytes) → n ≤ length bytes
  within None first is = omega (arith, is)
  within (Some i) first is = omega (arith, is, first.0.high)

  before : (k : ℕ) → k < n → fits_of form (get_or bytes k 0) ≡ true
  before k h =
      let l : k < length (take n bytes) = omega (arith, length-take n bytes, within r first is) in
      ap (fits_of form) (sym (get_or-take n bytes k 0 h)) ∙ AllPass-from_list_all (fits_of form) (take n bytes) fit k 0 l

  here : (r : Option ℕ) → IsFirstByte (is_byte2 (close_of form) 92) bytes r → n ≡ unwrap_or r (length bytes) → n < length bytes → fits_of form (get_or bytes n 0) ≡ false
  here None first is h = absurd (omega (arith, is))
  here (Some i) first is h = ap (λ k. fits_of form (get_or bytes k 0)) is ∙ ends form (get_or bytes i 0) first.1

found : (form : Form) (bytes text rest : List ℕ) → body_of form bytes ≡ Some (text, rest) → Spells (fits_of form) (close_of form) (escapes_of form) bytes text rest
found form bytes text rest h = body_found (fits_of form) (close_of form) (escapes_of form) (escape_of form) (finds_escapes form) bytes 0 text rest h

pub shorter : (form : Form) (bytes text rest : List ℕ) → body_of form bytes ≡ Some (text, rest) → length rest < length bytes
shorter form bytes text rest h =
    let s = found form bytes text rest h in
    omega (arith, ap length s.bytes_are, length-append s.raw (close_of form ∷ rest))

-- Longer texts

pub longer_longer : (a b : Text) (o : Found) → longer a (longer b o) ≡ longer (a ++ b) o
longer_longer a b None = refl
longer_longer a b (Some p) = ap (λ (z : Text). Some (let q : Text × Text = (z, p.1) in q)) (sym (append_assoc a b p.0))

pub longer_nil : (o : Found) → longer [] o ≡ o
longer_nil None = refl
longer_nil (Some p) = refl

-- The whole, and nothing yet
pub no_piece : (form : Form) (bytes : List ℕ) → IsPiece form bytes [] 0
no_piece form bytes = record { goes_on = sym (longer_nil (body_of form bytes)); utf8 = IsUtf8-nil; within = omega arith; no_longer = omega arith }

-- A piece, and another behind it
pub pieces : (form : Form) (bytes a b : List ℕ) (n m : ℕ) → IsPiece form bytes a n → IsPiece form (drop n bytes) b m → IsPiece form bytes (a ++ b) (n + m)
pieces form bytes a b n m p q = record {
  goes_on = p.goes_on ∙ ap (longer a) q.goes_on ∙ longer_longer a b _ ∙ ap (λ (z : List ℕ). longer (a ++ b) (body_of form z)) (drop-drop m n bytes);
  utf8 = subst IsUtf8 (sym (take-add n m bytes)) (IsUtf8-append _ _ p.utf8 q.utf8);
  within = omega (arith, p.within, q.within, length-drop n bytes);
  no_longer = omega (arith, p.no_longer, q.no_longer, length-append a b);
}

-- A run of bytes that stand for themselves

is_same : (a b : ℕ) → (a == b) ≡ true → a ≡ b
is_same a b h = grind (arith, nat_tests)

not_close : (fits : ℕ → Bool) (close b : ℕ) → fits close ≡ false → fits b ≡ true → (b == close) ≡ false
not_close fits close b h t = elim (b == close) as (λ e. (b == close) ≡ e → e ≡ false) [
  | true ↦ λ e. absurd (true≢false (sym t ∙ ap fits (is_same b close e) ∙ h))
  | false ↦ λ e. refl
] refl

run_read : (fits : ℕ → Bool) (close : ℕ) (escape_at : List ℕ → Option (ℕ × ℕ)) → Parts fits close → (bs : List ℕ)
    → body_at fits close escape_at 0 bs ≡ longer (take (prefix_len fits bs) bs) (body_at fits close escape_at 0 (drop (prefix_len fits bs) bs))
unfolding body_at
run_read fits close escape_at parts [] = refl
run_read fits close escape_at parts (b ∷ bs) =
    elim (fits b) as (λ e. fits b ≡ e → body_at fits close escape_at 0 (b ∷ bs) ≡ longer (take (cond {A = ℕ} e (1 + prefix_len fits bs) 0) (b ∷ bs)) (body_at fits close escape_at 0 (drop (cond {A = ℕ} e (1 + prefix_len fits bs) 0) (b ∷ bs)))) [
      | true ↦ λ e.
          let one : 1 + prefix_len fits bs ≡ suc (prefix_len fits bs) = omega arith in
          rw (one, not_close fits close b parts.close_ends e, e) (ap (longer (b ∷ [])) (run_read fits close escape_at parts bs) ∙ longer_longer (b ∷ []) (take (prefix_len fits bs) bs) _)
      | false ↦ λ e. sym (longer_nil _)
    ] refl

run_goes_on : (form : Form) (bytes : List ℕ) → body_of form bytes ≡ longer (take (prefix_len (fits_of form) bytes) bytes) (body_of form (drop (prefix_len (fits_of form) bytes) bytes))
run_goes_on form bytes = run_read (fits_of form) (close_of form) (escape_of form) (parts form) bytes

pub run_piece : (form : Form) (bytes : List ℕ) (n : ℕ) → n ≡ prefix_len (fits_of form) bytes → IsUtf8 (take n bytes) → IsPiece form bytes (take n bytes) n
run_piece form bytes n is u =
    let le = prefix_len-le-length (fits_of form) bytes in
    record {
      goes_on = subst (λ (k : ℕ). body_of form bytes ≡ longer (take k bytes) (body_of form (drop k bytes))) (sym is) (run_goes_on form bytes);
      utf8 = u;
      within = omega arith;
      no_longer = omega (arith, length-take n bytes);
    }

stops_again : (fits : ℕ → Bool) (bs : List ℕ) → prefix_len fits (drop (prefix_len fits bs) bs) ≡ 0
stops_again fits [] = refl
stops_again fits (b ∷ bs) =
    elim (fits b) as (λ e. fits b ≡ e → prefix_len fits (drop (cond {A = ℕ} e (1 + prefix_len fits bs) 0) (b ∷ bs)) ≡ 0) [
      | true ↦ λ e. let one : 1 + prefix_len fits bs ≡ suc (prefix_len fits bs) = omega arith in rw one (stops_again fits bs)
      | false ↦ λ e. rw e refl
    ] refl

pub run_is : (form : Form) (bytes : List ℕ) (n : ℕ) (run : Text) → n ≡ prefix_len (fits_of form) bytes → run ≡ take n bytes → IsUtf8 (take n bytes) → IsRun form bytes run
run_is form bytes n run is same u =
    let le = prefix_len-le-length (fits_of form) bytes in
    let size : n ≡ length run = omega (arith, length-take n bytes, ap length same) in
    record {
      piece = subst (λ (k : ℕ). IsPiece form bytes run k) size (subst (λ (t : Text). IsPiece form bytes t n) (sym same) (run_piece form bytes n is u));
      ends = ap (λ (k : ℕ). prefix_len (fits_of form) (drop k bytes)) (sym size ∙ is) ∙ stops_again (fits_of form) bytes;
    }

-- a front of a front
front_of_front : (n m : ℕ) (bs : List ℕ) → n ≤ m → take m bs ≡ take n bs ++ take (m - n) (drop n bs)
front_of_front n m bs h =
    let e : m ≡ n + (m - n) = omega arith in
    ap (λ (k : ℕ). take k bs) e ∙ take-add n (m - n) bs

-- a run that isn't UTF-8 spoils the body
pub bad_run : (form : Form) (bytes : List ℕ) (n : ℕ) → n ≡ prefix_len (fits_of form) bytes → (IsUtf8 (take n bytes) → ⊥) → NoBody form bytes
bad_run form bytes n is bad text rest h u =
    let le = prefix_len-le-length (fits_of form) bytes in
    let goes_on : body_of form bytes ≡ longer (take n bytes) (body_of form (drop n bytes)) =
    subst (λ (k : ℕ). body_of form bytes ≡ longer (take k bytes) (body_of form (drop k bytes))) (sym is) (run_goes_on form bytes) in
    let inner = longer_some (take n bytes) (body_of form (drop n bytes)) text rest (sym goes_on ∙ h) in
    let less = shorter form (drop n bytes) inner.0 rest inner.1 in
    let m : ℕ = length bytes - length rest in
    let before : n < m = omega (arith, length-drop n bytes, less) in
    let stops : fits_of form (get_or bytes n 0) ≡ false = ap (λ (k : ℕ). fits_of form (get_or bytes k 0)) is ∙ prefix_len_stops (fits_of form) bytes 0 (omega (arith, length-drop n bytes, less)) in
    let small : get_or (take m bytes) n 0 < 128 = subst (λ (k : ℕ). k < 128) (sym (get_or-take m bytes n 0 before)) (ascii_stops form (get_or bytes n 0) stops) in
    let here : n < length (take m bytes) = omega (arith, length-take m bytes, length-drop n bytes, less) in
    let front = IsUtf8-take (take m bytes) n u (IsCharBoundary-before_ascii (take m bytes) n here small) in
    bad (subst IsUtf8 (take-take n m bytes (omega arith)) front)

-- where no body stands behind a piece, none begins with it
pub piece_none : (form : Form) (bytes piece : List ℕ) (n : ℕ) → IsPiece form bytes piece n → NoBody form (drop n bytes) → NoBody form bytes
piece_none form bytes piece n p none text rest h u =
    let inner = longer_some piece (body_of form (drop n bytes)) text rest (sym p.goes_on ∙ h) in
    let less = shorter form (drop n bytes) inner.0 rest inner.1 in
    let m : ℕ = length bytes - length rest in
    let split = front_of_front n m bytes (omega (arith, length-drop n bytes, less)) in
    let same : m - n ≡ length (drop n bytes) - length rest = omega (arith, length-drop n bytes) in
    let behind : IsUtf8 (take (m - n) (drop n bytes)) = utf8_of_rest (take n bytes) _ p.utf8 (subst IsUtf8 split u) in
    none inner.0 rest inner.1 (subst (λ (k : ℕ). IsUtf8 (take k (drop n bytes))) same behind)

-- a body that isn't there
pub nothing_there : (form : Form) (bytes : List ℕ) → body_of form bytes ≡ None → NoBody form bytes
nothing_there form bytes none text rest h u = let clash : (let o : Found = None in o) ≡ Some (text, rest) = sym none ∙ h in cc

-- the closing character behind a piece
pub record IsWhole (form : Form) (bytes text : List ℕ) (n : ℕ) : Type 0 where
  pub found : body_of form bytes ≡ Some (text, drop n bytes)
  pub utf8 : IsUtf8 (take n bytes)

pub piece_closed : (form : Form) (bytes piece : List ℕ) (n : ℕ) → IsPiece form bytes piece n → body_of form (drop n bytes) ≡ Some ([], drop 1 (drop n bytes)) → IsUtf8 (take 1 (drop n bytes))
    → IsWhole form bytes piece (n + 1)
piece_closed form bytes piece n p closed u = record {
  found = p.goes_on ∙ ap (longer piece) closed ∙ ap (λ (z : Text). Some (let q : Text × Text = (z, drop 1 (drop n bytes)) in q)) (append-nil piece)
      ∙ ap (λ (z : Text). Some (let q : Text × Text = (piece, z) in q)) (drop-drop 1 n bytes);
  utf8 = subst IsUtf8 (sym (take-add n 1 bytes)) (IsUtf8-append _ _ p.utf8 u);
}

-- Where nothing stands for itself

pub no_fit : (fits : ℕ → Bool) (b : ℕ) (bs : List ℕ) → prefix_len fits (b ∷ bs) ≡ 0 → fits b ≡ false
no_fit fits b bs h =
    elim (fits b) as (λ e. cond {A = ℕ} e (1 + prefix_len fits bs) 0 ≡ 0 → e ≡ false) [ true ↦ λ h. absurd (omega arith) | false ↦ λ h. refl ] h

same_number : (a b : ℕ) → a ≡ b → (a == b) ≡ true
same_number a b h = grind (arith, nat_tests)

other : (a b : ℕ) → (a ≡ b → ⊥) → (a == b) ≡ false
other a b h = grind (arith, nat_tests)

pub at_end : (form : Form) → body_of form [] ≡ None
unfolding body_at
at_end form = refl

pub at_close : (form : Form) (b : ℕ) (bs : List ℕ) → b ≡ close_of form → body_of form (b ∷ bs) ≡ Some ([], bs)
unfolding body_at
at_close form b bs h = rw (same_number b (close_of form) h) refl

pub at_other : (form : Form) (b : ℕ) (bs : List ℕ) → (b ≡ close_of form → ⊥) → fits_of form b ≡ false → (b ≡ 92 → ⊥) → body_of form (b ∷ bs) ≡ None
unfolding body_at
at_other form b bs no_close none no_escape = rw (other b (close_of form) no_close, none, other b 92 no_escape) refl

pub at_bad_escape : (form : Form) (bs : List ℕ) → escape_of form bs ≡ None → body_of form (92 ∷ bs) ≡ None
unfolding body_at
at_bad_escape form bs h = rw ((parts form).apart, (parts form).backslash_escapes, h) refl

escape_goes_on : (form : Form) (bs : List ℕ) (c size : ℕ) → escape_of form bs ≡ Some (c, size) → body_of form (92 ∷ bs) ≡ longer (encode_utf8 c) (body_of form (drop size bs))
unfolding body_at
escape_goes_on form bs c size h = rw ((parts form).apart, (parts form).backslash_escapes, h) (ap (longer (encode_utf8 c)) (skipped (fits_of form) (close_of form) (escape_of form) bs size))

pub at_escape : (form : Form) (bs : List ℕ) (c size : ℕ) → escape_of form bs ≡ Some (c, size) → IsPiece form (92 ∷ bs) (encode_utf8 c) (size + 1)
at_escape form bs c size h =
    let e = (finds_escapes form).found bs c size h in
    let f = facts form (92 ∷ take size bs) c e.0 in
    let one : size + 1 ≡ suc size = omega arith in
    record {
      goes_on = escape_goes_on form bs c size h ∙ ap (λ (k : ℕ). longer (encode_utf8 c) (body_of form (drop k (92 ∷ bs)))) (sym one);
      utf8 = subst (λ (k : ℕ). IsUtf8 (take k (92 ∷ bs))) (sym one) f.utf8;
      within = omega (arith, e.1);
      no_longer = omega (arith, f.short, length-take size bs, e.1);
    }

-- What stands at a stop

close_utf8 : (form : Form) → IsUtf8 (close_of form ∷ [])
close_utf8 Iri = ascii_utf8 (62 ∷ []) (omega arith, tt)
close_utf8 Quoted = ascii_utf8 (34 ∷ []) (omega arith, tt)

pub stop_closed : (form : Form) (bytes : List ℕ) (b : ℕ) (bs : List ℕ) → bytes ≡ b ∷ bs → b ≡ close_of form → StopsAt form bytes Closed
stop_closed form bytes b bs is close =
    subst (λ (z : List ℕ). StopsAt form z Closed) (sym is)
    (omega arith, at_close form b bs close, subst (λ (x : ℕ). IsUtf8 (x ∷ [])) (sym close) (close_utf8 form))

pub stop_other : (form : Form) (bytes : List ℕ) (b : ℕ) (bs : List ℕ) → bytes ≡ b ∷ bs → prefix_len (fits_of form) bytes ≡ 0 → (b ≡ close_of form → ⊥) → (b ≡ 92 → ⊥) → StopsAt form bytes Bad
stop_other form bytes b bs is none no_close no_escape =
    ap (body_of form) is ∙ at_other form b bs no_close (no_fit (fits_of form) b bs (ap (prefix_len (fits_of form)) (sym is) ∙ none)) no_escape

pub stop_bad_escape : (form : Form) (bytes : List ℕ) (b : ℕ) (bs : List ℕ) → bytes ≡ b ∷ bs → b ≡ 92 → escape_of form bs ≡ None → StopsAt form bytes Bad
stop_bad_escape form bytes b bs is escape none = ap (body_of form) (is ∙ ap (λ x. x ∷ bs) escape) ∙ at_bad_escape form bs none

pub stop_escape : (form : Form) (bytes : List ℕ) (b : ℕ) (bs : List ℕ) → bytes ≡ b ∷ bs → b ≡ 92 → (c size : ℕ) → escape_of form bs ≡ Some (c, size) → StopsAt form bytes (Escape c (size + 1))
stop_escape form bytes b bs is escape c size h =
    (omega arith, subst (λ (z : List ℕ). IsPiece form z (encode_utf8 c) (size + 1)) (sym (is ∙ ap (λ x. x ∷ bs) escape)) (at_escape form bs c size h))
