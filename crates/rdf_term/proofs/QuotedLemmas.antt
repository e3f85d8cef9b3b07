-- IRIs and strings, from what was read of their bodies.
use Rattle.std.proofs.Common.{◌≡◌, ◌≢◌, ◌∙◌, ◌<◌, ◌≤◌, ◌+◌, ◌-◌, ℕ, suc, Bool, true, false, cond, ◌&&◌, length, List, [], ◌∷◌, ◌++◌, take, drop, refl, sym, length-append, ap, arith, Option, Some, None}
use Rattle.std.specs.Prelude.{IsUtf8, ◌==◌, slice_get}
use Rattle.std.specs.Str.{is_utf8}
use Rattle.std.proofs.lemmas.Str.{IsUtf8-append, IsUtf8-from_is_utf8, is_utf8-from_IsUtf8}
use Rattle.std.proofs.lemmas.List.{length-drop}
use Rattle.rdf_model.specs.Terms.{Text}
use Rattle.ntriples_model.specs.Terminals.{checked, iri_at, string_at, is_absolute}
use Rattle.ntriples_model.proofs.Bodies.{Found, is_same}
use Rattle.ntriples_model.proofs.Escapes.{ascii_utf8}
use Rattle.ntriples_model.proofs.FrontChars.{utf8_of_rest}
use Rattle.rdf_term.specs.declared.body.Form.{Form}
use Rattle.rdf_term.specs.declared.body.Form.TheVariants.{Iri, Quoted}
use Rattle.rdf_term.specs.Body.{body_of, NoBody, IsBodyRead}
use Rattle.rdf_term.specs.Read.{IsRead}
use Rattle.rdf_term.specs.Room.{joined}
use Rattle.rdf_term.proofs.Pieces.{shorter}
use Rattle.rdf_term.proofs.ScratchTexts.{joined-last, dropped}

-- what is behind a first byte that is ASCII is UTF-8 where all is
behind_ascii : (b : ℕ) (bs : List ℕ) → b < 128 → IsUtf8 (b ∷ bs) → IsUtf8 bs
behind_ascii b bs h u = utf8_of_rest (b ∷ []) bs (ascii_utf8 (b ∷ []) (h, tt)) u

checked_found : (test : Text → Bool) (first : ℕ) (body text : List ℕ) (n : ℕ) → first < 128 → n ≤ length body → IsUtf8 (take n body)
    → checked test (first ∷ body) (Some (text, drop n body)) ≡ cond {A = Found} (test text) (Some (text, drop n body)) None
checked_found test first body text n ascii within u =
    let size : length (first ∷ body) - length (drop n body) ≡ suc n = omega (arith, length-drop n body) in
    let fine : is_utf8 (take (length (first ∷ body) - length (drop n body)) (first ∷ body)) ≡ true =
    ap (λ (k : ℕ). is_utf8 (take k (first ∷ body))) size ∙ is_utf8-from_IsUtf8 (first ∷ take n body) (IsUtf8-append (first ∷ []) (take n body) (ascii_utf8 (first ∷ []) (ascii, tt)) u) in
    rw fine refl

checked_none : (test : Text → Bool) (first : ℕ) (form : Form) (body : List ℕ) → first < 128 → NoBody form body → (o : Found) → body_of form body ≡ o → checked test (first ∷ body) o ≡ None
checked_none test first form body ascii none None is = refl
checked_none test first form body ascii none (Some p) is =
    let less = shorter form body p.0 p.1 is in
    let size : length (first ∷ body) - length p.1 ≡ suc (length body - length p.1) = omega arith in
    elim (is_utf8 (take (length (first ∷ body) - length p.1) (first ∷ body))) as (λ e. is_utf8 (take (length (first ∷ body) - length p.1) (first ∷ body)) ≡ e → cond {A = Found} (e && test p.0) (Some p) None ≡ None) [
      | true ↦ λ e.
          let all : IsUtf8 (first ∷ take (length body - length p.1) body) = IsUtf8-from_is_utf8 _ (ap (λ (k : ℕ). is_utf8 (take k (first ∷ body))) (sym size) ∙ e) in
          absurd (none p.0 p.1 is (behind_ascii first _ ascii all))
      | false ↦ λ e. refl
    ] refl

-- The last text

last_get : (ts : List Text) (t : Text) → slice_get (ts ++ t ∷ []) (length (ts ++ t ∷ []) - 1) ≡ Some t
last_get [] t = refl
last_get (u ∷ ts) t =
    let size : length (u ∷ (ts ++ t ∷ [])) - 1 ≡ suc (length (ts ++ t ∷ []) - 1) = omega (arith, length-append ts (t ∷ [])) in
    rw size (last_get ts t)

-- the texts after an empty one was begun and grew
pub grown : (base start new : List Text) (t : Text) → start ≡ base ++ [] ∷ [] → new ≡ joined start t → new ≡ base ++ t ∷ []
grown base start new t s n = n ∙ ap (λ (z : List Text). joined z t) s ∙ joined-last base [] t

pub last_is : (base start new : List Text) (t last : Text) → start ≡ base ++ [] ∷ [] → new ≡ joined start t → slice_get new (length new - 1) ≡ Some last → last ≡ t
last_is base start new t last s n h =
    let e : (let o : Option Text = Some t in o) ≡ Some last = sym (last_get base t) ∙ ap (λ (z : List Text). slice_get z (length z - 1)) (sym (grown base start new t s n)) ∙ h in
    cc

pub given_back : (base start new now : List Text) (t : Text) → start ≡ base ++ [] ∷ [] → new ≡ joined start t → now ≡ take (length new - 1) new → now ≡ base
given_back base start new now t s n h =
    h ∙ ap (λ (z : List Text). take (length z - 1) z) (grown base start new t s n) ∙ dropped base t

-- IRIs

pub no_iri : (bytes : List ℕ) → ((rest : List ℕ) → bytes ≢ 60 ∷ rest) → iri_at bytes ≡ None
unfolding iri_at
no_iri [] h = refl
no_iri (b ∷ bs) h =
    elim (b == 60) as (λ e. (b == 60) ≡ e → cond {A = Found} e (checked is_absolute (b ∷ bs) (body_of Iri bs)) None ≡ None) [
      | true ↦ λ e. absurd (h bs (ap (λ x. x ∷ bs) (is_same b 60 e)))
      | false ↦ λ e. refl
    ] refl

iri_is : (bytes body : List ℕ) (o : Found) → bytes ≡ 60 ∷ body → body_of Iri body ≡ o → iri_at bytes ≡ checked is_absolute (60 ∷ body) o
unfolding iri_at
iri_is bytes body o is found = ap iri_at is ∙ ap (checked is_absolute (60 ∷ body)) found

pub iri_read : (bytes body : List ℕ) (base start new : List Text) (n : ℕ) → bytes ≡ 60 ∷ body → start ≡ base ++ [] ∷ [] → (r : IsBodyRead Iri body start new n) → is_absolute r.text ≡ true
    → IsRead (iri_at bytes) bytes base new (n + 1)
iri_read bytes body base start new n is s r absolute =
    let one : n + 1 ≡ suc n = omega arith in
    let rest : drop n body ≡ drop (n + 1) bytes = ap (λ (k : ℕ). drop k (60 ∷ body)) (sym one) ∙ ap (drop (n + 1)) (sym is) in
    let found : iri_at bytes ≡ Some (r.text, drop n body) = iri_is bytes body _ is r.found ∙ checked_found is_absolute 60 body r.text n (omega arith) r.within r.utf8 ∙ rw absolute refl in
    record {
      text = r.text;
      is = found ∙ ap (λ (z : Text). Some (let q : Text × Text = (r.text, z) in q)) rest;
      texts = grown base start new r.text s r.texts;
      within = omega (arith, r.within, ap length is);
      no_longer = omega (arith, r.no_longer);
    }

pub iri_relative : (bytes body : List ℕ) (start new : List Text) (n : ℕ) → bytes ≡ 60 ∷ body → (r : IsBodyRead Iri body start new n) → is_absolute r.text ≡ false → iri_at bytes ≡ None
iri_relative bytes body start new n is r relative =
    iri_is bytes body _ is r.found ∙ checked_found is_absolute 60 body r.text n (omega arith) r.within r.utf8 ∙ rw relative refl

pub iri_none : (bytes body : List ℕ) → bytes ≡ 60 ∷ body → NoBody Iri body → iri_at bytes ≡ None
iri_none bytes body is none = iri_is bytes body _ is refl ∙ checked_none is_absolute 60 Iri body (omega arith) none (body_of Iri body) refl

-- Strings

pub no_string : (bytes : List ℕ) → ((rest : List ℕ) → bytes ≢ 34 ∷ rest) → string_at bytes ≡ None
unfolding string_at
no_string [] h = refl
no_string (b ∷ bs) h =
    elim (b == 34) as (λ e. (b == 34) ≡ e → cond {A = Found} e (checked (λ t. true) (b ∷ bs) (body_of Quoted bs)) None ≡ None) [
      | true ↦ λ e. absurd (h bs (ap (λ x. x ∷ bs) (is_same b 34 e)))
      | false ↦ λ e. refl
    ] refl

string_is : (bytes body : List ℕ) (o : Found) → bytes ≡ 34 ∷ body → body_of Quoted body ≡ o → string_at bytes ≡ checked (λ t. true) (34 ∷ body) o
unfolding string_at
string_is bytes body o is found = ap string_at is ∙ ap (checked (λ t. true) (34 ∷ body)) found

pub string_read : (bytes body : List ℕ) (base start new : List Text) (n : ℕ) → bytes ≡ 34 ∷ body → start ≡ base ++ [] ∷ [] → IsBodyRead Quoted body start new n → IsRead (string_at bytes) bytes base new (n + 1)
string_read bytes body base start new n is s r =
    let one : n + 1 ≡ suc n = omega arith in
    let rest : drop n body ≡ drop (n + 1) bytes = ap (λ (k : ℕ). drop k (34 ∷ body)) (sym one) ∙ ap (drop (n + 1)) (sym is) in
    let found : string_at bytes ≡ Some (r.text, drop n body) = string_is bytes body _ is r.found ∙ checked_found (λ t. true) 34 body r.text n (omega arith) r.within r.utf8 in
    record {
      text = r.text;
      is = found ∙ ap (λ (z : Text). Some (let q : Text × Text = (r.text, z) in q)) rest;
      texts = grown base start new r.text s r.texts;
      within = omega (arith, r.within, ap length is);
      no_longer = omega (arith, r.no_longer);
    }

pub string_none : (bytes body : List ℕ) → bytes ≡ 34 ∷ body → NoBody Quoted body → string_at bytes ≡ None
string_none bytes body is none = string_is bytes body _ is refl ∙ checked_none (λ t. true) 34 Quoted body (omega arith) none (body_of Quoted body) refl

pub some_text : (base start new : List Text) (t : Text) → start ≡ base ++ [] ∷ [] → new ≡ joined start t → 0 < length new
some_text base start new t s n = omega (arith, ap length (grown base start new t s n), length-append base (t ∷ []))
