-- What the loop over a tag keeps.
use Rattle.std.proofs.Common.{◌≡◌, ◌∙◌, ◌<◌, ◌≤◌, ◌+◌, ◌-◌, ℕ, zero, suc, Bool, true, false, cond, ◌&&◌, length, get_or, List, [], ◌∷◌, ◌++◌, map, take, drop, refl, sym, ap, subst, arith, append_assoc, length-append, Some, None}
use Rattle.std.specs.Prelude.{◌==◌, slice_index}
use Rattle.std.proofs.lemmas.List.{append-nil, length-take, get_or-drop, map-append, length-map}
use Rattle.rdf_term.specs.Tag.{fits_by}
use Rattle.rdf_term.specs.Read.{IsRead}
use Rattle.rdf_term.specs.Room.{room_of, joined}
use Rattle.rdf_term.proofs.QuotedLemmas.{grown}
use Rattle.rdf_term.proofs.ScratchTexts.{joined-nil, joined-joined, room-joined, room-added, length-joined}
use Rattle.ntriples_model.proofs.Bodies.{Found, is_same}
use Rattle.ntriples_model.proofs.Tags.{tag_ascii}
use Rattle.std.specs.List.{AllByRecursion}
use Rattle.std.specs.Char.{encode_utf8, to_ascii_lowercase}
use Rattle.std.proofs.lemmas.Str.{encode_ascii}
use Rattle.std.proofs.lemmas.Bool.Decides.{nat_tests}
use Rattle.std.proofs.Math.Seq.{drop-cons, take-suc, drop-length, take-length}
use Rattle.rdf_model.specs.Terms.{Text}
use Rattle.ntriples_model.specs.Characters.{is_letter, is_letter_or_digit}
use Rattle.ntriples_model.specs.Terminals.{some_text, tag_rest, tag_bytes, tag_at}

-- one byte more
here : (bytes : List ℕ) (i : ℕ) → i < length bytes → drop i bytes ≡ get_or bytes i 0 ∷ drop (i + 1) bytes
here bytes i h = let one : i + 1 ≡ suc i = omega arith in drop-cons bytes i 0 h ∙ ap (λ (k : ℕ). get_or bytes i 0 ∷ drop k bytes) (sym one)

seen : (bytes rest : List ℕ) (i : ℕ) → i < length bytes → take i bytes ++ get_or bytes i 0 ∷ rest ≡ take (i + 1) bytes ++ rest
seen bytes rest i h =
    let one : i + 1 ≡ suc i = omega arith in
    let more : take (i + 1) bytes ≡ take i bytes ++ get_or bytes i 0 ∷ [] = ap (λ (k : ℕ). take k bytes) one ∙ take-suc bytes i 0 h in
    sym (ap (λ (z : List ℕ). z ++ rest) more ∙ append_assoc (take i bytes) (get_or bytes i 0 ∷ []) rest)

next_is : (bytes : List ℕ) (i : ℕ) → slice_index (drop (i + 1) bytes) 0 ≡ slice_index bytes (i + 1)
next_is bytes i = get_or-drop (i + 1) bytes 0 0 ∙ ap (λ (k : ℕ). get_or bytes k 0) (omega arith)

fits_step : (fits : ℕ → Bool) (c : ℕ) (cs : List ℕ) → fits c ≡ true → tag_rest fits (c ∷ cs) ≡ c ∷ tag_rest fits cs
unfolding tag_rest
fits_step fits c cs h = rw h refl

part_step : (fits : ℕ → Bool) (c : ℕ) (cs : List ℕ) → fits c ≡ false → (c == 45 && is_letter_or_digit (slice_index cs 0)) ≡ true → tag_rest fits (c ∷ cs) ≡ c ∷ tag_rest is_letter_or_digit cs
unfolding tag_rest
part_step fits c cs h part = rw (h, part) refl

end_step : (fits : ℕ → Bool) (c : ℕ) (cs : List ℕ) → fits c ≡ false → (c == 45 && is_letter_or_digit (slice_index cs 0)) ≡ false → tag_rest fits (c ∷ cs) ≡ []
unfolding tag_rest
end_step fits c cs h part = rw (h, part) refl

none_left : (fits : ℕ → Bool) → tag_rest fits [] ≡ []
unfolding tag_rest
none_left fits = refl

-- what was found so far, and what is still to come
abbrev pub IsSoFar : List ℕ → Bool → ℕ → Type 0
IsSoFar bytes digits i = tag_rest is_letter bytes ≡ take i bytes ++ tag_rest (fits_by digits) (drop i bytes)

part_here : (bytes : List ℕ) (i : ℕ) (b : Bool) → b ≡ (slice_index bytes i == 45 && is_letter_or_digit (slice_index bytes (i + 1))) → (get_or bytes i 0 == 45 && is_letter_or_digit (slice_index (drop (i + 1) bytes) 0)) ≡ b
part_here bytes i b h = ap (λ (x : ℕ). get_or bytes i 0 == 45 && is_letter_or_digit x) (next_is bytes i) ∙ sym h

pub fit_more : (bytes : List ℕ) (digits : Bool) (i : ℕ) → IsSoFar bytes digits i → i < length bytes → fits_by digits (get_or bytes i 0) ≡ true → IsSoFar bytes digits (i + 1)
fit_more bytes digits i s h fits =
    s ∙ ap (λ (z : List ℕ). take i bytes ++ z) (ap (tag_rest (fits_by digits)) (here bytes i h) ∙ fits_step (fits_by digits) (get_or bytes i 0) (drop (i + 1) bytes) fits) ∙ seen bytes _ i h

pub part_more : (bytes : List ℕ) (digits : Bool) (i : ℕ) → IsSoFar bytes digits i → i < length bytes → fits_by digits (get_or bytes i 0) ≡ false
    → (slice_index bytes i == 45 && is_letter_or_digit (slice_index bytes (i + 1))) ≡ true → IsSoFar bytes true (i + 1)
part_more bytes digits i s h fits part =
    s ∙ ap (λ (z : List ℕ). take i bytes ++ z) (ap (tag_rest (fits_by digits)) (here bytes i h) ∙ part_step (fits_by digits) (get_or bytes i 0) (drop (i + 1) bytes) fits (part_here bytes i true (sym part))) ∙ seen bytes _ i h

pub tag_ends : (bytes : List ℕ) (digits : Bool) (i : ℕ) → IsSoFar bytes digits i → i < length bytes → fits_by digits (get_or bytes i 0) ≡ false
    → (slice_index bytes i == 45 && is_letter_or_digit (slice_index bytes (i + 1))) ≡ false → take i bytes ≡ tag_rest is_letter bytes
tag_ends bytes digits i s h fits part =
    sym (s ∙ ap (λ (z : List ℕ). take i bytes ++ z) (ap (tag_rest (fits_by digits)) (here bytes i h) ∙ end_step (fits_by digits) (get_or bytes i 0) (drop (i + 1) bytes) fits (part_here bytes i false (sym part))) ∙ append-nil (take i bytes))

pub tag_to_end : (bytes : List ℕ) (digits : Bool) (i : ℕ) → IsSoFar bytes digits i → i ≡ length bytes → take (length bytes) bytes ≡ tag_rest is_letter bytes
tag_to_end bytes digits i s h =
    let none : drop i bytes ≡ [] = ap (λ (k : ℕ). drop k bytes) h ∙ drop-length bytes in
    ap (λ (k : ℕ). take k bytes) (sym h) ∙ sym (s ∙ ap (λ (z : List ℕ). take i bytes ++ z) (ap (tag_rest (fits_by digits)) none ∙ none_left (fits_by digits)) ∙ append-nil (take i bytes))

-- The whole tag

pub no_tag_bytes : (bytes : List ℕ) → length bytes ≡ 0 → tag_bytes bytes ≡ []
unfolding tag_bytes
no_tag_bytes [] h = refl
no_tag_bytes (b ∷ bs) h = absurd (omega arith)

pub no_letter : (bytes : List ℕ) (b : ℕ) (bs : List ℕ) → bytes ≡ b ∷ bs → is_letter b ≡ false → tag_bytes bytes ≡ []
unfolding tag_bytes
no_letter bytes b bs is h = rw (is, h) refl

pub tag_taken : (bytes : List ℕ) (b : ℕ) (bs : List ℕ) (n : ℕ) → bytes ≡ b ∷ bs → is_letter b ≡ true → take n bs ≡ tag_rest is_letter bs → take (n + 1) bytes ≡ tag_bytes bytes
unfolding tag_bytes
tag_taken bytes b bs n is h rest =
    let one : n + 1 ≡ suc n = omega arith in
    rw (is, one, h) (ap (λ z. b ∷ z) rest)

-- The text of a tag

each_at : (xs : List ℕ) (i : ℕ) → AllByRecursion (λ b. b < 128) xs → i < length xs → get_or xs i 0 < 128
each_at [] i all h = absurd (omega arith)
each_at (x ∷ xs) zero all h = all.0
each_at (x ∷ xs) (suc i) all h = each_at xs i all.1 (omega arith)

lower_ascii : (b : ℕ) → b < 128 → to_ascii_lowercase b < 128
lower_ascii b h = grind (arith, nat_tests)

-- the last text has the letters so far
pub record IsTagSoFar (start now : List Text) (letters : Text) (i : ℕ) : Type 0 where
  pub texts : now ≡ joined start (map to_ascii_lowercase (take i letters))
  pub room : length letters - i ≤ room_of now
  pub some : 0 < length now

pub no_letters : (base start : List Text) (letters : Text) → start ≡ base ++ [] ∷ [] → length letters ≤ room_of base → IsTagSoFar start start letters 0
no_letters base start letters is room = record {
  texts = sym (joined-nil start);
  room = omega (arith, room, ap room_of is, room-added base);
  some = omega (arith, ap length is, length-append base ([] ∷ []));
}

-- the next letter in lower case
letter_encoded : (letters : Text) (i : ℕ) → AllByRecursion (λ b. b < 128) letters → i < length letters → encode_utf8 (to_ascii_lowercase (get_or letters i 0)) ≡ to_ascii_lowercase (get_or letters i 0) ∷ []
letter_encoded letters i ascii h = encode_ascii _ (lower_ascii _ (each_at letters i ascii h))

pub letter_room : (start now : List Text) (letters : Text) (i : ℕ) → IsTagSoFar start now letters i → AllByRecursion (λ b. b < 128) letters → i < length letters → length (encode_utf8 (to_ascii_lowercase (get_or letters i 0))) ≤ room_of now
letter_room start now letters i s ascii h = omega (arith, s.room, ap length (letter_encoded letters i ascii h))

pub letter_more : (start now new : List Text) (letters piece : Text) (i : ℕ) → IsTagSoFar start now letters i → AllByRecursion (λ b. b < 128) letters → i < length letters → piece ≡ encode_utf8 (to_ascii_lowercase (get_or letters i 0)) → new ≡ joined now piece
    → IsTagSoFar start new letters (i + 1)
letter_more start now new letters piece i s ascii h piece_is is =
    let one : i + 1 ≡ suc i = omega arith in
    let c : ℕ = to_ascii_lowercase (get_or letters i 0) in
    let add : new ≡ joined now (c ∷ []) = is ∙ ap (joined now) (piece_is ∙ letter_encoded letters i ascii h) in
    let more : map to_ascii_lowercase (take i letters) ++ c ∷ [] ≡ map to_ascii_lowercase (take (i + 1) letters) =
    sym (ap (λ (k : ℕ). map to_ascii_lowercase (take k letters)) one ∙ ap (map to_ascii_lowercase) (take-suc letters i 0 h) ∙ map-append to_ascii_lowercase (take i letters) (get_or letters i 0 ∷ [])) in
    record {
      texts = add ∙ ap (λ (z : List Text). joined z (c ∷ [])) s.texts ∙ joined-joined start (map to_ascii_lowercase (take i letters)) (c ∷ []) ∙ ap (joined start) more;
      room = omega (arith, s.room, ap room_of add, room-joined now (c ∷ []) s.some);
      some = omega (arith, s.some, ap length add, length-joined now (c ∷ []));
    }

pub no_tag : (bytes : List ℕ) → ((rest : List ℕ) → bytes ≡ 64 ∷ rest → ⊥) → tag_at bytes ≡ None
unfolding tag_at
no_tag [] h = refl
no_tag (b ∷ bs) h =
    elim (b == 64) as (λ e. (b == 64) ≡ e → cond {A = Found} e (some_text (map to_ascii_lowercase) (tag_bytes bs) bs) None ≡ None) [
      | true ↦ λ e. absurd (h bs (ap (λ x. x ∷ bs) (is_same b 64 e)))
      | false ↦ λ e. refl
    ] refl

tag_behind : (bytes tag : List ℕ) → bytes ≡ 64 ∷ tag → tag_at bytes ≡ some_text (map to_ascii_lowercase) (tag_bytes tag) tag
unfolding tag_at
tag_behind bytes tag is = rw is refl

pub empty_tag : (bytes tag : List ℕ) (n : ℕ) → bytes ≡ 64 ∷ tag → n ≡ 0 → take n tag ≡ tag_bytes tag → tag_at bytes ≡ None
empty_tag bytes tag n is none found = tag_behind bytes tag is ∙ ap (λ (z : Text). some_text (map to_ascii_lowercase) z tag) (sym found ∙ ap (λ (k : ℕ). take k tag) none)

some_lower : (t tag : List ℕ) → 0 < length t → some_text (map to_ascii_lowercase) t tag ≡ Some (map to_ascii_lowercase t, drop (length t) tag)
some_lower [] tag h = absurd (omega arith)
some_lower (c ∷ t) tag h = refl

pub tag_read : (bytes tag letters : List ℕ) (n i : ℕ) (base start new : List Text) → bytes ≡ 64 ∷ tag → (n ≡ 0 → ⊥) → n ≤ length tag → take n tag ≡ tag_bytes tag → letters ≡ take n tag → start ≡ base ++ [] ∷ []
    → IsTagSoFar start new letters i → i ≡ length letters → IsRead (tag_at bytes) bytes base new (n + 1)
tag_read bytes tag letters n i base start new is some within found letters_are begun s all =
    let size : length letters ≡ n = omega (arith, length-take n tag, ap length letters_are) in
    let one : n + 1 ≡ suc n = omega arith in
    let text : Text = map to_ascii_lowercase letters in
    let behind : drop (length letters) tag ≡ drop (n + 1) bytes = ap (λ (k : ℕ). drop k tag) size ∙ ap (λ (k : ℕ). drop k (64 ∷ tag)) (sym one) ∙ ap (drop (n + 1)) (sym is) in
    record {
      text = text;
      is = tag_behind bytes tag is ∙ ap (λ (z : Text). some_text (map to_ascii_lowercase) z tag) (sym found ∙ sym letters_are) ∙ some_lower letters tag (omega (arith, size, some))
          ∙ ap (λ (z : Text). Some (let q : Text × Text = (text, z) in q)) behind;
      texts = grown base start new text begun (s.texts ∙ ap (λ (k : ℕ). joined start (map to_ascii_lowercase (take k letters))) all ∙ ap (λ (z : Text). joined start (map to_ascii_lowercase z)) (take-length letters));
      within = omega (arith, within, ap length is);
      no_longer = omega (arith, size, length-map letters to_ascii_lowercase);
    }

pub letters_ascii : (letters tag : List ℕ) (n : ℕ) → letters ≡ take n tag → take n tag ≡ tag_bytes tag → AllByRecursion (λ b. b < 128) letters
letters_ascii letters tag n is found = subst (AllByRecursion (λ b. b < 128)) (sym (is ∙ found)) (tag_ascii tag)
