-- Texts that rdf_term's readers put into the Scratch, by their places.
use Rattle.std.proofs.Common.{◌≡◌, ◌∙◌, Bool, false, ◌==◌, ℕ, ◌+◌, ◌-◌, ◌<◌, ◌≤◌, List, [], ◌∷◌, ◌++◌, length, take, drop, refl, sym, ap, subst, arith, length-append, length-drop, append_assoc}
use Rattle.std.specs.Prelude.{Option, Some, None, sum_by, IsUtf8}
use Rattle.std.proofs.lemmas.List.{take_all}
use Rattle.std.proofs.Math.Seq.{take-append_seam}
use Rattle.std.proofs.lemmas.Bool.Decides.{nat_tests}
use Rattle.rdf_model.specs.Terms.{Text}
use Rattle.ntriples_model.specs.Line.{made, scoped}
use Rattle.ntriples_model.specs.Terminals.{label_at}
use Rattle.ntriples_model.proofs.Labels.{labels}
use Rattle.rdf_term.specs.Read.{IsRead}
use Rattle.rdf_term.proofs.ScratchTexts.{joined-last, length-joined, room-added, room-joined, dropped}
use Rattle.rdf_term.specs.Room.{room_of, joined}
use Rattle.ntriples.specs.Places.{ReadsText, scoped_label_at}

pub text_read : (found : Option (Text × Text)) (bytes : Text) (old new : List Text) (place size : ℕ) (rest : Text) → IsRead found bytes old new size → place ≡ length old
    → rest ≡ take (length bytes - size) (drop size bytes) → ReadsText 0 found bytes old new place rest
text_read found bytes old new place size rest r at behind =
    let rest_is : rest ≡ drop size bytes = behind ∙ take_all (length bytes - size) (drop size bytes) (omega (arith, length-drop size bytes)) in
    record {
      text = r.text;
      is = r.is ∙ ap (λ z. Some (r.text, z)) (sym rest_is);
      texts = r.texts;
      place_is = at;
      room = omega (arith, r.no_longer, r.within, ap length rest_is, length-drop size bytes);
    }

-- Labels

-- what stands at the front of the bytes of a label
pub record IsLabelFront (bytes text rest : Text) : Type 0 where
  pub splits : bytes ≡ 95 ∷ 58 ∷ (text ++ rest)
  pub utf8 : IsUtf8 text

label_front : (bytes text rest : Text) → label_at bytes ≡ Some (text, rest) → IsLabelFront bytes text rest
label_front bytes text rest h =
    let f = labels.found bytes text rest h in
    let is = f.2 in
    record { splits = f.1 ∙ ap (λ z. z ++ rest) is.terminal_is; utf8 = (is.first ∷ is.more, (is.characters, sym is.text_is)) }

-- the places of a label of so many bytes, which are those of its text and two more
pub record LabelPlaces (bytes text : Text) (size : ℕ) : Type 0 where
  pub utf8 : IsUtf8 text
  pub size_is : size ≡ length text + 2
  pub text_is : take (size - 2) (drop 2 bytes) ≡ text

pub label_places : (bytes : Text) (old new : List Text) (size : ℕ) (r : IsRead (label_at bytes) bytes old new size) → LabelPlaces bytes r.text size
label_places bytes old new size r =
    let f = label_front bytes r.text (drop size bytes) r.is in
    let size_is : size ≡ length r.text + 2 = omega (arith, ap length f.splits, length-append r.text (drop size bytes), length-drop size bytes, r.within) in
    let count : size - 2 ≡ length r.text = omega arith in
    record {
      utf8 = f.utf8;
      size_is = size_is;
      text_is = ap (λ n. take n (drop 2 bytes)) count ∙ ap (λ z. take (length r.text) (drop 2 z)) f.splits ∙ take-append_seam r.text (drop size bytes);
    }

pub no_scoped : (scope bytes : Text) → label_at bytes ≡ None → scoped_label_at scope bytes ≡ None
no_scoped scope bytes e = ap (made (scoped scope)) e

pub unscoped_read : (scope bytes : Text) (old new : List Text) (place size : ℕ) (rest : Text) → length scope ≡ 0 → IsRead (label_at bytes) bytes old new size → place ≡ length old
    → rest ≡ take (length bytes - size) (drop size bytes) → ReadsText 64 (scoped_label_at scope bytes) bytes old new place rest
unscoped_read [] bytes old new place size rest empty r at behind =
    let t = text_read (label_at bytes) bytes old new place size rest r at behind in
    record { text = t.text; is = ap (made (scoped [])) t.is; texts = t.texts; place_is = t.place_is; room = omega (arith, t.room) }
unscoped_read (b ∷ scope) bytes old new place size rest empty r at behind = absurd (omega arith)

under_scope : (scope label : Text) → 0 < length scope → scoped scope label ≡ scope ++ (46 ∷ 46 ∷ label)
under_scope [] label some = absurd (omega arith)
under_scope (b ∷ scope) label some = refl

pub scoped_read : (scope bytes : Text) (old read new : List Text) (place size : ℕ) (rest : Text) → 0 < length scope → length scope ≤ 64 → (r : IsRead (label_at bytes) bytes old read size) → place ≡ length old
    → rest ≡ take (length bytes - size) (drop size bytes) → new ≡ take (length read - 1) read ++ (scope ++ (46 ∷ 46 ∷ take (size - 2) (drop 2 bytes))) ∷ []
    → ReadsText 64 (scoped_label_at scope bytes) bytes old new place rest
scoped_read scope bytes old read new place size rest some short r at behind put =
    let p = label_places bytes old read size r in
    let text : Text = scope ++ (46 ∷ 46 ∷ r.text) in
    let front : take (length read - 1) read ≡ old = ap (λ z. take (length z - 1) z) r.texts ∙ dropped old r.text in
    let rest_is : rest ≡ drop size bytes = behind ∙ take_all (length bytes - size) (drop size bytes) (omega (arith, length-drop size bytes)) in
    record {
      text = text;
      is = ap (made (scoped scope)) r.is ∙ ap (λ z. Some (z, drop size bytes)) (under_scope scope r.text some) ∙ ap (λ z. Some (text, z)) (sym rest_is);
      texts = put ∙ ap (λ z. z ++ (scope ++ (46 ∷ 46 ∷ take (size - 2) (drop 2 bytes))) ∷ []) front ∙ ap (λ z. old ++ (scope ++ (46 ∷ 46 ∷ z)) ∷ []) p.text_is;
      place_is = at;
      room = omega (arith, p.size_is, r.within, length-append scope (46 ∷ 46 ∷ r.text), ap length rest_is, length-drop size bytes);
    }

-- A label put under its scope

pub put_is : (old front begun one two three : List Text) (scope label : Text) → front ≡ take (length old - 1) old → begun ≡ front ++ [] ∷ [] → one ≡ joined begun scope → two ≡ joined one (46 ∷ 46 ∷ [])
    → three ≡ joined two label → three ≡ take (length old - 1) old ++ (scope ++ (46 ∷ 46 ∷ label)) ∷ []
put_is old front begun one two three scope label f b e1 e2 e3 =
    e3 ∙ ap (λ z. joined z label) (e2 ∙ ap (λ z. joined z (46 ∷ 46 ∷ [])) (e1 ∙ ap (λ z. joined z scope) b ∙ joined-last front [] scope) ∙ joined-last front scope (46 ∷ 46 ∷ []))
    ∙ joined-last front (scope ++ 46 ∷ 46 ∷ []) label ∙ ap (λ z. z ++ ((scope ++ 46 ∷ 46 ∷ []) ++ label) ∷ []) f
    ∙ ap (λ z. take (length old - 1) old ++ z ∷ []) (append_assoc scope (46 ∷ 46 ∷ []) label)

begun_room : (front begun : List Text) → begun ≡ front ++ [] ∷ [] → (room_of begun ≡ room_of front) × (0 < length begun)
begun_room front begun b = (ap room_of b ∙ room-added front, omega (arith, ap length b, length-append front ([] ∷ [])))

joined_room : (before now : List Text) (piece : Text) → now ≡ joined before piece → 0 < length before → (room_of now ≡ room_of before - length piece) × (0 < length now)
joined_room before now piece e some = (ap room_of e ∙ room-joined before piece some, omega (arith, ap length e, length-joined before piece))

-- the room for the full stops and for the label
pub stops_fit : (front begun one : List Text) (scope label : Text) → begun ≡ front ++ [] ∷ [] → one ≡ joined begun scope → sum_by length front + length label + length scope + 2 ≤ 2098176 → 2 ≤ room_of one
stops_fit front begun one scope label b e room =
    let first = begun_room front begun b in
    let second = joined_room begun one scope e first.1 in
    omega (arith, first.0, second.0)

pub label_fits : (front begun one two : List Text) (scope label : Text) → begun ≡ front ++ [] ∷ [] → one ≡ joined begun scope → two ≡ joined one (46 ∷ 46 ∷ [])
    → sum_by length front + length label + length scope + 2 ≤ 2098176 → length label ≤ room_of two
label_fits front begun one two scope label b e d room =
    let first = begun_room front begun b in
    let second = joined_room begun one scope e first.1 in
    let third = joined_room one two (46 ∷ 46 ∷ []) d second.1 in
    omega (arith, first.0, second.0, third.0)

-- what is asked of a label that was read
pub label_utf8 : (bytes : Text) (old new : List Text) (size : ℕ) → IsRead (label_at bytes) bytes old new size → IsUtf8 (take (size - 2) (drop 2 bytes))
label_utf8 bytes old new size r = let p = label_places bytes old new size r in subst IsUtf8 (sym p.text_is) p.utf8

pub label_size : (bytes : Text) (old new : List Text) (size : ℕ) → IsRead (label_at bytes) bytes old new size → 2 ≤ size
label_size bytes old new size r = let p = label_places bytes old new size r in omega (arith, p.size_is)

pub label_room : (scope bytes : Text) (old new : List Text) (size : ℕ) → IsRead (label_at bytes) bytes old new size → length scope ≤ 64 → sum_by length old + length bytes + 64 ≤ 2098176
    → sum_by length (take (length new - 1) new) + length (take (size - 2) (drop 2 bytes)) + length scope + 2 ≤ 2098176
label_room scope bytes old new size r short room =
    let p = label_places bytes old new size r in
    let front : take (length new - 1) new ≡ old = ap (λ z. take (length z - 1) z) r.texts ∙ dropped old r.text in
    omega (arith, ap (sum_by length) front, ap length p.text_is, p.size_is, r.within)

pub not_empty : (text : Text) (empty : Bool) → empty ≡ (length text == 0) → empty ≡ false → 0 < length text
not_empty text empty e f = grind (arith, nat_tests)
