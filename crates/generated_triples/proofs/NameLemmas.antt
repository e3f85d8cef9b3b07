-- Texts of names in a Scratch, and the triples of the list.
use Rattle.std.proofs.Common.{◌≡◌, ◌∙◌, ℕ, ◌+◌, ◌≤◌, ◌<◌, List, [], ◌∷◌, ◌++◌, length, refl, sym, ap, arith, length-append}
use Rattle.std.specs.Prelude.{Some, slice_get}
use Rattle.std.proofs.lemmas.List.FromFn.{length-map-range_with_len, get_or-map-range_with_len}
use Rattle.std.proofs.lemmas.Option.{same_Some, slice_get-get_or}
use Rattle.rdf_model.specs.Terms.{Text, Iri, Triple}
use Rattle.rdf_term.specs.Room.{room_of, joined}
use Rattle.rdf_term.proofs.ScratchTexts.{joined-joined, joined-last, length-joined, room-joined, room-added}
use Rattle.generated_model.specs.Generated.{generated, generated_at, node_text, property_text, triple_named}

some_begun : (ts : List (List ℕ)) → 0 < length (ts ++ [] ∷ [])
some_begun ts = omega (arith, length-append ts ([] ∷ []))

pub name_added : (ts : List (List ℕ)) (front number : List ℕ) → joined (joined (ts ++ [] ∷ []) front) number ≡ ts ++ (front ++ number) ∷ []
name_added ts front number = joined-joined (ts ++ [] ∷ []) front number ∙ joined-last ts [] (front ++ number)

pub front_room : (ts : List (List ℕ)) (front : List ℕ) → length front ≤ 6 → 46 ≤ room_of ts → length front ≤ room_of (ts ++ [] ∷ [])
front_room ts front short room = omega (arith, room-added ts)

pub number_begun : (ts : List (List ℕ)) (front : List ℕ) → 0 < length (joined (ts ++ [] ∷ []) front)
number_begun ts front = omega (arith, length-joined (ts ++ [] ∷ []) front, some_begun ts)

pub number_room : (ts : List (List ℕ)) (front number : List ℕ) → length front ≤ 6 → length number ≤ 40 → 46 ≤ room_of ts → length number ≤ room_of (joined (ts ++ [] ∷ []) front)
number_room ts front number short few room = omega (arith, room-joined (ts ++ [] ∷ []) front (some_begun ts), room-added ts)

pub room_left : (ts : List (List ℕ)) (front number : List ℕ) → length front ≤ 6 → length number ≤ 40 → room_of ts ≤ room_of (joined (joined (ts ++ [] ∷ []) front) number) + 46
room_left ts front number short few = omega (arith, room-joined (joined (ts ++ [] ∷ []) front) number (number_begun ts front), room-joined (ts ++ [] ∷ []) front (some_begun ts), room-added ts)

pub triple_at : (n salt k : ℕ) → k < n → slice_get (generated n salt) k ≡ Some (generated_at n salt k)
triple_at n salt k h =
    let d : Triple = generated_at n salt k in
    slice_get-get_or (generated n salt) k d (omega (arith, h, length-map-range_with_len (generated_at n salt) 0 n)) ∙ ap Some (get_or-map-range_with_len (generated_at n salt) 0 n k k d h (omega arith))

-- three texts as the names of a triple
pub named_triple : (ts : List Text) (s p o : ℕ) (a b d : Text) → ts ≡ node_text s ∷ property_text p ∷ node_text o ∷ [] → slice_get ts 0 ≡ Some a → slice_get ts 1 ≡ Some b → slice_get ts 2 ≡ Some d
    → triple_named s p o ≡ record { s = Iri a; p = Iri b; o = Iri d }
named_triple ts s p o a b d is first second third =
    let x : node_text s ≡ a = same_Some _ _ (sym (ap (λ z. slice_get z 0) is) ∙ first) in
    let y : property_text p ≡ b = same_Some _ _ (sym (ap (λ z. slice_get z 1) is) ∙ second) in
    let z : node_text o ≡ d = same_Some _ _ (sym (ap (λ z. slice_get z 2) is) ∙ third) in
    rw (x, y, z) refl
