-- What the places of a dictionary hold.
use Rattle.std.specs.Prelude.{◌≡◌, ◌⊎◌, ◌<◌, ℕ, zero, suc, ◌+◌, List, map, length, take, drop, Option, None, Some, is_some, count_by, All, slice_get, string_bytes, refl, ⊤}
use Rattle.std.specs.Str.{IsCharBoundary}
use Rattle.std.specs.Coded.{Coded, code_by, coded×, coded_ℕ, coded_list, coded_option}
use Rattle.rdf_model.specs.Terms.{Term, Iri, Blank, Literal, Typed, Tagged}
use Rattle.rdf_model.specs.Texts.{xsd_string}
use Rattle.rdf_model.specs.Graph.{coded_term}
use Rattle.hash_index.specs.Slots.{slot_at}
use Rattle.rdf_term.specs.Seen.{lent_term}
use Rattle.rdf_term.specs.declared.term.TermRef.{TermRef}
use Rattle.term_dict.specs.declared.term_slot.TermSlot.{TermSlot}
use Rattle.term_dict.specs.declared.term_slot.TermSlot.TheVariants as place

-- the term in a place, if there is one
abbrev pub term_in : TermSlot → Option Term
term_in (place.Vacant next) = None
term_in (place.Iri text) = Some (Iri text)
term_in (place.Blank label) = Some (Blank label)
term_in (place.Plain form) = Some (Literal form (Typed xsd_string))
term_in (place.Typed parting text) = Some (Literal (take parting (string_bytes text)) (Typed (drop parting (string_bytes text))))
term_in (place.Tagged parting text) = Some (Literal (take parting (string_bytes text)) (Tagged (drop parting (string_bytes text))))

-- a place that holds two texts in one parts them between characters
abbrev pub IsParted : TermSlot → Type 0
IsParted (place.Typed parting text) = IsCharBoundary (string_bytes text) parting
IsParted (place.Tagged parting text) = IsCharBoundary (string_bytes text) parting
IsParted (place.Vacant next) = ⊤
IsParted (place.Iri text) = ⊤
IsParted (place.Blank label) = ⊤
IsParted (place.Plain form) = ⊤

-- the text is the first one and then the second, which begins at this byte
pub record Joins (parting : ℕ) (text first second : List ℕ) : Type 0 where
  pub first_is : take parting text ≡ first
  pub second_is : drop parting text ≡ second
  pub between : IsCharBoundary text parting

-- the terms by their places, the place of the next term, and for how many places there is room
pub record Slots : Type 0 where
  pub slots : List (Option Term)
  pub next : ℕ
  pub capacity : ℕ

abbrev pub slots_code : Coded Slots
slots_code =
    code_by (List (Option Term) × (ℕ × ℕ)) (coded× (coded_list (coded_option coded_term)) (coded× coded_ℕ coded_ℕ)) (λ s. (s.slots, (s.next, s.capacity)))
    (λ p. record { slots = p.0; next = p.1.0; capacity = p.1.1 }) (λ _. refl)

-- what is lent is the term of the slot, and nothing where it has none
abbrev pub IsLentFrom : List (Option Term) → ℕ → Option TermRef → Type 0
IsLentFrom slots number None = slot_at slots number ≡ None
IsLentFrom slots number (Some term) = slot_at slots number ≡ Some (lent_term term)

-- the number is that of a slot, or where each slot has a term, that of a new one
abbrev pub IsUsedAgainFirst : List (Option Term) → ℕ → Type 0
IsUsedAgainFirst slots number = (number < length slots) ⊎ ((number ≡ length slots) × (count_by is_some slots ≡ length slots))

-- there are as many slots as there were, or one more where the number was that of a new one
abbrev pub IsOneMoreAtMost : List (Option Term) → List (Option Term) → ℕ → Type 0
IsOneMoreAtMost old new number = (length new ≡ length old) ⊎ ((length new ≡ length old + 1) × (number ≡ length old))

-- from this number on so many places without a term each name the next, and the last names the number of places
abbrev pub IsVacantList : List TermSlot → ℕ → ℕ → Type 0
IsVacantList places zero number = number ≡ length places
IsVacantList places (suc count) number = (next : ℕ) × (slice_get places number ≡ Some (place.Vacant next)) × IsVacantList places count next

-- `held` counts the terms, the list from `next` has every place without one, and two texts in one part between characters
pub record IsLinked (places : List TermSlot) (held next : ℕ) : Type 0 where
  pub counted : held ≡ count_by is_some (map term_in places)
  pub vacant : ℕ
  pub total : held + vacant ≡ length places
  pub linked : IsVacantList places vacant next
  pub parted : All IsParted places
