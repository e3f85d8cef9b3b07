-- What the places of a dictionary say of its Ids and terms.
use Rattle.std.proofs.Common.{◌≡◌, ◌⊎◌, ℕ, ◌+◌, ◌<◌, ◌≤◌, ◌^◌, List, [], length, Option, None, Some, IsSome, IfSome, is_some, refl, sym, ap, subst, ◌∙◌, inl, inr, arith, count_by}
use Rattle.std.proofs.lemmas.Bool.{cases_eq}
use Rattle.std.proofs.lemmas.List.{get_or_past}
use Rattle.std.specs.Option.{option_map}
use Rattle.std.specs.Ordering.{nat_cmp}
use Rattle.std.specs.FinMap as map
use Rattle.std.specs.FinMap.{FinMap}
use native.Mathlib.Decide.{dec_lt}
use Rattle.rdf_model.specs.Terms.{Term}
use Rattle.trie_depth.specs.declared.id.Id.{Id}
use Rattle.hash_index.specs.Slots.{numbered, slot_at, Writes}
use Rattle.hash_index.proofs.Slots.{get-numbered, len-numbered, IsIndexed-insert, IsIndexed-remove}
use Rattle.term_dict.specs.Dict.{Terms, IsNew, IsOneToOne, HasSmallIds, ListsHeld, IsNotUnder, Puts, hash_of, IsDictionary}
use Rattle.term_dict.specs.declared.text_hash.TextHash.{TextHash}

no_some : (t : Term) → None ≡ Some t → ⊥
no_some t e = cc

-- an Id's term is what stands in its place
pub at_slot : (slots : List (Option Term)) (terms : Terms) → numbered slots ≡ terms → (id : ℕ) → map.get terms id ≡ slot_at slots id
at_slot slots terms is id = ap (λ m. map.get m id) (sym is) ∙ get-numbered slots id

pub len_of : (slots : List (Option Term)) (terms : Terms) → numbered slots ≡ terms → count_by is_some slots ≡ map.len terms
len_of slots terms is = sym (len-numbered slots) ∙ ap map.len is

-- the Id of a place with the term, if there is one, has the term
pub of_place : (slots : List (Option Term)) (terms : Terms) (term : Term) (id : Option Id) → numbered slots ≡ terms → IfSome id (λ i. slot_at slots i.0 ≡ Some term) → IfSome id (λ i. map.get terms i.0 ≡ Some term)
of_place slots terms term None is found = found
of_place slots terms term (Some id) is found = at_slot slots terms is id.0 ∙ found

pub there_is_below : (slots : List (Option Term)) (id : ℕ) → IsSome (slot_at slots id) → id < length slots
there_is_below slots id there =
    elim (dec_lt id (length slots)) as (λ _. id < length slots) [
      | yes lt ↦ lt
      | no ge ↦ absurd (let none = get_or_past slots id None (omega arith) in cc)
    ]

pub one_to_one : (secrets : TextHash) (slots : List (Option Term)) (index : FinMap nat_cmp ℕ) (terms : Terms) → numbered slots ≡ terms → IsDictionary secrets slots index → IsOneToOne terms
one_to_one secrets slots index terms is sound p q term at_p at_q =
    sound.different p q term (sym (at_slot slots terms is p) ∙ at_p) (sym (at_slot slots terms is q) ∙ at_q)

pub small_ids : (secrets : TextHash) (slots : List (Option Term)) (index : FinMap nat_cmp ℕ) (terms : Terms) → numbered slots ≡ terms → IsDictionary secrets slots index → HasSmallIds terms
small_ids secrets slots index terms is sound id there =
    let below = there_is_below slots id (subst IsSome (at_slot slots terms is id) there) in
    let few = sound.few in
    omega arith

pub small_if_there : (secrets : TextHash) (slots : List (Option Term)) (index : FinMap nat_cmp ℕ) (terms : Terms) (term : Term) (id : Option Id) → numbered slots ≡ terms → IsDictionary secrets slots index → IfSome id (λ i. slot_at slots i.0 ≡ Some term) → IfSome id (λ i. i.0 < 2 ^ 31)
small_if_there secrets slots index terms term None is sound found = found
small_if_there secrets slots index terms term (Some id) is sound found =
    small_ids secrets slots index terms is sound id.0 (subst IsSome (sym (at_slot slots terms is id.0 ∙ found)) refl)

pub IsDictionary-empty : (secrets : TextHash) (slots : List (Option Term)) (index : FinMap nat_cmp ℕ) → slots ≡ [] → index ≡ map.empty → IsDictionary secrets slots index
IsDictionary-empty secrets slots index none empty =
    record {
      indexed = λ q. ap (λ m. map.get m q) empty ∙ map.get-empty nat_cmp q ∙ sym (ap (λ s. option_map (hash_of secrets) (slot_at s q)) none);
      different = λ p q term at_p at_q. absurd (no_some term (sym (ap (λ s. slot_at s p) none) ∙ at_p));
      few = let e = ap length none in omega (arith, e);
    }

-- the term is listed under its hash
pub listed : (secrets : TextHash) (slots : List (Option Term)) (index : FinMap nat_cmp ℕ) (terms : Terms) (id : ℕ) (term : Term) → numbered slots ≡ terms → IsDictionary secrets slots index → map.get terms id ≡ Some term → map.get index id ≡ Some (hash_of secrets term)
listed secrets slots index terms id term is sound at =
    sound.indexed id ∙ ap (option_map (hash_of secrets)) (sym (at_slot slots terms is id) ∙ at)

-- a place without a term is listed nowhere
pub unlisted : (secrets : TextHash) (slots : List (Option Term)) (index : FinMap nat_cmp ℕ) (id : ℕ) → IsDictionary secrets slots index → slot_at slots id ≡ None → map.get index id ≡ None
unlisted secrets slots index id sound vacant = sound.indexed id ∙ ap (option_map (hash_of secrets)) vacant

pub IsDictionary-add : (secrets : TextHash) (old new : List (Option Term)) (index grown : FinMap nat_cmp ℕ) (terms : Terms) (id : ℕ) (term : Term) → numbered old ≡ terms → IsDictionary secrets old index → IsNew terms term → Writes old new id (Some term) → grown ≡ map.insert index id (hash_of secrets term) → length new ≤ 2 ^ 31 → IsDictionary secrets new grown
IsDictionary-add secrets old new index grown terms id term is sound fresh writes more few =
    record {
      indexed = λ q. ap (λ m. map.get m q) more ∙ IsIndexed-insert (hash_of secrets) old new index id term sound.indexed writes q;
      different = λ p q other at_p at_q.
          elim (cases_eq p id) [
            | inl p_is ↦
                elim (cases_eq q id) [
                  | inl q_is ↦ p_is ∙ sym q_is
                  | inr q_ne ↦
                      let own : Some term ≡ Some other = sym writes.changed ∙ ap (slot_at new) (sym p_is) ∙ at_p in
                      absurd (fresh q (at_slot old terms is q ∙ sym (writes.others q q_ne) ∙ at_q ∙ sym own))
                ]
            | inr p_ne ↦
                elim (cases_eq q id) [
                  | inl q_is ↦
                      let own : Some term ≡ Some other = sym writes.changed ∙ ap (slot_at new) (sym q_is) ∙ at_q in
                      absurd (fresh p (at_slot old terms is p ∙ sym (writes.others p p_ne) ∙ at_p ∙ sym own))
                  | inr q_ne ↦ sound.different p q other (sym (writes.others p p_ne) ∙ at_p) (sym (writes.others q q_ne) ∙ at_q)
                ]
          ];
      few = few;
    }

pub IsDictionary-remove : (secrets : TextHash) (old new : List (Option Term)) (index less : FinMap nat_cmp ℕ) (id : ℕ) → IsDictionary secrets old index → Writes old new id None → less ≡ map.remove index id → length new ≡ length old → IsDictionary secrets new less
IsDictionary-remove secrets old new index less id sound writes gone same =
    record {
      indexed = λ q. ap (λ m. map.get m q) gone ∙ IsIndexed-remove (hash_of secrets) old new index id sound.indexed writes q;
      different = λ p q other at_p at_q. sound.different p q other (before p other at_p) (before q other at_q);
      few = let e = sound.few in omega (arith, e, same);
    }
  where
    before : (q : ℕ) (other : Term) → slot_at new q ≡ Some other → slot_at old q ≡ Some other
    before q other at =
        elim (cases_eq q id) [
          | inl is ↦ absurd (no_some other (sym writes.changed ∙ ap (slot_at new) (sym is) ∙ at))
          | inr ne ↦ sym (writes.others q ne) ∙ at
        ]

-- the next place is below 2 ^ 31, and so are the places with it
pub next_is_small : (secrets : TextHash) (slots : List (Option Term)) (index : FinMap nat_cmp ℕ) (terms : Terms) (next : ℕ) → numbered slots ≡ terms → IsDictionary secrets slots index → map.len terms < 2 ^ 31 → (next < length slots) ⊎ ((next ≡ length slots) × (count_by is_some slots ≡ length slots)) → next < 2 ^ 31
next_is_small secrets slots index terms next is sound room (inl below) = let few = sound.few in omega arith
next_is_small secrets slots index terms next is sound room (inr end) =
    let len = len_of slots terms is in
    let at = end.0 in
    let full = end.1 in
    omega arith

pub ListsHeld-from : (secrets : TextHash) (slots : List (Option Term)) (index : FinMap nat_cmp ℕ) → IsDictionary secrets slots index → ListsHeld slots index
ListsHeld-from secrets slots index sound id vacant = unlisted secrets slots index id sound vacant

-- a term that no slot under its hash has is new
pub IsNew-from : (secrets : TextHash) (slots : List (Option Term)) (index : FinMap nat_cmp ℕ) (terms : Terms) (hash : ℕ) (term : Term) → numbered slots ≡ terms → IsDictionary secrets slots index → hash ≡ hash_of secrets term → IsNotUnder slots index hash term → IsNew terms term
IsNew-from secrets slots index terms hash term is sound own none id at =
    none id (listed secrets slots index terms id term is sound at ∙ ap Some (sym own)) (sym (at_slot slots terms is id) ∙ at)

pub not_there : {A : Type 0} (o : Option A) → IsSome o → o ≡ None → ⊥
not_there None h e = cc
not_there (Some x) h e = cc

pub same_some : {A : Type 0} (x y : A) → Some x ≡ Some y → x ≡ y
same_some x y e = cc

-- the places stay few
pub few_after : (secrets : TextHash) (old new : List (Option Term)) (index : FinMap nat_cmp ℕ) (terms : Terms) (number next : ℕ) → numbered old ≡ terms → IsDictionary secrets old index → map.len terms < 2 ^ 31 → number ≡ next → (number < length old) ⊎ ((number ≡ length old) × (count_by is_some old ≡ length old)) → (length new ≡ length old) ⊎ ((length new ≡ length old + 1) × (next ≡ length old)) → length new ≤ 2 ^ 31
few_after secrets old new index terms number next is sound room same least (inl kept) = let few = sound.few in omega arith
few_after secrets old new index terms number next is sound room same (inl below) (inr grown) = let at = grown.1 in absurd (omega arith)
few_after secrets old new index terms number next is sound room same (inr end) (inr grown) =
    let len = len_of old terms is in
    let longer = grown.0 in
    let full = end.1 in
    omega arith

pub IsDictionary-same : (secrets : TextHash) (old new : List (Option Term)) (index other : FinMap nat_cmp ℕ) → new ≡ old → other ≡ index → IsDictionary secrets old index → IsDictionary secrets new other
IsDictionary-same secrets old new index other slots_are index_is sound =
    subst (λ (s : List (Option Term)). IsDictionary secrets s other) (sym slots_are) (subst (λ (m : FinMap nat_cmp ℕ). IsDictionary secrets old m) (sym index_is) sound)

-- a new term has been put in, and is listed under its hash
pub IsDictionary-puts : (secrets : TextHash) (old new : List (Option Term)) (index grown : FinMap nat_cmp ℕ) (terms : Terms) (id hash : ℕ) (term : Term) → numbered old ≡ terms → IsDictionary secrets old index → map.len terms < 2 ^ 31 → IsNew terms term → Puts old new id term → grown ≡ map.insert index id hash → hash ≡ hash_of secrets term → IsDictionary secrets new grown
IsDictionary-puts secrets old new index grown terms id hash term is sound room fresh puts more own =
    IsDictionary-add secrets old new index grown terms id term is sound fresh puts.written (more ∙ ap (map.insert index id) own)
    (few_after secrets old new index terms id id is sound room refl puts.least puts.len)
