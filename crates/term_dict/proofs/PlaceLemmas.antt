-- How each change of the places keeps the count of terms and the list of places without one.
use Rattle.std.proofs.Common.{◌≡◌, ◌≢◌, ◌⊎◌, ℕ, zero, suc, ◌+◌, ◌-◌, ◌<◌, ◌≤◌, List, [], ◌∷◌, ◌++◌, map, length, get_or, set, Option, Some, None, is_some, IsSome, count_by, cond, slice_get, refl, sym, ap, subst, ◌∙◌, inl, inr, arith, length-set}
use Rattle.std.proofs.lemmas.List.{map-set, map_push, length-map, length_push, get_or-map, get_or-set_same, get_or-set_other, get_or_past}
use Rattle.std.proofs.lemmas.List.Elements.{All-set, All-push}
use Rattle.std.proofs.lemmas.List.Sums.{sum_by-set, sum_by_push}
use Rattle.std.proofs.lemmas.Option.{slice_get_within, slice_get-get_or, slice_get_read, get_or_from_slice_get}
use Rattle.rdf_model.specs.Terms.{Term}
use Rattle.hash_index.specs.Slots.{slot_at, Writes}
use Rattle.term_dict.specs.declared.term_slot.TermSlot.{TermSlot}
use Rattle.term_dict.specs.declared.term_slot.TermSlot.TheVariants.{Vacant}
use Rattle.term_dict.specs.Places.{term_in, IsParted, IsVacantList, IsLinked}

-- a place starts one list at most
count_unique : (ps : List TermSlot) (m n number : ℕ) → IsVacantList ps m number → IsVacantList ps n number → m ≡ n
count_unique ps zero zero number p q = refl
count_unique ps zero (suc n) number p q = absurd (omega (arith, slice_get_within ps number _ q.1))
count_unique ps (suc m) zero number p q = absurd (omega (arith, slice_get_within ps number _ p.1))
count_unique ps (suc m) (suc n) number p q =
    let first = p.1 in
    let second = q.1 in
    let same : q.0 ≡ p.0 = cc in
    ap suc (count_unique ps m n p.0 p.2 (subst (IsVacantList ps n) same q.2))

-- a write of a place that is not on the list keeps the list
IsVacantList-set : (ps : List TermSlot) (number : ℕ) (e : TermSlot) (n from : ℕ) → ((m : ℕ) → m < n → IsVacantList ps (suc m) number → ⊥) → IsVacantList ps n from → IsVacantList (set ps number e) n from
IsVacantList-set ps number e zero from off p = p ∙ sym (length-set ps number e)
IsVacantList-set ps number e (suc n) from off p =
    let other : from ≢ number = λ same. off n (omega arith) (subst (IsVacantList ps (suc n)) same p) in
    let within = slice_get_within ps from _ p.1 in
    let kept : slice_get (set ps number e) from ≡ Some (Vacant p.0) =
    slice_get-get_or (set ps number e) from e (omega (arith, length-set ps number e))
    ∙ ap Some (get_or-set_other ps number from e e other ∙ get_or_from_slice_get ps from _ e p.1) in
    (p.0, kept, IsVacantList-set ps number e n p.0 (λ m below. off m (omega arith)) p.2)

vacant_has_no_term : (next : ℕ) (e : TermSlot) → e ≡ Vacant next → IsSome (term_in e) → ⊥
vacant_has_no_term next e is there = let t : term_in e ≡ None = ap term_in is in cc

-- a place with a term is on no list
term_is_off_list : (ps : List TermSlot) (number : ℕ) (e : TermSlot) → slice_get ps number ≡ Some e → IsSome (term_in e) → (m : ℕ) → IsVacantList ps (suc m) number → ⊥
term_is_off_list ps number e found there m p =
    let listed = p.1 in
    let is : e ≡ Vacant p.0 = cc in
    vacant_has_no_term p.0 e is there

-- the count of terms after a write
count-set : (ps : List TermSlot) (number : ℕ) (old new : TermSlot) → slice_get ps number ≡ Some old → count_by is_some (map term_in (set ps number new)) + cond (is_some (term_in old)) 1 0 ≡ count_by is_some (map term_in ps) + cond (is_some (term_in new)) 1 0
count-set ps number old new found =
    let within = slice_get_within ps number old found in
    let read : get_or (map term_in ps) number None ≡ term_in old =
    get_or-map term_in ps number old None within ∙ ap term_in (get_or_from_slice_get ps number old old found) in
    let counted = sum_by-set (λ o. cond (is_some o) 1 0) (map term_in ps) number (term_in new) None (omega (arith, length-map ps term_in)) in
    rw (map-set term_in ps number new, ← read) counted

-- a slot with a term is a place with it
pub place_at : (ps : List TermSlot) (number : ℕ) → IsSome (slot_at (map term_in ps) number) → (e : TermSlot) × (slice_get ps number ≡ Some e) × IsSome (term_in e)
place_at ps number present =
    let inside : number < length (map term_in ps) = grind (arith, get_or_past) in
    let within : number < length ps = omega (arith, length-map ps term_in) in
    (get_or ps number (Vacant 0), slice_get-get_or ps number (Vacant 0) within, subst IsSome (get_or-map term_in ps number (Vacant 0) None within) present)

-- the next place is a new one where each place has a term, or it has none
next_cases : (ps : List TermSlot) (held next : ℕ) → IsLinked ps held next → ((next ≡ length ps) × (held ≡ length ps)) ⊎ ((after : ℕ) × (slice_get ps next ≡ Some (Vacant after)))
next_cases ps held next sound = by_count sound.vacant sound.total sound.linked
  where
    by_count : (n : ℕ) → held + n ≡ length ps → IsVacantList ps n next → ((next ≡ length ps) × (held ≡ length ps)) ⊎ ((after : ℕ) × (slice_get ps next ≡ Some (Vacant after)))
    by_count zero total linked = inl (linked, omega arith)
    by_count (suc n) total linked = inr (linked.0, linked.1)

pub next_is_vacant : (ps : List TermSlot) (held next : ℕ) → IsLinked ps held next → slot_at (map term_in ps) next ≡ None
next_is_vacant ps held next sound =
    elim (next_cases ps held next sound) [
      | inl full ↦ get_or_past (map term_in ps) next None (omega (arith, length-map ps term_in))
      | inr found ↦ get_or-map term_in ps next (Vacant 0) None (slice_get_within ps next _ found.1) ∙ ap term_in (get_or_from_slice_get ps next _ (Vacant 0) found.1)
    ]

pub next_is_least : (ps : List TermSlot) (held next : ℕ) → IsLinked ps held next → (next < length (map term_in ps)) ⊎ ((next ≡ length (map term_in ps)) × (count_by is_some (map term_in ps) ≡ length (map term_in ps)))
next_is_least ps held next sound =
    elim (next_cases ps held next sound) [
      | inl full ↦ inr (full.0 ∙ sym (length-map ps term_in), sym sound.counted ∙ full.1 ∙ sym (length-map ps term_in))
      | inr found ↦ inl (let within = slice_get_within ps next _ found.1 in omega (arith, length-map ps term_in))
    ]

pub full_at_end : (ps : List TermSlot) (held next : ℕ) → IsLinked ps held next → next ≡ length ps → held ≡ length ps
full_at_end ps held next sound at_end =
    elim (next_cases ps held next sound) [
      | inl full ↦ full.1
      | inr found ↦ omega (arith, slice_get_within ps next _ found.1)
    ]

vacant_before_end : (ps : List TermSlot) (held next : ℕ) → IsLinked ps held next → next ≢ length ps → (after : ℕ) × (slice_get ps next ≡ Some (Vacant after))
vacant_before_end ps held next sound before =
    elim (next_cases ps held next sound) [ inl full ↦ absurd (before full.0) | inr found ↦ found ]

pub next_within : (ps : List TermSlot) (held next : ℕ) → IsLinked ps held next → next ≢ length ps → next < length ps
next_within ps held next sound before = slice_get_within ps next _ (vacant_before_end ps held next sound before).1

-- what a read of the next place gives stands there
pub read_at_next : (ps : List TermSlot) (held next : ℕ) (e : TermSlot) → IsLinked ps held next → next ≢ length ps → e ≡ get_or ps next e → slice_get ps next ≡ Some e
read_at_next ps held next e sound before read = slice_get_read ps (length ps) next e refl (next_within ps held next sound before) read

-- and it is a place without a term
pub next_reads_vacant : (ps : List TermSlot) (held next : ℕ) (e : TermSlot) → IsLinked ps held next → slice_get ps next ≡ Some e → (after : ℕ) × (e ≡ Vacant after)
next_reads_vacant ps held next e sound found =
    let vacant = vacant_before_end ps held next sound (λ is. omega (arith, slice_get_within ps next _ found)) in
    let there = vacant.1 in
    (vacant.0, let t : e ≡ Vacant vacant.0 = cc in t)

one-some : (o : Option Term) → IsSome o → ◌≡◌ {A = ℕ} (cond (is_some o) 1 0) 1
one-some None there = cc
one-some (Some t) there = refl

pub IsLinked-push : (ps : List TermSlot) (held next : ℕ) (e : TermSlot) → IsLinked ps held next → next ≡ length ps → IsSome (term_in e) → IsParted e → IsLinked (ps ++ e ∷ []) (held + 1) (next + 1)
IsLinked-push ps held next e sound at_end there cut =
    let full = full_at_end ps held next sound at_end in
    let longer = length_push ps e in
    let one = one-some (term_in e) there in
    record {
      counted = rw (map_push term_in ps e, sum_by_push (λ o. cond (is_some o) 1 0) (map term_in ps) (term_in e)) (let h = sound.counted in omega arith);
      vacant = 0;
      total = omega arith;
      linked = omega arith;
      parted = All-push IsParted ps e sound.parted cut;
    }

-- the first place without a term leaves the list: the rest of the list is shorter, so it does not come back to that place
pub IsLinked-fill : (ps : List TermSlot) (held next after : ℕ) (e : TermSlot) → IsLinked ps held next → slice_get ps next ≡ Some (Vacant after) → IsSome (term_in e) → IsParted e → IsLinked (set ps next e) (held + 1) after
IsLinked-fill ps held next after e sound found there cut = by_count sound.vacant sound.total sound.linked
  where
    by_count : (n : ℕ) → held + n ≡ length ps → IsVacantList ps n next → IsLinked (set ps next e) (held + 1) after
    by_count zero total linked = absurd (omega (arith, slice_get_within ps next _ found))
    by_count (suc n) total linked =
        let listed = linked.1 in
        let same : linked.0 ≡ after = cc in
        let off : (m : ℕ) → m < n → IsVacantList ps (suc m) next → ⊥ =
        λ m below p. omega (arith, count_unique ps (suc m) (suc n) next p linked) in
        record {
          counted = let one = one-some (term_in e) there in omega (arith, sound.counted, count-set ps next (Vacant after) e found);
          vacant = n;
          total = omega (arith, length-set ps next e);
          linked = IsVacantList-set ps next e n after off (subst (IsVacantList ps n) same linked.2);
          parted = All-set IsParted ps next e cut sound.parted;
        }

pub IsLinked-vacate : (ps : List TermSlot) (held next number : ℕ) (e : TermSlot) → IsLinked ps held next → slice_get ps number ≡ Some e → IsSome (term_in e) → IsLinked (set ps number (Vacant next)) (held - 1) number
IsLinked-vacate ps held next number e sound found there =
    let within = slice_get_within ps number _ found in
    let count = count-set ps number e (Vacant next) found in
    let one = one-some (term_in e) there in
    let before = sound.counted in
    let written : slice_get (set ps number (Vacant next)) number ≡ Some (Vacant next) =
    slice_get-get_or _ number (Vacant next) (omega (arith, length-set ps number (Vacant next)))
    ∙ ap Some (get_or-set_same ps number (Vacant next) (Vacant next) within) in
    record {
      counted = omega arith;
      vacant = suc sound.vacant;
      total = let all = sound.total in omega (arith, length-set ps number (Vacant next));
      linked = (next, written, IsVacantList-set ps number (Vacant next) sound.vacant next (λ m _. term_is_off_list ps number e found there m) sound.linked);
      parted = All-set IsParted ps number (Vacant next) tt sound.parted;
    }

-- at least one place has a term
pub some_held : (ps : List TermSlot) (held next number : ℕ) (e : TermSlot) → IsLinked ps held next → slice_get ps number ≡ Some e → IsSome (term_in e) → 1 ≤ held
some_held ps held next number e sound found there =
    let count = count-set ps number e (Vacant next) found in
    let one = one-some (term_in e) there in
    let before = sound.counted in
    omega arith

pub Writes-set : (ps : List TermSlot) (number : ℕ) (e : TermSlot) → number < length ps → Writes (map term_in ps) (map term_in (set ps number e)) number (term_in e)
Writes-set ps number e within =
    record {
      changed = ap (λ os. slot_at os number) (map-set term_in ps number e) ∙ get_or-set_same (map term_in ps) number (term_in e) None (omega (arith, length-map ps term_in));
      others = λ other ne. ap (λ os. slot_at os other) (map-set term_in ps number e) ∙ get_or-set_other (map term_in ps) number other (term_in e) None ne;
    }
