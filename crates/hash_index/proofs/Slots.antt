-- What slots say of the finite map that they stand for, and of an index of it.
use Rattle.std.proofs.Common.{◌≡◌, ◌≢◌, ℕ, zero, suc, ◌+◌, ◌<◌, Bool, true, false, cond, List, [], ◌∷◌, Option, None, Some, is_some, refl, sym, ap, ◌∙◌, inl, inr, arith, count_by}
use Rattle.std.proofs.lemmas.Bool.{cases_eq}
use Rattle.std.proofs.lemmas.List.Sums.{sum_by-cons}
use Rattle.std.specs.Option.{option_map}
use Rattle.std.specs.Ordering.{nat_cmp, eq_by_cmp}
use Rattle.std.specs.Cmp.{nat_cmp_total}
use Rattle.std.specs.FinMap as map
use Rattle.std.specs.FinMap.{FinMap, find, nat_cmp-IsAntisymmetric}
use Rattle.hypertrie_model.specs.MapLaws as laws
use Rattle.hash_index.specs.Slots.{numbered_from, numbered, slot_at, Writes, IsIndexed}

by_key : (P : Bool → Type 0) (q k : ℕ) → (q ≡ k → P true) → (q ≢ k → P false) → P (eq_by_cmp nat_cmp q k)
by_key = laws.by_key nat_cmp_total nat_cmp-IsAntisymmetric

module _ {X : Type 0} where
  find_below : (at q : ℕ) (slots : List (Option X)) → q < at → find nat_cmp q (numbered_from at slots) ≡ None
  find_below at q [] h = refl
  find_below at q (None ∷ rest) h = find_below (at + 1) q rest (omega arith)
  find_below at q (Some x ∷ rest) h =
      by_key (λ b. cond b (Some x) (find nat_cmp q (numbered_from (at + 1) rest)) ≡ None) q at (λ is. absurd (omega arith)) (λ _. find_below (at + 1) q rest (omega arith))

  find_slot : (at i : ℕ) (slots : List (Option X)) → find nat_cmp (at + i) (numbered_from at slots) ≡ slot_at slots i
  find_slot at i [] = refl
  find_slot at zero (None ∷ rest) = find_below (at + 1) (at + zero) rest (omega arith)
  find_slot at zero (Some x ∷ rest) =
      by_key (λ b. cond b (Some x) (find nat_cmp (at + zero) (numbered_from (at + 1) rest)) ≡ Some x) (at + zero) at (λ _. refl) (λ ne. absurd (ne (omega arith)))
  find_slot at (suc i) (None ∷ rest) = ap (λ z. find nat_cmp z (numbered_from (at + 1) rest)) (let e : at + suc i ≡ (at + 1) + i = omega arith in e) ∙ find_slot (at + 1) i rest
  find_slot at (suc i) (Some x ∷ rest) =
      by_key (λ b. cond b (Some x) (find nat_cmp (at + suc i) (numbered_from (at + 1) rest)) ≡ find nat_cmp (at + suc i) (numbered_from (at + 1) rest)) (at + suc i) at (λ is. absurd (omega arith)) (λ _. refl)
      ∙ ap (λ z. find nat_cmp z (numbered_from (at + 1) rest)) (let e : at + suc i ≡ (at + 1) + i = omega arith in e) ∙ find_slot (at + 1) i rest

  -- the map has under a number what stands in the slot
  pub get-numbered : (slots : List (Option X)) (r : ℕ) → map.get (numbered slots) r ≡ slot_at slots r
  unfolding numbered
  get-numbered slots r =
      map.get-from_entries nat_cmp_total (numbered_from 0 slots) r
      ∙ ap (λ z. find nat_cmp z (numbered_from 0 slots)) (let e : r ≡ 0 + r = omega arith in e)
      ∙ find_slot 0 r slots

  len_from : (at : ℕ) (slots : List (Option X)) → map.len (map.from_entries {R = nat_cmp} (numbered_from at slots)) ≡ count_by is_some slots
  len_from at [] = map.len-empty nat_cmp X
  len_from at (None ∷ rest) = len_from (at + 1) rest ∙ sym (let e = sum_by-cons (λ o. cond (is_some o) 1 0) None rest in omega (arith, e))
  len_from at (Some x ∷ rest) =
      let fresh : map.get (map.from_entries {R = nat_cmp} (numbered_from (at + 1) rest)) at ≡ None = map.get-from_entries nat_cmp_total (numbered_from (at + 1) rest) at ∙ find_below (at + 1) at rest (omega arith) in
      let more = map.len-insert nat_cmp_total (map.from_entries {R = nat_cmp} (numbered_from (at + 1) rest)) at x
      ∙ ap (λ o. cond (is_some o) (map.len (map.from_entries {R = nat_cmp} (numbered_from (at + 1) rest))) (map.len (map.from_entries {R = nat_cmp} (numbered_from (at + 1) rest)) + 1)) fresh in
      let e = sum_by-cons (λ o. cond (is_some o) 1 0) (Some x) rest in
      let ih = len_from (at + 1) rest in
      omega (arith, more, e, ih)

  -- it has as many entries as slots hold something
  pub len-numbered : (slots : List (Option X)) → map.len (numbered slots) ≡ count_by is_some slots
  unfolding numbered
  len-numbered slots = len_from 0 slots

  pub numbered-empty : numbered {X = X} [] ≡ map.empty
  unfolding numbered
  numbered-empty = refl

  pub numbered-insert : (old new : List (Option X)) (k : ℕ) (v : X) → Writes old new k (Some v) → numbered new ≡ map.insert (numbered old) k v
  numbered-insert old new k v writes =
      map.same_map nat_cmp_total nat_cmp-IsAntisymmetric _ _ (λ q. get-numbered new q ∙ by_key (λ b. slot_at new q ≡ cond b (Some v) (map.get (numbered old) q)) q k
      (λ same. ap (slot_at new) same ∙ writes.changed)
      (λ ne. writes.others q ne ∙ sym (get-numbered old q))
      ∙ sym (map.get-insert nat_cmp_total (numbered old) k v q))

  pub numbered-remove : (old new : List (Option X)) (k : ℕ) → Writes old new k None → numbered new ≡ map.remove (numbered old) k
  numbered-remove old new k writes =
      map.same_map nat_cmp_total nat_cmp-IsAntisymmetric _ _ (λ q. get-numbered new q ∙ by_key (λ b. slot_at new q ≡ cond b None (map.get (numbered old) q)) q k
      (λ same. ap (slot_at new) same ∙ writes.changed)
      (λ ne. writes.others q ne ∙ sym (get-numbered old q))
      ∙ sym (map.get-remove nat_cmp_total (numbered old) k q))

  module _ (hash_of : X → ℕ) where
    pub IsIndexed-empty : IsIndexed hash_of [] map.empty
    IsIndexed-empty q = map.get-empty nat_cmp q

    pub IsIndexed-insert : (old new : List (Option X)) (index : FinMap nat_cmp ℕ) (k : ℕ) (v : X) → IsIndexed hash_of old index → Writes old new k (Some v) → IsIndexed hash_of new (map.insert index k (hash_of v))
    IsIndexed-insert old new index k v indexed writes q =
        map.get-insert nat_cmp_total index k (hash_of v) q
        ∙ by_key (λ b. cond b (Some (hash_of v)) (map.get index q) ≡ option_map hash_of (slot_at new q)) q k
        (λ same. sym (ap (λ z. option_map hash_of (slot_at new z)) same ∙ ap (option_map hash_of) writes.changed))
        (λ ne. indexed q ∙ ap (option_map hash_of) (sym (writes.others q ne)))

    pub IsIndexed-remove : (old new : List (Option X)) (index : FinMap nat_cmp ℕ) (k : ℕ) → IsIndexed hash_of old index → Writes old new k None → IsIndexed hash_of new (map.remove index k)
    IsIndexed-remove old new index k indexed writes q =
        map.get-remove nat_cmp_total index k q
        ∙ by_key (λ b. cond b None (map.get index q) ≡ option_map hash_of (slot_at new q)) q k
        (λ same. sym (ap (λ z. option_map hash_of (slot_at new z)) same ∙ ap (option_map hash_of) writes.changed))
        (λ ne. indexed q ∙ ap (option_map hash_of) (sym (writes.others q ne)))

    -- something is written over by something with the same hash
    pub IsIndexed-same : (old new : List (Option X)) (index : FinMap nat_cmp ℕ) (k : ℕ) (v w : X) → IsIndexed hash_of old index → slot_at old k ≡ Some v → Writes old new k (Some w) → hash_of w ≡ hash_of v → IsIndexed hash_of new index
    IsIndexed-same old new index k v w indexed was writes hash q =
        elim (cases_eq q k) [
          | inl same ↦
              ap (map.get index) same ∙ indexed k ∙ ap (option_map hash_of) was ∙ ap Some (sym hash)
              ∙ sym (ap (λ z. option_map hash_of (slot_at new z)) same ∙ ap (option_map hash_of) writes.changed)
          | inr ne ↦ indexed q ∙ ap (option_map hash_of) (sym (writes.others q ne))
        ]

    by_slot : (slots : List (Option X)) (number hash : ℕ) (o : Option X) → slot_at slots number ≡ o → option_map hash_of (slot_at slots number) ≡ Some hash → (x : X) × (slot_at slots number ≡ Some x) × (hash_of x ≡ hash)
    by_slot slots number hash None is e = absurd (let t : None ≡ Some hash = sym (ap (option_map hash_of) is) ∙ e in cc)
    by_slot slots number hash (Some x) is e = (x, is, let t : Some (hash_of x) ≡ Some hash = sym (ap (option_map hash_of) is) ∙ e in cc)

    -- a number that is listed under a hash is that of something with the hash
    pub listed_slot : (slots : List (Option X)) (index : FinMap nat_cmp ℕ) (number hash : ℕ) → IsIndexed hash_of slots index → map.get index number ≡ Some hash → (x : X) × (slot_at slots number ≡ Some x) × (hash_of x ≡ hash)
    listed_slot slots index number hash indexed at = by_slot slots number hash _ refl (sym (indexed number) ∙ at)
