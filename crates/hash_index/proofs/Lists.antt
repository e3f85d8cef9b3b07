-- Entries in buckets, and the finite map that they stand for.
use Rattle.std.proofs.Common.{◌≡◌, ◌==◌, ◌%◌, ◌^◌, slice_get, set, length-set, ◌≢◌, ◌⊎◌, ◌&&◌, ℕ, ◌+◌, ◌<◌, ◌≤◌, Bool, true, false, cond, List, [], ◌∷◌, ◌++◌, length, Option, None, Some, zero, suc, refl, sym, ap, subst, ◌∙◌, inl, inr, arith, eqb, eq-eqb, Contains, get_or}
use Rattle.std.proofs.lemmas.Bool.{ne_eqb, cases_eq, cases_lt}
use Rattle.std.proofs.lemmas.List.Sums.{sum_by-cons, sum_by_push, sum_by-swap_remove}
use Rattle.std.proofs.lemmas.Option.{get_or_from_slice_get}
use Rattle.std.proofs.lemmas.List.{get_or-set_same, get_or-set_other, get_or_push, get_or_past, length_push}
use Rattle.std.proofs.Math.ListN.{get_or-append}
use Rattle.std.proofs.Math.Nat.{mod-le}
use Rattle.std.specs.List.{filter, swap_remove}
use Rattle.std.specs.Ordering.{nat_cmp, eq_by_cmp}
use Rattle.std.specs.Cmp.{nat_cmp_total}
use Rattle.hypertrie_model.specs.MapLaws as laws
use Rattle.std.specs.FinMap as map
use Rattle.std.specs.FinMap.{FinMap, find, nat_cmp-IsAntisymmetric}
use Rattle.hash_index.specs.declared.entry.Entry.{Entry}
use Rattle.hash_index.proofs.Places.{bucket_of-more, bucket_of-new}
use Rattle.hash_index.specs.Buckets.{Entries, listed, all_listed, hashes_of, entries_at, bucket_of, is_entry, times, one_at, IsListedOnce, IsSound, Adds, TakesOne, ChangesOne, IsParted}

by_key : (P : Bool → Type 0) (q k : ℕ) → (q ≡ k → P true) → (q ≢ k → P false) → P (eq_by_cmp nat_cmp q k)
by_key = laws.by_key nat_cmp_total nat_cmp-IsAntisymmetric

abbrev one : Bool → ℕ
one b = cond b 1 0

is_entry-same : (hash number : ℕ) (e : Entry) → e.hash ≡ hash → e.number ≡ number → is_entry hash number e ≡ true
is_entry-same hash number e h n = ap (λ b. b && eqb e.number number) (eq-eqb e.hash hash h) ∙ eq-eqb e.number number n

is_entry-other_number : (hash number : ℕ) (e : Entry) → e.number ≢ number → is_entry hash number e ≡ false
is_entry-other_number hash number e ne =
    elim (cases_eq e.hash hash) [
      | inl is ↦ ap (λ b. b && eqb e.number number) (eq-eqb e.hash hash is) ∙ ne_eqb e.number number ne
      | inr other ↦ ap (λ b. b && eqb e.number number) (ne_eqb e.hash hash other)
    ]

is_entry-other_hash : (hash number : ℕ) (e : Entry) → e.hash ≢ hash → is_entry hash number e ≡ false
is_entry-other_hash hash number e ne = ap (λ b. b && eqb e.number number) (ne_eqb e.hash hash ne)

times-cons : (hash number : ℕ) (e : Entry) (es : Entries) (b : Bool) → is_entry hash number e ≡ b → times hash number (e ∷ es) ≡ one b + times hash number es
times-cons hash number e es b is = sum_by-cons (λ x. one (is_entry hash number x)) e es ∙ ap (λ c. one c + times hash number es) is

times-skip : (hash number : ℕ) (e : Entry) (es : Entries) → is_entry hash number e ≡ false → times hash number (e ∷ es) ≡ times hash number es
times-skip hash number e es differs = let t = times-cons hash number e es false differs in omega (arith, t)

-- what a number's look-up finds first
first_list : (r : ℕ) (es : Entries) (rest : List (ℕ × ℕ)) → ((h : ℕ) × (0 < times h r es) × (find nat_cmp r (listed es rest) ≡ Some h)) ⊎ (((h : ℕ) → times h r es ≡ 0) × (find nat_cmp r (listed es rest) ≡ find nat_cmp r rest))
first_list r [] rest = inr ((λ _. refl), refl)
first_list r (e ∷ es) rest =
    elim (cases_eq r e.number) [
      | inl is ↦
          inl (
            e.hash,
            omega (arith, times-cons e.hash r e es true (is_entry-same e.hash r e refl (sym is))),
            by_key (λ b. cond b (Some e.hash) (find nat_cmp r (listed es rest)) ≡ Some e.hash) r e.number (λ _. refl) (λ ne. absurd (ne is)),
          )
      | inr ne ↦
          let other : find nat_cmp r (listed (e ∷ es) rest) ≡ find nat_cmp r (listed es rest) = by_key (λ b. cond b (Some e.hash) (find nat_cmp r (listed es rest)) ≡ find nat_cmp r (listed es rest)) r e.number (λ is. absurd (ne is)) (λ _. refl) in
          let same : (h : ℕ) → times h r (e ∷ es) ≡ times h r es = λ h. times-skip h r e es (is_entry-other_number h r e (λ is. ne (sym is))) in
          elim (first_list r es rest) [
            | inl w ↦ inl (w.0, omega (arith, same w.0, w.1), other ∙ w.2)
            | inr w ↦ inr ((λ h. same h ∙ w.0 h), other ∙ w.1)
          ]
    ]

-- a number that is found stands in a bucket
found_stands : (r h : ℕ) (buckets : List Entries) → find nat_cmp r (all_listed buckets) ≡ Some h → (b : ℕ) × (0 < times h r (entries_at buckets b))
found_stands r h [] e = absurd (cc)
found_stands r h (es ∷ buckets) e =
    elim (first_list r es (all_listed buckets)) [
      | inl w ↦ let is : w.0 ≡ h = (let t = sym w.2 ∙ e in cc) in (0, subst (λ k. 0 < times k r es) is w.1)
      | inr w ↦ let later = found_stands r h buckets (sym w.1 ∙ e) in (suc later.0, later.1)
    ]

-- and one that isn't stands in none
missed_stands_not : (r : ℕ) (buckets : List Entries) → find nat_cmp r (all_listed buckets) ≡ None → (h b : ℕ) → times h r (entries_at buckets b) ≡ 0
missed_stands_not r [] e h b = refl
missed_stands_not r (es ∷ buckets) e h zero =
    elim (first_list r es (all_listed buckets)) [
      | inl w ↦ absurd (let t = sym w.2 ∙ e in cc)
      | inr w ↦ w.0 h
    ]
missed_stands_not r (es ∷ buckets) e h (suc b) =
    elim (first_list r es (all_listed buckets)) [
      | inl w ↦ absurd (let t = sym w.2 ∙ e in cc)
      | inr w ↦ missed_stands_not r buckets (sym w.1 ∙ e) h b
    ]

one_at-own : (own hash : ℕ) → 0 < one_at (Some own) hash → own ≡ hash
one_at-own own hash lt =
    elim (cases_eq own hash) [
      | inl is ↦ is
      | inr ne ↦ absurd (let t = ap one (ne_eqb own hash ne) in omega (arith, t, lt))
    ]

one_at-itself : (own : ℕ) → one_at (Some own) own ≡ 1
one_at-itself own = ap one (eq-eqb own own refl)

one_at-other : (own hash : ℕ) → own ≢ hash → one_at (Some own) hash ≡ 0
one_at-other own hash ne = ap one (ne_eqb own hash ne)

-- a count that is kept in one bucket alone
in_own : (bucket b n : ℕ) → bucket ≡ b → ◌≡◌ {A = ℕ} (cond (eqb bucket b) n 0) n
in_own bucket b n is = ap (λ c. cond {A = ℕ} c n 0) (eq-eqb bucket b is)

in_other : (bucket b n : ℕ) → bucket ≢ b → ◌≡◌ {A = ℕ} (cond (eqb bucket b) n 0) 0
in_other bucket b n ne = ap (λ c. cond {A = ℕ} c n 0) (ne_eqb bucket b ne)

cond-le : (b : Bool) (n : ℕ) → cond b n 0 ≤ n
cond-le true n = omega arith
cond-le false n = omega arith

cond-zero : (b : Bool) → ◌≡◌ {A = ℕ} (cond b 0 0) 0
cond-zero true = refl
cond-zero false = refl

-- buckets in which each number stands once, with the hash that the map has for it, stand for the map
pub hashes_by : (bits : ℕ) (buckets : List Entries) (hashes : FinMap nat_cmp ℕ) → IsListedOnce hashes bits buckets → hashes_of buckets ≡ hashes
unfolding hashes_of
hashes_by bits buckets hashes once =
    map.same_map nat_cmp_total nat_cmp-IsAntisymmetric _ _ (λ r. map.get-from_entries nat_cmp_total (all_listed buckets) r ∙ same r _ _ refl refl)
  where
    same : (r : ℕ) (f g : Option ℕ) → find nat_cmp r (all_listed buckets) ≡ f → map.get hashes r ≡ g → f ≡ g
    same r None None e is = refl
    same r None (Some h) e is =
        let place = bucket_of bits (length buckets) h in
        absurd (let t = sym (missed_stands_not r buckets e h place) ∙ once place h r ∙ in_own place place _ refl ∙ ap (λ o. one_at o h) is ∙ one_at-itself h in omega (arith, t))
    same r (Some h) None e is =
        absurd (let s = found_stands r h buckets e in let t = once s.0 h r ∙ ap (λ o. cond (eqb (bucket_of bits (length buckets) h) s.0) (one_at o h) 0) is ∙ cond-zero _ in omega (arith, s.1, t))
    same r (Some h) (Some k) e is =
        let s = found_stands r h buckets e in
        let t = once s.0 h r ∙ ap (λ o. cond (eqb (bucket_of bits (length buckets) h) s.0) (one_at o h) 0) is in
        let le = cond-le (eqb (bucket_of bits (length buckets) h) s.0) (one_at (Some k) h) in
        ap Some (sym (one_at-own k h (omega (arith, s.1, t, le))))

pub IsListedOnce-empty : (bits : ℕ) → IsListedOnce map.empty bits []
IsListedOnce-empty bits b h r = sym (ap (λ o. cond (eqb (bucket_of bits 0 h) b) (one_at o h) 0) (map.get-empty nat_cmp r) ∙ cond-zero _)

pub IsSound-by : (bits : ℕ) (buckets : List Entries) (hashes : FinMap nat_cmp ℕ) → IsListedOnce hashes bits buckets → bits < 32 → IsSound buckets bits
IsSound-by bits buckets hashes once small = record { once = subst (λ m. IsListedOnce m bits buckets) (sym (hashes_by bits buckets hashes once)) once; small = small }

abbrev entry_of : ℕ → ℕ → Entry
entry_of hash number = record { hash = hash; number = number }

stands_later : (h r : ℕ) (e : Entry) (es : Entries) → is_entry h r e ≡ false → (0 < times h r es → Contains es (entry_of h r)) → 0 < times h r (e ∷ es) → Contains (e ∷ es) (entry_of h r)
stands_later h r e es differs later lt =
    let t = times-skip h r e es differs in
    let rest = later (omega (arith, t, lt)) in
    (rest.0 + 1, omega (arith, rest.1), ap (λ k. get_or (e ∷ es) k (entry_of h r)) (let n : rest.0 + 1 ≡ suc rest.0 = omega arith in n) ∙ rest.2)

Contains-times : (h r : ℕ) (es : Entries) → 0 < times h r es → Contains es (entry_of h r)
Contains-times h r [] lt = absurd (omega arith)
Contains-times h r (e ∷ es) lt =
    elim (cases_eq e.number r) [
      | inr ne ↦ stands_later h r e es (is_entry-other_number h r e ne) (Contains-times h r es) lt
      | inl number ↦
          elim (cases_eq e.hash h) [
            | inr ne ↦ stands_later h r e es (is_entry-other_hash h r e ne) (Contains-times h r es) lt
            | inl hash ↦ (0, omega arith, ap (λ a. entry_of a e.number) hash ∙ ap (entry_of h) number)
          ]
    ]

times-at : (es : Entries) (k : ℕ) (d e : Entry) → k < length es → get_or es k d ≡ e → 0 < times e.hash e.number es
times-at [] k d e lt is = absurd (omega arith)
times-at (x ∷ es) zero d e lt is =
    omega (arith, times-cons e.hash e.number x es true (is_entry-same e.hash e.number x (ap (λ (y : Entry). y.hash) is) (ap (λ (y : Entry). y.number) is)))
times-at (x ∷ es) (suc k) d e lt is =
    let rest = times-at es k d e (omega arith) is in
    omega (arith, rest, times-cons e.hash e.number x es (is_entry e.hash e.number x) refl)

one_at-some : (o : Option ℕ) (hash : ℕ) → 0 < one_at o hash → o ≡ Some hash
one_at-some None hash lt = absurd (omega arith)
one_at-some (Some own) hash lt = ap Some (one_at-own own hash lt)

module _ (bits : ℕ) (buckets : List Entries) (own hashes : FinMap nat_cmp ℕ) (is : own ≡ hashes) (once : IsListedOnce own bits buckets) where
  -- what stands in a bucket is listed
  pub listed_in : (b : ℕ) (e : Entry) → Contains (entries_at buckets b) e → map.get hashes e.number ≡ Some e.hash
  listed_in b e stands =
      let some = times-at (entries_at buckets b) stands.0 e e stands.1 stands.2 in
      let t = once b e.hash e.number in
      let le = cond-le (eqb (bucket_of bits (length buckets) e.hash) b) (one_at (map.get own e.number) e.hash) in
      ap (λ m. map.get m e.number) (sym is) ∙ one_at-some _ e.hash (omega (arith, some, t, le))

  pub times_listed : (hash number : ℕ) → map.get hashes number ≡ Some hash → times hash number (entries_at buckets (bucket_of bits (length buckets) hash)) ≡ 1
  times_listed hash number at =
      let place = bucket_of bits (length buckets) hash in
      once place hash number ∙ in_own place place _ refl ∙ ap (λ m. one_at (map.get m number) hash) is ∙ ap (λ o. one_at o hash) at ∙ one_at-itself hash

  -- what is listed stands in the bucket of its hash
  pub stands_in : (hash number : ℕ) → map.get hashes number ≡ Some hash → Contains (entries_at buckets (bucket_of bits (length buckets) hash)) (entry_of hash number)
  stands_in hash number at = let t = times_listed hash number at in Contains-times hash number _ (omega (arith, t))

get-insert_here : (m : FinMap nat_cmp ℕ) (k v q : ℕ) → q ≡ k → map.get (map.insert m k v) q ≡ Some v
get-insert_here m k v q is = ap (map.get (map.insert m k v)) is ∙ laws.get-insert_here nat_cmp_total nat_cmp-IsAntisymmetric m k v

get-insert_other : (m : FinMap nat_cmp ℕ) (k v q : ℕ) → q ≢ k → map.get (map.insert m k v) q ≡ map.get m q
get-insert_other = laws.get-insert_other nat_cmp_total nat_cmp-IsAntisymmetric

get-remove_here : (m : FinMap nat_cmp ℕ) (k q : ℕ) → q ≡ k → map.get (map.remove m k) q ≡ None
get-remove_here m k q is = ap (map.get (map.remove m k)) is ∙ laws.get-remove_here nat_cmp_total nat_cmp-IsAntisymmetric m k

get-remove_other : (m : FinMap nat_cmp ℕ) (k q : ℕ) → q ≢ k → map.get (map.remove m k) q ≡ map.get m q
get-remove_other = laws.get-remove_other nat_cmp_total nat_cmp-IsAntisymmetric

-- how often an entry of a number is to stand in a bucket, where the number has this hash or none
abbrev due : (ℕ → ℕ) → ℕ → ℕ → Option ℕ → ℕ
due place b h own = cond (eqb (place h) b) (one_at own h) 0

-- 1 where this is the entry and its bucket, and else 0
abbrev here : (ℕ → ℕ) → Entry → ℕ → ℕ → ℕ → ℕ
here place e b h r = cond (eqb (place e.hash) b) (one (is_entry h r e)) 0

module _ (place : ℕ → ℕ) (e : Entry) (b h r : ℕ) where
  here-other_number : r ≢ e.number → here place e b h r ≡ 0
  here-other_number ne = ap (λ c. cond {A = ℕ} (eqb (place e.hash) b) (one c) 0) (is_entry-other_number h r e (λ is. ne (sym is))) ∙ cond-zero _

  due-own : r ≡ e.number → due place b h (Some e.hash) ≡ here place e b h r
  due-own same =
      elim (cases_eq h e.hash) [
        | inl is ↦
            ap (λ k. cond {A = ℕ} (eqb (place k) b) (one_at (Some e.hash) k) 0) is ∙ ap (λ n. cond {A = ℕ} (eqb (place e.hash) b) n 0) (one_at-itself e.hash)
            ∙ sym (ap (λ c. cond {A = ℕ} (eqb (place e.hash) b) (one c) 0) (is_entry-same h r e (sym is) (sym same)))
        | inr ne ↦
            ap (λ n. cond {A = ℕ} (eqb (place h) b) n 0) (one_at-other e.hash h (λ is. ne (sym is))) ∙ cond-zero _
            ∙ sym (ap (λ c. cond {A = ℕ} (eqb (place e.hash) b) (one c) 0) (is_entry-other_hash h r e (λ is. ne (sym is))) ∙ cond-zero _)
      ]

  due-none : due place b h None ≡ 0
  due-none = cond-zero _

  due-insert : (hashes : FinMap nat_cmp ℕ) → map.get hashes e.number ≡ None → due place b h (map.get (map.insert hashes e.number e.hash) r) ≡ due place b h (map.get hashes r) + here place e b h r
  due-insert hashes fresh =
      elim (cases_eq r e.number) [
        | inl same ↦
            let now = ap (due place b h) (get-insert_here hashes e.number e.hash r same) ∙ due-own same in
            let was = ap (due place b h) (ap (map.get hashes) same ∙ fresh) ∙ due-none in
            omega (arith, now, was)
        | inr ne ↦
            let now = ap (due place b h) (get-insert_other hashes e.number e.hash r ne) in
            let none = here-other_number ne in
            omega (arith, now, none)
      ]

  due-remove : (hashes : FinMap nat_cmp ℕ) → map.get hashes e.number ≡ Some e.hash → due place b h (map.get (map.remove hashes e.number) r) + here place e b h r ≡ due place b h (map.get hashes r)
  due-remove hashes there =
      elim (cases_eq r e.number) [
        | inl same ↦
            let now = ap (due place b h) (get-remove_here hashes e.number r same) ∙ due-none in
            let was = ap (due place b h) (ap (map.get hashes) same ∙ there) ∙ due-own same in
            omega (arith, now, was)
        | inr ne ↦
            let now = ap (due place b h) (get-remove_other hashes e.number r ne) in
            let none = here-other_number ne in
            omega (arith, now, none)
      ]

module _ (bits : ℕ) (old new : List Entries) (hashes : FinMap nat_cmp ℕ) (once : IsListedOnce hashes bits old) where
  abbrev place_in_old : ℕ → ℕ
  place_in_old = bucket_of bits (length old)

  -- the same with the other count of buckets
  counted : length new ≡ length old → (b h : ℕ) (o : Option ℕ) → due place_in_old b h o ≡ due (bucket_of bits (length new)) b h o
  counted count b h o = ap (λ n. due (bucket_of bits n) b h o) (sym count)

  -- one entry more
  pub IsListedOnce-add : (e : Entry) → map.get hashes e.number ≡ None → ChangesOne (Adds e) (place_in_old e.hash) old new → IsListedOnce (map.insert hashes e.number e.hash) bits new
  IsListedOnce-add e fresh change b h r =
      let was = once b h r in
      let due_now = due-insert place_in_old e b h r hashes fresh in
      elim (cases_eq (place_in_old e.hash) b) [
        | inl at ↦
            let now = ap (λ k. times h r (entries_at new k)) (sym at) ∙ ap (times h r) change.changed ∙ sum_by_push (λ x. one (is_entry h r x)) (entries_at old (place_in_old e.hash)) e
            ∙ ap (λ k. times h r (entries_at old k) + one (is_entry h r e)) at in
            let more = in_own (place_in_old e.hash) b (one (is_entry h r e)) at in
            (let t : times h r (entries_at new b) ≡ due place_in_old b h (map.get (map.insert hashes e.number e.hash) r) = omega (arith, was, due_now, now, more) in t)
            ∙ counted change.count b h _
        | inr apart ↦
            let now = ap (times h r) (change.others b (λ is. apart (sym is))) in
            let more = in_other (place_in_old e.hash) b (one (is_entry h r e)) apart in
            (let t : times h r (entries_at new b) ≡ due place_in_old b h (map.get (map.insert hashes e.number e.hash) r) = omega (arith, was, due_now, now, more) in t)
            ∙ counted change.count b h _
      ]

  -- one entry less
  pub IsListedOnce-remove : (hash number : ℕ) → map.get hashes number ≡ Some hash → ChangesOne (TakesOne hash number) (place_in_old hash) old new → IsListedOnce (map.remove hashes number) bits new
  IsListedOnce-remove hash number there change b h r =
      let e = entry_of hash number in
      let was = once b h r in
      let due_now = due-remove place_in_old e b h r hashes there in
      elim (cases_eq (place_in_old hash) b) [
        | inl at ↦
            let less = change.changed h r in
            let now = ap (λ k. times h r (entries_at new k)) (sym at) in
            let before = ap (λ k. times h r (entries_at old k)) (sym at) in
            let more = in_own (place_in_old hash) b (one (is_entry h r e)) at in
            (let t : times h r (entries_at new b) ≡ due place_in_old b h (map.get (map.remove hashes number) r) = omega (arith, was, due_now, less, now, before, more) in t)
            ∙ counted change.count b h _
        | inr apart ↦
            let now = ap (times h r) (change.others b (λ is. apart (sym is))) in
            let more = in_other (place_in_old hash) b (one (is_entry h r e)) apart in
            (let t : times h r (entries_at new b) ≡ due place_in_old b h (map.get (map.remove hashes number) r) = omega (arith, was, due_now, now, more) in t)
            ∙ counted change.count b h _
      ]

-- the entries of one bucket among some
times-filter : (place : ℕ → ℕ) (b h r : ℕ) (es : Entries) → times h r (filter (λ e. place e.hash == b) es) ≡ cond (eqb (place h) b) (times h r es) 0
times-filter place b h r [] = sym (cond-zero _)
times-filter place b h r (e ∷ es) =
    elim (cases_eq e.hash h) [
      | inl is ↦
          elim (cases_eq (place h) b) [
            | inl at ↦
                ap (λ c. times h r (cond c (e ∷ filter (λ x. place x.hash == b) es) (filter (λ x. place x.hash == b) es))) (eq-eqb (place e.hash) b (ap place is ∙ at))
                ∙ times-cons h r e (filter (λ x. place x.hash == b) es) (is_entry h r e) refl
                ∙ ap (λ n. one (is_entry h r e) + n) (times-filter place b h r es ∙ in_own (place h) b _ at)
                ∙ sym (times-cons h r e es (is_entry h r e) refl) ∙ sym (in_own (place h) b _ at)
            | inr apart ↦
                ap (λ c. times h r (cond c (e ∷ filter (λ x. place x.hash == b) es) (filter (λ x. place x.hash == b) es))) (ne_eqb (place e.hash) b (λ at. apart (sym (ap place is) ∙ at)))
                ∙ times-filter place b h r es ∙ in_other (place h) b _ apart ∙ sym (in_other (place h) b _ apart)
          ]
      | inr ne ↦
          let skip : times h r (e ∷ es) ≡ times h r es = times-skip h r e es (is_entry-other_hash h r e ne) in
          elim (cases_eq (place e.hash) b) [
            | inl at ↦
                ap (λ c. times h r (cond c (e ∷ filter (λ x. place x.hash == b) es) (filter (λ x. place x.hash == b) es))) (eq-eqb (place e.hash) b at)
                ∙ times-skip h r e (filter (λ x. place x.hash == b) es) (is_entry-other_hash h r e ne)
                ∙ times-filter place b h r es ∙ ap (λ n. cond {A = ℕ} (eqb (place h) b) n 0) (sym skip)
            | inr apart ↦
                ap (λ c. times h r (cond c (e ∷ filter (λ x. place x.hash == b) es) (filter (λ x. place x.hash == b) es))) (ne_eqb (place e.hash) b apart)
                ∙ times-filter place b h r es ∙ ap (λ n. cond {A = ℕ} (eqb (place h) b) n 0) (sym skip)
          ]
    ]

module _ (bits : ℕ) (old new : List Entries) (hashes : FinMap nat_cmp ℕ) (once : IsListedOnce hashes bits old) (parted : IsParted bits old new) where
  abbrev from : ℕ
  from = length old % 2 ^ bits

  was_from : (h : ℕ) → (bucket_of bits (length old + 1) h ≡ from) ⊎ (bucket_of bits (length old + 1) h ≡ length old) → bucket_of bits (length old) h ≡ from
  was_from h (inr new) = bucket_of-new bits (length old) h new
  was_from h (inl at) =
      elim (bucket_of-more bits (length old) h) [
        | inl same ↦ sym same ∙ at
        | inr new ↦ bucket_of-new bits (length old) h new
      ]

  in_part : (b h r : ℕ) → (b ≡ from) ⊎ (b ≡ length old) → entries_at new b ≡ filter (λ e. bucket_of bits (length old + 1) e.hash == b) (entries_at old from) → times h r (entries_at new b) ≡ due (bucket_of bits (length old + 1)) b h (map.get hashes r)
  in_part b h r one_of is =
      let place = bucket_of bits (length old + 1) in
      ap (times h r) is ∙ times-filter place b h r (entries_at old from)
      ∙ elim (cases_eq (place h) b) [
        | inl at ↦
            let was = was_from h (elim one_of [ inl l ↦ inl (at ∙ l) | inr l ↦ inr (at ∙ l) ]) in
            ap (λ n. cond {A = ℕ} (eqb (place h) b) n 0) (once from h r ∙ in_own (bucket_of bits (length old) h) from _ was)
        | inr apart ↦ in_other (place h) b _ apart ∙ sym (in_other (place h) b _ apart)
      ]

  in_other_bucket : (b h r : ℕ) → b ≢ from → b ≢ length old → times h r (entries_at new b) ≡ due (bucket_of bits (length old + 1)) b h (map.get hashes r)
  in_other_bucket b h r apart other =
      ap (times h r) (parted.others b apart other) ∙ once b h r
      ∙ elim (bucket_of-more bits (length old) h) [
        | inl same ↦ ap (λ p. cond {A = ℕ} (eqb p b) (one_at (map.get hashes r) h) 0) (sym same)
        | inr new ↦
            in_other (bucket_of bits (length old) h) b _ (λ is. apart (sym is ∙ bucket_of-new bits (length old) h new))
            ∙ sym (in_other (bucket_of bits (length old + 1) h) b _ (λ is. other (sym is ∙ new)))
      ]

  pub IsListedOnce-part : IsListedOnce hashes bits new
  IsListedOnce-part b h r =
      elim (cases_eq b from) [
        | inl at ↦ in_part b h r (inl at) (subst (λ k. entries_at new k ≡ filter (λ e. bucket_of bits (length old + 1) e.hash == k) (entries_at old from)) (sym at) parted.stay)
        | inr apart ↦
            elim (cases_eq b (length old)) [
              | inl at ↦ in_part b h r (inr at) (subst (λ k. entries_at new k ≡ filter (λ e. bucket_of bits (length old + 1) e.hash == k) (entries_at old from)) (sym at) parted.moved)
              | inr other ↦ in_other_bucket b h r apart other
            ]
      ]
      ∙ ap (λ n. due (bucket_of bits n) b h (map.get hashes r)) (sym parted.count)

-- one bucket is written over, and another comes behind the last
pub IsParted-by : (bits : ℕ) (old : List Entries) (stay moved : Entries)
    → stay ≡ filter (λ e. bucket_of bits (length old + 1) e.hash == length old % 2 ^ bits) (entries_at old (length old % 2 ^ bits))
    → moved ≡ filter (λ e. bucket_of bits (length old + 1) e.hash == length old) (entries_at old (length old % 2 ^ bits))
    → IsParted bits old (set old (length old % 2 ^ bits) stay ++ moved ∷ [])
IsParted-by bits old stay moved stays moves =
    record {
      count = length_push written moved ∙ ap (λ n. n + 1) len;
      stay = at_from;
      moved = get_or_push written moved [] (length old) len ∙ moves;
      others = elsewhere;
    }
  where
    from : ℕ
    from = length old % 2 ^ bits

    written : List Entries
    written = set old from stay

    len : length written ≡ length old
    len = length-set old from stay

    at_from : entries_at (written ++ moved ∷ []) from ≡ filter (λ e. bucket_of bits (length old + 1) e.hash == from) (entries_at old from)
    at_from =
        elim (cases_lt from (length old)) [
          | inl lt ↦ get_or-append written (moved ∷ []) [] from (omega (arith, lt, len)) ∙ get_or-set_same old from stay [] lt ∙ stays
          | inr ge ↦
              let last : length old ≡ from = (let le = mod-le (length old) (2 ^ bits) in omega (arith, ge, le)) in
              get_or_push written moved [] from (len ∙ last) ∙ moves ∙ ap (λ n. filter (λ e. bucket_of bits (length old + 1) e.hash == n) (entries_at old from)) last
        ]

    elsewhere : (b : ℕ) → b ≢ from → b ≢ length old → entries_at (written ++ moved ∷ []) b ≡ entries_at old b
    elsewhere b apart other =
        elim (cases_lt b (length old)) [
          | inl lt ↦ get_or-append written (moved ∷ []) [] b (omega (arith, lt, len)) ∙ get_or-set_other old from b stay [] apart
          | inr ge ↦
              get_or_past (written ++ moved ∷ []) b [] (let l = length_push written moved in omega (arith, ge, other, len, l)) ∙ sym (get_or_past old b [] ge)
        ]

-- the same, with the parts as they are computed
pub IsParted-of : (bits count place : ℕ) (old new : List Entries) (entries stay moved : Entries)
    → count ≡ length old → place ≡ length old % 2 ^ bits → entries ≡ entries_at old place
    → stay ≡ filter (λ e. bucket_of bits (count + 1) e.hash == place) entries
    → moved ≡ filter (λ e. bucket_of bits (count + 1) e.hash == count) entries
    → new ≡ set old place stay ++ moved ∷ []
    → IsParted bits old new
IsParted-of bits count place old new entries stay moved counts places lends stays moves written =
    let at = lends ∙ ap (entries_at old) places in
    subst (IsParted bits old) (sym (written ∙ ap (λ p. set old p stay ++ moved ∷ []) places))
    (IsParted-by bits old stay moved
    (stays ∙ ap (λ n. filter (λ e. bucket_of bits (n + 1) e.hash == place) entries) counts ∙ ap (λ p. filter (λ e. bucket_of bits (length old + 1) e.hash == p) entries) places ∙ ap (filter (λ e. bucket_of bits (length old + 1) e.hash == length old % 2 ^ bits)) at)
    (moves ∙ ap (λ n. filter (λ e. bucket_of bits (n + 1) e.hash == n) entries) counts ∙ ap (filter (λ e. bucket_of bits (length old + 1) e.hash == length old)) at))

-- where the bits choose the same buckets
pub IsListedOnce-bits : (bits wide : ℕ) (buckets : List Entries) (hashes : FinMap nat_cmp ℕ) → ((h : ℕ) → bucket_of wide (length buckets) h ≡ bucket_of bits (length buckets) h) → IsListedOnce hashes bits buckets → IsListedOnce hashes wide buckets
IsListedOnce-bits bits wide buckets hashes same once b h r = once b h r ∙ ap (λ p. cond {A = ℕ} (eqb p b) (one_at (map.get hashes r) h) 0) (sym (same h))

-- an entry is taken out of its place
pub TakesOne-swap_remove : (es : Entries) (i hash number : ℕ) (d : Entry) → i < length es → slice_get es i ≡ Some (entry_of hash number) → TakesOne hash number es (swap_remove es i d)
TakesOne-swap_remove es i hash number d lt at h r =
    let is = get_or_from_slice_get es i (entry_of hash number) d at in
    ap (λ e. times h r (swap_remove es i d) + one (is_entry h r e)) (sym is) ∙ sum_by-swap_remove (λ e. one (is_entry h r e)) es i d lt

-- what an index has after an addition, for its callers
pub get-added : (old new : FinMap nat_cmp ℕ) (number hash : ℕ) → new ≡ map.insert old number hash → map.get new number ≡ Some hash
get-added old new number hash is = ap (λ m. map.get m number) is ∙ get-insert_here old number hash number refl

pub get-added_other : (old new : FinMap nat_cmp ℕ) (number hash other : ℕ) → new ≡ map.insert old number hash → other ≢ number → map.get new other ≡ map.get old other
get-added_other old new number hash other is ne = ap (λ m. map.get m other) is ∙ get-insert_other old number hash other ne
