-- The laws of the set that a list of tuples stands for.
use Rattle.std.specs.Prelude.{◌≡◌, ℕ, suc, ◌+◌, ◌/◌, ◌%◌, ◌^◌, ◌<◌, ◌≤◌, ◌&&◌, Bool, true, false, cond, nat_eq, List, [], ◌∷◌, length, map, slice_index_or, refl, Option, None, Some, All}
use Rattle.std.proofs.Common.{sym, ◌∙◌, ap, subst, arith}
use Rattle.std.proofs.lemmas.Bool.{false_from_ne_true}
use Rattle.std.proofs.lemmas.Bool.Decides.{nat_tests}
use Rattle.std.proofs.lemmas.Cmp.{nat_cmp_total, lists_total}
use Rattle.std.proofs.lemmas.Grind.{not_there}
use Rattle.std.proofs.lemmas.List.Elements.{All-from_recursion, All-cons, All-head, All-tail}
use Rattle.std.specs.Cmp.{unsigned_tied}
use Rattle.std.specs.Cmp.Lexicographic.{slice_cmp}
use Rattle.std.specs.FinMap.{nat_cmp-IsAntisymmetric}
use Rattle.std.specs.FinSet.{slice_cmp-IsAntisymmetric}
use Rattle.std.specs.FinSet as set
use Rattle.std.specs.List.{list_any, filter}
use Rattle.std.specs.Ordering.{nat_cmp, eq_by_cmp}
use native.Mathlib.Decide.{dec_lt}
use Rattle.hypertrie_model.specs.Sets.{has, empty, HasDepth}
use Rattle.hypertrie_model.specs.SetLaws.{same_sets, same_test, and_both, or_cases, tied-itself, tied-is}
use Rattle.hypertrie_model.specs.Slices.{is_at_mask, without_mask, slice_at_mask}
use Rattle.hypertrie_model.specs.SliceLaws.{any_passes, passes_any, any-map_filter, has-slice_at_mask, slice_at_mask-has}
use Rattle.trie_depth.specs.declared.id.Trip.{Trip}
use Rattle.trie_depth.specs.Masks.{FitsDepth, n_positions}
use Rattle.trie_depth.specs.Operands.{Admits, IsIdTuple}
use Rattle.trie_depth.specs.OperandLaws.{at_mask-within, at_mask-same}
use Rattle.trie_depth.specs.Tuples.{trip_tuple}
use Rattle.key_join.specs.declared.fixed.Fixed.{Fixed}
use Rattle.key_join.specs.Lists.{places_of, place_of, n_free, put_one, put, agrees, left, set_of, triples, IsIdTriple}

abbrev pub same_tuple : List ℕ → List ℕ → Bool
same_tuple u t = eq_by_cmp (slice_cmp nat_cmp) u t

-- every tuple of the list has this many places
abbrev pub AllLong : ℕ → List (List ℕ) → Type 0
AllLong n ts = (t : List ℕ) → list_any (same_tuple t) ts ≡ true → length t ≡ n

-- u is what a tuple of the list leaves that has what is fixed
pub record IsLeftOf (ts : List (List ℕ)) (ps : List (Option ℕ)) (u : List ℕ) : Type 0 where
  pub tuple : List ℕ
  pub listed : list_any (same_tuple tuple) ts ≡ true
  pub agreed : agrees ps tuple ≡ true
  pub is : left ps tuple ≡ u

module _ (ts : List (List ℕ)) (ps : List (Option ℕ)) where
  pub has-set_of : (u : List ℕ) → has (set_of ts ps) u ≡ true → IsLeftOf ts ps u
  unfolding set_of
  has-set_of u e =
      let listed = sym (set.contains-from_list (lists_total nat_cmp_total) (map (left ps) (filter (agrees ps) ts)) u ∙ any-map_filter (left ps) (agrees ps) (same_tuple u) ts) ∙ e in
      let p = any_passes (lists_total nat_cmp_total) (λ t. agrees ps t && same_tuple u (left ps t)) ts listed in
      let two = and_both (agrees ps p.member) (same_tuple u (left ps p.member)) p.passes in
      record { tuple = p.member; listed = p.there; agreed = two.0; is = sym (tied-is (slice_cmp-IsAntisymmetric nat_cmp-IsAntisymmetric) u (left ps p.member) two.1) }

  pub set_of-has : (t : List ℕ) → list_any (same_tuple t) ts ≡ true → agrees ps t ≡ true → has (set_of ts ps) (left ps t) ≡ true
  unfolding set_of
  set_of-has t listed agreed =
      set.contains-from_list (lists_total nat_cmp_total) (map (left ps) (filter (agrees ps) ts)) (left ps t)
      ∙ any-map_filter (left ps) (agrees ps) (same_tuple (left ps t)) ts
      ∙ passes_any (slice_cmp-IsAntisymmetric nat_cmp-IsAntisymmetric) (λ s. agrees ps s && same_tuple (left ps t) (left ps s)) ts t listed
      (λ j. agreed j && tied-itself (lists_total nat_cmp_total) (left ps t) j)

and_assoc : (a b c : Bool) → (a && (b && c)) ≡ ((a && b) && c)
and_assoc true b c = refl
and_assoc false b c = refl

swap_tests : (a b c : Bool) → (a && (b && c)) ≡ (b && (a && c))
swap_tests true b c = refl
swap_tests false true c = refl
swap_tests false false c = refl

-- a key put in at the free places of a mask is asked of what is left there
pub agrees-put : (m k : ℕ) (ps : List (Option ℕ)) (t : List ℕ) → length t ≡ length ps → agrees (put m k ps) t ≡ (agrees ps t && is_at_mask nat_cmp m k (left ps t))
agrees-put m k [] [] long = refl
agrees-put m k [] (x ∷ t) long = absurd (omega (arith, long))
agrees-put m k (p ∷ ps) [] long = absurd (omega (arith, long))
agrees-put m k (Some i ∷ ps) (x ∷ t) long = ap (λ b. nat_eq i x && b) (agrees-put m k ps t (omega (arith, long))) ∙ and_assoc (nat_eq i x) (agrees ps t) (is_at_mask nat_cmp m k (left ps t))
agrees-put m k (None ∷ ps) (x ∷ t) long =
    elim (nat_eq (m % 2) 1) as (λ b. agrees (cond b (Some k) None ∷ put (m / 2) k ps) (x ∷ t) ≡ (cond b (eq_by_cmp nat_cmp k x) true && agrees (put (m / 2) k ps) t)) [
      | true ↦ ap (λ b. b && agrees (put (m / 2) k ps) t) (sym (unsigned_tied k x))
      | false ↦ refl
    ]
    ∙ ap (λ b. cond (nat_eq (m % 2) 1) (eq_by_cmp nat_cmp k x) true && b) (agrees-put (m / 2) k ps t (omega (arith, long)))
    ∙ swap_tests (cond (nat_eq (m % 2) 1) (eq_by_cmp nat_cmp k x) true) (agrees ps t) (is_at_mask nat_cmp (m / 2) k (left ps t))

pub left-put : (m k : ℕ) (ps : List (Option ℕ)) (t : List ℕ) → length t ≡ length ps → left (put m k ps) t ≡ without_mask m (left ps t)
left-put m k [] [] long = refl
left-put m k [] (x ∷ t) long = absurd (omega (arith, long))
left-put m k (p ∷ ps) [] long = absurd (omega (arith, long))
left-put m k (Some i ∷ ps) (x ∷ t) long = left-put m k ps t (omega (arith, long))
left-put m k (None ∷ ps) (x ∷ t) long =
    elim (nat_eq (m % 2) 1) as (λ b. left (cond b (Some k) None ∷ put (m / 2) k ps) (x ∷ t) ≡ cond b (left (put (m / 2) k ps) t) (x ∷ left (put (m / 2) k ps) t)) [ true ↦ refl | false ↦ refl ]
    ∙ ap (λ u. cond (nat_eq (m % 2) 1) u (x ∷ u)) (left-put (m / 2) k ps t (omega (arith, long)))

-- fixing a key at the free places of a mask is slicing
pub set_of-put : (ts : List (List ℕ)) (ps : List (Option ℕ)) (m k : ℕ) → AllLong (length ps) ts → set_of ts (put m k ps) ≡ slice_at_mask nat_cmp (set_of ts ps) m k
set_of-put ts ps m k long = same_sets nat_cmp_total nat_cmp-IsAntisymmetric _ _ (λ u. same_test _ _
    (λ e.
    let l = has-set_of ts (put m k ps) u e in
    let n = long l.tuple l.listed in
    let two = and_both (agrees ps l.tuple) (is_at_mask nat_cmp m k (left ps l.tuple)) (sym (agrees-put m k ps l.tuple n) ∙ l.agreed) in
    subst (λ v. has (slice_at_mask nat_cmp (set_of ts ps) m k) v ≡ true) (sym (left-put m k ps l.tuple n) ∙ l.is)
    (slice_at_mask-has nat_cmp_total nat_cmp-IsAntisymmetric (set_of ts ps) m k (left ps l.tuple) (set_of-has ts ps l.tuple l.listed two.0) two.1))
    (λ e.
    let s = has-slice_at_mask nat_cmp_total nat_cmp-IsAntisymmetric (set_of ts ps) m k u e in
    let l = has-set_of ts ps s.tuple s.there in
    let n = long l.tuple l.listed in
    let agreed : agrees (put m k ps) l.tuple ≡ true = agrees-put m k ps l.tuple n ∙ (λ j. l.agreed j && (ap (is_at_mask nat_cmp m k) l.is ∙ s.fixed) j) in
    subst (λ v. has (set_of ts (put m k ps)) v ≡ true) (left-put m k ps l.tuple n ∙ ap (without_mask m) l.is ∙ s.left)
    (set_of-has ts (put m k ps) l.tuple l.listed agreed)))

length-left : (ps : List (Option ℕ)) (t : List ℕ) → length t ≡ length ps → length (left ps t) ≡ n_free ps
length-left [] [] long = refl
length-left [] (x ∷ t) long = absurd (omega (arith, long))
length-left (p ∷ ps) [] long = absurd (omega (arith, long))
length-left (None ∷ ps) (x ∷ t) long = ap suc (length-left ps t (omega (arith, long)))
length-left (Some i ∷ ps) (x ∷ t) long = length-left ps t (omega (arith, long))

left-all : (P : ℕ → Type 0) (ps : List (Option ℕ)) (t : List ℕ) → All P t → All P (left ps t)
left-all P [] t all = all
left-all P (p ∷ ps) [] all = all
left-all P (None ∷ ps) (x ∷ t) all = All-cons P x (left ps t) (All-head P x t all) (left-all P ps t (All-tail P x t all))
left-all P (Some i ∷ ps) (x ∷ t) all = left-all P ps t (All-tail P x t all)

-- what holds of each id of a triple holds of its key at a mask
pub key-within : (P : ℕ → Type 0) (f : Fixed) (m k : ℕ) (e : Trip) → FitsDepth m (n_free (places_of f)) → P e.0.0 → P e.1.0 → P e.2.0 → agrees (put m k (places_of f)) (trip_tuple e) ≡ true → P k
key-within P f m k e fits a b c agreed =
    let ps = places_of f in
    let t = trip_tuple e in
    let two = and_both (agrees ps t) (is_at_mask nat_cmp m k (left ps t)) (sym (agrees-put m k ps t refl) ∙ agreed) in
    at_mask-within P (n_free ps) m k (left ps t) (length-left ps t refl) fits (left-all P ps t (All-from_recursion P t (a, (b, (c, tt))))) two.1

-- a triple has one key at a mask
pub key-same : (f : Fixed) (m k q : ℕ) (e : Trip) → FitsDepth m (n_free (places_of f)) → agrees (put m k (places_of f)) (trip_tuple e) ≡ true → agrees (put m q (places_of f)) (trip_tuple e) ≡ true → k ≡ q
key-same f m k q e fits of_k of_q =
    let ps = places_of f in
    let t = trip_tuple e in
    let at_k = and_both (agrees ps t) (is_at_mask nat_cmp m k (left ps t)) (sym (agrees-put m k ps t refl) ∙ of_k) in
    let at_q = and_both (agrees ps t) (is_at_mask nat_cmp m q (left ps t)) (sym (agrees-put m q ps t refl) ∙ of_q) in
    at_mask-same (n_free ps) m k q (left ps t) (length-left ps t refl) fits at_k.1 at_q.1

-- a key is admitted exactly where some tuple of the list has it
pub admitted : (ts : List (List ℕ)) (ps : List (Option ℕ)) (m k : ℕ) → AllLong (length ps) ts → list_any (agrees (put m k ps)) ts ≡ true → Admits (set_of ts ps) m k
admitted ts ps m k long e none =
    let p = any_passes (lists_total nat_cmp_total) (agrees (put m k ps)) ts e in
    let t : false ≡ true =
    sym (set.contains-empty (slice_cmp nat_cmp) (left (put m k ps) p.member))
    ∙ ap (λ H. has H (left (put m k ps) p.member)) (sym (set_of-put ts ps m k long ∙ none))
    ∙ set_of-has ts (put m k ps) p.member p.there p.passes in
    cc

pub unlisted : (ts : List (List ℕ)) (ps : List (Option ℕ)) (m k : ℕ) → AllLong (length ps) ts → list_any (agrees (put m k ps)) ts ≡ false → slice_at_mask nat_cmp (set_of ts ps) m k ≡ empty nat_cmp
unlisted ts ps m k long e = sym (set_of-put ts ps m k long) ∙ same_sets nat_cmp_total nat_cmp-IsAntisymmetric _ _ (λ u.
    false_from_ne_true _ (λ there.
    let l = has-set_of ts (put m k ps) u there in
    let t : false ≡ true = sym e ∙ passes_any (slice_cmp-IsAntisymmetric nat_cmp-IsAntisymmetric) (agrees (put m k ps)) ts l.tuple l.listed l.agreed in
    cc)
    ∙ sym (set.contains-empty (slice_cmp nat_cmp) u))

pub listed : (ts : List (List ℕ)) (ps : List (Option ℕ)) (m k : ℕ) → AllLong (length ps) ts → Admits (set_of ts ps) m k → list_any (agrees (put m k ps)) ts ≡ true
listed ts ps m k long some = elim (list_any (agrees (put m k ps)) ts) as (λ b. list_any (agrees (put m k ps)) ts ≡ b → b ≡ true) [ true ↦ λ _. refl | false ↦ λ out. absurd (some (unlisted ts ps m k long out)) ] refl

pub slice-empty : (ts : List (List ℕ)) (ps : List (Option ℕ)) (m k : ℕ) → AllLong (length ps) ts → (Admits (set_of ts ps) m k → ⊥) → slice_at_mask nat_cmp (set_of ts ps) m k ≡ empty nat_cmp
slice-empty ts ps m k long none = unlisted ts ps m k long (false_from_ne_true _ (λ e. none (admitted ts ps m k long e)))

-- what holds of the tuple of each triple holds of each tuple of the list
each_triple : (P : List ℕ → Type 0) (Q : Trip → Type 0) → ((e : Trip) → Q e → P (trip_tuple e)) → (es : List Trip) → All Q es → (t : List ℕ) → list_any (same_tuple t) (triples es) ≡ true → P t
each_triple P Q of_one [] all t e = absurd (let f : ⊥ = cc in f)
each_triple P Q of_one (x ∷ es) all t e = or_cases (same_tuple t (trip_tuple x)) (list_any (same_tuple t) (triples es)) e _
    (λ here. subst P (sym (tied-is (slice_cmp-IsAntisymmetric nat_cmp-IsAntisymmetric) t (trip_tuple x) here)) (of_one x (All-head Q x es all)))
    (λ rest. each_triple P Q of_one es (All-tail Q x es all) t rest)

pub triples-long : (es : List Trip) → AllLong 3 (triples es)
triples-long es = each_triple (λ t. length t ≡ 3) (λ _. Unit {0}) (λ e _. refl) es (λ k d lt. tt)

pub set_of-deep : (es : List Trip) (f : Fixed) → HasDepth (n_free (places_of f)) (set_of (triples es) (places_of f))
set_of-deep es f u e =
    let l = has-set_of (triples es) (places_of f) u e in
    ap length (sym l.is) ∙ length-left (places_of f) l.tuple (triples-long es l.tuple l.listed)

of_three : (e : Trip) → IsIdTriple e → IsIdTuple (trip_tuple e)
of_three e ids = All-from_recursion (λ k. k < 2 ^ 32) (trip_tuple e) (ids.0, (ids.1, (ids.2, tt)))

small_of : (es : List Trip) (f : Fixed) → All IsIdTriple es → (u : List ℕ) → has (set_of (triples es) (places_of f)) u ≡ true → IsIdTuple u
small_of es f ids u e =
    let l = has-set_of (triples es) (places_of f) u e in
    subst IsIdTuple l.is (left-all (λ k. k < 2 ^ 32) (places_of f) l.tuple (each_triple IsIdTuple IsIdTriple of_three es ids l.tuple l.listed))

pub set_of-small : (es : List Trip) (f : Fixed) → ∥ All IsIdTriple es ∥₁ → (u : List ℕ) → has (set_of (triples es) (places_of f)) u ≡ true → IsIdTuple u
set_of-small es f known u e i d lt = elim (dec_lt (slice_index_or u i d) (2 ^ 32)) as (λ _. slice_index_or u i d < 2 ^ 32) [ yes p ↦ p | no q ↦ absurd (not_there known (λ ids. q (small_of es f ids u e i d lt))) ]

-- at most three places are free
free_one : (p : Option ℕ) (ps : List (Option ℕ)) → n_free (p ∷ ps) ≤ suc (n_free ps)
free_one None ps = omega arith
free_one (Some i) ps = omega arith

pub n_free-high : (f : Fixed) → n_free (places_of f) ≤ 3
n_free-high f =
    let a = free_one (place_of f.0) (place_of f.1 ∷ place_of f.2 ∷ []) in
    let b = free_one (place_of f.1) (place_of f.2 ∷ []) in
    let c = free_one (place_of f.2) [] in
    omega arith

-- nothing is fixed in a list as it stands
pub set_of-free : (es : List Trip) → set_of (triples es) (None ∷ None ∷ None ∷ []) ≡ set.from_list (triples es)
unfolding set_of
set_of-free es = ap set.from_list (whole es) where
  whole : (es : List Trip) → map (left (None ∷ None ∷ None ∷ [])) (filter (agrees (None ∷ None ∷ None ∷ [])) (triples es)) ≡ triples es
  whole [] = refl
  whole (e ∷ es) = ap (λ ts. trip_tuple e ∷ ts) (whole es)

-- each free place that a mask names is fixed by it
n_free-put_one : (m k : ℕ) (ps : List (Option ℕ)) → n_free (put_one m k None ∷ ps) + m % 2 ≡ suc (n_free ps)
n_free-put_one m k ps = elim (nat_eq (m % 2) 1) as (λ b. nat_eq (m % 2) 1 ≡ b → n_free (cond b (Some k) None ∷ ps) + m % 2 ≡ suc (n_free ps)) [
  | true ↦ λ e. let one : m % 2 ≡ 1 = grind (arith, nat_tests) in omega (arith, one)
  | false ↦ λ e. let none : m % 2 ≡ 0 = grind (arith, nat_tests) in omega (arith, none)
] refl

put_three : (p q r : Option ℕ) (m k : ℕ) → m < 2 ^ n_free (p ∷ q ∷ r ∷ []) → n_free (put m k (p ∷ q ∷ r ∷ [])) + n_positions m ≡ n_free (p ∷ q ∷ r ∷ [])
put_three (Some a) (Some b) (Some c) m k lt = omega (arith, lt)
put_three (Some a) (Some b) None m k lt = let x = n_free-put_one m k [] in omega (arith, lt, x)
put_three (Some a) None (Some c) m k lt = let x = n_free-put_one m k (Some c ∷ []) in omega (arith, lt, x)
put_three None (Some b) (Some c) m k lt = let x = n_free-put_one m k (Some b ∷ Some c ∷ []) in omega (arith, lt, x)
put_three (Some a) None None m k lt = let x = n_free-put_one m k (put (m / 2) k (None ∷ [])) in let y = n_free-put_one (m / 2) k [] in omega (arith, lt, x, y)
put_three None (Some b) None m k lt = let x = n_free-put_one m k (put (m / 2) k (Some b ∷ None ∷ [])) in let y = n_free-put_one (m / 2) k [] in omega (arith, lt, x, y)
put_three None None (Some c) m k lt = let x = n_free-put_one m k (put (m / 2) k (None ∷ Some c ∷ [])) in let y = n_free-put_one (m / 2) k (Some c ∷ []) in omega (arith, lt, x, y)
put_three None None None m k lt =
    let x = n_free-put_one m k (put (m / 2) k (None ∷ None ∷ [])) in
    let y = n_free-put_one (m / 2) k (put (m / 2 / 2) k (None ∷ [])) in
    let z = n_free-put_one (m / 2 / 2) k [] in
    omega (arith, lt, x, y, z)

pub n_free-put : (f : Fixed) (m k : ℕ) → m < 2 ^ n_free (places_of f) → n_free (put m k (places_of f)) + n_positions m ≡ n_free (places_of f)
n_free-put f m k lt = put_three (place_of f.0) (place_of f.1) (place_of f.2) m k lt
