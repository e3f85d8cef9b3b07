-- Folds, sums and exclusive ors when an entry is put in, taken out or changed.
use Rattle.std.specs.Prelude.{◌≡◌, ℕ, ◌+◌, ◌<◌, ◌≤◌, ◌^◌, ◌≢◌, Bool, true, false, cond, List, [], ◌∷◌, length, refl, Option, None, Some, is_some, bit_xor, not, ◌&&◌, ◌||◌}
use Rattle.std.specs.Prelude.{map as each}
use Rattle.std.specs.List.{list_any}
use Rattle.std.proofs.Common.{sym, ◌∙◌, ap, subst, arith}
use Rattle.std.proofs.lemmas.Nat.{xor_comm, xor_lt}
use Rattle.std.specs.Int.Bits.{xor_assoc, xor_self, xor_zero_l}
use Rattle.std.specs.Ordering.{is_eq, eq_by_cmp}
use Rattle.std.specs.declared.cmp.Ordering.{Ordering}
use Rattle.std.specs.declared.cmp.Ordering.TheVariants.{Less, Equal, Greater}
use Rattle.std.specs.Cmp.{IsTotalOrder}
use Rattle.std.specs.FinMap as map
use Rattle.std.specs.FinMap.{FinMap, IsAntisymmetric, find, put}
use Rattle.std.specs.FinSet as set
use Rattle.std.specs.FinSet.{FinSet}
use Rattle.std.specs.FinMap.Entries.{by_order}
use native.Mathlib.Decide.{dec_lt}
use Rattle.hypertrie_model.specs.Folds.{combined, fold_over, sum_over, marked, xor_over}
use Rattle.hypertrie_model.specs.MapLaws.{by_key, get-insert_here, get-insert_other, get-remove_here, get-remove_other, same_maps, insert-remove, insert-remove_any, map_ind}

-- operations in which neighbours may change places
abbrev pub Swaps : {Y : Type 0} → (Y → Y → Y) → Type 0
Swaps {Y} op = (a b c : Y) → op a (op b c) ≡ op b (op a c)

pub add_swaps : Swaps {Y = ℕ} (λ a b. a + b)
add_swaps a b c = omega arith

pub xor_swaps : Swaps bit_xor
xor_swaps a b c = sym (xor_assoc a b c) ∙ ap (λ n. bit_xor n c) (xor_comm a b) ∙ xor_assoc b a c

no_entries : {A : Type 0} (es : List A) → length es ≡ 0 → es ≡ []
no_entries [] e = refl
no_entries (x ∷ es) e = absurd (omega arith)

module _ {K : Type 0} {R : K → K → Ordering} (o : IsTotalOrder R) (exact : IsAntisymmetric R) where
  module _ {X Y : Type 0} (op : Y → Y → Y) (none : Y) (swaps : Swaps op) where
    combined-put : (f : K → X → Y) (k : K) (v : X) (es : List (K × X)) → find R k es ≡ None → combined op none f (put R k v es) ≡ op (f k v) (combined op none f es)
    combined-put f k v [] new = refl
    combined-put f k v (e ∷ es) new =
        elim (R k e.0) as (λ r. cond (is_eq r) (Some e.1) (find R k es) ≡ None → combined op none f (by_order r ((k, v) ∷ e ∷ es) ((e.0, v) ∷ es) (e ∷ put R k v es)) ≡ op (f k v) (combined op none f (e ∷ es))) [
          | Less ↦ λ new. refl
          | Equal ↦ λ new. cc
          | Greater ↦ λ new. ap (op (f e.0 e.1)) (combined-put f k v es new) ∙ swaps (f e.0 e.1) (f k v) (combined op none f es)
        ] new

    pub fold_over-insert : (m : FinMap R X) (f : K → X → Y) (k : K) (v : X) → map.get m k ≡ None → fold_over op none (map.insert m k v) f ≡ op (f k v) (fold_over op none m f)
    unfolding fold_over
    fold_over-insert m f k v new = ap (combined op none f) (map.entries-insert o m k v) ∙ combined-put f k v (map.entries m) (sym (map.get-entries m k) ∙ new)

    pub fold_over-remove : (m : FinMap R X) (f : K → X → Y) (k : K) (v : X) → map.get m k ≡ Some v → fold_over op none m f ≡ op (f k v) (fold_over op none (map.remove m k) f)
    fold_over-remove m f k v e = ap (λ n. fold_over op none n f) (sym (insert-remove o exact m k v e)) ∙ fold_over-insert (map.remove m k) f k v (get-remove_here o exact m k)

  pub fold_over-empty : {X Y : Type 0} (op : Y → Y → Y) (none : Y) (f : K → X → Y) → fold_over op none (map.empty {R = R}) f ≡ none
  unfolding fold_over
  fold_over-empty {X = X} op none f = ap (combined op none f) (no_entries (map.entries map.empty) (sym (map.len-entries map.empty) ∙ map.len-empty R X))

  module _ {X : Type 0} where
    pub sum_over-empty : (f : K → X → ℕ) → sum_over (map.empty {R = R}) f ≡ 0
    unfolding sum_over
    sum_over-empty f = fold_over-empty (λ a b. a + b) 0 f

    pub sum_over-insert : (m : FinMap R X) (f : K → X → ℕ) (k : K) (v : X) → map.get m k ≡ None → sum_over (map.insert m k v) f ≡ f k v + sum_over m f
    unfolding sum_over
    sum_over-insert m f k v new = fold_over-insert (λ a b. a + b) 0 add_swaps m f k v new

    pub sum_over-remove : (m : FinMap R X) (f : K → X → ℕ) (k : K) (v : X) → map.get m k ≡ Some v → sum_over m f ≡ f k v + sum_over (map.remove m k) f
    unfolding sum_over
    sum_over-remove m f k v e = fold_over-remove (λ a b. a + b) 0 add_swaps m f k v e

    pub sum_over-set : (m : FinMap R X) (f : K → X → ℕ) (k : K) (v w : X) → map.get m k ≡ Some v → sum_over (map.insert m k w) f + f k v ≡ sum_over m f + f k w
    sum_over-set m f k v w e =
        let new : sum_over (map.insert m k w) f ≡ f k w + sum_over (map.remove m k) f = ap (λ n. sum_over n f) (sym (insert-remove_any o exact m k w)) ∙ sum_over-insert (map.remove m k) f k w (get-remove_here o exact m k) in
        let old = sum_over-remove m f k v e in
        omega arith

    -- an entry's part is no more than the sum
    pub sum_over-part : (m : FinMap R X) (f : K → X → ℕ) (k : K) (v : X) → map.get m k ≡ Some v → f k v ≤ sum_over m f
    sum_over-part m f k v e = omega (arith, sum_over-remove m f k v e)

    -- an entry whose part isn't 0
    abbrev pub HasPart : FinMap R X → (K → X → ℕ) → Type 0
    HasPart m f = (k : K) × (v : X) × (map.get m k ≡ Some v) × (0 < f k v)

    pub apart_from : (m : FinMap R X) (k q : K) (w : X) → map.get m k ≡ None → map.get m q ≡ Some w → q ≢ k
    apart_from m k q w none e is = let t : None ≡ Some w = sym none ∙ ap (map.get m) (sym is) ∙ e in cc

    pub sum_over-has : (f : K → X → ℕ) (m : FinMap R X) → 0 < sum_over m f → HasPart m f
    sum_over-has f = map_ind o exact (λ m. 0 < sum_over m f → HasPart m f) (λ h. absurd (omega (arith, sum_over-empty f, h)))
        (λ m k v none ind h.
        elim (dec_lt 0 (f k v)) as (λ _. HasPart (map.insert m k v) f) [
          | yes p ↦ (k, v, get-insert_here o exact m k v, p)
          | no p ↦
              let rest = ind (omega (arith, sum_over-insert m f k v none, h, p)) in
              (rest.0, rest.1, get-insert_other o exact m k v rest.0 (apart_from m k rest.0 rest.1 none rest.2) ∙ rest.2, rest.3)
        ])

    pub sum_over-same : (f g : K → X → ℕ) (m : FinMap R X) → ((k : K) (v : X) → map.get m k ≡ Some v → f k v ≡ g k v) → sum_over m f ≡ sum_over m g
    sum_over-same f g = map_ind o exact (λ m. ((k : K) (v : X) → map.get m k ≡ Some v → f k v ≡ g k v) → sum_over m f ≡ sum_over m g) (λ _. sum_over-empty f ∙ sym (sum_over-empty g))
        (λ m k v none ind same.
        let here = same k v (get-insert_here o exact m k v) in
        let rest = ind (λ q w e. same q w (get-insert_other o exact m k v q (apart_from m k q w none e) ∙ e)) in
        omega (arith, sum_over-insert m f k v none, sum_over-insert m g k v none, here, rest))

  abbrev mark : Bool → Option (Unit {0})
  mark b = cond b (Some tt) None

  find-marked : (ks : List K) (q : K) → find R q (each (λ k. (k, tt)) ks) ≡ mark (list_any (eq_by_cmp R q) ks)
  find-marked [] q = refl
  find-marked (k ∷ ks) q =
      elim (eq_by_cmp R q k) as (λ b. cond b (Some tt) (find R q (each (λ k. (k, tt)) ks)) ≡ mark (b || list_any (eq_by_cmp R q) ks)) [
        | true ↦ refl
        | false ↦ find-marked ks q
      ]

  pub get-marked : (s : FinSet R) (q : K) → map.get (marked s) q ≡ mark (set.contains s q)
  get-marked s q = map.get-from_entries o (each (λ k. (k, tt)) (set.items s)) q ∙ find-marked (set.items s) q ∙ ap mark (sym (set.contains-items s q))

  pub marked-insert : (s : FinSet R) (k : K) → marked (set.insert s k) ≡ map.insert (marked s) k tt
  marked-insert s k = same_maps o exact _ _ (λ q.
      get-marked (set.insert s k) q ∙ ap mark (set.contains-insert o s k q)
      ∙ elim (eq_by_cmp R q k) as (λ b. mark (b || set.contains s q) ≡ cond b (Some tt) (mark (set.contains s q))) [ true ↦ refl | false ↦ refl ]
      ∙ ap (cond (eq_by_cmp R q k) (Some tt)) (sym (get-marked s q))
      ∙ sym (map.get-insert o (marked s) k tt q))

  pub marked-remove : (s : FinSet R) (k : K) → marked (set.remove s k) ≡ map.remove (marked s) k
  marked-remove s k = same_maps o exact _ _ (λ q.
      get-marked (set.remove s k) q ∙ ap mark (set.contains-remove o s k q)
      ∙ elim (eq_by_cmp R q k) as (λ b. mark (not b && set.contains s q) ≡ cond b None (mark (set.contains s q))) [ true ↦ refl | false ↦ refl ]
      ∙ ap (cond (eq_by_cmp R q k) None) (sym (get-marked s q))
      ∙ sym (map.get-remove o (marked s) k q))

  pub marked-empty : marked (set.empty {R = R}) ≡ map.empty
  marked-empty = same_maps o exact _ _ (λ q. get-marked set.empty q ∙ ap mark (set.contains-empty R q) ∙ sym (map.get-empty R q))

  pub xor_over-empty : (f : K → ℕ) → xor_over (set.empty {R = R}) f ≡ 0
  unfolding xor_over
  xor_over-empty f = ap (λ m. fold_over bit_xor 0 m (λ k _. f k)) marked-empty ∙ fold_over-empty bit_xor 0 (λ k _. f k)

  -- a new member toggles its part
  pub xor_over-insert : (s : FinSet R) (f : K → ℕ) (k : K) → set.contains s k ≡ false → xor_over (set.insert s k) f ≡ bit_xor (f k) (xor_over s f)
  unfolding xor_over
  xor_over-insert s f k new =
      ap (λ m. fold_over bit_xor 0 m (λ q _. f q)) (marked-insert s k)
      ∙ fold_over-insert bit_xor 0 xor_swaps (marked s) (λ q _. f q) k tt (get-marked s k ∙ ap mark new)

  -- and so does one that is taken out
  pub xor_over-remove : (s : FinSet R) (f : K → ℕ) (k : K) → set.contains s k ≡ true → xor_over (set.remove s k) f ≡ bit_xor (f k) (xor_over s f)
  unfolding xor_over
  xor_over-remove s f k there =
      let rest = fold_over bit_xor 0 (map.remove (marked s) k) (λ q _. f q) in
      let whole = fold_over-remove bit_xor 0 xor_swaps (marked s) (λ q _. f q) k tt (get-marked s k ∙ ap mark there) in
      ap (λ m. fold_over bit_xor 0 m (λ q _. f q)) (marked-remove s k)
      ∙ sym (ap (bit_xor (f k)) whole ∙ sym (xor_assoc (f k) (f k) rest) ∙ ap (λ n. bit_xor n rest) (xor_self (f k)) ∙ xor_zero_l rest)

  -- no wider than its parts
  pub xor_over-lt : (w : ℕ) (f : K → ℕ) → 0 < 2 ^ w → ((k : K) → f k < 2 ^ w) → (s : FinSet R) → xor_over s f < 2 ^ w
  unfolding xor_over
  xor_over-lt w f some small s = map_ind o exact (λ m. fold_over bit_xor 0 m (λ k _. f k) < 2 ^ w)
      (subst (λ n. n < 2 ^ w) (sym (fold_over-empty bit_xor 0 (λ k _. f k))) some)
      (λ m k u new ind. subst (λ n. n < 2 ^ w) (sym (fold_over-insert bit_xor 0 xor_swaps m (λ q _. f q) k u new)) (xor_lt w (f k) _ (small k) ind))
      (marked s)

-- what f makes of what stands at a key, 0 where nothing does
abbrev pub part : {K X : Type 0} → (K → X → ℕ) → K → Option X → ℕ
part f k None = 0
part f k (Some v) = f k v

module _ {K : Type 0} {R : K → K → Ordering} (o : IsTotalOrder R) (exact : IsAntisymmetric R) where
  remove_none : {X : Type 0} (m : FinMap R X) (k : K) → map.get m k ≡ None → map.remove m k ≡ m
  remove_none m k none = same_maps o exact _ _ (λ q. by_key o exact (λ _. map.get (map.remove m k) q ≡ map.get m q) q k
      (λ is. ap (map.get (map.remove m k)) is ∙ get-remove_here o exact m k ∙ sym none ∙ ap (map.get m) (sym is))
      (λ ne. get-remove_other o exact m k q ne))

  -- what stands at a key, and the rest
  pub sum_over-split : {X : Type 0} (m : FinMap R X) (f : K → X → ℕ) (k : K) → sum_over m f ≡ part f k (map.get m k) + sum_over (map.remove m k) f
  sum_over-split m f k =
      elim (map.get m k) as (λ r. map.get m k ≡ r → sum_over m f ≡ part f k r + sum_over (map.remove m k) f) [
        | None ↦ λ e. let same : sum_over m f ≡ sum_over (map.remove m k) f = ap (λ n. sum_over n f) (sym (remove_none m k e)) in omega arith
        | Some v ↦ λ e. sum_over-remove o exact m f k v e
      ] refl

  -- maps in which the same stands at each key, as far as f and g see it, have the same sum
  pub sum_over-alike : {X Y : Type 0} (f : K → X → ℕ) (g : K → Y → ℕ) (m : FinMap R X) (s : FinMap R Y) → ((q : K) → part f q (map.get m q) ≡ part g q (map.get s q)) → sum_over m f ≡ sum_over s g
  sum_over-alike {X} {Y} f g = map_ind o exact (λ m. (s : FinMap R Y) → ((q : K) → part f q (map.get m q) ≡ part g q (map.get s q)) → sum_over m f ≡ sum_over s g)
      (λ s same. sum_over-empty o exact f ∙ sym (nothing s (λ q. sym (same q) ∙ ap (part f q) (map.get-empty R q))))
      (λ m k v none ind s same.
      let here : f k v ≡ part g k (map.get s k) = sym (ap (part f k) (get-insert_here o exact m k v)) ∙ same k in
      let rest = ind (map.remove s k) (λ q. by_key o exact (λ _. part f q (map.get m q) ≡ part g q (map.get (map.remove s k) q)) q k
      (λ is. ap (λ z. part f z (map.get m z)) is ∙ ap (part f k) none ∙ sym (ap (λ z. part g z (map.get (map.remove s k) z)) is ∙ ap (part g k) (get-remove_here o exact s k)))
      (λ ne. sym (ap (part f q) (get-insert_other o exact m k v q ne)) ∙ same q ∙ sym (ap (part g q) (get-remove_other o exact s k q ne)))) in
      let new = sum_over-insert o exact m f k v none in
      let old = sum_over-split s g k in
      omega arith) where
        nothing : (s : FinMap R Y) → ((q : K) → part g q (map.get s q) ≡ 0) → sum_over s g ≡ 0
        nothing s none = elim (dec_lt 0 (sum_over s g)) as (λ _. sum_over s g ≡ 0) [
          | yes p ↦ let h = sum_over-has o exact g s p in let z : g h.0 h.1 ≡ 0 = sym (ap (part g h.0) h.2) ∙ none h.0 in absurd (omega (arith, h.3))
          | no p ↦ omega arith
        ]

is_there : {A : Type 0} (r : Option A) → true ≡ is_some r → (x : A) × (r ≡ Some x)
is_there None e = absurd (let t : ⊥ = cc in t)
is_there (Some x) e = (x, refl)

not_there : {A : Type 0} (r : Option A) → false ≡ is_some r → r ≡ None
not_there None e = refl
not_there (Some x) e = absurd (let t : ⊥ = cc in t)

-- maps with the same keys have the same sum of what is counted by key
module _ {K X Y : Type 0} {R : K → K → Ordering} (o : IsTotalOrder R) (exact : IsAntisymmetric R) (f : K → ℕ) where
  abbrev SameKeys : FinMap R X → FinMap R Y → Type 0
  SameKeys m s = (q : K) → is_some (map.get m q) ≡ is_some (map.get s q)

  pub sum_over-keys : (m : FinMap R X) (s : FinMap R Y) → SameKeys m s → sum_over m (λ k _. f k) ≡ sum_over s (λ k _. f k)
  sum_over-keys m = map_ind o exact (λ m. (s : FinMap R Y) → SameKeys m s → sum_over m (λ k _. f k) ≡ sum_over s (λ k _. f k))
      (λ s same.
      let none : s ≡ map.empty = same_maps o exact s map.empty (λ q. not_there (map.get s q) (sym (ap is_some (map.get-empty R q)) ∙ same q) ∙ sym (map.get-empty R q)) in
      sum_over-empty o exact (λ k _. f k) ∙ sym (ap (λ n. sum_over n (λ k _. f k)) none ∙ sum_over-empty o exact (λ k _. f k)))
      (λ m k v none ind s same.
      let here = is_there (map.get s k) (sym (ap is_some (get-insert_here o exact m k v)) ∙ same k) in
      let rest = ind (map.remove s k) (λ q. by_key o exact (λ _. is_some (map.get m q) ≡ is_some (map.get (map.remove s k) q)) q k
      (λ is. ap (λ z. is_some (map.get m z)) is ∙ ap is_some none ∙ sym (ap (λ z. is_some (map.get (map.remove s k) z)) is ∙ ap is_some (get-remove_here o exact s k)))
      (λ ne. sym (ap is_some (get-insert_other o exact m k v q ne)) ∙ same q ∙ sym (ap is_some (get-remove_other o exact s k q ne)))) in
      omega (arith, sum_over-insert o exact m (λ q _. f q) k v none, sum_over-remove o exact s (λ q _. f q) k here.0 here.1, rest)) m
