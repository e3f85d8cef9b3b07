-- What is to come of a list of assignments, level by level.
use Rattle.std.specs.Prelude.{◌≡◌, ℕ, zero, suc, ◌+◌, ◌<◌, ◌≤◌, ◌&&◌, Bool, true, false, not, cond, nat_lt, List, [], ◌∷◌, ◌++◌, refl}
use Rattle.std.proofs.Common.{sym, ◌∙◌, ap, subst, arith, append_assoc}
use Rattle.std.proofs.lemmas.Bool.Decides.{nat_tests}
use Rattle.std.proofs.lemmas.List.Sorted.{IsPermutation-refl, IsPermutation-sym, IsPermutation-cons, IsPermutation-trans, IsPermutation-middle, IsPermutation-append_right}
use Rattle.std.specs.Cmp.{unsigned_tied}
use Rattle.std.specs.FinMap.{nat_cmp-IsAntisymmetric}
use Rattle.std.specs.List.{AllByRecursion, filter}
use Rattle.std.specs.List.Sorted.{IsPermutation}
use Rattle.std.specs.Ordering.{nat_cmp, eq_by_cmp}
use Rattle.hypertrie_model.specs.SetLaws.{tied-is}
use Rattle.hypertrie_model.specs.Slices.{is_at}
use Rattle.bag_list.specs.declared.level.Level.{Level}
use Rattle.bag_list.specs.Levels.{agrees, at_key, coming, from_key, from_of, is_below, to_come, within}
use Rattle.bag_list.proofs.Places.{append_none}

-- ---- filters

filter-alike : {X : Type 0} (p q : X → Bool) (xs : List X) → AllByRecursion (λ x. p x ≡ q x) xs → filter p xs ≡ filter q xs
filter-alike p q [] all = refl
filter-alike p q (x ∷ xs) all = (λ j. cond (all.0 j) (x ∷ filter-alike p q xs all.1 j) (filter-alike p q xs all.1 j))

filter-all : {X : Type 0} (p : X → Bool) (xs : List X) → ((x : X) → p x ≡ true) → filter p xs ≡ xs
filter-all p [] all = refl
filter-all p (x ∷ xs) all = (λ j. cond (all x j) (x ∷ filter-all p xs all j) (filter-all p xs all j))

filter-none : {X : Type 0} (p : X → Bool) (xs : List X) → AllByRecursion (λ x. p x ≡ false) xs → filter p xs ≡ []
filter-none p [] all = refl
filter-none p (x ∷ xs) all = (λ j. cond (all.0 j) (x ∷ filter-none p xs all.1 j) (filter-none p xs all.1 j))

pub all-filtered : {X : Type 0} (P : X → Type 0) (p : X → Bool) (xs : List X) → AllByRecursion P xs → AllByRecursion (λ x. P x × (p x ≡ true)) (filter p xs)
all-filtered P p [] all = tt
all-filtered P p (x ∷ xs) all = elim (p x) as (λ b. p x ≡ b → AllByRecursion (λ x. P x × (p x ≡ true)) (cond b (x ∷ filter p xs) (filter p xs))) [
  | true ↦ λ e. ((all.0, e), all-filtered P p xs all.1)
  | false ↦ λ _. all-filtered P p xs all.1
] refl

pub all-weaker : {X : Type 0} (P Q : X → Type 0) (xs : List X) → ((x : X) → P x → Q x) → AllByRecursion P xs → AllByRecursion Q xs
all-weaker P Q [] into all = tt
all-weaker P Q (x ∷ xs) into all = (into x all.0, all-weaker P Q xs into all.1)

pub all-append : {X : Type 0} (P : X → Type 0) (xs ys : List X) → AllByRecursion P xs → AllByRecursion P ys → AllByRecursion P (xs ++ ys)
all-append P [] ys p q = q
all-append P (x ∷ xs) ys p q = (p.0, all-append P xs ys p.1 q)

-- ---- levels put one behind another

pub within-append : (T : List (List ℕ)) (fs gs : List Level) → within T (fs ++ gs) ≡ within (within T fs) gs
within-append T [] gs = refl
within-append T (f ∷ fs) gs = within-append (at_key f.label f.key.0 T) fs gs

pub coming-append : (T : List (List ℕ)) (fs gs : List Level) → coming T (fs ++ gs) ≡ coming T fs ++ coming (within T fs) gs
coming-append T [] gs = refl
coming-append T (f ∷ fs) gs =
    ap (λ xs. from_key f.label (from_of f.from) T ++ xs) (coming-append (at_key f.label f.key.0 T) fs gs)
    ∙ sym (append_assoc (from_key f.label (from_of f.from) T) (coming (at_key f.label f.key.0 T) fs) (coming (within T (f ∷ fs)) gs))

pub within-all : (P : List ℕ → Type 0) (T : List (List ℕ)) (fs : List Level) → AllByRecursion P T → AllByRecursion (λ a. P a × (agrees fs a ≡ true)) (within T fs)
within-all P T [] all = all-weaker P (λ a. P a × (true ≡ true)) T (λ a p. (p, refl)) all
within-all P T (f ∷ fs) all =
    all-weaker _ (λ a. P a × (agrees (f ∷ fs) a ≡ true)) (within T (f ∷ fs)) (λ a h. (h.0.0, (λ j. h.0.1 j && h.1 j)))
    (within-all (λ a. P a × (is_at nat_cmp f.label f.key.0 a ≡ true)) (at_key f.label f.key.0 T) fs (all-filtered P (is_at nat_cmp f.label f.key.0) T all))

-- what holds of those that have a key at some level that is still to be tried
pub coming-all : (P Q : List ℕ → Type 0) (T : List (List ℕ)) (fs : List Level) → AllByRecursion P T → AllByRecursion (λ f. (a : List ℕ) → P a → is_below f.label (from_of f.from) a ≡ false → Q a) fs → AllByRecursion Q (coming T fs)
coming-all P Q T [] all each = tt
coming-all P Q T (f ∷ fs) all each =
    all-append Q (from_key f.label (from_of f.from) T) (coming (at_key f.label f.key.0 T) fs)
    (all-weaker _ Q (from_key f.label (from_of f.from) T) (λ a h. each.0 a h.0 (flipped (is_below f.label (from_of f.from) a) h.1)) (all-filtered P (λ a. not (is_below f.label (from_of f.from) a)) T all))
    (coming-all P Q (at_key f.label f.key.0 T) fs
    (all-weaker _ P (at_key f.label f.key.0 T) (λ a h. h.0) (all-filtered P (is_at nat_cmp f.label f.key.0) T all)) each.1) where
      flipped : (b : Bool) → not b ≡ true → b ≡ false
      flipped true e = sym e
      flipped false e = refl

-- ---- one key more

-- below k, at k, or above it
data Side (l k : ℕ) (a : List ℕ) : Type 0 where
  low : is_below l k a ≡ true → is_at nat_cmp l k a ≡ false → is_below l (k + 1) a ≡ true → Side l k a
  here : is_below l k a ≡ false → is_at nat_cmp l k a ≡ true → is_below l (k + 1) a ≡ true → Side l k a
  high : is_below l k a ≡ false → is_at nat_cmp l k a ≡ false → is_below l (k + 1) a ≡ false → Side l k a

side : (l k : ℕ) (a : List ℕ) → Side l k a
side l k [] = high refl refl refl
side zero k (x ∷ a) = elim (nat_lt x k) as (λ b. nat_lt x k ≡ b → Side zero k (x ∷ a)) [
  | true ↦ λ e.
      let lt : x < k = grind (arith, nat_tests) in
      low e (unsigned_tied k x ∙ (let ne : Rattle.std.specs.Prelude.nat_eq k x ≡ false = grind (arith, nat_tests) in ne)) (let t : nat_lt x (k + 1) ≡ true = grind (arith, nat_tests) in t)
  | false ↦ λ e. elim (eq_by_cmp nat_cmp k x) as (λ b. eq_by_cmp nat_cmp k x ≡ b → Side zero k (x ∷ a)) [
    | true ↦ λ is. let same = tied-is nat_cmp-IsAntisymmetric k x is in here e is (let t : nat_lt x (k + 1) ≡ true = grind (arith, nat_tests) in t)
    | false ↦ λ other.
        let ne : Rattle.std.specs.Prelude.nat_eq k x ≡ false = sym (unsigned_tied k x) ∙ other in
        high e other (let t : nat_lt x (k + 1) ≡ false = grind (arith, nat_tests) in t)
  ] refl
] refl
side (suc l) k (x ∷ a) = elim (side l k a) [ low p q r ↦ low p q r | here p q r ↦ here p q r | high p q r ↦ high p q r ]

pub split_key : (l k : ℕ) (T : List (List ℕ)) → IsPermutation (from_key l k T) (from_key l (k + 1) T ++ at_key l k T)
split_key l k [] = IsPermutation-refl []
split_key l k (a ∷ T) =
    let rest = split_key l k T in
    elim (side l k a) [
      | low p q r ↦ subst (λ b. IsPermutation (cond (not b) (a ∷ from_key l k T) (from_key l k T)) (from_key l (k + 1) (a ∷ T) ++ at_key l k (a ∷ T))) (sym p)
          (subst (λ b. IsPermutation (from_key l k T) (cond (not b) (a ∷ from_key l (k + 1) T) (from_key l (k + 1) T) ++ at_key l k (a ∷ T))) (sym r)
          (subst (λ b. IsPermutation (from_key l k T) (from_key l (k + 1) T ++ cond b (a ∷ at_key l k T) (at_key l k T))) (sym q) rest))
      | here p q r ↦ subst (λ b. IsPermutation (cond (not b) (a ∷ from_key l k T) (from_key l k T)) (from_key l (k + 1) (a ∷ T) ++ at_key l k (a ∷ T))) (sym p)
          (subst (λ b. IsPermutation (a ∷ from_key l k T) (cond (not b) (a ∷ from_key l (k + 1) T) (from_key l (k + 1) T) ++ at_key l k (a ∷ T))) (sym r)
          (subst (λ b. IsPermutation (a ∷ from_key l k T) (from_key l (k + 1) T ++ cond b (a ∷ at_key l k T) (at_key l k T))) (sym q)
          (IsPermutation-trans (a ∷ from_key l k T) (a ∷ (from_key l (k + 1) T ++ at_key l k T)) (from_key l (k + 1) T ++ a ∷ at_key l k T)
          (IsPermutation-cons a _ _ rest)
          (IsPermutation-sym _ _ (IsPermutation-middle (from_key l (k + 1) T) a (at_key l k T))))))
      | high p q r ↦ subst (λ b. IsPermutation (cond (not b) (a ∷ from_key l k T) (from_key l k T)) (from_key l (k + 1) (a ∷ T) ++ at_key l k (a ∷ T))) (sym p)
          (subst (λ b. IsPermutation (a ∷ from_key l k T) (cond (not b) (a ∷ from_key l (k + 1) T) (from_key l (k + 1) T) ++ at_key l k (a ∷ T))) (sym r)
          (subst (λ b. IsPermutation (a ∷ from_key l k T) (a ∷ from_key l (k + 1) T ++ cond b (a ∷ at_key l k T) (at_key l k T))) (sym q)
          (IsPermutation-cons a _ _ rest)))
    ]

below_none : (l : ℕ) (a : List ℕ) → not (is_below l 0 a) ≡ true
below_none l [] = refl
below_none zero (x ∷ a) = let t : nat_lt x 0 ≡ false = grind (arith, nat_tests) in ap not t
below_none (suc l) (x ∷ a) = below_none l a

-- ---- the steps of a search

module _ (T : List (List ℕ)) (fs : List Level) where
  -- a label more, of which no key was tried
  pub opened : (f : Level) → from_of f.from ≡ 0 → to_come T (fs ++ f ∷ []) false ≡ to_come T fs true
  opened f first =
      append_none (coming T (fs ++ f ∷ []))
      ∙ coming-append T fs (f ∷ [])
      ∙ ap (λ xs. coming T fs ++ xs) (append_none _ ∙ ap (λ k. from_key f.label k (within T fs)) first ∙ filter-all _ (within T fs) (below_none f.label))

  -- the last label, of which no key is left
  pub closed : (f : Level) → AllByRecursion (λ a. is_below f.label (from_of f.from) a ≡ true) (within T fs) → to_come T (fs ++ f ∷ []) false ≡ to_come T fs false
  closed f none =
      append_none (coming T (fs ++ f ∷ []))
      ∙ coming-append T fs (f ∷ [])
      ∙ ap (λ xs. coming T fs ++ xs) (append_none _ ∙ filter-none _ (within T fs) (all-weaker _ (λ a. not (is_below f.label (from_of f.from) a) ≡ false) (within T fs) (λ a e. ap not e) none))

  -- the last label at its next key
  pub entered : (f g : Level) (fresh : Bool) → g.label ≡ f.label → from_of g.from ≡ g.key.0 + 1 → AllByRecursion (λ a. is_below f.label (from_of f.from) a ≡ is_below f.label g.key.0 a) (within T fs) → (fresh ≡ false → AllByRecursion (λ a. is_at nat_cmp f.label g.key.0 a ≡ false) (within T fs)) → IsPermutation (to_come T (fs ++ f ∷ []) false) (to_come T (fs ++ g ∷ []) fresh)
  entered f g fresh label next least none =
      subst (λ xs. IsPermutation xs (to_come T (fs ++ g ∷ []) fresh)) (sym before)
      (subst (λ ys. IsPermutation (coming T fs ++ from_key f.label g.key.0 (within T fs)) ys) (sym behind)
      (subst (λ ys. IsPermutation (coming T fs ++ from_key f.label g.key.0 (within T fs)) ys) (sym (append_assoc (coming T fs) (from_key f.label (g.key.0 + 1) (within T fs)) (at_key f.label g.key.0 (within T fs))))
      (IsPermutation-append_right (coming T fs) _ _ (split_key f.label g.key.0 (within T fs))))) where
        before : to_come T (fs ++ f ∷ []) false ≡ coming T fs ++ from_key f.label g.key.0 (within T fs)
        before =
            append_none (coming T (fs ++ f ∷ []))
            ∙ coming-append T fs (f ∷ [])
            ∙ ap (λ xs. coming T fs ++ xs) (append_none _ ∙ filter-alike _ _ (within T fs) (all-weaker _ (λ a. not (is_below f.label (from_of f.from) a) ≡ not (is_below f.label g.key.0 a)) (within T fs) (λ a e. ap not e) least))

        left : (fresh : Bool) → (fresh ≡ false → AllByRecursion (λ a. is_at nat_cmp f.label g.key.0 a ≡ false) (within T fs)) → cond fresh (within T (fs ++ g ∷ [])) [] ≡ at_key f.label g.key.0 (within T fs)
        left true none = within-append T fs (g ∷ []) ∙ ap (λ l. at_key l g.key.0 (within T fs)) label
        left false none = sym (filter-none _ (within T fs) (none refl))

        behind : to_come T (fs ++ g ∷ []) fresh ≡ (coming T fs ++ from_key f.label (g.key.0 + 1) (within T fs)) ++ at_key f.label g.key.0 (within T fs)
        behind = (λ j. (coming-append T fs (g ∷ []) ∙ ap (λ xs. coming T fs ++ xs) (append_none _ ∙ (λ i. from_key (label i) (next i) (within T fs)))) j ++ left fresh none j)
