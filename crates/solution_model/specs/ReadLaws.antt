-- Rows over elements that stand one to one for others are, read, the rows over those.
use Rattle.std.specs.Prelude.{◌≡◌, ℕ, zero, suc, ◌&&◌, ◌||◌, Bool, true, false, not, cond, List, [], ◌∷◌, ◌++◌, map, refl, Option, None, Some}
use Rattle.std.proofs.Common.{sym, ◌∙◌, ap, subst}
use Rattle.std.proofs.lemmas.Cmp.{lists_total}
use Rattle.std.specs.List.{AllByRecursion, IsDistinct, cons_option, filter, flat_map, list_all, list_any}
use Rattle.std.specs.Option.{option_map}
use Rattle.std.specs.Ordering.{eq_by_cmp}
use Rattle.std.specs.declared.cmp.Ordering.{Ordering}
use Rattle.std.specs.Cmp.{IsTotalOrder}
use Rattle.std.specs.FinSet.{IsAntisymmetric, slice_cmp-IsAntisymmetric}
use Rattle.hypertrie_model.specs.Sets.{has}
use Rattle.hypertrie_model.specs.SetLaws.{and_both, same_test, tied-itself, tied-is}
use Rattle.hypertrie_model.specs.Slices.{at}
use Rattle.set_image.specs.OneToOneLaws.{contains-image}
use Rattle.tuple_image.specs.TupleImages.{IsOneToOneWhere}
use Rattle.tuple_image.specs.TupleLaws.{read_tuple}
use Rattle.bag_model.specs.Answers.{same_row, first_places, chosen_rows}
use Rattle.bag_model.specs.AnswerLaws.{exact_rows}
use Rattle.bag_model.specs.Solutions.{Rest, image, assignments, value, row_of, is_solution, solutions, all_rows, IsUniverse}
use Rattle.solution_model.specs.Reading.{read_row, IsRead, AreRead}
use Rattle.solution_model.specs.RestLaws.{all_append, all_weaker, filter_agree_on}

map-append : {X Y : Type 0} (g : X → Y) (xs ys : List X) → map g (xs ++ ys) ≡ map g xs ++ map g ys
map-append g [] ys = refl
map-append g (x ∷ xs) ys = ap (λ zs. g x ∷ zs) (map-append g xs ys)

filter-map : {X Y : Type 0} (g : X → Y) (p : Y → Bool) (xs : List X) → filter p (map g xs) ≡ map g (filter (λ x. p (g x)) xs)
filter-map g p [] = refl
filter-map g p (x ∷ xs) = elim (p (g x)) as (λ b. cond b (g x ∷ filter p (map g xs)) (filter p (map g xs)) ≡ map g (cond b (x ∷ filter (λ x. p (g x)) xs) (filter (λ x. p (g x)) xs))) [
  | true ↦ ap (λ zs. g x ∷ zs) (filter-map g p xs)
  | false ↦ filter-map g p xs
]

map-map : {X Y Z : Type 0} (g : X → Y) (h : Y → Z) (xs : List X) → map h (map g xs) ≡ map (λ x. h (g x)) xs
map-map g h [] = refl
map-map g h (x ∷ xs) = ap (λ zs. h (g x) ∷ zs) (map-map g h xs)

map-same : {X Y : Type 0} (g h : X → Y) (xs : List X) → ((x : X) → g x ≡ h x) → map g xs ≡ map h xs
map-same g h [] same = refl
map-same g h (x ∷ xs) same = (λ j. same x j ∷ map-same g h xs same j)

module _ {X : Type 0} (p : X → Bool) (P : X → Type 0) where
  pub all-filter : (xs : List X) → AllByRecursion P xs → AllByRecursion P (filter p xs)
  all-filter [] all = tt
  all-filter (x ∷ xs) all = elim (p x) as (λ b. AllByRecursion P (cond b (x ∷ filter p xs) (filter p xs))) [
    | true ↦ (all.0, all-filter xs all.1)
    | false ↦ all-filter xs all.1
  ]

-- ---- what reading does to assignments and rows

module _ {A B : Type 0} (f : A → B) where
  at-map : (l : ℕ) (a : List A) → at l (map f a) ≡ option_map f (at l a)
  at-map l [] = refl
  at-map zero (x ∷ a) = refl
  at-map (suc l) (x ∷ a) = at-map l a

  image-map : (a : List A) (ls : List ℕ) → image (map f a) ls ≡ map f (image a ls)
  image-map a [] = refl
  image-map a (l ∷ ls) = (λ j. cons_option (at-map l a j) (image-map a ls j)) ∙ put (at l a) where
    put : (v : Option A) → cons_option (option_map f v) (map f (image a ls)) ≡ map f (cons_option v (image a ls))
    put None = refl
    put (Some x) = refl

  row-map : (columns : List (Option ℕ)) (a : List A) → row_of columns (map f a) ≡ read_row f (row_of columns a)
  row-map [] a = refl
  row-map (c ∷ cs) a = (λ j. one c j ∷ row-map cs a j) where
    one : (c : Option ℕ) → value (map f a) c ≡ option_map f (value a c)
    one None = refl
    one (Some l) = at-map l a

  under-map : (x : A) (ts : List (List A)) → map (λ b. f x ∷ b) (map (map f) ts) ≡ map (map f) (map (λ a. x ∷ a) ts)
  under-map x [] = refl
  under-map x (t ∷ ts) = ap (λ zs. (f x ∷ map f t) ∷ zs) (under-map x ts)

  pub assignments-map : (u : List A) (n : ℕ) → assignments (map f u) n ≡ map (map f) (assignments u n)
  assignments-map u zero = refl
  assignments-map u (suc n) = ap (λ T. flat_map (λ y. map (λ b. y ∷ b) T) (map f u)) (assignments-map u n) ∙ each (assignments u n) u where
    each : (ts : List (List A)) (v : List A) → flat_map (λ y. map (λ b. y ∷ b) (map (map f) ts)) (map f v) ≡ map (map f) (flat_map (λ x. map (λ a. x ∷ a) ts) v)
    each ts [] = refl
    each ts (x ∷ v) = (λ j. under-map x ts j ++ each ts v j) ∙ sym (map-append (map f) (map (λ a. x ∷ a) ts) (flat_map (λ x. map (λ a. x ∷ a) ts) v))

-- assignments of known elements are of known elements
module _ {A : Type 0} (known : A → Bool) where
  pub assignments_known : (u : List A) (n : ℕ) → list_all known u ≡ true → AllByRecursion (λ a. list_all known a ≡ true) (assignments u n)
  assignments_known u zero all = (refl, tt)
  assignments_known u (suc n) all = each (assignments_known u n all) u all where
    under : (x : A) → known x ≡ true → (ts : List (List A)) → AllByRecursion (λ a. list_all known a ≡ true) ts → AllByRecursion (λ a. list_all known a ≡ true) (map (λ a. x ∷ a) ts)
    under x e [] ok = tt
    under x e (t ∷ ts) ok = ((λ j. e j && ok.0 j), under x e ts ok.1)

    each : AllByRecursion (λ a. list_all known a ≡ true) (assignments u n) → (v : List A) → list_all known v ≡ true → AllByRecursion (λ a. list_all known a ≡ true) (flat_map (λ x. map (λ a. x ∷ a) (assignments u n)) v)
    each ok [] e = tt
    each ok (x ∷ v) e =
        let two = and_both (known x) (list_all known v) e in
        all_append (λ a. list_all known a ≡ true) (map (λ a. x ∷ a) (assignments u n)) _ (under x two.0 (assignments u n) ok) (each ok v two.1)

  at_known : (a : List A) (l : ℕ) → list_all known a ≡ true → (x : A) → at l a ≡ Some x → known x ≡ true
  at_known [] l all x e = absurd (let n : ⊥ = cc in n)
  at_known (y ∷ a) zero all x e = let same : y ≡ x = cc in subst (λ z. known z ≡ true) same (and_both (known y) (list_all known a) all).0
  at_known (y ∷ a) (suc l) all x e = at_known a l (and_both (known y) (list_all known a) all).1 x e

  image_known : (a : List A) (ls : List ℕ) → list_all known a ≡ true → list_all known (image a ls) ≡ true
  image_known a [] all = refl
  image_known a (l ∷ ls) all = put (image_known a ls all) (at l a) refl where
    put : list_all known (image a ls) ≡ true → (v : Option A) → at l a ≡ v → list_all known (cons_option v (image a ls)) ≡ true
    put rest None e = rest
    put rest (Some x) e = (λ j. at_known a l all x e j && rest j)

  -- the values of a row are known
  abbrev pub is_known_value : Option A → Bool
  is_known_value None = true
  is_known_value (Some x) = known x

  abbrev pub is_known_row : List (Option A) → Bool
  is_known_row row = list_all is_known_value row

  row_known : (columns : List (Option ℕ)) (a : List A) → list_all known a ≡ true → is_known_row (row_of columns a) ≡ true
  row_known [] a all = refl
  row_known (c ∷ cs) a all = (λ j. one c j && row_known cs a all j) where
    by : (l : ℕ) (v : Option A) → at l a ≡ v → is_known_value v ≡ true
    by l None e = refl
    by l (Some x) e = at_known a l all x e

    one : (c : Option ℕ) → is_known_value (value a c) ≡ true
    one None = refl
    one (Some l) = by l (at l a) refl

  rows_known : (columns : List (Option ℕ)) (ts : List (List A)) → AllByRecursion (λ a. list_all known a ≡ true) ts → AllByRecursion (λ row. is_known_row row ≡ true) (map (row_of columns) ts)
  rows_known columns [] all = tt
  rows_known columns (t ∷ ts) all = (row_known columns t all.0, rows_known columns ts all.1)

  pub all_rows_known : (R : A → A → Ordering) (u : List A) (n : ℕ) (rests : List (Rest R)) (columns : List (Option ℕ)) → list_all known u ≡ true → AllByRecursion (λ row. is_known_row row ≡ true) (all_rows R u n rests columns)
  all_rows_known R u n rests columns all = rows_known columns (solutions R u n rests) (all-filter (is_solution R rests) (λ a. list_all known a ≡ true) (assignments u n) (assignments_known u n all))

  first_places_known : (R : A → A → Ordering) (rows : List (List (Option A))) → AllByRecursion (λ row. is_known_row row ≡ true) rows → AllByRecursion (λ row. is_known_row row ≡ true) (first_places R rows)
  first_places_known R [] all = tt
  first_places_known R (r ∷ rows) all = (all.0, all-filter (λ q. not (same_row R r q)) (λ row. is_known_row row ≡ true) (first_places R rows) (first_places_known R rows all.1))

  pub chosen_rows_known : (R : A → A → Ordering) (distinct : Bool) (rows : List (List (Option A))) → AllByRecursion (λ row. is_known_row row ≡ true) rows → AllByRecursion (λ row. is_known_row row ≡ true) (chosen_rows R distinct rows)
  chosen_rows_known R false rows all = all
  chosen_rows_known R true rows all = first_places_known R rows all

module _ {A B : Type 0} {R : A → A → Ordering} {P : B → B → Ordering} (o : IsTotalOrder R) (exact : IsAntisymmetric R) (op : IsTotalOrder P) (exact_p : IsAntisymmetric P) (f : A → B) (known : A → Bool) (one : IsOneToOneWhere known f) where
  same_tuple : (t u : List A) → list_all known t ≡ true → list_all known u ≡ true → map f t ≡ map f u → t ≡ u
  same_tuple [] [] kt ku e = refl
  same_tuple [] (y ∷ u) kt ku e = absurd (let n : ⊥ = cc in n)
  same_tuple (x ∷ t) [] kt ku e = absurd (let n : ⊥ = cc in n)
  same_tuple (x ∷ t) (y ∷ u) kt ku e =
      let a = and_both (known x) (list_all known t) kt in
      let b = and_both (known y) (list_all known u) ku in
      let head : f x ≡ f y = cc in
      let tail : map f t ≡ map f u = cc in
      (λ j. one x y a.0 b.0 head j ∷ same_tuple t u a.1 b.1 tail j)

  has-read : (r : Rest R) (s : Rest P) → IsRead R P f known r s → (t : List A) → list_all known t ≡ true → has s.tuples (map f t) ≡ has r.tuples t
  has-read r s is t all =
      ap (λ T. has T (map f t)) (sym is.tuples)
      ∙ contains-image (lists_total o) (slice_cmp-IsAntisymmetric exact) (lists_total op) (slice_cmp-IsAntisymmetric exact_p) (map f) r.tuples t (λ u there same. same_tuple u t (is.over u there) all same)

  same_solution : (rs : List (Rest R)) (ss : List (Rest P)) → AreRead R P f known rs ss → (a : List A) → list_all known a ≡ true → is_solution P ss (map f a) ≡ is_solution R rs a
  same_solution [] [] are a all = refl
  same_solution [] (s ∷ ss) are a all = absurd are
  same_solution (r ∷ rs) [] are a all = absurd are
  same_solution (r ∷ rs) (s ∷ ss) are a all =
      (λ j. (ap (λ ls. has s.tuples (image (map f a) ls)) are.0.labels
      ∙ ap (has s.tuples) (image-map f a r.labels)
      ∙ has-read r s are.0 (image a r.labels) (image_known known a r.labels all)) j
      && same_solution rs ss are.1 a all j)

  pub solutions-read : (u : List A) (n : ℕ) (rs : List (Rest R)) (ss : List (Rest P)) → AreRead R P f known rs ss → list_all known u ≡ true → solutions P (map f u) n ss ≡ map (map f) (solutions R u n rs)
  solutions-read u n rs ss are all =
      ap (filter (is_solution P ss)) (assignments-map f u n)
      ∙ filter-map (map f) (is_solution P ss) (assignments u n)
      ∙ ap (map (map f)) (filter_agree_on (λ a. is_solution P ss (map f a)) (is_solution R rs) (assignments u n)
      (all_weaker (λ a. list_all known a ≡ true) (λ a. is_solution P ss (map f a) ≡ is_solution R rs a) (same_solution rs ss are) (assignments u n) (assignments_known known u n all)))

  -- the rows of the patterns that are read are the rows, read, where the elements that are gone through are read
  pub all_rows-read : (u : List A) (n : ℕ) (rs : List (Rest R)) (ss : List (Rest P)) (columns : List (Option ℕ)) → AreRead R P f known rs ss → list_all known u ≡ true → all_rows P (map f u) n ss columns ≡ map (read_row f) (all_rows R u n rs columns)
  all_rows-read u n rs ss columns are all =
      ap (map (row_of columns)) (solutions-read u n rs ss are all)
      ∙ map-map (map f) (row_of columns) (solutions R u n rs)
      ∙ map-same (λ a. row_of columns (map f a)) (λ a. read_row f (row_of columns a)) (solutions R u n rs) (row-map f columns)
      ∙ sym (map-map (row_of columns) (read_row f) (solutions R u n rs))

  -- ---- DISTINCT

  same_values : (q r : List (Option A)) → is_known_row known q ≡ true → is_known_row known r ≡ true → read_row f q ≡ read_row f r → q ≡ r
  same_values [] [] kq kr e = refl
  same_values [] (y ∷ r) kq kr e = absurd (let n : ⊥ = cc in n)
  same_values (x ∷ q) [] kq kr e = absurd (let n : ⊥ = cc in n)
  same_values (x ∷ q) (y ∷ r) kq kr e =
      let a = and_both (is_known_value known x) (is_known_row known q) kq in
      let b = and_both (is_known_value known y) (is_known_row known r) kr in
      let head : option_map f x ≡ option_map f y = cc in
      let tail : read_row f q ≡ read_row f r = cc in
      (λ j. by x y a.0 b.0 head j ∷ same_values q r a.1 b.1 tail j) where
        by : (x y : Option A) → is_known_value known x ≡ true → is_known_value known y ≡ true → option_map f x ≡ option_map f y → x ≡ y
        by None None kx ky e = refl
        by None (Some y) kx ky e = absurd (let n : ⊥ = cc in n)
        by (Some x) None kx ky e = absurd (let n : ⊥ = cc in n)
        by (Some x) (Some y) kx ky e = let same : f x ≡ f y = cc in ap Some (one x y kx ky same)

  same_row-read : (q r : List (Option A)) → is_known_row known q ≡ true → is_known_row known r ≡ true → same_row P (read_row f q) (read_row f r) ≡ same_row R q r
  same_row-read q r kq kr = same_test _ _
      (λ e. ap (same_row R q) (sym (same_values q r kq kr ((exact_rows op exact_p).is (read_row f q) (read_row f r) e))) ∙ (exact_rows o exact).itself q)
      (λ e. ap (λ z. same_row P (read_row f q) (read_row f z)) (sym ((exact_rows o exact).is q r e)) ∙ (exact_rows op exact_p).itself (read_row f q))

  first_places-read : (rows : List (List (Option A))) → AllByRecursion (λ row. is_known_row known row ≡ true) rows → first_places P (map (read_row f) rows) ≡ map (read_row f) (first_places R rows)
  first_places-read [] all = refl
  first_places-read (r ∷ rows) all = ap (λ zs. read_row f r ∷ zs)
      (ap (filter (λ q. not (same_row P (read_row f r) q))) (first_places-read rows all.1)
      ∙ filter-map (read_row f) (λ q. not (same_row P (read_row f r) q)) (first_places R rows)
      ∙ ap (map (read_row f)) (filter_agree_on (λ q. not (same_row P (read_row f r) (read_row f q))) (λ q. not (same_row R r q)) (first_places R rows)
      (all_weaker (λ q. is_known_row known q ≡ true) (λ q. not (same_row P (read_row f r) (read_row f q)) ≡ not (same_row R r q)) (λ q kq. ap not (same_row-read r q all.0 kq)) (first_places R rows) (first_places_known known R rows all.1))))

  pub chosen_rows-read : (distinct : Bool) (rows : List (List (Option A))) → AllByRecursion (λ row. is_known_row known row ≡ true) rows → chosen_rows P distinct (map (read_row f) rows) ≡ map (read_row f) (chosen_rows R distinct rows)
  chosen_rows-read false rows all = refl
  chosen_rows-read true rows all = first_places-read rows all

  -- ---- the elements that are gone through

  any-read : (x : A) (v : List A) → known x ≡ true → list_all known v ≡ true → list_any (eq_by_cmp P (f x)) (map f v) ≡ list_any (eq_by_cmp R x) v
  any-read x [] kx all = refl
  any-read x (y ∷ v) kx all =
      let two = and_both (known y) (list_all known v) all in
      (λ j. same_test (eq_by_cmp P (f x) (f y)) (eq_by_cmp R x y)
      (λ e. ap (eq_by_cmp R x) (sym (one x y kx two.0 (tied-is exact_p (f x) (f y) e))) ∙ tied-itself o x)
      (λ e. ap (λ z. eq_by_cmp P (f x) (f z)) (sym (tied-is exact x y e)) ∙ tied-itself op (f x)) j
      || any-read x v kx two.1 j)

  apart-read : (x : A) (v : List A) → known x ≡ true → list_all known v ≡ true → AllByRecursion (λ y. eq_by_cmp R x y ≡ false) v → AllByRecursion (λ y. eq_by_cmp P (f x) y ≡ false) (map f v)
  apart-read x [] kx all apart = tt
  apart-read x (y ∷ v) kx all apart =
      let two = and_both (known y) (list_all known v) all in (
        same_test (eq_by_cmp P (f x) (f y)) (eq_by_cmp R x y)
            (λ e. ap (eq_by_cmp R x) (sym (one x y kx two.0 (tied-is exact_p (f x) (f y) e))) ∙ tied-itself o x)
            (λ e. ap (λ z. eq_by_cmp P (f x) (f z)) (sym (tied-is exact x y e)) ∙ tied-itself op (f x)) ∙ apart.0,
        apart-read x v kx two.1 apart.1,
      )

  distinct-read : (v : List A) → list_all known v ≡ true → IsDistinct (eq_by_cmp R) v → IsDistinct (eq_by_cmp P) (map f v)
  unfolding IsDistinct
  distinct-read [] all d = tt
  distinct-read (x ∷ v) all d =
      let two = and_both (known x) (list_all known v) all in
      (apart-read x v two.0 two.1 d.0, distinct-read v two.1 d.1)

  all-read : (u t : List A) → list_all known u ≡ true → list_all known t ≡ true → AllByRecursion (λ x. list_any (eq_by_cmp R x) u ≡ true) t → AllByRecursion (λ y. list_any (eq_by_cmp P y) (map f u) ≡ true) (map f t)
  all-read u [] ku kt all = tt
  all-read u (x ∷ t) ku kt all =
      let two = and_both (known x) (list_all known t) kt in
      (any-read x u two.0 ku ∙ all.0, all-read u t ku two.1 all.1)

  whole-read : (u : List A) (rs : List (Rest R)) (ss : List (Rest P)) → list_all known u ≡ true → AreRead R P f known rs ss
      → AllByRecursion (λ r. (t : List A) → has r.tuples t ≡ true → AllByRecursion (λ x. list_any (eq_by_cmp R x) u ≡ true) t) rs
      → AllByRecursion (λ s. (t : List B) → has s.tuples t ≡ true → AllByRecursion (λ y. list_any (eq_by_cmp P y) (map f u) ≡ true) t) ss
  whole-read u [] [] ku are whole = tt
  whole-read u [] (s ∷ ss) ku are whole = absurd are
  whole-read u (r ∷ rs) [] ku are whole = absurd are
  whole-read u (r ∷ rs) (s ∷ ss) ku are whole = (
    (λ t e.
        let v = read_tuple o exact op exact_p f r.tuples t (ap (λ T. has T t) are.0.tuples ∙ e) in
        subst (AllByRecursion (λ y. list_any (eq_by_cmp P y) (map f u) ≡ true)) v.is (all-read u v.member ku (are.0.over v.member v.there) (whole.0 v.member v.there))),
    whole-read u rs ss ku are.1 whole.1,
  )

  pub universe-read : (u : List A) (rs : List (Rest R)) (ss : List (Rest P)) → list_all known u ≡ true → AreRead R P f known rs ss → IsUniverse R u rs → IsUniverse P (map f u) ss
  universe-read u rs ss ku are is = record { distinct = distinct-read u ku is.distinct; whole = whole-read u rs ss ku are is.whole }
