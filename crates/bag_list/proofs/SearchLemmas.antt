-- A search is kept, step by step.
use Rattle.std.specs.Prelude.{◌≡◌, ℕ, zero, suc, ◌+◌, ◌-◌, ◌<◌, ◌≤◌, ◌^◌, ◌&&◌, Bool, true, false, nat_lt, nat_eq, List, [], ◌∷◌, ◌++◌, length, take, slice_index_or, slice_set, refl}
use Rattle.std.proofs.Common.{sym, ◌∙◌, ap, subst, arith}
use Rattle.std.proofs.Math.Seq.{map-set_same}
use Rattle.std.proofs.lemmas.Bool.Decides.{nat_tests}
use Rattle.std.proofs.lemmas.List.{get_or_default, get_or-set_same, get_or-set_other, length-set, take_more_set, take-set-le}
use Rattle.std.proofs.lemmas.List.Edits.{swap_is, length-swap}
use Rattle.std.proofs.lemmas.List.Sorted.{IsPermutation-map, IsPermutation-swap, IsPermutation-trans, All-permutation}
use Rattle.std.proofs.lemmas.List.FromFn.{length-range_with_len, get_or-range_with_len}
use Rattle.std.proofs.lemmas.Map.Keys.{IsDistinct-IsPermutation, apart_from_distinct}
use Rattle.std.specs.List.{AllByRecursion, IsDistinct, range_with_len, swap}
use Rattle.std.specs.List.Sorted.{IsPermutation}
use Rattle.std.specs.Ordering.{nat_cmp}
use native.Mathlib.Decide.{dec_lt, ℕ_discrete}
use Rattle.hypertrie_model.specs.IdSets.{IdSet}
use Rattle.hypertrie_model.specs.SetLaws.{and_both}
use Rattle.hypertrie_model.specs.Slices.{at, is_at}
use Rattle.trie_depth.specs.declared.id.Id.{Id}
use Rattle.bag_model.specs.ListLaws.{IsExact, flips}
use Rattle.bag_list.specs.declared.level.Level.{Level}
use Rattle.bag_list.specs.declared.track.Part.{Part}
use Rattle.bag_list.specs.declared.track.Track.{Track}
use Rattle.bag_list.specs.Labels.{labels_of, without}
use Rattle.bag_list.specs.Levels.{agrees, from_of, level_labels, n_fresh}
use Rattle.bag_list.specs.Search.{AreKept, IsTried}
use Rattle.bag_list.specs.Tracks.{AdmitsAt, AllAdmitAt, IsCounted, IsFixed, IsLeft, IsSameTo, IsTrack, part_at, parts_of, rest_of, rests, unfixed}
use Rattle.bag_list.proofs.CountedLemmas.{counted-same}
use Rattle.bag_list.proofs.Places.{to_next}

-- ---- numbers as labels

pub exact_numbers : IsExact nat_eq
exact_numbers = record { itself = itself; is = is } where
  itself : (x : ℕ) → nat_eq x x ≡ true
  itself x = grind (arith, nat_tests)

  is : (x y : ℕ) → nat_eq x y ≡ true → x ≡ y
  is x y e = grind (arith, nat_tests)

pub distinct-range : (a n : ℕ) → IsDistinct nat_eq (range_with_len a n)
unfolding IsDistinct
distinct-range a zero = tt
distinct-range a (suc n) = (above a (a + 1) n (omega arith), distinct-range (a + 1) n) where
  above : (a b n : ℕ) → a < b → AllByRecursion (λ y. nat_eq a y ≡ false) (range_with_len b n)
  above a b zero lt = tt
  above a b (suc n) lt = ((let e : nat_eq a b ≡ false = grind (arith, nat_tests) in e), above a (b + 1) n (omega (arith, lt)))

pub length-labels : (fs : List Level) → length (level_labels fs) ≡ length fs
length-labels [] = refl
length-labels (f ∷ fs) = ap suc (length-labels fs)

pub label-at : (fs : List Level) (i : ℕ) (f : Level) → i < length fs → (slice_index_or fs i f).label ≡ slice_index_or (level_labels fs) i 0
label-at [] i f lt = absurd (omega (arith, lt))
label-at (g ∷ fs) zero f lt = refl
label-at (g ∷ fs) (suc i) f lt = label-at fs i f (omega (arith, lt))

-- two levels have different labels
pub labels-apart : (levels : List Level) → IsPermutation (range_with_len 0 (length levels)) (level_labels levels) → (i j : ℕ) (f g : Level) → i < j → j < length levels → (slice_index_or levels i f).label ≡ (slice_index_or levels j g).label → ⊥
labels-apart levels all i j f g lt within same =
    let distinct = IsDistinct-IsPermutation nat_eq (flips exact_numbers) (range_with_len 0 (length levels)) (level_labels levels) all (distinct-range 0 (length levels)) in
    let apart = apart_from_distinct nat_eq (level_labels levels) i j 0 distinct lt (subst (λ n. j < n) (sym (length-labels levels)) within) in
    let t : true ≡ false = sym (exact_numbers.itself (slice_index_or levels i f).label) ∙ (λ k. nat_eq (label-at levels i f (omega (arith, lt, within)) k) ((same ∙ label-at levels j g within) k)) ∙ apart in
    absurd (let f : ⊥ = cc in f)

-- ---- edits of the levels

-- what stands at a place once two elements changed places
pub swap-at : {X : Type 0} (xs : List X) (a b j : ℕ) (d : X) (P : X → Type 0) → a < length xs → b < length xs → (j ≡ a → P (slice_index_or xs b d)) → (j ≡ b → P (slice_index_or xs a d)) → ((j ≡ a → ⊥) → (j ≡ b → ⊥) → P (slice_index_or xs j d)) → P (slice_index_or (swap xs a b) j d)
swap-at xs a b j d P la lb first second other =
    subst (λ ys. P (slice_index_or ys j d)) (swap_is xs a b d la lb)
    (elim (ℕ_discrete j b) as (λ _. P (slice_index_or (slice_set (slice_set xs a (slice_index_or xs b d)) b (slice_index_or xs a d)) j d)) [
      | yes is ↦ subst (λ i. P (slice_index_or (slice_set (slice_set xs a (slice_index_or xs b d)) b (slice_index_or xs a d)) i d)) (sym is)
          (subst P (sym (get_or-set_same (slice_set xs a (slice_index_or xs b d)) b (slice_index_or xs a d) d (let n = length-set xs a (slice_index_or xs b d) in omega (arith, n, lb)))) (second is))
      | no out ↦ subst P (sym (get_or-set_other (slice_set xs a (slice_index_or xs b d)) b j (slice_index_or xs a d) d out))
          (elim (ℕ_discrete j a) as (λ _. P (slice_index_or (slice_set xs a (slice_index_or xs b d)) j d)) [
            | yes is ↦ subst (λ i. P (slice_index_or (slice_set xs a (slice_index_or xs b d)) i d)) (sym is) (subst P (sym (get_or-set_same xs a (slice_index_or xs b d) d la)) (first is))
            | no away ↦ subst P (sym (get_or-set_other xs a j (slice_index_or xs b d) d away)) (other away out)
          ])
    ])

pub take-swap : (levels : List Level) (depth i j : ℕ) → depth ≤ i → i < length levels → j ≤ depth → take j (swap levels depth i) ≡ take j levels
take-swap [] depth i j le lt low = absurd (omega (arith, lt))
take-swap (x ∷ levels) depth i j le lt low =
    ap (take j) (sym (swap_is (x ∷ levels) depth i x (omega (arith, le, lt)) lt))
    ∙ take-set-le j (slice_set (x ∷ levels) depth (slice_index_or (x ∷ levels) i x)) i (slice_index_or (x ∷ levels) depth x) (omega (arith, le, low))
    ∙ take-set-le j (x ∷ levels) depth (slice_index_or (x ∷ levels) i x) low

-- ---- what the levels leave

pub unfixed-more : (fs : List Level) (f : Level) (ls : List ℕ) → unfixed (fs ++ f ∷ []) ls ≡ without f.label (unfixed fs ls)
unfixed-more [] f ls = refl
unfixed-more (g ∷ fs) f ls = unfixed-more fs f (without g.label ls)

pub agrees-more : (fs : List Level) (f : Level) (a : List ℕ) → agrees (fs ++ f ∷ []) a ≡ (agrees fs a && is_at nat_cmp f.label f.key.0 a)
agrees-more [] f a = and_true (is_at nat_cmp f.label f.key.0 a) where
  and_true : (b : Bool) → (b && true) ≡ b
  and_true true = refl
  and_true false = refl
agrees-more (g ∷ fs) f a = ap (λ b. is_at nat_cmp g.label g.key.0 a && b) (agrees-more fs f a) ∙ assoc (is_at nat_cmp g.label g.key.0 a) (agrees fs a) (is_at nat_cmp f.label f.key.0 a) where
  assoc : (a b c : Bool) → (a && (b && c)) ≡ ((a && b) && c)
  assoc true b c = refl
  assoc false b c = refl

module _ {O : Type 0} (depth_of : O → ℕ) (tuples : O → IdSet) where
  left-more : (fs : List Level) (f : Level) (s p r : Part O) → IsLeft depth_of tuples fs s p → IsFixed depth_of tuples f.label f.key.0 p r → IsLeft depth_of tuples (fs ++ f ∷ []) s r
  left-more fs f s p r left fixed = record {
    part = fixed.part;
    labels = fixed.labels ∙ ap (without f.label) left.labels ∙ sym (unfixed-more fs f (labels_of s.labels));
    image = λ a e.
        let two = and_both (agrees fs a) (is_at nat_cmp f.label f.key.0 a) (sym (agrees-more fs f a) ∙ e) in
        fixed.image a two.1 ∙ left.image a two.0;
  }

  -- other levels behind, and fewer of them
  pub track-levels : (n m k : ℕ) (fs gs : List Level) (t : Track O) → k ≤ m → ((j : ℕ) → j < k → take j gs ≡ take j fs) → IsTrack depth_of tuples n m fs t → IsTrack depth_of tuples n k gs t
  track-levels n m k fs gs t le same is = record {
    room = is.room;
    below = is.below;
    counted = λ j lt before. is.counted j (omega (arith, le, lt)) before;
    left = λ j p lt before. subst (λ hs. IsLeft depth_of tuples hs t.start (slice_index_or (parts_of t) j p)) (sym (same j lt)) (is.left j p (omega (arith, le, lt)) before);
  }

  -- a pattern with the same parts
  track-same : (n m last : ℕ) (fs : List Level) (s t : Track O) → m ≤ last + 1 → IsSameTo last s t → IsTrack depth_of tuples n m fs s → IsTrack depth_of tuples n m fs t
  track-same n m last fs s t le alike is = record {
    room = alike.room ∙ is.room;
    below = subst (λ x. AllByRecursion (λ l. l < n) (labels_of x.labels)) (sym alike.start) is.below;
    counted = λ j lt in_all. counted-same last s t alike j (omega (arith, lt, le)) (is.counted j lt in_all);
    left = λ j p lt in_all.
        subst (λ x. IsLeft depth_of tuples (take j fs) x (slice_index_or (parts_of t) j p)) (sym alike.start)
        (subst (λ q. IsLeft depth_of tuples (take j fs) s.start q) (sym (alike.parts j p (omega (arith, lt, le)))) (is.left j p lt in_all));
  }

  -- a level more
  track-entered : (n last : ℕ) (fs gs : List Level) (g : Level) (s t : Track O) (b : Bool) → ((j : ℕ) → j ≤ last → take j gs ≡ take j fs) → take (last + 1) gs ≡ take last fs ++ g ∷ [] → IsSameTo last s t → (b ≡ true → last + 1 ≤ n - 1 → (p : Part O) → IsFixed depth_of tuples g.label g.key.0 (slice_index_or (parts_of s) last p) (slice_index_or (parts_of t) (last + 1) p)) → (b ≡ true → last + 1 ≤ n - 1 → IsCounted (last + 1) t) → IsTrack depth_of tuples n (last + 1) fs s → IsTrack depth_of tuples n (last + 1 + n_fresh b) gs t
  track-entered n last fs gs g s t b same more alike fixed counted is = record {
    room = alike.room ∙ is.room;
    below = subst (λ x. AllByRecursion (λ l. l < n) (labels_of x.labels)) (sym alike.start) is.below;
    counted = λ j. elim b as (λ b. (b ≡ true → last + 1 ≤ n - 1 → IsCounted (last + 1) t) → j < last + 1 + n_fresh b → j ≤ n - 1 → IsCounted j t) [
      | false ↦ λ _ lt in_all. counted-same last s t alike j (omega (arith, lt)) (is.counted j (omega (arith, lt)) in_all)
      | true ↦ λ more lt. to_next (last + 1) (λ j. j ≤ n - 1 → IsCounted j t) (λ j lt in_all. counted-same last s t alike j (omega (arith, lt)) (is.counted j lt in_all)) (λ in_all. more refl in_all) j (omega (arith, lt))
    ] counted;
    left = λ j p. elim b as (λ b. (b ≡ true → last + 1 ≤ n - 1 → (p : Part O) → IsFixed depth_of tuples g.label g.key.0 (slice_index_or (parts_of s) last p) (slice_index_or (parts_of t) (last + 1) p)) → j < last + 1 + n_fresh b → j ≤ n - 1 → IsLeft depth_of tuples (take j gs) t.start (slice_index_or (parts_of t) j p)) [
      | false ↦ λ _ lt in_all. before j p (omega (arith, lt)) in_all
      | true ↦ λ fixed lt. to_next (last + 1) (λ j. j ≤ n - 1 → IsLeft depth_of tuples (take j gs) t.start (slice_index_or (parts_of t) j p)) (λ j lt. before j p lt)
          (λ in_all.
          subst (λ hs. IsLeft depth_of tuples hs t.start (slice_index_or (parts_of t) (last + 1) p)) (sym more)
          (subst (λ x. IsLeft depth_of tuples (take last fs ++ g ∷ []) x (slice_index_or (parts_of t) (last + 1) p)) (sym alike.start)
          (left-more (take last fs) g s.start _ _ (is.left last p (omega arith) (omega (arith, in_all))) (fixed refl in_all p)))) j (omega (arith, lt))
    ] fixed;
  } where
    before : (j : ℕ) (p : Part O) → j < last + 1 → j ≤ n - 1 → IsLeft depth_of tuples (take j gs) t.start (slice_index_or (parts_of t) j p)
    before j p lt in_all =
        subst (λ hs. IsLeft depth_of tuples hs t.start (slice_index_or (parts_of t) j p)) (sym (same j (omega (arith, lt))))
        (subst (λ x. IsLeft depth_of tuples (take j fs) x (slice_index_or (parts_of t) j p)) (sym alike.start)
        (subst (λ q. IsLeft depth_of tuples (take j fs) s.start q) (sym (alike.parts j p (omega (arith, lt)))) (is.left j p lt in_all)))

-- the same starts give the same patterns
pub rests-same : {O : Type 0} (tuples : O → IdSet) (ss ts : List (Track O)) → length ts ≡ length ss → ((i : ℕ) (t : Track O) → i < length ss → (slice_index_or ts i t).start ≡ (slice_index_or ss i t).start) → rests tuples ts ≡ rests tuples ss
rests-same tuples [] [] e same = refl
rests-same tuples [] (t ∷ ts) e same = absurd (omega (arith, e))
rests-same tuples (s ∷ ss) [] e same = absurd (omega (arith, e))
rests-same tuples (s ∷ ss) (t ∷ ts) e same = (λ j. rest_of tuples (same 0 t (omega arith) j) ∷ rests-same tuples ss ts (omega (arith, e)) (λ i u lt. same (suc i) u (omega (arith, lt))) j)

-- each label is below their number
pub labels-small : (levels : List Level) → IsPermutation (range_with_len 0 (length levels)) (level_labels levels) → (i : ℕ) (f : Level) → i < length levels → (slice_index_or levels i f).label < length levels
labels-small levels all i f lt =
    subst (λ l. l < length levels) (sym (label-at levels i f lt))
    (All-permutation (λ l. l < length levels) (range_with_len 0 (length levels)) (level_labels levels) all
    (λ k d low.
    let within : k < length levels = subst (λ n. k < n) (length-range_with_len 0 (length levels)) low in
    subst (λ l. l < length levels) (sym (get_or-range_with_len 0 (length levels) k d within)) (omega (arith, within)))
    i 0 (subst (λ n. i < n) (sym (length-labels levels)) lt))

-- ---- the levels once a label was chosen

abbrev pub opened_levels : List Level → ℕ → ℕ → Level → List Level
opened_levels levels depth i f = slice_set (swap levels depth i) depth f

module _ (levels : List Level) (depth i : ℕ) (f : Level) (le : depth ≤ i) (lt : i < length levels) where
  pub length-opened : length (opened_levels levels depth i f) ≡ length levels
  length-opened = length-set (swap levels depth i) depth f ∙ length-swap levels depth i

  at_depth : depth < length (swap levels depth i)
  at_depth = let n = length-swap levels depth i in omega (arith, n, le, lt)

  pub opened-before : (j : ℕ) (g : Level) → j < depth → slice_index_or (opened_levels levels depth i f) j g ≡ slice_index_or levels j g
  opened-before j g low =
      get_or-set_other (swap levels depth i) depth j f g (λ e. omega (arith, e, low))
      ∙ swap-at levels depth i j g (λ h. h ≡ slice_index_or levels j g) (omega (arith, le, lt)) lt (λ e. absurd (omega (arith, e, low))) (λ e. absurd (omega (arith, e, low, le))) (λ _ _. refl)

  pub opened-at : (g : Level) → slice_index_or (opened_levels levels depth i f) depth g ≡ f
  opened-at g = get_or-set_same (swap levels depth i) depth f g at_depth

  pub opened-take : (j : ℕ) → j ≤ depth → take j (opened_levels levels depth i f) ≡ take j levels
  opened-take j low = take-set-le j (swap levels depth i) depth f low ∙ take-swap levels depth i j le lt low

  pub opened-more : take (depth + 1) (opened_levels levels depth i f) ≡ take depth levels ++ f ∷ []
  opened-more = take_more_set (swap levels depth i) depth f at_depth ∙ ap (λ fs. fs ++ f ∷ []) (take-swap levels depth i depth le lt (omega arith))

  module _ (label : (g : Level) → f.label ≡ (slice_index_or (swap levels depth i) depth g).label) where
    pub opened-labels : level_labels (opened_levels levels depth i f) ≡ level_labels (swap levels depth i)
    opened-labels = map-set_same (λ g. g.label) (swap levels depth i) depth f f (label f)

    opened-label : (j : ℕ) (g : Level) → (slice_index_or (opened_levels levels depth i f) j g).label ≡ (slice_index_or (swap levels depth i) j g).label
    opened-label j g = elim (ℕ_discrete j depth) as (λ _. (slice_index_or (opened_levels levels depth i f) j g).label ≡ (slice_index_or (swap levels depth i) j g).label) [
      | yes is ↦ subst (λ k. (slice_index_or (opened_levels levels depth i f) k g).label ≡ (slice_index_or (swap levels depth i) k g).label) (sym is) (ap (λ h. h.label) (opened-at g) ∙ label g)
      | no out ↦ ap (λ h. h.label) (get_or-set_other (swap levels depth i) depth j f g out)
    ]

module _ {O : Type 0} (depth_of : O → ℕ) (tuples : O → IdSet) (telling : ℕ → Bool) (levels : List Level) (told : ℕ) (tracks : List (Track O)) (values : List Id) where
  -- a label is chosen, of which no key was tried
  pub kept-opened : (depth i : ℕ) (f : Level) → AreKept depth_of tuples telling levels depth true told tracks values → depth ≤ i → i < length levels → (depth < told → i < told) → ((g : Level) → f.label ≡ (slice_index_or (swap levels depth i) depth g).label) → ((k : Id) → slice_index_or values f.label k ≡ f.key) → AreKept depth_of tuples telling (opened_levels levels depth i f) (depth + 1) false told tracks values
  kept-opened depth i f kept le lt segment label key =
      let long = length-opened levels depth i f le lt in
      let w = kept.told_within in
      record {
        within = omega (arith, long, le, lt);
        labels = subst (λ n. IsPermutation (range_with_len 0 n) (level_labels (opened_levels levels depth i f))) (sym long)
            (subst (IsPermutation (range_with_len 0 (length levels))) (sym (opened-labels levels depth i f le lt label))
            (IsPermutation-trans _ _ _ kept.labels (IsPermutation-map (λ g. g.label) levels (swap levels depth i) (IsPermutation-swap levels (swap levels depth i) depth i (omega (arith, le, lt)) lt refl))));
        first = λ j g low.
            let within : j < length levels = omega (arith, low, long) in
            subst (λ l. telling l ≡ nat_lt j told) (sym (opened-label levels depth i f le lt label j g))
            (swap-at levels depth i j g (λ h. telling h.label ≡ nat_lt j told) (omega (arith, le, lt)) lt
            (λ is. kept.first i g lt ∙ sym moved ∙ ap (λ d. nat_lt d told) (sym is))
            (λ is. kept.first depth g (omega (arith, le, lt)) ∙ moved ∙ ap (λ d. nat_lt d told) (sym is))
            (λ _ _. kept.first j g within));
        told_within = omega (arith, long, w);
        patterns = λ k t low. subst (λ n. IsTrack depth_of tuples n (depth + 1 + 0) (opened_levels levels depth i f) (slice_index_or tracks k t)) (sym long)
            (track-levels depth_of tuples (length levels) (depth + 1) (depth + 1 + 0) levels (opened_levels levels depth i f) (slice_index_or tracks k t) (omega arith) (λ j lt_j. opened-take levels depth i f le lt j (omega (arith, lt_j))) (kept.patterns k t low));
        n_values = kept.n_values ∙ sym long;
        keys = λ j g k. to_next depth (λ j. slice_index_or values (slice_index_or (opened_levels levels depth i f) j g).label k ≡ (slice_index_or (opened_levels levels depth i f) j g).key)
            (λ j low. subst (λ h. slice_index_or values h.label k ≡ h.key) (sym (opened-before levels depth i f le lt j g low)) (kept.keys j g k low))
            (subst (λ h. slice_index_or values h.label k ≡ h.key) (sym (opened-at levels depth i f le lt g)) (key k)) j;
        tried = λ j g low. subst IsTried (sym (opened-before levels depth i f le lt j g (omega (arith, low)))) (kept.tried j g (omega (arith, low)));
        admitted = λ e. absurd (let f : ⊥ = cc in f);
      } where
        moved : nat_lt depth told ≡ nat_lt i told
        moved = elim (dec_lt depth told) as (λ _. nat_lt depth told ≡ nat_lt i told) [
          | yes low ↦ let other = segment low in let a : nat_lt depth told ≡ true = grind (arith, nat_tests) in let b : nat_lt i told ≡ true = grind (arith, nat_tests) in a ∙ sym b
          | no high ↦ let a : nat_lt depth told ≡ false = grind (arith, nat_tests) in let b : nat_lt i told ≡ false = grind (arith, nat_tests) in a ∙ sym b
        ]

  -- fewer labels are fixed
  pub kept-fewer : (m k : ℕ) (fresh : Bool) → k + 0 ≤ m + n_fresh fresh → k ≤ m → AreKept depth_of tuples telling levels m fresh told tracks values → AreKept depth_of tuples telling levels k false told tracks values
  kept-fewer m k fresh le le_m kept = record {
    within = let w = kept.within in omega (arith, w, le_m);
    labels = kept.labels;
    first = kept.first;
    told_within = kept.told_within;
    patterns = λ i t lt. track-levels depth_of tuples (length levels) (m + n_fresh fresh) (k + 0) levels levels (slice_index_or tracks i t) le (λ j _. refl) (kept.patterns i t lt);
    n_values = kept.n_values;
    keys = λ j f d lt. kept.keys j f d (omega (arith, lt, le_m));
    tried = λ j f lt. kept.tried j f (omega (arith, lt, le));
    admitted = λ e. absurd (let f : ⊥ = cc in f);
  }

  -- patterns with the same parts
  pub kept-same : (last : ℕ) (now : List (Track O)) → length now ≡ length tracks → ((i : ℕ) (t : Track O) → i < length tracks → IsSameTo last (slice_index_or tracks i t) (slice_index_or now i t)) → AreKept depth_of tuples telling levels (last + 1) false told tracks values → AreKept depth_of tuples telling levels (last + 1) false told now values
  kept-same last now n_now same kept = record {
    within = kept.within;
    labels = kept.labels;
    first = kept.first;
    told_within = kept.told_within;
    patterns = λ i t lt. let lt_old : i < length tracks = omega (arith, lt, n_now) in track-same depth_of tuples (length levels) (last + 1 + n_fresh false) last levels (slice_index_or tracks i t) (slice_index_or now i t) (omega arith) (same i t lt_old) (kept.patterns i t lt_old);
    n_values = kept.n_values;
    keys = kept.keys;
    tried = kept.tried;
    admitted = λ e. absurd (let f : ⊥ = cc in f);
  }

  -- the last label has its next key
  pub kept-entered : (last : ℕ) (g : Level) (now : List (Track O)) (fresh : Bool) → AreKept depth_of tuples telling levels (last + 1) false told tracks values → ((f : Level) → g.label ≡ (slice_index_or levels last f).label) → from_of g.from ≡ g.key.0 + 1 → g.key.0 < 2 ^ 32 → length now ≡ length tracks → ((i : ℕ) (t : Track O) → i < length tracks → IsSameTo last (slice_index_or tracks i t) (slice_index_or now i t)) → (fresh ≡ true → last + 1 ≤ length levels - 1 → (i : ℕ) (t : Track O) (p : Part O) → i < length tracks → IsFixed depth_of tuples g.label g.key.0 (part_at tracks last i t p) (part_at now (last + 1) i t p)) → (fresh ≡ true → last + 1 ≤ length levels - 1 → (i : ℕ) (t : Track O) → i < length now → IsCounted (last + 1) (slice_index_or now i t)) → (length levels ≡ last + 1 → AllAdmitAt tuples tracks last g.label g.key.0) → AreKept depth_of tuples telling (slice_set levels last g) (last + 1) fresh told now (slice_set values g.label g.key)
  kept-entered last g now fresh kept label next small n_now same fixed counted admit =
      let long = length-set levels last g in
      let w = kept.within in
      let within : last < length levels = omega (arith, w) in
      let starts = rests-same tuples tracks now n_now (λ i t lt. (same i t lt).start) in
      record {
        within = omega (arith, w, long);
        labels = subst (λ n. IsPermutation (range_with_len 0 n) (level_labels (slice_set levels last g))) (sym long)
            (subst (IsPermutation (range_with_len 0 (length levels))) (sym (map-set_same (λ h. h.label) levels last g g (label g))) kept.labels);
        first = λ j f low. subst (λ l. telling l ≡ nat_lt j told) (sym (same_label j f)) (kept.first j f (omega (arith, low, long)));
        told_within = let n = kept.told_within in omega (arith, n, long);
        patterns = λ i t lt. subst (λ n. IsTrack depth_of tuples n (last + 1 + n_fresh fresh) (slice_set levels last g) (slice_index_or now i t)) (sym long)
            (let lt_old : i < length tracks = omega (arith, lt, n_now) in
            track-entered depth_of tuples (length levels) last levels (slice_set levels last g) g (slice_index_or tracks i t) (slice_index_or now i t) fresh (λ j le. take-set-le j levels last g le) (take_more_set levels last g within) (same i t lt_old) (λ e before p. fixed e before i t p lt_old) (λ e before. counted e before i t lt)
            (track-levels depth_of tuples (length levels) (last + 1 + 0) (last + 1) levels levels (slice_index_or tracks i t) (omega arith) (λ j _. refl) (kept.patterns i t lt_old)));
        n_values = length-set values g.label g.key ∙ kept.n_values ∙ sym long;
        keys = λ j f k. to_next last (λ j. slice_index_or (slice_set values g.label g.key) (slice_index_or (slice_set levels last g) j f).label k ≡ (slice_index_or (slice_set levels last g) j f).key)
            (λ j low. subst (λ h. slice_index_or (slice_set values g.label g.key) h.label k ≡ h.key) (sym (get_or-set_other levels last j g f (λ e. omega (arith, e, low))))
            (get_or-set_other values g.label (slice_index_or levels j f).label g.key k (λ e. labels-apart levels kept.labels j last f f low within (e ∙ label f)) ∙ kept.keys j f k (omega (arith, low))))
            (subst (λ h. slice_index_or (slice_set values g.label g.key) h.label k ≡ h.key) (sym (get_or-set_same levels last g f within))
            (get_or-set_same values g.label g.key k (let below = labels-small levels kept.labels last g within in let n = kept.n_values in let is = label g in omega (arith, below, n, is)))) j;
        tried = λ j f low. elim (dec_lt j last) as (λ _. IsTried (slice_index_or (slice_set levels last g) j f)) [
          | yes before ↦ subst IsTried (sym (get_or-set_other levels last j g f (λ e. omega (arith, e, before)))) (kept.tried j f (omega (arith, before)))
          | no after ↦
              let most = fresh_most fresh in
              let is : last ≡ j = omega (arith, low, after, most) in
              subst (λ i. IsTried (slice_index_or (slice_set levels last g) i f)) is
              (subst IsTried (sym (get_or-set_same levels last g f within)) (omega (arith, next), small))
        ];
        admitted = λ _ end f is whole i t p lt.
            let same_end : last ≡ end = omega (arith, is) in
            subst (λ e. AdmitsAt tuples (slice_index_or (slice_set levels last g) e f).label (part_at now e i t p) (slice_index_or (slice_set levels last g) e f).key.0) same_end
            (subst (λ h. AdmitsAt tuples h.label (part_at now last i t p) h.key.0) (sym (get_or-set_same levels last g f within))
            (let lt_old : i < length tracks = omega (arith, lt, n_now) in
            subst (λ q. AdmitsAt tuples g.label q g.key.0) (sym ((same i t lt_old).parts last p (omega arith))) (admit (omega (arith, whole, long, is)) i t p lt_old)));
      } where
        fresh_most : (b : Bool) → n_fresh b ≤ 1
        fresh_most true = omega arith
        fresh_most false = omega arith

        same_label : (j : ℕ) (f : Level) → (slice_index_or (slice_set levels last g) j f).label ≡ (slice_index_or levels j f).label
        same_label j f = elim (ℕ_discrete j last) as (λ _. (slice_index_or (slice_set levels last g) j f).label ≡ (slice_index_or levels j f).label) [
          | yes is ↦ subst (λ i. (slice_index_or (slice_set levels last g) i f).label ≡ (slice_index_or levels i f).label) (sym is)
              (ap (λ h. h.label) (get_or-set_same levels last g f (let w = kept.within in omega (arith, w))) ∙ label f)
          | no out ↦ ap (λ h. h.label) (get_or-set_other levels last j g f out)
        ]

-- the label that was chosen
pub chosen-label : (levels now : List Level) (depth i : ℕ) (f : Level) → now ≡ swap levels depth i → depth < length levels → f ≡ slice_index_or now depth f → (g : Level) → f.label ≡ (slice_index_or (swap levels depth i) depth g).label
chosen-label levels now depth i f is lt at g = ap (λ h. h.label) (at ∙ ap (λ xs. slice_index_or xs depth f) is ∙ get_or_default (swap levels depth i) depth f g (let n = length-swap levels depth i in omega (arith, n, lt)))

pub chosen-small : (levels now : List Level) (depth i : ℕ) (f : Level) → IsPermutation (range_with_len 0 (length levels)) (level_labels levels) → now ≡ swap levels depth i → depth < length levels → i < length levels → f ≡ slice_index_or now depth f → f.label < length levels
chosen-small levels now depth i f all is lt lt_i at =
    subst (λ l. l < length levels) (sym (chosen-label levels now depth i f is lt at f))
    (swap-at levels depth i depth f (λ h. h.label < length levels) lt lt_i
    (λ _. labels-small levels all i f lt_i) (λ e. labels-small levels all depth f lt) (λ out _. absurd (out refl)))

-- the same of equal parts
pub kept-equal : {O : Type 0} (depth_of : O → ℕ) (tuples : O → IdSet) (telling : ℕ → Bool) (levels : List Level) (depth depth' : ℕ) (fresh : Bool) (told : ℕ) (tracks tracks' : List (Track O)) (values values' : List Id) → depth' ≡ depth → tracks' ≡ tracks → values' ≡ values → AreKept depth_of tuples telling levels depth fresh told tracks values → AreKept depth_of tuples telling levels depth' fresh told tracks' values'
kept-equal depth_of tuples telling levels depth depth' fresh told tracks tracks' values values' d t v kept =
    subst (λ d. AreKept depth_of tuples telling levels d fresh told tracks' values') (sym d)
    (subst (λ t. AreKept depth_of tuples telling levels depth fresh told t values') (sym t)
    (subst (λ v. AreKept depth_of tuples telling levels depth fresh told tracks v) (sym v) kept))
