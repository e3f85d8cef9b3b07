-- What is left of patterns once a label is fixed, and the keys that are left for it.
use Rattle.std.specs.Prelude.{◌≡◌, ◌≢◌, ℕ, ◌+◌, ◌<◌, ◌≤◌, List, [], ◌∷◌, ◌++◌, length, take, slice_index_or, refl, Option, None, Some, IfSome, IsNone}
use Rattle.std.proofs.Common.{sym, ◌∙◌, ap, subst, arith}
use Rattle.std.specs.Ordering.{nat_cmp}
use Rattle.hypertrie_model.specs.IdSets.{IdSet}
use Rattle.hypertrie_model.specs.Sets.{has, empty, HasDepth}
use Rattle.hypertrie_model.specs.Slices.{slice_at_mask}
use Rattle.trie_depth.specs.Masks.{FitsDepth, n_positions}
use Rattle.trie_depth.specs.Operands.{Admits}
use Rattle.bag_model.specs.Solutions.{image}
use Rattle.key_join.specs.Common.{AllFit, AllAdmit}
use Rattle.key_join.specs.Least.{IsLeastFrom}
use Rattle.trie_depth.specs.declared.id.Id.{Id}
use Rattle.trie_depth.specs.declared.mask.Mask.{Mask}
use Rattle.bag_list.specs.declared.labels.Labels.{Labels}
use Rattle.bag_list.specs.declared.track.Part.{Part}
use Rattle.bag_list.specs.declared.track.Track.{Track}
use Rattle.bag_list.specs.Labels.{placed, labels_of, mask_of, without}
use Rattle.bag_list.specs.Tracks.{AdmitsAt, IsCounted, IsFixed, IsPart, IsSameTo, part_at, part_set, parts_of, set_with}
use Rattle.std.proofs.lemmas.List.{get_or_append_left, get_or_default, get_or_push, get_or-set_same, get_or-set_other, take_more_set, length-append, length-take-le}
use Rattle.std.specs.Prelude.{slice_set}
use native.Mathlib.Decide.{dec_lt}
use Rattle.bag_list.proofs.Images.{has-slice, at-is_at, mask-fits, mask-none, positions-left}
use Rattle.bag_list.proofs.PartSets.{admits-part, has-one, last-has, mask-long, one-some, set-deep, set-long, set-some}
use Rattle.bag_list.proofs.Places.{both_more, to_next}

placed-short : (p q r : Option ℕ) → length (placed (p ∷ q ∷ r ∷ [])) ≤ 3
placed-short None None None = omega arith
placed-short None None (Some c) = omega arith
placed-short None (Some b) None = omega arith
placed-short None (Some b) (Some c) = omega arith
placed-short (Some a) None None = omega arith
placed-short (Some a) None (Some c) = omega arith
placed-short (Some a) (Some b) None = omega arith
placed-short (Some a) (Some b) (Some c) = omega arith

pub labels-short : (ls : Labels) → length (labels_of ls) ≤ 3
labels-short ls = placed-short ls.0 ls.1 ls.2

module _ {O : Type 0} (depth_of : O → ℕ) (tuples : O → IdSet) (deep : (o : O) → HasDepth (depth_of o) (tuples o)) where
  pub part-deep : (p : Part O) → IsPart depth_of tuples p → HasDepth (length (labels_of p.labels)) (part_set tuples p)
  part-deep p is = set-deep (labels_of p.labels) (tuples p.op) (λ some. subst (λ d. HasDepth d (tuples p.op)) (is.deep some) (deep p.op))

  -- the mask of a label fits the operand
  pub part-fits : (l m : ℕ) (p : Part O) → IsPart depth_of tuples p → m ≡ mask_of l (labels_of p.labels) → 1 ≤ m → FitsDepth m (depth_of p.op)
  part-fits l m p is mask there =
      let some : 1 ≤ mask_of l (labels_of p.labels) = omega (arith, mask, there) in
      subst (FitsDepth m) (sym (is.deep (mask-long l (labels_of p.labels) some)))
      (subst (λ i. FitsDepth i (length (labels_of p.labels))) (sym mask) (mask-fits l (labels_of p.labels) some))

  -- a pattern without the label
  pub fixed-nowhere : (l k : ℕ) (p : Part O) → IsPart depth_of tuples p → mask_of l (labels_of p.labels) ≡ 0 → IsFixed depth_of tuples l k p p
  fixed-nowhere l k p is none = record { part = is; labels = sym (mask-none l (labels_of p.labels) none); image = λ a here. refl }

  -- the last label of a pattern
  pub fixed-last : (l k : ℕ) (p : Part O) (op : O) (ls : Labels) → IsPart depth_of tuples p → labels_of ls ≡ without l (labels_of p.labels) → labels_of ls ≡ [] → AdmitsAt tuples l p k → IsFixed depth_of tuples l k p (record { op = op; labels = ls })
  fixed-last l k p op ls is labels none admits = record {
    part = record {
      deep = λ some. absurd (let n = ap length none in omega (arith, n, some));
      some = subst (λ xs. set_with xs (tuples op) ≢ empty nat_cmp) (sym none) one-some;
    };
    labels = labels;
    image = λ a here.
        ap (λ xs. has (set_with xs (tuples op)) (image a xs)) none ∙ has-one
        ∙ sym (last-has l k a (at-is_at l k a here) (part_set tuples p) (labels_of p.labels) (part-deep p is) is.some (sym labels ∙ none) (admits-part tuples l k p admits));
  }

  -- the slice at the positions of a label
  pub fixed-slice : (l k m : ℕ) (p : Part O) (op : O) (ls : Labels) → IsPart depth_of tuples p → m ≡ mask_of l (labels_of p.labels) → 1 ≤ m → labels_of ls ≡ without l (labels_of p.labels) → 1 ≤ length (labels_of ls) → tuples op ≡ slice_at_mask nat_cmp (tuples p.op) m k → slice_at_mask nat_cmp (tuples p.op) m k ≢ empty nat_cmp → depth_of op + n_positions m ≡ depth_of p.op → IsFixed depth_of tuples l k p (record { op = op; labels = ls })
  fixed-slice l k m p op ls is mask there labels long slice some depth = record {
    part = record {
      deep = λ _.
          let left = positions-left l (labels_of p.labels) (labels-short p.labels) in
          let same = ap n_positions mask in
          let whole = is.deep some_labels in
          let n = ap length labels in
          omega (arith, left, same, depth, whole, n);
      some = set-some (labels_of ls) (tuples op) (λ e. some (sym slice ∙ e));
    };
    labels = labels;
    image = λ a here.
        ap (λ H. has H (image a (labels_of ls))) (set-long (labels_of ls) (tuples op) long)
        ∙ (λ j. has ((slice ∙ ap (λ i. slice_at_mask nat_cmp (tuples p.op) i k) mask ∙ ap (λ H. slice_at_mask nat_cmp H (mask_of l (labels_of p.labels)) k) (sym whole_set)) j) (image a (labels j)))
        ∙ has-slice l k a (at-is_at l k a here) (part_set tuples p) (labels_of p.labels) (part-deep p is);
  } where
    some_labels : 1 ≤ length (labels_of p.labels)
    some_labels = mask-long l (labels_of p.labels) (subst (λ i. 1 ≤ i) mask there)

    whole_set : part_set tuples p ≡ tuples p.op
    whole_set = set-long (labels_of p.labels) (tuples p.op) some_labels

-- ---- one pattern after another

-- below i the patterns have the key fixed, and the others are as before
pub record AreEntered {O : Type 0} (depth_of : O → ℕ) (tuples : O → IdSet) (depth l k : ℕ) (old now : List (Track O)) (i : ℕ) : Type 0 where
  pub same : (j : ℕ) (t : Track O) → j < i → IsSameTo depth (slice_index_or old j t) (slice_index_or now j t)
  pub entered : (j : ℕ) (t : Track O) (p : Part O) → j < i → IsFixed depth_of tuples l k (part_at old depth j t p) (part_at now (depth + 1) j t p)
  pub counted : (j : ℕ) (t : Track O) → j < i → IsCounted (depth + 1) (slice_index_or now j t)
  pub rest : (j : ℕ) (t : Track O) → i ≤ j → slice_index_or now j t ≡ slice_index_or old j t

-- of the first i patterns, those that have the label were taken
pub record AreGathered {O : Type 0} (depth_of : O → ℕ) (tuples : O → IdSet) (tracks : List (Track O)) (depth l : ℕ) (ops : List O) (masks : List Mask) (count i : ℕ) : Type 0 where
  pub within : count ≤ i
  pub fit : AllFit depth_of (take count ops) (take count masks)
  pub asked : (k : ℕ) → ((j : ℕ) (t : Track O) (p : Part O) → j < i → AdmitsAt tuples l (part_at tracks depth j t p) k) → AllAdmit tuples (take count ops) (take count masks) k
  pub whole : (k : ℕ) → AllAdmit tuples (take count ops) (take count masks) k → (j : ℕ) (t : Track O) (p : Part O) → j < i → AdmitsAt tuples l (part_at tracks depth j t p) k
  pub some : (j : ℕ) → j < i → ((t : Track O) (p : Part O) → 1 ≤ mask_of l (labels_of (part_at tracks depth j t p).labels)) → 1 ≤ count

module _ {O : Type 0} where
  -- which default is asked for makes no difference within the lists
  pub part-is : (tracks : List (Track O)) (depth i : ℕ) (x : Track O) (q : Part O) → i < length tracks → x ≡ slice_index_or tracks i x → depth < length (parts_of x) → q ≡ slice_index_or (parts_of x) depth q → (t : Track O) (p : Part O) → part_at tracks depth i t p ≡ q
  part-is tracks depth i x q lt is low at t p =
      ap (λ y. slice_index_or (parts_of y) depth p) (get_or_default tracks i t x lt ∙ sym is)
      ∙ get_or_default (parts_of x) depth p q low ∙ sym at

module _ {O : Type 0} (depth_of : O → ℕ) (tuples : O → IdSet) (depth l k : ℕ) (old now : List (Track O)) (i : ℕ) (x y : Track O) (same_length : length now ≡ length old) (lt : i < length now) (is : x ≡ slice_index_or now i x) (before : AreEntered depth_of tuples depth l k old now i) where
  x-old : (t : Track O) → x ≡ slice_index_or old i t
  x-old t = is ∙ get_or_default now i x t lt ∙ before.rest i t (omega arith)

  -- the one that is entered next has the same parts before
  pub same_more : IsSameTo depth x y → (j : ℕ) (t : Track O) → IsSameTo depth (slice_index_or old j t) (slice_index_or (slice_set now i y) j t)
  same_more same j t = elim (dec_lt j i) as (λ _. IsSameTo depth (slice_index_or old j t) (slice_index_or (slice_set now i y) j t)) [
    | yes low ↦ subst (IsSameTo depth (slice_index_or old j t)) (sym (get_or-set_other now i j y t (λ e. omega (arith, e, low)))) (before.same j t low)
    | no high ↦ elim (dec_lt i j) as (λ _. IsSameTo depth (slice_index_or old j t) (slice_index_or (slice_set now i y) j t)) [
      | yes above ↦
          subst (IsSameTo depth (slice_index_or old j t)) (sym (get_or-set_other now i j y t (λ e. omega (arith, e, above)) ∙ before.rest j t (omega (arith, above))))
          (record { start = refl; room = refl; heights = λ _ _. refl; parts = λ _ _ _. refl })
      | no low ↦
          let here : i ≡ j = omega (arith, high, low) in
          subst (λ m. IsSameTo depth (slice_index_or old m t) (slice_index_or (slice_set now i y) m t)) here
          (subst (λ z. IsSameTo depth z (slice_index_or (slice_set now i y) i t)) (x-old t)
          (subst (IsSameTo depth x) (sym (get_or-set_same now i y t lt)) same))
    ]
  ]

  pub entered_more : IsSameTo depth x y → IsCounted (depth + 1) y → ((p : Part O) → IsFixed depth_of tuples l k (slice_index_or (parts_of x) depth p) (slice_index_or (parts_of y) (depth + 1) p)) → AreEntered depth_of tuples depth l k old (slice_set now i y) (i + 1)
  entered_more same counted fixed = record {
    same = λ j t _. same_more same j t;
    entered = λ j t p. to_next i (λ j. IsFixed depth_of tuples l k (part_at old depth j t p) (part_at (slice_set now i y) (depth + 1) j t p))
        (λ j low. subst (λ z. IsFixed depth_of tuples l k (part_at old depth j t p) (slice_index_or (parts_of z) (depth + 1) p)) (sym (get_or-set_other now i j y t (λ e. omega (arith, e, low)))) (before.entered j t p low))
        (subst (λ z. IsFixed depth_of tuples l k (slice_index_or (parts_of z) depth p) (slice_index_or (parts_of (slice_index_or (slice_set now i y) i t)) (depth + 1) p)) (x-old t)
        (subst (λ z. IsFixed depth_of tuples l k (slice_index_or (parts_of x) depth p) (slice_index_or (parts_of z) (depth + 1) p)) (sym (get_or-set_same now i y t lt)) (fixed p)))
        j;
    counted = λ j t. to_next i (λ j. IsCounted (depth + 1) (slice_index_or (slice_set now i y) j t))
        (λ j low. subst (IsCounted (depth + 1)) (sym (get_or-set_other now i j y t (λ e. omega (arith, e, low)))) (before.counted j t low))
        (subst (IsCounted (depth + 1)) (sym (get_or-set_same now i y t lt)) counted) j;
    rest = λ j t le. get_or-set_other now i j y t (λ e. omega (arith, e, le)) ∙ before.rest j t (omega (arith, le));
  }

module _ {O : Type 0} (depth_of : O → ℕ) (tuples : O → IdSet) (tracks : List (Track O)) (depth l : ℕ) (ops : List O) (masks : List Mask) (count i : ℕ) (x : Track O) (q : Part O) (m : Mask) (is : (t : Track O) (p : Part O) → part_at tracks depth i t p ≡ q) (mask : m.0 ≡ mask_of l (labels_of q.labels)) (before : AreGathered depth_of tuples tracks depth l ops masks count i) where
  -- one that has the label
  pub gathered_more : IsPart depth_of tuples q → 0 < m.0 → count < length ops → length ops ≡ length masks → AreGathered depth_of tuples tracks depth l (slice_set ops count q.op) (slice_set masks count m) (count + 1) (i + 1)
  gathered_more part some lt long = record {
    within = let w = before.within in omega (arith, w);
    fit = λ j o n. subst (λ xs. j < length xs → FitsDepth (slice_index_or (take (count + 1) (slice_set masks count m)) j n).0 (depth_of (slice_index_or xs j o))) (sym ops_more)
        (subst (λ ys. j < length (take count ops ++ q.op ∷ []) → FitsDepth (slice_index_or ys j n).0 (depth_of (slice_index_or (take count ops ++ q.op ∷ []) j o))) (sym masks_more)
        (both_more (λ o n. FitsDepth n.0 (depth_of o)) (take count ops) (take count masks) q.op m taken before.fit fits j o n));
    asked = λ k admit j o n. subst (λ xs. j < length xs → Admits (tuples (slice_index_or xs j o)) (slice_index_or (take (count + 1) (slice_set masks count m)) j n).0 k) (sym ops_more)
        (subst (λ ys. j < length (take count ops ++ q.op ∷ []) → Admits (tuples (slice_index_or (take count ops ++ q.op ∷ []) j o)) (slice_index_or ys j n).0 k) (sym masks_more)
        (both_more (λ o n. Admits (tuples o) n.0 k) (take count ops) (take count masks) q.op m taken (before.asked k (λ j t p low. admit j t p (omega (arith, low)))) (λ none. none_left k admit none) j o n));
    whole = λ k admit j t p. to_next i (λ j. AdmitsAt tuples l (part_at tracks depth j t p) k)
        (λ j low. before.whole k (front k admit) j t p low)
        (subst (λ z. AdmitsAt tuples l z k) (sym (is t p)) (λ some. subst (λ b. Admits (tuples q.op) b k) mask (last k admit))) j;
    some = λ j low e. omega arith;
  } where
    ops_more : take (count + 1) (slice_set ops count q.op) ≡ take count ops ++ q.op ∷ []
    ops_more = take_more_set ops count q.op lt

    masks_more : take (count + 1) (slice_set masks count m) ≡ take count masks ++ m ∷ []
    masks_more = take_more_set masks count m (omega (arith, lt, long))

    n_taken : length (take count ops) ≡ count
    n_taken = length-take-le count ops (omega (arith, lt))

    n_masks : length (take count masks) ≡ count
    n_masks = length-take-le count masks (omega (arith, lt, long))

    -- those that were taken before, and this one
    front : (k : ℕ) → AllAdmit tuples (take (count + 1) (slice_set ops count q.op)) (take (count + 1) (slice_set masks count m)) k → AllAdmit tuples (take count ops) (take count masks) k
    front k admit j o n low =
        subst (λ z. Admits (tuples z) (slice_index_or (take count masks) j n).0 k) (ap (λ xs. slice_index_or xs j o) ops_more ∙ get_or_append_left (take count ops) (q.op ∷ []) o j low)
        (subst (λ z. Admits (tuples (slice_index_or (take (count + 1) (slice_set ops count q.op)) j o)) z.0 k) (ap (λ ys. slice_index_or ys j n) masks_more ∙ get_or_append_left (take count masks) (m ∷ []) n j (omega (arith, low, n_taken, n_masks)))
        (admit j o n (let more = ap length ops_more ∙ length-append (take count ops) (q.op ∷ []) in omega (arith, more, low))))

    last : (k : ℕ) → AllAdmit tuples (take (count + 1) (slice_set ops count q.op)) (take (count + 1) (slice_set masks count m)) k → Admits (tuples q.op) m.0 k
    last k admit =
        subst (λ z. Admits (tuples z) m.0 k) (ap (λ xs. slice_index_or xs count q.op) ops_more ∙ get_or_push (take count ops) q.op q.op count n_taken)
        (subst (λ z. Admits (tuples (slice_index_or (take (count + 1) (slice_set ops count q.op)) count q.op)) z.0 k) (ap (λ ys. slice_index_or ys count m) masks_more ∙ get_or_push (take count masks) m m count n_masks)
        (admit count q.op m (let more = ap length ops_more ∙ length-append (take count ops) (q.op ∷ []) in omega (arith, more, n_taken))))

    taken : length (take count ops) ≡ length (take count masks)
    taken = length-take-le count ops (omega (arith, lt)) ∙ sym (length-take-le count masks (omega (arith, lt, long)))

    fits : FitsDepth m.0 (depth_of q.op)
    fits =
        subst (λ d. FitsDepth m.0 d) (sym (part.deep (mask-long l (labels_of q.labels) (omega (arith, some, mask)))))
        (subst (λ b. FitsDepth b (length (labels_of q.labels))) (sym mask) (mask-fits l (labels_of q.labels) (omega (arith, some, mask))))

    none_left : (k : ℕ) → ((j : ℕ) (t : Track O) (p : Part O) → j < i + 1 → AdmitsAt tuples l (part_at tracks depth j t p) k) → slice_at_mask nat_cmp (tuples q.op) m.0 k ≡ empty nat_cmp → ⊥
    none_left k admit none =
        let admits : AdmitsAt tuples l q k = subst (λ z. AdmitsAt tuples l z k) (is x q) (admit i x q (omega arith)) in
        admits (omega (arith, some, mask)) (ap (λ b. slice_at_mask nat_cmp (tuples q.op) b k) (sym mask) ∙ none)

  -- one that hasn't
  pub gathered_same : m.0 ≤ 0 → AreGathered depth_of tuples tracks depth l ops masks count (i + 1)
  gathered_same none = record {
    within = let w = before.within in omega (arith, w);
    fit = before.fit;
    asked = λ k admit. before.asked k (λ j t p low. admit j t p (omega (arith, low)));
    whole = λ k admit j t p. to_next i (λ j. AdmitsAt tuples l (part_at tracks depth j t p) k) (λ j low. before.whole k admit j t p low)
        (subst (λ z. AdmitsAt tuples l z k) (sym (is t p)) (λ some. absurd (omega (arith, none, mask, some)))) j;
    some = to_next i (λ j. ((t : Track O) (p : Part O) → 1 ≤ mask_of l (labels_of (part_at tracks depth j t p).labels)) → 1 ≤ count) before.some
        (λ e. absurd (let here : 1 ≤ mask_of l (labels_of q.labels) = subst (λ z. 1 ≤ mask_of l (labels_of z.labels)) (is x q) (e x q) in omega (arith, none, mask, here)));
  }

-- the same of equal lists
pub gathered_equal : {O : Type 0} (depth_of : O → ℕ) (tuples : O → IdSet) (tracks : List (Track O)) (depth l : ℕ) (ops ops' : List O) (masks masks' : List Mask) (count count' i : ℕ) → ops' ≡ ops → masks' ≡ masks → count' ≡ count → AreGathered depth_of tuples tracks depth l ops masks count i → AreGathered depth_of tuples tracks depth l ops' masks' count' i
gathered_equal depth_of tuples tracks depth l ops ops' masks masks' count count' i o m n h =
    subst (λ o. AreGathered depth_of tuples tracks depth l o masks' count' i) (sym o)
    (subst (λ m. AreGathered depth_of tuples tracks depth l ops m count' i) (sym m)
    (subst (λ n. AreGathered depth_of tuples tracks depth l ops masks n i) (sym n) h))

-- ---- the least key

-- the least key of which P holds, where P and Q say the same
pub least-found : (b : Option Id) (from : ℕ) (P Q : ℕ → Type 0) → ((k : ℕ) → P k → Q k) → ((k : ℕ) → Q k → P k) → (IsNone b → (k : ℕ) → from ≤ k → P k → ⊥) → IfSome b (λ r. P r.0) → IfSome b (λ r. from ≤ r.0) → IfSome b (λ r. (k : ℕ) → from ≤ k → k < r.0 → P k → ⊥) → IsLeastFrom from Q b
least-found None from P Q into back none there above least = record {
  there = tt;
  above = tt;
  least = λ k le q. none refl k le (back k q);
}
least-found (Some r) from P Q into back none there above least = record {
  there = into r.0 there;
  above = above;
  least = λ k le q. elim (dec_lt k r.0) as (λ _. r.0 ≤ k) [
    | yes lt ↦ absurd (least k le lt (back k q))
    | no ge ↦ omega (arith, ge)
  ];
}

-- where it holds of the number itself
pub least-itself : (r : Id) (P : ℕ → Type 0) → P r.0 → IsLeastFrom r.0 P (Some r)
least-itself r P here = record { there = here; above = omega arith; least = λ k le _. le }
