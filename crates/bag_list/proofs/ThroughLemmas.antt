-- The keys that solutions of what is left have at labels.
use Rattle.std.specs.Prelude.{◌≡◌, ℕ, ◌+◌, ◌^◌, ◌<◌, ◌≤◌, true, false, List, [], ◌∷◌, length, zero, suc, slice_index_or, refl, Option, None, Some, IfSome, MatchOption, nat_lt, cond}
use Rattle.std.proofs.Common.{sym, ◌∙◌, subst, arith}
use Rattle.std.proofs.lemmas.Bool.Decides.{nat_tests}
use Rattle.std.proofs.lemmas.List.{get_or_default}
use Rattle.std.specs.List.{AllByRecursion}
use native.Mathlib.Decide.{dec_lt}
use Rattle.hypertrie_model.specs.IdSets.{IdSet}
use Rattle.hypertrie_model.specs.Sets.{has, HasDepth}
use Rattle.hypertrie_model.specs.Slices.{at}
use Rattle.trie_depth.specs.declared.id.Id.{Id}
use Rattle.key_join.specs.Least.{IsLeastFrom}
use Rattle.bag_model.specs.Solutions.{image}
use Rattle.bag_list.specs.declared.level.Level.{Level}
use Rattle.bag_list.specs.declared.operands.Operands.{Operands}
use Rattle.bag_list.specs.declared.track.Part.{Part}
use Rattle.bag_list.specs.declared.track.Track.{Track}
use Rattle.bag_list.specs.Labels.{labels_of}
use Rattle.bag_list.specs.Levels.{AreBelow, lesser_of}
use Rattle.bag_list.specs.Joins.{AllHaveRoom, HasRoom}
use Rattle.bag_list.specs.Operands.{AreReady, IsKeptTo}
use Rattle.bag_list.specs.Tracks.{AllAdmitAt, AllHold, AreParts, AreSameTo, HasSolutionAt, IsFixed, IsPart, IsSameTo, part_at, part_set, parts_of}
use Rattle.bag_list.proofs.Images.{image-admits, is_at-at}
use Rattle.bag_list.proofs.PartSets.{part-admits}
use Rattle.bag_list.proofs.MemberLemmas.{at-there}
use Rattle.bag_list.proofs.CountedLemmas.{counted-same}
use Rattle.bag_list.proofs.TrackLemmas.{part-deep}

-- b is there, and not above k
abbrev pub IsReached : Option Id → ℕ → Type 0
IsReached b k = MatchOption b ⊥ (λ r. r.0 ≤ k)

pub at-small : (l k n : ℕ) (a : List ℕ) → AllByRecursion (λ x. x < n) a → at l a ≡ Some k → k < n
at-small l k n [] all e = absurd (let f : ⊥ = cc in f)
at-small zero k n (x ∷ a) all e = let is : x ≡ k = cc in subst (λ y. y < n) is all.0
at-small (suc l) k n (x ∷ a) all e = at-small l k n a all.1 e

-- ---- the lesser of two keys

pub lesser-first : (a b : Option Id) (k : ℕ) → IsReached a k → IsReached (lesser_of a b) k
lesser-first None b k le = absurd le
lesser-first (Some x) None k le = le
lesser-first (Some x) (Some y) k le = elim (dec_lt y.0 x.0) as (λ _. IsReached (lesser_of (Some x) (Some y)) k) [
  | yes lt ↦ subst (λ t. IsReached (cond t (Some y) (Some x)) k) (let t : true ≡ nat_lt y.0 x.0 = grind (arith, nat_tests) in t) (let z : y.0 ≤ k = omega (arith, lt, le) in z)
  | no ge ↦ subst (λ t. IsReached (cond t (Some y) (Some x)) k) (let t : false ≡ nat_lt y.0 x.0 = grind (arith, nat_tests) in t) le
]

pub lesser-second : (a b : Option Id) (k : ℕ) → IsReached b k → IsReached (lesser_of a b) k
lesser-second None b k le = le
lesser-second (Some x) None k le = absurd le
lesser-second (Some x) (Some y) k le = elim (dec_lt y.0 x.0) as (λ _. IsReached (lesser_of (Some x) (Some y)) k) [
  | yes lt ↦ subst (λ t. IsReached (cond t (Some y) (Some x)) k) (let t : true ≡ nat_lt y.0 x.0 = grind (arith, nat_tests) in t) le
  | no ge ↦ subst (λ t. IsReached (cond t (Some y) (Some x)) k) (let t : false ≡ nat_lt y.0 x.0 = grind (arith, nat_tests) in t) (let z : x.0 ≤ k = omega (arith, ge, le) in z)
]

pub lesser-from : (a b : Option Id) (k : ℕ) → IfSome a (λ r. k ≤ r.0) → IfSome b (λ r. k ≤ r.0) → IfSome (lesser_of a b) (λ r. k ≤ r.0)
lesser-from None b k first second = second
lesser-from (Some x) None k first second = first
lesser-from (Some x) (Some y) k first second = elim (nat_lt y.0 x.0) as (λ t. IfSome (cond t (Some y) (Some x)) (λ r. k ≤ r.0)) [ true ↦ second | false ↦ first ]

-- ---- what a solution of what is left has

module _ {O : Type 0} (depth_of : O → ℕ) (tuples : O → IdSet) (deep : (o : O) → HasDepth (depth_of o) (tuples o)) where
  -- a key that all patterns admit
  pub holding-admits : (tracks : List (Track O)) (depth : ℕ) (a : List ℕ) (l q : ℕ) → ((i : ℕ) (t : Track O) (p : Part O) → i < length tracks → IsPart depth_of tuples (part_at tracks depth i t p)) → AllHold tuples tracks depth a → at l a ≡ Some q → AllAdmitAt tuples tracks depth l q
  holding-admits tracks depth a l q parts holds at_l i t p lt some =
      let x = part_at tracks depth i t p in
      part-admits tuples l q x (image-admits l q a at_l (part_set tuples x) (labels_of x.labels) (part-deep depth_of tuples deep x (parts i t p lt)) (holds i t p lt)) some

  -- the same once a label is fixed at the key that it has
  pub holding-fixed : (old now : List (Track O)) (depth l k : ℕ) (a : List ℕ) → length now ≡ length old → ((i : ℕ) (t : Track O) (p : Part O) → i < length old → IsFixed depth_of tuples l k (part_at old depth i t p) (part_at now (depth + 1) i t p)) → at l a ≡ Some k → AllHold tuples old depth a → AllHold tuples now (depth + 1) a
  holding-fixed old now depth l k a same fixed here holds i t p lt =
      let lt_old : i < length old = omega (arith, lt, same) in
      (fixed i t p lt_old).image a (is_at-at l k a here) ∙ holds i t p lt_old

module _ {O : Type 0} (old now : List (Track O)) (depth : ℕ) (n_now : length now ≡ length old) (same : (i : ℕ) (t : Track O) → i < length old → IsSameTo depth (slice_index_or old i t) (slice_index_or now i t)) where
  -- the patterns are as they were
  pub part-same : (i : ℕ) (t : Track O) (p : Part O) → i < length old → part_at now depth i t p ≡ part_at old depth i t p
  part-same i t p lt = (same i t lt).parts depth p (omega arith)

  pub parts-same : (P : Part O → Type 0) → ((i : ℕ) (t : Track O) (p : Part O) → i < length old → P (part_at old depth i t p)) → (i : ℕ) (t : Track O) (p : Part O) → i < length now → P (part_at now depth i t p)
  parts-same P each i t p lt = let lt_old : i < length old = omega (arith, lt, n_now) in subst P (sym (part-same i t p lt_old)) (each i t p lt_old)

  pub room-same : (d : ℕ) → ((i : ℕ) (t : Track O) → i < length old → d < length (parts_of (slice_index_or old i t))) → (i : ℕ) (t : Track O) → i < length now → d < length (parts_of (slice_index_or now i t))
  room-same d room i t lt =
      let lt_old : i < length old = omega (arith, lt, n_now) in
      let alike = (same i t lt_old).room in
      let before = room i t lt_old in
      omega (arith, alike, before)

  pub solution-same : (tuples : O → IdSet) (n l k : ℕ) → HasSolutionAt tuples n old depth l k → HasSolutionAt tuples n now depth l k
  solution-same tuples n l k s = record {
    solution = s.solution;
    long = s.long;
    ids = s.ids;
    key = s.key;
    holds = parts-same (λ p. has (part_set tuples p) (image s.solution (labels_of p.labels)) ≡ true) s.holds;
  }

pub same-twice : {O : Type 0} (depth : ℕ) (x y z : Track O) → IsSameTo depth x y → IsSameTo depth y z → IsSameTo depth x z
same-twice depth x y z first second = record {
  start = second.start ∙ first.start;
  room = second.room ∙ first.room;
  heights = λ j le. second.heights j le ∙ first.heights j le;
  parts = λ j p le. second.parts j p le ∙ first.parts j p le;
}

pub sames-twice : {O : Type 0} (depth : ℕ) (x y z : List (Track O)) → AreSameTo depth x y → AreSameTo depth y z → AreSameTo depth x z
sames-twice depth x y z first second = record {
  number = second.number ∙ first.number;
  each = λ i t lt. same-twice depth _ _ _ (first.each i t lt) (second.each i t (let n = first.number in omega (arith, lt, n)));
}

pub same-before : {O : Type 0} (depth d : ℕ) (x y : List (Track O)) → d ≤ depth → AreSameTo depth x y → AreSameTo d x y
same-before depth d x y le same = record {
  number = same.number;
  each = λ i t lt. let s = same.each i t lt in record { start = s.start; room = s.room; heights = λ j low. s.heights j (omega (arith, low, le)); parts = λ j p low. s.parts j p (omega (arith, low, le)) };
}

pub same-itself : {O : Type 0} (depth : ℕ) (tracks : List (Track O)) → AreSameTo depth tracks tracks
same-itself depth tracks = record { number = refl; each = λ i t lt. record { start = refl; room = refl; heights = λ _ _. refl; parts = λ _ _ _. refl } }

-- what can be entered, with other patterns that have the same parts
pub ready-same : {O : Type 0} (depth_of : O → ℕ) (tuples : O → IdSet) (depth : ℕ) (s t : Operands O) → AreReady depth_of tuples depth s → AreSameTo depth s.tracks.items t.tracks.items → t.joins ≡ s.joins → t.other ≡ s.other → t.behind ≡ s.behind → AreReady depth_of tuples depth t
ready-same depth_of tuples depth s t ready same joins other behind = record {
  low = ready.low;
  within = subst (λ js. depth < length js.items) (sym joins) ready.within;
  room = record {
    number = refl;
    joins = subst (λ js. AllHaveRoom (length t.tracks.items) (length js.items) js.items) (sym joins) (subst (λ n. AllHaveRoom n (length s.joins.items) s.joins.items) (sym same.number) ready.room.joins);
    other = subst (HasRoom (length t.tracks.items)) (sym other) (subst (λ n. HasRoom n s.other) (sym same.number) ready.room.other);
    behind = subst (HasRoom (length t.tracks.items)) (sym behind) (subst (λ n. HasRoom n s.behind) (sym same.number) ready.room.behind);
  };
  roomy = room-same s.tracks.items t.tracks.items depth same.number same.each (depth + 1) ready.roomy;
  counted = λ i x lt. let lt_old : i < length s.tracks.items = let n = same.number in omega (arith, lt, n) in counted-same depth _ _ (same.each i x lt_old) depth (omega arith) (ready.counted i x lt_old);
  parts = parts-same s.tracks.items t.tracks.items depth same.number same.each (IsPart depth_of tuples) ready.parts;
}

pub kept-twice : {O : Type 0} (depth_of : O → ℕ) (tuples : O → IdSet) (depth : ℕ) (x y z : Operands O) → AreSameTo depth x.tracks.items y.tracks.items → y.joins ≡ x.joins → IsKeptTo depth_of tuples depth y z → IsKeptTo depth_of tuples depth x z
kept-twice depth_of tuples depth x y z same joins kept = record { same = sames-twice depth _ _ _ same kept.same; joins = kept.joins ∙ joins; ready = kept.ready }

-- ---- the keys of another label

-- a solution that has at the label m a key below `start` has at the label l no key below `best`
pub record AreThrough {O : Type 0} (tuples : O → IdSet) (old now : List (Track O)) (depth l m from start : ℕ) (best : Option Id) : Type 0 where
  pub same : AreSameTo depth old now
  pub above : IfSome best (λ r. from ≤ r.0)
  pub reached : (n k x : ℕ) (s : HasSolutionAt tuples n old depth l k) → at m s.solution ≡ Some x → x < start → from ≤ k → IsReached best k

module _ {O : Type 0} (depth_of : O → ℕ) (tuples : O → IdSet) (deep : (o : O) → HasDepth (depth_of o) (tuples o)) (old now : List (Track O)) (depth l m from start : ℕ) (best : Option Id) (parts : AreParts depth_of tuples depth old) (before : AreThrough tuples old now depth l m from start best) where
  -- the key that a solution has at the label m is admitted
  through-admits : (n k x : ℕ) (s : HasSolutionAt tuples n old depth l k) → at m s.solution ≡ Some x → AllAdmitAt tuples now depth m x
  unfolding solution-same
  through-admits n k x s here =
      holding-admits depth_of tuples deep now depth s.solution m x (parts-same old now depth before.same.number before.same.each (IsPart depth_of tuples) parts)
      (solution-same old now depth before.same.number before.same.each tuples n l k s).holds here

  never : (b : Option Id) (k : ℕ) → ((key : Id) → b ≡ Some key → ⊥) → IsReached b k → ⊥
  never None k none le = le
  never (Some key) k none le = none key refl

  -- no key is left
  pub through-ended : (found : Option Id) → IsLeastFrom start (AllAdmitAt tuples now depth m) found → ((key : Id) → found ≡ Some key → ⊥) → (n k : ℕ) → m < n → HasSolutionAt tuples n old depth l k → from ≤ k → IsReached best k
  through-ended found least none n k lt s le =
      let there = at-there m s.solution (subst (λ i. m < i) (sym s.long) lt) in
      elim (dec_lt there.0 start) as (λ _. IsReached best k) [
        | yes low ↦ before.reached n k there.0 s there.1 low le
        | no high ↦ absurd (never found there.0 none (least.least there.0 (omega (arith, high)) (through-admits n k there.0 s there.1)))
      ]

  -- one more
  pub through-more : (key next : ℕ) (found : Option Id) (after : List (Track O)) → next ≡ key + 1 → ((x : ℕ) → start ≤ x → AllAdmitAt tuples now depth m x → key ≤ x)
      → AreSameTo depth now after → IfSome found (λ r. from ≤ r.0)
      → ((n k : ℕ) (s : HasSolutionAt tuples n now depth l k) → at m s.solution ≡ Some key → from ≤ k → IsReached found k)
      → AreThrough tuples old after depth l m from next (lesser_of best found)
  unfolding solution-same
  through-more key next found after is least same above reached = record {
    same = sames-twice depth old now after before.same same;
    above = lesser-from best found from before.above above;
    reached = λ n k x s here low le. elim (dec_lt x start) as (λ _. IsReached (lesser_of best found) k) [
      | yes early ↦ lesser-first best found k (before.reached n k x s here early le)
      | no late ↦
          let not_below = least x (omega (arith, late)) (through-admits n k x s here) in
          let is : x ≡ key = omega (arith, not_below, low, is) in
          lesser-second best found k (reached n k (solution-same old now depth before.same.number before.same.each tuples n l k s) (subst (λ y. at m s.solution ≡ Some y) is here) le)
    ];
  }

-- every key was gone through
pub through-all : {O : Type 0} (tuples : O → IdSet) (old now : List (Track O)) (depth l m from start : ℕ) (best : Option Id) → AreThrough tuples old now depth l m from start best → start ≡ 2 ^ 32 → (n k : ℕ) → m < n → HasSolutionAt tuples n old depth l k → from ≤ k → IsReached best k
through-all tuples old now depth l m from start best all end n k lt s le =
    let there = at-there m s.solution (subst (λ i. m < i) (sym s.long) lt) in
    let small = at-small m there.0 (2 ^ 32) s.solution s.ids there.1 in
    all.reached n k there.0 s there.1 (omega (arith, end, small)) le

-- ---- one label after another

-- no solution has at the label of the level a key from k on that is below `next`
pub record IsRaised {O : Type 0} (tuples : O → IdSet) (levels : List Level) (old now : List (Track O)) (depth k next : ℕ) : Type 0 where
  pub same : AreSameTo depth old now
  pub above : k ≤ next
  pub least : (n q : ℕ) (f : Level) → AreBelow n levels → HasSolutionAt tuples n old depth (slice_index_or levels depth f).label q → k ≤ q → next ≤ q

-- which default is asked for makes no difference
pub level-at : (levels : List Level) (depth : ℕ) (f : Level) → f ≡ slice_index_or levels depth f → depth < length levels → (g : Level) → f ≡ slice_index_or levels depth g
level-at levels depth f is within g = is ∙ get_or_default levels depth f g within

module _ {O : Type 0} (depth_of : O → ℕ) (tuples : O → IdSet) (deep : (o : O) → HasDepth (depth_of o) (tuples o)) (levels : List Level) (tracks : List (Track O)) (depth : ℕ) (parts : AreParts depth_of tuples depth tracks) (f : Level) (is : f ≡ slice_index_or levels depth f) (within : depth < length levels) (from : ℕ) (found : Option Id) (least : IsLeastFrom from (AllAdmitAt tuples tracks depth f.label) found) where
  -- the next key of the label's own patterns
  pub next-reached : (n k : ℕ) (g : Level) → HasSolutionAt tuples n tracks depth (slice_index_or levels depth g).label k → from ≤ k → IsReached found k
  next-reached n k g s le =
      let here = subst (λ h. HasSolutionAt tuples n tracks depth h.label k) (sym (level-at levels depth f is within g)) s in
      least.least k le (holding-admits depth_of tuples deep tracks depth here.solution f.label k parts here.holds here.key)

  -- it is one that they admit
  pub next-admitted : (g : Level) → IfSome found (λ r. AllAdmitAt tuples tracks depth (slice_index_or levels depth g).label r.0)
  next-admitted g = subst (λ h. IfSome found (λ r. AllAdmitAt tuples tracks depth h.label r.0)) (level-at levels depth f is within g) least.there

module _ {O : Type 0} (tuples : O → IdSet) (levels : List Level) (old now : List (Track O)) (depth from next : ℕ) (before : IsRaised tuples levels old now depth from next) (l m : ℕ) (at_label : (g : Level) → l ≡ (slice_index_or levels depth g).label) (listed : (n : ℕ) → AreBelow n levels → m < n) (found : Option Id) (least : (n k : ℕ) → m < n → HasSolutionAt tuples n now depth l k → next ≤ k → IsReached found k) where
  -- once it was raised through one label more
  pub raised-reached : (n k : ℕ) (g : Level) → AreBelow n levels → HasSolutionAt tuples n old depth (slice_index_or levels depth g).label k → from ≤ k → IsReached found k
  raised-reached n k g below s le =
      least n k (listed n below) (solution-same old now depth before.same.number before.same.each tuples n l k (subst (λ i. HasSolutionAt tuples n old depth i k) (sym (at_label g)) s)) (before.least n k g below s le)

  pub raised-more : (key : Id) (after : List (Track O)) → found ≡ Some key → next ≤ key.0 → AreSameTo depth now after → IsRaised tuples levels old after depth from key.0
  raised-more key after e up same = record {
    same = sames-twice depth old now after before.same same;
    above = let low = before.above in omega (arith, low, up);
    least = λ n k g below s le. subst (λ b. IsReached b k) e (raised-reached n k g below s le);
  }
