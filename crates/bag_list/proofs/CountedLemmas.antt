-- How many labels of a pattern are fixed, and what is left of it by that.
use Rattle.std.specs.Prelude.{◌≡◌, ℕ, zero, suc, ◌+◌, ◌*◌, ◌<◌, ◌≤◌, true, false, cond, not, nat_eq, List, [], ◌∷◌, length, map, slice_index_or, slice_set, refl}
use Rattle.std.proofs.Common.{sym, ◌∙◌, ap, arith}
use Rattle.std.proofs.lemmas.List.{get_or_default, get_or-set_other, get_or-set_same, length-set}
use Rattle.bag_list.specs.declared.track.Part.{Part}
use Rattle.bag_list.specs.declared.track.Track.{Track}
use Rattle.bag_list.specs.Labels.{labels_of, mask_of, without}
use Rattle.bag_list.specs.Tracks.{IsCounted, IsSameTo, height_at, parts_of, slot_of}
use Rattle.bag_list.proofs.Places.{to_next}

module _ {O : Type 0} where
  pub part-slot : (t : Track O) (j : ℕ) (p : Part O) → j < length (parts_of t) → slice_index_or (parts_of t) j p ≡ slot_of t (height_at t j)
  unfolding parts_of
  part-slot t j p = go t.heights.items j where
    go : (hs : List ℕ) (j : ℕ) → j < length (map (slot_of t) hs) → slice_index_or (map (slot_of t) hs) j p ≡ slot_of t (slice_index_or hs j 0)
    go [] j lt = absurd (omega (arith, lt))
    go (h ∷ hs) zero lt = refl
    go (h ∷ hs) (suc j) lt = go hs j (omega (arith, lt))

  pub n-parts : (t : Track O) → length (parts_of t) ≡ length t.heights.items
  unfolding parts_of
  n-parts t = go t.heights.items where
    go : (hs : List ℕ) → length (map (slot_of t) hs) ≡ length hs
    go [] = refl
    go (h ∷ hs) = ap suc (go hs)

-- what was read at a depth
module _ {O : Type 0} (t : Track O) (depth h : ℕ) (p : Part O) (within : depth < length (parts_of t)) (height : h ≡ slice_index_or t.heights.items depth h) (part : p ≡ slice_index_or (parts_of t) depth p) where
  pub height-here : h ≡ height_at t depth
  height-here = height ∙ get_or_default t.heights.items depth h 0 (let n = n-parts t in omega (arith, n, within))

  pub slot-here : slot_of t h ≡ p
  slot-here = ap (slot_of t) height-here ∙ sym (part-slot t depth p within) ∙ sym part

  pub few-here : IsCounted depth t → h + length (labels_of p.labels) ≤ 3
  few-here counted =
      let here = counted.few p in
      let is = height-here in
      let n = ap (λ q. length (labels_of q.labels)) part in
      omega (arith, here, is, n)

-- a pattern of which the level behind a depth has a height, and whose slots up to the height at that depth are the same
module _ {O : Type 0} (depth : ℕ) (x y : Track O) (height : ℕ) (within : depth + 1 < length (parts_of x)) (counted : IsCounted depth x) (start : y.start ≡ x.start) (heights : y.heights.items ≡ slice_set x.heights.items (depth + 1) height) (below : (h : ℕ) → h ≤ height_at x depth → slot_of y h ≡ slot_of x h) where
  height-before : (j : ℕ) → j ≤ depth → height_at y j ≡ height_at x j
  height-before j le = ap (λ hs. slice_index_or hs j 0) heights ∙ get_or-set_other x.heights.items (depth + 1) j height 0 (λ e. omega (arith, e, le))

  height-behind : height_at y (depth + 1) ≡ height
  height-behind = ap (λ hs. slice_index_or hs (depth + 1) 0) heights ∙ get_or-set_same x.heights.items (depth + 1) height 0 (let n = n-parts x in omega (arith, n, within))

  n-same : length (parts_of y) ≡ length (parts_of x)
  n-same = n-parts y ∙ ap length heights ∙ length-set x.heights.items (depth + 1) height ∙ sym (n-parts x)

  pub same-heightened : IsSameTo depth x y
  same-heightened = record {
    start = start;
    room = n-same;
    heights = height-before;
    parts = λ j p le.
        part-slot y j p (omega (arith, le, within, n-same)) ∙ ap (slot_of y) (height-before j le)
        ∙ below (height_at x j) (counted.rises j le) ∙ sym (part-slot x j p (omega (arith, le, within)));
  }

  pub part-behind : (p : Part O) → slice_index_or (parts_of y) (depth + 1) p ≡ slot_of y height
  part-behind p = part-slot y (depth + 1) p (omega (arith, within, n-same)) ∙ ap (slot_of y) height-behind

  pub counted-heightened : height_at x depth ≤ height → height + length (labels_of (slot_of y height).labels) ≤ 3 → IsCounted (depth + 1) y
  counted-heightened up few = record {
    rises = λ j le. to_next (depth + 1) (λ j. height_at y j ≤ height_at y (depth + 1))
        (λ j low. let before = height-before j (omega (arith, low)) in let rise = counted.rises j (omega (arith, low)) in let here = height-behind in omega (arith, before, rise, here, up))
        (omega arith) j (omega (arith, le));
    few = λ p. let here = height-behind in let n = ap (λ q. length (labels_of q.labels)) (part-behind p) in omega (arith, here, n, few);
  }

without-short : (l : ℕ) (ls : List ℕ) → length (without l ls) ≤ length ls
without-short l [] = omega arith
without-short l (m ∷ ls) =
    let rest = without-short l ls in
    elim (nat_eq m l) as (λ b. length (cond (not b) (m ∷ without l ls) (without l ls)) ≤ suc (length ls)) [ true ↦ omega (arith, rest) | false ↦ omega (arith, rest) ]

-- a label that is fixed leaves fewer
pub fewer-left : (l : ℕ) (ls : List ℕ) → 1 ≤ mask_of l ls → length (without l ls) < length ls
fewer-left l [] there = absurd (omega (arith, there))
fewer-left l (m ∷ ls) there =
    elim (nat_eq m l) as (λ b. 1 ≤ cond b (2 * mask_of l ls + 1) (2 * mask_of l ls) → length (cond (not b) (m ∷ without l ls) (without l ls)) < suc (length ls)) [
      | true ↦ λ _. let short = without-short l ls in omega (arith, short)
      | false ↦ λ some. let fewer = fewer-left l ls (omega (arith, some)) in omega (arith, fewer)
    ] there

-- patterns with the same slots
pub slots-same : {O : Type 0} (x y : Track O) → y.start ≡ x.start → y.one ≡ x.one → y.two ≡ x.two → y.three ≡ x.three → (h : ℕ) → slot_of y h ≡ slot_of x h
slots-same x y start one two three zero = start
slots-same x y start one two three (suc zero) = one
slots-same x y start one two three (suc (suc zero)) = two
slots-same x y start one two three (suc (suc (suc h))) = three

-- a pattern with the same parts
pub counted-same : {O : Type 0} (last : ℕ) (s t : Track O) → IsSameTo last s t → (j : ℕ) → j ≤ last → IsCounted j s → IsCounted j t
counted-same last s t alike j le is = record {
  rises = λ i low. let before = is.rises i low in let one = alike.heights i (omega (arith, low, le)) in let other = alike.heights j le in omega (arith, before, one, other);
  few = λ p. let before = is.few p in let here = alike.heights j le in let n = ap (λ q. length (labels_of q.labels)) (alike.parts j p le) in omega (arith, before, here, n);
}
