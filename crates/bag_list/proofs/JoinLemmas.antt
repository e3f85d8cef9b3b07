-- The operands that have a label.
use Rattle.std.specs.Prelude.{◌≡◌, ◌≢◌, ℕ, Bool, true, ◌+◌, ◌<◌, ◌≤◌, List, length, take, slice_index_or, slice_set, Option, Some, None}
use Rattle.std.proofs.Common.{sym, ◌∙◌, ap, subst, arith}
use Rattle.std.proofs.lemmas.List.{get_or-set_same, get_or-set_other}
use native.Mathlib.Decide.{ℕ_discrete}
use Rattle.hypertrie_model.specs.IdSets.{IdSet}
use Rattle.key_join.specs.Common.{AllAdmit, AllFit}
use Rattle.key_join.specs.Least.{IsLeastFrom}
use Rattle.trie_depth.specs.declared.id.Id.{Id}
use Rattle.trie_depth.specs.declared.mask.Mask.{Mask}
use Rattle.bag_list.specs.declared.join.Join.{Join}
use Rattle.bag_list.specs.declared.level.Level.{Level}
use Rattle.bag_list.specs.declared.operands.Operands.{Operands}
use Rattle.bag_list.specs.declared.track.Track.{Track}
use Rattle.bag_list.specs.Joins.{AllJoined, IsJoin}
use Rattle.bag_list.specs.Operands.{AreJoined, AreReady, AreRoom}
use Rattle.bag_list.specs.Search.{AreKept}
use Rattle.bag_list.specs.Tracks.{AdmitsAt, AllAdmitAt, AreSameTo}
use Rattle.bag_list.proofs.Places.{to_next}
use Rattle.bag_list.proofs.ThroughLemmas.{parts-same, same-before}

module _ {O : Type 0} (depth_of : O → ℕ) (tuples : O → IdSet) (tracks : List (Track O)) (depth l : ℕ) (j : Join O) where
  -- the lists that were gathered are those of the join
  pub join-gathered : (ops : List O) (masks : List Mask) → j.ops.items ≡ ops → j.masks.items ≡ masks → j.count ≤ length ops → j.count ≤ length masks → AllFit depth_of (take j.count ops) (take j.count masks) → ((k : ℕ) → AllAdmitAt tuples tracks depth l k → AllAdmit tuples (take j.count ops) (take j.count masks) k) → ((k : ℕ) → AllAdmit tuples (take j.count ops) (take j.count masks) k → AllAdmitAt tuples tracks depth l k) → IsJoin depth_of tuples tracks depth l j
  join-gathered ops masks o m n_ops n_masks fit asked whole = record {
    joinable = record {
      ops = subst (λ xs. j.count ≤ length xs) (sym o) n_ops;
      masks = subst (λ xs. j.count ≤ length xs) (sym m) n_masks;
      fit = subst (λ xs. AllFit depth_of (take j.count xs) (take j.count j.masks.items)) (sym o) (subst (λ ys. AllFit depth_of (take j.count ops) (take j.count ys)) (sym m) fit);
    };
    asked = λ k h. subst (λ xs. AllAdmit tuples (take j.count xs) (take j.count j.masks.items) k) (sym o) (subst (λ ys. AllAdmit tuples (take j.count ops) (take j.count ys) k) (sym m) (asked k h));
    whole = λ k h. whole k (subst (λ xs. AllAdmit tuples (take j.count xs) (take j.count masks) k) o (subst (λ ys. AllAdmit tuples (take j.count j.ops.items) (take j.count ys) k) m h));
  }

  -- the least key of the operands is that of the patterns
  pub join-least : IsJoin depth_of tuples tracks depth l j → (from : ℕ) (b : Option Id) → IsLeastFrom from (AllJoined tuples j) b → IsLeastFrom from (AllAdmitAt tuples tracks depth l) b
  join-least join from None least = record { there = tt; above = tt; least = λ k le h. least.least k le (join.asked k h) }
  join-least join from (Some r) least = record { there = join.whole r.0 least.there; above = least.above; least = λ k le h. least.least k le (join.asked k h) }

-- which parts are behind makes no difference
pub join-same : {O : Type 0} (depth_of : O → ℕ) (tuples : O → IdSet) (old now : List (Track O)) (depth l : ℕ) (j : Join O) → AreSameTo depth old now → IsJoin depth_of tuples old depth l j → IsJoin depth_of tuples now depth l j
join-same depth_of tuples old now depth l j same join = record {
  joinable = join.joinable;
  asked = λ k h. join.asked k (parts-back k h);
  whole = λ k h. parts-same old now depth same.number same.each (λ p. AdmitsAt tuples l p k) (join.whole k h);
} where
  parts-back : (k : ℕ) → AllAdmitAt tuples now depth l k → AllAdmitAt tuples old depth l k
  parts-back k h i t p lt = subst (λ p. AdmitsAt tuples l p k) ((same.each i t lt).parts depth p (omega arith)) (h i t p (let n = same.number in omega (arith, n, lt)))

module _ {O : Type 0} (depth_of : O → ℕ) (tuples : O → IdSet) (levels : List Level) (depth : ℕ) (s t : Operands O) (joined : AreJoined depth_of tuples levels depth s) where
  -- where the patterns are the same up to the last level
  pub joined-same : (last d : ℕ) → AreSameTo last s.tracks.items t.tracks.items → t.joins ≡ s.joins → d ≤ depth → d ≤ last + 1 → AreJoined depth_of tuples levels d t
  joined-same last d same joins le le_last i f j lt =
      subst (λ js. IsJoin depth_of tuples t.tracks.items i (slice_index_or levels i f).label (slice_index_or js.items i j)) (sym joins)
      (join-same depth_of tuples s.tracks.items t.tracks.items i (slice_index_or levels i f).label (slice_index_or s.joins.items i j)
      (same-before last i s.tracks.items t.tracks.items (omega (arith, lt, le_last)) same) (joined i f j (omega (arith, lt, le))))

  -- other levels with the same labels
  pub joined-levels : (now : List Level) → ((i : ℕ) (f : Level) → i < depth → (slice_index_or now i f).label ≡ (slice_index_or levels i f).label) → AreJoined depth_of tuples now depth s
  joined-levels now same i f j lt = subst (λ l. IsJoin depth_of tuples s.tracks.items i l (slice_index_or s.joins.items i j)) (sym (same i f lt)) (joined i f j lt)

  -- one level more
  pub joined-more : (now : List Level) → t.tracks ≡ s.tracks → ((i : ℕ) (f : Level) → i < depth → slice_index_or now i f ≡ slice_index_or levels i f) → ((i : ℕ) (j : Join O) → i ≢ depth → slice_index_or t.joins.items i j ≡ slice_index_or s.joins.items i j)
      → ((f : Level) (j : Join O) → IsJoin depth_of tuples s.tracks.items depth (slice_index_or now depth f).label (slice_index_or t.joins.items depth j)) → AreJoined depth_of tuples now (depth + 1) t
  joined-more now tracks before others here i f j = to_next depth (λ i. IsJoin depth_of tuples t.tracks.items i (slice_index_or now i f).label (slice_index_or t.joins.items i j))
      (λ i lt.
      subst (λ ts. IsJoin depth_of tuples ts.items i (slice_index_or now i f).label (slice_index_or t.joins.items i j)) (sym tracks)
      (subst (λ g. IsJoin depth_of tuples s.tracks.items i g.label (slice_index_or t.joins.items i j)) (sym (before i f lt))
      (subst (IsJoin depth_of tuples s.tracks.items i (slice_index_or levels i f).label) (sym (others i j (λ e. omega (arith, e, lt)))) (joined i f j lt))))
      (subst (λ ts. IsJoin depth_of tuples ts.items depth (slice_index_or now depth f).label (slice_index_or t.joins.items depth j)) (sym tracks) (here f j)) i

-- a level with the label that stood there
pub label-set : (levels : List Level) (last : ℕ) (g : Level) → last < length levels → ((f : Level) → g.label ≡ (slice_index_or levels last f).label) → (i : ℕ) (f : Level) → (slice_index_or (slice_set levels last g) i f).label ≡ (slice_index_or levels i f).label
label-set levels last g within label i f = elim (ℕ_discrete i last) as (λ _. (slice_index_or (slice_set levels last g) i f).label ≡ (slice_index_or levels i f).label) [
  | yes is ↦ subst (λ k. (slice_index_or (slice_set levels last g) k f).label ≡ (slice_index_or levels k f).label) (sym is) (ap (λ h. h.label) (get_or-set_same levels last g f within) ∙ label f)
  | no out ↦ ap (λ h. h.label) (get_or-set_other levels last i g f out)
]

pub room-of : {O : Type 0} (n : ℕ) (s : Operands O) → length s.joins.items ≡ n → AreRoom (length s.joins.items) s → AreRoom n s
room-of n s number room = subst (λ m. AreRoom m s) number room

-- where a label is left, one more can be fixed
pub ready-to-open : {O : Type 0} (depth_of : O → ℕ) (tuples : O → IdSet) (telling : ℕ → Bool) (levels : List Level) (depth told : ℕ) (s : Operands O) (values : List Id) → AreKept depth_of tuples telling levels depth true told s.tracks.items values → depth < length levels → length levels ≤ 96 → AreRoom (length levels) s → AreReady depth_of tuples depth s
ready-to-open depth_of tuples telling levels depth told s values kept deeper few room = record {
  low = omega (arith, deeper, few);
  within = let n = room.number in omega (arith, n, deeper);
  room = subst (λ m. AreRoom m s) (sym room.number) room;
  roomy = λ i t lt. let n = (kept.patterns i t lt).room in omega (arith, n, deeper);
  counted = λ i t lt. (kept.patterns i t lt).counted depth (omega arith) (omega (arith, deeper));
  parts = λ i t p lt. ((kept.patterns i t lt).left depth p (omega arith) (omega (arith, deeper))).part;
}
