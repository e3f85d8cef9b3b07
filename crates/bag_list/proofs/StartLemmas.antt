-- Patterns before a label is fixed.
use Rattle.std.specs.Prelude.{◌≡◌, ◌≢◌, ℕ, ◌+◌, ◌<◌, List, [], ◌∷◌, ◌++◌, length, take, slice_index_or, refl, Option, None, Some, IfSome}
use Rattle.std.proofs.Common.{sym, ◌∙◌, ap, subst, arith}
use Rattle.std.proofs.lemmas.List.{map-append, take_more}
use Rattle.std.specs.List.{AllByRecursion}
use Rattle.std.specs.Ordering.{nat_cmp}
use Rattle.hypertrie_model.specs.IdSets.{IdSet}
use Rattle.hypertrie_model.specs.Sets.{empty, HasDepth}
use Rattle.bag_list.specs.declared.labels.Labels.{Labels}
use Rattle.bag_list.specs.declared.level.Level.{Level}
use Rattle.bag_list.specs.declared.track.Part.{Part}
use Rattle.bag_list.specs.declared.track.Start.{Start}
use Rattle.bag_list.specs.declared.track.Track.{Track}
use Rattle.bag_list.specs.Labels.{array_labels, labels_of}
use Rattle.bag_list.specs.Tracks.{IsCounted, IsLeft, IsPart, IsStart, IsTrack, height_at, parts_of, rest_of, rests, rests_of, slot_of, start_set}
use Rattle.bag_list.proofs.CountedLemmas.{part-slot}
use Rattle.bag_list.proofs.PartSets.{set-some, set-whole}
use Rattle.bag_list.proofs.TrackLemmas.{labels-short}

pub no-operand : {O : Type 0} (o : Option O) → ((x : O) → o ≡ Some x → ⊥) → o ≡ None
no-operand None none = refl
no-operand (Some x) none = absurd (none x refl)

module _ {O : Type 0} (depth_of : O → ℕ) (tuples : O → IdSet) (n : ℕ) (s : Start O) (o : O) (ls : Labels) (is : s.op ≡ Some o) (labels : labels_of ls ≡ array_labels s.labels) (start : IsStart depth_of tuples n s) (all-deep : (o : O) → HasDepth (depth_of o) (tuples o)) where
  p : Part O
  p = record { op = o; labels = ls }

  start-deep : depth_of o ≡ length (labels_of ls)
  start-deep = here s.op is start.deep ∙ ap length (sym labels) where
    here : (v : Option O) → v ≡ Some o → IfSome v (λ o. depth_of o ≡ length (array_labels s.labels)) → depth_of o ≡ length (array_labels s.labels)
    here None e h = absurd (let f : ⊥ = cc in f)
    here (Some x) e h = let same : x ≡ o = cc in ap depth_of (sym same) ∙ h

  start-some : tuples o ≢ empty nat_cmp
  start-some = some s.op is start.some where
    some : (v : Option O) → v ≡ Some o → IfSome v (λ o. tuples o ≢ empty nat_cmp) → tuples o ≢ empty nat_cmp
    some None e h = absurd (let f : ⊥ = cc in f)
    some (Some x) e h = let same : x ≡ o = cc in subst (λ y. tuples y ≢ empty nat_cmp) same h

  start-part : IsPart depth_of tuples p
  unfolding p
  start-part = record {
    deep = λ _. start-deep;
    some = set-some (labels_of ls) (tuples o) start-some;
  }

  -- what is left where no label is fixed
  first-part : (t : Track O) → length (parts_of t) ≡ n + 1 → ((j : ℕ) → height_at t j ≡ 0) → (q : Part O) → slice_index_or (parts_of t) 0 q ≡ t.start
  first-part t room heights q = part-slot t 0 q (omega (arith, room)) ∙ ap (slot_of t) (heights 0)

  pub start-track : (t : Track O) → t.start ≡ record { op = o; labels = ls } → length (parts_of t) ≡ n + 1 → ((j : ℕ) → height_at t j ≡ 0) → (fs : List Level) → IsTrack depth_of tuples n 1 fs t
  unfolding p start-part
  start-track t at_start room heights fs = record {
    room = room;
    counted = λ j low _. let first : 0 ≡ j = omega (arith, low) in subst (λ j. IsCounted j t) first (record {
      rises = λ i le. let low = heights i in omega (arith, low);
      few = λ q. let low = heights 0 in let short = labels-short t.start.labels in let n = ap (λ x. length (labels_of x.labels)) (first-part t room heights q) in omega (arith, low, short, n);
    });
    below = subst (AllByRecursion (λ l. l < n)) (sym (ap (λ q. labels_of q.labels) at_start ∙ labels)) start.below;
    left = λ j q low _. let first : 0 ≡ j = omega (arith, low) in
        subst (λ j. IsLeft depth_of tuples (take j fs) t.start (slice_index_or (parts_of t) j q)) first
        (subst (λ x. IsLeft depth_of tuples [] t.start x) (sym (first-part t room heights q ∙ at_start))
        (subst (λ x. IsLeft depth_of tuples [] x (record { op = o; labels = ls })) (sym at_start)
        (record { part = start-part; labels = refl; image = λ a _. set-whole a (labels_of ls) (tuples o) (subst (λ d. HasDepth d (tuples o)) start-deep (all-deep o)) start-some })));
  }

  rest-same : (t : Track O) → t.start ≡ record { op = o; labels = ls } → rest_of tuples t.start ≡ record { tuples = start_set tuples s.op; labels = array_labels s.labels }
  rest-same t at_start =
      ap (rest_of tuples) at_start ∙ (λ j. record { tuples = start_set tuples (sym is j); labels = labels j })

  -- one pattern more
  pub started_more : (starts : List (Start O)) (i : ℕ) (tracks : List (Track O)) (t : Track O) → i < length starts → s ≡ slice_index_or starts i s → t.start ≡ record { op = o; labels = ls } → rests tuples tracks ≡ rests_of tuples (take i starts) → rests tuples (tracks ++ t ∷ []) ≡ rests_of tuples (take (i + 1) starts)
  started_more starts i tracks t lt at at_start before =
      map-append (λ t. rest_of tuples t.start) tracks (t ∷ [])
      ∙ (λ j. before j ++ rest-same t at_start j ∷ [])
      ∙ sym (ap (rests_of tuples) (take_more starts i s lt ∙ ap (λ x. take i starts ++ x ∷ []) (sym at)) ∙ map-append _ (take i starts) (s ∷ []))
