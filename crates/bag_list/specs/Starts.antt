-- The patterns of a query after their constants were fixed.
use Rattle.std.specs.Prelude.{◌≡◌, ◌≢◌, ℕ, ◌<◌, ◌++◌, List, [], ◌∷◌, length, map, take, slice_index_or, Option, None, Some, IfSome}
use Rattle.std.specs.Ordering.{nat_cmp}
use Rattle.hypertrie_model.specs.IdSets.{IdSet}
use Rattle.hypertrie_model.specs.Sets.{empty}
use Rattle.query_plan.specs.declared.patterns.Pattern.{Pattern}
use Rattle.query_plan.specs.Labels.{pattern_labels}
use Rattle.bag_list.specs.declared.track.Start.{Start}

-- at most three labels as an array of three places, with none after them
abbrev pub three_places : List ℕ → List (Option ℕ)
three_places ls = take 3 (map Some ls ++ (None ∷ None ∷ None ∷ []))

module _ {O : Type 0} (depth_of : O → ℕ) (tuples : O → IdSet) where
  -- the labels are those of the pattern's places in order; the operand, if it is there, has as many positions, and some tuple
  pub record IsStartOf (s : Start O) (p : Pattern) : Type 0 where
    pub labels : s.labels ≡ three_places (pattern_labels p)
    pub deep : IfSome s.op (λ o. depth_of o ≡ length (pattern_labels p))
    pub some : IfSome s.op (λ o. tuples o ≢ empty nat_cmp)

  -- there is one start for each pattern, in order
  pub record AreStarts (starts : List (Start O)) (patterns : List Pattern) : Type 0 where
    pub number : length starts ≡ length patterns
    pub each : (i : ℕ) (s : Start O) (p : Pattern) → i < length patterns → IsStartOf (slice_index_or starts i s) (slice_index_or patterns i p)
