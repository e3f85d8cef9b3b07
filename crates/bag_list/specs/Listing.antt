-- What a listing is told by.
use Rattle.std.specs.Prelude.{◌≡◌, ℕ, ◌+◌, List, Option, None, Some}
use Rattle.std.specs.Ordering.{nat_cmp}
use Rattle.hypertrie_model.specs.IdSets.{IdSet}
use Rattle.trie_depth.specs.declared.id.Id.{Id}
use Rattle.query_plan.specs.declared.query.Query.{Query}
use Rattle.query_plan.specs.Labels.{column_labels}
use Rattle.bag_model.specs.Answers.{IsAnswer, chosen_rows}
use Rattle.bag_model.specs.Listings.{Listing, MayGive, Gives, IsListed}
use Rattle.bag_model.specs.Solutions.{IsUniverse, all_rows}
use Rattle.bag_list.specs.declared.track.Start.{Start}
use Rattle.bag_list.specs.Rows.{Row}
use Rattle.bag_list.specs.Tracks.{rests_of}

-- how many rows may be given once one was given
abbrev pub IsOneLess : Option ℕ → Option ℕ → Type 0
IsOneLess None None = Unit {0}
IsOneLess None (Some m) = ⊥
IsOneLess (Some n) None = ⊥
IsOneLess (Some n) (Some m) = n ≡ m + 1

-- the number of an id, where there is one
abbrev pub number_of : Option Id → Option ℕ
number_of None = None
number_of (Some k) = Some k.0

-- whatever the listing may give answers the query over what its patterns leave, whichever elements are gone through
abbrev pub GivesAnswers : {O : Type 0} → (O → IdSet) → Query → List (Start O) → Listing ℕ → Type 0
GivesAnswers tuples q starts s = (u : List ℕ) → IsUniverse nat_cmp u (rests_of tuples starts) → (rows : List Row) → MayGive s rows
    → IsAnswer q.limit q.offset (chosen_rows nat_cmp q.distinct (all_rows nat_cmp u q.labels (rests_of tuples starts) (column_labels q.columns))) rows

-- What a listing gives until it gives None it may give from its start, and each front of that begins what it may.
abbrev pub ListsWhole : Type 0
ListsWhole = (s t : Listing ℕ) (rows : List Row) → Gives s rows t → IsListed s rows t
