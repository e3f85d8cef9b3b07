-- What is left of the patterns of a query, as slices of a graph under Ids.
use Rattle.std.specs.Prelude.{◌≡◌, ◌≢◌, ℕ, ◌-◌, ◌^◌, ◌<◌, ◌≤◌, List, length, Option, IfSome}
use Rattle.std.specs.List.{AllZip}
use Rattle.std.specs.Ordering.{nat_cmp}
use Rattle.hypertrie_model.specs.Sets.{TupleSet, empty}
use Rattle.rdf_model.specs.Graph.{Graph, term_cmp}
use Rattle.tuple_image.specs.TupleImages.{tuple_image, IsOver}
use Rattle.term_dict.specs.Dict.{Terms}
use Rattle.trie_view.specs.declared.sub.Sub.{Sub}
use Rattle.trie_view.specs.Subs.{sub_depth, sub_set}
use Rattle.graph_image.specs.Images.{term_at}
use Rattle.graph_view.specs.Read.{has_id, set_in}
use Rattle.graph_view.specs.declared.graph.GraphView.{GraphView}
use Rattle.graph_view.specs.Views.{graph_in}
use Rattle.query_plan.specs.declared.patterns.Pattern.{Pattern}
use Rattle.query_plan.specs.declared.patterns.Place.{Place}
use Rattle.query_plan.specs.declared.patterns.Place.TheVariants.{Label, Const}
use Rattle.query_plan.specs.Labels.{pattern_labels}
use Rattle.query_plan.specs.Seen.{place_seen, pattern_seen}
use Rattle.bag_list.specs.declared.track.Start.{Start}
use Rattle.bag_list.specs.Starts.{three_places}
use Rattle.solution_model.specs.Rests.{slice_by, slice_of, rest_of}

-- the operand, if there is one, has the tuples of T, which are of so many terms; and where there is none, T has no tuple
pub record IsPart (terms : Terms) (T : TupleSet term_cmp) (depth : ℕ) (op : Option Sub) : Type 0 where
  pub read : tuple_image term_cmp (term_at terms) (set_in sub_set op) ≡ T
  pub known : IsOver (has_id terms) (set_in sub_set op)
  pub deep : IfSome op (λ s. sub_depth s ≡ depth)
  pub some : IfSome op (λ s. sub_set s ≢ empty nat_cmp)

-- of so many positions, those that are left once a place's constant is fixed
abbrev pub n_left : Place → ℕ → ℕ
n_left (Label l) d = d
n_left (Const t) d = d - 1

-- an operand and what is left of it once the constant of a place is fixed at the position that a mask names
abbrev pub FixesPlace : Terms → Place → ℕ → Option Sub → Option Sub → Type 0
FixesPlace terms place mask op left = (T : TupleSet term_cmp) (d i : ℕ) → mask ≡ 2 ^ i → i < d → d ≤ 3 → IsPart terms T d op
    → IsPart terms (slice_by (place_seen place) i T) (n_left place d) left

-- an operand of triples and what is left of it once the pattern's constants are fixed
abbrev pub FixesPattern : Terms → Pattern → Option Sub → Option Sub → Type 0
FixesPattern terms p op left = (T : TupleSet term_cmp) → IsPart terms T 3 op → IsPart terms (slice_of (pattern_seen p) T) (length (pattern_labels p)) left

-- the start has what the pattern's constants leave of the graph, and the pattern's labels
pub record IsStartOf (terms : Terms) (G : Graph) (s : Start Sub) (p : Pattern) : Type 0 where
  pub labels : s.labels ≡ three_places (pattern_labels p)
  pub part : IsPart terms (rest_of G (pattern_seen p)).tuples (length (pattern_labels p)) s.op

-- there is one start for each pattern, in order
abbrev pub AreStartsOf : Terms → Graph → List Pattern → List (Start Sub) → Type 0
AreStartsOf terms G patterns starts = AllZip (λ p s. IsStartOf terms G s p) patterns starts

-- the same of the graph of a view
abbrev pub AreStartsIn : GraphView → List Pattern → List (Start Sub) → Type 0
AreStartsIn g patterns starts = AreStartsOf g.all.dict.now (graph_in g) patterns starts
