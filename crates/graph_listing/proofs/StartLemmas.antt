-- What the starts of a query's patterns say of its answers.
use Rattle.std.specs.Prelude.{◌≡◌, ℕ, ◌<◌, ◌&&◌, ◌||◌, true, nat_eq, List, [], ◌∷◌, ◌++◌, map, refl, Option, None, Some, IfSome}
use Rattle.std.proofs.Common.{sym, ◌∙◌, ap, subst}
use Rattle.std.proofs.lemmas.Cmp.{nat_cmp_total as total}
use Rattle.std.proofs.lemmas.List.Elements.{All-from_recursion, recursion_from_All}
use Rattle.std.proofs.lemmas.List.Sorted.{All-permutation}
use Rattle.std.specs.FinMap as map_of
use Rattle.std.specs.List.{AllByRecursion, list_all, list_any}
use Rattle.std.specs.List.Sorted.{IsPermutation}
use Rattle.std.specs.Ordering.{eq_by_cmp, nat_cmp}
use Rattle.hypertrie_model.specs.Sets.{has}
use Rattle.hypertrie_model.specs.SetLaws.{and_both, or_right, tied-itself}
use Rattle.rdf_model.specs.Graph.{Graph, term_cmp}
use Rattle.tuple_image.specs.TupleImages.{tuple_image, IsOver}
use Rattle.term_dict.specs.Dict.{Terms, IsOneToOne}
use Rattle.trie_view.specs.declared.sub.Sub.{Sub}
use Rattle.trie_view.specs.Subs.{sub_depth, sub_set}
use Rattle.graph_image.specs.Images.{term_at}
use Rattle.graph_view.specs.Read.{has_id, set_in}
use Rattle.query_plan.specs.declared.columns.Column.{Column}
use Rattle.query_plan.specs.declared.patterns.Pattern.{Pattern}
use Rattle.query_plan.specs.declared.patterns.Place.{Place}
use Rattle.query_plan.specs.declared.patterns.Place.TheVariants.{Label, Const}
use Rattle.query_plan.specs.declared.query.Query.{Query}
use Rattle.query_plan.specs.Labels as plan
use Rattle.query_plan.specs.Seen.{place_seen, pattern_seen, column_seen, query_seen}
use Rattle.bag_model.specs.Answers.{IsAnswer, chosen_rows}
use Rattle.bag_model.specs.AnswerLaws.{answer-alike}
use Rattle.bag_model.specs.Listings.{Listing, MayGive}
use Rattle.bag_model.specs.Solutions.{IsUniverse, all_rows}
use Rattle.bag_list.specs.declared.track.Start.{Start}
use Rattle.bag_list.specs.Labels.{array_labels}
use Rattle.bag_list.specs.Rows as numbered
use Rattle.bag_list.specs.Starts.{AreStarts, three_places}
use Rattle.bag_list.specs.Tracks.{rests_of, start_set}
use Rattle.solution_model.specs.Answers as model
use Rattle.solution_model.specs.Answers.{IsAnswerTo}
use Rattle.solution_model.specs.Labels.{IsLabelled}
use Rattle.solution_model.specs.Members.{distinct-keys}
use Rattle.solution_model.specs.Reading.{read_row, IsRead, AreRead}
use Rattle.solution_model.specs.ReadLaws.{is_known_row, all_rows_known, chosen_rows_known}
use Rattle.solution_model.specs.ReadListings.{read_listing, GivesKnown, AreKnownRows, read_answer, answer_read}
use Rattle.solution_model.specs.Rests.{place_labels, pattern_labels, AreBelow, rest_of}
use Rattle.solution_model.specs.Rows.{Row}
use Rattle.solution_model.specs.UniverseLaws.{chosen_rows_read}
use Rattle.graph_listing.specs.Parts.{IsStartOf, AreStartsOf}
use Rattle.graph_listing.proofs.PartLemmas.{lone_ids, zip_length, zip_at}

-- ---- the query of the definitions

same_place : (p : Place) → place_labels (place_seen p) ≡ plan.label_of p
same_place (Label l) = refl
same_place (Const t) = refl

same_labels : (p : Pattern) → pattern_labels (pattern_seen p) ≡ plan.pattern_labels p
same_labels p = (λ j. same_place p.s j ++ (same_place p.p j ++ same_place p.o j))

pub same_columns : (cs : List Column) → map (λ c. c.label) (map column_seen cs) ≡ plan.column_labels cs
same_columns [] = refl
same_columns (c ∷ cs) = ap (λ ls. c.label ∷ ls) (same_columns cs)

any_seen : (l : ℕ) (ps : List Pattern) → list_any (λ p. list_any (nat_eq l) (pattern_labels p)) (map pattern_seen ps) ≡ list_any (λ p. list_any (nat_eq l) (plan.pattern_labels p)) ps
any_seen l [] = refl
any_seen l (p ∷ ps) = (λ j. list_any (nat_eq l) (same_labels p j) || any_seen l ps j)

below_seen : (n : ℕ) (ps : List Pattern) → AllByRecursion (λ p. AllByRecursion (λ l. l < n) (plan.pattern_labels p)) ps → AreBelow n (map pattern_seen ps)
below_seen n [] all = tt
below_seen n (p ∷ ps) all = (subst (AllByRecursion (λ l. l < n)) (sym (same_labels p)) all.0, below_seen n ps all.1)

pub labelled_seen : (q : Query) → plan.IsLabelled q → IsLabelled (query_seen q)
labelled_seen q is = record {
  each = λ l lt. any_seen l q.patterns ∙ is.each l lt;
  places = below_seen q.labels q.patterns is.places;
  columns = subst (AllByRecursion (λ v. IfSome v (λ l. l < q.labels))) (sym (same_columns q.columns)) is.columns;
}

-- ---- the starts

pub are_starts : (terms : Terms) (G : Graph) (ps : List Pattern) (starts : List (Start Sub)) → AreStartsOf terms G ps starts → AreStarts sub_depth sub_set starts ps
are_starts terms G ps starts are = record {
  number = zip_length (λ p s. IsStartOf terms G s p) ps starts are;
  each = λ i s p lt.
      let is = zip_at (λ p s. IsStartOf terms G s p) ps starts i p s are lt in
      record { labels = is.labels; deep = is.part.deep; some = is.part.some };
}

same_set_in : (op : Option Sub) → start_set sub_set op ≡ set_in sub_set op
same_set_in None = refl
same_set_in (Some s) = refl

placed_labels : (s p o : Place) → array_labels (three_places (plan.label_of s ++ (plan.label_of p ++ plan.label_of o))) ≡ place_labels (place_seen s) ++ (place_labels (place_seen p) ++ place_labels (place_seen o))
placed_labels (Label a) (Label b) (Label c) = refl
placed_labels (Label a) (Label b) (Const z) = refl
placed_labels (Label a) (Const y) (Label c) = refl
placed_labels (Label a) (Const y) (Const z) = refl
placed_labels (Const x) (Label b) (Label c) = refl
placed_labels (Const x) (Label b) (Const z) = refl
placed_labels (Const x) (Const y) (Label c) = refl
placed_labels (Const x) (Const y) (Const z) = refl

module _ (terms : Terms) (G : Graph) where
  start_read : (p : Pattern) (s : Start Sub) → IsStartOf terms G s p → IsRead nat_cmp term_cmp (term_at terms) (has_id terms) (record { tuples = start_set sub_set s.op; labels = array_labels s.labels }) (rest_of G (pattern_seen p))
  start_read p s is = record {
    labels = sym (ap array_labels is.labels ∙ placed_labels p.s p.p p.o);
    over = subst (IsOver (has_id terms)) (sym (same_set_in s.op)) is.part.known;
    tuples = ap (tuple_image term_cmp (term_at terms)) (same_set_in s.op) ∙ is.part.read;
  }

  starts_read : (ps : List Pattern) (starts : List (Start Sub)) → AreStartsOf terms G ps starts → AreRead nat_cmp term_cmp (term_at terms) (has_id terms) (rests_of sub_set starts) (map (rest_of G) (map pattern_seen ps))
  starts_read [] [] are = tt
  starts_read [] (s ∷ starts) are = absurd are
  starts_read (p ∷ ps) [] are = absurd are
  starts_read (p ∷ ps) (s ∷ starts) are = (start_read p s are.0, starts_read ps starts are.1)

  -- the Ids of the dictionary are gone through
  abbrev pub ids : List ℕ
  ids = map_of.keys terms

  among : (t : List ℕ) → list_all (has_id terms) t ≡ true → AllByRecursion (λ x. list_any (eq_by_cmp nat_cmp x) ids ≡ true) t
  among [] all = tt
  among (x ∷ t) all = let two = and_both (has_id terms x) (list_all (has_id terms) t) all in (sym (map_of.contains_key-keys terms x) ∙ two.0, among t two.1)

  whole : (ps : List Pattern) (starts : List (Start Sub)) → AreStartsOf terms G ps starts → AllByRecursion (λ r. (t : List ℕ) → has r.tuples t ≡ true → AllByRecursion (λ x. list_any (eq_by_cmp nat_cmp x) ids ≡ true) t) (rests_of sub_set starts)
  whole [] [] are = tt
  whole [] (s ∷ starts) are = absurd are
  whole (p ∷ ps) [] are = absurd are
  whole (p ∷ ps) (s ∷ starts) are = ((λ t e. among t (are.0.part.known t (ap (λ H. has H t) (sym (same_set_in s.op)) ∙ e))), whole ps starts are.1)

  ids_universe : (ps : List Pattern) (starts : List (Start Sub)) → AreStartsOf terms G ps starts → IsUniverse nat_cmp ids (rests_of sub_set starts)
  ids_universe ps starts are = record { distinct = distinct-keys terms; whole = whole ps starts are }

  all_have : (v : List ℕ) → ((x : ℕ) → list_any (eq_by_cmp nat_cmp x) v ≡ true → has_id terms x ≡ true) → list_all (has_id terms) v ≡ true
  all_have [] each = refl
  all_have (x ∷ v) each =
      let here = each x (ap (λ b. b || list_any (eq_by_cmp nat_cmp x) v) (tied-itself total x)) in
      let rest = all_have v (λ y e. each y (or_right (eq_by_cmp nat_cmp y x) (list_any (eq_by_cmp nat_cmp y) v) e)) in
      (λ j. here j && rest j)

  ids_known : list_all (has_id terms) ids ≡ true
  ids_known = all_have ids (λ x e. map_of.contains_key-keys terms x ∙ e)

  -- ---- the listing

  module _ (one : IsOneToOne terms) (q : Query) (labelled : plan.IsLabelled q) (starts : List (Start Sub)) (are : AreStartsOf terms G q.patterns starts) where
    -- the rows over Ids that are chosen from
    abbrev pub chosen : List numbered.Row
    chosen = chosen_rows nat_cmp q.distinct (all_rows nat_cmp ids q.labels (rests_of sub_set starts) (plan.column_labels q.columns))

    chosen_known : AreKnownRows (has_id terms) chosen
    chosen_known = chosen_rows_known (has_id terms) nat_cmp q.distinct (all_rows nat_cmp ids q.labels (rests_of sub_set starts) (plan.column_labels q.columns))
        (all_rows_known (has_id terms) nat_cmp ids q.labels (rests_of sub_set starts) (plan.column_labels q.columns) ids_known)

    -- whatever the listing over Ids may give answers over the Ids
    abbrev pub AnswersOverIds : Listing ℕ → Type 0
    AnswersOverIds s = (u : List ℕ) → IsUniverse nat_cmp u (rests_of sub_set starts) → (rows : List numbered.Row) → MayGive s rows
        → IsAnswer q.limit q.offset (chosen_rows nat_cmp q.distinct (all_rows nat_cmp u q.labels (rests_of sub_set starts) (plan.column_labels q.columns))) rows

    all_front : (rows others : List numbered.Row) → AreKnownRows (has_id terms) (rows ++ others) → AreKnownRows (has_id terms) rows
    all_front [] others all = tt
    all_front (r ∷ rows) others all = (all.0, all_front rows others all.1)

    pub starts_known : (s : Listing ℕ) → s.present ≡ None → AnswersOverIds s → GivesKnown (has_id terms) s
    starts_known s none answers = record {
      present = subst (λ p. IfSome p (λ row. is_known_row (has_id terms) row ≡ true)) (sym none) tt;
      rows = λ rows may.
          let a = answers ids (ids_universe q.patterns starts are) rows may in
          all_front rows a.others (recursion_from_All (λ row. is_known_row (has_id terms) row ≡ true) (rows ++ a.others)
          (All-permutation (λ row. is_known_row (has_id terms) row ≡ true) chosen (rows ++ a.others) a.are (All-from_recursion (λ row. is_known_row (has_id terms) row ≡ true) chosen chosen_known)));
    }

    pub starts_answer : (s : Listing ℕ) → AnswersOverIds s → (rows : List Row) → MayGive (read_listing (term_at terms) s) rows → IsAnswerTo (query_seen q) G rows
    starts_answer s answers rows may =
        let f = read_row (term_at terms) in
        let r = read_answer f s.limit s.offset s.rows rows may in
        let over_ids = answers ids (ids_universe q.patterns starts are) r.members r.answer in
        let read = subst (IsAnswer q.limit q.offset (map f chosen)) r.is (answer_read f q.limit q.offset chosen r.members over_ids) in
        let columns = same_columns q.columns in
        answer-alike q.limit q.offset (model.chosen_rows (query_seen q) G) (map f chosen) rows
        (subst (λ ls. IsPermutation (model.chosen_rows (query_seen q) G) (map f (chosen_rows nat_cmp q.distinct (all_rows nat_cmp ids q.labels (rests_of sub_set starts) ls)))) columns
        (chosen_rows_read (query_seen q) G (labelled_seen q labelled) (term_at terms) (has_id terms) (lone_ids terms one) ids (rests_of sub_set starts) ids_known (starts_read q.patterns starts are) (ids_universe q.patterns starts are)))
        read
