-- What is left of a set that is read once a term is fixed at a position.
use Rattle.std.specs.Prelude.{◌≡◌, ◌≢◌, ◌↔◌, ℕ, zero, suc, ◌+◌, ◌-◌, ◌^◌, ◌<◌, ◌≤◌, Bool, true, false, List, [], ◌∷◌, ◌++◌, length, take, slice_index_or, map, refl, Option, None, Some, IfSome, IsNone, IsSome, is_some}
use Rattle.std.proofs.Common.{sym, ◌∙◌, ap, subst, arith}
use Rattle.std.proofs.lemmas.Cmp.{lists_total, nat_cmp_total as total}
use Rattle.std.proofs.lemmas.List.{take_more}
use Rattle.std.specs.Cmp.Lexicographic.{slice_cmp}
use Rattle.std.specs.FinMap as map_of
use Rattle.std.specs.FinMap.{nat_cmp-IsAntisymmetric as exact}
use Rattle.std.specs.FinSet as set
use Rattle.std.specs.FinSet.{slice_cmp-IsAntisymmetric}
use Rattle.std.specs.List.{AllZip}
use Rattle.std.specs.Ordering.{nat_cmp}
use Rattle.hypertrie_model.specs.IdSets.{IdSet}
use Rattle.hypertrie_model.specs.Sets.{TupleSet, empty}
use Rattle.hypertrie_model.specs.Slices.{keys, slice, slice_at_mask}
use Rattle.hypertrie_model.specs.SliceLaws.{slice-no_key}
use Rattle.hypertrie_model.specs.SliceSizes.{slice-empty}
use Rattle.rdf_model.specs.Terms.{Term}
use Rattle.rdf_model.specs.Graph.{term_cmp, terms_total, exact_terms, triples_total, exact_triples}
use Rattle.set_image.specs.Images.{image}
use Rattle.set_image.specs.ImageLaws.{in_image, image-empty, image-image, image-same}
use Rattle.tuple_image.specs.TupleImages.{tuple_image, IsOver, IsOneToOneWhere}
use Rattle.tuple_image.specs.TupleLaws.{keys-tuple_image, keys-known, over-slice, slice-tuple_image}
use Rattle.graph_shape.specs.GraphShapes.{tuple_of, tuples_of}
use Rattle.trie_depth.specs.Masks.{FitsDepth, lowest, n_positions}
use Rattle.slice_cases.specs.TakenLaws.{slice_at_mask-one}
use Rattle.term_dict.specs.Dict.{Terms, IsNew, IsOneToOne}
use Rattle.trie_view.specs.declared.sub.Sub.{Sub}
use Rattle.trie_view.specs.Subs.{sub_depth, sub_set}
use Rattle.trie_view.specs.PlaceLaws.{known_deep}
use Rattle.graph_image.specs.Images.{term_at, triple_at, graph_of, AreKnown}
use Rattle.graph_image.specs.ImageLaws.{tuples_total, tuples_exact, get_is, term_is}
use Rattle.graph_view.specs.Read.{has_id, set_in}
use Rattle.graph_view.specs.ReadLaws.{known_ids}
use Rattle.query_plan.specs.declared.patterns.Place.{Place}
use Rattle.query_plan.specs.declared.patterns.Place.TheVariants.{Label, Const}
use Rattle.query_plan.specs.Labels.{label_of}
use Rattle.rdf_term.specs.Seen.{term_of}
use Rattle.query_plan.specs.Seen.{place_seen}
use Rattle.bag_list.specs.Starts.{three_places}
use Rattle.solution_model.specs.Rests.{slice_by}
use Rattle.graph_listing.specs.Parts.{IsPart, n_left}

-- ---- numbers read as terms

some_of : (o : Option Term) → is_some o ≡ true → IsSome o
some_of None e = absurd (let n : ⊥ = cc in n)
some_of (Some t) e = refl

pub lone_ids : (terms : Terms) → IsOneToOne terms → IsOneToOneWhere (has_id terms) (term_at terms)
lone_ids terms one p q at_p at_q same =
    one p q (term_at terms p) (get_is terms p (some_of (map_of.get terms p) at_p)) (get_is terms q (some_of (map_of.get terms q) at_q) ∙ ap Some (sym same))

-- the triples of the graph are the tuples, read
tuples_read : (terms : Terms) (H : IdSet) → AreKnown terms H → tuples_of (graph_of terms H) ≡ tuple_image term_cmp (term_at terms) H
tuples_read terms H known =
    image-image tuples_total tuples_exact triples_total exact_triples (lists_total terms_total) (slice_cmp-IsAntisymmetric exact_terms) (triple_at terms) tuple_of H
    ∙ image-same tuples_total tuples_exact (lists_total terms_total) (slice_cmp-IsAntisymmetric exact_terms) (λ t. tuple_of (triple_at terms t)) (map (term_at terms)) H
    (λ t there. let k = known t there in subst (λ u. tuple_of (triple_at terms u) ≡ map (term_at terms) u) (sym k.is) refl)

over_empty : (known : ℕ → Bool) → IsOver known (empty nat_cmp)
over_empty known t e = absurd (let f : false ≡ true = sym (set.contains-empty (slice_cmp nat_cmp) t) ∙ e in let n : ⊥ = cc in n)

-- the empty set, read
empty_read : (terms : Terms) → tuple_image term_cmp (term_at terms) (empty nat_cmp) ≡ empty term_cmp
empty_read terms = image-empty tuples_total tuples_exact (lists_total terms_total) (slice_cmp-IsAntisymmetric exact_terms) (map (term_at terms))

nothing : (terms : Terms) (T : TupleSet term_cmp) (d : ℕ) → T ≡ empty term_cmp → IsPart terms T d None
nothing terms T d e = record { read = empty_read terms ∙ sym e; known = over_empty (has_id terms); deep = tt; some = tt }

-- ---- the whole graph

pub no_triples : (terms : Terms) (H : IdSet) → AreKnown terms H → set.len H ≡ 0 → IsPart terms (tuples_of (graph_of terms H)) 3 None
no_triples terms H known none = nothing terms (tuples_of (graph_of terms H)) 3 (tuples_read terms H known ∙ ap (tuple_image term_cmp (term_at terms)) (set.empty_of_len H none) ∙ empty_read terms)

if_same : (op : Option Sub) (H : IdSet) → set_in sub_set op ≡ H → H ≢ empty nat_cmp → IfSome op (λ s. sub_set s ≢ empty nat_cmp)
if_same None H is some = tt
if_same (Some s) H is some = λ e. some (sym is ∙ e)

pub all_triples : (terms : Terms) (H : IdSet) (op : Option Sub) → AreKnown terms H → set.len H ≢ 0 → set_in sub_set op ≡ H → IfSome op (λ s. sub_depth s ≡ 3) → IsPart terms (tuples_of (graph_of terms H)) 3 op
all_triples terms H op known some is deep = record {
  read = ap (tuple_image term_cmp (term_at terms)) is ∙ sym (tuples_read terms H known);
  known = subst (IsOver (has_id terms)) (sym is) (known_ids terms H known);
  deep = deep;
  some = if_same op H is (λ e. some (ap set.len e ∙ set.len-empty (slice_cmp nat_cmp)));
}

not_none : (r : Sub) → IsNone (Some r) → ⊥
not_none r e = let f : true ≡ false = e in cc

-- ---- one constant

pub none_stays : (terms : Terms) (T : TupleSet term_cmp) (d e i : ℕ) (place : Place) → IsPart terms T d None → IsPart terms (slice_by (place_seen place) i T) e None
none_stays terms T d e i (Label l) part = nothing terms T e (sym part.read ∙ empty_read terms)
none_stays terms T d e i (Const t) part = nothing terms (slice term_cmp T i (term_of t)) e (ap (λ S. slice term_cmp S i (term_of t)) (sym part.read ∙ empty_read terms) ∙ slice-empty terms_total exact_terms i (term_of t))

module _ (terms : Terms) (one : IsOneToOne terms) where
  -- no tuple that is read has a term that no Id has
  pub unknown : (T : TupleSet term_cmp) (d e i : ℕ) (op : Option Sub) (t : Term) → IsNew terms t → IsPart terms T d op → IsPart terms (slice term_cmp T i t) e None
  unknown T d e i op t new part = nothing terms (slice term_cmp T i t) e (slice-no_key terms_total exact_terms T i t (no_key (set.contains (keys term_cmp T i) t) refl)) where
    H : IdSet
    H = set_in sub_set op

    no_key : (b : Bool) → set.contains (keys term_cmp T i) t ≡ b → set.contains (keys term_cmp T i) t ≡ false
    no_key false e = e
    no_key true e =
        let read : set.contains (image term_cmp (term_at terms) (keys nat_cmp H i)) t ≡ true =
        ap (λ K. set.contains K t) (sym (ap (λ S. keys term_cmp S i) (sym part.read) ∙ keys-tuple_image total exact terms_total exact_terms (term_at terms) H i)) ∙ e in
        let v = in_image total exact terms_total exact_terms (term_at terms) (keys nat_cmp H i) t read in
        let there = keys-known total exact terms_total exact_terms (term_at terms) (has_id terms) (lone_ids terms one) H i v.member part.known v.there in
        absurd (new v.member (get_is terms v.member (some_of (map_of.get terms v.member) there) ∙ ap Some v.is))

  -- the tuples with the Id at a position are, read, those with its term
  pub at_term : (T : TupleSet term_cmp) (d i : ℕ) (s : Sub) (op : Option Sub) (mask id : ℕ) (t : Term) → map_of.get terms id ≡ Some t → mask ≡ 2 ^ i → i < d → d ≤ 3 → FitsDepth mask (sub_depth s) → IsPart terms T d (Some s)
      → (IsNone op ↔ (slice_at_mask nat_cmp (sub_set s) mask id ≡ empty nat_cmp)) → IfSome op (λ r. sub_set r ≡ slice_at_mask nat_cmp (sub_set s) mask id) → IfSome op (λ r. sub_depth r + n_positions mask ≡ sub_depth s)
      → IsPart terms (slice term_cmp T i t) (d - 1) op
  at_term T d i s op mask id t at is lt le fits part none set_is depth_is = by op none set_is depth_is where
    H : IdSet
    H = sub_set s

    alone : (i : ℕ) → i < 3 → (n_positions (2 ^ i) ≡ 1) × (lowest (2 ^ i) ≡ i)
    alone zero lt = (refl, refl)
    alone (suc zero) lt = (refl, refl)
    alone (suc (suc zero)) lt = (refl, refl)
    alone (suc (suc (suc i))) lt = absurd (omega arith)

    positions : n_positions mask ≡ 1
    positions = ap n_positions is ∙ (alone i (omega (arith, lt, le))).0

    first : lowest mask ≡ i
    first = ap lowest is ∙ (alone i (omega (arith, lt, le))).1

    one_slice : slice_at_mask nat_cmp H mask id ≡ slice nat_cmp H i id
    one_slice = slice_at_mask-one total exact H (sub_depth s) mask id (known_deep s.tables.now s.place s.known) (subst (λ n. n ≤ 3) (sym part.deep) le) fits positions ∙ ap (λ j. slice nat_cmp H j id) first

    has : has_id terms id ≡ true
    has = ap is_some at

    read : tuple_image term_cmp (term_at terms) (slice nat_cmp H i id) ≡ slice term_cmp T i t
    read = sym (slice-tuple_image total exact terms_total exact_terms (term_at terms) (has_id terms) (lone_ids terms one) H i id part.known has) ∙ (λ j. slice term_cmp (part.read j) i (term_is terms id t at j))

    by : (op : Option Sub) → (IsNone op ↔ (slice_at_mask nat_cmp H mask id ≡ empty nat_cmp)) → IfSome op (λ r. sub_set r ≡ slice_at_mask nat_cmp H mask id) → IfSome op (λ r. sub_depth r + n_positions mask ≡ sub_depth s) → IsPart terms (slice term_cmp T i t) (d - 1) op
    by None none set_is depth_is = nothing terms (slice term_cmp T i t) (d - 1) (sym read ∙ ap (tuple_image term_cmp (term_at terms)) (sym one_slice ∙ none.0 refl) ∙ empty_read terms)
    by (Some r) none set_is depth_is = record {
      read = ap (tuple_image term_cmp (term_at terms)) (set_is ∙ one_slice) ∙ read;
      known = subst (IsOver (has_id terms)) (sym (set_is ∙ one_slice)) (over-slice total exact terms_total exact_terms (term_at terms) (has_id terms) (lone_ids terms one) H i id part.known);
      deep = let deep = part.deep in omega (arith, depth_is, positions, deep);
      some = λ e. not_none r (none.1 (sym set_is ∙ e));
    }
    -- ---- the labels that are left

pub left : (s p o : Place) → n_left s (n_left p (n_left o 3)) ≡ length (label_of s ++ (label_of p ++ label_of o))
left (Label a) (Label b) (Label c) = refl
left (Label a) (Label b) (Const z) = refl
left (Label a) (Const y) (Label c) = refl
left (Label a) (Const y) (Const z) = refl
left (Const x) (Label b) (Label c) = refl
left (Const x) (Label b) (Const z) = refl
left (Const x) (Const y) (Label c) = refl
left (Const x) (Const y) (Const z) = refl

pub second_fits : (o : Place) → FitsDepth 2 (n_left o 3)
second_fits (Label c) = (omega arith, omega arith)
second_fits (Const z) = (omega arith, omega arith)

pub first_fits : (p o : Place) → FitsDepth 1 (n_left p (n_left o 3))
first_fits (Label b) (Label c) = (omega arith, omega arith)
first_fits (Label b) (Const z) = (omega arith, omega arith)
first_fits (Const y) (Label c) = (omega arith, omega arith)
first_fits (Const y) (Const z) = (omega arith, omega arith)

pub second_within : (o : Place) → (1 < n_left o 3) × (n_left o 3 ≤ 3)
second_within (Label c) = (omega arith, omega arith)
second_within (Const z) = (omega arith, omega arith)

pub first_within : (p o : Place) → (0 < n_left p (n_left o 3)) × (n_left p (n_left o 3) ≤ 3)
first_within (Label b) (Label c) = (omega arith, omega arith)
first_within (Label b) (Const z) = (omega arith, omega arith)
first_within (Const y) (Label c) = (omega arith, omega arith)
first_within (Const y) (Const z) = (omega arith, omega arith)

-- an array of labels with one more before them
pub label_before : (l : ℕ) (ls : List ℕ) → length ls ≤ 2 → Some l ∷ slice_index_or (three_places ls) 0 None ∷ slice_index_or (three_places ls) 1 None ∷ [] ≡ three_places (l ∷ ls)
label_before l [] le = refl
label_before l (a ∷ []) le = refl
label_before l (a ∷ b ∷ []) le = refl
label_before l (a ∷ b ∷ c ∷ ls) le = absurd (omega arith)

pub few_labels : (p o : Place) → length (label_of p ++ label_of o) ≤ 2
few_labels (Label b) (Label c) = omega arith
few_labels (Label b) (Const z) = omega arith
few_labels (Const y) (Label c) = omega arith
few_labels (Const y) (Const z) = omega arith

pub one_label : (o : Place) → (label_of o ++ [] ≡ label_of o) × (length (label_of o) ≤ 2)
one_label (Label c) = (refl, omega arith)
one_label (Const z) = (refl, omega arith)

-- one position fewer
pub one_fewer : (op : Option Sub) (n mask : ℕ) → n_positions mask ≡ 1 → IfSome op (λ r. sub_depth r + n_positions mask ≡ n) → IfSome op (λ r. sub_depth r ≡ n - 1)
one_fewer None n mask one is = tt
one_fewer (Some r) n mask one is = omega (arith, one, is)

pub as_none : {terms : Terms} {T : TupleSet term_cmp} {n : ℕ} {r : Option Sub} → r ≡ None → IsPart terms T n None → IsPart terms T n r
as_none {terms} {T} {n} none part = subst (IsPart terms T n) (sym none) part

-- ---- lists side by side

module _ {A B : Type 0} (R : A → B → Type 0) where
  zip_push : (xs : List A) (ys : List B) (x : A) (y : B) → AllZip R xs ys → R x y → AllZip R (xs ++ x ∷ []) (ys ++ y ∷ [])
  zip_push [] [] x y zip is = (is, tt)
  zip_push [] (v ∷ ys) x y zip is = absurd zip
  zip_push (u ∷ xs) [] x y zip is = absurd zip
  zip_push (u ∷ xs) (v ∷ ys) x y zip is = (zip.0, zip_push xs ys x y zip.1 is)

  pub zip_more : (xs : List A) (ys : List B) (i : ℕ) (x : A) (y : B) → i < length xs → slice_index_or xs i x ≡ x → AllZip R (take i xs) ys → R x y → AllZip R (take (i + 1) xs) (ys ++ y ∷ [])
  zip_more xs ys i x y lt at zip is = subst (λ us. AllZip R us (ys ++ y ∷ [])) (sym (take_more xs i x lt ∙ ap (λ z. take i xs ++ z ∷ []) at)) (zip_push (take i xs) ys x y zip is)

  pub zip_length : (xs : List A) (ys : List B) → AllZip R xs ys → length ys ≡ length xs
  zip_length [] [] zip = refl
  zip_length [] (v ∷ ys) zip = absurd zip
  zip_length (u ∷ xs) [] zip = absurd zip
  zip_length (u ∷ xs) (v ∷ ys) zip = ap suc (zip_length xs ys zip.1)

  pub zip_at : (xs : List A) (ys : List B) (i : ℕ) (x : A) (y : B) → AllZip R xs ys → i < length xs → R (slice_index_or xs i x) (slice_index_or ys i y)
  zip_at [] ys i x y zip lt = absurd (omega (arith, lt))
  zip_at (u ∷ xs) [] i x y zip lt = absurd zip
  zip_at (u ∷ xs) (v ∷ ys) zero x y zip lt = zip.0
  zip_at (u ∷ xs) (v ∷ ys) (suc i) x y zip lt = zip_at xs ys i x y zip.1 (omega (arith, lt))
