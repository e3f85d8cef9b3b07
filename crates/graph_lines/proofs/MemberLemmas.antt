-- The texts of the members of a row.
use Rattle.std.specs.Prelude.{◌≡◌, ◌≢◌, ℕ, suc, ◌≤◌, ◌&&◌, ◌||◌, Bool, true, false, List, [], ◌∷◌, ◌++◌, length, refl, codes, Option, None, Some, IsSome, IfSome, unwrap_or, option_map, is_some}
use Rattle.std.specs.Prelude.{map as each}
use Rattle.std.proofs.Common.{sym, ◌∙◌, ap, subst, arith, append_assoc, append-nil}
use Rattle.std.proofs.lemmas.Cmp.{nat_cmp_total as total, lists_total}
use Rattle.std.specs.Cmp.Lexicographic.{slice_cmp}
use Rattle.std.specs.Coded.{le_prop}
use Rattle.std.specs.FinMap as map
use Rattle.std.specs.FinMap.{FinMap, nat_cmp-IsAntisymmetric as exact}
use Rattle.std.specs.FinSet.{slice_cmp-IsAntisymmetric}
use Rattle.std.specs.FinSet as set
use Rattle.std.specs.List.{list_any, list_all}
use Rattle.std.specs.Ordering.{nat_cmp, eq_by_cmp}
use Rattle.hypertrie_model.specs.IdSets.{IdSet}
use Rattle.hypertrie_model.specs.Sets.{has, empty, single}
use Rattle.hypertrie_model.specs.SetLaws.{and_both, or_right, tied-itself, tied-is, has-single, len-single}
use Rattle.hypertrie_model.specs.Members.{no_members}
use Rattle.hypertrie_model.specs.Unions.{union_over}
use Rattle.hypertrie_model.specs.UnionLaws.{has-union_over_nil}
use Rattle.rdf_model.specs.Terms.{Text, Term, Iri}
use Rattle.rdf_model.specs.Texts.{canon, tsv}
use Rattle.term_dict.specs.Dict.{Terms}
use Rattle.edge_map.specs.declared.edge.Edge.{Edge}
use Rattle.edge_map.specs.declared.edge.Edge.TheVariants.{Key, Node as ToRow}
use Rattle.edge_map.specs.Edges.{Edges}
use Rattle.node_table.specs.Table.{Row}
use Rattle.trie_node.specs.declared.node.Node.{Node}
use Rattle.trie_node.specs.declared.node.Node.TheVariants.{Single, Full}
use Rattle.trie_node.specs.Sets.{edge_set, key_set_of, map_at}
use Rattle.trie_context.specs.declared.tables.Tables.{Tables}
use Rattle.trie_context.specs.Rows.{row_of, node_of, row_set, node_set, set_of, LeadsToRow}
use Rattle.trie_context.specs.RowLaws.{row_there}
use Rattle.trie_context.specs.Kept.{IsNode, AreKept}
use Rattle.trie_context.specs.NodeLaws.{edges_there}
use Rattle.tuple_image.specs.TupleImages.{IsOver}
use Rattle.graph_shape.specs.GraphShapes.{member_text}
use Rattle.graph_image.specs.Images.{term_at}
use Rattle.graph_view.specs.Read.{AreRead}
use Rattle.graph_view.specs.ReadLaws.{tests_prop, kept_known}
use Rattle.graph_lines.specs.declared.style.Style.{Style}
use Rattle.graph_lines.specs.declared.style.Style.TheVariants.{Member, Line}
use Rattle.graph_lines.specs.Walks.{AddsTexts, text_in, end_in, words, behind}
use Rattle.graph_lines.proofs.MapLemmas.{under_known}

-- the text of the one tuple of a set
pub added_single : (text : List ℕ → Text) (t : List ℕ) (old now : List Text) → now ≡ old ++ text t ∷ [] → AddsTexts text (single nat_cmp t) old now
added_single text t old now is = (t ∷ [], record { all = refl; once = sym (len-single total exact t) }, is)

-- another text function, which gives the same of each member
pub added_as : (text other : List ℕ → Text) (H : IdSet) → ((t : List ℕ) → has H t ≡ true → text t ≡ other t) → (old now : List Text) → AddsTexts text H old now → AddsTexts other H old now
added_as text other H same old now added = (
  added.0,
  added.1,
  added.2 ∙ ap (λ ts. old ++ ts) (along added.0 (λ t there. same t (ap (λ S. has S t) (sym added.1.all) ∙ set.contains-from_list (lists_total total) added.0 t ∙ there))),
) where
  along : (ts : List (List ℕ)) → ((t : List ℕ) → list_any (eq_by_cmp (slice_cmp nat_cmp) t) ts ≡ true → text t ≡ other t) → each text ts ≡ each other ts
  along [] same = refl
  along (t ∷ ts) same = λ i.
      same t (ap (λ b. b || list_any (eq_by_cmp (slice_cmp nat_cmp) t) ts) (tied-itself (lists_total total) t)) i
      ∷ along ts (λ u there. same u (or_right (eq_by_cmp (slice_cmp nat_cmp) u t) (list_any (eq_by_cmp (slice_cmp nat_cmp) u) ts) there)) i

term_is : (terms : Terms) (k : ℕ) (x : Term) → map.get terms k ≡ Some x → term_at terms k ≡ x
term_is terms k x found = ap (λ o. unwrap_or o (Iri [])) found

-- the text of the last key
pub key_text : (style : Style) (terms : Terms) (before : Text) (k : ℕ) (x : Term) (text : Text) → map.get terms k ≡ Some x → text ≡ before ++ text_in style x ++ end_in style → text ≡ behind style terms before (k ∷ [])
key_text Member terms before k x text found is = is ∙ ap (λ y. before ++ tsv y ++ []) (sym (term_is terms k x found)) ∙ append_assoc before (tsv (term_at terms k)) []
key_text Line terms before k x text found is = is ∙ ap (λ y. before ++ canon y ++ codes " .") (sym (term_is terms k x found)) ∙ sym (ended before (canon (term_at terms k))) where
  ended : (a b : Text) → (a ++ ((b ++ codes " ") ++ [])) ++ codes "." ≡ (a ++ b) ++ codes " ."
  ended a b =
      ap (λ w. (a ++ w) ++ codes ".") (append-nil (b ++ codes " ")) ∙ append_assoc a (b ++ codes " ") (codes ".") ∙ ap (λ w. a ++ w) (append_assoc b (codes " ") (codes "."))
      ∙ sym (append_assoc a b (codes " ."))

-- the text of a tuple behind its first key
pub text_under : (style : Style) (terms : Terms) (before : Text) (k : ℕ) (x : Term) (word : Text) → map.get terms k ≡ Some x → word ≡ before ++ text_in style x ++ codes " " → (t : List ℕ) → 1 ≤ length t → behind style terms word t ≡ behind style terms before (k ∷ t)
text_under style terms before k x word found is [] some = absurd (omega arith)
text_under Member terms before k x word found is (y ∷ t) some =
    ap (λ w. w ++ member_text (term_at terms y ∷ each (term_at terms) t)) (is ∙ ap (λ z. before ++ tsv z ++ codes " ") (sym (term_is terms k x found))) ∙ simp append_assoc
text_under Line terms before k x word found is (y ∷ t) some =
    ap (λ w. w ++ words terms (y ∷ t) ++ codes ".") (is ∙ ap (λ z. before ++ canon z ++ codes " ") (sym (term_is terms k x found))) ∙ simp append_assoc

-- ---- keys, known and there

module _ {X : Type 0} (m : FinMap nat_cmp X) (f : X → IdSet) (known : ℕ → Bool) (over : IsOver known (union_over m f)) (k : ℕ) (x : X) (at : map.get m k ≡ Some x) where
  pub map_key_known : f x ≢ empty nat_cmp → known k ≡ true
  map_key_known some = elim (known k) as (λ b. known k ≡ b → known k ≡ true) [
    | true ↦ λ e. e
    | false ↦ λ e. absurd (some (no_members (lists_total total) (slice_cmp-IsAntisymmetric exact) (f x) (λ u there.
        let known_key = (and_both (known k) (list_all known u) (under_known m f known over k x at u there)).0 in
        let n : ⊥ = cc in n)))
  ] refl

  pub map_rest_known : IsOver known (f x)
  map_rest_known u there = (and_both (known k) (list_all known u) (under_known m f known over k x at u there)).1

pub single_some : (t : List ℕ) → single nat_cmp t ≢ empty nat_cmp
single_some t none = let n = ap set.len none ∙ set.len-empty (slice_cmp nat_cmp) in omega (arith, len-single total exact t, n)

pub single_known : (known : ℕ → Bool) (k : ℕ) → IsOver known (single nat_cmp (k ∷ [])) → known k ≡ true
single_known known k over = (and_both (known k) true (over (k ∷ []) (has-single total exact (k ∷ []) (k ∷ []) ∙ tied-itself (lists_total total) (k ∷ [])))).0

pub pair_known : (known : ℕ → Bool) (a b : ℕ) → IsOver known (single nat_cmp (a ∷ b ∷ [])) → (known a ≡ true) × (known b ≡ true)
pair_known known a b over =
    let t = a ∷ b ∷ [] in
    let both = and_both (known a) (known b && true) (over t (has-single total exact t t ∙ tied-itself (lists_total total) t)) in
    (both.0, (and_both (known b) true both.1).0)

-- the node of a row that is there
pub row_node : (t : Tables) (d r : ℕ) → IsSome (row_of t d r) → (n : Node) → IfSome (row_of t d r) (λ row. row.node ≡ n) → node_of t d r ≡ Some n
row_node t d r there n is =
    let row = row_there (row_of t d r) there in
    let same : row.0.node ≡ n = let h : IfSome (Some row.0) (λ row. row.node ≡ n) = subst (λ o. IfSome o (λ row. row.node ≡ n)) row.1 is in h in
    ap (option_map (λ (row : Row Node). row.node)) row.1 ∙ ap Some same

module _ (mixed : ℕ → ℕ → ℕ → ℕ → ℕ) (t : Tables) (kept : AreKept mixed t) where
  keys_kept : (r : ℕ) → IsSome (row_of t 1 r) → (n : Node) → IfSome (row_of t 1 r) (λ row. row.node ≡ n) → map_at n 0 ≡ None → ⊥
  keys_kept r there n is none =
      let row = row_there (row_of t 1 r) there in
      let node : row.0.node ≡ n = let h : IfSome (Some row.0) (λ row. row.node ≡ n) = subst (λ o. IfSome o (λ row. row.node ≡ n)) row.1 is in h in
      by n (subst (IsNode mixed 1 (set_of t 0)) node ((kept 0).formed r row.0 row.1)) none where
        by : (n : Node) → IsNode mixed 1 (set_of t 0) n → map_at n 0 ≡ None → ⊥
        by (Single p) f e = f
        by (Full s h a b c) f e = cc

  large_kept : (r : ℕ) → IsSome (row_of t 1 r) → 2 ≤ set.len (set_of t 1 r)
  large_kept r there =
      let row = row_there (row_of t 1 r) there in
      subst (λ o. 2 ≤ set.len (row_set (node_set 1 (set_of t 0)) o)) (sym row.1) (by row.0.node ((kept 0).formed r row.0 row.1)) where
        by : (n : Node) → IsNode mixed 1 (set_of t 0) n → 2 ≤ set.len (key_set_of n)
        by (Single p) f = absurd f
        by (Full s h a b c) f = f.told.large

leads_prop : (t : Tables) (d : ℕ) (e : Edge) → IsProp (LeadsToRow t d e)
leads_prop t d (Key x) = hlevel
leads_prop t d (ToRow r) = tests_prop (is_some (row_of t d r)) true

module _ (t : Tables) (terms : Terms) (read : ∥ AreRead t terms ∥₁) where
  -- a row of depth one has a map of keys
  pub keys_there : (r : ℕ) → IsSome (row_of t 1 r) → (n : Node) → IfSome (row_of t 1 r) (λ row. row.node ≡ n) → map_at n 0 ≡ None → ⊥
  keys_there r there n is none = let never : IsProp ⊥ = hlevel in kept_known t terms read ⊥ never (λ mixed kept. keys_kept mixed t kept r there n is none)

  -- and two or more keys
  large : (r : ℕ) → IsSome (row_of t 1 r) → 2 ≤ set.len (set_of t 1 r)
  large r there = kept_known t terms read (2 ≤ set.len (set_of t 1 r)) le_prop (λ mixed kept. large_kept mixed t kept r there)

  -- an edge of a node leads to a row that is there
  pub edge_leads : (d q : ℕ) (node : Node) → node_of t (suc d) q ≡ Some node → (pos : ℕ) (m : Edges) → map_at node pos ≡ Some m → (k : ℕ) (e : Edge) → map.get m k ≡ Some e → LeadsToRow t d e
  edge_leads d q node at pos m is k e there = kept_known t terms read (LeadsToRow t d e) (leads_prop t d e) (λ mixed kept. edges_there mixed t kept d q node at pos m is k e there)

  -- an edge that is there stands for some key
  pub edge_some : (e : Edge) → LeadsToRow t 1 e → edge_set (set_of t 1) e ≢ empty nat_cmp
  edge_some (Key x) there none = single_some (x.0 ∷ []) none
  edge_some (ToRow r) there none = let n = ap set.len none ∙ set.len-empty (slice_cmp nat_cmp) in omega (arith, large r there)

  -- and for no tuple without a key
  pub edge_long : (e : Edge) → LeadsToRow t 1 e → (u : List ℕ) → has (edge_set (set_of t 1) e) u ≡ true → 1 ≤ length u
  edge_long e there (x ∷ u) in_set = omega arith
  edge_long (Key x) there [] in_set = absurd (let n : [] ≡ x.0 ∷ [] = tied-is (slice_cmp-IsAntisymmetric exact) [] (x.0 ∷ []) (sym (has-single total exact (x.0 ∷ []) []) ∙ in_set) in let f : ⊥ = cc in f)
  edge_long (ToRow r) there [] in_set = absurd (let n : false ≡ true = sym (no_nil (row_of t 1 r)) ∙ in_set in let f : ⊥ = cc in f) where
    no_nil : (o : Option (Row Node)) → has (row_set (node_set 1 (set_of t 0)) o) [] ≡ false
    no_nil None = set.contains-empty (slice_cmp nat_cmp) []
    no_nil (Some row) = by row.node where
      by : (n : Node) → has (key_set_of n) [] ≡ false
      by (Single p) = set.contains-empty (slice_cmp nat_cmp) []
      by (Full s h a b c) = has-union_over_nil total exact a (λ _. single nat_cmp [])
