-- Laws of logged calls: one after another, and what they leave of edges that are held.
use Rattle.std.specs.Prelude.{◌≡◌, ◌≢◌, ◌⊎◌, ℕ, zero, suc, ◌+◌, ◌-◌, ◌<◌, ◌≤◌, List, [], ◌∷◌, ◌++◌, Option, None, Some, IfSome, option_map, refl}
use Rattle.std.proofs.Common.{sym, ◌∙◌, ap, subst, arith, append_assoc, inl, inr}
use Rattle.std.specs.Ordering.{nat_cmp}
use Rattle.std.specs.Cmp.{nat_cmp_total as total}
use Rattle.std.specs.FinMap as map
use Rattle.std.specs.FinMap.{nat_cmp-IsAntisymmetric as exact}
use Rattle.std.specs.FinSet as set
use Rattle.hypertrie_model.specs.FoldLaws.{sum_over-part}
use Rattle.hypertrie_model.specs.IdSets.{IdSet}
use Rattle.hypertrie_model.specs.MapLaws.{get-remove_here, get-remove_other}
use Rattle.hypertrie_model.specs.Slices.{slice}
use Rattle.edge_map.specs.declared.edge.Edge.{Edge}
use Rattle.edge_map.specs.declared.edge.Edge.TheVariants.{Key, Node as ToRow}
use Rattle.edge_map.specs.Edges.{Edges}
use Rattle.node_table.specs.Table.{Row, Spot}
use Rattle.trie_node.specs.declared.node.Node.{Node}
use Rattle.trie_node.specs.Sets.{leads, edges_in, edges_of}
use Rattle.trie_context.specs.declared.tables.Tables.{Tables}
use Rattle.trie_context.specs.Rows.{Rows, row_of, node_of, set_of}
use Rattle.trie_context.specs.FitEdges.{FitsAt, set_at, StandsAt, option_leads}
use Rattle.trie_context.specs.Holds.{count_of, holds_of, one_at, at_depth, nothing, CountsRiseBy, RowsStay}
use Rattle.trie_context.specs.Interned.{IsInterned}
use Rattle.trie_context.specs.Kept.{AreKept, AreMoved}
use Rattle.trie_context.specs.MoveLaws.{if_same, same_or_not, at_most, at_same, zero_at, one_at_most, there_row, node_stays}
use Rattle.trie_context.specs.Opened.{IsOpened, opened_at}
use Rattle.trie_context.specs.StayLaws.{sets_stay}
use Rattle.change_log.specs.declared.step.Step.{Step}
use Rattle.change_log.specs.Log.{edge_hold, StepDid, Leads, Grows, step_keeps, keeps}
use Rattle.change_log.specs.Logged.{OthersStay, IsLogged}

-- a row is gone where its number was taken out, and every other row is as it was
removed_row : (rows : Rows) (n r : ℕ) → (map.get (map.remove rows n) r ≡ None) ⊎ (map.get (map.remove rows n) r ≡ map.get rows r)
removed_row rows n r = same_or_not r n _
    (λ is. inl (ap (map.get (map.remove rows n)) is ∙ get-remove_here total exact rows n))
    (λ ne. inr (get-remove_other total exact rows n r ne))

-- a row taken out of the table of pairs, or of triples
pub pairs_out : (t : Tables) (place : Spot) (d r : ℕ) → (row_of (opened_at t 2 place) d r ≡ None) ⊎ (row_of (opened_at t 2 place) d r ≡ row_of t d r)
pairs_out t place zero r = inr refl
pairs_out t place (suc zero) r = inr refl
pairs_out t place (suc (suc zero)) r = removed_row t.two.rows place.number r
pairs_out t place (suc (suc (suc zero))) r = inr refl
pairs_out t place (suc (suc (suc (suc d)))) r = inr refl

pub triples_out : (t : Tables) (place : Spot) (d r : ℕ) → (row_of (opened_at t 3 place) d r ≡ None) ⊎ (row_of (opened_at t 3 place) d r ≡ row_of t d r)
triples_out t place zero r = inr refl
triples_out t place (suc zero) r = inr refl
triples_out t place (suc (suc zero)) r = inr refl
triples_out t place (suc (suc (suc zero))) r = removed_row t.three.rows place.number r
triples_out t place (suc (suc (suc (suc d)))) r = inr refl

module _ (t u : Tables) (out : (d r : ℕ) → (row_of u d r ≡ None) ⊎ (row_of u d r ≡ row_of t d r)) where
  pub rows_came : RowsStay u t
  rows_came d r row at = by (out d r) where
    by : (row_of u d r ≡ None) ⊎ (row_of u d r ≡ row_of t d r) → (now : Row Node) × (row_of t d r ≡ Some now) × (now.node ≡ row.node)
    by (inl gone) = absurd (let f : None ≡ Some row = sym gone ∙ at in cc)
    by (inr same) = (row, sym same ∙ at, refl)

  pub counts_came : CountsRiseBy t u (λ _ _. 0)
  counts_came d r = by (out d r) where
    by : (row_of u d r ≡ None) ⊎ (row_of u d r ≡ row_of t d r) → count_of (row_of u d r) ≤ count_of (row_of t d r) + 0
    by (inl gone) = let n : count_of (row_of u d r) ≡ 0 = ap count_of gone in omega arith
    by (inr same) = let n : count_of (row_of u d r) ≡ count_of (row_of t d r) = ap count_of same in omega arith

-- what logs keep
keeps_append : (more steps : List Step) (d r : ℕ) → keeps (more ++ steps) d r ≡ keeps more d r + keeps steps d r
keeps_append [] steps d r = omega arith
keeps_append (step ∷ more) steps d r = omega (arith, keeps_append more steps d r)

node_at_row : (t : Tables) (d r : ℕ) (row : Row Node) → row_of t d r ≡ Some row → node_of t d r ≡ Some row.node
node_at_row t d r row at = ap (option_map (λ (row : Row Node). row.node)) at

module _ (mixed : ℕ → ℕ → ℕ → ℕ → ℕ) where
  leads_on : (t m u : Tables) (a b : List Step) → Leads mixed t a m → Leads mixed m b u → Leads mixed t (b ++ a) u
  leads_on t m u a [] first last = subst (Leads mixed t a) (sym last) first
  leads_on t m u a (step ∷ b) first last = (last.0, leads_on t m last.0 a b first last.1, last.2, last.3)

  -- nothing is done
  pub grows_none : (t : Tables) (log : List Step) → Grows mixed t t log log
  grows_none t log = ([], refl, refl)

  -- one growth after another
  pub grows_on : (t m u : Tables) (a b c : List Step) → Grows mixed t m a b → Grows mixed m u b c → Grows mixed t u a c
  grows_on t m u a b c first last =
      (last.0 ++ first.0, last.1 ∙ ap (λ l. last.0 ++ l) first.1 ∙ sym (append_assoc last.0 first.0 a), leads_on t m u first.0 last.0 first.2 last.2)

  -- one step
  pub grows_step : (t u : Tables) (log : List Step) (step : Step) → AreKept mixed t → StepDid mixed t step u → Grows mixed t u log (step ∷ log)
  grows_step t u log step kept did = (step ∷ [], refl, (t, refl, kept, did))

  pub keeps_more : (t u : Tables) (a b : List Step) → Grows mixed t u a b → (d r : ℕ) → keeps a d r ≤ keeps b d r
  keeps_more t u a b grew d r =
      let is : keeps b d r ≡ keeps (grew.0 ++ a) d r = ap (λ l. keeps l d r) grew.1 in
      omega (arith, is, keeps_append grew.0 a d r)

  -- where rows stay, so does what others hold
  pub others_by_stay : (t u : Tables) (given : ℕ → ℕ → ℕ) → AreKept mixed t → RowsStay t u → OthersStay t u given
  others_by_stay t u given kept stay d r more =
      let s = there_row t d r (omega (arith, more)) in
      let at = node_at_row t d r s.0 s.1 in
      (node_stays t u stay d r s.0.node at ∙ sym at, sets_stay mixed t u kept stay d r s.0 s.1)

  -- and so it does where every row came from before and those with holds are left
  pub others_by_came : (t u : Tables) (given : ℕ → ℕ → ℕ) → AreKept mixed u → RowsStay u t → ((d r : ℕ) → given d r < holds_of t d r → 1 ≤ holds_of u d r) → OthersStay t u given
  others_by_came t u given kept came left d r more =
      let s = there_row u d r (left d r more) in
      let at = node_at_row u d r s.0 s.1 in
      (at ∙ sym (node_stays u t came d r s.0.node at), sym (sets_stay mixed u t kept came d r s.0 s.1))

  -- nothing is done
  pub logged_none : (t : Tables) (log : List Step) (gained given : ℕ → ℕ → ℕ) (most : ℕ) → AreKept mixed t → ((d r : ℕ) → gained d r ≡ given d r) → IsLogged mixed t t log log gained given most
  logged_none t log gained given most kept same =
      record {
        grew = grows_none t log;
        kept = kept;
        holds = λ d r. omega (arith, same d r);
        stay = λ d r more. (refl, refl);
        counts = λ d r. omega arith;
      }

  -- the same holds, otherwise written
  pub logged_as : (t u : Tables) (a b : List Step) (gained given : ℕ → ℕ → ℕ) (most : ℕ) → IsLogged mixed t u a b gained given most → (more less : ℕ → ℕ → ℕ) (whole : ℕ) → ((d r : ℕ) → gained d r ≡ more d r) → ((d r : ℕ) → given d r ≡ less d r) → most ≤ whole
      → IsLogged mixed t u a b more less whole
  logged_as t u a b gained given most logged more less whole same alike le =
      record {
        grew = logged.grew;
        kept = logged.kept;
        holds = λ d r. omega (arith, logged.holds d r, same d r, alike d r);
        stay = λ d r held. logged.stay d r (omega (arith, alike d r, held));
        counts = λ d r. omega (arith, logged.counts d r, le);
      }

  -- one logged call after another
  pub logged_on : (t m u : Tables) (a b c : List Step) (gained given gained2 given2 : ℕ → ℕ → ℕ) (first_most last_most : ℕ) → IsLogged mixed t m a b gained given first_most → IsLogged mixed m u b c gained2 given2 last_most
      → (more less : ℕ → ℕ → ℕ) (most : ℕ) → ((d r : ℕ) → (gained d r + gained2 d r) + less d r ≡ (given d r + given2 d r) + more d r) → ((d r : ℕ) → given d r ≤ less d r) → ((d r : ℕ) → gained2 d r ≤ more d r)
      → first_most + last_most ≤ most → IsLogged mixed t u a c more less most
  logged_on t m u a b c gained given gained2 given2 first_most last_most first last more less most same given_less gained_more room =
      record {
        grew = grows_on t m u a b c first.grew last.grew;
        kept = last.kept;
        holds = λ d r. omega (arith, first.holds d r, last.holds d r, same d r);
        stay = λ d r held.
            let one = first.stay d r (omega (arith, given_less d r, held)) in
            let two = last.stay d r (omega (arith, first.holds d r, keeps_more t m a b first.grew d r, same d r, gained_more d r, held)) in
            (two.0 ∙ one.0, two.1 ∙ one.1);
        counts = λ d r. omega (arith, first.counts d r, last.counts d r, room);
      }

  module _ (t u : Tables) (log : List Step) (step : Step) (kept : AreKept mixed t) (did : StepDid mixed t step u) where
    -- an edge is handed over, and that in its place is kept in the log
    pub logged_replaced : (d : ℕ) (old new : Option Edge) (most : ℕ) → AreMoved mixed t u (edge_hold d new) nothing → RowsStay t u → CountsRiseBy t u (λ _ _. most)
        → ((e r : ℕ) → step_keeps step e r ≡ edge_hold d old e r) → IsLogged mixed t u log (step ∷ log) (edge_hold d new) (edge_hold d old) most
    logged_replaced d old new most moved stay counts keeps_old =
        record {
          grew = grows_step t u log step kept did;
          kept = moved.kept;
          holds = λ e r. omega (arith, moved.holds e r, keeps_old e r);
          stay = others_by_stay t u (edge_hold d old) kept stay;
          counts = counts;
        }

    -- a row is taken out, and the node in hand has its edges
    pub logged_opened : (d : ℕ) (place : Spot) (node : Node) → IsOpened mixed t u d place node → ((e r : ℕ) → (row_of u e r ≡ None) ⊎ (row_of u e r ≡ row_of t e r)) → ((e r : ℕ) → step_keeps step e r ≡ 0)
        → IsLogged mixed t u log (step ∷ log) (at_depth (d - 1) (edges_of node)) (at_depth d (one_at place.number)) 0
    logged_opened d place node opened out keeps_none =
        record {
          grew = grows_step t u log step kept did;
          kept = opened.moved.kept;
          holds = λ e r. omega (arith, opened.moved.holds e r, keeps_none e r);
          stay = others_by_came t u (at_depth d (one_at place.number)) opened.moved.kept (rows_came t u out) (λ e r more. omega (arith, opened.moved.holds e r, more));
          counts = counts_came t u out;
        }

    -- a changed node is made a row, or found; then its edges are kept in the log
    pub logged_interned : (d : ℕ) (node : Node) (row : ℕ) (back : Option Node) (given : ℕ → ℕ → ℕ) → IsInterned mixed t u d node row back
        → ((e r : ℕ) → holds_of u e r + given e r ≡ holds_of t e r + (at_depth d (one_at row) e r + step_keeps step e r))
        → IsLogged mixed t u log (step ∷ log) (at_depth d (one_at row)) given 1
    logged_interned d node row back given interned holds =
        record {
          grew = grows_step t u log step kept did;
          kept = interned.moved.kept;
          holds = λ e r. omega (arith, holds e r);
          stay = others_by_stay t u given kept interned.stay;
          counts = λ e r. omega (arith, interned.counts e r, at_most d (one_at row) 1 (one_at_most row) e r);
        }

  -- what is left of held edges
  module _ (t u : Tables) (given : ℕ → ℕ → ℕ) (stay : OthersStay t u given) where
    -- an edge with a hold beside the given ones fits as before, and stands for the same set
    pub others_edge : (d : ℕ) (o : Option Edge) → IfSome o (FitsAt t d) → ((r : ℕ) → option_leads o r + given d r ≤ holds_of t d r) → IfSome o (FitsAt u d) × (set_at u d o ≡ set_at t d o)
    others_edge d None fits held = (tt, refl)
    others_edge zero (Some e) fits held = absurd fits
    others_edge (suc zero) (Some (Key x)) fits held = (tt, refl)
    others_edge (suc zero) (Some (ToRow n)) fits held =
        let s = stay 1 n (omega (arith, held n, if_same {X = ℕ} n n 1 0 refl)) in
        (subst (λ S. 2 ≤ set.len S) (sym s.1) fits, s.1)
    others_edge (suc (suc d)) (Some (Key x)) fits held = (fits, refl)
    others_edge (suc (suc d)) (Some (ToRow n)) fits held =
        let s = stay (suc (suc d)) n (omega (arith, held n, if_same {X = ℕ} n n 1 0 refl)) in
        (subst (λ S. 1 ≤ set.len S) (sym s.1) fits, s.1)

    pub others_stand : (d : ℕ) (S : IdSet) (o : Option Edge) → StandsAt t d S o → ((r : ℕ) → option_leads o r + given d r ≤ holds_of t d r) → StandsAt u d S o
    others_stand d S None stands held = stands
    others_stand d S (Some e) stands held = let s = others_edge d (Some e) stands.0 held in (s.0, s.1 ∙ stands.1)

    -- and so do the edges of a map
    pub others_slices : (d : ℕ) (H : IdSet) (i : ℕ) (m : Edges) → ((k : ℕ) → StandsAt t d (slice nat_cmp H i k) (map.get m k)) → ((r : ℕ) → edges_in m r + given d r ≤ holds_of t d r) → (k : ℕ) → StandsAt u d (slice nat_cmp H i k) (map.get m k)
    others_slices d H i m stands held k = others_stand d (slice nat_cmp H i k) (map.get m k) (stands k) (λ r. omega (arith, held r, one_of k r)) where
      one_of : (k r : ℕ) → option_leads (map.get m k) r ≤ edges_in m r
      one_of k r = by (map.get m k) refl where
        by : (o : Option Edge) → map.get m k ≡ o → option_leads o r ≤ edges_in m r
        by None at = omega arith
        by (Some e) at = sum_over-part total exact m (λ _ e. leads e r) k e at
