-- One of the maps in hand is changed while the others wait.
use Rattle.std.specs.Prelude.{◌≡◌, ℕ, ◌+◌, ◌≤◌, List}
use Rattle.std.proofs.Common.{refl, arith}
use Rattle.hypertrie_model.specs.IdSets.{IdSet}
use Rattle.edge_map.specs.Edges.{Edges}
use Rattle.trie_node.specs.Sets.{edges_in}
use Rattle.trie_context.specs.declared.tables.Tables.{Tables}
use Rattle.trie_context.specs.Holds.{holds_of, at_depth}
use Rattle.trie_context.specs.MoveLaws.{if_same, if_other, same_or_not, at_here, at_same}
use Rattle.change_log.specs.declared.step.Step.{Step}
use Rattle.change_log.specs.Logged.{IsLogged}
use Rattle.change_log.specs.Laws.{logged_on, logged_as, others_slices, keeps_more}
use Rattle.trie_change.specs.Rooms.{AreSlicesAt}

turn_net : (d : ℕ) (x y rest : ℕ → ℕ) (e r : ℕ) → at_depth d (λ r. x r + rest r) e r + at_depth d y e r ≡ at_depth d x e r + at_depth d (λ r. y r + rest r) e r
turn_net d x y rest e r = same_or_not e d _
    (λ is. omega (arith, if_same e d (x r + rest r) 0 is, if_same e d (y r) 0 is, if_same e d (x r) 0 is, if_same e d (y r + rest r) 0 is))
    (λ ne. omega (arith, if_other e d (x r + rest r) 0 ne, if_other e d (y r) 0 ne, if_other e d (x r) 0 ne, if_other e d (y r + rest r) 0 ne))

turn_more : (d : ℕ) (y rest : ℕ → ℕ) (e r : ℕ) → at_depth d y e r ≤ at_depth d (λ r. y r + rest r) e r
turn_more d y rest e r = same_or_not e d _
    (λ is. omega (arith, if_same e d (y r) 0 is, if_same e d (y r + rest r) 0 is))
    (λ ne. omega (arith, if_other e d (y r) 0 ne, if_other e d (y r + rest r) 0 ne))

module _ (mixed : ℕ → ℕ → ℕ → ℕ → ℕ) (d : ℕ) (t0 t : Tables) (before log : List Step) (given : ℕ → ℕ → ℕ) (apart : (r : ℕ) → given d r ≡ 0) (x rest : ℕ → ℕ) (most : ℕ)
    (so_far : IsLogged mixed t0 t before log (at_depth d (λ r. x r + rest r)) given most) where
  -- all are held
  pub both_held : (r : ℕ) → x r + rest r ≤ holds_of t d r
  both_held r = omega (arith, so_far.holds d r, keeps_more mixed t0 t before log so_far.grew d r, apart r, at_here d (λ r. x r + rest r) r)

  module _ (u : Tables) (later : List Step) (y : ℕ → ℕ) (more : ℕ) (now : IsLogged mixed t u log later (at_depth d y) (at_depth d x) more) where
    -- the changed map is in hand in place of the old one
    pub turned : (whole : ℕ) → most + more ≤ whole → IsLogged mixed t0 u before later (at_depth d (λ r. y r + rest r)) given whole
    turned whole room = logged_on mixed t0 t u before log later (at_depth d (λ r. x r + rest r)) given (at_depth d y) (at_depth d x) most more so_far now (at_depth d (λ r. y r + rest r)) given whole
        (λ e r. omega (arith, turn_net d x y rest e r)) (λ e r. omega arith) (turn_more d y rest) room

    -- another map in hand stands for the same slices
    pub others_wait : (H : IdSet) (i : ℕ) (m : Edges) → ((r : ℕ) → edges_in m r ≤ rest r) → AreSlicesAt t d H i m → AreSlicesAt u d H i m
    others_wait H i m among slices = others_slices mixed t u (at_depth d x) now.stay d H i m slices (λ r. omega (arith, both_held r, among r, at_here d x r))

-- two maps in hand, or three, in place of what was given: each stands for the slices of a set at a position, and that to be
-- changed next comes first
module _ (mixed : ℕ → ℕ → ℕ → ℕ → ℕ) (d : ℕ) (t0 : Tables) (before : List Step) (given : ℕ → ℕ → ℕ) (apart : (r : ℕ) → given d r ≡ 0) where
  pub record InTwo (t : Tables) (log : List Step) (G : IdSet) (i : ℕ) (x : Edges) (F : IdSet) (j : ℕ) (y : Edges) (most : ℕ) : Type 0 where
    pub logged : IsLogged mixed t0 t before log (at_depth d (λ r. edges_in x r + edges_in y r)) given most
    pub one : AreSlicesAt t d G i x
    pub two : AreSlicesAt t d F j y

  pub record InThree (t : Tables) (log : List Step) (G : IdSet) (i : ℕ) (x : Edges) (F : IdSet) (j : ℕ) (y : Edges) (E : IdSet) (k : ℕ) (z : Edges) (most : ℕ) : Type 0 where
    pub logged : IsLogged mixed t0 t before log (at_depth d (λ r. edges_in x r + (edges_in y r + edges_in z r))) given most
    pub one : AreSlicesAt t d G i x
    pub two : AreSlicesAt t d F j y
    pub three : AreSlicesAt t d E k z

  module _ (t : Tables) (log : List Step) (G : IdSet) (i : ℕ) (x : Edges) (F : IdSet) (j : ℕ) (y : Edges) (most : ℕ) where
    pub two_held : InTwo t log G i x F j y most → (r : ℕ) → edges_in x r + edges_in y r ≤ holds_of t d r
    two_held s = both_held mixed d t0 t before log given apart (edges_in x) (edges_in y) most s.logged

    pub turn_two : InTwo t log G i x F j y most → (u : Tables) (later : List Step) (x2 : Edges) (more : ℕ) → IsLogged mixed t u log later (at_depth d (edges_in x2)) (at_depth d (edges_in x)) more
        → (G2 : IdSet) → AreSlicesAt u d G2 i x2 → (whole : ℕ) → most + more ≤ whole → InTwo u later F j y G2 i x2 whole
    turn_two s u later x2 more now G2 slices whole room = record {
      logged = logged_as mixed t0 u before later (at_depth d (λ r. edges_in x2 r + edges_in y r)) given whole
          (turned mixed d t0 t before log given apart (edges_in x) (edges_in y) most s.logged u later (edges_in x2) more now whole room)
          (at_depth d (λ r. edges_in y r + edges_in x2 r)) given whole (at_same d _ _ (λ r. omega arith)) (λ e r. refl) (omega arith);
      one = others_wait mixed d t0 t before log given apart (edges_in x) (edges_in y) most s.logged u later (edges_in x2) more now F j y (λ r. omega arith) s.two;
      two = slices;
    }

    module _ (E : IdSet) (k : ℕ) (z : Edges) where
      pub three_held : InThree t log G i x F j y E k z most → (r : ℕ) → edges_in x r + (edges_in y r + edges_in z r) ≤ holds_of t d r
      three_held s = both_held mixed d t0 t before log given apart (edges_in x) (λ r. edges_in y r + edges_in z r) most s.logged

      pub turn_three : InThree t log G i x F j y E k z most → (u : Tables) (later : List Step) (x2 : Edges) (more : ℕ) → IsLogged mixed t u log later (at_depth d (edges_in x2)) (at_depth d (edges_in x)) more
          → (G2 : IdSet) → AreSlicesAt u d G2 i x2 → (whole : ℕ) → most + more ≤ whole → InThree u later F j y E k z G2 i x2 whole
      turn_three s u later x2 more now G2 slices whole room = record {
        logged = logged_as mixed t0 u before later (at_depth d (λ r. edges_in x2 r + (edges_in y r + edges_in z r))) given whole
            (turned mixed d t0 t before log given apart (edges_in x) (λ r. edges_in y r + edges_in z r) most s.logged u later (edges_in x2) more now whole room)
            (at_depth d (λ r. edges_in y r + (edges_in z r + edges_in x2 r))) given whole (at_same d _ _ (λ r. omega arith)) (λ e r. refl) (omega arith);
        one = others_wait mixed d t0 t before log given apart (edges_in x) (λ r. edges_in y r + edges_in z r) most s.logged u later (edges_in x2) more now F j y (λ r. omega arith) s.two;
        two = others_wait mixed d t0 t before log given apart (edges_in x) (λ r. edges_in y r + edges_in z r) most s.logged u later (edges_in x2) more now E k z (λ r. omega arith) s.three;
        three = slices;
      }
