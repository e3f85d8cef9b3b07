-- The edges of changes, given up one after another.
use Rattle.std.proofs.Common.{◌≡◌, ℕ, suc, ◌+◌, ◌<◌, ◌≤◌, List, length, drop, drop-cons, get_or, Option, None, Some, ◌∙◌, ap, refl, arith}
use Rattle.std.proofs.lemmas.List.{drop_all}
use Rattle.trie_depth.specs.declared.id.Id.{Id}
use Rattle.edge_map.specs.declared.edge.Edge.{Edge}
use Rattle.trie_node.specs.Sets.{leads}
use Rattle.trie_context.specs.declared.tables.Tables.{Tables}
use Rattle.trie_context.specs.FitEdges.{option_leads}
use Rattle.trie_context.specs.Holds.{holds_of, at_depth, nothing}
use Rattle.trie_context.specs.Kept.{AreKept, AreMoved}
use Rattle.trie_context.specs.MoveLaws.{at_here, at_same, at_sum, at_none, moved_as, moved_on}
use Rattle.trie_change.specs.Rooms.{changes_lead}

-- a change of no key
abbrev pub none_change : Id × Option Edge
none_change = (record { 0 = 0 }, None)

first_lead : (cs : List (Id × Option Edge)) (i : ℕ) → i < length cs → (r : ℕ) → changes_lead (drop i cs) r ≡ option_leads (get_or cs i none_change).1 r + changes_lead (drop (i + 1) cs) r
first_lead cs i within r =
    let next : suc i ≡ i + 1 = omega arith in
    ap (λ xs. changes_lead xs r) (drop-cons cs i none_change within) ∙ ap (λ n. option_leads (get_or cs i none_change).1 r + changes_lead (drop n cs) r) next

module _ (mixed : ℕ → ℕ → ℕ → ℕ → ℕ) (d : ℕ) (cs : List (Id × Option Edge)) where
  pub hand_begins : (t : Tables) → AreKept mixed t → AreMoved mixed t t (at_depth d (changes_lead cs)) (at_depth d (changes_lead cs))
  hand_begins t kept = record { kept = kept; holds = λ e r. omega arith; reserved = λ e. refl }

  module _ (first t : Tables) (i : ℕ) (so_far : AreMoved mixed first t (at_depth d (changes_lead (drop i cs))) (at_depth d (changes_lead cs))) where
    -- when all are given up
    pub hand_ends : length cs ≤ i → AreMoved mixed first t nothing (at_depth d (changes_lead cs))
    hand_ends past = moved_as so_far nothing (at_depth d (changes_lead cs)) (λ e r. omega (arith, at_none d (changes_lead (drop i cs)) (λ q. ap (λ xs. changes_lead xs q) (drop_all i cs past)) e r))

    module _ (within : i < length cs) where
      -- a change with no edge has nothing to give up
      pub hand_none : (get_or cs i none_change).1 ≡ None → AreMoved mixed first t (at_depth d (changes_lead (drop (i + 1) cs))) (at_depth d (changes_lead cs))
      hand_none is = moved_as so_far (at_depth d (changes_lead (drop (i + 1) cs))) (at_depth d (changes_lead cs)) (λ e r. omega (arith, at_same d (changes_lead (drop i cs)) (changes_lead (drop (i + 1) cs)) (λ q. omega (arith, first_lead cs i within q, ap (λ o. option_leads o q) is)) e r))

      module _ (edge : Edge) (is : (get_or cs i none_change).1 ≡ Some edge) where
        one_edge : (r : ℕ) → changes_lead (drop i cs) r ≡ leads edge r + changes_lead (drop (i + 1) cs) r
        one_edge r = omega (arith, first_lead cs i within r, ap (λ o. option_leads o r) is)

        -- the next edge is held
        pub hand_held : ((r : ℕ) → changes_lead cs r ≤ holds_of first d r) → (r : ℕ) → leads edge r ≤ holds_of t d r
        hand_held held r = omega (arith, so_far.holds d r, at_here d (changes_lead (drop i cs)) r, at_here d (changes_lead cs) r, one_edge r, held r)

        -- and then given up
        pub hand_on : (u : Tables) → AreMoved mixed t u nothing (at_depth d (leads edge)) → AreMoved mixed first u (at_depth d (changes_lead (drop (i + 1) cs))) (at_depth d (changes_lead cs))
        hand_on u given = moved_on so_far given (at_depth d (changes_lead (drop (i + 1) cs))) (at_depth d (changes_lead cs)) (λ e r. omega (arith, at_sum d (changes_lead (drop i cs)) (leads edge) (changes_lead (drop (i + 1) cs)) one_edge e r))
