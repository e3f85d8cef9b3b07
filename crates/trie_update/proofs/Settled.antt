-- A change that is settled: the new root has its hold, and what others hold is as it was.
use Rattle.std.specs.Prelude.{◌≡◌, ℕ, ◌≤◌, ◌++◌, List, [], ◌∷◌, refl}
use Rattle.std.proofs.Common.{sym, ◌∙◌, ap, subst, arith}
use Rattle.trie_context.specs.declared.root.Root.{Root}
use Rattle.trie_context.specs.declared.root.Root.TheVariants.{Empty, One, Many}
use Rattle.trie_context.specs.declared.tables.Tables.{Tables}
use Rattle.trie_context.specs.Holds.{holds_of, one_at, nothing, RowsStay}
use Rattle.trie_context.specs.Kept.{AreMoved}
use Rattle.trie_context.specs.MoveLaws.{at_here, one_here}
use Rattle.trie_context.specs.Opened.{HoldsAreMoved}
use Rattle.trie_context.specs.Roots.{root_set, root_hold, IsHeld}
use Rattle.change_log.specs.declared.step.Step.{Step}
use Rattle.change_log.specs.Laws.{others_by_came}
use Rattle.change_log.specs.Log.{Leads, Grows, keeps, reserved_in, HasPlaces, frees}
use Rattle.change_log.specs.Logged.{OthersStay, IsLogged}
use Rattle.change_log.specs.Places.{ArePlacesBeside}
use Rattle.change_log.specs.ReservedLaws.{led_reserved}
use Rattle.trie_change.specs.Rooms.{HeldStay}
use Rattle.trie_update.proofs.RootHolds.{root_holds, holds_root}

append_none : (steps : List Step) → steps ++ [] ≡ steps
append_none [] = refl
append_none (step ∷ steps) = ap (λ l. step ∷ l) (append_none steps)

-- a log that grew from nothing leads from the tables before
pub grown_led : (mixed : ℕ → ℕ → ℕ → ℕ → ℕ) (t u : Tables) (steps : List Step) → Grows mixed t u [] steps → Leads mixed t steps u
grown_led mixed t u steps grew = subst (λ l. Leads mixed t l u) (sym (grew.1 ∙ append_none grew.0)) grew.2

-- its places are reserved beside the numbers that were reserved before
pub grown_places : (mixed : ℕ → ℕ → ℕ → ℕ → ℕ) (t u : Tables) (steps : List Step) → Grows mixed t u [] steps → ArePlacesBeside steps (reserved_in t) (reserved_in u)
grown_places mixed t u steps grew = let r = led_reserved mixed t u steps (grown_led mixed t u steps grew) in record { places = r.0; others = r.1 }

module _ (mixed : ℕ → ℕ → ℕ → ℕ → ℕ) (t u : Tables) (steps : List Step) (old new : Root) (most : ℕ) (held : IsHeld t old) (logged : IsLogged mixed t u [] steps (root_hold new) (root_hold old) most) where
  -- the log leads from the tables before
  pub led : Leads mixed t steps u
  led = grown_led mixed t u steps logged.grew

  -- the new root is held beside what the log keeps
  pub kept_held : (d r : ℕ) → keeps steps d r ≤ holds_of u d r
  kept_held d r = omega (arith, logged.holds d r, root_holds t old held d r)

  pub new_held : IsHeld u new
  new_held = holds_root u new (λ d r. omega (arith, logged.holds d r, root_holds t old held d r))

  pub places : HasPlaces steps (reserved_in u)
  places = (led_reserved mixed t u steps led).0

  module _ (v : Tables) (fallen : HoldsAreMoved mixed u v nothing (keeps steps)) (came : RowsStay v u) (freed : (d : ℕ) → reserved_in v d ≡ frees steps (reserved_in u) d) where
    pub moved : AreMoved mixed t v (root_hold new) (root_hold old)
    moved = record {
      kept = fallen.kept;
      holds = λ d r. omega (arith, logged.holds d r, fallen.holds d r, kept_held d r);
      reserved = λ d. freed d ∙ (led_reserved mixed t u steps led).1 d;
    }

    others : OthersStay u v (keeps steps)
    others = others_by_came mixed u v (keeps steps) fallen.kept came (λ d r more. omega (arith, fallen.holds d r, more))

    -- a row with a hold beside the old root's is there as it was
    pub stay : HeldStay t v (root_hold old)
    stay d r more =
        let first = logged.stay d r more in
        let last = others d r (omega (arith, logged.holds d r, more)) in
        (last.0 ∙ first.0, last.1 ∙ first.1)

    pub held_after : IsHeld v new
    held_after = holds_root v new (λ d r. omega (arith, moved.holds d r, root_holds t old held d r))

    -- the new root stands for the same triples
    pub same_set : root_set v new ≡ root_set u new
    same_set = by new refl where
      by : (root : Root) → new ≡ root → root_set v root ≡ root_set u root
      by Empty is = refl
      by (One triple) is = refl
      by (Many k) is =
          let one : root_hold new 3 k ≡ 1 = ap (λ q. root_hold q 3 k) is ∙ at_here 3 (one_at k) k ∙ one_here k in
          (others 3 k (omega (arith, logged.holds 3 k, root_holds t old held 3 k, one))).1
