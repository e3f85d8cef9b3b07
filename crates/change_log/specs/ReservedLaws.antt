-- Which numbers are reserved after the steps of a log: those before, and the places of the log.
use Rattle.std.specs.Prelude.{◌≡◌, ℕ, ◌≤◌, List, [], ◌∷◌}
use Rattle.std.proofs.Common.{◌∙◌, ap, sym, subst, arith}
use Rattle.std.specs.Cmp.{nat_cmp_total as total}
use Rattle.std.specs.FinMap as map
use Rattle.std.specs.FinMap.{nat_cmp-IsAntisymmetric as exact}
use Rattle.hypertrie_model.specs.MapLaws.{remove-insert}
use Rattle.node_table.specs.Table.{Table, Spot}
use Rattle.trie_node.specs.declared.node.Node.{Node}
use Rattle.trie_context.specs.declared.tables.Tables.{Tables}
use Rattle.trie_context.specs.Opened.{IsOpened}
use Rattle.trie_context.specs.MoveLaws.{if_same, if_other, same_or_not}
use Rattle.change_log.specs.declared.step.RowStep.{RowStep}
use Rattle.change_log.specs.declared.step.RowStep.TheVariants.{Opened, Made, Found, Replaced}
use Rattle.change_log.specs.declared.step.Step.{Step}
use Rattle.change_log.specs.declared.step.Step.TheVariants.{Keys, Pairs, Triples}
use Rattle.change_log.specs.PutLaws.{beside_put, here_put}
use Rattle.change_log.specs.Log.{RowDid, StepDid, Leads, Reserved, reserved_in, RowHasPlace, StepHasPlace, row_frees, step_frees, HasPlaces, frees}

module _ (mixed : ℕ → ℕ → ℕ → ℕ → ℕ) where
  -- a row opened has its number reserved, and nothing else is
  opened_frees : (t u : Tables) (d : ℕ) → 1 ≤ d → d ≤ 3 → (place : Spot) (node : Node) → IsOpened mixed t u d place node → (e : ℕ) → row_frees {L = ℕ} {E = ℕ} {S = ℕ} d (Opened place node) (reserved_in u) e ≡ reserved_in t e
  opened_frees t u d low high place node o e = same_or_not e d _
      (λ is. if_same e d _ _ is ∙ subst (λ k. map.remove (reserved_in u k) place.number ≡ reserved_in t k) (sym is) here)
      (λ ne. if_other e d _ _ ne ∙ ap (λ w. reserved_in w e) o.gone ∙ ap (λ (x : Table Node). x.reserved) (beside_put t d _ e ne)) where
        here : map.remove (reserved_in u d) place.number ≡ reserved_in t d
        here =
            ap (λ w. map.remove (reserved_in w d) place.number) o.gone
            ∙ ap (λ (x : Table Node). map.remove x.reserved place.number) (here_put t d low high _)
            ∙ remove-insert total exact (reserved_in t d) place.number place.hash o.free

  row_reserved : {L E S : Type 0} (t u : Tables) (d : ℕ) → 1 ≤ d → d ≤ 3 → (step : RowStep L E S) → RowDid mixed d t step u → (RowHasPlace d step (reserved_in u)) × ((e : ℕ) → row_frees d step (reserved_in u) e ≡ reserved_in t e)
  row_reserved t u d low high (Opened place node) did = (did.reserved, opened_frees t u d low high place node did)
  row_reserved t u d low high (Made row) did = (tt, did.1.moved.reserved)
  row_reserved t u d low high (Found row node) did = (tt, did.moved.reserved)
  row_reserved t u d low high (Replaced old new) did = (tt, did.0.reserved)

  step_reserved : (t u : Tables) (step : Step) → StepDid mixed t step u → (StepHasPlace step (reserved_in u)) × ((e : ℕ) → step_frees step (reserved_in u) e ≡ reserved_in t e)
  step_reserved t u (Keys step) did = row_reserved t u 1 (omega arith) (omega arith) step did
  step_reserved t u (Pairs step) did = row_reserved t u 2 (omega arith) (omega arith) step did
  step_reserved t u (Triples step) did = row_reserved t u 3 (omega arith) (omega arith) step did

  -- each place of the log is reserved, and without them those numbers are that were before
  pub led_reserved : (t u : Tables) (log : List Step) → Leads mixed t log u → (HasPlaces log (reserved_in u)) × ((d : ℕ) → frees log (reserved_in u) d ≡ reserved_in t d)
  led_reserved t u [] led = (tt, λ d. ap (λ w. reserved_in w d) led)
  led_reserved t u (step ∷ steps) led =
      let before = led_reserved t led.0 steps led.1 in
      let s = step_reserved led.0 u step led.3 in
      let now : step_frees step (reserved_in u) ≡ reserved_in led.0 = λ i e. s.1 e i in
      ((s.0, subst (HasPlaces steps) (sym now) before.0), λ d. ap (λ (reserved : Reserved). frees steps reserved d) now ∙ before.1 d)
