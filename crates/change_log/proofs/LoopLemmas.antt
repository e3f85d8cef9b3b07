-- One step of a log settled, or taken back: what is left of the log. Its steps are kept with the newest last, and seen with the newest first.
use Rattle.std.specs.Prelude.{◌≡◌, ℕ, ◌+◌, ◌≤◌, List, [], ◌∷◌, ◌++◌, reverse}
use Rattle.std.proofs.Common.{◌∙◌, ap, sym, subst, arith}
use Rattle.std.proofs.lemmas.List.{reverse-append}
use Rattle.trie_context.specs.declared.tables.Tables.{Tables}
use Rattle.trie_context.specs.Holds.{holds_of, nothing, CountsRiseBy, RowsStay}
use Rattle.trie_context.specs.Kept.{AreKept}
use Rattle.trie_context.specs.Opened.{HoldsAreMoved}
use Rattle.trie_context.specs.MoveLaws.{counts_on, rows_stay_on}
use Rattle.change_log.specs.declared.step.Step.{Step}
use Rattle.change_log.specs.Log.{StepDid, Leads, step_keeps, keeps, Reserved, reserved_in, step_frees, HasPlaces, frees}

pub newest_first : {A : Type 0} (all rest : List A) (x : A) → all ≡ rest ++ (x ∷ []) → reverse all ≡ x ∷ reverse rest
newest_first all rest x is = ap reverse is ∙ reverse-append rest (x ∷ [])

-- what is left of a log to settle, and what fell so far
pub record IsLeft (mixed : ℕ → ℕ → ℕ → ℕ → ℕ) (first now : Tables) (whole left : List Step) : Type 0 where
  pub kept : AreKept mixed now
  pub held : (d r : ℕ) → keeps left d r ≤ holds_of now d r
  pub places : HasPlaces left (reserved_in now)
  pub fallen : (d r : ℕ) → holds_of now d r + keeps whole d r ≡ holds_of first d r + keeps left d r
  pub counts : CountsRiseBy first now nothing
  pub came : RowsStay now first
  pub freed : (d : ℕ) → frees left (reserved_in now) d ≡ frees whole (reserved_in first) d

pub settled_on : (mixed : ℕ → ℕ → ℕ → ℕ → ℕ) (first old new : Tables) (whole all rest : List Step) (step : Step) → all ≡ step ∷ rest → IsLeft mixed first old whole all → HoldsAreMoved mixed old new nothing (step_keeps step)
    → CountsRiseBy old new nothing → RowsStay new old → ((d : ℕ) → reserved_in new d ≡ step_frees step (reserved_in old) d) → IsLeft mixed first new whole rest
settled_on mixed first old new whole all rest step is left fell counts came freed =
    let parts : (d r : ℕ) → keeps all d r ≡ step_keeps step d r + keeps rest d r = λ d r. ap (λ steps. keeps steps d r) is in
    let now : reserved_in new ≡ step_frees step (reserved_in old) = λ i d. freed d i in
    record {
      kept = fell.kept;
      held = λ d r. omega (arith, left.held d r, fell.holds d r, parts d r);
      places = subst (HasPlaces rest) (sym now) (subst (λ steps. HasPlaces steps (reserved_in old)) is left.places).1;
      fallen = λ d r. omega (arith, left.fallen d r, fell.holds d r, parts d r);
      counts = counts_on first old new nothing nothing nothing left.counts counts (λ d r. omega arith);
      came = rows_stay_on new old first came left.came;
      freed = λ d. ap (λ (reserved : Reserved). frees rest reserved d) now ∙ ap (λ steps. frees steps (reserved_in old) d) (sym is) ∙ left.freed d;
    }

-- the newest step, and the tables before it
pub newest : (mixed : ℕ → ℕ → ℕ → ℕ → ℕ) (t old : Tables) (all rest : List Step) (step : Step) → all ≡ step ∷ rest → Leads mixed t all old → (m : Tables) × Leads mixed t rest m × AreKept mixed m × StepDid mixed m step old
newest mixed t old all rest step is leads = subst (λ steps. Leads mixed t steps old) is leads

pub undone_on : (mixed : ℕ → ℕ → ℕ → ℕ → ℕ) (t old new : Tables) (all rest : List Step) (step : Step) → all ≡ step ∷ rest → ((m : Tables) → AreKept mixed m → StepDid mixed m step old → new ≡ m) → Leads mixed t all old → Leads mixed t rest new
undone_on mixed t old new all rest step is undone leads =
    let s = newest mixed t old all rest step is leads in
    subst (Leads mixed t rest) (sym (undone s.0 s.2 s.3)) s.1
