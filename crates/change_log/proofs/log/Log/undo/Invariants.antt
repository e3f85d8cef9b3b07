use Rattle.std.proofs.Common.{reverse}
use Rattle.trie_context.specs.declared.tables.Tables.{Tables}
use Rattle.change_log.specs.Log.{Leads}
use Rattle.change_log.proofs.log.Log.undo.Given as goal

-- the steps that are left lead from the same tables to those of now
abbrev pub invariant-loop-step : goal.invariant-loop-step
invariant-loop-step g l = record {
  there : (t : Tables) × Leads g.M.Mix.mixed t (reverse l.done.items) l.context;
  leads : (t : Tables) → Leads g.M.Mix.mixed t l.fn.self.steps l.fn.context → Leads g.M.Mix.mixed t (reverse l.done.items) l.context;
}

abbrev pub decreases-loop-step : goal.decreases-loop-step
decreases-loop-step g l = goal.left-loop-step g l
