use Rattle.std.proofs.Common.{◌≡◌, ◌∙◌, ap, sym, subst, IfSome, arith}
use Rattle.std.specs.FinSet as set
use Rattle.node_table.specs.Table.{row_at}
use Rattle.trie_context.specs.declared.root.Root.TheVariants.{Many}
use Rattle.trie_context.specs.declared.tables.Tables.{Tables}
use Rattle.trie_context.specs.RootShape.{OnlyRootHeld}
use Rattle.trie_context.specs.Roots.{root_set}
use Rattle.trie_context.specs.Rows.{row_of}
use Rattle.trie_update.proofs.RootHolds.{few_triples, only_count, count_read}
use Rattle.trie_update.proofs.replaced.row_to_open.Goals as goal
use Rattle.trie_update.proofs.replaced.row_to_open.Goals.{else-count-eq1-via-then-count-eq1+else-size-batch, else-count-eq1-via-else-count-eq1}

pub returns-in_default : goal.returns-in_default
returns-in_default g c = record {
  there = tt;
  alone = tt;
  large = tt;
  small = λ _ only. omega (arith, few_triples c.args.context.now c.args.root.now c.in_default.not-Many);
}

pub returns-else-count-eq1-clause-small : goal.returns-else-count-eq1-clause-small
returns-else-count-eq1-clause-small g c none only =
    let t = c.args.context.now in
    let is = c.in-Many.is ∙ ap Many (sym c.row-row.ensures) in
    let sized : c.triple_figures-size.result.0 ≡ set.len (root_set t c.args.root.now) = c.triple_figures-size.ensures.size ∙ ap (λ r. set.len (root_set t r)) (sym is) in
    let read = subst (λ (u : Tables). IfSome (row_at u.three c.row-row.result) (λ row. row.count ≡ c.count.result)) c.tables.ensures.same c.count.ensures in
    let one = count_read (row_of t 3 c.row-row.result) c.count.result read (only_count g.M.Mix.mixed t c.tables.ensures.kept c.row-row.result (subst (OnlyRootHeld t) is only)) in
    elim c.else-count-eq1.branch [
      | else-count-eq1-via-then-count-eq1+else-size-batch w ↦ omega (arith, sized, w.if-size-batch.false)
      | else-count-eq1-via-else-count-eq1 w ↦ absurd (w.if-count-eq1.false one)
    ]
