use Rattle.std.proofs.Common.{◌≡◌, ◌≤◌, ◌<◌, ◌+◌, None, IsSome, [], ◌∷◌, ◌++◌, is_some, refl, ap, ◌∙◌, ℕ, List, arith}
use Rattle.std.specs.Ordering.{nat_cmp}
use Rattle.hypertrie_model.specs.Sets.{single}
use Rattle.rdf_model.specs.Terms.{Text}
use Rattle.term_dict.specs.Dict.{Terms}
use Rattle.trie_context.specs.declared.tables.Tables.{Tables}
use Rattle.trie_context.specs.Rows.{row_of, rows_at}
use Rattle.trie_context.specs.RowLaws.{row_there}
use Rattle.graph_lines.specs.Walks.{key_set, row_text}
use Rattle.graph_lines.proofs.WalkLemmas.{Walked, walked_none}
use Rattle.graph_lines.proofs.MapLemmas.{map_done, map_next}
use Rattle.graph_lines.proofs.MemberLemmas.{added_single}
use Rattle.graph_lines.proofs.row_lines.add_row_lines.Goals as goal

-- the lines of the rows below the number k + 1, once that of the row k came to those of the rows below `from`
one_line_more : (terms : Terms) (t : Tables) (d k : ℕ) → IsSome (row_of t d k) → (from : ℕ) → from ≤ k → ((q : ℕ) → from ≤ q → q < k → row_of t d q ≡ None)
    → (old mid now : List Text) → now ≡ mid ++ row_text terms t d (k ∷ []) ∷ []
    → Walked (row_text terms t d) (key_set (rows_at t d)) from old mid → Walked (row_text terms t d) (key_set (rows_at t d)) (k + 1) old now
one_line_more terms t d k there from high least old mid now pushed walked =
    let text : List ℕ → Text = row_text terms t d in
    let row = row_there (row_of t d k) there in
    map_next (rows_at t d) (λ _. single nat_cmp []) text (λ u. text (k ∷ u)) k row.0 row.1 (λ _. refl) from high least old mid now walked
    (added_single (λ u. text (k ∷ u)) [] mid now pushed)

pub loop-row-init : goal.loop-row-init
loop-row-init c = walked_none (row_text c.args.all.dict.now c.args.all.tables.now c.args.depth) (key_set (rows_at c.args.all.tables.now c.args.depth)) c.args.lines.now.items

pub returns-in_default : goal.returns-in_default
returns-in_default c =
    map_done (rows_at c.args.all.tables.now c.args.depth) (λ _. single nat_cmp []) (row_text c.args.all.dict.now c.args.all.tables.now c.args.depth) c.args.lines.now.items c.loop-row.lines.items c.loop-row.from
    (c.next_row.ensures.none (ap is_some c.in_default.is)) c.loop-row.invariant

pub loop-row-preserved : goal.loop-row-preserved
loop-row-preserved c =
    one_line_more c.args.all.dict.now c.args.all.tables.now c.args.depth c.in-Some.row c.in-Some.ensures.there c.loop-row.from c.in-Some.ensures.from c.in-Some.ensures.least
    c.args.lines.now.items c.loop-row.lines.items c.push.new.self.items
    (c.in_ok-push.ensures.items ∙ ap (λ (w : Text). c.loop-row.lines.items ++ w ∷ []) c.in_ok-line_at.ensures) c.loop-row.invariant

-- no row has a greater number than the last there is
pub returns-then-row : goal.returns-then-row
returns-then-row c =
    map_done (rows_at c.args.all.tables.now c.args.depth) (λ _. single nat_cmp []) (row_text c.args.all.dict.now c.args.all.tables.now c.args.depth) c.args.lines.now.items c.push.new.self.items (c.in-Some.row + 1)
    (λ r high. c.next_row.ensures.numbers r (omega (arith, c.if-row.true)))
    (one_line_more c.args.all.dict.now c.args.all.tables.now c.args.depth c.in-Some.row c.in-Some.ensures.there c.loop-row.from c.in-Some.ensures.from c.in-Some.ensures.least
    c.args.lines.now.items c.loop-row.lines.items c.push.new.self.items
    (c.in_ok-push.ensures.items ∙ ap (λ (w : Text). c.loop-row.lines.items ++ w ∷ []) c.in_ok-line_at.ensures) c.loop-row.invariant)
