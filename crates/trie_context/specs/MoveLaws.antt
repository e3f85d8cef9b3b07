-- Several changes of the tables in a row: what becomes of the holds, the rows and the counts.
use Rattle.std.specs.Prelude.{◌≡◌, ℕ, zero, suc, ◌+◌, ◌-◌, ◌≤◌, ◌<◌, ◌^◌, ◌≢◌, true, false, cond, nat_eq, refl, Option, None, Some, IsSome, option_map}
use Rattle.std.proofs.Common.{sym, ◌∙◌, ap, subst, arith}
use Rattle.std.proofs.lemmas.Bool.Decides.{nat_tests}
use Rattle.std.specs.Ordering.{nat_cmp}
use Rattle.std.specs.Cmp.{nat_cmp_total as total}
use Rattle.std.specs.FinMap as map
use Rattle.std.specs.FinMap.{nat_cmp-IsAntisymmetric as exact}
use Rattle.hypertrie_model.specs.MapLaws.{by_key}
use Rattle.edge_map.specs.declared.edge.Edge.{Edge}
use Rattle.edge_map.specs.declared.edge.Edge.TheVariants.{Key, Node as ToRow}
use Rattle.node_table.specs.Table.{Row}
use Rattle.trie_node.specs.declared.node.Node.{Node}
use Rattle.trie_node.specs.Sets.{leads}
use Rattle.trie_context.specs.declared.tables.Tables.{Tables}
use Rattle.trie_context.specs.Rows.{row_of, node_of, LeadsToRow}
use Rattle.trie_context.specs.Holds.{count_of, holds_of, one_at, at_depth, nothing, HasRoom, CountsRiseBy, RowsStay}
use Rattle.trie_context.specs.Kept.{AreKept, AreMoved}
use Rattle.trie_context.specs.RowLaws.{row_there}

-- depths

-- a depth with rows is one above another number
pub from_one : (P : ℕ → Type 0) (k : ℕ) → 1 ≤ k → ((j : ℕ) → P (suc j)) → P k
from_one P zero low h = absurd (omega arith)
from_one P (suc j) low h = h j

pub less_one : (j : ℕ) → j ≡ suc j - 1
less_one j = omega arith

-- numbers at the rows of one depth

eq_true : (a b : ℕ) → a ≡ b → nat_eq a b ≡ true
eq_true a b h = grind (arith, nat_tests)

eq_false : (a b : ℕ) → a ≢ b → nat_eq a b ≡ false
eq_false a b h = grind (arith, nat_tests)

pub if_same : {X : Type 0} (a b : ℕ) (x y : X) → a ≡ b → cond (nat_eq a b) x y ≡ x
if_same a b x y is = ap (λ t. cond t x y) (eq_true a b is)

pub if_other : {X : Type 0} (a b : ℕ) (x y : X) → a ≢ b → cond (nat_eq a b) x y ≡ y
if_other a b x y ne = ap (λ t. cond t x y) (eq_false a b ne)

pub same_or_not : (a b : ℕ) (P : Type 0) → (a ≡ b → P) → (a ≢ b → P) → P
same_or_not a b P = by_key total exact (λ _. P) a b

pub at_here : (d : ℕ) (n : ℕ → ℕ) (r : ℕ) → at_depth d n d r ≡ n r
at_here d n r = if_same d d (n r) 0 refl

pub at_other : (d : ℕ) (n : ℕ → ℕ) (e r : ℕ) → e ≢ d → at_depth d n e r ≡ 0
at_other d n e r ne = if_other e d (n r) 0 ne

-- sums of parts, at each depth
pub at_sum : (d : ℕ) (n m p : ℕ → ℕ) → ((r : ℕ) → n r ≡ m r + p r) → (e r : ℕ) → at_depth d n e r ≡ at_depth d m e r + at_depth d p e r
at_sum d n m p same e r = same_or_not e d _
    (λ is. omega (arith, if_same e d (n r) 0 is, if_same e d (m r) 0 is, if_same e d (p r) 0 is, same r))
    (λ ne. omega (arith, if_other e d (n r) 0 ne, if_other e d (m r) 0 ne, if_other e d (p r) 0 ne))

pub at_same : (d : ℕ) (n m : ℕ → ℕ) → ((r : ℕ) → n r ≡ m r) → (e r : ℕ) → at_depth d n e r ≡ at_depth d m e r
at_same d n m same e r = same_or_not e d _ (λ is. if_same e d (n r) 0 is ∙ same r ∙ sym (if_same e d (m r) 0 is)) (λ ne. if_other e d (n r) 0 ne ∙ sym (if_other e d (m r) 0 ne))

pub at_most : (d : ℕ) (n : ℕ → ℕ) (k : ℕ) → ((r : ℕ) → n r ≤ k) → (e r : ℕ) → at_depth d n e r ≤ k
at_most d n k few e r = same_or_not e d _ (λ is. omega (arith, if_same e d (n r) 0 is, few r)) (λ ne. omega (arith, if_other e d (n r) 0 ne))

pub at_none : (d : ℕ) (n : ℕ → ℕ) → ((r : ℕ) → n r ≡ 0) → (e r : ℕ) → at_depth d n e r ≡ 0
at_none d n none e r = same_or_not e d _ (λ is. if_same e d (n r) 0 is ∙ none r) (λ ne. if_other e d (n r) 0 ne)

pub zero_at : (d e r : ℕ) → at_depth d (λ _. 0) e r ≡ 0
zero_at d = at_none d (λ _. 0) (λ r. refl)

pub one_here : (k : ℕ) → one_at k k ≡ 1
one_here k = if_same k k 1 0 refl

pub one_elsewhere : (k r : ℕ) → r ≢ k → one_at k r ≡ 0
one_elsewhere k r ne = if_other r k 1 0 ne

pub one_at_most : (k r : ℕ) → one_at k r ≤ 1
one_at_most k r = same_or_not r k _ (λ is. omega (arith, if_same {X = ℕ} r k 1 0 is)) (λ ne. omega (arith, one_elsewhere k r ne))

-- an edge to a row takes the place of one hold on it
pub leads_one : (n r : ℕ) → leads (ToRow n) r ≡ one_at n r
leads_one n r = same_or_not n r _ (λ is. if_same n r 1 0 is ∙ sym (if_same r n 1 0 (sym is))) (λ ne. if_other n r 1 0 ne ∙ sym (if_other r n 1 0 (λ is. ne (sym is))))

pub leads_at_most : (e : Edge) (r : ℕ) → leads e r ≤ 1
leads_at_most (Key x) r = omega arith
leads_at_most (ToRow n) r = omega (arith, leads_one n r, one_at_most n r)

-- holds

-- the same moves, otherwise written
pub moved_as : {mixed : ℕ → ℕ → ℕ → ℕ → ℕ} {t u : Tables} {gained given : ℕ → ℕ → ℕ} → AreMoved mixed t u gained given → (more less : ℕ → ℕ → ℕ) → ((d r : ℕ) → gained d r + less d r ≡ given d r + more d r) → AreMoved mixed t u more less
moved_as m more less same = record { kept = m.kept; holds = λ d r. omega (arith, m.holds d r, same d r); reserved = m.reserved }

-- one move after another
pub moved_on : {mixed : ℕ → ℕ → ℕ → ℕ → ℕ} {t u v : Tables} {gained given gained2 given2 : ℕ → ℕ → ℕ} → AreMoved mixed t u gained given → AreMoved mixed u v gained2 given2
    → (more less : ℕ → ℕ → ℕ) → ((d r : ℕ) → (gained d r + gained2 d r) + less d r ≡ (given d r + given2 d r) + more d r) → AreMoved mixed t v more less
moved_on m n more less same = record { kept = n.kept; holds = λ d r. omega (arith, m.holds d r, n.holds d r, same d r); reserved = λ d. n.reserved d ∙ m.reserved d }

-- where nothing moves
pub moved_none : (mixed : ℕ → ℕ → ℕ → ℕ → ℕ) (t : Tables) → AreKept mixed t → (given : ℕ → ℕ → ℕ) → ((d r : ℕ) → given d r ≡ 0) → AreMoved mixed t t nothing given
moved_none mixed t kept given none = record { kept = kept; holds = λ d r. omega (arith, none d r); reserved = λ d. refl }

pub gained_none : (mixed : ℕ → ℕ → ℕ → ℕ → ℕ) (t : Tables) → AreKept mixed t → (gained : ℕ → ℕ → ℕ) → ((d r : ℕ) → gained d r ≡ 0) → AreMoved mixed t t gained nothing
gained_none mixed t kept gained none = record { kept = kept; holds = λ d r. omega (arith, none d r); reserved = λ d. refl }

-- a row with a hold is there
pub there_row : (t : Tables) (d i : ℕ) → 1 ≤ holds_of t d i → (row : Row Node) × (row_of t d i ≡ Some row)
there_row t d i held = by (row_of t d i) refl where
  by : (o : Option (Row Node)) → row_of t d i ≡ o → (row : Row Node) × (row_of t d i ≡ Some row)
  by None e = absurd (let c : count_of (row_of t d i) ≡ 0 = ap count_of e in omega arith)
  by (Some row) e = (row, e)

pub held_there : (t : Tables) (d i : ℕ) → 1 ≤ holds_of t d i → IsSome (row_of t d i)
held_there t d i held = let s = there_row t d i held in subst IsSome (sym s.1) refl

-- below depth one there is nothing to hold
pub no_holds : (t : Tables) (r : ℕ) → holds_of t 0 r ≡ 0
no_holds t r = let c : count_of (row_of t 0 r) ≡ 0 = ap count_of (map.get-empty nat_cmp r) in omega arith

-- rows

pub rows_as_before : (t : Tables) → RowsStay t t
rows_as_before t d r row at = (row, at, refl)

pub rows_stay_on : (t u v : Tables) → RowsStay t u → RowsStay u v → RowsStay t v
rows_stay_on t u v first second d r row at =
    let a = first d r row at in
    let b = second d r a.0 a.1 in
    (b.0, b.1, b.2 ∙ a.2)

pub row_stays_there : (t u : Tables) → RowsStay t u → (d r : ℕ) → IsSome (row_of t d r) → IsSome (row_of u d r)
row_stays_there t u stay d r there =
    let s = row_there (row_of t d r) there in
    subst IsSome (sym (stay d r s.0 s.1).1) refl

pub leads_stay : (t u : Tables) → RowsStay t u → (d : ℕ) (e : Edge) → LeadsToRow t d e → LeadsToRow u d e
leads_stay t u stay d (Key x) there = tt
leads_stay t u stay d (ToRow n) there = row_stays_there t u stay d n there

pub node_stays : (t u : Tables) → RowsStay t u → (d k : ℕ) (node : Node) → node_of t d k ≡ Some node → node_of u d k ≡ Some node
node_stays t u stay d k node at = by (row_of t d k) refl where
  by : (o : Option (Row Node)) → row_of t d k ≡ o → node_of u d k ≡ Some node
  by None e = absurd (let f : None ≡ Some node = sym (ap (option_map (λ (r : Row Node). r.node)) e) ∙ at in cc)
  by (Some row) e =
      let s = stay d k row e in
      let same : Some row.node ≡ Some node = sym (ap (option_map (λ (r : Row Node). r.node)) e) ∙ at in
      ap (option_map (λ (r : Row Node). r.node)) s.1 ∙ ap Some s.2 ∙ same

pub node_there : (t : Tables) (d k : ℕ) (node : Node) → node_of t d k ≡ Some node → IsSome (row_of t d k)
node_there t d k node at = by (row_of t d k) at where
  by : (o : Option (Row Node)) → option_map (λ (r : Row Node). r.node) o ≡ Some node → IsSome o
  by None e = absurd (let f : None ≡ Some node = e in cc)
  by (Some row) e = refl

-- counts

pub counts_as_before : (t : Tables) (most : ℕ → ℕ → ℕ) → CountsRiseBy t t most
counts_as_before t most d r = omega arith

pub counts_on : (t u v : Tables) (first second most : ℕ → ℕ → ℕ) → CountsRiseBy t u first → CountsRiseBy u v second → ((d r : ℕ) → first d r + second d r ≤ most d r) → CountsRiseBy t v most
counts_on t u v first second most a b le d r = omega (arith, a d r, b d r, le d r)

pub counts_as : (t u : Tables) (first most : ℕ → ℕ → ℕ) → CountsRiseBy t u first → ((d r : ℕ) → first d r ≤ most d r) → CountsRiseBy t u most
counts_as t u first most a le d r = omega (arith, a d r, le d r)

-- room for more is left where no count comes to the bound
pub room_left : (t : Tables) → ((d r : ℕ) → count_of (row_of t d r) < 2 ^ 100) → HasRoom t
room_left t few d r row at = let c : count_of (row_of t d r) ≡ row.count = ap count_of at in omega (arith, few d r)
