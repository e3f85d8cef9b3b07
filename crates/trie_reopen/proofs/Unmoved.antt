-- Tables in which nothing was gained are as before; what follows for want of memory.
use Rattle.std.specs.Prelude.{◌≡◌, ℕ, Option, Result, Ok, Err, OnOk, OnErr}
use Rattle.std.proofs.Common.{arith}
use Rattle.edge_map.specs.declared.edge.Edge.{Edge}
use Rattle.trie_context.specs.declared.tables.Tables.{Tables}
use Rattle.trie_context.specs.FitEdges.{option_leads}
use Rattle.trie_context.specs.Holds.{nothing, RowsStay}
use Rattle.trie_context.specs.Kept.{AreKept, AreMoved}
use Rattle.trie_context.specs.MoveLaws.{at_none, rows_as_before}
use Rattle.trie_context.specs.StayLaws.{as_before}
use Rattle.change_log.specs.Log.{edge_hold}

-- an edge that leads to no row has no hold
pub no_hold : (d : ℕ) (e : Option Edge) → ((r : ℕ) → option_leads e r ≡ 0) → (f r : ℕ) → edge_hold d e f r ≡ 0
no_hold d e none f r = at_none d (option_leads e) none f r

pub unmoved : (mixed : ℕ → ℕ → ℕ → ℕ → ℕ) (t u : Tables) → AreKept mixed t → (d : ℕ) (e : Option Edge) → ((r : ℕ) → option_leads e r ≡ 0) → AreMoved mixed t u (edge_hold d e) nothing → RowsStay t u → u ≡ t
unmoved mixed t u kept d e none moved stay =
    as_before mixed t u u kept moved.kept stay (rows_as_before u) (λ f r. omega (arith, moved.holds f r, no_hold d e none f r)) moved.reserved

pub err_then : {T E : Type 0} (P Q : Type 0) (r : Result T E) → (P → Q) → OnErr r P → OnErr r Q
err_then P Q (Ok x) then h = tt
err_then P Q (Err e) then h = then h

pub ok_holds : {T E : Type 0} (P : Type 0) (r : Result T E) → P → OnOk r P
ok_holds P (Ok x) h = h
ok_holds P (Err e) h = tt
