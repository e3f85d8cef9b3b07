-- The edges at the positions of a changed set of triples: what stays, what is in hand, and what is given back.
use Rattle.std.specs.Prelude.{◌≡◌, ℕ, ◌+◌, ◌≤◌, refl, Option, None, Some, Result, Ok, Err, OnErr}
use Rattle.std.proofs.Common.{sym, ◌∙◌, subst, arith}
use Rattle.trie_context.specs.declared.tables.Tables.{Tables}
use Rattle.trie_context.specs.Rows.{row_of}
use Rattle.trie_context.specs.Kept.{AreKept}
use Rattle.trie_context.specs.Holds.{holds_of, at_depth, nothing, RowsStay, SameReserved}
use Rattle.trie_context.specs.Kept.{AreMoved}
use Rattle.trie_context.specs.MoveLaws.{at_here, moved_on, row_stays_there as still_there}
use Rattle.trie_context.specs.RowLaws.{row_there}
use Rattle.trie_context.specs.StayLaws.{sets_stay, stay_through, as_before}
use Rattle.trie_change.specs.Rooms.{row_set_at, IsRowThere}

-- the row of the old triples stays

pub row_set_stays : (mixed : ℕ → ℕ → ℕ → ℕ → ℕ) (t u : Tables) → AreKept mixed t → RowsStay t u → (o : Option ℕ) → IsRowThere t o → row_set_at u o ≡ row_set_at t o
row_set_stays mixed t u kept stay None there = refl
row_set_stays mixed t u kept stay (Some r) there = let s = row_there (row_of t 3 r) there in sets_stay mixed t u kept stay 3 r s.0 s.1

pub row_stays_there : (t u : Tables) → RowsStay t u → (o : Option ℕ) → IsRowThere t o → IsRowThere u o
row_stays_there t u stay None there = there
row_stays_there t u stay (Some r) there = still_there t u stay 3 r there

-- what was gained and then given up again leaves the tables as before
pub all_given_back : {mixed : ℕ → ℕ → ℕ → ℕ → ℕ} {t m n u : Tables} {gained given : ℕ → ℕ → ℕ} → AreKept mixed t → AreMoved mixed t m gained nothing → RowsStay t m → n ≡ m → AreMoved mixed n u nothing given → RowsStay u n → ((d r : ℕ) → gained d r ≡ given d r) → u ≡ t
all_given_back {mixed = mixed} {t = t} {m = m} {n = n} {u = u} {gained = gained} kept came stay is went back same =
    as_before mixed t n u kept went.kept (subst (RowsStay t) (sym is) stay) back
    (λ d r. let c = subst (λ v. holds_of v d r + 0 ≡ holds_of t d r + gained d r) (sym is) (came.holds d r) in omega (arith, went.holds d r, same d r))
    (λ d. went.reserved d ∙ subst (SameReserved t) (sym is) came.reserved d)

-- the holds of the maps in hand
pub still_held : {mixed : ℕ → ℕ → ℕ → ℕ → ℕ} {t m n : Tables} (e : ℕ → ℕ) → AreMoved mixed t m (at_depth 2 e) nothing → n ≡ m → (r : ℕ) → e r ≤ holds_of n 2 r
still_held e came is r = subst (λ v. e r ≤ holds_of v 2 r) (sym is) (omega (arith, came.holds 2 r, at_here 2 e r))

-- what is left in hand where a part is given up
pub left_held : {mixed : ℕ → ℕ → ℕ → ℕ → ℕ} {t u : Tables} (part e : ℕ → ℕ) → AreMoved mixed t u nothing (at_depth 2 part) → ((r : ℕ) → part r + e r ≤ holds_of t 2 r) → (r : ℕ) → e r ≤ holds_of u 2 r
left_held part e went held r = omega (arith, went.holds 2 r, at_here 2 part r, held r)

pub both_moved : {mixed : ℕ → ℕ → ℕ → ℕ → ℕ} {t u v : Tables} (a b : ℕ → ℕ → ℕ) → AreMoved mixed t u a nothing → AreMoved mixed u v b nothing → AreMoved mixed t v (λ d r. a d r + b d r) nothing
both_moved a b m n = moved_on m n (λ d r. a d r + b d r) nothing (λ d r. omega arith)

pub both_given : {mixed : ℕ → ℕ → ℕ → ℕ → ℕ} {t u v : Tables} (a b : ℕ → ℕ → ℕ) → AreMoved mixed t u nothing a → AreMoved mixed u v nothing b → AreMoved mixed t v nothing (λ d r. a d r + b d r)
both_given a b m n = moved_on m n nothing (λ d r. a d r + b d r) (λ d r. omega arith)

-- where all that was gained is given up again, each row stays
pub stay_again : {mixed : ℕ → ℕ → ℕ → ℕ → ℕ} {t m u : Tables} {gained given : ℕ → ℕ → ℕ} → AreKept mixed t → AreMoved mixed t m gained nothing → RowsStay t m → AreMoved mixed m u nothing given → RowsStay u m → ((d r : ℕ) → gained d r ≡ given d r) → RowsStay t u
stay_again {mixed = mixed} {t = t} {m = m} {u = u} kept came stay went back same =
    stay_through mixed t m u kept went.kept stay back (λ d r. omega (arith, came.holds d r, went.holds d r, same d r))

pub err_holds : {T E P : Type 0} (r : Result T E) → P → OnErr r P
err_holds (Ok x) p = tt
err_holds (Err e) p = p
