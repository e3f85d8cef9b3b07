-- The triples that were read so far, and those that are to come.
use Rattle.std.proofs.Common.{◌≡◌, ◌∙◌, ℕ, ◌+◌, ◌<◌, ◌≤◌, List, [], ◌∷◌, ◌++◌, length, get_or, refl, sym, ap, subst, append_assoc, Option, Some, None, true, false}
use Rattle.std.specs.Prelude.{map}
use Rattle.query_grammar.specs.Block as model
use Rattle.query_grammar.specs.BlockFront as front
use Rattle.query_grammar.specs.BlockFront.{triples_from, triples_of, with_ended}
use Rattle.query_grammar.specs.Lexemes.{Lexeme}
use Rattle.query_grammar.specs.Meaning.{parts_from}
use Rattle.query_grammar.specs.Signs.{Sign, sign_of, role_of}
use Rattle.query_read.specs.Seen.{triple_seen, next_seen}
use Rattle.query_read.specs.declared.block.Next.{Next}
use Rattle.query_read.specs.declared.block.Triple.{Triple}
use Rattle.query_read.specs.Reads.{block_within}
use Rattle.query_read.proofs.Within.{within_cons, within_none}

-- from a place on, with what is expected there and the brackets that are open
pub record IsBlockSoFar (all : List Lexeme) (from to i : ℕ) (expect : front.Expect) (open_ : List front.Frame) (found : List model.Triple) : Type 0 where
  pub finds : triples_of (parts_from from (block_within from to all)) ≡ with_ended found (triples_from expect open_ (parts_from i (block_within i to all)))

with_none : (o : Option (List model.Triple)) → o ≡ with_ended [] o
with_none None = refl
with_none (Some ts) = refl

with_more : (ts us : List model.Triple) (o : Option (List model.Triple)) → with_ended ts (with_ended us o) ≡ with_ended (ts ++ us) o
with_more ts us None = refl
with_more ts us (Some vs) = ap (λ (l : List model.Triple). Some l) (sym (append_assoc ts us vs))

begins : (all : List Lexeme) (from to : ℕ) → IsBlockSoFar all from to from front.Statement [] []
unfolding triples_of
begins all from to = record { finds = with_none _ }

pub block_begins : (all : List Lexeme) (from to : ℕ) (stack : List front.Frame) (found : List Triple) → stack ≡ [] → found ≡ [] → IsBlockSoFar all from to from front.Statement stack (map triple_seen found)
block_begins all from to stack found none nothing =
    subst (λ (fs : List front.Frame). IsBlockSoFar all from to from front.Statement fs (map triple_seen found)) (sym none)
    (subst (λ (ts : List Triple). IsBlockSoFar all from to from front.Statement [] (map triple_seen ts)) (sym nothing) (begins all from to))

-- the step of the program is that of the definitions
pub step_none : (r : Option Next) (stack old : List front.Frame) (expect : front.Expect) (role : model.Role) (sign : Sign) (l : Lexeme) (i : ℕ) → next_seen r stack ≡ front.step expect old role i → r ≡ None
    → role ≡ role_of sign → sign ≡ sign_of l → None ≡ front.step expect old (role_of (sign_of l)) i
step_none r stack old expect role sign l i e is f g =
    ap (λ (o : Option Next). next_seen o stack) (sym is) ∙ e ∙ ap (λ (x : model.Role). front.step expect old x i) (f ∙ ap role_of g)

pub step_some : (r : Option Next) (n : Next) (stack old : List front.Frame) (expect : front.Expect) (role : model.Role) (sign : Sign) (l : Lexeme) (i : ℕ) → next_seen r stack ≡ front.step expect old role i → r ≡ Some n
    → role ≡ role_of sign → sign ≡ sign_of l → next_seen (Some n) stack ≡ front.step expect old (role_of (sign_of l)) i
step_some r n stack old expect role sign l i e is f g =
    ap (λ (o : Option Next). next_seen o stack) (sym is) ∙ e ∙ ap (λ (x : model.Role). front.step expect old x i) (f ∙ ap role_of g)

here : (all : List Lexeme) (l : Lexeme) (i to : ℕ) → i < to → to ≤ length all → l ≡ get_or all i l → parts_from i (block_within i to all) ≡ model.part (role_of (sign_of l)) i ∷ parts_from (i + 1) (block_within (i + 1) to all)
here all l i to h k e = ap (parts_from i) (within_cons all l i to h k e)

pub block_goes_on : (all : List Lexeme) (l : Lexeme) (from to i : ℕ) (expect : front.Expect) (old : List front.Frame) (next : front.Next) (found more : List model.Triple) → IsBlockSoFar all from to i expect old found
    → i < to → to ≤ length all → l ≡ get_or all i l → Some next ≡ front.step expect old (role_of (sign_of l)) i → more ≡ found ++ next.ended → IsBlockSoFar all from to (i + 1) next.expect next.stack more
block_goes_on all l from to i expect old next found more s h k e step new = record {
  finds = s.finds ∙ ap (with_ended found) (ap (triples_from expect old) (here all l i to h k e) ∙ stepped (front.step expect old (role_of (sign_of l)) i) (sym step))
      ∙ with_more found next.ended _ ∙ ap (λ (ts : List model.Triple). with_ended ts (triples_from next.expect next.stack (parts_from (i + 1) (block_within (i + 1) to all)))) (sym new);
}
  where
    stepped : (o : Option front.Next) → o ≡ Some next
        → ◌≡◌ {A = Option (List model.Triple)} (elim o [ None ↦ None | Some n ↦ with_ended n.ended (triples_from n.expect n.stack (parts_from (i + 1) (block_within (i + 1) to all))) ])
        (with_ended next.ended (triples_from next.expect next.stack (parts_from (i + 1) (block_within (i + 1) to all))))
    stepped o is = rw is refl

pub block_fails : (all : List Lexeme) (l : Lexeme) (from to i : ℕ) (expect : front.Expect) (old : List front.Frame) (found : List model.Triple) → IsBlockSoFar all from to i expect old found
    → i < to → to ≤ length all → l ≡ get_or all i l → None ≡ front.step expect old (role_of (sign_of l)) i → None ≡ triples_of (parts_from from (block_within from to all))
block_fails all l from to i expect old found s h k e step =
    sym (s.finds ∙ ap (with_ended found) (ap (triples_from expect old) (here all l i to h k e) ∙ stepped (front.step expect old (role_of (sign_of l)) i) (sym step)))
  where
    stepped : (o : Option front.Next) → o ≡ None
        → ◌≡◌ {A = Option (List model.Triple)} (elim o [ None ↦ None | Some n ↦ with_ended n.ended (triples_from n.expect n.stack (parts_from (i + 1) (block_within (i + 1) to all))) ]) None
    stepped o is = rw is refl

append_nil : (xs : List model.Triple) → xs ++ [] ≡ xs
append_nil [] = refl
append_nil (x ∷ xs) = ap (λ (ys : List model.Triple). x ∷ ys) (append_nil xs)

at_end : (all : List Lexeme) (from to i : ℕ) (expect : front.Expect) (stack : List front.Frame) (found : List model.Triple) → IsBlockSoFar all from to i expect stack found → to ≤ i
    → triples_of (parts_from from (block_within from to all)) ≡ with_ended found (triples_from expect stack [])
at_end all from to i expect stack found s h = s.finds ∙ ap (λ (ls : List Lexeme). with_ended found (triples_from expect stack (parts_from i ls))) (within_none all i to h)

pub block_ends : (all : List Lexeme) (from to i : ℕ) (expect : front.Expect) (stack : List front.Frame) (found : List model.Triple) → IsBlockSoFar all from to i expect stack found → to ≤ i
    → front.may_end expect stack ≡ true → Some found ≡ triples_of (parts_from from (block_within from to all))
block_ends all from to i expect stack found s h e =
    sym (at_end all from to i expect stack found s h ∙ rw e (ap (λ (l : List model.Triple). Some l) (append_nil found)))

pub block_is_cut_off : (all : List Lexeme) (from to i : ℕ) (expect : front.Expect) (stack : List front.Frame) (found : List model.Triple) → IsBlockSoFar all from to i expect stack found → to ≤ i
    → front.may_end expect stack ≡ false → None ≡ triples_of (parts_from from (block_within from to all))
block_is_cut_off all from to i expect stack found s h e =
    sym (at_end all from to i expect stack found s h ∙ rw e refl)
