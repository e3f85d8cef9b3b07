-- Each label of a query stands in one of its patterns.
use Rattle.std.proofs.Common.{◌≡◌, ◌∙◌, ℕ, ◌+◌, ◌<◌, ◌≤◌, ◌-◌, Bool, true, false, cond, List, [], ◌∷◌, ◌++◌, length, refl, sym, ap, subst, arith, Option, Some, None}
use Rattle.std.specs.Prelude.{IfSome, map, nat_eq, ◌||◌}
use Rattle.std.specs.List.{AllByRecursion, list_any}
use Rattle.std.proofs.lemmas.Bool.Decides.{nat_tests}
use Rattle.query_grammar.specs.Block.{Triple, IsBlock}
use Rattle.query_grammar.specs.Lexemes.{Lexeme}
use Rattle.query_grammar.specs.Meaning as meaning
use Rattle.query_grammar.specs.Meaning.{Name, Place, LabelAt, Const, Pattern, number_among, names_from, name_of, parts_from, at, place_at, label_or_term, term_at, pattern_by, pattern_at, pattern_before, patterns_of, column_of}
use Rattle.query_plan.specs.Labels as plan
use Rattle.query_plan.specs.Seen.{place_seen, pattern_seen, column_seen}
use Rattle.query_plan.specs.declared.columns.Column.{Column}
use Rattle.query_plan.specs.declared.query.Query.{Query}
use Rattle.query_plan.specs.declared.patterns.Pattern as code
use Rattle.query_plan.specs.declared.patterns.Place as code_place
use Rattle.query_plan.specs.declared.patterns.Place.TheVariants as variant
use Rattle.query_read.specs.LabelledBlock.{place_labels, labels_of, IsLabelIn, AllStanding, IsLabelledBlock}
use Rattle.query_read.specs.Reads.{block_within}
use Rattle.query_read.proofs.LabelsTouched.{AllTriples, all_join, all_left, all_right, block_labels, block_touched, block_placed}
use Rattle.query_read.proofs.NamesNumbered.{numbered, AllNamed, all_named, all_at, Has, each_has, size_all, aligned, named_at, at_named, any_before_end}

-- what holds of the numbers of names, at a place of the tokens
abbrev Numbered : (ℕ → Type 0) → List Lexeme → List Name → ℕ → Type 0
Numbered R all names i = IfSome (name_of (at all i) i) (λ n. R (number_among names n))

place_down : (R : ℕ → Type 0) (all : List Lexeme) (names : List Name) (i : ℕ) (p : Place) → place_at all names i ≡ Some p → AllByRecursion R (place_labels p) → Numbered R all names i
place_down R all names i p e h = by (name_of (at all i) i) e
  where
    by : (o : Option Name) → label_or_term names o (term_at all i) ≡ Some p → IfSome o (λ n. R (number_among names n))
    by None e = tt
    by (Some n) e =
        let is : LabelAt (number_among names n) ≡ p = cc in
        (subst (λ (q : Place). AllByRecursion R (place_labels q)) (sym is) h).0

place_up : (R : ℕ → Type 0) (all : List Lexeme) (names : List Name) (i : ℕ) (p : Place) → place_at all names i ≡ Some p → Numbered R all names i → AllByRecursion R (place_labels p)
place_up R all names i p e h = by (name_of (at all i) i) e h
  where
    term : (o : Option Rattle.rdf_model.specs.Terms.Term) → meaning.label_or_term names None o ≡ Some p → AllByRecursion R (place_labels p)
    term None f = let g : ◌≡◌ {A = Option Place} None (Some p) = f in cc
    term (Some t) f = let is : Const t ≡ p = cc in subst (λ (q : Place). AllByRecursion R (place_labels q)) is tt

    by : (o : Option Name) → label_or_term names o (term_at all i) ≡ Some p → IfSome o (λ n. R (number_among names n)) → AllByRecursion R (place_labels p)
    by None e h = term (term_at all i) e
    by (Some n) e h = let is : LabelAt (number_among names n) ≡ p = cc in subst (λ (q : Place). AllByRecursion R (place_labels q)) is (h, tt)

-- the parts of a pattern
record IsPatternAt (all : List Lexeme) (names : List Name) (t : Triple) (q : Pattern) : Type 0 where
  s : place_at all names t.s ≡ Some q.s
  p : place_at all names t.p ≡ Some q.p
  o : place_at all names t.o ≡ Some q.o

pattern_parts : (all : List Lexeme) (names : List Name) (t : Triple) (q : Pattern) → pattern_at all names t ≡ Some q → IsPatternAt all names t q
pattern_parts all names t q e = by (place_at all names t.s) (place_at all names t.p) (place_at all names t.o) refl refl refl e
  where
    by : (a b c : Option Place) → place_at all names t.s ≡ a → place_at all names t.p ≡ b → place_at all names t.o ≡ c → pattern_by a b c ≡ Some q → IsPatternAt all names t q
    by (Some x) (Some y) (Some z) f g h e =
        let is : record { s = x; p = y; o = z } ≡ q = cc in
        record { s = f ∙ ap (λ (q : Pattern). Some q.s) is; p = g ∙ ap (λ (q : Pattern). Some q.p) is; o = h ∙ ap (λ (q : Pattern). Some q.o) is }
    by None b c f g h e = let e2 : ◌≡◌ {A = Option Pattern} None (Some q) = e in cc
    by (Some x) None c f g h e = let e2 : ◌≡◌ {A = Option Pattern} None (Some q) = e in cc
    by (Some x) (Some y) None f g h e = let e2 : ◌≡◌ {A = Option Pattern} None (Some q) = e in cc

-- the first pattern and the others
record AreFirst (all : List Lexeme) (names : List Name) (t : Triple) (ts : List Triple) (ps : List Pattern) : Type 0 where
  q : Pattern
  qs : List Pattern
  is : ps ≡ q ∷ qs
  first : pattern_at all names t ≡ Some q
  others : patterns_of all names ts ≡ Some qs

patterns_parts : (all : List Lexeme) (names : List Name) (t : Triple) (ts : List Triple) (ps : List Pattern) → patterns_of all names (t ∷ ts) ≡ Some ps → AreFirst all names t ts ps
patterns_parts all names t ts ps e = by (pattern_at all names t) (patterns_of all names ts) refl refl e
  where
    by : (a : Option Pattern) (b : Option (List Pattern)) → pattern_at all names t ≡ a → patterns_of all names ts ≡ b → pattern_before a b ≡ Some ps → AreFirst all names t ts ps
    by (Some q) (Some qs) f g e = record { q = q; qs = qs; is = (let i : q ∷ qs ≡ ps = cc in sym i); first = f; others = g }
    by None b f g e = let e2 : ◌≡◌ {A = Option (List Pattern)} None (Some ps) = e in cc
    by (Some q) None f g e = let e2 : ◌≡◌ {A = Option (List Pattern)} None (Some ps) = e in cc

down : (R : ℕ → Type 0) (all : List Lexeme) (names : List Name) (ts : List Triple) (ps : List Pattern) → patterns_of all names ts ≡ Some ps → AllStanding R ps → AllTriples (Numbered R all names) ts
down R all names [] ps e h = tt
down R all names (t ∷ ts) ps e h =
    let f = patterns_parts all names t ts ps e in
    let g = pattern_parts all names t f.q f.first in
    let k = subst (AllStanding R) f.is h in
    let rest = all_right R (place_labels f.q.s) (place_labels f.q.p ++ place_labels f.q.o) k.0 in (
      (
        place_down R all names t.s f.q.s g.s (all_left R (place_labels f.q.s) (place_labels f.q.p ++ place_labels f.q.o) k.0),
        place_down R all names t.p f.q.p g.p (all_left R (place_labels f.q.p) (place_labels f.q.o) rest),
        place_down R all names t.o f.q.o g.o (all_right R (place_labels f.q.p) (place_labels f.q.o) rest),
      ),
      down R all names ts f.qs f.others k.1,
    )

up : (R : ℕ → Type 0) (all : List Lexeme) (names : List Name) (ts : List Triple) (ps : List Pattern) → patterns_of all names ts ≡ Some ps → AllTriples (Numbered R all names) ts → AllStanding R ps
up R all names [] ps e h = let is : [] ≡ ps = cc in subst (AllStanding R) is tt
up R all names (t ∷ ts) ps e h =
    let f = patterns_parts all names t ts ps e in
    let g = pattern_parts all names t f.q f.first in
    subst (AllStanding R) (sym f.is) (
      all_join R (place_labels f.q.s) (place_labels f.q.p ++ place_labels f.q.o) (place_up R all names t.s f.q.s g.s h.0.0)
          (all_join R (place_labels f.q.p) (place_labels f.q.o) (place_up R all names t.p f.q.p g.p h.0.1) (place_up R all names t.o f.q.o g.o h.0.2)),
      up R all names ts f.qs f.others h.1,
    )

-- Each label of a pattern stands in one

or_right : (t u : Bool) → u ≡ true → (t || u) ≡ true
or_right true u e = refl
or_right false u e = e

or_left : (t u : Bool) → t ≡ true → (t || u) ≡ true
or_left t u e = ap (λ (b : Bool). b || u) e

all_weaken : {A : Type 0} (P Q : A → Type 0) → ((x : A) → P x → Q x) → (xs : List A) → AllByRecursion P xs → AllByRecursion Q xs
all_weaken P Q f [] h = tt
all_weaken P Q f (x ∷ xs) h = (f x h.0, all_weaken P Q f xs h.1)

among : (ls : List ℕ) → AllByRecursion (λ l. list_any (nat_eq l) ls ≡ true) ls
among [] = tt
among (l ∷ ls) = (or_left (nat_eq l l) (list_any (nat_eq l) ls) (equal l l refl), all_weaken (λ m. list_any (nat_eq m) ls ≡ true) (λ m. list_any (nat_eq m) (l ∷ ls) ≡ true) (λ m e. or_right (nat_eq m l) (list_any (nat_eq m) ls) e) ls (among ls))
  where
    equal : (a b : ℕ) → a ≡ b → nat_eq a b ≡ true
    equal a b e = grind (arith, nat_tests)

all_stand : (ps : List Pattern) → AllStanding (IsLabelIn ps) ps
all_stand [] = tt
all_stand (p ∷ ps) = (
  all_weaken (λ l. list_any (nat_eq l) (labels_of p) ≡ true) (IsLabelIn (p ∷ ps)) (λ l e. or_left (list_any (nat_eq l) (labels_of p)) (list_any (λ q. list_any (nat_eq l) (labels_of q)) ps) e) (labels_of p) (among (labels_of p)),
  all_weaken (λ q. AllByRecursion (IsLabelIn ps) (labels_of q)) (λ q. AllByRecursion (IsLabelIn (p ∷ ps)) (labels_of q))
      (λ q h. all_weaken (IsLabelIn ps) (IsLabelIn (p ∷ ps)) (λ l e. or_right (list_any (nat_eq l) (labels_of p)) (list_any (λ q. list_any (nat_eq l) (labels_of q)) ps) e) (labels_of q) h) ps (all_stand ps),
)

-- Blocks

pub labelled_block : (all : List Lexeme) (from to : ℕ) (ts : List Triple) (ps : List Pattern) → IsBlock (parts_from from (block_within from to all)) ts
    → patterns_of all (names_from [] from (block_within from to all)) ts ≡ Some ps → IsLabelledBlock (names_from [] from (block_within from to all)) ps
labelled_block all from to ts ps b e =
    let block = block_within from to all in
    let names = names_from [] from block in
    let lined = aligned all (to - from) from in
    let touched = block_touched (Numbered (IsLabelIn ps) all names) (parts_from from block) ts b (down (IsLabelIn ps) all names ts ps e (all_stand ps)) in
    let own = all_named (λ n. IsLabelIn ps (number_among names n)) [] from block tt (named_at (λ n. IsLabelIn ps (number_among names n)) all from block lined touched) in
    let each_name = numbered from block in
    let has = within_all names from block (each_has [] from block) in
    let placed = block_placed (Numbered (λ l. l < length names) all names) (parts_from from block) ts b (at_named (λ n. number_among names n < length names) all from block lined has) in
    record {
      each = λ l h. subst (IsLabelIn ps) (each_name.each l h) (all_at (λ n. IsLabelIn ps (number_among names n)) names l own h);
      places = up (λ l. l < length names) all names ts ps e placed;
    }
  where
    within_some : (names : List Name) (o : Option Name) → IfSome o (Has names) → IfSome o (λ n. number_among names n < length names)
    within_some names None h = tt
    within_some names (Some n) h = any_before_end (meaning.same_name n) names h

    within_all : (names : List Name) (i : ℕ) (ls : List Lexeme) → AllNamed (Has names) i ls → AllNamed (λ n. number_among names n < length names) i ls
    within_all names i [] h = tt
    within_all names i (l ∷ ls) h = (within_some names (name_of l i) h.0, within_all names (i + 1) ls h.1)

pub few_names : (all : List Lexeme) (from to : ℕ) (ts : List Triple) → IsBlock (parts_from from (block_within from to all)) ts → length ts ≤ 32 → length (names_from [] from (block_within from to all)) ≤ 96
few_names all from to ts b few =
    omega (arith, size_all [] from (block_within from to all), block_labels (parts_from from (block_within from to all)) ts b, few)

-- The same of the program's query

place_same : (p : code_place.Place) → plan.label_of p ≡ place_labels (place_seen p)
place_same (variant.Label l) = refl
place_same (variant.Const t) = refl

pattern_same : (p : code.Pattern) → plan.pattern_labels p ≡ labels_of (pattern_seen p)
pattern_same p =
    ap (λ (x : List ℕ). x ++ (plan.label_of p.p ++ plan.label_of p.o)) (place_same p.s)
    ∙ ap (λ (x : List ℕ). place_labels (place_seen p.s) ++ (x ++ plan.label_of p.o)) (place_same p.p)
    ∙ ap (λ (x : List ℕ). place_labels (place_seen p.s) ++ (place_labels (place_seen p.p) ++ x)) (place_same p.o)

pub any_same : (l : ℕ) (ps : List code.Pattern) → list_any (λ p. list_any (nat_eq l) (plan.pattern_labels p)) ps ≡ list_any (λ p. list_any (nat_eq l) (labels_of p)) (map pattern_seen ps)
any_same l [] = refl
any_same l (p ∷ ps) =
    ap (λ (ls : List ℕ). list_any (nat_eq l) ls || list_any (λ p. list_any (nat_eq l) (plan.pattern_labels p)) ps) (pattern_same p)
    ∙ ap (λ (t : Bool). list_any (nat_eq l) (labels_of (pattern_seen p)) || t) (any_same l ps)

pub all_same : (R : ℕ → Type 0) (ps : List code.Pattern) → AllStanding R (map pattern_seen ps) → AllByRecursion (λ p. AllByRecursion R (plan.pattern_labels p)) ps
all_same R [] h = tt
all_same R (p ∷ ps) h = (subst (AllByRecursion R) (sym (pattern_same p)) h.0, all_same R ps h.1)

column_labelled : (names : List Name) (n : Name) → IfSome (column_of names n).label (λ l. l < length names)
column_labelled names n = by (list_any (meaning.same_name n) names) refl
  where
    by : (t : Bool) → list_any (meaning.same_name n) names ≡ t → IfSome (cond t (Some (number_among names n)) None) (λ l. l < length names)
    by true e = any_before_end (meaning.same_name n) names e
    by false e = tt

pub columns_labelled : (names chosen : List Name) (columns : List Column) → map column_seen columns ≡ map (column_of names) chosen → AllByRecursion (λ v. IfSome v (λ l. l < length names)) (plan.column_labels columns)
columns_labelled names [] [] e = tt
columns_labelled names [] (c ∷ columns) e = let f : column_seen c ∷ map column_seen columns ≡ [] = e in cc
columns_labelled names (n ∷ chosen) [] e = let f : [] ≡ column_of names n ∷ map (column_of names) chosen = e in cc
columns_labelled names (n ∷ chosen) (c ∷ columns) e =
    let first : column_seen c ≡ column_of names n = cc in
    let rest : map column_seen columns ≡ map (column_of names) chosen = cc in
    (subst (λ (k : meaning.Column). IfSome k.label (λ l. l < length names)) (sym first) (column_labelled names n), columns_labelled names chosen columns rest)

pub query_labelled : (names chosen : List Name) (q : Query) → q.labels ≡ length names → length names ≤ 96 → IsLabelledBlock names (map pattern_seen q.patterns) → map column_seen q.columns ≡ map (column_of names) chosen → plan.IsLabelled q
query_labelled names chosen q count few block columns =
    record {
      few = omega (arith, count, few);
      each = λ l h. any_same l q.patterns ∙ block.each l (omega (arith, count, h));
      places = subst (λ (n : ℕ). AllByRecursion (λ p. AllByRecursion (λ l. l < n) (plan.pattern_labels p)) q.patterns) (sym count) (all_same (λ l. l < length names) q.patterns block.places);
      columns = subst (λ (n : ℕ). AllByRecursion (λ v. IfSome v (λ l. l < n)) (plan.column_labels q.columns)) (sym count) (columns_labelled names chosen q.columns columns);
    }
