-- The names, the labels and the parts of the whole query.
use Rattle.std.proofs.Common.{◌≡◌, ◌∙◌, ℕ, ◌+◌, ◌-◌, ◌≤◌, Bool, true, false, List, [], ◌∷◌, length, take, drop, refl, sym, ap, subst, arith, Option, Some, chars, IsUtf8}
use Rattle.std.specs.Prelude.{map, cond}
use Rattle.std.specs.Str.{is_utf8}
use Rattle.std.proofs.lemmas.Str.{is_utf8-from_IsUtf8, IsUtf8-from_is_utf8}
use Rattle.query_grammar.specs.Block.{Triple, IsBlock}
use Rattle.query_grammar.specs.BlockFront.{triples_of}
use Rattle.query_grammar.specs.Lexemes.{Lexeme, lexed}
use Rattle.query_grammar.specs.Meaning as meaning
use Rattle.query_grammar.specs.Meaning.{NotQuery, Pattern, block_of, column_of, has_sign, names_from, names_of, number_behind, of_lexemes, or_zero, parts_from, patterns_of, place_of, query_by, query_of, selected}
use Rattle.query_grammar.specs.Signs.{OpenBrace, CloseBrace, Distinct, Limit, Offset}
use Rattle.query_grammar.proofs.Sound.{block_meant}
use Rattle.query_plan.specs.Seen.{pattern_seen, column_seen, query_seen}
use Rattle.query_plan.specs.declared.query.Query.{Query}
use Rattle.query_read.specs.LabelledBlock.{IsLabelledBlock}
use Rattle.query_read.specs.Reads.{block_within}
use Rattle.query_read.specs.Seen.{name_seen}
use Rattle.query_read.specs.declared.name.Name.{Name}
use Rattle.query_read.proofs.NamesRead.{size_seen}
use Rattle.query_read.proofs.PatternsLabelled.{labelled_block, few_names}

pub query_utf8 : (bytes text : List ℕ) → text ≡ bytes → IsUtf8 bytes → query_of bytes ≡ of_lexemes (lexed (chars text))
unfolding query_of
query_utf8 bytes text e u =
    ap (λ (t : Bool). cond t (of_lexemes (lexed (chars bytes))) NotQuery) (is_utf8-from_IsUtf8 bytes u) ∙ ap (λ (t : List ℕ). of_lexemes (lexed (chars t))) (sym e)

pub query_bytes : (bytes : List ℕ) → (IsUtf8 bytes → ⊥) → query_of bytes ≡ NotQuery
unfolding query_of
query_bytes bytes n = by (is_utf8 bytes) refl
  where
    by : (t : Bool) → is_utf8 bytes ≡ t → cond t (of_lexemes (lexed (chars bytes))) NotQuery ≡ NotQuery
    by true e = absurd (n (IsUtf8-from_is_utf8 bytes e))
    by false e = refl

pub map_size : {A B : Type 0} (f : A → B) (xs : List A) → length (map f xs) ≡ length xs
map_size f [] = refl
map_size f (x ∷ xs) = omega (arith, map_size f xs)

block_same : (all : List Lexeme) (opening closing : ℕ) → opening ≡ place_of OpenBrace all → closing ≡ place_of CloseBrace all → block_of all ≡ block_within (opening + 1) closing all
block_same all opening closing e f =
    ap (λ (n : ℕ). take (place_of CloseBrace all - (n + 1)) (drop (n + 1) all)) (sym e) ∙ ap (λ (n : ℕ). take (n - (opening + 1)) (drop (opening + 1) all)) (sym f)

-- what is known of the names once the triples were read
pub record AreNamesRead (all : List Lexeme) (opening closing : ℕ) (ts : List Triple) (items : List Name) : Type 0 where
  pub opens : opening ≡ place_of OpenBrace all
  pub closes : closing ≡ place_of CloseBrace all
  pub block : triples_of (parts_from (opening + 1) (block_of all)) ≡ Some ts
  pub names : map name_seen items ≡ names_from [] (opening + 1) (block_within (opening + 1) closing all)
  pub few : length ts ≤ 32

produced : (all : List Lexeme) (opening closing : ℕ) (ts : List Triple) (items : List Name) → AreNamesRead all opening closing ts items → IsBlock (parts_from (opening + 1) (block_within (opening + 1) closing all)) ts
unfolding triples_of
produced all opening closing ts items k =
    block_meant _ ts (ap (λ (ls : List Lexeme). triples_of (parts_from (opening + 1) ls)) (sym (block_same all opening closing k.opens k.closes)) ∙ k.block)

pub names_are : (all : List Lexeme) (opening closing : ℕ) (ts : List Triple) (items : List Name) → AreNamesRead all opening closing ts items → map name_seen items ≡ names_of all
names_are all opening closing ts items k =
    k.names ∙ ap (names_from [] (opening + 1)) (sym (block_same all opening closing k.opens k.closes)) ∙ ap (λ (n : ℕ). names_from [] (n + 1) (block_of all)) k.opens

pub few_items : (all : List Lexeme) (opening closing : ℕ) (ts : List Triple) (items : List Name) → AreNamesRead all opening closing ts items → length items ≤ 96
few_items all opening closing ts items k =
    omega (arith, few_names all (opening + 1) closing ts (produced all opening closing ts items k) k.few, ap length k.names, size_seen items)

pub labelled_here : (all : List Lexeme) (opening closing : ℕ) (ts : List Triple) (items : List Name) (ps : List Pattern) → AreNamesRead all opening closing ts items → Some ps ≡ patterns_of all (map name_seen items) ts
    → IsLabelledBlock (names_of all) ps
labelled_here all opening closing ts items ps k e =
    subst (λ (ns : List meaning.Name). IsLabelledBlock ns ps) (sym k.names ∙ names_are all opening closing ts items k)
    (labelled_block all (opening + 1) closing ts ps (produced all opening closing ts items k) (ap (λ (ns : List meaning.Name). patterns_of all ns ts) (sym k.names) ∙ sym e))

abbrev made : List Pattern → List meaning.Column → ℕ → Bool → Option ℕ → ℕ → meaning.Query
made patterns columns labels distinct limit offset = record { columns = columns; labels = labels; distinct = distinct; patterns = patterns; limit = limit; offset = offset }

pub query_same : (all : List Lexeme) (q : Query) → map column_seen q.columns ≡ map (column_of (names_of all)) (selected all) → q.labels ≡ length (names_of all) → q.distinct ≡ has_sign Distinct all
    → q.limit ≡ number_behind Limit all → q.offset ≡ or_zero (number_behind Offset all) → query_by all (map pattern_seen q.patterns) ≡ query_seen q
query_same all q e f g h k =
    let ps : List Pattern = map pattern_seen q.patterns in
    ap (λ (x : List meaning.Column). made ps x (length (names_of all)) (has_sign Distinct all) (number_behind Limit all) (or_zero (number_behind Offset all))) (sym e)
    ∙ ap (λ (x : ℕ). made ps (map column_seen q.columns) x (has_sign Distinct all) (number_behind Limit all) (or_zero (number_behind Offset all))) (sym f)
    ∙ ap (λ (x : Bool). made ps (map column_seen q.columns) q.labels x (number_behind Limit all) (or_zero (number_behind Offset all))) (sym g)
    ∙ ap (λ (x : Option ℕ). made ps (map column_seen q.columns) q.labels q.distinct x (or_zero (number_behind Offset all))) (sym h)
    ∙ ap (λ (x : ℕ). made ps (map column_seen q.columns) q.labels q.distinct q.limit x) (sym k)
