use Rattle.std.proofs.Common.{◌∙◌, ◌≤◌, List, ap, sym, subst, arith, length}
use Rattle.std.specs.Prelude.{map}
use Rattle.std.specs.Option.{option_map}
use Rattle.std.proofs.lemmas.Result.{err_from_is_err_and}
use Rattle.query_grammar.specs.Meaning.{Answer, patterns_of}
use Rattle.query_plan.specs.Seen.{pattern_seen}
use Rattle.query_read.specs.Reads.{Reads}
use Rattle.query_read.specs.Seen.{name_seen, triple_seen}
use Rattle.query_read.specs.declared.name.Name.{Name}
use Rattle.query_read.proofs.ReaderLabels.{AreNamesRead, few_items, names_are, labelled_here, map_size}
use Rattle.query_read.proofs.ReaderSteps.{no_prefix, no_patterns, with_patterns, too_many_patterns, patterns_size}
use Rattle.query_read.proofs.reader.read_triples.Goals as goal

pub returns-in_err-prefixes-clause-query : goal.returns-in_err-prefixes-clause-query
returns-in_err-prefixes-clause-query c =
    let p = err_from_is_err_and c.from_residual.result c.from_residual.ensures.1 in rw (p.1, p.2) tt

pub returns-in_err-known-clause-query : goal.returns-in_err-known-clause-query
returns-in_err-known-clause-query c =
    let p = err_from_is_err_and c.from_residual-in_err-known.result c.from_residual-in_err-known.ensures.1 in rw (p.1, p.2) tt

pub returns-then-not-all_known-clause-query : goal.returns-then-not-all_known-clause-query
returns-then-not-all_known-clause-query c = no_prefix c.args.all.now (map triple_seen c.args.triples.now) (sym c.all_known.ensures ∙ c.if-not-all_known.true)

pub returns-then-triples-gt32-clause-query : goal.returns-then-triples-gt32-clause-query
returns-then-triples-gt32-clause-query c =
    too_many_patterns c.args.all.now (map triple_seen c.args.triples.now) (sym c.all_known.ensures ∙ c.if-not-all_known.false) (omega (arith, map_size triple_seen c.args.triples.now))

pub returns-in_err-names-clause-query : goal.returns-in_err-names-clause-query
returns-in_err-names-clause-query c =
    let p = err_from_is_err_and c.from_residual-in_err-names.result c.from_residual-in_err-names.ensures.1 in rw (p.1, p.2) tt

pub returns-in_err-patterns-clause-query : goal.returns-in_err-patterns-clause-query
returns-in_err-patterns-clause-query c =
    let p = err_from_is_err_and c.from_residual-in_err-patterns.result c.from_residual-in_err-patterns.ensures.1 in rw (p.1, p.2) tt

pub patterns_of-requires-clause-few : goal.patterns_of-requires-clause-few
patterns_of-requires-clause-few c =
    let k : AreNamesRead c.args.all.now c.args.opening c.args.closing (map triple_seen c.args.triples.now) c.in_ok-names.names.items = record {
      opens = c.requires.opening;
      closes = c.requires.closing;
      block = c.requires.triples;
      names = c.in_ok-names.ensures;
      few = omega (arith, map_size triple_seen c.args.triples.now);
    } in
    subst (λ (ns : List Name). length ns ≤ 96) (sym c.deref-2.ensures.value) (few_items _ _ _ _ _ k)

pub read_columns-requires-clause-names : goal.read_columns-requires-clause-names
read_columns-requires-clause-names c =
    let k : AreNamesRead c.args.all.now c.args.opening c.args.closing (map triple_seen c.args.triples.now) c.in_ok-names.names.items = record {
      opens = c.requires.opening;
      closes = c.requires.closing;
      block = c.requires.triples;
      names = c.in_ok-names.ensures;
      few = omega (arith, map_size triple_seen c.args.triples.now);
    } in
    ap (λ (ns : List Name). map name_seen ns) c.deref-in-Some.ensures.value ∙ names_are _ _ _ _ _ k

pub read_columns-requires-clause-few_names : goal.read_columns-requires-clause-few_names
read_columns-requires-clause-few_names c =
    let k : AreNamesRead c.args.all.now c.args.opening c.args.closing (map triple_seen c.args.triples.now) c.in_ok-names.names.items = record {
      opens = c.requires.opening;
      closes = c.requires.closing;
      block = c.requires.triples;
      names = c.in_ok-names.ensures;
      few = omega (arith, map_size triple_seen c.args.triples.now);
    } in
    subst (λ (ns : List Name). length ns ≤ 96) (sym c.deref-in-Some.ensures.value) (few_items _ _ _ _ _ k)

pub read_columns-requires-clause-few_patterns : goal.read_columns-requires-clause-few_patterns
read_columns-requires-clause-few_patterns c =
    let e = ap (option_map (map pattern_seen)) (sym c.in-Some.is) ∙ c.in_ok-patterns.ensures in
    let size = patterns_size c.args.all.now (map name_seen c.deref-2.result.now) (map triple_seen c.args.triples.now) (map pattern_seen c.in-Some.patterns) (sym e) in
    omega (arith, size, map_size pattern_seen c.in-Some.patterns, map_size triple_seen c.args.triples.now)

pub read_columns-requires-clause-labelled : goal.read_columns-requires-clause-labelled
read_columns-requires-clause-labelled c =
    let k : AreNamesRead c.args.all.now c.args.opening c.args.closing (map triple_seen c.args.triples.now) c.in_ok-names.names.items = record {
      opens = c.requires.opening;
      closes = c.requires.closing;
      block = c.requires.triples;
      names = c.in_ok-names.ensures;
      few = omega (arith, map_size triple_seen c.args.triples.now);
    } in
    let e = ap (option_map (map pattern_seen)) (sym c.in-Some.is) ∙ c.in_ok-patterns.ensures in
    labelled_here _ _ _ _ _ _ k (e ∙ ap (λ (ns : List Name). patterns_of c.args.all.now (map name_seen ns) (map triple_seen c.args.triples.now)) c.deref-2.ensures.value)

pub returns-in-Some-clause-query : goal.returns-in-Some-clause-query
returns-in-Some-clause-query c =
    let k : AreNamesRead c.args.all.now c.args.opening c.args.closing (map triple_seen c.args.triples.now) c.in_ok-names.names.items = record {
      opens = c.requires.opening;
      closes = c.requires.closing;
      block = c.requires.triples;
      names = c.in_ok-names.ensures;
      few = omega (arith, map_size triple_seen c.args.triples.now);
    } in
    let e = ap (option_map (map pattern_seen)) (sym c.in-Some.is) ∙ c.in_ok-patterns.ensures in
    let is = ap (λ (ns : List Name). map name_seen ns) c.deref-2.ensures.value ∙ names_are _ _ _ _ _ k in
    subst (λ (a : Answer). Reads a c.read_columns.result)
    (sym (with_patterns c.args.all.now (map name_seen c.deref-2.result.now) (map triple_seen c.args.triples.now) (map pattern_seen c.in-Some.patterns) is e)) c.read_columns.ensures.query

pub returns-clause-query : goal.returns-clause-query
returns-clause-query c =
    let k : AreNamesRead c.args.all.now c.args.opening c.args.closing (map triple_seen c.args.triples.now) c.in_ok-names.names.items = record {
      opens = c.requires.opening;
      closes = c.requires.closing;
      block = c.requires.triples;
      names = c.in_ok-names.ensures;
      few = omega (arith, map_size triple_seen c.args.triples.now);
    } in
    let is = ap (λ (ns : List Name). map name_seen ns) c.deref-2.ensures.value ∙ names_are _ _ _ _ _ k in
    no_patterns c.args.all.now (map name_seen c.deref-2.result.now) (map triple_seen c.args.triples.now) is (ap (option_map (map pattern_seen)) (sym c.in-None.is) ∙ c.in_ok-patterns.ensures)
