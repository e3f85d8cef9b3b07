use Rattle.std.proofs.Common.{List, ◌∙◌, ap, arith}
use Rattle.std.specs.Prelude.{map}
use Rattle.query_grammar.specs.Meaning.{number_among}
use Rattle.query_read.specs.Seen.{name_seen}
use Rattle.query_read.specs.declared.name.Name.{Name}
use Rattle.query_read.proofs.NamesRead.{add_kept, add_new}
use Rattle.query_read.proofs.name.add.Goals as goal

pub returns-then-number_among-len : goal.returns-then-number_among-len
returns-then-number_among-len c =
    add_kept c.args.names.now.items c.args.name c.in-Some.name c.number_among.result c.in-Some.is
    (c.number_among.ensures.number ∙ ap (λ (xs : List Name). number_among (map name_seen xs) (name_seen c.in-Some.name)) c.deref.ensures.value) (omega (arith, c.len.ensures))

pub returns : goal.returns
returns c =
    add_new c.args.names.now.items _ c.args.name c.in-Some.name c.number_among.result c.in-Some.is
    (c.number_among.ensures.number ∙ ap (λ (xs : List Name). number_among (map name_seen xs) (name_seen c.in-Some.name)) c.deref.ensures.value) (omega (arith, c.len.ensures)) c.in_ok-push.ensures.items
