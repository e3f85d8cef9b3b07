use Rattle.std.proofs.Common.{◌∙◌, ap}
use Rattle.rdf_term.specs.Room.{joined}
use Rattle.ntriples.proofs.TerminalLemmas.{put_is, stops_fit, label_fits}
use Rattle.ntriples.proofs.terminal.put_scoped.Goals as goal

pub join-requires-2-clause-room : goal.join-requires-2-clause-room
join-requires-2-clause-room c = stops_fit c.drop_last.new.self c.add.new.self c.join.new.self c.args.scope.now c.args.label.now c.add.ensures c.join.ensures (rw c.drop_last.ensures c.requires.room)

pub join-requires-3-clause-room : goal.join-requires-3-clause-room
join-requires-3-clause-room c =
    rw c.in-Ok.ensures.cases.0 (label_fits c.drop_last.new.self c.add.new.self c.join.new.self c.join-2.new.self c.args.scope.now c.args.label.now c.add.ensures c.join.ensures c.join-2.ensures
    (rw c.drop_last.ensures c.requires.room))

pub returns : goal.returns
returns c =
    put_is c.args.to.now c.drop_last.new.self c.add.new.self c.join.new.self c.join-2.new.self c.join-3.new.self c.args.scope.now c.args.label.now c.drop_last.ensures c.add.ensures c.join.ensures
    c.join-2.ensures (c.join-3.ensures ∙ ap (joined c.join-2.new.self) c.in-Ok.ensures.cases.0)
