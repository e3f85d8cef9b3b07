use Rattle.std.proofs.Common.{rules, refl, ◌≤◌}
use Rattle.ntriples.proofs.TerminalLemmas.{scoped_read, label_utf8, label_size, label_room, not_empty}
use Rattle.ntriples.proofs.terminal.label.Goals as goal

pub slice_bounds-put_scoped-count : goal.slice_bounds-put_scoped-count
slice_bounds-put_scoped-count c = label_size c.args.bytes.now c.args.to.now c.read_label.new.to c.in_ok-size.size c.in_ok-size.ensures

pub slice_bounds-put_scoped-start : goal.slice_bounds-put_scoped-start
slice_bounds-put_scoped-start c =
    let two : 2 ≤ c.in_ok-size.size = label_size c.args.bytes.now c.args.to.now c.read_label.new.to c.in_ok-size.size c.in_ok-size.ensures in search rules

pub put_scoped-requires-clause-utf8 : goal.put_scoped-requires-clause-utf8
put_scoped-requires-clause-utf8 c = label_utf8 c.args.bytes.now c.args.to.now c.read_label.new.to c.in_ok-size.size c.in_ok-size.ensures

pub put_scoped-requires-clause-room : goal.put_scoped-requires-clause-room
put_scoped-requires-clause-room c = label_room c.args.scope.now c.args.bytes.now c.args.to.now c.read_label.new.to c.in_ok-size.size c.in_ok-size.ensures c.requires.scope c.requires.room

pub returns : goal.returns
returns c =
    scoped_read c.args.scope.now c.args.bytes.now c.args.to.now c.read_label.new.to c.put_scoped.new.to c.len-place.result c.in_ok-size.size _
    (not_empty c.args.scope.now c.is_empty.result c.is_empty.ensures c.if-is_empty.false) c.requires.scope c.in_ok-size.ensures
    c.len-place.ensures.texts refl c.put_scoped.ensures
