use Rattle.generated_triples.proofs.NameLemmas.{name_added, front_room, number_begun, number_room, room_left}
use Rattle.generated_triples.proofs.add_name.Goals as goal

pub join-requires-clause-room : goal.join-requires-clause-room
join-requires-clause-room c = rw c.add.ensures (front_room c.args.to.now c.args.front.now c.requires.short c.requires.room)

pub join-requires-2-clause-some : goal.join-requires-2-clause-some
join-requires-2-clause-some c = rw (c.join.ensures, c.add.ensures) (number_begun c.args.to.now c.args.front.now)

pub join-requires-2-clause-room : goal.join-requires-2-clause-room
join-requires-2-clause-room c = rw (c.join.ensures, c.add.ensures) (number_room c.args.to.now c.args.front.now c.format.result.now c.requires.short c.format.ensures.short c.requires.room)

pub returns-clause-text : goal.returns-clause-text
returns-clause-text c = rw (c.join-2.ensures, c.join.ensures, c.add.ensures, c.format.ensures.text) (name_added c.args.to.now c.args.front.now _)

pub returns-clause-room : goal.returns-clause-room
returns-clause-room c = rw (c.join-2.ensures, c.join.ensures, c.add.ensures) (room_left c.args.to.now c.args.front.now c.format.result.now c.requires.short c.format.ensures.short)
