use Rattle.std.proofs.Common.{◌∙◌, ◌^◌, arith}
use Rattle.trie_update.proofs.Settled.{kept_held, places, moved, stay, held_after, same_set}
use Rattle.trie_update.proofs.update.update.Goals as goal

pub settle-requires-clause-held : goal.settle-requires-clause-held
settle-requires-clause-held g c =
    kept_held g.M.Mix.mixed c.args.context.now c.change_open.new.context c.in_ok-undo.undo.log.steps c.args.root.now c.change_open.new.root (2 ^ 65) c.requires.held c.in_ok-undo.ensures.open.logged

pub settle-requires-clause-places : goal.settle-requires-clause-places
settle-requires-clause-places g c =
    places g.M.Mix.mixed c.args.context.now c.change_open.new.context c.in_ok-undo.undo.log.steps c.args.root.now c.change_open.new.root (2 ^ 65) c.requires.held c.in_ok-undo.ensures.open.logged

pub returns : goal.returns
returns g c =
    let t = c.args.context.now in
    let u = c.change_open.new.context in
    let v = c.settle.new.context in
    let steps = c.in_ok-undo.undo.log.steps in
    let old = c.args.root.now in
    let new = c.change_open.new.root in
    let l = c.in_ok-undo.ensures.open.logged in
    let s = c.settle.ensures in
    let hold = c.requires.held in
    record {
      held = held_after g.M.Mix.mixed t u steps old new (2 ^ 65) hold l v s.fallen s.came s.freed;
      changed = record {
        set = same_set g.M.Mix.mixed t u steps old new (2 ^ 65) hold l v s.fallen s.came s.freed ∙ c.in_ok-undo.ensures.open.set;
        moved = moved g.M.Mix.mixed t u steps old new (2 ^ 65) hold l v s.fallen s.came s.freed;
        counts = λ d r. omega (arith, l.counts d r, s.counts d r);
        stay = stay g.M.Mix.mixed t u steps old new (2 ^ 65) hold l v s.fallen s.came s.freed;
      };
      kept = tt;
      ticks = c.change_open.ensures.ticks;
      retained = c.change_open.ensures.retained;
    }
