use Rattle.std.proofs.Common.{◌≤◌, None, IfSome, slice_index_or, sym, ◌∙◌, ap, subst, arith}
use Rattle.std.proofs.lemmas.List.{get_or_default}
use Rattle.bag_list.specs.declared.level.Level.{Level}
use Rattle.bag_list.specs.Joins.{IsJoin}
use Rattle.bag_list.specs.Levels.{from_of}
use Rattle.bag_list.specs.Tracks.{AllAdmitAt}
use Rattle.bag_list.proofs.JoinLemmas.{join-least}
use Rattle.bag_list.proofs.ThroughLemmas.{IsReached, level-at, next-admitted, next-reached}
use Rattle.bag_list.proofs.operands.Operands.next_left.Goals as goal

abbrev no_level : Level
no_level = record { label = 0; key = record { 0 = 0 }; from = None }

pub next_key-requires : goal.next_key-requires
next_key-requires g c =
    (subst (IsJoin g.O.Operand.depth_of g.O.Operand.tuples c.args.self.now.tracks.items c.args.depth (slice_index_or c.args.levels.now c.args.depth no_level).label) (sym c.index.ensures) (c.requires.join no_level c.index.result.now)).joinable

pub returns-in_err-next-clause-least : goal.returns-in_err-next-clause-least
returns-in_err-next-clause-least g c n k f below s le =
    let levels = c.args.levels.now in
    let depth = c.args.depth in
    let tracks = c.args.self.now.tracks.items in
    let level = slice_index_or levels depth no_level in
    let is = get_or_default levels depth no_level level c.requires.within.0 in
    let join = subst (IsJoin g.O.Operand.depth_of g.O.Operand.tuples tracks depth level.label) (sym c.index.ensures) (c.requires.join no_level c.index.result.now) in
    let low = ap (λ h. from_of h.from) (level-at levels depth level is c.requires.within.0 f) in
    let at_from = ap from_of c.in_ok-from.was in
    subst (λ b. IsReached b k) (c.in_err-next.was ∙ sym c.from_residual-in_err-next.ensures)
    (next-reached g.O.Operand.depth_of g.O.Operand.tuples g.met.O.Operand.deep levels tracks depth c.requires.ready.parts level is c.requires.within.0 c.in_ok-from.from.0 c.next_key.result
    (join-least g.O.Operand.depth_of g.O.Operand.tuples tracks depth level.label c.index.result.now join _ c.next_key.result c.next_key.ensures) n k f s (omega (arith, le, low, at_from)))

pub returns-then-tested-levels-clause-admitted : goal.returns-then-tested-levels-clause-admitted
returns-then-tested-levels-clause-admitted g c f =
    let levels = c.args.levels.now in
    let depth = c.args.depth in
    let tracks = c.args.self.now.tracks.items in
    let level = slice_index_or levels depth no_level in
    let is = get_or_default levels depth no_level level c.requires.within.0 in
    let join = subst (IsJoin g.O.Operand.depth_of g.O.Operand.tuples tracks depth level.label) (sym c.index.ensures) (c.requires.join no_level c.index.result.now) in
    subst (λ b. IfSome b (λ r. AllAdmitAt g.O.Operand.tuples tracks depth (slice_index_or levels depth f).label r.0)) c.in_ok-next.was
    (next-admitted g.O.Operand.depth_of g.O.Operand.tuples g.met.O.Operand.deep levels tracks depth c.requires.ready.parts level is c.requires.within.0 c.in_ok-from.from.0 c.next_key.result
    (join-least g.O.Operand.depth_of g.O.Operand.tuples tracks depth level.label c.index.result.now join _ c.next_key.result c.next_key.ensures) f)

pub returns-then-tested-levels-clause-least : goal.returns-then-tested-levels-clause-least
returns-then-tested-levels-clause-least g c n k f below s le =
    let levels = c.args.levels.now in
    let depth = c.args.depth in
    let tracks = c.args.self.now.tracks.items in
    let level = slice_index_or levels depth no_level in
    let is = get_or_default levels depth no_level level c.requires.within.0 in
    let join = subst (IsJoin g.O.Operand.depth_of g.O.Operand.tuples tracks depth level.label) (sym c.index.ensures) (c.requires.join no_level c.index.result.now) in
    let low = ap (λ h. from_of h.from) (level-at levels depth level is c.requires.within.0 f) in
    let at_from = ap from_of c.in_ok-from.was in
    subst (λ b. IsReached b k) c.in_ok-next.was
    (next-reached g.O.Operand.depth_of g.O.Operand.tuples g.met.O.Operand.deep levels tracks depth c.requires.ready.parts level is c.requires.within.0 c.in_ok-from.from.0 c.next_key.result
    (join-least g.O.Operand.depth_of g.O.Operand.tuples tracks depth level.label c.index.result.now join _ c.next_key.result c.next_key.ensures) n k f s (omega (arith, le, low, at_from)))

pub returns-in_err-raised-clause-least : goal.returns-in_err-raised-clause-least
returns-in_err-raised-clause-least g c n k f below s le =
    let levels = c.args.levels.now in
    let depth = c.args.depth in
    let tracks = c.args.self.now.tracks.items in
    let level = slice_index_or levels depth no_level in
    let is = get_or_default levels depth no_level level c.requires.within.0 in
    let join = subst (IsJoin g.O.Operand.depth_of g.O.Operand.tuples tracks depth level.label) (sym c.index.ensures) (c.requires.join no_level c.index.result.now) in
    let low = ap (λ h. from_of h.from) (level-at levels depth level is c.requires.within.0 f) in
    let at_from = ap from_of c.in_ok-from.was in
    let next : c.in_ok-next.next.0 ≤ k = subst (λ b. IsReached b k) c.in_ok-next.was
    (next-reached g.O.Operand.depth_of g.O.Operand.tuples g.met.O.Operand.deep levels tracks depth c.requires.ready.parts level is c.requires.within.0 c.in_ok-from.from.0 c.next_key.result
    (join-least g.O.Operand.depth_of g.O.Operand.tuples tracks depth level.label c.index.result.now join _ c.next_key.result c.next_key.ensures) n k f s (omega (arith, le, low, at_from))) in
    subst (λ b. IsReached b k) (c.in_err-raised.was ∙ sym c.from_residual-in_err-raised.ensures) (c.raised.ensures.least n k f below s next)

pub next_key-requires-2 : goal.next_key-requires-2
next_key-requires-2 g c =
    let tracks = c.args.self.now.tracks.items in
    let label = (slice_index_or c.args.levels.now c.args.depth no_level).label in
    (subst (IsJoin g.O.Operand.depth_of g.O.Operand.tuples tracks c.args.depth label) (sym (c.index-2.ensures ∙ ap (λ js. slice_index_or js.items c.args.depth c.index-2.result.now) c.raised.ensures.kept.joins)) (c.requires.join no_level c.index-2.result.now)).joinable

pub returns-clause-admitted : goal.returns-clause-admitted
returns-clause-admitted g c f =
    let levels = c.args.levels.now in
    let depth = c.args.depth in
    let tracks = c.args.self.now.tracks.items in
    let level = slice_index_or levels depth no_level in
    let is = get_or_default levels depth no_level level c.requires.within.0 in
    let join = subst (IsJoin g.O.Operand.depth_of g.O.Operand.tuples tracks depth level.label) (sym (c.index-2.ensures ∙ ap (λ js. slice_index_or js.items depth c.index-2.result.now) c.raised.ensures.kept.joins)) (c.requires.join no_level c.index-2.result.now) in
    next-admitted g.O.Operand.depth_of g.O.Operand.tuples g.met.O.Operand.deep levels tracks depth c.requires.ready.parts level is c.requires.within.0 c.in_ok-raised.raised.0 c.next_key-2.result
    (join-least g.O.Operand.depth_of g.O.Operand.tuples tracks depth level.label c.index-2.result.now join _ c.next_key-2.result c.next_key-2.ensures) f

pub returns-clause-least : goal.returns-clause-least
returns-clause-least g c n k f below s le =
    let levels = c.args.levels.now in
    let depth = c.args.depth in
    let tracks = c.args.self.now.tracks.items in
    let level = slice_index_or levels depth no_level in
    let is = get_or_default levels depth no_level level c.requires.within.0 in
    let first = subst (IsJoin g.O.Operand.depth_of g.O.Operand.tuples tracks depth level.label) (sym c.index.ensures) (c.requires.join no_level c.index.result.now) in
    let join = subst (IsJoin g.O.Operand.depth_of g.O.Operand.tuples tracks depth level.label) (sym (c.index-2.ensures ∙ ap (λ js. slice_index_or js.items depth c.index-2.result.now) c.raised.ensures.kept.joins)) (c.requires.join no_level c.index-2.result.now) in
    let low = ap (λ h. from_of h.from) (level-at levels depth level is c.requires.within.0 f) in
    let at_from = ap from_of c.in_ok-from.was in
    let next : c.in_ok-next.next.0 ≤ k = subst (λ b. IsReached b k) c.in_ok-next.was
    (next-reached g.O.Operand.depth_of g.O.Operand.tuples g.met.O.Operand.deep levels tracks depth c.requires.ready.parts level is c.requires.within.0 c.in_ok-from.from.0 c.next_key.result
    (join-least g.O.Operand.depth_of g.O.Operand.tuples tracks depth level.label c.index.result.now first _ c.next_key.result c.next_key.ensures) n k f s (omega (arith, le, low, at_from))) in
    let up : c.in_ok-raised.raised.0 ≤ k = subst (λ b. IsReached b k) c.in_ok-raised.was (c.raised.ensures.least n k f below s next) in
    next-reached g.O.Operand.depth_of g.O.Operand.tuples g.met.O.Operand.deep levels tracks depth c.requires.ready.parts level is c.requires.within.0 c.in_ok-raised.raised.0 c.next_key-2.result
    (join-least g.O.Operand.depth_of g.O.Operand.tuples tracks depth level.label c.index-2.result.now join _ c.next_key-2.result c.next_key-2.ensures) n k f s up
