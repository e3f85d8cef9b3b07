use Rattle.std.proofs.Common.{◌∙◌, ℕ, length, sym, ap, subst, arith, Option}
use Rattle.std.specs.List.{prefix_len}
use Rattle.rdf_term.specs.Body.{ReadsBody, fits_of}
use Rattle.rdf_term.proofs.SoFar.{at_start, after_run, after_escape, fits_room, ends_there, none_behind, bad_behind, closed_behind}
use Rattle.rdf_term.proofs.body.read_body.Goals as goal

pub loop-run-init : goal.loop-run-init
loop-run-init c = at_start _ _ _ c.requires.room c.requires.some

pub overflow_add-at : goal.overflow_add-at
overflow_add-at c = omega (arith, (fits_room _ _ _ _ _ _ _ c.loop-run.invariant c.in_ok-run.ensures.piece).1)

pub returns-in_err-run : goal.returns-in_err-run
returns-in_err-run c =
    subst (λ (r : Option ℕ). ReadsBody c.args.form c.args.bytes.now c.args.to.now c.loop-run.to r) (sym c.from_residual.ensures)
    (none_behind _ _ _ _ _ c.loop-run.invariant c.in_err-run.ensures)

pub stop_at-requires : goal.stop_at-requires
stop_at-requires c =
    ap (prefix_len (fits_of c.args.form)) (sym (ends_there c.args.bytes.now c.loop-run.at (length c.in_ok-run.run'.now))) ∙ c.in_ok-run.ensures.ends

pub returns-in-Closed : goal.returns-in-Closed
returns-in-Closed c = closed_behind _ _ _ _ _ (after_run _ _ _ _ _ _ _ c.loop-run.invariant c.in_ok-run.ensures c.join.ensures) c.in-Closed.ensures

pub join-requires-in-Escape-clause-some : goal.join-requires-in-Escape-clause-some
join-requires-in-Escape-clause-some c = (after_run _ _ _ _ _ _ _ c.loop-run.invariant c.in_ok-run.ensures c.join.ensures).some

pub join-requires-in-Escape-clause-room : goal.join-requires-in-Escape-clause-room
join-requires-in-Escape-clause-room c =
    let s = after_run _ _ _ _ _ _ _ c.loop-run.invariant c.in_ok-run.ensures c.join.ensures in
    omega (arith, (fits_room _ _ _ _ _ _ _ s c.in-Escape.ensures.1).0, ap length c.encode_utf8.ensures.value)

pub loop-run-preserved : goal.loop-run-preserved
loop-run-preserved c =
    after_escape _ _ _ _ _ _ _ _ _ (after_run _ _ _ _ _ _ _ c.loop-run.invariant c.in_ok-run.ensures c.join.ensures) c.in-Escape.ensures c.encode_utf8.ensures.value c.join-in-Escape.ensures

pub returns-in-Bad : goal.returns-in-Bad
returns-in-Bad c = bad_behind _ _ _ _ _ (after_run _ _ _ _ _ _ _ c.loop-run.invariant c.in_ok-run.ensures c.join.ensures) c.in-Bad.ensures
