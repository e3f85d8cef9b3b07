use Rattle.std.proofs.Common.{subst, arith, refl, length}
use Rattle.query_plan.specs.Labels.{pattern_labels}
use Rattle.query_plan.specs.Seen.{place_seen}
use Rattle.solution_model.specs.Rests.{slice_by}
use Rattle.graph_listing.specs.Parts.{IsPart, n_left}
use Rattle.graph_listing.proofs.PartLemmas.{none_stays, left, second_within, first_within, as_none}
use Rattle.graph_listing.proofs.starts.left_by.Goals as goal

pub returns-in_err-triples : goal.returns-in_err-triples
returns-in_err-triples g c T part =
    let terms = c.args.dict.now in
    let p = c.args.pattern.now in
    as_none c.from_residual.ensures
    (none_stays terms (slice_by (place_seen p.p) 1 (slice_by (place_seen p.o) 2 T)) 3 (length (pattern_labels p)) 0 p.s
    (none_stays terms (slice_by (place_seen p.o) 2 T) 3 3 1 p.p
    (none_stays terms T 3 3 2 p.o (subst (IsPart terms T 3) c.in_err-triples.was part))))

pub returns-in_err-by_object : goal.returns-in_err-by_object
returns-in_err-by_object g c T part =
    let terms = c.args.dict.now in
    let p = c.args.pattern.now in
    let by_object = c.in_err-by_object.ensures.part T 3 2 refl (omega arith) (omega arith) (subst (IsPart terms T 3) c.in_ok-triples.was part) in
    as_none c.from_residual-in_err-by_object.ensures
    (none_stays terms (slice_by (place_seen p.p) 1 (slice_by (place_seen p.o) 2 T)) 3 (length (pattern_labels p)) 0 p.s
    (none_stays terms (slice_by (place_seen p.o) 2 T) (n_left p.o 3) 3 1 p.p by_object))

pub returns-in_err-by_predicate : goal.returns-in_err-by_predicate
returns-in_err-by_predicate g c T part =
    let terms = c.args.dict.now in
    let p = c.args.pattern.now in
    let by_object = c.in_ok-by_object.ensures.part T 3 2 refl (omega arith) (omega arith) (subst (IsPart terms T 3) c.in_ok-triples.was part) in
    let within = second_within p.o in
    let by_predicate = c.in_err-by_predicate.ensures.part (slice_by (place_seen p.o) 2 T) (n_left p.o 3) 1 refl within.0 within.1 by_object in
    as_none c.from_residual-in_err-by_predicate.ensures
    (none_stays terms (slice_by (place_seen p.p) 1 (slice_by (place_seen p.o) 2 T)) (n_left p.p (n_left p.o 3)) (length (pattern_labels p)) 0 p.s by_predicate)

pub returns : goal.returns
returns g c T part =
    let terms = c.args.dict.now in
    let p = c.args.pattern.now in
    let by_object = c.in_ok-by_object.ensures.part T 3 2 refl (omega arith) (omega arith) (subst (IsPart terms T 3) c.in_ok-triples.was part) in
    let within = second_within p.o in
    let by_predicate = c.in_ok-by_predicate.ensures.part (slice_by (place_seen p.o) 2 T) (n_left p.o 3) 1 refl within.0 within.1 by_object in
    let last = first_within p.p p.o in
    subst (λ n. IsPart terms (slice_by (place_seen p.s) 0 (slice_by (place_seen p.p) 1 (slice_by (place_seen p.o) 2 T))) n c.fixed-3.result) (left p.s p.p p.o)
    (c.fixed-3.ensures.part (slice_by (place_seen p.p) 1 (slice_by (place_seen p.o) 2 T)) (n_left p.p (n_left p.o 3)) 0 refl last.0 last.1 by_predicate)
