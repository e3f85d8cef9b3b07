use Rattle.std.proofs.Common.{◌≡◌, ◌∙◌, ℕ, ap, sym, subst, refl}
use Rattle.std.proofs.lemmas.List.Filters.{dedup_is}
use Rattle.std.proofs.lemmas.List.Kept.{IsStrictlySortedBy-dedup}
use Rattle.std.proofs.lemmas.List.Sorted.{list_any-IsPermutation, IsPermutation-map}
use Rattle.std.specs.Cmp.{on_total, nat_cmp_total, unsigned_ties}
use Rattle.std.specs.Ordering.{nat_cmp, eq_by_cmp}
use Rattle.graph_image.specs.Images.{is_among}
use Rattle.graph_store.specs.Staging.{numbers, AreDistinct}
use Rattle.graph_store.proofs.IdsLemmas.{has_id, used_listed, listed_used, all_listed, dedup_among, distinct}
use Rattle.graph_store.proofs.TripOrder.{id_number}
use Rattle.graph_store.proofs.ids.ids_in.Goals as goal
use Rattle.graph_store.proofs.ids.ids_in.Goals.{After-dedup}

all : (c : After-dedup) (id : ℕ) → is_among (numbers c.dedup.new.self.items) id ≡ has_id c.args.batch.now id
all c id =
    let sorted = c.sort_unstable.new.self.items in
    let once = dedup_is _ sorted c.dedup.new.self.items c.dedup.ensures.filtered in
    let same = list_any-IsPermutation (eq_by_cmp nat_cmp id) (numbers c.in_ok-ids.ids.items) (numbers sorted) (IsPermutation-map id_number c.in_ok-ids.ids.items sorted c.sort_unstable.ensures.permutation) in
    ap (λ ids. is_among (numbers ids) id) once ∙ dedup_among _ (λ x y. unsigned_ties x.0 y.0) sorted id ∙ sym same ∙ ap (λ ids. is_among (numbers ids) id) c.in_ok-ids.ensures ∙ all_listed c.args.batch.now id

pub returns-clause-used : goal.returns-clause-used
returns-clause-used c id used = all c id ∙ used_listed c.args.batch.now id used

pub returns-clause-only : goal.returns-clause-only
returns-clause-only c id e = listed_used c.args.batch.now id (sym (all c id) ∙ e)

pub returns-clause-once : goal.returns-clause-once
returns-clause-once c =
    let sorted = c.sort_unstable.new.self.items in
    let once = dedup_is _ sorted c.dedup.new.self.items c.dedup.ensures.filtered in
    subst (λ ids. AreDistinct (numbers ids)) (sym once) (distinct _ (IsStrictlySortedBy-dedup (on_total id_number nat_cmp_total) (λ x y. unsigned_ties x.0 y.0) sorted c.sort_unstable.ensures.sorted))
