use Rattle.std.proofs.Common.{sym, subst, ◌∙◌}
use Rattle.std.specs.List.{swap_remove}
use Rattle.hash_index.specs.Buckets.{Entries, TakesOne}
use Rattle.hash_index.proofs.Lists.{TakesOne-swap_remove}
use Rattle.hash_index.proofs.bucket.Bucket.take_out.Goals as goal

pub returns-then-len-capacity : goal.returns-then-len-capacity
returns-then-len-capacity c =
    let entry = TakesOne-swap_remove c.as_slice.result.now c.place_in-place.result c.args.hash c.args.number c.swap_remove.result c.place_in-place.ensures.within c.place_in-place.ensures.found in
    let at = subst (λ (es : Entries). TakesOne c.args.hash c.args.number es (swap_remove es c.place_in-place.result c.swap_remove.result)) c.as_slice.ensures.value entry in
    subst (λ (es : Entries). TakesOne c.args.hash c.args.number c.args.self.now es) (sym (c.shrink_to_fit.ensures.items ∙ c.swap_remove.ensures.items))
    (subst (λ (es : Entries). TakesOne c.args.hash c.args.number es (swap_remove c.self.inside.entries.items c.place_in-place.result c.swap_remove.result)) c.self.view_is at)

pub returns-else-len-capacity : goal.returns-else-len-capacity
returns-else-len-capacity c =
    let entry = TakesOne-swap_remove c.as_slice.result.now c.place_in-place.result c.args.hash c.args.number c.swap_remove.result c.place_in-place.ensures.within c.place_in-place.ensures.found in
    let at = subst (λ (es : Entries). TakesOne c.args.hash c.args.number es (swap_remove es c.place_in-place.result c.swap_remove.result)) c.as_slice.ensures.value entry in
    subst (λ (es : Entries). TakesOne c.args.hash c.args.number c.args.self.now es) (sym c.swap_remove.ensures.items)
    (subst (λ (es : Entries). TakesOne c.args.hash c.args.number es (swap_remove c.self.inside.entries.items c.place_in-place.result c.swap_remove.result)) c.self.view_is at)
