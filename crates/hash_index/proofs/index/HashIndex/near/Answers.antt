use Rattle.std.proofs.Common.{Contains, List, ◌≡◌, length, sym, ap, subst, ◌∙◌}
use Rattle.hash_index.specs.Buckets.{Entries, entries_at, bucket_of}
use Rattle.hash_index.proofs.Lists.{listed_in, stands_in}
use Rattle.hash_index.proofs.index.HashIndex.near.Goals as goal

-- what is lent is the bucket
lent : (c : goal.After-entries_in) → c.entries_in.result.now ≡ entries_at c.self.inside.buckets.items (bucket_of c.self.inside.bits (length c.self.inside.buckets.items) c.args.hash)
lent c =
    c.entries_in.ensures ∙ ap (λ (bs : List Entries). entries_at bs c.place_of-place.result) c.as_slice.ensures.value
    ∙ ap (entries_at c.self.inside.buckets.items) (c.place_of-place.ensures ∙ ap (λ n. bucket_of c.self.inside.bits n c.args.hash) (c.len.ensures ∙ c.self.inside.buckets.ok.0))

pub returns-clause-listed : goal.returns-clause-listed
returns-clause-listed c e stands =
    listed_in c.self.inside.bits c.self.inside.buckets.items _ c.args.self.now c.self.view_is c.self.invariant.once _ e (subst (λ (es : Entries). Contains es e) (lent c) stands)

pub returns-clause-all : goal.returns-clause-all
returns-clause-all c number at =
    subst (λ (es : Entries). Contains es (record { hash = c.args.hash; number = number })) (sym (lent c)) (stands_in c.self.inside.bits c.self.inside.buckets.items _ c.args.self.now c.self.view_is c.self.invariant.once c.args.hash number at)
