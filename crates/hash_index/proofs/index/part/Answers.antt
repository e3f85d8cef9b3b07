use Rattle.std.proofs.Common.{List, ◌∷◌, [], ◌++◌, ◌*◌, ◌%◌, ◌^◌, set, ap, ◌∙◌, arith}
use Rattle.std.proofs.lemmas.Nat.{one_shl}
use Rattle.hash_index.specs.Buckets.{Entries, entries_at}
use Rattle.hash_index.proofs.Lists.{IsParted-of}
use Rattle.hash_index.proofs.index.part.Goals as goal

pub returns-clause-parted : goal.returns-clause-parted
returns-clause-parted c =
    let old = c.args.buckets.now.items in
    let count = c.len-count.ensures ∙ c.args.buckets.now.ok.0 in
    let place = c.len-count.result % (1 * 2 ^ c.args.bits % 2 ^ 64) in
    let wide = one_shl c.args.bits 64 (omega (arith, c.requires)) in
    IsParted-of c.args.bits c.len-count.result place old c.push_reserved.new.self.items c.entries_in-entries.result.now c.in_ok-stay.stay c.in_ok-moved.moved
    count
    (ap (λ n. c.len-count.result % n) wide ∙ ap (λ n. n % 2 ^ c.args.bits) count)
    (c.entries_in-entries.ensures ∙ ap (λ (bs : List Entries). entries_at bs place) c.as_slice.ensures.value)
    c.in_ok-stay.ensures
    c.in_ok-moved.ensures
    (c.push_reserved.ensures.items
    ∙ ap (λ (bs : List Entries). bs ++ c.in_ok-moved.moved ∷ []) (c.set_bucket.ensures.set ∙ ap (λ (bs : List Entries). set bs place c.in_ok-stay.stay) c.reserve_one.ensures.kept))
