use Rattle.std.proofs.Common.{arith, ap, sym, subst, ◌∙◌}
use Rattle.std.specs.FinMap as map
use Rattle.hash_index.specs.declared.entry.Entry.{Entry}
use Rattle.hash_index.specs.Buckets.{hashes_of, IsListedOnce}
use Rattle.hash_index.proofs.Lists.{IsListedOnce-add, IsSound-by, hashes_by}
use Rattle.hash_index.proofs.index.HashIndex.add.Goals as goal

pub invariant_of-self : goal.invariant_of-self
invariant_of-self c =
    let roomy = c.make_room.ensures.same _ c.self.invariant.once in
    IsSound-by c.make_room.new.bits c.put.new.buckets.items _ (subst (IsListedOnce (hashes_of c.self.inside.buckets.items) c.make_room.new.bits) (sym c.in_err-put.ensures.kept) roomy) c.make_room.ensures.bits

pub returns-in_err-put-clause-kept : goal.returns-in_err-put-clause-kept
returns-in_err-put-clause-kept c =
    let roomy = c.make_room.ensures.same _ c.self.invariant.once in
    let once = subst (IsListedOnce (hashes_of c.self.inside.buckets.items) c.make_room.new.bits) (sym c.in_err-put.ensures.kept) roomy in
    let same = hashes_by c.make_room.new.bits c.put.new.buckets.items _ once ∙ c.self.view_is in
    grind (arith, same)

pub invariant_of-self-2 : goal.invariant_of-self-2
invariant_of-self-2 c =
    let roomy = c.make_room.ensures.same _ c.self.invariant.once in
    let fresh = ap (λ (e : Entry). map.get (hashes_of c.self.inside.buckets.items) e.number) c.in-Some.ensures.entry ∙ ap (λ m. map.get m c.args.number) c.self.view_is ∙ c.requires in
    IsSound-by c.make_room.new.bits c.put.new.buckets.items _ (IsListedOnce-add c.make_room.new.bits c.make_room.new.buckets.items c.put.new.buckets.items _ roomy c.in-Some.entry fresh c.in_ok-put.ensures.added) c.make_room.ensures.bits

pub returns-clause-added : goal.returns-clause-added
returns-clause-added c =
    let roomy = c.make_room.ensures.same _ c.self.invariant.once in
    let fresh = ap (λ (e : Entry). map.get (hashes_of c.self.inside.buckets.items) e.number) c.in-Some.ensures.entry ∙ ap (λ m. map.get m c.args.number) c.self.view_is ∙ c.requires in
    hashes_by c.make_room.new.bits c.put.new.buckets.items _ (IsListedOnce-add c.make_room.new.bits c.make_room.new.buckets.items c.put.new.buckets.items _ roomy c.in-Some.entry fresh c.in_ok-put.ensures.added)
    ∙ ap (λ (e : Entry). map.insert (hashes_of c.self.inside.buckets.items) e.number e.hash) c.in-Some.ensures.entry
    ∙ ap (λ m. map.insert m c.args.number c.args.hash) c.self.view_is
