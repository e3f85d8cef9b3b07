use Rattle.std.proofs.Common.{◌≡◌, ℕ, None, ◌∙◌, ap, arith}
use Rattle.std.specs.Ordering.{nat_cmp}
use Rattle.std.specs.FinMap as map
use Rattle.hash_index.proofs.Lists.{get-added, get-added_other}
use Rattle.worked_index.proofs.numbers.numbers_under_two_hashes.Goals as goal

none : (m : map.FinMap nat_cmp ℕ) → m ≡ map.empty → (q : ℕ) → map.get m q ≡ None
none m is q = ap (λ n. map.get n q) is ∙ map.get-empty nat_cmp q

pub add-requires : goal.add-requires
add-requires g c = none c.new-index.result c.new-index.ensures 1

pub add-requires-2 : goal.add-requires-2
add-requires-2 g c =
    get-added_other c.new-index.result c.add.new.self 1 7 2 c.in_ok-add.ensures.added (λ is. omega arith)
    ∙ none c.new-index.result c.new-index.ensures 2

pub add-requires-3 : goal.add-requires-3
add-requires-3 g c =
    get-added_other c.add.new.self c.add-2.new.self 2 7 3 c.in_ok-add-2.ensures.added (λ is. omega arith)
    ∙ get-added_other c.new-index.result c.add.new.self 1 7 3 c.in_ok-add.ensures.added (λ is. omega arith)
    ∙ none c.new-index.result c.new-index.ensures 3

pub add-requires-4 : goal.add-requires-4
add-requires-4 g c =
    get-added_other c.add-2.new.self c.add-3.new.self 3 7 4 c.in_ok-add-3.ensures.added (λ is. omega arith)
    ∙ get-added_other c.add.new.self c.add-2.new.self 2 7 4 c.in_ok-add-2.ensures.added (λ is. omega arith)
    ∙ get-added_other c.new-index.result c.add.new.self 1 7 4 c.in_ok-add.ensures.added (λ is. omega arith)
    ∙ none c.new-index.result c.new-index.ensures 4

pub remove-requires : goal.remove-requires
remove-requires g c =
    get-added_other c.add-3.new.self c.add-4.new.self 4 8 2 c.in_ok-add-4.ensures.added (λ is. omega arith)
    ∙ get-added_other c.add-2.new.self c.add-3.new.self 3 7 2 c.in_ok-add-3.ensures.added (λ is. omega arith)
    ∙ get-added c.add.new.self c.add-2.new.self 2 7 c.in_ok-add-2.ensures.added
