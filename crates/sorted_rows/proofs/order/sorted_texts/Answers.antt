use Rattle.sorted_rows.proofs.OrderTexts.{texts_in_order}
use Rattle.sorted_rows.proofs.order.sorted_texts.Goals as goal

pub returns : goal.returns
returns g c = λ q G gives.
    let found = c.in_ok-texts.ensures in
    texts_in_order q G c.args.listing found.0 c.in_ok-texts.texts.items c.sort_unstable.new.self.items gives found.1 found.2 c.sort_unstable.ensures.permutation c.sort_unstable.ensures.sorted
