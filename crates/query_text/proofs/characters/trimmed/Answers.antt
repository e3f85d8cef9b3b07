use Rattle.std.proofs.Common.{◌∙◌, ap, sym, subst, chars, IsUtf8, drop}
use Rattle.std.specs.Str.Iter.{chars_rest}
use Rattle.query_text.proofs.CharactersRead.{without_first, without_last, trims}
use Rattle.query_text.proofs.characters.trimmed.Goals as goal

pub returns : goal.returns
returns c =
    let first = without_first chars_rest c.chars-ahead.result c.next.new.self c.next.result (subst IsUtf8 (sym c.chars-ahead.ensures.rest) c.utf8.text) c.next.ensures.steps.0 in
    let last = without_last chars_rest c.next.new.self c.next_back.new.self c.next_back.result first.1 (subst IsUtf8 c.as_str.ensures c.as_str.utf8) c.next_back.ensures.steps in
    trims (chars c.args.text.now) _ _ (first.0 ∙ ap (λ bs. drop 1 (chars bs)) c.chars-ahead.ensures.rest) (ap chars c.as_str.ensures ∙ last)
