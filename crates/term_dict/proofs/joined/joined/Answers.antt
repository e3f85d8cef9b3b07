use Rattle.std.proofs.Common.{◌≡◌, ◌++◌, take, drop, length, ap, ◌∙◌, refl, rules}
use Rattle.std.specs.String.{string_bytes}
use Rattle.std.proofs.lemmas.List.{take_at, drop_at}
use Rattle.std.proofs.lemmas.Str.{IsCharBoundary-at_seam}
use Rattle.term_dict.proofs.joined.joined.Goals as goal

pub returns : goal.returns
returns c =
    let first = c.args.first.now in
    let second = c.args.second.now in
    let text : string_bytes c.push_str-2.new.self ≡ first ++ second = search rules in
    record {
      first_is = ap (take (length first)) text ∙ take_at first second _ refl;
      second_is = ap (drop (length first)) text ∙ drop_at first second _ refl;
      between = IsCharBoundary-at_seam _ first second text c.utf8.second;
    }
