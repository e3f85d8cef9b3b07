use Rattle.query_text.proofs.CharactersRead.{first_of}
use Rattle.query_text.proofs.characters.first.Goals as goal

pub returns : goal.returns
returns c = first_of c.args.text.now _ _ _ _ c.utf8.text c.as_str.utf8 c.chars-ahead.ensures.rest c.in_ok-c.ensures.steps.0 c.as_str.ensures
