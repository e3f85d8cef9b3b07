use Rattle.std.proofs.Common.{refl}
use Rattle.term_dict.specs.Dict.{hash_of}
use Rattle.term_dict.proofs.dict.hash_of.Goals as goal

pub returns : goal.returns
unfolding hash_of
returns c = rw (c.short_hash.ensures, c.hash.ensures, c.hashed_texts.ensures.first, c.hashed_texts.ensures.second) refl
