use Rattle.std.proofs.Common.{refl}
use Rattle.term_dict.specs.TextHash.{hash_of_texts}
use Rattle.term_dict.proofs.text_hash.TextHash.hash.Goals as goal

pub returns : goal.returns
unfolding hash_of_texts
returns c = rw (c.after.ensures, c.after-state.ensures, c.as_bytes.ensures.value, c.as_bytes-2.ensures.value) refl
