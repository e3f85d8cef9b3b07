use Rattle.tentris_core.proofs.BlockLemmas.{reads_line, has_of}
use Rattle.tentris_core.proofs.block.carry_out_file.Goals as goal

pub returns-clause-line : goal.returns-clause-line
returns-clause-line g c = λ A change is none. reads_line (c.load.ensures.carries A change (has_of A is) c.requires.sound none)
