-- The exit statuses of the program (docs/SCRIPT.md, "How a run ends").
use Rattle.std.specs.Prelude.{ℕ}
use Rattle.tentris_core.specs.declared.running.Status.{Status}
use Rattle.tentris_core.specs.declared.running.Status.TheVariants.{Done, SomeRefused, BadWords, ReadFault, WriteFault, Memory, TooLong}

abbrev pub code_of : Status → ℕ
code_of Done = 0
code_of SomeRefused = 1
code_of BadWords = 2
code_of ReadFault = 3
code_of WriteFault = 4
code_of Memory = 5
code_of TooLong = 6
