-- What it means for a run that the command line can't be read.
use Rattle.std.specs.IoError.{error_kind}
use Rattle.std.specs.declared.io.Error.{Error}
use Rattle.std.specs.declared.io.ErrorKind.{ErrorKind}
use Rattle.std.specs.declared.io.ErrorKind.TheVariants.{InvalidData}
use Rattle.tentris_core.specs.declared.Status.{Status}
use Rattle.tentris_core.specs.declared.Status.TheVariants.{BadWords, Memory}

-- words that are not UTF-8 are bad words; else memory ran out
abbrev pub status_by : ErrorKind → Status
status_by InvalidData = BadWords
status_by _ = Memory

abbrev pub status_of : Error → Status
status_of error = status_by (error_kind error)
