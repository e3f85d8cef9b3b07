-- What is known of standard input, standard output and the file system: no bytes, and how often they failed.
use Rattle.std.specs.Prelude.{ℕ}
use Rattle.tentris_cli.specs.declared.disk.Disk.{Disk}
use Rattle.tentris_cli.specs.declared.standard.Counted.{Counted}

abbrev pub stream_faults : {S : Type 0} → Counted S → ℕ
stream_faults s = s.faults

abbrev pub disk_faults : Disk → ℕ
disk_faults s = s.faults
