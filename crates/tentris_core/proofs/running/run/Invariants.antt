use Rattle.tentris_core.proofs.running.run.Given as goal

abbrev pub ghosts-run_script-W-Ledger : goal.ghosts-run_script-W-Ledger
ghosts-run_script-W-Ledger g a = record { name = a.interns.name; parts = a.interns.parts }

abbrev pub ghosts-run_script-V-Ledger : goal.ghosts-run_script-V-Ledger
ghosts-run_script-V-Ledger g a = record { name = a.retains.name; parts = a.retains.parts }

abbrev pub ghosts-run_script-U-Ledger : goal.ghosts-run_script-U-Ledger
ghosts-run_script-U-Ledger g a = record { name = a.reads.name; parts = a.reads.parts }
