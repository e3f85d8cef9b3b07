use Rattle.std.proofs.Common.{◌∙◌, sym, ap, subst}
use Rattle.script_read.specs.ScriptState.{at_start}
use Rattle.line_batch.specs.Sound.{IsBetweenCommands}
use Rattle.tentris_core.proofs.CallLemmas.{script_ends_of, sound_bounded}
use Rattle.tentris_core.proofs.running.carry_out_within.Goals as goal

pub carry_out-requires-clause-start : goal.carry_out-requires-clause-start
carry_out-requires-clause-start g c = c.requires.start ∙ ap at_start (sym c.requires.most)

pub carry_out-requires-clause-sound : goal.carry_out-requires-clause-sound
carry_out-requires-clause-sound g c = subst (IsBetweenCommands g.M.Mix.mixed) (sym c.set_max.ensures) (sound_bounded c.args.settings c.args.store.now c.requires.sound)

pub returns-clause-ends : goal.returns-clause-ends
returns-clause-ends g c =
    script_ends_of _ _ c.args.store.now c.args.settings _ _ _ _ c.requires.sorted c.requires.most c.set_max.ensures c.carry_out.ensures.accepted c.carry_out.ensures.sufficed c.carry_out.ensures.ends
