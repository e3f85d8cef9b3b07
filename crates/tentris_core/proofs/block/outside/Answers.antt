use Rattle.std.proofs.Common.{◌∙◌, refl, sym, subst, ap}
use Rattle.std.specs.Prelude.{Some, None}
use Rattle.script_model.specs.Commands as script
use Rattle.script_model.specs.Commands.{trimmed}
use Rattle.script_read.specs.Forms.{form_meant}
use Rattle.answer_text.specs.declared.Refusal.TheVariants as cause
use Rattle.line_batch.specs.declared.answer.Answer.TheVariants as answer
use Rattle.tentris_core.specs.declared.block.Progress.TheVariants as place
use Rattle.line_batch.specs.Batches.{lent_line}
use Rattle.tentris_core.specs.Places.{Outside, MeetsLine}
use Rattle.tentris_core.proofs.BlockLemmas.{meets_note, meets_command, meets_bad, meets_begin, reads_none, sound_of, generate_of, form_scope}
use Rattle.tentris_core.proofs.block.outside.Goals as goal

pub returns-in_default-clause-meets : goal.returns-in_default-clause-meets
returns-in_default-clause-meets g c = λ A is.
    subst (λ o. MeetsLine A Outside (lent_line o) c.args.store.now c.args.store.now place.Outside (g.F.Files.faults c.args.files.now) (g.F.Files.faults c.args.files.now) (Some (answer.Refused cause.Command))) (sym c.in_default.is)
    (meets_bad A None c.args.store.now (answer.Refused cause.Command) (g.F.Files.faults c.args.files.now) refl refl refl (sound_of A is c.requires.sound))

pub returns-then-skipped-clause-meets : goal.returns-then-skipped-clause-meets
returns-then-skipped-clause-meets g c = λ A is.
    subst (λ o. MeetsLine A Outside (lent_line o) c.args.store.now c.args.store.now place.Outside (g.F.Files.faults c.args.files.now) (g.F.Files.faults c.args.files.now) None) (sym c.in-Some.is)
    (meets_note A (Some c.in-Some.bytes.now) c.args.store.now (g.F.Files.faults c.args.files.now) c.if-skipped.ensures)

pub returns-in-None-clause-meets : goal.returns-in-None-clause-meets
returns-in-None-clause-meets g c = λ A is.
    subst (λ o. MeetsLine A Outside (lent_line o) c.args.store.now c.args.store.now place.Outside (g.F.Files.faults c.args.files.now) (g.F.Files.faults c.args.files.now) (Some (answer.Refused cause.Command))) (sym c.in-Some.is)
    (meets_bad A (Some c.in-Some.bytes.now) c.args.store.now (answer.Refused cause.Command) (g.F.Files.faults c.args.files.now) refl c.if-skipped.ensures c.in-None.ensures (sound_of A is c.requires.sound))

pub returns-in-Some-Dump-clause-meets : goal.returns-in-Some-Dump-clause-meets
returns-in-Some-Dump-clause-meets g c = λ A is.
    subst (λ o. MeetsLine A Outside (lent_line o) c.args.store.now c.args.store.now place.Outside (g.F.Files.faults c.args.files.now) (g.F.Files.faults c.args.files.now) (Some c.dump.result)) (sym c.in-Some.is)
    (meets_command A (Some c.in-Some.bytes.now) c.args.store.now script.Dump c.args.store.now c.dump.result _ _ c.if-skipped.ensures (ap (λ f. Some (form_meant f)) (sym c.in-Some-Dump.field-0-is) ∙ c.in-Some-Dump.ensures)
    (reads_none (g.F.Files.faults c.args.files.now) (c.dump.ensures A (sound_of A is c.requires.sound))))

pub returns-in-Some-Stats-clause-meets : goal.returns-in-Some-Stats-clause-meets
returns-in-Some-Stats-clause-meets g c = λ A is.
    subst (λ o. MeetsLine A Outside (lent_line o) c.args.store.now c.args.store.now place.Outside (g.F.Files.faults c.args.files.now) (g.F.Files.faults c.args.files.now) (Some c.stats.result)) (sym c.in-Some.is)
    (meets_command A (Some c.in-Some.bytes.now) c.args.store.now script.Stats c.args.store.now c.stats.result _ _ c.if-skipped.ensures (ap (λ f. Some (form_meant f)) (sym c.in-Some-Stats.field-0-is) ∙ c.in-Some-Stats.ensures)
    (reads_none (g.F.Files.faults c.args.files.now) (c.stats.ensures A (sound_of A is c.requires.sound))))

pub returns-in-Some-Shape-clause-meets : goal.returns-in-Some-Shape-clause-meets
returns-in-Some-Shape-clause-meets g c = λ A is.
    subst (λ o. MeetsLine A Outside (lent_line o) c.args.store.now c.args.store.now place.Outside (g.F.Files.faults c.args.files.now) (g.F.Files.faults c.args.files.now) (Some c.shape.result)) (sym c.in-Some.is)
    (meets_command A (Some c.in-Some.bytes.now) c.args.store.now script.Shape c.args.store.now c.shape.result _ _ c.if-skipped.ensures (ap (λ f. Some (form_meant f)) (sym c.in-Some-Shape.field-0-is) ∙ c.in-Some-Shape.ensures)
    (reads_none (g.F.Files.faults c.args.files.now) (c.shape.ensures A (sound_of A is c.requires.sound))))

pub returns-in-Some-Insert-clause-meets : goal.returns-in-Some-Insert-clause-meets
returns-in-Some-Insert-clause-meets g c = λ A is.
    subst (λ o. MeetsLine A Outside (lent_line o) c.args.store.now c.args.store.now c.begin.result (g.F.Files.faults c.args.files.now) (g.F.Files.faults c.args.files.now) None) (sym c.in-Some.is)
    (meets_begin A (Some c.in-Some.bytes.now) c.args.store.now (script.Triples script.Inserts) c.begin.result (g.F.Files.faults c.args.files.now) c.if-skipped.ensures (ap (λ f. Some (form_meant f)) (sym c.in-Some-Insert.field-0-is) ∙ c.in-Some-Insert.ensures) (c.begin.ensures c.args.store.now script.Inserts c.inserts.ensures.none))

pub returns-in-Some-Delete-clause-meets : goal.returns-in-Some-Delete-clause-meets
returns-in-Some-Delete-clause-meets g c = λ A is.
    subst (λ o. MeetsLine A Outside (lent_line o) c.args.store.now c.args.store.now c.begin-in-Some-Delete.result (g.F.Files.faults c.args.files.now) (g.F.Files.faults c.args.files.now) None) (sym c.in-Some.is)
    (meets_begin A (Some c.in-Some.bytes.now) c.args.store.now (script.Triples script.Deletes) c.begin-in-Some-Delete.result (g.F.Files.faults c.args.files.now) c.if-skipped.ensures (ap (λ f. Some (form_meant f)) (sym c.in-Some-Delete.field-0-is) ∙ c.in-Some-Delete.ensures) (c.begin-in-Some-Delete.ensures c.args.store.now script.Deletes c.deletes.ensures.none))

pub returns-in-Some-Query-clause-meets : goal.returns-in-Some-Query-clause-meets
returns-in-Some-Query-clause-meets g c = λ A is.
    subst (λ o. MeetsLine A Outside (lent_line o) c.args.store.now c.args.store.now (place.Asks c.new.result) (g.F.Files.faults c.args.files.now) (g.F.Files.faults c.args.files.now) None) (sym c.in-Some.is)
    (meets_begin A (Some c.in-Some.bytes.now) c.args.store.now script.Question (place.Asks c.new.result) (g.F.Files.faults c.args.files.now) c.if-skipped.ensures (ap (λ f. Some (form_meant f)) (sym c.in-Some-Query.field-0-is) ∙ c.in-Some-Query.ensures) (refl, c.new.ensures))

pub returns-in-Some-Load-clause-meets : goal.returns-in-Some-Load-clause-meets
returns-in-Some-Load-clause-meets g c = λ A is.
    subst (λ o. MeetsLine A Outside (lent_line o) c.args.store.now c.carry_out_file-loaded.new.store place.Outside (g.F.Files.faults c.args.files.now) (g.F.Files.faults c.carry_out_file-loaded.new.files) (Some c.carry_out_file-loaded.result)) (sym c.in-Some.is)
    (meets_command A (Some c.in-Some.bytes.now) c.args.store.now (script.File script.Inserts c.in-Some-Load.scope.now c.in-Some-Load.name.now) c.carry_out_file-loaded.new.store c.carry_out_file-loaded.result _ _ c.if-skipped.ensures (ap (λ f. Some (form_meant f)) (sym c.in-Some-Load.field-0-is) ∙ c.in-Some-Load.ensures)
    (c.carry_out_file-loaded.ensures.line A script.Inserts is c.inserts-inserts.ensures.none))

pub returns-in-Some-Unload-clause-meets : goal.returns-in-Some-Unload-clause-meets
returns-in-Some-Unload-clause-meets g c = λ A is.
    subst (λ o. MeetsLine A Outside (lent_line o) c.args.store.now c.carry_out_file-unloaded.new.store place.Outside (g.F.Files.faults c.args.files.now) (g.F.Files.faults c.carry_out_file-unloaded.new.files) (Some c.carry_out_file-unloaded.result)) (sym c.in-Some.is)
    (meets_command A (Some c.in-Some.bytes.now) c.args.store.now (script.File script.Deletes c.in-Some-Unload.scope.now c.in-Some-Unload.name.now) c.carry_out_file-unloaded.new.store c.carry_out_file-unloaded.result _ _ c.if-skipped.ensures (ap (λ f. Some (form_meant f)) (sym c.in-Some-Unload.field-0-is) ∙ c.in-Some-Unload.ensures)
    (c.carry_out_file-unloaded.ensures.line A script.Deletes is c.deletes-deletes.ensures.none))

pub returns-in-Some-Generate-clause-meets : goal.returns-in-Some-Generate-clause-meets
returns-in-Some-Generate-clause-meets g c = λ A is.
    subst (λ o. MeetsLine A Outside (lent_line o) c.args.store.now c.generate-answer.new.store place.Outside (g.F.Files.faults c.args.files.now) (g.F.Files.faults c.args.files.now) (Some c.generate-answer.result)) (sym c.in-Some.is)
    (meets_command A (Some c.in-Some.bytes.now) c.args.store.now (script.Generate c.in-Some-Generate.count c.in-Some-Generate.salt) c.generate-answer.new.store c.generate-answer.result _ _ c.if-skipped.ensures (ap (λ f. Some (form_meant f)) (sym c.in-Some-Generate.field-0-is) ∙ c.in-Some-Generate.ensures)
    (reads_none (g.F.Files.faults c.args.files.now) (generate_of A is c.requires.sound c.generate-answer.ensures)))

pub carry_out_file-loaded-requires-clause-scope : goal.carry_out_file-loaded-requires-clause-scope
carry_out_file-loaded-requires-clause-scope g c =
    form_scope (trimmed c.in-Some.bytes.now) script.Inserts c.in-Some-Load.scope.now c.in-Some-Load.name.now
    (sym (ap (λ f. Some (form_meant f)) (sym c.in-Some-Load.field-0-is) ∙ c.in-Some-Load.ensures))

pub carry_out_file-unloaded-requires-clause-scope : goal.carry_out_file-unloaded-requires-clause-scope
carry_out_file-unloaded-requires-clause-scope g c =
    form_scope (trimmed c.in-Some.bytes.now) script.Deletes c.in-Some-Unload.scope.now c.in-Some-Unload.name.now
    (sym (ap (λ f. Some (form_meant f)) (sym c.in-Some-Unload.field-0-is) ∙ c.in-Some-Unload.ensures))
