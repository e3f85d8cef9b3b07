-- Refusals, replies and figures of the program as those of the definitions.
use Rattle.graph_shape.specs.GraphShapes as shape
use Rattle.run_model.specs.Answers as model
use Rattle.answer_text.specs.declared.reply.Refusal.{Refusal}
use Rattle.answer_text.specs.declared.reply.Refusal.TheVariants as cause
use Rattle.answer_text.specs.declared.reply.Reply.{Reply}
use Rattle.answer_text.specs.declared.reply.Reply.TheVariants as reply
use Rattle.answer_text.specs.declared.reply.Figures.{Figures}

abbrev pub refusal_of : Refusal → model.Refusal
refusal_of cause.Command = model.NoCommand
refusal_of cause.Query = model.NoQuery
refusal_of (cause.Line number) = model.BadLine number
refusal_of cause.File = model.NoFile
refusal_of (cause.Full number) = model.FullAt number
refusal_of cause.Long = model.IsLong
refusal_of cause.Prefix = model.NoPrefix
refusal_of cause.Size = model.IsLarge
refusal_of cause.Memory = model.NoMemory
refusal_of cause.Unended = model.EndInBlock

abbrev pub reply_of : Reply → model.Reply
reply_of (reply.New changed now) = model.New changed now
reply_of (reply.Gone changed now) = model.Gone changed now
reply_of (reply.Rows rows) = model.Rows rows
reply_of reply.Stats = model.Stats
reply_of reply.Shape = model.Shape
reply_of (reply.Dump lines) = model.Dump lines

abbrev pub figures_of : Figures → shape.Figures
figures_of f = record { triples = f.triples; terms = f.terms; two = f.two; one = f.one }
