use Rattle.std.proofs.Common.{sym, subst}
use Rattle.run_model.specs.Answers.{refusal_text}
use Rattle.tn_io.specs.OutText.{Puts}
use Rattle.answer_text.specs.Seen.{refusal_of}
use Rattle.answer_text.proofs.reply.refused.Goals as goal

pub returns-in-Command-clause-put : goal.returns-in-Command-clause-put
returns-in-Command-clause-put g c = subst (λ r. Puts g.K.Sink.written g.K.Sink.faults c.args.out.now c.put_pieces.new.out c.put_pieces.result (refusal_text (refusal_of r))) (sym c.in-Command.is) c.put_pieces.ensures.put

pub returns-in-Query-clause-put : goal.returns-in-Query-clause-put
returns-in-Query-clause-put g c = subst (λ r. Puts g.K.Sink.written g.K.Sink.faults c.args.out.now c.put_pieces-in-Query.new.out c.put_pieces-in-Query.result (refusal_text (refusal_of r))) (sym c.in-Query.is) c.put_pieces-in-Query.ensures.put

pub returns-in-Line-clause-put : goal.returns-in-Line-clause-put
returns-in-Line-clause-put g c = subst (λ r. Puts g.K.Sink.written g.K.Sink.faults c.args.out.now c.put_number.new.out c.put_number.result (refusal_text (refusal_of r))) (sym c.in-Line.is) c.put_number.ensures.put

pub returns-in-File-clause-put : goal.returns-in-File-clause-put
returns-in-File-clause-put g c = subst (λ r. Puts g.K.Sink.written g.K.Sink.faults c.args.out.now c.put_pieces-in-File.new.out c.put_pieces-in-File.result (refusal_text (refusal_of r))) (sym c.in-File.is) c.put_pieces-in-File.ensures.put

pub returns-in-Full-clause-put : goal.returns-in-Full-clause-put
returns-in-Full-clause-put g c = subst (λ r. Puts g.K.Sink.written g.K.Sink.faults c.args.out.now c.put_number-in-Full.new.out c.put_number-in-Full.result (refusal_text (refusal_of r))) (sym c.in-Full.is) c.put_number-in-Full.ensures.put

pub returns-in-Long-clause-put : goal.returns-in-Long-clause-put
returns-in-Long-clause-put g c = subst (λ r. Puts g.K.Sink.written g.K.Sink.faults c.args.out.now c.put_pieces-in-Long.new.out c.put_pieces-in-Long.result (refusal_text (refusal_of r))) (sym c.in-Long.is) c.put_pieces-in-Long.ensures.put

pub returns-in-Prefix-clause-put : goal.returns-in-Prefix-clause-put
returns-in-Prefix-clause-put g c = subst (λ r. Puts g.K.Sink.written g.K.Sink.faults c.args.out.now c.put_pieces-in-Prefix.new.out c.put_pieces-in-Prefix.result (refusal_text (refusal_of r))) (sym c.in-Prefix.is) c.put_pieces-in-Prefix.ensures.put

pub returns-in-Size-clause-put : goal.returns-in-Size-clause-put
returns-in-Size-clause-put g c = subst (λ r. Puts g.K.Sink.written g.K.Sink.faults c.args.out.now c.put_pieces-in-Size.new.out c.put_pieces-in-Size.result (refusal_text (refusal_of r))) (sym c.in-Size.is) c.put_pieces-in-Size.ensures.put

pub returns-in-Memory-clause-put : goal.returns-in-Memory-clause-put
returns-in-Memory-clause-put g c = subst (λ r. Puts g.K.Sink.written g.K.Sink.faults c.args.out.now c.put_pieces-in-Memory.new.out c.put_pieces-in-Memory.result (refusal_text (refusal_of r))) (sym c.in-Memory.is) c.put_pieces-in-Memory.ensures.put

pub returns-in-Unended-clause-put : goal.returns-in-Unended-clause-put
returns-in-Unended-clause-put g c = subst (λ r. Puts g.K.Sink.written g.K.Sink.faults c.args.out.now c.put_pieces-in-Unended.new.out c.put_pieces-in-Unended.result (refusal_text (refusal_of r))) (sym c.in-Unended.is) c.put_pieces-in-Unended.ensures.put
