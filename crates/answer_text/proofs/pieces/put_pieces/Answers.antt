use Rattle.std.proofs.Common.{rules, arith, ◌∙◌, List, ℕ, Bor}
use Rattle.std.proofs.lemmas.Result.{err_from_is_err_and}
use Rattle.tn_io.proofs.KnownLemmas.{begins_self, begins_trans}
use Rattle.answer_text.proofs.PutLemmas.{put_more, put_cut}
use Rattle.answer_text.proofs.pieces.put_pieces.Goals as goal

pub loop-piece-preserved : goal.loop-piece-preserved
loop-piece-preserved g c = record {
  same_sink = c.in_ok-put.ensures.same_sink ∙ c.loop-piece.invariant.same_sink;
  put = put_more (λ (p : Bor (List ℕ)). p.now) _ _ _ c.args.pieces.now c.loop-piece.piece-index _ (omega arith) c.loop-piece.invariant.put c.in_ok-put.ensures.puts.put;
  grows = begins_trans _ _ _ c.loop-piece.invariant.grows c.in_ok-put.ensures.puts.grows;
  faults = search rules;
}

pub returns-in_err-put-clause-put : goal.returns-in_err-put-clause-put
returns-in_err-put-clause-put g c =
    let failed = err_from_is_err_and c.from_residual.result c.from_residual.ensures.1 in
    record {
      put = rw failed.1 tt;
      cut = rw failed.1 (put_cut (λ (p : Bor (List ℕ)). p.now) _ _ _ c.args.pieces.now c.loop-piece.piece-index _ (omega arith) c.loop-piece.invariant.put c.in_err-put.ensures.puts.cut);
      cause = search rules;
      grows = begins_trans _ _ _ c.loop-piece.invariant.grows c.in_err-put.ensures.puts.grows;
    }

pub loop-piece-init : goal.loop-piece-init
loop-piece-init g c = record { same_sink = search rules; put = search rules; grows = begins_self _; faults = search rules }
