use Rattle.std.proofs.lemmas.Result.{err_from_is_err_and}
use Rattle.uc_top.proofs.Pieces.{one_more, fails, breaks_off}
use Rattle.uc_top.proofs.refusals.put_pieces.Goals as goal

pub returns-in_err-put_all-clause-failed : goal.returns-in_err-put_all-clause-failed
returns-in_err-put_all-clause-failed g c =
    let p = err_from_is_err_and c.from_residual.result c.from_residual.ensures.1 in
    rw p.1 (fails (λ p. p.now) c.args.pieces.now c.loop-piece.piece-index _ c.loop-piece-test.true c.loop-piece.invariant c.in_err-put_all.ensures.failed)

pub returns-in_err-put_all-clause-prefix : goal.returns-in_err-put_all-clause-prefix
returns-in_err-put_all-clause-prefix g c =
    let p = err_from_is_err_and c.from_residual.result c.from_residual.ensures.1 in
    rw p.1 (breaks_off (λ p. p.now) c.args.pieces.now c.loop-piece.piece-index _ c.loop-piece-test.true c.loop-piece.invariant c.in_err-put_all.ensures.prefix)

pub loop-piece-preserved : goal.loop-piece-preserved
loop-piece-preserved g c =
    one_more (λ p. p.now) c.args.pieces.now c.loop-piece.piece-index _ c.loop-piece-test.true c.loop-piece.invariant c.in_ok-put_all.ensures.ok
