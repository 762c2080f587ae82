use Rattle.std.proofs.Common.{take}
use Rattle.std.specs.Prelude.{map}
use Rattle.std.specs.List.{concat}
use Rattle.uc_outside.specs.Taking.{Took}
use Rattle.uc_top.proofs.refusals.put_pieces.Given as goal

abbrev pub invariant-loop-piece : goal.invariant-loop-piece
invariant-loop-piece g l =
    Took (g.E.Sink.state l.initial.err) (g.E.Sink.state l.err) (concat (map (λ p. p.now) (take l.piece-index l.pieces)))
