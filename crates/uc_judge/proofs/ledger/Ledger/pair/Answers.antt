use Rattle.std.proofs.Common.{[], ◌∷◌}
use Rattle.uc_judge.proofs.Settling.{safe_then}
use Rattle.uc_judge.proofs.ledger.Ledger.pair.Goals as goal

pub returns : goal.returns
returns c =
    safe_then c.args.actor (c.args.f ∷ []) c.in_ok-add.ensures c.requires.safe c.in_ok-_going.ensures.settles
