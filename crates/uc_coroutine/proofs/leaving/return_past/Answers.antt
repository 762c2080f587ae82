use Rattle.uc_coroutine.proofs.Lefts.{returns_past}
use Rattle.uc_coroutine.proofs.leaving.return_past.Goals as goal

pub returns-clause-source : goal.returns-clause-source
returns-clause-source c =
    λ yes code s value g h. returns_past code c.args.work.now c.leave_handler-made.new.work s c.args.given value g h c.leave_handler-made.result yes c.leave_handler-made.ensures
