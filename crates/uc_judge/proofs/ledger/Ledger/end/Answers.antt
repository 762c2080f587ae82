use Rattle.uc_acts.specs.Journal.{own_object}
use Rattle.uc_judge.proofs.Signals.{end_settles}
use Rattle.uc_judge.proofs.ledger.Ledger.end.Goals as goal

pub returns : goal.returns
returns c =
    let s = c.args.self.now in
    end_settles c.args.actor c.at.result c.own_object-object.result (own_object c.args.actor.task s.entries.items) c.at.ensures.is (c.own_object-object.ensures s.opts s.entries.items c.requires.ledger.tasks) c.in_ok-go_out.ensures
