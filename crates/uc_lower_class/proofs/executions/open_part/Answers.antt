use Rattle.uc_lower_class.proofs.Parting.{constructs_part}
use Rattle.uc_lower_class.proofs.executions.open_part.Goals as goal

pub returns : goal.returns
returns c = λ clean g.
    constructs_part clean c.args.what c.args.parts.now.items c.push.new.self.items c.args.out.now c.open.new.self c.in_ok-_row.ensures.ok c.in_ok-push.ensures.items c.in_ok-_row.ensures.kept g c.requires
