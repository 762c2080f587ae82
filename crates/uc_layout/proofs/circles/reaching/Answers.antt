use Rattle.uc_layout.proofs.ContainmentProgressLemmas.{reached}
use Rattle.uc_layout.proofs.circles.reaching.Goals as goal

pub returns : goal.returns
returns c = reached c.args.rows.now c.args.class c.in_ok-flags.flags.items c.in_ok-flags.ensures.full c.in_ok-flags.ensures.led c.in_ok-flags.ensures.told
