use Rattle.uc_meaning.proofs.PingPongSampled.{ping_pong_run}
use Rattle.uc_meaning.proofs.samples.ping_pong_run.Goals as goal

pub returns : goal.returns
returns c = ping_pong_run
