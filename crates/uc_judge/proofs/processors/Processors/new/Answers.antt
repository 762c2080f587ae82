use Rattle.std.proofs.Common.{◌==◌, ap}
use Rattle.std.specs.List.{list_any}
use Rattle.uc_judge.proofs.Housing.{none_made, none_closed}
use Rattle.uc_judge.proofs.processors.Processors.new.Goals as goal

pub returns : goal.returns
returns c = record {
  all = none_made c.args.opts.now c.in_ok-all.all.items c.in_ok-all.ensures;
  opened = none_closed c.args.opts.now c.in_ok-opened.opened.items c.in_ok-opened.ensures;
  closed = λ p. ap (list_any (λ x. x == p)) c.new.ensures.items;
}
