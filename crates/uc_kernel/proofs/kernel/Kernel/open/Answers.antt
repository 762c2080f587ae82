use Rattle.uc_kernel.proofs.Opening.{kept_first, opened}
use Rattle.uc_kernel.proofs.kernel.Kernel.open.Goals as goal

pub invariant_of-result : goal.invariant_of-result
invariant_of-result g c = kept_first c.args.shape.sites.items c.args.opts c.args.input.items c.args.first c.args.own c.requires.options c.requires.input c.in_ok-book.book c.in_ok-book.ensures c.in_ok-tasks.tasks.items c.in_ok-tasks.ensures c.in_ok-loose.loose.items c.in_ok-loose.ensures

pub returns : goal.returns
returns g c = opened c.args.shape.sites.items c.args.opts c.args.input.items c.args.first c.args.own c.requires.options c.requires.input c.in_ok-book.book c.in_ok-book.ensures c.in_ok-tasks.tasks.items c.in_ok-tasks.ensures c.in_ok-loose.loose.items c.in_ok-loose.ensures
