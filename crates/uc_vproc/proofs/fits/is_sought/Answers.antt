use Rattle.std.proofs.Common.{sym, ◌∙◌}
use Rattle.uc_vproc.proofs.Fitting.{known_there}
use Rattle.uc_vproc.proofs.fits.is_sought.Goals as goal

pub is_owned-requires-clause-known : goal.is_owned-requires-clause-known
is_owned-requires-clause-known c =
    let k = c.args.kernel.now in
    (known_there k.opts k.sites k.input k.journal c.requires.runs c.args.there.now c.requires.there c.args.object (sym c.is_there.ensures ∙ c.if-not-is_there.false)).made

pub returns : goal.returns
returns c h =
    let k = c.args.kernel.now in
    record { known = known_there k.opts k.sites k.input k.journal c.requires.runs c.args.there.now c.requires.there c.args.object (sym c.is_there.ensures ∙ c.if-not-is_there.false); one = c.is_owned.ensures.one h }
