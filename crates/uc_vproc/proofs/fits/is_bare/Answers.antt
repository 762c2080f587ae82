use Rattle.std.proofs.Common.{sym, ◌∙◌}
use Rattle.uc_vproc.proofs.Fitting.{known_there, not_true_false}
use Rattle.uc_vproc.proofs.fits.is_bare.Goals as goal

pub is_owned-requires-clause-known : goal.is_owned-requires-clause-known
is_owned-requires-clause-known c =
    let k = c.args.kernel.now in
    (known_there k.opts k.sites k.input k.journal c.requires.runs c.args.there.now c.requires.there c.args.object (sym c.is_there.ensures ∙ c.if-not-is_there.false)).made

pub returns : goal.returns
returns c h = record { holds = sym c.holds.ensures ∙ c.if-not-holds.false; nobody = c.is_owned.ensures.nobody (not_true_false c.is_owned.result h) }
