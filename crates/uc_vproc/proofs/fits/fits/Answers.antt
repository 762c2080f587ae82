use Rattle.std.proofs.Common.{◌<◌, false, arith, rules, sym, ap, ◌∙◌}
use Rattle.std.specs.Prelude.{slice_index_or}
use Rattle.uc_kernel.specs.Numbered.{keys}
use Rattle.uc_vproc.proofs.Fitting.{fits_anywhere, fits_at, fits_bare, fits_apart, fits_cluster, fits_owned, fits_processor}
use Rattle.uc_vproc.proofs.fits.fits.Goals as goal

pub returns-in-Anywhere : goal.returns-in-Anywhere
returns-in-Anywhere c h =
    let k = c.args.kernel.now in
    fits_anywhere k.opts k.sites k.input k.journal c.requires.runs c.requires.going c.args.task (keys c.args.hand.now.items) c.requires.hand c.own_object-own.result c.own_object-own.ensures c.args.request.now c.requires.form (sym c.place_for.ensures ∙ c.in-Anywhere.is)

pub returns-in-At : goal.returns-in-At
returns-in-At c h =
    let k = c.args.kernel.now in
    fits_at k.opts k.sites k.input k.journal c.requires.runs c.requires.going c.args.task (keys c.args.hand.now.items) c.requires.hand c.own_object-own.result c.own_object-own.ensures c.in-At.object c.args.request.now c.requires.names (sym c.holds.ensures ∙ h) (sym c.place_for.ensures ∙ c.in-At.is)

pub returns-in-Unowned : goal.returns-in-Unowned
returns-in-Unowned c h =
    let k = c.args.kernel.now in
    fits_bare k.opts k.sites k.input k.journal c.requires.runs c.requires.going c.args.task (keys c.args.hand.now.items) c.requires.hand c.own_object-own.result c.own_object-own.ensures c.in-Unowned.object c.args.request.now (c.is_bare.ensures h) (sym c.place_for.ensures ∙ c.in-Unowned.is)

pub returns-in-Outside : goal.returns-in-Outside
returns-in-Outside c h =
    let k = c.args.kernel.now in
    fits_apart k.opts k.sites k.input k.journal c.requires.runs c.requires.going c.args.task (keys c.args.hand.now.items) c.requires.hand c.own_object-own.result c.own_object-own.ensures c.args.registry.now.there.items c.requires.told.objects c.in-Outside.object c.args.request.now c.requires.names c.requires.apart (ap (λ l. slice_index_or l c.in-Outside.object false) (sym c.deref-in-Outside.ensures.value) ∙ sym c.is_there.ensures ∙ h) (sym c.place_for.ensures ∙ c.in-Outside.is)

pub returns-in-Owned : goal.returns-in-Owned
returns-in-Owned c h =
    let k = c.args.kernel.now in
    fits_owned k.opts k.sites k.input k.journal c.requires.runs c.requires.going c.args.task (keys c.args.hand.now.items) c.requires.hand c.own_object-own.result c.own_object-own.ensures c.in-Owned.object c.args.request.now c.requires.event (c.is_sought.ensures h) (sym c.place_for.ensures ∙ c.in-Owned.is)

pub returns-in-Cluster : goal.returns-in-Cluster
returns-in-Cluster c h =
    let k = c.args.kernel.now in
    let le = c.requires.told.clusters in
    let lt : c.in-Cluster.cluster < c.args.registry.now.clusters = search rules in
    fits_cluster k.opts k.sites k.input k.journal c.requires.runs c.requires.going c.args.task (keys c.args.hand.now.items) c.requires.hand c.own_object-own.result c.own_object-own.ensures c.in-Cluster.cluster c.args.request.now (omega (arith, le, lt)) (sym c.place_for.ensures ∙ c.in-Cluster.is)

pub returns-in-Processor : goal.returns-in-Processor
returns-in-Processor c h =
    let k = c.args.kernel.now in
    let le = c.requires.told.processors in
    let lt : c.in-Processor.processor < c.args.registry.now.processors = search rules in
    fits_processor k.opts k.sites k.input k.journal c.requires.runs c.requires.going c.args.task (keys c.args.hand.now.items) c.requires.hand c.own_object-own.result c.own_object-own.ensures c.in-Processor.processor c.args.request.now (omega (arith, le, lt)) (sym c.place_for.ensures ∙ c.in-Processor.is)
