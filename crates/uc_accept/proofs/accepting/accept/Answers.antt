use Rattle.std.proofs.Common.{◌∙◌, ap}
use Rattle.uc_mutex.specs.Offers.{offers_by}
use Rattle.uc_accept.specs.Accepting.{doors_of, to_met}
use Rattle.uc_accept.proofs.Trying.{free_pulled, taken_doors}
use Rattle.uc_accept.proofs.accepting.accept.Goals as goal

pub admit-requires-clause-free : goal.admit-requires-clause-free
admit-requires-clause-free g c =
    (free_pulled c.args.entries.now c.pull_first.new.entries c.args.object c.in-Some.taken.task c.args.task c.requires.object c.in-Some.ensures.pulled c.requires.free, c.in-Some.ensures.free)

pub returns-in-Some-clause-doors : goal.returns-in-Some-clause-doors
returns-in-Some-clause-doors g c =
    let s = c.args.site.now in
    taken_doors c.args.entries.now c.pull_first.new.entries c.admit.new.entries c.args.object c.args.task (to_met c.in-Some.taken) c.requires.object c.in-Some.ensures.pulled c.admit.ensures.doors
    ∙ ap (doors_of c.args.entries.now c.args.object c.args.task s.has_else (offers_by s c.args.mask)) c.in-Some.ensures.value
