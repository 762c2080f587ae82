use Rattle.std.proofs.Common.{rules, length, ◌<◌}
use Rattle.uc_check_index.specs.Topics.{name_of}
use Rattle.uc_check_index.proofs.FirstsLemmas.{firsts_more, no_firsts}
use Rattle.uc_check_index.proofs.named.firsts_by_name.Goals as goal

pub loop-place-init : goal.loop-place-init
loop-place-init c = no_firsts (name_of c.args.topic) c.in_ok-firsts.firsts c.in_ok-firsts.ensures

pub loop-place-preserved : goal.loop-place-preserved
loop-place-preserved c =
    let xs = c.args.items.now in
    let within : c.loop-place.place < length xs = search rules in
    firsts_more (name_of c.args.topic) xs c.loop-place.place c.index-items-place.result _ c.loop-place.firsts c.note_name.new.firsts within c.index-items-place.is c.name_of.ensures c.in_ok-note_name.ensures c.loop-place.invariant
