use Rattle.std.proofs.Common.{rules, length, ◌<◌, refl}
use Rattle.uc_check_index.specs.Topics.{member_key_of}
use Rattle.uc_check_index.proofs.FirstsLemmas.{firsts_more, no_firsts}
use Rattle.uc_check_index.proofs.protos.firsts_of.Goals as goal

pub loop-place-init : goal.loop-place-init
loop-place-init c = no_firsts (member_key_of c.args.topic) c.in_ok-firsts.firsts c.in_ok-firsts.ensures

pub loop-place-preserved : goal.loop-place-preserved
loop-place-preserved c =
    let xs = c.args.members.now in
    let within : c.loop-place.place < length xs = search rules in
    let key = member_key_of c.args.topic c.index-members-place.result in
    firsts_more (member_key_of c.args.topic) xs c.loop-place.place c.index-members-place.result key c.loop-place.firsts c.note_key.new.firsts within c.index-members-place.is refl (c.in_ok-note_key.ensures key c.key_of.ensures) c.loop-place.invariant
