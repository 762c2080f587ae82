use Rattle.uc_types.proofs.Loops.{exprs_fall, parts_fall, links_fall, sound_more, args_more, chain_more, chain_noted, parts_more, parts_noted}
use Rattle.uc_types.proofs.expr.+expr.Goals as goal

pub check_args-loop-place-preserved : goal.check_args-loop-place-preserved
check_args-loop-place-preserved t c = record {
  size = exprs_fall c.args.args.now c.loop-place.place c.index-args-place.result _ c.loop-place-test.true c.index-args-place.is c.loop-place.invariant.size;
  sound = sound_more c.args.names.now c.args.args.now c.args.target c.loop-place.place c.index-args-place.result _ _ _ _ c.loop-place-test.true c.index-args-place.is c.check_arg-fits.ensures.sound c.both-sound.ensures c.loop-place.invariant.sound;
  breaks = args_more c.args.names.now c.args.args.now c.args.target c.loop-place.place c.index-args-place.result _ _ _ c.loop-place-test.true c.index-args-place.is c.check_arg-fits.ensures.breaks c.loop-place.invariant.breaks;
}

pub check_chain-loop-link-preserved : goal.check_chain-loop-link-preserved
check_chain-loop-link-preserved t c = record {
  size = links_fall c.args.rest.now c.loop-link.link-index c.link-item.result _ c.loop-link-test.true c.link-item.is c.loop-link.invariant.size;
  entity = chain_more c.args.names.now c.args.rest.now c.loop-link.link-index c.link-item.result _ _ _ c.loop-link-test.true c.link-item.is c.check_link-left.ensures.entity c.loop-link.invariant.entity;
  breaks = chain_noted c.args.names.now c.args.rest.now c.loop-link.link-index c.link-item.result _ _ _ _ _ c.loop-link-test.true c.link-item.is c.check_link-left.ensures.entity c.check_link-left.ensures.breaks c.loop-link.invariant.breaks;
}

pub check_parts-loop-place-preserved : goal.check_parts-loop-place-preserved
check_parts-loop-place-preserved t c = record {
  size = parts_fall c.args.parts.now c.loop-place.place c.index-parts-place.result _ c.loop-place-test.true c.index-parts-place.is c.loop-place.invariant.size;
  entity = parts_more c.args.names.now c.args.parts.now c.loop-place.place c.index-parts-place.result _ _ _ _ c.loop-place-test.true c.index-parts-place.is c.call_follows-called.ensures c.check_part-entity.ensures.entity c.loop-place.invariant.entity;
  breaks = parts_noted c.args.names.now c.args.parts.now c.loop-place.place c.index-parts-place.result _ _ _ _ _ _ c.loop-place-test.true c.index-parts-place.is c.call_follows-called.ensures c.check_part-entity.ensures.entity c.check_part-entity.ensures.breaks c.loop-place.invariant.breaks;
}
