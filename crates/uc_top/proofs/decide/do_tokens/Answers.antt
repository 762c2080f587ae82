use Rattle.std.proofs.Common.{◌<◌, ◌^◌, length, ◌∙◌, ap, arith}
use Rattle.uc_tree.specs.declared.limits.TheConstants.{NESTING}
use Rattle.uc_sound.proofs.Texts.{law_formed}
use Rattle.uc_top.specs.Accepted.{place_of}
use Rattle.uc_top.proofs.Places.{deep_at}
use Rattle.uc_top.proofs.decide.do_tokens.Goals as goal

pub returns-in-Err-TooDeep-clause-refused : goal.returns-in-Err-TooDeep-clause-refused
returns-in-Err-TooDeep-clause-refused g c =
    let at = c.in-Err-TooDeep in
    let place = c.place_of-in-Err-TooDeep.ensures ∙ ap (place_of c.args.text.now c.args.tokens.now) at.token-is in
    deep_at c.args.text.now c.args.tokens.now at.field-0 at.token c.place_of-in-Err-TooDeep.result at.field-0-is at.ensures.fails at.ensures.none at.ensures.first at.ensures.within place

pub do_program-ran-requires-clause-formed : goal.do_program-ran-requires-clause-formed
do_program-ran-requires-clause-formed g c κs within =
    let few : length c.args.tokens.now < 2 ^ 32 = c.requires.few in
    law_formed NESTING c.args.tokens.now c.in-Ok.program (omega (arith, few)) c.in-Ok.ensures.found
