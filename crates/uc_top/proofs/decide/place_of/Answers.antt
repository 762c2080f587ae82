use Rattle.std.proofs.Common.{◌∙◌, ap}
use Rattle.uc_top.proofs.Places.{place_there, place_past}
use Rattle.uc_top.proofs.decide.place_of.Goals as goal

pub returns-in-Some : goal.returns-in-Some
returns-in-Some c =
    let at = c.in-Some.ensures.lookup.3 in
    let token = c.in-Some.token.now in
    ap (λ t. t.pos) (at.1 token) ∙ place_there c.args.text.now c.args.tokens.now c.args.token token at.0

pub returns-in-None : goal.returns-in-None
returns-in-None c =
    c.pos_at.ensures ∙ place_past c.args.text.now c.args.tokens.now c.args.token c.in-None.ensures.lookup.3
