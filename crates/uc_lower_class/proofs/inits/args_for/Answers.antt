use Rattle.std.proofs.Common.{◌<◌, length, sym, ◌∙◌, map, arith}
use Rattle.std.proofs.lemmas.Bool.{ltb-false}
use Rattle.uc_tree.specs.Programs.{Init}
use Rattle.uc_lower_class.proofs.Naming.{init_few, init_got, init_nowhere}
use Rattle.uc_lower_class.proofs.inits.args_for.Goals as goal

pub returns-in-None : goal.returns-in-None
returns-in-None c = sym (init_nowhere c.args.inits.now 0 c.args.name.now (sym (c.place_in.ensures (map (λ (x : Init). x.name) c.args.inits.now) c.requires) ∙ c.in-None.is))

pub returns-in-Some-get : goal.returns-in-Some-get
returns-in-Some-get c =
    let place = sym (c.place_in.ensures (map (λ (x : Init). x.name) c.args.inits.now) c.requires) ∙ c.in-Some.is in
    c.args_of.ensures ∙ sym (init_got c.args.inits.now c.in-Some.place c.args.name.now c.in-Some-get.init.now place (c.in-Some-get.ensures.lookup.3.1 c.in-Some-get.init.now))

pub returns-in-None-get : goal.returns-in-None-get
returns-in-None-get c =
    let place = sym (c.place_in.ensures (map (λ (x : Init). x.name) c.args.inits.now) c.requires) ∙ c.in-Some.is in
    let few : c.in-Some.place < length c.args.inits.now = init_few c.args.inits.now c.in-Some.place c.args.name.now place in
    let past = ltb-false c.in-Some.place (length c.args.inits.now) (sym c.in-None-get.ensures.lookup.0) in
    absurd (omega (arith, few, past))
