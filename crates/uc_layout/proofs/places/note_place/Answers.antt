use Rattle.std.proofs.Common.{rules, ap, not, ◌∙◌, ◌≡◌, if◌then◌else◌}
use Rattle.uc_names.specs.Blocks.{is_declared, declared}
use Rattle.uc_layout.proofs.PlacesLemmas.{noted}
use Rattle.uc_layout.proofs.places.note_place.Goals as goal

pub returns-in_ok-declare-in-Ok : goal.returns-in_ok-declare-in-Ok
returns-in_ok-declare-in-Ok c = λ names long was.
    let e = c.in_ok-declare-in-Ok.ensures in
    let told = c.in_ok-declare-in-Ok.field-0 in
    let old = c.args.places.now in
    let name = c.bytes.ensures in
    let id : c.in-Ok.id ≡ c.args.place = search rules in
    noted names c.args.name.now c.args.place long old c.declare.new.self told (e.answer ∙ ap (λ x. not (is_declared old x)) name) (e.declared ∙ ap (λ x. if told then declared old x c.in-Ok.id else old) name ∙ ap (λ k. if told then declared old c.args.name.now k else old) id) was
