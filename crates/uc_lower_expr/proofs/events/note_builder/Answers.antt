use Rattle.std.proofs.Common.{rules, ◌≡◌, true, false, not, if◌then◌else◌, ap, sym, ◌∙◌}
use Rattle.uc_names.specs.Blocks.{is_declared, declared}
use Rattle.uc_tree.specs.Programs.{Sig}
use Rattle.uc_lower_expr.specs.Events.{builds_event}
use Rattle.uc_lower_expr.proofs.Eventful.{builder_declared, builder_passed, declared_noted}
use Rattle.uc_lower_expr.proofs.events.note_builder.Goals as goal

pub returns-then-not-builds_event : goal.returns-then-not-builds_event
returns-then-not-builds_event c =
    let builds : builds_event c.args.owner c.args.routine.now.sig ≡ false = sym (c.builds_event.ensures ∙ ap (builds_event c.args.owner) c.sig_of-sig.ensures) ∙ c.if-not-builds_event.true in
    builder_passed c.args.owner c.args.routine.now.sig c.args.number c.args.builders.now builds

pub returns-in_ok-declare-in-Ok : goal.returns-in_ok-declare-in-Ok
returns-in_ok-declare-in-Ok c =
    let sig = c.args.routine.now.sig in
    let old = c.args.builders.now in
    let told = c.in_ok-declare-in-Ok.field-0 in
    let e = c.in_ok-declare-in-Ok.ensures in
    let builds : builds_event c.args.owner sig ≡ true = sym (c.builds_event.ensures ∙ ap (builds_event c.args.owner) c.sig_of-sig.ensures) ∙ search rules in
    let name : c.bytes.result.now ≡ sig.name = c.bytes.ensures ∙ c.name_of.ensures ∙ ap (λ (g : Sig). g.name) c.sig_of-sig.ensures in
    let id : c.in-Ok.id ≡ c.args.number = search rules in
    builder_declared c.args.owner sig c.args.number old c.declare.new.self builds (declared_noted old c.declare.new.self sig.name c.args.number told (e.answer ∙ ap (λ x. not (is_declared old x)) name) (e.declared ∙ ap (λ x. if told then declared old x c.in-Ok.id else old) name ∙ ap (λ k. if told then declared old sig.name k else old) id))
