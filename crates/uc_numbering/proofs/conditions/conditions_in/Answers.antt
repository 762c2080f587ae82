use Rattle.std.proofs.Common.{◌++◌, map, refl, ap, ◌∙◌}
use Rattle.uc_tree.specs.Numbering.{conditions_of, form_conditions}
use Rattle.uc_numbering.proofs.Put.{turned, ended}
use Rattle.uc_numbering.proofs.conditions.conditions_in.Goals as goal

pub loop-member-preserved : goal.loop-member-preserved
loop-member-preserved c = turned conditions_of c.args.members.now c.loop-member.member-index c.member-item.result (form_conditions c.member-item.result.form) (map (λ d. d.now) c.loop-member.found.items) (map (λ d. d.now) c.push_form.new.found.items) _ c.loop-member-test.true c.member-item.is refl (c.in_ok-push_form.ensures ∙ ap (λ m. map (λ d. d.now) c.loop-member.found.items ++ form_conditions m.form) c.member.view_is) c.loop-member.invariant

pub returns : goal.returns
returns c = ended conditions_of c.args.members.now c.loop-member.member-index (map (λ d. d.now) c.loop-member.found.items) _ refl c.loop-member-test.false c.loop-member.invariant
