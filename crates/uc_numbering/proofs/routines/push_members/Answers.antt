use Rattle.std.proofs.Common.{◌++◌, map, refl, ap, ◌∙◌}
use Rattle.uc_numbering.specs.Routines.{defined_at, form_in, members_in}
use Rattle.uc_numbering.proofs.Put.{turned, ended}
use Rattle.uc_numbering.proofs.routines.push_members.Goals as goal

pub loop-member-preserved : goal.loop-member-preserved
loop-member-preserved c = turned (members_in (map (λ k. k.now) c.args.classes.now) c.args.name.now) c.args.members.now c.loop-member.member-index c.member-item.result (form_in (map (λ k. k.now) c.args.classes.now) c.args.name.now c.member-item.result.form) (map defined_at c.loop-member.found.items) (map defined_at c.push_form.new.found.items) _ c.loop-member-test.true c.member-item.is refl (c.in_ok-push_form.ensures ∙ ap (λ m. map defined_at c.loop-member.found.items ++ form_in (map (λ k. k.now) c.args.classes.now) c.args.name.now m.form) c.member.view_is) c.loop-member.invariant

pub returns : goal.returns
returns c = ended (members_in (map (λ k. k.now) c.args.classes.now) c.args.name.now) c.args.members.now c.loop-member.member-index (map defined_at c.loop-member.found.items) _ refl c.loop-member-test.false c.loop-member.invariant
