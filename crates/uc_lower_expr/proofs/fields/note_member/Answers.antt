use Rattle.std.proofs.Common.{◌≡◌, [], ap, sym, subst}
use Rattle.uc_tree.specs.Objects.{form_fields}
use Rattle.uc_tree.specs.ProgramViews.{member_form_at}
use Rattle.uc_lower_expr.specs.FieldTables.{Notes}
use Rattle.uc_lower_expr.proofs.Noting.{notes_none}
use Rattle.uc_lower_expr.proofs.fields.note_member.Goals as goal

pub returns-in-Routine : goal.returns-in-Routine
returns-in-Routine c =
    let none : form_fields (member_form_at c.args.form.now) ≡ [] = ap (λ f. form_fields (member_form_at f)) c.in-Routine.is in
    subst (λ fs. Notes c.args.sizes.now c.args.held.now fs c.args.table.now c.args.table.now) (sym none) (notes_none c.args.sizes.now c.args.held.now c.args.table.now c.requires)

pub returns-in-Proto : goal.returns-in-Proto
returns-in-Proto c =
    let none : form_fields (member_form_at c.args.form.now) ≡ [] = ap (λ f. form_fields (member_form_at f)) c.in-Proto.is in
    subst (λ fs. Notes c.args.sizes.now c.args.held.now fs c.args.table.now c.args.table.now) (sym none) (notes_none c.args.sizes.now c.args.held.now c.args.table.now c.requires)
