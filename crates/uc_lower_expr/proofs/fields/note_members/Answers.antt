use Rattle.std.proofs.Common.{rules, ◌≡◌, ◌<◌, ◌+◌, ◌++◌, ◌∷◌, [], length, take, ap, sym, subst, ◌∙◌}
use Rattle.std.proofs.lemmas.List.{take_more}
use Rattle.uc_tree.specs.Programs.{Member}
use Rattle.uc_tree.specs.Objects.{fields_of, form_fields}
use Rattle.uc_lower_expr.specs.FieldTables.{Notes}
use Rattle.uc_lower_expr.proofs.Noting.{members_more, notes_both, notes_none}
use Rattle.uc_lower_expr.proofs.fields.note_members.Goals as goal

pub loop-member-init : goal.loop-member-init
loop-member-init c = notes_none c.args.sizes.now c.args.held.now c.args.table.now c.requires

pub loop-member-preserved : goal.loop-member-preserved
loop-member-preserved c =
    let p = c.args.sizes.now in
    let held = c.args.held.now in
    let xs = c.args.members.now in
    let i = c.loop-member.member-index in
    let m = c.member-item.result in
    let within : i < length xs = search rules in
    let grown : fields_of (take (i + 1) xs) ≡ fields_of (take i xs) ++ form_fields m.form = ap fields_of (take_more xs i m within ∙ ap (λ y. take i xs ++ y ∷ []) (sym c.member-item.is)) ∙ members_more (take i xs) m in
    let one : Notes p held (form_fields m.form) c.loop-member.table c.note_member.new.table = subst (λ fs. Notes p held fs c.loop-member.table c.note_member.new.table) (ap (λ (x : Member). form_fields x.form) c.member.view_is) c.in_ok-note_member.ensures in
    subst (λ fs. Notes p held fs c.args.table.now c.note_member.new.table) (sym grown) (notes_both p held (fields_of (take i xs)) (form_fields m.form) c.args.table.now c.loop-member.table c.note_member.new.table c.loop-member.invariant one)
