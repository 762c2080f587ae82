use Rattle.std.proofs.Common.{rules, ◌≡◌, ◌<◌, ◌+◌, ◌++◌, ◌∷◌, [], length, take, ap, sym, subst, ◌∙◌}
use Rattle.std.proofs.lemmas.List.{take_more}
use Rattle.uc_tree.specs.Objects.{declared_fields}
use Rattle.uc_lower_expr.specs.FieldTables.{Notes}
use Rattle.uc_lower_expr.proofs.Noting.{declared_more, notes_both, notes_none}
use Rattle.uc_lower_expr.proofs.fields.note_declarators.Goals as goal

pub loop-declarator-init : goal.loop-declarator-init
loop-declarator-init c = notes_none c.args.sizes.now c.args.held.now c.args.table.now c.requires

pub loop-declarator-preserved : goal.loop-declarator-preserved
loop-declarator-preserved c =
    let b = c.args.base.now in
    let xs = c.args.declarators.now in
    let i = c.loop-declarator.declarator-index in
    let d = c.declarator-item.result in
    let within : i < length xs = search rules in
    let grown : declared_fields b (take (i + 1) xs) ≡ declared_fields b (take i xs) ++ record { base = b; declarator = d } ∷ [] = ap (declared_fields b) (take_more xs i d within ∙ ap (λ y. take i xs ++ y ∷ []) (sym c.declarator-item.is)) ∙ declared_more b (take i xs) d in
    subst (λ fs. Notes c.args.sizes.now c.args.held.now fs c.args.table.now c.note_field.new.table) (sym grown) (notes_both c.args.sizes.now c.args.held.now (declared_fields b (take i xs)) (record { base = b; declarator = d } ∷ []) c.args.table.now c.loop-declarator.table c.note_field.new.table c.loop-declarator.invariant c.in_ok-note_field.ensures)
