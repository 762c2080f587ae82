use Rattle.std.proofs.Common.{ap, subst, get_or, ◌∙◌}
use Rattle.uc_tree.specs.Cells.{classes_of}
use Rattle.uc_lower_expr.specs.Numbered.{IsNumbering}
use Rattle.uc_lower_expr.proofs.Makings.{numbers_get}
use Rattle.uc_lower_expr.proofs.program_names.ProgramNames.class_number.Goals as goal

pub returns : goal.returns
returns c =
    let p = c.args.self.now in
    let n = c.self.inside.numbering in
    let numbering : IsNumbering p n = subst (λ q. IsNumbering q n) c.self.view_is c.self.invariant.numbering in
    c.number_at.ensures ∙ ap (λ ns. get_or ns c.args.class 0) c.deref.ensures.value ∙ ap (λ ns. get_or ns c.args.class 0) numbering.classes ∙ numbers_get p (classes_of p.items) c.args.class c.requires
