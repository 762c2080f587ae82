use Rattle.std.proofs.Common.{◌≡◌, ◌∙◌, ◌∷◌, List, length, reverse, ap}
use Rattle.uc_code.specs.declared.rows.CodeMark.{CodeMark}
use Rattle.uc_code.specs.declared.rows.CodeMark.TheVariants as mark
use Rattle.uc_code.proofs.Closing.{reverse_push}
use Rattle.uc_code.proofs.Settled.{settled_body}
use Rattle.uc_code.proofs.draft.Draft.enter_body.Goals as goal

pub invariant_of-self-2 : goal.invariant_of-self-2
invariant_of-self-2 c =
    let ms : List CodeMark = reverse c.self.inside.marks.items in
    let e : reverse c.push.new.self.items ≡ mark.Body c.args.routine ∷ ms = ap reverse c.in_ok-push.ensures.items ∙ reverse_push c.self.inside.marks.items (mark.Body c.args.routine) in
    (c.self.invariant.0, rw (e) (settled_body (length c.self.inside.ops.items) c.self.inside.settled c.args.routine c.self.inside.rows.items ms c.self.invariant.1))
