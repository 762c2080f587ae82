use Rattle.std.proofs.Common.{◌≡◌, ◌∙◌, ◌∷◌, List, length, reverse, ap}
use Rattle.uc_code.specs.declared.rows.CodeMark.{CodeMark}
use Rattle.uc_code.specs.declared.rows.CodeMark.TheVariants as mark
use Rattle.uc_code.proofs.Closing.{reverse_push}
use Rattle.uc_code.proofs.Settled.{settled_loop}
use Rattle.uc_code.proofs.draft.Draft.enter_loop.Goals as goal

pub invariant_of-self-2 : goal.invariant_of-self-2
invariant_of-self-2 c =
    let ms : List CodeMark = reverse c.self.inside.marks.items in
    let e : reverse c.push.new.self.items ≡ mark.Loop c.args.leave c.args.again ∷ ms = ap reverse c.in_ok-push.ensures.items ∙ reverse_push c.self.inside.marks.items (mark.Loop c.args.leave c.args.again) in
    (c.self.invariant.0, rw (e) (settled_loop (length c.self.inside.ops.items) c.self.inside.settled c.args.leave c.args.again c.self.inside.rows.items ms c.self.invariant.1))
