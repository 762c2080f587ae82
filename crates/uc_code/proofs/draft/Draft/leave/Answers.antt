use Rattle.std.proofs.Common.{◌≡◌, ◌∙◌, List, true, length, reverse, ap, sym, rules}
use Rattle.uc_code.specs.declared.rows.CodeMark.{CodeMark}
use Rattle.uc_code.specs.OpenRows.{is_rowless, left_marks}
use Rattle.uc_code.proofs.Closed.{reverse_rest}
use Rattle.uc_code.proofs.Settled.{left_tail, settled_left}
use Rattle.uc_code.proofs.draft.Draft.leave.Goals as goal

-- src/draft.rt:242:21
pub invariant_of-self : goal.invariant_of-self
invariant_of-self c =
    let ms : List CodeMark = reverse c.self.inside.marks.items in
    let r : is_rowless ms ≡ true = ap (λ l. is_rowless (reverse l)) (sym c.deref.ensures.value) ∙ (sym c.has_no_row.ensures ∙ c.if-has_no_row.true) in
    let e : reverse c.pop.new.self.items ≡ left_marks ms = reverse_rest c.self.inside.marks.items c.pop.new.self.items _ (search rules) c.pop.ensures.rest ∙ sym (left_tail ms r) in
    (c.self.invariant.0, rw (e) (settled_left (length c.self.inside.ops.items) c.self.inside.settled c.self.inside.rows.items ms r c.self.invariant.1))
