use Rattle.std.proofs.Common.{rules, ◌≡◌, ◌∙◌, ap, to_z, of_z, w64}
use Rattle.std.specs.Fmt.{signed_decimal}
use Rattle.uc_top.specs.Endings.{name_of_number}
use Rattle.uc_top.proofs.Leave.{fault_said}
use Rattle.uc_top.proofs.endings.put_fault.Goals as goal

pub returns-clause-ok : goal.returns-clause-ok
returns-clause-ok g c =
    let number : to_z w64 (of_z w64 c.args.number) ≡ c.args.number = search rules in
    let line : to_z w64 (of_z w64 c.args.line) ≡ c.args.line = search rules in
    fault_said c.name_of_number-name.result.now c.as_bytes-line.result.now c.as_bytes-task.result.now _ _ _ (c.name_of_number-name.ensures ∙ ap name_of_number number) (c.as_bytes-line.ensures.value ∙ c.format.ensures.text ∙ ap signed_decimal line) (c.as_bytes-task.ensures.value ∙ c.format-2.ensures.text) c.in_ok-put_pieces.ensures.ok
