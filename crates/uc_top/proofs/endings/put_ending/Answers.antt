use Rattle.std.proofs.Common.{rules, ◌≡◌, refl, sym, to_z, of_z, w64}
use Rattle.uc_top.specs.declared.endings.Ending.TheVariants.{Fault}
use Rattle.uc_top.proofs.Leave.{said, fault_same}
use Rattle.uc_top.proofs.endings.put_ending.Goals as goal

pub returns-in_ok-put_fault-in-Fault-clause-ok : goal.returns-in_ok-put_fault-in-Fault-clause-ok
returns-in_ok-put_fault-in-Fault-clause-ok g c =
    let number : to_z w64 (of_z w64 c.in-Fault.number) ≡ c.in-Fault.number = search rules in
    let line : to_z w64 (of_z w64 c.in-Fault.line) ≡ c.in-Fault.line = search rules in
    said c.args.ending (Fault c.in-Fault.number c.in-Fault.line c.in-Fault.task) _ c.in-Fault.is (fault_same _ _ _ _ _ _ (sym number) (sym line) refl) c.in_ok-put_fault-in-Fault.ensures.ok

pub returns-in_ok-put_line-in-Limit-clause-ok : goal.returns-in_ok-put_line-in-Limit-clause-ok
returns-in_ok-put_line-in-Limit-clause-ok g c = said c.args.ending _ _ c.in-Limit.is refl c.in_ok-put_line-in-Limit.ensures.ok
