-- The code of statements that switch to another execution, as it is added to a draft.
use Rattle.std.proofs.Common.{◌≡◌, ℕ, List, ap, subst, ◌∙◌, arith}
use Rattle.uc_tree.specs.declared.pos.Pos.{Pos}
use Rattle.uc_tree.specs.Programs.{Program}
use Rattle.uc_tree.specs.Statements.{Resume, Stmt, Suspend, Yield}
use Rattle.uc_code.specs.declared.op.Op.{Op}
use Rattle.uc_code.specs.declared.op.Op.TheVariants as op
use Rattle.uc_code.specs.declared.rows.CodeMark.{CodeMark}
use Rattle.uc_code.specs.Drafts.{Draft}
use Rattle.uc_code.specs.Emits.{Puts}
use Rattle.uc_code.specs.CodeShapes.{Both, One, PollAt, Risk}
use Rattle.uc_code.proofs.Putting.{puts_both}
use Rattle.uc_code.proofs.Stable.{one_stable, risk_stable}
use Rattle.uc_lower_expr.specs.DraftGrowth.{Adds, OpCode, RiskCode}
use Rattle.uc_lower_stmt.specs.LowersStatement.{LowersStmt, scope_of}
use Rattle.uc_lower_stmt.proofs.Counted.{nothing_counted}
use Rattle.uc_lower_stmt.proofs.Joined.{lowers_as, lowers_puts, puts_adds}
use Rattle.uc_lower_stmt.proofs.Stating.{as_stmt}

pub switched : (line : ℕ) (o : Op) (d0 d1 d2 d3 : Draft) → Adds 1 (OpCode line o) d0 d1 → Adds 1 (RiskCode line d1.marks op.Land) d1 d2 → Puts 0 4 (λ code. PollAt code d2.marks line) d2 d3
    → Puts 0 6 (λ code. Both (One code o line) (Both (Risk code d0.marks op.Land line) (PollAt code d0.marks line))) d0 d3
switched line o d0 d1 d2 d3 h g q =
    let marks1 : d1.marks ≡ d0.marks = ap (λ (d : Draft). d.marks) h.rest in
    let marks2 : d2.marks ≡ d0.marks = ap (λ (d : Draft). d.marks) g.rest ∙ marks1 in
    let land : Adds 1 (RiskCode line d0.marks op.Land) d1 d2 = subst (λ (ms : List CodeMark). Adds 1 (RiskCode line ms op.Land) d1 d2) marks1 g in
    let poll : Puts 0 4 (λ code. PollAt code d0.marks line) d2 d3 = subst (λ (ms : List CodeMark). Puts 0 4 (λ code. PollAt code ms line) d2 d3) marks2 q in
    puts_both (one_stable o line) (puts_adds h) (puts_both (risk_stable d0.marks op.Land line) (puts_adds land) poll)

pub arm_resume : (p : Program) (s : Stmt) (place : Pos) (old new : Draft) → Resume place ≡ s → Puts 0 6 (λ code. Both (One code op.Resume place.line) (Both (Risk code old.marks op.Land place.line) (PollAt code old.marks place.line))) old new → LowersStmt p s old new
arm_resume p s place old new e h =
    as_stmt p s (Resume place) old new e (lowers_as (lowers_puts 0 0 h) (nothing_counted (scope_of old)) (λ code a z w. w) (omega arith) (omega arith) (omega arith) (omega arith))

pub arm_suspend : (p : Program) (s : Stmt) (place : Pos) (old new : Draft) → Suspend place ≡ s → Puts 0 6 (λ code. Both (One code op.Suspend place.line) (Both (Risk code old.marks op.Land place.line) (PollAt code old.marks place.line))) old new → LowersStmt p s old new
arm_suspend p s place old new e h =
    as_stmt p s (Suspend place) old new e (lowers_as (lowers_puts 0 0 h) (nothing_counted (scope_of old)) (λ code a z w. w) (omega arith) (omega arith) (omega arith) (omega arith))

pub yielded : (line : ℕ) (d0 d1 d2 : Draft) → Adds 1 (OpCode line op.Yield) d0 d1 → Puts 0 4 (λ code. PollAt code d1.marks line) d1 d2 → Puts 0 5 (λ code. Both (One code op.Yield line) (PollAt code d0.marks line)) d0 d2
yielded line d0 d1 d2 h q =
    let marks1 : d1.marks ≡ d0.marks = ap (λ (d : Draft). d.marks) h.rest in
    puts_both (one_stable op.Yield line) (puts_adds h) (subst (λ (ms : List CodeMark). Puts 0 4 (λ code. PollAt code ms line) d1 d2) marks1 q)

pub arm_yield : (p : Program) (s : Stmt) (place : Pos) (old new : Draft) → Yield place ≡ s → Puts 0 5 (λ code. Both (One code op.Yield place.line) (PollAt code old.marks place.line)) old new → LowersStmt p s old new
arm_yield p s place old new e h =
    as_stmt p s (Yield place) old new e (lowers_as (lowers_puts 0 0 h) (nothing_counted (scope_of old)) (λ code a z w. w) (omega arith) (omega arith) (omega arith) (omega arith))
