use Rattle.std.proofs.Common.{subst, sym}
use Rattle.std.proofs.lemmas.Result.{err_from_is_err_and}
use Rattle.uc_tree.specs.Statements as stmt
use Rattle.uc_grammar.specs.Form.{Spells, Fails}
use Rattle.uc_grammar.specs.Grammar.{stmt_by, inner, faults}
use Rattle.uc_grammar.specs.declared.start.StmtStart.TheVariants as start
use Rattle.uc_parse_simple.proofs.plain.read_bare.Goals as goal

pub returns-in_err-to-in-Resume-clause-fails : goal.returns-in_err-to-in-Resume-clause-fails
returns-in_err-to-in-Resume-clause-fails c = let known : Fails (inner c.args.room) (faults c.args.room) (stmt_by c.args.pos start.Resume) c.args.tokens.now c.args.from c.in_err-to-in-Resume.field-0.0 = c.in_err-to-in-Resume.ensures.fails c.args.room (stmt.Resume c.args.pos) in
    let h = subst (λ s. Fails (inner c.args.room) (faults c.args.room) (stmt_by c.args.pos s) c.args.tokens.now c.args.from c.in_err-to-in-Resume.field-0.0) (sym c.in-Resume.is) known in
    let p = err_from_is_err_and c.from_residual-in_err-to-in-Resume.result c.from_residual-in_err-to-in-Resume.ensures.1 in rw (p.1, p.2) h

pub returns-in_ok-to-in-Resume-clause-found : goal.returns-in_ok-to-in-Resume-clause-found
returns-in_ok-to-in-Resume-clause-found c = let known : Spells (inner c.args.room) (stmt_by c.args.pos start.Resume) c.args.tokens.now c.args.from c.in_ok-to-in-Resume.to (stmt.Resume c.args.pos) = c.in_ok-to-in-Resume.ensures.found c.args.room (stmt.Resume c.args.pos) in
    subst (λ s. Spells (inner c.args.room) (stmt_by c.args.pos s) c.args.tokens.now c.args.from c.in_ok-to-in-Resume.to (stmt.Resume c.args.pos)) (sym c.in-Resume.is) known

pub returns-in_err-to-in-Suspend-clause-fails : goal.returns-in_err-to-in-Suspend-clause-fails
returns-in_err-to-in-Suspend-clause-fails c = let known : Fails (inner c.args.room) (faults c.args.room) (stmt_by c.args.pos start.Suspend) c.args.tokens.now c.args.from c.in_err-to-in-Suspend.field-0.0 = c.in_err-to-in-Suspend.ensures.fails c.args.room (stmt.Suspend c.args.pos) in
    let h = subst (λ s. Fails (inner c.args.room) (faults c.args.room) (stmt_by c.args.pos s) c.args.tokens.now c.args.from c.in_err-to-in-Suspend.field-0.0) (sym c.in-Suspend.is) known in
    let p = err_from_is_err_and c.from_residual-in_err-to-in-Suspend.result c.from_residual-in_err-to-in-Suspend.ensures.1 in rw (p.1, p.2) h

pub returns-in_ok-to-in-Suspend-clause-found : goal.returns-in_ok-to-in-Suspend-clause-found
returns-in_ok-to-in-Suspend-clause-found c = let known : Spells (inner c.args.room) (stmt_by c.args.pos start.Suspend) c.args.tokens.now c.args.from c.in_ok-to-in-Suspend.to (stmt.Suspend c.args.pos) = c.in_ok-to-in-Suspend.ensures.found c.args.room (stmt.Suspend c.args.pos) in
    subst (λ s. Spells (inner c.args.room) (stmt_by c.args.pos s) c.args.tokens.now c.args.from c.in_ok-to-in-Suspend.to (stmt.Suspend c.args.pos)) (sym c.in-Suspend.is) known

pub returns-in_err-to-in-Yield-clause-fails : goal.returns-in_err-to-in-Yield-clause-fails
returns-in_err-to-in-Yield-clause-fails c = let known : Fails (inner c.args.room) (faults c.args.room) (stmt_by c.args.pos start.Yield) c.args.tokens.now c.args.from c.in_err-to-in-Yield.field-0.0 = c.in_err-to-in-Yield.ensures.fails c.args.room (stmt.Yield c.args.pos) in
    let h = subst (λ s. Fails (inner c.args.room) (faults c.args.room) (stmt_by c.args.pos s) c.args.tokens.now c.args.from c.in_err-to-in-Yield.field-0.0) (sym c.in-Yield.is) known in
    let p = err_from_is_err_and c.from_residual-in_err-to-in-Yield.result c.from_residual-in_err-to-in-Yield.ensures.1 in rw (p.1, p.2) h

pub returns-in_ok-to-in-Yield-clause-found : goal.returns-in_ok-to-in-Yield-clause-found
returns-in_ok-to-in-Yield-clause-found c = let known : Spells (inner c.args.room) (stmt_by c.args.pos start.Yield) c.args.tokens.now c.args.from c.in_ok-to-in-Yield.to (stmt.Yield c.args.pos) = c.in_ok-to-in-Yield.ensures.found c.args.room (stmt.Yield c.args.pos) in
    subst (λ s. Spells (inner c.args.room) (stmt_by c.args.pos s) c.args.tokens.now c.args.from c.in_ok-to-in-Yield.to (stmt.Yield c.args.pos)) (sym c.in-Yield.is) known
