use Rattle.std.proofs.Common.{rules, ◌≡◌, inl}
use Rattle.std.proofs.lemmas.Result.{err_from_is_err_and}
use Rattle.uc_tree.specs.declared.token.Sign.TheVariants as sign
use Rattle.uc_grammar.specs.Form.{Spells, Fails}
use Rattle.uc_grammar.specs.Grammar.{for_rest, maybe_expr, inner, faults}
use Rattle.uc_parse_stmt.specs.Forms.{for_test, for_step}
use Rattle.uc_parse_stmt.specs.Leads.{Leads}
use Rattle.uc_parse_stmt.proofs.HeadsLemmas.{for_opened, for_started, for_tested, for_head}
use Rattle.uc_parse_stmt.proofs.head.read_for_head.Goals as goal

pub returns-in_err-start-2-clause-fails : goal.returns-in_err-start-2-clause-fails
returns-in_err-start-2-clause-fails c =
    let l : Leads c.args.room c.args.tokens.now (for_rest c.args.pos) c.args.from (for_test c.args.pos c.in_ok-start.start) c.in_ok-start.first = for_started _ _ _ _ _ _ _ (for_opened _ _ _ _ _ c.in_ok-open.ensures.found) c.in_ok-start.ensures.found in
    let none : Fails (inner c.args.room) (faults c.args.room) (maybe_expr sign.Semicolon) c.args.tokens.now c.in_ok-start.first c.in_err-start-2.field-0.0 = search rules in
    let h : Fails (inner c.args.room) (faults c.args.room) (for_rest c.args.pos) c.args.tokens.now c.args.from c.in_err-start-2.field-0.0 = l.fails _ (inl none) in
    let p = err_from_is_err_and c.from_residual-in_err-start-2.result c.from_residual-in_err-start-2.ensures.1 in rw (p.1, p.2) h

pub returns-in_err-start-3-clause-fails : goal.returns-in_err-start-3-clause-fails
returns-in_err-start-3-clause-fails c =
    let test : Spells (inner c.args.room) (maybe_expr sign.Semicolon) c.args.tokens.now c.in_ok-start.first c.in_ok-start-2.second c.in_ok-start-2.test = search rules in
    let l : Leads c.args.room c.args.tokens.now (for_rest c.args.pos) c.args.from (for_step c.args.pos c.in_ok-start.start c.in_ok-start-2.test) c.in_ok-start-2.second = for_tested _ _ _ _ _ _ _ _ (for_started _ _ _ _ _ _ _ (for_opened _ _ _ _ _ c.in_ok-open.ensures.found) c.in_ok-start.ensures.found) test in
    let none : Fails (inner c.args.room) (faults c.args.room) (maybe_expr sign.CloseParen) c.args.tokens.now c.in_ok-start-2.second c.in_err-start-3.field-0.0 = search rules in
    let h : Fails (inner c.args.room) (faults c.args.room) (for_rest c.args.pos) c.args.tokens.now c.args.from c.in_err-start-3.field-0.0 = l.fails _ (inl none) in
    let p = err_from_is_err_and c.from_residual-in_err-start-3.result c.from_residual-in_err-start-3.ensures.1 in rw (p.1, p.2) h

pub returns-clause-leads : goal.returns-clause-leads
returns-clause-leads c =
    let test : Spells (inner c.args.room) (maybe_expr sign.Semicolon) c.args.tokens.now c.in_ok-start.first c.in_ok-start-2.second c.in_ok-start-2.test = search rules in
    let step : Spells (inner c.args.room) (maybe_expr sign.CloseParen) c.args.tokens.now c.in_ok-start-2.second c.in_ok-start-3.at c.in_ok-start-3.step = search rules in
    let e : c.in_ok-start-3.start ≡ c.in_ok-start.start = search rules in
    let k : c.in_ok-start-3.test ≡ c.in_ok-start-2.test = search rules in
    rw (e, k) (for_head _ _ _ _ _ _ _ _ _ (for_tested _ _ _ _ _ _ _ _ (for_started _ _ _ _ _ _ _ (for_opened _ _ _ _ _ c.in_ok-open.ensures.found) c.in_ok-start.ensures.found) test) step)
