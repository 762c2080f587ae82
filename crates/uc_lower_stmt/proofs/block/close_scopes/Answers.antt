use Rattle.std.proofs.Common.{List, ap, sym, ◌∙◌, arith}
use Rattle.uc_code.specs.declared.rows.CodeMark.{CodeMark}
use Rattle.uc_lower_stmt.specs.Blocks.{innermost_in}
use Rattle.uc_lower_stmt.proofs.BlocksLemmas.{ending_next, ending_none, in_scope, no_call, scope_room, scopes_ended}
use Rattle.uc_lower_stmt.proofs.block.close_scopes.Goals as goal

pub loop-scope-init : goal.loop-scope-init
loop-scope-init c = ending_none c.args.count c.args.out.now

pub close_scope-requires-clause-scope : goal.close_scope-requires-clause-scope
close_scope-requires-clause-scope c =
    in_scope c.loop-scope.out.marks c.args.count c.in-Some.scope (ap (λ (ms : List CodeMark). innermost_in ms c.args.count) (sym c.marks.ensures.marks) ∙ (sym c.innermost.ensures ∙ c.in-Some.is)) c.marks.ensures.behind

pub close_scope-requires-clause-other : goal.close_scope-requires-clause-other
close_scope-requires-clause-other c =
    no_call c.loop-scope.out.marks c.args.count c.in-Some.scope (ap (λ (ms : List CodeMark). innermost_in ms c.args.count) (sym c.marks.ensures.marks) ∙ (sym c.innermost.ensures ∙ c.in-Some.is)) c.marks.ensures.behind

pub close_scope-requires-clause-room : goal.close_scope-requires-clause-room
close_scope-requires-clause-room c =
    let scope = in_scope c.loop-scope.out.marks c.args.count c.in-Some.scope (ap (λ (ms : List CodeMark). innermost_in ms c.args.count) (sym c.marks.ensures.marks) ∙ (sym c.innermost.ensures ∙ c.in-Some.is)) c.marks.ensures.behind in
    let one = scope_room c.in-Some.scope.what c.in-Some.scope.line c.loop-scope.out.marks scope in
    let room = c.loop-scope.invariant.room in
    omega (arith, one, room, c.requires)

pub loop-scope-preserved : goal.loop-scope-preserved
loop-scope-preserved c =
    ending_next c.args.count c.in-Some.scope c.loop-scope.out _ (ap (λ (ms : List CodeMark). innermost_in ms c.args.count) (sym c.marks.ensures.marks) ∙ (sym c.innermost.ensures ∙ c.in-Some.is)) c.marks.ensures.behind c.in_ok-close_scope.ensures c.args.out.now c.loop-scope.invariant

pub returns : goal.returns
returns c = scopes_ended c.args.count c.args.out.now c.loop-scope.out (ap (λ (ms : List CodeMark). innermost_in ms c.args.count) (sym c.marks.ensures.marks) ∙ (sym c.innermost.ensures ∙ c.in_default.is)) c.loop-scope.invariant
