use Rattle.std.proofs.Common.{length, ap, sym, subst, Some, ◌∙◌, arith}
use Rattle.std.proofs.lemmas.List.{length-reverse}
use Rattle.uc_code.specs.Drafts.{Draft}
use Rattle.uc_lower_stmt.specs.Marked.{closing}
use Rattle.uc_lower_stmt.proofs.Laying.{lays_routine}
use Rattle.uc_lower_class.specs.Bodies.{mutex_by}
use Rattle.uc_lower_class.specs.Fields.{FieldsBehind}
use Rattle.uc_lower_class.proofs.Assembling.{unwritten_built}
use Rattle.uc_lower_class.proofs.Living.{mutex_few}
use Rattle.uc_lower_class.proofs.builder.lower_unwritten_constructor.Goals as goal

pub lower_bare-requires : goal.lower_bare-requires
lower_bare-requires c =
    let opened = c.in_ok-open_freed.ensures.opened in
    let ops = c.in_ok-open_freed.ensures.same in
    record {
      behind = subst (λ n. FieldsBehind c.args.names.now c.args.class n) (sym (lays_routine opened)) c.requires.behind;
      nowhere = opened.scope ∙ c.requires.nowhere;
      room = omega (arith, ops, c.requires.room);
    }

pub close_scopes-requires : goal.close_scopes-requires
close_scopes-requires c =
    let opened = c.in_ok-open_freed.ensures.opened in
    let ops = c.in_ok-open_freed.ensures.same in
    let ends = opened.room in
    let few = mutex_few (mutex_by c.args.names.now (Some c.args.class)) in
    let body = c.in_ok-lower_bare.ensures.room in
    let same = ap (λ (d : Draft). closing d.marks) c.in_ok-lower_bare.ensures.rest in
    omega (arith, ops, ends, few, body, same, c.requires.outside, c.requires.room)

pub returns : goal.returns
returns c =
    unwritten_built c.args.names.now c.args.class (length c.marks-depth.result.now) c.args.out.now c.open_freed.new.out c.lower_bare.new.out c.close_scopes.new.out (sym (length-reverse c.marks-depth.result.now) ∙ ap length c.marks-depth.ensures.marks) c.in_ok-open_freed.ensures.opened c.in_ok-lower_bare.ensures c.in_ok-close_scopes.ensures
