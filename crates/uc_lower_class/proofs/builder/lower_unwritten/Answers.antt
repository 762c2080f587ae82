use Rattle.std.proofs.Common.{ap, sym, subst}
use Rattle.uc_code.specs.Drafts.{Draft}
use Rattle.uc_code.specs.Layout.{routine_in}
use Rattle.uc_implicit.specs.Unwritten.{unwritten_as}
use Rattle.uc_lower_class.specs.Fields.{FieldsBehind}
use Rattle.uc_lower_class.proofs.Further.{unwritten_behind}
use Rattle.uc_lower_class.proofs.Builders.{bare_is, unwritten_at, unwritten_count, unwritten_rows}
use Rattle.uc_lower_class.proofs.builder.lower_unwritten.Goals as goal

pub returns-clause-code : goal.returns-clause-code
returns-clause-code c =
    unwritten_at c.args.names.now (unwritten_as c.args.one) c.args.number c.here-entry.result c.args.out.now c.enter_body.new.self c.lower_unwritten_body.new.out c.leave.new.self c.put.new.out c.set_routine.new.self c.here-entry.ensures.count
    (bare_is c.args.number c.args.out.now c.begin_routine.new.self c.enter_body.new.self c.begin_routine.ensures c.in_ok-enter_body.ensures.ok) c.in_ok-lower_unwritten_body.ensures c.leave.ensures c.in_ok-put.ensures c.set_routine.ensures

pub lower_unwritten_body-requires-clause-behind : goal.lower_unwritten_body-requires-clause-behind
lower_unwritten_body-requires-clause-behind c =
    subst (λ n. FieldsBehind c.args.names.now c.args.one.class n) (sym (ap (λ (d : Draft). routine_in d.marks) (bare_is c.args.number c.args.out.now c.begin_routine.new.self c.enter_body.new.self c.begin_routine.ensures c.in_ok-enter_body.ensures.ok)))
    (unwritten_behind c.args.names.now c.requires.fit (unwritten_as c.args.one) c.args.number c.requires.unwritten)

pub returns-clause-count : goal.returns-clause-count
returns-clause-count c =
    unwritten_count c.args.names.now (unwritten_as c.args.one) c.args.number c.here-entry.result c.args.out.now c.enter_body.new.self c.lower_unwritten_body.new.out c.leave.new.self c.put.new.out c.set_routine.new.self c.here-entry.ensures.count
    (bare_is c.args.number c.args.out.now c.begin_routine.new.self c.enter_body.new.self c.begin_routine.ensures c.in_ok-enter_body.ensures.ok) c.in_ok-lower_unwritten_body.ensures c.leave.ensures c.in_ok-put.ensures c.set_routine.ensures

pub returns-clause-rows : goal.returns-clause-rows
returns-clause-rows c =
    unwritten_rows c.args.names.now (unwritten_as c.args.one) c.args.number c.here-entry.result c.args.out.now c.enter_body.new.self c.lower_unwritten_body.new.out c.leave.new.self c.put.new.out c.set_routine.new.self c.here-entry.ensures.count
    (bare_is c.args.number c.args.out.now c.begin_routine.new.self c.enter_body.new.self c.begin_routine.ensures c.in_ok-enter_body.ensures.ok) c.in_ok-lower_unwritten_body.ensures c.leave.ensures c.in_ok-put.ensures c.set_routine.ensures
