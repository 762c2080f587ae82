use Rattle.std.proofs.Common.{Bool, List, ap, subst, ◌∙◌, arith}
use Rattle.uc_tree.specs.Programs.{Program}
use Rattle.uc_resolve.specs.Resolve.{class_by, enlivened, place_or_zero}
use Rattle.uc_code.specs.declared.rows.CodeMark.{CodeMark}
use Rattle.uc_code.specs.Lowered.{StmtsAt}
use Rattle.uc_lower_expr.specs.DraftGrowth.{Adds}
use Rattle.uc_lower_class.specs.Fields.{enliven_room}
use Rattle.uc_lower_class.proofs.Living.{ends_as, live_is}
use Rattle.uc_lower_class.proofs.executions.end_construction.Goals as goal

pub enliven-requires : goal.enliven-requires
enliven-requires c =
    let few = ap enliven_room c.has_coroutines-coroutine.ensures ∙ live_is c.args.names.now (class_by c.args.names.now c.args.class) in
    let room = c.requires in
    omega (arith, few, room)

pub returns : goal.returns
returns c = λ ms.
    ends_as c.args.names.now (class_by c.args.names.now c.args.class) (place_or_zero c.args.names.now c.args.class) ms c.args.out.now c.enliven.new.out
    (subst (λ (b : Bool). (p : Program) (ns : List CodeMark) → Adds (enliven_room b) (λ code. StmtsAt code ns 0 (enlivened p b)) c.args.out.now c.enliven.new.out) c.has_coroutines-coroutine.ensures c.in_ok-enliven.ensures)
