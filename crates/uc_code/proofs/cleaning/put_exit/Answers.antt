use Rattle.std.proofs.Common.{◌≡◌, ◌∙◌, [], ◌∷◌, ◌-◌, ℕ, List, length, get_or, ap, sym, subst, arith, rules}
use Rattle.std.proofs.lemmas.List.{length-reverse}
use Rattle.uc_tree.specs.declared.limits.TheConstants.{PROGRAM_OPS}
use Rattle.uc_code.specs.declared.op.Op.{Op}
use Rattle.uc_code.specs.declared.rows.CodeMark.{CodeMark}
use Rattle.uc_code.specs.CodeShapes.{One}
use Rattle.uc_code.specs.Drafts.{Draft}
use Rattle.uc_code.specs.Exits.{way_of}
use Rattle.uc_code.specs.Emits.{Puts, Leaves, outermost, end_op}
use Rattle.uc_code.proofs.Exiting.{Passing, passes_none, leaves_none}
use Rattle.uc_code.proofs.Ways.{outermost_all, outermost_next, leaves_room, exit_ends, exit_bare, past_room_left, past_behind, passes_past, leaves_past}
use Rattle.uc_code.proofs.cleaning.put_exit.Goals as goal

pub loop-i-init : goal.loop-i-init
loop-i-init c =
    let all : List CodeMark = c.args.out.now.marks in
    let e : outermost (length c.marks-i.result.now) all ≡ all = outermost_all c.marks-i.result.now all c.marks-i.ensures.marks in
    let n : length all ≡ length c.marks-i.result.now = ap length (sym c.marks-i.ensures.marks) ∙ length-reverse c.marks-i.result.now in
    (omega arith, subst (Passing all) (sym e) (passes_none all c.marks-i.ensures.falling c.marks-i.ensures.behind), subst (Leaves (way_of c.args.way) c.args.out.now c.args.out.now) (sym e) (leaves_none (way_of c.args.way) c.args.out.now))

pub put-requires : goal.put-requires
put-requires c = leaves_room (way_of c.args.way) c.args.out.now c.loop-i.out _ PROGRAM_OPS c.requires c.loop-i.invariant.2

pub returns-in-Some : goal.returns-in-Some
returns-in-Some c =
    let all : List CodeMark = c.args.out.now.marks in
    let same : c.loop-i.out.marks ≡ all = ap (λ (d : Draft). d.marks) c.loop-i.invariant.2.same in
    let n : outermost c.loop-i.i all ≡ get_or c.marks.result.now (c.loop-i.i - 1) _ ∷ outermost (c.loop-i.i - 1) all = outermost_next c.marks.result.now c.loop-i.out.marks all c.loop-i.i _ c.marks.ensures.marks same c.loop-i-test.true c.loop-i.invariant.0 in
    exit_ends c.args.way c.args.out.now c.loop-i.out c.put.new.out _ (outermost (c.loop-i.i - 1) all) c.args.line c.in-Some.line c.in-Some.op (sym c.ends_at.ensures ∙ c.in-Some.is) (subst (Leaves (way_of c.args.way) c.args.out.now c.loop-i.out) n c.loop-i.invariant.2) c.in_ok-put.ensures

pub put_past-requires-clause-room : goal.put_past-requires-clause-room
put_past-requires-clause-room c =
    let all : List CodeMark = c.args.out.now.marks in
    let same : c.loop-i.out.marks ≡ all = ap (λ (d : Draft). d.marks) c.loop-i.invariant.2.same in
    let n : outermost c.loop-i.i all ≡ get_or c.marks.result.now (c.loop-i.i - 1) _ ∷ outermost (c.loop-i.i - 1) all = outermost_next c.marks.result.now c.loop-i.out.marks all c.loop-i.i _ c.marks.ensures.marks same c.loop-i-test.true c.loop-i.invariant.0 in
    past_room_left c.args.way c.args.out.now c.loop-i.out _ (outermost (c.loop-i.i - 1) all) c.args.line PROGRAM_OPS c.requires (sym c.ends_at.ensures ∙ c.in_default.is) (subst (Leaves (way_of c.args.way) c.args.out.now c.loop-i.out) n c.loop-i.invariant.2)

pub put_past-requires-clause-behind : goal.put_past-requires-clause-behind
put_past-requires-clause-behind c =
    let all : List CodeMark = c.args.out.now.marks in
    let same : c.loop-i.out.marks ≡ all = ap (λ (d : Draft). d.marks) c.loop-i.invariant.2.same in
    let n : outermost c.loop-i.i all ≡ get_or c.marks.result.now (c.loop-i.i - 1) _ ∷ outermost (c.loop-i.i - 1) all = outermost_next c.marks.result.now c.loop-i.out.marks all c.loop-i.i _ c.marks.ensures.marks same c.loop-i-test.true c.loop-i.invariant.0 in
    past_behind _ all (outermost (c.loop-i.i - 1) all) c.loop-i.out.marks same (subst (Passing all) n c.loop-i.invariant.1)

pub loop-i-preserved : goal.loop-i-preserved
loop-i-preserved c =
    let all : List CodeMark = c.args.out.now.marks in
    let same : c.loop-i.out.marks ≡ all = ap (λ (d : Draft). d.marks) c.loop-i.invariant.2.same in
    let n : outermost c.loop-i.i all ≡ get_or c.marks.result.now (c.loop-i.i - 1) _ ∷ outermost (c.loop-i.i - 1) all = outermost_next c.marks.result.now c.loop-i.out.marks all c.loop-i.i _ c.marks.ensures.marks same c.loop-i-test.true c.loop-i.invariant.0 in
    let e = sym c.ends_at.ensures ∙ c.in_default.is in
    let s = subst (Passing all) n c.loop-i.invariant.1 in
    let l = c.loop-i.invariant.0 in
    (omega arith, passes_past c.args.way all _ (outermost (c.loop-i.i - 1) all) c.args.line e s, leaves_past c.args.way c.args.out.now c.loop-i.out c.put_past.new.out _ (outermost (c.loop-i.i - 1) all) c.args.line e s (subst (Leaves (way_of c.args.way) c.args.out.now c.loop-i.out) n c.loop-i.invariant.2) c.in_ok-put_past.ensures)

pub returns : goal.returns
returns c =
    let z : c.loop-i.i ≡ 0 = search rules in
    let p : Leaves (way_of c.args.way) c.args.out.now c.loop-i.out [] = subst (λ (k : ℕ). Leaves (way_of c.args.way) c.args.out.now c.loop-i.out (outermost k c.args.out.now.marks)) z c.loop-i.invariant.2 in
    let q : Puts 0 1 (λ code. One code (end_op c.args.way) 0) c.loop-i.out c.put-2.new.out = subst (λ (o : Op). Puts 0 1 (λ code. One code o 0) c.loop-i.out c.put-2.new.out) c.end_op.ensures c.in_ok-put-2.ensures in
    exit_bare c.args.way c.args.out.now c.loop-i.out c.put-2.new.out p q
