use Rattle.std.proofs.Common.{◌≡◌, true, false, refl, sym, ap, ◌∙◌, arith}
use Rattle.uc_tree.specs.Numbering.{is_plain}
use Rattle.uc_tree.specs.Programs.{Sig}
use Rattle.uc_resolve.specs.Resolve.{class_by}
use Rattle.uc_numbering.specs.Routines.{defined_at}
use Rattle.uc_lower_stmt.specs.Routines.{main_in}
use Rattle.uc_lower_class.specs.Bodies.{builder_room}
use Rattle.uc_lower.proofs.Ending.{not_main}
use Rattle.uc_lower.proofs.RoutineLayoutLemmas.{counted_at, placed_at, plain_room, builder_room_is}
use Rattle.uc_lower.proofs.routines.lower_written.Goals as goal

pub lower_routine-requires-clause-plain : goal.lower_routine-requires-clause-plain
lower_routine-requires-clause-plain c = ap (λ (s : Sig). is_plain s.role) (sym c.sig_of-sig.ensures) ∙ sym c.is_plain.ensures ∙ c.if-is_plain.true

pub lower_routine-requires-clause-main : goal.lower_routine-requires-clause-main
lower_routine-requires-clause-main c = c.main_in-whose_main.ensures c.args.number c.requires.main ∙ ap (λ (s : Sig). main_in c.args.names.now c.args.number (class_by c.args.names.now c.class_of-class.result) s) c.sig_of-sig.ensures

pub lower_routine-requires-clause-named : goal.lower_routine-requires-clause-named
lower_routine-requires-clause-named c = λ e. c.requires.named (c.requires.main ∙ e)

pub lower_routine-requires-clause-room : goal.lower_routine-requires-clause-room
lower_routine-requires-clause-room c =
    let plain : is_plain c.args.one.now.routine.now.sig.role ≡ true = ap (λ (s : Sig). is_plain s.role) (sym c.sig_of-sig.ensures) ∙ sym c.is_plain.ensures ∙ c.if-is_plain.true in
    let e = plain_room c.args.names.now (defined_at c.args.one.now) c.args.one.now.routine.now.sig.role refl plain in
    let room = c.requires.room in
    omega (arith, e, room)

pub returns-then-is_plain-clause-room : goal.returns-then-is_plain-clause-room
returns-then-is_plain-clause-room c =
    let plain : is_plain c.args.one.now.routine.now.sig.role ≡ true = ap (λ (s : Sig). is_plain s.role) (sym c.sig_of-sig.ensures) ∙ sym c.is_plain.ensures ∙ c.if-is_plain.true in
    let e = plain_room c.args.names.now (defined_at c.args.one.now) c.args.one.now.routine.now.sig.role refl plain in
    let room = c.in_ok-lower_routine.ensures.room in
    omega (arith, e, room)

pub lower_builder-requires-clause-role : goal.lower_builder-requires-clause-role
lower_builder-requires-clause-role c = ap (λ (s : Sig). is_plain s.role) (sym c.sig_of-sig.ensures) ∙ sym c.is_plain.ensures ∙ c.if-is_plain.false

pub lower_builder-requires-clause-main : goal.lower_builder-requires-clause-main
lower_builder-requires-clause-main c =
    let builds : is_plain c.args.one.now.routine.now.sig.role ≡ false = ap (λ (s : Sig). is_plain s.role) (sym c.sig_of-sig.ensures) ∙ sym c.is_plain.ensures ∙ c.if-is_plain.false in
    sym c.requires.main ∙ not_main c.args.names.now c.args.is_program_main c.args.one.now.routine.now.sig c.requires.named builds

pub lower_builder-requires-clause-room : goal.lower_builder-requires-clause-room
lower_builder-requires-clause-room c =
    let builds : is_plain c.args.one.now.routine.now.sig.role ≡ false = ap (λ (s : Sig). is_plain s.role) (sym c.sig_of-sig.ensures) ∙ sym c.is_plain.ensures ∙ c.if-is_plain.false in
    let e = builder_room_is c.args.names.now (defined_at c.args.one.now) c.args.one.now.routine.now.sig.role refl builds in
    let class = ap (builder_room c.args.names.now c.args.one.now.routine.now) c.class_of-class.ensures in
    let room = c.requires.room in
    omega (arith, e, class, room)

pub returns-clause-room : goal.returns-clause-room
returns-clause-room c =
    let builds : is_plain c.args.one.now.routine.now.sig.role ≡ false = ap (λ (s : Sig). is_plain s.role) (sym c.sig_of-sig.ensures) ∙ sym c.is_plain.ensures ∙ c.if-is_plain.false in
    let e = builder_room_is c.args.names.now (defined_at c.args.one.now) c.args.one.now.routine.now.sig.role refl builds in
    let class = ap (builder_room c.args.names.now c.args.one.now.routine.now) c.class_of-class.ensures in
    let room = c.in_ok-lower_builder.ensures.room in
    omega (arith, e, class, room)

pub returns-then-is_plain-clause-code : goal.returns-then-is_plain-clause-code
returns-then-is_plain-clause-code c = placed_at c.args.names.now c.args.one.now.routine.now c.args.last c.args.number c.args.texts c.args.sites _ c.args.out.now c.lower_routine.new.out _ _ c.class_of-class.ensures c.in_ok-lower_routine.ensures.code

pub returns-clause-code : goal.returns-clause-code
returns-clause-code c = placed_at c.args.names.now c.args.one.now.routine.now c.args.last c.args.number c.args.texts c.args.sites _ c.args.out.now c.lower_builder.new.out _ _ c.class_of-class.ensures c.in_ok-lower_builder.ensures.code

pub returns-then-is_plain-clause-count : goal.returns-then-is_plain-clause-count
returns-then-is_plain-clause-count c = counted_at c.args.names.now c.args.one.now.routine.now c.args.number c.args.texts c.args.sites c.args.out.now c.lower_routine.new.out _ _ c.class_of-class.ensures c.in_ok-lower_routine.ensures.count

pub returns-clause-count : goal.returns-clause-count
returns-clause-count c = counted_at c.args.names.now c.args.one.now.routine.now c.args.number c.args.texts c.args.sites c.args.out.now c.lower_builder.new.out _ _ c.class_of-class.ensures c.in_ok-lower_builder.ensures.count
