use Rattle.std.proofs.Common.{rules, ◌≡◌, ◌<◌, Bor, Some, length, map, get_or, ap, sym, subst, ◌∙◌, arith}
use Rattle.std.proofs.lemmas.List.{length-map}
use Rattle.std.proofs.lemmas.Option.{slice_get-get_or, slice_get-map}
use Rattle.std.specs.Prelude.{slice_get, option_map}
use Rattle.uc_tree.specs.declared.class.Routine.{Routine as Held}
use Rattle.uc_tree.specs.Programs.{Routine}
use Rattle.uc_lower_expr.specs.RoutineTables.{NoteOne}
use Rattle.uc_lower_expr.proofs.Noting.{got}
use Rattle.uc_lower_expr.proofs.Tabled.{through_all, through_more, through_none}
use Rattle.uc_lower_expr.proofs.routine_table.tables_of.Goals as goal

abbrev held : Bor Held → Routine
held r = r.now

pub loop-place-init : goal.loop-place-init
loop-place-init c = through_none (map held c.args.routines.now) c.args.owners.now c.args.count c.in_ok-tables.tables.items c.in_ok-tables.ensures.long c.in_ok-tables.ensures.each

pub loop-place-preserved : goal.loop-place-preserved
loop-place-preserved c =
    let xs = c.args.routines.now in
    let ns = c.args.owners.now in
    let k = c.loop-place.place in
    let long = c.requires in
    let within : k < length xs = search rules in
    let owned : slice_get ns k ≡ Some (get_or ns k 0) = slice_get-get_or ns k 0 (omega (arith, within, long)) in
    let there : slice_get (map held xs) k ≡ Some c.index-routines-place.result.now = slice_get-map held xs k ∙ ap (option_map held) (got xs k c.index-routines-place.result within c.index-routines-place.is) in
    let id : c.in-Ok.number ≡ k = search rules in
    through_more (map held xs) ns c.args.count k c.index-routines-place.result.now (get_or ns k 0) there owned c.loop-place.tables.items c.note_at.new.tables.items (subst (λ n. NoteOne (get_or ns k 0) c.index-routines-place.result.now n c.loop-place.tables.items c.note_at.new.tables.items) id c.in_ok-note_at-in-Ok.ensures) c.loop-place.invariant

pub returns-clause-each : goal.returns-clause-each
returns-clause-each c = λ ds number t a b e.
    let xs = c.args.routines.now in
    let all : c.loop-place.place ≡ length xs = omega arith in
    through_all (map held xs) c.args.owners.now c.args.count c.loop-place.place c.loop-place.tables.items (length-map xs held ∙ sym all) c.loop-place.invariant ds number t a b e
