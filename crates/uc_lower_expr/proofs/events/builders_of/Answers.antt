use Rattle.std.proofs.Common.{rules, ◌≡◌, ◌<◌, Bor, Some, length, map, get_or, ap, sym, subst, ◌∙◌, arith}
use Rattle.std.proofs.lemmas.List.{length-map}
use Rattle.std.proofs.lemmas.Option.{slice_get-get_or, slice_get-map}
use Rattle.std.specs.Prelude.{slice_get, option_map}
use Rattle.uc_tree.specs.declared.class.Routine.{Routine as Held}
use Rattle.uc_tree.specs.Programs.{Routine}
use Rattle.uc_lower_expr.specs.Events.{AreBuilders}
use Rattle.uc_lower_expr.proofs.Eventful.{builders_long, builders_more, builders_none}
use Rattle.uc_lower_expr.proofs.Noting.{got}
use Rattle.uc_lower_expr.proofs.Owned.{next_is}
use Rattle.uc_lower_expr.proofs.Tabled.{all_taken}
use Rattle.uc_lower_expr.proofs.events.builders_of.Goals as goal

abbrev held : Bor Held → Routine
held r = r.now

pub loop-place-init : goal.loop-place-init
loop-place-init c = (c.in_ok-builders.ensures.one, λ ds a b. builders_none ds c.in_ok-builders.builders c.in_ok-builders.ensures)

pub loop-place-preserved : goal.loop-place-preserved
loop-place-preserved c =
    let xs = c.args.routines.now in
    let ns = c.args.owners.now in
    let k = c.loop-place.place in
    let long = c.requires in
    let within : k < length xs = search rules in
    let owned : slice_get ns k ≡ Some (get_or ns k 0) = slice_get-get_or ns k 0 (omega (arith, within, long)) in
    let there : slice_get (map held xs) k ≡ Some c.index-routines-place.result.now = slice_get-map held xs k ∙ ap (option_map held) (got xs k c.index-routines-place.result within c.index-routines-place.is) in
    let noted = c.in_ok-note_builder.ensures in
    (builders_long (get_or ns k 0) c.index-routines-place.result.now.sig k c.loop-place.builders c.note_builder.new.builders noted c.loop-place.invariant.0, λ ds a b. builders_more k c.index-routines-place.result.now (get_or ns k 0) ds c.loop-place.builders c.note_builder.new.builders (next_is ds k c.index-routines-place.result.now (get_or ns k 0) (ap (λ rs. slice_get rs k) a ∙ there) (ap (λ os. slice_get os k) b ∙ owned)) noted (c.loop-place.invariant.1 ds a b))

pub returns : goal.returns
returns c = λ ds a b.
    let xs = c.args.routines.now in
    let all : c.loop-place.place ≡ length xs = omega arith in
    subst (λ ys. AreBuilders ys c.loop-place.builders) (all_taken ds (map held xs) c.loop-place.place a (length-map xs held ∙ sym all)) (c.loop-place.invariant.1 ds a b)
