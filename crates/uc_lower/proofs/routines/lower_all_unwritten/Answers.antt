use Rattle.std.proofs.Common.{◌≡◌, ◌+◌, ◌<◌, ℕ, false, length, sym, subst, ap, ◌∙◌, arith}
use Rattle.uc_tree.specs.Numbering.{routines_of}
use Rattle.uc_tree.specs.Objects.{unwritten_of}
use Rattle.uc_resolve.specs.Resolve.{unwritten_meant}
use Rattle.uc_code.specs.declared.rows.RoutineCode.{RoutineCode}
use Rattle.uc_code.specs.Layout.{laid_in}
use Rattle.uc_code.specs.Lowered.{RoutineAt}
use Rattle.std.specs.Prelude.{slice_get, slice_set}
use Rattle.uc_implicit.specs.Unwritten.{unwritten_as}
use Rattle.uc_lower_class.specs.Bodies.{IsUnwritten}
use Rattle.uc_lower.specs.RoutineLayout.{LaysAll, last_of}
use Rattle.uc_lower.proofs.Ending.{unwritten_fits}
use Rattle.uc_lower.proofs.RoutineLayoutLemmas.{all_none, all_step}
use Rattle.uc_lower.proofs.Ruled.{fit_classes}
use Rattle.uc_lower.proofs.Silence.{last_few}
use Rattle.uc_lower.proofs.Unwritten.{is_unwritten}
use Rattle.uc_lower.proofs.routines.lower_all_unwritten.Goals as goal

pub loop-place-init : goal.loop-place-init
loop-place-init c = (omega arith, all_none c.args.names.now (routines_of c.args.names.now) (unwritten_of c.args.names.now) (c.args.count + length c.args.unwritten.now) c.args.count c.args.out.now c.requires.count c.requires.lays)

pub lower_unwritten-requires-clause-fit : goal.lower_unwritten-requires-clause-fit
lower_unwritten-requires-clause-fit c = fit_classes c.args.names.now c.requires.unbroken

pub lower_unwritten-requires-clause-unwritten : goal.lower_unwritten-requires-clause-unwritten
lower_unwritten-requires-clause-unwritten c =
    let p = c.args.names.now in
    let i = c.loop-place.place in
    let u = c.nth-one.result in
    let inside = c.loop-place-test.true in
    let at = ap (λ l. slice_get l i) (sym c.requires.unwritten) ∙ c.nth-one.ensures in
    let lays = c.loop-place.invariant.1 in
    let number = c.loop-place.invariant.0 in
    let count = c.requires.count in
    let place : length (routines_of p) + i ≡ c.loop-place.number = omega (arith, number, count) in
    subst (IsUnwritten p (unwritten_as u)) place (is_unwritten p i (unwritten_as u) at)

pub lower_unwritten-requires-clause-known : goal.lower_unwritten-requires-clause-known
lower_unwritten-requires-clause-known c =
    let table = c.loop-place.invariant.1.table in
    let number = c.loop-place.invariant.0 in
    let inside = c.loop-place-test.true in
    omega (arith, table, number, inside)

pub lower_unwritten-requires-clause-outside : goal.lower_unwritten-requires-clause-outside
lower_unwritten-requires-clause-outside c = c.loop-place.invariant.1.outside

pub lower_unwritten-requires-clause-room : goal.lower_unwritten-requires-clause-room
lower_unwritten-requires-clause-room c =
    let p = c.args.names.now in
    let i = c.loop-place.place in
    let u = c.nth-one.result in
    let inside = c.loop-place-test.true in
    let at = ap (λ l. slice_get l i) (sym c.requires.unwritten) ∙ c.nth-one.ensures in
    let lays = c.loop-place.invariant.1 in
    let number = c.loop-place.invariant.0 in
    let count = c.requires.count in
    let place : length (routines_of p) + i ≡ c.loop-place.number = omega (arith, number, count) in
    unwritten_fits p (c.args.count + length c.args.unwritten.now) i (unwritten_as u) c.loop-place.out c.requires.unbroken c.requires.fits at lays

pub loop-place-preserved : goal.loop-place-preserved
loop-place-preserved c =
    let p = c.args.names.now in
    let i = c.loop-place.place in
    let u = c.nth-one.result in
    let inside = c.loop-place-test.true in
    let at = ap (λ l. slice_get l i) (sym c.requires.unwritten) ∙ c.nth-one.ensures in
    let lays = c.loop-place.invariant.1 in
    let number = c.loop-place.invariant.0 in
    let count = c.requires.count in
    let place : length (routines_of p) + i ≡ c.loop-place.number = omega (arith, number, count) in
    let old = c.loop-place.out in
    let new = c.lower_unwritten.new.out in
    let row : RoutineCode = record { entry = length old.ops; cells = 0; params = 0; written = false } in
    let known : length (routines_of p) + i < c.args.count + length c.args.unwritten.now = omega (arith, count, inside) in (
      omega (arith, number),
      all_step p (routines_of p) (unwritten_of p) (c.args.count + length c.args.unwritten.now) i (unwritten_as u) old new at known lays c.in_ok-lower_unwritten.ensures.kept c.in_ok-lower_unwritten.ensures.count c.in_ok-lower_unwritten.ensures.rows c.in_ok-lower_unwritten.ensures.room
          (subst (λ (n : ℕ). RoutineAt (laid_in new) (last_of (routines_of p)) n (unwritten_meant p (unwritten_as u)) row (length old.ops) (length new.ops)) (sym place) (c.in_ok-lower_unwritten.ensures.code (last_of (routines_of p)) (let few = last_few (routines_of p) in omega (arith, few, number, count))))
          (c.in_ok-lower_unwritten.ensures.written ∙ ap (λ (n : ℕ). slice_set old.routines n row) (sym place))
          c.in_ok-lower_unwritten.ensures.outside,
    )

pub returns : goal.returns
returns c =
    let over = c.loop-place-test.false in
    let most = c.loop-place.auto.place-end in
    let is : c.loop-place.place ≡ length c.args.unwritten.now = omega (arith, over, most) in
    subst (λ (n : ℕ). LaysAll c.args.names.now (routines_of c.args.names.now) (unwritten_of c.args.names.now) (c.args.count + length c.args.unwritten.now) n c.loop-place.out) is c.loop-place.invariant.1
