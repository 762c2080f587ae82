use Rattle.std.proofs.Common.{◌+◌, ℕ, true, length, nat_eq, refl, sym, subst, ap, ◌∙◌, arith}
use Rattle.uc_tree.specs.Numbering.{routines_of}
use Rattle.uc_resolve.specs.Resolve.{place_by, routine_meant, routine_scope}
use Rattle.uc_code.specs.Layout.{laid_in}
use Rattle.uc_code.specs.Lowered.{RoutineAt}
use Rattle.uc_lower_stmt.specs.Routines.{frame_cells}
use Rattle.uc_numbering.specs.Routines.{defined_at}
use Rattle.uc_lower.proofs.Ending.{Stands, found_at, as_many, follows, stands_none, stands_next}
use Rattle.uc_lower.proofs.RoutineLayoutLemmas.{lays_none}
use Rattle.uc_lower.proofs.Silence.{last_is}
use Rattle.uc_lower.proofs.routines.lower_routines.Goals as goal

pub loop-number-init : goal.loop-number-init
loop-number-init c = stands_none c.args.names.now (length c.args.out.now.routines) c.args.out.now (lays_none c.args.names.now (routines_of c.args.names.now) (length c.args.out.now.routines) c.args.out.now c.requires.ops c.requires.rows c.requires.outside refl)

pub lower_written-requires-clause-named : goal.lower_written-requires-clause-named
lower_written-requires-clause-named c =
    let n = as_many c.args.defined.now (routines_of c.args.names.now) c.requires.defined in
    let k = c.requires.count in
    let l = c.loop-number-test.true in
    let t = c.requires.table in
    let at = found_at c.args.defined.now (routines_of c.args.names.now) c.loop-number.number c.index-defined-number.result c.requires.defined (omega (arith, k, l)) c.index-defined-number.is in
    let f = follows c.args.names.now (length c.args.out.now.routines) c.loop-number.number c.loop-number.texts c.loop-number.sites (defined_at c.index-defined-number.result) c.loop-number.out c.requires.unbroken c.requires.fits (omega (arith, n, k, t)) at c.loop-number.invariant in
    λ e. f.named (ap (nat_eq c.loop-number.number) (sym c.requires.main) ∙ e)

pub lower_written-requires-clause-params : goal.lower_written-requires-clause-params
lower_written-requires-clause-params c =
    let n = as_many c.args.defined.now (routines_of c.args.names.now) c.requires.defined in
    let k = c.requires.count in
    let l = c.loop-number-test.true in
    let t = c.requires.table in
    let at = found_at c.args.defined.now (routines_of c.args.names.now) c.loop-number.number c.index-defined-number.result c.requires.defined (omega (arith, k, l)) c.index-defined-number.is in
    let f = follows c.args.names.now (length c.args.out.now.routines) c.loop-number.number c.loop-number.texts c.loop-number.sites (defined_at c.index-defined-number.result) c.loop-number.out c.requires.unbroken c.requires.fits (omega (arith, n, k, t)) at c.loop-number.invariant in
    f.params

pub lower_written-requires-clause-known : goal.lower_written-requires-clause-known
lower_written-requires-clause-known c =
    let n = as_many c.args.defined.now (routines_of c.args.names.now) c.requires.defined in
    let k = c.requires.count in
    let l = c.loop-number-test.true in
    let t = c.requires.table in
    let at = found_at c.args.defined.now (routines_of c.args.names.now) c.loop-number.number c.index-defined-number.result c.requires.defined (omega (arith, k, l)) c.index-defined-number.is in
    let f = follows c.args.names.now (length c.args.out.now.routines) c.loop-number.number c.loop-number.texts c.loop-number.sites (defined_at c.index-defined-number.result) c.loop-number.out c.requires.unbroken c.requires.fits (omega (arith, n, k, t)) at c.loop-number.invariant in
    f.known

pub lower_written-requires-clause-behind : goal.lower_written-requires-clause-behind
lower_written-requires-clause-behind c = let l = c.loop-number-test.true in omega (arith, l)

pub lower_written-requires-clause-written : goal.lower_written-requires-clause-written
lower_written-requires-clause-written c =
    let n = as_many c.args.defined.now (routines_of c.args.names.now) c.requires.defined in
    let k = c.requires.count in
    let l = c.loop-number-test.true in
    omega (arith, n, k, l)

pub lower_written-requires-clause-outside : goal.lower_written-requires-clause-outside
lower_written-requires-clause-outside c = c.loop-number.invariant.lays.outside

pub lower_written-requires-clause-room : goal.lower_written-requires-clause-room
lower_written-requires-clause-room c =
    let n = as_many c.args.defined.now (routines_of c.args.names.now) c.requires.defined in
    let k = c.requires.count in
    let l = c.loop-number-test.true in
    let t = c.requires.table in
    let at = found_at c.args.defined.now (routines_of c.args.names.now) c.loop-number.number c.index-defined-number.result c.requires.defined (omega (arith, k, l)) c.index-defined-number.is in
    let f = follows c.args.names.now (length c.args.out.now.routines) c.loop-number.number c.loop-number.texts c.loop-number.sites (defined_at c.index-defined-number.result) c.loop-number.out c.requires.unbroken c.requires.fits (omega (arith, n, k, t)) at c.loop-number.invariant in
    f.room

pub lower_written-requires-clause-cells : goal.lower_written-requires-clause-cells
lower_written-requires-clause-cells c =
    let n = as_many c.args.defined.now (routines_of c.args.names.now) c.requires.defined in
    let k = c.requires.count in
    let l = c.loop-number-test.true in
    let t = c.requires.table in
    let at = found_at c.args.defined.now (routines_of c.args.names.now) c.loop-number.number c.index-defined-number.result c.requires.defined (omega (arith, k, l)) c.index-defined-number.is in
    let f = follows c.args.names.now (length c.args.out.now.routines) c.loop-number.number c.loop-number.texts c.loop-number.sites (defined_at c.index-defined-number.result) c.loop-number.out c.requires.unbroken c.requires.fits (omega (arith, n, k, t)) at c.loop-number.invariant in
    f.cells

pub lower_written-requires-clause-texts : goal.lower_written-requires-clause-texts
lower_written-requires-clause-texts c =
    let n = as_many c.args.defined.now (routines_of c.args.names.now) c.requires.defined in
    let k = c.requires.count in
    let l = c.loop-number-test.true in
    let t = c.requires.table in
    let at = found_at c.args.defined.now (routines_of c.args.names.now) c.loop-number.number c.index-defined-number.result c.requires.defined (omega (arith, k, l)) c.index-defined-number.is in
    let f = follows c.args.names.now (length c.args.out.now.routines) c.loop-number.number c.loop-number.texts c.loop-number.sites (defined_at c.index-defined-number.result) c.loop-number.out c.requires.unbroken c.requires.fits (omega (arith, n, k, t)) at c.loop-number.invariant in
    f.texts

pub loop-number-preserved : goal.loop-number-preserved
loop-number-preserved c =
    let i = c.loop-number.number in
    let x = c.index-defined-number.result in
    let n = as_many c.args.defined.now (routines_of c.args.names.now) c.requires.defined in
    let k = c.requires.count in
    let l = c.loop-number-test.true in
    let t = c.requires.table in
    let at = found_at c.args.defined.now (routines_of c.args.names.now) i x c.requires.defined (omega (arith, k, l)) c.index-defined-number.is in
    let out = c.lower_written.new.out in
    let p = c.args.names.now in
    let all : ℕ = length c.args.out.now.routines in
    subst (λ (s : ℕ). Stands c.args.names.now all (i + 1) c.texts-texts.result s out) (sym c.sites-sites.ensures) (
    subst (λ (t : ℕ). Stands c.args.names.now all (i + 1) t out.sites out) (sym c.texts-texts.ensures) (
    stands_next c.args.names.now all i c.loop-number.texts c.loop-number.sites (defined_at x) c.loop-number.out out (omega (arith, n, k, t)) at c.loop-number.invariant
    c.in_ok-lower_written.ensures.kept c.in_ok-lower_written.ensures.count c.in_ok-lower_written.ensures.rows c.in_ok-lower_written.ensures.room
    (subst (λ (m : ℕ). RoutineAt (laid_in out) m i (routine_meant p (defined_at x).routine (routine_scope p (defined_at x).routine (place_by p (defined_at x)) i c.loop-number.texts c.loop-number.sites)) (record { entry = length c.loop-number.out.ops; cells = frame_cells p (defined_at x).routine; params = length (defined_at x).routine.sig.params; written = true }) (length c.loop-number.out.ops) (length out.ops)) (last_is (routines_of p) c.args.count (omega (arith, n, k))) c.in_ok-lower_written.ensures.code)
    c.in_ok-lower_written.ensures.written c.in_ok-lower_written.ensures.outside c.in_ok-lower_written.ensures.texts c.in_ok-lower_written.ensures.few_texts c.in_ok-lower_written.ensures.sites))
