use Rattle.std.proofs.Common.{◌≡◌, ℕ, ◌+◌, length, refl, sym, subst, ap, ◌∙◌}
use Rattle.std.proofs.lemmas.List.{length-map}
use Rattle.uc_tree.specs.Numbering.{routines_of}
use Rattle.uc_tree.specs.Objects.{unwritten_of}
use Rattle.uc_tree.specs.Programs.{Program}
use Rattle.uc_rules.specs.Breaks.{breaks_of}
use Rattle.uc_implicit.specs.Unwritten.{unwritten_as}
use Rattle.uc_resolve.specs.Resolve.{source_of}
use Rattle.uc_code.proofs.Paces.{lowered_paced}
use Rattle.uc_lower.specs.RoutineLayout.{LaysAll}
use Rattle.uc_lower.specs.Refusals.{Fits}
use Rattle.uc_lower.proofs.Ending.{as_many, whole, whole_few, whole_rows, whole_count}
use Rattle.uc_lower.proofs.lower.lower_named.Goals as goal

pub lower_each-requires-clause-unbroken : goal.lower_each-requires-clause-unbroken
lower_each-requires-clause-unbroken c = ap breaks_of c.requires.names ∙ c.requires.unbroken

pub lower_each-requires-clause-fits : goal.lower_each-requires-clause-fits
lower_each-requires-clause-fits c = subst Fits (sym c.requires.names) c.requires.fits

pub lower_each-requires-clause-defined : goal.lower_each-requires-clause-defined
lower_each-requires-clause-defined c = c.requires.defined ∙ ap routines_of (sym c.requires.names)

pub returns-in_ok-code-in-Ok-clause-lowered : goal.returns-in_ok-code-in-Ok-clause-lowered
returns-in_ok-code-in-Ok-clause-lowered c =
    let p = c.args.checked.now in
    let e : c.args.names.now ≡ c.args.checked.now = c.requires.names in
    let out = c.lower_each.new.out in
    let more : ℕ = length c.args.unwritten.now in
    let lays : LaysAll p (routines_of p) (unwritten_of p) (c.args.count + more) more out = subst (λ (q : Program). LaysAll q (routines_of q) (unwritten_of q) (c.args.count + more) more out) e c.in-Ok.ensures in
    let us : more ≡ length (unwritten_of p) = sym (length-map c.args.unwritten.now unwritten_as) ∙ ap length c.requires.unwritten in
    let count : c.args.count ≡ length (routines_of p) = c.requires.count ∙ sym (as_many c.args.defined.now (routines_of p) c.requires.defined) in
    whole p (c.args.count + more) more out _ _ _ c.in_ok-code-in-Ok.code us (ap (λ (k : ℕ). k + more) count) lays refl refl refl c.in_ok-code-in-Ok.ensures.code

pub returns-in_ok-code-in-Ok-clause-paced : goal.returns-in_ok-code-in-Ok-clause-paced
returns-in_ok-code-in-Ok-clause-paced c =
    let p = c.args.checked.now in
    let e : c.args.names.now ≡ c.args.checked.now = c.requires.names in
    let out = c.lower_each.new.out in
    let more : ℕ = length c.args.unwritten.now in
    let lays : LaysAll p (routines_of p) (unwritten_of p) (c.args.count + more) more out = subst (λ (q : Program). LaysAll q (routines_of q) (unwritten_of q) (c.args.count + more) more out) e c.in-Ok.ensures in
    let us : more ≡ length (unwritten_of p) = sym (length-map c.args.unwritten.now unwritten_as) ∙ ap length c.requires.unwritten in
    let count : c.args.count ≡ length (routines_of p) = c.requires.count ∙ sym (as_many c.args.defined.now (routines_of p) c.requires.defined) in
    lowered_paced (source_of p) c.in_ok-code-in-Ok.code (whole p (c.args.count + more) more out _ _ _ c.in_ok-code-in-Ok.code us (ap (λ (k : ℕ). k + more) count) lays refl refl refl c.in_ok-code-in-Ok.ensures.code)

pub returns-in_ok-code-in-Ok-clause-few : goal.returns-in_ok-code-in-Ok-clause-few
returns-in_ok-code-in-Ok-clause-few c =
    let p = c.args.checked.now in
    let e : c.args.names.now ≡ c.args.checked.now = c.requires.names in
    let out = c.lower_each.new.out in
    let more : ℕ = length c.args.unwritten.now in
    let lays : LaysAll p (routines_of p) (unwritten_of p) (c.args.count + more) more out = subst (λ (q : Program). LaysAll q (routines_of q) (unwritten_of q) (c.args.count + more) more out) e c.in-Ok.ensures in
    let us : more ≡ length (unwritten_of p) = sym (length-map c.args.unwritten.now unwritten_as) ∙ ap length c.requires.unwritten in
    whole_few p (c.args.count + more) more out _ _ _ c.in_ok-code-in-Ok.code c.requires.unbroken us lays c.in_ok-code-in-Ok.ensures.code

pub returns-in_ok-code-in-Ok-clause-count : goal.returns-in_ok-code-in-Ok-clause-count
returns-in_ok-code-in-Ok-clause-count c =
    let p = c.args.checked.now in
    let e : c.args.names.now ≡ c.args.checked.now = c.requires.names in
    let out = c.lower_each.new.out in
    let more : ℕ = length c.args.unwritten.now in
    let lays : LaysAll p (routines_of p) (unwritten_of p) (c.args.count + more) more out = subst (λ (q : Program). LaysAll q (routines_of q) (unwritten_of q) (c.args.count + more) more out) e c.in-Ok.ensures in
    let us : more ≡ length (unwritten_of p) = sym (length-map c.args.unwritten.now unwritten_as) ∙ ap length c.requires.unwritten in
    whole_count p (c.args.count + more) more out _ _ _ c.in_ok-code-in-Ok.code us lays c.in_ok-code-in-Ok.ensures.code

pub returns-in_ok-code-in-Ok-clause-rows : goal.returns-in_ok-code-in-Ok-clause-rows
returns-in_ok-code-in-Ok-clause-rows c =
    let p = c.args.names.now in
    let more : ℕ = length c.args.unwritten.now in
    whole_rows p (routines_of p) (unwritten_of p) (c.args.count + more) more c.lower_each.new.out _ _ _ c.in_ok-code-in-Ok.code c.in-Ok.ensures c.in_ok-code-in-Ok.ensures.ended c.in_ok-code-in-Ok.ensures.code

pub lower_each-requires-clause-unwritten : goal.lower_each-requires-clause-unwritten
lower_each-requires-clause-unwritten c = c.requires.unwritten ∙ ap unwritten_of (sym c.requires.names)
