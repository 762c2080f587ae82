use Rattle.std.proofs.Common.{ℕ, List, refl, sym, ap, subst, ◌∙◌}
use Rattle.std.specs.Prelude.{◌||◌}
use Rattle.uc_tree.specs.Programs.{Program}
use Rattle.uc_resolve.specs.Resolve.{scalar, value_meant}
use Rattle.uc_lower_expr.specs.Meanings.{Tells}
use Rattle.uc_code.specs.Drafts.{IsInnermost, IsUnknown}
use Rattle.uc_lower_expr.specs.Parts.{standing_by}
use Rattle.uc_lower_expr.proofs.Naming.{unknown_named, innermost_named}
use Rattle.uc_lower_expr.proofs.Arms.{told_known}
use Rattle.uc_lower_expr.proofs.names.variable_named.Goals as goal

pub returns-in-Some : goal.returns-in-Some
returns-in-Some c = record {
  known = c.in-Some.known.now;
  is = innermost_named _ _ _ (subst (λ (n : List ℕ). IsInnermost c.args.out.now.names n c.in-Some.known.now) c.bytes.ensures c.in-Some.ensures);
  cell = refl;
  held = ap (λ n. n || c.in-Some.known.now.ty.by_ref) (sym c.has_number-number.ensures) ∙ sym c.is_held.ensures;
  tells = told_known c.in-Some.known.now c.value_of_base.result _ (λ e. subst (λ (p : Program). Tells p c.value_of_base.result (value_meant e (scalar c.in-Some.known.now.ty.base))) c.sizes.ensures (c.value_of_base.ensures.tells e)) (c.standing_of.ensures ∙ ap (λ n. standing_by n c.in-Some.known.now.ty.by_ref c.in-Some.known.now.cell) c.has_number-number.ensures);
}

pub returns-in-None : goal.returns-in-None
returns-in-None c = unknown_named _ _ (subst (λ (n : List ℕ). IsUnknown c.args.out.now.names n) c.bytes.ensures c.in-None.ensures)
