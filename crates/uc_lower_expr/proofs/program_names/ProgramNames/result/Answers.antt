use Rattle.std.proofs.Common.{◌≡◌, List, Some, None, Bor, map, ap, sym, subst, ◌∙◌}
use Rattle.std.specs.Prelude.{slice_get, option_map}
use Rattle.std.proofs.lemmas.Option.{slice_get-map}
use Rattle.uc_tree.specs.declared.class.Routine.{Routine as Held}
use Rattle.uc_tree.specs.Programs.{Program, Sig, Routine}
use Rattle.uc_resolve.specs.Resolve.{result_of, scalar, value_meant}
use Rattle.uc_lower_expr.specs.Meanings.{Tells}
use Rattle.uc_lower_expr.proofs.Numbers.{result_at, no_result_at}
use Rattle.uc_lower_expr.proofs.Knowing.{result_told, result_none}
use Rattle.uc_lower_expr.proofs.program_names.ProgramNames.result.Goals as goal

abbrev held : Bor Held → Routine
held r = r.now

pub returns-in-Some : goal.returns-in-Some
returns-in-Some c = λ e.
    let items : List (Bor Held) = c.self.inside.numbering.routines.items in
    let at : slice_get items c.args.number ≡ Some c.in-Some.routine = sym (c.routine_at.ensures ∙ ap (λ rs. slice_get rs c.args.number) c.deref.ensures.value) ∙ c.in-Some.is in
    let there : slice_get (map held items) c.args.number ≡ Some c.in-Some.routine.now = slice_get-map held items c.args.number ∙ ap (option_map held) at in
    let base : result_of c.args.self.now c.args.number ≡ c.result_of.result.now = ap (λ p. result_of p c.args.number) (sym c.self.view_is) ∙ result_at c.self.inside.sizes.now (map held items) c.args.number c.in-Some.routine.now c.self.invariant.numbering.routines there ∙ sym (c.result_of.ensures ∙ ap (λ (g : Sig). g.ret) c.sig_of.ensures) in
    result_told c.args.self.now c.args.number c.result_of.result.now c.value_of_base.result e base (λ d. subst (λ (p : Program). Tells p c.value_of_base.result (value_meant d (scalar c.result_of.result.now))) c.self.view_is (c.value_of_base.ensures.tells d))

pub returns-in-None : goal.returns-in-None
returns-in-None c = λ e.
    let items : List (Bor Held) = c.self.inside.numbering.routines.items in
    let at : slice_get items c.args.number ≡ None = sym (c.routine_at.ensures ∙ ap (λ rs. slice_get rs c.args.number) c.deref.ensures.value) ∙ c.in-None.is in
    let there : slice_get (map held items) c.args.number ≡ None = slice_get-map held items c.args.number ∙ ap (option_map held) at in
    result_none c.args.self.now c.args.number c.value.result e (ap (λ p. result_of p c.args.number) (sym c.self.view_is) ∙ no_result_at c.self.inside.sizes.now (map held items) c.args.number c.self.invariant.numbering.routines there) c.value.ensures
