use Rattle.std.proofs.Common.{◌≡◌, List, Some, None, Bor, map, ap, sym, ◌∙◌}
use Rattle.std.specs.Prelude.{slice_get, option_map}
use Rattle.std.proofs.lemmas.Option.{slice_get-map}
use Rattle.uc_tree.specs.declared.class.Routine.{Routine as Held}
use Rattle.uc_tree.specs.Programs.{Sig, Routine}
use Rattle.uc_resolve.specs.Resolve.{params_of}
use Rattle.uc_lower_expr.proofs.Numbers.{params_at, no_params_at}
use Rattle.uc_lower_expr.proofs.program_names.ProgramNames.params.Goals as goal

abbrev held : Bor Held → Routine
held r = r.now

pub returns-in-Some : goal.returns-in-Some
returns-in-Some c =
    let items : List (Bor Held) = c.self.inside.numbering.routines.items in
    let at : slice_get items c.args.number ≡ Some c.in-Some.routine = sym (c.routine_at.ensures ∙ ap (λ rs. slice_get rs c.args.number) c.deref.ensures.value) ∙ c.in-Some.is in
    let there : slice_get (map held items) c.args.number ≡ Some c.in-Some.routine.now = slice_get-map held items c.args.number ∙ ap (option_map held) at in
    c.params_of.ensures ∙ ap (λ (g : Sig). g.params) c.sig_of.ensures ∙ sym (ap (λ p. params_of p c.args.number) (sym c.self.view_is) ∙ params_at c.self.inside.sizes.now (map held items) c.args.number c.in-Some.routine.now c.self.invariant.numbering.routines there)

pub returns-in-None : goal.returns-in-None
returns-in-None c =
    let items : List (Bor Held) = c.self.inside.numbering.routines.items in
    let at : slice_get items c.args.number ≡ None = sym (c.routine_at.ensures ∙ ap (λ rs. slice_get rs c.args.number) c.deref.ensures.value) ∙ c.in-None.is in
    let there : slice_get (map held items) c.args.number ≡ None = slice_get-map held items c.args.number ∙ ap (option_map held) at in
    sym (ap (λ p. params_of p c.args.number) (sym c.self.view_is) ∙ no_params_at c.self.inside.sizes.now (map held items) c.args.number c.self.invariant.numbering.routines there)
