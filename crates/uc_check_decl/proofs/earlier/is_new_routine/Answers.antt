use Rattle.std.proofs.Common.{ap, sym, ◌∙◌}
use Rattle.uc_rules.specs.ClassBreaks.{is_new_routine_by}
use Rattle.uc_check_decl.proofs.Firsts.{constructor_new, routine_new}
use Rattle.uc_check_decl.proofs.earlier.is_new_routine.Goals as goal

pub returns-in-Plain : goal.returns-in-Plain
returns-in-Plain c at =
    routine_new c.args.tables.now c.args.home c.args.class.now c.args.member c.args.name.now c.is_taken-taken.result at c.is_taken-taken.ensures
    ∙ ap (λ r. is_new_routine_by r c.args.class.now c.args.member c.args.name.now) (sym c.in-Plain.is)

pub returns-in-Constructor : goal.returns-in-Constructor
returns-in-Constructor c at =
    constructor_new c.args.tables.now c.args.home c.args.class.now c.args.member c.args.name.now c.is_named_before-named.result at c.is_named_before-named.ensures
    ∙ ap (λ r. is_new_routine_by r c.args.class.now c.args.member c.args.name.now) (sym c.in-Constructor.is)
