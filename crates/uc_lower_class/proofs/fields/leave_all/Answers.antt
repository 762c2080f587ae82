use Rattle.std.proofs.Common.{ap, sym, ◌∙◌}
use Rattle.std.specs.Prelude.{option_map}
use Rattle.uc_tree.specs.Objects.{class_at}
use Rattle.uc_lower_class.proofs.Assembling.{left_none}
use Rattle.uc_lower_class.proofs.fields.leave_all.Goals as goal

pub returns-in-None : goal.returns-in-None
returns-in-None c = left_none c.args.names.now c.args.class (class_at c.args.names.now c.args.class) c.args.out.now (sym (ap (λ p. class_at p c.args.class) c.sizes.ensures) ∙ sym c.class.ensures ∙ ap (option_map (λ k. k.now)) c.in-None.is)
