use Rattle.uc_check_decl.proofs.Firsts.{field_new}
use Rattle.uc_check_decl.proofs.earlier.is_new_field.Goals as goal

pub returns : goal.returns
returns c at = field_new c.args.tables.now c.args.home c.args.class.now c.args.place c.args.name.now c.is_taken-taken.result at c.is_taken-taken.ensures
