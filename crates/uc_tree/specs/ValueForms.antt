-- The numbers of the forms in which values are printed and read.
use Rattle.std.specs.Prelude.{ℕ}
use Rattle.uc_tree.specs.declared.kinds.ValueForm.{ValueForm}
use Rattle.uc_tree.specs.declared.kinds.ValueForm.TheVariants.{Number, Character}

abbrev pub form_number : ValueForm → ℕ
form_number Number = 0
form_number Character = 1
