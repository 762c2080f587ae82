-- The program's main: `void uMain::main()`, or `int main()` at the outer level, without parameters.
use Rattle.std.specs.Prelude.{ℕ, ◌+◌, List, [], ◌∷◌, Bool, true, false, ◌&&◌, length, if◌then◌else◌}
use Rattle.uc_tree.specs.declared.kinds.Base.{Base}
use Rattle.uc_tree.specs.declared.kinds.Base.TheVariants as base
use Rattle.uc_tree.specs.declared.kinds.Owner.{Owner}
use Rattle.uc_tree.specs.declared.kinds.Owner.TheVariants as owner
use Rattle.uc_tree.specs.declared.kinds.Param.{Param}
use Rattle.uc_tree.specs.Names.{same_name}
use Rattle.uc_tree.specs.Programs.{Sig, Item, ClassItem, RoutineItem, ConstItem, ProtoItem, ForwardItem, UsingItem, Program}
use Rattle.uc_tree.specs.Numbering.{is_plain, item_defined, main_name}

abbrev pub is_void : Base → Bool
is_void base.Void = true
is_void base.Int = false
is_void base.Char = false
is_void base.Bool = false
is_void base.Condition = false
is_void base.Cluster = false
is_void base.Processor = false
is_void (base.Named name) = false

abbrev pub is_int : Base → Bool
is_int base.Void = false
is_int base.Int = true
is_int base.Char = false
is_int base.Bool = false
is_int base.Condition = false
is_int base.Cluster = false
is_int base.Processor = false
is_int (base.Named name) = false

-- what main returns: nothing in `uMain`, an `int` at the outer level
abbrev pub returns_as_main : Owner → Base → Bool
returns_as_main owner.Here ret = is_int ret
returns_as_main owner.Main ret = is_void ret
returns_as_main (owner.Class name) ret = false

abbrev pub no_params : List Param → Bool
no_params [] = true
no_params (x ∷ xs) = false

-- the signature of main, where it stands outside of classes
abbrev pub is_main_sig : Sig → Bool
is_main_sig s = returns_as_main s.owner s.ret && (same_name s.name main_name && (is_plain s.role && no_params s.params))

abbrev pub is_main_item : Item → Bool
is_main_item (ClassItem class) = false
is_main_item (RoutineItem routine) = is_main_sig routine.sig
is_main_item (ConstItem constant) = false
is_main_item (ProtoItem sig) = false
is_main_item (ForwardItem forward) = false
is_main_item (UsingItem place) = false

-- how many routines these items define before main
abbrev pub main_among : Program → List Item → ℕ
main_among p [] = 0
main_among p (i ∷ is) = if is_main_item i then 0 else length (item_defined p i) + main_among p is

-- the number of main among the routines; where there is none, it is that of no routine
abbrev pub main_number : Program → ℕ
main_number p = main_among p p.items
