-- The form of an item as the code holds it.
use Rattle.uc_tree.specs.declared.program.ItemForm.{ItemForm}
use Rattle.uc_tree.specs.declared.program.ItemForm.TheVariants as item
use Rattle.uc_tree.specs.Programs.{Item, ClassItem, RoutineItem, ConstItem, ProtoItem, ForwardItem, UsingItem}

abbrev pub item_at : ItemForm → Item
item_at (item.Class class) = ClassItem class
item_at (item.Routine routine) = RoutineItem routine
item_at (item.Constant constant) = ConstItem constant
item_at (item.Proto sig) = ProtoItem sig
item_at (item.Forward forward) = ForwardItem forward
item_at (item.Using pos) = UsingItem pos
