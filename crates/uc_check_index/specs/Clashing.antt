-- Which earlier items clash with one, by what they are.
use Rattle.std.specs.Prelude.{Bool, not, ◌&&◌, ◌||◌}
use Rattle.uc_tree.specs.Programs.{Item, ClassItem, RoutineItem, ConstItem, ProtoItem, ForwardItem, UsingItem}

-- whether an item clashes, where there are these classes, forward classes, routines, prototypes and constants of its name
abbrev pub clash_by : Bool → Item → Bool → Bool → Bool → Bool → Bool → Bool
clash_by proto (ClassItem c) cs fs rs ps ks = cs || (rs || (ps || ks))
clash_by proto (RoutineItem r) cs fs rs ps ks = cs || (fs || ((not proto && rs) || ks))
clash_by proto (ConstItem k) cs fs rs ps ks = cs || (fs || (rs || (ps || ks)))
clash_by proto (ProtoItem s) cs fs rs ps ks = cs || (fs || (ps || ks))
clash_by proto (ForwardItem f) cs fs rs ps ks = fs || (rs || (ps || ks))
clash_by proto (UsingItem at) cs fs rs ps ks = cs || (fs || (rs || (ps || ks)))
