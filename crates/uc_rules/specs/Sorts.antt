-- Sorts of variables, and what is declared with them.
use Rattle.std.specs.Prelude.{ℕ, ◌+◌, List, [], ◌∷◌, Bool, true, false, Option, Some, None, if◌then◌else◌, nat_eq, slice_get}
use Rattle.uc_tree.specs.declared.kinds.Base.{Base}
use Rattle.uc_tree.specs.declared.kinds.Base.TheVariants as base
use Rattle.uc_tree.specs.declared.kinds.Kind.{Kind}
use Rattle.uc_tree.specs.declared.kinds.Kind.TheVariants as kind
use Rattle.uc_tree.specs.Names.{same_name}
use Rattle.uc_tree.specs.Cells.{classes_of}
use Rattle.uc_tree.specs.Numbering.{is_event, is_mutex}
use Rattle.uc_tree.specs.Programs.{Class, Program}
use Rattle.uc_rules.specs.declared.rules.Sort.{Sort}
use Rattle.uc_rules.specs.declared.rules.Sort.TheVariants.{Void, Int, Char, Bool as Truth, Condition, Cluster, Processor, Object}

abbrev pub is_scalar_sort : Sort → Bool
is_scalar_sort Int = true
is_scalar_sort Char = true
is_scalar_sort Truth = true
is_scalar_sort _ = false

abbrev pub is_void : Sort → Bool
is_void Void = true
is_void _ = false

abbrev pub is_int : Sort → Bool
is_int Int = true
is_int _ = false

abbrev pub is_char : Sort → Bool
is_char Char = true
is_char _ = false

abbrev pub is_truth : Sort → Bool
is_truth Truth = true
is_truth _ = false

abbrev pub is_condition : Sort → Bool
is_condition Condition = true
is_condition _ = false

abbrev pub is_cluster : Sort → Bool
is_cluster Cluster = true
is_cluster _ = false

abbrev pub is_processor : Sort → Bool
is_processor Processor = true
is_processor _ = false

-- a test of the class of an object
abbrev pub of_class : (ℕ → Kind → Bool) → Sort → Bool
of_class test (Object class k) = test class k
of_class test _ = false

abbrev pub is_same_class : ℕ → ℕ → Kind → Bool
is_same_class c class k = nat_eq c class

-- whether two sorts are the same
abbrev pub same_sort : Sort → Sort → Bool
same_sort Void t = is_void t
same_sort Int t = is_int t
same_sort Char t = is_char t
same_sort Truth t = is_truth t
same_sort Condition t = is_condition t
same_sort Cluster t = is_cluster t
same_sort Processor t = is_processor t
same_sort (Object class k) t = of_class (is_same_class class) t

-- kinds of classes

abbrev pub is_coroutine : Kind → Bool
is_coroutine kind.Coroutine = true
is_coroutine _ = false

abbrev pub is_cormonitor : Kind → Bool
is_cormonitor kind.Cormonitor = true
is_cormonitor _ = false

abbrev pub is_task : Kind → Bool
is_task kind.Task = true
is_task _ = false

-- an object of such a class is no mutex object
abbrev pub is_plain_kind : Kind → Bool
is_plain_kind kind.Class = true
is_plain_kind kind.Coroutine = true
is_plain_kind _ = false

-- the kinds that have a main
abbrev pub has_main : Kind → Bool
has_main kind.Coroutine = true
has_main kind.Cormonitor = true
has_main kind.Task = true
has_main _ = false

abbrev pub is_mutex_class : ℕ → Kind → Bool
is_mutex_class class k = is_mutex k

abbrev pub is_plain_class : ℕ → Kind → Bool
is_plain_class class k = is_plain_kind k

abbrev pub is_event_class : ℕ → Kind → Bool
is_event_class class k = is_event k

abbrev pub is_coroutine_class : ℕ → Kind → Bool
is_coroutine_class class k = is_coroutine k

abbrev pub is_task_class : ℕ → Kind → Bool
is_task_class class k = is_task k

-- the sort that a base names; of two classes with one name the first is meant, and the first of the list has the place i
abbrev pub class_sort : List Class → ℕ → List ℕ → Option Sort
class_sort [] i name = None
class_sort (c ∷ cs) i name = if same_name c.name name then Some (Object i c.kind) else class_sort cs (i + 1) name

-- classes are looked up among the classes alone
abbrev pub class_named : Program → List ℕ → Option Sort
class_named p name = class_sort (classes_of p.items) 0 name

-- none where a base names no class
abbrev pub sort_of : Program → Base → Option Sort
sort_of p base.Void = Some Void
sort_of p base.Int = Some Int
sort_of p base.Char = Some Char
sort_of p base.Bool = Some Truth
sort_of p base.Condition = Some Condition
sort_of p base.Cluster = Some Cluster
sort_of p base.Processor = Some Processor
sort_of p (base.Named name) = class_named p name

abbrev pub class_at : Program → ℕ → Option Class
class_at p i = slice_get (classes_of p.items) i
