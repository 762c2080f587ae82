-- The objects of a program: the fields of its classes, what an object holds, and the routines that build and destroy one.
use Rattle.std.specs.Prelude.{ℕ, zero, suc, ◌+◌, max, ℤ, List, [], ◌∷◌, ◌++◌, length, slice_get, Bool, true, false, not, ◌&&◌, Option, Some, None, unwrap_or, nat_eq, if◌then◌else◌}
use Rattle.uc_tree.specs.declared.kinds.Base.{Base}
use Rattle.uc_tree.specs.declared.kinds.Base.TheVariants as base
use Rattle.uc_tree.specs.declared.kinds.Kind.{Kind}
use Rattle.uc_tree.specs.declared.kinds.Kind.TheVariants as kind
use Rattle.uc_tree.specs.declared.kinds.Role.{Role}
use Rattle.uc_tree.specs.declared.kinds.Role.TheVariants as role
use Rattle.uc_tree.specs.declared.rows.FieldClass.{FieldClass}
use Rattle.uc_tree.specs.declared.rows.FieldLayout.{FieldLayout}
use Rattle.uc_tree.specs.Names.{same_name}
use Rattle.uc_tree.specs.Constants.{constants_of, elements}
use Rattle.uc_tree.specs.Expressions.{Expr}
use Rattle.uc_tree.specs.Statements.{Declarator}
use Rattle.uc_tree.specs.Programs.{MemberForm, FieldsMember, RoutineMember, ProtoMember, Member, Class, Program}
use Rattle.uc_tree.specs.Rows.{ClassLayout, row_at, has_itself}
use Rattle.uc_tree.specs.Cells.{classes_of, object_of, rows_of, leading_cells, seen_in}
use Rattle.uc_tree.specs.Numbering.{is_event, is_plain, class_number, Defined, routines_of}
use Rattle.uc_tree.specs.Source.{Shape, Integer, Character, Truth, Binding, Last, Field, Array}

-- classes, by their places among those of the program, events included

abbrev pub class_at : Program → ℕ → Option Class
class_at p i = slice_get (classes_of p.items) i

abbrev pub number_in : Program → Option Class → ℕ
number_in p None = 0
number_in p (Some c) = unwrap_or (class_number p c.name) 0

-- the number of the class with this place
abbrev pub number_at : Program → ℕ → ℕ
number_at p i = number_in p (class_at p i)

-- the place of the class of a number, from 1 in textual order, events apart; the first of the list has the place i
abbrev pub place_from : List Class → ℕ → ℕ → Option ℕ
place_from [] i number = None
place_from (c ∷ cs) i zero = None
place_from (c ∷ cs) i (suc n) = if is_event c.kind then place_from cs (i + 1) (suc n) else (if nat_eq n 0 then Some i else place_from cs (i + 1) n)

-- that of class 0 is none
abbrev pub place_of : Program → ℕ → Option ℕ
place_of p number = place_from (classes_of p.items) 0 number

abbrev pub plain_in : Option FieldClass → Option ℕ
plain_in None = None
plain_in (Some o) = if o.plain then Some o.class else None

-- whether an object has an execution of its own, which is found at the first of its cells: a coroutine has one, and so has a
-- cormonitor
abbrev pub has_execution : Kind → Bool
has_execution kind.Class = false
has_execution kind.Coroutine = true
has_execution kind.Monitor = false
has_execution kind.Cormonitor = true
has_execution kind.Task = false
has_execution kind.Event = false

-- whether it is a plain coroutine
abbrev pub is_coroutine : Kind → Bool
is_coroutine kind.Class = false
is_coroutine kind.Coroutine = true
is_coroutine kind.Monitor = false
is_coroutine kind.Cormonitor = false
is_coroutine kind.Task = false
is_coroutine kind.Event = false

-- whether it is a task
abbrev pub is_task : Kind → Bool
is_task kind.Class = false
is_task kind.Coroutine = false
is_task kind.Monitor = false
is_task kind.Cormonitor = false
is_task kind.Task = true
is_task kind.Event = false

-- the class of plain objects that a base names, by its place
abbrev pub plain_class : Program → Base → Option ℕ
plain_class p b = plain_in (object_of (classes_of p.items) b)

-- what a declaration makes besides scalars, references and conditions: a plain or a mutex object of the class with this place, a
-- cluster, a processor
pub data Making : Type 0 where
  APlain : ℕ → Making
  AMutex : ℕ → Making
  ACluster : Making
  AProcessor : Making

abbrev pub making_by : Option FieldClass → Base → Option Making
making_by (Some o) b = Some (if o.plain then APlain o.class else AMutex o.class)
making_by None base.Cluster = Some ACluster
making_by None base.Processor = Some AProcessor
making_by None _ = None

-- what a declaration of a base makes
abbrev pub making : Program → Base → Option Making
making p b = making_by (object_of (classes_of p.items) b) b

-- whether that is known by its number, and not found at its place
abbrev pub is_numbered : Option Making → Bool
is_numbered None = false
is_numbered (Some (APlain i)) = false
is_numbered (Some (AMutex i)) = true
is_numbered (Some ACluster) = true
is_numbered (Some AProcessor) = true

-- the class of objects that a base names, by its place
abbrev pub class_made : Option Making → Option ℕ
class_made None = None
class_made (Some (APlain i)) = Some i
class_made (Some (AMutex i)) = Some i
class_made (Some ACluster) = None
class_made (Some AProcessor) = None

-- fields

-- a field, with the base of its declaration
pub record ClassField : Type 0 where
  pub base : Base
  pub declarator : Declarator

abbrev pub declared_fields : Base → List Declarator → List ClassField
declared_fields b [] = []
declared_fields b (d ∷ ds) = record { base = b; declarator = d } ∷ declared_fields b ds

abbrev pub form_fields : MemberForm → List ClassField
form_fields (FieldsMember at b ds) = declared_fields b ds
form_fields (RoutineMember routine) = []
form_fields (ProtoMember sig) = []

-- the fields of a class, in order
abbrev pub fields_of : List Member → List ClassField
fields_of [] = []
fields_of (m ∷ ms) = form_fields m.form ++ fields_of ms

-- what an object holds

-- a scalar of a base; a cluster or a processor is known by its number
abbrev pub shape_of : Base → Shape
shape_of base.Void = Integer
shape_of base.Int = Integer
shape_of base.Char = Character
shape_of base.Bool = Truth
shape_of base.Condition = Integer
shape_of base.Cluster = Binding
shape_of base.Processor = Binding
shape_of (base.Named name) = Integer

-- one element of a base, where `shapes` gives what objects of the classes hold: an object of a mutex type is known by its number
abbrev pub kept_shape : (ℕ → Shape) → Option FieldClass → Base → Shape
kept_shape shapes None b = shape_of b
kept_shape shapes (Some o) b = if o.plain then shapes o.class else Binding

-- so many of them, where there is a length
abbrev pub arrayed : Option Expr → ℕ → Shape → Shape
arrayed None n s = s
arrayed (Some e) n s = Array n s

-- a field, where `named` gives the values of names in its length; a reference is a binding whatever length stands behind it
abbrev pub field_shape : (ℕ → Shape) → List Class → (List ℕ → Option ℤ) → Base → Declarator → Shape
field_shape shapes cs named b d = if d.by_ref then Binding else arrayed d.len (elements named d) (kept_shape shapes (object_of cs b) b)

abbrev pub fields_shape : (ℕ → Shape) → List Class → (List ℕ → Option ℤ) → List ClassField → Shape
fields_shape shapes cs named [] = Last
fields_shape shapes cs named (f ∷ fs) = Field (field_shape shapes cs named f.base f.declarator) (fields_shape shapes cs named fs)

-- so many cells before the fields, at which an execution is found
abbrev pub behind_bindings : ℕ → Shape → Shape
behind_bindings zero s = s
behind_bindings (suc n) s = Field Binding (behind_bindings n s)

abbrev pub form_shape : (ℕ → Shape) → Program → Option Class → Shape
form_shape shapes p None = Last
form_shape shapes p (Some c) = behind_bindings (leading_cells c.kind) (fields_shape shapes (classes_of p.items) (seen_in (constants_of p.items) c) (fields_of c.members))

-- an object of the class with this place, so many classes deep; nothing where the class has itself in its fields
unfoldable pub shape_within : ℕ → Program → ℕ → Shape
shape_within zero p i = Last
shape_within (suc depth) p i = if has_itself (rows_of p) i then Last else form_shape (shape_within depth p) p (class_at p i)

abbrev pub class_shape : Program → ℕ → Shape
class_shape p i = shape_within (length (rows_of p)) p i

-- what one element of a base holds
abbrev pub base_shape : Program → Base → Shape
base_shape p b = kept_shape (class_shape p) (object_of (classes_of p.items) b) b

-- routines of classes, by the numbers of the classes

abbrev pub is_constructor : Role → Bool
is_constructor role.Plain = false
is_constructor role.Constructor = true
is_constructor role.Destructor = false

abbrev pub is_destructor : Role → Bool
is_destructor role.Plain = false
is_destructor role.Constructor = false
is_destructor role.Destructor = true

abbrev pub same_role : Role → Role → Bool
same_role role.Plain r = is_plain r
same_role role.Constructor r = is_constructor r
same_role role.Destructor r = is_destructor r

abbrev pub has_role : ℕ → Role → Defined → Bool
has_role class wanted d = nat_eq d.number class && same_role wanted d.routine.sig.role

-- the first of these routines that builds, or that destroys, the objects of a class; the first of the list has the number r
abbrev pub role_from : List Defined → ℕ → ℕ → Role → Option ℕ
role_from [] r class wanted = None
role_from (d ∷ ds) r class wanted = if has_role class wanted d then Some r else role_from ds (suc r) class wanted

abbrev pub is_member : ℕ → List ℕ → Defined → Bool
is_member class name d = nat_eq d.number class && (is_plain d.routine.sig.role && same_name d.routine.sig.name name)

-- the first of them that is a member of this name
abbrev pub member_from : List Defined → ℕ → ℕ → List ℕ → Option ℕ
member_from [] r class name = None
member_from (d ∷ ds) r class name = if is_member class name d then Some r else member_from ds (suc r) class name

-- what builds or destroys the objects of the class with this place, where it is written
abbrev pub written_at : Program → ℕ → Role → Option ℕ
written_at p i wanted = role_from (routines_of p) 0 (number_at p i) wanted

-- Constructors and destructors that nobody wrote are routines too. They stand behind all that are written, those of a class before
-- those of the classes of its fields.

-- a constructor or a destructor, by the place of its class
pub record Unwritten : Type 0 where
  pub class : ℕ
  pub role : Role

abbrev pub object_height : (ℕ → ℕ) → Option FieldClass → ℕ
object_height heights None = 0
object_height heights (Some o) = suc (heights o.class)

abbrev pub tallest : (ℕ → ℕ) → List FieldLayout → ℕ
tallest heights [] = 0
tallest heights (h ∷ hs) = max (object_height heights h.object) (tallest heights hs)

-- how many classes deep a class is, so many classes deep at most
unfoldable pub height_within : ℕ → List ClassLayout → ℕ → ℕ
height_within zero rows i = 0
height_within (suc depth) rows i = tallest (height_within depth rows) (row_at rows i).held

abbrev pub class_height : Program → ℕ → ℕ
class_height p i = height_within (length (rows_of p)) (rows_of p) i

abbrev pub unwritten_by : Option ℕ → ℕ → Role → List Unwritten
unwritten_by None i r = record { class = i; role = r } ∷ []
unwritten_by (Some routine) i r = []

abbrev pub unwritten_at : Program → ℕ → List Unwritten
unwritten_at p i = unwritten_by (written_at p i role.Constructor) i role.Constructor ++ unwritten_by (written_at p i role.Destructor) i role.Destructor

-- those of the classes that are just so deep, the first of which has the place i
abbrev pub unwritten_of_height : Program → ℕ → List Class → ℕ → List Unwritten
unwritten_of_height p h [] i = []
unwritten_of_height p h (c ∷ cs) i =
    (if not (is_event c.kind) && nat_eq (class_height p i) h then unwritten_at p i else []) ++ unwritten_of_height p h cs (i + 1)

-- those of the classes that are at most so deep, the deepest first
abbrev pub unwritten_up_to : Program → ℕ → List Unwritten
unwritten_up_to p zero = unwritten_of_height p zero (classes_of p.items) 0
unwritten_up_to p (suc h) = unwritten_of_height p (suc h) (classes_of p.items) 0 ++ unwritten_up_to p h

abbrev pub unwritten_of : Program → List Unwritten
unwritten_of p = unwritten_up_to p (length (classes_of p.items))

abbrev pub place_among : List Unwritten → ℕ → Role → ℕ
place_among [] i wanted = 0
place_among (u ∷ us) i wanted = if nat_eq u.class i && same_role wanted u.role then 0 else suc (place_among us i wanted)

abbrev pub unwritten_number : Program → ℕ → Role → ℕ
unwritten_number p i wanted = length (routines_of p) + place_among (unwritten_of p) i wanted

-- the event that a base names, by its place among the classes, the first of which has the place i
abbrev pub event_from : List Class → ℕ → List ℕ → Option ℕ
event_from [] i name = None
event_from (c ∷ cs) i name = if same_name c.name name then (if is_event c.kind then Some i else None) else event_from cs (i + 1) name

abbrev pub event_place : Program → Base → Option ℕ
event_place p (base.Named name) = event_from (classes_of p.items) 0 name
event_place p _ = None
