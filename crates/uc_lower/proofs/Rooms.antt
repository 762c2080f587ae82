-- All routines together take no more ops than the size of their program allows.
use Rattle.std.proofs.Common.{◌≡◌, ℕ, ◌+◌, ◌*◌, ◌≤◌, List, [], ◌∷◌, Bool, true, false, Option, Some, None, if◌then◌else◌, length, refl, ap, ◌∙◌, arith}
use Rattle.std.specs.List.{list_any}
use Rattle.uc_tree.specs.declared.limits.TheConstants.{OPS_FOR_SIZE}
use Rattle.uc_tree.specs.declared.kinds.Role.{Role}
use Rattle.uc_tree.specs.declared.kinds.Role.TheVariants as role
use Rattle.uc_tree.specs.Names.{same_name}
use Rattle.uc_tree.specs.Expressions.{Expr}
use Rattle.uc_tree.specs.ExpressionSizes.{exprs_size}
use Rattle.uc_tree.specs.Sizes.{inits_size, program_size}
use Rattle.uc_tree.specs.Programs.{Init, Routine, Class, Program}
use Rattle.uc_tree.specs.Cells.{classes_of}
use Rattle.uc_tree.specs.Numbering.{Defined, is_event, is_mutex, routines_of}
use Rattle.uc_tree.specs.Objects.{ClassField, Unwritten, has_execution, class_at, fields_of, unwritten_at, unwritten_by, unwritten_of, written_at}
use Rattle.uc_resolve.specs.Resolve.{class_by, place_by}
use Rattle.uc_rules.specs.declared.rules.OwnClass.{OwnClass}
use Rattle.uc_rules.specs.Breaks.{breaks_among, breaks_of}
use Rattle.uc_rules.specs.ProgramVisits.{items_visits, members_visits}
use Rattle.uc_rules.specs.Scopes.{class_around, plain_env}
use Rattle.uc_rules.specs.Visits.{AtClass, AtProgram}
use Rattle.uc_lower_class.specs.Bodies.{builder_room, part_end, role_room, unwritten_room}
use Rattle.uc_lower_class.specs.Fields.{all_room, enliven_room, fields_room, forget_count, left_room, live_room, mutex_count, own_close, room_by, set_up_room, start_room, take_down_room}
use Rattle.uc_lower_class.specs.Inits.{init_exprs}
use Rattle.uc_lower.specs.RoutineLayout.{own_room, role_room_of, routine_room, unwritten_rooms, written_room}
use Rattle.uc_lower.proofs.Ruled.{class_none, rest_none}
use Rattle.uc_lower.proofs.Costs.{class_sizes, fields_cost, fields_few, fields_size, length_cost, own_size, owns, size_split}
use Rattle.uc_lower.proofs.Distinct.{Fresh, init_size, inits_few, named_sizes, none_named}
use Rattle.uc_lower.proofs.Named.{all_fresh, names_of}
use Rattle.uc_lower.proofs.Owed.{all_owed, none_written, one, owed_few, paid}
use Rattle.uc_lower.proofs.Placed.{belongs}
use Rattle.uc_lower.proofs.Apart.{routines_apart}
use Rattle.uc_lower.proofs.Sums.{all_weight, class_weight, sum, sum_add, sum_le_at, weight, weight_join}

-- the execution of a coroutine costs as much in its constructor, and in its destructor as much as the end of a mutex object and an op more

abbrev execution_cost : Bool → ℕ
execution_cost true = 8
execution_cost false = 0

abbrev end_cost : Bool → ℕ
end_cost true = own_close
end_cost false = 0

abbrev destruction_cost : Bool → ℕ
destruction_cost true = own_close + 1
destruction_cost false = 0

-- what is counted by a class has room for both
kind_few : (m e : Bool) → execution_cost e + (end_cost m + destruction_cost e) + (part_end + 1) + 1 ≤ 64
kind_few true true = omega arith
kind_few true false = omega arith
kind_few false true = omega arith
kind_few false false = omega arith

execution_is : (b : Bool) → set_up_room b + start_room b + enliven_room b ≡ execution_cost b
execution_is true = refl
execution_is false = refl

end_is : (b : Bool) → own_close * mutex_count b ≡ end_cost b
end_is true = refl
end_is false = refl

destruction_is : (b : Bool) → own_close * forget_count b + take_down_room b ≡ destruction_cost b
destruction_is true = refl
destruction_is false = refl

abbrev cost : Role → Option Class → ℕ
cost role.Plain o = 0
cost role.Constructor None = 0
cost role.Constructor (Some c) = fields_cost (fields_of c.members) + execution_cost (has_execution c.kind)
cost role.Destructor None = 0
cost role.Destructor (Some c) = 48 * length (fields_of c.members) + (end_cost (is_mutex c.kind) + destruction_cost (has_execution c.kind))

cost_plain : (o : Option Class) → cost role.Plain o ≡ 0
cost_plain o = refl

cost_none : (r : Role) → cost r None ≡ 0
cost_none role.Plain = refl
cost_none role.Constructor = refl
cost_none role.Destructor = refl

-- the ops of the fields of a class

init_is : (is : List Init) (name : List ℕ) → exprs_size (init_exprs is name) ≡ init_size is name
init_is [] name = refl
init_is (x ∷ xs) name = by_case (same_name x.name name) (init_is xs name)
  where
    by_case : (b : Bool) → exprs_size (init_exprs xs name) ≡ init_size xs name → exprs_size (if b then x.args else init_exprs xs name) ≡ (if b then exprs_size x.args else init_size xs name)
    by_case true more = refl
    by_case false more = more

length_is : (f : ClassField) → room_by f.declarator.len ≡ length_cost f.declarator.len
length_is f = by_length f.declarator.len
  where
    by_length : (o : Option Expr) → room_by o ≡ length_cost o
    by_length None = refl
    by_length (Some e) = refl

fields_are : (is : List Init) (fs : List ClassField) → fields_room is fs ≡ fields_cost fs + 64 * named_sizes is (names_of fs)
fields_are is [] = refl
fields_are is (f ∷ fs) =
    let a = length_is f in
    let b = init_is is f.declarator.name in
    let h = fields_are is fs in
    omega (arith, a, b, h)

no_inits : (fs : List ClassField) → fields_room [] fs ≡ fields_cost fs
no_inits fs = let a = fields_are [] fs in let b = none_named (names_of fs) in omega (arith, a, b)

if_few : (t : Bool) (k : ℕ) → (if t then k else 0) ≤ k
if_few true k = omega arith
if_few false k = omega arith

module _ (p : Program) (none : breaks_of p ≡ []) where
  quiet : breaks_among (items_visits p 0 0 p.items) ≡ []
  quiet = rest_none (AtProgram p) (items_visits p 0 0 p.items) none

  fresh_fields : (i : ℕ) (c : Class) → class_at p i ≡ Some c → Fresh [] (names_of (fields_of c.members))
  fresh_fields i c e =
      let h : OwnClass = record { class = 0 + i; kind = c.kind } in
      let class = class_none p p.items 0 0 i c quiet e in
      all_fresh p h c [] c.members refl (rest_none (AtClass (plain_env p (class_around h)) c (0 + i)) (members_visits p h c 0 c.members) class)

  -- a written routine

  built_few : (r : Routine) (place : Option ℕ) → all_room r.inits (class_by p place) + live_room (class_by p place) ≤ cost role.Constructor (class_by p place) + 64 * inits_size r.inits
  built_few r None = omega arith
  built_few r (Some i) = by_class (class_at p i) refl
    where
      by_class : (o : Option Class) → class_at p i ≡ o → all_room r.inits o + live_room o ≤ cost role.Constructor o + 64 * inits_size r.inits
      by_class None e = omega arith
      by_class (Some c) e =
          let a = fields_are r.inits (fields_of c.members) in
          let b = inits_few r.inits (names_of (fields_of c.members)) (fresh_fields i c e) in
          let d = execution_is (has_execution c.kind) in
          omega (arith, a, b, d)

  left_is : (o : Option Class) → left_room o ≡ cost role.Destructor o
  left_is None = refl
  left_is (Some c) = let d = destruction_is (has_execution c.kind) in let e = end_is (is_mutex c.kind) in omega (arith, d, e)

  routine_few : (d : Defined) (r : Role) → d.routine.sig.role ≡ r → routine_room p d ≤ cost r (class_by p (place_by p d)) + 64 * (1 + own_size d.routine)
  routine_few d role.Plain e =
      let is : routine_room p d ≡ role_room_of p role.Plain d = ap (λ (r : Role). role_room_of p r d) e in
      omega (arith, is)
  routine_few d role.Constructor e =
      let is : routine_room p d ≡ builder_room p d.routine (place_by p d) = ap (λ (r : Role). role_room_of p r d) e in
      let builder : builder_room p d.routine (place_by p d) ≡ role_room p role.Constructor (place_by p d) d.routine + 1 = ap (λ (r : Role). role_room p r (place_by p d) d.routine + 1) e in
      let h = built_few d.routine (place_by p d) in
      omega (arith, is, builder, h)
  routine_few d role.Destructor e =
      let is : routine_room p d ≡ builder_room p d.routine (place_by p d) = ap (λ (r : Role). role_room_of p r d) e in
      let builder : builder_room p d.routine (place_by p d) ≡ role_room p role.Destructor (place_by p d) d.routine + 1 = ap (λ (r : Role). role_room p r (place_by p d) d.routine + 1) e in
      let h = left_is (class_by p (place_by p d)) in
      omega (arith, is, builder, h)

  written_few : (ds : List Defined) → written_room p ds ≤ all_owed p cost cost_plain cost_none ds + 64 * owns ds
  written_few [] = omega arith
  written_few (d ∷ ds) =
      let a = routine_few d d.routine.sig.role refl in
      let b = written_few ds in
      omega (arith, a, b)

  -- those that nobody wrote

  same_weight : (us : List Unwritten) → unwritten_rooms p us ≡ weight p (own_room p) us
  same_weight [] = refl
  same_weight (u ∷ us) = ap (λ n. own_room p u + n) (same_weight us)

  -- one of them, written or not
  one_few : (k : ℕ) (r : Role) (i : ℕ) (c : Class) → class_at p i ≡ Some c → is_event c.kind ≡ false → own_room p (record { class = i; role = r }) ≤ cost r (Some c) + k → (o : Option ℕ) → written_at p i r ≡ o → one p cost cost_plain cost_none (routines_of p) r c i + weight p (own_room p) (unwritten_by o i r) ≤ cost r (Some c) + k
  one_few k r i c e v l None w =
      let nobody = none_written p i c r e v [] (routines_of p) 0 (routines_apart p none) w in
      let nothing : one p cost cost_plain cost_none (routines_of p) r c i ≡ 0 = ap (λ (t : Bool). if t then cost r (Some c) else 0) nobody in
      omega (arith, l, nothing)
  one_few k r i c e v l (Some n) w = let few = if_few (list_any (belongs p i r) (routines_of p)) (cost r (Some c)) in omega (arith, few)

  builds_few : (i : ℕ) (c : Class) → class_at p i ≡ Some c → own_room p (record { class = i; role = role.Constructor }) ≤ cost role.Constructor (Some c) + (part_end + 1)
  builds_few i c e =
      let a : own_room p (record { class = i; role = role.Constructor }) ≡ unwritten_room role.Constructor (Some c) + 1 = ap (λ (o : Option Class). unwritten_room role.Constructor o + 1) e in
      let b = no_inits (fields_of c.members) in
      let f = execution_is (has_execution c.kind) in
      let d : unwritten_room role.Constructor (Some c) ≡ all_room [] (Some c) + live_room (Some c) + part_end = refl in
      omega (arith, a, b, d, f)

  destroys_few : (i : ℕ) (c : Class) → class_at p i ≡ Some c → own_room p (record { class = i; role = role.Destructor }) ≤ cost role.Destructor (Some c) + 1
  destroys_few i c e =
      let a : unwritten_room role.Destructor (class_at p i) ≡ unwritten_room role.Destructor (Some c) = ap (unwritten_room role.Destructor) e in
      let d = left_is (Some c) in
      omega (arith, a, d)

  -- nobody but its written constructor builds an event
  class_few : (i : ℕ) (c : Class) → class_at p i ≡ Some c → paid p cost cost_plain cost_none (routines_of p) c i + class_weight p (own_room p) c i ≤ 64 * (1 + fields_size (fields_of c.members))
  class_few i c e = by_kind (is_event c.kind) refl
    where
      by_kind : (v : Bool) → is_event c.kind ≡ v → paid p cost cost_plain cost_none (routines_of p) c i + (if v then 0 else weight p (own_room p) (unwritten_at p i)) ≤ 64 * (1 + fields_size (fields_of c.members))
      by_kind true v =
          let a = if_few (list_any (belongs p i role.Constructor) (routines_of p)) (cost role.Constructor (Some c)) in
          let b = if_few (list_any (belongs p i role.Destructor) (routines_of p)) (cost role.Destructor (Some c)) in
          let f = fields_few (fields_of c.members) in
          let g = kind_few (is_mutex c.kind) (has_execution c.kind) in
          omega (arith, a, b, f, g)
      by_kind false v =
          let j = weight_join p (own_room p) (unwritten_by (written_at p i role.Constructor) i role.Constructor) (unwritten_by (written_at p i role.Destructor) i role.Destructor) in
          let a = one_few (part_end + 1) role.Constructor i c e v (builds_few i c e) (written_at p i role.Constructor) refl in
          let b = one_few 1 role.Destructor i c e v (destroys_few i c e) (written_at p i role.Destructor) refl in
          let f = fields_few (fields_of c.members) in
          let g = kind_few (is_mutex c.kind) (has_execution c.kind) in
          omega (arith, j, a, b, f, g)

  sizes_are : (cs : List Class) (i : ℕ) → sum (λ c i. 64 * (1 + fields_size (fields_of c.members))) cs i ≡ 64 * class_sizes cs
  sizes_are [] i = refl
  sizes_are (c ∷ cs) i = let h = sizes_are cs (i + 1) in omega (arith, h)

  pub rooms_fit : written_room p (routines_of p) + unwritten_rooms p (unwritten_of p) ≤ OPS_FOR_SIZE * program_size p
  rooms_fit =
      let w = written_few (routines_of p) in
      let o = owed_few p cost cost_plain cost_none (routines_of p) (routines_apart p none) in
      let s = same_weight (unwritten_of p) in
      let u = all_weight p (own_room p) in
      let join = sum_add (paid p cost cost_plain cost_none (routines_of p)) (class_weight p (own_room p)) (classes_of p.items) 0 in
      let each = sum_le_at (λ c i. paid p cost cost_plain cost_none (routines_of p) c i + class_weight p (own_room p) c i) (λ c i. 64 * (1 + fields_size (fields_of c.members))) (classes_of p.items) 0
      (λ k c e. let z : 0 + k ≡ k = omega arith in class_few (0 + k) c (ap (class_at p) z ∙ e)) in
      let sizes = sizes_are (classes_of p.items) 0 in
      let split = size_split p in
      omega (arith, w, o, s, u, join, each, sizes, split)
