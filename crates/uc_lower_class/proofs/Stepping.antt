-- One field of a class, as the loops over them meet it.
use Rattle.std.proofs.Common.{◌≡◌, ℕ, zero, suc, ◌+◌, ◌*◌, ◌≤◌, ◌<◌, List, [], ◌∷◌, Bool, true, false, true≢false, Option, Some, None, if◌then◌else◌, drop, length, refl, ap, sym, subst, ◌∙◌, arith}
use Rattle.std.specs.Prelude.{option_map, slice_get}
use Rattle.uc_tree.specs.declared.limits.TheConstants.{OPS_FOR_SIZE, PROGRAM_OPS}
use Rattle.uc_tree.specs.declared.kinds.Role.{Role}
use Rattle.uc_tree.specs.Expressions.{Exprs}
use Rattle.uc_tree.specs.ExpressionSizes.{exprs_size}
use Rattle.uc_tree.specs.Programs.{Class, Init, Program}
use Rattle.uc_tree.specs.Cells.{leading_cells}
use Rattle.uc_tree.specs.Objects.{Making, ClassField, class_at, class_made, fields_of, making}
use Rattle.uc_resolve.specs.Resolve.{Meant, Scope, args_meant, context_at, field_making}
use Rattle.uc_code.specs.declared.rows.CodeMark.{CodeMark}
use Rattle.uc_code.specs.declared.rows.Cleaning.{Cleaning}
use Rattle.uc_code.specs.Drafts.{Draft}
use Rattle.uc_code.specs.Layout.{routine_in}
use Rattle.uc_lower_expr.specs.Contexts.{context_in}
use Rattle.uc_lower_expr.specs.Members.{HasClass, IsFieldAt, IsNthField, made_routine, no_field_at}
use Rattle.uc_lower_expr.specs.declared.fields.Field.{Field}
use Rattle.uc_lower_expr.specs.declared.making.Made.{Made}
use Rattle.uc_lower_expr.specs.declared.making.Made.TheVariants as made
use Rattle.uc_lower_expr.specs.Meanings.{is_mutex_at, making_of}
use Rattle.uc_lower_expr.proofs.Knowing.{class_told, made_class}
use Rattle.uc_lower_stmt.specs.LowersStatement.{scope_of}
use Rattle.uc_lower_class.specs.declared.parts.ObjectPart.{ObjectPart}
use Rattle.uc_lower_class.specs.Inits.{init_exprs}
use Rattle.uc_lower_class.specs.Fields.{FieldsBehind, PartBehind, field_then, fields_room, left_then, part_in, part_room, room_by}
use Rattle.uc_lower_class.specs.OpenParts.{Constructs, Opens}
use Rattle.uc_lower_class.proofs.Fielding.{field_made, told_length}
use Rattle.uc_lower_class.proofs.Looping.{Building, Leaving, building_step, drop_at, field_past, leaving_step, room_same}
use Rattle.uc_lower_class.proofs.Parting.{constructs_as}

-- the field with a place in the class c with the place i
pub record Nth (p : Program) (c : Class) (i place : ℕ) (v : Field) : Type 0 where
  pub field : ClassField
  pub is : slice_get (fields_of c.members) place ≡ Some field
  pub at : IsFieldAt p c i (leading_cells c.kind + place) field v

nth_in : (p : Program) (c : Class) (i place : ℕ) (v : Field) (n : IsNthField p i place v) → n.class ≡ c → Nth p c i place v
nth_in p c i place v n e =
    subst (λ (d : Class). Nth p d i place v) e (record { field = n.field; is = n.is; at = n.at })

pub nth_here : (p : Program) (c : Class) (i place : ℕ) (v : Field) → class_at p i ≡ Some c → IsNthField p i place v → Nth p c i place v
nth_here p c i place v e n =
    let both : Some n.class ≡ Some c = sym n.there ∙ e in
    let same : n.class ≡ c = cc in
    nth_in p c i place v n same

pub nth_none : (p : Program) (c : Class) (i place : ℕ) → class_at p i ≡ Some c → no_field_at place (class_at p i) → length (fields_of c.members) ≤ place
nth_none p c i place e h = field_past (fields_of c.members) place (subst (λ (o : Option Class). no_field_at place o) e h)

module _ (p : Program) (c : Class) (i place : ℕ) (v : Field) (n : Nth p c i place v) where
  abbrev fs : List ClassField
  fs = fields_of c.members

  pub class_few : (m : Made) → v.made ≡ Some m → HasClass p m
  class_few m e = made_class p n.field.base m (n.at.made ∙ ap (λ (o : Option Made). option_map (making_of p) o) e)

  -- the class of an object that a field is
  class_case : (r : Bool) (o : Option Making) → (let x : Option ℕ = if r then None else class_made o in x) ≡ class_made (if r then None else o)
  class_case true o = refl
  class_case false o = refl

  made_behind : (there : class_at p i ≡ Some c) (number : ℕ) → FieldsBehind p i number → (m : Made) → field_making p n.field ≡ Some (making_of p m) → (wanted : Role) → (made_routine p wanted m).written ≡ false → number < (made_routine p wanted m).number
  made_behind there number b (made.Object j) h wanted unwritten =
      b.each c place n.field j there n.is (class_case n.field.declarator.by_ref (making p n.field.base) ∙ (ap class_made h ∙ class_told j (is_mutex_at p j))) wanted unwritten
  made_behind there number b made.Cluster h wanted unwritten = absurd (true≢false unwritten)
  made_behind there number b made.Processor h wanted unwritten = absurd (true≢false unwritten)

  behind_by : (there : class_at p i ≡ Some c) (number : ℕ) (ms : List CodeMark) → FieldsBehind p i number → routine_in ms ≡ number → (o : Option ObjectPart) → part_in v ≡ o → PartBehind p ms o
  behind_by there number ms b e None h = tt
  behind_by there number ms b e (Some part) h = record {
    each = λ wanted unwritten. let l = made_behind there number b part.made (field_made p c i (leading_cells c.kind + place) n.field v n.at part h) wanted unwritten in omega (arith, l, e);
  }

  pub part_stands : (there : class_at p i ≡ Some c) (number : ℕ) (ms : List CodeMark) → FieldsBehind p i number → routine_in ms ≡ number → PartBehind p ms (part_in v)
  part_stands there number ms b e = behind_by there number ms b e (part_in v) refl

  room_of : part_room v.told.elements ≡ room_by n.field.declarator.len
  room_of = room_same p c i n.field v.told.elements (told_length p c i (leading_cells c.kind + place) n.field v n.at)

  pub room_left : (inits : List Init) (args : Exprs) (name : List ℕ) → args ≡ init_exprs inits name → name ≡ n.field.declarator.name → fields_room inits (drop place fs) ≡ OPS_FOR_SIZE * exprs_size args + part_room v.told.elements + fields_room inits (drop (place + 1) fs)
  room_left inits args name a e =
      let split : fields_room inits (drop place fs) ≡ fields_room inits (n.field ∷ drop (place + 1) fs) = ap (fields_room inits) (drop_at fs place n.field n.is) in
      let size : exprs_size args ≡ exprs_size (init_exprs inits n.field.declarator.name) = ap exprs_size (a ∙ ap (init_exprs inits) e) in
      let room = room_of in
      omega (arith, split, size, room)

  pub build_next : (inits : List Init) (args : Exprs) (name : List ℕ) (ws us vs : List Cleaning) (old now mid : Draft) → args ≡ init_exprs inits name → name ≡ n.field.declarator.name → Building p c i inits (scope_of old) ws old place us now
      → ((c : Class) (i number : ℕ) (f : ClassField) → IsFieldAt p c i number f v → Constructs (OPS_FOR_SIZE * exprs_size args + part_room v.told.elements) (field_then p c i number f (args_meant (context_in p now) args)) us now vs mid) → Building p c i inits (scope_of old) ws old (place + 1) vs mid
  build_next inits args name ws us vs old now mid a e b h =
      let one = h c i (leading_cells c.kind + place) n.field n.at in
      let room = room_of in
      let values : args ≡ init_exprs inits n.field.declarator.name = a ∙ ap (init_exprs inits) e in
      let size : exprs_size args ≡ exprs_size (init_exprs inits n.field.declarator.name) = ap exprs_size values in
      let scope : scope_of now ≡ scope_of old = ap scope_of b.same in
      let meant : args_meant (context_in p now) args ≡ args_meant (context_at p (scope_of old)) (init_exprs inits n.field.declarator.name) = ap (λ (s : Scope). args_meant (context_at p s) args) scope ∙ ap (args_meant (context_at p (scope_of old))) values in
      building_step p c i inits (scope_of old) ws old place us now n.field vs mid b n.is (
      constructs_as one (omega (arith, size, room)) (λ ss. ap (λ (ms : List Meant). field_then p c i (leading_cells c.kind + place) n.field ms ss) meant))

  pub leave_next : (old now mid : Draft) → Leaving p c i old place now → ((c : Class) (i number : ℕ) (f : ClassField) → IsFieldAt p c i number f v → Opens 1 (left_then p c i number f) now mid) → Leaving p c i old (place + 1) mid
  leave_next old now mid b h = leaving_step p c i old place now n.field mid b n.is (h c i (leading_cells c.kind + place) n.field n.at)

-- one turn

pub none_here : (p : Program) (c : Class) (i place : ℕ) (f : ClassField) → class_at p i ≡ Some c → no_field_at place (class_at p i) → slice_get (fields_of c.members) place ≡ Some f → ⊥
none_here p c i place f e h is =
    let none : slice_get (fields_of c.members) place ≡ None = subst (λ (o : Option Class). no_field_at place o) e h in
    let both : None ≡ Some f = sym none ∙ is in
    cc

pub built_here : {ws us : List Cleaning} {old new : Draft} → (p : Program) (c : Class) (i place : ℕ) (v : Field) (n : Nth p c i place v) (f : ClassField) (size : ℕ) (args : List Meant) → slice_get (fields_of c.members) place ≡ Some f
    → ((c : Class) (i number : ℕ) (f : ClassField) → IsFieldAt p c i number f v → Constructs (size + part_room v.told.elements) (field_then p c i number f args) ws old us new) → Constructs (size + room_by f.declarator.len) (field_then p c i (leading_cells c.kind + place) f args) ws old us new
built_here {ws} {us} {old} {new} p c i place v n f size args is h =
    let both : Some n.field ≡ Some f = sym n.is ∙ is in
    let same : n.field ≡ f = cc in
    let room = room_of p c i place v n in
    subst (λ (g : ClassField). Constructs (size + room_by g.declarator.len) (field_then p c i (leading_cells c.kind + place) g args) ws old us new) same (constructs_as (h c i (leading_cells c.kind + place) n.field n.at) (omega (arith, room)) (λ ss. refl))

pub left_here : {old new : Draft} → (p : Program) (c : Class) (i place : ℕ) (v : Field) (n : Nth p c i place v) (f : ClassField) → slice_get (fields_of c.members) place ≡ Some f
    → ((c : Class) (i number : ℕ) (f : ClassField) → IsFieldAt p c i number f v → Opens 1 (left_then p c i number f) old new) → Opens 1 (left_then p c i (leading_cells c.kind + place) f) old new
left_here {old} {new} p c i place v n f is h =
    let both : Some n.field ≡ Some f = sym n.is ∙ is in
    let same : n.field ≡ f = cc in
    subst (λ (g : ClassField). Opens 1 (left_then p c i (leading_cells c.kind + place) g) old new) same (h c i (leading_cells c.kind + place) n.field n.at)

pub room_here : (p : Program) (i place most size : ℕ) (v : Field) (n : IsNthField p i place v) → ((c : Class) (f : ClassField) → class_at p i ≡ Some c → slice_get (fields_of c.members) place ≡ Some f → most + (size + room_by f.declarator.len) ≤ PROGRAM_OPS) → most + (size + part_room v.told.elements) ≤ PROGRAM_OPS
room_here p i place most size v n h =
    let few = h n.class n.field n.there n.is in
    let room = room_same p n.class i n.field v.told.elements (told_length p n.class i (leading_cells n.class.kind + place) n.field v n.at) in
    omega (arith, few, room)

pub record There (fs : List ClassField) (k : ℕ) : Type 0 where
  pub field : ClassField
  pub is : slice_get fs k ≡ Some field

pub there_is : (fs : List ClassField) (k : ℕ) → k < length fs → There fs k
there_is [] k h = absurd (omega arith)
there_is (f ∷ fs) zero h = record { field = f; is = refl }
there_is (f ∷ fs) (suc k) h = let t = there_is fs k (omega arith) in record { field = t.field; is = t.is }

module _ (p : Program) (c : Class) (i place : ℕ) (f : ClassField) (is : slice_get (fields_of c.members) place ≡ Some f) where
  pub turn_room : (inits : List Init) (args : Exprs) (name : List ℕ) → args ≡ init_exprs inits name → name ≡ f.declarator.name → fields_room inits (drop place (fields_of c.members)) ≡ OPS_FOR_SIZE * exprs_size args + room_by f.declarator.len + fields_room inits (drop (place + 1) (fields_of c.members))
  turn_room inits args name a e =
      let split : fields_room inits (drop place (fields_of c.members)) ≡ fields_room inits (f ∷ drop (place + 1) (fields_of c.members)) = ap (fields_room inits) (drop_at (fields_of c.members) place f is) in
      let size : exprs_size args ≡ exprs_size (init_exprs inits f.declarator.name) = ap exprs_size (a ∙ ap (init_exprs inits) e) in
      omega (arith, split, size)

  pub build_turn : (inits : List Init) (args : Exprs) (name : List ℕ) (ws us vs : List Cleaning) (old now mid : Draft) → args ≡ init_exprs inits name → name ≡ f.declarator.name → Building p c i inits (scope_of old) ws old place us now
      → Constructs (OPS_FOR_SIZE * exprs_size args + room_by f.declarator.len) (field_then p c i (leading_cells c.kind + place) f (args_meant (context_in p now) args)) us now vs mid → Building p c i inits (scope_of old) ws old (place + 1) vs mid
  build_turn inits args name ws us vs old now mid a e b one =
      let values : args ≡ init_exprs inits f.declarator.name = a ∙ ap (init_exprs inits) e in
      let size : exprs_size args ≡ exprs_size (init_exprs inits f.declarator.name) = ap exprs_size values in
      let scope : scope_of now ≡ scope_of old = ap scope_of b.same in
      let meant : args_meant (context_in p now) args ≡ args_meant (context_at p (scope_of old)) (init_exprs inits f.declarator.name) = ap (λ (s : Scope). args_meant (context_at p s) args) scope ∙ ap (args_meant (context_at p (scope_of old))) values in
      building_step p c i inits (scope_of old) ws old place us now f vs mid b is (constructs_as one (omega (arith, size)) (λ ss. ap (λ (ms : List Meant). field_then p c i (leading_cells c.kind + place) f ms ss) meant))

pub same_class : (p : Program) (i : ℕ) (c d : Class) → class_at p i ≡ Some c → class_at p i ≡ Some d → c ≡ d
same_class p i c d e f = let both : Some c ≡ Some d = sym e ∙ f in cc
