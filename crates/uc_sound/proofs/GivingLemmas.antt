-- Every expression that breaks no rule gives something.
use Rattle.std.proofs.Common.{◌≡◌, ℕ, ◌⊎◌, inl, inr, List, [], ◌∷◌, Option, Some, None, Bool, true, false, refl, sym, subst}
use Rattle.std.specs.Prelude.{if◌then◌else◌, ◌&&◌, option_and_then}
use Rattle.uc_tree.specs.declared.kinds.LocalVariable.{LocalVariable}
use Rattle.uc_tree.specs.declared.ops.UnaryOp.{UnaryOp}
use Rattle.uc_tree.specs.declared.ops.UnaryOp.TheVariants as unary
use Rattle.uc_tree.specs.declared.ops.BinaryOp.{BinaryOp}
use Rattle.uc_tree.specs.declared.ops.BinaryOp.TheVariants as binary
use Rattle.uc_tree.specs.Names.{same_name, fail_name}
use Rattle.uc_tree.specs.Expressions as expr
use Rattle.uc_tree.specs.Source.{Expr}
use Rattle.uc_tree.specs.Programs.{Sig as Declared, Program}
use Rattle.uc_resolve.specs.Standings as tree
use Rattle.uc_resolve.specs.Standings.{AsValue, meant}
use Rattle.uc_rules.specs.declared.rules.Entity.{Entity}
use Rattle.uc_rules.specs.declared.rules.Entity.TheVariants as entity
use Rattle.uc_rules.specs.declared.rules.Operation.{Operation}
use Rattle.uc_rules.specs.declared.rules.Operation.TheVariants as operation
use Rattle.uc_rules.specs.declared.rules.NameMeaning.{NameMeaning}
use Rattle.uc_rules.specs.declared.rules.LocalName.{LocalName}
use Rattle.uc_rules.specs.declared.rules.Sort.{Sort}
use Rattle.uc_rules.specs.declared.rules.Sort.TheVariants as sort
use Rattle.uc_rules.specs.Sorts.{is_scalar_sort, is_condition, sort_of}
use Rattle.uc_rules.specs.Names.{routine_sig, method_sig}
use Rattle.uc_rules.specs.Scopes as scopes
use Rattle.uc_rules.specs.Scopes.{Env, named, named_behind, local_named}
use Rattle.uc_rules.specs.Entities as rules
use Rattle.uc_rules.specs.Entities.{entity_of, parts_entity, part_entity, chain_entity, link_entity, meant_entity, is_scalar, of_scalar, of_both, both_scalars, of_place, of_index, of_assign, value_of, assigned, element, call_follows, path_member, built_in, condition_member, operation_named, operation_entity, open_entity, entity_by_path, is_open, member_entity, other_member, of_field, of_call, given, sig_gives, value_of_sort, call_target, count, may_call, are_sound}
use Rattle.uc_rules.specs.Visits.{visits}
use Rattle.uc_rules.specs.OwnerBreaks.{names_condition}
use Rattle.uc_typing.specs.Typing.{Num, Obj, Name, Sig, Table, IsInside, Yields, Fine}
use Rattle.uc_sound.specs.Agreement.{found_ty, row_ty, IsAsValue, ValuedBy, Agrees, AgreesIf, Tied, context}
use Rattle.uc_sound.specs.Unbroken.{Unbroken, Stands, IsKnown}
use Rattle.uc_sound.proofs.Ties.{some_same, none_some, false_true, law_agrees}
use Rattle.uc_sound.proofs.UnbrokenLemmas.{stands}
use Rattle.uc_sound.specs.Rooted.{IsStood, AreStood, Within, root_named}

-- no member that is not there
abbrev IsThere : Option Entity → Type 0
IsThere (Some entity.Missing) = ⊥
IsThere _ = Unit {0}

stood_there : (o : Option Entity) → IsStood o → IsThere o
stood_there None h = absurd h
stood_there (Some entity.Missing) h = h
stood_there (Some _) h = tt

pub stood_stands : (o : Option Entity) → IsStood o → Stands o
stood_stands None h = absurd h
stood_stands (Some w) h = (w, refl)

if_there : (b : Bool) (o : Option Entity) → IsThere o → IsThere (if b then o else None)
if_there true o h = h
if_there false o h = tt

scalar_there : (o : Option Entity) (s : Sort) → IsThere (of_scalar o (entity.Value s))
scalar_there None s = tt
scalar_there (Some w) s = if_there (is_scalar w) (Some (entity.Value s)) tt

value_there : (w : Entity) → IsThere (value_of w)
value_there (entity.Place s) = if_there (is_scalar_sort s) (Some (entity.Value s)) tt
value_there _ = tt

place_there : (o : Option Entity) → IsThere (of_place o)
place_there None = tt
place_there (Some w) = value_there w

both_there : (o u : Option Entity) (w : Entity) → IsThere (Some w) → IsThere (of_both both_scalars o u w)
both_there None u w h = tt
both_there (Some x) None w h = tt
both_there (Some x) (Some y) w h = if_there (both_scalars x y) (Some w) h

gives_there : (op : BinaryOp) → IsThere (Some (rules.binary_gives op))
gives_there binary.Or = tt
gives_there binary.And = tt
gives_there binary.Equal = tt
gives_there binary.NotEqual = tt
gives_there binary.Less = tt
gives_there binary.LessEqual = tt
gives_there binary.Greater = tt
gives_there binary.GreaterEqual = tt
gives_there binary.Add = tt
gives_there binary.Sub = tt
gives_there binary.Mul = tt
gives_there binary.Div = tt
gives_there binary.Rem = tt

unary_there : (op : UnaryOp) (o : Option Entity) → IsThere (rules.unary_entity op o)
unary_there unary.Minus o = scalar_there o sort.Int
unary_there unary.Plus o = scalar_there o sort.Int
unary_there unary.Not o = scalar_there o sort.Bool
unary_there unary.Increment o = place_there o
unary_there unary.Decrement o = place_there o

element_there : (w : Entity) → IsThere (element w)
element_there (entity.Array s n) = tt
element_there _ = tt

index_there : (o u : Option Entity) → IsThere (of_index o u)
index_there None u = tt
index_there (Some w) None = tt
index_there (Some w) (Some v) = if_there (is_scalar v) (element w) (element_there w)

assign_there : (o u : Option Entity) → IsThere (of_assign o u)
assign_there None u = tt
assign_there (Some w) None = tt
assign_there (Some w) (Some v) = if_there (is_scalar v) (value_of w) (value_there w)

sort_there : (o : Option Sort) → IsThere (option_and_then value_of_sort o)
sort_there None = tt
sort_there (Some s) = tt

sig_there : (p : Program) (o : Option Declared) → IsThere (sig_gives p o)
sig_there p None = tt
sig_there p (Some sig) = sort_there (sort_of p sig.ret)

operation_there : (o : Operation) → IsThere (Some (rules.operation_gives o))
operation_there operation.Wait = tt
operation_there operation.Signal = tt
operation_there operation.SignalBlock = tt
operation_there operation.Front = tt
operation_there operation.Empty = tt

given_there : (p : Program) (w : Entity) → IsThere (given p w)
given_there p entity.Fail = tt
given_there p (entity.Operation o) = operation_there o
given_there p (entity.Routine i) = sig_there p (routine_sig p i)
given_there p (entity.Method i j inner path) = sig_there p (method_sig p i j)
given_there p _ = tt

call_there : (p : Program) (sound : Bool) (n : ℕ) (o : Option Entity) → IsThere (of_call p sound n o)
call_there p sound n None = tt
call_there p sound n (Some w) = if_there (sound && may_call p n w) (given p w) (given_there p w)

by_path_there : (o : Option Entity) → IsThere o → IsThere (entity_by_path o)
by_path_there None h = tt
by_path_there (Some entity.Missing) h = h
by_path_there (Some (entity.Method i j inner path)) h = tt
by_path_there (Some _) h = tt

operation_member_there : (o : Option Operation) → IsThere (option_and_then (λ o. Some (operation_entity o)) o)
operation_member_there None = tt
operation_member_there (Some o) = tt

built_there : (w : Entity) (name : List ℕ) → IsThere (built_in w name)
built_there (entity.Place sort.Condition) name = operation_member_there (operation_named name)
built_there (entity.Place _) name = tt
built_there entity.Input name = if_there (same_name name fail_name) (Some entity.Fail) tt
built_there _ name = tt

other_there : (name : List ℕ) (w : Entity) (o : Option Entity) → IsThere o → IsThere (other_member false name w o)
other_there name w (Some e) h = h
other_there name w None h = none_there (rules.is_object w)
  where
    none_there : (b : Bool) → IsThere (if b then None else rules.of_missing false)
    none_there true = tt
    none_there false = tt

module _ (env : Env) (names : (name : List ℕ) (m : NameMeaning) → named env name ≡ Some m → IsStood m.entity) (members : (w : Entity) (name : List ℕ) (m : NameMeaning) → path_member env.program w name ≡ Some m → IsStood m.entity) where
  member_there : (name : List ℕ) (w : Entity) (o : Option NameMeaning) → ((m : NameMeaning) → o ≡ Some m → IsStood m.entity) → IsThere (member_entity env false name w o)
  member_there name w (Some m) f = if_there (is_open env.around.home m.origin) (entity_by_path m.entity) (by_path_there m.entity (stood_there m.entity (f m refl)))
  member_there name w None f = other_there name w (built_in w name) (built_there w name)

  field_there : (name : List ℕ) (o : Option Entity) → IsThere (of_field env false name o)
  field_there name None = tt
  field_there name (Some w) = member_there name w (path_member env.program w name) (members w name)

  named_there : (o : Option NameMeaning) → ((m : NameMeaning) → o ≡ Some m → IsStood m.entity) → IsThere (meant_entity o)
  named_there None f = tt
  named_there (Some m) f = stood_there m.entity (f m refl)

  called_or : (name : List ℕ) (o : Option Entity) (b : Bool) → IsThere (of_field env b name o) ⊎ (b ≡ true)
  called_or name o true = inr refl
  called_or name o false = inl (field_there name o)

  part_there : (part : expr.Part) (rest : expr.Parts) (o : Option Entity) → IsThere (part_entity env part (call_follows rest) o) ⊎ (call_follows rest ≡ true)
  part_there (expr.Field sign name) rest o = called_or name o (call_follows rest)
  part_there (expr.Index sign index) rest o = inl (index_there o (entity_of env index))
  part_there (expr.Call sign args) rest o = inl (call_there env.program (are_sound env args (call_target o) 0) (count args) o)
  part_there (expr.Step sign op) rest o = inl (place_there o)

  parts_there : (parts : expr.Parts) (o : Option Entity) → IsThere o ⊎ (call_follows parts ≡ true) → IsThere (parts_entity env parts o)
  parts_there expr.NoParts o (inl h) = h
  parts_there expr.NoParts o (inr h) = false_true h
  parts_there (expr.MoreParts part rest) o h = parts_there rest (part_entity env part (call_follows rest) o) (part_there part rest o)

  chain_there : (links : expr.Links) (o : Option Entity) → IsThere o → IsThere (chain_entity env links o)
  chain_there expr.NoLinks o h = h
  chain_there (expr.MoreLinks (expr.Linked sign op right) rest) o h =
      chain_there rest (link_entity env (expr.Linked sign op right) o) (both_there o (entity_of env right) (rules.binary_gives op) (gives_there op))

  input_there : (b : Bool) (o : Option Entity) → IsThere o → IsThere (if b then Some entity.Input else o)
  input_there true o h = tt
  input_there false o h = h

  entity_there : (e : expr.Expr) → IsThere (entity_of env e)
  entity_there (expr.Number q n) = tt
  entity_there (expr.Character q n) = tt
  entity_there (expr.Truth q n) = tt
  entity_there (expr.Name q name) = named_there (named env name) (names name)
  entity_there (expr.Cin q) = tt
  entity_there (expr.Postfix q root parts) =
      parts_there parts (if rules.is_input root parts then Some entity.Input else entity_of env root) (inl (input_there (rules.is_input root parts) (entity_of env root) (entity_there root)))
  entity_there (expr.Unary q op operand) = unary_there op (entity_of env operand)
  entity_there (expr.Chain q start rest) = chain_there rest (entity_of env start) (entity_there start)
  entity_there (expr.Assign q sign op place value) = assign_there (entity_of env place) (entity_of env value)

module _ (t : Table) (g : Sig) (sc : List Name) where
  value_given : (st : tree.Standing) (e : Expr) → IsAsValue st → ValuedBy t g sc st e → Yields t g sc e Num
  value_given AsValue e v h = h
  value_given _ e v h = absurd v

  agreed : (p : Program) (w : Entity) (m : tree.Meant) → IsThere (Some w) → Agrees t g sc p w m → Fine t g sc m.expr
  agreed p (entity.Value s) m h a = (Num, value_given m.standing m.expr a.0 a.1)
  agreed p (entity.Place s) m h a = (found_ty s, a.0.0)
  agreed p (entity.Array s n) m h a = (row_ty (is_condition s) n s, a.0)
  agreed p (entity.Routine i) m h a = a.at
  agreed p (entity.Method i j inner path) m h a = (Obj a.class, a.at)
  agreed p (entity.Operation o) m h a = (Num, a.1)
  agreed p entity.Fail m h a = a.1
  agreed p entity.Input m h a = a.1
  agreed p entity.Main m h a = a
  agreed p entity.ClassName m h a = a
  agreed p entity.Missing m h a = absurd h

-- the names of a place are known

local_stood : (ss : List LocalName) (name : List ℕ) (m : NameMeaning) → AreStood ss → local_named ss name ≡ Some m → IsStood m.entity
local_stood [] name m h e = none_some e
local_stood (s ∷ ss) name m h e = by (local_named ss name) (local_stood ss name m h.1) e
  where
    here : (b : Bool) → (if b then Some s.meant else None) ≡ Some m → IsStood m.entity
    here true q = subst (λ (m : NameMeaning). IsStood m.entity) (some_same q) h.0
    here false q = none_some q

    by : (o : Option NameMeaning) → (o ≡ Some m → IsStood m.entity) → scopes.later_or o s name ≡ Some m → IsStood m.entity
    by (Some x) f q = f q
    by None f q = here (same_name s.name name) q

module _ (t : Table) (g : Sig) (sc : List Name) (env : Env) (class : Option ℕ) (routine : ℕ) (names : List LocalVariable) (h : Within t g sc env class names) where
  pub names_stood : (name : List ℕ) (m : NameMeaning) → named env name ≡ Some m → IsStood m.entity
  names_stood name m e = by (local_named env.names name) (local_stood env.names name m h.stood) e
    where
      by : (o : Option NameMeaning) → (o ≡ Some m → IsStood m.entity) → named_behind o (root_named env.program env.around name) ≡ Some m → IsStood m.entity
      by (Some x) f q = f q
      by None f q = h.rooted.stood name m q

  pub tied : Tied t g sc env class routine names
  tied = record {
    refers = h.rooted.refers;
    classes = h.rooted.classes;
    tasks = h.rooted.tasks;
    shapes = h.rooted.told.shapes;
    inside = h.rooted.inside;
    names = h.alike;
    outer = λ name local inside. subst (λ o. AgreesIf t g sc env.program (meant_entity (named_behind o (root_named env.program env.around name))) (tree.own_meant env.program class name)) (sym local) (h.rooted.names sc name (subst (λ o. names_condition (named_behind o (root_named env.program env.around name)) ≡ true → IsInside g.inward) local inside));
    member = h.rooted.member sc;
  }

  pub known : IsKnown env
  known = record {
    names = λ name m e. stood_stands m.entity (names_stood name m e);
    members = λ w name m e. stood_stands m.entity (h.rooted.members w name m e);
    results = h.rooted.results;
  }

  pub gives : (e : expr.Expr) → Unbroken (visits env e) → Fine t g sc (meant (context env class routine names) e).expr
  gives e u =
      let r = stands env known e u in
      agreed t g sc env.program r.0 (meant (context env class routine names) e) (subst IsThere r.1 (entity_there env names_stood h.rooted.members e)) (law_agrees t g sc env class routine names tied e u r.0 r.1)
