-- Where the statements of a routine stand: the names that the rules and the resolved tree find there agree, and what is declared is known.
use Rattle.std.specs.Prelude.{◌≡◌, ℕ, List, [], ◌∷◌, true, false, Option, Some, None}
use Rattle.uc_tree.specs.declared.kinds.Base.{Base}
use Rattle.uc_tree.specs.declared.kinds.Kind.{Kind}
use Rattle.uc_tree.specs.declared.kinds.LocalVariable.{LocalVariable}
use Rattle.uc_tree.specs.Numbering.{is_mutex}
use Rattle.uc_tree.specs.Objects.{is_task}
use Rattle.uc_tree.specs.Programs.{Program}
use Rattle.uc_resolve.specs.Standings as tree
use Rattle.uc_rules.specs.declared.rules.Surroundings.{Surroundings}
use Rattle.uc_rules.specs.declared.rules.Entity.{Entity}
use Rattle.uc_rules.specs.declared.rules.Entity.TheVariants as entity
use Rattle.uc_rules.specs.declared.rules.OwnClass.{OwnClass}
use Rattle.uc_rules.specs.declared.rules.NameMeaning.{NameMeaning}
use Rattle.uc_rules.specs.declared.rules.LocalName.{LocalName}
use Rattle.uc_rules.specs.declared.rules.Sort.TheVariants as sort
use Rattle.uc_rules.specs.Sorts.{sort_of}
use Rattle.uc_rules.specs.Names.{outer_named}
use Rattle.uc_rules.specs.Scopes.{Env, named_behind, own_named}
use Rattle.uc_rules.specs.Entities.{meant_entity, object_member, open_entity, path_member, takes, is_main, given}
use Rattle.uc_rules.specs.OwnerBreaks.{is_mutex_field_of, names_condition, may_switch_in, may_accept}
use Rattle.uc_typing.specs.Typing.{Name, Sig, Table, IsInside, Executing, InMutex}
use Rattle.uc_sound.specs.Agreement.{Agrees, AgreesIf, Alike}
use Rattle.uc_sound.specs.Unbroken.{Stands}
use Rattle.uc_sound.specs.Told.{Told}

-- a name stands for something that is there
abbrev pub IsStood : Option Entity → Type 0
IsStood None = ⊥
IsStood (Some entity.Missing) = ⊥
IsStood (Some _) = Unit {0}

abbrev pub AreStood : List LocalName → Type 0
AreStood [] = Unit {0}
AreStood (s ∷ ss) = IsStood s.meant.entity × AreStood ss

-- a name that no local hides, in a routine of this class
abbrev pub root_named : Program → Surroundings → List ℕ → Option NameMeaning
root_named p a name = named_behind (own_named p a.main a.home name) (outer_named p name)

-- what is known of a routine whatever its locals are
pub record Rooted (t : Table) (g : Sig) (p : Program) (a : Surroundings) (class : Option ℕ) : Type 0 where
  pub told : Told t p
  pub refers : t.refers ≡ true
  pub classes : (b : Base) (c : ℕ) (k : Kind) → sort_of p b ≡ Some (sort.Object c k) → t.mutex c ≡ is_mutex k
  pub tasks : (b : Base) (c : ℕ) (k : Kind) → sort_of p b ≡ Some (sort.Object c k) →
      t.tasks c ≡ is_task k
  pub inside : a.inner ≡ true → IsInside g.inward
  pub names : (sc : List Name) (name : List ℕ) →
      (names_condition (root_named p a name) ≡ true → IsInside g.inward) →
      AgreesIf t g sc p (meant_entity (root_named p a name)) (tree.own_meant p class name)
  pub stood : (name : List ℕ) (m : NameMeaning) → root_named p a name ≡ Some m → IsStood m.entity
  pub member : (sc : List Name) (c : ℕ) (k : Kind) (name : List ℕ) (x : NameMeaning) (m : tree.Meant) →
      object_member p (sort.Object c k) name ≡ Some x → is_mutex_field_of (Some x) ≡ false →
      names_condition (Some x) ≡ false → Agrees t g sc p (entity.Place (sort.Object c k)) m →
      AgreesIf t g sc p (open_entity a.home x) (tree.object_member p (Some c) m.expr name)
  pub members : (w : Entity) (name : List ℕ) (m : NameMeaning) → path_member p w name ≡ Some m →
      IsStood m.entity
  pub results : (w : Entity) (n : ℕ) → takes p n w ≡ true → is_main p w ≡ false → Stands (given p w)
  -- what returns a value neither builds nor destroys, what switches has an execution, what accepts is in a mutex class
  pub returning : a.returns ≡ true → g.whole ≡ false
  pub switching : (h : OwnClass) → a.home ≡ Some h → may_switch_in a.inner h ≡ true → Executing t g
  pub accepting : may_accept a ≡ true → InMutex t g

-- a place in it, where these names are in scope
pub record Within (t : Table) (g : Sig) (sc : List Name) (env : Env) (class : Option ℕ) (names : List LocalVariable) : Type 0 where
  pub rooted : Rooted t g env.program env.around class
  pub alike : Alike t g sc env.program env.names names
  pub stood : AreStood env.names
