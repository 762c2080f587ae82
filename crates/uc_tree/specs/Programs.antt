-- Programs without pointers.
-- `pos` is the place of the first token, `brace` that of the `{` of a body.
use Rattle.std.specs.Prelude.{ℕ, List, Bool}
use Rattle.uc_tree.specs.declared.pos.Pos.{Pos}
use Rattle.uc_tree.specs.declared.kinds.Base.{Base}
use Rattle.uc_tree.specs.declared.kinds.Owner.{Owner}
use Rattle.uc_tree.specs.declared.kinds.Kind.{Kind}
use Rattle.uc_tree.specs.declared.kinds.Access.{Access}
use Rattle.uc_tree.specs.declared.kinds.MutexMark.{MutexMark}
use Rattle.uc_tree.specs.declared.kinds.Role.{Role}
use Rattle.uc_tree.specs.declared.kinds.Param.{Param}
use Rattle.uc_tree.specs.declared.kinds.Forward.{Forward}
use Rattle.uc_tree.specs.Expressions.{Expr, Exprs}
use Rattle.uc_tree.specs.Statements.{Declarator, Stmts}

-- what a routine is called with and what it returns; a constructor and a destructor return `void`
pub record Sig : Type 0 where
  pub pos : Pos
  pub owner : Owner
  pub role : Role
  pub ret : Base
  pub name : List ℕ
  pub params : List Param

-- an initialiser of a field
pub record Init : Type 0 where
  pub pos : Pos
  pub name : List ℕ
  pub args : Exprs

pub record Routine : Type 0 where
  pub sig : Sig
  pub inits : List Init
  pub brace : Pos
  pub body : Stmts

-- fields of one base, whose place stands beside it; a routine with its body; or its signature alone
pub data MemberForm : Type 0 where
  FieldsMember : (at : Pos) (base : Base) (declarators : List Declarator) → MemberForm
  RoutineMember : (routine : Routine) → MemberForm
  ProtoMember : (sig : Sig) → MemberForm

pub record Member : Type 0 where
  pub pos : Pos
  pub access : Access
  pub mark : MutexMark
  pub form : MemberForm

pub record Class : Type 0 where
  pub pos : Pos
  pub kind : Kind
  pub name : List ℕ
  pub members : List Member

pub record Constant : Type 0 where
  pub pos : Pos
  pub base : Base
  pub name : List ℕ
  pub value : Expr

pub data Item : Type 0 where
  ClassItem : (class : Class) → Item
  RoutineItem : (routine : Routine) → Item
  ConstItem : (constant : Constant) → Item
  ProtoItem : (sig : Sig) → Item
  ForwardItem : (forward : Forward) → Item
  UsingItem : (pos : Pos) → Item

pub record Program : Type 0 where
  pub items : List Item

-- what an accept statement may take: its class, for each of its clauses the numbers of the members that it lists, and
-- whether there is an `_Else`
pub record Site : Type 0 where
  pub class : ℕ
  pub clauses : List (List ℕ)
  pub has_else : Bool
