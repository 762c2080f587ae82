-- What the grammar gives besides a tree, and what the limits on numbers are: no rule asks it again.
use Rattle.std.specs.Prelude.{◌≡◌, ℕ, ◌≤◌, List, [], ◌∷◌, length, slice_get, Some, None, true, false}
use Rattle.uc_tree.specs.declared.limits.TheConstants.{LAST_CLASS}
use Rattle.uc_tree.specs.declared.pos.Pos.{Pos}
use Rattle.uc_tree.specs.declared.kinds.Base.TheVariants as base
use Rattle.uc_tree.specs.Constants.{constants_of}
use Rattle.uc_tree.specs.Cells.{classes_of}
use Rattle.uc_tree.specs.Gathered.{gathered_all}
use Rattle.uc_tree.specs.Numbering.{is_plain, Defined, routines_of}
use Rattle.uc_tree.specs.Statements.{Stmt, Try, Handlers, NoHandlers, MoreHandlers, Handles}
use Rattle.uc_tree.specs.Programs.{Sig, Constant, Program}
use Rattle.uc_machine.specs.Pieces.{LAST_ADDRESS}
use Rattle.uc_rules.specs.declared.rules.Sort.{Sort}
use Rattle.uc_rules.specs.Sorts.{sort_of}
use Rattle.uc_rules.specs.Names.{is_here, routine_sig, method_sig}

-- the handlers of all events that have a parameter
abbrev pub nameless : Handlers → List Pos
nameless NoHandlers = []
nameless (MoreHandlers (Handles p kind None (Some name) brace body) rest) = p ∷ nameless rest
nameless (MoreHandlers (Handles p kind None None brace body) rest) = nameless rest
nameless (MoreHandlers (Handles p kind (Some event) param brace body) rest) = nameless rest

abbrev pub own_nameless : Stmt → List Pos
own_nameless (Try p brace body hs) = nameless hs
own_nameless _ = []

pub record IsFormed (p : Program) : Type 0 where
  -- every class has a number
  pub classes : length (classes_of p.items) ≤ LAST_CLASS
  -- outside of classes a constructor or destructor stands under the name of its class
  pub plain : (i : ℕ) (sig : Sig) → routine_sig p i ≡ Some sig → is_here sig.owner ≡ true → is_plain sig.role ≡ true
  -- constructors and destructors return nothing
  pub makers : (i : ℕ) (sig : Sig) → routine_sig p i ≡ Some sig → is_plain sig.role ≡ false → sig.ret ≡ base.Void
  pub own_makers : (i j : ℕ) (sig : Sig) → method_sig p i j ≡ Some sig → is_plain sig.role ≡ false → sig.ret ≡ base.Void
  -- a constant has a known base
  pub constants : (n : ℕ) (c : Constant) → slice_get (constants_of p.items) n ≡ Some c → (s : Sort) × (sort_of p c.base ≡ Some s)
  -- a routine has no more parameters than addresses
  pub params : (n : ℕ) (d : Defined) → slice_get (routines_of p) n ≡ Some d → length d.routine.sig.params ≤ LAST_ADDRESS
  -- a handler of all events has no parameter
  pub handlers : (n : ℕ) (d : Defined) → slice_get (routines_of p) n ≡ Some d → gathered_all own_nameless d.routine.body ≡ []
