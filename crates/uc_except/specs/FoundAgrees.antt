-- When a handler that is found by rows is the one that the source finds.
use Rattle.std.specs.Prelude.{◌≡◌, ℕ, List, [], ◌∷◌, length, Option, Some, None, true, false}
use Rattle.uc_machine.specs.Executions.{at_depth}
use Rattle.uc_machine.specs.Quiet as quiet
use Rattle.uc_machine.specs.Quiet.{Todo, Sort, IsGuard, sort}
use Rattle.uc_machine.specs.Raising.{Event, Handler, Hit, Found as Sought, handler_for, home_of, handler_todo}
use Rattle.uc_code.specs.declared.rows.CodeMark.{CodeMark}
use Rattle.uc_code.specs.Layout.{Laid}
use Rattle.uc_code.specs.CodeShapes.{HandlerAt}
use Rattle.uc_code.specs.Lowered.{handler_of}
use Rattle.uc_frames.specs.Machine.{Activation, cell_of}
use Rattle.uc_frames.specs.Stands.{FollowsAt}
use Rattle.uc_except.specs.declared.found.Found.{Found}
use Rattle.uc_except.specs.declared.found.Found.TheVariants.{Handler as At, None as Nowhere}

-- the handler that the source comes to where an event is thrown: the first one that catches it, from the innermost guarded block of the
-- newest activation outwards

abbrev pub catch_or : Option Handler → Option Handler → Option Handler
catch_or None other = other
catch_or (Some h) other = Some h

abbrev pub catch_by : Sort → Event → Option Handler → Option Handler
catch_by (IsGuard hs) e other = catch_or (handler_for false e hs) other
catch_by _ e other = other

abbrev pub catch_in : Event → List Todo → Option Handler
catch_in e [] = None
catch_in e (p ∷ ps) = catch_by (sort p) e (catch_in e ps)

-- in the activation that has so many below it
pub record Catcher : Type 0 where
  pub level : ℕ
  pub handler : Handler

abbrev pub catcher_or : Option Handler → ℕ → Option Catcher → Option Catcher
catcher_or None level other = other
catcher_or (Some h) level other = Some (record { level = level; handler = h })

abbrev pub catcher : Event → List quiet.Active → Option Catcher
catcher e [] = None
catcher e (a ∷ others) = catcher_or (catch_in e a.control) (length others) (catcher e others)

module _ (code : Laid) where
  -- the row of a handler of resumptions outwards of whose guarded block so many rows stand, and its code
  pub record ResumesAt (row rest : ℕ) (h : Handler) : Type 0 where
    pub event : Option ℕ
    pub entry : ℕ
    pub handler : HandlerAt code row (handler_of true event rest entry)
    pub marks : List CodeMark
    pub follows : FollowsAt code (handler_todo h []) marks entry

  -- what is found in an activation
  abbrev pub Hits : Option ℕ → Option Hit → Type 0
  Hits None None = Unit {0}
  Hits None (Some h) = ⊥
  Hits (Some row) None = ⊥
  Hits (Some row) (Some h) = ResumesAt row h.rest h.handler

  -- what is found among activations
  pub record Meets (acts : List Activation) (frame row : ℕ) (f : Sought) : Type 0 where
    pub level : f.visited.level ≡ frame
    pub resumes : ResumesAt row f.visited.rest f.handler
    pub active : Activation
    pub there : at_depth acts frame ≡ Some active
    pub this : active.this ≡ cell_of f.this
    pub variables : active.frame ≡ f.frame
    pub home : f.visited.home ≡ home_of active.handles frame

  abbrev pub FoundAs : List Activation → Found → Option Sought → Type 0
  FoundAs acts Nowhere None = Unit {0}
  FoundAs acts Nowhere (Some f) = ⊥
  FoundAs acts (At frame row) None = ⊥
  FoundAs acts (At frame row) (Some f) = Meets acts frame row f

  -- the same of what is thrown

  -- the row of a handler that catches, and its code
  pub record CatchesAt (row : ℕ) (h : Handler) : Type 0 where
    pub event : Option ℕ
    pub rest : ℕ
    pub entry : ℕ
    pub handler : HandlerAt code row (handler_of false event rest entry)
    pub todo : List Todo
    pub marks : List CodeMark
    pub follows : FollowsAt code (handler_todo h todo) marks entry

  abbrev pub Caught : Option ℕ → Option Handler → Type 0
  Caught None None = Unit {0}
  Caught None (Some h) = ⊥
  Caught (Some row) None = ⊥
  Caught (Some row) (Some h) = CatchesAt row h

  abbrev pub CaughtAs : Found → Option Catcher → Type 0
  CaughtAs Nowhere None = Unit {0}
  CaughtAs Nowhere (Some c) = ⊥
  CaughtAs (At frame row) None = ⊥
  CaughtAs (At frame row) (Some c) = (c.level ≡ frame) × CatchesAt row c.handler
