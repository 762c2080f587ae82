-- The activations of one execution, of which several may use one frame: a handler of resumptions uses that of the routine in which it
-- stands, while objects of that routine are in scope. What each of them declares lies behind all objects of the others.
use Rattle.std.specs.Prelude.{◌≡◌, ℕ, suc, ◌≤◌, List, [], ◌∷◌, length, Option, Some, None, Bool, true, false, nat_eq}
use Rattle.uc_machine.specs.declared.exec.Visited.{Visited}
use Rattle.uc_machine.specs.Executions.{Execution, at_depth, list_in}
use Rattle.uc_machine.specs.Pieces.{Value, Todo, Sort, sort, IsGuard, Active, State, Env, Members, Step, Goes, Ticks, Asks}
use Rattle.uc_machine.specs.Raising.{within}
use Rattle.uc_state_laws.specs.Rooms.{Room, IsRoom, HandlersIn}
use Rattle.uc_state_laws.specs.RoomStates.{PieceIn, Reached, TodoIn, AllBefore}

-- rooms that begin at a cell or behind it, and that end there or before it
abbrev pub From : ℕ → Room → Type 0
From x o = x ≤ o.low

abbrev pub UpTo : ℕ → Room → Type 0
UpTo x o = o.high ≤ x

-- how many cells the frame of a depth has
abbrev pub frame_cells : List (List Value) → ℕ → ℕ
frame_cells fs d = length (list_in (at_depth fs d))

module _ (Sized : ℕ → ℕ → Type 0) where
  -- all that is to do keeps to its rooms, of which the outermost one is so
  abbrev pub TodoTo : (Room → Type 0) → Room → List Todo → Type 0
  TodoTo End o [] = IsRoom o × End o
  TodoTo End o (p ∷ todo) = Reached Sized o (sort p) (PieceIn Sized o p) (λ m. TodoTo End m todo)

  abbrev pub SomeTo : (Room → Type 0) → List Todo → Type 0
  SomeTo End todo = (o : Room) × TodoTo End o todo

  -- the handlers of all guarded blocks keep to rooms from a cell on
  abbrev pub GuardFrom : ℕ → Sort → Type 0
  GuardFrom x (IsGuard hs) = (h : Room) × IsRoom h × (x ≤ h.low) × HandlersIn Sized h hs
  GuardFrom x k = Unit {0}

  abbrev pub GuardsFrom : ℕ → List Todo → Type 0
  GuardsFrom x [] = Unit {0}
  GuardsFrom x (p ∷ todo) = GuardFrom x (sort p) × GuardsFrom x todo

  -- so do all handlers of a frame that a search finds which comes to these activations, as far as it has come
  abbrev pub AboveAt : Bool → Type 0 → Type 0 → Type 0
  AboveAt true here beyond = here
  AboveAt false here beyond = beyond

  abbrev pub Above : ℕ → Option Visited → ℕ → List Active → Type 0
  Above x v f [] = Unit {0}
  Above x None f (a ∷ others) = (a.frame ≡ f → GuardsFrom x a.control) × Above x a.handles f others
  Above x (Some v) f (a ∷ others) =
      AboveAt (nat_eq (length others) v.level) ((a.frame ≡ f → GuardsFrom x (within v.rest a.control)) × Above x a.handles f others) (Above x (Some v) f others)

  -- what is to do next keeps to a room that ends at a cell or before it, so all objects in scope lie before that
  abbrev pub Beneath : ℕ → List Todo → Type 0
  Beneath x todo = (o : Room) × UpTo x o × TodoIn Sized o todo

  -- an activation before older ones, one of which keeps to a room before a cell: where both use one frame, what the first one does
  -- stays behind that, and so does what a search finds beyond it
  abbrev pub Over : List Todo → ℕ → Option Visited → List Active → Active → Type 0
  Over todo frame v older c =
      (x : ℕ) × Beneath x c.control × (frame ≡ c.frame → SomeTo (From x) todo) ×
      Above x v c.frame older

  abbrev pub OverAll : List Todo → ℕ → Option Visited → List Active → List Active → Type 0
  OverAll todo frame v older [] = Unit {0}
  OverAll todo frame v older (c ∷ cs) = Over todo frame v older c × OverAll todo frame v older cs

  -- with these frames: the rooms of an activation end within its frame, and a search that comes beyond it finds in that frame only what
  -- lies behind it
  pub record Stacked (fs : List (List Value)) (a : Active) (older : List Active) : Type 0 where
    pub top : ℕ
    pub fits : SomeTo (UpTo top) a.control
    pub cells : top ≤ frame_cells fs a.frame
    pub frame : a.frame ≤ length older
    pub beyond : Above top a.handles a.frame older
    pub over : OverAll a.control a.frame a.handles older older

  abbrev pub Stack : List (List Value) → List Active → Type 0
  Stack fs [] = Unit {0}
  Stack fs (a ∷ older) = Stacked fs a older × Stack fs older

  -- of those that use a frame, all objects lie before a cell
  abbrev pub FrameBefore : ℕ → ℕ → List Active → Type 0
  FrameBefore cell f [] = Unit {0}
  FrameBefore cell f (c ∷ cs) = (c.frame ≡ f → AllBefore Sized cell c.control) × FrameBefore cell f cs

  -- they keep to rooms before it
  abbrev pub FrameBeneath : ℕ → ℕ → List Active → Type 0
  FrameBeneath cell f [] = Unit {0}
  FrameBeneath cell f (c ∷ cs) = (c.frame ≡ f → Beneath cell c.control) × FrameBeneath cell f cs

  -- an execution that does not run, with a frame for each activation
  pub record StackEx (x : Execution (List Todo) Value) : Type 0 where
    pub frames : length x.frames ≡ suc (length x.callers)
    pub stack : Stack x.frames (x.run ∷ x.callers)

  abbrev pub StackSlot : Option (Execution (List Todo) Value) → Type 0
  StackSlot None = Unit {0}
  StackSlot (Some x) = StackEx x

  abbrev pub StackParked : List (ℕ × Option (Execution (List Todo) Value)) → Type 0
  StackParked [] = Unit {0}
  StackParked (p ∷ ps) = StackSlot p.1 × StackParked ps

  abbrev pub StackHand : List (ℕ × Members) → Type 0
  StackHand [] = Unit {0}
  StackHand (p ∷ ps) = StackParked p.1.parked × StackHand ps

  abbrev pub StackMembers : Option Members → Type 0
  StackMembers None = Unit {0}
  StackMembers (Some m) = StackParked m.parked

  -- a task, but for its running execution, and with it
  pub record StackEnv (e : Env) : Type 0 where
    pub house : StackParked e.house.parked
    pub hand : StackHand e.hand

  pub record StackState (s : State) : Type 0 where
    pub frames : length s.env.frames ≡ suc (length s.callers)
    pub stack : Stack s.env.frames (s.run ∷ s.callers)
    pub env : StackEnv s.env

  abbrev pub StackStep : Step → Type 0
  StackStep (Goes s) = StackState s
  StackStep (Ticks s) = StackState s
  StackStep (Asks r s) = StackState s
