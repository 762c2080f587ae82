-- How the kinds of an execution's frames go on as it takes a step, and what is claimed of executions by these kinds.
use Rattle.std.specs.Prelude.{◌≡◌, ℕ, ℤ, ◌⊎◌, Bool, true, false, List, [], ◌∷◌, length, drop, Option, Some, None, slice_get}
use Rattle.uc_tree.specs.Source.{Source, Routine}
use Rattle.uc_machine.specs.declared.exec.Exec.{Exec}
use Rattle.uc_machine.specs.declared.exec.Owner.{Owner}
use Rattle.uc_machine.specs.declared.exec.Owner.TheVariants.{Frame, Fields}
use Rattle.uc_machine.specs.declared.exec.UnwindReason.{UnwindReason}
use Rattle.uc_machine.specs.declared.exec.UnwindReason.TheVariants as reason
use Rattle.uc_machine.specs.Executions.{Execution, Links, others, exec_eq, frame_changed, value_changed}
use Rattle.uc_machine.specs.Switches.{new_exec, stopped, unwound_there}
use Rattle.uc_machine.specs.Pieces as piece
use Rattle.uc_machine.specs.Pieces.{Value, Number, Place, Running, Todo, Sort, sort, Active, State, address, stored, nought, top, below, at}
use Rattle.uc_machine.specs.Quiet.{home_at, fresh, quiet}
use Rattle.uc_typing.specs.Typing.{Ty, Apart, Sig, Table}
use Rattle.uc_typing.specs.States.{Sound}
use Rattle.uc_life_laws.specs.Things.{Few}
use Rattle.uc_life_laws.specs.Knowing.{ClaimsEnv, ClaimsState, StepBy, VariablesKnown, Finds}

-- kinds

-- that of the own frame of a handler of a resumption, which uses that of its routine
abbrev pub no_sig : Sig
no_sig = record { this = None; params = []; locals = []; whole = false; inward = Apart }

-- of these activations one has this frame and this object
abbrev pub HasOne : List Active → ℕ → Value → Type 0
HasOne [] frame this = ⊥
HasOne (a ∷ older) frame this = ((frame ≡ a.frame) × (this ≡ a.this)) ⊎ HasOne older frame this

-- what such a piece of s begins has a frame of this kind, at this depth, and this object, and the one that waits for it has this to do: a routine that is
-- called has a new frame, and nothing or the object below its arguments; a handler of a resumption uses the frame and the object of an older activation
module _ (t : Table) (source : Source) (s : State) (frame : ℕ) (this : Value) (waits : List Todo) where
  abbrev pub BeginsOn : ℕ → List Todo → Sig → Type 0
  BeginsOn r todo g = (g ≡ t.routine r) × (frame ≡ length s.env.frames) × (waits ≡ todo) ×
      ((q : Routine) × (slice_get source.routines r ≡ Some q) × (this ≡ top (drop q.params s.run.operands)))

  abbrev pub BeginsAt : List Todo → Sig → Type 0
  BeginsAt (piece.CallNow r ∷ todo) g = (g ≡ t.routine r) × (frame ≡ length s.env.frames) × (waits ≡ todo) × (this ≡ piece.Nothing)
  BeginsAt (piece.CallOnNow r ∷ todo) g = BeginsOn r todo g
  BeginsAt (piece.CallUnwrittenNow r ∷ todo) g = BeginsOn r todo g
  BeginsAt (piece.RaiseNow ∷ todo) g = (g ≡ no_sig) × (waits ≡ piece.DropNow ∷ todo) × HasOne (s.run ∷ s.callers) frame this
  BeginsAt todo g = ⊥

-- how the kinds of the frames of an execution go on as it takes a step from s to u: the same activation goes on, or a newer one does, or it ends and
-- one goes on that has waited
pub data Turned (t : Table) (source : Source) (s : State) (gs : List Sig) (u : State) (hs : List Sig) : Type 0 where
  stays : hs ≡ gs → u.env.exec ≡ s.env.exec → u.run.frame ≡ s.run.frame → u.run.this ≡ s.run.this → u.callers ≡ s.callers → Turned t source s gs u hs
  begins : (g : Sig) (a : Active) → BeginsAt t source s u.run.frame u.run.this a.control s.run.control g → hs ≡ g ∷ gs → u.env.exec ≡ s.env.exec →
      u.callers ≡ a ∷ s.callers →
      a.frame ≡ s.run.frame → a.this ≡ s.run.this → Turned t source s gs u hs
  goes_back : (c : Active) → s.callers ≡ c ∷ u.callers → hs ≡ others gs → u.env.exec ≡ s.env.exec → u.run.frame ≡ c.frame → u.run.this ≡ c.this →
      Turned t source s gs u hs

-- the same execution goes on behind each step, but where a coroutine is resumed, suspended, destroyed or ends, and where its main is unwound by anything
-- but a return
abbrev pub Returns : Option UnwindReason → Type 0
Returns (Some (reason.ReturnTo home)) = Unit {0}
Returns why = ⊥

abbrev pub GoesPast : Sort → Option UnwindReason → Type 0
GoesPast piece.IsFinishCoroutine why = Returns why
GoesPast k why = Unit {0}

abbrev pub GoesOn : List Todo → Option UnwindReason → Type 0
GoesOn (piece.TakeDownNow ∷ todo) why = ⊥
GoesOn (piece.ResumeNow ∷ todo) why = ⊥
GoesOn (piece.SuspendNow ∷ todo) why = ⊥
GoesOn (piece.FinishCoroutine ∷ todo) why = ⊥
GoesOn (piece.Unwind ∷ (p ∷ todo)) why = GoesPast (sort p) why
GoesOn todo why = Unit {0}

-- claims

module _ (Q : Exec → List Sig → Execution (List Todo) Value → Type 0) where
  -- what is claimed of executions that do not run, of which the one of this name does, stays as this value is written to a cell
  abbrev pub StaysAt : Exec → Owner → ℕ → Value → Type 0
  StaysAt n (Frame m d) k v = exec_eq m n ≡ false → (gs : List Sig) (x : Execution (List Todo) Value) → Q m gs x →
      Q m gs (record x { frames = frame_changed d (value_changed k (stored v) nought) x.frames })
  StaysAt n (Fields o) k v = Unit {0}

  -- so it does as it is written to a place
  abbrev pub Stays : Exec → Value → Value → Type 0
  Stays n (Place o p) v = StaysAt n o (address p) v
  Stays n w v = Unit {0}

  -- an execution that does not run keeps what is claimed of it: as somebody writes a number to a place in its frames, as its links change, and as it
  -- is to be unwound, by no return
  pub record IsKept : Type 0 where
    pub written : (n : Exec) (gs : List Sig) (x : Execution (List Todo) Value) (d k : ℕ) (z : ℤ) → Q n gs x →
        Q n gs (record x { frames = frame_changed d (value_changed k (stored (Number z)) nought) x.frames })
    pub linked : (n : Exec) (gs : List Sig) (x : Execution (List Todo) Value) (l : Links) → Q n gs x → Q n gs (record x { links = l })
    pub unwound : (n : Exec) (gs : List Sig) (x : Execution (List Todo) Value) (why : UnwindReason) →
        ((home : ℕ) → why ≡ reason.ReturnTo home → ⊥) → Q n gs x → Q n gs (unwound_there why x)

  -- what is claimed of an execution that stops with the next step, as it stands then, and of one that is made; and what is claimed of those that do
  -- not run stays as something is bound
  module _ (t : Table) (source : Source) (gs : List Sig) (s : State) where
    abbrev pub Parks : List Todo → Type 0
    Parks (piece.TakeDownNow ∷ todo) = Q s.env.exec gs (stopped (at todo s.run.operands s))
    Parks (piece.ResumeNow ∷ todo) = Q s.env.exec gs (stopped (at (piece.Land ∷ todo) s.run.operands s))
    Parks (piece.SuspendNow ∷ todo) = Q s.env.exec gs (stopped (at (piece.Land ∷ todo) s.run.operands s))
    Parks (piece.SetUpNow r ∷ todo) = (x : Routine) → slice_get source.routines r ≡ Some x →
        Q (new_exec (home_at s.run.this s.env) s.env) (t.routine r ∷ []) (fresh x s.run.this) ×
        Stays s.env.exec s.run.this (Running (new_exec (home_at s.run.this s.env) s.env))
    Parks (piece.BindNow ∷ todo) = Stays s.env.exec (top (below s.run.operands)) (top s.run.operands)
    Parks (piece.BindMadeNow c r ∷ todo) = (x : Routine) → slice_get source.routines r ≡ Some x →
        Stays s.env.exec (top (drop x.params (below s.run.operands))) (top s.run.operands)
    Parks todo = Unit {0}

  module _ (t : Table) (few : Few) where
    -- a state behind a step of this one, by kinds that follow on those that it had
    abbrev pub FollowsOn : Source → State → List Sig → List Ty → State → Type 0
    FollowsOn source s gs given u = (y : ClaimsState t few Q given u) × Turned t source s gs u y.sigs

    -- one of whose running execution the same is claimed, as if it stopped now
    abbrev pub Claimed : List Ty → State → Type 0
    Claimed given u = (y : ClaimsState t few Q given u) × Q u.env.exec y.sigs (stopped u)

  -- of each sound source, a step of a state in which all is known and variables in scope hold what is, as LawKnown says, leads to one whose kinds follow on those that it had, if the same
  -- execution goes on; if not, to one of whose running execution it is claimed. What does not run keeps its kinds and what is claimed by them
  pub record KeepsClaims : Type 0 where
    pub goes : (t : Table) (few : Few) (source : Source) → Sound t source → (s : State) →
        (x : ClaimsState t few Q [] s) → VariablesKnown t few x.sigs s →
        Finds t few x.sigs x.run.sig x.run.scope s s.run.control x.run.own →
        Parks t source x.sigs s s.run.control → GoesOn s.run.control s.run.raised →
        StepBy t few (FollowsOn t few source s x.sigs) (ClaimsEnv t few Q) source (quiet source s)
    pub stops : (t : Table) (few : Few) (source : Source) → Sound t source → (s : State) →
        (x : ClaimsState t few Q [] s) → VariablesKnown t few x.sigs s →
        Finds t few x.sigs x.run.sig x.run.scope s s.run.control x.run.own →
        Parks t source x.sigs s s.run.control → (GoesOn s.run.control s.run.raised → ⊥) →
        StepBy t few (Claimed t few) (ClaimsEnv t few Q) source (quiet source s)

-- what a test tells of kinds, by the names of executions
abbrev pub IsTold : (Exec → List Sig → Bool) → Exec → List Sig → Execution (List Todo) Value → Type 0
IsTold told n gs x = told n gs ≡ true

-- whatever it tells
abbrev pub LawKinds : Type 0
LawKinds = (told : Exec → List Sig → Bool) → KeepsClaims (IsTold told)
