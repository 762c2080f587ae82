-- A binding takes: where the variable of the scope behind the statement holds no place and no execution before, it holds an object once that is
-- bound.
use Rattle.std.specs.Prelude.{◌≡◌, ℕ, Bool, true, false, List, [], ◌∷◌}
use Rattle.uc_tree.specs.Programs.{Program}
use Rattle.uc_tree.specs.Source.{Expr, Destroys, Stmts, Scoped, Source}
use Rattle.uc_entry.specs.declared.entry.Options.{Options}
use Rattle.uc_acts.specs.Journal.{Journal, is_over}
use Rattle.uc_acts.specs.KernelRuns.{InRange}
use Rattle.uc_machine.specs.Pieces.{Value, Todo, BindNow, BindMadeNow, CallOnNow, CallUnwrittenNow, DropNow, Within, Rest, State, Goes}
use Rattle.uc_machine.specs.Quiet.{quiet}
use Rattle.uc_meaning.specs.Runs.{World, Runs}
use Rattle.uc_state_laws.specs.Fitting.{RunFits}
use Rattle.uc_resolve.specs.Resolve.{source_of}
use Rattle.uc_rules.specs.Breaks.{breaks_of}
use Rattle.uc_sound.specs.SoundFormed.{IsFormed}
use Rattle.uc_state_laws.specs.Layout.{Sized}
use Rattle.uc_state_laws.specs.RoomStacks.{StackState}
use Rattle.uc_state_laws.specs.RoomRuns.{Comes}
use Rattle.uc_state_laws.specs.There.{HoldsLoose, OfEach, IsThere, frame_at}
use Rattle.uc_place_laws.specs.Placed.{PlacedState}

-- the values of the frame of the running activation
abbrev pub here : State → List Value
here s = frame_at s.run.frame s.env.frames

-- what is to do behind an expression that is a statement, before the scope of an object; and the call of a constructor, which somebody wrote or
-- nobody
abbrev pub before_scope : ℕ → Expr → Stmts → List Todo → List Todo
before_scope line d rest todo = DropNow ∷ (Within line ∷ (Rest (Scoped (Destroys d) rest) ∷ todo))

abbrev pub call_now : Bool → ℕ → Todo
call_now true r = CallOnNow r
call_now false r = CallUnwrittenNow r

-- a step that binds: of a scope behind it whose variable, if it has one, is loose, that holds an object; a made object is bound before the call
-- of its constructor
pub record Takes (source : Source) (s t : State) : Type 0 where
  pub bound : (line : ℕ) (d : Expr) (rest : Stmts) (todo : List Todo) →
      s.run.control ≡ BindNow ∷ before_scope line d rest todo →
      OfEach (HoldsLoose (here s)) (Destroys d) → quiet source s ≡ Goes t →
      IsThere (here t) (Destroys d)
  pub made : (c r q : ℕ) (written : Bool) (line : ℕ) (d : Expr) (rest : Stmts) (todo : List Todo) →
      s.run.control ≡ BindMadeNow c r ∷ (call_now written q ∷ before_scope line d rest todo) →
      OfEach (HoldsLoose (here s)) (Destroys d) → quiet source s ≡ Goes t →
      IsThere (here t) (Destroys d)

-- so it is where the places that are bound lie where they are expected, and rooms lie within their frames
abbrev pub LawTaken : Type 0
LawTaken =
    (source : Source) (p : Program) (s t : State) → PlacedState (Sized p) source s →
    StackState (Sized p) s → Takes source s t

-- in each run of a program that breaks no rule, as long as all that was asked before fits, whoever runs binds so in each state to which it comes
abbrev pub LawTakenRuns : Type 0
LawTakenRuns =
    (p : Program) → IsFormed p → breaks_of p ≡ [] →
    (input : List ℕ) (opts : Options) → InRange opts → (j : Journal) (w : World) →
    (r : Runs (source_of p) input opts j w) → RunFits (source_of p) input opts j w r →
    is_over j ≡ false → (k : ℕ) (s t : State) → Comes (source_of p) j w k s →
    Takes (source_of p) s t
