-- What is being built, as the kinds of frames tell it that go along steps: it lies elsewhere, or in what older activations wait for.
use Rattle.std.specs.Prelude.{◌≡◌, ℕ, ◌⊎◌, Bool, true, false, List, [], ◌∷◌, drop, Some, slice_get}
use Rattle.uc_tree.specs.Source.{Source, Routine}
use Rattle.uc_machine.specs.declared.exec.Exec.{Exec}
use Rattle.uc_machine.specs.Executions.{Execution, at_depth, others}
use Rattle.uc_machine.specs.Switches.{stopped}
use Rattle.uc_machine.specs.Pieces.{Value, Todo, CallOnNow, CallUnwrittenNow, SetUpNow, Active, State, top}
use Rattle.uc_machine.specs.Quiet.{quiet}
use Rattle.uc_typing.specs.Typing.{Obj, Raw, Sig, Table}
use Rattle.uc_typing.specs.States.{Sound}
use Rattle.uc_life_laws.specs.Things.{Few, IsUnbound, Unmade, UnmadeBehind, is_outside}
use Rattle.uc_life_laws.specs.LifeStates.{LifeState}
use Rattle.uc_life_laws.specs.Knowing.{InMaking, ClaimsEnv, ClaimsState, StepBy, Finds}
use Rattle.uc_life_laws.specs.Kinds.{Claimed}

-- nothing is bound in an object of this class, or it lies in no frame of this execution, as a mutex object does and what is in one
abbrev pub IsElsewhere : Table → Exec → Value → ℕ → Type 0
IsElsewhere t n w c = IsUnbound t (Obj c) ⊎ (is_outside n w ≡ true)

-- `ends`: what is told to be destructors, by the numbers of routines. A frame is of the kind of one
abbrev pub IsEnding : Table → (ℕ → Bool) → Sig → Type 0
IsEnding t ends g = (r : ℕ) × (ends r ≡ true) × (g ≡ t.routine r)

module _ (t : Table) (ends : ℕ → Bool) (n : Exec) where
  -- the object of an activation with a frame of this kind that builds or destroys it lies elsewhere, or in what these older ones wait for; or the kind
  -- is that of a destructor
  abbrev pub MadeBy : Sig → Value → List Active → Type 0
  MadeBy g this older = g.whole ≡ true → (c : ℕ) → g.this ≡ Some c →
      (IsElsewhere t n this c ⊎ Unmade t n older this (Raw c)) ⊎ IsEnding t ends g

  -- so it is of these activations
  abbrev pub AllMade : List Sig → List Active → Type 0
  AllMade gs [] = Unit {0}
  AllMade gs (a ∷ older) = ((g : Sig) → at_depth gs a.frame ≡ Some g → MadeBy g a.this older) × AllMade (others gs) older

-- that is claimed of executions
abbrev pub Makings : Table → (ℕ → Bool) → Exec → List Sig → Execution (List Todo) Value → Type 0
Makings t ends n gs x = AllMade t ends n gs (x.run ∷ x.callers)

-- what a step is to find: what builds an object is called at one that lies elsewhere or in what is waited for then; and a main builds none
module _ (t : Table) (ends : ℕ → Bool) (source : Source) (s : State) where
  abbrev pub Builds : ℕ → List Todo → Type 0
  Builds r todo = ends r ≡ false → (q : Routine) → slice_get source.routines r ≡ Some q →
      MadeBy t ends s.env.exec (t.routine r) (top (drop q.params s.run.operands)) (record s.run { control = todo } ∷ s.callers)

  abbrev pub BuildsAt : List Todo → Type 0
  BuildsAt (CallOnNow r ∷ todo) = Builds r todo
  BuildsAt (CallUnwrittenNow r ∷ todo) = Builds r todo
  BuildsAt (SetUpNow r ∷ todo) = (t.routine r).whole ≡ false
  BuildsAt todo = Unit {0}

-- then each step of a sound source keeps that claim, as far as it finds what LawKnown asks; and where it holds, all that is being built or destroyed, by
-- these kinds, lies elsewhere or in what older activations wait for, or has a frame of the kind of a destructor
pub record LawMakings : Type 0 where
  pub steps : (t : Table) (ends : ℕ → Bool) (few : Few) (source : Source) → Sound t source → (s : State) → LifeState t few s →
      (x : ClaimsState t few (Makings t ends) [] s) → Makings t ends s.env.exec x.sigs (stopped s) →
      Finds t few x.sigs x.run.sig x.run.scope s s.run.control x.run.own → BuildsAt t ends source s s.run.control →
      StepBy t few (Claimed (Makings t ends) t few) (ClaimsEnv t few (Makings t ends)) source (quiet source s)
  pub elsewhere : (t : Table) (ends : ℕ → Bool) (n : Exec) (gs : List Sig) (cs : List Active) → AllMade t ends n gs cs →
      (w : Value) (c : ℕ) → InMaking gs cs w (Raw c) →
      (IsElsewhere t n w c ⊎ UnmadeBehind t n cs w (Raw c)) ⊎ ((g : Sig) × (g.this ≡ Some c) × IsEnding t ends g)
