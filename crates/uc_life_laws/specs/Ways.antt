-- What is left to find of steps that take marks away, where destructors are called as clean-ups tell.
use Rattle.std.specs.Prelude.{◌≡◌, ℕ, suc, ◌<◌, Bool, false, List, ◌∷◌, Some, nat_lt}
use Rattle.uc_tree.specs.Source.{Source, Expr, Load, OfObject, EndOn, CleanUp, Destroys, Forgets}
use Rattle.uc_machine.specs.declared.exec.Exec.{Exec}
use Rattle.uc_machine.specs.declared.exec.Owner.TheVariants.{Frame}
use Rattle.uc_machine.specs.Pieces as piece
use Rattle.uc_machine.specs.Pieces.{Value, Place, Object, Todo, Sort, sort, State, loaded, own_exec}
use Rattle.uc_machine.specs.Quiet.{MOST_ELEMENTS}
use Rattle.uc_life_laws.specs.Destroying.{Destroying, AtPlace, AtElement}
use Rattle.uc_life_laws.specs.Held.{Seating, HeldState, IsOwn, Takes, Recounts, TakesAt, TakesNow}

-- a coroutine that lies in a frame names its execution, which is at home where the running one is
abbrev pub NamesHere : Exec → State → Value → Type 0
NamesHere x s (Place (Frame m d) p) = (own_exec s ≡ Some x) × (x.home ≡ s.env.exec.home)
NamesHere x s v = Unit {0}

module _ (source : Source) (seats : Seating) (up : Exec → Bool) where
  -- the execution of the coroutine at hand is not up any more
  abbrev pub IsForgotten : State → Type 0
  IsForgotten s = (x : Exec) → IsOwn source seats up s x → (seats.seat x).task ≡ false → s.run.this ≡ (seats.seat x).place →
      NamesHere x s s.run.this → ⊥

  -- a destructor that comes to the end of this execution, of a mutex object that is at home at the place at which that is called: that object is read there
  abbrev pub ReadsEnded : Exec → Expr → State → Type 0
  ReadsEnded x (OfObject (EndOn d written (Load p))) s = (o : ℕ) →
      AtPlace source (seats.seat x) s.env.exec s.run.frame s.run.this (λ v. (seats.seat x).home o ≡ v) p →
      Destroying source (seats.seat x) d (Object o) →
      AtPlace source (seats.seat x) s.env.exec s.run.frame s.run.this (λ v. loaded v s.env ≡ Object o) p
  ReadsEnded x e s = Unit {0}

  -- so it is at the last element that stands
  abbrev pub ReadsLast : Exec → Expr → State → Type 0
  ReadsLast x (OfObject (EndOn d written (Load p))) s = (j : ℕ) → s.run.elements ≡ suc j → (o : ℕ) →
      AtElement source (seats.seat x) s.env.exec s.run.frame s.run.this (λ v. (seats.seat x).home o ≡ v) j p →
      Destroying source (seats.seat x) d (Object o) →
      AtElement source (seats.seat x) s.env.exec s.run.frame s.run.this (λ v. loaded v s.env ≡ Object o) j p
  ReadsLast x e s = Unit {0}

  -- a clean-up is reached
  abbrev pub ForgetsBy : CleanUp → State → Type 0
  ForgetsBy Forgets s = IsForgotten s
  ForgetsBy (Destroys e) s = (x : Exec) → IsOwn source seats up s x → ReadsEnded x e s
  ForgetsBy c s = Unit {0}

  -- it is done behind an event
  abbrev pub UnwindsBy : Sort → State → Type 0
  UnwindsBy (piece.IsClean c) s = ForgetsBy c s
  UnwindsBy (piece.IsPart c) s = ForgetsBy c s
  UnwindsBy k s = Unit {0}

  -- an exit leaves a part of an object, and elements
  abbrev pub ExitsBy : Sort → List Todo → State → Type 0
  ExitsBy (piece.IsPart c) todo s = Takes source seats up s (piece.IsPart c) todo
  ExitsBy (piece.IsFill m b d) todo s = Takes source seats up s (piece.IsFill m b d) todo
  ExitsBy (piece.IsSweep d) todo s = Takes source seats up s (piece.IsSweep d) todo
  ExitsBy k todo s = Unit {0}

  -- an execution is up no more where its coroutine is forgotten, or the object of its task goes; where the destructor of a mutex object is called that comes to
  -- the end of one, that object is read there; where a part of an object is left as that is built, where all elements of an array are, and
  -- where an exit leaves what is being built or destroyed, those that it held are held soon; no other elements are counted where some are counted anew;
  -- where a main ends, nothing is left behind it; one that is made next has made none; and no first cell starts anew, or goes with its frame, that names one
  abbrev pub LeavesAt : List Todo → State → Type 0
  LeavesAt (piece.Clean c ∷ todo) s = ForgetsBy c s
  LeavesAt (piece.Part c ∷ todo) s = Takes source seats up s (piece.IsPart c) todo
  LeavesAt (piece.FillNow m b d ∷ todo) s = nat_lt s.run.elements m ≡ false → Takes source seats up s (piece.IsFill m b d) todo
  LeavesAt (piece.Sweep d ∷ todo) s = ((x : Exec) → IsOwn source seats up s x → ReadsLast x d s) × Recounts source seats up s todo
  LeavesAt (piece.CountNow m ∷ (piece.FillNow k b d ∷ todo)) s = Recounts source seats up s todo
  LeavesAt (piece.CountNow m ∷ todo) s = Recounts source seats up s todo
  LeavesAt (piece.MoreNow ∷ todo) s = s.run.elements < MOST_ELEMENTS
  LeavesAt (piece.Unwind ∷ (p ∷ todo)) s = UnwindsBy (sort p) s
  LeavesAt (piece.Exit way ∷ (p ∷ todo)) s = ExitsBy (sort p) todo s
  LeavesAt todo s = TakesAt source seats up todo s

  abbrev pub LeavesNow : State → Type 0
  LeavesNow s = LeavesAt s.run.control s

-- then each step leads on as it is to, where those that are up are held
abbrev pub LawWays : Type 0
LawWays = (source : Source) (seats : Seating) (up : Exec → Bool) (s : State) → HeldState source seats up s →
    LeavesNow source seats up s → TakesNow source seats up s
