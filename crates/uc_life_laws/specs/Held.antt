-- Executions that others have to end: of each a mark stands for what destroys its coroutine, in what the one that made it is to clean up, and outwards of
-- that mark what was there before the coroutine was built. Quiet steps may lead to where such a mark stands. And where the coroutine lies in a frame of the
-- one that made it, its first cell names the execution.
use Rattle.std.specs.Prelude.{◌≡◌, ℕ, zero, suc, ◌<◌, ◌≤◌, ◌⊎◌, Bool, true, false, List, [], ◌∷◌, length, slice_index_or, Some}
use Rattle.uc_tree.specs.Source.{Source, Stmts, Scoped, Built}
use Rattle.uc_entry.specs.declared.request.Request.{Request}
use Rattle.uc_entry.specs.declared.request.Request.TheVariants as ask
use Rattle.uc_machine.specs.declared.exec.Exec.{Exec}
use Rattle.uc_machine.specs.declared.exec.Owner.TheVariants.{Frame}
use Rattle.uc_machine.specs.Executions.{Execution, members_at}
use Rattle.uc_machine.specs.Switches.{new_exec}
use Rattle.uc_machine.specs.Pieces as piece
use Rattle.uc_machine.specs.Pieces.{Link, Value, Place, Running, Todo, Sort, sort, Active, State, Env, Members, Step, Goes, Ticks, Asks, address, nought}
use Rattle.uc_machine.specs.Quiet.{quiet, home_at}
use Rattle.uc_answer_laws.specs.Suiting.{Form, JustGo, form_of_request}
use Rattle.uc_life_laws.specs.LifeStates.{EnvBy, frame_at}
use Rattle.uc_life_laws.specs.Placed.{Placed, placed, stacked, Ends}
use Rattle.uc_life_laws.specs.Outermost.{outermost, outer_elements}
use Rattle.uc_life_laws.specs.Destroying.{Seat, EndsElement, EndsBelow, CleansUp}

-- by whom each execution was made, where its coroutine is, and marks that were there before that was built
pub record Seating : Type 0 where
  pub parent : Exec → Exec
  pub seat : Exec → Seat
  pub before : Exec → List Placed

-- lines alone
abbrev pub AreLines : List Todo → Type 0
AreLines [] = Unit {0}
AreLines (piece.Within line ∷ todo) = AreLines todo
AreLines todo = ⊥

-- what this step does makes no other execution run
abbrev pub NoMain : Sort → Type 0
NoMain piece.IsFinishCoroutine = ⊥
NoMain k = Unit {0}

-- in frames of the execution n, of which it has one more than activations that wait: the first cell of a coroutine, which is at home where n is, names the
-- execution x
pub record IsNamedIn (n : Exec) (cs : List Active) (fs : List (List Value)) (x m : Exec) (d : ℕ) (p : List Link) : Type 0 where
  pub own : m ≡ n
  pub home : x.home ≡ n.home
  pub frames : length fs ≡ suc (length cs)
  pub there : d ≤ length cs
  pub names : slice_index_or (frame_at d fs) (address p) nought ≡ Running x

-- of a coroutine that lies in no frame nothing is told
abbrev pub NamedAt : Exec → List Active → List (List Value) → Exec → Value → Type 0
NamedAt n cs fs x (Place (Frame m d) p) = IsNamedIn n cs fs x m d p
NamedAt n cs fs x v = Unit {0}

-- `w`: where the coroutine is, `ps`: those marks, `n`: who made it
module _ (source : Source) (w : Seat) (ps : List Placed) (n : Exec) where
  -- these marks are outermost behind a mark of this sort, in an activation of this frame and object with this to do behind it, before older ones; and where
  -- that is of a part of an object under construction, outwards of all that is under construction
  abbrev pub IsOuter : ℕ → Value → Sort → List Todo → List Active → Type 0
  IsOuter f this (piece.IsPart c) todo older = Ends ps (outermost older)
  IsOuter f this (piece.IsFill m b d) todo older = Ends ps (outer_elements f this todo (stacked older) (outermost older))
  IsOuter f this k todo older = Ends ps (placed f this todo (stacked older))

  -- where so many elements stand: a mark of this sort, before these marks, is of what destroys the coroutine
  abbrev pub Holds : ℕ → Value → ℕ → Sort → List Todo → List Active → Type 0
  Holds f this e (piece.IsClean c) todo older = CleansUp source w n f this c × IsOuter f this (piece.IsClean c) todo older
  Holds f this e (piece.IsPart c) todo older = CleansUp source w n f this c × IsOuter f this (piece.IsPart c) todo older
  Holds f this e (piece.IsFill m b d) todo older = EndsBelow source w n f this e d × IsOuter f this (piece.IsFill m b d) todo older
  Holds f this e (piece.IsSweep d) todo older = EndsBelow source w n f this e d × IsOuter f this (piece.IsSweep d) todo older
  Holds f this e k todo older = ⊥

  -- it is, or one behind it is
  abbrev pub HeldBy : ℕ → Value → ℕ → Sort → List Todo → List Active → Type 0 → Type 0
  HeldBy f this e (piece.IsClean c) todo older rest = Holds f this e (piece.IsClean c) todo older ⊎ rest
  HeldBy f this e (piece.IsPart c) todo older rest = Holds f this e (piece.IsPart c) todo older ⊎ rest
  HeldBy f this e (piece.IsFill m b d) todo older rest = Holds f this e (piece.IsFill m b d) todo older ⊎ rest
  HeldBy f this e (piece.IsSweep d) todo older rest = Holds f this e (piece.IsSweep d) todo older ⊎ rest
  HeldBy f this e k todo older rest = rest

  -- so it is of one in a to-do list; elements that are about to be built are none yet, whatever is counted
  abbrev pub HeldIn : ℕ → Value → ℕ → List Active → Type 0 → List Todo → Type 0
  HeldIn f this e older rest [] = rest
  HeldIn f this e older rest (piece.CountNow m ∷ (piece.FillNow k b d ∷ todo)) = HeldIn f this e older rest todo
  HeldIn f this e older rest (p ∷ todo) = HeldBy f this e (sort p) todo older (HeldIn f this e older rest todo)

  abbrev pub Held : List Active → Type 0
  Held [] = ⊥
  Held (a ∷ older) = HeldIn a.frame a.this a.elements older (Held older) a.control

  -- who waits first is to clean up what comes to the end of it: the scope of that opens next behind what it waits for, it becomes a part, or one more element
  abbrev pub Opens : ℕ → Value → Stmts → Type 0
  Opens f this (Scoped c rest) = CleansUp source w n f this c
  Opens f this (Built c rest) = CleansUp source w n f this c
  Opens f this ss = ⊥

  abbrev pub WaitsBy : ℕ → Value → ℕ → List Todo → Type 0
  WaitsBy f this e (piece.DropNow ∷ (piece.Within line ∷ (piece.Rest ss ∷ todo))) = Opens f this ss
  WaitsBy f this e (piece.DropNow ∷ (piece.MoreNow ∷ (piece.FillNow m b d ∷ todo))) = EndsElement source w n f this e d
  WaitsBy f this e todo = ⊥

  abbrev pub Waits : List Active → Type 0
  Waits [] = ⊥
  Waits (b ∷ older) = WaitsBy b.frame b.this b.elements b.control

  -- the same execution goes on behind a step, no cells start anew, and an activation ends where who waits for it has that to clean up
  abbrev pub Stays : List Active → List Todo → Type 0
  Stays cs [] = Waits cs
  Stays cs (piece.ClearNow k m ∷ todo) = ⊥
  Stays cs (piece.Exit way ∷ []) = ⊥
  Stays cs (piece.TakeDownNow ∷ todo) = ⊥
  Stays cs (piece.ResumeNow ∷ todo) = ⊥
  Stays cs (piece.SuspendNow ∷ todo) = ⊥
  Stays cs (piece.Finish ∷ todo) = ⊥
  Stays cs (piece.FinishCoroutine ∷ todo) = ⊥
  Stays cs (piece.Unwind ∷ []) = ⊥
  Stays cs (piece.Unwind ∷ (p ∷ todo)) = NoMain (sort p)
  Stays cs todo = Unit {0}

  -- behind a step who runs goes on so, and so behind a tick or a bare answer; nothing is asked behind a fault
  abbrev pub AskOnwards : (Active → List Active → Type 0) → Request → State → Type 0
  AskOnwards Q (ask.Fault m) u = Unit {0}
  AskOnwards Q r u = (form_of_request r ≡ JustGo) × (u.env.exec ≡ n) × Q u.run u.callers

  abbrev pub Onwards : (State → Type 0) → (Active → List Active → Type 0) → Step → Type 0
  Onwards P Q (Goes u) = (u.env.exec ≡ n) × P u
  Onwards P Q (Ticks u) = (u.env.exec ≡ n) × Q u.run u.callers
  Onwards P Q (Asks r u) = AskOnwards Q r u

  -- so many steps, whatever else there is in the task, lead to where such a mark stands
  abbrev pub SoonIn : ℕ → Active → List Active → Type 0
  SoonIn zero a cs = Held (a ∷ cs)
  SoonIn (suc k) a cs = Stays cs a.control × Ends ps (stacked (a ∷ cs)) ×
      ((e : Env) → e.exec ≡ n → Onwards (λ u. SoonIn k u.run u.callers) (SoonIn k) (quiet source (record { run = a; callers = cs; env = e })))

  abbrev pub Soon : Active → List Active → Type 0
  Soon a cs = (k : ℕ) × SoonIn k a cs

  -- so many steps from this state lead to where it is so
  abbrev pub SoonFrom : ℕ → State → Type 0
  SoonFrom zero s = Soon s.run s.callers
  SoonFrom (suc k) s = Stays s.callers s.run.control × Ends ps (stacked (s.run ∷ s.callers)) × Onwards (SoonFrom k) Soon (quiet source s)

  -- the object of the task at hand goes next, before these marks
  abbrev pub GoesNext : List Todo → Active → List Active → Type 0
  GoesNext (piece.GoneNow ∷ todo) a cs = (w.task ≡ true) × (a.this ≡ w.place) × Ends ps (stacked (a ∷ cs))
  GoesNext todo a cs = ⊥

  abbrev pub SoonHere : State → Type 0
  SoonHere s = ((k : ℕ) × SoonFrom k s) ⊎ GoesNext s.run.control s.run s.callers

  -- behind a request others may run first: such a mark stands, or bare answers are enough
  abbrev pub SoonAsked : Form → Active → List Active → Type 0
  SoonAsked form a cs = Held (a ∷ cs) ⊎ ((form ≡ JustGo) × Soon a cs)

-- `up x`: of this execution it is asked
module _ (source : Source) (seats : Seating) (up : Exec → Bool) where
  -- those that an execution of this name has made are held by what it has to do
  abbrev pub AllHeld : Exec → List Active → Type 0
  AllHeld n cs = (x : Exec) → up x ≡ true → seats.parent x ≡ n → Held source (seats.seat x) (seats.before x) n cs

  -- those of its coroutines that lie in its frames name them
  abbrev pub AllNamed : Exec → List Active → List (List Value) → Type 0
  AllNamed n cs fs = (x : Exec) → up x ≡ true → seats.parent x ≡ n → (seats.seat x).task ≡ false →
      NamedAt n cs fs x (seats.seat x).place

  abbrev pub HeldEx : Exec → Execution (List Todo) Value → Type 0
  HeldEx n y = AllHeld n (y.run ∷ y.callers) × AllNamed n y.callers y.frames

  pub record HeldState (s : State) : Type 0 where
    pub soon : (x : Exec) → up x ≡ true → seats.parent x ≡ s.env.exec → SoonHere source (seats.seat x) (seats.before x) s.env.exec s
    pub named : AllNamed s.env.exec s.callers s.env.frames
    pub env : EnvBy HeldEx s.env

  -- one that has asked for an answer of this form
  pub record HeldAsked (form : Form) (s : State) : Type 0 where
    pub soon : (x : Exec) → up x ≡ true → seats.parent x ≡ s.env.exec → SoonAsked source (seats.seat x) (seats.before x) s.env.exec form s.run s.callers
    pub named : AllNamed s.env.exec s.callers s.env.frames
    pub env : EnvBy HeldEx s.env

  abbrev pub HeldAsk : Request → State → Type 0
  HeldAsk (ask.Fault m) s = Unit {0}
  HeldAsk r s = HeldAsked (form_of_request r) s

  abbrev pub HeldStep : Step → Type 0
  HeldStep (Goes s) = HeldState s
  HeldStep (Ticks s) = HeldAsked JustGo s
  HeldStep (Asks r s) = HeldAsk r s

  -- what a step takes away

  module _ (s : State) where
    -- an execution that is up was made by who runs
    abbrev pub IsOwn : Exec → Type 0
    IsOwn x = (up x ≡ true) × (seats.parent x ≡ s.env.exec)

    -- the step leads to where such a mark stands
    abbrev pub LeadsSoon : Exec → Type 0
    LeadsSoon x = Onwards source (seats.seat x) (seats.before x) s.env.exec (SoonHere source (seats.seat x) (seats.before x) s.env.exec) (Soon source (seats.seat x) (seats.before x) s.env.exec) (quiet source s)

    abbrev pub HoldsNow : Exec → Sort → List Todo → Type 0
    HoldsNow x k todo = Holds source (seats.seat x) (seats.before x) s.env.exec s.run.frame s.run.this s.run.elements k todo s.callers

    -- a mark of this sort is taken away
    abbrev pub Takes : Sort → List Todo → Type 0
    Takes k todo = (x : Exec) → IsOwn x → HoldsNow x k todo → LeadsSoon x

    -- the number of elements changes for these marks
    abbrev pub OfCounted : Exec → Sort → List Todo → Type 0 → Type 0
    OfCounted x (piece.IsFill m b d) todo rest = HoldsNow x (piece.IsFill m b d) todo ⊎ rest
    OfCounted x (piece.IsSweep d) todo rest = HoldsNow x (piece.IsSweep d) todo ⊎ rest
    OfCounted x k todo rest = rest

    abbrev pub HoldsCounted : Exec → List Todo → Type 0
    HoldsCounted x [] = ⊥
    HoldsCounted x (piece.CountNow m ∷ (piece.FillNow k b d ∷ todo)) = HoldsCounted x todo
    HoldsCounted x (p ∷ todo) = OfCounted x (sort p) todo (HoldsCounted x todo)

    abbrev pub Recounts : List Todo → Type 0
    Recounts todo = (x : Exec) → IsOwn x → HoldsCounted x todo → LeadsSoon x

    -- it is held now; who waits has that to clean up
    abbrev pub IsHeld : Exec → Type 0
    IsHeld x = Held source (seats.seat x) (seats.before x) s.env.exec (s.run ∷ s.callers)

    abbrev pub IsWaitedFor : Exec → Type 0
    IsWaitedFor x = Waits source (seats.seat x) (seats.before x) s.env.exec s.callers

    -- this holds of the depth and the cell of each coroutine in a frame of who runs, of which that is so
    abbrev pub Spares : (Exec → Type 0) → (ℕ → ℕ → Type 0) → Type 0
    Spares Q P = (x : Exec) → IsOwn x → (seats.seat x).task ≡ false → Q x → (d : ℕ) (p : List Link) →
        (seats.seat x).place ≡ Place (Frame s.env.exec d) p → P d (address p)

    -- cells of the frame at hand that start anew lie behind it; the frame that is let go of is another one
    abbrev pub ClearsBehind : ℕ → Type 0
    ClearsBehind k = Spares IsHeld (λ d cell. d ≡ s.run.frame → cell < k)

    abbrev pub LetsGo : Type 0
    LetsGo = Spares (λ x. IsHeld x ⊎ IsWaitedFor x) (λ d cell. (s.callers ≡ []) ⊎ (d < length s.callers))

  -- the object at hand is of no task whose main is up
  abbrev pub IsNoTask : State → Type 0
  IsNoTask s = (x : Exec) → IsOwn s x → (seats.seat x).task ≡ true → s.run.this ≡ (seats.seat x).place → ⊥

  -- what is to hold of such a step: where a mark is reached, passed by an unwinding or by an exit, or elements are counted anew, each execution that it was to
  -- end is held soon; where an object goes, it is of no task whose main is up; where a main ends, nothing is left behind it; one that is made next has
  -- made none; and no first cell starts anew, or goes with its frame, that names one
  abbrev pub TakesAt : List Todo → State → Type 0
  TakesAt [] s = LetsGo s
  TakesAt (piece.ClearNow k m ∷ todo) s = ClearsBehind s k
  TakesAt (piece.Clean c ∷ todo) s = Takes s (piece.IsClean c) todo
  TakesAt (piece.Part c ∷ todo) s = Takes s (piece.IsPart c) todo
  TakesAt (piece.FillNow m b d ∷ todo) s = Takes s (piece.IsFill m b d) todo
  TakesAt (piece.Sweep d ∷ todo) s = Takes s (piece.IsSweep d) todo × Recounts s todo
  TakesAt (piece.CountNow m ∷ (piece.FillNow k b d ∷ todo)) s = Recounts s todo
  TakesAt (piece.CountNow m ∷ todo) s = Recounts s todo
  TakesAt (piece.MoreNow ∷ todo) s = Recounts s todo
  TakesAt (piece.Unwind ∷ []) s = LetsGo s
  TakesAt (piece.Unwind ∷ (p ∷ todo)) s = Takes s (sort p) todo
  TakesAt (piece.Exit way ∷ []) s = LetsGo s
  TakesAt (piece.Exit way ∷ (p ∷ todo)) s = Takes s (sort p) todo
  TakesAt (piece.GoneNow ∷ todo) s = IsNoTask s
  TakesAt (piece.Finish ∷ todo) s = AreLines todo × LetsGo s
  TakesAt (piece.SetUpNow r ∷ todo) s = (m : Members) → members_at (home_at s.run.this s.env) s.env ≡ Some m →
      (x : Exec) → up x ≡ true → seats.parent x ≡ new_exec (home_at s.run.this s.env) s.env → ⊥
  TakesAt todo s = Unit {0}

  abbrev pub TakesNow : State → Type 0
  TakesNow s = TakesAt s.run.control s
