-- A task is as deep in each object as it is owed, or deeper.
use Rattle.std.specs.Prelude.{◌≡◌, ℕ, ◌<◌, ◌⊎◌, slice_get, List, ◌∷◌, Some, None, Bool, true, false}
use Rattle.uc_tree.specs.Source.{Source, routine_of}
use Rattle.uc_entry.specs.Keyed.{find}
use Rattle.uc_entry.specs.declared.request.Answer.{Answer}
use Rattle.uc_entry.specs.declared.request.Answer.TheVariants as answer
use Rattle.uc_entry.specs.declared.request.Request.{Request}
use Rattle.uc_entry.specs.declared.request.Request.TheVariants as ask
use Rattle.uc_machine.specs.declared.exec.Home.{Home}
use Rattle.uc_machine.specs.declared.exec.Home.TheVariants as home
use Rattle.uc_machine.specs.Insides.{has_engaged}
use Rattle.uc_machine.specs.Pieces.{Active, object_in}
use Rattle.uc_machine.specs.Quiet.{State, Members, quiet, first_state}
use Rattle.uc_machine.specs.Answering.{answered, child_of, with_hand}
use Rattle.uc_depth_laws.specs.Entering.{Aspect, Other, is_holding, EnteredSource}
use Rattle.uc_depth_laws.specs.Owing.{Tests, marks, EngagedParked, Free, Redrawn, IsInside, Deep, DeepAsk, DeepStep, Fair, Sole, Alone}

-- an answer to a request: what is called is not where the running execution is at home; an object that is made is none of those in which the task
-- is, new, and another; and what has gone is in its hand no more
abbrev pub Suits : Tests → Request → Answer → State → Type 0
Suits news (ask.Call o m) a s = (a ≡ answer.Go) × (s.env.exec.home ≡ home.Object o → ⊥)
Suits news ask.Slice a s = a ≡ answer.Go
Suits news (ask.Make c) a s = (o : ℕ) × (a ≡ answer.Object o) × (find o s.env.depths ≡ None) × ((k : Aspect) → news s.env.exec.home k o ≡ true)
Suits news (ask.Gone o) a s = find o s.env.hand ≡ None
Suits news ask.End a s = ⊥
Suits news (ask.Fault f) a s = ⊥
Suits news r a s = Unit {0}

abbrev pub TellsOthers : Tests → State → Type 0
TellsOthers news s =
    (q : ℕ) → (s.env.own ≡ q → ⊥) → (s.env.exec.home ≡ home.Object q → ⊥) → news s.env.exec.home Other q ≡ true

-- of any source in which objects are entered, and whichever objects are new
pub record LawSteps : Type 0 where
  -- a task begins so, inside its own object
  pub begins : (source : Source) → EnteredSource source → (news : Tests) (r o : ℕ) →
      is_holding source r ≡ false → Deep source news (first_state (routine_of source r) o)
  -- so does one that is spawned
  pub born : (source : Source) → EnteredSource source → (news now : Tests) (o n : ℕ) (s : State) →
      DeepAsk source news (ask.Spawn o) s → Deep source now (child_of source n s)
  -- each quiet step keeps it, where all objects are others but the own one and that in which the running execution is at home
  pub steps : (source : Source) → EnteredSource source → (news : Tests) (s : State) →
      TellsOthers news s → Deep source news s → Fair source s → DeepStep source news s (quiet source s)
  -- and each answer
  pub told : (source : Source) (news : Tests) (r : Request) (given : Answer) (s : State) →
      DeepAsk source news r s → Suits news r given s → Deep source news (answered source given s)

-- whoever has a mark in the running activation, or in one that waits for it, is inside the object of that, and inside its own object
pub record LawInside : Type 0 where
  pub marked : (source : Source) (news : Tests) (s : State) → Deep source news s → (n : ℕ)
      (a : Active) → slice_get (s.run ∷ s.callers) n ≡ Some a → 0 < marks a.control →
      IsInside (object_in a.this) s.env
  pub own : (source : Source) (news : Tests) (s : State) → Deep source news s →
      IsInside s.env.own s.env

-- what does not run in an object where nothing is engaged owes nothing
abbrev pub LawFree : Type 0
LawFree =
    (source : Source) (tells : Aspect → ℕ → Bool) (m : Members) → EngagedParked source tells m.parked →
    has_engaged (Some m) ≡ false → Free source m

-- a hand that is drawn anew keeps it, for a task that goes on and for one that has asked something
pub record LawDrawn : Type 0 where
  pub goes : (source : Source) (news : Tests) (hand : List (ℕ × Members)) (s : State) →
      Deep source news s → Redrawn source s.env.hand hand → Deep source news (with_hand hand s)
  pub asked : (source : Source) (news : Tests) (r : Request) (hand : List (ℕ × Members)) (s : State) →
      DeepAsk source news r s → Redrawn source s.env.hand hand →
      DeepAsk source news r (with_hand hand s)

-- so do other tests, which tell at least as much; and behind what spawns an object one may be left out that it spawns
pub record LawRenewed : Type 0 where
  pub asked : (source : Source) (news now : Tests) → ((h : Home) (k : Aspect) (q : ℕ) → news h k q ≡ true → now h k q ≡ true) →
      (r : Request) (s : State) → DeepAsk source news r s → DeepAsk source now r s
  pub spawned : (source : Source) (news now : Tests) (o : ℕ) →
      ((h : Home) (k : Aspect) (q : ℕ) → news h k q ≡ true → (o ≡ q) ⊎ (now h k q ≡ true)) → (s : State) →
      DeepAsk source news (ask.Spawn o) s → Deep source now s

-- who lets go of an object has no other mark of it in the running activation, and what is built or destroyed is new, or another: so nothing else is
-- owed to the object as soon as what does not run owes it nothing. The own object is neither
abbrev pub LawAlone : Type 0
LawAlone =
    (source : Source) (news : Tests) (s : State) → Deep source news s →
    ((k : Aspect) → news s.env.exec.home k s.env.own ≡ false) →
    Alone source s → Sole source s
