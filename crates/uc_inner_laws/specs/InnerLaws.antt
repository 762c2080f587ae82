-- Whoever waits, signals or accepts in an object is inside it, and a new object finds its place.
use Rattle.std.specs.Prelude.{◌≡◌, ℕ, ◌<◌, ◌⊎◌, true, false, List, ◌∷◌, length, is_some}
use Rattle.uc_tree.specs.Source.{Source, routine_of}
use Rattle.uc_entry.specs.Keyed.{find}
use Rattle.uc_entry.specs.declared.request.Answer.{Answer}
use Rattle.uc_entry.specs.declared.request.Answer.TheVariants as answer
use Rattle.uc_machine.specs.declared.exec.Home.TheVariants as home
use Rattle.uc_entry.specs.declared.request.Request.{Request}
use Rattle.uc_entry.specs.declared.request.Request.TheVariants as ask
use Rattle.uc_machine.specs.Pieces.{Todo, MakeNow}
use Rattle.uc_machine.specs.Quiet.{State, Asks, quiet, first_state}
use Rattle.uc_machine.specs.Answering.{answered}
use Rattle.uc_machine.specs.Insides.{is_held_up}
use Rattle.uc_answer_laws.specs.Suiting.{IsForm, form_of_request}
use Rattle.uc_depth_laws.specs.Owing.{Tests, IsInside, Deep, Sole, Fair}
use Rattle.uc_inner_laws.specs.Inner.{Part, Maker, params, InnerSource}
use Rattle.uc_inner_laws.specs.Standing.{Calls, GivesUp, brings, StandsWith, StandsState, StandsStep}
use Rattle.uc_depth_laws.specs.Entering.{IsMain}

-- an object that is made is not where the running execution is at home
abbrev pub IsElsewhere : Request → Answer → State → Type 0
IsElsewhere (ask.Make c) (answer.Object o) s = s.env.exec.home ≡ home.Object o → ⊥
IsElsewhere r given s = Unit {0}

-- of any source that waits, signals and accepts only where its tasks are inside the object at hand: each task begins so, and each step and
-- each answer keep it
pub record LawSteps : Type 0 where
  pub begins : (part : ℕ → Part) (source : Source) → InnerSource part source → (r o : ℕ) →
      IsMain source r → StandsState part source o (first_state (routine_of source r) o)
  pub steps : (part : ℕ → Part) (source : Source) → InnerSource part source → (mine : ℕ) (s : State) →
      StandsState part source mine s → StandsStep part source mine s (quiet source s)
  pub told : (part : ℕ → Part) (source : Source) (mine : ℕ) (r : Request) (given : Answer) (s : State) →
      StandsWith part source mine (brings r) s → IsForm (form_of_request r) given →
      IsElsewhere r given s → StandsState part source mine (answered source given s)

-- so what a step asks for where it waits, lets others in or accepts, is an object in which the task is; where it only signals or asks for
-- conditions, that or one that it has in hand, as the running execution is at home there; at its end nothing holds a task up in its own
-- object; and it is not at home in an object whose building it gives up
abbrev pub IsAt : Request → State → State → Type 0
IsAt (ask.Wait o c n) s t = IsInside o s.env
IsAt (ask.SignalBlock o c) s t = IsInside o s.env
IsAt (ask.Accept o site mask) s t = IsInside o s.env
IsAt (ask.Signal o c) s t = IsInside o s.env ⊎ (is_some (find o t.env.hand) ≡ true)
IsAt (ask.Empty o c) s t = IsInside o s.env ⊎ (is_some (find o t.env.hand) ≡ true)
IsAt (ask.Front o c) s t = IsInside o s.env ⊎ (is_some (find o t.env.hand) ≡ true)
IsAt (ask.Gone o) s t = GivesUp s.run.control → t.env.exec.home ≡ home.Object o → ⊥
IsAt ask.End s t = is_held_up s.env.own t.env ≡ false
IsAt r s t = Unit {0}

abbrev pub LawInside : Type 0
LawInside =
    (part : ℕ → Part) (source : Source) → InnerSource part source → (mine : ℕ) (news : Tests)
    (s : State) → StandsState part source mine s → Deep source news s → (r : Request) (t : State) →
    quiet source s ≡ Asks r t → IsAt r s t

-- and each step finds what the laws of depths ask, as soon as nothing else is owed to an object that is let go of however deep the task is
abbrev pub LawFair : Type 0
LawFair =
    (part : ℕ → Part) (source : Source) (mine : ℕ) (s : State) → StandsState part source mine s →
    Sole source s → Fair source s

-- who makes an object calls next what builds it, a routine that is called for that alone, and has the place of the object below its arguments
abbrev pub LawMakes : Type 0
LawMakes =
    (part : ℕ → Part) (source : Source) (mine : ℕ) (s : State) → StandsState part source mine s →
    (c r : ℕ) (todo : List Todo) → s.run.control ≡ MakeNow c r ∷ todo →
    (part r ≡ Maker) × Calls r todo × (params part source r < length s.run.operands)
