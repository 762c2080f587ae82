-- A task that fills an array of clusters, processors or mutex objects: the elements that are counted hold objects, and all others are loose.
use Rattle.std.specs.Prelude.{◌≡◌, ℕ, suc, pos, ◌<◌, ◌≤◌, List, length, Bool}
use Rattle.uc_entry.specs.declared.request.Request.{Request}
use Rattle.uc_machine.specs.Pieces.{Value, Number, Place, Object, State, top, below, this_frame, variable_at}
use Rattle.uc_machine.specs.Answering.{with_operand}
use Rattle.uc_answer_laws.specs.Suiting.{AnObject, form_of_request}
use Rattle.uc_state_laws.specs.Clusters.{Begins}
use Rattle.uc_state_laws.specs.There.{AllCounted, EndsArray, ElementsLoose, ElementsThere, frame_at}
use Rattle.uc_state_laws.specs.ThereStates.{CountedStack, CountedEnv}
use Rattle.uc_state_laws.specs.Filling.{Kind, Processor, Array, element_at, fill_todo, reached, Stage, Evals, Finds, Names, Indexes, Elements, Found, Nears, Asks, Told}

-- the place of the element that is counted
abbrev pub place_at : ℕ → State → Value
place_at k s = Place (this_frame s) (element_at k s.run.elements)

-- as the request for an object is made, it is the newest operand, below the number of the cluster of a processor
abbrev pub AskingPlace : Kind → Value → List Value → Type 0
AskingPlace (Processor i) v vs = top (below vs) ≡ v
AskingPlace kind v vs = top vs ≡ v

-- what the newest operands are
abbrev pub Finding : Stage → Array → State → Type 0
Finding Indexes x s = top s.run.operands ≡ variable_at x.cell s
Finding Elements x s = (top s.run.operands ≡ Number (pos s.run.elements)) ×
    (top (below s.run.operands) ≡ variable_at x.cell s)
Finding Found x s = top s.run.operands ≡ place_at x.cell s
Finding Nears x s = top s.run.operands ≡ place_at x.cell s
Finding Asks x s = AskingPlace x.kind (place_at x.cell s) s.run.operands
Finding Told x s = ((o : ℕ) × (top s.run.operands ≡ Object o)) ×
    (top (below s.run.operands) ≡ place_at x.cell s)
Finding g x s = Unit {0}

-- an element is to be bound
abbrev pub IsMissing : Stage → (elements count : ℕ) → Type 0
IsMissing Evals elements count = elements < count
IsMissing Finds elements count = elements < count
IsMissing Names elements count = elements < count
IsMissing Indexes elements count = elements < count
IsMissing Elements elements count = elements < count
IsMissing g elements count = Unit {0}

-- a request for an object
abbrev pub AsksObject : Request → Type 0
AsksObject r = form_of_request r ≡ AnObject

module _ (Few : ℕ → Bool) where
  -- all else is there as it is to be
  pub record FillingBy (s : State) : Type 0 where
    pub array : Array
    pub stage : Stage
    pub control : s.run.control ≡ fill_todo stage array
    pub ends : EndsArray array.cell array.ended
    pub begins : Begins array.rest
    pub loose : ElementsLoose (frame_at s.run.frame s.env.frames) array.cell array.count
    pub there : ElementsThere (frame_at s.run.frame s.env.frames) array.cell array.count (reached stage s.run.elements array.count)
    pub missing : IsMissing stage s.run.elements array.count
    pub finding : Finding stage array s
    pub frames : length s.env.frames ≡ suc (length s.callers)
    pub frame : s.run.frame ≤ length s.callers
    pub behind : AllCounted Few (frame_at s.run.frame s.env.frames) array.todo
    pub callers : CountedStack Few s.env.frames s.callers
    pub env : CountedEnv Few s.env

  -- one that has asked for an object goes on so with its number
  abbrev pub FillWaits : State → Type 0
  FillWaits s = (o : ℕ) → FillingBy (with_operand (Object o) s)
