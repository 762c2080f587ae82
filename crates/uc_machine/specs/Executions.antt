-- Activations, executions, where they are at home, and what holds the values of a task: one family for the source and for
-- code. C is what an activation has to do, V what a cell holds.
use Rattle.std.specs.Prelude.{ℕ, zero, suc, ◌+◌, ◌-◌, List, [], ◌∷◌, ◌++◌, length, take, drop, replicate, Option, Some, None, Bool, true, false, nat_eq, if◌then◌else◌, slice_index_or, slice_set}
use Rattle.uc_machine.specs.declared.exec.Exec.{Exec}
use Rattle.uc_machine.specs.declared.exec.Home.{Home}
use Rattle.uc_machine.specs.declared.exec.Home.TheVariants.{Task, Object}
use Rattle.uc_machine.specs.declared.exec.Owner.{Owner}
use Rattle.uc_machine.specs.declared.exec.Owner.TheVariants.{Frame, Fields}
use Rattle.uc_machine.specs.declared.exec.Stage.{Stage}
use Rattle.uc_machine.specs.declared.exec.Stage.TheVariants.{Started}
use Rattle.uc_machine.specs.declared.exec.Pending.{Pending}
use Rattle.uc_machine.specs.declared.exec.UnwindReason.{UnwindReason}
use Rattle.uc_machine.specs.declared.exec.Visited.{Visited}
use Rattle.uc_entry.specs.declared.request.Piece.{Piece}
use Rattle.uc_entry.specs.Keyed.{find}

-- what travels with an execution besides its stack
pub record Links : Type 0 where
  -- who resumed it first, and last
  pub starter : Option Exec
  pub resumer : Option Exec
  -- whether its coroutine is live, and how far its main is
  pub live : Bool
  pub stage : Stage
  -- who destroys its coroutine, while it is unwound for that
  pub destroyer : Option Exec
  -- the enabled events, by their numbers as bits
  pub enabled : ℕ
  -- its pending events, oldest first
  pub pending : List Pending
  -- its active calls, its mutex calls that were admitted and have not left, and the mutex objects that it builds
  pub calls : ℕ
  pub mutex_calls : ℕ
  pub builds : ℕ

-- an activation (of a routine or a handler): what is to do in it, its operands (the newest first), the object of a member's
-- call, the depth of the frame whose variables it uses, whether it counts as an active call, how many elements stand of the array
-- that it builds or destroys, how far the search came where it handles a resumption, why it is unwound, and what a return that
-- unwinds it hands over
pub record Activation (C V : Type 0) : Type 0 where
  pub control : C
  pub operands : List V
  pub this : V
  pub frame : ℕ
  pub counts : Bool
  pub elements : ℕ
  pub handles : Option Visited
  pub raised : Option UnwindReason
  pub result : V

-- an execution that does not run: its newest activation, those that wait for it (the newest first), its frames (the newest
-- first) and its links
pub record Execution (C V : Type 0) : Type 0 where
  pub run : Activation C V
  pub callers : List (Activation C V)
  pub frames : List (List V)
  pub links : Links

-- what is at home in a mutex object or in a task: the fields, how many executions were made there, and those that are left, with nothing for the one that runs
pub record Members (C V : Type 0) : Type 0 where
  pub values : List V
  pub serial : ℕ
  pub parked : List (ℕ × Option (Execution C V))

-- all of a task and its hand but the activations of the running execution
pub record Env (C V : Type 0) : Type 0 where
  pub frames : List (List V)
  pub links : Links
  -- the running execution, the task's own object, and what is at home in the task
  pub exec : Exec
  pub own : ℕ
  pub house : Members C V
  -- the task's depth in each object
  pub depths : List (ℕ × ℕ)
  -- the objects that the task is inside, with what is at home there
  pub hand : List (ℕ × Members C V)
  -- the items that are gathered to be printed at once, the first one first
  pub gathered : Option (List Piece)

-- a task with its hand: the running execution is spread out
pub record State (C V : Type 0) : Type 0 where
  pub run : Activation C V
  pub callers : List (Activation C V)
  pub env : Env C V

-- the links of an execution as it is made
abbrev pub no_links : Links
no_links = record {
  starter = None;
  resumer = None;
  live = false;
  stage = Started;
  destroyer = None;
  enabled = 0;
  pending = [];
  calls = 0;
  mutex_calls = 0;
  builds = 0;
}

-- one active call more, and one less, where it counts
abbrev pub one_call_more : Bool → Links → Links
one_call_more true l = record l { calls = l.calls + 1 }
one_call_more false l = l

abbrev pub one_call_less : Bool → Links → Links
one_call_less true l = record l { calls = l.calls - 1 }
one_call_less false l = l

-- another thing under a number that is there
abbrev pub update : {X : Type 0} → ℕ → X → List (ℕ × X) → List (ℕ × X)
update k x [] = []
update k x (p ∷ ps) = if nat_eq p.0 k then (k, x) ∷ ps else p ∷ update k x ps

abbrev pub home_eq : Home → Home → Bool
home_eq (Task a) (Task b) = nat_eq a b
home_eq (Task a) (Object b) = false
home_eq (Object a) (Task b) = false
home_eq (Object a) (Object b) = nat_eq a b

abbrev pub exec_eq : Exec → Exec → Bool
exec_eq n m = if home_eq n.home m.home then nat_eq n.serial m.serial else false

-- frames: the newest stands first, and the oldest has depth 0

abbrev pub at_depth : {X : Type 0} → List X → ℕ → Option X
at_depth [] d = None
at_depth (x ∷ xs) d = if nat_eq d (length xs) then Some x else at_depth xs d

abbrev pub set_depth : {X : Type 0} → List X → ℕ → X → List X
set_depth [] d y = []
set_depth (x ∷ xs) d y = if nat_eq d (length xs) then y ∷ xs else x ∷ set_depth xs d y

abbrev pub list_in : {X : Type 0} → Option (List X) → List X
list_in None = []
list_in (Some xs) = xs

-- all but the newest
abbrev pub others : {X : Type 0} → List X → List X
others [] = []
others (x ∷ xs) = xs

-- the newest, or this where there is none
abbrev pub first_or : {X : Type 0} → X → List X → X
first_or d [] = d
first_or d (x ∷ xs) = x

-- the newest, so many of them, the oldest first, in front of these
abbrev pub take_operands : {X : Type 0} → X → ℕ → List X → List X → List X
take_operands d zero xs ys = ys
take_operands d (suc n) xs ys = take_operands d n (others xs) (first_or d xs ∷ ys)

-- one more, if there is one
abbrev pub with_result : {X : Type 0} → Option X → List X → List X
with_result None xs = xs
with_result (Some x) xs = x ∷ xs

abbrev pub joined : {X : Type 0} → Option (Option X) → Option X
joined None = None
joined (Some x) = x

-- a change to the frame of a depth
abbrev pub frame_changed : {V : Type 0} → ℕ → (List V → List V) → List (List V) → List (List V)
frame_changed d g fs = set_depth fs d (g (list_in (at_depth fs d)))

-- another value in the place of one, by what stands there
abbrev pub value_changed : {V : Type 0} → ℕ → (V → V) → V → List V → List V
value_changed k g default vs = slice_set vs k (g (slice_index_or vs k default))

-- n values from the k-th on, as far as there are any, are this one
abbrev pub values_cleared : {V : Type 0} → ℕ → ℕ → V → List V → List V
values_cleared k n v vs = take k vs ++ (replicate (length (take n (drop k vs))) v ++ drop n (drop k vs))

module _ {C V : Type 0} where
  abbrev pub values_in : Option (Members C V) → List V
  values_in None = []
  values_in (Some m) = m.values

  abbrev pub frames_in : Option (Execution C V) → List (List V)
  frames_in None = []
  frames_in (Some x) = x.frames

  -- what is at a home, if that is in hand
  abbrev pub members_at : Home → Env C V → Option (Members C V)
  members_at (Task t) e = if nat_eq t e.own then Some e.house else None
  members_at (Object o) e = find o e.hand

  abbrev pub set_members : Home → Members C V → Env C V → Env C V
  set_members (Task t) m e = if nat_eq t e.own then record e { house = m } else e
  set_members (Object o) m e = record e { hand = update o m e.hand }

  abbrev pub slot_in : ℕ → Option (Members C V) → Option (Option (Execution C V))
  slot_in k None = None
  slot_in k (Some m) = find k m.parked

  -- an execution in hand that does not run
  abbrev pub parked_at : Exec → Env C V → Option (Execution C V)
  parked_at n e = joined (slot_in n.serial (members_at n.home e))

  -- a change to what is at a home, if that is in hand
  abbrev pub change_in : Home → (Members C V → Members C V) → Option (Members C V) → Env C V → Env C V
  change_in h g None e = e
  change_in h g (Some m) e = set_members h (g m) e

  abbrev pub change : Home → (Members C V → Members C V) → Env C V → Env C V
  change h g e = change_in h g (members_at h e) e

  abbrev pub frames_of : Exec → Env C V → List (List V)
  frames_of n e = if exec_eq n e.exec then e.frames else frames_in (parked_at n e)

  abbrev pub frames_by : ℕ → (List (List V) → List (List V)) → Option (Execution C V) → Members C V → Members C V
  frames_by k g None m = m
  frames_by k g (Some x) m = record m { parked = update k (Some (record x { frames = g x.frames })) m.parked }

  abbrev pub frames_changed : ℕ → (List (List V) → List (List V)) → Members C V → Members C V
  frames_changed k g m = frames_by k g (joined (find k m.parked)) m

  abbrev pub with_frames : Exec → (List (List V) → List (List V)) → Env C V → Env C V
  with_frames n g e = if exec_eq n e.exec then record e { frames = g e.frames } else change n.home (frames_changed n.serial g) e

  -- what an owner holds
  abbrev pub owned : Owner → Env C V → List V
  owned (Frame n d) e = list_in (at_depth (frames_of n e) d)
  owned (Fields o) e = values_in (find o e.hand)

  abbrev pub value_at : Owner → ℕ → V → Env C V → V
  value_at o k default e = slice_index_or (owned o e) k default

  -- a change to what one owner holds: every write is one
  abbrev pub with_owned : Owner → (List V → List V) → Env C V → Env C V
  with_owned (Frame n d) g e = with_frames n (frame_changed d g) e
  with_owned (Fields o) g e = change (Object o) (λ m. record m { values = g m.values }) e

  -- an activation as it begins, with nothing on its operands
  abbrev pub begun : C → V → ℕ → V → Bool → Activation C V
  begun todo this frame nothing counts = record { control = todo; operands = []; this = this; frame = frame; counts = counts; elements = 0; handles = None; raised = None; result = nothing }

  -- the newest activation, which counts or does not, is left with its frame, and the one that waits for it goes on with what it
  -- is handed
  abbrev pub returned : Option V → Bool → Activation C V → List (Activation C V) → Env C V → State C V
  returned given counts c cs e = record { run = record c { operands = with_result given c.operands }; callers = cs; env = record e { frames = others e.frames; links = one_call_less counts e.links } }

  -- a call, which counts or does not: an activation with this to do, for this object, with this frame, before one that waits for
  -- it
  abbrev pub entered : C → V → V → List V → Bool → Activation C V → List (Activation C V) → Env C V → State C V
  entered todo this nothing frame counts c cs e = record { run = begun todo this (length e.frames) nothing counts; callers = c ∷ cs; env = record e { frames = frame ∷ e.frames; links = one_call_more counts e.links } }

  -- the newest activation, which counts or does not, is left with its frame for this one, which waited for it
  abbrev pub left_for : Bool → Activation C V → List (Activation C V) → Env C V → State C V
  left_for counts c cs e = record { run = c; callers = cs; env = record e { frames = others e.frames; links = one_call_less counts e.links } }

  -- a resumption handler begins with this to do, these operands, for this object, with the variables of the frame of this depth and an empty frame of
  -- its own, and with how far the search for it came, before one that waits for it
  abbrev pub handler_entered : C → List V → V → ℕ → V → Visited → Activation C V → List (Activation C V) → Env C V → State C V
  handler_entered todo operands this frame nothing v c cs e =
      record { run = record (begun todo this frame nothing false) { operands = operands; handles = Some v }; callers = c ∷ cs; env = record e { frames = [] ∷ e.frames } }

  -- an activation is unwound for this reason, with this to do; where a return arrives, it hands over this
  abbrev pub unwound : C → UnwindReason → V → Activation C V → Activation C V
  unwound todo why given a = record a { control = todo; operands = []; raised = Some why; result = given }

  -- its unwinding is over, with this to do
  abbrev pub calmed : C → Activation C V → Activation C V
  calmed todo a = record a { control = todo; operands = []; raised = None }
