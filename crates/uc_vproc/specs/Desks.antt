-- What contracts see of the locked value, and what it keeps.
use Rattle.std.specs.Prelude.{◌≡◌, ℕ, ◌+◌, ◌≤◌, ◌⊎◌, Bool, true, false, List, [], ◌∷◌, Option, Some, None, IsSome, length, slice_index_or, if◌then◌else◌}
use Rattle.std.specs.Option.{option_map}
use Rattle.uc_tree.specs.Source.{Source}
use Rattle.uc_tree.specs.Programs.{Site}
use Rattle.uc_entry.specs.declared.entry.Options.{Options}
use Rattle.uc_entry.specs.declared.request.Request.{Request}
use Rattle.uc_entry.specs.declared.request.Request.TheVariants as ask
use Rattle.uc_entry.specs.declared.request.Answer.TheVariants as answer
use Rattle.uc_acts.specs.Journal.{Journal, begin, held, is_over}
use Rattle.uc_acts.specs.Known.{has}
use Rattle.uc_acts.specs.Queues.{running}
use Rattle.uc_acts.specs.Serves.{left}
use Rattle.uc_acts.specs.KernelRuns.{InRange, KernelRuns}
use Rattle.uc_machine.specs.Quiet.{State}
use Rattle.uc_machine.specs.Answering.{answered}
use Rattle.uc_code.specs.Codes.{Code}
use Rattle.uc_code.specs.Layout.{laid_of}
use Rattle.uc_code.specs.Lowered.{Lowered}
use Rattle.uc_frames.specs.Machine.{Machine, Members, with_hand}
use Rattle.uc_step.specs.WeightFalls.{Keeps}
use Rattle.uc_ride.specs.RideStands.{Rode}
use Rattle.uc_ride.specs.UnwindingFalls.{KeepsAfter, ChildKeeps}
use Rattle.uc_meaning.specs.Runs.{IsPrefix}
use Rattle.uc_step_laws.specs.Hands.{HasForm}
use Rattle.uc_state_laws.specs.Laws.{AllLeft}
use Rattle.uc_site_laws.specs.Naming.{NamesKnown}
use Rattle.uc_state_laws.specs.Marked.{EventKnown}
use Rattle.uc_kernel.specs.Numbered.{keys}
use Rattle.uc_kernel.specs.KernelState.{Brought, Kept, Store, kept}
use Rattle.uc_kernel.specs.AtRest.{IsMake, IsSpawn}
use Rattle.uc_kernel.specs.Calls.{Acted, Dispatched, LacksNew, MayBring}
use Rattle.uc_kernel.specs.declared.given.Next.{Next}
use Rattle.uc_kernel.specs.declared.given.Next.TheVariants.{Go, Blocked, Ended}
use Rattle.uc_kernel.specs.declared.given.Given.{Given}
use Rattle.uc_lock.specs.Journals.{Begins, made_by}
use Rattle.uc_vproc.specs.declared.desk.RunKey.{RunKey}
use Rattle.uc_vproc.specs.declared.put.Sort.TheVariants as sort
use Rattle.uc_vproc.specs.declared.registry.Registry.{Registry}
use Rattle.uc_vproc.specs.declared.step.Step.{Step}
use Rattle.uc_vproc.specs.declared.step.Step.TheVariants.{Going, Idle, Over}
use Rattle.uc_vproc.specs.Makers.{Log, Notes, Handed, nobody, paired, entries, server, handed_out, Manned}
use Rattle.uc_vproc.specs.Registries.{Tells, new_clusters, new_processors, sort_of}
use Rattle.uc_vproc.specs.Rest.{IsSource, HasSource, Steady, IsWork, stops}
use Rattle.uc_vproc.specs.Runs.{IsRunOf}

-- the locked value: the kernel, its log, and for what code it rides
pub record Table : Type 0 where
  pub code : Code
  pub main : ℕ
  pub store : Store (Option Machine) Members
  pub log : Log

abbrev pub key_from : Table → RunKey
key_from d = record { code = d.code; main = d.main; input = d.store.input; opts = d.store.opts }

-- the value of a task that goes on behind a request; of one that does not there is none
abbrev pub value_after : Request → Machine → Option Machine
value_after r v = if stops r then None else Some v

module _ (code : Code) where
  -- the journal is a prefix of a run, each entry is made by who may make it, and while the run goes on what is at rest, and what is not, stands for the world after it
  pub record Keeping (main : ℕ) (k : Kept (Option Machine) Members) (notes : Notes) (room : ℕ) (registry : Registry) : Type 0 where
    pub sourced : HasSource code main
    pub range : InRange k.opts
    pub sites : k.sites ≡ code.sites
    pub counted : length notes ≡ length k.journal
    pub room_is : k.opts.entries ≤ room
    pub runs : KernelRuns k.opts k.sites k.input k.journal
    pub manned : Manned (paired k.journal notes)
    pub prefix : (source : Source) → IsSource code main source → IsPrefix source k.input k.opts k.journal
    pub steady : k.abandoned ≡ false → is_over k.journal ≡ false → Steady code main (record k { abandoned = false }) (paired k.journal notes)
    pub told : k.abandoned ≡ false → is_over k.journal ≡ false → Tells k.opts k.journal registry
    pub left : is_over k.journal ≡ false → AllLeft k.opts k.journal

  -- what a worker with the seat n holds, as of a log: what was handed out for a processor that is served by that seat
  pub record Got (n : ℕ) (log : Log) (h : Handed) : Type 0 where
    pub is : handed_out h.processor log ≡ Some h
    pub serves : server h.processor log ≡ Some n
    pub task : ℕ
    pub runs : running h.processor (entries log) ≡ task ∷ []
    pub kept : Keeps code (with_hand h.members.items h.task)
    pub some : 1 ≤ h.left

  -- what comes next for a worker
  abbrev pub Came : ℕ → Log → Step → Type 0
  Came n log (Going h) = Got n log h
  Came n log Idle = Unit {0}
  Came n log Over = Unit {0}

  -- a ride of what was handed out
  pub record IsRide (h : Handed) (b : Brought (Option Machine) Members) : Type 0 where
    pub processor : b.processor ≡ h.processor
    pub room : 1 ≤ b.members.spare
    pub after : Machine
    pub task_is : b.task ≡ value_after b.asked.request after
    pub child : Option Machine
    pub child_is : b.child ≡ option_map Some child
    pub rode : (source : Source) (s : State) → Lowered source code → IsWork code h.task h.members.items s → Rode source (laid_of code) (answered source h.answer s) h.left b.ticks b.asked (with_hand b.members.items after) child
    pub kept : KeepsAfter code b.asked.request (with_hand b.members.items after)
    pub born : ChildKeeps code child

  -- what a worker with the seat n brings, as of a log that it saw
  pub record Brings (n : ℕ) (log : Log) (b : Brought (Option Machine) Members) : Type 0 where
    pub handed : Handed
    pub got : Got n log handed
    pub ride : IsRide handed b

-- a log that the seat n saw, in a later one in which just its own entries are its own
pub record Saw (n : ℕ) (seen log : Log) : Type 0 where
  pub begins : Begins seen log
  pub mine : made_by n log ≡ made_by n seen

-- a run that opened
pub record IsOpened (code : Code) (main : ℕ) (input : List ℕ) (opts : Options) (d : Table) : Type 0 where
  pub code_is : d.code ≡ code
  pub main_is : d.main ≡ main
  pub input_is : d.store.input ≡ input
  pub opts_are : d.store.opts ≡ opts
  pub log_is : d.log ≡ ((begin opts, Idle), nobody) ∷ []

-- an object without fields
abbrev pub no_fields : Members
no_fields = record { values = []; serial = 0; parked = [] }

-- of code of any source with this main, the journal is a complete run of it
abbrev pub EndsAs : Code → ℕ → List ℕ → Options → Journal → Type 0
EndsAs code main input opts j = (source : Source) → IsSource code main source → IsRunOf source input opts j

-- what is handed out for a task that has not ended
abbrev pub boxed : Given Machine Members → Given (Option Machine) Members
boxed g = record { processor = g.processor; task = Some g.task; members = g.members; answer = g.answer; left = g.left }

-- the task that is handed out, if one is, has not ended
abbrev pub LivesIn : Option (Given (Option Machine) Members) → Type 0
LivesIn None = Unit {0}
LivesIn (Some g) = IsSome g.task

abbrev pub LivesNext : Next (Option Machine) Members → Type 0
LivesNext (Go g) = IsSome g.task
LivesNext Blocked = Unit {0}
LivesNext Ended = Unit {0}

-- what comes of a dispatch is what the kernel hands out
pub data HandsNext : Option (Given (Option Machine) Members) → Step → Type 0 where
  nothing : HandsNext None Idle
  passes : (g : Given Machine Members) → HandsNext (Some (boxed g)) (Going g)

-- a dispatch, where the run goes on and was not abandoned
pub data WasHandedOut (old new : Store (Option Machine) Members) : Step → Type 0 where
  none_left : new ≡ old → WasHandedOut old new Over
  gave : (step : Step) (o : Option (Given (Option Machine) Members)) → old.abandoned ≡ false → is_over old.journal ≡ false → Dispatched (kept old) o (kept new) → HandsNext o step → WasHandedOut old new step

-- what comes of an act is what the kernel says
pub data Comes : Next (Option Machine) Members → Step → Type 0 where
  goes : (g : Given Machine Members) → Comes (Go (boxed g)) (Going g)
  idles : Comes Blocked Idle
  ends : Comes Ended Over

-- what was brought is put to rest by an act of the kernel, and this comes of it
pub record WasActed (old : Kept (Option Machine) Members) (b : Brought (Option Machine) Members) (new : Kept (Option Machine) Members) (step : Step) : Type 0 where
  pub next : Next (Option Machine) Members
  pub acted : Acted old b next new
  pub comes : Comes next step

-- a task goes on that is told of object o
pub record IsTold (o : ℕ) (step : Step) : Type 0 where
  pub handed : Handed
  pub is : step ≡ Going handed
  pub answer : handed.answer ≡ answer.Object o

-- the objects that are there: these that were there, and one of which a task is told
abbrev pub ThereWith : List Bool → List Bool → Step → Type 0
ThereWith old new step =
    (o : ℕ) → slice_index_or new o false ≡ true → (slice_index_or old o false ≡ true) ⊎ IsTold o step

-- behind an act: these that were there and are not taken out, or the one that was made
abbrev pub ThereAfter : List Bool → List Bool → Request → Step → Type 0
ThereAfter old new r step =
    (o : ℕ) → slice_index_or new o false ≡ true → ((slice_index_or old o false ≡ true) × (r ≡ ask.Gone o → ⊥)) ⊎ (IsMake r × IsTold o step)

-- what may be asked for, behind an act
pub record RegistryAfter (old new : Registry) (r : Request) (step : Step) : Type 0 where
  pub objects : ThereAfter old.there.items new.there.items r step
  pub clusters : new.clusters ≤ old.clusters + new_clusters (sort_of r)
  pub processors : new.processors ≤ old.processors + new_processors (sort_of r)

-- what is known of a task that asks: it has just the objects in hand that it is inside, with room for one more, makes no more ticks than it
-- has left, prints and reads in a form that fits, calls what it is not inside, and names members, accept statements and events that there are; its value comes back where it
-- goes on, and with a spawn the new task
pub record IsAsking (opts : Options) (sites : List Site) (j : Journal) (t : ℕ) (b : Brought (Option Machine) Members) : Type 0 where
  pub hand : keys b.members.items ≡ held t j
  pub room : 1 ≤ b.members.spare
  pub within : b.ticks ≤ left opts j t
  pub form : HasForm b.asked.request
  pub names : NamesKnown sites b.asked.request
  pub event : EventKnown b.asked.request
  pub apart : (o m : ℕ) → b.asked.request ≡ ask.Call o m → has (held t j) o ≡ false
  pub goes : stops b.asked.request ≡ false → IsSome b.task
  pub born : IsSpawn b.asked.request → IsSome b.child

-- what is brought is put to rest by an act, or the run is over or was abandoned, or is abandoned
pub data WasPut (registry registry' : Registry) (old new : Store (Option Machine) Members) (b : Brought (Option Machine) Members) : Step → Type 0 where
  stays : registry' ≡ registry → new ≡ old → WasPut registry registry' old new b Over
  refused : new ≡ record old { abandoned = true } → WasPut registry registry' old new b Over
  acted : (step : Step) (next : Next (Option Machine) Members) → old.abandoned ≡ false → is_over old.journal ≡ false → MayBring (kept old) b → RegistryAfter registry registry' b.asked.request step → Acted (kept old) b next (kept new) → (sort_of b.asked.request ≡ sort.Makes → (t : ℕ) → running b.processor old.journal ≡ t ∷ [] → LacksNew new.journal t next) → Comes next step → WasPut registry registry' old new b step
