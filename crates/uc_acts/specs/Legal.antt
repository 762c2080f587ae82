-- What an entry asks of the journal before it, so that a sound journal stays sound.
use Rattle.std.specs.Prelude.{◌≡◌, ℕ, ◌==◌, ◌<◌, Bool, true, false, List, [], ◌∷◌, ◌++◌}
use Rattle.uc_entry.specs.declared.entry.Entry.{Entry}
use Rattle.uc_entry.specs.declared.entry.EntryKind.{EntryKind}
use Rattle.uc_entry.specs.declared.entry.EntryKind.TheVariants as kind
use Rattle.uc_acts.specs.Journal.{Journal, inside, number}
use Rattle.uc_acts.specs.Queues.{running, cluster_count}
use Rattle.uc_acts.specs.Doors.{open_at}
use Rattle.uc_acts.specs.Known.{object_count, task_count}
use Rattle.uc_acts.specs.Stations.{Station, Ready, Running, Waits, Stacked, Blocked}
use Rattle.uc_acts.specs.Sound.{mover, spot, here}

-- whether an entry takes its task away from a station
abbrev pub removes : Station → EntryKind → Entry → Bool
removes (Waits o) kind.Admit e = e.object == o
removes (Waits o) kind.Push e = e.object == o
removes (Stacked o) kind.Admit e = e.object == o
removes (Blocked o c) kind.Admit e = e.object == o
removes (Blocked o c) kind.Push e = e.object == o
removes (Ready k) kind.Dispatch e = true
removes (Running p) kind.Dispatch e = e.proc == p
removes (Running p) kind.Admit e = e.proc == p
removes (Running p) kind.Call e = e.proc == p
removes (Running p) kind.Slice e = e.proc == p
removes (Running p) kind.Yield e = e.proc == p
removes (Running p) kind.Migrate e = e.proc == p
removes (Running p) kind.Wait e = e.proc == p
removes (Running p) kind.SignalBlock e = e.proc == p
removes (Running p) kind.Accept e = e.proc == p
removes (Running p) kind.End e = e.proc == p
removes _ k e = false

-- what an entry asks of the door of its object
abbrev pub DoorFit : EntryKind → Entry → List ℕ → List Entry → Type 0
DoorFit kind.Begin e within opened = (within ≡ []) × (opened ≡ [])
DoorFit kind.Make e within opened = (within ≡ []) × (opened ≡ [])
DoorFit kind.Spawn e within opened = within ≡ e.task ∷ []
DoorFit kind.Made e within opened = within ≡ e.task ∷ []
DoorFit kind.Leave e within opened = within ≡ e.task ∷ []
DoorFit kind.End e within opened = within ≡ e.task ∷ []
DoorFit kind.Wait e within opened = within ≡ e.task ∷ []
DoorFit kind.Gone e within opened = within ≡ e.task ∷ []
DoorFit kind.SignalBlock e within opened = within ≡ e.task ∷ []
DoorFit kind.Accept e within opened = within ≡ e.task ∷ []
DoorFit kind.Admit e within opened = within ≡ []
DoorFit kind.Push e within opened = opened ≡ []
DoorFit k e within opened = Unit {0}

-- a processor that is given a task is free
abbrev pub IsFree : EntryKind → Entry → Journal → Type 0
IsFree kind.Dispatch e j = running e.proc j ≡ []
IsFree k e j = Unit {0}

-- a new task, object or cluster has the next number
abbrev pub IsNext : EntryKind → Entry → Journal → Type 0
IsNext kind.Spawn e j = number e.a ≡ task_count j
IsNext kind.Make e j = e.object ≡ object_count j
IsNext kind.Cluster e j = number e.a ≡ cluster_count j
IsNext k e j = Unit {0}

-- what an entry asks of the journal before it
pub record Legal (e : Entry) (j : Journal) : Type 0 where
  pub from : (t : ℕ) → mover e.kind e t ≡ true → (r : Station) → removes r e.kind e ≡ false → here r (spot t j) ≡ 0
  pub free : IsFree e.kind e j
  pub born : (t : ℕ) → mover e.kind e t ≡ true → t < task_count (j ++ e ∷ [])
  pub next : IsNext e.kind e j
  pub made : e.object < object_count (j ++ e ∷ [])
  pub door : DoorFit e.kind e (inside e.object j) (open_at e.object j)
