-- How a kernel keeps what is at rest: a task's value with the members in its hand, and loose members by object.
use Rattle.std.specs.Prelude.{◌≡◌, ℕ, ◌==◌, ◌<◌, ◌≤◌, ◌||◌, ◌+◌, Bool, true, false, List, [], ◌∷◌, ◌++◌, Option, Some, None, length, slice_get, slice_index_or, slice_set, if◌then◌else◌}
use Rattle.uc_tree.specs.declared.limits.TheConstants.{INPUT_BYTES}
use Rattle.uc_entry.specs.declared.entry.Entry.{Entry}
use Rattle.uc_entry.specs.declared.entry.EntryKind.{EntryKind}
use Rattle.uc_entry.specs.declared.entry.EntryKind.TheVariants as kind
use Rattle.uc_entry.specs.Listed.{Listed}
use Rattle.uc_entry.specs.Keyed.{find}
use Rattle.uc_acts.specs.Journal.{Journal, held, is_over, holds, stacks_acceptor}
use Rattle.uc_acts.specs.Queues.{running}
use Rattle.uc_acts.specs.Known.{has, object_count, task_count, is_gone, is_gone_by}
use Rattle.uc_acts.specs.Stations.{Ready, times}
use Rattle.uc_acts.specs.Sound.{Spot, At, spot}
use Rattle.uc_acts.specs.KernelRuns.{InRange, KernelRuns, MayAsk}
use Rattle.uc_kernel_core.specs.CoreActs.{makes_new}
use Rattle.uc_kernel_core.specs.Mirrors.{Seen}
use Rattle.uc_acts.specs.Acts.{act}
use Rattle.uc_entry.specs.declared.request.Asked.{Asked}
use Rattle.uc_entry.specs.declared.request.Request.{Request}
use Rattle.uc_entry.specs.declared.request.Request.TheVariants as ask
use Rattle.uc_entry.specs.declared.request.Answer.{Answer}
use Rattle.uc_acts.specs.Answers.{answer_to}
use Rattle.uc_acts.specs.Serves.{left}
use Rattle.uc_kernel.specs.declared.given.Back.{Back}
use Rattle.uc_kernel.specs.declared.given.Given.{Given}
use Rattle.uc_kernel.specs.declared.given.Next.{Next}
use Rattle.uc_kernel.specs.declared.given.Next.TheVariants.{Go, Blocked, Ended}
use Rattle.uc_kernel.specs.declared.rests.TaskAtRest.{TaskAtRest}
use Rattle.uc_kernel.specs.Numbered.{keys, without}
use Rattle.uc_kernel.specs.KernelState.{Brought, with_asked}

-- a spot at which nobody is let in
abbrev pub is_ready : Spot → Bool
is_ready (At (Ready k)) = true
is_ready q = false

-- task t runs
pub record IsOut (t : ℕ) (j : Journal) : Type 0 where
  pub processor : ℕ
  pub runs : running processor j ≡ t ∷ []

-- what lies where, while the run goes on: a task at rest has the members of the objects that it is inside, in their order; loose members are those of objects that nobody is inside
pub record Lies {T M : Type 0} (j : Journal) (tasks : List (Option (TaskAtRest T M))) (loose : List (Option M)) : Type 0 where
  pub hands : (t : ℕ) (r : TaskAtRest T M) → slice_index_or tasks t None ≡ Some r → keys r.members.items ≡ held t j
  -- who may be let in has room for one more
  pub room : (t : ℕ) (r : TaskAtRest T M) → slice_index_or tasks t None ≡ Some r → is_ready (spot t j) ≡ false → 1 ≤ r.members.spare
  pub loose_are : (o : ℕ) (m : M) → slice_index_or loose o None ≡ Some m → (t : ℕ) → has (held t j) o ≡ false
  -- an object that is there and that nobody is inside has its members among them
  pub present : (o : ℕ) → o < object_count j → is_gone o j ≡ false → ((t : ℕ) → has (held t j) o ≡ false) → slice_index_or loose o None ≡ None → ⊥
  pub tasks_are : length tasks ≡ task_count j
  pub objects_are : length loose ≡ object_count j
  -- who runs is not at rest, and everybody else is
  pub out : (p t : ℕ) → running p j ≡ t ∷ [] → slice_index_or tasks t None ≡ None
  pub there : (t : ℕ) → t < length tasks → slice_index_or tasks t None ≡ None → IsOut t j

pub record IsKept {T M : Type 0} (s : Seen) (tasks : List (Option (TaskAtRest T M))) (loose : List (Option M)) : Type 0 where
  pub runs : KernelRuns s.opts s.sites s.input s.journal
  pub range : InRange s.opts
  pub small : length s.input ≤ INPUT_BYTES
  pub lies : is_over s.journal ≡ false → Lies s.journal tasks loose

-- whether an entry takes its own task out of its object, other than by its end
abbrev pub goes_out : EntryKind → Entry → Bool
goes_out kind.Made e = true
goes_out kind.Leave e = true
goes_out kind.End e = true
goes_out kind.Wait e = true
goes_out kind.SignalBlock e = holds 1 e.b
goes_out kind.Accept e = stacks_acceptor e
goes_out _ e = false

abbrev pub is_admit : EntryKind → Bool
is_admit kind.Admit = true
is_admit _ = false

-- an entry, where it is an admission
abbrev pub admission_in : Option Entry → Option Entry
admission_in None = None
admission_in (Some e) = if is_admit e.kind then Some e else None

-- members laid among the loose ones
abbrev pub laid : {M : Type 0} → ℕ → Option M → List (Option M) → List (Option M)
laid o None loose = loose
laid o (Some m) loose = slice_set loose o (Some m)

-- a hand once an entry of its task stands
abbrev pub hand_after : {M : Type 0} → Entry → List (ℕ × M) → List (ℕ × M)
hand_after e h = if goes_out e.kind e || is_gone_by e.kind then without e.object h else h

-- the loose members then
abbrev pub loose_after : {M : Type 0} → Entry → List (ℕ × M) → List (Option M) → List (Option M)
loose_after e h loose = if goes_out e.kind e then laid e.object (find e.object h) loose else loose

-- each object once
abbrev pub AreApart : {M : Type 0} → List (ℕ × M) → Type 0
AreApart h = (o : ℕ) → times o (keys h) ≤ 1

-- a task at rest has room for one more in its hand
abbrev pub HasRoom : {T M : Type 0} → List (Option (TaskAtRest T M)) → ℕ → Type 0
HasRoom {T} {M} tasks t = (r : TaskAtRest T M) → slice_index_or tasks t None ≡ Some r → 1 ≤ r.members.spare

-- members went into the hand of a task at rest
pub record GivenTo {T M : Type 0} (o : ℕ) (m : M) (r r' : TaskAtRest T M) : Type 0 where
  pub task : r'.task ≡ r.task
  pub items : r'.members.items ≡ r.members.items ++ (o, m) ∷ []

-- the members of an object, where they are loose, go to whoever is let in: into the hand of the acting task, or of a task at rest
pub data LetIn {T M : Type 0} (e : Entry) (t : ℕ) (h h' : Listed (ℕ × M)) (tasks tasks' : List (Option (TaskAtRest T M))) (loose : List (Option M)) : Type 0 where
  none_there : slice_index_or loose e.object None ≡ None → h' ≡ h → tasks' ≡ tasks → LetIn e t h h' tasks tasks' loose
  own : (m : M) → slice_index_or loose e.object None ≡ Some m → (e.task == t) ≡ true → h'.items ≡ h.items ++ (e.object, m) ∷ [] → tasks' ≡ tasks → LetIn e t h h' tasks tasks' loose
  another : (m : M) (r r' : TaskAtRest T M) → slice_index_or loose e.object None ≡ Some m → (e.task == t) ≡ false → h' ≡ h → slice_index_or tasks e.task None ≡ Some r → GivenTo e.object m r r' → tasks' ≡ slice_set tasks e.task (Some r') → LetIn e t h h' tasks tasks' loose

-- the members of object o stand at place i of a hand, and nowhere before
pub record Stands {M : Type 0} (o : ℕ) (h : List (ℕ × M)) (i : ℕ) : Type 0 where
  pub within : i < length h
  pub item : M
  pub is : slice_get h i ≡ Some (o, item)
  pub finds : find o h ≡ Some item

-- the same as FromAct, with the first entry of the act and the admission that comes second, if one does
pub record IsAct {T M : Type 0} (s : Seen) (t : ℕ) (first : Entry) (admission : Option Entry) (b : Brought T M) (tasks : List (Option (TaskAtRest T M))) (loose : List (Option M)) : Type 0 where
  pub before : Journal
  pub runs : KernelRuns s.opts s.sites s.input before
  pub going : is_over before ≡ false
  pub asks : MayAsk s.opts s.sites before b.processor t b.ticks b.asked.request
  pub after : s.journal ≡ before ++ act s.opts s.sites s.input before b.processor t b.ticks b.asked
  pub range : InRange s.opts
  pub hand : keys b.members.items ≡ held t before
  pub room : 1 ≤ b.members.spare
  pub lies : Lies before tasks loose
  pub first_is : slice_get s.journal (length before) ≡ Some first
  pub admission_is : admission ≡ admission_in (slice_get s.journal (length before + 1))

abbrev pub earlier : Journal → Seen → Seen
earlier j s = record { journal = j; sites = s.sites; opts = s.opts; input = s.input }

-- a request for a new object, and one for a new task
abbrev pub IsMake : Request → Type 0
IsMake (ask.Make class) = Unit {0}
IsMake r = ⊥

abbrev pub IsSpawn : Request → Type 0
IsSpawn (ask.Spawn o) = Unit {0}
IsSpawn r = ⊥

-- what is handed out for task t, which runs on p, from what was at rest
pub record TakenOut {T M : Type 0} (s : Seen) (p t : ℕ) (r : Option (TaskAtRest T M)) (g : Given T M) : Type 0 where
  pub rest : r ≡ Some (record { task = g.task; members = g.members })
  pub processor : g.processor ≡ p
  pub answer : (x : Answer) → answer_to s.sites t s.journal ≡ Some x → g.answer ≡ x
  pub left : g.left ≡ left s.opts s.journal t

-- the task goes on with this value and these members, and what is at rest stays
pub record GoesWith {T M : Type 0} (s : Seen) (p t : ℕ) (value : T) (members : Listed (ℕ × M)) (tasks tasks' : List (Option (TaskAtRest T M))) (g : Given T M) : Type 0 where
  pub runner : ℕ
  pub runs : running p s.journal ≡ runner ∷ []
  pub processor : g.processor ≡ p
  pub task : g.task ≡ value
  pub members_are : g.members ≡ members
  pub answer : (x : Answer) → answer_to s.sites t s.journal ≡ Some x → g.answer ≡ x
  pub left : g.left ≡ left s.opts s.journal t
  pub rest : tasks' ≡ tasks

pub record RestsWith {T M : Type 0} (s : Seen) (p t : ℕ) (value : T) (members : Listed (ℕ × M)) (tasks tasks' : List (Option (TaskAtRest T M))) : Type 0 where
  pub free : running p s.journal ≡ []
  pub rest : tasks' ≡ slice_set tasks t (Some (record { task = value; members = members }))

abbrev pub HandedOn : {T M : Type 0} → Seen → ℕ → ℕ → T → Listed (ℕ × M) → List (Option (TaskAtRest T M)) → Next T M → List (Option (TaskAtRest T M)) → Type 0
HandedOn s p t value members tasks (Go g) tasks' = GoesWith s p t value members tasks tasks' g
HandedOn s p t value members tasks Blocked tasks' = RestsWith s p t value members tasks tasks'
HandedOn s p t value members tasks Ended tasks' = ⊥

-- task 0 at rest, with the members of object 0
pub record IsFirst {T M : Type 0} (first : T) (own : M) (tasks : List (Option (TaskAtRest T M))) : Type 0 where
  pub rest : TaskAtRest T M
  pub is : tasks ≡ Some rest ∷ []
  pub task : rest.task ≡ first
  pub items : rest.members.items ≡ (0, own) ∷ []

-- what an admission, if there is one, does to what lies where
pub record LetInBy {T M : Type 0} (admission : Option Entry) (t : ℕ) (h h' : Listed (ℕ × M)) (tasks tasks' : List (Option (TaskAtRest T M))) (loose loose' : List (Option M)) : Type 0 where
  pub none : admission ≡ None → (h' ≡ h) × (tasks' ≡ tasks) × (loose' ≡ loose)
  pub some : (e : Entry) → admission ≡ Some e → LetIn e t h h' tasks tasks' loose × (loose' ≡ slice_set loose e.object None)

-- what an admission, if there is one, asks of what lies where
pub record CanLetIn {T M : Type 0} (admission : Option Entry) (t : ℕ) (h : Listed (ℕ × M)) (tasks : List (Option (TaskAtRest T M))) (loose : List (Option M)) : Type 0 where
  pub object : (e : Entry) → admission ≡ Some e → e.object < length loose
  pub known : (e : Entry) → admission ≡ Some e → e.task < length tasks
  pub own : (e : Entry) → admission ≡ Some e → (e.task == t) ≡ true → 1 ≤ h.spare
  pub room : (e : Entry) → admission ≡ Some e → (e.task == t) ≡ false → HasRoom tasks e.task
  pub there : (e : Entry) → admission ≡ Some e → (e.task == t) ≡ false → slice_index_or tasks e.task None ≡ None → ⊥

-- the journal of s goes on from an earlier one by the act of what was brought, and what is at rest still lies as it did before
pub record FromAct {T M : Type 0} (s : Seen) (t : ℕ) (b : Brought T M) (tasks : List (Option (TaskAtRest T M))) (loose : List (Option M)) : Type 0 where
  pub before : Journal
  pub runs : KernelRuns s.opts s.sites s.input before
  pub going : is_over before ≡ false
  pub asks : MayAsk s.opts s.sites before b.processor t b.ticks b.asked.request
  pub after : s.journal ≡ before ++ act s.opts s.sites s.input before b.processor t b.ticks b.asked
  pub range : InRange s.opts
  pub hand : keys b.members.items ≡ held t before
  pub room : 1 ≤ b.members.spare
  pub lies : Lies before tasks loose

-- the journal of s stands behind the act of something that makes nothing new, and was asked with what was brought
pub record AfterAct {T M : Type 0} (s : Seen) (t : ℕ) (first : Entry) (admission : Option Entry) (b : Back T M) (tasks : List (Option (TaskAtRest T M))) (loose : List (Option M)) : Type 0 where
  pub asked : Asked
  pub old : makes_new asked.request ≡ false
  pub act : IsAct s t first admission (with_asked b asked) tasks loose

-- the same, of an object that was made
pub record AfterMake {T M : Type 0} (s : Seen) (t : ℕ) (b : Back T M) (tasks : List (Option (TaskAtRest T M))) (loose : List (Option M)) : Type 0 where
  pub asked : Asked
  pub makes : IsMake asked.request
  pub from : FromAct s t (with_asked b asked) tasks loose

-- a new task is at rest, with the members of its object in its hand
pub record HasChild {T M : Type 0} (tasks tasks' : List (Option (TaskAtRest T M))) (child : T) (o : ℕ) (m : M) : Type 0 where
  pub rest : TaskAtRest T M
  pub task : rest.task ≡ child
  pub items : rest.members.items ≡ (o, m) ∷ []
  pub last : tasks' ≡ tasks ++ Some rest ∷ []

-- the same, with the first entry of the act
pub record FromFirst {T M : Type 0} (s : Seen) (t : ℕ) (first : Entry) (b : Brought T M) (tasks : List (Option (TaskAtRest T M))) (loose : List (Option M)) : Type 0 where
  pub before : Journal
  pub from : FromAct s t b tasks loose
  pub before_is : before ≡ from.before
  pub first_is : slice_get s.journal (length from.before) ≡ Some first

-- the journal of s stands behind the act of a spawn that was asked with what was brought
pub record AfterSpawn {T M : Type 0} (s : Seen) (t : ℕ) (first : Entry) (b : Back T M) (tasks : List (Option (TaskAtRest T M))) (loose : List (Option M)) : Type 0 where
  pub asked : Asked
  pub spawns : IsSpawn asked.request
  pub act : FromFirst s t first (with_asked b asked) tasks loose
