-- What contracts see of a kernel: the journal, what it was opened with, and the task values and members at rest.
use Rattle.std.specs.Prelude.{◌≡◌, ℕ, ◌==◌, Bool, List, [], ◌∷◌, ◌++◌, Option, Some, None, slice_index_or, if◌then◌else◌}
use Rattle.uc_tree.specs.Programs.{Site}
use Rattle.uc_entry.specs.declared.entry.Entry.{Entry}
use Rattle.uc_entry.specs.declared.entry.Options.{Options}
use Rattle.uc_entry.specs.declared.request.Asked.{Asked}
use Rattle.uc_entry.specs.Keyed.{find}
use Rattle.uc_entry.specs.Listed.{Listed}
use Rattle.uc_acts.specs.Journal.{held}
use Rattle.uc_acts.specs.Known.{has, spawns, takes_out}
use Rattle.uc_kernel_core.specs.Mirrors.{Seen}
use Rattle.uc_kernel.specs.declared.given.Back.{Back}
use Rattle.uc_kernel.specs.declared.rests.TaskAtRest.{TaskAtRest}
use Rattle.uc_kernel.specs.Numbered.{or_else}

-- values at rest by task, members at rest by object, wherever they lie
pub record Kept (T M : Type 0) : Type 0 where
  pub journal : List Entry
  pub sites : List Site
  pub opts : Options
  pub input : List ℕ
  pub abandoned : Bool
  pub values : ℕ → Option T
  pub members : ℕ → Option M

-- the same, at each number
pub record Same {T M : Type 0} (old new : Kept T M) : Type 0 where
  pub journal : new.journal ≡ old.journal
  pub sites : new.sites ≡ old.sites
  pub opts : new.opts ≡ old.opts
  pub input : new.input ≡ old.input
  pub abandoned : new.abandoned ≡ old.abandoned
  pub values : (t : ℕ) → new.values t ≡ old.values t
  pub members : (o : ℕ) → new.members o ≡ old.members o

-- what a worker brings of a task, and what that asks
pub record Brought (T M : Type 0) : Type 0 where
  pub processor : ℕ
  pub task : T
  pub members : Listed (ℕ × M)
  pub child : Option T
  pub ticks : ℕ
  pub asked : Asked

abbrev pub with_asked : {T M : Type 0} → Back T M → Asked → Brought T M
with_asked b asked = record { processor = b.processor; task = b.task; members = b.members; child = b.child; ticks = b.ticks; asked = asked }

-- with the entries a of an act of task t, and what was brought for it put to rest: its value, its members by object but for what the act takes out, and the value of the task that the act spawns
abbrev pub put_back : {T M : Type 0} → List Entry → ℕ → T → List (ℕ × M) → Option T → Kept T M → Kept T M
put_back a t value brought child k = record {
  journal = k.journal ++ a;
  sites = k.sites;
  opts = k.opts;
  input = k.input;
  abandoned = k.abandoned;
  values = λ u. if u == t then Some value else if spawns a u then child else k.values u;
  members = λ o. if takes_out a o then None else or_else (find o brought) (k.members o);
}

-- without the value of task t, and without the members of the objects that it is inside
abbrev pub handed : {T M : Type 0} → ℕ → Kept T M → Kept T M
handed t k = record k {
  values = λ u. if u == t then None else k.values u;
  members = λ o. if has (held t k.journal) o then None else k.members o;
}

-- with one entry more
abbrev pub with_entry : {T M : Type 0} → Entry → Kept T M → Kept T M
with_entry e k = record k { journal = k.journal ++ e ∷ [] }

-- how a kernel keeps it: the values of the tasks at rest, each with the members in its hand, and the members of the objects that nobody is inside
pub record Store (T M : Type 0) : Type 0 where
  pub journal : List Entry
  pub sites : List Site
  pub opts : Options
  pub input : List ℕ
  pub abandoned : Bool
  pub tasks : List (Option (TaskAtRest T M))
  pub loose : List (Option M)

abbrev pub stored : {T M : Type 0} → Seen → Bool → List (Option (TaskAtRest T M)) → List (Option M) → Store T M
stored s abandoned tasks loose = record {
  journal = s.journal;
  sites = s.sites;
  opts = s.opts;
  input = s.input;
  abandoned = abandoned;
  tasks = tasks;
  loose = loose;
}

abbrev pub task_in : {T M : Type 0} → Option (TaskAtRest T M) → Option T
task_in None = None
task_in (Some r) = Some r.task

-- the members of object o in the hand of a task at rest
abbrev pub member_in : {T M : Type 0} → ℕ → Option (TaskAtRest T M) → Option M
member_in o None = None
member_in o (Some r) = find o r.members.items

abbrev pub member_among : {T M : Type 0} → ℕ → List (Option (TaskAtRest T M)) → Option M
member_among o [] = None
member_among o (r ∷ rs) = or_else (member_in o r) (member_among o rs)

-- what contracts see of it
abbrev pub kept : {T M : Type 0} → Store T M → Kept T M
kept k = record {
  journal = k.journal;
  sites = k.sites;
  opts = k.opts;
  input = k.input;
  abandoned = k.abandoned;
  values = λ t. task_in (slice_index_or k.tasks t None);
  members = λ o. or_else (slice_index_or k.loose o None) (member_among o k.tasks);
}
