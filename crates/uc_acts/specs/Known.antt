-- The tasks and the mutex objects that a journal tells of.
use Rattle.std.specs.Prelude.{ℕ, ◌==◌, ◌+◌, Bool, true, false, List, Option, Some, None}
use Rattle.std.specs.List.{list_any, count_by}
use Rattle.uc_entry.specs.declared.entry.Entry.{Entry}
use Rattle.uc_entry.specs.declared.entry.EntryKind.{EntryKind}
use Rattle.uc_entry.specs.declared.entry.EntryKind.TheVariants as kind
use Rattle.uc_acts.specs.Open.{still_open}
use Rattle.uc_acts.specs.Journal.{Journal, number, entries_at}

abbrev pub is_make : EntryKind → Bool
is_make kind.Make = true
is_make _ = false

abbrev pub is_spawn : EntryKind → Bool
is_spawn kind.Spawn = true
is_spawn _ = false

-- how many objects, and tasks, were made so far, the opening ones included
unfoldable pub object_count : Journal → ℕ
object_count j = count_by (λ e. is_make e.kind) j + 1

unfoldable pub task_count : Journal → ℕ
task_count j = count_by (λ e. is_spawn e.kind) j + 1

abbrev pub is_gone_by : EntryKind → Bool
is_gone_by kind.Gone = true
is_gone_by _ = false

-- whether object o is gone
unfoldable pub is_gone : ℕ → Journal → Bool
is_gone o j = list_any (λ e. is_gone_by e.kind) (entries_at o j)

-- the object that an entry makes
abbrev pub makes_object : EntryKind → Entry → Option ℕ
makes_object kind.Begin e = Some 0
makes_object kind.Make e = Some e.object
makes_object _ e = None

-- whether an entry takes object o out
abbrev pub takes_object : EntryKind → Entry → ℕ → Bool
takes_object kind.Gone e o = o == e.object
takes_object _ e o = false

-- the objects that are made and not gone, oldest first
unfoldable pub made : Journal → List ℕ
made j = still_open (λ e. makes_object e.kind e) (λ e. takes_object e.kind e) j

-- whether a number stands in a list
abbrev pub has : List ℕ → ℕ → Bool
has xs n = list_any (λ x. x == n) xs

-- the task whose own object is that of an entry
abbrev pub owned : EntryKind → Entry → Option ℕ
owned kind.Begin e = Some 0
owned kind.Spawn e = Some (number e.a)
owned _ e = None

-- the task whose own object is o, in a list of at most one
unfoldable pub owner : ℕ → Journal → List ℕ
owner o j = still_open (λ e. owned e.kind e) (λ e t. false) (entries_at o j)

-- whether an entry ends task t
abbrev pub ends : ℕ → EntryKind → Entry → Bool
ends t kind.End e = t == e.task
ends t _ e = false

-- whether task t has ended
unfoldable pub has_ended : ℕ → Journal → Bool
has_ended t j = list_any (λ e. ends t e.kind e) j

-- whether an entry spawns task u
abbrev pub spawns_task : ℕ → EntryKind → Entry → Bool
spawns_task u kind.Spawn e = u == number e.a
spawns_task u _ e = false

-- whether entries spawn task u, or take object o out
abbrev pub spawns : List Entry → ℕ → Bool
spawns a u = list_any (λ e. spawns_task u e.kind e) a

abbrev pub takes_out : List Entry → ℕ → Bool
takes_out a o = list_any (λ e. takes_object e.kind e o) a
