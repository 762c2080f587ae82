-- What a judge keeps of each task.
use Rattle.std.specs.Prelude.{◌≡◌, ℕ, ◌==◌, ◌-◌, false, List, Option, Some, None, unwrap_or, if◌then◌else◌}
use Rattle.std.specs.Ordering.{nat_cmp}
use Rattle.std.specs.BTreeMap.{get}
use Rattle.uc_entry.specs.declared.entry.Entry.{Entry}
use Rattle.uc_entry.specs.declared.entry.EntryKind.{EntryKind}
use Rattle.uc_entry.specs.declared.entry.EntryKind.TheVariants as kind
use Rattle.uc_entry.specs.declared.entry.Options.{Options}
use Rattle.uc_acts.specs.Open.{still_open}
use Rattle.uc_acts.specs.Answers.{first_of}
use Rattle.uc_acts.specs.Journal.{Journal, number, where_true, owns}
use Rattle.uc_acts.specs.Queues.{dispatches}
use Rattle.uc_acts.specs.Known.{owner}
use Rattle.uc_acts.specs.Serves.{left}
use Rattle.uc_judge.specs.declared.tasks.Tasks.{Tasks}

-- the task whose own object an entry tells, and that object
abbrev pub home_of : EntryKind → Entry → Option (ℕ × ℕ)
home_of kind.Begin e = Some (0, 0)
home_of kind.Spawn e = Some (number e.a, e.object)
home_of _ e = None

-- what a pair tells of a number
abbrev pub told_for : ℕ → Option (ℕ × ℕ) → Option ℕ
told_for k None = None
told_for k (Some p) = where_true (p.0 == k) p.1

-- the first of two, if there is one
abbrev pub first_told : Option ℕ → Option ℕ → Option ℕ
first_told None x = x
first_told (Some n) x = Some n

-- the ticks left behind an entry
abbrev pub left_behind : ℕ → Entry → ℕ → ℕ → ℕ
left_behind slice e t n =
    if e.task == t then (if dispatches e.kind e t then slice else n) - e.ticks else n

-- the objects whose task is t
abbrev pub own_objects : ℕ → Journal → List ℕ
own_objects t j = still_open (λ e. owns t e.kind e) (λ e o. false) j

-- the tasks are those of a journal under these options
pub record AreTasks (s : Tasks) (opts : Options) (j : Journal) : Type 0 where
  pub slice : s.slice ≡ opts.slice
  pub own : (t : ℕ) → get nat_cmp s.own t ≡ first_of (own_objects t j)
  pub owners : (o : ℕ) → get nat_cmp s.owners o ≡ first_of (owner o j)
  pub left : (t : ℕ) → unwrap_or (get nat_cmp s.left t) s.slice ≡ left opts j t
