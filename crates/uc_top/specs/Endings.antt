-- What the last entry of a journal makes of a call: its status, and its line on err.
use Rattle.std.specs.Prelude.{◌≡◌, ◌⊎◌, ℕ, ℤ, List, [], ◌∷◌, ◌++◌, codes, decimal, Option, Some, None}
use Rattle.std.specs.List.{concat}
use Rattle.std.specs.Fmt.{signed_decimal}
use Rattle.uc_entry.specs.declared.entry.Entry.{Entry}
use Rattle.uc_entry.specs.declared.entry.EntryKind.{EntryKind}
use Rattle.uc_entry.specs.declared.entry.EntryKind.TheVariants as kind
use Rattle.uc_entry.specs.declared.fault.RunFault.{RunFault}
use Rattle.uc_entry.specs.Faults.{fault_name, fault_of}
use Rattle.uc_acts.specs.Journal.{Journal}
use Rattle.uc_top.specs.declared.endings.Ending.{Ending}
use Rattle.uc_top.specs.declared.endings.Ending.TheVariants.{Done, Fault, Deadlock, NoProcessor, Limit}

-- an entry of a fault: the number of the fault, the line at which it came, and the task
pub record IsFaultEntry (e : Entry) (number line : ℤ) (task : ℕ) : Type 0 where
  pub of_kind : e.kind ≡ kind.Fault
  pub same_number : e.a ≡ number
  pub same_line : e.b ≡ line
  pub same_task : e.task ≡ task

-- what an entry that ends a run tells
abbrev pub Tells : Entry → Ending → Type 0
Tells e Done = e.kind ≡ kind.Done
Tells e (Fault number line task) = IsFaultEntry e number line task
Tells e Deadlock = e.kind ≡ kind.Deadlock
Tells e NoProcessor = e.kind ≡ kind.NoProcessor
Tells e Limit = e.kind ≡ kind.Limit

-- what an entry of each kind that ends a run tells
abbrev pub told_of : EntryKind → Entry → Ending
told_of kind.Fault e = Fault e.a e.b e.task
told_of kind.Deadlock e = Deadlock
told_of kind.NoProcessor e = NoProcessor
told_of kind.Limit e = Limit
told_of k e = Done

-- the last entry is an ending
pub record IsEnded (journal : Journal) : Type 0 where
  pub before : Journal
  pub last : Entry
  pub is : journal ≡ before ++ last ∷ []
  pub kind : (last.kind ≡ kind.Done) ⊎ (last.kind ≡ kind.Fault) ⊎ (last.kind ≡ kind.Deadlock) ⊎ (last.kind ≡ kind.NoProcessor) ⊎ (last.kind ≡ kind.Limit)

-- the journal ends so
pub record EndsWith (journal : Journal) (ending : Ending) : Type 0 where
  pub before : Journal
  pub last : Entry
  pub is : journal ≡ before ++ last ∷ []
  pub tells : Tells last ending

abbrev pub name_or_none : Option RunFault → List ℕ
name_or_none None = []
name_or_none (Some fault) = fault_name fault

-- the name of the run fault of a number
abbrev pub name_of_number : ℤ → List ℕ
name_of_number n = name_or_none (fault_of n)

abbrev pub ending_status : Ending → ℕ
ending_status Done = 0
ending_status (Fault number line task) = 5
ending_status Deadlock = 6
ending_status NoProcessor = 6
ending_status Limit = 7

-- the line on err: a run that is done has none
abbrev pub ending_text : Ending → List ℕ
ending_text Done = []
ending_text (Fault number line task) =
    concat (codes "ucpp: fault " ∷ (name_of_number number ∷ (codes " at line " ∷ (signed_decimal line ∷ (codes " in task " ∷ (decimal task ∷ (codes "\n" ∷ [])))))))
ending_text Deadlock = concat (codes "ucpp: " ∷ (codes "deadlock" ∷ ([] ∷ (codes "\n" ∷ []))))
ending_text NoProcessor = concat (codes "ucpp: " ∷ (codes "no processor" ∷ ([] ∷ (codes "\n" ∷ []))))
ending_text Limit = concat (codes "ucpp: " ∷ (codes "limit" ∷ ([] ∷ (codes "\n" ∷ []))))
