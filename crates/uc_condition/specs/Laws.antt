-- The queues are the filters of the journal, entry by entry.
use Rattle.std.specs.Prelude.{◌≡◌, ℕ, ℤ, pos, Bool, true, false, [], ◌∷◌, ◌++◌, Some}
use Rattle.uc_entry.specs.declared.entry.Entry.{Entry}
use Rattle.uc_entry.specs.declared.entry.EntryKind.{EntryKind}
use Rattle.uc_entry.specs.declared.entry.EntryKind.TheVariants as kind
use Rattle.uc_acts.specs.Journal.{Journal, Cost, asking}
use Rattle.uc_acts.specs.Doors.{blocked}
use Rattle.uc_condition.specs.Waiting.{Waiting, Became, IsFree, queue_at, first_task, rest_of}

-- the queue of each condition of each object is what the journal tells is blocked there
abbrev pub AreBlocked : Waiting → Journal → Type 0
AreBlocked v j = (o c : ℕ) → queue_at v o c ≡ blocked o c j

-- an entry that takes its task out of every queue of its object
abbrev pub takes_out : EntryKind → Bool
takes_out kind.Push = true
takes_out kind.Admit = true
takes_out _ = false

-- an entry that tells nothing of conditions
abbrev pub is_silent : EntryKind → Bool
is_silent kind.Wait = false
is_silent kind.Push = false
is_silent kind.Admit = false
is_silent _ = true

-- before the first entry nobody waits
abbrev pub LawOpening : Type 0
LawOpening = (v : Waiting) → ((o c : ℕ) → queue_at v o c ≡ []) → AreBlocked v []

abbrev pub LawWait : Type 0
LawWait = (v w : Waiting) (j : Journal) (p t : ℕ) (k : Cost) (o c : ℕ) (n : ℤ) → AreBlocked v j → Became v w o c (queue_at v o c ++ (t, n) ∷ []) → AreBlocked w (j ++ asking kind.Wait p t k o (pos c) n ∷ [])

-- the task was taken from the queue of c, and waits nowhere then
abbrev pub LawTake : Type 0
LawTake = (v w : Waiting) (j : Journal) (e : Entry) (c : ℕ) → takes_out e.kind ≡ true → AreBlocked v j → Some e.task ≡ first_task (queue_at v e.object c) → Became v w e.object c (rest_of (queue_at v e.object c)) → IsFree e.task w → AreBlocked w (j ++ e ∷ [])

-- the task waits on no condition
abbrev pub LawElsewhere : Type 0
LawElsewhere = (v : Waiting) (j : Journal) (e : Entry) → takes_out e.kind ≡ true → AreBlocked v j → IsFree e.task v → AreBlocked v (j ++ e ∷ [])

abbrev pub LawOthers : Type 0
LawOthers = (v : Waiting) (j : Journal) (e : Entry) → is_silent e.kind ≡ true → AreBlocked v j → AreBlocked v (j ++ e ∷ [])
