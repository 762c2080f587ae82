-- The lists of the mutex objects after a call of a part are the journal's after the entries that the call is told by.
use Rattle.std.specs.Prelude.{◌≡◌, ℕ, pos, ◌<◌, Bool, List, [], ◌∷◌, ◌++◌, length, Option, Some, None}
use Rattle.uc_tree.specs.Programs.{Site}
use Rattle.uc_tree.specs.SiteOffers.{met}
use Rattle.uc_links.specs.Lists.{member_limit}
use Rattle.uc_entry.specs.declared.entry.Entry.{Entry}
use Rattle.uc_entry.specs.declared.entry.EntryKind.TheVariants as kind
use Rattle.uc_acts.specs.Journal.{Journal, Cost, asking, inside}
use Rattle.uc_acts.specs.Queues.{next}
use Rattle.uc_acts.specs.Doors.{site_at, open_at, next_met}
use Rattle.uc_acts.specs.Sound.{Sound, Stood}
use Rattle.uc_acts.specs.Acts.{admit, admit_failed, push, accept_entry, accepted, called, admission}
use Rattle.uc_mutex.specs.declared.called.Called.{Called}
use Rattle.uc_mutex.specs.declared.called.Called.TheVariants as called_as
use Rattle.uc_mutex.specs.declared.called.Passed.{Passed}
use Rattle.uc_mutex.specs.Doors.{Doors, IsFree, door_at, with_door, answer, after_call, next_of, after_next}
use Rattle.uc_mutex.specs.Offers.{offers_by}
use Rattle.uc_accept.specs.declared.accepting.Accepted.{Accepted}
use Rattle.uc_accept.specs.declared.accepting.Accepted.TheVariants as accepted_as
use Rattle.uc_accept.specs.Accepting.{unpulled, answer_of, doors_of}
use Rattle.uc_kernel_core.specs.DoorLaws.{IsDoor}

-- all doors are the journal's
abbrev pub AreDoors : List Site → Journal → Doors → Type 0
AreDoors sites j v = (o : ℕ) → o < length v.doors → IsDoor sites o j (door_at v o)

-- a journal as kernels keep it, and its doors
pub record HasDoors (sites : List Site) (j : Journal) (v : Doors) : Type 0 where
  pub sound : Sound j
  pub stood : Stood sites j
  pub doors : AreDoors sites j v

-- ---- the entries that an answer is told by
-- behind the call of task t on p
abbrev pub told_call : ℕ → ℕ → ℕ → Called → List Entry
told_call p t o called_as.Waits = []
told_call p t o (called_as.In way) = admit p t o way 0 ∷ []
told_call p t o (called_as.Pushed u clause) = admit p u o 3 clause ∷ push p t o ∷ []

-- whoever was let in next
abbrev pub told_next : ℕ → ℕ → Option Passed → List Entry
told_next p o None = []
told_next p o (Some n) = admit_failed p n.task o n.way n.clause n.failed ∷ []

-- an accept of task t on p
abbrev pub told_accept : ℕ → ℕ → Cost → ℕ → ℕ → ℕ → Bool → Accepted → List Entry
told_accept p t k o site mask has_else accepted_as.Opened = accept_entry p t k o site mask has_else 0 ∷ []
told_accept p t k o site mask has_else accepted_as.Else = accept_entry p t k o site mask has_else 2 ∷ []
told_accept p t k o site mask has_else (accepted_as.Caller u clause) =
    accept_entry p t k o site mask has_else 1 ∷ admit p u o 1 0 ∷ []
told_accept p t k o site mask has_else (accepted_as.Destroyer u clause) =
    accept_entry p t k o site mask has_else 3 ∷ push p u o ∷ []

-- ---- the laws: a is what the acts of a kernel append
-- the entries a are those of the answer, and the doors that the call left are the journal's
pub record Agrees (sites : List Site) (j a answered : List Entry) (w : Doors) : Type 0 where
  pub told : a ≡ answered
  pub doors : AreDoors sites (j ++ a) w

-- a call of a member, by a task that waits nowhere and is on no stack
abbrev pub LawCalled : Type 0
LawCalled = (sites : List Site) (j : Journal) (v w : Doors) (p t : ℕ) (k : Cost) (o m : ℕ) → HasDoors sites j v → o < length v.doors → m < member_limit → IsFree t v → w ≡ with_door v o (after_call t m (door_at v o)) →
    let first = asking kind.Call p t k o (pos m) (pos 0) in
    Agrees sites j (first ∷ called sites p t o m (inside o j) (open_at o j)) (first ∷ told_call p t o (answer (door_at v o) m)) w

-- whoever is next at an object that nobody is inside
abbrev pub LawNext : Type 0
LawNext = (sites : List Site) (j : Journal) (v w : Doors) (p o : ℕ) → HasDoors sites j v → o < length v.doors → inside o j ≡ [] → w ≡ with_door v o (after_next (door_at v o)) →
    Agrees sites j (admission sites p o j (next o j)) (told_next p o (next_of (door_at v o))) w

-- an accept of the task inside
abbrev pub LawAccepted : Type 0
LawAccepted = (sites : List Site) (j : Journal) (v w : Doors) (p t : ℕ) (k : Cost) (o site mask : ℕ) → HasDoors sites j v → o < length v.doors → inside o j ≡ t ∷ [] → IsFree t v →
    let s = site_at sites site in
    let found = met (offers_by s mask) (door_at v o).waiting in
    unpulled w ≡ doors_of v o t s.has_else (offers_by s mask) found → Agrees sites j (accepted p t k o site mask s.has_else (next_met sites site mask o j)) (told_accept p t k o site mask s.has_else (answer_of s.has_else found)) w
