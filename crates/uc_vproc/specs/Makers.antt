-- Who made which entry, and what was handed out behind it.
use Rattle.std.specs.Prelude.{◌≡◌, ℕ, ◌==◌, Bool, false, List, [], ◌∷◌, ◌++◌, Option, Some, None, map, if◌then◌else◌}
use Rattle.std.specs.List.{list_any}
use Rattle.uc_entry.specs.declared.entry.Entry.{Entry}
use Rattle.uc_entry.specs.declared.entry.EntryKind.{EntryKind}
use Rattle.uc_entry.specs.declared.entry.EntryKind.TheVariants as kind
use Rattle.uc_acts.specs.Journal.{Journal}
use Rattle.uc_acts.specs.Queues.{running}
use Rattle.uc_frames.specs.Machine.{Machine, Members}
use Rattle.uc_kernel.specs.declared.given.Given.{Given}
use Rattle.uc_vproc.specs.declared.step.Step.{Step}
use Rattle.uc_vproc.specs.declared.step.Step.TheVariants.{Going, Idle, Over}

-- the maker of the first entry, which is no seat
abbrev pub nobody : ℕ
nobody = 64

-- entries, each with what came of the call that made it, and with its maker
abbrev pub Log : Type 0
Log = List ((Entry × Step) × ℕ)

-- a maker with what came of its call, for each entry
abbrev pub Notes : Type 0
Notes = List (ℕ × Step)

-- each entry with its note
abbrev pub paired : List Entry → Notes → Log
paired [] ns = []
paired (e ∷ es) [] = []
paired (e ∷ es) (n ∷ ns) = ((e, n.1), n.0) ∷ paired es ns

-- entries of one call
abbrev pub tagged : ℕ → Step → List Entry → Log
tagged n step a = map (λ e. ((e, step), n)) a

abbrev pub entries : Log → Journal
entries log = map (λ x. x.0.0) log

-- whether entries name processor p
abbrev pub names : ℕ → List Entry → Bool
names p later = list_any (λ e. e.proc == p) later

abbrev pub gives : ℕ → EntryKind → Entry → Bool
gives p kind.Dispatch e = e.proc == p
gives p k e = false

-- the maker of the last dispatch to processor p, from an earlier one
abbrev pub server_from : ℕ → Option ℕ → Log → Option ℕ
server_from p m [] = m
server_from p m (x ∷ log) = server_from p (if gives p x.0.0.kind x.0.0 then Some x.1 else m) log

unfoldable pub server : ℕ → Log → Option ℕ
server p log = server_from p None log

-- a task that is handed out, with its hand
abbrev pub Handed : Type 0
Handed = Given Machine Members

abbrev pub given_in : Step → Option Handed
given_in (Going h) = Some h
given_in Idle = None
given_in Over = None

-- what was handed out behind the last entry that names processor p, from an earlier one
abbrev pub handed_from : ℕ → Option Handed → Log → Option Handed
handed_from p m [] = m
handed_from p m (x ∷ log) = handed_from p (if x.0.0.proc == p then given_in x.0.1 else m) log

unfoldable pub handed_out : ℕ → Log → Option Handed
handed_out p log = handed_from p None log

-- whether the maker m may make an entry: a dispatch goes to a free processor, any other entry that names one is of whoever dispatched to it last; the first entry and a limit are free
abbrev pub MayMake : Log → EntryKind → Entry → ℕ → Type 0
MayMake before kind.Begin e m = before ≡ []
MayMake before kind.Limit e m = Unit {0}
MayMake before kind.Dispatch e m = running e.proc (entries before) ≡ []
MayMake before k e m = server e.proc before ≡ Some m

-- each entry is made by who may make it
abbrev pub Manned : Log → Type 0
Manned log = (before : Log) (x : (Entry × Step) × ℕ) (after : Log) → log ≡ before ++ x ∷ after → MayMake before x.0.0.kind x.0.0 x.1
