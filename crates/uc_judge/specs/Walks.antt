-- How far a judge has come with a journal, and what it takes there.
use Rattle.std.specs.Prelude.{◌≡◌, ℕ, ◌+◌, ◌<◌, ◌≤◌, true, false, Bool, List, [], ◌∷◌, Option, Some, None, length, drop, nat_lt, if◌then◌else◌}
use Rattle.uc_tree.specs.Programs.{Site}
use Rattle.uc_entry.specs.declared.entry.Entry.{Entry}
use Rattle.uc_entry.specs.declared.entry.EntryKind.{EntryKind}
use Rattle.uc_entry.specs.declared.entry.EntryKind.TheVariants as kind
use Rattle.uc_acts.specs.Journal.{Journal, is_over}
use Rattle.uc_acts.specs.Queues.{running}
use Rattle.uc_acts.specs.Acts.{dispatch, lone_limit}
use Rattle.uc_acts.specs.Serves.{Serves}
use Rattle.uc_acts.specs.Laws.{IsServed}
use Rattle.uc_acts.specs.KernelRuns.{InRange}
use Rattle.uc_judge.specs.declared.ledger.Ledger.{Ledger}
use Rattle.uc_judge.specs.declared.verdict.Verdict.{Verdict}
use Rattle.uc_judge.specs.declared.verdict.Verdict.TheVariants.{Yes, No}
use Rattle.uc_judge.specs.Compared.{GoesAs}
use Rattle.uc_judge.specs.Ledgers.{IsLedger}
use Rattle.uc_judge.specs.Runs.{lined, Cause, Runs, IsVerdict}

-- a ledger of entries that go on, with room for one more
pub record IsReady (s : Ledger) (sites : List Site) : Type 0 where
  pub in_range : InRange s.opts
  pub ledger : IsLedger s sites
  pub going : is_over s.entries.items ≡ false
  pub room : length s.entries.items < s.opts.entries

-- so is it with more entries
pub record Advances (old new : Ledger) (sites : List Site) : Type 0 where
  pub ready : IsReady new sites
  pub more : length old.entries.items < length new.entries.items

-- what a ledger keeps is a run, and the beginning of a journal
pub record Stands {W : Type 0} (cause : Cause W) (s : Ledger) (w : W) (z : Journal) : Type 0 where
  pub runs : Runs cause s.opts s.entries.items w
  pub goes : GoesAs cause.lines s.entries.items z

-- what has become of a journal behind an act: it stands, or has its answer
abbrev pub Comes : {W : Type 0} → Cause W → Ledger → W → Journal → Option Verdict → Type 0
Comes cause s w z None = Stands cause s w z
Comes cause s w z (Some v) = IsVerdict cause z v

-- the ledger takes the next act, unless there is an answer
abbrev pub Keeps : Ledger → Ledger → List Site → Option Verdict → Type 0
Keeps old new sites None = Advances old new sites
Keeps old new sites (Some v) = Unit {0}

abbrev pub is_dispatch : EntryKind → Bool
is_dispatch kind.Dispatch = true
is_dispatch _ = false

-- the entry gives processor p task t, and may follow
pub record MayGive (lines : Bool) (s : Ledger) (e : Entry) (p t : ℕ) : Type 0 where
  pub is : e ≡ lined lines (dispatch p t)
  pub serves : Serves s.opts s.entries.items p t
  pub room : length s.entries.items + 2 ≤ s.opts.entries

-- the limit, where it stands in place of a dispatch
pub record MayStop (lines : Bool) (s : Ledger) (e : Entry) : Type 0 where
  pub is : e ≡ lined lines lone_limit
  pub full : s.opts.entries < length s.entries.items + 2
  pub served : IsServed s.opts s.entries.items

-- the next entry of a journal is one of task t, which alone runs on processor p
pub record IsNext (lines : Bool) (s : Ledger) (z : Journal) (p t : ℕ) : Type 0 where
  pub entry : Entry
  pub later : List Entry
  pub is : drop (length s.entries.items) z ≡ entry ∷ later
  pub proc : entry.proc ≡ p
  pub gives_none : is_dispatch entry.kind ≡ false
  pub no_limit : MayStop lines s entry → ⊥
  pub runs : running p s.entries.items ≡ t ∷ []

-- the answer where a run has ended: no entry may follow
abbrev pub ended : Ledger → Journal → Verdict
ended s z = if nat_lt (length s.entries.items) (length z) then No (length s.entries.items) else Yes
