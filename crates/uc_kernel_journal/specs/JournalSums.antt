-- What contracts see of the kernel's journal, and what it keeps beside its journal.
use Rattle.std.specs.Prelude.{◌≡◌, ℕ, ◌*◌, ◌<◌, ◌≤◌, Bool, false, List, [], ◌∷◌, ◌++◌, Option, length, slice_index_or}
use Rattle.std.specs.List.{AllByRecursion}
use Rattle.uc_tree.specs.Programs.{Site}
use Rattle.uc_tree.specs.declared.limits.TheConstants.{CLAUSES}
use Rattle.uc_entry.specs.declared.entry.Entry.{Entry}
use Rattle.uc_entry.specs.declared.request.Answer.{Answer}
use Rattle.uc_acts.specs.Journal.{Journal, is_over}
use Rattle.uc_acts.specs.Queues.{used, all_ticks, first_ended}
use Rattle.uc_acts.specs.Reading.{bytes_used, has_failed}
use Rattle.uc_acts.specs.Answers.{answer_to}

pub record Told : Type 0 where
  pub journal : List Entry
  pub sites : List Site
  -- entries for which memory was taken
  pub room : ℕ
  -- the numbers of tasks are below this
  pub tasks : ℕ

-- with one entry more
abbrev pub told_more : Told → Entry → Told
told_more v e = record { journal = v.journal ++ e ∷ []; sites = v.sites; room = v.room; tasks = v.tasks }

-- with this journal
abbrev pub with_journal : Told → List Entry → Told
with_journal v j = record { journal = j; sites = v.sites; room = v.room; tasks = v.tasks }

-- each accept statement has few clauses
abbrev pub AreShort : List Site → Type 0
AreShort sites = AllByRecursion (λ s. length s.clauses ≤ CLAUSES) sites

-- the sums and the answers are the journal's
pub record Tells (sites : List Site) (j : Journal) (total : ℕ) (each : List ℕ) (told : List (Option Answer)) (taken : ℕ) (missed first : Bool) : Type 0 where
  pub ticks : total ≡ all_ticks j
  pub most : total ≤ length j * 4294967295
  pub spent : (t d : ℕ) → t < length each → slice_index_or each t d ≡ used t j
  pub less : (t : ℕ) → used t j ≤ all_ticks j
  pub answers : (t : ℕ) (d : Option Answer) → t < length told → slice_index_or told t d ≡ answer_to sites t j
  pub bytes : taken ≡ bytes_used j
  pub failed : missed ≡ has_failed j
  pub ended : first ≡ first_ended j

-- while the run goes on
pub record IsTold (sites : List Site) (j : Journal) (ticks : ℕ) (spent : List ℕ) (answers : List (Option Answer)) (bytes : ℕ) (failed ended over : Bool) (room tasks : ℕ) : Type 0 where
  pub tells : is_over j ≡ false → Tells sites j ticks spent answers bytes failed ended
  pub begun : 1 ≤ length j
  pub tasks_spent : length spent ≡ tasks
  pub tasks_answers : length answers ≡ tasks
  pub short : AreShort sites
  pub narrow : room ≤ 4294967295
  pub ends : over ≡ is_over j
