-- The runs of tasks that ask, the starts of runs, and what a judge answers.
use Rattle.std.specs.Prelude.{◌≡◌, ℕ, ◌+◌, ◌<◌, ◌≤◌, Bool, true, false, List, [], ◌∷◌, ◌++◌, length, map, take, if◌then◌else◌}
use Rattle.uc_tree.specs.Programs.{Site}
use Rattle.uc_entry.specs.declared.entry.Entry.{Entry}
use Rattle.uc_entry.specs.declared.entry.Options.{Options}
use Rattle.uc_entry.specs.declared.request.Asked.{Asked}
use Rattle.uc_acts.specs.Journal.{Journal, begin, is_over}
use Rattle.uc_acts.specs.Queues.{running}
use Rattle.uc_acts.specs.Acts.{act, dispatch, lone_limit}
use Rattle.uc_acts.specs.Serves.{Serves, left}
use Rattle.uc_acts.specs.KernelRuns.{InRange}
use Rattle.uc_judge.specs.Asking.{Asking, Telling}
use Rattle.uc_judge.specs.Changes.{told_of}
use Rattle.uc_judge.specs.declared.verdict.Verdict.{Verdict}
use Rattle.uc_judge.specs.declared.verdict.Verdict.TheVariants.{Yes, No}

-- an entry with its line, or with 0 in its place, as a journal of the first version has it
abbrev pub lined : Bool → Entry → Entry
lined lines e = record e { line = if lines then e.line else 0 }

abbrev pub written : Bool → List Entry → List Entry
written lines a = map (lined lines) a

-- what a run is of: what its tasks ask, what becomes of them, its accept statements, and its input; and whether a journal of it has
-- lines
pub record Cause (W : Type 0) : Type 1 where
  pub asks : Asking W
  pub told : Telling W
  pub first : W
  pub sites : List Site
  pub input : List ℕ
  pub lines : Bool

abbrev pub cause_of : {W : Type 0} → Asking W → Telling W → W → List Site → List ℕ → Bool → Cause W
cause_of asks told first sites input lines =
    record { asks = asks; told = told; first = first; sites = sites; input = input; lines = lines }

-- the act that may follow entries without an ending, and the tasks behind it
pub data May {W : Type 0} (cause : Cause W) (opts : Options) (j : Journal) (w : W) : List Entry → W → Type 0 where
  gives : (p t : ℕ) → Serves opts j p t → length j + 2 ≤ opts.entries → May cause opts j w (dispatch p t ∷ []) w
  no_room : (p t : ℕ) → Serves opts j p t → opts.entries < length j + 2 → May cause opts j w (lone_limit ∷ []) w
  acts : (p t k : ℕ) (asked : Asked) (x : W) → running p j ≡ t ∷ [] → cause.asks w t (left opts j t) k asked x → May cause opts j w (act opts cause.sites cause.input j p t k asked) (told_of cause.told cause.sites x (act opts cause.sites cause.input j p t k asked))

-- the entries are `begin` and acts, each of which may follow all before it; they leave these tasks
pub data Runs {W : Type 0} (cause : Cause W) (opts : Options) : Journal → W → Type 0 where
  begun : Runs cause opts (begin opts ∷ []) (told_of cause.told cause.sites cause.first (begin opts ∷ []))
  more : {j : Journal} {w : W} {a : List Entry} {x : W} → Runs cause opts j w → is_over j ≡ false → May cause opts j w a x → Runs cause opts (j ++ a) x

-- the journal is the first entries of some such entries, as they are written
pub record IsStart {W : Type 0} (cause : Cause W) (j : Journal) : Type 0 where
  pub opts : Options
  pub in_range : InRange opts
  pub tasks : W
  pub all : Journal
  pub runs : Runs cause opts all tasks
  pub rest : List Entry
  pub is : written cause.lines all ≡ j ++ rest

-- a complete run: it is all of them, and the last one is an ending
pub record IsRun {W : Type 0} (cause : Cause W) (j : Journal) : Type 0 where
  pub opts : Options
  pub in_range : InRange opts
  pub tasks : W
  pub all : Journal
  pub runs : Runs cause opts all tasks
  pub over : is_over all ≡ true
  pub is : written cause.lines all ≡ j

-- where a journal that is no run goes wrong: behind the longest start, or at its end, where it is a start without an ending or cut
-- within an act
pub data GoesWrong {W : Type 0} (cause : Cause W) (j : Journal) (n : ℕ) : Type 0 where
  off : n < length j → ((m : ℕ) → m ≤ n → IsStart cause (take m j)) → (IsStart cause (take (n + 1) j) → ⊥) → GoesWrong cause j n
  unended : n ≡ length j → IsStart cause j → (IsRun cause j → ⊥) → GoesWrong cause j n

abbrev pub IsVerdict : {W : Type 0} → Cause W → Journal → Verdict → Type 0
IsVerdict cause j Yes = IsRun cause j
IsVerdict cause j (No n) = GoesWrong cause j n
