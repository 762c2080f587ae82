-- Laws of runs of tasks that ask.
use Rattle.std.specs.Prelude.{◌≡◌, ℕ, ◌==◌, false, List, [], ◌∷◌, ◌++◌, Option, Some, None}
use Rattle.uc_tree.specs.Programs.{Site}
use Rattle.uc_entry.specs.declared.entry.Entry.{Entry}
use Rattle.uc_entry.specs.declared.entry.Options.{Options}
use Rattle.uc_entry.specs.declared.request.Answer.{Answer}
use Rattle.uc_acts.specs.Journal.{Journal, is_over, where_true}
use Rattle.uc_acts.specs.Answers.{tells}
use Rattle.uc_judge.specs.declared.asks.Change.{Change}
use Rattle.uc_judge.specs.declared.asks.Change.TheVariants as change
use Rattle.uc_judge.specs.declared.verdict.Verdict.{Verdict}
use Rattle.uc_judge.specs.Changes.{changes}
use Rattle.uc_judge.specs.Runs.{written, Cause, May, Runs, IsVerdict}

-- acts that lead from a journal and its tasks to another
pub data Leads {W : Type 0} (cause : Cause W) (opts : Options) : Journal → W → Journal → W → Type 0 where
  there : {j : Journal} {w : W} → Leads cause opts j w j w
  onward : {j : Journal} {w : W} {a : List Entry} {x : W} {k : Journal} {u : W} → is_over j ≡ false → May cause opts j w a x → Leads cause opts (j ++ a) x k u → Leads cause opts j w k u

-- a run that goes on is passed by each run whose journal begins as its journal, with lines or without
abbrev pub LawCut : {W : Type 0} → Cause W → Type 0
LawCut {W} cause =
    (opts other : Options) (j : Journal) (w : W) (k : Journal) (u : W) (rest : List Entry) → Runs cause opts j w → is_over j ≡ false → Runs cause other k u → written cause.lines k ≡ written cause.lines j ++ rest → (opts ≡ other) × Leads cause opts j w k u

-- the answer of one journal
abbrev pub LawVerdict : {W : Type 0} → Cause W → Type 0
LawVerdict cause = (j : Journal) (u v : Verdict) → IsVerdict cause j u → IsVerdict cause j v → u ≡ v

-- the last answer to task t among changes
abbrev pub or_before : Option Answer → Option Answer → Option Answer
or_before None x = x
or_before (Some a) x = Some a

abbrev pub answer_among : ℕ → List Change → Option Answer
answer_among t [] = None
answer_among t (change.Answered u a ∷ cs) = or_before (answer_among t cs) (where_true (t == u) a)
answer_among t (change.Spawned o u ∷ cs) = answer_among t cs
answer_among t (change.Gone o ∷ cs) = answer_among t cs

abbrev pub LawAnswers : Type 0
LawAnswers =
    (sites : List Site) (t : ℕ) (e : Entry) → answer_among t (changes sites e.kind e) ≡ tells sites t e.kind e
