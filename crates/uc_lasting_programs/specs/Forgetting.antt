-- Runs of programs in which nobody has at hand what has gone, as far as no law gives that.
use Rattle.std.specs.Prelude.{◌≡◌, ℕ, false, List, []}
use Rattle.uc_tree.specs.Programs.{Program}
use Rattle.uc_entry.specs.declared.entry.Options.{Options}
use Rattle.uc_acts.specs.Journal.{Journal, is_over}
use Rattle.uc_acts.specs.KernelRuns.{InRange}
use Rattle.uc_machine.specs.declared.exec.Exec.{Exec}
use Rattle.uc_machine.specs.Pieces.{Value}
use Rattle.uc_meaning.specs.Runs.{World, Runs}
use Rattle.uc_state_laws.specs.Fitting.{RunFits}
use Rattle.uc_state_laws.specs.Limits.{IsWithinLimits}
use Rattle.uc_resolve.specs.Resolve.{source_of}
use Rattle.uc_rules.specs.Breaks.{breaks_of}
use Rattle.uc_sound.specs.SoundFormed.{IsFormed}
use Rattle.uc_sound.specs.Tables.{table_of}
use Rattle.uc_typing.specs.Typing.{Ty}
use Rattle.uc_state_laws.specs.Opens.{RunMeets}
use Rattle.uc_life_laws.specs.Things.{Few, Base}
use Rattle.uc_life_laws.specs.KnownAnswers.{MainPasses}
use Rattle.uc_life_laws.specs.KnownRuns.{PassesBelow, Meets}
use Rattle.uc_life_laws.specs.Lasting.{RunForgets}
use Rattle.uc_life_laws.specs.Belonging.{Belongs}
use Rattle.uc_life_laws.specs.Rooted.{IsBase}
use Rattle.uc_letting_laws.specs.AloneRuns.{RunAlone}
use Rattle.uc_putting_laws.specs.PuttingLaws.{setting_of, Fair}
use Rattle.uc_making_laws.specs.ForgetsThis.{RunGoes, IsLeftNowhere}
use Rattle.uc_lasting_programs.specs.Sparing.{KnowsHomes}

-- what is left of it: homes are told, of the first so many objects, and all is known; and each step finds what it is to find where objects are bound and
-- destroyed, and where resumptions are raised
pub record IsLeftOf (p : Program) (few : Few) (many : ℕ) (input : List ℕ) (opts : Options) (j : Journal) (w : World) (r : Runs (source_of p) input opts j w) : Type 0 where
  pub homes : RunMeets (KnowsHomes p few many) (source_of p) input opts j w r
  pub fair : RunMeets (Fair (setting_of p few)) (source_of p) input opts j w r

-- then nobody has at hand what has gone, in each run in which all that was asked so far fits and nothing else is owed to what tasks let go of, where
-- executions have places alone of others, object 0 is at home in nobody's own, each step finds what it is to find where all is known, and behind each such act nobody has at hand that in which
-- the object was at home
abbrev pub LawForgetsPrograms : Type 0
LawForgetsPrograms =
    (p : Program) → IsFormed p → breaks_of p ≡ [] → IsWithinLimits p → (few : Few) (many : ℕ) →
    ((n : Exec) (w : Value) (b : Ty) → Base few n w b → IsBase w b) →
    ((n : Exec) → Belongs few n (few.home 0) → ⊥) →
    (input : List ℕ) (opts : Options) → InRange opts →
    (j : Journal) (w : World) (r : Runs (source_of p) input opts j w) →
    RunFits (source_of p) input opts j w r → is_over j ≡ false → RunAlone (source_of p) input opts j w r →
    PassesBelow few opts j → MainPasses (table_of p) few ((table_of p).routine (source_of p).main).this 0 →
    RunMeets (Meets (table_of p) few) (source_of p) input opts j w r →
    RunGoes (IsLeftNowhere (table_of p) few) (source_of p) input opts r →
    IsLeftOf p few many input opts j w r →
    RunForgets (table_of p) few (source_of p) input opts j w r
