-- In every run of a program that breaks no rule marks are put for what is an execution's own.
use Rattle.std.proofs.Common.{◌≡◌, ℕ, []}
use Rattle.std.specs.Prelude.{slice_get}
use Rattle.uc_tree.specs.Numbering.{sites_of}
use Rattle.uc_tree.specs.Programs.{Program}
use Rattle.uc_resolve.specs.Resolve.{source_of}
use Rattle.uc_rules.specs.Breaks.{breaks_of}
use Rattle.uc_sound.specs.SoundFormed.{IsFormed}
use Rattle.uc_sound.specs.Tables.{table_of}
use Rattle.uc_sound.proofs.SoundLemmas.{law_sound}
use Rattle.uc_site_laws.proofs.Routines.{source_named}
use Rattle.uc_state_laws.specs.Counted.{CountedSource}
use Rattle.uc_state_laws.proofs.Arguments.{counted_source}
use Rattle.uc_life_laws.specs.Things.{Few}
use Rattle.uc_life_laws.proofs.Laying.{laid_out}
use Rattle.uc_life_laws.proofs.UnmarkedWorlds.{law_runs as lone_runs}
use Rattle.uc_putting_laws.specs.Putting.{CodeRoutine}
use Rattle.uc_putting_laws.specs.PuttingLaws.{special_of, setting_of}
use Rattle.uc_putting_laws.specs.PuttingRuns.{LawRuns}
use Rattle.uc_putting_laws.proofs.LawSteps.{code}
use Rattle.uc_putting_laws.proofs.Routines.{law_calling}
use Rattle.uc_putting_laws.proofs.Worlds.{run_put, leads_put}

known_of : (p : Program) → IsFormed p → breaks_of p ≡ [] → CountedSource (source_of p)
known_of p formed accepted = counted_source (sites_of p) (source_of p) (table_of p) (law_sound p formed accepted) (source_named p)

pub code_of : (p : Program) → IsFormed p → breaks_of p ≡ [] → (few : Few) → (n : ℕ) → CodeRoutine (setting_of p few) (special_of p n) ((table_of p).routine n).this (slice_get (source_of p).routines n)
code_of p formed accepted few = code (setting_of p few) (known_of p formed accepted) (law_calling p formed accepted)

pub law_runs : LawRuns
law_runs = record {
  runs = λ p formed accepted few input opts range j w r f fair.
      (run_put p accepted few (laid_out p formed accepted) (law_calling p formed accepted).main (code_of p formed accepted few) input opts range r f fair).1;
  leads = λ p formed accepted few input opts range j w r f fair on t s c l.
      leads_put p accepted few (laid_out p formed accepted) (law_calling p formed accepted).main (code_of p formed accepted few) input opts range r f fair on t s c l;
  gone = λ p formed accepted few input opts range j w r f fair.
      (lone_runs (table_of p) few (source_of p) input opts j w r (run_put p accepted few (laid_out p formed accepted) (law_calling p formed accepted).main (code_of p formed accepted few) input opts range r f fair).1).gone;
}
