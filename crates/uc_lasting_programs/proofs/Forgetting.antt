-- All premises of the law on forgetting that laws of programs give.
use Rattle.std.specs.Prelude.{◌≡◌, ℕ, false, List, []}
use Rattle.uc_tree.specs.Programs.{Program}
use Rattle.uc_entry.specs.declared.entry.Options.{Options}
use Rattle.uc_acts.specs.Journal.{Journal, is_over}
use Rattle.uc_acts.specs.KernelRuns.{InRange}
use Rattle.uc_machine.specs.declared.exec.Exec.{Exec}
use Rattle.uc_machine.specs.Pieces.{Value}
use Rattle.uc_meaning.specs.Runs.{World, Runs}
use Rattle.uc_resolve.specs.Resolve.{source_of}
use Rattle.uc_rules.specs.Breaks.{breaks_of}
use Rattle.uc_state_laws.specs.Fitting.{RunFits}
use Rattle.uc_state_laws.specs.Limits.{IsWithinLimits}
use Rattle.uc_state_laws.specs.Opens.{RunMeets}
use Rattle.uc_sound.specs.SoundFormed.{IsFormed}
use Rattle.uc_sound.specs.Tables.{table_of}
use Rattle.uc_typing.specs.Typing.{Ty}
use Rattle.uc_life_laws.specs.Things.{Few, Base}
use Rattle.uc_life_laws.specs.Belonging.{Belongs}
use Rattle.uc_life_laws.specs.KnownAnswers.{MainPasses}
use Rattle.uc_life_laws.specs.KnownRuns.{PassesBelow, Meets}
use Rattle.uc_life_laws.specs.Rooted.{IsBase}
use Rattle.uc_letting_laws.specs.AloneRuns.{RunAlone}
use Rattle.uc_running_laws.proofs.RunningLemmas.{run_leaves}
use Rattle.uc_putting_laws.proofs.PuttingRuns.{law_runs}
use Rattle.uc_making_laws.specs.ForgetsThis.{RunGoes, IsLeftNowhere}
use Rattle.uc_making_laws.specs.Nobodys.{IsNobodys}
use Rattle.uc_making_laws.proofs.ForgetsThis.{law_forgets_this}
use Rattle.uc_making_laws.proofs.Nobodys.{law_nobodys}
use Rattle.uc_lasting_programs.specs.Forgetting.{IsLeftOf, LawForgetsPrograms}
use Rattle.uc_lasting_programs.proofs.CallsRuns.{law_calls_runs}
use Rattle.uc_lasting_programs.proofs.Finding.{law_finding}
use Rattle.uc_lasting_programs.proofs.Sparing.{run_spares}

pub law_forgets_programs : LawForgetsPrograms
law_forgets_programs p formed ok within few many places zero input opts range j w r fits on alone below first met nowhere x =
    let found = law_finding.runs p formed ok input opts range j w r fits alone in
    let calls = law_calls_runs.runs p formed ok few places input opts range j w r fits below first met x.fair in
    law_forgets_this (table_of p) few (source_of p) input opts j w r range fits on places zero (law_finding.runs_bind p formed ok few input opts range j w r fits x.fair) found.calls found.finds (run_leaves p formed ok input opts range r fits alone) (run_spares p formed ok within few many input opts range r fits alone x.fair x.homes) (law_runs.runs p formed ok few input opts range j w r fits x.fair) calls.0 calls.2 nowhere (law_finding.owed p formed ok input opts range j w r fits alone)

-- nor is any activation of it
pub run_nobodys : (p : Program) → IsFormed p → breaks_of p ≡ [] → IsWithinLimits p → (few : Few) (many : ℕ) → ((n : Exec) (w : Value) (b : Ty) → Base few n w b → IsBase w b) → ((n : Exec) → Belongs few n (few.home 0) → ⊥) → (input : List ℕ) (opts : Options) → InRange opts → (j : Journal) (w : World) (r : Runs (source_of p) input opts j w) → RunFits (source_of p) input opts j w r → is_over j ≡ false → RunAlone (source_of p) input opts j w r → PassesBelow few opts j → MainPasses (table_of p) few ((table_of p).routine (source_of p).main).this 0 → RunMeets (Meets (table_of p) few) (source_of p) input opts j w r → RunGoes (IsLeftNowhere (table_of p) few) (source_of p) input opts r → IsLeftOf p few many input opts j w r → RunGoes IsNobodys (source_of p) input opts r
run_nobodys p formed ok within few many places zero input opts range j w r fits on alone below first met nowhere x =
    let found = law_finding.runs p formed ok input opts range j w r fits alone in
    let calls = law_calls_runs.runs p formed ok few places input opts range j w r fits below first met x.fair in
    law_nobodys (table_of p) few (source_of p) input opts j w r range fits on zero (law_finding.runs_bind p formed ok few input opts range j w r fits x.fair) found.calls found.finds (run_leaves p formed ok input opts range r fits alone) (run_spares p formed ok within few many input opts range r fits alone x.fair x.homes) (law_runs.runs p formed ok few input opts range j w r fits x.fair) calls.0 calls.2 nowhere (law_finding.owed p formed ok input opts range j w r fits alone)
