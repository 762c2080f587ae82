-- Runs in which nobody has at hand what has gone: what constructors have bound is not gone.
use Rattle.std.specs.Prelude.{◌≡◌, ℕ, false, List, []}
use Rattle.uc_tree.specs.Programs.{Program}
use Rattle.uc_entry.specs.declared.entry.Options.{Options}
use Rattle.uc_acts.specs.Journal.{Journal, is_over}
use Rattle.uc_acts.specs.KernelRuns.{InRange}
use Rattle.uc_machine.specs.Quiet.{State}
use Rattle.uc_machine.specs.Answering.{answered}
use Rattle.uc_meaning.specs.Runs.{World, Runs, drawn}
use Rattle.uc_resolve.specs.Resolve.{source_of}
use Rattle.uc_rules.specs.Breaks.{breaks_of}
use Rattle.uc_state_laws.specs.Fitting.{RunFits}
use Rattle.uc_state_laws.specs.RoomRuns.{Comes}
use Rattle.uc_state_laws.specs.Opens.{LeadsMeet}
use Rattle.uc_sound.specs.SoundFormed.{IsFormed}
use Rattle.uc_sound.specs.Tables.{table_of}
use Rattle.uc_life_laws.specs.Things.{Few}
use Rattle.uc_life_laws.specs.LifeStates.{OpensBy}
use Rattle.uc_life_laws.specs.Lives.{OutwardsOrMade}
use Rattle.uc_life_laws.specs.Knowing.{Finds}
use Rattle.uc_life_laws.specs.KnownAnswers.{MainPasses}
use Rattle.uc_life_laws.specs.KnownRuns.{PassesBelow}
use Rattle.uc_life_laws.specs.Lasting.{lasting, RunForgets, RunMeetsAt}
use Rattle.uc_building_laws.specs.Building.{heads_of}
use Rattle.uc_building_laws.specs.BuildingStates.{BuiltState}
use Rattle.uc_building_laws.specs.BuildingLaws.{Fair}

-- by some kinds by which objects that are built hold what is known, a step finds what LawKept asks
abbrev pub FindsBuilt : Program → Few → State → Type 0
FindsBuilt p few s = BuiltState (table_of p) (heads_of p) few [] s → (x : BuiltState (table_of p) (heads_of p) few [] s) ×
    Finds (table_of p) few x.0.sigs x.0.run.sig x.0.run.scope s s.run.control x.0.run.own ×
    OpensBy (table_of p) few (OutwardsOrMade x.0.sigs) s × Fair (table_of p) (heads_of p) few x.0.sigs (source_of p) s p

-- in each run of a program that breaks no rule, as long as all that was asked so far fits, and as far as each step found what it was to find: of whoever
-- runs in each state to which it comes all is known so that is not gone
abbrev pub LawBuiltLasting : Type 0
LawBuiltLasting =
    (p : Program) → IsFormed p → breaks_of p ≡ [] → (few : Few) →
    (input : List ℕ) (opts : Options) → InRange opts →
    (j : Journal) (w : World) (r : Runs (source_of p) input opts j w) →
    RunFits (source_of p) input opts j w r → is_over j ≡ false → PassesBelow few opts j →
    MainPasses (table_of p) few ((table_of p).routine (source_of p).main).this 0 →
    RunMeetsAt (λ i s. FindsBuilt p (lasting few i) s) (source_of p) input opts j w r →
    RunForgets (table_of p) few (source_of p) input opts j w r →
    (n : ℕ) (s : State) (c : Comes (source_of p) j w n s) →
    LeadsMeet (FindsBuilt p (lasting few j)) (source_of p) (answered (source_of p) c.given (drawn j w n)) s c.leads →
    BuiltState (table_of p) (heads_of p) (lasting few j) [] s
