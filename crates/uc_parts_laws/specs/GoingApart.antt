-- In runs of programs what goes is no element that stands of an array of mutex objects.
use Rattle.std.specs.Prelude.{◌≡◌, ℕ, ◌⊎◌, false, List, [], ◌∷◌}
use Rattle.uc_tree.specs.Programs.{Program}
use Rattle.uc_entry.specs.declared.entry.Options.{Options}
use Rattle.uc_entry.specs.declared.request.Request.TheVariants as ask
use Rattle.uc_acts.specs.Journal.{Journal, is_over}
use Rattle.uc_acts.specs.KernelRuns.{InRange}
use Rattle.uc_machine.specs.declared.exec.Exec.{Exec}
use Rattle.uc_machine.specs.Pieces.{Value, Todo, GoneNow, GiveUpNow, State, Asks, object_in}
use Rattle.uc_machine.specs.Quiet.{quiet}
use Rattle.uc_meaning.specs.Runs.{World, Runs}
use Rattle.uc_resolve.specs.Resolve.{source_of}
use Rattle.uc_rules.specs.Breaks.{breaks_of}
use Rattle.uc_sound.specs.SoundFormed.{IsFormed}
use Rattle.uc_sound.specs.Tables.{table_of}
use Rattle.uc_state_laws.specs.Fitting.{RunFits}
use Rattle.uc_state_laws.specs.Opens.{RunMeets}
use Rattle.uc_life_laws.specs.Things.{Few}
use Rattle.uc_life_laws.specs.Belonging.{Belongs}
use Rattle.uc_putting_laws.specs.PuttingLaws.{setting_of, Fair}
use Rattle.uc_rooted_runs.specs.UnmarkedRuns.{RunLeft}
use Rattle.uc_parts_laws.specs.PartStates.{PartsState}
use Rattle.uc_parts_laws.specs.PartsRuns.{parts_of}
use Rattle.uc_parts_laws.specs.StandingRuns.{RunGoesApart}

-- an object goes with the activation that has it at hand and lets go of it, which has nothing else done before; what waits stays
pub record LetsGo (o : ℕ) (s u : State) : Type 0 where
  pub object : o ≡ object_in s.run.this
  pub todo : List Todo
  pub lets_go : (s.run.control ≡ GoneNow ∷ todo) ⊎ (s.run.control ≡ GiveUpNow ∷ todo)
  pub run : u.run ≡ record s.run { control = todo }
  pub callers : u.callers ≡ s.callers
  pub exec : u.env.exec ≡ s.env.exec

-- in each run of a program that breaks no rule, as long as all that was asked so far fits, each step finds what is left to find, parts are taken over, what
-- goes does so like that and was its own of who lets go of it (`RunLeft`), and object 0 is nobody's own
abbrev pub LawGoesApart : Type 0
LawGoesApart =
    (p : Program) → IsFormed p → breaks_of p ≡ [] → (few : Few) → ((n : Exec) → Belongs few n (few.home 0) → ⊥) →
    ((s : State) (o : ℕ) (u : State) → quiet (source_of p) s ≡ Asks (ask.Gone o) u → LetsGo o s u) →
    (input : List ℕ) (opts : Options) → InRange opts →
    (j : Journal) (w : World) (r : Runs (source_of p) input opts j w) → RunFits (source_of p) input opts j w r →
    is_over j ≡ false → RunLeft (table_of p) few (source_of p) input opts j w r →
    RunMeets (Fair (setting_of p few)) (source_of p) input opts j w r →
    (homes : ℕ → Value) → RunMeets (PartsState (parts_of p homes)) (source_of p) input opts j w r →
    RunGoesApart few.home (source_of p) input opts j w r
