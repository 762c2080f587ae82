-- What is called is not gone, but for calls that destroy it.
use Rattle.std.specs.Prelude.{◌≡◌, ℕ, false, List, [], ◌∷◌}
use Rattle.uc_tree.specs.Programs.{Program}
use Rattle.uc_entry.specs.declared.entry.Options.{Options}
use Rattle.uc_entry.specs.declared.request.Request.TheVariants as ask
use Rattle.uc_acts.specs.Journal.{Journal, is_over}
use Rattle.uc_acts.specs.Known.{is_gone}
use Rattle.uc_acts.specs.KernelRuns.{InRange}
use Rattle.uc_machine.specs.Pieces.{Todo, EnterNow}
use Rattle.uc_machine.specs.Quiet.{State, Asks, quiet}
use Rattle.uc_machine.specs.Answering.{answered}
use Rattle.uc_meaning.specs.Runs.{World, Runs, drawn}
use Rattle.uc_state_laws.specs.Fitting.{RunFits}
use Rattle.uc_resolve.specs.Resolve.{source_of}
use Rattle.uc_rules.specs.Breaks.{breaks_of}
use Rattle.uc_state_laws.specs.RoomRuns.{Comes}
use Rattle.uc_state_laws.specs.Opens.{LeadsMeet}
use Rattle.uc_sound.specs.SoundFormed.{IsFormed}
use Rattle.uc_sound.specs.Tables.{table_of}
use Rattle.uc_life_laws.specs.Things.{Few}
use Rattle.uc_life_laws.specs.KnownAnswers.{MainPasses}
use Rattle.uc_life_laws.specs.KnownRuns.{PassesBelow, Meets}
use Rattle.uc_life_laws.specs.Lasting.{lasting, RunForgets, RunMeetsAt}

-- whoever runs calls a member that is no destructor
abbrev pub LawCalled : Type 0
LawCalled =
    (p : Program) → IsFormed p → breaks_of p ≡ [] → (few : Few) →
    (input : List ℕ) (opts : Options) → InRange opts →
    (j : Journal) (w : World) (r : Runs (source_of p) input opts j w) →
    RunFits (source_of p) input opts j w r → is_over j ≡ false → PassesBelow few opts j →
    MainPasses (table_of p) few ((table_of p).routine (source_of p).main).this 0 →
    RunMeetsAt (λ i s. Meets (table_of p) (lasting few i) s) (source_of p) input opts j w r →
    RunForgets (table_of p) few (source_of p) input opts j w r →
    (n : ℕ) (s : State) (c : Comes (source_of p) j w n s) →
    LeadsMeet (Meets (table_of p) (lasting few j)) (source_of p) (answered (source_of p) c.given (drawn j w n)) s c.leads →
    (k i : ℕ) (todo : List Todo) → s.run.control ≡ EnterNow k i ∷ todo → ((table_of p).routine i).whole ≡ false →
    (o m : ℕ) (u : State) → quiet (source_of p) s ≡ Asks (ask.Call o m) u → is_gone o j ≡ false
