-- What the tasks of a program ask: what they name, and which events they raise at tasks.
use Rattle.std.specs.Prelude.{◌≡◌, ℕ, false, List, []}
use Rattle.uc_tree.specs.Programs.{Program}
use Rattle.uc_tree.specs.Numbering.{sites_of}
use Rattle.uc_entry.specs.declared.entry.Options.{Options}
use Rattle.uc_entry.specs.declared.request.Asked.{Asked}
use Rattle.uc_acts.specs.Journal.{Journal, is_over}
use Rattle.uc_acts.specs.KernelRuns.{InRange}
use Rattle.uc_resolve.specs.Resolve.{source_of}
use Rattle.uc_rules.specs.Breaks.{breaks_of}
use Rattle.uc_sound.specs.SoundFormed.{IsFormed}
use Rattle.uc_meaning.specs.Runs.{World, Runs as RunsIn, AsksIn}
use Rattle.uc_state_laws.specs.Fitting.{RunFits}
use Rattle.uc_machine.specs.Quiet.{State}
use Rattle.uc_site_laws.specs.Naming.{NamesKnown}
use Rattle.uc_state_laws.specs.Marked.{EventKnown}

-- so in every run of a program that breaks no rule, as long as all that was asked before fits, what is raised at a task is an event by a
-- number that there may be
abbrev pub LawEvents : Type 0
LawEvents =
    (p : Program) → IsFormed p → breaks_of p ≡ [] → (input : List ℕ) (opts : Options) → InRange opts →
    (j : Journal) (w : World) (r : RunsIn (source_of p) input opts j w) →
    RunFits (source_of p) input opts j w r → is_over j ≡ false →
    (q t n : ℕ) (s : State) (asked : Asked) → AsksIn (source_of p) opts j w q t n s asked →
    EventKnown asked.request

-- so in every run of a program a task asks of a member by a number that there may be, and of an accept statement of the program, with a
-- mask of its clauses
abbrev pub LawNames : Type 0
LawNames =
    (p : Program) (input : List ℕ) (opts : Options) (j : Journal) (w : World) →
    RunsIn (source_of p) input opts j w → (q t n : ℕ) (s : State) (asked : Asked) →
    AsksIn (source_of p) opts j w q t n s asked → NamesKnown (sites_of p) asked.request
