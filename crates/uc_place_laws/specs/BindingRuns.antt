-- Runs of programs in which what is bound is a place that the statement has named.
use Rattle.std.specs.Prelude.{◌≡◌, ℕ, false, List, [], ◌∷◌, drop}
use Rattle.uc_tree.specs.Programs.{Program}
use Rattle.uc_entry.specs.declared.entry.Options.{Options}
use Rattle.uc_acts.specs.Journal.{Journal, is_over}
use Rattle.uc_acts.specs.KernelRuns.{InRange}
use Rattle.uc_machine.specs.Executions.{others}
use Rattle.uc_machine.specs.Pieces.{Todo, BindNow, BindMadeNow, State, top, below}
use Rattle.uc_meaning.specs.Runs.{World, Runs}
use Rattle.uc_state_laws.specs.Fitting.{RunFits}
use Rattle.uc_resolve.specs.Resolve.{source_of}
use Rattle.uc_rules.specs.Breaks.{breaks_of}
use Rattle.uc_sound.specs.SoundFormed.{IsFormed}
use Rattle.uc_state_laws.specs.RoomRuns.{Comes}
use Rattle.uc_state_laws.specs.Counted.{params}
use Rattle.uc_place_laws.specs.BindingLaws.{IsNamedPlace}

-- whoever runs binds such a place, in each state to which it comes before it asks
pub record BindsNamed (p : Program) (j : Journal) (w : World) : Type 0 where
  pub bound : (t : ℕ) (s : State) → Comes (source_of p) j w t s → (todo : List Todo) →
      s.run.control ≡ BindNow ∷ todo → IsNamedPlace p s todo todo (top (below s.run.operands))
  pub made : (t : ℕ) (s : State) → Comes (source_of p) j w t s → (c r : ℕ) (todo : List Todo) →
      s.run.control ≡ BindMadeNow c r ∷ todo →
      IsNamedPlace p s todo (others todo)
      (top (drop (params (source_of p) r) (below s.run.operands)))

-- so it is in each run of a program that breaks no rule, as long as all that was asked before fits
abbrev pub LawRuns : Type 0
LawRuns =
    (p : Program) → IsFormed p → breaks_of p ≡ [] →
    (input : List ℕ) (opts : Options) → InRange opts → (j : Journal) (w : World) →
    (r : Runs (source_of p) input opts j w) → RunFits (source_of p) input opts j w r →
    is_over j ≡ false → BindsNamed p j w
