-- Runs of programs in which all that is being built lies elsewhere or is waited for, by the kinds of frames that go along the run.
use Rattle.std.specs.Prelude.{◌≡◌, ℕ, ◌⊎◌, Bool, false, List, [], ◌∷◌, Some}
use Rattle.uc_tree.specs.Programs.{Program}
use Rattle.uc_tree.specs.Source.{Source}
use Rattle.uc_entry.specs.declared.entry.Options.{Options}
use Rattle.uc_acts.specs.Journal.{Journal, is_over}
use Rattle.uc_acts.specs.KernelRuns.{InRange}
use Rattle.uc_machine.specs.Pieces.{Value}
use Rattle.uc_machine.specs.Quiet.{State}
use Rattle.uc_machine.specs.Answering.{answered}
use Rattle.uc_meaning.specs.Runs.{World, Runs, drawn}
use Rattle.uc_state_laws.specs.Fitting.{RunFits}
use Rattle.uc_resolve.specs.Resolve.{source_of}
use Rattle.uc_rules.specs.Breaks.{breaks_of}
use Rattle.uc_state_laws.specs.RoomRuns.{Comes}
use Rattle.uc_state_laws.specs.Opens.{RunMeets, LeadsMeet}
use Rattle.uc_typing.specs.Typing.{Raw, Sig, Table}
use Rattle.uc_sound.specs.SoundFormed.{IsFormed}
use Rattle.uc_sound.specs.Tables.{table_of}
use Rattle.uc_life_laws.specs.Things.{Few, UnmadeBehind}
use Rattle.uc_life_laws.specs.LifeStates.{LifeState, Opens}
use Rattle.uc_life_laws.specs.Knowing.{InMaking, KnowsState, Finds}
use Rattle.uc_life_laws.specs.Kinds.{Claimed}
use Rattle.uc_life_laws.specs.KnownAnswers.{MainPasses}
use Rattle.uc_life_laws.specs.KnownRuns.{PassesBelow}
use Rattle.uc_life_laws.specs.Makings.{IsElsewhere, IsEnding, Makings, BuildsAt}

-- a step finds what it is to find, in a state in which all is known by kinds by which what is being built is such: where a scope opens, what that is of
-- holds what is known; by some such kinds it finds the rest; and what builds an object is called at such a one
abbrev pub MeetsMaking : Table → (ℕ → Bool) → Few → Source → State → Type 0
MeetsMaking t ends few source s = LifeState t few s → Claimed (Makings t ends) t few [] s →
    Opens t few s ×
    ((y : Claimed (Makings t ends) t few [] s) × Finds t few y.0.sigs y.0.run.sig y.0.run.scope s s.run.control y.0.run.own) ×
    BuildsAt t ends source s s.run.control

-- all is known, by kinds by which all that is being built or destroyed lies elsewhere, or in what older activations wait for, or has a frame of the kind
-- of a destructor
pub record KnowsElsewhere (t : Table) (ends : ℕ → Bool) (few : Few) (s : State) : Type 0 where
  pub knows : KnowsState t few [] s
  pub elsewhere : (w : Value) (c : ℕ) → InMaking knows.sigs (s.run ∷ s.callers) w (Raw c) →
      (IsElsewhere t s.env.exec w c ⊎ UnmadeBehind t s.env.exec (s.run ∷ s.callers) w (Raw c)) ⊎ ((g : Sig) × (g.this ≡ Some c) × IsEnding t ends g)

-- so it is of whoever runs in each state to which it comes before it asks, as far as each step found what it was to find
pub record AllElsewhere (t : Table) (ends : ℕ → Bool) (few : Few) (source : Source) (j : Journal) (w : World) : Type 0 where
  pub comes : (n : ℕ) (s : State) (c : Comes source j w n s) →
      LeadsMeet (MeetsMaking t ends few source) source (answered source c.given (drawn j w n)) s c.leads → KnowsElsewhere t ends few s
  pub scopes : (n : ℕ) (s : State) (c : Comes source j w n s) →
      LeadsMeet (MeetsMaking t ends few source) source (answered source c.given (drawn j w n)) s c.leads → LifeState t few s

-- in each run of a program that breaks no rule, as long as all that was asked so far fits
abbrev pub LawMakingsRuns : Type 0
LawMakingsRuns =
    (p : Program) → IsFormed p → breaks_of p ≡ [] → (ends : ℕ → Bool) (few : Few) →
    (input : List ℕ) (opts : Options) → InRange opts →
    (j : Journal) (w : World) (r : Runs (source_of p) input opts j w) →
    RunFits (source_of p) input opts j w r → is_over j ≡ false → PassesBelow few opts j →
    MainPasses (table_of p) few ((table_of p).routine (source_of p).main).this 0 →
    RunMeets (MeetsMaking (table_of p) ends few (source_of p)) (source_of p) input opts j w r →
    AllElsewhere (table_of p) ends few (source_of p) j w
