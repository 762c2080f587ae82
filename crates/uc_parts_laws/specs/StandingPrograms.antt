-- Runs of programs in which elements that stand are not gone.
use Rattle.std.specs.Prelude.{◌≡◌, ℕ, ◌⊎◌, false, List, [], ◌∷◌}
use Rattle.uc_tree.specs.Programs.{Program}
use Rattle.uc_entry.specs.declared.entry.Options.{Options}
use Rattle.uc_entry.specs.declared.request.Asked.{Asked}
use Rattle.uc_entry.specs.declared.request.Request.TheVariants as ask
use Rattle.uc_acts.specs.Journal.{Journal, is_over}
use Rattle.uc_acts.specs.Known.{is_gone}
use Rattle.uc_acts.specs.KernelRuns.{InRange}
use Rattle.uc_acts.specs.Serves.{left}
use Rattle.uc_machine.specs.declared.exec.Exec.{Exec}
use Rattle.uc_machine.specs.Pieces.{Object, Todo, BindNow, BindMadeNow, State, Asks, at, top, below}
use Rattle.uc_machine.specs.Quiet.{quiet}
use Rattle.uc_machine.specs.Answering.{answered}
use Rattle.uc_meaning.specs.Runs.{World, Runs, AsksIn, drawn}
use Rattle.uc_resolve.specs.Resolve.{source_of}
use Rattle.uc_rules.specs.Breaks.{breaks_of}
use Rattle.uc_sound.specs.SoundFormed.{IsFormed}
use Rattle.uc_sound.specs.Tables.{table_of}
use Rattle.uc_state_laws.specs.Fitting.{RunFits}
use Rattle.uc_state_laws.specs.Opens.{RideMeets, RunMeets}
use Rattle.uc_life_laws.specs.Things.{Few}
use Rattle.uc_life_laws.specs.Belonging.{Belongs}
use Rattle.uc_life_laws.specs.Lives.{LivesState}
use Rattle.uc_life_laws.specs.Lasting.{lasting, RunMeetsAt}
use Rattle.uc_putting_laws.specs.PuttingLaws.{setting_of, Fair}
use Rattle.uc_rooted_runs.specs.UnmarkedRuns.{RunLeft}
use Rattle.uc_parts_laws.specs.Standing.{IsAside, StandingState}
use Rattle.uc_parts_laws.specs.StandingRuns.{told_by}
use Rattle.uc_parts_laws.specs.GoingApart.{LetsGo}

-- what is bound is not gone behind this journal, or is bound aside of elements of arrays that are being destroyed
module _ (j : Journal) where
  abbrev pub BindsLastingAt : List Todo → State → Type 0
  BindsLastingAt (BindNow ∷ todo) s = ((o : ℕ) → top s.run.operands ≡ Object o → is_gone o j ≡ false) ⊎ IsAside (at todo s.run.operands s) (top (below s.run.operands))
  BindsLastingAt (BindMadeNow c r ∷ todo) s = (o : ℕ) → top s.run.operands ≡ Object o → is_gone o j ≡ false
  BindsLastingAt todo s = Unit {0}

  abbrev pub BindsLasting : State → Type 0
  BindsLasting s = BindsLastingAt s.run.control s

-- nor is what is in scope
abbrev pub Lasts : Program → Few → Journal → State → Type 0
Lasts p few j s = LivesState (table_of p) (lasting few j) s × BindsLasting j s

-- in each run of a program that breaks no rule, as long as all that was asked so far fits, objects are at home where they are bound and loaded, what goes is let
-- go of with who has it at hand, and was its own (`RunLeft`), object 0 is nobody's own, and what is in scope and what is bound is not gone: no element that
-- stands is gone; nor is it on the way to what is asked next
pub record LawStandingPrograms : Type 0 where
  pub runs :
      (p : Program) → IsFormed p → breaks_of p ≡ [] → (few : Few) → ((n : Exec) → Belongs few n (few.home 0) → ⊥) →
      ((s : State) (o : ℕ) (u : State) → quiet (source_of p) s ≡ Asks (ask.Gone o) u → LetsGo o s u) →
      (input : List ℕ) (opts : Options) → InRange opts →
      (j : Journal) (w : World) (r : Runs (source_of p) input opts j w) → RunFits (source_of p) input opts j w r →
      is_over j ≡ false → RunLeft (table_of p) few (source_of p) input opts j w r →
      RunMeets (Fair (setting_of p few)) (source_of p) input opts j w r →
      RunMeetsAt (Lasts p few) (source_of p) input opts j w r →
      RunMeetsAt (λ i s. StandingState (told_by few.home i) s) (source_of p) input opts j w r
  pub rides :
      (p : Program) → IsFormed p → breaks_of p ≡ [] → (few : Few) → ((n : Exec) → Belongs few n (few.home 0) → ⊥) →
      ((s : State) (o : ℕ) (u : State) → quiet (source_of p) s ≡ Asks (ask.Gone o) u → LetsGo o s u) →
      (input : List ℕ) (opts : Options) → InRange opts →
      (j : Journal) (w : World) (r : Runs (source_of p) input opts j w) → RunFits (source_of p) input opts j w r →
      is_over j ≡ false → RunLeft (table_of p) few (source_of p) input opts j w r →
      RunMeets (Fair (setting_of p few)) (source_of p) input opts j w r →
      RunMeetsAt (Lasts p few) (source_of p) input opts j w r →
      (q t n : ℕ) (s : State) (asked : Asked) (d : AsksIn (source_of p) opts j w q t n s asked) →
      RideMeets (Fair (setting_of p few)) (source_of p) (answered (source_of p) d.given (drawn j w t)) (left opts j t) s n asked d.rides →
      RideMeets (Lasts p few j) (source_of p) (answered (source_of p) d.given (drawn j w t)) (left opts j t) s n asked d.rides →
      RideMeets (StandingState (told_by few.home j)) (source_of p) (answered (source_of p) d.given (drawn j w t)) (left opts j t) s n asked d.rides
