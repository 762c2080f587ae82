-- Runs in which elements that stand of arrays of mutex objects are not gone.
use Rattle.std.specs.Prelude.{◌≡◌, ℕ, false, List, ◌++◌}
use Rattle.uc_tree.specs.Source.{Source}
use Rattle.uc_entry.specs.declared.entry.Entry.{Entry}
use Rattle.uc_entry.specs.declared.entry.Options.{Options}
use Rattle.uc_entry.specs.declared.request.Request.{Request}
use Rattle.uc_entry.specs.declared.request.Request.TheVariants as ask
use Rattle.uc_acts.specs.Journal.{Journal, is_over}
use Rattle.uc_acts.specs.Known.{is_gone}
use Rattle.uc_acts.specs.Acts.{act}
use Rattle.uc_machine.specs.declared.exec.Home.TheVariants.{Object}
use Rattle.uc_machine.specs.Pieces.{Value, State}
use Rattle.uc_machine.specs.Answering.{answered}
use Rattle.uc_meaning.specs.Runs.{World, May, Runs, drawn, world_after, gives, no_room, acts, begun, more}
use Rattle.uc_state_laws.specs.RoomRuns.{Comes}
use Rattle.uc_state_laws.specs.Opens.{LeadsMeet}
use Rattle.uc_life_laws.specs.Lasting.{RunMeetsAt}
use Rattle.uc_parts_laws.specs.Standing.{Going, StandingMembers, StandingState, FindsStanding}

-- where objects are at home, told once for a run, and what is gone behind this journal
abbrev pub told_by : (ℕ → Value) → Journal → Going
told_by homes j = record { home = homes; gone = λ o. is_gone o j }

-- tasks at rest, and what is at home in objects
pub record StandingWorld (told : Going) (x : World) : Type 0 where
  pub tasks : (u : ℕ) → StandingState told (x.tasks u)
  pub homes : (o : ℕ) → StandingMembers told (Object o) (x.homes o)

module _ (homes : ℕ → Value) where
  -- behind an act by which an object goes no element that stands is that
  abbrev pub GoesApart : Journal → Journal → World → Request → Type 0
  GoesApart j i x (ask.Gone o) = StandingWorld (told_by homes j) x → StandingWorld (told_by homes i) x
  GoesApart j i x q = Unit {0}

  module _ (source : Source) where
    abbrev pub MayGoApart : (opts : Options) (input : List ℕ) (j : Journal) (w : World) (a : List Entry) (x : World) →
        May source opts input j w a x → Type 0
    MayGoApart opts input j w _ _ (gives p n s h) = Unit {0}
    MayGoApart opts input j w _ _ (no_room p n s h) = Unit {0}
    MayGoApart opts input j w _ _ (acts p n k s asked d) =
        GoesApart j (j ++ act opts source.sites input j p n k asked) (world_after source (act opts source.sites input j p n k asked) w n s) asked.request

    abbrev pub RunGoesApart : (input : List ℕ) (opts : Options) (j : Journal) (w : World) → Runs source input opts j w → Type 0
    RunGoesApart input opts _ _ begun = Unit {0}
    RunGoesApart input opts _ _ (more {j} {w} {a} {w' = x} r o m) = RunGoesApart input opts j w r × MayGoApart opts input j w a x m

    -- so it is at rest, and in each state to which whoever runs comes before it asks
    pub record KeepsStanding (j : Journal) (w : World) : Type 0 where
      pub world : StandingWorld (told_by homes j) w
      pub comes : (u : ℕ) (s : State) (c : Comes source j w u s) →
          LeadsMeet (FindsStanding (told_by homes j)) source (answered source c.given (drawn j w u)) s c.leads →
          StandingState (told_by homes j) s

-- of whatever source: as far as each step found what it was to find by the journal of its time, and what went was no element that stood
abbrev pub LawStandingRuns : Type 0
LawStandingRuns =
    (homes : ℕ → Value) (source : Source) (input : List ℕ) (opts : Options) (j : Journal) (w : World)
    (r : Runs source input opts j w) → is_over j ≡ false →
    RunMeetsAt (λ i s. FindsStanding (told_by homes i) s) source input opts j w r →
    RunGoesApart homes source input opts j w r → KeepsStanding homes source j w
