-- Just before an object goes, or its building is given up, nobody else has it at hand, and nobody is to clean up anything around it.
use Rattle.std.specs.Prelude.{◌≡◌, ℕ, ◌≤◌, false, List, [], ◌∷◌}
use Rattle.uc_tree.specs.Source.{Source}
use Rattle.uc_entry.specs.declared.entry.Options.{Options}
use Rattle.uc_entry.specs.declared.request.Asked.{Asked}
use Rattle.uc_acts.specs.Journal.{Journal, is_over}
use Rattle.uc_acts.specs.Stations.{times}
use Rattle.uc_acts.specs.KernelRuns.{InRange}
use Rattle.uc_acts.specs.Serves.{left}
use Rattle.uc_step_laws.specs.Hands.{keys}
use Rattle.uc_machine.specs.declared.exec.Exec.{Exec}
use Rattle.uc_machine.specs.declared.exec.Stage.{Stage}
use Rattle.uc_machine.specs.declared.exec.Stage.TheVariants.{Fresh, Started, Ended}
use Rattle.uc_machine.specs.Switches.{without}
use Rattle.uc_machine.specs.Monitors.{this_object}
use Rattle.uc_machine.specs.Pieces.{Todo, MadeNow, SpawnNow, GoneNow, GiveUpNow, State}
use Rattle.uc_machine.specs.Answering.{answered}
use Rattle.uc_meaning.specs.Runs.{World, Runs, AsksIn, drawn}
use Rattle.uc_state_laws.specs.Fitting.{RunFits}
use Rattle.uc_state_laws.specs.Opens.{RideMeets, RunMeets}
use Rattle.uc_name_laws.specs.NameSteps as names
use Rattle.uc_life_laws.specs.RunningRuns.{RunLeaves}
use Rattle.uc_typing.specs.Typing.{Table}
use Rattle.uc_life_laws.specs.Things.{Few, Base}
use Rattle.uc_life_laws.specs.LifeStates.{EnvBy}
use Rattle.uc_life_laws.specs.Knowing.{KnowsState}
use Rattle.uc_depth_laws.specs.Owing.{Ex}
use Rattle.uc_life_laws.specs.Belonging.{Belongs}
use Rattle.uc_life_laws.specs.Marks.{Marked, Free, Puts}
use Rattle.uc_apart_laws.specs.Before.{Before}
use Rattle.uc_apart_laws.specs.Clear.{IsNoHome, IsClearAt}
use Rattle.uc_putting_laws.specs.LoneObjects.{LoneObject}
use Rattle.uc_rooted_runs.specs.Binds.{BindsOwn}
use Rattle.uc_rooted_runs.specs.Mains.{CallsNoMain, FindsAll}
use Rattle.uc_making_laws.specs.OwnThis.{FindsThis}
use Rattle.uc_making_laws.specs.RideWhile.{RideWhile}

module _ (t : Table) (few : Few) (o : ℕ) where
  -- what an execution has of others is not that in which an object is at home, if it has begun and not ended
  abbrev pub HasNoHomeBy : Stage → Exec → Type 0
  HasNoHomeBy Fresh n = Unit {0}
  HasNoHomeBy Started n = IsNoHome t few o (Base few n)
  HasNoHomeBy Ended n = Unit {0}

  abbrev pub HasNoHome : Exec → Ex → Type 0
  HasNoHome n y = HasNoHomeBy y.links.stage n

-- so it is of all that do not run in a task, but of those that are at home in the object at hand
abbrev pub HaveNoHome : Table → Few → State → Type 0
HaveNoHome t few v = EnvBy (HasNoHome t few (this_object v)) (record v.env { hand = without (this_object v) v.env.hand })

-- the object at hand is not the own one of the task, which has each object in hand once
abbrev pub IsOther : State → Type 0
IsOther v = (v.env.own ≡ this_object v → ⊥) × ((q : ℕ) → times q (keys v.env.hand) ≤ 1)

module _ (t : Table) (few : Few) (v : State) where
  -- an object is at home in what is the own of who runs, where nothing is to be cleaned up
  abbrev pub IsLone : ℕ → Type 0
  IsLone o = Belongs few v.env.exec (few.home o) × Free t few o (Marked t v.env.exec (v.run ∷ v.callers))

  -- where an object goes, is given up, or has been built, and is not the own one of the task, what the others have of others is not that in which it is at
  -- home, which need be so of objects alone of which that is known; and where one is entered again to be destroyed, those of whom it is asked are clear
  abbrev pub ElsewhereOnWayBy : Source → List Todo → Type 0
  ElsewhereOnWayBy source (GoneNow ∷ todo) = IsLone (this_object v) → IsOther v → HaveNoHome t few v
  ElsewhereOnWayBy source (GiveUpNow ∷ todo) = IsLone (this_object v) → IsOther v → HaveNoHome t few v
  ElsewhereOnWayBy source (MadeNow ∷ todo) = IsLone (this_object v) → IsOther v → HaveNoHome t few v
  ElsewhereOnWayBy source (SpawnNow r ∷ todo) = IsLone (this_object v) → IsOther v → HaveNoHome t few v
  ElsewhereOnWayBy source todo = (k : KnowsState t few [] v) → IsClearAt t few source v k todo

  abbrev pub ElsewhereOnWay : Source → Type 0
  ElsewhereOnWay source = ElsewhereOnWayBy source v.run.control

-- on the way to what a task asks next, behind a run in which all that was asked so far fits, no step forgets the running execution, calls a main or binds
-- what stands in a frame of another one, routines are there and unwindings have reasons, nobody leaves its home for good, marks are put for what is an
-- execution's own, nothing is to be cleaned up around what has been built, object 0 is at home in nobody's own, and activations have their objects: just
-- before an object is let go of, those that do not run in the task are clear of it, as long as what they have of others is elsewhere; and before one goes, or
-- its building is given up, nobody who lives is to clean up anything around it; so it is before the first step that forgets the running execution, if there is
-- one
abbrev pub LawBeforeRides : Type 0
LawBeforeRides =
    (t : Table) (few : Few) (source : Source) (input : List ℕ) (opts : Options) (j : Journal) (w : World)
    (r : Runs source input opts j w) → InRange opts → RunFits source input opts j w r → is_over j ≡ false →
    ((n : Exec) → Belongs few n (few.home 0) → ⊥) →
    RunLeaves source input opts j w r → RunMeets names.Spares source input opts j w r →
    RunMeets (BindsOwn source) source input opts j w r → RunMeets (CallsNoMain source) source input opts j w r →
    RunMeets (FindsAll source) source input opts j w r → RunMeets (Puts t few) source input opts j w r →
    RunMeets (FindsThis t few source) source input opts j w r →
    (p u n : ℕ) (s : State) (q : Asked) (d : AsksIn source opts j w p u n s q) →
    RideMeets (BindsOwn source) source (answered source d.given (drawn j w u)) (left opts j u) s n q d.rides →
    RideMeets (CallsNoMain source) source (answered source d.given (drawn j w u)) (left opts j u) s n q d.rides →
    RideMeets (FindsAll source) source (answered source d.given (drawn j w u)) (left opts j u) s n q d.rides →
    RideMeets (Puts t few) source (answered source d.given (drawn j w u)) (left opts j u) s n q d.rides →
    RideMeets (LoneObject t few source) source (answered source d.given (drawn j w u)) (left opts j u) s n q d.rides →
    RideMeets (FindsThis t few source) source (answered source d.given (drawn j w u)) (left opts j u) s n q d.rides →
    RideMeets (λ v. ElsewhereOnWay t few v source) source (answered source d.given (drawn j w u)) (left opts j u) s n q d.rides →
    RideWhile names.Spares (λ v. Before t few j w u v source) source (answered source d.given (drawn j w u)) (left opts j u) s n q d.rides
