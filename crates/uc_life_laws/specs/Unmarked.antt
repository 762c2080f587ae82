-- Where an object goes nobody has to clean up anything around it: in each run in which marks are put for what is an execution's own.
use Rattle.std.specs.Prelude.{◌≡◌, ℕ, ◌⊎◌, List, ◌∷◌}
use Rattle.uc_tree.specs.Source.{Source, routine_of}
use Rattle.uc_entry.specs.declared.entry.Entry.{Entry}
use Rattle.uc_entry.specs.declared.entry.Options.{Options}
use Rattle.uc_entry.specs.declared.request.Answer.{Answer}
use Rattle.uc_entry.specs.declared.request.Request.{Request}
use Rattle.uc_entry.specs.declared.request.Request.TheVariants as ask
use Rattle.uc_acts.specs.Journal.{Journal}
use Rattle.uc_acts.specs.Acts.{act}
use Rattle.uc_machine.specs.declared.exec.Exec.{Exec}
use Rattle.uc_machine.specs.declared.exec.Home.TheVariants.{Object}
use Rattle.uc_machine.specs.Pieces.{Value}
use Rattle.uc_machine.specs.Quiet.{State, first_state, quiet}
use Rattle.uc_machine.specs.Answering.{answered}
use Rattle.uc_meaning.specs.Runs.{World, May, Runs, drawn, world_after, gives, no_room, acts, begun, more}
use Rattle.uc_state_laws.specs.RoomRuns.{Comes}
use Rattle.uc_state_laws.specs.Opens.{RunMeets, LeadsMeet}
use Rattle.uc_typing.specs.Typing.{Ty, Table}
use Rattle.uc_life_laws.specs.Things.{Few}
use Rattle.uc_life_laws.specs.LifeStates.{MembersBy, EnvBy}
use Rattle.uc_life_laws.specs.Belonging.{Belongs}
use Rattle.uc_life_laws.specs.Marks.{Marked, Free, LoneMembers, LoneState, LoneStep, Freed, Puts}

-- what is an execution's own is no other's
abbrev pub LawOwn : Type 0
LawOwn = (few : Few) (n m : Exec) (v : Value) → Belongs few n v → Belongs few m v → n ≡ m

-- a task begins so, each quiet step keeps it as long as it is so where a mark is put, and so does each answer; an object that goes is then at home
-- where nothing is to be cleaned up by whoever runs
pub record LawSteps : Type 0 where
  pub begins : (t : Table) (few : Few) (source : Source) (r o : ℕ) →
      LoneState t few (first_state (routine_of source r) o)
  pub steps : (t : Table) (few : Few) (source : Source) (s : State) → LoneState t few s →
      Puts t few s → LoneStep t few (quiet source s)
  pub told : (t : Table) (few : Few) (source : Source) (given : Answer) (s : State) →
      LoneState t few s → LoneState t few (answered source given s)

module _ (t : Table) (few : Few) where
  -- all tasks of a world, and what is at home in objects
  pub record LoneWorld (x : World) : Type 0 where
    pub tasks : (u : ℕ) → LoneState t few (x.tasks u)
    pub homes : (q : ℕ) → LoneMembers t few (Object q) (x.homes q)

  -- no execution of a world has to clean up that in which the object is at home
  pub record Unmarked (o : ℕ) (x : World) : Type 0 where
    pub running : (u : ℕ) → Free t few o (Marked t (x.tasks u).env.exec ((x.tasks u).run ∷ (x.tasks u).callers))
    pub tasks : (u : ℕ) → EnvBy (λ n y. Free t few o (Marked t n (y.run ∷ y.callers))) (x.tasks u).env
    pub homes : (q : ℕ) → MembersBy (λ n y. Free t few o (Marked t n (y.run ∷ y.callers))) (Object q) (x.homes q)

-- the execution that runs in a task has a name of its own in a world, but for what runs in tasks that have nothing to clean up, as those that are
-- not spawned yet
pub record HasOwnName (t : Table) (u : ℕ) (x : World) : Type 0 where
  pub running : (v : ℕ) → (x.tasks v).env.exec ≡ (x.tasks u).env.exec →
      (v ≡ u) ⊎ ((w : Value) (a : Ty) → Marked t (x.tasks v).env.exec ((x.tasks v).run ∷ (x.tasks v).callers) w a → ⊥)
  pub tasks : (v : ℕ) → EnvBy (λ n y. n ≡ (x.tasks u).env.exec → ⊥) (x.tasks v).env
  pub homes : (q : ℕ) → MembersBy (λ n y. n ≡ (x.tasks u).env.exec → ⊥) (Object q) (x.homes q)

-- so in a world in which all marks are for what is their execution's own, and whoever runs in a task has none around the object, nobody has
abbrev pub LawUnmarked : Type 0
LawUnmarked =
    (t : Table) (few : Few) (x : World) (u o : ℕ) → LoneWorld t few x → HasOwnName t u x →
    Freed t few (ask.Gone o) (x.tasks u) → Unmarked t few o x

module _ (t : Table) (few : Few) where
  -- after an act by which an object goes
  abbrev pub UnmarkedAt : ℕ → World → Request → Type 0
  UnmarkedAt u x (ask.Gone o) = HasOwnName t u x → Unmarked t few o x
  UnmarkedAt u x r = Unit {0}

  module _ (source : Source) where
    abbrev pub MayUnmark : (opts : Options) (input : List ℕ) (j : Journal) (w : World) (a : List Entry) (x : World) →
        May source opts input j w a x → Type 0
    MayUnmark opts input j w _ _ (gives p n s h) = Unit {0}
    MayUnmark opts input j w _ _ (no_room p n s h) = Unit {0}
    MayUnmark opts input j w _ _ (acts p n k s asked d) =
        UnmarkedAt n (world_after source (act opts source.sites input j p n k asked) w n s) asked.request

    -- so after each such act of a run
    abbrev pub RunUnmarked : (input : List ℕ) (opts : Options) (j : Journal) (w : World) →
        Runs source input opts j w → Type 0
    RunUnmarked input opts _ _ begun = Unit {0}
    RunUnmarked input opts _ _ (more {j} {w} {a} {w' = x} r o m) = RunUnmarked input opts j w r ×
        MayUnmark opts input j w a x m

-- of runs in which it is so where a mark is put
pub record KeepsLone (t : Table) (few : Few) (source : Source) (input : List ℕ) (opts : Options) (j : Journal) (w : World) (r : Runs source input opts j w) : Type 0 where
  pub world : LoneWorld t few w
  pub comes : (n : ℕ) (s : State) (c : Comes source j w n s) →
      LeadsMeet (Puts t few) source (answered source c.given (drawn j w n)) s c.leads → LoneState t few s
  pub gone : RunUnmarked t few source input opts j w r

abbrev pub LawRuns : Type 0
LawRuns =
    (t : Table) (few : Few) (source : Source) (input : List ℕ) (opts : Options) (j : Journal) (w : World)
    (r : Runs source input opts j w) → RunMeets (Puts t few) source input opts j w r →
    KeepsLone t few source input opts j w r
