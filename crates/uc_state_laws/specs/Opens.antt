-- Runs in which each variable that is a mutex object or a processor holds an object once it is bound.
use Rattle.std.specs.Prelude.{◌≡◌, ℕ, suc, ◌<◌, ◌≤◌, ◌⊎◌, Bool, true, false, List, [], ◌∷◌, length, Some, nat_lt}
use Rattle.uc_tree.specs.Programs.{Program}
use Rattle.uc_tree.specs.Source.{Source, Variable, Load, OfObject, EndCluster, Destroys, Scoped}
use Rattle.uc_entry.specs.declared.entry.Entry.{Entry}
use Rattle.uc_entry.specs.declared.entry.Options.{Options}
use Rattle.uc_entry.specs.declared.request.Answer.TheVariants as answer
use Rattle.uc_entry.specs.declared.request.Asked.{Asked}
use Rattle.uc_entry.specs.declared.request.Request.TheVariants as ask
use Rattle.uc_acts.specs.Journal.{Journal, is_over}
use Rattle.uc_acts.specs.Known.{has_ended}
use Rattle.uc_acts.specs.KernelRuns.{InRange}
use Rattle.uc_acts.specs.Answers.{answer_to}
use Rattle.uc_acts.specs.Queues.{cluster_count}
use Rattle.uc_acts.specs.Serves.{left}
use Rattle.uc_machine.specs.Pieces.{Todo, BindNow, BindMadeNow, SetUpNow, top, Rest, Clean, Unwind, LAST_ADDRESS, Asks}
use Rattle.uc_machine.specs.Quiet.{State, act, quiet, Quietly}
use Rattle.uc_machine.specs.Answering.{answered}
use Rattle.uc_machine.specs.Rides.{Rides, slices, goes_on, ticks, asks}
use Rattle.uc_meaning.specs.Runs.{World, May, Runs, drawn, gives, no_room, acts, begun, more}
use Rattle.uc_resolve.specs.Resolve.{source_of}
use Rattle.uc_rules.specs.Breaks.{breaks_of}
use Rattle.uc_state_laws.specs.Fitting.{RunFits}
use Rattle.uc_answer_laws.specs.Suiting.{AnObject, JustGo, asked_form}
use Rattle.uc_state_laws.specs.Layout.{Sized}
use Rattle.uc_state_laws.specs.Rooms.{SourceIn}
use Rattle.uc_state_laws.specs.RoomStacks.{StackState}
use Rattle.uc_state_laws.specs.RoomRuns.{Leads, stays, goes, ticks as leads_by_tick, Comes}
use Rattle.uc_state_laws.specs.There.{IsLoose, NextDrop, NextCall, Any, frame_at}
use Rattle.uc_state_laws.specs.ThereStates.{CountedMembers, CountedState, SourceBegins, IsAside, PutsAside, BoundBehind, FillsBare, Fair}
use Rattle.uc_state_laws.specs.FillingStates.{FillWaits}
use Rattle.uc_state_laws.specs.NewClusters.{WaitingBy, OnWayBy, GoodBy}

-- the frame of the running activation has no more cells than there are addresses before the last one
abbrev pub HasAddresses : State → Type 0
HasAddresses s = length (frame_at s.run.frame s.env.frames) ≤ LAST_ADDRESS

-- behind the step that binds the variable of the scope that opens next, that holds an object, if it was loose; what is no object is bound
-- aside; what builds the elements of an array of mutex objects takes no arguments; where a scope opens, all cells of the frame have addresses
module _ (source : Source) where
  abbrev pub OpensAt : List Todo → State → Type 0
  OpensAt (Rest (Scoped c rest) ∷ todo) s = HasAddresses s
  OpensAt (BindNow ∷ todo) s =
      BoundBehind (λ P. NextDrop P todo) (frame_at s.run.frame s.env.frames) (act source BindNow todo s) ×
      PutsAside todo s
  OpensAt (BindMadeNow c r ∷ todo) s =
      BoundBehind (λ P. NextCall P todo) (frame_at s.run.frame s.env.frames) (act source (BindMadeNow c r) todo s) ×
      IsLoose (top s.run.operands) × FillsBare source todo
  OpensAt (SetUpNow r ∷ todo) s = IsAside s.run.this todo s
  OpensAt todo s = Unit {0}

  abbrev pub Opens : State → Type 0
  Opens s = OpensAt s.run.control s

-- that is all that a step is still to find, where activations which use one frame stay behind one another, and no routine of a source that
-- keeps to its rooms begins with what belongs behind the declaration of a cluster
pub record LawFair : Type 0 where
  pub begins : (p : Program) (source : Source) → SourceIn (Sized p) source → SourceBegins source
  pub fair : (p : Program) (source : Source) (s : State) → StackState (Sized p) s → Opens source s →
      Fair source s

-- what holds at the states of a ride, of an act, and of each act of a run
module _ (P : State → Type 0) where
  abbrev pub RideMeets : (source : Source) (s : State) (q : ℕ) (u : State) (k : ℕ) (a : Asked) →
      Rides source s q u k a → Type 0
  RideMeets source _ _ _ _ _ slices = Unit {0}
  RideMeets source _ _ _ _ _ (goes_on {s} {t = v} {u} {q} {k} {a} e rest) = P s ×
      RideMeets source v (suc q) u k a rest
  RideMeets source _ _ _ _ _ (ticks {s} {t = v} {u} {q} {k} {a} e rest) = P s ×
      RideMeets source v q u k a rest
  RideMeets source _ _ _ _ _ (asks {s} e) = P s

  abbrev pub MayMeet : (source : Source) (opts : Options) (input : List ℕ) (j : Journal) (w : World) (a : List Entry) (x : World) →
      May source opts input j w a x → Type 0
  MayMeet source opts input j w _ _ (gives p t s h) = Unit {0}
  MayMeet source opts input j w _ _ (no_room p t s h) = Unit {0}
  MayMeet source opts input j w _ _ (acts p t n s asked d) =
      RideMeets source (answered source d.given (drawn j w t)) (left opts j t) s n asked d.rides

  abbrev pub RunMeets : (source : Source) (input : List ℕ) (opts : Options) (j : Journal) (w : World) →
      Runs source input opts j w → Type 0
  RunMeets source input opts _ _ begun = Unit {0}
  RunMeets source input opts _ _ (more {j} {w} {a} {w' = x} r o m) = RunMeets source input opts j w r ×
      MayMeet source opts input j w a x m

  -- at the states on the way to one
  abbrev pub LeadsMeet : (source : Source) (s u : State) → Leads source s u → Type 0
  LeadsMeet source _ _ stays = Unit {0}
  LeadsMeet source _ _ (goes {s} {u} {v} e l) = P s × LeadsMeet source u v l
  LeadsMeet source _ _ (leads_by_tick {s} {u} {v} e l) = P s × LeadsMeet source u v l

abbrev pub RideOpens : (source : Source) (s : State) (q : ℕ) (u : State) (k : ℕ) (a : Asked) →
    Rides source s q u k a → Type 0
RideOpens source s q u k a r = RideMeets (Opens source) source s q u k a r

abbrev pub MayOpen : (source : Source) (opts : Options) (input : List ℕ) (j : Journal) (w : World) (a : List Entry) (x : World) →
    May source opts input j w a x → Type 0
MayOpen source opts input j w a x m = MayMeet (Opens source) source opts input j w a x m

abbrev pub RunOpens : (source : Source) (input : List ℕ) (opts : Options) (j : Journal) (w : World) →
    Runs source input opts j w → Type 0
RunOpens source input opts j w r = RunMeets (Opens source) source input opts j w r

abbrev pub LeadsOpen : (source : Source) (s u : State) → Leads source s u → Type 0
LeadsOpen source s u l = LeadsMeet (Opens source) source s u l

-- what a task is told, if it is an object, is one of these
abbrev pub TellsFew : (ℕ → Bool) → Source → ℕ → Journal → Type 0
TellsFew few source t j = (o : ℕ) → answer_to source.sites t j ≡ Some (answer.Object o) → few o ≡ true

-- a task at rest: all is there, but for what it is on the way to, where it waits for a new cluster or another object, or has only to go on
abbrev pub RestsBy : (ℕ → Bool) → Source → Journal → ℕ → State → Type 0
RestsBy few source j t s =
    CountedState few s ⊎
    (((asked_form t j ≡ AnObject) × WaitingBy few s × TellsFew few source t j) ⊎ (((asked_form t j ≡ AnObject) × FillWaits few s) ⊎ ((asked_form t j ≡ JustGo) × OnWayBy few s)))

-- then all is there that is in scope and known by its number: of each task at rest that has not ended, of what is at home in each object, and of whoever runs
-- in each state to which it comes before it asks; clusters that are variables have such numbers
pub record AllIsCounted (few : ℕ → Bool) (source : Source) (j : Journal) (w : World) : Type 0 where
  pub tasks : (t : ℕ) → has_ended t j ≡ false → RestsBy few source j t (w.tasks t)
  pub homes : (o : ℕ) → CountedMembers few (w.homes o)
  pub comes : (t : ℕ) (s : State) (c : Comes source j w t s) →
      LeadsOpen source (answered source c.given (drawn j w t)) s c.leads → GoodBy few s

abbrev pub AllIsThere : Source → Journal → World → Type 0
AllIsThere source j w = AllIsCounted Any source j w

-- so it is in each run of a program that breaks no rule, as long as all that was asked so far fits
abbrev pub LawRuns : Type 0
LawRuns =
    (p : Program) → breaks_of p ≡ [] → (input : List ℕ) (opts : Options) → InRange opts →
    (j : Journal) (w : World) (r : Runs (source_of p) input opts j w) →
    RunFits (source_of p) input opts j w r → is_over j ≡ false →
    RunOpens (source_of p) input opts j w r → AllIsThere (source_of p) j w

-- there each variable that is a cluster has a number below the count of clusters
abbrev pub LawCounts : Type 0
LawCounts =
    (p : Program) → breaks_of p ≡ [] → (input : List ℕ) (opts : Options) → InRange opts →
    (j : Journal) (w : World) (r : Runs (source_of p) input opts j w) →
    RunFits (source_of p) input opts j w r → is_over j ≡ false →
    RunOpens (source_of p) input opts j w r →
    AllIsCounted (λ n. nat_lt n (cluster_count j)) (source_of p) j w

-- the scope of a cluster that is a variable is left next, by its end or by an unwinding
abbrev pub LeavesCluster : ℕ → List Todo → List Todo → Type 0
LeavesCluster k todo control =
    (control ≡ Clean (Destroys (OfObject (EndCluster (Load (Variable k))))) ∷ todo) ⊎
    (control ≡ Unwind ∷ (Clean (Destroys (OfObject (EndCluster (Load (Variable k))))) ∷ todo))

-- so who leaves that of one at a cell before the last address asks for the end of a cluster that there is, by quiet steps alone
pub record EndsCluster (source : Source) (j : Journal) (s : State) : Type 0 where
  pub cluster : ℕ
  pub there : cluster < cluster_count j
  pub asking : State
  pub after : State
  pub leads : Quietly source s asking
  pub asks : quiet source asking ≡ Asks (ask.ClusterEnd cluster) after

abbrev pub LawEnds : Type 0
LawEnds =
    (p : Program) → breaks_of p ≡ [] → (input : List ℕ) (opts : Options) → InRange opts →
    (j : Journal) (w : World) (r : Runs (source_of p) input opts j w) →
    RunFits (source_of p) input opts j w r → is_over j ≡ false →
    RunOpens (source_of p) input opts j w r → (t : ℕ) (s : State) (c : Comes (source_of p) j w t s) →
    LeadsOpen (source_of p) (answered (source_of p) c.given (drawn j w t)) s c.leads →
    (k : ℕ) (todo : List Todo) → k < LAST_ADDRESS →
    LeavesCluster k todo s.run.control → EndsCluster (source_of p) j s
