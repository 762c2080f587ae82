-- Runs of programs in which all is known that each execution can come by, and all that is named was made.
use Rattle.std.specs.Prelude.{◌≡◌, ℕ, ◌<◌, Bool, true, false, List, [], Some, nat_lt}
use Rattle.uc_tree.specs.Programs.{Program}
use Rattle.uc_tree.specs.Source.{Source}
use Rattle.uc_entry.specs.declared.entry.Options.{Options}
use Rattle.uc_entry.specs.declared.request.Request.{Request}
use Rattle.uc_entry.specs.declared.request.Request.TheVariants as ask
use Rattle.uc_entry.specs.declared.request.Answer.TheVariants as answer
use Rattle.uc_acts.specs.Journal.{Journal, is_over}
use Rattle.uc_acts.specs.Known.{object_count, has_ended}
use Rattle.uc_acts.specs.Queues.{cluster_count, processor_count}
use Rattle.uc_acts.specs.Answers.{answer_to}
use Rattle.uc_acts.specs.KernelRuns.{InRange}
use Rattle.uc_machine.specs.declared.exec.Home.TheVariants.{Object}
use Rattle.uc_machine.specs.Pieces.{Env}
use Rattle.uc_machine.specs.Quiet.{State, Asks, quiet}
use Rattle.uc_machine.specs.Answering.{answered}
use Rattle.uc_meaning.specs.Runs.{World, Runs, drawn}
use Rattle.uc_state_laws.specs.Fitting.{RunFits}
use Rattle.uc_answer_laws.specs.Suiting.{form_of_request, asked_form}
use Rattle.uc_resolve.specs.Resolve.{source_of}
use Rattle.uc_rules.specs.Breaks.{breaks_of}
use Rattle.uc_state_laws.specs.RoomRuns.{Comes}
use Rattle.uc_state_laws.specs.Opens.{RunMeets, LeadsMeet}
use Rattle.uc_typing.specs.Typing.{Ty, Obj, Clu, Pro, Table, Raw}
use Rattle.uc_sound.specs.SoundFormed.{IsFormed}
use Rattle.uc_sound.specs.Tables.{table_of}
use Rattle.uc_life_laws.specs.LifeStates.{MembersBy}
use Rattle.uc_life_laws.specs.Lives.{LivesState, FindsLiving}
use Rattle.uc_life_laws.specs.Knowing.{AskedBy, KnowsSlot, KnowsEnv, KnowsState, Names}
use Rattle.uc_life_laws.specs.KnownAnswers.{Passes, MainPasses}
use Rattle.uc_life_laws.specs.Things.{Few, numbered}

-- all numbers of mutex objects, of clusters and of processors pass that a journal has made
pub record PassesBelow (few : Few) (opts : Options) (j : Journal) : Type 0 where
  pub objects : (c n : ℕ) → n < object_count j → few.numbers (Obj c) n ≡ true
  pub raws : (c n : ℕ) → n < object_count j → few.numbers (Raw c) n ≡ true
  pub clusters : (n : ℕ) → n < cluster_count j → few.numbers Clu n ≡ true
  pub processors : (n : ℕ) → n < processor_count opts j → few.numbers Pro n ≡ true

-- a step finds what it is to find, in a state in which all is known by kinds by which variables in scope hold what is known: by some such kinds it finds
-- what is asked, and where a scope opens, what that is of holds what is known
abbrev pub Meets : Table → Few → State → Type 0
Meets t few s = LivesState t few s → (x : LivesState t few s) × FindsLiving t few s x

-- a task at rest: it has asked something, all is known but for what the answer brings, and what it is told passes; so far as S says what is known
pub record RestBy (t : Table) (few : Few) (S : List Ty → State → Type 0) (E : Env → Type 0) (source : Source) (j : Journal) (n : ℕ) (s : State) : Type 0 where
  pub request : Request
  pub asked : AskedBy t few S E source request s
  pub asks_for : form_of_request request ≡ asked_form n j
  pub no_end : request ≡ ask.End → ⊥
  pub no_fault : (m : ℕ) → request ≡ ask.Fault m → ⊥
  pub told : (o : ℕ) → answer_to source.sites n j ≡ Some (answer.Object o) →
      Passes t few request (answer.Object o)

abbrev pub KnowsRest : Table → Few → Source → Journal → ℕ → State → Type 0
KnowsRest t few = RestBy t few (KnowsState t few) (KnowsEnv t few)

-- all is known, and what is in scope holds what is: of each task at rest that has not ended, of what is at home in each object, and of whoever
-- runs in each state to which it comes before it asks, as far as each step found what it was to find; and what it names then passes
pub record AllIsKnown (t : Table) (few : Few) (source : Source) (j : Journal) (w : World) : Type 0 where
  pub tasks : (n : ℕ) → has_ended n j ≡ false → KnowsRest t few source j n (w.tasks n)
  pub homes : (o : ℕ) → MembersBy (KnowsSlot t few) (Object o) (w.homes o)
  pub comes : (n : ℕ) (s : State) (c : Comes source j w n s) →
      LeadsMeet (Meets t few) source (answered source c.given (drawn j w n)) s c.leads → KnowsState t few [] s
  pub lives : (n : ℕ) (s : State) (c : Comes source j w n s) →
      LeadsMeet (Meets t few) source (answered source c.given (drawn j w n)) s c.leads → LivesState t few s
  pub names : (n : ℕ) (s : State) (c : Comes source j w n s) →
      LeadsMeet (Meets t few) source (answered source c.given (drawn j w n)) s c.leads → Meets t few s →
      (r : Request) (u : State) → quiet source s ≡ Asks r u → Names t few r

-- so it is in each run of a program that breaks no rule, as long as all that was asked so far fits
abbrev pub LawKnownRuns : Type 0
LawKnownRuns =
    (p : Program) → IsFormed p → breaks_of p ≡ [] → (few : Few) →
    (input : List ℕ) (opts : Options) → InRange opts →
    (j : Journal) (w : World) (r : Runs (source_of p) input opts j w) →
    RunFits (source_of p) input opts j w r → is_over j ≡ false → PassesBelow few opts j →
    MainPasses (table_of p) few ((table_of p).routine (source_of p).main).this 0 →
    RunMeets (Meets (table_of p) few) (source_of p) input opts j w r →
    AllIsKnown (table_of p) few (source_of p) j w

-- that a number was made
abbrev pub made_by : Options → Journal → Ty → ℕ → Bool
made_by opts j (Obj c) n = nat_lt n (object_count j)
made_by opts j Clu n = nat_lt n (cluster_count j)
made_by opts j Pro n = nat_lt n (processor_count opts j)
made_by opts j a n = false

abbrev pub is_made : Options → Journal → Few
is_made opts j = numbered (made_by opts j)

-- the object of a call and that at which an event is raised was made; a cluster that is to end, that is to have a processor or to which a task
-- migrates, and a processor that is to end
abbrev pub NamesMade : Options → Journal → Request → Type 0
NamesMade opts j (ask.Call o m) = o < object_count j
NamesMade opts j (ask.Raise o m x y) = o < object_count j
NamesMade opts j (ask.ClusterEnd c) = c < cluster_count j
NamesMade opts j (ask.Processor c) = c < cluster_count j
NamesMade opts j (ask.ProcessorEnd q) = q < processor_count opts j
NamesMade opts j (ask.Migrate c) = c < cluster_count j
NamesMade opts j r = Unit {0}

-- so all that whoever runs names was made
abbrev pub LawNamed : Type 0
LawNamed =
    (p : Program) → IsFormed p → breaks_of p ≡ [] →
    (input : List ℕ) (opts : Options) → InRange opts →
    (j : Journal) (w : World) (r : Runs (source_of p) input opts j w) →
    RunFits (source_of p) input opts j w r → is_over j ≡ false →
    RunMeets (Meets (table_of p) (is_made opts j)) (source_of p) input opts j w r →
    (n : ℕ) (s : State) (c : Comes (source_of p) j w n s) →
    LeadsMeet (Meets (table_of p) (is_made opts j)) (source_of p) (answered (source_of p) c.given (drawn j w n)) s c.leads →
    Meets (table_of p) (is_made opts j) s → (r : Request) (u : State) →
    quiet (source_of p) s ≡ Asks r u → NamesMade opts j r
