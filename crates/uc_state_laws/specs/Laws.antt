-- What holds of every run of a program in which all that was asked so far fits.
use Rattle.std.specs.Prelude.{◌≡◌, ℕ, ◌<◌, ◌≤◌, ◌==◌, ◌⊎◌, Bool, true, false, List, [], ◌∷◌, ◌++◌, Option, Some, None}
use Rattle.std.specs.List.{list_any}
use Rattle.uc_tree.specs.Source.{Source}
use Rattle.uc_tree.specs.Programs.{Site}
use Rattle.uc_entry.specs.declared.entry.Entry.{Entry}
use Rattle.uc_entry.specs.declared.entry.EntryKind.{EntryKind}
use Rattle.uc_entry.specs.declared.entry.EntryKind.TheVariants as kind
use Rattle.uc_entry.specs.declared.entry.Options.{Options}
use Rattle.uc_entry.specs.declared.request.Asked.{Asked}
use Rattle.uc_entry.specs.declared.request.Request.TheVariants as ask
use Rattle.uc_acts.specs.Journal.{Journal, held, is_over}
use Rattle.uc_acts.specs.Known.{has, has_ended, made}
use Rattle.uc_acts.specs.Queues.{running}
use Rattle.uc_acts.specs.Answers.{answer_to, just_made}
use Rattle.uc_acts.specs.Serves.{left}
use Rattle.uc_acts.specs.Sound.{Each}
use Rattle.uc_acts.specs.Acts.{act}
use Rattle.uc_acts.specs.KernelRuns.{InRange, KernelRuns}
use Rattle.uc_machine.specs.Quiet.{State, Members}
use Rattle.uc_meaning.specs.Runs.{World, Runs, AsksIn, drawn}
use Rattle.uc_meaning.specs.Cuts.{Cut, Reentry}
use Rattle.uc_step_laws.specs.Hands.{keys, HasForm}
use Rattle.uc_state_laws.specs.Fitting.{RunFits, RunEarly}
use Rattle.uc_site_laws.specs.Named.{NamedSource}
use Rattle.uc_site_laws.specs.Naming.{NamesKnown}

-- of any run of a kernel

-- whether an entry opens a run or gives a processor
abbrev pub is_giving : EntryKind → Bool
is_giving kind.Begin = true
is_giving kind.Dispatch = true
is_giving k = false

-- an entry by processor p
pub record IsOn (p : ℕ) (e : Entry) : Type 0 where
  pub processor : e.proc ≡ p
  pub gives : is_giving e.kind ≡ false

-- each entry of an act names the processor of its task, and gives none
abbrev pub LawProcessor : Type 0
LawProcessor =
    (opts : Options) (sites : List Site) (input : List ℕ) (j : Journal) (p t k : ℕ) (asked : Asked) →
    Each (IsOn p) (act opts sites input j p t k asked)

-- who runs has a tick left
abbrev pub AllLeft : Options → Journal → Type 0
AllLeft opts j = (p t : ℕ) → running p j ≡ t ∷ [] → 1 ≤ left opts j t

-- so it is where each act came early enough
abbrev pub LawLeft : Type 0
LawLeft =
    (opts : Options) (sites : List Site) (input : List ℕ) (j : Journal) → InRange opts →
    (r : KernelRuns opts sites input j) → RunEarly opts sites input j r → is_over j ≡ false →
    AllLeft opts j

-- who runs has not ended
abbrev pub LawAlive : Type 0
LawAlive =
    (opts : Options) (sites : List Site) (input : List ℕ) (j : Journal) →
    KernelRuns opts sites input j → is_over j ≡ false → (p t : ℕ) → running p j ≡ t ∷ [] →
    has_ended t j ≡ false

-- a task that has not ended by an act behind which the run goes on asked neither its end nor a fault
pub record AsksToGoOn (asked : Asked) : Type 0 where
  pub no_end : asked.request ≡ ask.End → ⊥
  pub no_fault : (n : ℕ) → asked.request ≡ ask.Fault n → ⊥

abbrev pub LawEnds : Type 0
LawEnds =
    (opts : Options) (sites : List Site) (input : List ℕ) (j : Journal) (p t k : ℕ) (asked : Asked) →
    is_over (j ++ act opts sites input j p t k asked) ≡ false →
    has_ended t (j ++ act opts sites input j p t k asked) ≡ false → AsksToGoOn asked

-- of runs of programs

-- a task of the program asks
pub record AsksWith (source : Source) (opts : Options) (j : Journal) (t n : ℕ) (s : State) (asked : Asked) : Type 0 where
  -- with just the objects in hand that it is inside, in the order in which it entered them
  pub hand : keys s.env.hand ≡ held t j
  pub form : HasForm asked.request
  -- before the last tick that it has left, or for another slice
  pub within : n ≤ left opts j t
  pub early : (asked.request ≡ ask.Slice → ⊥) → n < left opts j t

abbrev pub LawHand : Type 0
LawHand =
    (source : Source) (input : List ℕ) (opts : Options) (j : Journal) (w : World) (r : Runs source input opts j w) →
    InRange opts → RunFits source input opts j w r → is_over j ≡ false →
    (p t n : ℕ) (s : State) (asked : Asked) → AsksIn source opts j w p t n s asked →
    AsksWith source opts j t n s asked

-- members that are at home somewhere
pub record IsAtHome (x : Option Members) : Type 0 where
  pub members : Members
  pub is : x ≡ Some members

-- what is at home in the world that a journal leaves
pub record Homes (j : Journal) (w : World) : Type 0 where
  -- each object that is made and not gone, but for one that a task has just made
  pub there : (o : ℕ) → has (made j) o ≡ true → IsAtHome (w.homes o) ⊎ ((t : ℕ) × (just_made t j ≡ o ∷ []))
  pub new : (t o : ℕ) → just_made t j ≡ o ∷ [] → w.homes o ≡ None
  pub gone : (o : ℕ) → has (made j) o ≡ false → w.homes o ≡ None

abbrev pub LawHome : Type 0
LawHome =
    (source : Source) (input : List ℕ) (opts : Options) (j : Journal) (w : World) (r : Runs source input opts j w) →
    InRange opts → RunFits source input opts j w r → is_over j ≡ false → Homes j w

-- whether entries name processor p
abbrev pub names : ℕ → List Entry → Bool
names p later = list_any (λ e. e.proc == p) later

-- whoever runs on p stays as it is
pub record StaysAs (source : Source) (opts : Options) (p t : ℕ) (j k : Journal) (w u : World) : Type 0 where
  pub runs : running p k ≡ t ∷ []
  pub state : drawn k u t ≡ drawn j w t
  pub answer : answer_to source.sites t k ≡ answer_to source.sites t j
  pub ticks : left opts k t ≡ left opts j t

-- acts of others, which do not name its processor, leave whoever runs there as it is
abbrev pub LawOthers : Type 0
LawOthers =
    (source : Source) (input : List ℕ) (opts : Options) → InRange opts → Reentry source input opts →
    (j : Journal) (w : World) (parts : List (List Entry)) (later : List Entry) (u : World) →
    Runs source input opts j w → Cut source input opts j w parts (j ++ later) u →
    is_over (j ++ later) ≡ false → (p t : ℕ) → running p j ≡ t ∷ [] → names p later ≡ false →
    StaysAs source opts p t j (j ++ later) w u

-- a run of the program passes through an earlier one: these acts lead on from there
abbrev pub LawThrough : Type 0
LawThrough =
    (source : Source) (input : List ℕ) (opts : Options) → Reentry source input opts →
    (j later : Journal) (w u : World) → Runs source input opts j w →
    Runs source input opts (j ++ later) u → is_over (j ++ later) ≡ false →
    (parts : List (List Entry)) × Cut source input opts j w parts (j ++ later) u

-- so whoever runs on a processor that no later entry names stays as it is
abbrev pub LawSeat : Type 0
LawSeat =
    (source : Source) (input : List ℕ) (opts : Options) → InRange opts → Reentry source input opts →
    (j later : Journal) (w u : World) → Runs source input opts j w →
    Runs source input opts (j ++ later) u → is_over (j ++ later) ≡ false → (p t : ℕ) →
    running p j ≡ t ∷ [] → names p later ≡ false → StaysAs source opts p t j (j ++ later) w u

-- in every run of a source of which all names are known, a task asks of a member by a number that there may be, and of an accept
-- statement of these, with a mask of its clauses
abbrev pub LawNames : Type 0
LawNames =
    (sites : List Site) (source : Source) → NamedSource sites source →
    (input : List ℕ) (opts : Options) (j : Journal) (w : World) → Runs source input opts j w →
    (p t n : ℕ) (s : State) (asked : Asked) → AsksIn source opts j w p t n s asked →
    NamesKnown sites asked.request
