-- The homes of mutex objects, as a run tells them: each is at home at the place that is bound to its number, which its maker has named.
use Rattle.std.specs.Prelude.{◌≡◌, ℕ, ◌<◌, false, List, [], ◌∷◌, drop, Some, nat_eq, if◌then◌else◌}
use Rattle.uc_tree.specs.Source.{Source}
use Rattle.uc_entry.specs.declared.entry.Entry.{Entry}
use Rattle.uc_entry.specs.declared.entry.Options.{Options}
use Rattle.uc_entry.specs.declared.request.Answer.TheVariants as answer
use Rattle.uc_entry.specs.declared.request.Request.{Request}
use Rattle.uc_entry.specs.declared.request.Request.TheVariants as ask
use Rattle.uc_acts.specs.Journal.{Journal, is_over}
use Rattle.uc_acts.specs.Known.{object_count, has_ended}
use Rattle.uc_acts.specs.Answers.{answer_to}
use Rattle.uc_acts.specs.KernelRuns.{InRange}
use Rattle.uc_answer_laws.specs.Suiting.{form_of_request, asked_form}
use Rattle.uc_machine.specs.declared.exec.Owner.TheVariants.{Fields}
use Rattle.uc_machine.specs.Pieces.{Value, Place, Nothing, Object, Todo, BindMadeNow, State, top, below}
use Rattle.uc_machine.specs.Answering.{answered}
use Rattle.uc_meaning.specs.Runs.{World, May, Runs, gives, no_room, acts, begun, more, drawn}
use Rattle.uc_state_laws.specs.Counted.{params}
use Rattle.uc_state_laws.specs.Fitting.{RunFits}
use Rattle.uc_life_laws.specs.MadeObjects.{RestsBy}

-- where an object that is asked for is to be bound: at the place below the arguments of the constructor that comes next
abbrev pub made_at : Source → List Todo → List Value → Value
made_at source (BindMadeNow c r ∷ todo) vs = top (drop (params source r) vs)
made_at source todo vs = Nothing

-- who asks for one tells the home of the next number
abbrev pub then_home : Source → Journal → Request → State → (ℕ → Value) → ℕ → Value
then_home source j (ask.Make m) s homes o =
    if nat_eq o (object_count j) then made_at source s.run.control s.run.operands else homes o
then_home source j r s homes o = homes o

-- so does an act, and a run; until a home is told it is a place of the object's own, at which nothing is bound
abbrev pub home_by : (source : Source) (opts : Options) (input : List ℕ) (j : Journal) (w : World) (a : List Entry) (x : World) →
    May source opts input j w a x → (ℕ → Value) → ℕ → Value
home_by source opts input j w _ _ (gives p t s h) homes o = homes o
home_by source opts input j w _ _ (no_room p t s h) homes o = homes o
home_by source opts input j w _ _ (acts p t n s asked d) homes o =
    then_home source j asked.request s homes o

abbrev pub home_of : (source : Source) (input : List ℕ) (opts : Options) (j : Journal) (w : World) →
    Runs source input opts j w → ℕ → Value
home_of source input opts _ _ begun o = Place (Fields o) []
home_of source input opts _ _ (more {j} {w} {a} {w' = x} r on m) o =
    home_by source opts input j w a x m (λ i. home_of source input opts j w r i) o

-- a task at rest has asked something, and where that is an object and it is told its number, this was made, and its home is where it is to be bound;
-- that is what it does next, and nothing else that is to do binds a made object
pub record HomedRest (source : Source) (homes : ℕ → Value) (j : Journal) (t : ℕ) (s : State) : Type 0 where
  pub request : Request
  pub asks_for : form_of_request request ≡ asked_form t j
  pub made : (m : ℕ) → request ≡ ask.Make m → (o : ℕ) →
      answer_to source.sites t j ≡ Some (answer.Object o) → o < object_count j
  pub homed : (m : ℕ) → request ≡ ask.Make m → (o : ℕ) →
      answer_to source.sites t j ≡ Some (answer.Object o) →
      homes o ≡ made_at source s.run.control s.run.operands
  pub binds : RestsBy source homes (object_count j) request s

-- as it goes on, its newest operand is that object, and behind it and the arguments stands its home
pub record AllHomed (source : Source) (homes : ℕ → Value) (j : Journal) (w : World) : Type 0 where
  pub rests : (t : ℕ) → has_ended t j ≡ false → HomedRest source homes j t (w.tasks t)
  pub told : (t : ℕ) (on : has_ended t j ≡ false) (m o : ℕ) → (rests t on).request ≡ ask.Make m →
      answer_to source.sites t j ≡ Some (answer.Object o) →
      (top (answered source (answer.Object o) (drawn j w t)).run.operands ≡ Object o) ×
      (homes o ≡ made_at source (w.tasks t).run.control (below (answered source (answer.Object o) (drawn j w t)).run.operands))

-- so it is in each run in which all that was asked so far fits, of whatever source
abbrev pub LawHomes : Type 0
LawHomes =
    (source : Source) (input : List ℕ) (opts : Options) (j : Journal) (w : World)
    (r : Runs source input opts j w) → InRange opts → RunFits source input opts j w r →
    is_over j ≡ false → AllHomed source (home_of source input opts j w r) j w

-- a home is told once
abbrev pub LawOnce : Type 0
LawOnce =
    (source : Source) (input : List ℕ) (opts : Options) (j : Journal) (w : World) (a : List Entry) (x : World)
    (m : May source opts input j w a x) (homes : ℕ → Value) (o : ℕ) → o < object_count j →
    home_by source opts input j w a x m homes o ≡ homes o
