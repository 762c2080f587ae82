-- That a task has in hand what it lets go of, waits for, accepts and signals in, and how many tasks an object has that it spawns or raises
-- an event at, as long as nothing else is owed to what it lets go of.
use Rattle.std.specs.Prelude.{◌≡◌, ℕ, ◌≤◌, true, false, List, [], length}
use Rattle.uc_tree.specs.Source.{Source}
use Rattle.uc_entry.specs.declared.entry.Options.{Options}
use Rattle.uc_entry.specs.declared.request.Asked.{Asked}
use Rattle.uc_entry.specs.declared.request.Request.{Request}
use Rattle.uc_entry.specs.declared.request.Request.TheVariants as ask
use Rattle.uc_acts.specs.Journal.{Journal, own_object, is_over}
use Rattle.uc_acts.specs.Known.{has, owner}
use Rattle.uc_acts.specs.KernelRuns.{InRange}
use Rattle.uc_machine.specs.declared.exec.Home.TheVariants as home
use Rattle.uc_machine.specs.Insides.{is_held_up}
use Rattle.uc_machine.specs.Quiet.{State}
use Rattle.uc_meaning.specs.Runs.{World, Runs, AsksIn}
use Rattle.uc_step_laws.specs.Hands.{keys}
use Rattle.uc_state_laws.specs.Fitting.{RunFits}
use Rattle.uc_depth_laws.specs.Entering.{EnteredSource}
use Rattle.uc_inner_laws.specs.Inner.{Part, InnerSource}
use Rattle.uc_letting_laws.specs.AloneRuns.{RideAlone, RunAlone}

-- all objects of which a task with this own object asks something, but those that it calls and at which it raises an event, are in hand
abbrev pub AsksInHand : ℕ → List ℕ → Request → Type 0
AsksInHand own hand (ask.Made o) = has hand o ≡ true
AsksInHand own hand (ask.Spawn o) = has hand o ≡ true
AsksInHand own hand (ask.Leave o failed) = has hand o ≡ true
AsksInHand own hand (ask.Gone o) = has hand o ≡ true
AsksInHand own hand (ask.Accept o site mask) = has hand o ≡ true
AsksInHand own hand (ask.Wait o c n) = has hand o ≡ true
AsksInHand own hand (ask.Signal o c) = has hand o ≡ true
AsksInHand own hand (ask.SignalBlock o c) = has hand o ≡ true
AsksInHand own hand (ask.Empty o c) = has hand o ≡ true
AsksInHand own hand (ask.Front o c) = has hand o ≡ true
AsksInHand own hand ask.End = has hand own ≡ true
AsksInHand own hand r = Unit {0}

-- what is spawned is of no task yet, and where an event is raised is one task at most
abbrev pub OwnersFit : Journal → Request → Type 0
OwnersFit j (ask.Spawn o) = owner o j ≡ []
OwnersFit j (ask.Raise o event x y) = length (owner o j) ≤ 1
OwnersFit j r = Unit {0}

-- of what a task asks in a run in which all that was asked so far fits, where objects are entered by their calls, code waits, signals and
-- accepts only where its task is inside, and tasks have mains, as long as nothing else is owed to what is let go of
abbrev pub OfAsked : (Journal → ℕ → State → Request → Type 0) → Type 0
OfAsked Claim =
    (part : ℕ → Part)
    (source : Source)
    → EnteredSource source
    → InnerSource part source
    → (input : List ℕ)
    (opts : Options)
    (j : Journal)
    (w : World)
    (r : Runs source input opts j w)
    → InRange opts
    → RunFits source input opts j w r
    → RunAlone source input opts j w r
    → is_over j ≡ false
    → (p t n : ℕ)
    (s : State)
    (asked : Asked)
    (d : AsksIn source opts j w p t n s asked)
    → RideAlone source _ _ s n asked d.rides
    → Claim j t s asked.request

-- what it asks something of is in its hand
abbrev pub LawInHand : Type 0
LawInHand = OfAsked (λ j t s r. AsksInHand (own_object t j) (keys s.env.hand) r)

-- and what it spawns is of no task yet, what it raises an event at of one at most
abbrev pub LawOwners : Type 0
LawOwners = OfAsked (λ j t s r. OwnersFit j r)

-- behind what it asks: whoever takes an object out is not at home there, and at its end nothing holds a task up in its own object
abbrev pub LeavesFree : ℕ → Request → State → Type 0
LeavesFree own (ask.Gone o) s = s.env.exec.home ≡ home.Object o → ⊥
LeavesFree own ask.End s = is_held_up own s.env ≡ false
LeavesFree own r s = Unit {0}

abbrev pub LawLeaving : Type 0
LawLeaving = OfAsked (λ j t s r. LeavesFree (own_object t j) r s)
