-- Where a return of a handler unwinds an activation it is over before what that activation builds is left: a block that is left as a whole stands within
-- the scope of a mutex object that is built, around all handlers.
use Rattle.std.specs.Prelude.{◌≡◌, ℕ, ◌<◌, false, List, [], ◌∷◌, length, Option, Some}
use Rattle.uc_tree.specs.Programs.{Program}
use Rattle.uc_tree.specs.Source.{CleanUp, Leaves, Frees, Stmts, Scoped, Source, routine_of}
use Rattle.uc_entry.specs.declared.entry.Options.{Options}
use Rattle.uc_entry.specs.declared.request.Answer.{Answer}
use Rattle.uc_entry.specs.declared.request.Asked.{Asked}
use Rattle.uc_acts.specs.Journal.{Journal, is_over}
use Rattle.uc_acts.specs.KernelRuns.{InRange}
use Rattle.uc_acts.specs.Serves.{left}
use Rattle.uc_machine.specs.declared.exec.Exec.{Exec}
use Rattle.uc_machine.specs.declared.exec.Home.{Home}
use Rattle.uc_machine.specs.declared.exec.UnwindReason.TheVariants as reason
use Rattle.uc_machine.specs.declared.exec.Visited.{Visited}
use Rattle.uc_machine.specs.Executions.{Execution}
use Rattle.uc_machine.specs.Raising.{arrives}
use Rattle.uc_machine.specs.Pieces as piece
use Rattle.uc_machine.specs.Pieces.{Value, Todo, Sort, sort, Active, State, Members, Step, Goes, Ticks, Asks}
use Rattle.uc_machine.specs.Quiet.{quiet, first_state}
use Rattle.uc_machine.specs.Answering.{answered}
use Rattle.uc_meaning.specs.Runs.{World, Runs, AsksIn, drawn}
use Rattle.uc_resolve.specs.Resolve.{source_of}
use Rattle.uc_rules.specs.Breaks.{breaks_of}
use Rattle.uc_sound.specs.SoundFormed.{IsFormed}
use Rattle.uc_state_laws.specs.Fitting.{RunFits}
use Rattle.uc_state_laws.specs.Opens.{RideMeets, RunMeets}
use Rattle.uc_life_laws.specs.LifeStates.{MembersBy, EnvBy}
use Rattle.uc_parts_laws.specs.PartStates.{Setting, PartsState}

-- to-do lists

-- a return of a mutex member is over as it leaves its object; the scope in which an object is built is not met
abbrev pub StopsClean : CleanUp → Type 0 → Type 0
StopsClean Leaves rest = Unit {0}
StopsClean (Frees r) rest = ⊥
StopsClean c rest = rest

abbrev pub StopsBy : Sort → Type 0 → Type 0
StopsBy piece.Simple rest = rest
StopsBy (piece.IsLoop o t e b) rest = rest
StopsBy piece.IsWhole rest = Unit {0}
StopsBy (piece.IsClean c) rest = StopsClean c rest
StopsBy (piece.IsFill n b d) rest = rest
StopsBy (piece.IsSweep e) rest = rest
StopsBy (piece.IsPart c) rest = rest
StopsBy (piece.IsGuard hs) rest = rest
StopsBy piece.IsFinish rest = Unit {0}
StopsBy piece.IsFinishCoroutine rest = Unit {0}

-- statements do not begin with the scope in which an object is built
abbrev pub NotFreed : CleanUp → Type 0 → Type 0
NotFreed (Frees r) rest = ⊥
NotFreed c rest = rest

abbrev pub BuildsNone : Stmts → Type 0 → Type 0
BuildsNone (Scoped c ss) rest = NotFreed c rest
BuildsNone ss rest = rest

-- who leaves such a list by the return of a handler comes to where that is over before the scope in which an object is built, or to the end
abbrev pub Stops : List Todo → Type 0
Stops [] = Unit {0}
Stops (piece.Rest ss ∷ todo) = BuildsNone ss (Stops todo)
Stops (p ∷ todo) = StopsBy (sort p) (Stops todo)

-- that scope is not still to open
abbrev pub HasBegun : List Todo → Type 0
HasBegun [] = Unit {0}
HasBegun (piece.Rest ss ∷ todo) = BuildsNone ss (HasBegun todo)
HasBegun (p ∷ todo) = HasBegun todo

-- but perhaps next
abbrev pub HasBegunBehind : List Todo → Type 0
HasBegunBehind [] = Unit {0}
HasBegunBehind (p ∷ todo) = HasBegun todo

-- an unwinding goes on behind expressions and what destroys elements, and stops so
abbrev pub UnwindsBy : Sort → Type 0 → Type 0
UnwindsBy piece.Simple rest = rest
UnwindsBy (piece.IsSweep e) rest = rest
UnwindsBy k rest = ⊥

abbrev pub Unwinds : List Todo → Type 0
Unwinds [] = ⊥
Unwinds (piece.Unwind ∷ todo) = Stops todo
Unwinds (piece.Do a ∷ todo) = ⊥
Unwinds (piece.Rest ss ∷ todo) = ⊥
Unwinds (piece.Branch a b ∷ todo) = ⊥
Unwinds (piece.TurnNow o t e b ∷ todo) = ⊥
Unwinds (piece.Again o t e b ∷ todo) = ⊥
Unwinds (piece.Exit w ∷ todo) = ⊥
Unwinds (piece.ChooseNow cs ∷ todo) = ⊥
Unwinds (p ∷ todo) = UnwindsBy (sort p) (Unwinds todo)

-- activations

-- the one that has so many below it stops a return so, among these
abbrev pub StopsAt : ℕ → List Active → Type 0
StopsAt home [] = Unit {0}
StopsAt home (a ∷ older) = (home ≡ length older → Stops a.control) × StopsAt home older

-- an activation before these older ones: those stop the returns of the handler that it is, and of one by which it is unwound; and where that is a return to
-- it, it is being unwound to where that is over
pub record ReturnsWell (older : List Active) (a : Active) : Type 0 where
  pub handles : (v : Visited) → a.handles ≡ Some v → (v.home < length older) × StopsAt v.home older
  pub passes : (home : ℕ) → a.raised ≡ Some (reason.ReturnTo home) → StopsAt home older
  pub own : a.raised ≡ Some (reason.ReturnTo (length older)) → Unwinds a.control

-- those that wait have begun to build what they build
abbrev pub AllReturnWell : List Active → Type 0
AllReturnWell [] = Unit {0}
AllReturnWell (a ∷ older) = (HasBegun a.control × ReturnsWell older a) × AllReturnWell older

-- an execution that does not run
pub record ReturnsEx (n : Exec) (x : Execution (List Todo) Value) : Type 0 where
  pub begun : HasBegunBehind x.run.control
  pub run : ReturnsWell x.callers x.run
  pub callers : AllReturnWell x.callers

abbrev pub ReturnsMembers : Home → Option Members → Type 0
ReturnsMembers h m = MembersBy ReturnsEx h m

pub record ReturnsState (s : State) : Type 0 where
  pub begun : HasBegunBehind s.run.control
  pub run : ReturnsWell s.callers s.run
  pub callers : AllReturnWell s.callers
  pub env : EnvBy ReturnsEx s.env

abbrev pub ReturnsStep : Step → Type 0
ReturnsStep (Goes s) = ReturnsState s
ReturnsStep (Ticks s) = ReturnsState s
ReturnsStep (Asks r s) = ReturnsState s

-- where what an activation builds is left by an unwinding, that is no return to it
abbrev pub PassesAt : List Todo → State → Type 0
PassesAt (piece.Unwind ∷ (piece.Clean (Frees r) ∷ todo)) s = arrives s.run.raised (length s.callers) ≡ false
PassesAt todo s = Unit {0}

abbrev pub Passes : State → Type 0
Passes s = PassesAt s.run.control s

-- of whatever source: so it is of a task as it begins; each quiet step keeps it where parts are taken over, and so does each answer; then nothing that is
-- built is left so
pub record LawReturns : Type 0 where
  pub begins : (source : Source) (r o : ℕ) → ReturnsState (first_state (routine_of source r) o)
  pub steps : (g : Setting) (s : State) → ReturnsState s → PartsState g s → ReturnsStep (quiet g.source s)
  pub told : (source : Source) (given : Answer) (s : State) → ReturnsState s → ReturnsState (answered source given s)
  pub passes : (s : State) → ReturnsState s → Passes s

-- so it is in each state of each run of a program that breaks no rule, as long as all that was asked before fits, and on the way to what is asked next
pub record LawReturnsRuns : Type 0 where
  pub runs : (p : Program) → IsFormed p → breaks_of p ≡ [] → (input : List ℕ) (opts : Options) → InRange opts →
      (j : Journal) (w : World) (r : Runs (source_of p) input opts j w) → RunFits (source_of p) input opts j w r →
      RunMeets Passes (source_of p) input opts j w r
  pub rides : (p : Program) → IsFormed p → breaks_of p ≡ [] → (input : List ℕ) (opts : Options) → InRange opts →
      (j : Journal) (w : World) (r : Runs (source_of p) input opts j w) → RunFits (source_of p) input opts j w r →
      is_over j ≡ false → (q t n : ℕ) (s : State) (asked : Asked) (d : AsksIn (source_of p) opts j w q t n s asked) →
      RideMeets Passes (source_of p) (answered (source_of p) d.given (drawn j w t)) (left opts j t) s n asked d.rides
