-- The resolved tree of every program whose text is accepted is well typed.
use Rattle.std.specs.Prelude.{◌≡◌, ℕ, ◌≤◌, List, [], length}
use Rattle.uc_tree.specs.declared.limits.TheConstants.{NESTING, PROGRAM_BYTES}
use Rattle.uc_tree.specs.declared.token.Token.{Token}
use Rattle.uc_tree.specs.Programs.{Program}
use Rattle.uc_tree.specs.Source.{routine_of}
use Rattle.uc_tree.specs.Tokens.{tokens, Read}
use Rattle.uc_grammar.specs.Text.{IsProgram}
use Rattle.uc_resolve.specs.Resolve.{source_of}
use Rattle.uc_rules.specs.Breaks.{breaks_of}
use Rattle.uc_entry.specs.declared.request.Request.{Request}
use Rattle.uc_entry.specs.declared.request.Request.TheVariants.{Spawn}
use Rattle.uc_entry.specs.declared.request.Answer.{Answer}
use Rattle.uc_machine.specs.Quiet.{State, Members, Goes, Ticks, Asks, quiet, first_state}
use Rattle.uc_machine.specs.Answering.{answered, child_of, with_hand}
use Rattle.uc_typing.specs.States.{Sound, Typed, IsTask, Inhand, Suits}
use Rattle.uc_typing.specs.Laws.{GoesOn, ReadsIn}
use Rattle.uc_sound.specs.Tables.{table_of}
use Rattle.uc_sound.specs.Sounds.{BeginsTask}

-- The text is no longer than one may be, its tokens are those of the program, and this breaks no rule.
pub record IsTextOf (text : List ℕ) (p : Program) : Type 0 where
  pub short : length text ≤ PROGRAM_BYTES
  pub list : List Token
  pub lexed : tokens text ≡ Read list
  pub spelled : IsProgram NESTING list 0 (length list) p
  pub no_break : breaks_of p ≡ []

-- a task whose main is this routine, o being its object, reaches this state
abbrev pub Reaches : Program → ℕ → ℕ → State → Type 0
Reaches p r o u = GoesOn (table_of p) (source_of p) (first_state (routine_of (source_of p) r) o) u

-- The states in which tasks of the program may be: the first one begins with the program's main, others are spawned; a task goes on by
-- steps and ticks, with any answer that suits what it has asked, and with a hand in which each execution that may go on is in order.
pub data IsTaskState (p : Program) : State → Type 0 where
  begun : (o : ℕ) → IsTaskState p (first_state (routine_of (source_of p) (source_of p).main) o)
  spawned : {s u : State} (o n : ℕ) → IsTaskState p s → quiet (source_of p) s ≡ Asks (Spawn o) u →
      IsTaskState p (child_of (source_of p) n u)
  steps : {s u : State} → IsTaskState p s → quiet (source_of p) s ≡ Goes u → IsTaskState p u
  ticks : {s u : State} → IsTaskState p s → quiet (source_of p) s ≡ Ticks u → IsTaskState p u
  told : {s u : State} (q : Request) (a : Answer) → IsTaskState p s →
      quiet (source_of p) s ≡ Asks q u → Suits q a → IsTaskState p (answered (source_of p) a u)
  drawn : {s : State} (hand : List (ℕ × Members)) → IsTaskState p s → Inhand (table_of p) hand →
      IsTaskState p (with_hand hand s)

-- What is read of bindings at each step on the way to a state is of its type.
abbrev pub ReadsTo : (p : Program) (u : State) → IsTaskState p u → Type 0
ReadsTo p _ (begun o) = Unit {0}
ReadsTo p _ (spawned {s} o n i e) = ReadsIn (table_of p) s × ReadsTo p s i
ReadsTo p _ (steps {s} i e) = ReadsIn (table_of p) s × ReadsTo p s i
ReadsTo p _ (ticks {s} i e) = ReadsIn (table_of p) s × ReadsTo p s i
ReadsTo p _ (told {s} q a i e k) = ReadsIn (table_of p) s × ReadsTo p s i
ReadsTo p _ (drawn {s} hand i h) = ReadsTo p s i

pub record IsWellTyped (p : Program) : Type 0 where
  -- each routine is in order under its signature
  pub sound : Sound (table_of p) (source_of p)
  -- the program's main and those of its task classes are mains of tasks
  pub mains : (r : ℕ) → BeginsTask p r → IsTask (table_of p) r
  -- a task begins in order
  pub begins : (r o : ℕ) → BeginsTask p r → Typed (table_of p) [] (first_state (routine_of (source_of p) r) o)
  -- and all that it reaches is in order where what is read of bindings is of its type in all that it reaches, with any hand
  pub reached : (r o : ℕ) → BeginsTask p r →
      ((u : State) → Reaches p r o u → ReadsIn (table_of p) u) → (u : State) → Reaches p r o u →
      Typed (table_of p) [] u
  -- so is each state of each task, as far as what was read of bindings on the way to it is of its type
  pub states : (u : State) (i : IsTaskState p u) → ReadsTo p u i → Typed (table_of p) [] u

abbrev pub LawWellTyped : Type 0
LawWellTyped = (text : List ℕ) (p : Program) → IsTextOf text p → IsWellTyped p
