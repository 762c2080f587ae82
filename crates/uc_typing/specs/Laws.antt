-- The laws of typing: what is typed stays so, by steps and by answers.
use Rattle.std.specs.Prelude.{◌≡◌, ℕ, List, ◌∷◌, [], false}
use Rattle.uc_tree.specs.Source.{Source, routine_of}
use Rattle.uc_entry.specs.declared.request.Request.{Request}
use Rattle.uc_entry.specs.declared.request.Request.TheVariants as ask
use Rattle.uc_entry.specs.declared.request.Answer.{Answer}
use Rattle.uc_machine.specs.Quiet.{State, Members, Todo, Goes, Ticks, Asks, quiet, first_state}
use Rattle.uc_machine.specs.Answering.{answered, child_of, with_hand}
use Rattle.uc_typing.specs.Typing.{Table}
use Rattle.uc_typing.specs.Finds.{Finds}
use Rattle.uc_typing.specs.States.{Typed, Asked, Suits, After, Reads, Inhand, IsTask, Sound}

-- one quiet step leaves a typed state typed, whatever it asks
abbrev pub LawTyped : Type 0
LawTyped = (t : Table) (source : Source) → Sound t source → (s : State) (x : Typed t [] s) →
    Reads t x.run.sig x.run.scope s s.run.control x.run.own → After t source (quiet source s)

-- each piece of a typed state finds what it takes
abbrev pub LawFinds : Type 0
LawFinds = (t : Table) (source : Source) → Sound t source → (s : State) → Typed t [] s →
    (p : Todo) (todo : List Todo) → s.run.control ≡ p ∷ todo → Finds source p s

-- an answer that suits what was asked leaves a state typed
abbrev pub LawAnswered : Type 0
LawAnswered = (t : Table) (source : Source) (q : Request) (a : Answer) (s : State) →
    Asked t source q s → Suits q a → Typed t [] (answered source a s)

-- a task begins typed: one that is spawned, and one whose main is this
abbrev pub LawSpawned : Type 0
LawSpawned = (t : Table) (source : Source) → Sound t source → (o n : ℕ) (s : State) →
    Asked t source (ask.Spawn o) s → Typed t [] (child_of source n s)

-- a state that is in order is so by a typing in which what its next step reads of bindings is of its type
abbrev pub ReadsIn : Table → State → Type 0
ReadsIn t s = Typed t [] s → (x : Typed t [] s) × Reads t x.run.sig x.run.scope s s.run.control x.run.own

-- a task goes on: by steps and ticks; with an answer that suits what it has asked; and with a hand that is laid back and drawn again
pub data GoesOn (t : Table) (source : Source) : State → State → Type 0 where
  stays : {s : State} → GoesOn t source s s
  steps : {s u v : State} → quiet source s ≡ Goes u → GoesOn t source u v → GoesOn t source s v
  ticks : {s u v : State} → quiet source s ≡ Ticks u → GoesOn t source u v → GoesOn t source s v
  asks : {s u v : State} (q : Request) (a : Answer) → quiet source s ≡ Asks q u → Suits q a →
      GoesOn t source (answered source a u) v → GoesOn t source s v
  draws : {s v : State} (hand : List (ℕ × Members)) → Inhand t hand →
      GoesOn t source (with_hand hand s) v → GoesOn t source s v

-- all that is reached from the start of a main is typed, as far as what is read is; where no bindings but parameters are read, it is
abbrev pub LawReached : Type 0
LawReached = (t : Table) (source : Source) → Sound t source → (r o : ℕ) → IsTask t r →
    ((u : State) → GoesOn t source (first_state (routine_of source r) o) u → ReadsIn t u) →
    (u : State) → GoesOn t source (first_state (routine_of source r) o) u → Typed t [] u

abbrev pub LawNoBinding : Type 0
LawNoBinding = (t : Table) → t.refers ≡ false → (s : State) → ReadsIn t s
