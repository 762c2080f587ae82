-- All stays known where fewer numbers are told, as long as nobody has at hand what had the others.
use Rattle.std.specs.Prelude.{◌≡◌, ℕ, ◌⊎◌, Bool, true, List, [], ◌∷◌}
use Rattle.uc_machine.specs.declared.exec.Exec.{Exec}
use Rattle.uc_machine.specs.declared.exec.Stage.{Stage}
use Rattle.uc_machine.specs.declared.exec.Stage.TheVariants.{Fresh, Started, Ended}
use Rattle.uc_machine.specs.Executions.{Execution, others}
use Rattle.uc_machine.specs.Pieces.{Value, Number, Object, Todo, Active, State}
use Rattle.uc_typing.specs.Typing.{Ty, Obj, Raw, Clu, Pro, Table}
use Rattle.uc_life_laws.specs.Things.{Few, Held}
use Rattle.uc_life_laws.specs.LifeStates.{EnvBy}
use Rattle.uc_life_laws.specs.Silent.{AllSilent}
use Rattle.uc_life_laws.specs.Kinds.{Claimed}
use Rattle.uc_life_laws.specs.Lives.{Lives}
use Rattle.uc_life_laws.specs.Knowing.{AtHand, KnowsEx, KnowsState}

-- the same homes and bases with other numbers
abbrev pub with_numbers : (Ty → ℕ → Bool) → Few → Few
with_numbers numbers few = record { numbers = numbers; home = few.home; base = few.base }

-- nothing but numbers stands there
abbrev pub AllNumbers : List Value → Type 0
AllNumbers [] = Unit {0}
AllNumbers (Number z ∷ vs) = AllNumbers vs
AllNumbers (v ∷ vs) = ⊥

abbrev pub FramesNumbers : List (List Value) → Type 0
FramesNumbers [] = Unit {0}
FramesNumbers (f ∷ fs) = AllNumbers f × FramesNumbers fs

module _ (t : Table) (few : Few) (numbers : Ty → ℕ → Bool) where
  -- what is not whole, clusters and processors have the numbers that they had
  pub record KeepsOthers : Type 0 where
    pub raws : (c o : ℕ) → few.numbers (Raw c) o ≡ true → numbers (Raw c) o ≡ true
    pub clusters : (o : ℕ) → few.numbers Clu o ≡ true → numbers Clu o ≡ true
    pub processors : (o : ℕ) → few.numbers Pro o ≡ true → numbers Pro o ≡ true

  -- so do mutex objects that are at hand
  abbrev pub Lasts : (Value → Ty → Type 0) → Type 0
  Lasts K = (c o : ℕ) → t.mutex c ≡ true → Held t few K (Obj c) (Object o) → few.numbers (Obj c) o ≡ true →
      numbers (Obj c) o ≡ true

  -- one that has not begun knows its own object alone
  pub record FreshLasts (x : Execution (List Todo) Value) : Type 0 where
    pub callers : x.callers ≡ []
    pub operands : x.run.operands ≡ []
    pub frames : FramesNumbers x.frames
    pub this : (c o : ℕ) → t.mutex c ≡ true → x.run.this ≡ Object o → few.numbers (Obj c) o ≡ true →
        numbers (Obj c) o ≡ true

  -- of an execution that does not run, all that it has at hand, if it has not ended, or knows
  abbrev pub HandLasts : Stage → Exec → Execution (List Todo) Value → Type 0
  HandLasts Fresh n x = FreshLasts x ⊎
      ((k : KnowsEx t few n x) → Lasts (AtHand t few n k.sigs (x.run ∷ x.callers)))
  HandLasts Started n x = (k : KnowsEx t few n x) → Lasts (AtHand t few n k.sigs (x.run ∷ x.callers))
  HandLasts Ended n x = Unit {0}

  abbrev pub ExLasts : Exec → Execution (List Todo) Value → Type 0
  ExLasts n x = HandLasts x.links.stage n x

  -- of the running execution, all that its waiting activations have at hand, and all that it has where the newest one does more than to come to its end
  pub record RunLasts (given : List Ty) (s : State) (x : KnowsState t few given s) : Type 0 where
    pub waiting : Lasts (AtHand t few s.env.exec (others x.sigs) s.callers)
    pub operands : Lasts (AtHand t few s.env.exec x.sigs (s.run ∷ s.callers)) ⊎ AllSilent s.run.control

  -- of all executions of a task that do not run
  abbrev pub TaskLasts : State → Type 0
  TaskLasts s = EnvBy ExLasts s.env

-- all is known with other numbers, where all at hand lasts; and by kinds by which variables in scope hold what is known, where it does by all kinds
pub record LawFewer : Type 0 where
  pub lives : (t : Table) (few : Few) (numbers : Ty → ℕ → Bool) → KeepsOthers t few numbers → (given : List Ty) (s : State) →
      TaskLasts t few numbers s → Claimed (Lives t few) t few given s →
      ((k : KnowsState t few given s) → RunLasts t few numbers given s k) →
      Claimed (Lives t (with_numbers numbers few)) t (with_numbers numbers few) given s
  pub knows : (t : Table) (few : Few) (numbers : Ty → ℕ → Bool) → KeepsOthers t few numbers → (given : List Ty) (s : State) →
      TaskLasts t few numbers s → (x : KnowsState t few given s) → RunLasts t few numbers given s x →
      KnowsState t (with_numbers numbers few) given s
