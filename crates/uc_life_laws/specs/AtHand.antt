-- Who owes an object anything has it at hand, where all is known that executions can come by.
use Rattle.std.specs.Prelude.{◌≡◌, ℕ, ◌⊎◌, Bool, true, false, List, [], ◌∷◌}
use Rattle.uc_tree.specs.Source.{Source}
use Rattle.uc_machine.specs.declared.exec.Exec.{Exec}
use Rattle.uc_machine.specs.declared.exec.Home.TheVariants as home
use Rattle.uc_machine.specs.declared.exec.Stage.{Stage}
use Rattle.uc_machine.specs.declared.exec.Stage.TheVariants.{Fresh, Ended}
use Rattle.uc_machine.specs.Switches.{without}
use Rattle.uc_machine.specs.Monitors.{this_object}
use Rattle.uc_machine.specs.Pieces.{Object, Todo, Clean, EnterNow, MadeNow, SpawnNow, GoneNow, GiveUpNow, Active, State, Env}
use Rattle.uc_typing.specs.Typing.{Obj, Sig, Table}
use Rattle.uc_life_laws.specs.Things.{Few, Held}
use Rattle.uc_life_laws.specs.LifeStates.{EnvBy}
use Rattle.uc_life_laws.specs.Knowing.{AtHand, KnowsWaits, KnowsEx, KnowsState}
use Rattle.uc_depth_laws.specs.Entering.{Aspect, is_ending}
use Rattle.uc_depth_laws.specs.Owing.{Tests, entering, is_again, Ex, owed_all, owed_waiting, AllEntered, Engaged, Deep, Alone}

-- a mutex object is at hand of these activations, the newest first, with the kinds of their frames: it is known to them, or they build or
-- destroy it
abbrev pub IsAtHand : Table → Few → Exec → List Sig → List Active → ℕ → Type 0
IsAtHand t few n gs cs o = (c : ℕ) × (t.mutex c ≡ true) × Held t few (AtHand t few n gs cs) (Obj c) (Object o)

-- of an execution that does not run, and of activations that wait for one that does
pub record LawOwes : Type 0 where
  pub rests : (t : Table) (few : Few) (source : Source) (tells : Aspect → ℕ → Bool) (n : Exec) (x : Ex)
      (k : KnowsEx t few n x) → Engaged source tells x → (o : ℕ) →
      (owed_all o x ≡ 0) ⊎ IsAtHand t few n k.sigs (x.run ∷ x.callers) o
  pub waits : (t : Table) (few : Few) (source : Source) (tells : Aspect → ℕ → Bool) (n : Exec) (gs : List Sig)
      (cs : List Active) → KnowsWaits t few n gs cs → AllEntered source tells cs → (o : ℕ) →
      (owed_waiting o cs ≡ 0) ⊎ IsAtHand t few n gs cs o

-- no scope is open
abbrev pub NoScopes : List Todo → Type 0
NoScopes [] = Unit {0}
NoScopes (Clean c ∷ todo) = ⊥
NoScopes (p ∷ todo) = NoScopes todo

-- an execution has nothing to clean up, as one that has not begun
abbrev pub IsUnopened : Ex → Type 0
IsUnopened x = (x.callers ≡ []) × NoScopes x.run.control

module _ (t : Table) (few : Few) (o : ℕ) where
  -- an execution that does not run, and may go on, does not have the object at hand; one that has not begun has nothing to clean up
  abbrev pub FarBy : Stage → Exec → Ex → Type 0
  FarBy Fresh n x = IsUnopened x
  FarBy Ended n x = Unit {0}
  FarBy g n x = (k : KnowsEx t few n x) → IsAtHand t few n k.sigs (x.run ∷ x.callers) o → ⊥

  abbrev pub IsFar : Exec → Ex → Type 0
  IsFar n x = FarBy x.links.stage n x

-- just before an object is let go of however deep the task is, which is not its own one, none has it at hand that may go on and does not run, but for
-- such as are at home there; where a task enters one to destroy it in which it is already, the running execution is not at home there and none of its
-- activations has it at hand, and it is not the own one
module _ (t : Table) (few : Few) (source : Source) (s : State) (k : KnowsState t few [] s) where
  -- without what is at home in the object
  abbrev pub elsewhere : Env
  elsewhere = record s.env { hand = without (this_object s) s.env.hand }

  abbrev pub IsApartAt : List Todo → Type 0
  IsApartAt (EnterNow m r ∷ todo) =
      is_ending source r ≡ true → is_again source r s ≡ true →
      (s.env.exec.home ≡ home.Object (entering source r s) → ⊥) ×
      (IsAtHand t few s.env.exec k.sigs (s.run ∷ s.callers) (entering source r s) → ⊥) ×
      (s.env.own ≡ entering source r s → ⊥)
  IsApartAt (MadeNow ∷ todo) = (s.env.own ≡ this_object s → ⊥) → EnvBy (IsFar t few (this_object s)) elsewhere
  IsApartAt (SpawnNow r ∷ todo) = (s.env.own ≡ this_object s → ⊥) → EnvBy (IsFar t few (this_object s)) elsewhere
  IsApartAt (GoneNow ∷ todo) = (s.env.own ≡ this_object s → ⊥) → EnvBy (IsFar t few (this_object s)) elsewhere
  IsApartAt (GiveUpNow ∷ todo) = (s.env.own ≡ this_object s → ⊥) → EnvBy (IsFar t few (this_object s)) elsewhere
  IsApartAt todo = Unit {0}

  abbrev pub IsApart : Type 0
  IsApart = IsApartAt s.run.control

-- then nothing else is owed to it, where of the own object nothing is told
abbrev pub LawApart : Type 0
LawApart =
    (t : Table) (few : Few) (source : Source) (news : Tests) (s : State) →
    ((k : Aspect) → news s.env.exec.home k s.env.own ≡ false) →
    (k : KnowsState t few [] s) → Deep source news s → IsApart t few source s k → Alone source s
