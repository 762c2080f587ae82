-- Who has a mutex object at hand builds or destroys it, or has at hand that in which it is at home, or the object itself as one that is not whole.
use Rattle.std.specs.Prelude.{◌≡◌, ℕ, ◌⊎◌, true, List, [], ◌∷◌}
use Rattle.uc_tree.specs.Source.{Source}
use Rattle.uc_machine.specs.declared.exec.Exec.{Exec}
use Rattle.uc_machine.specs.declared.exec.Home.TheVariants as home
use Rattle.uc_machine.specs.declared.exec.Stage.{Stage}
use Rattle.uc_machine.specs.declared.exec.Stage.TheVariants.{Fresh, Ended}
use Rattle.uc_machine.specs.Monitors.{this_object}
use Rattle.uc_machine.specs.Pieces.{Value, Object, Todo, EnterNow, MadeNow, SpawnNow, GoneNow, GiveUpNow, Active, State}
use Rattle.uc_typing.specs.Typing.{Ty, Cell, Obj, Raw, Sig, Table}
use Rattle.uc_life_laws.specs.Things.{Few, Base, Things, Stands}
use Rattle.uc_life_laws.specs.LifeStates.{EnvBy}
use Rattle.uc_life_laws.specs.Knowing.{InMaking, KnowsEx, KnowsState}
use Rattle.uc_life_laws.specs.Rooted.{IsBase}
use Rattle.uc_depth_laws.specs.Entering.{is_ending}
use Rattle.uc_depth_laws.specs.Owing.{Ex, entering, is_again}
use Rattle.uc_life_laws.specs.AtHand.{IsUnopened, IsAtHand, elsewhere, IsApart}

module _ (t : Table) (few : Few) (o : ℕ) where
  -- these activations neither build nor destroy the object
  abbrev pub NotMaking : List Sig → List Active → Type 0
  NotMaking gs cs = (c : ℕ) → InMaking gs cs (Object o) (Raw c) → ⊥

  -- among these things is that in which it is at home, or it itself as one that is not whole
  abbrev pub HomeAt : (Value → Ty → Type 0) → ℕ → Type 0
  HomeAt K c = Stands t few K (Cell (Obj c)) (few.home o) ⊎ K (Object o) (Raw c)

  -- an execution does not have that at hand
  abbrev pub IsNoHome : (Value → Ty → Type 0) → Type 0
  IsNoHome K = (c : ℕ) → HomeAt K c → ⊥

  abbrev pub IsClear : Exec → List Sig → List Active → Type 0
  IsClear n gs cs = NotMaking gs cs × IsNoHome (Things t few n cs)

  -- so it is of an execution that does not run, and may go on; one that has not begun has nothing to clean up
  abbrev pub ClearBy : Stage → Exec → Ex → Type 0
  ClearBy Fresh n x = IsUnopened x
  ClearBy Ended n x = Unit {0}
  ClearBy g n x = (k : KnowsEx t few n x) → IsClear n k.sigs (x.run ∷ x.callers)

  abbrev pub ClearEx : Exec → Ex → Type 0
  ClearEx n x = ClearBy x.links.stage n x

-- so it is at a step of all of which it is asked that they do not have the object at hand that is let go of, or is entered again to be destroyed
module _ (t : Table) (few : Few) (source : Source) (s : State) (k : KnowsState t few [] s) where
  abbrev pub IsClearAt : List Todo → Type 0
  IsClearAt (EnterNow m r ∷ todo) =
      is_ending source r ≡ true → is_again source r s ≡ true →
      (s.env.exec.home ≡ home.Object (entering source r s) → ⊥) ×
      IsClear t few (entering source r s) s.env.exec k.sigs (s.run ∷ s.callers) ×
      (s.env.own ≡ entering source r s → ⊥)
  IsClearAt (MadeNow ∷ todo) = (s.env.own ≡ this_object s → ⊥) → EnvBy (ClearEx t few (this_object s)) (elsewhere t few source s k)
  IsClearAt (SpawnNow r ∷ todo) = (s.env.own ≡ this_object s → ⊥) → EnvBy (ClearEx t few (this_object s)) (elsewhere t few source s k)
  IsClearAt (GoneNow ∷ todo) = (s.env.own ≡ this_object s → ⊥) → EnvBy (ClearEx t few (this_object s)) (elsewhere t few source s k)
  IsClearAt (GiveUpNow ∷ todo) = (s.env.own ≡ this_object s → ⊥) → EnvBy (ClearEx t few (this_object s)) (elsewhere t few source s k)
  IsClearAt todo = Unit {0}

-- where executions have places alone of others, and objects that are not whole, who neither builds nor destroys an object, nor has at hand that in which it is
-- at home, or it itself as such a one, does not have it at hand; and so it is at a step
pub record LawClear : Type 0 where
  pub hand : (t : Table) (few : Few) → ((n : Exec) (w : Value) (b : Ty) → Base few n w b → IsBase w b) →
      (o : ℕ) (n : Exec) (gs : List Sig) (cs : List Active) → IsClear t few o n gs cs →
      IsAtHand t few n gs cs o → ⊥
  pub step : (t : Table) (few : Few) → ((n : Exec) (w : Value) (b : Ty) → Base few n w b → IsBase w b) →
      (source : Source) (s : State) (k : KnowsState t few [] s) → IsClearAt t few source s k s.run.control →
      IsApart t few source s k
