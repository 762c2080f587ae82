-- At what a task an event is raised that is known by its number: at one that is at home in what is at hand, at what the execution has of others,
-- or at what it is building or destroying.
use Rattle.std.specs.Prelude.{◌≡◌, ℕ, ◌⊎◌, true, List, [], ◌∷◌}
use Rattle.uc_machine.specs.declared.exec.Exec.{Exec}
use Rattle.uc_machine.specs.Pieces.{Object, Todo, RaiseAtNow, Active, State, top}
use Rattle.uc_typing.specs.Typing.{Cell, Obj, Raw, Sig, Table}
use Rattle.uc_life_laws.specs.Things.{Few, Base, Stands}
use Rattle.uc_life_laws.specs.Knowing.{AtHand, InMaking, KnowsState}

abbrev pub IsAimed : Table → Few → Exec → List Sig → List Active → ℕ → ℕ → Type 0
IsAimed t few n gs cs i o =
    Stands t few (AtHand t few n gs cs) (Cell (Obj i)) (few.home o) ⊎
    ((Base few n (Object o) (Obj i) ⊎ Base few n (Object o) (Raw i)) ⊎ InMaking gs cs (Object o) (Raw i))

-- so it is in a state in which all is known, and it is of a class of tasks
abbrev pub LawAimed : Type 0
LawAimed =
    (t : Table) (few : Few) (s : State) (x : KnowsState t few [] s) (todo : List Todo) →
    s.run.control ≡ RaiseAtNow ∷ todo → (o : ℕ) → top s.run.operands ≡ Object o →
    (i : ℕ) × (t.tasks i ≡ true) × IsAimed t few s.env.exec x.sigs (s.run ∷ s.callers) i o
