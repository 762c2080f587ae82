-- The seats of what an execution has to clean up.
use Rattle.std.proofs.Common.{◌≡◌, ℕ, inl, inr, true, List, [], ◌∷◌, Some, sym, subst}
use Rattle.uc_tree.specs.Programs.{Program}
use Rattle.uc_tree.specs.Source as src
use Rattle.uc_tree.specs.Source.{Shape, Expr, CleanUp}
use Rattle.uc_machine.specs.declared.exec.Exec.{Exec}
use Rattle.uc_machine.specs.declared.exec.Owner.TheVariants.{Frame}
use Rattle.uc_machine.specs.Pieces as piece
use Rattle.uc_machine.specs.Pieces.{Value, Todo, Active}
use Rattle.uc_typing.specs.Typing.{Cell, Obj, Table, CleansAt}
use Rattle.uc_sound.specs.Tables.{table_of}
use Rattle.uc_life_laws.specs.Things.{AtVariable, AtField, InTodo}
use Rattle.uc_tasked_laws.specs.Seated.{EndsTask, OfScope, OfPart}
use Rattle.uc_tasked_laws.specs.Seats.{seat}
use Rattle.uc_tasked_laws.specs.SeatedStates.{Told, IsFree, AllHave, Kept}
use Rattle.uc_tasked_laws.specs.TaskedRuns.{AllKeep}
use Rattle.uc_tasked_laws.specs.TaskedLaws.{InScope, LawThings}

module _ (p : Program) (told : Told) (i : ℕ) (tasks : (table_of p).tasks i ≡ true) where
  abbrev t : Table
  t = table_of p

  task : (d : ℕ) → (t.routine d).this ≡ Some i → EndsTask p d
  task d e = record { class = i; this = e; tasks = tasks }

  module _ (n : Exec) (f : ℕ) (this : Value) where
    abbrev K : ℕ → Expr → Type 0
    K d e = Kept p told n f this d e

    scope_free : (c : CleanUp) (k : ℕ) → OfScope K c → CleansAt t (Cell (Obj i)) (src.Variable k) c → IsFree told (seat n f this (src.Variable k))
    scope_free (src.Destroys (src.OfObject (src.EndOn d written (src.Load e)))) k h c =
        subst (λ q. OfScope K (src.Destroys (src.OfObject (src.EndOn d written (src.Load q))))) (sym c.0) h (task d c.1)
    scope_free c k h x = absurd x

    part_free : (c : CleanUp) (s : Shape) (m : ℕ) → OfPart K c → CleansAt t (Cell (Obj i)) (src.OfObject (src.OwnField s m)) c → IsFree told (seat n f this (src.OfObject (src.OwnField s m)))
    part_free (src.Destroys (src.OfObject (src.EndOn d written (src.Load e)))) s m h c =
        subst (λ q. OfPart K (src.Destroys (src.OfObject (src.EndOn d written (src.Load q))))) (sym c.0) h (task d c.1)
    part_free c s m h x = absurd x

    abbrev In : Value → List Todo → Type 0
    In w todo = InTodo (AtVariable t (Frame n f) this) (AtField t (Frame n f) this) todo w (Cell (Obj i))

    in_list : (w : Value) (todo : List Todo) → AllHave K todo → In w todo → IsFree told w
    in_list w [] h m = absurd m
    in_list w (piece.Clean c ∷ todo) h (inl m) = subst (IsFree told) (sym m.2) (scope_free c m.0 h.0 m.1)
    in_list w (piece.Clean c ∷ todo) h (inr m) = in_list w todo h.1 m
    in_list w (piece.Part c ∷ todo) h (inl m) = subst (IsFree told) (sym m.3) (part_free c m.0 m.1 h.0 m.2)
    in_list w (piece.Part c ∷ todo) h (inr m) = in_list w todo h.1 m
    in_list w (x ∷ todo) h m = in_list w todo h.1 m

  in_stack : (n : Exec) (w : Value) (cs : List Active) → AllKeep p told n cs → InScope t n cs w (Cell (Obj i)) → IsFree told w
  in_stack n w [] h m = absurd m
  in_stack n w (a ∷ cs) h (inl m) = in_list n a.frame a.this w a.control h.0 m
  in_stack n w (a ∷ cs) h (inr m) = in_stack n w cs h.1 m

pub law_things : LawThings
law_things p told n cs h i tasks w m = in_stack p told i tasks n w cs h m
