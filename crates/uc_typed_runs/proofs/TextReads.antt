-- What is read in plain objects that are variables in scope is right, since it is known.
use Rattle.std.proofs.Common.{◌≡◌, ℕ, ◌⊎◌, inl, inr, Bool, true, false, List, [], ◌∷◌, refl, ⊎_elim}
use Rattle.uc_tree.specs.Source.{Expr, OfObject, GetOwn}
use Rattle.uc_machine.specs.declared.exec.Exec.{Exec}
use Rattle.uc_machine.specs.declared.exec.Owner.TheVariants.{Frame, Fields}
use Rattle.uc_machine.specs.Pieces as piece
use Rattle.uc_machine.specs.Pieces.{FieldAt, Value, Number, Place, Running, Object, Nothing, Todo, State, further, loaded, top}
use Rattle.uc_typing.specs.Typing.{Ty, Num, Cell, Obj, Raw, Row, Clu, Pro, Name, Sig, Table}
use Rattle.uc_typing.specs.States.{Is}
use Rattle.uc_life_laws.specs.Things.{Few, IsBinding, IsTracked, IsSited, IsFew, LiesIn, Held, Known}
use Rattle.uc_life_laws.specs.Knowing.{IsOwn, Here}
use Rattle.uc_life_laws.specs.Opened.{any}
use Rattle.uc_life_laws.specs.FoundReads.{IsRightAs, IsFound, ReadsFound, ReadsAt}
use Rattle.uc_building_laws.specs.BuildingStates.{BuiltState}
use Rattle.uc_building_laws.specs.ScopedReads.{in_own, in_others}
use Rattle.uc_building_laws.proofs.ScopedReads.{own_known, others_are}
use Rattle.uc_typed_runs.specs.TextReads.{LiesRight, BoundRight, ReadsRight, ReadsRightAt}

module _ (t : Table) (n : Exec) (K : Value → Ty → Type 0) where
  held_there : (a : Ty) (v : Value) → IsOwn n v → LiesIn t any n K a v → Held t any K a v
  held_there a (Place (Frame x d) p) o l = l
  held_there a (Place (Fields q) p) o l = absurd o
  held_there a (Number z) o l = absurd o
  held_there a (Running x) o l = absurd o
  held_there a (Object q) o l = absurd o
  held_there a Nothing o l = absurd o

  -- a binding that is known is right
  known_right : (a : Ty) (v : Value) → IsBinding a → Known t any n K a v → IsRightAs t any n K a v
  known_right Num v i h = absurd i
  known_right (Cell Num) v i h = record { is = h.is; passes = h.passes; lies = λ o k. ⊎_elim (λ r. held_there (Cell Num) v o (h.rooted r)) (λ z. absurd z) k }
  known_right (Cell a) v i h = absurd i
  known_right (Obj c) v i h = record { is = h.is; passes = h.passes; lies = λ o k. ⊎_elim (λ r. held_there (Obj c) v o (h.rooted r)) (λ z. absurd z) k }
  known_right (Raw c) v i h = absurd i
  known_right (Row m a) v i h = absurd i
  known_right Clu v i h = record { is = h.is; passes = h.passes; lies = λ o k. ⊎_elim (λ r. absurd r) (λ z. absurd z) k }
  known_right Pro v i h = record { is = h.is; passes = h.passes; lies = λ o k. ⊎_elim (λ r. absurd r) (λ z. absurd z) k }

  -- so is one that lies right
  lying_right : (a : Ty) (v : Value) → IsBinding a → Is t a v × IsFew t any n a v → (IsOwn n v → IsTracked t a ⊎ IsSited a → Held t any K a v) → IsRightAs t any n K a v
  lying_right Num v i h l = absurd i
  lying_right (Cell a) v i h l = record { is = h.0; passes = h.1; lies = l }
  lying_right (Obj c) v i h l = record { is = h.0; passes = h.1; lies = l }
  lying_right (Raw c) v i h l = absurd i
  lying_right (Row m a) v i h l = absurd i
  lying_right Clu v i h l = record { is = h.0; passes = h.1; lies = l }
  lying_right Pro v i h l = record { is = h.0; passes = h.1; lies = l }

module _ (t : Table) (heads : ℕ → ℕ → Bool) (s : State) (x : BuiltState t heads any [] s) where
  all_found : (a : Ty) (v : Value) → IsFound t any x.0.sigs s a v → ReadsFound t any x.0.sigs s a v
  all_found a v h = record { foreign = λ o. h; ending = λ o r z. h; loose = λ o r l. h; field = λ o w b m i. h; making = λ o w c k i. h }

  bound_found : (a : Ty) (v : Value) (o : Bool) → in_own t s a v ≡ o → (u : Bool) → in_others t s a v ≡ u → BoundRight t x.0.sigs s o u a v → ReadsFound t any x.0.sigs s a v
  bound_found a v true e u f h =
      let k = own_known t heads any s x a v e in
      all_found a v (known_right t s.env.exec (Here t any x.0.sigs s) a (loaded v s.env) k.0 k.1)
  bound_found a v false e true f h =
      let k = others_are t heads any s x a v f in
      all_found a v (lying_right t s.env.exec (Here t any x.0.sigs s) a (loaded v s.env) k.0 k.1 h)
  bound_found a v false e false f h = h

  found_there : (a : Ty) (v : Value) → ReadsRight t x.0.sigs s a v → ReadsFound t any x.0.sigs s a v
  found_there a v h = bound_found a v (in_own t s a v) refl (in_others t s a v) refl h

  pub reads_found : (g : Sig) (sc : List Name) (l : List Todo) (own : List Ty) → ReadsRightAt t x.0.sigs s g sc l own → ReadsAt t any x.0.sigs s g sc l own
  reads_found g sc (piece.Eval (OfObject (GetOwn k i)) ∷ todo) own h = λ a y. found_there a (further (FieldAt k i) s.run.this) (h a y)
  reads_found g sc (piece.LoadNow ∷ todo) (Cell a ∷ more) h = found_there a (top s.run.operands) h
  reads_found g sc l own h = tt
