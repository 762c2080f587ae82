-- What is read within what is in scope stands there.
use Rattle.std.proofs.Common.{◌≡◌, ℕ, inl, inr, List, [], ◌∷◌, Bool, refl, sym, subst}
use Rattle.std.specs.Prelude.{if◌then◌else◌, slice_index_or}
use Rattle.uc_machine.specs.declared.exec.Exec.{Exec}
use Rattle.uc_machine.specs.declared.exec.Owner.{Owner}
use Rattle.uc_machine.specs.declared.exec.Owner.TheVariants.{Frame}
use Rattle.uc_machine.specs.Executions.{at_depth, list_in, frames_in, parked_at}
use Rattle.uc_machine.specs.Pieces as piece
use Rattle.uc_machine.specs.Pieces.{Link, Slot, Value, Number, Place, Running, Object, Nothing, Todo, Sort, Active, address, nought}
use Rattle.uc_typing.specs.Typing.{Ty, Cell, Obj, Row, Table}
use Rattle.uc_life_laws.specs.Things.{Few, IsMutex, Within, itself, field, element, AtVariable, Nowhere, Marks, InTodo, Variables}
use Rattle.uc_life_laws.specs.LifeStates.{frame_at}
use Rattle.uc_life_laws.proofs.LifeSteps.{exec_same}
use Rattle.uc_life_laws.proofs.HomedCells.{is_within}
use Rattle.uc_life_laws.specs.HomedStates.{Owns, Inside, IsAtHome, HoldsHome, MarkHomed, AllAtHome, HomedStack}
use Rattle.uc_life_laws.specs.HomedReading.{LawReading}

-- what lies within a thing has its owner

abbrev HasOwner : Owner → Value → Type 0
HasOwner o (Number z) = ⊥
HasOwner o (Place p l) = p ≡ o
HasOwner o (Running x) = ⊥
HasOwner o (Object q) = ⊥
HasOwner o Nothing = ⊥

further_owner : (o : Owner) (l : Link) (v : Value) → HasOwner o v → HasOwner o (piece.further l v)
further_owner o l (Number z) h = absurd h
further_owner o l (Place p q) h = h
further_owner o l (Running x) h = absurd h
further_owner o l (Object q) h = absurd h
further_owner o l Nothing h = absurd h

owner_of : (t : Table) (o : Owner) (w : Value) (a : Ty) (v : Value) (b : Ty) → HasOwner o w → Within t w a v b → HasOwner o v
owner_of t o w a v b h itself = h
owner_of t o w a v b h (field {v = u} {c} k i f) = further_owner o _ u (owner_of t o w a u (Obj c) h k)
owner_of t o w a v b h (element {v = u} {m} {b = d} k j l) = further_owner o _ u (owner_of t o w a u (Row m d) h k)

same_frame : (x y : Exec) (d e : ℕ) → Frame x d ≡ Frame y e → d ≡ e
same_frame x y d e h = cc

module _ (t : Table) (owns : Owns) (few : Few) (n : Exec) (fs : List (List Value)) (d : ℕ) (p : List Link) (b : Ty) (m : IsMutex t b) where
  abbrev Stands : Type 0
  Stands = IsAtHome t owns few n (slice_index_or (frame_at d fs) (address p) nought) (Place (Frame n d) p)

  at_thing : (f k : ℕ) (a : Ty) → HoldsHome t owns few n (Frame n f) (frame_at f fs) (Place (Frame n f) (Slot k ∷ [])) a → Inside t owns (Place (Frame n f) (Slot k ∷ [])) a (Place (Frame n d) p) (Cell b) → Stands
  at_thing f k a h w =
      let o : Frame n d ≡ Frame n f = owner_of t (Frame n f) (Place (Frame n f) (Slot k ∷ [])) a (Place (Frame n d) p) (Cell b) refl (is_within t owns (Place (Frame n f) (Slot k ∷ [])) a (Place (Frame n d) p) (Cell b) w) in
      let e : d ≡ f = same_frame n n d f o in
      subst (λ e. IsAtHome t owns few n (slice_index_or (frame_at e fs) (address p) nought) (Place (Frame n e) p)) (sym e) (h p b (subst (λ e. Inside t owns (Place (Frame n f) (Slot k ∷ [])) a (Place (Frame n e) p) (Cell b)) e w) m)

  module _ (f : ℕ) (this : Value) (older : List Active) (w : Value) (a : Ty) where
    from_mark : (s : Sort) (todo : List Todo) → MarkHomed t owns few n (frame_at f fs) f this older s todo (AllAtHome t owns few n (frame_at f fs) f this older todo) → Marks (AtVariable t (Frame n f) this) (Nowhere (Frame n f) this) s w a (InTodo (AtVariable t (Frame n f) this) (Nowhere (Frame n f) this) todo w a) → (AllAtHome t owns few n (frame_at f fs) f this older todo → InTodo (AtVariable t (Frame n f) this) (Nowhere (Frame n f) this) todo w a → Stands) → Inside t owns w a (Place (Frame n d) p) (Cell b) → Stands
    from_mark (piece.IsClean c) todo h (inl x) next y = at_thing f x.0 a (h.0 x.0 a x.1) (subst (λ w. Inside t owns w a (Place (Frame n d) p) (Cell b)) x.2 y)
    from_mark (piece.IsClean c) todo h (inr x) next y = next h.1 x
    from_mark (piece.IsPart c) todo h (inl x) next y = absurd x
    from_mark (piece.IsPart c) todo h (inr x) next y = next h x
    from_mark piece.Simple todo h x next y = next h x
    from_mark (piece.IsLoop o z q r) todo h x next y = next h x
    from_mark piece.IsWhole todo h x next y = next h x
    from_mark (piece.IsFill z q r) todo h x next y = next h x
    from_mark (piece.IsSweep z) todo h x next y = next h x
    from_mark (piece.IsGuard z) todo h x next y = next h x
    from_mark piece.IsFinish todo h x next y = next h x
    from_mark piece.IsFinishCoroutine todo h x next y = next h x

    from_todo : (todo : List Todo) → AllAtHome t owns few n (frame_at f fs) f this older todo → InTodo (AtVariable t (Frame n f) this) (Nowhere (Frame n f) this) todo w a → Inside t owns w a (Place (Frame n d) p) (Cell b) → Stands
    from_todo [] h x y = absurd x
    from_todo (q ∷ todo) h x y = from_mark (piece.sort q) todo h x (λ h x. from_todo todo h x y) y

  from_variables : (w : Value) (a : Ty) (cs : List Active) → HomedStack t owns few n fs cs → Variables t n cs w a → Inside t owns w a (Place (Frame n d) p) (Cell b) → Stands
  from_variables w a [] h x y = absurd x
  from_variables w a (c ∷ older) h (inl x) y = from_todo c.frame c.this older w a c.control h.1 x y
  from_variables w a (c ∷ older) h (inr x) y = from_variables w a older h.2 x y

pub law_reading : LawReading
law_reading t owns few s st w a x d p b y m =
    subst (λ (c : Bool). IsAtHome t owns few s.env.exec (slice_index_or (list_in (at_depth (if c then s.env.frames else frames_in (parked_at s.env.exec s.env)) d)) (address p) nought) (Place (Frame s.env.exec d) p)) (sym (exec_same s.env.exec)) (from_variables t owns few s.env.exec s.env.frames d p b m w a (s.run ∷ s.callers) st.stack x y)
