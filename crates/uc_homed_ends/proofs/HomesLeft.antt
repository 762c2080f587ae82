-- What is loaded to be destroyed is an object: what is entered so is one of a mutex class, by any typing. So nothing is left to find of homes.
use Rattle.std.proofs.Common.{◌≡◌, ℕ, Bool, true, false, List, [], ◌∷◌, refl, sym, subst}
use Rattle.uc_machine.specs.Pieces.{Value, Number, Place, Running, Object, Nothing, Todo, LoadNow, State, loaded, top}
use Rattle.uc_typing.specs.Typing.{Ty, Num, Cell, Obj, Raw, Row, Clu, Pro, Table, object_ty}
use Rattle.uc_typing.specs.Pieces.{Ok, onto}
use Rattle.uc_typing.specs.States.{IsNumbered, IsObjectBy}
use Rattle.uc_life_laws.specs.Things.{Few}
use Rattle.uc_life_laws.specs.HomedStates.{Owns}
use Rattle.uc_life_laws.specs.Knowing.{ReadsKnown, Finds}
use Rattle.uc_putting_laws.specs.Putting.{Setting, IsEnding}
use Rattle.uc_homed_ends.specs.EndWays as ways
use Rattle.uc_homed_ends.specs.EndWays.{NowState}
use Rattle.uc_homed_ends.specs.HomedEnds.{RestAt, Rest}
use Rattle.uc_homed_ends.specs.HomesLeft.{KnowsReads}
use Rattle.uc_homed_ends.proofs.EndReads.{Reading, reading_of}
use Rattle.uc_homed_ends.proofs.EndHomes.{HomedHere}

numbered : (v : Value) → IsNumbered v → (o : ℕ) × (v ≡ Object o)
numbered (Number z) h = absurd h
numbered (Place o p) h = absurd h
numbered (Running e) h = absurd h
numbered (Object o) h = (o, refl)
numbered Nothing h = absurd h

first_type : (a b : Ty) (xs ys : List Ty) → a ∷ xs ≡ b ∷ ys → a ≡ b
first_type a b xs ys e = cc

module _ (t : Table) (few : Few) (s : State) (r : ℕ) (whole : (t.routine r).whole ≡ true) (params : [] ≡ (t.routine r).params) (x : KnowsReads t few s) where
  abbrev AnObject : Type 0
  AnObject = (o : ℕ) × (loaded (top s.run.operands) s.env ≡ Object o)

  -- what stands at the place is of the class
  of_class : (c : ℕ) → t.mutex c ≡ true → ReadsKnown t few x.0.sigs s (Raw c) (top s.run.operands) → AnObject
  of_class c mutex h =
      let known = h.untracked (λ m. m) (λ m. m) in
      let it : IsObjectBy t (t.mutex c) c (loaded (top s.run.operands) s.env) = known.is in
      numbered (loaded (top s.run.operands) s.env) (subst (λ b. IsObjectBy t b c (loaded (top s.run.operands) s.env)) mutex it)

  of_operand : (c : ℕ) (a : Ty) (more others : List Ty) → t.mutex c ≡ true → a ∷ more ≡ onto (t.routine r).params (object_ty (t.routine r).whole c ∷ others) → ReadsKnown t few x.0.sigs s a (top s.run.operands) → AnObject
  of_operand c a more others mutex e h =
      let none : a ∷ more ≡ object_ty (t.routine r).whole c ∷ others = subst (λ ps. a ∷ more ≡ onto ps (object_ty (t.routine r).whole c ∷ others)) (sym params) e in
      let raw : a ∷ more ≡ Raw c ∷ others = subst (λ b. a ∷ more ≡ object_ty b c ∷ others) whole none in
      of_class c mutex (subst (λ a. ReadsKnown t few x.0.sigs s a (top s.run.operands)) (first_type a (Raw c) more others raw) h)

  module _ (todo : List Todo) where
    abbrev Typed : Bool → List Ty → Type 0
    Typed b own = Ok t x.0.run.sig x.0.run.base x.0.run.scope (LoadNow ∷ ways.entering r b todo) own

    abbrev Found : Bool → List Ty → Type 0
    Found b own = Finds t few x.0.sigs x.0.run.sig x.0.run.scope s (LoadNow ∷ ways.entering r b todo) own

    loaded_by : (b : Bool) (own : List Ty) → Typed b own → Found b own → AnObject
    loaded_by true (Cell a ∷ more) h f = let e = h.1 in of_operand e.1 a more e.0 e.3 e.2.0 f
    loaded_by false (Cell a ∷ more) h f = let e = h.1 in of_operand e.1 a more e.0 e.3 e.2.0 f
    loaded_by b [] h f = absurd h
    loaded_by b (Num ∷ more) h f = absurd h
    loaded_by b (Obj c ∷ more) h f = absurd h
    loaded_by b (Raw c ∷ more) h f = absurd h
    loaded_by b (Row n a ∷ more) h f = absurd h
    loaded_by b (Clu ∷ more) h f = absurd h
    loaded_by b (Pro ∷ more) h f = absurd h

    is_object : (b : Bool) → s.run.control ≡ LoadNow ∷ ways.entering r b todo → AnObject
    is_object b c =
        loaded_by b x.0.run.own (subst (λ l. Ok t x.0.run.sig x.0.run.base x.0.run.scope l x.0.run.own) c x.0.run.ok) (subst (λ l. Finds t few x.0.sigs x.0.run.sig x.0.run.scope s l x.0.run.own) c x.1)

-- so where all is known, and what is loaded is at home there, the rest is found
module _ (g : Setting) (owns : Owns) (Z : ℕ → ℕ → Type 0) (s : State) where
  abbrev pub HomeRead : Type 0
  HomeRead = (todo : List Todo) → s.run.control ≡ LoadNow ∷ todo → IsEnding todo → (o : ℕ) → loaded (top s.run.operands) s.env ≡ Object o → g.few.home o ≡ top s.run.operands

  pub rest_here : NowState g.table (HomedHere g.table owns g.few Z) s → HomeRead → KnowsReads g.table g.few s → Rest g s
  rest_here now home x = by s.run.control refl
    where
      at_read : (y : Reading g.table (HomedHere g.table owns g.few Z) s) → (o : ℕ) × (loaded (top s.run.operands) s.env ≡ Object o)
      at_read y = is_object g.table g.few s y.routine y.whole y.params x y.behind y.written y.control

      by : (l : List Todo) → s.run.control ≡ l → RestAt g l s
      by (LoadNow ∷ todo) c = λ e y.
          let o = at_read (reading_of g.table (HomedHere g.table owns g.few Z) s todo c e now.run) in
          record { number = o.0; object = o.1; home = home todo c e o.0 o.1 }
      by [] c = tt
      by (p ∷ todo) c = tt
