-- What is read in what is in scope is known: in a variable of the running execution, and in one of another execution, by what is claimed of that.
use Rattle.std.proofs.Common.{◌≡◌, ℕ, ◌<◌, ◌≤◌, ◌⊎◌, inl, inr, Bool, true, false, List, [], ◌∷◌, Option, Some, None, refl, sym, ap, ◌∙◌, subst, ⊎_elim, arith}
use Rattle.std.specs.Prelude.{◌&&◌, ◌||◌, not, nat_eq, nat_lt, slice_index_or, if◌then◌else◌}
use Rattle.std.proofs.lemmas.Bool.{eqb-true, ltb-true}
use Rattle.uc_tree.specs.Source as src
use Rattle.uc_tree.specs.Source.{Shape, CleanUp}
use Rattle.uc_machine.specs.declared.exec.Exec.{Exec}
use Rattle.uc_machine.specs.declared.exec.Owner.{Owner}
use Rattle.uc_machine.specs.declared.exec.Owner.TheVariants.{Frame}
use Rattle.uc_machine.specs.declared.exec.Stage.{Stage}
use Rattle.uc_machine.specs.declared.exec.Stage.TheVariants.{Fresh, Started, Ended}
use Rattle.uc_machine.specs.Executions.{Execution, exec_eq, at_depth, list_in, frames_in, parked_at}
use Rattle.uc_machine.specs.Pieces as piece
use Rattle.uc_machine.specs.Pieces.{Link, Slot, FieldAt, At, Value, Number, Place, Running, Object, Nothing, Todo, Sort, Active, State, loaded, address, nought}
use Rattle.uc_typing.specs.Typing.{Ty, Num, Cell, Obj, Raw, Row, Clu, Pro, Sig, Table, CleansAt, element_shape}
use Rattle.uc_typing.specs.States.{Is}
use Rattle.uc_life_laws.specs.Things.{Few, IsField, IsBinding, Within, itself, field, element, AtVariable, Nowhere, Marks, InTodo, Variables, Known, IsFew}
use Rattle.uc_life_laws.specs.LifeStates.{frame_at, SlotBy}
use Rattle.uc_life_laws.specs.Lives.{OutwardsOrMade}
use Rattle.uc_life_laws.specs.Knowing.{Here, VariablesKnown, ClaimsEx, ClaimsBy, ClaimsSlot}
use Rattle.uc_life_laws.proofs.Knowns.{frames_length}
use Rattle.uc_life_laws.proofs.LivesLemmas.{made_behind, lives_read}
use Rattle.uc_life_laws.proofs.Parked.{parked_rests}
use Rattle.uc_life_laws.proofs.Reading.{exec_is, from_variables}
use Rattle.uc_sound.proofs.Lists.{left_is, right_is}
use Rattle.uc_building_laws.specs.BuildingStates.{Built, BuiltState}
use Rattle.uc_building_laws.specs.BuiltReads.{ended_class}
use Rattle.uc_building_laws.specs.ScopedReads.{same_shape, same_type, is_bound, Typed, cell_of, one_at, many_at, ended_variable, is_field, field_type, element_type, path_type, is_type, variable_has, mark_has, todo_has, stack_has, is_up, parked_has, in_own, in_others, LawScopedReads}
use Rattle.uc_building_laws.proofs.BuiltReads.{ended_is}

-- tests

either_is : (a b : Bool) → (a || b) ≡ true → (a ≡ true) ⊎ (b ≡ true)
either_is true b h = inl refl
either_is false b h = inr h

pub not_is : (b : Bool) → not b ≡ true → b ≡ false
not_is true h = absurd (cc)
not_is false h = refl

-- what a test gives, where it gives something
if_some : {A : Type 0} (b : Bool) (x y : A) → (if b then Some x else None) ≡ Some y → (b ≡ true) × (x ≡ y)
if_some true x y h = (refl, some_is x y h)
  where
    some_is : {A : Type 0} (x y : A) → Some x ≡ Some y → x ≡ y
    some_is x y h = cc
if_some false x y h = absurd (cc)

shape_is : (s r : Shape) → same_shape s r ≡ true → s ≡ r
shape_is src.Integer src.Integer h = refl
shape_is src.Character src.Character h = refl
shape_is src.Truth src.Truth h = refl
shape_is src.Binding src.Binding h = refl
shape_is src.Last src.Last h = refl
shape_is (src.Field a b) (src.Field c d) h =
    let e : a ≡ c = shape_is a c (left_is (same_shape a c) (same_shape b d) h) in
    let f : b ≡ d = shape_is b d (right_is (same_shape a c) (same_shape b d) h) in
    cc
shape_is (src.Array n a) (src.Array m b) h =
    let e : n ≡ m = eqb-true n m (left_is (nat_eq n m) (same_shape a b) h) in
    let f : a ≡ b = shape_is a b (right_is (nat_eq n m) (same_shape a b) h) in
    cc
shape_is s r h = absurd (cc)

pub type_is : (a b : Ty) → same_type a b ≡ true → a ≡ b
type_is Num Num h = refl
type_is (Cell a) (Cell b) h = ap Cell (type_is a b h)
type_is (Obj c) (Obj d) h = ap Obj (eqb-true c d h)
type_is (Raw c) (Raw d) h = ap Raw (eqb-true c d h)
type_is (Row n a) (Row m b) h =
    let e : n ≡ m = eqb-true n m (left_is (nat_eq n m) (same_type a b) h) in
    let f : a ≡ b = type_is a b (right_is (nat_eq n m) (same_type a b) h) in
    cc
type_is Clu Clu h = refl
type_is Pro Pro h = refl
type_is a b h = absurd (cc)

pub bound_is : (a : Ty) → is_bound a ≡ true → IsBinding a
bound_is (Cell Num) h = tt
bound_is (Obj c) h = tt
bound_is Clu h = tt
bound_is Pro h = tt
bound_is a h = absurd (cc)

-- what a clean-up is for

one_is : (f : ℕ → Ty) (k : ℕ) (o : Option ℕ) (x : Typed) → one_at f k o ≡ Some x → (c : ℕ) × (o ≡ Some c) × ((k, f c) ≡ x)
one_is f k None x h = absurd (cc)
one_is f k (Some c) x h = (c, refl, (if_some true (k, f c) x h).1)

module _ (t : Table) where
  many_is : (f : ℕ → Ty) (n m : ℕ) (s : Shape) (k : ℕ) (o : Option ℕ) (x : Typed) → many_at t f n m s k o ≡ Some x → (c : ℕ) × (o ≡ Some c) × (n ≡ m) × (s ≡ element_shape t (f c)) × ((k, Row m (f c)) ≡ x)
  many_is f n m s k None x h = absurd (cc)
  many_is f n m s k (Some c) x h =
      let e = if_some (nat_eq n m && same_shape s (element_shape t (f c))) (k, Row m (f c)) x h in
      (c, refl, eqb-true n m (left_is (nat_eq n m) (same_shape s (element_shape t (f c))) e.0), shape_is s (element_shape t (f c)) (right_is (nat_eq n m) (same_shape s (element_shape t (f c))) e.0), e.1)

  same_element : (n m : ℕ) (s r : Shape) (k : ℕ) → n ≡ m → s ≡ r → src.Element m r (src.Variable k) (src.OfObject src.Counted) ≡ src.Element n s (src.Variable k) (src.OfObject src.Counted)
  same_element n m s r k e f = cc

  abbrev Cleans : CleanUp → Typed → Type 0
  Cleans c x = CleansAt t x.1 (src.Variable x.0) c

  variable_cleans : (c : CleanUp) (x : Typed) → ended_variable t c ≡ Some x → Cleans c x
  variable_cleans (src.Destroys (src.OfObject (src.CallOn d (src.Variable k) args))) x h =
      let o = one_is Obj k (ended_class (t.routine d)) x h in
      let e = ended_is (t.routine d) o.0 o.1 in
      subst (Cleans (src.Destroys (src.OfObject (src.CallOn d (src.Variable k) args)))) o.2 (refl, e.0, e.1)
  variable_cleans (src.Destroys (src.OfObject (src.CallUnwritten d (src.Variable k)))) x h =
      let o = one_is Obj k (ended_class (t.routine d)) x h in
      let e = ended_is (t.routine d) o.0 o.1 in
      subst (Cleans (src.Destroys (src.OfObject (src.CallUnwritten d (src.Variable k))))) o.2 (refl, e.0, e.1)
  variable_cleans (src.Destroys (src.OfObject (src.EndOn d written (src.Load (src.Variable k))))) x h =
      let o = one_is cell_of k (ended_class (t.routine d)) x h in
      let e = ended_is (t.routine d) o.0 o.1 in
      subst (Cleans (src.Destroys (src.OfObject (src.EndOn d written (src.Load (src.Variable k)))))) o.2 (refl, e.0, e.1)
  variable_cleans (src.DestroysAll m (src.OfObject (src.CallOn d (src.Element n s (src.Variable k) (src.OfObject src.Counted)) args))) x h =
      let o = many_is Obj n m s k (ended_class (t.routine d)) x h in
      let e = ended_is (t.routine d) o.0 o.1 in
      subst (Cleans (src.DestroysAll m (src.OfObject (src.CallOn d (src.Element n s (src.Variable k) (src.OfObject src.Counted)) args)))) o.4 (refl, (same_element n m s (t.shape o.0) k o.2 o.3, e.0, e.1))
  variable_cleans (src.DestroysAll m (src.OfObject (src.CallUnwritten d (src.Element n s (src.Variable k) (src.OfObject src.Counted))))) x h =
      let o = many_is Obj n m s k (ended_class (t.routine d)) x h in
      let e = ended_is (t.routine d) o.0 o.1 in
      subst (Cleans (src.DestroysAll m (src.OfObject (src.CallUnwritten d (src.Element n s (src.Variable k) (src.OfObject src.Counted)))))) o.4 (refl, (same_element n m s (t.shape o.0) k o.2 o.3, e.0, e.1))
  variable_cleans (src.DestroysAll m (src.OfObject (src.EndOn d written (src.Load (src.Element n s (src.Variable k) (src.OfObject src.Counted)))))) x h =
      let o = many_is cell_of n m s k (ended_class (t.routine d)) x h in
      let e = ended_is (t.routine d) o.0 o.1 in
      subst (Cleans (src.DestroysAll m (src.OfObject (src.EndOn d written (src.Load (src.Element n s (src.Variable k) (src.OfObject src.Counted))))))) o.4 (refl, (same_element n m s src.Binding k o.2 o.3, e.0, e.1))
  variable_cleans c x h = absurd (cc)

  -- what lies at a path in a variable

  field_there : (c i : ℕ) → is_field t c i ≡ true → IsField t c i
  field_there c i h e = by (t.executes c) e h
    where
      by : (b : Bool) → b ≡ true → (if b then nat_lt 0 i else true) ≡ true → 1 ≤ i
      by true q h = let l = ltb-true 0 i h in omega (arith, l)
      by false q h = absurd (cc)

  pub field_typed : (s : Shape) (i : ℕ) (q : Option Ty) (b : Ty) → field_type t s i q ≡ Some b → (c : ℕ) × (q ≡ Some (Obj c)) × (s ≡ t.shape c) × IsField t c i × (t.fields c i ≡ b)
  field_typed s i (Some (Obj c)) b h =
      let e = if_some (same_shape s (t.shape c) && is_field t c i) (t.fields c i) b h in
      (c, refl, shape_is s (t.shape c) (left_is (same_shape s (t.shape c)) (is_field t c i) e.0), field_there c i (right_is (same_shape s (t.shape c)) (is_field t c i) e.0), e.1)
  field_typed s i q b h = absurd (cc)

  pub element_typed : (s : Shape) (j : ℕ) (q : Option Ty) (b : Ty) → element_type t s j q ≡ Some b → (m : ℕ) × (q ≡ Some (Row m b)) × (s ≡ element_shape t b) × (j < m)
  element_typed s j (Some (Row m d)) b h =
      let e = if_some (same_shape s (element_shape t d) && nat_lt j m) d b h in
      (m, ap (λ d. Some (Row m d)) e.1, shape_is s (element_shape t d) (left_is (same_shape s (element_shape t d)) (nat_lt j m) e.0) ∙ ap (element_shape t) e.1, ltb-true j m (right_is (same_shape s (element_shape t d)) (nat_lt j m) e.0))
  element_typed s j q b h = absurd (cc)

  module _ (o : Owner) (x : Typed) where
    abbrev Lies : List Link → Ty → Type 0
    Lies p b = Within t (Place o (Slot x.0 ∷ [])) x.1 (Place o p) b

    at_path : (p : List Link) (b : Ty) → path_type t x p ≡ Some b → Lies p b
    at_path [] b h = absurd (cc)
    at_path (Slot j ∷ []) b h =
        let e = if_some (nat_eq j x.0) x.1 b h in
        subst (λ k. Lies (Slot k ∷ []) b) (sym (eqb-true j x.0 e.0)) (subst (Lies (Slot x.0 ∷ [])) e.1 itself)
    at_path (Slot j ∷ (l ∷ p)) b h = absurd (cc)
    at_path (FieldAt s i ∷ p) b h =
        let f = field_typed s i (path_type t x p) b h in
        subst (λ r. Lies (FieldAt r i ∷ p) b) (sym f.2) (subst (Lies (FieldAt (t.shape f.0) i ∷ p)) f.4 (field (at_path p (Obj f.0) f.1) i f.3))
    at_path (At s j ∷ p) b h =
        let f = element_typed s j (path_type t x p) b h in
        subst (λ r. Lies (At r j ∷ p) b) (sym f.2) (element (at_path p (Row f.0 b) f.1) j f.3)

    of_type : (p : List Link) (b : Ty) (q : Option Ty) → path_type t x p ≡ q → is_type t b q ≡ true → Lies p b
    of_type p b None e h = absurd (cc)
    of_type p b (Some a) e h = subst (Lies p) (type_is a b h) (at_path p a e)

  -- so it lies in a variable of these activations

  module _ (n : Exec) (d : ℕ) (p : List Link) (b : Ty) where
    -- a thing that is of `V`, and what lies in it there
    pub record In (V : Value → Ty → Type 0) : Type 0 where
      pub thing : Value
      pub type : Ty
      pub there : V thing type
      pub within : Within t thing type (Place (Frame n d) p) b

    in_more : (V W : Value → Ty → Type 0) → ((w : Value) (a : Ty) → V w a → W w a) → In V → In W
    in_more V W more h = record { thing = h.thing; type = h.type; there = more h.thing h.type h.there; within = h.within }

    in_variable : (this : Value) (c : CleanUp) (q : Option Typed) → ended_variable t c ≡ q → variable_has t b p q ≡ true → In (AtVariable t (Frame n d) this c)
    in_variable this c None e h = absurd (cc)
    in_variable this c (Some x) e h = record {
      thing = Place (Frame n d) (Slot x.0 ∷ []);
      type = x.1;
      there = (x.0, variable_cleans c x e, refl);
      within = of_type (Frame n d) x p b (path_type t x p) refl h;
    }

    abbrev In_todo : Value → List Todo → Value → Ty → Type 0
    In_todo this todo w a = InTodo (AtVariable t (Frame n d) this) (Nowhere (Frame n d) this) todo w a

    abbrev In_mark : Value → Sort → List Todo → Value → Ty → Type 0
    In_mark this k todo w a = Marks (AtVariable t (Frame n d) this) (Nowhere (Frame n d) this) k w a (In_todo this todo w a)

    in_mark : (this : Value) (k : Sort) (todo : List Todo) → (todo_has t b p todo ≡ true → In (In_todo this todo)) → (mark_has t b p k || todo_has t b p todo) ≡ true → In (In_mark this k todo)
    in_mark this (piece.IsClean c) todo next h =
        ⊎_elim (λ l. in_more (AtVariable t (Frame n d) this c) (In_mark this (piece.IsClean c) todo) (λ w a m. inl m) (in_variable this c (ended_variable t c) refl l)) (λ r. in_more (In_todo this todo) (In_mark this (piece.IsClean c) todo) (λ w a m. inr m) (next r)) (either_is (variable_has t b p (ended_variable t c)) (todo_has t b p todo) h)
    in_mark this (piece.IsPart c) todo next h = in_more (In_todo this todo) (In_mark this (piece.IsPart c) todo) (λ w a m. inr m) (next h)
    in_mark this piece.Simple todo next h = next h
    in_mark this (piece.IsLoop o x y z) todo next h = next h
    in_mark this piece.IsWhole todo next h = next h
    in_mark this (piece.IsFill x y z) todo next h = next h
    in_mark this (piece.IsSweep x) todo next h = next h
    in_mark this (piece.IsGuard x) todo next h = next h
    in_mark this piece.IsFinish todo next h = next h
    in_mark this piece.IsFinishCoroutine todo next h = next h

    in_todo : (this : Value) (todo : List Todo) → todo_has t b p todo ≡ true → In (In_todo this todo)
    in_todo this [] h = absurd (cc)
    in_todo this (x ∷ todo) h = in_mark this (piece.sort x) todo (in_todo this todo) h

    pub in_stack : (cs : List Active) → stack_has t b p d cs ≡ true → In (Variables t n cs)
    in_stack [] h = absurd (cc)
    in_stack (c ∷ older) h =
        ⊎_elim (λ l. in_more (In_todo c.this c.control) (Variables t n (c ∷ older)) (λ w a m. inl (subst (λ f. InTodo (AtVariable t (Frame n f) c.this) (Nowhere (Frame n f) c.this) c.control w a) (sym (eqb-true c.frame d (left_is (nat_eq c.frame d) (todo_has t b p c.control) l))) m)) (in_todo c.this c.control (right_is (nat_eq c.frame d) (todo_has t b p c.control) l))) (λ r. in_more (Variables t n older) (Variables t n (c ∷ older)) (λ w a m. inr m) (in_stack older r)) (either_is (nat_eq c.frame d && todo_has t b p c.control) (stack_has t b p d older) h)

-- whatever is at hand
abbrev All : Value → Ty → Type 0
All w a = Unit {0}

module _ (t : Table) (few : Few) where
  -- numbers are those of any execution
  few_is : (n m : Exec) (a : Ty) (v : Value) → IsFew t few n a v → IsFew t few m a v
  few_is n m a (Number z) h = tt
  few_is n m a (Place o p) h = tt
  few_is n m a (Running e) h = tt
  few_is n m a (Object o) h = h
  few_is n m a Nothing h = tt

  -- what another one knows is of its type
  another_is : (n m : Exec) (a : Ty) (v : Value) → IsBinding a → Known t few n All a v → Is t a v × IsFew t few m a v
  another_is n m Num v i h = absurd i
  another_is n m (Cell a) v i h = (h.is, few_is n m (Cell a) v h.passes)
  another_is n m (Obj c) v i h = (h.is, few_is n m (Obj c) v h.passes)
  another_is n m (Raw c) v i h = absurd i
  another_is n m (Row k a) v i h = absurd i
  another_is n m Clu v i h = (h.is, few_is n m Clu v h.passes)
  another_is n m Pro v i h = (h.is, few_is n m Pro v h.passes)

module _ (t : Table) (heads : ℕ → ℕ → Bool) (few : Few) (s : State) (x : BuiltState t heads few [] s) where
  abbrev gs : List Sig
  gs = x.0.sigs

  abbrev Near : Value → Ty → Type 0
  Near w a = Here t few gs s w a

  read : VariablesKnown t few gs s
  read = lives_read t few s gs (frames_length t few s.env.exec gs s.env.frames (s.run ∷ s.callers) x.0.frames) x.1.0

  pub own_known : (a : Ty) (v : Value) → in_own t s a v ≡ true → IsBinding a × Known t few s.env.exec Near a (loaded v s.env)
  own_known a (Place (Frame n d) p) h =
      let b = bound_is a (left_is (is_bound a) (exec_eq n s.env.exec && stack_has t (Cell a) p d (s.run ∷ s.callers)) h) in
      let r = right_is (is_bound a) (exec_eq n s.env.exec && stack_has t (Cell a) p d (s.run ∷ s.callers)) h in
      let e : n ≡ s.env.exec = exec_is n s.env.exec (left_is (exec_eq n s.env.exec) (stack_has t (Cell a) p d (s.run ∷ s.callers)) r) in
      let i = in_stack t s.env.exec d p (Cell a) (s.run ∷ s.callers) (right_is (exec_eq n s.env.exec) (stack_has t (Cell a) p d (s.run ∷ s.callers)) r) in
      (b, subst (λ m. Known t few s.env.exec Near a (loaded (Place (Frame m d) p) s.env)) (sym e) (read i.thing i.type d p a b i.there i.within))
  own_known a v h = absurd (cc)

  module _ (n : Exec) (d : ℕ) (p : List Link) (a : Ty) (i : IsBinding a) where
    abbrev Read : Option (Execution (List Todo) Value) → Type 0
    Read o = Known t few n All a (slice_index_or (frame_at d (frames_in o)) (address p) nought)

    in_claimed : (e : Execution (List Todo) Value) → ClaimsEx t few (Built t heads few) n e → stack_has t (Cell a) p d (e.run ∷ e.callers) ≡ true → Read (Some e)
    in_claimed e y h =
        let z = in_stack t n d p (Cell a) (e.run ∷ e.callers) h in
        from_variables t n few (OutwardsOrMade y.sigs) e.frames z.thing z.type d p a i All (e.run ∷ e.callers) y.claim.0.stack (made_behind t few n y.sigs All (e.run ∷ e.callers) (λ w b m. tt)) (λ w b m. tt) z.there z.within

    in_slot : (o : Option (Execution (List Todo) Value)) → SlotBy (ClaimsSlot t few (Built t heads few)) n o → parked_has t (Cell a) p d o ≡ true → Read o
    in_slot None y h = absurd (cc)
    in_slot (Some e) y h = by e.links.stage y (left_is (is_up e.links.stage) (stack_has t (Cell a) p d (e.run ∷ e.callers)) h)
      where
        by : (u : Stage) → ClaimsBy t few (Built t heads few) n u e → is_up u ≡ true → Read (Some e)
        by Fresh y u = in_claimed e y (right_is (is_up e.links.stage) (stack_has t (Cell a) p d (e.run ∷ e.callers)) h)
        by Started y u = in_claimed e y (right_is (is_up e.links.stage) (stack_has t (Cell a) p d (e.run ∷ e.callers)) h)
        by Ended y u = absurd (cc)

    -- in a frame of another execution
    loaded_there : exec_eq n s.env.exec ≡ false → Read (parked_at n s.env) → Known t few n All a (loaded (Place (Frame n d) p) s.env)
    loaded_there e h =
        subst (λ (b : Bool). Known t few n All a (slice_index_or (list_in (at_depth (if b then s.env.frames else frames_in (parked_at n s.env)) d)) (address p) nought)) (sym e) h

  pub others_are : (a : Ty) (v : Value) → in_others t s a v ≡ true → IsBinding a × (Is t a (loaded v s.env) × IsFew t few s.env.exec a (loaded v s.env))
  others_are a (Place (Frame n d) p) h =
      let b = bound_is a (left_is (is_bound a) (not (exec_eq n s.env.exec) && parked_has t (Cell a) p d (parked_at n s.env)) h) in
      let r = right_is (is_bound a) (not (exec_eq n s.env.exec) && parked_has t (Cell a) p d (parked_at n s.env)) h in
      let e = not_is (exec_eq n s.env.exec) (left_is (not (exec_eq n s.env.exec)) (parked_has t (Cell a) p d (parked_at n s.env)) r) in
      let y = in_slot n d p a b (parked_at n s.env) (parked_rests (ClaimsSlot t few (Built t heads few)) n s.env x.0.env) (right_is (not (exec_eq n s.env.exec)) (parked_has t (Cell a) p d (parked_at n s.env)) r) in
      (b, another_is t few n s.env.exec a (loaded (Place (Frame n d) p) s.env) b (loaded_there n d p a b e y))
  others_are a v h = absurd (cc)

pub law_scoped_reads : LawScopedReads
law_scoped_reads = record {
  own = λ t heads few s x a v h. (own_known t heads few s x a v h).1;
  others = λ t heads few s x a v h. (others_are t heads few s x a v h).1;
}
