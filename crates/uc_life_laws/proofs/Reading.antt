-- What is read at a place that lies in what is at hand, and what is in scope.
use Rattle.std.proofs.Common.{◌≡◌, ℕ, ◌⊎◌, inl, inr, List, [], ◌∷◌, length, Option, Some, None, Bool, true, false, refl, sym, ap, ◌∙◌, subst, ⊎_elim}
use Rattle.std.specs.Prelude.{nat_eq, if◌then◌else◌, slice_index_or}
use Rattle.std.proofs.lemmas.Bool.{eqb-true}
use Rattle.uc_tree.specs.Source.{Expr, Variable, CleanUp, Destroys, DestroysAll, Unwinds, Forgets, Leaves, Ends, Frees, Restores}
use Rattle.uc_machine.specs.declared.exec.Exec.{Exec}
use Rattle.uc_machine.specs.declared.exec.Home.{Home}
use Rattle.uc_machine.specs.declared.exec.Home.TheVariants as home
use Rattle.uc_machine.specs.declared.exec.Owner.{Owner}
use Rattle.uc_machine.specs.declared.exec.Owner.TheVariants.{Frame, Fields}
use Rattle.uc_machine.specs.declared.exec.Visited.{Visited}
use Rattle.uc_machine.specs.Executions.{home_eq, exec_eq, at_depth, list_in, frames_in, parked_at, others}
use Rattle.uc_machine.specs.Raising.{within, count_round}
use Rattle.uc_machine.specs.Pieces as piece
use Rattle.uc_machine.specs.Pieces.{Link, Slot, Value, Number, Place, Running, Object, Nothing, Todo, Sort, Active, State, Env, address, nought, loaded}
use Rattle.uc_typing.specs.Typing as typing
use Rattle.uc_typing.specs.Typing.{Ty, Num, Cell, Obj, Raw, Row, Clu, Pro, Name, Sig, Table, InScope, DestroysAt, CleansAt, Cleans}
use Rattle.uc_typing.specs.Pieces.{Ok, Left, Met}
use Rattle.uc_typing.specs.States.{Either, IsBase}
use Rattle.uc_typing.proofs.Control as control
use Rattle.uc_life_laws.specs.Things.{Few, IsBinding, IsReference, IsResource, Within, itself, field, element, AtVariable, AtField, IsFor, Nowhere, Marks, InTodo, Things, Variables, UnmadeBehind, Unmade, Outer, Around, OwnFields, LiesIn, Known, Holds, Held, lies, inside}
use Rattle.uc_life_laws.specs.LifeStates.{BehindMark, OutwardsOnly, frame_at, Outwards, MarkHoldsBy, AllHoldBy, LifeStackBy, LifeState}
use Rattle.uc_life_laws.specs.Knowing.{Here, ReadsKnown, VariablesKnown, InMaking, NotWhole}
use Rattle.uc_life_laws.proofs.LifeSteps.{exec_same}
use Rattle.uc_life_laws.proofs.Knowns.{Less, known_more, awaits_some, around_outer, around_hand}

-- executions by their names

home_is : (h k : Home) → home_eq h k ≡ true → h ≡ k
home_is (home.Task x) (home.Task y) e = ap home.Task (eqb-true x y e)
home_is (home.Task x) (home.Object y) e = absurd (cc)
home_is (home.Object x) (home.Task y) e = absurd (cc)
home_is (home.Object x) (home.Object y) e = ap home.Object (eqb-true x y e)

pub exec_is : (x y : Exec) → exec_eq x y ≡ true → x ≡ y
exec_is x y e = by (home_eq x.home y.home) refl e
  where
    by : (b : Bool) → home_eq x.home y.home ≡ b → (if b then nat_eq x.serial y.serial else false) ≡ true → x ≡ y
    by true h s =
        ap (λ (k : Home). record { home = k; serial = x.serial }) (home_is x.home y.home h) ∙ ap (λ (m : ℕ). record { home = y.home; serial = m }) (eqb-true x.serial y.serial s)
    by false h s = absurd (cc)

-- of all things those that are variables hold what is known, or they are fields

module _ (t : Table) (n : Exec) where
  -- what lies within a thing has its owner
  abbrev HasOwner : Owner → Value → Type 0
  HasOwner o (Number z) = ⊥
  HasOwner o (Place p l) = p ≡ o
  HasOwner o (Running x) = ⊥
  HasOwner o (Object q) = ⊥
  HasOwner o Nothing = ⊥

  further_owner : (o : Owner) (l : Link) (v : Value) → HasOwner o v → HasOwner o (piece.further l v)
  further_owner o l (Number z) h = absurd h
  further_owner o l (Place p q) h = h
  further_owner o l (Running x) h = absurd h
  further_owner o l (Object q) h = absurd h
  further_owner o l Nothing h = absurd h

  owner_of : (o : Owner) (w : Value) (a : Ty) (v : Value) (b : Ty) → HasOwner o w → Within t w a v b → HasOwner o v
  owner_of o w a v b h itself = h
  owner_of o w a v b h (field {v = u} {c} k i f) = further_owner o _ u (owner_of o w a u (Obj c) h k)
  owner_of o w a v b h (element {v = u} {m} {b = d} k j l) = further_owner o _ u (owner_of o w a u (Row m d) h k)

  same_frame : (x y : Exec) (d e : ℕ) → Frame x d ≡ Frame y e → d ≡ e
  same_frame x y d e h = cc

  -- a part of a thing that is a variable of a frame
  module _ (few : Few) (K : Value → Ty → Type 0) (fs : List (List Value)) (f : ℕ) where
    at_thing : (k : ℕ) (a : Ty) (d : ℕ) (p : List Link) (b : Ty) → Holds t few n K (Frame n f) (frame_at f fs) (Place (Frame n f) (Slot k ∷ [])) a → Within t (Place (Frame n f) (Slot k ∷ [])) a (Place (Frame n d) p) (Cell b) → IsBinding b → Known t few n K b (slice_index_or (frame_at d fs) (address p) nought)
    at_thing k a d p b h w i =
        let o : Frame n d ≡ Frame n f = owner_of (Frame n f) (Place (Frame n f) (Slot k ∷ [])) a (Place (Frame n d) p) (Cell b) refl w in
        let e : d ≡ f = same_frame n n d f o in
        subst (λ d. Known t few n K b (slice_index_or (frame_at d fs) (address p) nought)) (sym e) (h p b (subst (λ d. Within t (Place (Frame n f) (Slot k ∷ [])) a (Place (Frame n d) p) (Cell b)) e w) i)

  -- in a to-do list: what is known behind a mark is known before the list
  module _ (few : Few) (K : BehindMark) (fs : List (List Value)) (f : ℕ) (this : Value) (older : List Active) (w : Value) (a : Ty) (d : ℕ) (p : List Link) (b : Ty) (i : IsBinding b) (L : Value → Ty → Type 0) (behind : (c : CleanUp) (todo : List Todo) (v : Value) (e : Ty) → K (Outwards t few n f this older c todo) n f this older v e → Outwards t few n f this older c todo v e ⊎ L v e) where
    abbrev Before : List Todo → Value → Ty → Type 0
    Before todo v c = InTodo (IsFor t (Frame n f) this) (AtField t (Frame n f) this) todo v c ⊎ Outer t few n older v c

    abbrev Reads : Type 0
    Reads = Known t few n L b (slice_index_or (frame_at d fs) (address p) nought)

    from_mark : (s : Sort) (todo : List Todo) → MarkHoldsBy t few K n (frame_at f fs) f this older s todo (AllHoldBy t few K n (frame_at f fs) f this older todo) → ((v : Value) (e : Ty) → (Marks (IsFor t (Frame n f) this) (AtField t (Frame n f) this) s v e (InTodo (IsFor t (Frame n f) this) (AtField t (Frame n f) this) todo v e) ⊎ Outer t few n older v e) → L v e) → Marks (AtVariable t (Frame n f) this) (Nowhere (Frame n f) this) s w a (InTodo (AtVariable t (Frame n f) this) (Nowhere (Frame n f) this) todo w a) → (AllHoldBy t few K n (frame_at f fs) f this older todo → Less t few n (Before todo) L → InTodo (AtVariable t (Frame n f) this) (Nowhere (Frame n f) this) todo w a → Reads) → Within t w a (Place (Frame n d) p) (Cell b) → Reads
    from_mark (piece.IsClean c) todo h more (inl m) next y =
        known_more t few n (K (Outwards t few n f this older c todo) n f this older) L (λ v e x. ⊎_elim (λ x. more v e x) (λ x. x) (behind c todo v e x)) b _ (at_thing few (K (Outwards t few n f this older c todo) n f this older) fs f m.0 a d p b (h.0 m.0 a m.1) (subst (λ w. Within t w a (Place (Frame n d) p) (Cell b)) m.2 y) i)
    from_mark (piece.IsClean c) todo h more (inr m) next y = next h.1 (λ v e x. ⊎_elim (λ x. more v e (inl (inr x))) (λ x. more v e (inr x)) x) m
    from_mark (piece.IsPart c) todo h more (inl m) next y = absurd m
    from_mark (piece.IsPart c) todo h more (inr m) next y = next h (λ v e x. ⊎_elim (λ x. more v e (inl (inr x))) (λ x. more v e (inr x)) x) m
    from_mark piece.Simple todo h more m next y = next h more m
    from_mark (piece.IsLoop o x z q) todo h more m next y = next h more m
    from_mark piece.IsWhole todo h more m next y = next h more m
    from_mark (piece.IsFill x z q) todo h more m next y = next h more m
    from_mark (piece.IsSweep x) todo h more m next y = next h more m
    from_mark (piece.IsGuard x) todo h more m next y = next h more m
    from_mark piece.IsFinish todo h more m next y = next h more m
    from_mark piece.IsFinishCoroutine todo h more m next y = next h more m

    from_todo : (todo : List Todo) → AllHoldBy t few K n (frame_at f fs) f this older todo → Less t few n (Before todo) L → InTodo (AtVariable t (Frame n f) this) (Nowhere (Frame n f) this) todo w a → Within t w a (Place (Frame n d) p) (Cell b) → Reads
    from_todo [] h more m y = absurd m
    from_todo (x ∷ todo) h more m y = from_mark (piece.sort x) todo h more m (λ h more m. from_todo todo h more m y) y

  -- what else is known behind the marks of each of these activations is known
  module _ (few : Few) (K : BehindMark) (L : Value → Ty → Type 0) where
    abbrev pub AllBehind : List Active → Type 0
    AllBehind [] = Unit {0}
    AllBehind (c ∷ older) = ((x : CleanUp) (todo : List Todo) (v : Value) (e : Ty) → K (Outwards t few n c.frame c.this older x todo) n c.frame c.this older v e → Outwards t few n c.frame c.this older x todo v e ⊎ L v e) × AllBehind older

  -- what a binding within a variable holds is known
  pub from_variables : (few : Few) (K : BehindMark) (fs : List (List Value)) (w : Value) (a : Ty) (d : ℕ) (p : List Link) (b : Ty) (i : IsBinding b) (L : Value → Ty → Type 0) (cs : List Active) → LifeStackBy t few K n fs cs → AllBehind few K L cs → Less t few n (Around t few n cs) L → Variables t n cs w a → Within t w a (Place (Frame n d) p) (Cell b) → Known t few n L b (slice_index_or (frame_at d fs) (address p) nought)
  from_variables few K fs w a d p b i L [] h others more m y = absurd m
  from_variables few K fs w a d p b i L (c ∷ older) h others more (inl m) y = from_todo few K fs c.frame c.this older w a d p b i L others.0 c.control h.1 more m y
  from_variables few K fs w a d p b i L (c ∷ older) h others more (inr m) y = from_variables few K fs w a d p b i L older h.2 others.1 (λ v e x. more v e (inr (around_outer t few n older v e x))) m y

  -- where nothing else is
  pub none_behind : (few : Few) (L : Value → Ty → Type 0) (cs : List Active) → AllBehind few OutwardsOnly L cs
  none_behind few L [] = tt
  none_behind few L (c ∷ older) = ((λ x todo v e h. inl h), none_behind few L older)

  -- a thing is a field of an object at hand, or a variable

  split_mark : (o : Owner) (this w : Value) (a : Ty) (s : Sort) (R F V : Type 0) → (R → F ⊎ V) → Marks (IsFor t o this) (AtField t o this) s w a R → Marks (AtField t o this) (AtField t o this) s w a F ⊎ Marks (AtVariable t o this) (Nowhere o this) s w a V
  split_mark o this w a (piece.IsClean c) R F V more (inl (inl m)) = inr (inl m)
  split_mark o this w a (piece.IsClean c) R F V more (inl (inr m)) = inl (inl m)
  split_mark o this w a (piece.IsClean c) R F V more (inr r) = ⊎_elim (λ x. inl (inr x)) (λ x. inr (inr x)) (more r)
  split_mark o this w a (piece.IsPart c) R F V more (inl m) = inl (inl m)
  split_mark o this w a (piece.IsPart c) R F V more (inr r) = ⊎_elim (λ x. inl (inr x)) (λ x. inr (inr x)) (more r)
  split_mark o this w a piece.Simple R F V more r = more r
  split_mark o this w a (piece.IsLoop x y z q) R F V more r = more r
  split_mark o this w a piece.IsWhole R F V more r = more r
  split_mark o this w a (piece.IsFill x y z) R F V more r = more r
  split_mark o this w a (piece.IsSweep x) R F V more r = more r
  split_mark o this w a (piece.IsGuard x) R F V more r = more r
  split_mark o this w a piece.IsFinish R F V more r = more r
  split_mark o this w a piece.IsFinishCoroutine R F V more r = more r

  split_todo : (o : Owner) (this w : Value) (a : Ty) (todo : List Todo) → InTodo (IsFor t o this) (AtField t o this) todo w a → InTodo (AtField t o this) (AtField t o this) todo w a ⊎ InTodo (AtVariable t o this) (Nowhere o this) todo w a
  split_todo o this w a [] m = absurd m
  split_todo o this w a (x ∷ todo) m = split_mark o this w a (piece.sort x) _ _ _ (split_todo o this w a todo) m

  pub split : (few : Few) (cs : List Active) (w : Value) (a : Ty) → Things t few n cs w a → OwnFields t few n cs w a ⊎ Variables t n cs w a
  split few [] w a m = inl m
  split few (c ∷ older) w a (inl m) = ⊎_elim (λ x. inl (inl x)) (λ x. inr (inl x)) (split_todo (Frame n c.frame) c.this w a c.control m)
  split few (c ∷ older) w a (inr m) = ⊎_elim (λ x. inl (inr x)) (λ x. inr (inr x)) (split few older w a m)

  whole_mark : (o : Owner) (this w : Value) (a : Ty) (s : Sort) (V R : Type 0) → (V → R) → Marks (AtVariable t o this) (Nowhere o this) s w a V → Marks (IsFor t o this) (AtField t o this) s w a R
  whole_mark o this w a (piece.IsClean c) V R more (inl m) = inl (inl m)
  whole_mark o this w a (piece.IsClean c) V R more (inr r) = inr (more r)
  whole_mark o this w a (piece.IsPart c) V R more (inl m) = absurd m
  whole_mark o this w a (piece.IsPart c) V R more (inr r) = inr (more r)
  whole_mark o this w a piece.Simple V R more r = more r
  whole_mark o this w a (piece.IsLoop x y z q) V R more r = more r
  whole_mark o this w a piece.IsWhole V R more r = more r
  whole_mark o this w a (piece.IsFill x y z) V R more r = more r
  whole_mark o this w a (piece.IsSweep x) V R more r = more r
  whole_mark o this w a (piece.IsGuard x) V R more r = more r
  whole_mark o this w a piece.IsFinish V R more r = more r
  whole_mark o this w a piece.IsFinishCoroutine V R more r = more r

  whole_todo : (o : Owner) (this w : Value) (a : Ty) (todo : List Todo) → InTodo (AtVariable t o this) (Nowhere o this) todo w a → InTodo (IsFor t o this) (AtField t o this) todo w a
  whole_todo o this w a [] m = absurd m
  whole_todo o this w a (x ∷ todo) m = whole_mark o this w a (piece.sort x) _ _ (whole_todo o this w a todo) m

  -- a variable is a thing
  pub variable_thing : (few : Few) (cs : List Active) (w : Value) (a : Ty) → Variables t n cs w a → Things t few n cs w a
  variable_thing few [] w a m = absurd m
  variable_thing few (c ∷ older) w a (inl m) = inl (whole_todo (Frame n c.frame) c.this w a c.control m)
  variable_thing few (c ∷ older) w a (inr m) = inr (variable_thing few older w a m)

-- what is in no frame: all within it is in none
abbrev InNoFrame : Value → Type 0
InNoFrame (Number z) = Unit {0}
InNoFrame (Place (Frame x d) p) = ⊥
InNoFrame (Place (Fields o) p) = Unit {0}
InNoFrame (Running x) = Unit {0}
InNoFrame (Object o) = Unit {0}
InNoFrame Nothing = Unit {0}

further_no_frame : (l : Link) (v : Value) → InNoFrame v → InNoFrame (piece.further l v)
further_no_frame l (Number z) h = tt
further_no_frame l (Place (Frame x d) p) h = absurd h
further_no_frame l (Place (Fields o) p) h = tt
further_no_frame l (Running x) h = tt
further_no_frame l (Object o) h = tt
further_no_frame l Nothing h = tt

in_no_frame : (t : Table) (w : Value) (a : Ty) (v : Value) (b : Ty) → InNoFrame w → Within t w a v b → InNoFrame v
in_no_frame t w a v b h itself = h
in_no_frame t w a v b h (field {v = u} {c} k i f) = further_no_frame _ u (in_no_frame t w a u (Obj c) h k)
in_no_frame t w a v b h (element {v = u} {m} {b = d} k j l) = further_no_frame _ u (in_no_frame t w a u (Row m d) h k)

-- what is not whole has no parts
pub within_raw : (t : Table) (w : Value) (c : ℕ) (v : Value) (b : Ty) → Within t w (Raw c) v b → b ≡ Raw c
within_raw t w c v b itself = refl
within_raw t w c v b (field {v = u} {c = d} k i f) = let e = within_raw t w c u (Obj d) k in absurd (cc)
within_raw t w c v b (element {v = u} {m} {b = d} k j l) = let e = within_raw t w c u (Row m d) k in absurd (cc)

pub in_raw : (gs : List Sig) (cs : List Active) (w : Value) (a : Ty) → InMaking gs cs w a → (c : ℕ) × (a ≡ Raw c)
in_raw gs [] w a m = absurd m
in_raw gs (c ∷ older) w a (inl m) = let h = m.2.1 in (h.0, h.3)
in_raw gs (c ∷ older) w a (inr m) = in_raw (others gs) older w a m

pub unmade_raw : (t : Table) (n : Exec) (cs : List Active) (w : Value) (a : Ty) → Unmade t n cs w a → (c : ℕ) × (a ≡ Raw c)
unmade_raw t n [] w a m = absurd m
unmade_raw t n (c ∷ older) w a (inl m) = (m.0, m.1)
unmade_raw t n (c ∷ older) w a (inr m) = unmade_raw t n older w a m

pub behind_raw : (t : Table) (n : Exec) (cs : List Active) (w : Value) (a : Ty) → UnmadeBehind t n cs w a → (c : ℕ) × (a ≡ Raw c)
behind_raw t n [] w a m = absurd m
behind_raw t n (c ∷ older) w a m = unmade_raw t n older w a m

pub not_whole : (t : Table) (n : Exec) (gs : List Sig) (cs : List Active) (w : Value) (a : Ty) → NotWhole t n gs cs w a → (c : ℕ) × (a ≡ Raw c)
not_whole t n gs cs w a (inl m) = in_raw gs cs w a m
not_whole t n gs cs w a (inr m) = behind_raw t n cs w a m

-- what others wait for is known by no number
abbrev pub NoNumber : Value → Type 0
NoNumber (Number z) = Unit {0}
NoNumber (Place o p) = Unit {0}
NoNumber (Running x) = Unit {0}
NoNumber (Object o) = ⊥
NoNumber Nothing = Unit {0}

further_number : (l : Link) (v : Value) → NoNumber (piece.further l v)
further_number l (Number z) = tt
further_number l (Place o p) = tt
further_number l (Running x) = tt
further_number l (Object o) = tt
further_number l Nothing = tt

within_number : (t : Table) (w : Value) (a : Ty) (v : Value) (b : Ty) → NoNumber w → Within t w a v b → NoNumber v
within_number t w a v b h itself = h
within_number t w a v b h (field {v = u} {c} k i f) = further_number _ u
within_number t w a v b h (element {v = u} {m} {b = d} k j l) = further_number _ u

for_number : (t : Table) (o : Owner) (this : Value) (c : CleanUp) (w : Value) (a : Ty) → IsFor t o this c w a → NoNumber w
for_number t o this c w a (inl h) = subst NoNumber (sym h.2) tt
for_number t o this c w a (inr h) = subst NoNumber (sym h.3) (further_number _ this)

pub unmade_number : (t : Table) (n : Exec) (cs : List Active) (w : Value) (a : Ty) → Unmade t n cs w a → NoNumber w
unmade_number t n [] w a m = absurd m
unmade_number t n (c ∷ older) w a (inl m) =
    let x = awaits_some _ c.control m.2 in
    let y = x.1 in
    within_number t y.0 y.1 w (Obj m.0) (for_number t (Frame n c.frame) c.this x.0 y.0 y.1 y.2) y.3
unmade_number t n (c ∷ older) w a (inr m) = unmade_number t n older w a m

pub behind_number : (t : Table) (n : Exec) (cs : List Active) (w : Value) (a : Ty) → UnmadeBehind t n cs w a → NoNumber w
behind_number t n [] w a m = absurd m
behind_number t n (c ∷ older) w a m = unmade_number t n older w a m

-- a variable with one cell is bound to an object, a cluster or a processor
module _ (t : Table) (n : Exec) (w : Value) where
  ended_binding : (a : Ty) (place e : Expr) → DestroysAt t (Cell a) place e → IsBinding a
  ended_binding Num place e h = absurd h
  ended_binding (Cell a) place e h = absurd h
  ended_binding (Obj c) place e h = tt
  ended_binding (Raw c) place e h = absurd h
  ended_binding (Row m a) place e h = absurd h
  ended_binding Clu place e h = tt
  ended_binding Pro place e h = tt

  clean_binding : (a : Ty) (k : ℕ) (c : CleanUp) → CleansAt t (Cell a) (Variable k) c → IsBinding a
  clean_binding a k (Destroys e) h = ended_binding a (Variable k) e h
  clean_binding a k (DestroysAll m e) h = absurd h
  clean_binding a k Unwinds h = absurd h
  clean_binding a k Forgets h = absurd h
  clean_binding a k Leaves h = absurd h
  clean_binding a k Ends h = absurd h
  clean_binding a k (Frees r) h = absurd h
  clean_binding a k (Restores m) h = absurd h

  mark_binding : (a : Ty) (o : Owner) (this : Value) (s : Sort) (R : Type 0) → (R → IsBinding a) → Marks (AtVariable t o this) (Nowhere o this) s w (Cell a) R → IsBinding a
  mark_binding a o this (piece.IsClean c) R more (inl m) = clean_binding a m.0 c m.1
  mark_binding a o this (piece.IsClean c) R more (inr r) = more r
  mark_binding a o this (piece.IsPart c) R more (inl m) = absurd m
  mark_binding a o this (piece.IsPart c) R more (inr r) = more r
  mark_binding a o this piece.Simple R more r = more r
  mark_binding a o this (piece.IsLoop x y z q) R more r = more r
  mark_binding a o this piece.IsWhole R more r = more r
  mark_binding a o this (piece.IsFill x y z) R more r = more r
  mark_binding a o this (piece.IsSweep x) R more r = more r
  mark_binding a o this (piece.IsGuard x) R more r = more r
  mark_binding a o this piece.IsFinish R more r = more r
  mark_binding a o this piece.IsFinishCoroutine R more r = more r

  todo_binding : (a : Ty) (o : Owner) (this : Value) (todo : List Todo) → InTodo (AtVariable t o this) (Nowhere o this) todo w (Cell a) → IsBinding a
  todo_binding a o this [] m = absurd m
  todo_binding a o this (x ∷ todo) m = mark_binding a o this (piece.sort x) _ (todo_binding a o this todo) m

  pub is_binding : (a : Ty) (cs : List Active) → Variables t n cs w (Cell a) → IsBinding a
  is_binding a [] m = absurd m
  is_binding a (c ∷ older) (inl m) = todo_binding a (Frame n c.frame) c.this c.control m
  is_binding a (c ∷ older) (inr m) = is_binding a older m

-- names in scope are variables that are to be cleaned up

module _ (t : Table) (o : Owner) (this : Value) (k : ℕ) (a : Ty) where
  abbrev At : List Todo → Type 0
  At todo = InTodo (AtVariable t o this) (Nowhere o this) todo (Place o (Slot k ∷ [])) a

  -- what is in scope further out
  outer_mark : (s : Sort) (R : Type 0) → R → Marks (AtVariable t o this) (Nowhere o this) s (Place o (Slot k ∷ [])) a R
  outer_mark (piece.IsClean c) R r = inr r
  outer_mark (piece.IsPart c) R r = inr r
  outer_mark piece.Simple R r = r
  outer_mark (piece.IsLoop x y z q) R r = r
  outer_mark piece.IsWhole R r = r
  outer_mark (piece.IsFill x y z) R r = r
  outer_mark (piece.IsSweep x) R r = r
  outer_mark (piece.IsGuard x) R r = r
  outer_mark piece.IsFinish R r = r
  outer_mark piece.IsFinishCoroutine R r = r

  if_within : (b : Bool) (xs ys : List Todo) → (At ys → At xs) → At (if b then xs else ys) → At xs
  if_within true xs ys more h = h
  if_within false xs ys more h = more h

  in_within : (m : ℕ) (todo : List Todo) → At (within m todo) → At todo
  in_within m [] h = absurd h
  in_within m (p ∷ ps) h = if_within (nat_eq (count_round (p ∷ ps)) m) (p ∷ ps) (within m ps) (λ x. outer_mark (piece.sort p) _ (in_within m ps x)) h

  module _ (g : Sig) (base : List Name) where
    named : (x : Name) (more : List Name) (c : CleanUp) → Cleans t g x c → InScope (x ∷ more) k a → AtVariable t o this c (Place o (Slot k ∷ [])) a ⊎ InScope more k a
    named (typing.Var l b) more c h (inl e) = inl (k, subst (λ (m : ℕ). CleansAt t a (Variable m) c) e.0 (subst (λ (b : Ty). CleansAt t b (Variable l) c) e.1 h), refl)
    named (typing.Var l b) more c h (inr e) = inr e
    named (typing.Own j) more c h e = inr e
    named typing.Kept more c h e = inr e

    marked : (s : Sort) (sc : List Name) (todo : List Todo) → Met t g sc s (λ sc. Left t g base sc todo) (λ sc. Ok t g base sc todo) → ((sc : List Name) → Left t g base sc todo → InScope sc k a → At todo ⊎ InScope base k a) → InScope sc k a → Marks (AtVariable t o this) (Nowhere o this) s (Place o (Slot k ∷ [])) a (At todo) ⊎ InScope base k a
    marked piece.Simple sc todo h next e = next sc h e
    marked (piece.IsLoop x y z b) sc todo h next e = next sc h.2 e
    marked piece.IsWhole sc todo h next e = next sc (control.left t g base sc todo [] h.1) e
    marked (piece.IsClean c) [] todo h next e = absurd h
    marked (piece.IsClean c) (x ∷ sc) todo h next e = ⊎_elim (λ m. inl (inl m)) (λ e. ⊎_elim (λ m. inl (inr m)) (λ e. inr e) (next sc h.2 e)) (named x sc c h.0 e)
    marked (piece.IsFill m b d) sc todo h next e = next sc h.1 e
    marked (piece.IsSweep b) sc todo h next e = next sc h.1 e
    marked (piece.IsPart c) sc todo h next e = ⊎_elim (λ m. inl (inr m)) (λ e. inr e) (next sc h.1 e)
    marked (piece.IsGuard hs) sc todo h next e = next sc h.2 e
    marked piece.IsFinish sc todo h next e = next sc (control.left t g base sc todo [] h) e
    marked piece.IsFinishCoroutine sc todo h next e = next sc (control.left t g base sc todo [] h) e

    in_scope : (todo : List Todo) (sc : List Name) → Left t g base sc todo → InScope sc k a → At todo ⊎ InScope base k a
    in_scope [] sc h e = inr (subst (λ names. InScope names k a) h e)
    in_scope (x ∷ todo) sc h e = marked (piece.sort x) sc todo h (λ sc l i. in_scope todo sc l i) e

one_of : (b : Bool) (A B R : Type 0) → Either b A B → (A → R) → (B → R) → R
one_of true A B R h f k = f h
one_of false A B R h f k = k h

module _ (t : Table) (n : Exec) (g : Sig) (k : ℕ) (a : Ty) where
  in_base : (v : Option Visited) (base : List Name) (d : ℕ) (older : List Active) → IsBase t g v base d older → InScope base k a → Variables t n older (Place (Frame n d) (Slot k ∷ [])) a
  in_base None base d older e i = absurd (subst (λ names. InScope names k a) e i)
  in_base (Some v) base d [] e i = absurd e
  in_base (Some v) base d (c ∷ older) e i =
      one_of (nat_eq (length older) v.level) _ (IsBase t g (Some v) base d older) (Variables t n (c ∷ older) (Place (Frame n d) (Slot k ∷ [])) a) e
      (λ x. ⊎_elim
      (λ m. inl (subst (λ f. InTodo (AtVariable t (Frame n c.frame) c.this) (Nowhere (Frame n c.frame) c.this) c.control (Place (Frame n f) (Slot k ∷ [])) a) x.1 (in_within t (Frame n c.frame) c.this k a v.rest c.control m)))
      (λ j. inr (in_base c.handles x.0 d older x.3 j))
      (in_scope t (Frame n c.frame) c.this k a g x.0 (within v.rest c.control) base x.2 i))
      (λ y. inr (in_base (Some v) base d older y i))

  -- of an activation before older ones
  pub scope_at : (r : Active) (cs : List Active) (base sc : List Name) (tys : List Ty) → Ok t g base sc r.control tys → IsBase t g r.handles base r.frame cs → InScope sc k a → Variables t n (r ∷ cs) (Place (Frame n r.frame) (Slot k ∷ [])) a
  scope_at r cs base sc tys o e i =
      ⊎_elim (λ m. inl m) (λ j. inr (in_base r.handles base r.frame cs e j)) (in_scope t (Frame n r.frame) r.this k a g base r.control sc (control.left t g base sc r.control tys o) i)

-- what is read

reference : (a : Ty) → IsReference a ⊎ (IsReference a → ⊥)
reference Num = inr (λ i. i)
reference (Cell Num) = inl tt
reference (Cell (Cell a)) = inr (λ i. i)
reference (Cell (Obj c)) = inr (λ i. i)
reference (Cell (Raw c)) = inr (λ i. i)
reference (Cell (Row m a)) = inr (λ i. i)
reference (Cell Clu) = inr (λ i. i)
reference (Cell Pro) = inr (λ i. i)
reference (Obj c) = inl tt
reference (Raw c) = inr (λ i. i)
reference (Row m a) = inr (λ i. i)
reference Clu = inr (λ i. i)
reference Pro = inr (λ i. i)

resource : (a : Ty) → IsResource a ⊎ (IsResource a → ⊥)
resource Num = inr (λ i. i)
resource (Cell a) = inr (λ i. i)
resource (Obj c) = inr (λ i. i)
resource (Raw c) = inr (λ i. i)
resource (Row m a) = inr (λ i. i)
resource Clu = inl tt
resource Pro = inl tt

resource_bound : (a : Ty) → IsResource a → IsBinding a
resource_bound Num i = absurd i
resource_bound (Cell a) i = absurd i
resource_bound (Obj c) i = absurd i
resource_bound (Raw c) i = absurd i
resource_bound (Row m a) i = absurd i
resource_bound Clu i = tt
resource_bound Pro i = tt

-- a reference is a binding
bound : (a : Ty) → IsReference a → IsBinding a
bound Num i = absurd i
bound (Cell a) i = i
bound (Obj c) i = tt
bound (Raw c) i = absurd i
bound (Row m a) i = absurd i
bound Clu i = absurd i
bound Pro i = absurd i

module _ (t : Table) (few : Few) (s : State) (gs : List Sig) where
  -- in a frame of the running execution
  own : (P : Value → Type 0) (d : ℕ) (p : List Link) → P (slice_index_or (frame_at d s.env.frames) (address p) nought) → P (loaded (Place (Frame s.env.exec d) p) s.env)
  own P d p h =
      subst (λ (b : Bool). P (slice_index_or (list_in (at_depth (if b then s.env.frames else frames_in (parked_at s.env.exec s.env)) d)) (address p) nought)) (sym (exec_same s.env.exec)) h

  -- at a part of a variable that is to be cleaned up, of which that holds which is known behind marks
  pub variables_read : (K : BehindMark) → LifeStackBy t few K s.env.exec s.env.frames (s.run ∷ s.callers) → AllBehind t s.env.exec few K (Here t few gs s) (s.run ∷ s.callers) → VariablesKnown t few gs s
  variables_read K st others w a d p b i m y =
      own (Known t few s.env.exec (Here t few gs s) b) d p (from_variables t s.env.exec few K s.env.frames w a d p b i (Here t few gs s) (s.run ∷ s.callers) st others (around_hand t few s.env.exec gs (s.run ∷ s.callers)) m y)

  pub life_read : LifeState t few s → VariablesKnown t few gs s
  life_read st = variables_read OutwardsOnly st.stack (none_behind t s.env.exec few (Here t few gs s) (s.run ∷ s.callers))

module _ (t : Table) (few : Few) (s : State) (gs : List Sig) (read : VariablesKnown t few gs s) where
  in_own : (a : Ty) (x : Exec) (d : ℕ) (p : List Link) → IsBinding a → Held t few (Here t few gs s) (Cell a) (Place (Frame x d) p) → ReadsKnown t few gs s a (Place (Frame x d) p) → x ≡ s.env.exec → Known t few s.env.exec (Here t few gs s) a (loaded (Place (Frame x d) p) s.env)
  in_own a x d p i (inl (lies {w = w} {a = b} k y)) r e =
      ⊎_elim
      (λ m. ⊎_elim
      (λ f. r.field w b f y)
      (λ v. subst (λ (n : Exec). Known t few s.env.exec (Here t few gs s) a (loaded (Place (Frame n d) p) s.env)) (sym e) (read w b d p a i v (subst (λ (n : Exec). Within t w b (Place (Frame n d) p) (Cell a)) e y)))
      (split t s.env.exec few (s.run ∷ s.callers) w b m))
      (λ m. let y2 = not_whole t s.env.exec gs (s.run ∷ s.callers) w b m in let e2 : Cell a ≡ Raw y2.0 = within_raw t w y2.0 (Place (Frame x d) p) (Cell a) (subst (λ b. Within t w b (Place (Frame x d) p) (Cell a)) y2.1 y) in absurd (cc))
      k
  in_own a x d p i (inl (inside {o = o} {c} m k y)) r e = absurd (in_no_frame t (Object o) (Obj c) (Place (Frame x d) p) (Cell a) tt y)
  in_own a x d p i (inr h) r e = r.making h.0 h.1 h.2 h.3

  bound_read : (a : Ty) (v : Value) → IsBinding a → LiesIn t few s.env.exec (Here t few gs s) (Cell a) v → ReadsKnown t few gs s a v → Known t few s.env.exec (Here t few gs s) a (loaded v s.env)
  bound_read a (Number z) i h r = r.foreign (λ f. f)
  bound_read a (Place (Frame x d) p) i h r = by (exec_eq x s.env.exec) refl
    where
      by : (b : Bool) → exec_eq x s.env.exec ≡ b → Known t few s.env.exec (Here t few gs s) a (loaded (Place (Frame x d) p) s.env)
      by true e = in_own a x d p i h r (exec_is x s.env.exec e)
      by false e = r.foreign (λ q. let f : false ≡ true = sym e ∙ (ap (λ (n : Exec). exec_eq n s.env.exec) q ∙ exec_same s.env.exec) in absurd (cc))
  bound_read a (Place (Fields o) p) i h r = r.foreign (λ f. f)
  bound_read a (Running x) i h r = r.foreign (λ f. f)
  bound_read a (Object o) i h r = r.foreign (λ f. f)
  bound_read a Nothing i h r = r.foreign (λ f. f)

  -- at a place that is known
  pub load_known : (a : Ty) (v : Value) → Known t few s.env.exec (Here t few gs s) (Cell a) v → ReadsKnown t few gs s a v → Known t few s.env.exec (Here t few gs s) a (loaded v s.env)
  load_known a v h r = ⊎_elim (λ i. bound_read a v (bound a i) (h.rooted i) r) (λ no. ⊎_elim (λ i. ⊎_elim (λ l. bound_read a v (resource_bound a i) l r) (λ l. r.seated i l) (h.seated i)) (λ other. r.untracked no other) (resource a)) (reference a)
