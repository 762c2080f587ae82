-- What is in scope lies in what is at hand, so a binding that lies there or is told to is known.
use Rattle.std.proofs.Common.{◌≡◌, ℕ, ◌<◌, inl, inr, Bool, true, false, List, [], ◌∷◌, Option, Some, None, refl, sym, ◌∙◌, subst, ⊎_elim}
use Rattle.std.specs.Prelude.{◌&&◌, not, nat_eq}
use Rattle.std.proofs.lemmas.Bool.{eqb-true}
use Rattle.uc_machine.specs.declared.exec.Exec.{Exec}
use Rattle.uc_machine.specs.declared.exec.Owner.TheVariants.{Frame, Fields}
use Rattle.uc_machine.specs.Executions.{exec_eq, others}
use Rattle.uc_machine.specs.Pieces.{Link, Slot, FieldAt, At, Value, Number, Place, Running, Object, Nothing, Active, State, further}
use Rattle.uc_typing.specs.Typing.{Ty, Num, Cell, Obj, Raw, Row, Clu, Pro, Sig, Table, element_shape, object_ty}
use Rattle.uc_typing.specs.States.{Is}
use Rattle.uc_life_laws.specs.Things.{Few, Base, IsField, Things, Stands, IsBinding, Within, itself, field, element, lies, inside, IsFew, LiesIn, Held, Known}
use Rattle.uc_life_laws.specs.Knowing.{AtHand, Here, KnownThis}
use Rattle.uc_life_laws.proofs.Knowns.{held_more, older_hand}
use Rattle.uc_life_laws.proofs.Reading.{exec_is, variable_thing}
use Rattle.uc_sound.proofs.Lists.{left_is, right_is}
use Rattle.uc_building_laws.specs.ScopedReads.{cell_of, is_type, stack_has}
use Rattle.uc_building_laws.proofs.ScopedReads.{not_is, type_is, field_typed, element_typed, bound_is, in_stack}
use Rattle.uc_lasting_programs.specs.Lying.{in_scope, object_in_scope, object_path, at_home_in, home_in_this, LiesAtHand, LiesElsewhere, UnlessAnothers, LiesLeft, IsSeen}
use Rattle.uc_lasting_programs.specs.Lent.{is_anothers}
use Rattle.uc_lasting_programs.proofs.OfOthers.{HasOthers, lies_of_others}

-- what is told of others is at hand
pub base_things : (t : Table) (few : Few) (n : Exec) (cs : List Active) (v : Value) (b : Ty) → Base few n v b → Things t few n cs v b
base_things t few n [] v b h = h
base_things t few n (c ∷ cs) v b h = inr (base_things t few n cs v b h)

stands_field : (t : Table) (few : Few) (K : Value → Ty → Type 0) {v : Value} {c : ℕ} → Stands t few K (Obj c) v → (i : ℕ) → IsField t c i → Stands t few K (t.fields c i) (further (FieldAt (t.shape c) i) v)
stands_field t few K (lies k y) i f = lies k (field y i f)
stands_field t few K (inside m k y) i f = inside m k (field y i f)

stands_element : (t : Table) (few : Few) (K : Value → Ty → Type 0) {v : Value} {m : ℕ} {b : Ty} → Stands t few K (Row m b) v → (j : ℕ) → j < m → Stands t few K b (further (At (element_shape t b) j) v)
stands_element t few K (lies k y) j l = lies k (element y j l)
stands_element t few K (inside m k y) j l = inside m k (element y j l)

-- what stands at hand, with what lies within it
stands_within : (t : Table) (few : Few) (K : Value → Ty → Type 0) {w : Value} {a : Ty} {v : Value} {b : Ty} → Stands t few K a w → Within t w a v b → Stands t few K b v
stands_within t few K h itself = h
stands_within t few K h (field k i f) = stands_field t few K (stands_within t few K h k) i f
stands_within t few K h (element k j l) = stands_element t few K (stands_within t few K h k) j l

-- what lies at a path in an object

some_type : (a b : Ty) → Some a ≡ Some b → a ≡ b
some_type a b h = cc

no_number : (l : Link) (v : Value) (q : ℕ) → further l v ≡ Object q → ⊥
no_number l (Number z) q e = cc
no_number l (Place o p) q e = cc
no_number l (Running x) q e = cc
no_number l (Object o) q e = cc
no_number l Nothing q e = cc

-- the object itself, and a place in it
abbrev in_object : ℕ → List Link → Value
in_object q [] = Object q
in_object q (l ∷ p) = Place (Fields q) (l ∷ p)

further_in : (q : ℕ) (l : Link) (p : List Link) → further l (in_object q p) ≡ in_object q (l ∷ p)
further_in q l [] = refl
further_in q l (m ∷ p) = refl

-- what has a number lies in itself alone
itself_alone : (t : Table) (w : Value) (a : Ty) (q : ℕ) (v : Value) (b : Ty) → Within t w a v b → v ≡ Object q → w ≡ Object q
itself_alone t w a q v b itself e = e
itself_alone t w a q v b (field {v = u} {c} h i f) e = absurd (no_number _ u q e)
itself_alone t w a q v b (element {v = u} {m} h j l) e = absurd (no_number _ u q e)

module _ (t : Table) (q d : ℕ) where
  abbrev Lies : List Link → Ty → Type 0
  Lies p b = Within t (Object q) (Obj d) (in_object q p) b

  at_path : (p : List Link) (b : Ty) → object_path t d p ≡ Some b → Lies p b
  at_path [] b h = subst (Lies []) (some_type (Obj d) b h) itself
  at_path (Slot k ∷ p) b h = absurd (cc)
  at_path (FieldAt r i ∷ p) b h =
      let f = field_typed t r i (object_path t d p) b h in
      let there = field (at_path p (Obj f.0) f.1) i f.3 in
      subst (λ x. Lies (FieldAt x i ∷ p) b) (sym f.2) (subst (Lies (FieldAt (t.shape f.0) i ∷ p)) f.4 (subst (λ v. Within t (Object q) (Obj d) v (t.fields f.0 i)) (further_in q (FieldAt (t.shape f.0) i) p) there))
  at_path (At r j ∷ p) b h =
      let f = element_typed t r j (object_path t d p) b h in
      let there = element (at_path p (Row f.0 b) f.1) j f.3 in
      subst (λ x. Lies (At x j ∷ p) b) (sym f.2) (subst (λ v. Within t (Object q) (Obj d) v b) (further_in q (At (element_shape t b) j) p) there)

  of_type : (p : List Link) (b : Ty) (x : Option Ty) → object_path t d p ≡ x → is_type t b x ≡ true → Lies p b
  of_type p b None e h = absurd (cc)
  of_type p b (Some a) e h = subst (Lies p) (type_is a b h) (at_path p a e)

no_cell : (t : Table) (w : Value) (a : Ty) (v : Value) (b : Ty) → Within t w a v b → (q d c : ℕ) → v ≡ Object q → a ≡ Obj d → b ≡ Cell (Obj c) → ⊥
no_cell t w a v b itself q d c e k l = let m : Obj d ≡ Cell (Obj c) = sym k ∙ l in cc
no_cell t w a v b (field {v = u} h i f) q d c e k l = no_number _ u q e
no_cell t w a v b (element {v = u} h j m) q d c e k l = no_number _ u q e

-- a place in it is none of the object itself
in_fields : (t : Table) (q d c : ℕ) (p : List Link) → Within t (Object q) (Obj d) (in_object q p) (Cell (Obj c)) → Within t (Object q) (Obj d) (Place (Fields q) p) (Cell (Obj c))
in_fields t q d c [] h = absurd (no_cell t (Object q) (Obj d) (Object q) (Cell (Obj c)) h q d c refl refl refl)
in_fields t q d c (l ∷ p) h = h

module _ (t : Table) (few : Few) (had : HasOthers few) (gs : List Sig) (g : Sig) (s : State) (this : KnownThis t few s.env.exec (AtHand t few s.env.exec (others gs) s.callers) g g.this s.run.this) where
  abbrev Near : Value → Ty → Type 0
  Near w a = Here t few gs s w a

  told_here : (v : Value) (b : Ty) → Base few s.env.exec v b → Near v b
  told_here v b h = inl (base_things t few s.env.exec (s.run ∷ s.callers) v b h)

  -- what is in scope is there
  stands_here : (b : Ty) (v : Value) → in_scope t few s b v ≡ true → Stands t few Near b v
  stands_here b (Place (Frame n d) p) h =
      let e : n ≡ s.env.exec = exec_is n s.env.exec (left_is (exec_eq n s.env.exec) (stack_has t b p d (s.run ∷ s.callers)) h) in
      let i = in_stack t s.env.exec d p b (s.run ∷ s.callers) (right_is (exec_eq n s.env.exec) (stack_has t b p d (s.run ∷ s.callers)) h) in
      subst (λ m. Stands t few Near b (Place (Frame m d) p)) (sym e) (lies (inl (variable_thing t s.env.exec few (s.run ∷ s.callers) i.thing i.type i.there)) i.within)
  stands_here b v h = absurd (cc)

  -- so an object lies in what is at hand
  object_there : (m : Bool) (c : ℕ) (v : Value) → t.mutex c ≡ m → object_in_scope t few s m c v ≡ true → LiesIn t few s.env.exec Near (Obj c) v
  object_there true c (Object o) e h = inl (inside e (stands_here (cell_of c) (few.home o) h) itself)
  object_there true c v e h = absurd (cc)
  object_there false c (Place o p) e h = inl (stands_here (Obj c) (Place o p) h)
  object_there false c v e h = absurd (cc)

  -- a mutex object at hand that is whole, and what is at home there
  this_held : g.whole ≡ false → (d q : ℕ) → g.this ≡ Some d → s.run.this ≡ Object q → t.mutex d ≡ true → Held t few Near (Obj d) (Object q)
  this_held w d q e i m =
      let k : Known t few s.env.exec (AtHand t few s.env.exec (others gs) s.callers) (object_ty g.whole d) (Object q) = subst (Known t few s.env.exec (AtHand t few s.env.exec (others gs) s.callers) (object_ty g.whole d)) i (subst (λ o. KnownThis t few s.env.exec (AtHand t few s.env.exec (others gs) s.callers) g o s.run.this) e this) in
      let l : Known t few s.env.exec (AtHand t few s.env.exec (others gs) s.callers) (Obj d) (Object q) = subst (λ b. Known t few s.env.exec (AtHand t few s.env.exec (others gs) s.callers) (object_ty b d) (Object q)) w k in
      held_more t few s.env.exec (AtHand t few s.env.exec (others gs) s.callers) Near (older_hand t few s.env.exec gs s.run s.callers) (Obj d) (Object q) (l.held m)

  at_home : (c d q : ℕ) (p : List Link) (o : ℕ) → t.mutex c ≡ true → few.home o ≡ Place (Fields q) p → s.run.this ≡ Object q → t.mutex d ≡ true → Within t (Object q) (Obj d) (Place (Fields q) p) (Cell (Obj c)) → ((x : ℕ) → Near s.run.this (Raw x) → LiesAtHand t few gs g s (Obj c) (Object o)) → Held t few Near (Obj d) (Object q) → LiesAtHand t few gs g s (Obj c) (Object o)
  at_home c d q p o mutex home is m there made (inl stands) =
      let cell : Stands t few Near (Cell (Obj c)) (few.home o) = subst (Stands t few Near (Cell (Obj c))) (sym home) (stands_within t few Near stands there) in
      record { rooted = λ r. inl (inside mutex cell itself); held = λ x. inl (inside mutex cell itself) }
  at_home c d q p o mutex home is m there made (inr h) =
      made h.1 (subst (λ w. Near w (Raw h.1)) (itself_alone t h.0 (Obj h.1) q (Object q) (Obj d) h.3 refl ∙ sym is) h.2)

  in_this : (c o : ℕ) (f : Option ℕ) → g.this ≡ f → (v w : Value) → s.run.this ≡ v → few.home o ≡ w → g.whole ≡ false → t.mutex c ≡ true → at_home_in t few g s c f v w ≡ true → ((x : ℕ) → Near s.run.this (Raw x) → LiesAtHand t few gs g s (Obj c) (Object o)) → LiesAtHand t few gs g s (Obj c) (Object o)
  in_this c o (Some d) f (Object q) (Place (Fields u) p) e home w mutex h made =
      let same : u ≡ q = eqb-true u q (left_is (nat_eq u q) (t.mutex d && is_type t (cell_of c) (object_path t d p)) h) in
      let r = right_is (nat_eq u q) (t.mutex d && is_type t (cell_of c) (object_path t d p)) h in
      let m = left_is (t.mutex d) (is_type t (cell_of c) (object_path t d p)) r in
      let there = of_type t q d p (cell_of c) (object_path t d p) refl (right_is (t.mutex d) (is_type t (cell_of c) (object_path t d p)) r) in
      at_home c d q p o mutex (subst (λ x. few.home o ≡ Place (Fields x) p) same home) e m (in_fields t q d c p there) made (this_held w d q f e m)
  in_this c o f i v w e home whole mutex h made = absurd (cc)

  elsewhere : (c : ℕ) (v : Value) (b : Bool) → object_in_scope t few s (t.mutex c) c v ≡ b → (x : Bool) → home_in_this t few g s c v ≡ x → LiesElsewhere t few gs g s b x c v → LiesAtHand t few gs g s (Obj c) v
  elsewhere c v true e x f h = record {
    rooted = λ r. object_there (t.mutex c) c v refl e;
    held = λ m. object_there (t.mutex c) c v refl e;
  }
  elsewhere c (Object o) false e true f h =
      let r = right_is (not g.whole) (t.mutex c && at_home_in t few g s c g.this s.run.this (few.home o)) f in
      in_this c o g.this refl s.run.this (few.home o) refl refl (not_is g.whole (left_is (not g.whole) (t.mutex c && at_home_in t few g s c g.this s.run.this (few.home o)) f)) (left_is (t.mutex c) (at_home_in t few g s c g.this s.run.this (few.home o)) r) (right_is (t.mutex c) (at_home_in t few g s c g.this s.run.this (few.home o)) r) h
  elsewhere c v false e true f h = absurd (cc)
  elsewhere c v false e false f h =
      ⊎_elim (λ l. l) (λ o. record {
        rooted = λ r. lies_of_others t few had s.env.exec Near told_here (Obj c) v o;
        held = λ m. lies_of_others t few had s.env.exec Near told_here (Obj c) v o;
      }) h

  -- a mutex object that is another's is had, with its home
  abbrev pub HasItsHome : Value → Type 0
  HasItsHome v = (q : ℕ) → v ≡ Object q → is_anothers few.home s.env.exec v ≡ true → (c : ℕ) → Base few s.env.exec (few.home q) (Cell (Obj c))

  anothers : (c : ℕ) (v : Value) → t.mutex c ≡ true → is_anothers few.home s.env.exec v ≡ true → HasItsHome v → LiesAtHand t few gs g s (Obj c) v
  anothers c (Object q) m e told =
      let held : Held t few Near (Obj c) (Object q) = inl (inside m (lies (told_here (few.home q) (Cell (Obj c)) (told q refl e c)) itself) itself) in
      record { rooted = λ r. held; held = λ x. held }
  anothers c (Number z) m e told = absurd (cc)
  anothers c (Place o p) m e told = absurd (cc)
  anothers c (Running x) m e told = absurd (cc)
  anothers c Nothing m e told = absurd (cc)

  unless_anothers : (c : ℕ) (v : Value) → HasItsHome v → (b : Bool) → (t.mutex c && is_anothers few.home s.env.exec v) ≡ b → UnlessAnothers t few gs g s b (LiesElsewhere t few gs g s (object_in_scope t few s (t.mutex c) c v) (home_in_this t few g s c v) c v) → LiesAtHand t few gs g s (Obj c) v
  unless_anothers c v told true e h =
      anothers c v (left_is (t.mutex c) (is_anothers few.home s.env.exec v) e) (right_is (t.mutex c) (is_anothers few.home s.env.exec v) e) told
  unless_anothers c v told false e h =
      elsewhere c v (object_in_scope t few s (t.mutex c) c v) refl (home_in_this t few g s c v) refl h

  -- a binding that lies so is known
  pub lying_known : (a : Ty) (v : Value) → IsBinding a → Is t a v × IsFew t few s.env.exec a v → HasItsHome v → LiesLeft t few gs g s a v → Known t few s.env.exec Near a v
  lying_known Num v i h told l = tt
  lying_known (Cell Num) v i h told l = record { is = h.0; passes = h.1; rooted = λ r. absurd r; held = λ m. absurd m; seated = λ z. absurd z }
  lying_known (Cell a) v i h told l = absurd i
  lying_known (Obj c) v i h told l =
      let z = unless_anothers c v told (t.mutex c && is_anothers few.home s.env.exec v) refl l in
      record { is = h.0; passes = h.1; rooted = z.rooted; held = z.held; seated = λ y. absurd y }
  lying_known (Raw c) v i h told l = absurd i
  lying_known (Row m a) v i h told l = absurd i
  lying_known Clu v i h told l = record { is = h.0; passes = h.1; rooted = λ r. absurd r; held = λ m. absurd m; seated = λ z. absurd z }
  lying_known Pro v i h told l = record { is = h.0; passes = h.1; rooted = λ r. absurd r; held = λ m. absurd m; seated = λ z. absurd z }

  pub seen_known : (a : Ty) (v : Value) → HasItsHome v → IsSeen t few gs g s a v → Known t few s.env.exec Near a v
  seen_known a v told h = lying_known a v (bound_is a h.0) h.1 told h.2
