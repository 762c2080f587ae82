-- What a constructor has bound is known to it where it reads that.
use Rattle.std.proofs.Common.{◌≡◌, ℕ, zero, suc, ◌≤◌, ◌⊎◌, inl, inr, Bool, true, false, List, [], ◌∷◌, length, Option, Some, None, refl, sym, ap, ◌∙◌, subst, arith}
use Rattle.std.specs.Prelude.{◌&&◌, ◌||◌, nat_eq, slice_index_or, if◌then◌else◌}
use Rattle.std.proofs.lemmas.Bool.{eqb-true}
use Rattle.uc_tree.specs.Programs.{Program}
use Rattle.uc_tree.specs.Source as src
use Rattle.uc_tree.specs.Source.{Shape, CleanUp, Stmts}
use Rattle.uc_machine.specs.declared.exec.Exec.{Exec}
use Rattle.uc_machine.specs.declared.exec.Owner.{Owner}
use Rattle.uc_machine.specs.declared.exec.Owner.TheVariants.{Frame, Fields}
use Rattle.uc_machine.specs.Executions.{exec_eq, at_depth, list_in, frames_of, frames_in, parked_at}
use Rattle.uc_machine.specs.Pieces as piece
use Rattle.uc_machine.specs.Pieces.{Link, Slot, FieldAt, Value, Place, Todo, Active, State, further, loaded, address, nought}
use Rattle.uc_rules.specs.Breaks.{breaks_of}
use Rattle.uc_typing.specs.Typing.{Ty, Num, Cell, Obj, Sig, Table, CleansAt, Yields}
use Rattle.uc_sound.specs.SoundFormed.{IsFormed}
use Rattle.uc_sound.specs.Tables.{table_of}
use Rattle.uc_sound.proofs.Lists.{left_is, right_is}
use Rattle.uc_sound.proofs.SoundLemmas.{law_sound}
use Rattle.uc_life_laws.specs.Things.{Few, IsField, Within, itself, IsBinding, AtField, IsFor, InTodo, AwaitsScope, Outer, Known, Holds}
use Rattle.uc_life_laws.specs.LifeStates.{frame_at}
use Rattle.uc_life_laws.specs.Knowing.{AtHand, Here, ReadsKnown, Finds}
use Rattle.uc_life_laws.specs.Lives.{OutwardsOrMade, MakingIn}
use Rattle.uc_life_laws.proofs.Knowns.{known_more, frames_length}
use Rattle.uc_life_laws.proofs.LifeSteps.{exec_same}
use Rattle.uc_life_laws.proofs.LivesLemmas.{Below, below, making_here}
use Rattle.uc_life_laws.proofs.Reading.{exec_is}
use Rattle.uc_building_laws.specs.Building.{is_settled, heads_of, Behind, Stills, Lands, Now}
use Rattle.uc_building_laws.specs.BuildingStates.{variable, AtScope, Awaits, IsLoose, IsBuilt, IsMaking, Builds, of_run, of_wait, AllBuild, BuiltState}
use Rattle.uc_building_laws.specs.BuiltReads.{may_bind, ended_class, scope_class, scope_variable, is_slot, in_frame, is_variable, is_told, builds_it, is_building, reads_bound_at, reads_bound, LawBuiltReads}
use Rattle.uc_building_laws.proofs.Heads.{fields_are_kept}
use Rattle.uc_building_laws.proofs.Keeping.{some_is}
use Rattle.uc_building_laws.proofs.Settled.{settled_head, ahead}

-- tests

none_settled : (b : Bool) → (if b then false else true) ≡ false → b ≡ true
none_settled true h = refl
none_settled false h = absurd (cc)

slot_is : (k : ℕ) (p : List Link) → is_slot k p ≡ true → p ≡ Slot k ∷ []
slot_is k (Slot j ∷ []) h = ap (λ j. Slot j ∷ []) (eqb-true j k h)
slot_is k p h = absurd (cc)

frame_is : (n : Exec) (f : ℕ) (o : Owner) → in_frame n f o ≡ true → o ≡ Frame n f
frame_is n f (Frame x d) h =
    let e : x ≡ n = exec_is x n (left_is (exec_eq x n) (nat_eq d f) h) in
    let q : d ≡ f = eqb-true d f (right_is (exec_eq x n) (nat_eq d f) h) in
    cc
frame_is n f (Fields o) h = absurd (cc)

variable_is : (n : Exec) (f k : ℕ) (v : Value) → is_variable n f k v ≡ true → v ≡ variable n f k
variable_is n f k (Place o p) h =
    let e : o ≡ Frame n f = frame_is n f o (left_is (in_frame n f o) (is_slot k p) h) in
    let q : p ≡ Slot k ∷ [] = slot_is k p (right_is (in_frame n f o) (is_slot k p) h) in
    cc
variable_is n f k v h = absurd (cc)

record AreOne (told : ℕ → Bool) (a b : Option ℕ) : Type 0 where
  class : ℕ
  first : a ≡ Some class
  second : b ≡ Some class
  tells : told class ≡ true

told_are : (told : ℕ → Bool) (a b : Option ℕ) → is_told told a b ≡ true → AreOne told a b
told_are told (Some c) (Some d) h =
    let e : c ≡ d = eqb-true c d (left_is (nat_eq c d) (told c) h) in
    record { class = c; first = refl; second = ap Some (sym e); tells = right_is (nat_eq c d) (told c) h }
told_are told (Some c) None h = absurd (cc)
told_are told None b h = absurd (cc)

pub ended_is : (g : Sig) (i : ℕ) → ended_class g ≡ Some i → (g.this ≡ Some i) × (g.whole ≡ true)
ended_is g i = by g.whole refl
  where
    by : (b : Bool) → g.whole ≡ b → (if b then g.this else None) ≡ Some i → (g.this ≡ Some i) × (g.whole ≡ true)
    by true e h = (h, e)
    by false e h = absurd (cc)

scope_cleans : (t : Table) (c : CleanUp) (i : ℕ) → scope_class t c ≡ Some i → CleansAt t (Obj i) (src.Variable (scope_variable c)) c
scope_cleans t (src.Destroys (src.OfObject (src.CallOn d (src.Variable k) args))) i h = let e = ended_is (t.routine d) i h in (refl, e.0, e.1)
scope_cleans t (src.Destroys (src.OfObject (src.CallUnwritten d (src.Variable k)))) i h = let e = ended_is (t.routine d) i h in (refl, e.0, e.1)
scope_cleans t c i h = absurd (cc)

-- whoever builds waits for a scope

record Awaiting (l : List Todo) : Type 0 where
  line : ℕ
  scope : CleanUp
  body : Stmts
  rest : List Todo
  is : l ≡ piece.DropNow ∷ (piece.Within line ∷ (piece.Rest (src.Scoped scope body) ∷ rest))

awaiting : (t : Table) (heads : ℕ → ℕ → Bool) (g : Sig) (s : State) (m f : ℕ) (l : List Todo) → builds_it t heads g s m f l ≡ true → Awaiting l
awaiting t heads g s m f (piece.DropNow ∷ (piece.Within line ∷ (piece.Rest (src.Scoped c ss) ∷ rest))) h = record { line = line; scope = c; body = ss; rest = rest; is = refl }
awaiting t heads g s m f l h = absurd (cc)

record ReadsOwn (t : Table) (heads : ℕ → ℕ → Bool) (g : Sig) (s : State) (l : List Todo) : Type 0 where
  shape : Shape
  field : ℕ
  todo : List Todo
  is : l ≡ piece.Eval (src.OfObject (src.GetOwn shape field)) ∷ todo
  builds : is_building t heads g s field todo s.callers ≡ true

reads_own : (t : Table) (heads : ℕ → ℕ → Bool) (g : Sig) (s : State) (l : List Todo) → reads_bound_at t heads g s l ≡ true → ReadsOwn t heads g s l
reads_own t heads g s (piece.Eval (src.OfObject (src.GetOwn k m)) ∷ todo) h = record { shape = k; field = m; todo = todo; is = refl; builds = h }
reads_own t heads g s l h = absurd (cc)

no_cell : (a : Ty) → Cell a ≡ Num → ⊥
no_cell a e = absurd (cc)

no_truth : false ≡ true → ⊥
no_truth e = absurd (cc)

-- a field that no statement binds that is left

module _ (t : Table) (heads : ℕ → ℕ → Bool) (ps : List Ty) (c m : ℕ) where
  none_left : (todo : List Todo) → may_bind m todo ≡ false → Behind t heads ps c m todo → ⊥
  none_left (piece.Rest ss ∷ todo) o h = settled_head t heads ps c m ss (none_settled (is_settled m ss) o) h
  none_left (piece.Do a ∷ todo) o h = ahead t heads ps c m a (Behind t heads ps c m todo) ⊥ (none_left todo o) h
  none_left (piece.DropNow ∷ todo) o h = none_left todo o h
  none_left (piece.Within line ∷ todo) o h = none_left todo o h
  none_left todo o h = absurd h

  none_lands : (w : Value) (K : Ty → Value → Type 0) (todo : List Todo) (vs : List Value) → may_bind m todo ≡ false → Lands t heads ps c m w K todo vs → ⊥
  none_lands w K (piece.FieldNow s j ∷ todo) vs o h = none_lands w K todo vs o h
  none_lands w K (piece.BindNow ∷ todo) vs o h = none_left todo o h.1
  none_lands w K todo vs o h = absurd h

  none_stills : (todo : List Todo) → may_bind m todo ≡ false → Stills t heads ps c m todo → ⊥
  none_stills (piece.Eval e ∷ todo) o h = none_stills todo o h.1
  none_stills (piece.LoadNow ∷ todo) o h = none_stills todo o h
  none_stills (piece.ElementNow n s ∷ todo) o h = none_stills todo o h
  none_stills (piece.FieldNow s j ∷ todo) o h = none_stills todo o h
  none_stills (piece.NegateNow ∷ todo) o h = none_stills todo o h
  none_stills (piece.NotNow ∷ todo) o h = none_stills todo o h
  none_stills (piece.CharacterNow ∷ todo) o h = none_stills todo o h
  none_stills (piece.TruthNow ∷ todo) o h = none_stills todo o h
  none_stills (piece.OperateNow op ∷ todo) o h = none_stills todo o h
  none_stills (piece.Choose e f ∷ todo) o h = none_stills todo o h.1
  none_stills (piece.KeepNow ∷ todo) o h = none_left todo o h
  none_stills todo o h = absurd h

  -- nor what is read now
  not_now : (w : Value) (K : Ty → Value → Type 0) (k : Shape) (todo : List Todo) (vs : List Value) → may_bind m todo ≡ false → Now t heads ps c m w K (piece.Eval (src.OfObject (src.GetOwn k m)) ∷ todo) vs → ⊥
  not_now w K k todo vs o (inl (inl x)) = x
  not_now w K k todo vs o (inl (inr (inl x))) = x
  not_now w K k todo vs o (inl (inr (inr x))) = x.1.4.1 refl
  not_now w K k todo vs o (inr (inl x)) = x.0
  not_now w K k todo vs o (inr (inr (inl x))) = x
  not_now w K k todo vs o (inr (inr (inr (inl x)))) = none_lands w K todo vs o x.1
  not_now w K k todo vs o (inr (inr (inr (inr x)))) = none_stills todo o x.1

-- what is at hand outwards of a scope that opens next is at hand

module _ (t : Table) (few : Few) (n : Exec) (gs : List Sig) where
  -- what those that wait have at hand, and build and destroy
  abbrev Behind_all : List Active → Value → Ty → Type 0
  Behind_all cs w d = Outer t few n cs w d ⊎ MakingIn gs cs w d

  scope_behind : (b : Active) (older : List Active) (line : ℕ) (c : CleanUp) (ss : Stmts) (rest : List Todo) → b.control ≡ piece.DropNow ∷ (piece.Within line ∷ (piece.Rest (src.Scoped c ss) ∷ rest)) → (w : Value) (d : Ty) → AtScope t few gs n b.frame b.this older c rest w d → Behind_all (b ∷ older) w d
  scope_behind b older line c ss rest waits w d (inl (inl (inl h))) =
      inl (inr (inl (h.0, h.1, subst (AwaitsScope (λ x. (v : Value) × (e : Ty) × IsFor t (Frame n b.frame) b.this x v e × Within t v e w (Obj h.0))) (sym waits) h.2)))
  scope_behind b older line c ss rest waits w d (inl (inl (inr h))) =
      inl (inl (inl (subst (λ l. InTodo (IsFor t (Frame n b.frame) b.this) (AtField t (Frame n b.frame) b.this) l w d) (sym waits) h)))
  scope_behind b older line c ss rest waits w d (inl (inr (inl h))) = inl (inl (inr h))
  scope_behind b older line c ss rest waits w d (inl (inr (inr h))) = inl (inr (inr h))
  scope_behind b older line c ss rest waits w d (inr h) = inr h

  more_behind : (b : Active) (older : List Active) (w : Value) (d : Ty) → Behind_all older w d → Behind_all (b ∷ older) w d
  more_behind b older w d (inl (inl h)) = inl (inl (inr h))
  more_behind b older w d (inl (inr h)) = inl (inr (inr h))
  more_behind b older w d (inr h) = inr (inr h)

  behind_here : (a : Active) (cs : List Active) → Below (a ∷ cs) → length (a ∷ cs) ≤ length gs → (w : Value) (d : Ty) → Behind_all cs w d → AtHand t few n gs (a ∷ cs) w d
  behind_here a cs deep fits w d (inl (inl h)) = inl (inr h)
  behind_here a cs deep fits w d (inl (inr h)) = inr (inr h)
  behind_here a cs deep fits w d (inr h) = inr (inl (making_here t few gs (a ∷ cs) w d deep fits (inr h)))

module _ (p : Program) (formed : IsFormed p) (accepted : breaks_of p ≡ []) (few : Few) (s : State) (x : BuiltState (table_of p) (heads_of p) few [] s) where
  abbrev t : Table
  t = table_of p

  abbrev heads : ℕ → ℕ → Bool
  heads = heads_of p

  abbrev n : Exec
  n = s.env.exec

  abbrev gs : List Sig
  gs = x.0.sigs

  abbrev Near : Value → Ty → Type 0
  Near w a = AtHand t few n gs (s.run ∷ s.callers) w a

  frames_here : frames_of s.env.exec s.env ≡ s.env.frames
  frames_here = ap (λ (c : Bool). if c then s.env.frames else frames_in (parked_at s.env.exec s.env)) (exec_same s.env.exec)

  module _ (k : Shape) (m : ℕ) (todo : List Todo) (e : s.run.control ≡ piece.Eval (src.OfObject (src.GetOwn k m)) ∷ todo) where
    abbrev read : Value
    read = loaded (further (FieldAt k m) s.run.this) s.env

    -- the object of a class, at a variable, whose fields hold what is known
    module _ (f j i : ℕ) (K L : Value → Ty → Type 0) (more : (w : Value) (a : Ty) → K w a → L w a) (is : s.run.this ≡ variable n f j) (told : heads i m ≡ true) (a : Ty) (shape : k ≡ t.shape i) (cell : Cell a ≡ t.fields i m) (binds : IsBinding a) where
      is_field : IsField t i m
      is_field = by m cell
        where
          by : (m : ℕ) → Cell a ≡ t.fields i m → IsField t i m
          by zero q z = absurd (no_cell a (q ∙ (law_sound p formed accepted).leads i z))
          by (suc m) q z = omega arith

      read_there : read ≡ slice_index_or (frame_at f s.env.frames) (address (FieldAt (t.shape i) m ∷ (Slot j ∷ []))) nought
      read_there =
          ap (λ k. loaded (further (FieldAt k m) s.run.this) s.env) shape ∙ (ap (λ v. loaded (further (FieldAt (t.shape i) m) v) s.env) is ∙ ap (λ fs. slice_index_or (list_in (at_depth fs f)) (address (FieldAt (t.shape i) m ∷ (Slot j ∷ []))) nought) frames_here)

      held : Holds t few n K (Frame n f) (frame_at f s.env.frames) (further (FieldAt (t.shape i) m) (variable n f j)) (t.fields i m) → Known t few n L a read
      held h =
          let w = further (FieldAt (t.shape i) m) (variable n f j) in
          let there : Known t few n K a (slice_index_or (frame_at f s.env.frames) (address (FieldAt (t.shape i) m ∷ (Slot j ∷ []))) nought) = h (FieldAt (t.shape i) m ∷ (Slot j ∷ [])) a (subst (λ b. Within t w b w (Cell a)) cell itself) binds in
          known_more t few n K L more a read (subst (Known t few n K a) (sym read_there) there)

      built : (M : List Ty → ℕ → ℕ → Value → (Ty → Value → Type 0) → Type 0) → ((ps : List Ty) (c : ℕ) (w : Value) (K : Ty → Value → Type 0) → M ps c m w K → ⊥) → (own depth : ℕ) (this : Value) → IsBuilt t heads few gs n s.env.frames f (variable n f j) i K ⊎ IsMaking t heads few gs n M s.env.frames own depth this f (variable n f j) i K → Known t few n L a read
      built M none own depth this (inl h) = held (h m is_field told)
      built M none own depth this (inr h) = by (h.fields m is_field told)
        where
          by : Holds t few n K (Frame n f) (frame_at f s.env.frames) (further (FieldAt (t.shape i) m) (variable n f j)) (t.fields i m) ⊎ (M h.params i m (variable n f j) (Known t few n K) × IsLoose s.env.frames f (further (FieldAt (t.shape i) m) (variable n f j))) → Known t few n L a read
          by (inl y) = held y
          by (inr y) = absurd (none h.params i (variable n f j) (Known t few n K) y.0)

    module _ (a : Ty) (d : ℕ) (class : x.0.run.sig.this ≡ Some d) (shape : k ≡ t.shape d) (cell : Cell a ≡ t.fields d m) (binds : IsBinding a) where
      -- by the list of the one that waits
      by_scope : (M : List Ty → ℕ → ℕ → Value → (Ty → Value → Type 0) → Type 0) → ((ps : List Ty) (c : ℕ) (w : Value) (K : Ty → Value → Type 0) → M ps c m w K → ⊥) → (own depth : ℕ) (this : Value) (b : Active) (older : List Active) (line : ℕ) (c : CleanUp) (ss : Stmts) (rest : List Todo) → b.control ≡ piece.DropNow ∷ (piece.Within line ∷ (piece.Rest (src.Scoped c ss) ∷ rest)) → ((w : Value) (e : Ty) → Behind_all t few n gs (b ∷ older) w e → Near w e) → ((j i : ℕ) → CleansAt t (Obj i) (src.Variable j) c → IsBuilt t heads few gs n s.env.frames b.frame (variable n b.frame j) i (AtScope t few gs n b.frame b.this older c rest) ⊎ IsMaking t heads few gs n M s.env.frames own depth this b.frame (variable n b.frame j) i (AtScope t few gs n b.frame b.this older c rest)) → (is_told (λ i. heads i m) x.0.run.sig.this (scope_class t c) && is_variable n b.frame (scope_variable c) s.run.this) ≡ true → Known t few n Near a read
      by_scope M none own depth this b older line c ss rest waits near h o =
          let one = told_are (λ i. heads i m) x.0.run.sig.this (scope_class t c) (left_is (is_told (λ i. heads i m) x.0.run.sig.this (scope_class t c)) (is_variable n b.frame (scope_variable c) s.run.this) o) in
          let is = variable_is n b.frame (scope_variable c) s.run.this (right_is (is_told (λ i. heads i m) x.0.run.sig.this (scope_class t c)) (is_variable n b.frame (scope_variable c) s.run.this) o) in
          let same : d ≡ one.class = some_is (sym class ∙ one.first) in
          built b.frame (scope_variable c) one.class (AtScope t few gs n b.frame b.this older c rest) Near (λ w e y. near w e (scope_behind t few n gs b older line c ss rest waits w e y)) is one.tells a (shape ∙ ap t.shape same) (cell ∙ ap (λ d. t.fields d m) same) binds M none own depth this (h (scope_variable c) one.class (scope_cleans t c one.class one.second))

      -- an activation that may not bind the field any more, or one that waits
      by_callers : (M : List Ty → ℕ → ℕ → Value → (Ty → Value → Type 0) → Type 0) (own : ℕ) (this : Value) (l : List Todo) → (may_bind m l ≡ false → (ps : List Ty) (c : ℕ) (w : Value) (K : Ty → Value → Type 0) → M ps c m w K → ⊥) → (cs : List Active) → Builds t heads few gs n M s.env.frames own this cs → AllBuild t heads few gs n s.env.frames cs → ((w : Value) (e : Ty) → Behind_all t few n gs cs w e → Near w e) → is_building t heads x.0.run.sig s m l cs ≡ true → Known t few n Near a read
      by_callers M own this l none [] h all near o = absurd (no_truth o)
      by_callers M own this l none (b ∷ older) h all near o =
          by (builds_it t heads x.0.run.sig s m b.frame b.control) refl (may_bind m l) refl o (λ q. by_callers of_wait b.frame b.this b.control (λ r ps c w K y. y) older all.0 all.1 (λ w e y. near w e (more_behind t few n gs b older w e y)) q)
        where
          by : (u : Bool) → builds_it t heads x.0.run.sig s m b.frame b.control ≡ u → (v : Bool) → may_bind m l ≡ v → ((u && (if v then false else true)) || is_building t heads x.0.run.sig s m b.control older) ≡ true → (is_building t heads x.0.run.sig s m b.control older ≡ true → Known t few n Near a read) → Known t few n Near a read
          by true e false r q more =
              let z = awaiting t heads x.0.run.sig s m b.frame b.control e in
              by_scope M (none r) own (suc (length older)) this b older z.line z.scope z.body z.rest z.is near (subst (Awaits (λ c rest. (j i : ℕ) → CleansAt t (Obj i) (src.Variable j) c → IsBuilt t heads few gs n s.env.frames b.frame (variable n b.frame j) i (AtScope t few gs n b.frame b.this older c rest) ⊎ IsMaking t heads few gs n M s.env.frames own (suc (length older)) this b.frame (variable n b.frame j) i (AtScope t few gs n b.frame b.this older c rest))) z.is h) (subst (λ l. builds_it t heads x.0.run.sig s m b.frame l ≡ true) z.is e)
          by true e true r q more = more q
          by false e v r q more = more q

      known : is_building t heads x.0.run.sig s m todo s.callers ≡ true → Known t few n Near a read
      known o =
          let f = x.1.0.frames in
          let same : length s.env.frames ≡ length gs = frames_length t few n gs s.env.frames (s.run ∷ s.callers) x.0.frames in
          by_callers (of_run t heads s.run) s.run.frame s.run.this todo (λ r ps c w K y. not_now t heads ps c m w K k todo s.run.operands r (subst (λ l. Now t heads ps c m w K l s.run.operands) e y)) s.callers x.1.1.run x.1.1.callers (behind_here t few n gs s.run s.callers (below t few (OutwardsOrMade gs) n s.env.frames (s.run ∷ s.callers) x.1.0.stack) (omega (arith, same, f))) o

    all_read : (a : Ty) → Known t few n (Here t few gs s) a read → ReadsKnown t few gs s a (further (FieldAt k m) s.run.this)
    all_read a h = record {
      untracked = λ r q. h;
      seated = λ r q. h;
      foreign = λ o. h;
      field = λ w b o i. h;
      making = λ w c o i. h;
    }

    reads : is_building t heads x.0.run.sig s m todo s.callers ≡ true → (a : Ty) → Yields t x.0.run.sig x.0.run.scope (src.OfObject (src.GetOwn k m)) a → ReadsKnown t few gs s a (further (FieldAt k m) s.run.this)
    reads o a y = by (fields_are_kept p y.0 m a y.3)
      where
        by : (a ≡ Num) ⊎ IsBinding a → ReadsKnown t few gs s a (further (FieldAt k m) s.run.this)
        by (inl z) = all_read a (subst (λ a. Known t few n (Here t few gs s) a read) (sym z) tt)
        by (inr z) = all_read a (known a y.0 y.1 y.2 y.3 z o)

  found : reads_bound t heads x.0.run.sig s ≡ true → Finds t few gs x.0.run.sig x.0.run.scope s s.run.control x.0.run.own
  found o =
      let z = reads_own t heads x.0.run.sig s s.run.control o in
      subst (λ l. Finds t few gs x.0.run.sig x.0.run.scope s l x.0.run.own) (sym z.is) (λ a y. reads z.shape z.field z.todo z.is z.builds a y)

pub law_built_reads : LawBuiltReads
law_built_reads p formed accepted few s x o = found p formed accepted few s x o
