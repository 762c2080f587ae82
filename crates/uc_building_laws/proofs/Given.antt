-- What a constructor is given is at hand outwards of the scope that opens next, and what is known there is so where it opens.
use Rattle.std.proofs.Common.{◌≡◌, ℕ, ◌-◌, ◌⊎◌, inl, inr, ⊎_elim, Bool, true, List, [], ◌∷◌, Some, refl, sym, subst}
use Rattle.std.specs.Prelude.{replicate, slice_get, slice_index_or}
use Rattle.uc_tree.specs.Source as src
use Rattle.uc_tree.specs.Source.{Routine, Source, CleanUp}
use Rattle.uc_machine.specs.declared.exec.Exec.{Exec}
use Rattle.uc_machine.specs.declared.exec.Owner.{Owner}
use Rattle.uc_machine.specs.declared.exec.Owner.TheVariants.{Frame}
use Rattle.uc_machine.specs.Executions.{take_operands, others}
use Rattle.uc_machine.specs.Quiet.{call_frame}
use Rattle.uc_machine.specs.Pieces as piece
use Rattle.uc_machine.specs.Pieces.{Link, Value, Todo, Active, State, address, object_in, nought}
use Rattle.uc_typing.specs.Typing.{Ty, Num, Cell, Obj, Raw, Row, Clu, Pro, Sig, Table, IsParam, object_ty}
use Rattle.uc_typing.specs.Pieces.{Ok, onto}
use Rattle.uc_typing.specs.States.{IsNumbered, IsObjectBy, Sound}
use Rattle.uc_life_laws.specs.Things.{Few, Within, itself, Stands, lies, inside, Held, InStack, Base, IsFew, InTodo, LiesIn, IsFor, AtField, Known, Holds}
use Rattle.uc_life_laws.specs.LifeStates.{Outwards}
use Rattle.uc_life_laws.specs.Lives.{MakingIn, OutwardsOrMade}
use Rattle.uc_life_laws.specs.Knowing.{InMaking, AtHand, KnownAll, KnownParams, KnowsState}
use Rattle.uc_life_laws.specs.Opened.{any}
use Rattle.uc_life_laws.proofs.Knowns as known
use Rattle.uc_life_laws.proofs.Reading.{within_raw}
use Rattle.uc_life_laws.proofs.LivesLemmas.{in_newer}
use Rattle.uc_building_laws.specs.BuildingStates.{AtScope}
use Rattle.uc_building_laws.specs.BuildingRuns.{IsByNumber}
use Rattle.uc_building_laws.proofs.Building.{within_more}
use Rattle.uc_building_laws.proofs.Making.{within_cell}

-- what an execution has of others is at hand wherever it stands
in_base : (P Q : Owner → Value → CleanUp → Value → Ty → Type 0) (B : Value → Ty → Type 0) (n : Exec) (cs : List Active) (w : Value) (a : Ty) → B w a → InStack P Q B n cs w a
in_base P Q B n [] w a h = h
in_base P Q B n (c ∷ cs) w a h = inr (in_base P Q B n cs w a h)

module _ (t : Table) (few : Few) where
  -- what is being built by the kinds of older frames is so by those of all
  in_lifted : (gs : List Sig) (cs : List Active) (w : Value) (a : Ty) → MakingIn (others gs) cs w a → MakingIn gs cs w a
  in_lifted [] cs w a h = h
  in_lifted (g ∷ gs) cs w a h = in_newer t few g gs cs w a h

  all_making : (gs : List Sig) (cs : List Active) (w : Value) (a : Ty) → InMaking gs cs w a → MakingIn gs cs w a
  all_making gs [] w a h = absurd h
  all_making gs (c ∷ older) w a (inl h) = inl h
  all_making gs (c ∷ older) w a (inr h) = inr (in_lifted gs older w a (all_making (others gs) older w a h))

  -- what is known outwards of a scope that is to open is so where it opens

  module _ (kinds : List Sig) (n : Exec) (f : ℕ) (this : Value) (older : List Active) (c : CleanUp) (todo : List Todo) where
    abbrev Before : Value → Ty → Type 0
    Before w a = AtScope t few kinds n f this older c todo w a

    abbrev There : Value → Ty → Type 0
    There w a = OutwardsOrMade kinds (Outwards t few n f this older c todo) n f this older w a

    by_thing : (w : Value) (a b : Ty) (v : Value) → ((d : ℕ) → b ≡ Raw d → ⊥) → Before w a → Within t w a v b → Stands t few There b v
    by_thing w a b v whole (inl (inl (inl h))) k = absurd (whole h.0 (within_raw t w h.0 v b (subst (λ a. Within t w a v b) h.1 k)))
    by_thing w a b v whole (inl (inl (inr h))) k = lies (inl (inl (inr h))) k
    by_thing w a b v whole (inl (inr h)) k = lies (inl (inr h)) k
    by_thing w a b v whole (inr h) k = lies (inr h) k

    stands_there : (b : Ty) (v : Value) → ((d : ℕ) → b ≡ Raw d → ⊥) → Stands t few Before b v → Stands t few There b v
    stands_there b v whole (lies {w = w} {a} h k) = by_thing w a b v whole h k
    stands_there b v whole (inside {o = o} {c = d} m h k) = inside m (stands_there (Cell (Obj d)) (few.home o) (λ x e. absurd (cc)) h) k

    by_made : (w : Value) (d : ℕ) (b : Ty) (v : Value) → Before w (Raw d) → Within t w (Obj d) v b → Held t few There b v
    by_made w d b v (inl (inl (inl h))) k =
        let q : d ≡ h.0 = let e = h.1 in cc in
        inl (lies (inl (inl (inl h.2.2))) (within_more t (subst (λ e. Within t h.2.0 h.2.1 w (Obj e)) (sym q) h.2.3) k))
    by_made w d b v (inl (inl (inr h))) k = inr (w, d, inl (inl (inr h)), k)
    by_made w d b v (inl (inr h)) k = inr (w, d, inl (inr h), k)
    by_made w d b v (inr h) k = inr (w, d, inr h, k)

    held_there : (b : Ty) (v : Value) → ((d : ℕ) → b ≡ Raw d → ⊥) → Held t few Before b v → Held t few There b v
    held_there b v whole (inl h) = inl (stands_there b v whole h)
    held_there b v whole (inr h) = by_made h.0 h.1 b v h.2 h.3

    lies_there : (b : Ty) (v : Value) → ((d : ℕ) → b ≡ Raw d → ⊥) → LiesIn t few n Before b v → LiesIn t few n There b v
    lies_there b (piece.Number z) whole h = tt
    lies_there b (piece.Place o p) whole h = held_there b (piece.Place o p) whole h
    lies_there b (piece.Running x) whole h = tt
    lies_there b (piece.Object o) whole h = held_there b (piece.Object o) whole h
    lies_there b piece.Nothing whole h = tt

    pub known_there : (b : Ty) (v : Value) → Known t few n Before b v → Known t few n There b v
    known_there Num v h = tt
    known_there (Cell a) v h =
        let whole : (d : ℕ) → Cell a ≡ Raw d → ⊥ = λ d e. absurd (cc) in
        record { is = h.is; passes = h.passes; rooted = λ i. lies_there (Cell a) v whole (h.rooted i); held = λ m. absurd m; seated = λ i. ⊎_elim (λ l. inl (lies_there (Cell a) v whole l)) (λ l. inr l) (h.seated i) }
    known_there (Obj d) v h =
        let whole : (e : ℕ) → Obj d ≡ Raw e → ⊥ = λ e q. absurd (cc) in
        record { is = h.is; passes = h.passes; rooted = λ i. lies_there (Obj d) v whole (h.rooted i); held = λ m. lies_there (Obj d) v whole (h.held m); seated = λ i. absurd i }
    known_there (Raw d) v h = record { is = h.is; passes = h.passes }
    known_there (Row m a) v h =
        let whole : (d : ℕ) → Row m a ≡ Raw d → ⊥ = λ d e. absurd (cc) in
        record { is = h.is; passes = h.passes; rooted = λ i. lies_there (Row m a) v whole (h.rooted i); held = λ k. absurd k; seated = λ i. ⊎_elim (λ l. inl (lies_there (Row m a) v whole l)) (λ l. inr l) (h.seated i) }
    known_there Clu v h = record { is = h.is; passes = h.passes; rooted = λ i. absurd i; held = λ m. absurd m; seated = λ i. absurd i }
    known_there Pro v h = record { is = h.is; passes = h.passes; rooted = λ i. absurd i; held = λ m. absurd m; seated = λ i. absurd i }

    pub holds_there : (o : Owner) (vs : List Value) (w : Value) (a : Ty) → Holds t few n Before o vs w a → Holds t few n There o vs w a
    holds_there o vs w a h p b x i = known_there b (slice_index_or vs (address p) nought) (h p b x i)

module _ (t : Table) (few : Few) (source : Source) (sound : Sound t source) (s : State) (x : KnowsState t few [] s) (r : ℕ) where
  abbrev ps : List Ty
  ps = (t.routine r).params

  abbrev Here : Value → Ty → Type 0
  Here w a = AtHand t few s.env.exec x.sigs (s.run ∷ s.callers) w a

  abbrev Calls : List Todo → Type 0
  Calls todo = (s.run.control ≡ piece.CallOnNow r ∷ todo) ⊎ (s.run.control ≡ piece.CallUnwrittenNow r ∷ todo)

  -- what a call takes
  owns_on : (todo : List Todo) → s.run.control ≡ piece.CallOnNow r ∷ todo → (more : List Ty) × (x.run.own ≡ onto ps more)
  owns_on todo e =
      let o : Ok t x.run.sig x.run.base x.run.scope (piece.CallOnNow r ∷ todo) x.run.own = subst (λ l. Ok t x.run.sig x.run.base x.run.scope l x.run.own) e x.run.ok in
      (object_ty (t.routine r).whole o.1 ∷ o.0, o.2.0)

  owns_unwritten : (todo : List Todo) → s.run.control ≡ piece.CallUnwrittenNow r ∷ todo → (more : List Ty) × (x.run.own ≡ onto ps more)
  owns_unwritten todo e =
      let o : Ok t x.run.sig x.run.base x.run.scope (piece.CallUnwrittenNow r ∷ todo) x.run.own = subst (λ l. Ok t x.run.sig x.run.base x.run.scope l x.run.own) e x.run.ok in
      (object_ty (t.routine r).whole o.1 ∷ o.0, o.2.0)

  owns : (todo : List Todo) → Calls todo → (more : List Ty) × (x.run.own ≡ onto ps more)
  owns todo (inl e) = owns_on todo e
  owns todo (inr e) = owns_unwritten todo e

  module _ (q : Routine) (is : slice_get source.routines r ≡ Some q) where
    params : (m : (more : List Ty) × (x.run.own ≡ onto ps more)) → KnownParams t few s.env.exec Here ps (call_frame q s.run.operands)
    params m =
        let all : KnownAll t few s.env.exec Here (onto ps m.0) s.run.operands = subst (λ l. KnownAll t few s.env.exec Here l s.run.operands) m.1 x.run.values in
        subst (λ n. KnownParams t few s.env.exec Here ps (take_operands piece.Nothing n s.run.operands (replicate (q.cells - q.params) nought))) (sym (sound.routines r q is).params) (known.params_call t few s.env.exec Here ps m.0 s.run.operands (replicate (q.cells - q.params) nought) all)

    -- where a scope opens next, all that is at hand is so outwards of it
    module _ (line : ℕ) (c : CleanUp) (rest : src.Stmts) (todo : List Todo) where
      abbrev behind : List Todo
      behind = piece.DropNow ∷ (piece.Within line ∷ (piece.Rest (src.Scoped c rest) ∷ todo))

      abbrev Marked : List Todo → Value → Ty → Type 0
      Marked l w a = InTodo (IsFor t (Frame s.env.exec s.run.frame) s.run.this) (AtField t (Frame s.env.exec s.run.frame) s.run.this) l w a

      marked : Calls behind → (w : Value) (a : Ty) → Marked s.run.control w a → Marked todo w a
      marked (inl e) w a h = subst (λ l. Marked l w a) e h
      marked (inr e) w a h = subst (λ l. Marked l w a) e h

      outwards : Calls behind → (w : Value) (a : Ty) → Here w a → AtScope t few x.sigs s.env.exec s.run.frame s.run.this s.callers c todo w a
      outwards e w a (inl (inl h)) = inl (inl (inr (marked e w a h)))
      outwards e w a (inl (inr h)) = inl (inr (inl h))
      outwards e w a (inr (inl (inl h))) = inr (inl h)
      outwards e w a (inr (inl (inr h))) = inr (inr (in_lifted t few x.sigs s.callers w a (all_making t few (others x.sigs) s.callers w a h)))
      outwards e w a (inr (inr h)) = inl (inr (inr h))

      pub given : Calls behind → (j : ℕ) (b : Ty) → IsParam ps j b → Known t few s.env.exec (AtScope t few x.sigs s.env.exec s.run.frame s.run.this s.callers c todo) b (slice_index_or (call_frame q s.run.operands) j nought)
      given e j b i =
          known.known_more t few s.env.exec Here (AtScope t few x.sigs s.env.exec s.run.frame s.run.this s.callers c todo) (outwards e) b _ (known.held t few s.env.exec Here ps (call_frame q s.run.operands) j b (params (owns behind e)) i)

-- what is known by its number is known as soon as it is an object

module _ (t : Table) (s : State) (c : CleanUp) (todo : List Todo) where
  abbrev OutOf : Value → Ty → Type 0
  OutOf w a = Outwards t any s.env.exec s.run.frame s.run.this s.callers c todo w a

  lies_out : (b : Ty) (v : Value) → IsNumbered v → LiesIn t any s.env.exec OutOf b v
  lies_out b (piece.Number z) h = absurd h
  lies_out b (piece.Place o p) h = absurd h
  lies_out b (piece.Running x) h = absurd h
  lies_out b (piece.Object o) h = inl (lies (inr (inl (in_base (IsFor t) (AtField t) (Base any s.env.exec) s.env.exec s.callers (piece.Object o) b refl))) itself)
  lies_out b piece.Nothing h = absurd h

  passes_any : (b : Ty) (v : Value) → IsNumbered v → any.numbers b (object_in v) ≡ true → IsFew t any s.env.exec b v
  passes_any b (piece.Number z) h e = tt
  passes_any b (piece.Place o p) h e = tt
  passes_any b (piece.Running x) h e = tt
  passes_any b (piece.Object o) h e = e
  passes_any b piece.Nothing h e = tt

  by_number : (b : Ty) (v : Value) → IsByNumber t b → IsNumbered v → Known t any s.env.exec OutOf b v
  by_number Num v n h = tt
  by_number (Cell a) v n h = absurd n
  by_number (Obj d) v n h = record {
    is = subst (λ (b : Bool). IsObjectBy t b d v) (sym n) h;
    passes = passes_any (Obj d) v h refl;
    rooted = λ i. lies_out (Obj d) v h;
    held = λ m. lies_out (Obj d) v h;
    seated = λ i. absurd i;
  }
  by_number (Raw d) v n h = absurd n
  by_number (Row m a) v n h = absurd n
  by_number Clu v n h = record { is = h; passes = passes_any Clu v h refl; rooted = λ i. absurd i; held = λ m. absurd m; seated = λ i. absurd i }
  by_number Pro v n h = record { is = h; passes = passes_any Pro v h refl; rooted = λ i. absurd i; held = λ m. absurd m; seated = λ i. absurd i }

  pub numbered_holds : (o : Owner) (vs : List Value) (p : List Link) (b : Ty) → IsByNumber t b → IsNumbered (slice_index_or vs (address p) nought) → Holds t any s.env.exec OutOf o vs (piece.Place o p) (Cell b)
  numbered_holds o vs p b n h q d x binds =
      let y = within_cell t (piece.Place o p) b (piece.Place o q) (Cell d) x in
      let z = y.0 in
      let u = y.1 in
      let path : q ≡ p = cc in
      let type : d ≡ b = cc in
      subst (λ q. Known t any s.env.exec OutOf d (slice_index_or vs (address q) nought)) (sym path) (subst (λ d. Known t any s.env.exec OutOf d (slice_index_or vs (address p) nought)) (sym type) (by_number b (slice_index_or vs (address p) nought) n h))
