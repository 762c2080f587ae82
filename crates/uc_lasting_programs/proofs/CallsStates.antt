-- What is called, made and spawned is had: it is known to who calls, or is at home in what is its own.
use Rattle.std.proofs.Common.{◌≡◌, ℕ, inl, inr, suc, Bool, true, false, List, [], ◌∷◌, length, drop, Some, refl, sym, ap, ◌∙◌, subst, arith, ⊎_elim}
use Rattle.std.specs.Prelude.{slice_get}
use Rattle.uc_tree.specs.Programs.{Program}
use Rattle.uc_tree.specs.Source.{Routine}
use Rattle.uc_machine.specs.declared.exec.Exec.{Exec}
use Rattle.uc_machine.specs.Executions.{others}
use Rattle.uc_machine.specs.Switches.{new_exec}
use Rattle.uc_machine.specs.Monitors.{this_object}
use Rattle.uc_machine.specs.Pieces as piece
use Rattle.uc_machine.specs.Pieces.{Value, Object, Todo, Active, State, Members, top, below, object_in}
use Rattle.uc_machine.specs.Quiet.{home_at}
use Rattle.uc_resolve.specs.Resolve.{source_of}
use Rattle.uc_rules.specs.Breaks.{breaks_of}
use Rattle.uc_name_laws.proofs.Homes.{no_both}
use Rattle.uc_typing.specs.Typing.{Ty, Cell, Obj, Raw, Sig, Table, object_ty}
use Rattle.uc_typing.specs.Pieces.{Ok, onto}
use Rattle.uc_typing.specs.States.{IsObjectBy, IsObject, Sound}
use Rattle.uc_typing.proofs.Frames.{drop_onto}
use Rattle.uc_sound.specs.SoundFormed.{IsFormed}
use Rattle.uc_sound.specs.Tables.{table_of}
use Rattle.uc_sound.proofs.SoundLemmas.{law_sound}
use Rattle.uc_state_laws.specs.Counted.{params_at, params}
use Rattle.uc_life_laws.specs.Things.{Few, Within, lies, inside, Base, Things, Stands, Held, LiesIn, Known}
use Rattle.uc_life_laws.specs.Lives.{LivesState}
use Rattle.uc_life_laws.specs.Knowing as knowing
use Rattle.uc_life_laws.specs.Knowing.{AtHand, InMaking, KnownAll, KnowsState, Finds, main_of}
use Rattle.uc_life_laws.specs.KnownRuns.{Meets}
use Rattle.uc_life_laws.proofs.Knowns.{values_drop, newest}
use Rattle.uc_life_laws.proofs.Reading.{within_raw, not_whole, NoNumber, behind_number}
use Rattle.uc_life_laws.specs.Rooted.{IsBase}
use Rattle.uc_life_laws.proofs.Rooted.{within_object, things_raw, stands_things}
use Rattle.uc_life_laws.specs.Belonging.{Belongs, object}
use Rattle.uc_life_laws.specs.Ending.{Spot, calling}
use Rattle.uc_putting_laws.specs.CleanedSpots.{Under, site_spot, IsOf, IsIn}
use Rattle.uc_putting_laws.specs.ObjectsAtHand.{LiesUnder}
use Rattle.uc_putting_laws.specs.Putting as putting
use Rattle.uc_putting_laws.specs.Putting.{Setting, rests, FirstUnder, FirstHome, OfObjects, SeatAt, CallFits, PutState, spot_at}
use Rattle.uc_putting_laws.specs.PuttingLaws.{special_of, setting_of}
use Rattle.uc_putting_laws.proofs.Marks.{holds_drop, home_of, under_of, stands_under, under_spot}
use Rattle.uc_putting_laws.proofs.ObjectsWithin.{below_own}
use Rattle.uc_putting_laws.proofs.Steps.{here}
use Rattle.uc_making_laws.specs.OwnThis.{HasHome, Has, ThisStack, ThisState, CallsAt, Calls}
use Rattle.uc_making_laws.proofs.ThisSteps.{more, again}
use Rattle.uc_lasting_programs.proofs.Wholes.{plain_whole}

module _ (t : Table) (few : Few) (places : (n : Exec) (w : Value) (b : Ty) → Base few n w b → IsBase w b) where
  -- what is the execution's own
  own_has : (n : Exec) (older : List Active) (v : Value) → Belongs few n v → Has t few n older v
  own_has n older (piece.Number z) h = tt
  own_has n older (piece.Place o p) h = tt
  own_has n older (piece.Running x) h = tt
  own_has n older (piece.Object o) (object h) = inr (inl h)
  own_has n older piece.Nothing h = tt

  -- what is built or destroyed is the object of an activation that is there
  making_has : (n : Exec) (gs : List Sig) (cs : List Active) (o c : ℕ) → ThisStack t few n cs → InMaking gs cs (Object o) (Raw c) → HasHome t few n cs o
  making_has n gs [] o c h k = absurd k
  making_has n gs (a ∷ older) o c h (inl k) =
      let m = k.2.1 in
      more t few n (Object o) older (a ∷ older) (λ w d x. inr x) (subst (Has t few n older) (sym m.2) h.0)
  making_has n gs (a ∷ older) o c h (inr k) =
      more t few n (Object o) older (a ∷ older) (λ w d x. inr x) (making_has n (others gs) older o c h.1 k)

  -- what is known of a mutex object to these activations
  held_has : (n : Exec) (gs : List Sig) (cs : List Active) (o c : ℕ) → ThisStack t few n cs → Held t few (AtHand t few n gs cs) (Obj c) (Object o) → HasHome t few n cs o
  held_has n gs cs o c h (inl (lies {w = w} {a = d} (inl k) i)) =
      absurd (things_raw t few places n cs w d k o c i)
  held_has n gs cs o c h (inl (lies {w = w} {a = d} (inr k) i)) =
      let q = not_whole t n gs cs w d k in
      let e : Obj c ≡ Raw q.0 = within_raw t w q.0 (Object o) (Obj c) (subst (λ d. Within t w d (Object o) (Obj c)) q.1 i) in
      absurd (cc)
  held_has n gs cs o c h (inl (inside {o = u} {c = d} m k i)) =
      let e : Object u ≡ Object o = within_object t (Object u) (Obj d) (Object o) (Obj c) o i refl in
      let same : u ≡ o = cc in
      inr (inr (d, inl (subst (λ (u : ℕ). Stands t few (Things t few n cs) (Cell (Obj d)) (few.home u)) same (stands_things t few n gs cs (Obj d) (few.home u) k))))
  held_has n gs cs o c h (inr k) =
      ⊎_elim (λ x. inr (inr (k.1, inr (subst (λ w. Things t few n cs w (Raw k.1)) e x)))) (λ x. ⊎_elim (λ y. making_has n gs cs o k.1 h (subst (λ w. InMaking gs cs w (Raw k.1)) e y)) (λ y. absurd (subst NoNumber e (behind_number t n cs k.0 (Raw k.1) y))) x) k.2
    where
      e : k.0 ≡ Object o
      e = within_object t k.0 (Obj k.1) (Object o) (Obj c) o k.3 refl

  -- what an execution that is made, or a task that begins, has of others
  based_has : (n : Exec) (o c : ℕ) → Held t few (Base few n) (Obj c) (Object o) → HasHome t few n [] o
  based_has n o c (inl (lies {w = w} {a = d} k i)) =
      absurd (things_raw t few places n [] w d k o c i)
  based_has n o c (inl (inside {o = u} {c = d} m k i)) =
      let e : Object u ≡ Object o = within_object t (Object u) (Obj d) (Object o) (Obj c) o i refl in
      let same : u ≡ o = cc in
      inr (inr (d, inl (subst (λ (u : ℕ). Stands t few (Base few n) (Cell (Obj d)) (few.home u)) same k)))
  based_has n o c (inr k) =
      inr (inr (k.1, inr (subst (λ w. Base few n w (Raw k.1)) (within_object t k.0 (Obj k.1) (Object o) (Obj c) o k.3 refl) k.2)))

  based_value : (n : Exec) (c : ℕ) (v : Value) → LiesIn t few n (Base few n) (Obj c) v → Has t few n [] v
  based_value n c (piece.Number z) h = tt
  based_value n c (piece.Place o p) h = tt
  based_value n c (piece.Running x) h = tt
  based_value n c (piece.Object o) h = based_has n o c h
  based_value n c piece.Nothing h = tt

  -- a mutex object is known by its number
  is_mutex : (c o : ℕ) → IsObject t c (Object o) → t.mutex c ≡ true
  is_mutex c o h = by (t.mutex c) refl
    where
      by : (b : Bool) → t.mutex c ≡ b → t.mutex c ≡ true
      by true e = e
      by false e = absurd (subst (λ b. IsObjectBy t b c (Object o)) e h)

  -- a whole object that is known
  whole_has : (n : Exec) (gs : List Sig) (cs : List Active) (c : ℕ) (v : Value) → ThisStack t few n cs → Known t few n (AtHand t few n gs cs) (Obj c) v → Has t few n cs v
  whole_has n gs cs c (piece.Number z) h k = tt
  whole_has n gs cs c (piece.Place o p) h k = tt
  whole_has n gs cs c (piece.Running x) h k = tt
  whole_has n gs cs c (piece.Object o) h k = held_has n gs cs o c h (k.held (is_mutex c o k.is))
  whole_has n gs cs c piece.Nothing h k = tt

module _ (p : Program) (formed : IsFormed p) (accepted : breaks_of p ≡ []) (few : Few) (places : (n : Exec) (w : Value) (b : Ty) → Base few n w b → IsBase w b) where
  abbrev t : Table
  t = table_of p

  abbrev g : Setting
  g = setting_of p few

  sound : Sound (table_of p) (source_of p)
  sound = law_sound p formed accepted

  module _ (s : State) (put : PutState (setting_of p few) s) (k : KnowsState (table_of p) few [] s) (this : ThisState (table_of p) few s) where
    -- a constructor or a destructor finds its object the execution's own
    spot_own : (y : Spot) → IsOf put.run.made y → (v : Value) → LiesUnder (spot_at few (here s) y) v → Belongs few s.env.exec v
    spot_own y i v u = below_own few s.env.exec (suc s.run.frame) v (under_spot few (here s) put.run.made put.run.this.own (suc s.run.frame) (omega (arith)) y i v u)

    called_own : (r : ℕ) (todo : List Todo) (x : Routine) → special_of p r ≡ true → CallFits (setting_of p few) (here s) put.run.made r put.run.marks todo → params (source_of p) r ≡ x.params → Belongs few s.env.exec (top (drop x.params s.run.operands))
    called_own r todo x special (inl f) n = no_both (special_of p r) special f
    called_own r todo x special (inr (inl f)) n =
        let v = top (drop x.params s.run.operands) in
        let h = under_of few (here s) s.run.elements (rests x.params put.run.marks) (drop x.params s.run.operands) (holds_drop few (here s) s.run.elements x.params put.run.marks s.run.operands put.run.holds) (λ n y. IsOf put.run.made y × SeatAt (setting_of p few) (here s) put.run.made todo (Under ((table_of p).routine r).this n y)) (subst (λ m. FirstUnder (rests m put.run.marks) (λ n y. IsOf put.run.made y × SeatAt (setting_of p few) (here s) put.run.made todo (Under ((table_of p).routine r).this n y))) n f.1) in
        spot_own h.1 h.3.0 (top (drop x.params s.run.operands)) h.2.1
    called_own r todo x special (inr (inr f)) n =
        let h = home_of few (here s) s.run.elements (rests x.params put.run.marks) (drop x.params s.run.operands) (holds_drop few (here s) s.run.elements x.params put.run.marks s.run.operands put.run.holds) (λ y. IsIn put.run.made y × SeatAt (setting_of p few) (here s) put.run.made todo y × OfObjects y) (subst (λ m. FirstHome (rests m put.run.marks) (λ y. IsIn put.run.made y × SeatAt (setting_of p few) (here s) put.run.made todo y × OfObjects y)) n f) in
        let z = h.1 in
        let place : Belongs few s.env.exec z.0 = spot_own (site_spot h.0) h.2.0 z.0 (stands_under few (here s) s.run.elements h.0 z.0 z.1) in
        subst (Belongs few s.env.exec) (sym z.2.object) (object (subst (Belongs few s.env.exec) (sym z.2.home) place))

    -- the operand below the arguments is known
    operand : (r : ℕ) (x : Routine) (c : ℕ) (rest : List Ty) → slice_get (source_of p).routines r ≡ Some x → k.run.own ≡ onto ((table_of p).routine r).params (object_ty ((table_of p).routine r).whole c ∷ rest) → Known (table_of p) few s.env.exec (AtHand (table_of p) few s.env.exec k.sigs (s.run ∷ s.callers)) (object_ty ((table_of p).routine r).whole c) (top (drop x.params s.run.operands))
    operand r x c rest q e =
        let all : KnownAll (table_of p) few s.env.exec (AtHand (table_of p) few s.env.exec k.sigs (s.run ∷ s.callers)) (onto ((table_of p).routine r).params (object_ty ((table_of p).routine r).whole c ∷ rest)) s.run.operands = subst (λ l. KnownAll (table_of p) few s.env.exec (AtHand (table_of p) few s.env.exec k.sigs (s.run ∷ s.callers)) l s.run.operands) e k.run.values in
        let dropped : KnownAll (table_of p) few s.env.exec (AtHand (table_of p) few s.env.exec k.sigs (s.run ∷ s.callers)) (object_ty ((table_of p).routine r).whole c ∷ rest) (drop (length ((table_of p).routine r).params) s.run.operands) = subst (λ l. KnownAll (table_of p) few s.env.exec (AtHand (table_of p) few s.env.exec k.sigs (s.run ∷ s.callers)) l (drop (length ((table_of p).routine r).params) s.run.operands)) (drop_onto ((table_of p).routine r).params (object_ty ((table_of p).routine r).whole c ∷ rest)) (values_drop (table_of p) few s.env.exec (AtHand (table_of p) few s.env.exec k.sigs (s.run ∷ s.callers)) (length ((table_of p).routine r).params) (onto ((table_of p).routine r).params (object_ty ((table_of p).routine r).whole c ∷ rest)) s.run.operands all) in
        subst (λ m. Known (table_of p) few s.env.exec (AtHand (table_of p) few s.env.exec k.sigs (s.run ∷ s.callers)) (object_ty ((table_of p).routine r).whole c) (top (drop m s.run.operands))) (sym (sound.routines r x q).params) (newest (table_of p) few s.env.exec (AtHand (table_of p) few s.env.exec k.sigs (s.run ∷ s.callers)) (object_ty ((table_of p).routine r).whole c) rest (drop (length ((table_of p).routine r).params) s.run.operands) dropped)

    -- the activation that calls has this to do behind the call
    abbrev Waiting : List Todo → List Value → Active
    Waiting todo vs = record s.run { control = todo; operands = vs }

    fewer : (written : Bool) (r : ℕ) (todo : List Todo) (vs : List Value) → s.run.control ≡ calling written r ∷ todo → (v : Value) → Has (table_of p) few s.env.exec (s.run ∷ s.callers) v → Has (table_of p) few s.env.exec (record s.run { control = todo; operands = vs } ∷ s.callers) v
    fewer true r todo vs e v h =
        again (table_of p) few s.env.exec v (record s.run { control = piece.CallOnNow r ∷ todo }) (record s.run { control = todo; operands = vs }) s.callers (λ w a x. x) (subst (λ l. Has (table_of p) few s.env.exec (record s.run { control = l } ∷ s.callers) v) e h)
    fewer false r todo vs e v h =
        again (table_of p) few s.env.exec v (record s.run { control = piece.CallUnwrittenNow r ∷ todo }) (record s.run { control = todo; operands = vs }) s.callers (λ w a x. x) (subst (λ l. Has (table_of p) few s.env.exec (record s.run { control = l } ∷ s.callers) v) e h)

    called : (written : Bool) (r : ℕ) (todo : List Todo) (x : Routine) → s.run.control ≡ calling written r ∷ todo → slice_get (source_of p).routines r ≡ Some x → CallFits (setting_of p few) (here s) put.run.made r put.run.marks todo → (c : ℕ) (rest : List Ty) → k.run.own ≡ onto ((table_of p).routine r).params (object_ty ((table_of p).routine r).whole c ∷ rest) → Has (table_of p) few s.env.exec (record s.run { control = todo; operands = below (drop x.params s.run.operands) } ∷ s.callers) (top (drop x.params s.run.operands))
    called written r todo x e q f c rest own =
        fewer written r todo (below (drop x.params s.run.operands)) e (top (drop x.params s.run.operands)) (by ((table_of p).routine r).whole refl (operand r x c rest q own))
      where
        is_special : (b : Bool) → special_of p r ≡ b → ((table_of p).routine r).whole ≡ true → special_of p r ≡ true
        is_special true a w = a
        is_special false a w = no_both ((table_of p).routine r).whole w (plain_whole p r a)

        by : (b : Bool) → ((table_of p).routine r).whole ≡ b → Known (table_of p) few s.env.exec (AtHand (table_of p) few s.env.exec k.sigs (s.run ∷ s.callers)) (object_ty b c) (top (drop x.params s.run.operands)) → Has (table_of p) few s.env.exec (s.run ∷ s.callers) (top (drop x.params s.run.operands))
        by false w h = whole_has (table_of p) few places s.env.exec k.sigs (s.run ∷ s.callers) c (top (drop x.params s.run.operands)) this.stack h
        by true w h =
            own_has (table_of p) few places s.env.exec (s.run ∷ s.callers) (top (drop x.params s.run.operands)) (called_own r todo x (is_special (special_of p r) refl w) f (ap params_at q))

    -- each step
    on : (l : List Todo) → s.run.control ≡ l → (life : LivesState (table_of p) few s) → Meets (table_of p) few s → putting.Ok (setting_of p few) (here s) put.run.made put.run.marks l → Ok (table_of p) k.run.sig k.run.base k.run.scope l k.run.own → CallsAt (table_of p) few (source_of p) l s
    on (piece.CallOnNow r ∷ todo) e life m o h = λ x q. called true r todo x e q o.0 h.1 h.0 h.2.0
    on (piece.CallUnwrittenNow r ∷ todo) e life m o h = λ x q. called false r todo x e q o.0 h.1 h.0 h.2.0
    on (piece.SetUpNow r ∷ todo) e life m o h = λ n i.
        let y = m life in
        let z = y.0 in
        let finds : Finds (table_of p) few z.0.sigs z.0.run.sig z.0.run.scope s (piece.SetUpNow r ∷ todo) z.0.run.own = subst (λ l. Finds (table_of p) few z.0.sigs z.0.run.sig z.0.run.scope s l z.0.run.own) e y.1.0 in
        let ok : Ok (table_of p) z.0.run.sig z.0.run.base z.0.run.scope (piece.SetUpNow r ∷ todo) z.0.run.own = subst (λ l. Ok (table_of p) z.0.run.sig z.0.run.base z.0.run.scope l z.0.run.own) e z.0.run.ok in
        let at = ok.1 in
        based_value (table_of p) few places (new_exec (home_at s.run.this s.env) s.env) at.0 s.run.this ((finds n i).1 at.0 at.1)
    on (piece.SpawnNow r ∷ todo) e life m o h =
        let y = m life in
        let z = y.0 in
        let finds : Finds (table_of p) few z.0.sigs z.0.run.sig z.0.run.scope s (piece.SpawnNow r ∷ todo) z.0.run.own = subst (λ l. Finds (table_of p) few z.0.sigs z.0.run.sig z.0.run.scope s l z.0.run.own) e y.1.0 in
        let ok : Ok (table_of p) z.0.run.sig z.0.run.base z.0.run.scope (piece.SpawnNow r ∷ todo) z.0.run.own = subst (λ l. Ok (table_of p) z.0.run.sig z.0.run.base z.0.run.scope l z.0.run.own) e z.0.run.ok in
        let at = ok.1 in
        spawned at.0 (subst (λ i. knowing.HasObject (table_of p) few i (object_in s.run.this)) (ok.0.0 ∙ at.1) finds)
      where
        spawned : (c : ℕ) → knowing.HasObject (table_of p) few (Some c) (object_in s.run.this) → HasHome (table_of p) few (main_of (this_object s)) [] (this_object s)
        spawned c z = based_has (table_of p) few places (main_of (this_object s)) (this_object s) c z
    on l e life m o h = tt

    pub calls : LivesState (table_of p) few s → Meets (table_of p) few s → Calls (table_of p) few (source_of p) s
    calls life m = on s.run.control refl life m put.run.ok k.run.ok
