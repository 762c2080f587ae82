-- What is called is told of its object: it is known to who calls, or is what is built or destroyed; or it lets go of the object.
use Rattle.std.proofs.Common.{◌≡◌, ℕ, ◌⊎◌, inl, inr, Bool, true, false, List, [], ◌∷◌, length, drop, Option, Some, None, refl, sym, ◌∙◌, subst, arith, ⊎_elim}
use Rattle.std.specs.Prelude.{slice_get, if◌then◌else◌}
use Rattle.uc_tree.specs.Programs.{Program}
use Rattle.uc_tree.specs.Source as src
use Rattle.uc_tree.specs.Source.{CleanUp, Handlers, Routine, Stmt, Stmts}
use Rattle.uc_machine.specs.declared.exec.Exec.{Exec}
use Rattle.uc_machine.specs.Executions.{others}
use Rattle.uc_machine.specs.Switches.{new_exec}
use Rattle.uc_machine.specs.Monitors.{this_object}
use Rattle.uc_machine.specs.Raising.{Found, event_in, seek}
use Rattle.uc_machine.specs.Pieces as piece
use Rattle.uc_machine.specs.Pieces.{Value, Object, Todo, Active, State, Members, top, below, object_in}
use Rattle.uc_machine.specs.Quiet.{home_at, routine_todo, behind_body}
use Rattle.uc_resolve.specs.Resolve.{source_of}
use Rattle.uc_rules.specs.Breaks.{breaks_of}
use Rattle.uc_name_laws.proofs.Homes.{no_both}
use Rattle.uc_typing.specs.Typing.{Ty, Cell, Obj, Raw, Sig, Table, object_ty, FineStmts}
use Rattle.uc_typing.specs.Pieces.{Ok, onto}
use Rattle.uc_typing.specs.States.{IsObjectBy, IsObject, LetsGo, Sound}
use Rattle.uc_typing.proofs.Frames.{drop_onto}
use Rattle.uc_sound.specs.SoundFormed.{IsFormed}
use Rattle.uc_sound.specs.Tables.{table_of}
use Rattle.uc_sound.proofs.SoundLemmas.{law_sound}
use Rattle.uc_life_laws.specs.Things.{Few, Within, lies, inside, Base, Things, Stands, Held, LiesIn, Known}
use Rattle.uc_life_laws.specs.Lives.{LivesState}
use Rattle.uc_life_laws.specs.Knowing as knowing
use Rattle.uc_life_laws.specs.Knowing.{AtHand, InMaking, KnownAll, KnowsState, Finds, main_of}
use Rattle.uc_life_laws.specs.KnownRuns.{Meets}
use Rattle.uc_life_laws.proofs.Knowns.{values_drop, newest}
use Rattle.uc_life_laws.proofs.Reading.{within_raw, not_whole, NoNumber, behind_number}
use Rattle.uc_life_laws.specs.Rooted.{IsBase}
use Rattle.uc_life_laws.proofs.Rooted.{within_object, things_raw, stands_things}
use Rattle.uc_life_laws.specs.Ending.{calling}
use Rattle.uc_putting_laws.specs.CleanedSpots.{Site, Reach, from_variable, apart}
use Rattle.uc_putting_laws.specs.Calling.{CleansBy, CallingStmt, CallingStmts, CallingHandlers, Opening}
use Rattle.uc_putting_laws.specs.Putting as putting
use Rattle.uc_putting_laws.specs.Putting.{Setting, CodeRest, PutState}
use Rattle.uc_putting_laws.specs.PuttingLaws.{setting_of, FairAt, Fair}
use Rattle.uc_putting_laws.proofs.Steps.{here}
use Rattle.uc_putting_laws.proofs.Walk.{HandlerFound, handler_found}
use Rattle.uc_making_laws.specs.LettingGo.{of_object, opens_object, is_letting, WaitsBy, RunsBy, IsClosed, AllClosed, FoundClosed, IsTold, Told, LetsStack, LetsState, OpensStmt, OpensStmts, LeavesAt, LettingAt}
use Rattle.uc_making_laws.proofs.LettingLists as lists
use Rattle.uc_making_laws.proofs.LettingSteps as steps
use Rattle.uc_lasting_programs.proofs.Wholes.{whole_inside}

-- code within which no object is let go of as a whole

module _ (g : Setting) where
  clean_closed : (r : Reach) (c : CleanUp) → CleansBy g.table g.source g.special r c → of_object c ≡ false
  clean_closed r src.Ends h = absurd h
  clean_closed r (src.Frees q) h = absurd h
  clean_closed r c h = refl

  closed : (r : Reach) (ss : Stmts) → CallingStmts g.table g.source g.special r ss → IsClosed ss
  closed r (src.Scoped c rest) h = clean_closed r c h.0
  closed r ss h = refl

  all_closed : (r : Reach) (hs : Handlers) → CallingHandlers g.table g.source g.special r hs → AllClosed hs
  all_closed r src.NoHandlers h = tt
  all_closed r (src.MoreHandlers resumes event cell line body rest) h = (closed r body h.0, all_closed r rest h.1)

  rest_closed : (r : Reach) (ss : Stmts) → CallingStmts g.table g.source g.special r ss → OpensStmts ss
  rest_closed r src.Nil h = tt
  rest_closed r (src.Then a rest) h = closed r rest h.1
  rest_closed r (src.Scoped c rest) h = closed r rest h.1
  rest_closed r (src.Built c rest) h = closed r rest h.1

  opening_closed : (r : Reach) (ss : Stmts) → Opening g.table g.source g.special r ss → OpensStmts ss
  opening_closed r (src.Scoped src.Ends rest) h = closed r rest h.0
  opening_closed r (src.Scoped (src.Frees q) rest) h = closed r rest h.1
  opening_closed r ss h = absurd h

  stmt_closed : (P : Site → Type 0) (r : Reach) (a : Stmt) → CallingStmt g.table g.source g.special P r a → OpensStmt a
  stmt_closed P r (src.Block line body) h = closed (apart r) body h
  stmt_closed P r (src.Whole line body) h = closed (apart r) body h
  stmt_closed P r (src.OfEvents (src.Try line body hs)) h = closed (apart r) body h.0
  stmt_closed P r a h = tt

  code_closed : (A : putting.Around) (r : Reach) (ss : Stmts) (todo : List Todo) → CodeRest g A r ss todo → OpensStmts ss
  code_closed A r ss todo (inl h) = rest_closed (apart r) ss h.1
  code_closed A r ss todo (inr (inl h)) = rest_closed r ss h.0.1
  code_closed A r ss todo (inr (inr h)) = opening_closed r ss h.2

  left_closed : (A : putting.Around) (r : Reach) (todo : List Todo) → putting.Left g A r todo → LeavesAt todo
  left_closed A r [] h = tt
  left_closed A r (piece.Part c ∷ todo) h = clean_closed r c h.0.1
  left_closed A r (piece.Guard hs ∷ todo) h = all_closed (apart r) hs h.0.1
  left_closed A r (p ∷ todo) h = tt

  found_closed : (y : Option Found) → HandlerFound g y → FoundClosed y
  found_closed None h = tt
  found_closed (Some y) h = closed (from_variable h.0) y.handler.body h.1

module _ (t : Table) (few : Few) (places : (n : Exec) (w : Value) (b : Ty) → Base few n w b → IsBase w b) where
  -- what is built or destroyed is the object of an activation that is there
  making_told : (n : Exec) (gs : List Sig) (cs : List Active) (o c : ℕ) → LetsStack t few n cs → InMaking gs cs (Object o) (Raw c) → IsTold t few n cs o
  making_told n gs [] o c h k = absurd k
  making_told n gs (a ∷ older) o c h (inl k) =
      let m = k.2.1 in
      subst (Told t few n (a ∷ older)) (sym m.2) (steps.here t few n a older h.0)
  making_told n gs (a ∷ older) o c h (inr k) =
      steps.further t few n (Object o) a older (making_told n (others gs) older o c h.1 k)

  -- what is known of a mutex object to these activations
  held_told : (n : Exec) (gs : List Sig) (cs : List Active) (o c : ℕ) → LetsStack t few n cs → Held t few (AtHand t few n gs cs) (Obj c) (Object o) → IsTold t few n cs o
  held_told n gs cs o c h (inl (lies {w = w} {a = d} (inl k) i)) =
      absurd (things_raw t few places n cs w d k o c i)
  held_told n gs cs o c h (inl (lies {w = w} {a = d} (inr k) i)) =
      let q = not_whole t n gs cs w d k in
      let e : Obj c ≡ Raw q.0 = within_raw t w q.0 (Object o) (Obj c) (subst (λ d. Within t w d (Object o) (Obj c)) q.1 i) in
      absurd (cc)
  held_told n gs cs o c h (inl (inside {o = u} {c = d} m k i)) =
      let e : Object u ≡ Object o = within_object t (Object u) (Obj d) (Object o) (Obj c) o i refl in
      let same : u ≡ o = cc in
      inr (inl (d, inl (subst (λ (u : ℕ). Stands t few (Things t few n cs) (Cell (Obj d)) (few.home u)) same (stands_things t few n gs cs (Obj d) (few.home u) k))))
  held_told n gs cs o c h (inr k) =
      ⊎_elim (λ x. inr (inl (k.1, inr (subst (λ w. Things t few n cs w (Raw k.1)) e x)))) (λ x. ⊎_elim (λ y. making_told n gs cs o k.1 h (subst (λ w. InMaking gs cs w (Raw k.1)) e y)) (λ y. absurd (subst NoNumber e (behind_number t n cs k.0 (Raw k.1) y))) x) k.2
    where
      e : k.0 ≡ Object o
      e = within_object t k.0 (Obj k.1) (Object o) (Obj c) o k.3 refl

  -- what an execution that is made, or a task that begins, has of others
  based_told : (n : Exec) (o c : ℕ) → Held t few (Base few n) (Obj c) (Object o) → IsTold t few n [] o
  based_told n o c (inl (lies {w = w} {a = d} k i)) =
      absurd (things_raw t few places n [] w d k o c i)
  based_told n o c (inl (inside {o = u} {c = d} m k i)) =
      let e : Object u ≡ Object o = within_object t (Object u) (Obj d) (Object o) (Obj c) o i refl in
      let same : u ≡ o = cc in
      inr (inl (d, inl (subst (λ (u : ℕ). Stands t few (Base few n) (Cell (Obj d)) (few.home u)) same k)))
  based_told n o c (inr k) =
      inr (inl (k.1, inr (subst (λ w. Base few n w (Raw k.1)) (within_object t k.0 (Obj k.1) (Object o) (Obj c) o k.3 refl) k.2)))

  based_value : (n : Exec) (c : ℕ) (v : Value) → LiesIn t few n (Base few n) (Obj c) v → Told t few n [] v
  based_value n c (piece.Number z) h = tt
  based_value n c (piece.Place o p) h = tt
  based_value n c (piece.Running x) h = tt
  based_value n c (piece.Object o) h = based_told n o c h
  based_value n c piece.Nothing h = tt

  -- a mutex object is known by its number
  pub is_mutex : (c o : ℕ) → IsObject t c (Object o) → t.mutex c ≡ true
  is_mutex c o h = by (t.mutex c) refl
    where
      by : (b : Bool) → t.mutex c ≡ b → t.mutex c ≡ true
      by true e = e
      by false e = absurd (subst (λ b. IsObjectBy t b c (Object o)) e h)

  -- a whole object that is known
  pub whole_told : (n : Exec) (gs : List Sig) (cs : List Active) (c : ℕ) (v : Value) → LetsStack t few n cs → Known t few n (AtHand t few n gs cs) (Obj c) v → Told t few n cs v
  whole_told n gs cs c (piece.Number z) h k = tt
  whole_told n gs cs c (piece.Place o p) h k = tt
  whole_told n gs cs c (piece.Running x) h k = tt
  whole_told n gs cs c (piece.Object o) h k = held_told n gs cs o c h (k.held (is_mutex c o k.is))
  whole_told n gs cs c piece.Nothing h k = tt

  -- what lets go of the object at hand as it is left, where it builds or destroys that
  pub opens : (g : Sig) (ss : Stmts) → FineStmts t g [] ss → LetsGo ss → g.whole ≡ true → opens_object ss ≡ true
  opens g (src.Scoped src.Leaves rest) f l w = no_both g.whole w f.3.1
  opens g (src.Scoped src.Ends rest) f l w = refl
  opens g (src.Scoped (src.Frees r) rest) f l w = refl
  opens g ss f l w = absurd l

  pub letting : (x : Routine) → opens_object x.body ≡ true → is_letting (routine_todo x) ≡ true
  letting x e = subst (λ b. (if b then true else is_letting (behind_body x.purpose x.line)) ≡ true) (sym e) refl

module _ (p : Program) (formed : IsFormed p) (accepted : breaks_of p ≡ []) (few : Few) (places : (n : Exec) (w : Value) (b : Ty) → Base few n w b → IsBase w b) where
  abbrev t : Table
  t = table_of p

  sound : Sound (table_of p) (source_of p)
  sound = law_sound p formed accepted

  module _ (s : State) (put : PutState (setting_of p few) s) (k : KnowsState (table_of p) few [] s) (lets : LetsState (table_of p) few s) where
    abbrev C : Type 0
    C = Told (table_of p) few s.env.exec s.callers s.run.this

    abbrev Hand : Value → Ty → Type 0
    Hand w a = AtHand (table_of p) few s.env.exec k.sigs (s.run ∷ s.callers) w a

    -- the operand below the arguments is known
    pub operand : (r : ℕ) (x : Routine) (c : ℕ) (rest : List Ty) → slice_get (source_of p).routines r ≡ Some x → k.run.own ≡ onto ((table_of p).routine r).params (object_ty ((table_of p).routine r).whole c ∷ rest) → Known (table_of p) few s.env.exec Hand (object_ty ((table_of p).routine r).whole c) (top (drop x.params s.run.operands))
    operand r x c rest q e =
        let all : KnownAll (table_of p) few s.env.exec Hand (onto ((table_of p).routine r).params (object_ty ((table_of p).routine r).whole c ∷ rest)) s.run.operands = subst (λ l. KnownAll (table_of p) few s.env.exec Hand l s.run.operands) e k.run.values in
        let dropped : KnownAll (table_of p) few s.env.exec Hand (object_ty ((table_of p).routine r).whole c ∷ rest) (drop (length ((table_of p).routine r).params) s.run.operands) = subst (λ l. KnownAll (table_of p) few s.env.exec Hand l (drop (length ((table_of p).routine r).params) s.run.operands)) (drop_onto ((table_of p).routine r).params (object_ty ((table_of p).routine r).whole c ∷ rest)) (values_drop (table_of p) few s.env.exec Hand (length ((table_of p).routine r).params) (onto ((table_of p).routine r).params (object_ty ((table_of p).routine r).whole c ∷ rest)) s.run.operands all) in
        subst (λ m. Known (table_of p) few s.env.exec Hand (object_ty ((table_of p).routine r).whole c) (top (drop m s.run.operands))) (sym (sound.routines r x q).params) (newest (table_of p) few s.env.exec Hand (object_ty ((table_of p).routine r).whole c) rest (drop (length ((table_of p).routine r).params) s.run.operands) dropped)

    -- who calls waits next
    waits : (written : Bool) (r : ℕ) (todo : List Todo) → s.run.control ≡ calling written r ∷ todo → LetsStack (table_of p) few s.env.exec (s.run ∷ s.callers)
    waits true r todo e = (subst (WaitsBy C) (sym e) (lists.busy C todo (subst (RunsBy C) e lets.stack.0)), lets.stack.1)
    waits false r todo e = (subst (WaitsBy C) (sym e) (lists.busy C todo (subst (RunsBy C) e lets.stack.0)), lets.stack.1)

    fewer : (written : Bool) (r : ℕ) (todo : List Todo) (vs : List Value) → s.run.control ≡ calling written r ∷ todo → (v : Value) → Told (table_of p) few s.env.exec (s.run ∷ s.callers) v → Told (table_of p) few s.env.exec (record s.run { control = todo; operands = vs } ∷ s.callers) v
    fewer true r todo vs e v h =
        steps.more (table_of p) few s.env.exec v (record s.run { control = piece.CallOnNow r ∷ todo } ∷ s.callers) (record s.run { control = todo; operands = vs } ∷ s.callers) (λ w a x. x) (λ q. omega (arith)) (subst (λ l. Told (table_of p) few s.env.exec (record s.run { control = l } ∷ s.callers) v) e h)
    fewer false r todo vs e v h =
        steps.more (table_of p) few s.env.exec v (record s.run { control = piece.CallUnwrittenNow r ∷ todo } ∷ s.callers) (record s.run { control = todo; operands = vs } ∷ s.callers) (λ w a x. x) (λ q. omega (arith)) (subst (λ l. Told (table_of p) few s.env.exec (record s.run { control = l } ∷ s.callers) v) e h)

    -- what is called then is told of its object, or lets go of it
    abbrev Begins : List Todo → Routine → Value → Type 0
    Begins todo x v = Told (table_of p) few s.env.exec (record s.run { control = todo; operands = below (drop x.params s.run.operands) } ∷ s.callers) v ⊎ (is_letting (routine_todo x) ≡ true)

    called : (written : Bool) (r : ℕ) (todo : List Todo) (x : Routine) → s.run.control ≡ calling written r ∷ todo → slice_get (source_of p).routines r ≡ Some x → (c : ℕ) (rest : List Ty) → k.run.own ≡ onto ((table_of p).routine r).params (object_ty ((table_of p).routine r).whole c ∷ rest) → ((table_of p).routine r).this ≡ Some c → Begins todo x (top (drop x.params s.run.operands))
    called written r todo x e q c rest own this = by ((table_of p).routine r).whole refl (operand r x c rest q own)
      where
        letting_object : ((table_of p).routine r).whole ≡ true → (o : ℕ) → IsObject (table_of p) c (Object o) → is_letting (routine_todo x) ≡ true
        letting_object w o i =
            letting (table_of p) few places x (opens (table_of p) few places ((table_of p).routine r) x.body (sound.routines r x q).body ((sound.routines r x q).enters (whole_inside p c (is_mutex (table_of p) few places c o i) r w this)) w)

        raw : ((table_of p).routine r).whole ≡ true → (v : Value) → Known (table_of p) few s.env.exec Hand (Raw c) v → Begins todo x v
        raw w (piece.Number z) h = inl tt
        raw w (piece.Place o l) h = inl tt
        raw w (piece.Running n) h = inl tt
        raw w (piece.Object o) h = inr (letting_object w o h.is)
        raw w piece.Nothing h = inl tt

        by : (b : Bool) → ((table_of p).routine r).whole ≡ b → Known (table_of p) few s.env.exec Hand (object_ty b c) (top (drop x.params s.run.operands)) → Begins todo x (top (drop x.params s.run.operands))
        by false w h =
            inl (fewer written r todo (below (drop x.params s.run.operands)) e (top (drop x.params s.run.operands)) (whole_told (table_of p) few places s.env.exec k.sigs (s.run ∷ s.callers) c (top (drop x.params s.run.operands)) (waits written r todo e) h))
        by true w h = raw w (top (drop x.params s.run.operands)) h

    -- each step
    on : (l : List Todo) → s.run.control ≡ l → (life : LivesState (table_of p) few s) → Meets (table_of p) few s → FairAt (setting_of p few) l s → putting.Ok (setting_of p few) (here s) put.run.made put.run.marks l → Ok (table_of p) k.run.sig k.run.base k.run.scope l k.run.own → LettingAt (table_of p) few (source_of p) l s
    on (piece.CallOnNow r ∷ todo) e life m f o h = λ x q. called true r todo x e q h.1 h.0 h.2.0 h.2.1
    on (piece.CallUnwrittenNow r ∷ todo) e life m f o h = λ x q. called false r todo x e q h.1 h.0 h.2.0 h.2.1
    on (piece.SetUpNow r ∷ todo) e life m f o h = λ n i.
        let y = m life in
        let z = y.0 in
        let finds : Finds (table_of p) few z.0.sigs z.0.run.sig z.0.run.scope s (piece.SetUpNow r ∷ todo) z.0.run.own = subst (λ l. Finds (table_of p) few z.0.sigs z.0.run.sig z.0.run.scope s l z.0.run.own) e y.1.0 in
        let ok : Ok (table_of p) z.0.run.sig z.0.run.base z.0.run.scope (piece.SetUpNow r ∷ todo) z.0.run.own = subst (λ l. Ok (table_of p) z.0.run.sig z.0.run.base z.0.run.scope l z.0.run.own) e z.0.run.ok in
        let at = ok.1 in
        based_value (table_of p) few places (new_exec (home_at s.run.this s.env) s.env) at.0 s.run.this ((finds n i).1 at.0 at.1)
    on (piece.SpawnNow r ∷ todo) e life m f o h =
        let y = m life in
        let z = y.0 in
        let finds : Finds (table_of p) few z.0.sigs z.0.run.sig z.0.run.scope s (piece.SpawnNow r ∷ todo) z.0.run.own = subst (λ l. Finds (table_of p) few z.0.sigs z.0.run.sig z.0.run.scope s l z.0.run.own) e y.1.0 in
        let ok : Ok (table_of p) z.0.run.sig z.0.run.base z.0.run.scope (piece.SpawnNow r ∷ todo) z.0.run.own = subst (λ l. Ok (table_of p) z.0.run.sig z.0.run.base z.0.run.scope l z.0.run.own) e z.0.run.ok in
        let at = ok.1 in
        spawned at.0 (subst (λ i. knowing.HasObject (table_of p) few i (object_in s.run.this)) (ok.0.0 ∙ at.1) finds)
      where
        spawned : (c : ℕ) → knowing.HasObject (table_of p) few (Some c) (object_in s.run.this) → IsTold (table_of p) few (main_of (this_object s)) [] (this_object s)
        spawned c z = based_told (table_of p) few places (main_of (this_object s)) (this_object s) c z
    on (piece.Do a ∷ todo) e life m f o h = stmt_closed (setting_of p few) (putting.OpensRest (table_of p) todo) put.run.made a o.0.1
    on (piece.Rest ss ∷ todo) e life m f o h = code_closed (setting_of p few) (here s) put.run.made ss todo o.0
    on (piece.Unwind ∷ todo) e life m f o h = left_closed (setting_of p few) (here s) put.run.made todo o
    on (piece.RaiseNow ∷ todo) e life m f o h = found_closed (setting_of p few) (seek None (event_in s.run.operands) (record s.run { control = todo } ∷ s.callers)) (handler_found (setting_of p few) s put (event_in s.run.operands) todo e)
    on l e life m f o h = tt

    pub tells : LivesState (table_of p) few s → Meets (table_of p) few s → Fair (setting_of p few) s → LettingAt (table_of p) few (source_of p) s.run.control s
    tells life m f = on s.run.control refl life m f put.run.ok k.run.ok
