-- A clean-up that ends what is known by its number finds its variable and reads of it what is known.
use Rattle.std.proofs.Common.{◌≡◌, ℕ, zero, suc, inl, Bool, true, false, List, [], ◌∷◌, Some, refl, sym, ap, ◌∙◌, subst}
use Rattle.uc_tree.specs.Source.{Expr, Variable, Load, OfObject, OwnField, EndOn, EndCluster, EndProcessor, CleanUp, Destroys, Stmts, Scoped, Source}
use Rattle.uc_entry.specs.declared.entry.Options.{Options}
use Rattle.uc_entry.specs.declared.request.Asked.{Asked}
use Rattle.uc_acts.specs.Journal.{Journal, is_over}
use Rattle.uc_acts.specs.Known.{object_count}
use Rattle.uc_acts.specs.KernelRuns.{InRange}
use Rattle.uc_machine.specs.declared.exec.Exec.{Exec}
use Rattle.uc_machine.specs.declared.exec.Owner.TheVariants.{Frame}
use Rattle.uc_machine.specs.Pieces.{Value, Number, Place, Running, Object, Nothing, Slot, Todo, Eval, LoadNow, DropNow, Rest, Clean, Unwind, loaded, top, variable_at}
use Rattle.uc_machine.specs.Quiet.{State, Step, Goes, Ticks, Asks, act_todo, quiet}
use Rattle.uc_machine.specs.Answering.{answered}
use Rattle.uc_machine.specs.Rides as rides
use Rattle.uc_machine.specs.Rides.{Rides}
use Rattle.uc_meaning.specs.Runs.{World, Runs, drawn, gives, no_room, acts, begun, more}
use Rattle.uc_state_laws.specs.Fitting.{RunFits}
use Rattle.uc_tree.specs.Programs.{Program}
use Rattle.uc_resolve.specs.Resolve.{source_of}
use Rattle.uc_rules.specs.Breaks.{breaks_of}
use Rattle.uc_state_laws.specs.RoomRuns as runs
use Rattle.uc_state_laws.specs.RoomRuns.{Leads}
use Rattle.uc_state_laws.specs.Opens as there
use Rattle.uc_state_laws.specs.Opens.{RideMeets, RunMeets, LeadsMeet}
use Rattle.uc_state_laws.specs.Endings.{reading, still_reading, End, OnObject, OfCluster, OfProcessor, end_expr, behind_end, RideHolds, RunHolds, LeadsHold}
use Rattle.uc_typing.specs.Typing.{Ty, Cell, Obj, Raw, Clu, Pro, Name, Var, Own, Kept, Sig, Table, object_ty, FineClean, DestroysAt, CleansAt, Cleans}
use Rattle.uc_typing.specs.Pieces.{onto, CallsOn, Popped, Ok}
use Rattle.uc_sound.proofs.Ties.{some_same}
use Rattle.uc_sound.specs.SoundFormed.{IsFormed}
use Rattle.uc_sound.specs.Tables.{table_of}
use Rattle.uc_life_laws.specs.Things.{Few, IsBinding, AtVariable, Nowhere, InTodo, Variables, itself, IsFew, IsMade, Known}
use Rattle.uc_life_laws.specs.LifeStates.{BehindMark, OpensAtBy, OpensBy}
use Rattle.uc_life_laws.specs.Lives.{OutwardsOrMade, LivesState}
use Rattle.uc_life_laws.proofs.LivesLemmas.{law_lives}
use Rattle.uc_life_laws.specs.Knowing.{Here, Finds}
use Rattle.uc_life_laws.specs.KnownRuns.{PassesBelow, Meets, AllIsKnown, made_by, is_made}
use Rattle.uc_life_laws.specs.KnownAnswers.{MainPasses}
use Rattle.uc_life_laws.specs.Opened.{any}
use Rattle.uc_life_laws.specs.OpenedRuns.{MeetsObjects, IsFollowed}
use Rattle.uc_life_laws.specs.Endings.{RawsPass, MeetsOutside, AllIsMet, ObjectsOutside, ObjectsAreMet, LawEndings}
use Rattle.uc_life_laws.proofs.Knowns.{known_more}
use Rattle.uc_life_laws.proofs.NewNumbers.{some_object}
use Rattle.uc_life_laws.proofs.OpenedRuns.{law_opened_runs}
use Rattle.uc_life_laws.proofs.KnownWorlds.{earlier, law_known_runs, all_made, main_numbered}
use Rattle.std.proofs.lemmas.Bool.{lt-ltb}

module _ (t : Table) (few : Few) where
  -- what is known of the one that ends: an object of the class of its destructor, which has no parameters and is left as a whole
  abbrev pub IsEnding : Exec → End → Value → Type 0
  IsEnding n (OnObject r written) v = (c : ℕ) × ((t.routine r).this ≡ Some c) × ([] ≡ (t.routine r).params) × IsMade t few n c v × ((t.routine r).whole ≡ true)
  IsEnding n OfCluster v = Known t few n (λ w a. ⊥) Clu v
  IsEnding n OfProcessor v = Known t few n (λ w a. ⊥) Pro v

  abbrev pub Held : End → ℕ → State → Type 0
  Held e k s = IsEnding s.env.exec e (loaded (variable_at k s) s.env)

  -- a state from which so many steps are left until that variable has been read
  abbrev pub Ending : ℕ → State → Type 0
  Ending zero s = Unit {0}
  Ending (suc zero) s =
      (e : End) × (k : ℕ) × (todo : List Todo) × (s.run.control ≡ LoadNow ∷ behind_end e todo) × Held e k s × (top s.run.operands ≡ variable_at k s)
  Ending (suc (suc zero)) s =
      (e : End) × (k : ℕ) × (todo : List Todo) × (s.run.control ≡ Eval (Variable k) ∷ (LoadNow ∷ behind_end e todo)) × Held e k s
  Ending (suc (suc (suc zero))) s =
      (e : End) × (k : ℕ) × (todo : List Todo) × (s.run.control ≡ Eval (Load (Variable k)) ∷ behind_end e todo) × Held e k s
  Ending (suc (suc (suc (suc zero)))) s =
      (e : End) × (k : ℕ) × (todo : List Todo) × (s.run.control ≡ Eval (end_expr e k) ∷ todo) × Held e k s
  Ending (suc (suc (suc (suc (suc n))))) s = ⊥

  abbrev EndingStep : ℕ → Step → Type 0
  EndingStep zero step = Unit {0}
  EndingStep (suc n) (Goes s) = Ending (suc n) s
  EndingStep (suc n) (Ticks s) = Ending (suc n) s
  EndingStep (suc n) (Asks r s) = Unit {0}

  at_goes : (n : ℕ) (s : State) → EndingStep n (Goes s) → Ending n s
  at_goes zero s h = tt
  at_goes (suc n) s h = h

  at_ticks : (n : ℕ) (s : State) → EndingStep n (Ticks s) → Ending n s
  at_ticks zero s h = tt
  at_ticks (suc n) s h = h

  module _ (source : Source) (raws : RawsPass few) where
    -- at the mark of such a clean-up its variable is in scope
    starts : (s : State) → LivesState t few s → EndingStep (reading s.run.control) (quiet source s)
    starts s x = by s.run.control refl (λ l c. subst (λ l. Ok t x.0.run.sig x.0.run.base x.0.run.scope l x.0.run.own) c x.0.run.ok)
      where
        g : Sig
        g = x.0.run.sig

        popped : (c : CleanUp) (sc : List Name) (next : List Name → Type 0) → Popped t g c sc next → (inner : List Name) × FineClean t g inner c × ((y : Name) × Cleans t g y c)
        popped c [] next h = absurd h
        popped c (y ∷ sc) next h = (sc, h.1, (y, h.0))

        ends_whole : (r : ℕ) (written : Bool) (e place : Expr) (a : Ty) → DestroysAt t a place (OfObject (EndOn r written (Load e))) → (t.routine r).whole ≡ true
        ends_whole r written e place (Cell (Obj c)) h = h.2
        ends_whole r written e place a h = absurd h

        -- what it calls is a destructor
        whole : (r : ℕ) (written : Bool) (e : Expr) (y : Name) → Cleans t g y (Destroys (OfObject (EndOn r written (Load e)))) → (t.routine r).whole ≡ true
        whole r written e (Var k a) h = ends_whole r written e (Variable k) a h
        whole r written e (Own i) h = ends_whole r written e (OfObject (OwnField (t.shape h.0) i)) (t.fields h.0 i) h.2
        whole r written e Kept h = absurd h

        few_raw : (c : ℕ) (v : Value) → IsFew t few s.env.exec (Obj c) v → IsFew t few s.env.exec (Raw c) v
        few_raw c (Object o) h = raws c o h
        few_raw c (Number z) h = tt
        few_raw c (Place o p) h = tt
        few_raw c (Running x) h = tt
        few_raw c Nothing h = tt

        -- what its mark is for stands at a variable
        read : (k : ℕ) (a : Ty) (l : List Todo) → IsBinding a → s.run.control ≡ l → InTodo (AtVariable t (Frame s.env.exec s.run.frame) s.run.this) (Nowhere (Frame s.env.exec s.run.frame) s.run.this) l (variable_at k s) (Cell a) → Known t few s.env.exec (Here t few x.0.sigs s) a (loaded (variable_at k s) s.env)
        read k a l i c m =
            let v : Variables t s.env.exec (s.run ∷ s.callers) (variable_at k s) (Cell a) = inl (subst (λ l. InTodo (AtVariable t (Frame s.env.exec s.run.frame) s.run.this) (Nowhere (Frame s.env.exec s.run.frame) s.run.this) l (variable_at k s) (Cell a)) (sym c) m) in
            law_lives.reads t few s x (variable_at k s) (Cell a) s.run.frame (Slot k ∷ []) a i v itself

        object : (r k : ℕ) (written : Bool) (l : List Todo) → s.run.control ≡ l → (inner : List Name) × FineClean t g inner (Destroys (OfObject (EndOn r written (Load (Variable k))))) × ((y : Name) × Cleans t g y (Destroys (OfObject (EndOn r written (Load (Variable k)))))) → ((c : ℕ) → CleansAt t (Cell (Obj c)) (Variable k) (Destroys (OfObject (EndOn r written (Load (Variable k))))) → InTodo (AtVariable t (Frame s.env.exec s.run.frame) s.run.this) (Nowhere (Frame s.env.exec s.run.frame) s.run.this) l (variable_at k s) (Cell (Obj c))) → Held (OnObject r written) k s
        object r k written l q f m =
            let c = f.1.1.1.0 in
            let this = f.1.1.1.2 in
            let w = whole r written (Variable k) f.2.0 f.2.1 in
            let h = read k (Obj c) l tt q (m c (refl, this, w)) in
            (c, this, f.1.1.2, record { is = h.is; passes = few_raw c (loaded (variable_at k s) s.env) h.passes }, w)

        number : (a : Ty) (k : ℕ) (l : List Todo) → IsBinding a → s.run.control ≡ l → InTodo (AtVariable t (Frame s.env.exec s.run.frame) s.run.this) (Nowhere (Frame s.env.exec s.run.frame) s.run.this) l (variable_at k s) (Cell a) → Known t few s.env.exec (Here t few x.0.sigs s) a (loaded (variable_at k s) s.env)
        number a k l i q m = read k a l i q m

        by : (l : List Todo) → s.run.control ≡ l → ((l : List Todo) → s.run.control ≡ l → Ok t g x.0.run.base x.0.run.scope l x.0.run.own) → EndingStep (reading l) (act_todo source l s)
        by (Clean (Destroys (OfObject (EndOn r written (Load (Variable k))))) ∷ todo) c o =
            (OnObject r written, k, DropNow ∷ todo, refl, object r k written _ c (popped _ x.0.run.scope _ (o _ c).0) (λ d m. inl (k, m, refl)))
        by (Clean (Destroys (OfObject (EndCluster (Load (Variable k))))) ∷ todo) c o =
            let h = number Clu k _ tt c (inl (k, refl, refl)) in
            (OfCluster, k, DropNow ∷ todo, refl, record { is = h.is; passes = h.passes; rooted = λ i. absurd i; held = λ i. absurd i; seated = λ i. absurd i })
        by (Clean (Destroys (OfObject (EndProcessor (Load (Variable k))))) ∷ todo) c o =
            let h = number Pro k _ tt c (inl (k, refl, refl)) in
            (OfProcessor, k, DropNow ∷ todo, refl, record { is = h.is; passes = h.passes; rooted = λ i. absurd i; held = λ i. absurd i; seated = λ i. absurd i })
        by (Unwind ∷ (Clean (Destroys (OfObject (EndOn r written (Load (Variable k))))) ∷ todo)) c o =
            (OnObject r written, k, DropNow ∷ (Unwind ∷ todo), refl, object r k written _ c (popped _ x.0.run.scope _ (o _ c)) (λ d m. inl (k, m, refl)))
        by (Unwind ∷ (Clean (Destroys (OfObject (EndCluster (Load (Variable k))))) ∷ todo)) c o =
            let h = number Clu k _ tt c (inl (k, refl, refl)) in
            (OfCluster, k, DropNow ∷ (Unwind ∷ todo), refl, record { is = h.is; passes = h.passes; rooted = λ i. absurd i; held = λ i. absurd i; seated = λ i. absurd i })
        by (Unwind ∷ (Clean (Destroys (OfObject (EndProcessor (Load (Variable k))))) ∷ todo)) c o =
            let h = number Pro k _ tt c (inl (k, refl, refl)) in
            (OfProcessor, k, DropNow ∷ (Unwind ∷ todo), refl, record { is = h.is; passes = h.passes; rooted = λ i. absurd i; held = λ i. absurd i; seated = λ i. absurd i })
        by l c o = tt

    found : (s : State) (e : End) (k : ℕ) (todo : List Todo) → Held e k s → EndingStep 3 (act_todo source (Eval (end_expr e k) ∷ todo) s)
    found s (OnObject r false) k todo h = (OnObject r false, k, todo, refl, h)
    found s (OnObject r true) k todo h = (OnObject r true, k, todo, refl, h)
    found s OfCluster k todo h = (OfCluster, k, todo, refl, h)
    found s OfProcessor k todo h = (OfProcessor, k, todo, refl, h)

    onward : (n : ℕ) (s : State) → Ending (suc n) s → EndingStep n (quiet source s)
    onward zero s h = tt
    onward (suc zero) s h = subst (λ l. EndingStep 1 (act_todo source l s)) (sym h.3) (h.0, h.1, h.2, refl, h.4, refl)
    onward (suc (suc zero)) s h = subst (λ l. EndingStep 2 (act_todo source l s)) (sym h.3) (h.0, h.1, h.2, refl, h.4)
    onward (suc (suc (suc zero))) s h = subst (λ l. EndingStep 3 (act_todo source l s)) (sym h.3) (found s h.0 h.1 h.2 h.4)
    onward (suc (suc (suc (suc n)))) s h = absurd h

    ending : (n : ℕ) (s : State) → LivesState t few s → Ending n s → EndingStep (still_reading n s.run.control) (quiet source s)
    ending zero s x h = starts s x
    ending (suc n) s x h = onward n s h

  -- what is read is what the end of it asks for

  module _ (n : Exec) (K : Value → Ty → Type 0) where
    entered : (r : ℕ) (a : Ty) (own under : List Ty) (d : ℕ) (v : Value) → CallsOn t r (a ∷ own) under d → (c : ℕ) × ((t.routine r).this ≡ Some c) × ([] ≡ (t.routine r).params) × IsMade t few n c v × ((t.routine r).whole ≡ true) → Known t few n K a v
    entered r a own under d v calls h =
        let q : a ∷ own ≡ object_ty (t.routine r).whole d ∷ under = subst (λ (ps : List Ty). a ∷ own ≡ onto ps (object_ty (t.routine r).whole d ∷ under)) (sym h.2) calls.0 in
        let same : a ≡ object_ty (t.routine r).whole d = cc in
        let raw : a ≡ Raw d = same ∙ ap (λ (b : Bool). object_ty b d) h.4 in
        let class : h.0 ≡ d = some_same (sym h.1 ∙ calls.1) in
        subst (λ (a : Ty). Known t few n K a v) (sym raw) (subst (λ c. IsMade t few n c v) class h.3)

    nothing_more : (a : Ty) (v : Value) → Known t few n (λ w a. ⊥) a v → Known t few n K a v
    nothing_more a v h = known_more t few n (λ w a. ⊥) K (λ w a h. absurd h) a v h

    ended : (g : Sig) (base sc : List Name) (e : End) (todo : List Todo) (a : Ty) (own : List Ty) (v : Value) → Ok t g base sc (behind_end e todo) (a ∷ own) → IsEnding n e v → Known t few n K a v
    ended g base sc (OnObject r false) todo a own v o h = entered r a own o.0 o.1 v o.2 h
    ended g base sc (OnObject r true) todo a own v o h = entered r a own o.0 o.1 v o.2 h
    ended g base sc OfCluster todo Clu own v o h = nothing_more Clu v h
    ended g base sc OfCluster todo a own v o h = absurd o
    ended g base sc OfProcessor todo Pro own v o h = nothing_more Pro v h
    ended g base sc OfProcessor todo a own v o h = absurd o

  -- so such a state finds what it is to find
  place : (gs : List Sig) (g : Sig) (base sc : List Name) (s : State) (e : End) (k : ℕ) (todo : List Todo) (own : List Ty) → Ok t g base sc (LoadNow ∷ behind_end e todo) own → Held e k s → top s.run.operands ≡ variable_at k s → Finds t few gs g sc s (LoadNow ∷ behind_end e todo) own
  place gs g base sc s e k todo (Cell a ∷ own) o h q =
      let f : Known t few s.env.exec (Here t few gs s) a (loaded (top s.run.operands) s.env) = subst (λ v. Known t few s.env.exec (Here t few gs s) a (loaded v s.env)) (sym q) (ended s.env.exec (Here t few gs s) g base sc e todo a own (loaded (variable_at k s) s.env) o.1 h) in
      record { untracked = λ i no. f; seated = λ i l. f; foreign = λ i. f; field = λ w b m i. f; making = λ w b m i. f }
  place gs g base sc s e k todo _ o h q = tt

  opens : (K : BehindMark) (n : ℕ) (s : State) → Ending (suc n) s → OpensBy t few K s
  opens K zero s h = subst (λ l. OpensAtBy t few K l s) (sym h.3) tt
  opens K (suc zero) s h = subst (λ l. OpensAtBy t few K l s) (sym h.3) tt
  opens K (suc (suc zero)) s h = subst (λ l. OpensAtBy t few K l s) (sym h.3) tt
  opens K (suc (suc (suc zero))) s h = subst (λ l. OpensAtBy t few K l s) (sym h.3) tt
  opens K (suc (suc (suc (suc n)))) s h = absurd h

  pub finds : (n : ℕ) (s : State) (x : LivesState t few s) → Ending (suc n) s → Finds t few x.0.sigs x.0.run.sig x.0.run.scope s s.run.control x.0.run.own
  finds zero s x h =
      subst (λ l. Finds t few x.0.sigs x.0.run.sig x.0.run.scope s l x.0.run.own) (sym h.3) (place x.0.sigs x.0.run.sig x.0.run.base x.0.run.scope s h.0 h.1 h.2 x.0.run.own (subst (λ l. Ok t x.0.run.sig x.0.run.base x.0.run.scope l x.0.run.own) h.3 x.0.run.ok) h.4 h.5)
  finds (suc zero) s x h = subst (λ l. Finds t few x.0.sigs x.0.run.sig x.0.run.scope s l x.0.run.own) (sym h.3) (λ a y. tt)
  finds (suc (suc zero)) s x h = subst (λ l. Finds t few x.0.sigs x.0.run.sig x.0.run.scope s l x.0.run.own) (sym h.3) (λ a y. tt)
  finds (suc (suc (suc zero))) s x h = subst (λ l. Finds t few x.0.sigs x.0.run.sig x.0.run.scope s l x.0.run.own) (sym h.3) (expr h.0)
    where
      expr : (e : End) → Finds t few x.0.sigs x.0.run.sig x.0.run.scope s (Eval (end_expr e h.1) ∷ h.2) x.0.run.own
      expr (OnObject r written) = λ a y. tt
      expr OfCluster = λ a y. tt
      expr OfProcessor = λ a y. tt
  finds (suc (suc (suc (suc n)))) s x h = absurd h

  pub met : (n : ℕ) (s : State) → MeetsOutside t few n s → Ending n s → Meets t few s
  met zero s m h = m
  met (suc n) s m h = λ x. (x, (finds n s x h, opens (OutwardsOrMade x.0.sigs) n s h))

-- on the way

module _ (P : State → Type 0) (source : Source) where
  pub goes_on : {s u v : State} → Leads source s u → quiet source u ≡ Goes v → Leads source s v
  goes_on runs.stays q = runs.goes q runs.stays
  goes_on (runs.goes e l) q = runs.goes e (goes_on l q)
  goes_on (runs.ticks e l) q = runs.ticks e (goes_on l q)

  pub ticks_on : {s u v : State} → Leads source s u → quiet source u ≡ Ticks v → Leads source s v
  ticks_on runs.stays q = runs.ticks q runs.stays
  ticks_on (runs.goes e l) q = runs.goes e (ticks_on l q)
  ticks_on (runs.ticks e l) q = runs.ticks e (ticks_on l q)

  pub goes_met : {s u v : State} (l : Leads source s u) (q : quiet source u ≡ Goes v) → LeadsMeet P source s u l → P u → LeadsMeet P source s v (goes_on l q)
  unfolding goes_on
  goes_met runs.stays q m h = (h, tt)
  goes_met (runs.goes e l) q m h = (m.0, goes_met l q m.1 h)
  goes_met (runs.ticks e l) q m h = (m.0, goes_met l q m.1 h)

  pub ticks_met : {s u v : State} (l : Leads source s u) (q : quiet source u ≡ Ticks v) → LeadsMeet P source s u l → P u → LeadsMeet P source s v (ticks_on l q)
  unfolding ticks_on
  ticks_met runs.stays q m h = (h, tt)
  ticks_met (runs.goes e l) q m h = (m.0, ticks_met l q m.1 h)
  ticks_met (runs.ticks e l) q m h = (m.0, ticks_met l q m.1 h)

module _ (t : Table) (few : Few) (source : Source) (raws : RawsPass few) (P : State → Type 0) (Q : ℕ → State → Type 0) (meets : (n : ℕ) (s : State) → Q n s → Ending t few n s → P s) (start : State) (lives : (s : State) (l : Leads source start s) → LeadsMeet P source start s l → LivesState t few s) where
  next : (n : ℕ) (s : State) (l : Leads source start s) → LeadsMeet P source start s l → Ending t few n s → EndingStep t few (still_reading n s.run.control) (quiet source s)
  next n s l m h = ending t few source raws n s (lives s l m) h

  goes_next : (n : ℕ) (s v : State) (l : Leads source start s) → LeadsMeet P source start s l → Ending t few n s → quiet source s ≡ Goes v → Ending t few (still_reading n s.run.control) v
  goes_next n s v l m h q = at_goes t few (still_reading n s.run.control) v (subst (EndingStep t few (still_reading n s.run.control)) q (next n s l m h))

  ticks_next : (n : ℕ) (s v : State) (l : Leads source start s) → LeadsMeet P source start s l → Ending t few n s → quiet source s ≡ Ticks v → Ending t few (still_reading n s.run.control) v
  ticks_next n s v l m h q = at_ticks t few (still_reading n s.run.control) v (subst (EndingStep t few (still_reading n s.run.control)) q (next n s l m h))

  pub ride_met : {s u : State} {q k : ℕ} {a : Asked} (l : Leads source start s) → LeadsMeet P source start s l → (n : ℕ) (r : Rides source s q u k a) → RideHolds Q source n s q u k a r → Ending t few n s → RideMeets P source s q u k a r
  ride_met l m n rides.slices o h = tt
  ride_met l m n (rides.goes_on {s} {t = v} e r) o h =
      let here : P s = meets n s o.0 h in
      (here, ride_met (goes_on P source l e) (goes_met P source l e m here) (still_reading n s.run.control) r o.1 (goes_next n s v l m h e))
  ride_met l m n (rides.ticks {s} {t = v} e r) o h =
      let here : P s = meets n s o.0 h in
      (here, ride_met (ticks_on P source l e) (ticks_met P source l e m here) (still_reading n s.run.control) r o.1 (ticks_next n s v l m h e))
  ride_met l m n (rides.asks {s} e) o h = meets n s o h

  pub lead_met : {s u : State} (l : Leads source start s) → LeadsMeet P source start s l → (n : ℕ) (r : Leads source s u) → LeadsHold Q source n s u r → Ending t few n s → LeadsMeet P source s u r
  lead_met l m n runs.stays o h = tt
  lead_met l m n (runs.goes {s} {u = v} e r) o h =
      let here : P s = meets n s o.0 h in
      (here, lead_met (goes_on P source l e) (goes_met P source l e m here) (still_reading n s.run.control) r o.1 (goes_next n s v l m h e))
  lead_met l m n (runs.ticks {s} {u = v} e r) o h =
      let here : P s = meets n s o.0 h in
      (here, lead_met (ticks_on P source l e) (ticks_met P source l e m here) (still_reading n s.run.control) r o.1 (ticks_next n s v l m h e))

module _ (p : Program) (formed : IsFormed p) (accepted : breaks_of p ≡ []) (few : Few) (raws : RawsPass few) (input : List ℕ) (opts : Options) (range : InRange opts) (first : MainPasses (table_of p) few ((table_of p).routine (source_of p).main).this 0) where
  abbrev source : Source
  source = source_of p

  abbrev t : Table
  t = table_of p

  runs_met : {j : Journal} {w : World} (r : Runs source input opts j w) → RunFits source input opts j w r → PassesBelow few opts j → RunHolds (MeetsOutside t few) source input opts j w r → RunMeets (Meets t few) source input opts j w r
  runs_met begun f below o = tt
  runs_met (more {j} {w} {a} r on (gives q n s le)) f below o = (runs_met r f.0 (earlier few opts j a below) o.0, tt)
  runs_met (more {j} {w} {a} r on (no_room q n s le)) f below o = (runs_met r f.0 (earlier few opts j a below) o.0, tt)
  runs_met (more {j} {w} {a} r on (acts q n k s asked d)) f below o =
      let m = runs_met r f.0 (earlier few opts j a below) o.0 in
      let all : AllIsKnown t few source j w = law_known_runs p formed accepted few input opts range j w r f.0 on (earlier few opts j a below) first m in
      (m, ride_met t few source raws (Meets t few) (MeetsOutside t few) (met t few) (answered source d.given (drawn j w n)) (λ s l. all.lives n s (record { given = d.given; processor = q; runs = d.runs; told = d.told; leads = l })) runs.stays tt 0 d.rides o.1 tt)

tested : (p : Program) (formed : IsFormed p) (accepted : breaks_of p ≡ []) (few : Few) (raws : RawsPass few) (input : List ℕ) (opts : Options) (range : InRange opts) (j : Journal) (w : World) (r : Runs (source_of p) input opts j w) → RunFits (source_of p) input opts j w r → is_over j ≡ false → PassesBelow few opts j → MainPasses (table_of p) few ((table_of p).routine (source_of p).main).this 0 → RunHolds (MeetsOutside (table_of p) few) (source_of p) input opts j w r → AllIsMet (table_of p) few (source_of p) input opts j w r
tested p formed accepted few raws input opts range j w r fits on below first outside = record {
  runs = met_so_far;
  leads = λ n s c o. lead_met (table_of p) few (source_of p) raws (Meets (table_of p) few) (MeetsOutside (table_of p) few) (met (table_of p) few) (answered (source_of p) c.given (drawn j w n)) (λ s l. all.lives n s (record { given = c.given; processor = c.processor; runs = c.runs; told = c.told; leads = l })) runs.stays tt 0 c.leads o tt;
  rides = λ q n k s asked d o. ride_met (table_of p) few (source_of p) raws (Meets (table_of p) few) (MeetsOutside (table_of p) few) (met (table_of p) few) (answered (source_of p) d.given (drawn j w n)) (λ s l. all.lives n s (record { given = d.given; processor = q; runs = d.runs; told = d.told; leads = l })) runs.stays tt 0 d.rides o tt;
}
  where
    met_so_far : RunMeets (Meets (table_of p) few) (source_of p) input opts j w r
    met_so_far = runs_met p formed accepted few raws input opts range first r fits below outside

    all : AllIsKnown (table_of p) few (source_of p) j w
    all = law_known_runs p formed accepted few input opts range j w r fits on below first met_so_far

-- so it is of what was made
pub made_endings : (p : Program) → IsFormed p → breaks_of p ≡ [] → (input : List ℕ) (opts : Options) → InRange opts → (j : Journal) (w : World) (r : Runs (source_of p) input opts j w) → RunFits (source_of p) input opts j w r → is_over j ≡ false → RunHolds (MeetsOutside (table_of p) (is_made opts j)) (source_of p) input opts j w r → AllIsMet (table_of p) (is_made opts j) (source_of p) input opts j w r
made_endings p formed accepted input opts range j w r fits on outside =
    tested p formed accepted (is_made opts j) (λ c o h. h) input opts range j w r fits on (all_made opts j) (main_numbered (table_of p) (made_by opts j) ((table_of p).routine (source_of p).main).this 0 (λ c. lt-ltb 0 (object_count j) (some_object j))) outside

-- where numbers are not tested

pub there_opens : (t : Table) (few : Few) (code : Source) (n : ℕ) (s : State) → Ending t few (suc n) s → there.Opens code s
there_opens t few code zero s h = subst (λ l. there.OpensAt code l s) (sym h.3) tt
there_opens t few code (suc zero) s h = subst (λ l. there.OpensAt code l s) (sym h.3) tt
there_opens t few code (suc (suc zero)) s h = subst (λ l. there.OpensAt code l s) (sym h.3) tt
there_opens t few code (suc (suc (suc zero))) s h = subst (λ l. there.OpensAt code l s) (sym h.3) tt
there_opens t few code (suc (suc (suc (suc n)))) s h = absurd h

pub no_scope : {A : Type 0} (t : Table) (few : Few) (n : ℕ) (s : State) → Ending t few (suc n) s → (c : CleanUp) (rest : Stmts) (todo : List Todo) → s.run.control ≡ Rest (Scoped c rest) ∷ todo → A
no_scope t few zero s h c rest todo e = let q : LoadNow ∷ behind_end h.0 h.2 ≡ Rest (Scoped c rest) ∷ todo = sym h.3 ∙ e in absurd (cc)
no_scope t few (suc zero) s h c rest todo e = let q : Eval (Variable h.1) ∷ (LoadNow ∷ behind_end h.0 h.2) ≡ Rest (Scoped c rest) ∷ todo = sym h.3 ∙ e in absurd (cc)
no_scope t few (suc (suc zero)) s h c rest todo e = let q : Eval (Load (Variable h.1)) ∷ behind_end h.0 h.2 ≡ Rest (Scoped c rest) ∷ todo = sym h.3 ∙ e in absurd (cc)
no_scope t few (suc (suc (suc zero))) s h c rest todo e = let q : Eval (end_expr h.0 h.1) ∷ h.2 ≡ Rest (Scoped c rest) ∷ todo = sym h.3 ∙ e in absurd (cc)
no_scope t few (suc (suc (suc (suc n)))) s h c rest todo e = absurd h

objects_met : (t : Table) (code : Source) (n : ℕ) (s : State) → ObjectsOutside t code n s → Ending t any n s → MeetsObjects t code s
objects_met t code zero s m h = m
objects_met t code (suc n) s m h = record {
  opens = there_opens t any code n s h;
  finds = λ x. (x, (finds t any n s x h, λ c rest todo e. no_scope t any n s h c rest todo e));
}

module _ (p : Program) (formed : IsFormed p) (accepted : breaks_of p ≡ []) (input : List ℕ) (opts : Options) (range : InRange opts) where
  abbrev P : State → Type 0
  P s = MeetsObjects (table_of p) (source_of p) s

  followed : {j : Journal} {w : World} (r : Runs (source_of p) input opts j w) → RunFits (source_of p) input opts j w r → is_over j ≡ false → RunMeets P (source_of p) input opts j w r → IsFollowed (table_of p) (source_of p) j w
  followed {j} {w} r f on m = law_opened_runs p formed accepted input opts range j w r f on m

  runs_objects : {j : Journal} {w : World} (r : Runs (source_of p) input opts j w) → RunFits (source_of p) input opts j w r → RunHolds (ObjectsOutside (table_of p) (source_of p)) (source_of p) input opts j w r → RunMeets P (source_of p) input opts j w r
  runs_objects begun f o = tt
  runs_objects (more r on (gives q n s le)) f o = (runs_objects r f.0 o.0, tt)
  runs_objects (more r on (no_room q n s le)) f o = (runs_objects r f.0 o.0, tt)
  runs_objects (more {j} {w} r on (acts q n k s asked d)) f o =
      let m = runs_objects r f.0 o.0 in
      let all : IsFollowed (table_of p) (source_of p) j w = followed r f.0 on m in
      (m, ride_met (table_of p) any (source_of p) (λ c o h. h) P (ObjectsOutside (table_of p) (source_of p)) (objects_met (table_of p) (source_of p)) (answered (source_of p) d.given (drawn j w n)) (λ s l. all.lives n s (record { given = d.given; processor = q; runs = d.runs; told = d.told; leads = l })) runs.stays tt 0 d.rides o.1 tt)

  objects_are_met : (j : Journal) (w : World) (r : Runs (source_of p) input opts j w) → RunFits (source_of p) input opts j w r → is_over j ≡ false → RunHolds (ObjectsOutside (table_of p) (source_of p)) (source_of p) input opts j w r → ObjectsAreMet (table_of p) (source_of p) input opts j w r
  objects_are_met j w r f on o =
      let m = runs_objects r f o in
      let all : IsFollowed (table_of p) (source_of p) j w = followed r f on m in
      record {
        runs = m;
        leads = λ n s c o. lead_met (table_of p) any (source_of p) (λ c o h. h) P (ObjectsOutside (table_of p) (source_of p)) (objects_met (table_of p) (source_of p)) (answered (source_of p) c.given (drawn j w n)) (λ s l. all.lives n s (record { given = c.given; processor = c.processor; runs = c.runs; told = c.told; leads = l })) runs.stays tt 0 c.leads o tt;
      }

pub law_endings : LawEndings
law_endings = record {
  tested = λ p formed accepted few raws input opts range j w r fits on below first outside. tested p formed accepted few raws input opts range j w r fits on below first outside;
  objects = λ p formed accepted input opts range j w r fits on outside. objects_are_met p formed accepted input opts range j w r fits on outside;
}
