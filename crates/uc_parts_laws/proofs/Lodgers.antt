-- Where parts of objects are taken over, the maker of a mutex object holds that soon as it lets others in, and goes on to hold it.
use Rattle.std.proofs.Common.{◌≡◌, ℕ, ◌⊎◌, inl, inr, Bool, true, false, List, [], ◌∷◌, refl, sym, ap, ◌∙◌, subst}
use Rattle.uc_tree.specs.Source as src
use Rattle.uc_tree.specs.Source.{Source, Expr, Load, OfObject, EndOn, CleanUp, Destroys}
use Rattle.uc_entry.specs.declared.request.Request.{Request}
use Rattle.uc_entry.specs.declared.request.Request.TheVariants as ask
use Rattle.uc_machine.specs.declared.exec.Exec.{Exec}
use Rattle.uc_machine.specs.Pieces as piece
use Rattle.uc_machine.specs.declared.exec.Owner.{Owner}
use Rattle.uc_machine.specs.declared.exec.Owner.TheVariants.{Frame}
use Rattle.uc_machine.specs.Pieces.{Link, Slot, FieldAt, At, Value, Number, Place, Running, Object, Nothing, further, loaded, Todo, Sort, sort, Active, State, Asks, object_in}
use Rattle.uc_machine.specs.Quiet.{quiet}
use Rattle.uc_life_laws.specs.Placed.{Ends, all}
use Rattle.uc_life_laws.specs.Outermost.{outermost}
use Rattle.uc_life_laws.specs.Held.{Soon, TakesAt}
use Rattle.uc_life_laws.specs.Destroying.{Destroying, itself, field, element, mutex, mutexes, AtPlace, AtElement}
use Rattle.uc_life_laws.specs.Knowing.{main_of}
use Rattle.uc_life_laws.specs.Ways.{ReadsEnded, ReadsLast, ForgetsBy, UnwindsBy, LeavesAt}
use Rattle.uc_life_laws.specs.Completing.{AreParts}
use Rattle.uc_life_laws.proofs.Completing.{law_completing}
use Rattle.uc_life_laws.proofs.Ways.{law_ways}
use Rattle.uc_rooted_runs.specs.KeptRuns as kept
use Rattle.uc_rooted_runs.specs.OutlastRuns.{with_homes}
use Rattle.uc_parts_laws.specs.Parts.{IsOrderly}
use Rattle.uc_parts_laws.specs.PartStates.{Setting, Spot, Over, IsTaken, PartsState}
use Rattle.uc_parts_laws.specs.Leaving.{GoesAt}
use Rattle.uc_parts_laws.specs.KeptObjects.{Lodger, seat_of, seats_for, any_name, LodgerState, KeepsAt, LetsIn, LoadsAt, IsAtVariable, LoadsIt, LoadsItBy, LoadsItAt, LawLodgers}
use Rattle.uc_parts_laws.proofs.Leaving.{leaves, taken_over}
use Rattle.uc_parts_laws.proofs.SpawnSteps.{SpawnStep, SpawnAsk, walk as spawning}
use Rattle.uc_parts_laws.proofs.KeptObjects.{makers_for}

no_task : {A : Type 0} → true ≡ false → A
no_task e = absurd (cc)

module _ (source : Source) (special : ℕ → Bool) (b : Lodger) (s : State) where
  abbrev G : Setting
  G = record { source = source; special = special; home = b.home }

  abbrev Q : CleanUp → Type 0
  Q c = IsTaken G s.env.exec s.callers s.run.frame s.run.this c

  -- of coroutines nothing is asked
  goes : (l : List Todo) → LoadsAt source b l s → GoesAt source (seats_for b) any_name l s
  goes [] h = λ x o t q d p z. no_task t
  goes (piece.ClearNow k m ∷ todo) h = λ x o t q d p z e. no_task t
  goes (piece.SetUpNow r ∷ todo) h = λ n i u e. tt
  goes (piece.Finish ∷ todo) h = λ x o t q d p z. no_task t
  goes (piece.Exit way ∷ []) h = λ x o t q d p z. no_task t
  goes (piece.Unwind ∷ []) h = λ x o t q d p z. no_task t
  goes (piece.Clean c ∷ todo) h = h
  goes (piece.Sweep d ∷ todo) h = h
  goes (piece.Unwind ∷ (p ∷ todo)) h = h
  goes l h = tt

  -- what is left then of a step
  left : (l : List Todo) → LoadsAt source b l s → kept.KeepsAt (with_homes b.home (makers_for b)) any_name source any_name l s → LeavesAt source (seats_for b) any_name l s ⊎ ((r : ℕ) × (todo : List Todo) × (l ≡ piece.SetUpNow r ∷ todo))
  left (piece.SetUpNow r ∷ todo) h k = inr (r, todo, refl)
  left (piece.Finish ∷ todo) h k = inl (h, k)
  left (piece.GoneNow ∷ todo) h k = inl (λ x o t e. h e)
  left l h k = inl k

  keeps : (l : List Todo) → s.run.control ≡ l → LodgerState source b s → LeavesAt source (seats_for b) any_name l s ⊎ ((r : ℕ) × (todo : List Todo) × (l ≡ piece.SetUpNow r ∷ todo)) → KeepsAt source b l s
  keeps (piece.SetUpNow r ∷ todo) e st h = tt
  keeps l e st (inl h) = subst (λ l. TakesAt source (seats_for b) any_name l s) e (law_ways source (seats_for b) any_name s st (subst (λ l. LeavesAt source (seats_for b) any_name l s) (sym e) h))
  keeps l e st (inr h) = subst (λ l. KeepsAt source b l s) (sym h.2) tt

-- where it is at home at a variable nothing but what is loaded there to be destroyed comes to its end

module _ (source : Source) (b : Lodger) (at : IsAtVariable b) where
  -- a field and an element are no variables, and no object
  no_field : {A : Type 0} (l : Link) (v : Value) → (k : ℕ) (o : Owner) → ((j : ℕ) → l ≡ Slot j → ⊥) → Place o (Slot k ∷ []) ≡ further l v → A
  no_field l (Number z) k o f e = absurd (cc)
  no_field l (Place u p) k o f e = let same : Slot k ≡ l = cc in absurd (f k (sym same))
  no_field l (Running n) k o f e = absurd (cc)
  no_field l (Object q) k o f e = let same : Slot k ≡ l = cc in absurd (f k (sym same))
  no_field l Nothing k o f e = absurd (cc)

  no_object : {A : Type 0} (l : Link) (v : Value) (o : ℕ) → further l v ≡ Object o → A
  no_object l (Number z) o e = absurd (cc)
  no_object l (Place u p) o e = absurd (cc)
  no_object l (Running n) o e = absurd (cc)
  no_object l (Object q) o e = absurd (cc)
  no_object l Nothing o e = absurd (cc)

  -- what is at home at a field or at an element is another one
  elsewhere : {A : Type 0} (l : Link) (v : Value) (o : ℕ) → ((j : ℕ) → l ≡ Slot j → ⊥) → Object o ≡ Object b.object → b.home o ≡ further l v → A
  elsewhere l v o f e h =
      let same : o ≡ b.object = cc in
      no_field l v at.variable (Frame b.maker at.frame) f (sym at.home ∙ (ap b.home (sym same) ∙ h))

  only : (d : ℕ) (v : Value) → Destroying source (seat_of b) d v → v ≡ Object b.object
  only d v (itself x known params c last scoped) = refl
  only r v (field x known params h i written scoped more) = no_object (FieldAt h i) v b.object (only _ (further (FieldAt h i) v) more)
  only r v (element x known params h i n j k written lt scoped more) =
      no_object (At k j) (further (FieldAt h i) v) b.object (only _ (further (At k j) (further (FieldAt h i) v)) more)
  only r v (mutex x known params h i o written scoped there more) =
      elsewhere (FieldAt h i) v o (λ k e. cc) (only _ (Object o) more) there
  only r v (mutexes x known params h i n j o k written lt scoped there more) =
      elsewhere (At k j) (further (FieldAt h i) v) o (λ z e. cc) (only _ (Object o) more) there

  module _ (s : State) where
    abbrev Here : (Value → Type 0) → Expr → Type 0
    Here P e = AtPlace source (seat_of b) s.env.exec s.run.frame s.run.this P e

    ended : (d : ℕ) (written : Bool) (p : Expr) → LoadsIt b (Destroys (OfObject (EndOn d written (Load p)))) s → b.maker ≡ s.env.exec → (o : ℕ) → Here (λ v. b.home o ≡ v) p → Destroying source (seat_of b) d (Object o) → Here (λ v. loaded v s.env ≡ Object o) p
    ended d written (src.Variable k) h e o there more =
        let is : Object o ≡ Object b.object = only d (Object o) more in
        let same : o ≡ b.object = cc in
        h e (ap b.home (sym same) ∙ there) ∙ sym is
    ended d written (src.OfObject (src.OwnField z i)) h e o there more =
        elsewhere (FieldAt z i) s.run.this o (λ k e. cc) (only d (Object o) more) there
    ended d written p h e o there more = absurd there

    clean : (c : CleanUp) → LoadsIt b c s → ForgetsBy source (seats_for b) any_name c s
    clean (Destroys e) h = λ x own. by e h own.1
      where
        by : (e : Expr) → LoadsIt b (Destroys e) s → b.maker ≡ s.env.exec → ReadsEnded source (seats_for b) any_name (main_of 0) e s
        by (OfObject (EndOn d written (Load p))) h q = ended d written p h q
        by e h q = tt
    clean src.Forgets h = λ x own t. no_task t
    clean c h = tt

    unwound : (k : Sort) → LoadsItBy b k s → UnwindsBy source (seats_for b) any_name k s
    unwound (piece.IsClean c) h = clean c h
    unwound (piece.IsPart c) h = clean c h
    unwound k h = tt

    -- no element is at home at a variable
    last : (d : Expr) (x : Exec) → ReadsLast source (seats_for b) any_name x d s
    last (OfObject (EndOn d written (Load p))) x = λ j e o there more. element p j o there more
      where
        element : (p : Expr) (j o : ℕ) → AtElement source (seat_of b) s.env.exec s.run.frame s.run.this (λ v. b.home o ≡ v) j p → Destroying source (seat_of b) d (Object o) → AtElement source (seat_of b) s.env.exec s.run.frame s.run.this (λ v. loaded v s.env ≡ Object o) j p
        element (src.Element m k (src.Variable i) (OfObject src.Counted)) j o there more =
            elsewhere (At k j) (Place (Frame s.env.exec s.run.frame) (Slot i ∷ [])) o (λ z e. cc) (only d (Object o) more) there.1
        element (src.Element m k (OfObject (src.OwnField z i)) (OfObject src.Counted)) j o there more =
            elsewhere (At k j) (further (FieldAt z i) s.run.this) o (λ z e. cc) (only d (Object o) more) there.1
        element (src.Element m k q (OfObject src.Counted)) j o there more = absurd there.1
        element p j o there more = absurd there
    last d x = tt

    loads : (l : List Todo) → LoadsItAt b l s → LoadsAt source b l s
    loads (piece.Clean c ∷ todo) h = clean c h
    loads (piece.Sweep d ∷ todo) h = λ x own. last d x
    loads (piece.Unwind ∷ (p ∷ todo)) h = unwound (sort p) h
    loads (piece.Finish ∷ todo) h = h
    loads (piece.GoneNow ∷ todo) h = h
    loads l h = tt

-- its maker holds it soon

module _ (source : Source) (special : ℕ → Bool) (home : ℕ → Value) (v u : State) (st : PartsState (record { source = source; special = special; home = home }) v) where
  abbrev H : Setting
  H = record { source = source; special = special; home = home }

  abbrev it : ℕ → Lodger
  it o = record { object = o; maker = u.env.exec; home = home; outer = outermost u.callers }

  abbrev spot : Spot
  spot = record { place = piece.Object (object_in v.run.this); task = true }

  soon : (o : ℕ) → o ≡ object_in v.run.this → u.callers ≡ v.callers → u.env.exec ≡ v.env.exec → (l : List Todo) → AreParts l → u.run ≡ record v.run { control = l } → Over H spot v.env.exec v.callers → Soon source (seat_of (it o)) (outermost u.callers) u.env.exec u.run u.callers
  soon o e c x l p r over =
      let ends : Ends (outermost v.callers) (outermost v.callers) = all in
      let now : Soon source (record { place = piece.Object (object_in v.run.this); task = true; home = home }) (outermost v.callers) v.env.exec (record v.run { control = l }) v.callers = law_completing.parts source (record { place = piece.Object (object_in v.run.this); task = true; home = home }) (outermost v.callers) v.env.exec (record v.run { control = l }) v.callers p (taken_over source special home spot v.env.exec (outermost v.callers) v.callers st.callers over ends) in
      subst (λ i. Soon source (record { place = piece.Object i; task = true; home = home }) (outermost u.callers) u.env.exec u.run u.callers) (sym e) (subst (λ n. Soon source (record { place = piece.Object (object_in v.run.this); task = true; home = home }) (outermost u.callers) n u.run u.callers) (sym x) (subst (λ cs. Soon source (record { place = piece.Object (object_in v.run.this); task = true; home = home }) (outermost cs) v.env.exec u.run cs) (sym c) (subst (λ a. Soon source (record { place = piece.Object (object_in v.run.this); task = true; home = home }) (outermost v.callers) v.env.exec a v.callers) (sym r) now)))

  abbrev Ordered : List Todo → Type 0
  Ordered l = IsOrderly special (IsTaken H v.env.exec v.callers v.run.frame v.run.this) v.run.elements l

  made : (o : ℕ) → SpawnAsk v (ask.Made o) u → LetsIn source (it o) (ask.Made o) u
  made o i =
      let k : Ordered (piece.MadeNow ∷ i.todo) = subst (λ l. Ordered l) i.control st.run in
      record { asks = inl refl; name = refl; soon = soon o i.object i.callers i.exec [] tt (i.run ∙ ap (λ l. record v.run { control = l }) k.0.1) k.0.0 }

  spawned : (o : ℕ) → SpawnAsk v (ask.Spawn o) u → LetsIn source (it o) (ask.Spawn o) u
  spawned o i =
      let k : Ordered (piece.SpawnNow i.main ∷ i.todo) = subst (λ l. Ordered l) i.control st.run in
      record { asks = inr refl; name = refl; soon = soon o i.object i.callers i.exec (piece.ChildNow i.main ∷ []) tt (i.run ∙ ap (λ l. record v.run { control = piece.ChildNow i.main ∷ l }) k.0.2) k.0.1 }

  lets_in : (r : Request) → quiet source v ≡ Asks r u → (o : ℕ) → (r ≡ ask.Made o) ⊎ (r ≡ ask.Spawn o) → LetsIn source (it o) r u
  lets_in r e o (inl i) = subst (λ q. LetsIn source (it o) q u) (sym i) (made o (subst (λ q. SpawnAsk v q u) i (subst (SpawnStep v) e (spawning source v))))
  lets_in r e o (inr i) = subst (λ q. LetsIn source (it o) q u) (sym i) (spawned o (subst (λ q. SpawnAsk v q u) i (subst (SpawnStep v) e (spawning source v))))

pub law_lodgers : LawLodgers
law_lodgers = record {
  keeps = λ source special b s st h k.
      keeps source special b s s.run.control refl k (left source special b s s.run.control h (leaves source special (makers_for b) b.home any_name any_name s st s.run.control refl st.run (goes source special b s s.run.control h)));
  variables = λ source b s at h. loads source b at s s.run.control h;
  lets_in = λ source special home s st r u e o i. lets_in source special home s u st r e o i;
}
