-- An execution whose coroutine is forgotten is there no more at the end of a way, where the first cell of that names it.
use Rattle.std.proofs.Common.{◌≡◌, ℕ, suc, ◌<◌, ◌≤◌, ◌⊎◌, inl, inr, Bool, true, false, List, [], ◌∷◌, length, Option, Some, None, refl, sym, ap, ◌∙◌, subst, arith}
use Rattle.std.specs.Prelude.{if◌then◌else◌, slice_index_or}
use Rattle.std.proofs.lemmas.Bool.{cases_lt}
use Rattle.uc_tree.specs.Source as src
use Rattle.uc_tree.specs.Programs.{Program}
use Rattle.uc_tree.specs.Source.{Source, CleanUp}
use Rattle.uc_entry.specs.declared.entry.Options.{Options}
use Rattle.uc_entry.specs.declared.request.Asked.{Asked}
use Rattle.uc_entry.specs.declared.request.Request.{Request}
use Rattle.uc_entry.specs.declared.request.Request.TheVariants as ask
use Rattle.uc_entry.specs.Keyed.{find}
use Rattle.uc_acts.specs.Journal.{Journal}
use Rattle.uc_acts.specs.KernelRuns.{InRange}
use Rattle.uc_machine.specs.declared.exec.Exec.{Exec}
use Rattle.uc_machine.specs.declared.exec.Home.TheVariants.{Object}
use Rattle.uc_machine.specs.declared.exec.Owner.TheVariants.{Frame, Fields}
use Rattle.uc_machine.specs.Executions.{home_eq, exec_eq, members_at, values_in}
use Rattle.uc_machine.specs.Raising as raising
use Rattle.uc_machine.specs.Quiet as quiet
use Rattle.uc_machine.specs.Pieces as piece
use Rattle.uc_machine.specs.Pieces.{Value, Running, Todo, ForgetNow, Sort, State, Members, Goes, Ticks, Asks, at, exec_in, nought, own_exec}
use Rattle.uc_machine.specs.Rides.{Rides, slices, goes_on, ticks, asks}
use Rattle.uc_meaning.specs.Runs.{World, Runs, gives, no_room, acts, begun, more, or_else}
use Rattle.uc_name_laws.specs.Below.{Ex, slot_at}
use Rattle.uc_name_laws.proofs.Homes.{no_both, exec_self}
use Rattle.uc_state_laws.specs.Fitting.{RunFits}
use Rattle.uc_state_laws.specs.Opens.{RideMeets, RunMeets}
use Rattle.uc_life_laws.specs.Held.{Seating, AreLines, ClearsBehind, LetsGo}
use Rattle.uc_life_laws.specs.Ways.{NamesHere, IsForgotten, ForgetsBy, UnwindsBy}
use Rattle.uc_putting_laws.specs.Putting.{Setting}
use Rattle.uc_rooted_runs.specs.Births.{MakesLater, RunSpawnsLater}
use Rattle.uc_rooted_runs.specs.Makers.{Makers, seating}
use Rattle.uc_rooted_runs.specs.OutlastRuns.{with_homes, made_behind, run_made, now}
use Rattle.uc_rooted_runs.specs.Still.{unless_there, without_one, without_own, still_by, still_behind, ride_still, still_asked, run_still, way_still}
use Rattle.uc_parts_laws.specs.Leaving.{NamesNew, GoesAt}
use Rattle.uc_parts_laws.specs.FramesStay.{IsEnd}
use Rattle.uc_parts_laws.specs.Naming.{StandsAt, InParts, NamesFirst, FindsHome, NamesBy, NamesPast, NamesAt, RideNamesOwn, RunNamesOwn, LawNaming}
use Rattle.uc_parts_laws.specs.PartsRuns.{RideKeepsBeside, RunKeepsBeside}
use Rattle.uc_parts_laws.specs.ClearedFrames.{IsLaid}
use Rattle.uc_parts_laws.specs.Parts.{IsOrderly}
use Rattle.uc_parts_laws.specs.PartStates.{IsTaken}
use Rattle.uc_parts_laws.proofs.ClearedFrames.{law_cleared_frames}
use Rattle.uc_parts_laws.proofs.FieldNames.{InCell, NamedBy, seen, AllIn, goes_behind, ticks_behind, start_in, run_in}
use Rattle.uc_parts_laws.proofs.FramesStay.{law_frames_stay}
use Rattle.uc_parts_laws.proofs.NewNames.{new_named}

-- the first cell of the object at hand names this execution, which is in hand
record IsNamed (x : Exec) (s : State) : Type 0 where
  own : own_exec s ≡ Some x
  members : Members
  in_hand : members_at x.home s.env ≡ Some members

-- who is there was there before

one_before : (m : Option Members) (n : Exec) (still : Exec → Bool) (x : Exec) → without_one m n still x ≡ true → still x ≡ true
one_before None n still x e = e
one_before (Some m) n still x e = by (exec_eq x n) e
  where
    by : (b : Bool) → (if b then false else still x) ≡ true → still x ≡ true
    by true e = absurd (cc)
    by false e = e

own_before : (o : Option Exec) (s : State) (still : Exec → Bool) (x : Exec) → without_own o s still x ≡ true → still x ≡ true
own_before None s still x e = e
own_before (Some n) s still x e = one_before (members_at n.home s.env) n still x e

behind_before : (s : State) (still : Exec → Bool) (x : Exec) → still_behind s still x ≡ true → still x ≡ true
behind_before s still x e = by s.run.control e
  where
    by : (l : List Todo) → still_by l s still x ≡ true → still x ≡ true
    by [] e = e
    by (ForgetNow ∷ todo) e = own_before (own_exec s) s still x e
    by (p ∷ todo) e = e

pub ride_before : (source : Source) (still : Exec → Bool) {s u : State} {q k : ℕ} {a : Asked} (r : Rides source s q u k a) (x : Exec) → ride_still source still r x ≡ true → still x ≡ true
ride_before source still slices x e = e
ride_before source still (goes_on {s} i r) x e = behind_before s still x (ride_before source (still_behind s still) r x e)
ride_before source still (ticks {s} i r) x e = behind_before s still x (ride_before source (still_behind s still) r x e)
ride_before source still (asks {s} i) x e = behind_before s still x e

pub asked_before : (q : Request) (s : State) (still : Exec → Bool) (x : Exec) → still_asked q s still x ≡ true → still x ≡ true
asked_before ask.End s still x e = by (exec_eq x s.env.exec) e
  where
    by : (b : Bool) → (if b then false else still x) ≡ true → still x ≡ true
    by true e = absurd (cc)
    by false e = e
asked_before (ask.Gone o) s still x e = by (home_eq x.home (Object o)) (slot_at x s.env) e
  where
    by : (b : Bool) (z : Option (Option Ex)) → (if b then unless_there z (still x) else still x) ≡ true → still x ≡ true
    by true None e = e
    by true (Some y) e = absurd (cc)
    by false z e = e
asked_before q s still x e = e

-- one that is forgotten next is there no more

forgotten_next : (t : State) (todo : List Todo) (still : Exec → Bool) (x : Exec) → t.run.control ≡ ForgetNow ∷ todo → IsNamed x t → still_behind t still x ≡ false
forgotten_next t todo still x c n =
    ap (λ l. still_by l t still x) c ∙ (ap (λ o. without_own o t still x) n.own ∙ (ap (λ m. without_one m x still x) n.in_hand ∙ ap (λ (b : Bool). if b then false else still x) (exec_self x)))

ride_forgets : (source : Source) (still : Exec → Bool) {t u : State} {q k : ℕ} {a : Asked} (r : Rides source t (suc q) u k a) (todo : List Todo) (x : Exec) → t.run.control ≡ ForgetNow ∷ todo → IsNamed x t → ride_still source still r x ≡ true → ⊥
ride_forgets source still (goes_on {s} i r) todo x c n e = no_both (still_behind s still x) (ride_before source (still_behind s still) r x e) (forgotten_next s todo still x c n)
ride_forgets source still (ticks {s} i r) todo x c n e = no_both (still_behind s still x) (ride_before source (still_behind s still) r x e) (forgotten_next s todo still x c n)
ride_forgets source still (asks {s} i) todo x c n e = no_both (still_behind s still x) e (forgotten_next s todo still x c n)

abbrev is_framed : Value → Bool
is_framed (piece.Place (Frame n d) p) = true
is_framed v = false

-- what lies in a mutex object in hand names its execution
cell_here : (o k : ℕ) (x : Exec) (s : State) (homes : ℕ → Option Members) (m : Members) → find o s.env.hand ≡ Some m → InCell (seen homes s o) k x → exec_in (slice_index_or (values_in (find o s.env.hand)) k nought) ≡ Some x
cell_here o k x s homes m e i =
    let cell : slice_index_or m.values k nought ≡ Running x = subst (λ z. InCell (or_else z (homes o)) k x) e i in
    ap (λ z. exec_in (slice_index_or (values_in z) k nought)) e ∙ ap exec_in cell

named_here : (x : Exec) (s : State) (homes : ℕ → Option Members) (m : Members) → members_at x.home s.env ≡ Some m → (v : Value) → s.run.this ≡ v → is_framed v ≡ false → NamedBy (seen homes s) x v → IsNamed x s
named_here x s homes m e (piece.Place (Frame n d) p) i f h = let no : true ≡ false = f in absurd (cc)
named_here x s homes m e (piece.Place (Fields o) p) i f h =
    let hand : find o s.env.hand ≡ Some m = ap (λ k. members_at k s.env) (sym h.0) ∙ e in
    record { own = ap (λ v. exec_in (piece.loaded v s.env)) i ∙ cell_here o (piece.address p) x s homes m hand h.1; members = m; in_hand = e }
named_here x s homes m e (piece.Object o) i f h =
    let hand : find o s.env.hand ≡ Some m = ap (λ k. members_at k s.env) (sym h.0) ∙ e in
    record { own = ap (λ v. exec_in (piece.loaded v s.env)) i ∙ cell_here o 0 x s homes m hand h.1; members = m; in_hand = e }
named_here x s homes m e (piece.Number z) i f h = absurd h
named_here x s homes m e (piece.Running y) i f h = absurd h
named_here x s homes m e piece.Nothing i f h = absurd h

module _ (source : Source) (seats : Seating) (up : Exec → Bool) (s : State) (members : Members) (homed : members_at s.env.exec.home s.env ≡ Some members) (homes : ℕ → Option Members) (inside : (x : Exec) → up x ≡ true → (seats.seat x).task ≡ false → NamedBy (seen homes s) x (seats.seat x).place) (never : (todo : List Todo) (vs : List Value) → quiet.quiet source s ≡ Goes (at (ForgetNow ∷ todo) vs s) → (x : Exec) → up x ≡ true → IsNamed x s → ⊥) where
  -- so nobody is named where a coroutine is forgotten next
  by_clean : (c : CleanUp) (todo : List Todo) (vs : List Value) → quiet.quiet source s ≡ Goes (at (piece.clean_todo c todo) vs s) → NamesBy source seats up c s → ForgetsBy source seats up c s
  by_clean src.Forgets todo vs e h = by s.run.this refl h
    where
      unframed : (v : Value) → s.run.this ≡ v → is_framed v ≡ false → (x : Exec) → up x ≡ true → (seats.seat x).task ≡ false → s.run.this ≡ (seats.seat x).place → (m : Members) × (members_at x.home s.env ≡ Some m) → ⊥
      unframed v i f x u t same z =
          never todo vs e x u (named_here x s homes z.0 z.1 v i f (subst (NamedBy (seen homes s) x) (sym same ∙ i) (inside x u t)))

      by : (v : Value) → s.run.this ≡ v → FindsHome source seats up s v → IsForgotten source seats up s
      by (piece.Place (Frame n d) p) i k x own t same n_is =
          let names : NamesHere x s (piece.Place (Frame n d) p) = subst (NamesHere x s) i n_is in
          never todo vs e x own.0 (record { own = names.0; members = members; in_hand = ap (λ z. members_at z s.env) names.1 ∙ homed })
      by (piece.Place (Fields o) p) i k x own t same n_is = unframed (piece.Place (Fields o) p) i refl x own.0 t same (k x own t same)
      by (piece.Number z) i k x own t same n_is = unframed (piece.Number z) i refl x own.0 t same (k x own t same)
      by (piece.Running y) i k x own t same n_is = unframed (piece.Running y) i refl x own.0 t same (k x own t same)
      by (piece.Object o) i k x own t same n_is = unframed (piece.Object o) i refl x own.0 t same (k x own t same)
      by piece.Nothing i k x own t same n_is = unframed piece.Nothing i refl x own.0 t same (k x own t same)
  by_clean (src.Destroys a) todo vs e h = h
  by_clean c todo vs e h = tt

  by_scope : (c : CleanUp) (b : Bool) (todo : List Todo) → quiet.quiet source s ≡ raising.scope_left c b todo s → NamesBy source seats up c s → ForgetsBy source seats up c s
  by_scope src.Forgets b todo e h = by_clean src.Forgets (piece.Unwind ∷ todo) [] e h
  by_scope (src.Destroys a) b todo e h = h
  by_scope c b todo e h = tt

  past : (k : Sort) (todo : List Todo) → quiet.quiet source s ≡ raising.unwind_past k todo s → NamesPast source seats up k s → UnwindsBy source seats up k s
  past (piece.IsClean c) todo e h = by_scope c _ todo e h
  past (piece.IsPart c) todo e h = by_clean c (piece.Unwind ∷ todo) [] e h
  past k todo e h = tt

  named_at : (l : List Todo) → s.run.control ≡ l → ((k m : ℕ) (todo : List Todo) → l ≡ piece.ClearNow k m ∷ todo → (s.run.frame < length s.callers → ClearsBehind source seats up s k) → ClearsBehind source seats up s k) → (IsEnd l → LetsGo source seats up s) → (NamesFirst source s → NamesNew source seats up s) → ((todo : List Todo) → l ≡ piece.Finish ∷ todo → AreLines todo) → NamesAt source seats up l s → GoesAt source seats up l s
  named_at [] i c f n y h = f tt
  named_at (piece.ClearNow k m ∷ todo) i c f n y h = c k m todo refl h
  named_at (piece.SetUpNow r ∷ todo) i c f n y h = n h
  named_at (piece.Finish ∷ todo) i c f n y h = f (y todo refl)
  named_at (piece.Exit way ∷ []) i c f n y h = f tt
  named_at (piece.Unwind ∷ []) i c f n y h = f tt
  named_at (piece.Clean x ∷ todo) i c f n y h = by_clean x todo s.run.operands (ap (λ l. quiet.act_todo source l s) i) h
  named_at (piece.Sweep d ∷ todo) i c f n y h = h
  named_at (piece.Unwind ∷ (p ∷ todo)) i c f n y h = past (piece.sort p) todo (ap (λ l. quiet.act_todo source l s) i) h
  named_at l i c f n y h = tt

module _ (makers : Makers) (asked : Exec → Bool) where
  pub now_asked : (made : Exec → Bool) (x : Exec) → now makers asked made x ≡ true → asked x ≡ true
  now_asked made x h = by (asked x) refl h
    where
      by : (b : Bool) → asked x ≡ b → (if b then made x else false) ≡ true → asked x ≡ true
      by true e h = e
      by false e h = absurd (cc)

  now_made : (made : Exec → Bool) (x : Exec) → now makers asked made x ≡ true → made x ≡ true
  now_made made x h = by (asked x) h
    where
      by : (b : Bool) → (if b then made x else false) ≡ true → made x ≡ true
      by true h = h
      by false h = absurd (cc)

  -- a state, behind which none that is up is forgotten next
  module _ (program : Program) (g : Setting) (laid : IsLaid program g) (whole : Makers) (homes : ℕ → Value) (same : makers ≡ with_homes homes whole) (made : Exec → Bool) (s : State) (parts : InParts g homes s) (st : StandsAt program g s) (later : MakesLater g.source whole s) (at_homes : ℕ → Option Members) (inside : AllIn g.source whole (seen at_homes s) made) (never : (todo : List Todo) (vs : List Value) → quiet.quiet g.source s ≡ Goes (at (ForgetNow ∷ todo) vs s) → (x : Exec) → now makers asked made x ≡ true → IsNamed x s → ⊥) where
    up_inside : (x : Exec) → now makers asked made x ≡ true → (makers.seat x).task ≡ false → NamedBy (seen at_homes s) x (makers.seat x).place
    up_inside x u t =
        subst (NamedBy (seen at_homes s) x) (ap (λ (z : Makers). (z.seat x).place) (sym same)) (inside x (now_made made x u) (ap (λ (z : Makers). (z.seat x).task) (sym same) ∙ t))

    -- where cells start anew
    clears_at : (k m : ℕ) (todo : List Todo) → s.run.control ≡ piece.ClearNow k m ∷ todo → (s.run.frame < length s.callers → ClearsBehind g.source (seating makers) (now makers asked made) s k) → ClearsBehind g.source (seating makers) (now makers asked made) s k
    clears_at k m todo e h = by (cases_lt s.run.frame (length s.callers))
      where
        order : IsOrderly g.special (IsTaken (record { source = g.source; special = g.special; home = homes }) s.env.exec s.callers s.run.frame s.run.this) s.run.elements (piece.ClearNow k m ∷ todo)
        order = subst (IsOrderly g.special (IsTaken (record { source = g.source; special = g.special; home = homes }) s.env.exec s.callers s.run.frame s.run.this) s.run.elements) e parts.run

        by : (s.run.frame < length s.callers) ⊎ (length s.callers ≤ s.run.frame) → ClearsBehind g.source (seating makers) (now makers asked made) s k
        by (inl l) = h l
        by (inr l) = law_cleared_frames.clears program g laid (seating makers) (now makers asked made) s st.put st.stack k m todo e order.0 (λ o. omega (arith, l, o))

    beside_at : NamesAt g.source (seating makers) (now makers asked made) s.run.control s → GoesAt g.source (seating makers) (now makers asked made) s.run.control s
    beside_at h =
        named_at g.source (seating makers) (now makers asked made) s st.members st.homed at_homes up_inside never s.run.control refl clears_at (λ e. law_frames_stay program g (seating makers) (now makers asked made) s st.put st.stack e) (λ k. new_named program g (seating makers) (now makers asked made) s st.put st.stack (λ n b. ap (λ (z : Makers). (z.seat n).place) same ∙ (later n b).seat) k) st.ends.finish h

  -- a ride, at the end of which all of whom it is asked are there
  module _ (program : Program) (g : Setting) (laid : IsLaid program g) (whole : Makers) (homes : ℕ → Value) (same : makers ≡ with_homes homes whole) where
    ride_beside : (at_homes : ℕ → Option Members) (made still : Exec → Bool) {s u : State} {q k : ℕ} {a : Asked} (r : Rides g.source s q u k a) → RideMeets (InParts g homes) g.source s q u k a r → RideMeets (StandsAt program g) g.source s q u k a r → RideMeets (MakesLater g.source whole) g.source s q u k a r → AllIn g.source whole (seen at_homes s) made → ((x : Exec) → asked x ≡ true → ride_still g.source still r x ≡ true) → RideNamesOwn makers asked g.source made r → RideKeepsBeside makers asked g.source made r
    ride_beside z made still slices pt st m i f h = tt
    ride_beside z made still (goes_on {s} {t} e r) pt st m c f h =
        (beside_at program g laid whole homes same made s pt.0 st.0 m.0 z c never h.0, ride_beside z (made_behind g.source s made) (still_behind s still) r pt.1 st.1 m.1 (goes_behind g.source whole z makers asked made s t e m.0 h.0 c) f h.1)
      where
        never : (todo : List Todo) (vs : List Value) → quiet.quiet g.source s ≡ Goes (at (ForgetNow ∷ todo) vs s) → (x : Exec) → now makers asked made x ≡ true → IsNamed x s → ⊥
        never todo vs i x u n =
            let both : Goes (at (ForgetNow ∷ todo) vs s) ≡ Goes t = sym i ∙ e in
            let same : at (ForgetNow ∷ todo) vs s ≡ t = cc both in
            let there : IsNamed x (at (ForgetNow ∷ todo) vs s) = record { own = n.own; members = n.members; in_hand = n.in_hand } in
            ride_forgets g.source (still_behind s still) r todo x (ap (λ (v : State). v.run.control) (sym same)) (subst (IsNamed x) same there) (f x (now_asked made x u))
    ride_beside z made still (ticks {s} {t} e r) pt st m c f h =
        (beside_at program g laid whole homes same made s pt.0 st.0 m.0 z c never h.0, ride_beside z (made_behind g.source s made) (still_behind s still) r pt.1 st.1 m.1 (ticks_behind g.source whole z makers asked made s t e m.0 c) f h.1)
      where
        never : (todo : List Todo) (vs : List Value) → quiet.quiet g.source s ≡ Goes (at (ForgetNow ∷ todo) vs s) → (x : Exec) → now makers asked made x ≡ true → IsNamed x s → ⊥
        never todo vs i x u n = let both : Goes (at (ForgetNow ∷ todo) vs s) ≡ Ticks t = sym i ∙ e in absurd (cc)
    ride_beside z made still (asks {s} {t} {q} {r} e) pt st m c f h = beside_at program g laid whole homes same made s pt st m z c never h
      where
        never : (todo : List Todo) (vs : List Value) → quiet.quiet g.source s ≡ Goes (at (ForgetNow ∷ todo) vs s) → (x : Exec) → now makers asked made x ≡ true → IsNamed x s → ⊥
        never todo vs i x u n = let both : Goes (at (ForgetNow ∷ todo) vs s) ≡ Asks r t = sym i ∙ e in absurd (cc)

  module _ (program : Program) (g : Setting) (laid : IsLaid program g) (whole : Makers) (homes : ℕ → Value) (same : makers ≡ with_homes homes whole) (input : List ℕ) (opts : Options) (range : InRange opts) where
    run_beside : {j : Journal} {w : World} (r : Runs g.source input opts j w) → RunFits g.source input opts j w r → RunMeets (InParts g homes) g.source input opts j w r → RunMeets (StandsAt program g) g.source input opts j w r → RunMeets (MakesLater g.source whole) g.source input opts j w r → RunSpawnsLater whole g.source input opts j w r → ((x : Exec) → asked x ≡ true → run_still g.source input opts r x ≡ true) → RunNamesOwn makers asked g.source input opts r → RunKeepsBeside makers asked g.source input opts r
    run_beside begun fits pt st l sp f h = tt
    run_beside (more r o (gives p t v le)) fits pt st l sp f h = (run_beside r fits.0 pt.0 st.0 l.0 sp.0 f h.0, tt)
    run_beside (more r o (no_room p t v le)) fits pt st l sp f h = (run_beside r fits.0 pt.0 st.0 l.0 sp.0 f h.0, tt)
    run_beside (more {j} {w} r o (acts p t n s q d)) fits pt st l sp f h =
        let still : (x : Exec) → asked x ≡ true → ride_still g.source (run_still g.source input opts r) d.rides x ≡ true = λ x e. asked_before q.request s (ride_still g.source (run_still g.source input opts r) d.rides) x (f x e) in
        let begins = start_in g.source whole input opts range j w r fits.0 o sp.0 p t n s q d (run_in g.source whole input opts range makers asked r fits.0 l.0 sp.0 h.0) in (
          run_beside r fits.0 pt.0 st.0 l.0 sp.0 (λ x e. ride_before g.source (run_still g.source input opts r) d.rides x (still x e)) h.0,
          ride_beside program g laid whole homes same w.homes (run_made g.source input opts r) (run_still g.source input opts r) d.rides pt.1 st.1 l.1 begins still h.1,
        )

pub law_naming : LawNaming
law_naming = record {
  runs = λ program g makers homes input opts j w r p u n s q d range fits laid pt st l sp h.
      run_beside (with_homes homes makers) (way_still g.source input opts r d) program g laid makers homes refl input opts range r fits pt st l sp (λ x e. ride_before g.source (run_still g.source input opts r) d.rides x e) h;
  ride = λ program g makers homes input opts j w r p u n s q d range fits on laid pt pr st l sp m k h.
      ride_beside (with_homes homes makers) (way_still g.source input opts r d) program g laid makers homes refl w.homes (run_made g.source input opts r) (run_still g.source input opts r) d.rides pr st m (start_in g.source makers input opts range j w r fits on sp p u n s q d (run_in g.source makers input opts range (with_homes homes makers) (way_still g.source input opts r d) r fits l sp k)) (λ x e. e) h;
}
