-- States in which who makes an object builds it, or is about to: steps and rides keep that.
use Rattle.std.proofs.Common.{◌≡◌, ℕ, ◌<◌, ◌⊎◌, inl, inr, ◌∙◌, Bool, true, false, List, [], ◌∷◌, length, drop, Option, Some, None, refl, sym, ap, subst, arith}
use Rattle.std.specs.Prelude.{slice_get, slice_set, nat_lt}
use Rattle.uc_tree.specs.declared.limits.TheConstants.{CALLS}
use Rattle.uc_tree.specs.Source.{Routine, Source}
use Rattle.uc_entry.specs.declared.fault.RunFault.TheVariants.{Depth}
use Rattle.uc_entry.specs.declared.request.Asked.{Asked}
use Rattle.uc_entry.specs.declared.request.Request.{Request}
use Rattle.uc_entry.specs.declared.request.Request.TheVariants as ask
use Rattle.uc_machine.specs.declared.exec.Exec.{Exec}
use Rattle.uc_machine.specs.declared.exec.Home.{Home}
use Rattle.uc_machine.specs.Executions.{members_at}
use Rattle.uc_machine.specs.Switches.{new_exec}
use Rattle.uc_machine.specs.Monitors as monitors
use Rattle.uc_machine.specs.Quiet as quiet
use Rattle.uc_machine.specs.Quiet.{home_at}
use Rattle.uc_machine.specs.Pieces as piece
use Rattle.uc_machine.specs.Pieces.{Value, Object, Todo, Active, State, Members, Step, Goes, Ticks, Asks, top, below, written}
use Rattle.uc_machine.specs.Rides.{Rides, slices, goes_on, ticks, asks}
use Rattle.uc_state_laws.specs.Counted.{params, params_at}
use Rattle.uc_state_laws.specs.RoomRuns as rooms
use Rattle.uc_state_laws.specs.RoomRuns.{Leads}
use Rattle.uc_state_laws.specs.Opens.{RideMeets, LeadsMeet}
use Rattle.uc_name_laws.specs.Below.{IsBelow}
use Rattle.uc_name_laws.specs.NameSteps.{Named, StepNamed, Grows}
use Rattle.uc_name_laws.proofs.Births.{law_new}
use Rattle.uc_name_laws.proofs.Walk.{walk}
use Rattle.uc_life_laws.proofs.Cells.{either}
use Rattle.uc_life_laws.proofs.NamedWorlds.{vacuous}
use Rattle.uc_depth_laws.proofs.Depths.{set_top}
use Rattle.uc_making_laws.specs.Builders.{Building, lets_built, opens_built, Lets, AsksLetting, BuildsState, BuildsStep, BuildingAt}
use Rattle.uc_inner_laws.specs.Standing.{Calls}
use Rattle.uc_making_laws.specs.BuilderRuns.{opens_by, FinishesBy, Finishes, opens_so, CalledNext, Nears, Here, NearState}
use Rattle.uc_making_laws.proofs.BuilderKeeping as kept
use Rattle.uc_making_laws.proofs.BuilderWalk.{law_builders}

module _ (source : Source) (every : Bool) (thing : ℕ) (name : Exec) where
  abbrev NearStep : Step → Type 0
  NearStep (Goes s) = NearState source every thing name s
  NearStep (Ticks s) = NearState source every thing name s
  NearStep (Asks r s) = (AsksLetting every thing name r → ⊥) → BuildsState every thing name s

  pub near_of : (s : State) → BuildsState every thing name s → NearState source every thing name s
  near_of s h = record { stack = λ n. inl (h.stack n); env = h.env }

  of_step : (x : Step) → BuildsStep every thing name x → NearStep x
  of_step (Goes s) h = near_of s h
  of_step (Ticks s) h = near_of s h
  of_step (Asks r s) h = h

  -- what is new has another name
  abbrev IsNew : State → Type 0
  IsNew s = (x : Members) → members_at (home_at s.run.this s.env) s.env ≡ Some x → new_exec (home_at s.run.this s.env) s.env ≡ name → ⊥

  building : (l : List Todo) (s : State) → IsNew s → FinishesBy every l → BuildingAt every thing name l s
  building (piece.SetUpNow r ∷ todo) s f g = f
  building (piece.Finish ∷ todo) s f g = g
  building [] s f g = tt
  building (p ∷ todo) s f g = tt

  params_some : (k : ℕ) (x : Routine) → slice_get source.routines k ≡ Some x → params source k ≡ x.params
  params_some k x e = ap params_at e

  opens_some : (k : ℕ) (x : Routine) → slice_get source.routines k ≡ Some x → opens_so source every thing name k ≡ true → opens_built every x.body ≡ true
  opens_some k x e h = sym (ap (opens_by every) e) ∙ h

  opens_none : (k : ℕ) → slice_get source.routines k ≡ None → opens_so source every thing name k ≡ true → ⊥
  opens_none k e h = let x = sym (ap (opens_by every) e) ∙ h in absurd (cc)

  module _ (s : State) (h : NearState source every thing name s) where
    -- what comes first does not let go of the object
    abbrev Rest : List Todo → Type 0
    Rest todo = Building every s.callers thing ⊎ ((s.run.this ≡ Object thing) × (lets_built every todo ≡ true))

    busy : (todo : List Todo) → Building every s.callers thing ⊎ ((s.run.this ≡ Object thing) × ((lets_built every todo ≡ true) ⊎ (false ≡ true))) → Rest todo
    busy todo (inl c) = inl c
    busy todo (inr (e, inl l)) = inr (e, l)
    busy todo (inr (e, inr x)) = absurd (cc)

    here : (todo : List Todo) → Rest todo → Building every s.callers thing ⊎ ((s.run.this ≡ Object thing) × Lets every todo)
    here todo (inl c) = inl c
    here todo (inr m) = inr (m.0, inl m.1)

    waits : (todo : List Todo) (vs : List Value) → Rest todo → Building every (record s.run { control = todo; operands = vs } ∷ s.callers) thing
    waits todo vs (inl c) = inr c
    waits todo vs (inr m) = inl m

    -- no such call comes next
    plain : (l : List Todo) → s.run.control ≡ l → (Nears source every thing name l s.run.operands → ⊥) → IsNew s → FinishesBy every l → NearStep (quiet.act_todo source l s)
    plain l e f new fin =
        let st : BuildsState every thing name s = record { stack = λ n. only (h.stack n); env = h.env } in
        subst (λ l. NearStep (quiet.act_todo source l s)) e (of_step (quiet.quiet source s) (law_builders.steps every thing name source s st (building s.run.control s new (subst (FinishesBy every) (sym e) fin))))
      where
        only : Here source every thing name s ⊎ Nears source every thing name s.run.control s.run.operands → Here source every thing name s
        only (inl x) = x
        only (inr x) = absurd (f (subst (λ l. Nears source every thing name l s.run.operands) e x))

    -- the object is bound

    called : (k : ℕ) (x : Routine) → slice_get source.routines k ≡ Some x → (todo : List Todo) (vs : List Value) (v : Value) → Calls k todo → opens_so source every thing name k ≡ true → v ≡ Object thing → params source k < length vs → Nears source every thing name todo (slice_set vs x.params v)
    called k x e (piece.CallOnNow i ∷ todo) vs v c o q l =
        subst (λ i. CalledNext source every thing name i (slice_set vs x.params v)) (sym c) (o, subst (λ n. top (drop n (slice_set vs x.params v)) ≡ Object thing) (sym (params_some k x e)) (set_top x.params vs v (subst (λ n. n < length vs) (params_some k x e) l) ∙ q))
    called k x e (piece.CallUnwrittenNow i ∷ todo) vs v c o q l =
        subst (λ i. CalledNext source every thing name i (slice_set vs x.params v)) (sym c) (o, subst (λ n. top (drop n (slice_set vs x.params v)) ≡ Object thing) (sym (params_some k x e)) (set_top x.params vs v (subst (λ n. n < length vs) (params_some k x e) l) ∙ q))
    called k x e [] vs v c o q l = absurd c
    called k x e (p ∷ todo) vs v c o q l = absurd c

    bind : (c k : ℕ) (todo : List Todo) → s.run.control ≡ piece.BindMadeNow c k ∷ todo → (r : Option Routine) → slice_get source.routines k ≡ r → NearStep (monitors.bind_step r todo s)
    bind c k todo z None e = λ f. record { stack = λ n. by (subst (λ l. (Building every s.callers thing ⊎ ((s.run.this ≡ Object thing) × Lets every l)) ⊎ Nears source every thing name l s.run.operands) z (h.stack n)); env = h.env }
      where
        by : (Building every s.callers thing ⊎ ((s.run.this ≡ Object thing) × Lets every (piece.BindMadeNow c k ∷ todo))) ⊎ Nears source every thing name (piece.BindMadeNow c k ∷ todo) s.run.operands → Building every s.callers thing ⊎ ((s.run.this ≡ Object thing) × Lets every todo)
        by (inl x) = here todo (busy todo x)
        by (inr x) = absurd (opens_none k e x.1)
    bind c k todo z (Some x) e =
        let w = kept.written_keeps every thing name (top (drop x.params (below s.run.operands))) (top s.run.operands) s.env h.env in
        record { stack = λ n. by (subst (λ l. (Building every s.callers thing ⊎ ((s.run.this ≡ Object thing) × Lets every l)) ⊎ Nears source every thing name l s.run.operands) z (h.stack (sym w.exec ∙ n))); env = w.env }
      where
        by : (Building every s.callers thing ⊎ ((s.run.this ≡ Object thing) × Lets every (piece.BindMadeNow c k ∷ todo))) ⊎ Nears source every thing name (piece.BindMadeNow c k ∷ todo) s.run.operands → (Building every s.callers thing ⊎ ((s.run.this ≡ Object thing) × Lets every todo)) ⊎ Nears source every thing name todo (slice_set (below s.run.operands) x.params (top s.run.operands))
        by (inl y) = inl (here todo (busy todo y))
        by (inr y) = inr (called k x e todo (below s.run.operands) (top s.run.operands) y.0 y.1 y.2 y.3)

    -- it is built

    begun : (k : ℕ) (x : Routine) → slice_get source.routines k ≡ Some x → (counts : Bool) (todo : List Todo) → (name_of : s.env.exec ≡ name → (Building every s.callers thing ⊎ ((s.run.this ≡ Object thing) × ((lets_built every todo ≡ true) ⊎ (false ≡ true)))) ⊎ CalledNext source every thing name k s.run.operands) → NearStep (quiet.begun_step x (top (drop x.params s.run.operands)) counts todo (below (drop x.params s.run.operands)) s)
    begun k x e counts todo f = record { stack = λ n. by (f n); env = kept.like every thing name h.env refl refl refl }
      where
        own : CalledNext source every thing name k s.run.operands → top (drop x.params s.run.operands) ≡ Object thing
        own y = subst (λ n. top (drop n s.run.operands) ≡ Object thing) (params_some k x e) y.1

        by : (Building every s.callers thing ⊎ ((s.run.this ≡ Object thing) × ((lets_built every todo ≡ true) ⊎ (false ≡ true)))) ⊎ CalledNext source every thing name k s.run.operands → (Building every (record s.run { control = todo; operands = below (drop x.params s.run.operands) } ∷ s.callers) thing ⊎ ((top (drop x.params s.run.operands) ≡ Object thing) × Lets every (quiet.routine_todo x))) ⊎ Nears source every thing name (quiet.routine_todo x) []
        by (inl y) = inl (inl (waits todo (below (drop x.params s.run.operands)) (busy todo y)))
        by (inr y) = inl (inr (own y, inr (opens_some k x e y.0)))

    call_on : (k : ℕ) (todo : List Todo) → s.run.control ≡ piece.CallOnNow k ∷ todo → (r : Option Routine) → slice_get source.routines k ≡ r → NearStep (quiet.call_on_step r todo s)
    call_on k todo z None e = λ f. record { stack = λ n. by (subst (λ l. (Building every s.callers thing ⊎ ((s.run.this ≡ Object thing) × Lets every l)) ⊎ Nears source every thing name l s.run.operands) z (h.stack n)); env = h.env }
      where
        by : (Building every s.callers thing ⊎ ((s.run.this ≡ Object thing) × Lets every (piece.CallOnNow k ∷ todo))) ⊎ Nears source every thing name (piece.CallOnNow k ∷ todo) s.run.operands → Building every s.callers thing ⊎ ((s.run.this ≡ Object thing) × Lets every todo)
        by (inl x) = here todo (busy todo x)
        by (inr x) = absurd (opens_none k e x.0)
    call_on k todo z (Some x) e =
        either NearStep (nat_lt s.env.links.calls CALLS) _ (quiet.fault Depth todo s.run.operands s) (begun k x e true todo (λ n. subst (λ l. (Building every s.callers thing ⊎ ((s.run.this ≡ Object thing) × Lets every l)) ⊎ Nears source every thing name l s.run.operands) z (h.stack n))) (λ y. absurd (y tt))

    call_unwritten : (k : ℕ) (todo : List Todo) → s.run.control ≡ piece.CallUnwrittenNow k ∷ todo → (r : Option Routine) → slice_get source.routines k ≡ r → NearStep (quiet.call_unwritten_step r todo s)
    call_unwritten k todo z None e = λ f. record { stack = λ n. by (subst (λ l. (Building every s.callers thing ⊎ ((s.run.this ≡ Object thing) × Lets every l)) ⊎ Nears source every thing name l s.run.operands) z (h.stack n)); env = h.env }
      where
        by : (Building every s.callers thing ⊎ ((s.run.this ≡ Object thing) × Lets every (piece.CallUnwrittenNow k ∷ todo))) ⊎ Nears source every thing name (piece.CallUnwrittenNow k ∷ todo) s.run.operands → Building every s.callers thing ⊎ ((s.run.this ≡ Object thing) × Lets every todo)
        by (inl x) = here todo (busy todo x)
        by (inr x) = absurd (opens_none k e x.0)
    call_unwritten k todo z (Some x) e = begun k x e false todo (λ n. subst (λ l. (Building every s.callers thing ⊎ ((s.run.this ≡ Object thing) × Lets every l)) ⊎ Nears source every thing name l s.run.operands) z (h.stack n))

    pub step : IsNew s → Finishes every s → NearStep (quiet.quiet source s)
    step new fin = by s.run.control refl
      where
        by : (l : List Todo) → s.run.control ≡ l → NearStep (quiet.act_todo source l s)
        by [] e = plain [] e (λ x. x) new tt
        by (piece.BindMadeNow c k ∷ todo) e = bind c k todo e (slice_get source.routines k) refl
        by (piece.CallOnNow k ∷ todo) e = call_on k todo e (slice_get source.routines k) refl
        by (piece.CallUnwrittenNow k ∷ todo) e = call_unwritten k todo e (slice_get source.routines k) refl
        by (piece.Finish ∷ todo) e = plain (piece.Finish ∷ todo) e (λ x. x) new (subst (FinishesBy every) e fin)
        by (p ∷ todo) e = plain (p ∷ todo) e (λ x. x) new tt

  -- a ride

  new_of : (here : Home → Bool) (serials : Home → ℕ) (s : State) → Named here false serials s → IsBelow serials name → IsNew s
  new_of here serials s n b x e q = law_new.unnamed here false serials s n (home_at s.run.this s.env) x e (subst (IsBelow serials) (sym q) b)

  more_below : (here : Home → Bool) (a b : Home → ℕ) → Grows here a b → IsBelow a name → IsBelow b name
  more_below here a b g h = let l = g.more name.home in omega (arith, h, l)

  -- behind a ride
  abbrev pub Behind : Request → State → Type 0
  Behind ask.Slice s = NearState source every thing name s
  Behind r s = BuildsState every thing name s

  behind_of : (r : Request) (s : State) → BuildsState every thing name s → Behind r s
  behind_of ask.Slice s h = near_of s h
  behind_of r s h = h

  pub ridden : (here : Home → Bool) (serials : Home → ℕ) {s u : State} {q k : ℕ} {a : Asked} (r : Rides source s q u k a) → Named here false serials s → IsBelow serials name → RideMeets (Finishes every) source s q u k a r → NearState source every thing name s → (AsksLetting every thing name a.request → ⊥) → Behind a.request u
  ridden here serials slices n b m h f = h
  ridden here serials (goes_on {s} e r) n b m h f =
      let y = walk source here false serials s n (λ u. vacuous u) in
      ridden here y.serials r (subst (StepNamed here false y.serials) e y.named) (more_below here serials y.serials y.grows b) m.1 (subst NearStep e (step s h (new_of here serials s n b) m.0)) f
  ridden here serials (ticks {s} e r) n b m h f =
      let y = walk source here false serials s n (λ u. vacuous u) in
      ridden here y.serials r (subst (StepNamed here false y.serials) e y.named) (more_below here serials y.serials y.grows b) m.1 (subst NearStep e (step s h (new_of here serials s n b) m.0)) f
  ridden here serials (asks {s} {t} {q} {r} e) n b m h f = behind_of r t (subst NearStep e (step s h (new_of here serials s n b) m) f)

  pub led : (here : Home → Bool) (serials : Home → ℕ) {s u : State} (l : Leads source s u) → Named here false serials s → IsBelow serials name → LeadsMeet (Finishes every) source s u l → NearState source every thing name s → NearState source every thing name u
  led here serials rooms.stays n b m h = h
  led here serials (rooms.goes {s} e l) n b m h =
      let y = walk source here false serials s n (λ u. vacuous u) in
      led here y.serials l (subst (StepNamed here false y.serials) e y.named) (more_below here serials y.serials y.grows b) m.1 (subst NearStep e (step s h (new_of here serials s n b) m.0))
  led here serials (rooms.ticks {s} e l) n b m h =
      let y = walk source here false serials s n (λ u. vacuous u) in
      led here y.serials l (subst (StepNamed here false y.serials) e y.named) (more_below here serials y.serials y.grows b) m.1 (subst NearStep e (step s h (new_of here serials s n b) m.0))
