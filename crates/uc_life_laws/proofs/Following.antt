-- What is known is of its type.
use Rattle.std.proofs.Common.{◌≡◌, ℕ, List, [], ◌∷◌, Option, Some, None, Bool, true, false, refl, sym, ap, ◌∙◌, subst}
use Rattle.uc_tree.specs.Source.{Shape, Expr, Get, GetOwn, OfObject, Source}
use Rattle.uc_machine.specs.declared.exec.Exec.{Exec}
use Rattle.uc_machine.specs.declared.exec.Home.{Home}
use Rattle.uc_machine.specs.declared.exec.Home.TheVariants as home
use Rattle.uc_machine.specs.declared.exec.Stage.{Stage}
use Rattle.uc_machine.specs.declared.exec.Stage.TheVariants.{Fresh, Started, Ended}
use Rattle.uc_machine.specs.Executions.{others}
use Rattle.uc_machine.specs.Pieces as pc
use Rattle.uc_machine.specs.Pieces.{FieldAt, Slot, Value, Todo, Active, State, Env, Members, loaded, further, top, variable_at}
use Rattle.uc_typing.specs.Typing.{Ty, Num, Cell, Sig, Table, object_ty, InScope, IsPlaced, Yields}
use Rattle.uc_typing.specs.Pieces.{Ok}
use Rattle.uc_typing.specs.States.{Is, IsObject, IsThis, Values, Bound, Framed, Active_is, Waits, Rests, RestsBy, MaybeRests, Parked, Inhand, Typed, ReadsVariable, ReadsPlace, Sound}
use Rattle.uc_life_laws.specs.Things.{Few, itself, Variables, Known}
use Rattle.uc_life_laws.specs.LifeStates.{SlotBy, ParkedBy, HandBy}
use Rattle.uc_life_laws.specs.Knowing.{Anything, AtHand, KnownAll, KnownParams, KnownFrames, KnownThis, Knows, KnowsWaits, KnowsEx, KnowsBy, KnowsSlot, KnowsState, Here, VariablesKnown, FindsExpr, Finds}
use Rattle.uc_life_laws.specs.Following.{LawFollowing}
use Rattle.uc_life_laws.proofs.Parked.{Ex}
use Rattle.uc_life_laws.proofs.Knowns.{known_is, newest}
use Rattle.uc_life_laws.proofs.Reading as reading
use Rattle.uc_life_laws.proofs.Parking.{anything_kept}
use Rattle.uc_life_laws.proofs.Going.{With}
use Rattle.uc_life_laws.proofs.Evaluating as evaluating

module _ (t : Table) (few : Few) where
  module _ (n : Exec) where
    all_typed : (K : Value → Ty → Type 0) (own : List Ty) (vs : List Value) → KnownAll t few n K own vs → Values t own vs
    all_typed K [] [] h = tt
    all_typed K [] (v ∷ vs) h = absurd h
    all_typed K (a ∷ own) [] h = absurd h
    all_typed K (a ∷ own) (v ∷ vs) h = (known_is t few n K a v h.0, all_typed K own vs h.1)

    params_typed : (K : Value → Ty → Type 0) (ps : List Ty) (vs : List Value) → KnownParams t few n K ps vs → Bound t ps vs
    params_typed K [] vs h = tt
    params_typed K (a ∷ ps) [] h = absurd h
    params_typed K (a ∷ ps) (v ∷ vs) h = (known_is t few n K a v h.0, params_typed K ps vs h.1)

    frames_typed : (gs : List Sig) (fs : List (List Value)) (cs : List Active) → KnownFrames t few n gs fs cs → Framed t gs fs
    frames_typed [] [] [] h = tt
    frames_typed (g ∷ gs) (f ∷ fs) (c ∷ cs) h = (params_typed (AtHand t few n gs cs) g.params f h.0, frames_typed gs fs cs h.1)
    frames_typed [] [] (c ∷ cs) h = absurd h
    frames_typed [] (f ∷ fs) cs h = absurd h
    frames_typed (g ∷ gs) [] cs h = absurd h
    frames_typed (g ∷ gs) (f ∷ fs) [] h = absurd h

    object_typed : (K : Value → Ty → Type 0) (b : Bool) (c : ℕ) (v : Value) → Known t few n K (object_ty b c) v → IsObject t c v
    object_typed K true c v h = h.is
    object_typed K false c v h = h.is

    this_typed : (K : Value → Ty → Type 0) (g : Sig) (o : Option ℕ) (v : Value) → KnownThis t few n K g o v → IsThis t o v
    this_typed K g None v h = tt
    this_typed K g (Some c) v h = object_typed K g.whole c v h

    active_typed : (gs : List Sig) (given : List Ty) (older : List Active) (a : Active) → Knows t few n gs given older a → Active_is t gs given older a
    active_typed gs given older a h = record {
      sig = h.sig;
      own = h.own;
      scope = h.scope;
      base = h.base;
      frame = h.frame;
      values = all_typed (AtHand t few n gs (a ∷ older)) h.own a.operands h.values;
      this = this_typed (AtHand t few n (others gs) older) h.sig h.sig.this a.this h.this;
      ok = h.ok;
      ends = h.ends;
    }

    waits_typed : (gs : List Sig) (cs : List Active) → KnowsWaits t few n gs cs → Waits t gs cs
    waits_typed gs [] h = tt
    waits_typed gs (c ∷ cs) h = (active_typed gs (Num ∷ []) cs c h.0, waits_typed (others gs) cs h.1)

    rests_typed : (x : Ex) → KnowsEx t few n x → Rests t x
    rests_typed x h = record {
      sigs = h.sigs;
      frames = frames_typed h.sigs x.frames (x.run ∷ x.callers) h.frames;
      run = active_typed h.sigs [] x.callers x.run h.run;
      callers = waits_typed (others h.sigs) x.callers h.callers;
    }

    by_typed : (g : Stage) (x : Ex) → KnowsBy t few n g x → RestsBy t g x
    by_typed Fresh x h = rests_typed x h
    by_typed Started x h = rests_typed x h
    by_typed Ended x h = tt

  slot_typed : (n : Exec) (o : Option Ex) → SlotBy (KnowsSlot t few) n o → MaybeRests t o
  slot_typed n None k = tt
  slot_typed n (Some x) k = by_typed n x.links.stage x k

  parked_typed : (h : Home) (ps : List (ℕ × Option Ex)) → ParkedBy (KnowsSlot t few) h ps → Parked t ps
  parked_typed h [] k = tt
  parked_typed h (p ∷ ps) k = (slot_typed (record { home = h; serial = p.0 }) p.1 k.0, parked_typed h ps k.1)

  hand_typed : (ps : List (ℕ × Members)) → HandBy (KnowsSlot t few) ps → Inhand t ps
  hand_typed [] k = tt
  hand_typed (p ∷ ps) k = (parked_typed (home.Object p.0) p.1.parked k.0, hand_typed ps k.1)

  state_typed : (given : List Ty) (s : State) → KnowsState t few given s → Typed t given s
  state_typed given s x = record {
    sigs = x.sigs;
    frames = frames_typed s.env.exec x.sigs s.env.frames (s.run ∷ s.callers) x.frames;
    run = active_typed s.env.exec x.sigs given s.callers s.run x.run;
    callers = waits_typed s.env.exec (others x.sigs) s.callers x.callers;
    idle = (parked_typed (home.Task s.env.own) s.env.house.parked x.env.house, hand_typed s.env.hand x.env.hand);
  }

  -- what is read

  module _ (source : Source) (sound : Sound t source) (s : State) (x : KnowsState t few [] s) (st : VariablesKnown t few x.sigs s) where
    K : Value → Ty → Type 0
    K = Here t few x.sigs s

    of_variable : (k : ℕ) (a : Ty) → InScope x.run.scope k (Cell a) → Is t a (loaded (variable_at k s) s.env)
    of_variable k a i =
        let m : Variables t s.env.exec (s.run ∷ s.callers) (variable_at k s) (Cell a) = reading.scope_at t s.env.exec x.run.sig k (Cell a) s.run s.callers x.run.base x.run.scope x.run.own x.run.ok x.run.ends i in
        known_is t few s.env.exec (Here t few x.sigs s) a (loaded (variable_at k s) s.env) (st (variable_at k s) (Cell a) s.run.frame (Slot k ∷ []) a (reading.is_binding t s.env.exec (variable_at k s) a (s.run ∷ s.callers) m) m itself)

    by_name : (todo : List Todo) → ReadsVariable t x.run.scope s todo
    by_name [] = tt
    by_name (pc.Eval (Get k) ∷ todo) = λ q a i. of_variable k a i
    by_name (pc.Eval e ∷ todo) = tt
    by_name (_ ∷ todo) = tt

    cell_same : (a b : Ty) → Cell a ≡ Cell b → a ≡ b
    cell_same a b e = cc

    -- of a field of the object at hand
    of_field : (k : Shape) (i : ℕ) (todo : List Todo) → s.run.control ≡ pc.Eval (OfObject (GetOwn k i)) ∷ todo → ((a : Ty) → Yields t x.run.sig x.run.scope (OfObject (GetOwn k i)) a → FindsExpr t few x.sigs x.run.sig x.run.scope s (OfObject (GetOwn k i)) a) → (b : Ty) → Yields t x.run.sig x.run.scope (OfObject (GetOwn k i)) b → (c : ℕ) (a : Ty) → x.run.sig.this ≡ Some c → Cell a ≡ t.fields c i → Is t a (loaded (further (FieldAt k i) s.run.this) s.env)
    of_field k i todo q f b y c a n e =
        let same : y.0 ≡ c = cc in
        let same_ty : b ≡ a = cell_same b a (y.3 ∙ (ap (λ d. t.fields d i) same ∙ sym e)) in
        let placed : IsPlaced t (t.fields y.0 i) = subst (IsPlaced t) y.3 tt in
        let to = evaluating.to t few Anything anything_kept source sound s x.sigs st x.run.sig x.run.base x.run.scope x.frames x.run.frame x.run.this x.callers x.env x.run.ends (pc.Eval (OfObject (GetOwn k i)) ∷ todo) q in
        let from = evaluating.from t few Anything anything_kept source sound s x.sigs st x.run.sig x.run.base x.run.scope x.frames x.run.frame x.run.this x.callers x.env x.run.ends (pc.Eval (OfObject (GetOwn k i)) ∷ todo) q in
        let place = subst (λ d. Known t few s.env.exec (With t few s x.sigs todo) d (further (FieldAt k i) s.run.this)) (sym y.3) (evaluating.own_field t few Anything anything_kept source sound s x.sigs st x.run.sig x.run.base x.run.scope x.frames x.run.frame x.run.this x.callers x.env x.run.ends todo y.0 k i y.1 y.2 placed) in
        subst (λ d. Is t d (loaded (further (FieldAt k i) s.run.this) s.env)) same_ty (known_is t few s.env.exec (With t few s x.sigs todo) b (loaded (further (FieldAt k i) s.run.this) s.env) (evaluating.read_at t few Anything anything_kept source sound s x.sigs st x.run.sig x.run.base x.run.scope x.frames x.run.frame x.run.this x.callers x.env x.run.ends todo to from b (further (FieldAt k i) s.run.this) place (f b y)))

    of_own : (e : Expr) (todo : List Todo) (own : List Ty) → s.run.control ≡ pc.Eval e ∷ todo → ((a : Ty) → Yields t x.run.sig x.run.scope e a → FindsExpr t few x.sigs x.run.sig x.run.scope s e a) → (b : Ty) → Yields t x.run.sig x.run.scope e b → ReadsPlace t x.run.sig s (pc.Eval e ∷ todo) own
    of_own (OfObject (GetOwn k i)) todo own q f b y = λ r c a n e. of_field k i todo q f b y c a n e
    of_own (OfObject o) todo own q f b y = tt
    of_own e todo own q f b y = tt

    at_place : (todo : List Todo) (own : List Ty) → s.run.control ≡ todo → Finds t few x.sigs x.run.sig x.run.scope s todo own → Ok t x.run.sig x.run.base x.run.scope todo own → KnownAll t few s.env.exec (Here t few x.sigs s) own s.run.operands → ReadsPlace t x.run.sig s todo own
    at_place [] own q f o h = tt
    at_place (pc.LoadNow ∷ todo) (Cell a ∷ own) q f o h =
        λ r. known_is t few s.env.exec (Here t few x.sigs s) a (loaded (top s.run.operands) s.env) (reading.load_known t few s x.sigs st a (top s.run.operands) (newest t few s.env.exec (Here t few x.sigs s) (Cell a) own s.run.operands h) f)
    at_place (pc.LoadNow ∷ todo) own q f o h = tt
    at_place (pc.Eval e ∷ todo) own q f o h = of_own e todo own q f o.0 o.1
    at_place (p ∷ todo) own q f o h = tt

pub law_following : LawFollowing
unfolding state_typed active_typed
law_following = record {
  typed = λ t few given s x. state_typed t few given s x;
  reads = λ t few source sound s x st f y.
      (state_typed t few [] s x, (by_name t few source sound s x st s.run.control, at_place t few source sound s x st s.run.control x.run.own refl f x.run.ok x.run.values));
}
