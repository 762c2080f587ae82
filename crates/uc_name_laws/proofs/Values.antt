-- Names in values: in lists of operands, in frames, and behind writes.
use Rattle.std.proofs.Common.{ℕ, zero, suc, ◌≤◌, ◌++◌, List, [], ◌∷◌, length, replicate, take, drop, Option, Some, None, arith}
use Rattle.std.specs.Prelude.{nat_eq, slice_index_or, slice_set}
use Rattle.uc_machine.specs.declared.exec.Exec.{Exec}
use Rattle.uc_machine.specs.declared.exec.Home.{Home}
use Rattle.uc_machine.specs.declared.exec.Owner.TheVariants.{Frame, Fields}
use Rattle.uc_machine.specs.Executions.{Links, at_depth, set_depth, list_in, others, first_or, take_operands, frame_changed, value_changed, values_cleared}
use Rattle.uc_machine.specs.Pieces.{Value, Number, Place, Running, Object, Nothing, Link, Active, top, below, further, stored, nought}
use Rattle.uc_name_laws.specs.Below.{Ex, IsBelow, IsNamed, AreNamed, FramesNamed, MaybeBelow, LinksNamed, ActiveNamed, AllNamed, ExNamed, SlotNamed, ParkedNamed}
use Rattle.uc_name_laws.proofs.Homes.{either}

module _ (serials : Home → ℕ) where
  abbrev Is : Value → Type 0
  Is = IsNamed serials

  abbrev All : List Value → Type 0
  All = AreNamed serials

  pub named_top : (vs : List Value) → AreNamed serials vs → IsNamed serials (top vs)
  named_top [] h = tt
  named_top (v ∷ vs) h = h.0

  pub named_below : (vs : List Value) → AreNamed serials vs → AreNamed serials (below vs)
  named_below [] h = tt
  named_below (v ∷ vs) h = h.1

  pub named_drop : (n : ℕ) (vs : List Value) → AreNamed serials vs → AreNamed serials (drop n vs)
  named_drop zero vs h = h
  named_drop (suc n) [] h = tt
  named_drop (suc n) (v ∷ vs) h = named_drop n vs h.1

  named_take : (n : ℕ) (vs : List Value) → AreNamed serials vs → AreNamed serials (take n vs)
  named_take zero vs h = tt
  named_take (suc n) [] h = tt
  named_take (suc n) (v ∷ vs) h = (h.0, named_take n vs h.1)

  named_both : (vs ws : List Value) → AreNamed serials vs → AreNamed serials ws → AreNamed serials (vs ++ ws)
  named_both [] ws h k = k
  named_both (v ∷ vs) ws h k = (h.0, named_both vs ws h.1 k)

  pub named_noughts : (n : ℕ) → AreNamed serials (replicate n nought)
  named_noughts zero = tt
  named_noughts (suc n) = (tt, named_noughts n)

  pub named_set : (vs : List Value) (k : ℕ) (v : Value) → AreNamed serials vs → IsNamed serials v → AreNamed serials (slice_set vs k v)
  named_set [] k v h i = tt
  named_set (w ∷ vs) zero v h i = (i, h.1)
  named_set (w ∷ vs) (suc k) v h i = (h.0, named_set vs k v h.1 i)

  pub named_get : (vs : List Value) (k : ℕ) → AreNamed serials vs → IsNamed serials (slice_index_or vs k nought)
  named_get [] k h = tt
  named_get (v ∷ vs) zero h = h.0
  named_get (v ∷ vs) (suc k) h = named_get vs k h.1

  named_stored : (v w : Value) → IsNamed serials v → IsNamed serials w → IsNamed serials (stored v w)
  named_stored v (Number n) h k = h
  named_stored v (Place o p) h k = k
  named_stored v (Running n) h k = k
  named_stored v (Object o) h k = k
  named_stored v Nothing h k = h

  pub named_changed : (k : ℕ) (v : Value) (vs : List Value) → IsNamed serials v → AreNamed serials vs → AreNamed serials (value_changed k (stored v) nought vs)
  named_changed k v vs i h = named_set vs k _ h (named_stored v (slice_index_or vs k nought) i (named_get vs k h))

  pub named_cleared : (k n : ℕ) (vs : List Value) → AreNamed serials vs → AreNamed serials (values_cleared k n nought vs)
  named_cleared k n vs h =
      named_both (take k vs) _ (named_take k vs h) (named_both (replicate (length (take n (drop k vs))) nought) _ (named_noughts (length (take n (drop k vs)))) (named_drop n (drop k vs) (named_drop k vs h)))

  named_first : (vs : List Value) → AreNamed serials vs → IsNamed serials (first_or Nothing vs)
  named_first [] h = tt
  named_first (v ∷ vs) h = h.0

  named_others : (vs : List Value) → AreNamed serials vs → AreNamed serials (others vs)
  named_others [] h = tt
  named_others (v ∷ vs) h = h.1

  pub named_taken : (n : ℕ) (vs ws : List Value) → AreNamed serials vs → AreNamed serials ws → AreNamed serials (take_operands Nothing n vs ws)
  named_taken zero vs ws h k = k
  named_taken (suc n) vs ws h k = named_taken n (others vs) (first_or Nothing vs ∷ ws) (named_others vs h) (named_first vs h, k)

  pub named_further : (l : Link) (v : Value) → IsNamed serials v → IsNamed serials (further l v)
  named_further l (Number n) h = tt
  named_further l (Place (Frame n d) p) h = h
  named_further l (Place (Fields o) p) h = tt
  named_further l (Running n) h = tt
  named_further l (Object o) h = tt
  named_further l Nothing h = tt

  -- frames

  pub frame_named : (fs : List (List Value)) (d : ℕ) → FramesNamed serials fs → AreNamed serials (list_in (at_depth fs d))
  frame_named [] d h = tt
  frame_named (f ∷ fs) d h = either (λ o. AreNamed serials (list_in o)) (nat_eq d (length fs)) (Some f) (at_depth fs d) h.0 (frame_named fs d h.1)

  set_named : (fs : List (List Value)) (d : ℕ) (f : List Value) → AreNamed serials f → FramesNamed serials fs → FramesNamed serials (set_depth fs d f)
  set_named [] d f i h = tt
  set_named (g ∷ fs) d f i h = either (FramesNamed serials) (nat_eq d (length fs)) (f ∷ fs) (g ∷ set_depth fs d f) (i, h.1) (h.0, set_named fs d f i h.1)

  pub frames_named : (d : ℕ) (g : List Value → List Value) (fs : List (List Value)) → ((vs : List Value) → AreNamed serials vs → AreNamed serials (g vs)) → FramesNamed serials fs → FramesNamed serials (frame_changed d g fs)
  frames_named d g fs k h = set_named fs d (g (list_in (at_depth fs d))) (k (list_in (at_depth fs d)) (frame_named fs d h)) h

  pub frames_others : (fs : List (List Value)) → FramesNamed serials fs → FramesNamed serials (others fs)
  frames_others [] h = tt
  frames_others (f ∷ fs) h = h.1

-- where each home has made as many executions, or more

module _ (before behind : Home → ℕ) (more : (h : Home) → before h ≤ behind h) where
  pub below_more : (n : Exec) → IsBelow before n → IsBelow behind n
  below_more n h = let k = more n.home in omega (arith, h, k)

  pub value_more : (v : Value) → IsNamed before v → IsNamed behind v
  value_more (Number n) h = tt
  value_more (Place (Frame n d) p) h = below_more n h
  value_more (Place (Fields o) p) h = tt
  value_more (Running n) h = below_more n h
  value_more (Object o) h = tt
  value_more Nothing h = tt

  pub values_more : (vs : List Value) → AreNamed before vs → AreNamed behind vs
  values_more [] h = tt
  values_more (v ∷ vs) h = (value_more v h.0, values_more vs h.1)

  pub frames_more : (fs : List (List Value)) → FramesNamed before fs → FramesNamed behind fs
  frames_more [] h = tt
  frames_more (f ∷ fs) h = (values_more f h.0, frames_more fs h.1)

  maybe_more : (o : Option Exec) → MaybeBelow before o → MaybeBelow behind o
  maybe_more None h = tt
  maybe_more (Some n) h = below_more n h

  pub links_more : (l : Links) → LinksNamed before l → LinksNamed behind l
  links_more l h = record {
    starter_below = maybe_more l.starter h.starter_below;
    resumer_below = maybe_more l.resumer h.resumer_below;
    destroyer_below = maybe_more l.destroyer h.destroyer_below;
  }

  pub active_more : (a : Active) → ActiveNamed before a → ActiveNamed behind a
  active_more a h = record {
    operands_named = values_more a.operands h.operands_named;
    this_named = value_more a.this h.this_named;
    result_named = value_more a.result h.result_named;
  }

  pub all_more : (cs : List Active) → AllNamed before cs → AllNamed behind cs
  all_more [] h = tt
  all_more (c ∷ cs) h = (active_more c h.0, all_more cs h.1)

  ex_more : (x : Ex) → ExNamed before x → ExNamed behind x
  ex_more x h = record {
    run_named = active_more x.run h.run_named;
    callers_named = all_more x.callers h.callers_named;
    frames_named = frames_more x.frames h.frames_named;
    links_named = links_more x.links h.links_named;
  }

  slot_more : (o : Option Ex) → SlotNamed before o → SlotNamed behind o
  slot_more None h = tt
  slot_more (Some x) h = ex_more x h

  pub parked_more : (n m : ℕ) → n ≤ m → (ps : List (ℕ × Option Ex)) → ParkedNamed before n ps → ParkedNamed behind m ps
  parked_more n m le [] h = tt
  parked_more n m le (p ∷ ps) h = let lt = h.0 in (omega (arith, lt, le), slot_more p.1 h.1, parked_more n m le ps h.2)
