-- All parts once an event is raised.
use Rattle.std.proofs.Common.{◌≡◌, ℕ, ℤ, ◌==◌, ◌<◌, ◌≤◌, cond, subst, Bool, true, false, List, [], ◌∷◌, ◌++◌, Option, Some, None, refl, sym, ap, ◌∙◌, arith, length, length-set, get_or}
use Rattle.std.specs.Prelude.{nat_lt}
use Rattle.std.specs.Option.{option_to_list}
use Rattle.uc_tree.specs.Programs.{Site}
use Rattle.uc_tree.specs.declared.limits.TheConstants.{PENDING_EVENTS}
use Rattle.uc_entry.specs.declared.entry.Entry.{Entry}
use Rattle.uc_entry.specs.declared.entry.Options.{Options}
use Rattle.uc_acts.specs.Journal.{Journal, first_or_0, Cost}
use Rattle.uc_acts.specs.Known.{object_count, owner}
use Rattle.uc_acts.specs.Pending.{pending}
use Rattle.uc_acts.specs.Acts.{raise_entry, fault, or_fault, settled}
use Rattle.uc_acts.specs.Legal.{Legal}
use Rattle.uc_acts.proofs.Moves.{legal_still, more_objects}
use Rattle.uc_mutex.specs.Doors.{Doors}
use Rattle.uc_condition.specs.Waiting.{Waiting}
use Rattle.uc_events.specs.Pending.{Event, pending_at, with_pending, has_room, raised}
use Rattle.uc_events.proofs.Mirrors.{raise}
use Rattle.uc_cluster.specs.Standing.{Standing}
use Rattle.uc_kernel_core.specs.Mirrors.{Mirrors}
use Rattle.uc_kernel_core.proofs.Doors.{same_tasks}
use Rattle.uc_kernel_core.proofs.Steps.{m_still}
use Rattle.uc_kernel_core.proofs.Fresh.{pending_push}
use Rattle.std.proofs.lemmas.Bool.{eqb-true}

-- an owner in a list
pub owner_or_0 : (x : Option ℕ) (ts : List ℕ) → option_to_list x ≡ ts → (n : ℕ) → x ≡ Some n → n ≡ first_or_0 ts
owner_or_0 x ts h n e = ap first_or_0 (sym (ap option_to_list e) ∙ h)

pub nobody_or_0 : (x : Option ℕ) (ts : List ℕ) → option_to_list x ≡ ts → x ≡ None → 0 ≡ first_or_0 ts
nobody_or_0 x ts h e = ap first_or_0 (sym (ap option_to_list e) ∙ h)

pub nobody_told : (x : Option ℕ) (ts : List ℕ) → option_to_list x ≡ ts → x ≡ None → ts ≡ []
nobody_told x ts h e = sym h ∙ ap option_to_list e

pub one_told : (x : Option ℕ) (ts : List ℕ) → option_to_list x ≡ ts → (n : ℕ) → x ≡ Some n → length ts ≡ 1
one_told x ts h n e = ap length (sym h ∙ ap option_to_list e)

first_of : (ts : List ℕ) → length ts ≡ 1 → ts ≡ first_or_0 ts ∷ []
first_of [] h = cc
first_of (t ∷ []) h = refl
first_of (t ∷ u ∷ ts) h = absurd (omega (arith, h))

module _ (opts : Options) (sites : List Site) (j : Journal) (doors : Doors) (waits : Waiting) (events : List (List Event)) (standing : Standing) (marks ins : List Bool) (owners : List (Option ℕ)) (own : List ℕ) (h : Mirrors opts sites j doors waits events standing marks ins owners own) (o : ℕ) where
  pub owner_told : o < object_count j → (x d : Option ℕ) → x ≡ get_or owners o d → option_to_list x ≡ owner o j
  owner_told known x d was = ap option_to_list was ∙ h.owners_are.owner_is o d (rw h.owners_are.objects known)

  pub target_known : length (owner o j) ≡ 1 → first_or_0 (owner o j) < length events
  target_known one =
      let k = h.owned o (first_or_0 (owner o j)) (first_of (owner o j) one) in
      let m = h.events_are.known in
      omega arith

  pub target_pending : (t : ℕ) → t < length events → has_room (pending_at events t) ≡ nat_lt (length (pending t j)) PENDING_EVENTS
  target_pending t lt = ap has_room (h.events_are.pending t lt)

  pub m_raise : (p t : ℕ) (k : Cost) (target event : ℕ) (x y : ℤ) → o < object_count j → target < length events → true ≡ has_room (pending_at events target) → Mirrors opts sites (j ++ raise_entry p t k o target event x y ∷ []) doors waits (with_pending events target (raised (event, x, y) (pending_at events target))) standing marks ins owners own
  m_raise p t k target event x y known lt room =
      let e = raise_entry p t k o target event x y in
      let l : Legal e j = legal_still e j (λ u. refl) tt tt (more_objects j e o known) tt in
      m_still opts sites j doors waits events standing marks ins owners own h e l refl (with_pending events target (raised (event, x, y) (pending_at events target))) (record {
        pending = raise events j p t k o target event x y lt (sym room) h.events_are.pending;
        known = length-set events target (raised (event, x, y) (pending_at events target)) ∙ h.events_are.known ∙ sym (same_tasks j e refl);
        fresh = λ u g. quiet u (subst (λ n. n ≤ u) (length-set events target (raised (event, x, y) (pending_at events target))) g);
      })
    where
      apart : (u : ℕ) → length events ≤ u → (target == u) ≡ false
      apart u g = by (target == u) refl
        where
          by : (b : Bool) → (target == u) ≡ b → b ≡ false
          by true s = let same = eqb-true target u s in absurd (omega arith)
          by false s = refl

      quiet : (u : ℕ) → length events ≤ u → pending u (j ++ raise_entry p t k o target event x y ∷ []) ≡ []
      quiet u g =
          pending_push u j (raise_entry p t k o target event x y) ∙ ap (λ b. cond b (pending u j ++ (event, x, y) ∷ []) (pending u j)) (apart u g) ∙ h.events_are.fresh u g

-- the entries of the request, by whether there is room at its target
pub raise_all : (f g : Entry) (j : Journal) (p t : ℕ) (k : Cost) (o u event : ℕ) (x y : ℤ) (target : ℕ) → u ≡ target → true ≡ nat_lt (length (pending u j)) PENDING_EVENTS → settled f j (or_fault (nat_lt (length (pending target j)) PENDING_EVENTS) (raise_entry p t k o target event x y) g) ≡ raise_entry p t k o u event x y ∷ []
raise_all f g j p t k o u event x y target is room =
    ap (λ v. settled f j (or_fault (nat_lt (length (pending v j)) PENDING_EVENTS) (raise_entry p t k o v event x y) g)) (sym is) ∙ ap (λ c. settled f j (or_fault c (raise_entry p t k o u event x y) g)) (sym room)

pub fault_all : (f : Entry) (j : Journal) (p t : ℕ) (k : Cost) (line o u event : ℕ) (x y : ℤ) (target : ℕ) → u ≡ target → false ≡ nat_lt (length (pending u j)) PENDING_EVENTS → settled f j (or_fault (nat_lt (length (pending target j)) PENDING_EVENTS) (raise_entry p t k o target event x y) (fault p t k 17 line)) ≡ fault p t k 17 line ∷ []
fault_all f j p t k line o u event x y target is room =
    ap (λ v. settled f j (or_fault (nat_lt (length (pending v j)) PENDING_EVENTS) (raise_entry p t k o v event x y) (fault p t k 17 line))) (sym is) ∙ ap (λ c. settled f j (or_fault c (raise_entry p t k o u event x y) (fault p t k 17 line))) (sym room)
