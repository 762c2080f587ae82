-- Only the last entry of a run may end it.
use Rattle.std.proofs.Common.{◌≡◌, ℕ, ℤ, zero, suc, ◌+◌, ◌||◌, Bool, true, false, cond, not, List, [], ◌∷◌, ◌++◌, Option, Some, None, take, refl, sym, ap, ◌∙◌, subst, length, arith, append-nil, append_assoc}
use Rattle.std.specs.Prelude.{pos, nat_lt, nat_le, slice_get}
use Rattle.uc_tree.specs.Programs.{Site}
use Rattle.uc_tree.specs.declared.limits.TheConstants.{TASKS, OBJECTS, PENDING_EVENTS, CLUSTERS, PROCESSORS}
use Rattle.uc_entry.specs.declared.entry.Entry.{Entry}
use Rattle.uc_entry.specs.declared.entry.EntryKind.{EntryKind}
use Rattle.uc_entry.specs.declared.entry.EntryKind.TheVariants as kind
use Rattle.uc_entry.specs.declared.entry.Options.{Options}
use Rattle.uc_entry.specs.declared.request.Piece.{Piece}
use Rattle.uc_entry.specs.declared.request.Request.{Request}
use Rattle.uc_entry.specs.declared.request.Request.TheVariants as ask
use Rattle.uc_acts.specs.Journal.{Journal, begin, entry, inside, own_object, first_or_0, is_over, is_ending, is_fault, asking, Cost, cost, no_cost}
use Rattle.uc_acts.specs.Queues.{next, cluster_count, processor_count, is_in_use}
use Rattle.uc_acts.specs.Known.{object_count, task_count, owner}
use Rattle.uc_acts.specs.Pending.{pending, oldest_in}
use Rattle.uc_acts.specs.Doors.{site_at, open_at, offered, next_met, blocked, destroys_busy}
use Rattle.uc_tree.specs.SiteOffers.{clause_for, Met}
use Rattle.uc_acts.specs.Acts.{fault, admission, met_by, called, took, accepted, signalled, handed, front, poll_entry, prints, or_fault, row, settled, entries_of, is_faulty, verdict, closing, ending, fitted, dispatch, lone_limit, truth}
use Rattle.uc_acts.specs.KernelRuns.{KernelRuns, KernelMay, begun, more, gives, no_room, acts}
use Rattle.uc_acts.proofs.Bounds.{over_push}
use Rattle.uc_kernel.specs.Calls.{EndsRun}
use Rattle.uc_kernel.proofs.Hands.{no_both, some-same}

-- ---- the entries of a request: none but the last ends the run, and that only by a fault
abbrev EndsLast : List Entry → Type 0
EndsLast [] = Unit {0}
EndsLast (e ∷ []) = is_ending e.kind ≡ is_fault e.kind
EndsLast (e ∷ f ∷ a) = (is_ending e.kind ≡ false) × EndsLast (f ∷ a)

calm_kind : (k : EntryKind) → is_ending k ≡ false → is_ending k ≡ is_fault k
calm_kind kind.Fault h = cc
calm_kind kind.Done h = cc
calm_kind kind.Deadlock h = cc
calm_kind kind.NoProcessor h = cc
calm_kind kind.Limit h = cc
calm_kind k h = refl

after_calm : (e : Entry) (a : List Entry) → is_ending e.kind ≡ false → EndsLast a → EndsLast (e ∷ a)
after_calm e [] h k = calm_kind e.kind h
after_calm e (f ∷ a) h k = (h, k)

last_or : (b : Bool) (e f : Entry) → is_ending e.kind ≡ is_fault e.kind → is_ending f.kind ≡ is_fault f.kind → EndsLast (or_fault b e f)
last_or true e f h k = h
last_or false e f h k = k

last_admission : (sites : List Site) (p o : ℕ) (j : Journal) (n : Option (ℕ × ℕ)) → EndsLast (admission sites p o j n)
last_admission sites p o j None = tt
last_admission sites p o j (Some n) = refl

last_met : (p t o u m : ℕ) (c : Option ℕ) → EndsLast (met_by p t o u m c)
last_met p t o u m None = tt
last_met p t o u zero (Some clause) = (refl, refl)
last_met p t o u (suc m) (Some clause) = refl

last_called : (sites : List Site) (p t o m : ℕ) (within : List ℕ) (opened : List Entry) → EndsLast (called sites p t o m within opened)
last_called sites p t o m [] [] = refl
last_called sites p t o m (x ∷ xs) [] = tt
last_called sites p t o m [] (y ∷ rest) = last_met p t o y.task m (clause_for (offered sites y) m)
last_called sites p t o m (x ∷ xs) (y ∷ rest) = last_met p t o y.task m (clause_for (offered sites y) m)

last_took : (p t : ℕ) (k : Cost) (o site mask : ℕ) (b : Bool) (m u : ℕ) → EndsLast (took p t k o site mask b m u)
last_took p t k o site mask b zero u = (refl, refl)
last_took p t k o site mask b (suc m) u = (refl, refl)

last_accepted : (p t : ℕ) (k : Cost) (o site mask : ℕ) (b : Bool) (x : Option Met) → EndsLast (accepted p t k o site mask b x)
last_accepted p t k o site mask b (Some x) = last_took p t k o site mask b x.member x.task
last_accepted p t k o site mask true None = refl
last_accepted p t k o site mask false None = refl

last_signalled : (p t : ℕ) (k : Cost) (o c : ℕ) (ws : List (ℕ × ℤ)) → EndsLast (signalled p t k o c ws)
last_signalled p t k o c [] = refl
last_signalled p t k o c (w ∷ ws) = (refl, refl)

last_handed : (p t : ℕ) (k : Cost) (o c : ℕ) (ws : List (ℕ × ℤ)) → EndsLast (handed p t k o c ws)
last_handed p t k o c [] = refl
last_handed p t k o c (w ∷ ws) = (refl, refl)

last_front : (p t : ℕ) (k : Cost) (line o c : ℕ) (ws : List (ℕ × ℤ)) → EndsLast (front p t k line o c ws)
last_front p t k line o c [] = refl
last_front p t k line o c (w ∷ ws) = refl

last_poll : (p t : ℕ) (k : Cost) (mask : ℕ) (r : Option (ℕ × ℤ × ℤ)) → EndsLast (poll_entry p t k mask r ∷ [])
last_poll p t k mask None = refl
last_poll p t k mask (Some r) = refl

last_prints : (p t : ℕ) (k : Cost) (is : List Piece) → EndsLast (prints p t k is)
last_prints p t k [] = tt
last_prints p t k (i ∷ is) = after_calm (asking kind.Print p t k 0 (pos i.form) i.value) (prints p t no_cost is) refl (last_prints p t no_cost is)

module _ (opts : Options) (sites : List Site) (input : List ℕ) (j : Journal) (p t : ℕ) (k : Cost) (line : ℕ) where
  last_left : (o : ℕ) (e : Entry) → is_ending e.kind ≡ false → EndsLast (e ∷ admission sites p o (j ++ e ∷ []) (next o j))
  last_left o e h = after_calm e (admission sites p o (j ++ e ∷ []) (next o j)) h (last_admission sites p o (j ++ e ∷ []) (next o j))

  last_row : (r : Request) → EndsLast (row opts sites input j p t k line r)
  last_row (ask.Make class) = last_or (nat_lt (object_count j) OBJECTS) _ _ refl refl
  last_row (ask.Made o) = last_left o (asking kind.Made p t k o (pos 0) (pos 0)) refl
  last_row (ask.Spawn o) = last_or (nat_lt (task_count j) TASKS) _ _ refl refl
  last_row (ask.Call o m) =
      after_calm (asking kind.Call p t k o (pos m) (pos 0)) (called sites p t o m (inside o j) (open_at o j)) refl (last_called sites p t o m (inside o j) (open_at o j))
  last_row (ask.Leave o failed) = last_left o (asking kind.Leave p t k o (truth failed) (pos 0)) refl
  last_row (ask.Accept o site mask) =
      last_accepted p t k o site mask (site_at sites site).has_else (next_met sites site mask o j)
  last_row (ask.Wait o c n) = last_left o (asking kind.Wait p t k o (pos c) n) refl
  last_row (ask.Signal o c) = last_signalled p t k o c (blocked o c j)
  last_row (ask.SignalBlock o c) = last_handed p t k o c (blocked o c j)
  last_row (ask.Empty o c) = refl
  last_row (ask.Front o c) = last_front p t k line o c (blocked o c j)
  last_row (ask.Raise o event x y) =
      last_or (nat_lt (length (pending (first_or_0 (owner o j)) j)) PENDING_EVENTS) _ _ refl refl
  last_row (ask.Poll mask) = last_poll p t k mask (oldest_in mask (pending t j))
  last_row ask.Yield = refl
  last_row ask.Slice = refl
  last_row (ask.Print n items) = last_prints p t k (take n items)
  last_row (ask.Read form) = refl
  last_row ask.Fail = refl
  last_row ask.Cluster = last_or (nat_lt (cluster_count j) CLUSTERS) _ _ refl refl
  last_row (ask.ClusterEnd c) = last_or (not (is_in_use opts c j)) _ _ refl refl
  last_row (ask.Processor c) = last_or (nat_lt (processor_count opts j) PROCESSORS) _ _ refl refl
  last_row (ask.ProcessorEnd q) = refl
  last_row (ask.Migrate c) = refl
  last_row ask.End =
      last_left (own_object t j) (asking kind.End p t k (own_object t j) (pos 0) (pos 0)) refl
  last_row (ask.Gone o) = refl
  last_row (ask.Fault n) = refl

last_settled : (f : Entry) (j : Journal) (a : List Entry) → is_ending f.kind ≡ is_fault f.kind → EndsLast a → EndsLast (settled f j a)
last_settled f j [] g h = tt
last_settled f j (e ∷ []) g h = by (destroys_busy j e.kind e)
  where
    by : (b : Bool) → EndsLast (cond b (record f { ticks = e.ticks; line = e.line } ∷ []) (e ∷ []))
    by true = g
    by false = h
last_settled f j (e ∷ x ∷ a) g h = by (destroys_busy j e.kind e) (last_settled f (j ++ e ∷ []) (x ∷ a) g h.1)
  where
    by : (b : Bool) → EndsLast (settled f (j ++ e ∷ []) (x ∷ a)) → EndsLast (cond b (record f { ticks = e.ticks; line = e.line } ∷ []) (e ∷ settled f (j ++ e ∷ []) (x ∷ a)))
    by true ih = g
    by false ih = after_calm e (settled f (j ++ e ∷ []) (x ∷ a)) h.0 ih

-- ---- what ends a run
record IsEnding (j : List Entry) : Type 0 where
  pub entry : Entry
  pub is : EndsRun j entry

over_one : (e : Entry) → is_over (e ∷ []) ≡ is_ending e.kind
unfolding is_over
over_one e = or_last (is_ending e.kind)
  where
    or_last : (b : Bool) → (b || false) ≡ b
    or_last true = refl
    or_last false = refl

over_cons : (e : Entry) (a : List Entry) → is_over (e ∷ a) ≡ (is_ending e.kind || is_over a)
unfolding is_over
over_cons e a = refl

over_none : is_over [] ≡ false
unfolding is_over
over_none = refl

ends_one : (e : Entry) → is_ending e.kind ≡ true → IsEnding (e ∷ [])
ends_one e h = record { entry = e; is = record { before = []; last = refl; ends = h; going = over_none } }

ends_behind : (j a : List Entry) → is_over j ≡ false → IsEnding a → IsEnding (j ++ a)
ends_behind j a h x = record {
  entry = x.entry;
  is = record {
    before = j ++ x.is.before;
    last = ap (λ l. j ++ l) x.is.last ∙ sym (append_assoc j x.is.before (x.entry ∷ []));
    ends = x.is.ends;
    going = over_push j x.is.before ∙ ap (λ b. b || is_over x.is.before) h ∙ x.is.going;
  };
}

ends_last : (a : List Entry) → EndsLast a → is_over a ≡ true → IsEnding a
ends_last [] h o = absurd (no_both (is_over []) o over_none)
ends_last (e ∷ []) h o = ends_one e (sym (over_one e) ∙ o)
ends_last (e ∷ f ∷ a) h o =
    ends_behind (e ∷ []) (f ∷ a) (over_one e ∙ h.0) (ends_last (f ∷ a) h.1 (sym (over_cons e (f ∷ a) ∙ ap (λ b. b || is_over (f ∷ a)) h.0) ∙ o))

-- the entries of a request end the run exactly where one is a fault
faulty_last : (a : List Entry) → EndsLast a → is_over a ≡ is_faulty a
faulty_last [] h = over_none
faulty_last (e ∷ []) h = over_cons e [] ∙ ap (λ b. b || is_over []) h ∙ ap (λ b. is_fault e.kind || b) over_none
faulty_last (e ∷ f ∷ a) h =
    over_cons e (f ∷ a) ∙ ap (λ b. b || is_over (f ∷ a)) (calm_kind e.kind h.0) ∙ ap (λ b. is_fault e.kind || b) (faulty_last (f ∷ a) h.1)

module _ (opts : Options) (j : Journal) (p t : ℕ) (a : List Entry) (h : EndsLast a) where
  ends_closing : (v : Option EntryKind) → is_over a ≡ false → is_over (a ++ closing p t v) ≡ true → IsEnding (a ++ closing p t v)
  ends_closing None n o = absurd (no_both (is_over a) (ap is_over (sym (append-nil a)) ∙ o) n)
  ends_closing (Some k) n o =
      let e = entry k p t 0 0 (pos 0) (pos 0) in
      ends_behind a (e ∷ []) n (ends_one e (sym (over_push a (e ∷ []) ∙ ap (λ b. b || is_over (e ∷ [])) n ∙ over_one e) ∙ o))

  ends_whole : is_over (a ++ ending opts j p t a) ≡ true → IsEnding (a ++ ending opts j p t a)
  ends_whole o = by (is_faulty a) refl o
    where
      by : (b : Bool) → is_faulty a ≡ b → is_over (a ++ cond b [] (closing p t (verdict opts (j ++ a)))) ≡ true → IsEnding (a ++ cond b [] (closing p t (verdict opts (j ++ a))))
      by true f o = subst IsEnding (sym (append-nil a)) (ends_last a h (faulty_last a h ∙ f))
      by false f o = ends_closing (verdict opts (j ++ a)) (faulty_last a h ∙ f) o

  ends_fitted : is_over (fitted opts j p t (a ++ ending opts j p t a)) ≡ true → IsEnding (fitted opts j p t (a ++ ending opts j p t a))
  ends_fitted o = by (nat_le (length j + length (a ++ ending opts j p t a) + 1) opts.entries) o
    where
      by : (b : Bool) → is_over (cond b (a ++ ending opts j p t a) (entry kind.Limit p t 0 0 (pos 0) (pos 0) ∷ [])) ≡ true → IsEnding (cond b (a ++ ending opts j p t a) (entry kind.Limit p t 0 0 (pos 0) (pos 0) ∷ []))
      by true o = ends_whole o
      by false o = ends_one (entry kind.Limit p t 0 0 (pos 0) (pos 0)) refl

ends_may : (opts : Options) (sites : List Site) (input : List ℕ) (j : Journal) (a : List Entry) → KernelMay opts sites input j a → is_over a ≡ true → IsEnding a
ends_may opts sites input j _ (gives p t v le) o = ends_one (dispatch p t) (sym (over_one (dispatch p t)) ∙ o)
ends_may opts sites input j _ (no_room p t v le) o = ends_one lone_limit refl
ends_may opts sites input j _ (acts p t k asked m) o =
    ends_fitted opts j p t (entries_of opts sites input j p t k asked) (last_settled (fault p t no_cost 10 asked.line) j (row opts sites input j p t (cost k asked.line) asked.line asked.request) refl (last_row opts sites input j p t (cost k asked.line) asked.line asked.request)) o

ends_run : (opts : Options) (sites : List Site) (input : List ℕ) {j : Journal} → KernelRuns opts sites input j → is_over j ≡ true → IsEnding j
ends_run opts sites input begun o = ends_one (begin opts) (sym (over_one (begin opts)) ∙ o)
ends_run opts sites input (more {j} {a} r n m) o =
    ends_behind j a n (ends_may opts sites input j a m (sym (over_push j a ∙ ap (λ b. b || is_over a) n) ∙ o))

-- ---- the entry that stands last
last_at : (before : List Entry) (e x : Entry) (j : List Entry) (n : ℕ) → j ≡ before ++ e ∷ [] → length j ≡ n + 1 → slice_get j n ≡ Some x → e ≡ x
last_at before e x j n h l g = by before n (sym (ap length h) ∙ l) (ap (λ i. slice_get i n) (sym h) ∙ g)
  where
    by : (i : List Entry) (m : ℕ) → length (i ++ e ∷ []) ≡ m + 1 → slice_get (i ++ e ∷ []) m ≡ Some x → e ≡ x
    by [] zero l g = some-same g
    by [] (suc m) l g = absurd (omega (arith, l))
    by (y ∷ []) zero l g = absurd (omega (arith, l))
    by (y ∷ z ∷ i) zero l g = absurd (omega (arith, l))
    by (y ∷ i) (suc m) l g = by i m (omega (arith, l)) g

pub ends_at : (opts : Options) (sites : List Site) (input : List ℕ) (j : Journal) (n : ℕ) (e : Entry) → KernelRuns opts sites input j → is_over j ≡ true → length j ≡ n + 1 → slice_get j n ≡ Some e → EndsRun j e
ends_at opts sites input j n e r o l g =
    let x = ends_run opts sites input r o in
    subst (EndsRun j) (last_at x.is.before x.entry e j n x.is.last l g) x.is

pub none_over : {A : Type 0} (j : List Entry) → length j ≡ 0 → is_over j ≡ true → A
none_over [] h over = absurd (no_both (is_over []) over over_none)
none_over (x ∷ j) h over = absurd (omega (arith, h))
