-- A journal has one cut into acts.
use Rattle.std.proofs.Common.{◌≡◌, ℕ, zero, suc, ◌+◌, ◌<◌, ◌≤◌, ◌||◌, Bool, true, false, cond, List, [], ◌∷◌, ◌++◌, Option, Some, None, refl, sym, ap, ◌∙◌, subst, arith, length, take, append_assoc, append-nil, length-append}
use Rattle.std.specs.Prelude.{ℤ, pos, nat_le, nat_lt, not}
use Rattle.uc_tree.specs.Programs.{Site}
use Rattle.uc_tree.specs.declared.limits.TheConstants.{TASKS, OBJECTS, PENDING_EVENTS, CLUSTERS, PROCESSORS}
use Rattle.uc_tree.specs.SiteOffers.{Met}
use Rattle.uc_entry.specs.declared.request.TheConstants.{PRINT_ITEMS}
use Rattle.uc_entry.specs.declared.entry.Entry.{Entry}
use Rattle.uc_entry.specs.declared.entry.EntryKind.{EntryKind}
use Rattle.uc_entry.specs.declared.entry.EntryKind.TheVariants as kind
use Rattle.uc_entry.specs.declared.entry.Options.{Options}
use Rattle.uc_entry.specs.declared.request.Asked.{Asked}
use Rattle.uc_entry.specs.declared.request.Piece.{Piece}
use Rattle.uc_entry.specs.declared.request.Request.{Request}
use Rattle.uc_entry.specs.declared.request.Request.TheVariants as ask
use Rattle.uc_acts.specs.Journal.{Journal, Cost, cost, no_cost, entry, begin, is_over, is_ending, first_or_0, number}
use Rattle.uc_acts.specs.Queues.{running, cluster_count, processor_count, is_in_use}
use Rattle.uc_acts.specs.Known.{object_count, task_count, owner}
use Rattle.uc_acts.specs.Pending.{pending, oldest_in}
use Rattle.uc_acts.specs.Doors.{site_at, next_met, blocked, destroys_busy}
use Rattle.uc_acts.specs.Acts.{act, row, settled, fault, entries_of, ending, dispatch, lone_limit, took, accepted, signalled, handed, front, poll_entry, prints, or_fault}
use Rattle.uc_acts.specs.Serves.{left}
use Rattle.uc_acts.proofs.Bounds.{over_limit, over_push}
use Rattle.uc_judge.specs.Asking.{IsWhole, AsksOnce, AsksWhole}
use Rattle.uc_judge.specs.Changes.{told_of}
use Rattle.uc_judge.specs.Runs.{lined, written, Cause, May, gives, no_room, acts, Runs, begun, more}
use Rattle.uc_judge.specs.Laws.{Leads, there, onward, LawCut}

pub no_both : (b : Bool) → b ≡ true → b ≡ false → ⊥
no_both b t f = cc

-- the first entry of an act

abbrev pub first_of : List Entry → Entry
first_of [] = lone_limit
first_of (e ∷ es) = e

abbrev pub is_limit : EntryKind → Bool
is_limit kind.Limit = true
is_limit k = false

abbrev pub is_giving : EntryKind → Bool
is_giving kind.Dispatch = true
is_giving k = false

-- the first of these entries is one of processor p, and gives nobody a processor
abbrev Headed : ℕ → List Entry → Type 0
Headed p [] = ⊥
Headed p (e ∷ a) = (e.proc ≡ p) × (is_giving e.kind ≡ false) × (is_limit e.kind ≡ false)

headed_append : (p : ℕ) (a b : List Entry) → Headed p a → Headed p (a ++ b)
headed_append p [] b h = absurd h
headed_append p (e ∷ a) b h = h

module _ (opts : Options) (sites : List Site) (input : List ℕ) (j : Journal) (p t : ℕ) (k : Cost) (line : ℕ) where
  headed_or : (b : Bool) (e f : Entry) → Headed p (e ∷ []) → Headed p (f ∷ []) → Headed p (or_fault b e f)
  headed_or true e f h g = h
  headed_or false e f h g = g

  headed_took : (o site mask : ℕ) (b : Bool) (m u : ℕ) → Headed p (took p t k o site mask b m u)
  headed_took o site mask b zero u = (refl, refl, refl)
  headed_took o site mask b (suc m) u = (refl, refl, refl)

  headed_accepted : (o site mask : ℕ) (b : Bool) (x : Option Met) → Headed p (accepted p t k o site mask b x)
  headed_accepted o site mask b (Some x) = headed_took o site mask b x.member x.task
  headed_accepted o site mask true None = (refl, refl, refl)
  headed_accepted o site mask false None = (refl, refl, refl)

  headed_signalled : (o c : ℕ) (ws : List (ℕ × ℤ)) → Headed p (signalled p t k o c ws)
  headed_signalled o c [] = (refl, refl, refl)
  headed_signalled o c (w ∷ ws) = (refl, refl, refl)

  headed_handed : (o c : ℕ) (ws : List (ℕ × ℤ)) → Headed p (handed p t k o c ws)
  headed_handed o c [] = (refl, refl, refl)
  headed_handed o c (w ∷ ws) = (refl, refl, refl)

  headed_front : (o c : ℕ) (ws : List (ℕ × ℤ)) → Headed p (front p t k line o c ws)
  headed_front o c [] = (refl, refl, refl)
  headed_front o c (w ∷ ws) = (refl, refl, refl)

  headed_poll : (mask : ℕ) (r : Option (ℕ × ℤ × ℤ)) → Headed p (poll_entry p t k mask r ∷ [])
  headed_poll mask None = (refl, refl, refl)
  headed_poll mask (Some r) = (refl, refl, refl)

  headed_prints : (n : ℕ) (is : List Piece) → 1 ≤ n → length is ≡ PRINT_ITEMS → Headed p (prints p t k (take n is))
  headed_prints zero is le h = absurd (omega arith)
  headed_prints (suc n) [] le h = cc
  headed_prints (suc n) (i ∷ is) le h = (refl, refl, refl)

  headed_row : (r : Request) → IsWhole r → Headed p (row opts sites input j p t k line r)
  headed_row (ask.Make class) f = headed_or (nat_lt (object_count j) OBJECTS) _ _ (refl, refl, refl) (refl, refl, refl)
  headed_row (ask.Spawn o) f = headed_or (nat_lt (task_count j) TASKS) _ _ (refl, refl, refl) (refl, refl, refl)
  headed_row (ask.Accept o site mask) f = headed_accepted o site mask (site_at sites site).has_else (next_met sites site mask o j)
  headed_row (ask.Signal o c) f = headed_signalled o c (blocked o c j)
  headed_row (ask.SignalBlock o c) f = headed_handed o c (blocked o c j)
  headed_row (ask.Front o c) f = headed_front o c (blocked o c j)
  headed_row (ask.Raise o event x y) f = headed_or (nat_lt (length (pending (first_or_0 (owner o j)) j)) PENDING_EVENTS) _ _ (refl, refl, refl) (refl, refl, refl)
  headed_row (ask.Poll mask) f = headed_poll mask (oldest_in mask (pending t j))
  headed_row (ask.Print n items) f = headed_prints n items f.0 f.2
  headed_row ask.Cluster f = headed_or (nat_lt (cluster_count j) CLUSTERS) _ _ (refl, refl, refl) (refl, refl, refl)
  headed_row (ask.ClusterEnd c) f = headed_or (not (is_in_use opts c j)) _ _ (refl, refl, refl) (refl, refl, refl)
  headed_row (ask.Processor c) f = headed_or (nat_lt (processor_count opts j) PROCESSORS) _ _ (refl, refl, refl) (refl, refl, refl)
  headed_row r f = (refl, refl, refl)

headed_settled : (p t n line : ℕ) (j : Journal) (a : List Entry) → Headed p a → Headed p (settled (fault p t no_cost n line) j a)
headed_settled p t n line j [] h = absurd h
headed_settled p t n line j (e ∷ a) h = by (destroys_busy j e.kind e)
  where
    by : (b : Bool) → Headed p (cond b (record (fault p t no_cost n line) { ticks = e.ticks; line = e.line } ∷ []) (e ∷ settled (fault p t no_cost n line) (j ++ e ∷ []) a))
    by true = (refl, refl, refl)
    by false = h

-- an act is the limit alone, or it begins with an entry of its own
pub data Begins (p t : ℕ) (a : List Entry) : Type 0 where
  limited : a ≡ entry kind.Limit p t 0 0 (pos 0) (pos 0) ∷ [] → Begins p t a
  begins : Headed p a → Begins p t a

pub act_begins : (opts : Options) (sites : List Site) (input : List ℕ) (j : Journal) (p t n : ℕ) (asked : Asked) → IsWhole asked.request → Begins p t (act opts sites input j p t n asked)
act_begins opts sites input j p t n asked f =
    let a = entries_of opts sites input j p t n asked in
    let h = headed_append p a (ending opts j p t a) (headed_settled p t 10 asked.line j (row opts sites input j p t (cost n asked.line) asked.line asked.request) (headed_row opts sites input j p t (cost n asked.line) asked.line asked.request f)) in
    by (a ++ ending opts j p t a) (nat_le (length j + length (a ++ ending opts j p t a) + 1) opts.entries) h
  where
    by : (a : List Entry) (c : Bool) → Headed p a → Begins p t (cond c a (entry kind.Limit p t 0 0 (pos 0) (pos 0) ∷ []))
    by a true h = begins h
    by a false h = limited refl

-- as they are written

pub written_append : (lines : Bool) (a b : List Entry) → written lines (a ++ b) ≡ written lines a ++ written lines b
written_append lines [] b = refl
written_append lines (e ∷ a) b = ap (λ l. lined lines e ∷ l) (written_append lines a b)

pub written_length : (lines : Bool) (a : List Entry) → length (written lines a) ≡ length a
written_length lines [] = refl
written_length lines (e ∷ a) = ap suc (written_length lines a)

pub written_over : (lines : Bool) (a : List Entry) → is_over (written lines a) ≡ is_over a
unfolding is_over
written_over lines [] = refl
written_over lines (e ∷ a) = ap (λ b. is_ending e.kind || b) (written_over lines a)

module _ (lines : Bool) (p t : ℕ) where
  pub proc_of : (a x : List Entry) → Begins p t a → (first_of (written lines a ++ x)).proc ≡ p
  proc_of a x (limited h) = ap (λ l. (first_of (written lines l ++ x)).proc) h
  proc_of [] x (begins h) = absurd h
  proc_of (e ∷ a) x (begins h) = h.0

  pub gives_not : (a x : List Entry) → Begins p t a → is_giving (first_of (written lines a ++ x)).kind ≡ false
  gives_not a x (limited h) = ap (λ l. is_giving (first_of (written lines l ++ x)).kind) h
  gives_not [] x (begins h) = absurd h
  gives_not (e ∷ a) x (begins h) = h.1

  -- an act that begins with the lone limit is it
  limit_alone : (a x y : List Entry) → Begins p t a → written lines (lone_limit ∷ []) ++ x ≡ written lines a ++ y → lone_limit ∷ [] ≡ a
  limit_alone a x y (limited h) e =
      let same = e ∙ ap (λ l. written lines l ++ y) h in
      let q : 0 ≡ p = ap (λ l. (first_of l).proc) same in
      let u : 0 ≡ t = ap (λ l. (first_of l).task) same in
      ap (λ v. entry kind.Limit v 0 0 0 (pos 0) (pos 0) ∷ []) q ∙ ap (λ v. entry kind.Limit p v 0 0 (pos 0) (pos 0) ∷ []) u ∙ sym h
  limit_alone [] x y (begins h) e = absurd h
  limit_alone (z ∷ a) x y (begins h) e =
      absurd (no_both (is_limit z.kind) (ap (λ l. is_limit (first_of l).kind) (sym e)) h.2)

pub some_entry : (p t : ℕ) (a : List Entry) → Begins p t a → 0 < length a
some_entry p t a (limited h) = let l : length a ≡ 1 = ap length h in omega (arith, l)
some_entry p t [] (begins h) = absurd h
some_entry p t (e ∷ a) (begins h) = omega arith

pub cancel : (j x y : List Entry) → j ++ x ≡ j ++ y → x ≡ y
cancel [] x y e = e
cancel (i ∷ j) x y e = cancel j x y (cc e)

-- two acts that begin alike are one, and while the run goes on they leave the same tasks
pub record Same {W : Type 0} (j a b : List Entry) (v x : W) : Type 0 where
  pub entries : a ≡ b
  pub tasks : is_over (j ++ a) ≡ false → v ≡ x

abbrev pub act_of : {W : Type 0} → Cause W → Options → Journal → ℕ → ℕ → ℕ → Asked → List Entry
act_of cause opts j p t k asked = act opts cause.sites cause.input j p t k asked

pub starts : {W : Type 0} (cause : Cause W) → AsksWhole cause.asks → (opts : Options) (j : Journal) (w : W) (p t k : ℕ) (asked : Asked) (x : W) → cause.asks w t (left opts j t) k asked x → Begins p t (act_of cause opts j p t k asked)
starts cause whole opts j w p t k asked x d =
    act_begins opts cause.sites cause.input j p t k asked (whole w t (left opts j t) k asked x d)

module _ {W : Type 0} {cause : Cause W} (once : AsksOnce cause.asks) (whole : AsksWhole cause.asks) {opts : Options} {j : Journal} {w : W} where
  pub step_some : {a : List Entry} {v : W} → May cause opts j w a v → 0 < length a
  step_some (gives p t s m) = omega arith
  step_some (no_room p t s m) = omega arith
  step_some (acts p t k asked x r d) = some_entry p t (act_of cause opts j p t k asked) (starts cause whole opts j w p t k asked x d)

  pub same_step : {a b : List Entry} {v x : W} → May cause opts j w a v → May cause opts j w b x → (y z : List Entry) → written cause.lines a ++ y ≡ written cause.lines b ++ z → Same j a b v x
  same_step (gives p t s m) (gives p' t' s' m') y z e =
      let q : p ≡ p' = ap (λ l. (first_of l).proc) e in
      let u : t ≡ t' = ap (λ l. (first_of l).task) e in
      record { entries = ap (λ v. dispatch v t ∷ []) q ∙ ap (λ v. dispatch p' v ∷ []) u; tasks = λ o. refl }
  same_step (gives p t s m) (no_room p' t' s' m') y z e =
      absurd (no_both (is_giving (first_of (written cause.lines (dispatch p t ∷ []) ++ y)).kind) refl (ap (λ l. is_giving (first_of l).kind) e))
  same_step (no_room p t s m) (gives p' t' s' m') y z e =
      absurd (no_both (is_giving (first_of (written cause.lines (dispatch p' t' ∷ []) ++ z)).kind) refl (ap (λ l. is_giving (first_of l).kind) (sym e)))
  same_step (gives p t s m) (acts p' t' k' asked' x' r' d') y z e =
      absurd (no_both (is_giving (first_of (written cause.lines (act_of cause opts j p' t' k' asked') ++ z)).kind) (ap (λ l. is_giving (first_of l).kind) (sym e)) (gives_not cause.lines p' t' (act_of cause opts j p' t' k' asked') z (starts cause whole opts j w p' t' k' asked' x' d')))
  same_step (acts p t k asked x r d) (gives p' t' s' m') y z e =
      absurd (no_both (is_giving (first_of (written cause.lines (act_of cause opts j p t k asked) ++ y)).kind) (ap (λ l. is_giving (first_of l).kind) e) (gives_not cause.lines p t (act_of cause opts j p t k asked) y (starts cause whole opts j w p t k asked x d)))
  same_step (no_room p t s m) (no_room p' t' s' m') y z e = record { entries = refl; tasks = λ o. refl }
  same_step (no_room p t s m) (acts p' t' k' asked' x' r' d') y z e = record {
    entries = limit_alone cause.lines p' t' (act_of cause opts j p' t' k' asked') y z (starts cause whole opts j w p' t' k' asked' x' d') e;
    tasks = λ o. absurd (no_both (is_over (j ++ lone_limit ∷ [])) (over_limit j 0 0) o);
  }
  same_step (acts p t k asked x r d) (no_room p' t' s' m') y z e =
      let a = act_of cause opts j p t k asked in
      let same : lone_limit ∷ [] ≡ a = limit_alone cause.lines p t a z y (starts cause whole opts j w p t k asked x d) (sym e) in
      record {
        entries = sym same;
        tasks = λ o. absurd (no_both (is_over (j ++ a)) (ap (λ l. is_over (j ++ l)) (sym same) ∙ over_limit j 0 0) o);
      }
  same_step (acts p t k asked x r d) (acts p' t' k' asked' x' r' d') y z e =
      let q : p ≡ p' = sym (proc_of cause.lines p t (act_of cause opts j p t k asked) y (starts cause whole opts j w p t k asked x d)) ∙ ap (λ l. (first_of l).proc) e ∙ proc_of cause.lines p' t' (act_of cause opts j p' t' k' asked') z (starts cause whole opts j w p' t' k' asked' x' d') in
      let u : t ≡ t' = ap first_or_0 (sym r ∙ ap (λ z. running z j) q ∙ r') in
      let walk = once w t (left opts j t) k k' asked asked' x x' d (subst (λ z. cause.asks w z (left opts j z) k' asked' x') (sym u) d') in
      let same : act_of cause opts j p t k asked ≡ act_of cause opts j p' t' k' asked' = ap (λ z. act_of cause opts j z t k asked) q ∙ ap (λ z. act_of cause opts j p' z k asked) u ∙ ap (λ z. act_of cause opts j p' t' z asked) walk.ticks ∙ ap (λ z. act_of cause opts j p' t' k' z) walk.asked in
      record {
        entries = same;
        tasks = λ o. ap (λ z. told_of cause.told cause.sites z (act_of cause opts j p t k asked)) walk.tasks ∙ ap (λ l. told_of cause.told cause.sites x' l) same;
      }

-- how a path begins
pub data View {W : Type 0} (cause : Cause W) (opts : Options) (j : Journal) (w : W) (k : Journal) (u : W) : Type 0 where
  is_there : k ≡ j → u ≡ w → View cause opts j w k u
  is_onward : (a : List Entry) (x : W) → is_over j ≡ false → May cause opts j w a x → Leads cause opts (j ++ a) x k u → View cause opts j w k u

abbrev pub first_tasks : {W : Type 0} → Cause W → Options → W
first_tasks cause opts = told_of cause.told cause.sites cause.first (begin opts ∷ [])

module _ {W : Type 0} {cause : Cause W} {opts : Options} where
  pub view : {j : Journal} {w : W} {k : Journal} {u : W} → Leads cause opts j w k u → View cause opts j w k u
  view there = is_there refl refl
  view (onward o s c) = is_onward _ _ o s c

  pub rest_of : {j : Journal} {w : W} {k : Journal} {u : W} → Leads cause opts j w k u → (x : List Entry) × (k ≡ j ++ x)
  rest_of {j} there = ([], sym (append-nil j))
  rest_of {j} (onward {a} o s c) = let r = rest_of c in (a ++ r.0, r.1 ∙ append_assoc j a r.0)

  -- one act more at the end
  pub and_then : {j : Journal} {w : W} {k : Journal} {u : W} {a : List Entry} {x : W} → Leads cause opts j w k u → is_over k ≡ false → May cause opts k u a x → Leads cause opts j w (k ++ a) x
  and_then there o m = onward o m there
  and_then (onward p s c) o m = onward p s (and_then c o m)

  pub path_of : {j : Journal} {w : W} → Runs cause opts j w → Leads cause opts (begin opts ∷ []) (first_tasks cause opts) j w
  path_of begun = there
  path_of (more r o m) = and_then (path_of r) o m

  pub runs_on : {j : Journal} {w : W} {k : Journal} {u : W} → Runs cause opts j w → Leads cause opts j w k u → Runs cause opts k u
  runs_on r there = r
  runs_on r (onward o m c) = runs_on (more r o m) c

over_part : (a b : Bool) → (a || b) ≡ false → a ≡ false
over_part false b h = refl
over_part true b h = cc

module _ {W : Type 0} {cause : Cause W} (once : AsksOnce cause.asks) (whole : AsksWhole cause.asks) {opts : Options} where
  -- a path that goes on where another one stands passes there
  pub passes : {i : Journal} {v : W} {j : Journal} {w : W} {k : Journal} {u : W} → Leads cause opts i v j w → is_over j ≡ false → View cause opts i v k u → (x : List Entry) → written cause.lines k ≡ written cause.lines j ++ x → Leads cause opts j w k u
  passes {i} {v} {u = u} there o (is_there a b) x h =
      subst (λ l. Leads cause opts i v l u) (sym a) (subst (λ y. Leads cause opts i v i y) (sym b) there)
  passes there o (is_onward a y p s c) x h = onward p s c
  passes {i} {j = j} {k = k} (onward {a} p s c) o (is_there e f) x h =
      let r = rest_of c in
      let lt = step_some once whole s in
      let l = ap length h ∙ length-append (written cause.lines j) x in
      let lj = written_length cause.lines j in
      let lk = written_length cause.lines k in
      let same = ap length e in
      let long = ap length r.1 ∙ length-append (i ++ a) r.0 in
      let m = length-append i a in
      absurd (omega (arith, lt, l, lj, lk, same, long, m))
  passes {i} {j = j} {w} {k} {u} (onward {a} {x = v'} p s c) o (is_onward b y p' s' c') x h =
      let r = rest_of c in
      let r' = rest_of c' in
      let e : written cause.lines a ++ (written cause.lines r.0 ++ x) ≡ written cause.lines b ++ written cause.lines r'.0 = cancel (written cause.lines i) _ _ (sym (from i a r.0 x) ∙ ap (λ l. written cause.lines l ++ x) (sym r.1) ∙ sym h ∙ ap (written cause.lines) r'.1 ∙ to i b r'.0) in
      let same = same_step once whole s s' (written cause.lines r.0 ++ x) (written cause.lines r'.0) e in
      let going : is_over (i ++ a) ≡ false = over_part (is_over (i ++ a)) (is_over r.0) (sym (over_push (i ++ a) r.0) ∙ ap is_over (sym r.1) ∙ o) in
      let moved : Leads cause opts (i ++ a) v' k u = subst (λ z. Leads cause opts (i ++ a) z k u) (sym (same.tasks going)) (subst (λ l. Leads cause opts (i ++ l) y k u) (sym same.entries) c') in
      passes c o (view moved) x h
    where
      to : (i b r : List Entry) → written cause.lines ((i ++ b) ++ r) ≡ written cause.lines i ++ (written cause.lines b ++ written cause.lines r)
      to i b r =
          written_append cause.lines (i ++ b) r ∙ ap (λ l. l ++ written cause.lines r) (written_append cause.lines i b) ∙ append_assoc (written cause.lines i) (written cause.lines b) (written cause.lines r)

      from : (i a r x : List Entry) → written cause.lines ((i ++ a) ++ r) ++ x ≡ written cause.lines i ++ (written cause.lines a ++ (written cause.lines r ++ x))
      from i a r x =
          ap (λ l. l ++ x) (to i a r) ∙ append_assoc (written cause.lines i) (written cause.lines a ++ written cause.lines r) x ∙ ap (λ l. written cause.lines i ++ l) (append_assoc (written cause.lines a) (written cause.lines r) x)

-- the options stand in the first entry
same_options : (lines : Bool) (a b : Options) → lined lines (begin a) ≡ lined lines (begin b) → a ≡ b
same_options lines a b h =
    let p : a.processors ≡ b.processors = ap (λ e. number e.a) h in
    let s : a.slice ≡ b.slice = ap (λ e. number e.b) h in
    let t : a.ticks ≡ b.ticks = ap (λ e. number e.c) h in
    let n : a.entries ≡ b.entries = ap (λ e. number e.d) h in
    ap (λ v. record { processors = v; slice = a.slice; ticks = a.ticks; entries = a.entries }) p
    ∙ ap (λ v. record { processors = b.processors; slice = v; ticks = a.ticks; entries = a.entries }) s
    ∙ ap (λ v. record { processors = b.processors; slice = b.slice; ticks = v; entries = a.entries }) t
    ∙ ap (λ v. record { processors = b.processors; slice = b.slice; ticks = b.ticks; entries = v }) n

pub law_cut : {W : Type 0} (cause : Cause W) → AsksOnce cause.asks → AsksWhole cause.asks → LawCut cause
law_cut {W} cause once whole opts other j w k u rest r o s h =
    let p = path_of r in
    let q = path_of s in
    let x = rest_of p in
    let y = rest_of q in
    let same : opts ≡ other = same_options cause.lines opts other (ap first_of (sym (ap (λ l. written cause.lines l ++ rest) x.1) ∙ sym h ∙ ap (written cause.lines) y.1)) in
    let moved : Runs cause opts k u = subst (λ z. Runs cause z k u) (sym same) s in
    (same, passes once whole p o (view (path_of moved)) rest h)
