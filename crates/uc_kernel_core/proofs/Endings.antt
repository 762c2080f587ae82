-- The ending of an act, and the limit in the place of an act.
use Rattle.std.proofs.Common.{◌≡◌, ℕ, ℤ, zero, suc, ◌+◌, ◌<◌, ◌≤◌, ◌&&◌, ◌||◌, Bool, true, false, not, cond, List, [], ◌∷◌, ◌++◌, Option, Some, None, take, drop, refl, sym, ap, ◌∙◌, subst, arith, length}
use Rattle.std.specs.Prelude.{pos, nat_lt, nat_le}
use Rattle.std.proofs.Math.Seq.{take-append_seam, drop-append_seam}
use Rattle.std.proofs.lemmas.Bool.{leb-true, le-leb}
use Rattle.std.proofs.lemmas.List.{length-append, take-append-le, drop-append-le, take-append-drop}
use Rattle.uc_tree.specs.Programs.{Site}
use Rattle.uc_tree.specs.declared.limits.TheConstants.{TASKS, OBJECTS, PENDING_EVENTS, CLUSTERS, PROCESSORS}
use Rattle.uc_entry.specs.declared.entry.Entry.{Entry}
use Rattle.uc_entry.specs.declared.entry.EntryKind.{EntryKind}
use Rattle.uc_entry.specs.declared.entry.EntryKind.TheVariants as kind
use Rattle.uc_entry.specs.declared.entry.Options.{Options}
use Rattle.uc_entry.specs.declared.request.Piece.{Piece}
use Rattle.uc_entry.specs.declared.request.Request.{Request}
use Rattle.uc_entry.specs.declared.request.Request.TheVariants as ask
use Rattle.uc_acts.specs.Journal.{Journal, entry, inside, own_object, first_or_0, is_over, is_ending, is_fault, Cost, cost, no_cost}
use Rattle.uc_acts.specs.Queues.{next, running, cluster_count, processor_count, is_in_use, first_ended, none_running, none_ready, none_served, all_ticks}
use Rattle.uc_acts.specs.Known.{object_count, task_count, owner}
use Rattle.uc_acts.specs.Pending.{pending, oldest_in}
use Rattle.uc_acts.specs.Doors.{site_at, open_at, offered, next_met, blocked, destroys_busy}
use Rattle.uc_tree.specs.SiteOffers.{clause_for, Met}
use Rattle.uc_acts.specs.Acts.{fault, admission, met_by, called, took, accepted, signalled, handed, front, poll_entry, prints, or_fault, row, settled, is_faulty, verdict, closing, ending, fitted}
use Rattle.uc_acts.specs.KernelRuns.{Fits, MayAsk}
use Rattle.uc_acts.proofs.Bounds.{over_push}
use Rattle.uc_cluster.specs.declared.clusters.Stalled.{Stalled}
use Rattle.uc_cluster.specs.declared.clusters.Stalled.TheVariants as stalled
use Rattle.uc_cluster.specs.Standing.{Standing, stalled_by}
use Rattle.uc_condition.specs.Waiting.{Waiting}
use Rattle.uc_events.specs.Pending.{Event}
use Rattle.uc_kernel_journal.specs.JournalSums.{Told}
use Rattle.uc_mutex.specs.Doors.{Doors}
use Rattle.uc_kernel_core.specs.Mirrors.{Seen, Appended, IsBook, MayAct, rows, seen}
use Rattle.uc_kernel_core.specs.CoreActs.{IsReady, Replaced, acts}
use Rattle.uc_kernel_core.proofs.Asks.{appended_none}
use Rattle.uc_kernel_core.proofs.Steps.{run_known}

-- ---- of the entries of a request a fault alone ends the run
abbrev IsPlain : Entry → Type 0
IsPlain e = is_ending e.kind ≡ is_fault e.kind

abbrev ArePlain : List Entry → Type 0
ArePlain [] = Unit {0}
ArePlain (e ∷ a) = IsPlain e × ArePlain a

plain_or : (b : Bool) (e f : Entry) → IsPlain e → IsPlain f → ArePlain (or_fault b e f)
plain_or true e f h k = (h, tt)
plain_or false e f h k = (k, tt)

plain_admission : (sites : List Site) (p o : ℕ) (j : Journal) (n : Option (ℕ × ℕ)) → ArePlain (admission sites p o j n)
plain_admission sites p o j None = tt
plain_admission sites p o _ (Some n) = (refl, tt)

plain_met : (p t o u m : ℕ) (c : Option ℕ) → ArePlain (met_by p t o u m c)
plain_met p t o u m None = tt
plain_met p t o u zero (Some clause) = (refl, (refl, tt))
plain_met p t o u (suc m) (Some clause) = (refl, tt)

plain_called : (sites : List Site) (p t o m : ℕ) (within : List ℕ) (opened : List Entry) → ArePlain (called sites p t o m within opened)
plain_called sites p t o m [] [] = (refl, tt)
plain_called sites p t o m (x ∷ xs) [] = tt
plain_called sites p t o m [] (y ∷ rest) = plain_met p t o y.task m (clause_for (offered sites y) m)
plain_called sites p t o m (x ∷ xs) (y ∷ rest) = plain_met p t o y.task m (clause_for (offered sites y) m)

plain_took : (p t : ℕ) (k : Cost) (o site mask : ℕ) (b : Bool) (m u : ℕ) → ArePlain (took p t k o site mask b m u)
plain_took p t k o site mask b zero u = (refl, (refl, tt))
plain_took p t k o site mask b (suc m) u = (refl, (refl, tt))

plain_accepted : (p t : ℕ) (k : Cost) (o site mask : ℕ) (b : Bool) (x : Option Met) → ArePlain (accepted p t k o site mask b x)
plain_accepted p t k o site mask b (Some x) = plain_took p t k o site mask b x.member x.task
plain_accepted p t k o site mask true None = (refl, tt)
plain_accepted p t k o site mask false None = (refl, tt)

plain_signalled : (p t : ℕ) (k : Cost) (o c : ℕ) (ws : List (ℕ × ℤ)) → ArePlain (signalled p t k o c ws)
plain_signalled p t k o c [] = (refl, tt)
plain_signalled p t k o c (w ∷ ws) = (refl, (refl, tt))

plain_handed : (p t : ℕ) (k : Cost) (o c : ℕ) (ws : List (ℕ × ℤ)) → ArePlain (handed p t k o c ws)
plain_handed p t k o c [] = (refl, tt)
plain_handed p t k o c (w ∷ ws) = (refl, (refl, tt))

plain_front : (p t : ℕ) (k : Cost) (line o c : ℕ) (ws : List (ℕ × ℤ)) → ArePlain (front p t k line o c ws)
plain_front p t k line o c [] = (refl, tt)
plain_front p t k line o c (w ∷ ws) = (refl, tt)

plain_poll : (p t : ℕ) (k : Cost) (mask : ℕ) (r : Option (ℕ × ℤ × ℤ)) → ArePlain (poll_entry p t k mask r ∷ [])
plain_poll p t k mask None = (refl, tt)
plain_poll p t k mask (Some r) = (refl, tt)

plain_prints : (p t : ℕ) (k : Cost) (is : List Piece) → ArePlain (prints p t k is)
plain_prints p t k [] = tt
plain_prints p t k (i ∷ is) = (refl, plain_prints p t no_cost is)

plain_settled : (f : Entry) (j : Journal) (a : List Entry) → IsPlain f → ArePlain a → ArePlain (settled f j a)
plain_settled f j [] g h = tt
plain_settled f j (e ∷ a) g h = by (destroys_busy j e.kind e) (plain_settled f (j ++ e ∷ []) a g h.1)
  where
    by : (b : Bool) → ArePlain (settled f (j ++ e ∷ []) a) → ArePlain (cond b (record f { ticks = e.ticks; line = e.line } ∷ []) (e ∷ settled f (j ++ e ∷ []) a))
    by true ih = (g, tt)
    by false ih = (h.0, ih)

module _ (opts : Options) (sites : List Site) (input : List ℕ) (j : Journal) (p t : ℕ) (k : Cost) (line : ℕ) where
  plain_row : (r : Request) → ArePlain (row opts sites input j p t k line r)
  plain_row (ask.Make class) = plain_or (nat_lt (object_count j) OBJECTS) _ _ refl refl
  plain_row (ask.Made o) = (refl, plain_admission sites p o _ (next o j))
  plain_row (ask.Spawn o) = plain_or (nat_lt (task_count j) TASKS) _ _ refl refl
  plain_row (ask.Call o m) = (refl, plain_called sites p t o m (inside o j) (open_at o j))
  plain_row (ask.Leave o failed) = (refl, plain_admission sites p o _ (next o j))
  plain_row (ask.Accept o site mask) = plain_accepted p t k o site mask (site_at sites site).has_else (next_met sites site mask o j)
  plain_row (ask.Wait o c n) = (refl, plain_admission sites p o _ (next o j))
  plain_row (ask.Signal o c) = plain_signalled p t k o c (blocked o c j)
  plain_row (ask.SignalBlock o c) = plain_handed p t k o c (blocked o c j)
  plain_row (ask.Empty o c) = (refl, tt)
  plain_row (ask.Front o c) = plain_front p t k line o c (blocked o c j)
  plain_row (ask.Raise o event x y) = plain_or (nat_lt (length (pending (first_or_0 (owner o j)) j)) PENDING_EVENTS) _ _ refl refl
  plain_row (ask.Poll mask) = plain_poll p t k mask (oldest_in mask (pending t j))
  plain_row ask.Yield = (refl, tt)
  plain_row ask.Slice = (refl, tt)
  plain_row (ask.Print n items) = plain_prints p t k (take n items)
  plain_row (ask.Read form) = (refl, tt)
  plain_row ask.Fail = (refl, tt)
  plain_row ask.Cluster = plain_or (nat_lt (cluster_count j) CLUSTERS) _ _ refl refl
  plain_row (ask.ClusterEnd c) = plain_or (not (is_in_use opts c j)) _ _ refl refl
  plain_row (ask.Processor c) = plain_or (nat_lt (processor_count opts j) PROCESSORS) _ _ refl refl
  plain_row (ask.ProcessorEnd q) = (refl, tt)
  plain_row (ask.Migrate c) = (refl, tt)
  plain_row ask.End = (refl, plain_admission sites p (own_object t j) _ (next (own_object t j) j))
  plain_row (ask.Gone o) = (refl, tt)
  plain_row (ask.Fault n) = (refl, tt)

over_plain : (a : List Entry) → ArePlain a → is_over a ≡ is_faulty a
unfolding is_over
over_plain [] h = refl
over_plain (e ∷ a) h = ap (λ b. b || is_over a) h.0 ∙ ap (λ b. is_fault e.kind || b) (over_plain a h.1)

-- the run is over once they stand, exactly where one is a fault
rows_over : (s : Seen) (p t k line : ℕ) (r : Request) → is_over s.journal ≡ false → is_over (s.journal ++ rows s p t k line r) ≡ is_faulty (rows s p t k line r)
rows_over s p t k line r going =
    over_push s.journal (rows s p t k line r) ∙ ap (λ b. b || is_over (rows s p t k line r)) going ∙ over_plain (rows s p t k line r) (plain_settled (fault p t no_cost 10 line) s.journal (row s.opts s.sites s.input s.journal p t (cost k line) line r) refl (plain_row s.opts s.sites s.input s.journal p t (cost k line) line r))

-- what stands behind the first n entries once the act ends
abbrev pub whole : Options → Journal → ℕ → ℕ → ℕ → List Entry
whole opts l n p t = fitted opts (take n l) p t (drop n l ++ cond (is_over l) [] (closing p t (verdict opts l)))

whole_act : (opts : Options) (j a : List Entry) (p t : ℕ) → is_over (j ++ a) ≡ is_faulty a → take (length j) (j ++ a) ++ whole opts (j ++ a) (length j) p t ≡ j ++ fitted opts j p t (a ++ ending opts j p t a)
whole_act opts j a p t over =
    ap (λ i. i ++ fitted opts i p t (drop (length j) (j ++ a) ++ cond (is_over (j ++ a)) [] (closing p t (verdict opts (j ++ a))))) (take-append_seam j a)
    ∙ ap (λ x. j ++ fitted opts j p t (x ++ cond (is_over (j ++ a)) [] (closing p t (verdict opts (j ++ a))))) (drop-append_seam j a)
    ∙ ap (λ b. j ++ fitted opts j p t (a ++ cond b [] (closing p t (verdict opts (j ++ a))))) over

-- an act is the entries of its request, and what ends it
pub acts_by : (s s1 s2 : Seen) (p t k line n : ℕ) (r : Request) → is_over s.journal ≡ false → n ≡ length s.journal → Appended s s1 (rows s p t k line r) → Replaced s1 s2 n (whole s1.opts s1.journal n p t) → Appended s s2 (acts s p t k line r)
acts_by s s1 s2 p t k line n r going size a b = record {
  journal = b.journal ∙ ap (λ m. take m s1.journal ++ whole s1.opts s1.journal m p t) size ∙ ap (λ o. take (length s.journal) s1.journal ++ whole o s1.journal (length s.journal) p t) a.opts ∙ ap (λ l. take (length s.journal) l ++ whole s.opts l (length s.journal) p t) a.journal ∙ whole_act s.opts s.journal (rows s p t k line r) p t (rows_over s p t k line r going);
  sites = b.sites ∙ a.sites;
  opts = b.opts ∙ a.opts;
  input = b.input ∙ a.input;
}

-- ---- the verdict
pub verdict_done : (opts : Options) (j : Journal) → first_ended j ≡ true → verdict opts j ≡ Some kind.Done
verdict_done opts j h = ap (λ b. cond b (Some kind.Done) (cond (none_running opts j && none_ready j) (Some kind.Deadlock) (cond (none_running opts j && none_served opts j) (Some kind.NoProcessor) (cond (nat_le opts.ticks (all_ticks j)) (Some kind.Limit) None)))) h

-- by why no task can go on
abbrev pub stall_verdict : Stalled → Option EntryKind → Option EntryKind
stall_verdict stalled.No x = x
stall_verdict stalled.Deadlock x = Some kind.Deadlock
stall_verdict stalled.NoProcessor x = Some kind.NoProcessor

by_stall : (a b c : Bool) (x : Option EntryKind) → cond (a && b) (Some kind.Deadlock) (cond (a && c) (Some kind.NoProcessor) x) ≡ stall_verdict (stalled_by a b c) x
by_stall false b c x = refl
by_stall true true c x = refl
by_stall true false true x = refl
by_stall true false false x = refl

pub verdict_stalled : (opts : Options) (j : Journal) (s : Stalled) → first_ended j ≡ false → s ≡ stalled_by (none_running opts j) (none_ready j) (none_served opts j) → verdict opts j ≡ stall_verdict s (cond (nat_le opts.ticks (all_ticks j)) (Some kind.Limit) None)
verdict_stalled opts j s h g =
    let x = cond (nat_le opts.ticks (all_ticks j)) (Some kind.Limit) None in
    ap (λ b. cond b (Some kind.Done) (cond (none_running opts j && none_ready j) (Some kind.Deadlock) (cond (none_running opts j && none_served opts j) (Some kind.NoProcessor) x))) h ∙ by_stall (none_running opts j) (none_ready j) (none_served opts j) x ∙ ap (λ v. stall_verdict v x) (sym g)

-- ---- the last two steps of an act
pub finish_by : (s s1 s2 : Seen) (n p t : ℕ) → n ≤ length s.journal → Appended s s1 (cond (is_over s.journal) [] (closing p t (verdict s.opts s.journal))) → Replaced s1 s2 n (fitted s1.opts (take n s1.journal) p t (drop n s1.journal)) → Replaced s s2 n (whole s.opts s.journal n p t)
finish_by s s1 s2 n p t le a b =
    let c = cond (is_over s.journal) [] (closing p t (verdict s.opts s.journal)) in
    let front : take n s1.journal ≡ take n s.journal = ap (take n) a.journal ∙ take-append-le n s.journal c le in
    let back : drop n s1.journal ≡ drop n s.journal ++ c = ap (drop n) a.journal ∙ drop-append-le n s.journal c le in
    record {
      journal = b.journal ∙ ap (λ o. take n s1.journal ++ fitted o (take n s1.journal) p t (drop n s1.journal)) a.opts ∙ ap (λ i. i ++ fitted s.opts i p t (drop n s1.journal)) front ∙ ap (λ x. take n s.journal ++ fitted s.opts (take n s.journal) p t x) back;
      sites = b.sites ∙ a.sites;
      opts = b.opts ∙ a.opts;
      input = b.input ∙ a.input;
    }

size_of : (n : ℕ) (l : Journal) → length (take n l) + length (drop n l) ≡ length l
size_of n l = sym (length-append (take n l) (drop n l)) ∙ ap length (take-append-drop n l)

fits_not : (m e : ℕ) → e < m → nat_le m e ≡ false
fits_not m e lt = by (nat_le m e) refl
  where
    by : (b : Bool) → nat_le m e ≡ b → b ≡ false
    by true h = let le = leb-true m e h in absurd (omega arith)
    by false h = refl

-- the act stays where there is room for one entry more
pub fit_kept : (s : Seen) (n p t : ℕ) → length s.journal < s.opts.entries → Replaced s s n (fitted s.opts (take n s.journal) p t (drop n s.journal))
fit_kept s n p t lt =
    let size = size_of n s.journal in
    let fits : nat_le (length (take n s.journal) + length (drop n s.journal) + 1) s.opts.entries ≡ true = le-leb (length (take n s.journal) + length (drop n s.journal) + 1) s.opts.entries (omega arith) in
    record {
      journal = sym (ap (λ b. take n s.journal ++ cond b (drop n s.journal) (entry kind.Limit p t 0 0 (pos 0) (pos 0) ∷ [])) fits ∙ take-append-drop n s.journal);
      sites = refl;
      opts = refl;
      input = refl;
    }

-- and gives way to the limit where there is none
pub fit_cut : (opts : Options) (l : Journal) (n p t : ℕ) → opts.entries ≤ length l → fitted opts (take n l) p t (drop n l) ≡ entry kind.Limit p t 0 0 (pos 0) (pos 0) ∷ []
fit_cut opts l n p t le =
    let size = size_of n l in
    ap (λ b. cond b (drop n l) (entry kind.Limit p t 0 0 (pos 0) (pos 0) ∷ [])) (fits_not (length (take n l) + length (drop n l) + 1) opts.entries (omega arith))

-- ---- an act is short
short_settled : (f : Entry) (j : Journal) (a : List Entry) → length (settled f j a) ≤ length a
short_settled f j [] = omega arith
short_settled f j (e ∷ a) = by (destroys_busy j e.kind e) (short_settled f (j ++ e ∷ []) a)
  where
    by : (b : Bool) → length (settled f (j ++ e ∷ []) a) ≤ length a → length (cond b (record f { ticks = e.ticks; line = e.line } ∷ []) (e ∷ settled f (j ++ e ∷ []) a)) ≤ suc (length a)
    by true ih = omega arith
    by false ih = omega arith

short_or : (b : Bool) (e f : Entry) → length (or_fault b e f) ≤ 32
short_or true e f = omega arith
short_or false e f = omega arith

short_admission : (sites : List Site) (p o : ℕ) (j : Journal) (n : Option (ℕ × ℕ)) → suc (length (admission sites p o j n)) ≤ 32
short_admission sites p o j None = omega arith
short_admission sites p o _ (Some n) = omega arith

short_met : (p t o u m : ℕ) (c : Option ℕ) → suc (length (met_by p t o u m c)) ≤ 32
short_met p t o u m None = omega arith
short_met p t o u zero (Some clause) = omega arith
short_met p t o u (suc m) (Some clause) = omega arith

short_called : (sites : List Site) (p t o m : ℕ) (within : List ℕ) (opened : List Entry) → suc (length (called sites p t o m within opened)) ≤ 32
short_called sites p t o m [] [] = omega arith
short_called sites p t o m (x ∷ xs) [] = omega arith
short_called sites p t o m [] (y ∷ rest) = short_met p t o y.task m (clause_for (offered sites y) m)
short_called sites p t o m (x ∷ xs) (y ∷ rest) = short_met p t o y.task m (clause_for (offered sites y) m)

short_took : (p t : ℕ) (k : Cost) (o site mask : ℕ) (b : Bool) (m u : ℕ) → length (took p t k o site mask b m u) ≤ 32
short_took p t k o site mask b zero u = omega arith
short_took p t k o site mask b (suc m) u = omega arith

short_accepted : (p t : ℕ) (k : Cost) (o site mask : ℕ) (b : Bool) (x : Option Met) → length (accepted p t k o site mask b x) ≤ 32
short_accepted p t k o site mask b (Some x) = short_took p t k o site mask b x.member x.task
short_accepted p t k o site mask true None = omega arith
short_accepted p t k o site mask false None = omega arith

short_signalled : (p t : ℕ) (k : Cost) (o c : ℕ) (ws : List (ℕ × ℤ)) → length (signalled p t k o c ws) ≤ 32
short_signalled p t k o c [] = omega arith
short_signalled p t k o c (w ∷ ws) = omega arith

short_handed : (p t : ℕ) (k : Cost) (o c : ℕ) (ws : List (ℕ × ℤ)) → length (handed p t k o c ws) ≤ 32
short_handed p t k o c [] = omega arith
short_handed p t k o c (w ∷ ws) = omega arith

short_front : (p t : ℕ) (k : Cost) (line o c : ℕ) (ws : List (ℕ × ℤ)) → length (front p t k line o c ws) ≤ 32
short_front p t k line o c [] = omega arith
short_front p t k line o c (w ∷ ws) = omega arith

short_poll : (p t : ℕ) (k : Cost) (mask : ℕ) (r : Option (ℕ × ℤ × ℤ)) → length (poll_entry p t k mask r ∷ []) ≤ 32
short_poll p t k mask r = omega arith

short_prints : (p t : ℕ) (k : Cost) (n : ℕ) (is : List Piece) → length (prints p t k (take n is)) ≤ n
short_prints p t k zero is = omega arith
short_prints p t k (suc n) [] = omega arith
short_prints p t k (suc n) (i ∷ is) = let h = short_prints p t no_cost n is in omega arith

module _ (opts : Options) (sites : List Site) (input : List ℕ) (j : Journal) (p t : ℕ) (k : Cost) (line : ℕ) where
  short_row : (r : Request) → Fits opts sites j t r → length (row opts sites input j p t k line r) ≤ 32
  short_row (ask.Make class) f = short_or (nat_lt (object_count j) OBJECTS) _ _
  short_row (ask.Made o) f = short_admission sites p o _ (next o j)
  short_row (ask.Spawn o) f = short_or (nat_lt (task_count j) TASKS) _ _
  short_row (ask.Call o m) f = short_called sites p t o m (inside o j) (open_at o j)
  short_row (ask.Leave o failed) f = short_admission sites p o _ (next o j)
  short_row (ask.Accept o site mask) f = short_accepted p t k o site mask (site_at sites site).has_else (next_met sites site mask o j)
  short_row (ask.Wait o c n) f = short_admission sites p o _ (next o j)
  short_row (ask.Signal o c) f = short_signalled p t k o c (blocked o c j)
  short_row (ask.SignalBlock o c) f = short_handed p t k o c (blocked o c j)
  short_row (ask.Empty o c) f = omega arith
  short_row (ask.Front o c) f = short_front p t k line o c (blocked o c j)
  short_row (ask.Raise o event x y) f = short_or (nat_lt (length (pending (first_or_0 (owner o j)) j)) PENDING_EVENTS) _ _
  short_row (ask.Poll mask) f = short_poll p t k mask (oldest_in mask (pending t j))
  short_row ask.Yield f = omega arith
  short_row ask.Slice f = omega arith
  short_row (ask.Print n items) f =
      let h = short_prints p t k n items in
      let most = f.1 in
      omega arith
  short_row (ask.Read form) f = omega arith
  short_row ask.Fail f = omega arith
  short_row ask.Cluster f = short_or (nat_lt (cluster_count j) CLUSTERS) _ _
  short_row (ask.ClusterEnd c) f = short_or (not (is_in_use opts c j)) _ _
  short_row (ask.Processor c) f = short_or (nat_lt (processor_count opts j) PROCESSORS) _ _
  short_row (ask.ProcessorEnd q) f = omega arith
  short_row (ask.Migrate c) f = omega arith
  short_row ask.End f = short_admission sites p (own_object t j) _ (next (own_object t j) j)
  short_row (ask.Gone o) f = omega arith
  short_row (ask.Fault n) f = omega arith

pub rows_short : (s : Seen) (p t k line : ℕ) (r : Request) → Fits s.opts s.sites s.journal t r → length (rows s p t k line r) ≤ 32
rows_short s p t k line r f =
    let a = short_settled (fault p t no_cost 10 line) s.journal (row s.opts s.sites s.input s.journal p t (cost k line) line r) in
    let b = short_row s.opts s.sites s.input s.journal p t (cost k line) line r f in
    omega arith

-- the entries of a request stand behind those that stood, and leave room for the ending
pub rows_room : (s s1 : Seen) (p t k line n : ℕ) (r : Request) → Fits s.opts s.sites s.journal t r → n ≡ length s.journal → length s.journal < s.opts.entries → Appended s s1 (rows s p t k line r) → (n ≤ length s1.journal) × (length s1.journal < s1.opts.entries + 40) × (n < s1.opts.entries)
rows_room s s1 p t k line n r f size room a =
    let short = rows_short s p t k line r f in
    let all : length s1.journal ≡ length s.journal + length (rows s p t k line r) = ap length a.journal ∙ length-append s.journal (rows s p t k line r) in
    let same : s1.opts.entries ≡ s.opts.entries = ap (λ o. o.entries) a.opts in
    (omega arith, omega arith, omega arith)

pub longer : (s s1 : Seen) (a : List Entry) (n : ℕ) → n ≤ length s.journal → Appended s s1 a → n ≤ length s1.journal
longer s s1 a n le b =
    let all : length s1.journal ≡ length s.journal + length a = ap length b.journal ∙ length-append s.journal a in
    omega arith

-- a verdict ends the run
pub verdict_ends : (opts : Options) (j : Journal) (k : EntryKind) → Some k ≡ verdict opts j → is_ending k ≡ true
verdict_ends opts j k h = by (first_ended j) (none_running opts j && none_ready j) (none_running opts j && none_served opts j) (nat_le opts.ticks (all_ticks j)) h
  where
    same : (x y : EntryKind) → Some x ≡ Some y → x ≡ y
    same x y e = cc

    by : (a b c d : Bool) → Some k ≡ cond a (Some kind.Done) (cond b (Some kind.Deadlock) (cond c (Some kind.NoProcessor) (cond d (Some kind.Limit) None))) → is_ending k ≡ true
    by true b c d e = ap is_ending (same k kind.Done e)
    by false true c d e = ap is_ending (same k kind.Deadlock e)
    by false false true d e = ap is_ending (same k kind.NoProcessor e)
    by false false false true e = ap is_ending (same k kind.Limit e)
    by false false false false e = cc

-- nothing ends a run that is over
pub close_over : (s : Seen) (p t : ℕ) → is_over s.journal ≡ true → Appended s s (cond (is_over s.journal) [] (closing p t (verdict s.opts s.journal)))
close_over s p t h = subst (λ b. Appended s s (cond b [] (closing p t (verdict s.opts s.journal)))) (sym h) (appended_none s)

pub close_none : (s : Seen) (p t : ℕ) → is_over s.journal ≡ false → None ≡ verdict s.opts s.journal → Appended s s (cond (is_over s.journal) [] (closing p t (verdict s.opts s.journal)))
close_none s p t h g = subst (λ b. Appended s s (cond b [] (closing p t (verdict s.opts s.journal)))) (sym h) (subst (λ v. Appended s s (closing p t v)) g (appended_none s))

pub close_some : (s s1 : Seen) (p t : ℕ) (k : EntryKind) (e : Entry) → is_over s.journal ≡ false → Some k ≡ verdict s.opts s.journal → e ≡ entry k p t 0 0 (pos 0) (pos 0) → Appended s s1 (e ∷ []) → Appended s s1 (cond (is_over s.journal) [] (closing p t (verdict s.opts s.journal)))
close_some s s1 p t k e h g is a = subst (λ b. Appended s s1 (cond b [] (closing p t (verdict s.opts s.journal)))) (sym h) (subst (λ v. Appended s s1 (closing p t v)) g (subst (λ x. Appended s s1 (x ∷ [])) is a))

-- ---- what a task may ask
pub may_act : (told : Told) (doors : Doors) (waits : Waiting) (events : List (List Event)) (standing : Standing) (marks ins : List Bool) (owners : List (Option ℕ)) (own : List ℕ) (opts : Options) (input : List ℕ) (s : Seen) (p t k : ℕ) (r : Request) → IsBook told doors waits events standing marks ins owners own opts → seen told opts input ≡ s → IsReady s → MayAsk s.opts s.sites s.journal p t k r → MayAct s p t
may_act told doors waits events standing marks ins owners own opts input s p t k r book is ready asks =
    let going = subst (λ (v : Seen). is_over v.journal ≡ false) (sym is) ready.going in
    let runs = subst (λ (v : Seen). running p v.journal ≡ t ∷ []) (sym is) asks.runs in
    let room = subst (λ (v : Seen). length v.journal < v.opts.entries) (sym is) ready.room in
    let m = book.mirrors going in
    let known = run_known opts told.sites told.journal doors waits events standing marks ins owners own m p t runs in
    subst (λ (v : Seen). MayAct v p t) is (record { going = going; runs = runs; room = omega arith; known = known; few = m.few; sound = m.sound; stood = m.stood })
