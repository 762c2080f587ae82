-- The entries of an act: the first is its task's own, the second may admit somebody, and all others let nobody in or out.
use Rattle.std.proofs.Common.{◌≡◌, ℕ, ℤ, zero, suc, ◌+◌, ◌≤◌, ◌&&◌, ◌||◌, Bool, true, false, cond, not, List, [], ◌∷◌, ◌++◌, Option, Some, None, take, refl, arith, length}
use Rattle.std.specs.Prelude.{pos, nat_lt, nat_le}
use Rattle.uc_tree.specs.Programs.{Site}
use Rattle.uc_tree.specs.declared.limits.TheConstants.{TASKS, OBJECTS, PENDING_EVENTS, CLUSTERS, PROCESSORS}
use Rattle.uc_entry.specs.declared.request.TheConstants.{PRINT_ITEMS}
use Rattle.uc_entry.specs.declared.entry.Entry.{Entry}
use Rattle.uc_entry.specs.declared.entry.EntryKind.{EntryKind}
use Rattle.uc_entry.specs.declared.entry.EntryKind.TheVariants as kind
use Rattle.uc_entry.specs.declared.entry.Options.{Options}
use Rattle.uc_entry.specs.declared.request.Asked.{Asked}
use Rattle.uc_entry.specs.declared.request.Piece.{Piece}
use Rattle.uc_entry.specs.declared.request.Request.{Request}
use Rattle.uc_entry.specs.declared.request.Request.TheVariants as ask
use Rattle.uc_acts.specs.Journal.{Journal, inside, entry, own_object, first_or_0, asking, Cost, cost, no_cost}
use Rattle.uc_acts.specs.Queues.{next, cluster_count, processor_count, is_in_use, first_ended, none_running, none_ready, none_served, all_ticks}
use Rattle.uc_acts.specs.Known.{object_count, task_count, owner, is_gone_by}
use Rattle.uc_acts.specs.Pending.{pending, oldest_in}
use Rattle.uc_acts.specs.Doors.{site_at, open_at, offered, next_met, blocked, destroys_busy}
use Rattle.uc_tree.specs.SiteOffers.{clause_for, Met}
use Rattle.uc_acts.specs.KernelRuns.{Fits}
use Rattle.uc_acts.specs.Acts.{admission, met_by, called, took, accepted, signalled, handed, front, poll_entry, prints, or_fault, row, settled, fault, entries_of, is_faulty, verdict, closing, ending, fitted, act, truth}
use Rattle.uc_kernel_core.specs.CoreActs.{makes_new}
use Rattle.uc_kernel.specs.AtRest.{is_admit}

-- an entry that lets nobody in or out, and begins nothing
abbrev pub trails : EntryKind → Bool
trails kind.Push = true
trails kind.Print = true
trails kind.Fault = true
trails kind.Done = true
trails kind.Deadlock = true
trails kind.NoProcessor = true
trails kind.Limit = true
trails k = false

abbrev pub AllTrail : List Entry → Type 0
AllTrail [] = Unit {0}
AllTrail (e ∷ a) = (trails e.kind ≡ true) × AllTrail a

abbrev pub SecondFits : List Entry → Type 0
SecondFits [] = Unit {0}
SecondFits (e ∷ a) = ((trails e.kind || is_admit e.kind) ≡ true) × AllTrail a

-- the first is of such a kind; where it destroys an object nobody is let in
abbrev pub Shaped : (EntryKind → Bool) → List Entry → Type 0
Shaped P [] = ⊥
Shaped P (e ∷ a) = (P e.kind ≡ true) × SecondFits a × (is_gone_by e.kind ≡ true → AllTrail a)

-- the kinds of the first entry of an act that makes neither an object nor a task
abbrev pub is_plain : EntryKind → Bool
is_plain kind.Begin = false
is_plain kind.Dispatch = false
is_plain kind.Make = false
is_plain kind.Spawn = false
is_plain kind.Admit = false
is_plain kind.Push = false
is_plain k = true

-- of one that makes an object, and of one that makes a task
abbrev pub is_making : EntryKind → Bool
is_making kind.Make = true
is_making kind.Fault = true
is_making kind.Limit = true
is_making k = false

abbrev pub is_spawning : EntryKind → Bool
is_spawning kind.Spawn = true
is_spawning kind.Fault = true
is_spawning kind.Limit = true
is_spawning k = false

trail_append : (a b : List Entry) → AllTrail a → AllTrail b → AllTrail (a ++ b)
trail_append [] b h k = k
trail_append (e ∷ a) b h k = (h.0, trail_append a b h.1 k)

or_left : (x y : Bool) → x ≡ true → (x || y) ≡ true
or_left true y h = refl
or_left false y h = cc

second_trail : (a : List Entry) → AllTrail a → SecondFits a
second_trail [] h = tt
second_trail (e ∷ a) h = (or_left (trails e.kind) (is_admit e.kind) h.0, h.1)

second_append : (a b : List Entry) → SecondFits a → AllTrail b → SecondFits (a ++ b)
second_append [] b h k = second_trail b k
second_append (e ∷ a) b h k = (h.0, trail_append a b h.1 k)

shaped_append : (P : EntryKind → Bool) (a b : List Entry) → Shaped P a → AllTrail b → Shaped P (a ++ b)
shaped_append P [] b h k = absurd h
shaped_append P (e ∷ a) b h k = (h.0, second_append a b h.1 k, λ d. trail_append a b (h.2 d) k)

module _ (p t : ℕ) where
  shaped_or : (P : EntryKind → Bool) (b : Bool) (e f : Entry) → P e.kind ≡ true → P f.kind ≡ true → Shaped P (or_fault b e f)
  shaped_or P true e f h g = (h, tt, λ d. tt)
  shaped_or P false e f h g = (g, tt, λ d. tt)

  shaped_left : (sites : List Site) (o : ℕ) (j : Journal) (e : Entry) (n : Option (ℕ × ℕ)) → is_plain e.kind ≡ true → is_gone_by e.kind ≡ false → Shaped is_plain (e ∷ admission sites p o j n)
  shaped_left sites o j e None h f = (h, tt, λ d. tt)
  shaped_left sites o j e (Some n) h f = (h, (refl, tt), λ d. absurd (no_both (is_gone_by e.kind) d f))
    where
      no_both : (b : Bool) → b ≡ true → b ≡ false → ⊥
      no_both b t f = cc

  shaped_met : (o u m : ℕ) (c : Option ℕ) → SecondFits (met_by p t o u m c)
  shaped_met o u m None = tt
  shaped_met o u zero (Some c) = (refl, (refl, tt))
  shaped_met o u (suc m) (Some c) = (refl, tt)

  shaped_called : (sites : List Site) (o m : ℕ) (within : List ℕ) (opened : List Entry) → SecondFits (called sites p t o m within opened)
  shaped_called sites o m [] [] = (refl, tt)
  shaped_called sites o m (x ∷ xs) [] = tt
  shaped_called sites o m [] (y ∷ rest) = shaped_met o y.task m (clause_for (offered sites y) m)
  shaped_called sites o m (x ∷ xs) (y ∷ rest) = shaped_met o y.task m (clause_for (offered sites y) m)

  shaped_took : (k : Cost) (o site mask : ℕ) (b : Bool) (m u : ℕ) → Shaped is_plain (took p t k o site mask b m u)
  shaped_took k o site mask b zero u = (refl, (refl, tt), λ d. cc)
  shaped_took k o site mask b (suc m) u = (refl, (refl, tt), λ d. cc)

  shaped_accepted : (k : Cost) (o site mask : ℕ) (b : Bool) (x : Option Met) → Shaped is_plain (accepted p t k o site mask b x)
  shaped_accepted k o site mask b (Some x) = shaped_took k o site mask b x.member x.task
  shaped_accepted k o site mask true None = (refl, tt, λ d. tt)
  shaped_accepted k o site mask false None = (refl, tt, λ d. tt)

  shaped_signalled : (k : Cost) (o c : ℕ) (ws : List (ℕ × ℤ)) → Shaped is_plain (signalled p t k o c ws)
  shaped_signalled k o c [] = (refl, tt, λ d. tt)
  shaped_signalled k o c (w ∷ ws) = (refl, (refl, tt), λ d. cc)

  shaped_handed : (k : Cost) (o c : ℕ) (ws : List (ℕ × ℤ)) → Shaped is_plain (handed p t k o c ws)
  shaped_handed k o c [] = (refl, tt, λ d. tt)
  shaped_handed k o c (w ∷ ws) = (refl, (refl, tt), λ d. cc)

  shaped_front : (k : Cost) (line o c : ℕ) (ws : List (ℕ × ℤ)) → Shaped is_plain (front p t k line o c ws)
  shaped_front k line o c [] = (refl, tt, λ d. tt)
  shaped_front k line o c (w ∷ ws) = (refl, tt, λ d. tt)

  shaped_poll : (k : Cost) (mask : ℕ) (r : Option (ℕ × ℤ × ℤ)) → Shaped is_plain (poll_entry p t k mask r ∷ [])
  shaped_poll k mask None = (refl, tt, λ d. tt)
  shaped_poll k mask (Some r) = (refl, tt, λ d. tt)

  trail_prints : (k : Cost) (is : List Piece) → AllTrail (prints p t k is)
  trail_prints k [] = tt
  trail_prints k (i ∷ is) = (refl, trail_prints no_cost is)

  shaped_prints : (k : Cost) (n : ℕ) (is : List Piece) → 1 ≤ n → length is ≡ PRINT_ITEMS → Shaped is_plain (prints p t k (take n is))
  shaped_prints k zero is le h = absurd (omega arith)
  shaped_prints k (suc n) [] le h = cc
  shaped_prints k (suc n) (i ∷ is) le h = (refl, second_trail _ (trail_prints no_cost (take n is)), λ d. cc)

  trail_settled : (line : ℕ) (j : Journal) (a : List Entry) → AllTrail a → AllTrail (settled (fault p t no_cost 10 line) j a)
  trail_settled line j [] h = tt
  trail_settled line j (e ∷ a) h = by (destroys_busy j e.kind e) (trail_settled line (j ++ e ∷ []) a h.1)
    where
      by : (b : Bool) → AllTrail (settled (fault p t no_cost 10 line) (j ++ e ∷ []) a) → AllTrail (cond b (fault p t (cost e.ticks e.line) 10 line ∷ []) (e ∷ settled (fault p t no_cost 10 line) (j ++ e ∷ []) a))
      by true ih = (refl, tt)
      by false ih = (h.0, ih)

  second_settled : (line : ℕ) (j : Journal) (a : List Entry) → SecondFits a → SecondFits (settled (fault p t no_cost 10 line) j a)
  second_settled line j [] h = tt
  second_settled line j (e ∷ a) h = by (destroys_busy j e.kind e)
    where
      by : (b : Bool) → SecondFits (cond b (fault p t (cost e.ticks e.line) 10 line ∷ []) (e ∷ settled (fault p t no_cost 10 line) (j ++ e ∷ []) a))
      by true = (refl, tt)
      by false = (h.0, trail_settled line (j ++ e ∷ []) a h.1)

  shaped_settled : (P : EntryKind → Bool) → P kind.Fault ≡ true → (line : ℕ) (j : Journal) (a : List Entry) → Shaped P a → Shaped P (settled (fault p t no_cost 10 line) j a)
  shaped_settled P pf line j [] h = absurd h
  shaped_settled P pf line j (e ∷ a) h = by (destroys_busy j e.kind e)
    where
      by : (b : Bool) → Shaped P (cond b (fault p t (cost e.ticks e.line) 10 line ∷ []) (e ∷ settled (fault p t no_cost 10 line) (j ++ e ∷ []) a))
      by true = (pf, tt, λ d. tt)
      by false = (h.0, second_settled line (j ++ e ∷ []) a h.1, λ d. trail_settled line (j ++ e ∷ []) a (h.2 d))

  trail_closing : (a b c d : Bool) → AllTrail (closing p t (cond a (Some kind.Done) (cond b (Some kind.Deadlock) (cond c (Some kind.NoProcessor) (cond d (Some kind.Limit) None)))))
  trail_closing true b c d = (refl, tt)
  trail_closing false true c d = (refl, tt)
  trail_closing false false true d = (refl, tt)
  trail_closing false false false true = (refl, tt)
  trail_closing false false false false = tt

  trail_ending : (opts : Options) (i : Journal) (a : List Entry) → AllTrail (ending opts i p t a)
  trail_ending opts i a = by (is_faulty a)
    where
      by : (b : Bool) → AllTrail (cond b [] (closing p t (verdict opts (i ++ a))))
      by true = tt
      by false =
          trail_closing (first_ended (i ++ a)) (none_running opts (i ++ a) && none_ready (i ++ a)) (none_running opts (i ++ a) && none_served opts (i ++ a)) (nat_le opts.ticks (all_ticks (i ++ a)))

  shaped_fitted : (P : EntryKind → Bool) → P kind.Limit ≡ true → (opts : Options) (j : Journal) (a : List Entry) → Shaped P a → Shaped P (fitted opts j p t a)
  shaped_fitted P pl opts j a h = by (nat_le (length j + length a + 1) opts.entries)
    where
      by : (b : Bool) → Shaped P (cond b a (entry kind.Limit p t 0 0 (pos 0) (pos 0) ∷ []))
      by true = h
      by false = (pl, tt, λ d. tt)

module _ (opts : Options) (sites : List Site) (input : List ℕ) (j : Journal) (p t : ℕ) (k : Cost) where
  shaped_row : (line : ℕ) (r : Request) → makes_new r ≡ false → Fits opts sites j t r → Shaped is_plain (row opts sites input j p t k line r)
  shaped_row line (ask.Make class) n f = cc
  shaped_row line (ask.Made o) n f = shaped_left p t sites o _ (asking kind.Made p t k o (pos 0) (pos 0)) (next o j) refl refl
  shaped_row line (ask.Spawn o) n f = cc
  shaped_row line (ask.Call o m) n f = (refl, shaped_called p t sites o m (inside o j) (open_at o j), λ d. cc)
  shaped_row line (ask.Leave o failed) n f = shaped_left p t sites o _ (asking kind.Leave p t k o (truth failed) (pos 0)) (next o j) refl refl
  shaped_row line (ask.Accept o site mask) n f = shaped_accepted p t k o site mask (site_at sites site).has_else (next_met sites site mask o j)
  shaped_row line (ask.Wait o c x) n f = shaped_left p t sites o _ (asking kind.Wait p t k o (pos c) x) (next o j) refl refl
  shaped_row line (ask.Signal o c) n f = shaped_signalled p t k o c (blocked o c j)
  shaped_row line (ask.SignalBlock o c) n f = shaped_handed p t k o c (blocked o c j)
  shaped_row line (ask.Empty o c) n f = (refl, tt, λ d. tt)
  shaped_row line (ask.Front o c) n f = shaped_front p t k line o c (blocked o c j)
  shaped_row line (ask.Raise o event x y) n f = shaped_or p t is_plain (nat_lt (length (pending (first_or_0 (owner o j)) j)) PENDING_EVENTS) _ _ refl refl
  shaped_row line (ask.Poll mask) n f = shaped_poll p t k mask (oldest_in mask (pending t j))
  shaped_row line ask.Yield n f = (refl, tt, λ d. tt)
  shaped_row line ask.Slice n f = (refl, tt, λ d. tt)
  shaped_row line (ask.Print m items) n f = shaped_prints p t k m items f.0 f.2
  shaped_row line (ask.Read form) n f = (refl, tt, λ d. tt)
  shaped_row line ask.Fail n f = (refl, tt, λ d. tt)
  shaped_row line ask.Cluster n f = shaped_or p t is_plain (nat_lt (cluster_count j) CLUSTERS) _ _ refl refl
  shaped_row line (ask.ClusterEnd c) n f = shaped_or p t is_plain (not (is_in_use opts c j)) _ _ refl refl
  shaped_row line (ask.Processor c) n f = shaped_or p t is_plain (nat_lt (processor_count opts j) PROCESSORS) _ _ refl refl
  shaped_row line (ask.ProcessorEnd q) n f = (refl, tt, λ d. tt)
  shaped_row line (ask.Migrate c) n f = (refl, tt, λ d. tt)
  shaped_row line ask.End n f = shaped_left p t sites (own_object t j) _ (asking kind.End p t k (own_object t j) (pos 0) (pos 0)) (next (own_object t j) j) refl refl
  shaped_row line (ask.Gone o) n f = (refl, tt, λ d. tt)
  shaped_row line (ask.Fault m) n f = (refl, tt, λ d. tt)

module _ (opts : Options) (sites : List Site) (input : List ℕ) (j : Journal) (p t k : ℕ) where
  of_row : (P : EntryKind → Bool) → P kind.Fault ≡ true → P kind.Limit ≡ true → (asked : Asked) → Shaped P (row opts sites input j p t (cost k asked.line) asked.line asked.request) → Shaped P (act opts sites input j p t k asked)
  of_row P pf pl asked h =
      let a = entries_of opts sites input j p t k asked in
      shaped_fitted p t P pl opts j (a ++ ending opts j p t a) (shaped_append P a (ending opts j p t a) (shaped_settled p t P pf asked.line j (row opts sites input j p t (cost k asked.line) asked.line asked.request) h) (trail_ending p t opts j a))

  pub shaped_act : (asked : Asked) → makes_new asked.request ≡ false → Fits opts sites j t asked.request → Shaped is_plain (act opts sites input j p t k asked)
  shaped_act asked n f = of_row is_plain refl refl asked (shaped_row opts sites input j p t (cost k asked.line) asked.line asked.request n f)

  pub shaped_make : (class line : ℕ) → Shaped is_making (act opts sites input j p t k (record { request = ask.Make class; line = line }))
  shaped_make class line =
      of_row is_making refl refl (record { request = ask.Make class; line = line }) (shaped_or p t is_making (nat_lt (object_count j) OBJECTS) _ _ refl refl)

  pub shaped_spawn : (o line : ℕ) → Shaped is_spawning (act opts sites input j p t k (record { request = ask.Spawn o; line = line }))
  shaped_spawn o line =
      of_row is_spawning refl refl (record { request = ask.Spawn o; line = line }) (shaped_or p t is_spawning (nat_lt (task_count j) TASKS) _ _ refl refl)

  -- where there are as many tasks as may be, no task is made
  pub shaped_full : (o line : ℕ) → nat_lt (task_count j) TASKS ≡ false → Shaped is_making (act opts sites input j p t k (record { request = ask.Spawn o; line = line }))
  shaped_full o line h =
      of_row is_making refl refl (record { request = ask.Spawn o; line = line }) (rw h (refl, tt, λ d. tt))
