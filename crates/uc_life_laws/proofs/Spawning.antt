-- Which requests spawn a task, and which tasks have ended.
use Rattle.std.proofs.Common.{◌≡◌, ℕ, ℤ, zero, suc, ◌==◌, ◌||◌, Bool, true, false, not, List, [], ◌∷◌, ◌++◌, Option, Some, None, take, length, refl, sym, ap, ◌∙◌, append-nil, append_assoc}
use Rattle.std.specs.Prelude.{pos, nat_lt}
use Rattle.std.proofs.lemmas.Bool.{eqb-true}
use Rattle.uc_tree.specs.Programs.{Site}
use Rattle.uc_tree.specs.declared.limits.TheConstants.{OBJECTS, TASKS, PENDING_EVENTS, CLUSTERS, PROCESSORS}
use Rattle.uc_tree.specs.SiteOffers.{clause_for, met, Met}
use Rattle.uc_entry.specs.declared.entry.Entry.{Entry}
use Rattle.uc_entry.specs.declared.entry.EntryKind.TheVariants as kind
use Rattle.uc_entry.specs.declared.entry.Options.{Options}
use Rattle.uc_entry.specs.declared.request.Piece.{Piece}
use Rattle.uc_entry.specs.declared.request.Request.{Request}
use Rattle.uc_entry.specs.declared.request.Request.TheVariants as ask
use Rattle.uc_entry.specs.declared.fault.RunFault.TheVariants as run_fault
use Rattle.uc_entry.specs.Faults.{fault_number}
use Rattle.uc_acts.specs.Journal.{Journal, Cost, no_cost, asking, inside, own_object, first_or_0}
use Rattle.uc_acts.specs.Queues.{waiting, next, cluster_count, processor_count, is_in_use}
use Rattle.uc_acts.specs.Known.{object_count, task_count, owner, spawns, has_ended, ends}
use Rattle.uc_acts.specs.Pending.{pending as pending_at, oldest_in}
use Rattle.uc_acts.specs.Doors.{open_at, offered, offers, site_at, blocked}
use Rattle.uc_acts.specs.Acts.{fault, admission, met_by, called, took, accepted, signalled, handed, front, poll_entry, prints, or_fault, row}
use Rattle.uc_acts.proofs.SoundLemmas.{ended_push}
use Rattle.uc_entry.specs.declared.request.Answer.{Answer}
use Rattle.uc_entry.specs.declared.request.Answer.TheVariants as answer
use Rattle.uc_answer_laws.specs.Suiting.{IsForm, form_of_request}
use Rattle.uc_typing.specs.States.{Suits}

-- the task that a request spawns
abbrev pub Spawned : Journal → ℕ → Request → Type 0
Spawned j u (ask.Spawn o) = u ≡ task_count j
Spawned j u r = ⊥

clash : {A : Type 0} → false ≡ true → A
clash h = absurd (cc)

module _ (u : ℕ) where
  none_admitted : (sites : List Site) (p o : ℕ) (j : Journal) (x : Option (ℕ × ℕ)) → spawns (admission sites p o j x) u ≡ false
  none_admitted sites p o j None = refl
  none_admitted sites p o j (Some n) = refl

  none_met : (p t o a m : ℕ) (x : Option ℕ) → spawns (met_by p t o a m x) u ≡ false
  none_met p t o a m None = refl
  none_met p t o a zero (Some c) = refl
  none_met p t o a (suc m) (Some c) = refl

  none_called : (sites : List Site) (p t o m : ℕ) (within : List ℕ) (opened : List Entry) → spawns (called sites p t o m within opened) u ≡ false
  none_called sites p t o m [] [] = refl
  none_called sites p t o m (x ∷ xs) [] = refl
  none_called sites p t o m [] (a ∷ rest) = none_met p t o a.task m (clause_for (offered sites a) m)
  none_called sites p t o m (x ∷ xs) (a ∷ rest) = none_met p t o a.task m (clause_for (offered sites a) m)

  none_accepted : (p t : ℕ) (k : Cost) (o site mask : ℕ) (b : Bool) (x : Option Met) → spawns (accepted p t k o site mask b x) u ≡ false
  none_accepted p t k o site mask b (Some x) = by x.member
    where
      by : (m : ℕ) → spawns (took p t k o site mask b m x.task) u ≡ false
      by zero = refl
      by (suc m) = refl
  none_accepted p t k o site mask true None = refl
  none_accepted p t k o site mask false None = refl

  none_printed : (p t : ℕ) (k : Cost) (items : List Piece) → spawns (prints p t k items) u ≡ false
  none_printed p t k [] = refl
  none_printed p t k (i ∷ is) = none_printed p t no_cost is

  none_or : (b : Bool) (e f : Entry) → spawns (e ∷ []) u ≡ false → spawns (f ∷ []) u ≡ false → spawns (or_fault b e f) u ≡ false
  none_or true e f h g = h
  none_or false e f h g = g

  module _ (opts : Options) (sites : List Site) (input : List ℕ) (j : Journal) (p t : ℕ) (k : Cost) (line : ℕ) where
    pub spawner : (r : Request) → spawns (row opts sites input j p t k line r) u ≡ true → Spawned j u r
    spawner (ask.Spawn o) h = by (nat_lt (task_count j) TASKS) h
      where
        one : (b : Bool) → (u == task_count j) ≡ b → (b || false) ≡ true → u ≡ task_count j
        one true e h = eqb-true u (task_count j) e
        one false e h = clash h

        by : (b : Bool) → spawns (or_fault b (asking kind.Spawn p t k o (pos (task_count j)) (pos 0)) (fault p t k (fault_number run_fault.TooManyTasks) line)) u ≡ true → u ≡ task_count j
        by true h = one (u == task_count j) refl h
        by false h = clash h
    spawner (ask.Make class) h = clash (sym (none_or (nat_lt (object_count j) OBJECTS) _ _ refl refl) ∙ h)
    spawner (ask.Made o) h = clash (sym (none_admitted sites p o _ (next o j)) ∙ h)
    spawner (ask.Leave o failed) h = clash (sym (none_admitted sites p o _ (next o j)) ∙ h)
    spawner (ask.Wait o c n) h = clash (sym (none_admitted sites p o _ (next o j)) ∙ h)
    spawner ask.End h = clash (sym (none_admitted sites p (own_object t j) _ (next (own_object t j) j)) ∙ h)
    spawner (ask.Gone o) h = clash h
    spawner (ask.Call o m) h = clash (sym (none_called sites p t o m (inside o j) (open_at o j)) ∙ h)
    spawner (ask.Accept o site mask) h = clash (sym (none_accepted p t k o site mask (site_at sites site).has_else (met (offers sites site mask) (waiting o j))) ∙ h)
    spawner (ask.Signal o c) h = by (blocked o c j) h
      where
        by : (ws : List (ℕ × ℤ)) → spawns (signalled p t k o c ws) u ≡ true → ⊥
        by [] h = clash h
        by (w ∷ ws) h = clash h
    spawner (ask.SignalBlock o c) h = by (blocked o c j) h
      where
        by : (ws : List (ℕ × ℤ)) → spawns (handed p t k o c ws) u ≡ true → ⊥
        by [] h = clash h
        by (w ∷ ws) h = clash h
    spawner (ask.Empty o c) h = clash h
    spawner (ask.Front o c) h = by (blocked o c j) h
      where
        by : (ws : List (ℕ × ℤ)) → spawns (front p t k line o c ws) u ≡ true → ⊥
        by [] h = clash h
        by (w ∷ ws) h = clash h
    spawner (ask.Raise o event x y) h = clash (sym (none_or (nat_lt (length (pending_at (first_or_0 (owner o j)) j)) PENDING_EVENTS) _ _ refl refl) ∙ h)
    spawner (ask.Poll mask) h = by (oldest_in mask (pending_at t j)) h
      where
        by : (r : Option (ℕ × ℤ × ℤ)) → spawns (poll_entry p t k mask r ∷ []) u ≡ true → ⊥
        by None h = clash h
        by (Some r) h = clash h
    spawner ask.Yield h = clash h
    spawner ask.Slice h = clash h
    spawner (ask.Print n items) h = clash (sym (none_printed p t k (take n items)) ∙ h)
    spawner (ask.Read form) h = clash h
    spawner ask.Fail h = clash h
    spawner ask.Cluster h = clash (sym (none_or (nat_lt (cluster_count j) CLUSTERS) _ _ refl refl) ∙ h)
    spawner (ask.ClusterEnd c) h = clash (sym (none_or (not (is_in_use opts c j)) _ _ refl refl) ∙ h)
    spawner (ask.Processor c) h = clash (sym (none_or (nat_lt (processor_count opts j) PROCESSORS) _ _ refl refl) ∙ h)
    spawner (ask.ProcessorEnd q) h = clash h
    spawner (ask.Migrate c) h = clash h
    spawner (ask.Fault n) h = clash h

-- who has not ended had not before
or_first : (b c : Bool) → (b || c) ≡ false → b ≡ false
or_first true c g = absurd (cc)
or_first false c g = refl

pub ended_before : (t : ℕ) (j : Journal) (a : List Entry) → has_ended t (j ++ a) ≡ false → has_ended t j ≡ false
ended_before t j [] h = ap (has_ended t) (sym (append-nil j)) ∙ h
ended_before t j (e ∷ a) h =
    or_first (has_ended t j) (ends t e.kind e) (sym (ended_push t j e) ∙ ended_before t (j ++ e ∷ []) a (ap (has_ended t) (append_assoc j (e ∷ []) a) ∙ h))

-- an answer of the form that a request asks for suits it
pub suits : (q : Request) (a : Answer) → IsForm (form_of_request q) a → (q ≡ ask.End → ⊥) → ((n : ℕ) → q ≡ ask.Fault n → ⊥) → Suits q a
suits (ask.Make n) (answer.Object o) h e f = tt
suits ask.Cluster (answer.Object o) h e f = tt
suits (ask.Processor c) (answer.Object o) h e f = tt
suits (ask.Accept o site mask) (answer.Clause k failed) h e f = tt
suits (ask.Empty o n) (answer.Number z) h e f = tt
suits (ask.Front o n) (answer.Number z) h e f = tt
suits ask.Fail (answer.Number z) h e f = tt
suits (ask.Read form) (answer.Value z failed) h e f = tt
suits (ask.Poll mask) (answer.Event n x y) h e f = tt
suits (ask.Poll mask) answer.Nothing h e f = tt
suits ask.End a h e f = absurd (e refl)
suits (ask.Fault n) a h e f = absurd (f n refl)
suits (ask.Made o) answer.Go h e f = tt
suits (ask.Spawn o) answer.Go h e f = tt
suits (ask.Call o m) answer.Go h e f = tt
suits (ask.Leave o failed) answer.Go h e f = tt
suits (ask.Wait o n z) answer.Go h e f = tt
suits (ask.Signal o n) answer.Go h e f = tt
suits (ask.SignalBlock o n) answer.Go h e f = tt
suits (ask.Raise o n x y) answer.Go h e f = tt
suits ask.Yield answer.Go h e f = tt
suits ask.Slice answer.Go h e f = tt
suits (ask.Print n items) answer.Go h e f = tt
suits (ask.ClusterEnd c) answer.Go h e f = tt
suits (ask.ProcessorEnd c) answer.Go h e f = tt
suits (ask.Migrate c) answer.Go h e f = tt
suits (ask.Gone o) answer.Go h e f = tt
suits _ _ h e f = absurd h
