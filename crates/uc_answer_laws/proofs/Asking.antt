-- What an act asks is what its task has asked last.
use Rattle.std.proofs.Common.{◌≡◌, ℕ, ℤ, zero, suc, ◌==◌, Bool, true, false, cond, not, List, [], ◌∷◌, ◌++◌, Option, Some, None, take, length, refl, sym, ap, ◌∙◌, append-nil, append_assoc, arith}
use Rattle.std.specs.Prelude.{pos, nat_lt}
use Rattle.std.proofs.lemmas.Bool.{eq-eqb}
use Rattle.uc_tree.specs.Programs.{Site}
use Rattle.uc_tree.specs.declared.limits.TheConstants.{OBJECTS, TASKS, PENDING_EVENTS, CLUSTERS, PROCESSORS}
use Rattle.uc_tree.specs.SiteOffers.{clause_for, met, Met}
use Rattle.uc_entry.specs.declared.entry.Entry.{Entry}
use Rattle.uc_entry.specs.declared.entry.EntryKind.{EntryKind}
use Rattle.uc_entry.specs.declared.entry.EntryKind.TheVariants as kind
use Rattle.uc_entry.specs.declared.entry.Options.{Options}
use Rattle.uc_entry.specs.declared.request.Piece.{Piece}
use Rattle.uc_entry.specs.declared.request.Request.{Request}
use Rattle.uc_entry.specs.declared.request.Request.TheVariants as ask
use Rattle.uc_acts.specs.Journal.{Journal, Cost, cost, no_cost, asking, inside, own_object, first_or_0, is_fault}
use Rattle.uc_acts.specs.Queues.{waiting, next, cluster_count, processor_count, is_in_use}
use Rattle.uc_acts.specs.Known.{object_count, task_count, owner}
use Rattle.uc_acts.specs.Pending.{pending as pending_at, oldest_in}
use Rattle.uc_acts.specs.Answers.{asks}
use Rattle.uc_acts.specs.Doors.{open_at, offered, offers, site_at, blocked}
use Rattle.uc_acts.specs.KernelRuns.{Fits}
use Rattle.uc_acts.specs.Acts.{admit, push, fault, truth, admission, met_by, called, took, accepted, signalled, handed, front, poll_entry, prints, or_fault, row, is_faulty}
use Rattle.uc_acts.proofs.SoundLemmas.{self_test}
use Rattle.uc_acts.proofs.Rest.{settled_calm}
use Rattle.uc_acts.proofs.Living.{going_row}
use Rattle.uc_acts.proofs.Acting.{is_own, object_of, destroys, AllBy, by_act}
use Rattle.uc_answer_laws.specs.Suiting.{Form, JustGo, form_of, then_form, asked_form, form_of_request, LawAsking}
use Rattle.uc_answer_laws.proofs.Told.{form_push, no_both}
use Rattle.uc_answer_laws.proofs.Rows.{asks_task}

-- the form behind these entries
abbrev formed : ℕ → Form → List Entry → Form
formed t x [] = x
formed t x (e ∷ a) = formed t (then_form t x e) a

behind_all : (t : ℕ) (j : Journal) (a : List Entry) → asked_form t (j ++ a) ≡ formed t (asked_form t j) a
behind_all t j [] = ap (asked_form t) (append-nil j)
behind_all t j (e ∷ a) = ap (asked_form t) (sym (append_assoc j (e ∷ []) a)) ∙ behind_all t (j ++ e ∷ []) a ∙ ap (λ x. formed t x a) (form_push t j e)

-- of others

own_kind : (k : EntryKind) (e : Entry) (u : ℕ) → asks u k e ≡ true → is_own k ≡ true
own_kind kind.Begin e u h = absurd (cc)
own_kind kind.Dispatch e u h = absurd (cc)
own_kind kind.Admit e u h = absurd (cc)
own_kind kind.Push e u h = absurd (cc)
own_kind kind.Done e u h = absurd (cc)
own_kind kind.Deadlock e u h = absurd (cc)
own_kind kind.NoProcessor e u h = absurd (cc)
own_kind kind.Limit e u h = absurd (cc)
own_kind k e u h = refl

others_formed : (p t o : ℕ) (A : Type 0) (g : Bool) (u : ℕ) (x : Form) (a : List Entry) → (u == t) ≡ false → AllBy p t o A g a → formed u x a ≡ x
others_formed p t o A g u x [] h b = refl
others_formed p t o A g u x (e ∷ a) h b = ap (λ y. formed u y a) (by (asks u e.kind e) refl) ∙ others_formed p t o A g u x a h b.1
  where
    by : (c : Bool) → asks u e.kind e ≡ c → cond (asks u e.kind e) (form_of e.kind) x ≡ x
    by false f = simp f
    by true f =
        let q = asks_task e.kind e u f ∙ b.0.task (own_kind e.kind e u f) in
        no_both (u == t) (eq-eqb u t q) h

-- of who asks

module _ (t : ℕ) where
  abbrev Quiet : List Entry → Type 0
  Quiet [] = Unit {0}
  Quiet (e ∷ a) = (asks t e.kind e ≡ false) × Quiet a

  quiet_formed : (x : Form) (a : List Entry) → Quiet a → formed t x a ≡ x
  quiet_formed x [] h = refl
  quiet_formed x (e ∷ a) h = ap (λ y. formed t y a) (let f = h.0 in by (asks t e.kind e) f) ∙ quiet_formed x a h.1
    where
      by : (c : Bool) → c ≡ false → cond c (form_of e.kind) x ≡ x
      by false f = refl
      by true f = absurd (cc)

  first_formed : (f x : Form) (a : List Entry) → Quiet a → formed t (cond (t == t) f x) a ≡ f
  first_formed f x a h = let self = self_test t in quiet_formed (cond (t == t) f x) a h ∙ simp self

  quiet_admission : (sites : List Site) (p o : ℕ) (j : Journal) (x : Option (ℕ × ℕ)) → Quiet (admission sites p o j x)
  quiet_admission sites p o j None = tt
  quiet_admission sites p o j (Some n) = (refl, tt)

  quiet_met : (p u o a m : ℕ) (x : Option ℕ) → Quiet (met_by p u o a m x)
  quiet_met p u o a m None = tt
  quiet_met p u o a zero (Some c) = (refl, (refl, tt))
  quiet_met p u o a (suc m) (Some c) = (refl, tt)

  quiet_called : (sites : List Site) (p u o m : ℕ) (within : List ℕ) (opened : List Entry) → Quiet (called sites p u o m within opened)
  quiet_called sites p u o m [] [] = (refl, tt)
  quiet_called sites p u o m (x ∷ xs) [] = tt
  quiet_called sites p u o m [] (a ∷ rest) = quiet_met p u o a.task m (clause_for (offered sites a) m)
  quiet_called sites p u o m (x ∷ xs) (a ∷ rest) = quiet_met p u o a.task m (clause_for (offered sites a) m)

  prints_formed : (p : ℕ) (k : Cost) (items : List Piece) → formed t JustGo (prints p t k items) ≡ JustGo
  prints_formed p k [] = refl
  prints_formed p k (i ∷ is) = let self = self_test t in ap (λ y. formed t y (prints p t no_cost is)) (let q : cond (t == t) JustGo JustGo ≡ JustGo = simp self in q) ∙ prints_formed p no_cost is

module _ (opts : Options) (sites : List Site) (input : List ℕ) (j : Journal) (p t : ℕ) (k : Cost) (line : ℕ) (x : Form) where
  or_formed : (b : Bool) (e f : Entry) (g : Form) → is_fault f.kind ≡ true → is_faulty (or_fault b e f) ≡ false → formed t x (e ∷ []) ≡ g → formed t x (or_fault b e f) ≡ g
  or_formed true e f g q n h = h
  or_formed false e f g q n h = absurd (cc)

  took_formed : (o site mask : ℕ) (b : Bool) (m u : ℕ) → formed t x (took p t k o site mask b m u) ≡ form_of kind.Accept
  took_formed o site mask b zero u = first_formed t (form_of kind.Accept) x (push p u o ∷ []) (refl, tt)
  took_formed o site mask b (suc m) u = first_formed t (form_of kind.Accept) x (admit p u o 1 0 ∷ []) (refl, tt)

  accepted_formed : (o site mask : ℕ) (b : Bool) (y : Option Met) → formed t x (accepted p t k o site mask b y) ≡ form_of kind.Accept
  accepted_formed o site mask b (Some m) = took_formed o site mask b m.member m.task
  accepted_formed o site mask true None = first_formed t (form_of kind.Accept) x [] tt
  accepted_formed o site mask false None = first_formed t (form_of kind.Accept) x [] tt

  signalled_formed : (o c : ℕ) (ws : List (ℕ × ℤ)) → formed t x (signalled p t k o c ws) ≡ JustGo
  signalled_formed o c [] = first_formed t JustGo x [] tt
  signalled_formed o c (w ∷ ws) = first_formed t JustGo x (push p w.0 o ∷ []) (refl, tt)

  handed_formed : (o c : ℕ) (ws : List (ℕ × ℤ)) → formed t x (handed p t k o c ws) ≡ JustGo
  handed_formed o c [] = first_formed t JustGo x [] tt
  handed_formed o c (w ∷ ws) = first_formed t JustGo x (admit p w.0 o 4 0 ∷ []) (refl, tt)

  row_formed : (r : Request) → Fits opts sites j t r → is_faulty (row opts sites input j p t k line r) ≡ false → formed t x (row opts sites input j p t k line r) ≡ form_of_request r
  row_formed (ask.Make class) f n = or_formed (nat_lt (object_count j) OBJECTS) _ _ _ refl n (first_formed t _ x [] tt)
  row_formed (ask.Made o) f n = first_formed t _ x (admission sites p o (j ++ asking kind.Made p t k o (pos 0) (pos 0) ∷ []) (next o j)) (quiet_admission t sites p o (j ++ asking kind.Made p t k o (pos 0) (pos 0) ∷ []) (next o j))
  row_formed (ask.Leave o failed) f n = first_formed t _ x (admission sites p o (j ++ asking kind.Leave p t k o (truth failed) (pos 0) ∷ []) (next o j)) (quiet_admission t sites p o (j ++ asking kind.Leave p t k o (truth failed) (pos 0) ∷ []) (next o j))
  row_formed (ask.Wait o c m) f n = first_formed t _ x (admission sites p o (j ++ asking kind.Wait p t k o (pos c) m ∷ []) (next o j)) (quiet_admission t sites p o (j ++ asking kind.Wait p t k o (pos c) m ∷ []) (next o j))
  row_formed ask.End f n = first_formed t _ x (admission sites p (own_object t j) (j ++ asking kind.End p t k (own_object t j) (pos 0) (pos 0) ∷ []) (next (own_object t j) j)) (quiet_admission t sites p (own_object t j) (j ++ asking kind.End p t k (own_object t j) (pos 0) (pos 0) ∷ []) (next (own_object t j) j))
  row_formed (ask.Gone o) f n = first_formed t _ x [] tt
  row_formed (ask.Spawn o) f n = or_formed (nat_lt (task_count j) TASKS) _ _ _ refl n (first_formed t _ x [] tt)
  row_formed (ask.Call o m) f n = first_formed t _ x (called sites p t o m (inside o j) (open_at o j)) (quiet_called t sites p t o m (inside o j) (open_at o j))
  row_formed (ask.Accept o site mask) f n = accepted_formed o site mask (site_at sites site).has_else (met (offers sites site mask) (waiting o j))
  row_formed (ask.Signal o c) f n = signalled_formed o c (blocked o c j)
  row_formed (ask.SignalBlock o c) f n = handed_formed o c (blocked o c j)
  row_formed (ask.Empty o c) f n = first_formed t _ x [] tt
  row_formed (ask.Front o c) f n = by (blocked o c j) n
    where
      by : (ws : List (ℕ × ℤ)) → is_faulty (front p t k line o c ws) ≡ false → formed t x (front p t k line o c ws) ≡ form_of_request (ask.Front o c)
      by [] n = absurd (cc n)
      by (w ∷ ws) n = first_formed t _ x [] tt
  row_formed (ask.Raise o event y z) f n = or_formed (nat_lt (length (pending_at (first_or_0 (owner o j)) j)) PENDING_EVENTS) _ _ _ refl n (first_formed t _ x [] tt)
  row_formed (ask.Poll mask) f n = by (oldest_in mask (pending_at t j))
    where
      by : (r : Option (ℕ × ℤ × ℤ)) → formed t x (poll_entry p t k mask r ∷ []) ≡ form_of_request (ask.Poll mask)
      by None = first_formed t _ x [] tt
      by (Some r) = first_formed t _ x [] tt
  row_formed ask.Yield f n = first_formed t _ x [] tt
  row_formed ask.Slice f n = first_formed t _ x [] tt
  row_formed (ask.Print m items) f n = by m items f
    where
      by : (m : ℕ) (items : List Piece) → Fits opts sites j t (ask.Print m items) → formed t x (prints p t k (take m items)) ≡ JustGo
      by zero items f = let l = f.0 in absurd (omega (arith, l))
      by (suc m) [] f = let l = f.2 in absurd (omega (arith, l))
      by (suc m) (i ∷ is) f = let self = self_test t in ap (λ y. formed t y (prints p t no_cost (take m is))) (let q : cond (t == t) JustGo x ≡ JustGo = simp self in q) ∙ prints_formed t p no_cost (take m is)
  row_formed (ask.Read form) f n = first_formed t _ x [] tt
  row_formed ask.Fail f n = first_formed t _ x [] tt
  row_formed ask.Cluster f n = or_formed (nat_lt (cluster_count j) CLUSTERS) _ _ _ refl n (first_formed t _ x [] tt)
  row_formed (ask.ClusterEnd c) f n = or_formed (not (is_in_use opts c j)) _ _ _ refl n (first_formed t _ x [] tt)
  row_formed (ask.Processor c) f n = or_formed (nat_lt (processor_count opts j) PROCESSORS) _ _ _ refl n (first_formed t _ x [] tt)
  row_formed (ask.ProcessorEnd q) f n = first_formed t _ x [] tt
  row_formed (ask.Migrate c) f n = first_formed t _ x [] tt
  row_formed (ask.Fault m) f n = absurd (cc n)

pub law_asking : LawAsking
law_asking opts sites input j p t k asked r m o =
    let g = going_row opts sites input j p t k asked o in
    let rows = row opts sites input j p t (cost k asked.line) asked.line asked.request in
    let calm : is_faulty rows ≡ false = ap is_faulty (sym (settled_calm (fault p t no_cost 10 asked.line) j rows refl g.1)) ∙ g.1 in
    record {
      own = ap (λ a. asked_form t (j ++ a)) g.0 ∙ behind_all t j rows ∙ row_formed opts sites input j p t (cost k asked.line) asked.line (asked_form t j) asked.request m.fits calm;
      others = λ u h. behind_all u j _ ∙ others_formed p t (object_of t j asked.request) (Unit {0}) (destroys asked.request) u (asked_form u j) _ h (by_act opts sites input j p t k (Unit {0}) asked (λ f. tt));
    }
