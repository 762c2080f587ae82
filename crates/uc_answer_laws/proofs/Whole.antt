-- Each act keeps that answers suit, and so do runs.
use Rattle.std.proofs.Common.{◌≡◌, ℕ, ℤ, zero, suc, ◌==◌, ◌≤◌, ◌&&◌, ◌||◌, Bool, true, false, not, List, [], ◌∷◌, ◌++◌, Option, Some, None, map, take, length, refl, sym, ap, ◌∙◌, subst, append-nil, append_assoc, arith}
use Rattle.std.specs.Prelude.{pos, nat_lt}
use Rattle.std.proofs.lemmas.Bool.{eqb-true}
use Rattle.uc_tree.specs.Programs.{Site}
use Rattle.uc_tree.specs.declared.limits.TheConstants.{OBJECTS, TASKS, PENDING_EVENTS, CLUSTERS, PROCESSORS}
use Rattle.uc_tree.specs.SiteOffers.{clause_for, met, Met}
use Rattle.uc_entry.specs.declared.entry.Entry.{Entry}
use Rattle.uc_entry.specs.declared.entry.EntryKind.TheVariants as kind
use Rattle.uc_entry.specs.declared.entry.Options.{Options}
use Rattle.uc_entry.specs.declared.request.Answer.{Answer}
use Rattle.uc_entry.specs.declared.request.Answer.TheVariants as answer
use Rattle.uc_entry.specs.declared.request.Piece.{Piece}
use Rattle.uc_entry.specs.declared.request.Request.{Request}
use Rattle.uc_entry.specs.declared.request.Request.TheVariants as ask
use Rattle.uc_acts.specs.Journal.{Journal, Cost, no_cost, asking, inside, own_object, first_or_0, number, is_fault}
use Rattle.uc_acts.specs.Queues.{running, waiting, stacked, successor, next, is_nobody, cluster_count, processor_count, is_in_use}
use Rattle.uc_acts.specs.Known.{object_count, task_count, owner}
use Rattle.uc_acts.specs.Pending.{pending as pending_at, oldest_in}
use Rattle.uc_acts.specs.Doors.{OnStack, open_at, offered, offers, site_at, stack_at, last_call, blocked}
use Rattle.uc_acts.specs.Stations.{Running, Waits, Stacked, Blocked, times}
use Rattle.uc_acts.specs.Sound.{At, Unborn, mover, spot}
use Rattle.uc_acts.specs.Legal.{Legal}
use Rattle.uc_acts.specs.KernelRuns.{Fits}
use Rattle.uc_acts.specs.Acts.{admit, push, truth, admission, met_by, called, took, accepted, accept_entry, signalled, handed, front, poll_entry, prints, or_fault, left_by, row, is_faulty}
use Rattle.uc_acts.proofs.Seats.{open_after, stacked_after}
use Rattle.uc_acts.proofs.SoundLemmas.{self_test, nothing_open, all_kept, all_kept_nil}
use Rattle.uc_acts.proofs.Moves.{counted_at, first_at, apart, met_counts, one_inside, open_now, stacked_now, spot_moves, spot_stays}
use Rattle.uc_acts.proofs.Rows.{Lawful, at_run, others_stay}
use Rattle.uc_acts.proofs.Stood.{stands_same, last_same}
use Rattle.uc_answer_laws.specs.Suiting.{JustGo, IsForm, asked_form}
use Rattle.uc_answer_laws.proofs.Told.{Others, SpotSuits}
use Rattle.uc_answer_laws.proofs.Stacks.{pending, none, off_all}
use Rattle.uc_answer_laws.proofs.Steps.{Kept, admit_step, given_up, counted_clause}
use Rattle.uc_answer_laws.proofs.Rows.{plain, pushed, waits_go, blocked_go, all_met, let_in, meets, goes_on, found_clause, found_call}

behind : (sites : List Site) (j : Journal) (e : Entry) (a : List Entry) → Kept sites none ((j ++ e ∷ []) ++ a) → Kept sites none (j ++ e ∷ a)
behind sites j e a k = subst (Kept sites none) (append_assoc j (e ∷ []) a) k

same : (sites : List Site) (j : Journal) → Kept sites none j → Kept sites none (j ++ [])
same sites j k = subst (Kept sites none) (sym (append-nil j)) k

prints_kept : (sites : List Site) (p t : ℕ) (items : List Piece) (k : Cost) (j : Journal) → Kept sites none j → spot t j ≡ At (Running p) → Lawful j (prints p t k items) → Kept sites none (j ++ prints p t k items)
prints_kept sites p t [] k j h at l = same sites j h
prints_kept sites p t (x ∷ items) k j h at l =
    let e = asking kind.Print p t k 0 (pos x.form) x.value in
    behind sites j e (prints p t no_cost items) (prints_kept sites p t items no_cost (j ++ e ∷ []) (plain sites e j p at l.0 (λ u a f. absurd f) (λ f. absurd (cc f)) h) (spot_stays j e t refl ∙ at) l.1)

module _ (opts : Options) (sites : List Site) (input : List ℕ) (j : Journal) (p t : ℕ) (k : Cost) (line : ℕ) (h : Kept sites none j) (runs : running p j ≡ t ∷ []) where
  at : spot t j ≡ At (Running p)
  at = at_run opts sites input j p t k line h.sound runs

  -- what fails would be a fault
  or_kept : (b : Bool) (e f : Entry) → is_fault f.kind ≡ true → is_faulty (or_fault b e f) ≡ false → (Legal e j → Kept sites none (j ++ e ∷ [])) → Lawful j (or_fault b e f) → Kept sites none (j ++ or_fault b e f)
  or_kept true e f q n g l = g l.0
  or_kept false e f q n g l = absurd (cc)

  -- who goes out of an object, and who is let in then
  module _ (e : Entry) (out : Kept sites none (j ++ e ∷ [])) (shut : open_at e.object (j ++ e ∷ []) ≡ []) (stays : stacked e.object (j ++ e ∷ []) ≡ stacked e.object j) (only : (v : ℕ) → mover e.kind e v ≡ true → v ≡ t) where
    abbrev i : Journal
    i = j ++ e ∷ []

    next_kept : (ss : List ℕ) (ws : List (ℕ × ℕ)) → stacked e.object j ≡ ss → waiting e.object j ≡ ws → Lawful i (admission sites p e.object i (successor ss ws)) → Kept sites none (i ++ admission sites p e.object i (successor ss ws))
    next_kept [] [] a b l = same sites i out
    next_kept [] (w ∷ ws) a b l =
        let there = first_at j h.sound (Waits e.object) w.0 (map (λ x. x.0) ws) (ap (map (λ x. x.0)) b) in
        let now = others_stay opts sites input j p t k line h.sound runs e w.0 (Waits e.object) only there (λ f. cc) in
        let_in sites i p w.0 e.object 2 false refl l.0 out shut (waits_go sites none i w.0 e.object out now)
    next_kept (u ∷ us) ws a b l =
        let self = self_test u in
        let q : map (λ (s : OnStack). s.task) (stack_at sites e.object i) ≡ u ∷ us = out.stood.tasks e.object ∙ stays ∙ a in
        let n : times u (map (λ (s : OnStack). s.task) (stack_at sites e.object i)) ≡ suc (times u us) = ap (times u) q ∙ simp self in
        admit_step sites none i p u e.object 3 _ _ l.0 out (λ v f. refl) (given_up i u (times u us) _ (stack_at sites e.object i) (all_met sites i e.object out shut) n) (off_all i u (stack_at sites e.object i) (all_met sites i e.object out shut))

  left : (e : Entry) → inside e.object j ≡ t ∷ [] → open_after e.kind e (open_at e.object j) ≡ open_at e.object j → stacked_after e.kind e (stacked e.object j) ≡ stacked e.object j → ((v : ℕ) → mover e.kind e v ≡ true → v ≡ t) → (Legal e j → Kept sites none (j ++ e ∷ [])) → Lawful j (left_by sites j p e.object e) → Kept sites none (j ++ left_by sites j p e.object e)
  left e i opened stack only g l =
      let shut : open_at e.object (j ++ e ∷ []) ≡ [] = open_now j e ∙ opened ∙ nothing_open (inside e.object j) (open_at e.object j) (stacked e.object j) t (h.sound.doors e.object) i in
      behind sites j e (admission sites p e.object (j ++ e ∷ []) (next e.object j)) (next_kept e (g l.0) shut (stacked_now j e ∙ stack) only (stacked e.object j) (waiting e.object j) refl refl l.1)

  -- a call
  module _ (o m : ℕ) where
    abbrev call : Entry
    call = asking kind.Call p t k o (pos m) (pos 0)

    abbrev ic : Journal
    ic = j ++ call ∷ []

    spot_now : spot t ic ≡ At (Waits o)
    spot_now = spot_moves j call t (self_test t)

    open_still : open_at o ic ≡ open_at o j
    open_still = open_now j call ∙ all_kept_nil (open_at o j)

    last_now : last_call o ic t ≡ Some m
    last_now = let self = self_test t in last_same o j call t (self_test o) ∙ simp self

    module _ (c : Kept sites none ic) (a : Entry) (rest : List Entry) (opened : open_at o j ≡ a ∷ rest) where
      flag : not (is_nobody (open_at o ic)) ≡ true
      flag = ap (λ l. not (is_nobody l)) (open_still ∙ opened)

      met_kept : (m' : ℕ) (x : Option ℕ) → m ≡ m' → clause_for (offered sites a) m' ≡ x → Lawful ic (met_by p t o a.task m' x) → Kept sites none (ic ++ met_by p t o a.task m' x)
      met_kept m' None q f l = same sites ic c
      met_kept zero (Some d) q f l =
          let up = c.stood.opened o a rest (open_still ∙ opened) in
          behind sites ic (admit p a.task o 3 d) (push p t o ∷ []) (pushed sites (ic ++ admit p a.task o 3 d ∷ []) p t o l.1.0 (goes_on sites ic p o d (record { task = a.task; offers = offered sites a; clause = 0; met = None; failed = false }) up.below l.0 c flag up.top (counted_clause sites (number a.a) (number a.b) 0 d f)))
      met_kept (suc m') (Some d) q f l =
          let up = c.stood.opened o a rest (open_still ∙ opened) in
          let there : spot a.task ic ≡ At (Stacked o) = first_at ic c.sound (Stacked o) a.task (map (λ (s : OnStack). s.task) up.below) (sym (c.stood.tasks o) ∙ ap (map (λ (s : OnStack). s.task)) up.top) in
          meets sites none ic p t o (suc m') d (record { task = a.task; offers = offered sites a; clause = 0; met = None; failed = false }) up.below l.0 c (λ v g. refl) flag (waits_go sites none ic t o c spot_now) up.top (apart ic a.task t (At (Stacked o)) (At (Waits o)) there spot_now (λ f. cc)) (last_now ∙ ap (λ v. Some v) q) f (counted_clause sites (number a.a) (number a.b) (suc m') d f)

    called_kept : Kept sites none ic → (within : List ℕ) (opened : List Entry) → open_at o j ≡ opened → Lawful ic (called sites p t o m within opened) → Kept sites none (ic ++ called sites p t o m within opened)
    called_kept c [] [] b l = let_in sites ic p t o 0 false refl l.0 c (open_still ∙ b) (waits_go sites none ic t o c spot_now)
    called_kept c (x ∷ xs) [] b l = same sites ic c
    called_kept c [] (a ∷ rest) b l = met_kept c a rest b m (clause_for (offered sites a) m) refl refl l
    called_kept c (x ∷ xs) (a ∷ rest) b l = met_kept c a rest b m (clause_for (offered sites a) m) refl refl l

  -- an accept
  module _ (o site mask : ℕ) where
    one : (b : Bool) (d : ℕ) → Legal (accept_entry p t k o site mask b d) j → Kept sites (pending kind.Accept (accept_entry p t k o site mask b d)) (j ++ accept_entry p t k o site mask b d ∷ [])
    one b d l = plain sites (accept_entry p t k o site mask b d) j p at l (λ u a f. absurd f) (λ f. absurd (cc f)) h

    took_kept : (b : Bool) (member u : ℕ) → spot u j ≡ At (Waits o) → last_call o j u ≡ Some member → (d : ℕ) × (clause_for (offers sites site mask) member ≡ Some d) → Lawful j (took p t k o site mask b member u) → Kept sites none (j ++ took p t k o site mask b member u)
    took_kept b zero u there last c l =
        behind sites j (accept_entry p t k o site mask b 3) (push p u o ∷ []) (pushed sites (j ++ accept_entry p t k o site mask b 3 ∷ []) p u o l.1.0 (one b 3 l.0))
    took_kept b (suc member) u there last c l =
        let e = accept_entry p t k o site mask b 1 in
        let i = j ++ e ∷ [] in
        let now : spot u i ≡ At (Waits o) = others_stay opts sites input j p t k line h.sound runs e u (Waits o) (λ v g. acceptor v g) there (λ f. cc) in
        let flag : (pending kind.Accept e o || not (is_nobody (open_at o i))) ≡ true = let self = self_test o in ap (λ b. b || not (is_nobody (open_at o i))) self in
        behind sites j e (admit p u o 1 0 ∷ []) (meets sites (pending kind.Accept e) i p u o (suc member) c.0 (record { task = t; offers = offers sites site mask; clause = 0; met = None; failed = false }) (stack_at sites o j) l.1.0 (one b 1 l.0) (λ v g. g) flag (waits_go sites (pending kind.Accept e) i u o (one b 1 l.0) now) (stands_same sites o j e (self_test o)) (apart j t u (At (Running p)) (At (Waits o)) at there (λ f. cc)) (last_same o j e u (self_test o) ∙ last) c.1 (counted_clause sites site mask (suc member) c.0 c.1))
      where
        acceptor : (v : ℕ) → ((v == t) && true) ≡ true → v ≡ t
        acceptor v g = by (v == t) refl g
          where
            by : (b : Bool) → (v == t) ≡ b → (b && true) ≡ true → v ≡ t
            by true f g = eqb-true v t f
            by false f g = absurd (cc)

    accepted_kept : (b : Bool) (x : Option Met) → met (offers sites site mask) (waiting o j) ≡ x → Lawful j (accepted p t k o site mask b x) → Kept sites none (j ++ accepted p t k o site mask b x)
    accepted_kept true None f l = one true 2 l.0
    accepted_kept false None f l = one false 0 l.0
    accepted_kept b (Some x) f l =
        let n = met_counts (offers sites site mask) (waiting o j) x f in
        took_kept b x.member x.task (counted_at j h.sound (Waits o) x.task n.0 n.1) (found_call (last_call o j) (offers sites site mask) (waiting o j) x (h.stood.calls o) f) (found_clause (offers sites site mask) (waiting o j) x f) l

  -- signals
  module _ (o c : ℕ) (i : inside o j ≡ t ∷ []) where
    signalled_kept : (ws : List (ℕ × ℤ)) → Lawful j (signalled p t k o c ws) → Kept sites none (j ++ signalled p t k o c ws)
    signalled_kept [] l = plain sites (asking kind.Signal p t k o (pos c) (pos 0)) j p at l.0 (λ u a f. absurd f) (λ f. absurd (cc f)) h
    signalled_kept (w ∷ ws) l =
        let e = asking kind.Signal p t k o (pos c) (pos 1) in
        behind sites j e (push p w.0 o ∷ []) (pushed sites (j ++ e ∷ []) p w.0 o l.1.0 (plain sites e j p at l.0 (λ u a f. absurd f) (λ f. absurd (cc f)) h))

    handed_kept : (ws : List (ℕ × ℤ)) → blocked o c j ≡ ws → Lawful j (handed p t k o c ws) → Kept sites none (j ++ handed p t k o c ws)
    handed_kept [] b l = plain sites (asking kind.SignalBlock p t k o (pos c) (pos 0)) j p at l.0 (λ u a f. absurd f) (λ f. absurd (cc f)) h
    handed_kept (w ∷ ws) b l =
        let e = asking kind.SignalBlock p t k o (pos c) (pos 1) in
        let out = plain sites e j p at l.0 (λ u a f. absurd f) (λ f. absurd (cc f)) h in
        let there = first_at j h.sound (Blocked o c) w.0 (map (λ x. x.0) ws) (ap (map (λ x. x.0)) b) in
        let now = others_stay opts sites input j p t k line h.sound runs e w.0 (Blocked o c) (λ v g. signaller v g) there (λ f. cc) in
        let shut : open_at o (j ++ e ∷ []) ≡ [] = open_now j e ∙ all_kept_nil (open_at o j) ∙ nothing_open (inside o j) (open_at o j) (stacked o j) t (h.sound.doors o) i in
        behind sites j e (admit p w.0 o 4 0 ∷ []) (let_in sites (j ++ e ∷ []) p w.0 o 4 false refl l.1.0 out shut (blocked_go sites none (j ++ e ∷ []) w.0 o c out now))
      where
        signaller : (v : ℕ) → ((v == t) && true) ≡ true → v ≡ t
        signaller v g = by (v == t) refl g
          where
            by : (b : Bool) → (v == t) ≡ b → (b && true) ≡ true → v ≡ t
            by true f g = eqb-true v t f
            by false f g = absurd (cc)

  -- one entry, which tells nobody else
  abbrev single : (e : Entry) → Legal e j → ((u : ℕ) (a : Answer) → Others e.kind u e a → IsForm (asked_form u j) a) → (e.kind ≡ kind.Admit → ⊥) → spot e.task j ≡ At (Running p) → Kept sites (pending e.kind e) (j ++ e ∷ [])
  single e l outside n there = plain sites e j p there l outside n h

  born_go : (u : ℕ) (a : Answer) → (u ≡ task_count j) × (a ≡ answer.Go) → IsForm (asked_form u j) a
  born_go u a q =
      let new : spot u j ≡ Unborn = h.sound.few u (let le : task_count j ≤ u = omega (arith, q.0) in le) in
      let form : asked_form u j ≡ JustGo = subst (λ P. SpotSuits P (asked_form u j)) new (h.suits.spots u) in
      subst (IsForm (asked_form u j)) (sym q.1) (subst (λ f. IsForm f answer.Go) (sym form) tt)

  pub row_kept : (r : Request) → Fits opts sites j t r → is_faulty (row opts sites input j p t k line r) ≡ false → Lawful j (row opts sites input j p t k line r) → Kept sites none (j ++ row opts sites input j p t k line r)
  row_kept (ask.Make class) f n l = or_kept (nat_lt (object_count j) OBJECTS) _ _ refl n (λ l. single _ l (λ u a f. absurd f) (λ f. absurd (cc f)) at) l
  row_kept (ask.Made o) f n l =
      left (asking kind.Made p t k o (pos 0) (pos 0)) (one_inside j o t h.sound f.inside) (all_kept_nil (open_at o j)) (all_kept (stacked o j)) (λ v g. absurd (cc g)) (λ l. single _ l (λ u a f. absurd f) (λ f. absurd (cc f)) at) l
  row_kept (ask.Leave o failed) f n l =
      left (asking kind.Leave p t k o (truth failed) (pos 0)) (one_inside j o t h.sound f.inside) (all_kept_nil (open_at o j)) (all_kept (stacked o j)) (λ v g. absurd (cc g)) (λ l. single _ l (λ u a f. absurd f) (λ f. absurd (cc f)) at) l
  row_kept (ask.Wait o c m) f n l =
      left (asking kind.Wait p t k o (pos c) m) (one_inside j o t h.sound f.inside) (all_kept_nil (open_at o j)) (all_kept (stacked o j)) (λ v g. eqb-true v t g) (λ l. single _ l (λ u a f. absurd f) (λ f. absurd (cc f)) at) l
  row_kept ask.End f n l =
      left (asking kind.End p t k (own_object t j) (pos 0) (pos 0)) (one_inside j (own_object t j) t h.sound f.inside) (all_kept_nil (open_at (own_object t j) j)) (all_kept (stacked (own_object t j) j)) (λ v g. eqb-true v t g) (λ l. single _ l (λ u a f. absurd f) (λ f. absurd (cc f)) at) l
  row_kept (ask.Gone o) f n l = single _ l.0 (λ u a f. absurd f) (λ f. absurd (cc f)) at
  row_kept (ask.Spawn o) f n l = or_kept (nat_lt (task_count j) TASKS) _ _ refl n (λ l. single _ l born_go (λ f. absurd (cc f)) at) l
  row_kept (ask.Call o m) f n l =
      behind sites j (call o m) (called sites p t o m (inside o j) (open_at o j)) (called_kept o m (single (call o m) l.0 (λ u a f. absurd f) (λ f. absurd (cc f)) at) (inside o j) (open_at o j) refl l.1)
  row_kept (ask.Accept o site mask) f n l = accepted_kept o site mask (site_at sites site).has_else (met (offers sites site mask) (waiting o j)) refl l
  row_kept (ask.Signal o c) f n l = signalled_kept o c (one_inside j o t h.sound f.inside) (blocked o c j) l
  row_kept (ask.SignalBlock o c) f n l = handed_kept o c (one_inside j o t h.sound f.inside) (blocked o c j) refl l
  row_kept (ask.Empty o c) f n l = single _ l.0 (λ u a f. absurd f) (λ f. absurd (cc f)) at
  row_kept (ask.Front o c) f n l = by (blocked o c j) n l
    where
      by : (ws : List (ℕ × ℤ)) → is_faulty (front p t k line o c ws) ≡ false → Lawful j (front p t k line o c ws) → Kept sites none (j ++ front p t k line o c ws)
      by [] n l = absurd (cc n)
      by (w ∷ ws) n l = single _ l.0 (λ u a f. absurd f) (λ f. absurd (cc f)) at
  row_kept (ask.Raise o event x y) f n l =
      or_kept (nat_lt (length (pending_at (first_or_0 (owner o j)) j)) PENDING_EVENTS) _ _ refl n (λ l. single _ l (λ u a f. absurd f) (λ f. absurd (cc f)) at) l
  row_kept (ask.Poll mask) f n l = by (oldest_in mask (pending_at t j)) l
    where
      by : (r : Option (ℕ × ℤ × ℤ)) → Lawful j (poll_entry p t k mask r ∷ []) → Kept sites none (j ++ poll_entry p t k mask r ∷ [])
      by None l = single _ l.0 (λ u a f. absurd f) (λ f. absurd (cc f)) at
      by (Some r) l = single _ l.0 (λ u a f. absurd f) (λ f. absurd (cc f)) at
  row_kept ask.Yield f n l = single _ l.0 (λ u a f. absurd f) (λ f. absurd (cc f)) at
  row_kept ask.Slice f n l = single _ l.0 (λ u a f. absurd f) (λ f. absurd (cc f)) at
  row_kept (ask.Print m items) f n l = prints_kept sites p t (take m items) k j h at l
  row_kept (ask.Read form) f n l = single _ l.0 (λ u a f. absurd f) (λ f. absurd (cc f)) at
  row_kept ask.Fail f n l = single _ l.0 (λ u a f. absurd f) (λ f. absurd (cc f)) at
  row_kept ask.Cluster f n l = or_kept (nat_lt (cluster_count j) CLUSTERS) _ _ refl n (λ l. single _ l (λ u a f. absurd f) (λ f. absurd (cc f)) at) l
  row_kept (ask.ClusterEnd c) f n l = or_kept (not (is_in_use opts c j)) _ _ refl n (λ l. single _ l (λ u a f. absurd f) (λ f. absurd (cc f)) at) l
  row_kept (ask.Processor c) f n l =
      or_kept (nat_lt (processor_count opts j) PROCESSORS) _ _ refl n (λ l. single _ l (λ u a f. absurd f) (λ f. absurd (cc f)) at) l
  row_kept (ask.ProcessorEnd q) f n l = single _ l.0 (λ u a f. absurd f) (λ f. absurd (cc f)) at
  row_kept (ask.Migrate c) f n l = single _ l.0 (λ u a f. absurd f) (λ f. absurd (cc f)) at
  row_kept (ask.Fault m) f n l = absurd (cc n)
