-- The stack with its clauses, entry by entry.
use Rattle.std.proofs.Common.{◌≡◌, ℕ, suc, ◌==◌, Bool, true, false, cond, not, List, [], ◌∷◌, ◌++◌, Option, Some, None, map, refl, sym, ap, ◌∙◌, subst, append-nil}
use Rattle.std.specs.Option.{option_to_list}
use Rattle.std.specs.List.{filter, fold}
use Rattle.std.proofs.lemmas.Bool.{eqb-true, eq-eqb}
use Rattle.std.proofs.lemmas.List.Sums.{fold_push}
use Rattle.uc_entry.specs.declared.entry.Entry.{Entry}
use Rattle.uc_entry.specs.declared.entry.EntryKind.{EntryKind}
use Rattle.uc_entry.specs.declared.entry.EntryKind.TheVariants as kind
use Rattle.uc_acts.specs.Journal.{Journal, inside, entries_at, holds, number, is_task}
use Rattle.uc_acts.specs.Queues.{waiting, stacked, stacks}
use Rattle.uc_tree.specs.Programs.{Site}
use Rattle.uc_acts.specs.Doors.{OnStack, open_at, offered, stack_at, stack_after, put_top, taken_off, admitted_past, met_top, last_call, last_called, last_from, told_from, left_by_task}
use Rattle.uc_acts.specs.Stations.{Waits, times, tasks_at}
use Rattle.uc_acts.specs.Sound.{mover, DoorOk, Sound, Each, IsOffering, Stood}
use Rattle.uc_acts.specs.Legal.{DoorFit, Legal, removes}
use Rattle.uc_acts.proofs.Seats.{at_push, at_other, open_after, stacked_after, waiting_after, open_other, open_same, stacked_other, stacked_same, waiting_other, waiting_same}
use Rattle.uc_acts.proofs.SoundLemmas.{nothing_open, self_test, all_kept, all_kept_nil, none_kept}

-- the last call of each task

last_from_push : (on : ℕ → Option ℕ) (es : List Entry) (e : Entry) → last_from on (es ++ e ∷ []) ≡ last_called (last_from on es) e.kind e
last_from_push on [] e = refl
last_from_push on (x ∷ es) e = last_from_push (last_called on x.kind x) es e

pub last_other : (o : ℕ) (j : Journal) (e : Entry) (t : ℕ) → (e.object == o) ≡ false → last_call o (j ++ e ∷ []) t ≡ last_call o j t
unfolding last_call
last_other o j e t h = ap (λ es. last_from (λ u. None) es t) (at_other o j e h)

pub last_same : (o : ℕ) (j : Journal) (e : Entry) (t : ℕ) → (e.object == o) ≡ true → last_call o (j ++ e ∷ []) t ≡ last_called (last_call o j) e.kind e t
unfolding last_call
last_same o j e t h =
    ap (λ es. last_from (λ u. None) es t) (at_push o j e true h) ∙ ap (λ f. f t) (last_from_push (λ u. None) (entries_at o j) e)

-- a task's last call is that of no entry but its own
last_kept : (k : EntryKind) (e : Entry) (on : ℕ → Option ℕ) (t : ℕ) → (t == e.task) ≡ false → last_called on k e t ≡ on t
last_kept kind.Call e on t h = simp h
last_kept k e on t h = refl

pub last_stays : (o : ℕ) (j : Journal) (e : Entry) (t : ℕ) → (t == e.task) ≡ false → last_call o (j ++ e ∷ []) t ≡ last_call o j t
last_stays o j e t h = by (e.object == o) refl
  where
    by : (b : Bool) → (e.object == o) ≡ b → last_call o (j ++ e ∷ []) t ≡ last_call o j t
    by true g = last_same o j e t g ∙ last_kept e.kind e (last_call o j) t h
    by false g = last_other o j e t g

-- the stack with its clauses

told_push : (on : ℕ → Option ℕ) (es : List Entry) (e : Entry) → told_from on (es ++ e ∷ []) ≡ told_from on es ++ (e, last_from on es e.task) ∷ []
told_push on [] e = refl
told_push on (x ∷ es) e = ap (λ l. (x, on x.task) ∷ l) (told_push (last_called on x.kind x) es e)

pub stands_other : (sites : List Site) (o : ℕ) (j : Journal) (e : Entry) → (e.object == o) ≡ false → stack_at sites o (j ++ e ∷ []) ≡ stack_at sites o j
unfolding stack_at
stands_other sites o j e h =
    ap (λ es. fold (λ ss x. stack_after sites x.0.kind x.0 x.1 ss) [] (told_from (λ t. None) es)) (at_other o j e h)

pub stands_same : (sites : List Site) (o : ℕ) (j : Journal) (e : Entry) → (e.object == o) ≡ true → stack_at sites o (j ++ e ∷ []) ≡ stack_after sites e.kind e (last_call o j e.task) (stack_at sites o j)
unfolding stack_at last_call
stands_same sites o j e h =
    let step : List OnStack → Entry × Option ℕ → List OnStack = λ ss x. stack_after sites x.0.kind x.0 x.1 ss in
    ap (λ es. fold step [] (told_from (λ t. None) es)) (at_push o j e true h) ∙ ap (fold step []) (told_push (λ t. None) (entries_at o j) e) ∙ fold_push step [] (told_from (λ t. None) (entries_at o j)) (e, last_from (λ u. None) (entries_at o j) e.task)

-- its tasks are those of the stack

tasks_met : (t : ℕ) (m : Option ℕ) (ss : List OnStack) → map (λ s. s.task) (met_top t m ss) ≡ map (λ s. s.task) ss
tasks_met t None ss = refl
tasks_met t (Some m) [] = refl
tasks_met t (Some m) (s ∷ ss) = refl

tasks_past : (b : Bool) (t : ℕ) (m : Option ℕ) (ss : List OnStack) → map (λ s. s.task) (admitted_past b t m ss) ≡ map (λ s. s.task) ss
tasks_past true t m ss = tasks_met t m ss
tasks_past false t m ss = refl

tasks_left : (t : ℕ) (b : Bool) (ss : List OnStack) → map (λ s. s.task) (map (left_by_task t b) ss) ≡ map (λ s. s.task) ss
tasks_left t b [] = refl
tasks_left t b (s ∷ ss) = by (is_task t s.met) (tasks_left t b ss)
  where
    by : (c : Bool) → map (λ s. s.task) (map (left_by_task t b) ss) ≡ map (λ s. s.task) ss → (cond c (record s { met = None; failed = b }) s).task ∷ map (λ s. s.task) (map (left_by_task t b) ss) ≡ s.task ∷ map (λ s. s.task) ss
    by true ih = ap (λ l. s.task ∷ l) ih
    by false ih = ap (λ l. s.task ∷ l) ih

pub flip : (a b : ℕ) (c : Bool) → (a == b) ≡ c → (b == a) ≡ c
flip a b true h = eq-eqb b a (sym (eqb-true a b h))
flip a b false h = by (b == a) refl
  where
    by : (c : Bool) → (b == a) ≡ c → (b == a) ≡ false
    by false g = g
    by true g = absurd (no_both (a == b) (eq-eqb a b (sym (eqb-true b a g))) h)
      where
        no_both : (b : Bool) → b ≡ true → b ≡ false → ⊥
        no_both b t f = cc

tasks_off : (t : ℕ) (ss : List OnStack) → map (λ s. s.task) (taken_off t ss) ≡ filter (λ u. not (u == t)) (map (λ s. s.task) ss)
tasks_off t [] = refl
tasks_off t (s ∷ ss) = by (tasks_off t ss) (s.task == t) refl
  where
    by : map (λ s. s.task) (taken_off t ss) ≡ filter (λ u. not (u == t)) (map (λ s. s.task) ss) → (b : Bool) → (s.task == t) ≡ b → map (λ s. s.task) (taken_off t (s ∷ ss)) ≡ filter (λ u. not (u == t)) (s.task ∷ map (λ s. s.task) ss)
    by ih true h = simp (h, ih)
    by ih false h = simp (h, ih)

tasks_top : (t : Option ℕ) (offers : List (ℕ × ℕ)) (ss : List OnStack) → map (λ s. s.task) (put_top t offers ss) ≡ option_to_list t ++ map (λ s. s.task) ss
tasks_top None offers ss = refl
tasks_top (Some t) offers ss = refl

tasks_after : (sites : List Site) (k : EntryKind) (e : Entry) (m : Option ℕ) (ss : List OnStack) → map (λ s. s.task) (stack_after sites k e m ss) ≡ stacked_after k e (map (λ s. s.task) ss)
tasks_after sites kind.Accept e m ss =
    tasks_top (stacks kind.Accept e) (offered sites e) ss ∙ ap (λ l. option_to_list (stacks kind.Accept e) ++ l) (sym (all_kept (map (λ s. s.task) ss)))
tasks_after sites kind.SignalBlock e m ss =
    tasks_top (stacks kind.SignalBlock e) [] ss ∙ ap (λ l. option_to_list (stacks kind.SignalBlock e) ++ l) (sym (all_kept (map (λ s. s.task) ss)))
tasks_after sites kind.Push e m ss =
    tasks_top (stacks kind.Push e) [] ss ∙ ap (λ l. option_to_list (stacks kind.Push e) ++ l) (sym (all_kept (map (λ s. s.task) ss)))
tasks_after sites kind.Admit e m ss =
    tasks_past (holds 1 e.a) e.task m (taken_off e.task ss) ∙ tasks_off e.task ss
tasks_after sites kind.Leave e m ss = tasks_left e.task (holds 1 e.a) ss ∙ sym (all_kept (map (λ s. s.task) ss))
tasks_after sites k e m ss = sym (all_kept (map (λ s. s.task) ss))

-- the acceptor of an open accept stays on top

no_open : {A : Type 0} (a : Entry) (rest opened : List Entry) → opened ≡ [] → opened ≡ a ∷ rest → A
no_open a rest opened h g = absurd (clash (sym h ∙ g))
  where
    clash : [] ≡ a ∷ rest → ⊥
    clash e = cc

offering_kept : (sites : List Site) (opened : List Entry) (ss : List OnStack) → ((a : Entry) (rest : List Entry) → opened ≡ a ∷ rest → IsOffering sites a ss) → (a : Entry) (rest : List Entry) → filter (λ x. true) opened ++ [] ≡ a ∷ rest → IsOffering sites a ss
offering_kept sites opened ss h a rest g = h a rest (sym (all_kept_nil opened) ∙ g)

module _ (sites : List Site) (e : Entry) (within : List ℕ) (opened : List Entry) (stack : List ℕ) (ss : List OnStack) (m : Option ℕ) (d : DoorOk within opened stack) (h : (a : Entry) (rest : List Entry) → opened ≡ a ∷ rest → IsOffering sites a ss) where
  offering_accept : (b : Bool) → holds 0 e.d ≡ b → opened ≡ [] → (a : Entry) (rest : List Entry) → open_after kind.Accept e opened ≡ a ∷ rest → IsOffering sites a (stack_after sites kind.Accept e m ss)
  offering_accept true g n a rest f =
      let now : open_after kind.Accept e opened ≡ e ∷ [] = ap (open_after kind.Accept e) n ∙ simp g in
      let same : a ∷ rest ≡ e ∷ [] = sym f ∙ now in
      let first : a ≡ e = cc in
      let up : stack_after sites kind.Accept e m ss ≡ record { task = e.task; offers = offered sites e; clause = 0; met = None; failed = false } ∷ ss = simp g in
      record { below = ss; top = up ∙ ap (λ x. record { task = x.task; offers = offered sites x; clause = 0; met = None; failed = false } ∷ ss) (sym first) }
  offering_accept false g n a rest f =
      no_open a rest (open_after kind.Accept e opened) (ap (open_after kind.Accept e) n ∙ simp g) f

  offering_shut : (k : EntryKind) → opened ≡ [] → open_after k e [] ≡ [] → (a : Entry) (rest : List Entry) → open_after k e opened ≡ a ∷ rest → IsOffering sites a (stack_after sites k e m ss)
  offering_shut k n g a rest f = no_open a rest (open_after k e opened) (ap (open_after k e) n ∙ g) f

  offering_step : (k : EntryKind) → DoorFit k e within opened → (a : Entry) (rest : List Entry) → open_after k e opened ≡ a ∷ rest → IsOffering sites a (stack_after sites k e m ss)
  offering_step kind.Accept f = offering_accept (holds 0 e.d) refl (nothing_open within opened stack e.task d f)
  offering_step kind.SignalBlock f = offering_shut kind.SignalBlock (nothing_open within opened stack e.task d f) refl
  offering_step kind.Push f = offering_shut kind.Push f refl
  offering_step kind.Leave f = offering_shut kind.Leave (nothing_open within opened stack e.task d f) refl
  offering_step kind.Admit f = λ a rest g. no_open a rest (open_after kind.Admit e opened) (none_kept opened) g
  offering_step k f = offering_kept sites opened ss h

-- those that wait

each_filter : {A : Type 0} (r : A → Type 0) (p : A → Bool) (xs : List A) → Each r xs → Each r (filter p xs)
each_filter r p [] h = tt
each_filter r p (x ∷ xs) h = by (each_filter r p xs h.1) (p x)
  where
    by : Each r (filter p xs) → (b : Bool) → Each r (cond b (x ∷ filter p xs) (filter p xs))
    by ih true = (h.0, ih)
    by ih false = ih

each_push : {A : Type 0} (r : A → Type 0) (xs : List A) (a : A) → Each r xs → r a → Each r (xs ++ a ∷ [])
each_push r [] a h q = (q, tt)
each_push r (x ∷ xs) a h q = (h.0, each_push r xs a h.1 q)

-- the last calls of tasks other than u are kept
each_kept : (o u : ℕ) (i j : Journal) (ws : List (ℕ × ℕ)) → ((t : ℕ) → (t == u) ≡ false → last_call o i t ≡ last_call o j t) → times u (map (λ w. w.0) ws) ≡ 0 → Each (λ w. last_call o j w.0 ≡ Some w.1) ws → Each (λ w. last_call o i w.0 ≡ Some w.1) ws
each_kept o u i j [] h z e = tt
each_kept o u i j (w ∷ ws) h z e = by (each_kept o u i j ws h) (u == w.0) refl z
  where
    by : (times u (map (λ w. w.0) ws) ≡ 0 → Each (λ w. last_call o j w.0 ≡ Some w.1) ws → Each (λ w. last_call o i w.0 ≡ Some w.1) ws) → (b : Bool) → (u == w.0) ≡ b → cond (u == w.0) (suc (times u (map (λ w. w.0) ws))) (times u (map (λ w. w.0) ws)) ≡ 0 → Each (λ w. last_call o i w.0 ≡ Some w.1) (w ∷ ws)
    by ih true g z = absurd (not_zero (simp g at z))
      where
        not_zero : suc (times u (map (λ w. w.0) ws)) ≡ 0 → ⊥
        not_zero e = cc
    by ih false g z = (h w.0 (flip u w.0 false g) ∙ e.0, ih (simp g at z) e.1)

each_same : (o : ℕ) (i j : Journal) (ws : List (ℕ × ℕ)) → ((t : ℕ) → last_call o i t ≡ last_call o j t) → Each (λ w. last_call o j w.0 ≡ Some w.1) ws → Each (λ w. last_call o i w.0 ≡ Some w.1) ws
each_same o i j [] h e = tt
each_same o i j (w ∷ ws) h e = (h w.0 ∙ e.0, each_same o i j ws h e.1)

calls_step : (k : EntryKind) (e : Entry) (o : ℕ) (i j : Journal) → ((t : ℕ) → last_call o i t ≡ last_called (last_call o j) k e t) → (mover k e e.task ≡ true → k ≡ kind.Call → times e.task (tasks_at (Waits o) j) ≡ 0) → Each (λ w. last_call o j w.0 ≡ Some w.1) (waiting o j) → Each (λ w. last_call o i w.0 ≡ Some w.1) (waiting_after k e (waiting o j))
calls_step kind.Call e o i j h z c =
    let self = self_test e.task in
    let others : (t : ℕ) → (t == e.task) ≡ false → last_call o i t ≡ last_call o j t = λ t n. h t ∙ simp n in
    let kept = each_kept o e.task i j (waiting o j) others (z self refl) c in
    rw (all_kept (waiting o j)) (each_push (λ w. last_call o i w.0 ≡ Some w.1) (waiting o j) (e.task, number e.a) kept (h e.task ∙ simp self))
calls_step kind.Admit e o i j h z c =
    rw (append-nil (filter (λ w. not (w.0 == e.task)) (waiting o j))) (each_filter (λ w. last_call o i w.0 ≡ Some w.1) (λ w. not (w.0 == e.task)) (waiting o j) (each_same o i j (waiting o j) h c))
calls_step kind.Push e o i j h z c =
    rw (append-nil (filter (λ w. not (w.0 == e.task)) (waiting o j))) (each_filter (λ w. last_call o i w.0 ≡ Some w.1) (λ w. not (w.0 == e.task)) (waiting o j) (each_same o i j (waiting o j) h c))
calls_step k e o i j h z c = rw (all_kept_nil (waiting o j)) (each_same o i j (waiting o j) h c)

module _ (sites : List Site) (e : Entry) (j : Journal) (s : Sound j) (l : Legal e j) (g : Stood sites j) where
  offering_by : (o : ℕ) (b : Bool) → (e.object == o) ≡ b → (a : Entry) (rest : List Entry) → open_at o (j ++ e ∷ []) ≡ a ∷ rest → IsOffering sites a (stack_at sites o (j ++ e ∷ []))
  offering_by o false h a rest f = rw (stands_other sites o j e h) (g.opened o a rest (sym (open_other o j e h) ∙ f))
  offering_by o true h a rest f =
      let same : e.object ≡ o = eqb-true e.object o h in
      let fit : DoorFit e.kind e (inside o j) (open_at o j) = subst (λ v. DoorFit e.kind e (inside v j) (open_at v j)) same l.door in
      rw (stands_same sites o j e h) (offering_step sites e (inside o j) (open_at o j) (stacked o j) (stack_at sites o j) (last_call o j e.task) (s.doors o) (g.opened o) e.kind fit a rest (sym (open_same o j e h) ∙ f))

  tasks_by : (o : ℕ) (b : Bool) → (e.object == o) ≡ b → map (λ s. s.task) (stack_at sites o (j ++ e ∷ [])) ≡ stacked o (j ++ e ∷ [])
  tasks_by o false h = ap (map (λ s. s.task)) (stands_other sites o j e h) ∙ g.tasks o ∙ sym (stacked_other o j e h)
  tasks_by o true h =
      ap (map (λ s. s.task)) (stands_same sites o j e h) ∙ tasks_after sites e.kind e (last_call o j e.task) (stack_at sites o j) ∙ ap (stacked_after e.kind e) (g.tasks o) ∙ sym (stacked_same o j e h)

  calls_by : (o : ℕ) (b : Bool) → (e.object == o) ≡ b → Each (λ w. last_call o (j ++ e ∷ []) w.0 ≡ Some w.1) (waiting o (j ++ e ∷ []))
  calls_by o false h = rw (waiting_other o j e h) (each_same o (j ++ e ∷ []) j (waiting o j) (λ t. last_other o j e t h) (g.calls o))
  calls_by o true h =
      rw (waiting_same o j e h) (calls_step e.kind e o (j ++ e ∷ []) j (λ t. last_same o j e t h) from_call (g.calls o))
    where
      from_call : mover e.kind e e.task ≡ true → e.kind ≡ kind.Call → times e.task (tasks_at (Waits o) j) ≡ 0
      from_call m k = s.seats e.task (Waits o) ∙ l.from e.task m (Waits o) (ap (λ x. removes (Waits o) x e) k)

  pub stood_step : Stood sites (j ++ e ∷ [])
  stood_step = record {
    tasks = λ o. tasks_by o (e.object == o) refl;
    opened = λ o. offering_by o (e.object == o) refl;
    calls = λ o. calls_by o (e.object == o) refl;
  }
