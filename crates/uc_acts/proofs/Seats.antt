-- Each queue when an entry is appended.
use Rattle.std.proofs.Common.{◌≡◌, ℕ, ℤ, suc, ◌==◌, ◌+◌, Bool, true, false, cond, not, List, [], ◌∷◌, ◌++◌, Option, Some, None, map, reverse, refl, sym, ap, ◌∙◌, append-nil, arith}
use Rattle.std.specs.Option.{option_to_list}
use Rattle.std.specs.List.{filter}
use Rattle.std.proofs.lemmas.List.{map-id, reverse-append}
use Rattle.std.proofs.lemmas.List.Elements.{filter-append}
use Rattle.uc_entry.specs.declared.entry.Entry.{Entry}
use Rattle.uc_entry.specs.declared.entry.EntryKind.{EntryKind}
use Rattle.uc_acts.specs.Open.{still_open}
use Rattle.uc_acts.specs.Journal.{Journal, entries_at, inside, lets_in, moves}
use Rattle.uc_acts.specs.Queues.{Noted, noted, calls, takes, stacks, admits, waiting, stacked, readies, on_cluster, dispatches, ready, puts_on, takes_off, running}
use Rattle.uc_acts.specs.Doors.{blocks, blocked_at, open_at, opens, shuts}
use Rattle.uc_acts.specs.Stations.{Ready, Running, Waits, Stacked, Blocked, times, tasks_at}
use Rattle.uc_acts.specs.Acts.{dispatch}
use Rattle.std.proofs.lemmas.Bool.{eq-eqb}
use Rattle.uc_acts.proofs.OpenLemmas.{still_open_push}
use Rattle.uc_acts.proofs.Noted.{noted_at, noted_push}
use Rattle.uc_acts.proofs.Times.{times_push, times_push_in, times_append}

one_passes : {A : Type 0} (e : A) (b : Bool) (p : A → Bool) → p e ≡ b → filter p (e ∷ []) ≡ cond b (e ∷ []) []
one_passes e b p h = simp h

-- the entries at o
pub at_push : (o : ℕ) (j : Journal) (e : Entry) (b : Bool) → (e.object == o) ≡ b → entries_at o (j ++ e ∷ []) ≡ entries_at o j ++ cond b (e ∷ []) []
unfolding entries_at
at_push o j e b h =
    filter-append (λ x. x.object == o) j (e ∷ []) ∙ ap (λ l. filter (λ x. x.object == o) j ++ l) (one_passes e b (λ x. x.object == o) h)

pub at_other : (o : ℕ) (j : Journal) (e : Entry) → (e.object == o) ≡ false → entries_at o (j ++ e ∷ []) ≡ entries_at o j
at_other o j e h = at_push o j e false h ∙ append-nil (entries_at o j)

-- the filters of one object
abbrev pub inside_after : EntryKind → Entry → List ℕ → List ℕ
inside_after k e xs = filter (λ t. not (moves k e t)) xs ++ option_to_list (lets_in k e)

abbrev pub waiting_after : EntryKind → Entry → List (ℕ × ℕ) → List (ℕ × ℕ)
waiting_after k e xs = filter (λ w. not (takes k e w.0)) xs ++ option_to_list (calls k e)

abbrev pub open_after : EntryKind → Entry → List Entry → List Entry
open_after k e xs = filter (λ a. not (shuts k e)) xs ++ option_to_list (opens k e)

abbrev pub stacked_after : EntryKind → Entry → List ℕ → List ℕ
stacked_after k e xs = option_to_list (stacks k e) ++ filter (λ t. not (admits k e t)) xs

pub inside_other : (o : ℕ) (j : Journal) (e : Entry) → (e.object == o) ≡ false → inside o (j ++ e ∷ []) ≡ inside o j
unfolding inside
inside_other o j e h = ap (still_open _ _) (at_other o j e h)

pub inside_same : (o : ℕ) (j : Journal) (e : Entry) → (e.object == o) ≡ true → inside o (j ++ e ∷ []) ≡ inside_after e.kind e (inside o j)
unfolding inside
inside_same o j e h =
    ap (still_open (λ e. lets_in e.kind e) (λ e. moves e.kind e)) (at_push o j e true h) ∙ still_open_push _ _ (entries_at o j) e

pub waiting_other : (o : ℕ) (j : Journal) (e : Entry) → (e.object == o) ≡ false → waiting o (j ++ e ∷ []) ≡ waiting o j
unfolding waiting
waiting_other o j e h = ap (still_open _ _) (at_other o j e h)

pub waiting_same : (o : ℕ) (j : Journal) (e : Entry) → (e.object == o) ≡ true → waiting o (j ++ e ∷ []) ≡ waiting_after e.kind e (waiting o j)
unfolding waiting
waiting_same o j e h =
    ap (still_open (λ e. calls e.kind e) (λ e p. takes e.kind e p.0)) (at_push o j e true h) ∙ still_open_push _ _ (entries_at o j) e

pub open_other : (o : ℕ) (j : Journal) (e : Entry) → (e.object == o) ≡ false → open_at o (j ++ e ∷ []) ≡ open_at o j
unfolding open_at
open_other o j e h = ap (still_open _ _) (at_other o j e h)

pub open_same : (o : ℕ) (j : Journal) (e : Entry) → (e.object == o) ≡ true → open_at o (j ++ e ∷ []) ≡ open_after e.kind e (open_at o j)
unfolding open_at
open_same o j e h =
    ap (still_open (λ e. opens e.kind e) (λ e a. shuts e.kind e)) (at_push o j e true h) ∙ still_open_push _ _ (entries_at o j) e

pub blocked_other : (o : ℕ) (j : Journal) (e : Entry) → (e.object == o) ≡ false → blocked_at o (j ++ e ∷ []) ≡ blocked_at o j
unfolding blocked_at
blocked_other o j e h = ap (still_open _ _) (at_other o j e h)

reverse_opt : {A : Type 0} (xs : List A) (o : Option A) → reverse (xs ++ option_to_list o) ≡ option_to_list o ++ reverse xs
reverse_opt xs None = ap reverse (append-nil xs)
reverse_opt xs (Some a) = reverse-append xs (a ∷ [])

reverse_cons : {A : Type 0} (x : A) (xs : List A) → reverse (x ∷ xs) ≡ reverse xs ++ x ∷ []
reverse_cons x xs = reverse-append (x ∷ []) xs

filter_reverse : {A : Type 0} (p : A → Bool) (xs : List A) → reverse (filter p xs) ≡ filter p (reverse xs)
filter_reverse p [] = refl
filter_reverse p (x ∷ xs) = by_test (filter_reverse p xs) (p x) refl
  where
    by_test : reverse (filter p xs) ≡ filter p (reverse xs) → (b : Bool) → p x ≡ b → reverse (filter p (x ∷ xs)) ≡ filter p (reverse (x ∷ xs))
    by_test ih true h =
        ap (λ b. reverse (cond b (x ∷ filter p xs) (filter p xs))) h ∙ reverse_cons x (filter p xs) ∙ ap (λ l. l ++ x ∷ []) ih ∙ sym (ap (filter p) (reverse_cons x xs) ∙ filter-append p (reverse xs) (x ∷ []) ∙ ap (λ b. filter p (reverse xs) ++ cond b (x ∷ []) []) h)
    by_test ih false h =
        ap (λ b. reverse (cond b (x ∷ filter p xs) (filter p xs))) h ∙ ih ∙ sym (ap (filter p) (reverse_cons x xs) ∙ filter-append p (reverse xs) (x ∷ []) ∙ ap (λ b. filter p (reverse xs) ++ cond b (x ∷ []) []) h ∙ append-nil _)

pub stacked_other : (o : ℕ) (j : Journal) (e : Entry) → (e.object == o) ≡ false → stacked o (j ++ e ∷ []) ≡ stacked o j
unfolding stacked
stacked_other o j e h =
    ap (λ l. reverse (still_open (λ e. stacks e.kind e) (λ e. admits e.kind e) l)) (at_other o j e h)

pub stacked_same : (o : ℕ) (j : Journal) (e : Entry) → (e.object == o) ≡ true → stacked o (j ++ e ∷ []) ≡ stacked_after e.kind e (stacked o j)
unfolding stacked
stacked_same o j e h =
    let up = still_open (λ e. stacks e.kind e) (λ e. admits e.kind e) (entries_at o j) in
    ap (λ l. reverse (still_open (λ e. stacks e.kind e) (λ e. admits e.kind e) l)) (at_push o j e true h) ∙ ap reverse (still_open_push (λ e. stacks e.kind e) (λ e. admits e.kind e) (entries_at o j) e) ∙ reverse_opt (filter (λ t. not (admits e.kind e t)) up) (stacks e.kind e) ∙ ap (λ l. option_to_list (stacks e.kind e) ++ l) (filter_reverse (λ t. not (admits e.kind e t)) up)

-- how often a task stands at each station

times_swap : (t : ℕ) (xs : List ℕ) → times t (reverse xs) ≡ times t xs
times_swap t [] = refl
times_swap t (x ∷ xs) =
    ap (times t) (reverse_cons x xs) ∙ times_append t (reverse xs) (x ∷ []) ∙ ap (λ n. n + times t (x ∷ [])) (times_swap t xs) ∙ by (t == x)
  where
    by : (b : Bool) → times t xs + cond b 1 0 ≡ cond b (suc (times t xs)) (times t xs)
    by true = omega arith
    by false = omega arith

-- the same for a filter of tasks
times_same : {E : Type 0} (begins : E → Option ℕ) (ends : E → ℕ → Bool) (j : List E) (e : E) (t : ℕ) → times t (still_open begins ends (j ++ e ∷ [])) ≡ cond (ends e t) 0 (times t (still_open begins ends j)) + times t (option_to_list (begins e))
times_same begins ends j e t =
    let all = times_push begins ends (λ x. x) j e t (ends e) (λ a. refl) in
    simp map-id at all

times_waits_by : (t o : ℕ) (j : Journal) (e : Entry) (b : Bool) → (e.object == o) ≡ b → times t (tasks_at (Waits o) (j ++ e ∷ [])) ≡ cond b (cond (takes e.kind e t) 0 (times t (tasks_at (Waits o) j)) + times t (map (λ w. w.0) (option_to_list (calls e.kind e)))) (times t (tasks_at (Waits o) j))
unfolding waiting
times_waits_by t o j e true h =
    ap (λ l. times t (map (λ w. w.0) (still_open (λ e. calls e.kind e) (λ e p. takes e.kind e p.0) l))) (at_push o j e true h) ∙ times_push (λ e. calls e.kind e) (λ e p. takes e.kind e p.0) (λ w. w.0) (entries_at o j) e t (takes e.kind e) (λ a. refl)
times_waits_by t o j e false h =
    ap (λ l. times t (map (λ w. w.0) (still_open (λ e. calls e.kind e) (λ e p. takes e.kind e p.0) l))) (at_other o j e h)

pub times_waits : (t o : ℕ) (j : Journal) (e : Entry) → times t (tasks_at (Waits o) (j ++ e ∷ [])) ≡ cond (e.object == o) (cond (takes e.kind e t) 0 (times t (tasks_at (Waits o) j)) + times t (map (λ w. w.0) (option_to_list (calls e.kind e)))) (times t (tasks_at (Waits o) j))
times_waits t o j e = times_waits_by t o j e (e.object == o) refl

times_stacks_by : (t o : ℕ) (j : Journal) (e : Entry) (b : Bool) → (e.object == o) ≡ b → times t (tasks_at (Stacked o) (j ++ e ∷ [])) ≡ cond b (cond (admits e.kind e t) 0 (times t (tasks_at (Stacked o) j)) + times t (option_to_list (stacks e.kind e))) (times t (tasks_at (Stacked o) j))
unfolding stacked
times_stacks_by t o j e true h =
    let up = still_open (λ e. stacks e.kind e) (λ e. admits e.kind e) (entries_at o j) in
    let back = times_swap t up in
    times_swap t (still_open (λ e. stacks e.kind e) (λ e. admits e.kind e) (entries_at o (j ++ e ∷ []))) ∙ ap (λ l. times t (still_open (λ e. stacks e.kind e) (λ e. admits e.kind e) l)) (at_push o j e true h) ∙ times_same (λ e. stacks e.kind e) (λ e. admits e.kind e) (entries_at o j) e t ∙ ap (λ n. cond (admits e.kind e t) 0 n + times t (option_to_list (stacks e.kind e))) (sym back)
times_stacks_by t o j e false h =
    ap (λ l. times t (reverse (still_open (λ e. stacks e.kind e) (λ e. admits e.kind e) l))) (at_other o j e h)

pub times_stacks : (t o : ℕ) (j : Journal) (e : Entry) → times t (tasks_at (Stacked o) (j ++ e ∷ [])) ≡ cond (e.object == o) (cond (admits e.kind e t) 0 (times t (tasks_at (Stacked o) j)) + times t (option_to_list (stacks e.kind e))) (times t (tasks_at (Stacked o) j))
times_stacks t o j e = times_stacks_by t o j e (e.object == o) refl

-- the tasks blocked on a condition, from all waits at its object
abbrev waits_on : ℕ → ℕ → List (ℕ × ℕ × ℤ) → List ℕ
waits_on o c bs = map (λ b. b.0) (filter (λ b. b.1 == c) bs)

firsts : (bs : List (ℕ × ℕ × ℤ)) → map (λ (x : ℕ × ℤ). x.0) (map (λ b. (b.0, b.2)) bs) ≡ map (λ b. b.0) bs
firsts [] = refl
firsts (b ∷ bs) = ap (λ l. b.0 ∷ l) (firsts bs)

pub blocked_tasks : (o c : ℕ) (j : Journal) → tasks_at (Blocked o c) j ≡ map (λ b. b.0) (filter (λ b. b.1 == c) (blocked_at o j))
blocked_tasks o c j = firsts (filter (λ b. b.1 == c) (blocked_at o j))

times_blocks_by : (t o c : ℕ) (j : Journal) (e : Entry) (b : Bool) → (e.object == o) ≡ b → times t (waits_on o c (blocked_at o (j ++ e ∷ []))) ≡ cond b (cond (takes e.kind e t) 0 (times t (waits_on o c (blocked_at o j))) + times t (waits_on o c (option_to_list (blocks e.kind e)))) (times t (waits_on o c (blocked_at o j)))
unfolding blocked_at
times_blocks_by t o c j e true h =
    ap (λ l. times t (map (λ w. w.0) (filter (λ w. w.1 == c) (still_open (λ e. blocks e.kind e) (λ e p. takes e.kind e p.0) l)))) (at_push o j e true h) ∙ times_push_in (λ e. blocks e.kind e) (λ e p. takes e.kind e p.0) (λ w. w.0) (entries_at o j) e t (takes e.kind e) (λ a. refl) (λ w. w.1 == c)
times_blocks_by t o c j e false h =
    ap (λ l. times t (map (λ w. w.0) (filter (λ w. w.1 == c) (still_open (λ e. blocks e.kind e) (λ e p. takes e.kind e p.0) l)))) (at_other o j e h)

pub times_blocks : (t o c : ℕ) (j : Journal) (e : Entry) → times t (tasks_at (Blocked o c) (j ++ e ∷ [])) ≡ cond (e.object == o) (cond (takes e.kind e t) 0 (times t (tasks_at (Blocked o c) j)) + times t (map (λ w. w.0) (filter (λ w. w.1 == c) (option_to_list (blocks e.kind e))))) (times t (tasks_at (Blocked o c) j))
times_blocks t o c j e =
    ap (times t) (blocked_tasks o c (j ++ e ∷ [])) ∙ times_blocks_by t o c j e (e.object == o) refl ∙ ap (λ l. cond (e.object == o) (cond (takes e.kind e t) 0 (times t l) + times t (waits_on o c (option_to_list (blocks e.kind e)))) (times t l)) (sym (blocked_tasks o c j))

pub times_ready : (t c : ℕ) (j : Journal) (e : Entry) → times t (tasks_at (Ready c) (j ++ e ∷ [])) ≡ cond (dispatches e.kind e t) 0 (times t (tasks_at (Ready c) j)) + times t (option_to_list (on_cluster c (noted_at j e).cluster (readies e.kind e (noted_at j e).actor)))
unfolding ready
times_ready t c j e =
    let begins : Noted → Option ℕ = λ x. on_cluster c x.cluster (readies x.entry.kind x.entry x.actor) in
    let ends : Noted → ℕ → Bool = λ x. dispatches x.entry.kind x.entry in
    ap (λ l. times t (still_open begins ends l)) (noted_push j e) ∙ times_same begins ends (noted j) (noted_at j e) t

on_push : (p : ℕ) (j : Journal) (e : Entry) (b : Bool) → (e.proc == p) ≡ b → filter (λ x. x.entry.proc == p) (noted (j ++ e ∷ [])) ≡ filter (λ x. x.entry.proc == p) (noted j) ++ cond b (noted_at j e ∷ []) []
on_push p j e b h =
    ap (filter (λ x. x.entry.proc == p)) (noted_push j e) ∙ filter-append (λ x. x.entry.proc == p) (noted j) (noted_at j e ∷ []) ∙ ap (λ l. filter (λ x. x.entry.proc == p) (noted j) ++ l) (one_passes (noted_at j e) b (λ x. x.entry.proc == p) h)

pub running_other : (p : ℕ) (j : Journal) (e : Entry) → (e.proc == p) ≡ false → running p (j ++ e ∷ []) ≡ running p j
unfolding running
running_other p j e h =
    ap (still_open (λ x. puts_on x.entry.kind x.entry x.actor) (λ x. takes_off x.entry.kind x.entry)) (on_push p j e false h ∙ append-nil _)

times_runs_by : (t p : ℕ) (j : Journal) (e : Entry) (b : Bool) → (e.proc == p) ≡ b → times t (tasks_at (Running p) (j ++ e ∷ [])) ≡ cond b (cond (takes_off e.kind e t) 0 (times t (tasks_at (Running p) j)) + times t (option_to_list (puts_on e.kind e (noted_at j e).actor))) (times t (tasks_at (Running p) j))
unfolding running
times_runs_by t p j e true h =
    let begins : Noted → Option ℕ = λ x. puts_on x.entry.kind x.entry x.actor in
    let ends : Noted → ℕ → Bool = λ x. takes_off x.entry.kind x.entry in
    ap (λ l. times t (still_open begins ends l)) (on_push p j e true h) ∙ times_same begins ends (filter (λ x. x.entry.proc == p) (noted j)) (noted_at j e) t
times_runs_by t p j e false h =
    let begins : Noted → Option ℕ = λ x. puts_on x.entry.kind x.entry x.actor in
    let ends : Noted → ℕ → Bool = λ x. takes_off x.entry.kind x.entry in
    ap (λ l. times t (still_open begins ends l)) (on_push p j e false h ∙ append-nil _)

pub times_runs : (t p : ℕ) (j : Journal) (e : Entry) → times t (tasks_at (Running p) (j ++ e ∷ [])) ≡ cond (e.proc == p) (cond (takes_off e.kind e t) 0 (times t (tasks_at (Running p) j)) + times t (option_to_list (puts_on e.kind e (noted_at j e).actor))) (times t (tasks_at (Running p) j))
times_runs t p j e = times_runs_by t p j e (e.proc == p) refl

-- the exact lists

abbrev pub blocked_after : EntryKind → Entry → List (ℕ × ℕ × ℤ) → List (ℕ × ℕ × ℤ)
blocked_after k e xs = filter (λ b. not (takes k e b.0)) xs ++ option_to_list (blocks k e)

pub blocked_same : (o : ℕ) (j : Journal) (e : Entry) → (e.object == o) ≡ true → blocked_at o (j ++ e ∷ []) ≡ blocked_after e.kind e (blocked_at o j)
unfolding blocked_at
blocked_same o j e h =
    ap (still_open (λ e. blocks e.kind e) (λ e b. takes e.kind e b.0)) (at_push o j e true h) ∙ still_open_push _ _ (entries_at o j) e

pub ready_push : (c : ℕ) (j : Journal) (e : Entry) → ready c (j ++ e ∷ []) ≡ filter (λ t. not (dispatches e.kind e t)) (ready c j) ++ option_to_list (on_cluster c (noted_at j e).cluster (readies e.kind e (noted_at j e).actor))
unfolding ready
ready_push c j e =
    let begins : Noted → Option ℕ = λ x. on_cluster c x.cluster (readies x.entry.kind x.entry x.actor) in
    let ends : Noted → ℕ → Bool = λ x. dispatches x.entry.kind x.entry in
    ap (still_open begins ends) (noted_push j e) ∙ still_open_push begins ends (noted j) (noted_at j e)

pub running_same : (p : ℕ) (j : Journal) (e : Entry) → (e.proc == p) ≡ true → running p (j ++ e ∷ []) ≡ filter (λ t. not (takes_off e.kind e t)) (running p j) ++ option_to_list (puts_on e.kind e (noted_at j e).actor)
unfolding running
running_same p j e h =
    let begins : Noted → Option ℕ = λ x. puts_on x.entry.kind x.entry x.actor in
    let ends : Noted → ℕ → Bool = λ x. takes_off x.entry.kind x.entry in
    ap (still_open begins ends) (on_push p j e true h) ∙ still_open_push begins ends (filter (λ x. x.entry.proc == p) (noted j)) (noted_at j e)

none_stay : (ts : List ℕ) → filter (λ t. false) ts ≡ []
none_stay [] = refl
none_stay (t ∷ ts) = none_stay ts

-- a dispatch puts its task on its processor
pub running_given : (p t : ℕ) (j : Journal) → running p (j ++ dispatch p t ∷ []) ≡ t ∷ []
running_given p t j =
    running_same p j (dispatch p t) (eq-eqb p p refl) ∙ ap (λ l. l ++ t ∷ []) (none_stay (running p j))
