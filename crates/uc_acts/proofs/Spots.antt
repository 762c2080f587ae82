-- Where each task is, by the last entry that moved it, and what each entry does to the queues.
use Rattle.std.proofs.Common.{◌≡◌, ℕ, ℤ, ◌==◌, ◌+◌, ◌&&◌, Bool, true, false, cond, not, [], ◌∷◌, ◌++◌, map, refl, ap, ◌∙◌, arith, add-zero}
use Rattle.std.specs.Option.{option_to_list}
use Rattle.std.specs.List.{filter, fold}
use Rattle.std.proofs.lemmas.Bool.{eqb-true}
use Rattle.std.proofs.lemmas.List.Sums.{fold_push}
use Rattle.uc_entry.specs.declared.entry.Entry.{Entry}
use Rattle.uc_entry.specs.declared.entry.EntryKind.{EntryKind}
use Rattle.uc_entry.specs.declared.entry.EntryKind.TheVariants as kind
use Rattle.uc_acts.specs.Journal.{Journal, number, holds, where_true, stacks_acceptor}
use Rattle.uc_acts.specs.Queues.{Noted, noted, calls, takes, stacks, admits, readies, on_cluster, dispatches, puts_on, takes_off}
use Rattle.uc_acts.specs.Doors.{blocks}
use Rattle.uc_acts.specs.Stations.{Station, Ready, Running, Waits, Stacked, Blocked, one_if, times}
use Rattle.uc_acts.specs.Sound.{Spot, Unborn, mover, own_or_ready, target, moved_if, spot, here}
use Rattle.uc_acts.specs.Legal.{removes}
use Rattle.uc_acts.proofs.Noted.{noted_at, noted_push}

pub spot_push : (t : ℕ) (j : Journal) (e : Entry) → spot t (j ++ e ∷ []) ≡ moved_if (mover e.kind e t) (target e.kind (noted_at j e) t) (spot t j)
unfolding spot
spot_push t j e =
    ap (fold (λ old x. moved_if (mover x.entry.kind x.entry t) (target x.entry.kind x t) old) Unborn) (noted_push j e) ∙ fold_push (λ (old : Spot) (x : Noted). moved_if (mover x.entry.kind x.entry t) (target x.entry.kind x t) old) Unborn (noted j) (noted_at j e)

-- what an entry adds to a place
abbrev pub added : Station → EntryKind → Noted → ℕ → ℕ
added r k x t = cond (mover k x.entry t) (here r (target k x t)) 0

-- what an entry does to the number of times that its task stands at a station
abbrev pub Counts : Station → EntryKind → Noted → ℕ → ℕ → ℕ → Type 0
Counts r k x t before after =
    after ≡ cond (mover k x.entry t && removes r k x.entry) 0 before + added r k x t

none : (m : Bool) (n : ℕ) → n ≡ cond (m && false) 0 n + cond m 0 0
none true n = omega arith
none false n = omega arith

-- an entry of a kind that neither adds nor removes
quiet : (b m : Bool) (n : ℕ) → cond b (n + 0) n ≡ cond (m && false) 0 n + cond m 0 0
quiet true m n = add-zero n ∙ none m n
quiet false m n = none m n

-- it adds its task at one object
adds : (b m : Bool) (n : ℕ) → cond b (n + cond m 1 0) n ≡ cond (m && false) 0 n + cond m (one_if b) 0
adds true true n = refl
adds true false n = refl
adds false true n = omega arith
adds false false n = omega arith

-- it removes its task at one object
takes_out : (b m : Bool) (n : ℕ) → cond b (cond m 0 n + 0) n ≡ cond (m && b) 0 n + cond m 0 0
takes_out true true n = refl
takes_out true false n = refl
takes_out false true n = omega arith
takes_out false false n = omega arith

pub waits_counts : (k : EntryKind) (x : Noted) (o t n : ℕ) → Counts (Waits o) k x t n (cond (x.entry.object == o) (cond (takes k x.entry t) 0 n + times t (map (λ w. w.0) (option_to_list (calls k x.entry)))) n)
waits_counts kind.Call x o t n = adds (x.entry.object == o) (t == x.entry.task) n
waits_counts kind.Push x o t n = takes_out (x.entry.object == o) (t == x.entry.task) n
waits_counts kind.Admit x o t n = admitted (x.entry.task == x.actor)
  where
    admitted : (own : Bool) → cond (x.entry.object == o) (cond (t == x.entry.task) 0 n + 0) n ≡ cond ((t == x.entry.task) && (x.entry.object == o)) 0 n + cond (t == x.entry.task) (here (Waits o) (own_or_ready own x.entry.proc (x.cluster t))) 0
    admitted true = takes_out (x.entry.object == o) (t == x.entry.task) n
    admitted false = takes_out (x.entry.object == o) (t == x.entry.task) n
waits_counts k x o t n = quiet (x.entry.object == o) (mover k x.entry t) n

-- a stacking whose test may fail
adds_if : (s b m : Bool) (t u n : ℕ) → (t == u) ≡ m → cond b (n + times t (option_to_list (where_true s u))) n ≡ cond ((m && s) && false) 0 n + cond (m && s) (one_if b) 0
adds_if true b true t u n h = simp h (adds b true n)
adds_if true b false t u n h = simp h (adds b false n)
adds_if false b true t u n h = quiet b false n
adds_if false b false t u n h = quiet b false n

pub stacks_counts : (k : EntryKind) (x : Noted) (o t n : ℕ) → Counts (Stacked o) k x t n (cond (x.entry.object == o) (cond (admits k x.entry t) 0 n + times t (option_to_list (stacks k x.entry))) n)
stacks_counts kind.Push x o t n = adds (x.entry.object == o) (t == x.entry.task) n
stacks_counts kind.SignalBlock x o t n =
    adds_if (holds 1 x.entry.b) (x.entry.object == o) (t == x.entry.task) t x.entry.task n refl
stacks_counts kind.Accept x o t n =
    adds_if (stacks_acceptor x.entry) (x.entry.object == o) (t == x.entry.task) t x.entry.task n refl
stacks_counts kind.Admit x o t n = admitted (x.entry.task == x.actor)
  where
    admitted : (own : Bool) → cond (x.entry.object == o) (cond (t == x.entry.task) 0 n + 0) n ≡ cond ((t == x.entry.task) && (x.entry.object == o)) 0 n + cond (t == x.entry.task) (here (Stacked o) (own_or_ready own x.entry.proc (x.cluster t))) 0
    admitted true = takes_out (x.entry.object == o) (t == x.entry.task) n
    admitted false = takes_out (x.entry.object == o) (t == x.entry.task) n
stacks_counts k x o t n = quiet (x.entry.object == o) (mover k x.entry t) n

-- a wait on one condition
adds_on : (b d m : Bool) (n : ℕ) → cond b (n + cond d (cond m 1 0) 0) n ≡ cond (m && false) 0 n + cond m (one_if (b && d)) 0
adds_on true true m n = adds true m n
adds_on true false m n = quiet true m n
adds_on false d m n = quiet false m n

-- those of one condition, when an entry is appended
on_condition : (t u o c : ℕ) (m : ℤ) (d : Bool) → (u == c) ≡ d → (v : ℕ) → times t (map (λ w. w.0) (filter (λ (w : ℕ × ℕ × ℤ). w.1 == c) ((v, u, m) ∷ []))) ≡ cond d (cond (t == v) 1 0) 0
on_condition t u o c m true h v = simp h
on_condition t u o c m false h v = simp h

pub blocks_counts : (k : EntryKind) (x : Noted) (o c t n : ℕ) → Counts (Blocked o c) k x t n (cond (x.entry.object == o) (cond (takes k x.entry t) 0 n + times t (map (λ w. w.0) (filter (λ w. w.1 == c) (option_to_list (blocks k x.entry))))) n)
blocks_counts kind.Wait x o c t n =
    rw (on_condition t (number x.entry.a) o c x.entry.b (number x.entry.a == c) refl x.entry.task) (adds_on (x.entry.object == o) (number x.entry.a == c) (t == x.entry.task) n)
blocks_counts kind.Push x o c t n = takes_out (x.entry.object == o) (t == x.entry.task) n
blocks_counts kind.Admit x o c t n = admitted (x.entry.task == x.actor)
  where
    admitted : (own : Bool) → cond (x.entry.object == o) (cond (t == x.entry.task) 0 n + 0) n ≡ cond ((t == x.entry.task) && (x.entry.object == o)) 0 n + cond (t == x.entry.task) (here (Blocked o c) (own_or_ready own x.entry.proc (x.cluster t))) 0
    admitted true = takes_out (x.entry.object == o) (t == x.entry.task) n
    admitted false = takes_out (x.entry.object == o) (t == x.entry.task) n
blocks_counts k x o c t n = quiet (x.entry.object == o) (mover k x.entry t) n

-- a task made ready on its cluster
adds_ready : (on : ℕ → ℕ) (t u k n : ℕ) (m d : Bool) → (t == u) ≡ m → (on u == k) ≡ d → n + times t (option_to_list (where_true (on u == k) u)) ≡ cond ((t == u) && false) 0 n + cond (t == u) (one_if (on t == k)) 0
adds_ready on t u k n true true h g =
    let same : t ≡ u = eqb-true t u h in
    let g' : (on t == k) ≡ true = ap (λ v. on v == k) same ∙ g in
    simp (h, g, g', h)
adds_ready on t u k n true false h g =
    let same : t ≡ u = eqb-true t u h in
    let g' : (on t == k) ≡ false = ap (λ v. on v == k) same ∙ g in
    simp (h, g, g')
adds_ready on t u k n false true h g = simp (h, g) (omega arith)
adds_ready on t u k n false false h g = simp (h, g) (omega arith)

pub ready_counts : (k : EntryKind) (x : Noted) (c t n : ℕ) → Counts (Ready c) k x t n (cond (dispatches k x.entry t) 0 n + times t (option_to_list (on_cluster c x.cluster (readies k x.entry x.actor))))
ready_counts kind.Begin x c t n = adds_ready x.cluster t 0 c n (t == 0) (x.cluster 0 == c) refl refl
ready_counts kind.Spawn x c t n =
    adds_ready x.cluster t (number x.entry.a) c n (t == number x.entry.a) (x.cluster (number x.entry.a) == c) refl refl
ready_counts kind.Slice x c t n =
    adds_ready x.cluster t x.entry.task c n (t == x.entry.task) (x.cluster x.entry.task == c) refl refl
ready_counts kind.Yield x c t n =
    adds_ready x.cluster t x.entry.task c n (t == x.entry.task) (x.cluster x.entry.task == c) refl refl
ready_counts kind.Migrate x c t n =
    adds_ready x.cluster t x.entry.task c n (t == x.entry.task) (x.cluster x.entry.task == c) refl refl
ready_counts kind.Dispatch x c t n = takes_out true (t == x.entry.task) n
ready_counts kind.Admit x c t n = admitted (x.entry.task == x.actor)
  where
    admitted : (own : Bool) → n + times t (option_to_list (on_cluster c x.cluster (where_true (not own) x.entry.task))) ≡ cond ((t == x.entry.task) && false) 0 n + cond (t == x.entry.task) (here (Ready c) (own_or_ready own x.entry.proc (x.cluster t))) 0
    admitted true = quiet true (t == x.entry.task) n
    admitted false =
        adds_ready x.cluster t x.entry.task c n (t == x.entry.task) (x.cluster x.entry.task == c) refl refl
ready_counts k x c t n = quiet true (mover k x.entry t) n

-- a processor that is given a task is free
abbrev pub Free : EntryKind → Bool → ℕ → Type 0
Free kind.Dispatch b n = b ≡ true → n ≡ 0
Free k b n = Unit {0}

-- a task comes to a free processor
gives : (b m : Bool) (n : ℕ) → (b ≡ true → n ≡ 0) → cond b (0 + cond m 1 0) n ≡ cond (m && b) 0 n + cond m (one_if b) 0
gives true true n h = refl
gives true false n h = let e = h refl in omega (arith, e)
gives false true n h = omega arith
gives false false n h = omega arith

-- it comes back to its own
stays : (b m : Bool) (n : ℕ) → cond b (cond m 0 n + cond m 1 0) n ≡ cond (m && b) 0 n + cond m (one_if b) 0
stays true true n = refl
stays true false n = refl
stays false true n = omega arith
stays false false n = omega arith

pub runs_counts : (k : EntryKind) (x : Noted) (p t n : ℕ) → Free k (x.entry.proc == p) n → Counts (Running p) k x t n (cond (x.entry.proc == p) (cond (takes_off k x.entry t) 0 n + times t (option_to_list (puts_on k x.entry x.actor))) n)
runs_counts kind.Dispatch x p t n h = gives (x.entry.proc == p) (t == x.entry.task) n h
runs_counts kind.Admit x p t n h = admitted (x.entry.task == x.actor)
  where
    admitted : (own : Bool) → cond (x.entry.proc == p) (cond (t == x.entry.task) 0 n + times t (option_to_list (where_true own x.entry.task))) n ≡ cond ((t == x.entry.task) && (x.entry.proc == p)) 0 n + cond (t == x.entry.task) (here (Running p) (own_or_ready own x.entry.proc (x.cluster t))) 0
    admitted true = stays (x.entry.proc == p) (t == x.entry.task) n
    admitted false = takes_out (x.entry.proc == p) (t == x.entry.task) n
runs_counts kind.Call x p t n h = takes_out (x.entry.proc == p) (t == x.entry.task) n
runs_counts kind.Slice x p t n h = takes_out (x.entry.proc == p) (t == x.entry.task) n
runs_counts kind.Yield x p t n h = takes_out (x.entry.proc == p) (t == x.entry.task) n
runs_counts kind.Migrate x p t n h = takes_out (x.entry.proc == p) (t == x.entry.task) n
runs_counts kind.Wait x p t n h = takes_out (x.entry.proc == p) (t == x.entry.task) n
runs_counts kind.SignalBlock x p t n h = takes_out (x.entry.proc == p) (mover kind.SignalBlock x.entry t) n
runs_counts kind.Accept x p t n h = takes_out (x.entry.proc == p) (mover kind.Accept x.entry t) n
runs_counts kind.End x p t n h = takes_out (x.entry.proc == p) (t == x.entry.task) n
runs_counts k x p t n h = quiet (x.entry.proc == p) (mover k x.entry t) n
