-- What the entries of one task leave of a task that runs on another processor.
use Rattle.std.proofs.Common.{◌≡◌, ℕ, ◌==◌, ◌<◌, ◌&&◌, ◌||◌, Bool, true, false, List, [], ◌∷◌, ◌++◌, None, refl, sym, ap, ◌∙◌, arith, append-nil, append_assoc}
use Rattle.std.specs.Prelude.{reverse}
use Rattle.std.specs.List.{sum_by}
use Rattle.std.proofs.lemmas.Bool.{eqb-true, eq-eqb, ne_eqb}
use Rattle.uc_tree.specs.Programs.{Site}
use Rattle.uc_entry.specs.declared.entry.Entry.{Entry}
use Rattle.uc_entry.specs.declared.entry.EntryKind.{EntryKind}
use Rattle.uc_entry.specs.declared.entry.EntryKind.TheVariants as kind
use Rattle.uc_acts.specs.Journal.{Journal, number, holds, where_true, stacks_acceptor, lets_in, moves, is_task, held}
use Rattle.uc_acts.specs.Queues.{running, used, spent, dispatches}
use Rattle.uc_acts.specs.Known.{task_count, spawns, spawns_task}
use Rattle.uc_acts.specs.Answers.{tells, asks, answer_to, first_of, told_if, accept_answer, makes_for, just_made}
use Rattle.uc_acts.specs.Stations.{Running}
use Rattle.uc_acts.specs.Sound.{At, Sound, Spot, mover, spot, here}
use Rattle.uc_acts.specs.Legal.{Legal, IsNext, removes}
use Rattle.uc_acts.specs.Laws.{LawElsewhere, Untouched}
use Rattle.uc_acts.specs.Acts.{act}
use Rattle.uc_acts.proofs.OpenLemmas.{still_open_silent}
use Rattle.uc_acts.proofs.Seats.{running_other}
use Rattle.uc_acts.proofs.SoundLemmas.{self_test, sound_step}
use Rattle.uc_acts.proofs.Moves.{first_at, known_at, spot_stays}
use Rattle.uc_acts.proofs.Rows.{Lawful}
use Rattle.uc_acts.proofs.Law.{lawful_act, good_whole}
use Rattle.uc_acts.proofs.Acting.{is_own, is_giving, object_of, destroys, IsBy, AllBy, by_act}

-- an entry that concerns task u in no way
pub record Foreign (u : ℕ) (e : Entry) : Type 0 where
  pub task : (u == e.task) ≡ false
  pub child : spawns_task u e.kind e ≡ false
  pub acts : is_giving e.kind ≡ false

pub flip : (a b : ℕ) → (a == b) ≡ false → (b == a) ≡ false
flip a b h = by (b == a) refl
  where
    no_both : (c : Bool) → c ≡ true → c ≡ false → ⊥
    no_both c t f = cc

    by : (c : Bool) → (b == a) ≡ c → (b == a) ≡ false
    by false g = g
    by true g = absurd (no_both (a == b) (eq-eqb a b (sym (eqb-true b a g))) h)

lets_not : (k : EntryKind) (e : Entry) (u o : ℕ) → (e.task == u) ≡ false → spawns_task u k e ≡ false → is_giving k ≡ false → where_true (is_task u (lets_in k e)) o ≡ None
lets_not kind.Begin e u o h g n = cc
lets_not kind.Make e u o h g n = ap (λ b. where_true b o) h
lets_not kind.Spawn e u o h g n = ap (λ b. where_true b o) (flip u (number e.a) g)
lets_not kind.Admit e u o h g n = ap (λ b. where_true b o) h
lets_not k e u o h g n = refl

moves_not : (k : EntryKind) (e : Entry) (u : ℕ) → (u == e.task) ≡ false → spawns_task u k e ≡ false → is_giving k ≡ false → moves k e u ≡ false
moves_not kind.Begin e u h g n = cc
moves_not kind.Make e u h g n = h
moves_not kind.Spawn e u h g n = rw (h, g) refl
moves_not kind.Admit e u h g n = h
moves_not kind.Made e u h g n = h
moves_not kind.Leave e u h g n = h
moves_not kind.End e u h g n = h
moves_not kind.Wait e u h g n = h
moves_not kind.Gone e u h g n = h
moves_not kind.SignalBlock e u h g n = ap (λ b. b && holds 1 e.b) h
moves_not kind.Accept e u h g n = ap (λ b. b && stacks_acceptor e) h
moves_not k e u h g n = refl

tells_not : (sites : List Site) (k : EntryKind) (e : Entry) (u : ℕ) → (u == e.task) ≡ false → spawns_task u k e ≡ false → is_giving k ≡ false → tells sites u k e ≡ None
tells_not sites kind.Begin e u h g n = cc
tells_not sites kind.Spawn e u h g n = rw (h, g) refl
tells_not sites kind.Accept e u h g n = ap (λ b. told_if b (accept_answer sites e)) h
tells_not sites kind.SignalBlock e u h g n = rw h refl
tells_not sites kind.Dispatch e u h g n = refl
tells_not sites kind.Call e u h g n = refl
tells_not sites kind.Push e u h g n = refl
tells_not sites kind.Wait e u h g n = refl
tells_not sites kind.End e u h g n = refl
tells_not sites kind.Fault e u h g n = refl
tells_not sites kind.Done e u h g n = refl
tells_not sites kind.Deadlock e u h g n = refl
tells_not sites kind.NoProcessor e u h g n = refl
tells_not sites kind.Limit e u h g n = refl
tells_not sites k e u h g n = rw h refl

asks_not : (k : EntryKind) (e : Entry) (u : ℕ) → (u == e.task) ≡ false → asks u k e ≡ false
asks_not kind.Begin e u h = refl
asks_not kind.Dispatch e u h = refl
asks_not kind.Admit e u h = refl
asks_not kind.Push e u h = refl
asks_not kind.Done e u h = refl
asks_not kind.Deadlock e u h = refl
asks_not kind.NoProcessor e u h = refl
asks_not kind.Limit e u h = refl
asks_not k e u h = h

makes_not : (k : EntryKind) (e : Entry) (u : ℕ) → (u == e.task) ≡ false → makes_for u k e ≡ None
makes_not kind.Make e u h = ap (λ b. where_true b e.object) h
makes_not k e u h = refl

dispatches_not : (k : EntryKind) (e : Entry) (u : ℕ) → is_giving k ≡ false → dispatches k e u ≡ false
dispatches_not kind.Dispatch e u n = cc
dispatches_not k e u n = refl

and_false : (b : Bool) → (b && false) ≡ false
and_false true = refl
and_false false = refl

module _ (u : ℕ) (e : Entry) (f : Foreign u e) (j : Journal) where
  pub held_foreign : held u (j ++ e ∷ []) ≡ held u j
  unfolding held
  held_foreign =
      still_open_silent (λ e. where_true (is_task u (lets_in e.kind e)) e.object) (λ e o. (e.object == o) && moves e.kind e u) j e (lets_not e.kind e u e.object (flip u e.task f.task) f.child f.acts) (λ o. ap (λ b. (e.object == o) && b) (moves_not e.kind e u f.task f.child f.acts) ∙ and_false (e.object == o))

  pub answer_foreign : (sites : List Site) → answer_to sites u (j ++ e ∷ []) ≡ answer_to sites u j
  unfolding answer_to
  answer_foreign sites =
      ap (λ l. first_of (reverse l)) (still_open_silent (λ e. tells sites u e.kind e) (λ e x. asks u e.kind e) j e (tells_not sites e.kind e u f.task f.child f.acts) (λ x. asks_not e.kind e u f.task))

  pub just_made_foreign : just_made u (j ++ e ∷ []) ≡ just_made u j
  unfolding just_made
  just_made_foreign =
      still_open_silent (λ e. makes_for u e.kind e) (λ e o. asks u e.kind e) j e (makes_not e.kind e u f.task) (λ o. asks_not e.kind e u f.task)

  pub used_foreign : used u (j ++ e ∷ []) ≡ used u j
  unfolding used
  used_foreign =
      ap (sum_by (λ k. k)) (still_open_silent (spent u) (λ e x. dispatches e.kind e u) j e (ap (λ b. where_true b e.ticks) (flip u e.task f.task)) (λ x. dispatches_not e.kind e u f.acts))

pub spawns_push : (u : ℕ) (a : List Entry) (e : Entry) → spawns (e ∷ a) u ≡ (spawns_task u e.kind e || spawns a u)
spawns_push u a e = refl

-- entries of t on p, where u runs on q
no_both : (b : Bool) → b ≡ true → b ≡ false → ⊥
no_both b t f = cc

-- no entry by another processor moves u
removes_not : (k : EntryKind) (e : Entry) (q : ℕ) → (e.proc == q) ≡ false → is_giving k ≡ false → removes (Running q) k e ≡ false
removes_not kind.Begin e q h n = cc
removes_not kind.Dispatch e q h n = cc
removes_not kind.Admit e q h n = h
removes_not kind.Call e q h n = h
removes_not kind.Slice e q h n = h
removes_not kind.Yield e q h n = h
removes_not kind.Migrate e q h n = h
removes_not kind.Wait e q h n = h
removes_not kind.SignalBlock e q h n = h
removes_not kind.Accept e q h n = h
removes_not kind.End e q h n = h
removes_not k e q h n = refl

not_one : (n : ℕ) → n ≡ 1 → n ≡ 0 → ⊥
not_one n a b = cc

task_not : (k : EntryKind) (e : Entry) (t u : ℕ) → (is_own k ≡ true → e.task ≡ t) → (u == t) ≡ false → mover k e u ≡ false → (u == e.task) ≡ false
task_not kind.Admit e t u own h m = m
task_not kind.Push e t u own h m = m
task_not k e t u own h m = ap (λ v. u == v) (own refl) ∙ h

child_not : (k : EntryKind) (e : Entry) (j : Journal) (u : ℕ) → IsNext k e j → u < task_count j → spawns_task u k e ≡ false
child_not kind.Spawn e j u n lt = ne_eqb u (number e.a) (λ same. absurd (omega (arith, n, lt, same)))
child_not k e j u n lt = refl

module _ (p t o : ℕ) (A : Type 0) (g : Bool) (q u : ℕ) (two : (u == t) ≡ false) (apart : (q == p) ≡ false) where
  foreign : (e : Entry) (j : Journal) → Sound j → Legal e j → IsBy p t o A g e → spot u j ≡ At (Running q) → Foreign u e
  foreign e j s l b at =
      let away : (e.proc == q) ≡ false = ap (λ v. v == q) b.proc ∙ flip q p apart in
      let still : mover e.kind e u ≡ false = by (mover e.kind e u) refl away in
      record {
        task = task_not e.kind e t u b.task two still;
        child = child_not e.kind e j u l.next (known_at j s u (Running q) at);
        acts = b.acts;
      }
    where
      by : (m : Bool) → mover e.kind e u ≡ m → (e.proc == q) ≡ false → mover e.kind e u ≡ false
      by false h away = h
      by true h away =
          let self = self_test q in
          absurd (not_one (here (Running q) (spot u j)) (ap (here (Running q)) at ∙ simp self) (l.from u h (Running q) (removes_not e.kind e q away b.acts)))

  still_there : (e : Entry) (j : Journal) → Foreign u e → Legal e j → IsBy p t o A g e → spot u j ≡ At (Running q) → spot u (j ++ e ∷ []) ≡ At (Running q)
  still_there e j f l b at = by (mover e.kind e u) refl
    where
      by : (m : Bool) → mover e.kind e u ≡ m → spot u (j ++ e ∷ []) ≡ At (Running q)
      by false h = spot_stays j e u h ∙ at
      by true h =
          let self = self_test q in
          let away : (e.proc == q) ≡ false = ap (λ v. v == q) b.proc ∙ flip q p apart in
          absurd (not_one (here (Running q) (spot u j)) (ap (here (Running q)) at ∙ simp self) (l.from u h (Running q) (removes_not e.kind e q away b.acts)))

  untouched : (sites : List Site) (j : Journal) (a : List Entry) → Sound j → Lawful j a → AllBy p t o A g a → spot u j ≡ At (Running q) → Untouched sites j a u
  untouched sites j [] s l b at = record {
    objects = ap (held u) (append-nil j);
    answer = ap (answer_to sites u) (append-nil j);
    ticks = ap (used u) (append-nil j);
    born = refl;
  }
  untouched sites j (e ∷ a) s l b at =
      let f = foreign e j s l.0 b.0 at in
      let i = j ++ e ∷ [] in
      let rest = untouched sites i a (sound_step e j s l.0) l.1 b.1 (still_there e j f l.0 b.0 at) in
      let same : i ++ a ≡ j ++ e ∷ a = append_assoc j (e ∷ []) a in
      record {
        objects = ap (held u) (sym same) ∙ rest.objects ∙ held_foreign u e f j;
        answer = ap (answer_to sites u) (sym same) ∙ rest.answer ∙ answer_foreign u e f j sites;
        ticks = ap (used u) (sym same) ∙ rest.ticks ∙ used_foreign u e f j;
        born = ap (λ x. x || spawns a u) f.child ∙ rest.born;
      }

pub running_apart : (p t o : ℕ) (A : Type 0) (g : Bool) (q : ℕ) (j : Journal) (a : List Entry) → (q == p) ≡ false → AllBy p t o A g a → running q (j ++ a) ≡ running q j
running_apart p t o A g q j [] n b = ap (running q) (append-nil j)
running_apart p t o A g q j (e ∷ a) n b =
    ap (running q) (sym (append_assoc j (e ∷ []) a)) ∙ running_apart p t o A g q (j ++ e ∷ []) a n b.1 ∙ running_other q j e (ap (λ v. v == q) b.0.proc ∙ flip q p n)

-- tasks that run on two processors are two
two_tasks : (j : Journal) (s : Sound j) (p q t u : ℕ) → running p j ≡ t ∷ [] → running q j ≡ u ∷ [] → (q == p) ≡ false → (u == t) ≡ false
two_tasks j s p q t u a b n = by (u == t) refl
  where
    proc_of : Spot → ℕ
    proc_of (At (Running r)) = r
    proc_of x = 0

    by : (c : Bool) → (u == t) ≡ c → (u == t) ≡ false
    by false h = h
    by true h =
        let same : At (Running q) ≡ At (Running p) = sym (first_at j s (Running q) u [] b) ∙ ap (λ v. spot v j) (eqb-true u t h) ∙ first_at j s (Running p) t [] a in
        absurd (no_both (q == p) (eq-eqb q p (ap proc_of same)) n)

pub law_elsewhere : LawElsewhere
law_elsewhere opts sites input j p t k asked runs m q n =
    let s = (good_whole opts sites input runs).sound in
    let a = act opts sites input j p t k asked in
    let r = asked.request in
    let o = object_of t j r in
    let g = destroys r in
    let b = by_act opts sites input j p t k (Unit {0}) asked (λ h. tt) in
    record {
      runs = running_apart p t o (Unit {0}) g q j a n b;
      untouched = λ u h. untouched p t o (Unit {0}) g q u (two_tasks j s p q t u m.runs h n) n sites j a s (lawful_act opts sites input j p t k asked s m) b (first_at j s (Running q) u [] h);
    }
