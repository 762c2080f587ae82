-- No more tasks are made than may be.
use Rattle.std.proofs.Common.{◌≡◌, ℕ, ◌+◌, ◌≤◌, ◌||◌, Bool, true, false, List, [], ◌∷◌, ◌++◌, refl, sym, ap, ◌∙◌, arith, append-nil, append_assoc}
use Rattle.std.specs.Prelude.{nat_lt}
use Rattle.std.proofs.lemmas.Bool.{ltb-true}
use Rattle.uc_tree.specs.Programs.{Site}
use Rattle.uc_tree.specs.declared.limits.TheConstants.{TASKS}
use Rattle.uc_entry.specs.declared.entry.Entry.{Entry}
use Rattle.uc_entry.specs.declared.entry.EntryKind.{EntryKind}
use Rattle.uc_entry.specs.declared.entry.EntryKind.TheVariants as kind
use Rattle.uc_entry.specs.declared.entry.Options.{Options}
use Rattle.uc_entry.specs.declared.request.Request.{Request}
use Rattle.uc_entry.specs.declared.request.Request.TheVariants as ask
use Rattle.uc_acts.specs.Journal.{Journal, begin}
use Rattle.uc_acts.specs.Known.{task_count, is_spawn}
use Rattle.uc_acts.specs.Acts.{act, dispatch, lone_limit}
use Rattle.uc_acts.specs.KernelRuns.{KernelRuns, Fits, begun, more, gives, no_room, acts}
use Rattle.uc_acts.proofs.SoundLemmas.{tasks_push, plus}
use Rattle.uc_kernel_core.specs.CoreActs.{makes_new}
use Rattle.uc_kernel.specs.AtRest.{is_admit}
use Rattle.uc_kernel.proofs.Shapes.{trails, is_plain, is_making, is_spawning, AllTrail, SecondFits, Shaped, shaped_act, shaped_make, shaped_spawn, shaped_full}

count_none : (j : Journal) (e : Entry) → is_spawn e.kind ≡ false → task_count (j ++ e ∷ []) ≡ task_count j
count_none j e h = let a = tasks_push j e ∙ ap (λ b. task_count j + plus b) h in omega (arith, a)

count_more : (j : Journal) (e : Entry) → task_count (j ++ e ∷ []) ≤ task_count j + 1
count_more j e = by (is_spawn e.kind) refl (tasks_push j e)
  where
    by : (b : Bool) → is_spawn e.kind ≡ b → task_count (j ++ e ∷ []) ≡ task_count j + plus (is_spawn e.kind) → task_count (j ++ e ∷ []) ≤ task_count j + 1
    by true h a = let c = a ∙ ap (λ b. task_count j + plus b) h in omega (arith, c)
    by false h a = let c = a ∙ ap (λ b. task_count j + plus b) h in omega (arith, c)

trails_count : (j a : List Entry) → AllTrail a → task_count (j ++ a) ≡ task_count j
trails_count j [] h = ap task_count (append-nil j)
trails_count j (e ∷ a) h =
    ap task_count (sym (append_assoc j (e ∷ []) a)) ∙ trails_count (j ++ e ∷ []) a h.1 ∙ count_none j e (none e.kind h.0)
  where
    none : (k : EntryKind) → trails k ≡ true → is_spawn k ≡ false
    none kind.Spawn h = cc
    none k h = refl

second_count : (j a : List Entry) → SecondFits a → task_count (j ++ a) ≡ task_count j
second_count j [] h = ap task_count (append-nil j)
second_count j (e ∷ a) h =
    ap task_count (sym (append_assoc j (e ∷ []) a)) ∙ trails_count (j ++ e ∷ []) a h.1 ∙ count_none j e (none e.kind h.0)
  where
    none : (k : EntryKind) → (trails k || is_admit k) ≡ true → is_spawn k ≡ false
    none kind.Spawn h = cc
    none k h = refl

shaped_count : (P : EntryKind → Bool) → ((k : EntryKind) → P k ≡ true → is_spawn k ≡ false) → (j a : List Entry) → Shaped P a → task_count (j ++ a) ≡ task_count j
shaped_count P n j [] h = absurd h
shaped_count P n j (e ∷ a) h =
    ap task_count (sym (append_assoc j (e ∷ []) a)) ∙ second_count (j ++ e ∷ []) a h.1 ∙ count_none j e (n e.kind h.0)

shaped_more : (P : EntryKind → Bool) (j a : List Entry) → Shaped P a → task_count (j ++ a) ≤ task_count j + 1
shaped_more P j [] h = absurd h
shaped_more P j (e ∷ a) h =
    let c = ap task_count (sym (append_assoc j (e ∷ []) a)) ∙ second_count (j ++ e ∷ []) a h.1 in
    let m = count_more j e in omega (arith, c, m)

plain_none : (k : EntryKind) → is_plain k ≡ true → is_spawn k ≡ false
plain_none kind.Spawn h = cc
plain_none k h = refl

making_none : (k : EntryKind) → is_making k ≡ true → is_spawn k ≡ false
making_none kind.Spawn h = cc
making_none k h = refl

module _ (opts : Options) (sites : List Site) (input : List ℕ) (j : Journal) (few : task_count j ≤ TASKS) (p t k line : ℕ) where
  few_plain : (r : Request) → makes_new r ≡ false → Fits opts sites j t r → task_count (j ++ act opts sites input j p t k (record { request = r; line = line })) ≤ TASKS
  few_plain r n f =
      let c = shaped_count is_plain plain_none j (act opts sites input j p t k (record { request = r; line = line })) (shaped_act opts sites input j p t k (record { request = r; line = line }) n f) in
      omega (arith, c, few)

  few_spawn : (o : ℕ) (b : Bool) → nat_lt (task_count j) TASKS ≡ b → task_count (j ++ act opts sites input j p t k (record { request = ask.Spawn o; line = line })) ≤ TASKS
  few_spawn o true h =
      let l = ltb-true (task_count j) TASKS h in
      let m = shaped_more is_spawning j (act opts sites input j p t k (record { request = ask.Spawn o; line = line })) (shaped_spawn opts sites input j p t k o line) in
      omega (arith, l, m)
  few_spawn o false h =
      let c = shaped_count is_making making_none j (act opts sites input j p t k (record { request = ask.Spawn o; line = line })) (shaped_full opts sites input j p t k o line h) in
      omega (arith, c, few)

  few_request : (r : Request) → Fits opts sites j t r → task_count (j ++ act opts sites input j p t k (record { request = r; line = line })) ≤ TASKS
  few_request (ask.Make class) f =
      let c = shaped_count is_making making_none j (act opts sites input j p t k (record { request = ask.Make class; line = line })) (shaped_make opts sites input j p t k class line) in
      omega (arith, c, few)
  few_request (ask.Spawn o) f = few_spawn o (nat_lt (task_count j) TASKS) refl
  few_request r f = few_plain r refl f

first_count : (opts : Options) → task_count (begin opts ∷ []) ≡ 1
unfolding task_count
first_count opts = refl

pub few_tasks : (opts : Options) (sites : List Site) (input : List ℕ) {j : Journal} → KernelRuns opts sites input j → task_count j ≤ TASKS
few_tasks opts sites input begun = let e = first_count opts in omega (arith, e)
few_tasks opts sites input (more {j} r o (gives p t v le)) =
    let few = few_tasks opts sites input r in
    let c = count_none j (dispatch p t) refl in omega (arith, few, c)
few_tasks opts sites input (more {j} r o (no_room p t v le)) =
    let few = few_tasks opts sites input r in
    let c = count_none j lone_limit refl in omega (arith, few, c)
few_tasks opts sites input (more {j} r o (acts p t k asked m)) =
    few_request opts sites input j (few_tasks opts sites input r) p t k asked.line asked.request m.fits
