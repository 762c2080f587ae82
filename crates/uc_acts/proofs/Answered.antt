-- A task that is ready or runs has an answer.
use Rattle.std.proofs.Common.{◌≡◌, ℕ, suc, ◌==◌, ◌&&◌, ◌||◌, Bool, true, false, not, List, [], ◌∷◌, ◌++◌, Option, Some, None, refl, sym, ap, ◌∙◌, subst, append-nil, append_assoc}
use Rattle.std.specs.Prelude.{reverse}
use Rattle.std.specs.Option.{option_to_list}
use Rattle.std.specs.List.{filter}
use Rattle.std.proofs.lemmas.List.{reverse-append}
use Rattle.std.proofs.lemmas.Bool.{eqb-true, eq-eqb}
use Rattle.uc_tree.specs.Programs.{Site}
use Rattle.uc_entry.specs.declared.entry.Entry.{Entry}
use Rattle.uc_entry.specs.declared.entry.EntryKind.{EntryKind}
use Rattle.uc_entry.specs.declared.entry.EntryKind.TheVariants as kind
use Rattle.uc_entry.specs.declared.entry.Options.{Options}
use Rattle.uc_entry.specs.declared.request.Answer.{Answer}
use Rattle.uc_entry.specs.declared.request.Answer.TheVariants as answer
use Rattle.uc_acts.specs.Journal.{Journal, begin, number, holds, where_true, stacks_acceptor, is_over, is_fault, cost, no_cost}
use Rattle.uc_acts.specs.Queues.{Noted, ready}
use Rattle.uc_acts.specs.Known.{has}
use Rattle.uc_acts.specs.Answers.{tells, asks, answer_to, first_of, told_if, accept_answer, let_in_answer}
use Rattle.uc_acts.specs.Stations.{Ready, Running, times}
use Rattle.uc_acts.specs.Sound.{At, Sound, Spot, mover, target, moved_if, spot}
use Rattle.uc_acts.specs.Acts.{row, fault, is_faulty, dispatch, lone_limit}
use Rattle.uc_acts.specs.KernelRuns.{KernelMay, KernelRuns, gives, no_room, acts, begun, more}
use Rattle.uc_acts.specs.Laws.{LawAnswered, IsAnswered}
use Rattle.uc_acts.specs.Open.{still_open}
use Rattle.uc_acts.proofs.OpenLemmas.{still_open_push}
use Rattle.uc_acts.proofs.Noted.{noted_at}
use Rattle.uc_acts.proofs.Spots.{spot_push}
use Rattle.uc_acts.proofs.Moves.{first_at, counted_at}
use Rattle.uc_acts.proofs.Law.{good_whole, spot_none}
use Rattle.uc_acts.proofs.Rest.{or_parts, settled_calm}
use Rattle.uc_acts.proofs.Bounds.{over_limit}
use Rattle.uc_acts.proofs.Given.{answer_given}
use Rattle.uc_acts.proofs.Acting.{is_giving, object_of, destroys, FieldsFit, AllBy, by_row}
use Rattle.uc_acts.proofs.Living.{going_row}

no_both : (b : Bool) → b ≡ true → b ≡ false → ⊥
no_both b t f = cc

-- the answer once an entry stands
abbrev pub later : Option Answer → Bool → Option Answer → Option Answer
later (Some x) b old = Some x
later None true old = None
later None false old = old

all_left : (xs : List Answer) → filter (λ x. true) xs ≡ xs
all_left [] = refl
all_left (x ∷ xs) = ap (λ l. x ∷ l) (all_left xs)

none_left : (xs : List Answer) → filter (λ x. false) xs ≡ []
none_left [] = refl
none_left (x ∷ xs) = none_left xs

pub answer_push : (sites : List Site) (t : ℕ) (j : Journal) (e : Entry) → answer_to sites t (j ++ e ∷ []) ≡ later (tells sites t e.kind e) (asks t e.kind e) (answer_to sites t j)
unfolding answer_to
answer_push sites t j e =
    let old = still_open (λ e. tells sites t e.kind e) (λ e x. asks t e.kind e) j in
    ap (λ l. first_of (reverse l)) (still_open_push (λ e. tells sites t e.kind e) (λ e x. asks t e.kind e) j e) ∙ by old (tells sites t e.kind e) (asks t e.kind e)
  where
    by : (old : List Answer) (x : Option Answer) (b : Bool) → first_of (reverse (filter (λ a. not b) old ++ option_to_list x)) ≡ later x b (first_of (reverse old))
    by old (Some x) b = ap first_of (reverse-append (filter (λ a. not b) old) (x ∷ []))
    by old None true = ap (λ l. first_of (reverse l)) (append-nil (filter (λ a. false) old) ∙ none_left old)
    by old None false = ap (λ l. first_of (reverse l)) (append-nil (filter (λ a. true) old) ∙ all_left old)

abbrev is_there : Option Answer → Bool
is_there None = false
is_there (Some x) = true

-- a task at this spot is ready or runs
abbrev is_active : Spot → Bool
is_active (At (Ready k)) = true
is_active (At (Running p)) = true
is_active x = false

pub record Told (sites : List Site) (j : Journal) : Type 0 where
  pub told : (t : ℕ) → is_active (spot t j) ≡ true → is_there (answer_to sites t j) ≡ true

there_where : (b : Bool) (x : Answer) → b ≡ true → is_there (where_true b x) ≡ true
there_where true x h = refl
there_where false x h = cc

or_last : (a b : Bool) → b ≡ true → (a || b) ≡ true
or_last true b h = refl
or_last false b h = h

-- who is moved and then ready or running is told something
target_told : (sites : List Site) (k : EntryKind) (x : Noted) (t : ℕ) → is_giving k ≡ false → mover k x.entry t ≡ true → is_active (target k x t) ≡ true → is_there (tells sites t k x.entry) ≡ true
target_told sites kind.Begin x t g m a = cc
target_told sites kind.Dispatch x t g m a = cc
target_told sites kind.Spawn x t g m a = there_where ((t == x.entry.task) || (t == number x.entry.a)) answer.Go (or_last (t == x.entry.task) (t == number x.entry.a) m)
target_told sites kind.Slice x t g m a = there_where (t == x.entry.task) answer.Go m
target_told sites kind.Yield x t g m a = there_where (t == x.entry.task) answer.Go m
target_told sites kind.Migrate x t g m a = there_where (t == x.entry.task) answer.Go m
target_told sites kind.Admit x t g m a = there_where (t == x.entry.task) (let_in_answer (number x.entry.b) (holds 1 x.entry.c)) m
target_told sites k x t g m a = cc

-- who asks and is not moved is told something, but for a fault
asked_told : (sites : List Site) (k : EntryKind) (e : Entry) (t : ℕ) → asks t k e ≡ true → mover k e t ≡ false → is_fault k ≡ false → FieldsFit k e → is_there (tells sites t k e) ≡ true
asked_told sites kind.Begin e t h m n f = cc
asked_told sites kind.Dispatch e t h m n f = cc
asked_told sites kind.Admit e t h m n f = cc
asked_told sites kind.Push e t h m n f = cc
asked_told sites kind.Done e t h m n f = cc
asked_told sites kind.Deadlock e t h m n f = cc
asked_told sites kind.NoProcessor e t h m n f = cc
asked_told sites kind.Limit e t h m n f = cc
asked_told sites kind.Fault e t h m n f = cc
asked_told sites kind.Call e t h m n f = absurd (no_both (t == e.task) h m)
asked_told sites kind.Wait e t h m n f = absurd (no_both (t == e.task) h m)
asked_told sites kind.End e t h m n f = absurd (no_both (t == e.task) h m)
asked_told sites kind.Slice e t h m n f = absurd (no_both (t == e.task) h m)
asked_told sites kind.Yield e t h m n f = absurd (no_both (t == e.task) h m)
asked_told sites kind.Migrate e t h m n f = absurd (no_both (t == e.task) h m)
asked_told sites kind.Spawn e t h m n f = there_where ((t == e.task) || (t == number e.a)) answer.Go (ap (λ b. b || (t == number e.a)) h)
asked_told sites kind.Accept e t h m n f =
    let off : stacks_acceptor e ≡ false = sym (ap (λ b. b && stacks_acceptor e) h) ∙ m in
    ap (λ b. is_there (told_if b (accept_answer sites e))) h ∙ by (holds 2 e.d) (holds 3 e.d) refl refl (sym (ap (λ b. b || (holds 2 e.d || holds 3 e.d)) off) ∙ f)
  where
    by : (a b : Bool) → holds 2 e.d ≡ a → holds 3 e.d ≡ b → (holds 2 e.d || holds 3 e.d) ≡ true → is_there (accept_answer sites e) ≡ true
    by true b p q r = simp p
    by false true p q r = simp (p, q)
    by false false p q r = absurd (no_both (holds 2 e.d || holds 3 e.d) r (simp (p, q)))
asked_told sites kind.SignalBlock e t h m n f =
    let off : holds 1 e.b ≡ false = sym (ap (λ b. b && holds 1 e.b) h) ∙ m in
    let on : holds 0 e.b ≡ true = first (holds 0 e.b) (holds 1 e.b) f off in
    simp (h, on)
  where
    first : (a b : Bool) → (a || b) ≡ true → b ≡ false → a ≡ true
    first true b h g = refl
    first false b h g = absurd (no_both b h g)
asked_told sites k e t h m n f = simp h

told_step : (sites : List Site) (e : Entry) (j : Journal) → is_giving e.kind ≡ false → is_fault e.kind ≡ false → FieldsFit e.kind e → Told sites j → Told sites (j ++ e ∷ [])
told_step sites e j g n f old = record { told = λ t a. ap is_there (answer_push sites t j e) ∙ by t (mover e.kind e t) refl (ap is_active (sym (spot_push t j e)) ∙ a) }
  where
    there_later : (x : Option Answer) (b : Bool) (y : Option Answer) → is_there x ≡ true → is_there (later x b y) ≡ true
    there_later (Some x) b y h = refl
    there_later None b y h = cc

    kept : (x : Option Answer) (b : Bool) (y : Option Answer) → (b ≡ true → is_there x ≡ true) → is_there y ≡ true → is_there (later x b y) ≡ true
    kept (Some x) b y h i = refl
    kept None true y h i = h refl
    kept None false y h i = i

    by : (t : ℕ) (m : Bool) → mover e.kind e t ≡ m → is_active (moved_if (mover e.kind e t) (target e.kind (noted_at j e) t) (spot t j)) ≡ true → is_there (later (tells sites t e.kind e) (asks t e.kind e) (answer_to sites t j)) ≡ true
    by t true h a =
        there_later (tells sites t e.kind e) (asks t e.kind e) (answer_to sites t j) (target_told sites e.kind (noted_at j e) t g h (sym (ap (λ b. is_active (moved_if b (target e.kind (noted_at j e) t) (spot t j))) h) ∙ a))
    by t false h a =
        kept (tells sites t e.kind e) (asks t e.kind e) (answer_to sites t j) (λ k. asked_told sites e.kind e t k h n f) (old.told t (sym (ap (λ b. is_active (moved_if b (target e.kind (noted_at j e) t) (spot t j))) h) ∙ a))

told_all : (p t o : ℕ) (A : Type 0) (g : Bool) (sites : List Site) (j : Journal) (a : List Entry) → AllBy p t o A g a → is_faulty a ≡ false → Told sites j → Told sites (j ++ a)
told_all p t o A g sites j [] b n old = subst (Told sites) (sym (append-nil j)) old
told_all p t o A g sites j (e ∷ a) b n old =
    let parts = or_parts (is_fault e.kind) (is_faulty a) n in
    subst (Told sites) (append_assoc j (e ∷ []) a) (told_all p t o A g sites (j ++ e ∷ []) a b.1 parts.1 (told_step sites e j b.0.acts parts.0 b.0.fields old))

-- a task that is given a processor was ready
told_given : (sites : List Site) (j : Journal) (p t k : ℕ) (rest : List ℕ) → Sound j → ready k j ≡ t ∷ rest → Told sites j → Told sites (j ++ dispatch p t ∷ [])
told_given sites j p t k rest s q old = record { told = λ u a. ap is_there (answer_given p t j sites u) ∙ old.told u (by u (u == t) refl (ap is_active (sym (spot_push u j (dispatch p t))) ∙ a)) }
  where
    by : (u : ℕ) (b : Bool) → (u == t) ≡ b → is_active (moved_if (u == t) (At (Running p)) (spot u j)) ≡ true → is_active (spot u j) ≡ true
    by u true h a = ap (λ v. is_active (spot v j)) (eqb-true u t h) ∙ ap is_active (first_at j s (Ready k) t rest q)
    by u false h a = sym (ap (λ b. is_active (moved_if b (At (Running p)) (spot u j))) h) ∙ a

told_begin : (opts : Options) (sites : List Site) → Told sites (begin opts ∷ [])
told_begin opts sites = record { told = λ t a. by t (t == 0) refl a }
  where
    by : (t : ℕ) (b : Bool) → (t == 0) ≡ b → is_active (spot t (begin opts ∷ [])) ≡ true → is_there (answer_to sites t (begin opts ∷ [])) ≡ true
    by t true h a = ap is_there (answer_push sites t [] (begin opts) ∙ ap (λ b. later (where_true b answer.Go) false (answer_to sites t [])) h)
    by t false h a = absurd (nowhere t h a)
      where
        nowhere : (t : ℕ) → (t == 0) ≡ false → is_active (spot t (begin opts ∷ [])) ≡ true → ⊥
        nowhere t h a = no_both (is_active (spot t (begin opts ∷ []))) a (ap is_active (spot_push t [] (begin opts) ∙ ap (λ b. moved_if b (At (Ready 0)) (spot t [])) h) ∙ ap is_active (spot_none t))

told_may : (opts : Options) (sites : List Site) (input : List ℕ) (j : Journal) (a : List Entry) → Sound j → Told sites j → KernelMay opts sites input j a → is_over (j ++ a) ≡ false → Told sites (j ++ a)
told_may opts sites input j _ s old (gives p t v le) o = told_given sites j p t v.cluster v.later s v.queued old
told_may opts sites input j _ s old (no_room p t v le) o = absurd (no_both (is_over (j ++ lone_limit ∷ [])) (over_limit j 0 0) o)
told_may opts sites input j _ s old (acts p t k asked m) o =
    let g = going_row opts sites input j p t k asked o in
    let rows = row opts sites input j p t (cost k asked.line) asked.line asked.request in
    let calm : is_faulty rows ≡ false = ap is_faulty (sym (settled_calm (fault p t no_cost 10 asked.line) j rows refl g.1)) ∙ g.1 in
    subst (λ a. Told sites (j ++ a)) (sym g.0) (told_all p t (object_of t j asked.request) (Unit {0}) (destroys asked.request) sites j rows (by_row opts sites input j p t (cost k asked.line) asked.line (Unit {0}) asked.request (λ h. tt)) calm old)

told_run : (opts : Options) (sites : List Site) (input : List ℕ) {j : Journal} → KernelRuns opts sites input j → is_over j ≡ false → Told sites j
told_run opts sites input begun o = told_begin opts sites
told_run opts sites input (more {j} {a} r before m) o =
    told_may opts sites input j a (good_whole opts sites input r).sound (told_run opts sites input r before) m o

some_answer : (sites : List Site) (j : Journal) (t : ℕ) (x : Option Answer) → answer_to sites t j ≡ x → is_there x ≡ true → IsAnswered sites j t
some_answer sites j t None h a = cc
some_answer sites j t (Some x) h a = record { answer = x; told = h }

has_times : (t : ℕ) (xs : List ℕ) → has xs t ≡ true → (n : ℕ) × (times t xs ≡ suc n)
has_times t [] h = cc
has_times t (x ∷ xs) h = by (x == t) refl h (has_times t xs)
  where
    flip : (b : Bool) → (t == x) ≡ b → (x == t) ≡ false → (t == x) ≡ false
    flip false g h = g
    flip true g h = absurd (no_both (x == t) (eq-eqb x t (sym (eqb-true t x g))) h)

    by : (b : Bool) → (x == t) ≡ b → ((x == t) || has xs t) ≡ true → (has xs t ≡ true → (n : ℕ) × (times t xs ≡ suc n)) → (n : ℕ) × (times t (x ∷ xs) ≡ suc n)
    by true e h ih = let f : (t == x) ≡ true = eq-eqb t x (sym (eqb-true x t e)) in (times t xs, simp f)
    by false e h ih = let r = ih (simp e at h) in let f = flip (t == x) refl e in (r.0, simp f r.1)

pub law_answered : LawAnswered
law_answered opts sites input j r o =
    let s = (good_whole opts sites input r).sound in
    let l = told_run opts sites input r o in
    record {
      ready = λ k t h.
          let n = has_times t (ready k j) h in
          some_answer sites j t (answer_to sites t j) refl (l.told t (ap is_active (counted_at j s (Ready k) t n.0 n.1)));
      running = λ p t h. some_answer sites j t (answer_to sites t j) refl (l.told t (ap is_active (first_at j s (Running p) t [] h)));
    }
