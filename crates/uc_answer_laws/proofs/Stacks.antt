-- The stacks of objects, by the forms that their tasks are to be told.
use Rattle.std.proofs.Common.{◌≡◌, ℕ, zero, suc, ◌==◌, ◌&&◌, ◌||◌, Bool, true, false, cond, not, List, [], ◌∷◌, ◌++◌, Some, None, map, refl, sym, ap, ◌∙◌, subst}
use Rattle.std.proofs.lemmas.Bool.{eqb-true}
use Rattle.uc_tree.specs.Programs.{Site}
use Rattle.uc_entry.specs.declared.entry.Entry.{Entry}
use Rattle.uc_entry.specs.declared.entry.EntryKind.{EntryKind}
use Rattle.uc_entry.specs.declared.entry.EntryKind.TheVariants as kind
use Rattle.uc_entry.specs.declared.request.Answer.{Answer}
use Rattle.uc_acts.specs.Journal.{Journal, inside, holds, is_task}
use Rattle.uc_acts.specs.Queues.{is_nobody, stacked}
use Rattle.uc_acts.specs.Answers.{asks, answer_to}
use Rattle.uc_acts.specs.Doors.{OnStack, open_at, stack_at, stack_after, left_by_task, taken_off, last_call}
use Rattle.uc_acts.specs.Stations.{Ready, Running, Waits, Stacked, Blocked, times}
use Rattle.uc_acts.specs.Sound.{At, Ended, Unborn, Spot, Sound, Stood, here, mover, spot}
use Rattle.uc_acts.specs.Legal.{Legal, DoorFit, removes}
use Rattle.uc_acts.proofs.Seats.{open_after, open_other, open_same}
use Rattle.uc_acts.proofs.SoundLemmas.{self_test, nothing_open, all_kept_nil}
use Rattle.uc_acts.proofs.Moves.{counted_at}
use Rattle.uc_acts.proofs.Stood.{stands_other, stands_same}
use Rattle.uc_answer_laws.specs.Suiting.{Form, AClause, JustGo, IsForm, form_of, then_form, asked_form}
use Rattle.uc_answer_laws.proofs.Told.{Others, SpotSuits, AskerRuns, form_push, spot_step, told_step}

-- an acceptor has the clause by which its accept was met, and nobody else has one
abbrev pub ClauseSuits : Form → ℕ → Type 0
ClauseSuits AClause (suc c) = Unit {0}
ClauseSuits JustGo zero = Unit {0}
ClauseSuits f c = ⊥

abbrev pub AllSuit : Journal → List OnStack → Type 0
AllSuit j [] = Unit {0}
AllSuit j (s ∷ ss) = ClauseSuits (asked_form s.task j) s.clause × AllSuit j ss

-- but for an acceptor on top whose accept is not met yet
abbrev pub StackSuits : Journal → Bool → List OnStack → Type 0
StackSuits j false ss = AllSuit j ss
StackSuits j true [] = Unit {0}
StackSuits j true (s ∷ ss) = (asked_form s.task j ≡ AClause) × AllSuit j ss

-- whether an accept that has taken a caller is not met by its admission yet
abbrev pub pending : EntryKind → Entry → ℕ → Bool
pending kind.Accept e o = holds 1 e.d && (e.object == o)
pending k e o = false

pub record Suits (sites : List Site) (pend : ℕ → Bool) (j : Journal) : Type 0 where
  pub told : (t : ℕ) (a : Answer) → answer_to sites t j ≡ Some a → IsForm (asked_form t j) a
  pub spots : (t : ℕ) → SpotSuits (spot t j) (asked_form t j)
  pub stacks : (o : ℕ) → StackSuits j (pend o || not (is_nobody (open_at o j))) (stack_at sites o j)

abbrev pub none : ℕ → Bool
none o = false

abbrev tasks : List OnStack → List ℕ
tasks ss = map (λ (s : OnStack). s.task) ss

-- the forms of these tasks are the same
abbrev pub SameForms : Journal → Journal → List OnStack → Type 0
SameForms i j ss = (t n : ℕ) → times t (tasks ss) ≡ suc n → asked_form t i ≡ asked_form t j

same_rest : (i j : Journal) (x : OnStack) (ss : List OnStack) → SameForms i j (x ∷ ss) → SameForms i j ss
same_rest i j x ss f t n q = by (t == x.task) refl
  where
    by : (b : Bool) → (t == x.task) ≡ b → asked_form t i ≡ asked_form t j
    by true h = f t (times t (tasks ss)) (simp h)
    by false h = f t n (simp h q)

same_first : (i j : Journal) (x : OnStack) (ss : List OnStack) → SameForms i j (x ∷ ss) → asked_form x.task i ≡ asked_form x.task j
same_first i j x ss f = let self = self_test x.task in f x.task (times x.task (tasks ss)) (simp self)

pub all_same : (i j : Journal) (ss : List OnStack) → SameForms i j ss → AllSuit j ss → AllSuit i ss
all_same i j [] f h = tt
all_same i j (x ∷ ss) f h = (subst (λ f. ClauseSuits f x.clause) (sym (same_first i j x ss f)) h.0, all_same i j ss (same_rest i j x ss f) h.1)

stack_same : (i j : Journal) (b : Bool) (ss : List OnStack) → SameForms i j ss → StackSuits j b ss → StackSuits i b ss
stack_same i j false ss f h = all_same i j ss f h
stack_same i j true [] f h = tt
stack_same i j true (x ∷ ss) f h = (same_first i j x ss f ∙ h.0, all_same i j ss (same_rest i j x ss f) h.1)

left_all : (i : Journal) (t : ℕ) (failed : Bool) (ss : List OnStack) → AllSuit i ss → AllSuit i (map (left_by_task t failed) ss)
left_all i t failed [] h = tt
left_all i t failed (s ∷ ss) h = (by (is_task t s.met), left_all i t failed ss h.1)
  where
    by : (b : Bool) → ClauseSuits (asked_form (cond b (record s { met = None; failed = failed }) s).task i) (cond b (record s { met = None; failed = failed }) s).clause
    by true = h.0
    by false = h.0

pub off_all : (i : Journal) (t : ℕ) (ss : List OnStack) → AllSuit i ss → AllSuit i (taken_off t ss)
off_all i t [] h = tt
off_all i t (s ∷ ss) h = by (s.task == t) (off_all i t ss h.1)
  where
    by : (b : Bool) → AllSuit i (taken_off t ss) → AllSuit i (cond (not b) (s ∷ taken_off t ss) (taken_off t ss))
    by true r = r
    by false r = (h.0, r)

-- one entry more, which admits nobody

module _ (sites : List Site) (e : Entry) (j : Journal) (s : Sound j) (g : Stood sites j) where
  abbrev i : Journal
  i = j ++ e ∷ []

  pub stacked_there : (o t n : ℕ) → times t (tasks (stack_at sites o j)) ≡ suc n → spot t j ≡ At (Stacked o)
  stacked_there o t n h = counted_at j s (Stacked o) t n (ap (times t) (sym (g.tasks o)) ∙ h)

  form_same : AskerRuns e j → (t o : ℕ) → spot t j ≡ At (Stacked o) → asked_form t i ≡ asked_form t j
  form_same asker t o h = form_push t j e ∙ by (asks t e.kind e) refl
    where
      by : (b : Bool) → asks t e.kind e ≡ b → then_form t (asked_form t j) e ≡ asked_form t j
      by true q = let r = asker t q in clash r.processor (sym h ∙ r.at)
        where
          clash : (p : ℕ) → At (Stacked o) ≡ At (Running p) → then_form t (asked_form t j) e ≡ asked_form t j
          clash p f = absurd (cc)
      by false q = simp q

  pub kept : AskerRuns e j → (o : ℕ) (b : Bool) → StackSuits j b (stack_at sites o j) → StackSuits i b (stack_at sites o j)
  kept asker o b h = stack_same i j b (stack_at sites o j) (λ t n q. form_same asker t o (stacked_there o t n q)) h

  module _ (l : Legal e j) (asker : AskerRuns e j) (old : Suits sites none j) where
    abbrev ss : List OnStack
    ss = stack_at sites e.object j

    abbrev opened : List Entry
    opened = open_at e.object j

    -- where nothing is open
    all_when : opened ≡ [] → AllSuit i ss
    all_when shut = kept asker e.object false (subst (λ l. StackSuits j (not (is_nobody l)) ss) shut (old.stacks e.object))

    own_form_is : (k : EntryKind) → e.kind ≡ k → asks e.task k e ≡ (e.task == e.task) → asked_form e.task i ≡ form_of k
    own_form_is k q h =
        let self = self_test e.task in
        let now : asks e.task e.kind e ≡ true = ap (λ x. asks e.task x e) q ∙ h ∙ self in
        form_push e.task j e ∙ by (asks e.task e.kind e) now
      where
        by : (b : Bool) → b ≡ true → cond b (form_of e.kind) (asked_form e.task j) ≡ form_of k
        by true h = ap form_of q
        by false h = absurd (cc)

    pushed_go : e.kind ≡ kind.Push → asked_form e.task i ≡ JustGo
    pushed_go q = form_push e.task j e ∙ (ap (λ k. cond (asks e.task k e) (form_of k) (asked_form e.task j)) q ∙ by (spot e.task j) refl (old.spots e.task))
      where
        moves : mover e.kind e e.task ≡ true
        moves = ap (λ k. mover k e e.task) q ∙ self_test e.task

        by : (P : Spot) → spot e.task j ≡ P → SpotSuits P (asked_form e.task j) → asked_form e.task j ≡ JustGo
        by Unborn h f = f
        by Ended h f = f
        by (At (Waits o)) h f = f
        by (At (Blocked o c)) h f = f
        by (At (Ready k)) h f =
            let self = self_test k in
            let z : here (Ready k) (At (Ready k)) ≡ 0 = ap (here (Ready k)) (sym h) ∙ l.from e.task moves (Ready k) (ap (λ x. removes (Ready k) x e) q) in
            absurd (cc (z, self))
        by (At (Running k)) h f =
            let self = self_test k in
            let z : here (Running k) (At (Running k)) ≡ 0 = ap (here (Running k)) (sym h) ∙ l.from e.task moves (Running k) (ap (λ x. removes (Running k) x e) q) in
            absurd (cc (z, self))
        by (At (Stacked k)) h f =
            let self = self_test k in
            let z : here (Stacked k) (At (Stacked k)) ≡ 0 = ap (here (Stacked k)) (sym h) ∙ l.from e.task moves (Stacked k) (ap (λ x. removes (Stacked k) x e) q) in
            absurd (cc (z, self))

    within_shut : (t : ℕ) → inside e.object j ≡ t ∷ [] → opened ≡ []
    within_shut t h = nothing_open (inside e.object j) opened (stacked e.object j) t (s.doors e.object) h

    abbrev Behind : EntryKind → Type 0
    Behind k = StackSuits i (pending k e e.object || not (is_nobody (open_after k e opened))) (stack_after sites k e (last_call e.object j e.task) ss)

    accept_by : (a b : Bool) → holds 0 e.d ≡ a → holds 1 e.d ≡ b → opened ≡ [] → asked_form e.task i ≡ AClause → Behind kind.Accept
    accept_by true true h f shut form = let self = self_test e.object in simp (h, f, shut, self) (form, all_when shut)
    accept_by true false h f shut form = simp (h, f, shut) (form, all_when shut)
    accept_by false true h f shut form = let self = self_test e.object in simp (h, f, shut, self) (form, all_when shut)
    accept_by false false h f shut form = simp (h, f, shut) (all_when shut)

    signal_by : (b : Bool) → holds 1 e.b ≡ b → opened ≡ [] → asked_form e.task i ≡ JustGo → Behind kind.SignalBlock
    signal_by true h shut form = simp (h, shut) (subst (λ f. ClauseSuits f 0) (sym form) tt, all_when shut)
    signal_by false h shut form = simp (h, shut) (all_when shut)

    at_same : (k : EntryKind) → e.kind ≡ k → (k ≡ kind.Admit → ⊥) → DoorFit k e (inside e.object j) opened → Behind k
    at_same kind.Accept q n door = accept_by (holds 0 e.d) (holds 1 e.d) refl refl (within_shut e.task door) (own_form_is kind.Accept q refl)
    at_same kind.SignalBlock q n door = signal_by (holds 1 e.b) refl (within_shut e.task door) (own_form_is kind.SignalBlock q refl)
    at_same kind.Push q n door = simp door (subst (λ f. ClauseSuits f 0) (sym (pushed_go q)) tt, all_when door)
    at_same kind.Leave q n door =
        let shut = within_shut e.task door in
        simp shut (left_all i e.task (holds 1 e.a) ss (all_when shut))
    at_same kind.Admit q n door = absurd (n refl)
    at_same k q n door =
        subst (λ l. StackSuits i (not (is_nobody l)) ss) (sym (all_kept_nil opened)) (kept asker e.object (not (is_nobody opened)) (old.stacks e.object))

    pend_other : (k : EntryKind) (o : ℕ) → (e.object == o) ≡ false → pending k e o ≡ false
    pend_other kind.Accept o h = by (holds 1 e.d)
      where
        by : (b : Bool) → (b && (e.object == o)) ≡ false
        by true = h
        by false = refl
    pend_other k o h = refl

    stack_by : (e.kind ≡ kind.Admit → ⊥) → (o : ℕ) (b : Bool) → (e.object == o) ≡ b → StackSuits i (pending e.kind e o || not (is_nobody (open_at o i))) (stack_at sites o i)
    stack_by n o false h = rw (stands_other sites o j e h, open_other o j e h, pend_other e.kind o h) (kept asker o (not (is_nobody (open_at o j))) (old.stacks o))
    stack_by n o true h =
        subst (λ o. StackSuits i (pending e.kind e o || not (is_nobody (open_at o i))) (stack_at sites o i)) (eqb-true e.object o h) (rw (stands_same sites e.object j e (self_test e.object), open_same e.object j e (self_test e.object)) (at_same e.kind refl n l.door))

    pub suits_step : ((t : ℕ) (a : Answer) → Others e.kind t e a → IsForm (asked_form t j) a) → (e.kind ≡ kind.Admit → ⊥) → Suits sites (pending e.kind e) i
    suits_step outside n = record {
      told = told_step sites e j outside old.told;
      spots = spot_step e j asker old.spots;
      stacks = λ o. stack_by n o (e.object == o) refl;
    }
