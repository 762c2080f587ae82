-- What one entry tells, by the form that is asked for.
use Rattle.std.proofs.Common.{◌≡◌, ℕ, zero, suc, ◌==◌, ◌||◌, Bool, true, false, List, [], ◌∷◌, ◌++◌, Option, Some, None, refl, sym, ap, ◌∙◌, subst}
use Rattle.std.specs.Prelude.{ℤ}
use Rattle.std.proofs.lemmas.List.Sums.{fold_push}
use Rattle.std.proofs.lemmas.Bool.{eqb-true}
use Rattle.uc_tree.specs.Programs.{Site}
use Rattle.uc_entry.specs.declared.entry.Entry.{Entry}
use Rattle.uc_entry.specs.declared.entry.EntryKind.{EntryKind}
use Rattle.uc_entry.specs.declared.entry.EntryKind.TheVariants as kind
use Rattle.uc_entry.specs.declared.request.Answer.{Answer}
use Rattle.uc_entry.specs.declared.request.Answer.TheVariants as answer
use Rattle.uc_tree.specs.declared.limits.TheConstants.{DESTRUCTOR}
use Rattle.uc_tree.specs.SiteOffers.{clause_for, or_0}
use Rattle.uc_acts.specs.Doors.{offered}
use Rattle.uc_acts.specs.Journal.{Journal, number, holds, where_true}
use Rattle.uc_acts.specs.Queues.{Noted}
use Rattle.uc_acts.specs.Answers.{tells, asks, answer_to, told_if, accept_answer, poll_answer, let_in_answer}
use Rattle.uc_acts.specs.Stations.{Ready, Running, Waits, Stacked, Blocked}
use Rattle.uc_acts.specs.Sound.{At, Ended, Unborn, Spot, mover, target, moved_if, own_or_ready, spot}
use Rattle.uc_acts.proofs.Noted.{noted_at}
use Rattle.uc_acts.proofs.Spots.{spot_push}
use Rattle.uc_acts.proofs.Answered.{later, answer_push}
use Rattle.uc_answer_laws.specs.Suiting.{Form, AnObject, AClause, ANumber, AValue, AnEvent, JustGo, IsForm, form_of, then_form, asked_form}

pub form_push : (t : ℕ) (j : Journal) (e : Entry) → asked_form t (j ++ e ∷ []) ≡ then_form t (asked_form t j) e
unfolding asked_form
form_push t j e = fold_push (then_form t) JustGo j e

pub no_both : {A : Type 0} (b : Bool) → b ≡ true → b ≡ false → A
no_both b t f = absurd (cc)

told_where : (b : Bool) (x a : Answer) → where_true b x ≡ Some a → x ≡ a
told_where true x a h = cc
told_where false x a h = absurd (cc)

told_only : (b : Bool) (x : Option Answer) (a : Answer) → told_if b x ≡ Some a → x ≡ Some a
told_only true x a h = h
told_only false x a h = absurd (cc)

told_form : (f : Form) (b : Bool) (x a : Answer) → IsForm f x → where_true b x ≡ Some a → IsForm f a
told_form f b x a h e = subst (IsForm f) (told_where b x a e) h

poll_form : (n : ℕ) (x y : ℤ) → IsForm AnEvent (poll_answer n x y)
poll_form zero x y = tt
poll_form (suc n) x y = tt

clause_form : (sites : List Site) (e : Entry) (a : Answer) → accept_answer sites e ≡ Some a → IsForm AClause a
clause_form sites e a h = by (holds 2 e.d) (holds 3 e.d) refl refl
  where
    some : (x : Answer) → IsForm AClause x → Some x ≡ Some a → IsForm AClause a
    some x f g = let q : x ≡ a = cc in subst (IsForm AClause) q f

    by : (p q : Bool) → holds 2 e.d ≡ p → holds 3 e.d ≡ q → IsForm AClause a
    by true q u v = some (answer.Clause 0 false) tt (sym (simp u) ∙ h)
    by false true u v =
        let q : accept_answer sites e ≡ Some (answer.Clause (or_0 (clause_for (offered sites e) DESTRUCTOR)) false) = simp (u, v) in
        some (answer.Clause (or_0 (clause_for (offered sites e) DESTRUCTOR)) false) tt (sym q ∙ h)
    by false false u v = absurd (cc)

-- what the entry by which a task asks tells it
own_form : (sites : List Site) (k : EntryKind) (e : Entry) (t : ℕ) (a : Answer) → asks t k e ≡ true → tells sites t k e ≡ Some a → IsForm (form_of k) a
own_form sites kind.Begin e t a h f = absurd (cc)
own_form sites kind.Dispatch e t a h f = absurd (cc)
own_form sites kind.Admit e t a h f = absurd (cc)
own_form sites kind.Push e t a h f = absurd (cc)
own_form sites kind.Done e t a h f = absurd (cc)
own_form sites kind.Deadlock e t a h f = absurd (cc)
own_form sites kind.NoProcessor e t a h f = absurd (cc)
own_form sites kind.Limit e t a h f = absurd (cc)
own_form sites kind.Call e t a h f = absurd (cc)
own_form sites kind.Wait e t a h f = absurd (cc)
own_form sites kind.End e t a h f = absurd (cc)
own_form sites kind.Fault e t a h f = absurd (cc)
own_form sites kind.Accept e t a h f = clause_form sites e a (told_only (t == e.task) (accept_answer sites e) a f)
own_form sites kind.SignalBlock e t a h f = told_form JustGo (holds 0 e.b) answer.Go a tt (told_only (t == e.task) (where_true (holds 0 e.b) answer.Go) a f)
own_form sites kind.Poll e t a h f = told_form AnEvent (t == e.task) (poll_answer (number e.a) e.c e.d) a (poll_form (number e.a) e.c e.d) f
own_form sites kind.Slice e t a h f = told_form JustGo _ answer.Go a tt f
own_form sites kind.Yield e t a h f = told_form JustGo _ answer.Go a tt f
own_form sites kind.Make e t a h f = told_form AnObject _ (answer.Object e.object) a tt f
own_form sites kind.Made e t a h f = told_form JustGo _ answer.Go a tt f
own_form sites kind.Spawn e t a h f = told_form JustGo _ answer.Go a tt f
own_form sites kind.Leave e t a h f = told_form JustGo _ answer.Go a tt f
own_form sites kind.Signal e t a h f = told_form JustGo _ answer.Go a tt f
own_form sites kind.Empty e t a h f = told_form ANumber _ (answer.Number e.b) a tt f
own_form sites kind.Front e t a h f = told_form ANumber _ (answer.Number e.b) a tt f
own_form sites kind.Raise e t a h f = told_form JustGo _ answer.Go a tt f
own_form sites kind.Print e t a h f = told_form JustGo _ answer.Go a tt f
own_form sites kind.Read e t a h f = told_form AValue _ (answer.Value e.b (holds 1 e.c)) a tt f
own_form sites kind.Fail e t a h f = told_form ANumber _ (answer.Number e.b) a tt f
own_form sites kind.Cluster e t a h f = told_form AnObject _ (answer.Object (number e.a)) a tt f
own_form sites kind.ClusterEnd e t a h f = told_form JustGo _ answer.Go a tt f
own_form sites kind.Processor e t a h f = told_form AnObject _ (answer.Object (number e.a)) a tt f
own_form sites kind.ProcessorEnd e t a h f = told_form JustGo _ answer.Go a tt f
own_form sites kind.Migrate e t a h f = told_form JustGo _ answer.Go a tt f
own_form sites kind.Gone e t a h f = told_form JustGo _ answer.Go a tt f

-- what is told to others than who asks: the first task and a new one go on, and who is let in is told so
abbrev pub Others : EntryKind → ℕ → Entry → Answer → Type 0
Others kind.Begin t e a = a ≡ answer.Go
Others kind.Spawn t e a = (t ≡ number e.a) × (a ≡ answer.Go)
Others kind.Admit t e a = (t ≡ e.task) × (a ≡ let_in_answer (number e.b) (holds 1 e.c))
Others k t e a = ⊥

others : (sites : List Site) (k : EntryKind) (e : Entry) (t : ℕ) (a : Answer) → asks t k e ≡ false → tells sites t k e ≡ Some a → Others k t e a
others sites kind.Begin e t a h f = sym (told_where (t == 0) answer.Go a f)
others sites kind.Spawn e t a h f = (by (t == e.task) (t == number e.a) refl h f, sym (told_where ((t == e.task) || (t == number e.a)) answer.Go a f))
  where
    by : (p q : Bool) → (t == number e.a) ≡ q → p ≡ false → where_true (p || q) answer.Go ≡ Some a → t ≡ number e.a
    by p true g h f = eqb-true t (number e.a) g
    by true false g h f = absurd (cc)
    by false false g h f = absurd (cc)
others sites kind.Admit e t a h f = (by (t == e.task) refl f, sym (told_where (t == e.task) (let_in_answer (number e.b) (holds 1 e.c)) a f))
  where
    by : (p : Bool) → (t == e.task) ≡ p → where_true p (let_in_answer (number e.b) (holds 1 e.c)) ≡ Some a → t ≡ e.task
    by true g f = eqb-true t e.task g
    by false g f = absurd (cc)
others sites k e t a h f = absurd (cc)

-- where a task is that is to be told something

abbrev pub SpotSuits : Spot → Form → Type 0
SpotSuits Unborn f = f ≡ JustGo
SpotSuits Ended f = f ≡ JustGo
SpotSuits (At (Ready k)) f = Unit {0}
SpotSuits (At (Running p)) f = Unit {0}
SpotSuits (At (Waits o)) f = f ≡ JustGo
SpotSuits (At (Stacked o)) f = Unit {0}
SpotSuits (At (Blocked o c)) f = f ≡ JustGo

moved_suits : (k : EntryKind) (x : Noted) (t : ℕ) (f : Form) → mover k x.entry t ≡ true → asks t k x.entry ≡ false → SpotSuits (target k x t) f
moved_suits kind.Begin x t f m h = tt
moved_suits kind.Spawn x t f m h = tt
moved_suits kind.Dispatch x t f m h = tt
moved_suits kind.Push x t f m h = tt
moved_suits kind.Admit x t f m h = by (x.entry.task == x.actor)
  where
    by : (b : Bool) → SpotSuits (own_or_ready b x.entry.proc (x.cluster t)) f
    by true = tt
    by false = tt
moved_suits k x t f m h = absurd (cc)

own_suits : (k : EntryKind) (x : Noted) (t : ℕ) → mover k x.entry t ≡ true → asks t k x.entry ≡ true → SpotSuits (target k x t) (form_of k)
own_suits kind.Spawn x t m h = tt
own_suits kind.Slice x t m h = tt
own_suits kind.Yield x t m h = tt
own_suits kind.Migrate x t m h = tt
own_suits kind.Call x t m h = refl
own_suits kind.Wait x t m h = refl
own_suits kind.SignalBlock x t m h = tt
own_suits kind.Accept x t m h = tt
own_suits kind.End x t m h = refl
own_suits k x t m h = absurd (cc)

-- whoever asks runs
pub record IsRunning (t : ℕ) (j : Journal) : Type 0 where
  pub processor : ℕ
  pub at : spot t j ≡ At (Running processor)

abbrev pub AskerRuns : Entry → Journal → Type 0
AskerRuns e j = (t : ℕ) → asks t e.kind e ≡ true → IsRunning t j

pub spot_step : (e : Entry) (j : Journal) → AskerRuns e j → ((t : ℕ) → SpotSuits (spot t j) (asked_form t j)) → (t : ℕ) → SpotSuits (spot t (j ++ e ∷ [])) (asked_form t (j ++ e ∷ []))
spot_step e j asker old t = rw (spot_push t j e, form_push t j e) (by (asks t e.kind e) (mover e.kind e t) refl refl)
  where
    by : (a m : Bool) → asks t e.kind e ≡ a → mover e.kind e t ≡ m → SpotSuits (moved_if (mover e.kind e t) (target e.kind (noted_at j e) t) (spot t j)) (then_form t (asked_form t j) e)
    by true true h g = simp (h, g) (own_suits e.kind (noted_at j e) t g h)
    by true false h g = let r = asker t h in simp (h, g, r.at) tt
    by false true h g = simp (h, g) (moved_suits e.kind (noted_at j e) t (asked_form t j) g h)
    by false false h g = simp (h, g) (old t)

-- what is told behind an entry
pub told_step : (sites : List Site) (e : Entry) (j : Journal) → ((t : ℕ) (a : Answer) → Others e.kind t e a → IsForm (asked_form t j) a) → ((t : ℕ) (a : Answer) → answer_to sites t j ≡ Some a → IsForm (asked_form t j) a) → (t : ℕ) (a : Answer) → answer_to sites t (j ++ e ∷ []) ≡ Some a → IsForm (asked_form t (j ++ e ∷ [])) a
told_step sites e j outside old t a h = rw (form_push t j e) (by (asks t e.kind e) (tells sites t e.kind e) refl refl (sym (answer_push sites t j e) ∙ h))
  where
    by : (b : Bool) (x : Option Answer) → asks t e.kind e ≡ b → tells sites t e.kind e ≡ x → later (tells sites t e.kind e) (asks t e.kind e) (answer_to sites t j) ≡ Some a → IsForm (then_form t (asked_form t j) e) a
    by true (Some x) g f l = let q : x ≡ a = cc in simp g (own_form sites e.kind e t a g (f ∙ ap (λ y. Some y) q))
    by false (Some x) g f l = let q : x ≡ a = cc in simp g (outside t a (others sites e.kind e t a g (f ∙ ap (λ y. Some y) q)))
    by true None g f l = absurd (cc)
    by false None g f l = let q : answer_to sites t j ≡ Some a = cc in simp g (old t a q)
