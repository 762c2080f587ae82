-- What the entries of each request keep.
use Rattle.std.proofs.Common.{◌≡◌, ℕ, suc, ◌==◌, ◌||◌, Bool, true, false, cond, not, List, [], ◌∷◌, ◌++◌, Option, Some, None, refl, sym, ap, ◌∙◌, subst}
use Rattle.std.specs.Prelude.{pos}
use Rattle.std.proofs.lemmas.Bool.{eqb-true}
use Rattle.uc_tree.specs.Programs.{Site}
use Rattle.uc_tree.specs.SiteOffers.{clause_for, or_0, oldest, met, met_or, Met}
use Rattle.uc_entry.specs.declared.entry.Entry.{Entry}
use Rattle.uc_entry.specs.declared.entry.EntryKind.{EntryKind}
use Rattle.uc_entry.specs.declared.entry.EntryKind.TheVariants as kind
use Rattle.uc_entry.specs.declared.request.Answer.{Answer}
use Rattle.uc_entry.specs.declared.request.Answer.TheVariants as answer
use Rattle.uc_acts.specs.Journal.{Journal, holds}
use Rattle.uc_acts.specs.Queues.{is_nobody}
use Rattle.uc_acts.specs.Answers.{asks, let_in_answer}
use Rattle.uc_acts.specs.Doors.{OnStack, open_at, stack_at, taken_off, met_top, admitted_past, last_call}
use Rattle.uc_acts.specs.Stations.{Running, Waits, Blocked}
use Rattle.uc_acts.specs.Sound.{At, Each, spot}
use Rattle.uc_acts.specs.Legal.{Legal}
use Rattle.uc_acts.specs.Acts.{admit, admit_failed, push}
use Rattle.uc_acts.proofs.SoundLemmas.{self_test}
use Rattle.uc_answer_laws.specs.Suiting.{Form, AClause, JustGo, IsForm, asked_form}
use Rattle.uc_answer_laws.proofs.Told.{Others, SpotSuits, AskerRuns}
use Rattle.uc_answer_laws.proofs.Stacks.{ClauseSuits, AllSuit, StackSuits, pending, none, off_all}
use Rattle.uc_answer_laws.proofs.Steps.{Kept, kept_step, admit_step}

-- who asks by an entry is its task
pub asks_task : (k : EntryKind) (e : Entry) (u : ℕ) → asks u k e ≡ true → u ≡ e.task
asks_task kind.Begin e u h = absurd (cc)
asks_task kind.Dispatch e u h = absurd (cc)
asks_task kind.Admit e u h = absurd (cc)
asks_task kind.Push e u h = absurd (cc)
asks_task kind.Done e u h = absurd (cc)
asks_task kind.Deadlock e u h = absurd (cc)
asks_task kind.NoProcessor e u h = absurd (cc)
asks_task kind.Limit e u h = absurd (cc)
asks_task k e u h = eqb-true u e.task h

pub asker_at : (e : Entry) (j : Journal) (p : ℕ) → spot e.task j ≡ At (Running p) → AskerRuns e j
asker_at e j p at u h = record { processor = p; at = ap (λ v. spot v j) (asks_task e.kind e u h) ∙ at }

-- an entry that asks, and pushes and admits nobody
pub plain : (sites : List Site) (e : Entry) (j : Journal) (p : ℕ) → spot e.task j ≡ At (Running p) → Legal e j → ((t : ℕ) (a : Answer) → Others e.kind t e a → IsForm (asked_form t j) a) → (e.kind ≡ kind.Admit → ⊥) → Kept sites none j → Kept sites (pending e.kind e) (j ++ e ∷ [])
plain sites e j p at l outside n k = kept_step sites e j l (asker_at e j p at) outside n k

-- somebody is pushed
pub pushed : (sites : List Site) (j : Journal) (p u o : ℕ) → Legal (push p u o) j → Kept sites none j → Kept sites none (j ++ push p u o ∷ [])
pushed sites j p u o l k = kept_step sites (push p u o) j l (λ t h. absurd (cc)) (λ t a h. absurd h) (λ f. cc) k

-- somebody who waits or is blocked goes on
just_go : (f : Form) → f ≡ JustGo → IsForm f answer.Go
just_go f q = subst (λ f. IsForm f answer.Go) (sym q) tt

pub waits_go : (sites : List Site) (pend : ℕ → Bool) (i : Journal) (u o : ℕ) → Kept sites pend i → spot u i ≡ At (Waits o) → asked_form u i ≡ JustGo
waits_go sites pend i u o k h = subst (λ P. SpotSuits P (asked_form u i)) h (k.suits.spots u)

pub blocked_go : (sites : List Site) (pend : ℕ → Bool) (i : Journal) (u o c : ℕ) → Kept sites pend i → spot u i ≡ At (Blocked o c) → asked_form u i ≡ JustGo
blocked_go sites pend i u o c k h = subst (λ P. SpotSuits P (asked_form u i)) h (k.suits.spots u)

-- nothing stands open at o: all of its stack have their clauses
pub all_met : (sites : List Site) (i : Journal) (o : ℕ) → Kept sites none i → open_at o i ≡ [] → AllSuit i (stack_at sites o i)
all_met sites i o k h = subst (λ l. StackSuits i (not (is_nobody l)) (stack_at sites o i)) h (k.suits.stacks o)

-- in this way somebody comes in whose task is told to go on
pub let_in : (sites : List Site) (i : Journal) (p u o way : ℕ) (failed : Bool) → holds 1 (pos way) ≡ false → Legal (admit_failed p u o way 0 failed) i → Kept sites none i → open_at o i ≡ [] → asked_form u i ≡ JustGo → Kept sites none (i ++ admit_failed p u o way 0 failed ∷ [])
let_in sites i p u o way failed w l k shut form =
    admit_step sites none i p u o way 0 failed l k (λ v h. refl) (just_go (asked_form u i) form) (subst (λ b. AllSuit i (admitted_past b u (last_call o i u) (taken_off u (stack_at sites o i)))) (sym w) (off_all i u (stack_at sites o i) (all_met sites i o k shut)))

-- a caller comes in by way 1, and meets the accept of the acceptor on top
module _ (sites : List Site) (pend : ℕ → Bool) (i : Journal) (p u o m d : ℕ) (top : OnStack) (below : List OnStack) where
  pub meets : Legal (admit p u o 1 0) i → Kept sites pend i → ((v : ℕ) → (o == v) ≡ false → pend v ≡ false) → (pend o || not (is_nobody (open_at o i))) ≡ true → asked_form u i ≡ JustGo → stack_at sites o i ≡ top ∷ below → (top.task == u) ≡ false → last_call o i u ≡ Some m → clause_for top.offers m ≡ Some d → (c : ℕ) × (d ≡ suc c) → Kept sites none (i ++ admit p u o 1 0 ∷ [])
  meets l k else flag form stack two last clause more =
      admit_step sites pend i p u o 1 0 false l k else (just_go (asked_form u i) form) all
    where
      suit : StackSuits i true (top ∷ below)
      suit = subst (StackSuits i true) stack (subst (λ b. StackSuits i b (stack_at sites o i)) flag (k.suits.stacks o))

      all : AllSuit i (met_top u (last_call o i u) (taken_off u (stack_at sites o i)))
      all =
          let off : taken_off u (stack_at sites o i) ≡ top ∷ taken_off u below = ap (taken_off u) stack ∙ simp two in
          let d_is : or_0 (clause_for top.offers m) ≡ suc more.0 = ap or_0 clause ∙ more.1 in
          rw (last, off) (subst (λ f. ClauseSuits f (or_0 (clause_for top.offers m))) (sym suit.0) (subst (ClauseSuits AClause) (sym d_is) tt), off_all i u below suit.1)

-- the acceptor on top goes on
module _ (sites : List Site) (i : Journal) (p o d : ℕ) (top : OnStack) (below : List OnStack) where
  pub goes_on : Legal (admit p top.task o 3 d) i → Kept sites none i → not (is_nobody (open_at o i)) ≡ true → stack_at sites o i ≡ top ∷ below → (c : ℕ) × (d ≡ suc c) → Kept sites none (i ++ admit p top.task o 3 d ∷ [])
  goes_on l k flag stack more =
      admit_step sites none i p top.task o 3 d false l k (λ v h. refl) (subst (λ f. IsForm f (let_in_answer d false)) (sym suit.0) (subst (λ d. IsForm AClause (let_in_answer d false)) (sym more.1) tt)) all
    where
      suit : StackSuits i true (top ∷ below)
      suit = subst (StackSuits i true) stack (subst (λ b. StackSuits i b (stack_at sites o i)) flag (k.suits.stacks o))

      all : AllSuit i (taken_off top.task (stack_at sites o i))
      all =
          let self = self_test top.task in
          let off : taken_off top.task (stack_at sites o i) ≡ taken_off top.task below = ap (taken_off top.task) stack ∙ simp self in
          rw off (off_all i top.task below suit.1)

-- of members that are offered and called

pub found_clause : (xs : List (ℕ × ℕ)) (ws : List (ℕ × ℕ)) (x : Met) → met xs ws ≡ Some x → (d : ℕ) × (clause_for xs x.member ≡ Some d)
found_clause [] ws x h = absurd (cc)
found_clause (y ∷ ys) ws x h = by (oldest y.1 ws) h (λ e. found_clause ys ws x e)
  where
    first : (t : ℕ) → Some (record { clause = y.0; member = y.1; task = t }) ≡ Some x → (d : ℕ) × (cond (y.1 == x.member) (Some y.0) (clause_for ys x.member) ≡ Some d)
    first t e =
        let q : y.1 ≡ x.member = let z : record { clause = y.0; member = y.1; task = t } ≡ x = cc in ap (λ (m : Met). m.member) z in
        let self = self_test y.1 in
        let same : (y.1 == x.member) ≡ true = ap (λ v. y.1 == v) (sym q) ∙ self in
        (y.0, simp same)

    by : (o : Option ℕ) → met_or y o (met ys ws) ≡ Some x → (met ys ws ≡ Some x → (d : ℕ) × (clause_for ys x.member ≡ Some d)) → (d : ℕ) × (cond (y.1 == x.member) (Some y.0) (clause_for ys x.member) ≡ Some d)
    by (Some t) e ih = first t e
    by None e ih = later (y.1 == x.member) (ih e)
      where
        later : (b : Bool) → (d : ℕ) × (clause_for ys x.member ≡ Some d) → (d : ℕ) × (cond b (Some y.0) (clause_for ys x.member) ≡ Some d)
        later true r = (y.0, refl)
        later false r = r

oldest_is : (f : ℕ → Option ℕ) (m t : ℕ) (ws : List (ℕ × ℕ)) → Each (λ (w : ℕ × ℕ). f w.0 ≡ Some w.1) ws → oldest m ws ≡ Some t → f t ≡ Some m
oldest_is f m t [] h e = absurd (cc)
oldest_is f m t (w ∷ ws) h e = by (w.1 == m) refl e (λ e. oldest_is f m t ws h.1 e)
  where
    by : (b : Bool) → (w.1 == m) ≡ b → cond b (Some w.0) (oldest m ws) ≡ Some t → (oldest m ws ≡ Some t → f t ≡ Some m) → f t ≡ Some m
    by true g e ih = let q : w.0 ≡ t = cc in ap f (sym q) ∙ h.0 ∙ ap (λ v. Some v) (eqb-true w.1 m g)
    by false g e ih = ih e

pub found_call : (f : ℕ → Option ℕ) (xs ws : List (ℕ × ℕ)) (x : Met) → Each (λ (w : ℕ × ℕ). f w.0 ≡ Some w.1) ws → met xs ws ≡ Some x → f x.task ≡ Some x.member
found_call f [] ws x h e = absurd (cc)
found_call f (y ∷ ys) ws x h e = by (oldest y.1 ws) refl e (λ e. found_call f ys ws x h e)
  where
    by : (o : Option ℕ) → oldest y.1 ws ≡ o → met_or y o (met ys ws) ≡ Some x → (met ys ws ≡ Some x → f x.task ≡ Some x.member) → f x.task ≡ Some x.member
    by (Some t) g e ih =
        let z : record { clause = y.0; member = y.1; task = t } ≡ x = cc in
        ap f (sym (ap (λ (m : Met). m.task) z)) ∙ oldest_is f y.1 t ws h g ∙ ap (λ v. Some v) (ap (λ (m : Met). m.member) z)
    by None g e ih = ih e
