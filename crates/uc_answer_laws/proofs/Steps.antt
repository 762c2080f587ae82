-- What one entry keeps: those that admit nobody, and admissions.
use Rattle.std.proofs.Common.{◌≡◌, ℕ, zero, suc, ◌==◌, ◌+◌, ◌||◌, Bool, true, false, cond, not, List, [], ◌∷◌, ◌++◌, Some, map, refl, sym, ap, ◌∙◌, subst, arith}
use Rattle.std.specs.Prelude.{pos}
use Rattle.std.proofs.lemmas.Bool.{eqb-true}
use Rattle.uc_tree.specs.Programs.{Site}
use Rattle.uc_tree.specs.SiteOffers.{offers_from, has_bit, clause_for}
use Rattle.uc_entry.specs.declared.entry.Entry.{Entry}
use Rattle.uc_entry.specs.declared.entry.EntryKind.TheVariants as kind
use Rattle.uc_entry.specs.declared.request.Answer.{Answer}
use Rattle.uc_acts.specs.Journal.{Journal, holds}
use Rattle.uc_acts.specs.Queues.{is_nobody}
use Rattle.uc_acts.specs.Answers.{let_in_answer}
use Rattle.uc_acts.specs.Acts.{admit_failed, truth}
use Rattle.uc_acts.specs.Doors.{OnStack, open_at, offers, stack_at, taken_off, admitted_past, last_call, clause_on}
use Rattle.uc_acts.specs.Stations.{times}
use Rattle.uc_acts.specs.Sound.{Sound, Stood}
use Rattle.uc_acts.specs.Legal.{Legal}
use Rattle.uc_acts.proofs.Seats.{open_other, open_same}
use Rattle.uc_acts.proofs.SoundLemmas.{self_test, none_kept, sound_step}
use Rattle.uc_acts.proofs.Stood.{stands_other, stands_same, stood_step}
use Rattle.uc_answer_laws.specs.Suiting.{Form, AnObject, AClause, ANumber, AValue, AnEvent, JustGo, IsForm, asked_form}
use Rattle.uc_answer_laws.proofs.Told.{Others, AskerRuns, form_push, no_both, spot_step, told_step}
use Rattle.uc_answer_laws.proofs.Stacks.{ClauseSuits, AllSuit, StackSuits, Suits, pending, none, all_same, kept, suits_step}

pub record Kept (sites : List Site) (pend : ℕ → Bool) (j : Journal) : Type 0 where
  pub sound : Sound j
  pub stood : Stood sites j
  pub suits : Suits sites pend j

pub kept_step : (sites : List Site) (e : Entry) (j : Journal) → Legal e j → AskerRuns e j → ((t : ℕ) (a : Answer) → Others e.kind t e a → IsForm (asked_form t j) a) → (e.kind ≡ kind.Admit → ⊥) → Kept sites none j → Kept sites (pending e.kind e) (j ++ e ∷ [])
kept_step sites e j l asker outside n k = record {
  sound = sound_step e j k.sound l;
  stood = stood_step sites e j k.sound l k.stood;
  suits = suits_step sites e j k.sound k.stood l asker k.suits outside n;
}

-- an admission

clause_answer : (f : Form) (c : ℕ) (failed : Bool) → ClauseSuits f c → IsForm f (let_in_answer c failed)
clause_answer AClause (suc c) failed h = tt
clause_answer AClause zero failed h = absurd h
clause_answer JustGo zero failed h = tt
clause_answer JustGo (suc c) failed h = absurd h
clause_answer AnObject c failed h = absurd h
clause_answer ANumber c failed h = absurd h
clause_answer AValue c failed h = absurd h
clause_answer AnEvent c failed h = absurd h

-- the clause of whom a stack gives up is what its answer asks for
pub given_up : (i : Journal) (u n : ℕ) (failed : Bool) (ss : List OnStack) → AllSuit i ss → times u (map (λ (s : OnStack). s.task) ss) ≡ suc n → IsForm (asked_form u i) (let_in_answer (clause_on u ss) failed)
given_up i u n failed [] h q = absurd (cc)
given_up i u n failed (s ∷ ss) h q = by (s.task == u) refl (λ n q. given_up i u n failed ss h.1 q)
  where
    apart : (b : Bool) → (u == s.task) ≡ b → (s.task == u) ≡ false → (u == s.task) ≡ false
    apart false g f = g
    apart true g f = let self = self_test u in let e : u ≡ s.task = eqb-true u s.task g in no_both (s.task == u) (ap (λ v. v == u) (sym e) ∙ self) f

    by : (b : Bool) → (s.task == u) ≡ b → ((n : ℕ) → times u (map (λ (s : OnStack). s.task) ss) ≡ suc n → IsForm (asked_form u i) (let_in_answer (clause_on u ss) failed)) → IsForm (asked_form u i) (let_in_answer (cond b s.clause (clause_on u ss)) failed)
    by true g ih = subst (λ v. IsForm (asked_form v i) (let_in_answer s.clause failed)) (eqb-true s.task u g) (clause_answer (asked_form s.task i) s.clause failed h.0)
    by false g ih = let f = apart (u == s.task) refl g in ih n (sym (simp f) ∙ q)

module _ (sites : List Site) (pend : ℕ → Bool) (j : Journal) (p u o way clause : ℕ) (failed : Bool) where
  abbrev e : Entry
  e = admit_failed p u o way clause failed

  pub admit_step : Legal e j → Kept sites pend j → ((v : ℕ) → (o == v) ≡ false → pend v ≡ false) → IsForm (asked_form u j) (let_in_answer clause (holds 1 (truth failed))) → AllSuit j (admitted_past (holds 1 (pos way)) u (last_call o j u) (taken_off u (stack_at sites o j))) → Kept sites none (j ++ e ∷ [])
  admit_step l k else form all = record {
    sound = sound_step e j k.sound l;
    stood = stood_step sites e j k.sound l k.stood;
    suits = record {
      told = told_step sites e j outside k.suits.told;
      spots = spot_step e j asker k.suits.spots;
      stacks = λ v. by v (o == v) refl;
    };
  }
    where
      asker : AskerRuns e j
      asker t h = absurd (cc)

      outside : (t : ℕ) (a : Answer) → Others e.kind t e a → IsForm (asked_form t j) a
      outside t a h = subst (λ v. IsForm (asked_form v j) a) (sym h.0) (subst (IsForm (asked_form u j)) (sym h.1) form)

      by : (v : ℕ) (b : Bool) → (o == v) ≡ b → StackSuits (j ++ e ∷ []) (not (is_nobody (open_at v (j ++ e ∷ [])))) (stack_at sites v (j ++ e ∷ []))
      by v false h =
          let f = else v h in
          rw (stands_other sites v j e h, open_other v j e h) (kept sites e j k.sound k.stood asker v (not (is_nobody (open_at v j))) (subst (λ b. StackSuits j (b || not (is_nobody (open_at v j))) (stack_at sites v j)) f (k.suits.stacks v)))
      by v true h =
          subst (λ v. StackSuits (j ++ e ∷ []) (not (is_nobody (open_at v (j ++ e ∷ [])))) (stack_at sites v (j ++ e ∷ []))) (eqb-true o v h) (rw (stands_same sites o j e (self_test o), open_same o j e (self_test o), none_kept (open_at o j)) (all_same (j ++ e ∷ []) j (admitted_past (holds 1 (pos way)) u (last_call o j u) (taken_off u (stack_at sites o j))) (λ t n q. form_push t j e) all))

-- clauses count from 1

mapped_clause : (c : ℕ) (ms : List ℕ) (rest : List (ℕ × ℕ)) (m d : ℕ) → clause_for (map (λ m. (c, m)) ms ++ rest) m ≡ Some d → (clause_for rest m ≡ Some d → (k : ℕ) × (d ≡ suc k)) → (k : ℕ) × (c ≡ suc k) → (k : ℕ) × (d ≡ suc k)
mapped_clause c [] rest m d h f q = f h
mapped_clause c (x ∷ ms) rest m d h f q = by (x == m) refl h (λ e. mapped_clause c ms rest m d e f q)
  where
    by : (b : Bool) → (x == m) ≡ b → cond b (Some c) (clause_for (map (λ m. (c, m)) ms ++ rest) m) ≡ Some d → (clause_for (map (λ m. (c, m)) ms ++ rest) m ≡ Some d → (k : ℕ) × (d ≡ suc k)) → (k : ℕ) × (d ≡ suc k)
    by true g e ih = let z : c ≡ d = cc in (q.0, sym z ∙ q.1)
    by false g e ih = ih e

counted_from : (i mask : ℕ) (cs : List (List ℕ)) (m d : ℕ) → clause_for (offers_from i mask cs) m ≡ Some d → (k : ℕ) × (d ≡ suc k)
counted_from i mask [] m d h = absurd (cc)
counted_from i mask (c ∷ cs) m d h = by (has_bit i mask) h (λ h. counted_from (i + 1) mask cs m d h)
  where
    by : (b : Bool) → clause_for (cond b (map (λ m. (i + 1, m)) c) [] ++ offers_from (i + 1) mask cs) m ≡ Some d → (clause_for (offers_from (i + 1) mask cs) m ≡ Some d → (k : ℕ) × (d ≡ suc k)) → (k : ℕ) × (d ≡ suc k)
    by true h ih = mapped_clause (i + 1) c (offers_from (i + 1) mask cs) m d h ih (i, let z : i + 1 ≡ suc i = omega arith in z)
    by false h ih = ih h

pub counted_clause : (sites : List Site) (site mask m d : ℕ) → clause_for (offers sites site mask) m ≡ Some d → (k : ℕ) × (d ≡ suc k)
unfolding offers
counted_clause sites site mask m d h = counted_from 0 mask _ m d h
