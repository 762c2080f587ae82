-- What the top call leaves, from what its parts did.
use Rattle.std.proofs.Common.{◌≡◌, ◌⊎◌, ℕ, ◌+◌, ◌-◌, List, [], refl, sym, subst, ap, ◌∙◌, inl, inr, ℤ, ◌∷◌, ◌++◌, get_or, length, length-append, arith}
use Rattle.uc_entry.specs.declared.entry.Entry.{Entry}
use Rattle.uc_entry.specs.declared.entry.EntryKind.{EntryKind}
use Rattle.uc_entry.specs.declared.entry.EntryKind.TheVariants as kind
use Rattle.std.specs.Prelude.{OnOk, OnErr, Result, Ok, Err, codes}
use Rattle.std.specs.List.{concat}
use Rattle.uc_acts.specs.Journal.{Journal}
use Rattle.uc_outside.specs.Taking.{SinkState, Took, TookPrefix, FailedAt}
use Rattle.uc_top.specs.declared.endings.Ending.{Ending}
use Rattle.uc_top.specs.declared.endings.Ending.TheVariants.{Fault}
use Rattle.uc_top.specs.declared.refusals.Refusal.{Refusal}
use Rattle.uc_top.specs.Endings.{EndsWith, IsEnded, Tells, ending_status, ending_text, told_of}
use Rattle.uc_top.specs.Refusals.{status_of, refusal_text}
use Rattle.uc_top.specs.Outcomes.{Scene, Ran, Refused, Tried, Leaves, ended, refused, out_failed, line_failed, err_failed}
use Rattle.uc_top.specs.Decisions.{Finished, whole}
use Rattle.uc_top.specs.Decisions as told

finish_with : (s : Scene) {journal : Journal} {output : List ℕ} {ending : Ending} {status : ℕ} → Ran s journal output ending → Finished s.out s.out_after s.err s.err_after output ending status → Leaves s status journal
finish_with s {journal = journal} {output = output} {ending = ending} ran (whole out err) = ended journal output ending ran out err
finish_with s {journal = journal} {output = output} {ending = ending} ran (told.out_failed out err) = out_failed journal output ending ran out err
finish_with s {journal = journal} {output = output} {ending = ending} ran (told.err_failed out err) = line_failed journal output ending ran out err

pub finish : (s : Scene) {journal : Journal} {output bytes : List ℕ} {ending : Ending} {status : ℕ} → Ran s journal output ending → bytes ≡ output → Finished s.out s.out_after s.err s.err_after bytes ending status → Leaves s status journal
finish s {ending = ending} {status = status} ran e f = finish_with s ran (subst (λ b. Finished s.out s.out_after s.err s.err_after b ending status) e f)

pub told_why : (s : Scene) (r : Refusal) (name : List ℕ) {status : ℕ} {journal : Journal} → Refused s r name → status ≡ status_of r → journal ≡ [] → Took s.out s.out_after [] → Took s.err s.err_after (refusal_text r name) → Leaves s status journal
told_why s r name {journal = journal} cause e f out err =
    let base = refused r name cause out err in
    let P : ℕ → Journal → Type 0 = λ x j. Leaves s x j in
    subst (λ x. P x journal) (sym e) (subst (λ j. P (status_of r) j) (sym f) base)

pub untold : (s : Scene) (r : Refusal) (name : List ℕ) {journal : Journal} → Refused s r name → journal ≡ [] → Took s.out s.out_after [] → FailedAt s.err s.err_after (refusal_text r name) → TookPrefix s.err s.err_after (refusal_text r name) → Leaves s 4 journal
untold s r name cause f out at prefix =
    subst (Leaves s 4) (sym f) (err_failed r name cause out (record { at = at; prefix = prefix }))

-- a put that went well or did not
pub tried : {T E : Type 0} (r : Result T E) {a b : SinkState} {text : List ℕ} → OnOk r (Took a b text) → OnErr r (FailedAt a b text) → OnErr r (TookPrefix a b text) → Tried a b text
tried (Ok x) t f p = inl t
tried (Err e) t f p = inr (record { at = f; prefix = p })

pub finished_whole : {a b c d : SinkState} {output : List ℕ} {ending : Ending} {status : ℕ} → status ≡ ending_status ending → Took a b output → Took c d (ending_text ending) → Finished a b c d output ending status
finished_whole {a} {b} {c} {d} {output} {ending} e out err = subst (Finished a b c d output ending) (sym e) (whole out err)

-- what was put is the line of this ending
pub said : {a b : SinkState} (r s : Ending) (text : List ℕ) → r ≡ s → ending_text s ≡ text → Took a b text → Took a b (ending_text r)
said {a} {b} r s text e f t = subst (Took a b) (sym (ap ending_text e ∙ f)) t

-- the line of a run fault, of its parts
abbrev pub fault_line : List ℕ → List ℕ → List ℕ → List ℕ
fault_line name at by = concat (codes "ucpp: fault " ∷ (name ∷ (codes " at line " ∷ (at ∷ (codes " in task " ∷ (by ∷ (codes "\n" ∷ [])))))))

pub fault_said : {a b : SinkState} (name at by name' at' by' : List ℕ) → name ≡ name' → at ≡ at' → by ≡ by' → Took a b (fault_line name at by) → Took a b (fault_line name' at' by')
fault_said {a} {b} name at by name' at' by' e f g t =
    subst (λ x. Took a b (fault_line name' at' x)) g (subst (λ x. Took a b (fault_line name' x by)) f (subst (λ x. Took a b (fault_line x at by)) e t))

pub fault_same : (n n' l l' : ℤ) (t t' : ℕ) → n ≡ n' → l ≡ l' → t ≡ t' → ending_text (Fault n l t) ≡ ending_text (Fault n' l' t')
fault_same n n' l l' t t' e f g = ap (λ x. ending_text (Fault x l t)) e ∙ ap (λ x. ending_text (Fault n' x t)) f ∙ ap (λ x. ending_text (Fault n' l' x)) g

-- the last entry tells the ending
tells_of : (k : EntryKind) (e : Entry) → e.kind ≡ k → (k ≡ kind.Done) ⊎ (k ≡ kind.Fault) ⊎ (k ≡ kind.Deadlock) ⊎ (k ≡ kind.NoProcessor) ⊎ (k ≡ kind.Limit) → Tells e (told_of k e)
tells_of kind.Done e s h = s
tells_of kind.Fault e s h = record { of_kind = s; same_number = refl; same_line = refl; same_task = refl }
tells_of kind.Deadlock e s h = s
tells_of kind.NoProcessor e s h = s
tells_of kind.Limit e s h = s
tells_of k e s h = absurd (not_last h)
  where
    not_last : (k ≡ kind.Done) ⊎ (k ≡ kind.Fault) ⊎ (k ≡ kind.Deadlock) ⊎ (k ≡ kind.NoProcessor) ⊎ (k ≡ kind.Limit) → ⊥
    not_last (inl h) = absurd (cc h)
    not_last (inr (inl h)) = absurd (cc h)
    not_last (inr (inr (inl h))) = absurd (cc h)
    not_last (inr (inr (inr (inl h)))) = absurd (cc h)
    not_last (inr (inr (inr (inr h)))) = absurd (cc h)

last_index : (j before : Journal) (e d : Entry) (n : ℕ) → j ≡ before ++ e ∷ [] → n + 1 ≡ length j → get_or j n d ≡ e
last_index j before e d n s l =
    let m = length-append before (e ∷ []) in
    let k : length j ≡ length (before ++ e ∷ []) = ap length s in
    let same : n ≡ length before = omega (arith, l, m, k) in
    ap (λ x. get_or x n d) s ∙ ap (λ i. get_or (before ++ e ∷ []) i d) same ∙ at_end before
  where
    at_end : (xs : Journal) → get_or (xs ++ e ∷ []) (length xs) d ≡ e
    at_end [] = refl
    at_end (x ∷ xs) = at_end xs

pub ends_with : (j : Journal) (d : Entry) (told : Ending) → IsEnded j → told ≡ told_of (get_or j (length j - 1) d).kind (get_or j (length j - 1) d) → EndsWith j told
ends_with j d told h t =
    let m = length-append h.before (h.last ∷ []) in
    let k : length j ≡ length (h.before ++ h.last ∷ []) = ap length h.is in
    let same : get_or j (length j - 1) d ≡ h.last = last_index j h.before h.last d (length j - 1) h.is (omega (arith, m, k)) in
    record {
      before = h.before;
      last = h.last;
      is = h.is;
      tells = subst (Tells h.last) (sym (t ∙ ap (λ (y : Entry). told_of y.kind y) same)) (tells_of h.last.kind h.last refl h.kind);
    }
