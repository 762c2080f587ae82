-- Several entries more in a journal, and what the entries behind the first ask.
use Rattle.std.proofs.Common.{◌≡◌, ℕ, ◌+◌, ◌<◌, ◌≤◌, true, false, List, [], ◌∷◌, ◌++◌, refl, sym, ap, ◌∙◌, subst, arith, length}
use Rattle.std.proofs.lemmas.List.{length-append}
use Rattle.uc_tree.specs.Programs.{Site}
use Rattle.uc_entry.specs.declared.entry.Entry.{Entry}
use Rattle.uc_entry.specs.declared.entry.Options.{Options}
use Rattle.uc_entry.specs.declared.request.Request.{Request}
use Rattle.uc_acts.specs.Journal.{Journal, is_over, is_ending, Cost}
use Rattle.uc_acts.specs.Queues.{running}
use Rattle.uc_acts.specs.Acts.{row}
use Rattle.uc_acts.specs.KernelRuns.{Fits}
use Rattle.uc_acts.specs.Sound.{Sound}
use Rattle.uc_acts.specs.Legal.{Legal}
use Rattle.uc_acts.proofs.Rows.{Lawful, row_lawful}
use Rattle.uc_kernel_journal.specs.JournalSums.{Told, told_more}
use Rattle.uc_kernel_journal.proofs.Tellings.{over_push}
use Rattle.uc_kernel_core.specs.Mirrors.{Appended, seen}
use Rattle.uc_kernel_core.proofs.Asks.{told_rows, appended_both, goes_on}

pub told_two : (t t1 t2 : Told) (opts : Options) (input : List ℕ) (e e2 : Entry) (a : List Entry) → t1 ≡ told_more t e → t2 ≡ told_more t1 e2 → a ≡ e ∷ e2 ∷ [] → Appended (seen t opts input) (seen t2 opts input) a
told_two t t1 t2 opts input e e2 a i j r =
    subst (Appended (seen t opts input) (seen t2 opts input)) (sym r) (appended_both (seen t opts input) (seen t1 opts input) (seen t2 opts input) (e ∷ []) (e2 ∷ []) (told_rows t t1 opts input e (e ∷ []) i refl) (told_rows t1 t2 opts input e2 (e2 ∷ []) j refl))

pub told_three : (t t1 t2 t3 : Told) (opts : Options) (input : List ℕ) (e e2 e3 : Entry) (a : List Entry) → t1 ≡ told_more t e → t2 ≡ told_more t1 e2 → t3 ≡ told_more t2 e3 → a ≡ e ∷ e2 ∷ e3 ∷ [] → Appended (seen t opts input) (seen t3 opts input) a
told_three t t1 t2 t3 opts input e e2 e3 a i j k r =
    subst (Appended (seen t opts input) (seen t3 opts input)) (sym r) (appended_both (seen t opts input) (seen t1 opts input) (seen t3 opts input) (e ∷ []) (e2 ∷ e3 ∷ []) (told_rows t t1 opts input e (e ∷ []) i refl) (told_two t1 t2 t3 opts input e2 e3 (e2 ∷ e3 ∷ []) j k refl))

-- the rest of a row is lawful behind its first entry
pub rest_lawful : (opts : Options) (sites : List Site) (input : List ℕ) (j : Journal) (p t : ℕ) (k : Cost) (line : ℕ) (r : Request) (e : Entry) (a : List Entry) → Sound j → running p j ≡ t ∷ [] → Fits opts sites j t r → row opts sites input j p t k line r ≡ e ∷ a → Legal e j × Lawful (j ++ e ∷ []) a
rest_lawful opts sites input j p t k line r e a s runs fits is =
    subst (Lawful j) is (row_lawful opts sites input j p t k line s runs r fits)

-- the journal goes on, and has room
pub told_going : (t t1 : Told) (e : Entry) → t1 ≡ told_more t e → is_over t.journal ≡ false → is_ending e.kind ≡ false → is_over t1.journal ≡ false
told_going t t1 e i g k = ap (λ (v : Told). is_over v.journal) i ∙ goes_on t.journal e g k

pub told_room : (t t1 : Told) (e : Entry) (n : ℕ) → t1 ≡ told_more t e → t.room ≡ n + 40 → length t.journal ≤ n → length t1.journal < t1.room
told_room t t1 e n i r le = rw i (omega (arith, r, length-append t.journal (e ∷ [])))

pub told_room_2 : (t t1 t2 : Told) (e e2 : Entry) (n : ℕ) → t1 ≡ told_more t e → t2 ≡ told_more t1 e2 → t.room ≡ n + 40 → length t.journal ≤ n → length t2.journal < t2.room
told_room_2 t t1 t2 e e2 n i j r le =
    rw j (rw i (omega (arith, r, length-append t.journal (e ∷ []), length-append (t.journal ++ e ∷ []) (e2 ∷ []))))

-- after an ending nothing is claimed
pub over_after : (t t1 : Told) (e : Entry) → t1 ≡ told_more t e → is_ending e.kind ≡ true → {A : Type 0} → is_over t1.journal ≡ false → A
over_after t t1 e i k h = over_push t.journal e k (sym (ap (λ (v : Told). is_over v.journal) i) ∙ h)
