-- Runs of a kernel: answers suit, and what is asked is what is noted.
use Rattle.std.proofs.Common.{◌≡◌, ℕ, false, List, [], ◌∷◌, ◌++◌, refl, sym, ap, ◌∙◌, subst}
use Rattle.uc_tree.specs.Programs.{Site}
use Rattle.uc_entry.specs.declared.entry.Entry.{Entry}
use Rattle.uc_entry.specs.declared.entry.Options.{Options}
use Rattle.uc_entry.specs.declared.request.Answer.TheVariants as answer
use Rattle.uc_acts.specs.Journal.{Journal, begin, cost, no_cost, entries_at, is_over}
use Rattle.uc_acts.specs.Queues.{waiting, stacked}
use Rattle.uc_acts.specs.Answers.{answer_to}
use Rattle.uc_acts.specs.Doors.{open_at, stack_at}
use Rattle.uc_acts.specs.Sound.{Stood}
use Rattle.uc_acts.specs.KernelRuns.{KernelMay, KernelRuns, gives, no_room, acts, begun, more}
use Rattle.uc_acts.specs.Acts.{fault, row, is_faulty, dispatch, lone_limit}
use Rattle.uc_acts.proofs.Rows.{row_lawful}
use Rattle.uc_acts.proofs.Law.{sound_none, legal_begin, spot_none, lawful_may}
use Rattle.uc_acts.proofs.Rest.{settled_calm}
use Rattle.uc_acts.proofs.Bounds.{over_limit}
use Rattle.uc_acts.proofs.Living.{going_row}
use Rattle.uc_answer_laws.specs.Suiting.{JustGo, IsForm, asked_form, LawSuiting}
use Rattle.uc_answer_laws.proofs.Told.{SpotSuits, no_both}
use Rattle.uc_answer_laws.proofs.Stacks.{Suits, none}
use Rattle.uc_answer_laws.proofs.Steps.{Kept, kept_step}
use Rattle.uc_answer_laws.proofs.Whole.{row_kept}

stood_none : (sites : List Site) → Stood sites []
unfolding stack_at stacked open_at waiting entries_at
stood_none sites = record { tasks = λ o. refl; opened = λ o a rest h. absurd (cc h); calls = λ o. tt }

pub form_none : (t : ℕ) → asked_form t [] ≡ JustGo
unfolding asked_form
form_none t = refl

suits_none : (sites : List Site) → Suits sites none []
unfolding answer_to stack_at open_at entries_at
suits_none sites = record {
  told = λ t a h. absurd (cc h);
  spots = λ t. subst (λ P. SpotSuits P (asked_form t [])) (sym (spot_none t)) (form_none t);
  stacks = λ o. tt;
}

begin_kept : (opts : Options) (sites : List Site) → Kept sites none (begin opts ∷ [])
begin_kept opts sites =
    kept_step sites (begin opts) [] (legal_begin opts) (λ t h. absurd (cc h)) (λ t a q. subst (IsForm (asked_form t [])) (sym q) (subst (λ f. IsForm f answer.Go) (sym (form_none t)) tt)) (λ f. absurd (cc f)) (record { sound = sound_none; stood = stood_none sites; suits = suits_none sites })

may_kept : (opts : Options) (sites : List Site) (input : List ℕ) (j : Journal) (a : List Entry) → Kept sites none j → KernelMay opts sites input j a → is_over (j ++ a) ≡ false → Kept sites none (j ++ a)
may_kept opts sites input j _ h (gives p t v le) o =
    let l = lawful_may opts sites input j (dispatch p t ∷ []) h.sound (gives p t v le) in
    kept_step sites (dispatch p t) j l.0 (λ u f. absurd (cc f)) (λ u a f. absurd f) (λ f. absurd (cc f)) h
may_kept opts sites input j _ h (no_room p t v le) o = no_both (is_over (j ++ lone_limit ∷ [])) (over_limit j 0 0) o
may_kept opts sites input j _ h (acts p t k asked m) o =
    let g = going_row opts sites input j p t k asked o in
    let rows = row opts sites input j p t (cost k asked.line) asked.line asked.request in
    let calm : is_faulty rows ≡ false = ap is_faulty (sym (settled_calm (fault p t no_cost 10 asked.line) j rows refl g.1)) ∙ g.1 in
    subst (λ a. Kept sites none (j ++ a)) (sym g.0) (row_kept opts sites input j p t (cost k asked.line) asked.line h m.runs asked.request m.fits calm (row_lawful opts sites input j p t (cost k asked.line) asked.line h.sound m.runs asked.request m.fits))

pub kept_run : (opts : Options) (sites : List Site) (input : List ℕ) {j : Journal} → KernelRuns opts sites input j → is_over j ≡ false → Kept sites none j
kept_run opts sites input begun o = begin_kept opts sites
kept_run opts sites input (more {j} {a} r before m) o = may_kept opts sites input j a (kept_run opts sites input r before) m o

pub law_suiting : LawSuiting
law_suiting opts sites input j r o t a h = (kept_run opts sites input r o).suits.told t a h
