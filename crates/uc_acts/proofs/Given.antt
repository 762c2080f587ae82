-- A dispatch puts its task on its processor, and leaves everything else alone.
use Rattle.std.proofs.Common.{◌≡◌, ℕ, ◌==◌, ◌&&◌, Bool, true, false, List, [], ◌∷◌, ◌++◌, refl, sym, ap, ◌∙◌}
use Rattle.std.specs.Prelude.{reverse}
use Rattle.std.specs.List.{sum_by}
use Rattle.std.proofs.lemmas.Bool.{eqb-true}
use Rattle.uc_tree.specs.Programs.{Site}
use Rattle.uc_acts.specs.Journal.{Journal, where_true, lets_in, moves, is_task, held}
use Rattle.uc_acts.specs.Queues.{running, ready, used, spent, dispatches}
use Rattle.uc_acts.specs.Known.{made, makes_object, takes_object}
use Rattle.uc_acts.specs.Answers.{tells, asks, answer_to, first_of}
use Rattle.uc_acts.specs.Stations.{Ready, Running}
use Rattle.uc_acts.specs.Sound.{At, Sound, Spot, spot}
use Rattle.uc_acts.specs.Acts.{dispatch}
use Rattle.uc_acts.specs.Laws.{LawDispatch, Untouched}
use Rattle.uc_acts.proofs.OpenLemmas.{still_open_silent}
use Rattle.uc_acts.proofs.Seats.{running_other, running_given}
use Rattle.uc_acts.proofs.Moves.{first_at}
use Rattle.uc_acts.proofs.Law.{good_whole}
use Rattle.uc_acts.proofs.Others.{flip}

and_false : (b : Bool) → (b && false) ≡ false
and_false true = refl
and_false false = refl

no_both : (b : Bool) → b ≡ true → b ≡ false → ⊥
no_both b t f = cc

module _ (p t : ℕ) (j : Journal) where
  pub made_given : made (j ++ dispatch p t ∷ []) ≡ made j
  unfolding made
  made_given =
      still_open_silent (λ e. makes_object e.kind e) (λ e. takes_object e.kind e) j (dispatch p t) refl (λ o. refl)

  pub answer_given : (sites : List Site) (u : ℕ) → answer_to sites u (j ++ dispatch p t ∷ []) ≡ answer_to sites u j
  unfolding answer_to
  answer_given sites u =
      ap (λ l. first_of (reverse l)) (still_open_silent (λ e. tells sites u e.kind e) (λ e x. asks u e.kind e) j (dispatch p t) refl (λ x. refl))

  pub held_given : (u : ℕ) → held u (j ++ dispatch p t ∷ []) ≡ held u j
  unfolding held
  held_given u =
      still_open_silent (λ e. where_true (is_task u (lets_in e.kind e)) e.object) (λ e o. (e.object == o) && moves e.kind e u) j (dispatch p t) refl (λ o. and_false (0 == o))

  used_given : (u : ℕ) → (u == t) ≡ false → used u (j ++ dispatch p t ∷ []) ≡ used u j
  unfolding used
  used_given u n =
      ap (sum_by (λ k. k)) (still_open_silent (spent u) (λ e x. dispatches e.kind e u) j (dispatch p t) (ap (λ b. where_true b 0) (flip u t n)) (λ x. n))

  elsewhere_given : (sites : List Site) (u : ℕ) → (u == t) ≡ false → Untouched sites j (dispatch p t ∷ []) u
  elsewhere_given sites u n = record { objects = held_given u; answer = answer_given sites u; ticks = used_given u n; born = refl }

-- a task that runs is not one that is ready
ready_apart : (j : Journal) (s : Sound j) (q k t u : ℕ) (later : List ℕ) → ready k j ≡ t ∷ later → running q j ≡ u ∷ [] → (u == t) ≡ false
ready_apart j s q k t u later a b = by (u == t) refl
  where
    runs : Spot → Bool
    runs (At (Running r)) = true
    runs x = false

    by : (c : Bool) → (u == t) ≡ c → (u == t) ≡ false
    by false h = h
    by true h =
        let same : At (Running q) ≡ At (Ready k) = sym (first_at j s (Running q) u [] b) ∙ ap (λ v. spot v j) (eqb-true u t h) ∙ first_at j s (Ready k) t later a in
        absurd (no_both true refl (ap runs same))

pub law_dispatch : LawDispatch
law_dispatch opts sites input j p t r v =
    let s = (good_whole opts sites input r).sound in
    record {
      runs = running_given p t j;
      elsewhere = λ q n. record {
        runs = running_other q j (dispatch p t) (flip q p n);
        untouched = λ u h. elsewhere_given p t j sites u (ready_apart j s q v.cluster t u v.later v.queued h);
      };
      made = made_given p t j;
      answers = answer_given p t j sites;
      objects = held_given p t j;
    }
