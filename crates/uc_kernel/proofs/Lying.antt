-- Where the members of an object lie.
use Rattle.std.proofs.Common.{◌≡◌, ◌≢◌, ℕ, ◌==◌, ◌<◌, ◌≤◌, ◌||◌, Bool, true, false, List, [], ◌∷◌, Option, Some, None, refl, sym, ap, ◌∙◌, subst, get_or, length}
use Rattle.std.specs.Prelude.{slice_index_or}
use Rattle.std.proofs.lemmas.Bool.{eqb-true, eq-eqb, ne_eqb}
use Rattle.uc_entry.specs.Keyed.{find}
use Rattle.uc_acts.specs.Journal.{Journal, held, inside}
use Rattle.uc_acts.specs.Known.{has}
use Rattle.uc_acts.specs.Sound.{Sound}
use Rattle.uc_acts.specs.Stations.{times}
use Rattle.uc_acts.proofs.Held.{law_held}
use Rattle.uc_acts.proofs.Moves.{only_one}
use Rattle.uc_kernel.specs.declared.rests.TaskAtRest.{TaskAtRest}
use Rattle.uc_kernel.specs.Numbered.{keys, or_else, gathered}
use Rattle.uc_kernel.specs.KernelState.{member_in, member_among}
use Rattle.uc_kernel.specs.AtRest.{AreApart}
use Rattle.uc_kernel.proofs.Hands.{no_both, none_found, find_some, gathered_hand}
use Rattle.uc_kernel.proofs.Places.{among_none, among_only}

pub not_true : (b : Bool) → (b ≡ true → ⊥) → b ≡ false
not_true true h = absurd (h refl)
not_true false h = refl

one_or : (b : Bool) → b ≡ false → (b || false) ≡ false
one_or b h = rw h refl

-- an object that a task holds, no other does
pub one_holder : (j : Journal) → Sound j → (t u o : ℕ) → has (held t j) o ≡ true → u ≢ t → has (held u j) o ≡ false
one_holder j s t u o h n =
    let only : inside o j ≡ t ∷ [] = only_one (inside o j) t (s.doors o).one (sym ((law_held j).inside t o) ∙ h) in
    (law_held j).inside u o ∙ ap (λ l. has l u) only ∙ one_or (t == u) (ne_eqb t u (λ e. n (sym e)))

-- a hand of just the objects that a task holds has each once
pub apart_of : {M : Type 0} (t : ℕ) (j : Journal) (ps : List (ℕ × M)) → keys ps ≡ held t j → AreApart ps
apart_of t j ps h = λ o. subst (λ ks. times o ks ≤ 1) (sym h) ((law_held j).once t o)

module _ {T M : Type 0} (j : Journal) (tasks : List (Option (TaskAtRest T M))) (loose : List (Option M)) where
  abbrev pub HandsAre : Type 0
  HandsAre = (t : ℕ) (r : TaskAtRest T M) → slice_index_or tasks t None ≡ Some r → keys r.members.items ≡ held t j

  abbrev pub LooseAre : Type 0
  LooseAre = (o : ℕ) (m : M) → slice_index_or loose o None ≡ Some m → (t : ℕ) → has (held t j) o ≡ false

  pub loose_none : LooseAre → (t o : ℕ) → has (held t j) o ≡ true → slice_index_or loose o None ≡ None
  loose_none h t o e = by (slice_index_or loose o None) refl
    where
      by : (x : Option M) → slice_index_or loose o None ≡ x → slice_index_or loose o None ≡ None
      by None g = g
      by (Some m) g = absurd (no_both (has (held t j) o) e (h o m g t))

  -- a task that does not hold an object has no members of it
  pub no_member : HandsAre → (u o : ℕ) → has (held u j) o ≡ false → member_in o (slice_index_or tasks u None) ≡ None
  no_member h u o e = by (slice_index_or tasks u None) refl
    where
      by : (x : Option (TaskAtRest T M)) → slice_index_or tasks u None ≡ x → member_in o x ≡ None
      by None g = refl
      by (Some r) g = none_found o r.members.items (ap (λ ks. has ks o) (h u r g) ∙ e)

  pub others_none : Sound j → HandsAre → (t o : ℕ) → has (held t j) o ≡ true → (u : ℕ) → u ≢ t → member_in o (slice_index_or tasks u None) ≡ None
  others_none s h t o e u n = no_member h u o (one_holder j s t u o e n)

  -- what a task that is not at rest holds lies nowhere else
  pub nowhere_else : Sound j → HandsAre → (t o : ℕ) → has (held t j) o ≡ true → slice_index_or tasks t None ≡ None → member_among o tasks ≡ None
  nowhere_else s h t o e none = among_none o tasks (λ u. by u (u == t) refl)
    where
      by : (u : ℕ) (b : Bool) → (u == t) ≡ b → member_in o (get_or tasks u None) ≡ None
      by u true g = ap (λ v. member_in o (slice_index_or tasks v None)) (eqb-true u t g) ∙ ap (member_in o) none
      by u false g = others_none s h t o e u (λ same. no_both (u == t) (eq-eqb u t same) g)

  -- nor does what nobody holds
  pub nobody_has : HandsAre → (o : ℕ) → ((u : ℕ) → has (held u j) o ≡ false) → member_among o tasks ≡ None
  nobody_has h o e = among_none o tasks (λ u. no_member h u o (e u))

  -- the members of a task at rest
  pub member_of : Sound j → HandsAre → LooseAre → (t : ℕ) → t < length tasks → (r : TaskAtRest T M) → slice_index_or tasks t None ≡ Some r → (o : ℕ) (m : M) → find o r.members.items ≡ Some m → or_else (slice_index_or loose o None) (member_among o tasks) ≡ Some m
  member_of s h l t lt r is o m e =
      let holds : has (held t j) o ≡ true = ap (λ ks. has ks o) (sym (h t r is)) ∙ find_some o m r.members.items e in
      ap (λ x. or_else x (member_among o tasks)) (loose_none l t o holds) ∙ among_only o t m tasks lt (ap (member_in o) is ∙ e) (others_none s h t o holds)

  pub gathered_of : Sound j → HandsAre → LooseAre → (t : ℕ) → t < length tasks → (r : TaskAtRest T M) → slice_index_or tasks t None ≡ Some r → r.members.items ≡ gathered (held t j) (λ o. or_else (slice_index_or loose o None) (member_among o tasks))
  gathered_of s h l t lt r is =
      sym (ap (λ ks. gathered ks (λ o. or_else (slice_index_or loose o None) (member_among o tasks))) (sym (h t r is)) ∙ gathered_hand r.members.items _ (apart_of t j r.members.items (h t r is)) (member_of s h l t lt r is))
