-- What holds once the first entry of a request stands.
use Rattle.std.proofs.Common.{◌≡◌, ℕ, ℤ, pos, ◌==◌, ◌+◌, ◌<◌, ◌≤◌, ◌&&◌, Bool, true, false, not, List, [], ◌∷◌, ◌++◌, map, refl, sym, ap, ◌∙◌, subst, arith, length}
use Rattle.std.specs.List.{filter}
use Rattle.std.proofs.lemmas.List.{length-append}
use Rattle.uc_entry.specs.declared.entry.Entry.{Entry}
use Rattle.uc_entry.specs.declared.entry.EntryKind.TheVariants as kind
use Rattle.uc_acts.specs.Journal.{Journal, inside, is_over, is_ending, asking, Cost}
use Rattle.uc_acts.specs.Queues.{is_nobody, last_actor}
use Rattle.uc_acts.specs.Doors.{open_at, blocked, blocked_at}
use Rattle.uc_acts.specs.Known.{object_count}
use Rattle.uc_acts.specs.Acts.{truth, settled, signalled, handed}
use Rattle.uc_acts.specs.Stations.{Stacked}
use Rattle.uc_acts.specs.Sound.{At, spot, Sound}
use Rattle.uc_acts.proofs.Noted.{last_actor_push}
use Rattle.uc_acts.proofs.Seats.{blocked_same, blocked_after, open_after, inside_after}
use Rattle.uc_acts.proofs.SoundLemmas.{self_test, all_kept_nil}
use Rattle.uc_acts.proofs.Moves.{more_objects, inside_now, open_now, spot_moves}
use Rattle.uc_kernel_core.specs.Mirrors.{Seen, Appended, ACT_ENTRIES}
use Rattle.uc_kernel_core.specs.Waiters.{front_pushed, front_admitted}
use Rattle.uc_kernel_core.proofs.Asks.{goes_on, appended_both}
use Rattle.uc_kernel_core.proofs.Blocking.{shut_of}

and_true : (b : Bool) → (b && true) ≡ b
and_true true = refl
and_true false = refl

module _ (s s1 : Seen) (e : Entry) (a : Appended s s1 (e ∷ [])) where
  pub still_going : is_over s.journal ≡ false → is_ending e.kind ≡ false → is_over s1.journal ≡ false
  still_going g k = ap is_over a.journal ∙ goes_on s.journal e g k

  pub still_known : (o : ℕ) → o < object_count s.journal → o < object_count s1.journal
  still_known o lt = rw a.journal (more_objects s.journal e o lt)

  pub still_room : length s.journal ≤ s.opts.entries → length s1.journal < s1.opts.entries + ACT_ENTRIES
  still_room room = rw (a.journal, a.opts) (omega (arith, length-append s.journal (e ∷ [])))

  pub still_shut : (o t : ℕ) → e.object ≡ o → e.kind ≡ kind.Signal → Sound s.journal → inside o s.journal ≡ t ∷ [] → open_at o s1.journal ≡ []
  still_shut o t at is snd i =
      ap (open_at o) a.journal ∙ ap (λ v. open_at v (s.journal ++ e ∷ [])) (sym at) ∙ open_now s.journal e ∙ ap (λ k. open_after k e (open_at e.object s.journal)) is ∙ all_kept_nil (open_at e.object s.journal) ∙ ap (λ v. open_at v s.journal) at ∙ shut_of s.journal o t snd i

  module _ (o c : ℕ) (at : e.object ≡ o) (quiet : (xs : List (ℕ × ℕ × ℤ)) → blocked_after e.kind e xs ≡ filter (λ b. true) xs ++ []) where
    pub still_blocked : blocked o c s1.journal ≡ blocked o c s.journal
    still_blocked =
        let same : blocked_at o (s.journal ++ e ∷ []) ≡ blocked_at o s.journal = blocked_same o s.journal e (ap (λ v. v == o) at ∙ self_test o) ∙ quiet (blocked_at o s.journal) ∙ all_kept_nil (blocked_at o s.journal) in
        ap (blocked o c) a.journal ∙ ap (λ l. map (λ b. (b.0, b.2)) (filter (λ b. b.1 == c) l)) same

    -- a signal, and whom it wakes
    pub then_pushed : (p : ℕ) (s2 : Seen) → Appended s1 s2 (front_pushed p o (blocked o c s1.journal)) → Appended s s2 (e ∷ front_pushed p o (blocked o c s.journal))
    then_pushed p s2 b =
        appended_both s s1 s2 (e ∷ []) (front_pushed p o (blocked o c s.journal)) a (subst (λ ws. Appended s1 s2 (front_pushed p o ws)) still_blocked b)

    pub then_admitted : (p : ℕ) (f : Entry) (s2 : Seen) → Appended s1 s2 (settled f s1.journal (front_admitted p o (blocked o c s1.journal))) → Appended s s2 (e ∷ settled f (s.journal ++ e ∷ []) (front_admitted p o (blocked o c s.journal)))
    then_admitted p f s2 b =
        appended_both s s1 s2 (e ∷ []) (settled f (s.journal ++ e ∷ []) (front_admitted p o (blocked o c s.journal))) a (subst (λ i. Appended s1 s2 (settled f i (front_admitted p o (blocked o c s.journal)))) a.journal (subst (λ ws. Appended s1 s2 (settled f s1.journal (front_admitted p o ws))) still_blocked b))

pub signal_first : (p t : ℕ) (k : Cost) (o c : ℕ) (ws : List (ℕ × ℤ)) → signalled p t k o c ws ≡ asking kind.Signal p t k o (pos c) (truth (not (is_nobody ws))) ∷ front_pushed p o ws
signal_first p t k o c [] = refl
signal_first p t k o c (w ∷ ws) = refl

pub signal_settled : (f : Entry) (j : Journal) (p t : ℕ) (k : Cost) (o c : ℕ) (ws : List (ℕ × ℤ)) → settled f j (signalled p t k o c ws) ≡ asking kind.Signal p t k o (pos c) (truth (not (is_nobody ws))) ∷ front_pushed p o ws
signal_settled f j p t k o c [] = refl
signal_settled f j p t k o c (w ∷ ws) = refl

pub unheard_first : (p t : ℕ) (k : Cost) (o c : ℕ) (ws : List (ℕ × ℤ)) → is_nobody ws ≡ true → handed p t k o c ws ≡ asking kind.SignalBlock p t k o (pos c) (pos 0) ∷ []
unheard_first p t k o c [] h = refl
unheard_first p t k o c (w ∷ ws) h = cc

pub heard_first : (p t : ℕ) (k : Cost) (o c : ℕ) (ws : List (ℕ × ℤ)) → is_nobody ws ≡ false → handed p t k o c ws ≡ asking kind.SignalBlock p t k o (pos c) (pos 1) ∷ front_admitted p o ws
heard_first p t k o c [] h = cc
heard_first p t k o c (w ∷ ws) h = refl

-- ---- a signaller stands aside
module _ (s s1 : Seen) (p t : ℕ) (k : Cost) (o c : ℕ) (a : Appended s s1 (asking kind.SignalBlock p t k o (pos c) (pos 1) ∷ [])) where
  pub signaller_out : inside o s.journal ≡ t ∷ [] → inside o s1.journal ≡ []
  signaller_out i =
      let e = asking kind.SignalBlock p t k o (pos c) (pos 1) in
      let self = self_test t in
      ap (inside o) a.journal ∙ inside_now s.journal e ∙ ap (inside_after kind.SignalBlock e) i ∙ simp self

  pub signaller_acts : last_actor 0 s1.journal ≡ t
  signaller_acts = ap (last_actor 0) a.journal ∙ last_actor_push 0 s.journal (asking kind.SignalBlock p t k o (pos c) (pos 1))

  pub signaller_stacked : spot t s1.journal ≡ At (Stacked o)
  signaller_stacked =
      ap (spot t) a.journal ∙ spot_moves s.journal (asking kind.SignalBlock p t k o (pos c) (pos 1)) t (and_true (t == t) ∙ self_test t)
