-- The marks with one entry more.
use Rattle.std.proofs.Common.{◌≡◌, ℕ, ◌==◌, ◌<◌, Bool, true, false, List, [], ◌∷◌, ◌++◌, Option, refl, sym, ap, ◌∙◌, subst, length, set, get_or, get_or-set_same, get_or-set_other, length-set}
use Rattle.std.proofs.lemmas.Bool.{eqb-true, eq-eqb}
use Rattle.uc_entry.specs.declared.entry.Entry.{Entry}
use Rattle.uc_acts.specs.Journal.{Journal, inside}
use Rattle.uc_acts.specs.Doors.{last_call, last_called, calls_destructor, is_member}
use Rattle.uc_acts.specs.Known.{is_make}
use Rattle.uc_acts.specs.Sound.{spot, mover}
use Rattle.uc_acts.proofs.Moves.{spot_stays}
use Rattle.uc_acts.proofs.Seats.{inside_other}
use Rattle.uc_acts.proofs.Stood.{last_same, last_other}
use Rattle.uc_kernel_core.specs.Mirrors.{MarksAre, queued_at}
use Rattle.uc_kernel_core.proofs.Doors.{no_both, same_objects}

-- an entry that is no call
pub last_all : (o : ℕ) (j : Journal) (e : Entry) → ((on : ℕ → Option ℕ) (t : ℕ) → last_called on e.kind e t ≡ on t) → (t : ℕ) → last_call o (j ++ e ∷ []) t ≡ last_call o j t
last_all o j e h t = by (e.object == o) refl
  where
    by : (b : Bool) → (e.object == o) ≡ b → last_call o (j ++ e ∷ []) t ≡ last_call o j t
    by true g = last_same o j e t g ∙ h (last_call o j) t
    by false g = last_other o j e t g

module _ (j : Journal) (marks ins : List Bool) (h : MarksAre j marks ins) (e : Entry) (n : is_make e.kind ≡ false) where
  -- whom the entry puts into a queue, it found in one of that object
  pub marked_same : ((on : ℕ → Option ℕ) (t : ℕ) → last_called on e.kind e t ≡ on t) → ((t o : ℕ) → queued_at o (spot t (j ++ e ∷ [])) ≡ true → queued_at o (spot t j) ≡ true) → (t o : ℕ) (d : Bool) → t < length marks → queued_at o (spot t (j ++ e ∷ [])) ≡ true → get_or marks t d ≡ calls_destructor o t (j ++ e ∷ [])
  marked_same k q t o d lt g = h.marked t o d lt (q t o g) ∙ ap (is_member 0) (sym (last_all o j e k t))

  -- the entry puts t alone into a queue
  pub marked_set : (t : ℕ) (b : Bool) → ((u : ℕ) → (t == u) ≡ false → mover e.kind e u ≡ false) → ((o u : ℕ) → (t == u) ≡ false → last_call o (j ++ e ∷ []) u ≡ last_call o j u) → ((o : ℕ) → queued_at o (spot t (j ++ e ∷ [])) ≡ true → b ≡ calls_destructor o t (j ++ e ∷ [])) → (u o : ℕ) (d : Bool) → u < length (set marks t b) → queued_at o (spot u (j ++ e ∷ [])) ≡ true → get_or (set marks t b) u d ≡ calls_destructor o u (j ++ e ∷ [])
  marked_set t b m k own u o d lt g = by (t == u) refl
    where
      within : u < length marks
      within = subst (λ n. u < n) (length-set marks t b) lt

      by : (c : Bool) → (t == u) ≡ c → get_or (set marks t b) u d ≡ calls_destructor o u (j ++ e ∷ [])
      by true s =
          let same : t ≡ u = eqb-true t u s in
          let lt' : t < length marks = subst (λ v. v < length marks) (sym same) within in
          ap (λ v. get_or (set marks t b) v d) (sym same) ∙ get_or-set_same marks t b d lt' ∙ own o (ap (λ v. queued_at o (spot v (j ++ e ∷ []))) same ∙ g) ∙ ap (λ v. calls_destructor o v (j ++ e ∷ [])) same
      by false s =
          get_or-set_other marks t u b d (λ x. no_both (t == u) (eq-eqb t u (sym x)) s) ∙ h.marked u o d within (ap (queued_at o) (sym (spot_stays j e u (m u s))) ∙ g) ∙ ap (is_member 0) (sym (k o u s))

  -- who is inside the object of the entry was there, and called nothing since
  pub entered_same : ((t : ℕ) → inside e.object (j ++ e ∷ []) ≡ t ∷ [] → (inside e.object j ≡ t ∷ []) × (last_call e.object (j ++ e ∷ []) t ≡ last_call e.object j t)) → (o t : ℕ) (d : Bool) → o < length ins → inside o (j ++ e ∷ []) ≡ t ∷ [] → get_or ins o d ≡ calls_destructor o t (j ++ e ∷ [])
  entered_same k o t d lt g = by (e.object == o) refl
    where
      by : (b : Bool) → (e.object == o) ≡ b → get_or ins o d ≡ calls_destructor o t (j ++ e ∷ [])
      by false s =
          h.entered o t d lt (sym (inside_other o j e s) ∙ g) ∙ ap (is_member 0) (sym (last_other o j e t s))
      by true s =
          let same : e.object ≡ o = eqb-true e.object o s in
          let kept = k t (ap (λ v. inside v (j ++ e ∷ [])) same ∙ g) in
          h.entered o t d lt (ap (λ v. inside v j) (sym same) ∙ kept.0) ∙ ap (is_member 0) (ap (λ v. last_call v j t) (sym same) ∙ sym kept.1 ∙ ap (λ v. last_call v (j ++ e ∷ []) t) same)

  -- somebody else is inside it
  pub entered_set : (b : Bool) → ((t : ℕ) → inside e.object (j ++ e ∷ []) ≡ t ∷ [] → b ≡ calls_destructor e.object t (j ++ e ∷ [])) → (o t : ℕ) (d : Bool) → o < length (set ins e.object b) → inside o (j ++ e ∷ []) ≡ t ∷ [] → get_or (set ins e.object b) o d ≡ calls_destructor o t (j ++ e ∷ [])
  entered_set b k o t d lt g = by (e.object == o) refl
    where
      within : o < length ins
      within = subst (λ n. o < n) (length-set ins e.object b) lt

      by : (c : Bool) → (e.object == o) ≡ c → get_or (set ins e.object b) o d ≡ calls_destructor o t (j ++ e ∷ [])
      by false s =
          get_or-set_other ins e.object o b d (λ x. no_both (e.object == o) (eq-eqb e.object o (sym x)) s) ∙ h.entered o t d within (sym (inside_other o j e s) ∙ g) ∙ ap (is_member 0) (sym (last_other o j e t s))
      by true s =
          let same : e.object ≡ o = eqb-true e.object o s in
          let lt' : e.object < length ins = subst (λ v. v < length ins) (sym same) within in
          ap (λ v. get_or (set ins e.object b) v d) (sym same) ∙ get_or-set_same ins e.object b d lt' ∙ k t (ap (λ v. inside v (j ++ e ∷ [])) same ∙ g) ∙ ap (λ v. calls_destructor v t (j ++ e ∷ [])) same

  pub marks_by : (ms is : List Bool) → length ms ≡ length marks → length is ≡ length ins → ((t o : ℕ) (d : Bool) → t < length ms → queued_at o (spot t (j ++ e ∷ [])) ≡ true → get_or ms t d ≡ calls_destructor o t (j ++ e ∷ [])) → ((o t : ℕ) (d : Bool) → o < length is → inside o (j ++ e ∷ []) ≡ t ∷ [] → get_or is o d ≡ calls_destructor o t (j ++ e ∷ [])) → MarksAre (j ++ e ∷ []) ms is
  marks_by ms is a b m i = record {
    marked = m;
    entered = i;
    tasks = a ∙ h.tasks;
    objects = b ∙ h.objects ∙ sym (same_objects j e n);
  }
