-- A task ends by an act in which it asks that it end, and by no other.
use Rattle.std.proofs.Common.{◌≡◌, ℕ, ℤ, zero, suc, ◌==◌, ◌⊎◌, inl, inr, Bool, true, false, List, [], ◌∷◌, ◌++◌, Option, Some, None, refl, sym, ap, ◌∙◌, ◌||◌}
use Rattle.std.specs.Prelude.{take}
use Rattle.std.specs.List.{list_any}
use Rattle.std.proofs.lemmas.List.Folds.{list_any-append}
use Rattle.uc_tree.specs.Programs.{Site}
use Rattle.uc_tree.specs.SiteOffers.{Met}
use Rattle.uc_entry.specs.declared.entry.Entry.{Entry}
use Rattle.uc_entry.specs.declared.entry.Options.{Options}
use Rattle.uc_entry.specs.declared.request.Asked.{Asked}
use Rattle.uc_entry.specs.declared.request.Piece.{Piece}
use Rattle.uc_entry.specs.declared.request.Request.{Request}
use Rattle.uc_entry.specs.declared.request.Request.TheVariants as ask
use Rattle.uc_acts.specs.Journal.{Journal, Cost, no_cost, is_over, cost, own_object, inside}
use Rattle.uc_acts.specs.Pending.{pending, oldest_in}
use Rattle.uc_acts.specs.Doors.{site_at, open_at, next_met, blocked}
use Rattle.uc_acts.specs.Known.{ends, has_ended}
use Rattle.uc_acts.specs.Acts as acts
use Rattle.uc_acts.specs.Acts.{act, row}
use Rattle.uc_acts.proofs.Living.{going_row}

module _ (u : ℕ) where
  -- an entry among these ends the task u
  abbrev Ends : List Entry → Bool
  Ends a = list_any (λ e. ends u e.kind e) a

  or_none : (b : Bool) (e f : Entry) → ends u e.kind e ≡ false → ends u f.kind f ≡ false → Ends (acts.or_fault b e f) ≡ false
  or_none true e f h k = ap (λ c. c || false) h
  or_none false e f h k = ap (λ c. c || false) k

  module _ (p t o : ℕ) where
    admission_none : (sites : List Site) (j : Journal) (n : Option (ℕ × ℕ)) → Ends (acts.admission sites p o j n) ≡ false
    admission_none sites j None = refl
    admission_none sites j (Some n) = refl

    met_none : (v m : ℕ) (c : Option ℕ) → Ends (acts.met_by p t o v m c) ≡ false
    met_none v m None = refl
    met_none v zero (Some c) = refl
    met_none v (suc m) (Some c) = refl

    called_none : (sites : List Site) (m : ℕ) (within : List ℕ) (opened : List Entry) → Ends (acts.called sites p t o m within opened) ≡ false
    called_none sites m [] [] = refl
    called_none sites m (x ∷ xs) [] = refl
    called_none sites m [] (a ∷ rest) = met_none a.task m _
    called_none sites m (x ∷ xs) (a ∷ rest) = met_none a.task m _

    took_none : (k : Cost) (site mask : ℕ) (b : Bool) (m v : ℕ) → Ends (acts.took p t k o site mask b m v) ≡ false
    took_none k site mask b zero v = refl
    took_none k site mask b (suc m) v = refl

    accepted_none : (k : Cost) (site mask : ℕ) (b : Bool) (x : Option Met) → Ends (acts.accepted p t k o site mask b x) ≡ false
    accepted_none k site mask b (Some x) = took_none k site mask b x.member x.task
    accepted_none k site mask true None = refl
    accepted_none k site mask false None = refl

    signalled_none : (k : Cost) (c : ℕ) (ws : List (ℕ × ℤ)) → Ends (acts.signalled p t k o c ws) ≡ false
    signalled_none k c [] = refl
    signalled_none k c (w ∷ ws) = refl

    handed_none : (k : Cost) (c : ℕ) (ws : List (ℕ × ℤ)) → Ends (acts.handed p t k o c ws) ≡ false
    handed_none k c [] = refl
    handed_none k c (w ∷ ws) = refl

    front_none : (k : Cost) (line c : ℕ) (ws : List (ℕ × ℤ)) → Ends (acts.front p t k line o c ws) ≡ false
    front_none k line c [] = refl
    front_none k line c (w ∷ ws) = refl

  poll_none : (p t : ℕ) (k : Cost) (mask : ℕ) (r : Option (ℕ × ℤ × ℤ)) → Ends (acts.poll_entry p t k mask r ∷ []) ≡ false
  poll_none p t k mask None = refl
  poll_none p t k mask (Some r) = refl

  prints_none : (p t : ℕ) (k : Cost) (is : List Piece) → Ends (acts.prints p t k is) ≡ false
  prints_none p t k [] = refl
  prints_none p t k (i ∷ is) = prints_none p t no_cost is

  -- the row of a request ends the task that asks its end, and nobody else
  pub record Asker (t : ℕ) (r : Request) : Type 0 where
    pub asks : r ≡ ask.End
    pub same : (u == t) ≡ true

  module _ (opts : Options) (sites : List Site) (input : List ℕ) (j : Journal) (p t : ℕ) (k : Cost) (line : ℕ) where
    abbrev OrAsker : Request → Type 0
    OrAsker r = (Ends (row opts sites input j p t k line r) ≡ false) ⊎ Asker t r

    end_row : (b c : Bool) → (u == t) ≡ b → c ≡ false → (((u == t) || c) ≡ false) ⊎ Asker t ask.End
    end_row true c e h = inr (record { asks = refl; same = e })
    end_row false c e h = inl (ap (λ d. d || c) e ∙ h)

    row_ends : (r : Request) → OrAsker r
    row_ends (ask.Make c) = inl (or_none _ _ _ refl refl)
    row_ends (ask.Made o) = inl (admission_none p t o sites _ _)
    row_ends (ask.Spawn o) = inl (or_none _ _ _ refl refl)
    row_ends (ask.Call o m) = inl (called_none p t o sites m (inside o j) (open_at o j))
    row_ends (ask.Leave o f) = inl (admission_none p t o sites _ _)
    row_ends (ask.Accept o site mask) = inl (accepted_none p t o k site mask (site_at sites site).has_else (next_met sites site mask o j))
    row_ends (ask.Wait o c n) = inl (admission_none p t o sites _ _)
    row_ends (ask.Signal o c) = inl (signalled_none p t o k c (blocked o c j))
    row_ends (ask.SignalBlock o c) = inl (handed_none p t o k c (blocked o c j))
    row_ends (ask.Empty o c) = inl refl
    row_ends (ask.Front o c) = inl (front_none p t o k line c (blocked o c j))
    row_ends (ask.Raise o e x y) = inl (or_none _ _ _ refl refl)
    row_ends (ask.Poll mask) = inl (poll_none p t k mask (oldest_in mask (pending t j)))
    row_ends ask.Yield = inl refl
    row_ends ask.Slice = inl refl
    row_ends (ask.Print n items) = inl (prints_none p t k (take n items))
    row_ends (ask.Read form) = inl refl
    row_ends ask.Fail = inl refl
    row_ends ask.Cluster = inl (or_none _ _ _ refl refl)
    row_ends (ask.ClusterEnd c) = inl (or_none _ _ _ refl refl)
    row_ends (ask.Processor c) = inl (or_none _ _ _ refl refl)
    row_ends (ask.ProcessorEnd q) = inl refl
    row_ends (ask.Migrate c) = inl refl
    row_ends (ask.Gone o) = inl refl
    row_ends (ask.Fault n) = inl refl
    row_ends ask.End = end_row (u == t) _ refl (admission_none p t (own_object t j) sites _ _)

  any_push : (j : Journal) (a : List Entry) → has_ended u (j ++ a) ≡ (has_ended u j || Ends a)
  unfolding has_ended
  any_push j a = list_any-append (λ e. ends u e.kind e) j a

  or_false : (b c : Bool) → c ≡ false → (b || c) ≡ b
  or_false true c h = refl
  or_false false c h = h

  -- behind an act with which the run goes on
  pub ended_by : (opts : Options) (sites : List Site) (input : List ℕ) (j : Journal) (p t k : ℕ) (asked : Asked) → is_over (j ++ act opts sites input j p t k asked) ≡ false → has_ended u (j ++ act opts sites input j p t k asked) ≡ true → (has_ended u j ≡ true) ⊎ Asker t asked.request
  ended_by opts sites input j p t k asked on h = by (row_ends opts sites input j p t (cost k asked.line) asked.line asked.request)
    where
      is : act opts sites input j p t k asked ≡ row opts sites input j p t (cost k asked.line) asked.line asked.request
      is = (going_row opts sites input j p t k asked on).0

      by : OrAsker opts sites input j p t (cost k asked.line) asked.line asked.request → (has_ended u j ≡ true) ⊎ Asker t asked.request
      by (inr e) = inr e
      by (inl e) =
          inl (sym (or_false (has_ended u j) (Ends (act opts sites input j p t k asked)) (ap Ends is ∙ e)) ∙ (sym (any_push j (act opts sites input j p t k asked)) ∙ h))
