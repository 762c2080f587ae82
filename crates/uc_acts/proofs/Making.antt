-- What an act makes of the objects that are there, and who has just made one.
use Rattle.std.proofs.Common.{◌≡◌, ℕ, ℤ, zero, suc, ◌==◌, ◌+◌, ◌<◌, ◌≤◌, ◌&&◌, ◌||◌, Bool, true, false, not, List, [], ◌∷◌, ◌++◌, Option, Some, None, take, length, refl, sym, ap, ◌∙◌, subst, arith, append-nil, append_assoc, ⊎_elim}
use Rattle.std.specs.Prelude.{pos, nat_lt, reverse}
use Rattle.std.specs.Option.{option_to_list}
use Rattle.std.specs.List.{filter}
use Rattle.std.proofs.lemmas.Bool.{eqb-true, eq-eqb, cases_lt}
use Rattle.uc_tree.specs.Programs.{Site}
use Rattle.uc_tree.specs.declared.limits.TheConstants.{TASKS, OBJECTS, PENDING_EVENTS, CLUSTERS, PROCESSORS}
use Rattle.uc_entry.specs.declared.request.TheConstants.{PRINT_ITEMS}
use Rattle.uc_entry.specs.declared.entry.Entry.{Entry}
use Rattle.uc_entry.specs.declared.entry.EntryKind.{EntryKind}
use Rattle.uc_entry.specs.declared.entry.EntryKind.TheVariants as kind
use Rattle.uc_entry.specs.declared.entry.Options.{Options}
use Rattle.uc_entry.specs.declared.request.Answer.{Answer}
use Rattle.uc_entry.specs.declared.request.Answer.TheVariants as answer
use Rattle.uc_entry.specs.declared.request.Asked.{Asked}
use Rattle.uc_entry.specs.declared.request.Piece.{Piece}
use Rattle.uc_entry.specs.declared.request.Request.{Request}
use Rattle.uc_entry.specs.declared.request.Request.TheVariants as ask
use Rattle.uc_acts.specs.Journal.{Journal, begin, is_over, inside, held, moves, lets_in, is_task, where_true, first_or_0, Cost, cost, no_cost, asking}
use Rattle.uc_acts.specs.Queues.{running, cluster_count, processor_count, is_in_use}
use Rattle.uc_acts.specs.Pending.{pending, oldest_in}
use Rattle.uc_acts.specs.Known.{has, object_count, task_count, owner, is_make, is_gone, is_gone_by, made, takes_object, takes_out}
use Rattle.uc_acts.specs.Doors.{site_at, next_met, blocked}
use Rattle.uc_tree.specs.SiteOffers.{Met}
use Rattle.uc_acts.specs.Answers.{tells, asks, answer_to, first_of, makes_for, just_made}
use Rattle.uc_acts.specs.Sound.{Sound}
use Rattle.uc_acts.specs.Legal.{IsNext}
use Rattle.uc_acts.specs.Acts.{row, settled, fault, is_faulty, act, dispatch, lone_limit, or_fault, accepted, took, signalled, handed, front, poll_entry, prints}
use Rattle.uc_acts.specs.KernelRuns.{Fits, MayAsk, KernelMay, KernelRuns, gives, no_room, acts, begun, more}
use Rattle.uc_acts.specs.Laws.{LawNew, IsNew, LawMakes, Elsewhere}
use Rattle.uc_acts.specs.Open.{still_open}
use Rattle.uc_acts.proofs.OpenLemmas.{still_open_push, still_open_silent}
use Rattle.uc_acts.proofs.Seats.{running_same}
use Rattle.uc_acts.proofs.SoundLemmas.{self_test, plus, objects_push, all_kept_nil}
use Rattle.uc_acts.proofs.Rows.{Lawful, row_lawful}
use Rattle.uc_acts.proofs.Law.{good_whole}
use Rattle.uc_acts.proofs.Hush.{is_silent}
use Rattle.uc_acts.proofs.Held.{law_held}
use Rattle.uc_acts.proofs.Bounds.{over_push, over_limit}
use Rattle.uc_acts.proofs.Others.{law_elsewhere}
use Rattle.uc_acts.proofs.Given.{law_dispatch}
use Rattle.uc_acts.proofs.Acting.{is_own, object_of, is_quiet, destroys, AllBy, by_row, by_act}
use Rattle.uc_acts.proofs.Living.{going_row}
use Rattle.uc_acts.proofs.Counted.{Counted, counted_run, gone_push, has_filter}

no_both : (b : Bool) → b ≡ true → b ≡ false → ⊥
no_both b t f = cc

-- what is gone once entries stand
or_or : (a b c : Bool) → ((a || b) || c) ≡ (a || (b || c))
or_or true b c = refl
or_or false b c = refl

or_false : (b : Bool) → (b || false) ≡ b
or_false true = refl
or_false false = refl

gone_append : (o : ℕ) (j a : List Entry) → is_gone o (j ++ a) ≡ (is_gone o j || takes_out a o)
gone_append o j [] = ap (is_gone o) (append-nil j) ∙ sym (or_false (is_gone o j))
gone_append o j (e ∷ a) =
    ap (is_gone o) (sym (append_assoc j (e ∷ []) a)) ∙ gone_append o (j ++ e ∷ []) a ∙ ap (λ b. b || takes_out a o) (gone_push o j e) ∙ or_or (is_gone o j) (takes_object e.kind e o) (takes_out a o)

grows : (j a : List Entry) → object_count j ≤ object_count (j ++ a)
grows j [] = let same = ap object_count (append-nil j) in omega (arith, same)
grows j (e ∷ a) =
    let h = grows (j ++ e ∷ []) a in
    let n = objects_push j e in
    let same = ap object_count (append_assoc j (e ∷ []) a) in
    omega (arith, h, n, same)

-- entries that make nothing
abbrev MakesNone : List Entry → Type 0
MakesNone [] = Unit {0}
MakesNone (e ∷ a) = (is_make e.kind ≡ false) × MakesNone a

count_stays : (j a : List Entry) → MakesNone a → object_count (j ++ a) ≡ object_count j
count_stays j [] h = ap object_count (append-nil j)
count_stays j (e ∷ a) h =
    let n = objects_push j e in
    let z : plus (is_make e.kind) ≡ 0 = ap plus h.0 in
    let r = count_stays (j ++ e ∷ []) a h.1 in
    let same = ap object_count (append_assoc j (e ∷ []) a) in
    omega (arith, n, z, r, same)

module _ (p t o : ℕ) (A : Type 0) (g : Bool) where
  makes_none : (i : Journal) (a : List Entry) → Lawful i a → AllBy p t o A g a → (A → o < object_count i) → MakesNone a
  makes_none i [] l b h = tt
  makes_none i (e ∷ a) l b h =
      (by e.kind l.0.next b.0.door, makes_none (i ++ e ∷ []) a l.1 b.1 (λ x. let lt = h x in let le = grows i (e ∷ []) in omega (arith, lt, le)))
    where
      by : (k : EntryKind) → IsNext k e i → (is_silent k ≡ false → (e.object ≡ o) × A) → is_make k ≡ false
      by kind.Make n d =
          let x = d refl in
          let lt = h x.1 in
          let same = x.0 in
          absurd (omega (arith, n, lt, same))
      by k n d = refl

  takes_none : (v : ℕ) (a : List Entry) → g ≡ false → AllBy p t o A g a → takes_out a v ≡ false
  takes_none v [] h b = refl
  takes_none v (e ∷ a) h b = ap (λ x. x || takes_out a v) (by e.kind b.0.gone) ∙ takes_none v a h b.1
    where
      by : (k : EntryKind) → (is_gone_by k ≡ true → g ≡ true) → takes_object k e v ≡ false
      by kind.Gone d = absurd (no_both g (d refl) h)
      by k d = refl

  asks_not_by : (k : EntryKind) (e : Entry) (u : ℕ) → (is_own k ≡ true → (u == e.task) ≡ false) → asks u k e ≡ false
  asks_not_by kind.Begin e u h = refl
  asks_not_by kind.Dispatch e u h = refl
  asks_not_by kind.Admit e u h = refl
  asks_not_by kind.Push e u h = refl
  asks_not_by kind.Done e u h = refl
  asks_not_by kind.Deadlock e u h = refl
  asks_not_by kind.NoProcessor e u h = refl
  asks_not_by kind.Limit e u h = refl
  asks_not_by k e u h = h refl

  makes_not_by : (k : EntryKind) (e : Entry) (u : ℕ) → (is_own k ≡ true → (u == e.task) ≡ false) → makes_for u k e ≡ None
  makes_not_by kind.Make e u h = ap (λ b. where_true b e.object) (h refl)
  makes_not_by k e u h = refl

  -- what another task has just made stays so
  pub just_made_by : (u : ℕ) (j a : List Entry) → (u == t) ≡ false → AllBy p t o A g a → just_made u (j ++ a) ≡ just_made u j
  unfolding just_made
  just_made_by u j [] n b = ap (just_made u) (append-nil j)
  just_made_by u j (e ∷ a) n b =
      let strange : is_own e.kind ≡ true → (u == e.task) ≡ false = λ own. ap (λ v. u == v) (b.0.task own) ∙ n in
      ap (just_made u) (sym (append_assoc j (e ∷ []) a)) ∙ just_made_by u (j ++ e ∷ []) a n b.1 ∙ still_open_silent (λ e. makes_for u e.kind e) (λ e v. asks u e.kind e) j e (makes_not_by e.kind e u strange) (λ v. asks_not_by e.kind e u strange)

none_kept : (xs : List ℕ) → filter (λ x. false) xs ≡ []
none_kept [] = refl
none_kept (x ∷ xs) = none_kept xs

-- an entry that asks
just_made_asked : (t : ℕ) (j : Journal) (e : Entry) → asks t e.kind e ≡ true → just_made t (j ++ e ∷ []) ≡ option_to_list (makes_for t e.kind e)
unfolding just_made
just_made_asked t j e h =
    still_open_push (λ e. makes_for t e.kind e) (λ e v. asks t e.kind e) j e ∙ ap (λ b. filter (λ v. not b) (just_made t j) ++ option_to_list (makes_for t e.kind e)) h ∙ ap (λ l. l ++ option_to_list (makes_for t e.kind e)) (none_kept (just_made t j))

made_none : (t : ℕ) (e : Entry) (k : EntryKind) → is_make k ≡ false → makes_for t k e ≡ None
made_none t e kind.Make h = cc
made_none t e k h = refl

still_none : (t : ℕ) (j a : List Entry) → MakesNone a → just_made t j ≡ [] → just_made t (j ++ a) ≡ []
unfolding just_made
still_none t j [] m h = ap (just_made t) (append-nil j) ∙ h
still_none t j (e ∷ a) m h =
    ap (just_made t) (sym (append_assoc j (e ∷ []) a)) ∙ still_none t (j ++ e ∷ []) a m.1 (still_open_push (λ e. makes_for t e.kind e) (λ e v. asks t e.kind e) j e ∙ ap (λ l. filter (λ v. not (asks t e.kind e)) l ++ option_to_list (makes_for t e.kind e)) h ∙ ap option_to_list (made_none t e e.kind m.0))

-- the first entry of a row asks for its task
pub record Asks (t : ℕ) (a : List Entry) : Type 0 where
  pub first : Entry
  pub rest : List Entry
  pub is : a ≡ first ∷ rest
  pub asks : asks t first.kind first ≡ true

module _ (opts : Options) (sites : List Site) (input : List ℕ) (j : Journal) (p t : ℕ) (k : Cost) (line : ℕ) where
  by_first : (e : Entry) (a : List Entry) → asks t e.kind e ≡ true → Asks t (e ∷ a)
  by_first e a h = record { first = e; rest = a; is = refl; asks = h }

  asks_or : (b : Bool) (e f : Entry) → asks t e.kind e ≡ true → asks t f.kind f ≡ true → Asks t (or_fault b e f)
  asks_or true e f h g = by_first e [] h
  asks_or false e f h g = by_first f [] g

  asks_accepted : (o site mask : ℕ) (b : Bool) (x : Option Met) → Asks t (accepted p t k o site mask b x)
  asks_accepted o site mask b (Some x) = by_member x.member
    where
      by_member : (m : ℕ) → Asks t (took p t k o site mask b m x.task)
      by_member zero = by_first _ _ (self_test t)
      by_member (suc m) = by_first _ _ (self_test t)
  asks_accepted o site mask true None = by_first _ _ (self_test t)
  asks_accepted o site mask false None = by_first _ _ (self_test t)

  asks_signalled : (o c : ℕ) (ws : List (ℕ × ℤ)) → Asks t (signalled p t k o c ws)
  asks_signalled o c [] = by_first _ _ (self_test t)
  asks_signalled o c (w ∷ ws) = by_first _ _ (self_test t)

  asks_handed : (o c : ℕ) (ws : List (ℕ × ℤ)) → Asks t (handed p t k o c ws)
  asks_handed o c [] = by_first _ _ (self_test t)
  asks_handed o c (w ∷ ws) = by_first _ _ (self_test t)

  asks_front : (o c : ℕ) (ws : List (ℕ × ℤ)) → Asks t (front p t k line o c ws)
  asks_front o c [] = by_first _ _ (self_test t)
  asks_front o c (w ∷ ws) = by_first _ _ (self_test t)

  asks_poll : (mask : ℕ) (r : Option (ℕ × ℤ × ℤ)) → Asks t (poll_entry p t k mask r ∷ [])
  asks_poll mask None = by_first _ _ (self_test t)
  asks_poll mask (Some r) = by_first _ _ (self_test t)

  asks_prints : (n : ℕ) (is : List Piece) → 1 ≤ n → length is ≡ PRINT_ITEMS → Asks t (prints p t k (take n is))
  asks_prints zero is le h = absurd (omega arith)
  asks_prints (suc n) [] le h = cc
  asks_prints (suc n) (i ∷ is) le h = by_first _ _ (self_test t)

  pub row_asks : (r : Request) → Fits opts sites j t r → Asks t (row opts sites input j p t k line r)
  row_asks (ask.Make class) f = asks_or (nat_lt (object_count j) OBJECTS) _ _ (self_test t) (self_test t)
  row_asks (ask.Spawn o) f = asks_or (nat_lt (task_count j) TASKS) _ _ (self_test t) (self_test t)
  row_asks (ask.Accept o site mask) f = asks_accepted o site mask (site_at sites site).has_else (next_met sites site mask o j)
  row_asks (ask.Signal o c) f = asks_signalled o c (blocked o c j)
  row_asks (ask.SignalBlock o c) f = asks_handed o c (blocked o c j)
  row_asks (ask.Front o c) f = asks_front o c (blocked o c j)
  row_asks (ask.Raise o event x y) f = asks_or (nat_lt (length (pending (first_or_0 (owner o j)) j)) PENDING_EVENTS) _ _ (self_test t) (self_test t)
  row_asks (ask.Poll mask) f = asks_poll mask (oldest_in mask (pending t j))
  row_asks (ask.Print n items) f = asks_prints n items f.0 f.2
  row_asks ask.Cluster f = asks_or (nat_lt (cluster_count j) CLUSTERS) _ _ (self_test t) (self_test t)
  row_asks (ask.ClusterEnd c) f = asks_or (not (is_in_use opts c j)) _ _ (self_test t) (self_test t)
  row_asks (ask.Processor c) f = asks_or (nat_lt (processor_count opts j) PROCESSORS) _ _ (self_test t) (self_test t)
  row_asks r f = by_first _ _ (self_test t)

-- a request that makes no object
abbrev is_making : Request → Bool
is_making (ask.Make class) = true
is_making r = false

known_object : (opts : Options) (sites : List Site) (j : Journal) (t : ℕ) (r : Request) → is_making r ≡ false → Fits opts sites j t r → is_quiet r ≡ false → object_of t j r < object_count j
known_object opts sites j t (ask.Make class) n f h = cc
known_object opts sites j t (ask.Made o) n f h = f.known.made
known_object opts sites j t (ask.Spawn o) n f h = f.0.known.made
known_object opts sites j t (ask.Call o m) n f h = f.0.known.made
known_object opts sites j t (ask.Leave o failed) n f h = f.known.made
known_object opts sites j t (ask.Accept o site mask) n f h = f.0.known.made
known_object opts sites j t (ask.Wait o c x) n f h = f.known.made
known_object opts sites j t (ask.Signal o c) n f h = f.known.made
known_object opts sites j t (ask.SignalBlock o c) n f h = f.known.made
known_object opts sites j t ask.End n f h = f.known.made
known_object opts sites j t (ask.Gone o) n f h = f.known.made
known_object opts sites j t r n f h = cc

-- an act that goes on, in what it makes: an object, or none
data Made (opts : Options) (sites : List Site) (j : Journal) (p t : ℕ) (k : Cost) (a : List Entry) : Type 0 where
  one : (class : ℕ) → a ≡ asking kind.Make p t k (object_count j) (pos class) (pos 0) ∷ [] → Made opts sites j p t k a
  none : MakesNone a → Asks t a → Made opts sites j p t k a

module _ (opts : Options) (sites : List Site) (input : List ℕ) (j : Journal) (p t k : ℕ) (asked : Asked) (s : Sound j) (m : MayAsk opts sites j p t k asked.request) (going : is_over (j ++ act opts sites input j p t k asked) ≡ false) where
  making_none : (r : Request) → is_making r ≡ false → asked.request ≡ r → Made opts sites j p t (cost k asked.line) (row opts sites input j p t (cost k asked.line) asked.line r)
  making_none r n e =
      let f : Fits opts sites j t r = subst (Fits opts sites j t) e m.fits in
      none (makes_none p t (object_of t j r) (is_quiet r ≡ false) (destroys r) j (row opts sites input j p t (cost k asked.line) asked.line r) (row_lawful opts sites input j p t (cost k asked.line) asked.line s m.runs r f) (by_row opts sites input j p t (cost k asked.line) asked.line (is_quiet r ≡ false) r (λ h. h)) (known_object opts sites j t r n f)) (row_asks opts sites input j p t (cost k asked.line) asked.line r f)

  making : (r : Request) → asked.request ≡ r → Made opts sites j p t (cost k asked.line) (row opts sites input j p t (cost k asked.line) asked.line r)
  making (ask.Make class) e =
      by (nat_lt (object_count j) OBJECTS) refl (ap (λ r. is_faulty (settled (fault p t no_cost 10 asked.line) j (row opts sites input j p t (cost k asked.line) asked.line r))) (sym e) ∙ (going_row opts sites input j p t k asked going).1)
    where
      clash : true ≡ false → ⊥
      clash e = cc

      by : (b : Bool) → nat_lt (object_count j) OBJECTS ≡ b → is_faulty (settled (fault p t no_cost 10 asked.line) j (or_fault (nat_lt (object_count j) OBJECTS) (asking kind.Make p t (cost k asked.line) (object_count j) (pos class) (pos 0)) (fault p t (cost k asked.line) 16 asked.line))) ≡ false → Made opts sites j p t (cost k asked.line) (or_fault (nat_lt (object_count j) OBJECTS) (asking kind.Make p t (cost k asked.line) (object_count j) (pos class) (pos 0)) (fault p t (cost k asked.line) 16 asked.line))
      by true h c = one class (simp h)
      by false h c = absurd (clash (simp h at c))
  making r e = making_none r refl e

  making_act : Made opts sites j p t (cost k asked.line) (act opts sites input j p t k asked)
  making_act =
      subst (Made opts sites j p t (cost k asked.line)) (sym (going_row opts sites input j p t k asked going).0) (making asked.request refl)

-- law_makes

no_cons : (x : ℕ) (xs : List ℕ) → [] ≡ x ∷ xs → ⊥
no_cons x xs h = cc

head_same : (x y : ℕ) → x ∷ [] ≡ y ∷ [] → x ≡ y
head_same x y h = ap first_or_0 h

not_true : (b : Bool) → (b ≡ true → ⊥) → b ≡ false
not_true true h = absurd (h refl)
not_true false h = refl

or_none : (a b : Bool) → (a || b) ≡ false → (a ≡ false) × (b ≡ false)
or_none true b h = cc
or_none false b h = (refl, h)

module _ (opts : Options) (sites : List Site) (input : List ℕ) (j : Journal) (p t : ℕ) (k : Cost) where
  made_entry : ℕ → Entry
  made_entry class = asking kind.Make p t k (object_count j) (pos class) (pos 0)

  just_now : (class : ℕ) (a : List Entry) → a ≡ asking kind.Make p t k (object_count j) (pos class) (pos 0) ∷ [] → just_made t (j ++ a) ≡ object_count j ∷ []
  just_now class a h =
      let e = asking kind.Make p t k (object_count j) (pos class) (pos 0) in
      let self = self_test t in
      ap (λ x. just_made t (j ++ x)) h ∙ just_made_asked t j e self ∙ ap (λ b. option_to_list (where_true b (object_count j))) self

  none_now : (a : List Entry) → MakesNone a → Asks t a → just_made t (j ++ a) ≡ []
  none_now a n x =
      let b : MakesNone (x.first ∷ x.rest) = subst MakesNone x.is n in
      ap (λ l. just_made t (j ++ l)) x.is ∙ ap (just_made t) (sym (append_assoc j (x.first ∷ []) x.rest)) ∙ still_none t (j ++ x.first ∷ []) x.rest b.1 (just_made_asked t j x.first x.asks ∙ ap option_to_list (made_none t x.first x.first.kind b.0))

  module _ (a : List Entry) (c : Counted j) (d : Counted (j ++ a)) (w : Made opts sites j p t k a) where
    makes_new : (o : ℕ) → has (made (j ++ a)) o ≡ true → has (made j) o ≡ false → just_made t (j ++ a) ≡ o ∷ []
    makes_new o h n = by w
      where
        x : (o < object_count (j ++ a)) × (is_gone o (j ++ a) ≡ false)
        x = d.of_made o h

        alive : is_gone o j ≡ false
        alive = (or_none (is_gone o j) (takes_out a o) (sym (gone_append o j a) ∙ (d.of_made o h).1)).0

        old : is_gone o j ≡ false → o < object_count j → ⊥
        old g lt = no_both (has (made j) o) (c.made_of o lt g) n

        by : Made opts sites j p t k a → just_made t (j ++ a) ≡ o ∷ []
        by (none m q) =
            let lt = (d.of_made o h).0 in
            let same = count_stays j a m in
            absurd (old (or_none (is_gone o j) (takes_out a o) (sym (gone_append o j a) ∙ (d.of_made o h).1)).0 (omega (arith, lt, same)))
        by (one class e) =
            let lt = (d.of_made o h).0 in
            let g = (or_none (is_gone o j) (takes_out a o) (sym (gone_append o j a) ∙ (d.of_made o h).1)).0 in
            let more' : object_count (j ++ a) ≡ object_count j + 1 = ap (λ l. object_count (j ++ l)) e ∙ objects_push j (asking kind.Make p t k (object_count j) (pos class) (pos 0)) in
            let same : object_count j ≡ o = ⊎_elim (λ lt. absurd (old g lt)) (λ le. omega (arith, lt, more', le)) (cases_lt o (object_count j)) in
            just_now class a e ∙ ap (λ v. v ∷ []) same

    makes_stays : (o : ℕ) → has (made j) o ≡ true → takes_out a o ≡ false → has (made (j ++ a)) o ≡ true
    makes_stays o h n =
        let x = c.of_made o h in
        let lt = x.0 in
        let le = grows j a in
        d.made_of o (omega (arith, lt, le)) (gone_append o j a ∙ ap (λ b. b || takes_out a o) x.1 ∙ n)

    makes_out : (o : ℕ) → takes_out a o ≡ true → has (made (j ++ a)) o ≡ false
    makes_out o h =
        not_true (has (made (j ++ a)) o) (λ g. no_both (is_gone o (j ++ a)) (gone_append o j a ∙ ap (λ b. is_gone o j || b) h ∙ or_true (is_gone o j)) (d.of_made o g).1)
      where
        or_true : (b : Bool) → (b || true) ≡ true
        or_true true = refl
        or_true false = refl

    makes_mine : (o : ℕ) → just_made t (j ++ a) ≡ o ∷ [] → has (made j) o ≡ false
    makes_mine o h = by w
      where
        by : Made opts sites j p t k a → has (made j) o ≡ false
        by (none m q) = absurd (no_cons o [] (sym (none_now a m q) ∙ h))
        by (one class e) =
            let same : object_count j ≡ o = head_same (object_count j) o (sym (just_now class a e) ∙ h) in
            not_true (has (made j) o) (λ g. let lt = (c.of_made o g).0 in absurd (omega (arith, lt, same)))

-- what is taken out, its task is inside of
taken_row : (opts : Options) (sites : List Site) (input : List ℕ) (j : Journal) (p t : ℕ) (k : Cost) (line : ℕ) (r : Request) → Fits opts sites j t r → (o : ℕ) → takes_out (row opts sites input j p t k line r) o ≡ true → has (inside o j) t ≡ true
taken_row opts sites input j p t k line (ask.Gone u) f o h =
    let same : o ≡ u = eqb-true o u (first (o == u) h) in rw same f.inside
  where
    first : (b : Bool) → (b || false) ≡ true → b ≡ true
    first true h = refl
    first false h = h
taken_row opts sites input j p t k line r f o h =
    not_taken opts sites input j p t k line r o refl h
  where
    not_taken : (opts : Options) (sites : List Site) (input : List ℕ) (j : Journal) (p t : ℕ) (k : Cost) (line : ℕ) (r : Request) (o : ℕ) → destroys r ≡ false → takes_out (row opts sites input j p t k line r) o ≡ true → has (inside o j) t ≡ true
    not_taken opts sites input j p t k line r o n h =
        absurd (no_both (takes_out (row opts sites input j p t k line r) o) h (takes_none p t (object_of t j r) (Unit {0}) (destroys r) o (row opts sites input j p t k line r) n (by_row opts sites input j p t k line (Unit {0}) r (λ h. tt))))

before_over : (j a : List Entry) → is_over (j ++ a) ≡ false → is_over j ≡ false
before_over j a h = (or_none (is_over j) (is_over a) (sym (over_push j a) ∙ h)).0

pub law_makes : LawMakes
law_makes opts sites input j p t k asked runs m going =
    let a = act opts sites input j p t k asked in
    let s = (good_whole opts sites input runs).sound in
    let c = counted_run opts sites input runs in
    let d = counted_run opts sites input (more runs (before_over j a going) (acts p t k asked m)) in
    let w = making_act opts sites input j p t k asked s m going in
    record {
      new = makes_new opts sites input j p t (cost k asked.line) a c d w;
      stays = makes_stays opts sites input j p t (cost k asked.line) a c d w;
      out = makes_out opts sites input j p t (cost k asked.line) a c d w;
      mine = makes_mine opts sites input j p t (cost k asked.line) a c d w;
      others = λ u n. just_made_by p t (object_of t j asked.request) (Unit {0}) (destroys asked.request) u j a n (by_act opts sites input j p t k (Unit {0}) asked (λ h. tt));
      taken = λ o h. (law_held j).inside t o ∙ taken_row opts sites input j p t (cost k asked.line) asked.line asked.request m.fits o (ap (λ l. takes_out l o) (sym (going_row opts sites input j p t k asked going).0) ∙ h);
    }

-- law_new

module _ (sites : List Site) (j : Journal) (p t : ℕ) (k : Cost) (class : ℕ) (s : Sound j) (runs : running p j ≡ t ∷ []) where
  abbrev Made_now : Journal
  Made_now = j ++ asking kind.Make p t k (object_count j) (pos class) (pos 0) ∷ []

  answer_now : answer_to sites t (j ++ asking kind.Make p t k (object_count j) (pos class) (pos 0) ∷ []) ≡ Some (answer.Object (object_count j))
  unfolding answer_to
  answer_now =
      let e = asking kind.Make p t k (object_count j) (pos class) (pos 0) in
      let self = self_test t in
      let old = still_open (λ e. tells sites t e.kind e) (λ e x. asks t e.kind e) j in
      ap (λ l. first_of (reverse l)) (still_open_push (λ e. tells sites t e.kind e) (λ e x. asks t e.kind e) j e) ∙ ap (λ b. first_of (reverse (filter (λ x. not b) old ++ option_to_list (where_true b (answer.Object (object_count j)))))) self ∙ ap (λ l. first_of (reverse (l ++ answer.Object (object_count j) ∷ []))) (none_left old)
    where
      none_left : (xs : List Answer) → filter (λ x. false) xs ≡ []
      none_left [] = refl
      none_left (x ∷ xs) = none_left xs

  held_now : held t (j ++ asking kind.Make p t k (object_count j) (pos class) (pos 0) ∷ []) ≡ filter (λ o. not ((object_count j == o) && (t == t))) (held t j) ++ object_count j ∷ []
  unfolding held
  held_now =
      let e = asking kind.Make p t k (object_count j) (pos class) (pos 0) in
      let self = self_test t in
      still_open_push (λ e. where_true (is_task t (lets_in e.kind e)) e.object) (λ e o. (e.object == o) && moves e.kind e t) j e ∙ ap (λ b. filter (λ o. not ((object_count j == o) && (t == t))) (held t j) ++ option_to_list (where_true b (object_count j))) self

  once_now : has (filter (λ o. not ((object_count j == o) && (t == t))) (held t j)) (object_count j) ≡ false
  once_now =
      let self = self_test t in
      let same = self_test (object_count j) in
      has_filter (λ o. (object_count j == o) && (t == t)) (held t j) (object_count j) ∙ simp (self, same) (and_false (has (held t j) (object_count j)))
    where
      and_false : (b : Bool) → (b && false) ≡ false
      and_false true = refl
      and_false false = refl

  new_now : IsNew sites (j ++ asking kind.Make p t k (object_count j) (pos class) (pos 0) ∷ []) t (object_count j)
  new_now = record {
    answer = answer_now;
    before = filter (λ o. not ((object_count j == o) && (t == t))) (held t j);
    last = held_now;
    once = once_now;
    processor = p;
    runs = running_same p j (asking kind.Make p t k (object_count j) (pos class) (pos 0)) (self_test p) ∙ all_kept_nil (running p j) ∙ runs;
  }

-- it stays new while others act
new_elsewhere : (sites : List Site) (j a : List Entry) (p t o : ℕ) (n : IsNew sites j t o) → Elsewhere sites j a p n.processor → IsNew sites (j ++ a) t o
new_elsewhere sites j a p t o n e =
    let u = e.untouched t n.runs in
    record {
      answer = u.answer ∙ n.answer;
      before = n.before;
      last = u.objects ∙ n.last;
      once = n.once;
      processor = n.processor;
      runs = e.runs ∙ n.runs;
    }

just_made_given : (t q u : ℕ) (j : Journal) → just_made t (j ++ dispatch q u ∷ []) ≡ just_made t j
unfolding just_made
just_made_given t q u j =
    still_open_silent (λ e. makes_for t e.kind e) (λ e v. asks t e.kind e) j (dispatch q u) refl (λ v. refl)

just_made_begin : (opts : Options) (t : ℕ) → just_made t (begin opts ∷ []) ≡ []
unfolding just_made
just_made_begin opts t = refl

other_processor : (j : Journal) (p q : ℕ) (ps qs : List ℕ) → running p j ≡ ps → running q j ≡ qs → (ps ≡ qs → ⊥) → (q == p) ≡ false
other_processor j p q ps qs a b n = not_true (q == p) (λ h. n (sym a ∙ ap (λ v. running v j) (sym (eqb-true q p h)) ∙ b))

new_may : (opts : Options) (sites : List Site) (input : List ℕ) (j : Journal) (a : List Entry) → KernelRuns opts sites input j → KernelMay opts sites input j a → is_over (j ++ a) ≡ false → (t o : ℕ) → (just_made t j ≡ o ∷ [] → IsNew sites j t o) → just_made t (j ++ a) ≡ o ∷ [] → IsNew sites (j ++ a) t o
new_may opts sites input j _ runs (gives p u v le) going t o ih h =
    let n = ih (sym (just_made_given t p u j) ∙ h) in
    let d = law_dispatch opts sites input j p u runs v in
    new_elsewhere sites j (dispatch p u ∷ []) p t o n (d.elsewhere n.processor (other_processor j p n.processor [] (t ∷ []) v.free n.runs (no_cons t [])))
new_may opts sites input j _ runs (no_room p u v le) going t o ih h =
    absurd (no_both (is_over (j ++ lone_limit ∷ [])) (over_limit j 0 0) going)
new_may opts sites input j _ runs (acts p u k asked m) going t o ih h = by (t == u) refl
  where
    a : List Entry
    a = act opts sites input j p u k asked

    by : (b : Bool) → (t == u) ≡ b → IsNew sites (j ++ act opts sites input j p u k asked) t o
    by false e =
        let a = act opts sites input j p u k asked in
        let n = ih (sym (just_made_by p u (object_of u j asked.request) (Unit {0}) (destroys asked.request) t j a e (by_act opts sites input j p u k (Unit {0}) asked (λ h. tt))) ∙ h) in
        new_elsewhere sites j a p t o n (law_elsewhere opts sites input j p u k asked runs m n.processor (other_processor j p n.processor (u ∷ []) (t ∷ []) m.runs n.runs (λ same. no_both (t == u) (eq-eqb t u (sym (head_same u t same))) e)))
    by true e = mine (eqb-true t u e) (making_act opts sites input j p u k asked (good_whole opts sites input runs).sound m going)
      where
        mine : t ≡ u → Made opts sites j p u (cost k asked.line) (act opts sites input j p u k asked) → IsNew sites (j ++ act opts sites input j p u k asked) t o
        mine same (none n q) =
            absurd (no_cons o [] (sym (none_now opts sites input j p u (cost k asked.line) (act opts sites input j p u k asked) n q) ∙ ap (λ v. just_made v (j ++ act opts sites input j p u k asked)) (sym same) ∙ h))
        mine same (one class e) =
            let a = act opts sites input j p u k asked in
            let here : object_count j ≡ o = head_same (object_count j) o (sym (just_now opts sites input j p u (cost k asked.line) class a e) ∙ ap (λ v. just_made v (j ++ a)) (sym same) ∙ h) in
            let n = new_now sites j p u (cost k asked.line) class (good_whole opts sites input runs).sound m.runs in
            subst (λ v. IsNew sites (j ++ a) v o) (sym same) (subst (λ v. IsNew sites (j ++ a) u v) here (subst (λ l. IsNew sites (j ++ l) u (object_count j)) (sym e) n))

pub law_new : LawNew
law_new opts sites input _ begun going t o h = absurd (no_cons o [] (sym (just_made_begin opts t) ∙ h))
law_new opts sites input _ (more {j} {a} r before m) going t o h =
    new_may opts sites input j a r m going t o (law_new opts sites input j r before t o) h
