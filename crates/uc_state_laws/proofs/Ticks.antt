-- Who runs has a tick left.
use Rattle.std.proofs.Common.{◌≡◌, ℕ, ◌==◌, ◌+◌, ◌<◌, ◌≤◌, ◌||◌, ◌⊎◌, inl, inr, Bool, true, false, cond, not, List, [], ◌∷◌, ◌++◌, refl, sym, ap, ◌∙◌, subst, arith, append-nil, append_assoc, option_to_list, filter}
use Rattle.std.specs.Prelude.{pos}
use Rattle.std.specs.List.{sum_by}
use Rattle.std.proofs.lemmas.List.Sums.{fold_push}
use Rattle.std.proofs.lemmas.Bool.{eqb-true}
use Rattle.uc_tree.specs.Programs.{Site}
use Rattle.uc_entry.specs.declared.entry.Entry.{Entry}
use Rattle.uc_entry.specs.declared.entry.EntryKind.{EntryKind}
use Rattle.uc_entry.specs.declared.entry.EntryKind.TheVariants as kind
use Rattle.uc_entry.specs.declared.entry.Options.{Options}
use Rattle.uc_entry.specs.declared.request.Asked.{Asked}
use Rattle.uc_entry.specs.declared.request.Request.{Request}
use Rattle.uc_entry.specs.declared.request.Request.TheVariants as ask
use Rattle.uc_acts.specs.Journal.{Journal, where_true, is_over, begin, cost, asking}
use Rattle.uc_acts.specs.Queues.{running, used, spent, dispatches, puts_on, takes_off, actor, last_actor}
use Rattle.uc_acts.specs.Answers.{asks}
use Rattle.uc_acts.specs.Open.{still_open}
use Rattle.uc_acts.specs.Acts.{act, dispatch, lone_limit, row}
use Rattle.uc_acts.specs.Laws.{AreFree, Carries, first, no_room as limited}
use Rattle.uc_acts.specs.Serves.{Serves, left}
use Rattle.uc_acts.specs.KernelRuns.{InRange, MayAsk, KernelMay, KernelRuns, gives, no_room, acts, begun, more}
use Rattle.uc_acts.proofs.OpenLemmas.{still_open_push}
use Rattle.uc_acts.proofs.Noted.{last_actor_push}
use Rattle.uc_acts.proofs.SoundLemmas.{self_test, all_kept}
use Rattle.uc_acts.proofs.Seats.{running_same, running_other}
use Rattle.uc_acts.proofs.Bounds.{over_limit, over_push}
use Rattle.uc_acts.proofs.Acting.{is_own, is_giving, object_of, destroys, AllBy, by_act}
use Rattle.uc_acts.proofs.Making.{row_asks}
use Rattle.uc_acts.proofs.Living.{going_row}
use Rattle.uc_acts.proofs.Lines.{law_line}
use Rattle.uc_acts.proofs.Given.{law_dispatch}
use Rattle.uc_acts.proofs.Others.{law_elsewhere}
use Rattle.uc_state_laws.specs.Fitting.{MayEarly}
use Rattle.uc_state_laws.specs.Laws.{AllLeft, LawLeft}
use Rattle.uc_step_laws.proofs.Kept.{either}

pub no_both : {A : Type 0} (b : Bool) → b ≡ true → b ≡ false → A
no_both b t f = absurd (cc (t, f))

pub not_true : (b : Bool) → (b ≡ true → ⊥) → b ≡ false
not_true true h = absurd (h refl)
not_true false h = refl

-- a journal that goes on went on before
pub not_over : (j a : List Entry) → is_over (j ++ a) ≡ false → is_over j ≡ false
not_over j a h = first_of (is_over j) (is_over a) (sym (over_push j a) ∙ h)
  where
    first_of : (b c : Bool) → (b || c) ≡ false → b ≡ false
    first_of true c h = cc
    first_of false c h = refl

-- the ticks that an entry adds
used_push : (t : ℕ) (j : Journal) (e : Entry) → is_giving e.kind ≡ false → used t (j ++ e ∷ []) ≤ used t j + e.ticks
unfolding used
used_push t j e n =
    let old = still_open (spent t) (λ e x. dispatches e.kind e t) j in
    let same = ap (sum_by (λ k. k)) (still_open_push (spent t) (λ e x. dispatches e.kind e t) j e ∙ ap (λ b. filter (λ x. not b) old ++ option_to_list (spent t e)) (dispatches_not e.kind n) ∙ ap (λ l. l ++ option_to_list (spent t e)) (all_kept old)) in
    by old (e.task == t) (sum_by (λ k. k) (still_open (spent t) (λ e x. dispatches e.kind e t) (j ++ e ∷ []))) same
  where
    dispatches_not : (k : EntryKind) → is_giving k ≡ false → dispatches k e t ≡ false
    dispatches_not kind.Dispatch n = cc
    dispatches_not k n = refl

    by : (old : List ℕ) (b : Bool) (new : ℕ) → new ≡ sum_by (λ k. k) (old ++ option_to_list (where_true b e.ticks)) → new ≤ sum_by (λ k. k) old + e.ticks
    by old true new h = let g = fold_push (λ (n x : ℕ). n + x) 0 old e.ticks in omega (arith, h, g)
    by old false new h = let g = ap (sum_by (λ k. k)) (append-nil old) in omega (arith, h, g)

module _ (p t : ℕ) where
  -- nobody but t
  abbrev Only : List ℕ → Type 0
  Only [] = Unit {0}
  Only (x ∷ xs) = (x ≡ t) × Only xs

  only_filter : (f : ℕ → Bool) (xs : List ℕ) → Only xs → Only (filter f xs)
  only_filter f [] h = tt
  only_filter f (x ∷ xs) h = either Only (f x) (x ∷ filter f xs) (filter f xs) (h.0, only_filter f xs h.1) (only_filter f xs h.1)

  only_append : (xs ys : List ℕ) → Only xs → Only ys → Only (xs ++ ys)
  only_append [] ys h k = k
  only_append (x ∷ xs) ys h k = (h.0, only_append xs ys h.1 k)

  only_put : (k : EntryKind) (e : Entry) (u : ℕ) → is_giving k ≡ false → u ≡ t → Only (option_to_list (puts_on k e u))
  only_put kind.Dispatch e u n h = cc
  only_put kind.Admit e u n h = by (e.task == u) refl
    where
      by : (b : Bool) → (e.task == u) ≡ b → Only (option_to_list (where_true b e.task))
      by true g = (eqb-true e.task u g ∙ h, tt)
      by false g = tt
  only_put k e u n h = tt

  -- who acts behind an entry that asks for t, and behind one of t
  acting_first : (k : EntryKind) (e : Entry) (u : ℕ) → asks t k e ≡ true → actor u k e ≡ t
  acting_first kind.Begin e u h = cc
  acting_first kind.Dispatch e u h = cc
  acting_first kind.Admit e u h = cc
  acting_first kind.Push e u h = cc
  acting_first kind.Done e u h = cc
  acting_first kind.Deadlock e u h = cc
  acting_first kind.NoProcessor e u h = cc
  acting_first kind.Limit e u h = cc
  acting_first k e u h = sym (eqb-true t e.task h)

  acting_on : (k : EntryKind) (e : Entry) (u : ℕ) → (is_own k ≡ true → e.task ≡ t) → u ≡ t → actor u k e ≡ t
  acting_on kind.Admit e u own h = h
  acting_on kind.Push e u own h = h
  acting_on k e u own h = own refl

  only_push : (j : Journal) (e : Entry) → e.proc ≡ p → is_giving e.kind ≡ false → actor (last_actor 0 j) e.kind e ≡ t → Only (running p j) → Only (running p (j ++ e ∷ []))
  only_push j e h n a o =
      subst Only (sym (running_same p j e (ap (λ q. q == p) h ∙ self_test p))) (only_append (filter (λ u. not (takes_off e.kind e u)) (running p j)) (option_to_list (puts_on e.kind e (actor (last_actor 0 j) e.kind e))) (only_filter _ (running p j) o) (only_put e.kind e _ n a))

  module _ (o : ℕ) (A : Type 0) (g : Bool) where
    only_all : (j : Journal) (a : List Entry) → AllBy p t o A g a → last_actor 0 j ≡ t → Only (running p j) → Only (running p (j ++ a))
    only_all j [] b l h = subst (λ i. Only (running p i)) (sym (append-nil j)) h
    only_all j (e ∷ a) b l h =
        let now : actor (last_actor 0 j) e.kind e ≡ t = acting_on e.kind e (last_actor 0 j) b.0.task l in
        subst (λ i. Only (running p i)) (append_assoc j (e ∷ []) a) (only_all (j ++ e ∷ []) a b.1 (last_actor_push 0 j e ∙ now) (only_push j e b.0.proc b.0.acts now h))

    free_used : (j : Journal) (a : List Entry) → AllBy p t o A g a → AreFree a → used t (j ++ a) ≤ used t j
    free_used j [] b f = let same = ap (used t) (append-nil j) in omega (arith, same)
    free_used j (e ∷ a) b f =
        let h = free_used (j ++ e ∷ []) a b.1 f.2 in
        let n = used_push t j e b.0.acts in
        let z = f.0 in
        let same = ap (used t) (append_assoc j (e ∷ []) a) in
        omega (arith, h, n, z, same)

only_one : (t u : ℕ) (xs : List ℕ) → xs ≡ u ∷ [] → (Only 0 t xs) → u ≡ t
only_one t u [] h o = cc
only_one t u (x ∷ xs) h o = let same : x ≡ u = cc h in sym same ∙ o.0

-- the ticks of an act are those of its task

carried : (p t o : ℕ) (A : Type 0) (g : Bool) (j : Journal) (a : List Entry) (k line : ℕ) → Carries k line a → AllBy p t o A g a → is_over (j ++ a) ≡ false → used t (j ++ a) ≤ used t j + k
carried p t o A g j _ k line (first e a h l f) b on =
    let r = free_used p t o A g (j ++ e ∷ []) a b.1 f in
    let n = used_push t j e b.0.acts in
    let same = ap (used t) (append_assoc j (e ∷ []) a) in
    omega (arith, h, r, n, same)
carried p t o A g j _ k line (limited q u) b on = no_both (is_over (j ++ _)) (over_limit j q u) on

module _ (opts : Options) (sites : List Site) (input : List ℕ) (j : Journal) (p t k : ℕ) (asked : Asked) (runs : KernelRuns opts sites input j) (m : MayAsk opts sites j p t k asked.request) (on : is_over (j ++ act opts sites input j p t k asked) ≡ false) where
  by : AllBy p t (object_of t j asked.request) (Unit {0}) (destroys asked.request) (act opts sites input j p t k asked)
  by = by_act opts sites input j p t k (Unit {0}) asked (λ h. tt)

  ticks_used : used t (j ++ act opts sites input j p t k asked) ≤ used t j + k
  ticks_used =
      carried p t (object_of t j asked.request) (Unit {0}) (destroys asked.request) j (act opts sites input j p t k asked) k asked.line (law_line opts sites input j p t k asked m) by on

  -- nobody else comes to its processor
  same_runner : (u : ℕ) → running p (j ++ act opts sites input j p t k asked) ≡ u ∷ [] → u ≡ t
  same_runner u h =
      let x = row_asks opts sites input j p t (cost k asked.line) asked.line asked.request m.fits in
      let is : act opts sites input j p t k asked ≡ x.first ∷ x.rest = (going_row opts sites input j p t k asked on).0 ∙ x.is in
      let b : AllBy p t (object_of t j asked.request) (Unit {0}) (destroys asked.request) (x.first ∷ x.rest) = subst (AllBy p t (object_of t j asked.request) (Unit {0}) (destroys asked.request)) is by in
      let now : actor (last_actor 0 j) x.first.kind x.first ≡ t = acting_first p t x.first.kind x.first (last_actor 0 j) x.asks in
      let o : Only p t (running p j) = subst (Only p t) (sym m.runs) (refl, tt) in
      let after = only_all p t (object_of t j asked.request) (Unit {0}) (destroys asked.request) (j ++ x.first ∷ []) x.rest b.1 (last_actor_push 0 j x.first ∙ now) (only_push p t j x.first b.0.proc b.0.acts now o) in
      only_one t u (running p (j ++ act opts sites input j p t k asked)) h (subst (λ l. Only p t (running p l)) (append_assoc j (x.first ∷ []) x.rest ∙ ap (λ l. j ++ l) (sym is)) after)

  -- who asks for a slice does not run behind it
  sliced : asked.request ≡ ask.Slice → running p (j ++ act opts sites input j p t k asked) ≡ []
  sliced e =
      let i : Entry = asking kind.Slice p t (cost k asked.line) 0 (pos 0) (pos 0) in
      let is : act opts sites input j p t k asked ≡ i ∷ [] = (going_row opts sites input j p t k asked on).0 ∙ ap (row opts sites input j p t (cost k asked.line) asked.line) e in
      let self = self_test t in
      ap (λ l. running p (j ++ l)) is ∙ running_same p j i (self_test p) ∙ ap (λ l. filter (λ u. not (u == t)) l ++ []) m.runs ∙ ap (λ b. cond (not b) (t ∷ []) [] ++ []) self

-- a step of a run

no_cons : (x : ℕ) (ys : List ℕ) → ys ≡ x ∷ [] → ys ≡ [] → ⊥
no_cons x ys h g = cc

is_slice : (r : Request) → (r ≡ ask.Slice) ⊎ (r ≡ ask.Slice → ⊥)
is_slice ask.Slice = inl refl
is_slice r = inr (λ h. cc h)

pub left_act : (opts : Options) (sites : List Site) (input : List ℕ) (j : Journal) (p t k : ℕ) (asked : Asked) → KernelRuns opts sites input j → MayAsk opts sites j p t k asked.request → ((asked.request ≡ ask.Slice → ⊥) → k < left opts j t) → is_over (j ++ act opts sites input j p t k asked) ≡ false → AllLeft opts j → AllLeft opts (j ++ act opts sites input j p t k asked)
left_act opts sites input j p t k asked runs m early on old q u h = by (q == p) refl
  where
    mine : (running p (j ++ act opts sites input j p t k asked) ≡ u ∷ []) → ((asked.request ≡ ask.Slice) ⊎ (asked.request ≡ ask.Slice → ⊥)) → 1 ≤ left opts (j ++ act opts sites input j p t k asked) u
    mine g (inl e) = absurd (no_cons u (running p (j ++ act opts sites input j p t k asked)) g (sliced opts sites input j p t k asked runs m on e))
    mine g (inr n) =
        let same = same_runner opts sites input j p t k asked runs m on u g in
        let le = ticks_used opts sites input j p t k asked runs m on in
        let lt = early n in
        subst (λ v. 1 ≤ left opts (j ++ act opts sites input j p t k asked) v) (sym same) (omega (arith, le, lt))

    by : (b : Bool) → (q == p) ≡ b → 1 ≤ left opts (j ++ act opts sites input j p t k asked) u
    by true e = mine (ap (λ v. running v (j ++ act opts sites input j p t k asked)) (sym (eqb-true q p e)) ∙ h) (is_slice asked.request)
    by false e =
        let x = law_elsewhere opts sites input j p t k asked runs m q e in
        let g : running q j ≡ u ∷ [] = sym x.runs ∙ h in
        let le = old q u g in
        let same = (x.untouched u g).ticks in
        omega (arith, le, same)

used_given : (p t : ℕ) (j : Journal) → used t (j ++ dispatch p t ∷ []) ≡ 0
unfolding used
used_given p t j =
    let old = still_open (spent t) (λ e x. dispatches e.kind e t) j in
    let self = self_test t in
    ap (sum_by (λ k. k)) (still_open_push (spent t) (λ e x. dispatches e.kind e t) j (dispatch p t) ∙ ap (λ b. filter (λ x. not b) old ++ option_to_list (where_true b 0)) self ∙ ap (λ l. l ++ 0 ∷ []) (none_left old))
  where
    none_left : (xs : List ℕ) → filter (λ x. false) xs ≡ []
    none_left [] = refl
    none_left (x ∷ xs) = none_left xs

pub left_given : (opts : Options) (sites : List Site) (input : List ℕ) (j : Journal) (p t : ℕ) → InRange opts → KernelRuns opts sites input j → Serves opts j p t → AllLeft opts j → AllLeft opts (j ++ dispatch p t ∷ [])
left_given opts sites input j p t range runs s old q u h = by (q == p) refl
  where
    by : (b : Bool) → (q == p) ≡ b → 1 ≤ left opts (j ++ dispatch p t ∷ []) u
    by true e =
        let same : u ∷ [] ≡ t ∷ [] = sym h ∙ ap (λ v. running v (j ++ dispatch p t ∷ [])) (eqb-true q p e) ∙ (law_dispatch opts sites input j p t runs s).runs in
        let is : u ≡ t = cc same in
        let none = used_given p t j in
        let some : 1 ≤ opts.slice = range.slice_min in
        subst (λ v. 1 ≤ left opts (j ++ dispatch p t ∷ []) v) (sym is) (omega (arith, none, some))
    by false e =
        let x = (law_dispatch opts sites input j p t runs s).elsewhere q e in
        let g : running q j ≡ u ∷ [] = sym x.runs ∙ h in
        let le = old q u g in
        let same = (x.untouched u g).ticks in
        omega (arith, le, same)

-- nobody runs as a run opens
nobody : (p : ℕ) → running p [] ≡ []
unfolding running
nobody p = refl

none_runs : (opts : Options) (p : ℕ) → running p (begin opts ∷ []) ≡ []
none_runs opts p = by (0 == p) refl
  where
    by : (b : Bool) → (0 == p) ≡ b → running p (begin opts ∷ []) ≡ []
    by true h = running_same p [] (begin opts) h ∙ ap (λ l. filter (λ u. true) l ++ []) (nobody p)
    by false h = running_other p [] (begin opts) h ∙ nobody p

pub left_begin : (opts : Options) → AllLeft opts (begin opts ∷ [])
left_begin opts p t h = absurd (no_cons t (running p (begin opts ∷ [])) h (none_runs opts p))

left_may : (opts : Options) (sites : List Site) (input : List ℕ) (j : Journal) (a : List Entry) → InRange opts → KernelRuns opts sites input j → (m : KernelMay opts sites input j a) → MayEarly opts sites input j a m → is_over (j ++ a) ≡ false → AllLeft opts j → AllLeft opts (j ++ a)
left_may opts sites input j _ range runs (gives p t s le) early on old = left_given opts sites input j p t range runs s old
left_may opts sites input j _ range runs (no_room p t s le) early on old = no_both (is_over (j ++ lone_limit ∷ [])) (over_limit j 0 0) on
left_may opts sites input j _ range runs (acts p t k asked m) early on old = left_act opts sites input j p t k asked runs m early on old

pub law_left : LawLeft
law_left opts sites input _ range begun early on p t h = left_begin opts p t h
law_left opts sites input _ range (more {j} {a} r before m) early on p t h =
    left_may opts sites input j a range r m early.1 on (law_left opts sites input j range r early.0 before) p t h
