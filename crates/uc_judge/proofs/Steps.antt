-- What the next act of a journal that stands comes to.
use Rattle.std.proofs.Common.{◌≡◌, ℕ, suc, ◌+◌, ◌<◌, ◌≤◌, ◌||◌, Bool, true, false, cond, List, [], ◌∷◌, ◌++◌, Option, Some, None, refl, sym, ap, ◌∙◌, subst, arith, length, drop, get_or, append_assoc, append-nil, length-append}
use Rattle.std.specs.Prelude.{pos, nat_le, nat_lt}
use Rattle.std.proofs.Math.Seq.{drop-cons}
use Rattle.std.proofs.lemmas.Bool.{leb-true, leb-false, ltb-true, ltb-false}
use Rattle.uc_tree.specs.Programs.{Site}
use Rattle.uc_entry.specs.declared.entry.Entry.{Entry}
use Rattle.uc_entry.specs.declared.entry.EntryKind.{EntryKind}
use Rattle.uc_entry.specs.declared.entry.EntryKind.TheVariants as kind
use Rattle.uc_entry.specs.declared.entry.Options.{Options}
use Rattle.uc_entry.specs.declared.request.Asked.{Asked}
use Rattle.uc_acts.specs.Journal.{Journal, entry, is_over, first_or_0}
use Rattle.uc_acts.specs.Queues.{running}
use Rattle.uc_acts.specs.Acts.{act, entries_of, ending, dispatch, lone_limit}
use Rattle.uc_acts.specs.Serves.{Serves, left}
use Rattle.uc_acts.specs.KernelRuns.{InRange}
use Rattle.uc_acts.specs.Laws.{Room, IsServed}
use Rattle.uc_acts.proofs.Bounds.{over_limit, over_push}
use Rattle.uc_judge.specs.declared.asks.Walked.{Walked}
use Rattle.uc_judge.specs.declared.ledger.Ledger.{Ledger}
use Rattle.uc_judge.specs.declared.verdict.Verdict.{Verdict}
use Rattle.uc_judge.specs.declared.verdict.Verdict.TheVariants.{Yes, No}
use Rattle.uc_judge.specs.Asking.{Asking, Walks, IsWhole, AsksOnce, AsksWhole}
use Rattle.uc_judge.specs.Changes.{told_of}
use Rattle.uc_judge.specs.Compared.{GoesAs, TurnsOff, Compares}
use Rattle.uc_judge.specs.Ledgers.{IsLedger, Adds}
use Rattle.uc_judge.specs.Scheduled.{only_of}
use Rattle.uc_judge.specs.Runs.{lined, written, Cause, May, gives, no_room, acts, Runs, more, GoesWrong, IsVerdict}
use Rattle.uc_judge.specs.Walks.{IsReady, Advances, Stands, MayGive, MayStop, IsNext, is_dispatch, ended}
use Rattle.uc_judge.proofs.Cuts.{no_both, first_of, is_giving, written_append, written_length, proc_of, gives_not, act_begins, some_entry, act_of, starts}
use Rattle.uc_judge.proofs.Fitted.{drop_of}
use Rattle.uc_judge.proofs.Walking.{right, wrong_none, wrong_act, wrong_over, wrong_end}

-- an act leaves room for one more entry, unless it ends the run
pub act_room : (opts : Options) (sites : List Site) (input : List ℕ) (j : Journal) (p t k : ℕ) (asked : Asked) → length j < opts.entries → Room opts (j ++ act opts sites input j p t k asked)
act_room opts sites input j p t k asked lt =
    let rows = entries_of opts sites input j p t k asked in
    by (rows ++ ending opts j p t rows) (nat_le (length j + length (rows ++ ending opts j p t rows) + 1) opts.entries) refl
  where
    by : (a : List Entry) (b : Bool) → nat_le (length j + length a + 1) opts.entries ≡ b → Room opts (j ++ cond b a (entry kind.Limit p t 0 0 (pos 0) (pos 0) ∷ []))
    by a true h =
        let le = leb-true (length j + length a + 1) opts.entries h in
        let l = length-append j a in
        record { most = omega (arith, le, l); going = λ f. omega (arith, le, l) }
    by a false h =
        let l = length-append j (entry kind.Limit p t 0 0 (pos 0) (pos 0) ∷ []) in
        record { most = omega (arith, lt, l); going = λ f. absurd (no_both (is_over (j ++ entry kind.Limit p t 0 0 (pos 0) (pos 0) ∷ [])) (over_limit j p t) f) }

-- whether a run ends is told by the entries that are added
split_over : (all j a : List Entry) (from : ℕ) → from ≡ length j → all ≡ j ++ a → is_over all ≡ (is_over j || is_over (drop from all))
split_over all j a from at h =
    ap is_over h ∙ over_push j a ∙ ap (λ l. is_over j || is_over l) (sym (ap (drop from) h ∙ drop_of j a from at))

pub over_from : (all j a : List Entry) (from : ℕ) → from ≡ length j → all ≡ j ++ a → is_over (drop from all) ≡ true → is_over all ≡ true
over_from all j a from at h over = split_over all j a from at h ∙ ap (λ b. is_over j || b) over ∙ or_true (is_over j)
  where
    or_true : (b : Bool) → (b || true) ≡ true
    or_true true = refl
    or_true false = refl

pub going_from : (all j a : List Entry) (from : ℕ) → from ≡ length j → all ≡ j ++ a → is_over j ≡ false → is_over (drop from all) ≡ false → is_over all ≡ false
going_from all j a from at h going on =
    split_over all j a from at h ∙ ap (λ b. b || is_over (drop from all)) going ∙ on

-- a ledger with an act more
pub advances : {old new : Ledger} {sites : List Site} (input : List ℕ) (p t k : ℕ) (asked : Asked) → IsReady old sites → IsWhole asked.request → new.entries.items ≡ old.entries.items ++ act old.opts sites input old.entries.items p t k asked → new.opts ≡ old.opts → is_over new.entries.items ≡ false → IsLedger new sites → Advances old new sites
advances {old} {new} {sites} input p t k asked ready whole made same going ledger =
    let j = old.entries.items in
    let a = act old.opts sites input j p t k asked in
    let room = (act_room old.opts sites input j p t k asked ready.room).going (ap is_over (sym made) ∙ going) in
    let some = some_entry p t a (act_begins old.opts sites input j p t k asked whole) in
    let n = ap length made in
    let m = length-append j a in
    let o = ap (λ o. o.entries) same in
    record {
      ready = record { in_range = subst InRange (sym same) ready.in_range; ledger = ledger; going = going; room = omega (arith, room, n, m, o) };
      more = omega (arith, some, n, m);
    }

-- and with a dispatch more
pub gives_more : {old new : Ledger} {sites : List Site} {p t : ℕ} → IsReady old sites → Adds old new sites (dispatch p t ∷ []) → length old.entries.items + 2 ≤ old.opts.entries → Advances old new sites
unfolding is_over
gives_more {old} {new} {sites} {p} {t} ready adds le =
    let j = old.entries.items in
    let n = ap length adds.entries in
    let m = length-append j (dispatch p t ∷ []) in
    let o = ap (λ o. o.entries) adds.opts in
    record {
      ready = record { in_range = subst InRange (sym adds.opts) ready.in_range; ledger = adds.ledger; going = ap is_over adds.entries ∙ over_push j (dispatch p t ∷ []) ∙ ap (λ b. b || false) ready.going; room = omega (arith, le, n, m, o) };
      more = omega (arith, n, m);
    }

same_test : (k : EntryKind) → is_giving k ≡ is_dispatch k
same_test kind.Dispatch = refl
same_test k = refl

-- the rest of a journal that stands
pub rest_is : {W : Type 0} {cause : Cause W} {old : Ledger} {w : W} {z : Journal} → (s : Stands cause old w z) → drop (length old.entries.items) z ≡ s.goes.rest
rest_is {cause = cause} {old = old} s =
    ap (drop (length old.entries.items)) s.goes.is ∙ drop_of (written cause.lines old.entries.items) s.goes.rest (length old.entries.items) (sym (written_length cause.lines old.entries.items))

not_less : (a b : ℕ) → b ≤ a → nat_lt a b ≡ false
not_less a b le = of (nat_lt a b) refl
  where
    of : (c : Bool) → nat_lt a b ≡ c → c ≡ false
    of false h = refl
    of true h = let lt = ltb-true a b h in absurd (omega (arith, lt, le))

less : (a b : ℕ) → a < b → nat_lt a b ≡ true
less a b lt = of (nat_lt a b) refl
  where
    of : (c : Bool) → nat_lt a b ≡ c → c ≡ true
    of true h = refl
    of false h = let le = ltb-false a b h in absurd (omega (arith, lt, le))

-- an act that the journal has
module _ {W : Type 0} {cause : Cause W} {old : Ledger} {w : W} {z : Journal} (going : is_over old.entries.items ≡ false) (s : Stands cause old w z) (new : Ledger) (a : List Entry) (x : W) (may : May cause old.opts old.entries.items w a x) (made : new.entries.items ≡ old.entries.items ++ a) (opts : new.opts ≡ old.opts) (same : GoesAs cause.lines a (drop (length old.entries.items) z)) where
  runs_on : Runs cause new.opts new.entries.items x
  runs_on =
      subst (λ o. Runs cause o new.entries.items x) (sym opts) (subst (λ l. Runs cause old.opts l x) (sym made) (more s.runs going may))

  goes_on : GoesAs cause.lines new.entries.items z
  goes_on = record {
    rest = same.rest;
    is = s.goes.is ∙ ap (λ l. written cause.lines old.entries.items ++ l) (sym (rest_is s) ∙ same.is) ∙ sym (append_assoc (written cause.lines old.entries.items) (written cause.lines a) same.rest) ∙ ap (λ l. l ++ same.rest) (sym (written_append cause.lines old.entries.items a) ∙ ap (written cause.lines) (sym made));
  }

  pub stands_on : Stands cause new x z
  stands_on = record { runs = runs_on; goes = goes_on }

  pub ends_there : AsksOnce cause.asks → AsksWhole cause.asks → InRange old.opts → is_over new.entries.items ≡ true → IsVerdict cause z (ended new z)
  unfolding goes_on
  ends_there once whole range over = by same.rest refl
    where
      n : ℕ
      n = length new.entries.items

      range_on : InRange new.opts
      range_on = subst InRange (sym opts) range

      answer : (b : Bool) → nat_lt n (length z) ≡ b → IsVerdict cause z (cond b (No n) Yes) → IsVerdict cause z (ended new z)
      answer b h v = subst (λ c. IsVerdict cause z (cond c (No n) Yes)) (sym h) v

      by : (r : List Entry) → same.rest ≡ r → IsVerdict cause z (ended new z)
      by [] h =
          let is : z ≡ written cause.lines new.entries.items = goes_on.is ∙ ap (λ l. written cause.lines new.entries.items ++ l) h ∙ append-nil (written cause.lines new.entries.items) in
          let l = ap length is in
          let m = written_length cause.lines new.entries.items in
          answer false (not_less n (length z) (omega (arith, l, m))) (right cause once whole range_on runs_on over z is)
      by (e ∷ y) h =
          let is : z ≡ written cause.lines new.entries.items ++ e ∷ y = goes_on.is ∙ ap (λ l. written cause.lines new.entries.items ++ l) h in
          let l = ap length is in
          let m = written_length cause.lines new.entries.items in
          let k = length-append (written cause.lines new.entries.items) (e ∷ y) in
          answer true (less n (length z) (omega (arith, l, m, k))) (subst (GoesWrong cause z) m (wrong_over cause once whole range_on runs_on over z e y is))

-- where the next entry is none that may follow
module _ {W : Type 0} (cause : Cause W) (once : AsksOnce cause.asks) (whole : AsksWhole cause.asks) {old : Ledger} {sites : List Site} {w : W} {z : Journal} (ready : IsReady old sites) (s : Stands cause old w z) where
  abbrev j : Journal
  j = old.entries.items

  here : (e : Entry) (y : List Entry) → drop (length j) z ≡ e ∷ y → z ≡ written cause.lines j ++ e ∷ y
  here e y is = s.goes.is ∙ ap (λ l. written cause.lines j ++ l) (sym (rest_is s) ∙ is)

  none_goes : (e : Entry) (y : List Entry) → drop (length j) z ≡ e ∷ y → ((a : List Entry) (v : W) → May cause old.opts j w a v → (r u : List Entry) → written cause.lines a ++ r ≡ e ∷ u → ⊥) → GoesWrong cause z (length j)
  none_goes e y is never =
      subst (GoesWrong cause z) (written_length cause.lines j) (wrong_none cause once whole ready.in_range s.runs ready.going z e y (here e y is) never)

  -- a dispatch that may not
  pub no_dispatch : (e : Entry) (y : List Entry) → drop (length j) z ≡ e ∷ y → is_dispatch e.kind ≡ true → ((p t : ℕ) → MayGive cause.lines old e p t → ⊥) → GoesWrong cause z (length j)
  no_dispatch e y is d not = none_goes e y is (λ a v m r u h. never m r u h)
    where
      never : {a : List Entry} {v : W} → May cause old.opts j w a v → (r u : List Entry) → written cause.lines a ++ r ≡ e ∷ u → ⊥
      never (gives p t v m) r u h = not p t (record { is = sym (ap first_of h); serves = v; room = m })
      never (no_room p t v m) r u h =
          no_both (is_giving e.kind) (same_test e.kind ∙ d) (ap (λ l. is_giving (first_of l).kind) (sym h))
      never (acts p t k asked x f g) r u h =
          no_both (is_giving e.kind) (same_test e.kind ∙ d) (ap (λ l. is_giving (first_of l).kind) (sym h) ∙ gives_not cause.lines p t (act_of cause old.opts j p t k asked) r (starts cause whole old.opts j w p t k asked x g))

  -- no task runs alone on its processor
  pub no_actor : (e : Entry) (y : List Entry) → drop (length j) z ≡ e ∷ y → is_dispatch e.kind ≡ false → (MayStop cause.lines old e → ⊥) → None ≡ only_of (running e.proc j) → GoesWrong cause z (length j)
  no_actor e y is d not nobody = none_goes e y is (λ a v m r u h. never m r u h)
    where
      never : {a : List Entry} {v : W} → May cause old.opts j w a v → (r u : List Entry) → written cause.lines a ++ r ≡ e ∷ u → ⊥
      never (gives p t v m) r u h = no_both (is_dispatch e.kind) (ap (λ l. is_dispatch (first_of l).kind) (sym h)) d
      never (no_room p t v m) r u h =
          not (record { is = sym (ap first_of h); full = m; served = record { processor = p; task = t; serves = v } })
      never (acts p t k asked x f g) r u h =
          let q : p ≡ e.proc = sym (proc_of cause.lines p t (act_of cause old.opts j p t k asked) r (starts cause whole old.opts j w p t k asked x g)) ∙ ap (λ l. (first_of l).proc) h in
          let one : None ≡ Some t = nobody ∙ ap only_of (ap (λ n. running n j) (sym q) ∙ f) in
          cc

  -- the task that runs there
  module _ (p t : ℕ) (next : IsNext cause.lines old z p t) where
    -- asks nothing
    pub no_request : ((k : ℕ) (asked : Asked) (x : W) → cause.asks w t (left old.opts j t) k asked x → ⊥) → GoesWrong cause z (length j)
    no_request silent = none_goes next.entry next.later next.is (λ a v m r u h. never m r u h)
      where
        never : {a : List Entry} {v : W} → May cause old.opts j w a v → (r u : List Entry) → written cause.lines a ++ r ≡ next.entry ∷ u → ⊥
        never (gives p' t' v m) r u h = no_both (is_dispatch next.entry.kind) (ap (λ l. is_dispatch (first_of l).kind) (sym h)) next.gives_none
        never (no_room p' t' v m) r u h =
            next.no_limit (record { is = sym (ap first_of h); full = m; served = record { processor = p'; task = t'; serves = v } })
        never (acts p' t' k asked x f g) r u h =
            let q : p' ≡ p = sym (proc_of cause.lines p' t' (act_of cause old.opts j p' t' k asked) r (starts cause whole old.opts j w p' t' k asked x g)) ∙ ap (λ l. (first_of l).proc) h ∙ next.proc in
            let u' : t' ≡ t = ap first_or_0 (sym f ∙ ap (λ n. running n j) q ∙ next.runs) in
            silent k asked x (subst (λ n. cause.asks w n (left old.opts j n) k asked x) u' g)

    module _ (k : ℕ) (asked : Asked) (x : W) (asks : cause.asks w t (left old.opts j t) k asked x) where
      only_next : {a : List Entry} {v : W} → May cause old.opts j w a v → (r u : List Entry) → written cause.lines a ++ r ≡ next.entry ∷ u → a ≡ act_of cause old.opts j p t k asked
      only_next (gives p' t' v m) r u h =
          absurd (no_both (is_dispatch next.entry.kind) (ap (λ l. is_dispatch (first_of l).kind) (sym h)) next.gives_none)
      only_next (no_room p' t' v m) r u h =
          absurd (next.no_limit (record { is = sym (ap first_of h); full = m; served = record { processor = p'; task = t'; serves = v } }))
      only_next (acts p' t' k' asked' x' f g) r u h =
          let q : p' ≡ p = sym (proc_of cause.lines p' t' (act_of cause old.opts j p' t' k' asked') r (starts cause whole old.opts j w p' t' k' asked' x' g)) ∙ ap (λ l. (first_of l).proc) h ∙ next.proc in
          let u' : t' ≡ t = ap first_or_0 (sym f ∙ ap (λ n. running n j) q ∙ next.runs) in
          let walk = once w t (left old.opts j t) k' k asked' asked x' x (subst (λ n. cause.asks w n (left old.opts j n) k' asked' x') u' g) asks in
          ap (λ n. act_of cause old.opts j n t' k' asked') q ∙ ap (λ n. act_of cause old.opts j p n k' asked') u' ∙ ap (λ n. act_of cause old.opts j p t n asked') walk.ticks ∙ ap (λ n. act_of cause old.opts j p t k n) walk.asked

      -- acts otherwise
      pub other_act : (n : ℕ) → TurnsOff cause.lines (act_of cause old.opts j p t k asked) (drop (length j) z) n → GoesWrong cause z (length j + n)
      other_act n off =
          subst (λ m. GoesWrong cause z (m + n)) (written_length cause.lines j) (wrong_act cause once whole ready.in_range s.runs ready.going z next.entry next.later (here next.entry next.later next.is) (act_of cause old.opts j p t k asked) _ (acts p t k asked x next.runs asks) (λ a v m r u h. only_next m r u h) n (subst (λ l. TurnsOff cause.lines (act_of cause old.opts j p t k asked) l n) next.is off))

      module _ (new : Ledger) (made : new.entries.items ≡ j ++ act_of cause old.opts j p t k asked) (same : new.opts ≡ old.opts) (from : ℕ) (at : from ≡ length j) where
        added : drop from new.entries.items ≡ act_of cause old.opts j p t k asked
        added = ap (drop from) made ∙ drop_of j (act_of cause old.opts j p t k asked) from at

        has : GoesAs cause.lines (drop from new.entries.items) (drop from z) → GoesAs cause.lines (act_of cause old.opts j p t k asked) (drop (length j) z)
        has g =
            subst (λ l. GoesAs cause.lines l (drop (length j) z)) added (subst (λ n. GoesAs cause.lines (drop from new.entries.items) (drop n z)) at g)

        may : May cause old.opts j w (act_of cause old.opts j p t k asked) (told_of cause.told cause.sites x (act_of cause old.opts j p t k asked))
        may = acts p t k asked x next.runs asks

        pub wrong_from : (n m : ℕ) → m ≡ from + n → TurnsOff cause.lines (drop from new.entries.items) (drop from z) n → GoesWrong cause z m
        wrong_from n m h off =
            subst (GoesWrong cause z) (ap (λ l. l + n) (sym at) ∙ sym h) (other_act n (subst (λ l. TurnsOff cause.lines l (drop (length j) z) n) added (subst (λ l. TurnsOff cause.lines (drop from new.entries.items) (drop l z) n) at off)))

        pub end_from : GoesAs cause.lines (drop from new.entries.items) (drop from z) → is_over (drop from new.entries.items) ≡ true → IsVerdict cause z (ended new z)
        end_from g over =
            ends_there ready.going s new (act_of cause old.opts j p t k asked) _ may made same (has g) once whole ready.in_range (over_from new.entries.items j (act_of cause old.opts j p t k asked) from at made over)

        pub stand_from : (v : W) → GoesAs cause.lines (drop from new.entries.items) (drop from z) → v ≡ told_of cause.told cause.sites x (drop from new.entries.items) → Stands cause new v z
        stand_from v g h =
            subst (λ u. Stands cause new u z) (sym (h ∙ ap (told_of cause.told cause.sites x) added)) (stands_on ready.going s new (act_of cause old.opts j p t k asked) _ may made same (has g))

-- the journal has a dispatch that may follow
pub stand_given : {W : Type 0} {cause : Cause W} {old new : Ledger} {sites : List Site} {w : W} {z : Journal} → IsReady old sites → Stands cause old w z → (e : Entry) (y : List Entry) (p t : ℕ) → drop (length old.entries.items) z ≡ e ∷ y → MayGive cause.lines old e p t → new.entries.items ≡ old.entries.items ++ dispatch p t ∷ [] → new.opts ≡ old.opts → Stands cause new w z
stand_given {new = new} {w = w} ready s e y p t is m made same =
    stands_on ready.going s new (dispatch p t ∷ []) w (gives p t m.serves m.room) made same (record { rest = y; is = is ∙ ap (λ x. x ∷ y) m.is })

-- the limit in place of one
pub end_given : {W : Type 0} {cause : Cause W} {old : Ledger} {sites : List Site} {w : W} {z : Journal} (new : Ledger) → AsksOnce cause.asks → AsksWhole cause.asks → IsReady old sites → Stands cause old w z → (e : Entry) (y : List Entry) → drop (length old.entries.items) z ≡ e ∷ y → MayStop cause.lines old e → new.entries.items ≡ old.entries.items ++ lone_limit ∷ [] → new.opts ≡ old.opts → IsVerdict cause z (ended new z)
end_given {old = old} {w = w} new once whole ready s e y is m made same =
    ends_there ready.going s new (lone_limit ∷ []) w (no_room m.served.processor m.served.task m.served.serves m.full) made same (record { rest = y; is = is ∙ ap (λ x. x ∷ y) m.is }) once whole ready.in_range (ap is_over made ∙ over_limit old.entries.items 0 0)

-- all entries of the journal stand, and the run has not ended
pub wrong_unended : {W : Type 0} (cause : Cause W) {s : Ledger} {sites : List Site} {w : W} {z : Journal} → AsksOnce cause.asks → AsksWhole cause.asks → IsReady s sites → Stands cause s w z → length z ≤ length s.entries.items → GoesWrong cause z (length s.entries.items)
wrong_unended cause {s} {z = z} once whole ready st le =
    by st.goes.rest refl
  where
    j : List Entry
    j = written cause.lines s.entries.items

    by : (r : List Entry) → st.goes.rest ≡ r → GoesWrong cause z (length s.entries.items)
    by [] h =
        let is : z ≡ j = st.goes.is ∙ ap (λ l. j ++ l) h ∙ append-nil j in
        subst (GoesWrong cause z) (ap length is ∙ written_length cause.lines s.entries.items) (wrong_end cause once whole ready.in_range st.runs ready.going z is)
    by (e ∷ y) h =
        let l = ap length (st.goes.is ∙ ap (λ l. j ++ l) h) in
        let m = length-append j (e ∷ y) in
        let n = written_length cause.lines s.entries.items in
        absurd (omega (arith, l, m, n, le))

-- which dispatch an entry is
named_so : (lines : Bool) (e : Entry) (p t : ℕ) → e ≡ lined lines (dispatch p t) → (p ≡ e.proc) × (t ≡ e.task)
named_so lines e p t h = (sym (ap (λ x. x.proc) h), sym (ap (λ x. x.task) h))

pub give_so : {lines : Bool} {s : Ledger} {e d : Entry} → d ≡ dispatch e.proc e.task → e ≡ lined lines d → nat_le (length s.entries.items + 2) s.opts.entries ≡ true → Serves s.opts s.entries.items e.proc e.task → MayGive lines s e e.proc e.task
give_so {lines} {s} h is le v = record { is = is ∙ ap (lined lines) h; serves = v; room = leb-true (length s.entries.items + 2) s.opts.entries le }

pub give_off : {lines : Bool} {s : Ledger} {e d : Entry} → d ≡ dispatch e.proc e.task → (e ≡ lined lines d → ⊥) → (p t : ℕ) → MayGive lines s e p t → ⊥
give_off {lines} {s} {e} {d} h not p t m =
    let n = named_so lines e p t m.is in
    not (m.is ∙ ap (λ q. lined lines (dispatch q t)) n.0 ∙ ap (λ u. lined lines (dispatch e.proc u)) n.1 ∙ ap (lined lines) (sym h))

pub give_full : {lines : Bool} {s : Ledger} {e : Entry} → nat_le (length s.entries.items + 2) s.opts.entries ≡ false → (p t : ℕ) → MayGive lines s e p t → ⊥
give_full {s = s} h p t m =
    let lt = leb-false (length s.entries.items + 2) s.opts.entries h in
    let le = m.room in
    absurd (omega (arith, lt, le))

pub give_unserved : {lines : Bool} {s : Ledger} {e : Entry} → (Serves s.opts s.entries.items e.proc e.task → ⊥) → (p t : ℕ) → MayGive lines s e p t → ⊥
give_unserved {lines} {s} {e} not p t m =
    let n = named_so lines e p t m.is in
    not (subst (λ q. Serves s.opts s.entries.items q e.task) n.0 (subst (λ u. Serves s.opts s.entries.items p u) n.1 m.serves))

pub stop_so : {lines : Bool} {s : Ledger} {e d : Entry} → d ≡ lone_limit → e ≡ lined lines d → nat_le (length s.entries.items + 2) s.opts.entries ≡ false → IsServed s.opts s.entries.items → MayStop lines s e
stop_so {lines} {s} h is lt v =
    let le = leb-false (length s.entries.items + 2) s.opts.entries lt in
    record { is = is ∙ ap (lined lines) h; full = omega (arith, le); served = v }

pub stop_off : {lines : Bool} {s : Ledger} {e d : Entry} → d ≡ lone_limit → (e ≡ lined lines d → ⊥) → MayStop lines s e → ⊥
stop_off {lines} h not m = not (m.is ∙ ap (lined lines) (sym h))

pub stop_room : {lines : Bool} {s : Ledger} {e : Entry} → nat_le (length s.entries.items + 2) s.opts.entries ≡ true → MayStop lines s e → ⊥
stop_room {s = s} h m =
    let le = leb-true (length s.entries.items + 2) s.opts.entries h in
    let lt = m.full in
    absurd (omega (arith, lt, le))

-- what an act adds, as numbers
module _ {old : Ledger} {sites : List Site} (new : Ledger) (input : List ℕ) (p t k : ℕ) (asked : Asked) {from : ℕ} (ready : IsReady old sites) (at : from ≡ length old.entries.items) (made : new.entries.items ≡ old.entries.items ++ act old.opts sites input old.entries.items p t k asked) where
  pub from_within : from ≤ length new.entries.items
  from_within =
      let n = ap length made in
      let m = length-append old.entries.items (act old.opts sites input old.entries.items p t k asked) in
      omega (arith, at, n, m)

  most : length new.entries.items ≤ old.opts.entries
  most =
      subst (λ n. n ≤ old.opts.entries) (sym (ap length made)) (act_room old.opts sites input old.entries.items p t k asked ready.room).most

  pub new_within : length new.entries.items ≤ 10000000
  new_within =
      let le = most in
      let top = ready.in_range.entries_max in
      omega (arith, le, top)

  pub place_within : {lines : Bool} {y : List Entry} {n : ℕ} → TurnsOff lines (drop from new.entries.items) y n → from + n ≤ 10000000
  place_within {lines} {n = n} off =
      let a = act old.opts sites input old.entries.items p t k asked in
      let added = ap length (ap (drop from) made ∙ drop_of old.entries.items a from at) in
      let w = written_length lines (drop from new.entries.items) in
      let m = ap length off.made in
      let l = length-append off.before (off.here ∷ off.later) in
      let g = off.place in
      let e = ap length made in
      let f = length-append old.entries.items a in
      let le = most in
      let top = ready.in_range.entries_max in
      omega (arith, at, added, w, m, l, g, e, f, le, top)

-- a place that is kept
pub here_within : {s : Ledger} {sites : List Site} → IsReady s sites → length s.entries.items ≤ 10000000
here_within ready =
    let lt = ready.room in
    let top = ready.in_range.entries_max in
    omega (arith, lt, top)

-- what a task asks within the ticks that it has left
pub asked_here : {W : Type 0} (asks : Asking W) {w x : W} {t q : ℕ} {o : Option Walked} (l : ℕ) (walked : Walked) → q ≡ l → o ≡ Some walked → Walks asks w t q o x → asks w t l walked.ticks walked.asked x
asked_here asks {w} {x} {t} {q} l walked h is a =
    subst (λ n. Walks asks w t n (Some walked) x) h (subst (λ o. Walks asks w t q o x) is a)

pub silent_here : {W : Type 0} (asks : Asking W) {w : W} (x : W) {t q : ℕ} {o : Option Walked} (l : ℕ) → q ≡ l → o ≡ None → Walks asks w t q o x → (k : ℕ) (r : Asked) (y : W) → asks w t l k r y → ⊥
silent_here asks {w} x {t} {q} l h is a =
    subst (λ n. Walks asks w t n None x) h (subst (λ o. Walks asks w t q o x) is a)

-- where entries that were made turn off, or all stand
pub off_here : {lines : Bool} {a b y : List Entry} {o : Option ℕ} (n : ℕ) → a ≡ b → o ≡ Some n → Compares lines a y o → TurnsOff lines b y n
off_here {lines} {a} {b} {y} n h is c =
    subst (λ l. TurnsOff lines l y n) h (subst (λ o. Compares lines a y o) is c)

pub same_here : {lines : Bool} {a b y : List Entry} {o : Option ℕ} → a ≡ b → o ≡ None → Compares lines a y o → GoesAs lines b y
same_here {lines} {a} {b} {y} h is c =
    subst (λ l. GoesAs lines l y) h (subst (λ o. Compares lines a y o) is c)

-- who runs alone
only_so : (xs : List ℕ) (t : ℕ) → only_of xs ≡ Some t → xs ≡ t ∷ []
only_so [] t h = cc
only_so (x ∷ []) t h = let same : x ≡ t = cc in ap (λ y. y ∷ []) same
only_so (x ∷ y ∷ xs) t h = cc

pub next_here : {lines : Bool} {s : Ledger} {z : Journal} {e : Entry} {y : List Entry} {t : ℕ} → drop (length s.entries.items) z ≡ e ∷ y → is_dispatch e.kind ≡ false → (MayStop lines s e → ⊥) → only_of (running e.proc s.entries.items) ≡ Some t → IsNext lines s z e.proc t
next_here {s = s} {e = e} {y} {t} is g stop one =
    record { entry = e; later = y; is = is; proc = refl; gives_none = g; no_limit = stop; runs = only_so (running e.proc s.entries.items) t one }
