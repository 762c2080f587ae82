-- A step of unwinding does what the source does.
use Rattle.std.proofs.Common.{◌≡◌, ℕ, List, [], ◌∷◌, length, inl, inr, Bool, true, false, Option, Some, None, refl, sym, ap, subst, ◌∙◌}
use Rattle.std.specs.Prelude.{nat_eq, ◌&&◌, if◌then◌else◌, slice_get}
use Rattle.std.proofs.lemmas.Bool.{eq-eqb, eqb-true}
use Rattle.uc_tree.specs.Source.{Source}
use Rattle.uc_machine.specs.declared.exec.UnwindReason.{UnwindReason}
use Rattle.uc_machine.specs.Quiet.{Todo, State}
use Rattle.uc_machine.specs.Pieces.{Unwind}
use Rattle.uc_code.specs.declared.rows.HandlerRow.{HandlerRow}
use Rattle.uc_code.specs.declared.rows.RowKind.{RowKind}
use Rattle.uc_code.specs.declared.rows.RowKind.TheVariants as kind
use Rattle.uc_code.specs.declared.rows.MainOf.{MainOf}
use Rattle.uc_code.specs.Layout.{Laid, handlers, chain}
use Rattle.uc_code.specs.CodeShapes.{HandlerAt, clean_up}
use Rattle.uc_frames.specs.declared.search.HandlerQuery.{HandlerQuery}
use Rattle.uc_frames.specs.declared.search.HandlerQuery.TheVariants as sought
use Rattle.uc_frames.specs.Machine.{Activation, Machine}
use Rattle.uc_frames.specs.Searches.{catches, cleans, row_takes, is_named, is_found, first_in, stops, stops_at, first_stop, catcher_in}
use Rattle.uc_frames.specs.Stands.{image, Stands}
use Rattle.uc_frames.specs.Unwinding.{cleaning}
use Rattle.uc_frames.specs.UnwindingStands.{Unwinds, TestsBlock, TestsCall, EndsMain, LeavesNow}
use Rattle.uc_frames.specs.UnwindingOutcomes.{event_by, st, CleansUp, Catches, Leaves, Comes, ToEnd, ToCleanUp, ToBlock, ToCall, ToMain, ToHandler}
use Rattle.uc_frames.specs.UnwindingOutcomes as comes_to
use Rattle.uc_frames.proofs.Coming.{comes}
use Rattle.uc_coroutine.specs.Unwinding.{point_in, cleaned_by, passed_on, step_by, step_of, Made}
use Rattle.uc_coroutine.specs.UnwindingSteps.{IsOwn, Leads, Begins, UnwoundTo}

-- the kinds of rows

catch_no_clean : (k : RowKind) → catches k ≡ true → cleans k ≡ false
catch_no_clean kind.Catch e = refl
catch_no_clean kind.CatchResume e = absurd (cc)
catch_no_clean kind.CleanUp e = absurd (cc)

and_first : (a b : Bool) → (a && b) ≡ true → a ≡ true
and_first true b e = refl
and_first false b e = absurd (cc)

either_named : (a b : Bool) → (if a then true else b) ≡ true → b ≡ false → a ≡ true
either_named true b e f = refl
either_named false b e f = absurd (cc)

module _ (rows : List HandlerRow) where
  -- what is found is one that is looked for
  found_by : (b : Bool) (w : HandlerQuery) (x n : ℕ) (o : Option ℕ) → is_found w x (slice_get rows x) ≡ b → (o ≡ Some n → is_found w n (slice_get rows n) ≡ true) → (if b then Some x else o) ≡ Some n → is_found w n (slice_get rows n) ≡ true
  found_by true w x n o q f e = let y : x ≡ n = cc in subst (λ k. is_found w k (slice_get rows k) ≡ true) y q
  found_by false w x n o q f e = f e

  found_is : (w : HandlerQuery) (ns : List ℕ) (n : ℕ) → first_in w rows ns ≡ Some n → is_found w n (slice_get rows n) ≡ true
  found_is w [] n e = absurd (cc)
  found_is w (x ∷ xs) n e = found_by (is_found w x (slice_get rows x)) w x n (first_in w rows xs) refl (found_is w xs n) e

  -- a row that catches stops an unwinding
  catch_at : (e n : ℕ) (o : Option HandlerRow) → is_found (sought.Catch e) n o ≡ true → stops_at (Some e) o ≡ true
  catch_at e n None q = absurd (cc)
  catch_at e n (Some r) q =
      let c : cleans r.kind ≡ false = catch_no_clean r.kind (and_first (catches r.kind) (row_takes e r) q) in
      rw c q

  other_by : (b : Bool) (e : ℕ) (r : HandlerRow) → cleans r.kind ≡ b → (catches r.kind && row_takes e r) ≡ false → stops (Some e) r ≡ cleans r.kind
  other_by true e r k q = rw k refl
  other_by false e r k q = rw k q

  other_at : (e n : ℕ) (o : Option HandlerRow) → is_found (sought.Catch e) n o ≡ false → stops_at (Some e) o ≡ is_found (sought.Stop None) n o
  other_at e n None q = refl
  other_at e n (Some r) q = other_by (cleans r.kind) e r refl q

  stop_of : (named : Option ℕ) (x : ℕ) (o : Option HandlerRow) → is_named named x ≡ false → is_found (sought.Stop named) x o ≡ is_found (sought.Stop None) x o
  stop_of named x None q = refl
  stop_of named x (Some r) q = rw q refl

  stop_here : (x : ℕ) (r : HandlerRow) → is_found (sought.Stop (Some x)) x (Some r) ≡ true
  stop_here x r = let t : nat_eq x x ≡ true = eq-eqb x x refl in rw t refl

  stop_at : (e x : ℕ) (o : Option HandlerRow) → is_found (sought.Catch e) x o ≡ true → is_found (sought.Stop (Some x)) x o ≡ true
  stop_at e x None q = absurd (cc)
  stop_at e x (Some r) q = stop_here x r

  named_by : (b : Bool) (e x n : ℕ) → nat_eq n x ≡ b → is_found (sought.Catch e) x (slice_get rows x) ≡ false → is_found (sought.Catch e) n (slice_get rows n) ≡ true → nat_eq n x ≡ false
  named_by false e x n q f g = q
  named_by true e x n q f g =
      let y : n ≡ x = eqb-true n x q in
      let h : is_found (sought.Catch e) x (slice_get rows x) ≡ true = subst (λ k. is_found (sought.Catch e) k (slice_get rows k) ≡ true) y g in
      absurd (cc)

  not_named : (named : Option ℕ) (e x : ℕ) (xs : List ℕ) → named ≡ first_in (sought.Catch e) rows xs → is_found (sought.Catch e) x (slice_get rows x) ≡ false → is_named named x ≡ false
  not_named None e x xs q f = refl
  not_named (Some n) e x xs q f = named_by (nat_eq n x) e x n refl f (found_is (sought.Catch e) xs n (sym q))

  same_by : (b : Bool) (e x : ℕ) (xs : List ℕ) (named : Option ℕ) → is_found (sought.Catch e) x (slice_get rows x) ≡ b → named ≡ (if b then Some x else first_in (sought.Catch e) rows xs) → (named ≡ first_in (sought.Catch e) rows xs → first_in (sought.Stop named) rows xs ≡ first_stop (Some e) rows xs) → first_in (sought.Stop named) rows (x ∷ xs) ≡ first_stop (Some e) rows (x ∷ xs)
  same_by true e x xs named q i f =
      let j : named ≡ Some x = i in
      let s : is_found (sought.Stop (Some x)) x (slice_get rows x) ≡ true = stop_at e x (slice_get rows x) q in
      let t : stops_at (Some e) (slice_get rows x) ≡ true = catch_at e x (slice_get rows x) q in
      ap (λ o. first_in (sought.Stop o) rows (x ∷ xs)) j
      ∙ (ap (λ b. if b then Some x else first_in (sought.Stop (Some x)) rows xs) s ∙ sym (ap (λ b. if b then Some x else first_stop (Some e) rows xs) t))
  same_by false e x xs named q i f =
      let j : named ≡ first_in (sought.Catch e) rows xs = i in
      let s : is_found (sought.Stop named) x (slice_get rows x) ≡ is_found (sought.Stop None) x (slice_get rows x) = stop_of named x (slice_get rows x) (not_named named e x xs j q) in
      let t : stops_at (Some e) (slice_get rows x) ≡ is_found (sought.Stop None) x (slice_get rows x) = other_at e x (slice_get rows x) q in
      ap (λ b. if b then Some x else first_in (sought.Stop named) rows xs) (s ∙ sym t)
      ∙ ap (λ o. if stops_at (Some e) (slice_get rows x) then Some x else o) (f j)

  same_event : (e : ℕ) (ns : List ℕ) (named : Option ℕ) → named ≡ first_in (sought.Catch e) rows ns → first_in (sought.Stop named) rows ns ≡ first_stop (Some e) rows ns
  same_event e [] named i = refl
  same_event e (x ∷ xs) named i = same_by (is_found (sought.Catch e) x (slice_get rows x)) e x xs named refl i (same_event e xs named)

  clean_at : (x : ℕ) (o : Option HandlerRow) → is_found (sought.Stop None) x o ≡ stops_at None o
  clean_at x None = refl
  clean_at x (Some r) = refl

  same_none : (ns : List ℕ) → first_in (sought.Stop None) rows ns ≡ first_stop None rows ns
  same_none [] = refl
  same_none (x ∷ xs) =
      ap (λ b. if b then Some x else first_in (sought.Stop None) rows xs) (clean_at x (slice_get rows x))
      ∙ ap (λ o. if stops_at None (slice_get rows x) then Some x else o) (same_none xs)

  -- the search for the row that catches, or a clean-up before it, is that for what stops the unwinding
  pub same_stop : (event : Option ℕ) (ns : List ℕ) (named : Option ℕ) → named ≡ catcher_in event rows ns → first_in (sought.Stop named) rows ns ≡ first_stop event rows ns
  same_stop None ns named i = ap (λ o. first_in (sought.Stop o) rows ns) i ∙ same_none ns
  same_stop (Some e) ns named i = same_event e ns named i

  -- where nothing stops it, nothing catches
  none_catch_by : (b c : Bool) (x : ℕ) (o p : Option ℕ) → (b ≡ true → c ≡ true) → (o ≡ None → p ≡ None) → (if c then Some x else o) ≡ None → (if b then Some x else p) ≡ None
  none_catch_by b true x o p f g e = absurd (cc)
  none_catch_by true false x o p f g e = let h : false ≡ true = f refl in absurd (cc)
  none_catch_by false false x o p f g e = g e

  none_catches : (event : Option ℕ) (ns : List ℕ) → first_stop event rows ns ≡ None → catcher_in event rows ns ≡ None
  none_catches None ns e = refl
  none_catches (Some n) [] e = refl
  none_catches (Some n) (x ∷ xs) e =
      none_catch_by (is_found (sought.Catch n) x (slice_get rows x)) (stops_at (Some n) (slice_get rows x)) x (first_stop (Some n) rows xs) (first_in (sought.Catch n) rows xs) (catch_at n x (slice_get rows x)) (none_catches (Some n) xs) e

module _ (code : Laid) where
  clean_missed : (e n entry : ℕ) → HandlerAt code n (clean_up entry) → is_found (sought.Catch e) n (slice_get code.rows n) ≡ false
  clean_missed e n entry h = let t = h.there in let k = h.kind in rw (t, k) refl

  not_catcher : (event named : Option ℕ) (ns : List ℕ) (n entry : ℕ) → named ≡ catcher_in event code.rows ns → HandlerAt code n (clean_up entry) → is_named named n ≡ false
  not_catcher None named ns n entry i h = ap (λ o. is_named o n) i
  not_catcher (Some e) named ns n entry i h = not_named code.rows named e n ns i (clean_missed e n entry h)

  -- a row that catches, and stops the unwinding, is the one that is named
  catcher_by : (named : Option ℕ) (n : ℕ) (k : RowKind) (o : Option HandlerRow) (r : HandlerRow) → o ≡ Some r → r.kind ≡ kind.Catch → is_found (sought.Stop named) n o ≡ true → is_named named n ≡ true
  catcher_by named n k o r q c f =
      let g : (if is_named named n then true else cleans r.kind) ≡ true = subst (λ z. is_found (sought.Stop named) n z ≡ true) q f in
      let z : cleans r.kind ≡ false = ap cleans c in
      either_named (is_named named n) (cleans r.kind) g z

  named_is : (named : Option ℕ) (n : ℕ) → is_named named n ≡ true → named ≡ Some n
  named_is None n e = absurd (cc)
  named_is (Some m) n e = ap (λ k. Some k) (eqb-true m n e)

  module _ (source : Source) (old new : Machine) (s : State) (h : Unwinds code old s) where
    abbrev r : Option UnwindReason
    r = s.run.raised

    raised_is : old.run.raised ≡ r
    raised_is = ap (λ (a : Activation). a.raised) h.run.is

    -- the machine at another op without operands
    cleaned : (entry : ℕ) (todo : List Todo) → cleaning entry old.run ≡ image entry (record s.run { control = todo; operands = [] })
    cleaned entry todo = ap (λ (a : Activation). cleaning entry a) h.run.is

    cleaned_now : (n entry : ℕ) → HandlerAt code n (clean_up entry) → cleaned_by (slice_get code.rows n) old ≡ record old { run = cleaning entry old.run }
    cleaned_now n entry w =
        ap (λ o. cleaned_by o old) w.there ∙ ap (λ k. let m : Machine = record old { run = cleaning k old.run } in m) w.entry

    cleans_up : (n : ℕ) → CleansUp source code s.run s.callers s.env r n s → new ≡ cleaned_by (slice_get code.rows n) old → Begins source code new s
    cleans_up n c q =
        let e : new ≡ record old { run = cleaning c.entry old.run } = q ∙ cleaned_now n c.entry c.handler in
        let t : State = record s { run = record s.run { control = c.todo; operands = [] } } in
        inl (record {
          after = t;
          by = c.by;
          stands = subst (λ (m : Machine). Stands code m t) (sym e) (record {
            run = record { marks = c.marks; follows = c.follows; is = cleaned c.entry c.todo };
            callers = h.callers;
            env = h.env;
          });
        })

    tests : (n : ℕ) → comes_to.TestsBlock source code s.run s.callers s.env r n s → new ≡ cleaned_by (slice_get code.rows n) old → Begins source code new s
    tests n c q =
        let e : new ≡ record old { run = cleaning c.entry old.run } = q ∙ cleaned_now n c.entry c.handler in
        let t : State = record s { run = record s.run { control = Unwind ∷ (c.block ∷ c.rest); operands = c.operands } } in
        inr (inl (record {
          after = t;
          by = c.by;
          stands = subst (λ (m : Machine). TestsBlock code m t) (sym e) (record {
            run = record { block = c.block; whole = c.whole; rest = c.rest; todo = refl; marks = c.marks; tests = c.tests; follows = c.follows; is = cleaned c.entry (Unwind ∷ (c.block ∷ c.rest)) };
            callers = h.callers;
            env = h.env;
          });
        }))

    calls : (n : ℕ) → comes_to.TestsCall source code s.run s.callers s.env r n s → new ≡ cleaned_by (slice_get code.rows n) old → Begins source code new s
    calls n c q =
        let e : new ≡ record old { run = cleaning c.entry old.run } = q ∙ cleaned_now n c.entry c.handler in
        let t : State = record s { run = record s.run { control = Unwind ∷ (c.call ∷ c.rest); operands = c.operands } } in
        inr (inr (inl (record {
          after = t;
          by = c.by;
          stands = subst (λ (m : Machine). TestsCall code m t) (sym e) (record {
            run = record {
              call = c.call;
              leaves = c.leaves;
              rest = c.rest;
              todo = refl;
              marks = c.marks;
              back = c.back;
              pad = c.pad;
              at = c.at;
              follows = c.follows;
              is = cleaned c.entry (Unwind ∷ (c.call ∷ c.rest));
            };
            callers = h.callers;
            env = h.env;
          });
        })))

    ends : (n : ℕ) (whose : MainOf) → comes_to.EndsMain source code s.run s.callers s.env r whose n s → new ≡ cleaned_by (slice_get code.rows n) old → Begins source code new s
    ends n whose c q =
        let e : new ≡ record old { run = cleaning c.entry old.run } = q ∙ cleaned_now n c.entry c.handler in
        let t : State = record s { run = record s.run { control = Unwind ∷ (c.finish ∷ c.rest); operands = c.operands } } in
        inr (inr (inr (
          whose,
          record {
            after = t;
            by = c.by;
            stands = subst (λ (m : Machine). EndsMain code whose m t) (sym e) (record {
              run = record { finish = c.finish; main = c.main; rest = c.rest; todo = refl; ends = c.ends; is = cleaned c.entry (Unwind ∷ (c.finish ∷ c.rest)) };
              callers = h.callers;
              env = h.env;
            });
          },
        )))

    leaves : Leaves source code s.run s.callers s.env r s → new ≡ old → Leads source code (LeavesNow code) new s
    leaves c q =
        let t : State = record s { run = record s.run { control = Unwind ∷ []; operands = c.operands } } in
        record { after = t; by = c.by; stands = subst (λ (m : Machine). LeavesNow code m t) (sym q) (record { run = record { todo = refl; is = h.run.is }; callers = h.callers; env = h.env }) }

    module _ (frame : ℕ) (row : Option ℕ) (b : Bool) (own : IsOwn code frame row old) where
      abbrev ns : List ℕ
      ns = chain code.rows old.run.control

      level_is : nat_eq (length old.callers) frame ≡ true
      level_is = eq-eqb (length old.callers) frame (sym own.here)

      point_is : point_in frame row (length old.callers) ≡ row
      point_is = ap (λ c. if c then row else None) level_is

      row_is : row ≡ catcher_in (event_by r) code.rows ns
      row_is = own.catches ∙ ap (λ o. catcher_in (event_by o) code.rows ns) raised_is

      stop_is : first_in (sought.Stop row) code.rows ns ≡ first_stop (event_by r) code.rows ns
      stop_is = same_stop code.rows (event_by r) ns row row_is

      step_none : first_stop (event_by r) code.rows ns ≡ None → step_of code.rows frame row old ≡ None
      step_none e =
          let x : first_in (sought.Stop (point_in frame row (length old.callers))) code.rows ns ≡ None = ap (λ o. first_in (sought.Stop o) code.rows ns) point_is ∙ (stop_is ∙ e) in
          ap (λ o. step_by code.rows frame row o old) x ∙ ap (λ c. if c then None else passed_on old.run.raised old.callers old) level_is

      step_some : (n : ℕ) → first_stop (event_by r) code.rows ns ≡ Some n → step_of code.rows frame row old ≡ (if is_named row n then None else Some (cleaned_by (slice_get code.rows n) old))
      step_some n e =
          let x : first_in (sought.Stop (point_in frame row (length old.callers))) code.rows ns ≡ Some n = ap (λ o. first_in (sought.Stop o) code.rows ns) point_is ∙ (stop_is ∙ e) in
          ap (λ o. step_by code.rows frame row o old) x ∙ ap (λ o. if is_named o n then None else Some (cleaned_by (slice_get code.rows n) old)) point_is

      made_none : (o : Option Machine) → o ≡ None → Made o old b new → (b ≡ false) × (new ≡ old)
      made_none None e m = m
      made_none (Some x) e m = absurd (cc)

      made_some : (x : Machine) (o : Option Machine) → o ≡ Some x → Made o old b new → (b ≡ true) × (new ≡ x)
      made_some x None e m = absurd (cc)
      made_some x (Some y) e m = let z : y ≡ x = cc in (m.0, m.1 ∙ z)

      begins_by : (n entry : ℕ) → HandlerAt code n (clean_up entry) → first_stop (event_by r) code.rows ns ≡ Some n → Made (step_of code.rows frame row old) old b new → (b ≡ true) × (new ≡ cleaned_by (slice_get code.rows n) old)
      begins_by n entry w e m =
          let f : is_named row n ≡ false = not_catcher (event_by r) row ns n entry row_is w in
          made_some (cleaned_by (slice_get code.rows n) old) (step_of code.rows frame row old) (step_some n e ∙ ap (λ c. if c then None else Some (cleaned_by (slice_get code.rows n) old)) f) m

      by_comes : (o : Option ℕ) (t : State) → t ≡ s → first_stop (event_by r) code.rows ns ≡ o → Made (step_of code.rows frame row old) old b new → Comes source code s.run s.callers s.env r o t → UnwoundTo source code b row new s
      by_comes None t i e m (ToEnd _ c) =
          let d = made_none (step_of code.rows frame row old) (step_none e) m in
          let z : row ≡ None = row_is ∙ none_catches code.rows (event_by r) ns e in
          subst (λ x. UnwoundTo source code x row new s) (sym d.0)
          (subst (λ x. UnwoundTo source code false x new s) (sym z) (leaves (subst (Leaves source code s.run s.callers s.env r) i c) d.1))
      by_comes (Some n) t i e m (ToCleanUp _ _ c) =
          let d = begins_by n c.entry c.handler e m in
          subst (λ x. UnwoundTo source code x row new s) (sym d.0) (cleans_up n (subst (CleansUp source code s.run s.callers s.env r n) i c) d.1)
      by_comes (Some n) t i e m (ToBlock _ _ c) =
          let d = begins_by n c.entry c.handler e m in
          subst (λ x. UnwoundTo source code x row new s) (sym d.0) (tests n (subst (comes_to.TestsBlock source code s.run s.callers s.env r n) i c) d.1)
      by_comes (Some n) t i e m (ToCall _ _ c) =
          let d = begins_by n c.entry c.handler e m in
          subst (λ x. UnwoundTo source code x row new s) (sym d.0) (calls n (subst (comes_to.TestsCall source code s.run s.callers s.env r n) i c) d.1)
      by_comes (Some n) t i e m (ToMain whose _ _ c) =
          let d = begins_by n c.entry c.handler e m in
          subst (λ x. UnwoundTo source code x row new s) (sym d.0) (ends n whose (subst (comes_to.EndsMain source code s.run s.callers s.env r whose n) i c) d.1)
      by_comes (Some n) t i e m (ToHandler _ _ c) =
          let w = c.handler_at in
          let f : is_found (sought.Stop row) n (slice_get code.rows n) ≡ true = found_is code.rows (sought.Stop row) ns n (stop_is ∙ e) in
          let g : is_named row n ≡ true = catcher_by row n kind.Catch (slice_get code.rows n) w.row w.there w.kind f in
          let d = made_none (step_of code.rows frame row old) (step_some n e ∙ ap (λ x. if x then None else Some (cleaned_by (slice_get code.rows n) old)) g) m in
          subst (λ x. UnwoundTo source code x row new s) (sym d.0)
          (subst (λ x. UnwoundTo source code false x new s) (sym (named_is row n g)) (subst (Catches source code s.run s.callers s.env r n) i c))

      pub unwinds : Made (step_of code.rows frame row old) old b new → UnwoundTo source code b row new s
      unwinds m =
          let g = h.run.rows in
          let c : Comes source code s.run s.callers s.env r (first_stop (event_by r) code.rows (handlers g.marks)) (st source code s.run s.callers s.env r s.run.operands (Unwind ∷ h.run.rest)) =
          comes source code s.run s.callers s.env r h.run.rest g.marks g.at s.run.operands g.follows in
          let t : State = st source code s.run s.callers s.env r s.run.operands (Unwind ∷ h.run.rest) in
          let i : t ≡ s = ap (λ todo. let z : State = record s { run = record s.run { control = todo } } in z) (sym h.run.todo) in
          by_comes (first_stop (event_by r) code.rows (handlers g.marks)) t i (ap (first_stop (event_by r) code.rows) g.under) m c
