-- An unwinding of one activation comes to what the rows say.
use Rattle.std.proofs.Common.{◌≡◌, ℕ, List, [], ◌∷◌, ◌++◌, ◌⊎◌, inl, inr, length, Bool, true, false, Option, Some, None, refl, sym, ap, subst, ◌∙◌, arith}
use Rattle.std.specs.Prelude.{nat_lt, if◌then◌else◌, slice_get}
use Rattle.std.proofs.lemmas.Bool.{le-ltb}
use Rattle.uc_tree.specs.Source.{Source, Expr, CleanUp, Handlers}
use Rattle.uc_machine.specs.declared.exec.UnwindReason.{UnwindReason}
use Rattle.uc_machine.specs.declared.exec.UnwindReason.TheVariants as reason
use Rattle.uc_machine.specs.Quiet.{Todo, Sweep, Value, Active, Env, State, Goes, Sort, Simple, IsLoop, IsWhole, IsClean, IsFill, IsSweep, IsPart, IsGuard, IsFinish, IsFinishCoroutine, sort, own_line, clean_todo, quiet, stay, more}
use Rattle.uc_machine.specs.Pieces.{Unwind}
use Rattle.uc_machine.specs.Raising.{Event, Handler, arrives, handler_for, catch_step, guard_left, count_round}
use Rattle.uc_code.specs.declared.op.Op.{Op}
use Rattle.uc_code.specs.declared.op.Op.TheVariants as op
use Rattle.uc_code.specs.declared.rows.HandlerRow.{HandlerRow}
use Rattle.uc_code.specs.declared.rows.MainOf.{MainOf}
use Rattle.uc_code.specs.declared.rows.MainOf.TheVariants as main_of
use Rattle.uc_code.specs.declared.rows.CodeMark.{CodeMark}
use Rattle.uc_code.specs.declared.rows.ObjectCall.{ObjectCall}
use Rattle.uc_code.specs.Layout.{Laid, under, handlers}
use Rattle.uc_code.specs.CodeShapes.{Risk, HandlerAt, clean_up, Arrived}
use Rattle.uc_code.specs.Lowered.{handler_rows}
use Rattle.uc_frames.specs.declared.search.HandlerQuery.TheVariants as sought
use Rattle.uc_frames.specs.Searches.{stops_at, first_stop, first_in}
use Rattle.uc_frames.specs.Stands.{finish_sort, PieceAt, IsLast, OfRoutine, OfHandler, AtWhole, AtClean, AtFinish, AtTest, AtGuard, FollowsBy, FollowsAt}
use Rattle.uc_frames.proofs.Guards.{numbers, guards_rows, Choice, chosen_in, stops_in, none_stops, follows_caught}
use Rattle.uc_frames.proofs.Cleaned.{clean_stops, goes_on, Begins, begins_clean, CleansFirst, TestsFirst, pads}
use Rattle.uc_frames.specs.UnwindingOutcomes.{event_by, st, CleansUp, TestsBlock, TestsCall, EndsMain, Catches, Comes, ToEnd, ToCleanUp, ToBlock, ToCall, ToMain, ToHandler}

under_none : (ns : List ℕ) → under 0 ns ≡ []
under_none [] = refl
under_none (n ∷ ns) = let e : nat_lt n 0 ≡ false = le-ltb n 0 (omega arith) in rw e (under_none ns)

last_rows : (code : Laid) (ms : List CodeMark) → IsLast code ms → handlers ms ≡ []
last_rows code ms (OfRoutine k) = refl
last_rows code ms (OfHandler row outer) = under_none (handlers outer)

stop_found_by : (b : Bool) (x n : ℕ) (o p : Option ℕ) → (o ≡ Some n → p ≡ Some n) → (if b then Some x else o) ≡ Some n → (if b then Some x else p) ≡ Some n
stop_found_by true x n o p f e = e
stop_found_by false x n o p f e = f e

stop_beyond_by : (b : Bool) (x : ℕ) (o p q : Option ℕ) → (o ≡ None → p ≡ q) → (if b then Some x else o) ≡ None → (if b then Some x else p) ≡ q
stop_beyond_by true x o p q f e = absurd (cc)
stop_beyond_by false x o p q f e = f e

-- lists of rows
stop_found : (event : Option ℕ) (rows : List HandlerRow) (xs ys : List ℕ) (n : ℕ) → first_stop event rows xs ≡ Some n → first_stop event rows (xs ++ ys) ≡ Some n
stop_found event rows [] ys n e = absurd (cc)
stop_found event rows (x ∷ xs) ys n e = stop_found_by (stops_at event (slice_get rows x)) x n _ _ (stop_found event rows xs ys n) e

stop_beyond : (event : Option ℕ) (rows : List HandlerRow) (xs ys : List ℕ) → first_stop event rows xs ≡ None → first_stop event rows (xs ++ ys) ≡ first_stop event rows ys
stop_beyond event rows [] ys e = refl
stop_beyond event rows (x ∷ xs) ys e = stop_beyond_by (stops_at event (slice_get rows x)) x _ _ _ (stop_beyond event rows xs ys) e

module _ (source : Source) (code : Laid) (a : Active) (cs : List Active) (env : Env) (r : Option UnwindReason) where
  abbrev at : List Value → List Todo → State
  at vs todo = st source code a cs env r vs todo

  abbrev ComesTo : Option ℕ → State → Type 0
  ComesTo = Comes source code a cs env r

  abbrev ev : Option ℕ
  ev = event_by r

  -- one step before
  clean_before : (row : ℕ) (s t : State) → quiet source s ≡ Goes t → CleansUp source code a cs env r row t → CleansUp source code a cs env r row s
  clean_before row s t e h = record { entry = h.entry; handler = h.handler; todo = h.todo; marks = h.marks; follows = h.follows; by = more e h.by }

  block_before : (row : ℕ) (s t : State) → quiet source s ≡ Goes t → TestsBlock source code a cs env r row t → TestsBlock source code a cs env r row s
  block_before row s t e h = record { entry = h.entry; handler = h.handler; block = h.block; whole = h.whole; rest = h.rest; marks = h.marks; tests = h.tests; follows = h.follows; operands = h.operands; by = more e h.by }

  call_before : (row : ℕ) (s t : State) → quiet source s ≡ Goes t → TestsCall source code a cs env r row t → TestsCall source code a cs env r row s
  call_before row s t e h = record { entry = h.entry; handler = h.handler; call = h.call; leaves = h.leaves; rest = h.rest; marks = h.marks; back = h.back; pad = h.pad; at = h.at; follows = h.follows; operands = h.operands; by = more e h.by }

  main_before : (whose : MainOf) (row : ℕ) (s t : State) → quiet source s ≡ Goes t → EndsMain source code a cs env r whose row t → EndsMain source code a cs env r whose row s
  main_before whose row s t e h = record { entry = h.entry; handler = h.handler; finish = h.finish; main = h.main; rest = h.rest; ends = h.ends; operands = h.operands; by = more e h.by }

  catch_before : (row : ℕ) (s t : State) → quiet source s ≡ Goes t → Catches source code a cs env r row t → Catches source code a cs env r row s
  catch_before row s t e h = record { event = h.event; is = h.is; named = h.named; rest = h.rest; entry = h.entry; handler_at = h.handler_at; handler = h.handler; todo = h.todo; marks = h.marks; follows = h.follows; by = more e h.by }

  before : (o : Option ℕ) (s t : State) → quiet source s ≡ Goes t → ComesTo o t → ComesTo o s
  before o s t e (ToEnd _ h) = ToEnd s (record { operands = h.operands; by = more e h.by })
  before o s t e (ToCleanUp row _ h) = ToCleanUp row s (clean_before row s t e h)
  before o s t e (ToBlock row _ h) = ToBlock row s (block_before row s t e h)
  before o s t e (ToCall row _ h) = ToCall row s (call_before row s t e h)
  before o s t e (ToMain whose row _ h) = ToMain whose row s (main_before whose row s t e h)
  before o s t e (ToHandler row _ h) = ToHandler row s (catch_before row s t e h)

  abbrev All : List Todo → Type 0
  All ps = (ms : List CodeMark) (k : ℕ) (vs : List Value) → FollowsAt code ps ms k → ComesTo (first_stop ev code.rows (handlers ms)) (at vs (Unwind ∷ ps))

  -- a row with a clean-up stops the unwinding
  row_stops : (ms : List CodeMark) (rows : List ℕ) (row entry : ℕ) → handlers ms ≡ row ∷ rows → HandlerAt code row (clean_up entry) → first_stop ev code.rows (handlers ms) ≡ Some row
  row_stops ms rows row entry q h =
      let b : stops_at ev (slice_get code.rows row) ≡ true = clean_stops code ev row entry h in
      ap (first_stop ev code.rows) q ∙ ap (λ t. if t then Some row else first_stop ev code.rows rows) b

  at_clean : (ms : List CodeMark) (rows : List ℕ) (row entry : ℕ) (s : State) (todo : List Todo) → handlers ms ≡ row ∷ rows → HandlerAt code row (clean_up entry) → Begins code todo entry → quiet source s ≡ Goes (at [] todo) → ComesTo (first_stop ev code.rows (handlers ms)) s
  at_clean ms rows row entry s todo q h b e =
      subst (λ o. ComesTo o s) (sym (row_stops ms rows row entry q h))
      (ToCleanUp row s (record { entry = entry; handler = h; todo = todo; marks = b.marks; follows = b.follows; by = more e stay }))

  -- a guarded block, by the event
  guard_by : (o : Option ℕ) (p : Option Handler) (e : Event) (q : Todo) (hs : Handlers) (ps : List Todo) (outer : List CodeMark) (first exit : ℕ) (vs : List Value) → r ≡ Some (reason.Event e.number e.x e.y) → Choice code outer exit false o p → FollowsAt code ps outer exit → quiet source (at vs (Unwind ∷ (q ∷ ps))) ≡ catch_step p e ps (at vs (Unwind ∷ (q ∷ ps))) → first_stop (Some e.number) code.rows (numbers first (handler_rows hs)) ≡ o → ComesTo (first_stop (Some e.number) code.rows (handlers outer)) (at [] (Unwind ∷ ps)) → ComesTo (first_stop (Some e.number) code.rows (numbers first (handler_rows hs) ++ handlers outer)) (at vs (Unwind ∷ (q ∷ ps)))
  guard_by None None e q hs ps outer first exit vs i c f w k ih =
      subst (λ o. ComesTo o (at vs (Unwind ∷ (q ∷ ps)))) (sym (stop_beyond (Some e.number) code.rows (numbers first (handler_rows hs)) (handlers outer) k))
      (before _ (at vs (Unwind ∷ (q ∷ ps))) (at [] (Unwind ∷ ps)) w ih)
  guard_by None (Some h) e q hs ps outer first exit vs i c f w k ih = absurd c
  guard_by (Some n) None e q hs ps outer first exit vs i c f w k ih = absurd c
  guard_by (Some n) (Some h) e q hs ps outer first exit vs i c f w k ih =
      subst (λ o. ComesTo o (at vs (Unwind ∷ (q ∷ ps)))) (sym (stop_found (Some e.number) code.rows (numbers first (handler_rows hs)) (handlers outer) n k))
      (ToHandler n (at vs (Unwind ∷ (q ∷ ps))) (record {
        event = e;
        is = i;
        named = c.event;
        rest = length (handlers outer);
        entry = c.entry;
        handler_at = c.handler;
        handler = h;
        todo = ps;
        marks = outer;
        follows = follows_caught code outer exit n h c ps f;
        by = more w stay;
      }))

  guard_none : (o : Option UnwindReason) → r ≡ o → event_by o ≡ None → (q : Todo) (hs : Handlers) (ps : List Todo) (ms : List CodeMark) (k : ℕ) (vs : List Value) → AtGuard code hs (FollowsAt code ps) ms k → quiet source (at vs (Unwind ∷ (q ∷ ps))) ≡ Goes (at [] (Unwind ∷ ps)) → All ps → ComesTo (first_stop (event_by o) code.rows (handlers ms)) (at vs (Unwind ∷ (q ∷ ps)))
  guard_none o i n q hs ps ms k vs f w ih =
      let l : handlers ms ≡ numbers f.first (handler_rows hs) ++ handlers f.outer = ap handlers f.pops ∙ guards_rows f.first (handler_rows hs) f.outer in
      let z : event_by r ≡ event_by o = ap event_by i in
      let y : first_stop (event_by o) code.rows (numbers f.first (handler_rows hs)) ≡ None =
      ap (λ e. first_stop e code.rows (numbers f.first (handler_rows hs))) n ∙ none_stops code f.outer f.end f.first hs f.from f.to f.handlers in
      subst (λ ns. ComesTo (first_stop (event_by o) code.rows ns) (at vs (Unwind ∷ (q ∷ ps)))) (sym l)
      (subst (λ x. ComesTo x (at vs (Unwind ∷ (q ∷ ps)))) (sym (stop_beyond (event_by o) code.rows (numbers f.first (handler_rows hs)) (handlers f.outer) y))
      (before _ (at vs (Unwind ∷ (q ∷ ps))) (at [] (Unwind ∷ ps)) w
      (subst (λ x. ComesTo (first_stop x code.rows (handlers f.outer)) (at [] (Unwind ∷ ps))) z (ih f.outer f.end [] f.on))))

  at_guard : (o : Option UnwindReason) → r ≡ o → (q : Todo) (hs : Handlers) (ps : List Todo) (ms : List CodeMark) (k : ℕ) (vs : List Value) → AtGuard code hs (FollowsAt code ps) ms k → quiet source (at vs (Unwind ∷ (q ∷ ps))) ≡ guard_left hs o ps (at vs (Unwind ∷ (q ∷ ps))) → All ps → ComesTo (first_stop (event_by o) code.rows (handlers ms)) (at vs (Unwind ∷ (q ∷ ps)))
  at_guard (Some (reason.Event n x y)) i q hs ps ms k vs f w ih =
      let e : Event = record { number = n; x = x; y = y } in
      let l : handlers ms ≡ numbers f.first (handler_rows hs) ++ handlers f.outer = ap handlers f.pops ∙ guards_rows f.first (handler_rows hs) f.outer in
      let z : event_by r ≡ Some n = ap event_by i in
      subst (λ ns. ComesTo (first_stop (Some n) code.rows ns) (at vs (Unwind ∷ (q ∷ ps)))) (sym l)
      (guard_by (first_in (sought.Catch n) code.rows (numbers f.first (handler_rows hs))) (handler_for false e hs) e q hs ps f.outer f.first f.end vs i
      (chosen_in code f.outer f.end false e f.first hs f.from f.to f.handlers) f.on w
      (stops_in code f.outer f.end n f.first hs f.from f.to f.handlers)
      (subst (λ o. ComesTo (first_stop o code.rows (handlers f.outer)) (at [] (Unwind ∷ ps))) z (ih f.outer f.end [] f.on)))
  at_guard None i q hs ps ms k vs f w ih = guard_none None i refl q hs ps ms k vs f w ih
  at_guard (Some (reason.ReturnTo h)) i q hs ps ms k vs f w ih = guard_none (Some (reason.ReturnTo h)) i refl q hs ps ms k vs f w ih
  at_guard (Some reason.Destroyed) i q hs ps ms k vs f w ih = guard_none (Some reason.Destroyed) i refl q hs ps ms k vs f w ih

  -- the end of a block that is left as a whole, and of a main
  at_block : (q : Todo) (ps : List Todo) (ms : List CodeMark) (k : ℕ) (vs : List Value) → sort q ≡ IsWhole → AtWhole code (own_line ps) (FollowsAt code ps) ms k → ComesTo (first_stop ev code.rows (handlers ms)) (at vs (Unwind ∷ (q ∷ ps)))
  at_block q ps ms k vs i f =
      let s : State = at vs (Unwind ∷ (q ∷ ps)) in
      let t = f.tests in
      subst (λ o. ComesTo o s) (sym (row_stops ms (handlers f.outer) f.row f.entry (ap handlers f.pops) f.handler))
      (ToBlock f.row s (record {
        entry = f.entry;
        handler = f.handler;
        block = q;
        whole = i;
        rest = ps;
        marks = f.outer;
        tests = subst (λ z. Risk code f.outer op.Handled (own_line ps) f.entry z) t.end t;
        follows = subst (FollowsAt code ps f.outer) t.end f.on;
        operands = vs;
        by = stay;
      }))

  at_main : (whose : MainOf) (q : Todo) (ps : List Todo) (round : ℕ) (ms : List CodeMark) (k : ℕ) (vs : List Value) → sort q ≡ finish_sort whose → AtFinish code whose (own_line ps) round ms k → ComesTo (first_stop ev code.rows (handlers ms)) (at vs (Unwind ∷ (q ∷ ps)))
  at_main whose q ps round ms k vs i f =
      let s : State = at vs (Unwind ∷ (q ∷ ps)) in
      subst (λ o. ComesTo o s) (sym (row_stops ms [] f.row f.entry (ap handlers f.pops) f.handler))
      (ToMain whose f.row s (record { entry = f.entry; handler = f.handler; finish = q; main = i; rest = ps; ends = f.unwound; operands = vs; by = stay }))

  -- the end of the scope of an object, of which that of a mutex call is tested first
  at_scope : (q : Todo) (c : CleanUp) (ps : List Todo) (ms : List CodeMark) (k : ℕ) (vs : List Value) → sort q ≡ IsClean c → (f : AtClean code (own_line ps) c (FollowsAt code ps) ms k) → TestsFirst code c ps f.outer f.entry f.back ⊎ CleansFirst code c ps f.entry → ComesTo (first_stop ev code.rows (handlers ms)) (at vs (Unwind ∷ (q ∷ ps)))
  at_scope q c ps ms k vs i f (inl d) =
      let s : State = at vs (Unwind ∷ (q ∷ ps)) in
      subst (λ o. ComesTo o s) (sym (row_stops ms (handlers f.outer) f.row f.entry (ap handlers f.pops) f.handler))
      (ToCall f.row s (record {
        entry = f.entry;
        handler = f.handler;
        call = q;
        leaves = i ∙ ap IsClean d.is;
        rest = ps;
        marks = f.outer;
        back = f.back;
        pad = d.pad;
        at = f.to;
        follows = f.on;
        operands = vs;
        by = stay;
      }))
  at_scope q c ps ms k vs i f (inr d) =
      at_clean ms (handlers f.outer) f.row f.entry (at vs (Unwind ∷ (q ∷ ps))) d.todo (ap handlers f.pops) f.handler d.begins
      (rw i (d.left (arrives r (length cs)) (at vs (Unwind ∷ (q ∷ ps)))))

  -- elements are destroyed
  at_elements : (q : Todo) (back : ℕ → Op) (T : ObjectCall → List CodeMark → ℕ → ℕ → Type 0) (e d : Expr) (ps : List Todo) (ms : List CodeMark) (k : ℕ) (vs : List Value) → AtTest code (own_line ps) back T e d (FollowsAt code ps) ms k → quiet source (at vs (Unwind ∷ (q ∷ ps))) ≡ Goes (at [] (Sweep d ∷ (Unwind ∷ ps))) → ComesTo (first_stop ev code.rows (handlers ms)) (at vs (Unwind ∷ (q ∷ ps)))
  at_elements q back T e d ps ms k vs f w =
      at_clean ms (handlers f.outer) f.row f.entry (at vs (Unwind ∷ (q ∷ ps))) (Sweep d ∷ (Unwind ∷ ps)) (ap handlers f.pops) f.handler
      (record {
        marks = ms;
        follows = record {
          outer = f.outer;
          row = f.row;
          what = f.undo;
          turn = f.undo_turn;
          test = f.entry;
          end = f.undone;
          calls = f.destroys;
          pops = f.pops;
          leads = Arrived f.entry;
          rounds = f.undoes;
          on = goes_on code ps f.outer f.undone f.undone f.back_at f.end (Arrived f.undone) f.unwinds f.on;
          undo = f.undo;
          undo_turn = f.undo_turn;
          entry = f.entry;
          undone = f.undone;
          back_at = f.back_at;
          destroys = f.destroys;
          handler = f.handler;
          undoes = f.undoes;
          unwinds = f.unwinds;
        };
      }) w

  comes_by : (q : Todo) (x : Sort) (P : ℕ → ℕ → Type 0) (ps : List Todo) → x ≡ sort q → All ps → (ms : List CodeMark) (k : ℕ) (vs : List Value) → FollowsBy code (own_line ps) (count_round ps) x P (FollowsAt code ps) ms k → ComesTo (first_stop ev code.rows (handlers ms)) (at vs (Unwind ∷ (q ∷ ps)))
  comes_by q Simple P ps i ih ms k vs f = before _ (at vs (Unwind ∷ (q ∷ ps))) (at [] (Unwind ∷ ps)) (rw (← i) refl) (ih ms f.to [] f.on)
  comes_by q (IsLoop o t e b) P ps i ih ms k vs f =
      subst (λ ns. ComesTo (first_stop ev code.rows ns) (at vs (Unwind ∷ (q ∷ ps)))) (sym (ap handlers f.pops))
      (before _ (at vs (Unwind ∷ (q ∷ ps))) (at [] (Unwind ∷ ps)) (rw (← i) refl) (ih f.outer f.end [] f.on))
  comes_by q IsWhole P ps i ih ms k vs f = at_block q ps ms k vs (sym i) f
  comes_by q (IsClean c) P ps i ih ms k vs f = at_scope q c ps ms k vs (sym i) f (pads code c f.what f.cleans ps f.outer f.entry f.back f.to f.unwinds f.on)
  comes_by q (IsFill n b d) P ps i ih ms k vs f = at_elements q _ _ b d ps ms k vs f (rw (← i) refl)
  comes_by q (IsSweep e) P ps i ih ms k vs f = at_elements q _ _ e e ps ms k vs f (rw (← i) refl)
  comes_by q (IsPart c) P ps i ih ms k vs f =
      at_clean ms (handlers f.outer) f.row f.entry (at vs (Unwind ∷ (q ∷ ps))) (clean_todo c (Unwind ∷ ps)) (ap handlers f.pops) f.handler
      (begins_clean code c f.what f.cleans ps f.outer f.entry f.unwinds.middle f.back f.end f.unwinds.first f.unwinds.second f.on) (rw (← i) refl)
  comes_by q (IsGuard hs) P ps i ih ms k vs f = at_guard r refl q hs ps ms k vs f (rw (← i) refl) ih
  comes_by q IsFinish P ps i ih ms k vs f = at_main main_of.Task q ps (count_round ps) ms k vs (sym i) f
  comes_by q IsFinishCoroutine P ps i ih ms k vs f = at_main main_of.Coroutine q ps (count_round ps) ms k vs (sym i) f

  pub comes : (ps : List Todo) → All ps
  comes [] ms k vs f =
      let e : handlers ms ≡ [] = last_rows code ms f.last in
      subst (λ ns. ComesTo (first_stop ev code.rows ns) (at vs (Unwind ∷ []))) (sym e) (ToEnd (at vs (Unwind ∷ [])) (record { operands = vs; by = stay }))
  comes (q ∷ ps) ms k vs f = comes_by q (sort q) (PieceAt code (own_line ps) ms q) ps refl (comes ps) ms k vs f
