-- A journal is a run of its program, in parts: each begins in the world that the last one left.
use Rattle.std.proofs.Common.{◌≡◌, false, true, [], ◌∷◌, Some, None, refl, sym, subst, pos, negsuc, lit<}
use Rattle.uc_tree.specs.declared.kinds.ValueForm.TheVariants as value_form
use Rattle.uc_tree.specs.Constants.{constant_value}
use Rattle.uc_tree.specs.Rows.{reaches, cells_within}
use Rattle.uc_tree.specs.Objects.{shape_within, height_within}
use Rattle.uc_resolve.specs.Resolve.{source_of}
use Rattle.uc_tree.specs.Source.{Accept, Assign, Block, Builder, BuiltAt, CallOn, Declare, Destroys, Enable, EndOn, Ends, EnterOn, Evaluate, Field as FieldIn, FieldOf, Frees, Get, Integer, Last, Leaves, Literal, Load, MakeOn, MoreClauses, MoreExprs, MoreHandlers, Nil, NoClauses, NoExprs, NoHandlers, OfEvents, OfObject, OfTasks, OwnField, Plainly, Print, RaiseAt, Scoped, Show, ShowText, Skip, Source, TaskMain, Then, Try, Variable, Whole}
use Rattle.uc_entry.specs.declared.entry.EntryKind.TheVariants as kind
use Rattle.uc_entry.specs.declared.request.Answer.TheVariants as answer
use Rattle.uc_acts.specs.Journal.{Journal, cost, entry, asking, begin, is_over, held, inside, own_object, entries_at}
use Rattle.uc_acts.specs.Queues.{waiting, stacked, ready, running, used, cluster_count, processor_count, processors, open_processors, tasks_on, none_running, none_ready, none_served, first_ended, all_ticks}
use Rattle.uc_acts.specs.Known.{object_count, task_count, is_gone, owner}
use Rattle.uc_acts.specs.Pending.{pending}
use Rattle.uc_acts.specs.Doors.{open_at, blocked_at, last_call, offers, stack_at}
use Rattle.uc_acts.specs.Answers.{answer_to}
use Rattle.uc_acts.specs.Acts.{dispatch}
use Rattle.uc_acts.specs.Samples.{options}
use Rattle.uc_meaning.specs.Runs.{Runs, IsPrefix, IsRun, begun, first_world}
use Rattle.uc_meaning.proofs.ActsSampled.{given_to, acted_by}
use Rattle.uc_meaning.specs.MonitorSamples.{polled_text, polled_journal, PolledRun}

abbrev polled_source : Source
polled_source = record { routines = record { line = 1; cells = 1; params = 1; purpose = Builder; written = true; body = Then (Evaluate 0 (Assign (OfObject (OwnField (FieldIn Integer Last) 0)) (Get 0))) (Then (Whole 1 Nil) Nil) } ∷ record { line = 3; cells = 8; params = 0; purpose = TaskMain; written = true; body = Then (OfTasks (Accept 3 0 (MoreClauses (Literal (pos 1)) (Skip 3) NoClauses))) (Then (OfEvents (Try 4 (Then (Block 4 (Then (OfEvents (Enable 4 8 0 (Block 4 (Then (Print 4 (ShowText 0 ∷ [])) Nil)))) (Then (OfEvents (Enable 4 18446744073709551615 1 (Block 4 (Then (Print 4 (ShowText 1 ∷ [])) Nil)))) Nil))) Nil) (MoreHandlers true (Some 2) 2 5 (Then (Print 5 (Show value_form.Character (Literal (pos 69)) ∷ Show value_form.Number (Load (OfObject (FieldOf (FieldIn Integer Last) 0 (Variable 3)))) ∷ Show value_form.Character (Literal (pos 32)) ∷ [])) Nil) (MoreHandlers true (Some 3) 5 5 (Then (Print 5 (ShowText 2 ∷ [])) Nil) NoHandlers)))) (Then (Print 5 (Show value_form.Character (Literal (pos 10)) ∷ [])) Nil)) } ∷ record { line = 6; cells = 0; params = 0; purpose = Builder; written = true; body = Scoped Leaves (Then (Block 6 Nil) Nil) } ∷ record { line = 7; cells = 7; params = 0; purpose = TaskMain; written = true; body = Then (Declare 7 (record { cell = 0; cells = 1; value = None } ∷ [])) (Then (Evaluate 7 (OfObject (MakeOn 1 4 false (Variable 0) NoExprs))) (Scoped (Destroys (OfObject (EndOn 5 false (Load (Variable 0))))) (Then (OfEvents (RaiseAt 7 (BuiltAt 2 1 (OfObject (CallOn 0 (Variable 1) (MoreExprs (Literal (pos 1)) NoExprs)))) (Get 0))) (Then (OfEvents (RaiseAt 7 (BuiltAt 2 3 (OfObject (CallOn 0 (Variable 3) (MoreExprs (Literal (pos 2)) NoExprs)))) (Get 0))) (Then (OfEvents (RaiseAt 7 (Plainly 3) (Get 0))) (Then (Evaluate 7 (OfObject (EnterOn 1 2 (Get 0) NoExprs))) Nil)))))) } ∷ record { line = 0; cells = 0; params = 0; purpose = Builder; written = false; body = Scoped (Frees (Some 1)) Nil } ∷ record { line = 0; cells = 0; params = 0; purpose = Builder; written = false; body = Scoped Ends Nil } ∷ []; main = 3; classes = record { cells = 0 } ∷ record { cells = 0 } ∷ []; sites = record { class = 1; clauses = (1 ∷ []) ∷ []; has_else = false } ∷ []; texts = (102 ∷ 45 ∷ 100 ∷ 111 ∷ 110 ∷ 101 ∷ 32 ∷ []) ∷ (97 ∷ 108 ∷ 108 ∷ 45 ∷ 100 ∷ 111 ∷ 110 ∷ 101 ∷ []) ∷ (70 ∷ 32 ∷ []) ∷ [] }

polled_is : source_of polled_text ≡ polled_source
unfolding constant_value reaches cells_within shape_within height_within
polled_is = refl

abbrev polled_first_journal : Journal
polled_first_journal =
    begin options ∷ dispatch 0 0 ∷ asking kind.Make 0 0 (cost 0 7) 1 (pos 1) (pos 0) ∷ asking kind.Spawn 0 0 (cost 0 7) 1 (pos 1) (pos 0) ∷ (record (asking kind.Raise 0 0 (cost 1 7) 1 (pos 1) (pos 2)) { c = pos 1; d = pos 0 }) ∷ (record (asking kind.Raise 0 0 (cost 1 7) 1 (pos 1) (pos 2)) { c = pos 2; d = pos 0 }) ∷ asking kind.Raise 0 0 (cost 0 7) 1 (pos 1) (pos 3) ∷ asking kind.Call 0 0 (cost 1 7) 1 (pos 1) (pos 0) ∷ dispatch 0 1 ∷ (record (asking kind.Accept 0 1 (cost 0 3) 1 (pos 0) (pos 1)) { c = pos 0; d = pos 1 }) ∷ entry kind.Admit 0 0 0 1 (pos 1) (pos 0) ∷ dispatch 0 0 ∷ asking kind.Leave 0 0 (cost 0 7) 1 (pos 0) (pos 0) ∷ entry kind.Admit 0 1 0 1 (pos 3) (pos 1) ∷ asking kind.Call 0 0 (cost 0 7) 1 (pos 0) (pos 0) ∷ dispatch 0 1 ∷ asking kind.Poll 0 1 (cost 0 4) 0 (pos 4) (pos 8) ∷ asking kind.Print 0 1 (cost 0 5) 0 (pos 2) (pos 2) ∷ asking kind.Poll 0 1 (cost 0 4) 0 (pos 0) (pos 8) ∷ []

abbrev polled_first : IsPrefix polled_source [] options polled_first_journal
unfolding inside held waiting stacked ready running entries_at open_at blocked_at last_call none_running none_ready none_served first_ended all_ticks processor_count cluster_count open_processors processors offers own_object stack_at used object_count task_count is_gone owner is_over tasks_on answer_to pending
polled_first =
    let r0 : Runs polled_source [] options (begin options ∷ []) (first_world polled_source) = begun in
    let r1 = given_to 0 [] r0 refl (0, lit< tt, refl) refl refl refl in
    let r2 = acted_by 0 answer.Go _ (asking kind.Make 0 0 (cost 0 7) 1 (pos 1) (pos 0) ∷ []) r1 refl refl refl refl refl in
    let r3 = acted_by 0 (answer.Object 1) _ (asking kind.Spawn 0 0 (cost 0 7) 1 (pos 1) (pos 0) ∷ []) r2 refl refl refl refl refl in
    let r4 = acted_by 0 answer.Go _ ((record (asking kind.Raise 0 0 (cost 1 7) 1 (pos 1) (pos 2)) { c = pos 1; d = pos 0 }) ∷ []) r3 refl refl refl refl refl in
    let r5 = acted_by 0 answer.Go _ ((record (asking kind.Raise 0 0 (cost 1 7) 1 (pos 1) (pos 2)) { c = pos 2; d = pos 0 }) ∷ []) r4 refl refl refl refl refl in
    let r6 = acted_by 0 answer.Go _ (asking kind.Raise 0 0 (cost 0 7) 1 (pos 1) (pos 3) ∷ []) r5 refl refl refl refl refl in
    let r7 = acted_by 0 answer.Go _ (asking kind.Call 0 0 (cost 1 7) 1 (pos 1) (pos 0) ∷ []) r6 refl refl refl refl refl in
    let r8 = given_to 1 [] r7 refl (0, lit< tt, refl) refl refl refl in
    let r9 = acted_by 1 answer.Go _ ((record (asking kind.Accept 0 1 (cost 0 3) 1 (pos 0) (pos 1)) { c = pos 0; d = pos 1 }) ∷ entry kind.Admit 0 0 0 1 (pos 1) (pos 0) ∷ []) r8 refl refl refl refl refl in
    let r10 = given_to 0 [] r9 refl (0, lit< tt, refl) refl refl refl in
    let r11 = acted_by 0 answer.Go _ (asking kind.Leave 0 0 (cost 0 7) 1 (pos 0) (pos 0) ∷ entry kind.Admit 0 1 0 1 (pos 3) (pos 1) ∷ []) r10 refl refl refl refl refl in
    let r12 = acted_by 0 answer.Go _ (asking kind.Call 0 0 (cost 0 7) 1 (pos 0) (pos 0) ∷ []) r11 refl refl refl refl refl in
    let r13 = given_to 1 [] r12 refl (0, lit< tt, refl) refl refl refl in
    let r14 = acted_by 1 (answer.Clause 1 false) _ (asking kind.Poll 0 1 (cost 0 4) 0 (pos 4) (pos 8) ∷ []) r13 refl refl refl refl refl in
    let r15 = acted_by 1 (answer.Event 3 (pos 0) (pos 0)) _ (asking kind.Print 0 1 (cost 0 5) 0 (pos 2) (pos 2) ∷ []) r14 refl refl refl refl refl in
    let r16 = acted_by 1 answer.Go _ (asking kind.Poll 0 1 (cost 0 4) 0 (pos 0) (pos 8) ∷ []) r15 refl refl refl refl refl in
    record { world = _; runs = r16 }

polled_runs : IsRun polled_source [] options polled_journal
unfolding inside held waiting stacked ready running entries_at open_at blocked_at last_call none_running none_ready none_served first_ended all_ticks processor_count cluster_count open_processors processors offers own_object stack_at used object_count task_count is_gone owner is_over tasks_on answer_to pending
polled_runs =
    let r16 : Runs polled_source [] options polled_first_journal polled_first.world = polled_first.runs in
    let r17 = acted_by 1 answer.Nothing _ (asking kind.Print 0 1 (cost 0 4) 0 (pos 2) (pos 0) ∷ []) r16 refl refl refl refl refl in
    let r18 = acted_by 1 answer.Go _ ((record (asking kind.Poll 0 1 (cost 0 4) 0 (pos 3) (negsuc 0)) { c = pos 1; d = pos 0 }) ∷ []) r17 refl refl refl refl refl in
    let r19 = acted_by 1 (answer.Event 2 (pos 1) (pos 0)) _ (asking kind.Print 0 1 (cost 0 5) 0 (pos 1) (pos 69) ∷ []) r18 refl refl refl refl refl in
    let r20 = acted_by 1 answer.Go _ (asking kind.Print 0 1 (cost 0 5) 0 (pos 0) (pos 1) ∷ []) r19 refl refl refl refl refl in
    let r21 = acted_by 1 answer.Go _ (asking kind.Print 0 1 (cost 0 5) 0 (pos 1) (pos 32) ∷ []) r20 refl refl refl refl refl in
    let r22 = acted_by 1 answer.Go _ ((record (asking kind.Poll 0 1 (cost 0 4) 0 (pos 3) (negsuc 0)) { c = pos 2; d = pos 0 }) ∷ []) r21 refl refl refl refl refl in
    let r23 = acted_by 1 (answer.Event 2 (pos 2) (pos 0)) _ (asking kind.Print 0 1 (cost 0 5) 0 (pos 1) (pos 69) ∷ []) r22 refl refl refl refl refl in
    let r24 = acted_by 1 answer.Go _ (asking kind.Print 0 1 (cost 0 5) 0 (pos 0) (pos 2) ∷ []) r23 refl refl refl refl refl in
    let r25 = acted_by 1 answer.Go _ (asking kind.Print 0 1 (cost 0 5) 0 (pos 1) (pos 32) ∷ []) r24 refl refl refl refl refl in
    let r26 = acted_by 1 answer.Go _ (asking kind.Poll 0 1 (cost 0 4) 0 (pos 0) (negsuc 0) ∷ []) r25 refl refl refl refl refl in
    let r27 = acted_by 1 answer.Nothing _ (asking kind.Print 0 1 (cost 0 4) 0 (pos 2) (pos 1) ∷ []) r26 refl refl refl refl refl in
    let r28 = acted_by 1 answer.Go _ (asking kind.Print 0 1 (cost 0 5) 0 (pos 1) (pos 10) ∷ []) r27 refl refl refl refl refl in
    let r29 = acted_by 1 answer.Go _ (asking kind.End 0 1 (cost 0 3) 1 (pos 0) (pos 0) ∷ entry kind.Admit 0 0 0 1 (pos 2) (pos 0) ∷ []) r28 refl refl refl refl refl in
    let r30 = given_to 0 [] r29 refl (0, lit< tt, refl) refl refl refl in
    let r31 = acted_by 0 answer.Go _ (asking kind.Gone 0 0 (cost 0 7) 1 (pos 0) (pos 0) ∷ []) r30 refl refl refl refl refl in
    let r32 = acted_by 0 answer.Go _ (asking kind.End 0 0 (cost 0 7) 0 (pos 0) (pos 0) ∷ entry kind.Done 0 0 0 0 (pos 0) (pos 0) ∷ []) r31 refl refl refl refl refl in
    record { prefix = record { world = _; runs = r32 }; over = refl }

pub polled_run : PolledRun
polled_run = record { run = subst (λ s. IsRun s [] options polled_journal) (sym polled_is) polled_runs }
