-- A journal is a run of its program, in parts: each begins in the world that the last one left.
use Rattle.std.proofs.Common.{◌≡◌, false, true, [], ◌∷◌, Some, None, refl, sym, subst, pos, lit<}
use Rattle.uc_tree.specs.declared.kinds.ValueForm.TheVariants as value_form
use Rattle.uc_tree.specs.Constants.{constant_value}
use Rattle.uc_tree.specs.Rows.{reaches, cells_within}
use Rattle.uc_tree.specs.Objects.{shape_within, height_within}
use Rattle.uc_resolve.specs.Resolve.{source_of}
use Rattle.uc_tree.specs.Source.{Bind, Binding, Block, Builder, Declare, Destroys, EndOn, Ends, EnterOn, Evaluate, Field as FieldIn, Frees, Get, GetOwn, Last, Leaves, Literal, Load, MakeOn, MoreExprs, Nil, NoExprs, OfObject, OfTasks, OwnField, Print, Scoped, Show, ShowText, Signal, Source, TaskMain, Then, Variable, Wait, Whole, Yield}
use Rattle.uc_entry.specs.declared.entry.EntryKind.TheVariants as kind
use Rattle.uc_entry.specs.declared.request.Answer.TheVariants as answer
use Rattle.uc_acts.specs.Journal.{Journal, cost, entry, asking, begin, is_over, held, inside, own_object, entries_at}
use Rattle.uc_acts.specs.Queues.{waiting, stacked, ready, running, used, cluster_count, processor_count, processors, open_processors, tasks_on, none_running, none_ready, none_served, first_ended, all_ticks}
use Rattle.uc_acts.specs.Known.{object_count, task_count, is_gone, owner}
use Rattle.uc_acts.specs.Pending.{pending}
use Rattle.uc_acts.specs.Doors.{open_at, blocked_at, last_call, offers, stack_at}
use Rattle.uc_acts.specs.Answers.{answer_to}
use Rattle.uc_acts.specs.Acts.{dispatch}
use Rattle.uc_acts.specs.Samples.{options}
use Rattle.uc_meaning.specs.Runs.{Runs, IsPrefix, IsRun, begun, first_world}
use Rattle.uc_meaning.proofs.ActsSampled.{given_to, acted_by}
use Rattle.uc_meaning.specs.MonitorSamples.{late_text, late_journal, LateRun}

abbrev late_source : Source
late_source = record { routines = record { line = 1; cells = 0; params = 0; purpose = Builder; written = true; body = Scoped Leaves (Then (Block 1 (Then (Evaluate 1 (OfObject (Wait (Literal (pos 0)) (Literal (pos 0))))) (Then (Print 1 (ShowText 0 ∷ [])) Nil))) Nil) } ∷ record { line = 2; cells = 0; params = 0; purpose = Builder; written = true; body = Scoped Leaves (Then (Block 2 (Then (Evaluate 2 (OfObject (Wait (Literal (pos 1)) (Literal (pos 0))))) (Then (Print 2 (ShowText 1 ∷ [])) Nil))) Nil) } ∷ record { line = 3; cells = 0; params = 0; purpose = Builder; written = true; body = Scoped Leaves (Then (Block 3 (Then (Evaluate 3 (OfObject (Signal (Literal (pos 0))))) (Then (Evaluate 3 (OfObject (Signal (Literal (pos 1))))) (Then (OfTasks (Yield 3)) (Then (Print 3 (ShowText 2 ∷ [])) Nil))))) Nil) } ∷ record { line = 4; cells = 0; params = 0; purpose = Builder; written = true; body = Scoped Leaves (Then (Block 4 (Then (Print 4 (ShowText 3 ∷ [])) Nil)) Nil) } ∷ record { line = 5; cells = 0; params = 0; purpose = TaskMain; written = true; body = Then (Evaluate 5 (OfObject (EnterOn 1 0 (OfObject (GetOwn (FieldIn Binding Last) 0)) NoExprs))) Nil } ∷ record { line = 5; cells = 1; params = 1; purpose = Builder; written = true; body = Scoped (Frees (Some 4)) (Then (Evaluate 0 (OfObject (Bind (OfObject (OwnField (FieldIn Binding Last) 0)) (Get 0)))) (Then (Whole 5 Nil) Nil)) } ∷ record { line = 6; cells = 0; params = 0; purpose = TaskMain; written = true; body = Then (Evaluate 6 (OfObject (EnterOn 2 1 (OfObject (GetOwn (FieldIn Binding Last) 0)) NoExprs))) Nil } ∷ record { line = 6; cells = 1; params = 1; purpose = Builder; written = true; body = Scoped (Frees (Some 6)) (Then (Evaluate 0 (OfObject (Bind (OfObject (OwnField (FieldIn Binding Last) 0)) (Get 0)))) (Then (Whole 6 Nil) Nil)) } ∷ record { line = 7; cells = 0; params = 0; purpose = TaskMain; written = true; body = Then (Evaluate 7 (OfObject (EnterOn 3 2 (OfObject (GetOwn (FieldIn Binding Last) 0)) NoExprs))) Nil } ∷ record { line = 7; cells = 1; params = 1; purpose = Builder; written = true; body = Scoped (Frees (Some 8)) (Then (Evaluate 0 (OfObject (Bind (OfObject (OwnField (FieldIn Binding Last) 0)) (Get 0)))) (Then (Whole 7 Nil) Nil)) } ∷ record { line = 8; cells = 0; params = 0; purpose = TaskMain; written = true; body = Then (Evaluate 8 (OfObject (EnterOn 4 3 (OfObject (GetOwn (FieldIn Binding Last) 0)) NoExprs))) Nil } ∷ record { line = 8; cells = 1; params = 1; purpose = Builder; written = true; body = Scoped (Frees (Some 10)) (Then (Evaluate 0 (OfObject (Bind (OfObject (OwnField (FieldIn Binding Last) 0)) (Get 0)))) (Then (Whole 8 Nil) Nil)) } ∷ record { line = 9; cells = 5; params = 0; purpose = TaskMain; written = true; body = Then (Declare 9 (record { cell = 0; cells = 1; value = None } ∷ [])) (Then (Evaluate 9 (OfObject (MakeOn 1 13 false (Variable 0) NoExprs))) (Scoped (Destroys (OfObject (EndOn 14 false (Load (Variable 0))))) (Then (Block 9 (Then (Declare 9 (record { cell = 1; cells = 1; value = None } ∷ [])) (Then (Evaluate 9 (OfObject (MakeOn 2 5 true (Variable 1) (MoreExprs (Get 0) NoExprs)))) (Scoped (Destroys (OfObject (EndOn 15 false (Load (Variable 1))))) (Then (Declare 9 (record { cell = 2; cells = 1; value = None } ∷ [])) (Then (Evaluate 9 (OfObject (MakeOn 3 7 true (Variable 2) (MoreExprs (Get 0) NoExprs)))) (Scoped (Destroys (OfObject (EndOn 16 false (Load (Variable 2))))) (Then (Declare 9 (record { cell = 3; cells = 1; value = None } ∷ [])) (Then (Evaluate 9 (OfObject (MakeOn 4 9 true (Variable 3) (MoreExprs (Get 0) NoExprs)))) (Scoped (Destroys (OfObject (EndOn 17 false (Load (Variable 3))))) (Then (Declare 9 (record { cell = 4; cells = 1; value = None } ∷ [])) (Then (Evaluate 9 (OfObject (MakeOn 5 11 true (Variable 4) (MoreExprs (Get 0) NoExprs)))) (Scoped (Destroys (OfObject (EndOn 18 false (Load (Variable 4))))) Nil))))))))))))) (Then (Print 9 (Show value_form.Character (Literal (pos 10)) ∷ [])) Nil)))) } ∷ record { line = 0; cells = 0; params = 0; purpose = Builder; written = false; body = Scoped (Frees None) Nil } ∷ record { line = 0; cells = 0; params = 0; purpose = Builder; written = false; body = Scoped Ends Nil } ∷ record { line = 0; cells = 0; params = 0; purpose = Builder; written = false; body = Scoped Ends Nil } ∷ record { line = 0; cells = 0; params = 0; purpose = Builder; written = false; body = Scoped Ends Nil } ∷ record { line = 0; cells = 0; params = 0; purpose = Builder; written = false; body = Scoped Ends Nil } ∷ record { line = 0; cells = 0; params = 0; purpose = Builder; written = false; body = Scoped Ends Nil } ∷ []; main = 12; classes = record { cells = 0 } ∷ record { cells = 2 } ∷ record { cells = 1 } ∷ record { cells = 1 } ∷ record { cells = 1 } ∷ record { cells = 1 } ∷ []; sites = []; texts = (99 ∷ 32 ∷ []) ∷ (100 ∷ 32 ∷ []) ∷ (103 ∷ 111 ∷ 32 ∷ []) ∷ (108 ∷ 97 ∷ 116 ∷ 101 ∷ 32 ∷ []) ∷ [] }

late_is : source_of late_text ≡ late_source
unfolding constant_value reaches cells_within shape_within height_within
late_is = refl

abbrev late_first_journal : Journal
late_first_journal =
    begin options ∷ dispatch 0 0 ∷ asking kind.Make 0 0 (cost 0 9) 1 (pos 1) (pos 0) ∷ asking kind.Made 0 0 (cost 0 9) 1 (pos 0) (pos 0) ∷ asking kind.Make 0 0 (cost 1 9) 2 (pos 2) (pos 0) ∷ asking kind.Spawn 0 0 (cost 0 9) 2 (pos 1) (pos 0) ∷ asking kind.Make 0 0 (cost 1 9) 3 (pos 3) (pos 0) ∷ asking kind.Spawn 0 0 (cost 0 9) 3 (pos 2) (pos 0) ∷ asking kind.Make 0 0 (cost 1 9) 4 (pos 4) (pos 0) ∷ asking kind.Spawn 0 0 (cost 0 9) 4 (pos 3) (pos 0) ∷ asking kind.Make 0 0 (cost 1 9) 5 (pos 5) (pos 0) ∷ asking kind.Spawn 0 0 (cost 0 9) 5 (pos 4) (pos 0) ∷ asking kind.Call 0 0 (cost 0 9) 5 (pos 0) (pos 0) ∷ dispatch 0 1 ∷ asking kind.Call 0 1 (cost 1 5) 1 (pos 1) (pos 0) ∷ entry kind.Admit 0 1 0 1 (pos 0) (pos 0) ∷ asking kind.Wait 0 1 (cost 0 1) 1 (pos 0) (pos 0) ∷ dispatch 0 2 ∷ asking kind.Call 0 2 (cost 1 6) 1 (pos 2) (pos 0) ∷ entry kind.Admit 0 2 0 1 (pos 0) (pos 0) ∷ asking kind.Wait 0 2 (cost 0 2) 1 (pos 1) (pos 0) ∷ []

abbrev late_first : IsPrefix late_source [] options late_first_journal
unfolding inside held waiting stacked ready running entries_at open_at blocked_at last_call none_running none_ready none_served first_ended all_ticks processor_count cluster_count open_processors processors offers own_object stack_at used object_count task_count is_gone owner is_over tasks_on answer_to pending
late_first =
    let r0 : Runs late_source [] options (begin options ∷ []) (first_world late_source) = begun in
    let r1 = given_to 0 [] r0 refl (0, lit< tt, refl) refl refl refl in
    let r2 = acted_by 0 answer.Go _ (asking kind.Make 0 0 (cost 0 9) 1 (pos 1) (pos 0) ∷ []) r1 refl refl refl refl refl in
    let r3 = acted_by 0 (answer.Object 1) _ (asking kind.Made 0 0 (cost 0 9) 1 (pos 0) (pos 0) ∷ []) r2 refl refl refl refl refl in
    let r4 = acted_by 0 answer.Go _ (asking kind.Make 0 0 (cost 1 9) 2 (pos 2) (pos 0) ∷ []) r3 refl refl refl refl refl in
    let r5 = acted_by 0 (answer.Object 2) _ (asking kind.Spawn 0 0 (cost 0 9) 2 (pos 1) (pos 0) ∷ []) r4 refl refl refl refl refl in
    let r6 = acted_by 0 answer.Go _ (asking kind.Make 0 0 (cost 1 9) 3 (pos 3) (pos 0) ∷ []) r5 refl refl refl refl refl in
    let r7 = acted_by 0 (answer.Object 3) _ (asking kind.Spawn 0 0 (cost 0 9) 3 (pos 2) (pos 0) ∷ []) r6 refl refl refl refl refl in
    let r8 = acted_by 0 answer.Go _ (asking kind.Make 0 0 (cost 1 9) 4 (pos 4) (pos 0) ∷ []) r7 refl refl refl refl refl in
    let r9 = acted_by 0 (answer.Object 4) _ (asking kind.Spawn 0 0 (cost 0 9) 4 (pos 3) (pos 0) ∷ []) r8 refl refl refl refl refl in
    let r10 = acted_by 0 answer.Go _ (asking kind.Make 0 0 (cost 1 9) 5 (pos 5) (pos 0) ∷ []) r9 refl refl refl refl refl in
    let r11 = acted_by 0 (answer.Object 5) _ (asking kind.Spawn 0 0 (cost 0 9) 5 (pos 4) (pos 0) ∷ []) r10 refl refl refl refl refl in
    let r12 = acted_by 0 answer.Go _ (asking kind.Call 0 0 (cost 0 9) 5 (pos 0) (pos 0) ∷ []) r11 refl refl refl refl refl in
    let r13 = given_to 1 (2 ∷ 3 ∷ 4 ∷ []) r12 refl (0, lit< tt, refl) refl refl refl in
    let r14 = acted_by 1 answer.Go _ (asking kind.Call 0 1 (cost 1 5) 1 (pos 1) (pos 0) ∷ entry kind.Admit 0 1 0 1 (pos 0) (pos 0) ∷ []) r13 refl refl refl refl refl in
    let r15 = acted_by 1 answer.Go _ (asking kind.Wait 0 1 (cost 0 1) 1 (pos 0) (pos 0) ∷ []) r14 refl refl refl refl refl in
    let r16 = given_to 2 (3 ∷ 4 ∷ []) r15 refl (0, lit< tt, refl) refl refl refl in
    let r17 = acted_by 2 answer.Go _ (asking kind.Call 0 2 (cost 1 6) 1 (pos 2) (pos 0) ∷ entry kind.Admit 0 2 0 1 (pos 0) (pos 0) ∷ []) r16 refl refl refl refl refl in
    let r18 = acted_by 2 answer.Go _ (asking kind.Wait 0 2 (cost 0 2) 1 (pos 1) (pos 0) ∷ []) r17 refl refl refl refl refl in
    record { world = _; runs = r18 }

abbrev late_second_journal : Journal
late_second_journal =
    begin options ∷ dispatch 0 0 ∷ asking kind.Make 0 0 (cost 0 9) 1 (pos 1) (pos 0) ∷ asking kind.Made 0 0 (cost 0 9) 1 (pos 0) (pos 0) ∷ asking kind.Make 0 0 (cost 1 9) 2 (pos 2) (pos 0) ∷ asking kind.Spawn 0 0 (cost 0 9) 2 (pos 1) (pos 0) ∷ asking kind.Make 0 0 (cost 1 9) 3 (pos 3) (pos 0) ∷ asking kind.Spawn 0 0 (cost 0 9) 3 (pos 2) (pos 0) ∷ asking kind.Make 0 0 (cost 1 9) 4 (pos 4) (pos 0) ∷ asking kind.Spawn 0 0 (cost 0 9) 4 (pos 3) (pos 0) ∷ asking kind.Make 0 0 (cost 1 9) 5 (pos 5) (pos 0) ∷ asking kind.Spawn 0 0 (cost 0 9) 5 (pos 4) (pos 0) ∷ asking kind.Call 0 0 (cost 0 9) 5 (pos 0) (pos 0) ∷ dispatch 0 1 ∷ asking kind.Call 0 1 (cost 1 5) 1 (pos 1) (pos 0) ∷ entry kind.Admit 0 1 0 1 (pos 0) (pos 0) ∷ asking kind.Wait 0 1 (cost 0 1) 1 (pos 0) (pos 0) ∷ dispatch 0 2 ∷ asking kind.Call 0 2 (cost 1 6) 1 (pos 2) (pos 0) ∷ entry kind.Admit 0 2 0 1 (pos 0) (pos 0) ∷ asking kind.Wait 0 2 (cost 0 2) 1 (pos 1) (pos 0) ∷ dispatch 0 3 ∷ asking kind.Call 0 3 (cost 1 7) 1 (pos 3) (pos 0) ∷ entry kind.Admit 0 3 0 1 (pos 0) (pos 0) ∷ asking kind.Signal 0 3 (cost 0 3) 1 (pos 0) (pos 1) ∷ entry kind.Push 0 1 0 1 (pos 0) (pos 0) ∷ asking kind.Signal 0 3 (cost 0 3) 1 (pos 1) (pos 1) ∷ entry kind.Push 0 2 0 1 (pos 0) (pos 0) ∷ asking kind.Yield 0 3 (cost 0 3) 0 (pos 0) (pos 0) ∷ dispatch 0 4 ∷ asking kind.Call 0 4 (cost 1 8) 1 (pos 4) (pos 0) ∷ dispatch 0 3 ∷ asking kind.Print 0 3 (cost 0 3) 0 (pos 2) (pos 2) ∷ asking kind.Leave 0 3 (cost 0 7) 1 (pos 0) (pos 0) ∷ entry kind.Admit 0 2 0 1 (pos 3) (pos 0) ∷ asking kind.End 0 3 (cost 0 7) 4 (pos 0) (pos 0) ∷ dispatch 0 2 ∷ asking kind.Print 0 2 (cost 0 2) 0 (pos 2) (pos 1) ∷ asking kind.Leave 0 2 (cost 0 6) 1 (pos 0) (pos 0) ∷ entry kind.Admit 0 1 0 1 (pos 3) (pos 0) ∷ asking kind.End 0 2 (cost 0 6) 3 (pos 0) (pos 0) ∷ dispatch 0 1 ∷ asking kind.Print 0 1 (cost 0 1) 0 (pos 2) (pos 0) ∷ asking kind.Leave 0 1 (cost 0 5) 1 (pos 0) (pos 0) ∷ entry kind.Admit 0 4 0 1 (pos 2) (pos 0) ∷ []

abbrev late_second : IsPrefix late_source [] options late_second_journal
unfolding inside held waiting stacked ready running entries_at open_at blocked_at last_call none_running none_ready none_served first_ended all_ticks processor_count cluster_count open_processors processors offers own_object stack_at used object_count task_count is_gone owner is_over tasks_on answer_to pending
late_second =
    let r18 : Runs late_source [] options late_first_journal late_first.world = late_first.runs in
    let r19 = given_to 3 (4 ∷ []) r18 refl (0, lit< tt, refl) refl refl refl in
    let r20 = acted_by 3 answer.Go _ (asking kind.Call 0 3 (cost 1 7) 1 (pos 3) (pos 0) ∷ entry kind.Admit 0 3 0 1 (pos 0) (pos 0) ∷ []) r19 refl refl refl refl refl in
    let r21 = acted_by 3 answer.Go _ (asking kind.Signal 0 3 (cost 0 3) 1 (pos 0) (pos 1) ∷ entry kind.Push 0 1 0 1 (pos 0) (pos 0) ∷ []) r20 refl refl refl refl refl in
    let r22 = acted_by 3 answer.Go _ (asking kind.Signal 0 3 (cost 0 3) 1 (pos 1) (pos 1) ∷ entry kind.Push 0 2 0 1 (pos 0) (pos 0) ∷ []) r21 refl refl refl refl refl in
    let r23 = acted_by 3 answer.Go _ (asking kind.Yield 0 3 (cost 0 3) 0 (pos 0) (pos 0) ∷ []) r22 refl refl refl refl refl in
    let r24 = given_to 4 (3 ∷ []) r23 refl (0, lit< tt, refl) refl refl refl in
    let r25 = acted_by 4 answer.Go _ (asking kind.Call 0 4 (cost 1 8) 1 (pos 4) (pos 0) ∷ []) r24 refl refl refl refl refl in
    let r26 = given_to 3 [] r25 refl (0, lit< tt, refl) refl refl refl in
    let r27 = acted_by 3 answer.Go _ (asking kind.Print 0 3 (cost 0 3) 0 (pos 2) (pos 2) ∷ []) r26 refl refl refl refl refl in
    let r28 = acted_by 3 answer.Go _ (asking kind.Leave 0 3 (cost 0 7) 1 (pos 0) (pos 0) ∷ entry kind.Admit 0 2 0 1 (pos 3) (pos 0) ∷ []) r27 refl refl refl refl refl in
    let r29 = acted_by 3 answer.Go _ (asking kind.End 0 3 (cost 0 7) 4 (pos 0) (pos 0) ∷ []) r28 refl refl refl refl refl in
    let r30 = given_to 2 [] r29 refl (0, lit< tt, refl) refl refl refl in
    let r31 = acted_by 2 answer.Go _ (asking kind.Print 0 2 (cost 0 2) 0 (pos 2) (pos 1) ∷ []) r30 refl refl refl refl refl in
    let r32 = acted_by 2 answer.Go _ (asking kind.Leave 0 2 (cost 0 6) 1 (pos 0) (pos 0) ∷ entry kind.Admit 0 1 0 1 (pos 3) (pos 0) ∷ []) r31 refl refl refl refl refl in
    let r33 = acted_by 2 answer.Go _ (asking kind.End 0 2 (cost 0 6) 3 (pos 0) (pos 0) ∷ []) r32 refl refl refl refl refl in
    let r34 = given_to 1 [] r33 refl (0, lit< tt, refl) refl refl refl in
    let r35 = acted_by 1 answer.Go _ (asking kind.Print 0 1 (cost 0 1) 0 (pos 2) (pos 0) ∷ []) r34 refl refl refl refl refl in
    let r36 = acted_by 1 answer.Go _ (asking kind.Leave 0 1 (cost 0 5) 1 (pos 0) (pos 0) ∷ entry kind.Admit 0 4 0 1 (pos 2) (pos 0) ∷ []) r35 refl refl refl refl refl in
    record { world = _; runs = r36 }

late_runs : IsRun late_source [] options late_journal
unfolding inside held waiting stacked ready running entries_at open_at blocked_at last_call none_running none_ready none_served first_ended all_ticks processor_count cluster_count open_processors processors offers own_object stack_at used object_count task_count is_gone owner is_over tasks_on answer_to pending
late_runs =
    let r36 : Runs late_source [] options late_second_journal late_second.world = late_second.runs in
    let r37 = acted_by 1 answer.Go _ (asking kind.End 0 1 (cost 0 5) 2 (pos 0) (pos 0) ∷ []) r36 refl refl refl refl refl in
    let r38 = given_to 4 [] r37 refl (0, lit< tt, refl) refl refl refl in
    let r39 = acted_by 4 answer.Go _ (asking kind.Print 0 4 (cost 0 4) 0 (pos 2) (pos 3) ∷ []) r38 refl refl refl refl refl in
    let r40 = acted_by 4 answer.Go _ (asking kind.Leave 0 4 (cost 0 8) 1 (pos 0) (pos 0) ∷ []) r39 refl refl refl refl refl in
    let r41 = acted_by 4 answer.Go _ (asking kind.End 0 4 (cost 0 8) 5 (pos 0) (pos 0) ∷ entry kind.Admit 0 0 0 5 (pos 2) (pos 0) ∷ []) r40 refl refl refl refl refl in
    let r42 = given_to 0 [] r41 refl (0, lit< tt, refl) refl refl refl in
    let r43 = acted_by 0 answer.Go _ (asking kind.Gone 0 0 (cost 0 9) 5 (pos 0) (pos 0) ∷ []) r42 refl refl refl refl refl in
    let r44 = acted_by 0 answer.Go _ (asking kind.Call 0 0 (cost 0 9) 4 (pos 0) (pos 0) ∷ entry kind.Admit 0 0 0 4 (pos 0) (pos 0) ∷ []) r43 refl refl refl refl refl in
    let r45 = acted_by 0 answer.Go _ (asking kind.Gone 0 0 (cost 0 9) 4 (pos 0) (pos 0) ∷ []) r44 refl refl refl refl refl in
    let r46 = acted_by 0 answer.Go _ (asking kind.Call 0 0 (cost 0 9) 3 (pos 0) (pos 0) ∷ entry kind.Admit 0 0 0 3 (pos 0) (pos 0) ∷ []) r45 refl refl refl refl refl in
    let r47 = acted_by 0 answer.Go _ (asking kind.Gone 0 0 (cost 0 9) 3 (pos 0) (pos 0) ∷ []) r46 refl refl refl refl refl in
    let r48 = acted_by 0 answer.Go _ (asking kind.Call 0 0 (cost 0 9) 2 (pos 0) (pos 0) ∷ entry kind.Admit 0 0 0 2 (pos 0) (pos 0) ∷ []) r47 refl refl refl refl refl in
    let r49 = acted_by 0 answer.Go _ (asking kind.Gone 0 0 (cost 0 9) 2 (pos 0) (pos 0) ∷ []) r48 refl refl refl refl refl in
    let r50 = acted_by 0 answer.Go _ (asking kind.Print 0 0 (cost 0 9) 0 (pos 1) (pos 10) ∷ []) r49 refl refl refl refl refl in
    let r51 = acted_by 0 answer.Go _ (asking kind.Call 0 0 (cost 0 9) 1 (pos 0) (pos 0) ∷ entry kind.Admit 0 0 0 1 (pos 0) (pos 0) ∷ []) r50 refl refl refl refl refl in
    let r52 = acted_by 0 answer.Go _ (asking kind.Gone 0 0 (cost 0 9) 1 (pos 0) (pos 0) ∷ []) r51 refl refl refl refl refl in
    let r53 = acted_by 0 answer.Go _ (asking kind.End 0 0 (cost 0 9) 0 (pos 0) (pos 0) ∷ entry kind.Done 0 0 0 0 (pos 0) (pos 0) ∷ []) r52 refl refl refl refl refl in
    record { prefix = record { world = _; runs = r53 }; over = refl }

pub late_run : LateRun
late_run = record { run = subst (λ s. IsRun s [] options late_journal) (sym late_is) late_runs }
