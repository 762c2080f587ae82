-- A journal is a run of its program, in parts: each begins in the world that the last one left.
use Rattle.std.proofs.Common.{◌≡◌, false, true, [], ◌∷◌, Some, None, refl, sym, subst, pos, lit<}
use Rattle.uc_tree.specs.declared.kinds.ValueForm.TheVariants as value_form
use Rattle.uc_tree.specs.Constants.{constant_value}
use Rattle.uc_tree.specs.Rows.{reaches, cells_within}
use Rattle.uc_tree.specs.Objects.{shape_within, height_within}
use Rattle.uc_resolve.specs.Resolve.{source_of}
use Rattle.uc_tree.specs.Source.{Assign, Bind, Binding, Block, Builder, Built, CoroutineMain, Declare, Destroys, EndOn, Ends, Enliven, EnterOn, Evaluate, Field as FieldIn, Forgets, Frees, Get, GetOwn, Integer, Last, Leaves, Literal, Load, MakeOn, MoreExprs, Nil, NoExprs, OfObject, OfTasks, OwnField, Print, Resume, Scoped, SetUp, Show, ShowText, Source, Suspend, TakeDown, TaskMain, Then, Unwinds, Variable, Whole}
use Rattle.uc_entry.specs.declared.entry.EntryKind.TheVariants as kind
use Rattle.uc_entry.specs.declared.request.Answer.TheVariants as answer
use Rattle.uc_acts.specs.Journal.{Journal, cost, entry, asking, begin, is_over, held, inside, own_object, entries_at}
use Rattle.uc_acts.specs.Queues.{waiting, stacked, ready, running, used, cluster_count, processor_count, processors, open_processors, tasks_on, none_running, none_ready, none_served, first_ended, all_ticks}
use Rattle.uc_acts.specs.Known.{object_count, task_count, is_gone, owner}
use Rattle.uc_acts.specs.Pending.{pending}
use Rattle.uc_acts.specs.Doors.{open_at, blocked_at, last_call, offers, stack_at}
use Rattle.uc_acts.specs.Answers.{answer_to}
use Rattle.uc_acts.specs.Acts.{dispatch}
use Rattle.uc_acts.specs.Samples.{options}
use Rattle.uc_meaning.specs.Runs.{Runs, IsPrefix, IsRun, begun, first_world}
use Rattle.uc_meaning.proofs.ActsSampled.{given_to, acted_by}
use Rattle.uc_meaning.specs.MonitorSamples.{two_steps_text, two_steps_journal, Two_stepsRun}

abbrev two_steps_source : Source
two_steps_source = record { routines = record { line = 1; cells = 0; params = 0; purpose = CoroutineMain; written = true; body = Then (Print 1 (ShowText 0 ∷ [])) (Then (OfTasks (Suspend 1)) (Then (Print 1 (ShowText 1 ∷ [])) Nil)) } ∷ record { line = 2; cells = 0; params = 0; purpose = Builder; written = true; body = Scoped Leaves (Then (Block 2 (Then (OfTasks (Resume 2)) Nil)) Nil) } ∷ record { line = 3; cells = 0; params = 0; purpose = TaskMain; written = true; body = Then (Evaluate 3 (OfObject (EnterOn 1 1 (OfObject (GetOwn (FieldIn Binding (FieldIn Integer Last)) 0)) NoExprs))) (Then (Print 3 (Show value_form.Number (OfObject (GetOwn (FieldIn Binding (FieldIn Integer Last)) 1)) ∷ Show value_form.Character (Literal (pos 32)) ∷ [])) Nil) } ∷ record { line = 4; cells = 2; params = 2; purpose = Builder; written = true; body = Scoped (Frees (Some 2)) (Then (Evaluate 0 (OfObject (Bind (OfObject (OwnField (FieldIn Binding (FieldIn Integer Last)) 0)) (Get 0)))) (Then (Evaluate 0 (Assign (OfObject (OwnField (FieldIn Binding (FieldIn Integer Last)) 1)) (Get 1))) (Then (Whole 4 Nil) Nil))) } ∷ record { line = 5; cells = 3; params = 0; purpose = TaskMain; written = true; body = Then (Declare 5 (record { cell = 0; cells = 1; value = None } ∷ [])) (Then (Evaluate 5 (OfObject (MakeOn 1 5 false (Variable 0) NoExprs))) (Scoped (Destroys (OfObject (EndOn 6 false (Load (Variable 0))))) (Then (Block 5 (Then (Declare 5 (record { cell = 1; cells = 1; value = None } ∷ [])) (Then (Evaluate 5 (OfObject (MakeOn 2 3 true (Variable 1) (MoreExprs (Get 0) (MoreExprs (Literal (pos 1)) NoExprs))))) (Scoped (Destroys (OfObject (EndOn 7 false (Load (Variable 1))))) Nil)))) (Then (Block 5 (Then (Declare 5 (record { cell = 2; cells = 1; value = None } ∷ [])) (Then (Evaluate 5 (OfObject (MakeOn 2 3 true (Variable 2) (MoreExprs (Get 0) (MoreExprs (Literal (pos 2)) NoExprs))))) (Scoped (Destroys (OfObject (EndOn 7 false (Load (Variable 2))))) Nil)))) (Then (Print 5 (ShowText 2 ∷ Show value_form.Character (Literal (pos 10)) ∷ [])) Nil))))) } ∷ record { line = 0; cells = 0; params = 0; purpose = Builder; written = false; body = Scoped (Frees None) (Then (OfTasks (SetUp 0)) (Built Forgets (Built Unwinds (Then (OfTasks Enliven) Nil)))) } ∷ record { line = 0; cells = 0; params = 0; purpose = Builder; written = false; body = Scoped Ends (Scoped Forgets (Then (OfTasks TakeDown) Nil)) } ∷ record { line = 0; cells = 0; params = 0; purpose = Builder; written = false; body = Scoped Ends Nil } ∷ []; main = 4; classes = record { cells = 0 } ∷ record { cells = 1 } ∷ record { cells = 2 } ∷ []; sites = []; texts = (111 ∷ 110 ∷ 101 ∷ 32 ∷ []) ∷ (116 ∷ 119 ∷ 111 ∷ 32 ∷ []) ∷ (101 ∷ 110 ∷ 100 ∷ []) ∷ [] }

two_steps_is : source_of two_steps_text ≡ two_steps_source
unfolding constant_value reaches cells_within shape_within height_within
two_steps_is = refl

abbrev two_steps_first_journal : Journal
two_steps_first_journal =
    begin options ∷ dispatch 0 0 ∷ asking kind.Make 0 0 (cost 0 5) 1 (pos 1) (pos 0) ∷ asking kind.Made 0 0 (cost 0 5) 1 (pos 0) (pos 0) ∷ asking kind.Make 0 0 (cost 1 5) 2 (pos 2) (pos 0) ∷ asking kind.Spawn 0 0 (cost 0 5) 2 (pos 1) (pos 0) ∷ asking kind.Call 0 0 (cost 0 5) 2 (pos 0) (pos 0) ∷ dispatch 0 1 ∷ asking kind.Call 0 1 (cost 1 3) 1 (pos 1) (pos 0) ∷ entry kind.Admit 0 1 0 1 (pos 0) (pos 0) ∷ asking kind.Print 0 1 (cost 0 1) 0 (pos 2) (pos 0) ∷ asking kind.Leave 0 1 (cost 0 3) 1 (pos 0) (pos 0) ∷ asking kind.Print 0 1 (cost 0 3) 0 (pos 0) (pos 1) ∷ asking kind.Print 0 1 (cost 0 3) 0 (pos 1) (pos 32) ∷ asking kind.End 0 1 (cost 0 3) 2 (pos 0) (pos 0) ∷ entry kind.Admit 0 0 0 2 (pos 2) (pos 0) ∷ dispatch 0 0 ∷ asking kind.Gone 0 0 (cost 0 5) 2 (pos 0) (pos 0) ∷ asking kind.Make 0 0 (cost 1 5) 3 (pos 2) (pos 0) ∷ []

abbrev two_steps_first : IsPrefix two_steps_source [] options two_steps_first_journal
unfolding inside held waiting stacked ready running entries_at open_at blocked_at last_call none_running none_ready none_served first_ended all_ticks processor_count cluster_count open_processors processors offers own_object stack_at used object_count task_count is_gone owner is_over tasks_on answer_to pending
two_steps_first =
    let r0 : Runs two_steps_source [] options (begin options ∷ []) (first_world two_steps_source) = begun in
    let r1 = given_to 0 [] r0 refl (0, lit< tt, refl) refl refl refl in
    let r2 = acted_by 0 answer.Go _ (asking kind.Make 0 0 (cost 0 5) 1 (pos 1) (pos 0) ∷ []) r1 refl refl refl refl refl in
    let r3 = acted_by 0 (answer.Object 1) _ (asking kind.Made 0 0 (cost 0 5) 1 (pos 0) (pos 0) ∷ []) r2 refl refl refl refl refl in
    let r4 = acted_by 0 answer.Go _ (asking kind.Make 0 0 (cost 1 5) 2 (pos 2) (pos 0) ∷ []) r3 refl refl refl refl refl in
    let r5 = acted_by 0 (answer.Object 2) _ (asking kind.Spawn 0 0 (cost 0 5) 2 (pos 1) (pos 0) ∷ []) r4 refl refl refl refl refl in
    let r6 = acted_by 0 answer.Go _ (asking kind.Call 0 0 (cost 0 5) 2 (pos 0) (pos 0) ∷ []) r5 refl refl refl refl refl in
    let r7 = given_to 1 [] r6 refl (0, lit< tt, refl) refl refl refl in
    let r8 = acted_by 1 answer.Go _ (asking kind.Call 0 1 (cost 1 3) 1 (pos 1) (pos 0) ∷ entry kind.Admit 0 1 0 1 (pos 0) (pos 0) ∷ []) r7 refl refl refl refl refl in
    let r9 = acted_by 1 answer.Go _ (asking kind.Print 0 1 (cost 0 1) 0 (pos 2) (pos 0) ∷ []) r8 refl refl refl refl refl in
    let r10 = acted_by 1 answer.Go _ (asking kind.Leave 0 1 (cost 0 3) 1 (pos 0) (pos 0) ∷ []) r9 refl refl refl refl refl in
    let r11 = acted_by 1 answer.Go _ (asking kind.Print 0 1 (cost 0 3) 0 (pos 0) (pos 1) ∷ []) r10 refl refl refl refl refl in
    let r12 = acted_by 1 answer.Go _ (asking kind.Print 0 1 (cost 0 3) 0 (pos 1) (pos 32) ∷ []) r11 refl refl refl refl refl in
    let r13 = acted_by 1 answer.Go _ (asking kind.End 0 1 (cost 0 3) 2 (pos 0) (pos 0) ∷ entry kind.Admit 0 0 0 2 (pos 2) (pos 0) ∷ []) r12 refl refl refl refl refl in
    let r14 = given_to 0 [] r13 refl (0, lit< tt, refl) refl refl refl in
    let r15 = acted_by 0 answer.Go _ (asking kind.Gone 0 0 (cost 0 5) 2 (pos 0) (pos 0) ∷ []) r14 refl refl refl refl refl in
    let r16 = acted_by 0 answer.Go _ (asking kind.Make 0 0 (cost 1 5) 3 (pos 2) (pos 0) ∷ []) r15 refl refl refl refl refl in
    record { world = _; runs = r16 }

two_steps_runs : IsRun two_steps_source [] options two_steps_journal
unfolding inside held waiting stacked ready running entries_at open_at blocked_at last_call none_running none_ready none_served first_ended all_ticks processor_count cluster_count open_processors processors offers own_object stack_at used object_count task_count is_gone owner is_over tasks_on answer_to pending
two_steps_runs =
    let r16 : Runs two_steps_source [] options two_steps_first_journal two_steps_first.world = two_steps_first.runs in
    let r17 = acted_by 0 (answer.Object 3) _ (asking kind.Spawn 0 0 (cost 0 5) 3 (pos 2) (pos 0) ∷ []) r16 refl refl refl refl refl in
    let r18 = acted_by 0 answer.Go _ (asking kind.Call 0 0 (cost 0 5) 3 (pos 0) (pos 0) ∷ []) r17 refl refl refl refl refl in
    let r19 = given_to 2 [] r18 refl (0, lit< tt, refl) refl refl refl in
    let r20 = acted_by 2 answer.Go _ (asking kind.Call 0 2 (cost 1 3) 1 (pos 1) (pos 0) ∷ entry kind.Admit 0 2 0 1 (pos 0) (pos 0) ∷ []) r19 refl refl refl refl refl in
    let r21 = acted_by 2 answer.Go _ (asking kind.Print 0 2 (cost 0 1) 0 (pos 2) (pos 1) ∷ []) r20 refl refl refl refl refl in
    let r22 = acted_by 2 answer.Go _ (asking kind.Leave 0 2 (cost 0 3) 1 (pos 0) (pos 0) ∷ []) r21 refl refl refl refl refl in
    let r23 = acted_by 2 answer.Go _ (asking kind.Print 0 2 (cost 0 3) 0 (pos 0) (pos 2) ∷ []) r22 refl refl refl refl refl in
    let r24 = acted_by 2 answer.Go _ (asking kind.Print 0 2 (cost 0 3) 0 (pos 1) (pos 32) ∷ []) r23 refl refl refl refl refl in
    let r25 = acted_by 2 answer.Go _ (asking kind.End 0 2 (cost 0 3) 3 (pos 0) (pos 0) ∷ entry kind.Admit 0 0 0 3 (pos 2) (pos 0) ∷ []) r24 refl refl refl refl refl in
    let r26 = given_to 0 [] r25 refl (0, lit< tt, refl) refl refl refl in
    let r27 = acted_by 0 answer.Go _ (asking kind.Gone 0 0 (cost 0 5) 3 (pos 0) (pos 0) ∷ []) r26 refl refl refl refl refl in
    let r28 = acted_by 0 answer.Go _ (asking kind.Print 0 0 (cost 0 5) 0 (pos 2) (pos 2) ∷ []) r27 refl refl refl refl refl in
    let r29 = acted_by 0 answer.Go _ (asking kind.Print 0 0 (cost 0 5) 0 (pos 1) (pos 10) ∷ []) r28 refl refl refl refl refl in
    let r30 = acted_by 0 answer.Go _ (asking kind.Call 0 0 (cost 0 5) 1 (pos 0) (pos 0) ∷ entry kind.Admit 0 0 0 1 (pos 0) (pos 0) ∷ []) r29 refl refl refl refl refl in
    let r31 = acted_by 0 answer.Go _ (asking kind.Gone 0 0 (cost 0 5) 1 (pos 0) (pos 0) ∷ []) r30 refl refl refl refl refl in
    let r32 = acted_by 0 answer.Go _ (asking kind.End 0 0 (cost 0 5) 0 (pos 0) (pos 0) ∷ entry kind.Done 0 0 0 0 (pos 0) (pos 0) ∷ []) r31 refl refl refl refl refl in
    record { prefix = record { world = _; runs = r32 }; over = refl }

pub two_steps_run : Two_stepsRun
two_steps_run = record { run = subst (λ s. IsRun s [] options two_steps_journal) (sym two_steps_is) two_steps_runs }
