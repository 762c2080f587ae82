-- A journal is a run of its program, in parts: each begins in the world that the last one left.
use Rattle.std.proofs.Common.{◌≡◌, false, true, [], ◌∷◌, Some, None, refl, sym, subst, pos, lit<}
use Rattle.uc_tree.specs.declared.kinds.ValueForm.TheVariants as value_form
use Rattle.uc_tree.specs.Constants.{constant_value}
use Rattle.uc_tree.specs.Rows.{reaches, cells_within}
use Rattle.uc_tree.specs.Objects.{shape_within, height_within}
use Rattle.uc_resolve.specs.Resolve.{source_of}
use Rattle.uc_tree.specs.Source.{Accept, Array, Assign, Block, Break, Builder, Declare, Destroys, Element, EndOn, Ends, EnterOn, Equal, Evaluate, Field as FieldIn, Frees, Get, GetOwn, Integer, Last, Leaves, Literal, Load, Loop, MakeOn, Sub, Rem, MoreClauses, MoreExprs, Nil, NoClauses, NoExprs, NoTest, NotEqual, OfObject, OfTasks, Operate, Owes, OwnField, Add, Print, Return, Scoped, Show, ShowText, Skip, Source, TaskMain, Then, Update, Variable}
use Rattle.uc_entry.specs.declared.entry.EntryKind.TheVariants as kind
use Rattle.uc_entry.specs.declared.request.Answer.TheVariants as answer
use Rattle.uc_acts.specs.Journal.{Journal, cost, entry, asking, begin, is_over, held, inside, own_object, entries_at}
use Rattle.uc_acts.specs.Queues.{waiting, stacked, ready, running, used, cluster_count, processor_count, processors, open_processors, tasks_on, none_running, none_ready, none_served, first_ended, all_ticks}
use Rattle.uc_acts.specs.Known.{object_count, task_count, is_gone, owner}
use Rattle.uc_acts.specs.Pending.{pending}
use Rattle.uc_acts.specs.Doors.{open_at, blocked_at, last_call, offers, stack_at}
use Rattle.uc_acts.specs.Answers.{answer_to}
use Rattle.uc_acts.specs.Acts.{dispatch}
use Rattle.uc_acts.specs.Samples.{options}
use Rattle.uc_meaning.specs.Runs.{Runs, IsPrefix, IsRun, begun, first_world}
use Rattle.uc_meaning.proofs.ActsSampled.{given_to, acted_by}
use Rattle.uc_meaning.specs.MonitorSamples.{guarded_text, guarded_journal, GuardedRun}

abbrev guarded_source : Source
guarded_source = record { routines = record { line = 2; cells = 0; params = 0; purpose = TaskMain; written = true; body = Then (OfTasks (Accept 2 0 (MoreClauses (Operate Equal (OfObject (GetOwn (FieldIn Integer (FieldIn Integer (FieldIn Integer (FieldIn (Array 2 Integer) Last)))) 2)) (Literal (pos 5))) (Block 2 (Then (Print 2 (ShowText 0 ∷ [])) Nil)) NoClauses))) (Then (Print 3 (ShowText 1 ∷ [])) (Then (Block 4 (Then (Skip 4) (Then (Loop 4 NoTest (Literal (pos 1)) None (Block 4 (Then (OfTasks (Accept 4 1 (MoreClauses (Literal (pos 1)) (Block 4 (Then (Break 4) Nil)) (MoreClauses (Operate NotEqual (OfObject (GetOwn (FieldIn Integer (FieldIn Integer (FieldIn Integer (FieldIn (Array 2 Integer) Last)))) 2)) (Literal (pos 2))) (Block 4 Nil) (MoreClauses (Operate NotEqual (OfObject (GetOwn (FieldIn Integer (FieldIn Integer (FieldIn Integer (FieldIn (Array 2 Integer) Last)))) 2)) (Literal (pos 0))) (Block 5 Nil) NoClauses))))) Nil))) Nil))) (Then (Print 6 (ShowText 2 ∷ Show value_form.Character (Literal (pos 10)) ∷ [])) Nil))) } ∷ record { line = 7; cells = 1; params = 1; purpose = Builder; written = true; body = Scoped Leaves (Then (Block 7 (Then (Evaluate 7 (Assign (Element 2 Integer (OfObject (OwnField (FieldIn Integer (FieldIn Integer (FieldIn Integer (FieldIn (Array 2 Integer) Last)))) 3)) (OfObject (GetOwn (FieldIn Integer (FieldIn Integer (FieldIn Integer (FieldIn (Array 2 Integer) Last)))) 1))) (Get 0))) (Then (Evaluate 7 (Assign (OfObject (OwnField (FieldIn Integer (FieldIn Integer (FieldIn Integer (FieldIn (Array 2 Integer) Last)))) 1)) (Operate Rem (Operate Add (OfObject (GetOwn (FieldIn Integer (FieldIn Integer (FieldIn Integer (FieldIn (Array 2 Integer) Last)))) 1)) (Literal (pos 1))) (Literal (pos 2))))) (Then (Evaluate 7 (Update Add Integer (OfObject (OwnField (FieldIn Integer (FieldIn Integer (FieldIn Integer (FieldIn (Array 2 Integer) Last)))) 2)) (Literal (pos 1)))) Nil)))) Nil) } ∷ record { line = 8; cells = 1; params = 0; purpose = Builder; written = true; body = Scoped Leaves (Then (Block 8 (Then (Declare 8 (record { cell = 0; cells = 1; value = Some (Load (Element 2 Integer (OfObject (OwnField (FieldIn Integer (FieldIn Integer (FieldIn Integer (FieldIn (Array 2 Integer) Last)))) 3)) (OfObject (GetOwn (FieldIn Integer (FieldIn Integer (FieldIn Integer (FieldIn (Array 2 Integer) Last)))) 0)))) } ∷ [])) (Then (Evaluate 8 (Assign (OfObject (OwnField (FieldIn Integer (FieldIn Integer (FieldIn Integer (FieldIn (Array 2 Integer) Last)))) 0)) (Operate Rem (Operate Add (OfObject (GetOwn (FieldIn Integer (FieldIn Integer (FieldIn Integer (FieldIn (Array 2 Integer) Last)))) 0)) (Literal (pos 1))) (Literal (pos 2))))) (Then (Evaluate 8 (Update Sub Integer (OfObject (OwnField (FieldIn Integer (FieldIn Integer (FieldIn Integer (FieldIn (Array 2 Integer) Last)))) 2)) (Literal (pos 1)))) (Then (Return 8 (Some (Get 0))) Nil))))) (Then (Owes 8) Nil)) } ∷ record { line = 9; cells = 1; params = 0; purpose = TaskMain; written = true; body = Then (Declare 9 (record { cell = 0; cells = 1; value = None } ∷ [])) (Then (Evaluate 9 (OfObject (MakeOn 1 4 false (Variable 0) NoExprs))) (Scoped (Destroys (OfObject (EndOn 5 false (Load (Variable 0))))) (Then (Evaluate 9 (OfObject (EnterOn 1 1 (Get 0) (MoreExprs (Literal (pos 1)) NoExprs)))) (Then (Evaluate 9 (OfObject (EnterOn 1 1 (Get 0) (MoreExprs (Literal (pos 2)) NoExprs)))) (Then (Print 10 (Show value_form.Number (OfObject (EnterOn 2 2 (Get 0) NoExprs)) ∷ Show value_form.Number (OfObject (EnterOn 2 2 (Get 0) NoExprs)) ∷ Show value_form.Character (Literal (pos 10)) ∷ [])) Nil))))) } ∷ record { line = 0; cells = 0; params = 0; purpose = Builder; written = false; body = Scoped (Frees (Some 0)) Nil } ∷ record { line = 0; cells = 0; params = 0; purpose = Builder; written = false; body = Scoped Ends Nil } ∷ []; main = 3; classes = record { cells = 0 } ∷ record { cells = 5 } ∷ []; sites = record { class = 1; clauses = (1 ∷ []) ∷ []; has_else = false } ∷ record { class = 1; clauses = (0 ∷ []) ∷ (1 ∷ []) ∷ (2 ∷ []) ∷ []; has_else = false } ∷ []; texts = (110 ∷ 101 ∷ 118 ∷ 101 ∷ 114 ∷ []) ∷ (111 ∷ 110 ∷ 32 ∷ []) ∷ (99 ∷ 108 ∷ 111 ∷ 115 ∷ 101 ∷ 100 ∷ []) ∷ [] }

guarded_is : source_of guarded_text ≡ guarded_source
unfolding constant_value reaches cells_within shape_within height_within
guarded_is = refl

abbrev guarded_first_journal : Journal
guarded_first_journal =
    begin options ∷ dispatch 0 0 ∷ asking kind.Make 0 0 (cost 0 9) 1 (pos 1) (pos 0) ∷ asking kind.Spawn 0 0 (cost 0 9) 1 (pos 1) (pos 0) ∷ asking kind.Call 0 0 (cost 1 9) 1 (pos 1) (pos 0) ∷ dispatch 0 1 ∷ asking kind.Print 0 1 (cost 0 3) 0 (pos 2) (pos 1) ∷ (record (asking kind.Accept 0 1 (cost 1 4) 1 (pos 1) (pos 3)) { c = pos 0; d = pos 1 }) ∷ entry kind.Admit 0 0 0 1 (pos 1) (pos 0) ∷ dispatch 0 0 ∷ asking kind.Leave 0 0 (cost 0 9) 1 (pos 0) (pos 0) ∷ entry kind.Admit 0 1 0 1 (pos 3) (pos 2) ∷ asking kind.Call 0 0 (cost 1 9) 1 (pos 1) (pos 0) ∷ dispatch 0 1 ∷ (record (asking kind.Accept 0 1 (cost 1 4) 1 (pos 1) (pos 7)) { c = pos 0; d = pos 1 }) ∷ entry kind.Admit 0 0 0 1 (pos 1) (pos 0) ∷ dispatch 0 0 ∷ asking kind.Leave 0 0 (cost 0 9) 1 (pos 0) (pos 0) ∷ entry kind.Admit 0 1 0 1 (pos 3) (pos 2) ∷ asking kind.Call 0 0 (cost 1 10) 1 (pos 2) (pos 0) ∷ dispatch 0 1 ∷ (record (asking kind.Accept 0 1 (cost 1 4) 1 (pos 1) (pos 5)) { c = pos 0; d = pos 1 }) ∷ entry kind.Admit 0 0 0 1 (pos 1) (pos 0) ∷ dispatch 0 0 ∷ []

abbrev guarded_first : IsPrefix guarded_source [] options guarded_first_journal
unfolding inside held waiting stacked ready running entries_at open_at blocked_at last_call none_running none_ready none_served first_ended all_ticks processor_count cluster_count open_processors processors offers own_object stack_at used object_count task_count is_gone owner is_over tasks_on answer_to pending
guarded_first =
    let r0 : Runs guarded_source [] options (begin options ∷ []) (first_world guarded_source) = begun in
    let r1 = given_to 0 [] r0 refl (0, lit< tt, refl) refl refl refl in
    let r2 = acted_by 0 answer.Go _ (asking kind.Make 0 0 (cost 0 9) 1 (pos 1) (pos 0) ∷ []) r1 refl refl refl refl refl in
    let r3 = acted_by 0 (answer.Object 1) _ (asking kind.Spawn 0 0 (cost 0 9) 1 (pos 1) (pos 0) ∷ []) r2 refl refl refl refl refl in
    let r4 = acted_by 0 answer.Go _ (asking kind.Call 0 0 (cost 1 9) 1 (pos 1) (pos 0) ∷ []) r3 refl refl refl refl refl in
    let r5 = given_to 1 [] r4 refl (0, lit< tt, refl) refl refl refl in
    let r6 = acted_by 1 answer.Go _ (asking kind.Print 0 1 (cost 0 3) 0 (pos 2) (pos 1) ∷ []) r5 refl refl refl refl refl in
    let r7 = acted_by 1 answer.Go _ ((record (asking kind.Accept 0 1 (cost 1 4) 1 (pos 1) (pos 3)) { c = pos 0; d = pos 1 }) ∷ entry kind.Admit 0 0 0 1 (pos 1) (pos 0) ∷ []) r6 refl refl refl refl refl in
    let r8 = given_to 0 [] r7 refl (0, lit< tt, refl) refl refl refl in
    let r9 = acted_by 0 answer.Go _ (asking kind.Leave 0 0 (cost 0 9) 1 (pos 0) (pos 0) ∷ entry kind.Admit 0 1 0 1 (pos 3) (pos 2) ∷ []) r8 refl refl refl refl refl in
    let r10 = acted_by 0 answer.Go _ (asking kind.Call 0 0 (cost 1 9) 1 (pos 1) (pos 0) ∷ []) r9 refl refl refl refl refl in
    let r11 = given_to 1 [] r10 refl (0, lit< tt, refl) refl refl refl in
    let r12 = acted_by 1 (answer.Clause 2 false) _ ((record (asking kind.Accept 0 1 (cost 1 4) 1 (pos 1) (pos 7)) { c = pos 0; d = pos 1 }) ∷ entry kind.Admit 0 0 0 1 (pos 1) (pos 0) ∷ []) r11 refl refl refl refl refl in
    let r13 = given_to 0 [] r12 refl (0, lit< tt, refl) refl refl refl in
    let r14 = acted_by 0 answer.Go _ (asking kind.Leave 0 0 (cost 0 9) 1 (pos 0) (pos 0) ∷ entry kind.Admit 0 1 0 1 (pos 3) (pos 2) ∷ []) r13 refl refl refl refl refl in
    let r15 = acted_by 0 answer.Go _ (asking kind.Call 0 0 (cost 1 10) 1 (pos 2) (pos 0) ∷ []) r14 refl refl refl refl refl in
    let r16 = given_to 1 [] r15 refl (0, lit< tt, refl) refl refl refl in
    let r17 = acted_by 1 (answer.Clause 2 false) _ ((record (asking kind.Accept 0 1 (cost 1 4) 1 (pos 1) (pos 5)) { c = pos 0; d = pos 1 }) ∷ entry kind.Admit 0 0 0 1 (pos 1) (pos 0) ∷ []) r16 refl refl refl refl refl in
    let r18 = given_to 0 [] r17 refl (0, lit< tt, refl) refl refl refl in
    record { world = _; runs = r18 }

guarded_runs : IsRun guarded_source [] options guarded_journal
unfolding inside held waiting stacked ready running entries_at open_at blocked_at last_call none_running none_ready none_served first_ended all_ticks processor_count cluster_count open_processors processors offers own_object stack_at used object_count task_count is_gone owner is_over tasks_on answer_to pending
guarded_runs =
    let r18 : Runs guarded_source [] options guarded_first_journal guarded_first.world = guarded_first.runs in
    let r19 = acted_by 0 answer.Go _ (asking kind.Leave 0 0 (cost 0 10) 1 (pos 0) (pos 0) ∷ entry kind.Admit 0 1 0 1 (pos 3) (pos 3) ∷ []) r18 refl refl refl refl refl in
    let r20 = acted_by 0 answer.Go _ (asking kind.Print 0 0 (cost 0 10) 0 (pos 0) (pos 1) ∷ []) r19 refl refl refl refl refl in
    let r21 = acted_by 0 answer.Go _ (asking kind.Call 0 0 (cost 1 10) 1 (pos 2) (pos 0) ∷ []) r20 refl refl refl refl refl in
    let r22 = given_to 1 [] r21 refl (0, lit< tt, refl) refl refl refl in
    let r23 = acted_by 1 (answer.Clause 3 false) _ ((record (asking kind.Accept 0 1 (cost 1 4) 1 (pos 1) (pos 7)) { c = pos 0; d = pos 1 }) ∷ entry kind.Admit 0 0 0 1 (pos 1) (pos 0) ∷ []) r22 refl refl refl refl refl in
    let r24 = given_to 0 [] r23 refl (0, lit< tt, refl) refl refl refl in
    let r25 = acted_by 0 answer.Go _ (asking kind.Leave 0 0 (cost 0 10) 1 (pos 0) (pos 0) ∷ entry kind.Admit 0 1 0 1 (pos 3) (pos 3) ∷ []) r24 refl refl refl refl refl in
    let r26 = acted_by 0 answer.Go _ (asking kind.Print 0 0 (cost 0 10) 0 (pos 0) (pos 2) ∷ []) r25 refl refl refl refl refl in
    let r27 = acted_by 0 answer.Go _ (asking kind.Print 0 0 (cost 0 10) 0 (pos 1) (pos 10) ∷ []) r26 refl refl refl refl refl in
    let r28 = acted_by 0 answer.Go _ (asking kind.Call 0 0 (cost 0 9) 1 (pos 0) (pos 0) ∷ []) r27 refl refl refl refl refl in
    let r29 = given_to 1 [] r28 refl (0, lit< tt, refl) refl refl refl in
    let r30 = acted_by 1 (answer.Clause 3 false) _ ((record (asking kind.Accept 0 1 (cost 1 4) 1 (pos 1) (pos 3)) { c = pos 0; d = pos 3 }) ∷ entry kind.Push 0 0 0 1 (pos 0) (pos 0) ∷ []) r29 refl refl refl refl refl in
    let r31 = acted_by 1 (answer.Clause 1 false) _ (asking kind.Print 0 1 (cost 0 6) 0 (pos 2) (pos 2) ∷ []) r30 refl refl refl refl refl in
    let r32 = acted_by 1 answer.Go _ (asking kind.Print 0 1 (cost 0 6) 0 (pos 1) (pos 10) ∷ []) r31 refl refl refl refl refl in
    let r33 = acted_by 1 answer.Go _ (asking kind.End 0 1 (cost 0 2) 1 (pos 0) (pos 0) ∷ entry kind.Admit 0 0 0 1 (pos 3) (pos 0) ∷ []) r32 refl refl refl refl refl in
    let r34 = given_to 0 [] r33 refl (0, lit< tt, refl) refl refl refl in
    let r35 = acted_by 0 answer.Go _ (asking kind.Gone 0 0 (cost 0 9) 1 (pos 0) (pos 0) ∷ []) r34 refl refl refl refl refl in
    let r36 = acted_by 0 answer.Go _ (asking kind.End 0 0 (cost 0 9) 0 (pos 0) (pos 0) ∷ entry kind.Done 0 0 0 0 (pos 0) (pos 0) ∷ []) r35 refl refl refl refl refl in
    record { prefix = record { world = _; runs = r36 }; over = refl }

pub guarded_run : GuardedRun
guarded_run = record { run = subst (λ s. IsRun s [] options guarded_journal) (sym guarded_is) guarded_runs }
