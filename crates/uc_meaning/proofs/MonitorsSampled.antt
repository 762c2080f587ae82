-- The journals of sample programs with mutex objects and tasks are runs of them, step by step.
use Rattle.std.proofs.Common.{◌≡◌, false, true, [], ◌∷◌, Some, None, refl, sym, subst, pos, lit<}
use Rattle.uc_tree.specs.declared.kinds.ValueForm.TheVariants as value_form
use Rattle.uc_tree.specs.Constants.{constant_value}
use Rattle.uc_tree.specs.Rows.{reaches, cells_within}
use Rattle.uc_tree.specs.Objects.{shape_within, height_within}
use Rattle.uc_resolve.specs.Resolve.{source_of}
use Rattle.uc_tree.specs.Source.{Integer, Binding, Last, Field as FieldIn, Source, TaskMain, Builder, Add, Literal, Variable, Get, Load, Assign, Operate, OfObject, OwnField, GetOwn, EnterOn, EndOn, Bind, MakeOn, NewCluster, EndCluster, NoExprs, MoreExprs, Show, ShowText, Plainly, Destroys, Leaves, Ends, Frees, Block, Whole, Evaluate, Declare, Print, Return, Owes, OfEvents, OfTasks, Nil, Then, Scoped, Throw, Try, NoHandlers, MoreHandlers, Migrate, Accept, NoClauses, MoreClauses}
use Rattle.uc_entry.specs.declared.entry.EntryKind.TheVariants as kind
use Rattle.uc_entry.specs.declared.request.Answer.TheVariants as answer
use Rattle.uc_acts.specs.Journal.{cost, entry, asking, begin, is_over, held, inside, own_object, entries_at}
use Rattle.uc_acts.specs.Queues.{waiting, stacked, ready, running, used, cluster_count, processor_count, processors, open_processors, tasks_on, none_running, none_ready, none_served, first_ended, all_ticks}
use Rattle.uc_acts.specs.Known.{object_count, task_count, is_gone, owner}
use Rattle.uc_acts.specs.Pending.{pending}
use Rattle.uc_acts.specs.Doors.{open_at, blocked_at, last_call, offers, stack_at}
use Rattle.uc_acts.specs.Answers.{answer_to}
use Rattle.uc_acts.specs.Samples.{options}
use Rattle.uc_meaning.specs.Runs.{Runs, IsRun, begun, first_world}
use Rattle.uc_meaning.proofs.ActsSampled.{given_to, acted_by}
use Rattle.uc_meaning.specs.MonitorSamples.{told_text, told_journal, ToldRun, migrated_text, migrated_journal, MigratedRun, failed_text, failed_journal, FailedRun, bank_text, bank_journal, BankRun}

abbrev told_source : Source
told_source = record { routines = record { line = 1; cells = 0; params = 0; purpose = TaskMain; written = true; body = Then (OfTasks (Accept 1 0 (MoreClauses (Literal (pos 1)) (Block 1 (Then (Print 1 ((ShowText 0) ∷ [])) Nil)) NoClauses))) (Then (Print 1 ((ShowText 1) ∷ [])) Nil) } ∷ record { line = 1; cells = 0; params = 0; purpose = Builder; written = true; body = Scoped Ends (Then (Whole 1 (Then (Print 1 ((ShowText 2) ∷ (Show value_form.Character (Literal (pos 10))) ∷ [])) Nil)) Nil) } ∷ record { line = 2; cells = 1; params = 0; purpose = TaskMain; written = true; body = Then (Declare 2 (record { cell = 0; cells = 1; value = None } ∷ [])) (Then (Evaluate 2 (OfObject (MakeOn 1 3 false (Variable 0) NoExprs))) (Scoped (Destroys (OfObject (EndOn 1 true (Load (Variable 0))))) (Then (Print 2 ((ShowText 3) ∷ [])) Nil))) } ∷ record { line = 0; cells = 0; params = 0; purpose = Builder; written = false; body = Scoped (Frees (Some 0)) Nil } ∷ []; main = 2; classes = record { cells = 0 } ∷ record { cells = 0 } ∷ []; sites = record { class = 1; clauses = (0 ∷ []) ∷ []; has_else = false } ∷ []; texts = (116 ∷ 111 ∷ 108 ∷ 100 ∷ 32 ∷ []) ∷ (114 ∷ 101 ∷ 115 ∷ 116 ∷ 32 ∷ []) ∷ (100 ∷ 101 ∷ 115 ∷ 116 ∷ 114 ∷ 111 ∷ 121 ∷ 101 ∷ 100 ∷ []) ∷ (98 ∷ 108 ∷ 111 ∷ 99 ∷ 107 ∷ 32 ∷ []) ∷ [] }

told_is : source_of told_text ≡ told_source
unfolding constant_value reaches cells_within shape_within height_within
told_is = refl

told_runs : IsRun told_source [] options told_journal
unfolding inside held waiting stacked ready running entries_at open_at blocked_at last_call none_running none_ready none_served first_ended all_ticks processor_count cluster_count open_processors processors offers own_object stack_at used object_count task_count is_gone owner is_over tasks_on answer_to pending
told_runs =
    let r0 : Runs told_source [] options (begin options ∷ []) (first_world told_source) = begun in
    let r1 = given_to 0 [] r0 refl (0, lit< tt, refl) refl refl refl in
    let r2 = acted_by 0 answer.Go _ (asking kind.Make 0 0 (cost 0 2) 1 (pos 1) (pos 0) ∷ []) r1 refl refl refl refl refl in
    let r3 = acted_by 0 (answer.Object 1) _ (asking kind.Spawn 0 0 (cost 0 2) 1 (pos 1) (pos 0) ∷ []) r2 refl refl refl refl refl in
    let r4 = acted_by 0 answer.Go _ (asking kind.Print 0 0 (cost 0 2) 0 (pos 2) (pos 3) ∷ []) r3 refl refl refl refl refl in
    let r5 = acted_by 0 answer.Go _ (asking kind.Call 0 0 (cost 1 2) 1 (pos 0) (pos 0) ∷ []) r4 refl refl refl refl refl in
    let r6 = given_to 1 [] r5 refl (0, lit< tt, refl) refl refl refl in
    let r7 = acted_by 1 answer.Go _ ((record (asking kind.Accept 0 1 (cost 0 1) 1 (pos 0) (pos 1)) { c = pos 0; d = pos 3 }) ∷ entry kind.Push 0 0 0 1 (pos 0) (pos 0) ∷ []) r6 refl refl refl refl refl in
    let r8 = acted_by 1 (answer.Clause 1 false) _ (asking kind.Print 0 1 (cost 0 1) 0 (pos 2) (pos 0) ∷ []) r7 refl refl refl refl refl in
    let r9 = acted_by 1 answer.Go _ (asking kind.Print 0 1 (cost 0 1) 0 (pos 2) (pos 1) ∷ []) r8 refl refl refl refl refl in
    let r10 = acted_by 1 answer.Go _ (asking kind.End 0 1 (cost 0 1) 1 (pos 0) (pos 0) ∷ entry kind.Admit 0 0 0 1 (pos 3) (pos 0) ∷ []) r9 refl refl refl refl refl in
    let r11 = given_to 0 [] r10 refl (0, lit< tt, refl) refl refl refl in
    let r12 = acted_by 0 answer.Go _ (asking kind.Print 0 0 (cost 0 1) 0 (pos 2) (pos 2) ∷ []) r11 refl refl refl refl refl in
    let r13 = acted_by 0 answer.Go _ (asking kind.Print 0 0 (cost 0 1) 0 (pos 1) (pos 10) ∷ []) r12 refl refl refl refl refl in
    let r14 = acted_by 0 answer.Go _ (asking kind.Gone 0 0 (cost 0 2) 1 (pos 0) (pos 0) ∷ []) r13 refl refl refl refl refl in
    let r15 = acted_by 0 answer.Go _ (asking kind.End 0 0 (cost 0 2) 0 (pos 0) (pos 0) ∷ entry kind.Done 0 0 0 0 (pos 0) (pos 0) ∷ []) r14 refl refl refl refl refl in
    record { prefix = record { world = _; runs = r15 }; over = refl }

pub told_run : ToldRun
told_run = record { run = subst (λ s. IsRun s [] options told_journal) (sym told_is) told_runs }

abbrev migrated_source : Source
migrated_source = record { routines = record { line = 1; cells = 1; params = 0; purpose = TaskMain; written = true; body = Then (Print 1 ((ShowText 0) ∷ [])) (Then (Declare 1 (record { cell = 0; cells = 1; value = None } ∷ [])) (Then (Evaluate 1 (OfObject (Bind (Variable 0) (OfObject NewCluster)))) (Scoped (Destroys (OfObject (EndCluster (Load (Variable 0))))) (Then (OfTasks (Migrate 1 (Get 0))) (Then (Print 1 ((ShowText 1) ∷ [])) Nil))))) } ∷ []; main = 0; classes = record { cells = 0 } ∷ []; sites = []; texts = (97 ∷ []) ∷ (98 ∷ []) ∷ [] }

migrated_is : source_of migrated_text ≡ migrated_source
unfolding constant_value reaches cells_within shape_within height_within
migrated_is = refl

migrated_runs : IsRun migrated_source [] options migrated_journal
unfolding inside held waiting stacked ready running entries_at open_at blocked_at last_call none_running none_ready none_served first_ended all_ticks processor_count cluster_count open_processors processors offers own_object stack_at used object_count task_count is_gone owner is_over tasks_on answer_to pending
migrated_runs =
    let r0 : Runs migrated_source [] options (begin options ∷ []) (first_world migrated_source) = begun in
    let r1 = given_to 0 [] r0 refl (0, lit< tt, refl) refl refl refl in
    let r2 = acted_by 0 answer.Go _ (asking kind.Print 0 0 (cost 0 1) 0 (pos 2) (pos 0) ∷ []) r1 refl refl refl refl refl in
    let r3 = acted_by 0 answer.Go _ (asking kind.Cluster 0 0 (cost 0 1) 0 (pos 1) (pos 0) ∷ []) r2 refl refl refl refl refl in
    let r4 = acted_by 0 (answer.Object 1) _ (asking kind.Migrate 0 0 (cost 0 1) 0 (pos 1) (pos 0) ∷ entry kind.NoProcessor 0 0 0 0 (pos 0) (pos 0) ∷ []) r3 refl refl refl refl refl in
    record { prefix = record { world = _; runs = r4 }; over = refl }

pub migrated_run : MigratedRun
migrated_run = record { run = subst (λ s. IsRun s [] options migrated_journal) (sym migrated_is) migrated_runs }

abbrev failed_source : Source
failed_source = record { routines = record { line = 2; cells = 3; params = 0; purpose = TaskMain; written = true; body = Then (OfEvents (Try 2 (Then (Block 2 (Then (OfTasks (Accept 2 0 (MoreClauses (Literal (pos 1)) (Block 2 (Then (Print 2 ((Show value_form.Character (Literal (pos 110))) ∷ [])) Nil)) NoClauses))) Nil)) Nil) (MoreHandlers true (Some 1) 0 2 (Then (Print 2 ((Show value_form.Character (Literal (pos 102))) ∷ [])) Nil) NoHandlers))) Nil } ∷ record { line = 3; cells = 2; params = 0; purpose = Builder; written = true; body = Scoped Leaves (Then (Block 3 (Then (OfEvents (Throw 3 (Plainly 2))) Nil)) Nil) } ∷ record { line = 4; cells = 4; params = 0; purpose = TaskMain; written = true; body = Then (Declare 4 (record { cell = 0; cells = 1; value = None } ∷ [])) (Then (Evaluate 4 (OfObject (MakeOn 1 3 false (Variable 0) NoExprs))) (Scoped (Destroys (OfObject (EndOn 4 false (Load (Variable 0))))) (Then (OfEvents (Try 4 (Then (Block 4 (Then (Evaluate 4 (OfObject (EnterOn 1 1 (Get 0) NoExprs))) Nil)) Nil) (MoreHandlers false (Some 2) 1 4 (Then (Print 4 ((Show value_form.Character (Literal (pos 99))) ∷ [])) Nil) NoHandlers))) Nil))) } ∷ record { line = 0; cells = 0; params = 0; purpose = Builder; written = false; body = Scoped (Frees (Some 0)) Nil } ∷ record { line = 0; cells = 0; params = 0; purpose = Builder; written = false; body = Scoped Ends Nil } ∷ []; main = 2; classes = record { cells = 0 } ∷ record { cells = 0 } ∷ []; sites = record { class = 1; clauses = (1 ∷ []) ∷ []; has_else = false } ∷ []; texts = [] }

failed_is : source_of failed_text ≡ failed_source
unfolding constant_value reaches cells_within shape_within height_within
failed_is = refl

failed_runs : IsRun failed_source [] options failed_journal
unfolding inside held waiting stacked ready running entries_at open_at blocked_at last_call none_running none_ready none_served first_ended all_ticks processor_count cluster_count open_processors processors offers own_object stack_at used object_count task_count is_gone owner is_over tasks_on answer_to pending
failed_runs =
    let r0 : Runs failed_source [] options (begin options ∷ []) (first_world failed_source) = begun in
    let r1 = given_to 0 [] r0 refl (0, lit< tt, refl) refl refl refl in
    let r2 = acted_by 0 answer.Go _ (asking kind.Make 0 0 (cost 0 4) 1 (pos 1) (pos 0) ∷ []) r1 refl refl refl refl refl in
    let r3 = acted_by 0 (answer.Object 1) _ (asking kind.Spawn 0 0 (cost 0 4) 1 (pos 1) (pos 0) ∷ []) r2 refl refl refl refl refl in
    let r4 = acted_by 0 answer.Go _ (asking kind.Call 0 0 (cost 1 4) 1 (pos 1) (pos 0) ∷ []) r3 refl refl refl refl refl in
    let r5 = given_to 1 [] r4 refl (0, lit< tt, refl) refl refl refl in
    let r6 = acted_by 1 answer.Go _ ((record (asking kind.Accept 0 1 (cost 0 2) 1 (pos 0) (pos 1)) { c = pos 0; d = pos 1 }) ∷ entry kind.Admit 0 0 0 1 (pos 1) (pos 0) ∷ []) r5 refl refl refl refl refl in
    let r7 = given_to 0 [] r6 refl (0, lit< tt, refl) refl refl refl in
    let r8 = acted_by 0 answer.Go _ (asking kind.Leave 0 0 (cost 0 4) 1 (pos 1) (pos 0) ∷ (record (entry kind.Admit 0 1 0 1 (pos 3) (pos 1)) { c = pos 1; d = pos 0 }) ∷ []) r7 refl refl refl refl refl in
    let r9 = acted_by 0 answer.Go _ (asking kind.Print 0 0 (cost 0 4) 0 (pos 1) (pos 99) ∷ []) r8 refl refl refl refl refl in
    let r10 = acted_by 0 answer.Go _ (asking kind.Call 0 0 (cost 0 4) 1 (pos 0) (pos 0) ∷ []) r9 refl refl refl refl refl in
    let r11 = given_to 1 [] r10 refl (0, lit< tt, refl) refl refl refl in
    let r12 = acted_by 1 (answer.Clause 1 true) _ (asking kind.Print 0 1 (cost 0 2) 0 (pos 1) (pos 102) ∷ []) r11 refl refl refl refl refl in
    let r13 = acted_by 1 answer.Go _ (asking kind.Print 0 1 (cost 0 2) 0 (pos 1) (pos 110) ∷ []) r12 refl refl refl refl refl in
    let r14 = acted_by 1 answer.Go _ (asking kind.End 0 1 (cost 0 2) 1 (pos 0) (pos 0) ∷ entry kind.Admit 0 0 0 1 (pos 2) (pos 0) ∷ []) r13 refl refl refl refl refl in
    let r15 = given_to 0 [] r14 refl (0, lit< tt, refl) refl refl refl in
    let r16 = acted_by 0 answer.Go _ (asking kind.Gone 0 0 (cost 0 4) 1 (pos 0) (pos 0) ∷ []) r15 refl refl refl refl refl in
    let r17 = acted_by 0 answer.Go _ (asking kind.End 0 0 (cost 0 4) 0 (pos 0) (pos 0) ∷ entry kind.Done 0 0 0 0 (pos 0) (pos 0) ∷ []) r16 refl refl refl refl refl in
    record { prefix = record { world = _; runs = r17 }; over = refl }

pub failed_run : FailedRun
failed_run = record { run = subst (λ s. IsRun s [] options failed_journal) (sym failed_is) failed_runs }

abbrev bank_source : Source
bank_source = record { routines = record { line = 1; cells = 1; params = 1; purpose = Builder; written = true; body = Scoped Leaves (Then (Block 1 (Then (Evaluate 1 (Assign (OfObject (OwnField (FieldIn Integer Last) 0)) (Operate Add (OfObject (GetOwn (FieldIn Integer Last) 0)) (Get 0)))) Nil)) Nil) } ∷ record { line = 1; cells = 0; params = 0; purpose = Builder; written = true; body = Scoped Leaves (Then (Block 1 (Then (Return 1 (Some (OfObject (GetOwn (FieldIn Integer Last) 0)))) Nil)) (Then (Owes 1) Nil)) } ∷ record { line = 2; cells = 0; params = 0; purpose = TaskMain; written = true; body = Then (Evaluate 2 (OfObject (EnterOn 1 0 (OfObject (GetOwn (FieldIn Binding Last) 0)) (MoreExprs (Literal (pos 2)) NoExprs)))) Nil } ∷ record { line = 2; cells = 1; params = 1; purpose = Builder; written = true; body = Scoped (Frees (Some 2)) (Then (Evaluate 0 (OfObject (Bind (OfObject (OwnField (FieldIn Binding Last) 0)) (Get 0)))) (Then (Whole 2 Nil) Nil)) } ∷ record { line = 3; cells = 2; params = 0; purpose = TaskMain; written = true; body = Then (Declare 3 (record { cell = 0; cells = 1; value = None } ∷ [])) (Then (Evaluate 3 (OfObject (MakeOn 1 5 false (Variable 0) NoExprs))) (Scoped (Destroys (OfObject (EndOn 6 false (Load (Variable 0))))) (Then (Block 3 (Then (Declare 3 (record { cell = 1; cells = 1; value = None } ∷ [])) (Then (Evaluate 3 (OfObject (MakeOn 2 3 true (Variable 1) (MoreExprs (Get 0) NoExprs)))) (Scoped (Destroys (OfObject (EndOn 7 false (Load (Variable 1))))) (Then (Evaluate 3 (OfObject (EnterOn 1 0 (Get 0) (MoreExprs (Literal (pos 1)) NoExprs)))) Nil))))) (Then (Print 3 ((Show value_form.Number (OfObject (EnterOn 2 1 (Get 0) NoExprs))) ∷ [])) Nil)))) } ∷ record { line = 0; cells = 0; params = 0; purpose = Builder; written = false; body = Scoped (Frees None) Nil } ∷ record { line = 0; cells = 0; params = 0; purpose = Builder; written = false; body = Scoped Ends Nil } ∷ record { line = 0; cells = 0; params = 0; purpose = Builder; written = false; body = Scoped Ends Nil } ∷ []; main = 4; classes = record { cells = 0 } ∷ record { cells = 1 } ∷ record { cells = 1 } ∷ []; sites = []; texts = [] }

bank_is : source_of bank_text ≡ bank_source
unfolding constant_value reaches cells_within shape_within height_within
bank_is = refl

bank_runs : IsRun bank_source [] options bank_journal
unfolding inside held waiting stacked ready running entries_at open_at blocked_at last_call none_running none_ready none_served first_ended all_ticks processor_count cluster_count open_processors processors offers own_object stack_at used object_count task_count is_gone owner is_over tasks_on answer_to pending
bank_runs =
    let r0 : Runs bank_source [] options (begin options ∷ []) (first_world bank_source) = begun in
    let r1 = given_to 0 [] r0 refl (0, lit< tt, refl) refl refl refl in
    let r2 = acted_by 0 answer.Go _ (asking kind.Make 0 0 (cost 0 3) 1 (pos 1) (pos 0) ∷ []) r1 refl refl refl refl refl in
    let r3 = acted_by 0 (answer.Object 1) _ (asking kind.Made 0 0 (cost 0 3) 1 (pos 0) (pos 0) ∷ []) r2 refl refl refl refl refl in
    let r4 = acted_by 0 answer.Go _ (asking kind.Make 0 0 (cost 1 3) 2 (pos 2) (pos 0) ∷ []) r3 refl refl refl refl refl in
    let r5 = acted_by 0 (answer.Object 2) _ (asking kind.Spawn 0 0 (cost 0 3) 2 (pos 1) (pos 0) ∷ []) r4 refl refl refl refl refl in
    let r6 = acted_by 0 answer.Go _ (asking kind.Call 0 0 (cost 1 3) 1 (pos 1) (pos 0) ∷ entry kind.Admit 0 0 0 1 (pos 0) (pos 0) ∷ []) r5 refl refl refl refl refl in
    let r7 = acted_by 0 answer.Go _ (asking kind.Leave 0 0 (cost 0 3) 1 (pos 0) (pos 0) ∷ []) r6 refl refl refl refl refl in
    let r8 = acted_by 0 answer.Go _ (asking kind.Call 0 0 (cost 0 3) 2 (pos 0) (pos 0) ∷ []) r7 refl refl refl refl refl in
    let r9 = given_to 1 [] r8 refl (0, lit< tt, refl) refl refl refl in
    let r10 = acted_by 1 answer.Go _ (asking kind.Call 0 1 (cost 1 2) 1 (pos 1) (pos 0) ∷ entry kind.Admit 0 1 0 1 (pos 0) (pos 0) ∷ []) r9 refl refl refl refl refl in
    let r11 = acted_by 1 answer.Go _ (asking kind.Leave 0 1 (cost 0 2) 1 (pos 0) (pos 0) ∷ []) r10 refl refl refl refl refl in
    let r12 = acted_by 1 answer.Go _ (asking kind.End 0 1 (cost 0 2) 2 (pos 0) (pos 0) ∷ entry kind.Admit 0 0 0 2 (pos 2) (pos 0) ∷ []) r11 refl refl refl refl refl in
    let r13 = given_to 0 [] r12 refl (0, lit< tt, refl) refl refl refl in
    let r14 = acted_by 0 answer.Go _ (asking kind.Gone 0 0 (cost 0 3) 2 (pos 0) (pos 0) ∷ []) r13 refl refl refl refl refl in
    let r15 = acted_by 0 answer.Go _ (asking kind.Call 0 0 (cost 1 3) 1 (pos 2) (pos 0) ∷ entry kind.Admit 0 0 0 1 (pos 0) (pos 0) ∷ []) r14 refl refl refl refl refl in
    let r16 = acted_by 0 answer.Go _ (asking kind.Leave 0 0 (cost 0 3) 1 (pos 0) (pos 0) ∷ []) r15 refl refl refl refl refl in
    let r17 = acted_by 0 answer.Go _ (asking kind.Print 0 0 (cost 0 3) 0 (pos 0) (pos 3) ∷ []) r16 refl refl refl refl refl in
    let r18 = acted_by 0 answer.Go _ (asking kind.Call 0 0 (cost 0 3) 1 (pos 0) (pos 0) ∷ entry kind.Admit 0 0 0 1 (pos 0) (pos 0) ∷ []) r17 refl refl refl refl refl in
    let r19 = acted_by 0 answer.Go _ (asking kind.Gone 0 0 (cost 0 3) 1 (pos 0) (pos 0) ∷ []) r18 refl refl refl refl refl in
    let r20 = acted_by 0 answer.Go _ (asking kind.End 0 0 (cost 0 3) 0 (pos 0) (pos 0) ∷ entry kind.Done 0 0 0 0 (pos 0) (pos 0) ∷ []) r19 refl refl refl refl refl in
    record { prefix = record { world = _; runs = r20 }; over = refl }

pub bank_run : BankRun
bank_run = record { run = subst (λ s. IsRun s [] options bank_journal) (sym bank_is) bank_runs }
