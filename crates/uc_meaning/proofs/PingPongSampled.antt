-- A journal is a run of its program, step by step.
use Rattle.std.proofs.Common.{◌≡◌, false, true, [], ◌∷◌, Some, None, refl, sym, subst, pos, lit<}
use Rattle.uc_tree.specs.declared.kinds.ValueForm.TheVariants as value_form
use Rattle.uc_tree.specs.Constants.{constant_value}
use Rattle.uc_tree.specs.Rows.{reaches, cells_within}
use Rattle.uc_tree.specs.Objects.{shape_within, height_within}
use Rattle.uc_resolve.specs.Resolve.{source_of}
use Rattle.uc_tree.specs.Source.{Bind, Binding, Block, Builder, Built, CallLive, CallOn, CallUnwritten, CoroutineMain, Declare, Destroys, Enliven, Evaluate, Field as FieldIn, Forgets, Get, GetOwn, Last, Less, Literal, Loop, MoreExprs, Nil, NoExprs, OfObject, OfTasks, Operate, OwnField, Add, Print, Procedure, Resume, Scoped, Set, SetUp, Show, ShowText, Source, TakeDown, TaskMain, TestFirst, Then, Unwinds, Variable, Whole}
use Rattle.uc_entry.specs.declared.entry.EntryKind.TheVariants as kind
use Rattle.uc_entry.specs.declared.request.Answer.TheVariants as answer
use Rattle.uc_acts.specs.Journal.{cost, entry, asking, begin, is_over, held, inside, own_object, entries_at}
use Rattle.uc_acts.specs.Queues.{waiting, stacked, ready, running, used, cluster_count, processor_count, processors, open_processors, tasks_on, none_running, none_ready, none_served, first_ended, all_ticks}
use Rattle.uc_acts.specs.Known.{object_count, task_count, is_gone, owner}
use Rattle.uc_acts.specs.Pending.{pending}
use Rattle.uc_acts.specs.Doors.{open_at, blocked_at, last_call, offers, stack_at}
use Rattle.uc_acts.specs.Answers.{answer_to}
use Rattle.uc_acts.specs.Samples.{options}
use Rattle.uc_meaning.specs.Runs.{Runs, IsRun, begun, first_world}
use Rattle.uc_meaning.proofs.ActsSampled.{given_to, acted_by}
use Rattle.uc_meaning.specs.MonitorSamples.{ping_pong_text, ping_pong_journal, Ping_pongRun}

abbrev ping_pong_source : Source
ping_pong_source = record { routines = record { line = 3; cells = 1; params = 1; purpose = Builder; written = true; body = Then (OfTasks (SetUp 5)) (Built Forgets (Then (Evaluate 0 (OfObject (Bind (OfObject (OwnField (FieldIn Binding (FieldIn Binding Last)) 1)) (Get 0)))) (Built Unwinds (Then (Whole 3 Nil) (Then (OfTasks Enliven) Nil))))) } ∷ record { line = 3; cells = 0; params = 0; purpose = Procedure; written = true; body = Then (OfTasks (Resume 3)) Nil } ∷ record { line = 5; cells = 1; params = 0; purpose = CoroutineMain; written = true; body = Then (Block 5 (Then (Declare 5 (record { cell = 0; cells = 1; value = Some (Literal (pos 0)) } ∷ [])) (Then (Loop 5 TestFirst (Operate Less (Get 0) (Literal (pos 3))) (Some (Set 0 (Operate Add (Get 0) (Literal (pos 1))))) (Block 5 (Then (Print 5 (ShowText 0 ∷ [])) (Then (Evaluate 5 (OfObject (CallLive 1 (OfObject (GetOwn (FieldIn Binding (FieldIn Binding Last)) 1)) NoExprs))) Nil)))) Nil))) (Then (Print 6 (ShowText 1 ∷ [])) Nil) } ∷ record { line = 7; cells = 1; params = 1; purpose = Builder; written = true; body = Then (OfTasks (SetUp 2)) (Built Forgets (Then (Evaluate 0 (OfObject (Bind (OfObject (OwnField (FieldIn Binding (FieldIn Binding Last)) 1)) (Get 0)))) (Built Unwinds (Then (Whole 7 Nil) (Then (OfTasks Enliven) Nil))))) } ∷ record { line = 7; cells = 0; params = 0; purpose = Procedure; written = true; body = Then (OfTasks (Resume 7)) Nil } ∷ record { line = 8; cells = 1; params = 0; purpose = CoroutineMain; written = true; body = Then (Block 8 (Then (Declare 8 (record { cell = 0; cells = 1; value = Some (Literal (pos 0)) } ∷ [])) (Then (Loop 8 TestFirst (Operate Less (Get 0) (Literal (pos 3))) (Some (Set 0 (Operate Add (Get 0) (Literal (pos 1))))) (Block 8 (Then (Print 8 (ShowText 2 ∷ [])) (Then (Evaluate 8 (OfObject (CallLive 4 (OfObject (GetOwn (FieldIn Binding (FieldIn Binding Last)) 1)) NoExprs))) Nil)))) Nil))) (Then (Print 9 (ShowText 3 ∷ [])) Nil) } ∷ record { line = 10; cells = 0; params = 0; purpose = Builder; written = true; body = Then (Evaluate 0 (OfObject (CallOn 0 (OfObject (OwnField (FieldIn (FieldIn Binding (FieldIn Binding Last)) (FieldIn (FieldIn Binding (FieldIn Binding Last)) Last)) 0)) (MoreExprs (OfObject (OwnField (FieldIn (FieldIn Binding (FieldIn Binding Last)) (FieldIn (FieldIn Binding (FieldIn Binding Last)) Last)) 1)) NoExprs)))) (Built (Destroys (OfObject (CallUnwritten 10 (OfObject (OwnField (FieldIn (FieldIn Binding (FieldIn Binding Last)) (FieldIn (FieldIn Binding (FieldIn Binding Last)) Last)) 0))))) (Then (Evaluate 0 (OfObject (CallOn 3 (OfObject (OwnField (FieldIn (FieldIn Binding (FieldIn Binding Last)) (FieldIn (FieldIn Binding (FieldIn Binding Last)) Last)) 1)) (MoreExprs (OfObject (OwnField (FieldIn (FieldIn Binding (FieldIn Binding Last)) (FieldIn (FieldIn Binding (FieldIn Binding Last)) Last)) 0)) NoExprs)))) (Built (Destroys (OfObject (CallUnwritten 11 (OfObject (OwnField (FieldIn (FieldIn Binding (FieldIn Binding Last)) (FieldIn (FieldIn Binding (FieldIn Binding Last)) Last)) 1))))) (Then (Whole 10 Nil) Nil)))) } ∷ record { line = 11; cells = 0; params = 0; purpose = Procedure; written = true; body = Then (Evaluate 11 (OfObject (CallLive 1 (OfObject (OwnField (FieldIn (FieldIn Binding (FieldIn Binding Last)) (FieldIn (FieldIn Binding (FieldIn Binding Last)) Last)) 0)) NoExprs))) (Then (Print 11 (ShowText 4 ∷ Show value_form.Character (Literal (pos 10)) ∷ [])) Nil) } ∷ record { line = 12; cells = 4; params = 0; purpose = TaskMain; written = true; body = Then (Declare 12 (record { cell = 0; cells = 4; value = None } ∷ [])) (Then (Evaluate 12 (OfObject (CallOn 6 (Variable 0) NoExprs))) (Scoped (Destroys (OfObject (CallUnwritten 9 (Variable 0)))) (Then (Evaluate 12 (OfObject (CallOn 7 (Variable 0) NoExprs))) Nil))) } ∷ record { line = 0; cells = 0; params = 0; purpose = Builder; written = false; body = Scoped (Destroys (OfObject (CallUnwritten 10 (OfObject (OwnField (FieldIn (FieldIn Binding (FieldIn Binding Last)) (FieldIn (FieldIn Binding (FieldIn Binding Last)) Last)) 0))))) (Scoped (Destroys (OfObject (CallUnwritten 11 (OfObject (OwnField (FieldIn (FieldIn Binding (FieldIn Binding Last)) (FieldIn (FieldIn Binding (FieldIn Binding Last)) Last)) 1))))) Nil) } ∷ record { line = 0; cells = 0; params = 0; purpose = Builder; written = false; body = Scoped Forgets (Then (OfTasks TakeDown) Nil) } ∷ record { line = 0; cells = 0; params = 0; purpose = Builder; written = false; body = Scoped Forgets (Then (OfTasks TakeDown) Nil) } ∷ []; main = 8; classes = record { cells = 0 } ∷ record { cells = 2 } ∷ record { cells = 2 } ∷ record { cells = 4 } ∷ []; sites = []; texts = (112 ∷ 111 ∷ 110 ∷ 103 ∷ 32 ∷ []) ∷ (101 ∷ 110 ∷ 100 ∷ 45 ∷ 112 ∷ 111 ∷ 110 ∷ 103 ∷ 32 ∷ []) ∷ (112 ∷ 105 ∷ 110 ∷ 103 ∷ 32 ∷ []) ∷ (101 ∷ 110 ∷ 100 ∷ 45 ∷ 112 ∷ 105 ∷ 110 ∷ 103 ∷ 32 ∷ []) ∷ (98 ∷ 97 ∷ 99 ∷ 107 ∷ []) ∷ [] }

ping_pong_is : source_of ping_pong_text ≡ ping_pong_source
unfolding constant_value reaches cells_within shape_within height_within
ping_pong_is = refl

ping_pong_runs : IsRun ping_pong_source [] options ping_pong_journal
unfolding inside held waiting stacked ready running entries_at open_at blocked_at last_call none_running none_ready none_served first_ended all_ticks processor_count cluster_count open_processors processors offers own_object stack_at used object_count task_count is_gone owner is_over tasks_on answer_to pending
ping_pong_runs =
    let r0 : Runs ping_pong_source [] options (begin options ∷ []) (first_world ping_pong_source) = begun in
    let r1 = given_to 0 [] r0 refl (0, lit< tt, refl) refl refl refl in
    let r2 = acted_by 0 answer.Go _ (asking kind.Print 0 0 (cost 6 8) 0 (pos 2) (pos 2) ∷ []) r1 refl refl refl refl refl in
    let r3 = acted_by 0 answer.Go _ (asking kind.Print 0 0 (cost 2 5) 0 (pos 2) (pos 0) ∷ []) r2 refl refl refl refl refl in
    let r4 = acted_by 0 answer.Go _ (asking kind.Print 0 0 (cost 2 8) 0 (pos 2) (pos 2) ∷ []) r3 refl refl refl refl refl in
    let r5 = acted_by 0 answer.Go _ (asking kind.Print 0 0 (cost 2 5) 0 (pos 2) (pos 0) ∷ []) r4 refl refl refl refl refl in
    let r6 = acted_by 0 answer.Go _ (asking kind.Print 0 0 (cost 2 8) 0 (pos 2) (pos 2) ∷ []) r5 refl refl refl refl refl in
    let r7 = acted_by 0 answer.Go _ (asking kind.Print 0 0 (cost 2 5) 0 (pos 2) (pos 0) ∷ []) r6 refl refl refl refl refl in
    let r8 = acted_by 0 answer.Go _ (asking kind.Print 0 0 (cost 1 9) 0 (pos 2) (pos 3) ∷ []) r7 refl refl refl refl refl in
    let r9 = acted_by 0 answer.Go _ (asking kind.Print 0 0 (cost 0 11) 0 (pos 2) (pos 4) ∷ []) r8 refl refl refl refl refl in
    let r10 = acted_by 0 answer.Go _ (asking kind.Print 0 0 (cost 0 11) 0 (pos 1) (pos 10) ∷ []) r9 refl refl refl refl refl in
    let r11 = acted_by 0 answer.Go _ (asking kind.End 0 0 (cost 0 12) 0 (pos 0) (pos 0) ∷ entry kind.Done 0 0 0 0 (pos 0) (pos 0) ∷ []) r10 refl refl refl refl refl in
    record { prefix = record { world = _; runs = r11 }; over = refl }

pub ping_pong_run : Ping_pongRun
ping_pong_run = record { run = subst (λ s. IsRun s [] options ping_pong_journal) (sym ping_pong_is) ping_pong_runs }
