-- A journal is a run of its program, step by step.
use Rattle.std.proofs.Common.{◌≡◌, false, true, [], ◌∷◌, Some, None, refl, sym, subst, pos, lit<}
use Rattle.uc_tree.specs.declared.kinds.ValueForm.TheVariants as value_form
use Rattle.uc_tree.specs.Constants.{constant_value}
use Rattle.uc_tree.specs.Rows.{reaches, cells_within}
use Rattle.uc_tree.specs.Objects.{shape_within, height_within}
use Rattle.uc_resolve.specs.Resolve.{source_of}
use Rattle.uc_tree.specs.Source.{Accept, Block, Builder, CallOn, Declare, Destroys, EndOn, Ends, EnterOn, Evaluate, Frees, Get, Leaves, Literal, Load, MakeOn, MoreClauses, Nil, NoClauses, NoExprs, OfObject, OfTasks, Print, Procedure, Scoped, Show, ShowText, Signal, Source, TaskMain, Then, This, Variable, Wait}
use Rattle.uc_entry.specs.declared.entry.EntryKind.TheVariants as kind
use Rattle.uc_entry.specs.declared.request.Answer.TheVariants as answer
use Rattle.uc_acts.specs.Journal.{cost, entry, asking, begin, is_over, held, inside, own_object, entries_at}
use Rattle.uc_acts.specs.Queues.{waiting, stacked, ready, running, used, cluster_count, processor_count, processors, open_processors, tasks_on, none_running, none_ready, none_served, first_ended, all_ticks}
use Rattle.uc_acts.specs.Known.{object_count, task_count, is_gone, owner}
use Rattle.uc_acts.specs.Pending.{pending}
use Rattle.uc_acts.specs.Doors.{open_at, blocked_at, last_call, offers, stack_at}
use Rattle.uc_acts.specs.Answers.{answer_to}
use Rattle.uc_acts.specs.Samples.{options}
use Rattle.uc_meaning.specs.Runs.{Runs, IsRun, begun, first_world}
use Rattle.uc_meaning.proofs.ActsSampled.{given_to, acted_by}
use Rattle.uc_meaning.specs.MonitorSamples.{signalled_text, signalled_journal, SignalledRun}

abbrev signalled_source : Source
signalled_source = record { routines = record { line = 1; cells = 0; params = 0; purpose = TaskMain; written = true; body = Then (OfTasks (Accept 1 0 (MoreClauses (Literal (pos 1)) (Block 1 (Then (Print 1 (ShowText 0 ∷ [])) Nil)) NoClauses))) (Then (Evaluate 1 (OfObject (Signal (Literal (pos 0))))) Nil) } ∷ record { line = 2; cells = 0; params = 0; purpose = Procedure; written = true; body = Then (Evaluate 2 (OfObject (Wait (Literal (pos 0)) (Literal (pos 0))))) (Then (Print 2 (ShowText 1 ∷ [])) Nil) } ∷ record { line = 3; cells = 0; params = 0; purpose = Builder; written = true; body = Scoped Leaves (Then (Block 3 (Then (Evaluate 3 (OfObject (CallOn 1 (OfObject This) NoExprs))) (Then (Print 3 (ShowText 2 ∷ [])) Nil))) Nil) } ∷ record { line = 4; cells = 1; params = 0; purpose = TaskMain; written = true; body = Then (Declare 4 (record { cell = 0; cells = 1; value = None } ∷ [])) (Then (Evaluate 4 (OfObject (MakeOn 1 4 false (Variable 0) NoExprs))) (Scoped (Destroys (OfObject (EndOn 5 false (Load (Variable 0))))) (Then (Evaluate 4 (OfObject (EnterOn 1 2 (Get 0) NoExprs))) (Then (Print 4 (Show value_form.Character (Literal (pos 10)) ∷ [])) Nil)))) } ∷ record { line = 0; cells = 0; params = 0; purpose = Builder; written = false; body = Scoped (Frees (Some 0)) Nil } ∷ record { line = 0; cells = 0; params = 0; purpose = Builder; written = false; body = Scoped Ends Nil } ∷ []; main = 3; classes = record { cells = 0 } ∷ record { cells = 1 } ∷ []; sites = record { class = 1; clauses = (1 ∷ []) ∷ []; has_else = false } ∷ []; texts = (97 ∷ 102 ∷ 116 ∷ 101 ∷ 114 ∷ 32 ∷ []) ∷ (119 ∷ 111 ∷ 107 ∷ 101 ∷ 110 ∷ 32 ∷ []) ∷ (98 ∷ 97 ∷ 99 ∷ 107 ∷ 32 ∷ []) ∷ [] }

signalled_is : source_of signalled_text ≡ signalled_source
unfolding constant_value reaches cells_within shape_within height_within
signalled_is = refl

signalled_runs : IsRun signalled_source [] options signalled_journal
unfolding inside held waiting stacked ready running entries_at open_at blocked_at last_call none_running none_ready none_served first_ended all_ticks processor_count cluster_count open_processors processors offers own_object stack_at used object_count task_count is_gone owner is_over tasks_on answer_to pending
signalled_runs =
    let r0 : Runs signalled_source [] options (begin options ∷ []) (first_world signalled_source) = begun in
    let r1 = given_to 0 [] r0 refl (0, lit< tt, refl) refl refl refl in
    let r2 = acted_by 0 answer.Go _ (asking kind.Make 0 0 (cost 0 4) 1 (pos 1) (pos 0) ∷ []) r1 refl refl refl refl refl in
    let r3 = acted_by 0 (answer.Object 1) _ (asking kind.Spawn 0 0 (cost 0 4) 1 (pos 1) (pos 0) ∷ []) r2 refl refl refl refl refl in
    let r4 = acted_by 0 answer.Go _ (asking kind.Call 0 0 (cost 1 4) 1 (pos 1) (pos 0) ∷ []) r3 refl refl refl refl refl in
    let r5 = given_to 1 [] r4 refl (0, lit< tt, refl) refl refl refl in
    let r6 = acted_by 1 answer.Go _ ((record (asking kind.Accept 0 1 (cost 0 1) 1 (pos 0) (pos 1)) { c = pos 0; d = pos 1 }) ∷ entry kind.Admit 0 0 0 1 (pos 1) (pos 0) ∷ []) r5 refl refl refl refl refl in
    let r7 = given_to 0 [] r6 refl (0, lit< tt, refl) refl refl refl in
    let r8 = acted_by 0 answer.Go _ (asking kind.Wait 0 0 (cost 1 2) 1 (pos 0) (pos 0) ∷ entry kind.Admit 0 1 0 1 (pos 3) (pos 1) ∷ []) r7 refl refl refl refl refl in
    let r9 = given_to 1 [] r8 refl (0, lit< tt, refl) refl refl refl in
    let r10 = acted_by 1 (answer.Clause 1 false) _ (asking kind.Print 0 1 (cost 0 1) 0 (pos 2) (pos 0) ∷ []) r9 refl refl refl refl refl in
    let r11 = acted_by 1 answer.Go _ (asking kind.Signal 0 1 (cost 0 1) 1 (pos 0) (pos 1) ∷ entry kind.Push 0 0 0 1 (pos 0) (pos 0) ∷ []) r10 refl refl refl refl refl in
    let r12 = acted_by 1 answer.Go _ (asking kind.End 0 1 (cost 0 1) 1 (pos 0) (pos 0) ∷ entry kind.Admit 0 0 0 1 (pos 3) (pos 0) ∷ []) r11 refl refl refl refl refl in
    let r13 = given_to 0 [] r12 refl (0, lit< tt, refl) refl refl refl in
    let r14 = acted_by 0 answer.Go _ (asking kind.Print 0 0 (cost 0 2) 0 (pos 2) (pos 1) ∷ []) r13 refl refl refl refl refl in
    let r15 = acted_by 0 answer.Go _ (asking kind.Print 0 0 (cost 0 3) 0 (pos 2) (pos 2) ∷ []) r14 refl refl refl refl refl in
    let r16 = acted_by 0 answer.Go _ (asking kind.Leave 0 0 (cost 0 4) 1 (pos 0) (pos 0) ∷ []) r15 refl refl refl refl refl in
    let r17 = acted_by 0 answer.Go _ (asking kind.Print 0 0 (cost 0 4) 0 (pos 1) (pos 10) ∷ []) r16 refl refl refl refl refl in
    let r18 = acted_by 0 answer.Go _ (asking kind.Call 0 0 (cost 0 4) 1 (pos 0) (pos 0) ∷ entry kind.Admit 0 0 0 1 (pos 0) (pos 0) ∷ []) r17 refl refl refl refl refl in
    let r19 = acted_by 0 answer.Go _ (asking kind.Gone 0 0 (cost 0 4) 1 (pos 0) (pos 0) ∷ []) r18 refl refl refl refl refl in
    let r20 = acted_by 0 answer.Go _ (asking kind.End 0 0 (cost 0 4) 0 (pos 0) (pos 0) ∷ entry kind.Done 0 0 0 0 (pos 0) (pos 0) ∷ []) r19 refl refl refl refl refl in
    record { prefix = record { world = _; runs = r20 }; over = refl }

pub signalled_run : SignalledRun
signalled_run = record { run = subst (λ s. IsRun s [] options signalled_journal) (sym signalled_is) signalled_runs }
