-- The journals of sample programs with coroutines are runs of them, step by step.
use Rattle.std.proofs.Common.{◌≡◌, ℕ, false, true, [], ◌∷◌, Some, None, refl, sym, subst, pos, lit<}
use Rattle.uc_tree.specs.declared.kinds.ValueForm.TheVariants as value_form
use Rattle.uc_tree.specs.Constants.{constant_value}
use Rattle.uc_tree.specs.Rows.{reaches, cells_within}
use Rattle.uc_tree.specs.Objects.{shape_within, height_within}
use Rattle.uc_resolve.specs.Resolve.{source_of}
use Rattle.uc_tree.specs.Source.{Shape, Integer, Binding, Last, Field as FieldIn, Source, Builder, TaskMain, CoroutineMain, Procedure, Function, NoTest, Add, Mul, Expr, Literal, Variable, Get, Assign, Operate, OfObject, OwnField, GetOwn, Bind, CallOn, CallUnwritten, CallLive, NoExprs, MoreExprs, Show, Destroys, Unwinds, Forgets, Skip, Block, Whole, Evaluate, Declare, Print, Loop, Return, OfEvents, Plainly, Throw, Try, NoHandlers, MoreHandlers, OfTasks, Resume, Suspend, SetUp, Enliven, TakeDown, Stmts, Nil, Then, Scoped, Built, Routine}
use Rattle.uc_entry.specs.declared.request.Answer.TheVariants as answer
use Rattle.uc_entry.specs.declared.entry.EntryKind.TheVariants as kind
use Rattle.uc_acts.specs.Journal.{entry, begin, is_over, inside, own_object, entries_at}
use Rattle.uc_acts.specs.Queues.{waiting, stacked, ready, running, used, cluster_count, processor_count, processors, open_processors, tasks_on, none_running, none_ready, none_served, first_ended, all_ticks}
use Rattle.uc_acts.specs.Known.{object_count, task_count, is_gone, owner}
use Rattle.uc_acts.specs.Doors.{open_at, blocked_at, last_call, offers, stack_at}
use Rattle.uc_acts.specs.Journal.{held}
use Rattle.uc_acts.specs.Answers.{answer_to}
use Rattle.uc_meaning.specs.SamplePrograms.{in_line}
use Rattle.uc_meaning.specs.Runs.{Runs, IsRun, begun, first_world}
use Rattle.uc_acts.specs.Samples.{options}
use Rattle.uc_meaning.specs.CoroutineSamples.{switched_text, switched_journal, SwitchedRun, destroyed_text, destroyed_journal, DestroyedRun, ended_text, ended_journal, EndedRun, left_text, left_journal, LeftRun}
use Rattle.uc_meaning.proofs.RunsSampled.{given, acted, printed, the_end}
use Rattle.uc_meaning.proofs.ObjectsSampled.{call_at, in_plain}

-- a coroutine with one field behind its execution
abbrev with_field : Shape → Shape
with_field s = FieldIn Binding (FieldIn s Last)

-- the main of a coroutine, without variables
abbrev coroutine_main : ℕ → ℕ → Stmts → Routine
coroutine_main line cells body = record { line = line; cells = cells; params = 0; purpose = CoroutineMain; written = true; body = body }

-- `void go() { resume(); }`
abbrev going_on : ℕ → Routine
going_on line = record { line = line; cells = 0; params = 0; purpose = Procedure; written = true; body = Then (OfTasks (Resume line)) Nil }

-- such a call, as a statement before others
abbrev go_then : ℕ → ℕ → Expr → Stmts → Stmts
go_then line r place rest = Then (Evaluate line (OfObject (CallLive r place NoExprs))) rest

-- what builds and what destroys a coroutine whose main has this number, where nobody wrote them
abbrev builds : ℕ → Routine
builds main = record { line = 0; cells = 0; params = 0; purpose = Builder; written = false; body = Then (OfTasks (SetUp main)) (Built Forgets (Built Unwinds (Then (OfTasks Enliven) Nil))) }

abbrev destroys : Routine
destroys = record { line = 0; cells = 0; params = 0; purpose = Builder; written = false; body = Scoped Forgets (Then (OfTasks TakeDown) Nil) }

-- what nobody wrote, of a class without fields
abbrev nothing_built : Routine
nothing_built = record { line = 0; cells = 0; params = 0; purpose = Builder; written = false; body = Nil }

-- an object in one cell or in none, built and destroyed by these routines that nobody wrote
abbrev in_scope : ℕ → ℕ → ℕ → ℕ → ℕ → Stmts → Stmts
in_scope line cell cells b d rest =
    Then (Declare line (record { cell = cell; cells = cells; value = None } ∷ [])) (Then (Evaluate line (OfObject (CallUnwritten b (Variable cell)))) (Scoped (Destroys (OfObject (CallUnwritten d (Variable cell)))) rest))

abbrev prints_one : ℕ → ℕ → Stmts → Stmts
prints_one line byte rest = Then (Print line (Show value_form.Character (Literal (pos byte)) ∷ [])) rest

abbrev switched_source : Source
switched_source = record {
  routines = coroutine_main 1 0 (Then (Block 1 (Then (Skip 1) (Then (Loop 1 NoTest (Literal (pos 1)) None (Block 1 (Then (Evaluate 1 (Assign (OfObject (OwnField (with_field Integer) 1)) (Operate Add (OfObject (GetOwn (with_field Integer) 1)) (Literal (pos 1))))) (Then (OfTasks (Suspend 1)) Nil)))) Nil))) Nil) ∷ (record { line = 1; cells = 0; params = 0; purpose = Function; written = true; body = Then (OfTasks (Resume 1)) (Then (Return 1 (Some (OfObject (GetOwn (with_field Integer) 1)))) Nil) } ∷ (record { line = 2; cells = 2; params = 0; purpose = TaskMain; written = true; body = in_scope 2 0 2 3 4 (Then (Print 2 (Show value_form.Number (Operate Add (Operate Mul (OfObject (CallLive 1 (Variable 0) NoExprs)) (Literal (pos 10))) (OfObject (CallLive 1 (Variable 0) NoExprs))) ∷ [])) Nil) } ∷ (builds 0 ∷ (destroys ∷ []))));
  main = 2;
  classes = record { cells = 0 } ∷ (record { cells = 2 } ∷ []);
  sites = [];
  texts = [];
}

switched_is : source_of switched_text ≡ switched_source
unfolding constant_value reaches cells_within shape_within height_within
switched_is = refl

switched_runs : IsRun switched_source [] options switched_journal
unfolding inside held waiting stacked ready running entries_at open_at blocked_at last_call none_running none_ready none_served first_ended all_ticks processor_count cluster_count open_processors processors offers own_object stack_at used object_count task_count is_gone owner is_over tasks_on answer_to
switched_runs =
    let r0 : Runs switched_source [] options (begin options ∷ []) (first_world switched_source) = begun in
    let r1 = given r0 refl (0, lit< tt, refl) refl refl refl in
    let r2 = acted answer.Go _ (printed 2 4 0 12) r1 refl refl refl refl refl in
    let r3 = acted answer.Go _ (the_end 2) r2 refl refl refl refl refl in
    record { prefix = record { world = _; runs = r3 }; over = refl }

pub switched_run : SwitchedRun
switched_run = record { run = subst (λ s. IsRun s [] options switched_journal) (sym switched_is) switched_runs }

abbrev destroyed_source : Source
destroyed_source = record {
  routines = record { line = 1; cells = 0; params = 0; purpose = Builder; written = true; body = Then (Whole 1 (prints_one 1 45 Nil)) Nil } ∷ (coroutine_main 2 3 (Then (OfEvents (Try 2 (in_plain 2 (Then (Declare 2 (record { cell = 0; cells = 0; value = None } ∷ [])) (Then (Evaluate 2 (OfObject (CallUnwritten 4 (Variable 0)))) (Scoped (Destroys (call_at 0 (Variable 0))) (Then (OfTasks (Suspend 2)) Nil))))) (MoreHandlers false None 0 2 (prints_one 2 43 Nil) NoHandlers))) Nil) ∷ (going_on 2 ∷ (record { line = 3; cells = 1; params = 0; purpose = TaskMain; written = true; body = Then (Block 3 (in_scope 3 0 1 5 6 (go_then 3 2 (Variable 0) Nil))) (prints_one 3 46 Nil) } ∷ (nothing_built ∷ (builds 1 ∷ (destroys ∷ []))))));
  main = 3;
  classes = record { cells = 0 } ∷ (record { cells = 0 } ∷ (record { cells = 1 } ∷ []));
  sites = [];
  texts = [];
}

destroyed_is : source_of destroyed_text ≡ destroyed_source
unfolding constant_value reaches cells_within shape_within height_within
destroyed_is = refl

destroyed_runs : IsRun destroyed_source [] options destroyed_journal
unfolding inside held waiting stacked ready running entries_at open_at blocked_at last_call none_running none_ready none_served first_ended all_ticks processor_count cluster_count open_processors processors offers own_object stack_at used object_count task_count is_gone owner is_over tasks_on answer_to
destroyed_runs =
    let r0 : Runs destroyed_source [] options (begin options ∷ []) (first_world destroyed_source) = begun in
    let r1 = given r0 refl (0, lit< tt, refl) refl refl refl in
    let r2 = acted answer.Go _ (printed 1 2 1 45) r1 refl refl refl refl refl in
    let r3 = acted answer.Go _ (printed 3 0 1 46) r2 refl refl refl refl refl in
    let r4 = acted answer.Go _ (the_end 3) r3 refl refl refl refl refl in
    record { prefix = record { world = _; runs = r4 }; over = refl }

pub destroyed_run : DestroyedRun
destroyed_run = record { run = subst (λ s. IsRun s [] options destroyed_journal) (sym destroyed_is) destroyed_runs }

abbrev ended_source : Source
ended_source = record {
  routines = coroutine_main 1 0 (Then (OfTasks (Suspend 1)) (prints_one 1 106 (Then (OfTasks (Suspend 1)) Nil))) ∷ (going_on 1 ∷ (coroutine_main 2 0 (go_then 2 1 (OfObject (GetOwn (with_field Binding) 1)) (Then (OfTasks (Suspend 2)) (prints_one 2 98 Nil))) ∷ (record { line = 2; cells = 1; params = 1; purpose = Builder; written = true; body = Then (OfTasks (SetUp 2)) (Built Forgets (Then (Evaluate 0 (OfObject (Bind (OfObject (OwnField (with_field Binding) 1)) (Get 0)))) (Built Unwinds (Then (Whole 2 Nil) (Then (OfTasks Enliven) Nil))))) } ∷ (going_on 2 ∷ (record { line = 3; cells = 3; params = 0; purpose = TaskMain; written = true; body = in_scope 3 0 1 6 7 (Then (Declare 3 (record { cell = 1; cells = 2; value = None } ∷ [])) (Then (Evaluate 3 (OfObject (CallOn 3 (Variable 1) (MoreExprs (Variable 0) NoExprs)))) (Scoped (Destroys (OfObject (CallUnwritten 8 (Variable 1)))) (go_then 3 4 (Variable 1) (go_then 3 1 (Variable 0) (go_then 3 1 (Variable 0) (prints_one 3 46 Nil))))))) } ∷ (builds 0 ∷ (destroys ∷ (destroys ∷ []))))))));
  main = 5;
  classes = record { cells = 0 } ∷ (record { cells = 1 } ∷ (record { cells = 2 } ∷ []));
  sites = [];
  texts = [];
}

ended_is : source_of ended_text ≡ ended_source
unfolding constant_value reaches cells_within shape_within height_within
ended_is = refl

ended_runs : IsRun ended_source [] options ended_journal
unfolding inside held waiting stacked ready running entries_at open_at blocked_at last_call none_running none_ready none_served first_ended all_ticks processor_count cluster_count open_processors processors offers own_object stack_at used object_count task_count is_gone owner is_over tasks_on answer_to
ended_runs =
    let r0 : Runs ended_source [] options (begin options ∷ []) (first_world ended_source) = begun in
    let r1 = given r0 refl (0, lit< tt, refl) refl refl refl in
    let r2 = acted answer.Go _ (printed 1 4 1 106) r1 refl refl refl refl refl in
    let r3 = acted answer.Go _ (printed 2 1 1 98) r2 refl refl refl refl refl in
    let r4 = acted answer.Go _ (printed 3 0 1 46) r3 refl refl refl refl refl in
    let r5 = acted answer.Go _ (the_end 3) r4 refl refl refl refl refl in
    record { prefix = record { world = _; runs = r5 }; over = refl }

pub ended_run : EndedRun
ended_run = record { run = subst (λ s. IsRun s [] options ended_journal) (sym ended_is) ended_runs }

abbrev left_source : Source
left_source = record {
  routines = coroutine_main 2 2 (Then (OfEvents (Throw 2 (Plainly 2))) Nil) ∷ (going_on 2 ∷ (record { line = 3; cells = 4; params = 0; purpose = TaskMain; written = true; body = in_scope 3 0 1 3 4 (Then (OfEvents (Try 3 (in_plain 3 (go_then 3 1 (Variable 0) Nil)) (MoreHandlers false (Some 0) 1 3 (prints_one 3 117 Nil) NoHandlers))) (go_then 3 1 (Variable 0) Nil)) } ∷ (builds 0 ∷ (destroys ∷ []))));
  main = 2;
  classes = record { cells = 0 } ∷ (record { cells = 1 } ∷ []);
  sites = [];
  texts = [];
}

left_is : source_of left_text ≡ left_source
unfolding constant_value reaches cells_within shape_within height_within
left_is = refl

left_runs : IsRun left_source [] options left_journal
unfolding inside held waiting stacked ready running entries_at open_at blocked_at last_call none_running none_ready none_served first_ended all_ticks processor_count cluster_count open_processors processors offers own_object stack_at used object_count task_count is_gone owner is_over tasks_on answer_to
left_runs =
    let r0 : Runs left_source [] options (begin options ∷ []) (first_world left_source) = begun in
    let r1 = given r0 refl (0, lit< tt, refl) refl refl refl in
    let r2 = acted answer.Go _ (printed 3 1 1 117) r1 refl refl refl refl refl in
    let r3 = acted answer.Go _ (in_line 2 (entry kind.Fault 0 0 1 0 (pos 5) (pos 2)) ∷ []) r2 refl refl refl refl refl in
    record { prefix = record { world = _; runs = r3 }; over = refl }

pub left_run : LeftRun
left_run = record { run = subst (λ s. IsRun s [] options left_journal) (sym left_is) left_runs }
