-- The journals of sample programs with events are runs of them, step by step.
use Rattle.std.proofs.Common.{◌≡◌, ℕ, false, true, [], ◌∷◌, Some, None, refl, sym, subst, pos, lit<}
use Rattle.uc_tree.specs.declared.kinds.ValueForm.TheVariants as value_form
use Rattle.uc_tree.specs.Constants.{constant_value}
use Rattle.uc_tree.specs.Rows.{reaches, cells_within}
use Rattle.uc_tree.specs.Objects.{shape_within, height_within}
use Rattle.uc_resolve.specs.Resolve.{source_of}
use Rattle.uc_tree.specs.Source.{Source, Builder, TaskMain, Procedure, Function, Call, Expr, Literal, Variable, Get, Load, Assign, OfObject, FieldOf, CallOn, CallUnwritten, NoExprs, MoreExprs, Show, Destroys, Block, Evaluate, Declare, Print, Return, OfEvents, BuiltAt, Plainly, AgainFrom, Throw, Raise, Try, NoHandlers, MoreHandlers, Stmts, Nil, Then, Scoped, Routine}
use Rattle.uc_entry.specs.declared.request.Answer.TheVariants as answer
use Rattle.uc_entry.specs.declared.entry.EntryKind.TheVariants as kind
use Rattle.uc_acts.specs.Journal.{entry, begin, is_over, inside, own_object, entries_at}
use Rattle.uc_acts.specs.Queues.{waiting, stacked, ready, running, used, cluster_count, processor_count, processors, open_processors, tasks_on, none_running, none_ready, none_served, first_ended, all_ticks}
use Rattle.uc_acts.specs.Known.{object_count, task_count, is_gone, owner}
use Rattle.uc_acts.specs.Doors.{open_at, blocked_at, last_call, offers, stack_at}
use Rattle.uc_acts.specs.Journal.{held}
use Rattle.uc_acts.specs.Answers.{answer_to}
use Rattle.uc_meaning.specs.SamplePrograms.{in_line}
use Rattle.uc_meaning.specs.Runs.{Runs, IsRun, begun, first_world}
use Rattle.uc_acts.specs.Samples.{options}
use Rattle.uc_meaning.specs.RaisingSamples.{thrown_text, thrown_journal, ThrownRun, resumed_text, resumed_journal, ResumedRun, escaped_text, escaped_journal, EscapedRun, returned_text, returned_journal, ReturnedRun}
use Rattle.uc_meaning.proofs.RunsSampled.{given, acted, printed, the_end}
use Rattle.uc_meaning.proofs.ObjectsSampled.{own_field, one_int, call_at, in_block}

-- a guarded block of one line
abbrev guarding : ℕ → Stmts → Stmts
guarding line body = Then (Block line body) Nil

-- the field of an event that is kept from the cell before this one on
abbrev kept_field : ℕ → Expr
kept_field k = Load (OfObject (FieldOf one_int 0 (Variable k)))

-- the constructor of `E`
abbrev event_builder : Routine
event_builder = record { line = 1; cells = 1; params = 1; purpose = Builder; written = true; body = Then (Evaluate 0 (Assign (own_field one_int 0) (Get 0))) (in_block 1 Nil) }

-- what nobody wrote, of a class without fields
abbrev unwritten_builder : Routine
unwritten_builder = record { line = 0; cells = 0; params = 0; purpose = Builder; written = false; body = Nil }

abbrev thrown_source : Source
thrown_source = record {
  routines = event_builder ∷ (record { line = 2; cells = 0; params = 0; purpose = Builder; written = true; body = in_block 2 (Then (Print 2 (Show value_form.Character (Literal (pos 45)) ∷ [])) Nil) } ∷ (record { line = 3; cells = 5; params = 0; purpose = TaskMain; written = true; body = Then (OfEvents (Try 3 (guarding 3 (Then (Declare 3 (record { cell = 0; cells = 0; value = None } ∷ [])) (Then (Evaluate 3 (OfObject (CallUnwritten 3 (Variable 0)))) (Scoped (Destroys (call_at 1 (Variable 0))) (Then (OfEvents (Throw 3 (BuiltAt 2 0 (OfObject (CallOn 0 (Variable 0) (MoreExprs (Literal (pos 7)) NoExprs)))))) Nil))))) (MoreHandlers false (Some 2) 2 3 (Then (Print 3 (Show value_form.Number (kept_field 3) ∷ [])) Nil) NoHandlers))) (Then (Print 3 (Show value_form.Character (Literal (pos 46)) ∷ [])) Nil) } ∷ (unwritten_builder ∷ [])));
  main = 2;
  classes = record { cells = 0 } ∷ (record { cells = 0 } ∷ []);
  sites = [];
  texts = [];
}

thrown_is : source_of thrown_text ≡ thrown_source
unfolding constant_value reaches cells_within shape_within height_within
thrown_is = refl

thrown_runs : IsRun thrown_source [] options thrown_journal
unfolding inside held waiting stacked ready running entries_at open_at blocked_at last_call none_running none_ready none_served first_ended all_ticks processor_count cluster_count open_processors processors offers own_object stack_at used object_count task_count is_gone owner is_over tasks_on answer_to
thrown_runs =
    let r0 : Runs thrown_source [] options (begin options ∷ []) (first_world thrown_source) = begun in
    let r1 = given r0 refl (0, lit< tt, refl) refl refl refl in
    let r2 = acted answer.Go _ (printed 2 2 1 45) r1 refl refl refl refl refl in
    let r3 = acted answer.Go _ (printed 3 0 0 7) r2 refl refl refl refl refl in
    let r4 = acted answer.Go _ (printed 3 0 1 46) r3 refl refl refl refl refl in
    let r5 = acted answer.Go _ (the_end 3) r4 refl refl refl refl refl in
    record { prefix = record { world = _; runs = r5 }; over = refl }

pub thrown_run : ThrownRun
thrown_run = record { run = subst (λ s. IsRun s [] options thrown_journal) (sym thrown_is) thrown_runs }

abbrev resumed_source : Source
resumed_source = record {
  routines = event_builder ∷ (record { line = 2; cells = 3; params = 1; purpose = Procedure; written = true; body = Then (OfEvents (Raise 2 (BuiltAt 2 1 (OfObject (CallOn 0 (Variable 1) (MoreExprs (Get 0) NoExprs)))))) (Then (Print 2 (Show value_form.Character (Literal (pos 43)) ∷ [])) Nil) } ∷ (record { line = 3; cells = 7; params = 0; purpose = TaskMain; written = true; body = Then (Declare 3 (record { cell = 0; cells = 1; value = Some (Literal (pos 5)) } ∷ [])) (Then (OfEvents (Try 4 (guarding 4 (Then (OfEvents (Try 5 (guarding 5 (Then (Evaluate 5 (Call 1 (MoreExprs (Literal (pos 2)) NoExprs))) Nil)) (MoreHandlers true (Some 2) 1 5 (Then (Print 5 (Show value_form.Number (kept_field 2) ∷ [])) (Then (OfEvents (Raise 5 (AgainFrom 1))) Nil)) NoHandlers))) Nil)) (MoreHandlers true (Some 2) 4 5 (Then (Print 5 (Show value_form.Number (Get 0) ∷ [])) Nil) NoHandlers))) Nil) } ∷ []));
  main = 2;
  classes = record { cells = 0 } ∷ [];
  sites = [];
  texts = [];
}

resumed_is : source_of resumed_text ≡ resumed_source
unfolding constant_value reaches cells_within shape_within height_within
resumed_is = refl

resumed_runs : IsRun resumed_source [] options resumed_journal
unfolding inside held waiting stacked ready running entries_at open_at blocked_at last_call none_running none_ready none_served first_ended all_ticks processor_count cluster_count open_processors processors offers own_object stack_at used object_count task_count is_gone owner is_over tasks_on answer_to
resumed_runs =
    let r0 : Runs resumed_source [] options (begin options ∷ []) (first_world resumed_source) = begun in
    let r1 = given r0 refl (0, lit< tt, refl) refl refl refl in
    let r2 = acted answer.Go _ (printed 5 2 0 2) r1 refl refl refl refl refl in
    let r3 = acted answer.Go _ (printed 5 0 0 5) r2 refl refl refl refl refl in
    let r4 = acted answer.Go _ (printed 2 0 1 43) r3 refl refl refl refl refl in
    let r5 = acted answer.Go _ (the_end 3) r4 refl refl refl refl refl in
    record { prefix = record { world = _; runs = r5 }; over = refl }

pub resumed_run : ResumedRun
resumed_run = record { run = subst (λ s. IsRun s [] options resumed_journal) (sym resumed_is) resumed_runs }

abbrev escaped_source : Source
escaped_source = record {
  routines = record { line = 2; cells = 2; params = 0; purpose = Builder; written = true; body = in_block 2 (Then (OfEvents (Throw 2 (Plainly 2))) Nil) } ∷ (record { line = 3; cells = 5; params = 0; purpose = TaskMain; written = true; body = Then (OfEvents (Try 4 (guarding 4 (Then (Declare 4 (record { cell = 0; cells = 0; value = None } ∷ [])) (Then (Evaluate 4 (OfObject (CallUnwritten 2 (Variable 0)))) (Scoped (Destroys (call_at 0 (Variable 0))) (Then (OfEvents (Throw 4 (Plainly 2))) Nil))))) (MoreHandlers false None 2 4 Nil NoHandlers))) Nil } ∷ (unwritten_builder ∷ []));
  main = 1;
  classes = record { cells = 0 } ∷ (record { cells = 0 } ∷ []);
  sites = [];
  texts = [];
}

escaped_is : source_of escaped_text ≡ escaped_source
unfolding constant_value reaches cells_within shape_within height_within
escaped_is = refl

escaped_runs : IsRun escaped_source [] options escaped_journal
unfolding inside held waiting stacked ready running entries_at open_at blocked_at last_call none_running none_ready none_served first_ended all_ticks processor_count cluster_count open_processors processors offers own_object stack_at used object_count task_count is_gone owner is_over tasks_on answer_to
escaped_runs =
    let r0 : Runs escaped_source [] options (begin options ∷ []) (first_world escaped_source) = begun in
    let r1 = given r0 refl (0, lit< tt, refl) refl refl refl in
    let r2 = acted answer.Go _ (in_line 4 (entry kind.Fault 0 0 1 0 (pos 13) (pos 4)) ∷ []) r1 refl refl refl refl refl in
    record { prefix = record { world = _; runs = r2 }; over = refl }

pub escaped_run : EscapedRun
escaped_run = record { run = subst (λ s. IsRun s [] options escaped_journal) (sym escaped_is) escaped_runs }

-- an object of the class `A` without cells, and what stands in its scope
abbrev in_scope : Stmts → Stmts
in_scope rest = Then (Declare 3 (record { cell = 0; cells = 0; value = None } ∷ [])) (Then (Evaluate 3 (OfObject (CallUnwritten 3 (Variable 0)))) (Scoped (Destroys (call_at 0 (Variable 0))) rest))

abbrev returned_source : Source
returned_source = record {
  routines = record { line = 2; cells = 0; params = 0; purpose = Builder; written = true; body = in_block 2 (Then (Print 2 (Show value_form.Character (Literal (pos 45)) ∷ [])) Nil) } ∷ (record { line = 3; cells = 5; params = 0; purpose = Function; written = true; body = in_scope (Then (OfEvents (Try 3 (guarding 3 (in_scope (Then (OfEvents (Raise 3 (Plainly 2))) (Then (Print 3 (Show value_form.Character (Literal (pos 43)) ∷ [])) Nil)))) (MoreHandlers true (Some 2) 2 3 (Then (Return 3 (Some (Literal (pos 7)))) Nil) NoHandlers))) (Then (Return 3 (Some (Literal (pos 1)))) Nil)) } ∷ (record { line = 4; cells = 0; params = 0; purpose = TaskMain; written = true; body = Then (Print 4 (Show value_form.Number (Call 1 NoExprs) ∷ [])) Nil } ∷ (unwritten_builder ∷ [])));
  main = 2;
  classes = record { cells = 0 } ∷ (record { cells = 0 } ∷ []);
  sites = [];
  texts = [];
}

returned_is : source_of returned_text ≡ returned_source
unfolding constant_value reaches cells_within shape_within height_within
returned_is = refl

returned_runs : IsRun returned_source [] options returned_journal
unfolding inside held waiting stacked ready running entries_at open_at blocked_at last_call none_running none_ready none_served first_ended all_ticks processor_count cluster_count open_processors processors offers own_object stack_at used object_count task_count is_gone owner is_over tasks_on answer_to
returned_runs =
    let r0 : Runs returned_source [] options (begin options ∷ []) (first_world returned_source) = begun in
    let r1 = given r0 refl (0, lit< tt, refl) refl refl refl in
    let r2 = acted answer.Go _ (printed 2 2 1 45) r1 refl refl refl refl refl in
    let r3 = acted answer.Go _ (printed 2 1 1 45) r2 refl refl refl refl refl in
    let r4 = acted answer.Go _ (printed 4 0 0 7) r3 refl refl refl refl refl in
    let r5 = acted answer.Go _ (the_end 4) r4 refl refl refl refl refl in
    record { prefix = record { world = _; runs = r5 }; over = refl }

pub returned_run : ReturnedRun
returned_run = record { run = subst (λ s. IsRun s [] options returned_journal) (sym returned_is) returned_runs }
