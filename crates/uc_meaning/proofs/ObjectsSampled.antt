-- The journals of sample programs with objects are runs of them, step by step.
use Rattle.std.proofs.Common.{◌≡◌, ℕ, false, true, [], ◌∷◌, Some, None, refl, sym, subst, pos, lit<}
use Rattle.uc_tree.specs.declared.kinds.ValueForm.TheVariants as value_form
use Rattle.uc_tree.specs.Constants.{constant_value}
use Rattle.uc_tree.specs.Rows.{reaches, cells_within}
use Rattle.uc_tree.specs.Objects.{shape_within, height_within}
use Rattle.uc_resolve.specs.Resolve.{source_of}
use Rattle.uc_tree.specs.Source.{Shape, Integer, Binding, Last, Field as FieldIn, Array, Source, Builder, TaskMain, Procedure, Function, NoTest, Add, Sub, Div, Call, Expr, Literal, Variable, Element, Get, Load, Assign, Operate, OfObject, This, OwnField, GetOwn, Bind, Counted, CallOn, CallUnwritten, NoExprs, MoreExprs, Show, ShowText, Destroys, DestroysAll, Skip, Block, Whole, Evaluate, Declare, Print, Loop, Break, Return, Fill, Stmts, Nil, Then, Scoped, Built}
use Rattle.uc_entry.specs.declared.request.Answer.TheVariants as answer
use Rattle.uc_entry.specs.declared.entry.EntryKind.TheVariants as kind
use Rattle.uc_acts.specs.Journal.{entry, begin, is_over, inside, own_object, entries_at}
use Rattle.uc_acts.specs.Queues.{waiting, stacked, ready, running, used, cluster_count, processor_count, processors, open_processors, tasks_on, none_running, none_ready, none_served, first_ended, all_ticks}
use Rattle.uc_acts.specs.Known.{object_count, task_count, is_gone, owner}
use Rattle.uc_acts.specs.Doors.{open_at, blocked_at, last_call, offers, stack_at}
use Rattle.uc_acts.specs.Journal.{held}
use Rattle.uc_acts.specs.Answers.{answer_to}
use Rattle.uc_meaning.specs.SamplePrograms.{in_line}
use Rattle.uc_meaning.specs.Runs.{Runs, IsRun, begun, first_world}
use Rattle.uc_acts.specs.Samples.{options}
use Rattle.uc_meaning.specs.ObjectSamples.{nested_text, nested_journal, NestedRun, array_text, array_journal, ArrayRun, member_text, member_journal, MemberRun, unwritten_text, unwritten_journal, UnwrittenRun, reference_text, reference_journal, ReferenceRun}
use Rattle.uc_meaning.proofs.RunsSampled.{given, acted, printed, the_end}

-- a field of the object of the running call, whose class has this shape
abbrev pub own_field : Shape → ℕ → Expr
own_field s i = OfObject (OwnField s i)

abbrev own_value : Shape → ℕ → Expr
own_value s i = OfObject (GetOwn s i)

abbrev pub one_int : Shape
one_int = FieldIn Integer Last

-- a call at a place, without arguments
abbrev pub call_at : ℕ → Expr → Expr
call_at r place = OfObject (CallOn r place NoExprs)

-- the body of a constructor or a destructor, and a block
abbrev pub in_block : ℕ → Stmts → Stmts
in_block line body = Then (Whole line body) Nil

abbrev pub in_plain : ℕ → Stmts → Stmts
in_plain line body = Then (Block line body) Nil

-- `class A` and `class B` of the first sample, and its main
abbrev nested_source : Source
nested_source = record {
  routines = record { line = 1; cells = 1; params = 1; purpose = Builder; written = true; body = Then (Evaluate 0 (Assign (own_field one_int 0) (Get 0))) (in_block 1 (Then (Print 1 (Show value_form.Character (Literal (pos 43)) ∷ (Show value_form.Number (Get 0) ∷ []))) Nil)) } ∷ (record { line = 1; cells = 0; params = 0; purpose = Builder; written = true; body = in_block 1 (Then (Print 1 (Show value_form.Character (Literal (pos 45)) ∷ (Show value_form.Number (own_value one_int 0) ∷ []))) Nil) } ∷ (record { line = 2; cells = 0; params = 0; purpose = Builder; written = true; body = Then (Evaluate 0 (OfObject (CallOn 0 (own_field (FieldIn one_int (FieldIn one_int Last)) 0) (MoreExprs (Literal (pos 1)) NoExprs)))) (Built (Destroys (call_at 1 (own_field (FieldIn one_int (FieldIn one_int Last)) 0))) (Then (Evaluate 0 (OfObject (CallOn 0 (own_field (FieldIn one_int (FieldIn one_int Last)) 1) (MoreExprs (Literal (pos 2)) NoExprs)))) (Built (Destroys (call_at 1 (own_field (FieldIn one_int (FieldIn one_int Last)) 1))) (in_block 2 (Then (Print 2 (ShowText 0 ∷ [])) Nil))))) } ∷ (record { line = 2; cells = 0; params = 0; purpose = Builder; written = true; body = Scoped (Destroys (call_at 1 (own_field (FieldIn one_int (FieldIn one_int Last)) 0))) (Scoped (Destroys (call_at 1 (own_field (FieldIn one_int (FieldIn one_int Last)) 1))) (in_block 2 (Then (Print 2 (ShowText 1 ∷ [])) Nil))) } ∷ (record { line = 3; cells = 3; params = 0; purpose = TaskMain; written = true; body = Then (Declare 3 (record { cell = 0; cells = 1; value = None } ∷ [])) (Then (Evaluate 3 (OfObject (CallOn 0 (Variable 0) (MoreExprs (Literal (pos 0)) NoExprs)))) (Scoped (Destroys (call_at 1 (Variable 0))) (Then (Declare 3 (record { cell = 1; cells = 2; value = None } ∷ [])) (Then (Evaluate 3 (call_at 2 (Variable 1))) (Scoped (Destroys (call_at 3 (Variable 1))) (Then (Print 3 (Show value_form.Character (Literal (pos 32)) ∷ [])) Nil)))))) } ∷ []))));
  main = 4;
  classes = record { cells = 0 } ∷ (record { cells = 1 } ∷ (record { cells = 2 } ∷ []));
  sites = [];
  texts = (43 ∷ 66 ∷ []) ∷ ((45 ∷ 66 ∷ []) ∷ []);
}

nested_is : source_of nested_text ≡ nested_source
unfolding constant_value reaches cells_within shape_within height_within
nested_is = refl

nested_runs : IsRun nested_source [] options nested_journal
unfolding inside held waiting stacked ready running entries_at open_at blocked_at last_call none_running none_ready none_served first_ended all_ticks processor_count cluster_count open_processors processors offers own_object stack_at used object_count task_count is_gone owner is_over tasks_on answer_to
nested_runs =
    let r0 : Runs nested_source [] options (begin options ∷ []) (first_world nested_source) = begun in
    let r1 = given r0 refl (0, lit< tt, refl) refl refl refl in
    let r2 = acted answer.Go _ (printed 1 1 1 43) r1 refl refl refl refl refl in
    let r3 = acted answer.Go _ (printed 1 0 0 0) r2 refl refl refl refl refl in
    let r4 = acted answer.Go _ (printed 1 2 1 43) r3 refl refl refl refl refl in
    let r5 = acted answer.Go _ (printed 1 0 0 1) r4 refl refl refl refl refl in
    let r6 = acted answer.Go _ (printed 1 1 1 43) r5 refl refl refl refl refl in
    let r7 = acted answer.Go _ (printed 1 0 0 2) r6 refl refl refl refl refl in
    let r8 = acted answer.Go _ (printed 2 0 2 0) r7 refl refl refl refl refl in
    let r9 = acted answer.Go _ (printed 3 0 1 32) r8 refl refl refl refl refl in
    let r10 = acted answer.Go _ (printed 2 1 2 1) r9 refl refl refl refl refl in
    let r11 = acted answer.Go _ (printed 1 1 1 45) r10 refl refl refl refl refl in
    let r12 = acted answer.Go _ (printed 1 0 0 2) r11 refl refl refl refl refl in
    let r13 = acted answer.Go _ (printed 1 1 1 45) r12 refl refl refl refl refl in
    let r14 = acted answer.Go _ (printed 1 0 0 1) r13 refl refl refl refl refl in
    let r15 = acted answer.Go _ (printed 1 1 1 45) r14 refl refl refl refl refl in
    let r16 = acted answer.Go _ (printed 1 0 0 0) r15 refl refl refl refl refl in
    let r17 = acted answer.Go _ (the_end 3) r16 refl refl refl refl refl in
    record { prefix = record { world = _; runs = r17 }; over = refl }

pub nested_run : NestedRun
nested_run = record { run = subst (λ s. IsRun s [] options nested_journal) (sym nested_is) nested_runs }

-- the element that is counted, of the array of two objects in the variable 0
abbrev swept : Expr
swept = Element 2 one_int (Variable 0) (OfObject Counted)

abbrev array_source : Source
array_source = record {
  routines = record { line = 1; cells = 0; params = 0; purpose = Builder; written = true; body = in_block 1 (Then (Print 1 (Show value_form.Character (Literal (pos 43)) ∷ [])) Nil) } ∷ (record { line = 1; cells = 1; params = 1; purpose = Procedure; written = true; body = Then (Evaluate 1 (Assign (own_field one_int 0) (Get 0))) Nil } ∷ (record { line = 1; cells = 0; params = 0; purpose = Builder; written = true; body = in_block 1 (Then (Print 1 (Show value_form.Character (Literal (pos 45)) ∷ (Show value_form.Number (own_value one_int 0) ∷ []))) Nil) } ∷ (record { line = 2; cells = 2; params = 0; purpose = TaskMain; written = true; body = in_plain 2 (Then (Skip 2) (Then (Loop 2 NoTest (Literal (pos 1)) None (Block 2 (Then (Declare 2 (record { cell = 0; cells = 2; value = None } ∷ [])) (Then (Fill 2 2 (call_at 0 swept) (call_at 2 swept)) (Scoped (DestroysAll 2 (call_at 2 swept)) (Then (Evaluate 2 (OfObject (CallOn 1 (Element 2 one_int (Variable 0) (Literal (pos 1))) (MoreExprs (Literal (pos 7)) NoExprs)))) (Then (Break 2) Nil))))))) Nil)) } ∷ [])));
  main = 3;
  classes = record { cells = 0 } ∷ (record { cells = 1 } ∷ []);
  sites = [];
  texts = [];
}

array_is : source_of array_text ≡ array_source
unfolding constant_value reaches cells_within shape_within height_within
array_is = refl

array_runs : IsRun array_source [] options array_journal
unfolding inside held waiting stacked ready running entries_at open_at blocked_at last_call none_running none_ready none_served first_ended all_ticks processor_count cluster_count open_processors processors offers own_object stack_at used object_count task_count is_gone owner is_over tasks_on answer_to
array_runs =
    let r0 : Runs array_source [] options (begin options ∷ []) (first_world array_source) = begun in
    let r1 = given r0 refl (0, lit< tt, refl) refl refl refl in
    let r2 = acted answer.Go _ (printed 1 2 1 43) r1 refl refl refl refl refl in
    let r3 = acted answer.Go _ (printed 1 1 1 43) r2 refl refl refl refl refl in
    let r4 = acted answer.Go _ (printed 1 2 1 45) r3 refl refl refl refl refl in
    let r5 = acted answer.Go _ (printed 1 0 0 7) r4 refl refl refl refl refl in
    let r6 = acted answer.Go _ (printed 1 1 1 45) r5 refl refl refl refl refl in
    let r7 = acted answer.Go _ (printed 1 0 0 0) r6 refl refl refl refl refl in
    let r8 = acted answer.Go _ (the_end 2) r7 refl refl refl refl refl in
    record { prefix = record { world = _; runs = r8 }; over = refl }

pub array_run : ArrayRun
array_run = record { run = subst (λ s. IsRun s [] options array_journal) (sym array_is) array_runs }

-- `twice`, the constructor, `get`, main; and the destructor that nobody wrote
abbrev member_source : Source
member_source = record {
  routines = record { line = 1; cells = 0; params = 0; purpose = Function; written = true; body = Then (Return 1 (Some (Operate Add (own_value one_int 0) (own_value one_int 0)))) Nil } ∷ (record { line = 1; cells = 1; params = 1; purpose = Builder; written = true; body = Then (Evaluate 0 (Assign (own_field one_int 0) (Get 0))) (in_block 1 Nil) } ∷ (record { line = 2; cells = 0; params = 0; purpose = Function; written = true; body = Then (Return 2 (Some (Operate Add (call_at 0 (OfObject This)) (Literal (pos 1))))) Nil } ∷ (record { line = 3; cells = 1; params = 0; purpose = TaskMain; written = true; body = Then (Declare 3 (record { cell = 0; cells = 1; value = None } ∷ [])) (Then (Evaluate 3 (OfObject (CallOn 1 (Variable 0) (MoreExprs (Literal (pos 5)) NoExprs)))) (Scoped (Destroys (OfObject (CallUnwritten 4 (Variable 0)))) (Then (Print 3 (Show value_form.Number (call_at 2 (Variable 0)) ∷ [])) Nil))) } ∷ (record { line = 0; cells = 0; params = 0; purpose = Builder; written = false; body = Nil } ∷ []))));
  main = 3;
  classes = record { cells = 0 } ∷ (record { cells = 1 } ∷ []);
  sites = [];
  texts = [];
}

member_is : source_of member_text ≡ member_source
unfolding constant_value reaches cells_within shape_within height_within
member_is = refl

member_runs : IsRun member_source [] options member_journal
unfolding inside held waiting stacked ready running entries_at open_at blocked_at last_call none_running none_ready none_served first_ended all_ticks processor_count cluster_count open_processors processors offers own_object stack_at used object_count task_count is_gone owner is_over tasks_on answer_to
member_runs =
    let r0 : Runs member_source [] options (begin options ∷ []) (first_world member_source) = begun in
    let r1 = given r0 refl (0, lit< tt, refl) refl refl refl in
    let r2 = acted answer.Go _ (printed 3 3 0 11) r1 refl refl refl refl refl in
    let r3 = acted answer.Go _ (the_end 3) r2 refl refl refl refl refl in
    record { prefix = record { world = _; runs = r3 }; over = refl }

pub member_run : MemberRun
member_run = record { run = subst (λ s. IsRun s [] options member_journal) (sym member_is) member_runs }

abbrev three : Shape
three = FieldIn Last (FieldIn (Array 2 Last) Last)

-- the element that is counted, of the field `y`
abbrev swept_field : Expr
swept_field = Element 2 Last (own_field three 1) (OfObject Counted)

-- the constructor of A and main; the constructor and the destructor of B, then the destructor of A
abbrev unwritten_source : Source
unwritten_source = record {
  routines = record { line = 1; cells = 0; params = 0; purpose = Builder; written = true; body = in_block 1 (Then (Print 1 (Show value_form.Character (Literal (pos 43)) ∷ [])) Nil) } ∷ (record { line = 3; cells = 0; params = 0; purpose = TaskMain; written = true; body = Then (Declare 3 (record { cell = 0; cells = 0; value = None } ∷ [])) (Then (Evaluate 3 (OfObject (CallUnwritten 2 (Variable 0)))) (Scoped (Destroys (OfObject (CallUnwritten 3 (Variable 0)))) Nil)) } ∷ (record { line = 0; cells = 0; params = 0; purpose = Builder; written = false; body = Then (Evaluate 0 (call_at 0 (own_field three 0))) (Built (Destroys (OfObject (CallUnwritten 4 (own_field three 0)))) (Then (Fill 0 2 (call_at 0 swept_field) (OfObject (CallUnwritten 4 swept_field))) (Built (DestroysAll 2 (OfObject (CallUnwritten 4 swept_field))) Nil))) } ∷ (record { line = 0; cells = 0; params = 0; purpose = Builder; written = false; body = Scoped (Destroys (OfObject (CallUnwritten 4 (own_field three 0)))) (Scoped (DestroysAll 2 (OfObject (CallUnwritten 4 swept_field))) Nil) } ∷ (record { line = 0; cells = 0; params = 0; purpose = Builder; written = false; body = Nil } ∷ []))));
  main = 1;
  classes = record { cells = 0 } ∷ (record { cells = 0 } ∷ (record { cells = 0 } ∷ []));
  sites = [];
  texts = [];
}

unwritten_is : source_of unwritten_text ≡ unwritten_source
unfolding constant_value reaches cells_within shape_within height_within
unwritten_is = refl

unwritten_runs : IsRun unwritten_source [] options unwritten_journal
unfolding inside held waiting stacked ready running entries_at open_at blocked_at last_call none_running none_ready none_served first_ended all_ticks processor_count cluster_count open_processors processors offers own_object stack_at used object_count task_count is_gone owner is_over tasks_on answer_to
unwritten_runs =
    let r0 : Runs unwritten_source [] options (begin options ∷ []) (first_world unwritten_source) = begun in
    let r1 = given r0 refl (0, lit< tt, refl) refl refl refl in
    let r2 = acted answer.Go _ (printed 1 1 1 43) r1 refl refl refl refl refl in
    let r3 = acted answer.Go _ (printed 1 1 1 43) r2 refl refl refl refl refl in
    let r4 = acted answer.Go _ (printed 1 1 1 43) r3 refl refl refl refl refl in
    let r5 = acted answer.Go _ (the_end 3) r4 refl refl refl refl refl in
    record { prefix = record { world = _; runs = r5 }; over = refl }

pub unwritten_run : UnwrittenRun
unwritten_run = record { run = subst (λ s. IsRun s [] options unwritten_journal) (sym unwritten_is) unwritten_runs }

-- what is bound to the field of a `D`
abbrev bound : Expr
bound = own_value (FieldIn Binding Last) 0

abbrev reference_source : Source
reference_source = record {
  routines = record { line = 1; cells = 1; params = 1; purpose = Builder; written = true; body = Then (Evaluate 0 (OfObject (Bind (own_field (FieldIn Binding Last) 0) (Get 0)))) (in_block 1 Nil) } ∷ (record { line = 1; cells = 0; params = 0; purpose = Builder; written = true; body = in_block 1 (Then (Evaluate 1 (Assign bound (Operate Add (Load bound) (Literal (pos 1))))) (Then (Print 1 (Show value_form.Number (Load bound) ∷ [])) Nil)) } ∷ (record { line = 2; cells = 2; params = 1; purpose = Function; written = true; body = Then (Declare 3 (record { cell = 1; cells = 1; value = None } ∷ [])) (Then (Evaluate 3 (OfObject (CallOn 0 (Variable 1) (MoreExprs (Get 0) NoExprs)))) (Scoped (Destroys (call_at 1 (Variable 1))) (Then (Return 3 (Some (Load (Get 0)))) Nil))) } ∷ (record { line = 4; cells = 1; params = 1; purpose = Builder; written = true; body = Then (Evaluate 0 (Assign (own_field one_int 0) (Operate Div (Literal (pos 10)) (Get 0)))) (in_block 4 Nil) } ∷ (record { line = 5; cells = 2; params = 0; purpose = TaskMain; written = true; body = Then (Declare 5 (record { cell = 0; cells = 1; value = None } ∷ [])) (Then (Print 6 (Show value_form.Number (Call 2 (MoreExprs (Variable 0) NoExprs)) ∷ (Show value_form.Number (Get 0) ∷ []))) (Then (Declare 7 (record { cell = 1; cells = 1; value = None } ∷ [])) (Then (Evaluate 7 (OfObject (CallOn 3 (Variable 1) (MoreExprs (Operate Sub (Get 0) (Literal (pos 1))) NoExprs)))) (Scoped (Destroys (OfObject (CallUnwritten 5 (Variable 1)))) Nil)))) } ∷ (record { line = 0; cells = 0; params = 0; purpose = Builder; written = false; body = Nil } ∷ [])))));
  main = 4;
  classes = record { cells = 0 } ∷ (record { cells = 1 } ∷ (record { cells = 1 } ∷ []));
  sites = [];
  texts = [];
}

reference_is : source_of reference_text ≡ reference_source
unfolding constant_value reaches cells_within shape_within height_within
reference_is = refl

reference_runs : IsRun reference_source [] options reference_journal
unfolding inside held waiting stacked ready running entries_at open_at blocked_at last_call none_running none_ready none_served first_ended all_ticks processor_count cluster_count open_processors processors offers own_object stack_at used object_count task_count is_gone owner is_over tasks_on answer_to
reference_runs =
    let r0 : Runs reference_source [] options (begin options ∷ []) (first_world reference_source) = begun in
    let r1 = given r0 refl (0, lit< tt, refl) refl refl refl in
    let r2 = acted answer.Go _ (printed 1 3 0 1) r1 refl refl refl refl refl in
    let r3 = acted answer.Go _ (printed 6 0 0 0) r2 refl refl refl refl refl in
    let r4 = acted answer.Go _ (printed 6 0 0 1) r3 refl refl refl refl refl in
    let r5 = acted answer.Go _ (in_line 7 (entry kind.Fault 0 0 1 0 (pos 2) (pos 7)) ∷ []) r4 refl refl refl refl refl in
    record { prefix = record { world = _; runs = r5 }; over = refl }

pub reference_run : ReferenceRun
reference_run = record { run = subst (λ s. IsRun s [] options reference_journal) (sym reference_is) reference_runs }
