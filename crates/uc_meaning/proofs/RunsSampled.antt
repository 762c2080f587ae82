-- The journals of sample programs are runs of them, step by step.
use Rattle.std.proofs.Common.{◌≡◌, ℕ, zero, suc, ◌+◌, false, true, List, [], ◌∷◌, ◌++◌, Option, Some, None, refl, sym, ap, subst, pos, length, lit<}
use Rattle.std.specs.Prelude.{nat_le}
use Rattle.std.specs.List.{Contains}
use Rattle.std.proofs.lemmas.Bool.{leb-true}
use Rattle.uc_tree.specs.declared.kinds.ValueForm.TheVariants as value_form
use Rattle.uc_resolve.specs.Resolve.{source_of}
use Rattle.uc_tree.specs.Source.{Source, TaskMain, Function, TestFirst, Less, Add, Div, Literal, Get, Set, First, Operate, Call, NoExprs, MoreExprs, Show, Block, Declare, Print, Loop, Return, Nil, Then}
use Rattle.uc_entry.specs.declared.entry.Entry.{Entry}
use Rattle.uc_entry.specs.declared.entry.EntryKind.TheVariants as kind
use Rattle.uc_entry.specs.declared.entry.Options.{Options}
use Rattle.uc_entry.specs.declared.request.Answer.{Answer}
use Rattle.uc_entry.specs.declared.request.Answer.TheVariants as answer
use Rattle.uc_entry.specs.declared.request.Asked.{Asked}
use Rattle.uc_entry.specs.declared.request.Request.TheVariants as ask
use Rattle.uc_acts.specs.Journal.{Journal, entry, begin, is_over, held, inside, own_object, entries_at}
use Rattle.uc_acts.specs.Queues.{waiting, stacked, ready, running, used, cluster_count, processor_count, processors, open_processors, tasks_on, none_running, none_ready, none_served, first_ended, all_ticks}
use Rattle.uc_acts.specs.Known.{object_count, task_count, is_gone, owner}
use Rattle.uc_acts.specs.Doors.{open_at, blocked_at, last_call, offers, stack_at}
use Rattle.uc_acts.specs.Answers.{answer_to}
use Rattle.uc_acts.specs.Serves.{left}
use Rattle.uc_acts.specs.Acts.{act, dispatch}
use Rattle.uc_machine.specs.Quiet.{State, Step, Goes, Ticks, Asks, quiet}
use Rattle.uc_machine.specs.Rides.{Rides, slices, goes_on, ticks, asks, asked_in}
use Rattle.uc_meaning.specs.Runs.{World, Runs, IsRun, begun, more, gives, acts, drawn, world_after, first_world}
use Rattle.uc_machine.specs.Answering.{answered}
use Rattle.uc_acts.specs.Samples.{options, first_journal}
use Rattle.uc_meaning.specs.SamplePrograms.{in_line, first_text, FirstRun, loop_text, two_ticks, loop_journal, LoopRun, call_text, call_journal, CallRun}

-- where a ride leads: the state, its ticks, and what is asked
pub record Ridden : Type 0 where
  pub reached : State
  pub made : ℕ
  pub asked : Asked

abbrev pub one_tick : Option Ridden → Option Ridden
one_tick None = None
one_tick (Some r) = Some (record r { made = suc r.made })

abbrev pub ridden_or : Ridden → Option Ridden → Ridden
ridden_or r None = r
ridden_or r (Some x) = x

-- a ride of at most so many steps
module _ (source : Source) where
  abbrev pub by_step : (State → Option Ridden) → (State → Option Ridden) → State → Step → Option Ridden
  by_step on ticked s (Goes t) = on t
  by_step on ticked s (Ticks t) = one_tick (ticked t)
  by_step on ticked s (Asks r t) = Some (record { reached = t; made = 0; asked = asked_in s r })

  abbrev pub ride : ℕ → ℕ → State → Option Ridden
  ride zero q s = None
  ride (suc f) zero s = Some (record { reached = s; made = 0; asked = asked_in s ask.Slice })
  ride (suc f) (suc q) s = by_step (λ t. ride f (suc q) t) (λ t. ride f q t) s (quiet source s)

  abbrev Leads : ℕ → State → Ridden → Type 0
  Leads q s r = Rides source s q r.reached r.made r.asked

  some_same : (x r : Ridden) → Some x ≡ Some r → x ≡ r
  some_same x r e = ap (ridden_or x) e

  tick_leads : (s t : State) (q : ℕ) (o : Option Ridden) (r : Ridden) → quiet source s ≡ Ticks t → ((x : Ridden) → o ≡ Some x → Leads q t x) → one_tick o ≡ Some r → Leads (suc q) s r
  tick_leads s t q None r h f e = absurd (cc e)
  tick_leads s t q (Some x) r h f e =
      subst (Leads (suc q) s) (some_same (record x { made = suc x.made }) r e) (ticks h (f x refl))

  step_leads : (s : State) (q : ℕ) (on ticked : State → Option Ridden) (r : Ridden) → ((t : State) (x : Ridden) → on t ≡ Some x → Leads (suc q) t x) → ((t : State) (x : Ridden) → ticked t ≡ Some x → Leads q t x) → (p : Step) → quiet source s ≡ p → by_step on ticked s p ≡ Some r → Leads (suc q) s r
  step_leads s q on ticked r f g (Goes t) h e = goes_on h (f t r e)
  step_leads s q on ticked r f g (Ticks t) h e = tick_leads s t q (ticked t) r h (g t) e
  step_leads s q on ticked r f g (Asks a t) h e =
      subst (Leads (suc q) s) (some_same (record { reached = t; made = 0; asked = asked_in s a }) r e) (asks h)

  pub leads : (f q : ℕ) (s : State) (r : Ridden) → ride f q s ≡ Some r → Leads q s r
  leads zero q s r e = absurd (cc e)
  leads (suc f) zero s r e =
      subst (Leads 0 s) (some_same (record { reached = s; made = 0; asked = asked_in s ask.Slice }) r e) slices
  leads (suc f) (suc q) s r e =
      step_leads s q (λ t. ride f (suc q) t) (λ t. ride f q t) r (λ t x. leads f (suc q) t x) (λ t x. leads f q t x) (quiet source s) refl e

-- runs, step by step

module _ {source : Source} {opts : Options} where
  pub given : {j : Journal} {w : World} → Runs source [] opts j w → is_over j ≡ false → Contains (open_processors opts j) (0, 0) → running 0 j ≡ [] → ready 0 j ≡ 0 ∷ [] → nat_le (length j + 2) opts.entries ≡ true → Runs source [] opts (j ++ dispatch 0 0 ∷ []) w
  given {j} r o c f q h =
      more r o (gives 0 0 (record { cluster = 0; later = []; opened = c; free = f; queued = q }) (leb-true (length j + 2) opts.entries h))

  pub acted : {j : Journal} {w : World} (x : Answer) (r : Ridden) (a : List Entry) → Runs source [] opts j w → is_over j ≡ false → running 0 j ≡ 0 ∷ [] → answer_to source.sites 0 j ≡ Some x → ride source 150 (left opts j 0) (answered source x (drawn j w 0)) ≡ Some r → act opts source.sites [] j 0 0 r.made r.asked ≡ a → Runs source [] opts (j ++ a) (world_after source a w 0 r.reached)
  acted {j} {w} x r a run o h told e k =
      subst (λ y. Runs source [] opts (j ++ y) (world_after source y w 0 r.reached)) k (more run o (acts 0 0 r.made r.reached r.asked (record { given = x; runs = h; told = told; rides = leads source 150 (left opts j 0) (answered source x (drawn j w 0)) r e })))

abbrev first_source : Source
first_source = record {
  routines = record { line = 1; cells = 0; params = 0; purpose = TaskMain; written = true; body = Then (Print 1 (Show value_form.Number (Literal (pos 3)) ∷ (Show value_form.Character (Literal (pos 10)) ∷ []))) Nil } ∷ [];
  main = 0;
  classes = record { cells = 0 } ∷ [];
  sites = [];
  texts = [];
}

first_is : source_of first_text ≡ first_source
first_is = refl

abbrev pub printed : ℕ → ℕ → ℕ → ℕ → List Entry
printed line k form value = in_line line (entry kind.Print 0 0 k 0 (pos form) (pos value)) ∷ []

abbrev pub the_end : ℕ → List Entry
the_end line = in_line line (entry kind.End 0 0 0 0 (pos 0) (pos 0)) ∷ (entry kind.Done 0 0 0 0 (pos 0) (pos 0) ∷ [])

first_runs : IsRun first_source [] options first_journal
unfolding inside held waiting stacked ready running entries_at open_at blocked_at last_call none_running none_ready none_served first_ended all_ticks processor_count cluster_count open_processors processors offers own_object stack_at used object_count task_count is_gone owner is_over tasks_on answer_to
first_runs =
    let r0 : Runs first_source [] options (begin options ∷ []) (first_world first_source) = begun in
    let r1 = given r0 refl (0, lit< tt, refl) refl refl refl in
    let r2 = acted answer.Go _ (printed 1 0 0 3) r1 refl refl refl refl refl in
    let r3 = acted answer.Go _ (printed 1 0 1 10) r2 refl refl refl refl refl in
    let r4 = acted answer.Go _ (the_end 1) r3 refl refl refl refl refl in
    record { prefix = record { world = _; runs = r4 }; over = refl }

pub first_run : FirstRun
first_run = record { run = subst (λ s. IsRun s [] options first_journal) (sym first_is) first_runs }

abbrev loop_source : Source
loop_source = record {
  routines = record {
    line = 1;
    cells = 1;
    params = 0;
    purpose = TaskMain;
    written = true;
    body = Then (Block 1 (Then (Declare 1 (record { cell = 0; cells = 1; value = Some (Literal (pos 0)) } ∷ [])) (Then (Loop 1 TestFirst (Operate Less (Get 0) (Literal (pos 3))) (Some (First (Get 0) (Set 0 (Operate Add (Get 0) (Literal (pos 1)))))) (Print 1 (Show value_form.Number (Get 0) ∷ []))) Nil))) Nil;
  } ∷ [];
  main = 0;
  classes = record { cells = 0 } ∷ [];
  sites = [];
  texts = [];
}

loop_is : source_of loop_text ≡ loop_source
loop_is = refl

loop_runs : IsRun loop_source [] two_ticks loop_journal
unfolding inside held waiting stacked ready running entries_at open_at blocked_at last_call none_running none_ready none_served first_ended all_ticks processor_count cluster_count open_processors processors offers own_object stack_at used object_count task_count is_gone owner is_over tasks_on answer_to
loop_runs =
    let r0 : Runs loop_source [] two_ticks (begin two_ticks ∷ []) (first_world loop_source) = begun in
    let r1 = given r0 refl (0, lit< tt, refl) refl refl refl in
    let r2 = acted answer.Go _ (printed 1 1 0 0) r1 refl refl refl refl refl in
    let r3 = acted answer.Go _ (in_line 1 (entry kind.Slice 0 0 1 0 (pos 0) (pos 0)) ∷ []) r2 refl refl refl refl refl in
    let r4 = given r3 refl (0, lit< tt, refl) refl refl refl in
    let r5 = acted answer.Go _ (printed 1 0 0 1) r4 refl refl refl refl refl in
    let r6 = acted answer.Go _ (printed 1 1 0 2) r5 refl refl refl refl refl in
    let r7 = acted answer.Go _ (the_end 1) r6 refl refl refl refl refl in
    record { prefix = record { world = _; runs = r7 }; over = refl }

pub loop_run : LoopRun
loop_run = record { run = subst (λ s. IsRun s [] two_ticks loop_journal) (sym loop_is) loop_runs }

abbrev call_source : Source
call_source = record {
  routines = record { line = 1; cells = 1; params = 1; purpose = Function; written = true; body = Then (Return 2 (Some (Operate Div (Literal (pos 10)) (Get 0)))) Nil } ∷ (record { line = 4; cells = 0; params = 0; purpose = TaskMain; written = true; body = Then (Print 5 (Show value_form.Number (Call 0 (MoreExprs (Literal (pos 5)) NoExprs)) ∷ [])) (Then (Print 6 (Show value_form.Number (Call 0 (MoreExprs (Literal (pos 0)) NoExprs)) ∷ [])) Nil) } ∷ []);
  main = 1;
  classes = record { cells = 0 } ∷ [];
  sites = [];
  texts = [];
}

call_is : source_of call_text ≡ call_source
call_is = refl

call_runs : IsRun call_source [] options call_journal
unfolding inside held waiting stacked ready running entries_at open_at blocked_at last_call none_running none_ready none_served first_ended all_ticks processor_count cluster_count open_processors processors offers own_object stack_at used object_count task_count is_gone owner is_over tasks_on answer_to
call_runs =
    let r0 : Runs call_source [] options (begin options ∷ []) (first_world call_source) = begun in
    let r1 = given r0 refl (0, lit< tt, refl) refl refl refl in
    let r2 = acted answer.Go _ (printed 5 1 0 2) r1 refl refl refl refl refl in
    let r3 = acted answer.Go _ (in_line 2 (entry kind.Fault 0 0 1 0 (pos 2) (pos 2)) ∷ []) r2 refl refl refl refl refl in
    record { prefix = record { world = _; runs = r3 }; over = refl }

pub call_run : CallRun
call_run = record { run = subst (λ s. IsRun s [] options call_journal) (sym call_is) call_runs }
