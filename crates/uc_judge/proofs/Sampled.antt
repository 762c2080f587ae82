-- The samples, worked out.
use Rattle.std.proofs.Common.{◌≡◌, ℕ, zero, suc, ◌+◌, ◌≤◌, Bool, true, false, List, [], ◌∷◌, ◌++◌, Some, refl, sym, ap, ◌∙◌, subst, length, lit<, arith}
use Rattle.std.specs.Prelude.{pos, nat_le, take}
use Rattle.std.specs.List.{Contains}
use Rattle.std.proofs.lemmas.Bool.{leb-true}
use Rattle.uc_entry.specs.declared.entry.Entry.{Entry}
use Rattle.uc_entry.specs.declared.entry.EntryKind.TheVariants as kind
use Rattle.uc_acts.specs.Journal.{Journal, cost, entry, asking, begin, is_over, number, inside, entries_at, own_object}
use Rattle.uc_acts.specs.Queues.{waiting, stacked, ready, running, used, cluster_count, processor_count, processors, open_processors, none_running, none_ready, none_served, first_ended, all_ticks, tasks_on}
use Rattle.uc_acts.specs.Doors.{open_at, blocked_at, last_call, offers, stack_at}
use Rattle.uc_acts.specs.Known.{object_count, task_count, is_gone, owner}
use Rattle.uc_acts.specs.Acts.{dispatch}
use Rattle.uc_acts.specs.Serves.{left}
use Rattle.uc_acts.specs.KernelRuns.{InRange}
use Rattle.uc_acts.specs.Samples.{options, first_journal}
use Rattle.uc_judge.specs.Runs.{gives, acts, Runs, begun, more, IsStart, IsRun, GoesWrong, off, unended}
use Rattle.uc_judge.specs.Changes.{told_of}
use Rattle.uc_judge.specs.declared.script.Step.{Step}
use Rattle.uc_judge.specs.Scripts.{next_of, without_first, Steps, unmoved}
use Rattle.uc_judge.specs.ScriptLemmas.{script_once, script_whole}
use Rattle.uc_judge.specs.Samples.{asks_print, asks_end, script, Printed, Changed, Unended, Unlined}
use Rattle.uc_judge.proofs.Cuts.{no_both, act_of, first_of, written_over}
use Rattle.uc_judge.proofs.Verdicts.{part_start, run_start}
use Rattle.uc_judge.proofs.Starts.{Acts, goes_as}

in_range : InRange options
in_range = record {
  processors_min = leb-true _ _ refl;
  processors_max = leb-true _ _ refl;
  slice_min = leb-true _ _ refl;
  slice_max = leb-true _ _ refl;
  ticks_min = leb-true _ _ refl;
  ticks_max = leb-true _ _ refl;
  entries_min = leb-true _ _ refl;
  entries_max = leb-true _ _ refl;
}

module _ (lines : Bool) where
  given : {j : Journal} {w : List Step} → Runs (script lines) options j w → is_over j ≡ false → Contains (open_processors options j) (0, 0) → running 0 j ≡ [] → ready 0 j ≡ 0 ∷ [] → nat_le (length j + 2) options.entries ≡ true → Runs (script lines) options (j ++ dispatch 0 0 ∷ []) w
  given {j} r o c f q h =
      more r o (gives 0 0 (record { cluster = 0; later = []; opened = c; free = f; queued = q }) (leb-true (length j + 2) options.entries h))

  -- the next step is that of task 0, which runs on processor 0
  acted : {j : Journal} {w : List Step} (s : Step) (x : List Step) (a : List Entry) → Runs (script lines) options j w → is_over j ≡ false → running 0 j ≡ 0 ∷ [] → next_of 0 (left options j 0) w ≡ Some (record { ticks = s.ticks; asked = s.asked }) → without_first w ≡ x → act_of (script lines) options j 0 0 s.ticks s.asked ≡ a → told_of unmoved [] x a ≡ x → Runs (script lines) options (j ++ a) x
  acted {j} {w} s x a r o h n f e t =
      let d : Steps w 0 (left options j 0) s.ticks s.asked x = record { next = n; rest_is = f } in
      let m : Runs (script lines) options (j ++ act_of (script lines) options j 0 0 s.ticks s.asked) (told_of unmoved [] x (act_of (script lines) options j 0 0 s.ticks s.asked)) = more r o (acts 0 0 s.ticks s.asked x h d) in
      subst (λ y. Runs (script lines) options (j ++ a) y) t (subst (λ b. Runs (script lines) options (j ++ b) (told_of unmoved [] x b)) e m)

abbrev three : Entry
three = asking kind.Print 0 0 (cost 0 1) 0 (pos 0) (pos 3)

abbrev line_end : Entry
line_end = asking kind.Print 0 0 (cost 0 1) 0 (pos 1) (pos 10)

abbrev last : Entry
last = asking kind.End 0 0 (cost 0 1) 0 (pos 0) (pos 0)

dispatched : (lines : Bool) → Runs (script lines) options (begin options ∷ dispatch 0 0 ∷ []) (asks_print 0 (pos 3) ∷ asks_print 1 (pos 10) ∷ asks_end ∷ [])
unfolding inside waiting stacked ready running entries_at open_at blocked_at last_call none_running none_ready none_served first_ended all_ticks processor_count cluster_count open_processors processors offers own_object stack_at used object_count task_count is_gone owner is_over tasks_on
dispatched lines = given lines begun refl (0, lit< tt, refl) refl refl refl

printed_one : (lines : Bool) → Runs (script lines) options (begin options ∷ dispatch 0 0 ∷ three ∷ []) (asks_print 1 (pos 10) ∷ asks_end ∷ [])
unfolding inside waiting stacked ready running entries_at open_at blocked_at last_call none_running none_ready none_served first_ended all_ticks processor_count cluster_count open_processors processors offers own_object stack_at used object_count task_count is_gone owner is_over tasks_on
printed_one lines = acted lines (asks_print 0 (pos 3)) (asks_print 1 (pos 10) ∷ asks_end ∷ []) (three ∷ []) (dispatched lines) refl refl refl refl refl refl

printed_line : (lines : Bool) → Runs (script lines) options (begin options ∷ dispatch 0 0 ∷ three ∷ line_end ∷ []) (asks_end ∷ [])
unfolding inside waiting stacked ready running entries_at open_at blocked_at last_call none_running none_ready none_served first_ended all_ticks processor_count cluster_count open_processors processors offers own_object stack_at used object_count task_count is_gone owner is_over tasks_on
printed_line lines = acted lines (asks_print 1 (pos 10)) (asks_end ∷ []) (line_end ∷ []) (printed_one lines) refl refl refl refl refl refl

printed_all : (lines : Bool) → Runs (script lines) options first_journal []
unfolding inside waiting stacked ready running entries_at open_at blocked_at last_call none_running none_ready none_served first_ended all_ticks processor_count cluster_count open_processors processors offers own_object stack_at used object_count task_count is_gone owner is_over tasks_on
printed_all lines =
    acted lines asks_end [] (last ∷ entry kind.Done 0 0 0 0 (pos 0) (pos 0) ∷ []) (printed_line lines) refl refl refl refl refl refl

pub printed : Printed
unfolding is_over
printed = record { opts = options; in_range = in_range; tasks = []; all = first_journal; runs = printed_all true; over = refl; is = refl }

two : IsStart (script true) (begin options ∷ dispatch 0 0 ∷ [])
two = record {
  opts = options;
  in_range = in_range;
  tasks = asks_print 0 (pos 3) ∷ asks_print 1 (pos 10) ∷ asks_end ∷ [];
  all = begin options ∷ dispatch 0 0 ∷ [];
  runs = dispatched true;
  rest = [];
  is = refl;
}

-- the third entry is the number in line 1
wrong : (e : Entry) → Acts 0 e → (e ≡ three → ⊥) → IsStart (script true) (begin options ∷ dispatch 0 0 ∷ e ∷ []) → ⊥
unfolding inside waiting stacked ready running entries_at open_at blocked_at last_call none_running none_ready none_served first_ended all_ticks processor_count cluster_count open_processors processors offers own_object stack_at used object_count task_count is_gone owner is_over tasks_on
wrong e f n s =
    let d : Steps (asks_print 0 (pos 3) ∷ asks_print 1 (pos 10) ∷ asks_end ∷ []) 0 (left options (begin options ∷ dispatch 0 0 ∷ []) 0) 0 (asks_print 0 (pos 3)).asked (asks_print 1 (pos 10) ∷ asks_end ∷ []) = record { next = refl; rest_is = refl } in
    let r = goes_as script_once script_whole 0 0 0 (asks_print 0 (pos 3)).asked (asks_print 1 (pos 10) ∷ asks_end ∷ []) refl d (dispatched true) refl e [] f s in
    n (ap first_of r.1)

-- it goes wrong there
at_two : (e : Entry) (z : List Entry) → Acts 0 e → (e ≡ three → ⊥) → GoesWrong (script true) (begin options ∷ dispatch 0 0 ∷ e ∷ z) 2
at_two e z f n = off (omega arith) early (wrong e f n)
  where
    early : (m : ℕ) → m ≤ 2 → IsStart (script true) (take m (begin options ∷ dispatch 0 0 ∷ e ∷ z))
    early zero le = part_start (script true) (begin options ∷ dispatch 0 0 ∷ []) 0 two
    early (suc zero) le = part_start (script true) (begin options ∷ dispatch 0 0 ∷ []) 1 two
    early (suc (suc zero)) le = two
    early (suc (suc (suc m))) le = absurd (omega (arith, le))

pub changed : Changed
changed =
    at_two _ _ (record { proc = refl; gives_none = refl; no_limit = refl }) (λ h. let b : 4 ≡ 3 = ap (λ e. number e.b) h in absurd (omega (arith, b)))

-- a run goes on for as long as its journal has no ending
not_over : (j : Journal) → is_over j ≡ false → IsRun (script true) j → ⊥
not_over j o r =
    no_both (is_over r.all) r.over (sym (written_over true r.all) ∙ ap is_over r.is ∙ o)

pub unended_both : Unended
unfolding is_over
unended_both =
    let s = run_start (script true) first_journal printed in
    (unended refl (part_start (script true) first_journal 4 s) (not_over (take 4 first_journal) refl), unended refl (part_start (script true) first_journal 5 s) (not_over (take 5 first_journal) refl))

pub unlined : Unlined
unfolding is_over
unlined =
    (record { opts = options; in_range = in_range; tasks = []; all = first_journal; runs = printed_all false; over = refl; is = refl }, at_two _ _ (record { proc = refl; gives_none = refl; no_limit = refl }) (λ h. let b : 0 ≡ 1 = ap (λ e. e.line) h in absurd (omega (arith, b))))
