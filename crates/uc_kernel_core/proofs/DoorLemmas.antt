-- What one entry more does to the door of its object.
use Rattle.std.proofs.Common.{◌≡◌, ℕ, pos, ◌==◌, ◌&&◌, ◌||◌, Bool, true, false, not, cond, List, [], ◌∷◌, ◌++◌, map, Option, Some, None, refl, sym, ap, ◌∙◌}
use Rattle.std.specs.Option.{option_to_list}
use Rattle.std.specs.List.{filter}
use Rattle.std.proofs.lemmas.List.{append-nil}
use Rattle.uc_tree.specs.Programs.{Site}
use Rattle.uc_entry.specs.declared.entry.Entry.{Entry}
use Rattle.uc_entry.specs.declared.entry.EntryKind.{EntryKind}
use Rattle.uc_entry.specs.declared.entry.EntryKind.TheVariants as kind
use Rattle.uc_acts.specs.Journal.{Journal, begin, entries_at, number, holds, inside, is_task, lets_in, stacks_acceptor, where_true, asking}
use Rattle.uc_acts.specs.Queues.{waiting}
use Rattle.uc_acts.specs.Doors.{OnStack, open_at, offered, stack_at, stack_after, left_by_task, taken_off, admitted_past, put_top, met_top, last_call}
use Rattle.uc_tree.specs.SiteOffers.{clause_for, or_0}
use Rattle.uc_acts.specs.Acts.{admit_failed, push, accept_entry}
use Rattle.uc_acts.proofs.Seats.{inside_other, inside_after, waiting_other, waiting_after, open_other, open_after}
use Rattle.uc_acts.proofs.SoundLemmas.{self_test, none_kept, all_kept, all_kept_nil}
use Rattle.uc_acts.proofs.Moves.{inside_now, open_now, waiting_now}
use Rattle.uc_acts.proofs.Stood.{stands_other, stands_same}
use Rattle.uc_mutex.specs.declared.called.Mark.{Mark}
use Rattle.uc_mutex.specs.Doors.{Door, no_door, unmarked, over_on}
use Rattle.uc_mutex.specs.Offers.{clauses_of}
use Rattle.uc_kernel_core.specs.DoorLaws.{IsDoor, pair, met_by, admitted, goes_out, is_still, LawOpening, LawMake, LawSpawn, LawStill, LawElsewhere, LawCall, LawOut, LawLeave, LawOpens, LawAccepts, LawSignalBlock, LawPush, LawAdmit, LawMeets}

abbrev clauses_at : List Site → Entry → List ℕ
clauses_at sites a = clauses_of (offered sites a)

pub elsewhere : LawElsewhere
elsewhere sites o j e d h g = record {
  within = g.within ∙ sym (inside_other o j e h);
  waiting = g.waiting ∙ sym (waiting_other o j e h);
  stacked = g.stacked ∙ ap (map pair) (sym (stands_other sites o j e h));
  opened = g.opened ∙ ap (map (clauses_at sites)) (sym (open_other o j e h));
}

stands_now : (sites : List Site) (j : Journal) (e : Entry) → stack_at sites e.object (j ++ e ∷ []) ≡ stack_after sites e.kind e (last_call e.object j e.task) (stack_at sites e.object j)
stands_now sites j e = stands_same sites e.object j e (self_test e.object)

pub call : LawCall
call sites o j d p t k m g =
    let e = asking kind.Call p t k o (pos m) (pos 0) in
    record {
      within = g.within ∙ sym (inside_now j e ∙ all_kept_nil (inside o j));
      waiting = ap (λ ws. ws ++ (t, m) ∷ []) (g.waiting ∙ sym (all_kept (waiting o j))) ∙ sym (waiting_now j e);
      stacked = g.stacked ∙ ap (map pair) (sym (stands_now sites j e));
      opened = g.opened ∙ ap (map (clauses_at sites)) (sym (open_now j e ∙ all_kept_nil (open_at o j)));
    }

-- whoever is inside goes out
one_out : (t : ℕ) → filter (λ u. not (u == t)) (t ∷ []) ≡ []
one_out t = ap (λ (b : Bool). cond (not b) (t ∷ []) []) (self_test t)

out_inside : (k : EntryKind) (e : Entry) (j : Journal) → goes_out k ≡ true → inside_after k e (e.task ∷ []) ≡ []
out_inside kind.Made e j h = append-nil _ ∙ one_out e.task
out_inside kind.End e j h = append-nil _ ∙ one_out e.task
out_inside kind.Wait e j h = append-nil _ ∙ one_out e.task
out_inside kind.Gone e j h = append-nil _ ∙ one_out e.task
out_inside _ e j h = absurd cc

out_waiting : (k : EntryKind) (e : Entry) (xs : List (ℕ × ℕ)) → goes_out k ≡ true → waiting_after k e xs ≡ xs
out_waiting kind.Made e xs h = all_kept_nil xs
out_waiting kind.End e xs h = all_kept_nil xs
out_waiting kind.Wait e xs h = all_kept_nil xs
out_waiting kind.Gone e xs h = all_kept_nil xs
out_waiting _ e xs h = absurd cc

out_open : (k : EntryKind) (e : Entry) (xs : List Entry) → goes_out k ≡ true → open_after k e xs ≡ xs
out_open kind.Made e xs h = all_kept_nil xs
out_open kind.End e xs h = all_kept_nil xs
out_open kind.Wait e xs h = all_kept_nil xs
out_open kind.Gone e xs h = all_kept_nil xs
out_open _ e xs h = absurd cc

out_stack : (sites : List Site) (k : EntryKind) (e : Entry) (m : Option ℕ) (ss : List OnStack) → goes_out k ≡ true → stack_after sites k e m ss ≡ ss
out_stack sites kind.Made e m ss h = refl
out_stack sites kind.End e m ss h = refl
out_stack sites kind.Wait e m ss h = refl
out_stack sites kind.Gone e m ss h = refl
out_stack sites _ e m ss h = absurd cc

pub out : LawOut
out sites j d e h one g = record {
  within = sym (inside_now j e ∙ ap (inside_after e.kind e) one ∙ out_inside e.kind e j h);
  waiting = g.waiting ∙ sym (waiting_now j e ∙ out_waiting e.kind e (waiting e.object j) h);
  stacked = g.stacked ∙ ap (map pair) (sym (stands_now sites j e ∙ out_stack sites e.kind e (last_call e.object j e.task) (stack_at sites e.object j) h));
  opened = g.opened ∙ ap (map (clauses_at sites)) (sym (open_now j e ∙ out_open e.kind e (open_at e.object j) h));
}

-- a call is over, and the acceptor whose accept it met is told
over_case : (b : Bool) (t : ℕ) (failed : Bool) (s : OnStack) → is_task t s.met ≡ b → pair (left_by_task t failed s) ≡ over_on t failed (pair s)
over_case true t failed s h = simp h
over_case false t failed s h = simp h

all_over : (t : ℕ) (failed : Bool) (ss : List OnStack) → map pair (map (left_by_task t failed) ss) ≡ map (over_on t failed) (map pair ss)
all_over t failed [] = refl
all_over t failed (s ∷ ss) =
    ap (λ x. x ∷ map pair (map (left_by_task t failed) ss)) (over_case (is_task t s.met) t failed s refl) ∙ ap (λ l. over_on t failed (pair s) ∷ l) (all_over t failed ss)

pub leaves : LawLeave
leaves sites j d e is one g = record {
  within = sym (inside_now j e ∙ ap (λ (k : EntryKind). inside_after k e (inside e.object j)) is ∙ ap (inside_after kind.Leave e) one ∙ append-nil _ ∙ one_out e.task);
  waiting = g.waiting ∙ sym (waiting_now j e ∙ ap (λ (k : EntryKind). waiting_after k e (waiting e.object j)) is ∙ all_kept_nil (waiting e.object j));
  stacked = ap (map (over_on e.task (holds 1 e.a))) g.stacked ∙ sym (all_over e.task (holds 1 e.a) (stack_at sites e.object j)) ∙ ap (map pair) (sym (stands_now sites j e ∙ ap (λ (k : EntryKind). stack_after sites k e (last_call e.object j e.task) (stack_at sites e.object j)) is));
  opened = g.opened ∙ ap (map (clauses_at sites)) (sym (open_now j e ∙ ap (λ (k : EntryKind). open_after k e (open_at e.object j)) is ∙ all_kept_nil (open_at e.object j)));
}

-- the one inside goes on the stack
acceptor_out : (t : ℕ) → filter (λ u. not ((u == t) && true)) (t ∷ []) ++ [] ≡ []
acceptor_out t = append-nil _ ∙ ap (λ (b : Bool). cond (not (b && true)) (t ∷ []) []) (self_test t)

pub opens : LawOpens
opens sites o j d p t k site mask has_else one g =
    let e = accept_entry p t k o site mask has_else 0 in
    record {
      within = sym (inside_now j e ∙ ap (inside_after e.kind e) one ∙ acceptor_out t);
      waiting = g.waiting ∙ sym (waiting_now j e ∙ all_kept_nil (waiting o j));
      stacked = ap (λ ss. (t, unmarked) ∷ ss) g.stacked ∙ ap (map pair) (sym (stands_now sites j e));
      opened = ap (map (clauses_at sites)) (sym (open_now j e ∙ ap (λ (l : List Entry). l ++ e ∷ []) (append-nil_filter (open_at o j))));
    }
  where
    append-nil_filter : (xs : List Entry) → filter (λ a. false) xs ≡ []
    append-nil_filter xs = sym (append-nil _) ∙ none_kept xs

-- nothing was open
still_none : (clauses : Option (List ℕ)) (xs : List (List ℕ)) → clauses ≡ None → option_to_list clauses ≡ xs → [] ≡ xs
still_none clauses xs h g = sym (ap option_to_list h) ∙ g

pub accepts : LawAccepts
accepts sites o j d p t k site mask has_else one none g =
    let e = accept_entry p t k o site mask has_else 1 in
    record {
      within = sym (inside_now j e ∙ ap (inside_after e.kind e) one ∙ acceptor_out t);
      waiting = g.waiting ∙ sym (waiting_now j e ∙ all_kept_nil (waiting o j));
      stacked = ap (λ ss. (t, unmarked) ∷ ss) g.stacked ∙ ap (map pair) (sym (stands_now sites j e));
      opened = still_none d.opened _ none (g.opened ∙ ap (map (clauses_at sites)) (sym (open_now j e ∙ all_kept_nil (open_at o j))));
    }

pub signal_block : LawSignalBlock
signal_block sites o j d p t k c one none g =
    let e = asking kind.SignalBlock p t k o (pos c) (pos 1) in
    record {
      within = sym (inside_now j e ∙ ap (inside_after e.kind e) one ∙ acceptor_out t);
      waiting = g.waiting ∙ sym (waiting_now j e ∙ all_kept_nil (waiting o j));
      stacked = ap (λ ss. (t, unmarked) ∷ ss) g.stacked ∙ ap (map pair) (sym (stands_now sites j e));
      opened = still_none d.opened _ none (g.opened ∙ ap (map (clauses_at sites)) (sym (open_now j e ∙ all_kept_nil (open_at o j))));
    }

pub push_one : LawPush
push_one sites o j d p u g =
    let e = push p u o in
    record {
      within = g.within ∙ sym (inside_now j e ∙ all_kept_nil (inside o j));
      waiting = ap (filter (λ w. not (w.0 == u))) g.waiting ∙ sym (waiting_now j e ∙ append-nil _);
      stacked = ap (λ ss. (u, unmarked) ∷ ss) g.stacked ∙ ap (map pair) (sym (stands_now sites j e));
      opened = g.opened ∙ ap (map (clauses_at sites)) (sym (open_now j e ∙ all_kept_nil (open_at o j)));
    }

-- ---- a task is let in
off_case : (b : Bool) (s : OnStack) (ss : List OnStack) → map pair (cond (not b) (s ∷ ss) ss) ≡ cond (not b) (pair s ∷ map pair ss) (map pair ss)
off_case true s ss = refl
off_case false s ss = refl

pairs_off : (u : ℕ) (ss : List OnStack) → map pair (taken_off u ss) ≡ filter (λ s. not (s.0 == u)) (map pair ss)
pairs_off u [] = refl
pairs_off u (s ∷ ss) = off_case (s.task == u) s (taken_off u ss) ∙ ap (λ (l : List (ℕ × Mark)). cond (not (s.task == u)) (pair s ∷ l) l) (pairs_off u ss)

let_in : (sites : List Site) (o : ℕ) (j : Journal) (d : Door) (p u way clause : ℕ) (failed : Bool) (met : Option ℕ) → inside o j ≡ [] → IsDoor sites o j d
    → met_by u met (map pair (taken_off u (stack_at sites o j))) ≡ map pair (stack_after sites kind.Admit (admit_failed p u o way clause failed) (last_call o j u) (stack_at sites o j)) → IsDoor sites o (j ++ admit_failed p u o way clause failed ∷ []) (admitted u met d)
let_in sites o j d p u way clause failed met empty g tops =
    let e = admit_failed p u o way clause failed in
    record {
      within = sym (inside_now j e ∙ ap (inside_after kind.Admit e) empty);
      waiting = ap (filter (λ w. not (w.0 == u))) g.waiting ∙ sym (waiting_now j e ∙ append-nil _);
      stacked = ap (λ ss. met_by u met (filter (λ s. not (s.0 == u)) ss)) g.stacked ∙ ap (met_by u met) (sym (pairs_off u (stack_at sites o j))) ∙ tops ∙ ap (map pair) (sym (stands_now sites j e));
      opened = ap (map (clauses_at sites)) (sym (open_now j e ∙ none_kept (open_at o j)));
    }

unmet : (u : ℕ) (xs : List (ℕ × Mark)) → met_by u None xs ≡ xs
unmet u [] = refl
unmet u (x ∷ xs) = refl

pub admit_one : LawAdmit
admit_one sites o j d p u way clause failed off empty g =
    let ss = taken_off u (stack_at sites o j) in
    let_in sites o j d p u way clause failed None empty g (unmet u (map pair ss) ∙ ap (λ (b : Bool). map pair (admitted_past b u (last_call o j u) ss)) (sym off))

pub meets : LawMeets
meets sites o j d p u clause m s ss last top empty g =
    let c = or_0 (clause_for s.offers m) in
    let_in sites o j d p u 1 clause false (Some c) empty g
    (ap (λ (l : List OnStack). met_by u (Some c) (map pair l)) top
    ∙ sym (ap (λ (l : List OnStack). map pair (met_top u (last_call o j u) l)) top ∙ ap (λ (q : Option ℕ). map pair (met_top u q (s ∷ ss))) last))

-- ---- the opening, and new objects and tasks
inside_none : (o : ℕ) → inside o [] ≡ []
unfolding inside entries_at
inside_none o = refl

waiting_none : (o : ℕ) → waiting o [] ≡ []
unfolding waiting entries_at
waiting_none o = refl

open_none : (o : ℕ) → open_at o [] ≡ []
unfolding open_at entries_at
open_none o = refl

stack_none : (sites : List Site) (o : ℕ) → stack_at sites o [] ≡ []
unfolding stack_at entries_at
stack_none sites o = refl

nowhere : (sites : List Site) (o : ℕ) → IsDoor sites o [] no_door
nowhere sites o = record {
  within = sym (inside_none o);
  waiting = sym (waiting_none o);
  stacked = ap (map pair) (sym (stack_none sites o));
  opened = ap (map (clauses_at sites)) (sym (open_none o));
}

-- an entry that puts a task inside where nothing stands, and tells nothing else
new_inside : (k : EntryKind) (e : Entry) (t : ℕ) → lets_in k e ≡ Some t → inside_after k e [] ≡ t ∷ []
new_inside k e t h = ap option_to_list h

pub opening : LawOpening
opening sites opts = (
  nowhere sites,
  record {
    within = sym (inside_now [] (begin opts) ∙ ap (inside_after kind.Begin (begin opts)) (inside_none 0));
    waiting = sym (waiting_now [] (begin opts) ∙ ap (waiting_after kind.Begin (begin opts)) (waiting_none 0));
    stacked = ap (map pair) (sym (stands_now sites [] (begin opts) ∙ stack_none sites 0));
    opened = ap (map (clauses_at sites)) (sym (open_now [] (begin opts) ∙ ap (open_after kind.Begin (begin opts)) (open_none 0)));
  },
)

pub make_one : LawMake
make_one sites j e is g = record {
  within = sym (inside_now j e ∙ ap (λ (k : EntryKind). inside_after k e (inside e.object j)) is ∙ ap (λ (xs : List ℕ). filter (λ t. not (t == e.task)) xs ++ e.task ∷ []) (sym g.within));
  waiting = sym (waiting_now j e ∙ ap (λ (k : EntryKind). waiting_after k e (waiting e.object j)) is ∙ all_kept_nil (waiting e.object j) ∙ sym g.waiting);
  stacked = g.stacked ∙ ap (map pair) (sym (stands_now sites j e ∙ ap (λ (k : EntryKind). stack_after sites k e (last_call e.object j e.task) (stack_at sites e.object j)) is));
  opened = g.opened ∙ ap (map (clauses_at sites)) (sym (open_now j e ∙ ap (λ (k : EntryKind). open_after k e (open_at e.object j)) is ∙ all_kept_nil (open_at e.object j)));
}

spawner_out : (t u : ℕ) → filter (λ x. not ((x == t) || (x == u))) (t ∷ []) ++ u ∷ [] ≡ u ∷ []
spawner_out t u = ap (λ (b : Bool). cond (not (b || (t == u))) (t ∷ []) [] ++ u ∷ []) (self_test t)

pub spawn_one : LawSpawn
spawn_one sites j d e is one g = record {
  within = sym (inside_now j e ∙ ap (λ (k : EntryKind). inside_after k e (inside e.object j)) is ∙ ap (λ (xs : List ℕ). filter (λ x. not ((x == e.task) || (x == number e.a))) xs ++ number e.a ∷ []) one ∙ spawner_out e.task (number e.a));
  waiting = g.waiting ∙ sym (waiting_now j e ∙ ap (λ (k : EntryKind). waiting_after k e (waiting e.object j)) is ∙ all_kept_nil (waiting e.object j));
  stacked = g.stacked ∙ ap (map pair) (sym (stands_now sites j e ∙ ap (λ (k : EntryKind). stack_after sites k e (last_call e.object j e.task) (stack_at sites e.object j)) is));
  opened = g.opened ∙ ap (map (clauses_at sites)) (sym (open_now j e ∙ ap (λ (k : EntryKind). open_after k e (open_at e.object j)) is ∙ all_kept_nil (open_at e.object j)));
}

-- ---- an entry that tells nothing
not_so : (b : Bool) → not b ≡ true → b ≡ false
not_so true h = absurd cc
not_so false h = refl

neither : (a b : Bool) → (a || b) ≡ false → a ≡ false
neither true b h = absurd cc
neither false b h = refl

moved_kept : (b : Bool) (t : ℕ) (xs : List ℕ) → b ≡ false → filter (λ u. not ((u == t) && b)) xs ++ [] ≡ xs
moved_kept b t xs h = append-nil _ ∙ ap (λ (c : Bool). filter (λ u. not ((u == t) && c)) xs) h ∙ by xs
  where
    both_off : (c : Bool) → (c && false) ≡ false
    both_off true = refl
    both_off false = refl

    by : (ys : List ℕ) → filter (λ u. not ((u == t) && false)) ys ≡ ys
    by [] = refl
    by (y ∷ ys) = ap (λ (c : Bool). cond (not c) (y ∷ filter (λ u. not ((u == t) && false)) ys) (filter (λ u. not ((u == t) && false)) ys)) (both_off (y == t)) ∙ ap (λ (l : List ℕ). y ∷ l) (by ys)

still_inside : (k : EntryKind) (e : Entry) (xs : List ℕ) → is_still k e ≡ true → inside_after k e xs ≡ xs
still_inside kind.Begin e xs h = absurd cc
still_inside kind.Make e xs h = absurd cc
still_inside kind.Spawn e xs h = absurd cc
still_inside kind.Call e xs h = absurd cc
still_inside kind.Made e xs h = absurd cc
still_inside kind.Leave e xs h = absurd cc
still_inside kind.End e xs h = absurd cc
still_inside kind.Wait e xs h = absurd cc
still_inside kind.Gone e xs h = absurd cc
still_inside kind.Push e xs h = absurd cc
still_inside kind.Admit e xs h = absurd cc
still_inside kind.Accept e xs h = moved_kept (stacks_acceptor e) e.task xs (not_so (stacks_acceptor e) h)
still_inside kind.SignalBlock e xs h = moved_kept (holds 1 e.b) e.task xs (not_so (holds 1 e.b) h)
still_inside _ e xs h = all_kept_nil xs

still_waiting : (k : EntryKind) (e : Entry) (xs : List (ℕ × ℕ)) → is_still k e ≡ true → waiting_after k e xs ≡ xs
still_waiting kind.Call e xs h = absurd cc
still_waiting kind.Push e xs h = absurd cc
still_waiting kind.Admit e xs h = absurd cc
still_waiting _ e xs h = all_kept_nil xs

still_open_one : (b : Bool) (e : Entry) (xs : List Entry) → b ≡ false → filter (λ a. not b) xs ++ option_to_list (where_true b e) ≡ xs
still_open_one b e xs h = ap (λ (c : Bool). filter (λ a. not c) xs ++ option_to_list (where_true c e)) h ∙ all_kept_nil xs

still_opened : (k : EntryKind) (e : Entry) (xs : List Entry) → is_still k e ≡ true → open_after k e xs ≡ xs
still_opened kind.Admit e xs h = absurd cc
still_opened kind.Accept e xs h = still_open_one (holds 0 e.d) e xs (neither (holds 0 e.d) (holds 1 e.d) (not_so (stacks_acceptor e) h))
still_opened _ e xs h = all_kept_nil xs

still_stack : (sites : List Site) (k : EntryKind) (e : Entry) (m : Option ℕ) (ss : List OnStack) → is_still k e ≡ true → stack_after sites k e m ss ≡ ss
still_stack sites kind.Push e m ss h = absurd cc
still_stack sites kind.Admit e m ss h = absurd cc
still_stack sites kind.Leave e m ss h = absurd cc
still_stack sites kind.Accept e m ss h = ap (λ (b : Bool). put_top (where_true b e.task) (offered sites e) ss) (not_so (stacks_acceptor e) h)
still_stack sites kind.SignalBlock e m ss h = ap (λ (b : Bool). put_top (where_true b e.task) [] ss) (not_so (holds 1 e.b) h)
still_stack sites _ e m ss h = refl

pub still : LawStill
still sites j d e h g = record {
  within = g.within ∙ sym (inside_now j e ∙ still_inside e.kind e (inside e.object j) h);
  waiting = g.waiting ∙ sym (waiting_now j e ∙ still_waiting e.kind e (waiting e.object j) h);
  stacked = g.stacked ∙ ap (map pair) (sym (stands_now sites j e ∙ still_stack sites e.kind e (last_call e.object j e.task) (stack_at sites e.object j) h));
  opened = g.opened ∙ ap (map (clauses_at sites)) (sym (open_now j e ∙ still_opened e.kind e (open_at e.object j) h));
}
