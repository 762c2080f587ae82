-- The execution of a coroutine in its constructors and its destructor, and what stands round those of a mutex object.
use Rattle.std.proofs.Common.{◌≡◌, ℕ, zero, suc, ◌+◌, ◌*◌, ◌≤◌, ◌<◌, Bool, true, false, List, [], ◌∷◌, Option, Some, None, if◌then◌else◌, length, refl, ap, sym, subst, ◌∙◌, arith}
use Rattle.std.specs.Prelude.{slice_get}
use Rattle.uc_tree.specs.declared.kinds.Kind.{Kind}
use Rattle.uc_tree.specs.declared.kinds.Kind.TheVariants as kind
use Rattle.uc_tree.specs.Cells.{classes_of, leading_cells}
use Rattle.uc_tree.specs.Numbering.{is_mutex}
use Rattle.uc_tree.specs.Objects.{has_execution, is_task, class_at, fields_of}
use Rattle.uc_tree.specs.Programs.{Class, Init, Program}
use Rattle.uc_tree.specs.Source.{CleanUp, Unwinds, Forgets, Ends, Frees, Stmts, Scoped, Built, OfTasks, SetUp, TakeDown}
use Rattle.uc_resolve.specs.Resolve.{Scope, construction_ends, ending, enlivened, fields_built, fields_left, forgotten, freed, has_coroutines, has_tasks, main_at, set_up, started_in, taken_down}
use Rattle.uc_code.specs.declared.op.Op.TheVariants as op
use Rattle.uc_code.specs.declared.rows.Cleaning.{Cleaning}
use Rattle.uc_code.specs.declared.rows.Cleaning.TheVariants as cleaning
use Rattle.uc_code.specs.declared.rows.CodeMark.{CodeMark}
use Rattle.uc_code.specs.declared.rows.Opening.TheVariants as opening
use Rattle.uc_code.specs.Drafts.{Draft}
use Rattle.uc_code.specs.Layout.{laid_in}
use Rattle.uc_code.specs.ObjectCalls.{Cleans, TakesDown, IsForgotten, Ended, Freed}
use Rattle.uc_code.specs.OpenRows.{opened}
use Rattle.uc_code.specs.Emits.{Puts, clean_length}
use Rattle.uc_code.specs.CodeShapes.{Kept}
use Rattle.uc_code.specs.Lowered.{StmtAt, StmtsAt}
use Rattle.uc_lower_expr.specs.DraftGrowth.{Adds, OpCode}
use Rattle.uc_lower_expr.proofs.Adding.{adds_as, adds_nothing}
use Rattle.uc_lower_stmt.specs.LowersStatement.{Lowers, scope_of}
use Rattle.uc_lower_stmt.proofs.Joined.{lowers_adds}
use Rattle.uc_lower_stmt.proofs.Laying.{lays_as, lays_join, lays_nothing, lays_one}
use Rattle.uc_lower_expr.specs.Meanings.{is_mutex_at, is_mutex_in}
use Rattle.uc_lower_class.specs.Bodies.{freed_at, freed_in, freed_main, mutex_by, part_end}
use Rattle.uc_lower_class.specs.Fields.{all_built, all_left, all_room, enliven_room, fields_room, forget_count, left_count, left_room, live_room, mutex_count, own_close, set_up_room, start_room, take_down_room}
use Rattle.uc_lower_class.specs.OpenParts.{Constructs, LeavesAll, Opens}
use Rattle.uc_lower_class.proofs.Leaving.{leaves_scope}
use Rattle.uc_lower_class.proofs.Parting.{constructs_as, constructs_does, constructs_nothing, constructs_then, puts_adds}

-- in a constructor

pub set_up_on : (p : Program) (b : Bool) (i r : ℕ) (ws us : List Cleaning) (d0 d1 new : Draft) → b ≡ true → r ≡ main_at p i → Adds 1 (OpCode 0 (op.Coroutine r)) d0 d1 → ((c : CleanUp) → Cleans c cleaning.Forget → Constructs (clean_length cleaning.Forget + 2) (λ ss. Built c ss) ws d1 us new) → Constructs (set_up_room b) (set_up p b i) ws d0 us new
set_up_on p b i r ws us d0 d1 new e m h g =
    let does : Puts 0 1 (λ code. StmtAt code d0.marks (OfTasks (SetUp (main_at p i)))) d0 d1 = puts_adds (subst (λ (k : ℕ). Adds 1 (OpCode 0 (op.Coroutine k)) d0 d1) m h) in
    subst (λ (x : Bool). Constructs (set_up_room x) (set_up p x i) ws d0 us new) (sym e) (
    constructs_as (constructs_then (constructs_does (OfTasks (SetUp (main_at p i))) ws refl (let l = does.kept.longer in omega arith) does) (g Forgets IsForgotten)) (omega arith) (λ ss. refl))

pub set_up_none : (p : Program) (b : Bool) (i : ℕ) (ws : List Cleaning) (old : Draft) → b ≡ false → Constructs (set_up_room b) (set_up p b i) ws old ws old
set_up_none p b i ws old e = subst (λ (x : Bool). Constructs (set_up_room x) (set_up p x i) ws old ws old) (sym e) (constructs_as (constructs_nothing ws old) (omega arith) (λ ss. refl))

pub start_on : (p : Program) (b : Bool) (ws us : List Cleaning) (old new : Draft) → b ≡ true → ((c : CleanUp) → Cleans c cleaning.TakeDown → Constructs (clean_length cleaning.TakeDown + 2) (λ ss. Built c ss) ws old us new) → Constructs (start_room b) (started_in p b) ws old us new
start_on p b ws us old new e g = subst (λ (x : Bool). Constructs (start_room x) (started_in p x) ws old us new) (sym e) (constructs_as (g Unwinds TakesDown) (omega arith) (λ ss. refl))

pub start_none : (p : Program) (b : Bool) (ws : List Cleaning) (old : Draft) → b ≡ false → Constructs (start_room b) (started_in p b) ws old ws old
start_none p b ws old e = subst (λ (x : Bool). Constructs (start_room x) (started_in p x) ws old ws old) (sym e) (constructs_as (constructs_nothing ws old) (omega arith) (λ ss. refl))

pub enliven_on : (p : Program) (b : Bool) (ms : List CodeMark) (old new : Draft) → b ≡ true → Adds 1 (OpCode 0 op.Live) old new → Adds (enliven_room b) (λ code. StmtsAt code ms 0 (enlivened p b)) old new
enliven_on p b ms old new e h =
    subst (λ (x : Bool). Adds (enliven_room x) (λ code. StmtsAt code ms 0 (enlivened p x)) old new) (sym e) (
    adds_as h (λ code a z w. record { middle = z; first = w; second = record { end = refl } }))

pub enliven_none : (p : Program) (b : Bool) (ms : List CodeMark) (old : Draft) → b ≡ false → Adds (enliven_room b) (λ code. StmtsAt code ms 0 (enlivened p b)) old old
enliven_none p b ms old e = subst (λ (x : Bool). Adds (enliven_room x) (λ code. StmtsAt code ms 0 (enlivened p x)) old old) (sym e) (adds_nothing old)

-- what follows the body, by the class
pub ends_as : (p : Program) (o : Option Class) (i : ℕ) (ms : List CodeMark) (old new : Draft) → ((p : Program) (ms : List CodeMark) → Adds (enliven_room (has_coroutines p o)) (λ code. StmtsAt code ms 0 (enlivened p (has_coroutines p o))) old new) → Adds (live_room o) (λ code. StmtsAt code ms 0 (construction_ends p o i)) old new
ends_as p None i ms old new h = h p ms
ends_as p (Some c) i ms old new h = h p ms

pub live_is : (p : Program) (o : Option Class) → enliven_room (has_coroutines p o) ≡ live_room o
live_is p None = refl
live_is p (Some c) = refl

pub class_on : (p : Program) (i : ℕ) (c : Class) (b : Bool) (inits : List Init) (ws us vs ts : List Cleaning) (d0 d1 d2 d3 : Draft) → b ≡ has_execution c.kind → Constructs (set_up_room b) (set_up p b i) ws d0 us d1
    → Constructs (fields_room inits (fields_of c.members)) (fields_built p c i inits (scope_of d1) (fields_of c.members) (leading_cells c.kind)) us d1 vs d2 → Constructs (start_room b) (started_in p b) vs d2 ts d3
    → Constructs (all_room inits (Some c)) (all_built p i inits (scope_of d0) (Some c)) ws d0 ts d3
class_on p i c b inits ws us vs ts d0 d1 d2 d3 e h g k =
    let scope : scope_of d1 ≡ scope_of d0 = ap scope_of h.rest in
    let fields : Constructs (fields_room inits (fields_of c.members)) (fields_built p c i inits (scope_of d0) (fields_of c.members) (leading_cells c.kind)) us d1 vs d2 =
    subst (λ (s : Scope). Constructs (fields_room inits (fields_of c.members)) (fields_built p c i inits s (fields_of c.members) (leading_cells c.kind)) us d1 vs d2) scope g in
    let first : Constructs (set_up_room (has_execution c.kind)) (set_up p (has_execution c.kind) i) ws d0 us d1 = subst (λ (x : Bool). Constructs (set_up_room x) (set_up p x i) ws d0 us d1) e h in
    let last : Constructs (start_room (has_execution c.kind)) (started_in p (has_execution c.kind)) vs d2 ts d3 = subst (λ (x : Bool). Constructs (start_room x) (started_in p x) vs d2 ts d3) e k in
    constructs_then first (constructs_then fields last)

-- in a destructor

pub forget_on : (p : Program) (b : Bool) (old new : Draft) → b ≡ true → new ≡ opened (opening.Object cleaning.Forget 0) old → Kept (laid_in old) (laid_in new) → LeavesAll (own_close * forget_count b) (forget_count b) (forgotten p b) old new
forget_on p b old new e o k = subst (λ (x : Bool). LeavesAll (own_close * forget_count x) (forget_count x) (forgotten p x) old new) (sym e) (leaves_scope (own_close * 1) Forgets cleaning.Forget old new (omega arith) o k IsForgotten tt)

pub forget_none : (p : Program) (b : Bool) (old : Draft) → b ≡ false → LeavesAll (own_close * forget_count b) (forget_count b) (forgotten p b) old old
forget_none p b old e = subst (λ (x : Bool). LeavesAll (own_close * forget_count x) (forget_count x) (forgotten p x) old old) (sym e) (lays_as (lays_nothing 0 old) refl (λ ss. refl) (omega arith) (omega arith) (omega arith) (omega arith) refl)

pub ending_on : (p : Program) (b : Bool) (old new : Draft) → b ≡ true → new ≡ opened (opening.Object cleaning.End 0) old → Kept (laid_in old) (laid_in new) → LeavesAll (own_close * mutex_count b) (mutex_count b) (ending p b) old new
ending_on p b old new e o k = subst (λ (x : Bool). LeavesAll (own_close * mutex_count x) (mutex_count x) (ending p x) old new) (sym e) (leaves_scope (own_close * 1) Ends cleaning.End old new (omega arith) o k Ended tt)

pub ending_none : (p : Program) (b : Bool) (old : Draft) → b ≡ false → LeavesAll (own_close * mutex_count b) (mutex_count b) (ending p b) old old
ending_none p b old e = subst (λ (x : Bool). LeavesAll (own_close * mutex_count x) (mutex_count x) (ending p x) old old) (sym e) (lays_as (lays_nothing 0 old) refl (λ ss. refl) (omega arith) (omega arith) (omega arith) (omega arith) refl)

pub down_on : (p : Program) (b : Bool) (old new : Draft) → b ≡ true → Adds 1 (OpCode 0 op.UnwindCoroutine) old new → LeavesAll (take_down_room b) 0 (taken_down p b) old new
down_on p b old new e h =
    let does : Lowers 0 1 0 0 0 (λ code. StmtAt code old.marks (OfTasks TakeDown)) (scope_of old) old new = lowers_adds 0 0 h in
    subst (λ (x : Bool). LeavesAll (take_down_room x) 0 (taken_down p x) old new) (sym e) (lays_as (lays_one {s = OfTasks TakeDown} 0 does) refl (λ ss. refl) (omega arith) (omega arith) (omega arith) (omega arith) refl)

pub down_none : (p : Program) (b : Bool) (old : Draft) → b ≡ false → LeavesAll (take_down_room b) 0 (taken_down p b) old old
down_none p b old e = subst (λ (x : Bool). LeavesAll (take_down_room x) 0 (taken_down p x) old old) (sym e) (lays_nothing 0 old)

pub left_on : (p : Program) (i : ℕ) (c : Class) (m b : Bool) (d0 d1 d2 d3 d4 : Draft) → m ≡ is_mutex c.kind → b ≡ has_execution c.kind → LeavesAll (own_close * mutex_count m) (mutex_count m) (ending p m) d0 d1 → LeavesAll (own_close * forget_count b) (forget_count b) (forgotten p b) d1 d2
    → Opens (length (fields_of c.members)) (fields_left p c i (fields_of c.members) (leading_cells c.kind)) d2 d3 → LeavesAll (take_down_room b) 0 (taken_down p b) d3 d4 → LeavesAll (left_room (Some c)) (left_count (Some c)) (all_left p i (Some c)) d0 d4
left_on p i c m b d0 d1 d2 d3 d4 em e o h g k =
    let zero : LeavesAll (own_close * mutex_count (is_mutex c.kind)) (mutex_count (is_mutex c.kind)) (ending p (is_mutex c.kind)) d0 d1 = subst (λ (x : Bool). LeavesAll (own_close * mutex_count x) (mutex_count x) (ending p x) d0 d1) em o in
    let first : LeavesAll (own_close * forget_count (has_execution c.kind)) (forget_count (has_execution c.kind)) (forgotten p (has_execution c.kind)) d1 d2 = subst (λ (x : Bool). LeavesAll (own_close * forget_count x) (forget_count x) (forgotten p x) d1 d2) e h in
    let last : LeavesAll (take_down_room (has_execution c.kind)) 0 (taken_down p (has_execution c.kind)) d3 d4 = subst (λ (x : Bool). LeavesAll (take_down_room x) 0 (taken_down p x) d3 d4) e k in
    lays_as (lays_join zero (lays_join first (lays_join g last))) (g.scope ∙ (h.scope ∙ o.scope)) (λ ss. refl) (omega arith) (omega arith) (omega arith) (omega arith) (omega arith)

-- what a mutex object that is built stands in

main_case : (p : Program) (i : ℕ) (k : Kind) (rest : Stmts) → is_mutex k ≡ true → Scoped (Frees (if is_task k then Some (main_at p i) else None)) rest ≡ freed p k i rest
main_case p i kind.Class rest h = cc
main_case p i kind.Coroutine rest h = cc
main_case p i kind.Monitor rest h = refl
main_case p i kind.Cormonitor rest h = refl
main_case p i kind.Task rest h = refl
main_case p i kind.Event rest h = cc

not_freed : (p : Program) (i : ℕ) (k : Kind) (rest : Stmts) → is_mutex k ≡ false → rest ≡ freed p k i rest
not_freed p i kind.Class rest h = refl
not_freed p i kind.Coroutine rest h = refl
not_freed p i kind.Monitor rest h = cc
not_freed p i kind.Cormonitor rest h = cc
not_freed p i kind.Task rest h = cc
not_freed p i kind.Event rest h = refl

class_freed : (p : Program) (i : ℕ) (o : Option Class) (rest : Stmts) → is_mutex_in o ≡ true → Scoped (Frees (freed_main p i o)) rest ≡ freed_in p i o rest
class_freed p i None rest h = cc
class_freed p i (Some c) rest h = main_case p i c.kind rest h

class_not_freed : (p : Program) (i : ℕ) (o : Option Class) (rest : Stmts) → is_mutex_in o ≡ false → rest ≡ freed_in p i o rest
class_not_freed p i None rest h = refl
class_not_freed p i (Some c) rest h = not_freed p i c.kind rest h

-- what is reckoned for it
abbrev FreedOpens : Program → Option ℕ → Draft → Draft → Type 0
FreedOpens p o old new = LeavesAll (own_close * mutex_count (mutex_by p o)) (mutex_count (mutex_by p o)) (freed_at p o) old new

pub freed_on : (p : Program) (o : Option ℕ) (i : ℕ) (main : Option ℕ) (old new : Draft) → o ≡ Some i → is_mutex_at p i ≡ true → main ≡ freed_main p i (class_at p i) → new ≡ opened (opening.Object (cleaning.Free main) 0) old → Kept (laid_in old) (laid_in new) → FreedOpens p o old new
freed_on p o i main old new oe m me e k =
    let one = leaves_scope (own_close * 1) (Frees main) (cleaning.Free main) old new (omega arith) e k (Freed main) tt in
    let count : mutex_count (is_mutex_at p i) ≡ 1 = ap mutex_count m in
    subst (λ (x : Option ℕ). FreedOpens p x old new) (sym oe) (
    lays_as one refl (λ ss. ap (λ (x : Option ℕ). Scoped (Frees x) ss) me ∙ class_freed p i (class_at p i) ss m) (omega (arith, count)) (omega arith) (omega arith) (omega (arith, count)) refl)

pub freed_off : (p : Program) (o : Option ℕ) (i : ℕ) (old : Draft) → o ≡ Some i → is_mutex_at p i ≡ false → FreedOpens p o old old
freed_off p o i old oe m =
    subst (λ (x : Option ℕ). FreedOpens p x old old) (sym oe) (lays_as (lays_nothing 0 old) refl (λ ss. class_not_freed p i (class_at p i) ss m) (omega arith) (omega arith) (omega arith) (omega arith) refl)

pub freed_none : (p : Program) (o : Option ℕ) (old : Draft) → o ≡ None → FreedOpens p o old old
freed_none p o old oe = subst (λ (x : Option ℕ). FreedOpens p x old old) (sym oe) (lays_as (lays_nothing 0 old) refl (λ ss. refl) (omega arith) (omega arith) (omega arith) (omega arith) refl)

pub mutex_few : (b : Bool) → own_close * mutex_count b ≤ part_end
mutex_few true = omega arith
mutex_few false = omega arith

-- the main of a task
pub main_is : (p : Program) (i : ℕ) (o : Option Class) (r : ℕ) → has_tasks p o ≡ true → r ≡ main_at p i → Some r ≡ freed_main p i o
main_is p i None r h e = cc
main_is p i (Some c) r h e = ap Some e ∙ sym (ap (λ (b : Bool). if b then Some (main_at p i) else None) h)

pub main_none : (p : Program) (i : ℕ) (o : Option Class) → has_tasks p o ≡ false → None ≡ freed_main p i o
main_none p i None h = refl
main_none p i (Some c) h = sym (ap (λ (b : Bool). if b then Some (main_at p i) else None) h)

task_here : (p : Program) (i : ℕ) (cs : List Class) → has_tasks p (slice_get cs i) ≡ true → i < length cs
task_here p i [] h = cc
task_here p zero (c ∷ cs) h = omega arith
task_here p (suc i) (c ∷ cs) h = let l = task_here p i cs h in omega arith

pub task_within : (p : Program) (i : ℕ) → has_tasks p (class_at p i) ≡ true → i < length (classes_of p.items)
task_within p i h = task_here p i (classes_of p.items) h
