-- No event is raised in constructors and destructors that nobody wrote, and they are behind all that are written.
use Rattle.std.proofs.Common.{◌≡◌, ℕ, zero, suc, ◌-◌, ◌≤◌, ◌<◌, Bool, true, false, List, [], ◌∷◌, ◌++◌, Option, Some, None, length, subst, arith}
use Rattle.std.specs.Prelude.{slice_get}
use Rattle.uc_tree.specs.declared.kinds.Role.{Role}
use Rattle.uc_tree.specs.declared.kinds.Role.TheVariants as role
use Rattle.uc_tree.specs.declared.kinds.Kind.{Kind}
use Rattle.uc_tree.specs.declared.kinds.Kind.TheVariants as kind
use Rattle.uc_tree.specs.Numbering.{Defined, is_mutex, routines_of}
use Rattle.uc_tree.specs.Cells.{leading_cells}
use Rattle.uc_tree.specs.declared.kinds.Param.{Param}
use Rattle.uc_tree.specs.Objects.{APlain, AMutex, ACluster, AProcessor, written_at, Making, ClassField, Unwritten, has_execution, class_at, class_shape, fields_of, unwritten_of}
use Rattle.uc_tree.specs.Programs.{Class, Program}
use Rattle.uc_resolve.specs.Resolve.{args_by, called_by, constructed, made_by, params_of, Own, all_unwritten, build, clean_up, construction, construction_ends, destruction, ending, enlivened, field_built, field_making, field_left, field_place, fields_built, fields_left, forgotten, freed, length_in_class, nowhere, routines_meant, set_up, source_of, started_in, taken_down, unwritten_body, unwritten_meant}
use Rattle.uc_tree.specs.Source as source
use Rattle.uc_code.specs.Silent.{silent, silent_all, silent_clean, silent_expr, silent_exprs}
use Rattle.uc_lower.specs.RoutineLayout.{last_of}
use Rattle.uc_lower.proofs.RoutineLayoutLemmas.{meant_long}

args_silent : (p : Program) (xs : List Param) → silent_exprs (args_by xs [])
args_silent p [] = tt
args_silent p (x ∷ xs) = tt

called_silent : (p : Program) (i : ℕ) (wanted : Role) (place : source.Expr) (o : Option ℕ) → silent_expr place → silent_expr (called_by p i wanted place [] o)
called_silent p i wanted place None h = h
called_silent p i wanted place (Some r) h = (h, args_silent p (params_of p r))

made_silent : (p : Program) (i : ℕ) (place : source.Expr) (o : Option ℕ) → silent_expr place → silent_expr (made_by p i place [] o)
made_silent p i place None h = (h, tt)
made_silent p i place (Some r) h = (h, args_silent p (params_of p r))

constructed_silent : (p : Program) (m : Making) (place : source.Expr) → silent_expr place → silent_expr (constructed p m place [])
constructed_silent p (APlain i) place h = called_silent p i role.Constructor place (written_at p i role.Constructor) h
constructed_silent p (AMutex i) place h = made_silent p i place (written_at p i role.Constructor) h
constructed_silent p ACluster place h = (h, tt)
constructed_silent p AProcessor place h = (h, tt)

build_silent : (p : Program) (line : ℕ) (m : Making) (len : Option ℕ) (place : source.Expr) → silent_expr place → silent (build p line m len place [])
build_silent p line m None place h = constructed_silent p m place h
build_silent p line m (Some n) place h = tt

clean_silent : (p : Program) (m : Making) (len : Option ℕ) (place : source.Expr) → silent_clean (clean_up p m len place)
clean_silent p m None place = tt
clean_silent p m (Some n) place = tt

field_silent : (p : Program) (o : Option Making) (f : ClassField) (len : Option ℕ) (place : source.Expr) (rest : source.Stmts) → silent_expr place → silent_all rest → silent_all (field_built p o f len place [] rest)
field_silent p None f len place rest s h = h
field_silent p (Some m) f len place rest s h = (build_silent p 0 m len place s, (clean_silent p m len place, h))

left_silent : (p : Program) (o : Option Making) (len : Option ℕ) (place : source.Expr) (rest : source.Stmts) → silent_all rest → silent_all (field_left p o len place rest)
left_silent p None len place rest h = h
left_silent p (Some m) len place rest h = (clean_silent p m len place, h)

module _ (p : Program) (c : Class) (i : ℕ) where
  all_built : (fs : List ClassField) (n : ℕ) (rest : source.Stmts) → silent_all rest → silent_all (fields_built p c i [] (nowhere p) fs n rest)
  all_built [] n rest h = h
  all_built (f ∷ fs) n rest h =
      field_silent p (field_making p f) f (length_in_class p c i f) (field_place (class_shape p i) n Own) (fields_built p c i [] (nowhere p) fs (suc n) rest) tt (all_built fs (suc n) rest h)

  all_left : (fs : List ClassField) (n : ℕ) (rest : source.Stmts) → silent_all rest → silent_all (fields_left p c i fs n rest)
  all_left [] n rest h = h
  all_left (f ∷ fs) n rest h =
      left_silent p (field_making p f) (length_in_class p c i f) (field_place (class_shape p i) n Own) (fields_left p c i fs (suc n) rest) (all_left fs (suc n) rest h)

-- what builds and destroys a coroutine resumes none

set_up_silent : (p : Program) (b : Bool) (i : ℕ) (rest : source.Stmts) → silent_all rest → silent_all (set_up p b i rest)
set_up_silent p true i rest h = (tt, (tt, h))
set_up_silent p false i rest h = h

started_silent : (p : Program) (b : Bool) (rest : source.Stmts) → silent_all rest → silent_all (started_in p b rest)
started_silent p true rest h = (tt, h)
started_silent p false rest h = h

enlivened_silent : (p : Program) (b : Bool) → silent_all (enlivened p b)
enlivened_silent p true = (tt, tt)
enlivened_silent p false = tt

taken_silent : (p : Program) (b : Bool) (rest : source.Stmts) → silent_all rest → silent_all (taken_down p b rest)
taken_silent p true rest h = (tt, h)
taken_silent p false rest h = h

forgotten_silent : (p : Program) (b : Bool) (rest : source.Stmts) → silent_all rest → silent_all (forgotten p b rest)
forgotten_silent p true rest h = (tt, h)
forgotten_silent p false rest h = h

freed_silent : (p : Program) (k : Kind) (i : ℕ) (rest : source.Stmts) → silent_all rest → silent_all (freed p k i rest)
freed_silent p kind.Class i rest h = h
freed_silent p kind.Coroutine i rest h = h
freed_silent p kind.Monitor i rest h = (tt, h)
freed_silent p kind.Cormonitor i rest h = (tt, h)
freed_silent p kind.Task i rest h = (tt, h)
freed_silent p kind.Event i rest h = h

ending_silent : (p : Program) (b : Bool) (rest : source.Stmts) → silent_all rest → silent_all (ending p b rest)
ending_silent p true rest h = (tt, h)
ending_silent p false rest h = h

built_silent : (p : Program) (o : Option Class) (i : ℕ) → silent_all (construction p o i [] (nowhere p) (construction_ends p o i))
built_silent p None i = tt
built_silent p (Some c) i =
    let within : source.Stmts = started_in p (has_execution c.kind) (enlivened p (has_execution c.kind)) in
    let built : source.Stmts = fields_built p c i [] (nowhere p) (fields_of c.members) (leading_cells c.kind) within in
    freed_silent p c.kind i (set_up p (has_execution c.kind) i built)
    (set_up_silent p (has_execution c.kind) i built
    (all_built p c i (fields_of c.members) (leading_cells c.kind) within (started_silent p (has_execution c.kind) (enlivened p (has_execution c.kind)) (enlivened_silent p (has_execution c.kind)))))

destroyed_silent : (p : Program) (o : Option Class) (i : ℕ) → silent_all (destruction p o i source.Nil)
destroyed_silent p None i = tt
destroyed_silent p (Some c) i =
    let within : source.Stmts = taken_down p (has_execution c.kind) source.Nil in
    let left : source.Stmts = fields_left p c i (fields_of c.members) (leading_cells c.kind) within in
    ending_silent p (is_mutex c.kind) (forgotten p (has_execution c.kind) left)
    (forgotten_silent p (has_execution c.kind) left
    (all_left p c i (fields_of c.members) (leading_cells c.kind) within (taken_silent p (has_execution c.kind) source.Nil tt)))

body_silent : (p : Program) (r : Role) (i : ℕ) → silent_all (unwritten_body p r i)
body_silent p role.Plain i = tt
body_silent p role.Constructor i = built_silent p (class_at p i) i
body_silent p role.Destructor i = destroyed_silent p (class_at p i) i

unwritten_silent : (p : Program) (us : List Unwritten) (k : ℕ) (r : source.Routine) → slice_get (all_unwritten p us) k ≡ Some r → silent_all r.body
unwritten_silent p [] k r e = absurd (cc)
unwritten_silent p (u ∷ us) zero r e =
    let is : unwritten_meant p u ≡ r = cc in
    subst (λ (x : source.Routine). silent_all x.body) is (body_silent p u.role u.class)
unwritten_silent p (u ∷ us) (suc k) r e = unwritten_silent p us k r e

behind : (xs ys : List source.Routine) (k : ℕ) (r : source.Routine) → length xs ≤ k → slice_get (xs ++ ys) k ≡ Some r → ((j : ℕ) → slice_get ys j ≡ Some r → silent_all r.body) → silent_all r.body
behind [] ys k r l e f = f k e
behind (x ∷ xs) ys zero r l e f = absurd (omega arith)
behind (x ∷ xs) ys (suc k) r l e f = behind xs ys k r (omega arith) e f

-- the last that is written

pub last_few : (ds : List Defined) → last_of ds ≤ length ds
last_few [] = omega arith
last_few (d ∷ ds) = omega arith

last_behind : (ds : List Defined) (k : ℕ) → last_of ds < k → length ds ≤ k
last_behind [] k h = omega arith
last_behind (d ∷ ds) k h = omega arith

pub last_is : (ds : List Defined) (n : ℕ) → n ≡ length ds → n - 1 ≡ last_of ds
last_is [] n e = omega (arith, e)
last_is (d ∷ ds) n e = omega (arith, e)

pub silent_behind : (p : Program) (k : ℕ) (r : source.Routine) → slice_get (source_of p).routines k ≡ Some r → last_of (routines_of p) < k → silent_all r.body
silent_behind p k r e l =
    behind (routines_meant p (routines_of p) 0 0 0) (all_unwritten p (unwritten_of p)) k r
    (let n = meant_long p (routines_of p) 0 0 0 in let m = last_behind (routines_of p) k l in omega (arith, n, m)) e (λ j q. unwritten_silent p (unwritten_of p) j r q)
