-- Routines are laid out one after another.
use Rattle.std.proofs.Common.{◌≡◌, ℕ, zero, suc, ◌+◌, ◌*◌, ◌≤◌, ◌<◌, max, true, false, List, [], ◌∷◌, ◌++◌, Option, Some, length, length-take, take, refl, ap, sym, subst, ◌∙◌, arith, append_assoc}
use Rattle.std.specs.Prelude.{slice_get, slice_set}
use Rattle.std.proofs.lemmas.List.{append-nil, length-append}
use Rattle.uc_tree.specs.Gathered.{gathered_all}
use Rattle.uc_tree.specs.Numbering.{Defined, own_texts, own_sites}
use Rattle.uc_tree.specs.Objects.{Unwritten}
use Rattle.uc_tree.specs.Programs.{Program, Routine}
use Rattle.uc_tree.specs.Source as source
use Rattle.uc_resolve.specs.Resolve.{all_unwritten, place_by, routine_scope, routine_meant, routines_meant, unwritten_meant}
use Rattle.uc_code.specs.declared.rows.MainOf.TheVariants as main_of
use Rattle.uc_code.specs.declared.rows.RoutineCode.{RoutineCode}
use Rattle.uc_code.specs.Drafts.{Draft}
use Rattle.uc_code.specs.Layout.{Laid, laid_in}
use Rattle.uc_code.specs.CodeShapes.{Kept, Stable}
use Rattle.uc_code.specs.declared.op.Op.TheVariants as op
use Rattle.uc_code.specs.declared.rows.CodeMark.TheVariants as mark
use Rattle.uc_code.specs.Lowered.{StmtsAt, BodyAt, RoutineAt, RoutinesAt}
use Rattle.uc_code.proofs.Stable.{kept_same, main_stable, one_stable}
use Rattle.uc_lower_expr.proofs.Settled.{both}
use Rattle.uc_lower_stmt.proofs.Kept.{stmts_stable}
use Rattle.uc_tree.specs.declared.limits.TheConstants.{OPS_FOR_SIZE}
use Rattle.uc_tree.specs.declared.kinds.Role.{Role}
use Rattle.uc_tree.specs.declared.kinds.Role.TheVariants as role
use Rattle.uc_tree.specs.Numbering.{is_plain}
use Rattle.uc_lower_stmt.specs.Routines.{frame_cells}
use Rattle.uc_lower_stmt.specs.LowersStatement.{sizes_at}
use Rattle.uc_lower_class.specs.Bodies.{builder_room}
use Rattle.uc_lower.specs.RoutineLayout.{BeginBefore, Lays, LaysAll, defined_sites, defined_texts, last_of, own_room, role_room_of, routine_room, unwritten_rooms, written_room}
use Rattle.uc_code.specs.declared.rows.HandlerRow.{HandlerRow}
use Rattle.uc_code.specs.RowGrowth.{BeginBy}
use Rattle.uc_lower_stmt.specs.RowFit.{RoutineRows}
use Rattle.uc_lower_stmt.specs.SourceRows.{routine_rows, routines_rows}

-- the statements of a routine and its end
body_stable : (q : source.Purpose) (n line : ℕ) (ss : source.Stmts) → Stable (λ code. BodyAt code q n line ss)
body_stable source.TaskMain n line ss = main_stable line (λ code ms. StmtsAt code ms line ss) (λ ms. stmts_stable ms line ss) main_of.Task n
body_stable source.CoroutineMain n line ss = main_stable line (λ code ms. StmtsAt code ms line ss) (λ ms. stmts_stable ms line ss) main_of.Coroutine n
body_stable source.Procedure n line ss = both (stmts_stable (mark.Body n ∷ []) line ss) (one_stable op.Return 0)
body_stable source.Function n line ss = both (stmts_stable (mark.Body n ∷ []) line ss) (both (one_stable op.NoReturn line) (one_stable op.Return 0))
body_stable source.Builder n line ss = both (stmts_stable (mark.Body n ∷ []) 0 ss) (one_stable op.Return 0)

routine_moves : (old new : Laid) (l n : ℕ) (r : source.Routine) (c : RoutineCode) (a z : ℕ) → z ≤ length old.ops → Kept old new → RoutineAt old l n r c a z → RoutineAt new l n r c a z
routine_moves old new l n r c a z f k h = record {
  entry = h.entry;
  cells = h.cells;
  params = h.params;
  written = h.written;
  body = (body_stable r.purpose (max n l) r.line r.body).moves old new a z (kept_same old new a z f k) h.body;
}

routine_rises : (code : Laid) (l n : ℕ) (r : source.Routine) (c : RoutineCode) (a z : ℕ) → RoutineAt code l n r c a z → a ≤ z
routine_rises code l n r c a z h = (body_stable r.purpose (max n l) r.line r.body).rises code a z h.body

routines_rise : (code : Laid) (l n : ℕ) (rs : List source.Routine) (cs : List RoutineCode) (a z : ℕ) → RoutinesAt code l n rs cs a z → a ≤ z
routines_rise code l n [] [] a z h = let e = h.end in omega arith
routines_rise code l n [] (c ∷ cs) a z h = absurd h
routines_rise code l n (r ∷ rs) [] a z h = absurd h
routines_rise code l n (r ∷ rs) (c ∷ cs) a z h = let f = routine_rises code l n r c a h.middle h.first in let k = routines_rise code l (n + 1) rs cs h.middle z h.second in omega arith

moves : (old new : Laid) → Kept old new → (l n : ℕ) (rs : List source.Routine) (cs : List RoutineCode) (a z : ℕ) → z ≤ length old.ops → RoutinesAt old l n rs cs a z → RoutinesAt new l n rs cs a z
moves old new k l n [] [] a z f h = record { end = h.end }
moves old new k l n [] (c ∷ cs) a z f h = absurd h
moves old new k l n (r ∷ rs) [] a z f h = absurd h
moves old new k l n (r ∷ rs) (c ∷ cs) a z f h =
    let up = routines_rise old l (n + 1) rs cs h.middle z h.second in
    record { middle = h.middle; first = routine_moves old new l n r c a h.middle (omega arith) k h.first; second = moves old new k l (n + 1) rs cs h.middle z f h.second }

snoc : (code : Laid) (l n : ℕ) (rs : List source.Routine) (cs : List RoutineCode) (r : source.Routine) (c : RoutineCode) (a m z : ℕ) → RoutinesAt code l n rs cs a m → RoutineAt code l (n + length rs) r c m z → RoutinesAt code l n (rs ++ r ∷ []) (cs ++ c ∷ []) a z
snoc code l n [] [] r c a m z h g =
    let y : n + 0 ≡ n = omega arith in
    record { middle = z; first = subst (λ x. RoutineAt code l x r c a z) y (subst (λ x. RoutineAt code l (n + 0) r c x z) h.end g); second = record { end = refl } }
snoc code l n [] (d ∷ cs) r c a m z h g = absurd h
snoc code l n (q ∷ rs) [] r c a m z h g = absurd h
snoc code l n (q ∷ rs) (d ∷ cs) r c a m z h g =
    let y : n + suc (length rs) ≡ n + 1 + length rs = omega arith in
    record { middle = h.middle; first = h.first; second = snoc code l (n + 1) rs cs r c h.middle m z h.second (subst (λ x. RoutineAt code l x r c m z) y g) }

-- a routine of the class with this place
pub placed_at : (p : Program) (r : Routine) (last number texts sites : ℕ) (row : RoutineCode) (old new : Draft) (o q : Option ℕ) → o ≡ q → RoutineAt (laid_in new) last number (routine_meant p r (routine_scope p r o number texts sites)) row (length old.ops) (length new.ops) → RoutineAt (laid_in new) last number (routine_meant p r (routine_scope p r q number texts sites)) row (length old.ops) (length new.ops)
placed_at p r last number texts sites row old new o q e h = subst (λ (x : Option ℕ). RoutineAt (laid_in new) last number (routine_meant p r (routine_scope p r x number texts sites)) row (length old.ops) (length new.ops)) e h

pub counted_at : (p : Program) (r : Routine) (number texts sites : ℕ) (old new : Draft) (o q : Option ℕ) → o ≡ q → length new.rows ≡ length old.rows + routine_rows (routine_meant p r (routine_scope p r o number texts sites)) → length new.rows ≡ length old.rows + routine_rows (routine_meant p r (routine_scope p r q number texts sites))
counted_at p r number texts sites old new o q e h = subst (λ (x : Option ℕ). length new.rows ≡ length old.rows + routine_rows (routine_meant p r (routine_scope p r x number texts sites))) e h

-- all routines but the last, and the last

rows_push : (rs : List source.Routine) (r : source.Routine) → routines_rows (rs ++ r ∷ []) ≡ routines_rows rs + routine_rows r
rows_push [] r = omega arith
rows_push (q ∷ rs) r = let h = rows_push rs r in omega (arith, h)

meant_push : (p : Program) (xs : List Defined) (x : Defined) (n t s : ℕ) → routines_meant p (xs ++ x ∷ []) n t s ≡ routines_meant p xs n t s ++ routine_meant p x.routine (routine_scope p x.routine (place_by p x) (n + length xs) (t + defined_texts xs) (s + defined_sites xs)) ∷ []
meant_push p [] x n t s =
    let a : n ≡ n + 0 = omega arith in
    let b : t ≡ t + 0 = omega arith in
    let c : s ≡ s + 0 = omega arith in
    ap (λ (k : ℕ). routine_meant p x.routine (routine_scope p x.routine (place_by p x) k t s) ∷ []) a
    ∙ ap (λ (k : ℕ). routine_meant p x.routine (routine_scope p x.routine (place_by p x) (n + 0) k s) ∷ []) b
    ∙ ap (λ (k : ℕ). routine_meant p x.routine (routine_scope p x.routine (place_by p x) (n + 0) (t + 0) k) ∷ []) c
meant_push p (y ∷ ys) x n t s =
    let u : ℕ = length (gathered_all own_texts y.routine.body) in
    let v : ℕ = length (gathered_all (own_sites y.class y.number) y.routine.body) in
    let a : n + 1 + length ys ≡ n + suc (length ys) = omega arith in
    let b : t + u + defined_texts ys ≡ t + (u + defined_texts ys) = omega arith in
    let c : s + v + defined_sites ys ≡ s + (v + defined_sites ys) = omega arith in
    ap (λ (l : List source.Routine). routine_meant p y.routine (routine_scope p y.routine (place_by p y) n t s) ∷ l) (meant_push p ys x (n + 1) (t + u) (s + v)
    ∙ ap (λ (k : ℕ). routines_meant p ys (n + 1) (t + u) (s + v) ++ routine_meant p x.routine (routine_scope p x.routine (place_by p x) k (t + u + defined_texts ys) (s + v + defined_sites ys)) ∷ []) a
    ∙ ap (λ (k : ℕ). routines_meant p ys (n + 1) (t + u) (s + v) ++ routine_meant p x.routine (routine_scope p x.routine (place_by p x) (n + suc (length ys)) k (s + v + defined_sites ys)) ∷ []) b
    ∙ ap (λ (k : ℕ). routines_meant p ys (n + 1) (t + u) (s + v) ++ routine_meant p x.routine (routine_scope p x.routine (place_by p x) (n + suc (length ys)) (t + (u + defined_texts ys)) k) ∷ []) c)

pub texts_push : (xs : List Defined) (x : Defined) → defined_texts (xs ++ x ∷ []) ≡ defined_texts xs + length (gathered_all own_texts x.routine.body)
texts_push [] x = omega arith
texts_push (y ∷ ys) x = let h = texts_push ys x in omega arith

pub sites_push : (xs : List Defined) (x : Defined) → defined_sites (xs ++ x ∷ []) ≡ defined_sites xs + length (gathered_all (own_sites x.class x.number) x.routine.body)
sites_push [] x = omega arith
sites_push (y ∷ ys) x = let h = sites_push ys x in omega arith

-- the rows written so far, with one more

take_set : (xs : List RoutineCode) (i : ℕ) (y : RoutineCode) → i < length xs → take (i + 1) (slice_set xs i y) ≡ take i xs ++ y ∷ []
take_set [] i y h = absurd (omega arith)
take_set (x ∷ xs) zero y h = refl
take_set (x ∷ xs) (suc i) y h =
    let n : suc i + 1 ≡ suc (i + 1) = omega arith in
    ap (λ (k : ℕ). take k (slice_set (x ∷ xs) (suc i) y)) n ∙ ap (λ l. x ∷ l) (take_set xs i y (omega arith))

length_set : (xs : List RoutineCode) (i : ℕ) (y : RoutineCode) → length (slice_set xs i y) ≡ length xs
length_set [] i y = refl
length_set (x ∷ xs) zero y = refl
length_set (x ∷ xs) (suc i) y = ap suc (length_set xs i y)

pub taken_more : (xs : List Defined) (i : ℕ) (x : Defined) → slice_get xs i ≡ Some x → take (i + 1) xs ≡ take i xs ++ x ∷ []
taken_more [] i x e = absurd (cc)
taken_more (y ∷ ys) zero x e = let is : y ≡ x = cc in ap (λ (d : Defined). d ∷ []) is
taken_more (y ∷ ys) (suc i) x e =
    let n : suc i + 1 ≡ suc (i + 1) = omega arith in
    ap (λ (k : ℕ). take k (y ∷ ys)) n ∙ ap (λ l. y ∷ l) (taken_more ys i x e)

pub within : (xs : List Defined) (i : ℕ) (x : Defined) → slice_get xs i ≡ Some x → i < length xs
within [] i x e = absurd (cc)
within (y ∷ ys) zero x e = omega arith
within (y ∷ ys) (suc i) x e = let h = within ys i x e in omega arith

-- how many ops they take at most

pub plain_room : (p : Program) (d : Defined) (r : Role) → d.routine.sig.role ≡ r → is_plain r ≡ true → routine_room p d ≡ OPS_FOR_SIZE * (1 + sizes_at d.routine.body 0)
plain_room p d role.Plain e b = ap (λ (r : Role). role_room_of p r d) e
plain_room p d role.Constructor e b = cc
plain_room p d role.Destructor e b = cc

pub builder_room_is : (p : Program) (d : Defined) (r : Role) → d.routine.sig.role ≡ r → is_plain r ≡ false → routine_room p d ≡ builder_room p d.routine (place_by p d)
builder_room_is p d role.Plain e b = cc
builder_room_is p d role.Constructor e b = ap (λ (r : Role). role_room_of p r d) e
builder_room_is p d role.Destructor e b = ap (λ (r : Role). role_room_of p r d) e

room_push : (p : Program) (xs : List Defined) (x : Defined) → written_room p (xs ++ x ∷ []) ≡ written_room p xs + routine_room p x
room_push p [] x = omega arith
room_push p (y ∷ ys) x = let h = room_push p ys x in omega (arith, h)

pub room_within : (p : Program) (xs : List Defined) (i : ℕ) (x : Defined) → slice_get xs i ≡ Some x → written_room p (take i xs) + routine_room p x ≤ written_room p xs
room_within p [] i x e = absurd (cc)
room_within p (y ∷ ys) zero x e = let is : y ≡ x = cc in let s : routine_room p y ≡ routine_room p x = ap (routine_room p) is in omega (arith, s)
room_within p (y ∷ ys) (suc i) x e = let h = room_within p ys i x e in omega (arith, h)

pub meant_long : (p : Program) (ds : List Defined) (n t s : ℕ) → length (routines_meant p ds n t s) ≡ length ds
meant_long p [] n t s = refl
meant_long p (d ∷ ds) n t s = ap suc (meant_long p ds (n + 1) (t + length (gathered_all own_texts d.routine.body)) (s + length (gathered_all (own_sites d.class d.number) d.routine.body)))

-- the handlers of rows, by places before the end and by the last place

begin_by : (ops k : ℕ) (rs : List HandlerRow) → ops ≤ k + 1 → BeginBefore ops rs → BeginBy k rs
begin_by ops k [] l b = tt
begin_by ops k (r ∷ rs) l b = let x = b.0 in (omega arith, begin_by ops k rs l b.1)

begin_before : (ops k : ℕ) (rs : List HandlerRow) → k < ops → BeginBy k rs → BeginBefore ops rs
begin_before ops k [] l b = tt
begin_before ops k (r ∷ rs) l b = let x = b.0 in (omega arith, begin_before ops k rs l b.1)

none_before : (rs : List HandlerRow) (ops : ℕ) → length rs ≤ 0 → BeginBefore ops rs
none_before [] ops l = tt
none_before (r ∷ rs) ops l = absurd (omega arith)

begins : (old new : Draft) → length old.ops ≤ length new.ops → length new.rows ≤ length new.ops → BeginBefore (length old.ops) old.rows → RoutineRows old new → BeginBefore (length new.ops) new.rows
begins old new up few b rr = by_ops (length new.ops) refl
  where
    by_ops : (n : ℕ) → length new.ops ≡ n → BeginBefore (length new.ops) new.rows
    by_ops zero e = none_before new.rows (length new.ops) (omega arith)
    by_ops (suc k) e = begin_before (length new.ops) k new.rows (omega arith) (rr.begin k (omega arith) (begin_by (length old.ops) k old.rows (omega arith) b))

pub lays_none : (p : Program) (ds : List Defined) (all : ℕ) (d : Draft) → d.ops ≡ [] → d.rows ≡ [] → d.marks ≡ [] → length d.routines ≡ all → Lays p ds all 0 d
lays_none p ds all d e b f g = record { code = record { end = ap (λ l. length l) e }; rows = ap (λ l. length l) b; few = (let n : length d.rows ≡ 0 = ap (λ l. length l) b in omega arith); begin = subst (BeginBefore (length d.ops)) (sym b) tt; room = let l : length d.ops ≡ 0 = ap (λ l. length l) e in omega arith; outside = f; table = g }

pub lays_step : (p : Program) (ds : List Defined) (all i texts sites : ℕ) (x : Defined) (old new : Draft) → slice_get ds i ≡ Some x → i < all → Lays p ds all i old → texts ≡ defined_texts (take i ds) → sites ≡ defined_sites (take i ds)
    → Kept (laid_in old) (laid_in new) → length new.rows ≡ length old.rows + routine_rows (routine_meant p x.routine (routine_scope p x.routine (place_by p x) i texts sites)) → RoutineRows old new → length new.ops ≤ length old.ops + routine_room p x
    → RoutineAt (laid_in new) (last_of ds) i (routine_meant p x.routine (routine_scope p x.routine (place_by p x) i texts sites)) (record { entry = length old.ops; cells = frame_cells p x.routine; params = length x.routine.sig.params; written = true }) (length old.ops) (length new.ops)
    → new.routines ≡ slice_set old.routines i (record { entry = length old.ops; cells = frame_cells p x.routine; params = length x.routine.sig.params; written = true }) → new.marks ≡ [] → Lays p ds all (i + 1) new
lays_step p ds all i texts sites x old new at known h te se k more rr r c w marks =
    let row : RoutineCode = record { entry = length old.ops; cells = frame_cells p x.routine; params = length x.routine.sig.params; written = true } in
    let xs : List Defined = take i ds in
    let split : xs ++ x ∷ [] ≡ take (i + 1) ds = sym (taken_more ds i x at) in
    let few : i < length ds = within ds i x at in
    let count : length xs ≡ i = omega (arith, length-take i ds, few) in
    let i_is : i ≡ 0 + length xs = omega (arith, count) in
    let t_is : texts ≡ 0 + defined_texts xs = omega (arith, te) in
    let s_is : sites ≡ 0 + defined_sites xs = omega (arith, se) in
    let place : i ≡ 0 + length (routines_meant p xs 0 0 0) = let l = meant_long p xs 0 0 0 in omega (arith, count, l) in
    let meant : source.Routine = routine_meant p x.routine (routine_scope p x.routine (place_by p x) (0 + length xs) (0 + defined_texts xs) (0 + defined_sites xs)) in
    let same : routine_meant p x.routine (routine_scope p x.routine (place_by p x) i texts sites) ≡ meant =
    ap (λ (n : ℕ). routine_meant p x.routine (routine_scope p x.routine (place_by p x) n texts sites)) i_is
    ∙ ap (λ (n : ℕ). routine_meant p x.routine (routine_scope p x.routine (place_by p x) (0 + length xs) n sites)) t_is
    ∙ ap (λ (n : ℕ). routine_meant p x.routine (routine_scope p x.routine (place_by p x) (0 + length xs) (0 + defined_texts xs) n)) s_is in
    let c1 : RoutineAt (laid_in new) (last_of ds) (0 + length (routines_meant p xs 0 0 0)) meant row (length old.ops) (length new.ops) =
    subst (λ (n : ℕ). RoutineAt (laid_in new) (last_of ds) n meant row (length old.ops) (length new.ops)) place (subst (λ (m : source.Routine). RoutineAt (laid_in new) (last_of ds) i m row (length old.ops) (length new.ops)) same c) in
    let all_at : RoutinesAt (laid_in new) (last_of ds) 0 (routines_meant p xs 0 0 0 ++ meant ∷ []) (take i old.routines ++ row ∷ []) 0 (length new.ops) =
    snoc (laid_in new) (last_of ds) 0 (routines_meant p xs 0 0 0) (take i old.routines) meant row 0 (length old.ops) (length new.ops) (moves (laid_in old) (laid_in new) k (last_of ds) 0 (routines_meant p xs 0 0 0) (take i old.routines) 0 (length old.ops) (omega arith) h.code) c1 in
    let sources : routines_meant p xs 0 0 0 ++ meant ∷ [] ≡ routines_meant p (take (i + 1) ds) 0 0 0 =
    sym (meant_push p xs x 0 0 0) ∙ ap (λ (l : List Defined). routines_meant p l 0 0 0) split in
    let table : length old.routines ≡ all = h.table in
    let codes : take i old.routines ++ row ∷ [] ≡ take (i + 1) new.routines = sym (take_set old.routines i row (omega (arith, known, table))) ∙ ap (λ (l : List RoutineCode). take (i + 1) l) (sym w) in
    let size : written_room p (take (i + 1) ds) ≡ written_room p xs + routine_room p x = ap (written_room p) (sym split) ∙ room_push p xs x in
    let room = h.room in
    record {
      code = subst (λ (l : List RoutineCode). RoutinesAt (laid_in new) (last_of ds) 0 (routines_meant p (take (i + 1) ds) 0 0 0) l 0 (length new.ops)) codes (subst (λ (l : List source.Routine). RoutinesAt (laid_in new) (last_of ds) 0 l (take i old.routines ++ row ∷ []) 0 (length new.ops)) sources all_at);
      rows =
          let before = h.rows in
          let own : routine_rows (routine_meant p x.routine (routine_scope p x.routine (place_by p x) i texts sites)) ≡ routine_rows meant = ap routine_rows same in
          let last = rows_push (routines_meant p xs 0 0 0) meant in
          let all_rows : routines_rows (routines_meant p xs 0 0 0 ++ meant ∷ []) ≡ routines_rows (routines_meant p (take (i + 1) ds) 0 0 0) = ap routines_rows sources in
          omega (arith, before, more, own, last, all_rows);
      few = (let x = h.few in let y = rr.few in omega arith);
      begin = begins old new k.longer (let x = h.few in let y = rr.few in omega arith) h.begin rr;
      room = omega (arith, size, room, r);
      outside = marks;
      table = ap (λ (l : List RoutineCode). length l) w ∙ length_set old.routines i row ∙ table;
    }

-- behind them those that nobody wrote

unwritten_push : (p : Program) (us : List Unwritten) (u : Unwritten) → all_unwritten p (us ++ u ∷ []) ≡ all_unwritten p us ++ unwritten_meant p u ∷ []
unwritten_push p [] u = refl
unwritten_push p (x ∷ us) u = ap (λ rs. unwritten_meant p x ∷ rs) (unwritten_push p us u)

unwritten_long : (p : Program) (us : List Unwritten) → length (all_unwritten p us) ≡ length us
unwritten_long p [] = refl
unwritten_long p (u ∷ us) = ap suc (unwritten_long p us)

rooms_push : (p : Program) (us : List Unwritten) (u : Unwritten) → unwritten_rooms p (us ++ u ∷ []) ≡ unwritten_rooms p us + own_room p u
rooms_push p [] u = omega arith
rooms_push p (x ∷ us) u = let h = rooms_push p us u in omega (arith, h)

taken_next : (us : List Unwritten) (i : ℕ) (u : Unwritten) → slice_get us i ≡ Some u → (take (i + 1) us ≡ take i us ++ u ∷ []) × (length (take i us) ≡ i) × (i < length us)
taken_next [] i u e = absurd (cc)
taken_next (x ∷ xs) zero u e = let is : x ≡ u = cc in (ap (λ (d : Unwritten). d ∷ []) is, refl, omega arith)
taken_next (x ∷ xs) (suc i) u e =
    let h = taken_next xs i u e in
    let n : suc i + 1 ≡ suc (i + 1) = omega arith in
    let l = h.2 in
    (ap (λ (k : ℕ). take k (x ∷ xs)) n ∙ ap (λ l. x ∷ l) h.0, ap suc h.1, omega (arith, l))

pub rooms_within : (p : Program) (us : List Unwritten) (i : ℕ) (u : Unwritten) → slice_get us i ≡ Some u → unwritten_rooms p (take i us) + own_room p u ≤ unwritten_rooms p us
rooms_within p [] i u e = absurd (cc)
rooms_within p (y ∷ ys) zero u e = let is : y ≡ u = cc in let s : own_room p y ≡ own_room p u = ap (own_room p) is in omega (arith, s)
rooms_within p (y ∷ ys) (suc i) u e = let h = rooms_within p ys i u e in omega (arith, h)

pub all_none : (p : Program) (ds : List Defined) (us : List Unwritten) (all count : ℕ) (d : Draft) → count ≡ length ds → Lays p ds all count d → LaysAll p ds us all 0 d
all_none p ds us all count d c h =
    let whole : take count ds ≡ ds = ap (λ n. take n ds) c ∙ whole_list ds in
    let more : count ≡ length ds + 0 = omega (arith, c) in
    record {
      code = subst (λ (rs : List source.Routine). RoutinesAt (laid_in d) (last_of ds) 0 rs (take (length ds + 0) d.routines) 0 (length d.ops)) (sym (append-nil (routines_meant p ds 0 0 0))) (subst (λ n. RoutinesAt (laid_in d) (last_of ds) 0 (routines_meant p ds 0 0 0) (take n d.routines) 0 (length d.ops)) more (subst (λ (xs : List Defined). RoutinesAt (laid_in d) (last_of ds) 0 (routines_meant p xs 0 0 0) (take count d.routines) 0 (length d.ops)) whole h.code));
      rows = h.rows ∙ ap (λ (xs : List Defined). routines_rows (routines_meant p xs 0 0 0)) whole ∙ ap routines_rows (sym (append-nil (routines_meant p ds 0 0 0)));
      few = h.few;
      begin = h.begin;
      room = let r = h.room in let e = ap (written_room p) whole in omega (arith, r, e);
      outside = h.outside;
      table = h.table;
    }
  where
    whole_list : (xs : List Defined) → take (length xs) xs ≡ xs
    whole_list [] = refl
    whole_list (x ∷ xs) = ap (λ l. x ∷ l) (whole_list xs)

pub all_step : (p : Program) (ds : List Defined) (us : List Unwritten) (all i : ℕ) (u : Unwritten) (old new : Draft) → slice_get us i ≡ Some u → length ds + i < all → LaysAll p ds us all i old
    → Kept (laid_in old) (laid_in new) → length new.rows ≡ length old.rows + routine_rows (unwritten_meant p u) → RoutineRows old new → length new.ops ≤ length old.ops + own_room p u
    → RoutineAt (laid_in new) (last_of ds) (length ds + i) (unwritten_meant p u) (record { entry = length old.ops; cells = 0; params = 0; written = false }) (length old.ops) (length new.ops)
    → new.routines ≡ slice_set old.routines (length ds + i) (record { entry = length old.ops; cells = 0; params = 0; written = false }) → new.marks ≡ [] → LaysAll p ds us all (i + 1) new
all_step p ds us all i u old new at known h k more rr r c w marks =
    let row : RoutineCode = record { entry = length old.ops; cells = 0; params = 0; written = false } in
    let n : ℕ = length ds + i in
    let t = taken_next us i u at in
    let rs : List source.Routine = routines_meant p ds 0 0 0 ++ all_unwritten p (take i us) in
    let long : n ≡ 0 + length rs = let a = length-append (routines_meant p ds 0 0 0) (all_unwritten p (take i us)) in let b = meant_long p ds 0 0 0 in let d = unwritten_long p (take i us) in let e = t.1 in omega (arith, a, b, d, e) in
    let all_at : RoutinesAt (laid_in new) (last_of ds) 0 (rs ++ unwritten_meant p u ∷ []) (take n old.routines ++ row ∷ []) 0 (length new.ops) =
    snoc (laid_in new) (last_of ds) 0 rs (take n old.routines) (unwritten_meant p u) row 0 (length old.ops) (length new.ops) (moves (laid_in old) (laid_in new) k (last_of ds) 0 rs (take n old.routines) 0 (length old.ops) (omega arith) h.code) (subst (λ (m : ℕ). RoutineAt (laid_in new) (last_of ds) m (unwritten_meant p u) row (length old.ops) (length new.ops)) long c) in
    let sources : rs ++ unwritten_meant p u ∷ [] ≡ routines_meant p ds 0 0 0 ++ all_unwritten p (take (i + 1) us) =
    append_assoc (routines_meant p ds 0 0 0) (all_unwritten p (take i us)) (unwritten_meant p u ∷ []) ∙ ap (λ (xs : List source.Routine). routines_meant p ds 0 0 0 ++ xs) (sym (unwritten_push p (take i us) u) ∙ ap (all_unwritten p) (sym t.0)) in
    let table : length old.routines ≡ all = h.table in
    let next : n + 1 ≡ length ds + (i + 1) = omega arith in
    let codes : take n old.routines ++ row ∷ [] ≡ take (length ds + (i + 1)) new.routines = sym (take_set old.routines n row (omega (arith, known, table))) ∙ ap (λ (l : List RoutineCode). take (n + 1) l) (sym w) ∙ ap (λ m. take m new.routines) next in
    let size : unwritten_rooms p (take (i + 1) us) ≡ unwritten_rooms p (take i us) + own_room p u = ap (unwritten_rooms p) t.0 ∙ rooms_push p (take i us) u in
    let room = h.room in
    record {
      code = subst (λ (l : List RoutineCode). RoutinesAt (laid_in new) (last_of ds) 0 (routines_meant p ds 0 0 0 ++ all_unwritten p (take (i + 1) us)) l 0 (length new.ops)) codes (subst (λ (l : List source.Routine). RoutinesAt (laid_in new) (last_of ds) 0 l (take n old.routines ++ row ∷ []) 0 (length new.ops)) sources all_at);
      rows =
          let before = h.rows in
          let last = rows_push rs (unwritten_meant p u) in
          let all_rows : routines_rows (rs ++ unwritten_meant p u ∷ []) ≡ routines_rows (routines_meant p ds 0 0 0 ++ all_unwritten p (take (i + 1) us)) = ap routines_rows sources in
          omega (arith, before, more, last, all_rows);
      few = (let x = h.few in let y = rr.few in omega arith);
      begin = begins old new k.longer (let x = h.few in let y = rr.few in omega arith) h.begin rr;
      room = omega (arith, size, room, r);
      outside = marks;
      table = ap (λ (l : List RoutineCode). length l) w ∙ length_set old.routines n row ∙ table;
    }
