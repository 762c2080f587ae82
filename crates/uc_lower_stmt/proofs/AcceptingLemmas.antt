-- Accept statements, as they are added to a draft.
use Rattle.std.proofs.Common.{◌≡◌, ℕ, zero, suc, ◌+◌, ◌*◌, ◌≤◌, ◌<◌, pos, List, [], ◌∷◌, ◌++◌, ◌⊎◌, inl, inr, Option, Some, None, length, length-append, take, get_or, refl, ap, sym, subst, ◌∙◌, arith}
use Rattle.std.proofs.lemmas.List.{take_more}
use Rattle.std.proofs.Math.Nat.{eq-or-lt_of_le}
use Rattle.uc_tree.specs.declared.limits.TheConstants.{FRAME_CELLS, OPS_FOR_SIZE, PROGRAM_OPS, PROGRAM_SIZE}
use Rattle.uc_tree.specs.declared.pos.Pos.{Pos}
use Rattle.uc_tree.specs.Cells.{clauses_cells, declared_cells, maybe_cells, stmt_cells}
use Rattle.uc_tree.specs.Exits.{exits_clauses, exits_maybe}
use Rattle.uc_tree.specs.Expressions as expr
use Rattle.uc_tree.specs.ExpressionSizes.{expr_size}
use Rattle.uc_tree.specs.Gathered.{gathered, gathered_clauses, gathered_maybe}
use Rattle.uc_tree.specs.Hidden.{hidden_in, hidden_in_clauses, hidden_in_maybe}
use Rattle.uc_tree.specs.Numbering.{own_sites, own_texts}
use Rattle.uc_tree.specs.Programs.{Program}
use Rattle.uc_tree.specs.Scopes.{clauses_scopes, maybe_scopes, stmt_scopes}
use Rattle.uc_tree.specs.Sizes.{size_at}
use Rattle.uc_tree.specs.Source as source
use Rattle.uc_tree.specs.Statements as tree
use Rattle.uc_tree.specs.Statements.{Accept, Accepts, Clause, MaybeStmt, NoStmt, OneStmt, Stmt, clauses_of}
use Rattle.uc_tree.specs.StatementSizes.{clauses_size, maybe_stmt_size, stmt_size}
use Rattle.uc_resolve.specs.Resolve.{Context, Scope, clauses_meant, context_at, else_meant, scope_after, scope_past, scope_past_clauses, test_of, within_accept}
use Rattle.uc_code.specs.declared.op.Op.TheVariants as op
use Rattle.uc_code.specs.declared.rows.CodeMark.{CodeMark}
use Rattle.uc_code.specs.Drafts.{Draft, patched}
use Rattle.uc_code.specs.Emits.{Puts}
use Rattle.uc_code.specs.Layout.{Laid, laid_in}
use Rattle.uc_code.specs.CodeShapes.{AcceptsAt, Both, ChoosesAt, JumpsAt, Kept, One, OpAt, PollAt, Risk, Same, Stable}
use Rattle.uc_code.specs.Lowered.{BranchesAt, ExprAt, GuardsAt, TaskAt}
use Rattle.uc_code.proofs.Patches.{length-patched, patched_at, same_after, same_before}
use Rattle.uc_code.proofs.Putting.{puts_both}
use Rattle.uc_code.proofs.Stable.{accepts_stable, kept_same, kept_then, nothing_stable, one_stable, risk_stable, same_then}
use Rattle.uc_lower_expr.specs.Contexts.{context_in}
use Rattle.uc_lower_expr.specs.DraftGrowth.{Adds, ExprCode, OpCode}
use Rattle.uc_lower_expr.proofs.Adding.{adds_as, adds_both, adds_more, adds_nothing}
use Rattle.uc_lower_expr.proofs.Settled.{both, expr_stable}
use Rattle.uc_lower_stmt.specs.Accepting.{choice_set, ChoiceCode, GuardsCode, HolesAt, HolesCode, LowersAccept, LowersBranches, LowersChoice, accept_room, branch_of, branches_room, choice_room, guard_meant, guard_of, guard_room, guards_room, past_branches, branches_meant}
use Rattle.uc_lower_stmt.specs.Control.{maybe_at_size, maybe_past}
use Rattle.uc_lower_stmt.specs.LowersStatement.{Lowers, LowersStmt, scope_of}
use Rattle.uc_lower_stmt.specs.Marked.{objects_in, taken}
use Rattle.uc_lower_stmt.proofs.Counted.{counted, counted_as, nothing_counted}
use Rattle.uc_lower_stmt.proofs.Joined.{lowers_as, lowers_puts, puts_adds}
use Rattle.uc_lower_stmt.proofs.Jumping.{before_chosen, chosen, jumps_chosen, jumps_stable, kept_until, length_chosen, one_set, until_chosen}
use Rattle.uc_lower_stmt.proofs.Kept.{branches_stable}
use Rattle.uc_lower_stmt.proofs.Stating.{as_stmt}
use Rattle.uc_lower_stmt.specs.RowFit.{RowsFit}
use Rattle.uc_lower_stmt.proofs.RowFitting.{fit_like, fit_then, fit_count}
use Rattle.uc_lower_stmt.specs.SourceRows.{clauses_rows_under}

-- guards

pub guards_code_stable : (line : ℕ) (ms : List CodeMark) (c : Context) (xs : List Clause) → Stable (GuardsCode line ms c xs)
guards_code_stable line ms c [] = nothing_stable
guards_code_stable line ms c (x ∷ xs) = both (expr_stable line ms (guard_meant c (guard_of x))) (guards_code_stable line ms c xs)

-- one that is written, and one that is not
pub guard_written : (p : Program) (line : ℕ) (e : expr.Expr) (g : Option expr.Expr) (old new : Draft) → g ≡ Some e → Adds (OPS_FOR_SIZE * expr_size e) (ExprCode line old.marks (guard_meant (context_in p old) (Some e))) old new → Adds (guard_room g) (ExprCode line old.marks (guard_meant (context_in p old) g)) old new
guard_written p line e g old new is h = subst (λ (o : Option expr.Expr). Adds (guard_room o) (ExprCode line old.marks (guard_meant (context_in p old) o)) old new) (sym is) h

pub guard_left_out : (p : Program) (line : ℕ) (g : Option expr.Expr) (old new : Draft) → g ≡ None → Adds 1 (OpCode line (op.Push (pos 1))) old new → Adds (guard_room g) (ExprCode line old.marks (guard_meant (context_in p old) g)) old new
guard_left_out p line g old new is h = subst (λ (o : Option expr.Expr). Adds (guard_room o) (ExprCode line old.marks (guard_meant (context_in p old) o)) old new) (sym is) h

guards_append : (line : ℕ) (ms : List CodeMark) (c : Context) (code : Laid) (xs : List Clause) (x : Clause) (a b z : ℕ) → GuardsCode line ms c xs code a b → ExprAt code line ms (guard_meant c (guard_of x)) b z → GuardsCode line ms c (xs ++ x ∷ []) code a z
guards_append line ms c code [] x a b z h g = record { middle = z; first = subst (λ (y : ℕ). ExprAt code line ms (guard_meant c (guard_of x)) y z) h.end g; second = record { end = refl } }
guards_append line ms c code (y ∷ ys) x a b z h g = record { middle = h.middle; first = h.first; second = guards_append line ms c code ys x h.middle b z h.second g }

rooms_push : (xs : List Clause) (x : Clause) → guards_room (xs ++ x ∷ []) ≡ guards_room xs + guard_room (guard_of x)
rooms_push [] x = omega arith
rooms_push (y ∷ ys) x = omega (arith, rooms_push ys x)

pub guards_fit : (xs : List Clause) (i : ℕ) (x : Clause) → i < length xs → x ≡ get_or xs i x → guards_room (take i xs) + guard_room (guard_of x) ≤ guards_room xs
guards_fit [] i x h e = absurd (omega arith)
guards_fit (y ∷ ys) zero x h e = let a : guard_room (guard_of x) ≡ guard_room (guard_of y) = ap (λ (c : Clause). guard_room (guard_of c)) e in omega arith
guards_fit (y ∷ ys) (suc i) x h e = let r = guards_fit ys i x (omega arith) e in omega arith

pub guards_start : (line : ℕ) (c : Context) (old : Draft) → Adds 0 (GuardsCode line old.marks c []) old old
guards_start line c old = adds_nothing old

pub guards_step : (p : Program) (xs : List Clause) (i : ℕ) (x : Clause) (line : ℕ) (old mid new : Draft) → i < length xs → x ≡ get_or xs i x → Adds (guards_room (take i xs)) (GuardsCode line old.marks (context_in p old) (take i xs)) old mid
    → Adds (guard_room (guard_of x)) (ExprCode line mid.marks (guard_meant (context_in p mid) (guard_of x))) mid new → Adds (guards_room (take (i + 1) xs)) (GuardsCode line old.marks (context_in p old) (take (i + 1) xs)) old new
guards_step p xs i x line old mid new h e g k =
    let ys : List Clause = take i xs in
    let split : ys ++ x ∷ [] ≡ take (i + 1) xs = ap (λ (y : Clause). ys ++ y ∷ []) e ∙ sym (take_more xs i x h) in
    let k1 : Adds (guard_room (guard_of x)) (ExprCode line old.marks (guard_meant (context_in p old) (guard_of x))) mid new = subst (λ (d : Draft). Adds (guard_room (guard_of x)) (ExprCode line d.marks (guard_meant (context_in p d) (guard_of x))) mid new) g.rest k in
    subst (λ (zs : List Clause). Adds (guards_room zs) (GuardsCode line old.marks (context_in p old) zs) old new) split (
    adds_more (omega (arith, rooms_push ys x)) (adds_as (adds_both (guards_code_stable line old.marks (context_in p old) ys) g k1)
    (λ code a z w. guards_append line old.marks (context_in p old) code ys x a w.middle z w.first w.second)))

-- what asks

accept_of : (code : Laid) (ms : List CodeMark) (site guards line fail end a z : ℕ) → fail ≡ a + 4 → end ≡ a + 8 → Both (One code (op.Accept site guards end) line) (Both (One code (op.Failed fail) line) (Both (Both (Risk code ms op.Raise line) (One code op.Discard line)) (PollAt code ms line))) a z → AcceptsAt code ms site guards line a z
accept_of code ms site guards line fail end a z f e h =
    let i = h.first.end in
    let j = h.second.first.end in
    let k = h.second.second.first.first.end in
    let l = h.second.second.first.second.end in
    let m = h.second.second.second.end in
    let last : end ≡ z = omega arith in
    let mid : fail ≡ h.second.second.middle = omega arith in
    record {
      middle = h.second.second.middle;
      asks = subst (λ (x : ℕ). OpAt code a (op.Accept site guards x) line) last h.first.here;
      failed = record {
        test = subst (λ (x : ℕ). OpAt code (a + 1) (op.Failed x) line) mid (subst (λ (x : ℕ). OpAt code x (op.Failed fail) line) i h.second.first.here);
        raises = subst (λ (x : ℕ). Both (Risk code ms op.Raise line) (One code op.Discard line) x h.second.second.middle) (j ∙ ap (λ (x : ℕ). x + 1) i) h.second.second.first;
      };
      polls = h.second.second.second;
    }

pub puts_accept : (site guards line ask : ℕ) (d0 d1 d2 d3 d4 : Draft) → ask ≡ length d0.ops → Adds 1 (OpCode line (op.Accept site guards (ask + 8))) d0 d1 → Adds 1 (OpCode line (op.Failed (ask + 4))) d1 d2
    → Puts 0 2 (λ code. Both (Risk code d2.marks op.Raise line) (One code op.Discard line)) d2 d3 → Puts 0 4 (λ code. PollAt code d3.marks line) d3 d4 → Puts 0 8 (λ code. AcceptsAt code d0.marks site guards line) d0 d4
puts_accept site guards line ask d0 d1 d2 d3 d4 e p q r t =
    let ms : List CodeMark = d0.marks in
    let marks2 : d2.marks ≡ ms = ap (λ (d : Draft). d.marks) q.rest ∙ ap (λ (d : Draft). d.marks) p.rest in
    let marks3 : d3.marks ≡ ms = ap (λ (d : Draft). d.marks) r.rest ∙ marks2 in
    let raise : Puts 0 2 (λ code. Both (Risk code ms op.Raise line) (One code op.Discard line)) d2 d3 = subst (λ (ns : List CodeMark). Puts 0 2 (λ code. Both (Risk code ns op.Raise line) (One code op.Discard line)) d2 d3) marks2 r in
    let poll : Puts 0 4 (λ code. PollAt code ms line) d3 d4 = subst (λ (ns : List CodeMark). Puts 0 4 (λ code. PollAt code ns line) d3 d4) marks3 t in
    let all = puts_both (one_stable (op.Accept site guards (ask + 8)) line) (puts_adds p) (puts_both (one_stable (op.Failed (ask + 4)) line) (puts_adds q) (puts_both (both (risk_stable ms op.Raise line) (one_stable op.Discard line)) raise poll)) in
    record { rest = all.rest; kept = all.kept; rows = all.rows; room = all.room; code = accept_of (laid_in d4) ms site guards line (ask + 4) (ask + 8) (length d0.ops) (length d4.ops) (ap (λ (x : ℕ). x + 4) e) (ap (λ (x : ℕ). x + 8) e) all.code }

-- jumps without places

pub holes_start : (line : ℕ) (old : Draft) → Adds 0 (HolesCode line 0) old old
holes_start line old = adds_as (adds_nothing old) (λ code a z w. let e = w.end in record { each = λ i l. absurd (omega arith); end = omega arith })

hole_at : (code : Laid) (line count a b z i : ℕ) → HolesAt code line count a b → One code (op.Jump 0) line b z → (i ≡ count) ⊎ (i < count) → OpAt code (a + i) (op.Jump 0) line
hole_at code line count a b z i h g (inl e) = let f = h.end in let here : b ≡ a + i = omega (arith, f, e) in subst (λ (x : ℕ). OpAt code x (op.Jump 0) line) here g.here
hole_at code line count a b z i h g (inr l) = h.each i l

holes_push : (code : Laid) (line count a b z : ℕ) → HolesAt code line count a b → One code (op.Jump 0) line b z → HolesAt code line (count + 1) a z
holes_push code line count a b z h g = record {
  each = λ i l. hole_at code line count a b z i h g (eq-or-lt_of_le (omega arith));
  end = (let e = h.end in let f = g.end in omega arith);
}

holes_stable : (line count : ℕ) → Stable (HolesCode line count)
holes_stable line count = record {
  rises = λ code a z h. let e = h.end in omega arith;
  moves = λ old new a z s h. let e = h.end in record { each = λ i l. s.same (a + i) (op.Jump 0) line (omega arith) (omega arith) (h.each i l); end = h.end };
}

pub holes_more : (line count : ℕ) (d0 d1 d2 : Draft) → Adds count (HolesCode line count) d0 d1 → Adds 1 (OpCode line (op.Jump 0)) d1 d2 → Adds (count + 1) (HolesCode line (count + 1)) d0 d2
holes_more line count d0 d1 d2 h g = adds_as (adds_both (holes_stable line count) h g) (λ code a z w. holes_push code line count a w.middle z w.first w.second)

-- what stands before the branches

module _ (p : Program) (line site count choose : ℕ) (xs : List Clause) (d0 d1 d2 d3 d4 d5 : Draft) (se : site ≡ d0.sites) (ne : count ≡ length xs) (ad : d1 ≡ record d0 { sites = d0.sites + 1 })
    (g : Adds (guards_room xs) (GuardsCode line d1.marks (context_in p d1) xs) d1 d2) (q : Puts 0 8 (λ code. AcceptsAt code d2.marks site count line) d2 d3) (ce : choose ≡ length d3.ops) (c : Adds 1 (OpCode line (op.Choose count 0)) d3 d4)
    (h : Adds (length xs + 1) (HolesCode line (length xs + 1)) d4 d5) where
  abbrev around : List CodeMark
  around = d0.marks

  abbrev many : ℕ
  many = length xs

  abbrev in_context : Context
  in_context = context_at p (scope_of d0)

  guards : Adds (guards_room xs) (GuardsCode line around in_context xs) d1 d2
  guards = subst (λ (d : Draft). Adds (guards_room xs) (GuardsCode line d.marks (context_in p d) xs) d1 d2) ad g

  asks : Puts 0 8 (λ code. AcceptsAt code around d0.sites many line) d2 d3
  asks =
      let marks : d2.marks ≡ around = ap (λ (d : Draft). d.marks) g.rest ∙ ap (λ (d : Draft). d.marks) ad in
      subst (λ (k : ℕ). Puts 0 8 (λ code. AcceptsAt code around d0.sites k line) d2 d3) ne (
      subst (λ (k : ℕ). Puts 0 8 (λ code. AcceptsAt code around k count line) d2 d3) se (
      subst (λ (ns : List CodeMark). Puts 0 8 (λ code. AcceptsAt code ns site count line) d2 d3) marks q))

  chooses : Adds 1 (OpCode line (op.Choose many 0)) d3 d4
  chooses = subst (λ (k : ℕ). Adds 1 (OpCode line (op.Choose k 0)) d3 d4) ne c

  all : Puts 0 (choice_room xs) (ChoiceCode line around in_context d0.sites xs) d1 d5
  all =
      let w = puts_both (guards_code_stable line around in_context xs) (puts_adds guards) (puts_both (accepts_stable around d0.sites many line) asks (puts_both (one_stable (op.Choose many 0) line) (puts_adds chooses) (puts_adds h))) in
      record { rest = w.rest; kept = w.kept; rows = w.rows; room = let r = w.room in omega arith; code = w.code }

  pub choice_laid : LowersChoice p line xs d0 d5
  choice_laid =
      let l : Lowers 0 (choice_room xs) 0 0 0 (ChoiceCode line around in_context d0.sites xs) (scope_of d1) d1 d5 = lowers_puts 0 0 all in
      let m : Lowers 0 (choice_room xs) 0 0 0 (ChoiceCode line around in_context d0.sites xs) (scope_of (record d0 { sites = d0.sites + 1 })) (record d0 { sites = d0.sites + 1 }) d5 =
      subst (λ (d : Draft). Lowers 0 (choice_room xs) 0 0 0 (ChoiceCode line around in_context d0.sites xs) (scope_of d) d d5) ad l in
      record { rest = m.rest; scope = m.scope; opened = m.opened; kept = m.kept; rows = record { more = m.rows.more; few = m.rows.few; begin = m.rows.begin }; room = m.room; texts = m.texts; cells = m.cells; code = m.code }

  pub choice_place : choose + (many + 2) ≡ length d5.ops
  choice_place = let e = c.code.end in let f = h.code.end in omega (arith, ce, e, f)

-- an accept statement as a whole

guard_is : (p : Program) (s : Scope) (g : Option expr.Expr) → guard_meant (context_at p s) g ≡ test_of p s g
guard_is p s None = refl
guard_is p s (Some e) = refl

guards_are : (p : Program) (line : ℕ) (ns : List CodeMark) (xs : List Clause) (other : MaybeStmt) (s t : Scope) (code : Laid) (a z : ℕ) → GuardsCode line ns (context_at p s) xs code a z → GuardsAt code ns line (clauses_meant p (clauses_of xs) s (else_meant p other t)) a z
guards_are p line ns [] NoStmt s t code a z h = h
guards_are p line ns [] (OneStmt body) s t code a z h = h
guards_are p line ns (Accepts place guard members body ∷ xs) other s t code a z h = record {
  middle = h.middle;
  first = subst (λ (e : source.Expr). ExprAt code line ns e a h.middle) (guard_is p s guard) h.first;
  second = guards_are p line ns xs other (scope_past p body s) t code h.middle z h.second;
}

clauses_count : (p : Program) (xs : List Clause) (other : MaybeStmt) (s t : Scope) → source.clause_count (clauses_meant p (clauses_of xs) s (else_meant p other t)) ≡ length xs
clauses_count p [] NoStmt s t = refl
clauses_count p [] (OneStmt body) s t = refl
clauses_count p (Accepts place guard members body ∷ xs) other s t = ap suc (clauses_count p xs other (scope_past p body s) t)

module _ (p : Program) (line choose first count end : ℕ) (xs : List Clause) (other : MaybeStmt) (d0 d1 d2 new : Draft) (h : LowersChoice p line xs d0 d1) (ce : choose + (length xs + 2) ≡ length d1.ops) (fe : first ≡ choose + 2) (b : LowersBranches p line (choose + 1) first xs other d1 d2)
    (ne : count ≡ length xs) (ee : end ≡ length d2.ops) (pt : new ≡ record d2 { ops = patched d2.ops choose (op.Choose count end) }) where
  abbrev s : Scope
  s = scope_of d0

  abbrev t : Scope
  t = within_accept p s

  abbrev ms : List CodeMark
  ms = d0.marks

  abbrev n : ℕ
  n = length xs

  abbrev o : ℕ
  o = b.otherwise

  abbrev ps : List ℕ
  ps = b.places

  abbrev a : ℕ
  a = length d0.ops

  abbrev l1 : Laid
  l1 = laid_in d1

  abbrev jumping : Laid
  jumping = chosen (choose + 1) first o ps l1

  abbrev l2 : Laid
  l2 = laid_in d2

  abbrev now : Laid
  now = one_set choose (op.Choose n (length d2.ops)) l2

  abbrev last : Draft
  last = record d2 { ops = patched d2.ops choose (op.Choose n (length d2.ops)) }

  is : new ≡ last
  is =
      pt ∙ ap (λ (k : ℕ). let d : Draft = record d2 { ops = patched d2.ops choose (op.Choose k end) } in d) ne
      ∙ ap (λ (k : ℕ). let d : Draft = record d2 { ops = patched d2.ops choose (op.Choose n k) } in d) ee

  long_jumping : length jumping.ops ≡ length d1.ops
  long_jumping = length_chosen (choose + 1) first o ps d1.ops

  long : length last.ops ≡ length d2.ops
  long = length-patched d2.ops choose (op.Choose n (length d2.ops))

  marks_one : d1.marks ≡ ms
  marks_one = ap (λ (d : Draft). d.marks) h.rest

  abbrev asked : ℕ
  asked = h.code.middle

  choose_is : h.code.second.middle ≡ choose
  choose_is = let i = h.code.second.second.first.end in let j = h.code.second.second.second.end in omega (arith, ce, i, j)

  table_is : h.code.second.second.middle ≡ choose + 1
  table_is = let i = h.code.second.second.first.end in omega (arith, choose_is, i)

  rises_one : a ≤ asked
  rises_one = (guards_code_stable line ms (context_at p s) xs).rises l1 a asked h.code.first

  rises_two : asked ≤ choose
  rises_two = let l = (accepts_stable ms d0.sites n line).rises l1 asked h.code.second.middle h.code.second.first in omega (arith, l, choose_is)

  -- ops before the choice stay
  before_choice : (k : ℕ) → k ≤ choose → (i : ℕ) → Same l1 now i k
  before_choice k l i =
      let m = ce in
      same_then l1 jumping now i k (before_chosen (choose + 1) first o ps l1 i k (omega arith) (omega (arith, fe))) (
      same_then jumping l2 now i k (kept_same jumping l2 i k (omega (arith, long_jumping)) b.branches.kept) (same_before l2 choose (op.Choose n (length d2.ops)) i k l))

  guards_at : GuardsCode line ms (context_at p s) xs now a asked
  guards_at = (guards_code_stable line ms (context_at p s) xs).moves l1 now a asked (before_choice asked rises_two a) h.code.first

  asks_at : AcceptsAt now ms d0.sites n line asked choose
  asks_at =
      (accepts_stable ms d0.sites n line).moves l1 now asked choose (before_choice choose (omega arith) asked)
      (subst (λ (k : ℕ). AcceptsAt l1 ms d0.sites n line asked k) choose_is h.code.second.first)

  choose_at : OpAt now choose (op.Choose n (length d2.ops)) line
  choose_at =
      patched_at l2 choose (op.Choose n (length d2.ops)) (op.Choose n 0) line (b.branches.kept.same choose (op.Choose n 0) line (
      (before_chosen (choose + 1) first o ps l1 choose (choose + 1) (omega arith) (omega (arith, fe))).same choose (op.Choose n 0) line (omega arith) (omega arith)
      (subst (λ (k : ℕ). OpAt l1 k (op.Choose n 0) line) choose_is h.code.second.second.first.here)))

  holes : HolesAt l1 line (n + 1) (choose + 1) (length d1.ops)
  holes = subst (λ (k : ℕ). HolesAt l1 line (n + 1) k (length d1.ops)) table_is h.code.second.second.second

  jumps_at : JumpsAt now line (o ∷ ps) (choose + 1) (length d1.ops)
  jumps_at =
      let k = b.count in
      let table : JumpsAt jumping line (o ∷ ps) (choose + 1) (length d1.ops) = jumps_chosen line o (choose + 1) first ps l1 (length d1.ops) (omega (arith, fe)) (λ i l. holes.each i (omega (arith, l, k))) (omega (arith, ce, k)) in
      (jumps_stable line (o ∷ ps)).moves jumping now (choose + 1) (length d1.ops) (
      same_then jumping l2 now (choose + 1) (length d1.ops) (kept_same jumping l2 (choose + 1) (length d1.ops) (omega (arith, long_jumping)) b.branches.kept) (same_after l2 choose (op.Choose n (length d2.ops)) (choose + 1) (length d1.ops) (omega arith))) table

  abbrev meant : source.Clauses
  meant = clauses_meant p (clauses_of xs) t (else_meant p other (scope_past_clauses p (clauses_of xs) t))

  branches_at : BranchesAt now ms line meant o ps (length d2.ops) (length d1.ops) (length d2.ops)
  branches_at =
      let m = ce in
      let was : BranchesAt l2 ms line meant o ps (length d2.ops) (length d1.ops) (length d2.ops) =
      subst (λ (u : Scope). BranchesAt l2 ms line (clauses_meant p (clauses_of xs) u (else_meant p other (scope_past_clauses p (clauses_of xs) u))) o ps (length d2.ops) (length d1.ops) (length d2.ops)) h.scope (
      subst (λ (ns : List CodeMark). BranchesAt l2 ns line (clauses_meant p (clauses_of xs) (scope_of d1) (else_meant p other (scope_past_clauses p (clauses_of xs) (scope_of d1)))) o ps (length d2.ops) (length d1.ops) (length d2.ops)) marks_one (
      subst (λ (k : ℕ). BranchesAt l2 d1.marks line (clauses_meant p (clauses_of xs) (scope_of d1) (else_meant p other (scope_past_clauses p (clauses_of xs) (scope_of d1)))) o ps (length d2.ops) k (length d2.ops)) long_jumping b.branches.code)) in
      (branches_stable ms line meant o ps (length d2.ops)).moves l2 now (length d1.ops) (length d2.ops) (same_after l2 choose (op.Choose n (length d2.ops)) (length d1.ops) (length d2.ops) (omega arith)) was

  chooses_at : ChoosesAt now line n (λ otherwise places k. BranchesAt now ms line meant otherwise places k) choose (length d2.ops)
  chooses_at = record { otherwise = o; places = ps; count = b.count; middle = length d1.ops; choose = choose_at; jumps = jumps_at; branches = branches_at }

  accepted_at : TaskAt now ms (source.Accept line d0.sites meant) a (length last.ops)
  accepted_at =
      subst (λ (k : ℕ). TaskAt now ms (source.Accept line d0.sites meant) a k) (sym long) (record {
        middle = asked;
        first = guards_are p line ms xs other t (scope_past_clauses p (clauses_of xs) t) now a asked guards_at;
        second = subst (λ (k : ℕ). Both (AcceptsAt now ms d0.sites k line) (ChoosesAt now line k (λ otherwise places y. BranchesAt now ms line meant otherwise places y)) asked (length d2.ops)) (sym (clauses_count p xs other t (scope_past_clauses p (clauses_of xs) t)))
            (record { middle = choose; first = asks_at; second = chooses_at });
      })

  kept_jumping : Kept (laid_in d0) jumping
  kept_jumping = let l = rises_one in let m = rises_two in until_chosen (choose + 1) first o ps (laid_in d0) l1 h.kept (omega arith) (omega (arith, fe))

  abbrev size : ℕ → ℕ
  size k = branches_room xs k + OPS_FOR_SIZE * maybe_at_size other k

  done : LowersAccept p line xs other d0 last
  done =
      let objects : size (objects_in d1.marks) ≡ size (objects_in ms) = ap (λ (ns : List CodeMark). size (objects_in ns)) marks_one in
      let l = rises_one in
      let m = rises_two in
      record {
        rest =
            ap (λ (d : Draft). let q : Draft = record d { ops = last.ops } in q) b.branches.rest
            ∙ ap (λ (d : Draft). let q : Draft = record d { ops = last.ops; rows = d2.rows; settled = d2.settled; scopes = d2.scopes; names = d2.names; cells = d2.cells; hidden = d2.hidden; texts = d2.texts; sites = d2.sites } in q) h.rest;
        scope = b.branches.scope ∙ ap (λ (u : Scope). past_branches p xs other u) h.scope;
        opened = (let u = h.opened in let v = b.branches.opened in omega arith);
        kept = kept_until (laid_in d0) l2 choose (op.Choose n (length d2.ops)) (kept_then (laid_in d0) jumping l2 kept_jumping b.branches.kept) (omega arith);
        rows =
            let set : Draft = choice_set (choose + 1) first o ps d1 in
            let one : RowsFit 0 0 d0 set = fit_like d0 set refl refl refl refl long_jumping refl h.rows in
            let under_rows : clauses_rows_under d1.marks (branches_meant p xs other (scope_of d1)) ≡ clauses_rows_under ms (branches_meant p xs other t) =
            ap (λ (ns : List CodeMark). clauses_rows_under ns (branches_meant p xs other (scope_of d1))) marks_one ∙ ap (λ (u : Scope). clauses_rows_under ms (branches_meant p xs other u)) h.scope in
            fit_count (omega (arith, under_rows)) (fit_like d0 last refl refl refl refl long refl (fit_then b.branches.kept.longer one b.branches.rows));
        room = (let u = h.room in let v = b.branches.room in omega (arith, objects, long, long_jumping, u, v));
        texts = (let u = h.texts in let v = b.branches.texts in omega arith);
        cells = (let u = h.cells in let v = b.branches.cells in omega arith);
        code = accepted_at;
      }

  pub accept_laid : LowersAccept p line xs other d0 new
  accept_laid = subst (λ (d : Draft). LowersAccept p line xs other d0 d) (sym is) done

-- as a statement

clauses_counted : (p : Program) (cs : tree.Clauses) (s : Scope) → scope_past_clauses p cs s ≡ counted s s.names (s.cells + clauses_cells cs (declared_cells p)) (s.hidden + hidden_in_clauses cs) (s.texts + length (gathered_clauses own_texts cs)) (s.sites + length (gathered_clauses (own_sites None 0) cs))
clauses_counted p tree.NoClauses s = nothing_counted s
clauses_counted p (tree.MoreClauses (Accepts place guard members body) cs) s =
    let a = length-append (gathered own_texts body) (gathered_clauses own_texts cs) in
    let b = length-append (gathered (own_sites None 0) body) (gathered_clauses (own_sites None 0) cs) in
    let c : s.cells + stmt_cells body (declared_cells p) + clauses_cells cs (declared_cells p) ≡ s.cells + (stmt_cells body (declared_cells p) + clauses_cells cs (declared_cells p)) = omega arith in
    let h : s.hidden + hidden_in body + hidden_in_clauses cs ≡ s.hidden + (hidden_in body + hidden_in_clauses cs) = omega arith in
    let e : s.texts + length (gathered own_texts body) + length (gathered_clauses own_texts cs) ≡ s.texts + length (gathered own_texts body ++ gathered_clauses own_texts cs) = omega (arith, a) in
    let f : s.sites + length (gathered (own_sites None 0) body) + length (gathered_clauses (own_sites None 0) cs) ≡ s.sites + length (gathered (own_sites None 0) body ++ gathered_clauses (own_sites None 0) cs) = omega (arith, b) in
    clauses_counted p cs (scope_past p body s) ∙ counted_as s s.names _ _ _ _ _ _ _ _ c h e f

maybe_counted : (p : Program) (m : MaybeStmt) (s : Scope) → maybe_past p m s ≡ counted s s.names (s.cells + maybe_cells m (declared_cells p)) (s.hidden + hidden_in_maybe m) (s.texts + length (gathered_maybe own_texts m)) (s.sites + length (gathered_maybe (own_sites None 0) m))
maybe_counted p NoStmt s = nothing_counted s
maybe_counted p (OneStmt body) s = refl

accept_counted : (p : Program) (place : Pos) (xs : List Clause) (other : MaybeStmt) (s : Scope) → past_branches p xs other (within_accept p s) ≡ scope_after p (Accept place (clauses_of xs) other) s
accept_counted p place xs other s =
    let cs : tree.Clauses = clauses_of xs in
    let a = length-append (gathered_clauses own_texts cs) (gathered_maybe own_texts other) in
    let b = length-append (gathered_clauses (own_sites None 0) cs) (gathered_maybe (own_sites None 0) other) in
    let c : s.cells + clauses_cells cs (declared_cells p) + maybe_cells other (declared_cells p) ≡ s.cells + (clauses_cells cs (declared_cells p) + maybe_cells other (declared_cells p)) = omega arith in
    let h : s.hidden + hidden_in_clauses cs + hidden_in_maybe other ≡ s.hidden + (hidden_in_clauses cs + hidden_in_maybe other) = omega arith in
    let e : s.texts + length (gathered_clauses own_texts cs) + length (gathered_maybe own_texts other) ≡ s.texts + length (gathered own_texts (Accept place cs other)) = omega (arith, a) in
    let f : s.sites + 1 + length (gathered_clauses (own_sites None 0) cs) + length (gathered_maybe (own_sites None 0) other) ≡ s.sites + length (gathered (own_sites None 0) (Accept place cs other)) = omega (arith, b) in
    ap (λ (u : Scope). maybe_past p other u) (clauses_counted p cs (within_accept p s))
    ∙ maybe_counted p other (counted (within_accept p s) s.names (s.cells + clauses_cells cs (declared_cells p)) (s.hidden + hidden_in_clauses cs) (s.texts + length (gathered_clauses own_texts cs)) (s.sites + 1 + length (gathered_clauses (own_sites None 0) cs)))
    ∙ counted_as s s.names _ _ _ _ _ _ _ _ c h e f

-- its room: three ops for each clause besides what its guard and its statement take

clause_fits : (x : Clause) (xs : List Clause) (k : ℕ) → guard_room (guard_of x) + 2 + OPS_FOR_SIZE * size_at (branch_of x) k + OPS_FOR_SIZE * (clauses_size (clauses_of xs) + exits_clauses (clauses_of xs) k) ≤ OPS_FOR_SIZE * (clauses_size (clauses_of (x ∷ xs)) + exits_clauses (clauses_of (x ∷ xs)) k)
clause_fits (Accepts place None members body) xs k = omega arith
clause_fits (Accepts place (Some e) members body) xs k = omega arith

clauses_fit : (xs : List Clause) (k : ℕ) → guards_room xs + length xs + branches_room xs k ≤ OPS_FOR_SIZE * (clauses_size (clauses_of xs) + exits_clauses (clauses_of xs) k)
clauses_fit [] k = omega arith
clauses_fit (x ∷ xs) k = let f = clause_fits x xs k in let r = clauses_fit xs k in omega arith

accept_fits : (xs : List Clause) (other : MaybeStmt) (k : ℕ) → accept_room xs other k ≤ OPS_FOR_SIZE * (1 + clauses_size (clauses_of xs) + maybe_stmt_size other + (exits_clauses (clauses_of xs) k + exits_maybe other k))
accept_fits xs other k = let f = clauses_fit xs k in omega arith

pub arm_accept : (p : Program) (s : Stmt) (place : Pos) (xs ys : List Clause) (other : MaybeStmt) (old new : Draft) → Accept place (clauses_of ys) other ≡ s → xs ≡ ys → LowersAccept p place.line xs other old new → LowersStmt p s old new
arm_accept p s place xs ys other old new h i a =
    let f = accept_fits xs other (objects_in old.marks) in
    as_stmt p s (Accept place (clauses_of xs) other) old new (ap (λ (l : List Clause). Accept place (clauses_of l) other) i ∙ h) (
    lowers_as a (accept_counted p place xs other (scope_of old)) (λ code x z w. w) (omega (arith, f)) (omega arith) (omega arith) (omega arith))

-- what it asks of a draft, as a statement
pub record AcceptAsks (p : Program) (s : Stmt) (xs : List Clause) (other : MaybeStmt) (d : Draft) : Type 0 where
  pub less : clauses_size (clauses_of xs) + maybe_stmt_size other < stmt_size s
  pub room : taken d + accept_room xs other (objects_in d.marks) ≤ PROGRAM_OPS
  pub cells : d.cells + (clauses_cells (clauses_of xs) (declared_cells p) + maybe_cells other (declared_cells p)) ≤ FRAME_CELLS
  pub scopes : d.scopes + (clauses_scopes (clauses_of xs) + maybe_scopes other) ≤ PROGRAM_SIZE
  pub texts : d.texts + (clauses_size (clauses_of xs) + maybe_stmt_size other) ≤ PROGRAM_SIZE

pub accept_asks : (p : Program) (s : Stmt) (place : Pos) (xs ys : List Clause) (other : MaybeStmt) (d : Draft) → Accept place (clauses_of ys) other ≡ s → xs ≡ ys → taken d + OPS_FOR_SIZE * size_at s (objects_in d.marks) ≤ PROGRAM_OPS
    → d.cells + stmt_cells s (declared_cells p) ≤ FRAME_CELLS → d.scopes + stmt_scopes s ≤ PROGRAM_SIZE → d.texts + stmt_size s ≤ PROGRAM_SIZE → AcceptAsks p s xs other d
accept_asks p s place xs ys other d e i r c o t =
    let all : Accept place (clauses_of xs) other ≡ s = ap (λ (l : List Clause). Accept place (clauses_of l) other) i ∙ e in
    let f = accept_fits xs other (objects_in d.marks) in
    let size = ap (λ (u : Stmt). size_at u (objects_in d.marks)) all in
    let count = ap stmt_size all in
    let cells = ap (λ (u : Stmt). stmt_cells u (declared_cells p)) all in
    let scopes = ap stmt_scopes all in
    record {
      less = omega (arith, count);
      room = omega (arith, f, size, r);
      cells = omega (arith, cells, c);
      scopes = omega (arith, scopes, o);
      texts = omega (arith, count, t);
    }
