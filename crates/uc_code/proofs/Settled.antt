-- What a draft's invariant says of its rows, through each change of a draft.
use Rattle.std.proofs.Common.{◌≡◌, ◌≢◌, ℕ, zero, suc, ◌+◌, ◌<◌, ◌≤◌, ◌^◌, min, List, [], ◌∷◌, ◌++◌, length, reverse, drop, true, false, Option, Some, None, refl, ap, sym, subst, ◌∙◌, arith, length-append}
use Rattle.std.specs.Prelude.{slice_get}
use Rattle.std.proofs.lemmas.Bool.{le-ltb}
use Rattle.std.proofs.lemmas.List.{reverse-reverse, length-reverse}
use Rattle.uc_tree.specs.declared.limits.TheConstants.{PROGRAM_OPS}
use Rattle.uc_code.specs.declared.op.Op.{Op}
use Rattle.uc_code.specs.declared.rows.HandlerRow.{HandlerRow}
use Rattle.uc_code.specs.declared.rows.Instruction.{Instruction}
use Rattle.uc_code.specs.declared.rows.RowKind.{RowKind}
use Rattle.uc_code.specs.declared.rows.Handler.{Handler}
use Rattle.uc_code.specs.declared.rows.TheConstants.{OPEN_END}
use Rattle.uc_code.specs.declared.rows.CodeMark.{CodeMark}
use Rattle.uc_code.specs.declared.rows.CodeMark.TheVariants as mark
use Rattle.uc_code.specs.declared.rows.Opening.{Opening}
use Rattle.uc_code.specs.declared.rows.Opening.TheVariants as opening
use Rattle.uc_code.specs.Drafts.{ops_with}
use Rattle.uc_code.specs.Layout.{Laid, under, handlers, covers, from_newest}
use Rattle.uc_code.specs.CodeShapes.{Risk, HandlerAt, IsBare, Kept, clean_up}
use Rattle.uc_code.specs.OpenRows.{Below, first_in, named_by, opening_bound, row_in, handler_in, guard_in, entry_in, opening_mark, opening_kind, opening_event, opening_around, made, OpensBehind, AllBehind, Nested, Bare, Ended, InBody, InLoop, InRow, IsSettled, closed_row, closed_rows, left_marks, is_rowless}
use Rattle.uc_code.proofs.Patches.{one_with}
use Rattle.uc_code.proofs.Nesting.{newest, nested_rise, all_below, under_all, below_under}
use Rattle.uc_code.proofs.Closing.{Leaves, leaves, closes_list, closes_newest, reverse_push}

-- the op that comes next has the handlers of the marks
pub risk_with : (ops : List Instruction) (settled : ℕ) (rows : List HandlerRow) (ms : List CodeMark) (o : Op) (line : ℕ) → length ops < PROGRAM_OPS → IsSettled (length ops) settled rows ms → Risk (record { ops = ops_with ops o line; rows = rows }) ms o line (length ops) (length (ops_with ops o line))
risk_with ops settled rows ms o line l s =
    let code : Laid = record { ops = ops; rows = rows } in
    let one = one_with code o line in
    let e = length-append ops (record { op = o; line = line } ∷ []) in
    let p = s.past in
    record {
      here = one.here;
      end = one.end;
      under = newest settled (reverse rows) ms s.nested (length (ops_with ops o line)) (omega arith) (omega arith);
    }

-- more ops, fewer ops behind all rows

pub settled_more : (ops more settled : ℕ) (rows : List HandlerRow) (ms : List CodeMark) → ops ≤ more → IsSettled ops settled rows ms → IsSettled more settled rows ms
settled_more ops more settled rows ms l s = record { past = let p = s.past in omega arith; few = s.few; nested = s.nested; behind = s.behind }

pub settled_cut : (ops count settled : ℕ) (rows : List HandlerRow) (ms : List CodeMark) → settled ≤ count → IsSettled ops settled rows ms → IsSettled (min count ops) settled rows ms
settled_cut ops count settled rows ms l s = record { past = let p = s.past in omega arith; few = s.few; nested = s.nested; behind = s.behind }

-- marks without rows

pub settled_body : (ops settled routine : ℕ) (rows : List HandlerRow) (ms : List CodeMark) → IsSettled ops settled rows ms → IsSettled ops settled rows (mark.Body routine ∷ ms)
settled_body ops settled routine rows ms s = record { past = s.past; few = s.few; nested = InBody routine (reverse rows) ms s.nested; behind = s.behind }

pub settled_loop : (ops settled leave again : ℕ) (rows : List HandlerRow) (ms : List CodeMark) → IsSettled ops settled rows ms → IsSettled ops settled rows (mark.Loop leave again ∷ ms)
settled_loop ops settled leave again rows ms s = record { past = s.past; few = s.few; nested = InLoop leave again (reverse rows) ms s.nested; behind = s.behind }

abbrev pub tail_of : List CodeMark → List CodeMark
tail_of [] = []
tail_of (m ∷ ms) = ms

rowless_opening : (o : Opening) (n : ℕ) (ms : List CodeMark) → is_rowless (opening_mark o n ∷ ms) ≡ false
rowless_opening (opening.Main main routine line) n ms = refl
rowless_opening (opening.Whole leave) n ms = refl
rowless_opening opening.Handler n ms = refl
rowless_opening (opening.Object what line) n ms = refl
rowless_opening opening.Part n ms = refl
rowless_opening opening.Elements n ms = refl
rowless_opening (opening.Outward below) n ms = refl

nested_left : (here : ℕ) (rs : List HandlerRow) (ms : List CodeMark) → Nested here rs ms → is_rowless ms ≡ true → Nested here rs (left_marks ms)
nested_left here rs ms Bare e = Bare
nested_left here rs ms (Ended r qs _ l n) e = Ended r qs (left_marks ms) l (nested_left here qs ms n e)
nested_left here rs ms (InBody routine _ qs n) e = n
nested_left here rs ms (InLoop leave again _ qs n) e = n
nested_left here rs ms (InRow o from qs ns l n) e = let f : true ≡ false = sym e ∙ rowless_opening o (length qs) ns in absurd (cc)

behind_left : (ms : List CodeMark) → AllBehind ms → AllBehind (left_marks ms)
behind_left [] b = b
behind_left (mark.Body routine ∷ ms) b = b
behind_left (mark.Finish main routine line row ∷ ms) b = b
behind_left (mark.Loop leave again ∷ ms) b = b
behind_left (mark.Whole leave row ∷ ms) b = b
behind_left (mark.Guard row ∷ ms) b = b
behind_left (mark.Clean what line row ∷ ms) b = b
behind_left (mark.Part row ∷ ms) b = b
behind_left (mark.Elements row ∷ ms) b = b
behind_left (mark.Outward below row ∷ ms) b = b

pub settled_left : (ops settled : ℕ) (rows : List HandlerRow) (ms : List CodeMark) → is_rowless ms ≡ true → IsSettled ops settled rows ms → IsSettled ops settled rows (left_marks ms)
settled_left ops settled rows ms e s = record { past = s.past; few = s.few; nested = nested_left settled (reverse rows) ms s.nested e; behind = behind_left ms s.behind }

-- where it has no row, the innermost mark is what is left out
pub left_rowless : (m : CodeMark) (ms : List CodeMark) → is_rowless (m ∷ ms) ≡ true → left_marks (m ∷ ms) ≡ ms
left_rowless (mark.Body routine) ms e = refl
left_rowless (mark.Finish main routine line row) ms e = absurd (cc)
left_rowless (mark.Loop leave again) ms e = refl
left_rowless (mark.Whole leave row) ms e = absurd (cc)
left_rowless (mark.Guard row) ms e = absurd (cc)
left_rowless (mark.Clean what line row) ms e = absurd (cc)
left_rowless (mark.Part row) ms e = absurd (cc)
left_rowless (mark.Elements row) ms e = absurd (cc)
left_rowless (mark.Outward below row) ms e = absurd (cc)

pub left_not : (ms : List CodeMark) → is_rowless ms ≡ false → left_marks ms ≡ ms
left_not [] e = refl
left_not (mark.Body routine ∷ ms) e = absurd (cc)
left_not (mark.Finish main routine line row ∷ ms) e = refl
left_not (mark.Loop leave again ∷ ms) e = absurd (cc)
left_not (mark.Whole leave row ∷ ms) e = refl
left_not (mark.Guard row ∷ ms) e = refl
left_not (mark.Clean what line row ∷ ms) e = refl
left_not (mark.Part row ∷ ms) e = refl
left_not (mark.Elements row ∷ ms) e = refl
left_not (mark.Outward below row ∷ ms) e = refl

pub left_tail : (ms : List CodeMark) → is_rowless ms ≡ true → left_marks ms ≡ drop 1 ms
left_tail [] e = refl
left_tail (m ∷ ms) e = left_rowless m ms e

-- opening

behind_opening : (o : Opening) (n : ℕ) (ms : List CodeMark) → OpensBehind o ms → AllBehind ms → AllBehind (opening_mark o n ∷ ms)
behind_opening (opening.Main main routine line) n ms h b = b
behind_opening (opening.Whole leave) n ms h b = b
behind_opening opening.Handler n ms h b = b
behind_opening (opening.Object what line) n ms h b = (h, b)
behind_opening opening.Part n ms h b = b
behind_opening opening.Elements n ms h b = b
behind_opening (opening.Outward below) n ms h b = b

pub settled_open : (o : Opening) (ops settled : ℕ) (rows : List HandlerRow) (ms : List CodeMark) → length rows < OPEN_END → OpensBehind o ms → IsSettled ops settled rows ms → IsSettled ops ops (rows ++ made o ops ms ∷ []) (opening_mark o (length rows) ∷ ms)
settled_open o ops settled rows ms l h s =
    let e : length (reverse rows) ≡ length rows = length-reverse rows in
    let r : HandlerRow = made o ops ms in
    let n : Nested ops (r ∷ reverse rows) (opening_mark o (length (reverse rows)) ∷ ms) = InRow o ops (reverse rows) ms (omega arith) (nested_rise settled ops s.past (reverse rows) ms s.nested) in
    let m : Nested ops (r ∷ reverse rows) (opening_mark o (length rows) ∷ ms) = subst (λ k. Nested ops (r ∷ reverse rows) (opening_mark o k ∷ ms)) e n in
    record {
      past = omega arith;
      few = omega (arith, length-append rows (r ∷ []));
      nested = subst (λ qs. Nested ops qs (opening_mark o (length rows) ∷ ms)) (sym (reverse_push rows r)) m;
      behind = behind_opening o (length rows) ms h s.behind;
    }

rows_below : (ops settled : ℕ) (rows : List HandlerRow) (ms : List CodeMark) → IsSettled ops settled rows ms → Below (length rows) (handlers ms)
rows_below ops settled rows ms s = subst (λ k. Below k (handlers ms)) (length-reverse rows) (all_below settled (reverse rows) ms s.nested)

pub all_rows : (ops settled : ℕ) (rows : List HandlerRow) (ms : List CodeMark) → IsSettled ops settled rows ms → under (length rows) (handlers ms) ≡ handlers ms
all_rows ops settled rows ms s = under_all (length rows) (handlers ms) (rows_below ops settled rows ms s)

-- the row around a new one
pub outer_is : (o : Opening) (ops settled : ℕ) (rows : List HandlerRow) (ms : List CodeMark) → IsSettled ops settled rows ms → first_in (under (opening_bound o (length rows)) (handlers ms)) ≡ first_in (opening_around o ms)
outer_is (opening.Main main routine line) ops settled rows ms s = ap first_in (all_rows ops settled rows ms s)
outer_is (opening.Whole leave) ops settled rows ms s = ap first_in (all_rows ops settled rows ms s)
outer_is opening.Handler ops settled rows ms s = ap first_in (all_rows ops settled rows ms s)
outer_is (opening.Object what line) ops settled rows ms s = ap first_in (all_rows ops settled rows ms s)
outer_is opening.Part ops settled rows ms s = ap first_in (all_rows ops settled rows ms s)
outer_is opening.Elements ops settled rows ms s = ap first_in (all_rows ops settled rows ms s)
outer_is (opening.Outward below) ops settled rows ms s = refl

first_small : (k : ℕ) (ns : List ℕ) (n : ℕ) → Below k ns → first_in ns ≡ Some n → n < k
first_small k [] n b e = absurd (cc)
first_small k (m ∷ ns) n b e = let f : m ≡ n = cc in let l = b.0 in omega arith

-- its name fits
pub outer_fits : (b ops settled : ℕ) (rows : List HandlerRow) (ms : List CodeMark) (row : Option ℕ) → length rows < OPEN_END → row ≡ first_in (under b (handlers ms)) → IsSettled ops settled rows ms → (n : ℕ) → row ≡ Some n → n + 1 < 2 ^ 32
outer_fits b ops settled rows ms row l e s n q =
    let k : n < length rows = first_small (length rows) (under b (handlers ms)) n (below_under (length rows) b (handlers ms) (rows_below ops settled rows ms s)) (sym e ∙ q) in
    omega arith

covers_later : (r : HandlerRow) (next : ℕ) → next ≤ r.from → covers r next ≡ false
covers_later r next h = rw (le-ltb r.from next h) refl

front_row : (xs ys : List HandlerRow) (i : ℕ) (x : HandlerRow) → slice_get xs i ≡ Some x → slice_get (xs ++ ys) i ≡ Some x
front_row [] ys i x e = cc
front_row (y ∷ xs) ys zero x e = e
front_row (y ∷ xs) ys (suc i) x e = front_row xs ys i x e

pub kept_open : (ops : List Instruction) (rows : List HandlerRow) (r : HandlerRow) → r.from ≡ length ops → Kept (record { ops = ops; rows = rows }) (record { ops = ops; rows = rows ++ r ∷ [] })
kept_open ops rows r e = record {
  longer = omega arith;
  same = λ i o line h. record { here = h.here };
  chains = λ next h.
      let c : covers r next ≡ false = covers_later r next (omega arith) in
      ap (λ qs. from_newest qs next) (reverse_push rows r) ∙ rw c refl;
  handlers = λ number handler h. record { row = h.row; there = front_row rows (r ∷ []) number h.row h.there; kind = h.kind; event = h.event; rest = h.rest; entry = h.entry; is_set = h.is_set };
  bare = λ number h. record { row = h.row; there = front_row rows (r ∷ []) number h.row h.there; kind = h.kind; ended = h.ended; none = h.none };
}

-- closing

other_closed : (here entry k i : ℕ) (rows : List HandlerRow) → k ≢ i → slice_get (closed_rows here entry k rows) i ≡ slice_get rows i
other_closed here entry k i [] h = refl
other_closed here entry zero zero (r ∷ rs) h = absurd (h refl)
other_closed here entry zero (suc i) (r ∷ rs) h = refl
other_closed here entry (suc k) zero (r ∷ rs) h = refl
other_closed here entry (suc k) (suc i) (r ∷ rs) h = other_closed here entry k i rs (λ e. h (ap suc e))

this_closed : (here entry k : ℕ) (rows : List HandlerRow) (r : HandlerRow) → slice_get rows k ≡ Some r → slice_get (closed_rows here entry k rows) k ≡ Some (closed_row here entry r)
this_closed here entry k [] r e = absurd (cc)
this_closed here entry zero (q ∷ rs) r e = let f : q ≡ r = cc in rw f refl
this_closed here entry (suc k) (q ∷ rs) r e = this_closed here entry k rs r e

length_closed : (here entry k : ℕ) (rows : List HandlerRow) → length (closed_rows here entry k rows) ≡ length rows
length_closed here entry k [] = refl
length_closed here entry zero (r ∷ rs) = refl
length_closed here entry (suc k) (r ∷ rs) = ap suc (length_closed here entry k rs)

behind_tail : (ms : List CodeMark) → AllBehind ms → AllBehind (drop 1 ms)
behind_tail [] b = b
behind_tail (mark.Body routine ∷ ms) b = b
behind_tail (mark.Finish main routine line row ∷ ms) b = b
behind_tail (mark.Loop leave again ∷ ms) b = b
behind_tail (mark.Whole leave row ∷ ms) b = b
behind_tail (mark.Guard row ∷ ms) b = b
behind_tail (mark.Clean what line row ∷ ms) b = b.1
behind_tail (mark.Part row ∷ ms) b = b
behind_tail (mark.Elements row ∷ ms) b = b
behind_tail (mark.Outward below row ∷ ms) b = b

module _ (entry : ℕ) (ops : List Instruction) (settled : ℕ) (rows : List HandlerRow) (ms : List CodeMark) (k : ℕ) (s : IsSettled (length ops) settled rows ms) (e : row_in ms ≡ Some k) where
  abbrev here : ℕ
  here = length ops

  abbrev left : Leaves here entry (reverse rows) ms k
  left = leaves here entry settled (reverse rows) ms k s.past s.nested e

  there : slice_get rows k ≡ Some left.row
  there = subst (λ qs. slice_get qs k ≡ Some left.row) (reverse-reverse rows) left.there

  listed : reverse (closed_rows here entry k rows) ≡ left.rows
  listed =
      let f : closed_rows here entry k rows ≡ reverse left.rows = ap (λ qs. closed_rows here entry k qs) (sym (reverse-reverse rows)) ∙ closes_list here entry (reverse rows) left.rows k left.closes in
      ap reverse f ∙ reverse-reverse left.rows

  pub settled_close : IsSettled here here (closed_rows here entry k rows) (drop 1 ms)
  settled_close = record {
    past = omega arith;
    few = let f = s.few in omega (arith, length_closed here entry k rows);
    nested = subst (λ qs. Nested here qs (drop 1 ms)) (sym listed) left.nested;
    behind = behind_tail ms s.behind;
  }

  none_set : (i : ℕ) (x : Handler) (h : HandlerAt (record { ops = ops; rows = rows }) i x) → k ≢ i
  none_set i x h = λ q.
      let f : slice_get rows i ≡ Some left.row = subst (λ j. slice_get rows j ≡ Some left.row) q there in
      let g : h.row ≡ left.row = cc in
      let z : h.row.entry ≡ 0 = ap (λ (r : HandlerRow). r.entry) g ∙ left.bare in
      let y = h.is_set in
      let w = h.entry in
      absurd (omega arith)

  none_ended : (i : ℕ) (h : IsBare (record { ops = ops; rows = rows }) i) → k ≢ i
  none_ended i h = λ q.
      let f : slice_get rows i ≡ Some left.row = subst (λ j. slice_get rows j ≡ Some left.row) q there in
      let g : h.row ≡ left.row = cc in
      let z : h.row.to ≡ OPEN_END = ap (λ (r : HandlerRow). r.to) g ∙ left.lasts in
      let y = h.ended in
      absurd (omega arith)

  pub kept_close : length ops ≤ PROGRAM_OPS → Kept (record { ops = ops; rows = rows }) (record { ops = ops; rows = closed_rows here entry k rows })
  kept_close l = record {
    longer = omega arith;
    same = λ i o line h. record { here = h.here };
    chains = λ next h. ap (λ qs. from_newest qs next) listed ∙ closes_newest here entry (reverse rows) left.rows k next left.closes h (omega arith);
    handlers = λ i x h. record { row = h.row; there = other_closed here entry k i rows (none_set i x h) ∙ h.there; kind = h.kind; event = h.event; rest = h.rest; entry = h.entry; is_set = h.is_set };
    bare = λ i h. record { row = h.row; there = other_closed here entry k i rows (none_ended i h) ∙ h.there; kind = h.kind; ended = h.ended; none = h.none };
  }

  pub handler_close : 0 < entry → handler_in ms ≡ Some k → HandlerAt (record { ops = ops; rows = closed_rows here entry k rows }) k (clean_up entry)
  handler_close l h =
      let c = left.clean h in
      record {
        row = closed_row here entry left.row;
        there = this_closed here entry k rows left.row there;
        kind = c.kind;
        event = c.event;
        rest = c.rest;
        entry = refl;
        is_set = l;
      }

  pub bare_close : entry ≡ 0 → length ops ≤ PROGRAM_OPS → guard_in ms ≡ Some k → IsBare (record { ops = ops; rows = closed_rows here entry k rows }) k
  bare_close e l h = record {
    row = closed_row here entry left.row;
    there = this_closed here entry k rows left.row there;
    kind = left.guard h;
    ended = omega arith;
    none = e;
  }

pub handler_row : (ms : List CodeMark) (k : ℕ) → handler_in ms ≡ Some k → row_in ms ≡ Some k
handler_row [] k e = absurd (cc)
handler_row (mark.Body routine ∷ ms) k e = absurd (cc)
handler_row (mark.Finish main routine line row ∷ ms) k e = e
handler_row (mark.Loop leave again ∷ ms) k e = absurd (cc)
handler_row (mark.Whole leave row ∷ ms) k e = e
handler_row (mark.Guard row ∷ ms) k e = absurd (cc)
handler_row (mark.Clean what line row ∷ ms) k e = e
handler_row (mark.Part row ∷ ms) k e = e
handler_row (mark.Elements row ∷ ms) k e = e
handler_row (mark.Outward below row ∷ ms) k e = absurd (cc)

pub guard_row : (ms : List CodeMark) (k : ℕ) → guard_in ms ≡ Some k → row_in ms ≡ Some k
guard_row [] k e = absurd (cc)
guard_row (mark.Body routine ∷ ms) k e = absurd (cc)
guard_row (mark.Finish main routine line row ∷ ms) k e = absurd (cc)
guard_row (mark.Loop leave again ∷ ms) k e = absurd (cc)
guard_row (mark.Whole leave row ∷ ms) k e = absurd (cc)
guard_row (mark.Guard row ∷ ms) k e = e
guard_row (mark.Clean what line row ∷ ms) k e = absurd (cc)
guard_row (mark.Part row ∷ ms) k e = absurd (cc)
guard_row (mark.Elements row ∷ ms) k e = absurd (cc)
guard_row (mark.Outward below row ∷ ms) k e = absurd (cc)

pub guard_entry : (ms : List CodeMark) (k entry : ℕ) → guard_in ms ≡ Some k → entry_in ms entry ≡ 0
guard_entry [] k entry e = absurd (cc)
guard_entry (mark.Body routine ∷ ms) k entry e = absurd (cc)
guard_entry (mark.Finish main routine line row ∷ ms) k entry e = absurd (cc)
guard_entry (mark.Loop leave again ∷ ms) k entry e = absurd (cc)
guard_entry (mark.Whole leave row ∷ ms) k entry e = absurd (cc)
guard_entry (mark.Guard row ∷ ms) k entry e = refl
guard_entry (mark.Clean what line row ∷ ms) k entry e = absurd (cc)
guard_entry (mark.Part row ∷ ms) k entry e = absurd (cc)
guard_entry (mark.Elements row ∷ ms) k entry e = absurd (cc)
guard_entry (mark.Outward below row ∷ ms) k entry e = absurd (cc)

pub handler_entry : (ms : List CodeMark) (k entry : ℕ) → handler_in ms ≡ Some k → entry_in ms entry ≡ entry
handler_entry [] k entry e = absurd (cc)
handler_entry (mark.Body routine ∷ ms) k entry e = refl
handler_entry (mark.Finish main routine line row ∷ ms) k entry e = refl
handler_entry (mark.Loop leave again ∷ ms) k entry e = refl
handler_entry (mark.Whole leave row ∷ ms) k entry e = refl
handler_entry (mark.Guard row ∷ ms) k entry e = absurd (cc)
handler_entry (mark.Clean what line row ∷ ms) k entry e = refl
handler_entry (mark.Part row ∷ ms) k entry e = refl
handler_entry (mark.Elements row ∷ ms) k entry e = refl
handler_entry (mark.Outward below row ∷ ms) k entry e = refl

pub handler_none : (ms : List CodeMark) (k : ℕ) → row_in ms ≡ None → handler_in ms ≡ Some k → ⊥
handler_none ms k e h = let f : Some k ≡ None = sym (handler_row ms k h) ∙ e in absurd (cc)

same_some : (a b : ℕ) → (let o : Option ℕ = Some a in o ≡ Some b) → a ≡ b
same_some a b e = cc

-- the row that is closed is the one that the innermost mark has, and its clean-up begins there
pub handler_closed : (entry : ℕ) (ops : List Instruction) (settled : ℕ) (rows : List HandlerRow) (ms : List CodeMark) (k : ℕ) → IsSettled (length ops) settled rows ms → row_in ms ≡ Some k → 0 < entry → (row : ℕ) → handler_in ms ≡ Some row → HandlerAt (record { ops = ops; rows = closed_rows (length ops) (entry_in ms entry) k rows }) row (clean_up entry)
handler_closed entry ops settled rows ms k s e l row h =
    let q : k ≡ row = same_some k row (sym e ∙ handler_row ms row h) in
    let g : handler_in ms ≡ Some k = h ∙ ap (λ (n : ℕ). Some n) (sym q) in
    let f : entry_in ms entry ≡ entry = handler_entry ms row entry h in
    subst (λ n. HandlerAt (record { ops = ops; rows = closed_rows (length ops) (entry_in ms entry) k rows }) n (clean_up entry)) q
    (subst (λ n. HandlerAt (record { ops = ops; rows = closed_rows (length ops) n k rows }) k (clean_up entry)) (sym f) (handler_close entry ops settled rows ms k s e l g))

pub bare_closed : (entry : ℕ) (ops : List Instruction) (settled : ℕ) (rows : List HandlerRow) (ms : List CodeMark) (k : ℕ) → IsSettled (length ops) settled rows ms → row_in ms ≡ Some k → length ops ≤ PROGRAM_OPS → (row : ℕ) → guard_in ms ≡ Some row → IsBare (record { ops = ops; rows = closed_rows (length ops) (entry_in ms entry) k rows }) row
bare_closed entry ops settled rows ms k s e l row h =
    let q : k ≡ row = same_some k row (sym e ∙ guard_row ms row h) in
    let g : guard_in ms ≡ Some k = h ∙ ap (λ (n : ℕ). Some n) (sym q) in
    subst (λ n. IsBare (record { ops = ops; rows = closed_rows (length ops) (entry_in ms entry) k rows }) n) q
    (bare_close (entry_in ms entry) ops settled rows ms k s e (guard_entry ms row entry h) l g)

-- the row that is made
pub row_made : (o : Opening) (ops from outer event : ℕ) (kind : RowKind) (ms : List CodeMark) → from ≡ ops → outer ≡ named_by (opening_around o ms) → kind ≡ opening_kind o → event ≡ opening_event o → (let r : HandlerRow = record { from = from; to = OPEN_END; outer = outer; kind = kind; event = event; rest = 0; entry = 0 } in r ≡ made o ops ms)
row_made o ops from outer event kind ms e f k g = rw (e, f, k, g) refl
