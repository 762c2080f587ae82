-- Rows while code is laid out: a row is open from its first op on, and closed behind its last one.
use Rattle.std.specs.Prelude.{◌≡◌, ℕ, zero, suc, ◌+◌, ◌<◌, ◌≤◌, ◌++◌, List, [], ◌∷◌, length, reverse, drop, min, Bool, true, false, nat_lt, if◌then◌else◌, slice_get, Option, Some, None}
use Rattle.uc_code.specs.declared.rows.HandlerRow.{HandlerRow}
use Rattle.uc_code.specs.declared.rows.Handler.{Handler}
use Rattle.uc_code.specs.declared.rows.RowKind.{RowKind}
use Rattle.uc_code.specs.declared.rows.RowKind.TheVariants.{Catch, CleanUp}
use Rattle.uc_code.specs.declared.rows.TheConstants.{ANY_EVENT, NO_EVENT, OPEN_END}
use Rattle.uc_code.specs.declared.rows.CodeMark.{CodeMark}
use Rattle.uc_code.specs.declared.rows.CodeMark.TheVariants as mark
use Rattle.uc_code.specs.declared.rows.ObjectCall.{ObjectCall}
use Rattle.uc_code.specs.declared.rows.Cleaning.{Cleaning}
use Rattle.uc_code.specs.declared.rows.Cleaning.TheVariants as cleaning
use Rattle.uc_code.specs.declared.rows.Opening.{Opening}
use Rattle.uc_code.specs.declared.rows.Opening.TheVariants as opening
use Rattle.uc_code.specs.declared.marks.RowView.{RowView}
use Rattle.uc_code.specs.declared.marks.RowView.TheVariants as seen
use Rattle.uc_code.specs.Drafts.{Draft}
use Rattle.uc_code.specs.Layout.{under, handlers, routine_in}

-- the first of these rows
abbrev pub first_in : List ℕ → Option ℕ
first_in [] = None
first_in (n ∷ ns) = Some n

-- its name: its number plus 1, or 0 where there is none
abbrev pub name_of : Option ℕ → ℕ
name_of None = 0
name_of (Some n) = suc n

abbrev pub named_by : List ℕ → ℕ
named_by ns = name_of (first_in ns)

-- the row of a mark, if it has one
abbrev pub row_in : List CodeMark → Option ℕ
row_in [] = None
row_in (mark.Body routine ∷ ms) = None
row_in (mark.Finish main routine line row ∷ ms) = Some row
row_in (mark.Loop leave again ∷ ms) = None
row_in (mark.Whole leave row ∷ ms) = Some row
row_in (mark.Guard row ∷ ms) = Some row
row_in (mark.Clean what line row ∷ ms) = Some row
row_in (mark.Part row ∷ ms) = Some row
row_in (mark.Elements row ∷ ms) = Some row
row_in (mark.Outward below row ∷ ms) = Some row

-- the same, where the row has a clean-up
abbrev pub handler_in : List CodeMark → Option ℕ
handler_in [] = None
handler_in (mark.Body routine ∷ ms) = None
handler_in (mark.Finish main routine line row ∷ ms) = Some row
handler_in (mark.Loop leave again ∷ ms) = None
handler_in (mark.Whole leave row ∷ ms) = Some row
handler_in (mark.Guard row ∷ ms) = None
handler_in (mark.Clean what line row ∷ ms) = Some row
handler_in (mark.Part row ∷ ms) = Some row
handler_in (mark.Elements row ∷ ms) = Some row
handler_in (mark.Outward below row ∷ ms) = None

-- the same, where it is that of a handler of a guarded block
abbrev pub guard_in : List CodeMark → Option ℕ
guard_in [] = None
guard_in (mark.Body routine ∷ ms) = None
guard_in (mark.Finish main routine line row ∷ ms) = None
guard_in (mark.Loop leave again ∷ ms) = None
guard_in (mark.Whole leave row ∷ ms) = None
guard_in (mark.Guard row ∷ ms) = Some row
guard_in (mark.Clean what line row ∷ ms) = None
guard_in (mark.Part row ∷ ms) = None
guard_in (mark.Elements row ∷ ms) = None
guard_in (mark.Outward below row ∷ ms) = None

-- opening

-- the mark of a row
abbrev pub opening_mark : Opening → ℕ → CodeMark
opening_mark (opening.Main main routine line) row = mark.Finish main routine line row
opening_mark (opening.Whole leave) row = mark.Whole leave row
opening_mark opening.Handler row = mark.Guard row
opening_mark (opening.Object what line) row = mark.Clean what line row
opening_mark opening.Part row = mark.Part row
opening_mark opening.Elements row = mark.Elements row
opening_mark (opening.Outward below) row = mark.Outward below row

-- what kind of row it is: that of a handler is set once it is laid out
abbrev pub opening_kind : Opening → RowKind
opening_kind (opening.Main main routine line) = CleanUp
opening_kind (opening.Whole leave) = CleanUp
opening_kind opening.Handler = Catch
opening_kind (opening.Object what line) = CleanUp
opening_kind opening.Part = CleanUp
opening_kind opening.Elements = CleanUp
opening_kind (opening.Outward below) = CleanUp

abbrev pub opening_event : Opening → ℕ
opening_event (opening.Main main routine line) = ANY_EVENT
opening_event (opening.Whole leave) = ANY_EVENT
opening_event opening.Handler = ANY_EVENT
opening_event (opening.Object what line) = ANY_EVENT
opening_event opening.Part = ANY_EVENT
opening_event opening.Elements = ANY_EVENT
opening_event (opening.Outward below) = NO_EVENT

-- the number below which the rows around it are, where there are so many rows
abbrev pub opening_bound : Opening → ℕ → ℕ
opening_bound (opening.Main main routine line) rows = rows
opening_bound (opening.Whole leave) rows = rows
opening_bound opening.Handler rows = rows
opening_bound (opening.Object what line) rows = rows
opening_bound opening.Part rows = rows
opening_bound opening.Elements rows = rows
opening_bound (opening.Outward below) rows = below

-- the rows around it
abbrev pub opening_around : Opening → List CodeMark → List ℕ
opening_around (opening.Main main routine line) ms = handlers ms
opening_around (opening.Whole leave) ms = handlers ms
opening_around opening.Handler ms = handlers ms
opening_around (opening.Object what line) ms = handlers ms
opening_around opening.Part ms = handlers ms
opening_around opening.Elements ms = handlers ms
opening_around (opening.Outward below) ms = under below (handlers ms)

-- the row that an opening makes
abbrev pub made : Opening → ℕ → List CodeMark → HandlerRow
made o from ms = record { from = from; to = OPEN_END; outer = named_by (opening_around o ms); kind = opening_kind o; event = opening_event o; rest = 0; entry = 0 }

-- a draft in which a row is opened
abbrev pub opened : Opening → Draft → Draft
opened o d = record d { rows = d.rows ++ made o (length d.ops) d.marks ∷ []; settled = length d.ops; marks = opening_mark o (length d.rows) ∷ d.marks }

-- a constructor or a destructor that nobody wrote stands further on among the routines than what calls it
pub record StandsBehind (ms : List CodeMark) (what : ObjectCall) : Type 0 where
  pub behind : what.written ≡ false → routine_in ms < what.routine

-- so it does for what cleans up by a call
abbrev pub CleansBehind : List CodeMark → Cleaning → Type 0
CleansBehind ms (cleaning.Call what) = StandsBehind ms what
CleansBehind ms cleaning.TakeDown = Unit {0}
CleansBehind ms cleaning.Forget = Unit {0}
CleansBehind ms cleaning.Leave = Unit {0}
CleansBehind ms cleaning.End = Unit {0}
CleansBehind ms (cleaning.Free main) = Unit {0}
CleansBehind ms (cleaning.Restore cell) = Unit {0}

-- so it is for what cleans up the objects in whose scope these marks stand
abbrev pub OpensBehind : Opening → List CodeMark → Type 0
OpensBehind (opening.Main main routine line) ms = Unit {0}
OpensBehind (opening.Whole leave) ms = Unit {0}
OpensBehind opening.Handler ms = Unit {0}
OpensBehind (opening.Object what line) ms = CleansBehind ms what
OpensBehind opening.Part ms = Unit {0}
OpensBehind opening.Elements ms = Unit {0}
OpensBehind (opening.Outward below) ms = Unit {0}

abbrev pub AllBehind : List CodeMark → Type 0
AllBehind [] = Unit {0}
AllBehind (mark.Body routine ∷ ms) = AllBehind ms
AllBehind (mark.Finish main routine line row ∷ ms) = AllBehind ms
AllBehind (mark.Loop leave again ∷ ms) = AllBehind ms
AllBehind (mark.Whole leave row ∷ ms) = AllBehind ms
AllBehind (mark.Guard row ∷ ms) = AllBehind ms
AllBehind (mark.Clean what line row ∷ ms) = CleansBehind ms what × AllBehind ms
AllBehind (mark.Part row ∷ ms) = AllBehind ms
AllBehind (mark.Elements row ∷ ms) = AllBehind ms
AllBehind (mark.Outward below row ∷ ms) = AllBehind ms

-- the row of this number ends by this place, not before it begins, and the row around it is older
pub record IsEnded (here number : ℕ) (r : HandlerRow) : Type 0 where
  pub within : r.to ≤ here
  pub range : r.from ≤ r.to
  pub outer : r.outer ≤ number

-- all rows are
pub record AreEnded (here : ℕ) (rows : List HandlerRow) : Type 0 where
  pub each : (number : ℕ) (row : HandlerRow) → slice_get rows number ≡ Some row → IsEnded here number row

-- the marks and the rows fit one another: a mark with a row has one that is still open, the marks around it have older rows, and
-- every row that is no mark's has ended by this place. The newest row stands first.
pub data Nested (here : ℕ) : List HandlerRow → List CodeMark → Type 0 where
  Bare : Nested here [] []
  Ended : (r : HandlerRow) (rs : List HandlerRow) (ms : List CodeMark) → IsEnded here (length rs) r → Nested here rs ms → Nested here (r ∷ rs) ms
  InBody : (routine : ℕ) (rs : List HandlerRow) (ms : List CodeMark) → Nested here rs ms → Nested here rs (mark.Body routine ∷ ms)
  InLoop : (leave again : ℕ) (rs : List HandlerRow) (ms : List CodeMark) → Nested here rs ms → Nested here rs (mark.Loop leave again ∷ ms)
  InRow : (o : Opening) (from : ℕ) (rs : List HandlerRow) (ms : List CodeMark) → from ≤ here → Nested here rs ms → Nested here (made o from ms ∷ rs) (opening_mark o (length rs) ∷ ms)

-- numbers below another
abbrev pub Below : ℕ → List ℕ → Type 0
Below k [] = Unit {0}
Below k (n ∷ ns) = (n < k) × Below k ns

-- the rows of marks are newer than those of the marks around them
abbrev pub Falling : List CodeMark → Type 0
Falling [] = Unit {0}
Falling (mark.Body routine ∷ ms) = Falling ms
Falling (mark.Finish main routine line row ∷ ms) = Below row (handlers ms) × Falling ms
Falling (mark.Loop leave again ∷ ms) = Falling ms
Falling (mark.Whole leave row ∷ ms) = Below row (handlers ms) × Falling ms
Falling (mark.Guard row ∷ ms) = Below row (handlers ms) × Falling ms
Falling (mark.Clean what line row ∷ ms) = Below row (handlers ms) × Falling ms
Falling (mark.Part row ∷ ms) = Below row (handlers ms) × Falling ms
Falling (mark.Elements row ∷ ms) = Below row (handlers ms) × Falling ms
Falling (mark.Outward below row ∷ ms) = Falling ms

-- a draft's ops from a place on have the handlers of its marks, of which it has so few that a number names each
pub record IsSettled (ops settled : ℕ) (rows : List HandlerRow) (ms : List CodeMark) : Type 0 where
  pub past : settled ≤ ops
  pub few : length rows ≤ OPEN_END
  pub nested : Nested settled (reverse rows) ms
  pub behind : AllBehind ms

-- closing

-- a row ends here, and its clean-up begins at this op
abbrev pub closed_row : ℕ → ℕ → HandlerRow → HandlerRow
closed_row here entry r = record r { to = here; entry = entry }

-- the row of this number does
abbrev pub closed_rows : ℕ → ℕ → ℕ → List HandlerRow → List HandlerRow
closed_rows here entry number [] = []
closed_rows here entry zero (r ∷ rs) = closed_row here entry r ∷ rs
closed_rows here entry (suc number) (r ∷ rs) = r ∷ closed_rows here entry number rs

abbrev pub closed_by : Option ℕ → ℕ → Draft → Draft
closed_by None entry d = d
closed_by (Some number) entry d = record d { rows = closed_rows (length d.ops) entry number d.rows; settled = length d.ops; marks = drop 1 d.marks }

-- the row of a handler has none until that is laid out
abbrev pub entry_in : List CodeMark → ℕ → ℕ
entry_in [] entry = entry
entry_in (mark.Body routine ∷ ms) entry = entry
entry_in (mark.Finish main routine line row ∷ ms) entry = entry
entry_in (mark.Loop leave again ∷ ms) entry = entry
entry_in (mark.Whole leave row ∷ ms) entry = entry
entry_in (mark.Guard row ∷ ms) entry = 0
entry_in (mark.Clean what line row ∷ ms) entry = entry
entry_in (mark.Part row ∷ ms) entry = entry
entry_in (mark.Elements row ∷ ms) entry = entry
entry_in (mark.Outward below row ∷ ms) entry = entry

-- a draft in which the row of the innermost mark is closed; its clean-up begins so many ops further on
abbrev pub closed : ℕ → Draft → Draft
closed ahead d = closed_by (row_in d.marks) (entry_in d.marks (length d.ops + ahead)) d

-- handlers of guarded blocks

-- a row gets its handler
abbrev pub handled_row : Handler → HandlerRow → HandlerRow
handled_row h r = record r { kind = h.kind; event = h.event; rest = h.rest; entry = h.entry }

-- the row of this number does
abbrev pub handled_rows : Handler → ℕ → List HandlerRow → List HandlerRow
handled_rows h number [] = []
handled_rows h zero (r ∷ rs) = handled_row h r ∷ rs
handled_rows h (suc number) (r ∷ rs) = r ∷ handled_rows h number rs

-- leaving a mark that has no row

abbrev pub is_rowless : List CodeMark → Bool
is_rowless [] = false
is_rowless (mark.Body routine ∷ ms) = true
is_rowless (mark.Finish main routine line row ∷ ms) = false
is_rowless (mark.Loop leave again ∷ ms) = true
is_rowless (mark.Whole leave row ∷ ms) = false
is_rowless (mark.Guard row ∷ ms) = false
is_rowless (mark.Clean what line row ∷ ms) = false
is_rowless (mark.Part row ∷ ms) = false
is_rowless (mark.Elements row ∷ ms) = false
is_rowless (mark.Outward below row ∷ ms) = false

abbrev pub left_marks : List CodeMark → List CodeMark
left_marks [] = []
left_marks (mark.Body routine ∷ ms) = ms
left_marks (mark.Finish main routine line row ∷ ms) = mark.Finish main routine line row ∷ ms
left_marks (mark.Loop leave again ∷ ms) = ms
left_marks (mark.Whole leave row ∷ ms) = mark.Whole leave row ∷ ms
left_marks (mark.Guard row ∷ ms) = mark.Guard row ∷ ms
left_marks (mark.Clean what line row ∷ ms) = mark.Clean what line row ∷ ms
left_marks (mark.Part row ∷ ms) = mark.Part row ∷ ms
left_marks (mark.Elements row ∷ ms) = mark.Elements row ∷ ms
left_marks (mark.Outward below row ∷ ms) = mark.Outward below row ∷ ms

-- what a mark tells of the rows below a number

abbrev pub seen_row : ℕ → ℕ → RowView
seen_row row bound = if nat_lt row bound then seen.Row row else seen.Bound bound

abbrev pub seen_at : CodeMark → ℕ → RowView
seen_at (mark.Body routine) bound = seen.Bound bound
seen_at (mark.Finish main routine line row) bound = seen_row row bound
seen_at (mark.Loop leave again) bound = seen.Bound bound
seen_at (mark.Whole leave row) bound = seen_row row bound
seen_at (mark.Guard row) bound = seen_row row bound
seen_at (mark.Clean what line row) bound = seen_row row bound
seen_at (mark.Part row) bound = seen_row row bound
seen_at (mark.Elements row) bound = seen_row row bound
seen_at (mark.Outward below row) bound = seen.Bound (min bound below)

-- how many ops clean-ups and exits take

abbrev pub clean_room : ℕ
clean_room = 23

abbrev pub exit_room : List CodeMark → ℕ
exit_room [] = 1
exit_room (mark.Body routine ∷ ms) = 1
exit_room (mark.Finish main routine line row ∷ ms) = 1
exit_room (mark.Loop leave again ∷ ms) = exit_room ms
exit_room (mark.Whole leave row ∷ ms) = 1
exit_room (mark.Guard row ∷ ms) = exit_room ms
exit_room (mark.Clean what line row ∷ ms) = clean_room + exit_room ms
exit_room (mark.Part row ∷ ms) = exit_room ms
exit_room (mark.Elements row ∷ ms) = exit_room ms
exit_room (mark.Outward below row ∷ ms) = 1
