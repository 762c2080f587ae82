-- Rows of members' ends: which object has which, and which are free.
use Rattle.std.specs.Prelude.{◌≡◌, ◌≢◌, ℕ, ◌<◌, ◌≤◌, ◌^◌, List, [], ◌∷◌, ◌++◌, map, length, Option, Some, None, replicate, slice_index_or, slice_set, ⊤}
use Rattle.std.specs.Vec.{vec_len, vec_capacity}
use Rattle.uc_links.specs.declared.chain.Ends.{Ends}
use Rattle.uc_links.specs.declared.chain.NodePtr.{NodePtr}
use Rattle.uc_links.specs.declared.object.Object.{Object}
use Rattle.uc_links.specs.declared.rows.Row.{Row}
use Rattle.uc_links.specs.declared.rows.Rows.{Rows}
use Rattle.uc_links.specs.Chain.{Avoids, IsApart}
use Rattle.uc_links.specs.Held.{AllEnds, no_ends}
use Rattle.uc_links.specs.Lists.{member_limit}

-- ---- an object and its row
abbrev pub no_members : List Ends
no_members = replicate member_limit no_ends

abbrev pub no_row : Row
no_row = record { members = no_members; next = None }

abbrev pub row_at : List Row → ℕ → Row
row_at rows r = slice_index_or rows r no_row

abbrev pub members_of : List Row → Option ℕ → List Ends
members_of rows None = no_members
members_of rows (Some r) = (row_at rows r).members

abbrev pub bare : Object
bare = record { entries = no_ends; row = None; top = None }

abbrev pub bare_at : List Object → ℕ → Object
bare_at obs o = slice_index_or obs o bare

abbrev pub with_members : Object → List Ends → AllEnds
with_members ob ms = record { entries = ob.entries; members = ms; top = ob.top }

abbrev pub joined : Object → Row → AllEnds
joined ob row = with_members ob row.members

-- an object without a row has no callers of any member
abbrev pub whole : List Row → Object → AllEnds
whole rows ob = with_members ob (members_of rows ob.row)

abbrev pub wholes : List Row → List Object → List AllEnds
wholes rows obs = map (whole rows) obs

-- ---- what must hold
-- these are the free rows, each of which leads to the next; none has ends
abbrev pub IsFreeFrom : List Row → Option ℕ → List ℕ → Type 0
IsFreeFrom rows p [] = p ≡ None
IsFreeFrom rows p (r ∷ rs) = (p ≡ Some r) × (r < length rows) × ((row_at rows r).members ≡ no_members) × IsFreeFrom rows (row_at rows r).next rs

-- Of each row it is known whose it is, or that it is free. There is room for as many rows as there are nodes.
pub record AreRows (nodes capacity : ℕ) (obs : List Object) (rows : List Row) (free : Option ℕ) : Type 0 where
  pub unused : List ℕ
  pub leads : IsFreeFrom rows free unused
  pub apart : IsApart unused
  pub used : (r : ℕ) → r < length rows → Avoids r unused → (o : ℕ) × ((bare_at obs o).row ≡ Some r)
  pub has : (o r : ℕ) → (bare_at obs o).row ≡ Some r → (r < length rows) × Avoids r unused
  pub once : (o p r : ℕ) → (bare_at obs o).row ≡ Some r → (bare_at obs p).row ≡ Some r → o ≡ p
  pub few : length rows ≤ nodes
  pub room : nodes ≤ capacity
  pub numbers : nodes ≤ 2 ^ 32

-- an object has a row just where it has entries
abbrev pub IsNeeded : Object → Type 0
IsNeeded ob = (ob.row ≡ None → ob.entries.first ≡ None) × ((r : ℕ) → ob.row ≡ Some r → ob.entries.first ≢ None)

abbrev pub AreNeeded : List Object → Type 0
AreNeeded obs = (o : ℕ) → IsNeeded (bare_at obs o)

-- ---- what a call asks for and leaves
-- a row may be taken
abbrev pub MayTake : Rows → Option ℕ → Type 0
MayTake rows None = (vec_len rows.list < vec_capacity rows.list) × (vec_len rows.list < 2 ^ 32)
MayTake rows (Some r) = r < length rows.list.items

-- the row r was taken: the first free one, or a new one where p is None
abbrev pub Took : Option ℕ → Rows → Rows → ℕ → Type 0
Took None old new r = (r ≡ length old.list.items) × (new.list.items ≡ old.list.items ++ no_row ∷ []) × (new.free ≡ None)
Took (Some p) old new r = (r ≡ p) × (new.list.items ≡ old.list.items) × (new.free ≡ (row_at old.list.items p).next)

abbrev pub MayClaim : Rows → Option ℕ → Type 0
MayClaim rows None = MayTake rows rows.free
MayClaim rows (Some r) = ⊤

-- the object has the row r
abbrev pub Claimed : Option ℕ → Object → Rows → Object → Rows → ℕ → Type 0
Claimed None ob old ob' new r = Took old.free old new r × (ob' ≡ record { entries = ob.entries; row = Some r; top = ob.top })
Claimed (Some p) ob old ob' new r = (r ≡ p) × (new ≡ old) × (ob' ≡ ob)

-- an object without a first entry gave the row r back
abbrev pub Vacated : Option NodePtr → Object → Rows → ℕ → Object → Rows → Type 0
Vacated None ob old r ob' new =
    (ob' ≡ record { entries = ob.entries; row = None; top = ob.top }) × (new.free ≡ Some r)
    × (new.list.items ≡ slice_set old.list.items r (record { members = (row_at old.list.items r).members; next = old.free }))
Vacated (Some p) ob old r ob' new = (ob' ≡ ob) × (new ≡ old)
