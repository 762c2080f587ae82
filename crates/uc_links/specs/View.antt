-- The lists of a pool, read from its nodes, and what must hold of them.
use Rattle.std.specs.Prelude.{◌≡◌, ℕ, ◌<◌, List, map, length, Option, None, slice_index_or, replicate}
use Rattle.std.specs.Vec.{vec_len, vec_ptr}
use denote.RawPtr.{InBlock}
use Rattle.uc_links.specs.Chain.{Nodes, node}
use Rattle.uc_links.specs.Held.{AllEnds, IsHeld, entries_of, stack_of, no_ends}
use Rattle.uc_links.specs.Lists.{Lists, Pool, member_limit}
use Rattle.uc_links.specs.Rows.{wholes, AreRows, AreNeeded}
use Rattle.uc_links.specs.declared.object.Object.{Object}
use Rattle.uc_links.specs.declared.rows.Row.{Row}

abbrev pub Objects : Type 0
Objects = List AllEnds

abbrev pub no_object : AllEnds
no_object = record { entries = no_ends; members = replicate member_limit no_ends; top = None }

abbrev pub object_at : Objects → ℕ → AllEnds
object_at obs o = slice_index_or obs o no_object

abbrev pub entry : Nodes → ℕ → ℕ × ℕ
entry v i = (i, (node v i).member)

abbrev pub lists_of : Nodes → AllEnds → Lists
lists_of v ob = record { entries = map (entry v) (entries_of v ob); stack = stack_of v ob }

abbrev pub pool_of : Nodes → Objects → Pool
pool_of v obs = record { count = vec_len v; lists = map (lists_of v) obs }

-- each node has its place's number, and each object's ends and links hold the lists that are read from them
abbrev pub Holds : Nodes → Objects → Type 0
Holds v obs =
    InBlock (vec_ptr v) × ((i : ℕ) → i < vec_len v → (node v i).id ≡ i)
    × ((o : ℕ) → o < length obs → IsHeld v o (object_at obs o) (entries_of v (object_at obs o)) (stack_of v (object_at obs o)))

-- the objects with their rows hold what is read, and a row is an object's just as long as it has entries
abbrev pub IsPool : Nodes → ℕ → List Object → List Row → Option ℕ → Type 0
IsPool v capacity obs rows free = Holds v (wholes rows obs) × AreRows (vec_len v) capacity obs rows free × AreNeeded obs
