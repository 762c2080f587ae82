-- A pool as its callers see it: how many nodes it has, and for each object a list of entries and a stack.
use Rattle.std.specs.Prelude.{true, false, Bool, ◌&&◌, ◌≡◌, ◌≢◌, ℕ, ◌<◌, ◌+◌, List, [], ◌∷◌, ◌++◌, length, ◌==◌, not, Option, Some, None, option_map, slice_index_or, slice_set}
use Rattle.std.specs.List.{AllByRecursion, filter, find, list_any}

-- the members of an object are numbered below this
abbrev pub member_limit : ℕ
member_limit = 32

-- An entry is a pair of a task and a member, and the oldest entry comes first. The top of the stack comes first.
pub record Lists : Type 0 where
  pub entries : List (ℕ × ℕ)
  pub stack : List ℕ

pub record Pool : Type 0 where
  pub count : ℕ
  pub lists : List Lists

abbrev pub no_lists : Lists
no_lists = record { entries = []; stack = [] }

-- the lists of an object, which are empty where it is not known
abbrev pub lists_at : Pool → ℕ → Lists
lists_at p o = slice_index_or p.lists o no_lists

abbrev pub with_lists : Pool → ℕ → Lists → Pool
with_lists p o l = record { count = p.count; lists = slice_set p.lists o l }

-- ---- what a call asks for
-- the node is in no list
abbrev pub IsFree : ℕ → Pool → Type 0
IsFree id p = (o : ℕ) → o < length p.lists → AllByRecursion (λ e. e.0 ≢ id) (lists_at p o).entries × AllByRecursion (λ i. i ≢ id) (lists_at p o).stack

-- the task is among the entries
abbrev pub IsEntry : ℕ → List (ℕ × ℕ) → Type 0
IsEntry id es = list_any (λ e. e.0 == id) es ≡ true

-- ---- what a call answers
abbrev pub first_of : {X : Type 0} → List X → Option X
first_of [] = None
first_of (x ∷ xs) = Some x

-- the task of the oldest entry with the member
abbrev pub first_with : ℕ → List (ℕ × ℕ) → Option ℕ
first_with m es = option_map (λ e. e.0) (find (λ e. e.1 == m) es)

-- whether nobody stands in either list
abbrev pub is_nil : {X : Type 0} → List X → Bool
is_nil [] = true
is_nil (x ∷ xs) = false

abbrev pub has_none : Lists → Bool
has_none l = is_nil l.entries && is_nil l.stack

-- ---- what a call leaves
abbrev pub empty_pool : ℕ → Pool
empty_pool n = record { count = n; lists = [] }

abbrev pub with_node : Pool → Pool
with_node p = record { count = p.count + 1; lists = p.lists }

abbrev pub with_object : Pool → Pool
with_object p = record { count = p.count; lists = p.lists ++ no_lists ∷ [] }

abbrev pub pushed_back : Pool → ℕ → ℕ → ℕ → Pool
pushed_back p o m id = with_lists p o (record { entries = (lists_at p o).entries ++ (id, m) ∷ []; stack = (lists_at p o).stack })

-- the other entries, in the same order
abbrev pub without : ℕ → List (ℕ × ℕ) → List (ℕ × ℕ)
without id = filter (λ e. not (e.0 == id))

abbrev pub unlinked : Pool → ℕ → ℕ → Pool
unlinked p o id = with_lists p o (record { entries = without id (lists_at p o).entries; stack = (lists_at p o).stack })

abbrev pub pushed_top : Pool → ℕ → ℕ → Pool
pushed_top p o id = with_lists p o (record { entries = (lists_at p o).entries; stack = id ∷ (lists_at p o).stack })

abbrev pub rest_of : List ℕ → List ℕ
rest_of [] = []
rest_of (i ∷ is) = is

abbrev pub popped : Pool → ℕ → Pool
popped p o = with_lists p o (record { entries = (lists_at p o).entries; stack = rest_of (lists_at p o).stack })
