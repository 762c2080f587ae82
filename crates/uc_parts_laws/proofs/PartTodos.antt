-- To-do lists in order: what stands behind a piece is, and so is a routine as it begins.
use Rattle.std.proofs.Common.{◌≡◌, ℕ, ◌<◌, inl, inr, Bool, true, false, List, [], ◌∷◌, Some, refl, sym, subst}
use Rattle.uc_tree.specs.Source as src
use Rattle.uc_tree.specs.Source.{Expr, Way, CleanUp, Stmt, Stmts, Handlers, Routine, Purpose}
use Rattle.uc_machine.specs.Pieces as piece
use Rattle.uc_machine.specs.Pieces.{Todo, Sort, sort}
use Rattle.uc_machine.specs.Quiet as quiet
use Rattle.uc_machine.specs.Quiet.{MOST_ELEMENTS}
use Rattle.uc_parts_laws.specs.Parts.{CleansPart, CleansInner, NoArray, InnerStmt, InnerStmts, HeadStmts, BuildingStmts, PartsRoutine, FreeBy, IsFree, ClearBy, IsClear, OpensAll, FillEnds, CountsNext, MoreFills, CleansMark, BehindMark, AllParts, Parted, Heads, HeadDo, IsOrderly}

-- statements that fill no array may stand before anything
pub inner_more : (P Q : ℕ → Expr → Type 0) → ((m : ℕ) (d : Expr) → P m d → Q m d) → (a : Stmt) → InnerStmt P a → InnerStmt Q a
inner_more P Q f (src.Fill line m b d) h = f m d h
inner_more P Q f a h = h

pub inner_any : (Q : ℕ → Expr → Type 0) (a : Stmt) → InnerStmt NoArray a → InnerStmt Q a
inner_any Q a h = inner_more NoArray Q (λ m d x. absurd x) a h

-- what an exit may leave is no array
clear_by : (k : Sort) (C F : Type 0) → (C → F) → ClearBy k C F → FreeBy k F
clear_by piece.Simple C F f h = f h
clear_by (piece.IsLoop o t e b) C F f h = f h
clear_by piece.IsWhole C F f h = h
clear_by (piece.IsClean (src.Frees r)) C F f h = absurd h
clear_by (piece.IsClean c) C F f h = f h
clear_by (piece.IsFill m b d) C F f h = absurd h
clear_by (piece.IsSweep d) C F f h = absurd h
clear_by (piece.IsPart c) C F f h = absurd h
clear_by (piece.IsGuard hs) C F f h = f h
clear_by piece.IsFinish C F f h = f h
clear_by piece.IsFinishCoroutine C F f h = f h

pub clear_free : (todo : List Todo) → IsClear todo → IsFree todo
clear_free [] h = tt
clear_free (p ∷ todo) h = clear_by (sort p) (IsClear todo) (IsFree todo) (clear_free todo) h

-- where a task begins behind the building of its object nothing is behind that
abbrev pub BeginsBehind : CleanUp → List Todo → Type 0
BeginsBehind (src.Frees r) todo = todo ≡ []
BeginsBehind c todo = Unit {0}

-- an array that is being built has no more elements than are counted
fits_in : (m : ℕ) (d : Expr) (ss : Stmts) → OpensAll m d ss → m < MOST_ELEMENTS
fits_in m d (src.Scoped (src.DestroysAll k e) rest) h = h.3
fits_in m d (src.Built (src.DestroysAll k e) rest) h = h.3
fits_in m d ss h = absurd h

pub fits : (m : ℕ) (d : Expr) (todo : List Todo) → FillEnds todo m d → m < MOST_ELEMENTS
fits m d (piece.Within line ∷ (piece.Rest ss ∷ todo)) h = fits_in m d ss h
fits m d todo h = absurd h

module _ (special : ℕ → Bool) where
  pub begins_behind : (P : CleanUp → Type 0) (c : CleanUp) (todo : List Todo) → BehindMark special P c todo → BeginsBehind c todo
  begins_behind P (src.Frees r) todo h = h
  begins_behind P c todo h = tt

  pub mark_inner : (P : CleanUp → Type 0) (c : CleanUp) → CleansInner c → CleansMark special P c
  mark_inner P (src.DestroysAll m e) h = h
  mark_inner P (src.Frees r) h = absurd h
  mark_inner P c h = tt

  pub behind_inner : (P : CleanUp → Type 0) (c : CleanUp) (todo : List Todo) → CleansInner c → IsClear todo → BehindMark special P c todo
  behind_inner P src.Leaves todo n h = h
  behind_inner P (src.Frees r) todo n h = absurd n
  behind_inner P c todo n h = tt

  -- such a clean-up stands where an exit may leave it
  pub clear_inner : (c : CleanUp) (todo : List Todo) → CleansInner c → IsClear todo → IsClear (piece.Clean c ∷ todo)
  clear_inner (src.Frees r) todo n h = absurd n
  clear_inner c todo n h = h

  pub clear_behind_mark : (c : CleanUp) (todo : List Todo) → IsClear (piece.Clean c ∷ todo) → IsClear todo
  clear_behind_mark (src.Frees r) todo h = absurd h
  clear_behind_mark c todo h = h

  pub exit_behind : (P : CleanUp → Type 0) (c : CleanUp) (w : Way) (todo : List Todo) → IsClear (piece.Clean c ∷ todo) → BehindMark special P c (piece.Exit w ∷ todo)
  exit_behind P src.Leaves w todo h = h
  exit_behind P (src.Frees r) w todo h = absurd h
  exit_behind P c w todo h = tt

  -- a part is cleaned up as a scope is
  pub mark_part : (P : CleanUp → Type 0) (c : CleanUp) → CleansPart c → CleansMark special P c
  mark_part P (src.DestroysAll m e) h = h
  mark_part P (src.Frees r) h = absurd h
  mark_part P c h = tt

  pub begins_none : (P : CleanUp → Type 0) (c : CleanUp) (todo : List Todo) → CleansPart c → BeginsBehind c todo
  begins_none P (src.Frees r) todo h = absurd h
  begins_none P c todo h = tt

  module _ (P : CleanUp → Type 0) where
    pub parted_free : (todo : List Todo) → Parted special P todo → IsFree todo
    parted_free [] h = tt
    parted_free (piece.Part c ∷ todo) h = parted_free todo h.1
    parted_free (piece.Clean (src.Frees r) ∷ []) h = tt
    parted_free todo h = absurd h

    pub heads_of : (ss : Stmts) (todo : List Todo) → HeadStmts special ss → AllParts special P ss → Parted special P todo → Heads special P ss todo
    heads_of src.Nil todo h k l = (h, k, l)
    heads_of (src.Then a rest) todo h k l = (h, k, l)
    heads_of (src.Scoped c rest) todo h k l = absurd h
    heads_of (src.Built c rest) todo h k l = (h, k, l)

    clear_behind : (p : Purpose) (line : ℕ) → IsClear (quiet.behind_body p line)
    clear_behind src.TaskMain line = tt
    clear_behind src.CoroutineMain line = tt
    clear_behind src.Procedure line = tt
    clear_behind src.Function line = tt
    clear_behind src.Builder line = tt

    building : (ss : Stmts) → BuildingStmts special ss → AllParts special P ss → Heads special P ss []
    building src.Nil h k = (h, k, tt)
    building (src.Then a rest) h k = (h, k, tt)
    building (src.Scoped (src.Frees r) rest) h k = (refl, (h.0, k.0), h.1, k.1)
    building (src.Scoped c rest) h k = absurd h
    building (src.Built c rest) h k = (h, k, tt)

    -- where no array is built or destroyed it is in order whatever is counted
    fills_none : {A : Type 0} (todo : List Todo) → MoreFills todo → IsFree todo → A
    fills_none (piece.FillNow m b d ∷ todo) m1 f = absurd f
    fills_none todo m1 f = absurd m1

    pub recounted : (i k : ℕ) (todo : List Todo) → IsFree todo → IsOrderly special P i todo → IsOrderly special P k todo
    recounted i k [] f h = tt
    recounted i k (piece.Do a ∷ todo) f (inl h) = inl (h.0, h.1, recounted i k todo f h.2)
    recounted i k (piece.Do a ∷ todo) f (inr h) = inr h
    recounted i k (piece.Rest ss ∷ todo) f (inl h) = inl (h.0, h.1, recounted i k todo f h.2)
    recounted i k (piece.Rest ss ∷ todo) f (inr h) = inr h
    recounted i k (piece.Branch a b ∷ todo) f h = (h.0, h.1, recounted i k todo f h.2)
    recounted i k (piece.TurnNow o t e b ∷ todo) f h = (h.0, h.1, recounted i k todo f h.2)
    recounted i k (piece.Again o t e b ∷ todo) f h = (h.0, h.1, recounted i k todo f h.2)
    recounted i k (piece.InLoop o t e b ∷ todo) f h = (h.0, h.1, recounted i k todo f h.2)
    recounted i k (piece.Guard hs ∷ todo) f h = (h.0, h.1, recounted i k todo f h.2)
    recounted i k (piece.ChooseNow cs ∷ todo) f h = (h.0, h.1, recounted i k todo f h.2)
    recounted i k (piece.Exit w ∷ todo) f h = (h.0, recounted i k todo f h.1)
    recounted i k (piece.FillNow m b d ∷ todo) f h = absurd f
    recounted i k (piece.Sweep d ∷ todo) f h = absurd f
    recounted i k (piece.CountNow m ∷ todo) f h = (h.0, recounted i k todo f h.1)
    recounted i k (piece.MoreNow ∷ todo) f h = fills_none todo h.0.0 f
    recounted i k (piece.Clean c ∷ todo) f h = (h.0, h.1, recounted i k todo f h.2)
    recounted i k (piece.Part c ∷ todo) f h = h
    recounted i k (piece.SetUpNow r ∷ todo) f h = (h.0, recounted i k todo f h.1)
    recounted i k (piece.MadeNow ∷ todo) f h = (h.0, recounted i k todo f h.1)
    recounted i k (piece.SpawnNow r ∷ todo) f h = (h.0, recounted i k todo f h.1)
    recounted i k (piece.ChildNow r ∷ todo) f h = (h.0, recounted i k todo f h.1)
    recounted i k (piece.ClearNow c n ∷ todo) f h = (h.0, recounted i k todo f h.1)
    recounted i k (piece.Variables ds ∷ todo) f h = (h.0, recounted i k todo f h.1)
    recounted i k (p ∷ todo) f h = recounted i k todo f h

    -- so it is where the elements of the one array are counted
    pub counts_more : (i k : ℕ) (todo : List Todo) → MoreFills todo → IsOrderly special P i todo → IsOrderly special P k todo
    counts_more i k (piece.FillNow m b d ∷ todo) n h = (h.0, h.1, recounted i k todo h.1 h.2)
    counts_more i k todo n h = absurd n

    pub counts_next : (i k m : ℕ) (todo : List Todo) → CountsNext m todo → IsOrderly special P i todo → IsOrderly special P k todo
    counts_next i k m (piece.Sweep d ∷ todo) n h = (h.0, recounted i k todo h.0 h.1)
    counts_next i k m (piece.FillNow c b d ∷ todo) n h = (h.0, h.1, recounted i k todo h.1 h.2)
    counts_next i k m todo n h = absurd n

    module _ (count : ℕ) where
      pub parted_ok : (todo : List Todo) → Parted special P todo → IsOrderly special P count todo
      parted_ok [] h = tt
      parted_ok (piece.Part c ∷ todo) h = h
      parted_ok (piece.Clean (src.Frees r) ∷ []) h = ((h, refl), tt, tt)
      parted_ok todo h = absurd h

      empty_ok : (todo : List Todo) → todo ≡ [] → IsOrderly special P count todo
      empty_ok [] e = tt
      empty_ok (p ∷ todo) e = absurd (cc)

      heads_ok : (ss : Stmts) (todo : List Todo) → Heads special P ss todo → IsOrderly special P count todo
      heads_ok src.Nil todo h = parted_ok todo h.2
      heads_ok (src.Then a rest) todo h = parted_ok todo h.2
      heads_ok (src.Scoped (src.Frees r) rest) todo h = empty_ok todo h.0
      heads_ok (src.Scoped c rest) todo h = absurd h.0
      heads_ok (src.Built c rest) todo h = parted_ok todo h.2

      do_ok : (a : Stmt) (todo : List Todo) → HeadDo special P a todo → IsOrderly special P count todo
      do_ok a (piece.Rest ss ∷ todo) h = inr (heads_of ss todo h.1 h.2 h.3)
      do_ok a todo h = absurd h

      -- what stands behind a piece
      pub tail : (p : Todo) (todo : List Todo) → IsOrderly special P count (p ∷ todo) → IsOrderly special P count todo
      tail (piece.Do a) todo (inl h) = h.2
      tail (piece.Do a) todo (inr h) = do_ok a todo h
      tail (piece.Rest ss) todo (inl h) = h.2
      tail (piece.Rest ss) todo (inr h) = heads_ok ss todo h
      tail (piece.Branch a b) todo h = h.2
      tail (piece.TurnNow o t e b) todo h = h.2
      tail (piece.Again o t e b) todo h = h.2
      tail (piece.InLoop o t e b) todo h = h.2
      tail (piece.Guard hs) todo h = h.2
      tail (piece.ChooseNow cs) todo h = h.2
      tail (piece.Exit w) todo h = h.1
      tail (piece.FillNow m b d) todo h = h.2
      tail (piece.Sweep d) todo h = h.1
      tail (piece.CountNow m) todo h = h.1
      tail piece.MoreNow todo h = h.1
      tail (piece.Clean c) todo h = h.2
      tail (piece.Part c) todo h = parted_ok todo h.1
      tail (piece.SetUpNow r) todo h = h.1
      tail piece.MadeNow todo h = h.1
      tail (piece.SpawnNow r) todo h = h.1
      tail (piece.ChildNow r) todo h = h.1
      tail (piece.ClearNow c n) todo h = h.1
      tail (piece.Variables ds) todo h = h.1
      tail p todo h = h

      -- a routine begins

      ok_behind : (p : Purpose) (line : ℕ) → IsOrderly special P count (quiet.behind_body p line)
      ok_behind src.TaskMain line = tt
      ok_behind src.CoroutineMain line = tt
      ok_behind src.Procedure line = tt
      ok_behind src.Function line = tt
      ok_behind src.Builder line = tt

      -- in which no part is built
      pub inner_routine : (r : Routine) → InnerStmts r.body → IsOrderly special P count (quiet.routine_todo r)
      inner_routine r h = inl (h, clear_behind r.purpose r.line, ok_behind r.purpose r.line)

      pub routine : (b : Bool) (r : Routine) → PartsRoutine special b (Some r) → (b ≡ true → AllParts special P r.body) → IsOrderly special P count (quiet.routine_todo r)
      routine true r (inl h) k = inner_routine r h
      routine true r (inr h) k = inr (subst (λ p. Heads special P r.body (quiet.behind_body p r.line)) (sym h.0) (building r.body h.1 (k refl)))
      routine false r h k = inner_routine r h
