-- What holds of variables that are mutex objects, and are still to be bound or are bound, where cells are written and start anew.
use Rattle.std.proofs.Common.{◌≡◌, ℕ, ℤ, zero, suc, ◌≤◌, ◌<◌, inl, inr, Bool, true, false, List, [], ◌∷◌, ◌++◌, length, take, Some, ◌⊎◌, refl, sym, ap, ◌∙◌, subst, arith}
use Rattle.std.specs.Prelude.{slice_index_or, nat_eq, if◌then◌else◌}
use Rattle.std.proofs.lemmas.Bool.{eqb-true}
use Rattle.uc_tree.specs.Source as src
use Rattle.uc_tree.specs.Source.{CleanUp, Stmts}
use Rattle.uc_machine.specs.declared.exec.Exec.{Exec}
use Rattle.uc_machine.specs.declared.exec.Owner.TheVariants.{Frame}
use Rattle.uc_machine.specs.Executions.{at_depth, list_in, frame_changed, others, value_changed, values_cleared}
use Rattle.uc_machine.specs.Pieces as piece
use Rattle.uc_machine.specs.Pieces.{Link, Slot, Value, Number, Place, Running, Object, Nothing, Todo, Sort, Active, stored, nought, address, LAST_ADDRESS}
use Rattle.uc_state_laws.specs.Clusters.{Begins}
use Rattle.uc_state_laws.specs.Declaring.{IsCount}
use Rattle.uc_state_laws.specs.There.{OfBound, OpensBound, NextBound, NextRest, NextDrop, NextCall, IsBefore, Pends, FrameBefore}
use Rattle.uc_state_laws.specs.ThereStates.{StackAside}
use Rattle.uc_life_laws.specs.Things.{Few}
use Rattle.uc_life_laws.specs.LifeStates.{frame_at}
use Rattle.uc_state_laws.proofs.Cells.{cell_stored, set_at, tested}
use Rattle.uc_putting_laws.specs.Putting.{IsHome}
use Rattle.uc_homed_ends.specs.BoundHomes.{OfMutex, OpensMutex, NoVariable, DropMutex, CallMutex, PieceBegins, LeftBy, AllUnbound, AtRest, AtDrop, AtCall, AllLeft, AtNow, IsUnset, IsThat, WaitsFor, BoundStack}

-- cells

pub count_number : (z : ℤ) (x : Value) → IsCount x → IsCount (stored (Number z) x)
count_number z (Number n) h = tt
count_number z (Place o p) h = absurd h
count_number z (Running e) h = absurd h
count_number z (Object o) h = absurd h
count_number z Nothing h = absurd h

-- another cell is not written
cell_other : (P : Value → Type 0) (f : Value → Value) (vs : List Value) (j k : ℕ) → (j ≡ k → ⊥) → P (slice_index_or vs j nought) → P (slice_index_or (value_changed k f nought vs) j nought)
cell_other P f [] j k n h = h
cell_other P f (x ∷ vs) zero zero n h = absurd (n refl)
cell_other P f (x ∷ vs) zero (suc k) n h = h
cell_other P f (x ∷ vs) (suc j) zero n h = h
cell_other P f (x ∷ vs) (suc j) (suc k) n h = cell_other P f vs j k (λ e. n (ap suc e)) h

cell_taken : (P : Value → Type 0) → (P nought → ⊥) → (vs ws : List Value) (j k : ℕ) → j < k → P (slice_index_or vs j nought) → P (slice_index_or (take k vs ++ ws) j nought)
cell_taken P f [] ws j k l h = absurd (f h)
cell_taken P f (x ∷ vs) ws j zero l h = let n : ⊥ = omega arith in absurd n
cell_taken P f (x ∷ vs) ws zero (suc k) l h = h
cell_taken P f (x ∷ vs) ws (suc j) (suc k) l h = cell_taken P f vs ws j k (omega arith) h

-- a frame more, for those that have theirs already
pub newer_at : (P : List Value → Type 0) (x : List Value) (xs : List (List Value)) (f : ℕ) → f < length xs → P (frame_at f xs) → P (frame_at f (x ∷ xs))
newer_at P x xs f l h = tested (λ o. P (list_in o)) (nat_eq f (length xs)) (Some x) (at_depth xs f) (λ e. let q : f ≡ length xs = eqb-true f (length xs) e in let n : ⊥ = omega (arith, q, l) in absurd n) (λ e. h)

-- a frame less, for those that do not use it
pub older_at : (P : List Value → Type 0) (fs : List (List Value)) (f : ℕ) → f < length (others fs) → P (frame_at f fs) → P (frame_at f (others fs))
older_at P [] f l h = h
older_at P (x ∷ xs) f l h = by (nat_eq f (length xs)) refl h
  where
    by : (b : Bool) → nat_eq f (length xs) ≡ b → P (list_in (if b then Some x else at_depth xs f)) → P (frame_at f xs)
    by true e h = let q : f ≡ length xs = eqb-true f (length xs) e in let n : ⊥ = omega (arith, q, l) in absurd n
    by false e h = h

-- one that is written holds what it held, or what is stored there
pub cell_either : (P : Value → Type 0) (v : Value) (vs : List Value) (j k : ℕ) → P (slice_index_or vs j nought) → P (stored v (slice_index_or vs j nought)) → P (slice_index_or (value_changed k (stored v) nought vs) j nought)
cell_either P v [] j k h g = h
cell_either P v (x ∷ vs) zero zero h g = g
cell_either P v (x ∷ vs) zero (suc k) h g = h
cell_either P v (x ∷ vs) (suc j) zero h g = h
cell_either P v (x ∷ vs) (suc j) (suc k) h g = cell_either P v vs j k h g

-- what starts anew holds a number
front_cleared : (vs : List Value) (j n : ℕ) → IsCount (slice_index_or vs j nought) → IsCount (slice_index_or (values_cleared 0 n nought vs) j nought)
front_cleared [] j zero h = h
front_cleared [] j (suc n) h = h
front_cleared (x ∷ vs) j zero h = h
front_cleared (x ∷ vs) zero (suc n) h = tt
front_cleared (x ∷ vs) (suc j) (suc n) h = front_cleared vs j n h

count_cleared : (vs : List Value) (j k n : ℕ) → IsCount (slice_index_or vs j nought) → IsCount (slice_index_or (values_cleared k n nought vs) j nought)
count_cleared vs j zero n h = front_cleared vs j n h
count_cleared [] j (suc k) zero h = h
count_cleared [] j (suc k) (suc n) h = h
count_cleared (x ∷ vs) zero (suc k) n h = h
count_cleared (x ∷ vs) (suc j) (suc k) n h = count_cleared vs j k n h

pub home_stored : (few : Few) (v x q : Value) → IsHome few x q → IsHome few (stored v x) q
home_stored few v x q h = record { number = h.number; object = ap (λ (y : Value). stored v y) h.object; home = h.home }

-- one that is there stays
same_stored : (few : Few) (v x q : Value) → IsHome few x q → stored v x ≡ x
same_stored few v x q h = ap (λ (y : Value). stored v y) h.object ∙ sym h.object

home_nought : (few : Few) (q : Value) → IsHome few nought q → ⊥
home_nought few q h = let e : nought ≡ Object h.number = h.object in absurd (cc)

-- statements that may stand behind any others begin with no such scope
begins_of : (c : CleanUp) (rest : Stmts) → Begins (src.Scoped c rest) → OfMutex NoVariable c
begins_of (src.Destroys (src.OfObject (src.EndOn r written (src.Load (src.Variable k))))) rest h = h
begins_of c rest h = tt

pub begins_none : (ss : Stmts) → Begins ss → OpensMutex NoVariable ss
begins_none (src.Scoped c rest) h = begins_of c rest h
begins_none ss h = tt

-- of each such variable, by what holds of any

module _ (P : List Link → Type 0) (f : (p : List Link) → P p) where
  any_bound : (c : CleanUp) → OfBound P c
  any_bound (src.Destroys (src.OfObject (src.EndProcessor (src.Load (src.Variable k))))) = λ l. f (Slot k ∷ [])
  any_bound (src.Destroys (src.OfObject (src.EndOn n written (src.Load (src.Variable k))))) = λ l. f (Slot k ∷ [])
  any_bound c = tt

  any_opens : (ss : Stmts) → OpensBound P ss
  any_opens (src.Scoped c rest) = any_bound c
  any_opens ss = tt

  any_rest : (todo : List Todo) → NextRest P todo
  any_rest (piece.Rest ss ∷ todo) = any_opens ss
  any_rest todo = tt

  any_drop : (todo : List Todo) → NextDrop P todo
  any_drop (piece.DropNow ∷ (piece.Within line ∷ (piece.Rest ss ∷ todo))) = any_opens ss
  any_drop todo = tt

  any_call : (todo : List Todo) → NextCall P todo
  any_call (piece.CallOnNow r ∷ todo) = any_drop todo
  any_call (piece.CallUnwrittenNow r ∷ todo) = any_drop todo
  any_call todo = tt

  any_pends : (todo : List Todo) → Pends P todo
  any_pends [] = tt
  any_pends (piece.Eval e ∷ todo) = (any_drop todo, any_pends todo)
  any_pends (piece.Do a ∷ todo) = (any_rest todo, any_pends todo)
  any_pends (piece.BindNow ∷ todo) = (any_drop todo, any_pends todo)
  any_pends (piece.MakeNow c r ∷ todo) = (any_call todo, any_pends todo)
  any_pends (piece.BindMadeNow c r ∷ todo) = (any_call todo, any_pends todo)
  any_pends (p ∷ todo) = any_pends todo

  any_next : (todo : List Todo) → NextBound P todo
  any_next (piece.Rest ss ∷ todo) = any_opens ss
  any_next (piece.Within line ∷ (piece.Rest ss ∷ todo)) = any_opens ss
  any_next (piece.DropNow ∷ (piece.Within line ∷ (piece.Rest ss ∷ todo))) = any_opens ss
  any_next (piece.CallOnNow r ∷ (piece.DropNow ∷ (piece.Within line ∷ (piece.Rest ss ∷ todo)))) = any_opens ss
  any_next (piece.CallUnwrittenNow r ∷ (piece.DropNow ∷ (piece.Within line ∷ (piece.Rest ss ∷ todo)))) = any_opens ss
  any_next todo = tt

pends_tail : (P : List Link → Type 0) (p : Todo) (todo : List Todo) → Pends P (p ∷ todo) → Pends P todo
pends_tail P (piece.Eval e) todo h = h.1
pends_tail P (piece.Do a) todo h = h.1
pends_tail P piece.BindNow todo h = h.1
pends_tail P (piece.MakeNow c r) todo h = h.1
pends_tail P (piece.BindMadeNow c r) todo h = h.1
pends_tail P p todo h = h

-- the third of two
module _ (Q R : ℕ → Type 0) (P : List Link → Type 0) (f : (k : ℕ) → Q k → (k < LAST_ADDRESS → P (Slot k ∷ [])) → R k) where
  of_changed : (c : CleanUp) → OfMutex Q c → OfBound P c → OfMutex R c
  of_changed (src.Destroys (src.OfObject (src.EndOn r written (src.Load (src.Variable k))))) h g = f k h g
  of_changed c h g = tt

  opens_changed : (ss : Stmts) → OpensMutex Q ss → OpensBound P ss → OpensMutex R ss
  opens_changed (src.Scoped c rest) h g = of_changed c h g
  opens_changed ss h g = tt

module _ (Q R S : ℕ → Type 0) (f : (k : ℕ) → Q k → R k → S k) where
  of_both : (c : CleanUp) → OfMutex Q c → OfMutex R c → OfMutex S c
  of_both (src.Destroys (src.OfObject (src.EndOn r written (src.Load (src.Variable k))))) h g = f k h g
  of_both c h g = tt

  pub opens_both : (ss : Stmts) → OpensMutex Q ss → OpensMutex R ss → OpensMutex S ss
  opens_both (src.Scoped c rest) h g = of_both c h g
  opens_both ss h g = tt

-- who leaves what is to do

module _ (Q : ℕ → Type 0) where
  left_by : (k : Sort) (left all : Type 0) → (all → left) → LeftBy k left all → left
  left_by piece.Simple left all f h = h
  left_by (piece.IsLoop order t e b) left all f h = f h.1
  left_by piece.IsWhole left all f h = f h.1
  left_by (piece.IsClean c) left all f h = f h.1
  left_by (piece.IsFill m b d) left all f h = h
  left_by (piece.IsSweep e) left all f h = f h.1
  left_by (piece.IsPart c) left all f h = f h.1
  left_by (piece.IsGuard hs) left all f h = f h.1
  left_by piece.IsFinish left all f h = f h.1
  left_by piece.IsFinishCoroutine left all f h = f h.1

  left_piece : (p : Todo) (left all : Type 0) → (all → left) → PieceBegins p → all → LeftBy (piece.sort p) left all
  left_piece (piece.Clean c) left all f h k = (tt, k)
  left_piece (piece.Guard hs) left all f h k = (h, k)
  left_piece (piece.InLoop order t e b) left all f h k = (tt, k)
  left_piece piece.InWhole left all f h k = (tt, k)
  left_piece (piece.FillNow m b d) left all f h k = f k
  left_piece (piece.Sweep e) left all f h k = (tt, k)
  left_piece (piece.Part c) left all f h k = (tt, k)
  left_piece piece.Finish left all f h k = (tt, k)
  left_piece piece.FinishCoroutine left all f h k = (tt, k)
  left_piece p left all f h k = f k

  mutual
    pub all_left : (todo : List Todo) → AllUnbound Q todo → AllLeft Q todo
    all_left [] h = tt
    all_left (piece.Eval e ∷ todo) (inl h) = all_left todo h
    all_left (piece.Eval e ∷ todo) (inr h) = drop_left todo h.1
    all_left (piece.Do a ∷ todo) (inl h) = all_left todo h
    all_left (piece.Do a ∷ todo) (inr h) = rest_left todo h.1
    all_left (piece.MakeNow c r ∷ todo) (inl h) = all_left todo h
    all_left (piece.MakeNow c r ∷ todo) (inr h) = call_left r todo h
    all_left (piece.BindMadeNow c r ∷ todo) (inl h) = all_left todo h
    all_left (piece.BindMadeNow c r ∷ todo) (inr h) = call_left r todo h
    all_left (piece.Exit w ∷ todo) h = h
    all_left (piece.Unwind ∷ todo) h = h
    all_left (p ∷ todo) h = left_piece p (AllLeft Q todo) (AllUnbound Q todo) (all_left todo) h.0 h.1

    rest_left : (todo : List Todo) → AtRest Q Q todo → AllLeft Q todo
    rest_left (piece.Rest ss ∷ todo) h = all_left todo h.1
    rest_left todo h = absurd h

    drop_left : (todo : List Todo) → AtDrop Q Q todo → AllLeft Q todo
    drop_left (piece.DropNow ∷ (piece.Within line ∷ todo)) h = rest_left todo h
    drop_left todo h = absurd h

    call_left : (q : ℕ) (todo : List Todo) → AtCall Q q Q todo → AllLeft Q todo
    call_left q (piece.CallOnNow r ∷ todo) h = drop_left todo h.1
    call_left q (piece.CallUnwrittenNow r ∷ todo) h = drop_left todo h.1
    call_left q todo h = absurd h

  bound_left : (P : ℕ → Type 0) (todo : List Todo) → AtDrop Q P todo → AllLeft Q todo
  bound_left P (piece.DropNow ∷ (piece.Within line ∷ (piece.Rest ss ∷ todo))) h = all_left todo h.1
  bound_left P todo h = absurd h

  pub held_left : (P : ℕ → Type 0) (todo : List Todo) → AllUnbound Q todo ⊎ AtDrop Q P todo → AllLeft Q todo
  held_left P todo (inl h) = all_left todo h
  held_left P todo (inr h) = bound_left P todo h

  pub left_on : (k : Sort) (todo : List Todo) → LeftBy k (AllLeft Q todo) (AllUnbound Q todo) → AllLeft Q todo
  left_on k todo h = left_by k (AllLeft Q todo) (AllUnbound Q todo) (all_left todo) h

-- a frame has other values

module _ (Q R : ℕ → Type 0) (P : List Link → Type 0) (f : (k : ℕ) → Q k → (k < LAST_ADDRESS → P (Slot k ∷ [])) → R k) where
  left_by_changed : (k : Sort) (left all more every : Type 0) → (left → more) → (all → every) → LeftBy k left all → LeftBy k more every
  left_by_changed piece.Simple left all more every g i h = g h
  left_by_changed (piece.IsLoop order t e x) left all more every g i h = (tt, i h.1)
  left_by_changed piece.IsWhole left all more every g i h = (tt, i h.1)
  left_by_changed (piece.IsClean c) left all more every g i h = (tt, i h.1)
  left_by_changed (piece.IsFill m x d) left all more every g i h = g h
  left_by_changed (piece.IsSweep e) left all more every g i h = (tt, i h.1)
  left_by_changed (piece.IsPart c) left all more every g i h = (tt, i h.1)
  left_by_changed (piece.IsGuard hs) left all more every g i h = (h.0, i h.1)
  left_by_changed piece.IsFinish left all more every g i h = (tt, i h.1)
  left_by_changed piece.IsFinishCoroutine left all more every g i h = (tt, i h.1)

  mutual
    all_changed : (todo : List Todo) → Pends P todo → AllUnbound Q todo → AllUnbound R todo
    all_changed [] q h = tt
    all_changed (piece.Eval e ∷ todo) q (inl h) = inl (all_changed todo q.1 h)
    all_changed (piece.Eval e ∷ todo) q (inr h) = inr (h.0, drop_changed todo q.0 q.1 h.1)
    all_changed (piece.Do a ∷ todo) q (inl h) = inl (all_changed todo q.1 h)
    all_changed (piece.Do a ∷ todo) q (inr h) = inr (h.0, rest_changed todo q.0 q.1 h.1)
    all_changed (piece.BindNow ∷ todo) q h = (tt, all_changed todo q.1 h.1)
    all_changed (piece.MakeNow c r ∷ todo) q (inl h) = inl (all_changed todo q.1 h)
    all_changed (piece.MakeNow c r ∷ todo) q (inr h) = inr (call_changed r todo q.0 q.1 h)
    all_changed (piece.BindMadeNow c r ∷ todo) q (inl h) = inl (all_changed todo q.1 h)
    all_changed (piece.BindMadeNow c r ∷ todo) q (inr h) = inr (call_changed r todo q.0 q.1 h)
    all_changed (piece.Exit w ∷ todo) q h = left_changed todo q h
    all_changed (piece.Unwind ∷ todo) q h = left_changed todo q h
    all_changed (p ∷ todo) q h = (h.0, all_changed todo (pends_tail P p todo q) h.1)

    rest_changed : (todo : List Todo) → NextRest P todo → Pends P todo → AtRest Q Q todo → AtRest R R todo
    rest_changed (piece.Rest ss ∷ todo) o q h = (opens_changed Q R P f ss h.0 o, all_changed todo q h.1)
    rest_changed todo o q h = absurd h

    drop_changed : (todo : List Todo) → NextDrop P todo → Pends P todo → AtDrop Q Q todo → AtDrop R R todo
    drop_changed (piece.DropNow ∷ (piece.Within line ∷ (piece.Rest ss ∷ todo))) o q h = (opens_changed Q R P f ss h.0 o, all_changed todo q h.1)
    drop_changed todo o q h = absurd h

    call_changed : (x : ℕ) (todo : List Todo) → NextCall P todo → Pends P todo → AtCall Q x Q todo → AtCall R x R todo
    call_changed x (piece.CallOnNow r ∷ todo) o q h = (h.0, drop_changed todo o q h.1)
    call_changed x (piece.CallUnwrittenNow r ∷ todo) o q h = (h.0, drop_changed todo o q h.1)
    call_changed x todo o q h = absurd h

    left_changed : (todo : List Todo) → Pends P todo → AllLeft Q todo → AllLeft R todo
    left_changed [] q h = tt
    left_changed (p ∷ todo) q h =
        left_by_changed (piece.sort p) (AllLeft Q todo) (AllUnbound Q todo) (AllLeft R todo) (AllUnbound R todo) (left_changed todo (pends_tail P p todo q)) (all_changed todo (pends_tail P p todo q)) h

  -- of the scope that opens next something else holds
  module _ (S T : ℕ → Type 0) (U : List Link → Type 0) (g : (k : ℕ) → S k → (k < LAST_ADDRESS → U (Slot k ∷ [])) → T k) where
    bound_rest : (todo : List Todo) → NextRest U todo → Pends P todo → AtRest Q S todo → AtRest R T todo
    bound_rest (piece.Rest ss ∷ todo) o q h = (opens_changed S T U g ss h.0 o, all_changed todo q h.1)
    bound_rest todo o q h = absurd h

    bound_drop : (todo : List Todo) → NextDrop U todo → Pends P todo → AtDrop Q S todo → AtDrop R T todo
    bound_drop (piece.DropNow ∷ (piece.Within line ∷ (piece.Rest ss ∷ todo))) o q h = (opens_changed S T U g ss h.0 o, all_changed todo q h.1)
    bound_drop todo o q h = absurd h

    waits_changed : (todo : List Todo) → NextBound U todo → Pends P todo → AllUnbound Q todo ⊎ AtDrop Q S todo → AllUnbound R todo ⊎ AtDrop R T todo
    waits_changed todo o q (inl h) = inl (all_changed todo q h)
    waits_changed (piece.DropNow ∷ (piece.Within line ∷ (piece.Rest ss ∷ todo))) o q (inr h) = inr (opens_changed S T U g ss h.0 o, all_changed todo q h.1)
    waits_changed todo o q (inr h) = absurd h

-- what is known of the scope that opens behind the call of a constructor, once its variable is bound
module _ (Q S G T : ℕ → Type 0) (g : (k : ℕ) → S k → G k → T k) where
  told_drop : (todo : List Todo) → DropMutex G todo → AtDrop Q S todo → AtDrop Q T todo
  told_drop (piece.DropNow ∷ (piece.Within line ∷ (piece.Rest ss ∷ todo))) o h = (opens_both S G T g ss h.0 o, h.1)
  told_drop todo o h = absurd h

  pub told_call : (x : ℕ) (todo : List Todo) → CallMutex G todo → AtCall Q x S todo → AtCall Q x T todo
  told_call x (piece.CallOnNow r ∷ todo) o h = (h.0, told_drop todo o h.1)
  told_call x (piece.CallUnwrittenNow r ∷ todo) o h = (h.0, told_drop todo o h.1)
  told_call x todo o h = absurd h

-- the constructor is called next; and behind the call of one
pub call_now : (Q P : ℕ → Type 0) (C : ℕ → ℕ → Type 0) (x : ℕ) (todo : List Todo) → AtCall Q x (C x) todo → AtNow Q P C todo
call_now Q P C x (piece.CallOnNow r ∷ todo) h = subst (λ r. AtDrop Q (C r) todo) (sym h.0) h.1
call_now Q P C x (piece.CallUnwrittenNow r ∷ todo) h = subst (λ r. AtDrop Q (C r) todo) (sym h.0) h.1
call_now Q P C x todo h = absurd h

pub drop_now : (Q S P : ℕ → Type 0) (C : ℕ → ℕ → Type 0) (f : (k : ℕ) → S k → P k) (todo : List Todo) → AtDrop Q S todo → AtNow Q P C todo
drop_now Q S P C f (piece.DropNow ∷ (piece.Within line ∷ (piece.Rest ss ∷ todo))) h = (opens_both S S P (λ k x y. f k x) ss h.0 h.0, h.1)
drop_now Q S P C f todo h = absurd h

abbrev Anywhere : List Link → Type 0
Anywhere p = Unit {0}

abbrev Apart : ℕ → List Link → Type 0
Apart cell p = address p ≡ cell → ⊥

module _ (few : Few) (n : Exec) where
  -- a value is written to a cell: a number to any, anything to one that is not still to be bound

  unset_number : (cell : ℕ) (z : ℤ) (vs : List Value) (k : ℕ) → IsUnset vs k → (k < LAST_ADDRESS → Anywhere (Slot k ∷ [])) → IsUnset (value_changed cell (stored (Number z)) nought vs) k
  unset_number cell z vs k h u = λ l. cell_stored IsCount (Number z) (λ x y. count_number z x y) vs (address (Slot k ∷ [])) cell (h l)

  unset_aside : (cell : ℕ) (v : Value) (vs : List Value) (k : ℕ) → IsUnset vs k → (k < LAST_ADDRESS → Apart cell (Slot k ∷ [])) → IsUnset (value_changed cell (stored v) nought vs) k
  unset_aside cell v vs k h u = λ l. cell_other IsCount (stored v) vs (address (Slot k ∷ [])) cell (u l) (h l)

  that_stored : (u : Value) (f cell : ℕ) (v : Value) (vs : List Value) (k : ℕ) → IsThat few n u vs f k → (k < LAST_ADDRESS → Anywhere (Slot k ∷ [])) → IsThat few n u (value_changed cell (stored v) nought vs) f k
  that_stored u f cell v vs k h w = λ l. cell_stored (λ x. IsHome few x (Place (Frame n f) (Slot k ∷ [])) × (x ≡ u)) v (λ x y. (home_stored few v x (Place (Frame n f) (Slot k ∷ [])) y.0, same_stored few v x (Place (Frame n f) (Slot k ∷ [])) y.0 ∙ y.1)) vs (address (Slot k ∷ [])) cell (h l)

  module _ (u : Value) where
    waits_number : (f cell : ℕ) (z : ℤ) (todo : List Todo) (vs : List Value) → WaitsFor few n u vs f todo → WaitsFor few n u (value_changed cell (stored (Number z)) nought vs) f todo
    waits_number f cell z todo vs h =
        waits_changed (IsUnset vs) (IsUnset (value_changed cell (stored (Number z)) nought vs)) Anywhere (unset_number cell z vs) (IsThat few n u vs f) (IsThat few n u (value_changed cell (stored (Number z)) nought vs) f) Anywhere (that_stored u f cell (Number z) vs) todo (any_next Anywhere (λ p. tt) todo) (any_pends Anywhere (λ p. tt) todo) h

    waits_aside : (f cell : ℕ) (v : Value) (todo : List Todo) (vs : List Value) → Pends (Apart cell) todo → WaitsFor few n u vs f todo → WaitsFor few n u (value_changed cell (stored v) nought vs) f todo
    waits_aside f cell v todo vs q h =
        waits_changed (IsUnset vs) (IsUnset (value_changed cell (stored v) nought vs)) (Apart cell) (unset_aside cell v vs) (IsThat few n u vs f) (IsThat few n u (value_changed cell (stored v) nought vs) f) Anywhere (that_stored u f cell v vs) todo (any_next Anywhere (λ p. tt) todo) q h

  all_number : (cell : ℕ) (z : ℤ) (todo : List Todo) (vs : List Value) → AllUnbound (IsUnset vs) todo → AllUnbound (IsUnset (value_changed cell (stored (Number z)) nought vs)) todo
  all_number cell z todo vs h =
      all_changed (IsUnset vs) (IsUnset (value_changed cell (stored (Number z)) nought vs)) Anywhere (unset_number cell z vs) todo (any_pends Anywhere (λ p. tt) todo) h

  -- cells start anew

  unset_cleared : (cell m : ℕ) (vs : List Value) (k : ℕ) → IsUnset vs k → (k < LAST_ADDRESS → Anywhere (Slot k ∷ [])) → IsUnset (values_cleared cell m nought vs) k
  unset_cleared cell m vs k h u = λ l. count_cleared vs (address (Slot k ∷ [])) cell m (h l)

  that_cleared : (v : Value) (f cell m : ℕ) (vs : List Value) (k : ℕ) → IsThat few n v vs f k → (k < LAST_ADDRESS → IsBefore cell (Slot k ∷ [])) → IsThat few n v (values_cleared cell m nought vs) f k
  that_cleared v f cell m vs k h u = λ l. cell_taken (λ x. IsHome few x (Place (Frame n f) (Slot k ∷ [])) × (x ≡ v)) (λ y. home_nought few (Place (Frame n f) (Slot k ∷ [])) y.0) vs _ (address (Slot k ∷ [])) cell (u l) (h l)

  all_cleared : (cell m : ℕ) (todo : List Todo) (vs : List Value) → AllUnbound (IsUnset vs) todo → AllUnbound (IsUnset (values_cleared cell m nought vs)) todo
  all_cleared cell m todo vs h = all_changed (IsUnset vs) (IsUnset (values_cleared cell m nought vs)) Anywhere (unset_cleared cell m vs) todo (any_pends Anywhere (λ p. tt) todo) h

  waits_cleared : (v : Value) (f cell m : ℕ) (todo : List Todo) (vs : List Value) → NextBound (IsBefore cell) todo → WaitsFor few n v vs f todo → WaitsFor few n v (values_cleared cell m nought vs) f todo
  waits_cleared v f cell m todo vs b h =
      waits_changed (IsUnset vs) (IsUnset (values_cleared cell m nought vs)) Anywhere (unset_cleared cell m vs) (IsThat few n v vs f) (IsThat few n v (values_cleared cell m nought vs) f) (IsBefore cell) (that_cleared v f cell m vs) todo b (any_pends Anywhere (λ p. tt) todo) h

  -- in frames of an execution, of which one is changed

  pub stack_number : (d cell : ℕ) (z : ℤ) (fs : List (List Value)) (v : Value) (cs : List Active) → BoundStack few n fs v cs → BoundStack few n (frame_changed d (value_changed cell (stored (Number z)) nought) fs) v cs
  stack_number d cell z fs v [] h = tt
  stack_number d cell z fs v (a ∷ older) h =
      (h.0, set_at (λ vs. WaitsFor few n v vs a.frame a.control) fs d a.frame _ (λ e. waits_number v a.frame cell z a.control (frame_at d fs) (subst (λ f. WaitsFor few n v (frame_at f fs) a.frame a.control) e h.1)) h.1, stack_number d cell z fs a.this older h.2)

  pub list_number : (d cell : ℕ) (z : ℤ) (fs : List (List Value)) (f : ℕ) (todo : List Todo) → AllUnbound (IsUnset (frame_at f fs)) todo → AllUnbound (IsUnset (frame_at f (frame_changed d (value_changed cell (stored (Number z)) nought) fs))) todo
  list_number d cell z fs f todo h =
      set_at (λ vs. AllUnbound (IsUnset vs) todo) fs d f _ (λ e. all_number cell z todo (frame_at d fs) (subst (λ g. AllUnbound (IsUnset (frame_at g fs)) todo) e h)) h

  pub stack_aside : (d cell : ℕ) (v : Value) (fs : List (List Value)) (u : Value) (cs : List Active) → StackAside cell d cs → BoundStack few n fs u cs → BoundStack few n (frame_changed d (value_changed cell (stored v) nought) fs) u cs
  stack_aside d cell v fs u [] q h = tt
  stack_aside d cell v fs u (a ∷ older) q h =
      (h.0, set_at (λ vs. WaitsFor few n u vs a.frame a.control) fs d a.frame _ (λ e. waits_aside u a.frame cell v a.control (frame_at d fs) (q.0 e).0 (subst (λ f. WaitsFor few n u (frame_at f fs) a.frame a.control) e h.1)) h.1, stack_aside d cell v fs a.this older q.1 h.2)

  pub stack_cleared : (d cell m : ℕ) (fs : List (List Value)) (v : Value) (cs : List Active) → FrameBefore cell d cs → BoundStack few n fs v cs → BoundStack few n (frame_changed d (values_cleared cell m nought) fs) v cs
  stack_cleared d cell m fs v [] b h = tt
  stack_cleared d cell m fs v (a ∷ older) b h =
      (h.0, set_at (λ vs. WaitsFor few n v vs a.frame a.control) fs d a.frame _ (λ e. waits_cleared v a.frame cell m a.control (frame_at d fs) (b.0 e).1 (subst (λ f. WaitsFor few n v (frame_at f fs) a.frame a.control) e h.1)) h.1, stack_cleared d cell m fs a.this older b.1 h.2)

  pub list_aside : (d cell : ℕ) (v : Value) (fs : List (List Value)) (f : ℕ) (todo : List Todo) → (f ≡ d → Pends (Apart cell) todo) → AllUnbound (IsUnset (frame_at f fs)) todo → AllUnbound (IsUnset (frame_at f (frame_changed d (value_changed cell (stored v) nought) fs))) todo
  list_aside d cell v fs f todo q h =
      set_at (λ vs. AllUnbound (IsUnset vs) todo) fs d f _ (λ e. all_changed (IsUnset (frame_at d fs)) (IsUnset (value_changed cell (stored v) nought (frame_at d fs))) (Apart cell) (unset_aside cell v (frame_at d fs)) todo (q e) (subst (λ g. AllUnbound (IsUnset (frame_at g fs)) todo) e h)) h

  pub call_list_aside : (Q : ℕ → Type 0) (x d cell : ℕ) (v : Value) (fs : List (List Value)) (f : ℕ) (todo : List Todo) → (f ≡ d → Pends (Apart cell) todo) → AtCall (IsUnset (frame_at f fs)) x Q todo → AtCall (IsUnset (frame_at f (frame_changed d (value_changed cell (stored v) nought) fs))) x Q todo
  call_list_aside Q x d cell v fs f (piece.CallOnNow r ∷ todo) q h =
      (h.0, set_at (λ vs. AtDrop (IsUnset vs) Q todo) fs d f _ (λ e. bound_drop (IsUnset (frame_at d fs)) (IsUnset (value_changed cell (stored v) nought (frame_at d fs))) (Apart cell) (unset_aside cell v (frame_at d fs)) Q Q Anywhere (λ k x u. x) todo (any_drop Anywhere (λ p. tt) todo) (q e) (subst (λ g. AtDrop (IsUnset (frame_at g fs)) Q todo) e h.1)) h.1)
  call_list_aside Q x d cell v fs f (piece.CallUnwrittenNow r ∷ todo) q h =
      (h.0, set_at (λ vs. AtDrop (IsUnset vs) Q todo) fs d f _ (λ e. bound_drop (IsUnset (frame_at d fs)) (IsUnset (value_changed cell (stored v) nought (frame_at d fs))) (Apart cell) (unset_aside cell v (frame_at d fs)) Q Q Anywhere (λ k x u. x) todo (any_drop Anywhere (λ p. tt) todo) (q e) (subst (λ g. AtDrop (IsUnset (frame_at g fs)) Q todo) e h.1)) h.1)
  call_list_aside Q x d cell v fs f todo q h = absurd h

  pub list_cleared : (d cell m : ℕ) (fs : List (List Value)) (f : ℕ) (todo : List Todo) → AllUnbound (IsUnset (frame_at f fs)) todo → AllUnbound (IsUnset (frame_at f (frame_changed d (values_cleared cell m nought) fs))) todo
  list_cleared d cell m fs f todo h =
      set_at (λ vs. AllUnbound (IsUnset vs) todo) fs d f _ (λ e. all_cleared cell m todo (frame_at d fs) (subst (λ g. AllUnbound (IsUnset (frame_at g fs)) todo) e h)) h

  pub stack_newer : (x : List Value) (fs : List (List Value)) (v : Value) (cs : List Active) → length cs ≤ length fs → BoundStack few n fs v cs → BoundStack few n (x ∷ fs) v cs
  stack_newer x fs v [] l h = tt
  stack_newer x fs v (a ∷ older) l h =
      let le = h.0 in
      (h.0, newer_at (λ vs. WaitsFor few n v vs a.frame a.control) x fs a.frame (omega (arith, le, l)) h.1, stack_newer x fs a.this older (omega (arith, l)) h.2)

  pub stack_older : (fs : List (List Value)) (v : Value) (cs : List Active) → length cs ≤ length (others fs) → BoundStack few n fs v cs → BoundStack few n (others fs) v cs
  stack_older fs v [] l h = tt
  stack_older fs v (a ∷ older) l h =
      let le = h.0 in
      (h.0, older_at (λ vs. WaitsFor few n v vs a.frame a.control) fs a.frame (omega (arith, le, l)) h.1, stack_older fs a.this older (omega (arith, l)) h.2)
