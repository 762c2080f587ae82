-- To-do lists at the end of which the building of the object at hand ends.
use Rattle.std.proofs.Common.{◌≡◌, ℕ, zero, suc, ◌⊎◌, inl, inr, Bool, true, false, List, [], ◌∷◌, Option, Some, None, refl, subst, sym}
use Rattle.std.specs.Prelude.{nat_eq}
use Rattle.uc_tree.specs.Source as src
use Rattle.uc_tree.specs.Source.{Shape, Expr, Stmt, Stmts, Order, Way, CleanUp, Clauses, Raised, Item, Routine}
use Rattle.uc_tree.specs.Source.{Source}
use Rattle.uc_machine.specs.declared.exec.UnwindReason.{UnwindReason}
use Rattle.uc_machine.specs.Raising as raising
use Rattle.uc_machine.specs.Raising.{Handler}
use Rattle.uc_machine.specs.Monitors as monitors
use Rattle.uc_machine.specs.Quiet as quiet
use Rattle.uc_machine.specs.Pieces as piece
use Rattle.uc_machine.specs.Pieces.{Todo}
use Rattle.uc_life_laws.proofs.Cells.{either}
use Rattle.uc_homed_ends.specs.Freeing.{IsCalm, IsFreeing, OpensFreeing, FreesLast, IsFreed, BuildsBy, Builds, CallsFit, WaitsBy, RunsBy, ExitsFrom}

-- what stands behind a piece that is left
module _ (source : Source) where
  pub calls_tail : (p : Todo) (todo : List Todo) → CallsFit source (p ∷ todo) → CallsFit source todo
  calls_tail (piece.CallOnNow r) todo h = h.1
  calls_tail (piece.CallUnwrittenNow r) todo h = h.1
  calls_tail p todo h = h

  pub frees_tail : (p : Todo) (todo : List Todo) → ExitsFrom (p ∷ todo) → FreesLast (p ∷ todo) → FreesLast todo
  frees_tail (piece.Rest ss) todo n (inl h) = absurd (n h.0)
  frees_tail (piece.Rest ss) todo n (inr h) = h
  frees_tail (piece.Clean c) todo n (inl h) = absurd (n h.0)
  frees_tail (piece.Clean c) todo n (inr h) = h
  frees_tail p todo n h = h

  -- the code of a routine calls nothing yet
  pub routine_calls : (r : Routine) → CallsFit source (quiet.routine_todo r)
  routine_calls r = by r.purpose
    where
      by : (p : src.Purpose) → CallsFit source (quiet.behind_body p r.line)
      by src.TaskMain = tt
      by src.CoroutineMain = tt
      by src.Procedure = tt
      by src.Function = tt
      by src.Builder = tt

  module _ (C : Type 0) where
    abbrev pub Waits : List Todo → Type 0
    Waits todo = WaitsBy source C todo

    -- who waits so may go on
    pub runs : (A : Type 0) (todo : List Todo) → Waits todo → RunsBy source C A todo
    runs A todo h = (h.0, by h.1)
      where
        by : C ⊎ FreesLast todo → C ⊎ (FreesLast todo ⊎ IsFreed A todo)
        by (inl c) = inl c
        by (inr m) = inr (inl m)

    -- what comes next is more than the end of the building
    pub busy : (todo : List Todo) → CallsFit source todo × (C ⊎ (FreesLast todo ⊎ ⊥)) → Waits todo
    busy todo h = (h.0, by h.1)
      where
        by : C ⊎ (FreesLast todo ⊎ ⊥) → C ⊎ FreesLast todo
        by (inl c) = inl c
        by (inr (inl m)) = inr m
        by (inr (inr x)) = absurd x

    -- one piece less
    pub past : (p : Todo) (todo : List Todo) → ExitsFrom (p ∷ todo) → Waits (p ∷ todo) → Waits todo
    past p todo n h = (calls_tail p todo h.0, by h.1)
      where
        by : C ⊎ FreesLast (p ∷ todo) → C ⊎ FreesLast todo
        by (inl c) = inl c
        by (inr m) = inr (frees_tail p todo n m)

    -- one that was unwound or left is not at its end
    pub unwinding : (A : Type 0) (p : Todo) (todo : List Todo) → RunsBy source C A (piece.Unwind ∷ (p ∷ todo)) → Waits (p ∷ todo)
    unwinding A p todo h = (h.0, by h.1)
      where
        by : C ⊎ (FreesLast (p ∷ todo) ⊎ (A × ((p ∷ todo) ≡ []))) → C ⊎ FreesLast (p ∷ todo)
        by (inl c) = inl c
        by (inr (inl m)) = inr m
        by (inr (inr m)) = let e = m.1 in absurd (cc)

    -- statements that are left

    pub rested : (ss : Stmts) (todo : List Todo) → Waits todo → Waits (piece.Rest ss ∷ todo)
    rested ss todo h = (h.0, by h.1)
      where
        by : C ⊎ FreesLast todo → C ⊎ ((OpensFreeing ss × (todo ≡ [])) ⊎ FreesLast todo)
        by (inl c) = inl c
        by (inr m) = inr (inr m)

    pub cleaned : (c : CleanUp) (todo : List Todo) → Waits todo → Waits (piece.Clean c ∷ todo)
    cleaned c todo h = (h.0, by h.1)
      where
        by : C ⊎ FreesLast todo → C ⊎ ((IsFreeing c × (todo ≡ [])) ⊎ FreesLast todo)
        by (inl c) = inl c
        by (inr m) = inr (inr m)

    abbrev pub Left : Stmts → List Todo → Type 0
    Left ss todo = CallsFit source todo × (C ⊎ (((OpensFreeing ss × (todo ≡ [])) ⊎ FreesLast todo) ⊎ ⊥))

    pub plain : (ss : Stmts) (todo : List Todo) → (OpensFreeing ss → ⊥) → Left ss todo → Waits todo
    plain ss todo n h = (h.0, by h.1)
      where
        by : C ⊎ (((OpensFreeing ss × (todo ≡ [])) ⊎ FreesLast todo) ⊎ ⊥) → C ⊎ FreesLast todo
        by (inl c) = inl c
        by (inr (inl (inl m))) = absurd (n m.0)
        by (inr (inl (inr m))) = inr m
        by (inr (inr x)) = absurd x

    pub scoped : (c : CleanUp) (rest : Stmts) (todo : List Todo) → Left (src.Scoped c rest) todo → Waits (piece.Rest rest ∷ (piece.Clean c ∷ todo))
    scoped c rest todo h = (h.0, by h.1)
      where
        by : C ⊎ (((IsFreeing c × (todo ≡ [])) ⊎ FreesLast todo) ⊎ ⊥) → C ⊎ FreesLast (piece.Rest rest ∷ (piece.Clean c ∷ todo))
        by (inl c) = inl c
        by (inr (inl (inl m))) = inr (inr (inl m))
        by (inr (inl (inr m))) = inr (inr (inr m))
        by (inr (inr x)) = absurd x

    -- an exit

    loop_left : (w : Way) (o : Order) (t : Expr) (e : Option Expr) (b : Stmt) (todo : List Todo) → Waits todo → Waits (quiet.loop_left w o t e b todo)
    loop_left src.ToBreak o t e b todo h = h
    loop_left src.ToContinue o t e b todo h = h
    loop_left src.ToReturn o t e b todo h = h
    loop_left src.ToEnd o t e b todo h = h

    pub left_behind : (w : Way) (p : Todo) (todo : List Todo) → Waits todo → Waits (quiet.left_behind w (piece.sort p) todo)
    left_behind w (piece.InLoop o t e b) todo h = loop_left w o t e b todo h
    left_behind w piece.InWhole todo h = h
    left_behind w (piece.Clean c) todo h = cleaned c (piece.Exit w ∷ todo) h
    left_behind w (piece.FillNow m b d) todo h = h
    left_behind w (piece.Sweep e) todo h = h
    left_behind w (piece.Part c) todo h = h
    left_behind w (piece.Guard hs) todo h = h
    left_behind w piece.Finish todo h = h
    left_behind w piece.FinishCoroutine todo h = h
    left_behind w p todo h = h

    -- clean-ups

    pub left_cleans : (c : CleanUp) (todo : List Todo) → (IsFreeing c → ⊥) → Waits todo → Waits (piece.clean_todo c todo)
    left_cleans (src.Destroys e) todo n h = h
    left_cleans (src.DestroysAll m e) todo n h = h
    left_cleans src.Unwinds todo n h = h
    left_cleans src.Forgets todo n h = h
    left_cleans src.Leaves todo n h = h
    left_cleans src.Ends todo n h = h
    left_cleans (src.Frees r) todo n h = absurd (n tt)
    left_cleans (src.Restores k) todo n h = h

    abbrev pub Cleaning : CleanUp → List Todo → Type 0
    Cleaning c todo = CallsFit source todo × (C ⊎ (((IsFreeing c × (todo ≡ [])) ⊎ FreesLast todo) ⊎ ⊥))

    other : (c : CleanUp) (todo : List Todo) → (IsFreeing c → ⊥) → Cleaning c todo → Waits todo
    other c todo n h = (h.0, by h.1)
      where
        by : C ⊎ (((IsFreeing c × (todo ≡ [])) ⊎ FreesLast todo) ⊎ ⊥) → C ⊎ FreesLast todo
        by (inl x) = inl x
        by (inr (inl (inl m))) = absurd (n m.0)
        by (inr (inl (inr m))) = inr m
        by (inr (inr x)) = absurd x

    freed : (A : Type 0) (r : Option ℕ) (todo : List Todo) → Cleaning (src.Frees r) todo → RunsBy source C A (piece.clean_todo (src.Frees r) todo)
    freed A None todo h = (h.0, by h.1)
      where
        by : C ⊎ (((Unit {0} × (todo ≡ [])) ⊎ FreesLast todo) ⊎ ⊥) → C ⊎ (FreesLast todo ⊎ (todo ≡ []))
        by (inl c) = inl c
        by (inr (inl (inl m))) = inr (inr m.1)
        by (inr (inl (inr m))) = inr (inl m)
        by (inr (inr x)) = absurd x
    freed A (Some r) todo h = (h.0, by h.1)
      where
        by : C ⊎ (((Unit {0} × (todo ≡ [])) ⊎ FreesLast todo) ⊎ ⊥) → C ⊎ (FreesLast todo ⊎ (todo ≡ []))
        by (inl c) = inl c
        by (inr (inl (inl m))) = inr (inr m.1)
        by (inr (inl (inr m))) = inr (inl m)
        by (inr (inr x)) = absurd x

    pub cleans : (A : Type 0) (c : CleanUp) (todo : List Todo) → Cleaning c todo → RunsBy source C A (piece.clean_todo c todo)
    cleans A (src.Frees r) todo h = freed A r todo h
    cleans A (src.Destroys e) todo h = runs A (piece.clean_todo (src.Destroys e) todo) (left_cleans (src.Destroys e) todo (λ x. x) (other (src.Destroys e) todo (λ x. x) h))
    cleans A (src.DestroysAll m e) todo h = runs A (piece.clean_todo (src.DestroysAll m e) todo) (left_cleans (src.DestroysAll m e) todo (λ x. x) (other (src.DestroysAll m e) todo (λ x. x) h))
    cleans A src.Unwinds todo h = runs A (piece.clean_todo src.Unwinds todo) (left_cleans src.Unwinds todo (λ x. x) (other src.Unwinds todo (λ x. x) h))
    cleans A src.Forgets todo h = runs A (piece.clean_todo src.Forgets todo) (left_cleans src.Forgets todo (λ x. x) (other src.Forgets todo (λ x. x) h))
    cleans A src.Leaves todo h = runs A (piece.clean_todo src.Leaves todo) (left_cleans src.Leaves todo (λ x. x) (other src.Leaves todo (λ x. x) h))
    cleans A src.Ends todo h = runs A (piece.clean_todo src.Ends todo) (left_cleans src.Ends todo (λ x. x) (other src.Ends todo (λ x. x) h))
    cleans A (src.Restores k) todo h = runs A (piece.clean_todo (src.Restores k) todo) (left_cleans (src.Restores k) todo (λ x. x) (other (src.Restores k) todo (λ x. x) h))

    -- a scope is unwound; where an object is built in it, that is given up
    abbrev Unwinding : CleanUp → List Todo → Type 0
    Unwinding c todo = CallsFit source todo × (C ⊎ ((IsFreeing c × (todo ≡ [])) ⊎ FreesLast todo))

    gives_up : (A : Type 0) (r : Option ℕ) (todo : List Todo) → A → Unwinding (src.Frees r) todo → RunsBy source C A (piece.GiveUpNow ∷ (piece.Unwind ∷ todo))
    gives_up A r todo a h = (h.0, by h.1)
      where
        by : C ⊎ ((Unit {0} × (todo ≡ [])) ⊎ FreesLast todo) → C ⊎ (FreesLast todo ⊎ (A × ((piece.Unwind ∷ todo) ≡ piece.Unwind ∷ [])))
        by (inl c) = inl c
        by (inr (inl m)) = inr (inr (a, subst (λ l. (piece.Unwind ∷ l) ≡ piece.Unwind ∷ []) (sym m.1) refl))
        by (inr (inr m)) = inr (inl m)

    pub scope_left : (A : Type 0) (c : CleanUp) (todo : List Todo) → (IsFreeing c → A) → Unwinding c todo → RunsBy source C A (raising.left_todo c (piece.Unwind ∷ todo))
    scope_left A (src.Frees r) todo a h = gives_up A r todo (a tt) h
    scope_left A (src.Destroys e) todo a h = runs A (piece.clean_todo (src.Destroys e) (piece.Unwind ∷ todo)) (left_cleans (src.Destroys e) (piece.Unwind ∷ todo) (λ x. x) (past (piece.Clean (src.Destroys e)) todo (λ x. x) h))
    scope_left A (src.DestroysAll m e) todo a h = runs A (piece.clean_todo (src.DestroysAll m e) (piece.Unwind ∷ todo)) (left_cleans (src.DestroysAll m e) (piece.Unwind ∷ todo) (λ x. x) (past (piece.Clean (src.DestroysAll m e)) todo (λ x. x) h))
    scope_left A src.Unwinds todo a h = runs A (piece.clean_todo src.Unwinds (piece.Unwind ∷ todo)) (left_cleans src.Unwinds (piece.Unwind ∷ todo) (λ x. x) (past (piece.Clean src.Unwinds) todo (λ x. x) h))
    scope_left A src.Forgets todo a h = runs A (piece.clean_todo src.Forgets (piece.Unwind ∷ todo)) (left_cleans src.Forgets (piece.Unwind ∷ todo) (λ x. x) (past (piece.Clean src.Forgets) todo (λ x. x) h))
    scope_left A src.Leaves todo a h = runs A (piece.clean_todo src.Leaves (piece.Unwind ∷ todo)) (left_cleans src.Leaves (piece.Unwind ∷ todo) (λ x. x) (past (piece.Clean src.Leaves) todo (λ x. x) h))
    scope_left A src.Ends todo a h = runs A (piece.clean_todo src.Ends (piece.Unwind ∷ todo)) (left_cleans src.Ends (piece.Unwind ∷ todo) (λ x. x) (past (piece.Clean src.Ends) todo (λ x. x) h))
    scope_left A (src.Restores k) todo a h = runs A (piece.clean_todo (src.Restores k) (piece.Unwind ∷ todo)) (left_cleans (src.Restores k) (piece.Unwind ∷ todo) (λ x. x) (past (piece.Clean (src.Restores k)) todo (λ x. x) h))

    -- a part is cleaned up as it is left; the end of a building is none
    pub part_cleans : (c : CleanUp) (todo : List Todo) → Waits todo → Waits (piece.clean_todo c todo)
    part_cleans (src.Destroys e) todo h = h
    part_cleans (src.DestroysAll m e) todo h = h
    part_cleans src.Unwinds todo h = h
    part_cleans src.Forgets todo h = h
    part_cleans src.Leaves todo h = h
    part_cleans src.Ends todo h = h
    part_cleans (src.Frees None) todo h = h
    part_cleans (src.Frees (Some r)) todo h = h
    part_cleans (src.Restores c) todo h = h

    -- what other pieces leave to do

    pub starts : (cell : ℕ) (v : Option Expr) (todo : List Todo) → Waits todo → Waits (quiet.starting cell v todo)
    starts cell None todo h = h
    starts cell (Some e) todo h = h

    pub converts : (k : Shape) (todo : List Todo) → Waits todo → Waits (quiet.converting k todo)
    converts src.Character todo h = h
    converts src.Truth todo h = h
    converts k todo h = h

    pub stepped : (e : Option Expr) (todo : List Todo) → Waits todo → Waits (quiet.step_todo e todo)
    stepped None todo h = h
    stepped (Some e) todo h = h

    pub tested : (o : Order) (t : Expr) (e : Option Expr) (b : Stmt) (todo : List Todo) → Waits todo → Waits (quiet.test_todo o t e b todo)
    tested src.TestFirst t e b todo h = h
    tested src.BodyFirst t e b todo h = h
    tested src.NoTest t e b todo h = h

    pub looped : (o : Order) (t : Expr) (e : Option Expr) (b : Stmt) (todo : List Todo) → Waits todo → Waits (quiet.loop_todo o t e b todo)
    looped src.TestFirst t e b todo h = h
    looped src.BodyFirst t e b todo h = h
    looped src.NoTest t e b todo h = h

    pub filled : (b : Bool) (n : ℕ) (e d : Expr) (todo : List Todo) → Waits todo → Waits (quiet.fill_todo b n e d todo)
    filled false n e d todo h = h
    filled true n e d todo h = h

    pub raised : (r : Raised) (todo : List Todo) → Waits todo → Waits (raising.raised_todo r todo)
    raised (src.Plainly n) todo h = h
    raised (src.BuiltAt n c e) todo h = h
    raised (src.AgainFrom c) todo h = h

    pub handled : (x : Handler) (todo : List Todo) → Waits todo → Waits (raising.handler_todo x todo)
    handled x todo h = rested x.body (piece.Within x.line ∷ todo) h

    pub branch : (k : ℕ) (cs : Clauses) (todo : List Todo) → Waits todo → Waits (monitors.branch_todo k cs todo)
    branch k src.NoClauses todo h = h
    branch k (src.Otherwise b) todo h = either Waits (nat_eq k 0) (piece.Do b ∷ todo) todo h h
    branch zero (src.MoreClauses guard b cs) todo h = branch zero cs todo h
    branch (suc zero) (src.MoreClauses guard b cs) todo h = h
    branch (suc (suc k)) (src.MoreClauses guard b cs) todo h = branch (suc k) cs todo h

    pub item : (i : Item) (todo : List Todo) → Waits todo → Waits (quiet.item_todo i todo)
    item (src.Show f e) todo h = h
    item (src.ShowText k) todo h = h

    pub item_value : (i : Item) (todo : List Todo) → Waits todo → Waits (quiet.item_value i todo)
    item_value (src.Show f e) todo h = h
    item_value (src.ShowText k) todo h = h

    pub item_piece : (i : Item) (todo : List Todo) → Waits todo → Waits (quiet.item_piece i ∷ todo)
    item_piece (src.Show f e) todo h = h
    item_piece (src.ShowText k) todo h = h

    pub polled : (o : Option UnwindReason) (todo : List Todo) → Waits todo → Waits (monitors.leave_todo o todo)
    polled None todo h = h
    polled (Some why) todo h = h

    -- a call on an object stands behind what finds that
    pub called : (e : Expr) (r : ℕ) (todo : List Todo) → (BuildsBy source e → ⊥) → IsCalm todo ⊎ BuildsBy source e → IsCalm todo ⊎ Builds source r
    called e r todo n (inl c) = inl c
    called e r todo n (inr b) = absurd (n b)
