-- To-do lists that a step makes of such in which seats are told.
use Rattle.std.proofs.Common.{◌≡◌, ℕ, zero, suc, inl, inr, Bool, true, false, ◌&&◌, List, [], ◌∷◌, Option, Some, None, sym, ap, ◌∙◌, subst}
use Rattle.std.specs.Prelude.{nat_eq}
use Rattle.uc_tree.specs.Programs.{Program}
use Rattle.uc_tree.specs.Source as src
use Rattle.uc_tree.specs.Source.{Shape, Expr, Stmt, Routine, Purpose, Order, Way, CleanUp, Handlers, Clauses, Raised, Item, Source}
use Rattle.uc_machine.specs.declared.exec.UnwindReason.{UnwindReason}
use Rattle.uc_machine.specs.Raising as raising
use Rattle.uc_machine.specs.Raising.{Handler, Found, Hit}
use Rattle.uc_machine.specs.Monitors as monitors
use Rattle.uc_machine.specs.Quiet as quiet
use Rattle.uc_machine.specs.Pieces as piece
use Rattle.uc_machine.specs.Pieces.{Todo, Sort}
use Rattle.uc_state_laws.specs.Counted.{params, count, CountedExpr, CountedMaybe, CountedItem, CountedClean, CountedRaised, CountedAt}
use Rattle.uc_place_laws.proofs.AsideKeeping.{either}
use Rattle.uc_tasked_laws.specs.Seats.{Mark, Any, At, rest, rests, anys, CalledAt, CalledBy, CodeStmt, CodeBlock, CodeHandlers, CodeClauses, QuitsBy, Quits, QuitsAt, LeftBy, Ok, AtDrop, Left}
use Rattle.uc_tasked_laws.proofs.Marks as marks
use Rattle.uc_tasked_laws.proofs.Marks.{rests_anys}

module _ (g : Program) (source : Source) where
  -- handlers

  abbrev pub OfHandler : Option Handler → Type 0
  OfHandler None = Unit {0}
  OfHandler (Some x) = CodeBlock g source x.body

  abbrev pub OfHit : Option Hit → Type 0
  OfHit None = Unit {0}
  OfHit (Some x) = CodeBlock g source x.handler.body

  abbrev pub OfFound : Option Found → Type 0
  OfFound None = Unit {0}
  OfFound (Some x) = CodeBlock g source x.handler.body

  pub handler_for : (kind : Bool) (e : raising.Event) (hs : Handlers) → CodeHandlers g source hs → OfHandler (raising.handler_for kind e hs)
  handler_for kind e src.NoHandlers h = tt
  handler_for kind e (src.MoreHandlers resumes event cell line body others) h =
      either OfHandler (raising.same_kind kind resumes && raising.takes event e) (Some (record { cell = cell; line = line; body = body })) (raising.handler_for kind e others) (h.1.0.0, (h.0.0, h.1.0.1)) (handler_for kind e others (h.0.1, h.1.1))

  pub hit_or : (x : Option Handler) (n : ℕ) (other : Option Hit) → OfHandler x → OfHit other → OfHit (raising.hit_or x n other)
  hit_or None n other h k = k
  hit_or (Some x) n other h k = h

  module _ (D B : Type 0) (S : ℕ → Expr → Type 0) where
    -- what is to do in a routine

    pub behind : (p : Purpose) (line : ℕ) → D → Ok g source D B S [] (quiet.behind_body p line)
    behind src.TaskMain line d = (d, (tt, d))
    behind src.CoroutineMain line d = (tt, (tt, d))
    behind src.Procedure line d = (tt, d)
    behind src.Function line d = (tt, (tt, d))
    behind src.Builder line d = d

    quits_behind : (p : Purpose) (line : ℕ) → D → Quits g source D B S (quiet.behind_body p line)
    quits_behind src.TaskMain line d = d
    quits_behind src.CoroutineMain line d = d
    quits_behind src.Procedure line d = d
    quits_behind src.Function line d = d
    quits_behind src.Builder line d = d

    pub routine : (r : Routine) → D → CodeBlock g source r.body → Ok g source D B S [] (quiet.routine_todo r)
    routine r d h = (h, behind r.purpose r.line d, inr (quits_behind r.purpose r.line d))

    -- what is known of a mark that is left
    pub hit_by : (k : Sort) (n : ℕ) (e : raising.Event) (other : Option Hit) (ps : List Todo) (l o : Type 0) → LeftBy g source D B S k ps l o → OfHit other → OfHit (raising.hit_by k n e other)
    hit_by (piece.IsGuard hs) n e other ps l o h k = hit_or (raising.handler_for true e hs) n other (handler_for true e hs h.0) k
    hit_by s n e other ps l o h k = k

    pub hit_in : (e : raising.Event) (todo : List Todo) → Left g source D B S todo → OfHit (raising.hit_in e todo)
    hit_in e [] h = tt
    hit_in e (p ∷ ps) h =
        hit_by (piece.sort p) (raising.count_round ps) e (raising.hit_in e ps) ps (Left g source D B S ps) (Ok g source D B S [] ps) h (hit_in e ps (marks.left_tail g source D B S p ps h))

    pub within : (n : ℕ) (todo : List Todo) → Left g source D B S todo → Left g source D B S (raising.within n todo)
    within n [] h = tt
    within n (p ∷ ps) h =
        either (Left g source D B S) (nat_eq (raising.count_round (p ∷ ps)) n) (p ∷ ps) (raising.within n ps) h (within n ps (marks.left_tail g source D B S p ps h))

    -- to-do lists

    pub starts : (cell : ℕ) (v : Option Expr) (todo : List Todo) → CountedMaybe source v → Ok g source D B S [] todo → Ok g source D B S [] (quiet.starting cell v todo)
    starts cell None todo n h = h
    starts cell (Some e) todo n h = (tt, inl (n, inl (tt, h)))

    pub converts : (k : Shape) (ms : List Mark) (todo : List Todo) → Ok g source D B S (Any ∷ ms) todo → Ok g source D B S (Any ∷ ms) (quiet.converting k todo)
    converts src.Character ms todo h = (tt, h)
    converts src.Truth ms todo h = (tt, h)
    converts k ms todo h = h

    pub stepped : (e : Option Expr) (todo : List Todo) → CountedMaybe source e → Ok g source D B S [] todo → Ok g source D B S [] (quiet.step_todo e todo)
    stepped None todo n h = h
    stepped (Some e) todo n h = (n, inl (tt, h))

    pub turned : (o : Order) (t : Expr) (e : Option Expr) (b : Stmt) (todo : List Todo) → CountedExpr source t → CountedMaybe source e → CodeStmt g source b → Ok g source D B S [] todo → Quits g source D B S todo → Ok g source D B S [] (quiet.test_todo o t e b todo)
    turned src.TestFirst t e b todo k l m h q = (k, inl ((k, l, m), h, q))
    turned src.BodyFirst t e b todo k l m h q = (k, inl ((k, l, m), h, q))
    turned src.NoTest t e b todo k l m h q = ((k, l, m), h, q)

    pub looped : (o : Order) (t : Expr) (e : Option Expr) (b : Stmt) (todo : List Todo) → CountedExpr source t → CountedMaybe source e → CodeStmt g source b → Ok g source D B S [] todo → Quits g source D B S todo → Ok g source D B S [] (quiet.loop_todo o t e b todo)
    looped src.TestFirst t e b todo k l m h q = (k, inl ((k, l, m), h, q))
    looped src.BodyFirst t e b todo k l m h q = ((k, l, m), h, q)
    looped src.NoTest t e b todo k l m h q = ((k, l, m), h, q)

    pub quits_at : (c : CleanUp) (todo : List Todo) → Quits g source D B S todo → QuitsAt g source D B S c todo
    quits_at src.Leaves todo q = q
    quits_at c todo q = tt

    pub loop_left : (w : Way) (o : Order) (t : Expr) (e : Option Expr) (b : Stmt) (todo : List Todo) → CountedExpr source t × CountedMaybe source e × CodeStmt g source b → Ok g source D B S [] todo → Quits g source D B S todo → Ok g source D B S [] (quiet.loop_left w o t e b todo)
    loop_left src.ToBreak o t e b todo n h q = h
    loop_left src.ToContinue o t e b todo n h q = (n, h, q)
    loop_left src.ToReturn o t e b todo n h q = (marks.left g source D B S [] todo h, q)
    loop_left src.ToEnd o t e b todo n h q = (marks.left g source D B S [] todo h, q)

    pub left_behind : (w : Way) (k : Sort) (todo : List Todo) → LeftBy g source D B S k todo (Left g source D B S todo) (Ok g source D B S [] todo) → QuitsBy k (Quits g source D B S todo) → Ok g source D B S [] (quiet.left_behind w k todo)
    left_behind w piece.Simple todo h q = (h, q)
    left_behind w (piece.IsLoop o t e b) todo h q = loop_left w o t e b todo h.0 h.1 q
    left_behind w piece.IsWhole todo h q = h
    left_behind w (piece.IsClean c) todo h q = (h.0, inl (marks.clean_tail g source D B S c todo h.1, q), quits_at c (piece.Exit w ∷ todo) q)
    left_behind w (piece.IsFill m b d) todo h q = (marks.left g source D B S [] todo h.1, q)
    left_behind w (piece.IsSweep e) todo h q = (marks.left g source D B S [] todo h.1, q)
    left_behind w (piece.IsPart c) todo h q = (marks.left g source D B S [] todo h.1, q)
    left_behind w (piece.IsGuard hs) todo h q = (marks.left g source D B S [] todo h.1, q)
    left_behind w piece.IsFinish todo h q = h
    left_behind w piece.IsFinishCoroutine todo h q = (tt, h)

    pub filled : (b : Bool) (n : ℕ) (e d : Expr) (todo : List Todo) → CountedExpr source e × CountedExpr source d → Ok g source D B S [] todo → Ok g source D B S [] (quiet.fill_todo b n e d todo)
    filled false n e d todo k h = h
    filled true n e d todo k h = (k.0, inl (tt, (tt, (k, h))))

    -- an event is found before it is raised
    pub raised : (r : Raised) (todo : List Todo) → CountedRaised source r → Ok g source D B S (Any ∷ (Any ∷ (Any ∷ []))) todo → Ok g source D B S [] (raising.raised_todo r todo)
    raised (src.Plainly n) todo k h = (tt, inl (tt, inl (tt, inl h)))
    raised (src.BuiltAt n c e) todo k h = (tt, (k, inl (tt, (tt, inl (tt, inl (tt, inl h))))))
    raised (src.AgainFrom c) todo k h = (tt, inl (tt, inl (tt, inl h)))

    pub counted_at : (r : Raised) → CountedAt source r → CountedRaised source r
    counted_at (src.Plainly n) h = tt
    counted_at (src.BuiltAt n c e) h = h.1
    counted_at (src.AgainFrom c) h = tt

    pub handled : (x : Handler) (todo : List Todo) → CodeBlock g source x.body → Ok g source D B S [] todo → Quits g source D B S todo → Ok g source D B S [] (raising.handler_todo x todo)
    handled x todo k h q = (tt, (tt, (tt, (tt, (tt, (tt, (k, (tt, h), inr q)))))))

    pub cleans : (c : CleanUp) (todo : List Todo) → CountedClean source c → Ok g source D B S [] todo → Ok g source D B S [] (piece.clean_todo c todo)
    cleans (src.Destroys e) todo n h = (n, inl (tt, h))
    cleans (src.DestroysAll m e) todo n h = (tt, (n, h))
    cleans src.Unwinds todo n h = (tt, h)
    cleans src.Forgets todo n h = (tt, h)
    cleans src.Leaves todo n h = (tt, h)
    cleans src.Ends todo n h = (tt, h)
    cleans (src.Frees None) todo n h = (tt, h)
    cleans (src.Frees (Some r)) todo n h = (tt, h)
    cleans (src.Restores k) todo n h = (tt, h)

    pub left_cleans : (c : CleanUp) (todo : List Todo) → CountedClean source c → Ok g source D B S [] todo → Ok g source D B S [] (raising.left_todo c todo)
    left_cleans (src.Frees r) todo n h = (tt, h)
    left_cleans c todo n h = cleans c todo n h

    pub branch : (k : ℕ) (cs : Clauses) (todo : List Todo) → CodeClauses g source cs → Ok g source D B S [] todo → Quits g source D B S todo → Ok g source D B S [] (monitors.branch_todo k cs todo)
    branch k src.NoClauses todo n h q = h
    branch k (src.Otherwise b) todo n h q = either (Ok g source D B S []) (nat_eq k 0) (piece.Do b ∷ todo) todo (n, inl h, inr q) h
    branch zero (src.MoreClauses guard b cs) todo n h q = branch zero cs todo (n.0.2, n.1.1) h q
    branch (suc zero) (src.MoreClauses guard b cs) todo n h q = ((n.0.1, n.1.0), inl h, inr q)
    branch (suc (suc k)) (src.MoreClauses guard b cs) todo n h q = branch (suc k) cs todo (n.0.2, n.1.1) h q

    pub item : (i : Item) (todo : List Todo) → CountedItem source i → Ok g source D B S [] todo → Ok g source D B S [] (quiet.item_todo i todo)
    item (src.Show f e) todo n h = (n, inl (tt, h))
    item (src.ShowText k) todo n h = (tt, h)

    pub item_value : (i : Item) (todo : List Todo) → CountedItem source i → ((ms : List Mark) → Ok g source D B S ms todo) → Ok g source D B S [] (quiet.item_value i todo)
    item_value (src.Show f e) todo n h = (n, inl (h (Any ∷ [])))
    item_value (src.ShowText k) todo n h = h []

    pub item_piece : (i : Item) (todo : List Todo) → Ok g source D B S [] todo → Ok g source D B S [] (quiet.item_piece i ∷ todo)
    item_piece (src.Show f e) todo h = (tt, h)
    item_piece (src.ShowText k) todo h = (tt, h)

    pub polled : (o : Option UnwindReason) (ms : List Mark) (todo : List Todo) → Ok g source D B S ms todo → Ok g source D B S ms (monitors.leave_todo o todo)
    polled None ms todo h = (tt, h)
    polled (Some why) ms todo h = h

    -- calls take as many operands as there are arguments

    pub called : (args : src.Exprs) (r : ℕ) (ms : List Mark) (todo : List Todo) → count args ≡ params source r → Ok g source D B S (Any ∷ ms) todo → Ok g source D B S (Any ∷ rests (params source r) (anys (count args) ms)) todo
    called args r ms todo e h =
        subst (λ n. Ok g source D B S (Any ∷ rests n (anys (count args) ms)) todo) e (subst (λ ns. Ok g source D B S (Any ∷ ns) todo) (sym (rests_anys (count args) ms)) h)

    pub called_on : (n r : ℕ) (m : Mark) (ms : List Mark) (todo : List Todo) → n ≡ params source r → Ok g source D B S (Any ∷ ms) todo → Ok g source D B S (Any ∷ rests (suc (params source r)) (anys n (m ∷ ms))) todo
    called_on n r m ms todo e h =
        subst (λ k. Ok g source D B S (Any ∷ rest (rests k (anys n (m ∷ ms)))) todo) e (subst (λ ns. Ok g source D B S (Any ∷ rest ns) todo) (sym (rests_anys n (m ∷ ms))) h)

    -- the variable lies below the arguments
    pub called_at : (n r : ℕ) (m : Expr) (ms : List Mark) (todo : List Todo) → n ≡ params source r → AtDrop g source D B S (CalledAt g r m) todo → AtDrop g source D B S (CalledBy g r (rests (params source r) (anys n (At m ∷ ms)))) todo
    called_at n r m ms todo e h =
        subst (λ k. AtDrop g source D B S (CalledBy g r (rests k (anys n (At m ∷ ms)))) todo) e (subst (λ ns. AtDrop g source D B S (CalledBy g r ns) todo) (sym (rests_anys n (At m ∷ ms))) h)

    -- a made object takes the place of its place below the arguments
    pub made_on : (n r : ℕ) (ms : List Mark) (todo : List Todo) → n ≡ params source r → Ok g source D B S (Any ∷ ms) todo → Ok g source D B S (Any ∷ rests (suc (params source r)) (anys (suc (params source r)) (rests (suc (params source r)) (anys n (Any ∷ ms))))) todo
    made_on n r ms todo e h =
        let k = params source r in
        let below_it : rests (suc k) (anys n (Any ∷ ms)) ≡ ms = subst (λ m. rest (rests m (anys n (Any ∷ ms))) ≡ ms) e (ap rest (rests_anys n (Any ∷ ms))) in
        subst (λ ns. Ok g source D B S (Any ∷ ns) todo) (sym (rests_anys (suc k) (rests (suc k) (anys n (Any ∷ ms))) ∙ below_it)) h
