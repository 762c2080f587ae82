-- What is to do before which what is called is the execution's own: handlers that are found, and what comes in front of a to-do list.
use Rattle.std.proofs.Common.{◌≡◌, ℕ, zero, suc, ◌⊎◌, inl, inr, Bool, true, false, ◌&&◌, List, [], ◌∷◌, length, Option, Some, None, refl, sym, ap, subst}
use Rattle.std.specs.Prelude.{nat_eq}
use Rattle.uc_tree.specs.Source as src
use Rattle.uc_tree.specs.Source.{Shape, Expr, Stmt, Routine, Purpose, Order, Way, CleanUp, Handlers, Clauses, Raised, Item}
use Rattle.uc_machine.specs.declared.exec.Exec.{Exec}
use Rattle.uc_machine.specs.declared.exec.UnwindReason.{UnwindReason}
use Rattle.uc_machine.specs.declared.exec.Visited.{Visited}
use Rattle.uc_machine.specs.Switches.{Moved}
use Rattle.uc_machine.specs.Raising as raising
use Rattle.uc_machine.specs.Raising.{Handler, Found, Hit}
use Rattle.uc_machine.specs.Monitors as monitors
use Rattle.uc_machine.specs.Quiet as quiet
use Rattle.uc_machine.specs.Pieces as piece
use Rattle.uc_machine.specs.Pieces.{Value, Todo, Sort, Active, Env, at, below}
use Rattle.uc_state_laws.specs.Counted.{params, count, CountedClean, CountedStmts, CountedHandlers, CountedRaised, CountedAt}
use Rattle.uc_place_laws.specs.OlderResting.{AllWait, NamedEnv}
use Rattle.uc_place_laws.proofs.AsideKeeping as kept
use Rattle.uc_place_laws.proofs.AsideKeeping.{either}
use Rattle.uc_life_laws.specs.Ending.{Spot, OfVariable, OfField}
use Rattle.uc_putting_laws.specs.CleanedSpots.{Site, NoSite, AnySite, spot_of, Reach, apart, IsOutermost}
use Rattle.uc_putting_laws.specs.Calling.{CallsAt, EndsAt, EndsNumber, Evaluates, SweepsBy, CleansBy, Begins}
use Rattle.uc_putting_laws.specs.Putting.{Setting, Around, around, Mark, Any, rest, rests, anys, OpensRest, SeatAt, Counts, CodeMaybe, CodeItems, CodeStmt, CodeStmts, CodeHandlers, CodeClauses, CodeLoop, CodeSweep, CodeFill, IsLone, CodeScope, CodePart, made_marks, CallFits, LeftBy, Ok, Left, Runs, Waits}
use Rattle.uc_putting_laws.proofs.CleanedSpots.{apart_outermost, apart_class}
use Rattle.uc_putting_laws.proofs.Marks as marks
use Rattle.uc_putting_laws.proofs.Marks.{rests_anys, apart_wide, number_more, cleans_more, stmt_more, AllLeft}

module _ (g : Setting) where
  abbrev pub E : Env → Type 0
  E e = NamedEnv (Runs g) (Waits g) e

  abbrev pub W : Exec → List Active → Type 0
  W n cs = AllWait (Runs g) (Waits g) n cs

  pub calm : (n : Exec) (older : List Active) (a : Active) (w : Option UnwindReason) → Runs g n older a → Runs g n older (record a { raised = w })
  calm n older a w h = record { made = h.made; this = h.this; marks = h.marks; holds = h.holds; ok = h.ok }

  abbrev pub K : Env → Env → Type 0
  K e f = kept.Keeps (Runs g) (Waits g) calm e f

  abbrev pub M : Moved (List Todo) Value → Type 0
  M m = kept.NamedMoved (Runs g) (Waits g) calm m

  pub likes : {e f : Env} → E e → f.hand ≡ e.hand → f.house ≡ e.house → f.own ≡ e.own → E f
  likes h k i o = kept.like (Runs g) (Waits g) calm h k i o

  -- arguments are counted in handlers that run as activations of their own

  abbrev pub OfFound : Option Found → Type 0
  OfFound None = Unit {0}
  OfFound (Some x) = CountedStmts g.source x.handler.body

  abbrev pub OfHandler : Reach → Option Handler → Type 0
  OfHandler r None = Unit {0}
  OfHandler r (Some x) = CodeStmts g r x.body

  abbrev OfAlone : Option Handler → Type 0
  OfAlone None = Unit {0}
  OfAlone (Some x) = CountedStmts g.source x.body

  abbrev OfHit : Option Hit → Type 0
  OfHit None = Unit {0}
  OfHit (Some x) = CountedStmts g.source x.handler.body

  pub handler_for : (r : Reach) (kind : Bool) (e : raising.Event) (hs : Handlers) → CodeHandlers g r hs → OfHandler r (raising.handler_for kind e hs)
  handler_for r kind e src.NoHandlers h = tt
  handler_for r kind e (src.MoreHandlers resumes event cell line body others) h =
      either (OfHandler r) (raising.same_kind kind resumes && raising.takes event e) (Some (record { cell = cell; line = line; body = body })) (raising.handler_for kind e others) (h.0.0, h.1.0) (handler_for r kind e others (h.0.1, h.1.1))

  alone_for : (kind : Bool) (e : raising.Event) (hs : Handlers) → CountedHandlers g.source hs → OfAlone (raising.handler_for kind e hs)
  alone_for kind e src.NoHandlers h = tt
  alone_for kind e (src.MoreHandlers resumes event cell line body others) h =
      either OfAlone (raising.same_kind kind resumes && raising.takes event e) (Some (record { cell = cell; line = line; body = body })) (raising.handler_for kind e others) h.0 (alone_for kind e others h.1)

  hit_or : (x : Option Handler) (n : ℕ) (other : Option Hit) → OfAlone x → OfHit other → OfHit (raising.hit_or x n other)
  hit_or None n other h k = k
  hit_or (Some x) n other h k = h

  module _ (A : Around) (made : Reach) where
    abbrev pub LeftTo : List Todo → Type 0
    LeftTo todo = Left g A made todo

    -- what is known of a mark that is left
    hit_by : (k : Sort) (n : ℕ) (e : raising.Event) (ps : List Todo) (other : Option Hit) (l o : Type 0) → LeftBy g A made k ps l o → OfHit other → OfHit (raising.hit_by k n e other)
    hit_by (piece.IsGuard hs) n e ps other l o h k = hit_or (raising.handler_for true e hs) n other (alone_for true e hs h.0.0) k
    hit_by s n e ps other l o h k = k

    hit_in : (e : raising.Event) (todo : List Todo) → LeftTo todo → OfHit (raising.hit_in e todo)
    hit_in e [] h = tt
    hit_in e (p ∷ ps) h =
        hit_by (piece.sort p) (raising.count_round ps) e ps (raising.hit_in e ps) (LeftTo ps) (Ok g A made [] ps) h (hit_in e ps (marks.left_tail g A made p ps h))

    within : (n : ℕ) (todo : List Todo) → LeftTo todo → LeftTo (raising.within n todo)
    within n [] h = tt
    within n (p ∷ ps) h =
        either LeftTo (nat_eq (raising.count_round (p ∷ ps)) n) (p ∷ ps) (raising.within n ps) h (within n ps (marks.left_tail g A made p ps h))

  found_or : (x : Option Hit) (a : Active) (cs : List Active) (other : Option Found) → OfHit x → OfFound other → OfFound (raising.found_or x a cs other)
  found_or None a cs other h k = k
  found_or (Some x) a cs other h k = h

  pub seek : (n : Exec) (v : Option Visited) (e : raising.Event) (cs : List Active) → AllLeft g n cs → OfFound (raising.seek v e cs)
  seek n None e [] h = tt
  seek n (Some v) e [] h = tt
  seek n None e (a ∷ cs) h = found_or (raising.hit_in e a.control) a cs (raising.seek a.handles e cs) (hit_in (around n a cs) h.0.made e a.control h.0.rest) (seek n a.handles e cs h.1)
  seek n (Some v) e (a ∷ cs) h =
      either OfFound (nat_eq (length cs) v.level) (raising.found_or (raising.hit_in e (raising.within v.rest a.control)) a cs (raising.seek a.handles e cs)) (raising.seek (Some v) e cs) (found_or (raising.hit_in e (raising.within v.rest a.control)) a cs (raising.seek a.handles e cs) (hit_in (around n a cs) h.0.made e (raising.within v.rest a.control) (within (around n a cs) h.0.made v.rest a.control h.0.rest)) (seek n a.handles e cs h.1)) (seek n (Some v) e cs h.1)

  -- calls take as many operands as there are arguments

  -- a mark that lies below the arguments
  pub under : (P : List Mark → Type 0) (n r : ℕ) (ms : List Mark) → n ≡ params g.source r → P ms → P (rests (params g.source r) (anys n ms))
  under P n r ms e h = subst (λ k. P (rests k (anys n ms))) e (subst P (sym (rests_anys n ms)) h)

  below_on : (n r : ℕ) (m : Mark) (ms : List Mark) → n ≡ params g.source r → rests (suc (params g.source r)) (anys n (m ∷ ms)) ≡ ms
  below_on n r m ms e = subst (λ k. rest (rests k (anys n (m ∷ ms))) ≡ ms) e (ap rest (rests_anys n (m ∷ ms)))

  -- behind what has no parameters nothing lies between
  none_between : (r : ℕ) (P : List Mark → Type 0) (ms : List Mark) → 0 ≡ params g.source r → P ms → P (rests (params g.source r) ms)
  none_between r P ms e h = under P 0 r ms e h

  module _ (A : Around) (made : Reach) where
    abbrev pub Fits : List Mark → List Todo → Type 0
    Fits ms todo = Ok g A made ms todo

    abbrev pub CallsFit : ℕ → List Mark → List Todo → Type 0
    CallsFit r ms todo = CallFits g A made r ms todo

    pub left : (ms : List Mark) (todo : List Todo) → Fits ms todo → LeftTo A made todo
    left ms todo h = marks.left g A made ms todo h

    -- what is to do in a routine

    pub behind : (p : Purpose) (line : ℕ) → Fits [] (quiet.behind_body p line)
    behind src.TaskMain line = (tt, (tt, tt))
    behind src.CoroutineMain line = (tt, (tt, tt))
    behind src.Procedure line = (tt, tt)
    behind src.Function line = (tt, (tt, tt))
    behind src.Builder line = tt

    pub routine : (r : Routine) → CodeStmts g (apart made) r.body → Fits [] (quiet.routine_todo r)
    routine r h = (inl h, behind r.purpose r.line)

    -- to-do lists

    pub starts : (cell : ℕ) (v : Option Expr) (todo : List Todo) → CodeMaybe g v → Fits [] todo → Fits [] (quiet.starting cell v todo)
    starts cell None todo n h = h
    starts cell (Some e) todo n h = (tt, inl (tt, (n.0, inl (n.1, (tt, h)))))

    pub converts : (k : Shape) (ms : List Mark) (todo : List Todo) → Fits (Any ∷ ms) todo → Fits (Any ∷ ms) (quiet.converting k todo)
    converts src.Character ms todo h = (tt, h)
    converts src.Truth ms todo h = (tt, h)
    converts k ms todo h = h

    pub stepped : (e : Option Expr) (todo : List Todo) → CodeMaybe g e → Fits [] todo → Fits [] (quiet.step_todo e todo)
    stepped None todo n h = h
    stepped (Some e) todo n h = (n.0, inl (n.1, (tt, h)))

    abbrev pub F : Expr → Option Expr → Stmt → Type 0
    F t e b = CodeLoop g made t e b

    pub tested : (o : Order) (t : Expr) (e : Option Expr) (b : Stmt) (todo : List Todo) → F t e b → Fits [] todo → Fits [] (quiet.test_todo o t e b todo)
    tested src.TestFirst t e b todo n h = (n.0.0, inl (n.0.1, (n, h)))
    tested src.BodyFirst t e b todo n h = (n.0.0, inl (n.0.1, (n, h)))
    tested src.NoTest t e b todo n h = (n, h)

    pub looped : (o : Order) (t : Expr) (e : Option Expr) (b : Stmt) (todo : List Todo) → F t e b → Fits [] todo → Fits [] (quiet.loop_todo o t e b todo)
    looped src.TestFirst t e b todo n h = (n.0.0, inl (n.0.1, (n, h)))
    looped src.BodyFirst t e b todo n h = (n, h)
    looped src.NoTest t e b todo n h = (n, h)

    loop_left : (w : Way) (o : Order) (t : Expr) (e : Option Expr) (b : Stmt) (todo : List Todo) → F t e b → Fits [] todo → Fits [] (quiet.loop_left w o t e b todo)
    loop_left src.ToBreak o t e b todo n h = h
    loop_left src.ToContinue o t e b todo n h = (n, h)
    loop_left src.ToReturn o t e b todo n h = left [] todo h
    loop_left src.ToEnd o t e b todo n h = left [] todo h

    -- a way out in front of what is to do outwards of a scope
    outermost_past : (o : Option Spot) (w : Way) (todo : List Todo) → IsOutermost o todo → IsOutermost o (piece.Exit w ∷ todo)
    outermost_past None w todo h = tt
    outermost_past (Some (OfVariable k)) w todo h = tt
    outermost_past (Some (OfField s i)) w todo h = (tt, h)

    scope_past : (c : CleanUp) (w : Way) (todo : List Todo) → CodeScope g A made c todo → CodeScope g A made c (piece.Exit w ∷ todo)
    scope_past src.Ends w todo n = n
    scope_past (src.Frees r) w todo n = n
    scope_past c w todo n = (n.0, n.1, outermost_past (spot_of c) w todo n.2, n.3)

    pub left_behind : (w : Way) (k : Sort) (todo : List Todo) → LeftBy g A made k todo (LeftTo A made todo) (Fits [] todo) → Fits [] (quiet.left_behind w k todo)
    left_behind w piece.Simple todo h = h
    left_behind w (piece.IsLoop o t e b) todo h = loop_left w o t e b todo h.0 h.1
    left_behind w piece.IsWhole todo h = h
    left_behind w (piece.IsClean x) todo h = (scope_past x w todo h.0, left [] todo h.1)
    left_behind w (piece.IsFill m b d) todo h = left [] todo h.1
    left_behind w (piece.IsSweep e) todo h = left [] todo h.1
    left_behind w (piece.IsPart x) todo h = left [] todo h.1
    left_behind w (piece.IsGuard hs) todo h = left [] todo h.1
    left_behind w piece.IsFinish todo h = (tt, h)
    left_behind w piece.IsFinishCoroutine todo h = (tt, h)

    -- something may be built or destroyed at a site, with this to do
    abbrev pub Lones : List Todo → Site → Type 0
    Lones todo x = SeatAt g A made todo x

    any_number : (P : Site → Type 0) (e : Expr) → EndsNumber g.table g.source g.special made P e → EndsNumber g.table g.source g.special made AnySite e
    any_number P e h = number_more g.table g.source g.special made made (λ p i. i) P AnySite (λ x i y. tt) e h

    -- an expression that is evaluated by itself
    pub single : (e : Expr) (todo : List Todo) → Counts g e → Evaluates g.table g.source g.special made (Lones todo) e → Fits (Any ∷ []) todo → Fits [] (piece.Eval e ∷ todo)
    single e todo n (inl k) h = (n, inl (k, h))
    single e todo n (inr (inl k)) h = (n, inr (inl (k, h)))
    single e todo n (inr (inr (inl k))) h = (n, inr (inr (inr (inl (k, h)))))
    single e todo n (inr (inr (inr k))) h = (n, inr (inr (inr (inr (inr (inr (inr (inl (inl k, h)))))))))

    -- one that builds, and one that destroys an element
    pub filled : (b : Bool) (n : ℕ) (e d : Expr) (todo : List Todo) → CodeFill g made (Lones todo) e → CodeSweep g made (Lones todo) d → Fits [] todo → Fits [] (quiet.fill_todo b n e d todo)
    filled false n e d todo k q h = h
    filled true n e d todo (k, inl y) q h = (k, inr (inl (y, (tt, (tt, (((k, inl y), q), h))))))
    filled true n e d todo (k, inr (inl y)) q h = (k, inr (inr (inr (inl (y, (tt, (tt, (((k, inr (inl y)), q), h))))))))
    filled true n e d todo (k, inr (inr y)) q h = (k, inr (inr (inr (inr (inr (inr (inr (inl (inr y, (tt, (tt, (((k, inr (inr y)), q), h))))))))))))

    pub sweeps : (e : Expr) (todo : List Todo) → CodeSweep g made (Lones todo) e → Fits [] todo → Fits [] (piece.Eval e ∷ (piece.DropNow ∷ (piece.Sweep e ∷ todo)))
    sweeps e todo (k, inl y) h = (k, inr (inr (inr (inr (inr (inr (inr (inr (inr (inl (any_number (Lones todo) e y, (tt, ((k, inl y), h)))))))))))))
    sweeps e todo (k, inr (inl y)) h = (k, inr (inr (inr (inl (y, (tt, ((k, inr (inl y)), h)))))))
    sweeps e todo (k, inr (inr y)) h = (k, inr (inr (inr (inr (inr (inr (inr (inr (inl (inr y, (tt, ((k, inr (inr y)), h))))))))))))

    -- what a clean-up destroys, where nothing stands around what it ends at a spot
    destroys : (e : Expr) (todo : List Todo) → Counts g e → EndsNumber g.table g.source g.special made (Lones todo) e ⊎ (CallsAt g.table g.source g.special made (Lones todo) e ⊎ EndsAt g.table g.source g.special made (Lones todo) e) → Fits [] todo → Fits [] (piece.Eval e ∷ (piece.DropNow ∷ todo))
    destroys e todo n (inl k) h = (n, inr (inr (inr (inr (inr (inr (inr (inr (inr (inl (any_number (Lones todo) e k, (tt, h))))))))))))
    destroys e todo n (inr (inl k)) h = (n, inr (inr (inr (inl (k, (tt, h))))))
    destroys e todo n (inr (inr k)) h = (n, inr (inr (inr (inr (inr (inr (inr (inr (inl (inl k, (tt, h)))))))))))

    -- an event is built at such a site
    abbrev pub BuildsAt : Raised → (Site → Type 0) → Type 0
    BuildsAt (src.BuiltAt n c e) P = CallsAt g.table g.source g.special made P e
    BuildsAt r P = Unit {0}

    -- an event is found before it is raised
    pub raised : (r : Raised) (todo : List Todo) → CountedRaised g.source r → BuildsAt r (Lones todo) → Fits (Any ∷ (Any ∷ (Any ∷ []))) todo → Fits [] (raising.raised_todo r todo)
    raised (src.Plainly n) todo k q h = (tt, inl (tt, (tt, inl (tt, (tt, inl (tt, h))))))
    raised (src.BuiltAt n c e) todo k q h = (tt, (k, inr (inr (inr (inl (q, (tt, (tt, inl (tt, (tt, inl (tt, (tt, inl (tt, h)))))))))))))
    raised (src.AgainFrom c) todo k q h = (tt, inl (tt, (tt, inl (tt, (tt, inl (tt, h))))))

    pub counted_at : (r : Raised) → CountedAt g.source r → CountedRaised g.source r
    counted_at (src.Plainly n) h = tt
    counted_at (src.BuiltAt n c e) h = h.1
    counted_at (src.AgainFrom c) h = tt

    pub handled : (x : Handler) (todo : List Todo) → CodeStmts g (apart made) x.body → Fits [] todo → Fits [] (raising.handler_todo x todo)
    handled x todo k h = (tt, (tt, (tt, (tt, (tt, (tt, (inl k, (tt, h))))))))

    -- where nothing stands around what ends at a spot
    abbrev pub LoneFor : CleanUp → List Todo → Type 0
    LoneFor (src.Destroys e) todo = EndsNumber g.table g.source g.special made (Lones todo) e ⊎ (CallsAt g.table g.source g.special made (Lones todo) e ⊎ EndsAt g.table g.source g.special made (Lones todo) e)
    LoneFor (src.DestroysAll n e) todo = SweepsBy g.table g.source g.special made (Lones todo) e
    LoneFor c todo = Unit {0}

    abbrev CodeClean : CleanUp → List Todo → Type 0
    CodeClean src.Ends todo = made.builds ≡ true
    CodeClean src.Forgets todo = made.builds ≡ true
    CodeClean (src.Frees r) todo = Begins g.table g.source g.special r × IsLone g A todo × (made.builds ≡ true)
    CodeClean c todo = CountedClean g.source c

    code_clean : (c : CleanUp) (before todo : List Todo) → (IsLone g A before → IsLone g A todo) → CodeScope g A made c before → CodeClean c todo
    code_clean (src.Destroys e) before todo f n = n.0
    code_clean (src.DestroysAll m e) before todo f n = n.0
    code_clean src.Unwinds before todo f n = n.0
    code_clean src.Forgets before todo f n = n.1
    code_clean src.Leaves before todo f n = n.0
    code_clean src.Ends before todo f n = n
    code_clean (src.Frees r) before todo f n = (n.0, f n.1, n.2)
    code_clean (src.Restores k) before todo f n = n.0

    cleaned : (c : CleanUp) (todo : List Todo) → CodeClean c todo → LoneFor c todo → Fits [] todo → Fits [] (piece.clean_todo c todo)
    cleaned (src.Destroys e) todo n l h = destroys e todo n l h
    cleaned (src.DestroysAll m e) todo n l h = (tt, ((n, l), h))
    cleaned src.Unwinds todo n l h = (tt, h)
    cleaned src.Forgets todo n l h = (n, h)
    cleaned src.Leaves todo n l h = (tt, h)
    cleaned src.Ends todo n l h = (n, h)
    cleaned (src.Frees None) todo n l h = (n.1, h)
    cleaned (src.Frees (Some r)) todo n l h = ((n.0, n.1), h)
    cleaned (src.Restores k) todo n l h = (tt, h)

    -- a clean-up, before which something else may be to do now
    pub cleans : (c : CleanUp) (before todo : List Todo) → (IsLone g A before → IsLone g A todo) → CodeScope g A made c before → LoneFor c todo → Fits [] todo → Fits [] (piece.clean_todo c todo)
    cleans c before todo f n l h = cleaned c todo (code_clean c before todo f n) l h

    pub part_scope : (c : CleanUp) (todo : List Todo) → CodePart g made c todo → CodeScope g A made c todo
    part_scope (src.Destroys e) todo n = n
    part_scope (src.DestroysAll m e) todo n = n
    part_scope src.Unwinds todo n = n
    part_scope src.Forgets todo n = n
    part_scope src.Leaves todo n = n
    part_scope src.Ends todo n = absurd n.1
    part_scope (src.Frees r) todo n = absurd n.1
    part_scope (src.Restores k) todo n = n

    pub left_cleans : (c : CleanUp) (before todo : List Todo) → (IsLone g A before → IsLone g A todo) → CodeScope g A made c before → LoneFor c todo → Fits [] todo → Fits [] (raising.left_todo c todo)
    left_cleans (src.Frees r) before todo f n l h = (n.2, h)
    left_cleans c before todo f n l h = cleans c before todo f n l h

    -- the scope of a statement within others
    pub scope_more : (c : CleanUp) (todo : List Todo) → CountedClean g.source c → CleansBy g.table g.source g.special (apart made) c → CodeScope g A made c todo
    scope_more src.Ends todo n k = absurd k
    scope_more (src.Frees r) todo n k = absurd k
    scope_more c todo n k = (n, cleans_more g.table g.source g.special (apart made) made (apart_wide made) c k, apart_outermost g.table g.source g.special made c todo k, apart_class g.table g.source g.special made made.class c k)

    -- a statement of another one
    pub inner : (P : Site → Type 0) (a : Stmt) → CodeStmt g NoSite (apart made) a → CodeStmt g P made a
    inner P a h = (h.0, stmt_more g.table g.source g.special made NoSite P (λ p i z. absurd z) a h.1)

    pub branch : (k : ℕ) (cs : Clauses) (todo : List Todo) → CodeClauses g (apart made) cs → Fits [] todo → Fits [] (monitors.branch_todo k cs todo)
    branch k src.NoClauses todo n h = h
    branch k (src.Otherwise b) todo n h = either (Fits []) (nat_eq k 0) (piece.Do b ∷ todo) todo (inner (OpensRest g.table todo) b n, h) h
    branch zero (src.MoreClauses guard b cs) todo n h = branch zero cs todo (n.0.2, n.1.2) h
    branch (suc zero) (src.MoreClauses guard b cs) todo n h = (inner (OpensRest g.table todo) b (n.0.1, n.1.1), h)
    branch (suc (suc k)) (src.MoreClauses guard b cs) todo n h = branch (suc k) cs todo (n.0.2, n.1.2) h

    pub item : (i : Item) (is : List Item) (todo : List Todo) → CodeItems g (i ∷ is) → Fits [] todo → Fits [] (quiet.item_todo i todo)
    item (src.Show f e) is todo n h = (n.0.0, inl (n.1.0, (tt, h)))
    item (src.ShowText k) is todo n h = (tt, h)

    pub item_value : (i : Item) (is : List Item) (todo : List Todo) → CodeItems g (i ∷ is) → ((ms : List Mark) → Fits ms todo) → Fits [] (quiet.item_value i todo)
    item_value (src.Show f e) is todo n h = (n.0.0, inl (n.1.0, h (Any ∷ [])))
    item_value (src.ShowText k) is todo n h = h []

    pub item_piece : (i : Item) (todo : List Todo) → Fits [] todo → Fits [] (quiet.item_piece i ∷ todo)
    item_piece (src.Show f e) todo h = (tt, h)
    item_piece (src.ShowText k) todo h = (tt, h)

    pub polled : (o : Option UnwindReason) (ms : List Mark) (todo : List Todo) → Fits ms todo → Fits ms (monitors.leave_todo o todo)
    polled None ms todo h = (tt, h)
    polled (Some why) ms todo h = h

    -- calls

    pub called : (args : src.Exprs) (r : ℕ) (ms : List Mark) (todo : List Todo) → count args ≡ params g.source r → Fits (Any ∷ ms) todo → Fits (Any ∷ rests (params g.source r) (anys (count args) ms)) todo
    called args r ms todo e h = under (λ ns. Fits (Any ∷ ns) todo) (count args) r ms e h

    pub called_on : (n r : ℕ) (m : Mark) (ms : List Mark) (todo : List Todo) → n ≡ params g.source r → Fits (Any ∷ ms) todo → Fits (Any ∷ rests (suc (params g.source r)) (anys n (m ∷ ms))) todo
    called_on n r m ms todo e h = subst (λ ns. Fits (Any ∷ ns) todo) (sym (below_on n r m ms e)) h

    -- a made object takes the place of its place below the arguments: what is known of that
    pub made_on : (n r : ℕ) (m k : Mark) (ms : List Mark) (todo : List Todo) → n ≡ params g.source r → CallsFit r (anys (params g.source r) (k ∷ ms)) todo → Fits (Any ∷ ms) todo → CallsFit r (made_marks g r k (anys n (m ∷ ms))) todo × Fits (Any ∷ rests (suc (params g.source r)) (made_marks g r k (anys n (m ∷ ms)))) todo
    made_on n r m k ms todo e c h =
        let same : ms ≡ rests (suc (params g.source r)) (anys n (m ∷ ms)) = sym (below_on n r m ms e) in
        (subst (λ ns. CallsFit r (anys (params g.source r) (k ∷ ns)) todo) same c, called_on (params g.source r) r k (rests (suc (params g.source r)) (anys n (m ∷ ms))) todo refl (subst (λ ns. Fits (Any ∷ ns) todo) same h))
