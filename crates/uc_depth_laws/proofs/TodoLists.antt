-- What stands in to-do lists in which objects are entered by their calls, and how many marks they have, by what puts it there.
use Rattle.std.proofs.Common.{◌≡◌, ℕ, zero, suc, ◌≤◌, Bool, true, false, ◌&&◌, List, [], ◌∷◌, length, Option, Some, None, refl, ap, arith}
use Rattle.std.specs.Prelude.{nat_eq}
use Rattle.uc_tree.specs.Source as src
use Rattle.uc_tree.specs.Source.{Source, Shape, Expr, Stmt, Routine, Purpose, Order, Way, CleanUp, Handlers, Clauses, Raised, Item}
use Rattle.uc_machine.specs.declared.exec.UnwindReason.{UnwindReason}
use Rattle.uc_machine.specs.declared.exec.Visited.{Visited}
use Rattle.uc_machine.specs.Raising as raising
use Rattle.uc_machine.specs.Raising.{Event, Handler, Found, Hit}
use Rattle.uc_machine.specs.Monitors as monitors
use Rattle.uc_machine.specs.Quiet as quiet
use Rattle.uc_machine.specs.Pieces as piece
use Rattle.uc_machine.specs.Pieces.{Value, Todo, Sort, Active}
use Rattle.uc_depth_laws.specs.Entering.{Aspect, New, Other, lets_go, holds_object, EnteredExpr, EnteredMaybe, EnteredItem, EnteredClean, EnteredRaised, EnteredStmt, EnteredStmts, EnteredBody, EnteredHandlers, EnteredClauses}
use Rattle.uc_depth_laws.specs.Owing.{owes, more, marks, Any, Skipped, next, is_told, EnteredScope, Allowed, Entered, AllEntered, Engaged, owed_ex, Done}
use Rattle.uc_depth_laws.proofs.Depths.{more_least, still, counted_least, counted_none, any_skipped, call_skipped, stmts_of}
use Rattle.uc_depth_laws.proofs.Kept.{either}

-- what stands first in a list with so many marks
pub record Ok (source : Source) (told : Aspect → Bool) (n : ℕ) (todo : List Todo) : Type 0 where
  pub list : Entered source told Any todo
  pub few : marks todo ≤ n

-- of which the first piece is done next
pub record OkDone (source : Source) (told : Aspect → Bool) (n : ℕ) (todo : List Todo) : Type 0 where
  pub list : Entered source told Done todo
  pub few : marks todo ≤ n

module _ (source : Source) where
  -- handlers

  abbrev pub HandlerEntered : Option Handler → Type 0
  HandlerEntered None = Unit {0}
  HandlerEntered (Some x) = EnteredStmts source x.body

  abbrev pub HitEntered : Option Hit → Type 0
  HitEntered None = Unit {0}
  HitEntered (Some x) = EnteredStmts source x.handler.body

  abbrev pub FoundEntered : Option Found → Type 0
  FoundEntered None = Unit {0}
  FoundEntered (Some x) = EnteredStmts source x.handler.body

  pub handler_for : (kind : Bool) (e : Event) (hs : Handlers) → EnteredHandlers source hs → HandlerEntered (raising.handler_for kind e hs)
  handler_for kind e src.NoHandlers h = tt
  handler_for kind e (src.MoreHandlers resumes event cell line body rest) h =
      either HandlerEntered (raising.same_kind kind resumes && raising.takes event e) (Some (record { cell = cell; line = line; body = body })) (raising.handler_for kind e rest) h.0 (handler_for kind e rest h.1)

  hit_or : (x : Option Handler) (n : ℕ) (other : Option Hit) → HandlerEntered x → HitEntered other → HitEntered (raising.hit_or x n other)
  hit_or None n other h k = k
  hit_or (Some x) n other h k = h

  found_or : (x : Option Hit) (a : Active) (cs : List Active) (other : Option Found) → HitEntered x → FoundEntered other → FoundEntered (raising.found_or x a cs other)
  found_or None a cs other h k = k
  found_or (Some x) a cs other h k = h

module _ (source : Source) (told : Aspect → Bool) where
  -- what is to do in a routine

  pub behind : (p : Purpose) (line : ℕ) → Ok source told 0 (quiet.behind_body p line)
  behind src.TaskMain line = record { list = (tt, (tt, tt)); few = omega arith }
  behind src.CoroutineMain line = record { list = (tt, (tt, tt)); few = omega arith }
  behind src.Procedure line = record { list = (tt, tt); few = omega arith }
  behind src.Function line = record { list = (tt, (tt, tt)); few = omega arith }
  behind src.Builder line = record { list = tt; few = omega arith }

  -- what a piece is for one who leaves it

  abbrev pub SortEntered : Sort → List Todo → Type 0
  SortEntered piece.Simple todo = Entered source told Skipped todo
  SortEntered (piece.IsLoop o t e b) todo = (EnteredExpr source t × EnteredMaybe source e × EnteredStmt source b) × Entered source told Any todo
  SortEntered (piece.IsClean c) todo = EnteredScope source told c × Entered source told Any todo
  SortEntered (piece.IsFill n b d) todo = (EnteredExpr source b × EnteredExpr source d) × Entered source told Any todo
  SortEntered (piece.IsSweep e) todo = EnteredExpr source e × Entered source told Any todo
  SortEntered (piece.IsPart c) todo = ((lets_go c ≡ false) × EnteredClean source c) × Entered source told Any todo
  SortEntered (piece.IsGuard hs) todo = EnteredHandlers source hs × Entered source told Any todo
  SortEntered k todo = Unit {0} × Entered source told Any todo

  pub sorted : (p : Todo) (todo : List Todo) → Allowed source told Skipped p → Entered source told (next p) todo → SortEntered (piece.sort p) todo
  sorted (piece.InLoop o t e b) todo n h = (n, h)
  sorted piece.InWhole todo n h = (tt, h)
  sorted (piece.Clean c) todo n h = (n, h)
  sorted (piece.FillNow k b d) todo n h = (n, h)
  sorted (piece.Sweep e) todo n h = (n, h)
  sorted (piece.Part c) todo n h = (n, h)
  sorted (piece.Guard hs) todo n h = (n, h)
  sorted piece.Finish todo n h = (tt, h)
  sorted piece.FinishCoroutine todo n h = (tt, h)
  sorted piece.Unwind todo n h = h
  sorted (piece.Exit w) todo n h = h
  sorted (piece.EnterNow m r) todo n h = call_skipped source told r todo h
  sorted (piece.MakeNow c r) todo n h = call_skipped source told r todo h
  sorted (piece.BindMadeNow c r) todo n h = call_skipped source told r todo h
  sorted p todo n h = any_skipped source told todo h

  -- whether one who leaves it still has its mark
  abbrev pub sort_owes : Sort → Bool
  sort_owes (piece.IsClean c) = lets_go c
  sort_owes k = false

  sort_most : (p : Todo) (n : ℕ) → more (sort_owes (piece.sort p)) n ≤ more (owes p) n
  sort_most (piece.Clean c) n = omega arith
  sort_most (piece.Rest ss) n = more_least (holds_object ss) n
  sort_most piece.LeaveNow n = omega arith
  sort_most piece.GoneNow n = omega arith
  sort_most piece.MadeNow n = omega arith
  sort_most (piece.SpawnNow r) n = omega arith
  sort_most piece.GiveUpNow n = omega arith
  sort_most p n = omega arith

  pub sort_few : (p : Todo) (n m : ℕ) → more (owes p) n ≤ m → more (sort_owes (piece.sort p)) n ≤ m
  sort_few p n m l = let a = sort_most p n in omega (arith, a, l)

  hit_by : (k : Sort) (n : ℕ) (e : Event) (todo : List Todo) (other : Option Hit) → SortEntered k todo → HitEntered source other → HitEntered source (raising.hit_by k n e other)
  hit_by (piece.IsGuard hs) n e todo other h k = hit_or source (raising.handler_for true e hs) n other (handler_for source true e hs h.0) k
  hit_by s n e todo other h k = k

  -- what is left behind a piece, as behind an exit
  skipped_next : (p : Todo) (todo : List Todo) → Entered source told (next p) todo → Entered source told Skipped todo
  skipped_next piece.Unwind todo h = h
  skipped_next (piece.Exit w) todo h = h
  skipped_next (piece.EnterNow m r) todo h = call_skipped source told r todo h
  skipped_next (piece.MakeNow c r) todo h = call_skipped source told r todo h
  skipped_next (piece.BindMadeNow c r) todo h = call_skipped source told r todo h
  skipped_next p todo h = any_skipped source told todo h

  hit_in : (e : Event) (todo : List Todo) → Entered source told Skipped todo → HitEntered source (raising.hit_in e todo)
  hit_in e [] h = tt
  hit_in e (p ∷ ps) h = hit_by (piece.sort p) (raising.count_round ps) e ps (raising.hit_in e ps) (sorted p ps h.0 h.1) (hit_in e ps (skipped_next p ps h.1))

  within : (n : ℕ) (todo : List Todo) → Entered source told Skipped todo → Entered source told Skipped (raising.within n todo)
  within n [] h = tt
  within n (p ∷ ps) h = either (Entered source told Skipped) (nat_eq (raising.count_round (p ∷ ps)) n) (p ∷ ps) (raising.within n ps) h (within n ps (skipped_next p ps h.1))

  -- to-do lists

  module _ (n : ℕ) where
    pub starts : (cell : ℕ) (v : Option Expr) (todo : List Todo) → EnteredMaybe source v → Entered source told Any todo → marks todo ≤ n → Ok source told n (quiet.starting cell v todo)
    starts cell None todo k h l = record { list = h; few = l }
    starts cell (Some e) todo k h l = record { list = (tt, (k, (tt, h))); few = l }

    pub converts : (k : Shape) (todo : List Todo) → Entered source told Any todo → marks todo ≤ n → Ok source told n (quiet.converting k todo)
    converts src.Character todo h l = record { list = (tt, h); few = l }
    converts src.Truth todo h l = record { list = (tt, h); few = l }
    converts k todo h l = record { list = h; few = l }

    pub stepped : (e : Option Expr) (todo : List Todo) → EnteredMaybe source e → Entered source told Any todo → marks todo ≤ n → Ok source told n (quiet.step_todo e todo)
    stepped None todo k h l = record { list = h; few = l }
    stepped (Some e) todo k h l = record { list = (k, (tt, h)); few = l }

    pub tested : (o : Order) (t : Expr) (e : Option Expr) (b : Stmt) (todo : List Todo) → EnteredExpr source t → EnteredMaybe source e → EnteredStmt source b → Entered source told Any todo → marks todo ≤ n → Ok source told n (quiet.test_todo o t e b todo)
    tested src.TestFirst t e b todo x y z h l = record { list = (x, ((x, y, z), h)); few = l }
    tested src.BodyFirst t e b todo x y z h l = record { list = (x, ((x, y, z), h)); few = l }
    tested src.NoTest t e b todo x y z h l = record { list = ((x, y, z), h); few = l }

    pub looped : (o : Order) (t : Expr) (e : Option Expr) (b : Stmt) (todo : List Todo) → EnteredExpr source t → EnteredMaybe source e → EnteredStmt source b → Entered source told Any todo → marks todo ≤ n → Ok source told n (quiet.loop_todo o t e b todo)
    looped src.TestFirst t e b todo x y z h l = record { list = (x, ((x, y, z), h)); few = l }
    looped src.BodyFirst t e b todo x y z h l = record { list = ((x, y, z), h); few = l }
    looped src.NoTest t e b todo x y z h l = record { list = ((x, y, z), h); few = l }

    loop_left : (w : Way) (o : Order) (t : Expr) (e : Option Expr) (b : Stmt) (todo : List Todo) → EnteredExpr source t × EnteredMaybe source e × EnteredStmt source b → Entered source told Any todo → marks todo ≤ n → Ok source told n (quiet.loop_left w o t e b todo)
    loop_left src.ToBreak o t e b todo k h l = record { list = h; few = l }
    loop_left src.ToContinue o t e b todo k h l = record { list = (k, h); few = l }
    loop_left src.ToReturn o t e b todo k h l = record { list = (tt, any_skipped source told todo h); few = l }
    loop_left src.ToEnd o t e b todo k h l = record { list = (tt, any_skipped source told todo h); few = l }

    pub left_behind : (w : Way) (k : Sort) (todo : List Todo) → SortEntered k todo → more (sort_owes k) (marks todo) ≤ n → Ok source told n (quiet.left_behind w k todo)
    left_behind w piece.Simple todo h l = record { list = (tt, h); few = l }
    left_behind w (piece.IsLoop o t e b) todo h l = loop_left w o t e b todo h.0 h.1 l
    left_behind w piece.IsWhole todo h l = record { list = h.1; few = l }
    left_behind w (piece.IsClean c) todo h l = record { list = (h.0, (tt, any_skipped source told todo h.1)); few = l }
    left_behind w (piece.IsFill m b d) todo h l = record { list = (tt, any_skipped source told todo h.1); few = l }
    left_behind w (piece.IsSweep e) todo h l = record { list = (tt, any_skipped source told todo h.1); few = l }
    left_behind w (piece.IsPart c) todo h l = record { list = (tt, any_skipped source told todo h.1); few = l }
    left_behind w (piece.IsGuard hs) todo h l = record { list = (tt, any_skipped source told todo h.1); few = l }
    left_behind w piece.IsFinish todo h l = record { list = (tt, h.1); few = l }
    left_behind w piece.IsFinishCoroutine todo h l = record { list = (tt, h.1); few = l }

    pub filled : (b : Bool) (m : ℕ) (e d : Expr) (todo : List Todo) → EnteredExpr source e × EnteredExpr source d → Entered source told Any todo → marks todo ≤ n → Ok source told n (quiet.fill_todo b m e d todo)
    filled false m e d todo k h l = record { list = h; few = l }
    filled true m e d todo k h l = record { list = (k.0, (tt, (tt, (k, h)))); few = l }

    pub raised : (r : Raised) (todo : List Todo) → EnteredRaised source r → Entered source told Any todo → marks todo ≤ n → Ok source told n (raising.raised_todo r todo)
    raised (src.Plainly m) todo k h l = record { list = (tt, (tt, (tt, h))); few = l }
    raised (src.BuiltAt m c e) todo k h l = record { list = (tt, (k, (tt, (tt, (tt, (tt, h)))))); few = l }
    raised (src.AgainFrom c) todo k h l = record { list = (tt, (tt, (tt, h))); few = l }

    pub handled : (x : Handler) (todo : List Todo) → EnteredStmts source x.body → Entered source told Any todo → marks todo ≤ n → Ok source told n (raising.handler_todo x todo)
    handled x todo k h l = record { list = (tt, (tt, (tt, (tt, (tt, (tt, (k, (tt, h)))))))); few = still source x.body (marks todo) n k l }

    pub cleans : (c : CleanUp) (todo : List Todo) → EnteredScope source told c → Entered source told Any todo → more (lets_go c) (marks todo) ≤ n → OkDone source told n (piece.clean_todo c todo)
    cleans (src.Destroys e) todo k h l = record { list = (k.0, (tt, h)); few = l }
    cleans (src.DestroysAll m e) todo k h l = record { list = (tt, (k.0, h)); few = l }
    cleans src.Unwinds todo k h l = record { list = (tt, h); few = l }
    cleans src.Forgets todo k h l = record { list = (tt, h); few = l }
    cleans src.Leaves todo k h l = record { list = (tt, h); few = l }
    cleans src.Ends todo k h l = record { list = (k.1 Other refl, h); few = l }
    cleans (src.Frees None) todo k h l = record { list = (k.1 New refl, h); few = l }
    cleans (src.Frees (Some r)) todo k h l = record { list = ((k.1 New refl, k.0.0), h); few = l }
    cleans (src.Restores c) todo k h l = record { list = (tt, h); few = l }

    pub left_cleans : (c : CleanUp) (todo : List Todo) → EnteredScope source told c → Entered source told Any todo → more (lets_go c) (marks todo) ≤ n → OkDone source told n (raising.left_todo c todo)
    left_cleans (src.Frees r) todo k h l = record { list = (k.1 New refl, h); few = l }
    left_cleans c todo k h l = cleans c todo k h l

    pub branch : (k : ℕ) (cs : Clauses) (todo : List Todo) → EnteredClauses source cs → Entered source told Any todo → marks todo ≤ n → Ok source told n (monitors.branch_todo k cs todo)
    branch k src.NoClauses todo x h l = record { list = h; few = l }
    branch k (src.Otherwise b) todo x h l = either (Ok source told n) (nat_eq k 0) (piece.Do b ∷ todo) todo (record { list = (x, h); few = l }) (record { list = h; few = l })
    branch zero (src.MoreClauses guard b cs) todo x h l = branch zero cs todo x.2 h l
    branch (suc zero) (src.MoreClauses guard b cs) todo x h l = record { list = (x.1, h); few = l }
    branch (suc (suc k)) (src.MoreClauses guard b cs) todo x h l = branch (suc k) cs todo x.2 h l

    pub item : (i : Item) (todo : List Todo) → EnteredItem source i → Entered source told Any todo → marks todo ≤ n → Ok source told n (quiet.item_todo i todo)
    item (src.Show f e) todo k h l = record { list = (k, (tt, h)); few = l }
    item (src.ShowText t) todo k h l = record { list = (tt, h); few = l }

    pub item_value : (i : Item) (todo : List Todo) → EnteredItem source i → Entered source told Any todo → marks todo ≤ n → Ok source told n (quiet.item_value i todo)
    item_value (src.Show f e) todo k h l = record { list = (k, h); few = l }
    item_value (src.ShowText t) todo k h l = record { list = h; few = l }

    pub item_piece : (i : Item) (todo : List Todo) → Entered source told Any todo → marks todo ≤ n → Ok source told n (quiet.item_piece i ∷ todo)
    item_piece (src.Show f e) todo h l = record { list = (tt, h); few = l }
    item_piece (src.ShowText t) todo h l = record { list = (tt, h); few = l }

    pub polled : (o : Option UnwindReason) (todo : List Todo) → Entered source told Any todo → marks todo ≤ n → Ok source told n (monitors.leave_todo o todo)
    polled None todo h l = record { list = (tt, h); few = l }
    polled (Some why) todo h l = record { list = h; few = l }

  -- what is to do in a routine has a mark where that holds its object
  pub routine_marks : (r : Routine) → marks (quiet.routine_todo r) ≤ more (holds_object r.body) 0
  routine_marks r =
      let x = behind r.purpose r.line in
      by (holds_object r.body) (marks (quiet.behind_body r.purpose r.line)) x.few
    where
      by : (c : Bool) (n : ℕ) → n ≤ 0 → more c n ≤ more c 0
      by true n l = omega (arith, l)
      by false n l = l

module _ (source : Source) (tells : Aspect → ℕ → Bool) where
  pub seek : (v : Option Visited) (e : Event) (cs : List Active) → AllEntered source tells cs → FoundEntered source (raising.seek v e cs)
  seek None e [] h = tt
  seek (Some v) e [] h = tt
  seek None e (a ∷ cs) h =
      found_or source (raising.hit_in e a.control) a cs (raising.seek a.handles e cs) (hit_in source (is_told tells a.this cs) e a.control (any_skipped source (is_told tells a.this cs) a.control h.0)) (seek a.handles e cs h.2)
  seek (Some v) e (a ∷ cs) h =
      either (FoundEntered source) (nat_eq (length cs) v.level) (raising.found_or (raising.hit_in e (raising.within v.rest a.control)) a cs (raising.seek a.handles e cs)) (raising.seek (Some v) e cs) (found_or source (raising.hit_in e (raising.within v.rest a.control)) a cs (raising.seek a.handles e cs) (hit_in source (is_told tells a.this cs) e (raising.within v.rest a.control) (within source (is_told tells a.this cs) v.rest a.control (any_skipped source (is_told tells a.this cs) a.control h.0))) (seek a.handles e cs h.2)) (seek (Some v) e cs h.2)

  -- a main that begins
  pub main_owes : (r : Routine) (this : Value) → holds_object r.body ≡ false → (q : ℕ) → owed_ex q (quiet.fresh r this) ≡ 0
  main_owes r this e q =
      let l = routine_marks source (λ k. false) r in
      let z : more (holds_object r.body) 0 ≡ 0 = ap (λ c. more c 0) e in
      let a = counted_least q this (marks (quiet.routine_todo r)) 0 (omega (arith, l, z)) in
      let c = counted_none q this in
      omega (arith, a, c)

  pub main_engaged : (r : Routine) (this : Value) → EnteredBody source r.body → holds_object r.body ≡ false → Engaged source tells (quiet.fresh r this)
  main_engaged r this n e =
      let l = routine_marks source (λ k. false) r in
      let z : more (holds_object r.body) 0 ≡ 0 = ap (λ c. more c 0) e in
      record { run = (stmts_of source r.body e n, (behind source (is_told tells this []) r.purpose r.line).list); one = omega (arith, l, z); callers = tt; engaged = omega (arith, l, z) }
