-- What stands in to-do lists that are in order, by what puts it there, and what handlers are found in them.
use Rattle.std.proofs.Common.{◌≡◌, ℕ, zero, suc, ◌⊎◌, inl, inr, Bool, true, false, ◌&&◌, List, [], ◌∷◌, length, Option, Some, None, refl, sym, ◌∙◌, subst, arith}
use Rattle.std.specs.Prelude.{nat_eq}
use Rattle.uc_tree.specs.Source as src
use Rattle.uc_tree.specs.Source.{Shape, Expr, Stmt, Stmts, Routine, Purpose, Order, Way, CleanUp, Handlers, Clauses, Raised, Item, Source}
use Rattle.uc_machine.specs.declared.exec.Home.{Home}
use Rattle.uc_machine.specs.declared.exec.UnwindReason.{UnwindReason}
use Rattle.uc_machine.specs.declared.exec.Visited.{Visited}
use Rattle.uc_machine.specs.Raising as raising
use Rattle.uc_machine.specs.Raising.{Handler, Found, Hit}
use Rattle.uc_machine.specs.Monitors as monitors
use Rattle.uc_machine.specs.Quiet as quiet
use Rattle.uc_machine.specs.Pieces as piece
use Rattle.uc_machine.specs.Pieces.{Todo, Sort, Active, object_in}
use Rattle.uc_depth_laws.proofs.Kept.{either}
use Rattle.uc_inner_laws.specs.Inner.{Part, Ground, InnerExpr, InnerMaybe, InnerItem, InnerClean, InnerRaised, InnerStmts, InnerStmt, InnerHandlers, InnerClauses}
use Rattle.uc_inner_laws.specs.Standing.{Mark, Any, IsNew, ground, Base, calm, over, LeftBy, Ok, Left, LeftAt, Backs}
use Rattle.uc_inner_laws.proofs.Marking as marks
use Rattle.uc_inner_laws.proofs.Marking.{Inside, inside_more, ground_inside, ground_made, marks_within, opened, LeftStands, AllLeft, backs_first}
use Rattle.uc_depth_laws.specs.Entering.{EndsMain}

module _ (part : ℕ → Part) (source : Source) (base : Base) where
  -- what is to do in a routine

  -- an activation that is waited for may end, and so does a main
  pub behind : (p : Purpose) (line : ℕ) → (base.waited ≡ true) ⊎ EndsMain p → Ok part source (calm base) [] (quiet.behind_body p line)
  behind src.TaskMain line e = (tt, (tt, refl))
  behind src.CoroutineMain line e = (tt, (tt, refl))
  behind src.Procedure line (inl w) = (tt, w)
  behind src.Procedure line (inr e) = absurd e
  behind src.Function line (inl w) = (tt, (tt, w))
  behind src.Function line (inr e) = absurd e
  behind src.Builder line (inl w) = w
  behind src.Builder line (inr e) = absurd e

  pub routine : (r : Routine) → (base.waited ≡ true) ⊎ EndsMain r.purpose → InnerStmts part source base.ground r.body → Ok part source base [] (quiet.routine_todo r)
  routine r e h = (subst (λ g. InnerStmts part source g r.body) (sym (nothing_known r.purpose r.line)) h, behind r.purpose r.line e)
    where
      nothing_known : (p : Purpose) (line : ℕ) → ground base.ground (quiet.behind_body p line) ≡ base.ground
      nothing_known src.TaskMain line = refl
      nothing_known src.CoroutineMain line = refl
      nothing_known src.Procedure line = refl
      nothing_known src.Function line = refl
      nothing_known src.Builder line = refl

  -- to-do lists

  pub starts : (cell : ℕ) (v : Option Expr) (todo : List Todo) → InnerMaybe part source (ground base.ground todo) v → Ok part source base [] todo → Ok part source base [] (quiet.starting cell v todo)
  starts cell None todo n h = h
  starts cell (Some e) todo n h = (tt, inl (n, inl (tt, h)))

  pub converts : (k : Shape) (ms : List Mark) (todo : List Todo) → Ok part source base (Any ∷ ms) todo → Ok part source base (Any ∷ ms) (quiet.converting k todo)
  converts src.Character ms todo h = (tt, h)
  converts src.Truth ms todo h = (tt, h)
  converts k ms todo h = h

  pub converts_ground : (k : Shape) (todo : List Todo) → ground base.ground (quiet.converting k todo) ≡ ground base.ground todo
  converts_ground src.Character todo = refl
  converts_ground src.Truth todo = refl
  converts_ground k todo = refl

  pub stepped : (e : Option Expr) (todo : List Todo) → InnerMaybe part source (ground base.ground todo) e → Ok part source base [] todo → Ok part source base [] (quiet.step_todo e todo)
  stepped None todo n h = h
  stepped (Some e) todo n h = (n, inl (tt, h))

  pub tested : (o : Order) (t : Expr) (e : Option Expr) (b : Stmt) (todo : List Todo) → InnerExpr part source (ground base.ground todo) t → InnerMaybe part source (ground base.ground todo) e → InnerStmt part source (ground base.ground todo) b → Ok part source (calm base) [] todo → Ok part source base [] (quiet.test_todo o t e b todo)
  tested src.TestFirst t e b todo k l m h = (k, inl ((k, l, m), h))
  tested src.BodyFirst t e b todo k l m h = (k, inl ((k, l, m), h))
  tested src.NoTest t e b todo k l m h = ((k, l, m), h)

  pub tested_ground : (o : Order) (t : Expr) (e : Option Expr) (b : Stmt) (todo : List Todo) → ground base.ground (quiet.test_todo o t e b todo) ≡ ground base.ground todo
  tested_ground src.TestFirst t e b todo = refl
  tested_ground src.BodyFirst t e b todo = refl
  tested_ground src.NoTest t e b todo = refl

  pub looped : (o : Order) (t : Expr) (e : Option Expr) (b : Stmt) (todo : List Todo) → InnerExpr part source (ground base.ground todo) t → InnerMaybe part source (ground base.ground todo) e → InnerStmt part source (ground base.ground todo) b → Ok part source (calm base) [] todo → Ok part source base [] (quiet.loop_todo o t e b todo)
  looped src.TestFirst t e b todo k l m h = (k, inl ((k, l, m), h))
  looped src.BodyFirst t e b todo k l m h = ((k, l, m), h)
  looped src.NoTest t e b todo k l m h = ((k, l, m), h)

  loop_left : (w : Way) (o : Order) (t : Expr) (e : Option Expr) (b : Stmt) (todo : List Todo) → InnerExpr part source (ground base.ground todo) t × InnerMaybe part source (ground base.ground todo) e × InnerStmt part source (ground base.ground todo) b → Ok part source (calm base) [] todo → Ok part source base [] (quiet.loop_left w o t e b todo)
  loop_left src.ToBreak o t e b todo n h = marks.lift part source base [] todo h
  loop_left src.ToContinue o t e b todo n h = (n, h)
  loop_left src.ToReturn o t e b todo n h = marks.left_calm part source base todo h
  loop_left src.ToEnd o t e b todo n h = marks.left_calm part source base todo h

  pub left_behind : (w : Way) (k : Sort) (todo : List Todo) → LeftAt part source base k todo → Ok part source base [] (quiet.left_behind w k todo)
  left_behind w piece.Simple todo h = h
  left_behind w (piece.IsLoop o t e b) todo h = loop_left w o t e b todo h.0 h.1
  left_behind w piece.IsWhole todo h = marks.lift part source base [] todo h
  left_behind w (piece.IsClean c) todo h = (h.0, marks.left part source (calm base) [] todo h.1)
  left_behind w (piece.IsFill m b d) todo h = marks.left_calm part source base todo h.1
  left_behind w (piece.IsSweep e) todo h = marks.left part source base [] todo h.1
  left_behind w (piece.IsPart c) todo h = marks.left_calm part source base todo h.1
  left_behind w (piece.IsGuard hs) todo h = marks.left_calm part source base todo h.1
  left_behind w piece.IsFinish todo h = (tt, h)
  left_behind w piece.IsFinishCoroutine todo h = (tt, h)

  pub filled : (b : Bool) (n : ℕ) (e d : Expr) (todo : List Todo) → InnerExpr part source (ground base.ground todo) e × InnerExpr part source (ground base.ground todo) d → Ok part source (calm base) [] todo → Ok part source base [] (quiet.fill_todo b n e d todo)
  filled false n e d todo k h = marks.lift part source base [] todo h
  filled true n e d todo k h = (k.0, inl (tt, (tt, (k, h))))

  -- an event is found before it is raised here
  pub raised : (r : Raised) (todo : List Todo) → InnerRaised part source (ground base.ground todo) r → Ok part source base (Any ∷ (Any ∷ (Any ∷ []))) todo → Ok part source base [] (raising.raised_todo r todo)
  raised (src.Plainly n) todo k h = (tt, inl (tt, inl (tt, inl h)))
  raised (src.BuiltAt n c e) todo k h = (tt, (k, inl (tt, (tt, inl (tt, inl (tt, inl h))))))
  raised (src.AgainFrom c) todo k h = (tt, inl (tt, inl (tt, inl h)))

  pub handled : (x : Handler) (todo : List Todo) → InnerStmts part source (ground base.ground todo) x.body → Ok part source (calm base) [] todo → Ok part source base [] (raising.handler_todo x todo)
  handled x todo k h = (tt, (tt, (tt, (tt, (tt, (tt, (k, (tt, h))))))))

  pub cleans : (c : CleanUp) (todo : List Todo) → InnerClean part source (ground base.ground todo) c → Ok part source base [] todo → Ok part source base [] (piece.clean_todo c todo)
  cleans (src.Destroys e) todo n h = (n, inl (tt, h))
  cleans (src.DestroysAll m e) todo n h = (tt, (n, h))
  cleans src.Unwinds todo n h = (tt, h)
  cleans src.Forgets todo n h = (tt, h)
  cleans src.Leaves todo n h = (tt, h)
  cleans src.Ends todo n h = (tt, h)
  cleans (src.Frees None) todo n h = (tt, h)
  cleans (src.Frees (Some r)) todo n h = (n.1, h)
  cleans (src.Restores k) todo n h = (tt, h)

  pub left_cleans : (c : CleanUp) (todo : List Todo) → InnerClean part source (ground base.ground todo) c → Ok part source base [] todo → Ok part source base [] (raising.left_todo c todo)
  left_cleans (src.Frees r) todo n h = (n.0, h)
  left_cleans c todo n h = cleans c todo n h

  pub branch : (k : ℕ) (cs : Clauses) (todo : List Todo) → InnerClauses part source (ground base.ground todo) cs → Ok part source (calm base) [] todo → Ok part source base [] (monitors.branch_todo k cs todo)
  branch k src.NoClauses todo n h = marks.lift part source base [] todo h
  branch k (src.Otherwise b) todo n h = either (Ok part source base []) (nat_eq k 0) (piece.Do b ∷ todo) todo (n, h) (marks.lift part source base [] todo h)
  branch zero (src.MoreClauses guard b cs) todo n h = branch zero cs todo n.2 h
  branch (suc zero) (src.MoreClauses guard b cs) todo n h = (n.1, h)
  branch (suc (suc k)) (src.MoreClauses guard b cs) todo n h = branch (suc k) cs todo n.2 h

  pub item : (i : Item) (todo : List Todo) → InnerItem part source (ground base.ground todo) i → Ok part source base [] todo → Ok part source base [] (quiet.item_todo i todo)
  item (src.Show f e) todo n h = (n, inl (tt, h))
  item (src.ShowText k) todo n h = (tt, h)

  pub item_value : (i : Item) (todo : List Todo) → InnerItem part source (ground base.ground todo) i → ((ms : List Mark) → Ok part source base ms todo) → Ok part source base [] (quiet.item_value i todo)
  item_value (src.Show f e) todo n h = (n, inl (h (Any ∷ [])))
  item_value (src.ShowText k) todo n h = h []

  pub item_piece : (i : Item) (todo : List Todo) → Ok part source base [] todo → Ok part source base [] (quiet.item_piece i ∷ todo)
  item_piece (src.Show f e) todo h = (tt, h)
  item_piece (src.ShowText k) todo h = (tt, h)

  pub polled : (o : Option UnwindReason) (ms : List Mark) (todo : List Todo) → Ok part source base ms todo → Ok part source base ms (monitors.leave_todo o todo)
  polled None ms todo h = (tt, h)
  polled (Some why) ms todo h = h

  -- a piece that prints an item changes nothing of what is known
  pub item_ground : (i : Item) (todo : List Todo) → ground base.ground (quiet.item_piece i ∷ todo) ≡ ground base.ground todo
  item_ground (src.Show f e) todo = refl
  item_ground (src.ShowText k) todo = refl

-- handlers

module _ (part : ℕ → Part) (source : Source) where
  -- the body of a handler, with what is known of its place
  abbrev pub OfHandler : Ground → Option Handler → Type 0
  OfHandler g None = Unit {0}
  OfHandler g (Some x) = InnerStmts part source g x.body

  pub handler_for : (g : Ground) (kind : Bool) (e : raising.Event) (hs : Handlers) → InnerHandlers part source g hs → OfHandler g (raising.handler_for kind e hs)
  handler_for g kind e src.NoHandlers h = tt
  handler_for g kind e (src.MoreHandlers resumes event cell line body others) h =
      either (OfHandler g) (raising.same_kind kind resumes && raising.takes event e) (Some (record { cell = cell; line = line; body = body })) (raising.handler_for kind e others) h.0 (handler_for g kind e others h.1)

  -- one that is found in a list, with what is known behind the activation
  pub record Body (base : Ground) (todo : List Todo) (body : Stmts) : Type 0 where
    pub place : Ground
    pub inner : InnerStmts part source place body
    pub inside : place.inside ≡ true → Inside base todo
    pub made : place.made ≡ true → base.made ≡ true

  abbrev pub OfHit : Ground → List Todo → Option Hit → Type 0
  OfHit base todo None = Unit {0}
  OfHit base todo (Some x) = Body base todo x.handler.body

  hit_more : (base : Ground) (p : Todo) (ps : List Todo) (o : Option Hit) → OfHit base ps o → OfHit base (p ∷ ps) o
  hit_more base p ps None h = tt
  hit_more base p ps (Some x) h = record { place = h.place; inner = h.inner; inside = λ i. inside_more base p ps (h.inside i); made = h.made }

  hit_or : (base : Ground) (p : Todo) (ps : List Todo) (x : Option Handler) (n : ℕ) (other : Option Hit) → OfHandler (ground base ps) x → OfHit base (p ∷ ps) other → OfHit base (p ∷ ps) (raising.hit_or x n other)
  hit_or base p ps None n other h k = k
  hit_or base p ps (Some x) n other h k = record {
    place = ground base ps;
    inner = h;
    inside = λ i. inside_more base p ps (ground_inside base ps i);
    made = λ i. sym (ground_made base ps) ∙ i;
  }

  hit_by : (base : Ground) (p : Todo) (ps : List Todo) (k : Sort) (n : ℕ) (e : raising.Event) (other : Option Hit) (l o c d : Type 0) → LeftBy part source (ground base ps) k l o c d → OfHit base (p ∷ ps) other → OfHit base (p ∷ ps) (raising.hit_by k n e other)
  hit_by base p ps (piece.IsGuard hs) n e other l o c d h k = hit_or base p ps (raising.handler_for true e hs) n other (handler_for (ground base ps) true e hs h.0) k
  hit_by base p ps s n e other l o c d h k = k

  hit_in : (base : Ground) (e : raising.Event) (todo : List Todo) → Left part source (opened base) todo → OfHit base todo (raising.hit_in e todo)
  hit_in base e [] h = tt
  hit_in base e (p ∷ ps) h =
      hit_by base p ps (piece.sort p) (raising.count_round ps) e (raising.hit_in e ps) (Left part source (opened base) ps) (Ok part source (opened base) [] ps) (Ok part source (calm (opened base)) [] ps) (Ok part source (over (opened base)) [] ps) h (hit_more base p ps (raising.hit_in e ps) (hit_in base e ps (marks.left_tail part source base p ps h)))

  within : (base : Ground) (n : ℕ) (todo : List Todo) → Left part source (opened base) todo → Left part source (opened base) (raising.within n todo)
  within base n [] h = refl
  within base n (p ∷ ps) h =
      either (Left part source (opened base)) (nat_eq (raising.count_round (p ∷ ps)) n) (p ∷ ps) (raising.within n ps) h (within base n ps (marks.left_tail part source base p ps h))

  hit_within : (base : Ground) (n : ℕ) (todo : List Todo) (o : Option Hit) → OfHit base (raising.within n todo) o → OfHit base todo o
  hit_within base n todo None h = tt
  hit_within base n todo (Some x) h = record { place = h.place; inner = h.inner; inside = λ i. by (h.inside i); made = h.made }
    where
      by : Inside base (raising.within n todo) → Inside base todo
      by (inl i) = inl i
      by (inr l) = let m = marks_within n todo in inr (omega (arith, l, m))

  module _ (h : Home) where
    -- one that is found from the newest of these activations on
    pub record Handles (cs : List Active) (f : Found) : Type 0 where
      pub place : Ground
      pub inner : InnerStmts part source place f.handler.body
      pub backed : place.inside ≡ true → Backs h (object_in f.this) cs
      pub thing : place.made ≡ true → IsNew h f.this

    abbrev pub OfFound : List Active → Option Found → Type 0
    OfFound cs None = Unit {0}
    OfFound cs (Some f) = Handles cs f

    found_more : (a : Active) (cs : List Active) (o : Option Found) → OfFound cs o → OfFound (a ∷ cs) o
    found_more a cs None k = tt
    found_more a cs (Some f) k = record { place = k.place; inner = k.inner; backed = λ i. inr (k.backed i); thing = k.thing }

    found_or : (x : Option Hit) (a : Active) (cs : List Active) (other : Option Found) → (l : LeftStands part source h a cs) → OfHit l.base.ground a.control x → OfFound (a ∷ cs) other → OfFound (a ∷ cs) (raising.found_or x a cs other)
    found_or None a cs other l k o = o
    found_or (Some x) a cs other l k o = record {
      place = k.place;
      inner = k.inner;
      backed = λ i. backs_first part source h a cs l.base.ground (object_in a.this) refl l.backed (k.inside i);
      thing = λ i. l.thing (k.made i);
    }

    pub seek : (v : Option Visited) (e : raising.Event) (cs : List Active) → AllLeft part source h cs → OfFound cs (raising.seek v e cs)
    seek None e [] k = tt
    seek (Some v) e [] k = tt
    seek None e (a ∷ cs) k =
        found_or (raising.hit_in e a.control) a cs (raising.seek a.handles e cs) k.0 (hit_in k.0.base.ground e a.control (marks.open_left part source k.0.base a.control k.0.left)) (found_more a cs (raising.seek a.handles e cs) (seek a.handles e cs k.1))
    seek (Some v) e (a ∷ cs) k =
        either (OfFound (a ∷ cs)) (nat_eq (length cs) v.level) (raising.found_or (raising.hit_in e (raising.within v.rest a.control)) a cs (raising.seek a.handles e cs)) (raising.seek (Some v) e cs) (found_or (raising.hit_in e (raising.within v.rest a.control)) a cs (raising.seek a.handles e cs) k.0 (hit_within k.0.base.ground v.rest a.control (raising.hit_in e (raising.within v.rest a.control)) (hit_in k.0.base.ground e (raising.within v.rest a.control) (within k.0.base.ground v.rest a.control (marks.open_left part source k.0.base a.control k.0.left)))) (found_more a cs (raising.seek a.handles e cs) (seek a.handles e cs k.1))) (found_more a cs (raising.seek (Some v) e cs) (seek (Some v) e cs k.1))
