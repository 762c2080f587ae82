-- What is an execution's own is no other's, and so is what stands in what its marks are for.
use Rattle.std.proofs.Common.{◌≡◌, ℕ, inl, inr, List, [], ◌∷◌, Option, Some, None, refl, sym, ◌∙◌, subst, ⊎_elim}
use Rattle.uc_tree.specs.Source as src
use Rattle.uc_tree.specs.Source.{CleanUp}
use Rattle.uc_entry.specs.declared.request.Request.TheVariants as ask
use Rattle.uc_machine.specs.declared.exec.Exec.{Exec}
use Rattle.uc_machine.specs.declared.exec.Home.{Home}
use Rattle.uc_machine.specs.declared.exec.Home.TheVariants as home
use Rattle.uc_machine.specs.declared.exec.Owner.TheVariants.{Frame, Fields}
use Rattle.uc_machine.specs.Executions.{Execution}
use Rattle.uc_machine.specs.Pieces as piece
use Rattle.uc_machine.specs.Pieces.{Link, Value, Number, Place, Running, Object, Nothing, further, Todo, Sort, Active, State, Env, Members}
use Rattle.uc_meaning.specs.Runs.{World}
use Rattle.uc_typing.specs.Typing.{Ty, Cell, Obj, Row, Table}
use Rattle.uc_life_laws.specs.Things.{Few, Within, itself, field, element, AtField, IsFor, Marks, InTodo, Stands, lies, inside}
use Rattle.uc_life_laws.specs.LifeStates.{SlotBy, ParkedBy, HandBy, MembersBy, EnvBy}
use Rattle.uc_life_laws.specs.Belonging.{Belongs, frame, fields, object}
use Rattle.uc_life_laws.specs.Marks.{Marked, Free, OfClean, OfSort, AllLone, LoneStack, LoneEx, Freed}
use Rattle.uc_life_laws.specs.Unmarked.{LawOwn, LawUnmarked, LoneWorld, Unmarked, HasOwnName}

pub law_own : LawOwn
law_own few n m (Place (Frame x d) p) (frame e) (frame f) = sym e ∙ f
law_own few n m (Place (Fields o) p) (fields h) (fields k) = law_own few n m (few.home o) h k
law_own few n m (Object o) (object h) (object k) = law_own few n m (few.home o) h k
law_own few n m (Number z) h _ = elim h [ ]
law_own few n m (Running x) h _ = elim h [ ]
law_own few n m Nothing h _ = elim h [ ]

module _ (t : Table) (few : Few) (n : Exec) where
  -- so is what lies in it
  pub further_own : (l : Link) (v : Value) → Belongs few n v → Belongs few n (further l v)
  further_own l (Place (Frame x d) p) (frame e) = frame e
  further_own l (Place (Fields o) p) (fields h) = fields h
  further_own l (Object o) (object h) = fields h
  further_own l (Number z) h = elim h [ ]
  further_own l (Running x) h = elim h [ ]
  further_own l Nothing h = elim h [ ]

  within_own : (w : Value) (a : Ty) (v : Value) (b : Ty) → Belongs few n w → Within t w a v b → Belongs few n v
  within_own w a v b h itself = h
  within_own w a v b h (field {v = x} {c} k i f) = further_own _ x (within_own w a x (Obj c) h k)
  within_own w a v b h (element {v = x} {m} {b = e} k j l) = further_own _ x (within_own w a x (Row m e) h k)

  -- and in mutex objects that are at home there
  stands_own : (K : Value → Ty → Type 0) → ((w : Value) (a : Ty) → K w a → Belongs few n w) → (b : Ty) (v : Value) → Stands t few K b v → Belongs few n v
  stands_own K own b v (lies {w = w} {a} k h) = within_own w a v b (own w a k) h
  stands_own K own b v (inside {o = o} {c} m k h) =
      within_own (Object o) (Obj c) v b (object (stands_own K own (Cell (Obj c)) (few.home o) k)) h

  -- what a mark is for: a variable of the execution, or a field of what is its own
  module _ (f : ℕ) (this : Value) (older : List Active) where
    abbrev At : CleanUp → Value → Ty → Type 0
    At c w a = AtField t (Frame n f) this c w a

    field_own : (c : CleanUp) (todo : List Todo) → OfClean t few n f this older c todo → (w : Value) (a : Ty) → At c w a → Belongs few n w
    field_own src.Ends todo h w a k = absurd k.2
    field_own (src.Frees r) todo h w a k = absurd k.2
    field_own c todo h w a k = subst (Belongs few n) (sym k.3) (further_own _ this (h.0 w a k))

    mark_own : (c : CleanUp) (todo : List Todo) → OfClean t few n f this older c todo → (w : Value) (a : Ty) → IsFor t (Frame n f) this c w a → Belongs few n w
    mark_own c todo h w a (inl k) = subst (Belongs few n) (sym k.2) (frame refl)
    mark_own c todo h w a (inr k) = field_own c todo h w a k

    sort_own : (s : Sort) (todo : List Todo) (R Q : Type 0) (w : Value) (a : Ty) → OfSort t few n f this older s todo R → (R → Q → Belongs few n w) → Marks (IsFor t (Frame n f) this) At s w a Q → Belongs few n w
    sort_own (piece.IsClean c) todo R Q w a h next (inl k) = mark_own c todo h.0 w a k
    sort_own (piece.IsClean c) todo R Q w a h next (inr k) = next h.1 k
    sort_own (piece.IsPart c) todo R Q w a h next (inl k) = field_own c todo h.0 w a k
    sort_own (piece.IsPart c) todo R Q w a h next (inr k) = next h.1 k
    sort_own piece.Simple todo R Q w a h next k = next h k
    sort_own (piece.IsLoop x y z q) todo R Q w a h next k = next h k
    sort_own piece.IsWhole todo R Q w a h next k = next h k
    sort_own (piece.IsFill x y z) todo R Q w a h next k = next h k
    sort_own (piece.IsSweep x) todo R Q w a h next k = next h k
    sort_own (piece.IsGuard x) todo R Q w a h next k = next h k
    sort_own piece.IsFinish todo R Q w a h next k = next h k
    sort_own piece.IsFinishCoroutine todo R Q w a h next k = next h k

    by_sort : (p : Todo) (todo : List Todo) → AllLone t few n f this older (p ∷ todo) → OfSort t few n f this older (piece.sort p) todo (AllLone t few n f this older todo)
    by_sort piece.GoneNow todo h = h.1
    by_sort piece.GiveUpNow todo h = h.1
    by_sort p todo h = h

    todo_own : (todo : List Todo) → AllLone t few n f this older todo → (w : Value) (a : Ty) → InTodo (IsFor t (Frame n f) this) At todo w a → Belongs few n w
    todo_own [] h w a k = absurd k
    todo_own (p ∷ todo) h w a k =
        sort_own (piece.sort p) todo _ _ w a (by_sort p todo h) (λ r q. todo_own todo r w a q) k

  stack_own : (cs : List Active) → LoneStack t few n cs → (w : Value) (a : Ty) → Marked t n cs w a → Belongs few n w
  stack_own [] h w a k = absurd k
  stack_own (c ∷ older) h w a (inl k) = todo_own c.frame c.this older c.control h.0 w a k
  stack_own (c ∷ older) h w a (inr k) = stack_own older h.1 w a k

-- executions that do not run
module _ (P Q R : Exec → Execution (List Todo) Value → Type 0) (f : (n : Exec) (x : Execution (List Todo) Value) → P n x → Q n x → R n x) where
  slot_both : (n : Exec) (o : Option (Execution (List Todo) Value)) → SlotBy P n o → SlotBy Q n o → SlotBy R n o
  slot_both n None h k = tt
  slot_both n (Some x) h k = f n x h k

  parked_both : (h : Home) (ps : List (ℕ × Option (Execution (List Todo) Value))) → ParkedBy P h ps → ParkedBy Q h ps → ParkedBy R h ps
  parked_both h [] x y = tt
  parked_both h (p ∷ ps) x y = (slot_both _ p.1 x.0 y.0, parked_both h ps x.1 y.1)

  hand_both : (ps : List (ℕ × Members)) → HandBy P ps → HandBy Q ps → HandBy R ps
  hand_both [] x y = tt
  hand_both (p ∷ ps) x y = (parked_both (home.Object p.0) p.1.parked x.0 y.0, hand_both ps x.1 y.1)

  members_both : (h : Home) (m : Option Members) → MembersBy P h m → MembersBy Q h m → MembersBy R h m
  members_both h None x y = tt
  members_both h (Some m) x y = parked_both h m.parked x y

  env_both : (e : Env) → EnvBy P e → EnvBy Q e → EnvBy R e
  env_both e x y = record { house = parked_both (home.Task e.own) e.house.parked x.house y.house; hand = hand_both e.hand x.hand y.hand }

module _ (t : Table) (few : Few) (x : World) (u o : ℕ) (world : LoneWorld t few x) (name : HasOwnName t u x) (freed : Freed t few (ask.Gone o) (x.tasks u)) where
  abbrev runner : Exec
  runner = (x.tasks u).env.exec

  -- whoever has a mark around the object is who runs
  owner : (n : Exec) (cs : List Active) → LoneStack t few n cs → (c : ℕ) → Stands t few (Marked t n cs) (Cell (Obj c)) (few.home o) → n ≡ runner
  owner n cs h c k =
      law_own few n runner (few.home o) (stands_own t few n (Marked t n cs) (stack_own t few n cs h) (Cell (Obj c)) (few.home o) k) freed.0

  resting : (n : Exec) (y : Execution (List Todo) Value) → LoneEx t few n y → (n ≡ runner → ⊥) → Free t few o (Marked t n (y.run ∷ y.callers))
  resting n y h other c k = other (owner n (y.run ∷ y.callers) h c k)

  abbrev None_there : ℕ → Type 0
  None_there v = Free t few o (Marked t (x.tasks v).env.exec ((x.tasks v).run ∷ (x.tasks v).callers))

  nothing : (K : Value → Ty → Type 0) → ((w : Value) (a : Ty) → K w a → ⊥) → (b : Ty) (v : Value) → Stands t few K b v → ⊥
  nothing K none b v (lies {w = w} {a} k h) = none w a k
  nothing K none b v (inside {o = q} {c} m k h) = nothing K none (Cell (Obj c)) (few.home q) k

  running : (v : ℕ) → None_there v
  running v c k =
      ⊎_elim
      (λ e. subst None_there (sym e) freed.1 c k)
      (λ none. nothing (Marked t (x.tasks v).env.exec ((x.tasks v).run ∷ (x.tasks v).callers)) none (Cell (Obj c)) (few.home o) k)
      (name.running v (owner (x.tasks v).env.exec ((x.tasks v).run ∷ (x.tasks v).callers) (world.tasks v).stack c k))

  pub unmarked : Unmarked t few o x
  unmarked = record {
    running = running;
    tasks = λ v. env_both (LoneEx t few) _ _ resting (x.tasks v).env (world.tasks v).env (name.tasks v);
    homes = λ q. members_both (LoneEx t few) _ _ resting (home.Object q) (x.homes q) (world.homes q) (name.homes q);
  }

pub law_unmarked : LawUnmarked
law_unmarked t few x u o world name freed = unmarked t few x u o world name freed
