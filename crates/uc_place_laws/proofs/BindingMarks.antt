-- Marks and operands, and to-do lists that are left.
use Rattle.std.proofs.Common.{◌≡◌, ℕ, zero, suc, ◌⊎◌, inl, inr, List, [], ◌∷◌, drop, Some, refl, sym, ap, ◌∙◌, subst}
use Rattle.std.specs.Prelude.{Bool, true, slice_set}
use Rattle.uc_tree.specs.Source as src
use Rattle.uc_tree.specs.Source.{Expr, Exprs, Source, CleanUp, Stmt, Stmts}
use Rattle.uc_machine.specs.declared.exec.Exec.{Exec}
use Rattle.uc_machine.specs.declared.exec.Owner.{Owner}
use Rattle.uc_machine.specs.Pieces as piece
use Rattle.uc_machine.specs.Pieces.{Value, Object, Todo, Sort, Active, sort, top, below}
use Rattle.uc_state_laws.specs.Ordinary.{Ordinary, IsNew}
use Rattle.uc_state_laws.specs.Rooms.{Room, LiesAt, Destroyed, Lies, OwnAt, OwnPart}
use Rattle.uc_state_laws.specs.RoomStates.{Reached, TodoIn, IsBefore}
use Rattle.uc_state_laws.specs.Opening.{Builds, Destroying, is_numbered, IsEndOf, ScopeOpens, OpenStmts}
use Rattle.uc_state_laws.proofs.ScopeSteps.{all_before}
use Rattle.uc_state_laws.specs.Counted.{params}
use Rattle.uc_place_laws.specs.NamedResting.{AllWait}
use Rattle.uc_place_laws.specs.Placed.{IsPlace, IsObject, Mark, Any, Named, Thing, Meets, Holds, OfNamed, IsThing, IsTold, IsMaking, rest, rests, anys, Behind, EndsIt, EndsEach, OpensFor, OfPlace, Opened, OpenedEach, OpenedBy, Next, NoneNext, Opening, ScopeFor, after, Ok, Left, Runs, Waits}

-- operands

module _ (o : Owner) (this : Value) where
  pub holds_below : (ms : List Mark) (vs : List Value) → Holds o this ms vs → Holds o this (rest ms) (below vs)
  holds_below [] vs h = tt
  holds_below (m ∷ ms) vs h = h.1

  pub holds_spread : (ms : List Mark) (vs : List Value) → Holds o this ms vs → Holds o this ms (top vs ∷ below vs)
  holds_spread [] vs h = tt
  holds_spread (m ∷ ms) vs h = h

  -- the number of a new object is what is known of it
  pub holds_told : (m : Mark) (k : ℕ) → IsTold m → Meets o this m (Object k)
  holds_told Any k h = tt
  holds_told (Named e) k h = absurd h
  holds_told Thing k h = refl

  pub holds_thing : (ms : List Mark) (vs : List Value) → Holds o this ms vs → IsThing ms → IsObject (top vs)
  holds_thing [] vs h k = absurd k
  holds_thing (Any ∷ ms) vs h k = absurd k
  holds_thing (Named e ∷ ms) vs h k = absurd k
  holds_thing (Thing ∷ ms) vs h k = h.0

drop_below : (n : ℕ) (vs : List Value) → drop (suc n) vs ≡ below (drop n vs)
drop_below zero [] = refl
drop_below zero (v ∷ vs) = refl
drop_below (suc n) [] = refl
drop_below (suc n) (v ∷ vs) = drop_below n vs

module _ (o : Owner) (this : Value) where
  pub holds_drop : (n : ℕ) (ms : List Mark) (vs : List Value) → Holds o this ms vs → Holds o this (rests n ms) (drop n vs)
  holds_drop zero ms [] h = h
  holds_drop zero ms (v ∷ vs) h = h
  holds_drop (suc n) ms vs h =
      subst (Holds o this (rest (rests n ms))) (sym (drop_below n vs)) (holds_below o this (rests n ms) (drop n vs) (holds_drop n ms vs h))

  -- so many operands of which nothing is known
  pub holds_anys : (n : ℕ) (ms : List Mark) (vs : List Value) → Holds o this ms (drop n vs) → Holds o this (anys n ms) vs
  holds_anys zero ms [] h = h
  holds_anys zero ms (v ∷ vs) h = h
  holds_anys (suc n) ms vs h = holds_anys n (Any ∷ ms) vs (tt, subst (Holds o this ms) (drop_below n vs) h)

pub rests_anys : (n : ℕ) (ms : List Mark) → rests n (anys n ms) ≡ ms
rests_anys zero ms = refl
rests_anys (suc n) ms = ap rest (rests_anys n (Any ∷ ms))

-- what is written to an operand leaves those below
pub drop_set : (n : ℕ) (v : Value) (vs : List Value) → drop (suc n) (slice_set vs n v) ≡ drop (suc n) vs
drop_set n v [] = refl
drop_set zero v (w ∷ vs) = refl
drop_set (suc n) v (w ∷ vs) = drop_set n v vs

-- places

pub new_place : (low : ℕ) (e : Expr) → IsNew low e → IsPlace e
new_place low (src.Variable k) h = tt
new_place low (src.Element n s e i) h = new_place low e h.0
new_place low (src.OfObject (src.OwnField s i)) h = tt
new_place low e h = absurd h

module _ (Sized : ℕ → ℕ → Type 0) where
  -- what may be being built in a room lies behind all that is in scope there
  pub new_behind : (o : Room) (e : Expr) (todo : List Todo) → IsNew o.low e → TodoIn Sized o todo → Behind Sized e todo
  new_behind o (src.Variable k) todo h t = all_before Sized o todo k h t
  new_behind o (src.Element n s e i) todo h t = new_behind o e todo h.0 t
  new_behind o (src.OfObject (src.OwnField s i)) todo h t = tt
  new_behind o e todo h t = absurd h

  -- and behind a piece that has nothing in scope
  pub behind_more : (p : Todo) (e : Expr) (todo : List Todo) → ((k : ℕ) → IsBefore Sized k (sort p)) → Behind Sized e todo → Behind Sized e (p ∷ todo)
  behind_more p (src.Variable k) todo f h = (f k, h)
  behind_more p (src.Element n s e i) todo f h = behind_more p e todo f h
  behind_more p (src.OfObject (src.OwnField s i)) todo f h = tt
  behind_more p e todo f h = absurd h

  pub behind_place : (e : Expr) (todo : List Todo) → Behind Sized e todo → IsPlace e
  behind_place (src.Variable k) todo h = tt
  behind_place (src.Element n s e i) todo h = behind_place e todo h
  behind_place (src.OfObject (src.OwnField s i)) todo h = tt
  behind_place e todo h = absurd h

-- scopes

pub next_by : (P : Stmts → Type 0) → ((ss : Stmts) → P ss) → (todo : List Todo) → Next P todo
next_by P f (piece.Rest ss ∷ todo) = f ss
next_by P f todo = tt

pub none_next : (P : Stmts → Type 0) (todo : List Todo) → NoneNext todo → Next P todo
none_next P (piece.Rest ss ∷ todo) h = absurd h
none_next P todo h = tt

-- what binds nothing opens nothing

abbrev pub BindsNone : Expr → Type 0
BindsNone e = OfPlace (λ Given p. ⊥) e

of_none : (P : Type 0 → Expr → Type 0) (e : Expr) → BindsNone e → OfPlace P e
of_none P (src.OfObject (src.Bind p e)) h = absurd h
of_none P (src.OfObject (src.MakeOn c r written p args)) h = absurd h
of_none P e h = tt

pub opening : (e : Expr) → BindsNone e → (todo : List Todo) → Opening e todo
opening e h (piece.DropNow ∷ (piece.Within line ∷ todo)) = next_by (Opened e) (λ ss. of_none (λ Given p. OpensFor (EndsIt Given p) ss) e h) todo
opening e h (piece.DropNow ∷ (piece.MoreNow ∷ (piece.FillNow n b d ∷ (piece.Within line ∷ todo)))) =
    next_by (OpenedEach n e) (λ ss. of_none (λ Given p. OpensFor (EndsEach Given n p) ss) e h) todo
opening e h todo = tt

ordinary_none : (e : Expr) → Ordinary e → BindsNone e
ordinary_none (src.OfObject (src.Bind p e)) h = absurd h
ordinary_none (src.OfObject (src.MakeOn c r written p args)) h = absurd h
ordinary_none e h = tt

pub ordinary_opening : (e : Expr) → Ordinary e → (todo : List Todo) → Opening e todo
ordinary_opening e h todo = opening e (ordinary_none e h) todo

destroyed_none : (Sized : ℕ → ℕ → Type 0) (lies : ℕ → Expr → Type 0) (e : Expr) → Destroyed Sized lies e → BindsNone e
destroyed_none Sized lies (src.OfObject (src.Bind p e)) h = absurd h
destroyed_none Sized lies (src.OfObject (src.MakeOn c r written p args)) h = absurd h
destroyed_none Sized lies e h = tt

abbrev pub ClosedClean : CleanUp → Type 0
ClosedClean (src.Destroys e) = BindsNone e
ClosedClean c = Unit {0}

abbrev pub ClosedBy : Sort → Type 0
ClosedBy (piece.IsClean c) = ClosedClean c
ClosedBy (piece.IsPart c) = ClosedClean c
ClosedBy k = Unit {0}

module _ (Sized : ℕ → ℕ → Type 0) where
  pub lies_closed : (low high : ℕ) (c : CleanUp) → Lies Sized low high c → ClosedClean c
  lies_closed low high (src.Destroys e) h = destroyed_none Sized (LiesAt Sized low high 1) e h
  lies_closed low high c h = tt

  part_closed : (c : CleanUp) → OwnPart Sized c → ClosedClean c
  part_closed (src.Destroys e) h = destroyed_none Sized (OwnAt Sized) e h
  part_closed c h = tt

  pub closed_by : (k : Sort) (x : Type 0) (o : Room) (ps : List Todo) → Reached Sized o k x (λ m. TodoIn Sized m ps) → ClosedBy k
  closed_by (piece.IsClean c) x o ps h = lies_closed h.0.low o.low c h.2.0
  closed_by (piece.IsPart c) x o ps h = part_closed c h.0
  closed_by k x o ps h = tt

-- a scope that opens behind what binds a place is of that

built_at : (a b q : Expr) → Builds (src.OfObject (src.Bind a b)) q → a ≡ q
built_at a (src.OfObject src.NewCluster) q h = h
built_at a (src.OfObject (src.NewProcessor e)) q h = h
built_at a b q h = absurd h

built_given : (a b q : Expr) → Builds (src.OfObject (src.Bind a b)) q → IsMaking b
built_given a (src.OfObject src.NewCluster) q h = tt
built_given a (src.OfObject (src.NewProcessor e)) q h = tt
built_given a b q h = absurd h

-- an expression that binds this place alone, to what is given there
record Binder (Given : Type 0) (x a : Expr) : Type 0 where
  at : (q : Expr) → Builds x q → a ≡ q
  given : (q : Expr) → Builds x q → Given
  numbered : is_numbered x ≡ true

module _ (Given : Type 0) (x a : Expr) (b : Binder Given x a) where
  ends_it : (d : Expr) → IsEndOf x d → Destroying d a × (is_numbered d ≡ true) × Given
  ends_it d k = (subst (Destroying d) (sym (b.at k.place k.built)) k.ended, sym k.alike ∙ b.numbered, b.given k.place k.built)

  opens_for : (line : ℕ) (ss : Stmts) → OpenStmts (Some (src.Evaluate line x)) ss → OpensFor (EndsIt Given a) ss
  opens_for line (src.Scoped (src.Destroys d) rest) h = scope h.0
    where
      scope : ScopeOpens (Some (src.Evaluate line x)) (src.Destroys d) → EndsIt Given a (src.Destroys d)
      scope (inl k) = inl (ends_it d k)
      scope (inr k) = inr k
  opens_for line (src.Built (src.Destroys d) rest) h = inl (ends_it d h.0)
  opens_for line ss h = tt

  -- so it is of an array, whose elements are ended as those that stand are where an event comes
  ends_each : (n m : ℕ) (d e : Expr) → (n ≡ m) × (d ≡ e) × IsEndOf x d → EndsEach Given n a (src.DestroysAll m e)
  ends_each n m d e k =
      let r : Destroying e a × (is_numbered e ≡ true) × Given = subst (λ y. Destroying y a × (is_numbered y ≡ true) × Given) k.1 (ends_it d k.2) in
      inl (k.0, r.0, r.1, r.2)

  opens_each : (line n : ℕ) (d : Expr) (ss : Stmts) → OpenStmts (Some (src.Fill line n x d)) ss → OpensFor (EndsEach Given n a) ss
  opens_each line n d (src.Scoped (src.DestroysAll m e) rest) h = scope h.0
    where
      scope : ScopeOpens (Some (src.Fill line n x d)) (src.DestroysAll m e) → EndsEach Given n a (src.DestroysAll m e)
      scope (inl k) = ends_each n m d e k
      scope (inr k) = inr k
  opens_each line n d (src.Built (src.DestroysAll m e) rest) h = ends_each n m d e h.0
  opens_each line n d ss h = tt

bound_at : (p e : Expr) → Binder (IsMaking e) (src.OfObject (src.Bind p e)) p
bound_at p e = record { at = built_at p e; given = built_given p e; numbered = refl }

made_at : (c r : ℕ) (written : Bool) (p : Expr) (args : Exprs) → Binder (Unit {0}) (src.OfObject (src.MakeOn c r written p args)) p
made_at c r written p args = record { at = λ q k. k; given = λ q k. tt; numbered = refl }

pub opened_by : (a : Stmt) (ss : Stmts) → OpenStmts (Some a) ss → OpenedBy a ss
opened_by (src.Evaluate line (src.OfObject (src.Bind p e))) ss h = opens_for (IsMaking e) _ p (bound_at p e) line ss h
opened_by (src.Evaluate line (src.OfObject (src.MakeOn c r written p args))) ss h = opens_for (Unit {0}) _ p (made_at c r written p args) line ss h
opened_by (src.Fill line n (src.OfObject (src.Bind p e)) d) ss h = opens_each (IsMaking e) _ p (bound_at p e) line n d ss h
opened_by (src.Fill line n (src.OfObject (src.MakeOn c r written p args)) d) ss h =
    opens_each (Unit {0}) _ p (made_at c r written p args) line n d ss h
opened_by a ss h = tt

-- behind the piece that binds stands what stands behind the expression

pub bound_scope : (p e : Expr) (todo : List Todo) → Opening (src.OfObject (src.Bind p e)) todo → ScopeFor (IsMaking e) p todo
bound_scope p e (piece.DropNow ∷ (piece.Within line ∷ todo)) h = h
bound_scope p e (piece.DropNow ∷ (piece.MoreNow ∷ (piece.FillNow n b d ∷ (piece.Within line ∷ todo)))) h = h
bound_scope p e todo h = tt

pub made_scope : (c r : ℕ) (written : Bool) (p : Expr) (args : Exprs) (todo : List Todo) → Opening (src.OfObject (src.MakeOn c r written p args)) todo → ScopeFor (Unit {0}) p todo
made_scope c r written p args (piece.DropNow ∷ (piece.Within line ∷ todo)) h = h
made_scope c r written p args (piece.DropNow ∷ (piece.MoreNow ∷ (piece.FillNow n b d ∷ (piece.Within line ∷ todo)))) h = h
made_scope c r written p args todo h = tt

-- and what is given there may be told otherwise

module _ (A B : Type 0) (f : A → B) (p : Expr) where
  ends_more : (c : CleanUp) → EndsIt A p c → EndsIt B p c
  ends_more (src.Destroys d) (inl k) = inl (k.0, k.1, f k.2)
  ends_more (src.Destroys d) (inr k) = inr k
  ends_more c k = tt

  each_more : (n : ℕ) (c : CleanUp) → EndsEach A n p c → EndsEach B n p c
  each_more n (src.DestroysAll m d) (inl k) = inl (k.0, k.1, k.2, f k.3)
  each_more n (src.DestroysAll m d) (inr k) = inr k
  each_more n c k = tt

  opens_more : (P Q : CleanUp → Type 0) → ((c : CleanUp) → P c → Q c) → (ss : Stmts) → OpensFor P ss → OpensFor Q ss
  opens_more P Q g (src.Scoped c rest) h = g c h
  opens_more P Q g (src.Built c rest) h = g c h
  opens_more P Q g ss h = tt

  next_more : (P Q : CleanUp → Type 0) → ((c : CleanUp) → P c → Q c) → (todo : List Todo) → Next (OpensFor P) todo → Next (OpensFor Q) todo
  next_more P Q g (piece.Rest ss ∷ todo) h = opens_more P Q g ss h
  next_more P Q g todo h = tt

  pub scope_more : (todo : List Todo) → ScopeFor A p todo → ScopeFor B p todo
  scope_more (piece.DropNow ∷ (piece.Within line ∷ todo)) h = next_more (EndsIt A p) (EndsIt B p) ends_more todo h
  scope_more (piece.DropNow ∷ (piece.MoreNow ∷ (piece.FillNow n b d ∷ (piece.Within line ∷ todo)))) h =
      next_more (EndsEach A n p) (EndsEach B n p) (each_more n) todo h
  scope_more todo h = tt

-- to-do lists that are left

module _ (Sized : ℕ → ℕ → Type 0) (source : Source) where
  -- an element is known by its name or not
  of_either : (ms : List Mark) (A Q : Type 0) (P : Expr → Type 0) → (A → Q) → ((e : Expr) → P e → Q) → A ⊎ OfNamed ms P → Q
  of_either ms A Q P f g (inl x) = f x
  of_either [] A Q P f g (inr y) = absurd y
  of_either (Any ∷ ms) A Q P f g (inr y) = absurd y
  of_either (Thing ∷ ms) A Q P f g (inr y) = absurd y
  of_either (Named e ∷ ms) A Q P f g (inr y) = g e y

  -- so is what is found
  each_way : (A B C Q : Type 0) → (A → Q) → (B → Q) → (C → Q) → A ⊎ (B ⊎ C) → Q
  each_way A B C Q f g h (inl x) = f x
  each_way A B C Q f g h (inr (inl x)) = g x
  each_way A B C Q f g h (inr (inr x)) = h x

  pub left : (ms : List Mark) (todo : List Todo) → Ok Sized source ms todo → Left Sized source todo
  left ms [] h = tt
  left ms (piece.Eval e ∷ todo) h =
      each_way (Ok Sized source (Any ∷ ms) todo) (IsPlace e × Ok Sized source (Named e ∷ ms) todo) (IsMaking e × Ok Sized source (Thing ∷ ms) todo) (Left Sized source todo) (λ x. left (Any ∷ ms) todo x) (λ x. left (Named e ∷ ms) todo x.1) (λ x. left (Thing ∷ ms) todo x.1) h.2
  left ms (piece.ElementNow n s ∷ todo) h =
      of_either (rest ms) (Ok Sized source (Any ∷ rest (rest ms)) todo) (Left Sized source todo) (λ e. (i : Expr) × IsPlace e × Ok Sized source (Named (src.Element n s e i) ∷ rest (rest ms)) todo) (λ x. left (Any ∷ rest (rest ms)) todo x) (λ e x. left (Named (src.Element n s e x.0) ∷ rest (rest ms)) todo x.2) h
  left ms (piece.BindNow ∷ todo) h = left (Any ∷ rest (rest ms)) todo h.1
  left ms (piece.MakeNow c r ∷ todo) h = left (anys (suc (params source r)) (rests (suc (params source r)) ms)) todo h.1
  left ms (piece.BindMadeNow c r ∷ todo) h = left (anys (suc (params source r)) (rests (suc (params source r)) (rest ms))) todo h.1
  left ms (piece.Do a ∷ todo) h = left [] todo h.2
  left ms (piece.Branch a b ∷ todo) h = left [] todo h.2
  left ms (piece.ChooseNow cs ∷ todo) h = left [] todo h.2
  left ms (piece.Exit w ∷ todo) h = h
  left ms (piece.Unwind ∷ todo) h = h
  left ms (piece.InLoop o t e b ∷ todo) h = h
  left ms (piece.InWhole ∷ todo) h = h.1
  left ms (piece.Clean c ∷ todo) h = h
  left ms (piece.ClusterNow ∷ todo) h = left (h.0 ∷ ms) todo h.2
  left ms (piece.ProcessorNow ∷ todo) h = left (h.0 ∷ rest ms) todo h.2
  left ms (piece.FillNow n b d ∷ todo) h = (h.0, h.2)
  left ms (piece.Sweep e ∷ todo) h = h
  left ms (piece.Part c ∷ todo) h = h
  left ms (piece.Guard hs ∷ todo) h = h
  left ms (piece.Finish ∷ todo) h = h.1
  left ms (piece.FinishCoroutine ∷ todo) h = h.1
  left ms (p ∷ todo) h = left (after source p ms) todo h.1

  -- what stands behind the first piece
  pub left_tail : (p : Todo) (todo : List Todo) → Left Sized source (p ∷ todo) → Left Sized source todo
  left_tail (piece.InLoop o t e b) todo h = left [] todo h.1
  left_tail piece.InWhole todo h = left [] todo h
  left_tail (piece.Clean c) todo h = left [] todo h.1
  left_tail (piece.FillNow n b d) todo h = left [] todo h.1
  left_tail (piece.Sweep e) todo h = left [] todo h.1
  left_tail (piece.Part c) todo h = left [] todo h.1
  left_tail (piece.Guard hs) todo h = left [] todo h.1
  left_tail piece.Finish todo h = left [] todo h
  left_tail piece.FinishCoroutine todo h = left [] todo h
  left_tail p todo h = h

  -- of activations that wait
  abbrev pub AllLeft : List Active → Type 0
  AllLeft [] = Unit {0}
  AllLeft (a ∷ cs) = Left Sized source a.control × AllLeft cs

  pub waits_left : (n : Exec) (cs : List Active) → AllWait (Runs Sized source) (Waits Sized source) n cs → AllLeft cs
  waits_left n [] h = tt
  waits_left n (a ∷ cs) h = (left (Any ∷ h.0.marks) a.control h.0.ok, waits_left n cs h.1)
