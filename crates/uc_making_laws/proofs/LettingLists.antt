-- To-do lists in which nothing but the end of the activation stands behind what lets go of its object.
use Rattle.std.proofs.Common.{◌≡◌, ℕ, zero, suc, ◌<◌, ◌⊎◌, inl, inr, Bool, true, false, ◌&&◌, List, [], ◌∷◌, Option, Some, None, refl, sym, subst, arith}
use Rattle.std.specs.Prelude.{nat_eq, if◌then◌else◌}
use Rattle.uc_tree.specs.Source as src
use Rattle.uc_tree.specs.Source.{Shape, Expr, Stmt, Stmts, Order, Way, CleanUp, Handlers, Clauses, Raised, Item, Routine, Purpose}
use Rattle.uc_machine.specs.declared.exec.UnwindReason.{UnwindReason}
use Rattle.uc_machine.specs.Raising as raising
use Rattle.uc_machine.specs.Raising.{Event, Handler}
use Rattle.uc_machine.specs.Monitors as monitors
use Rattle.uc_machine.specs.Quiet as quiet
use Rattle.uc_machine.specs.Pieces as piece
use Rattle.uc_machine.specs.Pieces.{Todo, Sort}
use Rattle.uc_depth_laws.specs.Entering as entering
use Rattle.uc_depth_laws.specs.Owing.{owes, more, marks}
use Rattle.uc_life_laws.specs.Silent.{is_silent, IfSilent, AllSilent}
use Rattle.uc_life_laws.proofs.Cells.{either}
use Rattle.uc_making_laws.specs.LettingGo.{of_object, opens_object, lets_go, is_letting, BehindBy, SilentBehind, WaitsBy, RunsBy, IsClosed, AllClosed, LeavesAt}

-- what is to let go of an object is a mark of it

same_clean : (c : CleanUp) → of_object c ≡ true → entering.lets_go c ≡ true
same_clean src.Ends e = refl
same_clean (src.Frees r) e = refl
same_clean src.Leaves e = refl
same_clean c e = absurd (no e)
  where
    no : false ≡ true → ⊥
    no e = cc

same_stmts : (ss : Stmts) → opens_object ss ≡ true → entering.holds_object ss ≡ true
same_stmts (src.Scoped c rest) e = same_clean c e
same_stmts ss e = absurd (no e)
  where
    no : false ≡ true → ⊥
    no e = cc

lets_owes : (p : Todo) → lets_go p ≡ true → owes p ≡ true
lets_owes (piece.Rest ss) e = same_stmts ss e
lets_owes (piece.Clean c) e = same_clean c e
lets_owes piece.MadeNow e = refl
lets_owes (piece.SpawnNow r) e = refl
lets_owes piece.GoneNow e = refl
lets_owes piece.GiveUpNow e = refl
lets_owes p e = absurd (no e)
  where
    no : false ≡ true → ⊥
    no e = cc

one_more : (b : Bool) (n : ℕ) → 0 < n → 0 < more b n
one_more true n h = omega (arith, h)
one_more false n h = h

pub letting_marks : (todo : List Todo) → is_letting todo ≡ true → 0 < marks todo
letting_marks [] e = absurd (no e)
  where
    no : false ≡ true → ⊥
    no e = cc
letting_marks (p ∷ todo) e = by (lets_go p) refl (λ g. letting_marks todo g) e
  where
    by : (b : Bool) → lets_go p ≡ b → (is_letting todo ≡ true → 0 < marks todo) → (if b then true else is_letting todo) ≡ true → 0 < marks (p ∷ todo)
    by true f k g = subst (λ b. 0 < more b (marks todo)) (sym (lets_owes p f)) (omega (arith))
    by false f k g = one_more (owes p) (marks todo) (k g)

-- lists at which an activation only comes to its end

tail_by : (A : Type 0) (b : Bool) → IfSilent b A → A
tail_by A true h = h
tail_by A false h = absurd h

behind_by : (A B : Type 0) (b : Bool) → A → B → BehindBy b A B
behind_by A B true k l = k
behind_by A B false k l = l

pub silent_behind : (todo : List Todo) → AllSilent todo → SilentBehind todo
silent_behind [] h = tt
silent_behind (p ∷ todo) h =
    let k = tail_by (AllSilent todo) (is_silent p) h in
    behind_by (AllSilent todo) (SilentBehind todo) (lets_go p) k (silent_behind todo k)

ends_silent : (p : Purpose) (line : ℕ) → AllSilent (quiet.behind_body p line)
ends_silent src.TaskMain line = tt
ends_silent src.CoroutineMain line = tt
ends_silent src.Procedure line = tt
ends_silent src.Function line = tt
ends_silent src.Builder line = tt

-- a routine begins so
pub routine_behind : (r : Routine) → SilentBehind (quiet.routine_todo r)
routine_behind r = by (opens_object r.body)
  where
    by : (b : Bool) → BehindBy b (AllSilent (quiet.behind_body r.purpose r.line)) (SilentBehind (quiet.behind_body r.purpose r.line))
    by true = ends_silent r.purpose r.line
    by false = silent_behind (quiet.behind_body r.purpose r.line) (ends_silent r.purpose r.line)

module _ (C : Type 0) where
  -- who waits so may go on
  pub runs : (todo : List Todo) → WaitsBy C todo → RunsBy C todo
  runs todo h = (h.0, by h.1)
    where
      by : C ⊎ (is_letting todo ≡ true) → C ⊎ ((is_letting todo ≡ true) ⊎ AllSilent todo)
      by (inl c) = inl c
      by (inr m) = inr (inl m)

  -- what comes next is more than the end of the activation
  pub busy : (todo : List Todo) → SilentBehind todo × (C ⊎ ((is_letting todo ≡ true) ⊎ ⊥)) → WaitsBy C todo
  busy todo h = (h.0, by h.1)
    where
      by : C ⊎ ((is_letting todo ≡ true) ⊎ ⊥) → C ⊎ (is_letting todo ≡ true)
      by (inl c) = inl c
      by (inr (inl m)) = inr m
      by (inr (inr x)) = absurd x

  -- one piece less
  past_by : (b c : Bool) (todo : List Todo) → BehindBy b (AllSilent todo) (SilentBehind todo) × (C ⊎ (((if b then true else is_letting todo) ≡ true) ⊎ IfSilent c (AllSilent todo))) → RunsBy C todo
  past_by true c todo h = (silent_behind todo h.0, inr (inr h.0))
  past_by false true todo h = h
  past_by false false todo h = runs todo (busy todo h)

  pub past : (p : Todo) (todo : List Todo) → RunsBy C (p ∷ todo) → RunsBy C todo
  past p todo h = past_by (lets_go p) (is_silent p) todo h

  -- statements that are in no scope of the object as a whole
  pub closed : (ss : Stmts) (todo : List Todo) → IsClosed ss → WaitsBy C todo → WaitsBy C (piece.Rest ss ∷ todo)
  closed ss todo e h =
      subst (λ b. BehindBy b (AllSilent todo) (SilentBehind todo) × (C ⊎ ((if b then true else is_letting todo) ≡ true))) (sym e) h

  -- what a piece is for one who leaves it

  abbrev pub OfSort : Sort → List Todo → Type 0
  OfSort piece.Simple todo = RunsBy C todo
  OfSort (piece.IsClean c) todo = RunsBy C (piece.Clean c ∷ todo)
  OfSort piece.IsFinish todo = RunsBy C todo
  OfSort piece.IsFinishCoroutine todo = RunsBy C todo
  OfSort k todo = WaitsBy C todo

  pub sorted : (p : Todo) (todo : List Todo) → RunsBy C (p ∷ todo) → OfSort (piece.sort p) todo
  sorted (piece.InLoop o t e b) todo h = busy todo h
  sorted piece.InWhole todo h = busy todo h
  sorted (piece.Clean c) todo h = h
  sorted (piece.FillNow n b d) todo h = busy todo h
  sorted (piece.Sweep e) todo h = busy todo h
  sorted (piece.Part c) todo h = busy todo h
  sorted (piece.Guard hs) todo h = busy todo h
  sorted p todo h = past p todo h

  loop_left : (w : Way) (o : Order) (t : Expr) (e : Option Expr) (b : Stmt) (todo : List Todo) → WaitsBy C todo → RunsBy C (quiet.loop_left w o t e b todo)
  loop_left src.ToBreak o t e b todo h = runs todo h
  loop_left src.ToContinue o t e b todo h = runs (piece.InLoop o t e b ∷ todo) h
  loop_left src.ToReturn o t e b todo h = runs todo h
  loop_left src.ToEnd o t e b todo h = runs todo h

  pub left_behind : (w : Way) (k : Sort) (todo : List Todo) → OfSort k todo → RunsBy C (quiet.left_behind w k todo)
  left_behind w piece.Simple todo h = h
  left_behind w (piece.IsLoop o t e b) todo h = loop_left w o t e b todo h
  left_behind w piece.IsWhole todo h = runs todo h
  left_behind w (piece.IsClean c) todo h = h
  left_behind w (piece.IsFill m b d) todo h = runs todo h
  left_behind w (piece.IsSweep e) todo h = runs todo h
  left_behind w (piece.IsPart c) todo h = runs todo h
  left_behind w (piece.IsGuard hs) todo h = runs todo h
  left_behind w piece.IsFinish todo h = h
  left_behind w piece.IsFinishCoroutine todo h = h

  -- clean-ups

  pub cleans : (c : CleanUp) (todo : List Todo) → RunsBy C (piece.Clean c ∷ todo) → RunsBy C (piece.clean_todo c todo)
  cleans (src.Destroys e) todo h = h
  cleans (src.DestroysAll m e) todo h = h
  cleans src.Unwinds todo h = h
  cleans src.Forgets todo h = h
  cleans src.Leaves todo h = h
  cleans src.Ends todo h = h
  cleans (src.Frees None) todo h = h
  cleans (src.Frees (Some r)) todo h = h
  cleans (src.Restores k) todo h = h

  pub left_cleans : (c : CleanUp) (todo : List Todo) → RunsBy C (piece.Clean c ∷ todo) → RunsBy C (raising.left_todo c (piece.Unwind ∷ todo))
  left_cleans (src.Frees r) todo h = h
  left_cleans c todo h = cleans c (piece.Unwind ∷ todo) h

  pub part_cleans : (c : CleanUp) (todo : List Todo) → of_object c ≡ false → WaitsBy C todo → WaitsBy C (piece.clean_todo c todo)
  part_cleans (src.Destroys e) todo k h = h
  part_cleans (src.DestroysAll m e) todo k h = h
  part_cleans src.Unwinds todo k h = h
  part_cleans src.Forgets todo k h = h
  part_cleans src.Leaves todo k h = h
  part_cleans src.Ends todo k h = let z : true ≡ false = k in absurd (cc)
  part_cleans (src.Frees r) todo k h = let z : true ≡ false = k in absurd (cc)
  part_cleans (src.Restores c) todo k h = h

  -- what other pieces leave to do

  pub starts : (cell : ℕ) (v : Option Expr) (todo : List Todo) → WaitsBy C todo → WaitsBy C (quiet.starting cell v todo)
  starts cell None todo h = h
  starts cell (Some e) todo h = h

  pub converts : (k : Shape) (todo : List Todo) → WaitsBy C todo → WaitsBy C (quiet.converting k todo)
  converts src.Character todo h = h
  converts src.Truth todo h = h
  converts k todo h = h

  pub stepped : (e : Option Expr) (todo : List Todo) → WaitsBy C todo → WaitsBy C (quiet.step_todo e todo)
  stepped None todo h = h
  stepped (Some e) todo h = h

  pub tested : (o : Order) (t : Expr) (e : Option Expr) (b : Stmt) (todo : List Todo) → WaitsBy C todo → WaitsBy C (quiet.test_todo o t e b todo)
  tested src.TestFirst t e b todo h = h
  tested src.BodyFirst t e b todo h = h
  tested src.NoTest t e b todo h = h

  pub looped : (o : Order) (t : Expr) (e : Option Expr) (b : Stmt) (todo : List Todo) → WaitsBy C todo → WaitsBy C (quiet.loop_todo o t e b todo)
  looped src.TestFirst t e b todo h = h
  looped src.BodyFirst t e b todo h = h
  looped src.NoTest t e b todo h = h

  pub filled : (b : Bool) (n : ℕ) (e d : Expr) (todo : List Todo) → WaitsBy C todo → WaitsBy C (quiet.fill_todo b n e d todo)
  filled false n e d todo h = h
  filled true n e d todo h = h

  pub raised : (r : Raised) (todo : List Todo) → WaitsBy C todo → WaitsBy C (raising.raised_todo r todo)
  raised (src.Plainly n) todo h = h
  raised (src.BuiltAt n c e) todo h = h
  raised (src.AgainFrom c) todo h = h

  pub handled : (x : Handler) (todo : List Todo) → IsClosed x.body → WaitsBy C todo → WaitsBy C (raising.handler_todo x todo)
  handled x todo k h = closed x.body (piece.Within x.line ∷ todo) k h

  pub branch : (k : ℕ) (cs : Clauses) (todo : List Todo) → WaitsBy C todo → WaitsBy C (monitors.branch_todo k cs todo)
  branch k src.NoClauses todo h = h
  branch k (src.Otherwise b) todo h = either (WaitsBy C) (nat_eq k 0) (piece.Do b ∷ todo) todo h h
  branch zero (src.MoreClauses guard b cs) todo h = branch zero cs todo h
  branch (suc zero) (src.MoreClauses guard b cs) todo h = h
  branch (suc (suc k)) (src.MoreClauses guard b cs) todo h = branch (suc k) cs todo h

  pub item : (i : Item) (todo : List Todo) → WaitsBy C todo → WaitsBy C (quiet.item_todo i todo)
  item (src.Show f e) todo h = h
  item (src.ShowText k) todo h = h

  pub item_value : (i : Item) (todo : List Todo) → WaitsBy C todo → WaitsBy C (quiet.item_value i todo)
  item_value (src.Show f e) todo h = h
  item_value (src.ShowText k) todo h = h

  pub item_piece : (i : Item) (todo : List Todo) → WaitsBy C todo → WaitsBy C (quiet.item_piece i ∷ todo)
  item_piece (src.Show f e) todo h = h
  item_piece (src.ShowText k) todo h = h

  pub polled : (o : Option UnwindReason) (todo : List Todo) → WaitsBy C todo → WaitsBy C (monitors.leave_todo o todo)
  polled None todo h = h
  polled (Some why) todo h = h

-- handlers

abbrev pub OfHandler : Option Handler → Type 0
OfHandler None = Unit {0}
OfHandler (Some x) = IsClosed x.body

pub handler_for : (kind : Bool) (e : Event) (hs : Handlers) → AllClosed hs → OfHandler (raising.handler_for kind e hs)
handler_for kind e src.NoHandlers h = tt
handler_for kind e (src.MoreHandlers resumes event cell line body rest) h =
    either OfHandler (raising.same_kind kind resumes && raising.takes event e) (Some (record { cell = cell; line = line; body = body })) (raising.handler_for kind e rest) h.0 (handler_for kind e rest h.1)

-- what is told of a piece that is left by unwinding
abbrev pub Unwound : Sort → Type 0
Unwound (piece.IsPart c) = of_object c ≡ false
Unwound (piece.IsGuard hs) = AllClosed hs
Unwound k = Unit {0}

pub unwound : (p : Todo) (todo : List Todo) → LeavesAt (p ∷ todo) → Unwound (piece.sort p)
unwound (piece.Part c) todo h = h
unwound (piece.Guard hs) todo h = h
unwound p todo h = tt
