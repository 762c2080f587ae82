-- To-do lists in which an object is still to be let go of.
use Rattle.std.proofs.Common.{◌≡◌, ℕ, zero, suc, ◌⊎◌, inl, inr, ◌||◌, Bool, true, false, List, ◌∷◌, Option, Some, None, refl, ⊎_elim}
use Rattle.std.specs.Prelude.{nat_eq}
use Rattle.uc_tree.specs.Source as src
use Rattle.uc_tree.specs.Source.{Shape, Expr, Stmt, Stmts, Order, Way, CleanUp, Handlers, Clauses, Raised, Item, Routine}
use Rattle.uc_machine.specs.declared.exec.UnwindReason.{UnwindReason}
use Rattle.uc_machine.specs.Raising as raising
use Rattle.uc_machine.specs.Monitors as monitors
use Rattle.uc_machine.specs.Quiet as quiet
use Rattle.uc_machine.specs.Pieces as piece
use Rattle.uc_machine.specs.Pieces.{Todo, Sort}
use Rattle.uc_life_laws.proofs.Cells.{either}
use Rattle.uc_making_laws.specs.Builders.{lets_built, lets_first, Lets}

pub either_of : (b c : Bool) → (b || c) ≡ true → (b ≡ true) ⊎ (c ≡ true)
either_of true c h = inl refl
either_of false c h = inr h

pub or_first : (b c : Bool) → b ≡ true → (b || c) ≡ true
or_first true c h = refl
or_first false c h = absurd (cc)

pub or_second : (b c : Bool) → c ≡ true → (b || c) ≡ true
or_second true c h = refl
or_second false c h = h

-- `N`: the execution is named so; `C`: one of those that wait is to let go of the object; `O`: the activation is of it
module _ (every : Bool) (N C O : Type 0) where
  -- it waits, or runs, with this to do
  abbrev pub Waiting : List Todo → Type 0
  Waiting todo = N → C ⊎ (O × (lets_built every todo ≡ true))

  abbrev pub Running : List Todo → Type 0
  Running todo = N → C ⊎ (O × Lets every todo)

  pub runs : (todo : List Todo) → Waiting todo → Running todo
  runs todo h = λ n. by (h n)
    where
      by : C ⊎ (O × (lets_built every todo ≡ true)) → C ⊎ (O × Lets every todo)
      by (inl c) = inl c
      by (inr m) = inr (m.0, inl m.1)

  -- what comes first does not let go of it
  pub busy : (todo : List Todo) → (N → C ⊎ (O × ((lets_built every todo ≡ true) ⊎ (false ≡ true)))) → Waiting todo
  busy todo h = λ n. by (h n)
    where
      by : C ⊎ (O × ((lets_built every todo ≡ true) ⊎ (false ≡ true))) → C ⊎ (O × (lets_built every todo ≡ true))
      by (inl c) = inl c
      by (inr (o, inl m)) = inr (o, m)
      by (inr (o, inr x)) = absurd (cc)

  -- it lets go of it now, which is not asked: so one that waits is to do that
  pub others : (A : Type 0) → (O → A) → (A → ⊥) → (todo : List Todo) → (b : List Todo) → Running b → Waiting todo
  others A f g todo b h = λ n. by (h n)
    where
      by : C ⊎ (O × Lets every b) → C ⊎ (O × (lets_built every todo ≡ true))
      by (inl c) = inl c
      by (inr m) = absurd (g (f m.0))

  -- so it does where of every object that is not asked; where it is of those that are tasks, this lets go of none
  pub no_made : (A : Type 0) → (O → A) → (A × (every ≡ true) → ⊥) → (todo : List Todo) → Running (piece.MadeNow ∷ todo) → Waiting todo
  no_made A f g todo h = λ n. by (h n)
    where
      by : C ⊎ (O × Lets every (piece.MadeNow ∷ todo)) → C ⊎ (O × (lets_built every todo ≡ true))
      by (inl c) = inl c
      by (inr (o, inl l)) = inr (o, l)
      by (inr (o, inr e)) = absurd (g (f o, e))

  -- what a piece is for one who leaves it
  abbrev pub OfSort : Sort → List Todo → Type 0
  OfSort (piece.IsClean c) todo = Waiting (piece.Clean c ∷ todo)
  OfSort k todo = Waiting todo

  pub sorted : (p : Todo) (todo : List Todo) → Waiting (p ∷ todo) → OfSort (piece.sort p) todo
  sorted (piece.InLoop o t e b) todo h = h
  sorted piece.InWhole todo h = h
  sorted (piece.Clean c) todo h = h
  sorted (piece.FillNow n b d) todo h = h
  sorted (piece.Sweep e) todo h = h
  sorted (piece.Part c) todo h = h
  sorted (piece.Guard hs) todo h = h
  sorted piece.Finish todo h = h
  sorted piece.FinishCoroutine todo h = h
  sorted p todo h = h

  loop_left : (w : Way) (o : Order) (t : Expr) (e : Option Expr) (b : Stmt) (todo : List Todo) → Waiting todo → Waiting (quiet.loop_left w o t e b todo)
  loop_left src.ToBreak o t e b todo h = h
  loop_left src.ToContinue o t e b todo h = h
  loop_left src.ToReturn o t e b todo h = h
  loop_left src.ToEnd o t e b todo h = h

  exit_clean : (w : Way) (c : CleanUp) (todo : List Todo) → Waiting (piece.Clean c ∷ todo) → Waiting (piece.Clean c ∷ (piece.Exit w ∷ todo))
  exit_clean w (src.Destroys e) todo h = h
  exit_clean w (src.DestroysAll m e) todo h = h
  exit_clean w src.Unwinds todo h = h
  exit_clean w src.Forgets todo h = h
  exit_clean w src.Leaves todo h = h
  exit_clean w src.Ends todo h = h
  exit_clean w (src.Frees None) todo h = h
  exit_clean w (src.Frees (Some r)) todo h = h
  exit_clean w (src.Restores k) todo h = h

  pub left_behind : (w : Way) (k : Sort) (todo : List Todo) → OfSort k todo → Waiting (quiet.left_behind w k todo)
  left_behind w piece.Simple todo h = h
  left_behind w (piece.IsLoop o t e b) todo h = loop_left w o t e b todo h
  left_behind w piece.IsWhole todo h = h
  left_behind w (piece.IsClean c) todo h = exit_clean w c todo h
  left_behind w (piece.IsFill m b d) todo h = h
  left_behind w (piece.IsSweep e) todo h = h
  left_behind w (piece.IsPart c) todo h = h
  left_behind w (piece.IsGuard hs) todo h = h
  left_behind w piece.IsFinish todo h = h
  left_behind w piece.IsFinishCoroutine todo h = h

  -- clean-ups

  now : (todo : List Todo) (b : List Todo) → lets_first every b ≡ true → Waiting todo → Running b
  now todo b e h = λ n. by (h n)
    where
      by : C ⊎ (O × (lets_built every todo ≡ true)) → C ⊎ (O × Lets every b)
      by (inl c) = inl c
      by (inr m) = inr (m.0, inr e)

  pub cleans : (c : CleanUp) (todo : List Todo) → Waiting (piece.Clean c ∷ todo) → Running (piece.clean_todo c todo)
  cleans (src.Destroys e) todo h = runs (piece.Eval e ∷ (piece.DropNow ∷ todo)) h
  cleans (src.DestroysAll m e) todo h = runs (piece.CountNow m ∷ (piece.Sweep e ∷ todo)) h
  cleans src.Unwinds todo h = runs (piece.TakeDownNow ∷ todo) h
  cleans src.Forgets todo h = runs (piece.ForgetNow ∷ todo) h
  cleans src.Leaves todo h = runs (piece.LeaveNow ∷ todo) h
  cleans src.Ends todo h = now (piece.Clean src.Ends ∷ todo) (piece.GoneNow ∷ todo) refl h
  cleans (src.Frees None) todo h = λ n. by (h n)
    where
      by : C ⊎ (O × ((every || lets_built every todo) ≡ true)) → C ⊎ (O × Lets every (piece.MadeNow ∷ todo))
      by (inl c) = inl c
      by (inr m) = inr (m.0, ⊎_elim (λ e. inr e) (λ l. inl l) (either_of every (lets_built every todo) m.1))
  cleans (src.Frees (Some r)) todo h = now (piece.Clean (src.Frees (Some r)) ∷ todo) (piece.SpawnNow r ∷ todo) refl h
  cleans (src.Restores k) todo h = runs (piece.RestoreNow k ∷ todo) h

  pub left_cleans : (c : CleanUp) (todo : List Todo) → Waiting (piece.Clean c ∷ todo) → Running (raising.left_todo c (piece.Unwind ∷ todo))
  left_cleans (src.Frees r) todo h = now (piece.Clean (src.Frees r) ∷ todo) (piece.GiveUpNow ∷ (piece.Unwind ∷ todo)) refl h
  left_cleans src.Ends todo h = now (piece.Clean src.Ends ∷ todo) (piece.GoneNow ∷ (piece.Unwind ∷ todo)) refl h
  left_cleans (src.Destroys e) todo h = runs (piece.Eval e ∷ (piece.DropNow ∷ (piece.Unwind ∷ todo))) h
  left_cleans (src.DestroysAll m e) todo h = runs (piece.CountNow m ∷ (piece.Sweep e ∷ (piece.Unwind ∷ todo))) h
  left_cleans src.Unwinds todo h = runs (piece.TakeDownNow ∷ (piece.Unwind ∷ todo)) h
  left_cleans src.Forgets todo h = runs (piece.ForgetNow ∷ (piece.Unwind ∷ todo)) h
  left_cleans src.Leaves todo h = runs (piece.LeaveNow ∷ (piece.Unwind ∷ todo)) h
  left_cleans (src.Restores k) todo h = runs (piece.RestoreNow k ∷ (piece.Unwind ∷ todo)) h

  pub part_cleans : (c : CleanUp) (todo : List Todo) → Waiting todo → Waiting (piece.clean_todo c todo)
  part_cleans (src.Destroys e) todo h = h
  part_cleans (src.DestroysAll m e) todo h = h
  part_cleans src.Unwinds todo h = h
  part_cleans src.Forgets todo h = h
  part_cleans src.Leaves todo h = h
  part_cleans src.Ends todo h = h
  part_cleans (src.Frees None) todo h = h
  part_cleans (src.Frees (Some r)) todo h = h
  part_cleans (src.Restores c) todo h = h

  -- a scope opens
  pub opens : (c : CleanUp) (ss : Stmts) (todo : List Todo) → Running (piece.Rest (src.Scoped c ss) ∷ todo) → Waiting (piece.Rest ss ∷ (piece.Clean c ∷ todo))
  opens src.Ends ss todo h = λ n. by (h n)
    where
      by : C ⊎ (O × Lets every (piece.Rest (src.Scoped src.Ends ss) ∷ todo)) → C ⊎ (O × ((every || lets_built every todo) ≡ true))
      by (inl c) = inl c
      by (inr (o, inl l)) = inr (o, or_second every (lets_built every todo) l)
      by (inr (o, inr e)) = inr (o, or_first every (lets_built every todo) e)
  opens (src.Frees None) ss todo h = λ n. by (h n)
    where
      by : C ⊎ (O × Lets every (piece.Rest (src.Scoped (src.Frees None) ss) ∷ todo)) → C ⊎ (O × ((every || lets_built every todo) ≡ true))
      by (inl c) = inl c
      by (inr (o, inl l)) = inr (o, or_second every (lets_built every todo) l)
      by (inr (o, inr e)) = inr (o, or_first every (lets_built every todo) e)
  opens (src.Frees (Some r)) ss todo h = λ n. by (h n)
    where
      by : C ⊎ (O × Lets every (piece.Rest (src.Scoped (src.Frees (Some r)) ss) ∷ todo)) → C ⊎ (O × (true ≡ true))
      by (inl c) = inl c
      by (inr m) = inr (m.0, refl)
  opens (src.Destroys e) ss todo h = busy (piece.Rest ss ∷ (piece.Clean (src.Destroys e) ∷ todo)) h
  opens (src.DestroysAll m e) ss todo h = busy (piece.Rest ss ∷ (piece.Clean (src.DestroysAll m e) ∷ todo)) h
  opens src.Unwinds ss todo h = busy (piece.Rest ss ∷ (piece.Clean src.Unwinds ∷ todo)) h
  opens src.Forgets ss todo h = busy (piece.Rest ss ∷ (piece.Clean src.Forgets ∷ todo)) h
  opens src.Leaves ss todo h = busy (piece.Rest ss ∷ (piece.Clean src.Leaves ∷ todo)) h
  opens (src.Restores k) ss todo h = busy (piece.Rest ss ∷ (piece.Clean (src.Restores k) ∷ todo)) h

  -- what other pieces leave to do

  pub starts : (cell : ℕ) (v : Option Expr) (todo : List Todo) → Waiting todo → Waiting (quiet.starting cell v todo)
  starts cell None todo h = h
  starts cell (Some e) todo h = h

  pub converts : (k : Shape) (todo : List Todo) → Waiting todo → Waiting (quiet.converting k todo)
  converts src.Character todo h = h
  converts src.Truth todo h = h
  converts k todo h = h

  pub stepped : (e : Option Expr) (todo : List Todo) → Waiting todo → Waiting (quiet.step_todo e todo)
  stepped None todo h = h
  stepped (Some e) todo h = h

  pub tested : (o : Order) (t : Expr) (e : Option Expr) (b : Stmt) (todo : List Todo) → Waiting todo → Waiting (quiet.test_todo o t e b todo)
  tested src.TestFirst t e b todo h = h
  tested src.BodyFirst t e b todo h = h
  tested src.NoTest t e b todo h = h

  pub looped : (o : Order) (t : Expr) (e : Option Expr) (b : Stmt) (todo : List Todo) → Waiting todo → Waiting (quiet.loop_todo o t e b todo)
  looped src.TestFirst t e b todo h = h
  looped src.BodyFirst t e b todo h = h
  looped src.NoTest t e b todo h = h

  pub filled : (b : Bool) (n : ℕ) (e d : Expr) (todo : List Todo) → Waiting todo → Waiting (quiet.fill_todo b n e d todo)
  filled false n e d todo h = h
  filled true n e d todo h = h

  pub raised : (r : Raised) (todo : List Todo) → Waiting todo → Waiting (raising.raised_todo r todo)
  raised (src.Plainly n) todo h = h
  raised (src.BuiltAt n c e) todo h = h
  raised (src.AgainFrom c) todo h = h

  pub branch : (k : ℕ) (cs : Clauses) (todo : List Todo) → Waiting todo → Waiting (monitors.branch_todo k cs todo)
  branch k src.NoClauses todo h = h
  branch k (src.Otherwise b) todo h = either (Waiting) (nat_eq k 0) (piece.Do b ∷ todo) todo h h
  branch zero (src.MoreClauses guard b cs) todo h = branch zero cs todo h
  branch (suc zero) (src.MoreClauses guard b cs) todo h = h
  branch (suc (suc k)) (src.MoreClauses guard b cs) todo h = branch (suc k) cs todo h

  pub item : (i : Item) (todo : List Todo) → Waiting todo → Waiting (quiet.item_todo i todo)
  item (src.Show f e) todo h = h
  item (src.ShowText k) todo h = h

  pub item_value : (i : Item) (todo : List Todo) → Waiting todo → Waiting (quiet.item_value i todo)
  item_value (src.Show f e) todo h = h
  item_value (src.ShowText k) todo h = h

  pub item_piece : (i : Item) (todo : List Todo) → Waiting todo → Waiting (quiet.item_piece i ∷ todo)
  item_piece (src.Show f e) todo h = h
  item_piece (src.ShowText k) todo h = h

  pub polled : (o : Option UnwindReason) (todo : List Todo) → Waiting todo → Waiting (monitors.leave_todo o todo)
  polled None todo h = h
  polled (Some why) todo h = h
