-- Whoever reads what ends next is on the way from a clean-up, at the end of it: with the memory with which that was reached.
use Rattle.std.proofs.Common.{◌≡◌, ℕ, inl, inr, ◌⊎◌, Bool, true, List, [], ◌∷◌, Some, sym, ◌∙◌, subst}
use Rattle.uc_tree.specs.declared.limits.TheConstants.{DESTRUCTOR}
use Rattle.uc_machine.specs.Pieces as piece
use Rattle.uc_machine.specs.Pieces.{Todo, LoadNow, State}
use Rattle.uc_typing.specs.Typing.{Table}
use Rattle.uc_putting_laws.specs.Putting.{IsEnding}
use Rattle.uc_homed_ends.specs.EndCode.{EndSite, AtSpot, AtElement}
use Rattle.uc_homed_ends.specs.EndLists.{NoEnding, FreeList, FreeActive}
use Rattle.uc_homed_ends.specs.EndWays as ways
use Rattle.uc_homed_ends.specs.EndWays.{Stage, Ends, Loads, Finds, Arrays, Counts, Picks, todo_at, Found, Leaves, Way, Enters, nothing_told}

no_ending : (todo : List Todo) → NoEnding todo → IsEnding todo → ⊥
no_ending (piece.EnterNow m r ∷ todo) n e = n
no_ending (piece.TickNow ∷ (piece.EnterNow m r ∷ todo)) n e = n
no_ending (piece.TickNow ∷ todo) n e = e
no_ending todo n e = e

module _ (t : Table) (P : State → Type 0) where
  -- whoever reads before an end is on the way from a clean-up, at the end of it
  pub record Reading (s : State) : Type 0 where
    pub site : EndSite
    pub routine : ℕ
    pub written : Bool
    pub class : ℕ
    pub behind : List Todo
    pub control : s.run.control ≡ LoadNow ∷ ways.entering routine written behind
    pub found : Found ways.Reads site s
    pub this : (t.routine routine).this ≡ Some class
    pub whole : (t.routine routine).whole ≡ true
    pub mutex : t.mutex class ≡ true
    pub params : [] ≡ (t.routine routine).params
    pub start : State
    pub leaves : Leaves site routine written start.run.control
    pub held : P start
    pub env : s.env ≡ start.env
    pub frame : s.run.frame ≡ start.run.frame
    pub object : s.run.this ≡ start.run.this

  reading_at : (s : State) (todo : List Todo) → s.run.control ≡ LoadNow ∷ todo → (w : Way t P s) → Reading s
  reading_at s todo c w = by w.stage w.site w.control w.found w.leaves
    where
      ends : (x : EndSite) → s.run.control ≡ LoadNow ∷ ways.entering w.routine w.written w.todo → Found ways.Reads x s → Leaves x w.routine w.written w.start.run.control → Reading s
      ends x e f l = record {
        site = x;
        routine = w.routine;
        written = w.written;
        class = w.class;
        behind = w.todo;
        control = e;
        found = f;
        this = w.this;
        whole = w.whole;
        mutex = w.mutex;
        params = w.params;
        start = w.start;
        leaves = l;
        held = w.held;
        env = w.env;
        frame = w.frame;
        object = w.object;
      }

      by : (k : Stage) (x : EndSite) → s.run.control ≡ todo_at k x w.routine w.written w.todo → Found k x s → Leaves x w.routine w.written w.start.run.control → Reading s
      by Ends x e f l = let q : LoadNow ∷ todo ≡ todo_at Ends x w.routine w.written w.todo = sym c ∙ e in absurd (cc)
      by Loads x e f l = let q : LoadNow ∷ todo ≡ todo_at Loads x w.routine w.written w.todo = sym c ∙ e in absurd (cc)
      by Finds x e f l = let q : LoadNow ∷ todo ≡ todo_at Finds x w.routine w.written w.todo = sym c ∙ e in absurd (cc)
      by Arrays (AtSpot p) e f l = absurd f
      by Arrays (AtElement n p) e f l = let q : LoadNow ∷ todo ≡ todo_at Arrays (AtElement n p) w.routine w.written w.todo = sym c ∙ e in absurd (cc)
      by Counts (AtSpot p) e f l = absurd f
      by Counts (AtElement n p) e f l = let q : LoadNow ∷ todo ≡ todo_at Counts (AtElement n p) w.routine w.written w.todo = sym c ∙ e in absurd (cc)
      by Picks (AtSpot p) e f l = absurd f
      by Picks (AtElement n p) e f l = let q : LoadNow ∷ todo ≡ todo_at Picks (AtElement n p) w.routine w.written w.todo = sym c ∙ e in absurd (cc)
      by ways.Reads x e f l = ends x e f l

  no_load : (s : State) (todo : List Todo) → s.run.control ≡ LoadNow ∷ todo → Enters t nothing_told s → ⊥
  no_load s todo c e = by e.control
    where
      by : (s.run.control ≡ piece.EnterNow DESTRUCTOR e.routine ∷ e.todo) ⊎ (s.run.control ≡ piece.TickNow ∷ (piece.EnterNow DESTRUCTOR e.routine ∷ e.todo)) → ⊥
      by (inl q) = let f : LoadNow ∷ todo ≡ piece.EnterNow DESTRUCTOR e.routine ∷ e.todo = sym c ∙ q in cc
      by (inr q) = let f : LoadNow ∷ todo ≡ piece.TickNow ∷ (piece.EnterNow DESTRUCTOR e.routine ∷ e.todo) = sym c ∙ q in cc

  pub reading_of : (s : State) (todo : List Todo) → s.run.control ≡ LoadNow ∷ todo → IsEnding todo → (FreeActive t s.run ⊎ Enters t nothing_told s) ⊎ Way t P s → Reading s
  reading_of s todo c e (inl (inl h)) = absurd (no_ending todo (subst (FreeList t) c h).0 e)
  reading_of s todo c e (inl (inr h)) = absurd (no_load s todo c h)
  reading_of s todo c e (inr w) = reading_at s todo c w
