-- What is told of seats, once more objects are pending that are at home elsewhere, and fewer others.
use Rattle.std.proofs.Common.{◌≡◌, ℕ, ◌⊎◌, inl, inr, Bool, false, List, [], ◌∷◌, Option, Some, None, sym, ap, ◌∙◌, subst}
use Rattle.uc_tree.specs.Programs.{Program}
use Rattle.uc_tree.specs.Source as src
use Rattle.uc_tree.specs.Source.{Expr, CleanUp, Stmts, Source}
use Rattle.uc_machine.specs.declared.exec.Exec.{Exec}
use Rattle.uc_machine.specs.declared.exec.Home.{Home}
use Rattle.uc_machine.specs.Executions.{Execution}
use Rattle.uc_machine.specs.Pieces as piece
use Rattle.uc_machine.specs.Pieces.{Value, Object, Todo, Active, Members}
use Rattle.uc_place_laws.specs.OlderResting.{AllWait, NamedSlot, NamedParked, NamedMembers}
use Rattle.uc_tasked_laws.specs.Seated.{EndsTask, OfScope, OfPart, OpensOf}
use Rattle.uc_tasked_laws.specs.Seats.{seat}
use Rattle.uc_tasked_laws.specs.SeatedStates.{Told, IsFree, IsFreeBut, Awaited, OnTop, MarkHas, AllHave, Kept, Done, Begun, Finds, Runs, Waits, Spawning}
use Rattle.uc_tasked_laws.specs.TaskedRuns.{IsElsewhere, ApartRuns, ApartWaits}
use Rattle.uc_tasked_laws.proofs.Marks.{opens_both}
use Rattle.uc_tasked_laws.proofs.Mapping.{ok_more, drop_ok}

-- what holds of seats for each of some objects holds for all of them

module _ (N : ℕ → Type 0) (P : ℕ → ℕ → Expr → Type 0) where
  abbrev ForAll : ℕ → Expr → Type 0
  ForAll d e = (o : ℕ) → N o → P o d e

  scope_all : (c : CleanUp) → ((o : ℕ) → N o → OfScope (P o) c) → OfScope ForAll c
  scope_all (src.Destroys (src.OfObject (src.EndOn d written (src.Load (src.Variable k))))) h = h
  scope_all c h = tt

  part_all : (c : CleanUp) → ((o : ℕ) → N o → OfPart (P o) c) → OfPart ForAll c
  part_all (src.Destroys (src.OfObject (src.EndOn d written (src.Load (src.OfObject (src.OwnField s i)))))) h = h
  part_all c h = tt

  opens_all : (ss : Stmts) → ((o : ℕ) → N o → OpensOf (P o) ss) → OpensOf ForAll ss
  opens_all (src.Scoped c ss) h = scope_all c h
  opens_all (src.Built c ss) h = part_all c h
  opens_all ss h = tt

  awaited_all : (todo : List Todo) → ((o : ℕ) → N o → Awaited (P o) todo) → Awaited ForAll todo
  awaited_all (piece.DropNow ∷ (piece.Within line ∷ (piece.Rest ss ∷ todo))) h = opens_all ss h
  awaited_all todo h = tt

  mark_all : (x : Todo) → ((o : ℕ) → N o → MarkHas (P o) x) → MarkHas ForAll x
  mark_all (piece.Clean c) h = scope_all c h
  mark_all (piece.Part c) h = part_all c h
  mark_all x h = tt

  have_all : (todo : List Todo) → ((o : ℕ) → N o → AllHave (P o) todo) → AllHave ForAll todo
  have_all [] h = tt
  have_all (x ∷ todo) h = (mark_all x (λ o k. (h o k).0), have_all todo (λ o k. (h o k).1))

module _ (P Q : ℕ → Expr → Type 0) (f : (d : ℕ) (e : Expr) → P d e → Q d e) where
  scope_to : (c : CleanUp) → OfScope P c → OfScope Q c
  scope_to (src.Destroys (src.OfObject (src.EndOn d written (src.Load (src.Variable k))))) h = f d (src.Variable k) h
  scope_to c h = tt

  part_to : (c : CleanUp) → OfPart P c → OfPart Q c
  part_to (src.Destroys (src.OfObject (src.EndOn d written (src.Load (src.OfObject (src.OwnField s i)))))) h = f d (src.OfObject (src.OwnField s i)) h
  part_to c h = tt

  mark_to : (x : Todo) → MarkHas P x → MarkHas Q x
  mark_to (piece.Clean c) h = scope_to c h
  mark_to (piece.Part c) h = part_to c h
  mark_to x h = tt

  have_to : (todo : List Todo) → AllHave P todo → AllHave Q todo
  have_to [] h = tt
  have_to (x ∷ todo) h = (mark_to x h.0, have_to todo h.1)

awaited_both : (P Q R : ℕ → Expr → Type 0) → ((d : ℕ) (e : Expr) → P d e → Q d e → R d e) → (todo : List Todo) → Awaited P todo → Awaited Q todo → Awaited R todo
awaited_both P Q R f (piece.DropNow ∷ (piece.Within line ∷ (piece.Rest ss ∷ todo))) h k = opens_both P Q R f ss h k
awaited_both P Q R f todo h k = tt

module _ (p : Program) (source : Source) (homes : ℕ → Value) (before after : ℕ → Bool) (N : ℕ → Type 0) (later : (o : ℕ) → before o ≡ false → (after o ≡ false) ⊎ N o) where
  abbrev one : Told
  one = record { homes = homes; pending = before }

  abbrev two : Told
  two = record { homes = homes; pending = after }

  -- those that become pending are at home elsewhere
  abbrev Elsewhere : Value → Type 0
  Elsewhere v = (o : ℕ) → N o → homes o ≡ v → ⊥

  free : (v : Value) → Elsewhere v → IsFree one v → IsFree two v
  free v far h o e = by (later o (h o e))
    where
      by : (after o ≡ false) ⊎ N o → after o ≡ false
      by (inl x) = x
      by (inr n) = absurd (far o n e)

  free_but : (x : ℕ) (v : Value) → Elsewhere v → IsFreeBut one x v → IsFreeBut two x v
  free_but x v far h o e = by (h o e)
    where
      on : (after o ≡ false) ⊎ N o → (o ≡ x) ⊎ (after o ≡ false)
      on (inl k) = inr k
      on (inr n) = absurd (far o n e)

      by : (o ≡ x) ⊎ (before o ≡ false) → (o ≡ x) ⊎ (after o ≡ false)
      by (inl q) = inl q
      by (inr k) = on (later o k)

  -- and the last one is not any more
  free_now : (x : ℕ) (v : Value) → after x ≡ false → Elsewhere v → IsFreeBut one x v → IsFree two v
  free_now x v k far h o e = by (free_but x v far h o e)
    where
      by : (o ≡ x) ⊎ (after o ≡ false) → after o ≡ false
      by (inl q) = subst (λ o. after o ≡ false) (sym q) k
      by (inr f) = f

  -- of an activation before these older ones
  abbrev Seats : Exec → ℕ → Value → ℕ → Expr → Type 0
  Seats n f this d e = (o : ℕ) → N o → IsElsewhere p (homes o) n f this d e

  elsewhere : (n : Exec) (f : ℕ) (this : Value) (d : ℕ) (e : Expr) → Seats n f this d e → EndsTask p d → Elsewhere (seat n f this e)
  elsewhere n f this d e h t o k q = h o k t q

  keeps : (n : Exec) (f : ℕ) (this : Value) (todo : List Todo) → ((o : ℕ) → N o → AllHave (IsElsewhere p (homes o) n f this) todo) → AllHave (λ d e. Kept p one n f this d e → Kept p two n f this d e) todo
  keeps n f this todo h =
      have_to (Seats n f this) (λ d e. Kept p one n f this d e → Kept p two n f this d e) (λ d e k x t. free (seat n f this e) (elsewhere n f this d e k t) (x t)) todo (have_all N (λ o. IsElsewhere p (homes o) n f this) todo h)

  abbrev TopApart : Exec → List Active → Type 0
  TopApart n older = (o : ℕ) → N o → OnTop (λ b d e. IsElsewhere p (homes o) n b.frame b.this d e) older

  done : (n : Exec) (older : List Active) → TopApart n older → Done p one n older → Done p two n older
  done n [] far h = tt
  done n (b ∷ older) far h =
      awaited_both (Seats n b.frame b.this) (Kept p one n b.frame b.this) (Kept p two n b.frame b.this) (λ d e k x t. free (seat n b.frame b.this e) (elsewhere n b.frame b.this d e k t) (x t)) b.control (awaited_all N (λ o. IsElsewhere p (homes o) n b.frame b.this) b.control far) h

  abbrev Builds : Told → Exec → Value → Active → ℕ → Expr → Type 0
  Builds told n this b d e = EndsTask p d → (x : ℕ) × (this ≡ Object x) × IsFreeBut told x (seat n b.frame b.this e)

  begun : (n : Exec) (this : Value) (older : List Active) → TopApart n older → Begun p one n this older → Begun p two n this older
  begun n this [] far h = tt
  begun n this (b ∷ older) far h =
      awaited_both (Seats n b.frame b.this) (Builds one n this b) (Builds two n this b) (λ d e k x t. let y = x t in (y.0, y.1, free_but y.0 (seat n b.frame b.this e) (elsewhere n b.frame b.this d e k t) y.2)) b.control (awaited_all N (λ o. IsElsewhere p (homes o) n b.frame b.this) b.control far) h

  object_is : (this : Value) (o x : ℕ) → o ≡ piece.object_in this → this ≡ Object x → x ≡ o
  object_is this o x e q = sym (e ∙ ap piece.object_in q)

  spawned : (n : Exec) (this : Value) (older : List Active) (o : ℕ) → o ≡ piece.object_in this → after o ≡ false → TopApart n older → Begun p one n this older → Done p two n older
  spawned n this [] o e k far h = tt
  spawned n this (b ∷ older) o e k far h =
      awaited_both (Seats n b.frame b.this) (Builds one n this b) (Kept p two n b.frame b.this) (λ d q s x t. let y = x t in free_now y.0 (seat n b.frame b.this q) (subst (λ o. after o ≡ false) (sym (object_is this o y.0 e y.1)) k) (elsewhere n b.frame b.this d q s t) y.2) b.control (awaited_all N (λ o. IsElsewhere p (homes o) n b.frame b.this) b.control far) h

  abbrev RunApart : Exec → List Active → Active → Type 0
  RunApart n older a = (o : ℕ) → N o → ApartRuns p (homes o) n older a

  pub finds : (many : ℕ) (n : Exec) (older : List Active) (a : Active) → RunApart n older a → TopApart n older → Finds p source one many n older a → Finds p source two many n older a
  finds many n older a far top h = record {
    marks = h.marks;
    holds = h.holds;
    ok = ok_more p source (Done p one n older) (Begun p one n a.this older) (Kept p one n a.frame a.this) (Done p two n older) (Begun p two n a.this older) (Kept p two n a.frame a.this) (done n older top) (begun n a.this older top) _ a.control (keeps n a.frame a.this a.control far) h.ok;
  }

  pub spawns : (n : Exec) (older : List Active) (a : Active) (o : ℕ) → o ≡ piece.object_in a.this → after o ≡ false → RunApart n older a → TopApart n older → Spawning p source one n older a → Finds p source two 0 n older a
  spawns n older a o e k far top h = record {
    marks = h.marks;
    holds = h.holds;
    ok = ok_more p source (Done p one n older ⊎ Begun p one n a.this older) (Begun p one n a.this older) (Kept p one n a.frame a.this) (Done p two n older) (Begun p two n a.this older) (Kept p two n a.frame a.this) either_done (begun n a.this older top) h.marks a.control (keeps n a.frame a.this a.control far) h.ok;
  }
    where
      either_done : Done p one n older ⊎ Begun p one n a.this older → Done p two n older
      either_done (inl d) = done n older top d
      either_done (inr b) = spawned n a.this older o e k top b

  abbrev WaitsApart : Exec → List Active → Type 0
  WaitsApart n cs = (o : ℕ) → N o → AllWait (ApartRuns p (homes o)) (ApartWaits p (homes o)) n cs

  pub top_apart : (n : Exec) (cs : List Active) → WaitsApart n cs → TopApart n cs
  top_apart n [] h = λ o k. tt
  top_apart n (b ∷ cs) h = λ o k. (h o k).0.1

  waits : (n : Exec) (older : List Active) (a : Active) → RunApart n older a → TopApart n older → Waits p source one n older a → Waits p source two n older a
  waits n older a far top (inl h) = inl (finds 1 n older a far top h)
  waits n older a far top (inr h) =
      inr (drop_ok p source (Done p one n older) (Begun p one n a.this older) (Kept p one n a.frame a.this) (Done p two n older) (Begun p two n a.this older) (Kept p two n a.frame a.this) (done n older top) (begun n a.this older top) a.control (keeps n a.frame a.this a.control far) h)

  pub all_waits : (n : Exec) (cs : List Active) → WaitsApart n cs → AllWait (Runs p source one) (Waits p source one) n cs → AllWait (Runs p source two) (Waits p source two) n cs
  all_waits n [] far h = tt
  all_waits n (a ∷ cs) far h =
      (waits n cs a (λ o k. (far o k).0.0) (top_apart n cs (λ o k. (far o k).1)) h.0, all_waits n cs (λ o k. (far o k).1) h.1)

  slot : (n : Exec) (x : Option (Execution (List Todo) Value)) → ((o : ℕ) → N o → NamedSlot (ApartRuns p (homes o)) (ApartWaits p (homes o)) n x) → NamedSlot (Runs p source one) (Waits p source one) n x → NamedSlot (Runs p source two) (Waits p source two) n x
  slot n None far h = tt
  slot n (Some x) far h = record {
    run = finds 0 n x.callers x.run (λ o k. (far o k).run) (top_apart n x.callers (λ o k. (far o k).callers)) h.run;
    callers = all_waits n x.callers (λ o k. (far o k).callers) h.callers;
  }

  pub parked : (h : Home) (ps : List (ℕ × Option (Execution (List Todo) Value))) → ((o : ℕ) → N o → NamedParked (ApartRuns p (homes o)) (ApartWaits p (homes o)) h ps) → NamedParked (Runs p source one) (Waits p source one) h ps → NamedParked (Runs p source two) (Waits p source two) h ps
  parked h [] far k = tt
  parked h (x ∷ ps) far k = (slot _ x.1 (λ o q. (far o q).0) k.0, parked h ps (λ o q. (far o q).1) k.1)

  pub members : (h : Home) (m : Option Members) → ((o : ℕ) → N o → NamedMembers (ApartRuns p (homes o)) (ApartWaits p (homes o)) h m) → NamedMembers (Runs p source one) (Waits p source one) h m → NamedMembers (Runs p source two) (Waits p source two) h m
  members h None far k = tt
  members h (Some m) far k = parked h m.parked far k
