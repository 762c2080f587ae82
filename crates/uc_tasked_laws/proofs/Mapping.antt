-- To-do lists stay in order where less is told of seats.
use Rattle.std.proofs.Common.{ℕ, suc, ◌⊎◌, inl, inr, List, [], ◌∷◌}
use Rattle.uc_tree.specs.Programs.{Program}
use Rattle.uc_tree.specs.Source as src
use Rattle.uc_tree.specs.Source.{Expr, CleanUp, Source}
use Rattle.uc_machine.specs.Pieces as piece
use Rattle.uc_machine.specs.Pieces.{Todo, Sort}
use Rattle.uc_state_laws.specs.Counted.{params}
use Rattle.uc_tasked_laws.specs.Seated.{IsSpawning, IsTame, AreTame, OfScope, OfPart, Makes, Before}
use Rattle.uc_tasked_laws.specs.Seats.{QuitsBy, Quits, QuitsAt, Mark, Any, At, rest, rests, anys, Placed, Every, AtEnd, CalledBy, after, Ok, AtRest, AtDrop, AtCall, Left}
use Rattle.uc_tasked_laws.specs.SeatedStates.{MarkHas, AllHave}
use Rattle.uc_tasked_laws.proofs.Marks.{scope_both, part_both, rest_more, drop_more, call_more}

module _ (P : ℕ → Expr → Type 0) (h : (d : ℕ) (e : Expr) → P d e) where
  scope_has : (c : CleanUp) → OfScope P c
  scope_has (src.Destroys (src.OfObject (src.EndOn d written (src.Load (src.Variable k))))) = h d (src.Variable k)
  scope_has c = tt

  part_has : (c : CleanUp) → OfPart P c
  part_has (src.Destroys (src.OfObject (src.EndOn d written (src.Load (src.OfObject (src.OwnField s i)))))) = h d (src.OfObject (src.OwnField s i))
  part_has c = tt

  mark_has : (x : Todo) → MarkHas P x
  mark_has (piece.Clean c) = scope_has c
  mark_has (piece.Part c) = part_has c
  mark_has x = tt

  pub all_have : (todo : List Todo) → AllHave P todo
  all_have [] = tt
  all_have (x ∷ todo) = (mark_has x, all_have todo)

placed_more : (e : Expr) (P Q : Expr → Type 0) → ((q : Expr) → P q → Q q) → Placed e P → Placed e Q
placed_more (src.Variable k) P Q f h = f (src.Variable k) h
placed_more (src.OfObject (src.OwnField s i)) P Q f h = f (src.OfObject (src.OwnField s i)) h
placed_more e P Q f h = absurd h

either_more : (A B C D : Type 0) → (A → C) → (B → D) → A ⊎ B → C ⊎ D
either_more A B C D f g (inl h) = inl (f h)
either_more A B C D f g (inr h) = inr (g h)

module _ (p : Program) (source : Source) (D B : Type 0) (S : ℕ → Expr → Type 0) (D2 B2 : Type 0) (S2 : ℕ → Expr → Type 0) (done : D → D2) (begun : B → B2) where
  abbrev More : List Todo → Type 0
  More todo = AllHave (λ d e. S d e → S2 d e) todo

  -- the scope that may open next is the same
  rest_join : (P : ℕ → Expr → Type 0) (todo : List Todo) → AtRest p source D B S P todo → AtRest p source D2 B2 S2 Every todo → AtRest p source D2 B2 S2 P todo
  rest_join P (piece.Rest ss ∷ todo) h k = (h.0, k.1, k.2)
  rest_join P todo h k = absurd h

  drop_join : (P : ℕ → Expr → Type 0) (todo : List Todo) → AtDrop p source D B S P todo → AtDrop p source D2 B2 S2 Every todo → AtDrop p source D2 B2 S2 P todo
  drop_join P (piece.DropNow ∷ (piece.Within line ∷ todo)) h k = rest_join P todo h k
  drop_join P todo h k = absurd h

  call_join : (r : ℕ) (P : ℕ → Expr → Type 0) (todo : List Todo) → AtCall p source D B S r P todo → AtCall p source D2 B2 S2 r Every todo → AtCall p source D2 B2 S2 r P todo
  call_join r P (piece.CallOnNow q ∷ todo) h k = (h.0, drop_join P todo h.1 k.1)
  call_join r P (piece.CallUnwrittenNow q ∷ todo) h k = (h.0, drop_join P todo h.1 k.1)
  call_join r P todo h k = absurd h

  by_sort : (k : Sort) (X Y : Type 0) → (X → Y) → QuitsBy k X → QuitsBy k Y
  by_sort piece.IsWhole X Y f h = tt
  by_sort piece.Simple X Y f h = f h
  by_sort (piece.IsLoop o t e b) X Y f h = f h
  by_sort (piece.IsClean c) X Y f h = f h
  by_sort (piece.IsFill n b d) X Y f h = f h
  by_sort (piece.IsSweep e) X Y f h = f h
  by_sort (piece.IsPart c) X Y f h = f h
  by_sort (piece.IsGuard hs) X Y f h = f h
  by_sort piece.IsFinish X Y f h = f h
  by_sort piece.IsFinishCoroutine X Y f h = f h

  quits_more : (todo : List Todo) → Quits p source D B S todo → Quits p source D2 B2 S2 todo
  quits_more [] h = done h
  quits_more (x ∷ todo) h = by_sort (piece.sort x) (Quits p source D B S todo) (Quits p source D2 B2 S2 todo) (λ k. quits_more todo k) h

  at_more : (c : CleanUp) (todo : List Todo) → QuitsAt p source D B S c todo → QuitsAt p source D2 B2 S2 c todo
  at_more src.Leaves todo h = quits_more todo h
  at_more c todo h = tt

  -- of statements that are tame, or may be left
  or_more : (X : Type 0) (todo : List Todo) → X ⊎ Quits p source D B S todo → X ⊎ Quits p source D2 B2 S2 todo
  or_more X todo (inl h) = inl h
  or_more X todo (inr h) = inr (quits_more todo h)

  mutual
    pub ok_more : (ms : List Mark) (todo : List Todo) → More todo → Ok p source D B S ms todo → Ok p source D2 B2 S2 ms todo
    ok_more ms [] a h = done h
    ok_more ms (piece.Eval e ∷ todo) a h =
        (h.0, either_more (Ok p source D B S (Any ∷ ms) todo) (AtDrop p source D B S (Makes p e) todo ⊎ Placed e (λ q. Ok p source D B S (At q ∷ ms) todo)) (Ok p source D2 B2 S2 (Any ∷ ms) todo) (AtDrop p source D2 B2 S2 (Makes p e) todo ⊎ Placed e (λ q. Ok p source D2 B2 S2 (At q ∷ ms) todo)) (λ x. ok_more (Any ∷ ms) todo a.1 x) (λ x. either_more (AtDrop p source D B S (Makes p e) todo) (Placed e (λ q. Ok p source D B S (At q ∷ ms) todo)) (AtDrop p source D2 B2 S2 (Makes p e) todo) (Placed e (λ q. Ok p source D2 B2 S2 (At q ∷ ms) todo)) (λ y. drop_join (Makes p e) todo y (drop_ok todo a.1 (drop_more p source D B S (Makes p e) Every (λ d q z. tt) todo y))) (λ y. placed_more e (λ q. Ok p source D B S (At q ∷ ms) todo) (λ q. Ok p source D2 B2 S2 (At q ∷ ms) todo) (λ q z. ok_more (At q ∷ ms) todo a.1 z) y) x) h.1)
    ok_more ms (piece.MakeNow c r ∷ todo) a h =
        either_more (Ok p source D B S (anys (suc (params source r)) (rests (suc (params source r)) ms)) todo) (AtCall p source D B S r (CalledBy p r (rests (params source r) ms)) todo) (Ok p source D2 B2 S2 (anys (suc (params source r)) (rests (suc (params source r)) ms)) todo) (AtCall p source D2 B2 S2 r (CalledBy p r (rests (params source r) ms)) todo) (λ x. ok_more (anys (suc (params source r)) (rests (suc (params source r)) ms)) todo a.1 x) (λ x. call_join r (CalledBy p r (rests (params source r) ms)) todo x (call_ok r todo a.1 (call_more p source D B S r (CalledBy p r (rests (params source r) ms)) Every (λ d q z. tt) todo x))) h
    ok_more ms (piece.BindMadeNow c r ∷ todo) a h =
        either_more (Ok p source D B S (anys (suc (params source r)) (rests (suc (params source r)) (rest ms))) todo) (AtCall p source D B S r (CalledBy p r (rests (params source r) (rest ms))) todo) (Ok p source D2 B2 S2 (anys (suc (params source r)) (rests (suc (params source r)) (rest ms))) todo) (AtCall p source D2 B2 S2 r (CalledBy p r (rests (params source r) (rest ms))) todo) (λ x. ok_more (anys (suc (params source r)) (rests (suc (params source r)) (rest ms))) todo a.1 x) (λ x. call_join r (CalledBy p r (rests (params source r) (rest ms))) todo x (call_ok r todo a.1 (call_more p source D B S r (CalledBy p r (rests (params source r) (rest ms))) Every (λ d q z. tt) todo x))) h
    ok_more ms (piece.Do y ∷ todo) a h =
        (h.0, either_more (Ok p source D B S [] todo) (AtRest p source D B S (Before p y) todo) (Ok p source D2 B2 S2 [] todo) (AtRest p source D2 B2 S2 (Before p y) todo) (λ x. ok_more [] todo a.1 x) (λ x. rest_join (Before p y) todo x (rest_ok todo a.1 (rest_more p source D B S (Before p y) Every (λ d q z. tt) todo x))) h.1, or_more (IsTame y) todo h.2)
    ok_more ms (piece.Rest ss ∷ todo) a h = (h.0, ok_more [] todo a.1 h.1, or_more (AreTame ss) todo h.2)
    ok_more ms (piece.Branch b c ∷ todo) a h = (h.0, ok_more [] todo a.1 h.1, quits_more todo h.2)
    ok_more ms (piece.TurnNow o t e b ∷ todo) a h = (h.0, ok_more [] todo a.1 h.1, quits_more todo h.2)
    ok_more ms (piece.Again o t e b ∷ todo) a h = (h.0, ok_more [] todo a.1 h.1, quits_more todo h.2)
    ok_more ms (piece.InLoop o t e b ∷ todo) a h = (h.0, ok_more [] todo a.1 h.1, quits_more todo h.2)
    ok_more ms (piece.ChooseNow cs ∷ todo) a h = (h.0, ok_more [] todo a.1 h.1, quits_more todo h.2)
    ok_more ms (piece.Guard hs ∷ todo) a h = (h.0, ok_more [] todo a.1 h.1, quits_more todo h.2)
    ok_more ms (piece.Exit w ∷ todo) a h = (left_ok todo a.1 h.0, quits_more todo h.1)
    ok_more ms (piece.Unwind ∷ todo) a h = left_ok todo a.1 h
    ok_more ms (piece.Clean c ∷ todo) a h =
        ((h.0.0, scope_both (λ d e. S d e → S2 d e) S S2 (λ d e f x. f x) c a.0 h.0.1), either_more (Ok p source D B S [] todo) (B × IsSpawning c × AtEnd todo) (Ok p source D2 B2 S2 [] todo) (B2 × IsSpawning c × AtEnd todo) (λ x. ok_more [] todo a.1 x) (λ x. (begun x.0, x.1, x.2)) h.1, at_more c todo h.2)
    ok_more ms (piece.Part c ∷ todo) a h =
        ((h.0.0, part_both (λ d e. S d e → S2 d e) S S2 (λ d e f x. f x) c a.0 h.0.1), ok_more [] todo a.1 h.1)
    ok_more ms (piece.Finish ∷ todo) a h = (done h.0, ok_more [] todo a.1 h.1)
    ok_more ms (x ∷ todo) a h = (h.0, ok_more (after source x ms) todo a.1 h.1)

    rest_ok : (todo : List Todo) → More todo → AtRest p source D B S Every todo → AtRest p source D2 B2 S2 Every todo
    rest_ok (piece.Rest ss ∷ todo) a h = (h.0, ok_more [] todo a.1 h.1, or_more (AreTame ss) todo h.2)
    rest_ok todo a h = absurd h

    pub drop_ok : (todo : List Todo) → More todo → AtDrop p source D B S Every todo → AtDrop p source D2 B2 S2 Every todo
    drop_ok (piece.DropNow ∷ (piece.Within line ∷ todo)) a h = rest_ok todo a.1.1 h
    drop_ok todo a h = absurd h

    call_ok : (r : ℕ) (todo : List Todo) → More todo → AtCall p source D B S r Every todo → AtCall p source D2 B2 S2 r Every todo
    call_ok r (piece.CallOnNow q ∷ todo) a h = (h.0, drop_ok todo a.1 h.1)
    call_ok r (piece.CallUnwrittenNow q ∷ todo) a h = (h.0, drop_ok todo a.1 h.1)
    call_ok r todo a h = absurd h

    left_ok : (todo : List Todo) → More todo → Left p source D B S todo → Left p source D2 B2 S2 todo
    left_ok [] a h = tt
    left_ok (piece.InLoop o t e b ∷ todo) a h = (h.0, ok_more [] todo a.1 h.1)
    left_ok (piece.InWhole ∷ todo) a h = ok_more [] todo a.1 h
    left_ok (piece.Clean c ∷ todo) a h =
        ((h.0.0, scope_both (λ d e. S d e → S2 d e) S S2 (λ d e f x. f x) c a.0 h.0.1), either_more (Ok p source D B S [] todo) (B × IsSpawning c × AtEnd todo) (Ok p source D2 B2 S2 [] todo) (B2 × IsSpawning c × AtEnd todo) (λ x. ok_more [] todo a.1 x) (λ x. (begun x.0, x.1, x.2)) h.1, at_more c todo h.2)
    left_ok (piece.FillNow n b d ∷ todo) a h = (h.0, ok_more [] todo a.1 h.1)
    left_ok (piece.Sweep e ∷ todo) a h = (h.0, ok_more [] todo a.1 h.1)
    left_ok (piece.Part c ∷ todo) a h =
        ((h.0.0, part_both (λ d e. S d e → S2 d e) S S2 (λ d e f x. f x) c a.0 h.0.1), ok_more [] todo a.1 h.1)
    left_ok (piece.Guard hs ∷ todo) a h = (h.0, ok_more [] todo a.1 h.1, quits_more todo h.2)
    left_ok (piece.Finish ∷ todo) a h = (done h.0, ok_more [] todo a.1 h.1)
    left_ok (piece.FinishCoroutine ∷ todo) a h = ok_more [] todo a.1 h
    left_ok (x ∷ todo) a h = left_ok todo a.1 h
