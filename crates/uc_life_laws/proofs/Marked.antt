-- Who has a mark has a mutex object at hand.
use Rattle.std.proofs.Common.{◌≡◌, ℕ, ◌<◌, Bool, true, false, List, [], ◌∷◌, refl, subst, arith}
use Rattle.uc_tree.specs.Source as src
use Rattle.uc_tree.specs.Source.{CleanUp, Source}
use Rattle.uc_machine.specs.Pieces as piece
use Rattle.uc_machine.specs.Pieces.{Todo, Sort, sort}
use Rattle.uc_typing.specs.Typing.{Ty, Name, Sig, Table, InMutex, FineClean}
use Rattle.uc_typing.specs.Pieces.{Popped, Met, Ok, Left}
use Rattle.uc_typing.proofs.Control.{left}
use Rattle.uc_depth_laws.specs.Entering.{Aspect, lets_go}
use Rattle.uc_depth_laws.specs.Owing.{First, Any, Done, Skipped, CallOf, Bound, next, owes, more, marks, Allowed, Entered}
use Rattle.uc_depth_laws.proofs.Depths.{holds_none}
use Rattle.uc_life_laws.specs.AtHand.{NoScopes}

-- a list that is not done next

abbrev pub IsBehind : First → Type 0
IsBehind Done = ⊥
IsBehind f = Unit {0}

next_behind : (p : Todo) → IsBehind (next p)
next_behind (piece.EnterNow m r) = tt
next_behind (piece.MakeNow c r) = tt
next_behind (piece.BindMadeNow c r) = tt
next_behind piece.Unwind = tt
next_behind (piece.Exit w) = tt
next_behind p = tt

-- a piece there that has a mark is that of a scope
record Scope (p : Todo) : Type 0 where
  clean : CleanUp
  is : p ≡ piece.Clean clean
  lets : lets_go clean ≡ true

true_false : {A : Type 0} → true ≡ false → A
true_false e = cc

module _ (source : Source) (told : Aspect → Bool) where
  owing : (p : Todo) → Allowed source told Any p → owes p ≡ true → Scope p
  owing (piece.Rest ss) h e = true_false (let a = holds_none source ss h in cc)
  owing (piece.Clean c) h e = record { clean = c; is = refl; lets = e }
  owing piece.LeaveNow h e = absurd h
  owing piece.GoneNow h e = absurd h
  owing piece.MadeNow h e = absurd h
  owing (piece.SpawnNow r) h e = absurd h
  owing piece.GiveUpNow h e = absurd h
  owing p h e = cc

  called : (r : ℕ) (p : Todo) → Allowed source told (CallOf r) p → owes p ≡ true → Scope p
  called r (piece.CallOnNow k) h e = cc
  called r (piece.CallUnwrittenNow k) h e = cc
  called r p h e = absurd h

  skipped : (p : Todo) → Allowed source told Skipped p → owes p ≡ true → Scope p
  skipped (piece.CallOnNow k) h e = cc
  skipped (piece.CallUnwrittenNow k) h e = cc
  skipped p h e = owing p h e

  bound : (p : Todo) → Allowed source told Bound p → owes p ≡ true → Scope p
  bound (piece.BindMadeNow c r) h e = cc
  bound p h e = absurd h

  scope_of : (f : First) (p : Todo) → IsBehind f → Allowed source told f p → owes p ≡ true → Scope p
  scope_of Any p b h e = owing p h e
  scope_of Done p b h e = absurd b
  scope_of Skipped p b h e = skipped p h e
  scope_of (CallOf r) p b h e = called r p h e
  scope_of Bound p b h e = bound p h e

  -- where no scope is open, nothing is owed
  pub none_marked : (f : First) → IsBehind f → (todo : List Todo) → Entered source told f todo → NoScopes todo → marks todo ≡ 0
  none_marked f b [] h n = refl
  none_marked f b (p ∷ todo) h n = by (owes p) refl (λ k. none_marked (next p) (next_behind p) todo h.1 k)
    where
      rest : (q : Todo) → NoScopes (q ∷ todo) → NoScopes todo
      rest (piece.Clean c) k = absurd k
      rest q k = k

      unscoped : (c : CleanUp) → p ≡ piece.Clean c → ⊥
      unscoped c e = subst (λ q. NoScopes (q ∷ todo)) e n

      by : (c : Bool) → owes p ≡ c → (NoScopes todo → marks todo ≡ 0) → more c (marks todo) ≡ 0
      by true e ih = let x = scope_of f p b h.0 e in absurd (unscoped x.clean x.is)
      by false e ih = ih (rest p n)

  module _ (t : Table) (g : Sig) (base : List Name) where
    -- what stands behind a piece
    abbrev LeftOut : List Todo → Type 0
    LeftOut todo = (sc : List Name) × Left t g base sc todo

    met : (sc : List Name) (k : Sort) (todo : List Todo) → Met t g sc k (λ sc. Left t g base sc todo) (λ sc. Ok t g base sc todo) → LeftOut todo
    met sc piece.Simple todo h = (sc, h)
    met sc (piece.IsLoop o e step b) todo h = (sc, h.2)
    met sc piece.IsWhole todo h = (sc, left t g base sc todo [] h.1)
    met [] (piece.IsClean c) todo h = absurd h
    met (x ∷ sc) (piece.IsClean c) todo h = (sc, h.2)
    met sc (piece.IsFill n b d) todo h = (sc, h.1)
    met sc (piece.IsSweep e) todo h = (sc, h.1)
    met sc (piece.IsPart c) todo h = (sc, h.1)
    met sc (piece.IsGuard hs) todo h = (sc, h.2)
    met sc piece.IsFinish todo h = (sc, left t g base sc todo [] h)
    met sc piece.IsFinishCoroutine todo h = (sc, left t g base sc todo [] h)

    cleaned : (sc : List Name) (c : CleanUp) → lets_go c ≡ true → FineClean t g sc c → InMutex t g
    cleaned sc src.Leaves e h = h.0
    cleaned sc src.Ends e h = h
    cleaned sc (src.Frees r) e h = h.0
    cleaned sc c e h = cc

    popped : (sc : List Name) (c : CleanUp) (X : List Name → Type 0) → lets_go c ≡ true → Popped t g c sc X → InMutex t g
    popped [] c X e h = absurd h
    popped (x ∷ sc) c X e h = cleaned sc c e h.1

    pub left_mutex : (f : First) (sc : List Name) (todo : List Todo) → IsBehind f → Left t g base sc todo → Entered source told f todo → 0 < marks todo → InMutex t g
    left_mutex f sc [] b h n l = let z : ⊥ = omega (arith, l) in absurd z
    left_mutex f sc (p ∷ todo) b h n l = by (owes p) refl l (λ sc k l. left_mutex (next p) sc todo (next_behind p) k n.1 l)
      where
        by : (c : Bool) → owes p ≡ c → 0 < more c (marks todo) → ((sc : List Name) → Left t g base sc todo → 0 < marks todo → InMutex t g) → InMutex t g
        by true e l ih =
            let x = scope_of f p b n.0 e in
            popped sc x.clean (λ sc. Left t g base sc todo) x.lets (subst (λ q. Met t g sc (sort q) (λ sc. Left t g base sc todo) (λ sc. Ok t g base sc todo)) x.is h)
        by false e l ih = let y = met sc (sort p) todo h in ih y.0 y.1 l

    -- so it is of an activation in order that does not run, or waits
    pub ok_mutex : (f : First) → IsBehind f → (sc : List Name) (todo : List Todo) (own : List Ty) → Ok t g base sc todo own → Entered source told f todo → 0 < marks todo → InMutex t g
    ok_mutex f b sc todo own h n l = left_mutex f sc todo b (left t g base sc todo own h) n l
