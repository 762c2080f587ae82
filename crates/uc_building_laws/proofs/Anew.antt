-- Of what activations have still to call the constructors of nothing is bound yet, where what is free stays free.
use Rattle.std.proofs.Common.{◌≡◌, ℕ, ◌+◌, ◌≤◌, ◌<◌, refl, Bool, true, false, List, [], ◌∷◌, length, Some, ap, arith}
use Rattle.std.specs.Prelude.{min, nat_eq, nat_lt, slice_index_or}
use Rattle.std.proofs.lemmas.Bool.{eq-eqb, eqb-true, ltb-true, ltb-false}
use Rattle.std.proofs.Math.Nat.{min-le_left}
use Rattle.uc_tree.specs.Source as src
use Rattle.uc_tree.specs.Source.{CleanUp, Stmt, Stmts, Purpose, shape_cells, field_cells}
use Rattle.uc_machine.specs.Executions.{others, frame_changed, value_changed}
use Rattle.uc_machine.specs.Quiet as quiet
use Rattle.uc_machine.specs.Pieces as piece
use Rattle.uc_machine.specs.Pieces.{Slot, FieldAt, Value, Todo, Active, LAST_ADDRESS, address, stored, nought}
use Rattle.uc_typing.specs.Typing.{Ty, Cell, Table}
use Rattle.uc_state_laws.specs.RoomStacks.{Stack}
use Rattle.uc_life_laws.specs.Things.{IsField}
use Rattle.uc_life_laws.specs.LifeStates.{frame_at}
use Rattle.uc_life_laws.specs.LifeRuns.{span, IsLaidOut}
use Rattle.uc_place_laws.specs.Opened.{OpensOf, OfPlain, BuildsOf}
use Rattle.uc_place_laws.specs.OpeningLaws.{Awaited, NoneAwaited, AwaitedRest}
use Rattle.uc_place_laws.specs.Calling.{Calling, EndsBefore}
use Rattle.uc_place_laws.specs.Sparing.{CalledBefore}
use Rattle.uc_place_laws.proofs.OpeningMarks.{opens_any, builds_more}
use Rattle.uc_building_laws.specs.Anew.{OnWay, IsFree, IsAnew, AllAnew}
use Rattle.uc_building_laws.proofs.Memory.{FrameLoosens, loose_newer, loose_older, frame_beside, past_stored}

-- lists

module _ (P Q R : ℕ → ℕ → Type 0) (f : (d k : ℕ) → P d k → Q d k → R d k) where
  plain_both : (c : CleanUp) → OfPlain P c → OfPlain Q c → OfPlain R c
  plain_both (src.Destroys (src.OfObject (src.CallOn d (src.Variable k) args))) h x = f d k h x
  plain_both (src.Destroys (src.OfObject (src.CallUnwritten d (src.Variable k)))) h x = f d k h x
  plain_both c h x = tt

  opens_both : (ss : Stmts) → OpensOf P ss → OpensOf Q ss → OpensOf R ss
  opens_both (src.Scoped c rest) h x = plain_both c h x
  opens_both ss h x = tt

  awaited_both : (l : List Todo) → Awaited P l → Awaited Q l → Awaited R l
  awaited_both (piece.DropNow ∷ (piece.Within line ∷ (piece.Rest ss ∷ todo))) h x = opens_both ss h x
  awaited_both l h x = tt

  rest_both : (l : List Todo) → AwaitedRest P l → AwaitedRest Q l → AwaitedRest R l
  rest_both (piece.Rest ss ∷ todo) h x = opens_both ss h x
  rest_both l h x = tt

  pub calling_both : (l : List Todo) → Calling P l → Calling Q l → Calling R l
  calling_both [] h x = tt
  calling_both (piece.Eval e ∷ todo) h x = (awaited_both todo h.0 x.0, calling_both todo h.1 x.1)
  calling_both (piece.Do a ∷ todo) h x = (rest_both todo h.0 x.0, calling_both todo h.1 x.1)
  calling_both (piece.CallOnNow r ∷ todo) h x = (awaited_both todo h.0 x.0, calling_both todo h.1 x.1)
  calling_both (piece.CallUnwrittenNow r ∷ todo) h x = (awaited_both todo h.0 x.0, calling_both todo h.1 x.1)
  calling_both (p ∷ todo) h x = calling_both todo h x

module _ (P : ℕ → ℕ → Type 0) where
  pub any_awaited : (l : List Todo) → NoneAwaited l → Awaited P l
  any_awaited (piece.DropNow ∷ (piece.Within line ∷ (piece.Rest ss ∷ todo))) h = opens_any P ss h
  any_awaited l h = tt

  pub any_rest : (l : List Todo) → AwaitedRest (λ d k. ⊥) l → AwaitedRest P l
  any_rest (piece.Rest ss ∷ todo) h = opens_any P ss h
  any_rest l h = tt

  -- behind a statement whose value is dropped
  pub rest_awaited : (line : ℕ) (l : List Todo) → AwaitedRest P l → Awaited P (piece.DropNow ∷ (piece.Within line ∷ l))
  rest_awaited line (piece.Rest ss ∷ todo) h = h
  rest_awaited line l h = tt

  -- behind a statement that is next on the way
  pub way_rest : (a : Stmt) (ss : Stmts) (l : List Todo) → BuildsOf P (src.Then a ss) → AwaitedRest P (piece.Rest ss ∷ l)
  way_rest a ss l h = h

  -- what is to do behind the first piece
  pub tail_calling : (p : Todo) (l : List Todo) → Calling P (p ∷ l) → Calling P l
  tail_calling (piece.Eval e) l h = h.1
  tail_calling (piece.Do a) l h = h.1
  tail_calling (piece.CallOnNow r) l h = h.1
  tail_calling (piece.CallUnwrittenNow r) l h = h.1
  tail_calling p l h = h

  -- as a routine begins
  pub behind_calling : (u : Purpose) (line : ℕ) → Calling P (quiet.behind_body u line)
  behind_calling src.TaskMain line = tt
  behind_calling src.CoroutineMain line = tt
  behind_calling src.Procedure line = tt
  behind_calling src.Function line = tt
  behind_calling src.Builder line = tt

pub calling_more : (P Q : ℕ → ℕ → Type 0) → ((d k : ℕ) → P d k → Q d k) → (l : List Todo) → Calling P l → Calling Q l
calling_more P Q f l h = calling_both P P Q (λ d k x y. f d k x) l h h

pub way_more : (P Q : ℕ → ℕ → Type 0) → ((d k : ℕ) → P d k → Q d k) → (l : List Todo) → OnWay P l → OnWay Q l
way_more P Q f (piece.Rest ss ∷ todo) h = builds_more P Q f ss h
way_more P Q f (piece.Within line ∷ (piece.Rest ss ∷ todo)) h = builds_more P Q f ss h
way_more P Q f (piece.Variables [] ∷ (piece.Within line ∷ (piece.Rest ss ∷ todo))) h = builds_more P Q f ss h
way_more P Q f l h = tt

-- where the fields of an object lie

abbrev pub spot : Table → ℕ → ℕ → ℕ → ℕ
spot t k i m = address (FieldAt (t.shape i) m ∷ (Slot k ∷ []))

spot_high : (t : Table) (k i m : ℕ) → spot t k i m ≤ k + field_cells (t.shape i) m
spot_high t k i m =
    let a : min (0 + k) LAST_ADDRESS ≤ 0 + k = min-le_left (0 + k) LAST_ADDRESS in
    let c : min (min (0 + k) LAST_ADDRESS + field_cells (t.shape i) m) LAST_ADDRESS ≤ min (0 + k) LAST_ADDRESS + field_cells (t.shape i) m = min-le_left (min (0 + k) LAST_ADDRESS + field_cells (t.shape i) m) LAST_ADDRESS in
    omega (arith, a, c)

pub spot_is : (t : Table) (k i m : ℕ) → spot t k i m < LAST_ADDRESS → spot t k i m ≡ k + field_cells (t.shape i) m
spot_is t k i m l = omega (arith, l)

pub spot_within : (t : Table) (Z : ℕ → ℕ → Type 0) → IsLaidOut Z t → (k i m : ℕ) → IsField t i m → (b : Ty) → t.fields i m ≡ Cell b → spot t k i m < k + shape_cells (t.shape i)
spot_within t Z laid k i m of b cell =
    let a = spot_high t k i m in
    let fits = laid.fields i m of in
    let one : span t (t.fields i m) ≡ 1 = ap (span t) cell in
    omega (arith, a, fits, one)

-- frames

module _ (t : Table) (heads : ℕ → ℕ → Bool) where
  pub anew_more : (fs gs : List (List Value)) (g : ℕ) → FrameLoosens fs gs g → (d k : ℕ) → IsAnew t heads fs g d k → IsAnew t heads gs g d k
  anew_more fs gs g l d k h i of m f told b e = l _ (h i of m f told b e)

  -- of each of these activations
  abbrev pub AllLoosen : List (List Value) → List (List Value) → List Active → Type 0
  AllLoosen fs gs [] = Unit {0}
  AllLoosen fs gs (a ∷ older) = FrameLoosens fs gs a.frame × AllLoosen fs gs older

  pub all_loosen : (fs gs : List (List Value)) → ((d : ℕ) → FrameLoosens fs gs d) → (cs : List Active) → AllLoosen fs gs cs
  all_loosen fs gs l [] = tt
  all_loosen fs gs l (a ∷ older) = (l a.frame, all_loosen fs gs l older)

  pub all_anew : (fs gs : List (List Value)) (cs : List Active) → AllLoosen fs gs cs → AllAnew t heads fs cs → AllAnew t heads gs cs
  all_anew fs gs [] l h = tt
  all_anew fs gs (a ∷ older) l h = (calling_more (IsAnew t heads fs a.frame) (IsAnew t heads gs a.frame) (λ d k x. anew_more fs gs a.frame l.0 d k x) a.control h.0, all_anew fs gs older l.1 h.1)

  module _ (Z : ℕ → ℕ → Type 0) where
    pub newer_loosen : (x : List Value) (fs : List (List Value)) (cs : List Active) → length cs ≤ length fs → Stack Z fs cs → AllLoosen fs (x ∷ fs) cs
    newer_loosen x fs [] l h = tt
    newer_loosen x fs (a ∷ older) l h =
        let le = h.0.frame in
        (loose_newer x fs a.frame (omega (arith, le, l)), newer_loosen x fs older (omega (arith, l)) h.1)

    pub older_loosen : (fs : List (List Value)) (cs : List Active) → length cs ≤ length (others fs) → Stack Z fs cs → AllLoosen fs (others fs) cs
    older_loosen fs [] l h = tt
    older_loosen fs (a ∷ older) l h =
        let le = h.0.frame in
        (loose_older fs a.frame (omega (arith, le, l)), older_loosen fs older (omega (arith, l)) h.1)

    -- before a cell before which the object ends
    spot_before : IsLaidOut Z t → (k i m : ℕ) → IsField t i m → (b : Ty) → t.fields i m ≡ Cell b → (d cell : ℕ) → (t.routine d).this ≡ Some i → EndsBefore Z cell d k → spot t k i m < LAST_ADDRESS → spot t k i m < cell
    spot_before laid k i m of b cell d c is e l =
        let n : shape_cells (t.shape i) ≤ e.0 = laid.counted d e.0 i e.1 is in
        let w = spot_within t Z laid k i m of b cell in
        let q = e.2 in
        omega (arith, n, w, q, l)

    -- something is bound behind them in a frame

    module _ (laid : IsLaidOut Z t) (fs : List (List Value)) (short : (d : ℕ) → length (frame_at d fs) ≤ LAST_ADDRESS) (e j : ℕ) (v : Value) where
      abbrev pub bound : List (List Value)
      bound = frame_changed e (value_changed j (stored v) nought) fs

      -- a cell that is no other, as far as it has an address of its own
      pub spared : (g cell : ℕ) → (g ≡ e → cell < LAST_ADDRESS → cell ≡ j → ⊥) → IsFree (slice_index_or (frame_at g fs) cell nought) → IsFree (slice_index_or (frame_at g bound) cell nought)
      spared g cell other h = by (nat_lt cell (length (frame_at g fs))) refl
        where
          by : (b : Bool) → nat_lt cell (length (frame_at g fs)) ≡ b → IsFree (slice_index_or (frame_at g bound) cell nought)
          by true q =
              let l = ltb-true cell (length (frame_at g fs)) q in
              let s = short g in
              frame_beside fs e j g cell v (λ x. other x (omega (arith, l, s))) h
          by false q = past_stored fs e j g cell v (ltb-false cell (length (frame_at g fs)) q)

      one_spared : (g d k : ℕ) → (g ≡ e → EndsBefore Z j d k) → IsAnew t heads fs g d k → IsAnew t heads bound g d k
      one_spared g d k before h i of m f told b c = spared g (spot t k i m) (λ x l q. let y = spot_before laid k i m f b c d j of (before x) l in omega (arith, y, q)) (h i of m f told b c)

      pub all_spared : (cs : List Active) → CalledBefore Z j e cs → AllAnew t heads fs cs → AllAnew t heads bound cs
      all_spared [] k h = tt
      all_spared (a ∷ older) k h = (by (nat_eq a.frame e) refl, all_spared older k.1 h.1)
        where
          by : (b : Bool) → nat_eq a.frame e ≡ b → Calling (IsAnew t heads bound a.frame) a.control
          by true q =
              let same : a.frame ≡ e = eqb-true a.frame e q in
              calling_both (IsAnew t heads fs a.frame) (EndsBefore Z j) (IsAnew t heads bound a.frame) (λ d m x y. one_spared a.frame d m (λ z. y) x) a.control h.0 (k.0 same)
          by false q =
              let differs : a.frame ≡ e → ⊥ = λ z. let y : nat_eq a.frame e ≡ true = eq-eqb a.frame e z in absurd (cc) in
              calling_more (IsAnew t heads fs a.frame) (IsAnew t heads bound a.frame) (λ d m x. one_spared a.frame d m (λ z. absurd (differs z)) x) a.control h.0
