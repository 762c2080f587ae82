-- Activations that use one frame: a call and a handler keep what is known of them, and what a search finds lies behind all their objects.
use Rattle.std.proofs.Common.{◌≡◌, ℕ, suc, ◌+◌, ◌<◌, ◌≤◌, ◌⊎◌, inl, inr, Bool, true, false, ◌&&◌, List, [], ◌∷◌, length, Option, Some, None, refl, sym, ap, ◌∙◌, subst, arith}
use Rattle.std.specs.Prelude.{nat_eq, if◌then◌else◌, map}
use Rattle.std.proofs.lemmas.Bool.{eqb-true, eq-eqb}
use Rattle.uc_tree.specs.Source as src
use Rattle.uc_tree.specs.Source.{Stmts, Handlers, CleanUp}
use Rattle.uc_machine.specs.declared.exec.Visited.{Visited}
use Rattle.uc_machine.specs.Executions as exec
use Rattle.uc_machine.specs.Executions.{at_depth, list_in}
use Rattle.uc_machine.specs.Pieces as piece
use Rattle.uc_machine.specs.Pieces.{Value, Todo, Sort, Active}
use Rattle.uc_machine.specs.Raising as raising
use Rattle.uc_machine.specs.Raising.{Event, Handler, Found, Hit, count_by, count_round, handler_count, hit_in, hit_by, hit_or, within, seek, found_or, handler_for}
use Rattle.uc_site_laws.proofs.Kept.{either}
use Rattle.uc_state_laws.specs.Rooms.{Room, IsRoom, IsWithin, IsBehind, Clears, StmtsIn, HandlersIn}
use Rattle.uc_state_laws.specs.RoomStates.{PieceIn, Reached, TodoIn, AllBefore}
use Rattle.uc_state_laws.specs.RoomStacks.{frame_cells, TodoTo, SomeTo, From, UpTo, GuardFrom, GuardsFrom, AboveAt, Above, Beneath, Over, OverAll, Stacked, Stack, FrameBefore, FrameBeneath}
use Rattle.uc_state_laws.proofs.RoomLemmas.{within_room}
use Rattle.uc_state_laws.proofs.ScopeSteps as steps

-- how many cells frames have

newest_cells : (f : List Value) (fs : List (List Value)) (d : ℕ) → d ≡ length fs → frame_cells (f ∷ fs) d ≡ length f
newest_cells f fs d e = let q : nat_eq d (length fs) ≡ true = eq-eqb d (length fs) e in rw q

newer_cells : (f : List Value) (fs : List (List Value)) (d : ℕ) → d < length fs → frame_cells (f ∷ fs) d ≡ frame_cells fs d
newer_cells f fs d l = by (nat_eq d (length fs)) refl
  where
    by : (b : Bool) → nat_eq d (length fs) ≡ b → length (list_in (if b then Some f else at_depth fs d)) ≡ frame_cells fs d
    by true e = let q : d ≡ length fs = eqb-true d (length fs) e in let n : ⊥ = omega (arith, q, l) in absurd n
    by false e = refl

older_cells : (fs : List (List Value)) (d : ℕ) → d < length (exec.others fs) → frame_cells (exec.others fs) d ≡ frame_cells fs d
older_cells [] d l = refl
older_cells (f ∷ fs) d l = sym (newer_cells f fs d l)

-- frames that have as many cells as others
pub as_many : (fs gs : List (List Value)) → map length fs ≡ map length gs → length fs ≡ length gs
as_many [] [] e = refl
as_many [] (g ∷ gs) e = absurd (cc)
as_many (f ∷ fs) [] e = absurd (cc)
as_many (f ∷ fs) (g ∷ gs) e =
    let rest : map length fs ≡ map length gs = cc in
    ap suc (as_many fs gs rest)

same_cells : (fs gs : List (List Value)) (d : ℕ) → map length fs ≡ map length gs → frame_cells fs d ≡ frame_cells gs d
same_cells [] [] d e = refl
same_cells [] (g ∷ gs) d e = absurd (cc)
same_cells (f ∷ fs) [] d e = absurd (cc)
same_cells (f ∷ fs) (g ∷ gs) d e =
    let rest : map length fs ≡ map length gs = cc in
    let newest : length f ≡ length g = cc in
    subst (λ n. frame_cells (f ∷ fs) d ≡ length (list_in (if nat_eq d n then Some g else at_depth gs d))) (as_many fs gs rest) (by (nat_eq d (length fs)) newest (same_cells fs gs d rest))
  where
    by : (b : Bool) → length f ≡ length g → frame_cells fs d ≡ frame_cells gs d → length (list_in (if b then Some f else at_depth fs d)) ≡ length (list_in (if b then Some g else at_depth gs d))
    by true n h = n
    by false n h = h

-- numbers of what stands round

count_within : (n : ℕ) (todo : List Todo) → count_round (within n todo) ≤ count_round todo
count_within n [] = omega arith
count_within n (p ∷ ps) =
    let h = count_within n ps in
    either (λ (l : List Todo). count_round l ≤ count_round (p ∷ ps)) (nat_eq (count_round (p ∷ ps)) n) (p ∷ ps) (within n ps) (omega arith) (omega (arith, h))

-- what stands outwards of a place is found from what stands within it
past : (n : ℕ) (p : Todo) (ps : List Todo) → n < count_round ps → within n (p ∷ ps) ≡ within n ps
past n p ps l = by (nat_eq (count_round (p ∷ ps)) n) refl
  where
    by : (b : Bool) → nat_eq (count_round (p ∷ ps)) n ≡ b → (if b then p ∷ ps else within n ps) ≡ within n ps
    by true e = let q : count_round (p ∷ ps) ≡ n = eqb-true (count_round (p ∷ ps)) n e in let f : ⊥ = omega (arith, q, l) in absurd f
    by false e = refl

within_within : (n m : ℕ) (todo : List Todo) → n < count_round (within m todo) → within n (within m todo) ≡ within n todo
within_within n m [] l = refl
within_within n m (p ∷ ps) l = by (nat_eq (count_round (p ∷ ps)) m) l (λ k. within_within n m ps k)
  where
    by : (b : Bool) → n < count_round (if b then p ∷ ps else within m ps) → (n < count_round (within m ps) → within n (within m ps) ≡ within n ps) → within n (if b then p ∷ ps else within m ps) ≡ within n (p ∷ ps)
    by true l ih = refl
    by false l ih =
        let le = count_within m ps in
        ih l ∙ sym (past n p ps (omega (arith, l, le)))

-- what is found stands outwards of its guarded block

abbrev RestLess : ℕ → Option Hit → Type 0
RestLess n None = Unit {0}
RestLess n (Some h) = h.rest < n

rest_more : (m n : ℕ) (o : Option Hit) → m ≤ n → RestLess m o → RestLess n o
rest_more m n None le h = tt
rest_more m n (Some y) le h = omega (arith, le, h)

rest_or : (hs : Handlers) (n : ℕ) (o : Option Handler) (other : Option Hit) → (o ≡ None) ⊎ (0 < handler_count hs) → RestLess n other → RestLess (handler_count hs + n) (hit_or o n other)
rest_or hs n None other c h = rest_more n (handler_count hs + n) other (omega arith) h
rest_or hs n (Some y) other (inl q) h = absurd (cc)
rest_or hs n (Some y) other (inr c) h = omega (arith, c)

some_handler : (kind : Bool) (e : Event) (hs : Handlers) → (handler_for kind e hs ≡ None) ⊎ (0 < handler_count hs)
some_handler kind e src.NoHandlers = inl refl
some_handler kind e (src.MoreHandlers resumes event cell line body rest) = inr (omega arith)

rest_by : (k : Sort) (n : ℕ) (e : Event) (other : Option Hit) → RestLess n other → RestLess (count_by k + n) (hit_by k n e other)
rest_by (piece.IsGuard hs) n e other h = rest_or hs n (handler_for true e hs) other (some_handler true e hs) h
rest_by k n e other h = rest_more n (count_by k + n) other (omega arith) h

rest_less : (e : Event) (todo : List Todo) → RestLess (count_round todo) (hit_in e todo)
rest_less e [] = tt
rest_less e (p ∷ ps) = rest_by (piece.sort p) (count_round ps) e (hit_in e ps) (rest_less e ps)

past_guard : (p : Todo) (ps : List Todo) (hs : Handlers) → count_by (piece.sort p) ≡ handler_count hs → 0 < handler_count hs → within (count_round ps) (p ∷ ps) ≡ within (count_round ps) ps
past_guard p ps hs c q = by (nat_eq (count_round (p ∷ ps)) (count_round ps)) refl
  where
    by : (b : Bool) → nat_eq (count_round (p ∷ ps)) (count_round ps) ≡ b → (if b then p ∷ ps else within (count_round ps) ps) ≡ within (count_round ps) ps
    by true e = let l : count_by (piece.sort p) + count_round ps ≡ count_round ps = eqb-true (count_round (p ∷ ps)) (count_round ps) e in let f : ⊥ = omega (arith, l, c, q) in absurd f
    by false e = refl

module _ (Sized : ℕ → ℕ → Type 0) where
  -- what holds outwards of a piece holds at it

  inward : (k : Sort) (x : Type 0) (o : Room) (P R : Room → Type 0) → ((m n : Room) → IsWithin m n → R m → R n) → ((m : Room) → P m → R m) → Reached Sized o k x P → R o
  inward piece.Simple x o P R g f h = f o h.1
  inward (piece.IsLoop order t e b) x o P R g f h = f o h.1
  inward piece.IsWhole x o P R g f h = f o h
  inward (piece.IsClean c) x o P R g f h = g h.0 o h.1 (f h.0 h.3)
  inward (piece.IsFill n b d) x o P R g f h = f o h.1
  inward (piece.IsSweep e) x o P R g f h = f o h.1
  inward (piece.IsPart c) x o P R g f h = f o h.1
  inward (piece.IsGuard hs) x o P R g f h = g h.0 o h.2 (f h.0 h.6)
  inward piece.IsFinish x o P R g f h = f o h
  inward piece.IsFinishCoroutine x o P R g f h = f o h

  outwards : (k : Sort) (x : Type 0) (o : Room) (P Q : Room → Type 0) → ((m : Room) → P m → Q m) → Reached Sized o k x P → Reached Sized o k x Q
  outwards piece.Simple x o P Q f h = (h.0, f o h.1)
  outwards (piece.IsLoop order t e b) x o P Q f h = (h.0, f o h.1)
  outwards piece.IsWhole x o P Q f h = f o h
  outwards (piece.IsClean c) x o P Q f h = (h.0, h.1, h.2, f h.0 h.3)
  outwards (piece.IsFill n b d) x o P Q f h = (h.0, f o h.1)
  outwards (piece.IsSweep e) x o P Q f h = (h.0, f o h.1)
  outwards (piece.IsPart c) x o P Q f h = (h.0, f o h.1)
  outwards (piece.IsGuard hs) x o P Q f h = (h.0, h.1, h.2, h.3, h.4, h.5, f h.0 h.6)
  outwards piece.IsFinish x o P Q f h = f o h
  outwards piece.IsFinishCoroutine x o P Q f h = f o h

  -- of some room of what is behind
  pub next_by : (k : Sort) (x : Type 0) (o : Room) (P : Room → Type 0) → Reached Sized o k x P → (m : Room) × P m
  next_by piece.Simple x o P h = (o, h.1)
  next_by (piece.IsLoop order t e b) x o P h = (o, h.1)
  next_by piece.IsWhole x o P h = (o, h)
  next_by (piece.IsClean c) x o P h = (h.0, h.3)
  next_by (piece.IsFill n b d) x o P h = (o, h.1)
  next_by (piece.IsSweep e) x o P h = (o, h.1)
  next_by (piece.IsPart c) x o P h = (o, h.1)
  next_by (piece.IsGuard hs) x o P h = (h.0, h.6)
  next_by piece.IsFinish x o P h = (o, h)
  next_by piece.IsFinishCoroutine x o P h = (o, h)

  module _ (End : Room → Type 0) where
    pub forget : (o : Room) (todo : List Todo) → TodoTo Sized End o todo → TodoIn Sized o todo
    forget o [] h = h.0
    forget o (p ∷ ps) h = outwards (piece.sort p) (PieceIn Sized o p) o (λ m. TodoTo Sized End m ps) (λ m. TodoIn Sized m ps) (λ m k. forget m ps k) h

    pub room_to : (o : Room) (todo : List Todo) → TodoTo Sized End o todo → IsRoom o
    room_to o todo h = steps.is_room Sized o todo (forget o todo h)

    -- the end holds of all rooms where it holds of narrower ones
    end_at : ((m n : Room) → IsWithin m n → End m → End n) → (o : Room) (todo : List Todo) → TodoTo Sized End o todo → End o
    end_at g o [] h = h.1
    end_at g o (p ∷ ps) h = inward (piece.sort p) (PieceIn Sized o p) o (λ m. TodoTo Sized End m ps) End g (λ m k. end_at g m ps k) h

    some_within_to : (n : ℕ) (o : Room) (todo : List Todo) → TodoTo Sized End o todo → SomeTo Sized End (within n todo)
    some_within_to n o [] h = (o, h)
    some_within_to n o (p ∷ ps) h =
        let t : SomeTo Sized End ps = next_by (piece.sort p) (PieceIn Sized o p) o (λ m. TodoTo Sized End m ps) h in
        either (SomeTo Sized End) (nat_eq (count_round (p ∷ ps)) n) (p ∷ ps) (within n ps) (o, h) (some_within_to n t.0 ps t.1)

    -- guards of a room's code lie behind what ends with the room
    high_by : (k : Sort) (x : Type 0) (o : Room) (ps : List Todo) (y : ℕ) → y ≤ o.high → ((m : Room) → y ≤ m.high → TodoTo Sized End m ps → GuardsFrom Sized y ps) → Reached Sized o k x (λ m. TodoTo Sized End m ps) → GuardFrom Sized y k × GuardsFrom Sized y ps
    high_by piece.Simple x o ps y le f h = (tt, f o le h.1)
    high_by (piece.IsLoop order t e b) x o ps y le f h = (tt, f o le h.1)
    high_by piece.IsWhole x o ps y le f h = (tt, f o le h)
    high_by (piece.IsClean c) x o ps y le f h =
        let w : IsWithin h.0 o = h.1 in
        let high = w.high in
        (tt, f h.0 (omega (arith, le, high)) h.3)
    high_by (piece.IsFill n b d) x o ps y le f h = (tt, f o le h.1)
    high_by (piece.IsSweep e) x o ps y le f h = (tt, f o le h.1)
    high_by (piece.IsPart c) x o ps y le f h = (tt, f o le h.1)
    high_by (piece.IsGuard hs) x o ps y le f h =
        let w : IsWithin h.0 o = h.2 in
        let v : IsWithin h.0 h.1 = h.3 in
        let u : IsBehind o h.1 = h.4 in
        let high = w.high in
        let behind = u.cells in
        ((h.1, within_room h.0 h.1 (room_to h.0 ps h.6) v, omega (arith, le, behind), h.5), f h.0 (omega (arith, le, high)) h.6)
    high_by piece.IsFinish x o ps y le f h = (tt, f o le h)
    high_by piece.IsFinishCoroutine x o ps y le f h = (tt, f o le h)

    guards_high : (y : ℕ) (o : Room) (todo : List Todo) → y ≤ o.high → TodoTo Sized End o todo → GuardsFrom Sized y todo
    guards_high y o [] le h = tt
    guards_high y o (p ∷ ps) le h = high_by (piece.sort p) (PieceIn Sized o p) o ps y le (λ m l k. guards_high y m ps l k) h

  -- rooms that end before a cell end before one behind it
  to_up : (x y : ℕ) (o : Room) (todo : List Todo) → x ≤ y → TodoTo Sized (UpTo x) o todo → TodoTo Sized (UpTo y) o todo
  to_up x y o [] le h =
      let high = h.1 in
      (h.0, omega (arith, le, high))
  to_up x y o (p ∷ ps) le h = outwards (piece.sort p) (PieceIn Sized o p) o (λ m. TodoTo Sized (UpTo x) m ps) (λ m. TodoTo Sized (UpTo y) m ps) (λ m k. to_up x y m ps le k) h

  pub some_up : (x y : ℕ) (todo : List Todo) → x ≤ y → SomeTo Sized (UpTo x) todo → SomeTo Sized (UpTo y) todo
  some_up x y todo le h = (h.0, to_up x y h.0 todo le h.1)

  from_within : (x : ℕ) (m n : Room) → IsWithin m n → From x m → From x n
  from_within x m n w h =
      let low = w.low in
      omega (arith, low, h)

  up_within : (x : ℕ) (m n : Room) → IsWithin m n → UpTo x m → UpTo x n
  up_within x m n w h =
      let high = w.high in
      omega (arith, high, h)

  -- the first room ends where all do
  pub up_to : (x : ℕ) (o : Room) (todo : List Todo) → TodoTo Sized (UpTo x) o todo → o.high ≤ x
  up_to x o todo h = end_at (UpTo x) (up_within x) o todo h

  -- code from a cell on has its handlers from there on
  low_by : (k : Sort) (y : Type 0) (o : Room) (ps : List Todo) (x : ℕ) → ((m : Room) → TodoTo Sized (From x) m ps → GuardsFrom Sized x ps) → Reached Sized o k y (λ m. TodoTo Sized (From x) m ps) → GuardFrom Sized x k × GuardsFrom Sized x ps
  low_by piece.Simple y o ps x f h = (tt, f o h.1)
  low_by (piece.IsLoop order t e b) y o ps x f h = (tt, f o h.1)
  low_by piece.IsWhole y o ps x f h = (tt, f o h)
  low_by (piece.IsClean c) y o ps x f h = (tt, f h.0 h.3)
  low_by (piece.IsFill n b d) y o ps x f h = (tt, f o h.1)
  low_by (piece.IsSweep e) y o ps x f h = (tt, f o h.1)
  low_by (piece.IsPart c) y o ps x f h = (tt, f o h.1)
  low_by (piece.IsGuard hs) y o ps x f h =
      let m : Room = h.0 in
      let g : Room = h.1 in
      let v : IsWithin m g = h.3 in
      let low : x ≤ m.low = end_at (From x) (from_within x) m ps h.6 in
      let l = v.low in
      ((g, within_room m g (room_to (From x) m ps h.6) v, omega (arith, low, l), h.5), f m h.6)
  low_by piece.IsFinish y o ps x f h = (tt, f o h)
  low_by piece.IsFinishCoroutine y o ps x f h = (tt, f o h)

  guards_low : (x : ℕ) (o : Room) (todo : List Todo) → TodoTo Sized (From x) o todo → GuardsFrom Sized x todo
  guards_low x o [] h = tt
  guards_low x o (p ∷ ps) h = low_by (piece.sort p) (PieceIn Sized o p) o ps x (λ m k. guards_low x m ps k) h

  -- guards

  guard_less : (x y : ℕ) (k : Sort) → x ≤ y → GuardFrom Sized y k → GuardFrom Sized x k
  guard_less x y (piece.IsGuard hs) le h =
      let l = h.2 in
      (h.0, h.1, omega (arith, le, l), h.3)
  guard_less x y k le h = tt

  guards_less : (x y : ℕ) (todo : List Todo) → x ≤ y → GuardsFrom Sized y todo → GuardsFrom Sized x todo
  guards_less x y [] le h = tt
  guards_less x y (p ∷ ps) le h = (guard_less x y (piece.sort p) le h.0, guards_less x y ps le h.1)

  guards_within : (x n : ℕ) (todo : List Todo) → GuardsFrom Sized x todo → GuardsFrom Sized x (within n todo)
  guards_within x n [] h = tt
  guards_within x n (p ∷ ps) h = either (GuardsFrom Sized x) (nat_eq (count_round (p ∷ ps)) n) (p ∷ ps) (within n ps) h (guards_within x n ps h.1)

  -- searches

  at_map : (b : Bool) (A B C D : Type 0) → (A → C) → (B → D) → AboveAt Sized b A B → AboveAt Sized b C D
  at_map true A B C D f g h = f h
  at_map false A B C D f g h = g h

  above_less : (x y : ℕ) (v : Option Visited) (f : ℕ) (cs : List Active) → x ≤ y → Above Sized y v f cs → Above Sized x v f cs
  above_less x y None f [] le h = tt
  above_less x y (Some v) f [] le h = tt
  above_less x y None f (a ∷ others) le h = (λ e. guards_less x y a.control le (h.0 e), above_less x y a.handles f others le h.1)
  above_less x y (Some v) f (a ∷ others) le h =
      at_map (nat_eq (length others) v.level) _ _ _ _ (λ k. (λ e. guards_less x y (within v.rest a.control) le (k.0 e), above_less x y a.handles f others le k.1)) (λ k. above_less x y (Some v) f others le k) h

  abbrev FramesBelow : ℕ → List Active → Type 0
  FramesBelow f [] = Unit {0}
  FramesBelow f (c ∷ cs) = (c.frame < f) × FramesBelow f cs

  frames_below : (fs : List (List Value)) (f : ℕ) (cs : List Active) → length cs ≤ f → Stack Sized fs cs → FramesBelow f cs
  frames_below fs f [] le h = tt
  frames_below fs f (c ∷ cs) le h =
      let k = h.0.frame in
      (omega (arith, le, k), frames_below fs f cs (omega (arith, le)) h.1)

  above_fresh : (x : ℕ) (v : Option Visited) (f : ℕ) (cs : List Active) → FramesBelow f cs → Above Sized x v f cs
  above_fresh x None f [] h = tt
  above_fresh x (Some v) f [] h = tt
  above_fresh x None f (a ∷ others) h =
      let l = h.0 in
      (λ e. let b : ⊥ = omega (arith, l, e) in absurd b, above_fresh x a.handles f others h.1)
  above_fresh x (Some v) f (a ∷ others) h =
      let l = h.0 in
      either_at (nat_eq (length others) v.level) _ _ (λ e. let b : ⊥ = omega (arith, l, e) in absurd b, above_fresh x a.handles f others h.1) (above_fresh x (Some v) f others h.1)
    where
      either_at : (b : Bool) (A B : Type 0) → A → B → AboveAt Sized b A B
      either_at true A B h k = h
      either_at false A B h k = k

  -- what a search from the newest activation on sees

  abbrev SeenOne : List Active → Active → Type 0
  SeenOne stack c = (x : ℕ) × Beneath Sized x c.control × Above Sized x None c.frame stack

  abbrev Seen : List Active → List Active → Type 0
  Seen stack [] = Unit {0}
  Seen stack (c ∷ cs) = SeenOne stack c × Seen stack cs

  seen_own : (fs : List (List Value)) (a : Active) (older : List Active) → Stacked Sized fs a older → SeenOne (a ∷ older) a
  seen_own fs a older h =
      let o : Room = h.fits.0 in
      let t : TodoTo Sized (UpTo h.top) o a.control = h.fits.1 in
      let high : o.high ≤ h.top = end_at (UpTo h.top) (up_within h.top) o a.control t in
      (o.high, (o, omega arith, forget (UpTo h.top) o a.control t), (λ e. guards_high (UpTo h.top) o.high o a.control (omega arith) t, above_less o.high h.top a.handles a.frame older high h.beyond))

  seen_older : (a : Active) (older cs : List Active) → OverAll Sized a.control a.frame a.handles older cs → Seen (a ∷ older) cs
  seen_older a older [] h = tt
  seen_older a older (c ∷ cs) h =
      let k : Over Sized a.control a.frame a.handles older c = h.0 in
      ((k.0, k.1, (λ e. guards_low k.0 (k.2 e).0 a.control (k.2 e).1, k.3)), seen_older a older cs h.1)

  seen : (fs : List (List Value)) (a : Active) (older : List Active) → Stacked Sized fs a older → Seen (a ∷ older) (a ∷ older)
  seen fs a older h = (seen_own fs a older h, seen_older a older older h.over)

  -- a call has a frame of its own

  over_call : (b : Active) (stack cs : List Active) → b.handles ≡ None → FramesBelow b.frame cs → Seen stack cs → OverAll Sized b.control b.frame b.handles stack cs
  over_call b stack [] e f h = tt
  over_call b stack (c ∷ cs) e f h =
      let l = f.0 in
      ((h.0.0, h.0.1, (λ q. let z : ⊥ = omega (arith, l, q) in absurd z), subst (λ v. Above Sized h.0.0 v c.frame stack) (sym e) h.0.2), over_call b stack cs e f.1 h.1)

  -- with a frame more
  pub stack_newer : (f : List Value) (fs : List (List Value)) (cs : List Active) → length cs ≤ length fs → Stack Sized fs cs → Stack Sized (f ∷ fs) cs
  stack_newer f fs [] l h = tt
  stack_newer f fs (a ∷ older) l h =
      let k : Stacked Sized fs a older = h.0 in
      let le = k.frame in
      (record { top = k.top; fits = k.fits; cells = subst (λ n. k.top ≤ n) (sym (newer_cells f fs a.frame (omega (arith, le, l)))) k.cells; frame = k.frame; beyond = k.beyond; over = k.over }, stack_newer f fs older (omega (arith, l)) h.1)

  -- with a frame less
  pub stack_older : (fs : List (List Value)) (cs : List Active) → length cs ≤ length (exec.others fs) → Stack Sized fs cs → Stack Sized (exec.others fs) cs
  stack_older fs [] l h = tt
  stack_older fs (a ∷ older) l h =
      let k : Stacked Sized fs a older = h.0 in
      let le = k.frame in
      (record { top = k.top; fits = k.fits; cells = subst (λ n. k.top ≤ n) (sym (older_cells fs a.frame (omega (arith, le, l)))) k.cells; frame = k.frame; beyond = k.beyond; over = k.over }, stack_older fs older (omega (arith, l)) h.1)

  -- with other values in the frames
  pub stack_same : (fs gs : List (List Value)) (cs : List Active) → map length gs ≡ map length fs → Stack Sized fs cs → Stack Sized gs cs
  stack_same fs gs [] e h = tt
  stack_same fs gs (a ∷ older) e h =
      let k : Stacked Sized fs a older = h.0 in
      (record { top = k.top; fits = k.fits; cells = subst (λ n. k.top ≤ n) (same_cells fs gs a.frame (sym e)) k.cells; frame = k.frame; beyond = k.beyond; over = k.over }, stack_same fs gs older e h.1)

  pub stack_call : (f : List Value) (fs : List (List Value)) (b a : Active) (older : List Active) (top : ℕ) → b.handles ≡ None → b.frame ≡ length (a ∷ older) → length fs ≡ length (a ∷ older) → top ≤ length f → SomeTo Sized (UpTo top) b.control → Stack Sized fs (a ∷ older) → Stack Sized (f ∷ fs) (b ∷ (a ∷ older))
  stack_call f fs b a older top e q l n k h =
      let below : FramesBelow b.frame (a ∷ older) = frames_below fs b.frame (a ∷ older) (omega (arith, q)) h in (
        record {
          top = top;
          fits = k;
          cells = subst (λ m. top ≤ m) (sym (newest_cells f fs b.frame (q ∙ sym l))) n;
          frame = omega (arith, q);
          beyond = above_fresh top b.handles b.frame (a ∷ older) below;
          over = over_call b (a ∷ older) (a ∷ older) e below (seen fs a older h.0);
        },
        stack_newer f fs (a ∷ older) (omega (arith, l)) h,
      )

  -- a handler that is found

  abbrev HandlerAt : Room → Option Handler → Type 0
  HandlerAt o None = Unit {0}
  HandlerAt o (Some x) = (m : Room) × IsWithin o m × StmtsIn Sized m x.body

  handler_at : (o : Room) (kind : Bool) (e : Event) (hs : Handlers) → HandlersIn Sized o hs → HandlerAt o (handler_for kind e hs)
  handler_at o kind e src.NoHandlers h = tt
  handler_at o kind e (src.MoreHandlers resumes event cell line body rest) h =
      either (HandlerAt o) (raising.same_kind kind resumes && raising.takes event e) (Some (record { cell = cell; line = line; body = body })) (handler_for kind e rest) (h.0, h.1, h.4) (handler_at o kind e rest h.5)

  -- its room lies behind a cell

  abbrev HitFrom : ℕ → Option Hit → Type 0
  HitFrom x None = Unit {0}
  HitFrom x (Some h) = (m : Room) × IsRoom m × (x ≤ m.low) × StmtsIn Sized m h.handler.body

  hit_or_from : (x : ℕ) (g : Room) (o : Option Handler) (n : ℕ) (other : Option Hit) → IsRoom g → x ≤ g.low → HandlerAt g o → HitFrom x other → HitFrom x (hit_or o n other)
  hit_or_from x g None n other r le h k = k
  hit_or_from x g (Some y) n other r le h k =
      let w : IsWithin g h.0 = h.1 in
      let low = w.low in
      (h.0, within_room g h.0 r w, omega (arith, le, low), h.2)

  hit_by_from : (x : ℕ) (k : Sort) (n : ℕ) (e : Event) (other : Option Hit) → GuardFrom Sized x k → HitFrom x other → HitFrom x (hit_by k n e other)
  hit_by_from x (piece.IsGuard hs) n e other h k = hit_or_from x h.0 (handler_for true e hs) n other h.1 h.2 (handler_at h.0 true e hs h.3) k
  hit_by_from x s n e other h k = k

  hit_from : (x : ℕ) (e : Event) (todo : List Todo) → GuardsFrom Sized x todo → HitFrom x (hit_in e todo)
  hit_from x e [] h = tt
  hit_from x e (p ∷ ps) h = hit_by_from x (piece.sort p) (count_round ps) e (hit_in e ps) h.0 (hit_from x e ps h.1)

  abbrev FoundFrom : ℕ → ℕ → Option Found → Type 0
  FoundFrom x f None = Unit {0}
  FoundFrom x f (Some y) = y.frame ≡ f → (m : Room) × IsRoom m × (x ≤ m.low) × StmtsIn Sized m y.handler.body

  found_or_from : (x f : ℕ) (o : Option Hit) (a : Active) (cs : List Active) (other : Option Found) → (a.frame ≡ f → HitFrom x o) → FoundFrom x f other → FoundFrom x f (found_or o a cs other)
  found_or_from x f None a cs other h k = k
  found_or_from x f (Some y) a cs other h k = h

  found_from : (x f : ℕ) (v : Option Visited) (e : Event) (cs : List Active) → Above Sized x v f cs → FoundFrom x f (seek v e cs)
  found_from x f None e [] h = tt
  found_from x f (Some v) e [] h = tt
  found_from x f None e (a ∷ others) h =
      found_or_from x f (hit_in e a.control) a others (seek a.handles e others) (λ q. hit_from x e a.control (h.0 q)) (found_from x f a.handles e others h.1)
  found_from x f (Some v) e (a ∷ others) h =
      by (nat_eq (length others) v.level) h (λ k. found_from x f a.handles e others k) (λ k. found_from x f (Some v) e others k)
    where
      by : (b : Bool) → AboveAt Sized b ((a.frame ≡ f → GuardsFrom Sized x (within v.rest a.control)) × Above Sized x a.handles f others) (Above Sized x (Some v) f others) → (Above Sized x a.handles f others → FoundFrom x f (seek a.handles e others)) → (Above Sized x (Some v) f others → FoundFrom x f (seek (Some v) e others)) → FoundFrom x f (if b then found_or (hit_in e (within v.rest a.control)) a others (seek a.handles e others) else seek (Some v) e others)
      by true k here beyond =
          found_or_from x f (hit_in e (within v.rest a.control)) a others (seek a.handles e others) (λ q. hit_from x e (within v.rest a.control) (k.0 q)) (here k.1)
      by false k here beyond = beyond k

  -- how far a search came

  abbrev FoundBelow : ℕ → Option Found → Type 0
  FoundBelow n None = Unit {0}
  FoundBelow n (Some y) = y.visited.level < n

  found_or_below : (o : Option Hit) (a : Active) (cs : List Active) (other : Option Found) → FoundBelow (length cs) other → FoundBelow (suc (length cs)) (found_or o a cs other)
  found_or_below None a cs None h = tt
  found_or_below None a cs (Some y) h = omega (arith, h)
  found_or_below (Some y) a cs other h = omega arith

  below_more : (n : ℕ) (o : Option Found) → FoundBelow n o → FoundBelow (suc n) o
  below_more n None h = tt
  below_more n (Some y) h = omega (arith, h)

  found_below : (v : Option Visited) (e : Event) (cs : List Active) → FoundBelow (length cs) (seek v e cs)
  found_below None e [] = tt
  found_below (Some v) e [] = tt
  found_below None e (a ∷ others) = found_or_below (hit_in e a.control) a others (seek a.handles e others) (found_below a.handles e others)
  found_below (Some v) e (a ∷ others) =
      either (FoundBelow (suc (length others))) (nat_eq (length others) v.level) (found_or (hit_in e (within v.rest a.control)) a others (seek a.handles e others)) (seek (Some v) e others) (found_or_below (hit_in e (within v.rest a.control)) a others (seek a.handles e others) (found_below a.handles e others)) (below_more (length others) (seek (Some v) e others) (found_below (Some v) e others))

  -- a search from the handler on comes to what the search for it saw

  abbrev PathOf : ℕ → ℕ → List Active → Option Found → Type 0
  PathOf x f cs None = Unit {0}
  PathOf x f cs (Some y) = Above Sized x (Some y.visited) f cs

  skip : (x f n : ℕ) (v : Visited) (a : Active) (others : List Active) → v.level < length others → Above Sized x (Some v) f others → Above Sized x (Some v) f (a ∷ others)
  skip x f n v a others l h = by (nat_eq (length others) v.level) refl
    where
      by : (b : Bool) → nat_eq (length others) v.level ≡ b → AboveAt Sized b ((a.frame ≡ f → GuardsFrom Sized x (within v.rest a.control)) × Above Sized x a.handles f others) (Above Sized x (Some v) f others)
      by true e = let q : length others ≡ v.level = eqb-true (length others) v.level e in let z : ⊥ = omega (arith, q, l) in absurd z
      by false e = h

  skip_found : (x f : ℕ) (a : Active) (others : List Active) (o : Option Found) → FoundBelow (length others) o → PathOf x f others o → PathOf x f (a ∷ others) o
  skip_found x f a others None l h = tt
  skip_found x f a others (Some y) l h = skip x f 0 y.visited a others l h

  -- at the activation whose guarded block takes the event
  meets : (x f : ℕ) (v : Visited) (a : Active) (others : List Active) → v.level ≡ length others → (a.frame ≡ f → GuardsFrom Sized x (within v.rest a.control)) → Above Sized x a.handles f others → Above Sized x (Some v) f (a ∷ others)
  meets x f v a others e g h = by (nat_eq (length others) v.level) (eq-eqb (length others) v.level (sym e))
    where
      by : (b : Bool) → b ≡ true → AboveAt Sized b ((a.frame ≡ f → GuardsFrom Sized x (within v.rest a.control)) × Above Sized x a.handles f others) (Above Sized x (Some v) f others)
      by true q = (g, h)
      by false q = absurd (cc)

  -- the guards outwards of the block whose handler is found
  abbrev GuardsPast : ℕ → List Todo → Option Hit → Type 0
  GuardsPast x todo None = Unit {0}
  GuardsPast x todo (Some y) = GuardsFrom Sized x (within y.rest todo)

  past_full : (x : ℕ) (todo : List Todo) (o : Option Hit) → GuardsFrom Sized x todo → GuardsPast x todo o
  past_full x todo None h = tt
  past_full x todo (Some y) h = guards_within x y.rest todo h

  past_in : (x m : ℕ) (todo : List Todo) (o : Option Hit) → RestLess (count_round (within m todo)) o → GuardsPast x (within m todo) o → GuardsPast x todo o
  past_in x m todo None l h = tt
  past_in x m todo (Some y) l h = subst (GuardsFrom Sized x) (within_within y.rest m todo l) h

  found_or_path : (x f : ℕ) (o : Option Hit) (a : Active) (cs : List Active) (other : Option Found) → (a.frame ≡ f → GuardsPast x a.control o) → Above Sized x a.handles f cs → FoundBelow (length cs) other → PathOf x f cs other → PathOf x f (a ∷ cs) (found_or o a cs other)
  found_or_path x f None a cs other g h l k = skip_found x f a cs other l k
  found_or_path x f (Some y) a cs other g h l k =
      meets x f (record { level = length cs; rest = y.rest; home = raising.home_of a.handles (length cs) }) a cs refl g h

  path : (x f : ℕ) (v : Option Visited) (e : Event) (cs : List Active) → Above Sized x v f cs → PathOf x f cs (seek v e cs)
  path x f None e [] h = tt
  path x f (Some v) e [] h = tt
  path x f None e (a ∷ others) h =
      found_or_path x f (hit_in e a.control) a others (seek a.handles e others) (λ q. past_full x a.control (hit_in e a.control) (h.0 q)) h.1 (found_below a.handles e others) (path x f a.handles e others h.1)
  path x f (Some v) e (a ∷ others) h =
      by (nat_eq (length others) v.level) h (λ k. path x f a.handles e others k) (λ k. path x f (Some v) e others k)
    where
      by : (b : Bool) → AboveAt Sized b ((a.frame ≡ f → GuardsFrom Sized x (within v.rest a.control)) × Above Sized x a.handles f others) (Above Sized x (Some v) f others) → (Above Sized x a.handles f others → PathOf x f others (seek a.handles e others)) → (Above Sized x (Some v) f others → PathOf x f others (seek (Some v) e others)) → PathOf x f (a ∷ others) (if b then found_or (hit_in e (within v.rest a.control)) a others (seek a.handles e others) else seek (Some v) e others)
      by true k here beyond =
          found_or_path x f (hit_in e (within v.rest a.control)) a others (seek a.handles e others) (λ q. past_in x v.rest a.control (hit_in e (within v.rest a.control)) (rest_less e (within v.rest a.control)) (past_full x (within v.rest a.control) (hit_in e (within v.rest a.control)) (k.0 q))) k.1 (found_below a.handles e others) (here k.1)
      by false k here beyond = skip_found x f a others (seek (Some v) e others) (found_below (Some v) e others) (beyond k)

  -- where it is found: the room of its body, behind which lie all handlers that a later search finds in its frame

  abbrev HitTop : ℕ → List Todo → Option Hit → Type 0
  HitTop top todo None = Unit {0}
  HitTop top todo (Some y) = (m : Room) × IsRoom m × (m.high ≤ top) × StmtsIn Sized m y.handler.body × GuardsFrom Sized m.high (within y.rest todo)

  -- one that is found further out
  hit_behind : (top : ℕ) (p : Todo) (ps : List Todo) (o : Option Hit) → RestLess (count_round ps) o → HitTop top ps o → HitTop top (p ∷ ps) o
  hit_behind top p ps None l h = tt
  hit_behind top p ps (Some y) l h = (h.0, h.1, h.2, h.3, subst (GuardsFrom Sized h.0.high) (sym (past y.rest p ps l)) h.4)

  hit_or_top : (top : ℕ) (p : Todo) (ps : List Todo) (hs : Handlers) (o : Option Handler) (other : Option Hit) (m g : Room) → count_by (piece.sort p) ≡ handler_count hs → (o ≡ None) ⊎ (0 < handler_count hs) → IsWithin m g → HandlerAt g o → TodoTo Sized (UpTo top) m ps → HitTop top (p ∷ ps) other → HitTop top (p ∷ ps) (hit_or o (count_round ps) other)
  hit_or_top top p ps hs None other m g c q w h k l = l
  hit_or_top top p ps hs (Some y) other m g c (inl q) w h k l = absurd (cc)
  hit_or_top top p ps hs (Some y) other m g c (inr q) w h k l =
      let b : Room = h.0 in
      let v : IsWithin g b = h.1 in
      let r : IsRoom m = room_to (UpTo top) m ps k in
      let high = w.high in
      let inner = v.high in
      let last : m.high ≤ top = end_at (UpTo top) (up_within top) m ps k in
      let guards : GuardsFrom Sized b.high ps = guards_high (UpTo top) b.high m ps (omega (arith, high, inner)) k in
      let out : within (count_round ps) (p ∷ ps) ≡ within (count_round ps) ps = past_guard p ps hs c q in
      (b, within_room g b (within_room m g r w) v, omega (arith, high, inner, last), h.2, subst (GuardsFrom Sized b.high) (sym out) (guards_within b.high (count_round ps) ps guards))

  hit_top_by : (top : ℕ) (p : Todo) (ps : List Todo) (e : Event) (k : Sort) (o : Room) (x : Type 0) (other : Option Hit) → piece.sort p ≡ k → Reached Sized o k x (λ m. TodoTo Sized (UpTo top) m ps) → HitTop top (p ∷ ps) other → HitTop top (p ∷ ps) (hit_by k (count_round ps) e other)
  hit_top_by top p ps e (piece.IsGuard hs) o x other q h l =
      hit_or_top top p ps hs (handler_for true e hs) other h.0 h.1 (ap count_by q) (some_handler true e hs) h.3 (handler_at h.1 true e hs h.5) h.6 l
  hit_top_by top p ps e k o x other q h l = l

  hit_top : (top : ℕ) (e : Event) (o : Room) (todo : List Todo) → TodoTo Sized (UpTo top) o todo → HitTop top todo (hit_in e todo)
  hit_top top e o [] h = tt
  hit_top top e o (p ∷ ps) h =
      let t : SomeTo Sized (UpTo top) ps = next_by (piece.sort p) (PieceIn Sized o p) o (λ m. TodoTo Sized (UpTo top) m ps) h in
      hit_top_by top p ps e (piece.sort p) o (PieceIn Sized o p) (hit_in e ps) refl h (hit_behind top p ps (hit_in e ps) (rest_less e ps) (hit_top top e t.0 ps t.1))

  abbrev BeyondOf : List (List Value) → List Active → Option Found → Type 0
  BeyondOf fs cs None = Unit {0}
  BeyondOf fs cs (Some y) =
      (m : Room) × IsRoom m × StmtsIn Sized m y.handler.body × (y.frame < length cs) × (m.high ≤ frame_cells fs y.frame) ×
      Above Sized m.high (Some y.visited) y.frame cs

  skip_beyond : (fs : List (List Value)) (a : Active) (others : List Active) (o : Option Found) → FoundBelow (length others) o → BeyondOf fs others o → BeyondOf fs (a ∷ others) o
  skip_beyond fs a others None l h = tt
  skip_beyond fs a others (Some y) l h =
      let le = h.3 in
      (h.0, h.1, h.2, omega (arith, le), h.4, skip h.0.high y.frame 0 y.visited a others l h.5)

  top_in : (top m : ℕ) (todo : List Todo) (o : Option Hit) → RestLess (count_round (within m todo)) o → HitTop top (within m todo) o → HitTop top todo o
  top_in top m todo None l h = tt
  top_in top m todo (Some y) l h = (h.0, h.1, h.2, h.3, subst (GuardsFrom Sized h.0.high) (within_within y.rest m todo l) h.4)

  found_or_beyond : (fs : List (List Value)) (o : Option Hit) (a : Active) (cs : List Active) (other : Option Found) → (k : Stacked Sized fs a cs) → HitTop k.top a.control o → FoundBelow (length cs) other → BeyondOf fs cs other → BeyondOf fs (a ∷ cs) (found_or o a cs other)
  found_or_beyond fs None a cs other k h l b = skip_beyond fs a cs other l b
  found_or_beyond fs (Some y) a cs other k h l b =
      let le = k.frame in
      let high = h.2 in
      let cells = k.cells in
      (h.0, h.1, h.3, omega (arith, le), omega (arith, high, cells), meets h.0.high a.frame (record { level = length cs; rest = y.rest; home = raising.home_of a.handles (length cs) }) a cs refl (λ q. h.4) (above_less h.0.high k.top a.handles a.frame cs h.2 k.beyond))

  found_beyond : (fs : List (List Value)) (v : Option Visited) (e : Event) (cs : List Active) → Stack Sized fs cs → BeyondOf fs cs (seek v e cs)
  found_beyond fs None e [] h = tt
  found_beyond fs (Some v) e [] h = tt
  found_beyond fs None e (a ∷ others) h =
      let k : Stacked Sized fs a others = h.0 in
      found_or_beyond fs (hit_in e a.control) a others (seek a.handles e others) k (hit_top k.top e k.fits.0 a.control k.fits.1) (found_below a.handles e others) (found_beyond fs a.handles e others h.1)
  found_beyond fs (Some v) e (a ∷ others) h =
      let k : Stacked Sized fs a others = h.0 in
      let t : SomeTo Sized (UpTo k.top) (within v.rest a.control) = some_within_to (UpTo k.top) v.rest k.fits.0 a.control k.fits.1 in
      either (BeyondOf fs (a ∷ others)) (nat_eq (length others) v.level) (found_or (hit_in e (within v.rest a.control)) a others (seek a.handles e others)) (seek (Some v) e others) (found_or_beyond fs (hit_in e (within v.rest a.control)) a others (seek a.handles e others) k (top_in k.top v.rest a.control (hit_in e (within v.rest a.control)) (rest_less e (within v.rest a.control)) (hit_top k.top e t.0 (within v.rest a.control) t.1)) (found_below a.handles e others) (found_beyond fs a.handles e others h.1)) (skip_beyond fs a others (seek (Some v) e others) (found_below (Some v) e others) (found_beyond fs (Some v) e others h.1))

  -- a handler begins

  handled_to : (End : Room → Type 0) (m : Room) (x : Handler) → IsRoom m → End m → StmtsIn Sized m x.body → TodoTo Sized End m (raising.handler_todo x [])
  handled_to End m x r h k = (tt, (tt, (tt, (tt, (tt, (tt, (k, (tt, (r, h)))))))))

  over_handler : (b : Active) (y : Found) (stack cs : List Active) → b.handles ≡ Some y.visited → b.frame ≡ y.frame → b.control ≡ raising.handler_todo y.handler [] → ((x f : ℕ) → Above Sized x None f stack → FoundFrom x f (Some y)) → ((x f : ℕ) → Above Sized x None f stack → Above Sized x (Some y.visited) f stack) → Seen stack cs → OverAll Sized b.control b.frame b.handles stack cs
  over_handler b y stack [] hv hf hc f g h = tt
  over_handler b y stack (c ∷ cs) hv hf hc f g h =
      let x : ℕ = h.0.0 in
      let a : Above Sized x None c.frame stack = h.0.2 in
      ((x, h.0.1, (λ q. from x (f x c.frame a (sym hf ∙ q))), subst (λ v. Above Sized x v c.frame stack) (sym hv) (g x c.frame a)), over_handler b y stack cs hv hf hc f g h.1)
    where
      from : (x : ℕ) → (m : Room) × IsRoom m × (x ≤ m.low) × StmtsIn Sized m y.handler.body → SomeTo Sized (From x) b.control
      from x k = subst (SomeTo Sized (From x)) (sym hc) (k.0, handled_to (From x) k.0 y.handler k.1 k.2 k.3)

  pub stack_handler : (f : List Value) (fs : List (List Value)) (b a : Active) (older : List Active) (e : Event) (y : Found) → length fs ≡ length (a ∷ older) → seek None e (a ∷ older) ≡ Some y → b.handles ≡ Some y.visited → b.frame ≡ y.frame → b.control ≡ raising.handler_todo y.handler [] → Stack Sized fs (a ∷ older) → Stack Sized (f ∷ fs) (b ∷ (a ∷ older))
  stack_handler f fs b a older e y l q hv hf hc h =
      let stack : List Active = a ∷ older in
      let z : BeyondOf fs stack (Some y) = subst (BeyondOf fs stack) q (found_beyond fs None e stack h) in
      let le = z.3 in
      let m : Room = z.0 in (
        record {
          top = m.high;
          fits = subst (SomeTo Sized (UpTo m.high)) (sym hc) (m, handled_to (UpTo m.high) m y.handler z.1 (omega arith) z.2);
          cells = subst (λ d. m.high ≤ frame_cells (f ∷ fs) d) (sym hf) (subst (λ n. m.high ≤ n) (sym (newer_cells f fs y.frame (omega (arith, le, l)))) z.4);
          frame = omega (arith, le, hf);
          beyond = subst (λ g. Above Sized m.high b.handles g stack) (sym hf) (subst (λ v. Above Sized m.high v y.frame stack) (sym hv) z.5);
          over = over_handler b y stack stack hv hf hc (λ x f k. subst (FoundFrom x f) q (found_from x f None e stack k)) (λ x f k. subst (PathOf x f stack) q (path x f None e stack k)) (seen fs a older h.0);
        },
        stack_newer f fs stack (omega (arith, l)) h,
      )

  -- steps that keep the activations

  over_to : (C D : List Todo) (f : ℕ) (v : Option Visited) (older cs : List Active) → ((x : ℕ) → SomeTo Sized (From x) C → SomeTo Sized (From x) D) → OverAll Sized C f v older cs → OverAll Sized D f v older cs
  over_to C D f v older [] k h = tt
  over_to C D f v older (c ∷ cs) k h = ((h.0.0, h.0.1, (λ q. k h.0.0 (h.0.2 q)), h.0.3), over_to C D f v older cs k h.1)

  -- something else to do, in what is the same activation
  pub stacked_by : (fs : List (List Value)) (a b : Active) (older : List Active) → b.frame ≡ a.frame → b.handles ≡ a.handles → ((End : Room → Type 0) → SomeTo Sized End a.control → SomeTo Sized End b.control) → Stacked Sized fs a older → Stacked Sized fs b older
  stacked_by fs a b older e f k h = record {
    top = h.top;
    fits = k (UpTo h.top) h.fits;
    cells = subst (λ d. h.top ≤ frame_cells fs d) (sym e) h.cells;
    frame = subst (λ g. g ≤ length older) (sym e) h.frame;
    beyond = subst (λ v. Above Sized h.top v b.frame older) (sym f) (subst (λ g. Above Sized h.top a.handles g older) (sym e) h.beyond);
    over = subst (λ v. OverAll Sized b.control b.frame v older older) (sym f) (subst (λ g. OverAll Sized b.control g a.handles older older) (sym e) (over_to a.control b.control a.frame a.handles older older (λ x t. k (From x) t) h.over));
  }

  -- what is cleared lies behind the objects of all activations that use the frame

  cleared_low : (o : Room) (k n : ℕ) → IsRoom o → Clears o k n → o.low ≤ k
  cleared_low o k n r (inl c) = c.0
  cleared_low o k n r (inr c) =
      let a = r.cells in
      let b = r.apart in
      let d = c.0 in
      omega (arith, a, b, d)

  cleared_from : (x k n : ℕ) (todo : List Todo) → SomeTo Sized (From x) (piece.ClearNow k n ∷ todo) → x ≤ k
  cleared_from x k n todo h =
      let o : Room = h.0 in
      let low : x ≤ o.low = end_at (From x) (from_within x) o todo h.1.1 in
      let le : o.low ≤ k = cleared_low o k n (room_to (From x) o todo h.1.1) h.1.0 in
      omega (arith, low, le)

  over_beneath : (k n f : ℕ) (v : Option Visited) (todo : List Todo) (older cs : List Active) → OverAll Sized (piece.ClearNow k n ∷ todo) f v older cs → FrameBeneath Sized k f cs
  over_beneath k n f v todo older [] h = tt
  over_beneath k n f v todo older (c ∷ cs) h =
      let b : Beneath Sized h.0.0 c.control = h.0.1 in
      let high = b.1 in
      ((λ q. let le = cleared_from h.0.0 k n todo (h.0.2 (sym q)) in (b.0, omega (arith, high, le), b.2)), over_beneath k n f v todo older cs h.1)

  pub stack_beneath : (fs : List (List Value)) (a : Active) (older : List Active) (k n : ℕ) (todo : List Todo) → a.control ≡ piece.ClearNow k n ∷ todo → Stacked Sized fs a older → FrameBeneath Sized k a.frame older
  stack_beneath fs a older k n todo e h =
      over_beneath k n a.frame a.handles todo older older (subst (λ C. OverAll Sized C a.frame a.handles older older) e h.over)

  beneath_before : (k : ℕ) (todo : List Todo) → Beneath Sized k todo → AllBefore Sized k todo
  beneath_before k todo h =
      let o : Room = h.0 in
      let high = h.1 in
      let cells = (steps.is_room Sized o todo h.2).cells in
      steps.all_before Sized o todo k (omega (arith, high, cells)) h.2

  frame_beneath : (k f : ℕ) (cs : List Active) → FrameBeneath Sized k f cs → FrameBefore Sized k f cs
  frame_beneath k f [] h = tt
  frame_beneath k f (c ∷ cs) h = ((λ q. beneath_before k c.control (h.0 q)), frame_beneath k f cs h.1)

  pub stack_before : (fs : List (List Value)) (a : Active) (older : List Active) (k n : ℕ) (todo : List Todo) → a.control ≡ piece.ClearNow k n ∷ todo → Stacked Sized fs a older → FrameBefore Sized k a.frame (a ∷ older)
  stack_before fs a older k n todo e h =
      let t : SomeTo Sized (UpTo h.top) (piece.ClearNow k n ∷ todo) = subst (SomeTo Sized (UpTo h.top)) e h.fits in
      ((λ q. subst (AllBefore Sized k) (sym e) (tt, steps.cleared Sized t.0 k n todo (forget (UpTo h.top) t.0 (piece.ClearNow k n ∷ todo) t.1))), frame_beneath k a.frame older (stack_beneath fs a older k n todo e h))
