-- What is bound to a cell that holds a number is there.
use Rattle.std.proofs.Common.{◌≡◌, ℕ, zero, suc, ◌<◌, ◌≤◌, inl, inr, Bool, true, false, List, [], ◌∷◌, length, drop, Option, Some, None, refl, sym, ap, ◌∙◌, subst, arith}
use Rattle.std.proofs.Math.Nat.{min-le_left}
use Rattle.std.specs.Prelude.{◌+◌, nat_eq, if◌then◌else◌, slice_index_or, slice_get}
use Rattle.uc_tree.specs.Programs.{Program}
use Rattle.uc_tree.specs.Source as src
use Rattle.uc_tree.specs.Source.{Expr, Stmts, Routine, Source}
use Rattle.uc_machine.specs.Executions.{at_depth, set_depth, list_in, frame_changed, frames_changed, change, value_changed}
use Rattle.uc_machine.specs.Monitors as monitors
use Rattle.uc_machine.specs.Quiet as quiet
use Rattle.uc_machine.specs.Pieces.{Link, Slot, Value, Number, Place, Running, Object, Nothing, LAST_ADDRESS, nought, address, stored, written, Todo, State, Step, Goes, Ticks, Asks, top, below, this_frame}
use Rattle.uc_typing.specs.States.{IsNumbered}
use Rattle.uc_resolve.specs.Resolve.{source_of}
use Rattle.uc_state_laws.specs.Layout.{Sized}
use Rattle.uc_state_laws.specs.Rooms.{Room, IsWithin, LiesAt, Lies}
use Rattle.uc_state_laws.specs.RoomStacks.{UpTo, SomeTo}
use Rattle.uc_state_laws.proofs.Stacks.{up_to}
use Rattle.uc_state_laws.proofs.StackWorlds.{law_frames, law_frame_runs}
use Rattle.uc_state_laws.specs.Opening.{Destroying}
use Rattle.uc_state_laws.specs.There.{IsLoose, HoldsLoose, OfVariable, OfEach, HoldsObject, IsThere, frame_at}
use Rattle.uc_state_laws.proofs.Cells.{set_length}
use Rattle.uc_state_laws.proofs.ValueSteps.{exec_same}
use Rattle.uc_state_laws.specs.Counted.{params_at}
use Rattle.uc_place_laws.specs.Placed.{IsObject, Denotes, EndsIt}
use Rattle.uc_place_laws.specs.BindingLaws.{IsNamedPlace}
use Rattle.uc_place_laws.specs.Taking.{here, before_scope, call_now, LawTaken, LawTakenRuns}
use Rattle.uc_place_laws.proofs.BindingWalk.{law_bound}
use Rattle.uc_place_laws.proofs.BindingWorlds.{placed_in}

-- cells

set_there : (P : List Value → Type 0) (fs : List (List Value)) (d k : ℕ) (y : List Value) → k < length (frame_at d fs) → P y → P (frame_at d (set_depth fs d y))
set_there P [] d k y l h = let f : ⊥ = omega (arith, l) in absurd f
set_there P (x ∷ xs) d k y l h = by (nat_eq d (length xs)) refl l (λ m. set_there P xs d k y m h)
  where
    by : (b : Bool) → nat_eq d (length xs) ≡ b → k < length (list_in (if b then Some x else at_depth xs d)) → (k < length (frame_at d xs) → P (frame_at d (set_depth xs d y))) → P (list_in (at_depth (if b then y ∷ xs else x ∷ set_depth xs d y) d))
    by true e m f = subst (λ (c : Bool). P (list_in (if c then Some y else at_depth xs d))) (sym e) h
    by false e m f =
        let q : nat_eq d (length (set_depth xs d y)) ≡ false = ap (nat_eq d) (set_length xs d y) ∙ e in
        subst (λ (c : Bool). P (list_in (if c then Some x else at_depth (set_depth xs d y) d))) (sym q) (f m)

value_taken : (v x : Value) → IsLoose x → IsNumbered v → IsNumbered (stored v x)
value_taken v (Number n) e h = h
value_taken v (Place o p) e h = absurd e
value_taken v (Running n) e h = absurd e
value_taken v (Object o) e h = tt
value_taken v Nothing e h = h

cell_taken : (vs : List Value) (k : ℕ) (v : Value) → k < length vs → IsLoose (slice_index_or vs k nought) → IsNumbered v → IsNumbered (slice_index_or (value_changed k (stored v) nought vs) k nought)
cell_taken [] k v l e h = let f : ⊥ = omega (arith, l) in absurd f
cell_taken (x ∷ vs) zero v l e h = value_taken v x e h
cell_taken (x ∷ vs) (suc k) v l e h = cell_taken vs k v (omega (arith, l)) e h

module _ (s : State) (v : Value) (numbered : IsNumbered v) where
  written_there : (path : List Link) → address path < length (here s) → HoldsLoose (here s) path → HoldsObject (frame_at s.run.frame (written (Place (this_frame s) path) v s.env).frames) path
  written_there path l f =
      let a : ℕ = address path in
      let y : List Value = value_changed a (stored v) nought (here s) in
      subst (λ (b : Bool). IsNumbered (slice_index_or (frame_at s.run.frame (if b then record s.env { frames = frame_changed s.run.frame (value_changed a (stored v) nought) s.env.frames } else change s.env.exec.home (frames_changed s.env.exec.serial (frame_changed s.run.frame (value_changed a (stored v) nought))) s.env).frames) a nought)) (sym (exec_same s.env.exec)) (set_there (λ vs. IsNumbered (slice_index_or vs a nought)) s.env.frames s.run.frame a y l (cell_taken (here s) a v l f numbered))

  variable_there : (e : Expr) (w : Value) → Denotes (this_frame s) s.run.this e w → OfVariable (λ q. address q < length (here s)) e → OfVariable (HoldsLoose (here s)) e → OfVariable (HoldsObject (frame_at s.run.frame (written w v s.env).frames)) e
  variable_there (src.Variable k) w q l f =
      subst (λ u. HoldsObject (frame_at s.run.frame (written u v s.env).frames) (Slot k ∷ [])) (sym q) (written_there (Slot k ∷ []) l f)
  variable_there e w q l f = tt

-- scopes

object_numbered : (v : Value) → IsObject v → IsNumbered v
object_numbered v q = subst IsNumbered (sym q) tt

module _ (s : State) (name : Expr) (w : Value) (denotes : Denotes (this_frame s) s.run.this name w) where
  abbrev After : List Value
  After = frame_at s.run.frame (written w (top s.run.operands) s.env).frames

  -- of what a clean-up ends at a place
  ended : (e d : Expr) → ((q : Expr) → Destroying d q → e ≡ q) → EndsIt (IsObject (top s.run.operands)) name (src.Destroys d) → OfVariable (λ q. address q < length (here s)) e → OfVariable (HoldsLoose (here s)) e → OfVariable (HoldsObject After) e
  ended e d at (inl k) l f =
      variable_there s (top s.run.operands) (object_numbered (top s.run.operands) k.2) e w (subst (λ x. Denotes (this_frame s) s.run.this x w) (sym (at name k.0)) denotes) l f
  ended e d at (inr k) l f = subst (λ x. OfVariable (HoldsObject After) x) (sym (at (src.OfObject (src.OwnField k.shape k.number)) k.field)) tt

  scope_there : (d : Expr) → EndsIt (IsObject (top s.run.operands)) name (src.Destroys d) → OfEach (λ q. address q < length (here s)) (src.Destroys d) → OfEach (HoldsLoose (here s)) (src.Destroys d) → IsThere After (src.Destroys d)
  scope_there (src.OfObject (src.EndOn r written (src.Load e))) k l f = ended e _ (λ q h. h) k l f
  scope_there (src.OfObject (src.EndCluster (src.Load e))) k l f = ended e _ (λ q h. h) k l f
  scope_there (src.OfObject (src.EndProcessor (src.Load e))) k l f = ended e _ (λ q h. h) k l f
  scope_there d k l f = tt

-- the variable of a scope lies in the frame

address_least : (k : ℕ) → address (Slot k ∷ []) ≤ k
address_least k = let a = min-le_left (0 + k) LAST_ADDRESS in omega (arith, a)

module _ (Z : ℕ → ℕ → Type 0) (n : ℕ) where
  abbrev InFrame : List Link → Type 0
  InFrame q = address q < n

  variable_in : (low high : ℕ) (e : Expr) → high ≤ n → LiesAt Z low high 1 1 e → OfVariable InFrame e
  variable_in low high (src.Variable k) l h =
      let a = address_least k in
      let b = h.1 in
      omega (arith, a, b, l)
  variable_in low high e l h = tt

  lies_in : (low high : ℕ) (d : Expr) → high ≤ n → Lies Z low high (src.Destroys d) → OfEach InFrame (src.Destroys d)
  lies_in low high (src.OfObject (src.EndOn r written (src.Load e))) l h = variable_in low high e l h
  lies_in low high (src.OfObject (src.EndCluster (src.Load e))) l h = variable_in low high e l h
  lies_in low high (src.OfObject (src.EndProcessor (src.Load e))) l h = variable_in low high e l h
  lies_in low high d l h = tt

  scope_in : (line : ℕ) (d : Expr) (rest : Stmts) (todo : List Todo) → SomeTo Z (UpTo n) (before_scope line d rest todo) → OfEach InFrame (src.Destroys d)
  scope_in line d rest todo h =
      let o : Room = h.0 in
      let up = up_to Z n o todo h.1.1.1.1 in
      let within = h.1.1.1.0 in
      let m : Room = within.0 in
      let w : IsWithin o m = within.1 in
      let a = w.cells in
      let b = w.high in
      lies_in o.low m.low d (omega (arith, up, a, b)) within.2.0

-- behind a step that goes on

abbrev ThenThere : Expr → Step → Type 0
ThenThere d (Goes t) = IsThere (here t) (src.Destroys d)
ThenThere d (Ticks t) = Unit {0}
ThenThere d (Asks r t) = Unit {0}

module _ (source : Source) (p : Program) (s : State) (line : ℕ) (d : Expr) (rest : Stmts) (todo : List Todo) (loose : OfEach (HoldsLoose (here s)) (src.Destroys d)) where
  made_by : (o : Option Routine) (call : Todo) → OfEach (λ q. address q < length (here s)) (src.Destroys d) → IsNamedPlace p s (call ∷ before_scope line d rest todo) (before_scope line d rest todo) (top (drop (params_at o) (below s.run.operands))) → ThenThere d (monitors.bind_step o (call ∷ before_scope line d rest todo) s)
  made_by None call l x = tt
  made_by (Some r) call l x = scope_there s x.name _ x.denotes d x.scope l loose

  -- behind the call too
  behind_call : (written : Bool) (r : ℕ) → SomeTo (Sized p) (UpTo (length (here s))) (call_now written r ∷ before_scope line d rest todo) → SomeTo (Sized p) (UpTo (length (here s))) (before_scope line d rest todo)
  behind_call true r h = (h.0, h.1.1)
  behind_call false r h = (h.0, h.1.1)

pub law_taken : LawTaken
law_taken source p s t h st = record {
  bound = λ line d rest todo e loose g.
      let x = law_bound.bound source p s h (before_scope line d rest todo) e in
      let f = frames e in
      let l = scope_in (Sized p) (length (here s)) line d rest todo (f.0, f.1.1) in
      subst (ThenThere d) g (subst (λ (k : List Todo). ThenThere d (quiet.act_todo source k s)) (sym e) (scope_there s x.name _ x.denotes d x.scope l loose));
  made = λ c r q written line d rest todo e loose g.
      let x = law_bound.made source p s h c r (call_now written q ∷ before_scope line d rest todo) e in
      let f = frames e in
      let l = scope_in (Sized p) (length (here s)) line d rest todo (behind_call source p s line d rest todo loose written q (f.0, f.1.1)) in
      subst (ThenThere d) g (subst (λ (k : List Todo). ThenThere d (quiet.act_todo source k s)) (sym e) (made_by source p s line d rest todo loose (slice_get source.routines r) (call_now written q) l x));
}
  where
    frames : {k : List Todo} → s.run.control ≡ k → SomeTo (Sized p) (UpTo (length (here s))) k
    frames e = subst (SomeTo (Sized p) (UpTo (length (here s)))) e (law_frames.rooms p s st 0 s.run refl)

pub law_taken_runs : LawTakenRuns
law_taken_runs p formed accepted input opts range j w r f on k s t c =
    law_taken (source_of p) p s t (placed_in p formed accepted input opts range j w r f on k s c) ((law_frame_runs p accepted input opts j w r).comes k s c)
