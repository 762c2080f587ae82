-- Where an object is built next whose declaration is done, nothing is bound yet in its fields: its cells have just started anew.
use Rattle.std.proofs.Common.{◌≡◌, ℕ, ◌+◌, ◌≤◌, ◌<◌, inl, inr, Bool, true, false, List, [], ◌∷◌, length, refl, sym, ap, ◌∙◌, subst, arith}
use Rattle.std.specs.Prelude.{nat_lt, slice_index_or}
use Rattle.std.proofs.lemmas.Bool.{ltb-true, ltb-false}
use Rattle.uc_tree.specs.Programs.{Program}
use Rattle.uc_tree.specs.Source.{field_cells, shape_cells, Source, Stmts}
use Rattle.uc_entry.specs.declared.request.Request.{Request}
use Rattle.uc_entry.specs.declared.request.Request.TheVariants as ask
use Rattle.uc_machine.specs.Executions.{frame_changed, values_cleared}
use Rattle.uc_machine.specs.Quiet as quiet
use Rattle.uc_machine.specs.Pieces as piece
use Rattle.uc_machine.specs.Pieces.{Value, Todo, State, Step, Goes, Ticks, Asks, LAST_ADDRESS, at, in_env, below, nought}
use Rattle.uc_typing.specs.Typing.{Sig, Table}
use Rattle.uc_state_laws.specs.Layout.{Sized}
use Rattle.uc_place_laws.specs.Opened.{BuildsOf, Spans}
use Rattle.uc_place_laws.specs.CalledStates.{Follows, AskFollows, StepFollows}
use Rattle.uc_place_laws.proofs.OpeningMarks.{builds_more, builds_any}
use Rattle.uc_life_laws.specs.Things.{Few}
use Rattle.uc_life_laws.specs.LifeStates.{frame_at}
use Rattle.uc_life_laws.specs.Kinds.{GoesOn}
use Rattle.uc_life_laws.specs.LifeRuns.{IsLaidOut}
use Rattle.uc_building_laws.specs.Anew.{IsFree, OnWay, IsAnew}
use Rattle.uc_building_laws.specs.BuildingStates.{Starts, StartsBehind}
use Rattle.uc_building_laws.specs.BuildingLaws.{AreAddressed, IsSpanned}
use Rattle.uc_building_laws.proofs.Memory.{set_there, cell_past, cells_anew, frame_loose}
use Rattle.uc_building_laws.proofs.Anew.{spot, spot_is, spot_within}
use Rattle.uc_building_laws.proofs.Clears.{cleared_frames}

-- where another execution goes on behind a step none is built next
pub others_start : (p : Program) (s : State) → (GoesOn s.run.control s.run.raised → ⊥) → (P : ℕ → ℕ → Type 0) (l : List Todo) → Follows p s l → OnWay P l
others_start p s other P (piece.Rest ss ∷ todo) (inl none) = builds_any P ss none
others_start p s other P (piece.Rest ss ∷ todo) (inr q) = absurd (other (subst (λ l. GoesOn l s.run.raised) (sym q.1) tt))
others_start p s other P (piece.Within line ∷ (piece.Rest ss ∷ todo)) (inl none) = builds_any P ss none
others_start p s other P (piece.Within line ∷ (piece.Rest ss ∷ todo)) (inr q) = absurd (other (subst (λ l. GoesOn l s.run.raised) (sym q) tt))
others_start p s other P (piece.Variables [] ∷ (piece.Within line ∷ (piece.Rest ss ∷ todo))) (inl none) = builds_any P ss none
others_start p s other P (piece.Variables [] ∷ (piece.Within line ∷ (piece.Rest ss ∷ todo))) (inr (k, n, q, h)) = absurd (other (subst (λ l. GoesOn l s.run.raised) (sym q) tt))
others_start p s other P l f = tt

module _ (t : Table) (heads : ℕ → ℕ → Bool) (few : Few) (kinds : List Sig) (p : Program) (source : Source) (s : State) (laid : IsLaidOut (Sized p) t) (spanned : IsSpanned p t) (short : AreAddressed s) (st : Starts t heads few kinds s) where
  abbrev pub StepStarts : Step → Type 0
  StepStarts (Goes u) = Starts t heads few kinds u
  StepStarts (Ticks u) = Starts t heads few kinds u
  StepStarts (Asks r u) = StartsBehind t heads few kinds r u

  abbrev Anew : State → ℕ → ℕ → Type 0
  Anew u d k = IsAnew t heads u.env.frames u.run.frame d k

  -- cells that have started anew
  module _ (k n : ℕ) where
    abbrev gs : List (List Value)
    gs = frame_changed s.run.frame (values_cleared k n nought) s.env.frames

    cleared : (d m : ℕ) → (k ≡ m) × Spans p d n → IsAnew t heads gs s.run.frame d m
    cleared d m h i of j is told b cell = by (nat_lt place (length (frame_at s.run.frame s.env.frames))) refl
      where
        place : ℕ
        place = spot t m i j

        by : (x : Bool) → nat_lt place (length (frame_at s.run.frame s.env.frames)) ≡ x → IsFree (slice_index_or (frame_at s.run.frame gs) place nought)
        by true q =
            let l : place < length (frame_at s.run.frame s.env.frames) = ltb-true place (length (frame_at s.run.frame s.env.frames)) q in
            let a = short s.run.frame in
            let e : place ≡ m + field_cells (t.shape i) j = spot_is t m i j (omega (arith, l, a)) in
            let w = spot_within t (Sized p) laid m i j is b cell in
            let z : shape_cells (t.shape i) ≤ n = spanned d n i h.1 of in
            let same = h.0 in
            set_there (λ vs. IsFree (slice_index_or vs place nought)) s.env.frames s.run.frame place (values_cleared k n nought (frame_at s.run.frame s.env.frames)) l (cells_anew (frame_at s.run.frame s.env.frames) k n place (omega (arith, e, same)) (omega (arith, w, z, same)))
        by false q = frame_loose s.env.frames s.run.frame k n s.run.frame place (cell_past (frame_at s.run.frame s.env.frames) place (ltb-false place (length (frame_at s.run.frame s.env.frames)) q))

  module _ (line : ℕ) (ss : Stmts) (todo : List Todo) where
    abbrev rest : List Todo
    rest = piece.Rest ss ∷ todo

    abbrev within : List Todo
    within = piece.Within line ∷ rest

    abbrev declared : List Todo
    declared = piece.Variables [] ∷ within

    leaves : s.run.control ≡ within → quiet.quiet source s ≡ Goes (at rest s.run.operands s)
    leaves e = ap (λ l. quiet.act_todo source l s) e

    done : s.run.control ≡ declared → quiet.quiet source s ≡ Goes (at within s.run.operands s)
    done e = ap (λ l. quiet.act_todo source l s) e

    clears : (k n : ℕ) → s.run.control ≡ piece.ClearNow k n ∷ declared → quiet.quiet source s ≡ Goes (at declared s.run.operands (in_env (piece.cleared k n s) s))
    clears k n e = ap (λ l. quiet.act_todo source l s) e

    left : s.run.control ≡ within → BuildsOf (Anew s) ss
    left e = subst (OnWay (Anew s)) e st

    declared_left : s.run.control ≡ declared → BuildsOf (Anew s) ss
    declared_left e = subst (OnWay (Anew s)) e st

  goes_at : (u : State) (l : List Todo) → quiet.quiet source s ≡ Goes u → Follows p s l → OnWay (Anew u) l
  goes_at u (piece.Rest ss ∷ todo) e (inl none) = builds_any (Anew u) ss none
  goes_at u (piece.Rest ss ∷ todo) e (inr q) =
      let a : Goes (at (piece.Rest ss ∷ todo) s.run.operands s) ≡ Goes u = sym (leaves q.0 ss todo q.1) ∙ e in
      let same : at (piece.Rest ss ∷ todo) s.run.operands s ≡ u = cc in
      subst (λ u. BuildsOf (Anew u) ss) same (left q.0 ss todo q.1)
  goes_at u (piece.Within line ∷ (piece.Rest ss ∷ todo)) e (inl none) = builds_any (Anew u) ss none
  goes_at u (piece.Within line ∷ (piece.Rest ss ∷ todo)) e (inr q) =
      let a : Goes (at (piece.Within line ∷ (piece.Rest ss ∷ todo)) s.run.operands s) ≡ Goes u = sym (done line ss todo q) ∙ e in
      let same : at (piece.Within line ∷ (piece.Rest ss ∷ todo)) s.run.operands s ≡ u = cc in
      subst (λ u. BuildsOf (Anew u) ss) same (declared_left line ss todo q)
  goes_at u (piece.Variables [] ∷ (piece.Within line ∷ (piece.Rest ss ∷ todo))) e (inl none) = builds_any (Anew u) ss none
  goes_at u (piece.Variables [] ∷ (piece.Within line ∷ (piece.Rest ss ∷ todo))) e (inr (k, n, q, h)) =
      let a : Goes (at (declared line ss todo) s.run.operands (in_env (piece.cleared k n s) s)) ≡ Goes u = sym (clears line ss todo k n q) ∙ e in
      let same : at (declared line ss todo) s.run.operands (in_env (piece.cleared k n s) s) ≡ u = cc in
      subst (λ u. BuildsOf (Anew u) ss) same (builds_more (λ d m. (k ≡ m) × Spans p d n) (Anew (at (declared line ss todo) s.run.operands (in_env (piece.cleared k n s) s))) (λ d m x. subst (λ fs. IsAnew t heads fs s.run.frame d m) (sym (cleared_frames t heads few kinds s k n)) (cleared k n d m x)) ss h)
  goes_at u l e f = tt

  -- behind another step
  else_at : (P : ℕ → ℕ → Type 0) (l : List Todo) → ((u : State) → quiet.quiet source s ≡ Goes u → ⊥) → Follows p s l → OnWay P l
  else_at P (piece.Rest ss ∷ todo) other (inl none) = builds_any P ss none
  else_at P (piece.Rest ss ∷ todo) other (inr q) = absurd (other _ (leaves q.0 ss todo q.1))
  else_at P (piece.Within line ∷ (piece.Rest ss ∷ todo)) other (inl none) = builds_any P ss none
  else_at P (piece.Within line ∷ (piece.Rest ss ∷ todo)) other (inr q) = absurd (other _ (done line ss todo q))
  else_at P (piece.Variables [] ∷ (piece.Within line ∷ (piece.Rest ss ∷ todo))) other (inl none) = builds_any P ss none
  else_at P (piece.Variables [] ∷ (piece.Within line ∷ (piece.Rest ss ∷ todo))) other (inr (k, n, q, h)) = absurd (other _ (clears line ss todo k n q))
  else_at P l other f = tt

  ticks_not : (u v : State) → Ticks u ≡ Goes v → ⊥
  ticks_not u v e = absurd (cc)

  asks_not : (r : Request) (u v : State) → Asks r u ≡ Goes v → ⊥
  asks_not r u v e = absurd (cc)

  behind : (r : Request) (u : State) → quiet.quiet source s ≡ Asks r u → AskFollows p s r u → StartsBehind t heads few kinds r u
  behind ask.End u e f = tt
  behind (ask.Fault n) u e f = tt
  behind r u e f = else_at (Anew u) u.run.control (λ v q. asks_not r u v (sym e ∙ q)) f

  pub starts : (step : Step) → quiet.quiet source s ≡ step → StepFollows p s step → StepStarts step
  starts (Goes u) e f = goes_at u u.run.control e f
  starts (Ticks u) e f = else_at (Anew u) u.run.control (λ v q. ticks_not u v (sym e ∙ q)) f
  starts (Asks r u) e f = behind r u e f
