-- Executions are held soon behind steps that take their marks away, where parts are taken over, and behind those that make them.
use Rattle.std.proofs.Common.{◌≡◌, ℕ, ◌<◌, inl, inr, Bool, false, List, [], ◌∷◌, refl, sym, ◌∙◌, subst}
use Rattle.std.specs.Prelude.{nat_lt}
use Rattle.uc_tree.specs.Source as src
use Rattle.uc_tree.specs.Source.{Source, Expr, CleanUp, Stmts, Routine}
use Rattle.uc_machine.specs.declared.exec.Exec.{Exec}
use Rattle.uc_machine.specs.declared.exec.Home.TheVariants as home
use Rattle.uc_machine.specs.declared.exec.Owner.{Owner}
use Rattle.uc_machine.specs.declared.exec.Owner.TheVariants.{Frame, Fields}
use Rattle.uc_machine.specs.Executions.{exec_eq, change, frames_changed, frame_changed, with_owned}
use Rattle.uc_machine.specs.Switches as sw
use Rattle.uc_machine.specs.Quiet as quiet
use Rattle.uc_machine.specs.Pieces as piece
use Rattle.uc_machine.specs.Pieces.{Value, Running, Todo, Sort, Active, State, Env, Step, Goes, at, in_env, written}
use Rattle.uc_name_laws.specs.NameSteps.{IsBorn}
use Rattle.uc_place_laws.specs.OlderResting.{AllWait}
use Rattle.uc_life_laws.specs.Placed.{Placed, stacked, Ends, all}
use Rattle.uc_life_laws.specs.Outermost.{outermost, outer_by}
use Rattle.uc_life_laws.specs.Destroying.{Seat, Destroying, DestroyingAt, AtElement, EndsElement, EndsBelow, CleansUp}
use Rattle.uc_life_laws.specs.Held.{Seating, SoonIn, Soon, SoonHere, Onwards, HoldsNow, Takes, OfCounted, HoldsCounted, Recounts}
use Rattle.uc_life_laws.specs.Ways.{ExitsBy, LeavesAt}
use Rattle.uc_life_laws.specs.Completing.{AreParts, AreTaken, TakesOver, IsSetUp}
use Rattle.uc_life_laws.proofs.Completing.{law_completing}
use Rattle.uc_life_laws.proofs.Cells.{either}
use Rattle.uc_life_laws.proofs.Parked.{change_exec}
use Rattle.uc_life_laws.proofs.HeldLaws.{outer_ends}
use Rattle.uc_rooted_runs.specs.Makers.{Makers, seating}
use Rattle.uc_rooted_runs.specs.Births.{MakesLater}
use Rattle.uc_rooted_runs.specs.OutlastRuns.{with_homes, now}
use Rattle.uc_rooted_runs.specs.KeptRuns.{KeepsAt}
use Rattle.uc_parts_laws.specs.Parts.{CleansPart, Counts, CountsPlace, OpensAll, FillEnds, CountsNext, FreeBy, IsFree, IsClear, SetsUp, Parted, IsOrderly}
use Rattle.uc_parts_laws.specs.PartStates.{Setting, Spot, seat_at, InParts, OverIn, Over, IsTaken, PartsState}
use Rattle.uc_parts_laws.specs.Leaving.{NamesNew, GoesAt, LawLeaving}

-- an element that is destroyed is one of so many

counted_place : (m : ℕ) (p : Expr) (source : Source) (w : Seat) (n : Exec) (f : ℕ) (this : Value) (P : Value → Type 0) (j : ℕ) → CountsPlace m p → AtElement source w n f this P j p → j < m
counted_place m (src.Element k z p (src.OfObject src.Counted)) source w n f this P j e h = subst (λ i. j < i) e h.0
counted_place m p source w n f this P j e h = absurd e

below : (m : ℕ) (d : Expr) (source : Source) (w : Seat) (n : Exec) (f : ℕ) (this : Value) (j : ℕ) → Counts m d → EndsElement source w n f this j d → j < m
below m (src.OfObject (src.CallOn d p src.NoExprs)) source w n f this j e h = counted_place m p source w n f this (Destroying source w d) j e h
below m (src.OfObject (src.CallUnwritten d p)) source w n f this j e h = counted_place m p source w n f this (Destroying source w d) j e h
below m (src.OfObject (src.EndOn d b (src.Load p))) source w n f this j e h = counted_place m p source w n f this (DestroyingAt source w d) j e h
below m d source w n f this j e h = absurd h

all_below : (m c : ℕ) (d : Expr) (source : Source) (w : Seat) (n : Exec) (f : ℕ) (this : Value) → Counts m d → EndsBelow source w n f this c d → EndsBelow source w n f this m d
all_below m c d source w n f this e h = (h.0, below m d source w n f this h.0 e h.2, h.2)

-- where no array is built or destroyed no marks count
module _ (source : Source) (seats : Seating) (up : Exec → Bool) (s : State) (x : Exec) where
  free_by : (k : Sort) (todo : List Todo) (R F : Type 0) → (F → R → ⊥) → FreeBy k F → OfCounted source seats up s x k todo R → ⊥
  free_by piece.Simple todo R F g f h = g f h
  free_by (piece.IsLoop o t e b) todo R F g f h = g f h
  free_by piece.IsWhole todo R F g f h = g f h
  free_by (piece.IsClean c) todo R F g f h = g f h
  free_by (piece.IsFill m b d) todo R F g f h = absurd f
  free_by (piece.IsSweep d) todo R F g f h = absurd f
  free_by (piece.IsPart c) todo R F g f h = g f h
  free_by (piece.IsGuard hs) todo R F g f h = g f h
  free_by piece.IsFinish todo R F g f h = g f h
  free_by piece.IsFinishCoroutine todo R F g f h = g f h

  pub none_counted : (todo : List Todo) → IsFree todo → HoldsCounted source seats up s x todo → ⊥
  none_counted [] f h = absurd h
  none_counted (piece.CountNow m ∷ (piece.FillNow k b d ∷ todo)) f h = absurd f
  none_counted (p ∷ todo) f h = free_by (piece.sort p) todo (HoldsCounted source seats up s x todo) (IsFree todo) (none_counted todo) f h

-- who runs stays who runs

owned_exec : (o : Owner) (f : List Value → List Value) (e : Env) → (with_owned o f e).exec ≡ e.exec
owned_exec (Frame n d) f e =
    either (λ (x : Env). x.exec ≡ e.exec) (exec_eq n e.exec) (record e { frames = frame_changed d f e.frames }) (change n.home (frames_changed n.serial (frame_changed d f)) e) refl (change_exec n.home (frames_changed n.serial (frame_changed d f)) e)
owned_exec (Fields o) f e = change_exec (home.Object o) _ e

written_exec : (v w : Value) (e : Env) → (written v w e).exec ≡ e.exec
written_exec (piece.Number z) w e = refl
written_exec (piece.Place o p) w e = owned_exec o _ e
written_exec (piece.Running x) w e = refl
written_exec (piece.Object o) w e = owned_exec (Fields o) _ e
written_exec piece.Nothing w e = refl

-- parts alone

are_parts : (special : ℕ → Bool) (P : CleanUp → Type 0) (todo : List Todo) → Parted special P todo → AreParts todo
are_parts special P [] h = tt
are_parts special P (piece.Part c ∷ todo) h = are_parts special P todo h.1
are_parts special P (piece.Clean (src.Frees r) ∷ []) h = tt
are_parts special P todo h = absurd h

-- what an execution was made for
abbrev pub spot_of : Makers → Exec → Spot
spot_of makers x = record { place = (makers.seat x).place; task = (makers.seat x).task }

module _ (source : Source) (special : ℕ → Bool) (home : ℕ → Value) where
  abbrev G : Setting
  G = record { source = source; special = special; home = home }

  -- who waits takes it over
  module _ (v : Spot) (n : Exec) (ps : List Placed) where
    over_rest : (b : Active) (older : List Active) (ss : Stmts) (line : ℕ) (todo : List Todo) → OverIn G v n b (piece.DropNow ∷ (piece.Within line ∷ (piece.Rest ss ∷ todo))) → Ends ps (outer_by b.frame b.this (piece.DropNow ∷ (piece.Within line ∷ (piece.Rest ss ∷ todo))) (stacked older) (outermost older)) → TakesOver source (seat_at G v) ps n b older (piece.DropNow ∷ (piece.Within line ∷ (piece.Rest ss ∷ todo)))
    over_rest b older (src.Scoped c rest) line todo h o = (h, o)
    over_rest b older (src.Built c rest) line todo h o = (h, o)
    over_rest b older ss line todo h o = absurd h

    over_in : (b : Active) (older : List Active) (l : List Todo) → IsOrderly special (IsTaken G n older b.frame b.this) b.elements l → OverIn G v n b l → Ends ps (outer_by b.frame b.this l (stacked older) (outermost older)) → TakesOver source (seat_at G v) ps n b older l
    over_in b older (piece.DropNow ∷ (piece.Within line ∷ (piece.Rest ss ∷ todo))) w h o = over_rest b older ss line todo h o
    over_in b older (piece.DropNow ∷ (piece.MoreNow ∷ (piece.FillNow m e d ∷ todo))) w h o = (w.0.1, h, o)
    over_in b older l w h o = absurd h

    pub taken_over : (cs : List Active) → AllWait (InParts G) (InParts G) n cs → Over G v n cs → Ends ps (outermost cs) → AreTaken source (seat_at G v) ps n cs
    taken_over [] w h o = absurd h
    taken_over (b ∷ older) w h o = over_in b older b.control w.0 h o

module _ (source : Source) (special : ℕ → Bool) (makers : Makers) (homes : ℕ → Value) (asked made : Exec → Bool) (s : State) where
  abbrev Seats : Seating
  Seats = seating (with_homes homes makers)

  abbrev Up : Exec → Bool
  Up = now (with_homes homes makers) asked made

  abbrev W : Exec → Seat
  W x = (with_homes homes makers).seat x

  abbrev Q : CleanUp → Type 0
  Q c = IsTaken (G source special homes) s.env.exec s.callers s.run.frame s.run.this c

  abbrev Leads : Exec → Step → Type 0
  Leads x step = Onwards source (W x) (makers.before x) s.env.exec (SoonHere source (W x) (makers.before x) s.env.exec) (Soon source (W x) (makers.before x) s.env.exec) step

  taken : (c : CleanUp) → CleansPart c → Q c → (v : Spot) → CleansUp source (seat_at (G source special homes) v) s.env.exec s.run.frame s.run.this c → Over (G source special homes) v s.env.exec s.callers
  taken src.Ends p q v h = absurd p
  taken c p q v h = q v h

  -- a part is left
  part : (c : CleanUp) (todo : List Todo) → PartsState (G source special homes) s → s.run.control ≡ piece.Part c ∷ todo → CleansPart c → Q c → Parted special Q todo → Takes source Seats Up s (piece.IsPart c) todo
  part c todo st e n q p x own h =
      subst (λ l. Leads x (quiet.act_todo source l s)) (sym e) (refl, inl (0, law_completing.parts source (W x) (makers.before x) s.env.exec (record s.run { control = todo }) s.callers (are_parts special Q todo p) (taken_over source special homes (spot_of makers x) s.env.exec (makers.before x) s.callers st.callers (taken c n q (spot_of makers x) h.0) h.1)))

  -- all elements of an array stand, and are cleaned up together
  opens : (x : Exec) (m : ℕ) (b d : Expr) (line : ℕ) (ss : Stmts) (todo : List Todo) → OpensAll m d ss → HoldsNow source Seats Up s x (piece.IsFill m b d) (piece.Within line ∷ (piece.Rest ss ∷ todo)) → SoonIn source (W x) (makers.before x) s.env.exec 1 (record s.run { control = piece.Rest ss ∷ todo }) s.callers
  opens x m b d line (src.Scoped (src.DestroysAll k e) rest) todo o h =
      (tt, h.1, λ v q. (q, inl (subst (λ i. EndsBelow source (W x) s.env.exec s.run.frame s.run.this i e) (sym o.0) (subst (λ z. EndsBelow source (W x) s.env.exec s.run.frame s.run.this m z) (sym o.1) (all_below m s.run.elements d source (W x) s.env.exec s.run.frame s.run.this o.2 h.0)), h.1)))
  opens x m b d line (src.Built (src.DestroysAll k e) rest) todo o h =
      (tt, outer_ends source (W x) (makers.before x) s.env.exec s.run.frame s.run.this s.callers (piece.IsFill m b d) (piece.Within line ∷ (piece.Rest (src.Built (src.DestroysAll k e) rest) ∷ todo)) h.1, λ v q. (q, inl (subst (λ i. EndsBelow source (W x) s.env.exec s.run.frame s.run.this i e) (sym o.0) (subst (λ z. EndsBelow source (W x) s.env.exec s.run.frame s.run.this m z) (sym o.1) (all_below m s.run.elements d source (W x) s.env.exec s.run.frame s.run.this o.2 h.0)), h.1)))
  opens x m b d line ss todo o h = absurd o

  stands : (x : Exec) (m : ℕ) (b d : Expr) (todo : List Todo) → FillEnds todo m d → HoldsNow source Seats Up s x (piece.IsFill m b d) todo → SoonIn source (W x) (makers.before x) s.env.exec 2 (record s.run { control = todo }) s.callers
  stands x m b d (piece.Within line ∷ (piece.Rest ss ∷ todo)) o h =
      (tt, outer_ends source (W x) (makers.before x) s.env.exec s.run.frame s.run.this s.callers (piece.IsFill m b d) (piece.Within line ∷ (piece.Rest ss ∷ todo)) h.1, λ v q. (q, opens x m b d line ss todo o h))
  stands x m b d todo o h = absurd o

  fill : (m : ℕ) (b d : Expr) (todo : List Todo) → s.run.control ≡ piece.FillNow m b d ∷ todo → FillEnds todo m d → nat_lt s.run.elements m ≡ false → Takes source Seats Up s (piece.IsFill m b d) todo
  fill m b d todo e o f x own h =
      subst (λ l. Leads x (quiet.act_todo source l s)) (sym e) (subst (λ c. Leads x (quiet.turns (quiet.fill_todo c m b d todo) s)) (sym f) (refl, inl (0, (2, stands x m b d todo o h))))

  -- elements are counted anew
  sweeps : (m : ℕ) (d : Expr) (todo : List Todo) → s.run.control ≡ piece.CountNow m ∷ (piece.Sweep d ∷ todo) → Counts m d → IsFree todo → Recounts source Seats Up s (piece.Sweep d ∷ todo)
  sweeps m d todo e c k x own (inl h) =
      subst (λ l. Leads x (quiet.act_todo source l s)) (sym e) (refl, inl (0, (0, inl (all_below m s.run.elements d source (W x) s.env.exec s.run.frame s.run.this c h.0, h.1))))
  sweeps m d todo e c k x own (inr h) = absurd (none_counted source Seats Up s x todo k h)

  counts : (m : ℕ) (todo : List Todo) → s.run.control ≡ piece.CountNow m ∷ todo → CountsNext m todo → IsOrderly special Q s.run.elements todo → LeavesAt source Seats Up (piece.CountNow m ∷ todo) s
  counts m (piece.Sweep d ∷ todo) e c k = sweeps m d todo e c k.0
  counts m (piece.FillNow i b d ∷ todo) e c k = λ x own h. absurd (none_counted source Seats Up s x todo k.1 h)
  counts m todo e c k = absurd c

  exits : (p : Todo) (todo : List Todo) → IsClear (p ∷ todo) → ExitsBy source Seats Up (piece.sort p) todo s
  exits (piece.Part c) todo l = absurd l
  exits (piece.FillNow m b d) todo l = absurd l
  exits (piece.Sweep d) todo l = absurd l
  exits p todo l = tt

  pub leaves : PartsState (G source special homes) s → (l : List Todo) → s.run.control ≡ l → IsOrderly special Q s.run.elements l → GoesAt source Seats Up l s → KeepsAt (with_homes homes makers) asked source Up l s
  leaves st [] e k g = g
  leaves st (piece.ClearNow i m ∷ todo) e k g = g
  leaves st (piece.Finish ∷ todo) e k g = g
  leaves st (piece.Exit way ∷ []) e k g = g
  leaves st (piece.Unwind ∷ []) e k g = g
  leaves st (piece.Clean c ∷ todo) e k g = g
  leaves st (piece.Part c ∷ todo) e k g = part c todo st e k.0.1 k.0.0 k.1
  leaves st (piece.FillNow m b d ∷ todo) e k g = λ f. fill m b d todo e k.0 f
  leaves st (piece.Sweep d ∷ todo) e k g = (g, λ x own h. absurd (none_counted source Seats Up s x todo k.0 h))
  leaves st (piece.CountNow m ∷ todo) e k g = counts m todo e k.0 k.1
  leaves st (piece.MoreNow ∷ todo) e k g = k.0.1
  leaves st (piece.Unwind ∷ (p ∷ todo)) e k g = g
  leaves st (piece.Exit w ∷ (p ∷ todo)) e k g = exits p todo k.0
  leaves st l e k g = tt

  -- an execution that is made is a part of the object at hand next

  set_up : (w : Seat) (ps : List Placed) (a : Active) (cs : List Active) (todo : List Todo) → SetsUp todo → w.task ≡ false → a.this ≡ w.place → Ends ps (outermost cs) → IsSetUp source w ps s.env.exec a cs todo
  set_up w ps a cs (piece.Rest (src.Built src.Forgets rest) ∷ todo) h t i o = (t, i, o)
  set_up w ps a cs todo h t i o = absurd h

  born_exec : (r : Routine) → (written s.run.this (Running (sw.new_exec (quiet.home_at s.run.this s.env) s.env)) (sw.born (quiet.home_at s.run.this s.env) (quiet.fresh r s.run.this) s.env)).exec ≡ s.env.exec
  born_exec r = written_exec s.run.this (Running (sw.new_exec (quiet.home_at s.run.this s.env) s.env)) (sw.born (quiet.home_at s.run.this s.env) (quiet.fresh r s.run.this) s.env) ∙ change_exec (quiet.home_at s.run.this s.env) (sw.one_more (quiet.fresh r s.run.this)) s.env

  abbrev Behind : Exec → Step → Type 0
  Behind n (Goes v) = Soon source (W n) (makers.before n) v.env.exec v.run v.callers
  Behind n step = Unit {0}

  soon : PartsState (G source special homes) s → MakesLater source makers s → (n : Exec) → IsBorn source s n → Ends (makers.before n) (outermost s.callers) → (b : IsBorn source s n) → Soon source (W n) (makers.before n) s.env.exec (record s.run { control = b.todo }) s.callers
  soon st later n i o b =
      let k : IsOrderly special Q s.run.elements (piece.SetUpNow b.main ∷ b.todo) = subst (λ l. IsOrderly special Q s.run.elements l) b.next st.run in
      law_completing.begins source (W n) (makers.before n) s.env.exec (record s.run { control = b.todo }) s.callers (set_up (W n) (makers.before n) (record s.run { control = b.todo }) s.callers b.todo k.0.0 (later n i).task (sym (later n i).seat) o)

  made_soon : PartsState (G source special homes) s → MakesLater source makers s → (n : Exec) → IsBorn source s n → (u : State) → quiet.quiet source s ≡ Goes u → Soon source (W n) (makers.before n) u.env.exec u.run u.callers
  made_soon st later n b u g =
      subst (Behind n) g (subst (λ l. Behind n (quiet.act_todo source l s)) (sym b.next) (subst (λ r. Behind n (quiet.set_up_step r b.todo s)) (sym b.known) (subst (λ k. Soon source (W n) (makers.before n) k (record s.run { control = b.todo }) s.callers) (sym (born_exec b.routine)) (soon st later n b (subst (λ ps. Ends ps (outermost s.callers)) (sym (later n b).before) all) b))))

pub law_leaving : LawLeaving
law_leaving source special makers homes asked made s st later k = record {
  leaves = leaves source special makers homes asked made s st s.run.control refl st.run k;
  held = λ n b a u g. made_soon source special makers homes asked made s st later n b u g;
  named = λ n b a u g.
      let new : NamesNew source (seating (with_homes homes makers)) (now (with_homes homes makers) asked made) s = subst (λ l. GoesAt source (seating (with_homes homes makers)) (now (with_homes homes makers) asked made) l s) b.next k in
      new n b u g;
}
