-- Steps that take marks away lead to where those that these held are held.
use Rattle.std.proofs.Common.{◌≡◌, ℕ, zero, suc, ◌<◌, ◌≤◌, inl, inr, ⊎_elim, Bool, true, false, List, [], ◌∷◌, refl, sym, ap, ◌∙◌, subst, arith}
use Rattle.std.specs.Prelude.{nat_lt, min, ◌+◌, if◌then◌else◌, slice_index_or}
use Rattle.std.proofs.lemmas.Bool.{cases_lt}
use Rattle.uc_tree.specs.Source as src
use Rattle.uc_tree.specs.Source.{Source, Expr, CleanUp, Way}
use Rattle.uc_machine.specs.declared.exec.Exec.{Exec}
use Rattle.uc_machine.specs.declared.exec.Owner.TheVariants.{Frame, Fields}
use Rattle.uc_machine.specs.Executions.{at_depth, list_in, frames_in, parked_at}
use Rattle.uc_machine.specs.Raising as raising
use Rattle.uc_machine.specs.Quiet as quiet
use Rattle.uc_machine.specs.Quiet.{MOST_ELEMENTS}
use Rattle.uc_machine.specs.Pieces as piece
use Rattle.uc_machine.specs.Pieces.{Value, Number, Place, Running, Object, Nothing, Todo, Sort, Active, State, Step, address, at, exec_in, loaded, nought}
use Rattle.uc_life_laws.specs.Placed.{placed, stacked, Ends}
use Rattle.uc_life_laws.specs.Destroying.{CleansUp, EndsBelow, EndsElement}
use Rattle.uc_life_laws.specs.Held.{Seating, NamedAt, HeldState, IsOuter, HeldBy, HeldIn, Held, Onwards, Soon, SoonHere, IsOwn, LeadsSoon, HoldsNow, Takes, OfCounted, HoldsCounted, TakesAt}
use Rattle.uc_life_laws.specs.Ways.{NamesHere, ReadsLast, ForgetsBy, UnwindsBy, ExitsBy, LeavesAt, LawWays}
use Rattle.uc_life_laws.proofs.HeldLaws.{outer_ends}
use Rattle.uc_life_laws.proofs.LifeSteps.{exec_same}
use Rattle.uc_life_laws.proofs.WaysEnds as ends

module _ (source : Source) (seats : Seating) (up : Exec → Bool) (s : State) (st : HeldState source seats up s) where
  module _ (x : Exec) where
    abbrev Now : Active → Type 0
    Now b = Soon source (seats.seat x) (seats.before x) s.env.exec b s.callers

    abbrev Leads : Step → Type 0
    Leads step = Onwards source (seats.seat x) (seats.before x) s.env.exec (SoonHere source (seats.seat x) (seats.before x) s.env.exec) (Soon source (seats.seat x) (seats.before x) s.env.exec) step

    abbrev Outer : List Todo → Type 0
    Outer todo = Ends (seats.before x) (placed s.run.frame s.run.this todo (stacked s.callers))

    -- what is outwards of all that is under construction is outwards of a mark
    outside : (k : Sort) (todo : List Todo) → IsOuter source (seats.seat x) (seats.before x) s.env.exec s.run.frame s.run.this k todo s.callers → Outer todo
    outside k todo h = outer_ends source (seats.seat x) (seats.before x) s.env.exec s.run.frame s.run.this s.callers k todo h

    -- the first cell of the coroutine at hand names it
    names_by : (v : Value) → NamedAt s.env.exec s.callers s.env.frames x v → s.run.this ≡ v → NamesHere x s v
    names_by (Place (Frame m d) p) h e =
        let mine : Place (Frame m d) p ≡ Place (Frame s.env.exec d) p = ap (λ k. Place (Frame k d) p) h.own in
        (ap (λ v. exec_in (loaded v s.env)) (e ∙ mine) ∙ (ap (λ (b : Bool). exec_in (slice_index_or (list_in (at_depth (if b then s.env.frames else frames_in (parked_at s.env.exec s.env)) d)) (address p) nought)) (exec_same s.env.exec) ∙ ap exec_in h.names), h.home)
    names_by (Place (Fields o) p) h e = tt
    names_by (Number z) h e = tt
    names_by (Running y) h e = tt
    names_by (Object o) h e = tt
    names_by Nothing h e = tt

    names : s.run.this ≡ (seats.seat x).place → NamedAt s.env.exec s.callers s.env.frames x (seats.seat x).place → NamesHere x s s.run.this
    names e h = subst (NamesHere x s) (sym e) (names_by (seats.seat x).place h e)

    -- what is done at a clean-up, with these operands, before the rest
    cleaned : IsOwn source seats up s x → (c : CleanUp) (rest : List Todo) (vs : List Value) → quiet.quiet source s ≡ piece.Goes (at (piece.clean_todo c rest) vs s) → CleansUp source (seats.seat x) s.env.exec s.run.frame s.run.this c → Outer rest → ForgetsBy source seats up c s → LeadsSoon source seats up s x
    cleaned own (src.Destroys e) rest vs q h o g = subst Leads (sym q) (refl, ends.ends_at source seats up x s (piece.DropNow ∷ rest) o e vs h (g x own))
    cleaned own (src.DestroysAll m e) rest vs q h o g = subst Leads (sym q) (refl, inl (0, (1, (tt, o, λ v p. (p, inl (h, o))))))
    cleaned own src.Forgets rest vs q h o g = absurd (g x own h.0 h.1 (names h.1 (st.named x own.0 own.1 h.0)))
    cleaned own src.Ends rest vs q h o g = subst Leads (sym q) (refl, inr (h.0, h.1, o))
    cleaned own c rest vs q h o g = absurd h

    -- behind an event
    scoped : (c : CleanUp) (b : Bool) (todo : List Todo) → CleansUp source (seats.seat x) s.env.exec s.run.frame s.run.this c → raising.scope_left c b todo s ≡ piece.Goes (at (piece.clean_todo c (piece.Unwind ∷ todo)) [] s)
    scoped (src.Destroys e) b todo h = refl
    scoped (src.DestroysAll m e) b todo h = refl
    scoped src.Forgets b todo h = refl
    scoped src.Ends b todo h = refl
    scoped c b todo h = absurd h

    unwound : IsOwn source seats up s x → (p : Todo) (todo : List Todo) → s.run.control ≡ piece.Unwind ∷ (p ∷ todo) → (k : Sort) → piece.sort p ≡ k → UnwindsBy source seats up k s → HoldsNow source seats up s x k todo → LeadsSoon source seats up s x
    unwound own p todo e (piece.IsClean c) i g h =
        cleaned own c (piece.Unwind ∷ todo) [] (ap (λ l. quiet.act_todo source l s) e ∙ (ap (λ k. raising.unwind_past k todo s) i ∙ scoped c _ todo h.0)) h.0 h.1 g
    unwound own p todo e (piece.IsPart c) i g h =
        cleaned own c (piece.Unwind ∷ todo) [] (ap (λ l. quiet.act_todo source l s) e ∙ ap (λ k. raising.unwind_past k todo s) i) h.0 (outside (piece.IsPart c) todo h.1) g
    unwound own p todo e (piece.IsFill m b d) i g h =
        subst Leads (sym (ap (λ l. quiet.act_todo source l s) e ∙ ap (λ k. raising.unwind_past k todo s) i)) (refl, inl (0, (0, inl (h.0, outside (piece.IsFill m b d) todo h.1))))
    unwound own p todo e (piece.IsSweep d) i g h =
        subst Leads (sym (ap (λ l. quiet.act_todo source l s) e ∙ ap (λ k. raising.unwind_past k todo s) i)) (refl, inl (0, (0, inl h)))
    unwound own p todo e k i g h = absurd h

    -- an exit
    exited : (way : Way) (p : Todo) (todo : List Todo) → s.run.control ≡ piece.Exit way ∷ (p ∷ todo) → IsOwn source seats up s x → (k : Sort) → piece.sort p ≡ k → ExitsBy source seats up k todo s → HoldsNow source seats up s x k todo → LeadsSoon source seats up s x
    exited way p todo e own (piece.IsClean c) i g h =
        subst (λ l. Leads (quiet.act_todo source l s)) (sym e) (subst (λ k. Leads (quiet.turns (quiet.left_behind way k todo) s)) (sym i) (refl, inl (0, (0, inl h))))
    exited way p todo e own (piece.IsPart c) i g h = g x own h
    exited way p todo e own (piece.IsFill m b d) i g h = g x own h
    exited way p todo e own (piece.IsSweep d) i g h = g x own h
    exited way p todo e own k i g h = absurd h

    -- elements are built while fewer stand
    filled : (m : ℕ) (b d : Expr) (todo : List Todo) → s.run.control ≡ piece.FillNow m b d ∷ todo → IsOwn source seats up s x → (nat_lt s.run.elements m ≡ false → Takes source seats up s (piece.IsFill m b d) todo) → HoldsNow source seats up s x (piece.IsFill m b d) todo → LeadsSoon source seats up s x
    filled m b d todo e own g h = by (nat_lt s.run.elements m) refl
      where
        by : (c : Bool) → nat_lt s.run.elements m ≡ c → LeadsSoon source seats up s x
        by true i = subst (λ l. Leads (quiet.act_todo source l s)) (sym e) (subst (λ c. Leads (quiet.turns (quiet.fill_todo c m b d todo) s)) (sym i) (refl, inl (0, (0, inl h))))
        by false i = g i x own h

    -- the last one that stands is destroyed
    swept : (d : Expr) (todo : List Todo) → s.run.control ≡ piece.Sweep d ∷ todo → ReadsLast source seats up x d s → HoldsNow source seats up s x (piece.IsSweep d) todo → LeadsSoon source seats up s x
    swept d todo e g h = subst (λ l. Leads (quiet.act_todo source l s)) (sym e) (by s.run.elements refl h.0)
      where
        last : (m j : ℕ) → s.run.elements ≡ suc m → j < suc m → m ≤ j → EndsElement source (seats.seat x) s.env.exec s.run.frame s.run.this j d → SoonHere source (seats.seat x) (seats.before x) s.env.exec (at (piece.Eval d ∷ (piece.DropNow ∷ (piece.Sweep d ∷ todo))) s.run.operands (quiet.with_elements m s))
        last m j i l f k =
            let same : j ≡ m = omega (arith, l, f) in
            ends.ends_element source seats up x s (piece.DropNow ∷ (piece.Sweep d ∷ todo)) h.1 d m i (subst (λ i. EndsElement source (seats.seat x) s.env.exec s.run.frame s.run.this i d) same k) g

        by : (m : ℕ) → s.run.elements ≡ m → EndsBelow source (seats.seat x) s.env.exec s.run.frame s.run.this s.run.elements d → Leads (quiet.sweep_step m d todo s)
        by zero i k = let l : k.0 < s.run.elements = k.1 in absurd (omega (arith, l, i))
        by (suc m) i k =
            let l : k.0 < suc m = subst (λ c. k.0 < c) i k.1 in
            (refl, ⊎_elim (λ j. inl (0, (0, inl ((k.0, j, k.2), h.1)))) (λ j. last m k.0 i l j k.2) (cases_lt k.0 m))

    -- one more stands
    more_by : (e : ℕ) → ((j : ℕ) → j < s.run.elements → j < e) → (k : Sort) (todo : List Todo) (R T : Type 0) → (R → T) → OfCounted source seats up s x k todo R → HeldBy source (seats.seat x) (seats.before x) s.env.exec s.run.frame s.run.this e k todo s.callers T
    more_by e f (piece.IsClean c) todo R T g h = inr (g h)
    more_by e f (piece.IsPart c) todo R T g h = inr (g h)
    more_by e f piece.Simple todo R T g h = g h
    more_by e f (piece.IsLoop o t y q) todo R T g h = g h
    more_by e f piece.IsWhole todo R T g h = g h
    more_by e f (piece.IsFill m y z) todo R T g (inl h) = inl ((h.0.0, f h.0.0 h.0.1, h.0.2), h.1)
    more_by e f (piece.IsFill m y z) todo R T g (inr h) = inr (g h)
    more_by e f (piece.IsSweep y) todo R T g (inl h) = inl ((h.0.0, f h.0.0 h.0.1, h.0.2), h.1)
    more_by e f (piece.IsSweep y) todo R T g (inr h) = inr (g h)
    more_by e f (piece.IsGuard y) todo R T g h = g h
    more_by e f piece.IsFinish todo R T g h = g h
    more_by e f piece.IsFinishCoroutine todo R T g h = g h

    more_in : (e : ℕ) → ((j : ℕ) → j < s.run.elements → j < e) → (todo : List Todo) → HoldsCounted source seats up s x todo → HeldIn source (seats.seat x) (seats.before x) s.env.exec s.run.frame s.run.this e s.callers (Held source (seats.seat x) (seats.before x) s.env.exec s.callers) todo
    more_in e f [] h = absurd h
    more_in e f (piece.CountNow m ∷ (piece.FillNow k b d ∷ todo)) h = more_in e f todo h
    more_in e f (p ∷ todo) h = more_by e f (piece.sort p) todo (HoldsCounted source seats up s x todo) _ (more_in e f todo) h

  still_less : (e : ℕ) → e < MOST_ELEMENTS → (j : ℕ) → j < e → j < min (e + 1) MOST_ELEMENTS
  still_less e l j k = omega (arith, l, k)

  taken : (l : List Todo) → s.run.control ≡ l → LeavesAt source seats up l s → TakesAt source seats up l s
  taken (piece.Clean c ∷ todo) e g = λ x own h. cleaned x own c todo s.run.operands (ap (λ l. quiet.act_todo source l s) e) h.0 h.1 g
  taken (piece.FillNow m b d ∷ todo) e g = λ x own h. filled x m b d todo e own g h
  taken (piece.Sweep d ∷ todo) e g = (λ x own h. swept x d todo e (g.0 x own) h, g.1)
  taken (piece.MoreNow ∷ todo) e g = λ x own h. subst (λ l. Leads x (quiet.act_todo source l s)) (sym e) (refl, inl (0, (0, more_in x (min (s.run.elements + 1) MOST_ELEMENTS) (still_less s.run.elements g) todo h)))
  taken (piece.Unwind ∷ (p ∷ todo)) e g = λ x own h. unwound x own p todo e (piece.sort p) refl g h
  taken (piece.Exit way ∷ (p ∷ todo)) e g = λ x own h. exited x way p todo e own (piece.sort p) refl g h
  taken l e g = g

pub law_ways : LawWays
law_ways source seats up s st g = taken source seats up s st s.run.control refl g
