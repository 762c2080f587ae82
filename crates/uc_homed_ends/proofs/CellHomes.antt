-- What is read before a mutex object ends is at home there, since the own cells of frames and of mutex objects hold what is at home; and what a step is to find
-- for that is found where all is known.
use Rattle.std.proofs.Common.{◌≡◌, ℕ, suc, ◌<◌, inl, inr, Bool, true, false, List, [], ◌∷◌, length, drop, Option, Some, None, refl, sym, ap, ◌∙◌, subst, arith}
use Rattle.std.specs.Prelude.{slice_get}
use Rattle.uc_tree.specs.Programs.{Program}
use Rattle.uc_tree.specs.Source.{Expr, Load, Binding, Routine, Source}
use Rattle.uc_machine.specs.declared.exec.Owner.TheVariants.{Frame}
use Rattle.uc_machine.specs.Pieces as piece
use Rattle.uc_machine.specs.Pieces.{Slot, FieldAt, At, Value, Number, Place, Running, Object, Nothing, Todo, State, Env, further, loaded, top, below}
use Rattle.uc_resolve.specs.Resolve.{source_of}
use Rattle.uc_rules.specs.Breaks.{breaks_of}
use Rattle.uc_state_laws.specs.Counted.{params, params_at}
use Rattle.uc_state_laws.specs.Limits.{IsWithinLimits}
use Rattle.uc_typing.specs.Typing.{Ty, Cell, Obj, Row, Table, object_ty}
use Rattle.uc_typing.specs.Pieces.{Ok, CallsOn, onto}
use Rattle.uc_typing.specs.States.{IsNumbered, IsObjectBy, Sound}
use Rattle.uc_typing.proofs.Answers.{there}
use Rattle.uc_typing.proofs.Frames.{drop_onto}
use Rattle.uc_sound.specs.SoundFormed.{IsFormed}
use Rattle.uc_sound.specs.Tables.{table_of}
use Rattle.uc_sound.proofs.Lists.{right_is}
use Rattle.uc_sound.proofs.SoundLemmas.{law_sound}
use Rattle.uc_sound.proofs.Ties.{false_true}
use Rattle.uc_life_laws.specs.Things.{Few, Known}
use Rattle.uc_life_laws.specs.Knowing.{AtHand, KnownAll, KnowsState}
use Rattle.uc_life_laws.specs.MadeObjects as made
use Rattle.uc_life_laws.specs.Ending.{Spot, OfVariable, OfField, naming, place_at}
use Rattle.uc_life_laws.proofs.Knowns.{newest, values_drop}
use Rattle.uc_cell_laws.specs.Sites.{Telling, IsNoMaker, HasPlace, EndsAt}
use Rattle.uc_cell_laws.specs.CellTodos as code
use Rattle.uc_cell_laws.specs.CellTodos.{Mark, Sited, around, Meets}
use Rattle.uc_cell_laws.specs.CellStates.{CellState, FindsNumber, FindsAt, CellFinds}
use Rattle.uc_cell_laws.specs.OwnCells.{is_of_objects, telling_of}
use Rattle.uc_cell_laws.proofs.CellFields.{part_read}
use Rattle.uc_cell_laws.proofs.CellPlaces.{variable_meets, field_meets, element_meets, sited_lies}
use Rattle.uc_cell_laws.proofs.OwnCells.{may_write}
use Rattle.uc_homed_ends.specs.EndCode.{EndSite, AtSpot, AtElement, named}
use Rattle.uc_homed_ends.specs.EndWays as ways
use Rattle.uc_homed_ends.specs.EndWays.{Found, Leaves}
use Rattle.uc_homed_ends.proofs.EndReads.{Reading}

same_object : (n o : ℕ) → Object n ≡ Object o → n ≡ o
same_object n o e = cc

some_same : (c d : ℕ) → Some c ≡ Some d → c ≡ d
some_same c d e = cc

numbered : (v : Value) → IsNumbered v → (o : ℕ) × (v ≡ Object o)
numbered (Number z) h = absurd h
numbered (Place o p) h = absurd h
numbered (Running e) h = absurd h
numbered (Object o) h = (o, refl)
numbered Nothing h = absurd h

module _ (p : Program) (formed : IsFormed p) (accepted : breaks_of p ≡ []) (few : Few) (class : ℕ → Option ℕ) where
  abbrev g : Telling
  g = telling_of p few class

  abbrev t : Table
  t = table_of p

  abbrev source : Source
  source = source_of p

  abbrev pub CellHere : State → Type 0
  CellHere s = CellState g s

  -- what is called to build or destroy a mutex object is its number

  module _ (s : State) (x : KnowsState t few [] s) where
    abbrev Here : Value → Ty → Type 0
    Here w a = AtHand t few s.env.exec x.sigs (s.run ∷ s.callers) w a

    number_of : (b : Bool) (c : ℕ) (v : Value) → t.mutex c ≡ true → Known t few s.env.exec Here (object_ty b c) v → (o : ℕ) × (v ≡ Object o)
    number_of true c v m h = numbered v (subst (λ b. IsObjectBy t b c v) m h.is)
    number_of false c v m h = numbered v (subst (λ b. IsObjectBy t b c v) m h.is)

    called : (q : ℕ) (more : List Ty) (c : ℕ) → CallsOn t q x.run.own more c → FindsNumber g q s
    called q more c h = λ special d e m. by d m (slice_get source.routines q) refl (some_same c d (sym h.1 ∙ e))
      where
        sound : Sound t source
        sound = law_sound p formed accepted

        by : (d : ℕ) → t.mutex d ≡ true → (y : Option Routine) → slice_get source.routines q ≡ y → c ≡ d → (o : ℕ) × (top (drop (params_at y) s.run.operands) ≡ Object o)
        by d m None f same = absurd (there source.routines q (subst (λ k. q < k) (sym sound.count) h.2) f)
        by d m (Some y) f same =
            let v : KnownAll t few s.env.exec Here (onto (t.routine q).params (object_ty (t.routine q).whole c ∷ more)) s.run.operands = subst (λ l. KnownAll t few s.env.exec Here l s.run.operands) h.0 x.run.values in
            let k : KnownAll t few s.env.exec Here (object_ty (t.routine q).whole c ∷ more) (drop y.params s.run.operands) = subst (λ n. KnownAll t few s.env.exec Here (object_ty (t.routine q).whole c ∷ more) (drop n s.run.operands)) (sym (sound.routines q y f).params) (subst (λ l. KnownAll t few s.env.exec Here l (drop (length (t.routine q).params) s.run.operands)) (drop_onto (t.routine q).params (object_ty (t.routine q).whole c ∷ more)) (values_drop t few s.env.exec Here (length (t.routine q).params) (onto (t.routine q).params (object_ty (t.routine q).whole c ∷ more)) s.run.operands v)) in
            number_of (t.routine q).whole c (top (drop y.params s.run.operands)) (subst (λ n. t.mutex n ≡ true) (sym same) m) (newest t few s.env.exec Here (object_ty (t.routine q).whole c) more (drop y.params s.run.operands) k)

    -- what has no object builds and destroys none
    no_maker : (q : ℕ) → (t.routine q).this ≡ None → IsNoMaker g q
    no_maker q e h = let k = right_is (t.routine q).whole (is_of_objects p (t.routine q).this) h in false_true (subst (λ o. is_of_objects p o ≡ true) e k)

    -- so a step finds what it is to find for own cells, where what is made is bound at home
    pub finds_here : (many : ℕ) → made.Binds source few.home many s → CellFinds g s
    finds_here many b = by s.run.control x.run.ok b
      where
        by : (l : List Todo) → Ok t x.run.sig x.run.base x.run.scope l x.run.own → made.BindsAt source few.home many l s → FindsAt g l s
        by (piece.BindMadeNow c r ∷ todo) ok h = λ o e. subst (λ n. few.home n ≡ top (drop (params source r) (below s.run.operands))) (same_object h.number o (sym h.object ∙ e)) h.home
        by (piece.CallNow q ∷ todo) ok h = no_maker q ok.2
        by (piece.CallOnNow q ∷ todo) ok h = called q ok.0 ok.1 ok.2
        by (piece.CallUnwrittenNow q ∷ todo) ok h = called q ok.0 ok.1 ok.2
        by (piece.SetUpNow q ∷ todo) ok h = λ e b. false_true e
        by [] ok h = tt
        by (z ∷ todo) ok h = tt

  -- code of a routine that ends a mutex object has it at a place of one

  abbrev EndsIn : ℕ → Expr → Type 0
  EndsIn q e = (b : ℕ) × (t.mutex b ≡ true) × HasPlace g q e (Cell (Obj b))

  of_end : (q r : ℕ) (e : Expr) → EndsAt g q r (Load e) → EndsIn q e
  of_end q r e h = (h.0, h.2, h.3)

  sited : (q : ℕ) (ms : List Mark) (x : EndSite) (r : ℕ) (written : Bool) (l : List Todo) → Leaves x r written l → code.Ok g q ms l → EndsIn q (named x)
  sited q ms (AtSpot y) r written l (todo, inl e) ok =
      let k = subst (code.Ok g q ms) e ok in
      of_end q r (naming y) k.0.1.0
  sited q ms (AtSpot y) r written l (todo, inr (inl e)) ok =
      let k = subst (code.Ok g q ms) e ok in
      of_end q r (naming y) k.0.1.0
  sited q ms (AtSpot y) r written l (todo, inr (inr e)) ok =
      let k = subst (code.Ok g q ms) e ok in
      of_end q r (naming y) k.0.1.0
  sited q ms (AtElement n y) r written l (todo, e) ok =
      let k = subst (code.Ok g q ms) e ok in
      of_end q r (named (AtElement n y)) k.0.1.0

  -- the place itself, where so many elements stand

  abbrev place_of : EndSite → ℕ → State → Value
  place_of (AtSpot y) j s = place_at y s
  place_of (AtElement n y) j s = further (At Binding j) (place_at y s)

  abbrev Counts : EndSite → ℕ → Type 0
  Counts (AtSpot y) j = Unit {0}
  Counts (AtElement n y) j = j < n

  spot_meets : (q : ℕ) (s : State) (y : Spot) (a : Ty) → HasPlace g q (naming y) a → Meets g q (around s.env.exec s.run) (Sited a) (place_at y s)
  spot_meets q s (OfVariable k) a h = variable_meets g q (around s.env.exec s.run) k a h
  spot_meets q s (OfField z i) a h = field_meets g q (around s.env.exec s.run) z i a h

  site_meets : (q : ℕ) (s : State) (x : EndSite) (j : ℕ) (a : Ty) → Counts x j → HasPlace g q (named x) a → Meets g q (around s.env.exec s.run) (Sited a) (place_of x j s)
  site_meets q s (AtSpot y) j a l h = spot_meets q s y a h
  site_meets q s (AtElement n y) j a l h = element_meets g q (around s.env.exec s.run) n n j Binding a (place_at y s) refl l h.0 (spot_meets q s y (Row n a) h.1)

  -- which is that of the state with the same memory

  spot_same : (s u : State) → s.env ≡ u.env → s.run.frame ≡ u.run.frame → s.run.this ≡ u.run.this → (y : Spot) → place_at y s ≡ place_at y u
  spot_same s u e f o (OfVariable k) = ap (λ (v : Env). Place (Frame v.exec s.run.frame) (Slot k ∷ [])) e ∙ ap (λ (d : ℕ). Place (Frame u.env.exec d) (Slot k ∷ [])) f
  spot_same s u e f o (OfField h i) = ap (further (FieldAt h i)) o

  found_place : (s : State) (x : EndSite) → Found ways.Reads x s → (top s.run.operands ≡ place_of x s.run.elements s) × Counts x s.run.elements
  found_place s (AtSpot y) h = (h, tt)
  found_place s (AtElement n y) h = h

  site_same : (s u : State) → s.env ≡ u.env → s.run.frame ≡ u.run.frame → s.run.this ≡ u.run.this → (x : EndSite) (j : ℕ) → place_of x j s ≡ place_of x j u
  site_same s u e f o (AtSpot y) j = spot_same s u e f o y
  site_same s u e f o (AtElement n y) j = ap (further (At Binding j)) (spot_same s u e f o y)

  -- so what is read before it ends is at home there
  module _ (within : IsWithinLimits p) where
    pub home_read : (s : State) → Reading t CellHere s → (o : ℕ) → loaded (top s.run.operands) s.env ≡ Object o → few.home o ≡ top s.run.operands
    home_read s x o e =
        let u : State = x.start in
        let run = x.held.run in
        let k = sited run.routine run.marks x.site x.routine x.written u.run.control x.leaves run.ok in
        let f = found_place s x.site x.found in
        let there : Value = place_of x.site s.run.elements u in
        let same : top s.run.operands ≡ there = f.0 ∙ site_same s u x.env x.frame x.object x.site s.run.elements in
        let low = run.low in
        let level : ℕ = suc (length u.callers) in
        let lies = sited_lies g u.env.exec x.held.routines level run.routine u.run.frame (length u.callers) u.run.this (omega (arith, low)) (omega arith) run.frame run.this there (Cell (Obj k.0)) (site_meets run.routine u x.site s.run.elements (Cell (Obj k.0)) f.1 k.2) in
        let free = part_read g (may_write p formed accepted few class false within) u.env x.held.routines level x.held.cells x.held.env there k.0 k.1 lies in
        let loads : loaded there u.env ≡ Object o = subst (λ z. loaded z u.env ≡ Object o) same (subst (λ (v : Env). loaded (top s.run.operands) v ≡ Object o) x.env e) in
        (free o loads).0 ∙ sym same
