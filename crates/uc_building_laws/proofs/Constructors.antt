-- A constructor that is called at the variable whose scope opens next is that of its class.
use Rattle.std.proofs.Common.{◌≡◌, ℕ, ◌+◌, ◌≤◌, ◌⊎◌, inl, inr, Bool, true, false, List, [], ◌∷◌, drop, Option, Some, None, refl, sym, ap, ◌∙◌, subst, arith}
use Rattle.std.specs.Prelude.{slice_get, if◌then◌else◌}
use Rattle.uc_tree.specs.declared.kinds.Base.{Base}
use Rattle.uc_tree.specs.declared.kinds.Base.TheVariants as base
use Rattle.uc_tree.specs.declared.kinds.Kind.{Kind}
use Rattle.uc_tree.specs.declared.kinds.Kind.TheVariants as kind
use Rattle.uc_tree.specs.declared.kinds.Role.TheVariants as role
use Rattle.uc_tree.specs.Names.{same_name}
use Rattle.uc_tree.specs.Cells.{class_cells, classes_of, object_of_kind, object_named}
use Rattle.uc_tree.specs.Objects.{APlain, making_by, making, written_at}
use Rattle.uc_tree.specs.Programs.{Class, Program}
use Rattle.uc_tree.specs.Source as src
use Rattle.uc_tree.specs.Source.{shape_cells, Source, Purpose, Routine, CleanUp, routine_of, routine_or_none}
use Rattle.uc_machine.specs.Pieces as piece
use Rattle.uc_machine.specs.Pieces.{Value, Todo, State, top}
use Rattle.uc_resolve.specs.Resolve.{source_of}
use Rattle.uc_rules.specs.declared.rules.Sort.{Sort}
use Rattle.uc_rules.specs.declared.rules.Sort.TheVariants as sort
use Rattle.uc_rules.specs.Breaks.{breaks_of}
use Rattle.uc_rules.specs.Sorts.{class_sort, sort_of}
use Rattle.uc_typing.specs.Typing.{Obj, Table, CleansAt}
use Rattle.uc_typing.specs.States.{IsSorted}
use Rattle.uc_sound.specs.SoundFormed.{IsFormed}
use Rattle.uc_sound.specs.Tables.{table_of}
use Rattle.uc_sound.specs.Told.{TellsMaker}
use Rattle.uc_sound.proofs.ClassLemmas.{mutex_is, law_told}
use Rattle.uc_sound.proofs.DeclaringLemmas.{made_kind, made}
use Rattle.uc_sound.proofs.ObjectLemmas.{Making_is, made_told}
use Rattle.uc_sound.proofs.SoundLemmas.{law_sound}
use Rattle.uc_state_laws.specs.Counted.{params_at, params}
use Rattle.uc_life_laws.specs.Things.{Few, IsUnbound, Within, itself}
use Rattle.uc_life_laws.specs.Makings as makings
use Rattle.uc_life_laws.specs.Makings.{Builds}
use Rattle.uc_life_laws.specs.Knowing.{KnowsState}
use Rattle.uc_place_laws.specs.Opened.{role_number, ArePaired, OfPlain}
use Rattle.uc_place_laws.specs.OpeningLaws.{Awaited, IsAt, CallsAt, IsCalled}
use Rattle.uc_place_laws.specs.Sparing.{Sparing}
use Rattle.uc_building_laws.specs.Building.{is_bound_in, all_clean, none_told, heads_of, InHead}
use Rattle.uc_building_laws.specs.Pairs.{BuildsOf}
use Rattle.uc_building_laws.specs.BuildingStates.{variable}
use Rattle.uc_building_laws.specs.BuildingLaws.{AreAddressed, IsSpanned, IsConstructed, Constructs, BuildsAt, Fair}
use Rattle.uc_building_laws.specs.BuildingRuns.{LawHeads}
use Rattle.uc_building_laws.specs.Awaiting.{OpensPlain, LawAwaited}
use Rattle.uc_building_laws.proofs.Given.{given, numbered_holds}
use Rattle.uc_building_laws.proofs.Heads.{heads}
use Rattle.uc_building_laws.proofs.Plain.{plain_of, no_scope}
use Rattle.uc_building_laws.proofs.Spanning.{spanned}
use Rattle.uc_life_laws.proofs.Laying.{laid_out}

-- what is made of a sort

kind_made : (i : ℕ) (k : Kind) (name : List ℕ) → making_by (object_of_kind i k) (base.Named name) ≡ made_kind i k
kind_made i kind.Class name = refl
kind_made i kind.Coroutine name = refl
kind_made i kind.Monitor name = refl
kind_made i kind.Cormonitor name = refl
kind_made i kind.Task name = refl
kind_made i kind.Event name = refl

-- a class of which such objects are made has a sort
abbrev HasSort : ℕ → Option Sort → Type 0
HasSort k o = (s : Sort) × (o ≡ Some s) × (made s ≡ Some (APlain k))

named_sort : (cs : List Class) (i : ℕ) (name : List ℕ) (k : ℕ) → making_by (object_named cs i name) (base.Named name) ≡ Some (APlain k) → HasSort k (class_sort cs i name)
named_sort [] i name k h = absurd (cc)
named_sort (c ∷ cs) i name k h = by (same_name c.name name) (named_sort cs (i + 1) name k) h
  where
    by : (b : Bool) → (making_by (object_named cs (i + 1) name) (base.Named name) ≡ Some (APlain k) → HasSort k (class_sort cs (i + 1) name)) → making_by (if b then object_of_kind i c.kind else object_named cs (i + 1) name) (base.Named name) ≡ Some (APlain k) → HasSort k (if b then Some (sort.Object i c.kind) else class_sort cs (i + 1) name)
    by true f q = (sort.Object i c.kind, refl, sym (kind_made i c.kind name) ∙ q)
    by false f q = f q

base_sort : (p : Program) (b : Base) (k : ℕ) → making p b ≡ Some (APlain k) → HasSort k (sort_of p b)
base_sort p base.Void k h = absurd (cc)
base_sort p base.Int k h = absurd (cc)
base_sort p base.Char k h = absurd (cc)
base_sort p base.Bool k h = absurd (cc)
base_sort p base.Condition k h = absurd (cc)
base_sort p base.Cluster k h = absurd (cc)
base_sort p base.Processor k h = absurd (cc)
base_sort p (base.Named name) k h = named_sort (classes_of p.items) 0 name k h

-- only what is left as a whole is a constructor or a destructor
builder : (u : Purpose) (w : Bool) → w ≡ true → IsSorted u w → u ≡ src.Builder
builder src.TaskMain w e h = absurd (cc)
builder src.CoroutineMain w e h = absurd (cc)
builder src.Procedure w e h = absurd (cc)
builder src.Function w e h = absurd (cc)
builder src.Builder w e h = refl

module _ (p : Program) (formed : IsFormed p) (accepted : breaks_of p ≡ []) where
  abbrev source : Source
  source = source_of p

  abbrev t : Table
  t = table_of p

  module _ (r d : ℕ) (x : ArePaired p r d) where
    is_made : Making_is t (t.routine 0) refl p (APlain x.class)
    is_made =
        let s = base_sort p x.base x.class x.made in
        (made_told t (t.routine 0) refl p x.base s.0 (APlain x.class) (law_told p formed accepted) (λ b c k e. mutex_is p b c k e) s.1 s.2).0

    -- it is left as a whole
    whole : (t.routine r).whole ≡ true
    whole = by (written_at p x.class role.Constructor) refl
      where
        m : TellsMaker t p x.class role.Constructor
        m = is_made.0

        by : (o : Option ℕ) → written_at p x.class role.Constructor ≡ o → (t.routine r).whole ≡ true
        by None e = ap (λ n. (t.routine n).whole) (x.builds ∙ ap (role_number p x.class role.Constructor) e) ∙ m.unwritten_whole e
        by (Some n) e = ap (λ n. (t.routine n).whole) (x.builds ∙ ap (role_number p x.class role.Constructor) e) ∙ m.written_whole n e

    -- it is of the class
    constructs : (t.routine r).this ≡ Some x.class
    constructs = by (written_at p x.class role.Constructor) refl
      where
        m : TellsMaker t p x.class role.Constructor
        m = is_made.0

        by : (o : Option ℕ) → written_at p x.class role.Constructor ≡ o → (t.routine r).this ≡ Some x.class
        by None e = ap (λ n. (t.routine n).this) (x.builds ∙ ap (role_number p x.class role.Constructor) e) ∙ m.unwritten_this e
        by (Some n) e = ap (λ n. (t.routine n).this) (x.builds ∙ ap (role_number p x.class role.Constructor) e) ∙ (m.written n e).this

    -- it binds what is told in its first statements
    pub binds : (q : Routine) → slice_get source.routines r ≡ Some q → (i : ℕ) → heads_of p x.class i ≡ true → InHead t (heads_of p) (t.routine r).params x.class i q.body ⊎ IsUnbound t (t.fields x.class i)
    binds q e i h =
        heads p formed accepted (heads_of p) r x.class constructs q e (λ m b. sym (same m) ∙ b) i (same i ∙ h)
      where
        same : (m : ℕ) → is_bound_in all_clean none_told m q.body ≡ heads_of p x.class m
        same m = sym (ap (λ o. is_bound_in all_clean none_told m (routine_or_none o).body) e) ∙ ap (λ n. is_bound_in all_clean none_told m (routine_of source n).body) x.builds

    -- the destructor is of the class
    this : (t.routine d).this ≡ Some x.class
    this = by (written_at p x.class role.Destructor) refl
      where
        m : TellsMaker t p x.class role.Destructor
        m = is_made.1

        by : (o : Option ℕ) → written_at p x.class role.Destructor ≡ o → (t.routine d).this ≡ Some x.class
        by None e = ap (λ n. (t.routine n).this) (x.ends ∙ ap (role_number p x.class role.Destructor) e) ∙ m.unwritten_this e
        by (Some n) e = ap (λ n. (t.routine n).this) (x.ends ∙ ap (role_number p x.class role.Destructor) e) ∙ (m.written n e).this

    pub kinded : BuildsOf t (t.routine r) d
    kinded = (whole, constructs ∙ sym this)

    class_is : (i : ℕ) → (t.routine d).this ≡ Some i → x.class ≡ i
    class_is i e = let q : Some x.class ≡ Some i = sym this ∙ e in cc

    plain : (i : ℕ) → (t.routine d).this ≡ Some i → t.mutex i ≡ false
    plain i e = subst (λ i. t.mutex i ≡ false) (class_is i e) is_made.2

    makes : (i : ℕ) → (t.routine d).this ≡ Some i → (q : Routine) → slice_get source.routines r ≡ Some q → (m : ℕ) → heads_of p i m ≡ true → InHead t (heads_of p) (t.routine r).params i m q.body ⊎ IsUnbound t (t.fields i m)
    makes i e q is m = subst (λ i. heads_of p i m ≡ true → InHead t (heads_of p) (t.routine r).params i m q.body ⊎ IsUnbound t (t.fields i m)) (class_is i e) (binds q is m)

  -- what is called where the scope of an object opens next builds what is waited for
  module _ (ends : ℕ → Bool) (s : State) where
    built : (r d k i : ℕ) → ArePaired p r d → (t.routine d).this ≡ Some i → top (drop (params source r) s.run.operands) ≡ variable s.env.exec s.run.frame k → (c : CleanUp) → CleansAt t (Obj i) (src.Variable k) c → (line : ℕ) (ss : src.Stmts) (todo : List Todo) → Builds t ends source s r (piece.DropNow ∷ (piece.Within line ∷ (piece.Rest (src.Scoped c ss) ∷ todo)))
    built r d k i pair of at c cleans line ss todo late q is whole e is_class =
        let class : e ≡ i = let u : Some pair.class ≡ Some e = sym (constructs r d pair) ∙ is_class in let v : pair.class ≡ e = cc in sym v ∙ class_is r d pair i of in
        let place : top (drop q.params s.run.operands) ≡ variable s.env.exec s.run.frame k = subst (λ o. top (drop (params_at o) s.run.operands) ≡ variable s.env.exec s.run.frame k) is at in
        inl (inr (inl (e, refl, (variable s.env.exec s.run.frame k, Obj i, inl (k, cleans, refl), subst (λ w. Within t (variable s.env.exec s.run.frame k) (Obj i) w (Obj e)) (sym place) (subst (λ c. Within t (variable s.env.exec s.run.frame k) (Obj i) (variable s.env.exec s.run.frame k) (Obj c)) (sym class) itself)))))

    opens : (r : ℕ) (todo : List Todo) → Awaited (IsAt p source s r) todo → OpensPlain t todo → Builds t ends source s r todo
    opens r (piece.DropNow ∷ (piece.Within line ∷ (piece.Rest (src.Scoped c ss) ∷ todo))) h o =
        let z = plain_of t o.0 o.1 (IsAt p source s r) c o.2 h in
        built r z.0 o.0 o.1 z.2.0 z.1 z.2.1 c o.2 line ss todo
    opens r todo h o = absurd o

    pub awaited : IsCalled p source s → (r : ℕ) (todo : List Todo) → (s.run.control ≡ piece.CallOnNow r ∷ todo) ⊎ (s.run.control ≡ piece.CallUnwrittenNow r ∷ todo) → OpensPlain t todo → makings.BuildsAt t ends source s s.run.control
    awaited h r todo (inl e) o = subst (makings.BuildsAt t ends source s) (sym e) (opens r todo (subst (λ l. CallsAt p source l s) e h.calls) o)
    awaited h r todo (inr e) o = subst (makings.BuildsAt t ends source s) (sym e) (opens r todo (subst (λ l. CallsAt p source l s) e h.calls) o)

  module _ (few : Few) (s : State) (x : KnowsState t few [] s) where
    -- the routine is called at the variable
    abbrev Called : ℕ → ℕ → ℕ → Type 0
    Called r d k = ArePaired p r d × (top (drop (params source r) s.run.operands) ≡ variable s.env.exec s.run.frame k)

    object : (r k : ℕ) → top (drop (params source r) s.run.operands) ≡ variable s.env.exec s.run.frame k → (q : Routine) → slice_get source.routines r ≡ Some q → top (drop q.params s.run.operands) ≡ variable s.env.exec s.run.frame k
    object r k h q e = subst (λ o. top (drop (params_at o) s.run.operands) ≡ variable s.env.exec s.run.frame k) e h

    abbrev Calls : ℕ → List Todo → Type 0
    Calls r todo = (s.run.control ≡ piece.CallOnNow r ∷ todo) ⊎ (s.run.control ≡ piece.CallUnwrittenNow r ∷ todo)

    is_constructed : (r k i line : ℕ) (c : CleanUp) (ss : src.Stmts) (todo : List Todo) → Calls r (piece.DropNow ∷ (piece.Within line ∷ (piece.Rest (src.Scoped c ss) ∷ todo))) → CleansAt t (Obj i) (src.Variable k) c → OfPlain (Called r) c → IsConstructed t (heads_of p) few x.sigs source s r k i c todo
    is_constructed r k i line c ss todo calls d h =
        let z = plain_of t k i (Called r) c d h in
        record {
          plain = plain r z.0 z.2.0 i z.1;
          makes = λ q e j f told. makes r z.0 z.2.0 i z.1 q e j told;
          object = object r k z.2.1;
          given = λ q e j b l. given t few source (law_sound p formed accepted) s x r q e line c ss todo calls j b l;
        }

    constructs_at : (r : ℕ) (todo : List Todo) → Calls r todo → Awaited (Called r) todo → Constructs t (heads_of p) few x.sigs source s r todo
    constructs_at r (piece.DropNow ∷ (piece.Within line ∷ (piece.Rest (src.Scoped c ss) ∷ todo))) e h = λ k i d. inr (is_constructed r k i line c ss todo e d h)
    constructs_at r todo e h = tt

    at : (l : List Todo) → s.run.control ≡ l → CallsAt p source l s → BuildsAt t (heads_of p) few x.sigs source s l
    at (piece.CallNow r ∷ todo) e h = no_scope t todo h
    at (piece.RaiseNow ∷ todo) e h = no_scope t (piece.DropNow ∷ todo) h
    at (piece.CallOnNow r ∷ todo) e h = constructs_at r todo (inl e) h
    at (piece.CallUnwrittenNow r ∷ todo) e h = constructs_at r todo (inr e) h
    at l e h = tt

    pub fair : AreAddressed s → Sparing p s → IsCalled p source s → Fair t (heads_of p) few x.sigs source s p
    fair short spares c = record { at = at s.run.control refl c.calls; calls = c.calls; parts = c.parts; joins = c.joins; follows = c.follows; tails = c.tails; spares = spares; addresses = short }

-- a declared object has all its cells
pub is_spanned : (p : Program) → IsFormed p → breaks_of p ≡ [] → IsSpanned p (table_of p)
is_spanned p formed accepted d n i x of =
    let few : shape_cells ((table_of p).shape i) ≤ class_cells p x.class = (laid_out p formed accepted).counted d (class_cells p x.class) i (x.class, x.ended, refl) of in
    let all = spanned p accepted d n x in
    omega (arith, few, all)

pub law_awaited : LawAwaited
law_awaited p formed accepted ends s h r todo e o = awaited p formed accepted ends s h r todo e o

pub law_heads : LawHeads
law_heads = record {
  binds = λ p formed accepted r d x q e i h. binds p formed accepted r d x q e i h;
  spans = λ p formed accepted d n i x of. is_spanned p formed accepted d n i x of;
  kinds = λ p formed accepted r d x. kinded p formed accepted r d x;
  given = λ t few source sound s x r line c rest todo e q is j b i. given t few source sound s x r q is line c rest todo e j b i;
  numbered = λ t s c todo o vs p b n h. numbered_holds t s c todo o vs p b n h;
}
