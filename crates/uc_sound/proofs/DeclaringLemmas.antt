-- Declarations that break no rule: what they start with and build is in order, and the names behind them agree.
use Rattle.std.proofs.Common.{◌≡◌, ℕ, ℤ, ◌+◌, ◌++◌, ◌⊎◌, inl, inr, List, [], ◌∷◌, Option, Some, None, Bool, true, false, refl, sym, ap, ◌∙◌, subst, arith}
use Rattle.std.specs.Prelude.{not, if◌then◌else◌, nat_eq, is_some, option_map, option_and_then}
use Rattle.std.proofs.lemmas.Bool.{eqb-true}
use Rattle.uc_tree.specs.declared.pos.Pos.{Pos}
use Rattle.uc_tree.specs.declared.kinds.Base.{Base}
use Rattle.uc_tree.specs.declared.kinds.Base.TheVariants as base
use Rattle.uc_tree.specs.declared.kinds.Kind.{Kind}
use Rattle.uc_tree.specs.declared.kinds.Kind.TheVariants as kind
use Rattle.uc_tree.specs.declared.kinds.LocalVariable.{LocalVariable}
use Rattle.uc_tree.specs.declared.ops.BinaryOp.{BinaryOp}
use Rattle.uc_tree.specs.Names.{same_name}
use Rattle.uc_tree.specs.Constants.{constants_of, value_of_name, value_in, chain_value_in, length_in, sound_length, elements, both, unary_value}
use Rattle.uc_tree.specs.Cells.{classes_of, object_named, object_of_kind}
use Rattle.uc_tree.specs.Expressions as expr
use Rattle.uc_tree.specs.Statements as stmt
use Rattle.uc_tree.specs.Statements.{Declarator, Start}
use Rattle.uc_tree.specs.Objects.{Making, APlain, AMutex, ACluster, AProcessor, making, making_by, shape_of}
use Rattle.uc_tree.specs.Programs.{Class, Program}
use Rattle.uc_tree.specs.Source.{Expr}
use Rattle.uc_resolve.specs.Standings as tree
use Rattle.uc_resolve.specs.Standings.{params_of, args_by, args_meant, known_meant, value_in_scope}
use Rattle.uc_resolve.specs.Resolve.{Scope, declared_known, length_of, start_meant}
use Rattle.uc_rules.specs.declared.rule.Rule.TheVariants.{S2, S15, S16, S22, O4, O5}
use Rattle.uc_rules.specs.declared.rule.Break.{Break}
use Rattle.uc_rules.specs.declared.rules.LocalName.{LocalName}
use Rattle.uc_rules.specs.declared.rules.Sort.{Sort}
use Rattle.uc_rules.specs.declared.rules.Sort.TheVariants as sort
use Rattle.uc_rules.specs.declared.rules.Target.{Target}
use Rattle.uc_rules.specs.declared.rules.Target.TheVariants as target
use Rattle.uc_rules.specs.Asked.{unless, of_sort}
use Rattle.uc_rules.specs.Sorts.{is_void, is_condition, is_scalar_sort, is_event_class, of_class, class_sort, sort_of}
use Rattle.uc_rules.specs.Names.{variable}
use Rattle.uc_rules.specs.Scopes.{Env, value_named, is_hidden, with_seen, seen_as}
use Rattle.uc_rules.specs.Entities.{entity_of, count, expected}
use Rattle.uc_rules.specs.ExpressionBreaks.{is_new, length_value, length_breaks, length_value_breaks, is_value_start, are_single, is_scalar_of, started_breaks, array_starts_well, is_element, start_breaks, is_no_event}
use Rattle.uc_rules.specs.OwnerBreaks.{is_no_condition_sort}
use Rattle.uc_rules.specs.Visits.{AtVariable, visits, args_visits, arg_visits, start_values, variable_target}
use Rattle.uc_rules.specs.Breaks.{breaks_at}
use Rattle.uc_typing.specs.Typing.{Num, Cell, Row, Name, Sig, Table, IsPlaced, InScope, IsVariable, Yields, FineStart}
use Rattle.uc_sound.specs.Agreement.{is_numbered, found_ty, place_by, place_ty, Agrees, AgreesIf, context}
use Rattle.uc_sound.specs.Declarations.{StoodBy}
use Rattle.uc_sound.specs.Unbroken.{Unbroken}
use Rattle.uc_sound.proofs.Ties.{some_same, none_some, false_true, scalar, converted_fine, law_agrees}
use Rattle.uc_sound.proofs.UnbrokenLemmas.{none_left, none_right, first, holds, stands}
use Rattle.uc_sound.proofs.DeclarationsLemmas.{law_declared}
use Rattle.uc_sound.specs.Tables.{declared_ty}
use Rattle.uc_sound.specs.Rooted.{IsStood, AreStood, Within}
use Rattle.uc_sound.proofs.Lists.{some_is, right_is, not_is}
use Rattle.uc_sound.proofs.Visited.{sort_holds}
use Rattle.uc_sound.proofs.GivingLemmas.{tied, known}

-- what a sort makes
abbrev pub made_kind : ℕ → Kind → Option Making
made_kind i kind.Class = Some (APlain i)
made_kind i kind.Coroutine = Some (APlain i)
made_kind i kind.Monitor = Some (AMutex i)
made_kind i kind.Cormonitor = Some (AMutex i)
made_kind i kind.Task = Some (AMutex i)
made_kind i kind.Event = None

abbrev pub made : Sort → Option Making
made sort.Void = None
made sort.Int = None
made sort.Char = None
made sort.Bool = None
made sort.Condition = None
made sort.Cluster = Some ACluster
made sort.Processor = Some AProcessor
made (sort.Object i k) = made_kind i k

kind_made : (i : ℕ) (k : Kind) (name : List ℕ) → making_by (object_of_kind i k) (base.Named name) ≡ made_kind i k
kind_made i kind.Class name = refl
kind_made i kind.Coroutine name = refl
kind_made i kind.Monitor name = refl
kind_made i kind.Cormonitor name = refl
kind_made i kind.Task name = refl
kind_made i kind.Event name = refl

named_made : (cs : List Class) (i : ℕ) (name : List ℕ) (s : Sort) → class_sort cs i name ≡ Some s → making_by (object_named cs i name) (base.Named name) ≡ made s
named_made [] i name s h = none_some h
named_made (c ∷ cs) i name s h = by (same_name c.name name) (named_made cs (i + 1) name s) h
  where
    by : (b : Bool) → (class_sort cs (i + 1) name ≡ Some s → making_by (object_named cs (i + 1) name) (base.Named name) ≡ made s) → (if b then Some (sort.Object i c.kind) else class_sort cs (i + 1) name) ≡ Some s → making_by (if b then object_of_kind i c.kind else object_named cs (i + 1) name) (base.Named name) ≡ made s
    by true f q = kind_made i c.kind name ∙ ap made (some_same q)
    by false f q = f q

pub making_is : (p : Program) (b : Base) (s : Sort) → sort_of p b ≡ Some s → making p b ≡ made s
making_is p base.Void s h = ap made (some_same h)
making_is p base.Int s h = ap made (some_same h)
making_is p base.Char s h = ap made (some_same h)
making_is p base.Bool s h = ap made (some_same h)
making_is p base.Condition s h = ap made (some_same h)
making_is p base.Cluster s h = ap made (some_same h)
making_is p base.Processor s h = ap made (some_same h)
making_is p (base.Named name) s h = named_made (classes_of p.items) 0 name s h

-- a length that has a value where some names are hidden has it where none is

abbrev Knows : (List ℕ → Option ℤ) → (List ℕ → Option ℤ) → Type 0
Knows f h = (name : List ℕ) (v : ℤ) → f name ≡ Some v → h name ≡ Some v

abbrev Told : Option ℤ → Option ℤ → Type 0
Told a b = (v : ℤ) → a ≡ Some v → b ≡ Some v

and_then_told : (f : ℤ → Option ℤ) (a b : Option ℤ) → Told a b → Told (option_and_then f a) (option_and_then f b)
and_then_told f None b h v e = none_some e
and_then_told f (Some x) b h v e = ap (option_and_then f) (h x refl) ∙ e

both_told : (op : BinaryOp) (a b x y : Option ℤ) → Told a x → Told b y → Told (both op a b) (both op x y)
both_told op None b x y f h v e = none_some e
both_told op (Some z) None x y f h v e = none_some e
both_told op (Some z) (Some w) x y f h v e = ap (λ o. both op o y) (f z refl) ∙ (ap (both op (Some z)) (h w refl) ∙ e)

module _ (f h : List ℕ → Option ℤ) (k : Knows f h) where
  mutual
    value_told : (e : expr.Expr) → Told (value_in e f) (value_in e h)
    value_told (expr.Number q n) v e = e
    value_told (expr.Character q n) v e = e
    value_told (expr.Truth q n) v e = e
    value_told (expr.Name q name) v e = k name v e
    value_told (expr.Cin q) v e = none_some e
    value_told (expr.Postfix q root parts) v e = none_some e
    value_told (expr.Unary q op operand) v e = and_then_told (unary_value op) (value_in operand f) (value_in operand h) (value_told operand) v e
    value_told (expr.Chain q start rest) v e = chain_told rest (value_in start f) (value_in start h) (value_told start) v e
    value_told (expr.Assign q sign op place value) v e = none_some e

    chain_told : (links : expr.Links) (a b : Option ℤ) → Told a b → Told (chain_value_in links a f) (chain_value_in links b h)
    chain_told expr.NoLinks a b t v e = t v e
    chain_told (expr.MoreLinks (expr.Linked sign op right) rest) a b t v e =
        chain_told rest (both op a (value_in right f)) (both op b (value_in right h)) (both_told op a (value_in right f) b (value_in right h) t (value_told right)) v e

hidden_knows : (env : Env) → Knows (value_named env) (value_of_name (constants_of env.program.items))
hidden_knows env name v e = by (is_hidden env name) e
  where
    by : (b : Bool) → (if b then None else value_of_name (constants_of env.program.items) name) ≡ Some v → value_of_name (constants_of env.program.items) name ≡ Some v
    by true e = none_some e
    by false e = e

-- what the rules ask of a variable
pub record Rules (env : Env) (b : Base) (d : Declarator) (s : Sort) : Type 0 where
  pub base : sort_of env.program b ≡ Some s
  pub by_ref : d.by_ref ≡ false
  pub plain : is_condition s ≡ false
  pub no_event : of_class is_event_class s ≡ false
  pub starts : started_breaks env.program d.len (is_value_start d.start) (count (start_values d.start)) (are_single env (start_values d.start)) d.pos (Some s) ≡ []
  pub length_is : (e : expr.Expr) → d.len ≡ Some e → length_in (value_named env) (Some e) ≡ length_in (value_of_name (constants_of env.program.items)) (Some e)

module _ (env : Env) (b : Base) (d : Declarator) (s : Sort) (k : sort_of env.program b ≡ Some s) where
  pub variable_rules : breaks_at (AtVariable env b d) ≡ [] → Rules env b d s
  variable_rules h =
      let h1 = none_right (unless (is_new env d.name) S2 d.pos) _ h in
      let h2 = none_right (length_breaks env d.by_ref d.len d.pos) _ h1 in
      let h3 = none_right (length_value_breaks env d.len) _ h2 in
      let h4 = none_right (start_breaks env b d) _ h3 in
      let h5 = none_right (of_sort (sort_of env.program b) is_no_event S22 d.pos) _ h4 in
      let h6 = none_right (of_sort (sort_of env.program b) is_no_condition_sort O4 d.pos) _ h5 in
      record {
        base = k;
        by_ref = not_is d.by_ref (holds (not d.by_ref) O5 d.pos _ h6);
        plain = not_is (is_condition s) (sort_holds (sort_of env.program b) s is_no_condition_sort O4 d.pos _ k h5);
        no_event = not_is (of_class is_event_class s) (sort_holds (sort_of env.program b) s is_no_event S22 d.pos _ k h4);
        starts = subst (λ o. started_breaks env.program d.len (is_value_start d.start) (count (start_values d.start)) (are_single env (start_values d.start)) d.pos o ≡ []) k (none_left (start_breaks env b d) _ h3);
        length_is = λ e q. lengths e (subst (λ l. length_value_breaks env l ≡ []) q (none_left (length_value_breaks env d.len) _ h2));
      }
    where
      appended : (xs : List Break) → xs ≡ [] → xs ++ [] ≡ []
      appended [] q = refl
      appended (x ∷ xs) q = absurd (cc)

      lengths : (e : expr.Expr) → length_value_breaks env (Some e) ≡ [] → length_in (value_named env) (Some e) ≡ length_in (value_of_name (constants_of env.program.items)) (Some e)
      lengths e q =
          let v = some_is (length_value env e) (holds (is_some (length_value env e)) S15 (expr.expr_pos e) [] (appended (length_value_breaks env (Some e)) q)) in
          ap sound_length v.1 ∙ sym (ap sound_length (value_told (value_named env) (value_of_name (constants_of env.program.items)) (hidden_knows env) e v.0 v.1))

-- the sort of a variable is one that may be declared
pub no_void : (env : Env) (b : Base) (d : Declarator) (s : Sort) → Rules env b d s → is_void s ≡ false
no_void env b d sort.Void r = by d.len (is_value_start d.start) (count (start_values d.start)) (are_single env (start_values d.start)) r.starts
  where
    by : (l : Option expr.Expr) (v : Bool) (n : ℕ) (z : Bool) → started_breaks env.program l v n z d.pos (Some sort.Void) ≡ [] → true ≡ false
    by None v n z h = absurd (cc)
    by (Some e) v n z h = absurd (cc)
no_void env b d _ r = refl

module _ (t : Table) (g : Sig) (refers : t.refers ≡ true) where
  -- the name of what is declared agrees, where it stands at its cell
  module _ (sc : List Name) (env : Env) (s : Scope) (b : Base) (d : Declarator) (so : Sort) (r : Rules env b d so) (placed : IsPlaced t (place_ty so)) where
    abbrev p : Program
    p = env.program

    abbrev new : LocalVariable
    new = declared_known p s b d

    named_as : (l : Option expr.Expr) → d.len ≡ l → IsVariable t g sc s.cells (declared_ty (length_of p d l) (place_ty so)) → (is_numbered so ≡ true → l ≡ None → InScope sc s.cells (place_ty so)) → Agrees t g sc p (variable false l (length_in (value_named env) l) so) (known_meant p new)
    named_as None q v h = (law_declared t g sc refers p).variable new so r.base r.plain r.by_ref (ap (length_of p d) q) (by (is_numbered so) refl)
      where
        by : (n : Bool) → is_numbered so ≡ n → StoodBy t g sc (is_numbered so) s.cells (found_ty so)
        by true e = subst (λ n. StoodBy t g sc n s.cells (found_ty so)) (sym e) (subst (λ n. InScope sc s.cells (place_by n (found_ty so))) e (h e refl))
        by false e = subst (λ n. StoodBy t g sc n s.cells (found_ty so)) (sym e) (subst (λ n. IsVariable t g sc s.cells (place_by n (found_ty so))) e v, subst (λ n. IsPlaced t (place_by n (found_ty so))) e placed)
    named_as (Some x) q v h =
        let named = value_of_name (constants_of p.items) in
        let n = length_in (value_named env) (Some x) in
        let e : elements named d ≡ n = ap (λ (z : Bool). if z then 1 else length_in named d.len) r.by_ref ∙ (ap (length_in named) q ∙ sym (r.length_is x q)) in
        (law_declared t g sc refers p).array new so n r.base r.plain r.by_ref (ap (length_of p d) q ∙ ap Some e) (subst (λ z. IsVariable t g sc s.cells (Row z (place_ty so))) e v) placed

    pub name_agrees : IsVariable t g sc s.cells (declared_ty (length_of p d d.len) (place_ty so)) → (is_numbered so ≡ true → d.len ≡ None → InScope sc s.cells (place_ty so)) → AgreesIf t g sc p (seen_as env b d).meant.entity (known_meant p new)
    name_agrees v h w q =
        let same : option_map (variable d.by_ref d.len (length_in (value_named env) d.len)) (sort_of p b) ≡ Some (variable false d.len (length_in (value_named env) d.len) so) = ap (option_map (variable d.by_ref d.len (length_in (value_named env) d.len))) r.base ∙ ap (λ z. Some (variable z d.len (length_in (value_named env) d.len) so)) r.by_ref in
        subst (λ w. Agrees t g sc p w (known_meant p new)) (some_same (sym same ∙ q)) (named_as d.len refl v h)

    pub name_stood : IsStood (seen_as env b d).meant.entity
    name_stood = subst IsStood (sym (ap (option_map (variable d.by_ref d.len (length_in (value_named env) d.len))) r.base)) (by d.by_ref d.len)
      where
        by : (z : Bool) (l : Option expr.Expr) → IsStood (Some (variable z l (length_in (value_named env) d.len) so))
        by true l = tt
        by false None = tt
        by false (Some e) = tt

  more_stood : (ss : List LocalName) (x : LocalName) → AreStood ss → IsStood x.meant.entity → AreStood (ss ++ x ∷ [])
  more_stood [] x h k = (k, tt)
  more_stood (s ∷ ss) x h k = (h.0, more_stood ss x h.1 k)

  pub within_more : (sc : List Name) (env : Env) (class : Option ℕ) (names : List LocalVariable) (x : LocalName) (k : LocalVariable) → x.name ≡ k.name → AgreesIf t g sc env.program x.meant.entity (known_meant env.program k) → IsStood x.meant.entity → Within t g sc env class names → Within t g sc (with_seen env x) class (names ++ k ∷ [])
  within_more sc env class names x k e a st h = record {
    rooted = h.rooted;
    alike = (law_declared t g sc refers env.program).more env.names names x k e a h.alike;
    stood = more_stood env.names x h.stood st;
  }

  pub within_wider : (x : Name) (sc : List Name) (env : Env) (class : Option ℕ) (names : List LocalVariable) → Within t g sc env class names → Within t g (x ∷ sc) env class names
  within_wider x sc env class names h = record {
    rooted = h.rooted;
    alike = (law_declared t g sc refers env.program).wider x env.names names h.alike;
    stood = h.stood;
  }

  -- scalars

  pub raw_scalar : (s : Sort) → made s ≡ None → is_void s ≡ false → is_condition s ≡ false → of_class is_event_class s ≡ false → is_scalar_sort s ≡ true
  raw_scalar sort.Void m v c e = false_true (sym v)
  raw_scalar sort.Int m v c e = refl
  raw_scalar sort.Char m v c e = refl
  raw_scalar sort.Bool m v c e = refl
  raw_scalar sort.Condition m v c e = false_true (sym c)
  raw_scalar sort.Cluster m v c e = absurd (cc)
  raw_scalar sort.Processor m v c e = absurd (cc)
  raw_scalar (sort.Object i kind.Class) m v c e = absurd (cc)
  raw_scalar (sort.Object i kind.Coroutine) m v c e = absurd (cc)
  raw_scalar (sort.Object i kind.Monitor) m v c e = absurd (cc)
  raw_scalar (sort.Object i kind.Cormonitor) m v c e = absurd (cc)
  raw_scalar (sort.Object i kind.Task) m v c e = absurd (cc)
  raw_scalar (sort.Object i kind.Event) m v c e = false_true (sym e)

  pub scalar_place : (s : Sort) → is_scalar_sort s ≡ true → place_ty s ≡ Cell Num
  scalar_place sort.Int h = refl
  scalar_place sort.Char h = refl
  scalar_place sort.Bool h = refl
  scalar_place sort.Void h = false_true h
  scalar_place sort.Condition h = false_true h
  scalar_place sort.Cluster h = false_true h
  scalar_place sort.Processor h = false_true h
  scalar_place (sort.Object i k) h = false_true h

  -- what a scalar starts with is a number
  module _ (sc : List Name) (env : Env) (s : Scope) (h : Within t g sc env s.class s.names) where
    abbrev started : Start → Declarator → Base → Option Expr
    started x d b = start_meant (context env s.class s.routine s.names) (shape_of b) x

    number : (b : Base) (e : expr.Expr) → Unbroken (visits env e) → is_scalar_of (entity_of env e) ≡ true → Yields t g sc (tree.converted (shape_of b) (value_in_scope (context env s.class s.routine s.names) e)) Num
    number b e u k =
        let w = tied t g sc env s.class s.routine s.names h in
        let r = stands env (known t g sc env s.class s.routine s.names h) e u in
        let v = scalar t g sc env.program refers r.0 (tree.meant (context env s.class s.routine s.names) e) (subst (λ o. is_scalar_of o ≡ true) r.1 k) (law_agrees t g sc env s.class s.routine s.names w e u r.0 r.1) in
        converted_fine t g sc env.program refers (shape_of b) (value_in_scope (context env s.class s.routine s.names) e) v

    scalar_starts : (p : Program) (v : Bool) (n : ℕ) (z : Bool) (q : Pos) (so : Sort) → is_scalar_sort so ≡ true → started_breaks p None v n z q (Some so) ≡ [] → z ≡ true
    scalar_starts p v n true q so k h = refl
    scalar_starts p v n false q sort.Int k h = absurd (cc)
    scalar_starts p v n false q sort.Char k h = absurd (cc)
    scalar_starts p v n false q sort.Bool k h = absurd (cc)
    scalar_starts p v n false q _ k h = false_true k

    no_values : (p : Program) (e : expr.Expr) (v : Bool) (n : ℕ) (z : Bool) (q : Pos) (so : Sort) → started_breaks p (Some e) v n z q (Some so) ≡ [] → n ≡ 0
    no_values p e v n z q so h =
        let k : array_starts_well p n so ≡ true = holds (array_starts_well p n so) S16 q [] (appended _ h) in
        eqb-true n 0 (right_is (is_element p so) (nat_eq n 0) k)
      where
        appended : (xs : List Break) → xs ≡ [] → xs ++ [] ≡ []
        appended [] q = refl
        appended (x ∷ xs) q = absurd (cc)

    start_fine : (x : Start) (d : Declarator) (b : Base) (cell : ℕ) (to : Target) → IsVariable t g sc cell (Cell Num) → (are_single env (start_values x) ≡ true) ⊎ (count (start_values x) ≡ 0) → Unbroken (args_visits env (start_values x) to 0) → FineStart t g sc cell (started x d b)
    start_fine stmt.NoStart d b cell to v k u = tt
    start_fine (stmt.StartValue e) d b cell to v (inl k) u = (v, number b e (first (visits env e) _ (first (arg_visits env e (expected env.program to 0)) [] u)) k)
    start_fine (stmt.StartValue e) d b cell to v (inr k) u = let z : ⊥ = omega (arith, k) in absurd z
    start_fine (stmt.StartArgs expr.NoExprs) d b cell to v k u = tt
    start_fine (stmt.StartArgs (expr.MoreExprs e expr.NoExprs)) d b cell to v (inl k) u = (v, number b e (first (visits env e) _ (first (arg_visits env e (expected env.program to 0)) [] u)) k)
    start_fine (stmt.StartArgs (expr.MoreExprs e (expr.MoreExprs f es))) d b cell to v (inl k) u = false_true k
    start_fine (stmt.StartArgs (expr.MoreExprs e es)) d b cell to v (inr k) u = let z : ⊥ = omega (arith, k) in absurd z

    pub scalar_fine : (b : Base) (d : Declarator) (so : Sort) → Rules env b d so → is_scalar_sort so ≡ true → IsVariable t g sc s.cells (declared_ty (length_of env.program d d.len) (Cell Num)) → Unbroken (args_visits env (start_values d.start) (variable_target d.len (sort_of env.program b)) 0) → FineStart t g sc s.cells (started d.start d b)
    scalar_fine b d so r k v u = by d.len refl r.starts v
      where
        none_of : (x : Start) (to : Target) → count (start_values x) ≡ 0 → FineStart t g sc s.cells (started x d b)
        none_of stmt.NoStart to z = tt
        none_of (stmt.StartValue e) to z = let y : ⊥ = omega (arith, z) in absurd y
        none_of (stmt.StartArgs expr.NoExprs) to z = tt
        none_of (stmt.StartArgs (expr.MoreExprs e es)) to z = let y : ⊥ = omega (arith, z) in absurd y

        by : (l : Option expr.Expr) → d.len ≡ l → started_breaks env.program l (is_value_start d.start) (count (start_values d.start)) (are_single env (start_values d.start)) d.pos (Some so) ≡ [] → IsVariable t g sc s.cells (declared_ty (length_of env.program d l) (Cell Num)) → FineStart t g sc s.cells (started d.start d b)
        by None q h v = start_fine d.start d b s.cells (variable_target d.len (sort_of env.program b)) v (inl (scalar_starts env.program (is_value_start d.start) (count (start_values d.start)) (are_single env (start_values d.start)) d.pos so k h)) u
        by (Some e) q h v = none_of d.start target.Unknown (no_values env.program e (is_value_start d.start) (count (start_values d.start)) (are_single env (start_values d.start)) d.pos so h)
