-- Where no rule is broken, an expression stands for something.
use Rattle.std.proofs.Common.{◌≡◌, ℕ, ◌+◌, List, [], ◌∷◌, ◌++◌, Option, Some, None, Bool, true, false, refl, sym, ap, ◌∙◌, subst}
use Rattle.std.specs.Prelude.{if◌then◌else◌, ◌&&◌, ◌||◌, not, is_some}
use Rattle.uc_tree.specs.declared.pos.Pos.{Pos}
use Rattle.uc_tree.specs.declared.ops.UnaryOp.{UnaryOp}
use Rattle.uc_tree.specs.declared.ops.UnaryOp.TheVariants as unary
use Rattle.uc_tree.specs.declared.ops.BinaryOp.{BinaryOp}
use Rattle.uc_tree.specs.Expressions as expr
use Rattle.uc_rules.specs.declared.rule.Rule.{Rule}
use Rattle.uc_rules.specs.declared.rule.Break.{Break}
use Rattle.uc_rules.specs.declared.rules.Sort.TheVariants as sort
use Rattle.uc_rules.specs.declared.rules.Entity.{Entity}
use Rattle.uc_rules.specs.declared.rules.Entity.TheVariants as entity
use Rattle.uc_rules.specs.declared.rules.Expected.{Expected}
use Rattle.uc_rules.specs.declared.rules.NameMeaning.{NameMeaning}
use Rattle.uc_rules.specs.declared.rules.Target.{Target}
use Rattle.uc_rules.specs.declared.rules.Target.TheVariants as target
use Rattle.uc_rules.specs.Asked.{unless}
use Rattle.uc_rules.specs.Scopes.{Env, named}
use Rattle.uc_rules.specs.Sorts.{is_scalar_sort}
use Rattle.uc_rules.specs.Entities as rules
use Rattle.uc_rules.specs.Entities.{meant_entity, of_field, entity_of, are_sound, given, is_scalar, is_array, both_scalars, unary_entity, binary_gives, of_both, of_scalar, of_place, of_index, of_call, of_assign, expected, fits, has_fitting, count, chain_entity, link_entity, parts_entity, part_entity, path_member, built_in, is_object, call_follows}
use Rattle.uc_rules.specs.ExpressionBreaks.{is_changeable, array_and_scalar, is_member, may_name, is_no_main, is_open_member}
use Rattle.uc_rules.specs.Visits.{Visit, AtUse, AtCin, AtOperands, AtChange, AtAssign, AtMember, AtIndex, AtCall, AtArgument, visits, part_visits, parts_visits, link_visits, chain_visits, args_visits, unary_visit, root_entity}
use Rattle.uc_rules.specs.Breaks.{breaks_at, breaks_among}
use Rattle.uc_sound.specs.Unbroken.{Stands, IsKnown, LawStands}

-- lists of breaks

pub none_left : {A : Type 0} (xs ys : List A) → xs ++ ys ≡ [] → xs ≡ []
none_left [] ys h = refl
none_left (x ∷ xs) ys h = absurd (cc)

pub none_right : {A : Type 0} (xs ys : List A) → xs ++ ys ≡ [] → ys ≡ []
none_right [] ys h = h
none_right (x ∷ xs) ys h = absurd (cc)

pub first : (xs ys : List Visit) → breaks_among (xs ++ ys) ≡ [] → breaks_among xs ≡ []
first [] ys h = refl
first (v ∷ xs) ys h =
    let a : breaks_at v ≡ [] = none_left (breaks_at v) (breaks_among (xs ++ ys)) h in
    let b : breaks_among xs ≡ [] = first xs ys (none_right (breaks_at v) (breaks_among (xs ++ ys)) h) in
    ap (λ bs. bs ++ breaks_among xs) a ∙ b

pub second : (xs ys : List Visit) → breaks_among (xs ++ ys) ≡ [] → breaks_among ys ≡ []
second [] ys h = h
second (v ∷ xs) ys h = second xs ys (none_right (breaks_at v) (breaks_among (xs ++ ys)) h)

pub one : (v : Visit) → breaks_among (v ∷ []) ≡ [] → breaks_at v ≡ []
one v h = none_left (breaks_at v) [] h

pub holds : (b : Bool) (r : Rule) (p : Pos) (more : List Break) → unless b r p ++ more ≡ [] → b ≡ true
holds true r p more h = refl
holds false r p more h = absurd (cc)

is_there : {A : Type 0} (o : Option A) → is_some o ≡ true → (x : A) × (o ≡ Some x)
is_there None h = absurd (cc)
is_there (Some x) h = (x, refl)

both : (a b : Bool) → a ≡ true → b ≡ true → (a && b) ≡ true
both true true h k = refl
both true false h k = k
both false b h k = h

-- operators

of_scalar_stands : (o : Option Entity) (w gives : Entity) → o ≡ Some w → is_scalar w ≡ true → Stands (of_scalar o gives)
of_scalar_stands o w gives e h = (gives, ap (λ o. of_scalar o gives) e ∙ ap (λ (b : Bool). if b then Some gives else None) h)

place_stands : (w : Entity) → is_scalar w ≡ true → is_changeable w ≡ true → Stands (rules.value_of w)
place_stands (entity.Place s) h k = (entity.Value s, ap (λ (b : Bool). if b then Some (entity.Value s) else None) h)
place_stands (entity.Value s) h k =
    let f : not (is_scalar_sort s) ≡ false = ap not h in
    let g : false ≡ true = sym f ∙ k in
    absurd (cc)
place_stands _ h k = absurd (cc)

of_place_stands : (o : Option Entity) (w : Entity) → o ≡ Some w → is_scalar w ≡ true → is_changeable w ≡ true → Stands (of_place o)
of_place_stands o w e h k = let r = place_stands w h k in (r.0, ap of_place e ∙ r.1)

change_stands : (sign : Pos) (w : Entity) → breaks_at (AtChange sign (Some w)) ≡ [] → Stands (of_place (Some w))
change_stands sign w h =
    place_stands w (holds (is_scalar w) _ sign _ h) (holds (is_changeable w) _ sign _ (none_right (unless (is_scalar w) _ sign) _ h))

unary_stands : (op : UnaryOp) (q : Pos) (w : Entity) → breaks_at (unary_visit q op (Some w)) ≡ [] → Stands (unary_entity op (Some w))
unary_stands unary.Minus q w h = of_scalar_stands (Some w) w _ refl (holds (is_scalar w) _ q _ h)
unary_stands unary.Plus q w h = of_scalar_stands (Some w) w _ refl (holds (is_scalar w) _ q _ h)
unary_stands unary.Not q w h = of_scalar_stands (Some w) w _ refl (holds (is_scalar w) _ q _ h)
unary_stands unary.Increment q w h = change_stands q w h
unary_stands unary.Decrement q w h = change_stands q w h

both_stand : (sign : Pos) (op : BinaryOp) (w v : Entity) → breaks_at (AtOperands sign (Some w) (Some v)) ≡ [] → Stands (of_both both_scalars (Some w) (Some v) (binary_gives op))
both_stand sign op w v h =
    (binary_gives op, ap (λ (b : Bool). if b then Some (binary_gives op) else None) (holds (both_scalars w v) _ sign _ h))

left_of : (a b : Bool) → (a && b) ≡ true → a ≡ true
left_of true b h = refl
left_of false b h = h

right_of : (a b : Bool) → (a && b) ≡ true → b ≡ true
right_of true b h = h
right_of false b h = absurd (cc)

assign_stands : (sign : Pos) (w v : Entity) → breaks_at (AtAssign sign (Some w) (Some v)) ≡ [] → Stands (of_assign (Some w) (Some v))
assign_stands sign w v h =
    let s = holds (both_scalars w v) _ sign _ h in
    let c = holds (is_changeable w) _ sign _ (none_right (unless (both_scalars w v) _ sign) _ h) in
    let r = place_stands w (left_of (is_scalar w) (is_scalar v) s) c in
    (r.0, ap (λ (b : Bool). if b then rules.value_of w else None) (right_of (is_scalar w) (is_scalar v) s) ∙ r.1)

element_stands : (w : Entity) → is_array w ≡ true → Stands (rules.element w)
element_stands (entity.Array s n) h = (entity.Place s, refl)
element_stands _ h = absurd (cc)

index_stands : (sign : Pos) (w v : Entity) → breaks_at (AtIndex sign (Some w) (Some v)) ≡ [] → Stands (of_index (Some w) (Some v))
index_stands sign w v h =
    let s = holds (array_and_scalar w v) _ sign _ h in
    let r = element_stands w (left_of (is_array w) (is_scalar v) s) in
    (r.0, ap (λ (b : Bool). if b then rules.element w else None) (right_of (is_array w) (is_scalar v) s) ∙ r.1)

argument_fits : (q : Pos) (x : Expected) (w : Entity) → breaks_at (AtArgument q x (Some w)) ≡ [] → fits x w ≡ true
argument_fits q x w h = holds (fits x w) _ q _ h

root_stands : (b : Bool) (o : Option Entity) (vs : List Visit) → (breaks_among vs ≡ [] → Stands o) → breaks_among (if b then [] else vs) ≡ [] → Stands (if b then Some entity.Input else o)
root_stands true o vs f h = (entity.Input, refl)
root_stands false o vs f h = f h

module _ (env : Env) (known : IsKnown env) where
  open_stands : (b : Bool) (o : Option Entity) → b ≡ true → Stands o → Stands (if b then rules.entity_by_path o else None)
  open_stands true o h s = (rules.by_path s.0, ap rules.entity_by_path s.1)
  open_stands false o h s = absurd (cc)

  missing_stands : (called object : Bool) → (called && not object) ≡ true → Stands (if object then None else rules.of_missing called)
  missing_stands true false h = (entity.Missing, refl)
  missing_stands true true h = absurd (cc)
  missing_stands false object h = absurd (cc)

  other_stands : (called : Bool) (name : List ℕ) (w : Entity) (b : Option Entity) → (is_some b || (called && not (is_object w))) ≡ true → Stands (rules.other_member called name w b)
  other_stands called name w (Some v) h = (v, refl)
  other_stands called name w None h = missing_stands called (is_object w) h

  member_stands : (called : Bool) (name : List ℕ) (w : Entity) (o : Option NameMeaning) → ((m : NameMeaning) → o ≡ Some m → Stands m.entity) → (is_some o || (is_some (built_in w name) || (called && not (is_object w)))) ≡ true → is_open_member env.around.home o ≡ true → Stands (rules.member_entity env called name w o)
  member_stands called name w (Some m) f h k = open_stands (rules.is_open env.around.home m.origin) m.entity k (f m refl)
  member_stands called name w None f h k = other_stands called name w (built_in w name) h

  field_stands : (sign : Pos) (called : Bool) (name : List ℕ) (w : Entity) → breaks_at (AtMember env sign called name (Some w)) ≡ [] → Stands (of_field env called name (Some w))
  field_stands sign called name w h =
      member_stands called name w (path_member env.program w name) (known.members w name) (holds (is_member env called name w) _ sign _ h) (holds (may_name env name w) _ sign _ (none_right (unless (is_member env called name w) _ sign) _ h))

  not_main : (b : Bool) → not b ≡ true → b ≡ false
  not_main true h = sym h
  not_main false h = refl

  call_stands : (sign : Pos) (args : expr.Exprs) (w : Entity) → are_sound env args (target.Call w) 0 ≡ true → breaks_at (AtCall env sign (count args) (Some w)) ≡ [] → Stands (of_call env.program (are_sound env args (target.Call w) 0) (count args) (Some w))
  call_stands sign args w s h =
      let m = holds (is_no_main env.program w) _ sign _ h in
      let n = holds (rules.takes env.program (count args) w) _ sign _ (none_right (unless (is_no_main env.program w) _ sign) _ h) in
      let r = known.results w (count args) n (not_main (rules.is_main env.program w) m) in
      (r.0, ap (λ (b : Bool). if b then given env.program w else None) (both (are_sound env args (target.Call w) 0) (rules.may_call env.program (count args) w) s (both (rules.takes env.program (count args) w) (is_no_main env.program w) n m)) ∙ r.1)

  name_stands : (o : Option NameMeaning) → ((m : NameMeaning) → o ≡ Some m → Stands m.entity) → is_some o ≡ true → Stands (meant_entity o)
  name_stands None f h = absurd (cc)
  name_stands (Some m) f h = f m refl

  mutual
    pub stands : (e : expr.Expr) → breaks_among (visits env e) ≡ [] → Stands (entity_of env e)
    stands (expr.Number q n) h = (rules.int_value, refl)
    stands (expr.Character q n) h = (entity.Value sort.Char, refl)
    stands (expr.Truth q n) h = (rules.truth_value, refl)
    stands (expr.Name q name) h =
        name_stands (named env name) (known.names name) (holds (is_some (named env name)) _ q _ (one (AtUse env q name) h))
    stands (expr.Cin q) h = let f : false ≡ true = holds false _ q _ (one (AtCin q) h) in absurd (cc)
    stands (expr.Postfix q root parts) h =
        parts_stand parts (root_entity env root parts) (root_stands (rules.is_input root parts) (entity_of env root) (visits env root) (stands root) (first (if rules.is_input root parts then [] else visits env root) (parts_visits env parts (root_entity env root parts)) h)) (second (if rules.is_input root parts then [] else visits env root) (parts_visits env parts (root_entity env root parts)) h)
    stands (expr.Unary q op operand) h =
        let r = stands operand (first (visits env operand) _ h) in
        subst (λ o. Stands (unary_entity op o)) (sym r.1) (unary_stands op q r.0 (subst (λ o. breaks_at (unary_visit q op o) ≡ []) r.1 (one (unary_visit q op (entity_of env operand)) (second (visits env operand) _ h))))
    stands (expr.Chain q start rest) h =
        chain_stands rest (entity_of env start) (stands start (first (visits env start) _ h)) (second (visits env start) _ h)
    stands (expr.Assign q sign op place value) h =
        let r = stands place (first (visits env place) _ h) in
        let x = stands value (first (visits env value) _ (second (visits env place) _ h)) in
        let b : breaks_at (AtAssign sign (entity_of env place) (entity_of env value)) ≡ [] = one (AtAssign sign (entity_of env place) (entity_of env value)) (second (visits env value) _ (second (visits env place) _ h)) in
        let c : breaks_at (AtAssign sign (Some r.0) (Some x.0)) ≡ [] = subst (λ o. breaks_at (AtAssign sign (Some r.0) o) ≡ []) x.1 (subst (λ o. breaks_at (AtAssign sign o (entity_of env value)) ≡ []) r.1 b) in
        let d = assign_stands sign r.0 x.0 c in
        (d.0, ap (λ o. of_assign o (entity_of env value)) r.1 ∙ (ap (of_assign (Some r.0)) x.1 ∙ d.1))

    part_stands : (part : expr.Part) (called : Bool) (o : Option Entity) → Stands o → breaks_among (part_visits env part called o) ≡ [] → Stands (part_entity env part called o)
    part_stands part called None s h = absurd (let e = s.1 in cc)
    part_stands (expr.Field sign name) called (Some w) s h = field_stands sign called name w (one (AtMember env sign called name (Some w)) h)
    part_stands (expr.Index sign index) called (Some w) s h =
        let r = stands index (first (visits env index) _ h) in
        subst (λ o. Stands (of_index (Some w) o)) (sym r.1) (index_stands sign w r.0 (subst (λ o. breaks_at (AtIndex sign (Some w) o) ≡ []) r.1 (one (AtIndex sign (Some w) (entity_of env index)) (second (visits env index) _ h))))
    part_stands (expr.Call sign args) called (Some w) s h =
        call_stands sign args w (args_stand args (target.Call w) 0 (first (args_visits env args (target.Call w) 0) _ h)) (one (AtCall env sign (count args) (Some w)) (second (args_visits env args (target.Call w) 0) _ h))
    part_stands (expr.Step sign op) called (Some w) s h = change_stands sign w (one (AtChange sign (Some w)) h)

    parts_stand : (parts : expr.Parts) (o : Option Entity) → Stands o → breaks_among (parts_visits env parts o) ≡ [] → Stands (parts_entity env parts o)
    parts_stand expr.NoParts o s h = s
    parts_stand (expr.MoreParts part rest) o s h =
        parts_stand rest (part_entity env part (call_follows rest) o) (part_stands part (call_follows rest) o s (first (part_visits env part (call_follows rest) o) _ h)) (second (part_visits env part (call_follows rest) o) _ h)

    link_stands : (link : expr.Link) (o : Option Entity) → Stands o → breaks_among (link_visits env link o) ≡ [] → Stands (link_entity env link o)
    link_stands (expr.Linked sign op right) o s h =
        let r = stands right (first (visits env right) _ h) in
        let b : breaks_at (AtOperands sign o (entity_of env right)) ≡ [] = one (AtOperands sign o (entity_of env right)) (second (visits env right) _ h) in
        let c : breaks_at (AtOperands sign (Some s.0) (Some r.0)) ≡ [] = subst (λ u. breaks_at (AtOperands sign (Some s.0) u) ≡ []) r.1 (subst (λ u. breaks_at (AtOperands sign u (entity_of env right)) ≡ []) s.1 b) in
        let d = both_stand sign op s.0 r.0 c in
        (d.0, ap (λ u. of_both both_scalars u (entity_of env right) (binary_gives op)) s.1 ∙ (ap (λ u. of_both both_scalars (Some s.0) u (binary_gives op)) r.1 ∙ d.1))

    chain_stands : (links : expr.Links) (o : Option Entity) → Stands o → breaks_among (chain_visits env links o) ≡ [] → Stands (chain_entity env links o)
    chain_stands expr.NoLinks o s h = s
    chain_stands (expr.MoreLinks link rest) o s h =
        chain_stands rest (link_entity env link o) (link_stands link o s (first (link_visits env link o) _ h)) (second (link_visits env link o) _ h)

    pub args_stand : (args : expr.Exprs) (to : Target) (i : ℕ) → breaks_among (args_visits env args to i) ≡ [] → are_sound env args to i ≡ true
    args_stand expr.NoExprs to i h = refl
    args_stand (expr.MoreExprs e es) to i h =
        let here = first (visits env e ++ AtArgument (expr.expr_pos e) (expected env.program to i) (entity_of env e) ∷ []) (args_visits env es to (i + 1)) h in
        let r = stands e (first (visits env e) _ here) in
        let f = argument_fits (expr.expr_pos e) (expected env.program to i) r.0 (subst (λ o. breaks_at (AtArgument (expr.expr_pos e) (expected env.program to i) o) ≡ []) r.1 (one (AtArgument (expr.expr_pos e) (expected env.program to i) (entity_of env e)) (second (visits env e) _ here))) in
        both (has_fitting (expected env.program to i) (entity_of env e)) (are_sound env es to (i + 1)) (ap (has_fitting (expected env.program to i)) r.1 ∙ f) (args_stand es to (i + 1) (second (visits env e ++ AtArgument (expr.expr_pos e) (expected env.program to i) (entity_of env e) ∷ []) (args_visits env es to (i + 1)) h))

pub law_stands : LawStands
law_stands env known e h = stands env known e h
