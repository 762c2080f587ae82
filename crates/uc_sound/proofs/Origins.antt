-- Where each routine of a program stands: outside of classes, or as a member of one.
use Rattle.std.proofs.Common.{◌≡◌, ℕ, zero, suc, ◌+◌, ◌⊎◌, inl, inr, List, [], ◌∷◌, Option, Some, None, Bool, true, false, refl, sym, ap, ◌∙◌, subst, arith}
use Rattle.std.specs.Prelude.{◌&&◌, slice_get, if◌then◌else◌, nat_eq}
use Rattle.uc_tree.specs.Cells.{classes_of}
use Rattle.uc_tree.specs.Numbering.{Defined, defined_by, in_class, form_defined, members_defined, item_defined, items_defined, routines_of}
use Rattle.uc_tree.specs.Objects.{class_at, has_role, role_from, is_member, member_from}
use Rattle.uc_tree.specs.declared.kinds.Role.{Role}
use Rattle.uc_tree.specs.Programs.{Routine, MemberForm, FieldsMember, RoutineMember, ProtoMember, Member, Class, Item, ClassItem, RoutineItem, ConstItem, ProtoItem, ForwardItem, UsingItem, Program}
use Rattle.uc_resolve.specs.Standings.{routine_from, is_named}
use Rattle.uc_resolve.specs.Resolve.{event_constructor_from}
use Rattle.uc_tree.specs.Objects.{is_constructor}
use Rattle.uc_tree.specs.Names.{same_name}
use Rattle.uc_sound.proofs.Ties.{some_same, none_some, false_true}
use Rattle.uc_sound.proofs.Lists.{in_either, in_left, in_right}

module _ (p : Program) where
  pub data Origin (d : Defined) : Type 0 where
    outside : (i : ℕ) (r : Routine) → slice_get p.items i ≡ Some (RoutineItem r) → defined_by p r.sig.owner r ≡ d → Origin d
    inside : (i j : ℕ) (c : Class) (m : Member) (r : Routine) → class_at p i ≡ Some c → slice_get c.members j ≡ Some m → m.form ≡ RoutineMember r → in_class p c.name r ≡ d → Origin d

  record InClass (name : List ℕ) (ms : List Member) (d : Defined) : Type 0 where
    j : ℕ
    m : Member
    r : Routine
    at : slice_get ms j ≡ Some m
    form : m.form ≡ RoutineMember r
    defined : in_class p name r ≡ d

  in_members : (name : List ℕ) (ms : List Member) (n : ℕ) (d : Defined) → slice_get (members_defined p name ms) n ≡ Some d → InClass name ms d
  in_members name [] n d e = none_some e
  in_members name (m ∷ ms) n d e = by (in_either (form_defined p name m.form) (members_defined p name ms) n d e) (λ k q. in_members name ms k d q)
    where
      one : (form : MemberForm) → m.form ≡ form → slice_get (form_defined p name form) n ≡ Some d → InClass name (m ∷ ms) d
      one (FieldsMember at b ds) q e = none_some e
      one (RoutineMember r) q e = record { j = 0; m = m; r = r; at = refl; form = q; defined = only n e }
        where
          only : (n : ℕ) → slice_get (in_class p name r ∷ []) n ≡ Some d → in_class p name r ≡ d
          only zero e = some_same e
          only (suc n) e = none_some e
      one (ProtoMember sig) q e = none_some e

      by : (slice_get (form_defined p name m.form) n ≡ Some d) ⊎ ((k : ℕ) × (slice_get (members_defined p name ms) k ≡ Some d)) → ((k : ℕ) → slice_get (members_defined p name ms) k ≡ Some d → InClass name ms d) → InClass name (m ∷ ms) d
      by (inl e) ih = one m.form refl e
      by (inr e) ih = let r = ih e.0 e.1 in record { j = suc r.j; m = r.m; r = r.r; at = r.at; form = r.form; defined = r.defined }

  -- among these items, of which the classes and items stand at these places
  data From (xs : List Item) (d : Defined) : Type 0 where
    from_item : (i : ℕ) (r : Routine) → slice_get xs i ≡ Some (RoutineItem r) → defined_by p r.sig.owner r ≡ d → From xs d
    from_class : (i : ℕ) (c : Class) → slice_get (classes_of xs) i ≡ Some c → InClass c.name c.members d → From xs d

  from : (xs : List Item) (n : ℕ) (d : Defined) → slice_get (items_defined p xs) n ≡ Some d → From xs d
  from [] n d e = none_some e
  from (ClassItem c ∷ xs) n d e = by (in_either (members_defined p c.name c.members) (items_defined p xs) n d e) (λ k q. from xs k d q)
    where
      further : From xs d → From (ClassItem c ∷ xs) d
      further (from_item i r e q) = from_item (suc i) r e q
      further (from_class i x e q) = from_class (suc i) x e q

      by : (slice_get (members_defined p c.name c.members) n ≡ Some d) ⊎ ((k : ℕ) × (slice_get (items_defined p xs) k ≡ Some d)) → ((k : ℕ) → slice_get (items_defined p xs) k ≡ Some d → From xs d) → From (ClassItem c ∷ xs) d
      by (inl e) ih = from_class 0 c refl (in_members c.name c.members n d e)
      by (inr e) ih = further (ih e.0 e.1)
  from (RoutineItem r ∷ xs) zero d e = from_item 0 r refl (some_same e)
  from (RoutineItem r ∷ xs) (suc n) d e = further (from xs n d e)
    where
      further : From xs d → From (RoutineItem r ∷ xs) d
      further (from_item i x e q) = from_item (suc i) x e q
      further (from_class i x e q) = from_class i x e q
  from (ConstItem r ∷ xs) n d e = further (from xs n d e)
    where
      further : From xs d → From (ConstItem r ∷ xs) d
      further (from_item i x e q) = from_item (suc i) x e q
      further (from_class i x e q) = from_class i x e q
  from (ProtoItem r ∷ xs) n d e = further (from xs n d e)
    where
      further : From xs d → From (ProtoItem r ∷ xs) d
      further (from_item i x e q) = from_item (suc i) x e q
      further (from_class i x e q) = from_class i x e q
  from (ForwardItem r ∷ xs) n d e = further (from xs n d e)
    where
      further : From xs d → From (ForwardItem r ∷ xs) d
      further (from_item i x e q) = from_item (suc i) x e q
      further (from_class i x e q) = from_class i x e q
  from (UsingItem r ∷ xs) n d e = further (from xs n d e)
    where
      further : From xs d → From (UsingItem r ∷ xs) d
      further (from_item i x e q) = from_item (suc i) x e q
      further (from_class i x e q) = from_class i x e q

  pub origin : (n : ℕ) (d : Defined) → slice_get (routines_of p) n ≡ Some d → Origin d
  origin n d e = by (from p.items n d e)
    where
      by : From p.items d → Origin d
      by (from_item i r e q) = outside i r e q
      by (from_class i c e q) = inside i q.j c q.m q.r e q.at q.form q.defined

  -- and each routine that stands somewhere is among them
  member_listed : (name : List ℕ) (ms : List Member) (j : ℕ) (m : Member) (r : Routine) → slice_get ms j ≡ Some m → m.form ≡ RoutineMember r → (n : ℕ) × (slice_get (members_defined p name ms) n ≡ Some (in_class p name r))
  member_listed name [] j m r e q = none_some e
  member_listed name (x ∷ ms) zero m r e q =
      let f : x.form ≡ RoutineMember r = ap (λ (z : Member). z.form) (some_same e) ∙ q in
      (0, in_left (form_defined p name x.form) (members_defined p name ms) 0 (in_class p name r) (ap (λ z. slice_get (form_defined p name z) 0) f))
  member_listed name (x ∷ ms) (suc j) m r e q = let s = member_listed name ms j m r e q in in_right (form_defined p name x.form) (members_defined p name ms) s.0 (in_class p name r) s.1

  item_listed : (xs : List Item) (i : ℕ) (r : Routine) → slice_get xs i ≡ Some (RoutineItem r) → (n : ℕ) × (slice_get (items_defined p xs) n ≡ Some (defined_by p r.sig.owner r))
  item_listed [] i r e = none_some e
  item_listed (x ∷ xs) zero r e = (0, in_left (item_defined p x) (items_defined p xs) 0 (defined_by p r.sig.owner r) (ap (λ z. slice_get (item_defined p z) 0) (some_same e)))
  item_listed (x ∷ xs) (suc i) r e = let s = item_listed xs i r e in in_right (item_defined p x) (items_defined p xs) s.0 (defined_by p r.sig.owner r) s.1

  pub outside_listed : (i : ℕ) (r : Routine) → slice_get p.items i ≡ Some (RoutineItem r) → (n : ℕ) × (slice_get (routines_of p) n ≡ Some (defined_by p r.sig.owner r))
  outside_listed i r e = item_listed p.items i r e

  class_listed : (xs : List Item) (i : ℕ) (c : Class) (d : Defined) (m : ℕ) → slice_get (classes_of xs) i ≡ Some c → slice_get (members_defined p c.name c.members) m ≡ Some d → (n : ℕ) × (slice_get (items_defined p xs) n ≡ Some d)
  class_listed [] i c d m e q = none_some e
  class_listed (ClassItem x ∷ xs) zero c d m e q =
      let f = subst (λ (z : Class). slice_get (members_defined p z.name z.members) m ≡ Some d) (sym (some_same e)) q in
      (m, in_left (members_defined p x.name x.members) (items_defined p xs) m d f)
  class_listed (ClassItem x ∷ xs) (suc i) c d m e q = let s = class_listed xs i c d m e q in in_right (members_defined p x.name x.members) (items_defined p xs) s.0 d s.1
  class_listed (RoutineItem x ∷ xs) i c d m e q = let s = class_listed xs i c d m e q in in_right (item_defined p (RoutineItem x)) (items_defined p xs) s.0 d s.1
  class_listed (ConstItem x ∷ xs) i c d m e q = class_listed xs i c d m e q
  class_listed (ProtoItem x ∷ xs) i c d m e q = class_listed xs i c d m e q
  class_listed (ForwardItem x ∷ xs) i c d m e q = class_listed xs i c d m e q
  class_listed (UsingItem x ∷ xs) i c d m e q = class_listed xs i c d m e q

  pub inside_listed : (i j : ℕ) (c : Class) (m : Member) (r : Routine) → class_at p i ≡ Some c → slice_get c.members j ≡ Some m → m.form ≡ RoutineMember r → (n : ℕ) × (slice_get (routines_of p) n ≡ Some (in_class p c.name r))
  inside_listed i j c m r e q f = let s = member_listed c.name c.members j m r q f in class_listed p.items i c (in_class p c.name r) s.0 e s.1

-- what a look-up among routines finds: one that passes its test, where one does
pub record Looked (f : Defined → Bool) (ds : List Defined) (r : ℕ) (o : Option ℕ) : Type 0 where
  pub n : ℕ
  pub defined : Defined
  pub at : slice_get ds n ≡ Some defined
  pub passes : f defined ≡ true
  pub found : o ≡ Some (r + n)

-- a look-up takes the first that passes
abbrev pub looked_from : (Defined → Bool) → List Defined → ℕ → Option ℕ
looked_from f [] r = None
looked_from f (d ∷ ds) r = if f d then Some r else looked_from f ds (suc r)

pub looks : (f : Defined → Bool) (ds : List Defined) (r : ℕ) (m : ℕ) (x : Defined) → slice_get ds m ≡ Some x → f x ≡ true → Looked f ds r (looked_from f ds r)
looks f [] r m x e h = none_some e
looks f (d ∷ ds) r m x e h = by (f d) refl (λ k q. looks f ds (suc r) k x q h)
  where
    further : (m : ℕ) → slice_get (d ∷ ds) m ≡ Some x → f d ≡ false → (k : ℕ) × (slice_get ds k ≡ Some x)
    further zero e w = false_true (sym w ∙ (ap f (some_same e) ∙ h))
    further (suc m) e w = (m, e)

    by : (b : Bool) → f d ≡ b → ((k : ℕ) → slice_get ds k ≡ Some x → Looked f ds (suc r) (looked_from f ds (suc r))) → Looked f (d ∷ ds) r (if b then Some r else looked_from f ds (suc r))
    by true w ih = record { n = 0; defined = d; at = refl; passes = w; found = ap Some (let q : r ≡ r + 0 = omega arith in q) }
    by false w ih =
        let k = further m e w in
        let s = ih k.0 k.1 in
        record { n = suc s.n; defined = s.defined; at = s.at; passes = s.passes; found = s.found ∙ ap Some (let q : suc r + s.n ≡ r + suc s.n = omega arith in q) }

-- and where it finds a number, that one passes
pub looked : (f : Defined → Bool) (ds : List Defined) (r k : ℕ) → looked_from f ds r ≡ Some k → Looked f ds r (Some k)
looked f [] r k e = none_some e
looked f (d ∷ ds) r k e = by (f d) refl (looked f ds (suc r) k) e
  where
    by : (b : Bool) → f d ≡ b → (looked_from f ds (suc r) ≡ Some k → Looked f ds (suc r) (Some k)) → (if b then Some r else looked_from f ds (suc r)) ≡ Some k → Looked f (d ∷ ds) r (Some k)
    by true w ih h = record { n = 0; defined = d; at = refl; passes = w; found = sym h ∙ ap Some (let q : r ≡ r + 0 = omega arith in q) }
    by false w ih h =
        let s = ih h in
        record { n = suc s.n; defined = s.defined; at = s.at; passes = s.passes; found = s.found ∙ ap Some (let q : suc r + s.n ≡ r + suc s.n = omega arith in q) }

-- the look-ups of the resolved tree are such
pub routine_looked : (ds : List Defined) (r : ℕ) (name : List ℕ) → routine_from ds r name ≡ looked_from (λ d. nat_eq d.number 0 && is_named d.routine.sig name) ds r
routine_looked [] r name = refl
routine_looked (d ∷ ds) r name = ap (λ o. if nat_eq d.number 0 && is_named d.routine.sig name then Some r else o) (routine_looked ds (suc r) name)

pub member_looked : (ds : List Defined) (r class : ℕ) (name : List ℕ) → member_from ds r class name ≡ looked_from (is_member class name) ds r
member_looked [] r class name = refl
member_looked (d ∷ ds) r class name = ap (λ o. if is_member class name d then Some r else o) (member_looked ds (suc r) class name)

pub role_looked : (ds : List Defined) (r class : ℕ) (wanted : Role) → role_from ds r class wanted ≡ looked_from (has_role class wanted) ds r
role_looked [] r class wanted = refl
role_looked (d ∷ ds) r class wanted = ap (λ o. if has_role class wanted d then Some r else o) (role_looked ds (suc r) class wanted)

pub event_looked : (ds : List Defined) (r : ℕ) (name : List ℕ) → event_constructor_from ds r name ≡ looked_from (λ d. nat_eq d.number 0 && (is_constructor d.routine.sig.role && same_name d.routine.sig.name name)) ds r
event_looked [] r name = refl
event_looked (d ∷ ds) r name =
    ap (λ o. if nat_eq d.number 0 && (is_constructor d.routine.sig.role && same_name d.routine.sig.name name) then Some r else o) (event_looked ds (suc r) name)
