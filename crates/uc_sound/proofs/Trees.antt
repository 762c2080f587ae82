-- A program of formed items is formed.
use Rattle.std.proofs.Common.{◌≡◌, ℕ, zero, suc, ◌≤◌, List, [], ◌∷◌, length, Option, Some, None, refl, subst, arith}
use Rattle.std.specs.Prelude.{slice_get, option_and_then}
use Rattle.uc_tree.specs.declared.limits.TheConstants.{LAST_CLASS}
use Rattle.uc_tree.specs.declared.kinds.Owner.{Owner}
use Rattle.uc_tree.specs.declared.kinds.Owner.TheVariants as owner
use Rattle.uc_tree.specs.Cells.{classes_of}
use Rattle.uc_tree.specs.Constants.{constants_of}
use Rattle.uc_tree.specs.Numbering.{Defined, defined_by, routines_of}
use Rattle.uc_tree.specs.Programs.{Sig, Routine, MemberForm, FieldsMember, RoutineMember, ProtoMember, Member, Class, Constant, Item, ClassItem, RoutineItem, ConstItem, ProtoItem, ForwardItem, UsingItem, Program}
use Rattle.uc_rules.specs.Names.{item_sig, form_sig, routine_sig, method_sig}
use Rattle.uc_rules.specs.Sorts.{class_at}
use Rattle.uc_sound.proofs.Ties.{some_same, none_some}
use Rattle.uc_sound.specs.SoundFormed.{IsFormed}
use Rattle.uc_sound.proofs.Origins.{Origin, outside, inside, origin}
use Rattle.uc_sound.proofs.Sure.{Each}
use Rattle.uc_sound.proofs.Programs.{MakesNothing, IsPlainHere, IsKnownBase, FormedRoutine, FormedMember, FormedItem}

each_at : {A : Type 0} (R : A → Type 0) (xs : List A) (n : ℕ) (x : A) → Each R xs → slice_get xs n ≡ Some x → R x
each_at R [] n x h e = none_some e
each_at R (y ∷ xs) zero x h e = subst R (some_same e) h.0
each_at R (y ∷ xs) (suc n) x h e = each_at R xs n x h.1 e

abbrev FormedMembers : ℕ → Class → Type 0
FormedMembers last c = Each (λ (m : Member). FormedMember last m.form) c.members

-- how many classes there are
few_classes : (is : List Item) → length (classes_of is) ≤ length is
few_classes [] = omega arith
few_classes (ClassItem c ∷ is) = omega (arith, few_classes is)
few_classes (RoutineItem r ∷ is) = omega (arith, few_classes is)
few_classes (ConstItem c ∷ is) = omega (arith, few_classes is)
few_classes (ProtoItem s ∷ is) = omega (arith, few_classes is)
few_classes (ForwardItem f ∷ is) = omega (arith, few_classes is)
few_classes (UsingItem pos ∷ is) = omega (arith, few_classes is)

class_formed : (last : ℕ) (is : List Item) (i : ℕ) (c : Class) → Each (FormedItem last) is → slice_get (classes_of is) i ≡ Some c → FormedMembers last c
class_formed last [] i c h e = none_some e
class_formed last (ClassItem x ∷ is) zero c h e = subst (FormedMembers last) (some_same e) h.0
class_formed last (ClassItem x ∷ is) (suc i) c h e = class_formed last is i c h.1 e
class_formed last (RoutineItem r ∷ is) i c h e = class_formed last is i c h.1 e
class_formed last (ConstItem x ∷ is) i c h e = class_formed last is i c h.1 e
class_formed last (ProtoItem s ∷ is) i c h e = class_formed last is i c h.1 e
class_formed last (ForwardItem f ∷ is) i c h e = class_formed last is i c h.1 e
class_formed last (UsingItem pos ∷ is) i c h e = class_formed last is i c h.1 e

constant_formed : (last : ℕ) (is : List Item) (n : ℕ) (c : Constant) → Each (FormedItem last) is → slice_get (constants_of is) n ≡ Some c → IsKnownBase c.base
constant_formed last [] n c h e = none_some e
constant_formed last (ConstItem x ∷ is) zero c h e = subst (λ (c : Constant). IsKnownBase c.base) (some_same e) h.0
constant_formed last (ConstItem x ∷ is) (suc n) c h e = constant_formed last is n c h.1 e
constant_formed last (ClassItem x ∷ is) n c h e = constant_formed last is n c h.1 e
constant_formed last (RoutineItem r ∷ is) n c h e = constant_formed last is n c h.1 e
constant_formed last (ProtoItem s ∷ is) n c h e = constant_formed last is n c h.1 e
constant_formed last (ForwardItem f ∷ is) n c h e = constant_formed last is n c h.1 e
constant_formed last (UsingItem pos ∷ is) n c h e = constant_formed last is n c h.1 e

-- signatures

abbrev SigFormed : Sig → Type 0
SigFormed s = MakesNothing s × IsPlainHere s

item_sig_formed : (last : ℕ) (x : Item) (sig : Sig) → FormedItem last x → item_sig x ≡ Some sig → SigFormed sig
item_sig_formed last (ClassItem c) sig h e = none_some e
item_sig_formed last (RoutineItem r) sig h e = subst SigFormed (some_same e) (h.0.makes, h.1)
item_sig_formed last (ConstItem c) sig h e = none_some e
item_sig_formed last (ProtoItem s) sig h e = subst SigFormed (some_same e) h
item_sig_formed last (ForwardItem f) sig h e = none_some e
item_sig_formed last (UsingItem pos) sig h e = none_some e

form_sig_formed : (last : ℕ) (f : MemberForm) (sig : Sig) → FormedMember last f → form_sig f ≡ Some sig → MakesNothing sig
form_sig_formed last (FieldsMember at b ds) sig h e = none_some e
form_sig_formed last (RoutineMember r) sig h e = subst MakesNothing (some_same e) h.makes
form_sig_formed last (ProtoMember s) sig h e = subst MakesNothing (some_same e) h

-- what is found and then gives something
then_found : {A B : Type 0} (f : A → Option B) (o : Option A) (y : B) → option_and_then f o ≡ Some y → (x : A) × (o ≡ Some x) × (f x ≡ Some y)
then_found f None y e = none_some e
then_found f (Some x) y e = (x, refl, e)

module _ (last : ℕ) (p : Program) (h : Each (FormedItem last) p.items) where
  outer_formed : (i : ℕ) (sig : Sig) → routine_sig p i ≡ Some sig → SigFormed sig
  outer_formed i sig e =
      let k = then_found item_sig (slice_get p.items i) sig e in
      item_sig_formed last k.0 sig (each_at (FormedItem last) p.items i k.0 h k.1) k.2

  inner_formed : (i j : ℕ) (sig : Sig) → method_sig p i j ≡ Some sig → MakesNothing sig
  inner_formed i j sig e =
      let k = then_found (λ (c : Class). option_and_then (λ (m : Member). form_sig m.form) (slice_get c.members j)) (class_at p i) sig e in
      let l = then_found (λ (m : Member). form_sig m.form) (slice_get k.0.members j) sig k.2 in
      form_sig_formed last l.0.form sig (each_at (λ (m : Member). FormedMember last m.form) k.0.members j l.0 (class_formed last p.items i k.0 h k.1) l.1) l.2

  by_owner : (o : Owner) (r : Routine) → FormedRoutine last r → FormedRoutine last (defined_by p o r).routine
  by_owner owner.Here r f = f
  by_owner owner.Main r f = f
  by_owner (owner.Class name) r f = f

  by_origin : (d : Defined) → Origin p d → FormedRoutine last d.routine
  by_origin d (outside i r e q) =
      subst (λ (d : Defined). FormedRoutine last d.routine) q (by_owner r.sig.owner r (each_at (FormedItem last) p.items i (RoutineItem r) h e).0)
  by_origin d (inside i j c m r e f g q) =
      let k = each_at (λ (m : Member). FormedMember last m.form) c.members j m (class_formed last p.items i c h e) f in
      subst (λ (d : Defined). FormedRoutine last d.routine) q (subst (FormedMember last) g k)

  routine_formed : (n : ℕ) (d : Defined) → slice_get (routines_of p) n ≡ Some d → FormedRoutine last d.routine
  routine_formed n d e = by_origin d (origin p n d e)

  pub tree_formed : length p.items ≤ last → last ≤ LAST_CLASS → IsFormed p
  tree_formed le few = record {
    classes = omega (arith, few_classes p.items, le, few);
    plain = λ i sig e here. (outer_formed i sig e).1 here;
    makers = λ i sig e role. (outer_formed i sig e).0 role;
    own_makers = λ i j sig e role. inner_formed i j sig e role;
    constants = λ n c e. constant_formed last p.items n c h e p;
    params = λ n d e. omega (arith, (routine_formed n d e).params, few);
    handlers = λ n d e. (routine_formed n d e).body;
  }
