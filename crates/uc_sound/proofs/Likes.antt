-- Two declarations of one routine have parameters of the same types.
use Rattle.std.proofs.Common.{◌≡◌, ℕ, suc, List, [], ◌∷◌, Some, Bool, true, false, refl, ap}
use Rattle.std.specs.Prelude.{◌&&◌, slice_get}
use Rattle.uc_tree.specs.declared.kinds.Base.{Base}
use Rattle.uc_tree.specs.declared.kinds.Base.TheVariants as base
use Rattle.uc_tree.specs.declared.kinds.Role.{Role}
use Rattle.uc_tree.specs.declared.kinds.Role.TheVariants as role
use Rattle.uc_tree.specs.declared.kinds.Param.{Param}
use Rattle.uc_tree.specs.Names.{same_name}
use Rattle.uc_tree.specs.Programs.{Sig, Program}
use Rattle.uc_rules.specs.declared.rules.Sort.{Sort}
use Rattle.uc_rules.specs.Sorts.{sort_of}
use Rattle.uc_rules.specs.ItemBreaks.{same_base, same_flag, same_params, same_sig}
use Rattle.uc_rules.specs.ProgramVisits.{same_role}
use Rattle.uc_sound.specs.Agreement.{AreLike}
use Rattle.uc_sound.proofs.Ties.{false_true}
use Rattle.uc_sound.proofs.Lists.{left_is, right_is}
use Rattle.uc_sound.proofs.ClassNames.{same_is}

base_is : (a b : Base) → same_base a b ≡ true → a ≡ b
base_is base.Void base.Void h = refl
base_is base.Int base.Int h = refl
base_is base.Char base.Char h = refl
base_is base.Bool base.Bool h = refl
base_is base.Condition base.Condition h = refl
base_is base.Cluster base.Cluster h = refl
base_is base.Processor base.Processor h = refl
base_is (base.Named n) (base.Named m) h = ap base.Named (same_is n m h)
base_is _ _ h = false_true h

flag_is : (a b : Bool) → same_flag a b ≡ true → a ≡ b
flag_is true true h = refl
flag_is false false h = refl
flag_is true false h = false_true h
flag_is false true h = false_true h

abbrev pub AreKnown : Program → List Param → Type 0
AreKnown p xs = (n : ℕ) (x : Param) → slice_get xs n ≡ Some x → (s : Sort) × (sort_of p x.base ≡ Some s)

pub likes : (p : Program) (xs ys : List Param) → same_params xs ys ≡ true → AreKnown p ys → AreLike p xs ys
likes p [] [] h k = tt
likes p [] (y ∷ ys) h k = false_true h
likes p (x ∷ xs) [] h k = false_true h
likes p (x ∷ xs) (y ∷ ys) h k =
    let a = left_is (same_base x.base y.base && same_flag x.by_ref y.by_ref) (same_params xs ys) h in
    (record { by_ref = flag_is x.by_ref y.by_ref (right_is (same_base x.base y.base) (same_flag x.by_ref y.by_ref) a); base = base_is x.base y.base (left_is (same_base x.base y.base) (same_flag x.by_ref y.by_ref) a); known = λ e. k 0 y refl }, likes p xs ys (right_is (same_base x.base y.base && same_flag x.by_ref y.by_ref) (same_params xs ys) h) (λ n. k (suc n)))

pub same_likes : (p : Program) (xs : List Param) → AreKnown p xs → AreLike p xs xs
same_likes p [] k = tt
same_likes p (x ∷ xs) k = (record { by_ref = refl; base = refl; known = λ e. k 0 x refl }, same_likes p xs (λ n. k (suc n)))

-- the parts of two signatures that are the same
pub record AreSame (a b : Sig) : Type 0 where
  pub role : a.role ≡ b.role
  pub name : a.name ≡ b.name
  pub params : same_params a.params b.params ≡ true

pub role_is : (a b : Role) → same_role a b ≡ true → a ≡ b
role_is role.Plain role.Plain h = refl
role_is role.Constructor role.Constructor h = refl
role_is role.Destructor role.Destructor h = refl
role_is _ _ h = false_true h

pub sig_is : (a b : Sig) → same_sig a b ≡ true → AreSame a b
sig_is a b h =
    let r = right_is (same_role a.role b.role) (same_name a.name b.name && (same_base a.ret b.ret && same_params a.params b.params)) h in
    let s = right_is (same_name a.name b.name) (same_base a.ret b.ret && same_params a.params b.params) r in
    record {
      role = role_is a.role b.role (left_is (same_role a.role b.role) (same_name a.name b.name && (same_base a.ret b.ret && same_params a.params b.params)) h);
      name = same_is a.name b.name (left_is (same_name a.name b.name) (same_base a.ret b.ret && same_params a.params b.params) r);
      params = right_is (same_base a.ret b.ret) (same_params a.params b.params) s;
    }
