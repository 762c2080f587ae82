-- Keys are equal just where what they were made of is.
use Rattle.std.proofs.Common.{◌≡◌, ℕ, List, [], ◌∷◌, ◌++◌, Bool, true, false, ◌&&◌, nat_eq, refl, ap, sym, ◌∙◌}
use Rattle.std.specs.Cmp.Lexicographic.{bytes_decides}
use Rattle.uc_tree.specs.declared.kinds.Base.{Base}
use Rattle.uc_tree.specs.declared.kinds.Base.TheVariants as base
use Rattle.uc_tree.specs.declared.kinds.Kind.{Kind}
use Rattle.uc_tree.specs.declared.kinds.Kind.TheVariants as kind
use Rattle.uc_tree.specs.declared.kinds.Param.{Param}
use Rattle.uc_tree.specs.declared.kinds.Role.{Role}
use Rattle.uc_tree.specs.declared.kinds.Role.TheVariants as role
use Rattle.uc_tree.specs.Names.{same_name}
use Rattle.uc_tree.specs.Programs.{Sig}
use Rattle.uc_rules.specs.ProgramVisits.{same_role}
use Rattle.uc_rules.specs.ItemBreaks.{same_base, same_flag, same_kind, same_params, same_sig}
use Rattle.uc_check_index.specs.Keys.{base_key, flag_byte, kind_byte, kind_key, member_key, member_sig_key, name_key, params_key, role_byte, role_key, sig_key}

and_again : (a b c : Bool) → (a && (b && c)) ≡ ((a && b) && c)
and_again true b c = refl
and_again false b c = refl

and_other : (a b : Bool) → (a && b) ≡ (b && a)
and_other true true = refl
and_other true false = refl
and_other false true = refl
and_other false false = refl

same_truth : (a b : Bool) → (a ≡ true → b ≡ true) → (b ≡ true → a ≡ true) → a ≡ b
same_truth true b h k = sym (h refl)
same_truth false true h k = k refl
same_truth false false h k = refl

-- which of two names comes first does not matter
pub same_back : (a b : List ℕ) → same_name a b ≡ same_name b a
same_back a b = same_truth (same_name a b) (same_name b a) (λ e. (bytes_decides b a).1 (sym ((bytes_decides a b).0 e))) (λ e. (bytes_decides a b).1 (sym ((bytes_decides b a).0 e)))

module _ (r s : List ℕ) where
  pub names_same : (a b : List ℕ) → same_name (name_key a ++ r) (name_key b ++ s) ≡ (same_name a b && same_name r s)
  names_same [] [] = refl
  names_same [] (y ∷ ys) = refl
  names_same (x ∷ xs) [] = refl
  names_same (x ∷ xs) (y ∷ ys) = ap (λ t. nat_eq x y && t) (names_same xs ys) ∙ and_again (nat_eq x y) (same_name xs ys) (same_name r s)

  bases_same : (a b : Base) → same_name (base_key a ++ r) (base_key b ++ s) ≡ (same_base a b && same_name r s)
  bases_same base.Void base.Void = refl
  bases_same base.Void base.Int = refl
  bases_same base.Void base.Char = refl
  bases_same base.Void base.Bool = refl
  bases_same base.Void base.Condition = refl
  bases_same base.Void base.Cluster = refl
  bases_same base.Void base.Processor = refl
  bases_same base.Void (base.Named n) = refl
  bases_same base.Int base.Void = refl
  bases_same base.Int base.Int = refl
  bases_same base.Int base.Char = refl
  bases_same base.Int base.Bool = refl
  bases_same base.Int base.Condition = refl
  bases_same base.Int base.Cluster = refl
  bases_same base.Int base.Processor = refl
  bases_same base.Int (base.Named n) = refl
  bases_same base.Char base.Void = refl
  bases_same base.Char base.Int = refl
  bases_same base.Char base.Char = refl
  bases_same base.Char base.Bool = refl
  bases_same base.Char base.Condition = refl
  bases_same base.Char base.Cluster = refl
  bases_same base.Char base.Processor = refl
  bases_same base.Char (base.Named n) = refl
  bases_same base.Bool base.Void = refl
  bases_same base.Bool base.Int = refl
  bases_same base.Bool base.Char = refl
  bases_same base.Bool base.Bool = refl
  bases_same base.Bool base.Condition = refl
  bases_same base.Bool base.Cluster = refl
  bases_same base.Bool base.Processor = refl
  bases_same base.Bool (base.Named n) = refl
  bases_same base.Condition base.Void = refl
  bases_same base.Condition base.Int = refl
  bases_same base.Condition base.Char = refl
  bases_same base.Condition base.Bool = refl
  bases_same base.Condition base.Condition = refl
  bases_same base.Condition base.Cluster = refl
  bases_same base.Condition base.Processor = refl
  bases_same base.Condition (base.Named n) = refl
  bases_same base.Cluster base.Void = refl
  bases_same base.Cluster base.Int = refl
  bases_same base.Cluster base.Char = refl
  bases_same base.Cluster base.Bool = refl
  bases_same base.Cluster base.Condition = refl
  bases_same base.Cluster base.Cluster = refl
  bases_same base.Cluster base.Processor = refl
  bases_same base.Cluster (base.Named n) = refl
  bases_same base.Processor base.Void = refl
  bases_same base.Processor base.Int = refl
  bases_same base.Processor base.Char = refl
  bases_same base.Processor base.Bool = refl
  bases_same base.Processor base.Condition = refl
  bases_same base.Processor base.Cluster = refl
  bases_same base.Processor base.Processor = refl
  bases_same base.Processor (base.Named n) = refl
  bases_same (base.Named m) base.Void = refl
  bases_same (base.Named m) base.Int = refl
  bases_same (base.Named m) base.Char = refl
  bases_same (base.Named m) base.Bool = refl
  bases_same (base.Named m) base.Condition = refl
  bases_same (base.Named m) base.Cluster = refl
  bases_same (base.Named m) base.Processor = refl
  bases_same (base.Named m) (base.Named n) = names_same m n

flags_same : (a b : Bool) → nat_eq (flag_byte a) (flag_byte b) ≡ same_flag a b
flags_same true true = refl
flags_same true false = refl
flags_same false true = refl
flags_same false false = refl

turned : (f b rest : Bool) → (f && (b && rest)) ≡ ((b && f) && rest)
turned true true rest = refl
turned true false rest = refl
turned false true rest = refl
turned false false rest = refl

params_same : (a b : List Param) → same_name (params_key a) (params_key b) ≡ same_params a b
params_same [] [] = refl
params_same [] (y ∷ ys) = refl
params_same (x ∷ xs) [] = refl
params_same (x ∷ xs) (y ∷ ys) =
    ap (λ t. t && same_name (base_key x.base ++ params_key xs) (base_key y.base ++ params_key ys)) (flags_same x.by_ref y.by_ref)
    ∙ ap (λ t. same_flag x.by_ref y.by_ref && t) (bases_same (params_key xs) (params_key ys) x.base y.base)
    ∙ turned (same_flag x.by_ref y.by_ref) (same_base x.base y.base) (same_name (params_key xs) (params_key ys))
    ∙ ap (λ t. (same_base x.base y.base && same_flag x.by_ref y.by_ref) && t) (params_same xs ys)

roles_same : (a b : Role) → nat_eq (role_byte a) (role_byte b) ≡ same_role a b
roles_same role.Plain role.Plain = refl
roles_same role.Plain role.Constructor = refl
roles_same role.Plain role.Destructor = refl
roles_same role.Constructor role.Plain = refl
roles_same role.Constructor role.Constructor = refl
roles_same role.Constructor role.Destructor = refl
roles_same role.Destructor role.Plain = refl
roles_same role.Destructor role.Constructor = refl
roles_same role.Destructor role.Destructor = refl

kinds_same : (a b : Kind) → nat_eq (kind_byte a) (kind_byte b) ≡ same_kind b a
kinds_same kind.Class kind.Class = refl
kinds_same kind.Class kind.Coroutine = refl
kinds_same kind.Class kind.Monitor = refl
kinds_same kind.Class kind.Cormonitor = refl
kinds_same kind.Class kind.Task = refl
kinds_same kind.Class kind.Event = refl
kinds_same kind.Coroutine kind.Class = refl
kinds_same kind.Coroutine kind.Coroutine = refl
kinds_same kind.Coroutine kind.Monitor = refl
kinds_same kind.Coroutine kind.Cormonitor = refl
kinds_same kind.Coroutine kind.Task = refl
kinds_same kind.Coroutine kind.Event = refl
kinds_same kind.Monitor kind.Class = refl
kinds_same kind.Monitor kind.Coroutine = refl
kinds_same kind.Monitor kind.Monitor = refl
kinds_same kind.Monitor kind.Cormonitor = refl
kinds_same kind.Monitor kind.Task = refl
kinds_same kind.Monitor kind.Event = refl
kinds_same kind.Cormonitor kind.Class = refl
kinds_same kind.Cormonitor kind.Coroutine = refl
kinds_same kind.Cormonitor kind.Monitor = refl
kinds_same kind.Cormonitor kind.Cormonitor = refl
kinds_same kind.Cormonitor kind.Task = refl
kinds_same kind.Cormonitor kind.Event = refl
kinds_same kind.Task kind.Class = refl
kinds_same kind.Task kind.Coroutine = refl
kinds_same kind.Task kind.Monitor = refl
kinds_same kind.Task kind.Cormonitor = refl
kinds_same kind.Task kind.Task = refl
kinds_same kind.Task kind.Event = refl
kinds_same kind.Event kind.Class = refl
kinds_same kind.Event kind.Coroutine = refl
kinds_same kind.Event kind.Monitor = refl
kinds_same kind.Event kind.Cormonitor = refl
kinds_same kind.Event kind.Task = refl
kinds_same kind.Event kind.Event = refl

pub sigs_same : (a b : Sig) → same_name (sig_key a) (sig_key b) ≡ same_sig a b
sigs_same a b =
    let ra = base_key a.ret ++ params_key a.params in
    let rb = base_key b.ret ++ params_key b.params in
    ap (λ t. t && same_name (name_key a.name ++ ra) (name_key b.name ++ rb)) (roles_same a.role b.role)
    ∙ ap (λ t. same_role a.role b.role && t) (names_same ra rb a.name b.name)
    ∙ ap (λ t. same_role a.role b.role && (same_name a.name b.name && t)) (bases_same (params_key a.params) (params_key b.params) a.ret b.ret)
    ∙ ap (λ t. same_role a.role b.role && (same_name a.name b.name && (same_base a.ret b.ret && t))) (params_same a.params b.params)

pub sigs_back : (a b : Sig) → same_name (sig_key a) (sig_key b) ≡ same_sig b a
sigs_back a b = same_back (sig_key a) (sig_key b) ∙ sigs_same b a

pub rolled_back : (a b : Sig) → same_name (role_key a) (role_key b) ≡ (same_role b.role a.role && same_name b.name a.name)
rolled_back a b = same_back (role_key a) (role_key b) ∙ ap (λ t. t && same_name b.name a.name) (roles_same b.role a.role)

pub members_back : (c d : List ℕ) (a b : Sig) → same_name (member_key c a) (member_key d b) ≡ (same_name c d && (same_role b.role a.role && same_name b.name a.name))
members_back c d a b = names_same (role_key a) (role_key b) c d ∙ ap (λ t. same_name c d && t) (rolled_back a b)

pub member_sigs_back : (c d : List ℕ) (a b : Sig) → same_name (member_sig_key c a) (member_sig_key d b) ≡ (same_name c d && same_sig b a)
member_sigs_back c d a b = names_same (sig_key a) (sig_key b) c d ∙ ap (λ t. same_name c d && t) (sigs_back a b)

pub kinds_back : (k l : Kind) (m n : List ℕ) → same_name (kind_key k m) (kind_key l n) ≡ (same_name m n && same_kind l k)
kinds_back k l m n = ap (λ t. t && same_name m n) (kinds_same k l) ∙ and_other (same_kind l k) (same_name m n)
