-- The numbers of mutex members by their places.
use Rattle.std.proofs.Common.{◌≡◌, ℕ, zero, suc, ◌+◌, ◌≤◌, ◌<◌, List, [], ◌∷◌, Bool, true, false, Option, Some, None, if◌then◌else◌, take, refl, ap, sym, ◌∙◌, arith}
use Rattle.std.specs.Prelude.{slice_get, option_and_then, is_some, ◌&&◌}
use Rattle.std.proofs.lemmas.Bool.{le-leb, lt-leb}
use Rattle.uc_names.specs.Blocks.{Block}
use Rattle.uc_layout.specs.Places.{IsPlaces}
use Rattle.uc_tree.specs.declared.limits.TheConstants.{MEMBERS}
use Rattle.uc_tree.specs.Names.{same_name}
use Rattle.uc_tree.specs.Programs.{Class, Program, Sig}
use Rattle.uc_tree.specs.Cells.{classes_of}
use Rattle.uc_tree.specs.Numbering.{at_most, is_plain, member_number, mutex_members, place_from}
use Rattle.uc_tree.specs.Objects.{class_at}
use Rattle.uc_resolve.specs.Resolve.{has_number_in}
use Rattle.uc_lower_expr.specs.Meanings.{member_by, mutex_number_in}
use Rattle.uc_lower_expr.specs.Numbered.{AreExclusive}
use Rattle.uc_lower_expr.proofs.Eventful.{place_shift}
use Rattle.uc_lower_expr.proofs.Noting.{beyond, past, within}

-- a number that there is

abbrev at_members : Bool → ℕ → Option ℕ
at_members t n = if t then Some n else None

pub member_few : (k : ℕ) → k < MEMBERS → Some (1 + k) ≡ member_by (Some k)
member_few k l = sym (ap (λ (t : Bool). at_members t (1 + k)) (le-leb (1 + k) MEMBERS (omega (arith, l))))

pub member_many : (k : ℕ) → MEMBERS ≤ k → None ≡ member_by (Some k)
member_many k l = sym (ap (λ (t : Bool). at_members t (1 + k)) (lt-leb (1 + k) MEMBERS (omega (arith, l))))

-- of the names of a list as many have numbers as there are numbers

past_case : (last i : ℕ) (b : Bool) (o : Option ℕ) → last < i → option_and_then (at_most last) o ≡ None → option_and_then (at_most last) (if b then Some i else o) ≡ None
past_case last i true o h e = ap (λ (t : Bool). at_members t i) (lt-leb i last h)
past_case last i false o h e = e

past_last : (last i : ℕ) (ns : List (List ℕ)) (name : List ℕ) → last < i → option_and_then (at_most last) (place_from i ns name) ≡ None
past_last last i [] name h = refl
past_last last i (n ∷ ns) name h = past_case last i (same_name n name) (place_from (i + 1) ns name) h (past_last last (i + 1) ns name (omega (arith, h)))

taken_case : (last i : ℕ) (b : Bool) (o q : Option ℕ) → option_and_then (at_most last) o ≡ option_and_then (at_most last) q → option_and_then (at_most last) (if b then Some i else o) ≡ option_and_then (at_most last) (if b then Some i else q)
taken_case last i true o q e = refl
taken_case last i false o q e = e

taken : (last i k : ℕ) (ns : List (List ℕ)) (name : List ℕ) → last + 1 ≡ i + k → option_and_then (at_most last) (place_from i (take k ns) name) ≡ option_and_then (at_most last) (place_from i ns name)
taken last i zero [] name h = refl
taken last i zero (n ∷ ns) name h = sym (past_last last i (n ∷ ns) name (omega (arith, h)))
taken last i (suc k) [] name h = refl
taken last i (suc k) (n ∷ ns) name h = taken_case last i (same_name n name) (place_from (i + 1) (take k ns) name) (place_from (i + 1) ns name) (taken last (i + 1) k ns name (omega (arith, h)))

member_is : (c : Class) (name : List ℕ) → member_by (place_from 0 (take MEMBERS (mutex_members c)) name) ≡ member_number c name
member_is c name = ap (option_and_then (at_most MEMBERS)) (place_shift 1 0 1 (take MEMBERS (mutex_members c)) name refl) ∙ taken MEMBERS 1 MEMBERS (mutex_members c) name (omega arith)

-- the number of a member by the tables of all classes

module _ (p : Program) (ms : List (List Block)) (are : AreExclusive p ms) (i : ℕ) (name : List ℕ) where
  number_by : (bs : List Block) → slice_get ms i ≡ Some bs → (r : Option ℕ) → ((names : List (List ℕ)) → IsPlaces names bs → r ≡ member_by (place_from 0 names name)) → (o : Option Class) → class_at p i ≡ o → r ≡ mutex_number_in o name
  number_by bs e r h None g = let a = within ms i bs e in let b = past (classes_of p.items) i g in let l = are.long in absurd (omega (arith, a, b, l))
  number_by bs e r h (Some c) g = h (take MEMBERS (mutex_members c)) (are.each i c bs g e) ∙ member_is c name

  pub number_there : (bs : List Block) → slice_get ms i ≡ Some bs → (r : Option ℕ) → ((names : List (List ℕ)) → IsPlaces names bs → r ≡ member_by (place_from 0 names name)) → r ≡ mutex_number_in (class_at p i) name
  number_there bs e r h = number_by bs e r h (class_at p i) refl

  pub number_none : slice_get ms i ≡ None → None ≡ mutex_number_in (class_at p i) name
  number_none e = let a = past ms i e in let l = are.long in sym (ap (λ (o : Option Class). mutex_number_in o name) (beyond (classes_of p.items) i (omega (arith, a, l))))

-- a mutex member, by its signature

pub signed : (p : Program) (o : Option Class) (s : Sig) → (is_plain s.role && is_some (mutex_number_in o s.name)) ≡ has_number_in p o s
signed p None s = and_none (is_plain s.role)
  where
    and_none : (b : Bool) → (b && false) ≡ false
    and_none true = refl
    and_none false = refl
signed p (Some c) s = refl
