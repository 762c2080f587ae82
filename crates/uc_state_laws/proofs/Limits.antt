-- The frames of the source of a program within its limits are no larger than a number.
use Rattle.std.proofs.Common.{◌≡◌, ◌≤◌, ◌+◌, ℕ, zero, suc, List, [], ◌∷◌, ◌++◌, length, Some, refl, arith}
use Rattle.std.specs.Prelude.{slice_get}
use Rattle.uc_tree.specs.declared.limits.TheConstants.{FRAME_CELLS, PROGRAM_SIZE}
use Rattle.uc_tree.specs.declared.kinds.Owner.{Owner}
use Rattle.uc_tree.specs.declared.kinds.Owner.TheVariants as owner
use Rattle.uc_tree.specs.Cells.{routine_cells}
use Rattle.uc_tree.specs.Gathered.{gathered_all}
use Rattle.uc_tree.specs.Numbering.{Defined, defined_by, form_defined, members_defined, item_defined, items_defined, routines_of, own_sites, own_texts}
use Rattle.uc_tree.specs.Objects.{Unwritten, unwritten_of}
use Rattle.uc_tree.specs.Programs as whole
use Rattle.uc_tree.specs.Programs.{Item, Member, MemberForm, Program}
use Rattle.uc_tree.specs.Sizes.{routine_size, member_form_size, members_size, item_size, items_size}
use Rattle.uc_tree.specs.Source.{Routine}
use Rattle.uc_resolve.specs.Resolve as meaning
use Rattle.uc_resolve.specs.Resolve.{source_of}
use Rattle.uc_state_laws.specs.FrameSizes.{RoutineFits, SourceFits}
use Rattle.uc_state_laws.specs.Limits.{MOST_CELLS, LawLimits}
use Rattle.uc_state_laws.proofs.HiddenLemmas.{few_in_all}

-- the sizes of routines are at most that of the program

abbrev AllSmall : ℕ → List Defined → Type 0
AllSmall n [] = Unit {0}
AllSmall n (d ∷ ds) = (routine_size d.routine ≤ n) × AllSmall n ds

wider : (n m : ℕ) (ds : List Defined) → n ≤ m → AllSmall n ds → AllSmall m ds
wider n m [] l h = tt
wider n m (d ∷ ds) l h = let k : routine_size d.routine ≤ n = h.0 in (omega (arith, k, l), wider n m ds l h.1)

both : (n : ℕ) (ds es : List Defined) → AllSmall n ds → AllSmall n es → AllSmall n (ds ++ es)
both n [] es h k = k
both n (d ∷ ds) es h k = (h.0, both n ds es h.1 k)

module _ (p : Program) where
  form_small : (name : List ℕ) (m : MemberForm) → AllSmall (member_form_size m) (form_defined p name m)
  form_small name (whole.FieldsMember at b ds) = tt
  form_small name (whole.RoutineMember r) = (omega arith, tt)
  form_small name (whole.ProtoMember sig) = tt

  members_small : (name : List ℕ) (ms : List Member) → AllSmall (members_size ms) (members_defined p name ms)
  members_small name [] = tt
  members_small name (m ∷ ms) =
      both (members_size (m ∷ ms)) (form_defined p name m.form) (members_defined p name ms) (wider (member_form_size m.form) (members_size (m ∷ ms)) (form_defined p name m.form) (omega arith) (form_small name m.form)) (wider (members_size ms) (members_size (m ∷ ms)) (members_defined p name ms) (omega arith) (members_small name ms))

  by_owner : (o : Owner) (r : whole.Routine) (n : ℕ) → routine_size r ≤ n → AllSmall n (defined_by p o r ∷ [])
  by_owner owner.Here r n l = (l, tt)
  by_owner owner.Main r n l = (l, tt)
  by_owner (owner.Class name) r n l = (l, tt)

  item_small : (i : Item) → AllSmall (item_size i) (item_defined p i)
  item_small (whole.ClassItem c) = wider (members_size c.members) (1 + members_size c.members) (members_defined p c.name c.members) (omega arith) (members_small c.name c.members)
  item_small (whole.RoutineItem r) = by_owner r.sig.owner r (1 + routine_size r) (omega arith)
  item_small (whole.ConstItem c) = tt
  item_small (whole.ProtoItem sig) = tt
  item_small (whole.ForwardItem f) = tt
  item_small (whole.UsingItem at) = tt

  items_small : (is : List Item) → AllSmall (items_size is) (items_defined p is)
  items_small [] = tt
  items_small (i ∷ is) =
      both (items_size (i ∷ is)) (item_defined p i) (items_defined p is) (wider (item_size i) (items_size (i ∷ is)) (item_defined p i) (omega arith) (item_small i)) (wider (items_size is) (items_size (i ∷ is)) (items_defined p is) (omega arith) (items_small is))

  -- all routines of the source

  abbrev AllFit : List Routine → Type 0
  AllFit [] = Unit {0}
  AllFit (r ∷ rs) = RoutineFits MOST_CELLS r × AllFit rs

  both_fit : (rs us : List Routine) → AllFit rs → AllFit us → AllFit (rs ++ us)
  both_fit [] us h k = k
  both_fit (r ∷ rs) us h k = (h.0, both_fit rs us h.1 k)

  by_number : (rs : List Routine) → AllFit rs → SourceFits MOST_CELLS (record { routines = rs; main = 0; classes = []; sites = []; texts = [] })
  by_number [] h n = tt
  by_number (r ∷ rs) h zero = h.0
  by_number (r ∷ rs) h (suc n) = by_number rs h.1 n

  one_fits : (d : Defined) (number texts sites : ℕ) → routine_cells p d.routine ≤ FRAME_CELLS → routine_size d.routine ≤ PROGRAM_SIZE → RoutineFits MOST_CELLS (meaning.routine_meant p d.routine (meaning.routine_scope p d.routine (meaning.place_by p d) number texts sites))
  one_fits d number texts sites cells size =
      let few = few_in_all d.routine.body in
      record { cells = omega (arith, cells, size, few); params = omega (arith, size) }

  written : (ds : List Defined) (number texts sites : ℕ) → ((n : ℕ) (d : Defined) → slice_get ds n ≡ Some d → routine_cells p d.routine ≤ FRAME_CELLS) → AllSmall PROGRAM_SIZE ds → AllFit (meaning.routines_meant p ds number texts sites)
  written [] number texts sites each h = tt
  written (d ∷ ds) number texts sites each h =
      (one_fits d number texts sites (each 0 d refl) h.0, written ds (number + 1) (texts + length (gathered_all own_texts d.routine.body)) (sites + length (gathered_all (own_sites d.class d.number) d.routine.body)) (λ n x e. each (suc n) x e) h.1)

  unwritten : (us : List Unwritten) → AllFit (meaning.all_unwritten p us)
  unwritten [] = tt
  unwritten (u ∷ us) = (record { cells = omega arith; params = omega arith }, unwritten us)

pub law_limits : LawLimits
law_limits p h n =
    let size = h.size in
    by_number p (source_of p).routines (both_fit p (meaning.routines_meant p (routines_of p) 0 0 0) (meaning.all_unwritten p (unwritten_of p)) (written p (routines_of p) 0 0 0 h.frames (wider (items_size p.items) PROGRAM_SIZE (routines_of p) (omega (arith, size)) (items_small p p.items))) (unwritten p (unwritten_of p))) n
