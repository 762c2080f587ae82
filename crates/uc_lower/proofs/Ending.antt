-- The routines of a program are laid out, one after another, until the program's code is whole.
use Rattle.std.proofs.Common.{◌≡◌, ℕ, zero, suc, ◌+◌, ◌*◌, ◌≤◌, ◌<◌, ◌&&◌, Bool, true, false, List, [], ◌∷◌, ◌++◌, Some, None, if◌then◌else◌, length, map, take, get_or, take_all, nat_eq, refl, ap, sym, subst, ◌∙◌, arith, ◌⊎◌, inl, inr, ◌≢◌, true≢false}
use Rattle.std.specs.Prelude.{slice_get, slice_set}
use Rattle.std.proofs.lemmas.Bool.{and_parts, cases_eq, ne_eqb}
use Rattle.std.proofs.lemmas.List.{length-map}
use Rattle.uc_tree.specs.declared.limits.TheConstants.{FRAME_CELLS, OPS_FOR_SIZE, PROGRAM_OPS, PROGRAM_SIZE}
use Rattle.uc_tree.specs.declared.kinds.Owner.{Owner}
use Rattle.uc_tree.specs.declared.kinds.Owner.TheVariants as owner
use Rattle.uc_tree.specs.declared.site.Site.{Site}
use Rattle.uc_tree.specs.Cells.{routine_cells}
use Rattle.uc_tree.specs.Gathered.{gathered_all}
use Rattle.uc_tree.specs.Numbering.{Defined, is_plain, defined_by, item_defined, items_defined, main_name, own_texts, own_sites, routines_of, sites_of, texts_of}
use Rattle.uc_tree.specs.Names.{same_name}
use Rattle.uc_tree.specs.Objects.{Unwritten, unwritten_of}
use Rattle.uc_tree.specs.ProgramMain.{is_main_item, is_main_sig, main_among, main_number, no_params, returns_as_main}
use Rattle.uc_tree.specs.Programs.{Routine, Item, ClassItem, RoutineItem, ConstItem, ProtoItem, ForwardItem, UsingItem, Program, Sig}
use Rattle.uc_resolve.specs.Resolve.{all_classes, all_unwritten, is_main, place_by, routine_scope, routine_meant, routines_meant, source_of}
use Rattle.uc_tree.specs.Sizes.{program_size}
use Rattle.uc_tree.specs.Source as source
use Rattle.uc_tree.specs.StatementSizes.{stmts_size}
use Rattle.uc_rules.specs.Breaks.{breaks_of}
use Rattle.uc_code.specs.declared.rows.RoutineCode.{RoutineCode}
use Rattle.uc_code.specs.Codes.{Code}
use Rattle.uc_code.specs.Drafts.{Draft}
use Rattle.uc_code.specs.Layout.{Laid, laid_of, laid_in}
use Rattle.uc_code.specs.Lowered.{RoutineAt, RoutinesAt, Lowered}
use Rattle.uc_code.specs.CodeShapes.{Kept}
use Rattle.uc_numbering.specs.declared.routines.Defined.{Defined as Found}
use Rattle.uc_numbering.specs.Routines.{defined_at}
use Rattle.uc_lower_stmt.specs.Routines.{frame_cells}
use Rattle.uc_lower.specs.RoutineLayout.{BeginBefore, Lays, LaysAll, defined_sites, defined_texts, last_of, own_room, routine_room, unwritten_rooms}
use Rattle.uc_lower.specs.Refusals.{Fits}
use Rattle.uc_lower.proofs.SiteLemmas.{stmts_alike}
use Rattle.uc_lower.proofs.Costs.{own_few, own_size, owns, owns_push, size_split}
use Rattle.uc_lower.proofs.RoutineLayoutLemmas.{lays_step, room_within, rooms_within, sites_push, taken_more, texts_push, within}
use Rattle.uc_lower.proofs.Rooms.{rooms_fit}
use Rattle.uc_lower.proofs.Silence.{silent_behind}
use Rattle.uc_code.specs.declared.rows.HandlerRow.{HandlerRow}
use Rattle.uc_code.specs.OpenRows.{AreEnded}
use Rattle.uc_lower_stmt.specs.RowFit.{RoutineRows}
use Rattle.uc_lower.specs.RowRanges.{HasRows}
use Rattle.uc_lower_stmt.specs.SourceRows.{routine_rows, routines_rows, source_rows}

-- a routine that was found is that of the program

at_mapped : (ds : List Found) (i : ℕ) (d : Found) → i < length ds → d ≡ get_or ds i d → slice_get (map defined_at ds) i ≡ Some (defined_at d)
at_mapped [] i d h e = absurd (omega arith)
at_mapped (x ∷ xs) zero d h e = ap (λ k. Some (defined_at k)) (sym e)
at_mapped (x ∷ xs) (suc i) d h e = at_mapped xs i d (omega arith) e

pub found_at : (ds : List Found) (rs : List Defined) (i : ℕ) (d : Found) → map defined_at ds ≡ rs → i < length ds → d ≡ get_or ds i d → slice_get rs i ≡ Some (defined_at d)
found_at ds rs i d m h e = ap (λ l. slice_get l i) (sym m) ∙ at_mapped ds i d h e

pub as_many : (ds : List Found) (rs : List Defined) → map defined_at ds ≡ rs → length rs ≡ length ds
as_many ds rs m = ap length (sym m) ∙ length-map ds defined_at

-- what is asked of the next routine

-- main is called `main`, and is no constructor and no destructor

sig_named : (p : Program) (s : Sig) → is_main_sig s ≡ true → is_main p s ≡ true
sig_named p s e =
    let a = and_parts (returns_as_main s.owner s.ret) (same_name s.name main_name && (is_plain s.role && no_params s.params)) e in
    let b = and_parts (same_name s.name main_name) (is_plain s.role && no_params s.params) a.1 in
    let plain = (and_parts (is_plain s.role) (no_params s.params) b.1).0 in
    ap (λ (t : Bool). t && same_name s.name main_name) plain ∙ b.0

owned_alone : (p : Program) (o : Owner) (r : Routine) → (defined_by p o r).routine ≡ r
owned_alone p owner.Here r = refl
owned_alone p owner.Main r = refl
owned_alone p (owner.Class name) r = refl

first_named : (p : Program) (i : Item) (rest : List Defined) (x : Defined) → is_main_item i ≡ true → slice_get (item_defined p i ++ rest) 0 ≡ Some x → is_main p x.routine.sig ≡ true
first_named p (ClassItem c) rest x m e = cc
first_named p (RoutineItem r) rest x m e =
    let is : defined_by p r.sig.owner r ≡ x = cc in
    ap (λ (y : Defined). is_main p y.routine.sig) (sym is) ∙ ap (λ (y : Routine). is_main p y.sig) (owned_alone p r.sig.owner r) ∙ sig_named p r.sig m
first_named p (ConstItem c) rest x m e = cc
first_named p (ProtoItem c) rest x m e = cc
first_named p (ForwardItem c) rest x m e = cc
first_named p (UsingItem c) rest x m e = cc

get_behind : (xs ys : List Defined) (k : ℕ) → slice_get (xs ++ ys) (length xs + k) ≡ slice_get ys k
get_behind [] ys k = let z : 0 + k ≡ k = omega arith in ap (slice_get ys) z
get_behind (x ∷ xs) ys k = let z : suc (length xs) + k ≡ suc (length xs + k) = omega arith in ap (slice_get (x ∷ (xs ++ ys))) z ∙ get_behind xs ys k

main_named_in : (p : Program) (is : List Item) (x : Defined) → slice_get (items_defined p is) (main_among p is) ≡ Some x → is_main p x.routine.sig ≡ true
main_named_in p [] x e = cc
main_named_in p (i ∷ is) x e = by_case (is_main_item i) refl (main_named_in p is x) e
  where
    by_case : (b : Bool) → is_main_item i ≡ b → (slice_get (items_defined p is) (main_among p is) ≡ Some x → is_main p x.routine.sig ≡ true) → slice_get (item_defined p i ++ items_defined p is) (if b then 0 else length (item_defined p i) + main_among p is) ≡ Some x → is_main p x.routine.sig ≡ true
    by_case true m more e = first_named p i (items_defined p is) x m e
    by_case false m more e = more (sym (get_behind (item_defined p i) (items_defined p is) (main_among p is)) ∙ e)

main_named : (p : Program) (i : ℕ) (x : Defined) → slice_get (routines_of p) i ≡ Some x → nat_eq i (main_number p) ≡ true → (i ≡ main_number p) ⊎ (i ≢ main_number p) → is_main p x.routine.sig ≡ true
main_named p i x e b (inl is) = main_named_in p p.items x (ap (slice_get (routines_of p)) (sym is) ∙ e)
main_named p i x e b (inr n) = absurd (true≢false (sym b ∙ ne_eqb i (main_number p) n))

-- what is no plain routine is not main
pub not_main : (p : Program) (main : Bool) (s : Sig) → (main ≡ true → is_main p s ≡ true) → is_plain s.role ≡ false → main ≡ false
not_main p true s h e = absurd (true≢false (sym (and_parts (is_plain s.role) (same_name s.name main_name) (h refl)).0 ∙ e))
not_main p false s h e = refl

-- so many routines stand, and are counted
pub record Stands (p : Program) (all i t s : ℕ) (out : Draft) : Type 0 where
  pub lays : Lays p (routines_of p) all i out
  pub texts : t ≡ defined_texts (take i (routines_of p))
  pub few : t ≤ owns (take i (routines_of p))
  pub sites : s ≡ defined_sites (take i (routines_of p))

pub record Follows (p : Program) (t i : ℕ) (x : Defined) (out : Draft) : Type 0 where
  pub named : nat_eq i (main_number p) ≡ true → is_main p x.routine.sig ≡ true
  pub known : i < length out.routines
  pub room : length out.ops + routine_room p x ≤ PROGRAM_OPS
  pub cells : routine_cells p x.routine ≤ FRAME_CELLS
  pub texts : t + stmts_size x.routine.body ≤ PROGRAM_SIZE
  pub params : length x.routine.sig.params ≤ PROGRAM_SIZE

pub follows : (p : Program) (all i texts sites : ℕ) (x : Defined) (out : Draft) → breaks_of p ≡ [] → Fits p → length (routines_of p) ≤ all → slice_get (routines_of p) i ≡ Some x → Stands p all i texts sites out → Follows p texts i x out
follows p all i texts sites x out none f enough at h =
    let few = room_within p (routines_of p) i x at in
    let fit = rooms_fit p none in
    let own = own_few (routines_of p) i x at in
    let split = size_split p in
    let size = f.size in
    let room = h.lays.room in
    let table : length out.routines ≡ all = h.lays.table in
    let there : i < length (routines_of p) = within (routines_of p) i x at in
    let counted = h.few in
    record {
      named = λ e. main_named p i x at e (cases_eq i (main_number p));
      known = omega (arith, table, there, enough);
      room = omega (arith, few, fit, size, room);
      cells = f.frames.each i x at;
      texts = omega (arith, own, split, size, counted);
      params = omega (arith, own, split, size);
    }

pub stands_none : (p : Program) (all : ℕ) (d : Draft) → Lays p (routines_of p) all 0 d → Stands p all 0 0 0 d
stands_none p all d h = record { lays = h; texts = no_texts (routines_of p); few = omega arith; sites = no_sites (routines_of p) }
  where
    no_texts : (ds : List Defined) → 0 ≡ defined_texts (take 0 ds)
    no_texts [] = refl
    no_texts (x ∷ xs) = refl

    no_sites : (ds : List Defined) → 0 ≡ defined_sites (take 0 ds)
    no_sites [] = refl
    no_sites (x ∷ xs) = refl

pub stands_next : (p : Program) (all i texts sites : ℕ) (x : Defined) (old new : Draft) → length (routines_of p) ≤ all → slice_get (routines_of p) i ≡ Some x → Stands p all i texts sites old
    → Kept (laid_in old) (laid_in new) → length new.rows ≡ length old.rows + routine_rows (routine_meant p x.routine (routine_scope p x.routine (place_by p x) i texts sites)) → RoutineRows old new → length new.ops ≤ length old.ops + routine_room p x
    → RoutineAt (laid_in new) (last_of (routines_of p)) i (routine_meant p x.routine (routine_scope p x.routine (place_by p x) i texts sites)) (record { entry = length old.ops; cells = frame_cells p x.routine; params = length x.routine.sig.params; written = true }) (length old.ops) (length new.ops)
    → new.routines ≡ slice_set old.routines i (record { entry = length old.ops; cells = frame_cells p x.routine; params = length x.routine.sig.params; written = true }) → new.marks ≡ []
    → new.texts ≡ texts + length (gathered_all own_texts x.routine.body) → new.texts ≤ texts + stmts_size x.routine.body → new.sites ≡ sites + length (gathered_all (own_sites None 0) x.routine.body)
    → Stands p all (i + 1) new.texts new.sites new
stands_next p all i texts sites x old new enough at h k more rr r c w marks te tf se =
    let split : take (i + 1) (routines_of p) ≡ take i (routines_of p) ++ x ∷ [] = taken_more (routines_of p) i x at in
    let t : defined_texts (take (i + 1) (routines_of p)) ≡ defined_texts (take i (routines_of p)) + length (gathered_all own_texts x.routine.body) = ap defined_texts split ∙ texts_push (take i (routines_of p)) x in
    let s : owns (take (i + 1) (routines_of p)) ≡ owns (take i (routines_of p)) + (1 + own_size x.routine) = ap owns split ∙ owns_push (take i (routines_of p)) x in
    let u : defined_sites (take (i + 1) (routines_of p)) ≡ defined_sites (take i (routines_of p)) + length (gathered_all (own_sites x.class x.number) x.routine.body) = ap defined_sites split ∙ sites_push (take i (routines_of p)) x in
    let alike : length (gathered_all (own_sites x.class x.number) x.routine.body) ≡ length (gathered_all (own_sites None 0) x.routine.body) = stmts_alike x.class x.number x.routine.body in
    let there : i < length (routines_of p) = within (routines_of p) i x at in
    let ht = h.texts in
    let hf = h.few in
    let hs = h.sites in
    record {
      lays = lays_step p (routines_of p) all i texts sites x old new at (omega (arith, there, enough)) h.lays h.texts h.sites k more rr r c w marks;
      texts = te ∙ ap (λ (n : ℕ). n + length (gathered_all own_texts x.routine.body)) ht ∙ sym t;
      few = omega (arith, s, hf, tf);
      sites = omega (arith, se, hs, u, alike);
    }

-- the room of one that nobody wrote
pub unwritten_fits : (p : Program) (all i : ℕ) (u : Unwritten) (out : Draft) → breaks_of p ≡ [] → Fits p → slice_get (unwritten_of p) i ≡ Some u → LaysAll p (routines_of p) (unwritten_of p) all i out → length out.ops + own_room p u ≤ PROGRAM_OPS
unwritten_fits p all i u out none f at h =
    let few = rooms_within p (unwritten_of p) i u at in
    let fit = rooms_fit p none in
    let size = f.size in
    let room = h.room in
    omega (arith, few, fit, size, room)

-- the code of the program is whole

pub whole : (p : Program) (all count : ℕ) (new : Draft) (sites : List Site) (texts : List (List ℕ)) (classes : List ℕ) (code : Code) → count ≡ length (unwritten_of p) → all ≡ length (routines_of p) + count → LaysAll p (routines_of p) (unwritten_of p) all count new → sites ≡ sites_of p → texts ≡ texts_of p → classes ≡ map (λ (c : source.Class). c.cells) (all_classes p)
    → code ≡ record { ops = new.ops; rows = new.rows; sites = sites; texts = texts; routines = new.routines; classes = classes } → Lowered (source_of p) code
whole p all count new sites texts classes code n m h se te le ce =
    let laid : laid_in new ≡ laid_of code = ap laid_of (sym ce) in
    let table : length new.routines ≡ all = h.table in
    let us : take count (unwritten_of p) ≡ unwritten_of p = take_all count (unwritten_of p) (omega (arith, n)) in
    let rows : take (length (routines_of p) + count) new.routines ≡ code.routines = take_all (length (routines_of p) + count) new.routines (omega (arith, m, table)) ∙ ap (λ (x : Code). x.routines) (sym ce) in
    let at : RoutinesAt (laid_in new) (last_of (routines_of p)) 0 (source_of p).routines code.routines 0 (length new.ops) =
    subst (λ (k : List RoutineCode). RoutinesAt (laid_in new) (last_of (routines_of p)) 0 (source_of p).routines k 0 (length new.ops)) rows (
    subst (λ (k : List Unwritten). RoutinesAt (laid_in new) (last_of (routines_of p)) 0 (routines_meant p (routines_of p) 0 0 0 ++ all_unwritten p k) (take (length (routines_of p) + count) new.routines) 0 (length new.ops)) us h.code) in
    record {
      last = last_of (routines_of p);
      silent = silent_behind p;
      routines = subst (λ (x : Laid). RoutinesAt x (last_of (routines_of p)) 0 (source_of p).routines code.routines 0 (length x.ops)) laid at;
      classes = ap (λ (x : Code). x.classes) ce ∙ le;
      sites = ap (λ (x : Code). x.sites) ce ∙ se;
      texts = ap (λ (x : Code). x.texts) ce ∙ te;
    }

pub whole_few : (p : Program) (all count : ℕ) (new : Draft) (sites : List Site) (texts : List (List ℕ)) (classes : List ℕ) (code : Code) → breaks_of p ≡ [] → count ≡ length (unwritten_of p) → LaysAll p (routines_of p) (unwritten_of p) all count new
    → code ≡ record { ops = new.ops; rows = new.rows; sites = sites; texts = texts; routines = new.routines; classes = classes } → length code.ops ≤ OPS_FOR_SIZE * program_size p
whole_few p all count new sites texts classes code none n h ce =
    let co : length new.ops ≡ length code.ops = ap (λ (x : Code). length x.ops) (sym ce) in
    let us : unwritten_rooms p (take count (unwritten_of p)) ≡ unwritten_rooms p (unwritten_of p) = ap (unwritten_rooms p) (take_all count (unwritten_of p) (omega (arith, n))) in
    let room = h.room in
    let fit = rooms_fit p none in
    omega (arith, co, us, room, fit)

-- there are as many rows as the source tree says
pub whole_count : (p : Program) (all count : ℕ) (new : Draft) (sites : List Site) (texts : List (List ℕ)) (classes : List ℕ) (code : Code) → count ≡ length (unwritten_of p) → LaysAll p (routines_of p) (unwritten_of p) all count new
    → code ≡ record { ops = new.ops; rows = new.rows; sites = sites; texts = texts; routines = new.routines; classes = classes } → length code.rows ≡ source_rows (source_of p)
whole_count p all count new sites texts classes code n h ce =
    ap (λ (x : Code). length x.rows) ce ∙ h.rows ∙ ap (λ (us : List Unwritten). routines_rows (routines_meant p (routines_of p) 0 0 0 ++ all_unwritten p us)) (take_all count (unwritten_of p) (omega (arith, n)))

-- each row lies among the ops

entry_of : (ops : ℕ) (rs : List HandlerRow) (n : ℕ) (r : HandlerRow) → BeginBefore ops rs → slice_get rs n ≡ Some r → r.entry < ops
entry_of ops [] n r b e = absurd (cc)
entry_of ops (q ∷ rs) zero r b e = let is : q ≡ r = cc in let i : q.entry ≡ r.entry = ap (λ (x : HandlerRow). x.entry) is in let l = b.0 in omega arith
entry_of ops (q ∷ rs) (suc n) r b e = entry_of ops rs n r b.1 e

pub whole_rows : (p : Program) (ds : List Defined) (us : List Unwritten) (all count : ℕ) (new : Draft) (sites : List Site) (texts : List (List ℕ)) (classes : List ℕ) (code : Code) → LaysAll p ds us all count new → (new.marks ≡ [] → AreEnded (length new.ops) new.rows)
    → code ≡ record { ops = new.ops; rows = new.rows; sites = sites; texts = texts; routines = new.routines; classes = classes } → HasRows code
whole_rows p ds us all count new sites texts classes code h ended ce =
    let rows = ended h.outside in
    subst (λ (c : Code). HasRows c) (sym ce) (record {
      few = h.few;
      each = λ n r e. let i = rows.each n r e in record { range = i.range; within = i.within; entry = entry_of (length new.ops) new.rows n r h.begin e; outer = i.outer };
    })
