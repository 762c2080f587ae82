-- What is known of a program whose cells are counted.
use Rattle.std.proofs.Common.{◌≡◌, ℕ, ℤ, List, Bool, Option, length, map, ap, subst, ◌∙◌, if◌then◌else◌, None}
use Rattle.uc_tree.specs.Capped.{capped}
use Rattle.uc_tree.specs.Programs.{Class, Constant, Program}
use Rattle.uc_tree.specs.Constants.{constants_of, value_of_name}
use Rattle.uc_tree.specs.Rows.{ClassLayout, cells_within}
use Rattle.uc_tree.specs.Cells.{classes_of, rows_of, leading_cells, members_held, has_member}
use Rattle.uc_layout.specs.Values.{value_at}
use Rattle.uc_layout.specs.FieldContents.{rows_by}
use Rattle.uc_layout.specs.ContainmentProgress.{flag_at, IsCircle, AreCircles}
use Rattle.uc_layout.specs.CellTables.{Counted}
use Rattle.uc_layout.specs.Sized.{IsSized}
use Rattle.uc_layout.proofs.ContainmentProgressLemmas.{circle_at}

-- the rows by what gives the values of names
rows_in : List Class → (List ℕ → Option ℤ) → List ClassLayout
rows_in cs named = map (λ c. record { leading = leading_cells c.kind; held = members_held cs (λ name. if has_member c name then None else named name) c.members }) cs

rows_are : (p : Program) (classes : List Class) (constants : List Constant) (values : List (Option ℤ)) → classes ≡ classes_of p.items → constants ≡ constants_of p.items → value_at constants values ≡ value_of_name constants → rows_by classes constants values ≡ rows_of p
unfolding rows_in
rows_are p classes constants values a b v =
    let named : value_at constants values ≡ value_of_name (constants_of p.items) = v ∙ ap (λ l. value_of_name l) b in
    ap (λ f. rows_in classes f) named ∙ ap (λ cs. rows_in cs (value_of_name (constants_of p.items))) a

pub sized : (p : Program) (classes : List Class) (constants : List Constant) (values : List (Option ℤ)) (rows : List ClassLayout) (circles : List Bool) (cells : List ℕ) → classes ≡ classes_of p.items → constants ≡ constants_of p.items → value_at constants values ≡ value_of_name constants → rows ≡ rows_by classes constants values → length circles ≡ length rows → AreCircles rows circles (length rows) → Counted (length rows) rows cells → IsSized p classes constants values rows circles cells
sized p classes constants values rows circles cells a b v r full flags counted =
    let all : rows ≡ rows_of p = r ∙ rows_are p classes constants values a b v in
    record {
      classes_are = a;
      constants_are = b;
      values_are = v;
      rows_are = all;
      circles_are = λ i. subst (λ rs. IsCircle rs i (flag_at circles i)) all (circle_at rows circles full flags i);
      cells_are = λ i. counted.at i ∙ ap (λ rs. capped (cells_within (length rs) rs i)) all;
    }
