-- Executions that are left at a home, changed, exchanged, or no more.
use Rattle.std.proofs.Common.{◌≡◌, ℕ, List, Option, Some, None, sym, ap, ◌∙◌, get_or}
use Rattle.std.specs.Prelude.{slice_set}
use Rattle.uc_machine.specs.Executions.{Links, Execution, joined, update, frames_by, frames_changed}
use Rattle.uc_entry.specs.Keyed.{find}
use Rattle.uc_machine.specs.Switches.{slot_set, slot_gone, links_by, links_changed}
use Rattle.uc_frames.specs.declared.cell.Cell.{Cell}
use Rattle.uc_frames.specs.Machine.{Members}
use Rattle.uc_frames.specs.Numbered.{IsAt}
use Rattle.uc_frames.proofs.Positions.{update_none, without_none, set_is, set_same, joined_is}

abbrev Slot : Type 0
Slot = Option (Execution ℕ Cell)

with_parked : (m : Members) (ps qs : List (ℕ × Slot)) → ps ≡ qs → (let r : Members = record m { parked = ps } in r) ≡ record m { parked = qs }
with_parked m ps qs e = ap (λ (l : List (ℕ × Slot)). let r : Members = record m { parked = l } in r) e

module _ (k : ℕ) (m : Members) where
  pub slot_none : (x : Slot) → find k m.parked ≡ None → m ≡ slot_set k x m
  slot_none x e = with_parked m _ _ (sym (update_none k m.parked x e))

  pub gone_none : find k m.parked ≡ None → m ≡ slot_gone k m
  gone_none e = with_parked m _ _ (sym (without_none k m.parked e))

  pub links_absent : (g : Links → Links) → find k m.parked ≡ None → m ≡ links_changed g k m
  links_absent g e = sym (ap (λ x. links_by g k (joined x) m) e)

  module _ (i : ℕ) (h : IsAt k m.parked i) (p : ℕ × Slot) (e : p ≡ get_or m.parked i p) where
    pub slot_there : (x y : Slot) → x ≡ y → (let r : Members = record m { parked = slice_set m.parked i (p.0, x) } in r) ≡ slot_set k y m
    slot_there x y q = with_parked m _ _ (set_is k m.parked i h p e x ∙ ap (λ z. update k z m.parked) q)

    pub joined_there : joined (find k m.parked) ≡ p.1
    joined_there = joined_is k m.parked i h p e

    pub links_none : (g : Links → Links) → p.1 ≡ None → (let r : Members = record m { parked = slice_set m.parked i (p.0, p.1) } in r) ≡ links_changed g k m
    links_none g q =
        with_parked m _ _ (set_same m.parked i p e h.within) ∙ sym (ap (λ x. links_by g k x m) (joined_there ∙ q))

    pub links_there : (g : Links → Links) (x y : Execution ℕ Cell) → p.1 ≡ Some x → y ≡ record x { links = g x.links } → (let r : Members = record m { parked = slice_set m.parked i (p.0, Some y) } in r) ≡ links_changed g k m
    links_there g x y q s = slot_there (Some y) (Some (record x { links = g x.links })) (ap Some s) ∙ sym (ap (λ z. links_by g k z m) (joined_there ∙ q))

    pub frames_none : (g : List (List Cell) → List (List Cell)) → p.1 ≡ None → (let r : Members = record m { parked = slice_set m.parked i (p.0, p.1) } in r) ≡ frames_changed k g m
    frames_none g q =
        with_parked m _ _ (set_same m.parked i p e h.within) ∙ sym (ap (λ x. frames_by k g x m) (joined_there ∙ q))

    pub frames_there : (g : List (List Cell) → List (List Cell)) (x y : Execution ℕ Cell) → p.1 ≡ Some x → y ≡ record x { frames = g x.frames } → (let r : Members = record m { parked = slice_set m.parked i (p.0, Some y) } in r) ≡ frames_changed k g m
    frames_there g x y q s = slot_there (Some y) (Some (record x { frames = g x.frames })) (ap Some s) ∙ sym (ap (λ z. frames_by k g z m) (joined_there ∙ q))

  pub frames_absent : (g : List (List Cell) → List (List Cell)) → find k m.parked ≡ None → m ≡ frames_changed k g m
  frames_absent g e = sym (ap (λ z. frames_by k g (joined z) m) e)
