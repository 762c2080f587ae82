use Rattle.std.proofs.Common.{◌≡◌, ◌∙◌, ℕ, List, [], ◌++◌, length, replicate, sym, ap}
use Rattle.std.proofs.lemmas.List.{drop-replicate}
use Rattle.uc_entry.specs.declared.request.TheConstants.{PRINT_ITEMS}
use Rattle.uc_entry.specs.declared.request.Piece.{Piece}
use Rattle.uc_entry.specs.declared.request.Request.{Request}
use Rattle.uc_entry.specs.declared.request.Request.TheVariants as ask
use Rattle.uc_machine.specs.Quiet.{blank}
use Rattle.uc_frames.proofs.pieces.put_print.Goals as goal

count_in : Request → ℕ
count_in (ask.Print n ps) = n
count_in _ = 0

items_in : Request → List Piece
items_in (ask.Print n ps) = ps
items_in _ = []

pub returns-in-Print : goal.returns-in-Print
unfolding count_in items_in
returns-in-Print c =
    let ps = c.args.pieces.now in
    let e : ask.Print c.in-Print.n c.in-Print.items ≡ ask.Print (length ps) (replicate PRINT_ITEMS blank) = sym c.in-Print.is ∙ c.put_blanks.ensures in
    let n : c.in-Print.n ≡ length ps = ap count_in e in
    let i : c.in-Print.items ≡ replicate PRINT_ITEMS blank = ap items_in e in
    rw (c.put_items.ensures, n, i) (ap (λ (t : List Piece). let r : Request = ask.Print (length ps) (ps ++ t) in r) (drop-replicate (length ps) PRINT_ITEMS blank))
