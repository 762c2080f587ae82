use Rattle.std.proofs.Common.{◌≡◌, List, [], ◌∷◌, ◌++◌, ◌+◌, drop, refl}
use Rattle.uc_tree.specs.Numbering.{item_texts}
use Rattle.uc_tree.specs.Statements.{OutItem, Endl, Literal, Printed}
use Rattle.uc_numbering.proofs.Put.{turned, ended}
use Rattle.uc_numbering.proofs.texts.push_items.Goals as goal

first_text : (x : OutItem) (xs : List OutItem) → item_texts (x ∷ xs) ≡ item_texts (x ∷ []) ++ item_texts xs
first_text (Endl p) xs = refl
first_text (Literal p text) xs = refl
first_text (Printed p value) xs = refl

pub loop-item-preserved : goal.loop-item-preserved
loop-item-preserved c = turned item_texts c.args.items.now c.loop-item.item-index c.item-item.result (item_texts (c.item-item.result ∷ [])) c.loop-item.found.items c.push_item.new.found.items _ c.loop-item-test.true c.item-item.is (first_text c.item-item.result (drop (c.loop-item.item-index + 1) c.args.items.now)) c.in_ok-push_item.ensures c.loop-item.invariant

pub returns : goal.returns
returns c = ended item_texts c.args.items.now c.loop-item.item-index c.loop-item.found.items _ refl c.loop-item-test.false c.loop-item.invariant
