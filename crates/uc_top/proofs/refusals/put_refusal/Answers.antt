use Rattle.std.proofs.Common.{◌≡◌, List, ℕ, refl, sym, ap, ◌∙◌, subst, codes}
use Rattle.uc_outside.specs.Taking.{SinkState, Took}
use Rattle.uc_top.specs.declared.refusals.Refusal.{Refusal}
use Rattle.uc_top.specs.Refusals.{refusal_text, err_line}
use Rattle.uc_top.proofs.refusals.put_refusal.Goals as goal

-- what was put is the text of this refusal
said : {a b : SinkState} (r s : Refusal) (name text : List ℕ) → r ≡ s → refusal_text s name ≡ text → Took a b text → Took a b (refusal_text r name)
said {a} {b} r s name text e f t = subst (Took a b) (sym (ap (λ x. refusal_text x name) e ∙ f)) t

pub returns-in_ok-put_line-in-CannotRead-clause-ok :
    goal.returns-in_ok-put_line-in-CannotRead-clause-ok
returns-in_ok-put_line-in-CannotRead-clause-ok g c =
    said c.args.refusal _ c.args.name.now _ c.in-CannotRead.is (ap (err_line (codes "cannot read ")) (sym c.as_bytes-in-CannotRead.ensures.value)) c.in_ok-put_line-in-CannotRead.ensures.ok

pub returns-in_ok-put_line-in-TooLong-clause-ok : goal.returns-in_ok-put_line-in-TooLong-clause-ok
returns-in_ok-put_line-in-TooLong-clause-ok g c =
    said c.args.refusal _ c.args.name.now _ c.in-TooLong.is (ap (err_line (codes "too long ")) (sym c.as_bytes-in-TooLong.ensures.value)) c.in_ok-put_line-in-TooLong.ensures.ok

pub returns-in_ok-put_line-in-NoMemory-clause-ok :
    goal.returns-in_ok-put_line-in-NoMemory-clause-ok
returns-in_ok-put_line-in-NoMemory-clause-ok g c =
    said c.args.refusal _ c.args.name.now _ c.in-NoMemory.is refl c.in_ok-put_line-in-NoMemory.ensures.ok

pub returns-in_ok-put_line-in-FrameTooLarge-clause-ok :
    goal.returns-in_ok-put_line-in-FrameTooLarge-clause-ok
returns-in_ok-put_line-in-FrameTooLarge-clause-ok g c =
    said c.args.refusal _ c.args.name.now _ c.in-FrameTooLarge.is refl c.in_ok-put_line-in-FrameTooLarge.ensures.ok

pub returns-in_ok-put_line-in-CodeTooLarge-clause-ok :
    goal.returns-in_ok-put_line-in-CodeTooLarge-clause-ok
returns-in_ok-put_line-in-CodeTooLarge-clause-ok g c =
    said c.args.refusal _ c.args.name.now _ c.in-CodeTooLarge.is refl c.in_ok-put_line-in-CodeTooLarge.ensures.ok

pub returns-in_ok-put_line-in-BadLine-clause-ok : goal.returns-in_ok-put_line-in-BadLine-clause-ok
returns-in_ok-put_line-in-BadLine-clause-ok g c =
    said c.args.refusal _ c.args.name.now _ c.in-BadLine.is (ap (err_line (codes "journal line ")) (sym (c.as_bytes-in-BadLine.ensures.value ∙ c.format-in-BadLine.ensures.text))) c.in_ok-put_line-in-BadLine.ensures.ok
