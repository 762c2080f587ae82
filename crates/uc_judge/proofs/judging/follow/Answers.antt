use Rattle.std.proofs.Common.{◌≡◌, ℕ, ◌-◌, List, refl, ap, sym, ◌∙◌, subst, arith, length, take, drop}
use Rattle.uc_entry.specs.declared.entry.Entry.{Entry}
use Rattle.uc_judge.specs.Compared.{GoesAs, TurnsOff}
use Rattle.uc_judge.proofs.Compares.{takes_all}
use Rattle.std.specs.List.{All}
use Rattle.std.proofs.lemmas.List.{length-drop}
use Rattle.std.proofs.lemmas.List.Elements.{All-drop}
use Rattle.uc_acts.specs.Journal.{is_over}
use Rattle.uc_acts.specs.Serves.{left}
use Rattle.uc_judge.specs.Changes.{told_of}
use Rattle.uc_judge.specs.Narrow.{IsTold}
use Rattle.uc_judge.specs.Runs.{cause_of, GoesWrong, IsVerdict}
use Rattle.uc_judge.proofs.Steps.{advances, going_from, asked_here, silent_here, off_here, same_here, no_request, wrong_from, end_from, stand_from, from_within, new_within, place_within, here_within}
use Rattle.uc_judge.proofs.judging.follow.Goals as goal

-- a part up to the end of a list
part : (z : List Entry) (n : ℕ) → take (length z - n) (drop n z) ≡ drop n z
part z n = let l = length-drop n z in takes_all (drop n z) (length z - n) (omega (arith, l))

pub act-requires-clause-ledger : goal.act-requires-clause-ledger
act-requires-clause-ledger g c = c.requires.ready.ledger

pub act-requires-clause-few : goal.act-requires-clause-few
act-requires-clause-few g c = let n = here_within c.requires.ready in omega (arith, n)

pub act-requires-clause-short : goal.act-requires-clause-short
act-requires-clause-short g c = c.requires.short

pub act-requires-clause-whole : goal.act-requires-clause-whole
act-requires-clause-whole g c =
    g.met.A.Asks.whole _ _ _ _ _ _ (asked_here g.A.Asks.asks c.left-quantum.result c.in-Some.walked refl c.in-Some.is c.in_ok-walked.ensures)

pub behind-made-requires : goal.behind-made-requires
behind-made-requires g c =
    let l = c.args.ledger.now.entries.ok.0 in
    let i = c.len-from.ensures in
    let at : c.len-from.result ≡ length c.args.ledger.now.entries.items = omega (arith, l, i) in
    from_within c.act.new.self c.args.input.now c.args.processor c.args.task c.in-Some.walked.ticks c.in-Some.walked.asked c.requires.ready at c.in_ok-act-in-Some.ensures.entries

pub overflow_add-result : goal.overflow_add-result
overflow_add-result g c =
    let l = c.args.ledger.now.entries.ok.0 in
    let i = c.len-from.ensures in
    let at : c.len-from.result ≡ length c.args.ledger.now.entries.items = omega (arith, l, i) in
    let off = off_here c.in-Some-first_other.n c.behind-made.ensures c.in-Some-first_other.is c.first_other.ensures in
    let n = place_within c.act.new.self c.args.input.now c.args.processor c.args.task c.in-Some.walked.ticks c.in-Some.walked.asked c.requires.ready at c.in_ok-act-in-Some.ensures.entries off in
    omega (arith, n)

pub overflow_cast-result : goal.overflow_cast-result
overflow_cast-result g c =
    let l = c.args.ledger.now.entries.ok.0 in
    let i = c.len-from.ensures in
    let at : c.len-from.result ≡ length c.args.ledger.now.entries.items = omega (arith, l, i) in
    let off = off_here c.in-Some-first_other.n c.behind-made.ensures c.in-Some-first_other.is c.first_other.ensures in
    let n = place_within c.act.new.self c.args.input.now c.args.processor c.args.task c.in-Some.walked.ticks c.in-Some.walked.asked c.requires.ready at c.in_ok-act-in-Some.ensures.entries off in
    omega (arith, n)

pub ended-requires : goal.ended-requires
ended-requires g c =
    let l = c.args.ledger.now.entries.ok.0 in
    let i = c.len-from.ensures in
    let at : c.len-from.result ≡ length c.args.ledger.now.entries.items = omega (arith, l, i) in
    let n = new_within c.act.new.self c.args.input.now c.args.processor c.args.task c.in-Some.walked.ticks c.in-Some.walked.asked c.requires.ready at c.in_ok-act-in-Some.ensures.entries in
    omega (arith, n)

pub overflow_cast-result-in-None : goal.overflow_cast-result-in-None
overflow_cast-result-in-None g c =
    let l = c.args.ledger.now.entries.ok.0 in
    let i = c.len-from.ensures in
    let at : c.len-from.result ≡ length c.args.ledger.now.entries.items = omega (arith, l, i) in
    let n = here_within c.requires.ready in
    let m = at in
    omega (arith, n, m)

pub tell_all-requires : goal.tell_all-requires
tell_all-requires g c =
    let l = c.args.ledger.now.entries.ok.0 in
    let i = c.len-from.ensures in
    let at : c.len-from.result ≡ length c.args.ledger.now.entries.items = omega (arith, l, i) in
    let old = c.args.ledger.now.entries.items in
    let new = c.act.new.self.entries.items in
    let going = going_from new old _ c.len-from.result at c.in_ok-act-in-Some.ensures.entries c.requires.ready.going (ap is_over (sym c.behind-made.ensures) ∙ sym c.has_ending.ensures ∙ c.if-has_ending.false) in
    subst (All IsTold) (sym c.behind-made.ensures) (All-drop IsTold c.len-from.result new (c.in_ok-act-in-Some.ensures.going going).told)

pub returns-in-None-clause-comes : goal.returns-in-None-clause-comes
returns-in-None-clause-comes g c first s =
    let l = c.args.ledger.now.entries.ok.0 in
    let i = c.len-from.ensures in
    let at : c.len-from.result ≡ length c.args.ledger.now.entries.items = omega (arith, l, i) in
    let cause = cause_of g.A.Asks.asks g.A.Asks.told first c.args.sites.now c.args.input.now c.args.lines in
    let old = c.args.ledger.now in
    let quantum = c.left-quantum.ensures old.opts old.entries.items c.requires.ready.ledger.tasks in
    subst (GoesWrong cause c.args.journal.now) (sym at) (no_request cause g.met.A.Asks.once g.met.A.Asks.whole c.requires.ready s c.args.processor c.args.task c.requires.next (silent_here g.A.Asks.asks c.ask.new.self (left old.opts old.entries.items c.args.task) quantum c.in-None.is c.in_ok-walked.ensures))

pub returns-in-Some-first_other-clause-comes : goal.returns-in-Some-first_other-clause-comes
returns-in-Some-first_other-clause-comes g c first s =
    let l = c.args.ledger.now.entries.ok.0 in
    let i = c.len-from.ensures in
    let at : c.len-from.result ≡ length c.args.ledger.now.entries.items = omega (arith, l, i) in
    let cause = cause_of g.A.Asks.asks g.A.Asks.told first c.args.sites.now c.args.input.now c.args.lines in
    let old = c.args.ledger.now in
    let walked = c.in-Some.walked in
    let quantum = c.left-quantum.ensures old.opts old.entries.items c.requires.ready.ledger.tasks in
    let asks = asked_here g.A.Asks.asks (left old.opts old.entries.items c.args.task) walked quantum c.in-Some.is c.in_ok-walked.ensures in
    let off = off_here c.in-Some-first_other.n c.behind-made.ensures c.in-Some-first_other.is c.first_other.ensures in
    let rest = subst (λ y. TurnsOff c.args.lines (drop c.len-from.result c.act.new.self.entries.items) y c.in-Some-first_other.n) (part c.args.journal.now c.len-from.result) off in
    wrong_from cause g.met.A.Asks.once g.met.A.Asks.whole c.requires.ready s c.args.processor c.args.task c.requires.next walked.ticks walked.asked c.ask.new.self asks c.act.new.self c.in_ok-act-in-Some.ensures.entries c.in_ok-act-in-Some.ensures.opts c.len-from.result at c.in-Some-first_other.n _ refl rest

pub returns-then-has_ending-clause-comes : goal.returns-then-has_ending-clause-comes
returns-then-has_ending-clause-comes g c first s =
    let l = c.args.ledger.now.entries.ok.0 in
    let i = c.len-from.ensures in
    let at : c.len-from.result ≡ length c.args.ledger.now.entries.items = omega (arith, l, i) in
    let cause = cause_of g.A.Asks.asks g.A.Asks.told first c.args.sites.now c.args.input.now c.args.lines in
    let old = c.args.ledger.now in
    let walked = c.in-Some.walked in
    let quantum = c.left-quantum.ensures old.opts old.entries.items c.requires.ready.ledger.tasks in
    let asks = asked_here g.A.Asks.asks (left old.opts old.entries.items c.args.task) walked quantum c.in-Some.is c.in_ok-walked.ensures in
    let same = subst (GoesAs c.args.lines (drop c.len-from.result c.act.new.self.entries.items)) (part c.args.journal.now c.len-from.result) (same_here c.behind-made.ensures c.in-None-first_other.is c.first_other.ensures) in
    let over = ap is_over (sym c.behind-made.ensures) ∙ sym c.has_ending.ensures ∙ c.if-has_ending.true in
    subst (IsVerdict cause c.args.journal.now) (sym c.ended.ensures) (end_from cause g.met.A.Asks.once g.met.A.Asks.whole c.requires.ready s c.args.processor c.args.task c.requires.next walked.ticks walked.asked c.ask.new.self asks c.act.new.self c.in_ok-act-in-Some.ensures.entries c.in_ok-act-in-Some.ensures.opts c.len-from.result at same over)

pub returns-in_ok-tell_all-in-None-first_other-clause-comes :
    goal.returns-in_ok-tell_all-in-None-first_other-clause-comes
returns-in_ok-tell_all-in-None-first_other-clause-comes g c first s =
    let l = c.args.ledger.now.entries.ok.0 in
    let i = c.len-from.ensures in
    let at : c.len-from.result ≡ length c.args.ledger.now.entries.items = omega (arith, l, i) in
    let cause = cause_of g.A.Asks.asks g.A.Asks.told first c.args.sites.now c.args.input.now c.args.lines in
    let old = c.args.ledger.now in
    let walked = c.in-Some.walked in
    let quantum = c.left-quantum.ensures old.opts old.entries.items c.requires.ready.ledger.tasks in
    let asks = asked_here g.A.Asks.asks (left old.opts old.entries.items c.args.task) walked quantum c.in-Some.is c.in_ok-walked.ensures in
    let same = subst (GoesAs c.args.lines (drop c.len-from.result c.act.new.self.entries.items)) (part c.args.journal.now c.len-from.result) (same_here c.behind-made.ensures c.in-None-first_other.is c.first_other.ensures) in
    stand_from cause g.met.A.Asks.once g.met.A.Asks.whole c.requires.ready s c.args.processor c.args.task c.requires.next walked.ticks walked.asked c.ask.new.self asks c.act.new.self c.in_ok-act-in-Some.ensures.entries c.in_ok-act-in-Some.ensures.opts c.len-from.result at _ same (c.in_ok-tell_all-in-None-first_other.ensures ∙ ap (told_of g.A.Asks.told c.args.sites.now c.ask.new.self) c.behind-made.ensures)

pub returns-in_ok-tell_all-in-None-first_other-clause-keeps :
    goal.returns-in_ok-tell_all-in-None-first_other-clause-keeps
returns-in_ok-tell_all-in-None-first_other-clause-keeps g c =
    let l = c.args.ledger.now.entries.ok.0 in
    let i = c.len-from.ensures in
    let at : c.len-from.result ≡ length c.args.ledger.now.entries.items = omega (arith, l, i) in
    let old = c.args.ledger.now.entries.items in
    let new = c.act.new.self.entries.items in
    let going = going_from new old _ c.len-from.result at c.in_ok-act-in-Some.ensures.entries c.requires.ready.going (ap is_over (sym c.behind-made.ensures) ∙ sym c.has_ending.ensures ∙ c.if-has_ending.false) in
    let whole = g.met.A.Asks.whole _ _ _ _ _ _ (asked_here g.A.Asks.asks c.left-quantum.result c.in-Some.walked refl c.in-Some.is c.in_ok-walked.ensures) in
    advances c.args.input.now c.args.processor c.args.task c.in-Some.walked.ticks c.in-Some.walked.asked c.requires.ready whole c.in_ok-act-in-Some.ensures.entries c.in_ok-act-in-Some.ensures.opts going (c.in_ok-act-in-Some.ensures.going going)
