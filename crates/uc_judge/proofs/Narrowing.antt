-- Which entries are narrow.
use Rattle.std.proofs.Common.{◌≡◌, true, subst, sym}
use Rattle.uc_entry.specs.declared.entry.Entry.{Entry}
use Rattle.uc_entry.specs.declared.entry.EntryKind.{EntryKind}
use Rattle.uc_entry.specs.declared.entry.EntryKind.TheVariants as kind
use Rattle.uc_judge.specs.Ledgers.{is_safe}
use Rattle.uc_judge.specs.Narrow.{IsNarrow}

by_kind : (k : EntryKind) (e : Entry) → is_safe k ≡ true → IsNarrow k e
by_kind kind.Admit e h = absurd (cc)
by_kind kind.Poll e h = absurd (cc)
by_kind k e h = tt

pub narrow_safe : (e : Entry) → is_safe e.kind ≡ true → IsNarrow e.kind e
narrow_safe e h = by_kind e.kind e h

pub narrow_same : (e f : Entry) → e ≡ f → IsNarrow f.kind f → IsNarrow e.kind e
narrow_same e f same h = subst (λ x. IsNarrow x.kind x) (sym same) h

pub ruleset narrowing = (narrow_safe, narrow_same)
