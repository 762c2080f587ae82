use Rattle.std.proofs.Common.{sym, ◌∙◌, ap, Some}
use Rattle.std.specs.Str.{bytes_eq}
use Rattle.uc_outside.proofs.Found.{found_by_scan, scan_hit, scan_miss}
use Rattle.uc_outside.proofs.steady.find_file.Goals as goal

pub loop-file-init : goal.loop-file-init
loop-file-init c = found_by_scan c.args.files.now c.args.name.now

pub returns-then-eq : goal.returns-then-eq
returns-then-eq c =
    ap Some c.as_slice.ensures.value
    ∙ sym (c.loop-file.invariant
    ∙ scan_hit c.args.files.now c.loop-file.file-index c.file-item.result c.args.name.now c.loop-file-test.true c.file-item.is
    (ap (bytes_eq c.args.name.now) (sym c.as_str.ensures.value) ∙ sym c.eq.ensures ∙ c.if-eq.true))

pub loop-file-preserved : goal.loop-file-preserved
loop-file-preserved c =
    c.loop-file.invariant
    ∙ scan_miss c.args.files.now c.loop-file.file-index c.file-item.result c.args.name.now c.loop-file-test.true c.file-item.is
    (ap (bytes_eq c.args.name.now) (sym c.as_str.ensures.value) ∙ sym c.eq.ensures ∙ c.if-eq.false)
