-- Each way out is a law of what was found (There).
use Rattle.std.proofs.Common.{◌≡◌, Some, None, ◌+◌, ◌≤◌, sym, ap, ◌∙◌, length, arith}
use Rattle.std.proofs.lemmas.Result.{err_from_is_err_and}
use Rattle.definition.specs.Bytes.{AllBytes, ok}
use Rattle.law_bytes.proofs.Slices.{all-bytes}
use Rattle.law_columns.specs.ByPosition.{scanned}
use Rattle.columns_forms.specs.Forms.{found_of}
use Rattle.columns_scan.specs.Scans.{sizes_of}
use Rattle.refusals.specs.declared.Refusal.TheVariants.{NotATrace}
use Rattle.call_columns.proofs.There.{there-refused, trace-size, trace-messages, there-short, there-done}
use Rattle.call_columns.proofs.try_columns.Goals as goal
use Rattle.call_columns.proofs.try_columns.Goals.{In_ok-size}

pub returns-in_err-size : goal.returns-in_err-size
unfolding found_of
returns-in_err-size c =
    let trace = c.args.trace.now in
    let bytes = all-bytes trace (λ i. (c.type_inv.trace i).fits) in
    let none : c.scan_trace.result ≡ None = grind arith in
    let told : c.in_err-size.field-0.0 ≡ NotATrace = grind arith in
    let p = err_from_is_err_and c.from_residual.result c.from_residual.ensures.1 in
    rw (p.1, p.2, told) (sym (there-refused trace c.args.out.now bytes (sym c.scan_trace.ensures ∙ ap (found_of 17) none)))

bytes : (c : In_ok-size) → AllBytes c.args.trace.now
bytes c = all-bytes c.args.trace.now (λ i. (c.type_inv.trace i).fits)

sizes : (c : In_ok-size) → let z = c.in_ok-size.size in sizes_of (scanned c.args.trace.now) ≡ ok (z.records, z.messages)
unfolding found_of
sizes c =
    let some : c.scan_trace.result ≡ Some c.in_ok-size.size = grind arith in
    sym c.scan_trace.ensures ∙ ap (found_of 17) some

pub returns-then-out-lt-COLUMNS_HEAD : goal.returns-then-out-lt-COLUMNS_HEAD
returns-then-out-lt-COLUMNS_HEAD c =
    let at = (goal.at.returns-then-out-lt-COLUMNS_HEAD c).In_ok-size in
    sym (there-short c.args.trace.now _ _ (bytes at) (sizes at) c.args.out.now (omega (arith, c.if-out-lt-COLUMNS_HEAD.true)))

pub returns-then-out-trace : goal.returns-then-out-trace
returns-then-out-trace c =
    let at = (goal.at.returns-then-out-trace c).In_ok-size in
    sym (there-short c.args.trace.now _ _ (bytes at) (sizes at) c.args.out.now (omega (arith, c.if-out-trace.true, c.if-out-lt-COLUMNS_HEAD.false)))

pub write_columns-requires : goal.write_columns-requires
write_columns-requires c =
    let at = (goal.at.write_columns-requires c).In_ok-size in
    let long = trace-size c.args.trace.now _ _ (bytes at) (sizes at) in
    let many = trace-messages c.args.trace.now _ _ (bytes at) (sizes at) in
    let room : length c.args.trace.now + 4 ≤ length c.args.out.now = omega (arith, c.if-out-trace.false, c.if-out-lt-COLUMNS_HEAD.false) in
    (omega (arith, long, many), omega (arith, many), omega (arith, long, room))

pub returns : goal.returns
returns c =
    let at = (goal.at.returns c).In_ok-size in
    rw c.write_columns.ensures
    (sym (there-done c.args.trace.now _ _ (bytes at) (sizes at) c.args.out.now (omega (arith, c.if-out-trace.false, c.if-out-lt-COLUMNS_HEAD.false))))
