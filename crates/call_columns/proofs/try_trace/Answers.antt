-- Each way out is a law of what was found (Back).
use Rattle.std.proofs.Common.{◌≡◌, Some, None, ◌+◌, ◌*◌, sym, ap, ◌∙◌, length, arith}
use Rattle.std.proofs.lemmas.Result.{err_from_is_err_and}
use Rattle.definition.specs.Bytes.{AllBytes, ok}
use Rattle.law_bytes.proofs.Slices.{all-bytes}
use Rattle.law_columns.specs.ByPosition.{columns_scanned}
use Rattle.columns_forms.specs.Forms.{found_of}
use Rattle.refusals.specs.declared.Refusal.TheVariants.{NotColumns}
use Rattle.call_columns.proofs.Back.{back-refused, columns-size, columns-messages, back-short, back_done}
use Rattle.call_columns.proofs.try_trace.Goals as goal
use Rattle.call_columns.proofs.try_trace.Goals.{In_ok-size}

pub returns-in_err-size : goal.returns-in_err-size
unfolding found_of
returns-in_err-size c =
    let columns = c.args.columns.now in
    let bytes = all-bytes columns (λ i. (c.type_inv.columns i).fits) in
    let none : c.scan_columns.result ≡ None = grind arith in
    let told : c.in_err-size.field-0.0 ≡ NotColumns = grind arith in
    let p = err_from_is_err_and c.from_residual.result c.from_residual.ensures.1 in
    rw (p.1, p.2, told) (sym (back-refused columns c.args.out.now bytes (sym c.scan_columns.ensures ∙ ap (found_of 18) none)))

bytes : (c : In_ok-size) → AllBytes c.args.columns.now
bytes c = all-bytes c.args.columns.now (λ i. (c.type_inv.columns i).fits)

sizes : (c : In_ok-size) → let z = c.in_ok-size.size in columns_scanned c.args.columns.now ≡ ok (z.records, z.messages)
unfolding found_of
sizes c =
    let some : c.scan_columns.result ≡ Some c.in_ok-size.size = grind arith in
    sym c.scan_columns.ensures ∙ ap (found_of 18) some

long : (c : In_ok-size) → let z = c.in_ok-size.size in length c.args.columns.now ≡ 4 + 12 * z.records + 3 * z.messages
long c = columns-size c.args.columns.now _ _ (bytes c) (sizes c)

pub overflow_sub-columns : goal.overflow_sub-columns
overflow_sub-columns c = omega (arith, long (goal.at.overflow_sub-columns c).In_ok-size)

pub returns-then-out-columns : goal.returns-then-out-columns
returns-then-out-columns c =
    let at = (goal.at.returns-then-out-columns c).In_ok-size in
    sym (back-short c.args.columns.now _ _ (bytes at) (sizes at) c.args.out.now c.if-out-columns.true)

pub write_trace-requires : goal.write_trace-requires
write_trace-requires c =
    let at = (goal.at.write_trace-requires c).In_ok-size in
    let many = columns-messages c.args.columns.now _ _ (bytes at) (sizes at) in
    (omega (arith, long at), omega (arith, many), omega (arith, long at, many, c.if-out-columns.false))

pub overflow_sub-result : goal.overflow_sub-result
overflow_sub-result c = omega (arith, long (goal.at.overflow_sub-result c).In_ok-size)

pub returns : goal.returns
returns c =
    let at = (goal.at.returns c).In_ok-size in
    rw c.write_trace.ensures (sym (back_done c.args.columns.now _ _ (bytes at) (sizes at) c.args.out.now c.if-out-columns.false))
