-- The records that are left, put onto the buffer as it is, give what all of them give on the buffer as lent (`rows_more`).
use Rattle.std.proofs.Common.{◌+◌, ◌*◌, ◌-◌, ◌≤◌, refl, sym, ap, ◌∙◌, add_assoc, length, arith}
use Rattle.std.proofs.Math.Nat.{sub-zero}
use Rattle.definition.specs.Bytes.{number_at}
use Rattle.columns_records.specs.Places.{RecordWithin}
use Rattle.columns_forms.specs.Forms.{in_columns, columns_from, next_column, counts_by, ColumnsWithin}
use Rattle.columns_forms.proofs.InRow.{within-row}
use Rattle.columns_forms.proofs.Turns.{counts-more, columns-start, columns-here, columns-next, rows_more, rows_none}
use Rattle.columns_write.proofs.write_trace.Goals as goal
use Rattle.columns_write.proofs.write_trace.Goals.{In-loop}

pub loop-init : goal.loop-init
unfolding columns_from
loop-init c =
    let a = c.args in let s = a.s.now in
    let all = counts_by a.n (4 + 10 * a.n) s in
    rw (c.columns_from-at.ensures, sub-zero a.n)
    (record { read = columns-start (length s) a.n a.k all c.requires.0 c.requires.1; put = omega (arith, c.requires.2); same = refl })

-- The record lies within the columns, its place within the buffer, and so do those after it.
reaches : (c : In-loop) → let a = c.args in let l = c.loop in let m = number_at 2 l.at.count a.s.now in
    l.to + 12 + 3 * m + 12 * (a.n - (l.counter + 1)) + 3 * counts_by (a.n - (l.counter + 1)) (l.at.count + 2) a.s.now ≤ length a.out.now
reaches c =
    let l = c.loop in
    omega (arith, l.invariant.put, c.loop-test.true, counts-more c.args.n l.counter l.at.count c.args.s.now c.loop-test.true)

here : (c : In-loop) → let s = c.args.s.now in let l = c.loop in RecordWithin (length s) in_columns l.at (number_at 2 l.at.count s)
here c =
    let l = c.loop in
    columns-here _ _ _ _ _ _ _ l.invariant.read c.loop-test.true (counts-more c.args.n l.counter l.at.count c.args.s.now c.loop-test.true)

after : (c : In-loop) → let a = c.args in let s = a.s.now in let l = c.loop in
    ColumnsWithin (length s) (a.n - (l.counter + 1)) (next_column l.at (number_at 2 l.at.count s)) (counts_by (a.n - (l.counter + 1)) (l.at.count + 2) s)
after c =
    let l = c.loop in
    columns-next _ _ _ _ _ _ _ l.invariant.read c.loop-test.true (counts-more c.args.n l.counter l.at.count c.args.s.now c.loop-test.true)

pub put_record-requires : goal.put_record-requires
put_record-requires c =
    let a = c.args in let l = c.loop in
    let target = within-row (length a.out.now) l.to (number_at 2 l.at.count a.s.now) (omega (arith, reaches (goal.at.put_record-requires c).In-loop)) in
    rw (c.row_places.ensures, c.in_row.ensures, c.in_columns.ensures, l.auto.out) ((omega arith, omega arith), here (goal.at.put_record-requires c).In-loop, (omega arith, omega arith), target)

pub loop-preserved : goal.loop-preserved
unfolding next_column
loop-preserved c =
    let s = c.args.s.now in let l = c.loop in
    let n = c.u16_within-count.ensures in
    let next = c.next_column-at.ensures ∙ ap (next_column l.at) n in
    record {
      read = rw next (after (goal.at.loop-preserved c).In-loop);
      put = rw (next, n, ← add_assoc l.to 12 (3 * number_at 2 l.at.count s)) (reaches (goal.at.loop-preserved c).In-loop);
      same = rw (c.put_record.ensures, c.row_places.ensures, c.in_row.ensures, c.in_columns.ensures, next, n, ← add_assoc l.to 12 (3 * number_at 2 l.at.count s))
          (rows_more c.args.n l.counter l.at l.to s l.out c.loop-test.true ∙ l.invariant.same);
    }

pub returns : goal.returns
returns c =
    let l = c.loop in
    sym (rows_none c.args.n l.counter l.at l.to c.args.s.now l.out c.loop-test.false) ∙ l.invariant.same
