-- The records that are left, put onto the buffer as it is, give what all of them give on the buffer as lent (`columns-more`).
use Rattle.std.proofs.Common.{◌+◌, ◌*◌, ◌-◌, ◌≤◌, sym, ap, ◌∙◌, add_assoc, length, arith}
use Rattle.definition.specs.Bytes.{number_at}
use Rattle.columns_records.specs.Places.{RecordWithin}
use Rattle.columns_forms.specs.Forms.{in_columns, row_places, next_column, row_messages, ColumnsWithin}
use Rattle.columns_forms.proofs.InRow.{within-row}
use Rattle.columns_forms.proofs.Turns.{row_more, columns-here, columns-next, columns-more, columns-none}
use Rattle.columns_write.proofs.put_columns.Goals as goal
use Rattle.columns_write.proofs.put_columns.Goals.{In-loop}

-- The record lies within the trace, its places within the buffer, and so do those after it.
reaches : (c : In-loop) → let a = c.args in let l = c.loop in let m = number_at 2 (l.at + 10) a.s.now in
    l.at + 12 + 3 * m + 12 * (a.n - (l.counter + 1)) + 3 * row_messages (a.n - (l.counter + 1)) (l.at + 12 + 3 * m) a.s.now ≤ length a.s.now
reaches c =
    let l = c.loop in
    omega (arith, l.invariant.read, c.loop-test.true, row_more c.args.n l.counter l.at c.args.s.now c.loop-test.true)

here : (c : In-loop) → let a = c.args in let l = c.loop in RecordWithin (length a.out.now) in_columns l.to (number_at 2 (l.at + 10) a.s.now)
here c =
    let l = c.loop in
    columns-here _ _ _ _ _ _ _ l.invariant.put c.loop-test.true (row_more c.args.n l.counter l.at c.args.s.now c.loop-test.true)

after : (c : In-loop) → let a = c.args in let l = c.loop in let m = number_at 2 (l.at + 10) a.s.now in
    ColumnsWithin (length a.out.now) (a.n - (l.counter + 1)) (next_column l.to m) (row_messages (a.n - (l.counter + 1)) (l.at + 12 + 3 * m) a.s.now)
after c =
    let l = c.loop in
    columns-next _ _ _ _ _ _ _ l.invariant.put c.loop-test.true (row_more c.args.n l.counter l.at c.args.s.now c.loop-test.true)

pub put_record-requires : goal.put_record-requires
unfolding row_places
put_record-requires c =
    let s = c.args.s.now in let l = c.loop in
    let source = within-row (length s) l.at (number_at 2 (l.at + 10) s) (omega (arith, reaches (goal.at.put_record-requires c).In-loop)) in
    rw (c.row_places.ensures, c.in_row.ensures, c.in_columns.ensures, l.auto.out) ((omega arith, omega arith), source, (omega arith, omega arith), here (goal.at.put_record-requires c).In-loop)

pub loop-preserved : goal.loop-preserved
loop-preserved c =
    let s = c.args.s.now in let l = c.loop in
    let n = c.u16_within-count.ensures in
    let next = c.next_column-to.ensures ∙ ap (next_column l.to) n in
    record {
      read = rw (n, ← add_assoc l.at 12 (3 * number_at 2 (l.at + 10) s)) (reaches (goal.at.loop-preserved c).In-loop);
      put = rw (next, n, ← add_assoc l.at 12 (3 * number_at 2 (l.at + 10) s)) (after (goal.at.loop-preserved c).In-loop);
      same = rw (c.put_record.ensures, c.row_places.ensures, c.in_row.ensures, c.in_columns.ensures, next, n, ← add_assoc l.at 12 (3 * number_at 2 (l.at + 10) s))
          (columns-more c.args.n l.counter l.at l.to s l.out c.loop-test.true ∙ l.invariant.same);
    }

pub returns : goal.returns
returns c =
    let l = c.loop in
    sym (columns-none c.args.n l.counter l.at l.to c.args.s.now l.out c.loop-test.false) ∙ l.invariant.same
