-- Four bytes, the highest first, are the coupling that the number stands for (`row-puts`).
use Rattle.flat_writer.proofs.Sections.{row-puts}
use Rattle.flat_writer.proofs.put_row.Goals as goal

pub returns : goal.returns
returns c = let a = c.args in row-puts a.row a.at a.out.now
