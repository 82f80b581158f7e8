use native.Mathlib.Omega.{arith}
use borrow.Author.Rules.{rules}
use Rattle.text.specs.Put.{put_front}
use Rattle.report.specs.Laws.{report_length}
use Rattle.report.proofs.write_report.Goals as goal

pub returns : goal.returns
returns c =
    let r = report_length c.args.number c.args.end (omega arith)
    (record {
      last = omega arith;
      retired = omega arith;
      cycles = omega arith;
      loaduse = omega arith;
      mispredict = omega arith;
      returned = omega arith;
      registers = λ i. search rules;
    }) in
    rw c.length.ensures (put_front c.new-writer.ensures c.put_report.ensures (omega arith))
