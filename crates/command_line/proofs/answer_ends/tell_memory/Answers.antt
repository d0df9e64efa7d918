use Rattle.cli_lines.specs.SessionLines.{end_line, fault_line}
use Rattle.command_line.proofs.Answered.{two_written}
use Rattle.command_line.proofs.answer_ends.tell_memory.Goals as goal

pub returns : goal.returns
returns g c =
    let contents = g.W.Write.contents in
    let text = c.memory_text.result.now in
    let status = c.status.result in
    record {
      text = text;
      status = status;
      printed = two_written (contents c.args.out.now) (contents c.write_fault.new.out) (contents c.write_answer_end.new.out) (contents c.flush.new.self)
          (fault_line c.args.format text) (end_line c.args.format status) c.in_ok-write_fault.ensures c.in_ok-write_answer_end.ensures c.in_ok-flush.ensures.bytes;
    }
