use Rattle.numbers.proofs.Refusals.{refused_written}
use Rattle.numbers.proofs.answer.Goals as goal

pub returns-in-Err-Refused : goal.returns-in-Err-Refused
returns-in-Err-Refused g c =
    let r = c.in-Err-Refused in
    refused_written _ _ _ c.read_schedule.new.part r.field-0-is r.refusal-is r.ensures.told _ c.print_refusal-k.ensures.value c.print_refusal-k.ensures.out_after _
    c.write_all-in-Err-Refused.ensures.written
