use Rattle.std.proofs.Common.{ap, ◌∙◌, sym, Ok, Some}
use Rattle.packet_capture.specs.declared.any.Capture.TheVariants.{Pcapng}
use Rattle.packet_capture.proofs.AnyOnce.{once_of_blocks}
use Rattle.packet_capture.proofs.any.next_of_blocks.Goals as goal

pub returns-in-Ok-Some-clause-only : goal.returns-in-Ok-Some-clause-only
returns-in-Ok-Some-clause-only c = λ other r.
    once_of_blocks c.args.section.now c.args.slice.now _ (rw c.in-Ok-Some.field-0-is at c.in-Ok-Some.ensures.only) other r
    ∙ ap (λ f. Ok (Some (Pcapng c.next_block.new.section, f, c.in-Ok-Some.rest.now))) (sym c.of_block.ensures.value)

pub returns-in-Err-clause-only : goal.returns-in-Err-clause-only
returns-in-Err-clause-only c = λ other r. once_of_blocks c.args.section.now c.args.slice.now _ c.in-Err.ensures.only other r
