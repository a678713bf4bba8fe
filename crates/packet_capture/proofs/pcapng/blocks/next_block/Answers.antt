use Rattle.std.proofs.Common.{◌≡◌, ◌<◌, ◌-◌, ◌∙◌, Err, Ok, Some, ap, arith, drop, length, length-drop, length-take-le, refl, take}
use Rattle.std.proofs.lemmas.List.{take_rest}
use Rattle.packet_capture.specs.Pcapng.Blocks.{BeginsWithBlock, ReadsBlock, for_body, for_head, for_length, said}
use Rattle.packet_capture.proofs.Once.{block_once, least_len_least}
use Rattle.packet_capture.proofs.pcapng.blocks.next_block.Goals as goal

pub returns-in-Err : goal.returns-in-Err
returns-in-Err c =
    let some : 0 < length c.args.slice.now = grind arith in
    let reads : ReadsBlock c.args.section.now c.args.slice.now (Err c.in-Err.e) = (some, for_head c.in-Err.ensures.reads) in
    record { reads = reads; only = λ other o. block_once _ _ _ other reads o; shorter = tt; kept = refl; kept_at_end = tt }

pub returns-in-Err-block : goal.returns-in-Err-block
returns-in-Err-block c =
    let some : 0 < length c.args.slice.now = omega (arith, c.in-Ok.ensures.reads.0.enough) in
    let reads : ReadsBlock c.args.section.now c.args.slice.now (Err c.in-Err-block.e) = (some, for_length c.in-Ok.ensures.reads c.in-Err-block.ensures.refused) in
    record { reads = reads; only = λ other o. block_once _ _ _ other reads o; shorter = tt; kept = refl; kept_at_end = tt }

pub returns-in-Err-read : goal.returns-in-Err-read
returns-in-Err-read c =
    let some : 0 < length c.args.slice.now = omega (arith, c.in-Ok.ensures.reads.0.enough) in
    let reads : ReadsBlock c.args.section.now c.args.slice.now (Err c.in-Err-read.e) = (some, for_body c.in-Ok.ensures.reads c.in-Ok-block.ensures.whole c.in-Err-read.ensures.reads) in
    record { reads = reads; only = λ other o. block_once _ _ _ other reads o; shorter = tt; kept = c.in-Err-read.ensures.kept; kept_at_end = tt }

pub returns-in-Ok-read : goal.returns-in-Ok-read
returns-in-Ok-read c =
    let s = c.args.slice.now in
    let block = c.in-Ok-block.block.now in
    let len : length block ≡ c.in-Ok.head.total_len = ap length c.in-Ok-block.ensures.whole.is_block ∙ length-take-le c.in-Ok.head.total_len s c.in-Ok-block.ensures.whole.enough in
    let rest = take (length s - length block) (drop (length block) s) in
    let reads : BeginsWithBlock c.args.section.now s c.read.new.self (said c.in-Ok-read.said) rest = record {
      head = c.in-Ok.head;
      block = block;
      front = c.in-Ok.ensures.reads;
      whole = c.in-Ok-block.ensures.whole;
      body = c.in-Ok-read.ensures.reads;
      is_rest = take_rest s (length block) ∙ ap (λ n. drop n s) len;
    } in
    record {
      reads = reads;
      only = λ other o. block_once _ _ (Ok (Some (c.read.new.self, said c.in-Ok-read.said, rest))) other reads o;
      shorter = omega (arith, ap length (take_rest s (length block)), length-drop (length block) s, least_len_least c.in-Ok.head.block_type, c.in-Ok.ensures.reads.1.enough, c.in-Ok-block.ensures.whole.enough, len);
      kept = tt;
      kept_at_end = tt;
    }
