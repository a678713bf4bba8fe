use Rattle.std.proofs.Common.{◌≡◌, ◌-◌, ◌++◌, ◌≤◌, [], ap, false, refl, sym, ◌∙◌, arith, append_assoc, length, length-append, take, take-append-drop}
use Rattle.std.proofs.lemmas.Grind.{common_steps}
use Rattle.std.proofs.lemmas.Result.{err_from_is_err_and}
use Rattle.packet_capture.specs.Any.{BeginsWith, said}
use Rattle.packet_capture.proofs.AnyFronts.{begins_with-front}
use Rattle.ipcap.specs.Listing.{ToldOfLong, if_too_long}
use Rattle.ipcap.specs.Totals.{packet}
use Rattle.ipcap.specs.Reading.{max_len}
use Rattle.ipcap.specs.declared.place.Place.{Place}
use Rattle.ipcap.proofs.Frames.{frame_short}
use Rattle.ipcap.proofs.Runs.{front_after, front_of_nothing, long_record, rest_of, same_head, same_most, tells_both, tells_nothing, told_long, told_one}
use Rattle.ipcap.proofs.request.Request.list_front.Goals as goal

pub fronts-init : goal.fronts-init
fronts-init g c = record { most = c.max_len-most.ensures.value; taken = []; whole = refl; tells = tells_nothing _ _ _ _; unfailed_writes = λ x. x }

pub returns-in_err-list_too_long : goal.returns-in_err-list_too_long
returns-in_err-list_too_long g c =
    let was = c.fronts.invariant in
    let p = err_from_is_err_and c.from_residual.result c.from_residual.ensures.1 in
    let failed = c.in_err-list_too_long.ensures in
    rw p.1 (record { failed = rw (p.2, was.whole) (front_after _ _ _ _ _ _ _ _ _ _ _ _ was.tells (front_of_nothing _ _ _ _ ⊥ c.fronts.place _ c.fronts.rest.now _ _ failed.kept failed.failed)); rest = tt; stops = tt; told = tt; unfailed_writes = tt })

pub returns-in_err-list_block : goal.returns-in_err-list_block
returns-in_err-list_block g c =
    let was = c.fronts.invariant in
    let p = err_from_is_err_and c.from_residual-in_err-list_block.result c.from_residual-in_err-list_block.ensures.1 in
    let failed = c.in_err-list_block.ensures in
    rw p.1 (record { failed = rw (p.2, was.whole) (front_after _ _ _ _ _ _ _ _ _ _ _ _ was.tells (front_of_nothing _ _ _ _ ⊥ c.fronts.place _ c.fronts.rest.now _ _ failed.kept failed.failed)); rest = tt; stops = tt; told = tt; unfailed_writes = tt })

pub fronts-preserved : goal.fronts-preserved
fronts-preserved g c =
    let was = c.fronts.invariant in
    let told = c.in_ok-list_block.ensures.told in
    let found = rw c.in-Ok-Some.field-0-is at c.in-Ok-Some.ensures.reads in
    let rest = c.fronts.rest.now in
    let after = c.in-Ok-Some.next.1.now in
    let s = take (length rest - length after) rest in
    let parts : s ++ after ≡ rest = ap (λ r. s ++ r) (rest_of _ rest _ _ after found) ∙ take-append-drop (length rest - length after) rest in
    let now = c.list_block.new.place in
    let same = c.in_ok-list_block.ensures.capture in
    let mid : Place = record { totals = told.mid; capture = now.capture; memory = now.memory } in
    record {
      most = was.most ∙ sym (ap max_len same ∙ same_most _ rest _ _ after found);
      taken = was.taken ++ s;
      whole = grind (arith, was.whole, append_assoc, parts);
      tells = tells_both _ _ _ _ _ _ _ _ _ _ was.tells (rw told.counts (told_one _ _ c.fronts.place mid s after (said c.in-Ok-Some.next.0) told.told _ _ (sym c.has_enough.ensures.value ∙ c.if-has_enough.false)
          (rw (same, parts) found) (omega (arith, was.most, c.if-whole-most.false)) told.is told.prints));
      unfailed_writes = λ x. was.unfailed_writes (c.in_ok-list_block.ensures.unfailed_writes x);
    }

pub fronts-preserved-in_ok-list_too_long : goal.fronts-preserved-in_ok-list_too_long
fronts-preserved-in_ok-list_too_long g c =
    let was = c.fronts.invariant in
    let told = c.in_ok-list_too_long.ensures.told in
    let found = rw c.in-Ok-Some.field-0-is at c.in-Ok-Some.ensures.reads in
    let rest = c.fronts.rest.now in
    let after = c.in-Ok-Some.next.1.now in
    let s = take (length rest - length after) rest in
    let parts : s ++ after ≡ rest = ap (λ r. s ++ r) (rest_of _ rest _ _ after found) ∙ take-append-drop (length rest - length after) rest in
    let begins : BeginsWith c.fronts.place.capture (s ++ after) c.next_block.new.capture (said c.in-Ok-Some.next.0) after = rw parts found in
    let long = long_record c.fronts.place.capture s after c.next_block.new.capture (said c.in-Ok-Some.next.0) begins (omega (arith, was.most, c.if-whole-most.true)) (omega (arith, ap length parts, ap length was.whole, length-append was.taken rest, c.requires.room)) in
    let head = same_head long.4.0 c.in-Packet.head long.4.1 c.in-Packet.bytes.now (sym long.4.2 ∙ ap said c.in-Packet.is) in
    let is : ToldOfLong c.args.self.now long.0.content (packet false c.in-Packet.head (if_too_long c.args.self.now)) = rw (long.4.3, sym head) refl in
    record {
      most = was.most ∙ sym (same_most _ rest _ _ after found);
      taken = was.taken ++ s;
      whole = grind (arith, was.whole, append_assoc, parts);
      tells = tells_both _ _ _ _ _ _ _ _ _ _ was.tells (rw (told.counts, long.3, long.2) (told_long _ _ c.fronts.place s long.0 (packet false c.in-Packet.head (if_too_long c.args.self.now)) _ _ (sym c.has_enough.ensures.value ∙ c.if-has_enough.false)
          long.1 long.2 (λ more. (said c.in-Ok-Some.next.0, rw long.3 at (begins_with-front c.fronts.place.capture s after more c.next_block.new.capture (said c.in-Ok-Some.next.0) after begins (sym (length-append s after))))) is told.prints));
      unfailed_writes = λ x. was.unfailed_writes (c.in_ok-list_too_long.ensures.unfailed_writes x);
    }

pub list_block-requires-clause-short : goal.list_block-requires-clause-short
list_block-requires-clause-short g c =
    let rest = c.fronts.rest.now in
    let within : length rest ≤ 327680 = omega (arith, ap length c.fronts.invariant.whole, length-append c.fronts.invariant.taken rest, c.requires.room) in
    frame_short c.fronts.place.capture rest _ _ c.in-Ok-Some.next.1.now within (rw c.in-Ok-Some.field-0-is at c.in-Ok-Some.ensures.reads)

pub returns-then-has_enough : goal.returns-then-has_enough
returns-then-has_enough g c = record { failed = tt; rest = grind (arith, common_steps); stops = grind (arith, common_steps); told = grind (arith, common_steps); unfailed_writes = c.fronts.invariant.unfailed_writes }

pub returns-in-Ok-None : goal.returns-in-Ok-None
returns-in-Ok-None g c = record { failed = tt; rest = grind (arith, common_steps); stops = grind (arith, common_steps); told = grind (arith, common_steps); unfailed_writes = c.fronts.invariant.unfailed_writes }

pub returns-in-Err-CutOff : goal.returns-in-Err-CutOff
returns-in-Err-CutOff g c = record { failed = tt; rest = grind (arith, common_steps); stops = grind (arith, common_steps); told = grind (arith, common_steps); unfailed_writes = c.fronts.invariant.unfailed_writes }
