use Rattle.std.proofs.Common.{◌≡◌, ◌≢◌, List, ℕ, None, Some, Bool, false, refl}
use Rattle.packet_capture.specs.declared.any.PacketHead.{PacketHead}
use Rattle.ipcap.proofs.Runs.{on_ok, prints_nothing}
use Rattle.ipcap.specs.Listing.{written_as}
use Rattle.ipcap.specs.Request.{copies}
use Rattle.ipcap.specs.Streams.{kept_if}
use Rattle.ipcap.specs.declared.reading.Reading.{Reading}
use Rattle.ipcap.specs.declared.request.Mode.{Mode}
use Rattle.ipcap.specs.declared.request.Mode.TheVariants.{Count, Lines, Packets, Quiet}
use Rattle.ipcap.specs.declared.totals.Totals.{Totals}
use Rattle.ipcap.proofs.request.Request.list_frame.Goals as goal

-- without lines the blocks are kept, or nothing is written
without_lines : (mode : Mode) (is_utc : Bool) (before : Totals) (is : Bool) (head : PacketHead) (bytes : List ℕ) (reading : Reading) → mode ≢ Lines → written_as mode is_utc before is head bytes reading ≡ kept_if (copies mode) bytes
without_lines Lines is_utc before is head bytes reading other = absurd (other refl)
without_lines Packets is_utc before is head bytes reading other = refl
without_lines Quiet is_utc before is head bytes reading other = refl
without_lines Count is_utc before is head bytes reading other = refl

pub returns-then-pass-clause-told : goal.returns-then-pass-clause-told
returns-then-pass-clause-told g c = record { found = None; reads = rw c.if-not-is_chosen.true at c.is_chosen.ensures.value; tells = record { counts = c.pass.ensures.counted c.if-pass.true c.args.is_reassembled; prints = prints_nothing _ _ } }

pub returns-clause-told : goal.returns-clause-told
returns-clause-told g c =
    let mode = without_lines c.args.self.now.mode c.args.self.now.is_utc c.args.totals.now c.args.is_reassembled c.args.head.now c.args.bytes.now c.read_numbered-reading.result c.in_default.not-Lines in
    on_ok c.copy_if.result (λ p. record { found = Some c.read_numbered-reading.result; reads = (rw c.if-not-is_chosen.false at c.is_chosen.ensures.value, rw c.left_out.ensures.value at c.read_numbered-reading.ensures.reads); tells = record { counts = c.count.ensures.counted c.if-not-count.false false c.args.is_reassembled; prints = rw mode (rw c.copies.ensures.value at p) } }) c.copy_if.ensures.prints
