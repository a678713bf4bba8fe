-- What a block of either format says is read from its own bytes, whatever follows them.
use Rattle.std.proofs.Common.{ℕ, ◌≡◌, ◌≤◌, ◌+◌, ◌-◌, List, ◌++◌, length, slice_range, drop, ap, sym, ◌∙◌, arith, length-append, length-drop}
use Rattle.std.proofs.Math.Seq.{drop-append_seam}
use Rattle.packet_capture.specs.Any.{BeginsWith, Said, head_of_record, packet}
use Rattle.packet_capture.specs.Capture.{BeginsWithRecord, Recorded, record_head, record_len}
use Rattle.packet_capture.specs.declared.any.Capture.{Capture}
use Rattle.packet_capture.specs.declared.any.Capture.TheVariants.{Pcap, Pcapng}
use Rattle.packet_capture.specs.declared.capture.FileHeader.{FileHeader}
use Rattle.packet_capture.proofs.Fronts.{begins_with_block-front, slice_range-append}

range_front : (t other more : List ℕ) (i j : ℕ) → i ≤ j → j ≤ length t → slice_range (t ++ other) i j ≡ slice_range (t ++ more) i j
range_front t other more i j order within = slice_range-append t other i j order within ∙ sym (slice_range-append t more i j order within)

pub record_head-append : (header : FileHeader) (t more : List ℕ) → 16 ≤ length t → record_head header (t ++ more) ≡ record_head header t
record_head-append header t more enough = grind (arith, slice_range-append)

-- the head of a record is in its first 16 bytes
pub record_head-front : (header : FileHeader) (t other more : List ℕ) → 16 ≤ length t → record_head header (t ++ other) ≡ record_head header (t ++ more)
record_head-front header t other more enough = record_head-append header t other enough ∙ sym (record_head-append header t more enough)

-- a record at the front of a slice is one at the front of its own bytes, whatever follows them then
pub begins_with_record-front : (header : FileHeader) (t other more : List ℕ) (found : Recorded) (rest : List ℕ)
    → (b : BeginsWithRecord header (t ++ other) found rest) → length t ≡ record_len header (t ++ other) → BeginsWithRecord header (t ++ more) found more
begins_with_record-front header t other more found rest b len =
    let same = record_head-front header t other more (omega (arith, len)) in
    let whole : record_len header (t ++ more) ≡ length t = ap (λ h. 16 + h.captured_len) (sym same) ∙ sym len in
    record {
      enough = omega (arith, len, length-append t more);
      whole = omega (arith, whole, length-append t more);
      seconds = b.seconds ∙ ap (λ h. h.seconds) same;
      nanoseconds = b.nanoseconds ∙ ap (λ h. h.nanoseconds) same;
      original_len = b.original_len ∙ ap (λ h. h.original_len) same;
      bytes = b.bytes ∙ (ap (slice_range (t ++ other) 16) (sym len) ∙ (range_front t other more 16 (length t) (omega (arith, len)) (omega arith) ∙ ap (slice_range (t ++ more) 16) (sym whole)));
      after = sym (drop-append_seam t more) ∙ ap (λ n. drop n (t ++ more)) (sym whole);
    }

head_of_record-front : (header : FileHeader) (t other more : List ℕ) → 16 ≤ length t → head_of_record header (t ++ other) ≡ head_of_record header (t ++ more)
head_of_record-front header t other more enough = cc (record_head-front header t other more enough)

-- a block at the front of a slice is one at the front of its own bytes, whatever follows them then
pub begins_with-front : (capture : Capture) (t other more : List ℕ) (after : Capture) (found : Said) (rest : List ℕ)
    → BeginsWith capture (t ++ other) after found rest → length t + length rest ≡ length (t ++ other) → BeginsWith capture (t ++ more) after found more
begins_with-front (Pcap header) t other more (Pcap same) found rest b len =
    let begins = b.1.begins in
    let left : length rest ≡ length (t ++ other) - record_len header (t ++ other) = ap length begins.after ∙ length-drop (record_len header (t ++ other)) (t ++ other) in
    let own : length t ≡ record_len header (t ++ other) = omega (arith, left, len, begins.whole) in (
      b.0,
      record {
        recorded = b.1.recorded;
        begins = begins_with_record-front header t other more b.1.recorded rest begins own;
        says = b.1.says ∙ ap (λ h. packet h b.1.recorded.bytes) (head_of_record-front header t other more (omega (arith, own)));
      },
    )
begins_with-front (Pcapng before) t other more (Pcapng after) found rest b len =
    let begins = b.begins in
    let left : length rest ≡ length (t ++ other) - begins.head.total_len = ap length begins.is_rest ∙ length-drop begins.head.total_len (t ++ other) in
    record {
      says = b.says;
      begins = begins_with_block-front before t other more after b.says rest begins (omega (arith, left, len, begins.whole.enough));
      of = b.of;
    }
begins_with-front (Pcap header) t other more (Pcapng after) found rest b len = absurd b
begins_with-front (Pcapng before) t other more (Pcap header) found rest b len = absurd b
