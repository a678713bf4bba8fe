-- What a pcapng block says is read from its own bytes, whatever follows them.
use Rattle.std.proofs.Common.{ℕ, ◌≡◌, ◌≢◌, ◌≤◌, List, [], ◌++◌, length, slice_range, Ok, Err, ap, lit≤, refl, slice_get, sym, ◌∙◌, arith, length-append, length-drop}
use Rattle.std.proofs.lemmas.List.{drop-append-le, drop_all, take-append-le}
use Rattle.packet_capture.specs.Capture.{magic_of}
use Rattle.packet_capture.specs.declared.capture.ByteOrder.{ByteOrder}
use Rattle.packet_capture.specs.declared.capture.CutOff as cut
use Rattle.packet_capture.specs.declared.pcapng.blocks.BlockError.{BlockError}
use Rattle.packet_capture.specs.declared.pcapng.blocks.BlockError.TheVariants as error
use Rattle.packet_capture.specs.declared.pcapng.blocks.BlockHead.{BlockHead}
use Rattle.packet_capture.specs.declared.pcapng.blocks.Section.{Section}
use Rattle.packet_capture.specs.declared.pcapng.interfaces.Interface.{Interface}
use Rattle.packet_capture.specs.declared.pcapng.packets.PacketType.{PacketType}
use Rattle.packet_capture.specs.declared.pcapng.packets.PacketType.TheVariants.{Enhanced, Obsolete, Simple}
use Rattle.packet_capture.specs.Pcapng.Blocks.{BeginsWithBlock, HasFront, HeadReading, IsWhole, ReadsHead, ReadsWhole, RefusesBlock, Said, for_body, for_head, for_length, front_len, head_in, order_of, trailing_len}
use Rattle.packet_capture.proofs.Once.{least_len_least}
use Rattle.packet_capture.specs.Pcapng.Packets.{PacketReading, ReadsPacket, captured_len, data_start, interface_id, packet_head}

pub slice_range-append : (s more : List ℕ) (i j : ℕ) → i ≤ j → j ≤ length s → slice_range (s ++ more) i j ≡ slice_range s i j
slice_range-append s more i j order within = grind (arith, drop-append-le, take-append-le, length-drop)

magic_of-append : (s more : List ℕ) → 8 ≤ length s → magic_of (s ++ more) ≡ magic_of s
magic_of-append s more enough = grind (arith, slice_range-append)

pub front_len-append : (s more : List ℕ) → 8 ≤ length s → front_len (s ++ more) ≡ front_len s
front_len-append s more enough = grind (arith, magic_of-append)

order_of-append : (section : Section) (s more : List ℕ) → 8 ≤ length s → front_len s ≤ length s → order_of section (s ++ more) ≡ order_of section s
order_of-append section s more enough whole = grind (arith, magic_of-append, slice_range-append)

head_in-append : (order : ByteOrder) (s more : List ℕ) → 8 ≤ length s → head_in order (s ++ more) ≡ head_in order s
head_in-append order s more enough = grind (arith, slice_range-append)

has_front-append : (section : Section) (s more : List ℕ) (head : BlockHead) → HasFront section s head → HasFront section (s ++ more) head
has_front-append section s more head front = record {
  enough = omega (arith, front.enough, length-append s more);
  whole = omega (arith, front.whole, front_len-append s more front.enough, length-append s more);
  order = order_of-append section s more front.enough front.whole ∙ front.order;
  says = front.says ∙ sym (head_in-append head.order s more front.enough);
}

-- the head of a block, or why it is refused, if there are enough bytes for it
pub reads_head-append : (section : Section) (s more : List ℕ) (answer : HeadReading) → ((e : cut.CutOff) → answer ≢ Err (error.CutOff e))
    → ReadsHead section s answer → ReadsHead section (s ++ more) answer
reads_head-append section s more (Ok head) enough reads = (has_front-append section s more head reads.0, reads.1)
reads_head-append section s more (Err (error.CutOff e)) enough reads = absurd (enough e refl)
reads_head-append section s more (Err (error.Magic found)) enough reads = grind (arith, magic_of-append, length-append)
reads_head-append section s more (Err (error.ByteOrderMagic found)) enough reads = grind (arith, magic_of-append, slice_range-append, length-append)
reads_head-append section s more (Err (error.BlockLength of len)) enough reads = record {
  head = reads.head;
  front = has_front-append section s more reads.head reads.front;
  is_type = reads.is_type;
  is_len = reads.is_len;
  wrong = reads.wrong;
}
reads_head-append section s more (Err _) enough reads = absurd reads

packet_head-append : (type : PacketType) (order : ByteOrder) (interface : Interface) (s more : List ℕ) → data_start type ≤ length s
    → packet_head type order interface (s ++ more) ≡ packet_head type order interface s
packet_head-append Enhanced order interface s more enough =
    let slice = λ (i j : ℕ) (order : i ≤ j) (within : j ≤ 28). slice_range-append s more i j order (omega (arith, within, enough)) in
    cc (slice 8 12 (lit≤ tt) (lit≤ tt), slice 12 16 (lit≤ tt) (lit≤ tt), slice 16 20 (lit≤ tt) (lit≤ tt), slice 20 24 (lit≤ tt) (lit≤ tt), slice 24 28 (lit≤ tt) (lit≤ tt))
packet_head-append Simple order interface s more enough = cc (slice_range-append s more 8 12 (lit≤ tt) (omega (arith, enough)))
packet_head-append Obsolete order interface s more enough =
    let slice = λ (i j : ℕ) (order : i ≤ j) (within : j ≤ 28). slice_range-append s more i j order (omega (arith, within, enough)) in
    cc (slice 8 10 (lit≤ tt) (lit≤ tt), slice 12 16 (lit≤ tt) (lit≤ tt), slice 16 20 (lit≤ tt) (lit≤ tt), slice 20 24 (lit≤ tt) (lit≤ tt), slice 24 28 (lit≤ tt) (lit≤ tt))

interface_id-append : (type : PacketType) (order : ByteOrder) (s more : List ℕ) → data_start type ≤ length s → interface_id type order (s ++ more) ≡ interface_id type order s
interface_id-append Enhanced order s more enough = cc (slice_range-append s more 8 12 (lit≤ tt) (omega (arith, enough)))
interface_id-append Simple order s more enough = refl
interface_id-append Obsolete order s more enough = cc (slice_range-append s more 8 10 (lit≤ tt) (omega (arith, enough)))

captured_len-append : (type : PacketType) (order : ByteOrder) (interface : Interface) (s more : List ℕ) → data_start type ≤ length s
    → captured_len type order interface (s ++ more) ≡ captured_len type order interface s
captured_len-append type order interface s more enough = ap (λ h. h.captured_len) (packet_head-append type order interface s more enough)

-- the head of a packet, if the bytes before those of the packet are there
pub reads_packet-append : (type : PacketType) (order : ByteOrder) (interfaces : List Interface) (total_len : ℕ) (s more : List ℕ) (answer : PacketReading) → data_start type ≤ length s
    → ReadsPacket type order interfaces total_len s answer → ReadsPacket type order interfaces total_len (s ++ more) answer
reads_packet-append type order interfaces total_len s more (Ok head) enough reads =
    record {
      interface = ap (slice_get interfaces) (interface_id-append type order s more enough) ∙ reads.interface;
      says = reads.says ∙ sym (packet_head-append type order head.interface s more enough);
      fits = reads.fits;
    }
reads_packet-append type order interfaces total_len s more (Err (error.Interface id count)) enough reads =
    record { number = reads.number ∙ sym (interface_id-append type order s more enough); among = reads.among; none = reads.none }
reads_packet-append type order interfaces total_len s more (Err (error.CapturedLength captured room)) enough reads =
    record {
      interface = reads.interface;
      described = ap (slice_get interfaces) (interface_id-append type order s more enough) ∙ reads.described;
      len = reads.len ∙ sym (captured_len-append type order reads.interface s more enough);
      place = reads.place;
      more = reads.more;
    }
reads_packet-append type order interfaces total_len s more (Err _) enough reads = absurd reads

whole-append : (head : BlockHead) (s more block : List ℕ) → IsWhole head s block → IsWhole head (s ++ more) block
whole-append head s more block whole = record {
  enough = omega (arith, whole.enough, length-append s more);
  is_block = whole.is_block ∙ sym (take-append-le head.total_len s more whole.enough);
  same_len = whole.same_len;
}

-- a block, the section after it, and the bytes after it, which more bytes follow
pub begins_with_block-append : (before : Section) (s more : List ℕ) (after : Section) (found : Said) (rest : List ℕ)
    → BeginsWithBlock before s after found rest → BeginsWithBlock before (s ++ more) after found (rest ++ more)
begins_with_block-append before s more after found rest b = record {
  head = b.head;
  block = b.block;
  body = b.body;
  front = (has_front-append before s more b.head b.front.0, b.front.1);
  whole = whole-append b.head s more b.block b.whole;
  is_rest = ap (λ r. r ++ more) b.is_rest ∙ sym (drop-append-le b.head.total_len s more b.whole.enough);
}

is_refused_whole-append : (head : BlockHead) (s more : List ℕ) (e : BlockError) → ((c : cut.CutOff) → e ≢ error.CutOff c) → ReadsWhole head s (Err e) → ReadsWhole head (s ++ more) (Err e)
is_refused_whole-append head s more (error.CutOff c) enough w = absurd (enough c refl)
is_refused_whole-append head s more (error.Lengths front back) enough w = record {
  enough = omega (arith, w.enough, length-append s more);
  is_front = w.is_front;
  is_back = w.is_back ∙ ap (trailing_len head.order) (sym (take-append-le head.total_len s more w.enough));
  other = w.other;
}
is_refused_whole-append head s more _ enough w = absurd w

-- why a block is refused, if it is not for too few bytes
pub refuses_block-append : (before : Section) (s more : List ℕ) (e : BlockError) → ((c : cut.CutOff) → e ≢ error.CutOff c)
    → RefusesBlock before s e → RefusesBlock before (s ++ more) e
refuses_block-append before s more e enough (for_head h) = for_head (reads_head-append before s more (Err e) (λ c same. enough c cc) h)
refuses_block-append before s more e enough (for_length {head = head} h w) =
    for_length (has_front-append before s more head h.0, h.1) (is_refused_whole-append head s more e enough w)
refuses_block-append before s more e enough (for_body {head = head} {block = block} h w b) =
    for_body (has_front-append before s more head h.0, h.1) (whole-append head s more block w) b

pub front_len-most : (s : List ℕ) → front_len s ≤ 12
front_len-most s = grind arith

-- a block alone, where other bytes have followed it
begins_alone : (before : Section) (t other : List ℕ) (after : Section) (found : Said) (rest : List ℕ)
    → (b : BeginsWithBlock before (t ++ other) after found rest) → length t ≡ b.head.total_len → BeginsWithBlock before t after found []
begins_alone before t other after found rest b len =
    let least = least_len_least b.head.block_type in
    let enough : 12 ≤ length t = omega (arith, len, b.front.1.enough, least) in
    let some : 8 ≤ length t = omega arith in
    let whole : front_len t ≤ length t = omega (arith, front_len-most t) in
    record {
      head = b.head;
      block = b.block;
      front = (
        record {
          enough = some;
          whole = whole;
          order = sym (order_of-append before t other some whole) ∙ b.front.0.order;
          says = b.front.0.says ∙ head_in-append b.head.order t other some;
        },
        b.front.1,
      );
      whole = record {
        enough = omega arith;
        is_block = b.whole.is_block ∙ take-append-le b.head.total_len t other (omega arith);
        same_len = b.whole.same_len;
      };
      body = b.body;
      is_rest = sym (drop_all b.head.total_len t (omega arith));
    }

-- a block at the front of a slice is one at the front of its own bytes, whatever follows them then
pub begins_with_block-front : (before : Section) (t other more : List ℕ) (after : Section) (found : Said) (rest : List ℕ)
    → (b : BeginsWithBlock before (t ++ other) after found rest) → length t ≡ b.head.total_len → BeginsWithBlock before (t ++ more) after found more
begins_with_block-front before t other more after found rest b len =
    begins_with_block-append before t more after found [] (begins_alone before t other after found rest b len)
