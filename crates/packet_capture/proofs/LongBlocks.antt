-- A block that a program skips, from its front and its end, whatever follows it.
use Rattle.std.proofs.Common.{ℕ, ◌≡◌, ◌≢◌, ◌≤◌, ◌+◌, ◌-◌, List, [], ◌++◌, length, slice_range, drop, Ok, Err, ap, lit≤, refl, subst, sym, ◌∙◌, arith, append-nil, length-append, length-drop}
use Rattle.std.proofs.lemmas.List.{drop_all, take_all}
use Rattle.packet_capture.specs.Any.{BeginsWith, RefusesBlock, Said, packet, said_of}
use Rattle.packet_capture.specs.Capture.{Recorded, record_head, record_len}
use Rattle.packet_capture.specs.Pcapng.Blocks.{BeginsWithBlock, ReadsBody, has_packet, is_other}
use Rattle.packet_capture.specs.Pcapng.Blocks as blocks
use Rattle.packet_capture.specs.Pcapng.Packets.{data_start}
use Rattle.packet_capture.specs.Skip.{CanBeSkipped, EndsRight, HasBlockFront, SaysContent, front_len}
use Rattle.packet_capture.specs.declared.any.Capture.{Capture}
use Rattle.packet_capture.specs.declared.any.Capture.TheVariants.{Pcap, Pcapng}
use Rattle.packet_capture.specs.declared.capture.CutOff as cut
use Rattle.packet_capture.specs.declared.capture.FileHeader.{FileHeader}
use Rattle.packet_capture.specs.declared.pcapng.blocks.BlockError.{BlockError}
use Rattle.packet_capture.specs.declared.pcapng.blocks.BlockError.TheVariants as error
use Rattle.packet_capture.specs.declared.pcapng.blocks.BlockHead.{BlockHead}
use Rattle.packet_capture.specs.declared.pcapng.blocks.BlockType.{BlockType}
use Rattle.packet_capture.specs.declared.pcapng.blocks.BlockType.TheVariants as type
use Rattle.packet_capture.specs.declared.pcapng.blocks.Section.{Section}
use Rattle.packet_capture.specs.declared.pcapng.packets.PacketType.{PacketType}
use Rattle.packet_capture.specs.declared.pcapng.packets.PacketType.TheVariants.{Enhanced, Obsolete, Simple}
use Rattle.packet_capture.specs.declared.skip.BlockFront.{BlockFront}
use Rattle.packet_capture.specs.declared.skip.Content.{Content}
use Rattle.packet_capture.specs.declared.skip.Content.TheVariants as content
use Rattle.packet_capture.proofs.AnyFronts.{begins_with-front, record_head-append}
use Rattle.packet_capture.proofs.Fronts.{reads_head-append, reads_packet-append, refuses_block-append}

data_start-most : (of : PacketType) → data_start of ≤ 28
data_start-most Enhanced = lit≤ tt
data_start-most Simple = lit≤ tt
data_start-most Obsolete = lit≤ tt

says_content-append : (of : BlockType) (section : Section) (head : BlockHead) (s more : List ℕ) (found : Content) → 28 ≤ length s → SaysContent of section head s found → SaysContent of section head (s ++ more) found
says_content-append type.SectionHeader section head s more found enough says = says
says_content-append type.InterfaceDescription section head s more found enough says = says
says_content-append (type.Packet of) section head s more (content.Packet of_packet) enough says =
    (says.0, reads_packet-append of head.order section.interfaces.items head.total_len s more (Ok says.0) (omega (arith, data_start-most of, enough)) says.1, says.2)
says_content-append (type.Packet of) section head s more (content.Refused e) enough says =
    reads_packet-append of head.order section.interfaces.items head.total_len s more (Err e) (omega (arith, data_start-most of, enough)) says
says_content-append (type.Packet of) section head s more content.Description enough says = absurd says
says_content-append (type.Packet of) section head s more content.Other enough says = absurd says
says_content-append (type.Other number) section head s more found enough says = says

-- the front of a block, whatever follows
pub has_block_front-append : (capture : Capture) (s more : List ℕ) (front : BlockFront) → front_len capture ≤ length s → HasBlockFront capture s front → HasBlockFront capture (s ++ more) front
has_block_front-append (Pcap header) s more front enough has = has ∙ cc (sym (record_head-append header s more enough))
has_block_front-append (Pcapng section) s more front enough has = record {
  head = has.head;
  reads = reads_head-append section s more (Ok has.head) (λ e same. absurd (grind arith)) has.reads;
  is_head = has.is_head;
  is_len = has.is_len;
  says = says_content-append has.head.block_type section has.head s more front.content enough has.says;
}

-- why a block is refused, if it is not for too few bytes
pub refuses_next-append : (capture : Capture) (s more : List ℕ) (e : BlockError) → ((c : cut.CutOff) → e ≢ error.CutOff c) → RefusesBlock capture s e → RefusesBlock capture (s ++ more) e
refuses_next-append (Pcap header) s more (error.CutOff c) other r = absurd (other c refl)
refuses_next-append (Pcap header) s more _ other r = absurd r
refuses_next-append (Pcapng section) s more e other r = (omega (arith, r.0, length-append s more), refuses_block-append section s more e other r.1)

-- what a whole block says that can be skipped: nothing that changes the section
body_of : (of : BlockType) (section : Section) (head : BlockHead) (t : List ℕ) (found : Content) → SaysContent of section head t found → CanBeSkipped found → length t ≡ head.total_len
    → (says : blocks.Said) × ReadsBody of section head.order t (Ok (section, says))
body_of type.SectionHeader section head t found says can len = absurd (subst (λ x. CanBeSkipped x) says can)
body_of type.InterfaceDescription section head t found says can len = absurd (subst (λ x. CanBeSkipped x) says can)
body_of (type.Packet of) section head t (content.Packet of_packet) says can len =
    (has_packet says.0 (slice_range t (data_start of) (data_start of + says.0.captured_len)), (says.0, rw len says.1, refl))
body_of (type.Packet of) section head t (content.Refused e) says can len = absurd can
body_of (type.Packet of) section head t content.Description says can len = absurd says
body_of (type.Packet of) section head t content.Other says can len = absurd says
body_of (type.Other number) section head t found says can len = (is_other number, refl)

record_alone : (header : FileHeader) (t : List ℕ) → 16 ≤ length t → length t ≡ record_len header t → (said : Said) × BeginsWith (Pcap header) t (Pcap header) said []
record_alone header t enough len =
    let found : Recorded = record {
      seconds = (record_head header t).seconds;
      nanoseconds = (record_head header t).nanoseconds;
      original_len = (record_head header t).original_len;
      bytes = slice_range t 16 (record_len header t);
    } in (
      packet _ (slice_range t 16 (record_len header t)),
      (
        refl,
        record {
          recorded = found;
          begins = record {
            enough = enough;
            whole = omega (arith, len);
            seconds = refl;
            nanoseconds = refl;
            original_len = refl;
            bytes = refl;
            after = sym (drop_all (record_len header t) t (omega (arith, len)));
          };
          says = refl;
        },
      ),
    )

block_alone : (section : Section) (t : List ℕ) (front : BlockFront) → 28 ≤ length t → HasBlockFront (Pcapng section) t front → length t ≡ front.len → EndsRight front.head (drop (length t - 4) t) → CanBeSkipped front.content
    → (said : Said) × BeginsWith (Pcapng section) t (Pcapng section) said []
block_alone section t front enough has len right can =
    let whole : length t ≡ has.head.total_len = len ∙ has.is_len in
    let end = subst (λ h. EndsRight h (drop (length t - 4) t)) has.is_head right in
    let last : slice_range t (length t - 4) (length t) ≡ drop (length t - 4) t = take_all (length t - (length t - 4)) (drop (length t - 4) t) (omega (arith, length-drop (length t - 4) t)) in
    let body = body_of has.head.block_type section has.head t front.content has.says can whole in (
      said_of body.0,
      record {
        says = body.0;
        begins = record {
          head = has.head;
          block = t;
          front = has.reads;
          whole = record { enough = omega (arith, whole); is_block = sym (take_all has.head.total_len t (omega (arith, whole))); same_len = rw last end };
          body = body.1;
          is_rest = sym (drop_all has.head.total_len t (omega (arith, whole)));
        };
        of = refl;
      },
    )

alone : (capture : Capture) (t : List ℕ) (front : BlockFront) → front_len capture ≤ length t → HasBlockFront capture t front → length t ≡ front.len → EndsRight front.head (drop (length t - 4) t) → CanBeSkipped front.content
    → (said : Said) × BeginsWith capture t capture said []
alone (Pcap header) t front enough has len right can = record_alone header t enough (len ∙ ap (λ f. f.len) has)
alone (Pcapng section) t front enough has len right can = block_alone section t front enough has len right can

-- a block with this front that ends with its length, whatever follows
pub begins_with_long : (capture : Capture) (t more : List ℕ) (front : BlockFront) → front_len capture ≤ length t → HasBlockFront capture t front → length t ≡ front.len → EndsRight front.head (drop (length t - 4) t) → CanBeSkipped front.content
    → (said : Said) × BeginsWith capture (t ++ more) capture said more
begins_with_long capture t more front enough has len right can =
    let found = alone capture t front enough has len right can in
    (found.0, begins_with-front capture t [] more capture found.0 [] (rw (append-nil t) found.1) (omega (arith, ap length (append-nil t))))
