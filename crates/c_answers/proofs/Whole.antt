-- A frame that is read whole, from what is read of it as far as it goes.
use Rattle.std.proofs.Common.{ℕ, ◌≡◌, ◌≢◌, Bool, List, Option, Some, None, Ok, Err, Result, ap, arith, subst, sym, ◌∙◌}
use Rattle.etherparse.specs.declared.err.ipv4.HeaderError.TheVariants as ipv4_content
use Rattle.etherparse.specs.declared.err.ipv4.HeaderSliceError.TheVariants as ipv4
use Rattle.etherparse.specs.declared.err.ipv6.HeaderError.TheVariants as ipv6_content
use Rattle.etherparse.specs.declared.err.ipv6.HeaderSliceError.TheVariants as ipv6
use Rattle.packet.proofs.Frames.{after_read, frame_read, link_refused}
use Rattle.packet.specs.SlicedPacket.{IsLaxReadingAfter, IsLaxReadingOf, IsReadingAfter, IsReadingOf, whole_of}
use Rattle.packet.specs.declared.error.SliceError.{SliceError}
use Rattle.packet.specs.declared.error.SliceError.TheVariants as slice
use Rattle.packet.specs.declared.lax_sliced_packet.LaxSlicedPacket.{LaxSlicedPacket}
use Rattle.packet.specs.declared.link.LinkError.{LinkError}
use Rattle.packet.specs.declared.link.LinkType.{LinkType}
use Rattle.packet.specs.declared.sliced_packet.SlicedPacket.{SlicedPacket}
use Rattle.packet_parts.specs.declared.ip_slice.IpSliceError.TheVariants as ip
use Rattle.etherparse_transport.specs.declared.tcp.TcpError.TheVariants as tcp
use Rattle.c_answers.specs.Error.{link_error_in_c, slice_error_in_c}
use Rattle.c_answers.specs.Layers.{GetsAnswer, IsLaxInC, IsPacketInC, IsWholeInC, refused_packet}
use Rattle.c_answers.specs.declared.error.Error.{Error}
use Rattle.c_answers.specs.declared.packet_layers.Packet.{Packet}

-- what stops a reading has a kind
some_kind : (e : SliceError) → (slice_error_in_c e).kind ≢ 0
some_kind (slice.Link e) is = omega (arith, is)
some_kind (slice.Vlan e) is = omega (arith, is)
some_kind (slice.Udp e) is = omega (arith, is)
some_kind (slice.Icmp e) is = omega (arith, is)
some_kind (slice.Tcp (tcp.Len e)) is = omega (arith, is)
some_kind (slice.Tcp (tcp.DataOffset offset)) is = omega (arith, is)
some_kind (slice.Ip (ip.Empty e)) is = omega (arith, is)
some_kind (slice.Ip (ip.UnexpectedVersion version)) is = omega (arith, is)
some_kind (slice.Ip (ip.Packet e)) is = omega (arith, is)
some_kind (slice.Ip (ip.Extensions e)) is = omega (arith, is)
some_kind (slice.Ip (ip.Ipv4Header (ipv4.Len e))) is = omega (arith, is)
some_kind (slice.Ip (ip.Ipv4Header (ipv4.Content (ipv4_content.UnexpectedVersion version)))) is = omega (arith, is)
some_kind (slice.Ip (ip.Ipv4Header (ipv4.Content (ipv4_content.HeaderLengthSmallerThanHeader ihl)))) is = omega (arith, is)
some_kind (slice.Ip (ip.Ipv6Header (ipv6.Len e))) is = omega (arith, is)
some_kind (slice.Ip (ip.Ipv6Header (ipv6.Content (ipv6_content.UnexpectedVersion version)))) is = omega (arith, is)

-- the same answer if nothing stopped the reading, and otherwise the error alone
abbrev pub RefusesStopped : Packet → Packet → Type 0
RefusesStopped a b = (a.stop.kind ≡ 0 → b ≡ a) × (a.stop.kind ≢ 0 → b ≡ refused_packet a.stop)

whole : (frame_len : ℕ) (checksums : Bool) (packet : SlicedPacket) (stop : Option SliceError) (a b : Packet) → IsPacketInC frame_len checksums packet stop a
    → RefusesStopped a b → IsWholeInC frame_len checksums b (whole_of packet stop)
whole frame_len checksums packet None a b in_c refuses =
    subst (IsPacketInC frame_len checksums packet None) (sym (refuses.0 (ap (λ (x : Error). x.kind) in_c.stops))) in_c
whole frame_len checksums packet (Some e) a b in_c refuses =
    refuses.1 (λ none. some_kind e (sym (ap (λ (x : Error). x.kind) in_c.stops) ∙ none)) ∙ ap refused_packet in_c.stops

pub whole_frame : (link_type : LinkType) (frame : List ℕ) (n : ℕ) (checksums : Bool) (a b : Packet) → GetsAnswer (IsLaxReadingOf link_type frame) (IsLaxInC n checksums a)
    → RefusesStopped a b → GetsAnswer (IsReadingOf link_type frame) (IsWholeInC n checksums b)
whole_frame link_type frame n checksums a b gets refuses = of gets.answer gets.allowed gets.in_c
  where
    of : (answer : Result LaxSlicedPacket LinkError) → IsLaxReadingOf link_type frame answer → IsLaxInC n checksums a answer → GetsAnswer (IsReadingOf link_type frame) (IsWholeInC n checksums b)
    of (Ok lax) allowed in_c = record {
      answer = whole_of lax.packet lax.stop;
      allowed = frame_read link_type frame lax.packet lax.stop allowed.reads;
      in_c = whole n checksums lax.packet lax.stop a b in_c refuses;
    }
    of (Err e) allowed in_c =
        let stop : a.stop ≡ link_error_in_c e = ap (λ (x : Packet). x.stop) in_c in record {
          answer = Err (slice.Link e);
          allowed = link_refused link_type frame e allowed.reads;
          in_c = refuses.1 (λ none. some_kind (slice.Link e) (sym (ap (λ (x : Error). x.kind) stop) ∙ none)) ∙ ap refused_packet stop;
        }

pub whole_bytes : (first : Option ℕ) (bytes : List ℕ) (n : ℕ) (checksums : Bool) (a b : Packet)
    → GetsAnswer (IsLaxReadingAfter first bytes) (λ lax. IsPacketInC n checksums lax.packet lax.stop a)
    → RefusesStopped a b → GetsAnswer (IsReadingAfter first bytes) (IsWholeInC n checksums b)
whole_bytes first bytes n checksums a b gets refuses = record {
  answer = whole_of gets.answer.packet gets.answer.stop;
  allowed = after_read first bytes gets.answer.packet gets.answer.stop gets.allowed.reads;
  in_c = whole n checksums gets.answer.packet gets.answer.stop a b gets.in_c refuses;
}
