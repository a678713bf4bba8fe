use Rattle.std.proofs.Common.{ℕ, ◌≡◌, ◌+◌, ◌++◌, ◌∙◌, List, [], None, ap, arith, inl, length, length-append, refl, take}
use Rattle.etherparse.specs.ExtensionHeaderChain.{incomplete_header_error}
use Rattle.packet_parts.proofs.IpPackets.{says_nothing}
use Rattle.packet_parts.proofs.IpParts.{cut_front}
use Rattle.packet_parts.specs.Extensions.{at_front}
use Rattle.packet_parts.specs.IpSlice.{ipv6_bytes, ipv6_trimmed}
use Rattle.packet_parts.proofs.ip_slice.slice_without_length.Goals as goal

pub returns : goal.returns
returns c = record {
  found = λ packet read none begins view.
      let (zero, first, silent) = says_nothing read.payload_length read.next_header none in
      let all : ipv6_bytes read packet ≡ packet = rw silent refl in
      let cut = cut_front packet begins.front c.args.body.now read.payload_length (40 + read.payload_length) begins.whole (omega (arith, begins.layout.len)) in
      let trimmed : ipv6_trimmed read packet ≡ begins.front ++ [] = cut ∙ ap (λ n. begins.front ++ take n c.args.body.now) zero in
      record {
        parts = c.ipv6_parts-slice.ensures.parts packet read (record { front = begins.front; whole = all ∙ begins.whole; layout = begins.layout }) view;
        stop = record {
          header = read;
          body = [];
          enough = omega (arith, zero, ap length begins.whole, length-append {A = ℕ}, begins.layout.len);
          begins = record { front = begins.front; whole = trimmed; layout = begins.layout };
          fragment = None;
          number = 0;
          rest = [];
          inside = incomplete_header_error 0 [] 0;
          ends = rw first (record { passes = at_front; skippable = inl refl; short = omega arith }, refl);
          moved = refl;
        };
      };
}
