-- The link header of a frame (IEEE 802.3 section 3.1.1; the registry of link types of tcpdump.org).
use Rattle.std.specs.Prelude.{ℕ, ◌≡◌, ◌==◌, ◌||◌, ◌<◌, List, ◌++◌, length, min}
use Rattle.std.specs.Prelude.{Option, Some, None, codes, decimal, if◌then◌else◌, option_map}
use Rattle.std.specs.Int.{from_be_bytes, from_le_bytes, w32}
use Rattle.etherparse_link.specs.Bytes.{number_at}
use Rattle.packet.specs.declared.link.LinkError.{LinkError}
use Rattle.packet.specs.declared.link.LinkSlice.{LinkSlice}
use Rattle.packet.specs.declared.link.LinkSlice.TheVariants as header
use Rattle.packet.specs.declared.link.LinkType.{LinkType}
use Rattle.packet.specs.declared.link.LinkType.TheVariants.{Ethernet2, Framed, Ip, LinuxSll}
use Rattle.packet.specs.declared.link.LinkType.TheVariants.{LinuxSll2, Loop, Null}
use Rattle.packet_links.specs.Framing.{framing_of, header_in}
use Rattle.packet_links.specs.Header.{ether_type_of}
use Rattle.packet_links.specs.declared.header.Carried.{Carried}

-- The link types by their numbers. Those of an IP packet alone are 101 (LINKTYPE_RAW), for which
-- some systems write 12 or 14, 228 (LINKTYPE_IPV4) and 229 (LINKTYPE_IPV6).
abbrev pub link_type_of : ℕ → Option LinkType
link_type_of number =
    if number == 0 then Some Null
    else if number == 1 then Some Ethernet2
    else if number == 12 || number == 14 || number == 101 || number == 228 || number == 229
    then Some Ip
    else if number == 108 then Some Loop
    else if number == 113 then Some LinuxSll
    else if number == 276 then Some LinuxSll2
    else option_map Framed (framing_of number)

-- the length of the link header of a frame, in bytes: that of the type, or as the frame tells it
abbrev pub link_len : LinkType → List ℕ → ℕ
link_len Null frame = 4
link_len Ethernet2 frame = 14
link_len Ip frame = 0
link_len Loop frame = 4
link_len LinuxSll frame = 16
link_len LinuxSll2 frame = 20
link_len (Framed framing) frame = (header_in framing frame).len

-- The family in the header of a loopback interface. LINKTYPE_LOOP has it in network byte order.
-- LINKTYPE_NULL has it in the order of the machine that captured it, which may differ from the
-- file's: it is read in the order that gives the smaller number, since all families are small.
abbrev pub family_of : LinkType → List ℕ → ℕ
family_of Loop bytes = from_be_bytes w32 bytes
family_of _ bytes = min (from_be_bytes w32 bytes) (from_le_bytes w32 bytes)

-- a link header, apart from where it lies in memory
pub data LinkParts : Type 0 where
  Ethernet2Parts : List ℕ → LinkParts
  LinuxSllParts : List ℕ → LinkParts
  LinuxSll2Parts : List ℕ → LinkParts
  LoopbackParts : ℕ → LinkParts
  FramedParts : List ℕ → Carried → LinkParts

abbrev pub link_parts : LinkSlice → LinkParts
link_parts (header.Ethernet2 view) = Ethernet2Parts view.slice.now
link_parts (header.LinuxSll view) = LinuxSllParts view.slice.now
link_parts (header.LinuxSll2 view) = LinuxSll2Parts view.slice.now
link_parts (header.Loopback family) = LoopbackParts family
link_parts (header.Framed slice carried) = FramedParts slice.now carried

-- the header that its bytes make in a frame; before an IP packet without a link header is none
abbrev pub link_in : LinkType → List ℕ → List ℕ → Option LinkParts
link_in Null frame bytes = Some (LoopbackParts (family_of Null bytes))
link_in Ethernet2 frame bytes = Some (Ethernet2Parts bytes)
link_in Ip frame bytes = None
link_in Loop frame bytes = Some (LoopbackParts (family_of Loop bytes))
link_in LinuxSll frame bytes = Some (LinuxSllParts bytes)
link_in LinuxSll2 frame bytes = Some (LinuxSll2Parts bytes)
link_in (Framed framing) frame bytes =
    Some (FramedParts bytes (header_in framing frame).carried)

-- The EtherType that the protocol type of a Linux cooked capture is, by the ARPHRD type of its
-- device (LINKTYPE_LINUX_SLL and LINKTYPE_LINUX_SLL2 of tcpdump.org). For ARPHRD_NETLINK (824) the
-- protocol type is a netlink protocol; for ARPHRD_FRAD (770) and ARPHRD_IEEE80211_RADIOTAP (803) it
-- is ignored. For ARPHRD_IPGRE (778) it is a GRE protocol type, which is an EtherType (RFC 2784
-- section 2.4). For any other it is an EtherType, or a number of Linux's own below 1536.
abbrev pub cooked_ether_type : ℕ → ℕ → Option ℕ
cooked_ether_type arp_hrd_type protocol_type =
    if arp_hrd_type == 824 || arp_hrd_type == 770 || arp_hrd_type == 803 then None
    else Some protocol_type

-- the EtherType of what follows a header: Ethernet has it at the end, a Linux cooked capture too,
-- and one of version 2 at the front; a loopback interface has a family in its place; another
-- framing tells it in its own way, if at all
abbrev pub ether_type_in : LinkType → List ℕ → List ℕ → Option ℕ
ether_type_in Null frame bytes = None
ether_type_in Ethernet2 frame bytes = Some (number_at 12 bytes)
ether_type_in Ip frame bytes = None
ether_type_in Loop frame bytes = None
ether_type_in LinuxSll frame bytes = cooked_ether_type (number_at 2 bytes) (number_at 14 bytes)
ether_type_in LinuxSll2 frame bytes = cooked_ether_type (number_at 8 bytes) (number_at 0 bytes)
ether_type_in (Framed framing) frame bytes = ether_type_of (header_in framing frame).carried

-- the frame is this link header, and what follows it
pub record BeginsWithLink (link_type : LinkType) (frame : List ℕ) (link : Option LinkSlice)
    (ether_type : Option ℕ) (rest : List ℕ) : Type 0 where
  pub front : List ℕ
  pub whole : frame ≡ front ++ rest
  pub len : length front ≡ link_len link_type frame
  pub header : option_map link_parts link ≡ link_in link_type frame front
  pub next : ether_type ≡ ether_type_in link_type frame front

-- The frame is shorter than its link header. If that tells its own length, the error has the length
-- up to which the bytes that are there tell.
pub record LacksLink (link_type : LinkType) (frame : List ℕ) (e : LinkError) : Type 0 where
  pub short : length frame < link_len link_type frame
  pub error : e ≡ record { required_len = link_len link_type frame; len = length frame }

-- the text of such an error
abbrev pub link_error_text : LinkError → List ℕ
link_error_text e = codes "Link Header Error: The header has at least " ++ (decimal e.required_len
    ++ (codes " bytes, the frame " ++ (decimal e.len ++ codes ".")))
