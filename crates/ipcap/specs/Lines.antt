-- The line of a record, and the lines at the end.
use Rattle.std.specs.Prelude.{ℕ, ◌/◌, ◌==◌, Bool, List, [], ◌++◌, codes, decimal}
use Rattle.std.specs.Prelude.{if◌then◌else◌, Option, Some, None, false, true}
use Rattle.std.specs.Prelude.{option_and_then, unwrap_or}
use Rattle.std.specs.Fmt.{digits}
use Rattle.std.specs.Net.Addr.{segments_of}
use Rattle.std.specs.Net.Text.{ipv4_text, ipv6_text}
use Rattle.frame_reassembly.specs.Counts.{left_over}
use Rattle.frame_reassembly.specs.declared.datagrams.Datagrams.{Datagrams}
use Rattle.packet_capture.specs.Any.{is_fine, nanoseconds_of, seconds_of}
use Rattle.packet_capture.specs.FileFormat.{format_named}
use Rattle.packet_capture.specs.declared.any.PacketHead.{PacketHead}
use Rattle.packet_capture.specs.declared.capture.CaptureError.{CaptureError}
use Rattle.packet_capture.specs.declared.capture.CaptureError.TheVariants as capture
use Rattle.packet_capture.specs.declared.file_format.FileFormat.{FileFormat}
use Rattle.packet_capture.specs.declared.file_format.FileFormat.TheVariants as format
use Rattle.packet_links.specs.declared.header.Carried.{Carried}
use Rattle.packet_links.specs.declared.header.Carried.TheVariants as carried
use Rattle.packet_parts.specs.Checksum.{verdict_text}
use Rattle.packet_parts.specs.IpSlice.{destination_of, ip_slice_error_text, source_of}
use Rattle.packet_parts.specs.declared.fragment.Fragment.{Fragment}
use Rattle.packet_parts.specs.declared.ip_slice.IpHeaderSlice.{IpHeaderSlice}
use Rattle.packet_parts.specs.declared.ip_slice.IpHeaderSlice.TheVariants as header
use Rattle.packet_parts.specs.declared.ip_slice.IpSlice.{IpSlice}
use Rattle.ipcap.specs.Dates.{date_time_of, date_time_text}
use Rattle.ipcap.specs.Digits.{zero_padded}
use Rattle.ipcap.specs.Reading.{is_cut}
use Rattle.ipcap.specs.declared.dates.DateTime.{DateTime}
use Rattle.ipcap.specs.Shown.{has_no_length, hops_of, len_of}
use Rattle.ipcap.specs.declared.reading.NoPacket.{NoPacket}
use Rattle.ipcap.specs.declared.reading.NoPacket.TheVariants.{NoLinkHeader, OtherCarried}
use Rattle.ipcap.specs.declared.reading.NoPacket.TheVariants.{OtherDevice, OtherFamily}
use Rattle.ipcap.specs.declared.reading.NoPacket.TheVariants.{OtherLinkType, OtherType}
use Rattle.ipcap.specs.declared.shown.Detail.{Detail}
use Rattle.ipcap.specs.declared.shown.Detail.TheVariants.{Message, Nothing, Ports}
use Rattle.ipcap.specs.declared.request.Mode.{Mode}
use Rattle.ipcap.specs.declared.request.Mode.TheVariants.{Count, Quiet}
use Rattle.ipcap.specs.declared.shown.Shown.{Shown}
use Rattle.ipcap.specs.declared.reading.Reading.{Reading}
use Rattle.ipcap.specs.declared.reading.Reading.TheVariants.{Other, Packet, Refused, Skipped}
use Rattle.ipcap.specs.declared.totals.Totals.{Totals}

-- a fraction of a second: nine digits if it is counted in a unit below a microsecond, and else six
abbrev pub fraction_text : Bool → ℕ → List ℕ
fraction_text is_fine nanoseconds =
    if is_fine then zero_padded 9 (decimal nanoseconds)
    else zero_padded 6 (decimal (nanoseconds / 1000))

-- the date of a time, if dates are asked for and it has one in four digits of year
abbrev pub date_at : Bool → ℕ → Option DateTime
date_at is_utc seconds = if is_utc then date_time_of seconds else None

-- the fraction of a second in the time of a packet
abbrev pub fraction_of : PacketHead → List ℕ
fraction_of head = fraction_text (is_fine head.stamp) (nanoseconds_of head.stamp)

-- the number of a packet and its time: a date in UTC (RFC 3339 section 5.6), or else seconds
unfoldable pub dated_text : Option DateTime → ℕ → PacketHead → List ℕ
dated_text (Some date) number head = decimal number ++ (codes " " ++ (date_time_text date
    ++ (codes "." ++ (fraction_of head ++ codes "Z "))))
dated_text None number head = decimal number ++ (codes " " ++ (decimal (seconds_of head.stamp)
    ++ (codes "." ++ (fraction_of head ++ codes " "))))

-- the same, with a date if dates are asked for
abbrev pub head_text : Bool → ℕ → PacketHead → List ℕ
head_text is_utc number head = dated_text (date_at is_utc (seconds_of head.stamp)) number head

-- the keyword of a protocol's number (IANA's registry of protocol numbers)
unfoldable pub keyword_of : ℕ → Option (List ℕ)
keyword_of number =
    if number == 1 then Some (codes "ICMP")
    else if number == 2 then Some (codes "IGMP")
    else if number == 4 then Some (codes "IPv4")
    else if number == 6 then Some (codes "TCP")
    else if number == 17 then Some (codes "UDP")
    else if number == 41 then Some (codes "IPv6")
    else if number == 46 then Some (codes "RSVP")
    else if number == 47 then Some (codes "GRE")
    else if number == 50 then Some (codes "ESP")
    else if number == 51 then Some (codes "AH")
    else if number == 58 then Some (codes "IPv6-ICMP")
    else if number == 59 then Some (codes "IPv6-NoNxt")
    else if number == 88 then Some (codes "EIGRP")
    else if number == 89 then Some (codes "OSPFIGP")
    else if number == 94 then Some (codes "IPIP")
    else if number == 103 then Some (codes "PIM")
    else if number == 108 then Some (codes "IPComp")
    else if number == 112 then Some (codes "VRRP")
    else if number == 115 then Some (codes "L2TP")
    else if number == 132 then Some (codes "SCTP")
    else if number == 136 then Some (codes "UDPLite")
    else if number == 137 then Some (codes "MPLS-in-IP")
    else None

-- a protocol's keyword, or its number if it has none
abbrev pub upper_text : ℕ → List ℕ
upper_text number = unwrap_or (keyword_of number) (decimal number)

-- ports, or type and code, or a dash
abbrev pub detail_text : Detail → List ℕ
detail_text (Ports source destination) = decimal source ++ (codes ">" ++ decimal destination)
detail_text (Message kind code) = decimal kind ++ (codes "/" ++ decimal code)
detail_text Nothing = codes "-"

-- the identification and the offset of a fragment, with a plus if more fragments follow
abbrev pub place_text : Option Fragment → List ℕ
place_text None = codes "-"
place_text (Some fragment) = decimal fragment.identification ++ (codes "@"
    ++ (decimal fragment.offset ++ (if fragment.more_fragments then codes "+" else [])))

-- whether the checksum of a header is right
abbrev pub header_verdict_text : Option Bool → List ℕ
header_verdict_text None = codes "none"
header_verdict_text (Some true) = codes "right"
header_verdict_text (Some false) = codes "wrong"

-- the text of an address, by the version of the packet: dotted decimals, or that of RFC 5952
abbrev pub address_text : IpHeaderSlice → List ℕ → List ℕ
address_text (header.Ipv4 view) octets = ipv4_text octets
address_text (header.Ipv6 view) octets = ipv6_text (segments_of octets)

-- sender, receiver and protocol, and what is shown of the header that the payload begins with
abbrev pub slice_text : IpSlice → Detail → List ℕ
slice_text slice detail = address_text slice.header (source_of slice.header) ++ (codes " > "
    ++ (address_text slice.header (destination_of slice.header) ++ (codes " "
    ++ (upper_text slice.upper ++ (codes " " ++ detail_text detail)))))

-- the same of a packet that is shown
unfoldable pub parties_text : Shown → List ℕ
parties_text shown = slice_text shown.lax.slice shown.detail

-- that the length field is 0 and says nothing
abbrev pub no_length_text : IpHeaderSlice → List ℕ
no_length_text (header.Ipv4 view) = codes " total length 0"
no_length_text (header.Ipv6 view) = codes " payload length 0"

-- the length of the payload, the hops left, the place of a fragment, the verdicts on the checksums
-- of the IPv4 header and of the payload, and whether the length field says nothing
unfoldable pub payload_text : Shown → List ℕ
payload_text shown = codes " length " ++ (decimal (len_of shown.lax.slice) ++ (codes " hops "
    ++ (decimal (hops_of shown.lax.slice)
    ++ (codes " fragment " ++ (place_text shown.lax.slice.fragment
    ++ (codes " checksums " ++ (header_verdict_text shown.is_header_right ++ (codes " "
    ++ (verdict_text shown.verdict
    ++ (if has_no_length shown.lax.slice then no_length_text shown.lax.slice.header
    else []))))))))))

-- what is shown of a packet
abbrev pub shown_text : Shown → List ℕ
shown_text shown = parties_text shown ++ payload_text shown

-- four hex digits, in lower case
abbrev pub hex_text : ℕ → List ℕ
hex_text number = zero_padded 4 (digits 16 false number)

-- two hex digits, in lower case
abbrev pub byte_text : ℕ → List ℕ
byte_text number = zero_padded 2 (digits 16 false number)

-- what another framing tells of the bytes after its header
unfoldable pub carried_text : Carried → List ℕ
carried_text (carried.EtherType number) = codes "type 0x" ++ hex_text number
carried_text (carried.PppProtocol number) = codes "protocol 0x" ++ hex_text number
carried_text (carried.Nlpid number) = codes "NLPID 0x" ++ byte_text number
carried_text carried.Ip = codes "IP"
carried_text (carried.Llc dsap) = codes "LLC 0x" ++ byte_text dsap
carried_text carried.Snap = codes "SNAP"
carried_text carried.Management = codes "management frame"
carried_text carried.Control = codes "control frame"
carried_text carried.Extension = codes "extension frame"
carried_text carried.NoData = codes "no data"
carried_text carried.Encrypted = codes "encrypted"
carried_text carried.Fragment = codes "fragment"
carried_text carried.Aggregate = codes "aggregate"
carried_text carried.Unknown = codes "unknown link header"

-- the name of a link type that is not read, without its prefix (tcpdump.org's registry of
-- link-layer header types)
unfoldable pub link_type_name : ℕ → Option (List ℕ)
link_type_name number =
    if number == 3 then Some (codes "AX25")
    else if number == 6 then Some (codes "IEEE802_5")
    else if number == 7 then Some (codes "ARCNET_BSD")
    else if number == 10 then Some (codes "FDDI")
    else if number == 51 then Some (codes "PPP_ETHER")
    else if number == 100 then Some (codes "ATM_RFC1483")
    else if number == 117 then Some (codes "PFLOG")
    else if number == 119 then Some (codes "IEEE802_11_PRISM")
    else if number == 122 then Some (codes "IP_OVER_FC")
    else if number == 123 then Some (codes "SUNATM")
    else if number == 138 then Some (codes "APPLE_IP_OVER_IEEE1394")
    else if number == 139 then Some (codes "MTP2_WITH_PHDR")
    else if number == 140 then Some (codes "MTP2")
    else if number == 141 then Some (codes "MTP3")
    else if number == 142 then Some (codes "SCCP")
    else if number == 143 then Some (codes "DOCSIS")
    else if number == 147 then Some (codes "USER0")
    else if number == 163 then Some (codes "IEEE802_11_AVS")
    else if number == 165 then Some (codes "BACNET_MS_TP")
    else if number == 166 then Some (codes "PPP_PPPD")
    else if number == 177 then Some (codes "LINUX_LAPD")
    else if number == 187 then Some (codes "BLUETOOTH_HCI_H4")
    else if number == 189 then Some (codes "USB_LINUX")
    else if number == 192 then Some (codes "PPI")
    else if number == 195 then Some (codes "IEEE802_15_4_WITHFCS")
    else if number == 197 then Some (codes "ERF")
    else if number == 201 then Some (codes "BLUETOOTH_HCI_H4_WITH_PHDR")
    else if number == 204 then Some (codes "PPP_WITH_DIR")
    else if number == 215 then Some (codes "IEEE802_15_4_NONASK_PHY")
    else if number == 220 then Some (codes "USB_LINUX_MMAPPED")
    else if number == 227 then Some (codes "CAN_SOCKETCAN")
    else if number == 230 then Some (codes "IEEE802_15_4_NOFCS")
    else if number == 239 then Some (codes "NFLOG")
    else if number == 243 then Some (codes "MPEG_2_TS")
    else if number == 247 then Some (codes "INFINIBAND")
    else if number == 249 then Some (codes "USBPCAP")
    else if number == 251 then Some (codes "BLUETOOTH_LE_LL")
    else if number == 252 then Some (codes "WIRESHARK_UPPER_PDU")
    else if number == 253 then Some (codes "NETLINK")
    else if number == 256 then Some (codes "BLUETOOTH_LE_LL_WITH_PHDR")
    else if number == 272 then Some (codes "NORDIC_BLE")
    else if number == 283 then Some (codes "IEEE802_15_4_TAP")
    else None

-- a name in parentheses after a number
abbrev pub name_text : Option (List ℕ) → List ℕ
name_text None = []
name_text (Some name) = codes " (" ++ (name ++ codes ")")

-- why a frame has no packet
abbrev pub no_packet_text : NoPacket → List ℕ
no_packet_text (NoLinkHeader len) =
    codes "truncated link header (" ++ (decimal len ++ codes " bytes)")
no_packet_text (OtherType ether_type) = codes "type 0x" ++ hex_text ether_type
no_packet_text (OtherFamily family) = codes "family " ++ decimal family
no_packet_text (OtherDevice number) = codes "ARPHRD " ++ decimal number
no_packet_text (OtherCarried carried) = carried_text carried
no_packet_text (OtherLinkType number) =
    codes "link type " ++ (decimal number ++ name_text (link_type_name number))

-- how many bytes were captured, and of how many, if the record was cut
abbrev pub cut_text : PacketHead → List ℕ
cut_text head = if is_cut head
    then codes " cut " ++ (decimal head.captured_len ++ (codes "/" ++ decimal head.original_len))
    else []

-- the text on a frame: what is shown of its packet, or why that is refused, or why there is none;
-- or that the record is too long for the buffer
unfoldable pub reading_text : PacketHead → Reading → List ℕ
reading_text head (Packet shown) = shown_text shown ++ cut_text head
reading_text head (Refused e) = codes "error: " ++ (ip_slice_error_text e ++ cut_text head)
reading_text head (Other e) = codes "other: " ++ (no_packet_text e ++ cut_text head)
reading_text head Skipped =
    codes "skipped: record too long (" ++ (decimal head.captured_len ++ codes " bytes)")

-- the end of a line: whether the packet is put together
abbrev pub mark_text : Bool → List ℕ
mark_text is_reassembled = if is_reassembled then codes " reassembled\n" else codes "\n"

-- the line of a record
abbrev pub record_line : Bool → ℕ → Bool → PacketHead → Reading → List ℕ
record_line is_utc number is_reassembled head reading =
    head_text is_utc number head ++ (reading_text head reading ++ mark_text is_reassembled)

-- how many records there are, and with an expression how many of them match
abbrev pub count_text : Bool → Totals → List ℕ
count_text has_filter totals =
    if has_filter then decimal totals.listed ++ (codes " of " ++ decimal totals.records)
    else decimal totals.records

-- the first half of the closing line: how many records there are, and of which kinds those are that
-- are listed
unfoldable pub kinds_text : Bool → Totals → List ℕ
kinds_text has_filter totals =
    count_text has_filter totals ++ (codes " packets: " ++ (decimal totals.ipv4
    ++ (codes " IPv4, " ++ (decimal totals.ipv6 ++ (codes " IPv6, "
    ++ (decimal totals.other ++ (codes " other, "
    ++ (decimal totals.refused ++ codes " refused, "))))))))

-- the second half: how many are skipped, cut, or have a wrong checksum
unfoldable pub damage_text : Totals → List ℕ
damage_text totals =
    decimal totals.skipped ++ (codes " skipped, " ++ (decimal totals.cut ++ (codes " cut, "
    ++ (decimal totals.wrong ++ codes " with a wrong checksum"))))

-- what became of the datagrams, if packets are put together, and the end of the line
unfoldable pub datagrams_text : Option Datagrams → List ℕ
datagrams_text None = codes "\n"
datagrams_text (Some datagrams) = codes "; datagrams: " ++ (decimal datagrams.put_together
    ++ (codes " reassembled, " ++ (decimal datagrams.discarded ++ (codes " discarded, "
    ++ (decimal (left_over datagrams) ++ codes " incomplete\n")))))

-- the closing line
abbrev pub closing_line : Bool → Totals → List ℕ
closing_line has_filter totals =
    kinds_text has_filter totals ++ (damage_text totals ++ datagrams_text totals.datagrams)

-- how many records are listed, in the words of tcpdump's option `--count`
unfoldable pub packets_line : Totals → List ℕ
packets_line totals = decimal totals.listed
    ++ (if totals.listed == 1 then codes " packet\n" else codes " packets\n")

-- what stands on standard output after the records: in a quiet run the closing line, or how many
-- are listed if that is what is asked for
abbrev pub closing_text : Mode → Bool → Totals → List ℕ
closing_text Quiet has_filter totals = closing_line has_filter totals
closing_text Count has_filter totals = packets_line totals
closing_text mode has_filter totals = []

-- what standard error gets at the end: the closing line, unless it has its place on standard output
abbrev pub report_text : Mode → Bool → Totals → List ℕ
report_text Quiet has_filter totals = []
report_text Count has_filter totals = []
report_text mode has_filter totals = closing_line has_filter totals

-- a format that is not read, and the command that makes a capture of a file in it
abbrev pub other_format : FileFormat → Option (List ℕ)
other_format format.ModifiedPcap = Some (codes "a modified pcap: tshark -r FILE -w - | ipcap")
other_format format.Snoop = Some (codes "snoop: tshark -r FILE -w - | ipcap")
other_format format.Gzip = Some (codes "gzip: zcat FILE | ipcap")
other_format format.Zstandard = Some (codes "zstd: zstdcat FILE | ipcap")
other_format format.Xz = Some (codes "xz: xzcat FILE | ipcap")
other_format format.Bzip2 = Some (codes "bzip2: bzcat FILE | ipcap")
other_format format.Lz4 = Some (codes "lz4: lz4cat FILE | ipcap")
other_format format.Zip = Some (codes "zip: unzip -p FILE | ipcap")
other_format format.Pcap = None
other_format format.Pcapng = None

-- the same of a file that begins with this magic number
abbrev pub other_format_named : ℕ → Option (List ℕ)
other_format_named magic = option_and_then other_format (format_named magic)

-- what a magic number says that is none of a capture: the other format, or the number in eight hex
-- digits
abbrev pub magic_text : Option (List ℕ) → ℕ → List ℕ
magic_text (Some other) magic = codes "this is " ++ other
magic_text None magic =
    codes "the magic number is 0x" ++ zero_padded 8 (digits 16 false magic)

-- why an input is no capture
unfoldable pub capture_error_line : CaptureError → List ℕ
capture_error_line (capture.CutOff e) =
    codes "error: no capture: " ++ (decimal e.len ++ codes " bytes are no file header\n")
capture_error_line (capture.Magic magic) =
    codes "error: no capture: " ++ (magic_text (other_format_named magic) magic ++ codes "\n")
capture_error_line (capture.Version major minor) =
    codes "error: no capture: the version is " ++ (decimal major ++ (codes "."
    ++ (decimal minor ++ codes "\n")))

-- the line on a capture with a link type that is not read: its number, and its name if it has one
-- here
unfoldable pub link_type_line : ℕ → List ℕ
link_type_line link_type =
    codes "error: link type " ++ (decimal link_type ++ (name_text (link_type_name link_type)
    ++ codes " is not read\n"))
