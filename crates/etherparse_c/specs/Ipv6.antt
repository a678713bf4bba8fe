-- The fields of an IPv6 header, as C has them: each a number; and what the calls return to C.
use Rattle.std.specs.Prelude.{ℕ, ◌≡◌, ◌/◌, ◌%◌, ◌^◌, List}
use Rattle.etherparse.specs.Ipv6Header.{IsIpv6Layout, default_ipv6_header}
use Rattle.etherparse.specs.declared.net.ipv6_header.Ipv6Header.{Ipv6Header}
use Rattle.etherparse_c.specs.declared.ipv6_header.Ipv6Fields.{Ipv6Fields}
use Rattle.etherparse_c.specs.declared.ipv6_view.Ipv6ViewFields.{Ipv6ViewFields}

-- the fields of a header
abbrev pub ipv6_fields_of : Ipv6Header → Ipv6Fields
ipv6_fields_of header = record {
  traffic_class = header.traffic_class;
  flow_label = header.flow_label;
  payload_length = header.payload_length;
  next_header = header.next_header;
  hop_limit = header.hop_limit;
  source = header.source;
  destination = header.destination;
}

-- all is 0
abbrev pub zero_ipv6_header : Ipv6Header
zero_ipv6_header = record default_ipv6_header { next_header = 0 }

-- the bytes are those of the header that has these fields
pub record AreWrittenForIpv6 (fields : Ipv6Fields) (bytes : List ℕ) : Type 0 where
  pub header : Ipv6Header
  pub same : fields ≡ ipv6_fields_of header
  pub layout : IsIpv6Layout header bytes

-- what the getters of a view of this header return
abbrev pub ipv6_view_of : Ipv6Header → Ipv6ViewFields
ipv6_view_of header = record {
  traffic_class = header.traffic_class;
  dscp = header.traffic_class / 2 ^ 2;
  ecn = header.traffic_class % 2 ^ 2;
  flow_label = header.flow_label;
  payload_length = header.payload_length;
  next_header = header.next_header;
  hop_limit = header.hop_limit;
  source = header.source;
  destination = header.destination;
}
