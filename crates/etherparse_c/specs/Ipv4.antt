-- The fields of an IPv4 header, as C has them: each a number; and what the calls return to C.
use Rattle.std.specs.Prelude.{ℕ, ◌≡◌, ◌<◌, ◌-◌, ◌^◌, ◌++◌, ◌==◌, ◌||◌, List, MatchResult, false}
use Rattle.std.specs.Prelude.{length, not, replicate, take}
use Rattle.etherparse.specs.IpEcn.{ecn_value}
use Rattle.etherparse.specs.Ipv4Header.{IsIpv4LayoutWith, default_ipv4_header, ipv4_header_len}
use Rattle.etherparse.specs.Ipv4Header.{ipv4_ihl, ipv4_max_payload_len, ipv4_payload_len}
use Rattle.etherparse.specs.Ipv4Options.{IsOptionsLen}
use Rattle.etherparse.specs.declared.net.ipv4_header.Ipv4Header.{Ipv4Header}
use Rattle.c_answers.specs.Error.{len_error_in_c, no_error}
use Rattle.etherparse_c.specs.declared.ipv4_header.Ipv4Fields.{Ipv4Fields}
use Rattle.etherparse_c.specs.declared.ipv4_header.Ipv4LengthsAnswer.{Ipv4LengthsAnswer}
use Rattle.etherparse_c.specs.declared.ipv4_view.Ipv4ViewFields.{Ipv4ViewFields}

-- each field fits its bits in a header, and options can have this many bytes
pub record AreWithinBounds (fields : Ipv4Fields) : Type 0 where
  pub dscp : fields.dscp < 2 ^ 6
  pub ecn : fields.ecn < 2 ^ 2
  pub fragment_offset : fields.fragment_offset < 2 ^ 13
  pub options_len : IsOptionsLen fields.options_len

-- the fields of a header, with 0 after its options
abbrev pub ipv4_fields_of : Ipv4Header → Ipv4Fields
ipv4_fields_of header = record {
  dscp = header.dscp;
  ecn = ecn_value header.ecn;
  total_len = header.total_len;
  identification = header.identification;
  dont_fragment = header.dont_fragment;
  more_fragments = header.more_fragments;
  fragment_offset = header.fragment_offset;
  time_to_live = header.time_to_live;
  protocol = header.protocol;
  header_checksum = header.header_checksum;
  source = header.source;
  destination = header.destination;
  options_len = length header.options;
  options = header.options ++ replicate (40 - length header.options) 0;
}

-- all is 0, or false
abbrev pub zero_ipv4_header : Ipv4Header
zero_ipv4_header = record default_ipv4_header { dont_fragment = false; protocol = 0 }

-- the fields are those of this header, whatever follows the options in their array
pub record StandForIpv4 (fields : Ipv4Fields) (header : Ipv4Header) : Type 0 where
  pub options : header.options ≡ take fields.options_len fields.options
  pub others : fields ≡
      record (ipv4_fields_of header) { options_len = fields.options_len; options = fields.options }

-- the bytes are those of the header with these fields, with the reserved bit 0
pub record AreWrittenForIpv4 (fields : Ipv4Fields) (bytes : List ℕ) : Type 0 where
  pub header : Ipv4Header
  pub same : StandForIpv4 fields header
  pub layout : IsIpv4LayoutWith header 0 bytes

-- what the getters of a view of this header return
abbrev pub ipv4_view_of : Ipv4Header → Ipv4ViewFields
ipv4_view_of header = record {
  ihl = ipv4_ihl header;
  dscp = header.dscp;
  ecn = ecn_value header.ecn;
  total_len = header.total_len;
  identification = header.identification;
  dont_fragment = header.dont_fragment;
  more_fragments = header.more_fragments;
  is_fragmenting_payload = header.more_fragments || not (header.fragment_offset == 0);
  fragment_offset = header.fragment_offset;
  time_to_live = header.time_to_live;
  protocol = header.protocol;
  header_checksum = header.header_checksum;
  source = header.source;
  destination = header.destination;
}

-- the lengths of this header; for the payload, 0 and an error if the total length is too small
pub record AreIpv4Lengths (lengths : Ipv4LengthsAnswer) (header : Ipv4Header) : Type 0 where
  pub header_len : lengths.header_len ≡ ipv4_header_len header
  pub ihl : lengths.ihl ≡ ipv4_ihl header
  pub max_payload_len : lengths.max_payload_len ≡ ipv4_max_payload_len header
  pub payload_len : MatchResult (ipv4_payload_len header)
      (λ len. (lengths.payload_len ≡ len) × (lengths.error ≡ no_error))
      (λ e. (lengths.payload_len ≡ 0) × (lengths.error ≡ len_error_in_c e))
