-- The headers that the steps of a builder begin with.
use Rattle.std.specs.Prelude.{ℕ, List, Option, false}
use Rattle.etherparse.specs.Ipv4Header.{default_ipv4_header}
use Rattle.etherparse.specs.Ipv6Header.{default_ipv6_header}
use Rattle.etherparse_link.specs.declared.linux_sll_header.LinuxSllHeader.{LinuxSllHeader}
use Rattle.etherparse_link.specs.declared.single_vlan_header.SingleVlanHeader.{SingleVlanHeader}
use Rattle.packet_builder.specs.declared.headers.IpHeader.{IpHeader}
use Rattle.packet_builder.specs.declared.headers.IpHeader.TheVariants as ip
use Rattle.packet_builder.specs.declared.headers.LinkHeader.{LinkHeader}
use Rattle.packet_builder.specs.declared.headers.LinkHeader.TheVariants as link
use Rattle.packet_builder.specs.declared.headers.VlanHeader.{VlanHeader}
use Rattle.packet_builder.specs.declared.ip_step.IpStep.{IpStep}
use Rattle.packet_builder.specs.declared.link_step.LinkStep.{LinkStep}

-- an Ethernet header between two addresses, with no EtherType yet
abbrev pub ethernet2_step : List ℕ → List ℕ → LinkStep
ethernet2_step source destination = record {
  link = link.Ethernet2 (record {
    source = source;
    destination = destination;
    ether_type = 0;
  });
}

-- the header of a Linux cooked capture
abbrev pub linux_sll_step : LinuxSllHeader → LinkStep
linux_sll_step header = record { link = link.LinuxSll header }

-- a tag of a VLAN with priority 0, with no EtherType yet
abbrev pub tag_of : ℕ → SingleVlanHeader
tag_of vlan_id = record {
  pcp = 0;
  drop_eligible_indicator = false;
  vlan_id = vlan_id;
  ether_type = 0;
}

-- an IPv4 header between two addresses, with no options, and all else as in the default
abbrev pub ipv4_header : List ℕ → List ℕ → ℕ → IpHeader
ipv4_header source destination time_to_live = ip.Ipv4 (record default_ipv4_header {
  time_to_live = time_to_live;
  source = source;
  destination = destination;
})

-- the same of IPv6
abbrev pub ipv6_header : List ℕ → List ℕ → ℕ → IpHeader
ipv6_header source destination hop_limit = ip.Ipv6 (record default_ipv6_header {
  hop_limit = hop_limit;
  source = source;
  destination = destination;
})

-- an IP header after a link header and tags, if there are any
abbrev pub ip_step : Option LinkHeader → Option VlanHeader → IpHeader → IpStep
ip_step link vlan ip = record { headers = record { link = link; vlan = vlan; ip = ip } }
