-- What a contract sees of an IPv6 header: its fields.
use Rattle.std.specs.Prelude.{ℕ, List}

pub record Ipv6HeaderFields : Type 0 where
  pub traffic_class : ℕ
  pub flow_label : ℕ
  pub payload_length : ℕ
  pub next_header : ℕ
  pub hop_limit : ℕ
  pub source : List ℕ
  pub destination : List ℕ
