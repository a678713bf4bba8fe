-- What a monitor tells of the headers of two packets.
use Rattle.std.specs.Prelude.{ℕ, ◌≡◌, ◌↔◌, ◌⊎◌, Bool, IsTrue, List}
use Rattle.etherparse.specs.Ipv4Header.{IsIpv4Layout, RefusesIpv4}
use Rattle.etherparse.specs.Reading.{BeginsWith}
use Rattle.etherparse.specs.declared.err.ipv4.HeaderSliceError.{HeaderSliceError}
use Rattle.etherparse.specs.declared.net.ipv4_header.Ipv4Header.{Ipv4Header}

-- both packets begin with an IPv4 header, and this says whether with the same one
pub record ComparesIpv4 (first other : List ℕ) (same : Bool) : Type 0 where
  pub header : Ipv4Header
  pub rest : List ℕ
  pub begins : BeginsWith IsIpv4Layout first header rest
  pub again : Ipv4Header
  pub rest_again : List ℕ
  pub begins_again : BeginsWith IsIpv4Layout other again rest_again
  pub told : IsTrue same ↔ (header ≡ again)

-- the first packet begins with a header, and the other with none
pub record RefusesOther (first other : List ℕ) (e : HeaderSliceError) : Type 0 where
  pub header : Ipv4Header
  pub rest : List ℕ
  pub begins : BeginsWith IsIpv4Layout first header rest
  pub refused : RefusesIpv4 other e

-- why two packets are not compared: the first has no header; or else the other has none
abbrev pub RefusesOneIpv4 : List ℕ → List ℕ → HeaderSliceError → Type 0
RefusesOneIpv4 first other e = RefusesIpv4 first e ⊎ RefusesOther first other e
