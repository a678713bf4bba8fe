-- What the advertisements of neighbor discovery say in the 4 bytes after the checksum (RFC 4861).
use Rattle.std.specs.Prelude.{ℕ, ◌≡◌, ◌==◌, ◌*◌, ◌/◌, ◌%◌, ◌^◌, List, [], ◌∷◌, drop, slice_index}
use Rattle.std.specs.Prelude.{slice_range}
use Rattle.std.specs.Int.{from_be_bytes, w16}
use Rattle.etherparse_icmp.specs.declared.icmpv6.neighbor.NeighborAdvertisementHeader.{
  NeighborAdvertisementHeader,
}
use Rattle.etherparse_icmp.specs.declared.icmpv6.router.RouterAdvertisementHeader.{
  RouterAdvertisementHeader,
}

-- Those of a router advertisement (section 4.2): the hop limit; the flags M and O, the two upper
-- bits of the next byte, whose others are reserved and can have any value; the lifetime.
pub record HasRouterAdvertisement (header : RouterAdvertisementHeader) (rest : List ℕ)
    : Type 0 where
  pub cur_hop_limit : slice_index rest 0 ≡ header.cur_hop_limit
  pub managed : (slice_index rest 1 / 2 ^ 7 == 1) ≡ header.managed_address_config
  pub other : (slice_index rest 1 / 2 ^ 6 % 2 == 1) ≡ header.other_config
  pub router_lifetime : from_be_bytes w16 (slice_range rest 2 4) ≡ header.router_lifetime

-- the same bytes with the reserved bits 0
abbrev pub router_advertisement_cleared : List ℕ → List ℕ
router_advertisement_cleared rest =
    slice_index rest 0 ∷ slice_index rest 1 / 2 ^ 6 * 2 ^ 6 ∷ drop 2 rest

-- Those of a neighbor advertisement (section 4.4): the flags R, S and O, the three upper bits. All
-- others are reserved and can have any value.
pub record HasNeighborAdvertisement (header : NeighborAdvertisementHeader) (rest : List ℕ)
    : Type 0 where
  pub router : (slice_index rest 0 / 2 ^ 7 == 1) ≡ header.router
  pub solicited : (slice_index rest 0 / 2 ^ 6 % 2 == 1) ≡ header.solicited
  pub override : (slice_index rest 0 / 2 ^ 5 % 2 == 1) ≡ header.override_flag

-- the same bytes with the reserved bits 0
abbrev pub neighbor_advertisement_cleared : List ℕ → List ℕ
neighbor_advertisement_cleared rest = slice_index rest 0 / 2 ^ 5 * 2 ^ 5 ∷ 0 ∷ 0 ∷ 0 ∷ []
