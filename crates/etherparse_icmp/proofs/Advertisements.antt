-- The bytes after the checksum of an advertisement: they have its fields, and its fields them.
use Rattle.std.proofs.Common.{ℕ, ◌≡◌, ◌+◌, ◌*◌, ◌/◌, ◌%◌, ◌<◌, ◌==◌, List, [], ◌∷◌, length, drop}
use Rattle.std.proofs.Common.{slice_index, arith, drop_of_length-le, rules, w16}
use Rattle.std.specs.Int.{from_be_bytes, from_bool, to_be_bytes}
use Rattle.std.specs.List.{slice_range}
use Rattle.std.proofs.lemmas.Grind.{common_steps}
use Rattle.etherparse.proofs.Layouts.{told, u16}
use Rattle.etherparse.specs.Bytes.{IsBytes}
use Rattle.etherparse_icmp.specs.Advertisements.{HasNeighborAdvertisement, HasRouterAdvertisement}
use Rattle.etherparse_icmp.specs.Advertisements.{neighbor_advertisement_cleared}
use Rattle.etherparse_icmp.specs.Advertisements.{router_advertisement_cleared}
use Rattle.etherparse_icmp.specs.declared.icmpv6.neighbor.NeighborAdvertisementHeader.{NeighborAdvertisementHeader}
use Rattle.etherparse_icmp.specs.declared.icmpv6.router.RouterAdvertisementHeader.{RouterAdvertisementHeader}

-- a flag is a bit as a number
flag_is : (n : ℕ) → n < 2 → from_bool (n == 1) ≡ n
flag_is n few = grind (arith, common_steps)

abbrev pub router_of : List ℕ → RouterAdvertisementHeader
router_of rest = record {
  cur_hop_limit = slice_index rest 0;
  managed_address_config = slice_index rest 1 / 128 == 1;
  other_config = slice_index rest 1 / 64 % 2 == 1;
  router_lifetime = from_be_bytes w16 (slice_range rest 2 4);
}

pub router_told : (header : RouterAdvertisementHeader) (rest : List ℕ)
    → HasRouterAdvertisement header rest → router_of rest ≡ header
router_told header rest h = search (rules, h)

-- the 4 bytes, the reserved bits 0
abbrev pub router_rest : RouterAdvertisementHeader → List ℕ
router_rest header = header.cur_hop_limit
    ∷ (from_bool header.managed_address_config * 128 + from_bool header.other_config * 64)
    ∷ to_be_bytes w16 header.router_lifetime

upper_two : (n : ℕ) → n < 256
    → n / 64 * 64 ≡ from_bool (n / 128 == 1) * 128 + from_bool (n / 64 % 2 == 1) * 64
upper_two n few =
    omega (arith, flag_is (n / 128) (omega (arith, few)), flag_is (n / 64 % 2) (omega arith))

pub router_spelled : (header : RouterAdvertisementHeader) (rest : List ℕ) → length rest ≡ 4
    → IsBytes rest → HasRouterAdvertisement header rest
    → router_advertisement_cleared rest ≡ router_rest header
router_spelled header rest len bytes h =
    let lifetime : drop 2 rest ≡ to_be_bytes w16 header.router_lifetime =
    told rest 2 (u16 header.router_lifetime ∷ []) [] bytes (omega (arith, len))
    (h.router_lifetime, drop_of_length-le rest {i = 4} (omega (arith, len))) in
    let flags = upper_two (slice_index rest 1) (bytes 1) in
    search (rules, h, lifetime, flags)

abbrev pub neighbor_of : List ℕ → NeighborAdvertisementHeader
neighbor_of rest = record {
  router = slice_index rest 0 / 128 == 1;
  solicited = slice_index rest 0 / 64 % 2 == 1;
  override_flag = slice_index rest 0 / 32 % 2 == 1;
}

pub neighbor_told : (header : NeighborAdvertisementHeader) (rest : List ℕ)
    → HasNeighborAdvertisement header rest → neighbor_of rest ≡ header
neighbor_told header rest h = search (rules, h)

abbrev pub neighbor_rest : NeighborAdvertisementHeader → List ℕ
neighbor_rest header = (from_bool header.router * 128 + from_bool header.solicited * 64
    + from_bool header.override_flag * 32) ∷ 0 ∷ 0 ∷ 0 ∷ []

upper_three : (n : ℕ) → n < 256 → n / 32 * 32 ≡ from_bool (n / 128 == 1) * 128
    + from_bool (n / 64 % 2 == 1) * 64 + from_bool (n / 32 % 2 == 1) * 32
upper_three n few =
    let first = flag_is (n / 128) (omega (arith, few)) in
    let second = flag_is (n / 64 % 2) (omega arith) in
    omega (arith, first, second, flag_is (n / 32 % 2) (omega arith))

pub neighbor_spelled : (header : NeighborAdvertisementHeader) (rest : List ℕ) → length rest ≡ 4
    → IsBytes rest → HasNeighborAdvertisement header rest
    → neighbor_advertisement_cleared rest ≡ neighbor_rest header
neighbor_spelled header rest len bytes h =
    let flags = upper_three (slice_index rest 0) (bytes 0) in
    search (rules, h, flags)
