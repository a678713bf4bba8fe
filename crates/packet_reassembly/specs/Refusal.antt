-- Why a fragment is refused (RFC 791 section 3.2, RFC 8200 section 4.5).
use Rattle.std.specs.Prelude.{ℕ, ◌≡◌, ◌≢◌, ◌*◌, ◌%◌, ◌<◌, length, true}
use Rattle.packet_reassembly.specs.Fragment.{Fragment, end_of}
use Rattle.packet_reassembly.specs.declared.ip_defrag_error.IpDefragError.{IpDefragError}
use Rattle.packet_reassembly.specs.declared.ip_defrag_error.IpDefragError.TheVariants as why

-- an error says the offset and the length of the fragment
abbrev pub Says : Fragment → ℕ → ℕ → Type 0
Says f offset len = (f.start ≡ 8 * offset) × (length f.bytes ≡ len)

-- the first of these that holds: it has no bytes; more follow, and its length is no multiple of 8;
-- it ends past 65535
abbrev pub Refuses : Fragment → IpDefragError → Type 0
Refuses f (why.Empty offset) = Says f offset 0
Refuses f (why.UnalignedFragmentPayloadLen offset len) =
    Says f offset len × (f.more ≡ true) × (len % 8 ≢ 0)
Refuses f (why.SegmentTooBig offset len max) =
    Says f offset len × (0 < len) × (f.more ≡ true → len % 8 ≡ 0) × (65535 < end_of f)
    × (max ≡ 65535)
