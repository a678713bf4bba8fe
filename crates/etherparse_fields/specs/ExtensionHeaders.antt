-- The numbers of IPv6 extension headers (IANA's registry of IPv6 extension header types, RFC 7045).
use Rattle.std.specs.Prelude.{ℕ, ◌≡◌, ◌⊎◌}

-- the extension headers that a reader can skip without knowing what they mean, since their length
-- can be determined
abbrev pub IsSkippable : ℕ → Type 0
IsSkippable n = (n ≡ 0) ⊎ (n ≡ 43) ⊎ (n ≡ 44) ⊎ (n ≡ 51) ⊎ (n ≡ 60) ⊎ (n ≡ 135) ⊎ (n ≡ 139)
    ⊎ (n ≡ 140)

-- the numbers of the registry: those, and 50 (encrypted), 253 and 254 (for experiments)
abbrev pub IsExtensionHeaderValue : ℕ → Type 0
IsExtensionHeaderValue n = IsSkippable n ⊎ (n ≡ 50) ⊎ (n ≡ 253) ⊎ (n ≡ 254)
