-- The extension headers of IPv6 one by one, each as a view of its kind (RFC 8200 section 4).
use Rattle.std.specs.Prelude.{ℕ, ◌≡◌, ◌+◌, ◌<◌, ◌⊎◌, ◌++◌, List, [], length, slice_index}
use Rattle.std.specs.Prelude.{Option, Some, None, Result, Ok, Err}
use Rattle.etherparse.specs.ExtensionHeaderChain.{IsExtensionHeader, incomplete_header_error}
use Rattle.etherparse.specs.ExtensionHeaderChain.{required_len_of}
use Rattle.etherparse.specs.ExtensionHeaders.{IsSkippable}
use Rattle.etherparse.specs.declared.err.LenError.{LenError}
use Rattle.etherparse_net.specs.declared.ipv6_extension_slice.Ipv6ExtensionSlice.{
  Ipv6ExtensionSlice,
}
use Rattle.etherparse_net.specs.declared.ipv6_extension_slice.Ipv6ExtensionSlice.TheVariants
    as extension

-- the bytes that a view shows
abbrev pub extension_bytes : Ipv6ExtensionSlice → List ℕ
extension_bytes (extension.HopByHop view) = view.slice.now
extension_bytes (extension.Routing view) = view.slice.now
extension_bytes (extension.Fragment view) = view.slice.now
extension_bytes (extension.Authentication view) = view.slice.now
extension_bytes (extension.DestinationOptions view) = view.slice.now
extension_bytes (extension.Other number view) = view.slice.now

-- what a view shows by its kind, apart from where it lies in memory
pub data ExtensionParts : Type 0 where
  HopByHopBytes : List ℕ → ExtensionParts
  RoutingBytes : List ℕ → ExtensionParts
  FragmentBytes : List ℕ → ExtensionParts
  AuthenticationBytes : List ℕ → ExtensionParts
  DestinationOptionsBytes : List ℕ → ExtensionParts
  OtherBytes : ℕ → List ℕ → ExtensionParts

abbrev pub extension_parts : Ipv6ExtensionSlice → ExtensionParts
extension_parts (extension.HopByHop view) = HopByHopBytes view.slice.now
extension_parts (extension.Routing view) = RoutingBytes view.slice.now
extension_parts (extension.Fragment view) = FragmentBytes view.slice.now
extension_parts (extension.Authentication view) = AuthenticationBytes view.slice.now
extension_parts (extension.DestinationOptions view) = DestinationOptionsBytes view.slice.now
extension_parts (extension.Other number view) = OtherBytes number view.slice.now

-- The view is of the kind that a number stands for. Of no kind of its own are mobility (135), host
-- identity (139) and shim6 headers (140), and an authentication header (51) whose payload length is
-- 0: it is skipped with 8 bytes, but has no room for its fields.
abbrev pub IsOfKind : ℕ → Ipv6ExtensionSlice → Type 0
IsOfKind number (extension.HopByHop view) = number ≡ 0
IsOfKind number (extension.Routing view) = number ≡ 43
IsOfKind number (extension.Fragment view) = number ≡ 44
IsOfKind number (extension.Authentication view) = number ≡ 51
IsOfKind number (extension.DestinationOptions view) = number ≡ 60
IsOfKind number (extension.Other of view) = (of ≡ number) × ((number ≡ 135) ⊎ (number ≡ 139)
    ⊎ (number ≡ 140) ⊎ ((number ≡ 51) × (slice_index view.slice.now 1 ≡ 0)))

-- at the front of some bytes, this is the extension header of a number, and the rest follows it
pub record BeginsWithExtension (number : ℕ) (s : List ℕ) (view : Ipv6ExtensionSlice)
    (rest : List ℕ) : Type 0 where
  pub whole : s ≡ extension_bytes view ++ rest
  pub header : IsExtensionHeader number (extension_bytes view)
  pub kind : IsOfKind number view

-- some bytes end within the extension header of a number, which begins at an offset
pub record EndsInExtension (number : ℕ) (s : List ℕ) (offset : ℕ) (e : LenError) : Type 0 where
  pub skippable : IsSkippable number
  pub short : length s < required_len_of number s
  pub error : e ≡ incomplete_header_error number s offset

-- What `next` gives at an offset, and where the iterator is after it: the header of the number; or
-- an error, after which no next header (59) follows; or nothing before a number that is of none.
abbrev pub GivesExtension : ℕ → List ℕ → ℕ → Option (Result Ipv6ExtensionSlice LenError) → ℕ
    → List ℕ → ℕ → Type 0
GivesExtension number s offset (Some (Ok view)) next rest after =
    BeginsWithExtension number s view rest × (next ≡ slice_index (extension_bytes view) 0)
    × (after ≡ offset + length (extension_bytes view))
GivesExtension number s offset (Some (Err e)) next rest after =
    EndsInExtension number s offset e × (next ≡ 59) × (rest ≡ []) × (after ≡ offset)
GivesExtension number s offset None next rest after =
    (¬ IsSkippable number) × (next ≡ number) × (rest ≡ s) × (after ≡ offset)
