-- The text of an error of rewriting, as C gets it.
use Rattle.std.specs.Prelude.{ℕ, ◌==◌, List, [], codes, if◌then◌else◌}

-- the text of the error of a number; the empty text of a number that no error has
abbrev pub kind_text : ℕ → List ℕ
kind_text n =
    if n == 1 then codes "The packet has no bytes."
    else if n == 2 then codes "The IP version is neither 4 nor 6."
    else if n == 3 then codes "The packet has no whole IPv4 header."
    else if n == 4 then codes "The packet has no whole IPv6 header."
    else if n == 5 then codes "The length field of the IP header does not fit the packet."
    else if n == 6 then codes "The packet ends within an IPv6 extension header."
    else if n == 7 then codes "The packet has the other IP version."
    else if n == 8 then codes "Not all bytes of the upper layer that are needed are there."
    else if n == 9 then codes "The packet is a later fragment, which has no ports."
    else if n == 10 then codes "The protocol has no checksum or ports that are known here."
    else if n == 11 then codes "The pseudo-header has no room for the length."
    else if n == 12 then codes "The value does not fit its field."
    else []
