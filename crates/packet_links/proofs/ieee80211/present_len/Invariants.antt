use Rattle.std.proofs.Common.{◌≡◌, ◌+◌, ◌-◌, ◌≤◌, drop, length}
use Rattle.packet_links.specs.Ieee80211.{present_len}
use Rattle.packet_links.proofs.ieee80211.present_len.Given as goal

abbrev pub invariant-words : goal.invariant-words
invariant-words l = (l.len ≤ length l.words) × (present_len l.words ≡ l.len + present_len (drop l.len l.words))

abbrev pub decreases-words : goal.decreases-words
decreases-words l = length l.words + 1 - l.len
