use Rattle.std.proofs.Common.{ℕ, List, ◌≡◌, ◌-◌, ◌≤◌, ◌∙◌, arith, drop, length, take, take-take}
use Rattle.std.specs.List.{slice_range}
use Rattle.etherparse.proofs.net.ipv6_header_slice.Ipv6HeaderSlice.destination.Goals as goal

-- the last sixteen of forty bytes
last_sixteen : (s : List ℕ) → length s ≡ 40 → take 16 (take (length s - 24) (drop 24 s)) ≡ slice_range s 24 40
last_sixteen s len = let within : 16 ≤ 40 - 24 = omega arith in rw (len, take-take)

pub returns-clause-bytes_24_to_39 : goal.returns-clause-bytes_24_to_39
returns-clause-bytes_24_to_39 c =
    (rw c.unwrap.ensures at c.first_chunk.ensures.cases).same ∙ last_sixteen c.args.self.now.slice.now c.args.self.now.len

pub returns-clause-value : goal.returns-clause-value
returns-clause-value c = λ header layout. returns-clause-bytes_24_to_39 c ∙ layout.destination
