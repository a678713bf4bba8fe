use Rattle.std.proofs.Common.{ℕ, ◌≡◌, ◌<◌, ◌≤◌, List, [], ◌∷◌, arith, take, le-ltb, lt-ltb, refl}
use Rattle.std.proofs.NetLemmas.Texts.{IsZeroRun-longest_zero_run, longest_zero_run_first}
use Rattle.std.proofs.lemmas.Bool.{not-true}
use Rattle.std.proofs.lemmas.Bool.Decides.{Decides-not}
use Rattle.std.proofs.lemmas.Slice.Eq.{bytes_eq-Decides}
use Rattle.std.specs.Net.Addr.{segments_of}
use Rattle.std.specs.Net.Text.{hex_groups_text, ipv6_text, longest_zero_run}
use Rattle.packet_parts.specs.Address.{AreShortened, IsIpv6Text}
use Rattle.packet_parts.proofs.address.Ipv6Text.is_recommended.Goals as goal

-- no run is shortened if the longest one has one field
short_run : (xs : List ℕ) → ((start len : ℕ) → AreShortened xs start len → ⊥) → (longest_zero_run xs).1 ≤ 1
short_run xs none = omega (
  arith,
  λ (long : 1 < (longest_zero_run xs).1). none (longest_zero_run xs).0 (longest_zero_run xs).1 (record {
    zeros = IsZeroRun-longest_zero_run xs;
    several = long;
    longest = λ s l z. (longest_zero_run_first xs s l z).0;
    first = λ s z. (longest_zero_run_first xs s (longest_zero_run xs).1 z).1 refl;
  }),
)

-- or else it is the longest one
same_run : (xs : List ℕ) (start len : ℕ) → AreShortened xs start len → (start ≡ (longest_zero_run xs).0) × (len ≡ (longest_zero_run xs).1)
same_run xs start len h =
    let found = IsZeroRun-longest_zero_run xs in
    let theirs = longest_zero_run_first xs start len h.zeros in
    let same : len ≡ (longest_zero_run xs).1 = omega (arith, theirs.0, h.longest _ _ found) in
    (omega (arith, h.first (longest_zero_run xs).0 (rw same found), theirs.1 same), same)

recommended : (xs : List ℕ) → IsIpv6Text xs (ipv6_text xs)
unfolding ipv6_text hex_groups_text
recommended xs =
    let is_mapped = bytes_eq-Decides (take 6 xs) (0 ∷ 0 ∷ 0 ∷ 0 ∷ 0 ∷ 0xffff ∷ []) in
    record {
      mapped = λ m. rw (is_mapped.1 m) refl;
      shortened = λ other start len h.
          let run = same_run xs start len h in
          rw (not-true _ ((Decides-not _ is_mapped).1 other), lt-ltb 1 (longest_zero_run xs).1 (omega (arith, h.several, run.1)), run.0, run.1) refl;
      plain = λ other none. rw (not-true _ ((Decides-not _ is_mapped).1 other), le-ltb 1 (longest_zero_run xs).1 (short_run xs none)) refl;
    }

pub returns : goal.returns
returns c = recommended (segments_of c.args.self.now.0)
