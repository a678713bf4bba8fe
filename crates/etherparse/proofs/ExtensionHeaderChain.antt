-- Chains of extension headers: how a chain goes on, one header at a time.
use Rattle.std.proofs.Common.{ℕ, ◌≡◌, ◌+◌, ◌-◌, ◌*◌, ◌≤◌, List, [], ◌∷◌, ◌++◌, length, get_or, take, drop, refl, sym, ap, ◌∙◌, add-zero, arith, append_assoc, length-append, length-drop}
use Rattle.std.specs.List.{concat}
use Rattle.std.proofs.lemmas.Bool.Decides.{nat_tests}
use Rattle.std.proofs.lemmas.List.{append-nil, drop-drop, get_or-drop, get_or-take, get_or_append_left, length-take-le, take-append-drop}
use Rattle.std.proofs.lemmas.List.Folds.{concat-append}
use Rattle.etherparse_fields.specs.ExtensionHeaders.{IsSkippable}
use Rattle.etherparse.specs.ExtensionHeaderChain.{BeginsWithChain, FollowsChain, IsExtensionHeader, IsExtensionHeaderChain, extension_header_len, required_len_of}
use Rattle.etherparse.specs.Ipv6Header.{HasIpv6Chain, IsIpv6Layout}
use Rattle.etherparse.specs.declared.net.ipv6_header.Ipv6Header.{Ipv6Header}

-- where no more is required than is there, the second byte tells how much, and it is eight bytes or more
second_byte_tells : (n k : ℕ) (s : List ℕ) → k ≡ required_len_of n s → k ≤ length s → (k ≡ extension_header_len n (get_or s 1 0)) × (8 ≤ k)
second_byte_tells n k s is fits = (grind (arith, nat_tests), grind (arith, nat_tests))

-- a whole header in front has as many bytes as are required
pub whole_in_front : (n : ℕ) (p t : List ℕ) → IsExtensionHeader n p → (8 ≤ length p) × (length p ≡ required_len_of n (p ++ t))
whole_in_front n p t h =
    let long : 8 ≤ length p = grind (arith, nat_tests, h.len) in
    (long, grind (arith, nat_tests, h.len, length-append, get_or_append_left p t 0 1))

-- two chains, one after the other
chain-append : (n : ℕ) (ps qs : List (List ℕ)) (m k : ℕ) → IsExtensionHeaderChain n ps m → IsExtensionHeaderChain m qs k → IsExtensionHeaderChain n (ps ++ qs) k
chain-append n [] qs m k e c = rw e at c
chain-append n (p ∷ ps) qs m k b c = (b.0, chain-append (get_or p 0 0) ps qs m k b.1 c)

pub begins_after : {s : List ℕ} {first n m : ℕ} {hs ps : List (List ℕ)} {r t : List ℕ} → BeginsWithChain s first hs n r → BeginsWithChain r n ps m t
    → BeginsWithChain s first (hs ++ ps) m t
begins_after {first = first} {n = n} {m = m} {hs = hs} {ps = ps} b c =
    record { chain = chain-append first hs ps n m b.chain c.chain; whole = rw (concat-append, append_assoc, b.whole, c.whole) refl }

-- the header in front of a slice that has as many bytes as it requires, and so one header more of a chain
one_header : (n k : ℕ) (r : List ℕ) → IsSkippable n → k ≡ required_len_of n r → k ≤ length r → BeginsWithChain r n (take k r ∷ []) (get_or r 0 0) (drop k r)
one_header n k r skippable is fits =
    let (len, long) = second_byte_tells n k r is fits in
    let header : IsExtensionHeader n (take k r) = record { skippable = skippable; len = rw (length-take-le k r fits, get_or-take k r 1 0 (omega arith)) len } in
    record { chain = (header, sym (get_or-take k r 0 0 (omega arith))); whole = rw (append-nil, take-append-drop) refl }

pub chain_goes_on : (s : List ℕ) (first n : ℕ) (r : List ℕ) (k : ℕ) → FollowsChain s first n r → IsSkippable n → k ≡ required_len_of n r
    → k ≤ length r → FollowsChain s first (get_or r 0 0) (drop k r)
chain_goes_on s first n r k f skippable is fits =
    record { headers = f.headers ++ take k r ∷ []; begins = begins_after f.begins (one_header n k r skippable is fits) }

-- the headers that are skipped up to an offset, in as many turns
pub record SkippedUpTo (s : List ℕ) (n offset m turns : ℕ) : Type 0 where
  pub headers : List (List ℕ)
  pub begins : BeginsWithChain s n headers m (drop offset s)
  pub within : offset ≤ length s
  pub counted : length headers ≡ turns
  pub eighth : 8 * turns ≤ offset

pub one_skipped : {s : List ℕ} {n offset m turns k : ℕ} → SkippedUpTo s n offset m turns → IsSkippable m → k ≡ required_len_of m (drop offset s)
    → k ≤ length s - offset → SkippedUpTo s n (offset + k) (get_or s offset 0) (turns + 1)
one_skipped {s = s} {offset = offset} {m = m} {k = k} u skippable is fits =
    let rest = drop offset s in
    let left : length rest ≡ length s - offset = length-drop offset s in
    let required = second_byte_tells m k rest is (omega arith) in
    let byte : get_or rest 0 0 ≡ get_or s offset 0 = get_or-drop offset s 0 0 ∙ ap (λ i. get_or s i 0) (add-zero offset) in
    record {
      headers = u.headers ++ take k rest ∷ [];
      begins = rw (byte, drop-drop k offset s) at (begins_after u.begins (one_header m k rest skippable is (omega arith)));
      within = omega (arith, u.within);
      counted = rw (length-append, u.counted) refl;
      eighth = omega (arith, u.eighth);
    }

-- the offset is as many bytes as the headers have
pub offset_of : {s : List ℕ} {n offset m turns : ℕ} (u : SkippedUpTo s n offset m turns) → length (concat u.headers) ≡ offset
offset_of {s = s} {offset = offset} u =
    omega (arith, ap length u.begins.whole, length-append (concat u.headers) (drop offset s), length-drop offset s, u.within)

-- a chain at the front of what follows an IPv6 header
pub chain_after_header : (s front r : List ℕ) (h : Ipv6Header) → s ≡ front ++ r → IsIpv6Layout h front
    → (headers : List (List ℕ)) (last : ℕ) (rest : List ℕ) → BeginsWithChain r h.next_header headers last rest → HasIpv6Chain s h headers last rest
chain_after_header s front r h e layout headers last rest b =
    record { front = front; layout = layout; chain = b.chain; whole = e ∙ ap (λ t. front ++ t) b.whole }
