-- Some bytes have one answer of an IPv6 reader.
use Rattle.std.proofs.Common.{ℕ, ◌≡◌, List, ◌++◌, ◌-◌, ◌≤◌, length, take, drop, sym, ap, ◌∙◌, arith, Ok, Err, length-take-le, take-append-drop}
use Rattle.std.specs.Result.{result_unwrap_or}
use Rattle.std.proofs.lemmas.Grind.{common_steps}
use Rattle.etherparse_base.specs.Bytes.{IsBytes}
use Rattle.etherparse.proofs.ExtensionHeaderChain.{chain_after_header}
use Rattle.etherparse.proofs.Fronts.{TellsHeaders, begins_at, cut_after, read_once}
use Rattle.etherparse.proofs.Parts.{part_is_bytes}
use Rattle.etherparse.proofs.Ipv6Layout.{header_at, same_header, word_of-layout}
use Rattle.etherparse.specs.Ipv6Header.{Ipv6Reading, IsIpv6Layout, IsIpv6ReadingOf, ReadsIpv6, RefusesIpv6, ViewsIpv6}
use Rattle.etherparse.specs.FirstByte.{version_of}
use Rattle.etherparse.specs.Reading.{BeginsWith}
use Rattle.etherparse.specs.declared.net.ipv6_header.Ipv6Header.{Ipv6Header}

-- a slice is read in one way
pub tells_headers : TellsHeaders IsIpv6Layout RefusesIpv6
tells_headers = record {
  one_header = same_header;
  one_length = λ s g h x y p q. p.layout.len ∙ sym q.layout.len;
  not_refused = λ s h x e b q. let word = word_of-layout h b.front b.layout in grind (arith, common_steps, ap length b.whole, ap version_of b.whole);
  one_refusal = λ s e f p q. grind arith;
}

-- the front of some bytes is seen where they are enough and of version 6
pub front_viewed : (s : List ℕ) → 40 ≤ length s → IsBytes s → version_of s ≡ 6 → ViewsIpv6 s (Ok (take 40 s))
front_viewed s long bytes version =
    let header = header_at (take 40 s) (length-take-le 40 s long) (part_is_bytes s 0 40 bytes) (grind (arith, common_steps)) in
    record { header = header.0; rest = drop 40 s; whole = sym (take-append-drop 40 s); layout = header.1 }

-- what is promised of a reading follows from its answer
pub is_reading_of : (s : List ℕ) (a : Ipv6Reading) → ReadsIpv6 s a → IsIpv6ReadingOf s a
is_reading_of s (Ok x) b = record {
  reads = b;
  only = λ other o. read_once IsIpv6Layout RefusesIpv6 tells_headers s other (Ok x) o b;
  chain = chain_after_header s b.front x.1 x.0 b.whole b.layout;
  cut = cut_after IsIpv6Layout 40 s x.0 x.1 b b.layout.len;
}
is_reading_of s (Err e) r = record { reads = r; only = λ other o. read_once IsIpv6Layout RefusesIpv6 tells_headers s other (Err e) o r; chain = tt; cut = tt }

-- whatever header a slice begins with is the one that is read, and what follows it too
pub read_as : {s r t : List ℕ} {h g : Ipv6Header} → IsIpv6ReadingOf s (Ok (h, r)) → BeginsWith IsIpv6Layout s g t → (g ≡ h) × (t ≡ r)
read_as {r = r} {t = t} {h = h} {g = g} reading begins =
    let same = ap (λ a. result_unwrap_or a (h, r)) (reading.only (Ok (g, t)) begins) in (ap (λ x. x.0) same, ap (λ x. x.1) same)

-- what is seen in front is read
pub front_read : (s p r : List ℕ) (h : Ipv6Header) → s ≡ p ++ r → IsIpv6Layout h p → IsIpv6ReadingOf s (Ok (h, take (length s - 40) (drop 40 s)))
front_read s p r h e l = is_reading_of s _ (begins_at IsIpv6Layout 40 s p r h e l l.len)
