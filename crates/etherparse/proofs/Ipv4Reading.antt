-- Some bytes have one answer of an IPv4 reader.
use Rattle.std.proofs.Common.{ℕ, ◌≡◌, ◌-◌, ◌*◌, ◌≤◌, List, ◌++◌, length, take, drop, refl, sym, ap, ◌∙◌, arith, Ok, Err, length-drop, take-append-drop, take-take, take_at}
use Rattle.std.specs.Result.{result_unwrap_or}
use Rattle.std.proofs.lemmas.Grind.{common_steps}
use Rattle.std.proofs.lemmas.List.{append_cancel_right, drop-append-le}
use Rattle.etherparse_base.specs.Bytes.{IsBytes}
use Rattle.etherparse.proofs.Fronts.{TellsHeaders, begins_at, cut_after, read_once}
use Rattle.etherparse.proofs.Ipv4Layout.{cleared_layout, header_at, same_header, same_header_cleared}
use Rattle.etherparse.specs.FirstByte.{ihl_of, version_of}
use Rattle.etherparse.specs.Ipv4Header.{IsIpv4Layout, IsIpv4ReadingOf, Ipv4Reading, ReadsIpv4, RefusesIpv4, ViewsIpv4, ipv4_header_len}
use Rattle.etherparse.specs.Reading.{BeginsWith}
use Rattle.etherparse.specs.declared.net.ipv4_header.Ipv4Header.{Ipv4Header}

-- a slice is read in one way
pub tells_headers : TellsHeaders IsIpv4Layout RefusesIpv4
tells_headers = record {
  one_header = same_header;
  one_length = λ s g h x y p q. grind (arith, common_steps, ap ihl_of p.whole, ap ihl_of q.whole);
  not_refused = λ s h x e b q. grind (arith, common_steps, ap length b.whole, ap version_of b.whole, ap ihl_of b.whole);
  one_refusal = λ s e f p q. grind arith;
}

-- the front of some bytes is seen where they are of version 4, and as many as their IHL says
pub front_viewed : (s : List ℕ) (n : ℕ) → version_of s ≡ 4 → 5 ≤ ihl_of s → n ≡ 4 * ihl_of s → n ≤ length s → IsBytes s → ViewsIpv4 s (Ok (take n s))
front_viewed s n version ihl says long bytes =
    let header = header_at (take n s) (grind (arith, common_steps)) (grind (arith, common_steps)) (grind (arith, common_steps)) (grind (arith, common_steps)) in
    record { header = header.0; rest = drop n s; whole = sym (take-append-drop n s); layout = header.1 }

-- what is promised of a reading follows from its answer
pub is_reading_of : (s : List ℕ) (a : Ipv4Reading) → ReadsIpv4 s a → IsIpv4ReadingOf s a
is_reading_of s (Ok x) b =
    let front_is = λ (front : List ℕ) (whole : s ≡ front ++ x.1). rw (append_cancel_right b.front front x.1 (sym b.whole ∙ whole)) at b.layout in
    record {
      reads = b;
      only = λ other o. read_once IsIpv4Layout RefusesIpv4 tells_headers s other (Ok x) o b;
      cleared = λ front whole. cleared_layout x.0 front (front_is front whole);
      same_header = λ front whole bytes other k. same_header_cleared other x.0 bytes front k (front_is front whole);
      cut = cut_after IsIpv4Layout (ipv4_header_len x.0) s x.0 x.1 b b.layout.layout.len;
    }
is_reading_of s (Err e) r = record { reads = r; only = λ other o. read_once IsIpv4Layout RefusesIpv4 tells_headers s other (Err e) o r; cleared = tt; same_header = tt; cut = tt }

-- whatever header a slice begins with is the one that is read, and what follows it too
pub read_as : {s r t : List ℕ} {h g : Ipv4Header} → IsIpv4ReadingOf s (Ok (h, r)) → BeginsWith IsIpv4Layout s g t → (g ≡ h) × (t ≡ r)
read_as {r = r} {t = t} {h = h} {g = g} reading begins =
    let same = ap (λ a. result_unwrap_or a (h, r)) (reading.only (Ok (g, t)) begins) in (ap (λ x. x.0) same, ap (λ x. x.1) same)

-- what is seen in front is read
pub front_read : (s p t : List ℕ) (h : Ipv4Header) → s ≡ p ++ t → IsIpv4Layout h p
    → IsIpv4ReadingOf s (Ok (h, take (length s - length p) (drop (length p) s)))
front_read s p t h e l = is_reading_of s _ (begins_at IsIpv4Layout (length p) s p t h e l refl)

-- the options are at the front of the room that they could have
pub options_in_room : (s p t room : List ℕ) → s ≡ p ++ t → 20 ≤ length p → length p ≤ 60 → room ≡ take 40 (take 40 (drop 20 s))
    → take (length p - 20) room ≡ drop 20 p
options_in_room s p t room e low high is =
    let fits : length p - 20 ≤ 40 = omega arith in
    rw (is, e) (simp (take-take, drop-append-le, take_at, length-drop))
