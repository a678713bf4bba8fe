-- An IPv6 packet has one original source.
use Rattle.std.proofs.Common.{ℕ, Bool, true, false, if◌then◌else◌, ◌≡◌, ◌∙◌, IsSomeAnd, MatchBool, List, [], ◌∷◌, ◌++◌, None, Option, Some, ap, arith, drop, length, length-drop, refl, sym}
use Rattle.std.proofs.Common.{◌==◌}
use Rattle.std.proofs.lemmas.Grind.{common_steps}
use Rattle.etherparse_net.specs.Ipv6Options.{BeginsWithIpv6Options}
use Rattle.packet_parts.proofs.CoveredAddresses.{LeavesLen, LeavesOne, LeavesSome, followed_known, followed_len, followed_once}
use Rattle.packet_parts.specs.OriginalSource.{ComesFromIpv6, HasSourceAfter, LeavesSource, after_option, after_options, is_home_address}

-- the options of a header are listed in one way
sources_once : (d s a b : List ℕ) → HasSourceAfter d s a → HasSourceAfter d s b → a ≡ b
sources_once d s a b x y = x.is_next ∙ ap (after_options d) (sym (x.lists.only y.options y.end y.lists.lists).0) ∙ sym y.is_next

left_once : LeavesOne LeavesSource
left_once d n h = by (n == 60)
  where
    by : (at : Bool) (a b : Option (List ℕ)) → MatchBool at (IsSomeAnd a (HasSourceAfter d (drop 2 h))) (a ≡ Some d)
        → MatchBool at (IsSomeAnd b (HasSourceAfter d (drop 2 h))) (b ≡ Some d) → a ≡ b
    by true (Some x) (Some y) p q = ap Some (sources_once d (drop 2 h) x y p q)
    by true None b p q = absurd p
    by true (Some x) None p q = absurd q
    by false a b p q = p ∙ sym q

pub comes_once_ipv6 : (d : List ℕ) (n : ℕ) (s : List ℕ) (a b : Option (List ℕ)) → ComesFromIpv6 d n s a → ComesFromIpv6 d n s b → a ≡ b
comes_once_ipv6 = followed_once LeavesSource left_once

-- it is an address of 16 bytes, as the source is
after_len : (d : List ℕ) (options : List (List ℕ)) → length d ≡ 16 → length (after_options d options) ≡ 16
after_len d [] len = len
after_len d (option ∷ options) len = after_len (after_option d option) options (by (is_home_address option) refl)
  where
    by : (b : Bool) → is_home_address option ≡ b → length (if b then drop 2 option else d) ≡ 16
    by false is = len
    by true is = grind (arith, common_steps, is, length-drop 2 option)

left_len : LeavesLen LeavesSource
left_len d n h x len = by (n == 60)
  where
    by : (at : Bool) → MatchBool at (IsSomeAnd (Some x) (HasSourceAfter d (drop 2 h))) (Some x ≡ Some d) → length x ≡ 16
    by true p = ap length p.is_next ∙ after_len d p.options len
    by false same = grind (arith, common_steps, same, len)

pub comes_len_ipv6 : (d : List ℕ) (n : ℕ) (s f : List ℕ) → length d ≡ 16 → ComesFromIpv6 d n s (Some f) → length f ≡ 16
comes_len_ipv6 = followed_len LeavesSource left_len

-- if one source is known, so is another
left_known : LeavesSome LeavesSource
left_known d e n h x = by (n == 60)
  where
    by : (at : Bool) → MatchBool at (IsSomeAnd (Some x) (HasSourceAfter d (drop 2 h))) (Some x ≡ Some d)
        → MatchBool at (IsSomeAnd None (HasSourceAfter e (drop 2 h))) (◌≡◌ {A = Option (List ℕ)} None (Some e)) → ⊥
    by true p q = q
    by false p q = cc

pub comes_known_ipv6 : (d e : List ℕ) (n : ℕ) (s a : List ℕ) → ComesFromIpv6 d n s (Some a) → ComesFromIpv6 e n s None → ⊥
comes_known_ipv6 = followed_known LeavesSource left_known

-- options up to a place, and the source after them
pub record SourceAt (source s : List ℕ) (at : ℕ) (last : List ℕ) : Type 0 where
  pub options : List (List ℕ)
  pub begins : BeginsWithIpv6Options s options (drop at s)
  pub is_next : last ≡ after_options source options

after_more : (source : List ℕ) (options : List (List ℕ)) (option : List ℕ)
    → after_options source (options ++ option ∷ []) ≡ after_option (after_options source options) option
after_more source [] option = refl
after_more source (x ∷ options) option = after_more (after_option source x) options option

pub source_on : (source s t option : List ℕ) (at next : ℕ) (last : List ℕ) → s ≡ t → SourceAt source t at last
    → ((options : List (List ℕ)) → BeginsWithIpv6Options s options (drop at s) → BeginsWithIpv6Options s (options ++ option ∷ []) (drop next s))
    → SourceAt source t next (after_option last option)
source_on source s t option at next last same read on = record {
  options = read.options ++ option ∷ [];
  begins = (rw same at on) read.options read.begins;
  is_next = rw read.is_next (sym (after_more source read.options option));
}
