use Rattle.std.proofs.Common.{ℕ, ◌≡◌, List, Err, arith, refl, rules, tests}
use Rattle.etherparse.specs.ExtensionHeaderChain.{EndsIncomplete}
use Rattle.etherparse.specs.Ipv4Header.{ReadsIpv4, ipv4_header_len, payload_len_of}
use Rattle.etherparse.specs.Ipv6Header.{ReadsIpv6}
use Rattle.etherparse.specs.declared.err.LenError.{LenError}
use Rattle.etherparse.specs.declared.err.ipv4.HeaderError.TheVariants as ipv4_content
use Rattle.etherparse.specs.declared.err.ipv4.HeaderSliceError.TheVariants as ipv4
use Rattle.etherparse.specs.declared.err.ipv6.ChainError.TheVariants as chain
use Rattle.etherparse.specs.declared.err.ipv6.HeaderError.TheVariants as ipv6_content
use Rattle.etherparse.specs.declared.err.ipv6.HeaderSliceError.TheVariants as ipv6
use Rattle.c_answers.specs.ErrorText.{HasNumbers}
use Rattle.c_answers.proofs.laws.text_of_answers.Goals as goal

-- the length errors of the readers, the call for lengths and the walk have numbers
of_ipv4 : (s : List ℕ) (e : LenError) → ReadsIpv4 s (Err (ipv4.Len e)) → HasNumbers e
of_ipv4 s e reads = grind arith

of_ipv6 : (s : List ℕ) (e : LenError) → ReadsIpv6 s (Err (ipv6.Len e)) → HasNumbers e
of_ipv6 s e reads = grind arith

of_lengths : (header_len total_len : ℕ) (e : LenError) → payload_len_of header_len total_len ≡ Err e → HasNumbers e
of_lengths header_len total_len e is = search (rules, tests)

of_walk : (s : List ℕ) (first : ℕ) (headers : List (List ℕ)) (e : LenError) → EndsIncomplete s first headers e → HasNumbers e
of_walk s first headers e ends = grind arith

pub returns-clause-ipv4 : goal.returns-clause-ipv4
returns-clause-ipv4 c s (ipv4.Len e) reads is = c.put_error.ensures.gives.len e (of_ipv4 s e reads) (rw is refl)
returns-clause-ipv4 c s (ipv4.Content (ipv4_content.UnexpectedVersion version)) reads is = (rw is at c.put_error.ensures.gives.ipv4_version) refl refl
returns-clause-ipv4 c s (ipv4.Content (ipv4_content.HeaderLengthSmallerThanHeader ihl)) reads is = (rw is at c.put_error.ensures.gives.ihl) refl

pub returns-clause-ipv6 : goal.returns-clause-ipv6
returns-clause-ipv6 c s (ipv6.Len e) reads is = c.put_error.ensures.gives.len e (of_ipv6 s e reads) (rw is refl)
returns-clause-ipv6 c s (ipv6.Content (ipv6_content.UnexpectedVersion version)) reads is = (rw is at c.put_error.ensures.gives.ipv6_version) refl refl

pub returns-clause-lengths : goal.returns-clause-lengths
returns-clause-lengths c header e refuses is = c.put_error.ensures.gives.len e (of_lengths (ipv4_header_len header) header.total_len e refuses) (rw is refl)

pub returns-clause-walk_up_to : goal.returns-clause-walk_up_to
returns-clause-walk_up_to c limit s first (chain.Len e) walks is = c.put_error.ensures.gives.len e (of_walk s first walks.headers e walks.ends.0) (rw is refl)
returns-clause-walk_up_to c limit s first (chain.TooMany most number place) walks is = (rw is at c.put_error.ensures.gives.too_many) refl
