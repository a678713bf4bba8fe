use Rattle.std.proofs.Common.{ℕ, ◌≡◌, ap, arith, inr, length, length-append}
use Rattle.std.proofs.lemmas.Bool.Decides.{nat_tests}
use Rattle.etherparse.specs.declared.err.LenError.{LenError}
use Rattle.etherparse.specs.declared.net.ipv6_header.Ipv6Header.{Ipv6Header}
use Rattle.packet_parts.specs.declared.fragment_key.Ipv6Key.{Ipv6Key}
use Rattle.packet_parts.specs.FragmentKey.{undecided_error}
use Rattle.packet_parts.proofs.fragment_key.ipv6_key.Goals as goal

same_place : (number : ℕ) (e : LenError) → (undecided_error number e).layer_start_offset ≡ e.layer_start_offset
same_place number e = grind (arith, nat_tests)

pub returns-in-None-Some-clause-refused : goal.returns-in-None-Some-clause-refused
returns-in-None-Some-clause-refused c =
    let ends = rw (ap (λ h. h.next_header) c.header.view_is, c.in-None-Some.is-0, c.in-None-Some.is-1) at c.after_extensions-number.ensures.ends in
    inr (record {
      header = c.in_ok-header.header;
      inside = c.in-None-Some.e;
      has = record {
        body = _;
        begins = c.in_ok-header.ensures.reads.reads;
        is_later = _;
        number = _;
        rest = _;
        ends = ends;
      };
      moved = rw c.undecided_error.ensures.value at c.add_offset-e.ensures.moved;
    })

pub returns-in-Some-default-clause-found : goal.returns-in-Some-default-clause-found
returns-in-Some-default-clause-found c =
    let ends = rw (ap (λ h. h.next_header) c.header.view_is, c.in-Some-default.is-0) at c.after_extensions-number.ensures.ends in
    let key_of : Ipv6Header → Ipv6Key = λ h. record { source = h.source; destination = h.destination; identification = c.in-Some-default.fragment.identification } in
    record {
      header = c.in_ok-header.header;
      incomplete = _;
      fragment = _;
      has = record { body = _; begins = c.in_ok-header.ensures.reads.reads; is_later = _; number = _; rest = _; ends = ends };
      key_of = ap key_of c.header.view_is;
    }

pub returns-in-None-None-clause-none : goal.returns-in-None-None-clause-none
returns-in-None-None-clause-none c =
    let ends = rw (ap (λ h. h.next_header) c.header.view_is, c.in-None-None.is-0, c.in-None-None.is-1) at c.after_extensions-number.ensures.ends in
    record {
      header = c.in_ok-header.header;
      has = record { body = _; begins = c.in_ok-header.ensures.reads.reads; is_later = _; number = _; rest = _; ends = ends };
    }

pub add_offset-e-requires : goal.add_offset-e-requires
add_offset-e-requires c =
    let within = rw c.in-None-Some.is-1 at c.after_extensions-number.ensures.within in
    let begins = c.in_ok-header.ensures.reads.reads in
    rw (c.undecided_error.ensures.value, same_place) (record { fits = omega (arith, within, ap length begins.whole, length-append {A = ℕ}, begins.layout.len) })
