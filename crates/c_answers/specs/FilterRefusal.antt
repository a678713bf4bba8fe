-- The refusal of a filter's text by its numbers, as C gets it.
use Rattle.std.specs.Prelude.{ℕ, true, false, Some, None}
use Rattle.packet_filter.specs.declared.expected.Expected.{Expected}
use Rattle.packet_filter.specs.declared.expected.Expected.TheVariants as expected
use Rattle.packet_filter.specs.declared.expression.Operator.{Operator}
use Rattle.packet_filter.specs.declared.expression.Operator.TheVariants.{And, Or}
use Rattle.packet_filter.specs.declared.expression.Version.TheVariants.{Ipv4, Ipv6}
use Rattle.packet_filter.specs.declared.reading.FilterError.{FilterError}
use Rattle.packet_filter.specs.declared.reading.FilterError.TheVariants as error
use Rattle.c_answers.specs.declared.filter_refusal.FilterRefusal.{FilterRefusal}

-- what could stand at a place
abbrev pub expected_in_c : Expected → ℕ
expected_in_c expected.Operand = 1
expected_in_c (expected.Operator None false) = 2
expected_in_c (expected.Operator None true) = 3
expected_in_c (expected.Operator (Some And) false) = 4
expected_in_c (expected.Operator (Some And) true) = 5
expected_in_c (expected.Operator (Some Or) false) = 6
expected_in_c (expected.Operator (Some Or) true) = 7
expected_in_c expected.AfterIp = 8
expected_in_c expected.AfterNetwork = 9
expected_in_c expected.AfterTransport = 10
expected_in_c expected.AfterVlan = 11
expected_in_c expected.AfterDirection = 12
expected_in_c expected.AfterTransportDirection = 13
expected_in_c expected.AfterEther = 14
expected_in_c expected.Destination = 15
expected_in_c (expected.Address None) = 16
expected_in_c (expected.Address (Some Ipv4)) = 17
expected_in_c (expected.Address (Some Ipv6)) = 18
expected_in_c (expected.Network None) = 19
expected_in_c (expected.Network (Some Ipv4)) = 20
expected_in_c (expected.Network (Some Ipv6)) = 21
expected_in_c expected.AfterAddress = 22
expected_in_c expected.Mask = 23
expected_in_c expected.Port = 24
expected_in_c expected.PortRange = 25
expected_in_c expected.Protocol = 26
expected_in_c expected.EthernetAddress = 27
expected_in_c expected.EtherType = 28
expected_in_c expected.Fragment = 29
expected_in_c expected.Wrong = 30
expected_in_c expected.Place = 31
expected_in_c expected.CloseBracket = 32
expected_in_c expected.Relation = 33
expected_in_c expected.Number = 34
expected_in_c expected.Bits = 35

-- an operator
abbrev pub operator_in_c : Operator → ℕ
operator_in_c And = 1
operator_in_c Or = 2

-- no text was refused
abbrev pub no_refusal : FilterRefusal
no_refusal = record { place = 0; kind = 0; expected = 0; found = 0 }

-- The refusal of a text that has so many bytes. One that is about no word has its end for a place.
abbrev pub refusal_in_c : ℕ → FilterError → FilterRefusal
refusal_in_c end (error.Unexpected place e) =
    record { place = place; kind = 1; expected = expected_in_c e; found = 0 }
refusal_in_c end (error.Mixed place o) =
    record { place = place; kind = 2; expected = 0; found = operator_in_c o }
refusal_in_c end (error.Unsupported place) =
    record { place = place; kind = 3; expected = 0; found = 0 }
refusal_in_c end (error.Incomplete e) =
    record { place = end; kind = 4; expected = expected_in_c e; found = 0 }
refusal_in_c end (error.TooLong place) =
    record { place = place; kind = 5; expected = 0; found = 0 }
