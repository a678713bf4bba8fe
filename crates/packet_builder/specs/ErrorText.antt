-- The text of an error.
use Rattle.std.specs.Prelude.{ℕ, List, ◌++◌, None, Option, Some, codes, decimal}
use Rattle.etherparse.specs.ValueTooBigError.{value_too_big_error_text}
use Rattle.packet_builder.specs.declared.build_slice_write_error.BuildSliceWriteError as error
use Rattle.packet_builder.specs.declared.build_slice_write_error.BuildSliceWriteError.TheVariants
    as why

-- how it is displayed
abbrev pub write_error_text : error.BuildSliceWriteError → List ℕ
write_error_text (why.PayloadLen e) = value_too_big_error_text e
write_error_text why.Icmpv6InIpv4 = codes "A message of ICMPv6 cannot follow an IPv4 header."
write_error_text (why.Space required_len) =
    codes "Not enough space to write packet to slice. Needed "
    ++ (decimal required_len ++ codes " byte(s).")

-- the same under any width, precision or flag; of a text with a number in it nothing is said
abbrev pub text_in_any_style : error.BuildSliceWriteError → Option (List ℕ)
text_in_any_style why.Icmpv6InIpv4 = Some (write_error_text why.Icmpv6InIpv4)
text_in_any_style other = None
