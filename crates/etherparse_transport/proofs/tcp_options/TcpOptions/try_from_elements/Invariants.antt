use Rattle.std.proofs.Common.{◌≡◌, take}
use Rattle.std.specs.List.{flat_map}
use Rattle.etherparse_transport.proofs.TcpOptionBytes.{AreReadAgain}
use Rattle.etherparse_transport.specs.TcpOptions.{option_bytes}
use Rattle.etherparse_transport.proofs.tcp_options.TcpOptions.try_from_elements.Given as goal

-- the options so far are written, and are read again
abbrev pub invariant-loop-element : goal.invariant-loop-element
invariant-loop-element l =
    (l.bytes.items ≡ flat_map option_bytes (take l.element-index l.elements)) × AreReadAgain
    (take l.element-index l.elements)
