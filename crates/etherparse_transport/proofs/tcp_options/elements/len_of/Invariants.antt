use Rattle.std.proofs.Common.{◌≡◌, ◌*◌, ◌≤◌, take}
use Rattle.etherparse_transport.specs.TcpOptions.{options_len}
use Rattle.etherparse_transport.proofs.tcp_options.elements.len_of.Given as goal

-- the length of the options so far, each of at most 34 bytes
abbrev pub invariant-loop-element : goal.invariant-loop-element
invariant-loop-element l = (l.len ≡ options_len (take l.element-index l.elements)) ×
    (l.len ≤ 34 * l.element-index)
