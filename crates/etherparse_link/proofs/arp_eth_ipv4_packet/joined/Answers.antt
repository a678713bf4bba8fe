use Rattle.std.proofs.Common.{sym}
use Rattle.etherparse.proofs.Parts.{same_append, spread}
use Rattle.etherparse_link.proofs.arp_eth_ipv4_packet.joined.Goals as goal

pub returns-clause-parts : goal.returns-clause-parts
returns-clause-parts c = sym (same_append
    (spread c.args.front.now 8 c.requires.front_len)
    (same_append (spread c.args.sender_mac.now 6 c.requires.sender_mac_len)
    (same_append (spread c.args.sender_ipv4.now 4 c.requires.sender_ipv4_len)
    (same_append (spread c.args.target_mac.now 6 c.requires.target_mac_len)
    (spread c.args.target_ipv4.now 4 c.requires.target_ipv4_len)))))
