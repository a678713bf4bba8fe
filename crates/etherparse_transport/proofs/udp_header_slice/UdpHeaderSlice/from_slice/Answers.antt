use Rattle.etherparse.proofs.Fronts.{fixed_tells, viewed_once}
use Rattle.etherparse.specs.Reading.{IsTooShort}
use Rattle.etherparse.specs.declared.err.Layer.TheVariants as layer
use Rattle.etherparse_transport.proofs.UdpLayout.{front_viewed, same_header}
use Rattle.etherparse_transport.specs.Udp.{IsUdpLayout}
use Rattle.etherparse_transport.proofs.udp_header_slice.UdpHeaderSlice.from_slice.Goals as goal
use Rattle.std.proofs.Common.{arith}
use Rattle.std.proofs.lemmas.Grind.{common_steps}

pub returns : goal.returns
returns c =
    let views = front_viewed c.args.slice.now (omega arith)
    (λ i. omega (arith, c.type_inv.slice i)) in
    record {
      views = views;
      only = λ other o. viewed_once IsUdpLayout (IsTooShort layer.UdpHeader 8)
          (fixed_tells IsUdpLayout layer.UdpHeader 8 same_header (λ h p l. l.len)) _ other _ o
          views;
    }

pub invariant_of-result : goal.invariant_of-result
invariant_of-result c = record {
  len = grind (arith, common_steps);
  are_bytes = λ i. grind (arith, common_steps, c.type_inv.slice i);
}
