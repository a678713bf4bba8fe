use Rattle.std.proofs.Common.{◌≡◌, Bool, subst, sym}
use Rattle.std.specs.Prelude.{◌↔◌, IsTrue}
use Rattle.packet_parts.specs.IpSlice.{ip_parts}
use Rattle.packet_parts.specs.declared.ip_slice.LaxIpSlice.{LaxIpSlice}
use Rattle.packet_parts.proofs.Equality.{both_eq, ip_eq, ip_error_eq, present_eq}
use Rattle.packet_parts.proofs.laws.lax_ip_slice_equality.Goals as goal

pub returns : goal.returns
returns c =
    let a : LaxIpSlice = c.args.a.now in let b : LaxIpSlice = c.args.b.now in
    record {
      same_parts = subst (λ (r : Bool). IsTrue r ↔ (ip_parts a.slice ≡ ip_parts b.slice) × (a.stop ≡ b.stop)) (sym c.eq.ensures)
          (both_eq _ _ (ip_eq a.slice b.slice) (present_eq _ ip_error_eq a.stop b.stop));
    }
