use Rattle.std.proofs.Common.{◌≡◌, Bool, ap, false, refl, subst, sym, true}
use Rattle.std.specs.Prelude.{◌↔◌, IsTrue}
use Rattle.packet_parts.proofs.Equality.{ip_error_eq}
use Rattle.packet_rewriting.specs.contracts.fields.RewriteErrorPartialEq.TheImpl as derived
use Rattle.packet_rewriting.specs.declared.fields.RewriteError.{RewriteError}
use Rattle.packet_rewriting.specs.declared.fields.RewriteError.TheVariants as error
use Rattle.packet_rewriting.proofs.laws.rewrite_error_equality.Goals as goal

not_true : false ≡ true → ⊥
not_true e = cc

same_error : (a b : RewriteError) → IsTrue ((derived.ghosts).eq a b) ↔ (a ≡ b)
same_error (error.Ip e) (error.Ip f) = (λ h. ap error.Ip ((ip_error_eq e f).0 h), λ h. (ip_error_eq e f).1 cc)
same_error error.OtherVersion error.OtherVersion = (λ h. refl, λ h. refl)
same_error error.Incomplete error.Incomplete = (λ h. refl, λ h. refl)
same_error error.LaterFragment error.LaterFragment = (λ h. refl, λ h. refl)
same_error error.OtherProtocol error.OtherProtocol = (λ h. refl, λ h. refl)
same_error _ _ = (λ h. absurd (not_true h), λ same. cc)

pub returns : goal.returns
returns c = record { same_value = subst (λ (r : Bool). IsTrue r ↔ (c.args.a.now ≡ c.args.b.now)) (sym c.eq.ensures) (same_error c.args.a.now c.args.b.now) }
