-- A GRE header that is written has its layout.
use Rattle.std.proofs.Common.{ℕ, ◌<◌, ◌^◌, Some, None, Option, IfSome, rules}
use Rattle.std.proofs.lemmas.Nat.{from_be_bytes-to_be_bytes_2, from_be_bytes-to_be_bytes_4}
use Rattle.etherparse.specs.Bytes.{IsBytes}
use Rattle.uses.specs.Gre.{IsGreLayout, gre_bytes}
use Rattle.uses.specs.declared.gre.GreHeader.{GreHeader}

abbrev pub made : ℕ → Option ℕ → Option ℕ → Option ℕ → GreHeader
made p c k n = record { protocol_type = p; checksum = c; key = k; sequence_number = n }

pub written : (p : ℕ) (c k n : Option ℕ) → p < 2 ^ 16 → IfSome c (λ x. x < 2 ^ 16) → IfSome k (λ x. x < 2 ^ 32) → IfSome n (λ x. x < 2 ^ 32)
    → IsBytes (gre_bytes (made p c k n)) → IsGreLayout (made p c k n) (gre_bytes (made p c k n))
written p None None None fp fc fk fn bytes = search (rules, from_be_bytes-to_be_bytes_2, from_be_bytes-to_be_bytes_4)
written p None None (Some n) fp fc fk fn bytes = search (rules, from_be_bytes-to_be_bytes_2, from_be_bytes-to_be_bytes_4)
written p None (Some k) None fp fc fk fn bytes = search (rules, from_be_bytes-to_be_bytes_2, from_be_bytes-to_be_bytes_4)
written p None (Some k) (Some n) fp fc fk fn bytes = search (rules, from_be_bytes-to_be_bytes_2, from_be_bytes-to_be_bytes_4)
written p (Some c) None None fp fc fk fn bytes = search (rules, from_be_bytes-to_be_bytes_2, from_be_bytes-to_be_bytes_4)
written p (Some c) None (Some n) fp fc fk fn bytes = search (rules, from_be_bytes-to_be_bytes_2, from_be_bytes-to_be_bytes_4)
written p (Some c) (Some k) None fp fc fk fn bytes = search (rules, from_be_bytes-to_be_bytes_2, from_be_bytes-to_be_bytes_4)
written p (Some c) (Some k) (Some n) fp fc fk fn bytes = search (rules, from_be_bytes-to_be_bytes_2, from_be_bytes-to_be_bytes_4)
