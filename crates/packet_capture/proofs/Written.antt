-- Texts in std's terms.
use Rattle.std.proofs.Common.{ℕ, ◌≡◌, ◌-◌, List, [], length, arith, append-nil, refl, false}
use Rattle.std.specs.Fmt.{char_count, format_spec, padded_integral}
use Rattle.packet_capture.specs.ErrorText.{zero_padded}

-- digits with leading zeros
pub padded_with_zeros : (width : ℕ) (number : List ℕ) → padded_integral (format_spec 32 0 4 width 18446744073709551615) false [] number ≡ zero_padded width number
unfolding padded_integral char_count
padded_with_zeros width number =
    let none : width - length number - 0 - 0 ≡ width - length number = omega arith in
    rw (none, append-nil) refl
