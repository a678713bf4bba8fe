-- Quotients by powers of ten and of two.
use Rattle.std.proofs.Common.{ℕ, ◌≡◌, ◌+◌, ◌-◌, ◌*◌, ◌/◌, ◌%◌, ◌^◌, ◌<◌, ◌≤◌, ap, arith, lit<, sym, ◌∙◌}
use Rattle.std.proofs.Math.Nat.{mod-eq_of_lt, div-eq_of_lt, mul-div_cancel, mul-div-mul_right, pow-le-pow_right, one-le-pow, mul_assoc}
use Rattle.std.proofs.lemmas.Nat.{div_below, pow_below, pow-add}

pub power_of_ten_positive : (power : ℕ) → 0 < 10 ^ power
power_of_ten_positive power = one-le-pow power 10 (lit< tt)

pub power_of_ten_fits : (power : ℕ) → power < 20 → 10 ^ power < 2 ^ 64
power_of_ten_fits power h =
    let order : power ≤ 19 = omega arith in
    let most : 10 ^ power ≤ 10 ^ 19 = pow-le-pow_right (lit< tt) order in
    omega (arith, most)

pub power_of_ten_above : (power n : ℕ) → 20 ≤ power → n < 2 ^ 64 → n < 10 ^ power
power_of_ten_above power n h below =
    let least : 10 ^ 20 ≤ 10 ^ power = pow-le-pow_right (lit< tt) h in
    omega (arith, least)

-- a part of a second has fewer nanoseconds than a second
pub nanoseconds_below : (part units : ℕ) → part < units → part * 10 ^ 9 / units < 10 ^ 9
nanoseconds_below part units below = div_below (part * 10 ^ 9) units (10 ^ 9) (omega arith) (omega arith)

-- units that are no shorter than a nanosecond
pub nanoseconds_of_long : (part power : ℕ) → power < 10 → part * 10 ^ 9 / 10 ^ power ≡ part * 10 ^ (9 - power)
nanoseconds_of_long part power h =
    let exponents : 9 ≡ (9 - power) + power = omega arith in
    let whole : 10 ^ 9 ≡ 10 ^ (9 - power) * 10 ^ power = ap (λ n. 10 ^ n) exponents ∙ pow-add 10 (9 - power) power in
    ap (λ n. part * n / 10 ^ power) whole ∙ ap (λ n. n / 10 ^ power) (sym (mul_assoc part (10 ^ (9 - power)) (10 ^ power))) ∙ mul-div_cancel (part * 10 ^ (9 - power)) (power_of_ten_positive power)

-- units that are no longer than a nanosecond
pub nanoseconds_of_short : (part power : ℕ) → 9 ≤ power → part * 10 ^ 9 / 10 ^ power ≡ part / 10 ^ (power - 9)
nanoseconds_of_short part power h =
    let exponents : power ≡ (power - 9) + 9 = omega arith in
    let whole : 10 ^ power ≡ 10 ^ (power - 9) * 10 ^ 9 = ap (λ n. 10 ^ n) exponents ∙ pow-add 10 (power - 9) 9 in
    ap (λ n. part * 10 ^ 9 / n) whole ∙ mul-div-mul_right part (10 ^ (power - 9)) (lit< tt)

-- units of which a nanosecond has more than 64 bits can count
pub nanoseconds_of_shortest : (part power : ℕ) → part < 2 ^ 64 → 29 ≤ power → 0 ≡ part * 10 ^ 9 / 10 ^ power
nanoseconds_of_shortest part power fits h =
    let order : 20 ≤ power - 9 = omega arith in
    let short : 9 ≤ power = omega arith in
    sym (nanoseconds_of_short part power short ∙ div-eq_of_lt (power_of_ten_above (power - 9) part order fits))

pub power_of_two_above : (power n : ℕ) → 128 ≤ power → n < 2 ^ 128 → n < 2 ^ power
power_of_two_above power n h below =
    let least : 2 ^ 128 ≤ 2 ^ power = pow-le-pow_right (lit< tt) h in
    omega (arith, least)

pub nanoseconds_in_power_above : (part power : ℕ) → part < 2 ^ 64 → 128 ≤ power → 0 ≡ part % 2 ^ power * 10 ^ 9 / 2 ^ power
nanoseconds_in_power_above part power fits h =
    let below : part < 2 ^ power = power_of_two_above power part h (omega arith) in
    sym (ap (λ n. n * 10 ^ 9 / 2 ^ power) (mod-eq_of_lt below) ∙ div-eq_of_lt (power_of_two_above power (part * 10 ^ 9) h (omega arith)))

pub power_of_two_fits : (power : ℕ) → power < 64 → 2 ^ power < 2 ^ 64
power_of_two_fits power h = pow_below power 64 h

pub two_does_not_fit : (power : ℕ) → 64 ≤ power → 2 ^ 64 ≤ 2 ^ power
two_does_not_fit power h = pow-le-pow_right (lit< tt) h

pub ten_does_not_fit : (power : ℕ) → 20 ≤ power → 2 ^ 64 ≤ 10 ^ power
ten_does_not_fit power h =
    let least : 10 ^ 20 ≤ 10 ^ power = pow-le-pow_right (lit< tt) h in
    omega (arith, least)
