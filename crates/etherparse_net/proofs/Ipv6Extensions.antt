-- One whole extension header at the front of a slice.
use Rattle.std.proofs.Common.{ℕ, ◌≡◌, ◌+◌, ◌-◌, ◌≤◌, List, ◌++◌, length, take, drop, refl, sym, ap}
use Rattle.std.proofs.Common.{arith, slice_index, take-append-drop, length-drop, length-take}
use Rattle.std.proofs.Common.{Result, Ok, Err}
use Rattle.std.proofs.lemmas.Result.{IfOk-at_ok}
use Rattle.std.proofs.lemmas.Grind.{common_steps}
use Rattle.etherparse.specs.ExtensionHeaderChain.{IsExtensionHeader, IsWalkOf, extension_header_len}
use Rattle.etherparse.specs.ExtensionHeaderChain.{required_len_of}
use Rattle.etherparse.specs.LenError.{len_error_moved}
use Rattle.etherparse.specs.declared.err.LenError.{LenError}
use Rattle.etherparse.specs.ExtensionHeaders.{IsSkippable}

-- it has two bytes, and as many as they say
whole_len : (n : ℕ) (s : List ℕ) → required_len_of n s ≤ length s
    → (2 ≤ length s) × (required_len_of n s ≡ extension_header_len n (slice_index s 1)) ×
    (8 ≤ required_len_of n s)
whole_len n s enough = grind (arith, common_steps)

-- its bytes are those of one header
whole_header : (n : ℕ) (s : List ℕ) → IsSkippable n → required_len_of n s ≤ length s
    → IsExtensionHeader n (take (required_len_of n s) s)
whole_header n s skippable enough =
    let told = whole_len n s enough in
    let second : slice_index (take (required_len_of n s) s) 1 ≡ slice_index s 1 =
    grind (arith, common_steps) in
    record { skippable = skippable; len = rw (second, length-take) (omega arith) }

-- what a skip passes is one whole header, and the rest follows it
pub passed_header : {E : Type 0} (n next : ℕ) (s after : List ℕ) → IsSkippable n
    → required_len_of n s ≤ length s
    → ◌≡◌ {A = Result (ℕ × List ℕ) E} (Ok (next, after))
    (Ok (slice_index s 0, drop (required_len_of n s) s))
    → IsExtensionHeader n (take (length s - length after) s)
    × (s ≡ take (length s - length after) s ++ after)
passed_header n next s after skippable enough skipped =
    let k = required_len_of n s in
    let same : after ≡ drop k s = IfOk-at_ok (λ x. x.1 ≡ drop k s) (sym skipped) refl in
    let passed : length s - length after ≡ k = omega (arith, ap length same, length-drop k s) in
    let whole : s ≡ take k s ++ after = rw same (sym (take-append-drop k s)) in
    (rw passed (whole_header n s skippable enough), rw passed whole)

-- a walk that ends further on
pub moved_walk : (s : List ℕ) (first offset left : ℕ) (e f : LenError) → offset + left ≡ length s
    → f ≡ len_error_moved offset e → IsWalkOf s first (Err (len_error_moved (length s - left) e))
    → IsWalkOf s first (Err f)
moved_walk s first offset left e f at moved walk =
    let place : length s - left ≡ offset = omega (arith, at) in rw moved (rw place at walk)
