-- What becomes of an address over extension headers is one address, of 16 bytes.
use Rattle.std.proofs.Common.{ℕ, take, ◌≡◌, ◌∙◌, ◌≤◌, ◌-◌, List, None, Ok, Option, Result, Some, ap, arith, drop, length, length-drop, refl, slice_index, subst, sym}
use Rattle.std.proofs.lemmas.Bool.{false≢true}
use Rattle.std.proofs.lemmas.Grind.{common_steps}
use Rattle.std.proofs.lemmas.Result.{IfOk-at_ok}
use Rattle.etherparse.specs.ExtensionHeaderChain.{required_len_of}
use Rattle.packet_parts.specs.CoveredAddresses.{FollowsIpv6, is_hidden, is_incomplete, is_lost, passes, stays}

-- a header leaves one address
abbrev pub LeavesOne : (List ℕ → ℕ → List ℕ → Option (List ℕ) → Type 0) → Type 0
LeavesOne Leaves = (d : List ℕ) (n : ℕ) (h : List ℕ) (a b : Option (List ℕ)) → Leaves d n h a → Leaves d n h b → a ≡ b

pub followed_once : (Leaves : List ℕ → ℕ → List ℕ → Option (List ℕ) → Type 0) → LeavesOne Leaves
    → (d : List ℕ) (n : ℕ) (s : List ℕ) (a b : Option (List ℕ)) → FollowsIpv6 Leaves d n s a → FollowsIpv6 Leaves d n s b → a ≡ b
followed_once L one d n s a b (stays _) (stays _) = refl
followed_once L one d n s a b (is_hidden _ _ _) (is_hidden _ _ _) = refl
followed_once L one d n s a b (is_hidden _ _ _) (is_lost _ _ _) = refl
followed_once L one d n s a b (is_hidden _ _ _) (is_incomplete _ _) = refl
followed_once L one d n s a b (is_lost _ _ _) (is_hidden _ _ _) = refl
followed_once L one d n s a b (is_lost _ _ _) (is_lost _ _ _) = refl
followed_once L one d n s a b (is_lost _ _ _) (is_incomplete _ _) = refl
followed_once L one d n s a b (is_incomplete _ _) (is_hidden _ _ _) = refl
followed_once L one d n s a b (is_incomplete _ _) (is_lost _ _ _) = refl
followed_once L one d n s a b (is_incomplete _ _) (is_incomplete _ _) = refl
followed_once L one d n s a b (stays other) (passes skippable _ _ _ _) = absurd (other skippable)
followed_once L one d n s a b (stays other) (is_hidden skippable _ _) = absurd (other skippable)
followed_once L one d n s a b (stays other) (is_lost skippable _ _) = absurd (other skippable)
followed_once L one d n s a b (stays other) (is_incomplete skippable _) = absurd (other skippable)
followed_once L one d n s a b (passes skippable _ _ _ _) (stays other) = absurd (other skippable)
followed_once L one d n s a b (is_hidden skippable _ _) (stays other) = absurd (other skippable)
followed_once L one d n s a b (is_lost skippable _ _) (stays other) = absurd (other skippable)
followed_once L one d n s a b (is_incomplete skippable _) (stays other) = absurd (other skippable)
followed_once L one d n s a b (passes {next = x} _ _ _ e g) (passes {next = y} _ _ _ f h) =
    let k = required_len_of n s in
    let equal = one d n (take k s) (Some x) (Some y) e f in
    let same : x ≡ y = cc in
    followed_once L one y (slice_index s 0) (drop k s) a b (subst (λ z. FollowsIpv6 L z (slice_index s 0) (drop k s) a) same g) h
followed_once L one d n s a b (passes _ _ shown _ _) (is_hidden _ _ hidden) = absurd (false≢true (sym shown ∙ hidden))
followed_once L one d n s a b (is_hidden _ _ hidden) (passes _ _ shown _ _) = absurd (false≢true (sym shown ∙ hidden))
followed_once L one d n s a b (passes {next = x} _ _ _ e g) (is_lost _ _ f) =
    let equal = one d n (take (required_len_of n s) s) (Some x) None e f in cc
followed_once L one d n s a b (is_lost _ _ e) (passes {next = x} _ _ _ f h) =
    let equal = one d n (take (required_len_of n s) s) None (Some x) e f in cc
followed_once L one d n s a b (passes _ enough _ _ _) (is_incomplete _ short) = absurd (omega (arith, enough, short))
followed_once L one d n s a b (is_incomplete _ short) (passes _ enough _ _ _) = absurd (omega (arith, enough, short))

-- if a header leaves a known address, it does so whatever came before
abbrev pub LeavesSome : (List ℕ → ℕ → List ℕ → Option (List ℕ) → Type 0) → Type 0
LeavesSome Leaves = (d e : List ℕ) (n : ℕ) (h x : List ℕ) → Leaves d n h (Some x) → Leaves e n h None → ⊥

pub followed_known : (Leaves : List ℕ → ℕ → List ℕ → Option (List ℕ) → Type 0) → LeavesSome Leaves
    → (d e : List ℕ) (n : ℕ) (s a : List ℕ) → FollowsIpv6 Leaves d n s (Some a) → FollowsIpv6 Leaves e n s None → ⊥
followed_known L some d e n s a (stays other) (passes skippable _ _ _ _) = other skippable
followed_known L some d e n s a (stays other) (is_hidden skippable _ _) = other skippable
followed_known L some d e n s a (stays other) (is_lost skippable _ _) = other skippable
followed_known L some d e n s a (stays other) (is_incomplete skippable _) = other skippable
followed_known L some d e n s a (passes {next = x} _ _ _ p g) (passes {next = y} _ _ _ q h) = followed_known L some x y (slice_index s 0) (drop (required_len_of n s) s) a g h
followed_known L some d e n s a (passes _ _ shown _ _) (is_hidden _ _ hidden) = false≢true (sym shown ∙ hidden)
followed_known L some d e n s a (passes {next = x} _ _ _ p g) (is_lost _ _ q) = some d e n (take (required_len_of n s) s) x p q
followed_known L some d e n s a (passes _ enough _ _ _) (is_incomplete _ short) = omega (arith, enough, short)

-- a header has at least 8 bytes
pub at_least_8 : (n : ℕ) (s : List ℕ) → required_len_of n s ≤ length s → 8 ≤ required_len_of n s
at_least_8 n s enough = grind (arith, common_steps)

-- what a skip passes is the header
pub as_passed : {E : Type 0} (n next : ℕ) (s after : List ℕ) → required_len_of n s ≤ length s
    → ◌≡◌ {A = Result (ℕ × List ℕ) E} (Ok (next, after)) (Ok (slice_index s 0, drop (required_len_of n s) s))
    → (next ≡ slice_index s 0) × (after ≡ drop (required_len_of n s) s) × (length s - length after ≡ required_len_of n s)
as_passed n next s after enough skipped =
    let same = IfOk-at_ok (λ x. (x.0 ≡ slice_index s 0) × (x.1 ≡ drop (required_len_of n s) s)) (sym skipped) (refl, refl) in
    (same.0, same.1, omega (arith, ap length same.1, length-drop (required_len_of n s) s, enough))

-- an address of 16 bytes stays one
abbrev pub LeavesLen : (List ℕ → ℕ → List ℕ → Option (List ℕ) → Type 0) → Type 0
LeavesLen Leaves = (d : List ℕ) (n : ℕ) (h x : List ℕ) → length d ≡ 16 → Leaves d n h (Some x) → length x ≡ 16

pub followed_len : (Leaves : List ℕ → ℕ → List ℕ → Option (List ℕ) → Type 0) → LeavesLen Leaves
    → (d : List ℕ) (n : ℕ) (s f : List ℕ) → length d ≡ 16 → FollowsIpv6 Leaves d n s (Some f) → length f ≡ 16
followed_len L keeps d n s f len (stays _) = len
followed_len L keeps d n s f len (passes {next = x} _ _ _ e g) =
    let k = required_len_of n s in followed_len L keeps x (slice_index s 0) (drop k s) f (keeps d n (take k s) x len e) g
