-- Where a walk ends, with a limit of headers and without one: in one way, and after other headers as the walk of the whole slice.
use Rattle.std.proofs.Common.{ℕ, zero, suc, ◌≡◌, ◌+◌, ◌-◌, ◌/◌, ◌<◌, ◌≤◌, ◌==◌, ◌||◌, ◌&&◌, Bool, if◌then◌else◌, IfErr, IfOk, nat_le, nat_lt, List, [], ◌∷◌, ◌++◌, length, get_or, take, drop, refl, sym, ap, ◌∙◌, arith, append_assoc, length-append, length-drop, Ok, Err}
use Rattle.std.specs.List.{concat}
use Rattle.std.specs.Result.{result_map_both}
use Rattle.std.proofs.lemmas.Bool.Decides.{nat_tests}
use Rattle.std.proofs.lemmas.List.{drop_at, get_or_append_left, take_at}
use Rattle.std.proofs.lemmas.List.Folds.{concat-append}
use Rattle.etherparse_base.specs.Ipv6Errors.{chain_error_moved}
use Rattle.etherparse_base.specs.LenError.{len_error_moved}
use Rattle.etherparse_base.specs.declared.err.ipv6.chain_error.ChainError.{ChainError}
use Rattle.etherparse_base.specs.declared.err.ipv6.chain_error.ChainError.TheVariants as chain_error
use Rattle.etherparse_base.specs.declared.err.layer.Layer.TheVariants as layer
use Rattle.etherparse_base.specs.declared.err.len_error.LenError.{LenError}
use Rattle.etherparse_fields.specs.ExtensionHeaders.{IsSkippable}
use Rattle.etherparse.proofs.ExtensionHeaderChain.{SkippedUpTo, begins_after, offset_of, whole_in_front}
use Rattle.etherparse.specs.ExtensionHeaderChain.{BeginsWithChain, Ends, EndsAtLimit, EndsIncomplete, EndsUpTo, IsExtensionHeaderChain, IsOnlyWalkOf, IsWalkAfterChains, IsWalkOf, LimitedWalkAnswer, WalkAnswer, Walks, WalksUpTo, incomplete_header_error, required_len_of}
use Rattle.etherparse.specs.Reading.{too_short_error}

-- the test for a number of a header that can be skipped
abbrev pub is_skippable : ℕ → Bool
is_skippable n = n == 0 || n == 43 || n == 44 || n == 51 || n == 60 || n == 135 || n == 139 || n == 140

-- the headers that a walk skips, at most as many as a limit, the number after them and the rest
walked : ℕ → ℕ → List ℕ → List (List ℕ) × ℕ × List ℕ
walked zero n s = ([], n, s)
walked (suc limit) n s =
    let k = required_len_of n s in
    let later = walked limit (get_or s 0 0) (drop k s) in
    if is_skippable n && nat_le k (length s) then (take k s ∷ later.0, later.1, later.2) else ([], n, s)

-- a chain at the front is what the walk skips if it has as many headers as the limit, or no whole one follows
walked_is : (limit n : ℕ) (ps : List (List ℕ)) (m : ℕ) (r : List ℕ) → IsExtensionHeaderChain n ps m → length ps ≤ limit
    → (IsSkippable m → length ps < limit → length r < required_len_of m r) → walked limit n (concat ps ++ r) ≡ (ps, m, r)
unfolding walked
walked_is zero n [] m r chain within stops = rw chain refl
walked_is zero n (p ∷ ps) m r chain within stops = absurd (omega arith)
walked_is (suc limit) n [] m r chain within stops = rw (← chain) (grind (arith, nat_tests, stops))
walked_is (suc limit) n (p ∷ ps) m r chain within stops =
    let t = concat ps ++ r in
    let (long, len) = whole_in_front n p t chain.0 in
    let others = walked_is limit (get_or p 0 0) ps m r chain.1 (omega arith) (λ h below. stops h (omega arith)) in
    rw (append_assoc p (concat ps) r, ← len, take_at p t _ refl, drop_at p t _ refl, get_or_append_left p t 0 0 (omega arith), others)
    (grind (arith, nat_tests, chain.0.skippable, length-append p t))

-- the answer of a walk with a limit that skips these headers
answer_of : ℕ → List (List ℕ) × ℕ × List ℕ → LimitedWalkAnswer
answer_of limit w =
    let offset = length (concat w.0) in
    if is_skippable w.1 then
    (if nat_lt (length w.0) limit then Err (chain_error.Len (incomplete_header_error w.1 w.2 offset)) else Err (chain_error.TooMany limit w.1 offset))
    else Ok (w.1, w.2)

-- each walk with a limit ends past those headers, with that answer
ends_as_walked : (limit : ℕ) (s : List ℕ) (n : ℕ) (ps : List (List ℕ)) (a : LimitedWalkAnswer) → EndsUpTo limit s n ps a
    → (ps ≡ (walked limit n s).0) × (a ≡ answer_of limit (walked limit n s))
unfolding answer_of
ends_as_walked limit s n ps (Ok x) e =
    let w = walked_is limit n ps x.0 x.1 e.0.0.chain e.1 (λ h below. absurd (e.0.1 h)) in
    rw (e.0.0.whole, w) (refl, grind (arith, nat_tests, e.0.1))
ends_as_walked limit s n ps (Err (chain_error.Len e)) k =
    let w = walked_is limit n ps k.0.last k.0.rest k.0.begins.chain (omega (arith, k.1)) (λ h below. k.0.short) in
    rw (k.0.begins.whole, w) (refl, grind (arith, nat_tests, k.0.skippable, k.0.error, k.1))
ends_as_walked limit s n ps (Err (chain_error.TooMany l x y)) k =
    let w = walked_is limit n ps k.last k.rest k.begins.chain (omega (arith, k.full)) (λ h below. absurd (omega (arith, k.full))) in
    rw (k.begins.whole, w) (refl, grind (arith, nat_tests, k.skippable, k.error, k.full))

-- so it ends in one way
ends_up_to_once : (limit : ℕ) (s : List ℕ) (n : ℕ) (ps qs : List (List ℕ)) (a b : LimitedWalkAnswer)
    → EndsUpTo limit s n ps a → EndsUpTo limit s n qs b → (qs ≡ ps) × (b ≡ a)
ends_up_to_once limit s n ps qs a b e f =
    let p = ends_as_walked limit s n ps a e in
    let q = ends_as_walked limit s n qs b f in
    (q.0 ∙ sym p.0, q.1 ∙ sym p.1)

-- the answer of a walk without a limit as that of one with it
abbrev with_error_in_len : WalkAnswer → LimitedWalkAnswer
with_error_in_len a = result_map_both (λ x. x) (λ e. chain_error.Len e) a

-- a walk without a limit ends as one with a limit above the number of its headers
as_limited : (limit : ℕ) (s : List ℕ) (n : ℕ) (ps : List (List ℕ)) (a : WalkAnswer) → length ps < limit → Ends s n ps a → EndsUpTo limit s n ps (with_error_in_len a)
as_limited limit s n ps (Ok x) few e = (e, omega arith)
as_limited limit s n ps (Err e) few k = (k, few)

-- so it ends in one way too
ends_once : (s : List ℕ) (n : ℕ) (ps qs : List (List ℕ)) (a b : WalkAnswer) → Ends s n ps a → Ends s n qs b → (qs ≡ ps) × (b ≡ a)
ends_once s n ps qs a b e f =
    let limit = length ps + length qs + 1 in
    let same = ends_up_to_once limit s n ps qs _ _ (as_limited limit s n ps a (omega arith) e) (as_limited limit s n qs b (omega arith) f) in
    (same.0, grind arith)

-- the errors that a walk ends with after a chain
incomplete_after : {s : List ℕ} {n m : ℕ} {ps : List (List ℕ)} {r : List ℕ} {e : LenError} → BeginsWithChain s n ps m r → IsSkippable m
    → length r < required_len_of m r → e ≡ incomplete_header_error m r (length (concat ps)) → EndsIncomplete s n ps e
incomplete_after {m = m} {r = r} b skippable short error = record { last = m; rest = r; begins = b; skippable = skippable; short = short; error = error }

pub at_limit_after : {limit : ℕ} {s : List ℕ} {n m : ℕ} {ps : List (List ℕ)} {r : List ℕ} {e : ChainError} → BeginsWithChain s n ps m r → length ps ≡ limit
    → IsSkippable m → e ≡ chain_error.TooMany limit m (length (concat ps)) → EndsAtLimit limit s n ps e
at_limit_after {m = m} {r = r} b full skippable error = record { last = m; rest = r; begins = b; full = full; skippable = skippable; error = error }

-- the offset of headers after others
length-after : {s : List ℕ} {first n : ℕ} {hs : List (List ℕ)} {r : List ℕ} (ps : List (List ℕ)) → BeginsWithChain s first hs n r
    → length (concat ps) + (length s - length r) ≡ length (concat (hs ++ ps))
length-after {hs = hs} {r = r} ps b =
    omega (arith, ap length b.whole, length-append (concat hs) r, ap length (concat-append hs ps), length-append (concat hs) (concat ps))

-- a walk after a chain ends as that of the whole
ends_up_to_after : (limit : ℕ) (s : List ℕ) (first n : ℕ) (hs ps : List (List ℕ)) (r : List ℕ) (a : LimitedWalkAnswer) → BeginsWithChain s first hs n r
    → EndsUpTo limit r n ps a → EndsUpTo (length hs + limit) s first (hs ++ ps) (result_map_both (λ x. x) (chain_error_moved (length hs) (length s - length r)) a)
ends_up_to_after limit s first n hs ps r (Ok x) b e = ((begins_after b e.0.0, e.0.1), omega (arith, length-append hs ps, e.1))
ends_up_to_after limit s first n hs ps r (Err (chain_error.Len e)) b k =
    (incomplete_after (begins_after b k.0.begins) k.0.skippable k.0.short (rw (k.0.error, length-after ps b) refl), omega (arith, length-append hs ps, k.1))
ends_up_to_after limit s first n hs ps r (Err (chain_error.TooMany l x y)) b k =
    at_limit_after (begins_after b k.begins) (omega (arith, length-append hs ps, k.full)) k.skippable (cc (length-after ps b))

ends_after : (s : List ℕ) (first n : ℕ) (hs ps : List (List ℕ)) (r : List ℕ) (a : WalkAnswer) → BeginsWithChain s first hs n r → Ends r n ps a
    → Ends s first (hs ++ ps) (result_map_both (λ x. x) (λ e. len_error_moved (length s - length r) e) a)
ends_after s first n hs ps r (Ok x) b e = (begins_after b e.0, e.1)
ends_after s first n hs ps r (Err e) b k = (ends_up_to_after (length ps + 1) s first n hs ps r (Err (chain_error.Len e)) b (k, omega arith)).0

-- what is left where a walk ends, or the offset of its error, is within the slice
ends_within : (s : List ℕ) (n : ℕ) (ps : List (List ℕ)) (a : WalkAnswer) → Ends s n ps a
    → IfOk a (λ x. length x.1 ≤ length s) × IfErr a (λ e. e.layer_start_offset ≤ length s)
ends_within s n ps (Ok x) e = (omega (arith, ap length e.0.whole, length-append (concat ps) x.1), tt)
ends_within s n ps (Err e) k = (tt, rw k.error (omega (arith, ap length k.begins.whole, length-append (concat ps) k.rest)))

-- what is promised of a walk where it ends
pub is_only_walk_of : (s : List ℕ) (n : ℕ) (a : WalkAnswer) → Walks s n a → IsOnlyWalkOf s n a
is_only_walk_of s n a w =
    let (shorter, within) = ends_within s n w.headers a w.ends in
    record { walks = w; only = λ other o. (ends_once s n w.headers o.headers a other w.ends o.ends).1; shorter = shorter; within = within }

-- after a chain it is the walk of the whole slice
pub walk_follows : (n : ℕ) (r : List ℕ) (a : WalkAnswer) → Walks r n a → IsWalkAfterChains r n a
unfolding IsWalkOf
walk_follows n r a w = λ s first f.
    is_only_walk_of s first _ (record { headers = f.headers ++ w.headers; ends = ends_after s first n f.headers w.headers r a f.begins w.ends })

-- what is promised of a walk, and of its turns
pub record IsCountedWalk (s : List ℕ) (n : ℕ) (a : WalkAnswer) (tested : ℕ) : Type 0 where
  pub walks : IsOnlyWalkOf s n a
  pub follows : IsWalkAfterChains s n a
  pub turns : (headers : List (List ℕ)) → Ends s n headers a → tested ≡ length headers + 1

pub counted_walk : {s : List ℕ} {n offset m skipped : ℕ} (a : WalkAnswer) (u : SkippedUpTo s n offset m skipped) → Ends s n u.headers a
    → IsCountedWalk s n a (skipped + 1)
counted_walk {s = s} {n = n} a u ends =
    let w : Walks s n a = record { headers = u.headers; ends = ends } in
    record {
      walks = is_only_walk_of s n a w;
      follows = walk_follows n s a w;
      turns = λ headers other. omega (arith, u.counted, ap length (ends_once s n u.headers headers a a ends other).0);
    }

-- what is promised of a walk with a limit
pub record IsLimitedWalk (limit : ℕ) (s : List ℕ) (n : ℕ) (a : LimitedWalkAnswer) : Type 0 where
  pub walks : WalksUpTo limit s n a
  pub only : (other : LimitedWalkAnswer) → WalksUpTo limit s n other → other ≡ a
  pub as_without_limit : length s / 8 + 1 ≤ limit → (answer : WalkAnswer) → Walks s n answer → a ≡ with_error_in_len answer
  pub not_too_many : length s / 8 + 1 ≤ limit → IfErr a (λ e. (error : LenError) × (e ≡ chain_error.Len error))
  pub larger : (larger : ℕ) → limit ≤ larger → (answer : WalkAnswer) → a ≡ with_error_in_len answer → WalksUpTo larger s n a
  pub follows : (t : List ℕ) (first : ℕ) (headers : List (List ℕ)) → BeginsWithChain t first headers n s
      → WalksUpTo (length headers + limit) t first (result_map_both (λ x. x) (chain_error_moved (length headers) (length t - length s)) a)

-- below the limit it is the walk without
below_limit : (limit : ℕ) (s : List ℕ) (n : ℕ) (ps : List (List ℕ)) (a : LimitedWalkAnswer) → length ps < limit → EndsUpTo limit s n ps a
    → (answer : WalkAnswer) → Walks s n answer → a ≡ with_error_in_len answer
below_limit limit s n ps (Ok x) few e answer w = ap with_error_in_len (ends_once s n w.headers ps answer (Ok x) w.ends e.0).1
below_limit limit s n ps (Err (chain_error.Len e)) few k answer w = ap with_error_in_len (ends_once s n w.headers ps answer (Err e) w.ends k.0).1
below_limit limit s n ps (Err (chain_error.TooMany l x y)) few k answer w = absurd (omega (arith, k.full))

few_headers : (limit : ℕ) (s : List ℕ) (n : ℕ) (ps : List (List ℕ)) (a : LimitedWalkAnswer) → length ps < limit → EndsUpTo limit s n ps a
    → IfErr a (λ e. (error : LenError) × (e ≡ chain_error.Len error))
few_headers limit s n ps (Ok x) few e = tt
few_headers limit s n ps (Err (chain_error.Len e)) few k = (e, refl)
few_headers limit s n ps (Err (chain_error.TooMany l x y)) few k = absurd (omega (arith, k.full))

-- an answer of the walk without a limit is that of each larger limit
at_larger_limit : (limit larger : ℕ) (s : List ℕ) (n : ℕ) (ps : List (List ℕ)) (answer : WalkAnswer) → limit ≤ larger
    → EndsUpTo limit s n ps (with_error_in_len answer) → EndsUpTo larger s n ps (with_error_in_len answer)
at_larger_limit limit larger s n ps (Ok x) more e = (e.0, omega (arith, e.1))
at_larger_limit limit larger s n ps (Err e) more k = (k.0, omega (arith, k.1))

pub limited_walk : {s : List ℕ} {n offset m skipped : ℕ} (limit : ℕ) (a : LimitedWalkAnswer) (u : SkippedUpTo s n offset m skipped) → EndsUpTo limit s n u.headers a
    → IsLimitedWalk limit s n a
limited_walk {s = s} {n = n} limit a u ends = record {
  walks = record { headers = u.headers; ends = ends };
  only = λ other o. (ends_up_to_once limit s n u.headers o.headers a other ends o.ends).1;
  as_without_limit = λ enough answer w. below_limit limit s n u.headers a (omega (arith, u.counted, u.eighth, u.within)) ends answer w;
  not_too_many = λ enough. few_headers limit s n u.headers a (omega (arith, u.counted, u.eighth, u.within)) ends;
  larger = λ larger more answer is.
      record { headers = u.headers; ends = rw is (at_larger_limit limit larger s n u.headers answer more (rw is at ends)) };
  follows = λ t first headers b.
      record { headers = headers ++ u.headers; ends = ends_up_to_after limit t first n headers u.headers s a b ends };
}

-- a walk ends after what is skipped where too few bytes are left
pub ends_incomplete : {s : List ℕ} {n offset m turns k : ℕ} {e : LenError} (u : SkippedUpTo s n offset m turns) → IsSkippable m
    → k ≡ required_len_of m (drop offset s) → length s - offset < k → e ≡ record (too_short_error layer.Ipv6ExtHeader k (length s - offset)) { layer_start_offset = offset }
    → EndsIncomplete s n u.headers e
ends_incomplete {s = s} {offset = offset} u skippable is short error =
    incomplete_after u.begins skippable (omega (arith, length-drop offset s)) (rw (error, is, length-drop offset s, offset_of u) refl)

-- the walks that skip nothing
pub walk_upper : (n : ℕ) (r : List ℕ) → (IsSkippable n → ⊥) → Walks r n (Ok (n, r))
walk_upper n r upper = record { headers = []; ends = (record { chain = refl; whole = refl }, upper) }

pub walk_short : {n k : ℕ} {r : List ℕ} {e : LenError} → IsSkippable n → k ≡ required_len_of n r → length r < k
    → e ≡ record (too_short_error layer.Ipv6ExtHeader k (length r)) { layer_start_offset = 0 } → Walks r n (Err e)
walk_short {r = r} skippable is short error =
    record { headers = []; ends = incomplete_after {r = r} (record { chain = refl; whole = refl }) skippable (omega arith) (rw (error, is) refl) }
