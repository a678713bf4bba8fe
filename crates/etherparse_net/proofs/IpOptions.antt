-- Options of either version of IP are listed in one way.
use Rattle.std.proofs.Common.{ℕ, ◌≡◌, ◌∙◌, ◌≤◌, List, [], ◌∷◌, ◌++◌, length, refl, sym, ap, arith}
use Rattle.std.proofs.Common.{slice_index, append-nil, Ok, Err, Result, ◌<◌, ◌⊎◌, inl, inr, zero, suc}
use Rattle.std.proofs.Common.{Bool, drop, false, length-append, length-take, nat_le, take, true}
use Rattle.std.proofs.lemmas.List.{take-append-drop}
use Rattle.std.specs.List.{concat}
use Rattle.std.proofs.lemmas.Bool.Decides.{nat_tests}
use Rattle.std.proofs.lemmas.Grind.{common_steps}
use Rattle.etherparse_net.proofs.OptionLists.{TellsOptions, one_more, only_listing}
use Rattle.etherparse_net.specs.Ipv4Options.{BeginsWithIpv4Options, EndsIpv4Options, IsIpv4Option}
use Rattle.etherparse_net.specs.Ipv4Options.{IsOnlyIpv4Listing, RefusesIpv4Option, cut_off_error}
use Rattle.etherparse_net.specs.Ipv6OptionWriting.{ipv6_option_bytes, ipv6_option_max_data_len}
use Rattle.etherparse_net.specs.Ipv6Options.{BeginsWithIpv6Options, EndsIpv6Options, IsIpv6Option}
use Rattle.etherparse_net.specs.Ipv6Options.{IsOnlyIpv6Listing, ListsIpv6Options, RefusesIpv6Option}
use Rattle.etherparse_net.specs.declared.err.ipv4_option_error.Ipv4OptionError.{Ipv4OptionError}
use Rattle.etherparse_net.specs.declared.err.ipv4_option_error.Ipv4OptionError.TheVariants as error

abbrev first_byte : List ℕ → ℕ
first_byte s = slice_index s 0

abbrev second_byte : List ℕ → ℕ
second_byte s = slice_index s 1

pub tells_ipv6_options : TellsOptions IsIpv6Option EndsIpv6Options RefusesIpv6Option
tells_ipv6_options = record {
  one_length = λ o p x y k l e. grind (
    arith,
    common_steps,
    k.len,
    l.len,
    ap first_byte e,
    ap second_byte e,
  );
  not_end = λ o x s k e f. grind (arith, common_steps, k.len, ap length e, ap length f);
  not_refused = λ o x s place e k w r. grind (
    arith,
    common_steps,
    k.len,
    r.short,
    ap length w,
    ap first_byte w,
    ap second_byte w,
  );
  end_not_refused = λ s place e f r. r.some f;
  one_refusal = λ s place e f p q. grind (arith, p.error, q.error);
}

pub tells_ipv4_options : TellsOptions IsIpv4Option EndsIpv4Options RefusesIpv4Option
tells_ipv4_options = record {
  one_length = λ o p x y k l e. grind (arith, common_steps, ap first_byte e, ap second_byte e);
  not_end = λ o x s k e f. grind (arith, common_steps, ap length e, ap first_byte e);
  not_refused = λ o x s place e k w r. grind (
    arith,
    common_steps,
    ap length w,
    ap first_byte w,
    ap second_byte w,
  );
  end_not_refused = λ s place e f r. grind (arith, common_steps);
  one_refusal = λ s place e f p q. grind arith;
}

-- what is written for an option is one
written_is_option : (t : ℕ) (xs : List ℕ) → length xs ≤ ipv6_option_max_data_len t
    → IsIpv6Option (ipv6_option_bytes t xs)
written_is_option t xs fits = record { len = grind (arith, common_steps, nat_tests) }

-- after the options before it
pub written_again : (t : ℕ) (xs before after : List ℕ) (os : List (List ℕ))
    → length xs ≤ ipv6_option_max_data_len t → after ≡ before ++ ipv6_option_bytes t xs
    → ListsIpv6Options before os (Ok [])
    → IsOnlyIpv6Listing after (os ++ ipv6_option_bytes t xs ∷ []) (Ok [])
written_again t xs before after os fits is l =
    let o = ipv6_option_bytes t xs in
    let begins : BeginsWithIpv6Options after os o =
    record {
      are_options = l.0.are_options;
      whole = is
          ∙ ap (λ x. x ++ o) (l.0.whole ∙ append-nil (concat os));
    } in
    only_listing IsIpv6Option EndsIpv6Options RefusesIpv6Option tells_ipv6_options after
    (os ++ o ∷ []) (Ok []) (
      one_more IsIpv6Option after os o o [] begins (written_is_option t xs fits)
          (sym (append-nil o)),
      refl,
    )

-- What stands at the front of some bytes: the end of the options of IPv4; or what is refused, at any
-- place; or an option.
abbrev IsFront : List ℕ → Type 0
IsFront s = EndsIpv4Options s
    ⊎ (((place : ℕ) → (e : Ipv4OptionError) × RefusesIpv4Option place s e)
    ⊎ ((o : List ℕ) × (rest : List ℕ) × IsIpv4Option o × (s ≡ o ++ rest) × (1 ≤ length o)))

with_length : (k l : ℕ) (s : List ℕ) (fits : Bool) → nat_le l (length s) ≡ fits
    → IsFront (suc (suc k) ∷ suc (suc l) ∷ s)
with_length k l s false is =
    let short : length s < l = grind (arith, nat_tests, is) in
    let bytes = suc (suc k) ∷ suc (suc l) ∷ s in
    inr (inl (λ place. (
      error.Incomplete (cut_off_error place bytes (suc (suc l))),
      (
        record { is_option = λ e. omega (arith, e); not_alone = λ e. omega (arith, e) },
        inr (omega arith, omega arith, omega (arith, short), refl),
      ),
    )))
with_length k l s true is =
    let enough : l ≤ length s = grind (arith, nat_tests, is) in
    let o = suc (suc k) ∷ suc (suc l) ∷ take l s in
    let len : length o ≡ suc (suc l) = omega (arith, enough, length-take l s) in
    inr (inr (
      o,
      drop l s,
      record {
        is_option = λ e. omega (arith, e);
        alone = λ e. absurd (omega (arith, e));
        counted = λ _. len;
        counts_both = λ _. omega (arith, len);
      },
      ap (λ t. suc (suc k) ∷ suc (suc l) ∷ t) (sym (take-append-drop l s)),
      omega (arith, len),
    ))

below_two : (k l : ℕ) (s : List ℕ) → l < 2 → IsFront (suc (suc k) ∷ l ∷ s)
below_two k l s below = inr (inl (λ place. (
  error.LengthBelowTwo (suc (suc k)) l place,
  (
    record { is_option = λ e. omega (arith, e); not_alone = λ e. omega (arith, e) },
    omega arith,
    below,
    refl,
    refl,
    refl,
  ),
)))

front : (s : List ℕ) → IsFront s
front [] = inl (inl refl)
front (zero ∷ s) = inl (inr (omega arith, refl))
front (suc zero ∷ s) = inr (inr (
  1 ∷ [],
  s,
  record {
    is_option = λ e. omega (arith, e);
    alone = λ _. refl;
    counted = λ other. absurd (other refl);
    counts_both = λ other. absurd (other refl);
  },
  refl,
  omega arith,
))
front (suc (suc k) ∷ []) = inr (inl (λ place. (
  error.Incomplete (cut_off_error place (suc (suc k) ∷ []) 2),
  (
    record { is_option = λ e. omega (arith, e); not_alone = λ e. omega (arith, e) },
    inl (refl, refl),
  ),
)))
front (suc (suc k) ∷ zero ∷ s) = below_two k 0 s (omega arith)
front (suc (suc k) ∷ suc zero ∷ s) = below_two k 1 s (omega arith)
front (suc (suc k) ∷ suc (suc l) ∷ s) = with_length k l s (nat_le l (length s)) refl

-- all bytes are listed, in one way
abbrev IsListed : List ℕ → Type 0
IsListed s = (options : List (List ℕ)) × (end : Result (List ℕ) Ipv4OptionError)
    × IsOnlyIpv4Listing s options end

listed : (n : ℕ) (s r : List ℕ) (os : List (List ℕ)) → length r ≤ n → BeginsWithIpv4Options s os r
    → IsFront r → IsListed s
listed n s r os fits begins (inl end) = (
  os,
  Ok r,
  only_listing IsIpv4Option EndsIpv4Options RefusesIpv4Option tells_ipv4_options s os (Ok r)
      (begins, end),
)
listed n s r os fits begins (inr (inl refused)) =
    let e = refused (length (concat os)) in (
      os,
      Err e.0,
      only_listing IsIpv4Option EndsIpv4Options RefusesIpv4Option tells_ipv4_options s os (Err e.0)
          (r, begins, e.1),
    )
listed zero s r os fits begins (inr (inr (o, rest, is, e, some))) =
    absurd (omega (arith, fits, ap length e, length-append o rest, some))
listed (suc n) s r os fits begins (inr (inr (o, rest, is, e, some))) =
    listed n s rest (os ++ o ∷ []) (omega (arith, fits, ap length e, length-append o rest, some))
    (one_more IsIpv4Option s os o r rest begins is e) (front rest)

pub ipv4_options_listed : (s : List ℕ) → IsListed s
ipv4_options_listed s =
    listed (length s) s s [] (omega arith) (record { are_options = tt; whole = refl }) (front s)
